use Rattle.mode_model.specs.PrintedFile.{printed_file}
use Rattle.sdc_print.specs.Added.{added}
use Rattle.sdc_print.proofs.AddedFacts.{kept_bytes}
use Rattle.sdc_print.proofs.printing.print.Goals as goal

pub unreachable-requires : goal.unreachable-requires
unfolding added
unreachable-requires c = cc (c.in_ok-push_file.ensures.adds, c.in-Count.is)

pub returns : goal.returns
returns c =
    kept_bytes c.push_file.new.out c.new.result c.in-Bytes.bytes (printed_file c.args.design.now c.args.mode.now)
    c.new.ensures c.in_ok-push_file.ensures.adds c.in-Bytes.is
