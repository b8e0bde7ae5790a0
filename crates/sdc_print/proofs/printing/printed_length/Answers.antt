use Rattle.std.proofs.Common.{◌≤◌, ◌^◌, arith, zero-add, length}
use Rattle.mode_model.specs.PrintedFile.{printed_file}
use Rattle.sdc_print.specs.Added.{added, Overflows}
use Rattle.sdc_print.proofs.AddedFacts.{refused}
use Rattle.sdc_print.proofs.printing.printed_length.Goals as goal

pub unreachable-requires : goal.unreachable-requires
unfolding added
unreachable-requires c = cc (c.in_ok-push_file.ensures.adds, c.in-Bytes.is)

pub returns-clause-counts : goal.returns-clause-counts
unfolding added
returns-clause-counts c = cc (c.in_ok-push_file.ensures.adds, c.in-Count.is, zero-add (length (printed_file c.args.design.now c.args.mode.now)))

pub returns-in_err-push_file-clause-limit : goal.returns-in_err-push_file-clause-limit
unfolding added Overflows
returns-in_err-push_file-clause-limit c =
    let past : 2 ^ 64 ≤ length (printed_file c.args.design.now c.args.mode.now) = omega (arith, c.in_err-push_file.ensures.limit) in
    refused _ past
