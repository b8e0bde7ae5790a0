use Rattle.std.proofs.Common.{Ok}
use Rattle.sdc_base.specs.Channels.{Creates, WritesAll}
use Rattle.sdc_base.specs.declared.outside.Channel.TheVariants.{Report, Merged}
use Rattle.sdc_cli.proofs.BothWritten.{both_written}
use Rattle.sdc_cli.proofs.tool.write_both.Goals as goal

pub returns-clause-writes : goal.returns-clause-writes
returns-clause-writes g c =
    let contents = g.O.Outputs.contents in
    let creates : Creates c.args.out.now (Ok tt) (contents c.args.outputs.now) (contents c.create.new.self) = rw c.as_str.ensures at c.in_ok-create.ensures.creates in
    let merged : WritesAll Merged c.args.output.now.merged (Ok tt) (contents c.create.new.self) (contents c.write_all.new.outputs) = rw c.as_slice.ensures at c.in_ok-write_all.ensures.writes in
    let report : WritesAll Report c.args.output.now.report c.write_all-2.result (contents c.write_all.new.outputs) (contents c.write_all-2.new.outputs) = rw c.as_slice-2.ensures at c.write_all-2.ensures.writes in
    both_written _ _ _ _ _ _ _ creates merged report
