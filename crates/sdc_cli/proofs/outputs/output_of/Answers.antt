use Rattle.sdc_cli.proofs.MergedModes.{printable_have_times}
use Rattle.sdc_cli.proofs.outputs.output_of.Goals as goal

pub report_text-requires-clause-timed : goal.report_text-requires-clause-timed
report_text-requires-clause-timed c = rw c.as_slice-in-Edges.ensures (printable_have_times c.args.modes.now c.requires.printable)
