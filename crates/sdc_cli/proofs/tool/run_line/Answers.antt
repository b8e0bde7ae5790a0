use Rattle.std.proofs.Common.{Some}
use Rattle.sdc_model.specs.declared.answers.Status.{Status}
use Rattle.sdc_cli.specs.Announced.{HasCauses}
use Rattle.sdc_cli.proofs.AnswerEnds.{quiet_ends, read_fault_ends, reads_ends, rose_second, too_large_ends, usage_ends, write_fault_later}
use Rattle.sdc_cli.proofs.RunLeaves.{leaves_faults, leaves_written}
use Rattle.sdc_cli.proofs.WriteFaultLines.{named_by_run}
use Rattle.sdc_cli.proofs.tool.run_line.Goals as goal

pub returns-clause-usage : goal.returns-clause-usage
returns-clause-usage g c = usage_ends (Some c.args.line.now) _ _ c.announce.ensures.ends c.write_line_output-status.ensures.usage

pub returns-clause-too_large : goal.returns-clause-too_large
returns-clause-too_large g c = too_large_ends (Some c.args.line.now) _ _ c.announce.ensures.ends c.write_line_output-status.ensures.too_large

pub returns-clause-read_fault : goal.returns-clause-read_fault
returns-clause-read_fault g c =
    let faults = g.I.Inputs.faults in
    read_fault_ends (Some c.args.line.now) (faults c.args.inputs.now) (faults c.write_line_output-status.new.inputs) _ _ c.announce.ensures.ends
    c.write_line_output-status.ensures.read_fault

pub returns-clause-quiet : goal.returns-clause-quiet
returns-clause-quiet g c =
    quiet_ends _ _ _ _ _ _ _ c.announce.ensures.ends c.announce.ensures.quiet c.write_line_output-status.ensures.quiet

pub returns-clause-reads : goal.returns-clause-reads
returns-clause-reads g c = reads_ends (Some c.args.line.now) _ _ _ _ c.announce.ensures.ends c.write_line_output-status.ensures.reads

pub returns-clause-writes : goal.returns-clause-writes
returns-clause-writes g c =
    leaves_written _ _ (Some c.args.line.now) _ _ _ _ _ _ c.announce.ensures.ends c.write_line_output-status.ensures.writes c.announce.ensures.announces

pub returns-clause-names : goal.returns-clause-names
returns-clause-names g c =
    let contents = g.I.Inputs.contents in
    let reads = g.I.Inputs.faults in
    let writes = g.O.Outputs.faults in
    let ran = c.write_line_output-status.ensures in
    let answer = c.write_line_output-status.result in
    let Causes : Status → Type 0 = HasCauses (contents c.args.inputs.now) (reads c.args.inputs.now) (reads c.write_line_output-status.new.inputs)
    (writes c.args.outputs.now) (writes c.announce.new.outputs) (Some c.args.line.now) in
    let stood : Causes answer = (
      ran.usage,
      ran.cause,
      ran.too_large,
      ran.read_fault,
      write_fault_later _ _ _ answer ran.counts c.announce.ensures.counts ran.write_fault,
    ) in
    leaves_faults _ _ (Some c.args.line.now) Causes _ _ _ _ _ _ _ stood (rose_second _ _ _ ran.counts) ran.writes c.announce.ensures.announces

pub returns-clause-write_fault_line : goal.returns-clause-write_fault_line
returns-clause-write_fault_line g c =
    let ran = c.write_line_output-status.ensures in
    let announced = c.announce.ensures in
    named_by_run _ _ _ _ _ _ _ _ _ _ ran.counts announced.ends ran.write_fault ran.writes announced.names
