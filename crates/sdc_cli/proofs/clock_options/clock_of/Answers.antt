use Rattle.sdc_cli.proofs.HostSteps.{options_found}
use Rattle.sdc_cli.proofs.clock_options.clock_of.Goals as goal

pub returns-clause-gives : goal.returns-clause-gives
returns-clause-gives c =
    options_found c.args.clocks.now c.args.line c.args.words.now c.in_ok-given.given c.clock_by.result
    (rw c.as_slice.ensures at c.in_ok-given.ensures) c.clock_by.ensures.gives
