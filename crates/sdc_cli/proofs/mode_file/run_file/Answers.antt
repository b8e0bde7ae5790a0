use Rattle.sdc_cli.proofs.HostSteps.{no_text, text_says}
use Rattle.sdc_cli.proofs.mode_file.run_file.Goals as goal

pub returns-in-Ok : goal.returns-in-Ok
returns-in-Ok c = text_says c.args.bytes.now c.in-Ok.text.now c.run_text.result c.in-Ok.ensures.cases.0 c.in-Ok.ensures.cases.1 c.run_text.ensures

pub returns-in-Err : goal.returns-in-Err
returns-in-Err c = no_text c.args.bytes.now _ c.in-Err.ensures.cases.0 c.no_text_line.ensures
