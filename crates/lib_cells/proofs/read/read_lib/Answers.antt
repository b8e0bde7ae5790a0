use Rattle.lib_cells.proofs.ReadingFacts.{no_text, read_bytes}
use Rattle.lib_cells.proofs.read.read_lib.Goals as goal

pub returns-in-Ok : goal.returns-in-Ok
returns-in-Ok c = read_bytes c.args.bytes.now c.read_text.result c.in-Ok.ensures.cases.1 c.read_text.ensures

pub returns-in-Err : goal.returns-in-Err
returns-in-Err c = no_text c.args.bytes.now c.no_text_line-line.result c.in-Err.ensures.cases.0 c.no_text_line-line.ensures
