use Rattle.lib_cells.proofs.RecognitionFacts.{line_found}
use Rattle.lib_cells.proofs.syntax.recognition.line_at.Goals as goal

pub returns-then-place-tokens : goal.returns-then-place-tokens
returns-then-place-tokens c = line_found c.args.tokens.now c.args.place _ c.if-place-tokens.true
