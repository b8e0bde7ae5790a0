use Rattle.std.proofs.Common.{ap, ◌∙◌}
use Rattle.std.specs.List.{prefix_len}
use Rattle.library_model.specs.LibertyTokens.{parts}
use Rattle.lib_cells.proofs.LexFacts.{token_stands}
use Rattle.lib_cells.proofs.scanning.lexing.token_at.Goals as goal

pub returns : goal.returns
returns c =
    token_stands c.args.rest.text.now c.args.rest.lines.now c.split_at.result.0.now c.split_at.result.1.text.now c.split_at.result.1.lines.now c.gap_len.result c.token_after.result
    (c.gap_len.ensures ∙ ap (prefix_len parts) c.as_bytes.ensures.value) c.split_at.ensures.front c.split_at.ensures.text c.split_at.ensures.lines c.token_after.ensures
