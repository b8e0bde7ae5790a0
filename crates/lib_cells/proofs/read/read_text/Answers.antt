use Rattle.std.proofs.Common.{◌∙◌}
use Rattle.lib_cells.proofs.ReadingFacts.{lexed_of, shown_text}
use Rattle.lib_cells.proofs.read.read_text.Goals as goal

pub as_text-shown-requires : goal.as_text-shown-requires
as_text-shown-requires c = shown_text c.args.text.now c.as_slice.result.now c.in_ok-characters.characters c.requires c.in_ok-characters.ensures c.as_slice.ensures

pub read_tokens-requires : goal.read_tokens-requires
read_tokens-requires c =
    lexed_of c.args.text.now c.as_text-shown.result.now c.as_slice-2.result.now c.in_ok-characters.characters c.in_ok-lexed.lexed c.as_slice-3.result.now c.is_unfinished-unfinished.result
    c.in_ok-characters.ensures (c.as_text-shown.ensures ∙ c.as_slice.ensures) c.as_slice-2.ensures c.in_ok-lexed.ensures c.as_slice-3.ensures.value c.is_unfinished-unfinished.ensures
