use Rattle.lib_cells.specs.Seen.{tokens_seen}
use Rattle.lib_cells.proofs.ReadingFacts.{gives_read}
use Rattle.lib_cells.proofs.read.read_statements.Goals as goal

pub returns : goal.returns
returns c =
    gives_read (tokens_seen c.args.tokens.now) c.in_ok-statements.statements.items c.as_slice.result.now c.library_if.result
    c.in_ok-statements.ensures c.as_slice.ensures.value c.library_if.ensures
