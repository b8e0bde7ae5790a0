use Rattle.lib_cells.specs.Seen.{tokens_seen}
use Rattle.lib_cells.proofs.ReadingFacts.{broken, read_whole}
use Rattle.lib_cells.proofs.read.read_tokens.Goals as goal

pub returns-in-Some : goal.returns-in-Some
returns-in-Some c = broken c.args.text.now (tokens_seen c.args.tokens.now) c.args.unfinished c.in_ok-broken.broken c.in-Some.line c.requires c.in_ok-broken.ensures c.in-Some.is

pub returns-in-None : goal.returns-in-None
returns-in-None c =
    read_whole c.args.text.now (tokens_seen c.args.tokens.now) c.args.unfinished c.in_ok-broken.broken c.read_statements.result
    c.requires c.in_ok-broken.ensures c.in-None.is c.read_statements.ensures
