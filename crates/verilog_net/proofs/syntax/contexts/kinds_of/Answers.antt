use Rattle.std.proofs.Common.{◌+◌, drop, get_or, refl}
use Rattle.std.proofs.lemmas.List.{drop_more}
use Rattle.verilog_net.proofs.KindFacts.{no_token, one_kind}
use Rattle.verilog_net.proofs.syntax.contexts.kinds_of.Goals as goal

pub loop-token-preserved : goal.loop-token-preserved
loop-token-preserved c =
    one_kind c.args.tokens.now (drop (c.loop-token.token-index + 1) c.args.tokens.now) (get_or c.args.tokens.now c.loop-token.token-index no_token) c.loop-token.token-index
    c.loop-token.kinds.items c.push.new.self.items c.loop-token.part c.part_after-part.result c.loop-token.names c.names_after.new.names c.loop-token.braces c.braces_after-braces.result c.kind_in.result
    c.loop-token.invariant (drop_more c.args.tokens.now c.loop-token.token-index no_token c.loop-token-test.true) refl c.in_ok-push.ensures.items
    c.kind_in.ensures c.in_ok-names_after.ensures c.part_after-part.ensures c.braces_after-braces.ensures.is c.braces_after-braces.ensures.few
