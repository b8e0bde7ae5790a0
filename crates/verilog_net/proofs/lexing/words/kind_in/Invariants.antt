use Rattle.std.proofs.Common.{◌≡◌, drop}
use Rattle.verilog_net.specs.Keywords.{kind_of, rows_seen}
use Rattle.verilog_net.proofs.lexing.words.kind_in.Given as goal

abbrev pub invariant-loop-keyword : goal.invariant-loop-keyword
invariant-loop-keyword l =
    kind_of (rows_seen (drop l.keyword-index l.rows)) l.word ≡ kind_of (rows_seen l.fn.rows) l.word
