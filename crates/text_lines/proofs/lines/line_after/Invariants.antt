use Rattle.std.proofs.Common.{◌≡◌, drop}
use Rattle.text_model.specs.Bytes.{line_after}
use Rattle.text_lines.proofs.lines.line_after.Given as goal

abbrev pub invariant-loop-byte : goal.invariant-loop-byte
invariant-loop-byte l = line_after (drop l.byte-index l.text) l.line ≡ line_after l.text l.first
