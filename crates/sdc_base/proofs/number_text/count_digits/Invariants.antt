use Rattle.std.proofs.Common.{◌≡◌, ◌+◌, drop}
use Rattle.std.specs.Char.{is_ascii_digit}
use Rattle.std.specs.List.{prefix_len}
use Rattle.sdc_base.proofs.number_text.count_digits.Given as goal

abbrev pub invariant-loop-byte : goal.invariant-loop-byte
invariant-loop-byte l =
    (l.count ≡ l.byte-index)
    × (prefix_len is_ascii_digit l.text ≡ l.byte-index + prefix_len is_ascii_digit (drop l.byte-index l.text))
