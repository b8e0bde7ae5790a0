-- Bytes that are no UTF-8.
use Rattle.std.proofs.Common.{◌≡◌, ℕ, false, List}
use Rattle.std.specs.Str.{IsUtf8, is_utf8}
use Rattle.std.proofs.lemmas.Bool.{both_ways}
use Rattle.std.proofs.lemmas.Str.{is_utf8-from_IsUtf8}

pub no_text : (bytes : List ℕ) → is_utf8 bytes ≡ false → IsUtf8 bytes → ⊥
no_text bytes fails text = both_ways (is_utf8 bytes) fails (is_utf8-from_IsUtf8 bytes text)
