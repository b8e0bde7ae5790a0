-- Two texts are the same where they are one.
use Rattle.std.proofs.Common.{◌≡◌, ℕ, true, List, refl}
use Rattle.std.proofs.lemmas.Slice.Eq.{bytes_eq-Decides}
use Rattle.text_model.specs.Words.{same_text}

pub text_same : (text : List ℕ) → same_text text text ≡ true
text_same text = (bytes_eq-Decides text text).1 refl

pub same_is : (one other : List ℕ) → same_text one other ≡ true → one ≡ other
same_is one other h = (bytes_eq-Decides one other).0 h
