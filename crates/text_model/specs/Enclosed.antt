-- What is passed over whole (Tcl): a braced word, and a bracket with the words in it. It gives the text after the
-- byte that closes what was opened. A backslash takes the next byte out. In brackets a word begins after `[`, a
-- space, a newline or `;`; a brace or quote opens there only where a word begins, a bracket opens anywhere but in
-- braces. A quote has its end at the next quote that stands in no bracket of its own.
use Rattle.std.specs.Prelude.{◌==◌, ◌&&◌, ℕ, Bool, true, false, List, [], ◌∷◌, Option, Some, None, if◌then◌else◌}
use Rattle.text_model.specs.Bytes.{leads_word}

-- what is open at a place
pub data Open : Type 0 where
  bracket : Open
  quote : Open
  brace : Open

-- what is open after a byte, the innermost first. The third argument: a word may begin at the byte
abbrev pub opened : Open → List Open → Bool → ℕ → List Open
opened bracket outer begins b =
    if b == 91 then bracket ∷ (bracket ∷ outer)
    else (if b == 93 then outer
    else (if b == 34 && begins then quote ∷ (bracket ∷ outer)
    else (if b == 123 && begins then brace ∷ (bracket ∷ outer)
    else bracket ∷ outer)))
opened quote outer begins b = if b == 91 then bracket ∷ (quote ∷ outer) else (if b == 34 then outer else quote ∷ outer)
opened brace outer begins b = if b == 123 then brace ∷ (brace ∷ outer) else (if b == 125 then outer else brace ∷ outer)

-- the text after all that is open, where each has its end. The second argument: a word may begin here; the third:
-- a backslash takes the next byte out
unfoldable pub after_open : List Open → Bool → Bool → List ℕ → Option (List ℕ)
after_open [] begins taken text = Some text
after_open (open_ ∷ outer) begins taken [] = None
after_open (open_ ∷ outer) begins true (b ∷ bs) = after_open (open_ ∷ outer) (b == 10) false bs
after_open (open_ ∷ outer) begins false (b ∷ bs) =
    if b == 92 then after_open (open_ ∷ outer) false true bs
    else after_open (opened open_ outer begins b) (leads_word b) false bs

-- the text after a brace, and after a bracket, that stands before this text
abbrev pub after_brace : List ℕ → Option (List ℕ)
after_brace text = after_open (brace ∷ []) false false text

abbrev pub after_bracket : List ℕ → Option (List ℕ)
after_bracket text = after_open (bracket ∷ []) true false text
