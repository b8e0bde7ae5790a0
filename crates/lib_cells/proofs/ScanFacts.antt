-- How far the bytes of one kind reach, and that what ends there cuts no character.
use Rattle.std.proofs.Common.{◌≡◌, ◌+◌, ◌-◌, ◌<◌, ◌≤◌, ◌==◌, ℕ, zero, suc, Bool, true, false, List, [], ◌∷◌, length, get_or, drop, refl, sym, ap, subst, ◌∙◌, arith}
use Rattle.std.specs.Prelude.{if◌then◌else◌}
use Rattle.std.specs.List.{prefix_len}
use Rattle.std.specs.Str.{IsCharBoundary, IsUtf8}
use Rattle.std.proofs.lemmas.Bool.Decides.{nat_tests}
use Rattle.std.proofs.lemmas.List.{drop_all, drop_more}
use Rattle.std.proofs.lemmas.Str.{IsCharBoundary-after_ascii, IsCharBoundary-before_ascii, IsCharBoundary-end, IsCharBoundary-start}
use Rattle.sdc_base.proofs.CaseFacts.{by_bool}
use Rattle.library_model.specs.LibertyTokens.{Character, bare_len, brackets_after, bytes_of, is_bare_byte, parts}
use Rattle.lib_cells.specs.Scan.{bare_bytes, is_no_quote}

-- ---- the name at the front

-- the first bytes of a text belong to its name, and so many square brackets of it are open after them
pub record BareSoFar (text : List ℕ) (len brackets : ℕ) : Type 0 where
  pub same : bare_bytes 0 text ≡ bare_bytes brackets (drop len text) + len
  pub within : len ≤ length text
  pub few : brackets ≤ len

pub bare_none : (text : List ℕ) → BareSoFar text 0 0
bare_none text = record { same = omega arith; within = omega arith; few = omega arith }

bare_step : (brackets b : ℕ) (bs : List ℕ) → is_bare_byte brackets b ≡ true → bare_bytes brackets (b ∷ bs) ≡ bare_bytes (brackets_after b brackets) bs + 1
bare_step brackets b bs is = ap (λ t. if t then bare_bytes (brackets_after b brackets) bs + 1 else 0) is

bare_stop : (brackets b : ℕ) (bs : List ℕ) → is_bare_byte brackets b ≡ false → bare_bytes brackets (b ∷ bs) ≡ 0
bare_stop brackets b bs is = ap (λ t. if t then bare_bytes (brackets_after b brackets) bs + 1 else 0) is

after_few : (b brackets : ℕ) → brackets_after b brackets ≤ brackets + 1
after_few b brackets =
    by_bool (λ t. (if t then brackets + 1 else (if b == 93 then brackets - 1 else brackets)) ≤ brackets + 1) (b == 91)
    (λ is. omega arith)
    (λ other. by_bool (λ t. (if t then brackets - 1 else brackets) ≤ brackets + 1) (b == 93) (λ is. omega arith) (λ not_it. omega arith))

pub bare_more : (text : List ℕ) (len brackets next : ℕ) → BareSoFar text len brackets → len < length text → is_bare_byte brackets (get_or text len 0) ≡ true → next ≡ brackets_after (get_or text len 0) brackets → BareSoFar text (len + 1) next
bare_more text len brackets next so_far inside is next_is =
    subst (λ (n : ℕ). BareSoFar text (len + 1) n) (sym next_is) (record {
      same = so_far.same ∙ more;
      within = omega (arith, inside);
      few = omega (arith, after_few (get_or text len 0) brackets, so_far.few);
    }) where
      more : bare_bytes brackets (drop len text) + len ≡ bare_bytes (brackets_after (get_or text len 0) brackets) (drop (len + 1) text) + (len + 1)
      more =
          let here : bare_bytes brackets (drop len text) ≡ bare_bytes (brackets_after (get_or text len 0) brackets) (drop (len + 1) text) + 1 = ap (bare_bytes brackets) (drop_more text len 0 inside) ∙ bare_step brackets (get_or text len 0) (drop (len + 1) text) is in
          omega (arith, here)

pub bare_stops : (text : List ℕ) (len brackets : ℕ) → BareSoFar text len brackets → len < length text → is_bare_byte brackets (get_or text len 0) ≡ false → len ≡ bare_bytes 0 text
bare_stops text len brackets so_far inside is =
    let here : bare_bytes brackets (drop len text) ≡ 0 = ap (bare_bytes brackets) (drop_more text len 0 inside) ∙ bare_stop brackets (get_or text len 0) (drop (len + 1) text) is in
    omega (arith, here, so_far.same)

pub bare_all : (text : List ℕ) (len brackets : ℕ) → BareSoFar text len brackets → length text ≤ len → len ≡ bare_bytes 0 text
bare_all text len brackets so_far past =
    let here : bare_bytes brackets (drop len text) ≡ 0 = ap (bare_bytes brackets) (drop_all len text past) in
    omega (arith, here, so_far.same)

-- ---- bytes for characters

pub bare_of_bytes : (brackets : ℕ) (cs : List Character) → bare_bytes brackets (bytes_of cs) ≡ bare_len brackets cs
bare_of_bytes brackets [] = refl
bare_of_bytes brackets (c ∷ cs) = ap (λ n. if is_bare_byte brackets c.byte then n + 1 else 0) (bare_of_bytes (brackets_after c.byte brackets) cs)

pub prefix_of_bytes : (test : ℕ → Bool) (cs : List Character) → prefix_len test (bytes_of cs) ≡ prefix_len (λ (c : Character). test c.byte) cs
prefix_of_bytes test [] = refl
prefix_of_bytes test (c ∷ cs) = ap (λ n. if test c.byte then 1 + n else 0) (prefix_of_bytes test cs)

-- ---- characters are not cut

byte_parts : (b : ℕ) → parts b ≡ true → b < 128
byte_parts b is = grind (arith, nat_tests)

byte_ends : (brackets b : ℕ) → is_bare_byte brackets b ≡ false → b < 128
byte_ends brackets b is = grind (arith, nat_tests)

byte_quotes : (b : ℕ) → is_no_quote b ≡ false → b < 128
byte_quotes b is = grind (arith, nat_tests)

pub prefix_within : (test : ℕ → Bool) (text : List ℕ) → prefix_len test text ≤ length text
prefix_within test [] = omega arith
prefix_within test (b ∷ bs) =
    by_bool (λ t. (if t then 1 + prefix_len test bs else 0) ≤ suc (length bs)) (test b)
    (λ is. omega (arith, prefix_within test bs))
    (λ is. omega arith)

pass_cases : (test : ℕ → Bool) (b : ℕ) (bs : List ℕ) (i : ℕ) (t : Bool) → test b ≡ t → ((j : ℕ) → j < prefix_len test bs → test (get_or bs j 0) ≡ true) → i < (if t then 1 + prefix_len test bs else 0) → test (get_or (b ∷ bs) i 0) ≡ true
pass_cases test b bs zero true is rest below = is
pass_cases test b bs (suc j) true is rest below = rest j (omega (arith, below))
pass_cases test b bs i false is rest below = absurd (omega (arith, below))

prefix_pass : (test : ℕ → Bool) (text : List ℕ) (i : ℕ) → i < prefix_len test text → test (get_or text i 0) ≡ true
prefix_pass test [] i less = absurd (omega (arith, less))
prefix_pass test (b ∷ bs) i less = pass_cases test b bs i (test b) refl (λ j below. prefix_pass test bs j below) less

after_one : (n : ℕ) → suc n ≡ 1 + n
after_one n = omega arith

one_after : (n : ℕ) → suc n ≡ n + 1
one_after n = omega arith

stop_cases : (test : ℕ → Bool) (b : ℕ) (bs : List ℕ) (t : Bool) → test b ≡ t → (prefix_len test bs < length bs → test (get_or bs (prefix_len test bs) 0) ≡ false) → (if t then 1 + prefix_len test bs else 0) < suc (length bs) → test (get_or (b ∷ bs) (if t then 1 + prefix_len test bs else 0) 0) ≡ false
stop_cases test b bs true is rest below =
    subst (λ (n : ℕ). test (get_or (b ∷ bs) n 0) ≡ false) (after_one (prefix_len test bs)) (rest (omega (arith, below)))
stop_cases test b bs false is rest below = is

prefix_stop : (test : ℕ → Bool) (text : List ℕ) → prefix_len test text < length text → test (get_or text (prefix_len test text) 0) ≡ false
prefix_stop test [] less = absurd (omega (arith, less))
prefix_stop test (b ∷ bs) less = stop_cases test b bs (test b) refl (λ below. prefix_stop test bs below) less

pub bare_within : (brackets : ℕ) (text : List ℕ) → bare_bytes brackets text ≤ length text
bare_within brackets [] = omega arith
bare_within brackets (b ∷ bs) =
    by_bool (λ t. (if t then bare_bytes (brackets_after b brackets) bs + 1 else 0) ≤ suc (length bs)) (is_bare_byte brackets b)
    (λ is. omega (arith, bare_within (brackets_after b brackets) bs))
    (λ is. omega arith)

-- after the bytes of a name stands the end, or an ASCII byte
end_cases : (brackets b : ℕ) (bs : List ℕ) (t : Bool) → is_bare_byte brackets b ≡ t → (bare_bytes (brackets_after b brackets) bs < length bs → get_or bs (bare_bytes (brackets_after b brackets) bs) 0 < 128) → (if t then bare_bytes (brackets_after b brackets) bs + 1 else 0) < suc (length bs) → get_or (b ∷ bs) (if t then bare_bytes (brackets_after b brackets) bs + 1 else 0) 0 < 128
end_cases brackets b bs true is rest below =
    subst (λ (n : ℕ). get_or (b ∷ bs) n 0 < 128) (one_after (bare_bytes (brackets_after b brackets) bs)) (rest (omega (arith, below)))
end_cases brackets b bs false is rest below = byte_ends brackets b is

bare_end : (brackets : ℕ) (text : List ℕ) → bare_bytes brackets text < length text → get_or text (bare_bytes brackets text) 0 < 128
bare_end brackets [] less = absurd (omega (arith, less))
bare_end brackets (b ∷ bs) less = end_cases brackets b bs (is_bare_byte brackets b) refl (λ below. bare_end (brackets_after b brackets) bs below) less

-- a place before an ASCII byte or at the end
before_or_end : (text : List ℕ) (at : ℕ) → at ≤ length text → (at < length text → get_or text at 0 < 128) → IsCharBoundary text at
before_or_end text at inside small =
    by_bool (λ t. IsCharBoundary text at) (at == length text)
    (λ is. let same : at ≡ length text = grind (arith, nat_tests) in subst (λ (i : ℕ). IsCharBoundary text i) (sym same) (IsCharBoundary-end text))
    (λ other. let less : at < length text = grind (arith, nat_tests, inside) in IsCharBoundary-before_ascii text at less (small less))

pub bare_cuts : (text : List ℕ) → IsCharBoundary text (bare_bytes 0 text)
bare_cuts text = before_or_end text (bare_bytes 0 text) (bare_within 0 text) (λ less. bare_end 0 text less)

pub quote_cuts : (text : List ℕ) → IsCharBoundary text (prefix_len is_no_quote text)
quote_cuts text = before_or_end text (prefix_len is_no_quote text) (prefix_within is_no_quote text) (λ less. byte_quotes (get_or text (prefix_len is_no_quote text) 0) (prefix_stop is_no_quote text less))

gap_cases : (text : List ℕ) (n : ℕ) → IsUtf8 text → prefix_len parts text ≡ n → IsCharBoundary text n
gap_cases text zero utf8 is = IsCharBoundary-start text utf8
gap_cases text (suc n) utf8 is =
    subst (λ (i : ℕ). IsCharBoundary text i) (sym (one_after n))
    (IsCharBoundary-after_ascii text n utf8 (omega (arith, is, prefix_within parts text)) (byte_parts (get_or text n 0) (prefix_pass parts text n (omega (arith, is)))))

pub gap_cuts : (text : List ℕ) → IsUtf8 text → IsCharBoundary text (prefix_len parts text)
gap_cuts text utf8 = gap_cases text (prefix_len parts text) utf8 refl

pub quote_end_cuts : (text : List ℕ) → IsUtf8 text → prefix_len is_no_quote text < length text → IsCharBoundary text (prefix_len is_no_quote text + 1)
quote_end_cuts text utf8 inside = IsCharBoundary-after_ascii text (prefix_len is_no_quote text) utf8 inside (byte_quotes (get_or text (prefix_len is_no_quote text) 0) (prefix_stop is_no_quote text inside))

pub quote_cut : (text : List ℕ) → IsUtf8 text → 0 < length text → get_or text 0 0 ≡ 34 → IsCharBoundary text 1
quote_cut text utf8 some is = IsCharBoundary-after_ascii text 0 utf8 some (omega (arith, is))

pub sign_cut : (text : List ℕ) → IsUtf8 text → 0 < length text → is_bare_byte 0 (get_or text 0 0) ≡ false → IsCharBoundary text 1
sign_cut text utf8 some is = IsCharBoundary-after_ascii text 0 utf8 some (byte_ends 0 (get_or text 0 0) is)

pub bare_some : (text : List ℕ) → 0 < length text → is_bare_byte 0 (get_or text 0 0) ≡ true → 0 < bare_bytes 0 text
bare_some [] some is = absurd (omega (arith, some))
bare_some (b ∷ bs) some is = let step = bare_step 0 b bs is in omega (arith, step)
