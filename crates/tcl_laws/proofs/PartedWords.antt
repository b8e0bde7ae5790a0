-- What parts words and commands of a Tcl text, and where its comments end.
use Rattle.std.proofs.Common.{◌≡◌, ◌∙◌, ◌++◌, ℕ, Bool, true, false, List, [], ◌∷◌, refl, sym, ap, subst, eqb-true}
use Rattle.std.specs.Prelude.{◌==◌, ◌&&◌, ◌||◌, if◌then◌else◌}
use Rattle.std.specs.List.{list_any}
use Rattle.std.proofs.lemmas.Bool.{or_parts}
use Rattle.sdc_base.proofs.CaseFacts.{by_bool}
use Rattle.text_model.specs.Bytes.{begins_with, is_end, is_space}
use Rattle.text_model.specs.Continued.{after_gap, comment, continues, from_command, parting, taken}
use Rattle.tcl_laws.specs.Nested.{is_one_of}

-- a test of a byte that tells something of another one
and_false : (b n : ℕ) (test : Bool) → (b ≡ n → test ≡ false) → (b == n && test) ≡ false
and_false b n test when = by (b == n) refl where
  by : (t : Bool) → (b == n) ≡ t → (t && test) ≡ false
  by true is = when (eqb-true b n is)
  by false is = refl

-- ---- words

pub space_parts : (b : ℕ) (text : List ℕ) → is_space b ≡ true → after_gap false (b ∷ text) ≡ after_gap false text
unfolding after_gap
space_parts b text is = rw is refl

pub newline_parts : (text : List ℕ) → after_gap false (92 ∷ (10 ∷ text)) ≡ after_gap false text
unfolding after_gap
newline_parts text = refl

pub carriage_parts : (text : List ℕ) → after_gap false (92 ∷ (13 ∷ (10 ∷ text))) ≡ after_gap false text
unfolding after_gap
carriage_parts text = refl

gap_none : (newline : Bool) → (newline && false) ≡ false
gap_none true = refl
gap_none false = refl

pub word_begins : (b : ℕ) (text : List ℕ) → is_space b ≡ false → (b ≡ 92 → continues text ≡ false) → after_gap false (b ∷ text) ≡ b ∷ text
unfolding after_gap
word_begins b text no_space when =
    let plain = and_false b 92 (continues text) when in
    let no_newline = gap_none (b == 10) in
    rw (no_space, no_newline, plain) refl

-- ---- comments

pub comment_begins : (text : List ℕ) → from_command parting (35 ∷ text) ≡ from_command comment text
unfolding from_command
comment_begins text = refl

-- bytes of a comment are passed over
inside_comment : (inside rest : List ℕ) → list_any (is_one_of (10 ∷ 92 ∷ [])) inside ≡ false → from_command comment (inside ++ rest) ≡ from_command comment rest
unfolding from_command
inside_comment [] rest none = refl
inside_comment (b ∷ bs) rest none =
    let p = or_parts (is_one_of (10 ∷ 92 ∷ []) b) (list_any (is_one_of (10 ∷ 92 ∷ [])) bs) none in
    let q = or_parts (b == 10) (is_one_of (92 ∷ []) b) p.0 in
    let r = or_parts (b == 92) false q.1 in
    rw (q.0, r.0) (inside_comment bs rest p.1)

pub comment_ends : (inside rest : List ℕ) → list_any (is_one_of (10 ∷ 92 ∷ [])) inside ≡ false → from_command comment (inside ++ (10 ∷ rest)) ≡ from_command parting rest
unfolding from_command
comment_ends inside rest none = inside_comment inside (10 ∷ rest) none

taken_step : (b : ℕ) (rest : List ℕ) → (b ≡ 13 → begins_with 10 rest ≡ false) → from_command comment (92 ∷ (b ∷ rest)) ≡ from_command comment rest
unfolding from_command
taken_step b rest when = let plain = and_false b 13 (begins_with 10 rest) when in rw plain refl

pub comment_takes : (inside : List ℕ) (b : ℕ) (rest : List ℕ) → list_any (is_one_of (10 ∷ 92 ∷ [])) inside ≡ false → (b ≡ 13 → begins_with 10 rest ≡ false)
    → from_command comment (inside ++ (92 ∷ (b ∷ rest))) ≡ from_command comment rest
comment_takes inside b rest none when = inside_comment inside (92 ∷ (b ∷ rest)) none ∙ taken_step b rest when

carriage_step : (rest : List ℕ) → from_command comment (92 ∷ (13 ∷ (10 ∷ rest))) ≡ from_command comment rest
unfolding from_command
carriage_step rest = refl

pub comment_takes_carriage : (inside rest : List ℕ) → list_any (is_one_of (10 ∷ 92 ∷ [])) inside ≡ false
    → from_command comment (inside ++ (92 ∷ (13 ∷ (10 ∷ rest)))) ≡ from_command comment rest
comment_takes_carriage inside rest none = inside_comment inside (92 ∷ (13 ∷ (10 ∷ rest))) none ∙ carriage_step rest

pub comment_at_end : (inside : List ℕ) → list_any (is_one_of (10 ∷ 92 ∷ [])) inside ≡ false → from_command comment inside ≡ []
unfolding from_command
comment_at_end [] none = refl
comment_at_end (b ∷ bs) none =
    let p = or_parts (is_one_of (10 ∷ 92 ∷ []) b) (list_any (is_one_of (10 ∷ 92 ∷ [])) bs) none in
    let q = or_parts (b == 10) (is_one_of (92 ∷ []) b) p.0 in
    let r = or_parts (b == 92) false q.1 in
    rw (q.0, r.0) (comment_at_end bs p.1)
