-- What is open, byte by byte.
use Rattle.std.proofs.Common.{◌≡◌, ◌<◌, ◌≤◌, ◌+◌, ◌-◌, ◌==◌, ◌++◌, ◌&&◌, inl, inr, ℕ, Bool, true, false, List, [], ◌∷◌, Option, Some, None, drop, length, get_or, refl, sym, ap, subst, ◌∙◌, arith}
use Rattle.std.proofs.lemmas.Bool.{cases_Bool, eqb-true}
use Rattle.std.proofs.lemmas.List.{drop_more}
use Rattle.std.proofs.lemmas.Str.{IsCharBoundary-after_ascii, IsCharBoundary-before_ascii}
use Rattle.std.specs.Str.{IsCharBoundary}
use Rattle.text_model.specs.Bytes.{leads_word}
use Rattle.text_model.specs.Enclosed as grammar
use Rattle.tcl_words.specs.declared.enclosed.Open.{Open}
use Rattle.tcl_words.specs.declared.enclosed.Nest.{Nest}
use Rattle.tcl_words.specs.Nests.{ClosesAt, nest_of, open_of, opens_of}
use Rattle.tcl_words.proofs.PieceFacts.{here}
use Rattle.tcl_words.proofs.RunFacts.{drop_all}

-- the last one that was opened is the innermost
pub opens_last : (outer : List Open) (open_ : Open) → opens_of (outer ++ open_ ∷ []) ≡ open_of open_ ∷ opens_of outer
opens_last [] open_ = refl
opens_last (o ∷ outer) open_ = ap (λ (os : List grammar.Open). os ++ open_of o ∷ []) (opens_last outer open_)

-- a place in what was opened at another: after what is open there stands the rest that is after the whole
pub record InNest (whole : Option (List ℕ)) (text : List ℕ) (from at : ℕ) (nest : Nest) (begins : Bool) : Type 0 where
  pub same : grammar.after_open (nest_of (Some nest)) begins false (drop at text) ≡ whole
  pub forward : from ≤ at
  pub within : at ≤ length text

pub nest_begins : (text : List ℕ) (from : ℕ) (nest : Nest) (begins : Bool) → from ≤ length text → InNest (grammar.after_open (nest_of (Some nest)) begins false (drop from text)) text from from nest begins
nest_begins text from nest begins within = record { same = refl; forward = omega arith; within = within }

-- what a backslash takes out
skipped : (inner : grammar.Open) (outer : List grammar.Open) (begins : Bool) (c : ℕ) (cs : List ℕ) → grammar.after_open (inner ∷ outer) begins false (92 ∷ (c ∷ cs)) ≡ grammar.after_open (inner ∷ outer) (c == 10) false cs
unfolding grammar.after_open
skipped inner outer begins c cs = refl

skipped_end : (inner : grammar.Open) (outer : List grammar.Open) (begins : Bool) → grammar.after_open (inner ∷ outer) begins false (92 ∷ []) ≡ None
unfolding grammar.after_open
skipped_end inner outer begins = refl

passed : (inner : grammar.Open) (outer : List grammar.Open) (begins : Bool) (b : ℕ) (bs : List ℕ) → (b == 92) ≡ false → grammar.after_open (inner ∷ outer) begins false (b ∷ bs) ≡ grammar.after_open (grammar.opened inner outer begins b) (leads_word b) false bs
unfolding grammar.after_open
passed inner outer begins b bs p = rw p refl

closed : (begins : Bool) (bs : List ℕ) → grammar.after_open [] begins false bs ≡ Some bs
unfolding grammar.after_open
closed begins bs = refl

never : (inner : grammar.Open) (outer : List grammar.Open) (begins : Bool) → grammar.after_open (inner ∷ outer) begins false [] ≡ None
unfolding grammar.after_open
never inner outer begins = refl

pub nest_skips : (whole : Option (List ℕ)) (text : List ℕ) (from at : ℕ) (nest : Nest) (begins : Bool) → InNest whole text from at nest begins → at < length text → get_or text at 0 ≡ 92 → at + 1 < length text → InNest whole text from (at + 2) nest (get_or text (at + 1) 0 == 10)
nest_skips whole text from at nest begins n within e more =
    let place : at + 1 + 1 ≡ at + 2 = omega arith in
    let two : drop at text ≡ 92 ∷ (get_or text (at + 1) 0 ∷ drop (at + 2) text) =
    here text at 92 within e ∙ ap (λ (t : List ℕ). 92 ∷ t) (drop_more text (at + 1) 0 more ∙ ap (λ (i : ℕ). get_or text (at + 1) 0 ∷ drop i text) place) in
    record {
      same =
          sym (skipped (open_of nest.inner) (opens_of nest.outer.items) begins (get_or text (at + 1) 0) (drop (at + 2) text))
          ∙ (ap (grammar.after_open (nest_of (Some nest)) begins false) (sym two) ∙ n.same);
      forward = omega (arith, n.forward);
      within = omega (arith, more);
    }

pub nest_passes : (whole : Option (List ℕ)) (text : List ℕ) (from at : ℕ) (nest next : Nest) (begins : Bool) → InNest whole text from at nest begins → at < length text → (get_or text at 0 == 92) ≡ false → nest_of (Some next) ≡ grammar.opened (open_of nest.inner) (opens_of nest.outer.items) begins (get_or text at 0) → InNest whole text from (at + 1) next (leads_word (get_or text at 0))
nest_passes whole text from at nest next begins n within p e = record {
  same =
      ap (λ (os : List grammar.Open). grammar.after_open os (leads_word (get_or text at 0)) false (drop (at + 1) text)) e
      ∙ (sym (passed (open_of nest.inner) (opens_of nest.outer.items) begins (get_or text at 0) (drop (at + 1) text) p)
      ∙ (ap (grammar.after_open (nest_of (Some nest)) begins false) (sym (drop_more text at 0 within)) ∙ n.same));
  forward = omega (arith, n.forward);
  within = omega (arith, within);
}

-- the end of the text comes first
pub nest_ends : (whole : Option (List ℕ)) (text : List ℕ) (from at : ℕ) (nest : Nest) (begins : Bool) → InNest whole text from at nest begins → (at < length text → ⊥) → whole ≡ None
nest_ends whole text from at nest begins n ends =
    let same : at ≡ length text = omega (arith, n.within, ends) in
    sym n.same ∙ (ap (grammar.after_open (nest_of (Some nest)) begins false) (drop_all text at same) ∙ never (open_of nest.inner) (opens_of nest.outer.items) begins)

pub nest_ends_skipped : (whole : Option (List ℕ)) (text : List ℕ) (from at : ℕ) (nest : Nest) (begins : Bool) → InNest whole text from at nest begins → at < length text → get_or text at 0 ≡ 92 → at + 1 ≡ length text → whole ≡ None
nest_ends_skipped whole text from at nest begins n within e ends =
    sym n.same
    ∙ (ap (grammar.after_open (nest_of (Some nest)) begins false) (here text at 92 within e ∙ ap (λ (t : List ℕ). 92 ∷ t) (drop_all text (at + 1) ends))
    ∙ skipped_end (open_of nest.inner) (opens_of nest.outer.items) begins)

-- a byte that closes all is ASCII
is_small : (b c : ℕ) → c < 128 → (b == c) ≡ true → b < 128
is_small b c small e = omega (arith, eqb-true b c e, small)

no_nest : (o : grammar.Open) (os : List grammar.Open) → o ∷ os ≡ [] → ⊥
no_nest o os e = absurd (omega (arith, ap length e))

closer_small : (inner : grammar.Open) (outer : List grammar.Open) (begins : Bool) (b : ℕ) → grammar.opened inner outer begins b ≡ [] → b < 128
closer_small grammar.bracket outer begins b e =
    elim (cases_Bool (b == 91)) [
      | inl p ↦ is_small b 91 (omega arith) p
      | inr p ↦ elim (cases_Bool (b == 93)) [
        | inl q ↦ is_small b 93 (omega arith) q
        | inr q ↦ elim (cases_Bool (b == 34 && begins)) [
          | inl r ↦ let h : grammar.quote ∷ (grammar.bracket ∷ outer) ≡ [] = rw (p, q, r) at e in absurd (no_nest grammar.quote (grammar.bracket ∷ outer) h)
          | inr r ↦ elim (cases_Bool (b == 123 && begins)) [
            | inl s ↦ let h : grammar.brace ∷ (grammar.bracket ∷ outer) ≡ [] = rw (p, q, r, s) at e in absurd (no_nest grammar.brace (grammar.bracket ∷ outer) h)
            | inr s ↦ let h : grammar.bracket ∷ outer ≡ [] = rw (p, q, r, s) at e in absurd (no_nest grammar.bracket outer h)
          ]
        ]
      ]
    ]
closer_small grammar.quote outer begins b e =
    elim (cases_Bool (b == 91)) [
      | inl p ↦ is_small b 91 (omega arith) p
      | inr p ↦ elim (cases_Bool (b == 34)) [
        | inl q ↦ is_small b 34 (omega arith) q
        | inr q ↦ let h : grammar.quote ∷ outer ≡ [] = rw (p, q) at e in absurd (no_nest grammar.quote outer h)
      ]
    ]
closer_small grammar.brace outer begins b e =
    elim (cases_Bool (b == 123)) [
      | inl p ↦ is_small b 123 (omega arith) p
      | inr p ↦ elim (cases_Bool (b == 125)) [
        | inl q ↦ is_small b 125 (omega arith) q
        | inr q ↦ let h : grammar.brace ∷ outer ≡ [] = rw (p, q) at e in absurd (no_nest grammar.brace outer h)
      ]
    ]

pub nest_closes : (whole : Option (List ℕ)) (text : List ℕ) (from at : ℕ) (nest : Nest) (begins : Bool) → InNest whole text from at nest begins → at < length text → (get_or text at 0 == 92) ≡ false → [] ≡ grammar.opened (open_of nest.inner) (opens_of nest.outer.items) begins (get_or text at 0) → ClosesAt text from (at + 1) (whole)
nest_closes whole text from at nest begins n within p e =
    let b : ℕ = get_or text at 0 in
    let small : get_or text at 0 < 128 = closer_small (open_of nest.inner) (opens_of nest.outer.items) begins (get_or text at 0) (sym e) in
    let place : at + 1 - 1 ≡ at = omega arith in
    record {
      is =
          sym n.same
          ∙ (ap (grammar.after_open (nest_of (Some nest)) begins false) (drop_more text at 0 within)
          ∙ (passed (open_of nest.inner) (opens_of nest.outer.items) begins (get_or text at 0) (drop (at + 1) text) p
          ∙ (ap (λ (os : List grammar.Open). grammar.after_open os (leads_word (get_or text at 0)) false (drop (at + 1) text)) (sym e)
          ∙ closed (leads_word (get_or text at 0)) (drop (at + 1) text))));
      forward = omega (arith, n.forward);
      within = omega (arith, within);
      before = λ utf8. subst (λ (i : ℕ). IsCharBoundary text i) (sym place) (IsCharBoundary-before_ascii text at within small);
      after = λ utf8. IsCharBoundary-after_ascii text at utf8 within small;
    }
