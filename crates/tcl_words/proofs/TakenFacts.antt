-- An item with backslashes, run by run.
use Rattle.std.proofs.Common.{◌≡◌, ◌<◌, ◌≤◌, ◌+◌, ◌==◌, ◌++◌, inl, inr, ℕ, true, false, not, List, [], ◌∷◌, drop, length, get_or, refl, sym, ap, subst, ◌∙◌, arith, append_assoc}
use Rattle.std.proofs.lemmas.Bool.{cases_Bool, both_ways, eqb-true}
use Rattle.std.proofs.lemmas.Bool.Decides.{nat_tests}
use Rattle.std.proofs.lemmas.List.{drop_more, append-nil}
use Rattle.std.proofs.lemmas.Str.{IsCharBoundary-after_ascii, IsCharBoundary-before_ascii, IsCharBoundary-end}
use Rattle.std.specs.List.{list_any}
use Rattle.std.specs.Str.{IsCharBoundary, IsUtf8}
use Rattle.text_model.specs.Bytes.{after, front}
use Rattle.tcl_model.specs.ListText.{in_braces, is_taken, item_text, needs_backslashes, needs_braces, plain_item, taken_as, with_backslashes}
use Rattle.tcl_words.specs.Steps.{between}
use Rattle.tcl_words.specs.Taken.{IsPushed, UntakenTo, is_bare, untaken}
use Rattle.tcl_words.proofs.PieceFacts.{front_between}
use Rattle.tcl_words.proofs.TakenBack.{with_none, with_taken}
use Rattle.tcl_words.proofs.RunFacts.{RunTo, drop_all, run_stops}

-- ---- runs

taken_small : (b : ℕ) → is_taken b ≡ true → b < 128
taken_small b p = grind (arith, nat_tests)

untaken_ends : (item : List ℕ) (from at : ℕ) → RunTo untaken item from at → (at < length item → is_taken (get_or item at 0) ≡ true) → IsCharBoundary item at
untaken_ends item from at run ends =
    elim (cases_Bool (at == length item)) [
      | inl e ↦ subst (λ (i : ℕ). IsCharBoundary item i) (sym (eqb-true at (length item) e)) (IsCharBoundary-end item)
      | inr e ↦
          let within : at < length item = grind (arith, nat_tests, run.within) in
          IsCharBoundary-before_ascii item at within (taken_small (get_or item at 0) (ends within))
    ]

is_taken_there : (b : ℕ) → untaken b ≡ false → is_taken b ≡ true
is_taken_there b h = elim (cases_Bool (is_taken b)) [ inl p ↦ p | inr p ↦ let f : true ≡ false = rw p at h in absurd (both_ways true f refl) ]

taken_ends : (item : List ℕ) (from at : ℕ) → RunTo untaken item from at → (at < length item → is_taken (get_or item at 0) ≡ true) → (at < length item → untaken (get_or item at 0) ≡ false) → UntakenTo item from at
taken_ends item from at run ends fails = record {
  leads = record {
    is = run_stops untaken item from at run fails;
    forward = run.forward;
    within = run.within;
    keeps = λ utf8 cuts. untaken_ends item from at run ends;
  };
  ends = ends;
  boundary = untaken_ends item from at run ends;
}

pub untaken_to : (item : List ℕ) (from at : ℕ) → RunTo untaken item from at → (at < length item → untaken (get_or item at 0) ≡ false) → UntakenTo item from at
untaken_to item from at run fails = taken_ends item from at run (λ less. is_taken_there (get_or item at 0) (fails less)) fails

-- ---- an item with its backslashes

with_run : (item : List ℕ) → with_backslashes item ≡ front untaken item ++ with_backslashes (after untaken item)
unfolding with_backslashes front after
with_run [] = refl
with_run (b ∷ bs) = elim (cases_Bool (is_taken b)) [
  | inl p ↦ rw p (sym (with_taken b bs p))
  | inr p ↦ rw p (ap (λ (t : List ℕ). b ∷ t) (with_run bs))
]

run_is : (item : List ℕ) (from end : ℕ) → UntakenTo item from end → with_backslashes (drop from item) ≡ between item from end ++ with_backslashes (drop end item)
run_is item from end run =
    with_run (drop from item)
    ∙ (ap (λ (t : List ℕ). t ++ with_backslashes (after untaken (drop from item))) (front_between untaken item from end run.leads)
    ∙ ap (λ (t : List ℕ). between item from end ++ with_backslashes t) run.leads.is)

pub pushed_end : (before item later : List ℕ) (from end : ℕ) → from < length item → UntakenTo item from end → end ≡ length item → later ≡ before ++ between item from end → IsPushed before item from later end
pushed_end before item later from end within run e written = record {
  same =
      ap (λ (t : List ℕ). t ++ with_backslashes (drop end item)) written
      ∙ (append_assoc before (between item from end) (with_backslashes (drop end item)) ∙ ap (λ (t : List ℕ). before ++ t) (sym (run_is item from end run)));
  forward = omega (arith, within, e);
  within = run.leads.within;
  boundary = run.boundary;
}

taken_here : (item : List ℕ) (end : ℕ) → end < length item → is_taken (get_or item end 0) ≡ true → with_backslashes (drop end item) ≡ 92 ∷ (taken_as (get_or item end 0) ∷ with_backslashes (drop (end + 1) item))
taken_here item end within p = ap with_backslashes (drop_more item end 0 within) ∙ with_taken (get_or item end 0) (drop (end + 1) item) p

pushed_byte : (before item middle later : List ℕ) (from end : ℕ) → IsUtf8 item → UntakenTo item from end → end < length item → middle ≡ before ++ between item from end → later ≡ middle ++ 92 ∷ (taken_as (get_or item end 0) ∷ []) → IsPushed before item from later (end + 1)
pushed_byte before item middle later from end utf8 run within first second =
    record {
      same =
          ap (λ (t : List ℕ). t ++ with_backslashes (drop (end + 1) item)) second
          ∙ (append_assoc middle (92 ∷ (taken_as (get_or item end 0) ∷ [])) (with_backslashes (drop (end + 1) item))
          ∙ (ap (λ (t : List ℕ). middle ++ t) (sym (taken_here item end within (run.ends within)))
          ∙ (ap (λ (t : List ℕ). t ++ with_backslashes (drop end item)) first
          ∙ (append_assoc before (between item from end) (with_backslashes (drop end item)) ∙ ap (λ (t : List ℕ). before ++ t) (sym (run_is item from end run))))));
      forward = omega (arith, run.leads.forward);
      within = omega (arith, within);
      boundary = IsCharBoundary-after_ascii item end utf8 within (taken_small (get_or item end 0) (run.ends within));
    }

pub pushed_taken : (before item middle later pair : List ℕ) (from end : ℕ) → IsUtf8 item → UntakenTo item from end → (end ≡ length item → ⊥) → middle ≡ before ++ between item from end → pair ≡ 92 ∷ (taken_as (get_or item end 0) ∷ []) → later ≡ middle ++ pair → IsPushed before item from later (end + 1)
pushed_taken before item middle later pair from end utf8 run other first e added =
    pushed_byte before item middle later from end utf8 run (omega (arith, run.leads.within, other)) first (added ∙ ap (λ (t : List ℕ). middle ++ t) e)

-- an item is written up to a place
pub record WrittenTo (before item : List ℕ) (at : ℕ) (made : List ℕ) : Type 0 where
  pub same : made ++ with_backslashes (drop at item) ≡ before ++ with_backslashes item
  pub within : at ≤ length item
  pub boundary : IsCharBoundary item at

pub written_none : (before item : List ℕ) → IsCharBoundary item 0 → WrittenTo before item 0 before
written_none before item boundary = record { same = refl; within = omega arith; boundary = boundary }

pub written_more : (before item made later : List ℕ) (at next : ℕ) → WrittenTo before item at made → IsPushed made item at later next → WrittenTo before item next later
written_more before item made later at next so_far p = record { same = p.same ∙ so_far.same; within = p.within; boundary = p.boundary }

pub written_all : (before item made : List ℕ) (at : ℕ) → WrittenTo before item at made → length item ≤ at → made ≡ before ++ with_backslashes item
written_all before item made at so_far ends =
    let e : at ≡ length item = omega (arith, so_far.within, ends) in
    sym (append-nil made) ∙ (ap (λ (t : List ℕ). made ++ t) (sym (ap with_backslashes (drop_all item at e) ∙ with_none)) ∙ so_far.same)

-- ---- an item by its kinds of bytes

pub item_taken : (item : List ℕ) → list_any needs_backslashes item ≡ true → item_text item ≡ with_backslashes item
unfolding item_text
item_taken item p = rw p refl

pub item_plain : (item : List ℕ) → list_any needs_backslashes item ≡ false → item_text item ≡ plain_item item
unfolding item_text
item_plain item p = rw p refl

pub bare_none : (item : List ℕ) → length item ≡ 0 → is_bare item ≡ false
bare_none [] e = refl
bare_none (b ∷ bs) e = absurd (omega (arith, e))

pub bare_some : (item : List ℕ) → (length item ≡ 0 → ⊥) → is_bare item ≡ not (list_any needs_braces item)
bare_some [] e = absurd (e refl)
bare_some (b ∷ bs) e = refl

pub plain_bare : (item : List ℕ) → is_bare item ≡ true → plain_item item ≡ item
plain_bare [] h = absurd (both_ways false refl h)
plain_bare (b ∷ bs) h = elim (cases_Bool (list_any needs_braces (b ∷ bs))) [
  | inl p ↦ let f : false ≡ true = rw p at h in absurd (both_ways false refl f)
  | inr p ↦ rw p refl
]

pub plain_braced : (item : List ℕ) → is_bare item ≡ false → plain_item item ≡ in_braces item
plain_braced [] h = refl
plain_braced (b ∷ bs) h = elim (cases_Bool (list_any needs_braces (b ∷ bs))) [
  | inl p ↦ rw p refl
  | inr p ↦ let f : true ≡ false = rw p at h in absurd (both_ways true f refl)
]
