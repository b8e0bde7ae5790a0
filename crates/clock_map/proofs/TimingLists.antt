-- What is kept of each mode, mode by mode.
use Rattle.std.proofs.Common.{◌≡◌, ℕ, zero, suc, ◌+◌, ◌<◌, ◌≤◌, List, [], ◌∷◌, ◌++◌, length, take, get_or, refl, sym, ap, ◌∙◌, subst, arith}
use Rattle.std.proofs.lemmas.List.{take_more, take_all, length-take-le}
use Rattle.std.proofs.lemmas.List.Elements.{All-nil, All-cons}
use Rattle.timing_types.specs.declared.views.View.{View}
use Rattle.constraint_model.specs.ListOrder.{HasEachOnce}
use Rattle.merge_model.specs.Exclusive.{HaveEachOnce}
use Rattle.clock_map.specs.declared.timings.Timing.{Timing}
use Rattle.clock_map.specs.Timings.{ArePlaces, HoldsPairs, IsTiming, AreTimings, FitsClocks, AllFit}

pub distinct_at : (maps : List (List ℕ)) (i : ℕ) (numbers : List ℕ) → HaveEachOnce maps → i < length maps → numbers ≡ get_or maps i numbers → HasEachOnce numbers
distinct_at maps i numbers apart within is = subst HasEachOnce (sym is) (at_place maps i numbers apart within) where
  at_place : (maps : List (List ℕ)) (i : ℕ) (d : List ℕ) → HaveEachOnce maps → i < length maps → HasEachOnce (get_or maps i d)
  at_place [] i d apart within = absurd (omega arith)
  at_place (numbers ∷ maps) zero d apart within = apart.0
  at_place (numbers ∷ maps) (suc i) d apart within = at_place maps i d apart.1 (omega arith)

timings_push : (count : ℕ) (views : List View) (maps : List (List ℕ)) (timings : List Timing) (view : View) (numbers : List ℕ) (timing : Timing)
    → length maps ≡ length views → AreTimings count views maps timings → IsTiming count view numbers timing
    → AreTimings count (views ++ view ∷ []) (maps ++ numbers ∷ []) (timings ++ timing ∷ [])
timings_push count [] [] [] view numbers timing beside known this = (this, refl)
timings_push count [] [] (other ∷ timings) view numbers timing beside known this = cc
timings_push count [] (other ∷ maps) timings view numbers timing beside known this = absurd (omega arith)
timings_push count (other ∷ views) [] timings view numbers timing beside known this = absurd (omega arith)
timings_push count (v ∷ views) (n ∷ maps) [] view numbers timing beside known this = absurd known
timings_push count (v ∷ views) (n ∷ maps) (t ∷ timings) view numbers timing beside known this =
    (known.0, timings_push count views maps timings view numbers timing (omega arith) known.1 this)

pub timings_step : (count : ℕ) (views : List View) (maps : List (List ℕ)) (i : ℕ) (timings timings' : List Timing) (view : View) (numbers : List ℕ) (timing : Timing)
    → length maps ≡ length views → i < length views → view ≡ get_or views i view → numbers ≡ get_or maps i numbers
    → timing.numbers ≡ numbers → ArePlaces count numbers timing.places.items → HoldsPairs view.mode.exclusive timing.exclusive.keys → timings' ≡ timings ++ timing ∷ []
    → AreTimings count (take i views) (take i maps) timings → AreTimings count (take (i + 1) views) (take (i + 1) maps) timings'
timings_step count views maps i timings timings' view numbers timing beside within view_is numbers_is kept places pairs timings_is known =
    let within' : i < length maps = omega arith in
    let more : take (i + 1) views ≡ take i views ++ view ∷ [] = take_more views i view within ∙ ap (λ v. take i views ++ v ∷ []) (sym view_is) in
    let more' : take (i + 1) maps ≡ take i maps ++ numbers ∷ [] = take_more maps i numbers within' ∙ ap (λ n. take i maps ++ n ∷ []) (sym numbers_is) in
    let short : length (take i maps) ≡ length (take i views) = length-take-le i maps (omega arith) ∙ sym (length-take-le i views (omega arith)) in
    rw (more, more', timings_is) (timings_push count (take i views) (take i maps) timings view numbers timing short known (record { kept = kept; places = places; pairs = pairs }))

pub timings_done : (count : ℕ) (views : List View) (maps : List (List ℕ)) (i : ℕ) (timings : List Timing) → length maps ≡ length views → length views ≤ i
    → AreTimings count (take i views) (take i maps) timings → AreTimings count views maps timings
timings_done count views maps i timings beside done known =
    let all : take i views ≡ views = take_all i views done in
    let all' : take i maps ≡ maps = take_all i maps (omega arith) in
    subst (λ (ms : List (List ℕ)). AreTimings count views ms timings) all' (subst (λ (vs : List View). AreTimings count vs (take i maps) timings) all known)

-- what is kept of each mode is of so many merged clocks
pub timings_fit : (count : ℕ) (views : List View) (maps : List (List ℕ)) (timings : List Timing) → AreTimings count views maps timings → AllFit count timings
timings_fit count [] maps timings known = subst (AllFit count) (sym known) (All-nil (FitsClocks count))
timings_fit count (view ∷ views) [] timings known = subst (AllFit count) (sym known) (All-nil (FitsClocks count))
timings_fit count (view ∷ views) (numbers ∷ maps) [] known = absurd known
timings_fit count (view ∷ views) (numbers ∷ maps) (timing ∷ timings) known =
    All-cons (FitsClocks count) timing timings
    (subst (λ (ns : List ℕ). ArePlaces count ns timing.places.items) (sym known.0.kept) known.0.places)
    (timings_fit count views maps timings known.1)
