-- Related pins, found by the places of names, are those of the cell.
use Rattle.std.proofs.Common.{◌≡◌, ◌∙◌, ◌+◌, ◌<◌, ℕ, Bool, true, false, cond, List, [], ◌∷◌, ◌++◌, length, map, Option, Some, None, refl, sym, ap, arith, nat_lt, not}
use Rattle.std.proofs.lemmas.Bool.Decides.{nat_tests}
use Rattle.std.specs.List.{flat_map}
use Rattle.std.specs.Prelude.{codes}
use Rattle.function_model.specs.FunctionText.{place_in}
use Rattle.library_model.specs.LibertyArcs as liberty
use Rattle.library_model.specs.LibertyCells.{NamedPin}
use Rattle.library_model.specs.LibertyStatements.{Member, groups, last_value, members}
use Rattle.library_model.specs.LibertyTiming.{timing_named}
use Rattle.text_model.specs.Words.{same_text}
use Rattle.text_model.proofs.ListFacts.{flat_map_same}
use Rattle.bool_lanes.specs.NamedNumbers.{HasPlaces, number_at, place_if}
use Rattle.lib_cells.specs.RelatedPins.{pin_if, related_all, related_in, related_word, related_words}
use Rattle.bool_lanes.specs.declared.numbers.Numbers.{Numbers}
use Rattle.bool_lanes.proofs.NumberFacts.{after_case, further, place_from-place_if}

-- ---- a name that is a pin

pin_further : (o : Option ℕ) (n m : ℕ) → m ≡ 1 + n → pin_if (further 1 o) m ≡ further 1 (pin_if o n)
pin_further None n m e = refl
pin_further (Some place) n m e = by_test (nat_lt place n) refl where
  by_test : (t : Bool) → nat_lt place n ≡ t → pin_if (Some (1 + place)) m ≡ further 1 (pin_if (Some place) n)
  by_test true h =
      let g : nat_lt (1 + place) m ≡ true = grind (arith, nat_tests) in
      rw (g, h) refl
  by_test false h =
      let g : nat_lt (1 + place) m ≡ false = grind (arith, nat_tests) in
      rw (g, h) refl

none_of_none : (o : Option ℕ) → pin_if o 0 ≡ None
none_of_none None = refl
none_of_none (Some place) =
    let g : nat_lt place 0 ≡ false = grind (arith, nat_tests) in
    rw g refl

first_test : (n m : ℕ) → 0 < n → 0 < m → pin_if (cond (nat_lt 0 n) (Some 0) None) m ≡ cond (nat_lt 0 m) (Some 0) None
first_test n m h k =
    let g : nat_lt 0 n ≡ true = grind (arith, nat_tests) in
    rw g refl

pin_step : (t : Bool) (all own n m n' m' : ℕ) → n' ≡ 1 + n → m' ≡ 1 + m
    → pin_if (cond (nat_lt all n) (Some all) None) m ≡ cond (nat_lt own m) (Some own) None
    → pin_if (cond (nat_lt (cond (not t) (1 + all) 0) n') (Some (cond (not t) (1 + all) 0)) None) m'
    ≡ cond (nat_lt (cond (not t) (1 + own) 0) m') (Some (cond (not t) (1 + own) 0)) None
pin_step true all own n m n' m' e f h = first_test n' m' (omega arith) (omega arith)
pin_step false all own n m n' m' e f h =
    ap (λ o. pin_if o m') (sym (after_case all n n' e))
    ∙ (pin_further (cond (nat_lt all n) (Some all) None) m m' f
    ∙ (ap (further 1) h ∙ after_case own m m' f))

-- among the names of pins and others after them, a name is a pin where it is one of their names
pin_if-place_if : (names others : List (List ℕ)) (name : List ℕ) → pin_if (place_if (names ++ others) name) (length names) ≡ place_if names name
pin_if-place_if [] others name = none_of_none (place_if others name)
pin_if-place_if (own ∷ names) others name =
    pin_step (same_text own name) (place_in (names ++ others) name) (place_in names name) (length (names ++ others)) (length names)
    (length (own ∷ (names ++ others))) (length (own ∷ names)) (omega arith) (omega arith) (pin_if-place_if names others name)

pin_found : (places : Numbers) (names others : List (List ℕ)) (name : List ℕ) → HasPlaces places (names ++ others)
    → pin_if (number_at places name) (length names) ≡ place_if names name
pin_found places names others name has =
    ap (λ o. pin_if o (length names)) (has name ∙ place_from-place_if (names ++ others) name) ∙ pin_if-place_if names others name

-- ---- related pins

word_step : (said : List Member) (to place : ℕ) (rest : List ℕ) (t : Bool)
    → related_word to (timing_named (last_value (codes "timing_type") said)) (last_value (codes "timing_sense") said) (cond t (Some place) None)
    ++ map (liberty.related_pin said to) rest ≡ map (liberty.related_pin said to) (cond t (place ∷ rest) rest)
word_step said to place rest true = refl
word_step said to place rest false = refl

words_same : (places : Numbers) (names others : List (List ℕ)) (to : ℕ) (said : List Member) → HasPlaces places (names ++ others) → (words : List (List ℕ))
    → related_words places (length names) to (timing_named (last_value (codes "timing_type") said)) (last_value (codes "timing_sense") said) words
    ≡ map (liberty.related_pin said to) (liberty.places_of names words)
words_same places names others to said has [] = refl
words_same places names others to said has (word ∷ words) =
    ap (λ o. related_word to (timing_named (last_value (codes "timing_type") said)) (last_value (codes "timing_sense") said) o
    ++ related_words places (length names) to (timing_named (last_value (codes "timing_type") said)) (last_value (codes "timing_sense") said) words)
    (pin_found places names others word has)
    ∙ (ap (λ rs. related_word to (timing_named (last_value (codes "timing_type") said)) (last_value (codes "timing_sense") said) (place_if names word) ++ rs)
    (words_same places names others to said has words)
    ∙ word_step said to (place_in names word) (liberty.places_of names words) (nat_lt (place_in names word) (length names)))

in_same : (places : Numbers) (names others : List (List ℕ)) (to : ℕ) → HasPlaces places (names ++ others) → (timing : Member)
    → related_in places (length names) to timing ≡ liberty.related_in names to timing
in_same places names others to has timing =
    words_same places names others to (members 4 timing.inside) has
    (liberty.words_if (last_value (codes "related_pin") (members 4 timing.inside)))

pub related_same : (places : Numbers) (names others : List (List ℕ)) → HasPlaces places (names ++ others) → (place : ℕ) (ps : List NamedPin)
    → related_all places (length names) place ps ≡ liberty.related_from names place ps
related_same places names others has place [] = refl
related_same places names others has place (pin ∷ ps) =
    ap (λ rs. rs ++ related_all places (length names) (place + 1) ps)
    (flat_map_same (related_in places (length names) place) (liberty.related_in names place) (in_same places names others place has)
    (groups (codes "timing") (members 3 pin.group.inside)))
    ∙ ap (λ rs. flat_map (liberty.related_in names place) (groups (codes "timing") (members 3 pin.group.inside)) ++ rs)
    (related_same places names others has (place + 1) ps)
