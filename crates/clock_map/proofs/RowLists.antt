-- Rows of numbers joined end to end, and two lists that grow together.
use Rattle.std.proofs.Common.{◌≡◌, ℕ, ◌+◌, ◌-◌, ◌<◌, ◌≤◌, List, [], ◌∷◌, ◌++◌, length, take, drop, get_or, sym, ap, ◌∙◌, append_assoc, arith}
use Rattle.std.specs.List.{concat, AllZip}
use Rattle.std.proofs.lemmas.List.{take-append-drop, append-nil, drop-drop, drop_more, take_more, length-take-le, length-drop}
use Rattle.timing_types.specs.declared.views.View.{View}
use Rattle.merge_model.specs.PlainViews.{clock_count}

pub concat_push : (rows : List (List ℕ)) (row : List ℕ) → concat (rows ++ row ∷ []) ≡ concat rows ++ row
concat_push [] row = append-nil row
concat_push (first ∷ rows) row = ap (λ rest. first ++ rest) (concat_push rows row) ∙ sym (append_assoc first (concat rows) row)

-- one more row, taken from the front of what is left
pub rows_more : (rows : List (List ℕ)) (numbers : List ℕ) (at n : ℕ)
    → concat rows ++ drop at numbers ≡ numbers
    → concat (rows ++ take n (drop at numbers) ∷ []) ++ drop (at + n) numbers ≡ numbers
rows_more rows numbers at n left =
    let row = take n (drop at numbers) in
    ap (λ front. front ++ drop (at + n) numbers) (concat_push rows row)
    ∙ append_assoc (concat rows) row (drop (at + n) numbers)
    ∙ ap (λ rest. concat rows ++ (row ++ rest)) (sym (drop-drop n at numbers))
    ∙ ap (λ rest. concat rows ++ rest) (take-append-drop n (drop at numbers))
    ∙ left

pub zip_push : {A B : Type 0} (R : A → B → Type 0) (xs : List A) (ys : List B) (x : A) (y : B)
    → AllZip R xs ys → R x y → AllZip R (xs ++ x ∷ []) (ys ++ y ∷ [])
zip_push R [] [] x y all here = (here, tt)
zip_push R [] (z ∷ ys) x y all here = absurd all
zip_push R (z ∷ xs) [] x y all here = absurd all
zip_push R (w ∷ xs) (z ∷ ys) x y all here = (all.0, zip_push R xs ys x y all.1 here)

-- a row has as many numbers as its mode has clocks
abbrev pub FitsMode : View → List ℕ → Type 0
FitsMode view row = length row ≡ length view.mode.clocks

-- rows of the first modes, and the numbers that are left for the others
pub record RowsSoFar (views : List View) (numbers : List ℕ) (at i : ℕ) (rows : List (List ℕ)) : Type 0 where
  pub left : at + clock_count (drop i views) ≡ length numbers
  pub all : concat rows ++ drop at numbers ≡ numbers
  pub shape : AllZip FitsMode (take i views) rows

pub clocks_left : (views : List View) (i : ℕ) (view : View) → i < length views → view ≡ get_or views i view
    → clock_count (drop i views) ≡ length view.mode.clocks + clock_count (drop (i + 1) views)
clocks_left views i view within is =
    ap clock_count (drop_more views i view within ∙ ap (λ first. first ∷ drop (i + 1) views) (sym is))

pub rows_step : (views : List View) (numbers : List ℕ) (at i n : ℕ) (rows after : List (List ℕ)) (row : List ℕ) (view : View)
    → i < length views → view ≡ get_or views i view → n ≡ length view.mode.clocks
    → row ≡ take (at + n - at) (drop at numbers) → after ≡ rows ++ row ∷ []
    → RowsSoFar views numbers at i rows → RowsSoFar views numbers (at + n) (i + 1) after
rows_step views numbers at i n rows after row view within is count row_is after_is known =
    let same : at + n - at ≡ n = omega arith in
    let row_is' : row ≡ take n (drop at numbers) = row_is ∙ ap (λ k. take k (drop at numbers)) same in
    let e : after ≡ rows ++ take n (drop at numbers) ∷ [] = after_is ∙ ap (λ last. rows ++ last ∷ []) row_is' in
    let left = clocks_left views i view within is in
    let known_left = known.left in
    let room : n ≤ length (drop at numbers) = omega (arith, length-drop at numbers) in
    let fits : length row ≡ length view.mode.clocks = ap length row_is' ∙ length-take-le n (drop at numbers) room ∙ count in
    record {
      left = omega arith;
      all = rw e (rows_more rows numbers at n known.all);
      shape = rw (after_is, take_more views i view within, ← is) (zip_push FitsMode (take i views) rows view row known.shape fits);
    }
