-- How a number is written: in decimal, with decimals where it is not whole. This project's own.
-- Read `number_text_of` from its sign to its decimals.
use Rattle.std.specs.Prelude.{ℕ, ◌/◌, ◌%◌, ◌^◌, Bool, ◌==◌, if◌then◌else◌, List, [], ◌∷◌, ◌++◌, unsigned_abs, decimal}
use Rattle.std.specs.Int.{is_negative}
use Rattle.sdc_base.specs.Number.{Number}
use Rattle.sdc_base.specs.Time.{minus_text, places}

-- the decimals of r / 10 ^ 9: without zeros at the end, but at least one
abbrev pub decimals_of : ℕ → List ℕ
decimals_of r = if r == 0 then 48 ∷ [] else places 9 r (10 ^ 9)

-- the point and what stands after it, where the number is not whole by its form
abbrev pub fraction_text : Bool → ℕ → List ℕ
fraction_text whole r = if whole then [] else 46 ∷ decimals_of r

unfoldable pub number_text_of : Number → List ℕ
number_text_of n =
    let m = unsigned_abs n.scaled in
    minus_text (is_negative n.scaled) ++ (decimal (m / 10 ^ 9) ++ fraction_text n.whole (m % 10 ^ 9))
