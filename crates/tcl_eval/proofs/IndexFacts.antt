-- An index inside parentheses.
use Rattle.std.proofs.Common.{◌≡◌, ◌<◌, ◌≤◌, ◌++◌, ℕ, zero, suc, List, [], ◌∷◌, Ok, Err, refl, arith}
use Rattle.source_types.specs.declared.kinds.Kind.TheVariants.{Tcl}
use Rattle.source_types.specs.declared.kinds.TclKind.TheVariants.{TooDeep}
use Rattle.timing_types.specs.declared.objects.Value.TheVariants as value
use Rattle.tcl_eval.specs.Worlds.{index_outcome}

pub index_too_deep : (left inside : ℕ) (script : List ℕ) → left ≤ inside → index_outcome left inside script ≡ Err (Tcl TooDeep)
index_too_deep zero inside script h = refl
index_too_deep (suc left) zero script h = absurd (omega (arith, h))
index_too_deep (suc left) (suc inside) script h = index_too_deep left inside script (omega (arith, h))

pub index_within : (left inside : ℕ) (script : List ℕ) → inside < left → index_outcome left inside script ≡ Ok (value.Text (91 ∷ (script ++ 93 ∷ [])))
index_within zero inside script h = absurd (omega (arith, h))
index_within (suc left) zero script h = refl
index_within (suc left) (suc inside) script h = index_within left inside script (omega (arith, h))
