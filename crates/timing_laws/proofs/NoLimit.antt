-- A path has no limit exactly where a false path wins: a delay and a multicycle lead to a relation.
use Rattle.std.proofs.Common.{◌≡◌, ◌∙◌, ℕ, List, Option, Some, None, refl, sym, ap}
use Rattle.std.specs.Prelude.{◌↔◌, ℤ, ◌+ℤ◌}
use Rattle.std.specs.Option.{option_map}
use Rattle.std.proofs.lemmas.Option.{none-some}
use Rattle.timing_types.specs.declared.clocks.Wave.{Wave}
use Rattle.timing_types.specs.declared.constraints.ExCommand.{ExCommand}
use Rattle.timing_types.specs.declared.constraints.ExCommand.TheVariants.{FalsePath, Delay, Multicycle}
use Rattle.timing_types.specs.declared.constraints.Exception.{Exception}
use Rattle.timing_types.specs.declared.modes.Mode.{Mode}
use Rattle.timing_types.specs.declared.paths.Periods.{Periods}
use Rattle.pin_types.specs.declared.pins.Side.{Side}
use Rattle.timing_model.specs.Limit.{adjustment, base_relation, changed_by, changed_relation, IsLimit, setup_move, winning}
use Rattle.timing_model.specs.TimingPath.{Ends}

abbrev IsFalsePath : Option Exception → Type 0
IsFalsePath winner = (exception : Exception) × (winner ≡ Some exception) × (exception.command ≡ FalsePath)

-- whatever is added to the relation
module _ (add : ℤ → ℤ) (periods : Periods) (side : Side) (base : ℤ) where
  by_command : (exception : Exception) (command : ExCommand) → option_map add (changed_by periods side base exception command) ≡ None
      → command ≡ FalsePath
  by_command exception FalsePath none = refl
  by_command exception Delay none = absurd (none-some _ (sym none))
  by_command exception Multicycle none = absurd (none-some _ (sym none))

  none_so : (winner : Option Exception) → option_map add (changed_relation periods side base winner) ≡ None → IsFalsePath winner
  none_so None none = absurd (none-some _ (sym none))
  none_so (Some exception) none = (exception, refl, by_command exception exception.command none)

  so_none : (winner : Option Exception) → IsFalsePath winner → option_map add (changed_relation periods side base winner) ≡ None
  so_none winner wins =
      ap (λ w. option_map add (changed_relation periods side base w)) wins.1
      ∙ ap (λ c. option_map add (changed_by periods side base wins.0 c)) wins.2

pub no_limit : (mode : Mode) (waves : List Wave) (ends : Ends) (Match : Side → ℕ → Type 0) (side : Side) (limit : Option ℤ)
    → (is : IsLimit mode waves ends Match side limit) → (limit ≡ None) ↔ IsFalsePath (winning mode.exceptions is.winner)
no_limit mode waves ends Match side limit is =
    let add : ℤ → ℤ = λ changed. changed +ℤ adjustment mode is.launch is.capture ends side in
    let periods : Periods = record { launch = is.launch_wave.period; capture = is.capture_wave.period } in
    let base : ℤ = base_relation side is.relation (setup_move periods (winning mode.exceptions is.best)) in
    let winner = winning mode.exceptions is.winner in (
      λ none. none_so add periods side base winner (sym is.is ∙ none),
      λ wins. is.is ∙ so_none add periods side base winner wins,
    )
