-- A path has one limit on a side: its clocks, their waves, the relation of their edges and the winners are each one.
use Rattle.std.proofs.Common.{◌≡◌, ◌∙◌, ℕ, List, Option, Some, None, refl, sym, ap, subst}
use Rattle.std.specs.Prelude.{ℤ, ◌+ℤ◌}
use Rattle.std.specs.Option.{option_map}
use Rattle.std.proofs.lemmas.Option.{same_Some}
use Rattle.timing_types.specs.declared.clocks.Clock.{Clock}
use Rattle.timing_types.specs.declared.clocks.Wave.{Wave}
use Rattle.timing_types.specs.declared.constraints.Exception.{Exception}
use Rattle.timing_types.specs.declared.edge_times.Relation.{Relation}
use Rattle.timing_types.specs.declared.modes.Mode.{Mode}
use Rattle.timing_types.specs.declared.paths.Path.{Path}
use Rattle.timing_types.specs.declared.paths.Periods.{Periods}
use Rattle.pin_types.specs.declared.pins.Side.{Side}
use Rattle.pin_types.specs.declared.pins.Side.TheVariants.{Setup}
use Rattle.timing_model.specs.Analysis.{Analysis}
use Rattle.timing_model.specs.Limit.{adjustment, base_relation, changed_relation, edge_time, IsLimit, MulticycleMatch, setup_move, winning}
use Rattle.timing_model.specs.Matching.{MatchesAt}
use Rattle.timing_model.specs.Relation.{IsRelation}
use Rattle.timing_model.specs.Timed.{HasLimit}
use Rattle.timing_model.specs.TimingPath.{Ends}
use Rattle.timing_model.specs.Winner.{WinnerIs}
use Rattle.timing_model.proofs.RelationFacts.{same_relation}
use Rattle.timing_laws.proofs.OneWinner.{one_winner}

-- ---- winners

same_winner : (exceptions : List Exception) (Match : ℕ → Type 0) (side : Side) (periods : Periods) (place other : Option ℕ)
    → WinnerIs exceptions Match side periods place → WinnerIs exceptions Match side periods other → place ≡ other
same_winner exceptions Match side periods (Some place) (Some other) one two = ap Some (one_winner exceptions Match side periods place other one two)
same_winner exceptions Match side periods (Some place) None one two = absurd (two place one.exception one.is one.matches)
same_winner exceptions Match side periods None (Some other) one two = absurd (one other two.exception two.is two.matches)
same_winner exceptions Match side periods None None one two = refl

-- ---- limits

abbrev periods_of : Wave → Wave → Periods
periods_of launch capture = record { launch = launch.period; capture = capture.period }

module _ (mode : Mode) (ends : Ends) (Match : Side → ℕ → Type 0) (side : Side) where
  -- the limit under two clocks with their waves, by the relation and the winners
  abbrev value : Clock → Clock → Periods → Relation → Option ℕ → Option ℕ → Option ℤ
  value launch capture periods relation best winner =
      option_map (λ changed. changed +ℤ adjustment mode launch capture ends side)
      (changed_relation periods side (base_relation side relation (setup_move periods (winning mode.exceptions best)))
      (winning mode.exceptions winner))

  -- what makes a limit of these clocks and waves
  record Makes (launch capture : Clock) (launch_wave capture_wave : Wave) (limit : Option ℤ) : Type 0 where
    relation : Relation
    winner : Option ℕ
    best : Option ℕ
    related : IsRelation (edge_time launch_wave ends.launch.edge) launch_wave.period
        (edge_time capture_wave ends.capture.edge) capture_wave.period relation
    wins : WinnerIs mode.exceptions (Match side) side (periods_of launch_wave capture_wave) winner
    wins_setup : WinnerIs mode.exceptions (MulticycleMatch mode.exceptions (Match Setup)) Setup (periods_of launch_wave capture_wave) best
    is : limit ≡ value launch capture (periods_of launch_wave capture_wave) relation best winner

  same_made : (launch capture : Clock) (launch_wave capture_wave : Wave) (limit other : Option ℤ)
      → Makes launch capture launch_wave capture_wave limit → Makes launch capture launch_wave capture_wave other → limit ≡ other
  same_made launch capture launch_wave capture_wave limit other one two =
      let periods = periods_of launch_wave capture_wave in
      let relation = same_relation (edge_time launch_wave ends.launch.edge) launch_wave.period
      (edge_time capture_wave ends.capture.edge) capture_wave.period one.relation two.relation one.related two.related in
      let winner = same_winner mode.exceptions (Match side) side periods one.winner two.winner one.wins two.wins in
      let best = same_winner mode.exceptions (MulticycleMatch mode.exceptions (Match Setup)) Setup periods one.best two.best one.wins_setup two.wins_setup in
      one.is ∙ ap (λ r. value launch capture periods r one.best one.winner) relation
      ∙ ap (λ b. value launch capture periods two.relation b one.winner) best
      ∙ ap (λ w. value launch capture periods two.relation two.best w) winner ∙ sym two.is

  makes : (waves : List Wave) (limit : Option ℤ) (is : IsLimit mode waves ends Match side limit)
      → Makes is.launch is.capture is.launch_wave is.capture_wave limit
  makes waves limit is = record {
    relation = is.relation;
    winner = is.winner;
    best = is.best;
    related = is.related;
    wins = is.wins;
    wins_setup = is.wins_setup;
    is = is.is;
  }

  one_limit : (waves : List Wave) (limit other : Option ℤ) → IsLimit mode waves ends Match side limit → IsLimit mode waves ends Match side other
      → limit ≡ other
  one_limit waves limit other one two =
      let launch : two.launch ≡ one.launch = same_Some two.launch one.launch (sym two.is_launch ∙ one.is_launch) in
      let capture : two.capture ≡ one.capture = same_Some two.capture one.capture (sym two.is_capture ∙ one.is_capture) in
      let launch_wave : two.launch_wave ≡ one.launch_wave = same_Some two.launch_wave one.launch_wave (sym two.has_launch_wave ∙ one.has_launch_wave) in
      let capture_wave : two.capture_wave ≡ one.capture_wave
      = same_Some two.capture_wave one.capture_wave (sym two.has_capture_wave ∙ one.has_capture_wave) in
      let made : Makes two.launch two.capture two.launch_wave two.capture_wave other = makes waves other two in
      let by_launch = subst (λ c. Makes c two.capture two.launch_wave two.capture_wave other) launch made in
      let by_capture = subst (λ c. Makes one.launch c two.launch_wave two.capture_wave other) capture by_launch in
      let by_launch_wave = subst (λ w. Makes one.launch one.capture w two.capture_wave other) launch_wave by_capture in
      let by_capture_wave = subst (λ w. Makes one.launch one.capture one.launch_wave w other) capture_wave by_launch_wave in
      same_made one.launch one.capture one.launch_wave one.capture_wave limit other (makes waves limit one) by_capture_wave

pub one_limit_of_path : (analysis : Analysis) (path : Path) (side : Side) (limit other : Option ℤ) → HasLimit analysis path side limit
    → HasLimit analysis path side other → limit ≡ other
one_limit_of_path analysis path side limit other one two =
    let same : two.0 ≡ one.0 = same_Some two.0 one.0 (sym two.1 ∙ one.1) in
    let is : IsLimit analysis.mode analysis.waves one.0 (MatchesAt analysis.mode.exceptions path) side other
    = subst (λ ends. IsLimit analysis.mode analysis.waves ends (MatchesAt analysis.mode.exceptions path) side other) same two.2 in
    one_limit analysis.mode one.0 (MatchesAt analysis.mode.exceptions path) side analysis.waves limit other one.2 is
