-- One more printable clock after others.
use Rattle.std.proofs.Common.{◌≡◌, ℕ, false, IsTrue, List, [], ◌∷◌, ◌++◌, refl, sym, subst, append_assoc, ap, ◌∙◌}
use Rattle.std.proofs.lemmas.List.{append-nil}
use Rattle.timing_types.specs.declared.clocks.Clock.{Clock}
use Rattle.timing_types.specs.declared.clocks.Wave.{Wave}
use Rattle.mode_model.specs.ClockFile.{is_name, is_taken, virtual_clock}
use Rattle.mode_model.specs.PrintedFile.{ArePrintableClocks, IsPrintableClock}
use Rattle.constraint_model.specs.ClockWaves.{IsPrintableWave}

-- a printable clock of a new name after printable clocks keeps them printable
pub one_more : (before clocks : List Clock) (clock : Clock) → ArePrintableClocks before clocks → IsPrintableClock clock → is_taken clock.name (before ++ clocks) ≡ false → ArePrintableClocks before (clocks ++ clock ∷ [])
one_more before [] clock a p t = (p, ap (is_taken clock.name) (sym (append-nil before)) ∙ t, tt)
one_more before (first ∷ clocks) clock a p t = (
  a.0,
  a.1,
  one_more (before ++ first ∷ []) clocks clock a.2 p
      (ap (is_taken clock.name) (append_assoc before (first ∷ []) clocks) ∙ t),
)

pub next_clock : (clocks new : List Clock) (name : List ℕ) (wave : Wave) (clock : Clock) → ArePrintableClocks [] clocks → IsPrintableWave wave → IsTrue (is_name name) → is_taken name clocks ≡ false → clock ≡ virtual_clock 0 name wave → new ≡ clocks ++ clock ∷ [] → ArePrintableClocks [] new
next_clock clocks new name wave clock a w n t e f =
    let p : IsPrintableClock (virtual_clock 0 name wave) = (wave, refl, w, n) in
    let q : ArePrintableClocks [] (clocks ++ virtual_clock 0 name wave ∷ []) = one_more [] clocks (virtual_clock 0 name wave) a p t in
    subst (ArePrintableClocks []) (sym (f ∙ ap (λ c. clocks ++ c ∷ []) e)) q
