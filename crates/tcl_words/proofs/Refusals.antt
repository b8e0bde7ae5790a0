-- Refusals of calls that take no memory, among those of calls that do.
use Rattle.std.proofs.Common.{◌≡◌, Result, Ok, Err, sym, subst}
use Rattle.std.specs.Prelude.{IsErrAnd, MatchResult}
use Rattle.sdc_base.specs.Gives.{Meets}
use Rattle.sdc_base.specs.declared.memory.Stop.{Stop}
use Rattle.sdc_base.specs.declared.memory.Stop.TheVariants as stop

-- an answer with its refusal beside want of memory
abbrev pub IsRefused : {T K : Type 0} → Result T K → Result T (Stop K) → Type 0
IsRefused r s = MatchResult r (λ x. s ≡ Ok x) (λ kind. IsErrAnd s (λ why. why ≡ stop.Refused kind))

pub meets_refusal : {T K : Type 0} (r : Result T K) (s : Result T (Stop K)) (Outcome : Result T K → Type 0) → IsRefused r s → Outcome r → Meets s Outcome
meets_refusal (Ok x) s Outcome e h = subst (λ t. Meets t Outcome) (sym e) h
meets_refusal (Err kind) (Ok x) Outcome e h = absurd e
meets_refusal (Err kind) (Err why) Outcome e h = subst (λ w. Meets (Err w) Outcome) (sym e) h
