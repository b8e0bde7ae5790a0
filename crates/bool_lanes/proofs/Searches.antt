-- A search that goes over the completions in turn, and ends with the first that it looks for.
use Rattle.std.proofs.Common.{◌≡◌, ◌↔◌, ◌<◌, ℕ, Bool, true, false, IsTrue, refl, sym, ◌∙◌}
use Rattle.bool_lanes.proofs.ForcedFacts.{apart_ft}

-- a test that failed: it is not so here
pub failed : {A : Type 0} (answer : Bool) → (IsTrue answer ↔ A) → answer ≡ false → A → ⊥
failed answer says e a = apart_ft (sym e ∙ says.1 a)

-- one is found
pub found : (P : ℕ → Type 0) (c : ℕ) → P c → IsTrue true ↔ ((c : ℕ) × P c)
found P c p = (λ e. (c, p), λ q. refl)

-- none is found, and there is none from the end on
pub not_found : (P : ℕ → Type 0) (n : ℕ) → ((c : ℕ) → c < n → P c → ⊥) → ((c : ℕ) → P c → c < n) → IsTrue false ↔ ((c : ℕ) × P c)
not_found P n none within = (λ e. absurd (apart_ft e), λ q. absurd (none q.0 (within q.0 q.1) q.1))
