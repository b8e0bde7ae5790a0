-- How things are numbered in the order in which they first appear.
-- Each number is one that stands before it, or the next new one. Each mode has a row of them.
use Rattle.std.specs.Prelude.{◌≡◌, ◌+◌, ◌<◌, ◌⊎◌, ◌↔◌, ℕ, suc, List, [], ◌∷◌, length, Some, None, slice_get}
use Rattle.std.specs.declared.cmp.Ordering.{Ordering}
use Rattle.std.specs.BTreeMap.{BTreeMap, get, Updates, IsUnchanged, btree_map_len}
use Rattle.std.specs.List.{AllZip}
use Rattle.timing_types.specs.declared.views.View.{View}
use Rattle.timing_types.specs.declared.identities.Identity.{Identity}
use Rattle.timing_types.specs.contracts.identities.IdentityOrd.TheImpl as identity_order

-- numbers of which those below `next` are known, and `last` after them all
abbrev pub RisesTo : ℕ → List ℕ → ℕ → Type 0
RisesTo next [] last = next ≡ last
RisesTo next (number ∷ numbers) last =
    ((number < next) × RisesTo next numbers last) ⊎ ((number ≡ next) × RisesTo (suc next) numbers last)

-- numbers of these identities: equal exactly where the identities are, and new ones in order of their first appearance
pub record AreNumbers (identities : List Identity) (numbers : List ℕ) : Type 0 where
  pub length_is : length numbers ≡ length identities
  pub one : (p q : ℕ) → p < length numbers → q < length numbers
      → (slice_get numbers p ≡ slice_get numbers q) ↔ (slice_get identities p ≡ slice_get identities q)
  pub last : ℕ
  pub rises : RisesTo 0 numbers last

abbrev pub identity_cmp : Identity → Identity → Ordering
identity_cmp = (identity_order.ghosts).cmp

-- what numbering an identity leaves: it has its known number, or the next new one, which is known from then on
abbrev pub Numbers : BTreeMap Identity ℕ → Identity → ℕ → BTreeMap Identity ℕ → Type 0
Numbers before identity number after =
    ((get identity_cmp before identity ≡ Some number) × IsUnchanged before after)
    ⊎ ((get identity_cmp before identity ≡ None) × (number ≡ btree_map_len before)
    × Updates identity_cmp before after identity (Some number) × (btree_map_len after ≡ btree_map_len before + 1))

-- each mode has a row of as many numbers as it has clocks
abbrev pub HaveRows : List View → List (List ℕ) → Type 0
HaveRows = AllZip (λ view row. length row ≡ length view.mode.clocks)
