-- Tables from names to places. This project's own words.
-- It reads: a name has the place of the first thing of that name.
use Rattle.std.specs.Prelude.{◌≡◌, ℕ, suc, Bool, not, List, [], ◌∷◌, Option, Some, None, if◌then◌else◌}
use Rattle.indexmap.specs.IndexMap.{IndexMap, get_by}
use Rattle.std.specs.List.{list_all}
use Rattle.std.specs.Str.{bytes_eq}
use Rattle.text_model.specs.Names.{is_bad_byte}
use Rattle.text_model.specs.Words.{same_text}
use denote.Ref.{Bor}

abbrev pub next_place : Option ℕ → Option ℕ
next_place None = None
next_place (Some place) = Some (suc place)

-- the place of the first of these names that is the name
abbrev pub place_of : List (List ℕ) → List ℕ → Option ℕ
place_of [] name = None
place_of (first ∷ rest) name = if same_text first name then Some 0 else next_place (place_of rest name)

-- a table gives each name its place among these names
abbrev pub IsTable : {S : Type 0} → IndexMap (Bor (List ℕ)) ℕ S → List (List ℕ) → Type 0
IsTable table names = (name : List ℕ) → get_by (λ k. bytes_eq name k.now) table ≡ place_of names name

-- a place that stands, or else another one where it is meant
abbrev pub or_place : Option ℕ → Bool → ℕ → Option ℕ
or_place (Some place) meant other = Some place
or_place None meant other = if meant then Some other else None

-- a table has what another one has, and one more name at a place, where it had none
abbrev pub IsOneMore : {S : Type 0} → IndexMap (Bor (List ℕ)) ℕ S → IndexMap (Bor (List ℕ)) ℕ S → List ℕ → ℕ → Type 0
IsOneMore table more name place = (other : List ℕ)
    → get_by (λ k. bytes_eq other k.now) more ≡ or_place (get_by (λ k. bytes_eq other k.now) table) (bytes_eq name other) place

-- no byte of a name is one that no name has
abbrev pub no_bad_byte : List ℕ → Bool
no_bad_byte name = list_all (λ b. not (is_bad_byte b)) name
