-- Things in a row: pieces of a word, words of a command, commands of a text. This project's own way to write a
-- grammar. A relation says what stands at a place: a thing and the place after it, or what stops the row there.
-- It reads: each thing stands where the one before it ends, and after the last one stands what stops the row.
use Rattle.std.specs.Prelude.{◌≡◌, List, [], ◌∷◌}

-- what stands at a place
pub data Front (Thing Place End : Type 0) : Type 0 where
  found : Thing → Place → Front Thing Place End
  stops : End → Front Thing Place End

-- these things stand in a row from a place on, and this stops it
abbrev pub Row : {Thing Place End : Type 0} → (Place → Front Thing Place End → Type 0) → List Thing → Place → End → Type 0
Row Stands [] place end = Stands place (stops end)
Row {Place = P} Stands (thing ∷ things) place end = (next : P) × Stands place (found thing next) × Row Stands things next end

-- a relation says at most one thing of a place: what is found there, or what stops the row
abbrev pub HasOne : {Thing Place End : Type 0} → (Place → Front Thing Place End → Type 0) → Place → Type 0
HasOne {Thing = T} {Place = P} {End = E} Stands place = (f g : Front T P E) → Stands place f → Stands place g → f ≡ g
