-- Rows and what they are rows of, place by place.
use Rattle.std.proofs.Common.{◌≡◌, ◌<◌, ℕ, zero, suc, List, [], ◌∷◌, map, length, take, slice_get, Option, Some, None, sym, ◌∙◌, ap, subst, arith}
use Rattle.std.proofs.lemmas.Option.{slice_get_within}
use Rattle.source_types.specs.declared.netlists.Instance.{Instance}
use Rattle.source_types.specs.declared.netlists.Module.{Module}
use Rattle.flat_model.specs.Instances.{Placed, ModuleInstance}
use Rattle.flat_design.specs.declared.elaborate.elaboration.Outer.{Outer}
use Rattle.flat_design.specs.declared.elaborate.elaboration.ModuleInstanceRow.{ModuleInstanceRow}
use Rattle.flat_design.specs.Hierarchy.{prefix_in}
use Rattle.flat_design.specs.Elaboration.{IsEarlier, IsOpened, IsOpenedBy, IsPlaced, IsModuleInstance}
use Rattle.flat_design.proofs.RangeFacts.{map_at}

-- one thing stands at one place
pub one_at : {X : Type 0} (xs : List X) (n : ℕ) (x y : X) → slice_get xs n ≡ Some x → slice_get xs n ≡ Some y → x ≡ y
one_at xs n x y one other = let e : Some x ≡ Some y = sym one ∙ other in cc

pub scope_within : (scopes : List ModuleInstance) (rows : List ModuleInstanceRow) (n : ℕ) (scope : ModuleInstance) → length rows ≡ length scopes → slice_get scopes n ≡ Some scope → n < length rows
scope_within scopes rows n scope same at = let low = slice_get_within scopes n scope at in omega (arith, low, same)

pub body_within : (modules : List Module) (scopes : List ModuleInstance) (n : ℕ) (row : ModuleInstanceRow) → IsModuleInstance modules scopes n row → row.body < length modules
body_within modules scopes n row is = slice_get_within modules row.body is.scope.body is.body

pub instance_within : (scopes : List ModuleInstance) (at : Outer) (placed : Placed) (instances : List Instance) → IsPlaced scopes placed at
    → instances ≡ placed.scope.body.instances → at.instance < length instances
instance_within scopes at placed instances is same =
    slice_get_within instances at.instance placed.instance (ap (λ (xs : List Instance). slice_get xs at.instance) same ∙ is.instance)

-- ---- prefixes

-- the module that a row is of, by its place
opened_at : (modules : List Module) (scopes : List ModuleInstance) (n : ℕ) (row : ModuleInstanceRow) (scope : ModuleInstance) → (is : IsModuleInstance modules scopes n row) → slice_get scopes n ≡ Some scope
    → IsOpened scopes scope row.outer
opened_at modules scopes n row scope is at = subst (λ (s : ModuleInstance). IsOpened scopes s row.outer) (one_at scopes n is.scope scope is.at at) is.opened

pub prefix_top : (modules : List Module) (scopes : List ModuleInstance) (n : ℕ) (row : ModuleInstanceRow) (scope : ModuleInstance) → IsModuleInstance modules scopes n row → slice_get scopes n ≡ Some scope
    → row.outer ≡ None → [] ≡ scope.prefix
prefix_top modules scopes n row scope is at none =
    let own : IsOpened scopes scope None = subst (λ (o : Option Outer). IsOpened scopes scope o) none (opened_at modules scopes n row scope is at) in
    sym own.1

pub opened_by : (modules : List Module) (scopes : List ModuleInstance) (n : ℕ) (row : ModuleInstanceRow) (scope : ModuleInstance) (at : Outer) → IsModuleInstance modules scopes n row
    → slice_get scopes n ≡ Some scope → row.outer ≡ Some at → IsOpenedBy scopes scope at
opened_by modules scopes n row scope at is found some =
    subst (λ (o : Option Outer). IsOpened scopes scope o) some (opened_at modules scopes n row scope is found)

pub opened_before : (modules : List Module) (scopes : List ModuleInstance) (n : ℕ) (row : ModuleInstanceRow) (at : Outer) → IsModuleInstance modules scopes n row
    → row.outer ≡ Some at → at.scope < n
opened_before modules scopes n row at is some = subst (λ (o : Option Outer). IsEarlier o n) some is.earlier

get_take : {X : Type 0} (xs : List X) (n k : ℕ) (x : X) → k < n → slice_get xs k ≡ Some x → slice_get (take n xs) k ≡ Some x
get_take [] n k x low at = let bad : None ≡ Some x = at in cc
get_take (y ∷ xs) zero k x low at = absurd (omega (arith, low))
get_take (y ∷ xs) (suc n) zero x low at = at
get_take (y ∷ xs) (suc n) (suc k) x low at = get_take xs n k x (omega (arith, low)) at

-- the prefix of a module around
pub prefix_of_before : (before : List (List ℕ)) (scopes : List ModuleInstance) (n : ℕ) (at : Outer) (placed : Placed) (text : List ℕ) → before ≡ map prefix_in (take n scopes)
    → at.scope < n → IsPlaced scopes placed at → slice_get before at.scope ≡ Some text → text ≡ placed.scope.prefix
prefix_of_before before scopes n at placed text same low is read =
    one_at before at.scope text placed.scope.prefix read
    (ap (λ (xs : List (List ℕ)). slice_get xs at.scope) same
    ∙ map_at prefix_in (take n scopes) at.scope placed.scope (get_take scopes n at.scope placed.scope low is.scope))

-- the prefix of any module
pub prefix_there : (prefixes : List (List ℕ)) (scopes : List ModuleInstance) (k : ℕ) (scope : ModuleInstance) (text : List ℕ) → prefixes ≡ map prefix_in scopes
    → slice_get scopes k ≡ Some scope → slice_get prefixes k ≡ Some text → text ≡ scope.prefix
prefix_there prefixes scopes k scope text same at read =
    one_at prefixes k text scope.prefix read (ap (λ (xs : List (List ℕ)). slice_get xs k) same ∙ map_at prefix_in scopes k scope at)
