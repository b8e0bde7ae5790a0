-- The limits of all paths, by keys: in each view, for each class of paths of a key. This project's own form.
-- It reads: a view is a mode over the arcs of a pool, with the merged clocks that its clocks are. A key is there where
-- some view has a candidate path of it that is a launched prefix of the pool. For each class of the key's paths it has
-- the limit of every path of the class in each view, and the place of the exception that wins there.
use Rattle.std.specs.Prelude.{◌≡◌, ◌<◌, ℕ, ℤ, List, ◌∷◌, length, map, Option, Some, None, slice_get}
use Rattle.std.specs.List.{All, Contains}
use Rattle.timing_types.specs.declared.class_sets.Class.{Class}
use Rattle.timing_types.specs.declared.class_sets.ClassSets.{ClassSets}
use Rattle.timing_types.specs.declared.class_sets.Launched.{Launched}
use Rattle.timing_types.specs.declared.class_sets.Pool.{Pool}
use Rattle.timing_types.specs.declared.designs.Design.{Design}
use Rattle.timing_types.specs.declared.keys.ClassResult.{ClassResult}
use Rattle.timing_types.specs.declared.keys.KeyResult.{KeyResult}
use Rattle.timing_types.specs.declared.paths.Path.{Path}
use Rattle.pin_types.specs.declared.pins.Node.{Node}
use Rattle.pin_types.specs.declared.pins.Side.{Side}
use Rattle.timing_types.specs.declared.views.View.{View}
use Rattle.timing_model.specs.AnalysedModes.{AnalysedMode}
use Rattle.timing_model.specs.Analysis.{analysis_of_view}
use Rattle.timing_model.specs.Classes.{IsClassOf, IsClassOfPath, IsPrefix, classes_at}
use Rattle.timing_model.specs.WinnerOnPath.{HasWinner}
use Rattle.timing_model.specs.Keys.{Key, KeyBefore, key_of_ends, start_by_role}
use Rattle.pin_types.specs.Nodes.{node_number}
use Rattle.design_model.specs.DesignPins.{role_of}
use Rattle.timing_model.specs.OwnPaths.{IsOwnPath, IsRequiredBy}
use Rattle.timing_model.specs.Timed.{IsCandidate}
use Rattle.timing_model.specs.TimingPath.{Ends, ends_of_path}
use Rattle.constraint_model.specs.ListOrder.{Rises}

-- the view of a place as a mode of a merge
abbrev pub mode_of_view : Design → Pool → ℕ → View → AnalysedMode
mode_of_view design pool place view = record {
  analysis = analysis_of_view design pool place view;
  numbers = view.clock_map;
}

-- ---- keys

abbrev pub key_of : KeyResult → Key
key_of result = record {
  start = result.start;
  last = result.last;
  launch = result.launch;
  capture = result.capture;
  side = result.side;
}

-- the nodes of a path are those of a prefix that its launch edge launches
abbrev pub IsPrefixOf : Pool → Path → Ends → Type 0
IsPrefixOf pool path ends = (before : List Node) × (path.nodes ≡ ends.last ∷ before)
    × IsPrefix pool (record { start = ends.start; launch = path.launch }) ends.last before

-- a view has a candidate path of a key that is a launched prefix of the pool
pub record HasPathOfKey (pool : Pool) (view : AnalysedMode) (key : Key) : Type 0 where
  pub own : Path
  pub path : Path
  pub ends : Ends
  pub candidate : IsCandidate view.analysis own key.side
  pub is_own : IsOwnPath view.numbers own path
  pub are_ends : ends_of_path path ≡ Some ends
  pub is_prefix : IsPrefixOf pool path ends
  pub is_key : key_of_ends view.analysis.design ends key.side ≡ key

-- some view has one
abbrev pub IsKeyOfViews : Design → Pool → List View → Key → Type 0
IsKeyOfViews design pool views key = (place : ℕ) × (view : View) × (slice_get views place ≡ Some view)
    × HasPathOfKey pool (mode_of_view design pool place view) key

-- ---- classes of a key

-- a class of paths has a key's start and launch edge; a register's pin stands for both of its nodes
pub record IsClassOfKey (design : Design) (pool : Pool) (key : Key) (class : Class) : Type 0 where
  pub is_class : IsClassOfPath pool key.last class
  pub launch : class.launch ≡ key.launch
  pub start : start_by_role (role_of design class.start.pin.0) class.start ≡ key.start

-- a path of a key has a class
pub record IsPathOfClass (pool : Pool) (key : Key) (class : Class) (path : Path) : Type 0 where
  pub launched : Launched
  pub last : Node
  pub before : List Node
  pub is_prefix : IsPrefix pool launched key.last (last ∷ before)
  pub is_class : IsClassOf pool launched (key.last ∷ (last ∷ before)) class
  pub is : path ≡ record { nodes = key.last ∷ (last ∷ before); launch = key.launch; capture = key.capture }

-- ---- views

-- the limit of a path in a view, none where the view does not time it
abbrev pub LimitInView : AnalysedMode → Path → Side → Option ℤ → Type 0
LimitInView view path side (Some limit) = IsRequiredBy view path side limit
LimitInView view path side None = (limit : ℤ) → IsRequiredBy view path side limit → ⊥

-- an exception of a view wins on a path, timed there or not
abbrev pub WinsInView : AnalysedMode → Path → Side → ℕ → Type 0
WinsInView view path side place =
    (own : Path) × IsOwnPath view.numbers own path × HasWinner view.analysis own side (Some place)

-- the winner's place, none where none wins or the view has not the path's clocks
abbrev pub WinnerInView : AnalysedMode → Path → Side → Option ℕ → Type 0
WinnerInView view path side (Some place) = WinsInView view path side place
WinnerInView view path side None = (place : ℕ) → WinsInView view path side place → ⊥

-- ---- results

-- what a class has in each view, whichever its path is
pub record IsClassResult (design : Design) (pool : Pool) (sets : ClassSets) (views : List View) (key : Key) (result : ClassResult) : Type 0 where
  pub class : Class
  pub is : slice_get (classes_at sets (node_number key.last)) result.class ≡ Some class
  pub of_key : IsClassOfKey design pool key class
  pub by_view : (length result.limits ≡ length views) × (length result.winners ≡ length views)
  pub limits : (place : ℕ) (view : View) (limit : Option ℤ) (path : Path) → slice_get views place ≡ Some view
      → slice_get result.limits place ≡ Some limit → IsPathOfClass pool key class path
      → LimitInView (mode_of_view design pool place view) path key.side limit
  pub winners : (place : ℕ) (view : View) (winner : Option ℕ) (path : Path) → slice_get views place ≡ Some view
      → slice_get result.winners place ≡ Some winner → IsPathOfClass pool key class path
      → WinnerInView (mode_of_view design pool place view) path key.side winner

-- a key's results: one for each class of its paths, by place
pub record IsKeyResult (design : Design) (pool : Pool) (sets : ClassSets) (views : List View) (result : KeyResult) : Type 0 where
  pub is_key : IsKeyOfViews design pool views (key_of result)
  pub each : All (IsClassResult design pool sets views (key_of result)) result.results
  pub every : (place : ℕ) (class : Class) → slice_get (classes_at sets (node_number result.last)) place ≡ Some class
      → IsClassOfKey design pool (key_of result) class → Contains (map (λ (one : ClassResult). one.class) result.results) place
  pub order : Rises (λ (one : ClassResult) (other : ClassResult). one.class < other.class) result.results

-- the results of all keys of views, in the order of keys
pub record AreKeyResults (design : Design) (pool : Pool) (sets : ClassSets) (views : List View) (results : List KeyResult) : Type 0 where
  pub each : All (IsKeyResult design pool sets views) results
  pub every : (key : Key) → IsKeyOfViews design pool views key → Contains (map key_of results) key
  pub order : Rises (λ (one : KeyResult) (other : KeyResult). KeyBefore (key_of one) (key_of other)) results
