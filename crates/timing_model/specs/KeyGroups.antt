-- Keys grouped by the relations of their ends, and the least path with a class. This project's own rule.
-- It reads: a group has the places of all keys with one end pin, one pair of clock edges and one side. Of the launched
-- prefixes of two nodes or more with a wanted class, the least is the one whose nodes, read from the end, are least.
use Rattle.std.specs.Prelude.{◌≡◌, ◌<◌, ◌↔◌, ℕ, List, ◌∷◌, length, map, reverse, Some, slice_get}
use Rattle.std.specs.List.{All, Contains}
use Rattle.timing_types.specs.declared.class_sets.Class.{Class}
use Rattle.timing_types.specs.declared.class_sets.ClassSets.{ClassSets}
use Rattle.timing_types.specs.declared.class_sets.Launched.{Launched}
use Rattle.timing_types.specs.declared.class_sets.Pool.{Pool}
use Rattle.timing_types.specs.declared.keys.KeyResult.{KeyResult}
use Rattle.timing_types.specs.declared.keys.RelationResult.{RelationResult}
use Rattle.pin_types.specs.declared.pins.Node.{Node}
use Rattle.timing_model.specs.Classes.{IsClassOf, IsPrefix, classes_at}
use Rattle.timing_model.specs.EndRelations.{EndRelation, RelationBefore}
use Rattle.pin_types.specs.Nodes.{IsAtMost, node_number}
use Rattle.constraint_model.specs.ListOrder.{Rises}

-- ---- groups of keys

abbrev pub relation_of_key : KeyResult → EndRelation
relation_of_key key = record { end = key.last.pin; launch = key.launch; capture = key.capture; side = key.side }

abbrev pub relation_of_group : RelationResult → EndRelation
relation_of_group group = record { end = group.end; launch = group.launch; capture = group.capture; side = group.side }

-- a group has at least one key, and exactly those of its relation, by place
pub record IsGroup (keys : List KeyResult) (group : RelationResult) : Type 0 where
  pub some : 0 < length group.keys
  pub members : (place : ℕ) → Contains group.keys place
      ↔ ((key : KeyResult) × (slice_get keys place ≡ Some key) × (relation_of_key key ≡ relation_of_group group))
  pub order : Rises (λ place other. place < other) group.keys

-- each key is in one group; the groups stand by end, launch edge, capture edge and side
pub record AreGroups (keys : List KeyResult) (groups : List RelationResult) : Type 0 where
  pub each : All (IsGroup keys) groups
  pub every : (key : KeyResult) → Contains keys key → Contains (map relation_of_group groups) (relation_of_key key)
  pub order : Rises (λ (one : RelationResult) (other : RelationResult).
      RelationBefore (relation_of_group one) (relation_of_group other)) groups

-- ---- the least path

-- a prefix of two nodes or more to a node, by the nodes before it, whose class there stands at one of these places
pub record HasWantedClass (pool : Pool) (sets : ClassSets) (last : Node) (wanted : List ℕ) (before : List Node) : Type 0 where
  pub launched : Launched
  pub class : Class
  pub place : ℕ
  pub two : 0 < length before
  pub is_prefix : IsPrefix pool launched last before
  pub is_class : IsClassOf pool launched (last ∷ before) class
  pub stands : slice_get (classes_at sets (node_number last)) place ≡ Some class
  pub is_wanted : Contains wanted place

-- the nodes of the least one, from the start to the end
pub record IsLeastWanted (pool : Pool) (sets : ClassSets) (last : Node) (wanted : List ℕ) (nodes : List Node) : Type 0 where
  pub before : List Node
  pub is : nodes ≡ reverse (last ∷ before)
  pub has : HasWantedClass pool sets last wanted before
  pub least : (others : List Node) → HasWantedClass pool sets last wanted others → IsAtMost (last ∷ before) (last ∷ others)
