-- Modes have one text of edges, since two edges have one relation.
use Rattle.std.proofs.Common.{◌≡◌, ◌∙◌, ◌++◌, ℕ, List, [], ◌∷◌, sym, ap}
use Rattle.timing_types.specs.declared.edge_times.Relation.{Relation}
use Rattle.timing_types.specs.declared.edge_times.TimedEdge.{TimedEdge}
use Rattle.timing_types.specs.declared.modes.Mode.{Mode}
use Rattle.sdc_model.specs.EdgesText.{AreLines, AreLinesFrom, clock_edges, edge_line}
use Rattle.timing_model.proofs.RelationFacts.{same_relation}
use Rattle.sdc_cli.specs.Laws.{HaveOneReport}

-- two texts of one front piece and one rest are one
pieces : (a b front other rest last : List ℕ) → a ≡ front ++ rest → b ≡ other ++ last → front ≡ other → rest ≡ last → a ≡ b
pieces a b front other rest last is same fronts rests =
    is ∙ ap (λ f. f ++ rest) fronts ∙ ap (λ r. other ++ r) rests ∙ sym same

lines_from_once : (file : List ℕ) (launch : TimedEdge) (captures : List TimedEdge) (a b : List ℕ)
    → AreLinesFrom file launch captures a → AreLinesFrom file launch captures b → a ≡ b
lines_from_once file launch [] a b p q = p ∙ sym q
lines_from_once file launch (capture ∷ captures) a b (r, rest, is, text, more) (s, last, same, other, others) =
    let relation : r ≡ s = same_relation launch.time launch.period capture.time capture.period r s is same in
    pieces a b (edge_line file launch capture r) (edge_line file launch capture s) rest last text other
    (ap (λ (x : Relation). edge_line file launch capture x) relation) (lines_from_once file launch captures rest last more others)

lines_once : (file : List ℕ) (launches captures : List TimedEdge) (a b : List ℕ)
    → AreLines file launches captures a → AreLines file launches captures b → a ≡ b
lines_once file [] captures a b p q = p ∙ sym q
lines_once file (launch ∷ launches) captures a b (lines, rest, are, text, more) (second, last, same, other, others) =
    pieces a b lines second rest last text other
    (lines_from_once file launch captures lines second are same) (lines_once file launches captures rest last more others)

pub reports_once : (files : List (List ℕ)) (modes : List Mode) → HaveOneReport files modes
reports_once [] [] a b p q = p ∙ sym q
reports_once [] (mode ∷ modes) a b p q = absurd p
reports_once (file ∷ files) [] a b p q = absurd p
reports_once (file ∷ files) (mode ∷ modes) a b (front, rest, is, text, more) (other, last, same, second, others) =
    pieces a b front other rest last text second
    (lines_once file (clock_edges mode.clocks) (clock_edges mode.clocks) front other is same) (reports_once files modes rest last more others)
