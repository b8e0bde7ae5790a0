-- A line of the report of `edges` in the two parts that are written: what all lines of a launch edge begin with, and
-- the rest of a line. This project's own; `edge_line` is the one after the other.
use Rattle.std.specs.Prelude.{ℕ, List, ◌++◌, codes}
use Rattle.timing_types.specs.declared.edge_times.Relation.{Relation}
use Rattle.timing_types.specs.declared.edge_times.TimedEdge.{TimedEdge}
use Rattle.sdc_model.specs.EdgesText.{edge_text, relation_text}

-- the file, the launch edge, and an arrow
abbrev pub front_text : List ℕ → TimedEdge → List ℕ
front_text file launch = file ++ (codes ": " ++ (edge_text launch ++ codes " -> "))

-- the capture edge, the relation, and the end of the line
abbrev pub line_rest : TimedEdge → Relation → List ℕ
line_rest capture relation = edge_text capture ++ (relation_text relation ++ codes "\n")
