-- The report of `edges`: a line for each launch edge and each capture edge of a file's clocks, in order, rise before
-- fall, with the setup and the hold relation of the two in nanoseconds. This project's own. Over the empty design every
-- clock has a waveform of its own: a generated one has no edges here.
use Rattle.std.specs.Prelude.{◌≡◌, ℕ, ℤ, pos, List, [], ◌∷◌, ◌++◌, codes}
use Rattle.sdc_base.specs.Time.{time_text_of}
use Rattle.timing_types.specs.declared.clocks.Clock.{Clock}
use Rattle.timing_types.specs.declared.clocks.Form.{Form}
use Rattle.timing_types.specs.declared.clocks.Form.TheVariants.{Primary, Generated}
use Rattle.pin_types.specs.declared.pins.Edge.{Edge}
use Rattle.pin_types.specs.declared.pins.Edge.TheVariants.{Rise, Fall}
use Rattle.timing_types.specs.declared.modes.Mode.{Mode}
use Rattle.timing_types.specs.declared.edge_times.Relation.{Relation}
use Rattle.timing_types.specs.declared.edge_times.TimedEdge.{TimedEdge}
use Rattle.timing_model.specs.Relation.{IsEdgeOf, IsRelation}

-- the two edges of a clock with a waveform of its own
abbrev pub edges_of : List ℕ → Form → List TimedEdge
edges_of name (Primary wave) =
    record { clock = name; edge = Rise; time = wave.rise; period = wave.period }
    ∷ record { clock = name; edge = Fall; time = wave.fall; period = wave.period } ∷ []
edges_of name (Generated source master shape invert) = []

-- the edges of clocks, in order
abbrev pub clock_edges : List Clock → List TimedEdge
clock_edges [] = []
clock_edges (clock ∷ clocks) = edges_of clock.name clock.form ++ clock_edges clocks

-- an edge whose time and period have relations
abbrev pub IsTimed : TimedEdge → Type 0
IsTimed edge = IsEdgeOf edge.time edge.period

abbrev pub AreTimed : List TimedEdge → Type 0
AreTimed [] = Unit {0}
AreTimed (edge ∷ edges) = IsTimed edge × AreTimed edges

-- a clock, and clocks, whose edges have relations
abbrev pub HasTimes : Clock → Type 0
HasTimes clock = AreTimed (edges_of clock.name clock.form)

abbrev pub HaveTimes : List Clock → Type 0
HaveTimes [] = Unit {0}
HaveTimes (clock ∷ clocks) = HasTimes clock × HaveTimes clocks

-- modes whose clocks' edges have relations
abbrev pub ModesHaveTimes : List Mode → Type 0
ModesHaveTimes [] = Unit {0}
ModesHaveTimes (mode ∷ modes) = HaveTimes mode.clocks × ModesHaveTimes modes

abbrev pub edge_word : Edge → List ℕ
edge_word Rise = codes "rise"
edge_word Fall = codes "fall"

-- an edge as reports name it
abbrev pub edge_text : TimedEdge → List ℕ
edge_text e = e.clock ++ (codes " " ++ edge_word e.edge)

-- a time in nanoseconds
abbrev pub nanoseconds_text : ℤ → List ℕ
nanoseconds_text time = time_text_of time (pos 1000000)

-- two edges, with an arrow between them
abbrev pub edges_text : TimedEdge → TimedEdge → List ℕ
edges_text launch capture = edge_text launch ++ (codes " -> " ++ edge_text capture)

-- a relation, its times in nanoseconds
abbrev pub relation_text : Relation → List ℕ
relation_text relation =
    codes " setup " ++ (nanoseconds_text relation.setup ++ (codes " hold " ++ nanoseconds_text relation.hold))

-- the line of two edges and their relation
abbrev pub edge_line : List ℕ → TimedEdge → TimedEdge → Relation → List ℕ
edge_line file launch capture relation =
    file ++ (codes ": " ++ (edges_text launch capture ++ (relation_text relation ++ codes "\n")))

-- the lines of one launch edge
abbrev pub AreLinesFrom : List ℕ → TimedEdge → List TimedEdge → List ℕ → Type 0
AreLinesFrom file launch [] text = text ≡ []
AreLinesFrom file launch (capture ∷ captures) text =
    (relation : Relation) × (rest : List ℕ) × IsRelation launch.time launch.period capture.time capture.period relation
    × (text ≡ edge_line file launch capture relation ++ rest) × AreLinesFrom file launch captures rest

-- the lines of these launch edges, each with all capture edges
abbrev pub AreLines : List ℕ → List TimedEdge → List TimedEdge → List ℕ → Type 0
AreLines file [] captures text = text ≡ []
AreLines file (launch ∷ launches) captures text =
    (lines : List ℕ) × (rest : List ℕ) × AreLinesFrom file launch captures lines × (text ≡ lines ++ rest)
    × AreLines file launches captures rest

-- a text with this fact stands after the old one
abbrev pub Appends : (List ℕ → Type 0) → List ℕ → List ℕ → Type 0
Appends IsText old new = (text : List ℕ) × IsText text × (new ≡ old ++ text)

-- the report of one file
abbrev pub IsReport : List ℕ → List Clock → List ℕ → Type 0
IsReport file clocks text = AreLines file (clock_edges clocks) (clock_edges clocks) text

-- the reports of files and their modes, one after the other
abbrev pub AreReports : List (List ℕ) → List Mode → List ℕ → Type 0
AreReports [] [] text = text ≡ []
AreReports (file ∷ files) (mode ∷ modes) text =
    (front : List ℕ) × (rest : List ℕ) × IsReport file mode.clocks front × (text ≡ front ++ rest) × AreReports files modes rest
AreReports [] (mode ∷ modes) text = ⊥
AreReports (file ∷ files) [] text = ⊥
