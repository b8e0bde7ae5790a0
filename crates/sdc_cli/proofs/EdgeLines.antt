-- Edges of clocks with times, and lines of a report that are joined at their end.
use Rattle.std.proofs.Common.{◌≡◌, ◌+◌, drop, ℕ, List, [], ◌∷◌, ◌++◌, refl, sym, ◌∙◌, ap, append_assoc, append-nil, subst, codes}
use Rattle.timing_types.specs.declared.clocks.Clock.{Clock}
use Rattle.timing_types.specs.declared.edge_times.Relation.{Relation}
use Rattle.timing_types.specs.declared.edge_times.TimedEdge.{TimedEdge}
use Rattle.timing_types.specs.declared.modes.Mode.{Mode}
use Rattle.timing_model.specs.Relation.{IsRelation}
use Rattle.sdc_model.specs.EdgesText.{clock_edges, AreTimed, HaveTimes, Appends, AreLinesFrom, AreLines, AreReports, IsReport, edge_line, edge_text, relation_text}
use Rattle.sdc_cli.specs.LineParts.{front_text, line_rest}

AreTimed-append : (es fs : List TimedEdge) → AreTimed es → AreTimed fs → AreTimed (es ++ fs)
AreTimed-append [] fs timed others = others
AreTimed-append (e ∷ es) fs timed others = (timed.0, AreTimed-append es fs timed.1 others)

-- clocks that have times have edges that are timed
pub AreTimed-clock_edges : (clocks : List Clock) → HaveTimes clocks → AreTimed (clock_edges clocks)
AreTimed-clock_edges [] have = tt
AreTimed-clock_edges (clock ∷ clocks) have = AreTimed-append _ _ have.0 (AreTimed-clock_edges clocks have.1)

-- what completes a text after which one more piece stands
completes : (All : List ℕ → Type 0) (old text new piece rest : List ℕ) → new ≡ text ++ piece
    → ((lines : List ℕ) × All lines × (old ++ lines ≡ text ++ (piece ++ rest))) → (lines : List ℕ) × All lines × (old ++ lines ≡ new ++ rest)
completes All old text new piece rest e found =
    (found.0, found.1, found.2 ∙ (sym (append_assoc text piece rest) ∙ ap (λ t. t ++ rest) (sym e)))

-- one more line of a launch edge
pub LinesFrom-more : (file : List ℕ) (launch capture : TimedEdge) (captures : List TimedEdge) (i : ℕ) (All : List ℕ → Type 0)
    (old text new : List ℕ) (relation : Relation)
    → drop i captures ≡ capture ∷ drop (i + 1) captures
    → ((rest : List ℕ) → AreLinesFrom file launch (drop i captures) rest → (lines : List ℕ) × All lines × (old ++ lines ≡ text ++ rest))
    → IsRelation launch.time launch.period capture.time capture.period relation
    → new ≡ text ++ edge_line file launch capture relation
    → (rest : List ℕ) → AreLinesFrom file launch (drop (i + 1) captures) rest
    → (lines : List ℕ) × All lines × (old ++ lines ≡ new ++ rest)
LinesFrom-more file launch capture captures i All old text new relation at before is e rest lines =
    let P : List TimedEdge → Type 0 = λ left. AreLinesFrom file launch left (edge_line file launch capture relation ++ rest) in
    completes All old text new _ rest e (before _ (subst P (sym at) (relation, rest, is, refl, lines)))

-- the lines of one more launch edge
pub Lines-more : (file : List ℕ) (launch : TimedEdge) (launches captures : List TimedEdge) (i : ℕ) (All : List ℕ → Type 0)
    (old text new : List ℕ)
    → drop i launches ≡ launch ∷ drop (i + 1) launches
    → ((rest : List ℕ) → AreLines file (drop i launches) captures rest → (lines : List ℕ) × All lines × (old ++ lines ≡ text ++ rest))
    → Appends (AreLinesFrom file launch captures) text new
    → (rest : List ℕ) → AreLines file (drop (i + 1) launches) captures rest
    → (lines : List ℕ) × All lines × (old ++ lines ≡ new ++ rest)
Lines-more file launch launches captures i All old text new at before appends rest lines =
    let P : List TimedEdge → Type 0 = λ left. AreLines file left captures (appends.0 ++ rest) in
    completes All old text new appends.0 rest appends.2 (before _ (subst P (sym at) (appends.0, rest, appends.1, refl, lines)))

-- where no lines are left, the text has them all
pub all_appended : (All : List ℕ → Type 0) (old text : List ℕ)
    → ((lines : List ℕ) × All lines × (old ++ lines ≡ text ++ [])) → Appends All old text
all_appended All old text found = (found.0, found.1, sym (found.2 ∙ append-nil text))

-- one more report
pub Reports-more : (files : List (List ℕ)) (modes : List Mode) (i : ℕ) (file : List ℕ) (mode : Mode) (All : List ℕ → Type 0)
    (text new : List ℕ)
    → drop i files ≡ file ∷ drop (i + 1) files
    → drop i modes ≡ mode ∷ drop (i + 1) modes
    → ((rest : List ℕ) → AreReports (drop i files) (drop i modes) rest → (all : List ℕ) × All all × (all ≡ text ++ rest))
    → Appends (IsReport file mode.clocks) text new
    → (rest : List ℕ) → AreReports (drop (i + 1) files) (drop (i + 1) modes) rest
    → (all : List ℕ) × All all × (all ≡ new ++ rest)
Reports-more files modes i file mode All text new at at_mode before appends rest reports =
    let P : List (List ℕ) → Type 0 = λ left. AreReports left (drop i modes) (appends.0 ++ rest) in
    let Q : List Mode → Type 0 = λ left. AreReports (file ∷ drop (i + 1) files) left (appends.0 ++ rest) in
    let here : Q (drop i modes) = subst Q (sym at_mode) (appends.0, rest, appends.1, refl, reports) in
    let found = before _ (subst P (sym at) here) in
    (found.0, found.1, found.2 ∙ (sym (append_assoc text appends.0 rest) ∙ ap (λ t. t ++ rest) (sym appends.2)))

regroup : (file colon launch arrow capture rest : List ℕ)
    → (file ++ (colon ++ (launch ++ arrow))) ++ (capture ++ rest) ≡ file ++ (colon ++ ((launch ++ (arrow ++ capture)) ++ rest))
regroup file colon launch arrow capture rest = simp append_assoc

-- a line that was appended in its two parts
line_appended : (file front text new : List ℕ) (launch capture : TimedEdge) (relation : Relation)
    → front ≡ front_text file launch
    → new ≡ text ++ (front ++ line_rest capture relation)
    → new ≡ text ++ edge_line file launch capture relation
line_appended file front text new launch capture relation is e =
    e ∙ ap (λ f. text ++ (f ++ line_rest capture relation)) is
    ∙ ap (λ l. text ++ l) (regroup file (codes ": ") (edge_text launch) (codes " -> ") (edge_text capture) (relation_text relation ++ codes "\n"))

-- one more line of a launch edge, appended in its two parts
pub LinesFrom-more_parts : (file front : List ℕ) (launch capture : TimedEdge) (captures : List TimedEdge) (i : ℕ) (All : List ℕ → Type 0)
    (old text new : List ℕ) (relation : Relation)
    → drop i captures ≡ capture ∷ drop (i + 1) captures
    → ((rest : List ℕ) → AreLinesFrom file launch (drop i captures) rest → (lines : List ℕ) × All lines × (old ++ lines ≡ text ++ rest))
    → IsRelation launch.time launch.period capture.time capture.period relation
    → front ≡ front_text file launch
    → new ≡ text ++ (front ++ line_rest capture relation)
    → (rest : List ℕ) → AreLinesFrom file launch (drop (i + 1) captures) rest
    → (lines : List ℕ) × All lines × (old ++ lines ≡ new ++ rest)
LinesFrom-more_parts file front launch capture captures i All old text new relation at before is fronts e =
    LinesFrom-more file launch capture captures i All old text new relation at before is (line_appended file front text new launch capture relation fronts e)
