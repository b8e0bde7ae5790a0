-- Words of the grammar that are printed: queries in brackets, for what names in braces say.
use Rattle.std.proofs.Common.{◌≡◌, ◌++◌, ℕ, true, false, List, [], ◌∷◌, Some, Ok, codes, refl, sym, ap, subst, ◌∙◌, arith, append_assoc}
use Rattle.std.specs.List.{list_all}
use Rattle.source_types.specs.declared.commands.Part.TheVariants as part
use Rattle.source_types.specs.declared.commands.Word.{Word}
use Rattle.tcl_model.specs.Commands.{IsBare, IsWord, IsWordOf, StandsWord, may_follow, opening}
use Rattle.text_model.specs.Continued.{after_gap, from_command, parting}
use Rattle.text_model.specs.Enclosed.{after_bracket, after_open, brace, bracket}
use Rattle.tcl_model.specs.Pieces as grammar
use Rattle.text_model.specs.Row.{found}
use Rattle.sdc_print.proofs.PlainWords.{before_is, follow_stops, inside_all, is_braced}

-- `get_clocks` and a blank
abbrev query_front : List ℕ
query_front = codes "get_clocks "

query_passed : (rest : List ℕ) → after_bracket (query_front ++ 123 ∷ rest) ≡ after_open (brace ∷ (bracket ∷ [])) false false rest
unfolding after_open
query_passed rest = refl

bracket_close : (rest : List ℕ) → after_open (bracket ∷ []) false false (93 ∷ rest) ≡ Some rest
unfolding after_open
bracket_close rest = refl

-- the script of a query of names
abbrev pub query_script : List ℕ → List ℕ
query_script names = query_front ++ 123 ∷ (names ++ 125 ∷ [])

query_text : (names rest : List ℕ) → query_script names ++ 93 ∷ rest ≡ query_front ++ 123 ∷ (names ++ 125 ∷ (93 ∷ rest))
query_text names rest =
    append_assoc query_front (123 ∷ (names ++ 125 ∷ [])) (93 ∷ rest) ∙ ap (λ (t : List ℕ). query_front ++ 123 ∷ t) (append_assoc names (125 ∷ []) (93 ∷ rest))

query_closes : (names rest : List ℕ) → list_all is_braced names ≡ true → after_bracket (query_script names ++ 93 ∷ rest) ≡ Some rest
query_closes names rest h =
    ap after_bracket (query_text names rest)
    ∙ (query_passed (names ++ 125 ∷ (93 ∷ rest)) ∙ (inside_all names (93 ∷ rest) (bracket ∷ []) false h ∙ bracket_close rest))

bracket_piece : (bs : List ℕ) → grammar.piece_at grammar.bare (91 ∷ bs) ≡ grammar.after_opening bs (after_bracket bs)
unfolding grammar.piece_at
bracket_piece bs = refl

abbrev pub script_word : List ℕ → Word
script_word script = record { parts = part.Script script ∷ [] }

query_piece : (names rest : List ℕ) → list_all is_braced names ≡ true → grammar.piece_at grammar.bare (91 ∷ (query_script names ++ 93 ∷ rest)) ≡ found (grammar.other (part.Script (query_script names))) rest
query_piece names rest h =
    bracket_piece (query_script names ++ 93 ∷ rest)
    ∙ (ap (grammar.after_opening (query_script names ++ 93 ∷ rest)) (query_closes names rest h)
    ∙ ap (λ (t : List ℕ). found (grammar.other (part.Script t)) rest) (before_is (query_script names) (93 ∷ rest)))

bracket_gap : (bs : List ℕ) → after_gap false (91 ∷ bs) ≡ 91 ∷ bs
unfolding after_gap
bracket_gap bs = refl

bracket_first : (bs : List ℕ) → from_command parting (91 ∷ bs) ≡ 91 ∷ bs
unfolding from_command
bracket_first bs = refl

query_stands : (names rest : List ℕ) → list_all is_braced names ≡ true → may_follow rest ≡ true → StandsWord (91 ∷ (query_script names ++ 93 ∷ rest)) (found (script_word (query_script names)) rest)
query_stands names rest h follows =
    let text : List ℕ = 91 ∷ (query_script names ++ 93 ∷ rest) in
    let word : IsBare (91 ∷ (query_script names ++ 93 ∷ rest)) (found (script_word (query_script names)) rest) =
    (grammar.other (part.Script (query_script names)) ∷ [], Ok rest, (rest, query_piece names rest h, follow_stops rest follows), refl) in
    subst (λ (t : List ℕ). IsWordOf (opening t) t (found (script_word (query_script names)) rest)) (sym (bracket_gap (query_script names ++ 93 ∷ rest))) word

pub query_is_word : (names : List ℕ) → list_all is_braced names ≡ true → IsWord (script_word (query_script names)) (91 ∷ (query_script names ++ 93 ∷ []))
query_is_word names h = record {
  some = omega arith;
  first = λ rest follows. bracket_first ((query_script names ++ 93 ∷ []) ++ rest);
  stands = λ rest follows.
      subst (λ (t : List ℕ). StandsWord t (found (script_word (query_script names)) rest)) (sym (ap (λ (t : List ℕ). 91 ∷ t) (append_assoc (query_script names) (93 ∷ []) rest)))
      (query_stands names rest h follows);
}
