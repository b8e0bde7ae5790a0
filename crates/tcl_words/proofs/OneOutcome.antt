-- The grammar of commands relates one outcome: one command, one fault or none, and never two of them.
use Rattle.std.proofs.Common.{◌≡◌, ◌≤◌, ℕ, false, List, [], ◌∷◌, Option, Some, None, Result, Ok, Err, drop, length, refl, sym, ap, ◌∙◌, arith}
use Rattle.std.proofs.lemmas.List.{length-drop}
use Rattle.sdc_base.specs.declared.memory.At.{At}
use Rattle.source_types.specs.declared.commands.Command.{Command}
use Rattle.source_types.specs.declared.commands.Next.{Next}
use Rattle.source_types.specs.declared.kinds.TclKind.{TclKind}
use Rattle.text_model.specs.Bytes.{before}
use Rattle.tcl_model.specs.Commands.{ArePieces, CommandFront, FirstFrom, IsBraced, IsCommand, IsWordOf, Opening, Place, Splits, StandsCommand, StandsWord, WordFront, bare_opens, brace_opens, command_end, command_place, ended_bare, ended_closed, ended_command, opening, quote_opens}
use Rattle.text_model.specs.Continued.{after_gap, from_command, parting}
use Rattle.text_model.specs.Enclosed.{after_brace}
use Rattle.tcl_model.specs.Pieces as grammar
use Rattle.text_model.specs.Row.{HasOne, found, stops}
use Rattle.text_model.proofs.RowFacts.{not_both, row_once, same_place, same_thing}

-- ---- words

pub pieces_once : (form : grammar.Form) (ps qs : List grammar.Piece) (text : List ℕ) (e f : Result (List ℕ) TclKind) → ArePieces form ps text e → ArePieces form qs text f → (ps ≡ qs) × (e ≡ f)
pieces_once form ps qs text e f r s = row_once (λ place stands. grammar.piece_at form place ≡ stands) (λ p a b x y. sym x ∙ y) ps qs text e f r s

braced_once : (text : List ℕ) (o : Option (List ℕ)) (f g : WordFront) → IsBraced text o f → IsBraced text o g → f ≡ g
braced_once text None f g x y = x ∙ sym y
braced_once text (Some rest) f g x y =
    let one = pieces_once grammar.braced x.0 y.0 (before text (125 ∷ rest)) (Ok []) (Ok []) x.1 y.1 in
    x.2 ∙ (ap (λ ps. ended_closed ps (Ok rest)) one.0 ∙ sym y.2)

word_once : (o : Opening) (text : List ℕ) (f g : WordFront) → IsWordOf o text f → IsWordOf o text g → f ≡ g
word_once command_end text f g x y = x ∙ sym y
word_once (brace_opens inside) text f g x y = braced_once inside (after_brace inside) f g x y
word_once (quote_opens inside) text f g x y =
    let one = pieces_once grammar.quoted x.0 y.0 inside x.1 y.1 x.2 y.2 in
    x.3 ∙ (ap (λ ps. ended_closed ps x.1) one.0 ∙ (ap (λ e. ended_closed y.0 e) one.1 ∙ sym y.3))
word_once bare_opens text f g x y =
    let one = pieces_once grammar.bare x.0 y.0 text x.1 y.1 x.2 y.2 in
    x.3 ∙ (ap (λ ps. ended_bare ps x.1) one.0 ∙ (ap (λ e. ended_bare y.0 e) one.1 ∙ sym y.3))

stands_once : (text : List ℕ) → HasOne StandsWord text
stands_once text f g x y = word_once (opening (after_gap false text)) (after_gap false text) f g x y

-- ---- commands

command_once : (text : List ℕ) (place : Place) (f g : CommandFront) → IsCommand text place f → IsCommand text place g → f ≡ g
command_once [] place f g x y = x ∙ sym y
command_once (b ∷ bs) place f g x y =
    let one = row_once StandsWord stands_once x.0 y.0 place.text x.1 y.1 x.2 y.2 in
    x.3 ∙ (ap (λ ws. ended_command place ws x.1) one.0 ∙ (ap (λ e. ended_command place y.0 e) one.1 ∙ sym y.3))

pub commands_once : (place : Place) → HasOne StandsCommand place
commands_once place f g x y = command_once (from_command parting place.text) (command_place place) f g x y

-- ---- what stands at or after a place

abbrev next_of : Command → ℕ → ℕ → Next
next_of command end line = record { command = command; end = end; line = line }

next_same : (n k : Next) → n.command ≡ k.command → n.end ≡ k.end → n.line ≡ k.line → n ≡ k
next_same n k c e l = ap (λ x. next_of x n.end n.line) c ∙ (ap (λ x. next_of k.command x n.line) e ∙ ap (λ x. next_of k.command k.end x) l)

end_same : (text : List ℕ) (a b : ℕ) → a ≤ length text → b ≤ length text → drop a text ≡ drop b text → a ≡ b
end_same text a b p q e = omega (arith, ap length e, length-drop a text, length-drop b text)

abbrev place_of : List ℕ → ℕ → ℕ → Place
place_of text from line = record { text = drop from text; line = line }

abbrev found_next : List ℕ → Next → CommandFront
found_next text next = found next.command (record { text = drop next.end text; line = next.line })

none_some : (fault : At TclKind) → ◌≡◌ {A = CommandFront} (stops None) (stops (Some fault)) → ⊥
none_some fault h = cc

fault_same : (f g : At TclKind) → ◌≡◌ {A = CommandFront} (stops (Some f)) (stops (Some g)) → f ≡ g
fault_same f g h = cc

pub from_once : (text : List ℕ) (from line : ℕ) (r s : Result (Option Next) (At TclKind)) → FirstFrom text from line r → FirstFrom text from line s → r ≡ s
from_once text from line (Ok None) (Ok None) p q = refl
from_once text from line (Ok None) (Ok (Some k)) p q =
    absurd (not_both k.command (record { text = drop k.end text; line = k.line }) None (commands_once (place_of text from line) (found_next text k) (stops None) q.0 p))
from_once text from line (Ok None) (Err g) p q = absurd (none_some g (commands_once (place_of text from line) (stops None) (stops (Some g)) p q))
from_once text from line (Ok (Some n)) (Ok None) p q =
    absurd (not_both n.command (record { text = drop n.end text; line = n.line }) None (commands_once (place_of text from line) (found_next text n) (stops None) p.0 q))
from_once text from line (Ok (Some n)) (Ok (Some k)) p q =
    let one = commands_once (place_of text from line) (found_next text n) (found_next text k) p.0 q.0 in
    let command : n.command ≡ k.command = same_thing n.command k.command (record { text = drop n.end text; line = n.line }) (record { text = drop k.end text; line = k.line }) one in
    let place = same_place n.command k.command (record { text = drop n.end text; line = n.line }) (record { text = drop k.end text; line = k.line }) one in
    ap (λ x. Ok (Some x)) (next_same n k command (end_same text n.end k.end p.2 q.2 (ap (λ (x : Place). x.text) place)) (ap (λ (x : Place). x.line) place))
from_once text from line (Ok (Some n)) (Err g) p q =
    absurd (not_both n.command (record { text = drop n.end text; line = n.line }) (Some g) (commands_once (place_of text from line) (found_next text n) (stops (Some g)) p.0 q))
from_once text from line (Err f) (Ok None) p q = absurd (none_some f (commands_once (place_of text from line) (stops None) (stops (Some f)) q p))
from_once text from line (Err f) (Ok (Some k)) p q =
    absurd (not_both k.command (record { text = drop k.end text; line = k.line }) (Some f) (commands_once (place_of text from line) (found_next text k) (stops (Some f)) q.0 p))
from_once text from line (Err f) (Err g) p q = ap (λ x. Err x) (fault_same f g (commands_once (place_of text from line) (stops (Some f)) (stops (Some g)) p q))

-- ---- a whole text

no_end : (fault : At TclKind) → None ≡ Some fault → ⊥
no_end fault h = cc

one_end : (f g : At TclKind) → Some f ≡ Some g → f ≡ g
one_end f g h = cc

abbrev start : List ℕ → Place
start text = record { text = text; line = 1 }

pub splits_once : (text : List ℕ) (r s : Result (List Command) (At TclKind)) → Splits text r → Splits text s → r ≡ s
splits_once text (Ok cs) (Ok ds) p q = ap (λ x. Ok x) (row_once StandsCommand commands_once cs ds (start text) None None p q).0
splits_once text (Ok cs) (Err g) p q = absurd (no_end g (row_once StandsCommand commands_once cs q.0 (start text) None (Some g) p q.1).1)
splits_once text (Err f) (Ok ds) p q = absurd (no_end f (row_once StandsCommand commands_once ds p.0 (start text) None (Some f) q p.1).1)
splits_once text (Err f) (Err g) p q = ap (λ x. Err x) (one_end f g (row_once StandsCommand commands_once p.0 q.0 (start text) (Some f) (Some g) p.1 q.1).1)
