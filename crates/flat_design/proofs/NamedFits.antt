-- Connections by name, each the first of its name by the places of all names.
use Rattle.std.proofs.Common.{◌≡◌, ◌+◌, ◌&&◌, ◌||◌, ◌==◌, inl, inr, ℕ, suc, Bool, true, false, not, cond, List, [], ◌∷◌, ◌++◌, map, length, Option, Some, None, refl, sym, ◌∙◌, ap, arith}
use Rattle.std.proofs.lemmas.Bool.{cases_eq, eq-eqb, ne_eqb}
use Rattle.std.proofs.lemmas.List.{append_assoc, length_push}
use Rattle.std.proofs.lemmas.Slice.Eq.{bytes_eq-Decides}
use Rattle.std.proofs.Math.Bool.{and-false}
use Rattle.indexmap.specs.IndexMap.{IndexMap, get_by}
use Rattle.std.specs.List.{list_any}
use Rattle.std.specs.Str.{bytes_eq}
use Rattle.source_types.specs.declared.netlists.Link.{Link}
use Rattle.flat_model.specs.Connections.{Terminal, link_fits, named_fit, names_of}
use Rattle.text_model.specs.Words.{same_text}
use Rattle.flat_design.specs.Fitting.{fits_first_by, named_by, named_from, place_fits, stands_first, widths_of}
use Rattle.flat_design.specs.Names.{IsTable, next_place, place_of}
use Rattle.flat_design.proofs.FittingFacts.{fit_named}
use denote.Ref.{Bor}

same_suc : (p n : ℕ) → (suc p == suc n) ≡ (p == n)
same_suc p n =
    elim (cases_eq p n) [
      | inl same ↦ eq-eqb (suc p) (suc n) (ap suc same) ∙ sym (eq-eqb p n same)
      | inr distinct ↦ ne_eqb (suc p) (suc n) (λ e. distinct (omega arith)) ∙ sym (ne_eqb p n distinct)
    ]

first_next : (found : Option ℕ) (n : ℕ) → stands_first (next_place found) (suc n) ≡ stands_first found n
first_next None n = refl
first_next (Some p) n = same_suc p n

first_step : (found : Option ℕ) (n : ℕ) (other : Bool) → stands_first found n ≡ not other
    → (t : Bool) → stands_first (cond t (Some 0) (next_place found)) (suc n) ≡ not (t || other)
first_step found n other e true = ne_eqb 0 (suc n) (λ h. omega arith)
first_step found n other e false = first_next found n ∙ e

-- a name stands first where no name in front of it is the same
pub first_in : (front after : List (List ℕ)) (name : List ℕ) → stands_first (place_of (front ++ name ∷ after) name) (length front) ≡ not (list_any (λ f. same_text f name) front)
first_in [] after name =
    let same : same_text name name ≡ true = (bytes_eq-Decides name name).1 refl in
    rw same refl
first_in (f ∷ front) after name =
    first_step (place_of (front ++ name ∷ after) name) (length front) (list_any (λ g. same_text g name) front) (first_in front after name) (same_text f name)

swapped : (x y : Bool) → (x ≡ true → y ≡ true) → (y ≡ true → x ≡ true) → x ≡ y
swapped true y f g = sym (f refl)
swapped false true f g = g refl
swapped false false f g = refl

pub same_swap : (a b : List ℕ) → same_text a b ≡ same_text b a
same_swap a b = swapped (same_text a b) (same_text b a)
    (λ h. (bytes_eq-Decides b a).1 (sym ((bytes_eq-Decides a b).0 h)))
    (λ h. (bytes_eq-Decides a b).1 (sym ((bytes_eq-Decides b a).0 h)))

or_swap : (a b c : Bool) → (a || (b || c)) ≡ (b || (a || c))
or_swap true true c = refl
or_swap true false c = refl
or_swap false b c = refl

pub any_push : (front : List (List ℕ)) (name q : List ℕ) → list_any (λ f. same_text f q) (front ++ name ∷ []) ≡ (same_text q name || list_any (λ f. same_text f q) front)
any_push [] name q = ap (λ (b : Bool). b || false) (same_swap name q)
any_push (f ∷ front) name q = ap (λ (b : Bool). same_text f q || b) (any_push front name q) ∙ or_swap (same_text f q) (same_text q name) (list_any (λ g. same_text g q) front)

-- one more connection
one_fits : (first before own whole other : Bool) → first ≡ not before → whole ≡ other → ((first && own) && whole) ≡ (own && (not before && other))
one_fits first true own whole other e same = ap (λ (b : Bool). (b && own) && whole) e ∙ sym (and-false own)
one_fits first false own whole other e same = ap (λ (b : Bool). (b && own) && whole) e ∙ ap (λ (b : Bool). own && b) same

-- connections after others
fits_after : (terminals : List Terminal) (links : List Link) (front before : List (List ℕ)) (at : ℕ) (all : List (List ℕ))
    → at ≡ length front → all ≡ front ++ map (λ (link : Link). link.port) links
    → ((q : List ℕ) → list_any (same_text q) before ≡ list_any (λ f. same_text f q) front)
    → named_from terminals all at links ≡ named_fit terminals before links
fits_after terminals [] front before at all at_is all_is known = refl
fits_after terminals (link ∷ rest) front before at all at_is all_is known =
    let names = map (λ (l : Link). l.port) rest in
    let first : stands_first (place_of all link.port) at ≡ not (list_any (same_text link.port) before) =
    ap (λ (ns : List (List ℕ)). stands_first (place_of ns link.port) at) all_is
    ∙ (ap (λ (n : ℕ). stands_first (place_of (front ++ link.port ∷ names) link.port) n) at_is
    ∙ (first_in front names link.port ∙ ap not (sym (known link.port)))) in
    one_fits (stands_first (place_of all link.port) at) (list_any (same_text link.port) before) (link_fits terminals link)
    (named_from terminals all (at + 1) rest) (named_fit terminals (link.port ∷ before) rest) first
    (fits_after terminals rest (front ++ link.port ∷ []) (link.port ∷ before) (at + 1) all
    (ap (λ (n : ℕ). n + 1) at_is ∙ sym (length_push front link.port))
    (all_is ∙ sym (append_assoc front (link.port ∷ []) names))
    (λ q. ap (λ (b : Bool). same_text q link.port || b) (known q) ∙ sym (any_push front link.port q)))

pub fits_named : (terminals : List Terminal) (links : List Link) → named_from terminals (map (λ (link : Link). link.port) links) 0 links ≡ named_fit terminals [] links
fits_named terminals links = fits_after terminals links [] [] 0 (map (λ (link : Link). link.port) links) refl refl (λ q. refl)

-- the tables tell the same
one_by : {S : Type 0} (terminals : List Terminal) (all : List (List ℕ)) (names table : IndexMap (Bor (List ℕ)) ℕ S) (widths : List ℕ) (at : ℕ) (link : Link)
    → IsTable names all → IsTable table (names_of terminals) → widths ≡ widths_of terminals
    → fits_first_by names table widths at link ≡ (stands_first (place_of all link.port) at && link_fits terminals link)
one_by terminals all names table widths at link is_names is_table same =
    ap (λ (found : Option ℕ). stands_first found at && place_fits widths (get_by (λ k. bytes_eq link.port k.now) table) link.bits) (is_names link.port)
    ∙ (ap (λ (found : Option ℕ). stands_first (place_of all link.port) at && place_fits widths found link.bits) (is_table link.port)
    ∙ (ap (λ (ws : List ℕ). stands_first (place_of all link.port) at && place_fits ws (place_of (names_of terminals) link.port) link.bits) same
    ∙ ap (λ (b : Bool). stands_first (place_of all link.port) at && b) (fit_named terminals link)))

all_by : {S : Type 0} (terminals : List Terminal) (all : List (List ℕ)) (names table : IndexMap (Bor (List ℕ)) ℕ S) (widths : List ℕ) (at : ℕ) (links : List Link)
    → IsTable names all → IsTable table (names_of terminals) → widths ≡ widths_of terminals
    → named_by names table widths at links ≡ named_from terminals all at links
all_by terminals all names table widths at [] is_names is_table same = refl
all_by terminals all names table widths at (link ∷ rest) is_names is_table same =
    ap (λ (b : Bool). b && named_by names table widths (at + 1) rest) (one_by terminals all names table widths at link is_names is_table same)
    ∙ ap (λ (b : Bool). (stands_first (place_of all link.port) at && link_fits terminals link) && b)
    (all_by terminals all names table widths (at + 1) rest is_names is_table same)

-- connections by name, by tables of their names and of the terminals' names
pub fits_by_tables : {S : Type 0} (terminals : List Terminal) (names table : IndexMap (Bor (List ℕ)) ℕ S) (widths : List ℕ) (links : List Link)
    → IsTable names (map (λ (link : Link). link.port) links) → IsTable table (names_of terminals) → widths ≡ widths_of terminals
    → named_by names table widths 0 links ≡ named_fit terminals [] links
fits_by_tables terminals names table widths links is_names is_table same =
    all_by terminals (map (λ (link : Link). link.port) links) names table widths 0 links is_names is_table same ∙ fits_named terminals links
