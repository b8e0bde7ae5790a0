-- The machine finds the first syntax error of each text, and there is one.
use Rattle.std.proofs.Common.{◌≡◌, ◌+◌, ◌<◌, ◌≤◌, ◌++◌, ◌∙◌, ℕ, suc, Bool, true, List, [], ◌∷◌, Option, Some, None, length, take, drop, refl, sym, ap, subst, arith, append_assoc, append-nil, add-one, inl, inr, if◌then◌else◌}
use Rattle.std.proofs.lemmas.Bool.{and_from, and_parts, both_ways, cases_order}
use Rattle.std.proofs.lemmas.List.{take-append-drop, take-take}
use Rattle.std.proofs.lemmas.Option.{none-some, same_Some}
use Rattle.std.specs.List.{list_all}
use Rattle.sdc_base.proofs.CaseFacts.{by_bool}
use Rattle.token_grammar.proofs.Advancing.{derives_left, left_clear, left_derives}
use Rattle.token_grammar.proofs.Derivations.{by_option, row_derives}
use Rattle.token_grammar.proofs.Following.{IsClear}
use Rattle.token_grammar.specs.declared.grammar.SyntaxError.{SyntaxError}
use Rattle.token_grammar.specs.declared.grammar.SyntaxError.TheVariants.{Token, End}
use Rattle.token_grammar.specs.Deciding.{Decides}
use Rattle.token_grammar.specs.Machine.{advanced, at_end, error_from, error_of}
use Rattle.token_grammar.specs.Texts.{ErrorIs, Derives, IsFront, IsText, Table, done, skips}

-- ---- the machine

-- tokens are the front of what symbols derive
abbrev pub Fronts : {S K : Type 0} → Table S K → List S → List K → Type 0
Fronts {K = K} table symbols kinds = (more : List K) × Derives table symbols (kinds ++ more)

-- a place counted from another one, of a syntax error
pub record IsError {S K : Type 0} (table : Table S K) (symbols : List S) (from : ℕ) (kinds : List K) (at : ℕ) : Type 0 where
  pub before : ℕ
  pub is : at ≡ from + before
  pub within : before < length kinds
  pub front : Fronts table symbols (take before kinds)
  pub broken : Fronts table symbols (take (suc before) kinds) → ⊥

abbrev pub ErrorIsFrom : {S K : Type 0} → Table S K → List S → ℕ → List K → Option SyntaxError → Type 0
ErrorIsFrom table symbols from kinds None = Derives table symbols kinds
ErrorIsFrom table symbols from kinds (Some (Token at)) = IsError table symbols from kinds at
ErrorIsFrom table symbols from kinds (Some End) = Fronts table symbols kinds × (Derives table symbols kinds → ⊥)

pub nothing_derives : {S K : Type 0} (table : Table S K) (symbols : List S) → list_all table.nullable symbols ≡ true → Derives table symbols []
nothing_derives table [] all = done
nothing_derives table (symbol ∷ symbols) all = let parts = and_parts (table.nullable symbol) (list_all table.nullable symbols) all in skips parts.0 (nothing_derives table symbols parts.1)

derives_nothing : {S K : Type 0} (table : Table S K) {symbols : List S} → Derives table symbols [] → list_all table.nullable symbols ≡ true
derives_nothing table done = refl
derives_nothing table (skips {symbol = s} {symbols = ss} may d) = and_from (table.nullable s) (list_all table.nullable ss) may (derives_nothing table d)

module _ {S K : Type 0} (table : Table S K) (follow : S → K → Bool) (decides : Decides table follow) where
  lowered : (symbols left : List S) (kind : K) (kinds : List K) → advanced table symbols kind ≡ Some left → Fronts table left kinds → Fronts table symbols (kind ∷ kinds)
  lowered symbols left kind kinds is front = (front.0, left_derives table symbols left kind (kinds ++ front.0) is front.1)

  derives_rest : (symbols left : List S) (kind : K) (kinds : List K) → IsClear table follow symbols → advanced table symbols kind ≡ Some left → Derives table symbols (kind ∷ kinds) → Derives table left kinds
  derives_rest symbols left kind kinds clear is d =
      let found = derives_left table follow decides clear d in
      subst (λ row. Derives table row kinds) (same_Some found.0 left (sym found.1 ∙ is)) found.2

  raised : (symbols left : List S) (kind : K) (kinds : List K) → IsClear table follow symbols → advanced table symbols kind ≡ Some left → Fronts table symbols (kind ∷ kinds) → Fronts table left kinds
  raised symbols left kind kinds clear is front = (front.0, derives_rest symbols left kind (kinds ++ front.0) clear is front.1)

  at_end_error : (symbols : List S) (from : ℕ) → ErrorIsFrom table symbols from [] (at_end table symbols)
  at_end_error symbols from =
      by_bool (λ b. ErrorIsFrom table symbols from [] (if b then None else Some End)) (list_all table.nullable symbols)
      (λ all. nothing_derives table symbols all)
      (λ some. (row_derives table decides.productive symbols, λ d. both_ways (list_all table.nullable symbols) some (derives_nothing table d)))

  earlier : (symbols left : List S) (kind : K) (kinds : List K) (from : ℕ) (o : Option SyntaxError) → IsClear table follow symbols → advanced table symbols kind ≡ Some left → ErrorIsFrom table left (from + 1) kinds o → ErrorIsFrom table symbols from (kind ∷ kinds) o
  earlier symbols left kind kinds from None clear is d = left_derives table symbols left kind kinds is d
  earlier symbols left kind kinds from (Some (Token at)) clear is h = record {
    before = suc h.before;
    is = omega (arith, h.is);
    within = omega (arith, h.within);
    front = lowered symbols left kind (take h.before kinds) is h.front;
    broken = λ front. h.broken (raised symbols left kind (take (suc h.before) kinds) clear is front);
  }
  earlier symbols left kind kinds from (Some End) clear is h =
      (lowered symbols left kind kinds is h.0, λ d. h.1 (derives_rest symbols left kind kinds clear is d))

  here : (symbols : List S) (kind : K) (kinds : List K) (from : ℕ) → IsClear table follow symbols → advanced table symbols kind ≡ None → IsError table symbols from (kind ∷ kinds) from
  here symbols kind kinds from clear is = record {
    before = 0;
    is = omega arith;
    within = omega arith;
    front = row_derives table decides.productive symbols;
    broken = λ front. let found = derives_left table follow decides clear front.1 in none-some found.0 (sym is ∙ found.1);
  }

  pub machine_finds : (symbols : List S) (from : ℕ) (kinds : List K) → IsClear table follow symbols → ErrorIsFrom table symbols from kinds (error_from table symbols from kinds)
  machine_finds symbols from [] clear = at_end_error symbols from
  machine_finds symbols from (kind ∷ kinds) clear =
      by_option (λ o. ErrorIsFrom table symbols from (kind ∷ kinds) (elim o [ None ↦ Some (Token from) | Some left ↦ error_from table left (from + 1) kinds ]))
      (advanced table symbols kind)
      (λ left is. earlier symbols left kind kinds from (error_from table left (from + 1) kinds) clear is (machine_finds left (from + 1) kinds (left_clear table follow decides symbols left kind clear is)))
      (λ is. here symbols kind kinds from clear is)

-- ---- whole texts

at_place : {S K : Type 0} (table : Table S K) (start : S) (kinds : List K) (o : Option SyntaxError) → ErrorIsFrom table (start ∷ []) 0 kinds o → ErrorIs table start kinds o
at_place table start kinds None d = d
at_place table start kinds (Some (Token at)) h =
    let same : h.before ≡ at = omega (arith, h.is) in
    subst (λ n. (n < length kinds) × IsFront table start (take n kinds) × (IsFront table start (take (n + 1) kinds) → ⊥)) same
    (h.within, h.front, rw add-one h.broken)
at_place table start kinds (Some End) h = h

pub error_is : {S K : Type 0} (table : Table S K) (follow : S → K → Bool) → Decides table follow → (start : S) (kinds : List K) → ErrorIs table start kinds (error_of table start kinds)
error_is table follow decides start kinds = at_place table start kinds (error_of table start kinds) (machine_finds table follow decides (start ∷ []) 0 kinds (λ kind. refl))

-- ---- one first error

shorter : {S K : Type 0} (table : Table S K) (start : S) (first second : List K) → IsFront table start (first ++ second) → IsFront table start first
shorter table start first second front =
    (second ++ front.0, let d = front.1 in rw append_assoc at d)

less : {S K : Type 0} (table : Table S K) (start : S) (kinds : List K) (m n : ℕ) → m ≤ n → IsFront table start (take n kinds) → IsFront table start (take m kinds)
less table start kinds m n below front =
    let cut : take m kinds ++ drop m (take n kinds) ≡ take n kinds = ap (λ l. l ++ drop m (take n kinds)) (sym (take-take m n kinds below)) ∙ take-append-drop m (take n kinds) in
    shorter table start (take m kinds) (drop m (take n kinds)) (subst (IsFront table start) (sym cut) front)

whole : {S K : Type 0} (table : Table S K) (start : S) (kinds : List K) (n : ℕ) → IsFront table start kinds → IsFront table start (take n kinds)
whole table start kinds n front = shorter table start (take n kinds) (drop n kinds) (subst (IsFront table start) (sym (take-append-drop n kinds)) front)

text_front : {S K : Type 0} (table : Table S K) (start : S) (kinds : List K) → IsText table start kinds → IsFront table start kinds
text_front table start kinds d = ([], rw append-nil d)

pub error_is_one : {S K : Type 0} (table : Table S K) (start : S) (kinds : List K) (one other : Option SyntaxError) → ErrorIs table start kinds one → ErrorIs table start kinds other → one ≡ other
error_is_one table start kinds None None h k = refl
error_is_one table start kinds None (Some (Token n)) h k = absurd (k.2 (whole table start kinds (n + 1) (text_front table start kinds h)))
error_is_one table start kinds None (Some End) h k = absurd (k.1 h)
error_is_one table start kinds (Some (Token m)) None h k = absurd (h.2 (whole table start kinds (m + 1) (text_front table start kinds k)))
error_is_one table start kinds (Some (Token m)) (Some (Token n)) h k =
    elim (cases_order m n) [
      | inl same ↦ ap (λ at. Some (Token at)) same
      | inr apart ↦ absurd (elim apart [
        | inl below ↦ h.2 (less table start kinds (m + 1) n (omega (arith, below)) k.1)
        | inr above ↦ k.2 (less table start kinds (n + 1) m (omega (arith, above)) h.1)
      ])
    ]
error_is_one table start kinds (Some (Token m)) (Some End) h k = absurd (h.2 (whole table start kinds (m + 1) k.0))
error_is_one table start kinds (Some End) None h k = absurd (h.1 k)
error_is_one table start kinds (Some End) (Some (Token n)) h k = absurd (k.2 (whole table start kinds (n + 1) h.0))
error_is_one table start kinds (Some End) (Some End) h k = refl
