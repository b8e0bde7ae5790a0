-- What the machine's stack derives after a token.
use Rattle.std.proofs.Common.{◌≡◌, ◌++◌, ◌&&◌, Bool, true, false, List, [], ◌∷◌, Option, Some, None, refl, sym, subst, if◌then◌else◌}
use Rattle.std.proofs.lemmas.Bool.{and_from, both_ways}
use Rattle.std.proofs.lemmas.Option.{none-some, same_Some}
use Rattle.std.specs.Option.{is_some}
use Rattle.sdc_base.proofs.CaseFacts.{by_bool}
use Rattle.token_grammar.proofs.Derivations.{begun_by, by_option}
use Rattle.token_grammar.proofs.Following.{IsClear, clear_after, clear_rest, follows}
use Rattle.token_grammar.specs.Deciding.{Decides}
use Rattle.token_grammar.specs.Machine.{advanced, begun_or}
use Rattle.token_grammar.specs.Texts.{Derives, Table, begins, skips}

-- what is left after a token derives the rest of what there was to come
pub left_derives : {S K : Type 0} (table : Table S K) (symbols left : List S) (kind : K) (kinds : List K) → advanced table symbols kind ≡ Some left → Derives table left kinds → Derives table symbols (kind ∷ kinds)
left_derives table [] left kind kinds = λ is d. absurd (none-some left is)
left_derives table (symbol ∷ symbols) left kind kinds =
    by_option (λ o. begun_or o symbols (if table.nullable symbol then advanced table symbols kind else None) ≡ Some left → Derives table left kinds → Derives table (symbol ∷ symbols) (kind ∷ kinds))
    (table.next symbol kind)
    (λ after next is d. begins next (subst (λ row. Derives table row kinds) (same_Some left (after ++ symbols) (sym is)) d))
    (λ next.
    by_bool (λ b. (if b then advanced table symbols kind else None) ≡ Some left → Derives table left kinds → Derives table (symbol ∷ symbols) (kind ∷ kinds))
    (table.nullable symbol)
    (λ may is d. skips may (left_derives table symbols left kind kinds is d))
    (λ must is d. absurd (none-some left is)))

begins_none : {A : Type 0} (o : Option A) (may follow : Bool) → may ≡ true → follow ≡ true → (may && (follow && is_some o)) ≡ false → o ≡ None
begins_none None may follow m f h = refl
begins_none (Some x) may follow m f h = absurd (both_ways (may && (follow && true)) h (and_from may (follow && true) m (and_from follow true f refl)))

-- what derives a token leaves what derives the rest
pub derives_left : {S K : Type 0} (table : Table S K) (follow : S → K → Bool) → Decides table follow → {symbols : List S} {kind : K} {kinds : List K} → IsClear table follow symbols → Derives table symbols (kind ∷ kinds) → (left : List S) × (advanced table symbols kind ≡ Some left) × Derives table left kinds
derives_left table follow decides clear (begins {after = b} {symbols = ss} is d) = (b ++ ss, rw is refl, d)
derives_left table follow decides {kind = k} clear (skips {symbol = s} {symbols = ss} may d) =
    let none : table.next s k ≡ None = begins_none (table.next s k) (table.nullable s) (follow s k) may (follows table follow s ss k clear (begun_by table d)) (decides.apart s k) in
    let rest = derives_left table follow decides (clear_rest table follow s ss clear) d in
    (rest.0, rw (none, may) rest.1, rest.2)

-- what is left is covered as what there was to come
pub left_clear : {S K : Type 0} (table : Table S K) (follow : S → K → Bool) → Decides table follow → (symbols left : List S) (kind : K) → IsClear table follow symbols → advanced table symbols kind ≡ Some left → IsClear table follow left
left_clear table follow decides [] left kind clear = λ is. absurd (none-some left is)
left_clear table follow decides (symbol ∷ symbols) left kind clear =
    by_option (λ o. begun_or o symbols (if table.nullable symbol then advanced table symbols kind else None) ≡ Some left → IsClear table follow left)
    (table.next symbol kind)
    (λ after next is. subst (IsClear table follow) (same_Some (after ++ symbols) left is) (clear_after table follow decides symbol after symbols kind next clear))
    (λ next.
    by_bool (λ b. (if b then advanced table symbols kind else None) ≡ Some left → IsClear table follow left)
    (table.nullable symbol)
    (λ may is. left_clear table follow decides symbols left kind (clear_rest table follow symbol symbols clear) is)
    (λ must is. absurd (none-some left is)))
