-- Rows of symbols in which `follow` covers what may stand after each: the stack of the machine always is one.
use Rattle.std.proofs.Common.{◌≡◌, ◌++◌, ◌||◌, ◌&&◌, Bool, true, false, not, List, [], ◌∷◌, Some, refl, ap, ◌∙◌}
use Rattle.std.proofs.lemmas.Bool.{and_from, and_parts, false≢true}
use Rattle.std.specs.Option.{is_some}
use Rattle.token_grammar.specs.Deciding.{Decides, is_followed, may_begin}
use Rattle.token_grammar.specs.Texts.{Table}

-- after each symbol stands only what `follow` has, and nothing after the last
abbrev pub IsClear : {S K : Type 0} → Table S K → (S → K → Bool) → List S → Type 0
IsClear {K = K} table follow symbols = (kind : K) → is_followed table follow symbols kind false ≡ true

may_begin-append : {S K : Type 0} (table : Table S K) (first second : List S) (kind : K) (after : Bool) → may_begin table (first ++ second) kind after ≡ may_begin table first kind (may_begin table second kind after)
may_begin-append table [] second kind after = refl
may_begin-append table (symbol ∷ first) second kind after =
    ap (λ b. is_some (table.next symbol kind) || (table.nullable symbol && b)) (may_begin-append table first second kind after)

and_joined : (a b c : Bool) → (a && (b && c)) ≡ ((a && b) && c)
and_joined true b c = refl
and_joined false b c = refl

is_followed-append : {S K : Type 0} (table : Table S K) (follow : S → K → Bool) (first second : List S) (kind : K) (after : Bool) → is_followed table follow (first ++ second) kind after ≡ (is_followed table follow first kind (may_begin table second kind after) && is_followed table follow second kind after)
is_followed-append table follow [] second kind after = refl
is_followed-append table follow (symbol ∷ first) second kind after =
    rw (may_begin-append table first second kind after, is_followed-append table follow first second kind after)
    (and_joined
    (not (may_begin table first kind (may_begin table second kind after)) || follow symbol kind)
    (is_followed table follow first kind (may_begin table second kind after))
    (is_followed table follow second kind after))

begins_step : (here nothing less more : Bool) → (less ≡ true → more ≡ true) → (here || (nothing && less)) ≡ true → (here || (nothing && more)) ≡ true
begins_step true nothing less more implied h = refl
begins_step false true less more implied h = implied h
begins_step false false less more implied h = h

-- what may begin symbols with nothing after them may begin them with a token after them
begins_more : {S K : Type 0} (table : Table S K) (symbols : List S) (kind : K) → may_begin table symbols kind false ≡ true → may_begin table symbols kind true ≡ true
begins_more table [] kind h = refl
begins_more table (symbol ∷ symbols) kind h =
    begins_step (is_some (table.next symbol kind)) (table.nullable symbol) (may_begin table symbols kind false) (may_begin table symbols kind true) (begins_more table symbols kind) h

followed_step : (less more follow covered wanted : Bool) → (less ≡ true → more ≡ true) → (covered ≡ true → wanted ≡ true) → ((not more || follow) && covered) ≡ true → ((not less || follow) && wanted) ≡ true
followed_step false more follow covered wanted implied rest h = rest (and_parts (not more || follow) covered h).1
followed_step true true true covered wanted implied rest h = rest h
followed_step true true false covered wanted implied rest h = h
followed_step true false follow covered wanted implied rest h = absurd (false≢true (implied refl))

fewer_after : {S K : Type 0} (table : Table S K) (follow : S → K → Bool) (symbols : List S) (kind : K) → is_followed table follow symbols kind true ≡ true → is_followed table follow symbols kind false ≡ true
fewer_after table follow [] kind h = refl
fewer_after table follow (symbol ∷ symbols) kind h =
    followed_step (may_begin table symbols kind false) (may_begin table symbols kind true) (follow symbol kind) (is_followed table follow symbols kind true) (is_followed table follow symbols kind false) (begins_more table symbols kind) (fewer_after table follow symbols kind) h

-- what covers more covers less
pub covers_less : {S K : Type 0} (table : Table S K) (follow : S → K → Bool) (symbols : List S) (kind : K) (more less : Bool) → (less ≡ true → more ≡ true) → is_followed table follow symbols kind more ≡ true → is_followed table follow symbols kind less ≡ true
covers_less table follow symbols kind true true implied h = h
covers_less table follow symbols kind true false implied h = fewer_after table follow symbols kind h
covers_less table follow symbols kind false true implied h = absurd (false≢true (implied refl))
covers_less table follow symbols kind false false implied h = h

head_followed : (begun follow rest : Bool) → ((not begun || follow) && rest) ≡ true → begun ≡ true → follow ≡ true
head_followed true true rest h e = refl
head_followed true false rest h e = h
head_followed false follow rest h e = absurd (false≢true e)

-- a token that may begin what is after a symbol may follow it
pub follows : {S K : Type 0} (table : Table S K) (follow : S → K → Bool) (symbol : S) (symbols : List S) (kind : K) → IsClear table follow (symbol ∷ symbols) → may_begin table symbols kind false ≡ true → follow symbol kind ≡ true
follows table follow symbol symbols kind clear begun =
    head_followed (may_begin table symbols kind false) (follow symbol kind) (is_followed table follow symbols kind false) (clear kind) begun

pub clear_rest : {S K : Type 0} (table : Table S K) (follow : S → K → Bool) (symbol : S) (symbols : List S) → IsClear table follow (symbol ∷ symbols) → IsClear table follow symbols
clear_rest table follow symbol symbols clear kind =
    (and_parts (not (may_begin table symbols kind false) || follow symbol kind) (is_followed table follow symbols kind false) (clear kind)).1

pub clear_after : {S K : Type 0} (table : Table S K) (follow : S → K → Bool) → Decides table follow → (symbol : S) (after symbols : List S) (kind : K) → table.next symbol kind ≡ Some after → IsClear table follow (symbol ∷ symbols) → IsClear table follow (after ++ symbols)
clear_after table follow decides symbol after symbols kind is clear later =
    let covered = decides.covered symbol kind later in
    let first : is_followed table follow after later (may_begin table symbols later false) ≡ true =
    covers_less table follow after later (follow symbol later) (may_begin table symbols later false) (follows table follow symbol symbols later clear) (rw is at covered) in
    is_followed-append table follow after symbols later false
    ∙ and_from (is_followed table follow after later (may_begin table symbols later false)) (is_followed table follow symbols later false) first (clear_rest table follow symbol symbols clear later)
