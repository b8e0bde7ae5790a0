-- What stands at the front of characters, by the bytes that stand there.
use Rattle.std.proofs.Common.{◌≡◌, ◌+◌, ◌<◌, ◌≤◌, ◌==◌, ℕ, Bool, true, false, List, [], ◌∷◌, length, get_or, take, drop, refl, sym, ap, subst, ◌∙◌, arith}
use Rattle.std.specs.Prelude.{nat_lt, if◌then◌else◌}
use Rattle.std.specs.List.{prefix_len}
use Rattle.std.proofs.lemmas.Bool.Decides.{nat_tests}
use Rattle.std.proofs.lemmas.List.{drop-map, length-drop, length-map, take-map}
use Rattle.library_model.specs.LibertyTokens as grammar
use Rattle.library_model.specs.LibertyTokens.{Character, Ending, Form, at_end, bare, bare_len, bytes_of, front_after, gap_len, in_quotes, is_bare_byte, parts, quoted, quoted_front, sign, token_front, token_of}
use Rattle.text_model.specs.Row.{Front, found, stops}
use Rattle.lib_cells.specs.Characters.{Shows}
use Rattle.lib_cells.specs.declared.scanning.lexing.Step.{Step}
use Rattle.lib_cells.specs.declared.scanning.lexing.Step.TheVariants.{End, Found, InQuotes}
use Rattle.lib_cells.specs.declared.scanning.rest.Rest.{Rest}
use Rattle.lib_cells.specs.declared.scanning.tokens.Token.{Token}
use Rattle.lib_cells.specs.Lexing.{AfterAt, IsFront, LeavesLess, QuotedAt, TokenAt, before_quote}
use Rattle.lib_cells.specs.Scan.{bare_bytes, is_no_quote}
use Rattle.lib_cells.specs.Seen.{form_seen, token_seen}
use Rattle.lib_cells.proofs.ScanFacts.{bare_of_bytes, bare_some, prefix_of_bytes}

-- ---- characters by their bytes and lines

pub shows_drop : (n : ℕ) (text lines : List ℕ) (cs : List Character) → Shows text lines cs → Shows (drop n text) (drop n lines) (drop n cs)
shows_drop n text lines cs shows = record {
  bytes_are = sym (drop-map (λ (c : Character). c.byte) n cs) ∙ ap (drop n) shows.bytes_are;
  lines_are = sym (drop-map (λ (c : Character). c.line) n cs) ∙ ap (drop n) shows.lines_are;
}

shows_take : (n : ℕ) (text lines : List ℕ) (cs : List Character) → Shows text lines cs → bytes_of (take n cs) ≡ take n text
shows_take n text lines cs shows = sym (take-map (λ (c : Character). c.byte) n cs) ∙ ap (take n) shows.bytes_are

shows_length : (text lines : List ℕ) (cs : List Character) → Shows text lines cs → length cs ≡ length text
shows_length text lines cs shows = sym (length-map cs (λ (c : Character). c.byte)) ∙ ap length shows.bytes_are

shows_rest : (text lines : List ℕ) (after : Rest) (cs : List Character) → after.text.now ≡ text → after.lines.now ≡ lines → Shows text lines cs → Shows after.text.now after.lines.now cs
shows_rest text lines after cs text_is lines_is shows = record { bytes_are = shows.bytes_are ∙ sym text_is; lines_are = shows.lines_are ∙ sym lines_is }

-- ---- tokens

abbrev Fronts : Type 0
Fronts = Front grammar.Token (List Character) Ending

abbrev made : List ℕ → ℕ → Form → List ℕ → grammar.Token
made gap line form text = record { gap = gap; line = line; form = form; text = text }

-- a token of the code is this token
record IsToken (token : Token) (gap : List ℕ) (line : ℕ) (form : Form) (text : List ℕ) : Type 0 where
  gap_is : token.gap.now ≡ gap
  line_is : token.line ≡ line
  form_is : form_seen token.form ≡ form
  text_is : token.text.now ≡ text

token_is : (token : Token) (gap : List ℕ) (line : ℕ) (form : Form) (text : List ℕ) → IsToken token gap line form text → made gap line form text ≡ token_seen token
token_is token gap line form text is =
    ap (λ (g : List ℕ). made g line form text) (sym is.gap_is)
    ∙ (ap (λ (l : ℕ). made token.gap.now l form text) (sym is.line_is)
    ∙ (ap (λ (f : Form). made token.gap.now token.line f text) (sym is.form_is)
    ∙ ap (λ (x : List ℕ). made token.gap.now token.line (form_seen token.form) x) (sym is.text_is)))

abbrev found_at : grammar.Token → List Character → Fronts
found_at t cs = found t cs

abbrev stops_at : Ending → Fronts
stops_at ending = stops ending

found_front : (token : Token) (after : Rest) (front : Fronts) (gap : List ℕ) (line : ℕ) (form : Form) (text rest lines : List ℕ) (cs : List Character) → front ≡ found_at (made gap line form text) cs → IsToken token gap line form text → after.text.now ≡ rest → after.lines.now ≡ lines → Shows rest lines cs → IsFront (Found token after) front
found_front token after front gap line form text rest lines cs is token_fields rest_is lines_is shows = (
  cs,
  is ∙ ap (λ (t : grammar.Token). found_at t cs) (token_is token gap line form text token_fields),
  shows_rest rest lines after cs rest_is lines_is shows,
)

-- ---- quoted texts

quote_place : (text lines : List ℕ) (cs : List Character) → Shows text lines cs → before_quote cs ≡ prefix_len is_no_quote text
quote_place text lines cs shows = sym (prefix_of_bytes is_no_quote cs) ∙ ap (prefix_len is_no_quote) shows.bytes_are

less_test : (n m : ℕ) → n < m → nat_lt n m ≡ true
less_test n m less = grind (arith, nat_tests)

not_less_test : (n m : ℕ) → m ≤ n → nat_lt n m ≡ false
not_less_test n m more = grind (arith, nat_tests)

quoted_front_found : (gap : List ℕ) (line : ℕ) (text lines : List ℕ) (n : ℕ) (cs : List Character) → n ≡ prefix_len is_no_quote text → n < length text → Shows text lines cs → quoted_front gap line cs (before_quote cs) ≡ found_at (made gap line quoted (take n text)) (drop (n + 1) cs)
quoted_front_found gap line text lines n cs n_is inside shows =
    ap (quoted_front gap line cs) (quote_place text lines cs shows ∙ sym n_is)
    ∙ (ap (λ (t : Bool). if t then found_at (token_of gap line quoted (take n cs)) (drop (n + 1) cs) else stops_at (in_quotes (token_of gap line quoted cs)))
    (less_test n (length cs) (omega (arith, shows_length text lines cs shows, inside)))
    ∙ ap (λ (x : List ℕ). found_at (made gap line quoted x) (drop (n + 1) cs)) (shows_take n text lines cs shows))

pub quoted_found : (gap : List ℕ) (line : ℕ) (text lines : List ℕ) (token : Token) (after : Rest) (n : ℕ) → n ≡ prefix_len is_no_quote text → n < length text → token.gap.now ≡ gap → token.line ≡ line → form_seen token.form ≡ quoted → token.text.now ≡ take n text → after.text.now ≡ drop (n + 1) text → after.lines.now ≡ drop (n + 1) lines → QuotedAt gap line text lines (Found token after)
quoted_found gap line text lines token after n n_is inside gap_is line_is form_is text_is rest_is lines_is = record {
  is = λ cs shows.
      found_front token after (quoted_front gap line cs (before_quote cs)) gap line quoted (take n text) (drop (n + 1) text) (drop (n + 1) lines) (drop (n + 1) cs)
      (quoted_front_found gap line text lines n cs n_is inside shows)
      (record { gap_is = gap_is; line_is = line_is; form_is = form_is; text_is = text_is })
      rest_is lines_is
      (shows_drop (n + 1) text lines cs shows);
  less = omega (arith, ap length rest_is, length-drop (n + 1) text, inside);
}

quoted_front_ends : (gap : List ℕ) (line : ℕ) (text lines : List ℕ) (n : ℕ) (cs : List Character) → n ≡ prefix_len is_no_quote text → n ≡ length text → Shows text lines cs → quoted_front gap line cs (before_quote cs) ≡ stops_at (in_quotes (made gap line quoted text))
quoted_front_ends gap line text lines n cs n_is past shows =
    ap (quoted_front gap line cs) (quote_place text lines cs shows ∙ sym n_is)
    ∙ (ap (λ (t : Bool). if t then found_at (token_of gap line quoted (take n cs)) (drop (n + 1) cs) else stops_at (in_quotes (token_of gap line quoted cs)))
    (not_less_test n (length cs) (omega (arith, shows_length text lines cs shows, past)))
    ∙ ap (λ (x : List ℕ). stops_at (in_quotes (made gap line quoted x))) shows.bytes_are)

pub quoted_ends : (gap : List ℕ) (line : ℕ) (text lines : List ℕ) (token : Token) (n : ℕ) → n ≡ prefix_len is_no_quote text → n ≡ length text → token.gap.now ≡ gap → token.line ≡ line → form_seen token.form ≡ quoted → token.text.now ≡ text → QuotedAt gap line text lines (InQuotes token)
quoted_ends gap line text lines token n n_is past gap_is line_is form_is text_is = record {
  is = λ cs shows.
      quoted_front_ends gap line text lines n cs n_is past shows
      ∙ ap (λ (t : grammar.Token). stops_at (in_quotes t)) (token_is token gap line quoted text (record { gap_is = gap_is; line_is = line_is; form_is = form_is; text_is = text_is }));
  less = tt;
}

-- ---- a token after its gap

pub after_end : (gap text lines : List ℕ) → length text ≡ 0 → AfterAt gap text lines End
after_end gap text lines none = record { is = λ cs shows. ends cs (shows_length text lines cs shows ∙ none); less = tt } where
  ends : (cs : List Character) → length cs ≡ 0 → front_after gap cs ≡ stops_at at_end
  ends [] is = refl
  ends (c ∷ cs) is = absurd (omega (arith, is))

-- the first character of a text that is not empty, and those after it
record Split (text lines : List ℕ) (cs : List Character) : Type 0 where
  first : Character
  after : List Character
  is : cs ≡ first ∷ after
  byte_is : first.byte ≡ get_or text 0 0
  line_is : first.line ≡ get_or lines 0 1
  shows : Shows (drop 1 text) (drop 1 lines) after

split : (text lines : List ℕ) (cs : List Character) → 0 < length text → Shows text lines cs → Split text lines cs
split text lines [] some shows = absurd (omega (arith, some, shows_length text lines [] shows))
split text lines (c ∷ cs) some shows = record {
  first = c;
  after = cs;
  is = refl;
  byte_is = ap (λ (xs : List ℕ). get_or xs 0 0) shows.bytes_are;
  line_is = ap (λ (xs : List ℕ). get_or xs 0 1) shows.lines_are;
  shows = shows_drop 1 text lines (c ∷ cs) shows;
}

-- what stands in front of a character, by the tests of its byte
abbrev by_tests : List ℕ → ℕ → Character → List Character → Bool → Bool → Fronts
by_tests gap line c cs quotes names =
    if quotes then quoted_front gap line cs (before_quote cs)
    else (if names then found_at (token_of gap line bare (take (bare_len 0 (c ∷ cs)) (c ∷ cs))) (drop (bare_len 0 (c ∷ cs)) (c ∷ cs))
    else found_at (token_of gap line sign (c ∷ [])) cs)

quote_test : (b : ℕ) → b ≡ 34 → (b == 34) ≡ true
quote_test b is = grind (arith, nat_tests)

less_quoted : (text rest : List ℕ) (step : Step) → rest ≡ drop 1 text → 0 < length text → LeavesLess (length rest + 1) step → LeavesLess (length text) step
less_quoted text rest (Found t r) rest_is some less = omega (arith, less, ap length rest_is, length-drop 1 text, some)
less_quoted text rest (InQuotes t) rest_is some less = tt
less_quoted text rest End rest_is some less = tt

quoted_here : (gap : List ℕ) (line : ℕ) (text lines : List ℕ) (cs : List Character) → get_or text 0 0 ≡ 34 → line ≡ get_or lines 0 1 → (s : Split text lines cs) → front_after gap cs ≡ quoted_front gap line s.after (before_quote s.after)
quoted_here gap line text lines cs is_quote line_is s =
    ap (front_after gap) s.is
    ∙ (ap (λ (t : Bool). by_tests gap s.first.line s.first s.after t (is_bare_byte 0 s.first.byte)) (quote_test s.first.byte (s.byte_is ∙ is_quote))
    ∙ ap (λ (l : ℕ). quoted_front gap l s.after (before_quote s.after)) (s.line_is ∙ sym line_is))

pub after_quoted : (gap : List ℕ) (line : ℕ) (text lines rest rest_lines : List ℕ) (step : Step) → 0 < length text → get_or text 0 0 ≡ 34 → line ≡ get_or lines 0 1 → rest ≡ drop 1 text → rest_lines ≡ drop 1 lines → QuotedAt gap line rest rest_lines step → AfterAt gap text lines step
after_quoted gap line text lines rest rest_lines step some is_quote line_is rest_is rest_lines_is at = record {
  is = λ cs shows.
      let s = split text lines cs some shows in
      let shown : Shows rest rest_lines s.after = record { bytes_are = s.shows.bytes_are ∙ sym rest_is; lines_are = s.shows.lines_are ∙ sym rest_lines_is } in
      subst (λ (f : Fronts). IsFront step f) (sym (quoted_here gap line text lines cs is_quote line_is s)) (at.is s.after shown);
  less = less_quoted text rest step rest_is some at.less;
}

no_quote_test : (b : ℕ) → (b ≡ 34 → ⊥) → (b == 34) ≡ false
no_quote_test b other = grind (arith, nat_tests)

abbrev bare_at : List ℕ → ℕ → List Character → ℕ → Fronts
bare_at gap line cs len = found_at (token_of gap line bare (take len cs)) (drop len cs)

bare_here : (gap text : List ℕ) (c : Character) (cs : List Character) → c.byte ≡ get_or text 0 0 → (get_or text 0 0 ≡ 34 → ⊥) → is_bare_byte 0 (get_or text 0 0) ≡ true → front_after gap (c ∷ cs) ≡ bare_at gap c.line (c ∷ cs) (bare_len 0 (c ∷ cs))
bare_here gap text c cs byte_is no_quote names =
    ap (λ (t : Bool). by_tests gap c.line c cs t (is_bare_byte 0 c.byte)) (no_quote_test c.byte (λ e. no_quote (sym byte_is ∙ e)))
    ∙ ap (λ (t : Bool). by_tests gap c.line c cs false t) (ap (is_bare_byte 0) byte_is ∙ names)

bare_front : (gap text lines : List ℕ) (n : ℕ) (cs : List Character) → n ≡ bare_bytes 0 text → (get_or text 0 0 ≡ 34 → ⊥) → is_bare_byte 0 (get_or text 0 0) ≡ true → Shows text lines cs → Split text lines cs → front_after gap cs ≡ found_at (made gap (get_or lines 0 1) bare (take n text)) (drop n cs)
bare_front gap text lines n cs n_is no_quote names shows s =
    let len_is : bare_len 0 cs ≡ n = sym (bare_of_bytes 0 cs) ∙ (ap (bare_bytes 0) shows.bytes_are ∙ sym n_is) in
    ap (front_after gap) s.is
    ∙ (bare_here gap text s.first s.after s.byte_is no_quote names
    ∙ (ap (λ (xs : List Character). bare_at gap s.first.line xs (bare_len 0 xs)) (sym s.is)
    ∙ (ap (bare_at gap s.first.line cs) len_is
    ∙ (ap (λ (l : ℕ). bare_at gap l cs n) s.line_is
    ∙ ap (λ (x : List ℕ). found_at (made gap (get_or lines 0 1) bare x) (drop n cs)) (shows_take n text lines cs shows)))))

pub after_bare : (gap text lines : List ℕ) (token : Token) (after : Rest) (n : ℕ) → n ≡ bare_bytes 0 text → 0 < length text → (get_or text 0 0 ≡ 34 → ⊥) → is_bare_byte 0 (get_or text 0 0) ≡ true → token.gap.now ≡ gap → token.line ≡ get_or lines 0 1 → form_seen token.form ≡ bare → token.text.now ≡ take n text → after.text.now ≡ drop n text → after.lines.now ≡ drop n lines → AfterAt gap text lines (Found token after)
after_bare gap text lines token after n n_is some no_quote names gap_is line_is form_is text_is rest_is lines_is = record {
  is = λ cs shows.
      found_front token after (front_after gap cs) gap (get_or lines 0 1) bare (take n text) (drop n text) (drop n lines) (drop n cs)
      (bare_front gap text lines n cs n_is no_quote names shows (split text lines cs some shows))
      (record { gap_is = gap_is; line_is = line_is; form_is = form_is; text_is = text_is })
      rest_is lines_is
      (shows_drop n text lines cs shows);
  less = omega (arith, ap length rest_is, length-drop n text, some, n_is, bare_some text some names);
}

sign_here : (gap text : List ℕ) (c : Character) (cs : List Character) → c.byte ≡ get_or text 0 0 → (get_or text 0 0 ≡ 34 → ⊥) → is_bare_byte 0 (get_or text 0 0) ≡ false → front_after gap (c ∷ cs) ≡ found_at (token_of gap c.line sign (c ∷ [])) cs
sign_here gap text c cs byte_is no_quote names =
    ap (λ (t : Bool). by_tests gap c.line c cs t (is_bare_byte 0 c.byte)) (no_quote_test c.byte (λ e. no_quote (sym byte_is ∙ e)))
    ∙ ap (λ (t : Bool). by_tests gap c.line c cs false t) (ap (is_bare_byte 0) byte_is ∙ names)

first_text : (text lines : List ℕ) (c : Character) (cs : List Character) → Shows text lines (c ∷ cs) → bytes_of (c ∷ []) ≡ take 1 text
first_text text lines c cs shows = shows_take 1 text lines (c ∷ cs) shows

sign_front : (gap text lines : List ℕ) (cs : List Character) → (get_or text 0 0 ≡ 34 → ⊥) → is_bare_byte 0 (get_or text 0 0) ≡ false → Shows text lines cs → (s : Split text lines cs) → front_after gap cs ≡ found_at (made gap (get_or lines 0 1) sign (take 1 text)) s.after
sign_front gap text lines cs no_quote names shows s =
    ap (front_after gap) s.is
    ∙ (sign_here gap text s.first s.after s.byte_is no_quote names
    ∙ (ap (λ (l : ℕ). found_at (token_of gap l sign (s.first ∷ [])) s.after) s.line_is
    ∙ ap (λ (x : List ℕ). found_at (made gap (get_or lines 0 1) sign x) s.after) (first_text text lines s.first s.after (subst (λ (xs : List Character). Shows text lines xs) s.is shows))))

pub after_sign : (gap text lines : List ℕ) (token : Token) (after : Rest) → 0 < length text → (get_or text 0 0 ≡ 34 → ⊥) → is_bare_byte 0 (get_or text 0 0) ≡ false → token.gap.now ≡ gap → token.line ≡ get_or lines 0 1 → form_seen token.form ≡ sign → token.text.now ≡ take 1 text → after.text.now ≡ drop 1 text → after.lines.now ≡ drop 1 lines → AfterAt gap text lines (Found token after)
after_sign gap text lines token after some no_quote names gap_is line_is form_is text_is rest_is lines_is = record {
  is = λ cs shows.
      let s = split text lines cs some shows in
      found_front token after (front_after gap cs) gap (get_or lines 0 1) sign (take 1 text) (drop 1 text) (drop 1 lines) s.after
      (sign_front gap text lines cs no_quote names shows s)
      (record { gap_is = gap_is; line_is = line_is; form_is = form_is; text_is = text_is })
      rest_is lines_is s.shows;
  less = omega (arith, ap length rest_is, length-drop 1 text, some);
}

-- ---- a token with its gap

gap_front : (text lines gap : List ℕ) (n : ℕ) (cs : List Character) → n ≡ prefix_len parts text → gap ≡ take n text → Shows text lines cs → token_front cs ≡ front_after gap (drop n cs)
gap_front text lines gap n cs n_is gap_is shows =
    let len_is : gap_len cs ≡ n = sym (prefix_of_bytes parts cs) ∙ (ap (prefix_len parts) shows.bytes_are ∙ sym n_is) in
    ap (λ (len : ℕ). front_after (bytes_of (take len cs)) (drop len cs)) len_is
    ∙ ap (λ (g : List ℕ). front_after g (drop n cs)) (shows_take n text lines cs shows ∙ sym gap_is)

less_after : (text rest : List ℕ) (n : ℕ) (step : Step) → rest ≡ drop n text → LeavesLess (length rest) step → LeavesLess (length text) step
less_after text rest n (Found t r) rest_is less = omega (arith, less, ap length rest_is, length-drop n text)
less_after text rest n (InQuotes t) rest_is less = tt
less_after text rest n End rest_is less = tt

pub token_stands : (text lines gap rest rest_lines : List ℕ) (n : ℕ) (step : Step) → n ≡ prefix_len parts text → gap ≡ take n text → rest ≡ drop n text → rest_lines ≡ drop n lines → AfterAt gap rest rest_lines step → TokenAt text lines step
token_stands text lines gap rest rest_lines n step n_is gap_is rest_is lines_is at = record {
  is = λ cs shows.
      let dropped = shows_drop n text lines cs shows in
      let shown : Shows rest rest_lines (drop n cs) = record { bytes_are = dropped.bytes_are ∙ sym rest_is; lines_are = dropped.lines_are ∙ sym lines_is } in
      subst (λ (f : Fronts). IsFront step f) (sym (gap_front text lines gap n cs n_is gap_is shows)) (at.is (drop n cs) shown);
  less = less_after text rest n step rest_is at.less;
}

pub first_byte : (bytes text : List ℕ) → bytes ≡ text → get_or text 0 0 ≡ get_or bytes 0 0
first_byte bytes text is = ap (λ (xs : List ℕ). get_or xs 0 0) (sym is)
