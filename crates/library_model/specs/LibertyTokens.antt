-- The tokens of a library's text (Liberty): names and numbers, quoted texts, and signs, each with its line. Which bytes
-- a name may have is this project's own rule. It reads in two steps. First comments and continued lines become blanks,
-- and each character keeps its line. Then tokens stand in a row, with blanks between them or nothing.
use Rattle.std.specs.Prelude.{◌≡◌, ◌+◌, ◌-◌, ◌==◌, ◌||◌, ◌&&◌, ℕ, Bool, true, false, not, List, [], ◌∷◌, ◌++◌, length, map, min, take, drop, nat_lt, if◌then◌else◌}
use Rattle.std.specs.List.{prefix_len}
use Rattle.text_model.specs.Bytes.{begins_with, last_line}
use Rattle.text_model.specs.Continued.{continues}
use Rattle.text_model.specs.Row.{Front, Row, found, stops}

-- ---- characters

-- a byte of the text, or a blank in the place of a comment or of a continued line's end; and its line
pub record Character : Type 0 where
  pub byte : ℕ
  pub line : ℕ

-- what a byte stands in: in a quoted text, in a comment (at the `*` of its `/*`, or after a `*` in it), at the end of
-- a continued line in a quoted text or outside one, or in none of these
pub data Within : Type 0 where
  plain : Within
  quotes : Within
  comment_start : Within
  comment : Within
  comment_star : Within
  continued : Within
  continued_quotes : Within

abbrev pub is_in_comment : Within → Bool
is_in_comment comment_start = true
is_in_comment comment = true
is_in_comment comment_star = true
is_in_comment _ = false

-- a byte and the text after it begin a comment: `/*`
abbrev pub begins_comment : ℕ → List ℕ → Bool
begins_comment b bs = b == 47 && begins_with 42 bs

-- a byte and the text after it continue a line: a backslash before a newline, or before a carriage return and one
abbrev pub begins_continued : ℕ → List ℕ → Bool
begins_continued b bs = b == 92 && continues bs

abbrev pub in_comment_after : ℕ → Within
in_comment_after b = if b == 42 then comment_star else comment

-- what the text after a byte stands in
abbrev pub within_after : Within → ℕ → List ℕ → Within
within_after plain b bs =
    if begins_comment b bs then comment_start
    else (if begins_continued b bs then continued
    else (if b == 34 then quotes
    else plain))
within_after quotes b bs = if begins_continued b bs then continued_quotes else (if b == 34 then plain else quotes)
within_after comment_start b bs = comment
within_after comment b bs = in_comment_after b
within_after comment_star b bs = if b == 47 then plain else in_comment_after b
within_after continued b bs = if b == 10 then plain else continued
within_after continued_quotes b bs = if b == 10 then quotes else continued_quotes

-- what a byte is as a character, if it is one: itself, or a blank where a comment or the end of a continued line begins
abbrev pub shown : Within → ℕ → List ℕ → List ℕ
shown plain b bs = (if begins_comment b bs || begins_continued b bs then 32 else b) ∷ []
shown quotes b bs = (if begins_continued b bs then 32 else b) ∷ []
shown _ b bs = []

abbrev pub line_past : ℕ → ℕ → ℕ
line_past b line = if b == 10 then min (line + 1) last_line else line

abbrev pub character : ℕ → ℕ → Character
character line byte = record { byte = byte; line = line }

-- the characters of a text that stands in something and begins on a line
abbrev pub characters : Within → ℕ → List ℕ → List Character
characters within line [] = []
characters within line (b ∷ bs) =
    map (character line) (shown within b bs) ++ characters (within_after within b bs) (line_past b line) bs

-- what the end of a text stands in
abbrev pub within_at_end : Within → List ℕ → Within
within_at_end within [] = within
within_at_end within (b ∷ bs) = within_at_end (within_after within b bs) bs

-- ---- tokens

pub data Form : Type 0 where
  bare : Form
  quoted : Form
  sign : Form

-- a token: what parts it from the one before it, its line, and its text, of a quoted one what stands in the quotes
pub record Token : Type 0 where
  pub gap : List ℕ
  pub line : ℕ
  pub form : Form
  pub text : List ℕ

-- how tokens end: with the text, or with a quoted text that has no end
pub data Ending : Type 0 where
  at_end : Ending
  in_quotes : Token → Ending

abbrev pub last_token : Ending → List Token
last_token at_end = []
last_token (in_quotes token) = token ∷ []

abbrev pub is_unfinished : Ending → Bool
is_unfinished at_end = false
is_unfinished (in_quotes token) = true

-- a space, a tab, a carriage return or a newline
abbrev pub parts : ℕ → Bool
parts b = b == 32 || b == 9 || b == 13 || b == 10

-- `(`, `)`, `{`, `}`, `;` and `,`
abbrev pub is_sign : ℕ → Bool
is_sign b = b == 40 || b == 41 || b == 123 || b == 125 || b == 59 || b == 44

-- a byte that a name or number may have, inside so many square brackets; `:` only inside of them
abbrev pub is_bare_byte : ℕ → ℕ → Bool
is_bare_byte brackets b = not (parts b || is_sign b || b == 34 || (b == 58 && brackets == 0))

abbrev pub brackets_after : ℕ → ℕ → ℕ
brackets_after b brackets = if b == 91 then brackets + 1 else (if b == 93 then brackets - 1 else brackets)

-- the number of characters of the name or number at the front, inside so many square brackets of it
abbrev pub bare_len : ℕ → List Character → ℕ
bare_len brackets [] = 0
bare_len brackets (c ∷ cs) =
    if is_bare_byte brackets c.byte then bare_len (brackets_after c.byte brackets) cs + 1 else 0

abbrev pub bytes_of : List Character → List ℕ
bytes_of = map (λ (c : Character). c.byte)

abbrev pub token_of : List ℕ → ℕ → Form → List Character → Token
token_of gap line form text = record { gap = gap; line = line; form = form; text = bytes_of text }

-- a quoted text after its first quote, where so many characters stand before the next quote
abbrev pub quoted_front : List ℕ → ℕ → List Character → ℕ → Front Token (List Character) Ending
quoted_front gap line text len =
    if nat_lt len (length text) then found (token_of gap line quoted (take len text)) (drop (len + 1) text)
    else stops (in_quotes (token_of gap line quoted text))

-- a token that begins with the first character, after what parts it from the one before
abbrev pub front_after : List ℕ → List Character → Front Token (List Character) Ending
front_after gap [] = stops at_end
front_after gap (c ∷ cs) =
    if c.byte == 34 then quoted_front gap c.line cs (prefix_len (λ (d : Character). not (d.byte == 34)) cs)
    else (if is_bare_byte 0 c.byte
    then found (token_of gap c.line bare (take (bare_len 0 (c ∷ cs)) (c ∷ cs))) (drop (bare_len 0 (c ∷ cs)) (c ∷ cs))
    else found (token_of gap c.line sign (c ∷ [])) cs)

abbrev pub gap_len : List Character → ℕ
gap_len text = prefix_len (λ (c : Character). parts c.byte) text

-- what stands at the front of characters: a token, or the end
abbrev pub token_front : List Character → Front Token (List Character) Ending
token_front text = front_after (bytes_of (take (gap_len text) text)) (drop (gap_len text) text)

-- these tokens stand in a row, and this ends them
abbrev pub AreTokens : List Character → List Token → Ending → Type 0
AreTokens text tokens ending = Row (λ place stands. token_front place ≡ stands) tokens text ending

-- the tokens of a whole text, with one whose quotes have no end, and whether such a one or a comment has no end
pub record IsLexed (text : List ℕ) (tokens : List Token) (unfinished : Bool) : Type 0 where
  pub stood : List Token
  pub ending : Ending
  pub row : AreTokens (characters plain 1 text) stood ending
  pub all : tokens ≡ stood ++ last_token ending
  pub whole : unfinished ≡ (is_unfinished ending || is_in_comment (within_at_end plain text))
