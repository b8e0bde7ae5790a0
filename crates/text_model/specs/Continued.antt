-- What stands between words and between commands (Tcl): spaces, newlines and `;`, continued lines, and comments.
-- Each function gives the text after it. A backslash before a newline, or before a carriage return and a newline,
-- continues the line; with the spaces after it this is one blank.
use Rattle.std.specs.Prelude.{◌==◌, ◌||◌, ◌&&◌, ℕ, Bool, true, false, List, [], ◌∷◌, if◌then◌else◌}
use Rattle.text_model.specs.Bytes.{begins_with, after, is_end, is_space}

-- a text after a backslash begins as a continued line does
abbrev pub continues : List ℕ → Bool
continues [] = false
continues (b ∷ bs) = b == 10 || (b == 13 && begins_with 10 bs)

-- the text after the first newline
unfoldable pub after_newline : List ℕ → List ℕ
after_newline [] = []
after_newline (b ∷ bs) = if b == 10 then bs else after_newline bs

-- a text after a backslash that continues a line: the text after it and the spaces that follow
abbrev pub after_continued : List ℕ → List ℕ
after_continued text = after is_space (after_newline text)

-- the text after a gap between words: spaces and continued lines. The first argument: a backslash was read
-- whose newline is still to come
unfoldable pub after_gap : Bool → List ℕ → List ℕ
after_gap continued [] = []
after_gap continued (b ∷ bs) =
    if is_space b then after_gap continued bs
    else (if b == 10 && continued then after_gap false bs
    else (if b == 92 && continues bs then after_gap true bs
    else b ∷ bs))

-- what is read between commands: what parts them, a comment, or what a backslash takes out in a comment
pub data Between : Type 0 where
  parting : Between
  comment : Between
  taken : Between

-- the text from its first command on: after what parts commands, comments with them
unfoldable pub from_command : Between → List ℕ → List ℕ
from_command state [] = []
from_command parting (b ∷ bs) =
    if is_space b || is_end b then from_command parting bs
    else (if b == 35 then from_command comment bs
    else (if b == 92 && continues bs then from_command parting bs
    else b ∷ bs))
from_command comment (b ∷ bs) =
    if b == 10 then from_command parting bs
    else (if b == 92 then from_command taken bs
    else from_command comment bs)
from_command taken (b ∷ bs) = if b == 13 && begins_with 10 bs then from_command taken bs else from_command comment bs
