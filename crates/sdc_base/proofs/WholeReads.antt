-- What holds while the rest of a file is read piece by piece, and what the last piece makes of it.
use Rattle.std.proofs.Common.{◌≡◌, ◌+◌, ◌-◌, ◌≤◌, ◌++◌, ℕ, List, length, take, drop, Option, Some, None, Ok, sym, ap, ◌∙◌, arith, length-append, length-take}
use Rattle.std.proofs.lemmas.List.{take-take, take-append-le}
use Rattle.std.proofs.lemmas.Grind.{common_steps}
use Rattle.sdc_base.specs.Files.{Reading, Reads, ReadsNext, rest_of}

-- the bytes so far, and after them what is still to be read, are what was to be read before
pub record ReadSome (read : List ℕ) (before now : Reading) : Type 0 where
  pub files : now.files ≡ before.files
  pub begun : now.begun ≡ before.begun
  pub joined : rest_of before ≡ read ++ rest_of now

abbrev pub ReadSoFar : List ℕ → Option Reading → Option Reading → Type 0
ReadSoFar read None None = Unit {0}
ReadSoFar read None (Some now) = ⊥
ReadSoFar read (Some before) None = ⊥
ReadSoFar read (Some before) (Some now) = ReadSome read before now

pub rest_moved : (now : Reading) (count : ℕ) → rest_of (record now { offset = now.offset + count }) ≡ drop count (rest_of now)
rest_moved now count = grind (arith, common_steps)

pub front_and_rest : (read buffer rest : List ℕ) (count : ℕ) → take count buffer ≡ take count rest → read ++ rest ≡ (read ++ take count buffer) ++ drop count rest
front_and_rest read buffer rest count e = rw e (grind (arith, common_steps))

pub more_of_some : (read buffer : List ℕ) (room count : ℕ) (before now after : Reading) → ReadSome read before now → ReadsNext room buffer count now after → ReadSome (read ++ take count buffer) before after
more_of_some read buffer room count before now after so_far next = record {
  files = ap (λ (r : Reading). r.files) next.moved ∙ so_far.files;
  begun = ap (λ (r : Reading). r.begun) next.moved ∙ so_far.begun;
  joined = so_far.joined ∙ (front_and_rest read buffer (rest_of now) count next.next ∙ ap (λ (rest : List ℕ). (read ++ take count buffer) ++ rest) (sym (rest_moved now count) ∙ ap rest_of (sym next.moved)));
}

pub more_read : (read buffer : List ℕ) (room count : ℕ) (before now after : Option Reading) → ReadSoFar read before now → Reads room buffer (Ok count) now after → ReadSoFar (read ++ take count buffer) before after
more_read read buffer room count None None None so_far next = tt
more_read read buffer room count None None (Some after) so_far next = next
more_read read buffer room count None (Some now) after so_far next = absurd so_far
more_read read buffer room count (Some before) None after so_far next = absurd so_far
more_read read buffer room count (Some before) (Some now) None so_far next = absurd next
more_read read buffer room count (Some before) (Some now) (Some after) so_far next = more_of_some read buffer room count before now after so_far next

-- a buffer of a vector, of which a call wrote all that the vector had
pub front_of_buffer : (written items : List ℕ) (room count : ℕ) → count ≤ length written → count ≤ room → take count (take room (written ++ drop (length written) items)) ≡ take count written
front_of_buffer written items room count within fits =
    take-take count room (written ++ drop (length written) items) fits ∙ take-append-le count written (drop (length written) items) within

pub length_more : (read next : List ℕ) (count most : ℕ) → length read ≤ most → count ≤ most - length read → length (read ++ take count next) ≤ most
length_more read next count most h k = simp (length-append, length-take) (omega arith)
