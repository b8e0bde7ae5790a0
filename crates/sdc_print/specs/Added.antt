-- What a sink of printed bytes is after bytes were added: the bytes after those it has, or their number. And that a
-- number passes 64 bits. Small words for this crate's private functions.
use Rattle.std.specs.Prelude.{ℕ, ◌+◌, ◌^◌, ◌≤◌, List, ◌++◌, length}
use Rattle.sdc_print.specs.declared.sinks.Sink.{Sink}
use Rattle.sdc_print.specs.declared.sinks.Sink.TheVariants.{Bytes, Count}

unfoldable pub added : Sink → List ℕ → Sink
added (Bytes bytes) more = Bytes (bytes ++ more)
added (Count count) more = Count (count + length more)

-- a number of bytes passes what a count of 64 bits can tell; bytes that are kept have no such limit
unfoldable pub Overflows : Sink → Type 0
Overflows (Bytes bytes) = Unit {0}
Overflows (Count count) = 2 ^ 64 ≤ count
