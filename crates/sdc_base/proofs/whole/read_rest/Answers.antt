use Rattle.std.proofs.Common.{◌≡◌, ◌++◌, ◌∙◌, ap, arith, List, ℕ, take}
use Rattle.sdc_base.proofs.WholeReads.{more_read, front_of_buffer, length_more}
use Rattle.sdc_base.specs.declared.whole.TheConstants.{MOST_BYTES}
use Rattle.sdc_base.proofs.whole.read_rest.Goals as goal

pub loop-bytes-preserved : goal.loop-bytes-preserved
loop-bytes-preserved g c =
    let more = more_read c.loop-bytes.bytes c.read.new.buffer _ c.in_ok-count.count _ _ _ c.loop-bytes.invariant.2 c.in_ok-count.ensures.reads in
    let front : take c.in_ok-count.count c.deref.result.now ≡ take c.in_ok-count.count c.read.new.buffer =
    ap (λ (xs : List ℕ). take c.in_ok-count.count xs) c.deref.ensures.value ∙ front_of_buffer c.read.new.buffer c.loop-bytes.buffer.items c.loop-bytes.buffer.len c.in_ok-count.count (omega (arith, c.in_ok-count.ensures.within, c.read.auto.buffer)) (omega (arith, c.in_ok-count.ensures.within, c.deref_mut.ensures.len))
    in
    let added : c.extend_from_slice.new.self ≡ c.loop-bytes.bytes ++ take c.in_ok-count.count c.read.new.buffer =
    c.in_ok-extend_from_slice.ensures.ok ∙ ap (λ (xs : List ℕ). c.loop-bytes.bytes ++ xs) front
    in (
      omega (arith, c.loop-bytes.invariant.0),
      rw added (length_more c.loop-bytes.bytes c.read.new.buffer c.in_ok-count.count MOST_BYTES c.loop-bytes.invariant.1 (omega (arith, c.len.ensures, c.if-count-len.false))),
      rw added more,
      c.in_ok-count.ensures.quiet ∙ c.loop-bytes.invariant.3,
    )
