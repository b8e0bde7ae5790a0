use Rattle.sdc_base.proofs.DigitFacts.{ReadsSmall}
use Rattle.sdc_base.proofs.number_text.small_value.Given as goal

abbrev pub invariant-loop-byte : goal.invariant-loop-byte
invariant-loop-byte l = ReadsSmall l.value l.byte-index l.digits
