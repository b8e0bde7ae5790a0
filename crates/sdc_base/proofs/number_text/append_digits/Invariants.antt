use Rattle.sdc_base.proofs.DigitFacts.{Reads}
use Rattle.sdc_base.proofs.number_text.append_digits.Given as goal

abbrev pub invariant-loop-byte : goal.invariant-loop-byte
invariant-loop-byte l = Reads l.value l.total l.byte-index l.digits
