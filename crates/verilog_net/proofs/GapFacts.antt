-- What stands between tokens, byte by byte.
use Rattle.std.proofs.Common.{◌≡◌, ◌∙◌, ◌+◌, ◌<◌, ◌≤◌, ◌∷◌, ℕ, List, [], Option, None, Some, drop, get_or, length, refl, sym, ap, subst, arith}
use Rattle.std.proofs.lemmas.List.{drop_all, drop_more}
use Rattle.std.specs.Option.{option_map}
use Rattle.netlist_model.specs.VerilogTokens as grammar
use Rattle.verilog_net.specs.declared.lexing.gaps.Gap.{Gap}
use Rattle.verilog_net.specs.declared.lexing.gaps.Gap.TheVariants as gap
use Rattle.verilog_net.specs.Seen.{gap_seen, rest_seen}

-- the gap that was passed over so far leaves, with what is being passed over, what the whole gap leaves
pub record GapSoFar (text : List ℕ) (from at : ℕ) (now : Gap) : Type 0 where
  pub same : grammar.after_gap (gap_seen now) (drop at text) ≡ grammar.after_gap grammar.between (drop from text)
  pub forward : from ≤ at
  pub within : at ≤ length text

pub gap_begins : (text : List ℕ) (from : ℕ) → from ≤ length text → GapSoFar text from from gap.Between
gap_begins text from within = record { same = refl; forward = omega arith; within = within }

goes_on : (now : grammar.Gap) (b : ℕ) (bs : List ℕ) (next : grammar.Gap) → grammar.gap_after now b bs ≡ Some next → grammar.after_gap now (b ∷ bs) ≡ grammar.after_gap next bs
unfolding grammar.after_gap
goes_on now b bs next is =
    subst (λ (o : Option grammar.Gap). ◌≡◌ {A = Option (List ℕ)} (elim o [ None ↦ Some (b ∷ bs) | Some after ↦ grammar.after_gap after bs ]) (grammar.after_gap next bs)) (sym is) refl

stays : (now : grammar.Gap) (b : ℕ) (bs : List ℕ) → grammar.gap_after now b bs ≡ None → grammar.after_gap now (b ∷ bs) ≡ Some (b ∷ bs)
unfolding grammar.after_gap
stays now b bs is =
    subst (λ (o : Option grammar.Gap). ◌≡◌ {A = Option (List ℕ)} (elim o [ None ↦ Some (b ∷ bs) | Some after ↦ grammar.after_gap after bs ]) (Some (b ∷ bs))) (sym is) refl

pub gap_goes_on : (text : List ℕ) (from at : ℕ) (now next : Gap) → GapSoFar text from at now → at < length text → Some (gap_seen next) ≡ grammar.gap_after (gap_seen now) (get_or text at 0) (drop (at + 1) text) → GapSoFar text from (at + 1) next
gap_goes_on text from at now next so_far less is = record {
  same = sym (ap (grammar.after_gap (gap_seen now)) (drop_more text at 0 less) ∙ goes_on (gap_seen now) (get_or text at 0) (drop (at + 1) text) (gap_seen next) (sym is)) ∙ so_far.same;
  forward = omega (arith, so_far.forward);
  within = omega (arith, less);
}

pub gap_stays : (text : List ℕ) (from at : ℕ) (now : Gap) → GapSoFar text from at now → at < length text → None ≡ grammar.gap_after (gap_seen now) (get_or text at 0) (drop (at + 1) text) → rest_seen text (Some at) ≡ grammar.after_gap grammar.between (drop from text)
gap_stays text from at now so_far less is =
    ap (λ (t : List ℕ). Some t) (drop_more text at 0 less)
    ∙ (sym (stays (gap_seen now) (get_or text at 0) (drop (at + 1) text) (sym is))
    ∙ (sym (ap (grammar.after_gap (gap_seen now)) (drop_more text at 0 less)) ∙ so_far.same))

end_gap : (now : grammar.Gap) → grammar.after_gap now [] ≡ grammar.ended_gap now
unfolding grammar.after_gap
end_gap now = refl

ended_rest : (text : List ℕ) (at : ℕ) (now : Gap) (o : Option ℕ) → drop at text ≡ [] → o ≡ option_map (λ rest. at) (grammar.ended_gap (gap_seen now)) → rest_seen text o ≡ grammar.ended_gap (gap_seen now)
ended_rest text at gap.Between o e is = rw is (ap (λ (t : List ℕ). Some t) e)
ended_rest text at gap.RestOfLine o e is = rw is (ap (λ (t : List ℕ). Some t) e)
ended_rest text at (gap.Opens close) o e is = rw is refl
ended_rest text at (gap.Inside close) o e is = rw is refl
ended_rest text at gap.Closes o e is = rw is (ap (λ (t : List ℕ). Some t) e)

pub gap_ends : (text : List ℕ) (from at : ℕ) (now : Gap) (o : Option ℕ) → GapSoFar text from at now → length text ≤ at → o ≡ option_map (λ rest. at) (grammar.ended_gap (gap_seen now)) → rest_seen text o ≡ grammar.after_gap grammar.between (drop from text)
gap_ends text from at now o so_far end is =
    ended_rest text at now o (drop_all at text end) is
    ∙ (sym (end_gap (gap_seen now)) ∙ (sym (ap (grammar.after_gap (gap_seen now)) (drop_all at text end)) ∙ so_far.same))
