use Rattle.std.proofs.Common.{◌<◌, ℕ, Some, length, refl, sym, subst}
use Rattle.std.proofs.lemmas.List.{length-set}
use Rattle.std.proofs.lemmas.List.Elements.{All-pop}
use Rattle.std.specs.List.{All}
use Rattle.flat_design.proofs.CycleFacts.{taken}
use Rattle.flat_design.proofs.drivers.cycles.Components.close.Goals as goal

pub returns-then-net-first-clause-keeps : goal.returns-then-net-first-clause-keeps
returns-then-net-first-clause-keeps c = λ nets rows is.
    taken nets rows c.in-Some.net c.loop-net.self.number c.loop-net.self _
    (c.loop-net.invariant.keeps nets rows
    (record { numbers = is.numbers; count = is.count; last = is.last; path = is.path; waiting = is.waiting }))
    refl refl refl c.in-Some.ensures.items

pub loop-net-preserved : goal.loop-net-preserved
loop-net-preserved c = record {
  keeps = λ nets rows is.
      taken nets rows c.in-Some.net c.loop-net.self.number c.loop-net.self _ (c.loop-net.invariant.keeps nets rows is) refl refl refl c.in-Some.ensures.items;
  same = c.loop-net.invariant.same;
  waiting =
      subst (λ (n : ℕ). All (λ (net : ℕ). net < n) c.pop.new.self.items) (sym (length-set c.loop-net.self.numbers.items c.in-Some.net c.loop-net.self.number))
      (All-pop (λ (net : ℕ). net < length c.loop-net.self.numbers.items) c.loop-net.self.waiting.items c.pop.new.self.items (Some c.in-Some.net)
      c.in-Some.ensures.items c.loop-net.invariant.waiting).0;
}

pub returns-clause-keeps : goal.returns-clause-keeps
returns-clause-keeps c = λ nets rows is.
    let now = c.loop-net.invariant.keeps nets rows
    (record { numbers = is.numbers; count = is.count; last = is.last; path = is.path; waiting = is.waiting }) in
    record {
      numbers = now.numbers;
      count = now.count;
      last = now.last;
      path = now.path;
      waiting = (All-pop (λ (net : ℕ). net < nets) c.loop-net.self.waiting.items c.pop.new.self.items c.pop.result c.pop.ensures.items now.waiting).0;
    }
