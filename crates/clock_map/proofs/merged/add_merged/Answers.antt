use Rattle.std.proofs.Common.{List, ℕ, ◌∙◌, ◌++◌, ◌∷◌, [], ap, subst}
use Rattle.clock_map.specs.MergedClocks.{HasOneMore}
use Rattle.clock_map.proofs.NameSets.{one_more}
use Rattle.clock_map.proofs.merged.add_merged.Goals as goal

pub returns : goal.returns
returns c =
    let before = c.args.merged.now.names in
    let kept = one_more before c.insert.new.self c.in_ok-kept.kept c.in_ok-insert.ensures.updates in
    record {
      name = c.in_ok-name.name;
      name_is = c.in_ok-name.ensures;
      names = subst (λ (n : List ℕ). HasOneMore before.keys n c.insert.new.self.keys) c.in_ok-kept.ensures kept;
      clocks = c.in_ok-push.ensures.ok ∙ ap (λ clock. c.args.merged.now.clocks ++ clock ∷ []) c.in_ok-clock.ensures;
      waves = c.in_ok-push-2.ensures.ok;
    }
