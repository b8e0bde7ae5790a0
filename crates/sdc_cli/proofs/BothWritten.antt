-- The merged file made, written whole, and then the report.
use Rattle.std.proofs.Common.{◌≡◌, ℕ, List, [], Option, Some, None, Result, Ok, Err, refl, sym, ◌∙◌, ap, inl, inr, append-nil}
use Rattle.sdc_base.specs.Channels.{Written, Creates, WritesAll, appended}
use Rattle.sdc_base.specs.declared.outside.Channel.TheVariants.{Report, Merged}
use Rattle.sdc_base.specs.declared.outside.Refusal.{Refusal}
use Rattle.sdc_model.specs.declared.command_lines.Output.{Output}
use Rattle.sdc_model.specs.Answers.{OnContents}
use Rattle.sdc_cli.specs.Steps.{WritesBoth}

written_contents : (name : List ℕ) (output : Output) (answer : Result Unit Refusal) (before made merged after : Written)
    → made ≡ record before { merged = []; name = name } → merged ≡ appended Merged output.merged made
    → WritesAll Report output.report answer (Some merged) (Some after) → WritesBoth name output answer before after
written_contents name output (Ok u) before made merged after is_made is_merged is_after =
    is_after ∙ ap (appended Report output.report) (is_merged ∙ ap (appended Merged output.merged) is_made)
written_contents name output (Err e) before made merged after is_made is_merged is_after =
    inr (
      output.merged,
      [],
      is_after.0,
      is_after.1,
      sym (append-nil output.merged),
      is_after.2,
      inl refl,
      inr is_after.3,
      is_after.4 ∙ ap (appended Report is_after.0) (is_merged ∙ ap (appended Merged output.merged) is_made),
    )

pub both_written : (name : List ℕ) (output : Output) (answer : Result Unit Refusal) (before made merged after : Option Written)
    → Creates name (Ok tt) before made → WritesAll Merged output.merged (Ok tt) made merged → WritesAll Report output.report answer merged after
    → OnContents (WritesBoth name output answer) before after
both_written name output answer None None None None a b c = tt
both_written name output answer None None None (Some after) a b c = c
both_written name output answer None None (Some merged) after a b c = absurd b
both_written name output answer None (Some made) merged after a b c = absurd a
both_written name output answer (Some before) None merged after a b c = absurd a
both_written name output answer (Some before) (Some made) None after a b c = absurd b
both_written name output answer (Some before) (Some made) (Some merged) None a b c = c
both_written name output answer (Some before) (Some made) (Some merged) (Some after) a b c =
    written_contents name output answer before made merged after a b c
