use Rattle.std.proofs.Common.{◌≡◌, ◌+◌, ◌≤◌, length}
use Rattle.sdc_model.specs.Answers.{OnContents, files_of, first_place, most_clocks}
use Rattle.merge_model.specs.PlainViews.{clocks_in}
use Rattle.mode_model.specs.PrintedFile.{ModesArePrintable}
use Rattle.sdc_cli.proofs.ModeSteps.{ReadSoFar}
use Rattle.sdc_cli.proofs.mode_files.read_modes.Given as goal

abbrev pub invariant-loop-at : goal.invariant-loop-at
invariant-loop-at g l = record {
  contents : OnContents (ReadSoFar (most_clocks l.line) (first_place l.line) (files_of l.line) l.at (first_place l.line + l.at) l.count l.modes)
      (g.I.Inputs.contents l.fn.inputs) (g.I.Inputs.contents l.inputs);
  quiet : g.I.Inputs.faults l.inputs ≡ g.I.Inputs.faults l.fn.inputs;
  each : length l.modes ≡ l.at;
  within : l.count ≤ most_clocks l.line;
  printable : ModesArePrintable l.modes;
  counted : l.count ≡ clocks_in l.modes;
}
