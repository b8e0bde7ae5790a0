-- The bytes that were counted are those of the merge that is printed, since modes have one merge.
use Rattle.std.proofs.Common.{◌≡◌, ◌≤◌, ◌∙◌, length, refl, sym, ap, arith, rules}
use Rattle.timing_types.specs.declared.merges.Merged.{Merged}
use Rattle.mode_model.specs.ClockCommands.{most_file_clocks}
use Rattle.mode_model.specs.PrintedFile.{IsPrintable}
use Rattle.sdc_print.proofs.FileReads.{reads_back}
use Rattle.flat_design.specs.EmptyDesign.{empty_design}
use Rattle.sdc_cli.specs.MergeOutput.{SaysAgain, merged_text}
use Rattle.sdc_cli.proofs.MergedClocks.{merge_is_printable}
use Rattle.sdc_cli.proofs.MergedLengths.{nanoseconds}
use Rattle.sdc_cli.proofs.MergedModes.{maps_are_numbered}
use Rattle.sdc_cli.proofs.OneMerge.{merge_once}
use Rattle.sdc_cli.proofs.outputs.merge_output.Goals as goal

pub returns-then-bytes : goal.returns-then-bytes
returns-then-bytes c =
    let counted = c.in_ok-bytes.ensures in
    record { merged = counted.0; is_merge = counted.1; count = counted.2; long = omega (arith, c.if-bytes.true) }

pub print-requires : goal.print-requires
print-requires c =
    let printable : IsPrintable empty_design c.in-Ok.merged.mode = merge_is_printable nanoseconds c.requires.printable c.in-Ok.ensures.merged in
    let design : c.in_ok-design.design ≡ empty_design = cc c.in_ok-design.ensures.is in
    rw design printable

pub report_of-requires-clause-maps : goal.report_of-requires-clause-maps
report_of-requires-clause-maps c = rw c.as_slice.ensures (maps_are_numbered c.args.modes.now c.in-Ok.merged.clocks c.in-Ok.ensures.merged.identity)

pub returns : goal.returns
returns c =
    let merged = c.in-Ok.merged in
    let is = c.in-Ok.ensures.merged in
    let counted = c.in_ok-bytes.ensures in
    let printable : IsPrintable empty_design merged.mode = merge_is_printable nanoseconds c.requires.printable is in
    let same : counted.0 ≡ merged = merge_once c.args.modes.now c.requires.printable counted.0 merged counted.1 is in
    let count : length (merged_text merged) ≡ c.in_ok-bytes.bytes = ap (λ (m : Merged). length (merged_text m)) (sym same) ∙ counted.2 in
    let design : c.in_ok-design.design ≡ empty_design = cc c.in_ok-design.ensures.is in
    let text : c.in_ok-text.text ≡ merged_text merged = rw design at c.in_ok-text.ensures in
    let few : length merged.mode.clocks ≤ most_file_clocks = omega (arith, c.in-Ok.ensures.few, c.requires.few) in
    let back : SaysAgain merged.mode c.in_ok-text.text = rw text (reads_back empty_design merged.mode printable refl few) in
    record {
      merged = merged;
      is_merge = is;
      short = omega (arith, count, c.if-bytes.false);
      text = text;
      reads_back = back;
      report = search rules;
    }
