use Rattle.std.proofs.Common.{◌≡◌, ◌≤◌, ◌^◌, length, drop, add-one, ap, arith}
use Rattle.std.proofs.lemmas.List.{drop_all}
use Rattle.mode_model.specs.PrintedFile.{names_at}
use Rattle.sdc_print.specs.Runs.{second_names, seconds}
use Rattle.sdc_print.proofs.AddedFacts.{refused}
use Rattle.sdc_print.proofs.GroupFacts.{tail_length, tail_text, tail_text_all}
use Rattle.sdc_print.proofs.group_printing.second_names_length.Goals as goal

pub loop-place-preserved : goal.loop-place-preserved
loop-place-preserved c =
    let left = tail_length c.args.clocks.now c.args.pairs.now c.loop-place.place (record { first = 0; second = 0 }) c.loop-place-test.true in
    rw add-one (omega (arith, left, c.clock_name_length.ensures, c.in_ok-with_blank.ensures.adds, c.in_ok-bytes.ensures.adds, c.loop-place.invariant))

pub returns-clause-counts : goal.returns-clause-counts
returns-clause-counts c =
    let i = c.loop-place.place in
    let clocks = c.args.clocks.now in
    let pairs = c.args.pairs.now in
    let left : length (tail_text i (names_at clocks (seconds (drop i pairs)))) ≡ 0 =
    ap (λ ps. length (tail_text i (names_at clocks (seconds ps)))) (drop_all i pairs c.loop-place-test.false) in
    let all = ap length (tail_text_all (names_at clocks (seconds pairs))) in
    omega (arith, left, all, c.loop-place.invariant)

pub returns-in_err-with_blank-clause-limit : goal.returns-in_err-with_blank-clause-limit
returns-in_err-with_blank-clause-limit c =
    let pairs = c.args.pairs.now in
    let left = tail_length c.args.clocks.now pairs c.loop-place.place (record { first = 0; second = 0 }) c.loop-place-test.true in
    let all = ap length (tail_text_all (names_at c.args.clocks.now (seconds pairs))) in
    let past : 2 ^ 64 ≤ length (second_names c.args.clocks.now pairs) =
    omega (arith, left, all, c.in_err-with_blank.ensures.limit, c.loop-place.invariant) in
    refused _ past

pub returns-in_err-bytes-clause-limit : goal.returns-in_err-bytes-clause-limit
returns-in_err-bytes-clause-limit c =
    let pairs = c.args.pairs.now in
    let left = tail_length c.args.clocks.now pairs c.loop-place.place (record { first = 0; second = 0 }) c.loop-place-test.true in
    let all = ap length (tail_text_all (names_at c.args.clocks.now (seconds pairs))) in
    let past : 2 ^ 64 ≤ length (second_names c.args.clocks.now pairs) =
    omega (arith, left, all, c.clock_name_length.ensures, c.in_ok-with_blank.ensures.adds, c.in_err-bytes.ensures.limit, c.loop-place.invariant) in
    refused _ past
