-- What a mode file says can be printed, and its edges have relations.
use Rattle.std.proofs.Common.{◌≡◌, ◌+◌, ◌%◌, ◌^◌, ◌<◌, ◌≤◌, ◌&&◌, ℕ, ℤ, pos, negsuc, Bool, true, false, not, List, [], ◌∷◌, ◌++◌, length, Option, Some, None, Result, Ok, Err, inl, inr, refl, sym, ap, subst, arith, codes}
use Rattle.std.proofs.Math.Nat.{mod-le}
use Rattle.std.proofs.lemmas.Bool.Decides.{nat_tests}
use Rattle.std.proofs.lemmas.Int.{ints}
use Rattle.std.proofs.lemmas.Bool.{and_parts, not-true}
use Rattle.std.specs.Prelude.{IfOk, cond, nat_lt, nat_le, if◌then◌else◌}
use Rattle.std.specs.Option.{IfSome, option_and_then}
use Rattle.sdc_base.specs.declared.memory.At.{At}
use Rattle.sdc_base.specs.Number.{read_number}
use Rattle.timing_types.specs.declared.clocks.Clock.{Clock}
use Rattle.timing_types.specs.declared.clocks.Form.{Form}
use Rattle.timing_types.specs.declared.clocks.Form.TheVariants.{Primary}
use Rattle.timing_types.specs.declared.clocks.Wave.{Wave}
use Rattle.source_types.specs.declared.kinds.Kind.{Kind}
use Rattle.source_types.specs.declared.kinds.SdcKind.{SdcKind}
use Rattle.source_types.specs.declared.kinds.SdcKind.TheVariants.{OutOfProfile, TooMany}
use Rattle.timing_types.specs.declared.modes.Mode.{Mode}
use Rattle.timing_types.specs.declared.objects.Object.{Object}
use Rattle.timing_types.specs.declared.objects.Value.{Value}
use Rattle.mode_model.specs.ClockCommands.{ClockOptions, clock_by, clock_given, clock_of, clock_options, clock_waved, clocks_named, groups_of, is_unit, most_file_clocks, no_options, value_texts}
use Rattle.mode_model.specs.ClockFile.{SoFar, clock_mode, is_name, is_taken, nothing, virtual_clock, wave_given}
use Rattle.sdc_model.specs.ModeFiles.{or_too_many, within_limit}
use Rattle.mode_model.specs.ModeHost.{Answer, IsAnswered, adds_clock, adds_groups, answer, gives_clocks, keeps_where, mode_host}
use Rattle.mode_model.specs.ModeMeaning.{Said, SaysMode, said_of}
use Rattle.constraint_model.specs.RunLimits.{line_beyond}
use Rattle.sdc_model.specs.EdgesText.{AreTimed, edges_of, HaveTimes}
use Rattle.tcl_model.specs.ListReading.{items_of}
use Rattle.mode_model.specs.PrintedFile.{ArePrintableClocks, IsPrintableClock}
use Rattle.constraint_model.specs.ClockWaves.{IsPrintableWave}
use Rattle.timing_model.specs.Relation.{IsEdgeOf}
use Rattle.text_model.specs.Words.{same_text}
use Rattle.sdc_cli.specs.ModeBytes.{SaysAtMost}
use Rattle.tcl_eval.proofs.KeptRuns.{HostKeeps, runs_keep}
use Rattle.sdc_print.proofs.PrintableFacts.{one_more}
use Rattle.mode_model.specs.Waveform.{limited_time, time_from, nanoseconds, period_of, wave_of, waveform_of}
use Rattle.constraint_model.specs.ClockWaves.{plain_wave, moved_down, wave_within}

-- ---- answers by steps

-- a step after another one, where each answer of the first has a fact
then_holds : {A B : Type 0} (Q : A → Type 0) (P : B → Type 0) (f : A → Option B) (o : Option A) → IfSome o Q → ((a : A) → Q a → IfSome (f a) P) → IfSome (option_and_then f o) P
then_holds Q P f None q p = tt
then_holds Q P f (Some a) q p = p a q

-- the same, where nothing is known of the first answer
each_holds : {A B : Type 0} (P : B → Type 0) (f : A → Option B) (o : Option A) → ((a : A) → IfSome (f a) P) → IfSome (option_and_then f o) P
each_holds P f None p = tt
each_holds P f (Some a) p = p a

-- an answer under a test
tested_holds : {A : Type 0} (P : A → Type 0) (test : Bool) (o : Option A) → (test ≡ true → IfSome o P) → IfSome (if test then o else None) P
tested_holds P true o p = p refl
tested_holds P false o p = tt

-- ---- waveforms

-- from a least time to the longest
abbrev IsWithin : ℕ → ℕ → Type 0
IsWithin least time = (least ≤ time) × (time ≤ 10 ^ 12)

both_tests : (least time most : ℕ) → (nat_le least time && nat_le time most) ≡ true → (least ≤ time) × (time ≤ most)
both_tests least time most h = grind (arith, nat_tests)

limited_time-holds : (least : ℕ) (time : ℤ) → IfSome (limited_time least time) (IsWithin least)
limited_time-holds least (pos time) = tested_holds (IsWithin least) (nat_le least time && nat_le time (10 ^ 12)) (Some time) (both_tests least time (10 ^ 12))
limited_time-holds least (negsuc time) = tt

time_from-holds : (least : ℕ) (text : List ℕ) → IfSome (time_from least text) (IsWithin least)
time_from-holds least text = each_holds (IsWithin least) (limited_time least) (nanoseconds (read_number text)) (limited_time-holds least)

plain_is_printable : (period : ℕ) → IsWithin 2 period → IsPrintableWave (plain_wave period)
plain_is_printable period p = record {
  period = (omega (arith, ints), omega (arith, ints));
  rise = (omega (arith, ints), omega (arith, ints));
  fall = (omega (arith, ints), omega (arith, ints), omega (arith, ints));
}

rise_tests : (period rise fall : ℕ) → (nat_lt rise fall && nat_lt fall (rise + period)) ≡ true → (rise < fall) × (fall < rise + period)
rise_tests period rise fall h = grind (arith, nat_tests)

moved_is_printable : (period rise fall : ℕ) → IsWithin 2 period → fall ≤ 10 ^ 12 → rise < fall → fall < rise + period → IsPrintableWave (moved_down period rise fall)
moved_is_printable period rise fall p most rest before_next =
    let less : rise % period ≤ rise = mod-le rise period in
    record {
      period = (omega (arith, ints), omega (arith, ints));
      rise = (omega (arith, ints), omega (arith, ints));
      fall = (omega (arith, ints), omega (arith, ints), omega (arith, ints));
    }

wave_within-holds : (period rise fall : ℕ) → IsWithin 2 period → IsWithin 0 fall → IfSome (wave_within period rise fall) IsPrintableWave
wave_within-holds period rise fall p f =
    tested_holds IsPrintableWave (nat_lt rise fall && nat_lt fall (rise + period)) (Some (moved_down period rise fall))
    (λ h. let t = rise_tests period rise fall h in moved_is_printable period rise fall p f.1 t.0 t.1)

wave_of-holds : (period : ℕ) (parts : List (List ℕ)) → IsWithin 2 period → IfSome (wave_of period parts) IsPrintableWave
wave_of-holds period (rise ∷ fall ∷ []) p =
    each_holds IsPrintableWave (λ r. option_and_then (wave_within period r) (time_from 0 fall)) (time_from 0 rise)
    (λ r. then_holds (IsWithin 0) IsPrintableWave (wave_within period r) (time_from 0 fall) (time_from-holds 0 fall) (λ f. wave_within-holds period r f p))
wave_of-holds period _ p = tt

wave_given-holds : (period : List ℕ) (waveform : Option (List ℕ)) → IfSome (wave_given period waveform) IsPrintableWave
wave_given-holds period None = then_holds (IsWithin 2) IsPrintableWave (λ time. Some (plain_wave time)) (period_of period) (time_from-holds 2 period) plain_is_printable
wave_given-holds period (Some waveform) =
    then_holds (IsWithin 2) IsPrintableWave (λ time. waveform_of time waveform) (period_of period) (time_from-holds 2 period) (λ time p. each_holds IsPrintableWave (wave_of time) (items_of waveform) (λ parts. wave_of-holds time parts p))

-- ---- clocks so far

abbrev IsPrintableSoFar : SoFar → Type 0
IsPrintableSoFar so_far = ArePrintableClocks [] so_far.clocks

-- a clock is printable, and its name is new
abbrev IsNew : List Clock → Clock → Type 0
IsNew clocks clock = IsPrintableClock clock × (is_taken clock.name clocks ≡ false)

new_step : (clocks : List Clock) (line : ℕ) (name : List ℕ) (wave : Wave) (t u : Bool) → IsPrintableWave wave → (is_name name && not (is_taken name clocks)) ≡ t
    → IfOk (cond t (cond u (Ok (virtual_clock line name wave)) (Err TooMany)) (Err OutOfProfile)) (IsNew clocks)
new_step clocks line name wave true true w e =
    let p = and_parts (is_name name) (not (is_taken name clocks)) e in
    ((wave, refl, w, p.0), not-true (is_taken name clocks) p.1)
new_step clocks line name wave true false w e = tt
new_step clocks line name wave false u w e = tt

clock_waved-new : (clocks : List Clock) (line : ℕ) (name : List ℕ) (wave : Option Wave) → IfSome wave IsPrintableWave → IfOk (clock_waved clocks line name wave) (IsNew clocks)
clock_waved-new clocks line name None w = tt
clock_waved-new clocks line name (Some wave) w =
    new_step clocks line name wave (is_name name && not (is_taken name clocks)) (nat_lt (length clocks) most_file_clocks) w refl

clock_given-new : (clocks : List Clock) (line : ℕ) (name period waveform : Option (List ℕ)) → IfOk (clock_given clocks line name period waveform) (IsNew clocks)
clock_given-new clocks line (Some name) (Some period) waveform = clock_waved-new clocks line name (wave_given period waveform) (wave_given-holds period waveform)
clock_given-new clocks line _ _ waveform = tt

clock_by-new : (clocks : List Clock) (line : ℕ) (given : Option ClockOptions) → IfOk (clock_by clocks line given) (IsNew clocks)
clock_by-new clocks line None = tt
clock_by-new clocks line (Some given) = clock_given-new clocks line given.name given.period given.waveform

-- ---- answers of the host

-- what stands after an answer can be printed
abbrev GivesPrintable : Answer → Type 0
GivesPrintable contents = IfOk contents (λ done. IsPrintableSoFar done.1)

adds_clock-keeps : (so_far : SoFar) (made : Result Clock SdcKind) → IsPrintableSoFar so_far → IfOk made (IsNew so_far.clocks) → GivesPrintable (adds_clock so_far made)
adds_clock-keeps so_far (Ok clock) k new = one_more [] so_far.clocks clock k new.0 new.1
adds_clock-keeps so_far (Err kind) k new = tt

adds_groups-keeps : (so_far : SoFar) (groups : Option (List (List ℕ))) → IsPrintableSoFar so_far → GivesPrintable (adds_groups so_far groups)
adds_groups-keeps so_far None k = tt
adds_groups-keeps so_far (Some groups) k = k

keeps_where-keeps : (so_far : SoFar) (test : Bool) → IsPrintableSoFar so_far → GivesPrintable (keeps_where so_far test)
keeps_where-keeps so_far true k = k
keeps_where-keeps so_far false k = tt

gives_clocks-keeps : (so_far : SoFar) (objects : Option (List Object)) → IsPrintableSoFar so_far → GivesPrintable (gives_clocks so_far objects)
gives_clocks-keeps so_far None k = tt
gives_clocks-keeps so_far (Some objects) k = k

either_gives : (t : Bool) (a b : Answer) → GivesPrintable a → GivesPrintable b → GivesPrintable (cond t a b)
either_gives true a b p q = p
either_gives false a b p q = q

answer-keeps : (so_far : SoFar) (line : ℕ) (name : List ℕ) (words : List Value) → IsPrintableSoFar so_far → GivesPrintable (answer so_far line name words)
answer-keeps so_far line name words k =
    either_gives (same_text name (codes "create_clock")) _ _
    (adds_clock-keeps so_far (clock_of so_far.clocks line words) k (clock_by-new so_far.clocks line (clock_options no_options (value_texts so_far.clocks words))))
    (either_gives (same_text name (codes "set_clock_groups")) _ _ (adds_groups-keeps so_far (groups_of so_far.clocks words) k)
    (either_gives (same_text name (codes "set_units")) _ _ (keeps_where-keeps so_far (is_unit (value_texts so_far.clocks words)) k)
    (either_gives (same_text name (codes "get_clocks")) _ _ (gives_clocks-keeps so_far (clocks_named so_far.clocks words) k) tt)))

answered-keeps : (contents : Answer) (before : SoFar) (given : Result Value Kind) (after : SoFar) → IsAnswered contents before given after → GivesPrintable contents → IsPrintableSoFar before → IsPrintableSoFar after
answered-keeps (Ok contents) before given after t p k = subst IsPrintableSoFar (sym t.1) p
answered-keeps (Err kind) before given after t p k = subst IsPrintableSoFar (sym t.1) k

host-keeps : HostKeeps IsPrintableSoFar mode_host
host-keeps line name words before (Ok given) after t k = answered-keeps (answer before line name words) before (Ok given) after t (answer-keeps before line name words k) k
host-keeps line name words before (Err fault) after t k = subst IsPrintableSoFar (sym t.1) k

-- ---- what a file says

said_of-is : (contents : Result Unit (At Kind)) (so_far : SoFar) (mode : Mode) → IsPrintableSoFar so_far → Ok mode ≡ said_of contents so_far → ArePrintableClocks [] mode.clocks
said_of-is (Ok done) so_far mode k e =
    let same : mode ≡ clock_mode so_far = cc in
    subst (λ (m : Mode). ArePrintableClocks [] m.clocks) (sym same) k
said_of-is (Err fault) so_far mode k e = absurd (cc)

-- the clocks that a file says can be printed
pub said_is_printable : {bytes : List ℕ} {mode : Mode} → SaysMode bytes (Ok mode) → ArePrintableClocks [] mode.clocks
said_is_printable {bytes = bytes} {mode = mode} (inl says) =
    said_of-is says.1.0 says.1.1 mode (runs_keep IsPrintableSoFar mode_host host-keeps bytes nothing says.1.0 says.1.1 says.1.2 tt) says.1.3
said_is_printable {bytes = bytes} {mode = mode} (inr other) = absurd (cc)

-- the same of modes that are within a limit
abbrev pub IsPrintableMode : Mode → Type 0
IsPrintableMode mode = ArePrintableClocks [] mode.clocks

many_keeps : (said mode : Mode) (line : Option ℕ) → Ok mode ≡ or_too_many said line → IsPrintableMode said → IsPrintableMode mode
many_keeps said mode None e printable = let same : mode ≡ said = cc in subst IsPrintableMode (sym same) printable
many_keeps said mode (Some line) e printable = absurd (cc)

pub within_keeps : (most count : ℕ) (said : Said) (mode : Mode) → Ok mode ≡ within_limit most count said → IfOk said IsPrintableMode → IsPrintableMode mode
within_keeps most count (Err fault) mode e printable = absurd (cc)
within_keeps most count (Ok said) mode e printable =
    many_keeps said mode (line_beyond (λ (clock : Clock). clock.line) (λ clock. 1) most count said.clocks) e printable

pub said_holds : (bytes : List ℕ) (said : Said) → SaysMode bytes said → IfOk said IsPrintableMode
said_holds bytes (Err fault) says = tt
said_holds bytes (Ok mode) says = said_is_printable says

pub most_is_printable : (most : ℕ) (bytes : List ℕ) (mode : Mode) → SaysAtMost most bytes (Ok mode) → ArePrintableClocks [] mode.clocks
most_is_printable most bytes mode says = within_keeps most 0 says.0 mode says.2 (said_holds bytes says.0 says.1)

-- ---- what printable clocks have

rise_is_edge : (wave : Wave) → IsPrintableWave wave → IsEdgeOf wave.rise wave.period
rise_is_edge wave p =
    let a = p.period in let b = p.rise in
    (omega (arith, ints), omega (arith, ints), omega (arith, ints), omega (arith, ints))

fall_is_edge : (wave : Wave) → IsPrintableWave wave → IsEdgeOf wave.fall wave.period
fall_is_edge wave p =
    let a = p.period in let b = p.rise in let c = p.fall in
    (omega (arith, ints), omega (arith, ints), omega (arith, ints), omega (arith, ints))

form_has_times : (name : List ℕ) (form : Form) (wave : Wave) → form ≡ Primary wave → IsPrintableWave wave → AreTimed (edges_of name form)
form_has_times name form wave e p =
    subst (λ (f : Form). AreTimed (edges_of name f)) (sym e) (rise_is_edge wave p, (fall_is_edge wave p, tt))

-- the edges of printable clocks have relations
pub printable_has_times : (clocks before : List Clock) → ArePrintableClocks before clocks → HaveTimes clocks
printable_has_times [] before p = tt
printable_has_times (clock ∷ clocks) before p = (
  form_has_times clock.name clock.form p.0.0 (ap (λ (c : Clock). c.form) p.0.1) p.0.2,
  printable_has_times clocks (before ++ clock ∷ []) p.2,
)
