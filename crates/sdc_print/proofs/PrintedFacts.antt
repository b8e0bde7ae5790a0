-- The words of a printed header and of printed clocks are those of the grammar.
use Rattle.std.proofs.Common.{◌≡◌, ℕ, pos, Bool, true, cond, List, [], ◌∷◌, ◌++◌, length, codes, nat_lt, refl, sym, subst, lit<}
use Rattle.std.proofs.lemmas.Bool.{and_parts, ltb-true}
use Rattle.std.specs.List.{list_all}
use Rattle.sdc_base.proofs.CaseFacts.{by_bool}
use Rattle.sdc_base.specs.Time.{time_text_of}
use Rattle.timing_types.specs.declared.clocks.Clock.{Clock}
use Rattle.timing_types.specs.declared.clocks.Wave.{Wave}
use Rattle.text_model.specs.Bytes.{is_name_byte}
use Rattle.mode_model.specs.ClockFile.{is_name}
use Rattle.mode_model.specs.PrintedFile.{ArePrintableClocks, clock_line, clock_lines, header_lines, lines_of_form, unit_text}
use Rattle.mode_model.specs.PrintedLine.{bare, braced, is_bare_text, name_word, spaced}
use Rattle.sdc_print.proofs.ClockLines.{line_of_form}
use Rattle.sdc_print.proofs.FileText.{AreFineLines, IsFine, IsItem, bare_spelled, braced_spelled, item_braced, items_braced, spelled_append}
use Rattle.sdc_print.proofs.PlainWords.{all_pass, is_plain}
use Rattle.sdc_print.proofs.WaveText.{WaveText, ns, wave_text}

pub header_spelled : AreFineLines (header_lines (pos 1000000))
unfolding header_lines unit_text
header_spelled = (
  lit< tt,
  (bare_spelled (codes "set") (lit< tt) refl, (bare_spelled (codes "sdc_version") (lit< tt) refl, (bare_spelled (codes "2.1") (lit< tt) refl, tt))),
  (
    lit< tt,
    (bare_spelled (codes "set_units") (lit< tt) refl, (bare_spelled (codes "-time") (lit< tt) refl, (bare_spelled (codes "1ns") (lit< tt) refl, tt))),
    tt,
  ),
)

name_byte_plain : (b : ℕ) → is_name_byte b ≡ true → is_plain b ≡ true
name_byte_plain b h = rw h refl

pub name_item : (name : List ℕ) → is_name name ≡ true → IsItem name
name_item name h =
    let parts = and_parts (nat_lt 0 (length name)) (list_all is_name_byte name) h in
    record { some = ltb-true 0 (length name) parts.0; plain = all_pass is_name_byte is_plain name_byte_plain name parts.1 }

item_spelled : (item : List ℕ) → IsItem item → IsFine (bare item)
item_spelled item i = bare_spelled item i.some i.plain

name_spelled : (name : List ℕ) → IsItem name → IsFine (name_word name)
unfolding name_word
name_spelled name i =
    by_bool (λ (b : Bool). IsFine (cond b (bare name) (braced name))) (is_bare_text name)
    (λ _. item_spelled name i) (λ _. braced_spelled name (item_braced name i))

clock_line_spelled : (name : List ℕ) (wave : Wave) → IsItem name → WaveText wave → AreFineLines (clock_line ns name wave ∷ [])
unfolding clock_line
clock_line_spelled name wave item t =
    let edges : List (List ℕ) = time_text_of wave.rise ns ∷ time_text_of wave.fall ns ∷ [] in (
      lit< tt,
      (
        bare_spelled (codes "create_clock") (lit< tt) refl,
        (
          bare_spelled (codes "-name") (lit< tt) refl,
          (
            name_spelled name item,
            (
              bare_spelled (codes "-period") (lit< tt) refl,
              (
                item_spelled (time_text_of wave.period ns) t.period,
                (
                  bare_spelled (codes "-waveform") (lit< tt) refl,
                  (braced_spelled (spaced edges) (items_braced edges t.edges), tt),
                ),
              ),
            ),
          ),
        ),
      ),
      tt,
    )

pub clocks_spelled : (clocks before : List Clock) → ArePrintableClocks before clocks → AreFineLines (clock_lines ns clocks)
clocks_spelled [] before a = tt
clocks_spelled (clock ∷ clocks) before a =
    let wave : Wave = a.0.0 in
    let first : AreFineLines (clock_line ns clock.name wave ∷ []) = clock_line_spelled clock.name wave (name_item clock.name a.0.3) (wave_text wave a.0.2) in
    spelled_append (lines_of_form ns clock.name clock.form) (clock_lines ns clocks)
    (subst AreFineLines (sym (line_of_form clock wave a.0.1)) first) (clocks_spelled clocks (before ++ clock ∷ []) a.2)
