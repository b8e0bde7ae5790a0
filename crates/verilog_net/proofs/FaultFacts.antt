-- The faults of modules, one kind after the other, and the first of them.
use Rattle.std.proofs.Common.{◌≡◌, ◌∙◌, ◌+◌, ◌<◌, ◌++◌, ◌∷◌, ℕ, true, false, List, [], Option, None, Some, append_assoc, drop, get_or, length, map, nat_le, refl, sym, ap, arith}
use Rattle.std.specs.Prelude.{if◌then◌else◌}
use Rattle.std.proofs.lemmas.Bool.Decides.{nat_tests}
use Rattle.std.proofs.lemmas.List.{drop_more}
use Rattle.std.specs.List.{flat_map}
use Rattle.sdc_base.proofs.CaseFacts.{by_bool}
use Rattle.source_types.specs.declared.fault_kinds.VerilogKind.TheVariants.{DoubleName, InoutPort, UnknownNet, WidthMismatch}
use Rattle.netlist_model.specs.Verilog as spec
use Rattle.netlist_model.specs.VerilogNets.{pieces_in}
use Rattle.netlist_model.specs.VerilogStatements as grammar
use Rattle.netlist_model.specs.VerilogSyntax as syntax
use Rattle.netlist_model.specs.VerilogTokens as lexical
use Rattle.verilog_net.specs.declared.checking.names.Named.{Named}
use Rattle.verilog_net.specs.Faults.{kept_wrong}
use Rattle.verilog_net.specs.Modules.{written_seen}
use Rattle.verilog_net.specs.Names.{named_modules}

-- ---- the faults of a module

regroup : (before a b c d : List spec.Wrong) → (((before ++ a) ++ b) ++ c) ++ d ≡ before ++ (((a ++ b) ++ c) ++ d)
regroup before a b c d = simp append_assoc

same_parts : (before a b b' c c' d d' : List spec.Wrong) → b ≡ b' → c ≡ c' → d ≡ d' → before ++ (((a ++ b) ++ c) ++ d) ≡ before ++ (((a ++ b') ++ c') ++ d')
same_parts before a b b' c c' d d' e f g = cc

pub four_kinds : (m : grammar.Written) (all : List syntax.Declared) (before one two three four : List spec.Wrong) (doubles uneven unknown : List lexical.Token) → all ≡ grammar.declarations m
    → one ≡ before ++ map (spec.wrong_at InoutPort) m.inouts
    → doubles ≡ spec.repeated [] m.listed ++ spec.seconds [] all → two ≡ one ++ map (spec.wrong_at DoubleName) doubles
    → uneven ≡ flat_map (spec.uneven all) m.statements → three ≡ two ++ map (spec.wrong_at WidthMismatch) uneven
    → unknown ≡ spec.undeclared all m.listed ++ flat_map (spec.unknown_in all) (flat_map pieces_in m.statements) → four ≡ three ++ map (spec.wrong_at UnknownNet) unknown
    → four ≡ before ++ spec.module_wrongs m
four_kinds m all before one two three four doubles uneven unknown all_is one_is doubles_is two_is uneven_is three_is unknown_is four_is =
    four_is
    ∙ (ap (λ ws. ws ++ map (spec.wrong_at UnknownNet) unknown) (three_is
    ∙ ap (λ ws. ws ++ map (spec.wrong_at WidthMismatch) uneven) (two_is
    ∙ ap (λ ws. ws ++ map (spec.wrong_at DoubleName) doubles) one_is))
    ∙ (regroup before (map (spec.wrong_at InoutPort) m.inouts) (map (spec.wrong_at DoubleName) doubles) (map (spec.wrong_at WidthMismatch) uneven) (map (spec.wrong_at UnknownNet) unknown)
    ∙ same_parts before (map (spec.wrong_at InoutPort) m.inouts)
    (map (spec.wrong_at DoubleName) doubles) (map (spec.wrong_at DoubleName) (spec.repeated [] m.listed ++ spec.seconds [] (grammar.declarations m)))
    (map (spec.wrong_at WidthMismatch) uneven) (map (spec.wrong_at WidthMismatch) (flat_map (spec.uneven (grammar.declarations m)) m.statements))
    (map (spec.wrong_at UnknownNet) unknown) (map (spec.wrong_at UnknownNet) (spec.undeclared (grammar.declarations m) m.listed ++ flat_map (spec.unknown_in (grammar.declarations m)) (flat_map pieces_in m.statements)))
    (ap (map (spec.wrong_at DoubleName)) (doubles_is ∙ ap (λ (ds : List syntax.Declared). spec.repeated [] m.listed ++ spec.seconds [] ds) all_is))
    (ap (map (spec.wrong_at WidthMismatch)) (uneven_is ∙ ap (λ (ds : List syntax.Declared). flat_map (spec.uneven ds) m.statements) all_is))
    (ap (map (spec.wrong_at UnknownNet)) (unknown_is ∙ ap (λ (ds : List syntax.Declared). spec.undeclared ds m.listed ++ flat_map (spec.unknown_in ds) (flat_map pieces_in m.statements)) all_is))))

-- the faults of one more module
pub wrongs_more : (all : List Named) (i : ℕ) (found more : List spec.Wrong) (named : Named) (total : List spec.Wrong) → i < length all → named ≡ get_or all i named
    → more ≡ found ++ spec.module_wrongs (written_seen named.written) → found ++ flat_map spec.module_wrongs (named_modules (drop i all)) ≡ total → more ++ flat_map spec.module_wrongs (named_modules (drop (i + 1) all)) ≡ total
wrongs_more all i found more named total inside item is so_far =
    ap (λ (ws : List spec.Wrong). ws ++ flat_map spec.module_wrongs (named_modules (drop (i + 1) all))) is
    ∙ (append_assoc found (spec.module_wrongs (written_seen named.written)) (flat_map spec.module_wrongs (named_modules (drop (i + 1) all)))
    ∙ (ap (λ (n : Named). found ++ (spec.module_wrongs (written_seen n.written) ++ flat_map spec.module_wrongs (named_modules (drop (i + 1) all)))) item
    ∙ (ap (λ (ns : List Named). found ++ flat_map spec.module_wrongs (named_modules ns)) (sym (drop_more all i named inside)) ∙ so_far)))

-- ---- the first fault

-- the first fault, where one is known already
abbrev pub joined : Option spec.Wrong → Option spec.Wrong → Option spec.Wrong
joined None first = first
joined (Some known) first = Some (spec.earlier known first)

earlier_step : (a b c : spec.Wrong) → spec.earlier a (Some (spec.earlier b (Some c))) ≡ spec.earlier (spec.earlier a (Some b)) (Some c)
earlier_step a b c =
    by_bool (λ t. spec.earlier a (Some (if t then b else c)) ≡ spec.earlier (spec.earlier a (Some b)) (Some c)) (nat_le b.token.at c.token.at)
    (λ b_first. by_bool (λ t. (if t then a else b) ≡ spec.earlier (if t then a else b) (Some c)) (nat_le a.token.at b.token.at)
    (λ a_first. let same : nat_le a.token.at c.token.at ≡ true = grind (arith, nat_tests) in rw same refl)
    (λ a_later. rw b_first refl))
    (λ c_first. by_bool (λ t. spec.earlier a (Some c) ≡ spec.earlier (if t then a else b) (Some c)) (nat_le a.token.at b.token.at)
    (λ a_first. refl)
    (λ a_later. let same : nat_le a.token.at c.token.at ≡ false = grind (arith, nat_tests) in rw (same, c_first) refl))

pub wrong_more : (known : Option spec.Wrong) (w : spec.Wrong) (ws : List spec.Wrong) → joined known (spec.first_wrong (w ∷ ws)) ≡ joined (Some (kept_wrong known w)) (spec.first_wrong ws)
wrong_more known w ws = step known (spec.first_wrong ws) where
  step : (known : Option spec.Wrong) (first : Option spec.Wrong) → joined known (Some (spec.earlier w first)) ≡ joined (Some (kept_wrong known w)) first
  step None first = refl
  step (Some k) None = refl
  step (Some k) (Some v) = ap (λ (e : spec.Wrong). Some e) (earlier_step k w v)
