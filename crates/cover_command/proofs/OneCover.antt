-- `cover` has at most one answer where the same replies were given, and writes nothing.
use Rattle.std.proofs.Common.{◌≡◌, ℕ, ◌-◌, ◌++◌, false, List, map, length, Option, Some, None, sym, ap, ap₂, subst, ◌∙◌}
use Rattle.std.specs.Prelude.{count_by, is_none}
use Rattle.std.specs.List.{flat_map}
use Rattle.pm_outside.specs.Contents.{Contents}
use Rattle.wasm_syntax.specs.declared.parts.Import.{Import}
use Rattle.wasm_syntax.specs.declared.quantity.Quantity.TheVariants.{ModuleBytes}
use Rattle.wasm_syntax.specs.declared.host.Reply.{Reply}
use Rattle.wasm_syntax.specs.declared.host.Served.{Served}
use Rattle.wasm_syntax.specs.declared.module.ModuleParts.{ModuleParts as Module}
use Rattle.wasm_syntax.specs.Module.{Program, IsProgram}
use Rattle.wasm_syntax.specs.Run.{Outcome as RunOutcome, not_started, finished, trapped, lacks_reply, misfits, running, got_stuck, Ran}
use Rattle.wasm_decode.specs.Decode.{module_from}
use Rattle.machine_steps.specs.Places.{Place}
use Rattle.host_devices.specs.Given.{replies_of}
use Rattle.host_set.specs.Sets.{DeviceState, names}
use Rattle.commands.specs.Inputs.{input_of}
use Rattle.commands.specs.declared.outcome.Outcome.{Outcome}
use Rattle.commands.proofs.OneOutcome.{Agree, agree_then, agree_if_loaded}
use Rattle.run_words.specs.declared.cover.CoverWords.{CoverWords}
use Rattle.pm_outside.specs.Held.{Writes}
use Rattle.run_command.specs.Hosting.{start_text}
use Rattle.run_command.specs.RunAnswer.{StartsOr, Logs, hosting, replies_input, script_of}
use Rattle.debug_frames.specs.Information.{SourceInformation, information}
use Rattle.cover_command.specs.SourceLines.{SourceLine, source_line}
use Rattle.cover_command.specs.CoverText.{CoverText, count_text, sums_text}
use Rattle.cover_command.specs.CoverAnswer.{covered_run, covered_places, Tells, EndsAs, CoversTo, ModuleAnswer, CoverAnswer, called}
use Rattle.cover_command.proofs.Orders.{one_counts}
use Rattle.pm_text.proofs.Lists.{some_is}

-- a module is that of at most one program
abbrev pub OneProgram : Type 0
OneProgram = (m : Module) (p q : Program) → p.module_ ≡ m → q.module_ ≡ m → IsProgram p → IsProgram q → p ≡ q

-- ---- texts

one_text : (ending : List ℕ) (fell : List (Option SourceLine)) (a b : List ℕ) → CoverText ending fell a → CoverText ending fell b → a ≡ b
one_text ending fell a b x y =
    x.is
    ∙ ap (λ cs. ending ++ flat_map count_text cs ++ sums_text (count_by is_none fell) (length fell))
    (one_counts x.counts y.counts x.are.ascend y.are.ascend x.are.have_steps y.are.have_steps (λ q. x.are.steps q ∙ sym (y.are.steps q)))
    ∙ sym y.is

one_told : (ending : List ℕ) (fell : List (Option SourceLine)) → Agree (Tells ending fell) (Tells ending fell)
one_told ending fell a b x y = λ i. record { status = (x.0 ∙ sym y.0) i; text = one_text ending fell a.text b.text x.1 y.1 i }

one_end : (names : List (List ℕ)) (imports : List Import) (fitted : ℕ) (fell : List (Option SourceLine)) (out : RunOutcome) → Agree (EndsAs names imports fitted fell out) (EndsAs names imports fitted fell out)
one_end names imports fitted fell (finished v) a b x y = one_told _ fell a b x y
one_end names imports fitted fell (trapped kind) a b x y = one_told _ fell a b x y
one_end names imports fitted fell running a b x y = one_told _ fell a b x y
one_end names imports fitted fell (lacks_reply call) a b x y = x ∙ sym y
one_end names imports fitted fell (misfits call reply) a b x y = x ∙ sym y
one_end names imports fitted fell (not_started cause) a b x y = absurd x
one_end names imports fitted fell got_stuck a b x y = absurd x

-- ---- the invocation

module _ (one : OneProgram) (before after : List DeviceState) (script : Option (List Reply)) (w : CoverWords) (lines : SourceInformation) (m : Module) (given : List Served) (a b : Outcome)
    (x : CoversTo before after script w lines m given a) (y : CoversTo before after script w lines m given b) where
  same_program : x.program ≡ y.program
  same_program = one m x.program y.program x.of_module y.of_module x.writes_out y.writes_out

  same_function : x.function ≡ y.function
  same_function = some_is (sym x.exported ∙ y.exported)

  same_ran : x.ran ≡ y.ran
  same_ran = x.runs ∙ ap₂ (λ (p : Program) (f : ℕ). covered_run p w f (replies_of given) w.fuel) same_program same_function ∙ sym y.runs

  same_places : x.places ≡ y.places
  same_places =
      x.placed ∙ ap₂ (λ (p : Program) (f : ℕ). covered_places p w f (replies_of given) (w.fuel - x.ran.left)) same_program same_function
      ∙ ap (λ (r : Ran). covered_places y.program w y.function (replies_of given) (w.fuel - r.left)) same_ran ∙ sym y.placed

  pub one_answer : a ≡ b
  one_answer =
      one_end (names before) m.imports (length y.ran.served) (map (source_line lines m) y.places) y.ran.outcome a b
      (subst (λ (ps : List (Option Place)). EndsAs (names before) m.imports (length y.ran.served) (map (source_line lines m) ps) y.ran.outcome a) same_places
      (subst (λ (r : Ran). EndsAs (names before) m.imports (length r.served) (map (source_line lines m) x.places) r.outcome a) same_ran x.answer)) y.answer

pub agree_starts : (cause : Option (List ℕ)) (P Q : Type 0) (a b : Outcome) → (P → Q → a ≡ b) → StartsOr cause P a → StartsOr cause Q b → a ≡ b
agree_starts (Some cause) P Q a b agree pa qb = pa ∙ sym qb
agree_starts None P Q a b agree pa qb = agree pa qb

agree_module : OneProgram → (before after : List DeviceState) (w : CoverWords) (given : List Served) (script : Option (List Reply)) (bytes : List ℕ) (m : Module) → Agree (ModuleAnswer before after w given script bytes m) (ModuleAnswer before after w given script bytes m)
agree_module one before after w given script bytes m a b pa qb =
    let lines = information bytes m.customs in
    agree_starts (start_text (hosting before script false) m (called w)) (CoversTo before after script w lines m given a × Logs m given before after) (CoversTo before after script w lines m given b × Logs m given before after) a b
    (λ r s. one_answer one before after script w lines m given a b r.0 s.0) pa qb

-- whatever is said to be written
pub one_cover_answer : OneProgram → (before after : List DeviceState) (w : CoverWords) (first later : Contents) (given : List Served) (x y : Writes) → Agree (CoverAnswer before after w first later given x) (CoverAnswer before after w first later given y)
one_cover_answer one before after w first later given x y a b pa qb =
    agree_then (input_of ModuleBytes w.source (first w.source)) _ _ (λ bytes.
    agree_then (replies_input w.replies later) _ _ (λ script_bytes.
    agree_if_loaded _ _ (λ m. agree_then (script_of script_bytes) _ _ (λ script. agree_module one before after w given script bytes m)) (module_from bytes))) a b pa.answer qb.answer

pub one_cover_written : (before after : List DeviceState) (w : CoverWords) (first later : Contents) (given : List Served) (x y : Writes) (a b : Outcome) → CoverAnswer before after w first later given x a → CoverAnswer before after w first later given y b → x ≡ y
one_cover_written before after w first later given x y a b pa qb = pa.none_written ∙ sym qb.none_written
