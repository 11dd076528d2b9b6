-- `cover` has at most one answer, and one list of replies that were given.
use Rattle.std.proofs.Common.{◌≡◌, ℕ, List, [], ◌∷◌, length, map, Option, sym, ap, ap₂, subst, ◌∙◌, false}
use Rattle.std.specs.Prelude.{unwrap_or}
use Rattle.std.proofs.lemmas.List.{append-nil}
use Rattle.pm_outside.specs.Contents.{Contents}
use Rattle.wasm_syntax.specs.declared.quantity.Quantity.TheVariants.{ModuleBytes}
use Rattle.wasm_syntax.specs.declared.host.Reply.{Reply}
use Rattle.wasm_syntax.specs.declared.host.Served.{Served}
use Rattle.wasm_syntax.specs.declared.module.ModuleParts.{ModuleParts as Module}
use Rattle.wasm_syntax.specs.Module.{Program}
use Rattle.wasm_syntax.specs.Run.{Ran, engine}
use Rattle.wasm_decode.specs.Decode.{module_from}
use Rattle.host_devices.specs.Given.{replies_of}
use Rattle.host_set.specs.Sets.{DeviceState, names}
use Rattle.commands.specs.Inputs.{input_of}
use Rattle.commands.specs.declared.outcome.Outcome.{Outcome}
use Rattle.commands.proofs.OneOutcome.{Agree, agree_then, agree_if_loaded}
use Rattle.run_words.specs.declared.cover.CoverWords.{CoverWords}
use Rattle.pm_outside.specs.Held.{Writes}
use Rattle.run_session.specs.Given.{given_to, given_in}
use Rattle.run_session.specs.RunText.{last_of}
use Rattle.run_command.specs.Hosting.{start_text}
use Rattle.run_command.specs.RunAnswer.{IfRefusal, IsUntouched, Logs, UsesUp, hosting, replies_input, script_of}
use Rattle.run_command.proofs.OneWritten.{Gives, at_refusal, gives_then, gives_starts, gives_if_loaded, input_refuses, replies_refuse, script_refuses}
use Rattle.debug_frames.specs.Information.{SourceInformation, information}
use Rattle.cover_command.specs.SourceLines.{source_line}
use Rattle.cover_command.specs.CoverAnswer.{covered_run, EndsAs, CoversTo, ModuleAnswer, CoverAnswer, called}
use Rattle.cover_command.proofs.OneCover.{agree_starts, one_answer}
use Rattle.wasm_laws.proofs.OneProgram.{same_program}
use Rattle.pm_cli.proofs.NextGiven.{LastMoves, invoked_next}
use Rattle.pm_cli.proofs.OneGiven.{GivesAll, fixed, one_given}
use Rattle.pm_text.proofs.Lists.{some_is}

gives_all : (before after : List DeviceState) (script : Option (List Reply)) (w : CoverWords) (lines : SourceInformation) (m : Module) (given : List Served) (a : Outcome) (x : CoversTo before after script w lines m given a) (go : List Reply → List Ran)
    → x.ran ∷ [] ≡ go (replies_of given) → GivesAll go (names before) m.imports given x.left
gives_all before after script w lines m given a x go is = record {
  all = x.all_given ∙ sym (append-nil (given_to x.ran)) ∙ ap given_in is;
  moves = subst LastMoves is (λ at last stuck. subst (λ o. EndsAs (names before) m.imports (length x.ran.served) (map (source_line lines m) x.places) o a) (ap (λ (r : Ran). r.outcome) (some_is last) ∙ stuck) x.answer);
  used_up = λ at call last lacks none.
      (subst (λ o. UsesUp (hosting before script false) m x.left o) (ap (λ (r : Ran). r.outcome) (some_is (ap last_of is ∙ last)) ∙ lacks) x.used_up) none;
}

module _ (before after : List DeviceState) (script : Option (List Reply)) (w : CoverWords) (lines : SourceInformation) (m : Module) (given other : List Served) (a b : Outcome)
    (x : CoversTo before after script w lines m given a) (y : CoversTo before after script w lines m other b) where
  abbrev going : List Reply → List Ran
  going replies = covered_run x.program w x.function replies w.fuel ∷ []

  same_going : y.ran ∷ [] ≡ going (replies_of other)
  same_going =
      ap (λ r. r ∷ []) (
      y.runs
      ∙ ap₂ (λ (p : Program) (f : ℕ). covered_run p w f (replies_of other) w.fuel) (same_program m y.program x.program y.of_module x.of_module y.writes_out x.writes_out) (some_is (sym y.exported ∙ x.exported))
      )

  given_is : Logs m given before after → Logs m other before after → given ≡ other
  given_is lg lh =
      one_given going (λ replies more. invoked_next more (engine x.program false w.depth) x.function w.called.args x.program.module_.start w.fuel replies) (names before) m.imports (unwrap_or script []) given other x.left
      (fixed before after script m given other x.left y.left lg lh x.by_script y.by_script) (gives_all before after script w lines m given a x going (ap (λ r. r ∷ []) x.runs)) (gives_all before after script w lines m other b y going same_going)

agree_module : (before after : List DeviceState) (w : CoverWords) (given other : List Served) (script : Option (List Reply)) (bytes : List ℕ) (m : Module) → Agree (ModuleAnswer before after w given script bytes m) (ModuleAnswer before after w other script bytes m)
agree_module before after w given other script bytes m a b pa qb =
    let lines = information bytes m.customs in
    agree_starts (start_text (hosting before script false) m (called w)) (CoversTo before after script w lines m given a × Logs m given before after) (CoversTo before after script w lines m other b × Logs m other before after) a b
    (λ r s. one_answer same_program before after script w lines m other a b (subst (λ l. CoversTo before after script w lines m l a) (given_is before after script w lines m given other a b r.0 s.0 r.1 s.1) r.0) s.0) pa qb

one_answer_of : (before after : List DeviceState) (w : CoverWords) (first later : Contents) (given other : List Served) (x y : Writes) → Agree (CoverAnswer before after w first later given x) (CoverAnswer before after w first later other y)
one_answer_of before after w first later given other x y a b pa qb =
    agree_then (input_of ModuleBytes w.source (first w.source)) _ _ (λ bytes.
    agree_then (replies_input w.replies later) _ _ (λ script_bytes.
    agree_if_loaded _ _ (λ m. agree_then (script_of script_bytes) _ _ (λ script. agree_module before after w given other script bytes m)) (module_from bytes))) a b pa.answer qb.answer

-- one list of replies
agree_given : (before after : List DeviceState) (w : CoverWords) (given other : List Served) (script : Option (List Reply)) (bytes : List ℕ) (m : Module) → Gives (given ≡ other) (ModuleAnswer before after w given script bytes m) (ModuleAnswer before after w other script bytes m)
agree_given before after w given other script bytes m a b at_a at_b pa qb =
    gives_starts (given ≡ other) (start_text (hosting before script false) m (called w)) _ _
    (λ r s. given_is before after script w (information bytes m.customs) m given other a b r.0 s.0 r.1 s.1) a b at_a at_b pa qb

given_by : (before after : List DeviceState) (w : CoverWords) (first later : Contents) (given other : List Served) (x y : Writes) (a b : Outcome) → IfRefusal a.status (given ≡ other) → IfRefusal b.status (given ≡ other) → CoverAnswer before after w first later given x a → CoverAnswer before after w first later other y b → given ≡ other
given_by before after w first later given other x y a b at_a at_b pa qb =
    gives_then (given ≡ other) (input_of ModuleBytes w.source (first w.source)) _ _ (input_refuses (given ≡ other) ModuleBytes w.source (first w.source)) (λ bytes.
    gives_then (given ≡ other) (replies_input w.replies later) _ _ (replies_refuse (given ≡ other) w.replies later) (λ script_bytes.
    gives_if_loaded (given ≡ other) _ _ (λ m. gives_then (given ≡ other) (script_of script_bytes) _ _ (script_refuses (given ≡ other) script_bytes) (λ script. agree_given before after w given other script bytes m)) (module_from bytes))) a b at_a at_b pa.answer qb.answer

pub one_cover_given : (before after : List DeviceState) (w : CoverWords) (first later : Contents) (given other : List Served) (x y : Writes) (a b : Outcome) → CoverAnswer before after w first later given x a → CoverAnswer before after w first later other y b → given ≡ other
one_cover_given before after w first later given other x y a b pa qb =
    let same : a ≡ b = one_answer_of before after w first later given other x y a b pa qb in
    let at_a : IfRefusal a.status (given ≡ other) = at_refusal a.status (IsUntouched before after given x) (IsUntouched before after other y) (given ≡ other) (λ p q. p.given_none ∙ sym q.given_none) pa.untouched (subst (λ (o : Outcome). IfRefusal o.status (IsUntouched before after other y)) (sym same) qb.untouched) in
    given_by before after w first later given other x y a b at_a (subst (λ (o : Outcome). IfRefusal o.status (given ≡ other)) same at_a) pa qb
