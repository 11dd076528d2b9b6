-- `run` has at most one answer, one list of replies that were given, and one list of written files.
use Rattle.std.proofs.Common.{◌≡◌, ℕ, List, [], ◌++◌, map, length, Option, Some, None, sym, ap, subst, ◌∙◌}
use Rattle.std.specs.Prelude.{Bool, option_and_then, option_map, unwrap_or}
use Rattle.std.proofs.Math.Path.{fun_ext}
use Rattle.std.proofs.lemmas.Option.{same_Some}
use Rattle.pm_outside.specs.Contents.{Contents}
use Rattle.wasm_syntax.specs.declared.quantity.Quantity.TheVariants.{ModuleBytes}
use Rattle.wasm_syntax.specs.declared.host.Reply.{Reply}
use Rattle.wasm_syntax.specs.declared.host.Served.{Served}
use Rattle.wasm_syntax.specs.declared.host.CollectorCall.{CollectorCall}
use Rattle.wasm_syntax.specs.declared.module.ModuleParts.{ModuleParts as Module}
use Rattle.wasm_syntax.specs.declared.parts.Import.{Import}
use Rattle.wasm_syntax.specs.Run.{got_stuck, Ran, run}
use Rattle.wasm_decode.specs.Decode.{module_from}
use Rattle.host_devices.specs.Given.{replies_of}
use Rattle.host_set.specs.Sets.{DeviceState, names}
use Rattle.commands.specs.Inputs.{input_of}
use Rattle.commands.specs.declared.outcome.Outcome.{Outcome}
use Rattle.commands.proofs.OneOutcome.{Agree, agree_then, agree_if_loaded}
use Rattle.run_words.specs.declared.words.RunWords.{RunWords}
use Rattle.pm_outside.specs.Held.{Writes}
use Rattle.run_session.specs.Delivery.{Delivery, IsDelivery}
use Rattle.run_session.proofs.Deliveries.{one}
use Rattle.run_session.specs.Invocations.{invocation_of, depth_of}
use Rattle.commands.specs.Texts.{ended}
use Rattle.run_session.specs.Ending.{told_status}
use Rattle.run_session.specs.Given.{given_in}
use Rattle.run_session.specs.Telling.{tells, told, torn_in}
use Rattle.run_session.specs.RunText.{up_to_torn, dumps_from, traps_in, last_of}
use Rattle.run_session.proofs.Tellings.{behaves}
use Rattle.run_command.specs.Hosting.{start_text}
use Rattle.run_command.specs.AllRan.{all_ran, text_to}
use Rattle.run_command.specs.Recorded.{recorded}
use Rattle.run_command.specs.RunAnswer.{RunAnswer, RunsTo, ModuleAnswer, IfRefusal, IsUntouched, Logs, UsesUp, EndUsesUp, hosting, replies_input, script_of}
use Rattle.wasm_laws.proofs.OneProgram.{same_program}
use Rattle.run_command.proofs.OneWritten.{Gives, at_refusal, gives_then, gives_starts, gives_if_loaded, input_refuses, replies_refuse, script_refuses}
use Rattle.cover_command.proofs.OneCover.{agree_starts}
use Rattle.pm_cli.proofs.NextGiven.{LastMoves, run_next, tells_blind}
use Rattle.pm_cli.proofs.OneGiven.{GivesAll, fixed, one_given}

-- calls hand over one thing
same_delivery : (a b : List CollectorCall → Delivery) → IsDelivery a → IsDelivery b → a ≡ b
same_delivery a b x y = fun_ext (λ calls. one calls (a calls) (b calls) (x calls) (y calls))

module _ (before after : List DeviceState) (script : Option (List Reply)) (w : RunWords) (m : Module) (given : List Served) (x y : Writes) (a b : Outcome) (r : RunsTo before after script w m given a x) (s : RunsTo before after script w m given b y) where
  handed : r.deliver ≡ s.deliver
  handed = same_delivery r.deliver s.deliver r.delivers s.delivers

  one_list : r.rans ≡ s.rans
  one_list =
      r.runs
      ∙ ap (λ k. up_to_torn (tells w.collect r.deliver) (run k w.collect (map invocation_of w.invocations) (replies_of given) (depth_of w) w.fuel)) (same_program m r.program s.program r.of_module s.of_module r.writes_out s.writes_out)
      ∙ ap (λ d. up_to_torn (tells w.collect d) (run s.program w.collect (map invocation_of w.invocations) (replies_of given) (depth_of w) w.fuel)) handed
      ∙ sym s.runs

  one_run : a ≡ b
  one_run =
      same_Some a b (sym r.answer ∙ ap (λ k. all_ran (tells w.collect r.deliver) (names before) m.imports (length w.invocations) k) one_list
      ∙ ap (λ d. all_ran (tells w.collect d) (names before) m.imports (length w.invocations) s.rans) handed ∙ s.answer)

  same_writes : x ≡ y
  same_writes =
      r.wrote ∙ ap (λ k. dumps_from (tells w.collect r.deliver) w.dump w.name 0 k ++ recorded w.log_to k) one_list
      ∙ ap (λ d. dumps_from (tells w.collect d) w.dump w.name 0 s.rans ++ recorded w.log_to s.rans) handed ∙ sym s.wrote

-- ---- the replies that were given

-- where there is a status for it, the last invocation did not get stuck
no_stuck : (collect : Bool) (deliver : List CollectorCall → Delivery) (names : List (List ℕ)) (imports : List Import) (asked : ℕ) (rans : List Ran) (o : Outcome) → all_ran (tells collect deliver) names imports asked rans ≡ Some o → LastMoves rans
no_stuck collect deliver names imports asked rans o is at last stuck =
    let tell = tells collect deliver in
    let status : told_status (traps_in tell rans) (torn_in (told tell at)) at.outcome ≡ None =
    ap (λ x. told_status (traps_in tell rans) (torn_in (tell x at.collected at.last)) x) stuck ∙ ap (λ t. told_status (traps_in tell rans) (torn_in t) got_stuck) ((behaves collect deliver).stuck at.collected at.last)
    in
    let nothing : all_ran tell names imports asked rans ≡ None =
    ap (λ (l : Option Ran). option_and_then (λ (r : Ran). option_map (λ s. ended s (text_to names imports tell asked rans r)) (told_status (traps_in tell rans) (torn_in (told tell r)) r.outcome)) l) last
    ∙ ap (λ q. option_map (λ s. ended s (text_to names imports tell asked rans at)) q) status
    in
    let clash : Some o ≡ None = sym is ∙ nothing in
    absurd cc

gives_all : (before after : List DeviceState) (script : Option (List Reply)) (w : RunWords) (m : Module) (given : List Served) (x : Writes) (a : Outcome) (r : RunsTo before after script w m given a x) (go : List Reply → List Ran)
    → r.rans ≡ go (replies_of given) → GivesAll go (names before) m.imports given r.left
gives_all before after script w m given x a r go is = record {
  all = r.all_given ∙ ap given_in is;
  moves = subst LastMoves is (no_stuck w.collect r.deliver (names before) m.imports (length w.invocations) r.rans a r.answer);
  used_up = λ at call last lacks none.
      (subst (λ o. UsesUp (hosting before script w.collect) m r.left o) lacks (subst (λ l. EndUsesUp (hosting before script w.collect) m r.left l) (ap last_of is ∙ last) r.used_up)) none;
}

module _ (before after : List DeviceState) (script : Option (List Reply)) (w : RunWords) (m : Module) (given other : List Served) (x y : Writes) (a b : Outcome)
    (r : RunsTo before after script w m given a x) (s : RunsTo before after script w m other b y) where
  abbrev going : List Reply → List Ran
  going replies = up_to_torn (tells w.collect r.deliver) (run r.program w.collect (map invocation_of w.invocations) replies (depth_of w) w.fuel)

  same_going : s.rans ≡ going (replies_of other)
  same_going =
      s.runs
      ∙ ap (λ k. up_to_torn (tells w.collect s.deliver) (run k w.collect (map invocation_of w.invocations) (replies_of other) (depth_of w) w.fuel)) (same_program m s.program r.program s.of_module r.of_module s.writes_out r.writes_out)
      ∙ ap (λ d. up_to_torn (tells w.collect d) (run r.program w.collect (map invocation_of w.invocations) (replies_of other) (depth_of w) w.fuel)) (same_delivery s.deliver r.deliver s.delivers r.delivers)

  given_is : Logs m given before after → Logs m other before after → given ≡ other
  given_is lg lh =
      one_given going (λ replies more. run_next more (tells w.collect r.deliver) (tells_blind more w.collect r.deliver) r.program w.collect (map invocation_of w.invocations) (depth_of w) w.fuel replies) (names before) m.imports (unwrap_or script []) given other r.left
      (fixed before after script m given other r.left s.left lg lh r.by_script s.by_script) (gives_all before after script w m given x a r going r.runs) (gives_all before after script w m other y b s going same_going)

agree_module : (before after : List DeviceState) (w : RunWords) (given other : List Served) (x y : Writes) (script : Option (List Reply)) (m : Module) → Agree (ModuleAnswer before after w given x script m) (ModuleAnswer before after w other y script m)
agree_module before after w given other x y script m a b pa qb =
    agree_starts (start_text (hosting before script w.collect) m (map invocation_of w.invocations)) _ _ a b
    (λ r s. one_run before after script w m other x y a b (subst (λ l. RunsTo before after script w m l a x) (given_is before after script w m given other x y a b r.0 s.0 r.1 s.1) r.0) s.0) pa qb

-- whatever is said to be written
pub one_run_answer : (before after : List DeviceState) (w : RunWords) (first later : Contents) (given other : List Served) (x y : Writes) → Agree (RunAnswer before after w first later given x) (RunAnswer before after w first later other y)
one_run_answer before after w first later given other x y a b pa qb =
    agree_then (input_of ModuleBytes w.source (first w.source)) _ _ (λ bytes.
    agree_then (replies_input w.replies later) _ _ (λ script_bytes.
    agree_if_loaded _ _ (λ m. agree_then (script_of script_bytes) _ _ (λ script. agree_module before after w given other x y script m)) (module_from bytes))) a b pa.answer qb.answer

-- one list of replies
agree_given : (before after : List DeviceState) (w : RunWords) (given other : List Served) (x y : Writes) (script : Option (List Reply)) (m : Module) → Gives (given ≡ other) (ModuleAnswer before after w given x script m) (ModuleAnswer before after w other y script m)
agree_given before after w given other x y script m a b at_a at_b pa qb =
    gives_starts (given ≡ other) (start_text (hosting before script w.collect) m (map invocation_of w.invocations)) _ _ (λ r s. given_is before after script w m given other x y a b r.0 s.0 r.1 s.1) a b at_a at_b pa qb

given_by : (before after : List DeviceState) (w : RunWords) (first later : Contents) (given other : List Served) (x y : Writes) (a b : Outcome) → IfRefusal a.status (given ≡ other) → IfRefusal b.status (given ≡ other) → RunAnswer before after w first later given x a → RunAnswer before after w first later other y b → given ≡ other
given_by before after w first later given other x y a b at_a at_b pa qb =
    gives_then (given ≡ other) (input_of ModuleBytes w.source (first w.source)) _ _ (input_refuses (given ≡ other) ModuleBytes w.source (first w.source)) (λ bytes.
    gives_then (given ≡ other) (replies_input w.replies later) _ _ (replies_refuse (given ≡ other) w.replies later) (λ script_bytes.
    gives_if_loaded (given ≡ other) _ _ (λ m. gives_then (given ≡ other) (script_of script_bytes) _ _ (script_refuses (given ≡ other) script_bytes) (λ script. agree_given before after w given other x y script m)) (module_from bytes))) a b at_a at_b pa.answer qb.answer

pub one_run_given : (before after : List DeviceState) (w : RunWords) (first later : Contents) (given other : List Served) (x y : Writes) (a b : Outcome) → RunAnswer before after w first later given x a → RunAnswer before after w first later other y b → given ≡ other
one_run_given before after w first later given other x y a b pa qb =
    let same : a ≡ b = one_run_answer before after w first later given other x y a b pa qb in
    let at_a : IfRefusal a.status (given ≡ other) = at_refusal a.status (IsUntouched before after given x) (IsUntouched before after other y) (given ≡ other) (λ p q. p.given_none ∙ sym q.given_none) pa.untouched (subst (λ (o : Outcome). IfRefusal o.status (IsUntouched before after other y)) (sym same) qb.untouched) in
    given_by before after w first later given other x y a b at_a (subst (λ (o : Outcome). IfRefusal o.status (given ≡ other)) same at_a) pa qb

-- ---- the files

agree_writes : (before after : List DeviceState) (w : RunWords) (given : List Served) (x y : Writes) (script : Option (List Reply)) (m : Module) → Gives (x ≡ y) (ModuleAnswer before after w given x script m) (ModuleAnswer before after w given y script m)
agree_writes before after w given x y script m a b at_a at_b pa qb =
    gives_starts (x ≡ y) (start_text (hosting before script w.collect) m (map invocation_of w.invocations)) _ _ (λ r s. same_writes before after script w m given x y a b r.0 s.0) a b at_a at_b pa qb

written : (before after : List DeviceState) (w : RunWords) (first later : Contents) (given : List Served) (x y : Writes) (a b : Outcome) → IfRefusal a.status (x ≡ y) → IfRefusal b.status (x ≡ y) → RunAnswer before after w first later given x a → RunAnswer before after w first later given y b → x ≡ y
written before after w first later given x y a b at_a at_b pa qb =
    gives_then (x ≡ y) (input_of ModuleBytes w.source (first w.source)) _ _ (input_refuses (x ≡ y) ModuleBytes w.source (first w.source)) (λ bytes.
    gives_then (x ≡ y) (replies_input w.replies later) _ _ (replies_refuse (x ≡ y) w.replies later) (λ script_bytes.
    gives_if_loaded (x ≡ y) _ _ (λ m. gives_then (x ≡ y) (script_of script_bytes) _ _ (script_refuses (x ≡ y) script_bytes) (λ script. agree_writes before after w given x y script m)) (module_from bytes))) a b at_a at_b pa.answer qb.answer

pub one_run_written : (before after : List DeviceState) (w : RunWords) (first later : Contents) (given : List Served) (x y : Writes) (a b : Outcome) → RunAnswer before after w first later given x a → RunAnswer before after w first later given y b → x ≡ y
one_run_written before after w first later given x y a b pa qb =
    let same : a ≡ b = one_run_answer before after w first later given given x y a b pa qb in
    let at_a : IfRefusal a.status (x ≡ y) = at_refusal a.status (IsUntouched before after given x) (IsUntouched before after given y) (x ≡ y) (λ p q. p.writes_none ∙ sym q.writes_none) pa.untouched (subst (λ (o : Outcome). IfRefusal o.status (IsUntouched before after given y)) (sym same) qb.untouched) in
    written before after w first later given x y a b at_a (subst (λ (o : Outcome). IfRefusal o.status (x ≡ y)) same at_a) pa qb
