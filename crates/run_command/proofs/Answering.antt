-- What was run is the answer.
use Rattle.std.proofs.Common.{◌≡◌, ℕ, ◌+◌, ◌-◌, Bool, true, false, List, [], ◌∷◌, ◌++◌, map, length, refl, sym, ap, ◌∙◌, inl, inr, arith, Option, Some, None, subst}
use Rattle.std.specs.Prelude.{slice_get, codes, if◌then◌else◌, unwrap_or, option_and_then, option_map}
use Rattle.std.specs.Fmt.{decimal}
use Rattle.std.specs.List.{flat_map}
use Rattle.pm_text.specs.Names.{quoted}
use Rattle.causes.specs.Counts.{Rose}
use Rattle.pm_outside.specs.Contents.{Contents}
use Rattle.wasm_syntax.specs.declared.parts.Import.{Import}
use Rattle.wasm_syntax.specs.declared.host.Reply.{Reply}
use Rattle.wasm_syntax.specs.declared.host.HostCall.{HostCall}
use Rattle.wasm_syntax.specs.declared.host.Served.{Served}
use Rattle.wasm_syntax.specs.declared.host.CollectorCall.{CollectorCall}
use Rattle.wasm_syntax.specs.declared.module.ModuleParts.{ModuleParts as Module}
use Rattle.wasm_syntax.specs.Module.{Program, IsProgram, function_export}
use Rattle.wasm_syntax.specs.Run.{Cause, no_export, bad_arguments, element_out, data_out, cause_of_entry, cause_of_segments, cause_of, Invocation, Outcome as RunOutcome, not_started, finished, trapped, lacks_reply, misfits, running, got_stuck, Ran, session, start_world, unless, run, engine}
use Rattle.host_devices.specs.Given.{replies_of, module_name}
use Rattle.machine_hosted.specs.calls.Settings.{world_of}
use Rattle.host_devices.specs.Given.{unfitting}
use Rattle.host_set.specs.Sets.{DeviceState, names, count_of, is_named}
use Rattle.wasm_machine.specs.calls.Instances.{State, IsNew}
use Rattle.run_words.specs.declared.words.RunWords.{RunWords}
use Rattle.commands.specs.declared.outcome.Outcome.{Outcome}
use Rattle.run_session.specs.Delivery.{Delivery, IsDelivery}
use Rattle.run_session.proofs.Tellings.{Behaves, behaves}
use Rattle.run_session.specs.Telling.{Tells, tells, told, torn_in}
use Rattle.run_session.specs.RunText.{invocation_text, traps_in, fitted, up_to_torn}
use Rattle.commands.specs.Texts.{ended}
use Rattle.run_session.specs.Given.{module_of}
use Rattle.run_session.specs.Invocations.{invocation_of, depth_of}
use Rattle.run_session.specs.calls.Answers.{device_cause, misfit_cause, ended_as}
use Rattle.run_session.specs.Ending.{host_stopped, told_status}
use Rattle.run_session.specs.calls.Progress.{session_from}
use Rattle.run_session.specs.calls.Sessions.{point_of, EndsIn, ToldEndsIn, RanAll}
use Rattle.run_command.specs.Starting.{cause_text, entries_text}
use Rattle.run_command.specs.Hosting.{Hosting, scripted}
use Rattle.run_command.specs.Recorded.{recorded, served_in, IsReadBack}
use Rattle.run_command.specs.AllRan.{end_text, told_end, text_to}
use Rattle.run_command.specs.RunAnswer.{hosting, UsesUp, EndUsesUp, HasFailed, EndHasFailed, RunsTo}
use Rattle.std.specs.Option.{option_or}
use Rattle.std.proofs.lemmas.List.{length-map}

-- ---- no cause, no refusal

pub none_then : (name : List ℕ) (o : Option Cause) (t : Option (List ℕ)) → option_or (cause_text name o) t ≡ None → (o ≡ None) × (t ≡ None)
none_then name None t e = (refl, e)
none_then name (Some no_export) t e = absurd cc
none_then name (Some bad_arguments) t e = absurd cc
none_then name (Some (element_out i)) t e = absurd cc
none_then name (Some (data_out i)) t e = absurd cc

pub no_cause : (m : Module) (is : List Invocation) → entries_text m is ≡ None → cause_of_segments m ≡ None → cause_of m is ≡ None
no_cause m [] e segments = segments
no_cause m (i ∷ is) e segments =
    let parts = none_then i.name (cause_of_entry m (function_export m i.name) i.args) (entries_text m is) e in
    ap (λ o. option_or o (cause_of m is)) parts.0 ∙ no_cause m is parts.1 segments

-- ---- the last line

-- what the host side is known to be
pub record HostFacts (names : List (List ℕ)) (used_up : Import → Bool) (left : List Reply) (counts now : List ℕ → ℕ) : Type 0 where
  pub used : (i : Import) → used_up i ≡ true → (is_named names i.«module» ≡ false) × (left ≡ [])
  pub failed : (device : List ℕ) → Rose (counts device) (now device) → is_named names device ≡ true

module_is : (imports : List Import) (n : ℕ) (i : Import) → slice_get imports n ≡ Some i → module_of imports n ≡ i.«module»
module_is imports n i e = ap module_name e

same_count : (given n : ℕ) → given ≡ n + 0 → given ≡ n
same_count given n e = omega arith

one_less : (given n : ℕ) → given ≡ n + 1 → given - 1 ≡ n
one_less given n e = omega arith

pub line_is : (names : List (List ℕ)) (p : Program) (imports : List Import) (used_up : Import → Bool) (left : List Reply) (counts now : List ℕ → ℕ) (given n due : ℕ) (o : RunOutcome) (line : List ℕ) → imports ≡ p.module_.imports → HostFacts names used_up left counts now → given ≡ n + length (unfitting o) → EndsIn p used_up counts now given due o line → line ≡ end_text names imports n due o
line_is names p imports used_up left counts now given n due (lacks_reply call) line is facts count (inl ((i, there, up), e)) =
    let named : is_named names (module_of imports call.import) ≡ false = ap (λ m. is_named names m) (ap (λ l. module_of l call.import) is ∙ module_is p.module_.imports call.import i there) ∙ (facts.used i up).0 in
    e ∙ ap (λ k. host_stopped (codes "no reply for call " ++ decimal k)) (same_count given n count)
    ∙ sym (ap (λ b. host_stopped (if b then codes "device " ++ quoted (module_of imports call.import) else codes "no reply for call " ++ decimal n)) named)
line_is names p imports used_up left counts now given n due (lacks_reply call) line is facts count (inr (device, (i, there, name, some_left), rose, e)) =
    let same : module_of imports call.import ≡ device = ap (λ l. module_of l call.import) is ∙ module_is p.module_.imports call.import i there ∙ sym name in
    let named : is_named names (module_of imports call.import) ≡ true = ap (λ m. is_named names m) same ∙ facts.failed device rose in
    e ∙ ap (λ d. host_stopped (device_cause d)) (sym same)
    ∙ sym (ap (λ b. host_stopped (if b then codes "device " ++ quoted (module_of imports call.import) else codes "no reply for call " ++ decimal n)) named)
line_is names p imports used_up left counts now given n due (misfits call reply) line is facts count e = e ∙ ap (λ k. host_stopped (misfit_cause k)) (one_less given n count)
line_is names p imports used_up left counts now given n due running line is facts count e = e
line_is names p imports used_up left counts now given n due (trapped kind) line is facts count e = e
line_is names p imports used_up left counts now given n due (finished v) line is facts count e = e
line_is names p imports used_up left counts now given n due (not_started cause) line is facts count e = absurd e
line_is names p imports used_up left counts now given n due got_stuck line is facts count e = absurd e

-- no reply is left, where the script has none for a call
pub uses_up : (h : Hosting) (p : Program) (m : Module) (used_up : Import → Bool) (left : List Reply) (counts now : List ℕ → ℕ) (given due : ℕ) (o : RunOutcome) (line : List ℕ) → p.module_ ≡ m → HostFacts h.names used_up left counts now → EndsIn p used_up counts now given due o line → UsesUp h m left o
uses_up h p m used_up left counts now given due (lacks_reply call) line is facts (inl ((i, there, up), e)) = λ none. (facts.used i up).1
uses_up h p m used_up left counts now given due (lacks_reply call) line is facts (inr (device, (i, there, name, some_left), rose, e)) = λ none.
    let named : is_named h.names (module_of m.imports call.import) ≡ true = ap (λ n. is_named h.names n) (ap (λ (x : Module). module_of x.imports call.import) (sym is) ∙ module_is p.module_.imports call.import i there ∙ sym name) ∙ facts.failed device rose in
    let clash : true ≡ false = sym named ∙ none in
    absurd cc
uses_up h p m used_up left counts now given due (misfits call reply) line is facts ends = tt
uses_up h p m used_up left counts now given due (finished v) line is facts ends = tt
uses_up h p m used_up left counts now given due (trapped kind) line is facts ends = tt
uses_up h p m used_up left counts now given due (not_started cause) line is facts ends = tt
uses_up h p m used_up left counts now given due running line is facts ends = tt
uses_up h p m used_up left counts now given due got_stuck line is facts ends = tt

-- the device's count rose, where it has no reply for a call
pub has_failed : (before after : List DeviceState) (p : Program) (m : Module) (used_up : Import → Bool) (left : List Reply) (counts now : List ℕ → ℕ) (given due : ℕ) (o : RunOutcome) (line : List ℕ) → p.module_ ≡ m → HostFacts (names before) used_up left counts now → ((device : List ℕ) → Rose (counts device) (now device) → Rose (count_of before device) (count_of after device)) → EndsIn p used_up counts now given due o line → HasFailed before after m o
has_failed before after p m used_up left counts now given due (lacks_reply call) line is facts counted (inl ((i, there, up), e)) = λ some.
    let named : is_named (names before) (module_of m.imports call.import) ≡ false = ap (λ n. is_named (names before) n) (ap (λ (x : Module). module_of x.imports call.import) (sym is) ∙ module_is p.module_.imports call.import i there) ∙ (facts.used i up).0 in
    let clash : true ≡ false = sym some ∙ named in
    absurd cc
has_failed before after p m used_up left counts now given due (lacks_reply call) line is facts counted (inr (device, (i, there, name, some_left), rose, e)) = λ some.
    let same : device ≡ module_of m.imports call.import = name ∙ sym (module_is p.module_.imports call.import i there) ∙ ap (λ (x : Module). module_of x.imports call.import) is in
    subst (λ d. Rose (count_of before d) (count_of after d)) same (counted device rose)
has_failed before after p m used_up left counts now given due (misfits call reply) line is facts counted ends = tt
has_failed before after p m used_up left counts now given due (finished v) line is facts counted ends = tt
has_failed before after p m used_up left counts now given due (trapped kind) line is facts counted ends = tt
has_failed before after p m used_up left counts now given due (not_started cause) line is facts counted ends = tt
has_failed before after p m used_up left counts now given due running line is facts counted ends = tt
has_failed before after p m used_up left counts now given due got_stuck line is facts counted ends = tt

-- ---- torn calls

told_line : (names : List (List ℕ)) (p : Program) (imports : List Import) (used_up : Import → Bool) (left : List Reply) (counts now : List ℕ → ℕ) (given n due : ℕ) (torn : Option ℕ) (o : RunOutcome) (line : List ℕ) → imports ≡ p.module_.imports → HostFacts names used_up left counts now → given ≡ n + length (unfitting o) → ToldEndsIn p used_up counts now given due torn o line
    → line ≡ told_end names imports n due torn o
told_line names p imports used_up left counts now given n due None o line is facts count ends = line_is names p imports used_up left counts now given n due o line is facts count ends
told_line names p imports used_up left counts now given n due (Some at) o line is facts count ends = ends

module _ (tell : Tells) (b : Behaves tell) (r : Ran) where
  -- where calls are torn, no reply was lacking
  none_lacked : (at : ℕ) (call : HostCall) → torn_in (told tell r) ≡ Some at → r.outcome ≡ lacks_reply call → ⊥
  none_lacked at call torn is =
      let whole : torn_in (told tell r) ≡ None = ap torn_in (ap (λ o. tell o r.collected r.last) is ∙ b.lacking call r.collected r.last) in
      let clash : Some at ≡ None = sym torn ∙ whole in
      absurd cc

  torn_uses : (h : Hosting) (m : Module) (left : List Reply) (at : ℕ) → torn_in (told tell r) ≡ Some at → (o : RunOutcome) → r.outcome ≡ o → UsesUp h m left o
  torn_uses h m left at torn (lacks_reply call) is = absurd (none_lacked at call torn is)
  torn_uses h m left at torn (misfits call reply) is = tt
  torn_uses h m left at torn (finished v) is = tt
  torn_uses h m left at torn (trapped kind) is = tt
  torn_uses h m left at torn (not_started cause) is = tt
  torn_uses h m left at torn running is = tt
  torn_uses h m left at torn got_stuck is = tt

  torn_fails : (before after : List DeviceState) (m : Module) (at : ℕ) → torn_in (told tell r) ≡ Some at → (o : RunOutcome) → r.outcome ≡ o → HasFailed before after m o
  torn_fails before after m at torn (lacks_reply call) is = absurd (none_lacked at call torn is)
  torn_fails before after m at torn (misfits call reply) is = tt
  torn_fails before after m at torn (finished v) is = tt
  torn_fails before after m at torn (trapped kind) is = tt
  torn_fails before after m at torn (not_started cause) is = tt
  torn_fails before after m at torn running is = tt
  torn_fails before after m at torn got_stuck is = tt

  module _ (p : Program) (m : Module) (used_up : Import → Bool) (left : List Reply) (counts now : List ℕ → ℕ) (given due : ℕ) (line : List ℕ) (is : p.module_ ≡ m) where
    pub told_uses : (h : Hosting) → HostFacts h.names used_up left counts now → (t : Option ℕ) → torn_in (told tell r) ≡ t → ToldEndsIn p used_up counts now given due t r.outcome line → UsesUp h m left r.outcome
    told_uses h facts None torn ends = uses_up h p m used_up left counts now given due r.outcome line is facts ends
    told_uses h facts (Some at) torn ends = torn_uses h m left at torn r.outcome refl

    pub told_fails : (before after : List DeviceState) → HostFacts (names before) used_up left counts now → ((device : List ℕ) → Rose (counts device) (now device) → Rose (count_of before device) (count_of after device))
        → (t : Option ℕ) → torn_in (told tell r) ≡ t → ToldEndsIn p used_up counts now given due t r.outcome line → HasFailed before after m r.outcome
    told_fails before after facts counted None torn ends = has_failed before after p m used_up left counts now given due r.outcome line is facts counted ends
    told_fails before after facts counted (Some at) torn ends = torn_fails before after m at torn r.outcome refl

-- ---- the answer

not_begun : (asked made due : ℕ) → asked ≡ made + due → asked - made ≡ due
not_begun asked made due e = omega arith

no_less : (n : ℕ) → n - 0 ≡ n
no_less n = omega arith

-- the session of a new instance is the run
pub is_run : (m : Module) (p : Program) (collect : Bool) (s : State) (is : List Invocation) (depth fuel : ℕ) (given : List Served) → p.module_ ≡ m → IsNew m s → entries_text m is ≡ None → cause_of_segments m ≡ None
    → session_from (engine p collect depth) (point_of s is fuel) (replies_of given) ≡ run p collect is (replies_of given) depth fuel
is_run m p collect s is depth fuel given of_module new entries segments =
    let M = engine p collect depth in
    let cause : cause_of p.module_ is ≡ None = ap (λ x. cause_of x is) of_module ∙ no_cause m is entries segments in
    ap (λ d. session M is d (world_of s.machine (replies_of given)) (fuel - s.steps)) (new.due ∙ ap (λ (x : Module). x.start) (sym of_module))
    ∙ ap (λ v. session M is p.module_.start v (fuel - s.steps)) (new.world (replies_of given) ∙ ap (λ x. start_world x (replies_of given)) (sym of_module))
    ∙ ap (λ n. session M is p.module_.start (start_world p.module_ (replies_of given)) n) (ap (λ n. fuel - n) new.steps ∙ no_less fuel)
    ∙ sym (ap (λ c. unless M c is (replies_of given) fuel) cause)

pub runs_to : (before after : List DeviceState) (script : Option (List Reply)) (w : RunWords) (m : Module) (p : Program) (used_up : Import → Bool) (counts now : List ℕ → ℕ) (bad : Bool) (left : List Reply) (s : State) (calls calls' : List Served) (told_before told_after : Option Contents) (o : Outcome)
    (deliver : List CollectorCall → Delivery) → IsDelivery deliver
    → p.module_ ≡ m → IsProgram p → IsNew m s → entries_text m (map invocation_of w.invocations) ≡ None → cause_of_segments m ≡ None → HostFacts (names before) used_up left counts now
    → ((device : List ℕ) → Rose (counts device) (now device) → Rose (count_of before device) (count_of after device))
    → (r : RanAll (tells w.collect deliver) p (engine p w.collect (depth_of w)) w.dump w.name used_up counts now bad (point_of s (map invocation_of w.invocations) w.fuel) calls calls' told_before told_after o)
    → unwrap_or script [] ≡ replies_of (scripted (names before) m.imports r.given) ++ left → IsReadBack w.log_to (replies_of (served_in r.has_ended.rans))
    → RunsTo before after script w m r.given o (r.writes ++ recorded w.log_to r.has_ended.rans)
runs_to before after script w m p used_up counts now bad left s calls calls' told_before told_after o deliver delivers of_module writes_out new entries segments facts counted r of_script back =
    let is = map invocation_of w.invocations in
    let tell = tells w.collect deliver in
    let b = behaves w.collect deliver in
    let e = r.has_ended in
    let torn = torn_in (told tell r.last) in
    let due : length w.invocations - length e.rans ≡ r.due = not_begun (length w.invocations) (length e.rans) r.due (sym (length-map w.invocations invocation_of) ∙ e.counted) in
    record {
      program = p;
      of_module = of_module;
      writes_out = writes_out;
      deliver = deliver;
      delivers = delivers;
      rans = e.rans;
      runs = sym e.is ∙ ap (λ l. up_to_torn tell l) (is_run m p w.collect s is (depth_of w) w.fuel r.given of_module new entries segments);
      all_given = e.came_of.given;
      left = left;
      by_script = of_script;
      used_up = subst (λ l. EndUsesUp (hosting before script w.collect) m left l) (sym e.last) (told_uses tell b r.last p m used_up left counts now (length r.given) r.due r.line of_module (hosting before script w.collect) facts torn refl r.ends);
      failed = subst (λ l. EndHasFailed before after m l) (sym e.last) (told_fails tell b r.last p m used_up left counts now (length r.given) r.due r.line of_module before after facts counted torn refl r.ends);
      answer = ap (λ (l : Option Ran). option_and_then (λ (x : Ran).
          option_map (λ s. ended s (text_to (names before) m.imports tell (length w.invocations) e.rans x)) (told_status (traps_in tell e.rans) (torn_in (told tell x)) x.outcome)) l) e.last
          ∙ ap (λ k. ended_as (told_status (traps_in tell e.rans) torn r.last.outcome) (flat_map (invocation_text tell) e.rans ++ told_end (names before) m.imports (fitted e.rans) k torn r.last.outcome)) due
          ∙ sym (ap (λ t. ended_as (told_status (traps_in tell e.rans) torn r.last.outcome) (flat_map (invocation_text tell) e.rans ++ t)) (told_line (names before) p m.imports used_up left counts now (length r.given) (fitted e.rans) r.due torn r.last.outcome r.line (ap (λ (x : Module). x.imports) (sym of_module)) facts e.fit r.ends))
          ∙ ap (λ t. ended_as (told_status (traps_in tell e.rans) torn r.last.outcome) (t ++ r.line)) (sym e.came_of.text)
          ∙ ap (λ k. ended_as (told_status k torn r.last.outcome) (r.lines.text ++ r.line)) (sym e.came_of.traps)
          ∙ r.answer;
      wrote = ap (λ ws. ws ++ recorded w.log_to e.rans) e.came_of.writes;
      read_back = back;
    }
