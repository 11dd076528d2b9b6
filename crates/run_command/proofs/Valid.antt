-- The answer on a valid module, from what its parts ensure.
use Rattle.std.proofs.Common.{◌≡◌, ℕ, ◌≤◌, arith, Bool, true, false, List, [], ◌++◌, map, drop, refl, sym, ap, ◌∙◌, subst, Option, Some, None, Result, Ok, Err}
use Rattle.std.specs.Prelude.{IfOk, IfSome, nat_lt, if◌then◌else◌, unwrap_or}
use Rattle.causes.specs.Counts.{Rose}
use Rattle.causes.specs.declared.NoMemory.{NoMemory as WantOfMemory}
use Rattle.pm_outside.specs.Contents.{Contents}
use Rattle.wasm_syntax.specs.declared.host.Reply.{Reply}
use Rattle.wasm_syntax.specs.declared.module.ModuleParts.{ModuleParts as Module}
use Rattle.wasm_syntax.specs.Module.{Program, IsProgram, IsModule}
use Rattle.wasm_syntax.specs.Valid.{Valid}
use Rattle.wasm_syntax.specs.Run.{cause_of_segments, Outcome as RunOutcome, not_started, finished, trapped, lacks_reply, misfits, running, got_stuck, engine}
use Rattle.wasm_machine.specs.calls.Instances.{State, IsNew, IsOf}
use Rattle.host_devices.specs.Given.{replies_of}
use Rattle.host_set.specs.Sets.{DeviceState, count_of}
use Rattle.host_set.specs.calls.Hosting.{HostsState, origin_of, calls_of, is_used_up, serves}
use Rattle.commands.specs.declared.outcome.Outcome.{Outcome}
use Rattle.commands.specs.declared.status.Status.TheVariants as status
use Rattle.run_words.specs.declared.words.RunWords.{RunWords}
use Rattle.wasm_syntax.specs.declared.host.CollectorCall.{CollectorCall}
use Rattle.run_session.specs.Delivery.{Delivery, IsDelivery}
use Rattle.run_session.specs.Telling.{tells, told as told_of, torn_in}
use Rattle.run_session.specs.calls.Collecting.{serving_of, used_up_of}
use Rattle.run_session.specs.Invocations.{invocation_of, depth_of}
use Rattle.run_session.specs.Ending.{told_status}
use Rattle.run_session.specs.calls.Answers.{ended_as}
use Rattle.run_session.specs.calls.Sessions.{point_of, RanAll, IsDumpFault}
use Rattle.commands.proofs.Unless.{OnAnswer, map_answer, all_answers}
use Rattle.run_command.specs.Starting.{not_started_with, entries_text}
use Rattle.run_command.specs.Hosting.{start_text}
use Rattle.run_command.specs.RunAnswer.{hosting, RunsTo, Logs, StartsOr, ModuleAnswer, IfRefusal, IsUntouched}
use Rattle.run_command.specs.inner.Steps.{IsAnswered}
use Rattle.run_command.specs.Recorded.{record_file, recorded, served_in, IsReadBack}
use Rattle.run_command.specs.inner.Recording.{Records, fitting}
use Rattle.run_command.proofs.Answering.{runs_to}
use Rattle.run_command.proofs.Fitting.{fitting_served, recorded_answer}
use Rattle.pm_outside.specs.Held.{Writes, HoldThen}
use Rattle.pm_outside.proofs.Held.{held_also}
use Rattle.pm_outside.specs.Written.{OnTold}
use Rattle.run_command.specs.calls.Begun.{HasBegun}
use Rattle.commands.specs.declared.given.Given.TheVariants as givens
use Rattle.run_command.proofs.Beginning.{none_starts, starts_alike}
use Rattle.run_command.proofs.Refusals.{untouched}
use Rattle.run_command.proofs.Hostings.{Began, GaveBack, host_facts, given_is, by_script, logs, rose_on}

-- ---- the run

of_choice : (b : Bool) (P : Type 0) → IfRefusal (if b then status.Trapped else status.Done) P
of_choice true P = tt
of_choice false P = tt

-- what was run is no refusal
no_refusal : (traps : ℕ) (torn : Option ℕ) (o : RunOutcome) (text : List ℕ) (P : Type 0) → IfSome (ended_as (told_status traps torn o) text) (λ (q : Outcome). IfRefusal q.status P)
no_refusal traps (Some at) o text P = tt
no_refusal traps None (lacks_reply call) text P = tt
no_refusal traps None (misfits call reply) text P = tt
no_refusal traps None running text P = tt
no_refusal traps None (trapped kind) text P = tt
no_refusal traps None (finished v) text P = of_choice (nat_lt 0 traps) P
no_refusal traps None (not_started cause) text P = tt
no_refusal traps None got_stuck text P = tt

-- all that was run, with these host sides before and after
abbrev pub RanSo : (List CollectorCall → Delivery) → Program → RunWords → State → (bad : Bool) → (h0 h1 : HostsState) → (told told' : Option Contents) → Outcome → Type 0
RanSo deliver p w s bad h0 h1 told told' o =
    RanAll (tells w.collect deliver) p (engine p w.collect (depth_of w)) w.dump w.name (used_up_of w.collect (is_used_up h1)) (count_of h0.devices) (count_of h1.devices) bad (point_of s (map invocation_of w.invocations) w.fuel) (calls_of h0).served (calls_of h1).served told told' o

abbrev pub Runs : (before after : List DeviceState) → Option (List Reply) → RunWords → Module → Option Contents → Option Contents → Outcome → Type 0
Runs before after script w m told told' o = IsAnswered (λ given writes o. RunsTo before after script w m given o writes × Logs m given before after) before after told told' o

-- the file of the record, as the host side has served
abbrev pub own_record : RunWords → (bad : Bool) → HostsState → Writes
own_record w bad h1 = record_file w.log_to (fitting bad h1.served)

module _ (deliver : List CollectorCall → Delivery) (delivers : IsDelivery deliver) (p : Program) (before after : List DeviceState) (script : Option (List Reply)) (w : RunWords) (s : State) (bad : Bool) (h0 h1 : HostsState) (told mid new : Option Contents)
    (of_module : p.module_ ≡ s.module_) (writes_out : IsProgram p) (is_new : IsNew s.module_ s) (entries : entries_text s.module_ (map invocation_of w.invocations) ≡ None) (segments : cause_of_segments s.module_ ≡ None)
    (began : Began s.module_.imports before script h0) (same : origin_of h1 ≡ origin_of h0) (back : GaveBack h1 after) where
  same_replies : (o : Outcome) (r : RanSo deliver p w s bad h0 h1 told mid o) → fitting bad h1.served ≡ replies_of (served_in r.has_ended.rans)
  same_replies o r =
      fitting_served r.has_ended.rans r.last r.given h1.served bad r.has_ended.came_of.given r.has_ended.last r.has_ended.fit r.misfit
      (given_is s.module_.imports before script h0 h1 began same after back r.given r.grew)

  pub is_recorded : (o : Outcome) (r : RanSo deliver p w s bad h0 h1 told mid o) → own_record w bad h1 ≡ recorded w.log_to r.has_ended.rans
  is_recorded o r = ap (λ rs. record_file w.log_to rs) (same_replies o r)

  hosted_so : (o : Outcome) → RanSo deliver p w s bad h0 h1 told mid o → OnTold (HoldThen (own_record w bad h1)) mid new → IsReadBack w.log_to (fitting bad h1.served) → Runs before after script w s.module_ told new o
  hosted_so o r held read =
      let used_up = used_up_of w.collect (is_used_up h1) in
      record {
        given = r.given;
        writes = r.writes ++ recorded w.log_to r.has_ended.rans;
        answer = (
          runs_to before after script w s.module_ p used_up (count_of h0.devices) (count_of h1.devices) bad (drop h1.given (unwrap_or script [])) s (calls_of h0).served (calls_of h1).served told mid o deliver delivers
              of_module writes_out is_new entries segments (host_facts s.module_.imports before script h0 h1 began same w.collect) (λ device. rose_on before after h0.devices h1.devices device began.devices_are back.devices) r (by_script s.module_.imports before script h0 h1 began same after back r.given r.grew)
              (subst (λ rs. IsReadBack w.log_to rs) (same_replies o r) read),
          logs s.module_ before after script h0 h1 began same back r.given r.grew,
        );
        files = held_also r.writes (recorded w.log_to r.has_ended.rans) told mid new r.files (subst (λ ws. OnTold (HoldThen ws) mid new) (is_recorded o r) held);
        untouched = subst (λ (q : Option Outcome). IfSome q (λ (a : Outcome). IfRefusal a.status (IsUntouched before after r.given (r.writes ++ recorded w.log_to r.has_ended.rans)))) r.answer
            (no_refusal r.lines.traps (torn_in (told_of (tells w.collect deliver) r.last)) r.last.outcome (r.lines.text ++ r.line) (IsUntouched before after r.given (r.writes ++ recorded w.log_to r.has_ended.rans)));
      }

  hosted_by : (rose : Type 0) (ran result : Result Outcome WantOfMemory) → OnAnswer (RanSo deliver p w s bad h0 h1 told mid) ran → Records w.log_to (fitting bad h1.served) rose ran result mid new
      → OnAnswer (Runs before after script w s.module_ told new) result
  hosted_by rose ran result x records =
      recorded_answer w.log_to (fitting bad h1.served) rose mid new (RanSo deliver p w s bad h0 h1 told mid) (Runs before after script w s.module_ told new) ran result hosted_so x records

pub hosted_told : (deliver : List CollectorCall → Delivery) → IsDelivery deliver → (rose : Type 0) (ran result : Result Outcome WantOfMemory) (before after : List DeviceState) (script : Option (List Reply)) (w : RunWords) (s : State) (bad : Bool) (h0 h1 : HostsState) (told mid new : Option Contents)
    → IsModule s.module_ → IsNew s.module_ s → entries_text s.module_ (map invocation_of w.invocations) ≡ None → cause_of_segments s.module_ ≡ None
    → Began s.module_.imports before script h0 → origin_of h1 ≡ origin_of h0 → GaveBack h1 after
    → ((p : Program) → IsOf s p → OnAnswer (RanSo deliver p w s bad h0 h1 told mid) ran)
    → Records w.log_to (fitting bad h1.served) rose ran result mid new
    → OnAnswer (Runs before after script w s.module_ told new) result
hosted_told deliver delivers rose ran result before after script w s bad h0 h1 told mid new whole is_new entries segments began same back x records =
    hosted_by deliver delivers (record { module_ = s.module_; trees = whole.trees }) before after script w s bad h0 h1 told mid new refl whole.write is_new entries segments began same back rose ran result
    (x (record { module_ = s.module_; trees = whole.trees }) (record { of_module = refl; writes_out = whole.write })) records

-- ---- the whole

-- a refusal leaves the files and the devices as they are
pub refused_told : (result : Result Outcome WantOfMemory) (before : List DeviceState) (script : Option (List Reply)) (w : RunWords) (m : Module) (told : Option Contents) (cause : List ℕ)
    → start_text (hosting before script w.collect) m (map invocation_of w.invocations) ≡ Some cause → IfOk result (λ o. o ≡ not_started_with cause)
    → OnAnswer (IsAnswered (λ given writes. ModuleAnswer before before w given writes script m) before before told told) result
refused_told result before script w m told cause starts is =
    map_answer (λ o. o ≡ not_started_with cause) (IsAnswered (λ given writes. ModuleAnswer before before w given writes script m) before before told told) result
    (λ o e. untouched before (λ given writes. ModuleAnswer before before w given writes script m) told told o refl
    (subst (λ t. StartsOr t (RunsTo before before script w m [] o [] × Logs m [] before before) o) (sym starts) e))
    (all_answers (λ o. o ≡ not_started_with cause) result is)

pub valid_told : (result : Result Outcome WantOfMemory) (before after : List DeviceState) (script : Option (List Reply)) (w : RunWords) (m n : Module) (told told' : Option Contents)
    → m ≡ n → start_text (hosting before script w.collect) n (map invocation_of w.invocations) ≡ None → OnAnswer (Runs before after script w m told told') result
    → OnAnswer (IsAnswered (λ given writes. ModuleAnswer before after w given writes script n) before after told told') result
valid_told result before after script w m n told told' same starts runs =
    map_answer (Runs before after script w n told told') (IsAnswered (λ given writes. ModuleAnswer before after w given writes script n) before after told told') result
    (λ o a. record {
      given = a.given;
      writes = a.writes;
      answer = subst (λ t. StartsOr t (RunsTo before after script w n a.given o a.writes × Logs n a.given before after) o) (sym starts) a.answer;
      files = a.files;
      untouched = a.untouched;
    })
    (subst (λ (x : Module). OnAnswer (Runs before after script w x told told') result) same runs)

-- ---- as the code comes to them

-- a new instance was made, and the invocations were run on it
pub ready_told : (deliver : List CollectorCall → Delivery) → IsDelivery deliver → (rose : Type 0) (ran result : Result Outcome WantOfMemory) (before after : List DeviceState) (script : Option (List Reply)) (w : RunWords) (m : Module) (s : State) (bad : Bool) (h0 h1 : HostsState) (told mid told' : Option Contents)
    → IsModule m → Valid m → HasBegun (serving_of w.collect (λ i type. serves h0 i)) m (map invocation_of w.invocations) (givens.Value s)
    → Began m.imports before script h0 → origin_of h1 ≡ origin_of h0 → GaveBack h1 after
    → ((p : Program) → IsOf s p → OnAnswer (RanSo deliver p w s bad h0 h1 told mid) ran)
    → Records w.log_to (fitting bad h1.served) rose ran result mid told'
    → OnAnswer (IsAnswered (λ given writes. ModuleAnswer before after w given writes script m) before after told told') result
ready_told deliver delivers rose ran result before after script w m s bad h0 h1 told mid told' whole valid (starts, segments, new) began same back x records =
    let is = map invocation_of w.invocations in
    let at = sym new.module_is in
    valid_told result before after script w s.module_ m told told' new.module_is (sym (starts_alike m h0 before script w.collect valid began.devices_are began.script_is is) ∙ starts)
    (hosted_told deliver delivers rose ran result before after script w s bad h0 h1 told mid told' (subst IsModule at whole) (subst (λ (x : Module). IsNew x s) at new)
    (ap (λ (x : Module). entries_text x is) new.module_is ∙ (none_starts (serving_of w.collect (λ i type. serves h0 i)) m is starts).0) (ap (λ (x : Module). cause_of_segments x) new.module_is ∙ segments)
    (subst (λ (x : Module). Began x.imports before script h0) at began) same back x records)

-- nothing was run, and the devices were given back
pub refused_back : (result : Result Outcome WantOfMemory) (before after : List DeviceState) (script : Option (List Reply)) (w : RunWords) (m : Module) (h : HostsState) (told : Option Contents) (o : Outcome)
    → Valid m → Began m.imports before script h → after ≡ h.devices → HasBegun (serving_of w.collect (λ i type. serves h i)) m (map invocation_of w.invocations) (givens.Refused o) → result ≡ Ok o
    → OnAnswer (IsAnswered (λ given writes. ModuleAnswer before after w given writes script m) before after told told) result
refused_back result before after script w m h told o valid began back (cause, starts, is) same =
    subst (λ ds. OnAnswer (IsAnswered (λ given writes. ModuleAnswer before ds w given writes script m) before ds told told) result) (sym (back ∙ began.devices_are))
    (refused_told result before script w m told cause (sym (starts_alike m h before script w.collect valid began.devices_are began.script_is (map invocation_of w.invocations)) ∙ starts)
    (subst (λ r. IfOk r (λ x. x ≡ not_started_with cause)) (sym same) is))

-- ---- faults

pub fault_since : (base : List ℕ) (result : Result Outcome WantOfMemory) (a b c : ℕ) → b ≤ c → IfOk result (λ o. o.status ≡ status.FileFault → IsDumpFault base o × Rose a b) → IfOk result (λ o. o.status ≡ status.FileFault → Rose a c)
fault_since base (Err e) a b c le x = tt
fault_since base (Ok o) a b c le x = λ faulted. let k : Rose a b = (x faulted).1 in omega (arith, k, le)

pub no_faults : (result : Result Outcome WantOfMemory) (cause : List ℕ) (R : Outcome → Type 0) → IfOk result (λ o. o ≡ not_started_with cause) → IfOk result (λ o. o.status ≡ status.FileFault → R o)
no_faults (Err e) cause R x = tt
no_faults (Ok o) cause R x = λ is. let clash : status.NotStarted ≡ status.FileFault = sym (ap (λ (x : Outcome). x.status) x) ∙ is in absurd cc

pub no_want : (result : Result Outcome WantOfMemory) (cause : List ℕ) → IfOk result (λ o. o ≡ not_started_with cause) → IfOk result (λ o. o.status ≡ status.NoMemory → ⊥)
no_want (Err e) cause x = tt
no_want (Ok o) cause x = λ is. let clash : status.NotStarted ≡ status.NoMemory = sym (ap (λ (x : Outcome). x.status) x) ∙ is in absurd cc
