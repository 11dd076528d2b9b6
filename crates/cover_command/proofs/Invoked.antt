-- The answer on a valid module, from what its parts ensure.
use Rattle.std.proofs.Common.{◌≡◌, ℕ, suc, ◌+◌, ◌-◌, ◌<◌, ◌≤◌, ◌^◌, false, List, [], ◌∷◌, ◌++◌, map, length, drop, refl, sym, ap, ◌∙◌, subst, arith, Option, None, Result, Ok, Err, length-append}
use Rattle.std.specs.Prelude.{IfOk, unwrap_or}
use Rattle.std.proofs.lemmas.List.{append-nil}
use Rattle.wasm_bytes.specs.Reading.{whole}
use Rattle.wasm_syntax.specs.declared.host.Reply.{Reply}
use Rattle.wasm_syntax.specs.declared.host.Served.{Served}
use Rattle.wasm_syntax.specs.declared.module.ModuleParts.{ModuleParts as Module}
use Rattle.wasm_syntax.specs.Module.{Program, IsModule}
use Rattle.wasm_syntax.specs.Valid.{Valid}
use Rattle.wasm_syntax.specs.Machine.{Engine}
use Rattle.wasm_syntax.specs.Run.{Outcome as RunOutcome, engine, invoked, start_world}
use Rattle.machine_basics.specs.calls.Traps.{trap_code}
use Rattle.machine_steps.specs.Places.{Place, invocation_places}
use Rattle.machine_steps.specs.calls.Tallies.{Counts, Counted}
use Rattle.host_devices.specs.Given.{replies_of, unfitting}
use Rattle.machine_hosted.specs.calls.Settings.{world_of}
use Rattle.machine_hosted.specs.calls.Answers.{HasCause, given_steps}
use Rattle.machine_hosted.specs.calls.Watching.{IsCount, invocation_placing}
use Rattle.machine_hosted.specs.calls.Invocations.{HasOutcome, InvocationCame, invoking}
use Rattle.machine_hosted.specs.declared.answer.RunEnd.{RunEnd}
use Rattle.machine_hosted.specs.declared.answer.RunEnd.TheVariants.{Finished, Trapped, NoReply, BadReply, DeviceFault, FuelSpent, NoMemory}
use Rattle.wasm_machine.specs.calls.Instances.{State, IsNew, IsOf, Invoked}
use Rattle.wasm_machine.specs.calls.Watching.{Seen}
use Rattle.host_set.specs.Sets.{DeviceState, names, count_of}
use Rattle.host_set.specs.calls.Hosting.{HostsState, origin_of, calls_of, is_used_up, serves}
use Rattle.commands.specs.Texts.{ended}
use Rattle.commands.specs.declared.outcome.Outcome.{Outcome}
use Rattle.commands.specs.declared.status.Status.TheVariants as status
use Rattle.run_words.specs.declared.cover.CoverWords.{CoverWords}
use Rattle.commands.specs.Lines.{kind_line}
use Rattle.run_session.specs.Given.{given_to}
use Rattle.run_session.specs.calls.Answers.{answer_line}
use Rattle.run_session.specs.calls.Sessions.{EndsIn}
use Rattle.run_command.specs.Hosting.{start_text}
use Rattle.run_command.specs.AllRan.{end_text}
use Rattle.run_command.specs.RunAnswer.{hosting, Logs, StartsOr, IfRefusal}
use Rattle.run_command.specs.calls.Begun.{HasBegun}
use Rattle.commands.specs.declared.given.Given.TheVariants as givens
use Rattle.run_command.proofs.Answering.{HostFacts, line_is, uses_up, has_failed}
use Rattle.run_command.proofs.Beginning.{starts_alike}
use Rattle.run_command.proofs.Hostings.{Began, GaveBack, host_facts, by_script, logs, rose_on}
use Rattle.debug_frames.specs.Information.{SourceInformation, information}
use Rattle.cover_command.specs.SourceLines.{source_line}
use Rattle.cover_command.specs.CoverAnswer.{covered_run, covered_places, finished_line, Tells, EndsAs, CoversTo, ModuleAnswer, called}
use Rattle.cover_command.specs.Stops.{CoversFor}
use Rattle.cover_command.specs.inner.Running.{Came, TellsCounts, AnswersEnd}
use Rattle.cover_command.specs.inner.Steps.{IsAnswered, ModuleStops}
use Rattle.machine_hosted.proofs.WatchLaws.{admits_none}
use Rattle.run_session.proofs.Invocations.{all_given as all_steps}
use Rattle.machine_hosted.proofs.Fewer.{itself}
use Rattle.run_session.proofs.Ends.{line_ends}

-- ---- numbers of steps

few_steps : (a : RunEnd) (fuel steps : ℕ) → steps ≤ fuel → given_steps a fuel steps ≤ fuel
few_steps (Finished v) fuel steps le = itself fuel
few_steps (Trapped kind) fuel steps le = itself fuel
few_steps NoReply fuel steps le = itself fuel
few_steps (BadReply reply) fuel steps le = itself fuel
few_steps (DeviceFault device) fuel steps le = itself fuel
few_steps FuelSpent fuel steps le = itself fuel
few_steps NoMemory fuel steps le = le

count_is : (a : RunEnd) (fuel steps count : ℕ) → (a ≡ NoMemory → ⊥) → IsCount a fuel steps count → count ≡ steps
count_is (Finished v) fuel steps count some is = is
count_is (Trapped kind) fuel steps count some is = is
count_is NoReply fuel steps count some is = is
count_is (BadReply reply) fuel steps count some is = is
count_is (DeviceFault device) fuel steps count some is = is
count_is FuelSpent fuel steps count some is = is
count_is NoMemory fuel steps count some is = absurd (some refl)

made_steps : (fuel given left made before now count : ℕ) → given ≡ fuel → left ≡ given - made → made ≤ fuel → now ≡ before + made → before ≡ 0 → count ≡ now - before → count ≡ fuel - left
made_steps fuel given left made before now count all left_is within steps none is = omega (arith, all, left_is, within, steps, none, is)

fewer : (fuel left n : ℕ) → n ≡ fuel - left → fuel < 2 ^ 64 → n < 2 ^ 64
fewer fuel left n is few = omega (arith, is, few)

-- ---- the end

had_memory : (lines : SourceInformation) (m : Module) (t : Counts) (given : ℕ) (a : RunEnd) (o : Outcome) → AnswersEnd lines m t given a o → a ≡ NoMemory → ⊥
had_memory lines m t given (Finished v) o x e = absurd cc
had_memory lines m t given (Trapped kind) o x e = absurd cc
had_memory lines m t given NoReply o x e = absurd cc
had_memory lines m t given (BadReply reply) o x e = absurd cc
had_memory lines m t given (DeviceFault device) o x e = absurd cc
had_memory lines m t given FuelSpent o x e = absurd cc
had_memory lines m t given NoMemory o x e = x

no_refusal : (lines : SourceInformation) (m : Module) (t : Counts) (given : ℕ) (a : RunEnd) (o : Outcome) (P : Type 0) → AnswersEnd lines m t given a o → IfRefusal o.status P
no_refusal lines m t given (Finished v) o P x = subst (λ s. IfRefusal s P) (sym x.0) tt
no_refusal lines m t given (Trapped kind) o P x = subst (λ s. IfRefusal s P) (sym x.0) tt
no_refusal lines m t given FuelSpent o P x = subst (λ s. IfRefusal s P) (sym x.0) tt
no_refusal lines m t given NoReply o P x = subst (λ (y : Outcome). IfRefusal y.status P) (sym x) tt
no_refusal lines m t given (BadReply reply) o P x = subst (λ (y : Outcome). IfRefusal y.status P) (sym x) tt
no_refusal lines m t given (DeviceFault device) o P x = subst (λ (y : Outcome). IfRefusal y.status P) (sym x) tt
no_refusal lines m t given NoMemory o P x = absurd x

pub never_fault : (lines : SourceInformation) (m : Module) (t : Counts) (given : ℕ) (a : RunEnd) (o : Outcome) → AnswersEnd lines m t given a o → o.status ≡ status.FileFault → ⊥
never_fault lines m t given (Finished v) o x e = let clash : status.Done ≡ status.FileFault = sym x.0 ∙ e in absurd cc
never_fault lines m t given (Trapped kind) o x e = let clash : status.Done ≡ status.FileFault = sym x.0 ∙ e in absurd cc
never_fault lines m t given FuelSpent o x e = let clash : status.Done ≡ status.FileFault = sym x.0 ∙ e in absurd cc
never_fault lines m t given NoReply o x e = let clash : status.HostStopped ≡ status.FileFault = sym (ap (λ (y : Outcome). y.status) x) ∙ e in absurd cc
never_fault lines m t given (BadReply reply) o x e = let clash : status.HostStopped ≡ status.FileFault = sym (ap (λ (y : Outcome). y.status) x) ∙ e in absurd cc
never_fault lines m t given (DeviceFault device) o x e = let clash : status.HostStopped ≡ status.FileFault = sym (ap (λ (y : Outcome). y.status) x) ∙ e in absurd cc
never_fault lines m t given NoMemory o x e = x

pub never_want : (lines : SourceInformation) (m : Module) (t : Counts) (given : ℕ) (a : RunEnd) (o : Outcome) → AnswersEnd lines m t given a o → o.status ≡ status.NoMemory → ⊥
never_want lines m t given (Finished v) o x e = let clash : status.Done ≡ status.NoMemory = sym x.0 ∙ e in absurd cc
never_want lines m t given (Trapped kind) o x e = let clash : status.Done ≡ status.NoMemory = sym x.0 ∙ e in absurd cc
never_want lines m t given FuelSpent o x e = let clash : status.Done ≡ status.NoMemory = sym x.0 ∙ e in absurd cc
never_want lines m t given NoReply o x e = let clash : status.HostStopped ≡ status.NoMemory = sym (ap (λ (y : Outcome). y.status) x) ∙ e in absurd cc
never_want lines m t given (BadReply reply) o x e = let clash : status.HostStopped ≡ status.NoMemory = sym (ap (λ (y : Outcome). y.status) x) ∙ e in absurd cc
never_want lines m t given (DeviceFault device) o x e = let clash : status.HostStopped ≡ status.NoMemory = sym (ap (λ (y : Outcome). y.status) x) ∙ e in absurd cc
never_want lines m t given NoMemory o x e = x

-- the same of a call's result
pub in_result : {E : Type 0} (P Q : Outcome → Type 0) → ((o : Outcome) → P o → Q o) → (r : Result Outcome E) → IfOk r P → IfOk r Q
in_result P Q to (Err e) x = tt
in_result P Q to (Ok o) x = to o x

-- ---- who served the imports

calls_none : (h : HostsState) → h.served ≡ [] → (calls_of h).served ≡ []
calls_none h none = ap (λ l. map (λ (s : List ℕ × Served). s.1) l) none

same_length : (l : List (List ℕ × Served)) → length (map (λ (s : List ℕ × Served). s.1) l) ≡ length l
same_length [] = refl
same_length (s ∷ ss) = ap (λ n. suc n) (same_length ss)

-- what was given behind nothing is all that was served
all_of : (old new given : List Served) → old ≡ [] → new ≡ old ++ given → new ≡ given
all_of old new given none grew = grew ∙ ap (λ l. l ++ given) none

-- ---- the invocation on a new instance

module _ (w : CoverWords) (s : State) (p : Program) (of_module : p.module_ ≡ s.module_) (new : IsNew s.module_ s) (f : ℕ) where
  abbrev M : Engine
  M = engine p false w.depth

  started : (replies : List Reply) → world_of s.machine replies ≡ start_world p.module_ replies
  started replies = new.world replies ∙ ap (λ (m : Module). start_world m replies) (sym of_module)

  due : s.due ≡ p.module_.start
  due = new.due ∙ ap (λ (m : Module). m.start) (sym of_module)

  as_run : (replies : List Reply) (n : ℕ) → invoking M s.due f w.called.args (world_of s.machine []) replies n ≡ covered_run p w f replies n
  as_run replies n = ap (λ d. invoked M d n f w.called.args (world_of s.machine replies)) due ∙ ap (λ v. invoked M p.module_.start n f w.called.args v) (started replies)

  as_places : (replies : List Reply) (n : ℕ) → invocation_placing M s.due f w.called.args (world_of s.machine []) replies n ≡ covered_places p w f replies n
  as_places replies n = ap (λ d. invocation_places M d n f w.called.args (world_of s.machine replies)) due ∙ ap (λ v. invocation_places M p.module_.start n f w.called.args v) (started replies)

  none_left : (replies : List Reply) → replies ++ [] ≡ replies
  none_left replies = append-nil replies

-- ---- what came of it

module _ (before after : List DeviceState) (script : Option (List Reply)) (w : CoverWords) (s s' : State) (h0 h1 : HostsState) (a : RunEnd) (t t' : Counts)
    (whole : IsModule s.module_) (new : IsNew s.module_ s) (began : Began s.module_.imports before script h0) (same : origin_of h1 ≡ origin_of h0) (back : GaveBack h1 after)
    (came : Came w false (is_used_up h1) s s' a t t' (calls_of h0) (calls_of h1)) where
  abbrev p : Program
  p = record { module_ = s.module_; trees = whole.trees }

  is_of : IsOf s p
  is_of = record { of_module = refl; writes_out = whole.write }

  abbrev f : ℕ
  f = came.0

  inv : Invoked p false w.depth (is_used_up h1) f w.called.args w.fuel s s' a (calls_of h0) (calls_of h1)
  inv = (came.2 p is_of).0

  seen : Seen Counted p false w.depth f w.called.args w.fuel s s' a t t' (calls_of h0) (calls_of h1)
  seen = (came.2 p is_of).1

  abbrev given : List Served
  given = inv.came.asked.given

  r : InvocationCame p s.prepared.codes.items (is_used_up h1) (invoking (engine p false w.depth) s.due f w.called.args (world_of s.machine [])) w.fuel inv.came.asked a inv.made s'.ready s'.entered s'.machine []
  r = inv.came.came [] (admits_none a)

  abbrev within_steps : ℕ
  within_steps = given_steps a w.fuel inv.made

  runs_within : r.ran ≡ covered_run p w f (replies_of given) within_steps
  runs_within = sym r.gives ∙ as_run w s p refl new f (replies_of given ++ []) within_steps ∙ ap (λ l. covered_run p w f l within_steps) (append-nil (replies_of given))

  abbrev left : List Reply
  left = drop h1.given (unwrap_or script [])

  -- ---- where memory was wanting

  covers_for : CoversFor w s.module_ script before after
  covers_for = record {
    program = p;
    of_module = refl;
    writes_out = whole.write;
    function = f;
    exported = came.1;
    fuel = within_steps;
    within = few_steps a w.fuel inv.made r.within;
    given = given;
    all_given = r.served ∙ ap given_to runs_within;
    left = left;
    by_script = by_script s.module_.imports before script h0 h1 began same after back given inv.came.grew.served;
    logs = logs s.module_ before after script h0 h1 began same back given inv.came.grew.served;
  }

  -- ---- where it sufficed

  module _ (some : a ≡ NoMemory → ⊥) (cause : HasCause a (count_of h0.devices) (count_of h1.devices)) where
    runs : r.ran ≡ covered_run p w f (replies_of given) w.fuel
    runs = runs_within ∙ ap (λ n. covered_run p w f (replies_of given) n) (all_steps a w.fuel inv.made some)

    abbrev line : List ℕ
    line = answer_line a (length given) 0

    ends : EndsIn p (is_used_up h1) (count_of h0.devices) (count_of h1.devices) (length given) 0 r.ran.outcome line
    ends = line_ends p (is_used_up h1) (count_of h0.devices) (count_of h1.devices) (length given) 0 a r.ran.outcome r.outcome some cause

    facts : HostFacts (names before) (is_used_up h1) left (count_of h0.devices) (count_of h1.devices)
    facts = host_facts s.module_.imports before script h0 h1 began same false

    fitted : length given ≡ length r.ran.served + length (unfitting r.ran.outcome)
    fitted = ap length r.served ∙ length-append r.ran.served (unfitting r.ran.outcome)

    line_as : line ≡ end_text (names before) s.module_.imports (length r.ran.served) 0 r.ran.outcome
    line_as = line_is (names before) p s.module_.imports (is_used_up h1) left (count_of h0.devices) (count_of h1.devices) (length given) (length r.ran.served) 0 r.ran.outcome line refl facts fitted ends

    -- ---- its steps

    all_steps_made : seen.count ≡ w.fuel - r.ran.left
    all_steps_made =
        made_steps w.fuel within_steps r.ran.left inv.made s.steps s'.steps seen.count (all_steps a w.fuel inv.made some) r.left r.within inv.steps new.steps
        (count_is a w.fuel (s'.steps - s.steps) seen.count some seen.is)

    same_given : seen.asked.given ≡ given
    same_given =
        let none = calls_none h0 began.none_served in
        sym (all_of (calls_of h0).served (calls_of h1).served seen.asked.given none seen.grew.served) ∙ all_of (calls_of h0).served (calls_of h1).served given none inv.came.grew.served

    abbrev places : List (Option Place)
    places = covered_places p w f (replies_of given) (w.fuel - r.ran.left)

    seen_places : invocation_placing (engine p false w.depth) s.due f w.called.args (world_of s.machine []) (replies_of seen.asked.given ++ []) seen.count ≡ places
    seen_places =
        as_places w s p refl new f (replies_of seen.asked.given ++ []) seen.count
        ∙ ap (λ l. covered_places p w f l seen.count) (append-nil (replies_of seen.asked.given))
        ∙ ap (λ l. covered_places p w f (replies_of l) seen.count) same_given
        ∙ ap (λ n. covered_places p w f (replies_of given) n) all_steps_made

    as_many : length places ≡ w.fuel - r.ran.left
    as_many = ap length (sym seen_places) ∙ seen.made [] ∙ all_steps_made

    counted : Counted s.module_ t [] → Counted s.module_ t' places
    counted none = subst (λ l. Counted s.module_ t' l) seen_places (seen.sees [] [] none)

    -- ---- the answer

    module _ (lines : SourceInformation) (none : Counted s.module_ t []) (small : w.fuel < 2 ^ 64) (o : Outcome) where
      told_as : (ending : List ℕ) → TellsCounts lines s.module_ t' ending o → Tells ending (map (source_line lines s.module_) places) o
      told_as ending x = (x.0, x.1 places (counted none) (fewer w.fuel r.ran.left (length places) as_many small))

      stopped_as : (n : ℕ) → n ≡ length given → o ≡ ended status.HostStopped (answer_line a n 0) → o ≡ ended status.HostStopped (end_text (names before) s.module_.imports (length r.ran.served) 0 r.ran.outcome)
      stopped_as n is x = x ∙ ap (λ k. ended status.HostStopped (answer_line a k 0)) is ∙ ap (λ text. ended status.HostStopped text) line_as

      abbrev As : RunOutcome → Type 0
      As out = EndsAs (names before) s.module_.imports (length r.ran.served) (map (source_line lines s.module_) places) out o

      abbrev Stopped : RunOutcome → Type 0
      Stopped out = o ≡ ended status.HostStopped (end_text (names before) s.module_.imports (length r.ran.served) 0 out)

  answer_as : (some : a ≡ NoMemory → ⊥) (cause : HasCause a (count_of h0.devices) (count_of h1.devices)) (lines : SourceInformation) (none : Counted s.module_ t []) (small : w.fuel < 2 ^ 64) (o : Outcome) (n : ℕ) → n ≡ length given
      → (b : RunEnd) → a ≡ b → HasOutcome p (is_used_up h1) b r.ran.outcome → AnswersEnd lines s.module_ t' n b o → As some cause lines none small o r.ran.outcome
  answer_as some cause lines none small o n is (Finished v) at out x = subst (λ k. As some cause lines none small o k) (sym out) (told_as some cause lines none small o (finished_line v) x)
  answer_as some cause lines none small o n is (Trapped kind) at out x = subst (λ k. As some cause lines none small o k) (sym out) (told_as some cause lines none small o (kind_line (trap_code kind)) x)
  answer_as some cause lines none small o n is FuelSpent at out x = subst (λ k. As some cause lines none small o k) (sym out) (told_as some cause lines none small o _ x)
  answer_as some cause lines none small o n is NoReply at (call, out, up) x =
      subst (λ k. As some cause lines none small o k) (sym out)
      (subst (λ k. Stopped some cause lines none small o k) out (stopped_as some cause lines none small o n is (subst (λ b. o ≡ ended status.HostStopped (answer_line b n 0)) (sym at) x)))
  answer_as some cause lines none small o n is (DeviceFault device) at (call, out, named) x =
      subst (λ k. As some cause lines none small o k) (sym out)
      (subst (λ k. Stopped some cause lines none small o k) out (stopped_as some cause lines none small o n is (subst (λ b. o ≡ ended status.HostStopped (answer_line b n 0)) (sym at) x)))
  answer_as some cause lines none small o n is (BadReply reply) at (call, out) x =
      subst (λ k. As some cause lines none small o k) (sym out)
      (subst (λ k. Stopped some cause lines none small o k) out (stopped_as some cause lines none small o n is (subst (λ b. o ≡ ended status.HostStopped (answer_line b n 0)) (sym at) x)))
  answer_as some cause lines none small o n is NoMemory at out x = absurd x

  given_is : length h1.served ≡ length given
  given_is = sym (same_length h1.served) ∙ ap length (all_of (calls_of h0).served (calls_of h1).served given (calls_none h0 began.none_served) inv.came.grew.served)

  covers_to : (lines : SourceInformation) → HasCause a (count_of h0.devices) (count_of h1.devices) → Counted s.module_ t [] → w.fuel < 2 ^ 64 → (o : Outcome) (n : ℕ) → n ≡ length h1.served → AnswersEnd lines s.module_ t' n a o
      → CoversTo before after script w lines s.module_ given o
  covers_to lines cause none small o n is x =
      let some = had_memory lines s.module_ t' n a o x in
      record {
        program = p;
        of_module = refl;
        writes_out = whole.write;
        function = f;
        exported = came.1;
        ran = r.ran;
        runs = runs some cause;
        all_given = r.served;
        left = left;
        by_script = by_script s.module_.imports before script h0 h1 began same after back given inv.came.grew.served;
        used_up = uses_up (hosting before script false) p s.module_ (is_used_up h1) left (count_of h0.devices) (count_of h1.devices) (length given) 0 r.ran.outcome (line some cause) refl (facts some cause) (ends some cause);
        failed = has_failed before after p s.module_ (is_used_up h1) left (count_of h0.devices) (count_of h1.devices) (length given) 0 r.ran.outcome (line some cause) refl (facts some cause)
            (λ device. rose_on before after h0.devices h1.devices device began.devices_are back.devices) (ends some cause);
        places = places some cause;
        placed = refl;
        all_placed = as_many some cause;
        answer = answer_as some cause lines none small o n (is ∙ given_is) a refl r.outcome x;
      }

  given_logs : Logs s.module_ given before after
  given_logs = logs s.module_ before after script h0 h1 began same back given inv.came.grew.served

-- ---- as the code comes to it

module _ (before after : List DeviceState) (script : Option (List Reply)) (w : CoverWords) (m : Module) (s s' : State) (h0 h1 : HostsState) (a : RunEnd) (t t' : Counts)
    (whole : IsModule m) (valid : Valid m) (begun : HasBegun (λ i type. serves h0 i) m (called w) (givens.Value s)) (began : Began m.imports before script h0) (same : origin_of h1 ≡ origin_of h0) (back : GaveBack h1 after)
    (came : Came w false (is_used_up h1) s s' a t t' (calls_of h0) (calls_of h1)) where
  starts : start_text (hosting before script false) m (called w) ≡ None
  starts = sym (starts_alike m h0 before script false valid began.devices_are began.script_is (called w)) ∙ begun.0

  new_of : IsNew m s
  new_of = begun.2

  -- of the instance's own module
  abbrev AtModule : Module → Type 0
  AtModule k = IsModule k × IsNew k s × Began k.imports before script h0

  at_own : AtModule s.module_
  at_own = subst AtModule (sym new_of.module_is) (whole, new_of, began)

  pub ready_stops : ModuleStops before after w m script
  ready_stops = (starts, subst (λ (k : Module). CoversFor w k script before after) new_of.module_is (covers_for before after script w s s' h0 h1 a t t' at_own.0 at_own.1 at_own.2 same back came))

  abbrev Told : List ℕ → Outcome → Module → Type 0
  Told bytes o k = (given : List Served) × CoversTo before after script w (information bytes k.customs) k given o × Logs k given before after

  told_own : (bytes : List ℕ) → HasCause a (count_of h0.devices) (count_of h1.devices) → Counted s.module_ t [] → w.fuel < 2 ^ 64 → (o : Outcome) (n : ℕ) → n ≡ length h1.served
      → AnswersEnd (information bytes s.module_.customs) s.module_ t' n a o → Told bytes o s.module_
  told_own bytes cause none small o n is x = (
    _,
    covers_to before after script w s s' h0 h1 a t t' at_own.0 at_own.1 at_own.2 same back came (information bytes s.module_.customs) cause none small o n is x,
    given_logs before after script w s s' h0 h1 a t t' at_own.0 at_own.1 at_own.2 same back came,
  )

  pub ready_told : (bytes : List ℕ) → HasCause a (count_of h0.devices) (count_of h1.devices) → Counted m t [] → w.fuel < 2 ^ 64 → (o : Outcome) (n : ℕ) → n ≡ length h1.served
      → AnswersEnd (information bytes m.customs) m t' n a o → IsAnswered (λ given. ModuleAnswer before after w given script bytes m) before after o
  ready_told bytes cause none small o n is x =
      let told : Told bytes o m = subst (Told bytes o) new_of.module_is
      (told_own bytes cause (subst (λ (k : Module). Counted k t []) (sym new_of.module_is) none) small o n is (subst (λ (k : Module). AnswersEnd (information bytes k.customs) k t' n a o) (sym new_of.module_is) x)) in
      record {
        given = told.0;
        answer = subst (λ c. StartsOr c (CoversTo before after script w (information bytes m.customs) m told.0 o × Logs m told.0 before after) o) (sym starts) (told.1, told.2);
        untouched = no_refusal (information bytes m.customs) m t' n a o ((after ≡ before) × (told.0 ≡ [])) x;
      }

abbrev no_calls : List Served
no_calls = []

-- nothing was run, and the devices were given back
pub refused_told : (before after : List DeviceState) (script : Option (List Reply)) (w : CoverWords) (bytes : List ℕ) (m : Module) (h : HostsState) (o : Outcome)
    → Valid m → Began m.imports before script h → after ≡ h.devices → HasBegun (λ i type. serves h i) m (called w) (givens.Refused o)
    → IsAnswered (λ given. ModuleAnswer before after w given script bytes m) before after o
refused_told before after script w bytes m h o valid began back (cause, starts, is) = record {
  given = [];
  answer = subst (λ c. StartsOr c (CoversTo before after script w (information bytes m.customs) m [] o × Logs m [] before after) o) (sym (sym (starts_alike m h before script false valid began.devices_are began.script_is (called w)) ∙ starts)) is;
  untouched = subst (λ (x : Outcome). IfRefusal x.status ((after ≡ before) × (no_calls ≡ []))) (sym is) (back ∙ began.devices_are, refl);
}

-- ---- the bytes
