-- An instance that is given more steps.
use Rattle.std.proofs.Common.{◌≡◌, ◌≢◌, ◌⊎◌, ℕ, ◌+◌, ◌-◌, ◌<◌, ◌≤◌, List, [], ◌++◌, length, take, drop, get_or, slice_get, inl, inr, refl, sym, ap, ap₂, subst, ◌∙◌, arith}
use Rattle.std.specs.Prelude.{true, false, min, Option, Some, None, Result, Ok, Err, IfOk, option_map}
use Rattle.std.specs.Option.{is_none}
use Rattle.std.proofs.lemmas.List.{take-append-drop, take-take, drop-take, drop-drop, drop_all, length-take, length-drop, length-map, map-append}
use Rattle.std.proofs.lemmas.Option.{slice_get_cases}
use Rattle.wasm_syntax.specs.declared.parts.Import.{Import}
use Rattle.wasm_syntax.specs.declared.parts.FuncType.{FuncType}
use Rattle.wasm_syntax.specs.declared.host.Reply.{Reply}
use Rattle.wasm_syntax.specs.declared.host.Served.{Served}
use Rattle.wasm_syntax.specs.declared.module.ModuleParts.{ModuleParts as Module}
use Rattle.wasm_syntax.specs.Module.{Program, IsModule}
use Rattle.wasm_syntax.specs.Run.{Ran, engine}
use Rattle.host_devices.specs.Given.{replies_of}
use Rattle.host_devices.specs.calls.HostSides.{Origin}
use Rattle.host_set.specs.calls.Scripting.{ScriptState, calls_of, origin_of, is_used_up}
use Rattle.machine_hosted.specs.declared.answer.RunEnd.{RunEnd}
use Rattle.machine_hosted.specs.declared.answer.RunEnd.TheVariants.{Finished, Trapped, NoReply, BadReply, DeviceFault, FuelSpent, NoMemory}
use Rattle.machine_hosted.specs.calls.Settings.{HostServes, world_of}
use Rattle.machine_hosted.specs.calls.Hosted.{replying}
use Rattle.machine_hosted.specs.calls.Invocations.{InvocationCame, invoking}
use Rattle.machine_hosted.specs.calls.Answers.{AdmitsReplies, HasCause}
use Rattle.machine_hosted.specs.calls.Courses.{Course, CameBy, longer}
use Rattle.machine_code.specs.declared.prepared.Prepared.{Prepared}
use Rattle.wasm_machine.specs.declared.invocation.End.{End}
use Rattle.wasm_machine.specs.declared.invocation.LastInvocation.{LastInvocation}
use Rattle.wasm_machine.specs.calls.Instances as instances
use Rattle.wasm_machine.specs.calls.Instances.{State, IsSpent, StoppedBy, Resumed, kept_end, last_of}
use Rattle.replay.specs.Replays.{Recording, IsOf}
use Rattle.replay.proofs.Answers.{had}
use Rattle.replay.proofs.Spent.{invoked_spends}
use Rattle.replay.specs.inner.Reached.{IfHad, HasEnded, kept, CameTo, Reached, Waits}
use Rattle.machine_hosted.proofs.WatchLaws.{admits_none}
use Rattle.pm_text.proofs.Lists.{some_is}

-- ---- replies

take_then : {A : Type 0} (a b : ℕ) (rs : List A) → take a rs ++ take b (drop a rs) ≡ take (a + b) rs
take_then a b rs =
    let le : a ≤ a + b = omega arith in
    ap₂ (λ xs ys. xs ++ ys) (sym (take-take a (a + b) rs le)) (sym (drop-take a b rs)) ∙ take-append-drop a (take (a + b) rs)

none_left : (rs : List Reply) (i : ℕ) → is_none (slice_get rs i) ≡ true → drop i rs ≡ []
none_left rs i e = by_case (slice_get_cases rs i).1
  where
    by_case : ((x : Reply) × (i < length rs) × (slice_get rs i ≡ Some x) × (get_or rs i x ≡ x)) ⊎ ((length rs ≤ i) × (slice_get rs i ≡ None)) → drop i rs ≡ []
    by_case (inl h) = let z : false ≡ true = ap (λ (o : Option Reply). is_none o) (sym h.2) ∙ e in absurd (cc)
    by_case (inr h) = drop_all i rs h.0

no_rise : (name : List ℕ) → HasCause (DeviceFault name) (λ n. 0) (λ n. 0) → ⊥
no_rise name h = omega (arith, h)

-- ---- the host side of a call of `resume`

-- a script from one of the replies on, before and behind a call, which gave so many
pub record Scripted (x : Recording) (next count : ℕ) (old new : ScriptState) : Type 0 where
  pub begun : old ≡ record { imports = x.module_.imports; replies = x.replies; first = next; calls = [] }
  pub origin : origin_of new ≡ origin_of old
  pub counted : count ≡ length (calls_of new).served
  pub given : replies_of (calls_of new).served ≡ take count (drop new.first new.replies)
  pub left : is_used_up new ≡ is_none (slice_get (drop new.first new.replies) count)

-- it serves all imports of the module
pub script_serves : (x : Recording) (next : ℕ) (old : ScriptState) → old ≡ record { imports = x.module_.imports; replies = x.replies; first = next; calls = [] } → (m : Module) → m ≡ x.module_ → HostServes (origin_of old) (λ (i : Import) (t : FuncType). true) m
script_serves x next old begun m same = record {
  knows = λ f i there.
      ap (λ (o : List Import). slice_get o f) (ap (λ (s : ScriptState). s.imports) begun ∙ sym (ap (λ (k : Module). k.imports) same)) ∙ there;
  serves = λ f i type there typed. refl;
}

module _ (x : Recording) (next count : ℕ) (old new : ScriptState) (h : Scripted x next count old new) where
  same_replies : drop new.first new.replies ≡ drop next x.replies
  same_replies =
      let e : Some (drop new.first new.replies) ≡ Some (drop old.first old.replies) = ap (λ (o : Origin). o.script) h.origin in
      some_is e ∙ ap (λ (s : ScriptState). drop s.first s.replies) h.begun

  pub taken : replies_of (calls_of new).served ≡ take count (drop next x.replies)
  taken = h.given ∙ ap (take count) same_replies

  pub count_within : next ≤ length x.replies → next + count ≤ length x.replies
  count_within le =
      let all : count ≡ length (take count (drop next x.replies)) = h.counted ∙ sym (length_replies (calls_of new).served) ∙ ap (λ (rs : List Reply). length rs) taken in
      let few : length (take count (drop next x.replies)) ≡ min count (length (drop next x.replies)) = length-take count (drop next x.replies) in
      let rest : length (drop next x.replies) ≡ length x.replies - next = length-drop next x.replies in
      omega (arith, all, few, rest, le)
    where
      length_replies : (ss : List Served) → length (replies_of ss) ≡ length ss
      length_replies ss = length-map ss (λ s. s.reply)

  pub used_up_is : is_used_up new ≡ true → drop (next + count) x.replies ≡ []
  used_up_is e = sym (drop-drop count next x.replies) ∙ none_left (drop next x.replies) count (ap (λ (rs : List Reply). is_none (slice_get rs count)) (sym same_replies) ∙ sym h.left ∙ e)

  pub nothing_before : (calls_of old).served ≡ []
  nothing_before = ap (λ (s : ScriptState). (calls_of s).served) h.begun

-- ---- one call

-- what is known behind a call of `resume`
pub record After (x : Recording) (next count steps : ℕ) (old new : ScriptState) (s s' : State) (answer : RunEnd) : Type 0 where
  pub scripted : Scripted x next count old new
  pub came : (p : Program) (l : LastInvocation) (course : Course) → instances.IsOf s p → s.last ≡ Some l → StoppedBy s l p course → Resumed p (λ i. is_used_up new) l course steps s s' answer (calls_of old) (calls_of new)
  pub last : (l : LastInvocation) → s.last ≡ Some l → s'.last ≡ last_of l.entry l.args x.depth false answer
  pub cause : HasCause answer (λ name. 0) (λ name. 0)
  pub module_ : s'.module_ ≡ s.module_
  pub prepared : s'.prepared ≡ s.prepared

-- ---- an instance that waits for steps

-- as `resume` asks for it
pub waits_spent : (x : Recording) (n next : ℕ) (s : State) → Waits x n next s → (depth : ℕ) → depth ≡ x.depth → IsSpent s depth false
waits_spent x n next s w depth same = record {
  entry = w.entry;
  args = x.args;
  last_is = w.last ∙ sym (ap (λ o. option_map (λ e. kept x w.entry e) o) w.end_is) ∙ ap (λ (d : ℕ). last_of w.entry x.args d false FuelSpent) (sym same);
}

-- ---- how many steps were made

abbrev pub program : (x : Recording) → IsModule x.module_ → Program
program x w = record { module_ = x.module_; trees = w.trees }

abbrev pub of_program : (x : Recording) (w : IsModule x.module_) → IsOf x (program x w)
of_program x w = record { of_module = refl; writes_out = w.write }

module _ (x : Recording) (n next : ℕ) (s : State) (w : Waits x n next s) where
  abbrev whole : Program
  whole = program x w.whole

  abbrev so_far : CameTo x w.entry n next FuelSpent w.end s whole
  so_far = w.came whole (of_program x w.whole)

  abbrev done : Course
  done = so_far.course

  abbrev so : InvocationCame whole s.prepared.codes.items so_far.used_up (invoking (engine whole false x.depth) done.start w.entry x.args (world_of done.before [])) done.fuel done.asked FuelSpent done.steps s.ready s.entered s.machine []
  so = so_far.came [] tt

  nothing_left : so.ran.left ≡ 0
  nothing_left =
      sym (ap (λ (e : Ran). e.left) so.gives)
      ∙ invoked_spends (engine whole false x.depth) done.start done.fuel w.entry x.args (replying (world_of done.before []) (replies_of done.asked.given ++ [])) (ap (λ (e : Ran). e.outcome) so.gives ∙ so.outcome)

  all_of_course : done.steps ≡ done.fuel
  all_of_course =
      let none = nothing_left in
      let left : so.ran.left ≡ done.fuel - done.steps = so.left in
      let within : done.steps ≤ done.fuel = so.within in
      omega (arith, none, left, within)

  -- all steps up to there
  pub all_made : s.steps ≡ n
  all_made = sym so_far.steps ∙ all_of_course ∙ so_far.fuel

  module _ (count steps : ℕ) (old new : ScriptState) (s' : State) (answer : RunEnd) (a : After x next count steps old new s s' answer) where
    abbrev then : Resumed whole (λ so. is_used_up new) (kept x w.entry w.end) done steps s s' answer (calls_of old) (calls_of new)
    then = a.came whole (kept x w.entry w.end) done (record { of_module = sym w.of_module; writes_out = w.whole.write }) w.last so_far.stopped

    within_all : done.steps + then.made ≤ done.fuel + steps
    within_all = (then.came [] (admits_none answer)).within

    pub made_within : s'.steps ≤ n + steps
    made_within =
        let all = within_all in
        let made : s'.steps ≡ s.steps + then.made = then.steps in
        let steps_are : done.steps ≡ s.steps = so_far.steps in
        let fuel_is : done.fuel ≡ n = so_far.fuel in
        omega (arith, all, made, steps_are, fuel_is)

    -- no more than those that were given
    pub few_more : s'.since_copy ≤ s.since_copy + steps
    few_more =
        let all = within_all in
        let made : s'.since_copy ≡ s.since_copy + then.made = then.since_copy in
        let whole = all_of_course in
        omega (arith, all, made, whole)

kept_at : (answer : RunEnd) → HasEnded answer → (end : End) × (kept_end answer ≡ Some end)
kept_at NoMemory h = absurd h
kept_at (Finished value) h = (_, refl)
kept_at (Trapped kind) h = (_, refl)
kept_at NoReply h = (_, refl)
kept_at (BadReply reply) h = (_, refl)
kept_at (DeviceFault name) h = absurd h
kept_at FuelSpent h = (_, refl)

module _ (x : Recording) (n next count steps : ℕ) (old new : ScriptState) (s s' : State) (answer : RunEnd) (w : Waits x n next s) (a : After x next count steps old new s s' answer) (ended : HasEnded answer) where
  abbrev end : End
  end = (kept_at answer ended).0

  same_last : s'.last ≡ Some (kept x w.entry end)
  same_last = a.last (kept x w.entry w.end) w.last ∙ ap (λ o. option_map (λ e. kept x w.entry e) o) (kept_at answer ended).1

  module _ (p : Program) (is : IsOf x p) where
    abbrev c : CameTo x w.entry n next FuelSpent w.end s p
    c = w.came p is

    abbrev r : Resumed p (λ i. is_used_up new) (kept x w.entry w.end) c.course steps s s' answer (calls_of old) (calls_of new)
    r = a.came p (kept x w.entry w.end) c.course (record { of_module = is.of_module ∙ sym w.of_module; writes_out = is.writes_out }) w.last c.stopped

    now_given : r.asked.given ≡ (calls_of new).served
    now_given = ap (λ (ss : List Served). ss ++ r.asked.given) (sym (nothing_before x next count old new a.scripted)) ∙ sym r.grew.served

    all_given : replies_of (c.course.asked.given ++ r.asked.given) ≡ take (next + count) x.replies
    all_given =
        map-append (λ (k : Served). k.reply) c.course.asked.given r.asked.given
        ∙ ap₂ (λ (xs ys : List Reply). xs ++ ys) c.given (ap (λ (ss : List Served). replies_of ss) now_given ∙ taken x next count old new a.scripted)
        ∙ take_then next count x.replies

    came_by : CameBy p s'.prepared.codes.items false x.depth w.entry x.args (λ i. is_used_up new) (longer c.course steps r.made r.asked) answer s'.ready s'.entered s'.machine
    came_by = subst (λ (q : Prepared). CameBy p q.codes.items false x.depth w.entry x.args (λ i. is_used_up new) (longer c.course steps r.made r.asked) answer s'.ready s'.entered s'.machine) (sym a.prepared) r.came

    came_to : CameTo x w.entry (n + steps) (next + count) answer end s' p
    came_to = record {
      course = longer c.course steps r.made r.asked;
      start = c.start;
      before = c.before;
      fuel = ap (λ (k : ℕ). k + steps) c.fuel;
      steps = ap (λ (k : ℕ). k + r.made) c.steps ∙ sym r.steps;
      given = all_given;
      stopped = r.stopped (kept x w.entry end) same_last;
      used_up = λ i. is_used_up new;
      came = came_by;
    }

  -- no reply is left where one is wanting
  admits : (b : RunEnd) → HasEnded b → CameBy (program x w.whole) s'.prepared.codes.items false x.depth w.entry x.args (λ i. is_used_up new) (longer (c (program x w.whole) (of_program x w.whole)).course steps (r (program x w.whole) (of_program x w.whole)).made (r (program x w.whole) (of_program x w.whole)).asked) b s'.ready s'.entered s'.machine → AdmitsReplies b (drop (next + count) x.replies)
  admits NoReply h came = used_up_is x next count old new a.scripted (came [] refl).outcome.2.2
  admits (Finished value) h came = tt
  admits (Trapped kind) h came = tt
  admits (BadReply reply) h came = tt
  admits (DeviceFault name) h came = absurd h
  admits FuelSpent h came = tt
  admits NoMemory h came = absurd h

  pub resumed : Reached x (n + steps) (next + count) answer s'
  resumed = record {
    whole = w.whole;
    starts = w.starts;
    of_module = a.module_ ∙ w.of_module;
    within = count_within x next count old new a.scripted w.within;
    ended = ended;
    admits = admits answer ended (came_by (program x w.whole) (of_program x w.whole));
    made = made_within x n next s w count steps old new s' answer a;
    entry = w.entry;
    exported = w.exported;
    end = end;
    end_is = (kept_at answer ended).1;
    last = same_last;
    came = came_to;
  }

-- behind want of memory nothing is said
pub advanced : (x : Recording) (n next count steps : ℕ) (old new : ScriptState) (s s' : State) (answer : RunEnd) → After x next count steps old new s s' answer → Waits x n next s → IfHad answer (Reached x (n + steps) (next + count) answer s')
advanced x n next count steps old new s s' NoMemory a w = tt
advanced x n next count steps old new s s' (Finished value) a w = resumed x n next count steps old new s s' (Finished value) w a tt
advanced x n next count steps old new s s' (Trapped kind) a w = resumed x n next count steps old new s s' (Trapped kind) w a tt
advanced x n next count steps old new s s' NoReply a w = resumed x n next count steps old new s s' NoReply w a tt
advanced x n next count steps old new s s' (BadReply reply) a w = resumed x n next count steps old new s s' (BadReply reply) w a tt
advanced x n next count steps old new s s' (DeviceFault name) a w = absurd (no_rise name a.cause)
advanced x n next count steps old new s s' FuelSpent a w = resumed x n next count steps old new s s' FuelSpent w a tt

-- the same of an answer that is handed on where memory sufficed
pub handed_on : {E : Type 0} (x : Recording) (next count steps : ℕ) (old new : ScriptState) (s s' : State) (answer : RunEnd) → After x next count steps old new s s' answer → (result : Result RunEnd E) → IfOk result (λ e. (e ≡ answer) × (answer ≢ NoMemory))
    → IfOk result (λ e. (n : ℕ) → Waits x n next s → Reached x (n + steps) (next + count) e s')
handed_on x next count steps old new s s' answer a (Err e) h = tt
handed_on x next count steps old new s s' answer a (Ok b) h = λ n w.
    subst (λ (e : RunEnd). Reached x (n + steps) (next + count) e s') (sym h.0) (had answer (Reached x (n + steps) (next + count) answer s') (advanced x n next count steps old new s s' answer a w) h.1)
