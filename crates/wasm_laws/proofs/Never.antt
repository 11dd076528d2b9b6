-- No run of a well-typed program gets stuck.
use Rattle.std.proofs.Common.{◌≡◌, ℕ, zero, suc, Bool, true, false, List, [], ◌∷◌, ◌++◌, if◌then◌else◌, Option, Some, None, option_map, option_to_list, refl, sym, ap, ap₂, ◌∙◌, subst}
use Rattle.wasm_syntax.specs.declared.value.Value.{Value}
use Rattle.wasm_syntax.specs.declared.parts.FuncType.{FuncType}
use Rattle.wasm_syntax.specs.Numbers.{types}
use Rattle.wasm_syntax.specs.Module.{Program, Function, imported, defined, function_at, type_at, declared_locals, same_types}
use Rattle.wasm_syntax.specs.declared.host.HostCall.{HostCall}
use Rattle.wasm_syntax.specs.declared.host.Reply.{Reply}
use Rattle.wasm_syntax.specs.declared.host.CollectorCall.{CollectorCall}
use Rattle.wasm_syntax.specs.Host.{World, Answer, replied, told, silent, misfit, answer}
use Rattle.wasm_syntax.specs.Machine.{Config, config, Engine, Stepped, next, ends, traps, no_reply, bad_reply, stuck, zeros, result_of, function_type, entered, host_call, step}
use Rattle.wasm_syntax.specs.Typing.{Types, body_context}
use Rattle.std.proofs.Common.{◌≢◌}
use Rattle.wasm_syntax.specs.Module.{function_export}
use Rattle.wasm_syntax.specs.Run.{run_on, run_steps, host_alone, run_alone, run_function, Outcome, got_stuck, Ran, ran_to, run_entry, go_on, invoked, engine, start_world, Cause, cause_of_entry, if_fits as entry_fits, goes_on, fresh, session, unless, run, cause_of, Invocation}
use Rattle.wasm_laws.specs.calls.Runs.{NoneStuck}
use Rattle.wasm_laws.proofs.Progress.{types_append, zero_types, WorldFine}
use Rattle.wasm_laws.proofs.Safe.{FramesFine, SteppedFine, Typed, step_fine, one_result, AnswerFine, answer_fine}
use Rattle.wasm_syntax.proofs.Types.{same_types_are}
use Rattle.std.specs.Option.{option_or}

-- a well-typed program whose instance starts well
pub record Startable (p : Program) : Type 0 where
  pub typed : Typed p
  pub world : (replies : List Reply) → WorldFine p.module_ (start_world p.module_ replies)
  pub exported : (name : List ℕ) (f : ℕ) → function_export p.module_ name ≡ Some f → (type : FuncType) × (type_at p.module_ f ≡ Some type)
  pub start : (s : ℕ) → p.module_.start ≡ Some s → type_at p.module_ s ≡ Some (record { params = []; results = [] })

abbrev Going : Program → Stepped → Type 0
Going p (next c) = Unit {0}
Going p (ends w vs co) = WorldFine p.module_ w
Going p (traps k c) = WorldFine p.module_ c.world
Going p (no_reply call c) = Unit {0}
Going p (bad_reply call r c) = Unit {0}
Going p stuck = ⊥

module _ (M : Engine) (typed : Typed M.program) where
  abbrev p : Program
  p = M.program

  on_ok : (n : ℕ) (r : Stepped) → SteppedFine p r → ((c : Config) → WorldFine p.module_ c.world → FramesFine p c.frames → Going p (run_steps M n c).what) → Going p (run_on M (run_steps M n) n r).what
  on_ok n (next c) h ih = ih c h.0 h.1
  on_ok n (ends w vs co) h ih = h
  on_ok n (traps k c) h ih = h
  on_ok n (no_reply call c) h ih = tt
  on_ok n (bad_reply call r c) h ih = tt
  on_ok n stuck h ih = h

  steps_ok : (n : ℕ) (c : Config) → WorldFine p.module_ c.world → FramesFine p c.frames → Going p (run_steps M n c).what
  steps_ok zero c wf ff = tt
  steps_ok (suc n) c wf ff = on_ok n (step M c) (step_fine M typed c wf ff) (steps_ok n)

  host_ok : (A : Answer) (call : HostCall) (w : World) (co : List CollectorCall) → WorldFine p.module_ w → AnswerFine p.module_ call.result A → Going p (host_alone A call w co)
  host_ok (replied w' v) call w co wf h = h.0
  host_ok (told k) call w co wf h = wf
  host_ok silent call w co wf h = tt
  host_ok (misfit reply) call w co wf h = tt

  alone_ok : (n : ℕ) (call : HostCall) (w : World) (co : List CollectorCall) → WorldFine p.module_ w → Going p (run_alone M n call w co).what
  alone_ok zero call w co wf = tt
  alone_ok (suc n) call w co wf = host_ok (answer M.collects p.module_ call w) call w co wf (answer_fine p.module_ call w wf M.collects)

  by_function : (n f : ℕ) (fn : Function) (args : List Value) (w : World) (co : List CollectorCall) → function_at p f ≡ Some fn → types args ≡ (function_type fn).params → WorldFine p.module_ w → Going p (run_function M n f (Some fn) args w co).what
  by_function n f (imported i type) args w co at ty wf = alone_ok n (host_call f i type args) w co wf
  by_function n f (defined b tree type) args w co at ty wf =
      let one = one_result type.results (typed.few f (defined b tree type) at) in
      let ls : types (args ++ zeros (declared_locals b.groups)) ≡ type.params ++ declared_locals b.groups = types_append args (zeros (declared_locals b.groups)) ∙ ap₂ (λ a c. a ++ c) ty (zero_types (declared_locals b.groups)) in
      let body_ : Types (record (body_context p.module_ type b) { labels = option_to_list (result_of type) ∷ [] }) tree.nodes [] (option_to_list (result_of type)) = subst (λ z. Types (record (body_context p.module_ type b) { labels = z ∷ [] }) tree.nodes [] z) one (typed.bodies f b tree type at) in
      steps_ok n (config (entered f b tree type args ∷ []) w co) wf (record { type = type; body = b; tree = tree; function_is = at; result = refl; locals_are = ls }, (body_, sym one, tt), tt)

  function_ok : (n f : ℕ) (type : FuncType) (args : List Value) (w : World) (co : List CollectorCall) → type_at p.module_ f ≡ Some type → types args ≡ type.params → WorldFine p.module_ w → Going p (run_function M n f (function_at p f) args w co).what
  function_ok n f type args w co tf ty wf =
      let fn = typed.functions f type tf in
      subst (λ q. Going p (run_function M n f q args w co).what) (sym fn.1) (by_function n f fn.0 args w co fn.1 (ty ∙ ap (λ t. t.params) (sym fn.2)) wf)

  abbrev Alive : Outcome → Type 0
  Alive got_stuck = ⊥
  Alive o = Unit {0}

-- ---- lists of invocations

module _ (p : Program) (s : Startable p) (collecting : Bool) (d : ℕ) where
  abbrev N : Engine
  N = engine p collecting d

  -- where the list goes on, the world is fine
  abbrev LastFine : Ran → Type 0
  LastFine r = Alive N s.typed r.outcome × ((w : World) → goes_on r.outcome r.entered ≡ true → WorldFine p.module_ (fresh r.last w))

  fresh_fine : (c : Config) (w : World) → WorldFine p.module_ c.world → WorldFine p.module_ (fresh (Some c) w)
  fresh_fine c w h = record { globals = h.globals; memory = h.memory; table = h.table }

  last_fine : (q : Bool) (x : Stepped) (left : ℕ) → Going p x → LastFine (ran_to q x left)
  last_fine q (next c) left h = (tt, λ w e. absurd (cc))
  last_fine q (ends w vs co) left h = (tt, λ w' e. fresh_fine (config [] w co) w' h)
  last_fine q (traps k c) left h = (tt, λ w e. fresh_fine c w h)
  last_fine q (no_reply call c) left h = (tt, λ w e. absurd (cc))
  last_fine q (bad_reply call r c) left h = (tt, λ w e. absurd (cc))
  last_fine q stuck left h = absurd h

  entry_last : (n f : ℕ) (type : FuncType) (args : List Value) (w : World) (co : List CollectorCall) → type_at p.module_ f ≡ Some type → types args ≡ type.params → WorldFine p.module_ w → LastFine (run_entry N n f args w co)
  entry_last n f type args w co tf ty wf = let e = run_function N n f (function_at p f) args w co in last_fine true e.what e.left (function_ok N s.typed n f type args w co tf ty wf)

  behind_last : (x : Stepped) (left f : ℕ) (type : FuncType) (args : List Value) → Going p x → type_at p.module_ f ≡ Some type → types args ≡ type.params → LastFine (go_on N x left f args)
  behind_last (next c) left f type args h tf ty = last_fine false (next c) left h
  behind_last (ends w vs co) left f type args h tf ty = entry_last left f type args w co tf ty h
  behind_last (traps k c) left f type args h tf ty = last_fine false (traps k c) left h
  behind_last (no_reply call c) left f type args h tf ty = last_fine false (no_reply call c) left h
  behind_last (bad_reply call r c) left f type args h tf ty = last_fine false (bad_reply call r c) left h
  behind_last stuck left f type args h tf ty = absurd h

  invoked_last : (st : Option ℕ) (n f : ℕ) (type : FuncType) (args : List Value) (w : World) → ((g : ℕ) → st ≡ Some g → type_at p.module_ g ≡ Some (record { params = []; results = [] })) → type_at p.module_ f ≡ Some type → types args ≡ type.params → WorldFine p.module_ w → LastFine (invoked N st n f args w)
  invoked_last None n f type args w hs tf ty wf = entry_last n f type args w [] tf ty wf
  invoked_last (Some g) n f type args w hs tf ty wf =
      let e = run_function N n g (function_at p g) [] w [] in
      behind_last e.what e.left f type args (function_ok N s.typed n g (record { params = []; results = [] }) [] w [] (hs g refl) refl wf) tf ty

  not_stuck : (o : Outcome) → Alive N s.typed o → o ≢ got_stuck
  not_stuck o h e = subst (Alive N s.typed) e h

  -- an invocation of a function of this type, in a world that is fine: it is not stuck, and leaves such a world where a list goes on
  pub invocation_alive : (st : Option ℕ) (n f : ℕ) (type : FuncType) (args : List Value) (w : World) → ((g : ℕ) → st ≡ Some g → type_at p.module_ g ≡ Some (record { params = []; results = [] })) → type_at p.module_ f ≡ Some type → types args ≡ type.params → WorldFine p.module_ w → ((invoked N st n f args w).outcome ≢ got_stuck) × ((w' : World) → goes_on (invoked N st n f args w).outcome (invoked N st n f args w).entered ≡ true → WorldFine p.module_ (fresh (invoked N st n f args w).last w'))
  invocation_alive st n f type args w hs tf ty wf =
      let x = invoked_last st n f type args w hs tf ty wf in
      (not_stuck (invoked N st n f args w).outcome x.0, x.1)

  abbrev Calls : List Invocation → Type 0
  Calls [] = Unit {0}
  Calls (i ∷ is) = (f : ℕ) × (function_export p.module_ i.name ≡ Some f) × (type : FuncType) × (type_at p.module_ f ≡ Some type) × (types i.args ≡ type.params) × Calls is

  session_fine : (is : List Invocation) (st : Option ℕ) (w : World) (n : ℕ) → ((g : ℕ) → st ≡ Some g → type_at p.module_ g ≡ Some (record { params = []; results = [] })) → Calls is → WorldFine p.module_ w → NoneStuck (session N is st w n)
  session_fine [] st w n hs cs wf = tt
  session_fine (i ∷ is) st w n hs cs wf =
      let x = invoked_last st n cs.0 cs.2 i.args w hs cs.3 cs.4 wf in
      let r = invoked N st n cs.0 i.args w in
      rw (cs.1, session) (not_stuck r.outcome x.0, rest_fine (goes_on r.outcome r.entered) refl (λ e. session_fine is None (fresh r.last w) r.left (λ g e. absurd (cc)) cs.5 (x.1 w e)))
    where
      rest_fine : (q : Bool) → goes_on (invoked N st n cs.0 i.args w).outcome (invoked N st n cs.0 i.args w).entered ≡ q → (goes_on (invoked N st n cs.0 i.args w).outcome (invoked N st n cs.0 i.args w).entered ≡ true → NoneStuck (session N is None (fresh (invoked N st n cs.0 i.args w).last w) (invoked N st n cs.0 i.args w).left)) → NoneStuck (if q then session N is None (fresh (invoked N st n cs.0 i.args w).last w) (invoked N st n cs.0 i.args w).left else [])
      rest_fine true e h = h e
      rest_fine false e h = tt

  -- the start function alone
  pub start_alive : (n g : ℕ) (replies : List Reply) → p.module_.start ≡ Some g → (ran_to false (run_function N n g (function_at p g) [] (start_world p.module_ replies) []).what (run_function N n g (function_at p g) [] (start_world p.module_ replies) []).left).outcome ≢ got_stuck
  start_alive n g replies st =
      let e = run_function N n g (function_at p g) [] (start_world p.module_ replies) [] in
      not_stuck (ran_to false e.what e.left).outcome (last_fine false e.what e.left (function_ok N s.typed n g (record { params = []; results = [] }) [] (start_world p.module_ replies) [] (s.start g st) refl (s.world replies))).0

  no_cause : (a b : Option Cause) → option_or a b ≡ None → (a ≡ None) × (b ≡ None)
  no_cause None b e = (refl, e)
  no_cause (Some c) b e = absurd (cc)

  true_of : (q : Bool) → entry_fits (Some q) ≡ None → q ≡ true
  true_of true e = refl
  true_of false e = absurd (cc)

  call_of : (i : Invocation) (q : Option ℕ) → function_export p.module_ i.name ≡ q → cause_of_entry p.module_ q i.args ≡ None → (f : ℕ) × (function_export p.module_ i.name ≡ Some f) × (type : FuncType) × (type_at p.module_ f ≡ Some type) × (types i.args ≡ type.params)
  call_of i None e c = absurd (cc)
  call_of i (Some f) e c =
      let t = s.exported i.name f e in
      let c' : entry_fits (Some (same_types t.0.params (types i.args))) ≡ None = ap (λ o. entry_fits (option_map (λ type. same_types type.params (types i.args)) o)) (sym t.1) ∙ c in
      (f, e, t.0, t.1, sym (same_types_are t.0.params (types i.args) (true_of (same_types t.0.params (types i.args)) c')))

  calls_of : (is : List Invocation) → cause_of p.module_ is ≡ None → Calls is
  calls_of [] e = tt
  calls_of (i ∷ is) e =
      let h = no_cause (cause_of_entry p.module_ (function_export p.module_ i.name) i.args) (cause_of p.module_ is) e in
      let x = call_of i (function_export p.module_ i.name) refl h.0 in
      (x.0, x.1, x.2, x.3, x.4, calls_of is h.1)

  unless_fine : (is : List Invocation) (replies : List Reply) (n : ℕ) (c : Option Cause) → cause_of p.module_ is ≡ c → NoneStuck (unless N c is replies n)
  unless_fine is replies n None e = session_fine is p.module_.start (start_world p.module_ replies) n s.start (calls_of is e) (s.world replies)
  unless_fine is replies n (Some c) e = ((λ x. cc), tt)

-- no invocation of a list gets stuck
pub never_stuck : (p : Program) → Startable p → (collecting : Bool) (is : List Invocation) (replies : List Reply) (d n : ℕ) → NoneStuck (run p collecting is replies d n)
never_stuck p s collecting is replies d n = unless_fine p s collecting d is replies n (cause_of p.module_ is) refl
