-- Each trap of a run of a valid module stands in live code.
use Rattle.std.proofs.Common.{◌≡◌, ℕ, zero, suc, Bool, true, false, List, [], ◌∷◌, ◌++◌, if◌then◌else◌, length, Option, Some, None, option_map, option_to_list, refl, sym, ap, ap₂, ◌∙◌, subst}
use Rattle.std.specs.List.{AllByRecursion}
use Rattle.wasm_syntax.specs.declared.value.Value.{Value}
use Rattle.wasm_syntax.specs.declared.parts.FuncType.{FuncType}
use Rattle.wasm_syntax.specs.declared.module.ModuleParts.{ModuleParts as Module}
use Rattle.wasm_syntax.specs.Numbers.{types}
use Rattle.wasm_syntax.specs.Sizes.{WithinLimits}
use Rattle.wasm_syntax.specs.Valid.{Valid}
use Rattle.wasm_syntax.specs.Module.{Program, IsProgram, Function, imported, defined, function_at, type_at, declared_locals, same_types, function_export}
use Rattle.wasm_syntax.specs.declared.host.HostCall.{HostCall}
use Rattle.wasm_syntax.specs.declared.host.Reply.{Reply}
use Rattle.wasm_syntax.specs.declared.host.CollectorCall.{CollectorCall}
use Rattle.wasm_syntax.specs.Host.{World, Answer, replied, told, silent, misfit, answer}
use Rattle.wasm_syntax.specs.Machine.{Frame, Config, config, Engine, Stepped, next, ends, traps, no_reply, bad_reply, stuck, zeros, result_of, function_type, entered, host_call, step}
use Rattle.wasm_syntax.specs.Typing.{Types, body_context}
use Rattle.wasm_syntax.specs.Static.{Live}
use Rattle.wasm_syntax.specs.Run.{run_on, run_steps, host_alone, run_alone, run_function, Ran, ran_to, run_entry, go_on, invoked, engine, start_world, Cause, cause_of_entry, cause_of_segments, if_fits as entry_fits, goes_on, fresh, session, unless, run, cause_of, Invocation}
use Rattle.wasm_laws.proofs.Progress.{types_append, zero_types}
use Rattle.wasm_laws.proofs.Safe.{one_result, AnswerFine, answer_fine, Typed}
use Rattle.wasm_laws.proofs.Never.{Startable}
use Rattle.wasm_laws.proofs.Validity.{startable}
use Rattle.match_laws.specs.calls.TrapDumps.{TrapMatches, TrapsMatch}
use Rattle.match_laws.proofs.Placed.{Runs, FramesAt, AtNode}
use Rattle.match_laws.proofs.Kept.{AnswerKept, answer_kept}
use Rattle.match_laws.proofs.Standing.{WorldAt, SteppedAt, step_at}
use Rattle.match_laws.proofs.Begins.{world_begins}
use Rattle.match_laws.proofs.Images.{trap_matches}
use Rattle.pm_text.proofs.Lists.{some_is}
use Rattle.wasm_syntax.proofs.Types.{same_types_are}
use Rattle.std.specs.Option.{option_or}

-- frames in live code, or none
abbrev pub StandAt : Program → List Frame → Type 0
StandAt p [] = Unit {0}
StandAt p (f ∷ fs) = FramesAt p (f ∷ fs)

stand_of : (p : Program) (fs : List Frame) → FramesAt p fs → StandAt p fs
stand_of p [] h = tt
stand_of p (f ∷ fs) h = h

abbrev pub StateAt : Program → Config → Type 0
StateAt p c = WorldAt p.module_ c.world × StandAt p c.frames

-- what a run of one function came to
abbrev Going : Program → Stepped → Type 0
Going p (next c) = StateAt p c
Going p (ends w vs co) = WorldAt p.module_ w
Going p (traps k c) = WorldAt p.module_ c.world × FramesAt p c.frames × AtNode c.frames
Going p (no_reply call c) = StateAt p c
Going p (bad_reply call r c) = StateAt p c
Going p stuck = ⊥

module _ (M : Engine) (typed : Typed M.program) where
  abbrev p : Program
  p = M.program

  on_at : (n : ℕ) (r : Stepped) → SteppedAt p r → ((c : Config) → WorldAt p.module_ c.world → FramesAt p c.frames → Going p (run_steps M n c).what) → Going p (run_on M (run_steps M n) n r).what
  on_at n (next c) h ih = ih c h.0 h.1
  on_at n (ends w vs co) h ih = h
  on_at n (traps k c) h ih = h
  on_at n (no_reply call c) h ih = (h.0, stand_of p c.frames h.1)
  on_at n (bad_reply call r c) h ih = (h.0, stand_of p c.frames h.1)
  on_at n stuck h ih = h

  steps_at : (n : ℕ) (c : Config) → WorldAt p.module_ c.world → FramesAt p c.frames → Going p (run_steps M n c).what
  steps_at zero c wf ff = (wf, stand_of p c.frames ff)
  steps_at (suc n) c wf ff = on_at n (step M c) (step_at M typed c wf ff) (steps_at n)

  host_at : (A : Answer) (call : HostCall) (w : World) (co : List CollectorCall) → WorldAt p.module_ w → AnswerFine p.module_ call.result A → AnswerKept p.module_ A → Going p (host_alone A call w co)
  host_at (replied w' v) call w co wf h a = (h.0, a)
  host_at (told k) call w co wf h a = wf
  host_at silent call w co wf h a = (wf, tt)
  host_at (misfit reply) call w co wf h a = (wf, tt)

  alone_at : (n : ℕ) (call : HostCall) (w : World) (co : List CollectorCall) → WorldAt p.module_ w → Going p (run_alone M n call w co).what
  alone_at zero call w co wf = (wf, tt)
  alone_at (suc n) call w co wf = host_at (answer M.collects p.module_ call w) call w co wf (answer_fine p.module_ call w wf.0 M.collects) (answer_kept p.module_ call w wf.1 M.collects)

  by_function : (n f : ℕ) (fn : Function) (args : List Value) (w : World) (co : List CollectorCall) → function_at p f ≡ Some fn → types args ≡ (function_type fn).params → WorldAt p.module_ w → Going p (run_function M n f (Some fn) args w co).what
  by_function n f (imported i type) args w co at ty wf = alone_at n (host_call f i type args) w co wf
  by_function n f (defined b tree type) args w co at ty wf =
      let one = one_result type.results (typed.few f (defined b tree type) at) in
      let ls : types (args ++ zeros (declared_locals b.groups)) ≡ type.params ++ declared_locals b.groups = types_append args (zeros (declared_locals b.groups)) ∙ ap₂ (λ a c. a ++ c) ty (zero_types (declared_locals b.groups)) in
      let begins : Runs (record (body_context p.module_ type b) { labels = option_to_list (result_of type) ∷ [] }) (λ s. Live (body_context p.module_ type b) tree.nodes [] [] s) tree.nodes [] [] (option_to_list (result_of type)) = (
        subst (λ z. Types (record (body_context p.module_ type b) { labels = z ∷ [] }) tree.nodes [] z) one (typed.bodies f b tree type at),
        λ s live. subst (λ z. Live (record (body_context p.module_ type b) { labels = z ∷ [] }) tree.nodes [] [] s) (sym one) live,
      ) in
      steps_at n (config (entered f b tree type args ∷ []) w co) wf (record { type = type; body = b; tree = tree; function_is = at; result = refl; locals_are = ls }, (begins, sym one, tt), tt)

  function_at_ : (n f : ℕ) (type : FuncType) (args : List Value) (w : World) (co : List CollectorCall) → type_at p.module_ f ≡ Some type → types args ≡ type.params → WorldAt p.module_ w → Going p (run_function M n f (function_at p f) args w co).what
  function_at_ n f type args w co tf ty wf =
      let fn = typed.functions f type tf in
      subst (λ q. Going p (run_function M n f q args w co).what) (sym fn.1) (by_function n f fn.0 args w co fn.1 (ty ∙ ap (λ t. t.params) (sym fn.2)) wf)

no_cause : (a b : Option Cause) → option_or a b ≡ None → (a ≡ None) × (b ≡ None)
no_cause None b e = (refl, e)
no_cause (Some c) b e = absurd (cc)

segments_fit : (m : Module) (is : List Invocation) → cause_of m is ≡ None → cause_of_segments m ≡ None
segments_fit m [] e = e
segments_fit m (i ∷ is) e = segments_fit m is (no_cause (cause_of_entry m (function_export m i.name) i.args) (cause_of m is) e).1

-- ---- lists of invocations

module _ (p : Program) (is_program : IsProgram p) (s : Startable p) (collecting : Bool) (d : ℕ) where
  abbrev N : Engine
  N = engine p collecting d

  -- a trap's dump matches, and the last configuration stands in live code
  abbrev EachAt : Ran → Type 0
  EachAt r = TrapMatches p.module_ r.outcome r.last × ((c : Config) → r.last ≡ Some c → StateAt p c)

  -- and where the list goes on, the world is as it must be
  abbrev LastAt : Ran → Type 0
  LastAt r = TrapMatches p.module_ r.outcome r.last × ((w : World) → goes_on r.outcome r.entered ≡ true → WorldAt p.module_ (fresh r.last w)) × ((c : Config) → r.last ≡ Some c → StateAt p c)

  this : (c : Config) → StateAt p c → (d : Config) → Some c ≡ Some d → StateAt p d
  this c h d e = subst (StateAt p) (some_is e) h

  fresh_at : (c : Config) (w : World) → WorldAt p.module_ c.world → WorldAt p.module_ (fresh (Some c) w)
  fresh_at c w h = (record { globals = h.0.globals; memory = h.0.memory; table = h.0.table }, record { globals = h.1.globals; memory = h.1.memory })

  last_at : (q : Bool) (x : Stepped) (left : ℕ) → Going p x → LastAt (ran_to q x left)
  last_at q (next c) left h = (tt, λ w e. absurd (cc), this c h)
  last_at q (ends w vs co) left h = (tt, λ w' e. fresh_at (config [] w co) w' h, this (config [] w co) (h, tt))
  last_at q (traps k c) left h = ((c, refl, λ name. trap_matches p is_program c name h.0 h.1 h.2), λ w e. fresh_at c w h.0, this c (h.0, stand_of p c.frames h.1))
  last_at q (no_reply call c) left h = (tt, λ w e. absurd (cc), this c h)
  last_at q (bad_reply call r c) left h = (tt, λ w e. absurd (cc), this c h)
  last_at q stuck left h = absurd h

  entry_last : (n f : ℕ) (type : FuncType) (args : List Value) (w : World) (co : List CollectorCall) → type_at p.module_ f ≡ Some type → types args ≡ type.params → WorldAt p.module_ w → LastAt (run_entry N n f args w co)
  entry_last n f type args w co tf ty wf = let e = run_function N n f (function_at p f) args w co in last_at true e.what e.left (function_at_ N s.typed n f type args w co tf ty wf)

  behind_last : (x : Stepped) (left f : ℕ) (type : FuncType) (args : List Value) → Going p x → type_at p.module_ f ≡ Some type → types args ≡ type.params → LastAt (go_on N x left f args)
  behind_last (next c) left f type args h tf ty = last_at false (next c) left h
  behind_last (ends w vs co) left f type args h tf ty = entry_last left f type args w co tf ty h
  behind_last (traps k c) left f type args h tf ty = last_at false (traps k c) left h
  behind_last (no_reply call c) left f type args h tf ty = last_at false (no_reply call c) left h
  behind_last (bad_reply call r c) left f type args h tf ty = last_at false (bad_reply call r c) left h
  behind_last stuck left f type args h tf ty = absurd h

  abbrev StartFits : Option ℕ → Type 0
  StartFits st = (g : ℕ) → st ≡ Some g → type_at p.module_ g ≡ Some (record { params = []; results = [] })

  invoked_last : (st : Option ℕ) (n f : ℕ) (type : FuncType) (args : List Value) (w : World) → StartFits st → type_at p.module_ f ≡ Some type → types args ≡ type.params → WorldAt p.module_ w → LastAt (invoked N st n f args w)
  invoked_last None n f type args w hs tf ty wf = entry_last n f type args w [] tf ty wf
  invoked_last (Some g) n f type args w hs tf ty wf =
      let e = run_function N n g (function_at p g) [] w [] in
      behind_last e.what e.left f type args (function_at_ N s.typed n g (record { params = []; results = [] }) [] w [] (hs g refl) refl wf) tf ty

  abbrev Calls : List Invocation → Type 0
  Calls [] = Unit {0}
  Calls (i ∷ is) = (f : ℕ) × (function_export p.module_ i.name ≡ Some f) × (type : FuncType) × (type_at p.module_ f ≡ Some type) × (types i.args ≡ type.params) × Calls is

  session_at : (is : List Invocation) (st : Option ℕ) (w : World) (n : ℕ) → StartFits st → Calls is → WorldAt p.module_ w → AllByRecursion EachAt (session N is st w n)
  session_at [] st w n hs cs wf = tt
  session_at (i ∷ is) st w n hs cs wf =
      let x = invoked_last st n cs.0 cs.2 i.args w hs cs.3 cs.4 wf in
      let r = invoked N st n cs.0 i.args w in
      rw (cs.1, session) ((x.0, x.2), rest_at (goes_on r.outcome r.entered) refl (λ e. session_at is None (fresh r.last w) r.left (λ g e. absurd (cc)) cs.5 (x.1 w e)))
    where
      rest_at : (q : Bool) → goes_on (invoked N st n cs.0 i.args w).outcome (invoked N st n cs.0 i.args w).entered ≡ q → (goes_on (invoked N st n cs.0 i.args w).outcome (invoked N st n cs.0 i.args w).entered ≡ true → AllByRecursion EachAt (session N is None (fresh (invoked N st n cs.0 i.args w).last w) (invoked N st n cs.0 i.args w).left)) → AllByRecursion EachAt (if q then session N is None (fresh (invoked N st n cs.0 i.args w).last w) (invoked N st n cs.0 i.args w).left else [])
      rest_at true e h = h e
      rest_at false e h = tt

  true_of : (q : Bool) → entry_fits (Some q) ≡ None → q ≡ true
  true_of true e = refl
  true_of false e = absurd (cc)

  call_of : (i : Invocation) (q : Option ℕ) → function_export p.module_ i.name ≡ q → cause_of_entry p.module_ q i.args ≡ None → (f : ℕ) × (function_export p.module_ i.name ≡ Some f) × (type : FuncType) × (type_at p.module_ f ≡ Some type) × (types i.args ≡ type.params)
  call_of i None e c = absurd (cc)
  call_of i (Some f) e c =
      let t = s.exported i.name f e in
      let c' : entry_fits (Some (same_types t.0.params (types i.args))) ≡ None = ap (λ o. entry_fits (option_map (λ type. same_types type.params (types i.args)) o)) (sym t.1) ∙ c in
      (f, e, t.0, t.1, sym (same_types_are t.0.params (types i.args) (true_of (same_types t.0.params (types i.args)) c')))

  calls_of : (is : List Invocation) → cause_of p.module_ is ≡ None → Calls is
  calls_of [] e = tt
  calls_of (i ∷ is) e =
      let h = no_cause (cause_of_entry p.module_ (function_export p.module_ i.name) i.args) (cause_of p.module_ is) e in
      let x = call_of i (function_export p.module_ i.name) refl h.0 in
      (x.0, x.1, x.2, x.3, x.4, calls_of is h.1)

  unless_at : (valid : Valid p.module_) (limits : WithinLimits p.module_) (is : List Invocation) (replies : List Reply) (n : ℕ) (c : Option Cause) → cause_of p.module_ is ≡ c → AllByRecursion EachAt (unless N c is replies n)
  unless_at valid limits is replies n None e =
      session_at is p.module_.start (start_world p.module_ replies) n s.start (calls_of is e) (s.world replies, world_begins p.module_ valid limits (segments_fit p.module_ is e) replies)
  unless_at valid limits is replies n (Some c) e = ((tt, λ d q. absurd (cc)), tt)

  traps_of : (rans : List Ran) → AllByRecursion EachAt rans → TrapsMatch p.module_ rans
  traps_of [] h = tt
  traps_of (r ∷ rs) h = (h.0.0, traps_of rs h.1)

  states_of : (rans : List Ran) → AllByRecursion EachAt rans → AllByRecursion (λ r. (c : Config) → r.last ≡ Some c → StateAt p c) rans
  states_of [] h = tt
  states_of (r ∷ rs) h = (h.0.1, states_of rs h.1)

-- the dump of each trap can be one of the module
pub traps_match : (p : Program) (is_program : IsProgram p) → length p.module_.bodies ≡ length p.module_.functions → (valid : Valid p.module_) → WithinLimits p.module_ → (collecting : Bool) (is : List Invocation) (replies : List Reply) (d n : ℕ) → TrapsMatch p.module_ (run p collecting is replies d n)
traps_match p is_program e valid limits collecting is replies d n =
    let s = startable p is_program e valid in
    traps_of p is_program s collecting d (run p collecting is replies d n) (unless_at p is_program s collecting d valid limits is replies n (cause_of p.module_ is) refl)

-- and each state stands in live code
pub states_stand : (p : Program) (is_program : IsProgram p) → length p.module_.bodies ≡ length p.module_.functions → (valid : Valid p.module_) → WithinLimits p.module_ → (collecting : Bool) (is : List Invocation) (replies : List Reply) (d n : ℕ) → AllByRecursion (λ r. (c : Config) → r.last ≡ Some c → StateAt p c) (run p collecting is replies d n)
states_stand p is_program e valid limits collecting is replies d n =
    let s = startable p is_program e valid in
    states_of p is_program s collecting d (run p collecting is replies d n) (unless_at p is_program s collecting d valid limits is replies n (cause_of p.module_ is) refl)
