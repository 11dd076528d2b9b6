-- Runs without offsets.
use Rattle.std.proofs.Common.{◌≡◌, ℕ, zero, suc, ◌+◌, List, [], ◌∷◌, length, map, slice_get, Option, Some, None, Bool, true, false, nat_le, refl, sym, ap, ap₂, ◌∙◌, subst, option_map, if◌then◌else◌, unwrap_or}
use Rattle.std.specs.Prelude.{fold, replicate}
use Rattle.wasm_syntax.specs.declared.value.Value.{Value}
use Rattle.wasm_syntax.specs.declared.instruction.Op.{Op}
use Rattle.wasm_syntax.specs.declared.parts.Global.{Global}
use Rattle.wasm_syntax.specs.declared.parts.ElementSeg.{ElementSeg}
use Rattle.wasm_syntax.specs.declared.parts.DataSeg.{DataSeg}
use Rattle.wasm_syntax.specs.declared.host.HostCall.{HostCall}
use Rattle.wasm_syntax.specs.declared.host.Reply.{Reply}
use Rattle.wasm_syntax.specs.declared.host.CollectorCall.{CollectorCall}
use Rattle.wasm_syntax.specs.declared.module.ModuleParts.{ModuleParts as Module}
use Rattle.wasm_syntax.specs.Module.{Program, Function, imported, defined, function_at, const_value, function_export}
use Rattle.wasm_syntax.specs.Host.{World, Answer, replied, told, silent, misfit, answer}
use Rattle.wasm_syntax.specs.Machine.{Config, config, Engine, Stepped, next, ends, traps, no_reply, bad_reply, stuck, entered, host_call, step, zero_of}
use Rattle.wasm_syntax.specs.Run.{Cause, initial_globals, i32_or_zero, over, first_false, table_min, empty_memory, memory_bytes, globals_at_start, element_at, data_at, element_fits, data_fits, start_table, start_world, Ended, ended, host_alone, run_on, run_steps, run_alone, run_function, Outcome, not_started, finished, trapped, lacks_reply, misfits, running, got_stuck, Ran, ran_to, run_entry, go_on, invoked, by_data, by_element, cause_of_entry, cause_of_segments, Invocation, cause_of, goes_on, fresh, session, unless, engine, run}
use Rattle.linear_memory.specs.Memory.{Memory}
use Rattle.rewrite_modules.specs.calls.Bare.{bare, bare_config, bare_stepped, bare_ran}
use Rattle.wasm_syntax.specs.SameCode.{op_code, code_alone, global_code, element_code, segment_code}
use Rattle.rewrite_modules.proofs.BareStep.{bare_function, function_bare, bare_engine, step_bare}
use Rattle.rewrite_modules.specs.Simulates.{EndsAlike, SameState, Alike, AllAlike, Simulates}
use Rattle.rewrite_modules.specs.Flag.{LowersFlag}
use Rattle.rewrite_modules.specs.Starts.{start_run, StartsAlike}
use Rattle.std.proofs.lemmas.Option.{slice_get-map}
use Rattle.pm_text.proofs.Lists.{some_is}
use Rattle.wasm_syntax.specs.declared.value.Value.TheVariants as values
use Rattle.std.specs.Option.{option_or}

abbrev pub bare_ended : Ended → Ended
bare_ended e = ended (bare_stepped e.what) e.left

host_alone_bare : (A : Answer) (call : HostCall) (w : World) (co : List CollectorCall) → host_alone A call w co ≡ bare_stepped (host_alone A call w co)
host_alone_bare (replied w' v) call w co = refl
host_alone_bare (told k) call w co = refl
host_alone_bare silent call w co = refl
host_alone_bare (misfit reply) call w co = refl

ran_to_bare : (q : Bool) (s : Stepped) (left : ℕ) → ran_to q (bare_stepped s) left ≡ bare_ran (ran_to q s left)
ran_to_bare q (next c) left = refl
ran_to_bare q (ends w vs co) left = refl
ran_to_bare q (traps k c) left = refl
ran_to_bare q (no_reply call c) left = refl
ran_to_bare q (bad_reply call r c) left = refl
ran_to_bare q stuck left = refl

pub fresh_bare : (o : Option Config) (w : World) → fresh (option_map bare_config o) w ≡ fresh o w
fresh_bare None w = refl
fresh_bare (Some c) w = refl

-- ---- lists of invocations

abbrev rest_of : Engine → List Invocation → World → Ran → List Ran
rest_of K is w r = if goes_on r.outcome r.entered then session K is None (fresh r.last w) r.left else []

pub session_some : (K : Engine) (i : Invocation) (is : List Invocation) (st : Option ℕ) (w : World) (n f : ℕ) → function_export K.program.module_ i.name ≡ Some f → session K (i ∷ is) st w n ≡ invoked K st n f i.args w ∷ rest_of K is w (invoked K st n f i.args w)
session_some K i is st w n f e = rw (e, session) refl

pub session_none : (K : Engine) (i : Invocation) (is : List Invocation) (st : Option ℕ) (w : World) (n : ℕ) → function_export K.program.module_ i.name ≡ None → session K (i ∷ is) st w n ≡ []
session_none K i is st w n e = rw (e, session) refl

module _ (M : Engine) where
  abbrev N : Engine
  N = bare_engine M

  on_bare : (go' go : Config → Ended) (n : ℕ) (r : Stepped) → ((c : Config) → go' (bare_config c) ≡ bare_ended (go c)) → run_on N go' n (bare_stepped r) ≡ bare_ended (run_on M go n r)
  on_bare go' go n (next c) h = h c
  on_bare go' go n (ends w vs co) h = refl
  on_bare go' go n (traps k c) h = refl
  on_bare go' go n (no_reply call c) h = refl
  on_bare go' go n (bad_reply call r c) h = refl
  on_bare go' go n stuck h = refl

  run_steps_bare : (n : ℕ) (c : Config) → run_steps N n (bare_config c) ≡ bare_ended (run_steps M n c)
  run_steps_bare zero c = refl
  run_steps_bare (suc n) c = ap (run_on N (run_steps N n) n) (step_bare M c) ∙ on_bare (run_steps N n) (run_steps M n) n (step M c) (run_steps_bare n)

  run_alone_bare : (n : ℕ) (call : HostCall) (w : World) (co : List CollectorCall) → run_alone N n call w co ≡ bare_ended (run_alone M n call w co)
  run_alone_bare zero call w co = refl
  run_alone_bare (suc n) call w co = ap (λ s. ended s n) (host_alone_bare (answer M.collects M.program.module_ call w) call w co)

  run_function_bare : (n f : ℕ) (o : Option Function) (args : List Value) (w : World) (co : List CollectorCall) → run_function N n f (option_map bare_function o) args w co ≡ bare_ended (run_function M n f o args w co)
  run_function_bare n f None args w co = refl
  run_function_bare n f (Some (imported i type)) args w co = run_alone_bare n (host_call f i type args) w co
  run_function_bare n f (Some (defined b tree type)) args w co = run_steps_bare n (config (entered f b tree type args ∷ []) w co)

  function_runs : (n f : ℕ) (args : List Value) (w : World) (co : List CollectorCall) → run_function N n f (function_at (bare M.program) f) args w co ≡ bare_ended (run_function M n f (function_at M.program f) args w co)
  function_runs n f args w co = ap (λ o. run_function N n f o args w co) (function_bare M.program f) ∙ run_function_bare n f (function_at M.program f) args w co

  run_entry_bare : (n f : ℕ) (args : List Value) (w : World) (co : List CollectorCall) → run_entry N n f args w co ≡ bare_ran (run_entry M n f args w co)
  run_entry_bare n f args w co =
      let e = run_function M n f (function_at M.program f) args w co in
      ap (λ e. ran_to true e.what e.left) (function_runs n f args w co) ∙ ran_to_bare true e.what e.left

  go_on_bare : (s : Stepped) (n f : ℕ) (args : List Value) → go_on N (bare_stepped s) n f args ≡ bare_ran (go_on M s n f args)
  go_on_bare (next c) n f args = refl
  go_on_bare (ends w vs co) n f args = run_entry_bare n f args w co
  go_on_bare (traps k c) n f args = refl
  go_on_bare (no_reply call c) n f args = refl
  go_on_bare (bad_reply call r c) n f args = refl
  go_on_bare stuck n f args = refl

  pub invoked_bare : (st : Option ℕ) (n f : ℕ) (args : List Value) (w : World) → invoked N st n f args w ≡ bare_ran (invoked M st n f args w)
  invoked_bare None n f args w = run_entry_bare n f args w []
  invoked_bare (Some start) n f args w =
      let e = run_function M n start (function_at M.program start) [] w [] in
      ap (λ e. go_on N e.what e.left f args) (function_runs n start [] w []) ∙ go_on_bare e.what e.left f args

  session_bare : (is : List Invocation) (st : Option ℕ) (w : World) (n : ℕ) → session N is st w n ≡ map bare_ran (session M is st w n)
  session_bare [] st w n = refl
  session_bare (i ∷ is) st w n = by_export (function_export M.program.module_ i.name) refl (λ v k. session_bare is None v k)
    where
      by_going : (q : Bool) (r : Ran) → ((v : World) (k : ℕ) → session N is None v k ≡ map bare_ran (session M is None v k)) → (if q then session N is None (fresh (bare_ran r).last w) r.left else []) ≡ map bare_ran (if q then session M is None (fresh r.last w) r.left else [])
      by_going false r ih = refl
      by_going true r ih = ap (λ v. session N is None v r.left) (fresh_bare r.last w) ∙ ih (fresh r.last w) r.left

      by_export : (q : Option ℕ) → function_export M.program.module_ i.name ≡ q → ((v : World) (k : ℕ) → session N is None v k ≡ map bare_ran (session M is None v k)) → session N (i ∷ is) st w n ≡ map bare_ran (session M (i ∷ is) st w n)
      by_export None e ih = session_none N i is st w n e ∙ sym (ap (map bare_ran) (session_none M i is st w n e))
      by_export (Some f) e ih =
          let r = invoked M st n f i.args w in
          session_some N i is st w n f e
          ∙ ap (λ r. r ∷ rest_of N is w r) (invoked_bare st n f i.args w)
          ∙ ap (λ z. bare_ran (invoked M st n f i.args w) ∷ z) (by_going (goes_on r.outcome r.entered) r ih)
          ∙ sym (ap (map bare_ran) (session_some M i is st w n f e))

-- ---- the start

const_bare : (gs : List Value) (ops : List Op) → const_value gs (map op_code ops) ≡ const_value gs ops
const_bare gs [] = refl
const_bare gs (o ∷ os) = refl

initial_bare : (gs : List Global) → initial_globals (map global_code gs) ≡ initial_globals gs
initial_bare [] = refl
initial_bare (g ∷ gs) = ap₂ (λ v vs. v ∷ vs) (ap (λ o. unwrap_or o (zero_of g.vtype)) (const_bare [] g.init.ops)) (initial_bare gs)

module _ (m : Module) where
  abbrev m' : Module
  m' = code_alone m

  globals_same : globals_at_start m' ≡ globals_at_start m
  globals_same = initial_bare m.globals

  element_same : (e : ElementSeg) → element_at m' (element_code e) ≡ element_at m e
  element_same e = ap (λ gs. i32_or_zero (const_value gs (map op_code e.offset.ops))) globals_same ∙ ap i32_or_zero (const_bare (globals_at_start m) e.offset.ops)

  data_same : (s : DataSeg) → data_at m' (segment_code s) ≡ data_at m s
  data_same s = ap (λ gs. i32_or_zero (const_value gs (map op_code s.offset.ops))) globals_same ∙ ap i32_or_zero (const_bare (globals_at_start m) s.offset.ops)

  element_tests : (es : List ElementSeg) → map (element_fits m') (map element_code es) ≡ map (element_fits m) es
  element_tests [] = refl
  element_tests (e ∷ es) = ap₂ (λ b bs. b ∷ bs) (ap (λ n. nat_le (n + length e.functions) (table_min m.tables)) (element_same e)) (element_tests es)

  data_tests : (ss : List DataSeg) → map (data_fits m') (map segment_code ss) ≡ map (data_fits m) ss
  data_tests [] = refl
  data_tests (s ∷ ss) = ap₂ (λ b bs. b ∷ bs) (ap (λ n. nat_le (n + length s.bytes) (length (memory_bytes (empty_memory m.memories)))) (data_same s)) (data_tests ss)

  table_same : (es : List ElementSeg) (t : List (Option ℕ)) → fold (λ table e. over table (element_at m' e) (map Some e.functions)) t (map element_code es) ≡ fold (λ table e. over table (element_at m e) (map Some e.functions)) t es
  table_same [] t = refl
  table_same (e ∷ es) t = ap (λ n. fold (λ table e. over table (element_at m' e) (map Some e.functions)) (over t n (map Some e.functions)) (map element_code es)) (element_same e) ∙ table_same es (over t (element_at m e) (map Some e.functions))

  pub table_bare : start_table m' ≡ start_table m
  table_bare = table_same m.elements (replicate (table_min m.tables) None)

  memory_same : (ss : List DataSeg) (k : Memory) → fold (λ k s. record k { bytes = over k.bytes (data_at m' s) s.bytes }) k (map segment_code ss) ≡ fold (λ k s. record k { bytes = over k.bytes (data_at m s) s.bytes }) k ss
  memory_same [] k = refl
  memory_same (s ∷ ss) k = ap (λ n. fold (λ k s. record k { bytes = over k.bytes (data_at m' s) s.bytes }) (record k { bytes = over k.bytes n s.bytes }) (map segment_code ss)) (data_same s) ∙ memory_same ss (record k { bytes = over k.bytes (data_at m s) s.bytes })

  memory_option : (o : Option Memory) → option_map (λ memory. fold (λ k s. record k { bytes = over k.bytes (data_at m' s) s.bytes }) memory (map segment_code m.segments)) o ≡ option_map (λ memory. fold (λ k s. record k { bytes = over k.bytes (data_at m s) s.bytes }) memory m.segments) o
  memory_option None = refl
  memory_option (Some k) = ap Some (memory_same m.segments k)

  pub world_same : (replies : List Reply) → start_world m' replies ≡ start_world m replies
  world_same replies = λ i. record { globals = globals_same i; memory = memory_option (empty_memory m.memories) i; table = table_same m.elements (replicate (table_min m.tables) None) i; replies = replies; served = [] }

  by_element_same : (o : Option ℕ) → by_element m' o ≡ by_element m o
  by_element_same None = ap (λ bs. by_data (first_false 0 bs)) (data_tests m.segments)
  by_element_same (Some i) = refl

  pub cause_same : (is : List Invocation) → cause_of m' is ≡ cause_of m is
  cause_same [] = ap (λ bs. by_element m' (first_false 0 bs)) (element_tests m.elements) ∙ by_element_same (first_false 0 (map (element_fits m) m.elements))
  cause_same (i ∷ is) = ap (option_or (cause_of_entry m (function_export m i.name) i.args)) (cause_same is)

unless_bare : (M : Engine) (c : Option Cause) (is : List Invocation) (replies : List Reply) (n : ℕ) → unless (bare_engine M) c is replies n ≡ map bare_ran (unless M c is replies n)
unless_bare M None is replies n = ap (λ w. session (bare_engine M) is M.program.module_.start w n) (world_same M.program.module_ replies) ∙ session_bare M is M.program.module_.start (start_world M.program.module_ replies) n
unless_bare M (Some c) is replies n = refl

pub run_bare : (p : Program) (collecting : Bool) (is : List Invocation) (replies : List Reply) (d n : ℕ) → run (bare p) collecting is replies d n ≡ map bare_ran (run p collecting is replies d n)
run_bare p collecting is replies d n =
    ap (λ c. unless (engine (bare p) collecting d) c is replies n) (cause_same p.module_ is) ∙ unless_bare (engine p collecting d) (cause_of p.module_ is) is replies n

-- two programs that are the same without offsets
pub runs_alike : (p q : Program) → bare p ≡ bare q → (collecting : Bool) (is : List Invocation) (replies : List Reply) (d n : ℕ) → map bare_ran (run p collecting is replies d n) ≡ map bare_ran (run q collecting is replies d n)
runs_alike p q e collecting is replies d n = sym (run_bare p collecting is replies d n) ∙ ap (λ x. run x collecting is replies d n) e ∙ run_bare q collecting is replies d n

-- ---- what is alike stays alike

ends_to : (o : Outcome) (a b : Option Config) (other : Ran) → EndsAlike o a b other → EndsAlike o a (option_map bare_config b) (bare_ran other)
ends_to (trapped k) None b other h = absurd h
ends_to (trapped k) (Some a) None other h = absurd h
ends_to (trapped k) (Some a) (Some b) other h = record { trapped_too = h.trapped_too; whole = h.whole; kind = h.kind; dump = h.dump; bytes = h.bytes }
ends_to (not_started c) a b other h = h
ends_to (finished v) a b other h = h
ends_to (lacks_reply call) a b other h = h
ends_to (misfits call r) a b other h = h
ends_to running a b other h = h
ends_to got_stuck a b other h = h

ends_from : (o : Outcome) (a b : Option Config) (other : Ran) → EndsAlike o a (option_map bare_config b) (bare_ran other) → EndsAlike o a b other
ends_from (trapped k) None b other h = absurd h
ends_from (trapped k) (Some a) None other h = absurd h
ends_from (trapped k) (Some a) (Some b) other h = record { trapped_too = h.trapped_too; whole = h.whole; kind = h.kind; dump = h.dump; bytes = h.bytes }
ends_from (not_started c) a b other h = h
ends_from (finished v) a b other h = h
ends_from (lacks_reply call) a b other h = h
ends_from (misfits call r) a b other h = h
ends_from running a b other h = h
ends_from got_stuck a b other h = h

state_to : (a b : Option Config) → SameState a b → SameState a (option_map bare_config b)
state_to None b h = h
state_to (Some a) None h = absurd h
state_to (Some a) (Some b) h = h

state_from : (a b : Option Config) → SameState a (option_map bare_config b) → SameState a b
state_from None b h = h
state_from (Some a) None h = absurd h
state_from (Some a) (Some b) h = h

alike_to : (one other : Ran) → Alike one other → Alike one (bare_ran other)
alike_to one other h = record { begun = h.begun; host_calls = h.host_calls; ends = ends_to one.outcome one.last other.last other h.ends; state = state_to one.last other.last h.state }

alike_from : (one other : Ran) → Alike one (bare_ran other) → Alike one other
alike_from one other h = record { begun = h.begun; host_calls = h.host_calls; ends = ends_from one.outcome one.last other.last other h.ends; state = state_from one.last other.last h.state }

pub all_to : (ones others : List Ran) → AllAlike ones others → AllAlike ones (map bare_ran others)
all_to [] [] h = tt
all_to [] (_ ∷ _) h = absurd h
all_to (_ ∷ _) [] h = absurd h
all_to (one ∷ ones) (other ∷ others) h = (alike_to one other h.0, all_to ones others h.1)

pub all_from : (ones others : List Ran) → AllAlike ones (map bare_ran others) → AllAlike ones others
all_from [] [] h = tt
all_from [] (_ ∷ _) h = absurd h
all_from (_ ∷ _) [] h = absurd h
all_from (one ∷ ones) (other ∷ others) h = (alike_from one other h.0, all_from ones others h.1)

-- a module that is the rewritten one but for offsets simulates the original too
pub simulates_bare : (factor : ℕ) (p q r : Program) → bare r ≡ bare q → Simulates factor p q → Simulates factor p r
simulates_bare factor p q r e s is replies d n d1 d2 nd =
    let x = s is replies d n d1 d2 nd in
    let one = run p false is replies d n in
    let same = runs_alike q r (sym e) true is replies (d + 2) x.0 in
    (x.0, x.1, x.2, all_from one (run r true is replies (d + 2) x.0) (subst (AllAlike one) same (all_to one (run q true is replies (d + 2) x.0) x.3)))

-- and lowers its flag behind each trap
pub last_from : (o : Option Config) (c : Config) → option_map bare_config o ≡ Some (bare_config c) → (b : Config) × (o ≡ Some b) × (bare_config b ≡ bare_config c)
last_from None c e = absurd (cc)
last_from (Some b) c e = (b, refl, some_is e)

pub lowers_bare : (p q r : Program) → bare r ≡ bare q → LowersFlag p q → LowersFlag p r
lowers_bare p q r e h is replies d n i k x c d1 d2 nd at o l =
    let one = run q true is replies (d + 2) n in
    let two = run r true is replies (d + 2) n in
    let there : slice_get (map bare_ran one) i ≡ Some (bare_ran x) = ap (λ z. slice_get z i) (runs_alike q r (sym e) true is replies (d + 2) n) ∙ slice_get-map bare_ran two i ∙ ap (option_map bare_ran) at in
    by_there (slice_get one i) refl (sym (slice_get-map bare_ran one i) ∙ there)
  where
    by_there : (o1 : Option Ran) → slice_get (run q true is replies (d + 2) n) i ≡ o1 → option_map bare_ran (slice_get (run q true is replies (d + 2) n) i) ≡ Some (bare_ran x) → slice_get c.world.globals (length p.module_.globals) ≡ Some (values.I32 0)
    by_there None g t = let z : option_map bare_ran None ≡ Some (bare_ran x) = subst (λ w. option_map bare_ran w ≡ Some (bare_ran x)) g t in absurd (cc)
    by_there (Some y) g t =
        let same : bare_ran y ≡ bare_ran x = some_is (subst (λ w. option_map bare_ran w ≡ Some (bare_ran x)) g t) in
        let b = last_from y.last c (ap (λ z. z.last) same ∙ ap (option_map bare_config) l) in
        let at_b = h is replies d n i k y b.0 d1 d2 nd g (ap (λ z. z.outcome) same ∙ o) b.1 in
        subst (λ z. slice_get z.world.globals (length p.module_.globals) ≡ Some (values.I32 0)) b.2 at_b

-- ---- the start function alone

start_run_bare : (M : Engine) (f : ℕ) (replies : List Reply) (n : ℕ) → start_run (bare_engine M) f replies n ≡ bare_ran (start_run M f replies n)
start_run_bare M f replies n =
    let w = start_world M.program.module_ replies in
    let e = run_function M n f (function_at M.program f) [] w [] in
    ap (λ (v : World). (let e = run_function (bare_engine M) n f (function_at (bare M.program) f) [] v [] in ran_to false e.what e.left)) (world_same M.program.module_ replies)
    ∙ ap (λ e. ran_to false e.what e.left) (function_runs M n f [] w [])
    ∙ ran_to_bare false e.what e.left

-- a module that is the rewritten one but for offsets starts as the original too
pub starts_bare : (factor : ℕ) (p q r : Program) → bare r ≡ bare q → StartsAlike factor p q → StartsAlike factor p r
starts_bare factor p q r e s replies d n f d1 d2 c st n8 =
    let x = s replies d n f d1 d2 c st n8 in
    let m = x.3 in
    let M = engine q true (d + 2) in
    let N = engine r true (d + 2) in
    let same : bare_ran (start_run M x.0 replies m) ≡ bare_ran (start_run N x.0 replies m) = sym (start_run_bare M x.0 replies m) ∙ ap (λ (z : Program). start_run (engine z true (d + 2)) x.0 replies m) (sym e) ∙ start_run_bare N x.0 replies m in
    let fits : cause_of_segments r.module_ ≡ None = sym (cause_same r.module_ []) ∙ ap (λ (z : Program). cause_of_segments z.module_) e ∙ cause_same q.module_ [] ∙ x.1 in
    let starts : r.module_.start ≡ Some x.0 = ap (λ (z : Program). z.module_.start) e ∙ x.2 in
    let one = start_run (engine p false d) f replies n in
    (x.0, fits, starts, m, x.4, x.5, alike_from one (start_run N x.0 replies m) (subst (Alike one) same (alike_to one (start_run M x.0 replies m) x.6)))
