-- Runs (Core 4.5): instantiation, the start function, and the entries.
use Rattle.std.specs.Prelude.{ℕ, zero, suc, ◌+◌, ◌*◌, ◌==◌, nat_le, not, ◌&&◌, min, Bool, true, false, List, [], ◌∷◌, ◌++◌, map, length, replicate, take, drop, reverse, if◌then◌else◌, Option, Some, None, fold, option_map, option_to_list, unwrap_or}
use Rattle.wasm_syntax.specs.declared.value.Value.{Value}
use Rattle.wasm_syntax.specs.declared.value.Value.TheVariants as values
use Rattle.wasm_syntax.specs.Numbers.{types}
use Rattle.linear_memory.specs.Memory.{Memory, page_size}
use Rattle.wasm_syntax.specs.declared.parts.Limits.{Limits}
use Rattle.wasm_syntax.specs.declared.parts.Global.{Global}
use Rattle.wasm_syntax.specs.declared.parts.ElementSeg.{ElementSeg}
use Rattle.wasm_syntax.specs.declared.parts.DataSeg.{DataSeg}
use Rattle.wasm_syntax.specs.Module.{Program, Function, imported, defined, function_at, type_at, function_export, same_types, const_value}
use Rattle.wasm_syntax.specs.declared.module.ModuleParts.{ModuleParts as Module}
use Rattle.wasm_syntax.specs.declared.host.HostCall.{HostCall}
use Rattle.wasm_syntax.specs.declared.host.Reply.{Reply}
use Rattle.wasm_syntax.specs.declared.host.Served.{Served}
use Rattle.wasm_syntax.specs.declared.host.CollectorCall.{CollectorCall}
use Rattle.wasm_syntax.specs.Host.{World, Answer, replied, told, silent, misfit, answer}
use Rattle.wasm_syntax.specs.Machine.{Engine, Config, config, Stepped, next, ends, traps, no_reply, bad_reply, stuck, step, entered, host_call, first, zero_of}
use Rattle.std.specs.Option.{option_or}

-- ---- the start of an instance (Core 4.5.4)

pub data Cause : Type 0 where
  no_export : Cause
  bad_arguments : Cause
  element_out : ℕ → Cause
  data_out : ℕ → Cause

abbrev pub initial_globals : List Global → List Value
initial_globals globals = map (λ g. unwrap_or (const_value [] g.init.ops) (zero_of g.vtype)) globals

abbrev pub i32_or_zero : Option Value → ℕ
i32_or_zero (Some (values.I32 n)) = n
i32_or_zero _ = 0

-- the list with new ones put over those at a place
abbrev pub over : {A : Type 0} → List A → ℕ → List A → List A
over xs at new = take at xs ++ (new ++ drop (at + length new) xs)

-- the number of the first test that fails
abbrev pub first_false : ℕ → List Bool → Option ℕ
first_false n [] = None
first_false n (true ∷ bs) = first_false (suc n) bs
first_false n (false ∷ bs) = Some n

abbrev pub table_min : List Limits → ℕ
table_min [] = 0
table_min (l ∷ ls) = l.min

-- at most 4096 pages
abbrev pub empty_memory : List Limits → Option Memory
empty_memory [] = None
empty_memory (l ∷ ls) = Some (record { bytes = replicate (page_size * l.min) 0; max = min 4096 (unwrap_or l.max 4096) })

abbrev pub memory_bytes : Option Memory → List ℕ
memory_bytes None = []
memory_bytes (Some m) = m.bytes

module _ (m : Module) where
  abbrev pub globals_at_start : List Value
  globals_at_start = initial_globals m.globals

  abbrev pub element_at : ElementSeg → ℕ
  element_at e = i32_or_zero (const_value (globals_at_start) e.offset.ops)

  abbrev pub data_at : DataSeg → ℕ
  data_at s = i32_or_zero (const_value (globals_at_start) s.offset.ops)

  abbrev pub element_fits : ElementSeg → Bool
  element_fits e = nat_le (element_at e + length e.functions) (table_min m.tables)

  abbrev pub data_fits : DataSeg → Bool
  data_fits s = nat_le (data_at s + length s.bytes) (length (memory_bytes (empty_memory m.memories)))

  abbrev pub start_table : List (Option ℕ)
  start_table = fold (λ table e. over table (element_at e) (map Some e.functions)) (replicate (table_min m.tables) None) m.elements

  abbrev pub start_memory : Option Memory
  start_memory = option_map (λ memory. fold (λ k s. record k { bytes = over k.bytes (data_at s) s.bytes }) memory m.segments) (empty_memory m.memories)

  abbrev pub start_world : List Reply → World
  start_world replies = record { globals = globals_at_start; memory = start_memory; table = start_table; replies = replies; served = [] }

-- ---- one function

-- what comes of at most so many steps, and how many of them were not made
pub record Ended : Type 0 where
  pub what : Stepped
  pub left : ℕ

abbrev pub ended : Stepped → ℕ → Ended
ended what left = record { what = what; left = left }

-- an import that is called with no frame, in one step
abbrev pub host_alone : Answer → HostCall → World → List CollectorCall → Stepped
host_alone (replied w' v) call w co = ends w' (option_to_list v) co
host_alone (told k) call w co = ends w [] (k ∷ co)
host_alone silent call w co = no_reply call (config [] w co)
host_alone (misfit reply) call w co = bad_reply call reply (config [] w co)

module _ (M : Engine) where
  abbrev pub run_on : (Config → Ended) → ℕ → Stepped → Ended
  run_on go n (next c) = go c
  run_on go n s = ended s n

  abbrev pub run_steps : ℕ → Config → Ended
  run_steps zero c = ended (next c) 0
  run_steps (suc n) c = run_on (run_steps n) n (step M c)

  abbrev pub run_alone : ℕ → HostCall → World → List CollectorCall → Ended
  run_alone zero call w co = ended (next (config [] w co)) 0
  run_alone (suc n) call w co = ended (host_alone (answer M.collects M.program.module_ call w) call w co) n

  -- a function on arguments of its parameters' types
  abbrev pub run_function : ℕ → ℕ → Option Function → List Value → World → List CollectorCall → Ended
  run_function n f None args w co = ended stuck n
  run_function n f (Some (imported import type)) args w co = run_alone n (host_call f import type args) w co
  run_function n f (Some (defined body tree type)) args w co = run_steps n (config (entered f body tree type args ∷ []) w co)

-- ---- invocations: the start function, if there is one, and then the entry

pub data Outcome : Type 0 where
  not_started : Cause → Outcome
  finished : Option Value → Outcome
  trapped : (kind : ℕ) → Outcome
  lacks_reply : HostCall → Outcome
  misfits : HostCall → Reply → Outcome
  running : Outcome
  got_stuck : Outcome

pub record Ran : Type 0 where
  pub outcome : Outcome
  pub served : List Served
  pub collected : List CollectorCall
  -- the entry itself was begun
  pub entered : Bool
  -- the last configuration, where the run started
  pub last : Option Config
  -- of the steps that it was given
  pub left : ℕ

abbrev pub ran : Outcome → Bool → Config → ℕ → Ran
ran o entered c left =
    record { outcome = o; served = reverse c.world.served; collected = reverse c.collected; entered = entered; last = Some c; left = left }

abbrev pub not_begun : Cause → ℕ → Ran
not_begun cause left = record { outcome = not_started cause; served = []; collected = []; entered = false; last = None; left = left }

abbrev pub ran_to : Bool → Stepped → ℕ → Ran
ran_to entered (next c) left = ran running entered c left
ran_to entered (ends w vs co) left = ran (finished (first vs)) entered (config [] w co) left
ran_to entered (traps k c) left = ran (trapped k) entered c left
ran_to entered (no_reply call c) left = ran (lacks_reply call) entered c left
ran_to entered (bad_reply call r c) left = ran (misfits call r) entered c left
ran_to entered stuck left = record { outcome = got_stuck; served = []; collected = []; entered = entered; last = None; left = left }

module _ (M : Engine) where
  abbrev pub run_entry : ℕ → ℕ → List Value → World → List CollectorCall → Ran
  run_entry n f args w co = let e = run_function M n f (function_at M.program f) args w co in ran_to true e.what e.left

  -- behind the start function
  abbrev pub go_on : Stepped → ℕ → ℕ → List Value → Ran
  go_on (ends w vs co) n f args = run_entry n f args w co
  go_on s n f args = ran_to false s n

  abbrev pub invoked : Option ℕ → ℕ → ℕ → List Value → World → Ran
  invoked None n f args w = run_entry n f args w []
  invoked (Some start) n f args w = let e = run_function M n start (function_at M.program start) [] w [] in go_on e.what e.left f args

abbrev pub by_data : Option ℕ → Option Cause
by_data o = option_map data_out o

abbrev pub by_element : Module → Option ℕ → Option Cause
by_element m None = by_data (first_false 0 (map (data_fits m) m.segments))
by_element m (Some i) = Some (element_out i)

-- the first segment that is out of bounds
abbrev pub cause_of_segments : Module → Option Cause
cause_of_segments m = by_element m (first_false 0 (map (element_fits m) m.elements))

abbrev pub if_fits : Option Bool → Option Cause
if_fits (Some true) = None
if_fits (Some false) = Some bad_arguments
if_fits None = Some bad_arguments

abbrev pub cause_of_entry : Module → Option ℕ → List Value → Option Cause
cause_of_entry m None args = Some no_export
cause_of_entry m (Some f) args = if_fits (option_map (λ type. same_types type.params (types args)) (type_at m f))

-- ---- lists of invocations on one instance

pub record Invocation : Type 0 where
  pub name : List ℕ
  pub args : List Value

-- the first cause for which a list of invocations does not start
abbrev pub cause_of : Module → List Invocation → Option Cause
cause_of m [] = cause_of_segments m
cause_of m (i ∷ is) = option_or (cause_of_entry m (function_export m i.name) i.args) (cause_of m is)

-- the list goes on behind an invocation that finished, or trapped with a kind other than 8 and not inside the start function
abbrev pub goes_on : Outcome → Bool → Bool
goes_on (finished v) entered = true
goes_on (trapped kind) entered = not (kind == 8) && entered
goes_on _ entered = false

-- with nothing served yet
abbrev pub fresh : Option Config → World → World
fresh None w = w
fresh (Some c) w = record { globals = c.world.globals; memory = c.world.memory; table = c.world.table; replies = c.world.replies; served = [] }

module _ (M : Engine) where
  -- each invocation begins in the world as the one before left it, with the steps that are left
  abbrev pub session : List Invocation → Option ℕ → World → ℕ → List Ran
  session [] start w n = []
  session (i ∷ is) start w n = elim (function_export M.program.module_ i.name) [
    | None ↦ []
    | Some f ↦ let r = invoked M start n f i.args w in r ∷ (if goes_on r.outcome r.entered then session is None (fresh r.last w) r.left else [])
  ]

  abbrev pub unless : Option Cause → List Invocation → List Reply → ℕ → List Ran
  unless None is replies n = session is M.program.module_.start (start_world M.program.module_ replies) n
  unless (Some cause) is replies n = not_begun cause n ∷ []

abbrev pub engine : Program → Bool → ℕ → Engine
engine p collecting d = record { program = p; collects = collecting; depth = d }

-- these invocations, with these replies, at depth d, for at most n steps
abbrev pub run : Program → Bool → List Invocation → List Reply → ℕ → ℕ → List Ran
run p collecting is replies d n = unless (engine p collecting d) (cause_of p.module_ is) is replies n
