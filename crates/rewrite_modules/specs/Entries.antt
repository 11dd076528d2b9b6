-- What a module does where a host calls entries of its table, which it exports, beside functions by their names.
use Rattle.std.specs.Prelude.{◌≡◌, ℕ, ◌+◌, ◌*◌, ◌<◌, ◌≤◌, List, [], ◌∷◌, length, slice_get, if◌then◌else◌, Option, Some, None, Bool, true, false, ⊤}
use Rattle.std.specs.List.{AllByRecursion}
use Rattle.std.specs.Option.{option_or}
use Rattle.wasm_syntax.specs.declared.value.Value.{Value}
use Rattle.wasm_syntax.specs.declared.value.Value.TheVariants as values
use Rattle.wasm_syntax.specs.declared.host.Reply.{Reply}
use Rattle.wasm_syntax.specs.declared.module.ModuleParts.{ModuleParts as Module}
use Rattle.wasm_syntax.specs.Module.{Program, function_export, option_then}
use Rattle.wasm_syntax.specs.Host.{World}
use Rattle.wasm_syntax.specs.Machine.{Engine, Config}
use Rattle.wasm_syntax.specs.Run.{Cause, Ran, trapped, invoked, not_begun, goes_on, fresh, table_min, start_table, start_world, cause_of_segments, cause_of_entry, engine}
use Rattle.rewrite_bodies.specs.Numbering.{doubles}
use Rattle.rewrite_modules.specs.Simulates.{AllAlike, NoneDeep}

-- a function that is exported under a name, or the one of an entry of the table
pub data Target : Type 0 where
  Named : (name : List ℕ) → Target
  Entry : (i : ℕ) → Target

pub record Calling : Type 0 where
  pub target : Target
  pub args : List Value

abbrev pub calling : Target → List Value → Calling
calling t args = record { target = t; args = args }

-- the function, if there is one
abbrev pub function_of : Module → List (Option ℕ) → Target → Option ℕ
function_of m table (Named name) = function_export m name
function_of m table (Entry i) = option_then (slice_get table i) (λ f. f)

-- the first cause for which a list of such calls does not start
abbrev pub cause_of_calls : Module → List Calling → Option Cause
cause_of_calls m [] = cause_of_segments m
cause_of_calls m (c ∷ cs) = option_or (cause_of_entry m (function_of m (start_table m) c.target) c.args) (cause_of_calls m cs)

module _ (M : Engine) where
  -- each begins in the world as the one before left it, with the steps that are left
  abbrev pub call_session : List Calling → Option ℕ → World → ℕ → List Ran
  call_session [] start w n = []
  call_session (c ∷ cs) start w n = elim (function_of M.program.module_ w.table c.target) [
    | None ↦ []
    | Some f ↦ let r = invoked M start n f c.args w in r ∷ (if goes_on r.outcome r.entered then call_session cs None (fresh r.last w) r.left else [])
  ]

  abbrev pub unless_cause : Option Cause → List Calling → List Reply → ℕ → List Ran
  unless_cause None cs replies n = call_session cs M.program.module_.start (start_world M.program.module_ replies) n
  unless_cause (Some cause) cs replies n = not_begun cause n ∷ []

-- these calls, with these replies, at depth d, for at most n steps
abbrev pub run_calls : Program → Bool → List Calling → List Reply → ℕ → ℕ → List Ran
run_calls p collecting cs replies d n = unless_cause (engine p collecting d) (cause_of_calls p.module_ cs) cs replies n

-- an entry is one that a host sees of the module's table, where the table is doubled
abbrev pub Reaches : Module → Target → Type 0
Reaches m (Named name) = ⊤
Reaches m (Entry i) = (doubles m ≡ true) × (i < table_min m.tables)

abbrev pub AllReach : Module → List Calling → Type 0
AllReach m cs = AllByRecursion (λ c. Reaches m c.target) cs

-- For every list of calls by names and by entries that a host sees, replies, n, and depth from 1 to 10,000, unless the original exhausts its call
-- depth.
abbrev pub SimulatesEntries : ℕ → Program → Program → Type 0
SimulatesEntries factor p p' =
    (cs : List Calling) (replies : List Reply) (d n : ℕ) → 1 ≤ d → d ≤ 10000 → AllReach p.module_ cs → NoneDeep (run_calls p false cs replies d n) →
    (m : ℕ) × (n ≤ m) × (m ≤ (n + 2 * length cs) * factor) × AllAlike (run_calls p false cs replies d n) (run_calls p' true cs replies (d + 2) m)

-- and behind each call of the other that traps its flag is 0
abbrev pub EntriesLowerFlag : Program → Program → Type 0
EntriesLowerFlag p p' =
    (cs : List Calling) (replies : List Reply) (d n i k : ℕ) (r : Ran) (c : Config) → 1 ≤ d → d ≤ 10000 → AllReach p.module_ cs → NoneDeep (run_calls p false cs replies d n) →
    slice_get (run_calls p' true cs replies (d + 2) n) i ≡ Some r → r.outcome ≡ trapped k → r.last ≡ Some c → slice_get c.world.globals (length p.module_.globals) ≡ Some (values.I32 0)
