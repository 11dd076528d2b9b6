-- What a run of a machine comes to (Core 4.4).
use Rattle.std.specs.Prelude.{◌≡◌, ◌≢◌, ℕ, ◌+◌, ◌≤◌, ◌<◌, List}
use Rattle.wasm_syntax.specs.declared.value.Value.{Value}
use Rattle.wasm_syntax.specs.declared.host.CollectorCall.{CollectorCall}
use Rattle.wasm_syntax.specs.Host.{World}
use Rattle.wasm_syntax.specs.Machine as steps
use Rattle.wasm_syntax.specs.Machine.{Engine, Config, step}
use Rattle.wasm_syntax.specs.Run.{run_steps, ended}
use Rattle.machine_basics.specs.calls.Traps.{trap_code}
use Rattle.machine_code.specs.declared.code.Code.{Code}
use Rattle.machine_steps.specs.declared.machine.Machine.{Machine}
use Rattle.machine_code.specs.declared.prepared.Prepared.{Prepared}
use Rattle.machine_steps.specs.declared.machine.ImportCall.{ImportCall}
use Rattle.machine_steps.specs.declared.machine.Outcome.{Outcome}
use Rattle.machine_steps.specs.declared.machine.Outcome.TheVariants.{Next, Ended, Trap, Import, NoMemory, Stuck}
use Rattle.machine_code.specs.calls.Prepares.{IsPrepared}
use Rattle.machine_steps.specs.calls.Meets.{StandsFor, SameHost, Then, Left, CallsImport}

-- a run begins with a machine that stands for a configuration from which no run gets stuck
pub record Begins (M : Engine) (prepared : Prepared) (depth : ℕ) (c : Config) (m : Machine) : Type 0 where
  pub is_prepared : IsPrepared M.program prepared
  pub depth_is : M.depth ≡ depth
  pub stands : StandsFor M.program prepared.codes.items m c
  pub safe : (n : ℕ) → (run_steps M n c).what ≢ steps.stuck

module _ (M : Engine) (codes : List Code) (c : Config) where
  -- so many steps lead to a configuration, however many follow
  abbrev pub Leads : ℕ → Config → Type 0
  Leads n c' = (k : ℕ) → run_steps M (n + k) c ≡ run_steps M k c'

  -- so many steps come to an end
  abbrev pub Stops : ℕ → steps.Stepped → Type 0
  Stops n s = (k : ℕ) → run_steps M (n + k) c ≡ ended s k

  -- after so many steps the machine stands where the run is
  pub record Reached (n : ℕ) (m : Machine) : Type 0 where
    pub there : Config
    pub leads : Leads n there
    pub then_is : Then M.program codes c.world c.collected m there

  pub record EndedAfter (n : ℕ) (m : Machine) : Type 0 where
    pub world : World
    pub results : List Value
    pub collected : List CollectorCall
    pub stops : Stops n (steps.ends world results collected)
    pub left : Left c.world c.collected m world results collected

  pub record TrappedAfter (n kind : ℕ) (m : Machine) : Type 0 where
    pub there : Config
    pub stops : Stops n (steps.traps kind there)
    pub then_is : Then M.program codes c.world c.collected m there

  -- the next step calls an import
  pub record CallsAfter (n : ℕ) (call : ImportCall) (m : Machine) : Type 0 where
    pub there : Config
    pub leads : Leads n there
    pub host : SameHost c.world c.collected there.world there.collected
    pub calls : CallsImport M codes there call (step M there) m

  -- what a run with this fuel comes to in so many steps
  abbrev pub Came : ℕ → Outcome → ℕ → Machine → Type 0
  Came fuel Next n m = (n ≡ fuel) × Reached n m
  Came fuel Ended n m = (n ≤ fuel) × EndedAfter n m
  Came fuel (Trap kind) n m = (n ≤ fuel) × TrappedAfter n (trap_code kind) m
  Came fuel (Import call) n m = (n < fuel) × CallsAfter n call m
  Came fuel NoMemory n m = n ≤ fuel
  Came fuel Stuck n m = ⊥
