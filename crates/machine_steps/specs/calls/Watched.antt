-- What a watched run tells.
use Rattle.std.specs.Prelude.{◌≡◌, ℕ, suc, ◌≤◌, List, [], ◌∷◌, ◌++◌, length, Option, Some, None}
use Rattle.wasm_syntax.specs.declared.module.ModuleParts.{ModuleParts as Module}
use Rattle.wasm_syntax.specs.Machine.{Engine, Config}
use Rattle.machine_steps.specs.declared.layout.CallFrame.{CallFrame}
use Rattle.machine_steps.specs.declared.machine.Machine.{Machine}
use Rattle.machine_code.specs.declared.prepared.Prepared.{Prepared}
use Rattle.machine_steps.specs.declared.machine.Outcome.{Outcome}
use Rattle.machine_steps.specs.declared.machine.Outcome.TheVariants.{Next, Ended, Trap, Import, NoMemory, Stuck}
use Rattle.machine_steps.specs.declared.watch.Position.{Position}
use Rattle.machine_steps.specs.Places.{Place, step_places}
use Rattle.machine_steps.specs.calls.Runs.{Begins}

abbrev pub innermost : List CallFrame → ℕ → Option Position
innermost [] at = None
innermost (e ∷ es) at = Some (record { function = e.function; index = at })

-- the innermost frame and its next instruction
abbrev pub position_of : Machine → Option Position
position_of m = innermost m.stack.frames m.stack.position

-- how many steps were seen, where so many were made: the call of an import is seen, and not made yet
abbrev pub IsCount : Outcome → (steps count : ℕ) → Type 0
IsCount Next steps count = count ≡ steps
IsCount Ended steps count = count ≡ steps
IsCount (Trap kind) steps count = count ≡ steps
IsCount (Import call) steps count = count ≡ suc steps
IsCount NoMemory steps count = Unit {0}
IsCount Stuck steps count = Unit {0}

-- so many steps were made and seen, each where the run makes it
pub record Saw {W : Type 0} (saw : Module → W → List (Option Place) → Type 0) (prepared : Prepared) (depth : ℕ) (m : Machine) (count : ℕ) (before now : W) : Type 0 where
  pub made : (M : Engine) (c : Config) → Begins M prepared depth c m → length (step_places M count c) ≡ count
  pub steps : (M : Engine) (c : Config) → Begins M prepared depth c m → (seen : List (Option Place)) → saw M.program.module_ before seen → saw M.program.module_ now (seen ++ step_places M count c)

-- what a run with this fuel came to in so many steps was seen
pub record Watched {W : Type 0} (saw : Module → W → List (Option Place) → Type 0) (prepared : Prepared) (depth fuel : ℕ) (m : Machine) (outcome : Outcome) (steps : ℕ) (before now : W) : Type 0 where
  pub count : ℕ
  pub few : count ≤ fuel
  pub is : IsCount outcome steps count
  pub seen : Saw saw prepared depth m count before now
