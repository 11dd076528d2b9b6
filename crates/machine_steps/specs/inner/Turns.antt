-- Steps in a frame.
use Rattle.std.specs.Prelude.{◌≡◌, ℕ, ◌+◌, ◌<◌, ◌≤◌, List, ◌++◌, Option}
use Rattle.wasm_syntax.specs.declared.module.ModuleParts.{ModuleParts as Module}
use Rattle.wasm_syntax.specs.Machine.{Engine, Config}
use Rattle.machine_code.specs.declared.prepared.Prepared.{Prepared}
use Rattle.machine_steps.specs.declared.machine.Machine.{Machine}
use Rattle.machine_steps.specs.declared.machine.ImportCall.{ImportCall}
use Rattle.machine_steps.specs.declared.machine.Outcome.{Outcome}
use Rattle.machine_steps.specs.declared.machine.Outcome.TheVariants.{Next, Ended, Trap, Import, NoMemory, Stuck}
use Rattle.machine_steps.specs.declared.steps.Turn.{Turn}
use Rattle.machine_steps.specs.declared.steps.Turn.TheVariants.{Straight, Came}
use Rattle.machine_steps.specs.Places.{Place, step_places}
use Rattle.machine_steps.specs.calls.Runs as runs
use Rattle.machine_steps.specs.calls.Runs.{Begins, Reached}
use Rattle.machine_steps.specs.calls.Watches.{places_from}
use Rattle.machine_steps.specs.calls.Watched.{Saw, Watched}

-- what a step came to, with what is told beside of one that may have gone elsewhere
abbrev pub came_to : Turn → Outcome → Outcome
came_to Straight told = Next
came_to Came told = told

-- where the next instruction is run, the frames are as they were
abbrev pub Stays : Turn → Machine → Machine → Type 0
Stays Straight m m' = m'.stack.frames ≡ m.stack.frames
Stays Came m m' = Unit {0}

-- the machine with its position here
abbrev pub placed : ℕ → Machine → Machine
placed here m = record m { stack = record m.stack { position = here } }

-- where a machine stands behind an instruction that was at this position
abbrev pub behind : Turn → ℕ → ℕ
behind Straight here = here + 1
behind Came here = here

-- it came to no call of an import
abbrev pub NoCall : Turn → Outcome → Type 0
NoCall Straight told = Unit {0}
NoCall Came told = (call : ImportCall) → told ≡ Import call → ⊥

-- behind the first n steps of a run so many were made, at the instructions of a function from one on
pub record Ran (prepared : Prepared) (depth : ℕ) (m : Machine) (n function start count : ℕ) (m' : Machine) : Type 0 where
  pub reached : (M : Engine) (c : Config) → Begins M prepared depth c m → Reached M prepared.codes.items c (n + count) m'
  pub places : (M : Engine) (c : Config) → Begins M prepared depth c m → step_places M (n + count) c ≡ step_places M n c ++ places_from M.program.module_ function start count

module _ {W : Type 0} (saw : Module → W → List (Option Place) → Type 0) (prepared : Prepared) (depth : ℕ) (m : Machine) (before : W) where
  -- so many steps of a run were made and seen
  pub record Made (n : ℕ) (m' : Machine) (now : W) : Type 0 where
    pub reached : (M : Engine) (c : Config) → Begins M prepared depth c m → Reached M prepared.codes.items c n m'
    pub seen : Saw saw prepared depth m n before now

  -- the run is at an end by its fuel or otherwise
  pub record Over (fuel : ℕ) (outcome : Outcome) (n : ℕ) (m' : Machine) (now : W) : Type 0 where
    pub came : (M : Engine) (c : Config) → Begins M prepared depth c m → runs.Came M prepared.codes.items c fuel outcome n m'
    pub watched : Watched saw prepared depth fuel m outcome n before now

  -- steps behind the first n came to this: they go on, or the run is over
  abbrev pub Went : (n fuel : ℕ) → Outcome → ℕ → Machine → W → Type 0
  Went n fuel Next n' m' now = (n < n') × (n' ≤ fuel) × Made n' m' now
  Went n fuel Ended n' m' now = Over fuel Ended n' m' now
  Went n fuel (Trap kind) n' m' now = Over fuel (Trap kind) n' m' now
  Went n fuel (Import call) n' m' now = Over fuel (Import call) n' m' now
  Went n fuel NoMemory n' m' now = Over fuel NoMemory n' m' now
  Went n fuel Stuck n' m' now = Over fuel Stuck n' m' now
