-- What performing an instruction does to the values of a frame and to what frames share (Core 4.4.1 to 4.4.4).
use Rattle.std.specs.Prelude.{◌≡◌, Bool, true, false, ◌++◌, List, reverse, option_map}
use Rattle.wasm_syntax.specs.declared.value.Value.{Value}
use Rattle.wasm_syntax.specs.declared.instruction.Basic.{Basic}
use Rattle.wasm_syntax.specs.declared.instruction.Basic.TheVariants.{LocalGet, GlobalGet, Store, MemorySize, MemoryGrow, MemoryCopy, MemoryFill, Const}
use Rattle.wasm_syntax.specs.Effect.{Effect, gives, fails, unfit, effect, takes}
use Rattle.wasm_syntax.specs.Host.{World}
use Rattle.wasm_syntax.specs.Machine.{Cut, short, parts, cut}
use Rattle.machine_basics.specs.declared.answer.Performed.{Performed}
use Rattle.machine_basics.specs.declared.answer.Performed.TheVariants.{Done, Trap, NoMemory}
use Rattle.machine_basics.specs.declared.shared.Shared.{Shared}
use Rattle.machine_basics.specs.calls.Traps.{trap_code}

-- ---- the effect on all operands

-- the results stand above the operands that were not taken
abbrev pub above : List Value → Effect → Effect
above rest (gives w ls vs) = gives w ls (vs ++ rest)
above rest (fails kind) = fails kind
above rest unfit = unfit

abbrev pub on_cut : Basic → World → List Value → Cut → Effect
on_cut i w ls short = unfit
on_cut i w ls (parts taken rest) = above rest (effect i w ls taken)

-- what an instruction does, given locals and operands, the topmost operand first
abbrev pub on_operands : Basic → World → (locals operands : List Value) → Effect
on_operands i w ls vs = on_cut i w ls (cut (takes i) vs)

-- ---- what the code holds

-- the values of a frame: its operands over its locals over what lies below the frame, the topmost first
abbrev pub laid_out : (operands locals below : List Value) → List Value
laid_out operands locals below = operands ++ (reverse locals ++ below)

-- the globals and the memory of a world
pub record Holds (shared : Shared) (w : World) : Type 0 where
  pub globals : w.globals ≡ shared.globals
  pub memory : w.memory ≡ option_map (λ m. m.memory) shared.memory

-- ---- what was done

-- Where an instruction fits, what holds then is as the effect gives it, or it traps with this kind. Memory may be wanting where it does
-- not trap.
abbrev pub Does : Effect → Performed → (then_holds : World → List Value → List Value → Type 0) → Type 0
Does (gives w ls vs) Done then_holds = then_holds w ls vs
Does (gives w ls vs) (Trap kind) then_holds = ⊥
Does (gives w ls vs) NoMemory then_holds = Unit {0}
Does (fails kind) Done then_holds = ⊥
Does (fails kind) (Trap k) then_holds = trap_code k ≡ kind
Does (fails kind) NoMemory then_holds = ⊥
Does unfit answer then_holds = Unit {0}

-- the values of a frame and what is shared, then
abbrev pub Did : Effect → Performed → (below values : List Value) → Shared → Type 0
Did e answer below values shared = Does e answer (λ w ls vs. (values ≡ laid_out vs ls below) × Holds shared w)

-- nothing is said after Done
abbrev pub UnlessDone : Performed → Type 0 → Type 0
UnlessDone Done P = Unit {0}
UnlessDone (Trap kind) P = P
UnlessDone NoMemory P = P

-- where a value is put on the stack, a page is made or pages are added
abbrev pub takes_memory : Basic → Bool
takes_memory (LocalGet x) = true
takes_memory (GlobalGet x) = true
takes_memory (Store l align offset) = true
takes_memory MemorySize = true
takes_memory MemoryGrow = true
takes_memory MemoryCopy = true
takes_memory MemoryFill = true
takes_memory (Const v) = true
takes_memory i = false
