-- What the parts of the code do: each performs instructions of one kind.
use Rattle.std.specs.Prelude.{◌≡◌, ℕ, ◌-◌, ◌^◌, List, ◌∷◌, Option, Some, None}
use Rattle.linear_memory.specs.Memory.{Memory, pages, grow}
use Rattle.linear_memory.specs.calls.Paged.{Paged}
use Rattle.machine_basics.specs.calls.Traps.{trap_code}
use Rattle.wasm_syntax.specs.declared.value.Value.{Value}
use Rattle.wasm_syntax.specs.declared.value.Value.TheVariants as values
use Rattle.wasm_syntax.specs.Effect.{Effect}
use Rattle.wasm_syntax.specs.Host.{World}
use Rattle.machine_basics.specs.declared.answer.Performed.{Performed}
use Rattle.machine_basics.specs.declared.answer.Performed.TheVariants.{Done, Trap, NoMemory}
use Rattle.machine_basics.specs.declared.shared.Shared.{Shared}
use Rattle.machine_basics.specs.calls.Performs.{Does, Holds, laid_out}

-- the operands then; the locals and the world are the same
abbrev pub Acts : Effect → Performed → World → (locals operands : List Value) → Type 0
Acts e answer w ls operands = Does e answer (λ w' ls' vs. (w' ≡ w) × (ls' ≡ ls) × (operands ≡ vs))

-- the values of a frame then; the world is the same
abbrev pub Moves : Effect → Performed → World → (below values : List Value) → Type 0
Moves e answer w below values = Does e answer (λ w' ls vs. (w' ≡ w) × (values ≡ laid_out vs ls below))

-- the operands and what is shared then; the locals are the same
abbrev pub Changes : Effect → Performed → (locals operands : List Value) → Shared → Type 0
Changes e answer ls operands shared = Does e answer (λ w ls' vs. (ls' ≡ ls) × (operands ≡ vs) × Holds shared w)

-- a value was put on top, or memory was wanting
abbrev pub Pushes : Performed → Value → (old new : List Value) → Type 0
Pushes Done v old new = new ≡ v ∷ old
Pushes (Trap kind) v old new = ⊥
Pushes NoMemory v old new = new ≡ old

-- a memory was written to as this says, or the range passes its end
abbrev pub Writes : Option Memory → Performed → (old new : Paged) → Type 0
Writes (Some m) Done old new = new.memory ≡ m
Writes (Some m) (Trap kind) old new = ⊥
Writes (Some m) NoMemory old new = new ≡ old
Writes None Done old new = ⊥
Writes None (Trap kind) old new = (trap_code kind ≡ 4) × (new ≡ old)
Writes None NoMemory old new = ⊥

-- a memory grew by n pages, and the answer is its size before, or -1 as an i32 where there would be too many pages
abbrev pub GrowsTo : Option Memory → (answer : ℕ) → (old new : Paged) → Type 0
GrowsTo None answer old new = (answer ≡ 2 ^ 32 - 1) × (new ≡ old)
GrowsTo (Some m) answer old new = (answer ≡ pages old.memory) × (new.memory ≡ m)

abbrev pub Grows : Option ℕ → (old new : Paged) → ℕ → Type 0
Grows None old new n = new ≡ old
Grows (Some answer) old new n = GrowsTo (grow old.memory n) answer old new

-- the three topmost operands, the topmost first, where they are i32s
abbrev pub three_numbers : List Value → Option (ℕ × ℕ × ℕ)
three_numbers (values.I32 a ∷ values.I32 b ∷ values.I32 c ∷ vs) = Some (a, b, c)
three_numbers vs = None
