-- Counts of steps, by the instructions at which they are made.
use Rattle.std.specs.Prelude.{◌≡◌, ℕ, suc, ◌+◌, ◌<◌, ◌^◌, Bool, List, [], ◌∷◌, length, count_by, Option, Some, None, if◌then◌else◌}
use Rattle.wasm_syntax.specs.declared.instruction.Op.{Op}
use Rattle.wasm_syntax.specs.declared.parts.Body.{Body}
use Rattle.wasm_syntax.specs.declared.module.ModuleParts.{ModuleParts as Module}
use Rattle.machine_steps.specs.Places.{Place}

-- for each function that a module defines a count for each of its instructions, and how many steps were made at none
pub record Counts : Type 0 where
  pub cells : List (List ℕ)
  pub elsewhere : ℕ

-- a count for each instruction
abbrev pub Fits : List Body → List (List ℕ) → Type 0
Fits [] [] = Unit {0}
Fits [] (c ∷ cs) = ⊥
Fits (b ∷ bs) [] = ⊥
Fits (b ∷ bs) (c ∷ cs) = (length c ≡ length b.ops) × Fits bs cs

-- ---- the sum of the counts at the places that pass

abbrev pub body_sum : (Option Place → Bool) → ℕ → List Op → List ℕ → ℕ
body_sum passes f [] ns = 0
body_sum passes f (op ∷ ops) [] = 0
body_sum passes f (op ∷ ops) (n ∷ ns) = (if passes (Some (record { function = f; offset = op.at })) then n else 0) + body_sum passes f ops ns

-- where the first one is the function of an index
abbrev pub bodies_sum : (Option Place → Bool) → ℕ → List Body → List (List ℕ) → ℕ
bodies_sum passes f [] cs = 0
bodies_sum passes f (b ∷ bs) [] = 0
bodies_sum passes f (b ∷ bs) (c ∷ cs) = body_sum passes f b.ops c + bodies_sum passes (suc f) bs cs

abbrev pub sum_where : (Option Place → Bool) → Module → Counts → ℕ
sum_where passes m t = bodies_sum passes (length m.imports) m.bodies t.cells + (if passes None then t.elsewhere else 0)

-- The counts are those of steps that were made at these places: at those that pass a test are as many as pass it, whatever it is. Counts
-- have 64 bits.
pub record Counted (m : Module) (t : Counts) (seen : List (Option Place)) : Type 0 where
  pub fits : Fits m.bodies t.cells
  pub sums : length seen < 2 ^ 64 → (passes : Option Place → Bool) → sum_where passes m t ≡ count_by passes seen
