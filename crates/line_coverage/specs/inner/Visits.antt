-- Counts of instructions by the instructions' addresses.
use Rattle.std.specs.Prelude.{ℕ, ◌+◌, ◌%◌, ◌^◌, Bool, List, [], ◌∷◌, if◌then◌else◌}
use Rattle.wasm_syntax.specs.declared.instruction.Op.{Op}
use Rattle.wasm_syntax.specs.declared.parts.Body.{Body}

abbrev pub op_sum : ℕ → ℕ → (ℕ → Bool) → ℕ
op_sum address n passes = if passes address then n else 0

abbrev pub ops_sum : ℕ → List Op → List ℕ → (ℕ → Bool) → ℕ
ops_sum start [] ns passes = 0
ops_sum start (op ∷ ops) [] passes = 0
ops_sum start (op ∷ ops) (n ∷ ns) passes = op_sum ((start + op.at) % 2 ^ 32) n passes + ops_sum start ops ns passes

abbrev pub bodies_sum : List Body → List (List ℕ) → (ℕ → Bool) → ℕ
bodies_sum [] cs passes = 0
bodies_sum (b ∷ bs) [] passes = 0
bodies_sum (b ∷ bs) (c ∷ cs) passes = ops_sum b.start b.ops c passes + bodies_sum bs cs passes
