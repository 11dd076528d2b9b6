-- Instructions at ascending offsets.
use Rattle.std.specs.Prelude.{ℕ, suc, min, List, [], ◌∷◌}
use Rattle.wasm_syntax.specs.declared.instruction.Op.{Op}

-- each at the offset of its number, counted from this one on, up to the greatest number of 32 bits
abbrev pub numbered : ℕ → List Op → List Op
numbered n [] = []
numbered n (o ∷ os) = record o { at = min n 4294967295 } ∷ numbered (suc n) os
