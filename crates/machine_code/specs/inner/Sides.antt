-- The side table of a flat body, read from its end to its start.
use Rattle.std.specs.Prelude.{ℕ, suc, List, [], ◌∷◌}
use Rattle.wasm_syntax.specs.Tree.{Item, Plain, Goes, Opens, OpensLoop, OpensIf, Else, End, Placed}
use Rattle.machine_code.specs.declared.sides.Side.{Side}

-- the blocks whose ends were read and not yet their starts, the innermost first, and the table of what was read
pub record Scan : Type 0 where
  pub opens : List Side
  pub sides : List Side

abbrev pub no_side : Side
no_side = record { arm = 0; end = 0 }

abbrev pub top : List Side → Side
top [] = no_side
top (s ∷ ss) = s

abbrev pub below : List Side → List Side
below [] = []
below (s ∷ ss) = ss

-- the second arm of the innermost begins here
abbrev pub with_arm : ℕ → List Side → List Side
with_arm pc [] = []
with_arm pc (s ∷ ss) = record { arm = pc; end = s.end } ∷ ss

-- the instruction at an index, in front of those that were read
abbrev pub scan_one : ℕ → Item → Scan → Scan
scan_one pc (Plain i) s = record { opens = s.opens; sides = no_side ∷ s.sides }
scan_one pc (Goes j) s = record { opens = s.opens; sides = no_side ∷ s.sides }
scan_one pc (Opens t) s = record { opens = below s.opens; sides = top s.opens ∷ s.sides }
scan_one pc (OpensLoop t) s = record { opens = below s.opens; sides = top s.opens ∷ s.sides }
scan_one pc (OpensIf t) s = record { opens = below s.opens; sides = top s.opens ∷ s.sides }
scan_one pc Else s = record { opens = with_arm (suc pc) s.opens; sides = no_side ∷ s.sides }
scan_one pc End s = record { opens = record { arm = pc; end = suc pc } ∷ s.opens; sides = no_side ∷ s.sides }

-- all from this index on
abbrev pub scan : ℕ → List Placed → Scan
scan pc [] = record { opens = []; sides = [] }
scan pc (o ∷ os) = scan_one pc o.code (scan (suc pc) os)
