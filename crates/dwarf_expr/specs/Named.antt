-- The operands that an expression names (DWARF for WebAssembly: locations of operands).
use Rattle.std.specs.Prelude.{ℕ, nat_le, Bool, false, ◌||◌, List, [], ◌∷◌}
use Rattle.dwarf_expr.specs.declared.operators.Space.TheVariants.{Operand}
use Rattle.dwarf_expr.specs.declared.operators.Operator.TheVariants as op
use Rattle.dwarf_expr.specs.declared.operators.Begun.{Begun}
use Rattle.dwarf_expr.specs.declared.operators.Begun.TheVariants.{Known}
use Rattle.dwarf_expr.specs.declared.operators.PlacedOperator.{PlacedOperator}

-- the place of an operand of this number or a greater one, counted from the bottom
abbrev pub is_operand_from : ℕ → Begun → Bool
is_operand_from least (Known (op.Location Operand n)) = nat_le least n
is_operand_from least begun = false

-- some operator is one
abbrev pub names_operand_from : ℕ → List PlacedOperator → Bool
names_operand_from least [] = false
names_operand_from least (x ∷ xs) = is_operand_from least x.begun || names_operand_from least xs
