-- What one operator tells of the operands that an expression names.
use Rattle.std.proofs.Common.{◌≡◌, ℕ, Bool, true, false, List, [], ◌∷◌, refl, ap}
use Rattle.std.specs.Prelude.{◌||◌}
use Rattle.dwarf_expr.specs.declared.operators.Begun.{Begun}
use Rattle.dwarf_expr.specs.declared.operators.Begun.TheVariants.{Known, Cut, Foreign}
use Rattle.dwarf_expr.specs.declared.operators.PlacedOperator.{PlacedOperator}
use Rattle.dwarf_expr.specs.Decode.{others_behind}
use Rattle.dwarf_expr.specs.Named.{is_operand_from, names_operand_from}
use Rattle.dwarf_expr.specs.inner.Steps.{is_known, IfKnown}

pub moved : (b : Begun) (claim : Type 0) → is_known b ≡ true → IfKnown b claim → claim
moved (Known op) claim known h = h
moved Cut claim known h = absurd cc
moved Foreign claim known h = absurd cc

module _ (least : ℕ) (x : PlacedOperator) (xs : List PlacedOperator) where
  pub named_here : is_operand_from least x.begun ≡ true → names_operand_from least (x ∷ others_behind x.begun xs) ≡ true
  named_here e = ap (λ (t : Bool). t || names_operand_from least (others_behind x.begun xs)) e

  goes_on : (b : Begun) → is_operand_from least b ≡ false → is_known b ≡ true → (is_operand_from least b || names_operand_from least (others_behind b xs)) ≡ names_operand_from least xs
  goes_on (Known op) e known = ap (λ (t : Bool). t || names_operand_from least xs) e
  goes_on Cut e known = absurd cc
  goes_on Foreign e known = absurd cc

  pub named_behind : is_operand_from least x.begun ≡ false → is_known x.begun ≡ true → names_operand_from least (x ∷ others_behind x.begun xs) ≡ names_operand_from least xs
  named_behind e known = goes_on x.begun e known

  ends_here : (b : Begun) → is_operand_from least b ≡ false → is_known b ≡ false → (is_operand_from least b || names_operand_from least (others_behind b xs)) ≡ false
  ends_here (Known op) e known = absurd cc
  ends_here Cut e known = refl
  ends_here Foreign e known = refl

  pub none_named : is_operand_from least x.begun ≡ false → is_known x.begun ≡ false → names_operand_from least (x ∷ others_behind x.begun xs) ≡ false
  none_named e known = ends_here x.begun e known
