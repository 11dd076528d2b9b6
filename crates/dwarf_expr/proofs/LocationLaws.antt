-- Expressions that are one WASM_location alone.
use Rattle.std.proofs.Common.{◌≡◌, ℕ, zero, suc, ◌-◌, ◌<◌, ◌≤◌, Bool, true, false, List, [], ◌∷◌, length, Some, None, refl, sym, ap, ◌∙◌, arith}
use Rattle.std.specs.Prelude.{◌==◌, ◌&&◌}
use Rattle.wasm_bytes.specs.Place.{Place, Read, Moves}
use Rattle.wasm_bytes.specs.Reading.{byte_item}
use Rattle.wasm_bytes.specs.Laws.{got, failed}
use Rattle.dwarf_expr.specs.declared.operators.PlacedOperator.{PlacedOperator}
use Rattle.dwarf_expr.specs.Decode.{others_behind, from_opcode, operators_from, operators}
use Rattle.dwarf_expr.specs.Meaning.{is_empty, is_location}
use Rattle.dwarf_expr.specs.inner.Steps.{IfKnown, IsNext}
use Rattle.dwarf_expr.proofs.Turns.{none_left, none_next, byte_inside, if_known}

pub none_there : (p : Place) (at n : ℕ) → byte_item p ≡ failed {A = ℕ} at → true ≡ is_empty (operators_from n p)
none_there p at n e = ap is_empty (sym (none_left p p n (none_next p p at e)))

first_there : (p q : Place) (opcode n : ℕ) → byte_item p ≡ got opcode q → false ≡ is_empty (operators_from (suc n) p)
unfolding operators_from
first_there p q opcode n e = sym (ap (λ (r : Read ℕ). is_empty (from_opcode p.at r (λ q. operators_from n q))) e)

pub some_there : (p q : Place) (opcode n : ℕ) → byte_item p ≡ got opcode q → length p.block - p.at ≤ n → false ≡ is_empty (operators_from n p)
some_there p q opcode zero e left = let inside = byte_inside p q opcode e in absurd (omega (arith, inside, left))
some_there p q opcode (suc n) e left = first_there p q opcode n e

-- the first operator, and those behind it
alone_by : (x : PlacedOperator) (xs : List PlacedOperator) → (is_empty xs && x.opcode == 0xed) ≡ is_location (x ∷ xs)
alone_by x [] = refl
alone_by x (y ∷ ys) = refl

abbrev begins : List ℕ → Place
begins bytes = record { block = bytes; at = 0 }

operators_are : (bytes : List ℕ) (p : Place) → p ≡ begins bytes → operators bytes ≡ operators_from (length bytes) p
unfolding operators
operators_are bytes p start = ap (λ (q : Place). operators_from (length bytes) q) (sym start)

pub none_alone : (bytes : List ℕ) (p after : Place) → p ≡ begins bytes → IsNext None after p → false ≡ is_location (operators bytes)
none_alone bytes p after start next = ap is_location (sym (operators_are bytes p start ∙ none_left p after (length bytes) next))

pub first_alone : (bytes : List ℕ) (p after : Place) (x : PlacedOperator) (last : Bool) → p ≡ begins bytes → IsNext (Some x) after p → p.at < length p.block → IfKnown x.begun (Moves p after)
    → ((n : ℕ) → IfKnown x.begun (length after.block - after.at ≤ n) → last ≡ is_empty (others_behind x.begun (operators_from n after)))
    → (last && x.opcode == 0xed) ≡ is_location (operators bytes)
first_alone bytes p after x last start next inside moves ends =
    let n = length bytes - 1 in
    let block : p.block ≡ bytes = ap (λ (q : Place). q.block) start in
    let more : length bytes ≡ suc n = omega (arith, inside, ap length block) in
    let left : IfKnown x.begun (length after.block - after.at ≤ n) =
    if_known x.begun (Moves p after) (length after.block - after.at ≤ n) (λ (k : Moves p after). omega (arith, k.0, ap length k.1, ap length block, inside)) moves in
    ap (λ (b : Bool). b && x.opcode == 0xed) (ends n left)
    ∙ alone_by x (others_behind x.begun (operators_from n after))
    ∙ ap is_location (sym (operators_are bytes p start ∙ ap (λ (k : ℕ). operators_from k p) more ∙ next n))
