-- The `br_table`s of a body that take up its targets in order lie inside them.
use Rattle.std.proofs.Common.{◌≡◌, ℕ, zero, suc, ◌+◌, ◌<◌, ◌≤◌, List, [], ◌∷◌, length, get_or, map, subst, sym, arith}
use Rattle.std.specs.List.{AllByRecursion}
use Rattle.wasm_syntax.specs.declared.instruction.Instr.{Instr}
use Rattle.wasm_syntax.specs.declared.instruction.Instr.TheVariants as instr
use Rattle.wasm_syntax.specs.declared.instruction.Jump.TheVariants as jumps
use Rattle.wasm_syntax.specs.declared.instruction.Op.{Op}
use Rattle.wasm_syntax.specs.declared.parts.Body.{Body}
use Rattle.wasm_syntax.specs.Module.{TakeUp, InOrder}
use Rattle.wasm_format.specs.Encoding.{IsInside}

-- the targets behind an instruction
abbrev pub behind : ℕ → Instr → ℕ
behind at (instr.Jump (jumps.BrTable start count default)) = at + count
behind at i = at

-- one instruction takes up its targets, and the others take up the rest
pub taken : (at n : ℕ) (i : Instr) (is : List Instr) → TakeUp at (i ∷ is) n → TakeUp (behind at i) is n
taken at n (instr.Basic i) is t = t
taken at n (instr.Jump jumps.Unreachable) is t = t
taken at n (instr.Jump (jumps.Br l)) is t = t
taken at n (instr.Jump (jumps.BrIf l)) is t = t
taken at n (instr.Jump (jumps.BrTable start count default)) is t = t.1
taken at n (instr.Jump jumps.Return) is t = t
taken at n (instr.Jump (jumps.Call f)) is t = t
taken at n (instr.Jump (jumps.CallIndirect f)) is t = t
taken at n (instr.Block b) is t = t
taken at n (instr.Loop b) is t = t
taken at n (instr.If b) is t = t
taken at n instr.Else is t = t
taken at n instr.End is t = t

grows : (at : ℕ) (i : Instr) → at ≤ behind at i
grows at (instr.Basic i) = omega arith
grows at (instr.Jump jumps.Unreachable) = omega arith
grows at (instr.Jump (jumps.Br l)) = omega arith
grows at (instr.Jump (jumps.BrIf l)) = omega arith
grows at (instr.Jump (jumps.BrTable start count default)) = omega arith
grows at (instr.Jump jumps.Return) = omega arith
grows at (instr.Jump (jumps.Call f)) = omega arith
grows at (instr.Jump (jumps.CallIndirect f)) = omega arith
grows at (instr.Block b) = omega arith
grows at (instr.Loop b) = omega arith
grows at (instr.If b) = omega arith
grows at instr.Else = omega arith
grows at instr.End = omega arith

within : (at n : ℕ) (is : List Instr) → TakeUp at is n → at ≤ n
within at n [] t = omega (arith, t)
within at n (i ∷ is) t = omega (arith, grows at i, within (behind at i) n is (taken at n i is t))

inside : (at : ℕ) (i : Instr) (is : List Instr) (targets : List ℕ) → TakeUp at (i ∷ is) (length targets) → behind at i ≤ length targets → IsInside targets i
inside at (instr.Basic i) is ts t le = tt
inside at (instr.Jump jumps.Unreachable) is ts t le = tt
inside at (instr.Jump (jumps.Br l)) is ts t le = tt
inside at (instr.Jump (jumps.BrIf l)) is ts t le = tt
inside at (instr.Jump (jumps.BrTable start count default)) is ts t le = omega (arith, t.0)
inside at (instr.Jump jumps.Return) is ts t le = tt
inside at (instr.Jump (jumps.Call f)) is ts t le = tt
inside at (instr.Jump (jumps.CallIndirect f)) is ts t le = tt
inside at (instr.Block b) is ts t le = tt
inside at (instr.Loop b) is ts t le = tt
inside at (instr.If b) is ts t le = tt
inside at instr.Else is ts t le = tt
inside at instr.End is ts t le = tt

pub first_inside : (at : ℕ) (i : Instr) (is : List Instr) (targets : List ℕ) → TakeUp at (i ∷ is) (length targets) → IsInside targets i
first_inside at i is ts t = inside at i is ts t (within (behind at i) (length ts) is (taken at (length ts) i is t))

pub all_inside : (at : ℕ) (ops : List Op) (targets : List ℕ) → TakeUp at (map (λ o. o.code) ops) (length targets) → AllByRecursion (λ o. IsInside targets o.code) ops
all_inside at [] ts t = tt
all_inside at (o ∷ os) ts t =
    let is = map (λ p. p.code) os in
    (first_inside at o.code is ts t, all_inside (behind at o.code) os ts (taken at (length ts) o.code is t))

-- what holds of each element holds of the one at an index
pub at_index : {A : Type 0} (P : A → Type 0) (xs : List A) (i : ℕ) (d : A) → AllByRecursion P xs → i < length xs → P (get_or xs i d)
at_index P [] i d all lt = absurd (omega arith)
at_index P (x ∷ xs) zero d all lt = all.0
at_index P (x ∷ xs) (suc i) d all lt = at_index P xs i d all.1 (omega arith)

pub op_inside : (body : Body) (ops : List Op) (i : ℕ) (d : Op) → InOrder body → ops ≡ body.ops → i < length ops → IsInside body.targets (get_or ops i d).code
op_inside body ops i d order same lt =
    let all : AllByRecursion (λ o. IsInside body.targets o.code) ops = subst (λ (os : List Op). AllByRecursion (λ o. IsInside body.targets o.code) os) (sym same) (all_inside 0 body.ops body.targets order.targets) in
    at_index (λ (o : Op). IsInside body.targets o.code) ops i d all lt
