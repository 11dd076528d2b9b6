-- What is known of a function's context.
use Rattle.std.specs.Prelude.{◌≡◌, ℕ, List, slice_get, Some, true}
use Rattle.wasm_syntax.specs.declared.instruction.Instr.{Instr}
use Rattle.wasm_syntax.specs.declared.instruction.Instr.TheVariants as instrs
use Rattle.wasm_syntax.specs.declared.instruction.Op.{Op}
use Rattle.wasm_syntax.specs.declared.instruction.Jump.{Jump}
use Rattle.wasm_syntax.specs.declared.instruction.Jump.TheVariants as jumps
use Rattle.rewrite_bodies.specs.Numbering.{helper_base, is_in}
use Rattle.rewrite_bodies.specs.calls.Slots.{Ctx}
use Rattle.rewrite_modules.specs.Weight.{types_used}

-- its helpers are those of its module
pub record HasHelpers (C : Ctx) : Type 0 where
  pub base : C.base ≡ helper_base C.source
  pub types : C.helpers ≡ types_used C.source

-- the type of a `call_indirect` has a helper
abbrev pub JumpHelped : Ctx → Jump → Type 0
JumpHelped C (jumps.CallIndirect t) = is_in t (types_used C.source) ≡ true
JumpHelped C j = Unit {0}

abbrev pub Helped : Ctx → Instr → Type 0
Helped C (instrs.Jump j) = JumpHelped C j
Helped C i = Unit {0}

-- so have all of a list
abbrev pub AllHelped : Ctx → List Op → Type 0
AllHelped C ops = (j : ℕ) (o : Op) → slice_get ops j ≡ Some o → Helped C o.code
