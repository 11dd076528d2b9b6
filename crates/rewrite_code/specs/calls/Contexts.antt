-- What is fixed in a function that is rewritten.
use Rattle.std.specs.Prelude.{ℕ, ◌+◌, ◌*◌, ◌^◌, ◌<◌, List, length, Option}
use Rattle.wasm_syntax.specs.declared.value.ValType.{ValType}
use Rattle.wasm_syntax.specs.declared.module.ModuleParts.{ModuleParts as Module}
use Rattle.rewrite_bodies.specs.Numbering.{helper_base}
use Rattle.rewrite_bodies.specs.calls.Slots.{Landing, Derivation, Ctx}
use Rattle.rewrite_modules.specs.Weight.{types_used}

-- a function of this module: the types of its locals, the number of heights, its index, what it gives, its landings, the offsets that need a
-- guard, and the locals that are worked out where it is left
abbrev pub context : Module → List ValType → ℕ → ℕ → Option ValType → List Landing → List ℕ → List Derivation → Ctx
context m locals slots index gives landings exposed derivations =
    record { source = m; base = helper_base m; helpers = types_used m; locals = locals; slots = slots; index = index; result = gives; landings = landings; exposed = exposed; derivations = derivations }

-- all locals have numbers of 32 bits, those added too
abbrev pub FewLocals : List ValType → ℕ → Type 0
FewLocals locals slots = length locals + 2 * slots + 5 < 2 ^ 32
