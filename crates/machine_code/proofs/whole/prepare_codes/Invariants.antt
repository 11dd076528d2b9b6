use Rattle.std.proofs.Common.{◌≡◌}
use Rattle.wasm_syntax.specs.Module.{Program, IsProgram}
use Rattle.machine_code.specs.inner.Codes.{PreparesUpTo}
use Rattle.machine_code.proofs.whole.prepare_codes.Given as goal

abbrev pub invariant-loop-body : goal.invariant-loop-body
invariant-loop-body l = record {
  place : l.i ≡ l.body-index;
  so_far : ((p : Program) → p.module_ ≡ l.fn.lists → IsProgram p → PreparesUpTo p l.i l.codes.items);
}
