use Rattle.std.proofs.Common.{◌≡◌, drop}
use Rattle.std.specs.Prelude.{find}
use Rattle.wasm_machine.specs.inner.Callees.{is_entry}
use Rattle.wasm_machine.proofs.entries.entry_function.Given as goal

abbrev pub invariant-loop-export : goal.invariant-loop-export
invariant-loop-export l = find (λ e. is_entry e l.fn.entry) (drop l.export-index l.exports) ≡ find (λ e. is_entry e l.fn.entry) l.exports
