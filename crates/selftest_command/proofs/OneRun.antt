-- One module has one run.
use Rattle.std.proofs.Common.{◌≡◌, ℕ, Bool, [], ◌∷◌, slice_get, sym, ap, ◌∙◌}
use Rattle.wasm_syntax.specs.declared.module.ModuleParts.{ModuleParts as Module}
use Rattle.wasm_syntax.specs.Run.{run}
use Rattle.wasm_laws.proofs.OneProgram.{same_program}
use Rattle.selftest_command.specs.Handing.{main_on, fuel, depth, RunsOnce}
use Rattle.pm_text.proofs.Lists.{some_is}

pub one_program : (collecting : Bool) (n : ℕ) (m other : Module) → m ≡ other → (r : RunsOnce collecting n m) (s : RunsOnce collecting n other) → r.program ≡ s.program
one_program collecting n m other same r s = same_program other r.program s.program (r.of_module ∙ same) s.of_module r.writes_out s.writes_out

pub one_run : (collecting : Bool) (n : ℕ) (m other : Module) → m ≡ other → (r : RunsOnce collecting n m) (s : RunsOnce collecting n other) → r.ran ≡ s.ran
one_run collecting n m other same r s =
    some_is (ap (λ l. slice_get l 0) (sym r.runs ∙ ap (λ p. run p collecting (main_on n ∷ []) [] (depth collecting) fuel) (one_program collecting n m other same r s) ∙ s.runs))
