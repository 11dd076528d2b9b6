-- The outcome of an answer.
use Rattle.std.proofs.Common.{◌≡◌, Bool, Option, subst}
use Rattle.wasm_syntax.specs.declared.value.Value.{Value}
use Rattle.wasm_syntax.specs.declared.parts.Import.{Import}
use Rattle.wasm_syntax.specs.Module.{Program}
use Rattle.wasm_syntax.specs.Run.{Outcome, finished, trapped}
use Rattle.machine_basics.specs.declared.answer.TrapKind.{TrapKind}
use Rattle.machine_basics.specs.calls.Traps.{trap_code}
use Rattle.machine_hosted.specs.declared.answer.RunEnd.{RunEnd}
use Rattle.machine_hosted.specs.declared.answer.RunEnd.TheVariants.{Finished, Trapped}
use Rattle.machine_hosted.specs.calls.Invocations.{HasOutcome}

pub is_finished : (p : Program) (used_up : Import → Bool) (a : RunEnd) (v : Option Value) (o : Outcome) → a ≡ Finished v → HasOutcome p used_up a o → o ≡ finished v
is_finished p used_up a v o is has = subst (λ x. HasOutcome p used_up x o) is has

pub is_trapped : (p : Program) (used_up : Import → Bool) (a : RunEnd) (kind : TrapKind) (o : Outcome) → a ≡ Trapped kind → HasOutcome p used_up a o → o ≡ trapped (trap_code kind)
is_trapped p used_up a kind o is has = subst (λ x. HasOutcome p used_up x o) is has
