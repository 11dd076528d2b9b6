use Rattle.std.proofs.Common.{refl, sym, ap, subst, ◌∙◌}
use Rattle.wasm_syntax.specs.Module.{IsModule}
use Rattle.wasm_syntax.specs.declared.module.ModuleParts.{ModuleParts as Module}
use Rattle.replay_command.specs.inner.Steps.{Seat}
use Rattle.replay_command.proofs.Turns.{told_all}
use Rattle.replay_command.proofs.answering.told.Goals as goal

pub returns-in-Ok-clause-value : goal.returns-in-Ok-clause-value
returns-in-Ok-clause-value c =
    let r = c.args.replayer in
    let v = c.new-viewer.result in
    let whole = subst (λ (m : Module). IsModule m) (sym c.requires.starts.module_) (subst IsModule (c.parts-parts.ensures.value ∙ c.«module».ensures.value) c.parts-parts.ensures.whole) in
    record { done = refl; prints = told_all r.recording.module_ r v c.args.bytes.now c.args.commands.now c.in-Ok.text whole refl (ap (λ (s : Seat). s.bytes) c.new-viewer.ensures) c.in-Ok.ensures }
