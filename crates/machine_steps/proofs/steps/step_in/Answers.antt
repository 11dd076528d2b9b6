use Rattle.std.proofs.Common.{sym, ap, subst, ◌∙◌}
use Rattle.wasm_syntax.specs.Machine.{Engine}
use Rattle.machine_code.specs.calls.Prepares.{IsPrepared}
use Rattle.machine_steps.specs.inner.Turns.{came_to}
use Rattle.machine_steps.proofs.StepLaws.{from_config, reads}
use Rattle.machine_steps.proofs.steps.step_in.Goals as goal

pub returns-clause-meets : goal.returns-clause-meets
returns-clause-meets c = λ engine k ip de st.
    from_config engine c.args.prepared.now.codes.items ip.codes c.args.m.now (came_to c.control.result c.control.new.told) c.control.new.m k c.args.innermost.now.frame c.args.innermost.now.code.now st c.requires.frame c.requires.code
    (λ x h ee ce. c.control.ensures.meets x h ce (subst (λ (e : Engine). IsPrepared e.program c.args.prepared.now) (sym ee) ip) (ap (λ (e : Engine). e.depth) ee ∙ de) (reads c.args.m.now.stack c.args.innermost.now.code.now c.args.op.now c.requires.op))
