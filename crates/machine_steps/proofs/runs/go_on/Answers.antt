use Rattle.std.proofs.Common.{◌∙◌, sym, ap, arith}
use Rattle.std.specs.Prelude.{slice_get}
use Rattle.machine_steps.proofs.StepLaws.{no_frame, no_code}
use Rattle.machine_steps.proofs.StraightLaws.{went_nowhere}
use Rattle.machine_steps.proofs.runs.go_on.Goals as goal

pub returns-in-None-code_at : goal.returns-in-None-code_at
returns-in-None-code_at g c = λ first before b.
    went_nowhere g.W.Watch.Saw c.args.prepared.now c.args.depth first before c.args.made c.args.fuel c.args.m.now c.args.watch.now (omega (arith, c.requires)) b
    (λ M k ip st. no_code M c.args.prepared.now.codes.items c.args.m.now k c.in-Some.frame st (sym c.in-Some.ensures) (ap (λ l. slice_get l c.in-Some.frame.function) (sym c.deref.ensures.value) ∙ c.in-None-code_at.ensures))

pub returns-in-None : goal.returns-in-None
returns-in-None g c = λ first before b.
    went_nowhere g.W.Watch.Saw c.args.prepared.now c.args.depth first before c.args.made c.args.fuel c.args.m.now c.args.watch.now (omega (arith, c.requires)) b
    (λ M k ip st. no_frame M c.args.prepared.now.codes.items c.args.m.now k st (sym c.in-None.ensures))
