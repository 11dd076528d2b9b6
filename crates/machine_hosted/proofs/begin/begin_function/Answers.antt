use Rattle.std.proofs.Common.{List, [], ◌∷◌, ◌+◌, length, sym, subst}
use Rattle.wasm_syntax.specs.Machine.{entered}
use Rattle.machine_code.specs.declared.code.Code.{Code}
use Rattle.machine_code.specs.calls.Code.{Prepares}
use Rattle.machine_steps.specs.calls.Layout.{StandsFor}
use Rattle.machine_hosted.proofs.SafeLaws.{begins, count_of}
use Rattle.machine_hosted.proofs.begin.begin_function.Goals as goal

pub returns-in-Next : goal.returns-in-Next
returns-in-Next c = λ engine body tree type w co v p shares fits at ty.
    begins engine c.args.prepared.now c.args.function body tree type c.args.args.now w co (record c.args.m.now { stack = c.begin.new.m }) v p (record { holds = shares.holds; table = shares.table }) fits at ty
    (subst (λ (codes : List Code). StandsFor engine.program codes c.begin.new.m (entered (length engine.program.module_.imports + c.args.function) body tree type c.args.args.now ∷ [])) c.deref.ensures.value
    (c.in-Next.ensures engine.program body tree type (subst (λ (codes : List Code). Prepares engine.program codes) (sym c.deref.ensures.value) p.codes) at (count_of c.args.args.now type ty)))
