use Rattle.std.proofs.Common.{◌+◌, List, sym, subst, ◌∙◌}
use Rattle.machine_code.specs.declared.code.Code.{Code}
use Rattle.machine_code.specs.inner.Codes.{PreparesUpTo}
use Rattle.machine_code.proofs.ModuleLaws.{one_code}
use Rattle.machine_code.proofs.whole.push_code.Goals as goal

pub returns : goal.returns
returns c = λ p i w before b_is t_is.
    subst (λ (l : List Code). PreparesUpTo p (i + 1) l) (sym c.in_ok-push.ensures.items)
    (one_code p i c.args.codes.now.items c.in_ok-code.code c.args.body.now before b_is w (λ tree type e out. c.in_ok-code.ensures tree type (t_is ∙ e) out))
