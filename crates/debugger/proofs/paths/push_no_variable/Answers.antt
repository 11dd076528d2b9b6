use Rattle.std.proofs.Common.{◌≡◌, List, ℕ, subst}
use Rattle.std.specs.Prelude.{OnOk, codes}
use Rattle.pm_text.specs.Names.{plain}
use Rattle.debugger.specs.Variables.{no_variable}
use Rattle.debugger.proofs.VariableLines.{joined}
use Rattle.debugger.proofs.paths.push_no_variable.Goals as goal

pub returns : goal.returns
unfolding no_variable
returns c =
    let all = joined c.args.out.now (codes "no variable ") (plain c.args.name.now) (codes "\n") c.push_str.new.self c.push_plain.new.self c.in_ok-push_str.ensures.ok c.in_ok-push_plain.ensures.ok in
    subst (λ (text : List ℕ). OnOk c.push_str-2.result (c.push_str-2.new.self ≡ text)) all c.push_str-2.ensures.ok
