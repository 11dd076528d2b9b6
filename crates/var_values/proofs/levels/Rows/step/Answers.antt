use Rattle.std.proofs.Common.{ℕ, ◌≤◌, ◌++◌, List, [], length, ap, arith}
use Rattle.var_values.proofs.RowLaws.{step_falls, element_left, end_left}
use Rattle.var_values.proofs.levels.Rows.step.Goals as goal

pub returns-then-self-len-clause-falls : goal.returns-then-self-len-clause-falls
returns-then-self-len-clause-falls c =
    step_falls c.args.array.now c.args.self.now c.begin.new.self c.args.text.now c.begin.new.text c.in_ok-begin-in-Some.ensures.grows (c.in_ok-begin-in-Some.ensures.keeps (λ z. []))

pub returns-then-self-clause-falls : goal.returns-then-self-clause-falls
returns-then-self-clause-falls c =
    step_falls c.args.array.now c.args.self.now c.go_on.new.self c.args.text.now c.go_on.new.text c.in_ok-go_on-in-None.ensures.grows (c.in_ok-go_on-in-None.ensures.keeps (λ z. []))

pub returns-else-self-len-clause-keeps : goal.returns-else-self-len-clause-keeps
returns-else-self-len-clause-keeps c = λ item.
    let past : length c.args.array.now.counts ≤ c.args.self.now.opened = omega (arith, c.if-self-len.false, c.len.ensures) in
    ap (λ (t : List ℕ). c.args.text.now ++ t) (element_left item c.args.array.now c.args.self.now c.in-Some.at c.in-Some.is past)

pub returns-else-self-clause-keeps : goal.returns-else-self-clause-keeps
returns-else-self-clause-keeps c = λ item.
    let le : c.args.self.now.opened ≤ c.args.self.now.passed = omega (arith, c.if-self.false) in
    ap (λ (t : List ℕ). c.args.text.now ++ t) (end_left item c.args.array.now c.args.self.now c.in-None.is le)
