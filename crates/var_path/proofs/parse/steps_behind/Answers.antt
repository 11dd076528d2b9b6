use Rattle.std.proofs.Common.{ℕ, List, ◌++◌, sym, ap, ◌∙◌}
use Rattle.std.specs.Prelude.{reverse, option_map}
use Rattle.var_path.specs.Reading.{behind_stars, steps_behind}
use Rattle.var_path.proofs.Going.{closes_none, closes_one, steps_none, steps_one, ends_some, ends_none, step_shorter}
use Rattle.var_path.proofs.Open.{none_left, some_left}
use Rattle.var_path.proofs.parse.steps_behind.Goals as goal

pub returns-in_default-outer : goal.returns-in_default-outer
returns-in_default-outer c =
    let all = steps_behind (reverse c.args.front.now) c.args.text.now in
    let none = rw c.in_default-outer.is at c.in_ok-outer.ensures.outer in
    closes_none all c.steps.steps (reverse c.steps.unclosed.now) c.steps.left.now c.in-Some.first c.in-Some.behind.now c.steps.invariant c.in-Some.ensures c.if-first-eq41.true none

pub steps-preserved-then-first-eq41 : goal.steps-preserved-then-first-eq41
steps-preserved-then-first-eq41 c =
    let all = steps_behind (reverse c.args.front.now) c.args.text.now in
    let one = rw c.in-Some-outer.is at c.in_ok-outer.ensures.outer in
    closes_one all c.steps.steps c.close.new.steps (reverse c.steps.unclosed.now) c.steps.left.now c.in-Some.first one.0 c.in-Some.behind.now (reverse c.in-Some-outer.outer.now)
    c.steps.invariant c.in-Some.ensures c.if-first-eq41.true one.1 c.in_ok-outer.ensures.steps

pub returns-in_default-one_step : goal.returns-in_default-one_step
returns-in_default-one_step c =
    let all = steps_behind (reverse c.args.front.now) c.args.text.now in
    steps_none all c.steps.steps (reverse c.steps.unclosed.now) c.steps.left.now c.in-Some.first c.in-Some.behind.now c.steps.invariant c.in-Some.ensures c.if-first-eq41.false (sym c.in_default-one_step.ensures)

pub steps-smaller : goal.steps-smaller
steps-smaller c =
    let less = step_shorter c.steps.left.now c.in-Some.first c.in-Some.behind.now c.in-Some-one_step.read c.in-Some.ensures (sym c.in-Some-one_step.ensures) in
    rw c.as_slice-left.ensures less

pub steps-preserved : goal.steps-preserved
steps-preserved c =
    let all = steps_behind (reverse c.args.front.now) c.args.text.now in
    let next = steps_one all c.steps.steps c.push.new.self (reverse c.steps.unclosed.now) c.steps.left.now c.in-Some.first c.in-Some.behind.now c.in-Some-one_step.read
    c.steps.invariant c.in-Some.ensures c.if-first-eq41.false (sym c.in-Some-one_step.ensures) c.in_ok-push.ensures.ok in
    next ∙ ap (λ (left : List ℕ). option_map (λ ss. c.push.new.self ++ ss) (steps_behind (reverse c.steps.unclosed.now) left)) (sym c.as_slice-left.ensures)

pub returns-then-is_empty : goal.returns-then-is_empty
returns-then-is_empty c =
    let all = steps_behind (reverse c.args.front.now) c.args.text.now in
    let none = none_left c.in_ok-unclosed.unclosed.now (behind_stars (reverse c.steps.unclosed.now)) c.in_ok-unclosed.ensures.unclosed (sym c.is_empty.ensures ∙ c.if-is_empty.true) in
    ends_some all c.steps.steps c.push_derefs.new.steps (reverse c.steps.unclosed.now) c.steps.left.now c.steps.invariant c.in_default.ensures none c.in_ok-unclosed.ensures.steps

pub returns : goal.returns
returns c =
    let all = steps_behind (reverse c.args.front.now) c.args.text.now in
    ends_none all c.steps.steps (reverse c.steps.unclosed.now) c.steps.left.now c.steps.invariant c.in_default.ensures
    (some_left c.in_ok-unclosed.unclosed.now (behind_stars (reverse c.steps.unclosed.now)) c.in_ok-unclosed.ensures.unclosed (sym c.is_empty.ensures ∙ c.if-is_empty.false))
