use Rattle.std.proofs.Common.{rules, ◌≡◌, ◌≤◌, ◌<◌, subst, arith}
use Rattle.rewrite_bodies.specs.calls.Pieces.{drops}
use Rattle.rewrite_code.specs.calls.Writing.{Emits}
use Rattle.rewrite_code.proofs.Loads.{drop_step}
use Rattle.rewrite_code.proofs.moves.drops.Goals as goal

pub loop-i-preserved : goal.loop-i-preserved
loop-i-preserved c =
    let lt : c.loop-i._i < c.args.count = search rules in
    record { before = omega (arith, lt); so_far = drop_step c.loop-i._i c.loop-i.invariant.so_far c.in_ok-basic.ensures }

pub returns : goal.returns
returns c =
    let ge : c.args.count ≤ c.loop-i._i = search rules in
    let n : c.loop-i._i ≡ c.args.count = omega (arith, ge, c.loop-i.invariant.before) in
    subst (λ n. Emits (drops n) c.args.writer.now c.loop-i.writer) n c.loop-i.invariant.so_far
