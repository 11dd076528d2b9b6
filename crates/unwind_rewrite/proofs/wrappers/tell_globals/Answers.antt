use Rattle.std.proofs.Common.{rules, ◌≤◌, ◌<◌, ◌∙◌, ap, length, arith}
use Rattle.unwind_rewrite.proofs.Bodies.{global_step, globals_done}
use Rattle.unwind_rewrite.proofs.wrappers.tell_globals.Goals as goal

pub loop-x-preserved : goal.loop-x-preserved
loop-x-preserved c =
    let gs = c.args.globals.now in
    let below : c.loop-x.x < c.flag-count.result = search rules in
    let lt : c.loop-x.x < length gs = omega (arith, below, c.flag-count.ensures, ap length c.requires) in
    record {
      before = omega (arith, below);
      so_far = λ k behind. c.loop-x.invariant.so_far k behind ∙ global_step c.args.map.now gs c.loop-x.x _ c.requires lt c.in_ok-tell_global.ensures k behind;
    }

pub returns : goal.returns
returns c =
    let ge : c.flag-count.result ≤ c.loop-x.x = search rules in
    let all : length c.args.map.now.globals ≤ c.loop-x.x = omega (arith, ge, c.flag-count.ensures) in
    globals_done c.args.map.now c.loop-x.x all c.loop-x.invariant.so_far
