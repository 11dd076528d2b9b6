use Rattle.std.proofs.Common.{◌≡◌, ◌<◌, ◌-◌, suc, length, map, subst, sym, arith}
use Rattle.std.proofs.lemmas.List.{length-map}
use Rattle.rewrite_code.specs.calls.KeptLandings.{landing}
use Rattle.unwind_rewrite.specs.calls.Bodies.{OpensNested}
use Rattle.unwind_rewrite.proofs.Landings.{opening_begin, opening_kept, opening_done}
use Rattle.unwind_rewrite.proofs.exits.open_landings.Goals as goal

pub loop-left-init : goal.loop-left-init
loop-left-init c =
    let ks = c.landings-landings.result.now in
    record { low = omega arith; so_far = opening_begin c.args.context.now (map landing ks) (length ks) c.args.writer.now (sym (length-map ks landing)) }

pub loop-left-preserved : goal.loop-left-preserved
loop-left-preserved c =
    let ks = c.landings-landings.result.now in
    let n = c.loop-left.left in
    let next : n ≡ suc (n - 1) = omega (arith, c.loop-left-test.true) in
    let lt : n - 1 < length ks = omega (arith, c.loop-left.invariant.low, next) in
    record { low = omega (arith, lt); so_far = opening_kept c.args.context.now ks n (n - 1) c.index-landings-left.result c.args.writer.now next lt c.index-landings-left.is c.loop-left.invariant.so_far c.in_ok-open_landing.ensures }

pub returns : goal.returns
returns c =
    let ks = c.landings-landings.result.now in
    let none : c.loop-left.left ≡ 0 = omega (arith, c.loop-left-test.false) in
    subst (λ xs. OpensNested c.args.context.now xs c.args.writer.now c.loop-left.writer) c.landings-landings.ensures.list (opening_done c.args.context.now (map landing ks) c.loop-left.left c.args.writer.now c.loop-left.writer none c.loop-left.invariant.so_far)
