use Rattle.std.proofs.Common.{rules, ◌≤◌, ◌<◌, length, map, subst, refl, arith}
use Rattle.std.proofs.lemmas.List.{length-map}
use Rattle.rewrite_code.specs.calls.KeptLandings.{landing}
use Rattle.unwind_rewrite.specs.calls.Bodies.{ClosesNested}
use Rattle.unwind_rewrite.proofs.Landings.{closing_kept, closing_done, low_kept}
use Rattle.unwind_rewrite.proofs.exits.close_landings.Goals as goal

pub loop-number-init : goal.loop-number-init
loop-number-init c = record { before = omega arith; so_far = λ behind. refl }

pub landing-requires : goal.landing-requires
landing-requires c =
    let ks = c.landings-landings.result.now in
    let lt : c.loop-number.number < length ks = search rules in
    low_kept c.args.context.now ks c.loop-number.number c.index-landings-number.result c.landings-landings.ensures.list c.requires lt c.index-landings-number.is

pub loop-number-preserved : goal.loop-number-preserved
loop-number-preserved c =
    let ks = c.landings-landings.result.now in
    let lt : c.loop-number.number < length ks = search rules in
    record { before = omega (arith, lt); so_far = closing_kept c.args.context.now ks c.loop-number.number _ c.index-landings-number.result c.args.writer.now lt c.index-landings-number.is refl c.loop-number.invariant.so_far c.in_ok-close.ensures c.in_ok-landing.ensures }

pub returns : goal.returns
returns c =
    let ks = c.landings-landings.result.now in
    let ge : length ks ≤ c.loop-number.number = search rules in
    subst (λ xs. ClosesNested c.args.context.now xs c.args.writer.now c.loop-number.writer) c.landings-landings.ensures.list (closing_done c.args.context.now (map landing ks) c.loop-number.number c.args.writer.now c.loop-number.writer (omega (arith, ge, length-map ks landing)) c.loop-number.invariant.so_far)
