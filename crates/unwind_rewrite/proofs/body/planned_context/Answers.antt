use Rattle.std.proofs.Common.{map}
use Rattle.rewrite_code.specs.calls.KeptDerivations.{derivation}
use Rattle.unwind_rewrite.proofs.Premises as premises
use Rattle.unwind_rewrite.proofs.body.planned_context.Goals as goal

pub returns : goal.returns
returns c =
    let m = c.args.numbers.now in
    let f = c.args.func in
    let plan = c.args.plan.now in
    let b = c.args.body.now in
    let os = c.in_ok-guarded.guarded in
    let xs = c.in_ok-found.found in
    let ds = map derivation c.in_ok-derived.derived in
    record {
      exposed = os;
      landings = xs;
      derivations = ds;
      is = premises.planned_context m f plan os xs ds c.new.ensures c.in_ok-locals.ensures c.types-types.ensures.types c.heights-heights.ensures c.gives-result.ensures c.source-parts.ensures;
      shown = premises.own_exposed m b os c.source-parts.ensures c.as_slice-ops.ensures c.in_ok-guarded.ensures;
      own = premises.own_landings m f plan b os xs c.types-types.ensures.types c.source-parts.ensures c.as_slice-ops.ensures c.in_ok-found.ensures;
      derived = premises.own_derivations m f plan b os ds c.types-types.ensures.types c.source-parts.ensures c.as_slice-ops.ensures c.in_ok-derived.ensures;
    }
