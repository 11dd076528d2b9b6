use Rattle.std.proofs.Common.{option_map}
use Rattle.rewrite_code.specs.calls.Places.{place}
use Rattle.rewrite_code.proofs.Loads.{when_ok}
use Rattle.unwind_rewrite.proofs.Branching.{made_plain}
use Rattle.unwind_rewrite.proofs.plain.instruction.Goals as goal

pub returns : goal.returns
returns c = λ taken gives.
    when_ok (made_plain c.args.context.now c.args.site.now.passing c.args.site.now.labels c.args.site.now.places.now c.args.site.now.offset c.args.instruction c.args.taken (option_map place c.args.gives) taken gives c.in_ok-guarded.ensures) c.on_operands.result c.on_operands.ensures
