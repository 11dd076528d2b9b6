use Rattle.std.proofs.Common.{ap, sym, ◌∙◌}
use Rattle.wasm_syntax.specs.Module.{type_at}
use Rattle.unwind_rewrite.proofs.JumpLaws.{no_function, called}
use Rattle.unwind_rewrite.proofs.jumps.write_call.Goals as goal
use Rattle.rewrite_modules.proofs.ValidModule.{type_inside}

pub returns-in_default : goal.returns-in_default
returns-in_default c = no_function c.args.context.now c.args.spot.passing c.args.spot.offset c.args.function c.args.walk.now (ap (λ m. type_at m c.args.function) (sym c.requires.source) ∙ sym c.in_default.ensures)

pub call_function-requires-clause-there : goal.call_function-requires-clause-there
call_function-requires-clause-there c = type_inside c.args.context.now.source c.args.function c.in-Some.ftype.now (ap (λ m. type_at m c.args.function) (sym c.requires.source) ∙ sym c.in-Some.ensures)

pub returns : goal.returns
returns c =
    called c.args.context.now c.args.spot.passing c.args.spot.offset c.args.function c.in-Some.ftype.now c.args.walk.now c.perform.new.self c.places.result.now c.depth-labels.result c.len.result c.result_type.result c.places.ensures c.depth-labels.ensures
    (ap (λ m. type_at m c.args.function) (sym c.requires.source) ∙ sym c.in-Some.ensures) c.len.ensures c.result_type.ensures c.in_ok-perform.ensures c.in_ok-call_function.ensures
