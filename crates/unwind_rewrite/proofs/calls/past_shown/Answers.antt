use Rattle.std.proofs.Common.{◌∙◌, ap}
use Rattle.wasm_syntax.specs.declared.module.ModuleParts.{ModuleParts as Module}
use Rattle.wasm_syntax.specs.Run.{table_min}
use Rattle.rewrite_bodies.specs.Numbering.{doubles}
use Rattle.rewrite_code.proofs.Loads.{when_ok}
use Rattle.unwind_rewrite.proofs.Calling.{moved, unmoved}
use Rattle.unwind_rewrite.proofs.calls.past_shown.Goals as goal

pub returns-in_ok-const_value : goal.returns-in_ok-const_value
returns-in_ok-const_value c =
    when_ok (moved c.args.context.now c.doubles.result c.table_size.result (c.doubles.ensures ∙ ap (λ (m : Module). doubles m) c.map-map.ensures) (c.table_size.ensures ∙ ap (λ (m : Module). table_min m.tables) c.map-map.ensures) c.if-doubles.true c.in_ok-const_value.ensures) c.basic.result c.basic.ensures

pub returns-else-doubles : goal.returns-else-doubles
returns-else-doubles c = unmoved c.args.context.now c.doubles.result (c.doubles.ensures ∙ ap (λ (m : Module). doubles m) c.map-map.ensures) c.if-doubles.false
