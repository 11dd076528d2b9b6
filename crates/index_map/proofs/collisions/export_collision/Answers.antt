use Rattle.std.proofs.Common.{length, sym, ap, ◌∙◌, arith}
use Rattle.std.specs.Prelude.{codes}
use Rattle.std.specs.List.{position_from}
use Rattle.std.specs.Str.{bytes_eq}
use Rattle.wasm_syntax.specs.declared.module.ModuleParts.{ModuleParts as Module}
use Rattle.index_map.proofs.First.{position_within, none_passes}
use Rattle.index_map.proofs.collisions.export_collision.Goals as goal

pub overflow_cast-result : goal.overflow_cast-result
overflow_cast-result c =
    let exports = c.as_slice.ensures ∙ ap (λ (m : Module). m.exports) c.parts.ensures.value in
    let w = position_within _ c.as_slice.result.now 0 c.in-Some.index (sym c.first_memory_name.ensures ∙ c.in-Some.is) in
    omega (arith, w, ap length exports, c.requires.short.exports)

pub returns-in-None-clause-none : goal.returns-in-None-clause-none
returns-in-None-clause-none c = λ e.
    let exports = c.as_slice.ensures ∙ ap (λ (m : Module). m.exports) c.parts.ensures.value in
    none_passes (λ e. bytes_eq e.name (codes "coredump.memory")) c.args.source.now.exports 0
    (ap (position_from (λ e. bytes_eq e.name (codes "coredump.memory")) 0) (sym exports) ∙ sym c.first_memory_name.ensures ∙ c.in-None.is)
