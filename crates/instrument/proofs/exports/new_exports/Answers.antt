use Rattle.std.proofs.Common.{◌++◌, length, List, sym, ap, ap₂, ◌∙◌}
use Rattle.wasm_syntax.specs.declared.parts.Export.{Export}
use Rattle.wasm_syntax.specs.declared.parts.Limits.{Limits}
use Rattle.wasm_syntax.specs.declared.module.ModuleParts.{ModuleParts as Module}
use Rattle.rewrite_modules.specs.Collector.{memory_export}
use Rattle.instrument.specs.inner.Parts.{renumbered}
use Rattle.instrument.proofs.Copied.{new_indices, as_many_indices}
use Rattle.instrument.proofs.exports.new_exports.Goals as goal

pub renumbered-requires : goal.renumbered-requires
renumbered-requires c =
    let m = c.args.numbers.now in
    ap length (c.as_slice.ensures ∙ ap (λ (x : Module). x.exports) c.source-parts.ensures) ∙ as_many_indices m 0 m.exports ∙ ap length (sym c.exports.ensures)

pub returns : goal.returns
returns c =
    let m = c.args.numbers.now in
    let own = ap₂ renumbered (c.as_slice.ensures ∙ ap (λ (x : Module). x.exports) c.source-parts.ensures) c.exports.ensures in
    c.in_ok-push_memory.ensures
    ∙ ap₂ (λ (es : List Export) (ls : List Limits). es ++ memory_export ls) (c.in_ok-exports.ensures ∙ own ∙ new_indices m 0 m.exports) (ap (λ (x : Module). x.memories) c.source-parts.ensures)
