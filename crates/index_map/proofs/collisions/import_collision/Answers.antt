use Rattle.std.proofs.Common.{◌≡◌, false, length, sym, ap, ◌∙◌, arith}
use Rattle.std.specs.Prelude.{codes}
use Rattle.std.specs.List.{position_from}
use Rattle.std.specs.Str.{bytes_eq}
use Rattle.wasm_syntax.specs.declared.module.ModuleParts.{ModuleParts as Module}
use Rattle.wasm_laws.proofs.Lists.{at_of}
use Rattle.index_map.proofs.First.{position_within, none_passes}
use Rattle.index_map.proofs.collisions.import_collision.Goals as goal

pub overflow_cast-result : goal.overflow_cast-result
overflow_cast-result c =
    let imports = c.as_slice.ensures ∙ ap (λ (m : Module). m.imports) c.parts.ensures.value in
    let w = position_within _ c.as_slice.result.now 0 c.in-Some.index (sym c.first_collector.ensures ∙ c.in-Some.is) in
    omega (arith, w, ap length imports, c.requires.short.functions)

pub returns-in-None-clause-none : goal.returns-in-None-clause-none
returns-in-None-clause-none c = λ e f i at.
    let imports = c.as_slice.ensures ∙ ap (λ (m : Module). m.imports) c.parts.ensures.value in
    at_of (λ i. bytes_eq i.«module» (codes "coredump") ≡ false) c.args.source.now.imports f i
    (none_passes (λ i. bytes_eq i.«module» (codes "coredump")) c.args.source.now.imports 0
    (ap (position_from (λ i. bytes_eq i.«module» (codes "coredump")) 0) (sym imports) ∙ sym c.first_collector.ensures ∙ c.in-None.is)) at
