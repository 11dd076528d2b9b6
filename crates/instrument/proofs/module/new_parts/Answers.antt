use Rattle.std.proofs.Common.{◌++◌, ◌∷◌, [], length, ap, ◌∙◌}
use Rattle.wasm_syntax.specs.declared.module.ModuleParts.{ModuleParts as Module}
use Rattle.instrument.specs.inner.Parts.{flag, measure, more_imports, more_types}
use Rattle.instrument.proofs.module.new_parts.Goals as goal

pub returns : goal.returns
returns c =
    let same = c.source-parts.ensures in
    let types = c.in_ok-new_types.ensures ∙ ap (λ (x : Module). x.types ++ more_types) same in
    let imports = c.in_ok-new_imports.ensures ∙ ap (λ (x : Module). x.imports ++ more_imports (length x.types)) same in
    let memories = c.in_ok-from_slice.ensures ∙ c.as_slice.ensures ∙ ap (λ (x : Module). x.memories) same in
    let globals = c.in_ok-new_globals.ensures ∙ ap (λ (x : Module). x.globals ++ flag ∷ measure x ∷ []) same in
    let segments = c.in_ok-duplicates.ensures ∙ ap (λ (x : Module). x.segments) same in
    λ i. record {
      types = types i;
      imports = imports i;
      functions = c.in_ok-new_functions.ensures i;
      tables = c.in_ok-new_tables.ensures i;
      memories = memories i;
      globals = globals i;
      exports = c.in_ok-new_exports.ensures i;
      start = c.start.ensures i;
      elements = c.in_ok-new_elements.ensures i;
      segments = segments i;
      bodies = c.args.bodies;
      customs = c.new.ensures i;
      plain_bytes = 0;
    }
