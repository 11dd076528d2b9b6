use Rattle.std.proofs.Common.{◌≡◌, ◌∙◌, ℕ, Option, None, sym, ap}
use Rattle.wasm_syntax.specs.declared.module.ModuleParts.{ModuleParts as Module}
use Rattle.index_map.specs.Limits.{first_excess}
use Rattle.instrument.specs.Refusal.{import_taken, export_taken, at_import, at_export, at_limit}
use Rattle.instrument.proofs.Refused.{accepted}
use Rattle.instrument.proofs.refusal.admitted.Goals as goal

pub returns-in-Ok : goal.returns-in-Ok
returns-in-Ok c =
    let m = c.args.source.now in
    let heights = c.args.heights.now in
    let imports : import_taken m ≡ None = sym c.import_collision.ensures.first ∙ c.in_default.is in
    let exports : export_taken m ≡ None = sym c.export_collision.ensures.first ∙ c.in_default-export_collision.is in
    let limits : first_excess m heights ≡ None = ap (λ (x : Module). first_excess x heights) (sym c.in-Ok.ensures) ∙ sym c.first_excess.ensures ∙ c.in-None.is in (
      c.in-Ok.ensures,
      ap (λ (o : Option ℕ). at_import o (at_export (export_taken m) (at_limit (first_excess m heights)))) imports
          ∙ ap (λ (o : Option ℕ). at_export o (at_limit (first_excess m heights))) exports ∙ ap at_limit limits,
      accepted m heights c.is_whole.ensures c.requires.valid c.requires.limits c.requires.sized c.offsets_are_small.ensures c.requires.heights
          (c.import_collision.ensures.none c.in_default.is) (c.export_collision.ensures.none c.in_default-export_collision.is) limits,
    )
