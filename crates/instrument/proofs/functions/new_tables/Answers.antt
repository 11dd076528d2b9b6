use Rattle.std.proofs.Common.{◌≡◌, List, true, ◌∙◌, sym, ap, subst}
use Rattle.std.specs.List.{AllByRecursion}
use Rattle.wasm_syntax.specs.declared.parts.Limits.{Limits}
use Rattle.wasm_syntax.specs.declared.module.ModuleParts.{ModuleParts as Module}
use Rattle.rewrite_bodies.specs.Numbering.{can_double}
use Rattle.instrument.proofs.functions.new_tables.Goals as goal

pub doubled_tables-requires : goal.doubled_tables-requires
doubled_tables-requires c =
    let same = c.as_slice-tables.ensures ∙ ap (λ (m : Module). m.tables) c.source.ensures in
    subst (λ (ls : List Limits). AllByRecursion (λ (l : Limits). can_double l ≡ true) ls) (sym same) (c.requires (sym c.doubles.ensures ∙ c.if-doubles.true))
