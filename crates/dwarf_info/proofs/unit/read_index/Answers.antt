use Rattle.std.proofs.Common.{ap, sym, ◌∙◌}
use Rattle.wasm_bytes.specs.Place.{Place}
use Rattle.dwarf_abbrev.specs.calls.Shared.{list_of}
use Rattle.dwarf_info.specs.declared.growing.Growing.{Growing}
use Rattle.dwarf_info.specs.Entries.{step_item}
use Rattle.dwarf_info.specs.Units.{context, unsettled}
use Rattle.dwarf_info.proofs.unit.read_index.Goals as goal

pub returns-in-Ok : goal.returns-in-Ok
returns-in-Ok g c =
    let v = g.V.UnitVersion.version in
    let ctx = context c.args.sections.now v c.args.origin (list_of c.args.tables.now c.args.table) unsettled in
    let here = ap (λ (w : Growing). step_item ctx w c.args.reader.now) (sym c.new-growing.ensures) ∙ ap (λ (p : Place). step_item ctx c.new-growing.result p) (sym c.fork.ensures) in
    record { item = (c.step.new.growing, c.step.new.reader, here ∙ c.in-Ok.ensures.item, c.index.ensures c.args.sections.now ∙ ap (v.index c.args.sections.now) c.root.ensures) }
