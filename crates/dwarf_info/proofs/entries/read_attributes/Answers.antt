use Rattle.std.proofs.Common.{List, length, Ok, refl, sym, ap, ◌∙◌}
use Rattle.dwarf_info.specs.declared.form.Slot.{Slot}
use Rattle.dwarf_info.specs.inner.Contexts.{seen}
use Rattle.dwarf_info.specs.inner.Joined.{own_slots, joined}
use Rattle.dwarf_info.proofs.JoinedLaws.{put_fails, put_read}
use Rattle.dwarf_info.proofs.entries.read_attributes.Goals as goal

pub returns-clause-item : goal.returns-clause-item
returns-clause-item g c =
    let ctx = seen g.V.UnitVersion.version g.V.UnitVersion.looked c.args.context.now in
    put_fails ctx c.args.slots.now c.args.reader.now (own_slots c.args.slots.now) c.in-Err.fault refl c.in-Err.ensures.item

pub new-requires : goal.new-requires
new-requires g c = c.in-Ok.ensures.count ∙ ap (λ (xs : List Slot). length (own_slots xs)) (sym c.in-Ok-shared.ensures)

pub returns-in-Ok-shared-clause-item : goal.returns-in-Ok-shared-clause-item
returns-in-Ok-shared-clause-item g c =
    let ctx = seen g.V.UnitVersion.version g.V.UnitVersion.looked c.args.context.now in
    put_read ctx c.args.slots.now c.args.reader.now c.read_own.new.reader (own_slots c.args.slots.now) c.in-Ok.own refl c.in-Ok.ensures.item
    ∙ ap (λ (xs : List Slot). Ok (joined xs c.in-Ok.own, c.read_own.new.reader)) (sym c.in-Ok-shared.ensures) ∙ ap (λ xs. Ok (xs, c.read_own.new.reader)) (sym c.new.ensures)
