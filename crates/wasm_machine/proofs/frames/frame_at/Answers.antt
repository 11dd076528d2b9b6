use Rattle.std.proofs.Common.{◌≡◌, ◌∙◌, reverse, Some, None, sym, ap}
use Rattle.std.specs.Prelude.{slice_get}
use Rattle.wasm_machine.proofs.Layouts.{indexed_shown, not_past}
use Rattle.wasm_machine.proofs.frames.frame_at.Goals as goal

pub returns-in-Some : goal.returns-in-Some
returns-in-Some c =
    let m = c.args.m.now in
    let q = c.args.prepared.now in
    let there : slice_get c.args.m.now.stack.frames c.args.index ≡ Some c.in-Some.frame = cc in
    indexed_shown q.imports q.codes.items (reverse m.stack.values) m.stack c.args.index c.in-Some.frame c.extent_at.result there c.extent_at.ensures.first c.extent_at.ensures.others
    ∙ sym (ap Some c.shown.ensures)

pub returns-in-None : goal.returns-in-None
returns-in-None c =
    let none : slice_get c.args.m.now.stack.frames c.args.index ≡ None = cc in
    absurd (not_past c.args.m.now.stack.frames c.args.index c.requires none)
