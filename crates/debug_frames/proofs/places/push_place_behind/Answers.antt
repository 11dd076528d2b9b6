use Rattle.std.proofs.Common.{◌≡◌, ℕ, List, ◌++◌, Option, sym, ap, subst, ◌∙◌}
use Rattle.std.specs.Prelude.{OnOk}
use Rattle.std.specs.Option.{option_copied}
use Rattle.dwarf_entries.specs.Standing.{Standing}
use Rattle.debug_frames.specs.Programs.{located_at}
use Rattle.debug_frames.specs.Frames.{place_behind}
use Rattle.debug_frames.specs.inner.Paths.{place_text}
use Rattle.debug_frames.specs.inner.Resolving.{Resolved}
use Rattle.debug_frames.proofs.PathLaws.{row_shown}
use Rattle.debug_frames.proofs.places.push_place_behind.Goals as goal

pub returns-in-None : goal.returns-in-None
returns-in-None c =
    let x = c.args.information.now in
    let a = c.args.resolved.now.address in
    let same = ap (λ (r : Resolved). place_text r.place) c.requires.resolved ∙ row_shown (located_at x.sections x.units a) in
    subst (λ (before : Option Standing). OnOk c.push_place.result (c.push_place.new.out ≡ c.args.out.now ++ place_behind x a before)) (sym (ap (λ o. option_copied o) c.in-None.is))
    (subst (λ (text : List ℕ). OnOk c.push_place.result (c.push_place.new.out ≡ c.args.out.now ++ text)) same c.push_place.ensures)
