use Rattle.std.proofs.Common.{◌≡◌, ℕ, List, ap, sym, ◌∙◌}
use Rattle.std.specs.Option.{is_some}
use Rattle.std.specs.Prelude.{flat_map}
use Rattle.dwarf_info.specs.declared.entry.UnitAnswer.{UnitAnswer}
use Rattle.dwarf_info.specs.Units.{entries_in}
use Rattle.dwarf_info.specs.inner.Settling.{placed, meets, any_at}
use Rattle.dwarf_info.specs.calls.EntryPlaces.{place_among}
use Rattle.dwarf_info.proofs.FindLaws.{among_any, settled_among}
use Rattle.dwarf_info.proofs.ReadLaws.{settled_units}
use Rattle.dwarf_info.proofs.read.settled.Goals as goal

pub returns-in-Ok-settled_answers : goal.returns-in-Ok-settled_answers
returns-in-Ok-settled_answers c =
    let answers = c.args.answers in
    let placed_all : (q : ℕ) → placed c.in-Ok.places q ≡ place_among 0 answers q = λ q. c.in-Ok.ensures q ∙ ap (λ (us : List UnitAnswer). place_among 0 us q) c.as_slice.ensures in
    let there : (q : ℕ) → meets (placed c.in-Ok.places) q ≡ any_at q (flat_map entries_in answers) = λ q. ap is_some (placed_all q) ∙ among_any 0 answers q in
    settled_units (placed c.in-Ok.places) answers c.new.result there (c.new.ensures ∙ c.in-Ok-settled_answers.ensures)

pub new-requires : goal.new-requires
new-requires c = λ q.
    let placed_all : placed c.in-Ok.places q ≡ place_among 0 c.args.answers q = c.in-Ok.ensures q ∙ ap (λ (us : List UnitAnswer). place_among 0 us q) c.as_slice.ensures in
    placed_all
    ∙ sym (settled_among (meets (placed c.in-Ok.places)) 0 c.args.answers q)
    ∙ ap (λ (us : List UnitAnswer). place_among 0 us q) (sym c.in-Ok-settled_answers.ensures)
