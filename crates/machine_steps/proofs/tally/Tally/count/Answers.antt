use Rattle.std.proofs.Common.{◌≡◌, ◌++◌, ◌∷◌, [], length, sym, subst, ◌∙◌}
use Rattle.std.specs.Prelude.{true, false, nat_lt, slice_index_or}
use Rattle.machine_steps.specs.Places.{flat_place}
use Rattle.machine_steps.specs.calls.Tallies.{Counts, Counted}
use Rattle.machine_steps.proofs.TallyLaws.{counted_in, counted_out}
use Rattle.machine_steps.proofs.tally.Tally.count.Goals as goal

pub returns-then-has : goal.returns-then-has
returns-then-has c = λ m seen h.
    let t = c.args.self.now in
    let inside : nat_lt c.args.at.index (length (slice_index_or t.cells c.args.at.function [])) ≡ true = sym c.has.ensures ∙ c.if-has.true in
    subst (λ (x : Counts). Counted m x (seen ++ flat_place m c.args.at.function c.args.at.index ∷ [])) (sym c.count_at.ensures) (counted_in m t seen h c.args.at.function c.args.at.index inside)

pub returns-else-has : goal.returns-else-has
returns-else-has c = λ m seen h.
    let t = c.args.self.now in
    let out : nat_lt c.args.at.index (length (slice_index_or t.cells c.args.at.function [])) ≡ false = sym c.has.ensures ∙ c.if-has.false in
    subst (λ (x : Counts). Counted m x (seen ++ flat_place m c.args.at.function c.args.at.index ∷ [])) (sym c.count_elsewhere.ensures) (counted_out m t seen h c.args.at.function c.args.at.index out)
