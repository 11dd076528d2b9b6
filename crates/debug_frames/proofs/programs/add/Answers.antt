use Rattle.std.proofs.Common.{◌≡◌, ℕ, Option, sym, subst, ◌∙◌}
use Rattle.std.specs.Ordering.{nat_cmp}
use Rattle.std.specs.BTreeMap.{get}
use Rattle.debug_frames.specs.calls.Kept.{with_program}
use Rattle.debug_frames.specs.inner.Stores.{seen}
use Rattle.debug_frames.proofs.AddLaws.{kept_known, kept_new, placed_new}
use Rattle.debug_frames.proofs.StoreLaws.{stored_more}
use Rattle.debug_frames.proofs.programs.add.Goals as goal

pub returns-then-contains_key-clause-value : goal.returns-then-contains_key-clause-value
returns-then-contains_key-clause-value c =
    let s = c.args.sections.now in
    let xs = c.args.programs.now in
    subst (λ (at : Option ℕ). seen s xs ≡ with_program s (seen s xs) at) (sym c.in-Some.is)
    (kept_known s xs (get nat_cmp c.args.places.now) c.in-Some.at c.requires.placed c.requires.stored (sym c.contains_key.ensures ∙ c.if-contains_key.true))

pub returns-clause-value : goal.returns-clause-value
returns-clause-value c =
    let s = c.args.sections.now in
    let xs = c.args.programs.now in
    subst (λ (at : Option ℕ). seen s c.push.new.self ≡ with_program s (seen s xs) at) (sym c.in-Some.is)
    (kept_new s xs c.push.new.self (get nat_cmp c.args.places.now) c.in-Some.at c.in_ok-stored.stored c.requires.placed c.requires.stored (sym c.contains_key.ensures ∙ c.if-contains_key.false) c.in_ok-push.ensures.ok)

pub returns-clause-placed : goal.returns-clause-placed
returns-clause-placed c =
    placed_new c.args.programs.now c.push.new.self (get nat_cmp c.args.places.now) (get nat_cmp c.insert.new.self) c.in-Some.at c.len-number.result c.in_ok-stored.stored c.requires.placed (sym c.contains_key.ensures ∙ c.if-contains_key.false) c.len-number.ensures
    c.in_ok-insert.ensures.updates.0 c.in_ok-push.ensures.ok

pub returns-clause-stored : goal.returns-clause-stored
returns-clause-stored c =
    stored_more c.args.sections.now c.args.programs.now c.push.new.self c.in-Some.at c.in_ok-stored.stored c.requires.stored c.in_ok-stored.ensures.stored c.in_ok-push.ensures.ok
