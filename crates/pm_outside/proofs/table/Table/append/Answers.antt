use Rattle.std.proofs.Common.{◌≡◌, None, refl, arith}
use Rattle.std.proofs.lemmas.Map.Text.{text_keys}
use Rattle.std.proofs.lemmas.Result.{err_from_is_err_and}
use Rattle.pm_outside.specs.Contents.{held}
use Rattle.pm_outside.proofs.Tables.{held_entries}
use Rattle.pm_outside.proofs.table.Table.append.Goals as goal

pub returns-in_err-extend_from_slice-in-Some-clause-others :
    goal.returns-in_err-extend_from_slice-in-Some-clause-others
returns-in_err-extend_from_slice-in-Some-clause-others c = λ other apart.
    rw (← c.self.view_is, held_entries (c.get_mut.follows.lender c.extend_from_slice.new.self) other, held_entries c.self.inside.files other) (grind (arith, text_keys))

pub returns-in_err-extend_from_slice-in-Some-clause-refused :
    goal.returns-in_err-extend_from_slice-in-Some-clause-refused
returns-in_err-extend_from_slice-in-Some-clause-refused c =
    let p = err_from_is_err_and c.from_residual.result c.from_residual.ensures.1 in
    rw (p.1, ← c.self.view_is, held_entries (c.get_mut.follows.lender c.extend_from_slice.new.self) c.args.name.now, held_entries c.self.inside.files c.args.name.now) (grind (arith, text_keys))

pub returns-in_ok-extend_from_slice-in-Some-clause-more :
    goal.returns-in_ok-extend_from_slice-in-Some-clause-more
returns-in_ok-extend_from_slice-in-Some-clause-more c =
    rw (← c.self.view_is, held_entries (c.get_mut.follows.lender c.extend_from_slice.new.self) c.args.name.now, held_entries c.self.inside.files c.args.name.now) (grind (arith, text_keys))

pub returns-in_ok-extend_from_slice-in-Some-clause-others :
    goal.returns-in_ok-extend_from_slice-in-Some-clause-others
returns-in_ok-extend_from_slice-in-Some-clause-others c = λ other apart.
    rw (← c.self.view_is, held_entries (c.get_mut.follows.lender c.extend_from_slice.new.self) other, held_entries c.self.inside.files other) (grind (arith, text_keys))

pub returns-in-None-clause-more : goal.returns-in-None-clause-more
returns-in-None-clause-more c =
    let absent : held c.args.self.now c.args.name.now ≡ None = rw (← c.self.view_is, held_entries, ← c.get_mut.ensures.value, c.in-None.is) refl in
    rw absent c.set.ensures.set
