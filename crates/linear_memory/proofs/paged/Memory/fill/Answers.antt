use Rattle.std.proofs.Common.{ap, sym, subst, arith, length, ℕ, replicate, ◌+◌, ◌≤◌, ◌<◌}
use Rattle.std.proofs.lemmas.List.{length-replicate}
use Rattle.linear_memory.specs.Memory.{splice}
use Rattle.linear_memory.specs.inner.Table.{contents, AllWhole}
use Rattle.linear_memory.proofs.Changed.{invariant_after, put_told}
use Rattle.linear_memory.proofs.paged.Memory.fill.Goals as goal

pub fill_bytes-requires-clause-whole : goal.fill_bytes-requires-clause-whole
fill_bytes-requires-clause-whole c = subst AllWhole (sym c.deref_mut.ensures.value) c.self.invariant.0

pub fill_bytes-requires-clause-small : goal.fill_bytes-requires-clause-small
fill_bytes-requires-clause-small c = omega (arith, ap length c.deref_mut.ensures.value, c.self.invariant.1, c.self.invariant.2)

pub invariant_of-self : goal.invariant_of-self
invariant_of-self c = invariant_after c.self.inside.pages.len c.self.inside.pages.items c.deref_mut.result.now c.fill_bytes.new.pages c.self.inside.max c.args.self.now c.self.inside.pages.ok.0 c.deref_mut.ensures.value c.fill_bytes.auto.pages c.fill_bytes.result
    (c.args.at + c.args.len ≤ length (contents c.deref_mut.result.now)) (length (contents c.deref_mut.result.now) < c.args.at + c.args.len) c.args.at c.args.len (splice (contents c.deref_mut.result.now) c.args.at (replicate c.args.len c.args.byte)) c.fill_bytes.ensures c.self.invariant.0 c.self.invariant.1 c.self.invariant.2

pub returns : goal.returns
returns c =
    let w = put_told c.self.inside.pages.len c.self.inside.pages.items c.deref_mut.result.now c.fill_bytes.new.pages c.self.inside.max c.args.self.now c.self.inside.pages.ok.0 c.deref_mut.ensures.value c.fill_bytes.auto.pages
    c.fill_bytes.result c.args.at c.args.len (replicate c.args.len c.args.byte) (length-replicate {A = ℕ} c.args.len c.args.byte) c.self.view_is c.fill_bytes.ensures in
    record { out = w.0; memory = w.1; made = w.2; refused = w.3; takes = w.4 }
