use Rattle.std.proofs.Common.{ap, sym, subst, arith, length, ◌+◌, ◌≤◌, ◌<◌, ◌⊎◌}
use Rattle.linear_memory.specs.Memory.{splice, window}
use Rattle.linear_memory.specs.inner.Table.{contents, AllWhole}
use Rattle.linear_memory.proofs.Changed.{invariant_after, copy_told}
use Rattle.linear_memory.proofs.paged.Memory.copy.Goals as goal

pub copy_bytes-requires-clause-whole : goal.copy_bytes-requires-clause-whole
copy_bytes-requires-clause-whole c = subst AllWhole (sym c.deref_mut.ensures.value) c.self.invariant.0

pub copy_bytes-requires-clause-small : goal.copy_bytes-requires-clause-small
copy_bytes-requires-clause-small c = omega (arith, ap length c.deref_mut.ensures.value, c.self.invariant.1, c.self.invariant.2)

pub invariant_of-self : goal.invariant_of-self
invariant_of-self c = invariant_after c.self.inside.pages.len c.self.inside.pages.items c.deref_mut.result.now c.copy_bytes.new.pages c.self.inside.max c.args.self.now c.self.inside.pages.ok.0 c.deref_mut.ensures.value c.copy_bytes.auto.pages c.copy_bytes.result
    ((c.args.to + c.args.len ≤ length (contents c.deref_mut.result.now)) × (c.args.from + c.args.len ≤ length (contents c.deref_mut.result.now))) ((length (contents c.deref_mut.result.now) < c.args.to + c.args.len) ⊎ (length (contents c.deref_mut.result.now) < c.args.from + c.args.len)) c.args.to c.args.len (splice (contents c.deref_mut.result.now) c.args.to (window (contents c.deref_mut.result.now) c.args.from c.args.len)) c.copy_bytes.ensures c.self.invariant.0 c.self.invariant.1 c.self.invariant.2

pub returns : goal.returns
returns c =
    let w = copy_told c.self.inside.pages.len c.self.inside.pages.items c.deref_mut.result.now c.copy_bytes.new.pages c.self.inside.max c.args.self.now c.self.inside.pages.ok.0 c.deref_mut.ensures.value c.copy_bytes.auto.pages
    c.copy_bytes.result c.args.to c.args.from c.args.len c.self.view_is c.copy_bytes.ensures in
    record { out = w.0; memory = w.1; made = w.2; refused = w.3; takes = w.4 }
