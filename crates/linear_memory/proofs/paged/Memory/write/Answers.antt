use Rattle.std.proofs.Common.{ap, sym, subst, arith, length, refl, ◌+◌, ◌≤◌, ◌<◌}
use Rattle.linear_memory.specs.Memory.{splice}
use Rattle.linear_memory.specs.inner.Table.{contents, AllWhole}
use Rattle.linear_memory.proofs.Changed.{invariant_after, put_told}
use Rattle.linear_memory.proofs.paged.Memory.write.Goals as goal

pub put_bytes-requires-clause-whole : goal.put_bytes-requires-clause-whole
put_bytes-requires-clause-whole c = subst AllWhole (sym c.deref_mut.ensures.value) c.self.invariant.0

pub put_bytes-requires-clause-small : goal.put_bytes-requires-clause-small
put_bytes-requires-clause-small c = omega (arith, ap length c.deref_mut.ensures.value, c.self.invariant.1, c.self.invariant.2)

pub invariant_of-self : goal.invariant_of-self
invariant_of-self c = invariant_after c.self.inside.pages.len c.self.inside.pages.items c.deref_mut.result.now c.put_bytes.new.pages c.self.inside.max c.args.self.now c.self.inside.pages.ok.0 c.deref_mut.ensures.value c.put_bytes.auto.pages c.put_bytes.result
    (c.args.at + length c.args.bytes.now ≤ length (contents c.deref_mut.result.now)) (length (contents c.deref_mut.result.now) < c.args.at + length c.args.bytes.now) c.args.at (length c.args.bytes.now) (splice (contents c.deref_mut.result.now) c.args.at c.args.bytes.now) c.put_bytes.ensures c.self.invariant.0 c.self.invariant.1 c.self.invariant.2

pub returns : goal.returns
returns c =
    let w = put_told c.self.inside.pages.len c.self.inside.pages.items c.deref_mut.result.now c.put_bytes.new.pages c.self.inside.max c.args.self.now c.self.inside.pages.ok.0 c.deref_mut.ensures.value c.put_bytes.auto.pages
    c.put_bytes.result c.args.at (length c.args.bytes.now) c.args.bytes.now refl c.self.view_is c.put_bytes.ensures in
    record { out = w.0; memory = w.1; made = w.2; refused = w.3; takes = w.4 }
