use Rattle.std.proofs.Common.{◌+◌, ◌≤◌, ◌∙◌, length, take, map, is_some, Ok, Err, sym, ap, subst, arith}
use Rattle.linear_memory.specs.Memory.{to_bytes, splice}
use Rattle.linear_memory.specs.inner.Table.{contents, AllWhole}
use Rattle.linear_memory.specs.declared.StoreFault.TheVariants.{Out}
use Rattle.linear_memory.proofs.Changed.{invariant_after, put_told, told_of, unchanged}
use Rattle.linear_memory.proofs.Contents.{length-contents}
use Rattle.linear_memory.proofs.LowBytes.{length-to_bytes, word_bytes}
use Rattle.linear_memory.proofs.Making.{makes_same}
use Rattle.linear_memory.proofs.paged.Memory.store.Goals as goal

pub store_in-requires-clause-whole : goal.store_in-requires-clause-whole
store_in-requires-clause-whole c = subst AllWhole (sym c.deref_mut.ensures.value) c.self.invariant.0

pub invariant_of-self : goal.invariant_of-self
invariant_of-self c =
    let stored = c.store_in.ensures.stored c.if-store_in.true in
    invariant_after c.self.inside.pages.len c.self.inside.pages.items c.deref_mut.result.now c.store_in.new.pages c.self.inside.max c.args.self.now c.self.inside.pages.ok.0 c.deref_mut.ensures.value c.store_in.auto.pages
    (Ok tt) (Unit {0}) (Unit {0}) c.args.at c.args.width (splice (contents c.deref_mut.result.now) c.args.at (to_bytes c.args.width c.args.value))
    (tt, stored.0, makes_same (map is_some c.deref_mut.result.now) (map is_some c.store_in.new.pages) c.args.at c.args.width stored.2 stored.3, stored.1) c.self.invariant.0 c.self.invariant.1 c.self.invariant.2

pub invariant_of-self-else-store_in : goal.invariant_of-self-else-store_in
invariant_of-self-else-store_in c =
    invariant_after c.self.inside.pages.len c.self.inside.pages.items c.deref_mut.result.now c.store_in.new.pages c.self.inside.max c.args.self.now c.self.inside.pages.ok.0 c.deref_mut.ensures.value c.store_in.auto.pages
    (Err Out) (Unit {0}) (Unit {0}) c.args.at c.args.width (contents c.deref_mut.result.now) (tt, c.store_in.ensures.refused c.if-store_in.false) c.self.invariant.0 c.self.invariant.1 c.self.invariant.2

pub returns-then-store_in : goal.returns-then-store_in
returns-then-store_in c =
    let now = c.deref_mut.result.now in let p = c.store_in.new.pages in let n = c.args.width in
    let stored = c.store_in.ensures.stored c.if-store_in.true in
    let inside : c.args.at + n ≤ length (contents now) = omega (arith, stored.4, length-contents now (subst AllWhole (sym c.deref_mut.ensures.value) c.self.invariant.0)) in
    let w = put_told c.self.inside.pages.len c.self.inside.pages.items now p c.self.inside.max c.args.self.now c.self.inside.pages.ok.0 c.deref_mut.ensures.value c.store_in.auto.pages
    (Ok tt) c.args.at n (to_bytes n c.args.value) (length-to_bytes n c.args.value) c.self.view_is (inside, stored.0, makes_same (map is_some now) (map is_some p) c.args.at n stored.2 stored.3, stored.1) in
    record { out = w.0; memory = w.1; made = w.2; refused = w.3; takes = w.4 }

pub returns-else-store_in : goal.returns-else-store_in
returns-else-store_in c =
    let n = c.args.width in
    let same = unchanged c.self.inside.pages.len c.self.inside.pages.items c.deref_mut.result.now c.store_in.new.pages c.self.inside.max c.args.self.now c.self.inside.pages.ok.0 c.deref_mut.ensures.value c.store_in.auto.pages (c.store_in.ensures.refused c.if-store_in.false) c.self.view_is in
    let w = told_of c.write.result _ c.args.self.now c.write.new.self c.args.at n (take n c.to_le_bytes.result) (to_bytes n c.args.value) same (ap (take n) c.to_le_bytes.ensures ∙ word_bytes n c.args.value c.requires) (length-to_bytes n c.args.value)
    (c.write.ensures.out, c.write.ensures.memory, c.write.ensures.made, c.write.ensures.refused, c.write.ensures.takes) in
    record { out = w.0; memory = w.1; made = w.2; refused = w.3; takes = w.4 }
