use Rattle.std.proofs.Common.{◌≡◌, ◌<◌, ◌≤◌, length, slice_get, refl, ap, subst, ◌∙◌, arith}
use Rattle.std.proofs.lemmas.Option.{slice_get_read}
use Rattle.std.proofs.lemmas.Map.Text.{btree_map_updates_str}
use Rattle.std.specs.Prelude.{Some, is_some}
use Rattle.std.specs.BTreeMap as tree
use Rattle.std.specs.Cmp.Lexicographic.{slice_cmp}
use Rattle.std.specs.Ordering.{nat_cmp}
use Rattle.wasm_syntax.specs.Valid.{index_space}
use Rattle.wasm_validate.proofs.Order.{fine_more, fine_all}
use Rattle.wasm_validate.proofs.ExportLaws.{repeated, distinct, seen_next}
use Rattle.wasm_syntax.specs.Valid.{ExportFine}
use Rattle.wasm_validate.proofs.exports.bad_export.Goals as goal

pub returns-in-Some : goal.returns-in-Some
returns-in-Some c =
    let x = c.index-exports-i.result in
    let e : slice_get c.args.m.now.exports c.loop-i.i ≡ Some x = subst (λ l. slice_get l c.loop-i.i ≡ Some x) c.as_slice-exports.ensures (slice_get_read c.as_slice-exports.result.now (length c.as_slice-exports.result.now) c.loop-i.i x refl c.loop-i-test.true c.index-exports-i.is) in
    ((x, e, repeated c.args.m.now c.loop-i.i x c.as_str.result.now c.in_ok-insert.field-0 c.in-Some.field-0 c.as_str.ensures.value c.in-Some.is (ap (λ o. is_some o) c.in_ok-insert.ensures.old ∙ c.loop-i.invariant.seen c.as_str.result.now)), c.loop-i.invariant.fine)

pub loop-i-preserved : goal.loop-i-preserved
loop-i-preserved c =
    let x = c.index-exports-i.result in
    let e : slice_get c.args.m.now.exports c.loop-i.i ≡ Some x = subst (λ l. slice_get l c.loop-i.i ≡ Some x) c.as_slice-exports.ensures (slice_get_read c.as_slice-exports.result.now (length c.as_slice-exports.result.now) c.loop-i.i x refl c.loop-i-test.true c.index-exports-i.is) in
    let lt : x.index < index_space c.args.m.now x.kind = subst (λ n. x.index < n) c.index_space_of.ensures c.if-export-index_space_of.false in
    record {
      within = grind (arith, c.as_slice-exports.ensures, c.loop-i-test.true);
      fine = fine_more c.args.m.now.exports (ExportFine c.args.m.now) c.loop-i.i x e (distinct c.args.m.now c.loop-i.i x c.as_str.result.now c.in_ok-insert.field-0 c.as_str.ensures.value c.in-None.is (ap (λ o. is_some o) c.in_ok-insert.ensures.old ∙ c.loop-i.invariant.seen c.as_str.result.now) lt) c.loop-i.invariant.fine;
      seen = λ q. seen_next c.args.m.now.exports c.loop-i.i x q (tree.get_by (λ k. slice_cmp nat_cmp q k.now) c.loop-i.names) (tree.get_by (λ k. slice_cmp nat_cmp q k.now) c.insert.new.self) c.loop-i.i e (c.loop-i.invariant.seen q)
          (btree_map_updates_str x.name c.loop-i.names c.insert.new.self (Some c.loop-i.i) (subst (λ s. tree.UpdatesBy (λ a b. slice_cmp nat_cmp a.now b.now) (λ k. slice_cmp nat_cmp s k.now) c.loop-i.names c.insert.new.self (Some c.loop-i.i)) c.as_str.ensures.value c.in_ok-insert.ensures.updates) q);
    }

pub returns : goal.returns
returns c = fine_all c.args.m.now.exports (ExportFine c.args.m.now) c.loop-i.i (subst (λ l. length l ≤ c.loop-i.i) c.as_slice-exports.ensures c.loop-i-test.false) c.loop-i.invariant.fine
