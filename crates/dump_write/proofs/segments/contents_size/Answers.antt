use Rattle.std.proofs.Common.{◌≡◌, ℕ, List, [], ◌++◌, length, ap, ◌∙◌, arith}
use Rattle.dump_format.specs.Region.{Region}
use Rattle.dump_write.proofs.Sizes.{size_more, size_within, size_all}
use Rattle.dump_write.proofs.segments.contents_size.Goals as goal
use Rattle.wasm_leb.proofs.Lengths.{ten_bytes}

counted_is : (a b c : List ℕ) → b ≡ [] → a ≡ b ++ c → a ≡ c
counted_is a b c none e = e ∙ ap (λ (bs : List ℕ). bs ++ c) none

pub loop-segment-init : goal.loop-segment-init
loop-segment-init c = record {
  counted = omega (arith, c.len-size.ensures);
  bound = omega (arith, c.len-size.ensures, ap length (counted_is _ _ _ c.new-count.ensures.items c.in_ok-write_u64.ensures.exact), ten_bytes (length c.args.segments.now));
}

pub loop-segment-preserved : goal.loop-segment-preserved
loop-segment-preserved c =
    let bytes = ap (λ (q : Region). length q.bytes) c.segment.view_is in
    let i = c.loop-segment.segment-index in
    let r = c.segment-item.result in
    let head = c.in_ok-head.head.items in
    let inside = c.loop-segment-test.true in
    let counted = size_more c.args.segments.now i c.loop-segment.size c.write_u64.new.out.items r head inside c.segment-item.is c.in_ok-head.ensures c.loop-segment.invariant.counted in
    let bound = size_within c.args.segments.now i c.loop-segment.size r head inside c.segment-item.is c.requires.pages c.in_ok-head.ensures c.loop-segment.invariant.bound in
    record { counted = omega (arith, counted, bytes, c.len.ensures); bound = omega (arith, bound, bytes, c.len.ensures) }

pub returns : goal.returns
returns c =
    size_all c.args.segments.now c.loop-segment.segment-index c.loop-segment.size c.write_u64.new.out.items (omega arith) (counted_is _ _ _ c.new-count.ensures.items c.in_ok-write_u64.ensures.exact) c.loop-segment.invariant.counted
