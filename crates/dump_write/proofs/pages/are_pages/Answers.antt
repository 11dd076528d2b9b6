use Rattle.std.proofs.Common.{◌≡◌, ◌/◌, length, refl, sym, ap, subst, ◌∙◌, arith}
use Rattle.std.proofs.lemmas.List.{take_all}
use Rattle.dump_format.specs.Region.{Region}
use Rattle.dump_write.proofs.LaidLists.{PagesUpTo, segment_page, pages_all}
use Rattle.dump_write.proofs.pages.are_pages.Goals as goal

pub loop-segment-preserved : goal.loop-segment-preserved
loop-segment-preserved c =
    let is_at : c.segment.inside.at ≡ c.segment-item.result.at = ap (λ (q : Region). q.at) c.segment.view_is in
    let is_bytes : c.segment.inside.bytes.now ≡ c.segment-item.result.bytes = ap (λ (q : Region). q.bytes) c.segment.view_is in
    segment_page c.args.segments.now c.loop-segment.segment-index c.loop-segment.next (c.from-at.result / 65536) c.from-at.result c.segment-item.result (omega arith) c.segment-item.is c.loop-segment.invariant (omega arith)
    (sym is_at ∙ sym c.from-at.ensures) (omega arith) refl (ap length (sym is_bytes) ∙ c.if-segment-ne-PAGE_SIZE.false)

pub returns : goal.returns
returns c =
    pages_all c.args.segments.now c.loop-segment.next (subst (PagesUpTo c.loop-segment.next) (take_all c.loop-segment.segment-index c.args.segments.now (omega arith)) c.loop-segment.invariant)
