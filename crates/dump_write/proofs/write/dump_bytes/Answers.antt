use Rattle.std.proofs.Common.{List, ap, subst, ◌∙◌}
use Rattle.std.specs.Prelude.{filter}
use Rattle.linear_memory.specs.Memory.{pages}
use Rattle.dump_format.specs.Region.{Region}
use Rattle.dump_write.specs.Pages.{is_used}
use Rattle.dump_write.specs.calls.Paged.{ArePages}
use Rattle.dump_write.proofs.Pieces.{paged_used, laid_used}
use Rattle.dump_write.proofs.write.dump_bytes.Goals as goal

pub bytes_with-requires-clause-used : goal.bytes_with-requires-clause-used
bytes_with-requires-clause-used c =
    ap (λ (rs : List Region). filter is_used rs) c.as_slice-segments.ensures ∙ paged_used c.args.dump.now c.requires.contained (subst (ArePages 0) c.as_slice-segments.ensures c.if-are_pages.ensures)

pub bytes_with-requires-2-clause-used : goal.bytes_with-requires-2-clause-used
bytes_with-requires-2-clause-used c =
    let memory = c.in_ok-memory.memory.memory in
    let made = c.in_ok-pages.ensures in
    ap (λ (rs : List Region). filter is_used rs) c.as_slice.ensures
    ∙ laid_used c.args.dump.now (pages memory) memory.bytes c.in_ok-pages.pages c.in_ok-memory.ensures.size c.in_ok-memory.ensures.bytes made.paged made.inside made.bytes
