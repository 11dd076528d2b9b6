use Rattle.std.proofs.Common.{List, ap, subst, ◌∙◌}
use Rattle.std.specs.Prelude.{filter}
use Rattle.linear_memory.specs.Memory.{pages}
use Rattle.dump_format.specs.Region.{Region}
use Rattle.dump_write.specs.Pages.{is_used}
use Rattle.dump_write.specs.calls.Paged.{ArePages}
use Rattle.dump_write.proofs.Pieces.{paged_used, laid_used}
use Rattle.dump_write.proofs.write.write_dump.Goals as goal

pub write_with-requires-clause-used : goal.write_with-requires-clause-used
write_with-requires-clause-used g c =
    ap (λ (rs : List Region). filter is_used rs) c.as_slice-segments.ensures ∙ paged_used c.args.dump.now c.requires.contained (subst (ArePages 0) c.as_slice-segments.ensures c.if-are_pages.ensures)

pub write_with-requires-2-clause-used : goal.write_with-requires-2-clause-used
write_with-requires-2-clause-used g c =
    let memory = c.in-Ok.memory.memory in
    let made = c.in-Ok-memory_segments.ensures in
    ap (λ (rs : List Region). filter is_used rs) c.as_slice.ensures
    ∙ laid_used c.args.dump.now (pages memory) memory.bytes c.in-Ok-memory_segments.pages c.in-Ok.ensures.size c.in-Ok.ensures.bytes made.paged made.inside made.bytes
