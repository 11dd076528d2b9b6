use Rattle.std.proofs.Common.{◌≡◌, ◌*◌, replicate, subst, IfNone}
use Rattle.linear_memory.specs.Memory.{window}
use Rattle.linear_memory.specs.calls.Paged.{Paged}
use Rattle.linear_memory.specs.inner.Table.{contents}
use Rattle.linear_memory.proofs.Contents.{Table}
use Rattle.linear_memory.proofs.paged.Memory.page.Goals as goal

pub returns-clause-absent : goal.returns-clause-absent
returns-clause-absent c =
    let at = 65536 * c.args.index in
    subst (λ (m : Paged). IfNone c.bytes_at.result (window m.memory.bytes at 65536 ≡ replicate 65536 0)) c.self.view_is
    (subst (λ (t : Table). IfNone c.bytes_at.result (window (contents t) at 65536 ≡ replicate 65536 0)) c.deref.ensures.value c.bytes_at.ensures.absent)
