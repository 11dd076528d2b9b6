-- A `&` to a page is one to its bytes.
use contract.BorrowLft.{⊑_static}
use denote.Memory.{lone}
use denote.Param.Shared.{array_shared, copy_shared}
use denote.RawPtr.{lies_at}
use denote.Shares.{Shares-less}
use denote.Struct.Field.{RawPtr-field, u8-field}
use denote.Struct.Laws.{RawPtr-copy, u8-copy}
use denote.Struct.Lending.{lent_at, lent_at_shr_laws, Lends-lies, Lends-first, of_Lends}
use base.Fraction.{full_share}
use mir.Raw.{raw}
use Rattle.std_heap.specs.contracts.Global as heap
use Rattle.std_heap.specs.contracts.GlobalAllocator.TheImpl.{ghosts}
use Rattle.std_heap.proofs.Global.TheLaws as heap_laws
use Rattle.linear_memory.specs.inner.Ownership.{Block}
use Rattle.linear_memory.specs.contracts.raw.RawPage as page
use Rattle.linear_memory.proofs.raw.RawPage.TheLaw.Statement.{statement}

pub shares : statement
shares =
    let bytes = array_shared u8-field (copy_shared u8-field u8-copy) 65536 in
    of_Lends page.struct (page.the_codes heap.the_row.coded) page.the_heap page.the_lent (λ d p. lent_at_shr_laws Block bytes.shr_laws d.at d.bytes) (copy_shared RawPtr-field RawPtr-copy, (heap_laws.the_field_shared, tt)) (λ M 𝓤 𝓛 d p.
    Lends-first 𝓛 (lies_at Block full_share d.at d.bytes) (ghosts.dealloc_token d.heap (raw (lone Block.mir)) d.at) (lent_at Block d.at d.bytes) page.the_row.lives
    (Lends-lies 𝓛 Block page.the_row.lives d.at d.bytes (Shares-less 𝓛 Block Block.lives page.the_row.lives (⊑_static page.the_row.lives) (bytes.shares M 𝓤 𝓛) d.bytes)))
