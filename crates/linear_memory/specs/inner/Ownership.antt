-- What the pointer of a page owns and lends: 65,536 bytes on the heap, with the right to free them.
use Rattle.std.specs.Prelude.{ℕ, List}
use Rattle.std.specs.Box.Ownership.{box_owns}
use Rattle.std.specs.Global.{Global}
use Rattle.std_heap.specs.contracts.GlobalAllocator.TheImpl.{ghosts}
use base.Fml.{Lft, Fml}
use denote.Array.{Array}
use denote.Builtin.{u8}
use denote.RattleType.{RattleType}
use denote.RawPtr.{Ptr}
use denote.Struct.Lending.{lent_at}

abbrev pub Block : RattleType
Block = Array u8 65536

abbrev pub block_owned : Global → Ptr → List ℕ → Fml
block_owned heap = box_owns (ghosts.dealloc_token heap) Block

abbrev pub block_lent : Ptr → List ℕ → Lft → Fml
block_lent = lent_at Block
