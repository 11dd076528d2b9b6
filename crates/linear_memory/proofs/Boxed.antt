-- The types at which the walks call functions of `Box`: the bytes of a page, and the heap.
use Rattle.std.proofs.Common.{[], ◌∷◌, refl}
use Rattle.std.proofs.BoxSteps.Form.{Bx}
use denote.Exit.{no}
use denote.Param.{layout, arg}
use denote.Param.Glue.{Bound}
use denote.Param.NoDrop.{glues}
use denote.Param.Laws.{Laws, array_laws, arg_laws, of_field}
use denote.Param.Shared.{copy_shared}
use denote.RattleType.{RattleType}
use denote.Struct.Field.{u8-field}
use denote.Struct.Laws.{u8-copy, u8-laws}
use mir.Raw.{raw}
use mir.Syntax.{Dict, impl, tcons, tnil, dnil}
use prog.Routine.{Env}
use prog.Wired.{Wired}
use Rattle.std_heap.specs.contracts.Global as heap
use Rattle.std_heap.specs.contracts.GlobalAllocator.TheImpl.{ghosts, dict}
use Rattle.std_heap.proofs.Global.TheLaws as heap_laws
use Rattle.linear_memory.specs.inner.Ownership.{Block}
use Rattle.linear_memory.specs.contracts.Destruct++none.drop.Key.{symbol}
use Rattle.linear_memory.proofs.Destruct++none.drop.Code as dropped

abbrev pub T : RattleType
T = arg (raw (layout Block)) no Block

pub T_laws : Laws T
T_laws = arg_laws (raw (layout Block)) no Block (array_laws u8-field.row (of_field u8-field u8-laws refl (copy_shared u8-field u8-copy)) 65536) refl

abbrev pub Z : RattleType
Z = arg (raw (layout heap.the_row)) no heap.the_row

pub Z_laws : Laws Z
Z_laws = arg_laws (raw (layout heap.the_row)) no heap.the_row heap_laws.the_row_laws refl

-- the drop of a type that needs none
abbrev pub no_drop : RattleType → Dict
no_drop X = impl (symbol ∷ []) (tcons (layout X) tnil) dnil

pub glued : (X : RattleType) → Laws X → (γ : Env) → Wired γ dropped.code → Bound γ X (no_drop X)
unfolding dropped.code
glued X L γ wired = glues symbol γ wired X L

abbrev pub E : Bx
E = record { row = T; laws = T_laws; al = record { row = Z; laws = Z_laws; g = ghosts; d = dict; drops = no_drop Z } }
