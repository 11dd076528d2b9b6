-- The typing of Core 3.3 as a relation: a case for each instruction, one for sequences (3.3.6), and one that adds equal types below. Lists of
-- types stand with the topmost first. Behind `unreachable`, `br`, `br_table` and `return` any types follow.
use Rattle.std.specs.Prelude.{◌≡◌, ℕ, ◌≤◌, List, [], ◌∷◌, ◌++◌, reverse, length, slice_get, Option, Some, option_to_list}
use Rattle.wasm_syntax.specs.declared.value.ValType.{ValType}
use Rattle.wasm_syntax.specs.declared.value.ValType.TheVariants.{I32}
use Rattle.wasm_syntax.specs.declared.instruction.Basic.{Basic}
use Rattle.wasm_syntax.specs.declared.parts.FuncType.{FuncType}
use Rattle.wasm_syntax.specs.Module.{type_at}
use Rattle.wasm_syntax.specs.Tree.{Unreachable, Br, BrIf, BrTable, Return, Call, CallIndirect, Nodes, stop, basic, jump, block, loop, choose}
use Rattle.wasm_syntax.specs.Typing.{Context, Arrow, arrow, within, IsLabel, AreLabels}

-- one sequence behind another
abbrev pub join : Nodes → Nodes → Nodes
join stop ms = ms
join (basic at i rest) ms = basic at i (join rest ms)
join (jump at j rest) ms = jump at j (join rest ms)
join (block at t body end rest) ms = block at t body end (join rest ms)
join (loop at t body end rest) ms = loop at t body end (join rest ms)
join (choose at t a else_at b end rest) ms = choose at t a else_at b end (join rest ms)

pub data Has : Context → Nodes → List ValType → List ValType → Type 0 where
  empty : {c : Context} → Has c stop [] []
  sequence : {c : Context} (ns ms : Nodes) {before : List ValType} (between : List ValType) {after : List ValType} → Has c ns before between → Has c ms between after → Has c (join ns ms) before after
  below : {c : Context} {ns : Nodes} (before after ts : List ValType) → Has c ns before after → Has c ns (before ++ ts) (after ++ ts)
  has_basic : {c : Context} {at : ℕ} {i : Basic} (t : ValType) (a : Arrow) → arrow c t i ≡ Some a → Has c (basic at i stop) a.takes a.gives
  has_unreachable : {c : Context} {at : ℕ} {before after : List ValType} → Has c (jump at Unreachable stop) before after
  has_br : {c : Context} {at n : ℕ} {after : List ValType} (types ts : List ValType) → IsLabel c n types → Has c (jump at (Br n) stop) (types ++ ts) after
  has_br_if : {c : Context} {at n : ℕ} (types : List ValType) → IsLabel c n types → Has c (jump at (BrIf n) stop) (I32 ∷ types) types
  has_br_table : {c : Context} {at default : ℕ} {targets : List ℕ} {after : List ValType} (types ts : List ValType) → IsLabel c default types → AreLabels c targets types → Has c (jump at (BrTable targets default) stop) (I32 ∷ (types ++ ts)) after
  has_return : {c : Context} {at : ℕ} {after : List ValType} (ts : List ValType) → Has c (jump at Return stop) (c.returns ++ ts) after
  has_call : {c : Context} {at g : ℕ} (type : FuncType) → type_at c.module_ g ≡ Some type → Has c (jump at (Call g) stop) (reverse type.params) (reverse type.results)
  has_call_indirect : {c : Context} {at t : ℕ} (type : FuncType) → 1 ≤ length c.module_.tables → slice_get c.module_.types t ≡ Some type → Has c (jump at (CallIndirect t) stop) (I32 ∷ reverse type.params) (reverse type.results)
  has_block : {c : Context} {at end : ℕ} {t : Option ValType} {body : Nodes} → Has (within c (option_to_list t)) body [] (option_to_list t) → Has c (block at t body end stop) [] (option_to_list t)
  has_loop : {c : Context} {at end : ℕ} {t : Option ValType} {body : Nodes} → Has (within c []) body [] (option_to_list t) → Has c (loop at t body end stop) [] (option_to_list t)
  has_if : {c : Context} {at end : ℕ} {t : Option ValType} {a b : Nodes} {e : Option ℕ} → Has (within c (option_to_list t)) a [] (option_to_list t) → Has (within c (option_to_list t)) b [] (option_to_list t) → Has c (choose at t a e b end stop) (I32 ∷ []) (option_to_list t)
