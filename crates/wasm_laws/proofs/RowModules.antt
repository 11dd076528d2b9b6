-- Small modules: their flat bodies, and the trees that these write out.
use Rattle.std.specs.Prelude.{◌≡◌, ℕ, List, [], ◌∷◌, map, length, true, Some, None, codes, refl}
use Rattle.wasm_syntax.specs.declared.value.ValType.TheVariants.{I32, I64}
use Rattle.wasm_syntax.specs.declared.value.Value.TheVariants as values
use Rattle.int_ops.specs.declared.operators.Binary.TheVariants.{DivS, RemS, Add, Sub}
use Rattle.int_ops.specs.declared.operators.Narrow32.TheVariants as narrow32
use Rattle.wasm_syntax.specs.declared.instruction.Load.TheVariants as loads
use Rattle.wasm_syntax.specs.declared.instruction.Store.TheVariants as stores
use Rattle.wasm_syntax.specs.declared.instruction.Basic.TheVariants.{LocalGet, GlobalGet, GlobalSet, Load, Store, MemoryGrow, MemoryCopy, MemoryFill, Const, Eqz, Binary, Extend32}
use Rattle.wasm_syntax.specs.declared.instruction.Jump.TheVariants as jumps
use Rattle.wasm_syntax.specs.declared.instruction.Instr.{Instr}
use Rattle.wasm_syntax.specs.declared.instruction.Instr.TheVariants as instr
use Rattle.wasm_syntax.specs.declared.instruction.Op.{Op}
use Rattle.wasm_syntax.specs.declared.parts.Body.{Body}
use Rattle.wasm_syntax.specs.declared.parts.ExportKind.TheVariants as kinds
use Rattle.wasm_syntax.specs.declared.module.ModuleParts.{ModuleParts as Module}
use Rattle.wasm_syntax.specs.Module.{Program, AllWrite, IsProgram}
use Rattle.wasm_syntax.specs.Tree.{Tree, code_of, written}
use Rattle.wasm_laws.proofs.Unique.{read, head_at, read_is_tree}

abbrev op : ℕ → ℕ → Instr → Op
op at len code = record { at = at; len = len; code = code }

-- the tree that a body reads as, and that it writes it out
abbrev pub tree_of : Body → Tree
tree_of b = let r = read (length b.ops) (code_of b.targets b.ops) in record { nodes = r.nodes; end = head_at r.after }

abbrev AllRead : List Body → Type 0
AllRead [] = Unit {0}
AllRead (b ∷ bs) = (code_of b.targets b.ops ≡ written (tree_of b)) × AllRead bs

all_write : (bs : List Body) → AllRead bs → AllWrite bs (map tree_of bs)
all_write [] h = tt
all_write (b ∷ bs) h = (record { arms = read_is_tree (length b.ops) (code_of b.targets b.ops); out = h.0 }, all_write bs h.1)

abbrev pub program_of : Module → Program
program_of m = record { module_ = m; trees = map tree_of m.bodies }

abbrev empty : Module
empty = record { types = []; imports = []; functions = []; tables = []; memories = []; globals = []; exports = []; start = None; elements = []; segments = []; bodies = []; customs = []; plain_bytes = 8 }

-- D
abbrev pub divides : Module
divides = record empty {
  types = record { params = I32 ∷ I32 ∷ []; results = I32 ∷ [] } ∷ [];
  functions = 0 ∷ [];
  exports = record { name = codes "div"; kind = kinds.Function; index = 0 } ∷ [];
  bodies = record { groups = []; ops = op 1 2 (instr.Basic (LocalGet 0)) ∷ op 3 2 (instr.Basic (LocalGet 1)) ∷ op 5 1 (instr.Basic (Binary I32 DivS)) ∷ op 6 1 (instr.End) ∷ []; targets = []; start = 2 } ∷ [];
  plain_bytes = 41;
}

pub divides_trees : IsProgram (program_of divides)
divides_trees = all_write divides.bodies (refl, tt)

-- D with i32.rem_s
abbrev pub remains : Module
remains = record empty {
  types = record { params = I32 ∷ I32 ∷ []; results = I32 ∷ [] } ∷ [];
  functions = 0 ∷ [];
  exports = record { name = codes "div"; kind = kinds.Function; index = 0 } ∷ [];
  bodies = record { groups = []; ops = op 1 2 (instr.Basic (LocalGet 0)) ∷ op 3 2 (instr.Basic (LocalGet 1)) ∷ op 5 1 (instr.Basic (Binary I32 RemS)) ∷ op 6 1 (instr.End) ∷ []; targets = []; start = 2 } ∷ [];
  plain_bytes = 41;
}

remains_trees : IsProgram (program_of remains)
remains_trees = all_write remains.bodies (refl, tt)

-- D with `i64.add`
abbrev pub adds_wide : Module
adds_wide = record empty {
  types = record { params = I32 ∷ I32 ∷ []; results = I32 ∷ [] } ∷ [];
  functions = 0 ∷ [];
  exports = record { name = codes "div"; kind = kinds.Function; index = 0 } ∷ [];
  bodies = record { groups = []; ops = op 1 2 (instr.Basic (LocalGet 0)) ∷ op 3 2 (instr.Basic (LocalGet 1)) ∷ op 5 1 (instr.Basic (Binary I64 Add)) ∷ op 6 1 (instr.End) ∷ []; targets = []; start = 2 } ∷ [];
  plain_bytes = 41;
}

adds_wide_trees : IsProgram (program_of adds_wide)
adds_wide_trees = all_write adds_wide.bodies (refl, tt)

-- L
abbrev pub loads_word : Module
loads_word = record empty {
  types = record { params = I32 ∷ []; results = I32 ∷ [] } ∷ [];
  functions = 0 ∷ [];
  memories = record { min = 1; max = None } ∷ [];
  exports = record { name = codes "f"; kind = kinds.Function; index = 0 } ∷ [];
  bodies = record { groups = []; ops = op 1 2 (instr.Basic (LocalGet 0)) ∷ op 3 3 (instr.Basic (Load (loads.Full I32) 2 0)) ∷ op 6 1 (instr.End) ∷ []; targets = []; start = 2 } ∷ [];
  plain_bytes = 43;
}

loads_word_trees : IsProgram (program_of loads_word)
loads_word_trees = all_write loads_word.bodies (refl, tt)

-- a trap inside three blocks
abbrev pub nested : Module
nested = record empty {
  types = record { params = []; results = I32 ∷ [] } ∷ [];
  functions = 0 ∷ [];
  exports = record { name = codes "f"; kind = kinds.Function; index = 0 } ∷ [];
  bodies = record { groups = []; ops = op 1 2 (instr.Basic (Const (values.I32 1))) ∷ op 3 2 (instr.Block (Some I32)) ∷ op 5 2 (instr.Basic (Const (values.I32 2))) ∷ op 7 2 (instr.Block (Some I32)) ∷ op 9 2 (instr.Basic (Const (values.I32 3))) ∷ op 11 2 (instr.Block (Some I32)) ∷ op 13 1 (instr.Jump jumps.Unreachable) ∷ op 14 1 (instr.End) ∷ op 15 1 (instr.Basic (Binary I32 Add)) ∷ op 16 1 (instr.End) ∷ op 17 1 (instr.Basic (Binary I32 Add)) ∷ op 18 1 (instr.End) ∷ op 19 1 (instr.Basic (Binary I32 Add)) ∷ op 20 1 (instr.End) ∷ []; targets = []; start = 2 } ∷ [];
  plain_bytes = 51;
}

nested_trees : IsProgram (program_of nested)
nested_trees = all_write nested.bodies (refl, tt)

-- a `br_table` with values
abbrev pub branches : Module
branches = record empty {
  types = record { params = I32 ∷ []; results = I32 ∷ [] } ∷ [];
  functions = 0 ∷ [];
  exports = record { name = codes "f"; kind = kinds.Function; index = 0 } ∷ [];
  bodies = record { groups = []; ops = op 1 2 (instr.Basic (Const (values.I32 10))) ∷ op 3 2 (instr.Block (Some I32)) ∷ op 5 2 (instr.Basic (Const (values.I32 20))) ∷ op 7 2 (instr.Block (Some I32)) ∷ op 9 2 (instr.Basic (Const (values.I32 30))) ∷ op 11 2 (instr.Block (Some I32)) ∷ op 13 2 (instr.Basic (Const (values.I32 7))) ∷ op 15 2 (instr.Basic (LocalGet 0)) ∷ op 17 5 (instr.Jump (jumps.BrTable 0 2 2)) ∷ op 22 1 (instr.End) ∷ op 23 1 (instr.Basic (Binary I32 Add)) ∷ op 24 1 (instr.End) ∷ op 25 1 (instr.Basic (Binary I32 Add)) ∷ op 26 1 (instr.End) ∷ op 27 1 (instr.Jump jumps.Unreachable) ∷ op 28 1 (instr.Basic (Binary I32 Add)) ∷ op 29 1 (instr.End) ∷ []; targets = 0 ∷ 1 ∷ []; start = 2 } ∷ [];
  plain_bytes = 61;
}

branches_trees : IsProgram (program_of branches)
branches_trees = all_write branches.bodies (refl, tt)

-- a table of three with two functions
abbrev pub calls_table : Module
calls_table = record empty {
  types = record { params = []; results = I32 ∷ [] } ∷ record { params = I32 ∷ []; results = I32 ∷ [] } ∷ [];
  functions = 0 ∷ 1 ∷ [];
  tables = record { min = 3; max = None } ∷ [];
  exports = record { name = codes "f"; kind = kinds.Function; index = 1 } ∷ [];
  elements = record { table = 0; offset = record { groups = []; ops = op 0 2 (instr.Basic (Const (values.I32 0))) ∷ op 2 1 (instr.End) ∷ []; targets = []; start = 0 }; functions = 0 ∷ 1 ∷ [] } ∷ [];
  bodies = record { groups = []; ops = op 1 2 (instr.Basic (Const (values.I32 42))) ∷ op 3 1 (instr.End) ∷ []; targets = []; start = 2 } ∷ record { groups = []; ops = op 1 2 (instr.Basic (LocalGet 0)) ∷ op 3 3 (instr.Jump (jumps.CallIndirect 0)) ∷ op 6 1 (instr.End) ∷ []; targets = []; start = 7 } ∷ [];
  plain_bytes = 64;
}

calls_table_trees : IsProgram (program_of calls_table)
calls_table_trees = all_write calls_table.bodies (refl, (refl, tt))

-- the same with a table number of five bytes
abbrev pub calls_padded : Module
calls_padded = record empty {
  types = record { params = []; results = I32 ∷ [] } ∷ record { params = I32 ∷ []; results = I32 ∷ [] } ∷ [];
  functions = 0 ∷ 1 ∷ [];
  tables = record { min = 3; max = None } ∷ [];
  exports = record { name = codes "f"; kind = kinds.Function; index = 1 } ∷ [];
  elements = record { table = 0; offset = record { groups = []; ops = op 0 2 (instr.Basic (Const (values.I32 0))) ∷ op 2 1 (instr.End) ∷ []; targets = []; start = 0 }; functions = 0 ∷ 1 ∷ [] } ∷ [];
  bodies = record { groups = []; ops = op 1 2 (instr.Basic (Const (values.I32 42))) ∷ op 3 1 (instr.End) ∷ []; targets = []; start = 2 } ∷ record { groups = []; ops = op 1 2 (instr.Basic (LocalGet 0)) ∷ op 3 7 (instr.Jump (jumps.CallIndirect 0)) ∷ op 10 1 (instr.End) ∷ []; targets = []; start = 7 } ∷ [];
  plain_bytes = 68;
}

calls_padded_trees : IsProgram (program_of calls_padded)
calls_padded_trees = all_write calls_padded.bodies (refl, (refl, tt))

-- a recursion
abbrev pub recurs : Module
recurs = record empty {
  types = record { params = I32 ∷ []; results = [] } ∷ record { params = []; results = [] } ∷ [];
  functions = 0 ∷ [];
  tables = record { min = 1; max = None } ∷ [];
  exports = record { name = codes "f"; kind = kinds.Function; index = 0 } ∷ [];
  bodies = record { groups = []; ops = op 1 2 (instr.Basic (LocalGet 0)) ∷ op 3 1 (instr.Basic (Eqz I32)) ∷ op 4 2 (instr.If None) ∷ op 6 2 (instr.Basic (Const (values.I32 9))) ∷ op 8 3 (instr.Jump (jumps.CallIndirect 1)) ∷ op 11 1 (instr.End) ∷ op 12 2 (instr.Basic (LocalGet 0)) ∷ op 14 2 (instr.Basic (Const (values.I32 1))) ∷ op 16 1 (instr.Basic (Binary I32 Sub)) ∷ op 17 2 (instr.Jump (jumps.Call 0)) ∷ op 19 1 (instr.End) ∷ []; targets = []; start = 2 } ∷ [];
  plain_bytes = 59;
}

recurs_trees : IsProgram (program_of recurs)
recurs_trees = all_write recurs.bodies (refl, tt)

-- N, with an imported function
abbrev pub asks : Module
asks = record empty {
  types = record { params = I32 ∷ []; results = I32 ∷ [] } ∷ record { params = []; results = I32 ∷ [] } ∷ [];
  imports = record { «module» = codes "env"; name = codes "read"; ftype = 0 } ∷ [];
  functions = 1 ∷ [];
  memories = record { min = 1; max = None } ∷ [];
  exports = record { name = codes "f"; kind = kinds.Function; index = 1 } ∷ [];
  bodies = record { groups = []; ops = op 1 2 (instr.Basic (Const (values.I32 16))) ∷ op 3 2 (instr.Jump (jumps.Call 0)) ∷ op 5 1 (instr.Jump jumps.Unreachable) ∷ op 6 1 (instr.End) ∷ []; targets = []; start = 2 } ∷ [];
  plain_bytes = 61;
}

asks_trees : IsProgram (program_of asks)
asks_trees = all_write asks.bodies (refl, tt)

-- a start function that traps
abbrev pub starts : Module
starts = record empty {
  types = record { params = []; results = [] } ∷ [];
  functions = 0 ∷ 0 ∷ [];
  exports = record { name = codes "f"; kind = kinds.Function; index = 1 } ∷ [];
  start = Some 0;
  bodies = record { groups = []; ops = op 1 1 (instr.Jump jumps.Unreachable) ∷ op 2 1 (instr.End) ∷ []; targets = []; start = 2 } ∷ record { groups = []; ops = op 1 1 (instr.End) ∷ []; targets = []; start = 6 } ∷ [];
  plain_bytes = 39;
}

starts_trees : IsProgram (program_of starts)
starts_trees = all_write starts.bodies (refl, (refl, tt))

-- L with `memory.grow`
abbrev pub grows : Module
grows = record empty {
  types = record { params = I32 ∷ []; results = I32 ∷ [] } ∷ [];
  functions = 0 ∷ [];
  memories = record { min = 1; max = None } ∷ [];
  exports = record { name = codes "f"; kind = kinds.Function; index = 0 } ∷ [];
  bodies = record { groups = []; ops = op 1 2 (instr.Basic (LocalGet 0)) ∷ op 3 2 (instr.Basic MemoryGrow) ∷ op 5 1 (instr.End) ∷ []; targets = []; start = 2 } ∷ [];
  plain_bytes = 42;
}

grows_trees : IsProgram (program_of grows)
grows_trees = all_write grows.bodies (refl, tt)

-- L with `i32.extend8_s`
abbrev pub extends_8 : Module
extends_8 = record empty {
  types = record { params = I32 ∷ []; results = I32 ∷ [] } ∷ [];
  functions = 0 ∷ [];
  memories = record { min = 1; max = None } ∷ [];
  exports = record { name = codes "f"; kind = kinds.Function; index = 0 } ∷ [];
  bodies = record { groups = []; ops = op 1 2 (instr.Basic (LocalGet 0)) ∷ op 3 1 (instr.Basic (Extend32 narrow32.Eight)) ∷ op 4 1 (instr.End) ∷ []; targets = []; start = 2 } ∷ [];
  plain_bytes = 41;
}

extends_8_trees : IsProgram (program_of extends_8)
extends_8_trees = all_write extends_8.bodies (refl, tt)

-- L with `i32.extend16_s`
abbrev pub extends_16 : Module
extends_16 = record empty {
  types = record { params = I32 ∷ []; results = I32 ∷ [] } ∷ [];
  functions = 0 ∷ [];
  memories = record { min = 1; max = None } ∷ [];
  exports = record { name = codes "f"; kind = kinds.Function; index = 0 } ∷ [];
  bodies = record { groups = []; ops = op 1 2 (instr.Basic (LocalGet 0)) ∷ op 3 1 (instr.Basic (Extend32 narrow32.Sixteen)) ∷ op 4 1 (instr.End) ∷ []; targets = []; start = 2 } ∷ [];
  plain_bytes = 41;
}

extends_16_trees : IsProgram (program_of extends_16)
extends_16_trees = all_write extends_16.bodies (refl, tt)

-- L with `memory.fill` of four bytes
abbrev pub fills : Module
fills = record empty {
  types = record { params = I32 ∷ []; results = I32 ∷ [] } ∷ [];
  functions = 0 ∷ [];
  memories = record { min = 1; max = None } ∷ [];
  exports = record { name = codes "f"; kind = kinds.Function; index = 0 } ∷ [];
  bodies = record { groups = []; ops = op 1 2 (instr.Basic (LocalGet 0)) ∷ op 3 2 (instr.Basic (Const (values.I32 7))) ∷ op 5 2 (instr.Basic (Const (values.I32 4))) ∷ op 7 3 (instr.Basic MemoryFill) ∷ op 10 2 (instr.Basic (LocalGet 0)) ∷ op 12 3 (instr.Basic (Load (loads.Full I32) 2 0)) ∷ op 15 1 (instr.End) ∷ []; targets = []; start = 2 } ∷ [];
  plain_bytes = 52;
}

fills_trees : IsProgram (program_of fills)
fills_trees = all_write fills.bodies (refl, tt)

-- L with `memory.fill` of no bytes
abbrev pub fills_none : Module
fills_none = record empty {
  types = record { params = I32 ∷ []; results = I32 ∷ [] } ∷ [];
  functions = 0 ∷ [];
  memories = record { min = 1; max = None } ∷ [];
  exports = record { name = codes "f"; kind = kinds.Function; index = 0 } ∷ [];
  bodies = record { groups = []; ops = op 1 2 (instr.Basic (LocalGet 0)) ∷ op 3 2 (instr.Basic (Const (values.I32 7))) ∷ op 5 2 (instr.Basic (Const (values.I32 0))) ∷ op 7 3 (instr.Basic MemoryFill) ∷ op 10 2 (instr.Basic (Const (values.I32 0))) ∷ op 12 1 (instr.End) ∷ []; targets = []; start = 2 } ∷ [];
  plain_bytes = 49;
}

fills_none_trees : IsProgram (program_of fills_none)
fills_none_trees = all_write fills_none.bodies (refl, tt)

-- L with `memory.copy` onto itself
abbrev pub copies : Module
copies = record empty {
  types = record { params = I32 ∷ []; results = I32 ∷ [] } ∷ [];
  functions = 0 ∷ [];
  memories = record { min = 1; max = None } ∷ [];
  exports = record { name = codes "f"; kind = kinds.Function; index = 0 } ∷ [];
  bodies = record { groups = []; ops = op 1 2 (instr.Basic (Const (values.I32 0))) ∷ op 3 5 (instr.Basic (Const (values.I32 67305985))) ∷ op 8 3 (instr.Basic (Store (stores.Full I32) 2 0)) ∷ op 11 2 (instr.Basic (Const (values.I32 1))) ∷ op 13 2 (instr.Basic (Const (values.I32 0))) ∷ op 15 2 (instr.Basic (Const (values.I32 4))) ∷ op 17 4 (instr.Basic MemoryCopy) ∷ op 21 2 (instr.Basic (Const (values.I32 1))) ∷ op 23 3 (instr.Basic (Load (loads.Full I32) 2 0)) ∷ op 26 1 (instr.End) ∷ []; targets = []; start = 2 } ∷ [];
  plain_bytes = 63;
}

copies_trees : IsProgram (program_of copies)
copies_trees = all_write copies.bodies (refl, tt)

-- a global that counts the invocations
abbrev pub counts : Module
counts = record empty {
  types = record { params = []; results = [] } ∷ [];
  functions = 0 ∷ [];
  globals = record { vtype = I32; mutable = true; init = record { groups = []; ops = op 0 2 (instr.Basic (Const (values.I32 0))) ∷ op 2 1 (instr.End) ∷ []; targets = []; start = 0 } } ∷ [];
  exports = record { name = codes "f"; kind = kinds.Function; index = 0 } ∷ [];
  bodies = record { groups = []; ops = op 1 2 (instr.Basic (GlobalGet 0)) ∷ op 3 2 (instr.Basic (Const (values.I32 1))) ∷ op 5 1 (instr.Basic (Binary I32 Add)) ∷ op 6 2 (instr.Basic (GlobalSet 0)) ∷ op 8 1 (instr.Jump jumps.Unreachable) ∷ op 9 1 (instr.End) ∷ []; targets = []; start = 2 } ∷ [];
  plain_bytes = 47;
}

counts_trees : IsProgram (program_of counts)
counts_trees = all_write counts.bodies (refl, tt)
