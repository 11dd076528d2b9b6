-- The numberings of a rewritten module: functions, globals, entries of the table and the helpers of `call_indirect`. Types keep their indices. The
-- imports of the collector stand behind the imports, wrappers and then helpers behind the defined functions, and the flag behind the globals. The
-- entries of a table that a host sees stand behind as many for the host.
use Rattle.std.specs.Prelude.{ℕ, suc, ◌+◌, ◌*◌, ◌^◌, ◌==◌, ◌&&◌, nat_lt, nat_le, sum, List, [], ◌∷◌, ◌++◌, length, map, flat_map, if◌then◌else◌, Option, Some, None, option_map, unwrap_or, Bool, true, false}
use Rattle.wasm_syntax.specs.declared.value.ValType.{ValType}
use Rattle.wasm_syntax.specs.declared.value.ValType.TheVariants.{I32, I64}
use Rattle.wasm_syntax.specs.declared.instruction.Basic.TheVariants.{MemoryCopy, MemoryFill}
use Rattle.wasm_syntax.specs.declared.instruction.Instr.{Instr}
use Rattle.wasm_syntax.specs.declared.instruction.Instr.TheVariants as instrs
use Rattle.wasm_syntax.specs.declared.parts.FuncType.{FuncType}
use Rattle.wasm_syntax.specs.declared.parts.Export.{Export}
use Rattle.wasm_syntax.specs.declared.parts.ExportKind.{ExportKind}
use Rattle.wasm_syntax.specs.declared.parts.ExportKind.TheVariants as kinds
use Rattle.wasm_syntax.specs.declared.parts.Limits.{Limits}
use Rattle.wasm_syntax.specs.declared.quantity.Quantity.TheVariants.{Table}
use Rattle.wasm_syntax.specs.declared.module.ModuleParts.{ModuleParts as Module}
use Rattle.wasm_syntax.specs.Tree.{CallIndirect, Nodes, stop, basic, jump, block, loop, choose}
use Rattle.wasm_syntax.specs.Module.{Program, is_function, type_at}
use Rattle.wasm_syntax.specs.Quantity.{greatest}
use Rattle.wasm_syntax.specs.Run.{element_fits}
use Rattle.wasm_syntax.specs.Sizes.{parameter_count}

abbrev pub import_count : Module → ℕ
import_count m = length m.imports

-- a function's index in the new module: the collector's imports stand behind the imports
abbrev pub mapped : Module → ℕ → ℕ
mapped m f = if nat_lt f (import_count m) then f else 3 + f

-- i32 before i64
abbrev pub type_number : ValType → ℕ
type_number I32 = 0
type_number I64 = 1

-- the import that takes a value of this type, and the one that ends a frame
abbrev pub value_import : Module → ValType → ℕ
value_import m t = import_count m + type_number t

abbrev pub frame_import : Module → ℕ
frame_import m = import_count m + 2

-- the global that says whether frames are being unwound
abbrev pub flag_of : Module → ℕ
flag_of m = length m.globals

-- ---- the functions that have a wrapper

-- the function that an export names, where the module defines it
abbrev pub wraps : Module → Export → List ℕ
wraps m e = if is_function e.kind then (if nat_lt e.index (import_count m) then [] else e.index ∷ []) else []

-- the start function, where the module defines it
abbrev pub start_wraps : Module → Option ℕ → List ℕ
start_wraps m None = []
start_wraps m (Some f) = if nat_lt f (import_count m) then [] else f ∷ []

-- one for each export
abbrev pub export_wrapped : Module → List ℕ
export_wrapped m = flat_map (wraps m) m.exports

-- what instructions whose guards are long weigh more
abbrev pub extra : Instr → ℕ
extra (instrs.Basic MemoryCopy) = 128
extra (instrs.Basic MemoryFill) = 128
extra i = 0

-- of a function that is called from outside: what the bytes of its wrapper weigh
abbrev pub entry_weight : Module → ℕ → ℕ
entry_weight m f = 128 + 16 * parameter_count (type_at m f) + 16 * length m.globals

-- ---- lists in which each number counts once

abbrev pub is_in : ℕ → List ℕ → Bool
is_in t [] = false
is_in t (u ∷ us) = if t == u then true else is_in t us

-- each once
abbrev pub distinct : List ℕ → List ℕ
distinct [] = []
distinct (t ∷ ts) = if is_in t (distinct ts) then distinct ts else t ∷ distinct ts

-- the place of a number in a list that has it
abbrev pub place_in : ℕ → List ℕ → ℕ
place_in t [] = 0
place_in t (u ∷ us) = if t == u then 0 else suc (place_in t us)

-- ---- a table that a host sees: it is twice as long, with wrappers in front, for the host, and behind them what the module itself calls

-- the functions of the element segments (Core 2.5.7), and those of them that the module defines, each once
abbrev pub element_functions : Module → List ℕ
element_functions m = flat_map (λ e. e.functions) m.elements

abbrev pub defines : Module → ℕ → List ℕ
defines m f = if nat_lt f (import_count m) then [] else f ∷ []

abbrev pub table_functions : Module → List ℕ
table_functions m = distinct (flat_map (defines m) (element_functions m))

-- what is added for them: the wrappers, and ten bytes for each place in a segment; the globals count once more, so that they are few
abbrev pub table_weight : Module → ℕ
table_weight m = 16 * length m.globals + sum (map (entry_weight m) (table_functions m)) + 10 * length (element_functions m)

abbrev pub is_table : ExportKind → Bool
is_table kinds.Table = true
is_table _ = false

-- an export names the table
abbrev pub table_shown : List Export → Bool
table_shown [] = false
table_shown (e ∷ es) = if is_table e.kind then true else table_shown es

abbrev pub all_true : List Bool → Bool
all_true [] = true
all_true (b ∷ bs) = b && all_true bs

-- twice these limits are limits of a table
abbrev pub can_double : Limits → Bool
can_double l = nat_le (2 * l.min) (greatest Table) && nat_lt (2 * unwrap_or l.max 0) (2 ^ 32)

-- An export names the table, each element segment fits, so that instances start, twice its limits are limits of a table, and what is added
-- stays within the bytes that the weight of the module gives it.
abbrev pub doubles : Module → Bool
doubles m =
    table_shown m.exports && (all_true (map (element_fits m) m.elements) && (all_true (map can_double m.tables) && nat_le (table_weight m) (2 * m.plain_bytes + 128)))

abbrev pub table_wraps : Module → List ℕ
table_wraps m = if doubles m then table_functions m else []

-- ---- all functions that have a wrapper: one for each export, the start function, and those of the table

abbrev pub named_wrapped : Module → List ℕ
named_wrapped m = export_wrapped m ++ start_wraps m m.start

abbrev pub wrapped : Module → List ℕ
wrapped m = named_wrapped m ++ table_wraps m

-- the index of the first wrapper
abbrev pub wrapper_base : Module → ℕ
wrapper_base m = import_count m + (3 + length m.functions)

-- what a host sees in the table in place of a function: its wrapper, where the module defines it
abbrev pub shown : Module → ℕ → ℕ
shown m f = if nat_lt f (import_count m) then f else wrapper_base m + (length (named_wrapped m) + place_in f (table_functions m))

-- what a host sees of the entries of a table, in front of the others
abbrev pub shown_entries : Module → List (Option ℕ) → List (Option ℕ)
shown_entries m t = if doubles m then map (option_map (shown m)) t else []

-- all entries of the table of the new module, for those of a table of the module
abbrev pub new_entries : Module → List (Option ℕ) → List (Option ℕ)
new_entries m t = shown_entries m t ++ map (option_map (mapped m)) t

-- ---- the types that a `call_indirect` uses

-- in the nodes of a list, in order, dead code included
abbrev pub uses : Nodes → List ℕ
uses stop = []
uses (basic o i rest) = uses rest
uses (jump o (CallIndirect t) rest) = t ∷ uses rest
uses (jump o j rest) = uses rest
uses (block o t inner end rest) = uses inner ++ uses rest
uses (loop o t inner end rest) = uses inner ++ uses rest
uses (choose o t a else_at b end rest) = uses a ++ (uses b ++ uses rest)

-- the types that have a helper
abbrev pub helped : Program → List ℕ
helped p = distinct (flat_map (λ tree. uses tree.nodes) p.trees)

-- the index of the first helper
abbrev pub helper_base : Module → ℕ
helper_base m = wrapper_base m + length (wrapped m)

abbrev pub global_types : Module → List ValType
global_types m = map (λ g. g.vtype) m.globals

-- the types of the collector's imports
abbrev pub value_type : ValType → FuncType
value_type t = record { params = t ∷ []; results = [] }

abbrev pub frame_type : FuncType
frame_type = record { params = I32 ∷ I32 ∷ I32 ∷ I32 ∷ []; results = [] }
