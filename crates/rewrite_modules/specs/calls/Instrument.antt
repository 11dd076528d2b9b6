-- The rewritten module.
use Rattle.std.specs.Prelude.{ℕ, suc, ◌+◌, ◌*◌, List, [], ◌∷◌, ◌++◌, length, map, slice_get, if◌then◌else◌, Option, Some, None, unwrap_or, true, codes}
use Rattle.wasm_syntax.specs.declared.value.ValType.TheVariants.{I32, I64}
use Rattle.wasm_syntax.specs.declared.instruction.Basic.TheVariants.{Const}
use Rattle.wasm_syntax.specs.declared.instruction.Instr.TheVariants as instrs
use Rattle.wasm_syntax.specs.declared.value.Value.{Value}
use Rattle.wasm_syntax.specs.declared.value.Value.TheVariants as values
use Rattle.wasm_syntax.specs.declared.parts.FuncType.{FuncType}
use Rattle.wasm_syntax.specs.declared.parts.Limits.{Limits}
use Rattle.wasm_syntax.specs.declared.parts.Global.{Global}
use Rattle.wasm_syntax.specs.declared.parts.Body.{Body}
use Rattle.wasm_syntax.specs.declared.parts.Export.{Export}
use Rattle.wasm_syntax.specs.declared.parts.ElementSeg.{ElementSeg}
use Rattle.wasm_syntax.specs.declared.module.ModuleParts.{ModuleParts as Module}
use Rattle.wasm_syntax.specs.Tree.{Nodes, stop, Tree}
use Rattle.wasm_syntax.specs.Module.{Program, Function, defined, function_at, function_types}
use Rattle.wasm_syntax.specs.Run.{table_min, element_at}
use Rattle.rewrite_bodies.specs.Numbering.{import_count, mapped, wraps, start_wraps, export_wrapped, doubles, wrapped, wrapper_base, shown, helped, value_type, frame_type}
use Rattle.rewrite_bodies.specs.calls.Slots.{groups, ctx_of, slots_of}
use Rattle.rewrite_bodies.specs.calls.Pieces.{i32, tree_of}
use Rattle.rewrite_bodies.specs.calls.Guards.{less_word, helper, helper_type}
use Rattle.rewrite_bodies.specs.calls.Rewrite.{body}
use Rattle.rewrite_modules.specs.Collector.{collector_import, memory_export}
use Rattle.rewrite_modules.specs.Interface.{new_tables}
use Rattle.rewrite_modules.specs.calls.Wrappers.{wrapper}
use Rattle.rewrite_modules.specs.calls.FlatCode.{op, body_of}

-- the body, its nodes and its tree for function f
abbrev pub new_nodes : Program → ℕ → Body → Tree → FuncType → Nodes
new_nodes p f b tree type = body (ctx_of p f b type (slots_of p f b tree type)) tree.nodes

abbrev pub new_body : Program → ℕ → Option Function → Body
new_body p f (Some (defined b tree type)) = body_of (b.groups ++ groups (slots_of p f b tree type)) (new_nodes p f b tree type)
new_body p f _ = body_of [] stop

abbrev pub new_tree : Program → ℕ → Option Function → Tree
new_tree p f (Some (defined b tree type)) = tree_of (new_nodes p f b tree type)
new_tree p f _ = tree_of stop

-- one for each element, numbered from f on
abbrev pub each : {A B : Type 0} → (ℕ → B) → ℕ → List A → List B
each go f [] = []
each go f (x ∷ xs) = go f ∷ each go (suc f) xs

-- the constant expressions of a value, and of a number
abbrev pub value_init : Value → Body
value_init v = record { groups = []; ops = op (instrs.Basic (Const v)) ∷ op instrs.End ∷ []; targets = []; start = 0 }

abbrev pub number_init : ℕ → Body
number_init n = value_init (i32 n)

-- the flag is down at first
abbrev pub flag_global : Global
flag_global = record { vtype = I32; mutable = true; init = number_init 0 }

-- the pages of a memory at first, and the global of its length
abbrev pub memory_min : List Limits → ℕ
memory_min [] = 0
memory_min (l ∷ ls) = l.min

abbrev pub length_global : Module → Global
length_global m = record { vtype = I64; mutable = true; init = value_init (values.I64 (less_word (65536 * memory_min m.memories))) }

-- an export of a defined function is that of its wrapper; k is the number of wrappers before
abbrev pub new_index : Module → ℕ → List ℕ → ℕ → ℕ
new_index m k [] index = index
new_index m k (f ∷ fs) index = wrapper_base m + k

abbrev pub new_exports : Module → ℕ → List Export → List Export
new_exports m k [] = []
new_exports m k (e ∷ es) =
    record { name = e.name; kind = e.kind; index = new_index m k (wraps m e) e.index } ∷ new_exports m (k + length (wraps m e)) es

abbrev pub new_start : Module → Option ℕ → Option ℕ
new_start m None = None
new_start m (Some f) = Some (new_index m (length (export_wrapped m)) (start_wraps m (Some f)) f)

-- ---- the table

-- a segment for the host, and one for what the module itself calls, which stands behind the whole table for the host
abbrev pub shown_element : Module → ElementSeg → ElementSeg
shown_element m e = record { table = e.table; offset = e.offset; functions = map (shown m) e.functions }

abbrev pub inner_offset : Module → ElementSeg → Body
inner_offset m e = if doubles m then number_init (element_at m e + table_min m.tables) else e.offset

abbrev pub inner_element : Module → ElementSeg → ElementSeg
inner_element m e = record { table = e.table; offset = inner_offset m e; functions = map (mapped m) e.functions }

abbrev pub shown_elements : Module → List ElementSeg
shown_elements m = if doubles m then map (shown_element m) m.elements else []

-- ---- the module

-- a wrapper has the type of its function
abbrev pub wrapper_type : Module → ℕ → ℕ
wrapper_type m f = unwrap_or (slice_get (function_types m) f) 0

abbrev pub new_module : Program → Module
new_module p =
    let m = p.module_ in
    let t = length m.types in
    record {
      types = m.types ++ value_type I32 ∷ value_type I64 ∷ frame_type ∷ helper_type ∷ [];
      imports = m.imports ++ collector_import (codes "value_i32") t ∷ collector_import (codes "value_i64") (t + 1) ∷ collector_import (codes "frame") (t + 2) ∷ [];
      functions = m.functions ++ (map (wrapper_type m) (wrapped m) ++ map (λ u. t + 3) (helped p));
      tables = new_tables m;
      memories = m.memories;
      globals = m.globals ++ flag_global ∷ length_global m ∷ [];
      exports = new_exports m 0 m.exports ++ memory_export m.memories;
      start = new_start m m.start;
      elements = shown_elements m ++ map (inner_element m) m.elements;
      segments = m.segments;
      bodies = each (λ f. new_body p f (function_at p f)) (import_count m) m.bodies ++ (map (λ f. body_of [] (wrapper m f)) (wrapped m) ++ map (λ u. body_of [] (helper m u)) (helped p));
      customs = [];
      plain_bytes = 0;
    }

abbrev pub instrument : Program → Program
instrument p =
    let m = p.module_ in
    record {
      module_ = new_module p;
      trees = each (λ f. new_tree p f (function_at p f)) (import_count m) m.bodies ++ (map (λ f. tree_of (wrapper m f)) (wrapped m) ++ map (λ u. tree_of (helper m u)) (helped p));
    }
