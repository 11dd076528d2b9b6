-- Reading types, imports, exports and locals (Core 5.3 and 5.5).
use Rattle.std.specs.Prelude.{ℕ, ◌+◌, ◌^◌, List, [], ◌∷◌, ◌++◌, Option, Some, None, Bool, ◌||◌, ◌==◌, nat_le, nat_lt, if◌then◌else◌}
use Rattle.wasm_syntax.specs.declared.value.ValType.{ValType}
use Rattle.wasm_syntax.specs.declared.value.ValType.TheVariants.{I32, I64}
use Rattle.wasm_syntax.specs.declared.parts.FuncType.{FuncType}
use Rattle.wasm_syntax.specs.declared.parts.Limits.{Limits}
use Rattle.wasm_syntax.specs.declared.parts.Export.{Export}
use Rattle.wasm_syntax.specs.declared.parts.ExportKind.{ExportKind}
use Rattle.wasm_syntax.specs.declared.parts.ExportKind.TheVariants as kinds
use Rattle.wasm_bytes.specs.Place.{Place, Read}
use Rattle.wasm_bytes.specs.Reading.{◌⊗◌, ◌▷◌, mapped, checked, choose, fixed_item, one_of_item, u32_item, name_item, here_item, steps_from}
use Rattle.wasm_bytes.specs.declared.noted.Noted.{Noted}
use Rattle.wasm_format.specs.declared.expression.Locals.{Locals}
use Rattle.wasm_format.specs.declared.module.Imported.{Imported}
use Rattle.wasm_format.specs.declared.module.Imported.TheVariants.{Function, Table, Memory, Global}
use Rattle.wasm_bytes.specs.Notes.{plain, noted_as, noted_both, noted_vector_item}
use Rattle.std.specs.Option.{option_or}

-- ---- types (Core 5.3)

-- i32, i64, f32 and f64
abbrev pub is_valtype : ℕ → Bool
is_valtype b = b == 0x7f || b == 0x7e || b == 0x7d || b == 0x7c

-- the type that a byte at that offset is
abbrev pub valtype_of : ℕ → ℕ → Noted ValType
valtype_of at b =
    if b == 0x7f then plain I32
    else (if b == 0x7e then plain I64
    else record { value = I32; float = Some at })

unfoldable pub valtype_item : Place → Read (Noted ValType)
valtype_item = here_item ▷ λ at. mapped (valtype_of at) (one_of_item is_valtype)

abbrev pub functype : List ValType → List ValType → FuncType
functype params results = record { params = params; results = results }

abbrev pub functype_of : Unit {0} × (Noted (List ValType) × Noted (List ValType)) → Noted FuncType
functype_of x = noted_both functype x.1.0 x.1.1

unfoldable pub functype_item : Place → Read (Noted FuncType)
functype_item = mapped functype_of (fixed_item 0x60 ⊗ noted_vector_item valtype_item ⊗ noted_vector_item valtype_item)

abbrev pub least : ℕ → Limits
least min = record { min = min; max = None }

abbrev pub bounded : ℕ × ℕ → Limits
bounded x = record { min = x.0; max = Some x.1 }

abbrev pub limits_behind : ℕ → Option (Place → Read Limits)
limits_behind flag =
    if flag == 0x00 then Some (mapped least u32_item)
    else (if flag == 0x01 then Some (mapped bounded (u32_item ⊗ u32_item))
    else None)

unfoldable pub limits_item : Place → Read Limits
limits_item = choose limits_behind

unfoldable pub table_item : Place → Read Limits
table_item = mapped (λ x. x.1) (fixed_item 0x70 ⊗ limits_item)

abbrev pub is_mutability : ℕ → Bool
is_mutability b = nat_le b 0x01

abbrev pub is_variable : ℕ → Bool
is_variable b = b == 0x01

unfoldable pub mutability_item : Place → Read Bool
mutability_item = mapped is_variable (one_of_item is_mutability)

-- the type of a global
unfoldable pub globaltype_item : Place → Read (Noted ValType × Bool)
globaltype_item = valtype_item ⊗ mutability_item

-- ---- imports and exports (Core 5.5.5, 5.5.10)

abbrev pub function_import : List ℕ × List ℕ → ℕ → Noted Imported
function_import names ftype = plain (Function (record { «module» = names.0; name = names.1; ftype = ftype }))

abbrev pub table_import : Limits → Noted Imported
table_import limits = plain Table

abbrev pub memory_import : Limits → Noted Imported
memory_import limits = plain Memory

abbrev pub global_import : Noted ValType × Bool → Noted Imported
global_import type = noted_as (λ t. Global) type.0

abbrev pub import_behind : List ℕ × List ℕ → ℕ → Option (Place → Read (Noted Imported))
import_behind names kind =
    if kind == 0x00 then Some (mapped (function_import names) u32_item)
    else (if kind == 0x01 then Some (mapped table_import table_item)
    else (if kind == 0x02 then Some (mapped memory_import limits_item)
    else (if kind == 0x03 then Some (mapped global_import globaltype_item)
    else None)))

unfoldable pub import_item : Place → Read (Noted Imported)
import_item = (name_item ⊗ name_item) ▷ λ names. choose (import_behind names)

abbrev pub is_export_kind : ℕ → Bool
is_export_kind b = nat_le b 0x03

abbrev pub export_kind_of : ℕ → ExportKind
export_kind_of b =
    if b == 0x00 then kinds.Function
    else (if b == 0x01 then kinds.Table
    else (if b == 0x02 then kinds.Memory
    else kinds.Global))

unfoldable pub export_kind_item : Place → Read ExportKind
export_kind_item = mapped export_kind_of (one_of_item is_export_kind)

abbrev pub export_of : List ℕ × (ExportKind × ℕ) → Export
export_of x = record { name = x.0; kind = x.1.0; index = x.1.1 }

unfoldable pub export_item : Place → Read Export
export_item = mapped export_of (name_item ⊗ export_kind_item ⊗ u32_item)

-- ---- locals (Core 5.5.13)

abbrev pub no_locals : Locals
no_locals = record { groups = []; count = 0; float = None }

-- A function has fewer than 2 ^ 32 locals beside its parameters.
abbrev pub is_room : Locals → ℕ → Bool
is_room s n = nat_lt (s.count + n) (2 ^ 32)

abbrev pub with_group : Locals → ℕ × Noted ValType → Locals
with_group s x = record {
  groups = s.groups ++ record { count = x.0; vtype = x.1.value } ∷ [];
  count = s.count + x.0;
  float = option_or s.float x.1.float;
}

unfoldable pub group_step : Locals → Place → Read Locals
group_step s = mapped (with_group s) (checked (is_room s) u32_item ⊗ valtype_item)

unfoldable pub locals_item : Place → Read Locals
locals_item = u32_item ▷ λ count. steps_from group_step count no_locals
