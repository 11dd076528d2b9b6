-- Types, imports, exports and locals are read exactly as they are spelled.
use Rattle.std.proofs.Common.{ℕ, List, refl}
use Rattle.std.specs.Prelude.{◌==◌}
use Rattle.wasm_bytes.specs.Place.{Place, Read}
use Rattle.wasm_bytes.specs.Reading.{◌⊗◌, mapped, checked, choose, fixed_item, one_of_item, u32_item, name_item, vector_item, steps_from}
use Rattle.wasm_bytes.specs.calls.Spelling.{pair, always, image, passing, byte, one_of, u32, name, vector, tagged, steps}
use Rattle.wasm_bytes.specs.Laws.{IsExact, PicksExact}
use Rattle.wasm_bytes.proofs.Exact.{then_exact, mapped_exact, image_exact, checked_exact, leads_exact}
use Rattle.wasm_bytes.proofs.ExactItems.{u32_exact, one_of_exact, fixed_exact, name_exact}
use Rattle.wasm_bytes.proofs.ExactLists.{vector_exact, choose_exact, steps_exact}
use Rattle.wasm_bytes.specs.declared.noted.Noted.{Noted}
use Rattle.wasm_format.specs.declared.expression.Locals.{Locals}
use Rattle.wasm_bytes.specs.Notes.{together, noted_vector_item}
use Rattle.wasm_format.specs.Form.{is_valtype, valtype_of, valtype_item, functype_of, functype_item, least, bounded, limits_behind, limits_item, table_item, is_mutability, is_variable, mutability_item, globaltype_item, function_import, table_import, memory_import, global_import, import_behind, import_item, is_export_kind, export_kind_of, export_kind_item, export_of, export_item, no_locals, is_room, with_group, group_step, locals_item}
use Rattle.wasm_format.specs.calls.Grammar.{valtype, noted_vector, functype, limits_tail, limits, table, mutability, globaltype, import_tail, import_entry, export_kind, export_entry, group_entry, locals}
use Rattle.wasm_format.proofs.Tests.{on_test_picks, no_spelling_picks}
use Rattle.wasm_bytes.proofs.Offsets.{offset_exact}

-- ---- types

pub valtype_exact : IsExact valtype valtype_item
unfolding valtype_item
valtype_exact =
    offset_exact (λ at. image (valtype_of at) (one_of is_valtype)) (λ at. mapped (valtype_of at) (one_of_item is_valtype))
    (λ at. image_exact (one_of is_valtype) (valtype_of at) (one_of_item is_valtype) (one_of_exact is_valtype))

pub noted_vector_exact : {A : Type 0} (S : Noted A → ℕ → List ℕ → Type 0) (f : Place → Read (Noted A)) → IsExact S f → IsExact (noted_vector S) (noted_vector_item f)
unfolding noted_vector_item
noted_vector_exact S f e = image_exact (vector S) together (vector_item f) (vector_exact S f e)

pub valtypes_exact : IsExact (noted_vector valtype) (noted_vector_item valtype_item)
valtypes_exact = noted_vector_exact valtype valtype_item valtype_exact

pub functype_exact : IsExact functype functype_item
unfolding functype_item
functype_exact =
    image_exact (pair (always (byte 0x60)) (pair (noted_vector valtype) (noted_vector valtype))) functype_of (fixed_item 0x60 ⊗ noted_vector_item valtype_item ⊗ noted_vector_item valtype_item)
    (then_exact _ _ _ _ (fixed_exact 0x60) (then_exact _ _ _ _ valtypes_exact valtypes_exact))

limits_picks : (flag : ℕ) → PicksExact (limits_tail flag) (limits_behind flag)
limits_picks flag =
    on_test_picks (flag == 0x00) _ _ _ _ (image_exact u32 least u32_item u32_exact)
    (on_test_picks (flag == 0x01) _ _ _ _ (image_exact (pair u32 u32) bounded (u32_item ⊗ u32_item) (then_exact _ _ _ _ u32_exact u32_exact))
    no_spelling_picks)

pub limits_exact : IsExact limits limits_item
unfolding limits_item
limits_exact = choose_exact limits_tail limits_behind limits_picks

pub table_exact : IsExact table table_item
unfolding table_item
table_exact =
    mapped_exact (pair (always (byte 0x70)) limits) table (λ x. x.1) (λ y. (tt, y)) (fixed_item 0x70 ⊗ limits_item) (λ y. refl) (λ x at front s. s) (λ y at front s. s)
    (then_exact (always (byte 0x70)) limits (fixed_item 0x70) limits_item (fixed_exact 0x70) limits_exact)

pub mutability_exact : IsExact mutability mutability_item
unfolding mutability_item
mutability_exact = image_exact (one_of is_mutability) is_variable (one_of_item is_mutability) (one_of_exact is_mutability)

pub globaltype_exact : IsExact globaltype globaltype_item
unfolding globaltype_item
globaltype_exact = then_exact valtype mutability valtype_item mutability_item valtype_exact mutability_exact

-- ---- imports and exports

import_picks : (names : List ℕ × List ℕ) (kind : ℕ) → PicksExact (import_tail names kind) (import_behind names kind)
import_picks names kind =
    on_test_picks (kind == 0x00) _ _ _ _ (image_exact u32 (function_import names) u32_item u32_exact)
    (on_test_picks (kind == 0x01) _ _ _ _ (image_exact table table_import table_item table_exact)
    (on_test_picks (kind == 0x02) _ _ _ _ (image_exact limits memory_import limits_item limits_exact)
    (on_test_picks (kind == 0x03) _ _ _ _ (image_exact globaltype global_import globaltype_item globaltype_exact)
    no_spelling_picks)))

pub names_exact : IsExact (pair name name) (name_item ⊗ name_item)
names_exact = then_exact name name name_item name_item name_exact name_exact

pub import_exact : IsExact import_entry import_item
unfolding import_item
import_exact =
    leads_exact (pair name name) (λ names. tagged (import_tail names)) (name_item ⊗ name_item) (λ names. choose (import_behind names)) names_exact
    (λ names. choose_exact (import_tail names) (import_behind names) (import_picks names))

pub export_kind_exact : IsExact export_kind export_kind_item
unfolding export_kind_item
export_kind_exact = image_exact (one_of is_export_kind) export_kind_of (one_of_item is_export_kind) (one_of_exact is_export_kind)

pub export_exact : IsExact export_entry export_item
unfolding export_item
export_exact =
    image_exact (pair name (pair export_kind u32)) export_of (name_item ⊗ export_kind_item ⊗ u32_item)
    (then_exact _ _ _ _ name_exact (then_exact _ _ _ _ export_kind_exact u32_exact))

-- ---- locals

pub room_exact : (s : Locals) → IsExact (passing (is_room s) u32) (checked (is_room s) u32_item)
room_exact s = checked_exact (is_room s) u32 u32_item u32_exact

pub group_exact : (s : Locals) → IsExact (group_entry s) (group_step s)
unfolding group_step
group_exact s =
    image_exact (pair (passing (is_room s) u32) valtype) (with_group s) (checked (is_room s) u32_item ⊗ valtype_item)
    (then_exact _ _ _ _ (room_exact s) valtype_exact)

pub locals_exact : IsExact locals locals_item
unfolding locals_item
locals_exact =
    leads_exact u32 (λ n. steps group_entry n no_locals) u32_item (λ n. steps_from group_step n no_locals) u32_exact
    (λ n. steps_exact group_entry group_step group_exact n no_locals)
