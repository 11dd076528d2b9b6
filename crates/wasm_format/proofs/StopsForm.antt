-- Where types, imports, exports and locals stop.
use Rattle.std.proofs.Common.{ℕ, List}
use Rattle.std.specs.Prelude.{◌==◌}
use Rattle.wasm_bytes.specs.Place.{Place, Read}
use Rattle.wasm_bytes.specs.Reading.{◌⊗◌, mapped, checked, choose, fixed_item, one_of_item, u32_item, name_item, vector_item, steps_from}
use Rattle.wasm_bytes.specs.calls.Spelling.{pair, always, passing, byte, one_of, u32, name}
use Rattle.wasm_bytes.specs.calls.Stopping.{unread, vector_stops, steps_stops, tagged_stops}
use Rattle.wasm_bytes.specs.Laws.{IsExact, StopsAt, PicksStops}
use Rattle.wasm_bytes.proofs.ExactItems.{u32_exact, fixed_exact, name_exact}
use Rattle.wasm_bytes.proofs.Stops.{unread_stops_at, u32_front, checked_front, one_of_stops_at, fixed_stops_at, u32_stops_at, name_stops_at, mapped_stops_at, then_stops_at, leads_stops_at}
use Rattle.wasm_bytes.proofs.StopsLists.{choose_stops_at, vector_stops_at, steps_stops_at}
use Rattle.wasm_bytes.specs.declared.noted.Noted.{Noted}
use Rattle.wasm_format.specs.declared.expression.Locals.{Locals}
use Rattle.wasm_bytes.specs.Notes.{together, noted_vector_item}
use Rattle.wasm_format.specs.Form.{is_valtype, valtype_of, valtype_item, functype_of, functype_item, least, bounded, limits_behind, limits_item, table_item, is_mutability, is_variable, mutability_item, globaltype_item, function_import, table_import, memory_import, global_import, import_behind, import_item, is_export_kind, export_kind_of, export_kind_item, export_of, export_item, no_locals, is_room, with_group, group_step, locals_item}
use Rattle.wasm_format.specs.calls.Grammar.{valtype, noted_vector, export_kind, group_entry}
use Rattle.wasm_format.specs.calls.Breaking.{no_valtype, valtypes_stops, functype_stops, IsLimitsFlag, limits_tail_stops, limits_stops, table_stops, globaltype_stops, IsImportKind, import_tail_stops, names_stops, import_stops, export_stops, group_stops, locals_stops}
use Rattle.wasm_format.proofs.Tests.{picks_stops, offset_stops}
use Rattle.wasm_format.proofs.ExactForm.{valtype_exact, valtypes_exact, names_exact, export_kind_exact, room_exact, group_exact}

-- ---- types

pub valtype_stops_at : StopsAt no_valtype valtype_item
unfolding valtype_item
valtype_stops_at =
    offset_stops (λ at. no_valtype) (λ at. mapped (valtype_of at) (one_of_item is_valtype))
    (λ at. mapped_stops_at (valtype_of at) no_valtype (one_of_item is_valtype) (one_of_stops_at is_valtype))

pub noted_vector_stops_at : {A : Type 0} (S : Noted A → ℕ → List ℕ → Type 0) (s : ℕ → List ℕ → ℕ → Type 0) (f : Place → Read (Noted A)) → IsExact S f → StopsAt s f → StopsAt (vector_stops S s) (noted_vector_item f)
unfolding noted_vector_item
noted_vector_stops_at S s f e h = mapped_stops_at together (vector_stops S s) (vector_item f) (vector_stops_at S s f e h)

pub valtypes_stops_at : StopsAt valtypes_stops (noted_vector_item valtype_item)
valtypes_stops_at = noted_vector_stops_at valtype no_valtype valtype_item valtype_exact valtype_stops_at

pub functype_stops_at : StopsAt functype_stops functype_item
unfolding functype_item
functype_stops_at =
    mapped_stops_at functype_of functype_stops (fixed_item 0x60 ⊗ noted_vector_item valtype_item ⊗ noted_vector_item valtype_item)
    (then_stops_at (always (byte 0x60)) _ _ (fixed_item 0x60) _ (fixed_exact 0x60) (fixed_stops_at 0x60)
    (then_stops_at (noted_vector valtype) _ _ (noted_vector_item valtype_item) _ valtypes_exact valtypes_stops_at valtypes_stops_at))

limits_picks : (flag : ℕ) → PicksStops (IsLimitsFlag flag) (limits_tail_stops flag) (limits_behind flag)
limits_picks flag =
    picks_stops (flag == 0x00) _ _ _ _ _ (mapped_stops_at least (unread u32) u32_item u32_stops_at)
    (picks_stops (flag == 0x01) _ _ _ _ _ (mapped_stops_at bounded _ (u32_item ⊗ u32_item) (then_stops_at u32 _ _ u32_item _ u32_exact u32_stops_at u32_stops_at))
    (λ x. x))

pub limits_stops_at : StopsAt limits_stops limits_item
unfolding limits_item
limits_stops_at = choose_stops_at IsLimitsFlag limits_tail_stops limits_behind limits_picks

pub table_stops_at : StopsAt table_stops table_item
unfolding table_item
table_stops_at = mapped_stops_at (λ x. x.1) table_stops (fixed_item 0x70 ⊗ limits_item) (then_stops_at (always (byte 0x70)) _ _ (fixed_item 0x70) limits_item (fixed_exact 0x70) (fixed_stops_at 0x70) limits_stops_at)

mutability_stops_at : StopsAt (unread (one_of is_mutability)) mutability_item
unfolding mutability_item
mutability_stops_at = mapped_stops_at is_variable (unread (one_of is_mutability)) (one_of_item is_mutability) (one_of_stops_at is_mutability)

pub globaltype_stops_at : StopsAt globaltype_stops globaltype_item
unfolding globaltype_item
globaltype_stops_at = then_stops_at valtype no_valtype (unread (one_of is_mutability)) valtype_item mutability_item valtype_exact valtype_stops_at mutability_stops_at

-- ---- imports and exports

import_picks : (names : List ℕ × List ℕ) (kind : ℕ) → PicksStops (IsImportKind kind) (import_tail_stops kind) (import_behind names kind)
import_picks names kind =
    picks_stops (kind == 0x00) _ _ _ _ _ (mapped_stops_at (function_import names) (unread u32) u32_item u32_stops_at)
    (picks_stops (kind == 0x01) _ _ _ _ _ (mapped_stops_at table_import table_stops table_item table_stops_at)
    (picks_stops (kind == 0x02) _ _ _ _ _ (mapped_stops_at memory_import limits_stops limits_item limits_stops_at)
    (picks_stops (kind == 0x03) _ _ _ _ _ (mapped_stops_at global_import globaltype_stops globaltype_item globaltype_stops_at)
    (λ x. x))))

names_stops_at : StopsAt names_stops (name_item ⊗ name_item)
names_stops_at = then_stops_at name (unread name) (unread name) name_item name_item name_exact name_stops_at name_stops_at

pub import_stops_at : StopsAt import_stops import_item
unfolding import_item
import_stops_at =
    leads_stops_at (pair name name) names_stops (λ names. tagged_stops IsImportKind import_tail_stops) (name_item ⊗ name_item) (λ names. choose (import_behind names)) names_exact names_stops_at
    (λ names. choose_stops_at IsImportKind import_tail_stops (import_behind names) (import_picks names))

export_kind_stops_at : StopsAt (unread (one_of is_export_kind)) export_kind_item
unfolding export_kind_item
export_kind_stops_at = mapped_stops_at export_kind_of (unread (one_of is_export_kind)) (one_of_item is_export_kind) (one_of_stops_at is_export_kind)

pub export_stops_at : StopsAt export_stops export_item
unfolding export_item
export_stops_at =
    mapped_stops_at export_of export_stops (name_item ⊗ export_kind_item ⊗ u32_item)
    (then_stops_at name (unread name) _ name_item _ name_exact name_stops_at
    (then_stops_at export_kind _ _ export_kind_item _ export_kind_exact export_kind_stops_at u32_stops_at))

-- ---- locals

no_room_stops_at : (s : Locals) → StopsAt (unread (passing (is_room s) u32)) (checked (is_room s) u32_item)
no_room_stops_at s = unread_stops_at (passing (is_room s) u32) (checked (is_room s) u32_item) (room_exact s) (checked_front (is_room s) u32_item u32_front)

group_stops_at : (s : Locals) → StopsAt (group_stops s) (group_step s)
unfolding group_step
group_stops_at s =
    mapped_stops_at (with_group s) (group_stops s) (checked (is_room s) u32_item ⊗ valtype_item)
    (then_stops_at (passing (is_room s) u32) _ _ (checked (is_room s) u32_item) _ (room_exact s) (no_room_stops_at s) valtype_stops_at)

pub locals_stops_at : StopsAt locals_stops locals_item
unfolding locals_item
locals_stops_at =
    leads_stops_at u32 (unread u32) (λ n. steps_stops group_entry group_stops n no_locals) u32_item (λ n. steps_from group_step n no_locals) u32_exact u32_stops_at
    (λ n. steps_stops_at group_entry group_stops group_step group_exact group_stops_at n no_locals)
