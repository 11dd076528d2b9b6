-- The bytes of the entries of the code section: wrappers, helpers and rewritten bodies.
use Rattle.std.proofs.Common.{◌≡◌, ℕ, zero, suc, ◌+◌, ◌*◌, ◌/◌, ◌<◌, ◌≤◌, Bool, true, false, List, [], ◌∷◌, ◌++◌, length, map, flat_map, Option, Some, None, refl, arith, length-append, slice_get, option_map, unwrap_or}
use Rattle.std.proofs.lemmas.List.{length-map}
use Rattle.wasm_leb.specs.Writing.{unsigned_bytes, signed_bytes, signed_groups}
use Rattle.wasm_syntax.specs.declared.value.ValType.{ValType}
use Rattle.wasm_syntax.specs.declared.value.ValType.TheVariants.{I32, I64}
use Rattle.wasm_syntax.specs.declared.instruction.Basic.TheVariants.{GlobalSet}
use Rattle.wasm_syntax.specs.declared.parts.FuncType.{FuncType}
use Rattle.wasm_syntax.specs.declared.parts.LocalGroup.{LocalGroup}
use Rattle.wasm_syntax.specs.declared.parts.Body.{Body}
use Rattle.wasm_syntax.specs.declared.module.ModuleParts.{ModuleParts as Module}
use Rattle.wasm_syntax.specs.Tree.{Unreachable, BrTable, Return, Nodes, stop, basic, jump}
use Rattle.wasm_syntax.specs.Module.{type_at, same_functype, option_then}
use Rattle.wasm_syntax.specs.Run.{table_min, start_table}
use Rattle.wasm_syntax.specs.Sizes.{parameter_count}
use Rattle.wasm_encode.specs.Encoding.{vector_bytes, value_type_bytes, group_bytes, function_bytes, entry_bytes, expression_bytes}
use Rattle.wasm_format_laws.proofs.Measures.{sized_length}
use Rattle.rewrite_bodies.specs.Numbering.{import_count, mapped, value_import, frame_import, flag_of, global_types}
use Rattle.rewrite_bodies.specs.calls.Slots.{group, groups}
use Rattle.rewrite_bodies.specs.calls.Pieces.{const, i32, call, if_any}
use Rattle.rewrite_bodies.specs.calls.Guards.{renew, first_table, type_label, entry_label, says, helper}
use Rattle.rewrite_bodies.specs.calls.Length.{code_length, jump_length}
use Rattle.rewrite_bodies.proofs.Lengths.{len_renewed, len_const, len_call, len_global_get, len_global_set}
use Rattle.rewrite_modules.specs.calls.FlatCode.{body_of}
use Rattle.rewrite_modules.specs.calls.Wrappers.{get_all, tell_globals, lower_flag, end_of_dump, after_wrapped, wrapper}
use Rattle.wasm_format_laws.proofs.Numbers.{some_bytes, few_bytes, single_byte, four_bytes}
use Rattle.wasm_format_laws.proofs.Totals.{total, total-append, total_many, vector_total}
use Rattle.rewrite_promise.proofs.Items.{new_expression}
use Rattle.wasm_format.proofs.Shortest.{labels_length}
use Rattle.wasm_leb.proofs.Lengths.{ten_bytes}
use Rattle.rewrite_modules.proofs.CodeLengths.{taken_most}
use Rattle.rewrite_modules.proofs.EncodedLengths.{groups_total, entry_total}

-- an entry without locals
pub plain_entry : (nodes : Nodes) → length (entry_bytes (body_of [] nodes)) ≤ 12 + code_length nodes
plain_entry nodes =
    let body = body_of [] nodes in
    let a = entry_total body in
    let b = ten_bytes (length (function_bytes body)) in
    let c = single_byte 0 (omega arith) in
    let d = new_expression [] nodes in
    omega (arith, a, b, c, d)

-- ---- wrappers

get_all_short : (x n : ℕ) (k : Nodes) → code_length (get_all x n k) ≤ 11 * n + code_length k
get_all_short x zero k = omega arith
get_all_short x (suc n) k =
    let a = ten_bytes x in
    let b = get_all_short (suc x) n k in
    omega (arith, a, b)

value_four : (m : Module) (t : ValType) → import_count m < 268435450 → length (unsigned_bytes (value_import m t)) ≤ 4
value_four m I32 few = four_bytes (import_count m + 0) (omega (arith, few))
value_four m I64 few = four_bytes (import_count m + 1) (omega (arith, few))

tell_short : (m : Module) → import_count m < 268435450 → (x : ℕ) (ts : List ValType) (k : Nodes) → code_length (tell_globals m x ts k) ≤ 16 * length ts + code_length k
tell_short m few x [] k = omega arith
tell_short m few x (t ∷ ts) k =
    let a = ten_bytes x in
    let b = value_four m t few in
    let c = tell_short m few (suc x) ts k in
    omega (arith, a, b, c)

-- the constant 0
len_zero : (k : Nodes) → code_length (const (i32 0) k) ≡ 2 + code_length k
unfolding signed_bytes signed_groups
len_zero k = refl

dump_short : (m : Module) → import_count m < 268435450 → code_length (end_of_dump m) ≤ 45 + 16 * length m.globals
dump_short m few =
    let k0 = jump 0 Unreachable stop in
    let l0 = basic 0 (GlobalSet (flag_of m)) k0 in
    let l1 = lower_flag m k0 in
    let k1 = call (frame_import m) l1 in
    let k2 = const (i32 (length m.globals)) k1 in
    let k3 = const (i32 0) k2 in
    let k4 = const (i32 0) k3 in
    let k5 = const (i32 255) k4 in
    let a = tell_short m few 0 (global_types m) k5 in
    let b = len_const (i32 255) k4 in
    let c = len_zero k3 in
    let d = len_zero k2 in
    let e = len_const (i32 (length m.globals)) k1 in
    let f = four_bytes (frame_import m) (omega (arith, few)) in
    let g = len_zero l0 in
    let h = len_global_set (flag_of m) k0 in
    let n : length (global_types m) ≡ length m.globals = length-map m.globals (λ g. g.vtype) in
    omega (arith, a, b, c, d, e, f, g, h, n)

wrapper_short : (m : Module) (f : ℕ) → import_count m < 268435450 → code_length (wrapper m f) ≤ 106 + 16 * parameter_count (type_at m f) + 16 * length m.globals
wrapper_short m f few =
    let n = parameter_count (type_at m f) in
    let k1 = after_wrapped m in
    let k2 = call (mapped m f) k1 in
    let k3 = get_all 0 n k2 in
    let k4 = renew m k3 in
    let a = len_zero (basic 0 (GlobalSet (flag_of m)) k4) in
    let b = len_global_set (flag_of m) k4 in
    let h = len_renewed m.memories m k3 in
    let c = get_all_short 0 n k2 in
    let d = len_call (mapped m f) k1 in
    let e = len_global_get (flag_of m) (if_any (end_of_dump m) stop) in
    let g = dump_short m few in
    omega (arith, a, b, c, d, e, g, h)

-- a wrapper's entry takes what the weight gives to an entry, but for 10 bytes
pub wrapper_entry : (m : Module) (f : ℕ) → import_count m < 268435450 → 10 + length (entry_bytes (body_of [] (wrapper m f))) ≤ 128 + 16 * parameter_count (type_at m f) + 16 * length m.globals
wrapper_entry m f few =
    let a = plain_entry (wrapper m f) in
    let b = wrapper_short m f few in
    omega (arith, a, b)

-- ---- helpers

label_low : (b : Bool) → type_label b < 4
label_low true = omega arith
label_low false = omega arith

entry_low : (m : Module) (t : ℕ) (q : Option ℕ) → entry_label m t q < 4
entry_low m t None = omega arith
entry_low m t (Some g) = by_type (slice_get m.types t) (type_at m g)
  where
    by_two : (type : FuncType) (o : Option FuncType) → unwrap_or (option_map (λ u. type_label (same_functype u type)) o) 0 < 4
    by_two type None = omega arith
    by_two type (Some u) = label_low (same_functype u type)

    by_type : (a b : Option FuncType) → unwrap_or (option_then a (λ type. option_map (λ u. type_label (same_functype u type)) b)) 0 < 4
    by_type None b = omega arith
    by_type (Some type) b = by_two type b

labels_short : (m : Module) (t : ℕ) (qs : List (Option ℕ)) → length (flat_map unsigned_bytes (map (entry_label m t) qs)) ≤ length qs
labels_short m t [] = omega arith
labels_short m t (q ∷ qs) =
    let n = entry_label m t q in
    let low = entry_low m t q in
    let a = single_byte n (omega (arith, low)) in
    let b = labels_short m t qs in
    let c = length-append (unsigned_bytes n) (flat_map unsigned_bytes (map (entry_label m t) qs)) in
    omega (arith, a, b, c)

table_short : (m : Module) (t : ℕ) → jump_length (BrTable (map (entry_label m t) (first_table m)) 1) ≤ 12 + length (first_table m)
table_short m t =
    let ts = map (entry_label m t) (first_table m) in
    let a = labels_length (length ts) 1 ts in
    let b = ten_bytes (length ts) in
    let c = labels_short m t (first_table m) in
    let d = single_byte 1 (omega arith) in
    omega (arith, a, b, c, d)

says_short : (kind : ℕ) → code_length (says kind) ≤ 12
says_short kind = let a = len_const (i32 kind) (jump 0 Return stop) in omega (arith, a)

helper_short : (m : Module) (t : ℕ) → code_length (helper m t) ≤ 74 + length (first_table m)
helper_short m t =
    let a = table_short m t in
    let b = single_byte 0 (omega arith) in
    omega (arith, a, b, says_short 0, says_short 5, says_short 6, says_short 7)

pub helper_entry : (m : Module) (t : ℕ) → length (entry_bytes (body_of [] (helper m t))) ≤ 86 + table_min m.tables
helper_entry m t =
    let a = plain_entry (helper m t) in
    let b = helper_short m t in
    let c = taken_most (table_min m.tables) (start_table m) in
    omega (arith, a, b, c)

-- ---- rewritten bodies

group_few : (n : ℕ) (t : ValType) → length (group_bytes (group n t)) ≤ 2 + n / 128
unfolding group_bytes value_type_bytes
group_few n t =
    let a = length-append (unsigned_bytes n) (value_type_bytes t) in
    let b = few_bytes n in
    omega (arith, a, b)

added_total : (n : ℕ) → groups_total (groups n) ≤ 4 * n + 8
added_total n =
    let a = group_few (n + 3) I32 in
    let b = group_few (n + 2) I64 in
    omega (arith, a, b)

pub group_some : (g : LocalGroup) → 1 ≤ length (group_bytes g)
unfolding group_bytes
group_some g =
    let a = length-append (unsigned_bytes g.count) (value_type_bytes g.vtype) in
    let b = some_bytes g.count in
    omega (arith, a, b)

-- A body with slots whose code takes W bytes, beside one that holds as many bytes as slots: what is more than W is at most six times the
-- other's entry and two bytes, so that two bytes are left for each of its bytes.
pub slots_entry : (old : Body) (slots W : ℕ) (nodes : Nodes) → slots + 1 ≤ length (expression_bytes old) → code_length nodes ≤ W → length (entry_bytes (body_of (old.groups ++ groups slots) nodes)) ≤ W + 6 * length (entry_bytes old) + 2
slots_entry old slots W nodes many short =
    let gs = old.groups in
    let body = body_of (gs ++ groups slots) nodes in
    let a = entry_total body in
    let b = ten_bytes (length (function_bytes body)) in
    let n = length (gs ++ groups slots) in
    let n_is : n ≡ length gs + 2 = omega (arith, length-append gs (groups slots)) in
    let c = few_bytes n in
    let d = total-append (λ g. length (group_bytes g)) gs (groups slots) in
    let e = added_total slots in
    let f = new_expression (gs ++ groups slots) nodes in
    let g = entry_total old in
    let h = some_bytes (length (function_bytes old)) in
    let i = some_bytes (length gs) in
    let k = total_many (λ g. length (group_bytes g)) gs group_some in
    let l : 1 + n / 128 ≤ 1 + length gs + slots = omega (arith, n_is) in
    omega (arith, a, b, c, d, e, f, g, h, i, k, l, many, short)
