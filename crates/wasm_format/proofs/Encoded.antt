-- The shortest spelling of an instruction spells it.
use Rattle.std.proofs.Common.{◌≡◌, ℕ, ◌+◌, ◌^◌, ◌<◌, ◌≤◌, List, [], ◌∷◌, ◌++◌, length, drop, Option, Some, None, refl, sym, ap, subst, lit≤, lit<, arith, length-take, length-drop}
use Rattle.std.specs.List.{flat_map}
use Rattle.std.specs.Int.{w32, w64, cast_signed}
use Rattle.std.proofs.lemmas.Int.{of_z-to_z}
use Rattle.int_ops.specs.declared.operators.Unary.{Unary}
use Rattle.int_ops.specs.declared.operators.Unary.TheVariants.{Clz, Ctz, Popcnt}
use Rattle.int_ops.specs.declared.operators.Compare.{Compare as Comparison}
use Rattle.int_ops.specs.declared.operators.Compare.TheVariants.{Eq, Ne, LtS, LtU, GtS, GtU, LeS, LeU, GeS, GeU}
use Rattle.int_ops.specs.declared.operators.Binary.{Binary as Operation}
use Rattle.int_ops.specs.declared.operators.Binary.TheVariants.{Add, Sub, Mul, DivS, DivU, RemS, RemU, And, Or, Xor, Shl, ShrS, ShrU, Rotl, Rotr}
use Rattle.int_ops.specs.declared.operators.Narrow32.TheVariants as narrow32
use Rattle.int_ops.specs.declared.operators.Narrow64.TheVariants as narrow64
use Rattle.wasm_leb.specs.Writing.{unsigned_bytes, signed_bytes}
use Rattle.wasm_leb.proofs.SignedBytes.{signed_spells}
use Rattle.wasm_syntax.specs.declared.value.ValType.{ValType}
use Rattle.wasm_syntax.specs.declared.value.ValType.TheVariants.{I32, I64}
use Rattle.wasm_syntax.specs.declared.value.Value.{Value}
use Rattle.wasm_syntax.specs.declared.value.Value.TheVariants as value
use Rattle.wasm_syntax.specs.declared.instruction.Sign.TheVariants.{Signed, Unsigned}
use Rattle.wasm_syntax.specs.declared.instruction.Convert.{Convert as Conversion}
use Rattle.wasm_syntax.specs.declared.instruction.Convert.TheVariants.{Wrap, ExtendS, ExtendU}
use Rattle.wasm_syntax.specs.declared.instruction.Load.{Load as Loaded}
use Rattle.wasm_syntax.specs.declared.instruction.Load.TheVariants as loads
use Rattle.wasm_syntax.specs.declared.instruction.Store.{Store as Stored}
use Rattle.wasm_syntax.specs.declared.instruction.Store.TheVariants as stores
use Rattle.wasm_syntax.specs.declared.instruction.Basic.{Basic}
use Rattle.wasm_syntax.specs.declared.instruction.Basic.TheVariants as basics
use Rattle.wasm_syntax.specs.declared.instruction.Jump.{Jump}
use Rattle.wasm_syntax.specs.declared.instruction.Jump.TheVariants as jumps
use Rattle.wasm_syntax.specs.declared.instruction.Instr.{Instr}
use Rattle.wasm_syntax.specs.declared.instruction.Instr.TheVariants as instr
use Rattle.wasm_syntax.specs.Numbers.{IsValue}
use Rattle.wasm_bytes.specs.calls.Spelling.{pair, u32, items, vector}
use Rattle.wasm_format.specs.declared.code.Code.TheVariants.{Known}
use Rattle.wasm_format.specs.Spelled.{Spelled, alone}
use Rattle.wasm_format.specs.InstructionForm.{Form, bare, indexed, access, typed, labels, indirect, reserved, constant_i32, constant_i64, bulk}
use Rattle.wasm_format.specs.Table.{form_of, numeric, load, store}
use Rattle.wasm_format.specs.calls.InstructionGrammar.{immediates, behind_opcode, instruction}
use Rattle.wasm_format.specs.Encoding.{load_opcode, store_opcode, comparison_place, unary_place, operation_place, by_type, conversion_opcode, two_numbers, constant_bytes, basic_bytes, targets_from, jump_bytes, block_type_byte, encoding, JumpInside, BasicFits, JumpFits, IsCode, AllWords, targets_of, BeginsAt, spelled_of}
use Rattle.wasm_bytes.proofs.Numbers.{u32_spelled, within_32, within_64}

abbrev some : Form → Option Form
some form = Some form

-- ---- the rows of operators

abbrev basic : Basic → Option Form
basic i = some (bare (instr.Basic i))

comparison_row : (t : ValType) (op : Comparison) → form_of (by_type 0x46 0x51 t + comparison_place op) ≡ basic (basics.Compare t op)
unfolding form_of numeric
comparison_row I32 Eq = refl
comparison_row I32 Ne = refl
comparison_row I32 LtS = refl
comparison_row I32 LtU = refl
comparison_row I32 GtS = refl
comparison_row I32 GtU = refl
comparison_row I32 LeS = refl
comparison_row I32 LeU = refl
comparison_row I32 GeS = refl
comparison_row I32 GeU = refl
comparison_row I64 Eq = refl
comparison_row I64 Ne = refl
comparison_row I64 LtS = refl
comparison_row I64 LtU = refl
comparison_row I64 GtS = refl
comparison_row I64 GtU = refl
comparison_row I64 LeS = refl
comparison_row I64 LeU = refl
comparison_row I64 GeS = refl
comparison_row I64 GeU = refl

unary_row : (t : ValType) (op : Unary) → form_of (by_type 0x67 0x79 t + unary_place op) ≡ basic (basics.Unary t op)
unfolding form_of numeric
unary_row I32 Clz = refl
unary_row I32 Ctz = refl
unary_row I32 Popcnt = refl
unary_row I64 Clz = refl
unary_row I64 Ctz = refl
unary_row I64 Popcnt = refl

operation_row : (t : ValType) (op : Operation) → form_of (by_type 0x6a 0x7c t + operation_place op) ≡ basic (basics.Binary t op)
unfolding form_of numeric
operation_row I32 Add = refl
operation_row I32 Sub = refl
operation_row I32 Mul = refl
operation_row I32 DivS = refl
operation_row I32 DivU = refl
operation_row I32 RemS = refl
operation_row I32 RemU = refl
operation_row I32 And = refl
operation_row I32 Or = refl
operation_row I32 Xor = refl
operation_row I32 Shl = refl
operation_row I32 ShrS = refl
operation_row I32 ShrU = refl
operation_row I32 Rotl = refl
operation_row I32 Rotr = refl
operation_row I64 Add = refl
operation_row I64 Sub = refl
operation_row I64 Mul = refl
operation_row I64 DivS = refl
operation_row I64 DivU = refl
operation_row I64 RemS = refl
operation_row I64 RemU = refl
operation_row I64 And = refl
operation_row I64 Or = refl
operation_row I64 Xor = refl
operation_row I64 Shl = refl
operation_row I64 ShrS = refl
operation_row I64 ShrU = refl
operation_row I64 Rotl = refl
operation_row I64 Rotr = refl

eqz_row : (t : ValType) → form_of (by_type 0x45 0x50 t) ≡ basic (basics.Eqz t)
unfolding form_of numeric
eqz_row I32 = refl
eqz_row I64 = refl

conversion_row : (op : Conversion) → form_of (conversion_opcode op) ≡ basic (basics.Convert op)
unfolding form_of numeric
conversion_row Wrap = refl
conversion_row ExtendS = refl
conversion_row ExtendU = refl

load_row : (l : Loaded) → form_of (load_opcode l) ≡ some (load l)
unfolding form_of
load_row (loads.Full I32) = refl
load_row (loads.Full I64) = refl
load_row (loads.Part32 narrow32.Eight Signed) = refl
load_row (loads.Part32 narrow32.Eight Unsigned) = refl
load_row (loads.Part32 narrow32.Sixteen Signed) = refl
load_row (loads.Part32 narrow32.Sixteen Unsigned) = refl
load_row (loads.Part64 narrow64.Eight Signed) = refl
load_row (loads.Part64 narrow64.Eight Unsigned) = refl
load_row (loads.Part64 narrow64.Sixteen Signed) = refl
load_row (loads.Part64 narrow64.Sixteen Unsigned) = refl
load_row (loads.Part64 narrow64.ThirtyTwo Signed) = refl
load_row (loads.Part64 narrow64.ThirtyTwo Unsigned) = refl

store_row : (s : Stored) → form_of (store_opcode s) ≡ some (store s)
unfolding form_of
store_row (stores.Full I32) = refl
store_row (stores.Full I64) = refl
store_row (stores.Part32 narrow32.Eight) = refl
store_row (stores.Part32 narrow32.Sixteen) = refl
store_row (stores.Part64 narrow64.Eight) = refl
store_row (stores.Part64 narrow64.Sixteen) = refl
store_row (stores.Part64 narrow64.ThirtyTwo) = refl

-- ---- an opcode, and what stands behind it

begins : (base at opcode : ℕ) (form : Form) (x : Spelled) (rest : List ℕ) → form_of opcode ≡ some form → immediates base at form x (at + 1) rest → instruction base x at (opcode ∷ rest)
begins base at opcode form x rest row s = (opcode, (opcode ∷ [], rest, refl, subst (λ (form : Option Form). behind_opcode base at form x (at + 1) rest) (sym row) s, refl))

bare_spells : (base at opcode : ℕ) (i : Instr) → form_of opcode ≡ some (bare i) → instruction base (alone i) at (opcode ∷ [])
bare_spells base at opcode i row = begins base at opcode (bare i) (alone i) [] row (refl, refl)

indexed_spells : (base at opcode : ℕ) (to : ℕ → Instr) (n : ℕ) → form_of opcode ≡ some (indexed to) → n < 2 ^ 32 → instruction base (alone (to n)) at (opcode ∷ unsigned_bytes n)
indexed_spells base at opcode to n row small = begins base at opcode (indexed to) (alone (to n)) (unsigned_bytes n) row (n, refl, u32_spelled n (at + 1) small)

two_spell : (m n at : ℕ) → m < 2 ^ 32 → n < 2 ^ 32 → pair u32 u32 (m, n) at (two_numbers m n)
two_spell m n at first second = (unsigned_bytes m, unsigned_bytes n, u32_spelled m at first, u32_spelled n (at + length (unsigned_bytes m)) second, refl)

access_spells : (base at opcode : ℕ) (to : ℕ → ℕ → Instr) (m n : ℕ) → form_of opcode ≡ some (access to) → m < 2 ^ 32 → n < 2 ^ 32 → instruction base (alone (to m n)) at (opcode ∷ two_numbers m n)
access_spells base at opcode to m n row first second = begins base at opcode (access to) (alone (to m n)) (two_numbers m n) row ((m, n), refl, two_spell m n (at + 1) first second)

block_spells : (base at opcode : ℕ) (to : Option ValType → Instr) (t : Option ValType) → form_of opcode ≡ some (typed to) → instruction base (alone (to t)) at (opcode ∷ block_type_byte t ∷ [])
block_spells base at opcode to None row = begins base at opcode (typed to) (alone (to None)) (0x40 ∷ []) row (0x40, refl, (refl, refl))
block_spells base at opcode to (Some I32) row = begins base at opcode (typed to) (alone (to (Some I32))) (0x7f ∷ []) row (0x7f, refl, (refl, refl))
block_spells base at opcode to (Some I64) row = begins base at opcode (typed to) (alone (to (Some I64))) (0x7e ∷ []) row (0x7e, refl, (refl, refl))

-- ---- constants

constant_spells : (base at : ℕ) (v : Value) → IsValue v → instruction base (alone (instr.Basic (basics.Const v))) at (constant_bytes v)
unfolding form_of
constant_spells base at (value.I32 n) small =
    begins base at 0x41 constant_i32 (alone (instr.Basic (basics.Const (value.I32 n)))) (signed_bytes (cast_signed w32 n)) refl
    (cast_signed w32 n, ap (λ (m : ℕ). alone (instr.Basic (basics.Const (value.I32 m)))) (of_z-to_z w32 n small), signed_spells 32 (cast_signed w32 n) (lit≤ tt) (within_32 n small))
constant_spells base at (value.I64 n) small =
    begins base at 0x42 constant_i64 (alone (instr.Basic (basics.Const (value.I64 n)))) (signed_bytes (cast_signed w64 n)) refl
    (cast_signed w64 n, ap (λ (m : ℕ). alone (instr.Basic (basics.Const (value.I64 m)))) (of_z-to_z w64 n small), signed_spells 64 (cast_signed w64 n) (lit≤ tt) (within_64 n small))

-- ---- a `br_table`

numbers_spell : (xs : List ℕ) (at : ℕ) → AllWords xs → items u32 xs at (flat_map unsigned_bytes xs)
numbers_spell [] at small = refl
numbers_spell (x ∷ xs) at small = (unsigned_bytes x, flat_map unsigned_bytes xs, u32_spelled x at small.0, numbers_spell xs (at + length (unsigned_bytes x)) small.1, refl)

labels_spell : (at count default : ℕ) (xs : List ℕ) → length xs ≡ count → count < 2 ^ 32 → default < 2 ^ 32 → AllWords xs → pair (vector u32) u32 (xs, default) at ((unsigned_bytes count ++ flat_map unsigned_bytes xs) ++ unsigned_bytes default)
labels_spell at count default xs counted small last all =
    let counts : u32 (length xs) at (unsigned_bytes count) = subst (λ (n : ℕ). u32 n at (unsigned_bytes count)) (sym counted) (u32_spelled count at small) in
    let bytes = unsigned_bytes count ++ flat_map unsigned_bytes xs in
    (bytes, unsigned_bytes default, (unsigned_bytes count, flat_map unsigned_bytes xs, counts, numbers_spell xs (at + length (unsigned_bytes count)) all, refl), u32_spelled default (at + length bytes) last, refl)

targets_counted : (start count : ℕ) (xs : List ℕ) → start + count ≤ length xs → length (targets_from start count xs) ≡ count
targets_counted start count xs room = omega (arith, length-take count (drop start xs), length-drop start xs, room)

-- ---- instructions

basic_spells : (base at : ℕ) (i : Basic) → BasicFits i → instruction base (alone (instr.Basic i)) at (basic_bytes i)
unfolding form_of numeric
basic_spells base at basics.Nop fits = bare_spells base at 0x01 (instr.Basic basics.Nop) refl
basic_spells base at basics.Drop fits = bare_spells base at 0x1a (instr.Basic basics.Drop) refl
basic_spells base at basics.Select fits = bare_spells base at 0x1b (instr.Basic basics.Select) refl
basic_spells base at (basics.LocalGet x) fits = indexed_spells base at 0x20 (λ n. instr.Basic (basics.LocalGet n)) x refl fits
basic_spells base at (basics.LocalSet x) fits = indexed_spells base at 0x21 (λ n. instr.Basic (basics.LocalSet n)) x refl fits
basic_spells base at (basics.LocalTee x) fits = indexed_spells base at 0x22 (λ n. instr.Basic (basics.LocalTee n)) x refl fits
basic_spells base at (basics.GlobalGet x) fits = indexed_spells base at 0x23 (λ n. instr.Basic (basics.GlobalGet n)) x refl fits
basic_spells base at (basics.GlobalSet x) fits = indexed_spells base at 0x24 (λ n. instr.Basic (basics.GlobalSet n)) x refl fits
basic_spells base at (basics.Load l align offset) fits = access_spells base at (load_opcode l) (λ m n. instr.Basic (basics.Load l m n)) align offset (load_row l) fits.0 fits.1
basic_spells base at (basics.Store s align offset) fits = access_spells base at (store_opcode s) (λ m n. instr.Basic (basics.Store s m n)) align offset (store_row s) fits.0 fits.1
basic_spells base at basics.MemorySize fits = begins base at 0x3f (reserved (instr.Basic basics.MemorySize)) (alone (instr.Basic basics.MemorySize)) (0x00 ∷ []) refl (tt, refl, refl)
basic_spells base at basics.MemoryGrow fits = begins base at 0x40 (reserved (instr.Basic basics.MemoryGrow)) (alone (instr.Basic basics.MemoryGrow)) (0x00 ∷ []) refl (tt, refl, refl)
basic_spells base at basics.MemoryCopy fits = begins base at 0xfc bulk (alone (instr.Basic basics.MemoryCopy)) (10 ∷ 0x00 ∷ 0x00 ∷ []) refl (10, refl, (10, (10 ∷ [], 0x00 ∷ 0x00 ∷ [], (refl, (lit< tt, lit< tt, refl)), (tt, refl, refl), refl)))
basic_spells base at basics.MemoryFill fits = begins base at 0xfc bulk (alone (instr.Basic basics.MemoryFill)) (11 ∷ 0x00 ∷ []) refl (11, refl, (11, (11 ∷ [], 0x00 ∷ [], (refl, (lit< tt, lit< tt, refl)), (tt, refl, refl), refl)))
basic_spells base at (basics.Const v) fits = constant_spells base at v fits
basic_spells base at (basics.Eqz t) fits = bare_spells base at (by_type 0x45 0x50 t) (instr.Basic (basics.Eqz t)) (eqz_row t)
basic_spells base at (basics.Unary t op) fits = bare_spells base at (by_type 0x67 0x79 t + unary_place op) (instr.Basic (basics.Unary t op)) (unary_row t op)
basic_spells base at (basics.Compare t op) fits = bare_spells base at (by_type 0x46 0x51 t + comparison_place op) (instr.Basic (basics.Compare t op)) (comparison_row t op)
basic_spells base at (basics.Binary t op) fits = bare_spells base at (by_type 0x6a 0x7c t + operation_place op) (instr.Basic (basics.Binary t op)) (operation_row t op)
basic_spells base at (basics.Convert op) fits = bare_spells base at (conversion_opcode op) (instr.Basic (basics.Convert op)) (conversion_row op)
basic_spells base at (basics.Extend32 narrow32.Eight) fits = bare_spells base at 0xc0 (instr.Basic (basics.Extend32 narrow32.Eight)) refl
basic_spells base at (basics.Extend32 narrow32.Sixteen) fits = bare_spells base at 0xc1 (instr.Basic (basics.Extend32 narrow32.Sixteen)) refl
basic_spells base at (basics.Extend64 narrow64.Eight) fits = bare_spells base at 0xc2 (instr.Basic (basics.Extend64 narrow64.Eight)) refl
basic_spells base at (basics.Extend64 narrow64.Sixteen) fits = bare_spells base at 0xc3 (instr.Basic (basics.Extend64 narrow64.Sixteen)) refl
basic_spells base at (basics.Extend64 narrow64.ThirtyTwo) fits = bare_spells base at 0xc4 (instr.Basic (basics.Extend64 narrow64.ThirtyTwo)) refl

jump_spells : (targets : List ℕ) (base at : ℕ) (j : Jump) → JumpFits j → AllWords (targets_of targets (instr.Jump j)) → JumpInside targets j → BeginsAt base (instr.Jump j) → instruction base (spelled_of targets (instr.Jump j)) at (jump_bytes targets j)
unfolding form_of
jump_spells targets base at jumps.Unreachable fits small inside from = bare_spells base at 0x00 (instr.Jump jumps.Unreachable) refl
jump_spells targets base at (jumps.Br l) fits small inside from = indexed_spells base at 0x0c (λ n. instr.Jump (jumps.Br n)) l refl fits
jump_spells targets base at (jumps.BrIf l) fits small inside from = indexed_spells base at 0x0d (λ n. instr.Jump (jumps.BrIf n)) l refl fits
jump_spells targets base at (jumps.BrTable start count default) fits small inside from =
    let xs = targets_from start count targets in
    let counted = targets_counted start count targets inside in
    begins base at 0x0e labels (spelled_of targets (instr.Jump (jumps.BrTable start count default))) _ refl
    ((xs, default), same xs start count default base (sym from) counted, labels_spell (at + 1) count default xs counted fits.0 fits.1 small)
  where
    same : (xs : List ℕ) (start count default base : ℕ) → base ≡ start → length xs ≡ count → (let s : Spelled = record { code = Known (instr.Jump (jumps.BrTable base (length xs) default)); targets = xs } in s) ≡ (let s : Spelled = record { code = Known (instr.Jump (jumps.BrTable start count default)); targets = xs } in s)
    same xs start count default base e f = cc
jump_spells targets base at jumps.Return fits small inside from = bare_spells base at 0x0f (instr.Jump jumps.Return) refl
jump_spells targets base at (jumps.Call f) fits small inside from = indexed_spells base at 0x10 (λ n. instr.Jump (jumps.Call n)) f refl fits
jump_spells targets base at (jumps.CallIndirect t) fits small inside from =
    begins base at 0x11 indirect (alone (instr.Jump (jumps.CallIndirect t))) (unsigned_bytes t ++ 0x00 ∷ []) refl
    ((t, 0), refl, (unsigned_bytes t, 0x00 ∷ [], u32_spelled t (at + 1) fits, (refl, (lit< tt, lit< tt, refl)), refl))

pub encoding_spells : (targets : List ℕ) (base at : ℕ) (i : Instr) → IsCode targets i → BeginsAt base i → instruction base (spelled_of targets i) at (encoding targets i)
unfolding encoding form_of
encoding_spells targets base at (instr.Basic i) is from = basic_spells base at i is.numbers
encoding_spells targets base at (instr.Jump j) is from = jump_spells targets base at j is.numbers is.labels is.inside from
encoding_spells targets base at (instr.Block t) is from = block_spells base at 0x02 instr.Block t refl
encoding_spells targets base at (instr.Loop t) is from = block_spells base at 0x03 instr.Loop t refl
encoding_spells targets base at (instr.If t) is from = block_spells base at 0x04 instr.If t refl
encoding_spells targets base at instr.Else is from = bare_spells base at 0x05 instr.Else refl
encoding_spells targets base at instr.End is from = bare_spells base at 0x0b instr.End refl
