-- Worked expressions, by computation. The answers are those of an evaluator written apart from these definitions.
use Rattle.std.specs.Prelude.{◌≡◌, ℕ, List, [], ◌∷◌, ◌++◌, map, replicate, Option, Some, None, refl}
use Rattle.int_ops.specs.Integers.{binary, compare, div_s, rem_s}
use Rattle.linear_memory.specs.Memory.{Memory}
use Rattle.wasm_leb.specs.Reading.{unsigned_at, u64_at, signed_at, s64_at, last_signed}
use Rattle.wasm_bytes.specs.Reading.{byte_item, run_item, u64_item, s64_item}
use Rattle.wasm_syntax.specs.declared.value.Seen.{Seen}
use Rattle.wasm_syntax.specs.declared.value.Seen.TheVariants as seen
use Rattle.dwarf_bytes.specs.Items.{number_item}
use Rattle.dwarf_bytes.specs.Format.{read}
use Rattle.dwarf_expr.specs.declared.answer.Base.TheVariants as base
use Rattle.dwarf_expr.specs.declared.answer.Eval.TheVariants as eval
use Rattle.dwarf_expr.specs.declared.answer.Piece.{Piece}
use Rattle.dwarf_expr.specs.declared.answer.PiecePlace.{PiecePlace}
use Rattle.dwarf_expr.specs.declared.answer.PiecePlace.TheVariants as at_place
use Rattle.dwarf_expr.specs.View.{View}
use Rattle.dwarf_expr.specs.Operators.{behind}
use Rattle.dwarf_expr.specs.Decode.{operators, operators_from}
use Rattle.dwarf_expr.specs.Meaning.{meaning, parts, pieces_of, run, effect}
use Rattle.dwarf_expr.specs.FrameBase.{frame_base}

abbrev view : List Seen → List Seen → List Seen → Option Memory → View
view locals operands globals memory = record { locals = locals; operands = operands; globals = globals; memory = memory }

abbrev piece : ℕ → PiecePlace → Piece
piece size place = record { size = size; place = place }

-- 64 bytes, of which those from 16 on are 1 to 16
abbrev memory_of_64 : Memory
memory_of_64 = record { bytes = replicate 16 0 ++ (1 ∷ 2 ∷ 3 ∷ 4 ∷ 5 ∷ 6 ∷ 7 ∷ 8 ∷ 9 ∷ 10 ∷ 11 ∷ 12 ∷ 13 ∷ 14 ∷ 15 ∷ 16 ∷ []) ++ replicate 32 0; max = 1 }

-- a frame with that memory alone
abbrev bare : View
bare = view [] [] [] (Some memory_of_64)

-- addr, const1s, const2u, const4s, const8s, constu, consts, and one that is no u64
constants : map (λ (e : List ℕ). meaning e bare base.Absent)
    ((0x03 ∷ 0x01 ∷ 0x02 ∷ 0x03 ∷ 0x04 ∷ []) ∷ (0x09 ∷ 0xff ∷ 0x9f ∷ []) ∷ (0x0a ∷ 0xff ∷ 0xff ∷ 0x9f ∷ []) ∷ (0x0d ∷ 0xff ∷ 0xff ∷ 0xff ∷ 0xff ∷ 0x9f ∷ []) ∷ (0x0f ∷ 0xfe ∷ 0xff ∷ 0xff ∷ 0xff ∷ 0xff ∷ 0xff ∷ 0xff ∷ 0xff ∷ 0x9f ∷ []) ∷ (0x10 ∷ 0xff ∷ 0xff ∷ 0xff ∷ 0xff ∷ 0xff ∷ 0xff ∷ 0xff ∷ 0xff ∷ 0xff ∷ 0x01 ∷ 0x9f ∷ []) ∷ (0x11 ∷ 0x80 ∷ 0x80 ∷ 0x80 ∷ 0x80 ∷ 0x80 ∷ 0x80 ∷ 0x80 ∷ 0x80 ∷ 0x80 ∷ 0x7f ∷ 0x9f ∷ []) ∷ (0x10 ∷ 0xff ∷ 0xff ∷ 0xff ∷ 0xff ∷ 0xff ∷ 0xff ∷ 0xff ∷ 0xff ∷ 0xff ∷ 0x02 ∷ 0x9f ∷ []) ∷ [])
    ≡ (eval.Address 67305985) ∷ (eval.Value 18446744073709551615) ∷ (eval.Value 65535) ∷ (eval.Value 18446744073709551615) ∷ (eval.Value 18446744073709551614) ∷ (eval.Value 18446744073709551615) ∷ (eval.Value 9223372036854775808) ∷ (eval.BadExpr 0) ∷ []
unfolding meaning parts pieces_of run effect operators operators_from behind read number_item u64_item byte_item run_item s64_item unsigned_at u64_at signed_at s64_at last_signed binary compare div_s rem_s
constants = refl

-- dup, over, swap, and too few for dup and swap
entries : map (λ (e : List ℕ). meaning e bare base.Absent)
    ((0x31 ∷ 0x12 ∷ 0x22 ∷ 0x9f ∷ []) ∷ (0x31 ∷ 0x32 ∷ 0x14 ∷ 0x9f ∷ []) ∷ (0x31 ∷ 0x32 ∷ 0x16 ∷ 0x9f ∷ []) ∷ (0x12 ∷ []) ∷ (0x31 ∷ 0x16 ∷ []) ∷ [])
    ≡ (eval.Value 2) ∷ (eval.Value 1) ∷ (eval.Value 1) ∷ (eval.BadExpr 0) ∷ (eval.BadExpr 1) ∷ []
unfolding meaning parts pieces_of run effect operators operators_from behind read number_item u64_item byte_item run_item s64_item unsigned_at u64_at signed_at s64_at last_signed binary compare div_s rem_s
entries = refl

-- div of -7 by 2, of the least by -1, mod of -1 by 3, and by zero
quotients : map (λ (e : List ℕ). meaning e bare base.Absent)
    ((0x09 ∷ 0xf9 ∷ 0x32 ∷ 0x1b ∷ 0x9f ∷ []) ∷ (0x11 ∷ 0x80 ∷ 0x80 ∷ 0x80 ∷ 0x80 ∷ 0x80 ∷ 0x80 ∷ 0x80 ∷ 0x80 ∷ 0x80 ∷ 0x7f ∷ 0x09 ∷ 0xff ∷ 0x1b ∷ 0x9f ∷ []) ∷ (0x09 ∷ 0xff ∷ 0x33 ∷ 0x1d ∷ 0x9f ∷ []) ∷ (0x31 ∷ 0x30 ∷ 0x1d ∷ []) ∷ [])
    ≡ (eval.Value 18446744073709551613) ∷ (eval.Value 9223372036854775808) ∷ (eval.Value 0) ∷ (eval.BadExpr 2) ∷ []
unfolding meaning parts pieces_of run effect operators operators_from behind read number_item u64_item byte_item run_item s64_item unsigned_at u64_at signed_at s64_at last_signed binary compare div_s rem_s
quotients = refl

-- minus, mul, neg, not and plus, all modulo 2^64; plus_uconst
sums : map (λ (e : List ℕ). meaning e bare base.Absent)
    ((0x31 ∷ 0x33 ∷ 0x1c ∷ 0x9f ∷ []) ∷ (0x09 ∷ 0xff ∷ 0x35 ∷ 0x1e ∷ 0x9f ∷ []) ∷ (0x31 ∷ 0x1f ∷ 0x9f ∷ []) ∷ (0x30 ∷ 0x20 ∷ 0x9f ∷ []) ∷ (0x09 ∷ 0xff ∷ 0x31 ∷ 0x22 ∷ 0x9f ∷ []) ∷ (0x31 ∷ 0x23 ∷ 0x80 ∷ 0x01 ∷ 0x9f ∷ []) ∷ [])
    ≡ (eval.Value 18446744073709551614) ∷ (eval.Value 18446744073709551611) ∷ (eval.Value 18446744073709551615) ∷ (eval.Value 18446744073709551615) ∷ (eval.Value 0) ∷ (eval.Value 129) ∷ []
unfolding meaning parts pieces_of run effect operators operators_from behind read number_item u64_item byte_item run_item s64_item unsigned_at u64_at signed_at s64_at last_signed binary compare div_s rem_s
sums = refl

-- shl by 4, 64 and 2^64 - 1, shr by 63 and 64, shra by 4 and 64
shifts : map (λ (e : List ℕ). meaning e bare base.Absent)
    ((0x31 ∷ 0x34 ∷ 0x24 ∷ 0x9f ∷ []) ∷ (0x31 ∷ 0x08 ∷ 0x40 ∷ 0x24 ∷ 0x9f ∷ []) ∷ (0x31 ∷ 0x09 ∷ 0xff ∷ 0x24 ∷ 0x9f ∷ []) ∷ (0x09 ∷ 0xff ∷ 0x08 ∷ 0x3f ∷ 0x25 ∷ 0x9f ∷ []) ∷ (0x09 ∷ 0xff ∷ 0x08 ∷ 0x40 ∷ 0x25 ∷ 0x9f ∷ []) ∷ (0x09 ∷ 0xf0 ∷ 0x34 ∷ 0x26 ∷ 0x9f ∷ []) ∷ (0x09 ∷ 0xf0 ∷ 0x08 ∷ 0x40 ∷ 0x26 ∷ 0x9f ∷ []) ∷ (0x31 ∷ 0x08 ∷ 0x40 ∷ 0x26 ∷ 0x9f ∷ []) ∷ [])
    ≡ (eval.Value 16) ∷ (eval.Value 0) ∷ (eval.Value 0) ∷ (eval.Value 1) ∷ (eval.Value 0) ∷ (eval.Value 18446744073709551615) ∷ (eval.Value 18446744073709551615) ∷ (eval.Value 0) ∷ []
unfolding meaning parts pieces_of run effect operators operators_from behind read number_item u64_item byte_item run_item s64_item unsigned_at u64_at signed_at s64_at last_signed binary compare div_s rem_s
shifts = refl

-- ge and lt of -1 and 0, gt of 0 and -1, ne
comparisons : map (λ (e : List ℕ). meaning e bare base.Absent)
    ((0x09 ∷ 0xff ∷ 0x30 ∷ 0x2a ∷ 0x9f ∷ []) ∷ (0x09 ∷ 0xff ∷ 0x30 ∷ 0x2d ∷ 0x9f ∷ []) ∷ (0x30 ∷ 0x09 ∷ 0xff ∷ 0x2b ∷ 0x9f ∷ []) ∷ (0x30 ∷ 0x31 ∷ 0x2e ∷ 0x9f ∷ []) ∷ [])
    ≡ (eval.Value 0) ∷ (eval.Value 1) ∷ (eval.Value 1) ∷ (eval.Value 1) ∷ []
unfolding meaning parts pieces_of run effect operators operators_from behind read number_item u64_item byte_item run_item s64_item unsigned_at u64_at signed_at s64_at last_signed binary compare div_s rem_s
comparisons = refl

-- deref, deref_size 1, 2 and 8, past the end, and at an address modulo 2^32
memory : map (λ (e : List ℕ). meaning e bare base.Absent)
    ((0x40 ∷ 0x06 ∷ []) ∷ (0x40 ∷ 0x94 ∷ 0x01 ∷ 0x9f ∷ []) ∷ (0x40 ∷ 0x94 ∷ 0x02 ∷ 0x9f ∷ []) ∷ (0x40 ∷ 0x94 ∷ 0x08 ∷ []) ∷ (0x0c ∷ 0x3d ∷ 0x00 ∷ 0x00 ∷ 0x00 ∷ 0x06 ∷ []) ∷ (0x0e ∷ 0x10 ∷ 0x00 ∷ 0x00 ∷ 0x00 ∷ 0x01 ∷ 0x00 ∷ 0x00 ∷ 0x00 ∷ 0x94 ∷ 0x01 ∷ 0x9f ∷ []) ∷ [])
    ≡ (eval.Address 67305985) ∷ (eval.Value 1) ∷ (eval.Value 513) ∷ (eval.BadExpr 1) ∷ (eval.Outside 61) ∷ (eval.Value 1) ∷ []
unfolding meaning parts pieces_of run effect operators operators_from behind read number_item u64_item byte_item run_item s64_item unsigned_at u64_at signed_at s64_at last_signed binary compare div_s rem_s
memory = refl

-- nothing left, a stack_value that is not the last, an operator outside the list, and the first of two events
events : map (λ (e : List ℕ). meaning e bare base.Absent)
    ((0x96 ∷ []) ∷ (0x31 ∷ 0x9f ∷ 0x96 ∷ []) ∷ (0x31 ∷ 0xa1 ∷ 0x00 ∷ []) ∷ (0xe0 ∷ 0x30 ∷ 0x30 ∷ 0x1b ∷ []) ∷ (0x30 ∷ 0x30 ∷ 0x1b ∷ 0xe0 ∷ []) ∷ [])
    ≡ (eval.BadExpr 1) ∷ (eval.BadExpr 1) ∷ (eval.Unsupported 161 1) ∷ (eval.Unsupported 224 0) ∷ (eval.BadExpr 2) ∷ []
unfolding meaning parts pieces_of run effect operators operators_from behind read number_item u64_item byte_item run_item s64_item unsigned_at u64_at signed_at s64_at last_signed binary compare div_s rem_s
events = refl

-- an empty part, a value behind an address, a part that leaves nothing, and bytes behind the last piece
pieces : map (λ (e : List ℕ). meaning e bare base.Absent)
    ((0x93 ∷ 0x04 ∷ []) ∷ (0x31 ∷ 0x93 ∷ 0x04 ∷ 0x32 ∷ 0x9f ∷ 0x93 ∷ 0x80 ∷ 0x01 ∷ []) ∷ (0x96 ∷ 0x93 ∷ 0x04 ∷ []) ∷ (0x31 ∷ 0x93 ∷ 0x04 ∷ 0x96 ∷ []) ∷ (0x31 ∷ 0x93 ∷ 0x04 ∷ 0x22 ∷ []) ∷ [])
    ≡ (eval.Pieces (piece 4 (at_place.Nothing) ∷ [])) ∷ (eval.Pieces (piece 4 (at_place.Address 1) ∷ piece 128 (at_place.Value 2) ∷ [])) ∷ (eval.BadExpr 1) ∷ (eval.BadExpr 4) ∷ (eval.BadExpr 3) ∷ []
unfolding meaning parts pieces_of run effect operators operators_from behind read number_item u64_item byte_item run_item s64_item unsigned_at u64_at signed_at s64_at last_signed binary compare div_s rem_s
pieces = refl

-- ---- over a frame

-- 12 behind the frame base
fbreg_12 : meaning (0x91 ∷ 0x0c ∷ []) (view [] [] [] None) (base.At 992) ≡ eval.Address 1004
unfolding meaning parts pieces_of run effect operators operators_from behind read number_item u64_item byte_item run_item s64_item unsigned_at u64_at signed_at s64_at last_signed binary compare div_s rem_s
fbreg_12 = refl

-- -4 behind it, modulo 2^64
fbreg_sum : meaning (0x91 ∷ 0x7c ∷ 0x9f ∷ []) (view [] [] [] None) (base.At 0) ≡ eval.Value 18446744073709551612
unfolding meaning parts pieces_of run effect operators operators_from behind read number_item u64_item byte_item run_item s64_item unsigned_at u64_at signed_at s64_at last_signed binary compare div_s rem_s
fbreg_sum = refl

-- a frame base that is not recorded
fbreg_missing : meaning (0x91 ∷ 0x00 ∷ []) (view [] [] [] None) base.Missing ≡ eval.Missing
unfolding meaning parts pieces_of run effect operators operators_from behind read number_item u64_item byte_item run_item s64_item unsigned_at u64_at signed_at s64_at last_signed binary compare div_s rem_s
fbreg_missing = refl

-- a number without a reading, before the missing base
fbreg_missing_long : meaning (0x91 ∷ 0x80 ∷ 0x80 ∷ 0x80 ∷ 0x80 ∷ 0x80 ∷ 0x80 ∷ 0x80 ∷ 0x80 ∷ 0x80 ∷ 0x40 ∷ []) (view [] [] [] None) base.Missing ≡ eval.BadExpr 0
unfolding meaning parts pieces_of run effect operators operators_from behind read number_item u64_item byte_item run_item s64_item unsigned_at u64_at signed_at s64_at last_signed binary compare div_s rem_s
fbreg_missing_long = refl

-- no memory
no_memory : meaning (0x30 ∷ 0x06 ∷ []) (view [] [] [] None) base.Absent ≡ eval.Missing
unfolding meaning parts pieces_of run effect operators operators_from behind read number_item u64_item byte_item run_item s64_item unsigned_at u64_at signed_at s64_at last_signed binary compare div_s rem_s
no_memory = refl

-- another size, before the missing memory
size_3_no_memory : meaning (0x30 ∷ 0x94 ∷ 0x03 ∷ []) (view [] [] [] None) base.Absent ≡ eval.BadExpr 1
unfolding meaning parts pieces_of run effect operators operators_from behind read number_item u64_item byte_item run_item s64_item unsigned_at u64_at signed_at s64_at last_signed binary compare div_s rem_s
size_3_no_memory = refl

-- an index past a list
past_locals : meaning (0xed ∷ 0x00 ∷ 0x01 ∷ []) (view (seen.I32 0 ∷ []) [] [] None) base.Absent ≡ eval.BadExpr 0
unfolding meaning parts pieces_of run effect operators operators_from behind read number_item u64_item byte_item run_item s64_item unsigned_at u64_at signed_at s64_at last_signed binary compare div_s rem_s
past_locals = refl

-- a value that is not recorded
missing_local : meaning (0xed ∷ 0x00 ∷ 0x00 ∷ []) (view (seen.Missing ∷ []) [] [] None) base.Absent ≡ eval.Missing
unfolding meaning parts pieces_of run effect operators operators_from behind read number_item u64_item byte_item run_item s64_item unsigned_at u64_at signed_at s64_at last_signed binary compare div_s rem_s
missing_local = refl

-- a local, as a value
local_value : meaning (0xed ∷ 0x00 ∷ 0x02 ∷ 0x9f ∷ []) (view (seen.I32 65536 ∷ seen.I32 0 ∷ seen.I32 992 ∷ []) [] [] None) base.Absent ≡ eval.Value 992
unfolding meaning parts pieces_of run effect operators operators_from behind read number_item u64_item byte_item run_item s64_item unsigned_at u64_at signed_at s64_at last_signed binary compare div_s rem_s
local_value = refl

-- i32:-1 is zero-extended
local_minus_1 : meaning (0xed ∷ 0x00 ∷ 0x00 ∷ []) (view (seen.I32 4294967295 ∷ []) [] [] None) base.Absent ≡ eval.Value 4294967295
unfolding meaning parts pieces_of run effect operators operators_from behind read number_item u64_item byte_item run_item s64_item unsigned_at u64_at signed_at s64_at last_signed binary compare div_s rem_s
local_minus_1 = refl

-- i64:-1
i64_local : meaning (0xed ∷ 0x00 ∷ 0x00 ∷ []) (view (seen.I64 18446744073709551615 ∷ []) [] [] None) base.Absent ≡ eval.Value 18446744073709551615
unfolding meaning parts pieces_of run effect operators operators_from behind read number_item u64_item byte_item run_item s64_item unsigned_at u64_at signed_at s64_at last_signed binary compare div_s rem_s
i64_local = refl

-- operands count from the bottom
operand_up : meaning (0xed ∷ 0x02 ∷ 0x01 ∷ []) (view [] (seen.I32 5 ∷ seen.I32 6 ∷ []) [] None) base.Absent ≡ eval.Value 6
unfolding meaning parts pieces_of run effect operators operators_from behind read number_item u64_item byte_item run_item s64_item unsigned_at u64_at signed_at s64_at last_signed binary compare div_s rem_s
operand_up = refl

-- a global
global_uleb : meaning (0xed ∷ 0x01 ∷ 0x00 ∷ []) (view [] [] (seen.I32 9 ∷ []) None) base.Absent ≡ eval.Value 9
unfolding meaning parts pieces_of run effect operators operators_from behind read number_item u64_item byte_item run_item s64_item unsigned_at u64_at signed_at s64_at last_signed binary compare div_s rem_s
global_uleb = refl

-- a global with an index of four bytes
global_fixed : meaning (0xed ∷ 0x03 ∷ 0x00 ∷ 0x00 ∷ 0x00 ∷ 0x00 ∷ 0x9f ∷ []) (view [] [] (seen.I32 9 ∷ []) None) base.Absent ≡ eval.Value 9
unfolding meaning parts pieces_of run effect operators operators_from behind read number_item u64_item byte_item run_item s64_item unsigned_at u64_at signed_at s64_at last_signed binary compare div_s rem_s
global_fixed = refl

-- a location with a nop behind it is an address
location_nop : meaning (0xed ∷ 0x00 ∷ 0x00 ∷ 0x96 ∷ []) (view (seen.I32 9 ∷ []) [] [] None) base.Absent ≡ eval.Address 9
unfolding meaning parts pieces_of run effect operators operators_from behind read number_item u64_item byte_item run_item s64_item unsigned_at u64_at signed_at s64_at last_signed binary compare div_s rem_s
location_nop = refl

-- and so in the parts of pieces
location_parts : meaning (0xed ∷ 0x00 ∷ 0x00 ∷ 0x93 ∷ 0x04 ∷ 0xed ∷ 0x00 ∷ 0x00 ∷ 0x96 ∷ 0x93 ∷ 0x04 ∷ []) (view (seen.I32 9 ∷ []) [] [] None) base.Absent ≡ eval.Pieces (piece 4 (at_place.Value 9) ∷ piece 4 (at_place.Address 9) ∷ [])
unfolding meaning parts pieces_of run effect operators operators_from behind read number_item u64_item byte_item run_item s64_item unsigned_at u64_at signed_at s64_at last_signed binary compare div_s rem_s
location_parts = refl

-- a cut piece behind a stack_value counts as a piece
cut_piece_behind_value : meaning (0x31 ∷ 0x9f ∷ 0x93 ∷ []) (view [] [] [] None) base.Absent ≡ eval.BadExpr 2
unfolding meaning parts pieces_of run effect operators operators_from behind read number_item u64_item byte_item run_item s64_item unsigned_at u64_at signed_at s64_at last_signed binary compare div_s rem_s
cut_piece_behind_value = refl

-- 64 entries, and one more
deep : meaning (replicate 64 0x30) bare base.Absent ≡ eval.Address 0
unfolding meaning parts pieces_of run effect operators operators_from behind read number_item u64_item byte_item run_item s64_item unsigned_at u64_at signed_at s64_at last_signed binary compare div_s rem_s
deep = refl

too_deep : meaning (replicate 65 0x30) bare base.Absent ≡ eval.TooDeep
unfolding meaning parts pieces_of run effect operators operators_from behind read number_item u64_item byte_item run_item s64_item unsigned_at u64_at signed_at s64_at last_signed binary compare div_s rem_s
too_deep = refl

-- ---- frame bases

-- a value, an address, a missing local, the base itself, a piece, a division by zero, and no attribute
bases : map (λ (e : Option (List ℕ)). frame_base e (view [] [] [] None))
    (Some (0x09 ∷ 0xff ∷ 0x9f ∷ []) ∷ Some (0x31 ∷ []) ∷ Some (0xed ∷ 0x00 ∷ 0x00 ∷ 0x9f ∷ []) ∷ Some (0x91 ∷ 0x00 ∷ []) ∷ Some (0x31 ∷ 0x93 ∷ 0x04 ∷ []) ∷ Some (0x30 ∷ 0x30 ∷ 0x1b ∷ []) ∷ Some [] ∷ None ∷ [])
    ≡ base.At 4294967295 ∷ base.At 1 ∷ base.Missing ∷ base.Absent ∷ base.Absent ∷ base.Absent ∷ base.Absent ∷ base.Absent ∷ []
unfolding frame_base meaning parts pieces_of run effect operators operators_from behind read number_item u64_item byte_item run_item s64_item unsigned_at u64_at signed_at s64_at last_signed binary compare div_s rem_s
bases = refl
