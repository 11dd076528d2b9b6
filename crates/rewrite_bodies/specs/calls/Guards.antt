-- Guards: each pushes another number than 0 where an instruction traps on the operands in these places, and 0 where it does not; a second piece
-- of code pushes the kind of the trap. Both change nothing.
use Rattle.std.specs.Prelude.{ℕ, suc, ◌+◌, ◌-◌, ◌/◌, ◌^◌, ◌==◌, List, [], ◌∷◌, length, map, slice_get, Option, Some, None, option_map, unwrap_or, Bool, true, false, take}
use Rattle.wasm_syntax.specs.declared.value.ValType.{ValType}
use Rattle.wasm_syntax.specs.declared.value.ValType.TheVariants.{I32, I64}
use Rattle.wasm_syntax.specs.declared.value.Value.{Value}
use Rattle.wasm_syntax.specs.declared.value.Value.TheVariants as values
use Rattle.int_ops.specs.declared.operators.Binary.{Binary as BinaryOp}
use Rattle.int_ops.specs.declared.operators.Binary.TheVariants.{Add, Sub, DivS, DivU, RemS, RemU, And, Or, Shl}
use Rattle.int_ops.specs.declared.operators.Compare.TheVariants.{Eq, GtU, GtS}
use Rattle.wasm_syntax.specs.declared.instruction.Convert.TheVariants.{ExtendU}
use Rattle.wasm_syntax.specs.declared.instruction.Basic.{Basic}
use Rattle.wasm_syntax.specs.declared.instruction.Basic.TheVariants.{Select, LocalGet, GlobalGet, GlobalSet, Load, Store, MemorySize, MemoryCopy, MemoryFill, Eqz, Compare, Binary, Convert}
use Rattle.wasm_syntax.specs.declared.parts.Limits.{Limits}
use Rattle.wasm_syntax.specs.declared.parts.FuncType.{FuncType}
use Rattle.wasm_syntax.specs.declared.module.ModuleParts.{ModuleParts as Module}
use Rattle.wasm_syntax.specs.Numbers.{bits, value, modulo}
use Rattle.wasm_syntax.specs.Access.{load_bits, store_bits}
use Rattle.wasm_syntax.specs.Tree.{BrTable, Return, Nodes, stop, basic, jump, block}
use Rattle.wasm_syntax.specs.Module.{type_at, same_functype, option_then}
use Rattle.wasm_syntax.specs.Run.{table_min, start_table}
use Rattle.rewrite_bodies.specs.Numbering.{flag_of}
use Rattle.rewrite_bodies.specs.calls.Slots.{Place, Ctx, length_at, measured}
use Rattle.rewrite_bodies.specs.calls.Pieces.{get, set, const, i32, fetch}

-- the least signed number of a type, and -1
abbrev pub least : ValType → Value
least t = value t (2 ^ (bits t - 1))

abbrev pub minus_one : ValType → Value
minus_one t = value t (2 ^ bits t - 1)

-- the divisor, at height h, is zero
abbrev pub guard_zero : Ctx → ValType → Place → ℕ → Nodes → Nodes
guard_zero C t b h k = fetch C b h (basic 0 (Eqz t) k)

-- the dividend a, at height h, is the least number and the divisor b is -1
abbrev pub overflow_test : Ctx → ValType → Place → Place → ℕ → Nodes → Nodes
overflow_test C t b a h k =
    fetch C a h (const (least t) (basic 0 (Compare t Eq) (fetch C b (suc h) (const (minus_one t) (basic 0 (Compare t Eq) (basic 0 (Binary I32 And) k))))))

-- a quotient of signed numbers
abbrev pub guard_signed : Ctx → ValType → Place → Place → ℕ → Nodes → Nodes
guard_signed C t b a h k = overflow_test C t b a h (guard_zero C t b (suc h) (basic 0 (Binary I32 Or) k))

-- four bytes less than so many, as an i64, which as a signed one is below 0 where there are fewer
abbrev pub less_word : ℕ → ℕ
less_word n = modulo I64 (n + (2 ^ 64 - 4))

-- four bytes less than the length of the memory
abbrev pub memory_length : Nodes → Nodes
memory_length k =
    basic 0 MemorySize (basic 0 (Convert ExtendU) (const (values.I64 16) (basic 0 (Binary I64 Shl) (const (values.I64 4) (basic 0 (Binary I64 Sub) k)))))

-- The global behind the flag: it has four bytes less than the length of the memory, so that the guard of most loads and stores, which are of four
-- bytes without an offset, compares the address with it as it is.
abbrev pub length_of : Module → ℕ
length_of m = suc (flag_of m)

-- it is set by the length of the memory, where there is one: behind what may change that
abbrev pub set_length : Module → Nodes → Nodes
set_length m k = memory_length (basic 0 (GlobalSet (length_of m)) k)

abbrev pub renewed : List Limits → Module → Nodes → Nodes
renewed [] m k = k
renewed (l ∷ ls) m k = set_length m k

abbrev pub renew : Module → Nodes → Nodes
renew m k = renewed m.memories m k

-- A function that has a guard has the same in a local besides, which is read in less time. It is read from the global where the function begins,
-- and behind each instruction that may change the global.
abbrev pub measure : Bool → Ctx → Nodes → Nodes
measure false C k = k
measure true C k = basic 0 (GlobalGet (length_of C.source)) (set C (length_at C) k)

abbrev pub get_length : Ctx → Nodes → Nodes
get_length C k = get C (length_at C) k

-- both are set
abbrev pub set_both : Ctx → Nodes → Nodes
set_both C k = set_length C.source (measure (measured C) C k)

abbrev pub renew_both : Ctx → Nodes → Nodes
renew_both C k = renew C.source (measure (measured C) C k)

-- the i64 on top is past the end of the memory
abbrev pub past_end : Ctx → Nodes → Nodes
past_end C k = get_length C (const (values.I64 4) (basic 0 (Binary I64 Add) (basic 0 (Compare I64 GtU) k)))

-- what so many bytes are more than four is taken from the i64 on top
abbrev pub beyond_word : Bool → ℕ → Nodes → Nodes
beyond_word true n k = k
beyond_word false n k = const (values.I64 (less_word n)) (basic 0 (Binary I64 Sub) k)

-- The address on top is past the place from which so many bytes, offset included, end with the memory. As a signed number that place may be
-- below 0. It does not hang on the address, so that an engine can find it outside of a loop.
abbrev pub out_test : Ctx → ℕ → Nodes → Nodes
out_test C n k = basic 0 (Convert ExtendU) (get_length C (beyond_word (n == 4) n (basic 0 (Compare I64 GtS) k)))

-- an access of n bytes, offset included, from the address at height h passes the end
abbrev pub guard_memory : Ctx → Place → ℕ → ℕ → Nodes → Nodes
guard_memory C a h n k = fetch C a h (out_test C n k)

-- so many bytes from an address on, given by two operands with their heights, pass the end of the memory
abbrev pub range_test : Ctx → Place → ℕ → Place → ℕ → Nodes → Nodes
range_test C a h n hn k = fetch C a h (basic 0 (Convert ExtendU) (fetch C n hn (basic 0 (Convert ExtendU) (basic 0 (Binary I64 Add) (past_end C k)))))

-- the length, where from, and where to, which is at height h
abbrev pub guard_copy : Ctx → Place → Place → Place → ℕ → Nodes → Nodes
guard_copy C n from to h k = range_test C from (suc h) n (suc (suc h)) (range_test C to h n (suc (suc h)) (basic 0 (Binary I32 Or) k))

-- the length, and where to, which is at height h
abbrev pub guard_fill : Ctx → Place → Place → ℕ → Nodes → Nodes
guard_fill C n to h k = range_test C to h n (suc (suc h)) k

-- the guard of an instruction on these places
abbrev pub guard : Ctx → Basic → List Place → Nodes → Nodes
guard C (Binary t DivS) (b ∷ a ∷ es) k = guard_signed C t b a (length es) k
guard C (Binary t DivU) (b ∷ a ∷ es) k = guard_zero C t b (suc (length es)) k
guard C (Binary t RemS) (b ∷ a ∷ es) k = guard_zero C t b (suc (length es)) k
guard C (Binary t RemU) (b ∷ a ∷ es) k = guard_zero C t b (suc (length es)) k
guard C (Load l align o) (a ∷ es) k = guard_memory C a (length es) (o + load_bits l / 8) k
guard C (Store l align o) (v ∷ a ∷ es) k = guard_memory C a (length es) (o + store_bits l / 8) k
guard C MemoryCopy (n ∷ from ∷ to ∷ es) k = guard_copy C n from to (length es) k
guard C MemoryFill (n ∷ byte ∷ to ∷ es) k = guard_fill C n to (length es) k
guard C i es k = const (i32 0) k

-- the kind of a trap of a quotient of signed numbers, whose divisor is at height h
abbrev pub kind_signed : Ctx → ValType → Place → ℕ → Nodes → Nodes
kind_signed C t b h k = const (i32 2) (const (i32 3) (guard_zero C t b h (basic 0 Select k)))

-- the kind with which an instruction traps on these places, where it does
abbrev pub kind : Ctx → Basic → List Place → Nodes → Nodes
kind C (Binary t DivS) (b ∷ a ∷ es) k = kind_signed C t b (suc (length es)) k
kind C (Binary t op) es k = const (i32 2) k
kind C i es k = const (i32 4) k

abbrev pub divides : BinaryOp → Bool
divides DivS = true
divides DivU = true
divides RemS = true
divides RemU = true
divides op = false

-- the instructions that have a guard
abbrev pub can_trap : Basic → Bool
can_trap (Binary t op) = divides op
can_trap (Load l align o) = true
can_trap (Store l align o) = true
can_trap MemoryCopy = true
can_trap MemoryFill = true
can_trap i = false

-- ---- helpers of `call_indirect`

-- the kind with which a call of an entry of this type traps, as a label: 0, 5, 6 and 7 have the labels 0 to 3
abbrev pub type_label : Bool → ℕ
type_label true = 0
type_label false = 3

abbrev pub entry_label : Module → ℕ → Option ℕ → ℕ
entry_label m t None = 2
entry_label m t (Some g) =
    unwrap_or (option_then (slice_get m.types t) (λ type. option_map (λ u. type_label (same_functype u type)) (type_at m g))) 0

-- the table where an instance starts (Core 4.5.4). Element segments that pass its end are cut there: no instance starts with them.
abbrev pub first_table : Module → List (Option ℕ)
first_table m = take (table_min m.tables) (start_table m)

-- a helper gives this kind
abbrev pub says : ℕ → Nodes
says kind = const (i32 kind) (jump 0 Return stop)

-- the helper of a type, on the index of a table entry
abbrev pub helper : Module → ℕ → Nodes
helper m t =
    block 0 None (block 0 None (block 0 None (block 0 None
    (basic 0 (LocalGet 0) (jump 0 (BrTable (map (entry_label m t) (first_table m)) 1) stop)) 0
    (says 0)) 0 (says 5)) 0 (says 6)) 0 (says 7)

abbrev pub helper_type : FuncType
helper_type = record { params = I32 ∷ []; results = I32 ∷ [] }
