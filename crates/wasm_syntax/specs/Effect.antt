-- What an instruction that goes on with the next one does (Core 4.4.1 to 4.4.4), on exactly the operands that it takes, the topmost
-- first. What Core knows from validation is tested: where a test fails, the instruction does not fit.
use Rattle.std.specs.Prelude.{ℕ, ◌+◌, ◌-◌, ◌/◌, ◌%◌, ◌^◌, ◌==◌, Bool, true, false, List, [], ◌∷◌, slice_get, slice_set, if◌then◌else◌, Option, Some, None, Result, Ok, Err}
use Rattle.wasm_syntax.specs.declared.value.ValType.{ValType}
use Rattle.wasm_syntax.specs.declared.value.ValType.TheVariants.{I32, I64}
use Rattle.wasm_syntax.specs.declared.value.Value.{Value}
use Rattle.wasm_syntax.specs.declared.value.Value.TheVariants as values
use Rattle.int_ops.specs.declared.operators.ArithTrap.{ArithTrap}
use Rattle.int_ops.specs.declared.operators.ArithTrap.TheVariants.{DivideByZero, Overflow}
use Rattle.wasm_syntax.specs.declared.instruction.Basic.{Basic}
use Rattle.wasm_syntax.specs.declared.instruction.Basic.TheVariants.{Nop, Drop, Select, LocalGet, LocalSet, LocalTee, GlobalGet, GlobalSet, Load, Store, MemorySize, MemoryGrow, MemoryCopy, MemoryFill, Const, Eqz, Unary, Compare, Binary, Convert, Extend32, Extend64}
use Rattle.wasm_syntax.specs.Numbers.{type_of, same_type, number, value, modulo, bool_number, unary, compare, binary, convert, convert_from, convert_to}
use Rattle.int_ops.specs.Integers.{extend32, extend64}
use Rattle.linear_memory.specs.Memory.{Memory, pages, load, put, grow, copy, fill, to_bytes}
use Rattle.wasm_syntax.specs.Access.{load_type, load_bits, loaded, store_type, store_bits}
use Rattle.wasm_syntax.specs.Host.{World}

pub data Effect : Type 0 where
  -- the world, the locals and the results, as they are then
  gives : World → (locals results : List Value) → Effect
  fails : (kind : ℕ) → Effect
  unfit : Effect

-- how many operands it takes; those that are not named take one
abbrev pub takes : Basic → ℕ
takes Nop = 0
takes Select = 3
takes (LocalGet x) = 0
takes (GlobalGet x) = 0
takes (Store l align offset) = 2
takes MemorySize = 0
takes MemoryCopy = 3
takes MemoryFill = 3
takes (Const v) = 0
takes (Compare t op) = 2
takes (Binary t op) = 2
takes _ = 1

-- ---- tests on the operands

abbrev pub when : Bool → Effect → Effect
when false e = unfit
when true e = e

-- goes on where there is something to go on with
abbrev pub with_some : {A : Type 0} → Option A → (A → Effect) → Effect
with_some None go = unfit
with_some (Some x) go = go x

-- on no operand, on one, on a number of this type, on two, the topmost first
abbrev pub on_none : Effect → List Value → Effect
on_none e [] = e
on_none e (_ ∷ _) = unfit

abbrev pub on_any : (Value → Effect) → List Value → Effect
on_any go (v ∷ []) = go v
on_any go _ = unfit

abbrev pub on_one : ValType → (ℕ → Effect) → List Value → Effect
on_one t go (v ∷ []) = with_some (number t v) go
on_one t go _ = unfit

abbrev pub on_two : ValType → ValType → (ℕ → ℕ → Effect) → List Value → Effect
on_two t u go (v ∷ w ∷ []) = with_some (number t v) (λ n. with_some (number u w) (go n))
on_two t u go _ = unfit

-- on three numbers of i32s, the topmost first
abbrev pub on_three : (ℕ → ℕ → ℕ → Effect) → List Value → Effect
on_three go (x ∷ y ∷ z ∷ []) = with_some (number I32 x) (λ a. with_some (number I32 y) (λ b. with_some (number I32 z) (go a b)))
on_three go _ = unfit

-- a number of an i32, and two values of one type
abbrev pub on_choice : (ℕ → Value → Value → Effect) → List Value → Effect
on_choice go (c ∷ b ∷ a ∷ []) = with_some (number I32 c) (λ n. when (same_type (type_of a) (type_of b)) (go n b a))
on_choice go _ = unfit

-- a value is written over one of its type
abbrev pub over : Option Value → Value → Effect → Effect
over None v e = unfit
over (Some old) v e = when (same_type (type_of old) (type_of v)) e

-- ---- traps

-- goes on with what was found in the memory, and else traps
abbrev pub in_bounds : {A : Type 0} → Option A → (A → Effect) → Effect
in_bounds None go = fails 4
in_bounds (Some x) go = go x

abbrev pub trap_kind : ArithTrap → ℕ
trap_kind DivideByZero = 2
trap_kind Overflow = 3

-- goes on with the result of a division, and else traps
abbrev pub divides : Result ℕ ArithTrap → (ℕ → Effect) → Effect
divides (Ok n) go = go n
divides (Err trap) go = fails (trap_kind trap)

-- ---- parts of the world

abbrev pub with_globals : World → List Value → World
with_globals w gs = record { globals = gs; memory = w.memory; table = w.table; replies = w.replies; served = w.served }

abbrev pub with_memory : World → Memory → World
with_memory w m = record { globals = w.globals; memory = Some m; table = w.table; replies = w.replies; served = w.served }

-- -1 where the memory did not grow
abbrev pub grown : Option Memory → World → ℕ → List Value → Effect
grown None w old ls = gives w ls (values.I32 (2 ^ 32 - 1) ∷ [])
grown (Some m) w old ls = gives (with_memory w m) ls (values.I32 old ∷ [])

-- an address is a number of an i32, read without sign (Core 4.4.4)
abbrev pub address : ℕ → ℕ → ℕ
address a offset = modulo I32 a + offset

abbrev pub effect : Basic → World → List Value → List Value → Effect
effect Nop w ls vs = on_none (gives w ls []) vs
-- Core 4.4.2
effect Drop w ls vs = on_any (λ v. gives w ls []) vs
effect Select w ls vs = on_choice (λ n b a. gives w ls ((if n == 0 then b else a) ∷ [])) vs
-- Core 4.4.3
effect (LocalGet x) w ls vs = on_none (with_some (slice_get ls x) (λ v. gives w ls (v ∷ []))) vs
effect (LocalSet x) w ls vs = on_any (λ v. over (slice_get ls x) v (gives w (slice_set ls x v) [])) vs
effect (LocalTee x) w ls vs = on_any (λ v. over (slice_get ls x) v (gives w (slice_set ls x v) (v ∷ []))) vs
effect (GlobalGet x) w ls vs = on_none (with_some (slice_get w.globals x) (λ v. gives w ls (v ∷ []))) vs
effect (GlobalSet x) w ls vs = on_any (λ v. over (slice_get w.globals x) v (gives (with_globals w (slice_set w.globals x v)) ls [])) vs
-- Core 4.4.4
effect (Load l align offset) w ls vs =
    on_one I32 (λ a. with_some w.memory (λ m. in_bounds (load m (address a offset) (load_bits l / 8)) (λ n. gives w ls (value (load_type l) (loaded l n) ∷ [])))) vs
effect (Store l align offset) w ls vs =
    on_two (store_type l) I32 (λ n a. with_some w.memory (λ m. in_bounds (put m (address a offset) (to_bytes (store_bits l / 8) n)) (λ m'. gives (with_memory w m') ls []))) vs
effect MemorySize w ls vs = on_none (with_some w.memory (λ m. gives w ls (values.I32 (pages m) ∷ []))) vs
effect MemoryGrow w ls vs = on_one I32 (λ n. with_some w.memory (λ m. grown (grow m n) w (pages m) ls)) vs
-- Core 2.0, 4.4.7: the operands are the length, then where from or the byte's number, and deepest where to
effect MemoryCopy w ls vs =
    on_three (λ n from to. with_some w.memory (λ m. in_bounds (copy m (modulo I32 to) (modulo I32 from) (modulo I32 n)) (λ m'. gives (with_memory w m') ls []))) vs
effect MemoryFill w ls vs =
    on_three (λ n byte to. with_some w.memory (λ m. in_bounds (fill m (modulo I32 to) (byte % 256) (modulo I32 n)) (λ m'. gives (with_memory w m') ls []))) vs
-- Core 4.4.1
effect (Const v) w ls vs = on_none (gives w ls (v ∷ [])) vs
effect (Eqz t) w ls vs = on_one t (λ a. gives w ls (values.I32 (bool_number (a == 0)) ∷ [])) vs
effect (Unary t op) w ls vs = on_one t (λ a. gives w ls (value t (unary t op a) ∷ [])) vs
effect (Compare t op) w ls vs = on_two t t (λ b a. gives w ls (values.I32 (bool_number (compare t op a b)) ∷ [])) vs
effect (Binary t op) w ls vs = on_two t t (λ b a. divides (binary t op a b) (λ n. gives w ls (value t n ∷ []))) vs
effect (Convert c) w ls vs = on_one (convert_from c) (λ a. gives w ls (value (convert_to c) (convert c a) ∷ [])) vs
-- Core 2.0, 4.4.1
effect (Extend32 k) w ls vs = on_one I32 (λ a. gives w ls (values.I32 (extend32 k a) ∷ [])) vs
effect (Extend64 k) w ls vs = on_one I64 (λ a. gives w ls (values.I64 (extend64 k a) ∷ [])) vs
