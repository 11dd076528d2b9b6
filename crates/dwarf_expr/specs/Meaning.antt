-- What an expression means in a frame (DWARF 4 sections 2.5 and 2.6). Entries of the stack have 64 bits.
use Rattle.std.specs.Prelude.{ℕ, ◌+◌, ◌-◌, ◌^◌, ℤ, List, [], ◌∷◌, ◌++◌, length, slice_get, Option, Some, None, Result, Ok, Err, Bool, true, false, ◌||◌, ◌==◌, nat_lt, if◌then◌else◌}
use Rattle.int_ops.specs.declared.operators.Binary.{Binary}
use Rattle.int_ops.specs.declared.operators.Binary.TheVariants.{Add, Sub, Xor, Shl, ShrS, ShrU}
use Rattle.int_ops.specs.declared.operators.ArithTrap.{ArithTrap}
use Rattle.int_ops.specs.declared.operators.ArithTrap.TheVariants.{DivideByZero, Overflow}
use Rattle.int_ops.specs.Integers.{binary, compare, modulo, unsigned}
use Rattle.linear_memory.specs.Memory.{Memory, load}
use Rattle.wasm_syntax.specs.declared.value.Seen.{Seen}
use Rattle.wasm_syntax.specs.declared.value.Seen.TheVariants as seen
use Rattle.dwarf_expr.specs.declared.answer.Base.{Base}
use Rattle.dwarf_expr.specs.declared.answer.Base.TheVariants as base
use Rattle.dwarf_expr.specs.declared.answer.Eval.{Eval}
use Rattle.dwarf_expr.specs.declared.answer.Eval.TheVariants as eval
use Rattle.dwarf_expr.specs.declared.answer.Piece.{Piece}
use Rattle.dwarf_expr.specs.declared.answer.PiecePlace.{PiecePlace}
use Rattle.dwarf_expr.specs.declared.answer.PiecePlace.TheVariants as at_place
use Rattle.dwarf_expr.specs.declared.effects.Event.{Event}
use Rattle.dwarf_expr.specs.declared.effects.Event.TheVariants.{Bad, Missing, Outside, TooDeep}
use Rattle.dwarf_expr.specs.declared.operators.Space.{Space}
use Rattle.dwarf_expr.specs.declared.operators.Space.TheVariants.{Local, Global, Operand}
use Rattle.dwarf_expr.specs.declared.operators.Operator.{Operator}
use Rattle.dwarf_expr.specs.declared.operators.Operator.TheVariants as op
use Rattle.dwarf_expr.specs.declared.operators.Begun.{Begun}
use Rattle.dwarf_expr.specs.declared.operators.Begun.TheVariants.{Known, Cut, Foreign}
use Rattle.dwarf_expr.specs.declared.operators.PlacedOperator.{PlacedOperator}
use Rattle.dwarf_expr.specs.View.{View}
use Rattle.dwarf_expr.specs.Decode.{operators}

-- ---- the stack

-- the entries, topmost first
abbrev pub Stack : Type 0
Stack = List ℕ

-- what an operator leaves; or why it has no effect, the first that it meets
abbrev pub Effect : Type 0
Effect = Result Stack Event

-- at most 64 entries
abbrev pub pushed : Stack → ℕ → Effect
pushed s w = if nat_lt (length s) 64 then Ok (w ∷ s) else Err TooDeep

abbrev pub pushed_if : Stack → Result ℕ Event → Effect
pushed_if s (Ok w) = pushed s w
pushed_if s (Err e) = Err e

-- by the topmost entry, and the others; by the second, the topmost and the others
abbrev pub on_one : Stack → (ℕ → Stack → Effect) → Effect
on_one [] f = Err Bad
on_one (x ∷ s) f = f x s

abbrev pub on_two : Stack → (ℕ → ℕ → Stack → Effect) → Effect
on_two (y ∷ x ∷ s) f = f x y s
on_two _ f = Err Bad

-- ---- numbers of 64 bits

abbrev pub flag : Bool → ℕ
flag b = if b then 1 else 0

-- A quotient that no number of 64 bits is, that of the least by -1, is the least again.
abbrev pub settled : ℕ → Result ℕ ArithTrap → Result ℕ Event
settled a (Ok w) = Ok w
settled a (Err DivideByZero) = Err Bad
settled a (Err Overflow) = Ok a

-- a shift, and what it gives by 64 or more
abbrev pub shifted : Binary → ℕ → ℕ → ℕ → Result ℕ Event
shifted op a b far = if nat_lt b 64 then settled a (binary 64 op a b) else Ok far

-- as many bits of the sign
abbrev pub sign_word : ℕ → ℕ
sign_word a = if nat_lt a (2 ^ 63) then 0 else 2 ^ 64 - 1

abbrev pub calculated : Binary → ℕ → ℕ → Result ℕ Event
calculated Shl a b = shifted Shl a b 0
calculated ShrU a b = shifted ShrU a b 0
calculated ShrS a b = shifted ShrS a b (sign_word a)
calculated op a b = settled a (binary 64 op a b)

-- ---- what a frame shows

abbrev pub spaced : View → Space → List Seen
spaced v Local = v.locals
spaced v Global = v.globals
spaced v Operand = v.operands

-- An i32 is zero-extended.
abbrev pub shown : Option Seen → Result ℕ Event
shown (Some (seen.I32 n)) = Ok n
shown (Some (seen.I64 n)) = Ok n
shown (Some seen.Missing) = Err Missing
shown None = Err Bad

-- An empty list is not recorded.
abbrev pub seen_at : List Seen → ℕ → Result ℕ Event
seen_at [] index = Err Missing
seen_at (x ∷ xs) index = shown (slice_get (x ∷ xs) index)

abbrev pub based : Base → ℤ → Result ℕ Event
based (base.At b) z = Ok (modulo 64 (b + unsigned 64 z))
based base.Missing z = Err Missing
based base.Absent z = Err Bad

abbrev pub loaded : ℕ → Option ℕ → Result ℕ Event
loaded a (Some w) = Ok w
loaded a None = Err (Outside a)

abbrev pub read_memory : Option Memory → ℕ → ℕ → Result ℕ Event
read_memory None a n = Err Missing
read_memory (Some m) a n = loaded a (load m a n)

-- one, two or four bytes at an address
abbrev pub dereferenced : View → ℕ → ℕ → Result ℕ Event
dereferenced v n a = if n == 1 || (n == 2 || n == 4) then read_memory v.memory (modulo 32 a) n else Err Bad

-- ---- operators (2.5.1)

unfoldable pub effect : View → Base → Operator → Stack → Effect
effect v b (op.Constant w) s = pushed s w
effect v b op.Dup s = on_one s (λ x rest. pushed s x)
effect v b op.Drop s = on_one s (λ x rest. Ok rest)
effect v b op.Over s = on_two s (λ x y rest. pushed s x)
effect v b op.Swap s = on_two s (λ x y rest. Ok (x ∷ y ∷ rest))
effect v b op.Neg s = on_one s (λ x rest. pushed_if rest (calculated Sub 0 x))
effect v b op.Not s = on_one s (λ x rest. pushed_if rest (calculated Xor x (2 ^ 64 - 1)))
effect v b (op.Arithmetic o) s = on_two s (λ x y rest. pushed_if rest (calculated o x y))
effect v b (op.Comparison o) s = on_two s (λ x y rest. pushed rest (flag (compare 64 o x y)))
effect v b (op.PlusUconst n) s = on_one s (λ x rest. pushed_if rest (calculated Add x n))
effect v b (op.Deref n) s = on_one s (λ a rest. pushed_if rest (dereferenced v n a))
effect v b (op.Fbreg z) s = pushed_if s (based b z)
effect v b (op.Location space index) s = pushed_if s (seen_at (spaced v space) index)
effect v b (op.Piece n) s = Ok s
effect v b op.Nop s = Ok s
effect v b op.StackValue s = Ok s

-- ---- parts

abbrev pub event_at : ℕ → Event → Eval
event_at at Bad = eval.BadExpr at
event_at at Missing = eval.Missing
event_at at (Outside a) = eval.Outside a
event_at at TooDeep = eval.TooDeep

abbrev pub placed_effect : ℕ → Effect → Result Stack Eval
placed_effect at (Ok s) = Ok s
placed_effect at (Err e) = Err (event_at at e)

-- A stack_value is the last operator of its part.
abbrev pub stands_well : Operator → Bool → Bool
stands_well op.StackValue is_last = is_last
stands_well o is_last = true

abbrev pub begun_step : View → Base → ℕ → ℕ → Begun → Bool → Stack → Result Stack Eval
begun_step v b at opcode (Known o) is_last s = if stands_well o is_last then placed_effect at (effect v b o s) else Err (eval.BadExpr at)
begun_step v b at opcode Cut is_last s = Err (eval.BadExpr at)
begun_step v b at opcode Foreign is_last s = Err (eval.Unsupported opcode at)

infixl 10 ◌>>=◌
abbrev pub ◌>>=◌ : {A B : Type 0} → Result A Eval → (A → Result B Eval) → Result B Eval
(Ok x) >>= f = f x
(Err e) >>= f = Err e

abbrev pub is_empty : List PlacedOperator → Bool
is_empty [] = true
is_empty (x ∷ xs) = false

-- what the operators of a part leave, or the first event
unfoldable pub run : View → Base → List PlacedOperator → Stack → Result Stack Eval
run v b [] s = Ok s
run v b (x ∷ xs) s = begun_step v b x.at x.opcode x.begun (is_empty xs) s >>= λ t. run v b xs t

-- The part ends with a stack_value, or is one WASM_location.
abbrev pub ends_with_value : List PlacedOperator → Bool
ends_with_value [] = false
ends_with_value (x ∷ []) = x.opcode == 0x9f
ends_with_value (x ∷ y ∷ xs) = ends_with_value (y ∷ xs)

abbrev pub is_location : List PlacedOperator → Bool
is_location (x ∷ []) = x.opcode == 0xed
is_location _ = false

abbrev pub gives_value : List PlacedOperator → Bool
gives_value part = is_location part || ends_with_value part

-- what a part gives that leaves these entries; at the fault, where it leaves none
abbrev pub given : ℕ → List PlacedOperator → Stack → Result PiecePlace Eval
given at part [] = Err (eval.BadExpr at)
given at part (w ∷ s) = Ok (if gives_value part then at_place.Value w else at_place.Address (modulo 32 w))

-- a part read by itself
abbrev pub place_of : View → Base → ℕ → List PlacedOperator → Result PiecePlace Eval
place_of v b at part = run v b part [] >>= given at part

-- ---- pieces (2.6.1.2)

-- an expression cut behind its pieces: each part with its piece, and what stands behind the last piece
pub record Parts : Type 0 where
  pub closed : List (List PlacedOperator × PlacedOperator)
  pub behind : List PlacedOperator

abbrev pub is_piece : PlacedOperator → Bool
is_piece x = x.opcode == 0x93

-- an operator in front of the first part
abbrev pub in_front : PlacedOperator → List (List PlacedOperator × PlacedOperator) → List PlacedOperator → Parts
in_front x [] behind = record { closed = []; behind = x ∷ behind }
in_front x (part ∷ more) behind = record { closed = (x ∷ part.0, part.1) ∷ more; behind = behind }

-- behind a piece
abbrev pub closed_by : PlacedOperator → Parts → Parts
closed_by x parts = record parts { closed = ([], x) ∷ parts.closed }

unfoldable pub parts : List PlacedOperator → Parts
parts [] = record { closed = []; behind = [] }
parts (x ∷ xs) = if is_piece x then closed_by x (parts xs) else in_front x (parts xs).closed (parts xs).behind

-- An empty part gives nothing.
abbrev pub piece_place : View → Base → ℕ → List PlacedOperator → Result PiecePlace Eval
piece_place v b at [] = Ok at_place.Nothing
piece_place v b at (x ∷ xs) = place_of v b at (x ∷ xs)

-- the size of a piece, and its place
abbrev pub piece_of : Begun → ℕ → Result PiecePlace Eval → Result Piece Eval
piece_of (Known (op.Piece n)) at place = place >>= λ x. Ok (record { size = n; place = x })
piece_of begun at place = place >>= λ x. Err (eval.BadExpr at)

-- at most 16 pieces
abbrev pub added : PlacedOperator → List Piece → Piece → Result (List Piece) Eval
added x pieces p = if nat_lt (length pieces) 16 then Ok (pieces ++ p ∷ []) else Err (eval.Unsupported x.opcode x.at)

unfoldable pub pieces_of : View → Base → List (List PlacedOperator × PlacedOperator) → List Piece → Result (List Piece) Eval
pieces_of v b [] pieces = Ok pieces
pieces_of v b (x ∷ xs) pieces = piece_of x.1.begun x.1.at (piece_place v b x.1.at x.0) >>= λ p. added x.1 pieces p >>= λ more. pieces_of v b xs more

-- ---- the whole

abbrev pub answer_of : Result Eval Eval → Eval
answer_of (Ok x) = x
answer_of (Err x) = x

abbrev pub single : PiecePlace → Eval
single (at_place.Value w) = eval.Value w
single (at_place.Address a) = eval.Address a
single at_place.Nothing = eval.Empty

-- What stands behind the last piece makes none.
abbrev pub ended : ℕ → List PlacedOperator → List Piece → Result Eval Eval
ended end [] pieces = Ok (eval.Pieces pieces)
ended end (x ∷ xs) pieces = Err (eval.BadExpr end)

-- without pieces, or with some
abbrev pub by_pieces : View → Base → ℕ → List (List PlacedOperator × PlacedOperator) → List PlacedOperator → Result Eval Eval
by_pieces v b end [] behind = place_of v b end behind >>= λ x. Ok (single x)
by_pieces v b end (x ∷ xs) behind = pieces_of v b (x ∷ xs) [] >>= λ pieces. run v b behind [] >>= λ s. ended end behind pieces

abbrev pub of_parts : View → Base → ℕ → Parts → Result Eval Eval
of_parts v b end parts = by_pieces v b end parts.closed parts.behind

-- an expression of bytes
unfoldable pub meaning : List ℕ → View → Base → Eval
meaning [] v b = eval.Empty
meaning (x ∷ xs) v b = answer_of (of_parts v b (length (x ∷ xs)) (parts (operators (x ∷ xs))))
