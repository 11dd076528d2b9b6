-- Reading an expression operator by operator: what is known between two operators, and what the next one makes of it.
use Rattle.std.specs.Prelude.{◌≡◌, ℕ, suc, List, [], ◌∷◌, Option, Some, None, Result, Ok, Err, Bool, true, false, ◌||◌, ◌&&◌, ◌==◌, if◌then◌else◌}
use Rattle.int_ops.specs.Integers.{modulo}
use Rattle.wasm_bytes.specs.Place.{Place}
use Rattle.wasm_bytes.specs.declared.faults.Malformed.{Malformed}
use Rattle.wasm_bytes.specs.calls.Answers.{Reads}
use Rattle.dwarf_bytes.specs.Format.{Format, read}
use Rattle.dwarf_expr.specs.declared.answer.Base.{Base}
use Rattle.dwarf_expr.specs.declared.answer.Eval.{Eval}
use Rattle.dwarf_expr.specs.declared.answer.Eval.TheVariants as eval
use Rattle.dwarf_expr.specs.declared.answer.Piece.{Piece}
use Rattle.dwarf_expr.specs.declared.answer.PiecePlace.{PiecePlace}
use Rattle.dwarf_expr.specs.declared.answer.PiecePlace.TheVariants as at_place
use Rattle.dwarf_expr.specs.declared.effects.Event.{Event}
use Rattle.dwarf_expr.specs.declared.effects.Event.TheVariants.{Bad}
use Rattle.dwarf_expr.specs.declared.operators.Operator.{Operator}
use Rattle.dwarf_expr.specs.declared.operators.Begun.{Begun}
use Rattle.dwarf_expr.specs.declared.operators.Begun.TheVariants.{Known, Cut, Foreign}
use Rattle.dwarf_expr.specs.declared.operators.PlacedOperator.{PlacedOperator}
use Rattle.dwarf_expr.specs.declared.progress.Part.{Part}
use Rattle.dwarf_expr.specs.declared.progress.Part.TheVariants.{Empty, Value, Address}
use Rattle.dwarf_expr.specs.declared.progress.Progress.{Progress}
use Rattle.dwarf_expr.specs.View.{View}
use Rattle.dwarf_expr.specs.Decode.{others_behind, operators_from}
use Rattle.dwarf_expr.specs.Meaning.{Stack, ◌>>=◌, begun_step, is_piece, piece_of, added, single}

-- ---- answers of the code

-- what stands behind an opcode is read, or it is none of the operators
abbrev pub ReadsBehind : Option (Result Operator Malformed) → Place → Option (Format Operator) → Place → Type 0
ReadsBehind (Some result) after (Some f) p = Reads result after (read f p)
ReadsBehind None after None p = after ≡ p
ReadsBehind (Some result) after None p = ⊥
ReadsBehind None after (Some f) p = ⊥

abbrev pub IfRead : Option (Result Operator Malformed) → Type 0 → Type 0
IfRead (Some (Ok op)) claim = claim
IfRead (Some (Err e)) claim = Unit {0}
IfRead None claim = Unit {0}

-- An opcode begins that, and the place is behind it where it is known.
abbrev pub Begins : Begun → Place → Begun × Place → Type 0
Begins (Known op) after x = x ≡ (Known op, after)
Begins Cut after x = x.0 ≡ Cut
Begins Foreign after x = x.0 ≡ Foreign

abbrev pub IfKnown : Begun → Type 0 → Type 0
IfKnown (Known op) claim = claim
IfKnown Cut claim = Unit {0}
IfKnown Foreign claim = Unit {0}

abbrev pub is_known : Begun → Bool
is_known (Known op) = true
is_known Cut = false
is_known Foreign = false

-- an operator in front of the others
abbrev pub listed : Option PlacedOperator → List PlacedOperator → List PlacedOperator
listed None xs = []
listed (Some x) xs = x ∷ others_behind x.begun xs

-- This is the first operator of those at a place, and the place behind it.
abbrev pub IsNext : Option PlacedOperator → Place → Place → Type 0
IsNext x after p = (n : ℕ) → operators_from (suc n) p ≡ listed x (operators_from n after)

-- The topmost entry was taken, where there is one.
abbrev pub Pops : Result ℕ Event → Stack → Stack → Type 0
Pops (Ok x) old new = old ≡ x ∷ new
Pops (Err e) old new = (old ≡ []) × (e ≡ Bad)

-- A call answered, and left behind it, what there is to be.
abbrev pub Leaves : {A E : Type 0} → Result (Unit {0}) E → A → Result A E → Type 0
Leaves (Ok u) new state = state ≡ Ok new
Leaves (Err e) new state = state ≡ Err e

-- ---- between two operators

-- no more operators of the part stand there
abbrev pub is_end : List PlacedOperator → Bool
is_end [] = true
is_end (x ∷ xs) = is_piece x

abbrev pub is_empty_part : Part → Bool
is_empty_part Empty = true
is_empty_part Value = false
is_empty_part Address = false

-- what a part gives, behind one more operator
abbrev pub part_behind : Part → ℕ → Part
part_behind part opcode = if opcode == 0x9f || (is_empty_part part && opcode == 0xed) then Value else Address

-- what it gives that leaves these entries
abbrev pub given_by : ℕ → Part → Stack → Result PiecePlace Eval
given_by at part [] = Err (eval.BadExpr at)
given_by at Value (w ∷ s) = Ok (at_place.Value w)
given_by at Address (w ∷ s) = Ok (at_place.Address (modulo 32 w))
given_by at Empty (w ∷ s) = Ok (at_place.Address (modulo 32 w))

abbrev pub piece_given_by : ℕ → Part → Stack → Result PiecePlace Eval
piece_given_by at Empty s = Ok at_place.Nothing
piece_given_by at Value s = given_by at Value s
piece_given_by at Address s = given_by at Address s

abbrev pub progress : List Piece → Part → Stack → Progress
progress pieces part stack = record { pieces = pieces; part = part; stack = stack }

-- behind an operator that is no piece, and is the last of its part or not
unfoldable pub stepped : View → Base → PlacedOperator → Bool → Progress → Result Progress Eval
stepped v b x is_last p = begun_step v b x.at x.opcode x.begun is_last p.stack >>= λ s. Ok (progress p.pieces (part_behind p.part x.opcode) s)

-- behind a piece
unfoldable pub closed : PlacedOperator → Progress → Result Progress Eval
closed x p = piece_of x.begun x.at (piece_given_by x.at p.part p.stack) >>= λ piece. added x p.pieces piece >>= λ more. Ok (progress more Empty [])

unfoldable pub advanced : View → Base → PlacedOperator → Bool → Progress → Result Progress Eval
advanced v b x is_last p = if is_piece x then closed x p else stepped v b x is_last p

-- behind the last operator
abbrev pub ended_by : ℕ → Part → List Piece → Result Eval Eval
ended_by end Empty pieces = Ok (eval.Pieces pieces)
ended_by end Value pieces = Err (eval.BadExpr end)
ended_by end Address pieces = Err (eval.BadExpr end)

unfoldable pub completed : ℕ → List Piece → Part → Stack → Result Eval Eval
completed end [] part s = given_by end part s >>= λ x. Ok (single x)
completed end (p ∷ pieces) part s = ended_by end part (p ∷ pieces)

-- what the operators to come make of it
unfoldable pub continued : View → Base → ℕ → List PlacedOperator → Progress → Result Eval Eval
continued v b end [] p = completed end p.pieces p.part p.stack
continued v b end (x ∷ xs) p = advanced v b x (is_end xs) p >>= λ q. continued v b end xs q
