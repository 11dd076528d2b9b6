-- The bytes of a value: one rule for values, addresses and pieces (DWARF 4, 2.6).
use Rattle.std.specs.Prelude.{ℕ, zero, suc, ◌+◌, ◌-◌, ◌*◌, ◌/◌, ◌%◌, nat_lt, ℤ, pos, negsuc, ◌+ℤ◌, List, [], ◌∷◌, Option, Some, None, ok_or, Result, Ok, Err, if◌then◌else◌}
use Rattle.linear_memory.specs.Memory.{Memory, load}
use Rattle.dwarf_expr.specs.declared.answer.Piece.{Piece}
use Rattle.dwarf_expr.specs.declared.answer.PiecePlace.{PiecePlace}
use Rattle.dwarf_expr.specs.declared.answer.PiecePlace.TheVariants.{Value, Address, Nothing}
use Rattle.var_values.specs.declared.mark.Mark.{Mark}
use Rattle.var_values.specs.declared.mark.Mark.TheVariants.{OptimisedOut, NotRecorded, OutsideMemory}
use Rattle.var_values.specs.declared.source.Source.{Source}
use Rattle.var_values.specs.declared.source.Source.TheVariants.{Lost, Single, Pieces}
use Rattle.var_values.specs.Marks.{first_mark}

-- the recorded memory, where there is one
abbrev pub Recorded : Type 0
Recorded = Option Memory

abbrev pub Byte : Type 0
Byte = Result ℕ Mark

abbrev pub memory_byte : Recorded → ℤ → Byte
memory_byte None z = Err NotRecorded
memory_byte (Some m) (pos a) = ok_or (load m a 1) OutsideMemory
memory_byte (Some m) (negsuc a) = Err OutsideMemory

-- byte i of a number, from the lowest on
abbrev pub byte_of : ℕ → ℕ → ℕ
byte_of w zero = w % 256
byte_of w (suc i) = byte_of (w / 256) i

-- a value has eight bytes, the lowest first
abbrev pub value_byte : ℕ → ℤ → Byte
value_byte w (pos i) = if nat_lt i 8 then Ok (byte_of w i) else Err OptimisedOut
value_byte w (negsuc i) = Err OptimisedOut

abbrev pub place_byte : Recorded → PiecePlace → ℤ → Byte
place_byte memory (Value w) z = value_byte w z
place_byte memory (Address a) z = memory_byte memory (pos a +ℤ z)
place_byte memory Nothing z = Err OptimisedOut

-- pieces stand one behind another; a byte that none covers is nowhere
abbrev pub piece_byte : Recorded → List Piece → ℕ → Byte
piece_byte memory [] i = Err OptimisedOut
piece_byte memory (p ∷ ps) i = if nat_lt i p.size then place_byte memory p.place (pos i) else piece_byte memory ps (i - p.size)

abbrev pub pieces_byte : Recorded → List Piece → ℤ → Byte
pieces_byte memory ps (pos i) = piece_byte memory ps i
pieces_byte memory ps (negsuc i) = Err OptimisedOut

-- byte z of what has this source, or the mark in its place
unfoldable pub byte_at : Recorded → Source → ℤ → Byte
byte_at memory (Lost m) z = Err m
byte_at memory (Single place) z = place_byte memory place z
byte_at memory (Pieces ps) z = pieces_byte memory ps z

-- a byte in front of a number, or the mark that counts
abbrev pub joined : Byte → Result ℕ Mark → Result ℕ Mark
joined (Ok b) (Ok w) = Ok (b + 256 * w)
joined (Ok b) (Err m) = Err m
joined (Err m) (Ok w) = Err m
joined (Err m) (Err n) = Err (first_mark m n)

-- the number that n bytes from z on spell, the lowest first
unfoldable pub number_at : Recorded → Source → ℤ → ℕ → Result ℕ Mark
number_at memory source z zero = Ok 0
number_at memory source z (suc n) = joined (byte_at memory source z) (number_at memory source (z +ℤ pos 1) n)
