-- What a list of opcodes does to the bounds of a program, whatever stands in front of it: it is put together from the last opcode to the first.
use Rattle.std.specs.Prelude.{ℕ, ◌+◌, ◌-◌, ◌*◌, List, [], ◌∷◌, Option, Some, None, option_map, not, ◌&&◌, ◌==◌, nat_lt, if◌then◌else◌}
use Rattle.std.specs.Option.{option_or}
use Rattle.dwarf_line.specs.declared.hull.Hull.{Hull}
use Rattle.dwarf_line.specs.declared.lines.Row.{Row}
use Rattle.dwarf_line.specs.declared.effects.AddressChange.{AddressChange}
use Rattle.dwarf_line.specs.declared.effects.AddressChange.TheVariants.{Kept, By, To}
use Rattle.dwarf_line.specs.declared.effects.Effect.{Effect}
use Rattle.dwarf_line.specs.declared.effects.Effect.TheVariants.{Changes, AddsRow, Ends}
use Rattle.dwarf_line.specs.declared.outline.Outline.{Outline}
use Rattle.dwarf_line.specs.declared.opcodes.Opcode.{Opcode}
use Rattle.dwarf_line.specs.declared.opcodes.Opcode.TheVariants.{Special, Copy, AdvancePc, AdvanceLine, SetFile, SetColumn, ConstAddPc, FixedAdvancePc, EndSequence, SetAddress, DefineFile, Passed}
use Rattle.dwarf_line.specs.Parameters.{Parameters}
use Rattle.dwarf_line.specs.Rows.{low, address_advance}
use Rattle.dwarf_line.specs.calls.Hulls.{no_hull, widened}

-- ---- addresses

-- the address behind it
abbrev pub address_by : AddressChange → ℕ → ℕ
address_by Kept a = a
address_by (By n) a = low (a + n)
address_by (To b) a = b

abbrev pub then_by : ℕ → AddressChange → AddressChange
then_by n Kept = By n
then_by n (By m) = By (low (m + n))
then_by n (To b) = To (low (b + n))

-- the second behind the first
abbrev pub both_changes : AddressChange → AddressChange → AddressChange
both_changes c Kept = c
both_changes c (By n) = then_by n c
both_changes c (To b) = To b

-- ---- opcodes

abbrev pub effect_of : Parameters → Opcode → Effect
effect_of h (Special n) = AddsRow (By (address_advance h n))
effect_of h Copy = AddsRow Kept
effect_of h (AdvancePc n) = Changes (By (low (h.minimum_instruction_length * n)))
effect_of h (AdvanceLine z) = Changes Kept
effect_of h (SetFile n) = Changes Kept
effect_of h (SetColumn n) = Changes Kept
effect_of h ConstAddPc = Changes (By (address_advance h (255 - h.opcode_base)))
effect_of h (FixedAdvancePc n) = Changes (By n)
effect_of h EndSequence = Ends
effect_of h (SetAddress n) = Changes (To n)
effect_of h (DefineFile f) = Changes Kept
effect_of h Passed = Changes Kept

-- ---- what the sequences hold that effects make

-- the address of the first row
abbrev pub first_of : List Row → Option ℕ
first_of [] = None
first_of (row ∷ rows) = Some row.address

-- of a sequence whose first row has this address, if it has rows
abbrev pub held_by : Option ℕ → ℕ → Option (ℕ × ℕ)
held_by None last = None
held_by (Some first) last = if not (first == 0) && nat_lt first 0xfffffffe then Some (first, last) else None

-- behind rows of which the first has this address, at an address
abbrev pub made : List Effect → Option ℕ → ℕ → List (Option (ℕ × ℕ))
made [] row a = []
made (Changes c ∷ es) row a = made es row (address_by c a)
made (AddsRow c ∷ es) row a = made es (option_or row (Some (address_by c a))) (address_by c a)
made (Ends ∷ es) row a = held_by row a ∷ made es None 0

abbrev pub hull_over : Hull → List (Option (ℕ × ℕ)) → Hull
hull_over h [] = h
hull_over h (o ∷ os) = hull_over (widened h o) os

-- ---- outlines

abbrev pub no_outline : Outline
no_outline = record { first = None; close = None; behind = no_hull }

abbrev pub closed_at : Option ℕ → ℕ → Outline → Option AddressChange → Hull
closed_at row a s None = no_hull
closed_at row a s (Some c) = widened s.behind (held_by (option_or row (option_map (λ f. address_by f a) s.first)) (address_by c a))

-- the bounds of all that is made behind a first row and at an address
abbrev pub closed_hull : Outline → Option ℕ → ℕ → Hull
closed_hull s row a = closed_at row a s s.close

-- behind no rows, at the address 0
abbrev pub start_hull : Outline → Hull
start_hull s = closed_hull s None 0

-- with an effect in front
abbrev pub with_front : Effect → Outline → Outline
with_front (Changes c) s = record { first = option_map (both_changes c) s.first; close = option_map (both_changes c) s.close; behind = s.behind }
with_front (AddsRow c) s = record { first = Some c; close = option_map (both_changes c) s.close; behind = s.behind }
with_front Ends s = record { first = None; close = Some Kept; behind = start_hull s }

abbrev pub outline : List Effect → Outline
outline [] = no_outline
outline (e ∷ es) = with_front e (outline es)
