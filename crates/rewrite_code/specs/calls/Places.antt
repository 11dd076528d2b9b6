-- Places of operands as they are kept.
use Rattle.std.specs.Prelude.{ℕ, ◌==◌, List, map, reverse, Option, Some, None, Bool, true}
use Rattle.rewrite_bodies.specs.calls.Slots.{Place, Spilled, Known, Copied}
use Rattle.rewrite_code.specs.declared.place.OperandPlace.{OperandPlace}
use Rattle.rewrite_code.specs.declared.place.OperandPlace.TheVariants as kept

abbrev pub place : OperandPlace → Place
place (kept.Spilled t) = Spilled t
place (kept.Known v) = Known v
place (kept.Copied t x) = Copied t x

-- this local, or any where there is none
abbrev pub these : Option ℕ → ℕ → Bool
these None = λ y. true
these (Some x) = λ y. x == y

-- kept with the topmost last, seen from the top
abbrev pub from_top : List OperandPlace → List Place
from_top places = reverse (map place places)
