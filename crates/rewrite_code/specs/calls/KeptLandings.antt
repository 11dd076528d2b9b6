-- Landings as they are kept.
use Rattle.std.specs.Prelude.{ℕ, List, Option}
use Rattle.wasm_syntax.specs.declared.value.ValType.{ValType}
use Rattle.rewrite_bodies.specs.calls.Slots.{Landing}
use Rattle.rewrite_code.specs.declared.place.OperandPlace.{OperandPlace}
use Rattle.rewrite_code.specs.declared.landing.Landing.{Landing as Kept}
use Rattle.rewrite_code.specs.calls.Places.{from_top}

abbrev pub landing : Kept → Landing
landing l = record { carried = l.carried; places = l.places; kind = l.kind; part = l.part }

-- for these operands, with the topmost last, this kind, and this part
abbrev pub made_landing : Option ValType → List OperandPlace → ℕ → ℕ → Landing
made_landing carried operands kind part = record { carried = carried; places = from_top operands; kind = kind; part = part }
