-- Refusals, of which the first one counts.
use Rattle.std.specs.Prelude.{Option, Some, None, Result, Ok, Err}

-- the first of two refusals
infixr 6 ◌orelse◌
abbrev pub ◌orelse◌ : {E : Type 0} → Option E → Option E → Option E
(Some e) orelse other = Some e
None orelse other = other

abbrev pub unless_refused : {A E : Type 0} → Option E → A → Result A E
unless_refused None x = Ok x
unless_refused (Some e) x = Err e
