-- The numbers of the kinds of traps, as steps have them.
use Rattle.std.specs.Prelude.{ℕ}
use Rattle.machine_basics.specs.declared.answer.TrapKind.{TrapKind}
use Rattle.machine_basics.specs.declared.answer.TrapKind.TheVariants.{Unreachable, DivideByZero, Overflow, OutOfBounds, UndefinedElement, UninitializedElement, TypeMismatch, StackExhausted}

abbrev pub trap_code : TrapKind → ℕ
trap_code Unreachable = 1
trap_code DivideByZero = 2
trap_code Overflow = 3
trap_code OutOfBounds = 4
trap_code UndefinedElement = 5
trap_code UninitializedElement = 6
trap_code TypeMismatch = 7
trap_code StackExhausted = 8
