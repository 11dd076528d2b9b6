-- What was written as a guard means what a guard does.
use Rattle.std.proofs.Common.{◌≡◌, ℕ, ◌≤◌, true, List, length, Result, Ok, Err}
use Rattle.std.specs.Prelude.{OnOk}
use Rattle.causes.specs.declared.NoMemory.{NoMemory}
use Rattle.wasm_syntax.specs.declared.instruction.Basic.{Basic}
use Rattle.rewrite_bodies.specs.calls.Slots.{Place, Ctx}
use Rattle.rewrite_bodies.specs.calls.Pieces.{const, i32, call, fetch}
use Rattle.rewrite_bodies.specs.calls.Guards.{can_trap, guard, kind}
use Rattle.rewrite_bodies.specs.calls.Verdicts.{IsGuard, IsKind, IsGuardOfUnreachable, IsGuardOfEntry}
use Rattle.rewrite_bodies.proofs.Verdicts.{guard_means, kind_means, unreachable_means, entry_means}
use Rattle.rewrite_code.specs.calls.Writing.{Written, Emits}
use Rattle.guard_insert.specs.calls.Meaning.{Writes}

abbrev Done : Type 0
Done = Result (Unit {0}) NoMemory

pub guard_written : (C : Ctx) (i : Basic) (es : List Place) (old new : Written) (result : Done) → length es ≤ C.slots → OnOk result (Emits (guard C i es) old new) → can_trap i ≡ true → OnOk result (Writes (IsGuard C i es) old new)
guard_written C i es old new (Ok u) room e trap = (guard C i es, e, guard_means C i es trap room)
guard_written C i es old new (Err f) room e trap = tt

pub kind_written : (C : Ctx) (i : Basic) (es : List Place) (old new : Written) (result : Done) → length es ≤ C.slots → OnOk result (Emits (kind C i es) old new) → can_trap i ≡ true → OnOk result (Writes (IsKind C i es) old new)
kind_written C i es old new (Ok u) room e trap = (kind C i es, e, kind_means C i es trap room)
kind_written C i es old new (Err f) room e trap = tt

pub unreachable_written : (C : Ctx) (old new : Written) (result : Done) → OnOk result (Emits (const (i32 1)) old new) → OnOk result (Writes (IsGuardOfUnreachable C) old new)
unreachable_written C old new (Ok u) e = (const (i32 1), e, unreachable_means C)
unreachable_written C old new (Err f) e = tt

pub entry_written : (C : Ctx) (t f : ℕ) (e : Place) (height : ℕ) (old new : Written) (result : Done) → height ≤ C.slots → OnOk result (Emits (λ k. fetch C e height (call f k)) old new) → OnOk result (Writes (IsGuardOfEntry C t f e height) old new)
entry_written C t f e height old new (Ok u) room w = ((λ k. fetch C e height (call f k)), w, entry_means C t f e height room)
entry_written C t f e height old new (Err g) room w = tt
