-- How far calls of the collector have come, call by call.
use Rattle.std.specs.Prelude.{ℕ, ◌+◌, List, [], ◌∷◌, Option, Some, None, Result, Ok, Err, ◌&&◌, ◌==◌, nat_le, if◌then◌else◌}
use Rattle.wasm_syntax.specs.declared.host.CollectorCall.{CollectorCall}
use Rattle.wasm_syntax.specs.declared.host.CollectorCall.TheVariants.{ValueI32, ValueI64, Frame}
use Rattle.host_collector.specs.declared.progress.Progress.{Progress}
use Rattle.host_collector.specs.declared.progress.Progress.TheVariants.{First, Later, Whole}

-- the values since the last entry was closed
abbrev pub values_in : Progress → ℕ
values_in (First n) = n
values_in (Later kind n) = n
values_in (Whole kind) = 0

-- how many calls have to come at least
abbrev pub missing : Progress → ℕ
missing (First n) = 2
missing (Later kind n) = 1
missing (Whole kind) = 0

-- behind a value
abbrev pub with_value : Progress → Option Progress
with_value (First n) = Some (First (n + 1))
with_value (Later kind n) = Some (Later kind (n + 1))
with_value (Whole kind) = None

-- behind the end of the first entry, before which so many values stand
abbrev pub with_first : ℕ → ℕ → ℕ → Option Progress
with_first values kind locals = if nat_le 1 kind && (nat_le kind 7 && nat_le locals values) then Some (Later kind 0) else None

-- behind the end of a later entry
abbrev pub with_later : ℕ → ℕ → ℕ → Option Progress
with_later first values locals = if nat_le locals values then Some (Later first 0) else None

-- behind the last call
abbrev pub with_last : ℕ → ℕ → ℕ → ℕ → ℕ → Option Progress
with_last first values function offset locals = if function == 0 && (offset == 0 && locals == values) then Some (Whole first) else None

abbrev pub with_frame : Progress → ℕ → ℕ → ℕ → ℕ → Option Progress
with_frame (First n) kind function offset locals = with_first n kind locals
with_frame (Later first n) kind function offset locals =
    if kind == 0 then with_later first n locals else (if kind == 255 then with_last first n function offset locals else None)
with_frame (Whole first) kind function offset locals = None

abbrev pub with_call : Progress → CollectorCall → Option Progress
with_call p (ValueI32 n) = with_value p
with_call p (ValueI64 n) = with_value p
with_call p (Frame kind function offset locals) = with_frame p kind function offset locals

-- so many calls leave room for those that have to come
abbrev pub if_room : ℕ → Option Progress → Option Progress
if_room count None = None
if_room count (Some p) = if nat_le (count + missing p) 134217728 then Some p else None

-- behind one more than so many calls
abbrev pub stepped : ℕ → Progress → CollectorCall → Option Progress
stepped count p call = if_room (count + 1) (with_call p call)

-- behind all so many calls
abbrev pub ended : ℕ → Progress → Result ℕ ℕ
ended count (First n) = Err count
ended count (Later kind n) = Err count
ended count (Whole kind) = Ok kind

abbrev pub if_next : ℕ → (Progress → Result ℕ ℕ) → Option Progress → Result ℕ ℕ
if_next count goes None = Err count
if_next count goes (Some p) = goes p

-- the kind of the first entry, or the index of the first call that is refused; so many calls came before
abbrev pub judged : ℕ → Progress → List CollectorCall → Result ℕ ℕ
judged count p [] = ended count p
judged count p (call ∷ calls) = if_next count (λ q. judged (count + 1) q calls) (stepped count p call)
