-- What is outside the frames, and what a call of an import does to it (Core 4.4.7, 4.2).
use Rattle.std.specs.Prelude.{ℕ, List, [], ◌∷◌, slice_get, if◌then◌else◌, Bool, true, false, Option, Some, None, bytes_eq, codes}
use Rattle.wasm_syntax.specs.declared.value.ValType.{ValType}
use Rattle.wasm_syntax.specs.declared.value.Value.{Value}
use Rattle.wasm_syntax.specs.declared.value.Value.TheVariants as values
use Rattle.wasm_syntax.specs.declared.parts.Import.{Import}
use Rattle.wasm_syntax.specs.declared.host.HostCall.{HostCall}
use Rattle.wasm_syntax.specs.declared.host.Write.{Write}
use Rattle.wasm_syntax.specs.declared.host.Reply.{Reply}
use Rattle.wasm_syntax.specs.declared.host.Served.{Served}
use Rattle.wasm_syntax.specs.declared.host.CollectorCall.{CollectorCall}
use Rattle.wasm_syntax.specs.declared.host.CollectorCall.TheVariants.{ValueI32, ValueI64, Frame}
use Rattle.wasm_syntax.specs.Numbers.{type_of, same_type}
use Rattle.linear_memory.specs.Memory.{Memory, put}
use Rattle.wasm_syntax.specs.Module.{option_then}
use Rattle.wasm_syntax.specs.declared.module.ModuleParts.{ModuleParts as Module}

-- the globals, the memory if there is one, the functions in the table, the replies that are left, and what was served so far, the
-- newest first
pub record World : Type 0 where
  pub globals : List Value
  pub memory : Option Memory
  pub table : List (Option ℕ)
  pub replies : List Reply
  pub served : List Served

-- ---- the collector's imports

abbrev pub on_i32 : List Value → Option CollectorCall
on_i32 (values.I32 n ∷ []) = Some (ValueI32 n)
on_i32 vs = None

abbrev pub on_i64 : List Value → Option CollectorCall
on_i64 (values.I64 n ∷ []) = Some (ValueI64 n)
on_i64 vs = None

abbrev pub on_frame : List Value → Option CollectorCall
on_frame (values.I32 k ∷ values.I32 f ∷ values.I32 o ∷ values.I32 n ∷ []) = Some (Frame k f o n)
on_frame vs = None

abbrev pub collector_name : List ℕ → List Value → Option CollectorCall
collector_name name args =
    if bytes_eq name (codes "value_i32") then on_i32 args else
    if bytes_eq name (codes "value_i64") then on_i64 args else
    if bytes_eq name (codes "frame") then on_frame args else None

-- the call of the collector that an import is, on these arguments
abbrev pub collector_call : Import → List Value → Option CollectorCall
collector_call i args = if bytes_eq i.«module» (codes "coredump") then collector_name i.name args else None

-- with no result
abbrev pub if_none : {A : Type 0} → Option ValType → Option A → Option A
if_none None o = o
if_none (Some t) o = None

abbrev pub collector_of : Module → HostCall → Option CollectorCall
collector_of m call = if_none call.result (option_then (slice_get m.imports call.import) (λ i. collector_call i call.args))

-- ---- replies

-- the memory after the writes, where each lies inside
abbrev pub after_writes : Option Memory → List Write → Option (Option Memory)
after_writes memory [] = Some memory
after_writes None (w ∷ ws) = None
after_writes (Some m) (w ∷ ws) = option_then (put m w.at w.bytes) (λ m'. after_writes (Some m') ws)

abbrev pub fits_type : Option ValType → Option Value → Bool
fits_type None None = true
fits_type (Some t) (Some v) = same_type t (type_of v)
fits_type _ _ = false

pub data Answer : Type 0 where
  replied : World → Option Value → Answer
  told : CollectorCall → Answer
  silent : Answer
  misfit : Reply → Answer

abbrev pub if_written : HostCall → Reply → List Reply → World → Option (Option Memory) → Answer
if_written call reply left w None = misfit reply
if_written call reply left w (Some memory) =
    replied (record { globals = w.globals; memory = memory; table = w.table; replies = left; served = record { call = call; reply = reply } ∷ w.served }) reply.value

abbrev pub if_fits : HostCall → Reply → List Reply → World → Bool → Answer
if_fits call reply left w false = misfit reply
if_fits call reply left w true = if_written call reply left w (after_writes w.memory reply.writes)

-- the next reply is taken, where it fits: first its writes, then its value
abbrev pub served_by : HostCall → World → List Reply → Answer
served_by call w [] = silent
served_by call w (reply ∷ left) = if_fits call reply left w (fits_type call.result reply.value)

abbrev pub told_or : Option CollectorCall → HostCall → World → Answer
told_or None call w = served_by call w w.replies
told_or (Some k) call w = told k

-- where the collector's calls are collected, they take no reply
abbrev pub answer : Bool → Module → HostCall → World → Answer
answer collects m call w = told_or (if collects then collector_of m call else None) call w
