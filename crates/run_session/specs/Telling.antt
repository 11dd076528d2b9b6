-- What is told of an invocation, by its outcome, its last configuration and its collector calls.
use Rattle.std.specs.Prelude.{ℕ, Bool, true, false, List, Option, Some, None, option_map}
use Rattle.wasm_syntax.specs.declared.value.Value.{Value}
use Rattle.wasm_syntax.specs.declared.host.CollectorCall.{CollectorCall}
use Rattle.wasm_syntax.specs.Machine.{Config, first}
use Rattle.wasm_syntax.specs.Run.{Outcome, finished, trapped, Ran}
use Rattle.dump_write.specs.Image.{DumpFrame, frame_images, Dump, image}
use Rattle.run_session.specs.Delivery.{Delivery, dump_of}
use Rattle.run_session.specs.Showing.{Showing, as_run, collected, no_dump, torn_at, showing}

-- nothing; that it finished, with its value; a trap, with its kind, its innermost frame, and its dump by the name inside; a trap whose dump was
-- not handed over; or that its collector calls are torn at this index
pub data Telling : Type 0 where
  nothing : Telling
  finish : Option Value → Telling
  trap : (kind : ℕ) → Option DumpFrame → (List ℕ → Dump) → Telling
  bare_trap : (kind : ℕ) → Telling
  torn : (at : ℕ) → Telling

abbrev pub innermost : Config → Option DumpFrame
innermost c = first (frame_images c.frames)

-- where collector calls are not looked at
abbrev pub plain_telling : Outcome → Option Config → Telling
plain_telling (finished v) last = finish v
plain_telling (trapped kind) (Some c) = trap kind (innermost c) (λ name. image c name)
plain_telling _ _ = nothing

abbrev pub memory_in : Option Config → Option (List ℕ)
memory_in None = None
memory_in (Some c) = option_map (λ m. m.bytes) c.world.memory

-- where the invocation is shown so
abbrev pub shown_telling : Showing → Outcome → Option Config → Telling
shown_telling as_run o last = plain_telling o last
shown_telling (collected d) o last = trap d.kind (first d.frames) (λ name. dump_of d (memory_in last) name)
shown_telling (no_dump kind) o last = bare_trap kind
shown_telling (torn_at at) o last = torn at

-- what is told of invocations
abbrev pub Tells : Type 0
Tells = Outcome → List CollectorCall → Option Config → Telling

-- collector calls, which hand these things over, are looked at where a collector is asked for
abbrev pub tells : (collect : Bool) → (List CollectorCall → Delivery) → Tells
tells false deliver o calls last = plain_telling o last
tells true deliver o calls last = shown_telling (showing o (deliver calls)) o last

abbrev pub told : Tells → Ran → Telling
told tell r = tell r.outcome r.collected r.last

-- ---- parts of it

abbrev pub torn_in : Telling → Option ℕ
torn_in (torn at) = Some at
torn_in _ = None

-- a trap with a dump
abbrev pub HasDump : Telling → Type 0
HasDump (trap kind place dump) = Unit {0}
HasDump _ = ⊥
