-- What the collector calls of an invocation hand over.
use Rattle.std.specs.Prelude.{◌≡◌, ◌≢◌, ℕ, List, [], map, Option}
use Rattle.wasm_syntax.specs.declared.value.Value.{Value}
use Rattle.wasm_syntax.specs.declared.host.CollectorCall.{CollectorCall}
use Rattle.dump_write.specs.Image.{DumpFrame, Dump}
use Rattle.dump_write.specs.Collected.{Whole}
use Rattle.host_collector.specs.Torn.{IsFirstOffending}

-- the kind of the trap, the frames, innermost first, and the globals
pub record HandedDump : Type 0 where
  pub kind : ℕ
  pub frames : List DumpFrame
  pub globals : List Value

abbrev pub handed_by : {calls : List CollectorCall} → Whole calls → HandedDump
handed_by w = record { kind = w.kind; frames = map (λ e. e.shown) w.entries; globals = w.globals }

-- the dump, with these bytes of a memory and of this name
abbrev pub dump_of : HandedDump → Option (List ℕ) → List ℕ → Dump
dump_of d memory name = record { name = name; frames = d.frames; globals = d.globals; memory = memory }

-- no calls, whole calls, or others with their first offending one
pub data Delivery : Type 0 where
  nothing : Delivery
  whole : HandedDump → Delivery
  torn : (at : ℕ) → Delivery

abbrev pub Delivers : List CollectorCall → Delivery → Type 0
Delivers calls nothing = calls ≡ []
Delivers calls (whole d) = (w : Whole calls) × (handed_by w ≡ d)
Delivers calls (torn at) = (calls ≢ []) × IsFirstOffending calls at

-- each list of calls hands this over
abbrev pub IsDelivery : (List CollectorCall → Delivery) → Type 0
IsDelivery deliver = (calls : List CollectorCall) → Delivers calls (deliver calls)
