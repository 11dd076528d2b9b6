-- What is collected of a trapped configuration, the newest first.
use Rattle.std.specs.Prelude.{ℕ, List, [], ◌∷◌, length}
use Rattle.wasm_syntax.specs.declared.value.Value.{Value}
use Rattle.wasm_syntax.specs.declared.host.CollectorCall.{CollectorCall}
use Rattle.wasm_syntax.specs.Machine.{Label, Frame, Config, offset_of}
use Rattle.wasm_syntax.specs.declared.host.CollectorCall.TheVariants as collector_calls
use Rattle.dump_write.specs.Collected.{value_call}

abbrev pub tell_ops : List Value → List CollectorCall → List CollectorCall
tell_ops [] co = co
tell_ops (v ∷ ops) co = value_call v ∷ tell_ops ops co

abbrev pub tell_labels : List Label → List CollectorCall → List CollectorCall
tell_labels [] co = co
tell_labels (L ∷ Ls) co = tell_ops L.operands (tell_labels Ls co)

abbrev pub tell_locals : List Value → List CollectorCall → List CollectorCall
tell_locals [] co = co
tell_locals (v ∷ l) co = tell_locals l (value_call v ∷ co)

abbrev pub tell_frame : ℕ → ℕ → Frame → List CollectorCall → List CollectorCall
tell_frame k o F co = collector_calls.Frame k F.function o (length F.locals) ∷ tell_locals F.locals (tell_labels F.labels co)

-- frames under a call
abbrev pub tell_outer : List Frame → List CollectorCall → List CollectorCall
tell_outer [] co = co
tell_outer (F ∷ Fs) co = tell_outer Fs (tell_frame 0 F.call F co)

abbrev pub tell_frames : ℕ → List Frame → List CollectorCall → List CollectorCall
tell_frames k [] co = co
tell_frames k (F ∷ Fs) co = tell_outer Fs (tell_frame k (offset_of F.labels) F co)

abbrev pub collected : ℕ → Config → List CollectorCall
collected k c = collector_calls.Frame 255 0 0 (length c.world.globals) ∷ tell_locals c.world.globals (tell_frames k c.frames c.collected)
