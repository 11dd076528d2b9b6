-- The frames and the globals of whole calls, call by call.
use Rattle.std.specs.Prelude.{ℕ, ◌-◌, List, [], ◌∷◌, ◌++◌, length, take, drop, ◌==◌, if◌then◌else◌}
use Rattle.wasm_syntax.specs.declared.value.Value.{Value}
use Rattle.wasm_syntax.specs.declared.value.Value.TheVariants as values
use Rattle.wasm_syntax.specs.declared.host.CollectorCall.{CollectorCall}
use Rattle.wasm_syntax.specs.declared.host.CollectorCall.TheVariants.{ValueI32, ValueI64, Frame}
use Rattle.dump_write.specs.ImageBytes.{frame_of}
use Rattle.host_collector.specs.declared.gathered.Gathered.{Gathered}

abbrev pub nothing : Gathered
nothing = record { frames = []; values = [] }

abbrev pub with_value : Value → Gathered → Gathered
with_value v g = record { frames = g.frames; values = g.values ++ v ∷ [] }

-- the last values are the locals, the others the operands
abbrev pub with_entry : ℕ → ℕ → ℕ → Gathered → Gathered
with_entry function offset locals g = record {
  frames = g.frames ++ frame_of (record { function = function; offset = offset; locals = drop (length g.values - locals) g.values; operands = take (length g.values - locals) g.values }) ∷ [];
  values = [];
}

-- the last call leaves the values, which are the globals
abbrev pub with_call : CollectorCall → Gathered → Gathered
with_call (ValueI32 n) g = with_value (values.I32 n) g
with_call (ValueI64 n) g = with_value (values.I64 n) g
with_call (Frame kind function offset locals) g = if kind == 255 then g else with_entry function offset locals g

abbrev pub gathered : Gathered → List CollectorCall → Gathered
gathered g [] = g
gathered g (call ∷ calls) = gathered (with_call call g) calls
