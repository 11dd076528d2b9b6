-- What each answer says of the bytes.
use Rattle.std.specs.Prelude.{◌≡◌, ℕ, ◌<◌, ◌≤◌, ◌⊎◌, List, [], length, Some, None, Result}
use Rattle.std.specs.List.{flat_map}
use Rattle.wasm_syntax.specs.declared.quantity.Quantity.{Quantity}
use Rattle.wasm_syntax.specs.declared.quantity.Quantity.TheVariants.{DumpBytes, DumpPages, DumpFrames}
use Rattle.wasm_syntax.specs.Quantity.{greatest}
use Rattle.dump_format.specs.declared.dump.Dump.{Dump}
use Rattle.dump_format.specs.declared.fault.DumpPart.{DumpPart}
use Rattle.dump_format.specs.declared.fault.DumpFault.{DumpFault}
use Rattle.dump_format.specs.Parts.{Part}
use Rattle.dump_format.specs.Form.{pages_of}
use Rattle.dump_format.specs.Judged.{floats_in, first_of, memory_of, frames_of, repeated, dump_of}
use Rattle.dump_format.specs.calls.Grammar.{dump_file}
use Rattle.dump_format.specs.calls.Breaking.{dump_stops}
use Rattle.dump_format.specs.Decode.{Answers}

-- The bytes are not too many, and spell these parts.
abbrev pub IsSpelled : List Part → List ℕ → Type 0
IsSpelled ps bytes = (length bytes ≤ greatest DumpBytes) × dump_file ps 0 bytes

-- No value is a float, and no part stands again.
abbrev pub IsPlain : List Part → Type 0
IsPlain ps = (flat_map floats_in ps ≡ []) × (repeated ps ≡ None)

abbrev pub page_count : List Part → ℕ
page_count ps = pages_of (memory_of ps)

abbrev pub frame_count : List Part → ℕ
frame_count ps = length (frames_of ps)

-- The bytes spell this dump.
abbrev pub IsDump : List ℕ → Dump → Type 0
IsDump bytes d = (ps : List Part) × IsSpelled ps bytes × IsPlain ps × (page_count ps ≤ greatest DumpPages) × (frame_count ps ≤ greatest DumpFrames) × (dump_of ps ≡ d)

-- The first item without a reading is at this offset.
abbrev pub BreaksAt : List ℕ → ℕ → Type 0
BreaksAt bytes at = (length bytes ≤ greatest DumpBytes) × dump_stops 0 bytes at

-- The first float is at this offset.
abbrev pub HasFloatAt : List ℕ → ℕ → Type 0
HasFloatAt bytes at = (ps : List Part) × IsSpelled ps bytes × (first_of (flat_map floats_in ps) ≡ Some at)

-- This part is the first one that stands again.
abbrev pub HasSeveral : List ℕ → DumpPart → Type 0
HasSeveral bytes part = (ps : List Part) × IsSpelled ps bytes × (flat_map floats_in ps ≡ []) × (repeated ps ≡ Some part)

-- The quantity has this count, which is past its greatest number.
abbrev pub IsOver : Quantity → ℕ → Quantity → ℕ → Type 0
IsOver quantity number what count = (what ≡ quantity) × (count ≡ number) × (greatest quantity < number)

-- This quantity is the first one that passes its greatest number.
abbrev pub PassesLimit : List ℕ → Quantity → ℕ → Type 0
PassesLimit bytes what count =
    IsOver DumpBytes (length bytes) what count
    ⊎ ((ps : List Part) × IsSpelled ps bytes × IsPlain ps
    × (IsOver DumpPages (page_count ps) what count ⊎ ((page_count ps ≤ greatest DumpPages) × IsOver DumpFrames (frame_count ps) what count)))

-- The answer comes only where the fact holds. Where it holds, the answer comes, or memory ran out.
pub record Exactly (result answer : Result Dump DumpFault) (P : Type 0) : Type 0 where
  pub only : result ≡ answer → P
  pub always : P → Answers result answer
