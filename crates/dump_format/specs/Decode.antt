-- A whole dump from its bytes.
use Rattle.std.specs.Prelude.{◌≡◌, ℕ, List, length, Result, Ok, Err, nat_lt, if◌then◌else◌}
use Rattle.wasm_syntax.specs.declared.quantity.Quantity.TheVariants.{DumpBytes}
use Rattle.wasm_syntax.specs.Quantity.{greatest}
use Rattle.wasm_bytes.specs.Reading.{whole}
use Rattle.dump_format.specs.declared.dump.Dump.{Dump}
use Rattle.dump_format.specs.declared.fault.DumpFault.{DumpFault}
use Rattle.dump_format.specs.declared.fault.DumpFault.TheVariants.{NoMemory, Malformed, Limit}
use Rattle.dump_format.specs.Parts.{Part}
use Rattle.dump_format.specs.Sections.{parts_item}
use Rattle.dump_format.specs.Judged.{judged}

abbrev pub judged_parts : Result (List Part) ℕ → Result Dump DumpFault
judged_parts (Ok ps) = judged ps
judged_parts (Err at) = Err (Malformed at)

-- the dump that the bytes spell, or why they are refused
unfoldable pub dump_from : List ℕ → Result Dump DumpFault
dump_from bytes = if nat_lt (greatest DumpBytes) (length bytes) then Err (Limit DumpBytes (length bytes)) else judged_parts (whole parts_item bytes)

-- A function answered that, or memory ran out.
abbrev pub Answers : {A : Type 0} → Result A DumpFault → Result A DumpFault → Type 0
Answers (Err NoMemory) answer = Unit {0}
Answers result answer = result ≡ answer
