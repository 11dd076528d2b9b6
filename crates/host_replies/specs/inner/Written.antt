-- What is known of a write that was written.
use Rattle.std.specs.Prelude.{◌<◌, length}
use Rattle.wasm_syntax.specs.declared.host.Write.{Write}
use Rattle.host_replies.specs.Record.{IsWriteTyped}

-- a write that has bytes
abbrev pub IsWriteKept : Write → Type 0
IsWriteKept w = 0 < length w.bytes → IsWriteTyped w
