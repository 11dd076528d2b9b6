-- The record of a run, which is written behind its dumps.
use Rattle.std.specs.Prelude.{◌≡◌, ℕ, List, [], ◌∷◌, map, Option, Some, None, Ok}
use Rattle.std.specs.List.{flat_map}
use Rattle.wasm_syntax.specs.declared.host.Reply.{Reply}
use Rattle.wasm_syntax.specs.declared.host.Served.{Served}
use Rattle.wasm_syntax.specs.Run.{Ran}
use Rattle.host_devices.specs.Given.{replies_of}
use Rattle.host_replies.specs.Replies.{file_replies}
use Rattle.pm_outside.specs.Held.{Writes}
use Rattle.host_replies.specs.Record.{record_text, without_empty}

-- the calls of these invocations whose replies fitted, in order
abbrev pub served_in : List Ran → List Served
served_in rans = flat_map (λ r. r.served) rans

-- the file of a record, where one is asked for
abbrev pub record_file : Option (List ℕ) → List Reply → Writes
record_file None replies = []
record_file (Some file) replies = (file, record_text replies) ∷ []

-- it has the replies that fitted
abbrev pub recorded : Option (List ℕ) → List Ran → Writes
recorded to rans = record_file to (replies_of (served_in rans))

-- the record of these replies, where one is asked for, is a file of replies that holds them without their writes of no bytes
abbrev pub IsReadBack : Option (List ℕ) → List Reply → Type 0
IsReadBack None replies = Unit {0}
IsReadBack (Some file) replies = file_replies (record_text replies) ≡ Ok (map without_empty replies)
