-- The replies that a run was given (Core 4.4.7, host functions).
use Rattle.std.specs.Prelude.{ℕ, List, [], ◌∷◌, map, Option, Some, None}
use Rattle.wasm_syntax.specs.declared.parts.Import.{Import}
use Rattle.wasm_syntax.specs.declared.host.Reply.{Reply}
use Rattle.wasm_syntax.specs.declared.host.Served.{Served}
use Rattle.wasm_syntax.specs.Run.{Outcome, misfits}

-- the replies among calls with their replies
abbrev pub replies_of : List Served → List Reply
replies_of given = map (λ s. s.reply) given

-- the call whose reply does not fit, which is not among those that were served
abbrev pub unfitting : Outcome → List Served
unfitting (misfits call reply) = record { call = call; reply = reply } ∷ []
unfitting _ = []

-- ---- who gave them

-- the name of the module of an import, where there is one
abbrev pub module_name : Option Import → List ℕ
module_name None = []
module_name (Some import) = import.«module»
