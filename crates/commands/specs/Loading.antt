-- Modules that a command loads from their bytes.
use Rattle.std.specs.Prelude.{◌≡◌, ◌++◌, [], Result, Ok, Err, codes}
use Rattle.std.specs.Fmt.{decimal}
use Rattle.wasm_syntax.specs.declared.module.ModuleParts.{ModuleParts as Module}
use Rattle.wasm_decode.specs.declared.fault.DecodeFault.{DecodeFault}
use Rattle.wasm_decode.specs.declared.fault.DecodeFault.TheVariants.{NoMemory, Malformed, Float, ImportKind, Limit}
use Rattle.commands.specs.Refusal.{IsRefusal, IfValid}
use Rattle.commands.specs.Texts.{ended, over_limit}
use Rattle.commands.specs.declared.outcome.Outcome.{Outcome}
use Rattle.commands.specs.declared.status.Status.TheVariants as status

-- why bytes are refused as a module
abbrev pub undecoded : DecodeFault → Outcome
undecoded (Malformed at) = ended status.Malformed (codes "malformed module at " ++ decimal at ++ codes "\n")
undecoded (Float at) = ended status.Outside (codes "float at " ++ decimal at ++ codes "\n")
undecoded (ImportKind i) = ended status.Outside (codes "import " ++ decimal i ++ codes " is not a function\n")
undecoded (Limit what count) = over_limit what count
undecoded NoMemory = ended status.NoMemory []

-- The bytes spell no module, or one that is not taken.
abbrev pub IsTurnedDown : Result Module DecodeFault → Outcome → Type 0
IsTurnedDown (Err fault) o = o ≡ undecoded fault
IsTurnedDown (Ok m) o = IsRefusal m o

-- the answer where the bytes spell a valid module is said by what comes behind
abbrev pub IfLoaded : (Module → Outcome → Type 0) → Result Module DecodeFault → Outcome → Type 0
IfLoaded Answers (Err fault) o = o ≡ undecoded fault
IfLoaded Answers (Ok m) o = IfValid Answers m o
