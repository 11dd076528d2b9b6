-- What loading a module gives.
use Rattle.std.specs.Prelude.{◌≡◌, Result, Ok}
use Rattle.wasm_decode.specs.declared.fault.DecodeFault.{DecodeFault}
use Rattle.wasm_syntax.specs.declared.module.ModuleParts.{ModuleParts as Module}
use Rattle.wasm_syntax.specs.Valid.{Valid}
use Rattle.wasm_validate.specs.Heights.{AllLow}
use Rattle.commands.specs.Loading.{IsTurnedDown}
use Rattle.commands.specs.declared.given.Given.{Given}
use Rattle.commands.specs.declared.given.Given.TheVariants.{Value, Refused}

-- the module itself, which is valid, or what is answered in its place
abbrev pub IsLoaded : Given Module → Result Module DecodeFault → Type 0
IsLoaded (Value m) decoded = (decoded ≡ Ok m) × Valid m × AllLow m
IsLoaded (Refused o) decoded = IsTurnedDown decoded o
