-- Imports, whose names are read before the rest of them.
use Rattle.std.specs.Prelude.{ℕ, List, Option, Result, Ok, Err}
use Rattle.wasm_bytes.specs.declared.faults.Malformed.{Malformed}
use Rattle.wasm_bytes.specs.declared.noted.Noted.{Noted}
use Rattle.wasm_bytes.specs.Notes.{plain}
use Rattle.wasm_format.specs.declared.module.Imported.{Imported}
use Rattle.wasm_format.specs.declared.module.Imported.TheVariants as imported
use Rattle.wasm_format.specs.Form.{function_import}
use Rattle.wasm_decode.specs.declared.form.ImportTail.{ImportTail}
use Rattle.wasm_decode.specs.declared.form.ImportTail.TheVariants as tails

-- an import with its names
abbrev pub import_of : List ℕ × List ℕ → ImportTail → Noted Imported
import_of names (tails.Function ftype) = function_import names ftype
import_of names tails.Table = plain imported.Table
import_of names tails.Memory = plain imported.Memory
import_of names (tails.Global float) = record { value = imported.Global; float = float }

-- what is read behind the names, as an import
abbrev pub named : List ℕ × List ℕ → Result ImportTail Malformed → Result (Noted Imported) Malformed
named names (Ok tail) = Ok (import_of names tail)
named names (Err e) = Err e
