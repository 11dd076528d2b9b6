-- The lines that commands have in common.
use Rattle.std.specs.Prelude.{ℕ, List, ◌++◌, codes}
use Rattle.std.specs.Fmt.{decimal}
use Rattle.pm_text.specs.Names.{quoted}
use Rattle.wasm_syntax.specs.declared.quantity.Quantity.{Quantity}
use Rattle.wasm_syntax.specs.Quantity.{greatest, name}
use Rattle.commands.specs.declared.outcome.Outcome.{Outcome}
use Rattle.commands.specs.declared.status.Status.{Status}
use Rattle.commands.specs.declared.status.Status.TheVariants as status

abbrev pub ended : Status → List ℕ → Outcome
ended s text = record { status = s; text = text }

abbrev pub usage : Outcome
usage = ended status.Usage (codes "usage: check, run, instrument, show, debug, selftest, replay or cover\n")

-- a line that ends with the name of a file
abbrev pub file_line : List ℕ → List ℕ → List ℕ
file_line words file = words ++ quoted file ++ codes "\n"

abbrev pub no_file : List ℕ → Outcome
no_file file = ended status.NoFile (file_line (codes "no file: ") file)

abbrev pub file_fault : List ℕ → Outcome
file_fault file = ended status.FileFault (file_line (codes "file fault: ") file)

-- a quantity that passes its number
unfoldable pub limit_text : Quantity → ℕ → List ℕ
limit_text what count = codes "limit: " ++ name what ++ codes " " ++ decimal count ++ codes " over " ++ decimal (greatest what) ++ codes "\n"

abbrev pub over_limit : Quantity → ℕ → Outcome
over_limit what count = ended status.Limit (limit_text what count)
