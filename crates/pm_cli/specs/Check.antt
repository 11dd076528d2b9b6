-- What `check` tells of a valid module.
use Rattle.std.specs.Prelude.{ℕ, List, ◌++◌, length, codes}
use Rattle.std.specs.Fmt.{decimal}
use Rattle.wasm_syntax.specs.declared.module.ModuleParts.{ModuleParts as Module}
use Rattle.commands.specs.Texts.{ended}
use Rattle.commands.specs.declared.outcome.Outcome.{Outcome}
use Rattle.commands.specs.declared.status.Status.TheVariants as status

unfoldable pub code_text : Module → List ℕ
code_text m = codes "types " ++ decimal (length m.types) ++ codes " imports " ++ decimal (length m.imports) ++ codes " functions " ++ decimal (length m.functions)

unfoldable pub other_text : Module → List ℕ
other_text m = codes " exports " ++ decimal (length m.exports) ++ codes " custom " ++ decimal (length m.customs)

-- the line that counts what a valid module has
unfoldable pub valid_text : Module → List ℕ
valid_text m = codes "valid " ++ code_text m ++ other_text m ++ codes "\n"

abbrev pub counted : Module → Outcome
counted m = ended status.Done (valid_text m)
