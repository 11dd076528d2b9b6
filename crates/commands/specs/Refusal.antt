-- Why a module that the bytes spell is not taken.
use Rattle.std.specs.Prelude.{◌≡◌, ℕ, List, ◌++◌, codes, ◌⊎◌}
use Rattle.std.specs.Fmt.{decimal}
use Rattle.wasm_syntax.specs.declared.quantity.Quantity.TheVariants.{Height}
use Rattle.wasm_syntax.specs.declared.module.ModuleParts.{ModuleParts as Module}
use Rattle.wasm_syntax.specs.declared.place.Place.{Place}
use Rattle.wasm_syntax.specs.declared.place.Place.TheVariants.{TypeAt, ImportAt, Declaration, TableAt, MemoryAt, GlobalAt, ExportAt, Start, ElementAt, DataAt, Function}
use Rattle.wasm_syntax.specs.Valid.{Valid, FirstInvalid}
use Rattle.wasm_validate.specs.Heights.{AllLow, FirstHigh}
use Rattle.commands.specs.Texts.{ended, over_limit}
use Rattle.commands.specs.declared.outcome.Outcome.{Outcome}
use Rattle.commands.specs.declared.status.Status.TheVariants as status

unfoldable pub place_name : Place → List ℕ
place_name (TypeAt i) = codes "type " ++ decimal i
place_name (ImportAt i) = codes "import " ++ decimal i
place_name (Declaration f) = codes "declaration " ++ decimal f
place_name (TableAt i) = codes "table " ++ decimal i
place_name (MemoryAt i) = codes "memory " ++ decimal i
place_name (GlobalAt i) = codes "global " ++ decimal i
place_name (ExportAt i) = codes "export " ++ decimal i
place_name Start = codes "start"
place_name (ElementAt i) = codes "element " ++ decimal i
place_name (DataAt i) = codes "data " ++ decimal i
place_name (Function f offset) = codes "function " ++ decimal f ++ codes " offset " ++ decimal offset

abbrev pub invalid : Place → Outcome
invalid place = ended status.Invalid (codes "invalid: " ++ place_name place ++ codes "\n")

-- why a module is not taken: its first place that is not valid, or the greatest operand height of its first function with too many operands
abbrev pub IsRefusal : Module → Outcome → Type 0
IsRefusal m o =
    ((place : Place) × FirstInvalid m place × (o ≡ invalid place))
    ⊎ (Valid m × ((count : ℕ) × FirstHigh m count × (o ≡ over_limit Height count)))

-- a module is not taken, or it is valid with no more operands than may be, and what comes behind says what is answered
abbrev pub IfValid : (Module → Outcome → Type 0) → Module → Outcome → Type 0
IfValid Answers m o = IsRefusal m o ⊎ (Valid m × AllLow m × Answers m o)
