-- What commands say of a trap and of a result.
use Rattle.std.specs.Prelude.{ℕ, ◌==◌, List, [], ◌++◌, Option, Some, None, if◌then◌else◌, codes}
use Rattle.std.specs.Fmt.{decimal}
use Rattle.wasm_syntax.specs.declared.value.Value.{Value}
use Rattle.commands.specs.Values.{value_text}

abbrev pub kind_text : ℕ → List ℕ
kind_text kind =
    if kind == 1 then codes "unreachable" else
    if kind == 2 then codes "integer divide by zero" else
    if kind == 3 then codes "integer overflow" else
    if kind == 4 then codes "out of bounds memory access" else
    if kind == 5 then codes "undefined element" else
    if kind == 6 then codes "uninitialized element" else
    if kind == 7 then codes "indirect call type mismatch" else
    if kind == 8 then codes "call stack exhausted" else []

unfoldable pub kind_line : ℕ → List ℕ
kind_line kind = codes "trap " ++ decimal kind ++ codes " " ++ kind_text kind ++ codes "\n"

abbrev pub result_text : Option Value → List ℕ
result_text None = []
result_text (Some v) = codes " " ++ value_text v
