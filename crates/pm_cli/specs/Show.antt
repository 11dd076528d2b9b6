-- The lines that show a dump.
use Rattle.std.specs.Prelude.{ℕ, List, [], ◌∷◌, ◌++◌, length, Option, Some, None, codes}
use Rattle.std.specs.List.{flat_map}
use Rattle.std.specs.Fmt.{decimal}
use Rattle.pm_text.specs.Names.{quoted}
use Rattle.wasm_syntax.specs.declared.value.Value.{Value}
use Rattle.wasm_syntax.specs.declared.value.Value.TheVariants as value
use Rattle.wasm_syntax.specs.declared.value.Seen.{Seen}
use Rattle.wasm_syntax.specs.declared.value.Seen.TheVariants as seen
use Rattle.dump_format.specs.declared.dump.Frame.{Frame}
use Rattle.dump_format.specs.declared.dump.Dump.{Dump}
use Rattle.commands.specs.Values.{value_text, numbered}

abbrev pub seen_text : Seen → List ℕ
seen_text (seen.I32 n) = value_text (value.I32 n)
seen_text (seen.I64 n) = value_text (value.I64 n)
seen_text seen.Missing = codes "?"

-- values between single spaces, or a dash
unfoldable pub values_text : List Seen → List ℕ
values_text [] = codes "-"
values_text (v ∷ vs) = seen_text v ++ flat_map (λ w. codes " " ++ seen_text w) vs

unfoldable pub place_text : ℕ → Frame → List ℕ
place_text i f = codes "#" ++ decimal i ++ codes " instance " ++ decimal f.instance ++ codes " function " ++ decimal f.function ++ codes " offset " ++ decimal f.offset

unfoldable pub frame_text : ℕ → Frame → List ℕ
frame_text i f = place_text i f ++ codes " locals " ++ values_text f.locals ++ codes " operands " ++ values_text f.operands ++ codes "\n"

unfoldable pub global_text : ℕ → Value → List ℕ
global_text i v = codes "global " ++ decimal i ++ codes " " ++ value_text v ++ codes "\n"

abbrev pub memory_text : Option ℕ → List ℕ
memory_text None = []
memory_text (Some pages) = codes "memory " ++ decimal pages ++ codes "\n"

unfoldable pub head_text : Dump → List ℕ
head_text d = codes "dump " ++ quoted d.name ++ codes " frames " ++ decimal (length d.frames) ++ codes "\n"

unfoldable pub show_text : Dump → List ℕ
show_text d = head_text d ++ numbered frame_text 0 d.frames ++ memory_text d.memory ++ numbered global_text 0 d.globals
