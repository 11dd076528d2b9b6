-- Numbers of up to 17 bytes in two parts.
use Rattle.std.specs.Prelude.{ℕ, ◌+◌, ◌*◌, Result}
use Rattle.var_values.specs.declared.mark.Mark.{Mark}
use Rattle.var_values.specs.Scalars.{result_map}
use Rattle.var_values.specs.declared.word.Wide.{Wide}

abbrev pub value : Wide → ℕ
value w = w.first + 256 * w.rest

abbrev pub number : Result Wide Mark → Result ℕ Mark
number r = result_map value r
