-- Marks: their order and their texts.
use Rattle.std.specs.Prelude.{ℕ, nat_le, List, if◌then◌else◌, codes}
use Rattle.var_values.specs.declared.mark.Mark.{Mark}
use Rattle.var_values.specs.declared.mark.Mark.TheVariants.{TypeTooDeep, UnsupportedType, OptimisedOut, NotRecorded, OutsideMemory, UnsupportedExpression, BadExpression, ExpressionTooDeep, OutsideArray}

abbrev pub rank : Mark → ℕ
rank TypeTooDeep = 0
rank UnsupportedType = 1
rank OptimisedOut = 2
rank NotRecorded = 3
rank OutsideMemory = 4
rank UnsupportedExpression = 5
rank BadExpression = 6
rank ExpressionTooDeep = 7
rank OutsideArray = 8

unfoldable pub mark_text : Mark → List ℕ
mark_text TypeTooDeep = codes "<type too deep>"
mark_text UnsupportedType = codes "<unsupported type>"
mark_text OptimisedOut = codes "<optimised out>"
mark_text NotRecorded = codes "<not recorded>"
mark_text OutsideMemory = codes "<outside memory>"
mark_text UnsupportedExpression = codes "<unsupported expression>"
mark_text BadExpression = codes "<bad expression>"
mark_text ExpressionTooDeep = codes "<expression too deep>"
mark_text OutsideArray = codes "<outside array>"

-- the one of two marks that counts: the first in the order
abbrev pub first_mark : Mark → Mark → Mark
first_mark a b = if nat_le (rank a) (rank b) then a else b
