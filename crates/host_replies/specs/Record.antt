-- The record of a run: a file of replies with a line for each reply, in order. A line is `none`, or the value of the reply, and behind it
-- each write that has bytes, such as ` 16=01ff`.
use Rattle.std.specs.Prelude.{ℕ, ◌<◌, ◌^◌, ◌==◌, Bool, not, List, [], ◌++◌, All, length, Option, Some, None, IfSome, if◌then◌else◌, codes}
use Rattle.std.specs.List.{filter, flat_map}
use Rattle.std.specs.Fmt.{decimal}
use Rattle.hex.specs.Hex.{IsBytes, encode_lower}
use Rattle.wasm_syntax.specs.declared.value.Value.{Value}
use Rattle.wasm_syntax.specs.declared.host.Reply.{Reply}
use Rattle.wasm_syntax.specs.declared.host.Write.{Write}
use Rattle.wasm_syntax.specs.Numbers.{IsValue}
use Rattle.commands.specs.Values.{value_text}

abbrev pub value_word : Option Value → List ℕ
value_word None = codes "none"
value_word (Some v) = value_text v

-- an address in decimal digits, and bytes in pairs of lower-case digits
abbrev pub write_text : Write → List ℕ
write_text w = decimal w.at ++ codes "=" ++ encode_lower w.bytes

abbrev pub has_bytes : Write → Bool
has_bytes w = not (length w.bytes == 0)

-- a write behind a space, where it has bytes
unfoldable pub behind_space : Write → List ℕ
behind_space w = if has_bytes w then codes " " ++ write_text w else []

unfoldable pub reply_line : Reply → List ℕ
reply_line r = value_word r.value ++ flat_map behind_space r.writes ++ codes "\n"

abbrev pub record_text : List Reply → List ℕ
record_text replies = flat_map reply_line replies

-- ---- what is read back

-- a reply without its writes of no bytes
abbrev pub without_empty : Reply → Reply
without_empty r = record { value = r.value; writes = filter has_bytes r.writes }

-- What the types of a reply say of its numbers. A write of no bytes is not recorded.
pub record IsWriteTyped (w : Write) : Type 0 where
  pub at : w.at < 2 ^ 32
  pub bytes : IsBytes w.bytes

pub record IsReplyTyped (r : Reply) : Type 0 where
  pub value : IfSome r.value IsValue
  pub writes : All (λ w. 0 < length w.bytes → IsWriteTyped w) r.writes
