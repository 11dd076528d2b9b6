-- Files of replies. A line that is empty or begins with `#` is skipped. Any other one is `none`, or a value such as `i32:-1`, and
-- then writes such as `16=01ff`, behind one or more spaces each.
use Rattle.std.specs.Prelude.{◌≡◌, ℕ, ◌+◌, ◌&&◌, ◌==◌, nat_lt, nat_le, List, [], ◌∷◌, ◌++◌, length, take, drop, Option, Some, None, Result, Ok, Err, if◌then◌else◌, codes, bytes_eq, position, option_and_then, option_to_list, option_map}
use Rattle.std.specs.List.{slice_split}
use Rattle.std.specs.Option.{option_map}
use Rattle.std.specs.Result.{result_ok}
use Rattle.std.specs.Str.{is_utf8}
use Rattle.std.specs.Str.Lines.{lines}
use Rattle.hex.specs.Hex.{decode_of}
use Rattle.pm_text.specs.Numbers.{decimal_value, number_value, positive_bits}
use Rattle.pm_text.specs.declared.numbers.Number.{Number}
use Rattle.wasm_syntax.specs.declared.value.Value.{Value}
use Rattle.wasm_syntax.specs.declared.value.Value.TheVariants as values
use Rattle.wasm_syntax.specs.declared.host.Reply.{Reply}
use Rattle.wasm_syntax.specs.declared.host.Write.{Write}
use Rattle.host_replies.specs.declared.replies.ReplyFault.{ReplyFault}
use Rattle.host_replies.specs.declared.replies.ReplyFault.TheVariants.{Line, NoMemory}
use Rattle.host_replies.specs.declared.words.LineFault.{LineFault}
use Rattle.host_replies.specs.declared.words.LineFault.TheVariants as faults

-- ---- words

-- a number of 32 or 64 bits as a value
abbrev pub typed : Number → Value
typed n = if n.wide then values.I64 n.bits else values.I32 (n.bits)

-- `none`, or a value
unfoldable pub first_word : List ℕ → Option (Option Value)
first_word word =
    if bytes_eq word (codes "none") then Some None
    else (if is_utf8 word then option_map (λ n. Some (typed n)) (number_value word) else None)

-- an address: 1 to 10 decimal digits
unfoldable pub address : List ℕ → Option ℕ
address digits = if nat_le (length digits) 10 && is_utf8 digits then option_and_then (positive_bits 32) (decimal_value digits) else None

-- one or more pairs of hexadecimal digits
unfoldable pub pairs : List ℕ → Option (List ℕ)
pairs digits = if length digits == 0 then None else result_ok (decode_of digits)

abbrev pub with_pairs : ℕ → Option (List ℕ) → Option Write
with_pairs at o = option_map (λ bytes. record { at = at; bytes = bytes }) o

abbrev pub with_address : Option ℕ → List ℕ → Option Write
with_address (Some at) digits = with_pairs at (pairs digits)
with_address None digits = None

-- an address and its bytes, on the two sides of the first `=`
abbrev pub sides : List ℕ → Option ℕ → Option Write
sides word (Some middle) = with_address (address (take middle word)) (drop (middle + 1) word)
sides word None = None

unfoldable pub write_word : List ℕ → Option Write
write_word word = sides word (position (λ b. b == 61) word)

-- ---- lines

abbrev pub one_more : {A : Type 0} → Option A → Option (List A) → Option (List A)
one_more (Some x) (Some xs) = Some (x ∷ xs)
one_more _ _ = None

-- the writes in the parts between spaces; an empty part before another one stands between two spaces
unfoldable pub writes_of : List (List ℕ) → Option (List Write)
writes_of [] = Some []
writes_of (part ∷ parts) = if length part == 0 && nat_lt 0 (length parts) then writes_of parts else one_more (write_word part) (writes_of parts)

abbrev pub with_writes : Option (Option Value) → Option (List Write) → Option (Option Reply)
with_writes (Some v) (Some ws) = Some (Some (record { value = v; writes = ws }))
with_writes _ _ = None

abbrev pub reply_of : List (List ℕ) → Option (Option Reply)
reply_of [] = None
reply_of (part ∷ parts) = with_writes (first_word part) (writes_of parts)

-- what a line says: nothing, or a reply, or it is outside the grammar
unfoldable pub line_reply : List ℕ → Option (Option Reply)
line_reply [] = Some None
line_reply (b ∷ bs) = if b == 35 then Some None else reply_of (slice_split (λ c. c == 32) (b ∷ bs))

-- ---- files

abbrev pub in_front : Option Reply → Result (List Reply) ℕ → Result (List Reply) ℕ
in_front None replies = replies
in_front (Some r) (Ok rs) = Ok (r ∷ rs)
in_front (Some r) (Err n) = Err n

-- a line's reply before those of the lines behind it, where the line with that number is in the grammar
abbrev pub then_replies : ℕ → Option (Option Reply) → Result (List Reply) ℕ → Result (List Reply) ℕ
then_replies number None replies = Err number
then_replies number (Some said) replies = in_front said replies

-- the replies of these lines, of which the first has that number, or the number of the first line outside the grammar
unfoldable pub replies_from : ℕ → List (List ℕ) → Result (List Reply) ℕ
replies_from number [] = Ok []
replies_from number (line ∷ more) = then_replies number (line_reply line) (replies_from (number + 1) more)

abbrev pub file_replies : List ℕ → Result (List Reply) ℕ
file_replies bytes = replies_from 1 (lines bytes)

-- A function answered that, or memory ran out.
abbrev pub Reads : Result (List Reply) ReplyFault → Result (List Reply) ℕ → Type 0
Reads (Ok rs) read = read ≡ Ok rs
Reads (Err (Line n)) read = read ≡ Err n
Reads (Err NoMemory) read = Unit {0}

abbrev pub Gives : {A : Type 0} → Result A LineFault → Option A → Type 0
Gives (Ok x) said = said ≡ Some x
Gives (Err faults.Outside) said = said ≡ None
Gives (Err faults.NoMemory) said = Unit {0}

-- A line was read: its reply, if it has one, is added, or it is outside the grammar and has that number, or memory ran out.
abbrev pub AddsLine : Result (Unit {0}) ReplyFault → ℕ → Option (Option Reply) → List Reply → List Reply → Type 0
AddsLine (Ok u) number said old new = (added : Option Reply) × (said ≡ Some added) × (new ≡ old ++ option_to_list added)
AddsLine (Err (Line n)) number said old new = (n ≡ number) × (said ≡ None)
AddsLine (Err NoMemory) number said old new = Unit {0}
