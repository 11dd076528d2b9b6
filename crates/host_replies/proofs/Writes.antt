-- A write is read from the word that it is written as.
use Rattle.std.proofs.Common.{◌≡◌, ℕ, ◌+◌, ◌*◌, ◌^◌, ◌<◌, ◌≤◌, false, List, [], ◌∷◌, ◌++◌, length, take, drop, refl, ap, ◌∙◌, append_assoc, arith, Some}
use Rattle.std.specs.Prelude.{◌==◌, All, position}
use Rattle.std.specs.List.{position_or_len}
use Rattle.std.specs.Fmt.{decimal}
use Rattle.std.proofs.Math.Seq.{take-append_seam, drop-append-add}
use Rattle.std.proofs.lemmas.Bool.{le-leb, lt-ltb, ne_eqb}
use Rattle.std.proofs.lemmas.Fmt.{length-decimal-le}
use Rattle.std.proofs.lemmas.List.{length-append}
use Rattle.std.proofs.lemmas.List.Elements.{All-append, All-cons, All-nil, All-head, All-tail, All-weaker}
use Rattle.hex.specs.Hex.{IsBytes, encode_lower, lower_digits}
use Rattle.hex.proofs.HexLemmas.{decode_of-encode_lower, length-encode_with}
use Rattle.pm_text.proofs.NumberLaws.{decimal_back}
use Rattle.wasm_syntax.specs.declared.host.Write.{Write}
use Rattle.host_replies.specs.Replies.{address, pairs, write_word}
use Rattle.host_replies.specs.Record.{IsWriteTyped, write_text}
use Rattle.host_replies.proofs.RecordWords.{InWord, IsDigit, decimal_digits, digits_in_word, pairs_in_word, word_is_text}

-- ---- the two sides

address_back : (at : ℕ) → at < 2 ^ 32 → address (decimal at) ≡ Some at
unfolding address
address_back at fits =
    let short : length (decimal at) ≤ 10 = length-decimal-le 10 at (omega arith) (omega arith) (omega arith) in
    rw (le-leb (length (decimal at)) 10 short, word_is_text (decimal at) (digits_in_word (decimal at) (decimal_digits at (omega arith))), decimal_back at (omega arith), lt-ltb at (2 ^ 32) fits) refl

pairs_back : (bytes : List ℕ) → 0 < length bytes → IsBytes bytes → pairs (encode_lower bytes) ≡ Some bytes
unfolding pairs
pairs_back bytes some are =
    let long : length (encode_lower bytes) ≡ 2 * length bytes = length-encode_with lower_digits bytes in
    rw (ne_eqb (length (encode_lower bytes)) 0 (λ e. omega arith), decode_of-encode_lower bytes are) refl

-- ---- the word

abbrev IsMark : ℕ → Type 0
IsMark b = (b == 61) ≡ false

first_mark : (ds rest : List ℕ) → All IsMark ds → position_or_len (λ b. b == 61) (ds ++ 61 ∷ rest) ≡ length ds
first_mark [] rest h = refl
first_mark (d ∷ ds) rest h = let no : IsMark d = All-head IsMark d ds h in rw no (omega (arith, first_mark ds rest (All-tail IsMark d ds h)))

mark_at : (ds rest : List ℕ) → All IsMark ds → position (λ b. b == 61) (ds ++ 61 ∷ rest) ≡ Some (length ds)
mark_at ds rest h = rw (first_mark ds rest h, lt-ltb (length ds) (length (ds ++ 61 ∷ rest)) (omega (arith, length-append ds (61 ∷ rest)))) refl

sides_back : (word ds hex bytes : List ℕ) (middle at : ℕ) → position (λ b. b == 61) word ≡ Some middle → take middle word ≡ ds → drop (middle + 1) word ≡ hex → address ds ≡ Some at → pairs hex ≡ Some bytes
    → (let read : Write = record { at = at; bytes = bytes } in write_word word ≡ Some read)
unfolding write_word
sides_back word ds hex bytes middle at found front back a p = rw (found, front, back, a, p) refl

grouped : (w : Write) → write_text w ≡ decimal w.at ++ 61 ∷ encode_lower w.bytes
grouped w = append_assoc (decimal w.at) (61 ∷ []) (encode_lower w.bytes)

pub write_back : (w : Write) → 0 < length w.bytes → IsWriteTyped w → write_word (write_text w) ≡ Some w
write_back w some typed =
    let small : w.at < 2 ^ 32 = typed.at in
    let digits : All IsDigit (decimal w.at) = decimal_digits w.at (omega arith) in
    let no_mark : All IsMark (decimal w.at) = All-weaker IsDigit IsMark (λ b d. ne_eqb b 61 (λ e. omega arith)) (decimal w.at) digits in
    ap write_word (grouped w)
    ∙ sides_back (decimal w.at ++ 61 ∷ encode_lower w.bytes) (decimal w.at) (encode_lower w.bytes) w.bytes (length (decimal w.at)) w.at
    (mark_at (decimal w.at) (encode_lower w.bytes) no_mark)
    (take-append_seam (decimal w.at) (61 ∷ encode_lower w.bytes))
    (drop-append-add (decimal w.at) (61 ∷ encode_lower w.bytes) 1)
    (address_back w.at small)
    (pairs_back w.bytes some typed.bytes)

pub write_in_word : (w : Write) → IsWriteTyped w → All InWord (write_text w)
write_in_word w typed =
    let small : w.at < 2 ^ 32 = typed.at in
    All-append InWord (decimal w.at ++ 61 ∷ []) (encode_lower w.bytes)
    (All-append InWord (decimal w.at) (61 ∷ []) (digits_in_word (decimal w.at) (decimal_digits w.at (omega arith))) (All-cons InWord 61 [] (omega arith, omega arith) (All-nil InWord)))
    (pairs_in_word w.bytes typed.bytes)

pub write_some : (w : Write) → 0 < length (write_text w)
write_some w = omega (arith, ap length (grouped w), length-append (decimal w.at) (61 ∷ encode_lower w.bytes))
