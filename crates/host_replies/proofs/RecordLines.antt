-- A record is read line by line as its replies.
use Rattle.std.proofs.Common.{◌≡◌, ℕ, zero, suc, ◌+◌, ◌-◌, ◌<◌, Bool, true, false, List, [], ◌∷◌, ◌++◌, length, map, refl, ap, ◌∙◌, append_assoc, arith, Option, Some, Ok}
use Rattle.std.specs.Prelude.{◌==◌, All, Result, not, slice_index}
use Rattle.std.specs.List.{filter, flat_map, slice_split}
use Rattle.std.specs.Str.Lines.{lines_of_parts, strip_carriage_return}
use Rattle.std.proofs.lemmas.Bool.{ne_eqb}
use Rattle.std.proofs.lemmas.List.{append-nil}
use Rattle.std.proofs.lemmas.List.Elements.{All-append, All-cons, All-nil, All-head, All-tail, All-weaker, All-get_or}
use Rattle.std.proofs.lemmas.List.Splits.{slice_split_at, slice_split_none}
use Rattle.wasm_syntax.specs.declared.value.Value.{Value}
use Rattle.wasm_syntax.specs.declared.host.Reply.{Reply}
use Rattle.wasm_syntax.specs.declared.host.Write.{Write}
use Rattle.host_replies.specs.Replies.{first_word, line_reply, one_more, reply_of, replies_from, then_replies, with_writes, writes_of}
use Rattle.host_replies.proofs.Lines.{line_next, lines_next, no_lines, some_parts, word_next}
use Rattle.host_replies.specs.Record.{IsReplyTyped, IsWriteTyped, behind_space, has_bytes, record_text, reply_line, value_word, without_empty, write_text}
use Rattle.host_replies.proofs.RecordWords.{InWord, no_spaces}
use Rattle.host_replies.proofs.Values.{IsFirst, value_first}
use Rattle.host_replies.proofs.Writes.{write_back, write_in_word, write_some}

-- what is known of a write that may be left out
abbrev IsKept : Write → Type 0
IsKept w = 0 < length w.bytes → IsWriteTyped w

positive : (n : ℕ) → not (n == 0) ≡ true → 0 < n
positive zero h = absurd cc
positive (suc n) h = omega arith

some_bytes : (w : Write) → has_bytes w ≡ true → 0 < length w.bytes
some_bytes w h = positive (length w.bytes) h

-- ---- the words of a line

shown : (w : Write) → has_bytes w ≡ true → behind_space w ≡ 32 ∷ write_text w
unfolding behind_space
shown w h = rw h refl

left_out : (w : Write) → has_bytes w ≡ false → behind_space w ≡ []
unfolding behind_space
left_out w h = rw h refl

abbrev HasWords : List ℕ → List Write → Type 0
HasWords word ws = slice_split (λ c. c == 32) (word ++ flat_map behind_space ws) ≡ word ∷ map write_text (filter has_bytes ws)

next_word : (word : List ℕ) (w : Write) (ws : List Write) (b : Bool) → has_bytes w ≡ b → ((other : List ℕ) → All InWord other → HasWords other ws) → All InWord word → IsKept w → HasWords word (w ∷ ws)
next_word word w ws true e more here kept =
    rw (shown w e, e) (slice_split_at (λ c. c == 32) word 32 (write_text w ++ flat_map behind_space ws) (no_spaces word here) refl
    ∙ ap (λ (ps : List (List ℕ)). word ∷ ps) (more (write_text w) (write_in_word w (kept (some_bytes w e)))))
next_word word w ws false e more here kept = rw (left_out w e, e) (more word here)

words_of : (ws : List Write) → All IsKept ws → (word : List ℕ) → All InWord word → HasWords word ws
words_of [] kept word here = ap (slice_split (λ c. c == 32)) (append-nil word) ∙ slice_split_none (λ c. c == 32) word (no_spaces word here)
words_of (w ∷ ws) kept word here = next_word word w ws (has_bytes w) refl (words_of ws (All-tail IsKept w ws kept)) here (All-head IsKept w ws kept)

no_writes : writes_of [] ≡ Some []
unfolding writes_of
no_writes = refl

abbrev AreRead : List Write → Type 0
AreRead ws = writes_of (map write_text (filter has_bytes ws)) ≡ Some (filter has_bytes ws)

next_read : (w : Write) (ws : List Write) (b : Bool) → has_bytes w ≡ b → AreRead ws → IsKept w → AreRead (w ∷ ws)
next_read w ws true e more kept =
    let some = some_bytes w e in
    rw e (word_next (write_text w) (map write_text (filter has_bytes ws)) (λ none. absurd (omega (arith, write_some w)))
    ∙ ap (λ (o : Option Write). one_more o (writes_of (map write_text (filter has_bytes ws)))) (write_back w some (kept some))
    ∙ ap (one_more (Some w)) more)
next_read w ws false e more kept = rw e more

writes_back : (ws : List Write) → All IsKept ws → AreRead ws
writes_back [] kept = no_writes
writes_back (w ∷ ws) kept = next_read w ws (has_bytes w) refl (writes_back ws (All-tail IsKept w ws kept)) (All-head IsKept w ws kept)

-- ---- a line

-- the line of a reply, without its end
abbrev pub reply_text : Reply → List ℕ
reply_text r = value_word r.value ++ flat_map behind_space r.writes

said : (word rest : List ℕ) (b : ℕ) (bs : List ℕ) → word ≡ b ∷ bs → (b == 35) ≡ false → line_reply (word ++ rest) ≡ reply_of (slice_split (λ c. c == 32) (word ++ rest))
unfolding line_reply
said word rest b bs is plain = rw is (rw plain refl)

line_back : (r : Reply) → IsReplyTyped r → line_reply (reply_text r) ≡ Some (Some (without_empty r))
line_back r typed =
    let first : IsFirst r.value (value_word r.value) = value_first r.value typed.value in
    said (value_word r.value) (flat_map behind_space r.writes) first.first first.others first.begins first.no_comment
    ∙ ap reply_of (words_of r.writes typed.writes (value_word r.value) first.in_word)
    ∙ read (first_word (value_word r.value)) (writes_of (map write_text (filter has_bytes r.writes))) first.back (writes_back r.writes typed.writes)
  where
    read : (v : Option (Option Value)) (ws : Option (List Write)) → v ≡ Some r.value → ws ≡ Some (filter has_bytes r.writes) → with_writes v ws ≡ Some (Some (without_empty r))
    read v ws is are = rw (is, are) refl

-- ---- lines

abbrev OnLine : ℕ → Type 0
OnLine b = 31 < b

next_on_line : (w : Write) (ws : List Write) (b : Bool) → has_bytes w ≡ b → All OnLine (flat_map behind_space ws) → IsKept w → All OnLine (flat_map behind_space (w ∷ ws))
next_on_line w ws true e more kept =
    rw (shown w e) (All-append OnLine (32 ∷ write_text w) (flat_map behind_space ws)
    (All-cons OnLine 32 (write_text w) (omega arith) (All-weaker InWord OnLine (λ b d. omega arith) (write_text w) (write_in_word w (kept (some_bytes w e)))))
    more)
next_on_line w ws false e more kept = rw (left_out w e) more

writes_on_line : (ws : List Write) → All IsKept ws → All OnLine (flat_map behind_space ws)
writes_on_line [] kept = All-nil OnLine
writes_on_line (w ∷ ws) kept = next_on_line w ws (has_bytes w) refl (writes_on_line ws (All-tail IsKept w ws kept)) (All-head IsKept w ws kept)

on_line : (r : Reply) → IsReplyTyped r → All OnLine (reply_text r)
on_line r typed =
    let first : IsFirst r.value (value_word r.value) = value_first r.value typed.value in
    All-append OnLine (value_word r.value) (flat_map behind_space r.writes) (All-weaker InWord OnLine (λ b d. omega arith) (value_word r.value) first.in_word) (writes_on_line r.writes typed.writes)

no_return : (line : List ℕ) → All OnLine line → strip_carriage_return line ≡ line
no_return [] h = refl
no_return (b ∷ bs) h =
    let last : 31 < slice_index (b ∷ bs) (length (b ∷ bs) - 1) = All-get_or OnLine (b ∷ bs) (length (b ∷ bs) - 1) 0 (omega arith) h in
    rw (ne_eqb (slice_index (b ∷ bs) (length (b ∷ bs) - 1)) 13 (λ e. omega arith)) refl

line_ends : (r : Reply) (more : List ℕ) → reply_line r ++ more ≡ reply_text r ++ 10 ∷ more
unfolding reply_line
line_ends r more = append_assoc (reply_text r) (10 ∷ []) more

next_line : (r : Reply) (more : List ℕ) → IsReplyTyped r → slice_split (λ b. b == 10) (reply_line r ++ more) ≡ reply_text r ∷ slice_split (λ b. b == 10) more
next_line r more typed =
    ap (slice_split (λ b. b == 10)) (line_ends r more)
    ∙ slice_split_at (λ b. b == 10) (reply_text r) 10 more (All-weaker OnLine (λ b. (b == 10) ≡ false) (λ b d. ne_eqb b 10 (λ e. omega arith)) (reply_text r) (on_line r typed)) refl

lines_back : (rs : List Reply) → All IsReplyTyped rs → lines_of_parts (slice_split (λ b. b == 10) (record_text rs)) ≡ map reply_text rs
lines_back [] typed = refl
lines_back (r ∷ rs) typed =
    ap lines_of_parts (next_line r (record_text rs) (All-head IsReplyTyped r rs typed))
    ∙ lines_next (reply_text r) (slice_split (λ b. b == 10) (record_text rs)) (some_parts (λ b. b == 10) (record_text rs))
    ∙ ap (λ (l : List ℕ). l ∷ lines_of_parts (slice_split (λ b. b == 10) (record_text rs))) (no_return (reply_text r) (on_line r (All-head IsReplyTyped r rs typed)))
    ∙ ap (λ (ls : List (List ℕ)). reply_text r ∷ ls) (lines_back rs (All-tail IsReplyTyped r rs typed))

replies_back : (number : ℕ) (rs : List Reply) → All IsReplyTyped rs → (let read : Result (List Reply) ℕ = Ok (map without_empty rs) in replies_from number (map reply_text rs) ≡ read)
replies_back number [] typed = no_lines number
replies_back number (r ∷ rs) typed =
    line_next number (reply_text r) (map reply_text rs)
    ∙ then_back (line_reply (reply_text r)) (replies_from (number + 1) (map reply_text rs)) (line_back r (All-head IsReplyTyped r rs typed)) (replies_back (number + 1) rs (All-tail IsReplyTyped r rs typed))
  where
    then_back : (said : Option (Option Reply)) (more : Result (List Reply) ℕ) → said ≡ Some (Some (without_empty r)) → (let read : Result (List Reply) ℕ = Ok (map without_empty rs) in more ≡ read) → (let all : Result (List Reply) ℕ = Ok (map without_empty (r ∷ rs)) in then_replies number said more ≡ all)
    then_back said more is are = rw (is, are) refl

pub record_back : (rs : List Reply) → All IsReplyTyped rs → (let read : Result (List Reply) ℕ = Ok (map without_empty rs) in replies_from 1 (lines_of_parts (slice_split (λ b. b == 10) (record_text rs))) ≡ read)
record_back rs typed = ap (replies_from 1) (lines_back rs typed) ∙ replies_back 1 rs typed
