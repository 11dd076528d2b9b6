-- Writes and lines that are read one after another.
use Rattle.std.proofs.Common.{◌≡◌, ℕ, ◌+◌, ◌<◌, Bool, false, List, [], ◌∷◌, ◌++◌, length, refl, sym, ap, ◌∙◌, arith, append_assoc, Option, Some, None, Ok, Err}
use Rattle.std.specs.Prelude.{◌==◌, ◌&&◌, nat_lt, option_to_list, Result}
use Rattle.std.specs.List.{slice_split}
use Rattle.std.specs.Str.Lines.{lines_of_parts, strip_carriage_return}
use Rattle.std.proofs.Math.Dec.{eqb-suc-zero}
use Rattle.std.proofs.lemmas.Bool.{lt-ltb, le-ltb}
use Rattle.std.proofs.lemmas.List.{append-nil}
use Rattle.std.proofs.lemmas.List.Splits.{length-slice_split}
use Rattle.wasm_syntax.specs.declared.host.Reply.{Reply}
use Rattle.wasm_syntax.specs.declared.host.Write.{Write}
use Rattle.host_replies.specs.declared.words.LineFault.{LineFault}
use Rattle.host_replies.specs.declared.words.LineFault.TheVariants as faults
use Rattle.host_replies.specs.declared.replies.ReplyFault.{ReplyFault}
use Rattle.host_replies.specs.declared.replies.ReplyFault.TheVariants.{Line, NoMemory}
use Rattle.host_replies.specs.Replies.{write_word, one_more, writes_of, line_reply, then_replies, replies_from, Gives, Reads, AddsLine}

-- ---- writes

-- writes that were read, in front of those to come
abbrev pub before_writes : List Write → Option (List Write) → Option (List Write)
before_writes ws (Some more) = Some (ws ++ more)
before_writes ws None = None

no_gap : (part : List ℕ) (parts : List (List ℕ)) → (length part ≡ 0 → length parts ≡ 0) → (length part == 0 && nat_lt 0 (length parts)) ≡ false
no_gap [] parts none = le-ltb 0 (length parts) (omega (arith, none refl))
no_gap (b ∷ bs) parts none = ap (λ (c : Bool). c && nat_lt 0 (length parts)) (eqb-suc-zero (length bs))

pub word_next : (part : List ℕ) (parts : List (List ℕ)) → (length part ≡ 0 → length parts ≡ 0) → writes_of (part ∷ parts) ≡ one_more (write_word part) (writes_of parts)
unfolding writes_of
word_next part parts none = rw (no_gap part parts none) refl

pub gap_next : (part : List ℕ) (parts : List (List ℕ)) → length part ≡ 0 → 0 < length parts → writes_of (part ∷ parts) ≡ writes_of parts
unfolding writes_of
gap_next [] parts none more = rw (lt-ltb 0 (length parts) more) refl
gap_next (b ∷ bs) parts none more = absurd (omega (arith, none))

pub first_writes : (next : Option (List Write)) → next ≡ before_writes [] next
first_writes (Some ws) = refl
first_writes None = refl

-- a write more was read
pub write_more : (all next : Option (List Write)) (ws : List Write) (w : Write) (rest : Option (List Write)) → all ≡ before_writes ws next → next ≡ one_more (Some w) rest → all ≡ before_writes (ws ++ w ∷ []) rest
write_more all next ws w (Some more) so_far is = so_far ∙ ap (before_writes ws) is ∙ ap Some (sym (append_assoc ws (w ∷ []) more))
write_more all next ws w None so_far is = so_far ∙ ap (before_writes ws) is

pub write_refused : (all next : Option (List Write)) (ws : List Write) (word : Option Write) (rest : Option (List Write)) → all ≡ before_writes ws next → next ≡ one_more word rest → word ≡ None → all ≡ None
write_refused all next ws (Some w) rest so_far is none = cc
write_refused all next ws None rest so_far is none = so_far ∙ ap (before_writes ws) is

-- a part more was a write
pub write_added : (all : Option (List Write)) (ws : List Write) (part : List ℕ) (parts here : List (List ℕ)) (w : Write) → all ≡ before_writes ws (writes_of here) → here ≡ part ∷ parts → (length part ≡ 0 → length parts ≡ 0)
    → write_word part ≡ Some w → all ≡ before_writes (ws ++ w ∷ []) (writes_of parts)
write_added all ws part parts here w so_far is alone word =
    write_more all (writes_of here) ws w (writes_of parts) so_far (ap writes_of is ∙ word_next part parts alone ∙ ap (λ (o : Option Write). one_more o (writes_of parts)) word)

-- a part more was empty
pub gap_passed : (all : Option (List Write)) (ws : List Write) (part : List ℕ) (parts here : List (List ℕ)) → all ≡ before_writes ws (writes_of here) → here ≡ part ∷ parts → length part ≡ 0 → 0 < length parts
    → all ≡ before_writes ws (writes_of parts)
gap_passed all ws part parts here so_far is none more = so_far ∙ ap (λ (ps : List (List ℕ)). before_writes ws (writes_of ps)) is ∙ ap (before_writes ws) (gap_next part parts none more)

-- the last part was a write
pub last_added : (all : Option (List Write)) (ws : List Write) (part : List ℕ) (here : List (List ℕ)) (w : Write) → all ≡ before_writes ws (writes_of here) → here ≡ part ∷ [] → write_word part ≡ Some w → all ≡ Some (ws ++ w ∷ [])
unfolding writes_of
last_added all ws part here w so_far is word =
    write_added all ws part [] here w so_far is (λ none. refl) word ∙ ap (λ (xs : List Write). Some xs) (append-nil (ws ++ w ∷ []))

-- a part was no write, or memory ran out
pub write_fails : (all : Option (List Write)) (ws : List Write) (part : List ℕ) (parts here : List (List ℕ)) (e : LineFault) → all ≡ before_writes ws (writes_of here) → here ≡ part ∷ parts → (length part ≡ 0 → length parts ≡ 0)
    → (let word : Result Write LineFault = Err e in Gives word (write_word part)) → (let line : Result (List Write) LineFault = Err e in Gives line all)
write_fails all ws part parts here faults.Outside so_far is alone none = write_refused all (writes_of here) ws (write_word part) (writes_of parts) so_far (ap writes_of is ∙ word_next part parts alone) none
write_fails all ws part parts here faults.NoMemory so_far is alone none = tt

-- ---- lines

-- replies that were read, in front of those to come
abbrev pub before_replies : List Reply → Result (List Reply) ℕ → Result (List Reply) ℕ
before_replies rs (Ok more) = Ok (rs ++ more)
before_replies rs (Err n) = Err n

pub line_next : (number : ℕ) (line : List ℕ) (more : List (List ℕ)) → replies_from number (line ∷ more) ≡ then_replies number (line_reply line) (replies_from (number + 1) more)
unfolding replies_from
line_next number line more = refl

pub no_lines : (number : ℕ) → (let none : Result (List Reply) ℕ = Ok [] in replies_from number [] ≡ none)
unfolding replies_from
no_lines number = refl

pub first_replies : (next : Result (List Reply) ℕ) → next ≡ before_replies [] next
first_replies (Ok rs) = refl
first_replies (Err n) = refl

-- a line more was read
pub reply_more : (all next : Result (List Reply) ℕ) (number : ℕ) (rs : List Reply) (said : Option (Option Reply)) (added : Option Reply) (rest : Result (List Reply) ℕ) → all ≡ before_replies rs next → next ≡ then_replies number said rest → said ≡ Some added → all ≡ before_replies (rs ++ option_to_list added) rest
reply_more all next number rs said None (Ok more) so_far is one = so_far ∙ ap (before_replies rs) (is ∙ ap (λ (s : Option (Option Reply)). then_replies number s (Ok more)) one) ∙ ap (λ (ys : List Reply). Ok (ys ++ more)) (sym (append-nil rs))
reply_more all next number rs said None (Err n) so_far is one = so_far ∙ ap (before_replies rs) (is ∙ ap (λ (s : Option (Option Reply)). then_replies number s (Err n)) one)
reply_more all next number rs said (Some r) (Ok more) so_far is one = so_far ∙ ap (before_replies rs) (is ∙ ap (λ (s : Option (Option Reply)). then_replies number s (Ok more)) one) ∙ ap (λ (ys : List Reply). Ok ys) (sym (append_assoc rs (r ∷ []) more))
reply_more all next number rs said (Some r) (Err n) so_far is one = so_far ∙ ap (before_replies rs) (is ∙ ap (λ (s : Option (Option Reply)). then_replies number s (Err n)) one)

pub line_refused : (all next : Result (List Reply) ℕ) (number : ℕ) (rs : List Reply) (said : Option (Option Reply)) (rest : Result (List Reply) ℕ) → all ≡ before_replies rs next → next ≡ then_replies number said rest → said ≡ None → (let refused : Result (List Reply) ℕ = Err number in all ≡ refused)
line_refused all next number rs said rest so_far is none = so_far ∙ ap (before_replies rs) (is ∙ ap (λ (s : Option (Option Reply)). then_replies number s rest) none)

-- an empty line says nothing
nothing_said : (added : Option Reply) → line_reply [] ≡ Some added → added ≡ None
unfolding line_reply
nothing_said added one = cc

-- a line outside the grammar is not empty
pub wrong_line : (line : List ℕ) → line_reply line ≡ None → 0 < length line
unfolding line_reply
wrong_line [] none = absurd cc
wrong_line (b ∷ bs) none = omega arith

last_parts : (b : ℕ) (bs : List ℕ) → lines_of_parts ((b ∷ bs) ∷ []) ≡ (b ∷ bs) ∷ []
last_parts b bs = rw (eqb-suc-zero (length bs)) refl

-- a line with a line feed behind it
pub lines_next : (part : List ℕ) (parts : List (List ℕ)) → 0 < length parts → lines_of_parts (part ∷ parts) ≡ strip_carriage_return part ∷ lines_of_parts parts
lines_next part [] more = absurd (omega arith)
lines_next part (p ∷ ps) more = refl

-- the parts of bytes are at least one
pub some_parts : (p : ℕ → Bool) (bytes : List ℕ) → 0 < length (slice_split p bytes)
some_parts p bytes = omega (arith, length-slice_split p bytes)

-- the last line was read
pub last_line : (all : Result (List Reply) ℕ) (number : ℕ) (rs : List Reply) (part : List ℕ) (added : Option Reply) → all ≡ before_replies rs (replies_from number (lines_of_parts (part ∷ []))) → line_reply part ≡ Some added
    → (let done : Result (List Reply) ℕ = Ok (rs ++ option_to_list added) in all ≡ done)
last_line all number rs [] added so_far one =
    so_far ∙ ap (before_replies rs) (no_lines number) ∙ ap (λ (o : Option Reply). Ok (rs ++ option_to_list o)) (sym (nothing_said added one))
last_line all number rs (b ∷ bs) added so_far one =
    reply_more all (replies_from number ((b ∷ bs) ∷ [])) number rs (line_reply (b ∷ bs)) added (replies_from (number + 1) []) (so_far ∙ ap (λ (ls : List (List ℕ)). before_replies rs (replies_from number ls)) (last_parts b bs)) (line_next number (b ∷ bs) []) one
    ∙ ap (before_replies (rs ++ option_to_list added)) (no_lines (number + 1)) ∙ ap (λ (ys : List Reply). Ok ys) (append-nil (rs ++ option_to_list added))

pub last_refused : (all : Result (List Reply) ℕ) (number : ℕ) (rs : List Reply) (part : List ℕ) → all ≡ before_replies rs (replies_from number (lines_of_parts (part ∷ []))) → line_reply part ≡ None
    → (let refused : Result (List Reply) ℕ = Err number in all ≡ refused)
last_refused all number rs [] so_far none = let some = wrong_line [] none in absurd (omega arith)
last_refused all number rs (b ∷ bs) so_far none =
    line_refused all (replies_from number ((b ∷ bs) ∷ [])) number rs (line_reply (b ∷ bs)) (replies_from (number + 1) []) (so_far ∙ ap (λ (ls : List (List ℕ)). before_replies rs (replies_from number ls)) (last_parts b bs)) (line_next number (b ∷ bs) []) none

-- the last line was added, or was outside the grammar, or memory ran out
pub last_done : (all : Result (List Reply) ℕ) (number : ℕ) (rs new : List Reply) (part : List ℕ) (here : List (List ℕ)) → all ≡ before_replies rs (replies_from number (lines_of_parts here)) → here ≡ part ∷ []
    → (let done : Result (Unit {0}) ReplyFault = Ok tt in AddsLine done number (line_reply part) rs new) → (let read : Result (List Reply) ℕ = Ok new in all ≡ read)
last_done all number rs new part here so_far is (added, said, is_new) =
    last_line all number rs part added (so_far ∙ ap (λ (ps : List (List ℕ)). before_replies rs (replies_from number (lines_of_parts ps))) is) said ∙ ap (λ (ys : List Reply). Ok ys) (sym is_new)

pub last_fails : (all : Result (List Reply) ℕ) (number : ℕ) (rs new : List Reply) (part : List ℕ) (here : List (List ℕ)) (e : ReplyFault) → all ≡ before_replies rs (replies_from number (lines_of_parts here)) → here ≡ part ∷ []
    → (let refused : Result (Unit {0}) ReplyFault = Err e in AddsLine refused number (line_reply part) rs new) → (let file : Result (List Reply) ReplyFault = Err e in Reads file all)
last_fails all number rs new part here (Line n) so_far is (same, none) =
    last_refused all number rs part (so_far ∙ ap (λ (ps : List (List ℕ)). before_replies rs (replies_from number (lines_of_parts ps))) is) none ∙ ap (λ (k : ℕ). Err k) (sym same)
last_fails all number rs new part here NoMemory so_far is fault = tt

-- the lines to come, of which the first is known
lines_known : (number : ℕ) (line part : List ℕ) (parts here : List (List ℕ)) → here ≡ part ∷ parts → 0 < length parts → line ≡ strip_carriage_return part
    → replies_from number (lines_of_parts here) ≡ then_replies number (line_reply line) (replies_from (number + 1) (lines_of_parts parts))
lines_known number line part parts here is more stripped =
    ap (λ (ps : List (List ℕ)). replies_from number (lines_of_parts ps)) is ∙ ap (replies_from number) (lines_next part parts more) ∙ line_next number (strip_carriage_return part) (lines_of_parts parts)
    ∙ ap (λ (l : List ℕ). then_replies number (line_reply l) (replies_from (number + 1) (lines_of_parts parts))) (sym stripped)

-- a line with a line feed behind it was added, or was outside the grammar, or memory ran out
pub line_added : (all : Result (List Reply) ℕ) (number : ℕ) (rs new : List Reply) (line part : List ℕ) (parts here : List (List ℕ)) → all ≡ before_replies rs (replies_from number (lines_of_parts here)) → here ≡ part ∷ parts → 0 < length parts
    → line ≡ strip_carriage_return part → (let done : Result (Unit {0}) ReplyFault = Ok tt in AddsLine done number (line_reply line) rs new) → all ≡ before_replies new (replies_from (number + 1) (lines_of_parts parts))
line_added all number rs new line part parts here so_far is more stripped (added, said, is_new) =
    reply_more all (replies_from number (lines_of_parts here)) number rs (line_reply line) added (replies_from (number + 1) (lines_of_parts parts)) so_far (lines_known number line part parts here is more stripped) said
    ∙ ap (λ (ys : List Reply). before_replies ys (replies_from (number + 1) (lines_of_parts parts))) (sym is_new)

pub line_fails : (all : Result (List Reply) ℕ) (number : ℕ) (rs new : List Reply) (line part : List ℕ) (parts here : List (List ℕ)) (e : ReplyFault) → all ≡ before_replies rs (replies_from number (lines_of_parts here)) → here ≡ part ∷ parts
    → 0 < length parts → line ≡ strip_carriage_return part → (let refused : Result (Unit {0}) ReplyFault = Err e in AddsLine refused number (line_reply line) rs new) → (let file : Result (List Reply) ReplyFault = Err e in Reads file all)
line_fails all number rs new line part parts here (Line n) so_far is more stripped (same, none) =
    line_refused all (replies_from number (lines_of_parts here)) number rs (line_reply line) (replies_from (number + 1) (lines_of_parts parts)) so_far (lines_known number line part parts here is more stripped) none ∙ ap (λ (k : ℕ). Err k) (sym same)
line_fails all number rs new line part parts here NoMemory so_far is more stripped fault = tt
