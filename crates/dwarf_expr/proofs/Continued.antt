-- What the parts of an expression give is what its operators make, one after another, of what is known between them.
use Rattle.std.proofs.Common.{◌≡◌, ℕ, zero, suc, ◌<◌, length, arith, Bool, true, false, ◌||◌, ◌&&◌, cond, List, [], ◌∷◌, ◌++◌, Result, Ok, refl, sym, ap, ◌∙◌}
use Rattle.std.specs.Prelude.{◌==◌}
use Rattle.dwarf_expr.specs.declared.answer.Base.{Base}
use Rattle.dwarf_expr.specs.declared.answer.Eval.{Eval}
use Rattle.dwarf_expr.specs.declared.answer.Eval.TheVariants as eval
use Rattle.dwarf_expr.specs.declared.answer.Piece.{Piece}
use Rattle.dwarf_expr.specs.declared.answer.PiecePlace.{PiecePlace}
use Rattle.dwarf_expr.specs.declared.operators.PlacedOperator.{PlacedOperator}
use Rattle.dwarf_expr.specs.declared.progress.Part.{Part}
use Rattle.dwarf_expr.specs.declared.progress.Part.TheVariants.{Empty, Value, Address}
use Rattle.dwarf_expr.specs.declared.progress.Progress.{Progress}
use Rattle.dwarf_expr.specs.View.{View}
use Rattle.dwarf_expr.specs.Meaning.{Stack, ◌>>=◌, is_piece, is_empty, parts, begun_step, ends_with_value, is_location, gives_value, given, piece_of, added, single, ended, of_parts, answer_of, meaning}
use Rattle.dwarf_expr.specs.Decode.{operators}
use Rattle.dwarf_expr.specs.inner.Steps.{is_end, is_empty_part, part_behind, given_by, piece_given_by, progress, stepped, closed, advanced, ended_by, completed, continued}
use Rattle.dwarf_expr.proofs.Going.{front, left, finish, going, assoc, same_behind, parts_piece, parts_other, front_more, going_piece, going_other, parts_are_going}

-- ---- what a part gives

abbrev kind_by : Bool → Part
kind_by b = cond b Value Address

abbrev pub kind : List PlacedOperator → Part
kind [] = Empty
kind (x ∷ xs) = kind_by (gives_value (x ∷ xs))

ends_last : (xs : List PlacedOperator) (x : PlacedOperator) → ends_with_value (xs ++ x ∷ []) ≡ (x.opcode == 0x9f)
ends_last [] x = refl
ends_last (y ∷ []) x = refl
ends_last (y ∷ z ∷ xs) x = ends_last (z ∷ xs) x

no_location : (y : PlacedOperator) (xs : List PlacedOperator) (x : PlacedOperator) → is_location (y ∷ (xs ++ x ∷ [])) ≡ false
no_location y [] x = refl
no_location y (z ∷ xs) x = refl

either : (a b : Bool) → (a || b) ≡ (b || (true && a))
either true true = refl
either true false = refl
either false true = refl
either false false = refl

not_empty : (b : Bool) → is_empty_part (kind_by b) ≡ false
not_empty true = refl
not_empty false = refl

or_nothing : (a b : Bool) → a ≡ (a || (false && b))
or_nothing true b = refl
or_nothing false b = refl

pub kind_more : (part : List PlacedOperator) (x : PlacedOperator) → kind (part ++ x ∷ []) ≡ part_behind (kind part) x.opcode
kind_more [] x = ap kind_by (either (x.opcode == 0xed) (x.opcode == 0x9f))
kind_more (y ∷ ys) x =
    ap (λ (b : Bool). kind_by (b || ends_with_value (y ∷ (ys ++ x ∷ [])))) (no_location y ys x)
    ∙ ap kind_by (ends_last (y ∷ ys) x)
    ∙ ap kind_by (or_nothing (x.opcode == 0x9f) (x.opcode == 0xed))
    ∙ ap (λ (b : Bool). kind_by ((x.opcode == 0x9f) || (b && (x.opcode == 0xed)))) (sym (not_empty (gives_value (y ∷ ys))))

given_kind : (at : ℕ) (part : List PlacedOperator) (s : Stack) → given at part s ≡ given_by at (kind part) s
given_kind at part [] = refl
given_kind at [] (w ∷ s) = refl
given_kind at (x ∷ xs) (w ∷ s) = by_value (gives_value (x ∷ xs)) refl where
  by_value : (b : Bool) → gives_value (x ∷ xs) ≡ b → given at (x ∷ xs) (w ∷ s) ≡ given_by at (kind (x ∷ xs)) (w ∷ s)
  by_value true e = rw e refl
  by_value false e = rw e refl

left_kind : (at : ℕ) (part : List PlacedOperator) (s : Stack) → left at part s ≡ piece_given_by at (kind part) s
left_kind at [] s = refl
left_kind at (x ∷ xs) s = given_kind at (x ∷ xs) s ∙ by_value (gives_value (x ∷ xs)) where
  by_value : (b : Bool) → given_by at (kind_by b) s ≡ piece_given_by at (kind_by b) s
  by_value true = refl
  by_value false = refl

finish_kind : (last : ℕ) (pieces : List Piece) (part : List PlacedOperator) (s : Stack) → finish last pieces part s ≡ completed last pieces (kind part) s
unfolding completed
finish_kind last [] part s = ap (λ (r : Result PiecePlace Eval). r >>= λ x. Ok (single x)) (given_kind last part s)
finish_kind last (p ∷ pieces) [] s = refl
finish_kind last (p ∷ pieces) (x ∷ xs) s = by_value (gives_value (x ∷ xs)) where
  by_value : (b : Bool) → ended last (x ∷ xs) (p ∷ pieces) ≡ ended_by last (kind_by b) (p ∷ pieces)
  by_value true = refl
  by_value false = refl

-- ---- what comes next

end_front : (xs : List PlacedOperator) → is_empty (front (parts xs)) ≡ is_end xs
unfolding parts
end_front [] = refl
end_front (x ∷ xs) = by_piece (is_piece x) refl where
  by_piece : (t : Bool) → is_piece x ≡ t → is_empty (front (parts (x ∷ xs))) ≡ is_piece x
  by_piece true e = ap (λ ps. is_empty (front ps)) (parts_piece x xs e) ∙ sym e
  by_piece false e = ap (λ ps. is_empty (front ps)) (parts_other x xs e) ∙ ap is_empty (front_more x (parts xs).closed (parts xs).behind) ∙ sym e

advanced_piece : (v : View) (b : Base) (x : PlacedOperator) (is_last : Bool) (p : Progress) → is_piece x ≡ true → advanced v b x is_last p ≡ closed x p
unfolding advanced
advanced_piece v b x is_last p e = rw e refl

advanced_other : (v : View) (b : Base) (x : PlacedOperator) (is_last : Bool) (p : Progress) → is_piece x ≡ false → advanced v b x is_last p ≡ stepped v b x is_last p
unfolding advanced
advanced_other v b x is_last p e = rw e refl

-- what is claimed of operators to come
abbrev Claim : View → Base → ℕ → List PlacedOperator → Type 0
Claim v b last xs = (pieces : List Piece) (part : List PlacedOperator) (s : Stack) → going v b last pieces part s xs ≡ continued v b last xs (progress pieces (kind part) s)

at_a_piece : (v : View) (b : Base) (last : ℕ) (x : PlacedOperator) (xs : List PlacedOperator) → is_piece x ≡ true → Claim v b last xs → Claim v b last (x ∷ xs)
unfolding continued closed
at_a_piece v b last x xs e more pieces part s =
    going_piece v b last pieces part s x xs e
    ∙ ap (λ (r : Result PiecePlace Eval). piece_of x.begun x.at r >>= λ p. added x pieces p >>= λ all. going v b last all [] [] xs) (left_kind x.at part s)
    ∙ same_behind (piece_of x.begun x.at (piece_given_by x.at (kind part) s)) (λ p. added x pieces p >>= λ all. going v b last all [] [] xs) (λ p. (added x pieces p >>= λ all. Ok (progress all Empty [])) >>= λ q. continued v b last xs q)
    (λ p. same_behind (added x pieces p) (λ all. going v b last all [] [] xs) (λ all. continued v b last xs (progress all Empty [])) (λ all. more all [] [])
    ∙ sym (assoc (added x pieces p) (λ all. Ok (progress all Empty [])) (λ q. continued v b last xs q)))
    ∙ sym (assoc (piece_of x.begun x.at (piece_given_by x.at (kind part) s)) (λ p. added x pieces p >>= λ all. Ok (progress all Empty [])) (λ q. continued v b last xs q))
    ∙ ap (λ (r : Result Progress Eval). r >>= λ q. continued v b last xs q) (sym (advanced_piece v b x (is_end xs) (progress pieces (kind part) s) e))

at_another : (v : View) (b : Base) (last : ℕ) (x : PlacedOperator) (xs : List PlacedOperator) → is_piece x ≡ false → Claim v b last xs → Claim v b last (x ∷ xs)
unfolding continued stepped
at_another v b last x xs e more pieces part s =
    going_other v b last pieces part s x xs e
    ∙ ap (λ (t : Bool). begun_step v b x.at x.opcode x.begun t s >>= λ t. going v b last pieces (part ++ x ∷ []) t xs) (end_front xs)
    ∙ same_behind (begun_step v b x.at x.opcode x.begun (is_end xs) s) (λ t. going v b last pieces (part ++ x ∷ []) t xs) (λ t. continued v b last xs (progress pieces (part_behind (kind part) x.opcode) t))
    (λ t. more pieces (part ++ x ∷ []) t ∙ ap (λ (k : Part). continued v b last xs (progress pieces k t)) (kind_more part x))
    ∙ sym (assoc (begun_step v b x.at x.opcode x.begun (is_end xs) s) (λ t. Ok (progress pieces (part_behind (kind part) x.opcode) t)) (λ q. continued v b last xs q))
    ∙ ap (λ (r : Result Progress Eval). r >>= λ q. continued v b last xs q) (sym (advanced_other v b x (is_end xs) (progress pieces (kind part) s) e))

by_piece : (v : View) (b : Base) (last : ℕ) (x : PlacedOperator) (xs : List PlacedOperator) (t : Bool) → is_piece x ≡ t → Claim v b last xs → Claim v b last (x ∷ xs)
by_piece v b last x xs true e more = at_a_piece v b last x xs e more
by_piece v b last x xs false e more = at_another v b last x xs e more

going_continued : (v : View) (b : Base) (last : ℕ) (xs : List PlacedOperator) → Claim v b last xs
unfolding going continued
going_continued v b last [] pieces part s = finish_kind last pieces part s
going_continued v b last (x ∷ xs) pieces part s = by_piece v b last x xs (is_piece x) refl (going_continued v b last xs) pieces part s

-- What the parts give is what the operators make of the start.
pub parts_are_continued : (v : View) (b : Base) (last : ℕ) (xs : List PlacedOperator) → of_parts v b last (parts xs) ≡ continued v b last xs (progress [] Empty [])
parts_are_continued v b last xs = parts_are_going v b last xs ∙ going_continued v b last xs [] [] []

-- the same of a whole expression
pub meaning_none : (bytes : List ℕ) (v : View) (b : Base) → length bytes ≡ 0 → meaning bytes v b ≡ eval.Empty
unfolding meaning
meaning_none [] v b e = refl
meaning_none (x ∷ xs) v b e = absurd (omega (arith, e))

pub is_some : (n : ℕ) → false ≡ (n == 0) → 0 < n
is_some zero e = absurd cc
is_some (suc n) e = omega arith

pub meaning_is : (bytes : List ℕ) (v : View) (b : Base) (r : Result Eval Eval) → 0 < length bytes → r ≡ continued v b (length bytes) (operators bytes) (progress [] Empty []) → answer_of r ≡ meaning bytes v b
unfolding meaning
meaning_is [] v b r some e = absurd (omega (arith, some))
meaning_is (x ∷ xs) v b r some e = ap answer_of (e ∙ sym (parts_are_continued v b (length (x ∷ xs)) (operators (x ∷ xs))))
