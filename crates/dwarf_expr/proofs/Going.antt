-- Reading an expression operator by operator gives what its parts give.
use Rattle.std.proofs.Common.{◌≡◌, ℕ, Bool, true, false, cond, List, [], ◌∷◌, ◌++◌, Result, Ok, Err, refl, sym, ap, ◌∙◌, append_assoc}
use Rattle.std.specs.Prelude.{nat_lt, length}
use Rattle.std.proofs.lemmas.List.{append-nil}
use Rattle.dwarf_expr.specs.declared.answer.Base.{Base}
use Rattle.dwarf_expr.specs.declared.answer.Eval.{Eval}
use Rattle.dwarf_expr.specs.declared.answer.Eval.TheVariants as eval
use Rattle.dwarf_expr.specs.declared.answer.Piece.{Piece}
use Rattle.dwarf_expr.specs.declared.answer.PiecePlace.{PiecePlace}
use Rattle.dwarf_expr.specs.declared.answer.PiecePlace.TheVariants as at_place
use Rattle.dwarf_expr.specs.View.{View}
use Rattle.dwarf_expr.specs.declared.operators.Operator.TheVariants as op
use Rattle.dwarf_expr.specs.declared.operators.Begun.{Begun}
use Rattle.dwarf_expr.specs.declared.operators.Begun.TheVariants.{Known}
use Rattle.dwarf_expr.specs.declared.operators.PlacedOperator.{PlacedOperator}
use Rattle.dwarf_expr.specs.Meaning.{Stack, ◌>>=◌, Parts, is_piece, in_front, closed_by, parts, is_empty, begun_step, run, given, piece_place, piece_of, added, pieces_of, single, ended, by_pieces, of_parts}

-- ---- what is done between two operators

-- the operators of a part that are still to come
abbrev pub front_of : List (List PlacedOperator × PlacedOperator) → List PlacedOperator → List PlacedOperator
front_of [] behind = behind
front_of (c ∷ more) behind = c.0

abbrev pub front : Parts → List PlacedOperator
front ps = front_of ps.closed ps.behind

-- what a piece takes of the operators before it
abbrev pub left : ℕ → List PlacedOperator → Stack → Result PiecePlace Eval
left at [] s = Ok at_place.Nothing
left at (x ∷ xs) s = given at (x ∷ xs) s

abbrev pub finish : ℕ → List Piece → List PlacedOperator → Stack → Result Eval Eval
finish last [] part s = given last part s >>= λ x. Ok (single x)
finish last (p ∷ pieces) part s = ended last part (p ∷ pieces)

-- pieces made, operators of the part so far, what they left, and operators to come
unfoldable pub going : View → Base → ℕ → List Piece → List PlacedOperator → Stack → List PlacedOperator → Result Eval Eval
going v b last pieces part s [] = finish last pieces part s
going v b last pieces part s (x ∷ xs) = cond (is_piece x)
    (piece_of x.begun x.at (left x.at part s) >>= λ p. added x pieces p >>= λ more. going v b last more [] [] xs)
    (begun_step v b x.at x.opcode x.begun (is_empty (front (parts xs))) s >>= λ t. going v b last pieces (part ++ x ∷ []) t xs)

-- ---- the same by parts

-- the rest by parts, behind pieces that were made
abbrev rest_of : View → Base → ℕ → List Piece → List (List PlacedOperator × PlacedOperator) → List PlacedOperator → Result Eval Eval
rest_of v b last [] closed behind = by_pieces v b last closed behind
rest_of v b last (p ∷ pieces) closed behind = pieces_of v b closed (p ∷ pieces) >>= λ all. run v b behind [] >>= λ s. ended last behind all

-- operators in front of the first part
abbrev started : List PlacedOperator → List (List PlacedOperator × PlacedOperator) → List PlacedOperator → Parts
started part [] behind = record { closed = []; behind = part ++ behind }
started part (c ∷ more) behind = record { closed = (part ++ c.0, c.1) ∷ more; behind = behind }

abbrev rest_started : View → Base → ℕ → List Piece → List PlacedOperator → Parts → Result Eval Eval
rest_started v b last pieces part ps = rest_of v b last pieces (started part ps.closed ps.behind).closed (started part ps.closed ps.behind).behind

-- Running the part so far and what is to come of it is running what is to come on what was left.
abbrev Reached : View → Base → List PlacedOperator → Stack → List PlacedOperator → Type 0
Reached v b part s more = run v b (part ++ more) [] ≡ run v b more s

abbrev ok : {A : Type 0} → A → Result A Eval
ok x = Ok x

abbrev err : {A : Type 0} → Eval → Result A Eval
err e = Err e

pub assoc : {A B C : Type 0} (m : Result A Eval) (f : A → Result B Eval) (g : B → Result C Eval) → ((m >>= f) >>= g) ≡ (m >>= λ x. f x >>= g)
assoc (Ok x) f g = refl
assoc (Err e) f g = refl

pub same_behind : {A B : Type 0} (m : Result A Eval) (f g : A → Result B Eval) → ((x : A) → f x ≡ g x) → (m >>= f) ≡ (m >>= g)
same_behind (Ok x) f g h = h x
same_behind (Err e) f g h = refl

-- ---- at the end

finished : (v : View) (b : Base) (last : ℕ) (pieces : List Piece) (part : List PlacedOperator) (s : Stack) → run v b part [] ≡ ok s → rest_of v b last pieces [] part ≡ finish last pieces part s
unfolding pieces_of
finished v b last [] part s e = rw e refl
finished v b last (p ∷ pieces) part s e = rw e refl

-- ---- at a piece

-- the place of a part
taken : (v : View) (b : Base) (at : ℕ) (part : List PlacedOperator) (s : Stack) → run v b part [] ≡ ok s → piece_place v b at part ≡ left at part s
taken v b at [] s e = refl
taken v b at (x ∷ xs) s e = rw e refl

-- what is done with all pieces
abbrev with_all : View → Base → ℕ → List PlacedOperator → List Piece → Result Eval Eval
with_all v b last behind all = run v b behind [] >>= λ s. ended last behind all

-- Behind a piece that was made there are pieces.
after_added : (v : View) (b : Base) (last : ℕ) (x : PlacedOperator) (pieces : List Piece) (p : Piece) (closed : List (List PlacedOperator × PlacedOperator)) (behind : List PlacedOperator)
    → (added x pieces p >>= λ more. pieces_of v b closed more >>= with_all v b last behind) ≡ (added x pieces p >>= λ more. rest_of v b last more closed behind)
after_added v b last x [] p closed behind = refl
after_added v b last x (q ∷ pieces) p closed behind = by_room (nat_lt (length (q ∷ pieces)) 16) where
  by_room : (t : Bool) → (cond t (ok ((q ∷ pieces) ++ p ∷ [])) (err (eval.Unsupported x.opcode x.at)) >>= λ more. pieces_of v b closed more >>= with_all v b last behind) ≡ (cond t (ok ((q ∷ pieces) ++ p ∷ [])) (err (eval.Unsupported x.opcode x.at)) >>= λ more. rest_of v b last more closed behind)
  by_room true = refl
  by_room false = refl

-- the pieces from one on
abbrev from_piece : View → Base → ℕ → List Piece → List PlacedOperator → PlacedOperator → List (List PlacedOperator × PlacedOperator) → List PlacedOperator → Result Eval Eval
from_piece v b last pieces part x closed behind = piece_of x.begun x.at (piece_place v b x.at part) >>= λ p. added x pieces p >>= λ more. rest_of v b last more closed behind

with_piece : (v : View) (b : Base) (last : ℕ) (pieces : List Piece) (part : List PlacedOperator) (x : PlacedOperator) (closed : List (List PlacedOperator × PlacedOperator)) (behind : List PlacedOperator)
    → (pieces_of v b ((part, x) ∷ closed) pieces >>= with_all v b last behind) ≡ from_piece v b last pieces part x closed behind
unfolding pieces_of
with_piece v b last pieces part x closed behind =
    assoc (piece_of x.begun x.at (piece_place v b x.at part)) (λ p. added x pieces p >>= λ more. pieces_of v b closed more) (with_all v b last behind)
    ∙ same_behind (piece_of x.begun x.at (piece_place v b x.at part)) (λ p. (added x pieces p >>= λ more. pieces_of v b closed more) >>= with_all v b last behind) (λ p. added x pieces p >>= λ more. rest_of v b last more closed behind)
    (λ p. assoc (added x pieces p) (λ more. pieces_of v b closed more) (with_all v b last behind) ∙ after_added v b last x pieces p closed behind)

rest_at_piece : (v : View) (b : Base) (last : ℕ) (pieces : List Piece) (part : List PlacedOperator) (x : PlacedOperator) (closed : List (List PlacedOperator × PlacedOperator)) (behind : List PlacedOperator)
    → rest_of v b last pieces ((part, x) ∷ closed) behind ≡ from_piece v b last pieces part x closed behind
rest_at_piece v b last [] part x closed behind = with_piece v b last [] part x closed behind
rest_at_piece v b last (q ∷ pieces) part x closed behind = with_piece v b last (q ∷ pieces) part x closed behind

-- ---- before an operator that fails

place_fails : (v : View) (b : Base) (at : ℕ) (part : List PlacedOperator) (e : Eval) → run v b part [] ≡ err e → piece_place v b at part ≡ err e
unfolding run
place_fails v b at [] e h = absurd cc
place_fails v b at (x ∷ xs) e h = ap (λ (r : Result Stack Eval). r >>= given at (x ∷ xs)) h

piece_fails : (begun : Begun) (at : ℕ) (e : Eval) → piece_of begun at (err e) ≡ err e
piece_fails (Known (op.Piece n)) at e = refl
piece_fails begun at e = refl

-- Where the first part fails, so does all.
fails_first : (v : View) (b : Base) (last : ℕ) (pieces : List Piece) (part : List PlacedOperator) (closed : List (List PlacedOperator × PlacedOperator)) (behind : List PlacedOperator) (e : Eval)
    → run v b (part ++ front_of closed behind) [] ≡ err e → rest_of v b last pieces (started part closed behind).closed (started part closed behind).behind ≡ err e
unfolding pieces_of
fails_first v b last [] part [] behind e h = rw h refl
fails_first v b last (q ∷ pieces) part [] behind e h = rw h refl
fails_first v b last pieces part (c ∷ more) behind e h =
    rest_at_piece v b last pieces (part ++ c.0) c.1 more behind
    ∙ ap (λ (r : Result PiecePlace Eval). piece_of c.1.begun c.1.at r >>= λ p. added c.1 pieces p >>= λ all. rest_of v b last all more behind) (place_fails v b c.1.at (part ++ c.0) e h)
    ∙ ap (λ (r : Result Piece Eval). r >>= λ p. added c.1 pieces p >>= λ all. rest_of v b last all more behind) (piece_fails c.1.begun c.1.at e)

-- ---- all of it

started_nil : (v : View) (b : Base) (last : ℕ) (pieces : List Piece) (closed : List (List PlacedOperator × PlacedOperator)) (behind : List PlacedOperator) → rest_of v b last pieces (started [] closed behind).closed (started [] closed behind).behind ≡ rest_of v b last pieces closed behind
started_nil v b last pieces [] behind = refl
started_nil v b last pieces (c ∷ more) behind = refl

started_more : (part : List PlacedOperator) (x : PlacedOperator) (closed : List (List PlacedOperator × PlacedOperator)) (behind : List PlacedOperator) → started (part ++ x ∷ []) closed behind ≡ started part (in_front x closed behind).closed (in_front x closed behind).behind
started_more part x [] behind = ap (λ (xs : List PlacedOperator). let ps : Parts = record { closed = []; behind = xs } in ps) (append_assoc part (x ∷ []) behind)
started_more part x (c ∷ more) behind = ap (λ (xs : List PlacedOperator). let ps : Parts = record { closed = (xs, c.1) ∷ more; behind = behind } in ps) (append_assoc part (x ∷ []) c.0)

pub front_more : (x : PlacedOperator) (closed : List (List PlacedOperator × PlacedOperator)) (behind : List PlacedOperator) → front (in_front x closed behind) ≡ x ∷ front_of closed behind
front_more x [] behind = refl
front_more x (c ∷ more) behind = refl

-- the parts behind an operator, and what is done there
pub parts_piece : (x : PlacedOperator) (xs : List PlacedOperator) → is_piece x ≡ true → parts (x ∷ xs) ≡ closed_by x (parts xs)
unfolding parts
parts_piece x xs e = rw e refl

pub parts_other : (x : PlacedOperator) (xs : List PlacedOperator) → is_piece x ≡ false → parts (x ∷ xs) ≡ in_front x (parts xs).closed (parts xs).behind
unfolding parts
parts_other x xs e = rw e refl

pub going_piece : (v : View) (b : Base) (last : ℕ) (pieces : List Piece) (part : List PlacedOperator) (s : Stack) (x : PlacedOperator) (xs : List PlacedOperator) → is_piece x ≡ true
    → going v b last pieces part s (x ∷ xs) ≡ (piece_of x.begun x.at (left x.at part s) >>= λ p. added x pieces p >>= λ more. going v b last more [] [] xs)
unfolding going
going_piece v b last pieces part s x xs e = rw e refl

pub going_other : (v : View) (b : Base) (last : ℕ) (pieces : List Piece) (part : List PlacedOperator) (s : Stack) (x : PlacedOperator) (xs : List PlacedOperator) → is_piece x ≡ false
    → going v b last pieces part s (x ∷ xs) ≡ (begun_step v b x.at x.opcode x.begun (is_empty (front (parts xs))) s >>= λ t. going v b last pieces (part ++ x ∷ []) t xs)
unfolding going
going_other v b last pieces part s x xs e = rw e refl

-- what is claimed of operators to come
abbrev Claim : View → Base → ℕ → List PlacedOperator → Type 0
Claim v b last xs = (pieces : List Piece) (part : List PlacedOperator) (s : Stack) → Reached v b part s (front (parts xs)) → going v b last pieces part s xs ≡ rest_started v b last pieces part (parts xs)

at_the_end : (v : View) (b : Base) (last : ℕ) → Claim v b last []
unfolding going parts run
at_the_end v b last pieces part s h = ap (λ (xs : List PlacedOperator). finish last pieces xs s) (sym (append-nil part)) ∙ sym (finished v b last pieces (part ++ []) s h)

at_a_piece : (v : View) (b : Base) (last : ℕ) (x : PlacedOperator) (xs : List PlacedOperator) → is_piece x ≡ true → Claim v b last xs → Claim v b last (x ∷ xs)
unfolding run
at_a_piece v b last x xs e more pieces part s h =
    let none : front (parts (x ∷ xs)) ≡ [] = ap front (parts_piece x xs e) in
    let whole : run v b part [] ≡ ok s = ap (λ (ys : List PlacedOperator). run v b ys []) (sym (append-nil part)) ∙ ap (λ (ys : List PlacedOperator). run v b (part ++ ys) []) (sym none) ∙ h ∙ ap (λ (ys : List PlacedOperator). run v b ys s) none in
    going_piece v b last pieces part s x xs e
    ∙ ap (λ (r : Result PiecePlace Eval). piece_of x.begun x.at r >>= λ p. added x pieces p >>= λ all. going v b last all [] [] xs) (sym (taken v b x.at part s whole))
    ∙ same_behind (piece_of x.begun x.at (piece_place v b x.at part)) (λ p. added x pieces p >>= λ all. going v b last all [] [] xs) (λ p. added x pieces p >>= λ all. rest_of v b last all (parts xs).closed (parts xs).behind)
    (λ p. same_behind (added x pieces p) (λ all. going v b last all [] [] xs) (λ all. rest_of v b last all (parts xs).closed (parts xs).behind)
    (λ all. more all [] [] refl ∙ started_nil v b last all (parts xs).closed (parts xs).behind))
    ∙ sym (rest_at_piece v b last pieces part x (parts xs).closed (parts xs).behind)
    ∙ ap (λ (ys : List PlacedOperator). rest_of v b last pieces ((ys, x) ∷ (parts xs).closed) (parts xs).behind) (sym (append-nil part))
    ∙ ap (rest_started v b last pieces part) (sym (parts_piece x xs e))

-- by what the operator gives
by_step : (v : View) (b : Base) (last : ℕ) (x : PlacedOperator) (xs : List PlacedOperator) → Claim v b last xs → (pieces : List Piece) (part : List PlacedOperator) (s : Stack) (r : Result Stack Eval)
    → run v b (part ++ x ∷ front (parts xs)) [] ≡ (r >>= λ t. run v b (front (parts xs)) t)
    → (r >>= λ t. going v b last pieces (part ++ x ∷ []) t xs) ≡ rest_started v b last pieces part (in_front x (parts xs).closed (parts xs).behind)
by_step v b last x xs more pieces part s (Ok t) h =
    more pieces (part ++ x ∷ []) t (ap (λ (ys : List PlacedOperator). run v b ys []) (append_assoc part (x ∷ []) (front (parts xs))) ∙ h)
    ∙ ap (λ (ps : Parts). rest_of v b last pieces ps.closed ps.behind) (started_more part x (parts xs).closed (parts xs).behind)
by_step v b last x xs more pieces part s (Err e) h =
    let ps = in_front x (parts xs).closed (parts xs).behind in
    sym (fails_first v b last pieces part ps.closed ps.behind e (ap (λ (ys : List PlacedOperator). run v b (part ++ ys) []) (front_more x (parts xs).closed (parts xs).behind) ∙ h))

at_another : (v : View) (b : Base) (last : ℕ) (x : PlacedOperator) (xs : List PlacedOperator) → is_piece x ≡ false → Claim v b last xs → Claim v b last (x ∷ xs)
unfolding run
at_another v b last x xs e more pieces part s h =
    let f : front (parts (x ∷ xs)) ≡ x ∷ front (parts xs) = ap front (parts_other x xs e) ∙ front_more x (parts xs).closed (parts xs).behind in
    let here : run v b (part ++ x ∷ front (parts xs)) [] ≡ run v b (x ∷ front (parts xs)) s = ap (λ (ys : List PlacedOperator). run v b (part ++ ys) []) (sym f) ∙ h ∙ ap (λ (ys : List PlacedOperator). run v b ys s) f in
    going_other v b last pieces part s x xs e
    ∙ by_step v b last x xs more pieces part s (begun_step v b x.at x.opcode x.begun (is_empty (front (parts xs))) s) here
    ∙ ap (rest_started v b last pieces part) (sym (parts_other x xs e))

by_kind : (v : View) (b : Base) (last : ℕ) (x : PlacedOperator) (xs : List PlacedOperator) (t : Bool) → is_piece x ≡ t → Claim v b last xs → Claim v b last (x ∷ xs)
by_kind v b last x xs true e more = at_a_piece v b last x xs e more
by_kind v b last x xs false e more = at_another v b last x xs e more

pub going_is : (v : View) (b : Base) (last : ℕ) (xs : List PlacedOperator) → Claim v b last xs
going_is v b last [] = at_the_end v b last
going_is v b last (x ∷ xs) = by_kind v b last x xs (is_piece x) refl (going_is v b last xs)

-- Reading from the front on gives what the parts give.
pub parts_are_going : (v : View) (b : Base) (last : ℕ) (xs : List PlacedOperator) → of_parts v b last (parts xs) ≡ going v b last [] [] [] xs
parts_are_going v b last xs = sym (going_is v b last xs [] [] [] refl ∙ started_nil v b last [] (parts xs).closed (parts xs).behind)
