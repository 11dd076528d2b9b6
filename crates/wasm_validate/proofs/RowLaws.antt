-- The rows of instructions by height, as they grow, and the last instruction of a row up to another.
use Rattle.std.proofs.Common.{◌≡◌, ◌≢◌, ℕ, zero, suc, ◌+◌, ◌-◌, ◌<◌, ◌≤◌, List, [], ◌∷◌, ◌++◌, length, slice_get, get_or, refl, sym, ap, subst, ◌∙◌, arith, length-append, inl, inr, ⊎_elim}
use Rattle.std.proofs.lemmas.Option.{slice_get_within, slice_get-get_or, get_or_from_slice_get}
use Rattle.std.proofs.lemmas.Bool.Decides.{nat_tests}
use Rattle.std.specs.Prelude.{Bool, true, false, ◌⊎◌, Option, Some, None, Result, Ok, Err, OnOk, nat_le, slice_set}
use Rattle.std.specs.List.Sorted.{IsNonDecreasingBy, IsPartitionPoint}
use Rattle.wasm_laws.proofs.Lists.{get_front}
use Rattle.validate_body.specs.declared.marks.Mark.{Mark}
use Rattle.wasm_validate.specs.calls.Operands.{Ascends, UpTo, IsRow, AreRows, RowsUpTo, LastOf}
use Rattle.wasm_validate.proofs.HeightLaws.{below_or}
use Rattle.pm_text.proofs.Lists.{some_is, get_behind}

-- ---- places of a list

-- in a list with one more element
pub in_more : {A : Type 0} (xs : List A) (y : A) (i : ℕ) (x : A) → slice_get (xs ++ y ∷ []) i ≡ Some x → ((i < length xs) × (slice_get xs i ≡ Some x)) ⊎ ((i ≡ length xs) × (x ≡ y))
in_more [] y zero x e = inr (refl, sym (some_is e))
in_more [] y (suc i) x e = absurd (cc)
in_more (z ∷ zs) y zero x e = inl (omega arith, e)
in_more (z ∷ zs) y (suc i) x e = ⊎_elim (λ a. inl (omega (arith, a.0), a.1)) (λ b. inr (ap suc b.0, b.1)) (in_more zs y i x e)

-- in a list with an element changed
in_changed : {A : Type 0} (xs : List A) (h : ℕ) (y : A) (i : ℕ) (x : A) → h < length xs → slice_get (slice_set xs h y) i ≡ Some x → ((i ≡ h) × (x ≡ y)) ⊎ ((i ≢ h) × (slice_get xs i ≡ Some x))
in_changed [] h y i x lt e = absurd (omega (arith, lt))
in_changed (z ∷ zs) zero y zero x lt e = inl (refl, sym (some_is e))
in_changed (z ∷ zs) zero y (suc i) x lt e = inr (λ q. cc, e)
in_changed (z ∷ zs) (suc h) y zero x lt e = inr (λ q. cc, e)
in_changed (z ∷ zs) (suc h) y (suc i) x lt e = ⊎_elim (λ a. inl (ap suc a.0, a.1)) (λ b. inr (λ q. b.0 (omega (arith, q)), b.1)) (in_changed zs h y i x (omega (arith, lt)) e)

changed_length : {A : Type 0} (xs : List A) (h : ℕ) (y : A) → length (slice_set xs h y) ≡ length xs
changed_length [] h y = refl
changed_length (z ∷ zs) zero y = refl
changed_length (z ∷ zs) (suc h) y = ap suc (changed_length zs h y)

-- ---- a row without instructions

empty_row : (marks : List (Option Mark)) (n height : ℕ) → ((i : ℕ) (k : Mark) → i < n → slice_get marks i ≡ Some (Some k) → k.height < height) → IsRow [] marks n height
empty_row marks n height low = record {
  ascends = λ a b i j lt e f. absurd (let z : None ≡ Some i = e in cc);
  each = λ a i e. absurd (let z : None ≡ Some i = e in cc);
  all = λ i k lt e q. absurd (omega (arith, low i k lt e, q));
}

pub more_rows : (rows : List (List ℕ)) (marks : List (Option Mark)) (n : ℕ) → AreRows rows marks n → AreRows (rows ++ [] ∷ []) marks n
more_rows rows marks n h = record {
  row = λ height row e. ⊎_elim (λ a. h.row height row a.1) (λ b. subst (λ r. IsRow r marks n height) (sym b.1) (empty_row marks n height (λ i k lt f. omega (arith, h.enough i k lt f, b.0)))) (in_more rows [] height row e);
  enough = λ i k lt e. omega (arith, h.enough i k lt e, length-append rows ([] ∷ []));
}

-- ---- the next instruction

row_next : (row : List ℕ) (marks : List (Option Mark)) (n : ℕ) (k : Mark) → IsRow row marks n k.height → slice_get marks n ≡ Some (Some k) → IsRow (row ++ n ∷ []) marks (n + 1) k.height
row_next row marks n k h there = record {
  ascends = λ a b i j lt e f. by_ends a b i j lt (in_more row n a i e) (in_more row n b j f);
  each = λ a i e. ⊎_elim (λ p. earlier i (h.each a i p.1)) (λ q. (omega (arith, q.1), k, subst (λ x. slice_get marks x ≡ Some (Some k)) (sym q.1) there, refl)) (in_more row n a i e);
  all = λ i l lt e q. ⊎_elim (λ p. front (h.all i l p e q)) (λ p. (length row + 0, get_behind row (n ∷ []) 0 ∙ ap (λ x. Some x) (sym p))) (below_or i n (omega (arith, lt)));
}
  where
    earlier : (i : ℕ) → (i < n) × (l : Mark) × (slice_get marks i ≡ Some (Some l)) × (l.height ≡ k.height) → (i < n + 1) × (l : Mark) × (slice_get marks i ≡ Some (Some l)) × (l.height ≡ k.height)
    earlier i p = (omega (arith, p.0), p.1, p.2, p.3)

    front : {i : ℕ} → (a : ℕ) × (slice_get row a ≡ Some i) → (a : ℕ) × (slice_get (row ++ n ∷ []) a ≡ Some i)
    front {i} p = (p.0, get_front row (n ∷ []) p.0 (slice_get_within row p.0 i p.1) ∙ p.1)

    by_ends : (a b i j : ℕ) → a < b → ((a < length row) × (slice_get row a ≡ Some i)) ⊎ ((a ≡ length row) × (i ≡ n)) → ((b < length row) × (slice_get row b ≡ Some j)) ⊎ ((b ≡ length row) × (j ≡ n)) → i < j
    by_ends a b i j lt (inl p) (inl q) = h.ascends a b i j lt p.1 q.1
    by_ends a b i j lt (inl p) (inr q) = omega (arith, (h.each a i p.1).0, q.1)
    by_ends a b i j lt (inr p) (inl q) = absurd (omega (arith, lt, p.0, q.0))
    by_ends a b i j lt (inr p) (inr q) = absurd (omega (arith, lt, p.0, q.0))

row_other : (row : List ℕ) (marks : List (Option Mark)) (n height : ℕ) → IsRow row marks n height → ((k : Mark) → slice_get marks n ≡ Some (Some k) → k.height ≡ height → ⊥) → IsRow row marks (n + 1) height
row_other row marks n height h other = record {
  ascends = h.ascends;
  each = λ a i e. let p = h.each a i e in (omega (arith, p.0), p.1, p.2, p.3);
  all = λ i l lt e q. ⊎_elim (λ p. h.all i l p e q) (λ p. absurd (other l (subst (λ x. slice_get marks x ≡ Some (Some l)) p e) q)) (below_or i n (omega (arith, lt)));
}

pub rows_next : (rows new : List (List ℕ)) (marks : List (Option Mark)) (n : ℕ) (k : Mark) (row : List ℕ) → AreRows rows marks n → slice_get marks n ≡ Some (Some k) → slice_get rows k.height ≡ Some row → new ≡ slice_set rows k.height (row ++ n ∷ []) → AreRows new marks (n + 1)
rows_next rows new marks n k row h there at is = record {
  row = λ height r e. by_place height r (in_changed rows k.height (row ++ n ∷ []) height r within (ap (λ x. slice_get x height) (sym is) ∙ e));
  enough = λ i l lt e. subst (λ x. l.height < x) (sym (ap (λ x. length x) is ∙ changed_length rows k.height (row ++ n ∷ [])))
      (⊎_elim (λ p. h.enough i l p e) (λ p. subst (λ x. x.height < length rows) (some_is (some_is (sym there ∙ sym (ap (λ x. slice_get marks x) p) ∙ e))) within) (below_or i n (omega (arith, lt))));
}
  where
    within : k.height < length rows
    within = slice_get_within rows k.height row at

    by_place : (height : ℕ) (r : List ℕ) → ((height ≡ k.height) × (r ≡ row ++ n ∷ [])) ⊎ ((height ≢ k.height) × (slice_get rows height ≡ Some r)) → IsRow r marks (n + 1) height
    by_place height r (inl p) = subst (λ x. IsRow r marks (n + 1) x) (sym p.0) (subst (λ x. IsRow x marks (n + 1) k.height) (sym p.1) (row_next row marks n k (h.row k.height row at) there))
    by_place height r (inr p) = row_other r marks n height (h.row height r p.1) (λ l e q. p.0 (sym q ∙ sym (ap (λ x. x.height) (some_is (some_is (sym there ∙ e))))))

pub all_rows_next : (every : List (List (List ℕ))) (all : List (List (Option Mark))) (i : ℕ) (rows : List (List ℕ)) (marks : List (Option Mark)) → RowsUpTo every all i → slice_get all i ≡ Some marks → AreRows rows marks (length marks) → RowsUpTo (every ++ rows ∷ []) all (i + 1)
all_rows_next every all i rows marks h e is = record {
  as_many = length-append every (rows ∷ []) ∙ ap (λ n. n + 1) h.as_many;
  each = λ j r ms f g. by_place j r ms g (in_more every rows j r f);
}
  where
    by_place : (j : ℕ) (r : List (List ℕ)) (ms : List (Option Mark)) → slice_get all j ≡ Some ms → ((j < length every) × (slice_get every j ≡ Some r)) ⊎ ((j ≡ length every) × (r ≡ rows)) → AreRows r ms (length ms)
    by_place j r ms g (inl p) = h.each j r ms p.1 g
    by_place j r ms g (inr p) =
        let q : marks ≡ ms = some_is (sym e ∙ ap (λ x. slice_get all x) (sym (p.0 ∙ h.as_many)) ∙ g) in
        subst (λ x. AreRows x ms (length ms)) (sym p.1) (subst (λ x. AreRows rows x (length x)) q is)

-- ---- the last instruction up to another

pub rises : (row : List ℕ) → Ascends row → IsNonDecreasingBy (λ i. i) row
rises row h = λ a b d le lt. by_place a b d lt (below_or a b le)
  where
    by_place : (a b d : ℕ) → b < length row → (a < b) ⊎ (a ≡ b) → get_or row a d ≤ get_or row b d
    by_place a b d lt (inl p) = omega (arith, h a b (get_or row a d) (get_or row b d) p (slice_get-get_or row a d (omega (arith, p, lt))) (slice_get-get_or row b d lt))
    by_place a b d lt (inr p) = subst (λ x. get_or row a d ≤ get_or row x d) p (omega arith)

over : (i op : ℕ) → nat_le i op ≡ false → op < i
over i op e = grind (arith, nat_tests, e)

not_over : (i op : ℕ) → nat_le i op ≡ true → i ≤ op
not_over i op e = grind (arith, nat_tests, e)

-- behind the partition point
behind : (row : List ℕ) (op count a i : ℕ) → IsPartitionPoint (λ i. nat_le i op ≡ true) (λ i. nat_le i op ≡ false) row count → count ≤ a → slice_get row a ≡ Some i → op < i
behind row op count a i h le e =
    let w : nat_le (get_or row a i) op ≡ false = h.1 a i le (slice_get_within row a i e) in
    over i op (subst (λ x. nat_le x op ≡ false) (get_or_from_slice_get row a i i e) w)

pub none_up_to : (row : List ℕ) (op count : ℕ) → count ≡ 0 → IsPartitionPoint (λ i. nat_le i op ≡ true) (λ i. nat_le i op ≡ false) row count → UpTo None row op
none_up_to row op count z h = λ a i e. behind row op count a i h (omega (arith, z)) e

pub last_up_to : (row : List ℕ) (op count : ℕ) → (count ≡ 0 → ⊥) → count ≤ length row → Ascends row → IsPartitionPoint (λ i. nat_le i op ≡ true) (λ i. nat_le i op ≡ false) row count → UpTo (Some (get_or row (count - 1) 0)) row op
last_up_to row op count some le up h =
    let lt : count - 1 < count = omega (arith, some) in
    let there : slice_get row (count - 1) ≡ Some (get_or row (count - 1) 0) = slice_get-get_or row (count - 1) 0 (omega (arith, lt, le)) in
    ((count - 1, there), not_over (get_or row (count - 1) 0) op (h.0 (count - 1) 0 (omega arith) lt), λ a i e le. by_place a i e le there (below_or a (count - 1) (before a i e le)))
  where
    before : (a i : ℕ) → slice_get row a ≡ Some i → i ≤ op → a ≤ count - 1
    before a i e le = by_test (nat_le count a) refl
      where
        by_test : (b : Bool) → nat_le count a ≡ b → a ≤ count - 1
        by_test true q = absurd (omega (arith, behind row op count a i h (not_over count a q) e, le))
        by_test false q = omega (arith, over count a q)

    by_place : (a i : ℕ) → slice_get row a ≡ Some i → i ≤ op → slice_get row (count - 1) ≡ Some (get_or row (count - 1) 0) → (a < count - 1) ⊎ (a ≡ count - 1) → i ≤ get_or row (count - 1) 0
    by_place a i e le there (inl p) = omega (arith, up a (count - 1) i (get_or row (count - 1) 0) p e there)
    by_place a i e le there (inr p) = let q : i ≡ get_or row (count - 1) 0 = some_is (sym e ∙ ap (λ x. slice_get row x) p ∙ there) in omega (arith, q)

-- the last instruction with a height is the last one of its row
pub last_of_row : (rows : List (List ℕ)) (marks : List (Option Mark)) (n height op i last : ℕ) (row : List ℕ) (mark : Mark) → AreRows rows marks n → op < n → slice_get rows height ≡ Some row → UpTo (Some i) row op → LastOf marks op height last mark → slice_get marks i ≡ Some (Some mark)
last_of_row rows marks n height op i last row mark h lt e up l =
    let r = h.row height row e in
    let a = r.all last mark (omega (arith, l.up_to, lt)) l.there l.has in
    let k = r.each up.0.0 i up.0.1 in
    by_place k.1 k.2 k.3 (below_or last i (up.2 a.0 last a.1 l.up_to))
  where
    by_place : (k : Mark) → slice_get marks i ≡ Some (Some k) → k.height ≡ height → (last < i) ⊎ (last ≡ i) → slice_get marks i ≡ Some (Some mark)
    by_place k f q (inl p) = absurd (l.later i k p up.1 f q)
    by_place k f q (inr p) = subst (λ x. slice_get marks x ≡ Some (Some mark)) p l.there

pub row_has_last : {A : Type 0} (rows : List (List ℕ)) (marks : List (Option Mark)) (n height op last : ℕ) (row : List ℕ) (mark : Mark) → AreRows rows marks n → op < n → slice_get rows height ≡ Some row → UpTo None row op → LastOf marks op height last mark → A
row_has_last rows marks n height op last row mark h lt e up l =
    let a = (h.row height row e).all last mark (omega (arith, l.up_to, lt)) l.there l.has in
    absurd (omega (arith, up a.0 last a.1, l.up_to))

pub when_ok : {A E : Type 0} {P Q : Type 0} (r : Result A E) → (P → Q) → OnOk r P → OnOk r Q
when_ok (Ok x) f h = f h
when_ok (Err e) f h = tt
