-- A map stays as it is where nodes are added behind the others.
use Rattle.std.proofs.Common.{◌≡◌, ℕ, zero, suc, ◌+◌, ◌-◌, ◌/◌, ◌%◌, ◌<◌, ◌≤◌, Bool, true, false, eqb, List, [], ◌∷◌, ◌++◌, length, Option, Some, None, refl, sym, ap, subst, ◌∙◌, inl, inr, arith, length-append}
use Rattle.std.specs.Prelude.{slice_get, if◌then◌else◌, Result, Ok, Err, OnOk, OnErr, IfOk}
use Rattle.std.proofs.lemmas.Bool.{eqb-true, eqb-false, eq-eqb, ne_eqb, cases_lt}
use Rattle.std.proofs.lemmas.Bool.Decides.{eqb_tells}
use Rattle.std.proofs.lemmas.Option.{slice_get_cases, slice_get_past}
use Rattle.pm_text.proofs.Lists.{get_front, get_last}
use Rattle.dwarf_abbrev.specs.declared.forks.Fork.{Fork}
use Rattle.dwarf_abbrev.specs.inner.Forks.{node, here_of, behind, is_odd, found, IsClosed, Side}

-- ---- nodes

pub node_at : (forks : List Fork) (n : ℕ) → (n ≡ 0 → ⊥) → node forks n ≡ slice_get forks (n - 1)
node_at forks zero some = absurd (some refl)
node_at forks (suc i) some = let e : i ≡ suc i - 1 = omega arith in ap (slice_get forks) e

pub node_front : (xs more : List Fork) (n : ℕ) → n ≤ length xs → node (xs ++ more) n ≡ node xs n
node_front xs more zero inside = refl
node_front xs more (suc i) inside = elim (slice_get_cases xs i).1 [
  | inl s ↦ get_front xs more i s.0 s.2 ∙ sym s.2
  | inr s ↦ absurd (omega (arith, inside, s.0))
]

pub node_last : (xs : List Fork) (f : Fork) (n : ℕ) → n ≡ length xs + 1 → node (xs ++ f ∷ []) n ≡ Some f
node_last xs f zero is = absurd (omega (arith, is))
node_last xs f (suc i) is = let e : i ≡ length xs = omega (arith, is) in ap (slice_get (xs ++ f ∷ [])) e ∙ get_last xs f

node_past : (xs : List Fork) (n : ℕ) → length xs < n → node xs n ≡ None
node_past xs zero past = absurd (omega (arith, past))
node_past xs (suc i) past = slice_get_past xs i (omega (arith, past))

behind_both : (f : Fork) (most : ℕ) (is_set : Bool) → f.even ≤ most → f.odd ≤ most → behind is_set (Some f) ≤ most
behind_both f most true even odd = odd
behind_both f most false even odd = even

closed_at : (xs : List Fork) (f : Fork) → IsClosed xs → f.even ≤ length xs → f.odd ≤ length xs → IsClosed (xs ++ f ∷ [])
closed_at xs f closed even odd n is_set = elim (cases_lt (length xs) n) [
  | inr inside ↦ subst (λ (o : Option Fork). behind is_set o ≤ length (xs ++ f ∷ [])) (sym (node_front xs (f ∷ []) n inside)) (omega (arith, closed n is_set, length-append xs (f ∷ [])))
  | inl past ↦ elim (cases_lt (length xs + 1) n) [
    | inr here ↦
        let last : node (xs ++ f ∷ []) n ≡ Some f = node_last xs f n (omega (arith, past, here)) in
        let low = behind_both f (length xs) is_set even odd in
        subst (λ (o : Option Fork). behind is_set o ≤ length (xs ++ f ∷ [])) (sym last) (omega (arith, low, length-append xs (f ∷ [])))
    | inl none ↦ subst (λ (o : Option Fork). behind is_set o ≤ length (xs ++ f ∷ [])) (sym (node_past (xs ++ f ∷ []) n (omega (arith, none, length-append xs (f ∷ []))))) (omega arith)
  ]
]

pub closed_push : (xs all : List Fork) (f : Fork) → all ≡ xs ++ f ∷ [] → IsClosed xs → f.even ≤ length xs → f.odd ≤ length xs → IsClosed all
closed_push xs all f is closed even odd = subst (λ (l : List Fork). IsClosed l) (sym is) (closed_at xs f closed even odd)

-- ---- maps

pub found_front : (xs more : List Fork) → IsClosed xs → (fuel n k : ℕ) → n ≤ length xs → found (xs ++ more) fuel n k ≡ found xs fuel n k
unfolding found
found_front xs more closed zero n k inside = ap here_of (node_front xs more n inside)
found_front xs more closed (suc fuel) n k inside =
    rw (node_front xs more n inside) (ap (λ (z : ℕ). if eqb k 0 then here_of (node xs n) else z) (found_front xs more closed fuel (behind (is_odd k) (node xs n)) (k / 2) (closed n (is_odd k))))

pub found_push : (xs all : List Fork) (f : Fork) → all ≡ xs ++ f ∷ [] → IsClosed xs → (fuel n k : ℕ) → n ≤ length xs → found all fuel n k ≡ found xs fuel n k
found_push xs all f is closed fuel n k inside = ap (λ (l : List Fork). found l fuel n k) is ∙ found_front xs (f ∷ []) closed fuel n k inside

-- what a key has that has another bit
pub found_bit : (xs : List Fork) (fuel n k : ℕ) (o : Option Fork) → node xs n ≡ o → (k ≡ 0 → ⊥) → k ≤ fuel → found xs fuel n k ≡ found xs (fuel - 1) (behind (is_odd k) o) (k / 2)
unfolding found
found_bit xs zero n k o there some inside = absurd (some (omega (arith, inside)))
found_bit xs (suc m) n k o there some inside = let e : suc m - 1 ≡ m = omega arith in rw (e, there, ne_eqb k 0 some) refl

pub found_none : (xs : List Fork) (fuel n : ℕ) (o : Option Fork) → node xs n ≡ o → found xs fuel n 0 ≡ here_of o
unfolding found
found_none xs zero n o there = ap here_of there
found_none xs (suc m) n o there = ap here_of there

pub found_nothing : (xs : List Fork) (fuel k : ℕ) → found xs fuel 0 k ≡ 0
unfolding found
found_nothing xs zero k = refl
found_nothing xs (suc m) k = by (eqb k 0) (found_nothing xs m (k / 2))
  where
    by : (b : Bool) → found xs m 0 (k / 2) ≡ 0 → (if b then 0 else found xs m 0 (k / 2)) ≡ 0
    by true h = refl
    by false h = h

-- ---- bits of keys

halves : (a b : ℕ) (t : Bool) → is_odd a ≡ t → is_odd b ≡ t → a / 2 ≡ b / 2 → a ≡ b
halves a b true ea eb same = omega (arith, eqb-true (a % 2) 1 ea, eqb-true (b % 2) 1 eb, same)
halves a b false ea eb same = elim (eqb_tells (a % 2) 1) [
  | inl s ↦ absurd (eqb-false (a % 2) 1 ea s.1)
  | inr s ↦ elim (eqb_tells (b % 2) 1) [ inl r ↦ absurd (eqb-false (b % 2) 1 eb r.1) | inr r ↦ omega (arith, s.1, r.1, same) ]
]

same_halves : (a b : ℕ) (t : Bool) → is_odd a ≡ t → is_odd b ≡ t → eqb (a / 2) (b / 2) ≡ eqb a b
same_halves a b t ea eb = elim (eqb_tells a b) [
  | inl s ↦ eq-eqb (a / 2) (b / 2) (ap (λ (n : ℕ). n / 2) s.1) ∙ sym s.0
  | inr s ↦ ne_eqb (a / 2) (b / 2) (λ same. s.1 (halves a b t ea eb same)) ∙ sym s.0
]

-- ---- a map with a pair more

-- the key 0
pub with_here : (xs all : List Fork) (f : Fork) (number made : ℕ) → IsClosed xs → f.even ≡ behind false (node xs number) → f.odd ≡ behind true (node xs number) → all ≡ xs ++ f ∷ [] → made ≡ length xs + 1
    → (fuel k : ℕ) → k ≤ fuel → found all fuel made k ≡ (if eqb 0 k then f.here else found xs fuel number k)
with_here xs all f number made closed even odd is number_is fuel k inside = elim (eqb_tells 0 k) [
  | inl s ↦ rw s.0 (ap (found all fuel made) (sym s.1) ∙ found_none all fuel made (Some f) there)
  | inr s ↦
      let some : k ≡ 0 → ⊥ = λ e. s.1 (sym e) in
      rw s.0
      (found_bit all fuel made k (Some f) there some inside
      ∙ ap (λ (n : ℕ). found all (fuel - 1) n (k / 2)) (both (is_odd k))
      ∙ found_push xs all f is closed (fuel - 1) (behind (is_odd k) (node xs number)) (k / 2) (closed number (is_odd k))
      ∙ sym (found_bit xs fuel number k (node xs number) refl some inside))
]
  where
    there : node all made ≡ Some f
    there = ap (λ (l : List Fork). node l made) is ∙ node_last xs f made number_is

    both : (is_set : Bool) → behind is_set (Some f) ≡ behind is_set (node xs number)
    both true = odd
    both false = even

pub odd_side : (child : ℕ) (old : Option Fork) (f : Fork) → f.odd ≡ child → f.even ≡ behind false old → (is_set : Bool) → Side true child old f is_set
odd_side child old f odd even true = inl (refl, odd)
odd_side child old f odd even false = inr (λ e. (let no : false ≡ true = e in cc), even)

pub even_side : (child : ℕ) (old : Option Fork) (f : Fork) → f.even ≡ child → f.odd ≡ behind true old → (is_set : Bool) → Side false child old f is_set
even_side child old f even odd false = inl (refl, even)
even_side child old f even odd true = inr (λ e. (let no : true ≡ false = e in cc), odd)

-- A map behind a bit of its keys has the pair, and that behind the other bit stays.
pub with_bit : (xs mid all : List Fork) (f : Fork) (number key value child made : ℕ) (b : Bool) → IsClosed xs → IsClosed mid → length xs ≤ length mid
    → ((fuel n k : ℕ) → n ≤ length xs → found mid fuel n k ≡ found xs fuel n k)
    → (key ≡ 0 → ⊥) → is_odd key ≡ b → child ≤ length mid
    → ((fuel k : ℕ) → k ≤ fuel → found mid fuel child k ≡ (if eqb (key / 2) k then value else found xs fuel (behind b (node xs number)) k))
    → f.here ≡ here_of (node xs number) → ((is_set : Bool) → Side b child (node xs number) f is_set)
    → all ≡ mid ++ f ∷ [] → made ≡ length mid + 1
    → (fuel k : ℕ) → k ≤ fuel → found all fuel made k ≡ (if eqb key k then value else found xs fuel number k)
with_bit xs mid all f number key value child made b closed closed_mid grows same some odd_is inside child_is here sides is number_is fuel k within = elim (eqb_tells k 0) [
  | inl s ↦
      let none : eqb key k ≡ false = ne_eqb key k (λ e. some (e ∙ s.1)) in
      rw none (ap (found all fuel made) s.1 ∙ found_none all fuel made (Some f) there ∙ here ∙ sym (ap (found xs fuel number) s.1 ∙ found_none xs fuel number (node xs number) refl))
  | inr s ↦ further s.1
]
  where
    there : node all made ≡ Some f
    there = ap (λ (l : List Fork). node l made) is ∙ node_last mid f made number_is

    further : (k ≡ 0 → ⊥) → found all fuel made k ≡ (if eqb key k then value else found xs fuel number k)
    further more =
        let m = fuel - 1 in
        let half : k / 2 ≤ m = omega (arith, within, more) in
        let old = found_bit xs fuel number k (node xs number) refl more within in
        let new = found_bit all fuel made k (Some f) there more within in
        elim (sides (is_odd k)) [
          | inl s ↦
              let equal : eqb (key / 2) (k / 2) ≡ eqb key k = same_halves key k b odd_is s.0 in
              new
              ∙ ap (λ (n : ℕ). found all m n (k / 2)) s.1
              ∙ found_push mid all f is closed_mid m child (k / 2) inside
              ∙ child_is m (k / 2) half
              ∙ ap (λ (t : Bool). if t then value else found xs m (behind b (node xs number)) (k / 2)) equal
              ∙ ap (λ (n : ℕ). if eqb key k then value else n) (ap (λ (u : Bool). found xs m (behind u (node xs number)) (k / 2)) (sym s.0) ∙ sym old)
          | inr s ↦
              let other : eqb key k ≡ false = ne_eqb key k (λ e. s.0 (ap is_odd (sym e) ∙ odd_is)) in
              let low : behind (is_odd k) (node xs number) ≤ length xs = closed number (is_odd k) in
              rw other
              (new
              ∙ ap (λ (n : ℕ). found all m n (k / 2)) s.1
              ∙ found_push mid all f is closed_mid m (behind (is_odd k) (node xs number)) (k / 2) (omega (arith, low, grows))
              ∙ same m (behind (is_odd k) (node xs number)) (k / 2) low
              ∙ sym old)
        ]

pub side_low : (b : Bool) (child most : ℕ) (old : Option Fork) (f : Fork) (is_set : Bool) → Side b child old f is_set → child ≤ most → behind is_set old ≤ most → behind is_set (Some f) ≤ most
side_low b child most old f is_set side low other = elim side [ inl s ↦ omega (arith, s.1, low) | inr s ↦ omega (arith, s.1, other) ]

-- ---- an answer with a state

pub either_way : {A E : Type 0} (r : Result A E) (P Q G : Type 0) → OnOk r P → OnErr r Q → (P → G) → (Q → G) → G
either_way (Ok x) P Q G ok err from_ok from_err = from_ok ok
either_way (Err e) P Q G ok err from_ok from_err = from_err err

pub on_value : {A E : Type 0} (r : Result A E) (P : Type 0) (Q R : A → Type 0) → OnOk r P → IfOk r Q → ((x : A) → P → Q x → R x) → IfOk r R
on_value (Ok x) P Q R ok value to = to x ok value
on_value (Err e) P Q R ok value to = tt
