-- Lists that share what they have in common, with the maps that find their values.
use Rattle.std.proofs.Common.{◌≡◌, ℕ, zero, suc, ◌+◌, ◌-◌, ◌<◌, ◌≤◌, ◌⊎◌, Bool, true, false, eqb, List, [], ◌∷◌, ◌++◌, length, Option, Some, None, refl, sym, ap, subst, ◌∙◌, inl, inr, arith, length-append}
use Rattle.std.specs.Prelude.{◌||◌, drop, slice_get, fold, find, option_map, take, if◌then◌else◌, Result, Ok, Err, IfOk}
use Rattle.std.specs.Option.{option_or, is_some}
use Rattle.std.proofs.lemmas.Bool.{cases_lt, eq-eqb, eqb-true, ne_eqb}
use Rattle.std.proofs.lemmas.List.Sums.{fold-append}
use Rattle.std.proofs.lemmas.Option.{same_Some, slice_get_cases, slice_get_past}
use Rattle.pm_text.proofs.Lists.{get_front, get_last}
use Rattle.dwarf_abbrev.specs.declared.forks.Fork.{Fork}
use Rattle.dwarf_abbrev.specs.declared.shared.Link.{Link}
use Rattle.dwarf_abbrev.specs.calls.Shared.{or_empty, list_of}
use Rattle.dwarf_abbrev.specs.inner.Forks.{node, behind, found, IsClosed}
use Rattle.dwarf_abbrev.specs.inner.Linked.{with_link, lists, first_of, map_in, map_of, rest_in, rest_of, near_or, FindsBehind, Finds}
use Rattle.dwarf_abbrev.proofs.TrieLaws.{found_nothing}

-- ---- lists

pub list_front : {A : Type 0} (xs more : List (List A)) (n : ℕ) → n ≤ length xs → list_of (xs ++ more) n ≡ list_of xs n
list_front xs more zero inside = refl
list_front xs more (suc i) inside = elim (slice_get_cases xs i).1 [
  | inl s ↦ ap or_empty (get_front xs more i s.0 s.2 ∙ sym s.2)
  | inr s ↦ absurd (omega (arith, inside, s.0))
]

pub list_last : {A : Type 0} (xs : List (List A)) (x : List A) (n : ℕ) → n ≡ length xs + 1 → list_of (xs ++ x ∷ []) n ≡ x
list_last xs x zero is = absurd (omega (arith, is))
list_last xs x (suc i) is = let e : i ≡ length xs = omega (arith, is) in ap (λ (k : ℕ). or_empty (slice_get (xs ++ x ∷ []) k)) e ∙ ap or_empty (get_last xs x)

list_past : {A : Type 0} (xs : List (List A)) (n : ℕ) → length xs < n → list_of xs n ≡ []
list_past xs zero past = absurd (omega (arith, past))
list_past xs (suc i) past = ap or_empty (slice_get_past xs i (omega (arith, past)))

-- where a number stands
place : (len n : ℕ) → (n ≤ len) ⊎ ((n ≡ len + 1) ⊎ (len + 1 < n))
place len n = elim (cases_lt len n) [
  | inr inside ↦ inl inside
  | inl past ↦ inr (elim (cases_lt (len + 1) n) [ inr here ↦ inl (omega (arith, past, here)) | inl more ↦ inr more ])
]

module _ {T : Type 0} where
  linked_length : (before : List (List T)) (links : List (Link T)) → length (fold with_link before links) ≡ length before + length links
  linked_length before [] = omega arith
  linked_length before (l ∷ links) = omega (arith, linked_length (with_link before l) links, length-append before ((l.value ∷ list_of before l.rest) ∷ []))

  pub lists_length : (links : List (Link T)) → length (lists links) ≡ length links
  lists_length links = omega (arith, linked_length [] links)

  pub lists_more : (links all : List (Link T)) (l : Link T) → all ≡ links ++ l ∷ [] → lists all ≡ lists links ++ (l.value ∷ list_of (lists links) l.rest) ∷ []
  lists_more links all l is = ap lists is ∙ fold-append with_link [] links (l ∷ [])

  -- ---- links

  first_front : (links more : List (Link T)) (n : ℕ) → n ≤ length links → first_of (links ++ more) n ≡ first_of links n
  first_front links more zero inside = refl
  first_front links more (suc i) inside = elim (slice_get_cases links i).1 [
    | inl s ↦ ap (option_map (λ (l : Link T). l.value)) (get_front links more i s.0 s.2 ∙ sym s.2)
    | inr s ↦ absurd (omega (arith, inside, s.0))
  ]

  pub first_at : (links : List (Link T)) (n : ℕ) → (n ≡ 0 → ⊥) → first_of links n ≡ option_map (λ l. l.value) (slice_get links (n - 1))
  first_at links zero some = absurd (some refl)
  first_at links (suc i) some = let e : i ≡ suc i - 1 = omega arith in ap (λ (k : ℕ). option_map (λ (l : Link T). l.value) (slice_get links k)) e

  pub map_at : (links : List (Link T)) (n : ℕ) → (n ≡ 0 → ⊥) → map_of links n ≡ map_in (slice_get links (n - 1))
  map_at links zero some = absurd (some refl)
  map_at links (suc i) some = let e : i ≡ suc i - 1 = omega arith in ap (λ (k : ℕ). map_in (slice_get links k)) e

  map_front : (links more : List (Link T)) (n : ℕ) → n ≤ length links → map_of (links ++ more) n ≡ map_of links n
  map_front links more zero inside = refl
  map_front links more (suc i) inside = elim (slice_get_cases links i).1 [
    | inl s ↦ ap map_in (get_front links more i s.0 s.2 ∙ sym s.2)
    | inr s ↦ absurd (omega (arith, inside, s.0))
  ]

  map_last : (links : List (Link T)) (l : Link T) (n : ℕ) → n ≡ length links + 1 → map_of (links ++ l ∷ []) n ≡ l.map
  map_last links l zero is = absurd (omega (arith, is))
  map_last links l (suc i) is = let e : i ≡ length links = omega (arith, is) in ap (λ (k : ℕ). map_in (slice_get (links ++ l ∷ []) k)) e ∙ ap map_in (get_last links l)

  map_past : (links : List (Link T)) (n : ℕ) → length links < n → map_of links n ≡ 0
  map_past links zero past = refl
  map_past links (suc i) past = ap map_in (slice_get_past links i (omega (arith, past)))

  pub rest_at : (links : List (Link T)) (n : ℕ) → (n ≡ 0 → ⊥) → rest_of links n ≡ rest_in (slice_get links (n - 1))
  rest_at links zero some = absurd (some refl)
  rest_at links (suc i) some = let e : i ≡ suc i - 1 = omega arith in ap (λ (k : ℕ). rest_in (slice_get links k)) e

  rest_front : (links more : List (Link T)) (n : ℕ) → n ≤ length links → rest_of (links ++ more) n ≡ rest_of links n
  rest_front links more zero inside = refl
  rest_front links more (suc i) inside = elim (slice_get_cases links i).1 [
    | inl s ↦ ap rest_in (get_front links more i s.0 s.2 ∙ sym s.2)
    | inr s ↦ absurd (omega (arith, inside, s.0))
  ]

  rest_last : (links : List (Link T)) (l : Link T) (n : ℕ) → n ≡ length links + 1 → rest_of (links ++ l ∷ []) n ≡ l.rest
  rest_last links l zero is = absurd (omega (arith, is))
  rest_last links l (suc i) is = let e : i ≡ length links = omega (arith, is) in ap (λ (k : ℕ). rest_in (slice_get (links ++ l ∷ []) k)) e ∙ ap rest_in (get_last links l)

  rest_past : (links : List (Link T)) (n : ℕ) → length links < n → rest_of links n ≡ 0
  rest_past links zero past = refl
  rest_past links (suc i) past = ap rest_in (slice_get_past links i (omega (arith, past)))

  -- ---- what lists begin with

  front_stays : (before : List (List T)) (links : List (Link T)) (k : ℕ) (ys : List T) → slice_get before k ≡ Some ys → slice_get (fold with_link before links) k ≡ Some ys
  front_stays before [] k ys e = e
  front_stays before (l ∷ links) k ys e = front_stays (with_link before l) links k ys (get_front before ((l.value ∷ list_of before l.rest) ∷ []) k ys e)

  begins : (before : List (List T)) (links : List (Link T)) (i k : ℕ) → k ≡ length before + i → slice_get (or_empty (slice_get (fold with_link before links) k)) 0 ≡ option_map (λ (l : Link T). l.value) (slice_get links i)
  begins before [] i k is = ap (λ (o : Option (List T)). slice_get (or_empty o) 0) (slice_get_past before k (omega (arith, is)))
  begins before (l ∷ links) zero k is =
      let here = l.value ∷ list_of before l.rest in
      let last : k ≡ length before = omega (arith, is) in
      let there : slice_get (with_link before l) k ≡ Some here = ap (slice_get (with_link before l)) last ∙ get_last before here in
      ap (λ (o : Option (List T)). slice_get (or_empty o) 0) (front_stays (with_link before l) links k here there)
  begins before (l ∷ links) (suc i) k is = begins (with_link before l) links i k (omega (arith, is, length-append before ((l.value ∷ list_of before l.rest) ∷ [])))

  pub first_is : (links : List (Link T)) (n : ℕ) → first_of links n ≡ slice_get (list_of (lists links) n) 0
  first_is links zero = refl
  first_is links (suc i) = sym (begins [] links i i (omega arith))

  -- ---- what finds values

  pub finds_none : (code : T → ℕ) → Finds code [] []
  finds_none code = record {
    closed = λ n odd. closed_none n odd;
    follows = record {
      rest = λ n. ap (list_of (lists {T = T} [])) (no_rest n) ∙ ap (drop 1) (sym (no_list n));
      there = λ n. omega (arith, no_rest n);
    };
    there = λ n. omega (arith, no_map n);
    inside = λ n fuel c small. omega (arith, none_found n fuel c);
    first = λ n fuel c small.
        ap (λ (xs : List T). near_or code xs c (first_of [] (found [] fuel (map_of {T = T} [] n) c))) (no_list n) ∙ ap (first_of []) (none_found n fuel c) ∙ ap (find (λ x. eqb (code x) c)) (sym (no_list n));
  }
    where
      closed_none : (n : ℕ) (odd : Bool) → behind odd (node [] n) ≤ 0
      closed_none zero odd = omega arith
      closed_none (suc i) odd = omega arith

      no_map : (n : ℕ) → map_of {T = T} [] n ≡ 0
      no_map zero = refl
      no_map (suc i) = refl

      no_rest : (n : ℕ) → rest_of {T = T} [] n ≡ 0
      no_rest zero = refl
      no_rest (suc i) = refl

      no_list : (n : ℕ) → list_of (lists {T = T} []) n ≡ []
      no_list zero = refl
      no_list (suc i) = refl

      none_found : (n fuel c : ℕ) → found [] fuel (map_of {T = T} [] n) c ≡ 0
      none_found n fuel c = ap (λ (m : ℕ). found [] fuel m c) (no_map n) ∙ found_nothing [] fuel c

  pub finds_empty : (code : T → ℕ) (links : List (Link T)) (forks : List Fork) → links ≡ [] → forks ≡ [] → Finds code links forks
  finds_empty code links forks el ef = subst (λ (fs : List Fork). Finds code links fs) (sym ef) (subst (λ (ls : List (Link T)). Finds code ls []) (sym el) (finds_none code))

  -- More nodes stand behind those that are there.
  pub finds_kept : (code : T → ℕ) (links : List (Link T)) (before after : List Fork) → Finds code links before → IsClosed after → length before ≤ length after
      → ((fuel n k : ℕ) → n ≤ length before → found after fuel n k ≡ found before fuel n k) → Finds code links after
  finds_kept code links before after h closed grows same = record {
    closed = closed;
    follows = h.follows;
    there = λ n. omega (arith, h.there n, grows);
    inside = λ n fuel c small. omega (arith, h.inside n fuel c small, same fuel (map_of links n) c (h.there n));
    first = λ n fuel c small. ap (λ (v : ℕ). near_or code (list_of (lists links) n) c (first_of links v)) (same fuel (map_of links n) c (h.there n)) ∙ h.first n fuel c small;
  }

pub if_made : {E : Type 0} (r : Result ℕ E) (P Q : ℕ → Type 0) → ((made : ℕ) → P made → Q made) → IfOk r P → IfOk r Q
if_made (Ok made) P Q to h = to made h
if_made (Err e) P Q to h = tt

-- ---- the first few values of a list

module _ {T : Type 0} (f : T → Bool) where
  skip : (x : T) (xs : List T) → f x ≡ false → find f (x ∷ xs) ≡ find f xs
  skip x xs tie = rw tie refl

  hit : (x : T) (xs : List T) → f x ≡ true → find f (x ∷ xs) ≡ Some x
  hit x xs tie = rw tie refl

  -- one more in front
  in_front : (x : T) (xs ys : List T) (o : Option T) → (find f xs ≡ None → find f ys ≡ o) → find f (x ∷ xs) ≡ None → find f (x ∷ ys) ≡ o
  in_front x xs ys o more far = by (f x) refl
    where
      by : (b : Bool) → f x ≡ b → find f (x ∷ ys) ≡ o
      by true tie = absurd (let no : Some x ≡ None = sym (hit x xs tie) ∙ far in cc)
      by false tie = skip x ys tie ∙ more (sym (skip x xs tie) ∙ far)

  found_in_front : (x y : T) (xs ys : List T) → (find f xs ≡ Some y → find f ys ≡ Some y) → find f (x ∷ xs) ≡ Some y → find f (x ∷ ys) ≡ Some y
  found_in_front x y xs ys more e = by (f x) refl
    where
      by : (b : Bool) → f x ≡ b → find f (x ∷ ys) ≡ Some y
      by true tie = hit x ys tie ∙ sym (hit x xs tie) ∙ e
      by false tie = skip x ys tie ∙ more (sym (skip x xs tie) ∙ e)

  -- nothing stands behind the first few
  near_end : (k : ℕ) (xs : List T) → slice_get (drop k xs) 0 ≡ None → find f (take k xs) ≡ None → find f (take (suc k) xs) ≡ None
  near_end zero [] e far = refl
  near_end zero (x ∷ xs) e far = absurd (let no : Some x ≡ None = e in cc)
  near_end (suc k) [] e far = refl
  near_end (suc k) (x ∷ xs) e far = in_front x (take k xs) (take (suc k) xs) None (near_end k xs e) far

  -- another one stands behind the first few
  near_more : (k : ℕ) (xs : List T) (y : T) → slice_get (drop k xs) 0 ≡ Some y → f y ≡ false → find f (take k xs) ≡ None → find f (take (suc k) xs) ≡ None
  near_more zero [] y e tie far = refl
  near_more zero (x ∷ xs) y e tie far = skip x [] (ap f (same_Some _ _ e) ∙ tie)
  near_more (suc k) [] y e tie far = refl
  near_more (suc k) (x ∷ xs) y e tie far = in_front x (take k xs) (take (suc k) xs) None (near_more k xs y e tie) far

  -- the first one stands behind the first few
  near_past : (k : ℕ) (xs : List T) (y : T) → slice_get (drop k xs) 0 ≡ Some y → f y ≡ true → find f (take k xs) ≡ None → find f xs ≡ Some y
  near_past zero [] y e tie far = absurd (let no : None ≡ Some y = e in cc)
  near_past zero (x ∷ xs) y e tie far = hit x xs (ap f (same_Some _ _ e) ∙ tie) ∙ e
  near_past (suc k) [] y e tie far = absurd (let no : None ≡ Some y = e in cc)
  near_past (suc k) (x ∷ xs) y e tie far = in_front x (take k xs) xs (Some y) (near_past k xs y e tie) far

  -- the first one is one of the first few
  pub near_found : (k : ℕ) (xs : List T) (y : T) → find f (take k xs) ≡ Some y → find f xs ≡ Some y
  near_found zero xs y e = absurd (let no : None ≡ Some y = e in cc)
  near_found (suc k) [] y e = absurd (let no : None ≡ Some y = e in cc)
  near_found (suc k) (x ∷ xs) y e = found_in_front x y (take k xs) xs (near_found k xs y) e

  -- the first few of a list, or else what another one has
  near_whole : (k : ℕ) (xs : List T) (other : Option T) → (find f (take k xs) ≡ None → other ≡ find f xs) → option_or (find f (take k xs)) other ≡ find f xs
  near_whole k xs other far = by (find f (take k xs)) refl
    where
      by : (o : Option T) → find f (take k xs) ≡ o → option_or o other ≡ find f xs
      by (Some y) e = sym (near_found k xs y e)
      by None e = far e

  -- ---- one by one

  pub none_near : (k : ℕ) (xs : List T) → slice_get xs 0 ≡ None → None ≡ find f (take k xs)
  none_near zero xs e = refl
  none_near (suc k) [] e = refl
  none_near (suc k) (x ∷ xs) e = absurd (let no : Some x ≡ None = e in cc)

  pub front_near : (k : ℕ) (xs : List T) (x : T) → (k ≡ 0 → ⊥) → slice_get xs 0 ≡ Some x → f x ≡ true → Some x ≡ find f (take k xs)
  front_near zero xs x some e tie = absurd (some refl)
  front_near (suc k) [] x some e tie = absurd (let no : None ≡ Some x = e in cc)
  front_near (suc k) (y ∷ ys) x some e tie = sym (hit y (take k ys) (ap f (same_Some _ _ e) ∙ tie) ∙ e)

  pub other_near : (k : ℕ) (xs : List T) (x : T) → (k ≡ 0 → ⊥) → slice_get xs 0 ≡ Some x → f x ≡ false → find f (take (k - 1) (drop 1 xs)) ≡ find f (take k xs)
  other_near zero xs x some e tie = absurd (some refl)
  other_near (suc k) [] x some e tie = absurd (let no : None ≡ Some x = e in cc)
  other_near (suc k) (y ∷ ys) x some e tie =
      let one : suc k - 1 ≡ k = omega arith in
      ap (λ (n : ℕ). find f (take n ys)) one ∙ sym (skip y (take k ys) (ap f (same_Some _ _ e) ∙ tie))

drop_none : {A : Type 0} (k : ℕ) → drop {A = A} k [] ≡ []
drop_none zero = refl
drop_none (suc k) = refl

pub drop_next : {A : Type 0} (k : ℕ) (xs : List A) → (k ≡ 0 → ⊥) → drop (k - 1) (drop 1 xs) ≡ drop k xs
drop_next zero xs some = absurd (some refl)
drop_next (suc k) [] some = drop_none (suc k - 1)
drop_next (suc k) (x ∷ xs) some = let one : suc k - 1 ≡ k = omega arith in ap (λ (n : ℕ). drop n xs) one

-- ---- a value of another code in front

-- None of the first eight values has the code.
pub map_finds : {T : Type 0} (code : T → ℕ) (links : List (Link T)) (forks : List Fork) → Finds code links forks → (n fuel c : ℕ) → c ≤ fuel → find (λ x. eqb (code x) c) (take 8 (list_of (lists links) n)) ≡ None
    → first_of links (found forks fuel (map_of links n) c) ≡ find (λ x. eqb (code x) c) (list_of (lists links) n)
map_finds code links forks h n fuel c small far = ap (λ (o : Option _). option_or o (first_of links (found forks fuel (map_of links n) c))) (sym far) ∙ h.first n fuel c small

module _ {T : Type 0} (code : T → ℕ) (links : List (Link T)) (before : List Fork) (h : Finds code links before) (n last : ℕ) (passed : list_of (lists links) last ≡ drop 7 (list_of (lists links) n)) where
  abbrev pub value_in : ℕ → ℕ → ℕ
  value_in fuel c = found before fuel (map_of links n) c

  abbrev pub near_in : ℕ → Option T
  near_in c = find (λ x. eqb (code x) c) (take 7 (list_of (lists links) n))

  abbrev pub answer_in : ℕ → Option T
  answer_in c = find (λ x. eqb (code x) c) (list_of (lists links) n)

  begins_last : (o : Option T) → first_of links last ≡ o → slice_get (drop 7 (list_of (lists links) n)) 0 ≡ o
  begins_last o e = ap (λ (xs : List T). slice_get xs 0) (sym passed) ∙ sym (first_is links last) ∙ e

  pub behind_none : (front : ℕ) → first_of links last ≡ None → FindsBehind code links before (map_of links n) n front
  behind_none front none fuel c small = (
    h.inside n fuel c small,
    λ other far. map_finds code links before h n fuel c small (near_end (λ x. eqb (code x) c) 7 (list_of (lists links) n) (begins_last None none) far),
  )

  module _ (x : T) (some : first_of links last ≡ Some x) where
    other_is : (fuel c : ℕ) → c ≤ fuel → eqb (code x) c ≡ false → near_in c ≡ None → first_of links (value_in fuel c) ≡ answer_in c
    other_is fuel c small tie far = map_finds code links before h n fuel c small (near_more (λ y. eqb (code y) c) 7 (list_of (lists links) n) x (begins_last (Some x) some) tie far)

    last_is : (c : ℕ) → eqb (code x) c ≡ true → near_in c ≡ None → first_of links last ≡ answer_in c
    last_is c tie far = some ∙ sym (near_past (λ y. eqb (code y) c) 7 (list_of (lists links) n) x (begins_last (Some x) some) tie far)

    module _ (after : List Fork) (inside : last ≤ length links) (made front : ℕ) (near : Bool) (is_near : near ≡ (eqb (code x) front || is_some (near_in (code x))))
        (value : (fuel c : ℕ) → c ≤ fuel → found after fuel made c ≡ (if near then value_in fuel c else (if eqb (code x) c then last else value_in fuel c))) where
      abbrev Behind : ℕ → ℕ → Type 0
      Behind fuel c = (found after fuel made c ≤ length links) × (eqb front c ≡ false → near_in c ≡ None → first_of links (found after fuel made c) ≡ answer_in c)

      by_value : (fuel c v : ℕ) → found after fuel made c ≡ v → v ≤ length links → (eqb front c ≡ false → near_in c ≡ None → first_of links v ≡ answer_in c) → Behind fuel c
      by_value fuel c v is low first = (omega (arith, is, low), λ other far. ap (first_of links) is ∙ first other far)

      -- a code that is neither the front one's nor near
      not_near : (c : ℕ) → eqb (code x) c ≡ true → eqb front c ≡ false → near_in c ≡ None → near ≡ false
      not_near c tie other far =
          let same : code x ≡ c = eqb-true (code x) c tie in
          let apart : eqb (code x) front ≡ false = ne_eqb (code x) front (λ e. let no : eqb front c ≡ true = eq-eqb front c (sym e ∙ same) in absurd (let both : true ≡ false = sym no ∙ other in cc)) in
          let none : is_some (near_in (code x)) ≡ false = ap (λ (k : ℕ). is_some (near_in k)) same ∙ ap (λ (o : Option T). is_some o) far in
          is_near ∙ ap (λ (b : Bool). b || is_some (near_in (code x))) apart ∙ none

      by_tie : (fuel c : ℕ) → c ≤ fuel → (b : Bool) → eqb (code x) c ≡ b → (eqb front c ≡ false → near_in c ≡ None → near ≡ false) → found after fuel made c ≡ (if b then last else value_in fuel c) → Behind fuel c
      by_tie fuel c small true tie off is = by_value fuel c last is inside (λ other far. last_is c tie far)
      by_tie fuel c small false tie off is = by_value fuel c (value_in fuel c) is (h.inside n fuel c small) (λ other far. other_is fuel c small tie far)

      by_kept : (fuel c : ℕ) → c ≤ fuel → (b : Bool) → eqb (code x) c ≡ b → near ≡ true → found after fuel made c ≡ value_in fuel c → Behind fuel c
      by_kept fuel c small true tie kept is =
          by_value fuel c (value_in fuel c) is (h.inside n fuel c small) (λ other far. absurd (let both : true ≡ false = sym kept ∙ not_near c tie other far in cc))
      by_kept fuel c small false tie kept is = by_value fuel c (value_in fuel c) is (h.inside n fuel c small) (λ other far. other_is fuel c small tie far)

      by_near : (fuel c : ℕ) → c ≤ fuel → (b : Bool) → near ≡ b → found after fuel made c ≡ (if b then value_in fuel c else (if eqb (code x) c then last else value_in fuel c)) → Behind fuel c
      by_near fuel c small true near is = by_kept fuel c small (eqb (code x) c) refl near is
      by_near fuel c small false near is = by_tie fuel c small (eqb (code x) c) refl (λ other far. near) is

      pub behind_front : FindsBehind code links after made n front
      behind_front fuel c small = by_near fuel c small near refl (value fuel c small)

module _ {T : Type 0} (code : T → ℕ) (links all : List (Link T)) (before after : List Fork) (l : Link T) (h : Finds code links before) (closed : IsClosed after) (grows : length before ≤ length after)
    (same : (fuel n k : ℕ) → n ≤ length before → found after fuel n k ≡ found before fuel n k) (made : l.map ≤ length after) (there : l.rest ≤ length links)
    (behind : FindsBehind code links after l.map l.rest (code l.value))
    (is : all ≡ links ++ l ∷ []) where
  pub size : length all ≡ length links + 1
  size = omega (arith, ap length is, length-append links (l ∷ []))

  abbrev answer : ℕ → ℕ → Option T
  answer n c = find (λ x. eqb (code x) c) (list_of (lists all) n)

  -- what holds of the list of a number
  abbrev Found : ℕ → Type 0
  Found n = (map_of all n ≤ length after) × ((fuel c : ℕ) → c ≤ fuel → (found after fuel (map_of all n) c ≤ length all) × (near_or code (list_of (lists all) n) c (first_of all (found after fuel (map_of all n) c)) ≡ answer n c))

  old_value : (v : ℕ) → v ≤ length links → first_of all v ≡ first_of links v
  old_value v inside = ap (λ (ls : List (Link T)). first_of ls v) is ∙ first_front links (l ∷ []) v inside

  found_old : (n : ℕ) → n ≤ length links → Found n
  found_old n inside =
      let map_is : map_of all n ≡ map_of links n = ap (λ (ls : List (Link T)). map_of ls n) is ∙ map_front links (l ∷ []) n inside in
      let list_is : list_of (lists all) n ≡ list_of (lists links) n =
      ap (λ (ls : List (List T)). list_of ls n) (lists_more links all l is) ∙ list_front (lists links) ((l.value ∷ list_of (lists links) l.rest) ∷ []) n (omega (arith, inside, lists_length links)) in (
        omega (arith, map_is, h.there n, grows),
        λ fuel c small.
            let there : found after fuel (map_of all n) c ≡ found before fuel (map_of links n) c = ap (λ (m : ℕ). found after fuel m c) map_is ∙ same fuel (map_of links n) c (h.there n) in
            let low = h.inside n fuel c small in (
              omega (arith, there, low, size),
              ap (near_or code (list_of (lists all) n) c) (ap (first_of all) there ∙ old_value (found before fuel (map_of links n) c) low)
                  ∙ ap (λ (xs : List T). near_or code xs c (first_of links (found before fuel (map_of links n) c))) list_is
                  ∙ h.first n fuel c small ∙ ap (find (λ x. eqb (code x) c)) (sym list_is),
            ),
      )

  found_new : (n : ℕ) → n ≡ length links + 1 → Found n
  found_new n here =
      let map_is : map_of all n ≡ l.map = ap (λ (ls : List (Link T)). map_of ls n) is ∙ map_last links l n here in
      let list_is : list_of (lists all) n ≡ l.value ∷ list_of (lists links) l.rest =
      ap (λ (ls : List (List T)). list_of ls n) (lists_more links all l is) ∙ list_last (lists links) (l.value ∷ list_of (lists links) l.rest) n (omega (arith, here, lists_length links)) in (
        omega (arith, map_is, made),
        λ fuel c small. by_code n fuel c small here list_is (ap (λ (m : ℕ). found after fuel m c) map_is) (eqb (code l.value) c) refl,
      )
    where
      by_tie : (c v : ℕ) (b : Bool) → eqb (code l.value) c ≡ b
          → (eqb (code l.value) c ≡ false → find (λ x. eqb (code x) c) (take 7 (list_of (lists links) l.rest)) ≡ None → first_of links v ≡ find (λ x. eqb (code x) c) (list_of (lists links) l.rest))
          → near_or code (l.value ∷ list_of (lists links) l.rest) c (first_of links v) ≡ find (λ x. eqb (code x) c) (l.value ∷ list_of (lists links) l.rest)
      by_tie c v true tie first = rw tie refl
      by_tie c v false tie first =
          let whole = near_whole (λ x. eqb (code x) c) 7 (list_of (lists links) l.rest) (first_of links v) (first tie) in
          rw tie whole

      by_code : (n fuel c : ℕ) → c ≤ fuel → n ≡ length links + 1 → list_of (lists all) n ≡ l.value ∷ list_of (lists links) l.rest → found after fuel (map_of all n) c ≡ found after fuel l.map c
          → (b : Bool) → eqb (code l.value) c ≡ b → (found after fuel (map_of all n) c ≤ length all) × (near_or code (list_of (lists all) n) c (first_of all (found after fuel (map_of all n) c)) ≡ answer n c)
      by_code n fuel c small here list_is there b tie =
          let v = found after fuel l.map c in
          let low : v ≤ length links = (behind fuel c small).0 in
          let old : first_of all (found after fuel (map_of all n) c) ≡ first_of links v = ap (first_of all) there ∙ old_value v low in
          let both : near_or code (list_of (lists all) n) c (first_of all (found after fuel (map_of all n) c)) ≡ near_or code (l.value ∷ list_of (lists links) l.rest) c (first_of links v) =
          ap (λ (xs : List T). near_or code xs c (first_of all (found after fuel (map_of all n) c))) list_is ∙ ap (near_or code (l.value ∷ list_of (lists links) l.rest) c) old in
          (omega (arith, there, low, size), both ∙ by_tie c v b tie (λ other far. (behind fuel c small).1 other far) ∙ sym (ap (find (λ x. eqb (code x) c)) list_is))

  found_past : (n : ℕ) → length links + 1 < n → Found n
  found_past n past =
      let map_is : map_of all n ≡ 0 = map_past all n (omega (arith, past, size)) in
      let list_is : list_of (lists all) n ≡ [] = list_past (lists all) n (omega (arith, past, size, lists_length all)) in (
        omega (arith, map_is),
        λ fuel c small.
            let none : found after fuel (map_of all n) c ≡ 0 = ap (λ (m : ℕ). found after fuel m c) map_is ∙ found_nothing after fuel c in (
              omega (arith, none),
              ap (λ (xs : List T). near_or code xs c (first_of all (found after fuel (map_of all n) c))) list_is ∙ ap (first_of all) none ∙ ap (find (λ x. eqb (code x) c)) (sym list_is),
            ),
      )

  found_all : (n : ℕ) → Found n
  found_all n = elim (place (length links) n) [ inl inside ↦ found_old n inside | inr more ↦ elim more [ inl here ↦ found_new n here | inr past ↦ found_past n past ] ]

  -- the list behind the first value of that of a number
  abbrev Led : ℕ → Type 0
  Led n = (list_of (lists all) (rest_of all n) ≡ drop 1 (list_of (lists all) n)) × (rest_of all n ≤ length all)

  old_list : (n : ℕ) → n ≤ length links → list_of (lists all) n ≡ list_of (lists links) n
  old_list n inside = ap (λ (ls : List (List T)). list_of ls n) (lists_more links all l is) ∙ list_front (lists links) ((l.value ∷ list_of (lists links) l.rest) ∷ []) n (omega (arith, inside, lists_length links))

  led_old : (n : ℕ) → n ≤ length links → Led n
  led_old n inside =
      let rest_is : rest_of all n ≡ rest_of links n = ap (λ (ls : List (Link T)). rest_of ls n) is ∙ rest_front links (l ∷ []) n inside in
      let low = h.follows.there n in (
        ap (list_of (lists all)) rest_is ∙ old_list (rest_of links n) low ∙ h.follows.rest n ∙ ap (drop 1) (sym (old_list n inside)),
        omega (arith, rest_is, low, size),
      )

  led_new : (n : ℕ) → n ≡ length links + 1 → Led n
  led_new n here =
      let rest_is : rest_of all n ≡ l.rest = ap (λ (ls : List (Link T)). rest_of ls n) is ∙ rest_last links l n here in
      let list_is : list_of (lists all) n ≡ l.value ∷ list_of (lists links) l.rest =
      ap (λ (ls : List (List T)). list_of ls n) (lists_more links all l is) ∙ list_last (lists links) (l.value ∷ list_of (lists links) l.rest) n (omega (arith, here, lists_length links)) in (
        ap (list_of (lists all)) rest_is ∙ old_list l.rest there ∙ ap (drop 1) (sym list_is),
        omega (arith, rest_is, there, size),
      )

  led_past : (n : ℕ) → length links + 1 < n → Led n
  led_past n past =
      let rest_is : rest_of all n ≡ 0 = rest_past all n (omega (arith, past, size)) in
      let list_is : list_of (lists all) n ≡ [] = list_past (lists all) n (omega (arith, past, size, lists_length all)) in (ap (list_of (lists all)) rest_is ∙ ap (drop 1) (sym list_is), omega (arith, rest_is))

  led_all : (n : ℕ) → Led n
  led_all n = elim (place (length links) n) [ inl inside ↦ led_old n inside | inr more ↦ elim more [ inl here ↦ led_new n here | inr past ↦ led_past n past ] ]

  pub finds_link : Finds code all after
  finds_link = record {
    closed = closed;
    follows = record { rest = λ n. (led_all n).0; there = λ n. (led_all n).1 };
    there = λ n. (found_all n).0;
    inside = λ n fuel c small. ((found_all n).1 fuel c small).0;
    first = λ n fuel c small. ((found_all n).1 fuel c small).1;
  }
