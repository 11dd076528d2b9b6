-- Attributes in lists of which each is another one with an attribute in front.
use Rattle.std.proofs.Common.{◌≡◌, ℕ, zero, suc, ◌+◌, ◌-◌, ◌≤◌, ◌⊎◌, Bool, true, false, cond, List, [], ◌∷◌, ◌++◌, length, drop, Option, Some, None, refl, sym, ap, subst, ◌∙◌, inl, inr, arith, length-append}
use Rattle.std.specs.Prelude.{◌==◌, find, slice_get, option_map, unwrap_or, IfSome, Ok, Err}
use Rattle.std.proofs.lemmas.Bool.{cases_lt}
use Rattle.std.proofs.lemmas.List.{length-map}
use Rattle.std.proofs.lemmas.Option.{slice_get_past}
use Rattle.wasm_bytes.specs.Place.{Place, Read}
use Rattle.wasm_bytes.specs.Reading.{◌>>=◌}
use Rattle.wasm_bytes.proofs.Loops.{first}
use Rattle.dwarf_bytes.specs.Items.{each_item}
use Rattle.dwarf_abbrev.specs.calls.Shared.{or_empty, list_of}
use Rattle.dwarf_abbrev.proofs.LinkLaws.{list_front, list_last}
use Rattle.dwarf_info.specs.declared.form.Slot.{Slot}
use Rattle.dwarf_info.specs.declared.slots.KeptSlot.{KeptSlot}
use Rattle.dwarf_info.specs.inner.Joined.{takes_bytes, own_slots, held, counted, placed_in}
use Rattle.dwarf_info.specs.inner.Kept.{slots_in, slots_of, Begins, IsKept, IsFirst, AreKept}

-- ---- lists by their numbers

slots_get : (lists : List (List KeptSlot)) (i : ℕ) → or_empty (slice_get (slots_of lists) i) ≡ slots_in (or_empty (slice_get lists i))
slots_get [] i = refl
slots_get (l ∷ lists) zero = refl
slots_get (l ∷ lists) (suc i) = slots_get lists i

pub slots_list : (lists : List (List KeptSlot)) (n : ℕ) → list_of (slots_of lists) n ≡ slots_in (list_of lists n)
slots_list lists zero = refl
slots_list lists (suc i) = slots_get lists i

pub slots_length : (lists : List (List KeptSlot)) → length (slots_of lists) ≡ length lists
slots_length lists = length-map lists slots_in

slots_append : (lists more : List (List KeptSlot)) → slots_of (lists ++ more) ≡ slots_of lists ++ slots_of more
slots_append [] more = refl
slots_append (l ∷ lists) more = ap (λ rest. slots_in l ∷ rest) (slots_append lists more)

-- a list that begins with something is there
there_is : {A : Type 0} (lists : List (List A)) (n : ℕ) (x : A) → slice_get (list_of lists n) 0 ≡ Some x → n ≤ length lists
there_is lists zero x e = omega arith
there_is lists (suc i) x e = elim (cases_lt i (length lists)) [
  | inl inside ↦ omega (arith, inside)
  | inr past ↦ absurd (let no : None ≡ Some x = sym (ap (λ o. slice_get (or_empty o) 0) (slice_get_past lists i past)) ∙ e in cc)
]

-- what a list begins with, and what stands behind it
pub split : {A : Type 0} (xs : List A) (x : A) → slice_get xs 0 ≡ Some x → xs ≡ x ∷ drop 1 xs
split [] x e = absurd (let no : None ≡ Some x = e in cc)
split (y ∷ ys) x e = ap (λ (o : Option _). unwrap_or o y ∷ ys) e

pub nothing : {A : Type 0} (xs : List A) → slice_get xs 0 ≡ None → xs ≡ []
nothing [] e = refl
nothing (y ∷ ys) e = absurd (let no : Some y ≡ None = e in cc)

-- ---- slots that take bytes

own_skip : (s : Slot) (slots : List Slot) → takes_bytes s ≡ false → own_slots (s ∷ slots) ≡ own_slots slots
own_skip s slots e = ap (λ (b : Bool). cond b (s ∷ own_slots slots) (own_slots slots)) e

own_take : (s : Slot) (slots : List Slot) → takes_bytes s ≡ true → own_slots (s ∷ slots) ≡ s ∷ own_slots slots
own_take s slots e = ap (λ (b : Bool). cond b (s ∷ own_slots slots) (own_slots slots)) e

-- the first slot of a list that begins with one that takes bytes
pub own_first : (slots : List Slot) (s : Slot) → Begins slots → slice_get slots 0 ≡ Some s → own_slots slots ≡ s ∷ own_slots (drop 1 slots)
own_first slots s begins e =
    let takes : takes_bytes s ≡ true = subst (λ (o : Option Slot). IfSome o (λ x. takes_bytes x ≡ true)) e begins in
    ap own_slots (split slots s e) ∙ own_take s (drop 1 slots) takes

-- the list behind it, from which those that take bytes begin at another one
pub own_next : (lists : List (List Slot)) (list rest next : ℕ) (s : Slot) → Begins (list_of lists list) → slice_get (list_of lists list) 0 ≡ Some s → list_of lists rest ≡ drop 1 (list_of lists list)
    → own_slots (list_of lists next) ≡ own_slots (list_of lists rest) → own_slots (list_of lists list) ≡ s ∷ own_slots (list_of lists next)
own_next lists list rest next s begins e behind same =
    own_first (list_of lists list) s begins e ∙ ap (λ (xs : List Slot). s ∷ own_slots xs) (sym behind) ∙ ap (λ (xs : List Slot). s ∷ xs) (sym same)

pub each_one : {A B : Type 0} (f : A → Place → Read B) (x : A) (xs all : List A) (p q : Place) (y : B) → all ≡ x ∷ xs → f x p ≡ Ok (y, q) → each_item f all p ≡ (each_item f xs q >>= first y)
unfolding each_item
each_one f x xs all p q y is h = rw (is, h) refl

pub each_stops : {A B : Type 0} (f : A → Place → Read B) (x : A) (xs all : List A) (p : Place) (at : ℕ) → all ≡ x ∷ xs → f x p ≡ Err at → each_item f all p ≡ Err at
unfolding each_item
each_stops f x xs all p at is h = rw (is, h) refl

pub each_none : {A B : Type 0} (f : A → Place → Read B) (all : List A) (p : Place) → all ≡ [] → each_item f all p ≡ Ok ([], p)
unfolding each_item
each_none f all p is = rw is refl

module _ (lists : List (List KeptSlot)) (are : AreKept lists) where
  -- what is kept beside the first slot of a list
  first_kept : (n : ℕ) (k : KeptSlot) → slice_get (list_of lists n) 0 ≡ Some k → IsKept lists k (drop 1 (list_of lists n))
  first_kept n k e = subst (λ (ks : List KeptSlot). IsFirst lists ks) (split (list_of lists n) k e) (are n)

  module _ (n : ℕ) (k : KeptSlot) (e : slice_get (list_of lists n) 0 ≡ Some k) where
    whole : list_of (slots_of lists) n ≡ k.slot ∷ slots_in (drop 1 (list_of lists n))
    whole = slots_list lists n ∙ ap slots_in (split (list_of lists n) k e)

    pub kept_first : Some k.slot ≡ slice_get (list_of (slots_of lists) n) 0
    kept_first = sym (ap (λ (xs : List Slot). slice_get xs 0) whole)

    pub kept_there : n ≤ length lists
    kept_there = there_is lists n k e

    pub kept_begins : takes_bytes k.slot ≡ true → Begins (list_of (slots_of lists) n)
    kept_begins takes = subst (λ (xs : List Slot). Begins xs) (sym whole) takes

    pub next_same : takes_bytes k.slot ≡ false → own_slots (list_of (slots_of lists) k.next) ≡ own_slots (list_of (slots_of lists) n)
    next_same none = ap own_slots (slots_list lists k.next) ∙ (first_kept n k e).next ∙ sym (own_skip k.slot (slots_in (drop 1 (list_of lists n))) none) ∙ ap own_slots (sym whole)

    pub next_begins : Begins (list_of (slots_of lists) k.next)
    next_begins = subst (λ (xs : List Slot). Begins xs) (sym (slots_list lists k.next)) (first_kept n k e).begins

    pub next_inside : k.next ≤ length lists
    next_inside = (first_kept n k e).next_there

    abbrev Same : ℕ → Type 0
    Same m = own_slots (list_of (slots_of lists) m) ≡ own_slots (list_of (slots_of lists) n)

    same_by : (b : Bool) → takes_bytes k.slot ≡ b → Same (cond b n k.next)
    same_by true takes = refl
    same_by false none = next_same none

    pub from_same : (m : ℕ) → m ≡ cond (takes_bytes k.slot) n k.next → Same m
    from_same m is = subst (λ (j : ℕ). Same j) (sym is) (same_by (takes_bytes k.slot) refl)

    begins_by : (b : Bool) → takes_bytes k.slot ≡ b → Begins (list_of (slots_of lists) (cond b n k.next))
    begins_by true takes = kept_begins takes
    begins_by false none = next_begins

    pub from_begins : (m : ℕ) → m ≡ cond (takes_bytes k.slot) n k.next → Begins (list_of (slots_of lists) m)
    from_begins m is = subst (λ (j : ℕ). Begins (list_of (slots_of lists) j)) (sym is) (begins_by (takes_bytes k.slot) refl)

    inside_by : (b : Bool) → cond b n k.next ≤ length lists
    inside_by true = kept_there
    inside_by false = next_inside

    pub from_inside : (m : ℕ) → m ≡ cond (takes_bytes k.slot) n k.next → m ≤ length lists
    from_inside m is = subst (λ (j : ℕ). j ≤ length lists) (sym is) (inside_by (takes_bytes k.slot))

    pub own_count : k.own ≡ length (own_slots (list_of (slots_of lists) n))
    own_count = (first_kept n k e).own ∙ ap (λ (xs : List Slot). length (own_slots xs)) (sym whole)

    pub rest_is : list_of (slots_of lists) k.rest ≡ drop 1 (list_of (slots_of lists) n)
    rest_is = slots_list lists k.rest ∙ ap slots_in (first_kept n k e).rest ∙ ap (λ (xs : List Slot). drop 1 xs) (sym whole)

    pub rest_inside : k.rest ≤ length lists
    rest_inside = (first_kept n k e).rest_there

  -- a list that begins with nothing
  module _ (n : ℕ) (e : slice_get (list_of lists n) 0 ≡ None) where
    pub none_kept : list_of (slots_of lists) n ≡ []
    none_kept = slots_list lists n ∙ ap slots_in (nothing (list_of lists n) e)

  -- ---- where the first slot of a name stands

  abbrev At : ℕ → ℕ → List KeptSlot → ℕ → Type 0
  At name total ks k =
      (placed_in name (slots_in ks) k ≡ option_map (λ (x : KeptSlot). held x.slot.form (total - x.own)) (find (λ x. x.slot.attribute == name) ks)) × IfSome (find (λ x. x.slot.attribute == name) ks) (λ x. x.own ≤ total)

  placed_by : (name total : ℕ) (x : KeptSlot) (ks : List KeptSlot) (k : ℕ) (b : Bool) → (x.slot.attribute == name) ≡ b → k ≡ total - x.own → x.own ≤ total → At name total ks (counted x.slot k) → At name total (x ∷ ks) k
  placed_by name total x ks k true e is low rest = rw e (ap (λ (j : ℕ). Some (held x.slot.form j)) is, low)
  placed_by name total x ks k false e is low rest = rw e rest

  count_by : (s : Slot) (slots : List Slot) (k total : ℕ) (b : Bool) → takes_bytes s ≡ b → k + length (own_slots (s ∷ slots)) ≡ total → counted s k + length (own_slots slots) ≡ total
  count_by s slots k total true e is =
      let more : counted s k ≡ suc k = ap (λ (x : Bool). cond x (suc k) k) e in
      omega (arith, more, ap length (own_take s slots e), is)
  count_by s slots k total false e is =
      let none : counted s k ≡ k = ap (λ (x : Bool). cond x (suc k) k) e in
      omega (arith, none, ap length (own_skip s slots e), is)

  placed_all : (name total : ℕ) (ks : List KeptSlot) (n k : ℕ) → list_of lists n ≡ ks → k + length (own_slots (slots_in ks)) ≡ total → At name total ks k
  placed_all name total [] n k is count = (refl, tt)
  placed_all name total (x ∷ ks) n k is count =
      let kept : IsKept lists x ks = subst (λ (xs : List KeptSlot). IsFirst lists xs) is (are n) in
      let own : x.own ≡ length (own_slots (x.slot ∷ slots_in ks)) = kept.own in
      let more = count_by x.slot (slots_in ks) k total (takes_bytes x.slot) refl count in
      placed_by name total x ks k (x.slot.attribute == name) refl (omega (arith, own, count)) (omega (arith, own, count)) (placed_all name total ks x.rest (counted x.slot k) kept.rest more)

  pub placed_from : (name n total : ℕ) → total ≡ length (own_slots (list_of (slots_of lists) n)) → At name total (list_of lists n) 0
  placed_from name n total is = placed_all name total (list_of lists n) n 0 refl (omega (arith, ap (λ (xs : List Slot). length (own_slots xs)) (slots_list lists n), is))

  module _ (name n total : ℕ) (is : total ≡ length (own_slots (list_of (slots_of lists) n))) where
    abbrev one_found : Option KeptSlot
    one_found = find (λ x. x.slot.attribute == name) (list_of lists n)

    place_is : placed_in name (list_of (slots_of lists) n) 0 ≡ option_map (λ (x : KeptSlot). held x.slot.form (total - x.own)) one_found
    place_is = ap (λ (xs : List Slot). placed_in name xs 0) (slots_list lists n) ∙ (placed_from name n total is).0

    pub place_found : (k : KeptSlot) → one_found ≡ Some k → Some (held k.slot.form (total - k.own)) ≡ placed_in name (list_of (slots_of lists) n) 0
    place_found k e = sym (place_is ∙ ap (option_map (λ (x : KeptSlot). held x.slot.form (total - x.own))) e)

    pub place_low : (k : KeptSlot) → one_found ≡ Some k → k.own ≤ total
    place_low k e = subst (λ (o : Option KeptSlot). IfSome o (λ x. x.own ≤ total)) e (placed_from name n total is).1

    pub place_none : one_found ≡ None → None ≡ placed_in name (list_of (slots_of lists) n) 0
    place_none e = sym (place_is ∙ ap (option_map (λ (x : KeptSlot). held x.slot.form (total - x.own))) e)

-- ---- one slot more

list_past : {A : Type 0} (xs : List (List A)) (n : ℕ) → length xs + 1 ≤ n → list_of xs n ≡ []
list_past xs zero past = absurd (omega (arith, past))
list_past xs (suc i) past = ap or_empty (slice_get_past xs i (omega (arith, past)))

pub none_kept_yet : AreKept []
none_kept_yet zero = tt
none_kept_yet (suc i) = tt

module _ (before after : List (List KeptSlot)) (k : KeptSlot) (are : AreKept before) (is : after ≡ before ++ (k ∷ list_of before k.rest) ∷ []) (there : k.rest ≤ length before) (next_there : k.next ≤ length before)
    (same : own_slots (list_of (slots_of before) k.next) ≡ own_slots (list_of (slots_of before) k.rest)) (begins : Begins (list_of (slots_of before) k.next))
    (own : k.own ≡ counted k.slot (length (own_slots (list_of (slots_of before) k.rest)))) where
  grows : length after ≡ length before + 1
  grows = omega (arith, ap length is, length-append before ((k ∷ list_of before k.rest) ∷ []))

  old : (n : ℕ) → n ≤ length before → list_of after n ≡ list_of before n
  old n inside = ap (λ (ls : List (List KeptSlot)). list_of ls n) is ∙ list_front before ((k ∷ list_of before k.rest) ∷ []) n inside

  -- What is kept beside a slot stays right.
  kept_on : (x : KeptSlot) (xs : List KeptSlot) → IsKept before x xs → IsKept after x xs
  kept_on x xs h = record {
    rest = old x.rest h.rest_there ∙ h.rest;
    rest_there = omega (arith, h.rest_there, grows);
    next = ap (λ (ks : List KeptSlot). own_slots (slots_in ks)) (old x.next h.next_there) ∙ h.next;
    begins = subst (λ (ks : List KeptSlot). Begins (slots_in ks)) (sym (old x.next h.next_there)) h.begins;
    next_there = omega (arith, h.next_there, grows);
    own = h.own;
  }

  first_on : (ks : List KeptSlot) → IsFirst before ks → IsFirst after ks
  first_on [] h = tt
  first_on (x ∷ xs) h = kept_on x xs h

  -- how many slots take bytes from the new one on
  rest_count : length (own_slots (list_of (slots_of before) k.rest)) ≡ length (own_slots (slots_in (list_of before k.rest)))
  rest_count = ap (λ (xs : List Slot). length (own_slots xs)) (slots_list before k.rest)

  count : (b : Bool) → takes_bytes k.slot ≡ b → k.own ≡ length (own_slots (slots_in (k ∷ list_of before k.rest)))
  count true e =
      let m = length (own_slots (list_of (slots_of before) k.rest)) in
      let more : counted k.slot m ≡ suc m = ap (λ (x : Bool). cond x (suc m) m) e in
      omega (arith, own, more, rest_count, ap length (own_take k.slot (slots_in (list_of before k.rest)) e))
  count false e =
      let m = length (own_slots (list_of (slots_of before) k.rest)) in
      let none : counted k.slot m ≡ m = ap (λ (x : Bool). cond x (suc m) m) e in
      omega (arith, own, none, rest_count, ap length (own_skip k.slot (slots_in (list_of before k.rest)) e))

  new_kept : IsKept before k (list_of before k.rest)
  new_kept = record {
    rest = refl;
    rest_there = there;
    next = ap own_slots (sym (slots_list before k.next)) ∙ same ∙ ap own_slots (slots_list before k.rest);
    begins = subst (λ (xs : List Slot). Begins xs) (slots_list before k.next) begins;
    next_there = next_there;
    own = count (takes_bytes k.slot) refl;
  }

  where_is : (n : ℕ) → (n ≤ length before) ⊎ ((n ≡ length before + 1) ⊎ (length after + 1 ≤ n))
  where_is n = elim (cases_lt (length before) n) [
    | inr inside ↦ inl inside
    | inl past ↦ inr (elim (cases_lt (length after) n) [ inr here ↦ inl (omega (arith, past, here, grows)) | inl more ↦ inr (omega (arith, more)) ])
  ]

  new_list : (n : ℕ) → n ≡ length before + 1 → list_of after n ≡ k ∷ list_of before k.rest
  new_list n here = ap (λ (ls : List (List KeptSlot)). list_of ls n) is ∙ list_last before (k ∷ list_of before k.rest) n here

  pub kept_more : AreKept after
  kept_more n = elim (where_is n) [
    | inl inside ↦ subst (λ (ks : List KeptSlot). IsFirst after ks) (sym (old n inside)) (first_on (list_of before n) (are n))
    | inr more ↦ elim more [
      | inl here ↦ subst (λ (ks : List KeptSlot). IsFirst after ks) (sym (new_list n here)) (kept_on k (list_of before k.rest) new_kept)
      | inr past ↦ subst (λ (ks : List KeptSlot). IsFirst after ks) (sym (list_past after n past)) tt
    ]
  ]

  pub slots_more : slots_of after ≡ slots_of before ++ (k.slot ∷ list_of (slots_of before) k.rest) ∷ []
  slots_more = ap slots_of is ∙ slots_append before ((k ∷ list_of before k.rest) ∷ []) ∙ ap (λ (xs : List Slot). slots_of before ++ (k.slot ∷ xs) ∷ []) (sym (slots_list before k.rest))
