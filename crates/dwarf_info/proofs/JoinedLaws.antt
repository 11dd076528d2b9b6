-- The attributes of an entry, put together of its abbreviation and of its own values.
use Rattle.std.proofs.Common.{◌≡◌, ℕ, zero, suc, ◌+◌, ◌<◌, ◌≤◌, ◌⊎◌, Bool, true, false, cond, List, [], ◌∷◌, ◌++◌, length, map, drop, Option, Some, None, refl, sym, ap, subst, ◌∙◌, inl, inr, arith}
use Rattle.std.specs.Prelude.{◌==◌, ℤ, slice_get, option_and_then, unwrap_or, Ok, Err}
use Rattle.std.specs.Option.{is_none}
use Rattle.std.proofs.lemmas.Option.{slice_get_cases}
use Rattle.wasm_bytes.specs.declared.faults.ItemFault.{ItemFault}
use Rattle.wasm_bytes.specs.declared.faults.ItemFault.TheVariants as faults
use Rattle.wasm_bytes.specs.Place.{Place, Read}
use Rattle.wasm_bytes.specs.calls.Answers.{Fails}
use Rattle.wasm_bytes.specs.Reading.{◌>>=◌}
use Rattle.dwarf_bytes.specs.Items.{each_item}
use Rattle.dwarf_info.specs.declared.form.Form.{Form}
use Rattle.dwarf_info.specs.declared.form.Form.TheVariants as form
use Rattle.dwarf_info.specs.declared.form.Slot.{Slot}
use Rattle.dwarf_info.specs.declared.slots.SlotPlace.{SlotPlace}
use Rattle.dwarf_info.specs.declared.slots.SlotPlace.TheVariants as place
use Rattle.dwarf_info.specs.declared.entry.AttrValue.{AttrValue}
use Rattle.dwarf_info.specs.declared.entry.AttrValue.TheVariants.{Flag, Signed}
use Rattle.dwarf_info.specs.declared.entry.Attribute.{Attribute}
use Rattle.dwarf_info.specs.Attributes.{attribute}
use Rattle.dwarf_info.specs.Values.{Context, plain_item, attribute_of, slot_item, attributes_item}
use Rattle.dwarf_info.specs.inner.Settling.{settled_by, attribute_by}
use Rattle.dwarf_info.specs.inner.Joined.{fixed, takes_bytes, own_slots, joined_one, joined, held, counted, placed_in, value_at, AreOwn}
use Rattle.dwarf_info.specs.inner.Reading.{slot_value, own_item}

-- ---- forms with and without bytes

-- The value of a form without bytes is fixed, wherever it is asked for.
pub record IsFixed (f : Option Form) (v : AttrValue) : Type 0 where
  pub is : fixed f ≡ Some v
  pub held_is : (all : List AttrValue) (k : ℕ) → value_at all (held f k) ≡ Some v
  pub settles : (m : ℕ → Bool) → settled_by m v ≡ v
  pub reads : (c : Context) (s : Slot) (p : Place) → s.form ≡ f → slot_item c s p ≡ Ok (attribute_of s v, p)

present : IsFixed (Some form.Present) (Flag true)
unfolding slot_item plain_item
present = record { is = refl; held_is = λ all k. refl; settles = λ m. refl; reads = λ c s p is. rw is refl }

implicit : (z : ℤ) → IsFixed (Some (form.Implicit z)) (Signed z)
unfolding slot_item plain_item
implicit z = record { is = refl; held_is = λ all k. refl; settles = λ m. refl; reads = λ c s p is. rw is refl }

abbrev TakesBytes : Option Form → Type 0
TakesBytes f = (fixed f ≡ None) × ((k : ℕ) → held f k ≡ place.Own k)

pub form_case : (f : Option Form) → ((v : AttrValue) × IsFixed f v) ⊎ TakesBytes f
form_case None = inr (refl, λ k. refl)
form_case (Some form.Present) = inl (Flag true, present)
form_case (Some (form.Implicit z)) = inl (Signed z, implicit z)
form_case (Some (form.Number w m)) = inr (refl, λ k. refl)
form_case (Some (form.Block w)) = inr (refl, λ k. refl)
form_case (Some form.Text) = inr (refl, λ k. refl)
form_case (Some form.Signed) = inr (refl, λ k. refl)
form_case (Some (form.Skipped w)) = inr (refl, λ k. refl)
form_case (Some form.Indirect) = inr (refl, λ k. refl)

-- ---- slots that take bytes

own_by : (s : Slot) (slots : List Slot) (o : Option AttrValue) → fixed s.form ≡ o → own_slots (s ∷ slots) ≡ cond (is_none o) (s ∷ own_slots slots) (own_slots slots)
own_by s slots o e = ap (λ (x : Option AttrValue). cond (is_none x) (s ∷ own_slots slots) (own_slots slots)) e

counted_by : (s : Slot) (k : ℕ) (o : Option AttrValue) → fixed s.form ≡ o → counted s k ≡ cond (is_none o) (suc k) k
counted_by s k o e = ap (λ (x : Option AttrValue). cond (is_none x) (suc k) k) e

-- ---- the first attribute of a name

drop_at : {A : Type 0} (xs : List A) (k : ℕ) (x : A) → slice_get xs k ≡ Some x → drop k xs ≡ x ∷ drop (suc k) xs
drop_at [] k x e = absurd (let no : None ≡ Some x = e in cc)
drop_at (y ∷ ys) zero x e = ap (λ (o : Option _). unwrap_or o y ∷ ys) e
drop_at (y ∷ ys) (suc k) x e = drop_at ys k x e

module _ (n : ℕ) (all : List AttrValue) where
  one : (s : Slot) (v : AttrValue) (more : List Attribute) (b : Bool) → (s.attribute == n) ≡ b → (x : SlotPlace) (o : Option SlotPlace) → value_at all x ≡ Some v → attribute n more ≡ option_and_then (value_at all) o
      → attribute n (attribute_of s v ∷ more) ≡ option_and_then (value_at all) (cond b (Some x) o)
  one s v more true e x o here rest = rw e (sym here)
  one s v more false e x o here rest = rw e rest

  pub first_value : (slots : List Slot) (k : ℕ) → k + length (own_slots slots) ≤ length all → attribute n (joined slots (drop k all)) ≡ option_and_then (value_at all) (placed_in n slots k)
  first_value [] k room = refl
  first_value (s ∷ slots) k room = elim (form_case s.form) [
    | inl f ↦
        let same = own_by s slots (Some f.0) f.1.is in
        let count : counted s k ≡ k = counted_by s k (Some f.0) f.1.is in
        let rest = first_value slots k (omega (arith, room, ap length same)) in
        ap (λ (o : Option AttrValue). attribute n (joined_one s o (joined slots) (drop k all))) f.1.is
        ∙ one s f.0 (joined slots (drop k all)) (s.attribute == n) refl (held s.form k) (placed_in n slots k) (f.1.held_is all k) rest
        ∙ ap (λ (j : ℕ). option_and_then (value_at all) (cond (s.attribute == n) (Some (held s.form k)) (placed_in n slots j))) (sym count)
    | inr f ↦ elim (slice_get_cases all k).1 [
      | inl x ↦
          let same = own_by s slots None f.0 in
          let count : counted s k ≡ suc k = counted_by s k None f.0 in
          let rest = first_value slots (suc k) (omega (arith, room, ap length same)) in
          let here : value_at all (held s.form k) ≡ Some x.0 = ap (value_at all) (f.1 k) ∙ x.2 in
          ap (λ (o : Option AttrValue). attribute n (joined_one s o (joined slots) (drop k all))) f.0
          ∙ ap (λ (vs : List AttrValue). attribute n (joined_one s None (joined slots) vs)) (drop_at all k x.0 x.2)
          ∙ one s x.0 (joined slots (drop (suc k) all)) (s.attribute == n) refl (held s.form k) (placed_in n slots (suc k)) here rest
          ∙ ap (λ (j : ℕ). option_and_then (value_at all) (cond (s.attribute == n) (Some (held s.form k)) (placed_in n slots j))) (sym count)
      | inr x ↦ let same = own_by s slots None f.0 in absurd (omega (arith, room, ap length same, x.0))
    ]
  ]

-- the same from the front
pub found_value : (n : ℕ) (slots : List Slot) (own : List AttrValue) → AreOwn slots own → attribute n (joined slots own) ≡ option_and_then (value_at own) (placed_in n slots 0)
found_value n slots own are = first_value n own slots 0 (omega (arith, are))

-- ---- one slot behind the other

drop_none : {A : Type 0} (xs : List A) (k : ℕ) → slice_get xs k ≡ None → drop k xs ≡ []
drop_none [] zero e = refl
drop_none [] (suc k) e = refl
drop_none (y ∷ ys) zero e = absurd (let no : Some y ≡ None = e in cc)
drop_none (y ∷ ys) (suc k) e = drop_none ys k e

pub snoc_append : {A : Type 0} (xs : List A) (y : A) (zs : List A) → (xs ++ y ∷ []) ++ zs ≡ xs ++ (y ∷ zs)
snoc_append [] y zs = refl
snoc_append (x ∷ xs) y zs = ap (λ more. x ∷ more) (snoc_append xs y zs)

module _ (s : Slot) (slots : List Slot) (own : List AttrValue) (k : ℕ) where
  pub joined_on : (v : AttrValue) → value_at own (held s.form k) ≡ Some v → joined (s ∷ slots) (drop k own) ≡ attribute_of s v ∷ joined slots (drop (counted s k) own)
  joined_on v e = elim (form_case s.form) [
    | inl f ↦
        let same : f.0 ≡ v = ap (λ (o : Option AttrValue). unwrap_or o v) (sym (f.1.held_is own k) ∙ e) in
        ap (λ (o : Option AttrValue). joined_one s o (joined slots) (drop k own)) f.1.is
        ∙ ap (λ (x : AttrValue). attribute_of s x ∷ joined slots (drop k own)) same
        ∙ ap (λ (j : ℕ). attribute_of s v ∷ joined slots (drop j own)) (sym (counted_by s k (Some f.0) f.1.is))
    | inr f ↦
        let there : slice_get own k ≡ Some v = sym (ap (value_at own) (f.1 k)) ∙ e in
        ap (λ (o : Option AttrValue). joined_one s o (joined slots) (drop k own)) f.0
        ∙ ap (λ (vs : List AttrValue). joined_one s None (joined slots) vs) (drop_at own k v there)
        ∙ ap (λ (j : ℕ). attribute_of s v ∷ joined slots (drop j own)) (sym (counted_by s k None f.0))
  ]

  pub joined_ends : value_at own (held s.form k) ≡ None → joined (s ∷ slots) (drop k own) ≡ []
  joined_ends e = elim (form_case s.form) [
    | inl f ↦ absurd (let no : Some f.0 ≡ None = sym (f.1.held_is own k) ∙ e in cc)
    | inr f ↦
        let none : slice_get own k ≡ None = sym (ap (value_at own) (f.1 k)) ∙ e in
        ap (λ (o : Option AttrValue). joined_one s o (joined slots) (drop k own)) f.0 ∙ ap (λ (vs : List AttrValue). joined_one s None (joined slots) vs) (drop_none own k none)
  ]

-- A slot that takes bytes has its value at a number that is there.
pub count_low : (s : Slot) (own : List AttrValue) (k : ℕ) (v : AttrValue) → value_at own (held s.form k) ≡ Some v → takes_bytes s ≡ true → k < length own
count_low s own k v e takes = elim (form_case s.form) [
  | inl f ↦ absurd (let no : false ≡ true = sym (ap is_none f.1.is) ∙ takes in cc)
  | inr f ↦ elim (slice_get_cases own k).1 [
    | inl x ↦ x.1
    | inr x ↦ absurd (let no : None ≡ Some v = sym x.1 ∙ sym (ap (value_at own) (f.1 k)) ∙ e in cc)
  ]
]

-- ---- references

module _ (m : ℕ → Bool) where
  settled_one : (s : Slot) (slots : List Slot) (own : List AttrValue) → ((vs : List AttrValue) → map (attribute_by m) (joined slots vs) ≡ joined slots (map (settled_by m) vs))
      → map (attribute_by m) (joined_one s None (joined slots) own) ≡ joined_one s None (joined slots) (map (settled_by m) own)
  settled_one s slots [] rest = refl
  settled_one s slots (v ∷ vs) rest = ap (λ (more : List Attribute). attribute_of s (settled_by m v) ∷ more) (rest vs)

  pub joined_settled : (slots : List Slot) (own : List AttrValue) → map (attribute_by m) (joined slots own) ≡ joined slots (map (settled_by m) own)
  joined_settled [] own = refl
  joined_settled (s ∷ slots) own = elim (form_case s.form) [
    | inl f ↦
        ap (λ (o : Option AttrValue). map (attribute_by m) (joined_one s o (joined slots) own)) f.1.is
        ∙ ap (λ (v : AttrValue). attribute_of s v ∷ map (attribute_by m) (joined slots own)) (f.1.settles m)
        ∙ ap (λ (more : List Attribute). attribute_of s f.0 ∷ more) (joined_settled slots own)
        ∙ ap (λ (o : Option AttrValue). joined_one s o (joined slots) (map (settled_by m) own)) (sym f.1.is)
    | inr f ↦
        ap (λ (o : Option AttrValue). map (attribute_by m) (joined_one s o (joined slots) own)) f.0 ∙ settled_one s slots own (joined_settled slots)
        ∙ ap (λ (o : Option AttrValue). joined_one s o (joined slots) (map (settled_by m) own)) (sym f.0)
  ]

-- ---- reading

fails_on : {A B : Type 0} (e : ItemFault) (r : Read A) (f : A × Place → Read B) → Fails e r → Fails e (r >>= f)
fails_on faults.NoMemory r f h = tt
fails_on (faults.At at) r f h = rw h refl

module _ (c : Context) where
  abbrev put : List Slot → List AttrValue × Place → Read (List Attribute)
  put slots r = Ok (joined slots r.0, r.1)

  -- a value that is fixed, in front of others
  behind : (s : Slot) (slots : List Slot) (r : Read (List AttrValue)) (v : AttrValue) → fixed s.form ≡ Some v → ((r >>= put slots) >>= λ ys. Ok (attribute_of s v ∷ ys.0, ys.1)) ≡ (r >>= put (s ∷ slots))
  behind s slots (Ok r) v is = rw is refl
  behind s slots (Err at) v is = refl

  one_more : (s : Slot) (slots : List Slot) → fixed s.form ≡ None → (v : AttrValue) (r : Read (List AttrValue))
      → ((r >>= put slots) >>= λ ys. Ok (attribute_of s v ∷ ys.0, ys.1)) ≡ ((r >>= λ ys. Ok (v ∷ ys.0, ys.1)) >>= put (s ∷ slots))
  one_more s slots is v (Ok r) = rw is refl
  one_more s slots is v (Err at) = refl

  -- a value in the bytes, in front of others
  taken : (s : Slot) (slots : List Slot) (p : Place) → fixed s.form ≡ None → (r : Read AttrValue) → slot_value c s p ≡ r → ((q : Place) → attributes_item c slots q ≡ (own_item c (own_slots slots) q >>= put slots))
      → attributes_item c (s ∷ slots) p ≡ (own_item c (s ∷ own_slots slots) p >>= put (s ∷ slots))
  unfolding attributes_item own_item each_item slot_item
  taken s slots p is (Ok y) e rest = rw (e, rest y.1) (one_more s slots is y.0 (own_item c (own_slots slots) y.1))
  taken s slots p is (Err at) e rest = rw e refl

  pub read_joined : (slots : List Slot) (p : Place) → attributes_item c slots p ≡ (own_item c (own_slots slots) p >>= put slots)
  unfolding attributes_item own_item each_item
  read_joined [] p = refl
  read_joined (s ∷ slots) p = elim (form_case s.form) [
    | inl f ↦
        rw (f.1.reads c s p refl, read_joined slots p)
        (behind s slots (own_item c (own_slots slots) p) f.0 f.1.is ∙ ap (λ (xs : List Slot). own_item c xs p >>= put (s ∷ slots)) (sym (own_by s slots (Some f.0) f.1.is)))
    | inr f ↦ taken s slots p f.0 (slot_value c s p) refl (read_joined slots) ∙ ap (λ (xs : List Slot). own_item c xs p >>= put (s ∷ slots)) (sym (own_by s slots None f.0))
  ]

  pub put_fails : (slots : List Slot) (p : Place) (own : List Slot) (e : ItemFault) → own ≡ own_slots slots → Fails e (own_item c own p) → Fails e (attributes_item c slots p)
  put_fails slots p own e is h =
      let there = fails_on e (own_item c (own_slots slots) p) (put slots) (subst (λ (xs : List Slot). Fails e (own_item c xs p)) is h) in
      subst (λ (r : Read (List Attribute)). Fails e r) (sym (read_joined slots p)) there

  pub put_read : (slots : List Slot) (p q : Place) (own : List Slot) (values : List AttrValue) → own ≡ own_slots slots → own_item c own p ≡ Ok (values, q) → attributes_item c slots p ≡ Ok (joined slots values, q)
  put_read slots p q own values is h = read_joined slots p ∙ ap (λ (r : Read (List AttrValue)). r >>= put slots) (ap (λ (xs : List Slot). own_item c xs p) (sym is) ∙ h)
