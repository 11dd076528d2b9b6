-- References are settled by the test whether an entry stands at an offset.
use Rattle.std.proofs.Common.{◌≡◌, ℕ, zero, suc, ◌+◌, ◌<◌, ◌≤◌, Bool, true, false, List, [], ◌∷◌, ◌++◌, length, Option, refl, sym, ap, ap₂, ◌∙◌, arith, append-nil}
use Rattle.std.specs.Prelude.{◌||◌, ◌==◌, get_or, slice_set, take, drop, map, flat_map, if◌then◌else◌}
use Rattle.std.specs.List.{list_any}
use Rattle.std.proofs.lemmas.List.{take_all, drop_all, length-map}
use Rattle.dwarf_info.specs.declared.entry.AttrValue.{AttrValue}
use Rattle.dwarf_info.specs.declared.entry.AttrValue.TheVariants.{Address, Constant, Signed, Block, Text, Flag, Reference, Offset, Other}
use Rattle.dwarf_info.specs.declared.entry.Attribute.{Attribute}
use Rattle.dwarf_info.specs.declared.entry.Entry.{Entry}
use Rattle.dwarf_info.specs.declared.entry.UnitAnswer.{UnitAnswer}
use Rattle.dwarf_info.specs.declared.entry.UnitAnswer.TheVariants.{Tree, Unreadable}
use Rattle.dwarf_info.specs.declared.places.EntryPlace.{EntryPlace}
use Rattle.dwarf_info.specs.Units.{entries_in, offsets_of, settled_value, settled_entry, settled_answer, settled}
use Rattle.dwarf_info.specs.inner.Settling.{meets, settled_by, attribute_by, entry_by, answer_by, is_met, any_at}

-- ---- entries at an offset

associates : (a b c : Bool) → (a || (b || c)) ≡ ((a || b) || c)
associates true b c = refl
associates false b c = refl

pub any_append : (q : ℕ) (xs ys : List Entry) → any_at q (xs ++ ys) ≡ (any_at q xs || any_at q ys)
any_append q [] ys = refl
any_append q (x ∷ xs) ys = ap (λ (b : Bool). (x.at == q) || b) (any_append q xs ys) ∙ associates (x.at == q) (any_at q xs) (any_at q ys)

-- ---- settled references

same_map : {A B : Type 0} (f g : A → B) → ((x : A) → f x ≡ g x) → (xs : List A) → map f xs ≡ map g xs
same_map f g h [] = refl
same_map f g h (x ∷ xs) = ap (λ y. y ∷ map f xs) (h x) ∙ ap (λ ys. g x ∷ ys) (same_map f g h xs)

value_settled : (m : ℕ → Bool) (offsets : List ℕ) → ((q : ℕ) → m q ≡ list_any (λ o. o == q) offsets) → (v : AttrValue) → settled_by m v ≡ settled_value offsets v
value_settled m offsets h (Address n) = refl
value_settled m offsets h (Constant n) = refl
value_settled m offsets h (Signed z) = refl
value_settled m offsets h (Block bytes) = refl
value_settled m offsets h (Text bytes) = refl
value_settled m offsets h (Flag b) = refl
value_settled m offsets h (Reference at) = ap (λ (b : Bool). if b then Reference at else Other) (h at)
value_settled m offsets h (Offset at) = refl
value_settled m offsets h Other = refl

attribute_settled : (m : ℕ → Bool) (offsets : List ℕ) → ((q : ℕ) → m q ≡ list_any (λ o. o == q) offsets) → (a : Attribute)
    → (let b : Attribute = record { name = a.name; value = settled_value offsets a.value } in attribute_by m a ≡ b)
attribute_settled m offsets h a = ap (λ (v : AttrValue). let b : Attribute = record { name = a.name; value = v } in b) (value_settled m offsets h a.value)

entry_settled : (m : ℕ → Bool) (offsets : List ℕ) → ((q : ℕ) → m q ≡ list_any (λ o. o == q) offsets) → (e : Entry) → entry_by m e ≡ settled_entry offsets e
entry_settled m offsets h e = ap (λ (vs : List Attribute). let x : Entry = record e { attributes = vs } in x) (same_map (attribute_by m) _ (attribute_settled m offsets h) e.attributes)

answer_settled : (m : ℕ → Bool) (offsets : List ℕ) → ((q : ℕ) → m q ≡ list_any (λ o. o == q) offsets) → (u : UnitAnswer) → answer_by m u ≡ settled_answer offsets u
answer_settled m offsets h (Tree u) = ap (λ (es : List Entry). Tree (record u { entries = es })) (same_map (entry_by m) (settled_entry offsets) (entry_settled m offsets h) u.entries)
answer_settled m offsets h (Unreadable section at) = refl

-- ---- what stays as it is

pub value_stays : (m : ℕ → Bool) (v : AttrValue) → is_met m v ≡ true → settled_by m v ≡ v
value_stays m (Address n) met = refl
value_stays m (Constant n) met = refl
value_stays m (Signed z) met = refl
value_stays m (Block bytes) met = refl
value_stays m (Text bytes) met = refl
value_stays m (Flag b) met = refl
value_stays m (Reference at) met = ap (λ (b : Bool). if b then Reference at else Other) met
value_stays m (Offset at) met = refl
value_stays m Other met = refl

-- what does not stay is a reference
pub value_goes : (m : ℕ → Bool) (v : AttrValue) → is_met m v ≡ false → Other ≡ settled_by m v
value_goes m (Address n) lost = absurd (let no : true ≡ false = lost in cc)
value_goes m (Constant n) lost = absurd (let no : true ≡ false = lost in cc)
value_goes m (Signed z) lost = absurd (let no : true ≡ false = lost in cc)
value_goes m (Block bytes) lost = absurd (let no : true ≡ false = lost in cc)
value_goes m (Text bytes) lost = absurd (let no : true ≡ false = lost in cc)
value_goes m (Flag b) lost = absurd (let no : true ≡ false = lost in cc)
value_goes m (Reference at) lost = ap (λ (b : Bool). if b then Reference at else Other) (sym lost)
value_goes m (Offset at) lost = absurd (let no : true ≡ false = lost in cc)
value_goes m Other lost = absurd (let no : true ≡ false = lost in cc)

-- ---- lists that are settled from the front on

-- one more at the front is
one_more : {A : Type 0} (f : A → A) (i : ℕ) (e : A) (now xs : List A) (d : A) → i < length xs → now ≡ take i (map f xs) ++ drop i xs → e ≡ f (get_or now i d) → slice_set now i e ≡ take (suc i) (map f xs) ++ drop (suc i) xs
one_more f i e now [] d lt s is = absurd (omega (arith, lt))
one_more f zero e [] (x ∷ xs) d lt s is = absurd (cc)
one_more f (suc i) e [] (x ∷ xs) d lt s is = absurd (cc)
one_more f zero e (y ∷ ys) (x ∷ xs) d lt s is =
    let first : y ≡ x = cc in
    let rest : ys ≡ xs = cc in
    ap₂ (λ a z. a ∷ z) (is ∙ ap f first) rest
one_more f (suc i) e (y ∷ ys) (x ∷ xs) d lt s is =
    let first : y ≡ f x = cc in
    let rest : ys ≡ take i (map f xs) ++ drop i xs = cc in
    ap₂ (λ a z. a ∷ z) first (one_more f i e ys xs d (omega (arith, lt)) rest is)

pub settled_more : {A : Type 0} (f : A → A) (xs now : List A) (i : ℕ) (e d : A) → i < length xs → now ≡ take i (map f xs) ++ drop i xs → e ≡ f (get_or now i d) → slice_set now i e ≡ take (i + 1) (map f xs) ++ drop (i + 1) xs
settled_more f xs now i e d lt s is =
    let next : suc i ≡ i + 1 = omega arith in
    one_more f i e now xs d lt s is ∙ ap (λ k. take k (map f xs) ++ drop k xs) next

-- all are
pub settled_whole : {A : Type 0} (f : A → A) (i : ℕ) (xs : List A) → i ≡ length xs → take i (map f xs) ++ drop i xs ≡ map f xs
settled_whole f i xs e =
    let few : length (map f xs) ≤ i = omega (arith, length-map xs f, e) in
    let none : length xs ≤ i = omega (arith, e) in
    ap₂ (λ a b. a ++ b) (take_all i (map f xs) few) (drop_all i xs none) ∙ append-nil (map f xs)

-- ---- all units

-- What is settled by the places of all entries is settled.
pub all_settled : (places : ℕ → Option EntryPlace) (units : List UnitAnswer) → ((q : ℕ) → meets places q ≡ any_at q (flat_map entries_in units)) → map (answer_by (meets places)) units ≡ settled units
all_settled places units h = same_map (answer_by (meets places)) (settled_answer (offsets_of units)) (answer_settled (meets places) (offsets_of units) h) units
