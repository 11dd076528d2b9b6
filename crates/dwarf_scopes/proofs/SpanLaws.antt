-- Laws of spans of addresses.
use Rattle.std.proofs.Common.{◌≡◌, ℕ, zero, suc, ◌+◌, ◌<◌, ◌≤◌, Bool, true, false, leb, ltb, List, [], ◌∷◌, ◌++◌, length, drop, get_or, refl, sym, ap, subst, ◌∙◌, arith}
use Rattle.std.specs.Prelude.{◌&&◌, ◌||◌, if◌then◌else◌}
use Rattle.std.proofs.lemmas.List.{append-nil, drop_all}
use Rattle.dwarf_scopes.specs.declared.spans.Span.{Span}
use Rattle.dwarf_scopes.specs.calls.Spans.{is_in, from_to, covers, EndsBefore, Descend, AreJoined, merged_with, merged, widened, apart_from, apart}
use Rattle.dwarf_scopes.proofs.OrderLaws.{Fall, IsPassed, passed_behind, element_left}

pub parted : (b c : Bool) → b || c ≡ false → (b ≡ false) × (c ≡ false)
parted true c e = absurd cc
parted false c e = (refl, e)

pub neither : (b c : Bool) → b ≡ false → c ≡ false → b || c ≡ false
neither b c one two = rw one two

-- ---- what is in none of the spans of both is in none of either

-- where the first span of the left list is taken, and where that of the right one is
left_none : (a : ℕ) (s : Span) (spans others rest : List Span) → (covers rest a ≡ false → (covers spans a ≡ false) × (covers others a ≡ false))
    → covers (s ∷ rest) a ≡ false → (covers (s ∷ spans) a ≡ false) × (covers others a ≡ false)
left_none a s spans others rest h none =
    let two = parted (is_in a s) (covers rest a) none in
    let both = h two.1 in
    (neither (is_in a s) (covers spans a) two.0 both.0, both.1)

right_none : (a : ℕ) (t : Span) (spans others rest : List Span) → (covers rest a ≡ false → (covers spans a ≡ false) × (covers others a ≡ false))
    → covers (t ∷ rest) a ≡ false → (covers spans a ≡ false) × (covers (t ∷ others) a ≡ false)
right_none a t spans others rest h none =
    let two = parted (is_in a t) (covers rest a) none in
    let both = h two.1 in
    (both.0, neither (is_in a t) (covers others a) two.0 both.1)

none_step : (a : ℕ) (s t : Span) (spans others : List Span) (rest : List Span → List Span) (first : Bool) → leb t.last s.last ≡ first
    → (covers (rest (t ∷ others)) a ≡ false → (covers spans a ≡ false) × (covers (t ∷ others) a ≡ false))
    → (covers (merged_with s spans rest others) a ≡ false → (covers (s ∷ spans) a ≡ false) × (covers others a ≡ false))
    → covers (merged_with s spans rest (t ∷ others)) a ≡ false → (covers (s ∷ spans) a ≡ false) × (covers (t ∷ others) a ≡ false)
none_step a s t spans others rest true e left right = rw e (left_none a s spans (t ∷ others) (rest (t ∷ others)) left)
none_step a s t spans others rest false e left right = rw e (right_none a t (s ∷ spans) others (merged_with s spans rest others) right)

none_with : (a : ℕ) (s : Span) (spans : List Span) (rest : List Span → List Span) → ((others : List Span) → covers (rest others) a ≡ false → (covers spans a ≡ false) × (covers others a ≡ false))
    → (others : List Span) → covers (merged_with s spans rest others) a ≡ false → (covers (s ∷ spans) a ≡ false) × (covers others a ≡ false)
none_with a s spans rest h [] none = (none, refl)
none_with a s spans rest h (t ∷ others) none = none_step a s t spans others rest (leb t.last s.last) refl (h (t ∷ others)) (none_with a s spans rest h others) none

none_merged : (left right : List Span) (a : ℕ) → covers (merged left right) a ≡ false → (covers left a ≡ false) × (covers right a ≡ false)
none_merged [] right a none = (refl, none)
none_merged (s ∷ left) right a none = none_with a s left (merged left) (λ others. none_merged left others a) right none

-- ---- one more span of both

pub left_taken : (left right : List Span) (i j : ℕ) (d e : Span) → i < length left → j < length right → (get_or right j e).last ≤ (get_or left i d).last
    → merged (drop i left) (drop j right) ≡ get_or left i d ∷ merged (drop (i + 1) left) (drop j right)
left_taken left right i j d e one two le =
    let s = get_or left i d in let t = get_or right j e in
    let rest = drop (j + 1) right in
    let first : leb t.last s.last ≡ true = grind (arith, le) in
    ap (λ (l : List Span). merged l (drop j right)) (element_left left i d one) ∙ ap (merged (s ∷ drop (i + 1) left)) (element_left right j e two)
    ∙ ap (λ (b : Bool). if b then s ∷ merged (drop (i + 1) left) (t ∷ rest) else t ∷ merged (s ∷ drop (i + 1) left) rest) first
    ∙ ap (λ (l : List Span). s ∷ merged (drop (i + 1) left) l) (sym (element_left right j e two))

pub right_taken : (left right : List Span) (i j : ℕ) (d e : Span) → i < length left → j < length right → (get_or left i d).last < (get_or right j e).last
    → merged (drop i left) (drop j right) ≡ get_or right j e ∷ merged (drop i left) (drop (j + 1) right)
right_taken left right i j d e one two lt =
    let s = get_or left i d in let t = get_or right j e in
    let rest = drop (j + 1) right in
    let first : leb t.last s.last ≡ false = grind (arith, lt) in
    ap (λ (l : List Span). merged l (drop j right)) (element_left left i d one) ∙ ap (merged (s ∷ drop (i + 1) left)) (element_left right j e two)
    ∙ ap (λ (b : Bool). if b then s ∷ merged (drop (i + 1) left) (t ∷ rest) else t ∷ merged (s ∷ drop (i + 1) left) rest) first
    ∙ ap (λ (l : List Span). t ∷ merged l rest) (sym (element_left left i d one))

-- ---- by where they end

abbrev EndsBy : ℕ → List Span → Type 0
EndsBy most [] = Unit {0}
EndsBy most (s ∷ spans) = s.last ≤ most

-- None is empty, and none ends behind the one before it.
abbrev Ordered : List Span → Type 0
Ordered [] = Unit {0}
Ordered (s ∷ spans) = (s.first ≤ s.last) × EndsBy s.last spans × Ordered spans

ordered_by : (s : Span) (spans : List Span) → Descend (s ∷ spans) → Ordered spans → Ordered (s ∷ spans)
ordered_by s [] d o = (d.0, tt, tt)
ordered_by s (t ∷ spans) d o = (d.0, (let own = d.0 in let gap = d.1 in omega (arith, own, gap)), o)

ordered : (spans : List Span) → Descend spans → Ordered spans
ordered [] d = tt
ordered (s ∷ spans) d = ordered_by s spans d (ordered spans d.2)

ends_with : (most : ℕ) (s : Span) (spans : List Span) (rest : List Span → List Span) (others : List Span) → s.last ≤ most → EndsBy most others → EndsBy most (merged_with s spans rest others)
ends_with most s spans rest [] own other = own
ends_with most s spans rest (t ∷ others) own other = by (leb t.last s.last) refl where
  by : (first : Bool) → leb t.last s.last ≡ first → EndsBy most (merged_with s spans rest (t ∷ others))
  by true e = rw e own
  by false e = rw e other

ends_merged : (most : ℕ) (left right : List Span) → EndsBy most left → EndsBy most right → EndsBy most (merged left right)
ends_merged most [] right own other = other
ends_merged most (s ∷ left) right own other = ends_with most s left (merged left) right own other

order_step : (s t : Span) (spans others : List Span) (first : Bool) → leb t.last s.last ≡ first → Ordered (s ∷ spans) → Ordered (t ∷ others)
    → Ordered (merged spans (t ∷ others)) → Ordered (merged_with s spans (merged spans) others) → Ordered (merged_with s spans (merged spans) (t ∷ others))
order_step s t spans others true e own other left right =
    let le : t.last ≤ s.last = grind (arith, e) in
    rw e (own.0, ends_merged s.last spans (t ∷ others) own.1 le, left)
order_step s t spans others false e own other left right =
    let le : s.last ≤ t.last = grind (arith, e) in
    rw e (other.0, ends_with t.last s spans (merged spans) others le other.1, right)

order_with : (s : Span) (spans : List Span) → Ordered (s ∷ spans) → ((others : List Span) → Ordered others → Ordered (merged spans others))
    → (others : List Span) → Ordered others → Ordered (merged_with s spans (merged spans) others)
order_with s spans own h [] other = own
order_with s spans own h (t ∷ others) other = order_step s t spans others (leb t.last s.last) refl own other (h (t ∷ others) other) (order_with s spans own h others other.2)

order_merged : (left right : List Span) → Ordered left → Ordered right → Ordered (merged left right)
order_merged [] right own other = other
order_merged (s ∷ left) right own other = order_with s left own (λ others o. order_merged left others own.2 o) right other

-- ---- spans that are made to stand apart

same_last : (s t : Span) (b : Bool) → ltb t.first s.first ≡ b → (widened s t).last ≡ s.last
same_last s t true e = rw e refl
same_last s t false e = rw e refl

ends_there : (s t : Span) → (widened s t).last ≡ s.last
ends_there s t = same_last s t (ltb t.first s.first) refl

wide_by : (s t : Span) (b : Bool) → ltb t.first s.first ≡ b → s.first ≤ s.last → t.first ≤ t.last → t.last ≤ s.last → (widened s t).first ≤ (widened s t).last
wide_by s t true e own other le = rw e (omega (arith, other, le))
wide_by s t false e own other le = rw e own

ends_less : (s t : Span) (spans : List Span) → t.last ≤ s.last → EndsBy t.last spans → EndsBy (widened s t).last spans
ends_less s t [] le e = tt
ends_less s t (u ∷ spans) le e = let same = ends_there s t in omega (arith, e, le, same)

wide_order : (s t : Span) (spans : List Span) → Ordered (s ∷ t ∷ spans) → Ordered (widened s t ∷ spans)
wide_order s t spans o = (wide_by s t (ltb t.first s.first) refl o.0 o.2.0 o.1, ends_less s t spans o.1 o.2.1, o.2.2)

ends_step : (limit : ℕ) (s t : Span) (spans : List Span) (b : Bool) → ltb t.last s.first ≡ b → s.last < limit → EndsBefore limit (apart_from (widened s t) spans) → EndsBefore limit (apart_from s (t ∷ spans))
ends_step limit s t spans true e lt h = rw e lt
ends_step limit s t spans false e lt h = rw e h

ends_from : (limit : ℕ) (s : Span) (spans : List Span) → s.last < limit → EndsBefore limit (apart_from s spans)
ends_from limit s [] lt = lt
ends_from limit s (t ∷ spans) lt = ends_step limit s t spans (ltb t.last s.first) refl lt (ends_from limit (widened s t) spans (let same = ends_there s t in omega (arith, same, lt)))

descend_step : (s t : Span) (spans : List Span) (b : Bool) → ltb t.last s.first ≡ b → s.first ≤ s.last → Descend (apart_from t spans) → Descend (apart_from (widened s t) spans) → Descend (apart_from s (t ∷ spans))
descend_step s t spans true e own left right = rw e (own, ends_from s.first t spans (grind (arith, e)), left)
descend_step s t spans false e own left right = rw e right

descend_from : (s : Span) (spans : List Span) → Ordered (s ∷ spans) → Descend (apart_from s spans)
descend_from s [] o = (o.0, tt, tt)
descend_from s (t ∷ spans) o = descend_step s t spans (ltb t.last s.first) refl o.0 (descend_from t spans o.2) (descend_from (widened s t) spans (wide_order s t spans o))

-- what is not in a wide span is in neither
wide_none : (a : ℕ) (s t : Span) (b : Bool) → ltb t.first s.first ≡ b → t.last ≤ s.last → is_in a (widened s t) ≡ false → (is_in a s ≡ false) × (is_in a t ≡ false)
wide_none a s t true e le none =
    let is : leb t.first a && leb a s.last ≡ false = subst (λ (b : Bool). is_in a (if b then from_to t.first s.last else s) ≡ false) e none in
    let lt : t.first < s.first = grind (arith, e) in
    (grind (arith, is, lt), grind (arith, is, le))
wide_none a s t false e le none =
    let is : leb s.first a && leb a s.last ≡ false = subst (λ (b : Bool). is_in a (if b then from_to t.first s.last else s) ≡ false) e none in
    let ge : s.first ≤ t.first = grind (arith, e) in
    (is, grind (arith, is, ge, le))

apart_step : (a : ℕ) (s t : Span) (spans : List Span) (b : Bool) → ltb t.last s.first ≡ b → t.last ≤ s.last → (covers (apart_from t spans) a ≡ false → covers (t ∷ spans) a ≡ false)
    → (covers (apart_from (widened s t) spans) a ≡ false → covers (widened s t ∷ spans) a ≡ false) → covers (apart_from s (t ∷ spans)) a ≡ false → covers (s ∷ t ∷ spans) a ≡ false
apart_step a s t spans true e le left right =
    rw e (λ none. let two = parted (is_in a s) (covers (apart_from t spans) a) none in neither (is_in a s) (covers (t ∷ spans) a) two.0 (left two.1))
apart_step a s t spans false e le left right =
    rw e (λ none.
    let two = parted (is_in a (widened s t)) (covers spans a) (right none) in
    let both = wide_none a s t (ltb t.first s.first) refl le two.0 in
    neither (is_in a s) (covers (t ∷ spans) a) both.0 (neither (is_in a t) (covers spans a) both.1 two.1))

none_from : (a : ℕ) (s : Span) (spans : List Span) → Ordered (s ∷ spans) → covers (apart_from s spans) a ≡ false → covers (s ∷ spans) a ≡ false
none_from a s [] o none = none
none_from a s (t ∷ spans) o none = apart_step a s t spans (ltb t.last s.first) refl o.1 (none_from a t spans o.2) (none_from a (widened s t) spans (wide_order s t spans o)) none

descend_apart : (spans : List Span) → Ordered spans → Descend (apart spans)
descend_apart [] o = tt
descend_apart (s ∷ spans) o = descend_from s spans o

none_apart : (a : ℕ) (spans : List Span) → Ordered spans → covers (apart spans) a ≡ false → covers spans a ≡ false
none_apart a [] o none = none
none_apart a (s ∷ spans) o none = none_from a s spans o none

pub are_joined : (left right both spans : List Span) → Descend left → Descend right → both ≡ merged left right → spans ≡ apart both → AreJoined left right spans
are_joined left right both spans d e one two =
    let o : Ordered (merged left right) = order_merged left right (ordered left d) (ordered right e) in
    let is : spans ≡ apart (merged left right) = two ∙ ap apart one in
    subst (AreJoined left right) (sym is) (descend_apart (merged left right) o, λ a none. none_merged left right a (none_apart a (merged left right) o none))

-- ---- the end of a merge

merged_none : (left : List Span) → merged left [] ≡ left
merged_none [] = refl
merged_none (s ∷ left) = refl

pub left_done : (left right : List Span) (i j : ℕ) → length left ≤ i → merged (drop i left) (drop j right) ≡ drop i left ++ drop j right
left_done left right i j le = rw (drop_all i left le) refl

pub right_done : (left right : List Span) (i j : ℕ) → length right ≤ j → merged (drop i left) (drop j right) ≡ drop i left ++ drop j right
right_done left right i j le = rw (drop_all j right le) (merged_none (drop i left) ∙ sym (append-nil (drop i left)))

-- ---- the span that counts for an address

abbrev pub begin : Span → ℕ
begin s = s.first

pub falling : (spans : List Span) → Descend spans → Fall begin spans
falling [] d = tt
falling (s ∷ []) d = (tt, tt)
falling (s ∷ t ∷ spans) d = ((let own = d.2.0 in let gap = d.1 in omega (arith, own, gap)), falling (t ∷ spans) d.2)

pub none_passed : (a : ℕ) (spans : List Span) (i : ℕ) → length spans ≤ i → IsPassed begin a spans i → covers spans a ≡ false
none_passed a [] i le p = refl
none_passed a (s ∷ spans) zero le p = absurd (omega (arith, le))
none_passed a (s ∷ spans) (suc i) le p =
    let past : ltb a s.first ≡ true = p.0 0 s (omega arith) (omega arith) in
    let ahead : leb s.first a ≡ false = grind (arith, past) in
    rw ahead (none_passed a spans i (omega (arith, le)) (passed_behind begin a s spans i p))

-- What begins in front of an address ends in front of the spans before it.
none_behind : (a : ℕ) (s : Span) (spans : List Span) → Descend (s ∷ spans) → s.first ≤ a → covers spans a ≡ false
none_behind a s [] d le = refl
none_behind a s (t ∷ spans) d le =
    let own = d.2.0 in let gap = d.1 in
    let over : leb a t.last ≡ false = grind (arith, gap, le) in
    let not : is_in a t ≡ false = grind (arith, over) in
    neither (is_in a t) (covers spans a) not (none_behind a t spans d.2 (omega (arith, own, gap, le)))

or_not : (b c : Bool) → c ≡ false → b ≡ b || c
or_not true c e = refl
or_not false c e = sym e

pub at_passed : (a : ℕ) (spans : List Span) (i : ℕ) (d : Span) → Descend spans → i < length spans → IsPassed begin a spans i → leb a (get_or spans i d).last ≡ covers spans a
at_passed a [] i d e lt p = absurd (omega (arith, lt))
at_passed a (s ∷ spans) zero d e lt p =
    let past : ltb a s.first ≡ false = p.1 0 s (omega arith) (omega arith) in
    let reached : leb s.first a ≡ true = grind (arith, past) in
    rw reached (or_not (leb a s.last) (covers spans a) (none_behind a s spans e (grind (arith, past))))
at_passed a (s ∷ spans) (suc i) d e lt p =
    let past : ltb a s.first ≡ true = p.0 0 s (omega arith) (omega arith) in
    let ahead : leb s.first a ≡ false = grind (arith, past) in
    rw ahead (at_passed a spans i d e.2 (omega (arith, lt)) (passed_behind begin a s spans i p))
