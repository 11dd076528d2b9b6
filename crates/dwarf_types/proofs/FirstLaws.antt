-- The first enumerator of each number, where one more entry is looked at.
use Rattle.std.proofs.Common.{◌≡◌, ℕ, ◌+◌, ◌*◌, ◌^◌, ◌<◌, ◌≤◌, Bool, true, false, cond, List, ◌∷◌, length, drop, get_or, Option, Some, None, refl, sym, ap, subst, ◌∙◌, arith}
use Rattle.std.specs.Prelude.{ℤ, pos, unsigned_abs, filter, find, slice_get, option_map, option_and_then, if◌then◌else◌}
use Rattle.std.specs.Option.{option_or}
use Rattle.std.specs.Ordering.{nat_cmp}
use Rattle.std.specs.BTreeMap.{get}
use Rattle.std.proofs.lemmas.Option.{slice_get-get_or}
use Rattle.std.proofs.Math.Nat.{pow-le-pow_right}
use Rattle.dwarf_info.specs.declared.entry.Entry.{Entry}
use Rattle.dwarf_info.specs.Attributes.{valued, as_number}
use Rattle.dwarf_entries.specs.Names.{at_const_value}
use Rattle.dwarf_entries.specs.Tags.{tag_enumerator}
use Rattle.dwarf_entries.specs.Standing.{Standing, is_child, entries_inside, children_tagged}
use Rattle.dwarf_types.specs.declared.enumerators.Enumerators.{Enumerators}
use Rattle.dwarf_types.specs.calls.Numbers.{number_key, is_key, has_key, AreFirst}
use Rattle.dwarf_types.specs.inner.Firsts.{key_in, own_at, known_or}
use Rattle.dwarf_types.proofs.InsideLaws.{dropped_all, next_left}

-- ---- numbers

pub short_key : (size : ℕ) (rest range : ℤ) → size ≤ 8 → range ≡ pos (2 ^ (8 * size)) → unsigned_abs rest < unsigned_abs range → unsigned_abs rest < 2 ^ 64
short_key size rest range short is less =
    let same : unsigned_abs range ≡ 2 ^ (8 * size) = ap unsigned_abs is in
    let few : 8 * size ≤ 64 = omega (arith, short) in
    let power : 2 ^ (8 * size) ≤ 2 ^ 64 = pow-le-pow_right (omega arith) few in
    omega (arith, less, same, power)

-- ---- one more entry

own_is : (size depth k n : ℕ) (e : Entry) → own_at k (key_in depth size e) n ≡ (if is_child depth tag_enumerator e then (if has_key size n e then Some k else None) else None)
own_is size depth k n e = by (is_child depth tag_enumerator e) (valued as_number at_const_value e.attributes)
  where
    by : (b : Bool) (o : Option ℤ) → own_at k (if b then option_map (number_key size) o else None) n ≡ (if b then (if is_key size n o then Some k else None) else None)
    by false o = refl
    by true None = refl
    by true (Some z) = refl

turn_by : (P : Entry → Bool) (es picked : List Entry) (k : ℕ) (e : Entry) (b c : Bool) → P e ≡ c → slice_get es k ≡ Some e → (before after : Option ℕ)
    → after ≡ option_or before (if b then (if c then Some k else None) else None) → known_or es after (find P picked) ≡ known_or es before (find P (cond b (e ∷ picked) picked))
turn_by P es picked k e b c is there (Some p) after same = rw same refl
turn_by P es picked k e false c is there None after same = rw same refl
turn_by P es picked k e true true is there None after same = rw (same, is) there
turn_by P es picked k e true false is there None after same = rw (same, is) refl

pub turn_first : (size depth k : ℕ) (es : List Entry) (e : Entry) (before after : ℕ → Option ℕ) (total : ℕ → Option Entry) → k < length es → e ≡ get_or es k e
    → ((n : ℕ) → after n ≡ option_or (before n) (own_at k (key_in depth size e) n))
    → ((n : ℕ) → known_or es (before n) (find (has_key size n) (filter (is_child depth tag_enumerator) (drop k es))) ≡ total n)
    → (n : ℕ) → known_or es (after n) (find (has_key size n) (filter (is_child depth tag_enumerator) (drop (k + 1) es))) ≡ total n
turn_first size depth k es e before after total lt is more all n =
    turn_by (has_key size n) es (filter (is_child depth tag_enumerator) (drop (k + 1) es)) k e (is_child depth tag_enumerator e) (has_key size n e) refl
    (slice_get-get_or es k e lt ∙ ap (λ (x : Entry). Some x) (sym is)) (before n) (after n) (more n ∙ ap (λ (o : Option ℕ). option_or (before n) o) (own_is size depth k n e))
    ∙ ap (λ (ys : List Entry). known_or es (before n) (find (has_key size n) (filter (is_child depth tag_enumerator) ys))) (sym (next_left es k e lt is)) ∙ all n

pub all_first : (size depth k : ℕ) (es : List Entry) (first : ℕ → Option ℕ) (total : ℕ → Option Entry) → length es ≤ k
    → ((n : ℕ) → known_or es (first n) (find (has_key size n) (filter (is_child depth tag_enumerator) (drop k es))) ≡ total n)
    → (n : ℕ) → option_and_then (slice_get es) (first n) ≡ total n
all_first size depth k es first total none all n =
    by (first n) (subst (λ (ys : List Entry). known_or es (first n) (find (has_key size n) (filter (is_child depth tag_enumerator) ys)) ≡ total n) (dropped_all k es none) (all n))
  where
    by : (o : Option ℕ) → known_or es o None ≡ total n → option_and_then (slice_get es) o ≡ total n
    by (Some p) is = is
    by None is = is

-- ---- the first of a number

pub first_by : (s : Standing) (known : Enumerators) (z number : ℤ) (at : Option ℕ) → z ≡ number → AreFirst s known → at ≡ get nat_cmp known.first (number_key known.size z)
    → option_and_then (slice_get (entries_inside s)) at ≡ find (has_key known.size (number_key known.size number)) (children_tagged tag_enumerator s)
first_by s known z number at same are got =
    ap (λ (o : Option ℕ). option_and_then (slice_get (entries_inside s)) o) got ∙ are (number_key known.size z)
    ∙ ap (λ (x : ℤ). find (has_key known.size (number_key known.size x)) (children_tagged tag_enumerator s)) same
