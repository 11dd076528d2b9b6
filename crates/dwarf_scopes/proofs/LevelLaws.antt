-- Parts of entries of which none is wanted.
use Rattle.std.proofs.Common.{◌≡◌, ℕ, pos, negsuc, zero, suc, ◌+◌, ◌-◌, ◌*◌, ◌/◌, ◌%◌, ◌<◌, ◌≤◌, ◌^◌, ℤ, Bool, true, false, leb, ltb, List, [], ◌∷◌, ◌++◌, length, take, drop, get_or, append_assoc, Option, Some, None, refl, sym, ap, subst, ◌∙◌, arith}
use Rattle.std.specs.Prelude.{filter, not, slice_get, unwrap_or, option_and_then, int_lt, ◌&&◌, ◌||◌, ◌==◌, if◌then◌else◌}
use Rattle.std.specs.Option.{option_to_list}
use Rattle.std.specs.List.{list_any}
use Rattle.std.proofs.Math.Nat.{mod-add-div', suc-mul, zero-mul}
use Rattle.std.proofs.lemmas.List.{append-nil, take_rest, drop-drop, length-drop, length-take-le}
use Rattle.std.proofs.lemmas.Option.{unwrap_or-slice_get}
use Rattle.dwarf_info.specs.declared.entry.Entry.{Entry}
use Rattle.dwarf_info.specs.declared.entry.Unit.{Unit as UnitTree}
use Rattle.dwarf_info.specs.declared.entry.UnitAnswer.{UnitAnswer}
use Rattle.dwarf_info.specs.Attributes.{valued, as_offset, ranges}
use Rattle.dwarf_info.specs.Sections.{SectionBytes5}
use Rattle.dwarf_entries.specs.Tags.{tag_inlined_subroutine, tag_lexical_block}
use Rattle.dwarf_entries.specs.Standing.{Standing, stands, standing_in}
use Rattle.dwarf_scopes.specs.Ranges.{bounds_of, is_between, holds_by, in_list}
use Rattle.dwarf_scopes.specs.declared.levels.Level.{Level}
use Rattle.dwarf_scopes.specs.declared.levels.UnitLevels.{UnitLevels}
use Rattle.dwarf_scopes.specs.declared.spans.Span.{Span}
use Rattle.dwarf_scopes.specs.calls.Spans.{is_in, from_to, covers, only, Joins}
use Rattle.dwarf_scopes.specs.calls.Levels.{bounds_by, may_bounds, may_hold, last_before, span_between, IsWith, IsPart, AreParts, AreSized, IsLeveled, AreLeveled}
use Rattle.dwarf_scopes.specs.inner.Picks.{is_wanted}
use Rattle.dwarf_scopes.specs.calls.Tabled.{first_standing}
use Rattle.dwarf_scopes.specs.inner.Insides.{deeper, insides}
use Rattle.dwarf_scopes.specs.inner.Fronts.{StandFrom}
use Rattle.dwarf_scopes.proofs.SpanLaws.{parted, neither}
use Rattle.dwarf_scopes.proofs.Counts.{first_is, counted_at}

-- ---- an entry that may not hold the address is not wanted

or_none : (b : Bool) → b || false ≡ false → b ≡ false
or_none true e = e
or_none false e = refl

and_none : (b c : Bool) → c ≡ false → b && c ≡ false
and_none true c e = e
and_none false c e = refl

all_hold : (a : ℕ) → a < 2 ^ 32 → is_between (0, pos (2 ^ 32)) a ≡ true
all_hold a small = grind (arith, small)

holds_none : (s : SectionBytes5) (a : ℕ) (x : Standing) (o : Option (ℕ × ℤ)) (list : Option ℕ) → a < 2 ^ 32 → valued as_offset ranges x.entry.attributes ≡ list
    → list_any (λ (b : ℕ × ℤ). is_between b a) (option_to_list (bounds_by o list)) ≡ false → holds_by s x a o ≡ false
holds_none s a x (Some b) list small is e = or_none (is_between b a) e
holds_none s a x None (Some at) small is e = absurd (let all = all_hold a small in cc)
holds_none s a x None None small is e = ap (in_list s x.unit a) is

wanted_by : (s : SectionBytes5) (a : ℕ) (x : Standing) (tag : Bool) → a < 2 ^ 32 → x.entry.tag == tag_inlined_subroutine ≡ tag
    → list_any (λ (b : ℕ × ℤ). is_between b a) (option_to_list (if tag then bounds_by (bounds_of x.entry) (valued as_offset ranges x.entry.attributes) else None)) ≡ false
    → tag && ((x.entry.tag == tag_lexical_block || tag) && holds_by s x a (bounds_of x.entry)) ≡ false
wanted_by s a x true small is e = and_none (x.entry.tag == tag_lexical_block || true) (holds_by s x a (bounds_of x.entry)) (holds_none s a x (bounds_of x.entry) (valued as_offset ranges x.entry.attributes) small refl e)
wanted_by s a x false small is e = refl

not_wanted : (s : SectionBytes5) (a : ℕ) (x : Standing) → a < 2 ^ 32 → may_hold a x.entry ≡ false → is_wanted false s a x ≡ false
not_wanted s a x small e = wanted_by s a x (x.entry.tag == tag_inlined_subroutine) small refl e

-- ---- an entry's addresses as a span

below_end : (f n a : ℕ) → a < 2 ^ 32 → leb f a && leb a (last_before (pos n)) ≡ false → is_between (f, pos n) a ≡ false
below_end f n a small none = by (ltb n (2 ^ 32)) refl where
  by : (b : Bool) → ltb n (2 ^ 32) ≡ b → is_between (f, pos n) a ≡ false
  by true e = let is : leb f a && leb a (n - 1) ≡ false = subst (λ (b : Bool). leb f a && leb a (if b then n - 1 else 4294967295) ≡ false) e none in grind (arith, is)
  by false e = let is : leb f a && leb a 4294967295 ≡ false = subst (λ (b : Bool). leb f a && leb a (if b then n - 1 else 4294967295) ≡ false) e none in grind (arith, is, small)

span_there : (f a : ℕ) (z : ℤ) → a < 2 ^ 32 → leb f a && leb a (last_before z) ≡ false → is_between (f, z) a ≡ false
span_there f a (pos n) small none = below_end f n a small none
span_there f a (negsuc n) small none = and_none (leb f a) (int_lt (pos a) (negsuc n)) refl

span_outside : (b : ℕ × ℤ) (s : Span) (a : ℕ) (t : Bool) → int_lt (pos b.0) b.1 ≡ t → a < 2 ^ 32 → span_between b ≡ Some s → is_in a s ≡ false → is_between b a ≡ false
span_outside b s a true e small is none =
    let same : from_to b.0 (last_before b.1) ≡ s = (let all : span_between b ≡ Some (from_to b.0 (last_before b.1)) = rw e refl in cc) in
    span_there b.0 a b.1 small (ap (is_in a) same ∙ none)
span_outside b s a false e small is none = absurd (let all : span_between b ≡ None = rw e refl in cc)

nothing_there : (f n a : ℕ) → ltb f n ≡ false → is_between (f, pos n) a ≡ false
nothing_there f n a e = grind (arith, e)

no_span : (b : ℕ × ℤ) (a : ℕ) (t : Bool) → int_lt (pos b.0) b.1 ≡ t → span_between b ≡ None → is_between b a ≡ false
no_span b a true e is = absurd (let all : span_between b ≡ Some (from_to b.0 (last_before b.1)) = rw e refl in cc)
no_span (f, pos n) a false e is = nothing_there f n a e
no_span (f, negsuc n) a false e is = and_none (leb f a) (int_lt (pos a) (negsuc n)) refl

outside : (o : Option (ℕ × ℤ)) (s : Span) (a : ℕ) → a < 2 ^ 32 → option_and_then span_between o ≡ Some s → is_in a s ≡ false → list_any (λ (b : ℕ × ℤ). is_between b a) (option_to_list o) ≡ false
outside (Some b) s a small is none = neither (is_between b a) false (span_outside b s a (int_lt (pos b.0) b.1) refl small is none) refl
outside None s a small is none = refl

pub with_span : (e : Entry) (s : Span) (part more : List Span) → option_and_then span_between (may_bounds e) ≡ Some s → Joins part (only s) more → IsWith part e more
with_span e s part more is joins a small none =
    let both = joins a none in
    (both.0, outside (may_bounds e) s a small is (or_none (is_in a s) both.1))

none_outside : (o : Option (ℕ × ℤ)) (a : ℕ) → option_and_then span_between o ≡ None → list_any (λ (b : ℕ × ℤ). is_between b a) (option_to_list o) ≡ false
none_outside (Some b) a is = neither (is_between b a) false (no_span b a (int_lt (pos b.0) b.1) refl is) refl
none_outside None a is = refl

pub without_span : (e : Entry) (part : List Span) → option_and_then span_between (may_bounds e) ≡ None → IsWith part e part
without_span e part is a small none = (none, none_outside (may_bounds e) a is)

-- ---- parts

-- Where the entries from here on may hold the address no more than the part says, none of all may.
abbrev pub InPart : List Span → List Entry → List Entry → Type 0
InPart part left es = (a : ℕ) → a < 2 ^ 32 → covers part a ≡ false → list_any (may_hold a) left ≡ false → list_any (may_hold a) es ≡ false

swap : (m n : ℕ) → m + n ≡ n + m
swap m n = omega arith

plain : (n : ℕ) → 0 + n ≡ n
plain n = omega arith

size_more : (size n : ℕ) → suc n * size ≡ size + n * size
size_more size n = suc-mul n size ∙ swap (n * size) size

pub opposite : (b : Bool) → not b ≡ true → b ≡ false
opposite true e = absurd cc
opposite false e = refl

-- ---- a unit in which none may hold an address

-- none of some where none of all
any_part : (test : Entry → Bool) (n at : ℕ) (es : List Entry) → list_any test es ≡ false → list_any test (take n (drop at es)) ≡ false
any_part test zero at es none = refl
any_part test (suc n) zero [] none = refl
any_part test (suc n) zero (e ∷ es) none = let both = parted (test e) (list_any test es) none in neither (test e) (list_any test (take n es)) both.0 (any_part test n zero es both.1)
any_part test (suc n) (suc at) [] none = refl
any_part test (suc n) (suc at) (e ∷ es) none = any_part test (suc n) at es (parted (test e) (list_any test es) none).1

pub quiet_part : (a n at : ℕ) (es : List Entry) → a < 2 ^ 32 → IsPart es [] → list_any (may_hold a) (take n (drop at es)) ≡ false
quiet_part a n at es small is = any_part (may_hold a) n at es (is a small refl)

-- one more entry
pub silent_more : (es left : List Entry) (e d : Entry) (k : ℕ) → 1 ≤ length left → e ≡ get_or left 0 d → k ≡ length left - 1 → IsWith [] e [] → InPart [] left es → InPart [] (take k (drop 1 left)) es
silent_more es [] e d k le is ek with_one so_far a small none rest = absurd (omega (arith, le))
silent_more es (x ∷ xs) e d k le is ek with_one so_far a small none rest =
    let whole : take k xs ≡ xs = ap (λ (j : ℕ). take j xs) ek ∙ take_rest (x ∷ xs) 1 in
    let all : list_any (may_hold a) xs ≡ false = sym (ap (λ (ys : List Entry). list_any (may_hold a) ys) whole) ∙ rest in
    let one : may_hold a x ≡ false = sym (ap (may_hold a) is) ∙ (with_one a small none).1 in
    so_far a small none (neither (may_hold a x) (list_any (may_hold a) xs) one all)

-- the part of a number
part_at : (size a n : ℕ) (parts : List (List Span)) (spans : List Span) (es : List Entry) → a < 2 ^ 32 → AreParts size parts es → slice_get parts n ≡ Some spans → covers spans a ≡ false
    → list_any (may_hold a) (take size (drop (n * size) es)) ≡ false
part_at size a n [] spans es small are got none = absurd cc
part_at size a zero (one ∷ more) spans es small are got none =
    ap (λ (k : ℕ). list_any (may_hold a) (take size (drop k es))) (zero-mul size) ∙ are.0 a small (let same : one ≡ spans = cc in ap (λ (xs : List Span). covers xs a) same ∙ none)
part_at size a (suc n) (one ∷ more) spans es small are got none =
    ap (λ (xs : List Entry). list_any (may_hold a) (take size xs)) (ap (λ (k : ℕ). drop k es) (size_more size n) ∙ sym (drop-drop (n * size) size es)) ∙ part_at size a n more spans (drop size es) small are.1 got none

-- at a number that so many divide
pub quiet_at : (size a at : ℕ) (parts : List (List Span)) (spans : List Span) (es : List Entry) → a < 2 ^ 32 → at % size ≡ 0 → slice_get parts (at / size) ≡ Some spans → covers spans a ≡ false
    → AreParts size parts es → list_any (may_hold a) (take size (drop at es)) ≡ false
quiet_at size a at parts spans es small whole got none are =
    let is : at / size * size ≡ at = (let all = mod-add-div' at size in let rest : at % size + at / size * size ≡ at / size * size = ap (λ (k : ℕ). k + at / size * size) whole ∙ plain (at / size * size) in sym rest ∙ all) in
    ap (λ (k : ℕ). list_any (may_hold a) (take size (drop k es))) (sym is) ∙ part_at size a (at / size) parts spans es small are got none

-- one more part
pub parts_more : (size : ℕ) (parts after : List (List Span)) (part : List Span) (es left front behind : List Entry) → front ≡ take size left → behind ≡ drop size left → IsPart front part → after ≡ parts ++ part ∷ []
    → ((more : List (List Span)) → AreParts size more left → AreParts size (parts ++ more) es) → (more : List (List Span)) → AreParts size more behind → AreParts size (after ++ more) es
parts_more size parts after part es left front behind ef eb is grown so_far more rest =
    let one : IsPart (take size left) part = subst (λ (xs : List Entry). IsPart xs part) ef is in
    let two : AreParts size more (drop size left) = subst (AreParts size more) eb rest in
    subst (λ (ps : List (List Span)). AreParts size ps es) (sym (append_assoc parts (part ∷ []) more) ∙ ap (λ (ps : List (List Span)). ps ++ more) (sym grown)) (so_far (part ∷ more) (one, two))

pub parts_all : (size : ℕ) (parts : List (List Span)) (es left : List Entry) → ((more : List (List Span)) → AreParts size more left → AreParts size (parts ++ more) es) → AreParts size parts es
parts_all size parts es left so_far = subst (λ (ps : List (List Span)). AreParts size ps es) (append-nil parts) (so_far [] tt)

-- ---- two parts as one

any_twice : (test : Entry → Bool) (m n k : ℕ) (es : List Entry) → k ≡ m + n → list_any test (take m es) ≡ false → list_any test (take n (drop m es)) ≡ false → list_any test (take k es) ≡ false
any_twice test zero n k es is one two = let same : k ≡ n = omega (arith, is) in ap (λ (j : ℕ). list_any test (take j es)) same ∙ two
any_twice test (suc m) n zero es is one two = refl
any_twice test (suc m) n (suc k) [] is one two = refl
any_twice test (suc m) n (suc k) (e ∷ es) is one two =
    let both = parted (test e) (list_any test (take m es)) one in
    neither (test e) (list_any test (take k es)) both.0 (any_twice test m n k es (omega (arith, is)) both.1 two)

both_parts : (size : ℕ) (one two both : List Span) (es : List Entry) → IsPart (take size es) one → IsPart (take size (drop size es)) two → Joins one two both → IsPart (take (size + size) es) both
both_parts size one two both es p q joins a small none =
    let each = joins a none in
    any_twice (may_hold a) size size (size + size) es refl (p a small each.0) (q a small each.1)

-- The parts that are left are those of the entries that are left, and larger ones of these complete the larger ones.
pub record Doubling (size : ℕ) (es : List Entry) (left double : List (List Span)) : Type 0 where
  pub rest : List Entry
  pub parts : AreParts size left rest
  pub so_far : (more : List (List Span)) → AreParts (size + size) more rest → AreParts (size + size) (double ++ more) es

doubled_once : (size : ℕ) (es : List Entry) (one two both : List Span) (behind double : List (List Span)) → Joins one two both → Doubling size es (one ∷ two ∷ behind) double → Doubling size es behind (double ++ both ∷ [])
doubled_once size es one two both behind double joins d = record {
  rest = drop (size + size) d.rest;
  parts = subst (AreParts size behind) (drop-drop size size d.rest) d.parts.1.1;
  so_far = λ more is. subst (λ (ps : List (List Span)). AreParts (size + size) ps es) (sym (append_assoc double (both ∷ []) more)) (d.so_far (both ∷ more) (both_parts size one two both d.rest d.parts.0 d.parts.1.0 joins, is));
}

two_are : {A : Type 0} (xs : List A) (x y d e : A) → 2 ≤ length xs → x ≡ get_or xs 0 d → y ≡ get_or xs 1 e → xs ≡ x ∷ y ∷ drop 2 xs
two_are [] x y d e le first second = absurd (omega (arith, le))
two_are (a ∷ []) x y d e le first second = absurd (omega (arith, le))
two_are (a ∷ b ∷ xs) x y d e le first second = let one : x ≡ a = first in let two : y ≡ b = second in cc

pub two_first : {A : Type 0} (xs : List A) (x y d e : A) → 2 ≤ length xs → x ≡ get_or xs 0 d → y ≡ get_or xs 1 e → xs ≡ x ∷ y ∷ take (length xs - 2) (drop 2 xs)
two_first xs x y d e le first second = two_are xs x y d e le first second ∙ ap (λ ys. x ∷ y ∷ ys) (sym (take_rest xs 2))

pub double_more : (size : ℕ) (es : List Entry) (one two both : List Span) (left behind double after : List (List Span)) → left ≡ one ∷ two ∷ behind → Joins one two both → after ≡ double ++ both ∷ []
    → Doubling size es left double → Doubling size es behind after
double_more size es one two both left behind double after is joins grown d =
    subst (Doubling size es behind) (sym grown) (doubled_once size es one two both behind double joins (subst (λ (ps : List (List Span)). Doubling size es ps double) is d))

pub double_all : (size : ℕ) (es : List Entry) (left double : List (List Span)) → Doubling size es left double → AreParts (size + size) double es
double_all size es left double d = subst (λ (ps : List (List Span)). AreParts (size + size) ps es) (append-nil double) (d.so_far [] tt)

abbrev pub AreDoubled : List (List Span) → List (List Span) → Type 0
AreDoubled parts double = (size : ℕ) → (es : List Entry) → AreParts size parts es → AreParts (size + size) double es

eight_times : (size : ℕ) → size + size + (size + size) + (size + size + (size + size)) ≡ size * 8
eight_times size = omega arith

pub are_larger : (parts double fourfold eightfold : List (List Span)) → AreDoubled parts double → AreDoubled double fourfold → AreDoubled fourfold eightfold
    → (size : ℕ) (es : List Entry) → AreParts size parts es → AreParts (size * 8) eightfold es
are_larger parts double fourfold eightfold one two three size es are =
    subst (λ (n : ℕ). AreParts n eightfold es) (eight_times size) (three (size + size + (size + size)) es (two (size + size) es (one size es are)))

-- ---- levels

abbrev pub Grows : List Entry → List Level → Type 0
Grows es levels = (more : List Level) → AreSized more es → AreSized (levels ++ more) es

pub sizes_all : (es : List Entry) (levels : List Level) → Grows es levels → AreSized levels es
sizes_all es levels so_far = subst (λ (ls : List Level). AreSized ls es) (append-nil levels) (so_far [] tt)

-- one more level
pub sizes_more : (es : List Entry) (levels after : List Level) (level : Level) → AreParts level.size level.parts es → after ≡ levels ++ level ∷ [] → Grows es levels → Grows es after
sizes_more es levels after level are grown so_far more rest =
    subst (λ (ls : List Level). AreSized ls es) (sym (append_assoc levels (level ∷ []) more) ∙ ap (λ (ls : List Level). ls ++ more) (sym grown)) (so_far (level ∷ more) (are, rest))

pub sized_at : (es : List Entry) (levels : List Level) (i : ℕ) (d : Level) → AreSized levels es → i < length levels → AreParts (get_or levels i d).size (get_or levels i d).parts es
sized_at es [] i d are lt = absurd (omega (arith, lt))
sized_at es (l ∷ ls) zero d are lt = are.0
sized_at es (l ∷ ls) (suc i) d are lt = sized_at es ls i d are.1 (omega (arith, lt))

-- ---- units

-- one more unit
pub levels_more : (levels after : List UnitLevels) (level : UnitLevels) (units left behind : List UnitAnswer) (u : UnitAnswer) → left ≡ u ∷ behind → IsLeveled u level → after ≡ levels ++ level ∷ []
    → ((more : List UnitLevels) → AreLeveled more left → AreLeveled (levels ++ more) units) → (more : List UnitLevels) → AreLeveled more behind → AreLeveled (after ++ more) units
levels_more levels after level units left behind u eu is grown so_far more rest =
    let two : AreLeveled (level ∷ more) left = subst (AreLeveled (level ∷ more)) (sym eu) (is, rest) in
    subst (λ (ls : List UnitLevels). AreLeveled ls units) (sym (append_assoc levels (level ∷ []) more) ∙ ap (λ (ls : List UnitLevels). ls ++ more) (sym grown)) (so_far (level ∷ more) two)

pub levels_all : (levels : List UnitLevels) (units left : List UnitAnswer) → ((more : List UnitLevels) → AreLeveled more left → AreLeveled (levels ++ more) units) → AreLeveled levels units
levels_all levels units left so_far = subst (λ (ls : List UnitLevels). AreLeveled ls units) (append-nil levels) (so_far [] tt)

pub level_at : (n : ℕ) (levels : List UnitLevels) (units : List UnitAnswer) (l : UnitLevels) (u : UnitAnswer) → AreLeveled levels units → slice_get levels n ≡ Some l → slice_get units n ≡ Some u → IsLeveled u l
level_at n [] units l u are got there = absurd cc
level_at n (k ∷ ks) [] l u are got there = absurd cc
level_at zero (k ∷ ks) (v ∷ vs) l u are got there =
    let one : k ≡ l = cc in let two : v ≡ u = cc in subst (λ (x : UnitAnswer). IsLeveled x l) two (subst (IsLeveled v) one are.0)
level_at (suc n) (k ∷ ks) (v ∷ vs) l u are got there = level_at n ks vs l u are.1 got there

-- ---- entries that are passed over

heads : {A : Type 0} (x y : A) (xs ys : List A) → x ∷ xs ≡ y ∷ ys → x ≡ y
heads x y xs ys e = cc

tails : {A : Type 0} (x y : A) (xs ys : List A) → x ∷ xs ≡ y ∷ ys → xs ≡ ys
tails x y xs ys e = cc

front_by : {A : Type 0} (n : ℕ) (xs ys : List A) → xs ≡ take (length xs) ys → drop n xs ≡ take (length (drop n xs)) (drop n ys)
front_by zero xs ys e = e
front_by (suc n) [] ys e = refl
front_by (suc n) (x ∷ xs) [] e = absurd cc
front_by (suc n) (x ∷ xs) (y ∷ ys) e = front_by n xs ys (tails x y xs (take (length xs) ys) e)

pub stand_behind : (n at : ℕ) (xs all : List Entry) → n ≤ length xs → StandFrom at xs all → StandFrom (at + n) (drop n xs) all
stand_behind n at xs all le from = record {
  are = front_by n xs (drop at all) from.are ∙ ap (λ (ys : List Entry). take (length (drop n xs)) ys) (drop-drop n at all);
  fits = let less = length-drop n xs in omega (arith, less, le, from.fits);
}

passed_by : (s : SectionBytes5) (a : ℕ) (u : UnitTree) (m n : ℕ) (xs ys : List Entry) → a < 2 ^ 32 → m ≤ n → xs ≡ take (length xs) ys → list_any (may_hold a) (take n ys) ≡ false
    → filter (is_wanted false s a) (standing_in u xs) ≡ filter (is_wanted false s a) (standing_in u (drop m xs))
passed_by s a u zero n xs ys small le e quiet = refl
passed_by s a u (suc m) n [] ys small le e quiet = refl
passed_by s a u (suc m) n (x ∷ xs) [] small le e quiet = absurd cc
passed_by s a u (suc m) zero (x ∷ xs) (y ∷ ys) small le e quiet = absurd (omega (arith, le))
passed_by s a u (suc m) (suc n) (x ∷ xs) (y ∷ ys) small le e quiet =
    let both = parted (may_hold a y) (list_any (may_hold a) (take n ys)) quiet in
    let none : is_wanted false s a (stands u x xs) ≡ false = not_wanted s a (stands u x xs) small (ap (may_hold a) (heads x y xs (take (length xs) ys) e) ∙ both.0) in
    let less : m ≤ n = omega (arith, le) in
    rw none (passed_by s a u m n xs ys small less (tails x y xs (take (length xs) ys) e) both.1)

pub passed_over : (s : SectionBytes5) (a : ℕ) (u : UnitTree) (at m n : ℕ) (xs : List Entry) → a < 2 ^ 32 → m ≤ n → StandFrom at xs u.entries → list_any (may_hold a) (take n (drop at u.entries)) ≡ false
    → filter (is_wanted false s a) (standing_in u xs) ≡ filter (is_wanted false s a) (standing_in u (drop m xs))
passed_over s a u at m n xs small le from quiet = passed_by s a u m n xs (drop at u.entries) small le from.are quiet

-- ---- the entries in a subprogram, by their count

pub count_is : (es : List Entry) (counts : List ℕ) (n count : ℕ) (e other : Entry) (behind : List Entry) → n < length es → e ≡ get_or es n other → counts ≡ insides es → behind ≡ drop (n + 1) es
    → count ≡ unwrap_or (slice_get counts n) 0 → count ≡ deeper e.depth behind
count_is es counts n count e other behind lt is all rest said =
    said ∙ unwrap_or-slice_get counts n 0 ∙ counted_at es counts n e other 0 lt is all ∙ ap (λ (xs : List Entry). deeper e.depth xs) (sym rest)

pub inside_stands : (es : List Entry) (n count : ℕ) (behind inside : List Entry) → length es < 2 ^ 64 → n < length es → behind ≡ drop (n + 1) es → count ≤ length behind → inside ≡ take count behind → StandFrom (n + 1) inside es
inside_stands es n count behind inside fits lt rest le is =
    let len : length inside ≡ count = ap length is ∙ length-take-le count behind le in
    let left = length-drop (n + 1) es in
    record {
      are = is ∙ ap (λ (k : ℕ). take k behind) (sym len) ∙ ap (λ (xs : List Entry). take (length inside) xs) rest;
      fits = omega (arith, fits, len, left, le, lt, ap length rest);
    }

pub stands_there : (u : UnitTree) (es : List Entry) (n : ℕ) (e other : Entry) (behind : List Entry) (x : Standing) → es ≡ u.entries → n < length es → e ≡ get_or es n other → behind ≡ drop (n + 1) es
    → x ≡ stands u e behind → Some x ≡ first_standing u (drop n u.entries)
stands_there u es n e other behind x all lt is rest stood =
    sym (ap (λ (fs : List Entry). first_standing u (drop n fs)) (sym all) ∙ ap (first_standing u) (first_is es n e other lt is) ∙ ap (λ (xs : List Entry). Some (stands u e xs)) (sym rest) ∙ ap Some (sym stood))
