-- Scalars and their sizes.
use Rattle.std.proofs.Common.{◌≡◌, ℕ, zero, suc, ◌-◌, ◌*◌, ◌^◌, ◌<◌, ◌≤◌, Bool, true, false, List, Option, Some, None, refl, sym, ap, ◌∙◌, arith}
use Rattle.std.specs.Prelude.{◌==◌, ◌&&◌, ◌||◌, nat_lt, nat_le, ℤ, pos, ◌-ℤ◌, unwrap_or, if◌then◌else◌}
use Rattle.std.specs.Fmt.{signed_decimal}
use Rattle.std.proofs.Math.Nat.{pow-le-pow_right, pow-succ'}
use Rattle.std.proofs.lemmas.Nat.{pow_pos}
use Rattle.std.proofs.lemmas.Bool.Decides.{nat_tests}
use Rattle.dwarf_info.specs.declared.entry.UnitAnswer.{UnitAnswer}
use Rattle.dwarf_entries.specs.Standing.{Standing}
use Rattle.dwarf_types.specs.declared.class.Class.{Class}
use Rattle.dwarf_types.specs.declared.class.Class.TheVariants as classes
use Rattle.dwarf_types.specs.declared.behind.Typed.TheVariants as typeds
use Rattle.dwarf_types.specs.Types.{class_at, type_of}
use Rattle.dwarf_types.specs.Kinds.{encoding}
use Rattle.dwarf_types.specs.Sizes.{size_as, size_within, type_size}
use Rattle.var_values.specs.Texts.{base_text}
use Rattle.var_values.specs.declared.bits.Bits.{Bits}
use Rattle.var_values.specs.Places.{Place}
use Rattle.var_values.specs.Scalars.{all_bits, bits_of, as_signed, number_of, is_signed, is_size, is_integer_size, is_code_point_size, encoding_suits, size_suits}
use Rattle.var_values.specs.Suits.{class_suits, bits_suit, source_suits, suits}
use Rattle.var_values.specs.inner.Scalar.{ScalarAs, IsScalar}
use Rattle.std.proofs.lemmas.Bool.{and_parts}

is_short : (size : ℕ) → is_size size ≡ true → size ≤ 8
is_short size e = grind (arith, nat_tests)

is_no_longer : (size : ℕ) → is_integer_size size ≡ true → size ≤ 16
is_no_longer size e = by_tests size (is_size size) refl e
  where
    by_tests : (size : ℕ) (b : Bool) → is_size size ≡ b → (b || size == 16) ≡ true → size ≤ 16
    by_tests size true short e = let least : size ≤ 8 = is_short size short in omega (arith, least)
    by_tests size false short e = grind (arith, nat_tests)

is_code_point : (size : ℕ) → is_code_point_size size ≡ true → size ≤ 8
is_code_point size e = grind (arith, nat_tests)

one_byte : (b : Bool) (size : ℕ) → (b && size == 1) ≡ true → size ≤ 8
one_byte b size h = let one : (size == 1) ≡ true = (and_parts b (size == 1) h).1 in grind (arith, nat_tests)

abbrev suits_by : Bool → Bool → Bool → Bool → Bool → Bool → ℕ → Bool
suits_by a b c d f g size =
    if a then size == 4
    else (if b then is_size size
    else (if c then is_integer_size size
    else (if d then nat_le 1 size && nat_le size 16
    else (if f then is_code_point_size size
    else g && size == 1))))

-- but for a float or an integer
pub short_unless : (e size : ℕ) → encoding_suits e size ≡ true → (e ≡ 4 → ⊥) → (e ≡ 5 → ⊥) → (e ≡ 7 → ⊥) → size ≤ 8
short_unless e size h float signed unsigned = by_tests e size (e == 1) (e == 2) (e == 5 || e == 7) (e == 4) (e == 16) refl refl h float signed unsigned
  where
    neither : (e : ℕ) (b : Bool) → (e == 5) ≡ b → (b || e == 7) ≡ true → (e ≡ 5 → ⊥) → (e ≡ 7 → ⊥) → ⊥
    neither e true five h signed unsigned = signed (grind (arith, nat_tests))
    neither e false five h signed unsigned = unsigned (grind (arith, nat_tests))

    by_tests : (e size : ℕ) (a b c d f : Bool) → (e == 5 || e == 7) ≡ c → (e == 4) ≡ d → suits_by a b c d f (e == 6 || e == 8) size ≡ true → (e ≡ 4 → ⊥) → (e ≡ 5 → ⊥) → (e ≡ 7 → ⊥) → size ≤ 8
    by_tests e size true b c d f isc isd h float signed unsigned = grind (arith, nat_tests)
    by_tests e size false true c d f isc isd h float signed unsigned = is_short size h
    by_tests e size false false true d f isc isd h float signed unsigned = absurd (neither e (e == 5) refl isc signed unsigned)
    by_tests e size false false false true f isc isd h float signed unsigned = absurd (float (grind (arith, nat_tests)))
    by_tests e size false false false false true isc isd h float signed unsigned = is_code_point size h
    by_tests e size false false false false false isc isd h float signed unsigned = one_byte (e == 6 || e == 8) size h

pub encoding_short : (e size : ℕ) → encoding_suits e size ≡ true → size ≤ 16
encoding_short e size h = by_tests size (e == 1) (e == 2) (e == 5 || e == 7) (e == 4) (e == 16) (e == 6 || e == 8) h
  where
    by_tests : (size : ℕ) (a b c d f g : Bool) → suits_by a b c d f g size ≡ true → size ≤ 16
    by_tests size true b c d f g h = grind (arith, nat_tests)
    by_tests size false true c d f g h = let short : size ≤ 8 = is_short size h in omega (arith, short)
    by_tests size false false true d f g h = is_no_longer size h
    by_tests size false false false true f g h = let most : nat_le size 16 ≡ true = (and_parts (nat_le 1 size) (nat_le size 16) h).1 in grind (arith, nat_tests)
    by_tests size false false false false true g h = let short : size ≤ 8 = is_code_point size h in omega (arith, short)
    by_tests size false false false false false g h = let short : size ≤ 8 = one_byte g size h in omega (arith, short)

-- ---- bits of an encoding that is no float

below_64 : (k w : ℕ) → k ≤ 64 → w < 2 ^ k → w < 2 ^ 64
below_64 k w few lt = let power : 2 ^ k ≤ 2 ^ 64 = pow-le-pow_right (omega arith) few in omega (arith, lt, power)

pub narrow_number : (s : Bool) (k w : ℕ) → (s ≡ false → k ≤ 64) → s ≡ false → w < 2 ^ k → w < 2 ^ 64
narrow_number s k w few is lt = below_64 k w (few is) lt

pub narrow_word : (e size k w : ℕ) → encoding_suits e size ≡ true → (e ≡ 4 → ⊥) → (e ≡ 5 → ⊥) → (e ≡ 7 → ⊥) → k ≤ 8 * size → w < 2 ^ k → w < 2 ^ 64
narrow_word e size k w h float signed unsigned few lt =
    let short : size ≤ 8 = short_unless e size h float signed unsigned in
    below_64 k w (omega (arith, short, few)) lt

pub narrow_unless_signed : (e size k : ℕ) → encoding_suits e size ≡ true → (e ≡ 4 → ⊥) → (e ≡ 7 → ⊥) → k ≤ 8 * size → is_signed (Some e) ≡ false → k ≤ 64
narrow_unless_signed e size k h float unsigned few other =
    let short : size ≤ 8 = short_unless e size h float (λ five. signed_five e five other) unsigned in
    omega (arith, short, few)
  where
    signed_five : (e : ℕ) → e ≡ 5 → is_signed (Some e) ≡ false → ⊥
    signed_five e five other = let both : true ≡ false = ap (λ (n : ℕ). is_signed (Some n)) (sym five) ∙ other in cc

-- ---- signs

pub half_twice : (k : ℕ) → 0 < k → 2 ^ k ≡ 2 * 2 ^ (k - 1)
half_twice zero some = absurd (omega arith)
half_twice (suc k) some = let less : suc k - 1 ≡ k = omega arith in rw less (pow-succ' 2 k)

pub half_few : (k : ℕ) → k ≤ 128 → 2 ^ (k - 1) ≤ 2 ^ 127
half_few k few = let less : k - 1 ≤ 127 = omega (arith, few) in pow-le-pow_right (omega arith) less

pub half_some : (k : ℕ) → 0 < 2 ^ (k - 1)
half_some k = pow_pos (k - 1)

pub none_signed : (k w : ℕ) → k ≡ 0 → w < 2 ^ k → pos 0 ≡ as_signed k w
none_signed zero w none lt =
    let is : w ≡ 0 = omega (arith, lt) in
    ap (λ (n : ℕ). as_signed 0 n) (sym is)
none_signed (suc k) w none lt = absurd (omega arith)

pub low_signed : (k w h : ℕ) → h ≡ 2 ^ (k - 1) → w < h → pos w ≡ as_signed k w
low_signed k w h half lt =
    let low : nat_lt w (2 ^ (k - 1)) ≡ true = grind (arith, nat_tests, half, lt) in
    sym (ap (λ (b : Bool). if b || k == 0 then pos w else pos w -ℤ pos (2 ^ k)) low)

pub signed_is : (k w h : ℕ) (z : ℤ) → 0 < k → h ≡ 2 ^ (k - 1) → h ≤ w → z ≡ (pos w -ℤ pos (2 * h)) → z ≡ as_signed k w
signed_is k w h z some half le is =
    let twice : 2 * h ≡ 2 ^ k = ap (λ (n : ℕ). 2 * n) half ∙ sym (half_twice k some) in
    let past : nat_lt w (2 ^ (k - 1)) ≡ false = grind (arith, nat_tests, half, le) in
    let more : (k == 0) ≡ false = grind (arith, nat_tests) in
    is ∙ ap (λ (n : ℕ). pos w -ℤ pos n) twice ∙ sym (by_tests (nat_lt w (2 ^ (k - 1))) (k == 0) (pos w) (pos w -ℤ pos (2 ^ k)) past more)
  where
    by_tests : (a b : Bool) (y z : ℤ) → a ≡ false → b ≡ false → (if a || b then y else z) ≡ z
    by_tests false false y z isa isb = refl
    by_tests true b y z isa isb = absurd (let no : true ≡ false = isa in cc)
    by_tests false true y z isa isb = absurd (let no : true ≡ false = isb in cc)

pub suited_encoding : (o : Option ℕ) (size : ℕ) → size_suits o size ≡ true → size ≤ 16
suited_encoding None size h = absurd (let no : false ≡ true = h in cc)
suited_encoding (Some e) size h = encoding_short e size h

scalar_short_as : (c : Class) (s : Standing) (size : ℕ) → ScalarAs c s size → size ≤ 16
scalar_short_as classes.Passed s size h = absurd h
scalar_short_as classes.Pointing s size h = omega (arith, h)
scalar_short_as classes.Members s size h = absurd h
scalar_short_as classes.Array s size h = absurd h
scalar_short_as classes.Enumeration s size h = omega (arith, h)
scalar_short_as classes.Base s size h = suited_encoding (encoding s) size h
scalar_short_as classes.Another s size h = absurd h

pub scalar_short : (s : Standing) (size : ℕ) → IsScalar s size → size ≤ 16
scalar_short s size h = scalar_short_as (class_at s) s size h

-- ---- a type that suits, and is no structure or array

pointing_size : (units : List UnitAnswer) (s : Standing) (k size : ℕ) → type_size units (typeds.At s k) ≡ Some size → class_at s ≡ classes.Pointing → size ≤ 8
unfolding size_within
pointing_size units s k size e class =
    let four : Some 4 ≡ Some size = sym (ap (λ (c : Class). size_as c (size_within units 15 (type_of units s.entry.attributes)) s k) class) ∙ e in
    let is : 4 ≡ size = cc in
    omega (arith, is)

scalar_as : (c : Class) (s : Standing) (size : ℕ) → class_suits c s size ≡ true → (c ≡ classes.Pointing → size ≤ 8) → (c ≡ classes.Members → ⊥) → (c ≡ classes.Array → ⊥) → ScalarAs c s size
scalar_as classes.Passed s size h pointing members array = absurd (let no : false ≡ true = h in cc)
scalar_as classes.Pointing s size h pointing members array = pointing refl
scalar_as classes.Members s size h pointing members array = members refl
scalar_as classes.Array s size h pointing members array = array refl
scalar_as classes.Enumeration s size h pointing members array = is_short size h
scalar_as classes.Base s size h pointing members array = h
scalar_as classes.Another s size h pointing members array = absurd (let no : false ≡ true = h in cc)

class_suited : (s : Standing) (p : Place) (size : ℕ) → suits s p size ≡ true → class_suits (class_at s) s size ≡ true
class_suited s p size h =
    (and_parts (class_suits (class_at s) s size) (bits_suit (class_at s) size p.bits) (and_parts (class_suits (class_at s) s size && bits_suit (class_at s) size p.bits) (source_suits p.source size) h).0).0

bits_suited : (s : Standing) (p : Place) (size : ℕ) → suits s p size ≡ true → bits_suit (class_at s) size p.bits ≡ true
bits_suited s p size h =
    (and_parts (class_suits (class_at s) s size) (bits_suit (class_at s) size p.bits) (and_parts (class_suits (class_at s) s size && bits_suit (class_at s) size p.bits) (source_suits p.source size) h).0).1

pub suits_scalar : (units : List UnitAnswer) (s : Standing) (k size : ℕ) (p : Place) → type_size units (typeds.At s k) ≡ Some size → suits s p size ≡ true → (class_at s ≡ classes.Members → ⊥)
    → (class_at s ≡ classes.Array → ⊥) → IsScalar s size
suits_scalar units s k size p e h members array = scalar_as (class_at s) s size (class_suited s p size h) (pointing_size units s k size e) members array

narrow_by : (c : Class) (size : ℕ) (bits : Option Bits) → bits_suit c size bits ≡ true → (unwrap_or bits (all_bits size)).count ≤ 8 * size
narrow_by c size None h = omega arith
narrow_by classes.Enumeration size (Some b) h = grind (arith, nat_tests)
narrow_by classes.Base size (Some b) h = grind (arith, nat_tests)
narrow_by classes.Passed size (Some b) h = absurd (let no : false ≡ true = h in cc)
narrow_by classes.Pointing size (Some b) h = absurd (let no : false ≡ true = h in cc)
narrow_by classes.Members size (Some b) h = absurd (let no : false ≡ true = h in cc)
narrow_by classes.Array size (Some b) h = absurd (let no : false ≡ true = h in cc)
narrow_by classes.Another size (Some b) h = absurd (let no : false ≡ true = h in cc)

pub suits_narrow : (s : Standing) (p : Place) (size : ℕ) → suits s p size ≡ true → (bits_of p size).count ≤ 8 * size
suits_narrow s p size h = narrow_by (class_at s) size p.bits (bits_suited s p size h)

-- the text of a float is that of its bits
pub float_any : (e size w : ℕ) (z y : ℤ) → e ≡ 4 → base_text e size w z ≡ base_text e size w y
unfolding base_text
float_any e size w z y is = ap (λ (n : ℕ). base_text n size w z) is ∙ ap (λ (n : ℕ). base_text n size w y) (sym is)

-- that of an unsigned number is its decimal
pub unsigned_any : (e size w k : ℕ) → e ≡ 7 → signed_decimal (pos w) ≡ base_text e size w (number_of (is_signed (Some e)) k w)
unfolding base_text
unsigned_any e size w k is = sym (ap (λ (n : ℕ). base_text n size w (number_of (is_signed (Some n)) k w)) is)
