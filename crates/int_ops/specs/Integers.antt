-- Operations on integers (Core 1.0, 4.3). An integer of n bits is a number below 2 ^ n.
use Rattle.std.specs.Prelude.{ℕ, ◌+◌, ◌-◌, ◌*◌, ◌/◌, ◌%◌, ◌^◌, Bool, not, ◌&&◌, ◌==◌, nat_lt, nat_le, int_lt, int_le, int_div, int_rem, bit_and, bit_or, bit_xor, count_ones, if◌then◌else◌, Result, Ok, Err, ℤ, pos, negsuc, ◌-ℤ◌}
use Rattle.std.specs.Int.{int_div_euclid}
use Rattle.std.specs.Int.Count.{count_leading_zeros, count_trailing_zeros}
use Rattle.int_ops.specs.declared.operators.Unary.{Unary}
use Rattle.int_ops.specs.declared.operators.Unary.TheVariants.{Clz, Ctz, Popcnt}
use Rattle.int_ops.specs.declared.operators.Compare.{Compare}
use Rattle.int_ops.specs.declared.operators.Compare.TheVariants.{Eq, Ne, LtS, LtU, GtS, GtU, LeS, LeU, GeS, GeU}
use Rattle.int_ops.specs.declared.operators.Binary.{Binary}
use Rattle.int_ops.specs.declared.operators.Binary.TheVariants.{Add, Sub, Mul, DivS, DivU, RemS, RemU, And, Or, Xor, Shl, ShrS, ShrU, Rotl, Rotr}
use Rattle.int_ops.specs.declared.operators.ArithTrap.{ArithTrap}
use Rattle.int_ops.specs.declared.operators.ArithTrap.TheVariants.{DivideByZero, Overflow}
use Rattle.int_ops.specs.declared.operators.Narrow32.{Narrow32}
use Rattle.int_ops.specs.declared.operators.Narrow32.TheVariants as narrow32
use Rattle.int_ops.specs.declared.operators.Narrow64.{Narrow64}
use Rattle.int_ops.specs.declared.operators.Narrow64.TheVariants as narrow64

-- ---- Core 4.3.2: the signed reading of an integer of n bits, and the integer with that reading

abbrev pub signed : ℕ → ℕ → ℤ
signed n a = if nat_lt a (2 ^ (n - 1)) then pos a else pos a -ℤ pos (2 ^ n)

abbrev pub unsigned : ℕ → ℤ → ℕ
unsigned n (pos a) = a
unsigned n (negsuc a) = 2 ^ n - (a + 1)

-- what is left of a number in n bits
abbrev pub modulo : ℕ → ℕ → ℕ
modulo n a = a % 2 ^ n

-- ---- Core 4.3.2: operations on one integer

-- iclz, ictz and ipopcnt: all n bits of 0 are leading zeros, and trailing zeros
unfoldable pub unary : ℕ → Unary → ℕ → ℕ
unary n Clz a = count_leading_zeros n a
unary n Ctz a = count_trailing_zeros n a
unary n Popcnt a = count_ones a

-- ---- Core 4.3.2: comparisons

unfoldable pub compare : ℕ → Compare → ℕ → ℕ → Bool
compare n Eq a b = a == b
compare n Ne a b = not (a == b)
compare n LtS a b = int_lt (signed n a) (signed n b)
compare n LtU a b = nat_lt a b
compare n GtS a b = int_lt (signed n b) (signed n a)
compare n GtU a b = nat_lt b a
compare n LeS a b = int_le (signed n a) (signed n b)
compare n LeU a b = nat_le a b
compare n GeS a b = int_le (signed n b) (signed n a)
compare n GeU a b = nat_le b a

-- ---- Core 4.3.2: operations on two integers

-- a quotient or remainder, which there is none by 0
abbrev pub unless_zero : ℕ → Result ℕ ArithTrap → Result ℕ ArithTrap
unless_zero b result = if b == 0 then Err DivideByZero else result

-- idiv_s: the quotient rounds toward zero. That of the least integer by -1 is past the range.
abbrev pub overflows : ℕ → ℕ → ℕ → Bool
overflows n a b = (a == 2 ^ (n - 1)) && (b == 2 ^ n - 1)

unfoldable pub div_s : ℕ → ℕ → ℕ → Result ℕ ArithTrap
div_s n a b = unless_zero b (if overflows n a b then Err Overflow else Ok (unsigned n (int_div (signed n a) (signed n b))))

-- irem_s: the remainder has the sign of the dividend
unfoldable pub rem_s : ℕ → ℕ → ℕ → Result ℕ ArithTrap
rem_s n a b = unless_zero b (Ok (unsigned n (int_rem (signed n a) (signed n b))))

-- ishl, ishr_s and ishr_u shift by k bits, where k is the second operand modulo n. ishr_s rounds down.
abbrev pub shl : ℕ → ℕ → ℕ → ℕ
shl n a k = modulo n (a * 2 ^ k)

abbrev pub shr_s : ℕ → ℕ → ℕ → ℕ
shr_s n a k = unsigned n (int_div_euclid (signed n a) (pos (2 ^ k)))

abbrev pub shr_u : ℕ → ℕ → ℕ → ℕ
shr_u n a k = a / 2 ^ k

-- irotl: the highest k bits come to the lowest places, behind the others. irotr: the lowest k bits go to the highest places.
unfoldable pub rotl : ℕ → ℕ → ℕ → ℕ
rotl n a k = (a % 2 ^ (n - k)) * 2 ^ k + a / 2 ^ (n - k)

unfoldable pub rotr : ℕ → ℕ → ℕ → ℕ
rotr n a k = (a % 2 ^ k) * 2 ^ (n - k) + a / 2 ^ k

unfoldable pub binary : ℕ → Binary → ℕ → ℕ → Result ℕ ArithTrap
binary n Add a b = Ok (modulo n (a + b))
binary n Sub a b = Ok (modulo n (a + (2 ^ n - b)))
binary n Mul a b = Ok (modulo n (a * b))
binary n DivS a b = div_s n a b
binary n DivU a b = unless_zero b (Ok (a / b))
binary n RemS a b = rem_s n a b
binary n RemU a b = unless_zero b (Ok (a % b))
binary n And a b = Ok (bit_and a b)
binary n Or a b = Ok (bit_or a b)
binary n Xor a b = Ok (bit_xor a b)
binary n Shl a b = Ok (shl n a (b % n))
binary n ShrS a b = Ok (shr_s n a (b % n))
binary n ShrU a b = Ok (shr_u n a (b % n))
binary n Rotl a b = Ok (rotl n a (b % n))
binary n Rotr a b = Ok (rotr n a (b % n))

-- ---- Core 4.3.4: conversions; the sign extensions are those of Core 2.0, 4.3.2

-- extend_s: an integer of m bits, read as signed, in n bits
abbrev pub sign_extended : ℕ → ℕ → ℕ → ℕ
sign_extended m n a = unsigned n (signed m a)

abbrev pub wrap : ℕ → ℕ
wrap a = modulo 32 a

abbrev pub extend_s : ℕ → ℕ
extend_s a = sign_extended 32 64 a

abbrev pub extend_u : ℕ → ℕ
extend_u a = a

-- ---- Core 2.0, 4.3.2, iextendM_s: the lowest m bits of an integer, read as signed, in n bits

abbrev pub narrowed : ℕ → ℕ → ℕ → ℕ
narrowed m n a = sign_extended m n (modulo m a)

abbrev pub narrow32_bits : Narrow32 → ℕ
narrow32_bits narrow32.Eight = 8
narrow32_bits narrow32.Sixteen = 16

abbrev pub narrow64_bits : Narrow64 → ℕ
narrow64_bits narrow64.Eight = 8
narrow64_bits narrow64.Sixteen = 16
narrow64_bits narrow64.ThirtyTwo = 32

abbrev pub extend32 : Narrow32 → ℕ → ℕ
extend32 k a = narrowed (narrow32_bits k) 32 a

abbrev pub extend64 : Narrow64 → ℕ → ℕ
extend64 k a = narrowed (narrow64_bits k) 64 a
