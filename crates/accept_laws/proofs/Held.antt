-- Numbers that are held in the range of their type. A dump shows a number past its type as the greatest one of the type; the values of a
-- run are in their ranges, which nothing here needs to know.
use Rattle.std.proofs.Common.{◌≡◌, ℕ, suc, ◌<◌, ◌≤◌, ◌^◌, ◌-◌, nat_lt, false, negsuc, min, map, refl, sym, ap, ◌∙◌, arith, ⊎_elim}
use Rattle.std.specs.Int.{w32, w64, cast_signed}
use Rattle.std.proofs.lemmas.Bool.{le-ltb, cases_lt}
use Rattle.wasm_syntax.specs.declared.value.Seen.{Seen}
use Rattle.wasm_syntax.specs.declared.value.Seen.TheVariants as seen
use Rattle.wasm_syntax.specs.declared.value.Value.{Value}
use Rattle.wasm_syntax.specs.declared.value.Value.TheVariants as value
use Rattle.wasm_syntax.specs.Numbers.{IsValue, type_of}
use Rattle.dump_format.specs.declared.dump.Frame.{Frame}
use Rattle.dump_format.specs.declared.dump.Dump.{Dump}

abbrev pub held32 : ℕ → ℕ
held32 n = min n 0xffff_ffff

abbrev pub held64 : ℕ → ℕ
held64 n = min n 0xffff_ffff_ffff_ffff

abbrev pub held : Value → Value
held (value.I32 n) = value.I32 (held32 n)
held (value.I64 n) = value.I64 (held64 n)

abbrev pub held_seen : Seen → Seen
held_seen (seen.I32 n) = seen.I32 (held32 n)
held_seen (seen.I64 n) = seen.I64 (held64 n)
held_seen seen.Missing = seen.Missing

abbrev pub held_frame : Frame → Frame
held_frame f = record { instance = f.instance; function = f.function; offset = f.offset; locals = map held_seen f.locals; operands = map held_seen f.operands }

abbrev pub held_dump : Dump → Dump
held_dump d = record { name = d.name; modules = d.modules; instances = d.instances; frames = map held_frame d.frames; memory = d.memory; globals = map held d.globals; segments = d.segments }

-- ---- numbers

pub below_32 : (n : ℕ) → held32 n < 2 ^ 32
below_32 n = omega arith

pub below_64 : (n : ℕ) → held64 n < 2 ^ 64
below_64 n = omega arith

pub same_32 : (n : ℕ) → n < 2 ^ 32 → held32 n ≡ n
same_32 n h = omega (arith, h)

pub same_64 : (n : ℕ) → n < 2 ^ 64 → held64 n ≡ n
same_64 n h = omega (arith, h)

past_32 : (n : ℕ) → 2 ^ 32 ≤ n → cast_signed w32 n ≡ negsuc 0
past_32 n h =
    let low : nat_lt n (2 ^ 31) ≡ false = le-ltb n (2 ^ 31) (omega (arith, h)) in
    let none : 2 ^ 32 - suc n ≡ 0 = omega (arith, h) in
    rw (low, none) refl

past_64 : (n : ℕ) → 2 ^ 64 ≤ n → cast_signed w64 n ≡ negsuc 0
past_64 n h =
    let low : nat_lt n (2 ^ 63) ≡ false = le-ltb n (2 ^ 63) (omega (arith, h)) in
    let none : 2 ^ 64 - suc n ≡ 0 = omega (arith, h) in
    rw (low, none) refl

-- the signed reading of a number past the type is that of the greatest one
pub signed_32 : (n : ℕ) → cast_signed w32 (held32 n) ≡ cast_signed w32 n
signed_32 n = ⊎_elim
    (λ a. ap (cast_signed w32) (same_32 n a))
    (λ b. let e : min n 0xffff_ffff ≡ 0xffff_ffff = omega (arith, b) in ap (cast_signed w32) e ∙ sym (past_32 n b)) (cases_lt n (2 ^ 32))

pub signed_64 : (n : ℕ) → cast_signed w64 (held64 n) ≡ cast_signed w64 n
signed_64 n = ⊎_elim
    (λ a. ap (cast_signed w64) (same_64 n a))
    (λ b. let e : min n 0xffff_ffff_ffff_ffff ≡ 0xffff_ffff_ffff_ffff = omega (arith, b) in ap (cast_signed w64) e ∙ sym (past_64 n b)) (cases_lt n (2 ^ 64))

-- ---- values

pub held_same : (v : Value) → IsValue v → held v ≡ v
held_same (value.I32 n) h = ap value.I32 (same_32 n h)
held_same (value.I64 n) h = ap value.I64 (same_64 n h)

pub held_type : (v : Value) → type_of (held v) ≡ type_of v
held_type (value.I32 n) = refl
held_type (value.I64 n) = refl
