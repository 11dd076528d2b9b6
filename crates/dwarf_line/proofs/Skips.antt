-- What is left to read of operands that are passed over.
use Rattle.std.proofs.Common.{◌≡◌, ℕ, suc, ◌+◌, ◌-◌, ◌≤◌, ◌<◌, refl, arith}
use Rattle.wasm_bytes.specs.Place.{Place}
use Rattle.wasm_bytes.specs.Reading.{u64_item}
use Rattle.wasm_bytes.specs.Laws.{got, failed}
use Rattle.dwarf_bytes.specs.Format.{Format, made, read}
use Rattle.dwarf_line.specs.Opcodes.{skipping}

pub skip_on : {A : Type 0} (f : Format A) (count i : ℕ) (p q : Place) (n : ℕ) → i < count → u64_item p ≡ got n q → read (skipping (count - i) f) p ≡ read (skipping (count - (i + 1)) f) q
unfolding read
skip_on f count i p q n lt h = let k : count - i ≡ suc (count - (i + 1)) = omega arith in rw (k, h) refl

pub skip_fails : {A : Type 0} (f : Format A) (count i : ℕ) (p : Place) (o : ℕ) → i < count → u64_item p ≡ failed o → read (skipping (count - i) f) p ≡ failed o
unfolding read
skip_fails f count i p o lt h = let k : count - i ≡ suc (count - (i + 1)) = omega arith in rw (k, h) refl

pub skip_done : {A : Type 0} (x : A) (count i : ℕ) (p : Place) → count ≤ i → read (skipping (count - i) (made x)) p ≡ got x p
unfolding read
skip_done x count i p le = let k : count - i ≡ 0 = omega arith in rw k refl
