-- Memories that stay as long as they were, or get longer: so a memory keeps its least pages.
use Rattle.std.proofs.Common.{◌≡◌, ℕ, ◌+◌, ◌*◌, ◌≤◌, List, [], ◌∷◌, ◌++◌, length, take, drop, Option, Some, None, Bool, true, false, nat_le, refl, sym, ap, ◌∙◌, subst, arith, if◌then◌else◌, leb-true, length-append, length-drop, length-take-le, replicate}
use Rattle.wasm_syntax.specs.declared.host.Write.{Write}
use Rattle.wasm_syntax.specs.declared.parts.Limits.{Limits}
use Rattle.wasm_syntax.specs.Module.{option_then}
use Rattle.wasm_syntax.specs.Host.{after_writes}
use Rattle.linear_memory.specs.Memory.{Memory}
use Rattle.linear_memory.specs.Memory as memories
use Rattle.rewrite_bodies.specs.calls.Known.{Reaches, HasLeast}

abbrev pub Longer : Option Memory → Option Memory → Type 0
Longer None b = Unit {0}
Longer (Some m) None = ⊥
Longer (Some m) (Some n) = length m.bytes ≤ length n.bytes

pub longer_refl : (a : Option Memory) → Longer a a
longer_refl None = tt
longer_refl (Some m) = omega arith

pub longer_trans : (a b c : Option Memory) → Longer a b → Longer b c → Longer a c
longer_trans None b c h k = tt
longer_trans (Some m) None c h k = absurd h
longer_trans (Some m) (Some n) None h k = absurd k
longer_trans (Some m) (Some n) (Some j) h k = omega (arith, h, k)

pub reaches_longer : (a b : Option Memory) (n : ℕ) → Longer a b → Reaches a n → Reaches b n
reaches_longer None b n h r = absurd r
reaches_longer (Some m) None n h r = absurd h
reaches_longer (Some m) (Some j) n h r = omega (arith, h, r)

pub least_longer : (ls : List Limits) (a b : Option Memory) → Longer a b → HasLeast ls a → HasLeast ls b
least_longer [] a b h r = tt
least_longer (l ∷ ls) a b h r = reaches_longer a b (65536 * l.min) h r

-- ---- what is done to a memory

pub put_fits : (m m' : Memory) (at : ℕ) (new : List ℕ) (q : Bool) → nat_le (at + length new) (length m.bytes) ≡ q → (if q then Some (record m { bytes = memories.splice m.bytes at new }) else None) ≡ Some m' → (length m'.bytes ≡ length m.bytes) × (m'.max ≡ m.max)
put_fits m m' at new true q e =
    let z : record m { bytes = memories.splice m.bytes at new } ≡ m' = cc in
    let le : at + length new ≤ length m.bytes = leb-true (at + length new) (length m.bytes) q in
    let n : length (memories.splice m.bytes at new) ≡ length m.bytes =
    omega (arith, le, length-append (take at m.bytes ++ new) (drop (at + length new) m.bytes), length-append (take at m.bytes) new, length-drop (at + length new) m.bytes, length-take-le at m.bytes (omega (arith, le))) in
    (ap (λ k. length k.bytes) (sym z) ∙ n, ap (λ k. k.max) (sym z))
put_fits m m' at new false q e = cc

pub put_longer : (m m' : Memory) (at : ℕ) (new : List ℕ) → memories.put m at new ≡ Some m' → length m.bytes ≤ length m'.bytes
put_longer m m' at new e = let p = put_fits m m' at new (nat_le (at + length new) (length m.bytes)) refl e in omega (arith, p.0)

pub copy_longer : (m m' : Memory) (to from n : ℕ) (q : Bool) → (if q then memories.put m to (memories.window m.bytes from n) else None) ≡ Some m' → length m.bytes ≤ length m'.bytes
copy_longer m m' to from n true e = put_longer m m' to (memories.window m.bytes from n) e
copy_longer m m' to from n false e = absurd (cc)

pub grow_longer : (m m' : Memory) (n : ℕ) (q : Bool) → (if q then Some (record m { bytes = m.bytes ++ replicate (65536 * n) 0 }) else None) ≡ Some m' → length m.bytes ≤ length m'.bytes
grow_longer m m' n true e =
    let z : record m { bytes = m.bytes ++ replicate (65536 * n) 0 } ≡ m' = cc in
    omega (arith, ap (λ k. length k.bytes) z, length-append m.bytes (replicate (65536 * n) 0))
grow_longer m m' n false e = absurd (cc)

-- a host leaves it at least as long
pub writes_longer : (a : Option Memory) (ws : List Write) (b : Option Memory) → after_writes a ws ≡ Some b → Longer a b
writes_longer a [] b e = let z : a ≡ b = cc in subst (Longer a) z (longer_refl a)
writes_longer None (w ∷ ws) b e = absurd (cc)
writes_longer (Some m) (w ∷ ws) b e = by_put (memories.put m w.at w.bytes) refl e (λ m'. writes_longer (Some m') ws b)
  where
    by_put : (o : Option Memory) → memories.put m w.at w.bytes ≡ o → option_then o (λ m'. after_writes (Some m') ws) ≡ Some b → ((m' : Memory) → after_writes (Some m') ws ≡ Some b → Longer (Some m') b) → Longer (Some m) b
    by_put None p e ih = absurd (cc)
    by_put (Some m') p e ih = longer_trans (Some m) (Some m') b (put_longer m m' w.at w.bytes p) (ih m' e)
