-- A table after an instruction, as the definition has it.
use Rattle.std.proofs.Common.{◌≡◌, ℕ, ◌+◌, ◌≤◌, Bool, List, ◌++◌, length, take, drop, map, is_some, cond, Some, None, sym, ◌∙◌, ap, arith, length-drop}
use Rattle.std.proofs.lemmas.Bool.{le-leb}
use Rattle.std.proofs.lemmas.List.{take_at, length-take-le}
use Rattle.linear_memory.specs.Memory.{Memory, put, copy, window, splice}
use Rattle.linear_memory.specs.calls.Paged.{Paged}
use Rattle.linear_memory.specs.inner.Table.{contents}
use Rattle.linear_memory.proofs.Contents.{Table}

-- a Vec whose slice was changed
pub kept : (k : ℕ) (new old : Table) → length new ≡ k → take k (new ++ drop (length new) old) ≡ new
kept k new old n = take_at new (drop (length new) old) k n

pub put_is : (m : Memory) (at : ℕ) (ys bytes : List ℕ) → at + length ys ≤ length m.bytes → bytes ≡ splice m.bytes at ys → put m at ys ≡ Some (record { bytes = bytes; max = m.max })
put_is m at ys bytes inside e =
    ap (λ (b : Bool). cond b (Some (record { bytes = splice m.bytes at ys; max = m.max })) None) (le-leb (at + length ys) (length m.bytes) inside)
    ∙ ap (λ (bs : List ℕ). Some (record { bytes = bs; max = m.max })) (sym e)

pub copy_is : (m : Memory) (to from n : ℕ) (bytes : List ℕ) → from + n ≤ length m.bytes → to + n ≤ length m.bytes → bytes ≡ splice m.bytes to (window m.bytes from n) → copy m to from n ≡ Some (record { bytes = bytes; max = m.max })
copy_is m to from n bytes inside room e =
    let ys = window m.bytes from n in
    let low : n ≤ length (drop from m.bytes) = omega (arith, inside, length-drop from m.bytes) in
    let fits : to + length ys ≤ length m.bytes = omega (arith, room, length-take-le n (drop from m.bytes) low) in
    ap (λ (b : Bool). cond b (put m to ys) None) (le-leb (from + n) (length m.bytes) inside) ∙ put_is m to ys bytes fits e

abbrev pub seen : Table → ℕ → Paged
seen items max = record { memory = record { bytes = contents items; max = max }; made = map is_some items }
