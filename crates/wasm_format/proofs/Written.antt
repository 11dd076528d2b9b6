-- What a writer has appended.
use Rattle.std.proofs.Common.{◌≡◌, ℕ, ◌+◌, ◌<◌, ◌≤◌, List, ◌++◌, length, take, get_or, sym, ap, ◌∙◌}
use Rattle.std.specs.List.{flat_map}
use Rattle.std.proofs.lemmas.List.{flat_map_more, take_more, take_all}
use Rattle.std.proofs.Math.Seq.{take-append_seam}
use Rattle.wasm_leb.specs.Writing.{unsigned_bytes}

pub front_of : (old new more : List ℕ) → new ≡ old ++ more → take (length old) new ≡ old
front_of old new more e = rw e (take-append_seam old more)

pub numbers_more : (old now new xs : List ℕ) (i : ℕ) → now ≡ old ++ flat_map unsigned_bytes (take i xs) → i < length xs → new ≡ now ++ unsigned_bytes (get_or xs i 0) → new ≡ old ++ flat_map unsigned_bytes (take (i + 1) xs)
numbers_more old now new xs i so_far inside e =
    e ∙ ap (λ (bs : List ℕ). bs ++ unsigned_bytes (get_or xs i 0)) so_far ∙ flat_map_more unsigned_bytes old (take i xs) (get_or xs i 0)
    ∙ ap (λ (ys : List ℕ). old ++ flat_map unsigned_bytes ys) (sym (take_more xs i 0 inside))

pub numbers_done : (old now xs : List ℕ) (i : ℕ) → now ≡ old ++ flat_map unsigned_bytes (take i xs) → length xs ≤ i → now ≡ old ++ flat_map unsigned_bytes xs
numbers_done old now xs i so_far end = so_far ∙ ap (λ (ys : List ℕ). old ++ flat_map unsigned_bytes ys) (take_all i xs end)
