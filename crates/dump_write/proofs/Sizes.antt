-- Sizes of spellings.
use Rattle.std.proofs.Common.{◌≡◌, ℕ, zero, suc, ◌+◌, ◌*◌, ◌/◌, ◌<◌, ◌≤◌, Bool, true, false, cond, List, [], ◌∷◌, ◌++◌, length, take, get_or, sym, ap, subst, ◌∙◌, arith, length-append, ℤ, All}
use Rattle.std.specs.Prelude.{nat_lt}
use Rattle.std.specs.Int.{w32, cast_signed}
use Rattle.std.specs.List.{flat_map}
use Rattle.std.proofs.lemmas.List.{take_more, take_all}
use Rattle.std.proofs.lemmas.List.Concat.{flat_map-append}
use Rattle.wasm_leb.specs.Writing.{unsigned_groups, unsigned_bytes, fits_seven, signed_groups, signed_bytes, above_seven}
use Rattle.dump_format.specs.Region.{Region}
use Rattle.dump_write.specs.Spelled.{segment_head, segment_bytes, vector_bytes}
use Rattle.dump_write.proofs.Lists.{flat_map-one}
use Rattle.wasm_leb.proofs.Lengths.{ten_bytes, ten_signed}

-- what stands before a segment is short
pub head_short : (r : Region) → length (segment_head r) ≤ 32
unfolding segment_head
head_short r =
    omega (arith, ten_bytes (length r.bytes), ten_signed (cast_signed w32 r.at), length-append (signed_bytes (cast_signed w32 r.at) ++ 0x0b ∷ []) (unsigned_bytes (length r.bytes)), length-append (signed_bytes (cast_signed w32 r.at)) (0x0b ∷ []))

-- one segment more was counted
pub size_more : (xs : List Region) (i size : ℕ) (counted : List ℕ) (r : Region) (head : List ℕ) → i < length xs → r ≡ get_or xs i r → head ≡ segment_head r
    → size ≡ length counted + length (flat_map segment_bytes (take i xs)) → size + (length head + length r.bytes) ≡ length counted + length (flat_map segment_bytes (take (i + 1) xs))
size_more xs i size counted r head inside is spelled so_far =
    let grown : take (i + 1) xs ≡ take i xs ++ r ∷ [] = take_more xs i r inside ∙ ap (λ (q : Region). take i xs ++ q ∷ []) (sym is) in
    let split : flat_map segment_bytes (take (i + 1) xs) ≡ flat_map segment_bytes (take i xs) ++ segment_bytes r =
    ap (λ (ys : List Region). flat_map segment_bytes ys) grown ∙ flat_map-append segment_bytes (take i xs) (r ∷ []) ∙ ap (λ (bs : List ℕ). flat_map segment_bytes (take i xs) ++ bs) (flat_map-one segment_bytes r)
    in
    omega (arith, ap length split, length-append (flat_map segment_bytes (take i xs)) (segment_bytes r), length-append (segment_head r) r.bytes, ap length spelled)

-- all segments were counted
pub size_all : (xs : List Region) (i size : ℕ) (counted : List ℕ) → length xs ≤ i → counted ≡ unsigned_bytes (length xs) → size ≡ length counted + length (flat_map segment_bytes (take i xs)) → size ≡ length (vector_bytes segment_bytes xs)
unfolding vector_bytes
size_all xs i size counted past counts so_far =
    so_far ∙ ap (λ (ys : List Region). length counted + length (flat_map segment_bytes ys)) (take_all i xs past)
    ∙ ap (λ (bs : List ℕ). length bs + length (flat_map segment_bytes xs)) counts ∙ sym (length-append (unsigned_bytes (length xs)) (flat_map segment_bytes xs))

pub size_within : (xs : List Region) (i size : ℕ) (r : Region) (head : List ℕ) → i < length xs → r ≡ get_or xs i r → All (λ q. length q.bytes ≤ 65536) xs → head ≡ segment_head r → size ≤ 10 + 70000 * i → size + (length head + length r.bytes) ≤ 10 + 70000 * (i + 1)
size_within xs i size r head inside is small spelled so_far =
    let bytes : length r.bytes ≤ 65536 = subst (λ (q : Region). length q.bytes ≤ 65536) (sym is) (small i r inside) in
    omega (arith, bytes, head_short r, ap length spelled)
