-- The pages of a memory on which whole pages were laid are these pages.
use Rattle.std.proofs.Common.{◌≡◌, ℕ, zero, suc, ◌+◌, ◌-◌, ◌*◌, ◌<◌, ◌≤◌, Bool, true, false, cond, List, [], ◌∷◌, length, map, replicate, take, drop, refl, sym, ap, subst, ◌∙◌, inl, inr, arith, All, get_or, length-take}
use Rattle.std.specs.Prelude.{filter, not, ◌==◌}
use Rattle.std.specs.List.{list_any, range_with_len}
use Rattle.std.proofs.lemmas.Bool.{cases_lt}
use Rattle.std.proofs.lemmas.List.Elements.{All-head, All-tail, All-filter, All-map}
use Rattle.std.proofs.lemmas.List.{take-replicate, drop-replicate, take_all, length-replicate}
use Rattle.std.proofs.lemmas.List.FromFn.{length-map-range_with_len}
use Rattle.linear_memory.specs.Memory.{page_size, window, splice}
use Rattle.dump_format.specs.Region.{Region}
use Rattle.dump_write.specs.Pages.{laid_on, page_region, is_used, used_pages}
use Rattle.dump_write.specs.calls.Paged.{ArePages}
use Rattle.dump_write.proofs.Windows.{window-splice, window-before, window-behind}
use Rattle.linear_memory.proofs.Contents.{length-splice}

abbrev pub Inside : ℕ → List Region → Type 0
Inside size segments = All (λ r. r.at + length r.bytes ≤ size) segments

-- the pages from one on are all zero
abbrev pub ZeroFrom : ℕ → List ℕ → Type 0
ZeroFrom i xs = (k : ℕ) → i ≤ k → is_used (page_region xs k) ≡ false

-- pages behind a page leave it as it is
pub untouched : (segments : List Region) (i k : ℕ) (xs : List ℕ) → ArePages k segments → Inside (length xs) segments → i < k → window (laid_on xs segments) (page_size * i) page_size ≡ window xs (page_size * i) page_size
untouched [] i k xs pages inside below = refl
untouched (r ∷ rs) i k xs pages inside below =
    let head : r.at + length r.bytes ≤ length xs = All-head (λ (q : Region). q.at + length q.bytes ≤ length xs) r rs inside in
    let tail : Inside (length xs) rs = All-tail (λ (q : Region). q.at + length q.bytes ≤ length xs) r rs inside in
    let same : length xs ≡ length (splice xs r.at r.bytes) = sym (length-splice xs r.bytes r.at head) in
    untouched rs i (pages.0 + 1) (splice xs r.at r.bytes) pages.4 (subst (λ (n : ℕ). Inside n rs) same tail) (omega (arith, pages.1))
    ∙ window-before xs r.bytes r.at (page_size * i) page_size head (omega (arith, pages.1, pages.2))

-- a page that is not used is left out
left_out : (r : Region) (rest : List Region) → is_used r ≡ false → filter is_used (r ∷ rest) ≡ filter is_used rest
left_out r rest unused = rw unused refl

-- a page stands before equal ones
one_first : (p r : Region) (ps rs : List Region) → p ≡ r → filter is_used ps ≡ filter is_used rs → filter is_used (p ∷ ps) ≡ filter is_used (r ∷ rs)
one_first p r ps rs one others = ap (λ (q : Region). cond (is_used q) (q ∷ filter is_used ps) (filter is_used ps)) one ∙ ap (λ (qs : List Region). cond (is_used r) (r ∷ qs) qs) others

region_is : (r : Region) (at : ℕ) (bytes : List ℕ) → at ≡ r.at → bytes ≡ r.bytes → (let q : Region = record { at = at; bytes = bytes } in q ≡ r)
region_is r at bytes a b = ap (λ (n : ℕ). let q : Region = record { at = n; bytes = bytes } in q) a ∙ ap (λ (bs : List ℕ). let q : Region = record { at = r.at; bytes = bs } in q) b

same_use : (xs ys : List ℕ) (i : ℕ) → window xs (page_size * i) page_size ≡ window ys (page_size * i) page_size → is_used (page_region ys i) ≡ false → is_used (page_region xs i) ≡ false
same_use xs ys i same unused = ap (λ (bs : List ℕ). list_any (λ (b : ℕ). not (b == 0)) bs) same ∙ unused

-- Of whole pages that were laid on zeros, the used ones are the used pages of the memory.
pub laid_pages : (n i : ℕ) (xs : List ℕ) (segments : List Region) → length xs ≡ page_size * (i + n) → ArePages i segments → Inside (length xs) segments → ZeroFrom i xs
    → filter is_used (map (page_region (laid_on xs segments)) (range_with_len i n)) ≡ filter is_used segments
laid_pages zero i xs [] size pages inside zeros = refl
laid_pages zero i xs (r ∷ rs) size pages inside zeros =
    let head : r.at + length r.bytes ≤ length xs = All-head (λ (q : Region). q.at + length q.bytes ≤ length xs) r rs inside in
    absurd (omega (arith, pages.1, pages.2, pages.3))
laid_pages (suc n) i xs [] size pages inside zeros =
    left_out (page_region xs i) (map (page_region xs) (range_with_len (i + 1) n)) (zeros i (omega arith)) ∙ laid_pages n (i + 1) xs [] (size ∙ omega arith) tt inside (λ k h. zeros k (omega arith))
laid_pages (suc n) i xs (r ∷ rs) size pages inside zeros =
    let head : r.at + length r.bytes ≤ length xs = All-head (λ (q : Region). q.at + length q.bytes ≤ length xs) r rs inside in
    let tail : Inside (length xs) rs = All-tail (λ (q : Region). q.at + length q.bytes ≤ length xs) r rs inside in
    elim (cases_lt i pages.0) [
      | inl above ↦
          let later : ArePages (i + 1) (r ∷ rs) = (pages.0, omega arith, pages.2, pages.3, pages.4) in
          left_out (page_region (laid_on xs (r ∷ rs)) i) (map (page_region (laid_on xs (r ∷ rs))) (range_with_len (i + 1) n)) (same_use _ xs i (untouched (r ∷ rs) i (i + 1) xs later inside (omega arith)) (zeros i (omega arith)))
          ∙ laid_pages n (i + 1) xs (r ∷ rs) (size ∙ omega arith) later inside (λ k h. zeros k (omega arith))
      | inr here ↦
          let number : pages.0 ≡ i = omega (arith, pages.1) in
          let at : page_size * i ≡ r.at = omega (arith, pages.2) in
          let ys = splice xs r.at r.bytes in
          let long : length ys ≡ length xs = length-splice xs r.bytes r.at head in
          let later : ArePages (i + 1) rs = subst (λ (k : ℕ). ArePages (k + 1) rs) number pages.4 in
          let within : Inside (length ys) rs = subst (λ (k : ℕ). Inside k rs) (sym long) tail in
          let shown : window (laid_on ys rs) (page_size * i) page_size ≡ r.bytes =
          untouched rs i (i + 1) ys later within (omega arith)
          ∙ ap (λ (k : ℕ). window ys k page_size) at ∙ ap (λ (k : ℕ). window ys r.at k) (sym pages.3) ∙ window-splice xs r.bytes r.at head
          in
          one_first (page_region (laid_on ys rs) i) r (map (page_region (laid_on ys rs)) (range_with_len (i + 1) n)) rs (region_is r (page_size * i) _ at shown)
          (laid_pages n (i + 1) ys rs (long ∙ size ∙ omega arith) later within
          (λ k h. same_use ys xs k (window-behind xs r.bytes r.at (page_size * k) page_size head (omega (arith, pages.3))) (zeros k (omega arith))))
    ]

-- ---- the used pages of a memory

few_if : (b : Bool) (r : Region) (kept rs : List Region) → length kept ≤ length rs → length (cond b (r ∷ kept) kept) ≤ length (r ∷ rs)
few_if true r kept rs few = omega arith
few_if false r kept rs few = omega arith

few_pass : (rs : List Region) → length (filter is_used rs) ≤ length rs
few_pass [] = omega arith
few_pass (r ∷ rs) = few_if (is_used r) r (filter is_used rs) rs (few_pass rs)

pub used_few : (n : ℕ) (bytes : List ℕ) → length (used_pages n bytes) ≤ n
unfolding used_pages
used_few n bytes = omega (arith, few_pass (map (page_region bytes) (range_with_len 0 n)), length-map-range_with_len (page_region bytes) 0 n)

pub used_small : (n : ℕ) (bytes : List ℕ) → All (λ r. length r.bytes ≤ 65536) (used_pages n bytes)
unfolding used_pages
used_small n bytes =
    All-filter is_used (λ (r : Region). length r.bytes ≤ 65536) (map (page_region bytes) (range_with_len 0 n))
    (All-map (λ (r : Region). length r.bytes ≤ 65536) (page_region bytes) (range_with_len 0 n) (λ k d h. omega (arith, length-take page_size (drop (page_size * get_or (range_with_len 0 n) k d) bytes))))

-- ---- pages that are laid on zeros make a memory

no_use : (k : ℕ) → list_any (λ (b : ℕ). not (b == 0)) (replicate k 0) ≡ false
no_use zero = refl
no_use (suc k) = no_use k

front_unused : (k n : ℕ) → list_any (λ (b : ℕ). not (b == 0)) (take k (replicate n 0)) ≡ false
front_unused k n = elim (cases_lt k n) [
  | inl inside ↦ ap (λ (bs : List ℕ). list_any (λ (b : ℕ). not (b == 0)) bs) (take-replicate k n 0 (omega arith)) ∙ no_use k
  | inr past ↦ let long : length (replicate n 0) ≤ k = omega (arith, length-replicate {A = ℕ} n 0) in ap (λ (bs : List ℕ). list_any (λ (b : ℕ). not (b == 0)) bs) (take_all k (replicate n 0) long) ∙ no_use n
]

zeros_unused : (size k : ℕ) → is_used (page_region (replicate size 0) k) ≡ false
zeros_unused size k =
    ap (λ (bs : List ℕ). list_any (λ (b : ℕ). not (b == 0)) (take page_size bs)) (drop-replicate (page_size * k) size 0) ∙ front_unused page_size (size - page_size * k)

-- the used ones of whole pages are the used pages of the memory that they make
pub used_of_paged : (n : ℕ) (bytes : List ℕ) (segments : List Region) → ArePages 0 segments → Inside (page_size * n) segments → laid_on (replicate (page_size * n) 0) segments ≡ bytes → filter is_used segments ≡ used_pages n bytes
unfolding used_pages
used_of_paged n bytes segments pages inside laid =
    let size : length (replicate (page_size * n) 0) ≡ page_size * (0 + n) = length-replicate (page_size * n) 0 ∙ omega arith in
    let within : Inside (length (replicate (page_size * n) 0)) segments = subst (λ (k : ℕ). Inside k segments) (sym (length-replicate (page_size * n) 0)) inside in
    sym (laid_pages n 0 (replicate (page_size * n) 0) segments size pages within (λ k h. zeros_unused (page_size * n) k))
    ∙ ap (λ (bs : List ℕ). filter is_used (map (page_region bs) (range_with_len 0 n))) laid
