-- Segments that are laid on a memory one after another, and the pages of a memory in order.
use Rattle.std.proofs.Common.{◌≡◌, ℕ, ◌+◌, ◌-◌, ◌*◌, ◌/◌, ◌%◌, ◌<◌, ◌≤◌, Bool, true, false, cond, List, [], ◌∷◌, ◌++◌, length, take, drop, get_or, replicate, refl, sym, ap, subst, ◌∙◌, arith, append_assoc, length-take, length-drop, Option, Some, None, All}
use Rattle.std.specs.Prelude.{nat_le, unwrap_or}
use Rattle.std.proofs.lemmas.List.{take_more, take-take, take_at, drop_at, drop-take, take-append-drop, replicate-append-replicate, append-nil, drop-drop, take_all, length-replicate}
use Rattle.std.proofs.lemmas.List.Elements.{All-push}
use Rattle.std.proofs.lemmas.List.Sums.{fold-append}
use Rattle.linear_memory.specs.Memory.{Memory, page_size, window, splice, put}
use Rattle.dump_format.specs.declared.dump.Dump.{Dump}
use Rattle.dump_format.specs.Region.{Region}
use Rattle.dump_format.specs.Form.{pages_of}
use Rattle.dump_write.specs.Pages.{laid_on, memory_bytes}
use Rattle.dump_write.specs.calls.Paged.{ArePages}

-- ---- one segment more

pub laid_more : (zs : List ℕ) (xs : List Region) (r : Region) → laid_on zs (xs ++ r ∷ []) ≡ splice (laid_on zs xs) r.at r.bytes
laid_more zs xs r = fold-append (λ (bytes : List ℕ) (q : Region). splice bytes q.at q.bytes) zs xs (r ∷ [])

-- the segment at i was written into the memory
put_is : (m n : Memory) (at : ℕ) (ys : List ℕ) → put m at ys ≡ Some n → n.bytes ≡ splice m.bytes at ys
put_is m n at ys = cases (nat_le (at + length ys) (length m.bytes)) where
  cases : (b : Bool) → (let none : Option Memory = None in cond b (Some (record m { bytes = splice m.bytes at ys })) none) ≡ Some n → n.bytes ≡ splice m.bytes at ys
  cases true e = let same : record m { bytes = splice m.bytes at ys } ≡ n = cc in ap (λ (k : Memory). k.bytes) (sym same)
  cases false e = cc

pub segment_laid : (zs : List ℕ) (xs : List Region) (i : ℕ) (r : Region) (m n : Memory) → i < length xs → r ≡ get_or xs i r → m.bytes ≡ laid_on zs (take i xs) → put m r.at r.bytes ≡ Some n → n.bytes ≡ laid_on zs (take (i + 1) xs)
segment_laid zs xs i r m n inside is so_far done =
    put_is m n r.at r.bytes done ∙ ap (λ (bs : List ℕ). splice bs r.at r.bytes) so_far
    ∙ sym (laid_more zs (take i xs) r) ∙ ap (λ (ys : List Region). laid_on zs ys) (ap (λ (q : Region). take i xs ++ q ∷ []) is ∙ sym (take_more xs i r inside))

-- ---- pages in order

-- pages up to one are pages, whatever pages come from that one on
abbrev pub PagesUpTo : ℕ → List Region → Type 0
PagesUpTo next xs = (rest : List Region) → ArePages next rest → ArePages 0 (xs ++ rest)

-- one page more
pub page_more : (xs : List Region) (next page : ℕ) (r : Region) → PagesUpTo next xs → next ≤ page → r.at ≡ page_size * page → length r.bytes ≡ page_size → PagesUpTo (page + 1) (xs ++ r ∷ [])
page_more xs next page r so_far low at long rest pages = rw append_assoc (so_far (r ∷ rest) (page, low, at, long, pages))

-- no page at this number
pub page_passed : (xs : List Region) (next : ℕ) → PagesUpTo next xs → PagesUpTo (next + 1) xs
page_passed xs next so_far [] pages = so_far [] tt
page_passed xs next so_far (r ∷ rest) pages = so_far (r ∷ rest) (pages.0, omega (arith, pages.1), pages.2, pages.3, pages.4)

pub pages_all : (xs : List Region) (next : ℕ) → PagesUpTo next xs → ArePages 0 xs
pages_all xs next so_far = subst (ArePages 0) (append-nil xs) (so_far [] tt)

-- the page at i of a list of segments
pub segment_page : (xs : List Region) (i next page at : ℕ) (r : Region) → i < length xs → r ≡ get_or xs i r → PagesUpTo next (take i xs) → next ≤ page → r.at ≡ at → at % page_size ≡ 0 → page ≡ at / page_size → length r.bytes ≡ page_size → PagesUpTo (page + 1) (take (i + 1) xs)
segment_page xs i next page at r inside is so_far low is_at whole number long =
    subst (PagesUpTo (page + 1)) (ap (λ (q : Region). take i xs ++ q ∷ []) is ∙ sym (take_more xs i r inside)) (page_more (take i xs) next page r so_far low (omega arith) long)

-- ---- the bytes of a memory page by page

pub length-window : (xs : List ℕ) (i n : ℕ) → i < n → length xs ≡ page_size * n → length (window xs (page_size * i) page_size) ≡ page_size
length-window xs i n below size = length-take page_size (drop (page_size * i) xs) ∙ omega (arith, length-drop (page_size * i) xs)

take_split : (a b : ℕ) (xs : List ℕ) → take (a + b) xs ≡ take a xs ++ window xs a b
take_split a b xs =
    sym (take-append-drop a (take (a + b) xs)) ∙ ap (λ (ys : List ℕ). ys ++ drop a (take (a + b) xs)) (take-take a (a + b) xs (omega arith)) ∙ ap (λ (ys : List ℕ). take a xs ++ ys) (drop-take a b xs)

-- put over the zeros behind a front
splice_behind : (front ys : List ℕ) (m : ℕ) → splice (front ++ replicate (length ys + m) 0) (length front) ys ≡ (front ++ ys) ++ replicate m 0
splice_behind front ys m =
    let zeros = replicate-append-replicate (length ys) m 0 in
    ap (λ (bs : List ℕ). bs ++ ys ++ drop (length front + length ys) (front ++ replicate (length ys + m) 0)) (take_at front (replicate (length ys + m) 0) (length front) refl)
    ∙ ap (λ (bs : List ℕ). front ++ ys ++ bs)
    (sym (drop-drop (length ys) (length front) (front ++ replicate (length ys + m) 0)) ∙ ap (drop (length ys)) (drop_at front (replicate (length ys + m) 0) (length front) refl)
    ∙ ap (drop (length ys)) (sym zeros) ∙ drop_at (replicate (length ys) 0) (replicate m 0) (length ys) (length-replicate (length ys) 0))

-- the first i pages, and zeros behind them
abbrev pub FirstPages : ℕ → ℕ → List ℕ → List ℕ → Type 0
FirstPages n i bytes laid = laid ≡ take (page_size * i) bytes ++ replicate (page_size * (n - i)) 0

pub page_laid : (n i : ℕ) (zs bytes : List ℕ) (xs : List Region) (r : Region) → i < n → length bytes ≡ page_size * n → FirstPages n i bytes (laid_on zs xs) → r.at ≡ page_size * i → r.bytes ≡ window bytes (page_size * i) page_size
    → length r.bytes ≡ page_size → FirstPages n (i + 1) bytes (laid_on zs (xs ++ r ∷ []))
page_laid n i zs bytes xs r below size so_far at shown long =
    let front : length (take (page_size * i) bytes) ≡ page_size * i = length-take (page_size * i) bytes ∙ omega arith in
    let room : page_size * (n - i) ≡ length r.bytes + page_size * (n - (i + 1)) = omega arith in
    let start : r.at ≡ length (take (page_size * i) bytes) = at ∙ sym front in
    let next : page_size * i + page_size ≡ page_size * (i + 1) = omega arith in
    laid_more zs xs r ∙ ap (λ (bs : List ℕ). splice bs r.at r.bytes) (so_far ∙ ap (λ (k : ℕ). take (page_size * i) bytes ++ replicate k 0) room)
    ∙ ap (λ (k : ℕ). splice (take (page_size * i) bytes ++ replicate (length r.bytes + page_size * (n - (i + 1))) 0) k r.bytes) start
    ∙ splice_behind (take (page_size * i) bytes) r.bytes (page_size * (n - (i + 1)))
    ∙ ap (λ (bs : List ℕ). bs ++ replicate (page_size * (n - (i + 1))) 0)
    (ap (λ (bs : List ℕ). take (page_size * i) bytes ++ bs) shown ∙ sym (take_split (page_size * i) page_size bytes) ∙ ap (λ (k : ℕ). take k bytes) next)

pub page_absent : (n i : ℕ) (bytes laid : List ℕ) → i < n → FirstPages n i bytes laid → window bytes (page_size * i) page_size ≡ replicate page_size 0 → FirstPages n (i + 1) bytes laid
page_absent n i bytes laid below so_far zero =
    let room : page_size * (n - i) ≡ page_size + page_size * (n - (i + 1)) = omega arith in
    let next : page_size * i + page_size ≡ page_size * (i + 1) = omega arith in
    so_far ∙ ap (λ (k : ℕ). take (page_size * i) bytes ++ replicate k 0) room
    ∙ ap (λ (zs : List ℕ). take (page_size * i) bytes ++ zs) (sym (replicate-append-replicate page_size (page_size * (n - (i + 1))) 0))
    ∙ sym (append_assoc (take (page_size * i) bytes) (replicate page_size 0) (replicate (page_size * (n - (i + 1))) 0))
    ∙ ap (λ (bs : List ℕ). bs ++ replicate (page_size * (n - (i + 1))) 0)
    (ap (λ (bs : List ℕ). take (page_size * i) bytes ++ bs) (sym zero) ∙ sym (take_split (page_size * i) page_size bytes) ∙ ap (λ (k : ℕ). take k bytes) next)

pub pages_laid : (n i : ℕ) (bytes laid : List ℕ) → n ≤ i → length bytes ≡ page_size * n → FirstPages n i bytes laid → laid ≡ bytes
pages_laid n i bytes laid past size so_far =
    let none : page_size * (n - i) ≡ 0 = omega arith in
    so_far ∙ ap (λ (k : ℕ). take (page_size * i) bytes ++ replicate k 0) none ∙ append-nil (take (page_size * i) bytes) ∙ take_all (page_size * i) bytes (omega arith)

-- ---- the pages that are made, up to one of them

-- The segments are those of the first i pages that are made, of n pages that hold these bytes.
abbrev pub Laying : ℕ → ℕ → List ℕ → List Region → Type 0
Laying n i bytes segments = record {
  paged : PagesUpTo i segments;
  laid : FirstPages n i bytes (laid_on (replicate (page_size * n) 0) segments);
  inside : All (λ r. r.at + length r.bytes ≤ page_size * n) segments;
}

-- the page at i is made
pub laying_more : (n i : ℕ) (bytes shown : List ℕ) (old new : List Region) → i < n → length bytes ≡ page_size * n → Laying n i bytes old → shown ≡ window bytes (page_size * i) page_size
    → new ≡ old ++ (let r : Region = record { at = page_size * i; bytes = shown } in r) ∷ [] → Laying n (i + 1) bytes new
laying_more n i bytes shown old new below size known is more =
    let r : Region = record { at = page_size * i; bytes = shown } in
    let long : length shown ≡ page_size = ap length is ∙ length-window bytes i n below size in
    let made : Laying n (i + 1) bytes (old ++ r ∷ []) = record {
      paged = page_more old i i r known.paged (omega arith) refl long;
      laid = page_laid n i (replicate (page_size * n) 0) bytes old r below size known.laid refl is long;
      inside = All-push (λ (q : Region). q.at + length q.bytes ≤ page_size * n) old r known.inside (omega (arith, long, below));
    } in
    subst (Laying n (i + 1) bytes) (sym more) made

-- the page at i is not made
pub laying_on : (n i : ℕ) (bytes : List ℕ) (old new : List Region) → i < n → Laying n i bytes old → window bytes (page_size * i) page_size ≡ replicate page_size 0 → new ≡ old → Laying n (i + 1) bytes new
laying_on n i bytes old new below known absent same =
    let made : Laying n (i + 1) bytes old = record {
      paged = page_passed old i known.paged;
      laid = page_absent n i bytes (laid_on (replicate (page_size * n) 0) old) below known.laid absent;
      inside = known.inside;
    } in
    subst (Laying n (i + 1) bytes) (sym same) made

-- no memory has no pages
pub pages_are : (memory : Option ℕ) → unwrap_or memory 0 ≡ pages_of memory
pages_are None = refl
pages_are (Some n) = refl

-- all segments were laid
pub all_laid : (d : Dump) (n i : ℕ) (xs : List Region) (bytes : List ℕ) → n ≡ unwrap_or d.memory 0 → xs ≡ d.segments → length xs ≤ i → bytes ≡ laid_on (replicate (page_size * n) 0) (take i xs) → bytes ≡ memory_bytes d
unfolding memory_bytes
all_laid d n i xs bytes size all past laid =
    laid ∙ ap (λ (ys : List Region). laid_on (replicate (page_size * n) 0) ys) (take_all i xs past ∙ all)
    ∙ ap (λ (k : ℕ). laid_on (replicate (page_size * k) 0) d.segments) (size ∙ pages_are d.memory)
