-- The contents of a table of pages, read and written inside one page.
use Rattle.std.proofs.Common.{◌≡◌, ℕ, zero, suc, ◌+◌, ◌-◌, ◌*◌, ◌/◌, ◌%◌, ◌<◌, ◌≤◌, ◌⊎◌, Bool, true, false, List, [], ◌∷◌, ◌++◌, length, take, drop, map, replicate, get_or, set, is_some, Option, Some, None, refl, sym, ◌∙◌, ap, subst, inl, inr, arith, length-append, length-take, length-drop, length-set, append_assoc}
use Rattle.std.proofs.lemmas.List.{take-append-le, drop-append-le, take_all, drop-drop, drop-take, take-take, take_at, drop_at, map-set, replicate-append-replicate, length-take-le, take-append-drop, length-replicate}
use Rattle.std.proofs.lemmas.List.{get_or-map, set-get_or, get_or_default, length-map, map-append, drop-replicate, take-replicate, get_or-set_same}
use Rattle.std.proofs.lemmas.Bool.{cases_lt}
use Rattle.linear_memory.specs.Memory.{window, splice, from_bytes}
use Rattle.linear_memory.specs.calls.Paged.{IsMade, AllMade, StaysMade}
use Rattle.linear_memory.specs.inner.Table.{zeros, page_bytes, contents, IsWhole, AllWhole}

pub length-zeros : length zeros ≡ 65536
unfolding zeros
length-zeros = length-replicate {A = ℕ} 65536 0

pub length-page_bytes : (page : Option (List ℕ)) → IsWhole page → length (page_bytes page) ≡ 65536
length-page_bytes None whole = length-zeros
length-page_bytes (Some bytes) whole = whole

pub length-contents : (pages : List (Option (List ℕ))) → AllWhole pages → length (contents pages) ≡ 65536 * length pages
length-contents [] all = refl
length-contents (page ∷ pages) all =
    omega (arith, length-append (page_bytes page) (contents pages), length-page_bytes page all.0, length-contents pages all.1)

-- ---- lists

pub drop_past : (xs ys : List ℕ) (n k : ℕ) → length xs ≡ n → drop (n + k) (xs ++ ys) ≡ drop k ys
drop_past xs ys n k e = sym (drop-drop k n (xs ++ ys)) ∙ ap (drop k) (drop_at xs ys n e)

take_past_all : (xs ys : List ℕ) (k : ℕ) → take (length xs + k) (xs ++ ys) ≡ xs ++ take k ys
take_past_all [] ys k = ap (λ (m : ℕ). take m ys) (omega arith)
take_past_all (x ∷ xs) ys k =
    let e : length (x ∷ xs) + k ≡ suc (length xs + k) = omega arith in
    ap (λ (m : ℕ). take m (x ∷ (xs ++ ys))) e ∙ ap (λ (l : List ℕ). x ∷ l) (take_past_all xs ys k)

pub take_past : (xs ys : List ℕ) (n k : ℕ) → length xs ≡ n → take (n + k) (xs ++ ys) ≡ xs ++ take k ys
take_past xs ys n k e = ap (λ (m : ℕ). take (m + k) (xs ++ ys)) (sym e) ∙ take_past_all xs ys k

pub window-left : (xs ys : List ℕ) (at n : ℕ) → at + n ≤ length xs → window (xs ++ ys) at n ≡ window xs at n
window-left xs ys at n inside =
    let inside' : n ≤ length (drop at xs) = omega (arith, length-drop at xs) in let low : at ≤ length xs = omega arith in
    ap (take n) (drop-append-le at xs ys low) ∙ take-append-le n (drop at xs) ys inside'

window-right : (xs ys : List ℕ) (at n k : ℕ) → length xs ≡ k → window (xs ++ ys) (k + at) n ≡ window ys at n
window-right xs ys at n k e = ap (take n) (drop_past xs ys k at e)

splice-left : (xs ys zs : List ℕ) (at : ℕ) → at + length zs ≤ length xs → splice (xs ++ ys) at zs ≡ splice xs at zs ++ ys
splice-left xs ys zs at inside =
    let low : at ≤ length xs = omega arith in
    ap (λ (a : List ℕ). a ++ zs ++ drop (at + length zs) (xs ++ ys)) (take-append-le at xs ys low)
    ∙ ap (λ (b : List ℕ). take at xs ++ zs ++ b) (drop-append-le (at + length zs) xs ys inside)
    ∙ sym (append_assoc (take at xs ++ zs) (drop (at + length zs) xs) ys)

splice-right : (xs ys zs : List ℕ) (at k : ℕ) → length xs ≡ k → splice (xs ++ ys) (k + at) zs ≡ xs ++ splice ys at zs
splice-right xs ys zs at k e =
    let there : k + at + length zs ≡ k + (at + length zs) = omega arith in
    ap (λ (a : List ℕ). a ++ zs ++ drop (k + at + length zs) (xs ++ ys)) (take_past xs ys k at e)
    ∙ ap (λ (i : ℕ). xs ++ take at ys ++ zs ++ drop i (xs ++ ys)) there
    ∙ ap (λ (b : List ℕ). xs ++ take at ys ++ zs ++ b) (drop_past xs ys k (at + length zs) e)
    ∙ ap (λ (a : List ℕ). a ++ drop (at + length zs) ys) (append_assoc xs (take at ys) zs)
    ∙ append_assoc xs (take at ys ++ zs) (drop (at + length zs) ys)

pub length-splice : (xs zs : List ℕ) (at : ℕ) → at + length zs ≤ length xs → length (splice xs at zs) ≡ length xs
length-splice xs zs at inside =
    omega (arith, length-append (take at xs ++ zs) (drop (at + length zs) xs), length-append (take at xs) zs, length-take at xs, length-drop (at + length zs) xs)

-- one write after another
pub splice-splice : (xs ys zs : List ℕ) (at : ℕ) → at + length ys + length zs ≤ length xs → splice (splice xs at ys) (at + length ys) zs ≡ splice xs at (ys ++ zs)
splice-splice xs ys zs at inside =
    let low : at ≤ length xs = omega arith in
    let head : length (take at xs ++ ys) ≡ at + length ys = omega (arith, length-append (take at xs) ys, length-take-le at xs low) in
    let tail : at + length ys + length zs ≡ at + length (ys ++ zs) = omega (arith, length-append ys zs) in
    ap (λ (a : List ℕ). a ++ zs ++ drop (at + length ys + length zs) (splice xs at ys)) (take_at (take at xs ++ ys) (drop (at + length ys) xs) (at + length ys) head)
    ∙ ap (λ (b : List ℕ). take at xs ++ ys ++ zs ++ b) (drop_past (take at xs ++ ys) (drop (at + length ys) xs) (at + length ys) (length zs) head ∙ drop-drop (length zs) (at + length ys) xs)
    ∙ ap (λ (i : ℕ). take at xs ++ ys ++ zs ++ drop i xs) tail
    ∙ ap (λ (a : List ℕ). a ++ drop (at + length (ys ++ zs)) xs) (append_assoc (take at xs) ys zs)

-- ---- pages

pub window-contents : (pages : List (Option (List ℕ))) (k o n : ℕ) → AllWhole pages → k < length pages → o + n ≤ 65536
    → window (contents pages) (65536 * k + o) n ≡ window (page_bytes (get_or pages k None)) o n
window-contents [] k o n all inside fits = absurd (omega arith)
window-contents (page ∷ pages) zero o n all inside fits =
    let e : o + n ≤ length (page_bytes page) = omega (arith, length-page_bytes page all.0) in
    ap (λ (i : ℕ). window (page_bytes page ++ contents pages) i n) (omega arith) ∙ window-left (page_bytes page) (contents pages) o n e
window-contents (page ∷ pages) (suc k) o n all inside fits =
    ap (λ (i : ℕ). window (page_bytes page ++ contents pages) i n) (omega arith)
    ∙ window-right (page_bytes page) (contents pages) (65536 * k + o) n 65536 (length-page_bytes page all.0)
    ∙ window-contents pages k o n all.1 (omega arith) fits

pub contents-set : (pages : List (Option (List ℕ))) (k o : ℕ) (zs : List ℕ) → AllWhole pages → k < length pages → o + length zs ≤ 65536
    → contents (set pages k (Some (splice (page_bytes (get_or pages k None)) o zs))) ≡ splice (contents pages) (65536 * k + o) zs
contents-set [] k o zs all inside fits = absurd (omega arith)
contents-set (page ∷ pages) zero o zs all inside fits =
    let e : o + length zs ≤ length (page_bytes page) = omega (arith, length-page_bytes page all.0) in
    sym (splice-left (page_bytes page) (contents pages) zs o e) ∙ ap (λ (i : ℕ). splice (page_bytes page ++ contents pages) i zs) (omega arith)
contents-set (page ∷ pages) (suc k) o zs all inside fits =
    ap (λ (xs : List ℕ). page_bytes page ++ xs) (contents-set pages k o zs all.1 (omega arith) fits)
    ∙ sym (splice-right (page_bytes page) (contents pages) zs (65536 * k + o) 65536 (length-page_bytes page all.0))
    ∙ ap (λ (i : ℕ). splice (page_bytes page ++ contents pages) i zs) (omega arith)

-- making an absent page changes no byte
pub contents-make : (pages : List (Option (List ℕ))) (k : ℕ) → get_or pages k None ≡ None → contents (set pages k (Some zeros)) ≡ contents pages
contents-make [] k e = refl
contents-make (page ∷ pages) zero e = ap (λ (p : Option (List ℕ)). page_bytes p ++ contents pages) (sym e)
contents-make (page ∷ pages) (suc k) e = ap (λ (xs : List ℕ). page_bytes page ++ xs) (contents-make pages k e)

pub AllWhole-set : (pages : List (Option (List ℕ))) (k : ℕ) (bytes : List ℕ) → AllWhole pages → length bytes ≡ 65536 → AllWhole (set pages k (Some bytes))
AllWhole-set [] k bytes all e = all
AllWhole-set (page ∷ pages) zero bytes all e = (e, all.1)
AllWhole-set (page ∷ pages) (suc k) bytes all e = (all.0, AllWhole-set pages k bytes all.1 e)

pub whole_at : (pages : List (Option (List ℕ))) (k : ℕ) → AllWhole pages → IsWhole (get_or pages k None)
whole_at [] k all = tt
whole_at (page ∷ pages) zero all = all.0
whole_at (page ∷ pages) (suc k) all = whole_at pages k all.1

pub contents-append : (ps qs : List (Option (List ℕ))) → contents (ps ++ qs) ≡ contents ps ++ contents qs
contents-append [] qs = refl
contents-append (p ∷ ps) qs = ap (λ (xs : List ℕ). page_bytes p ++ xs) (contents-append ps qs) ∙ sym (append_assoc (page_bytes p) (contents ps) (contents qs))

pub contents-absent : (n : ℕ) → contents (replicate n None) ≡ replicate (65536 * n) 0
unfolding zeros
contents-absent zero = refl
contents-absent (suc n) =
    ap (λ (xs : List ℕ). replicate 65536 0 ++ xs) (contents-absent n) ∙ replicate-append-replicate 65536 (65536 * n) 0
    ∙ ap (λ (k : ℕ). replicate k 0) (omega arith)

pub AllWhole-append : (ps qs : List (Option (List ℕ))) → AllWhole ps → AllWhole qs → AllWhole (ps ++ qs)
AllWhole-append [] qs a b = b
AllWhole-append (p ∷ ps) qs a b = (a.0, AllWhole-append ps qs a.1 b)

pub AllWhole-absent : (n : ℕ) → AllWhole (replicate n None)
AllWhole-absent zero = tt
AllWhole-absent (suc n) = (tt, AllWhole-absent n)

-- ---- one step of a write or a read

abbrev pub Table : Type 0
Table = List (Option (List ℕ))

pub at_read : (ps : Table) (k : ℕ) (x : Option (List ℕ)) → k < length ps → x ≡ get_or ps k x → x ≡ get_or ps k None
at_read ps k x inside e = e ∙ get_or_default ps k x None inside

pub place_of : (at : ℕ) → 65536 * (at / 65536) + at % 65536 ≡ at
place_of at = omega arith

pub is_made_at : (ps : Table) (k : ℕ) (x : Option (List ℕ)) → k < length ps → x ≡ get_or ps k x → IsMade (map is_some ps) k → is_some x ≡ true
is_made_at ps k x inside e made = ap is_some (at_read ps k x inside e) ∙ sym (get_or-map is_some ps k None false inside) ∙ made

pub made_is_at : (ps : Table) (k : ℕ) (x : Option (List ℕ)) → k < length ps → x ≡ get_or ps k x → is_some x ≡ true → IsMade (map is_some ps) k
made_is_at ps k x inside e made = get_or-map is_some ps k None false inside ∙ ap is_some (sym (at_read ps k x inside e)) ∙ made

pub put_step : (ps : Table) (at : ℕ) (zs : List ℕ) (x : Option (List ℕ)) → AllWhole ps → at / 65536 < length ps → at % 65536 + length zs ≤ 65536
    → x ≡ get_or ps (at / 65536) x
    → contents (set ps (at / 65536) (Some (splice (page_bytes x) (at % 65536) zs))) ≡ splice (contents ps) at zs
put_step ps at zs x all inside fits e =
    ap (λ (p : Option (List ℕ)). contents (set ps (at / 65536) (Some (splice (page_bytes p) (at % 65536) zs)))) (at_read ps (at / 65536) x inside e)
    ∙ contents-set ps (at / 65536) (at % 65536) zs all inside fits ∙ ap (λ (i : ℕ). splice (contents ps) i zs) (place_of at)

pub read_step : (ps : Table) (at n : ℕ) (x : Option (List ℕ)) → AllWhole ps → at / 65536 < length ps → at % 65536 + n ≤ 65536
    → x ≡ get_or ps (at / 65536) x
    → window (contents ps) at n ≡ window (page_bytes x) (at % 65536) n
read_step ps at n x all inside fits e =
    ap (λ (i : ℕ). window (contents ps) i n) (sym (place_of at)) ∙ window-contents ps (at / 65536) (at % 65536) n all inside fits
    ∙ ap (λ (p : Option (List ℕ)). window (page_bytes p) (at % 65536) n) (sym (at_read ps (at / 65536) x inside e))

pub put_whole : (ps : Table) (k o : ℕ) (zs : List ℕ) (x : Option (List ℕ)) → AllWhole ps → k < length ps → o + length zs ≤ 65536 → x ≡ get_or ps k x
    → AllWhole (set ps k (Some (splice (page_bytes x) o zs)))
put_whole ps k o zs x all inside fits e =
    let whole : IsWhole x = subst IsWhole (sym (at_read ps k x inside e)) (whole_at ps k all) in
    let room : o + length zs ≤ length (page_bytes x) = omega (arith, length-page_bytes x whole) in
    AllWhole-set ps k _ all (length-splice (page_bytes x) zs o room ∙ length-page_bytes x whole)

-- a page that is made stays so when it is written
pub put_made : (ps : Table) (k : ℕ) (bytes : List ℕ) (x : Option (List ℕ)) → k < length ps → x ≡ get_or ps k x → is_some x ≡ true
    → map is_some (set ps k (Some bytes)) ≡ map is_some ps
put_made ps k bytes x inside e made =
    let here : true ≡ get_or (map is_some ps) k false = sym (get_or-map is_some ps k None false inside ∙ ap is_some (sym (at_read ps k x inside e)) ∙ made) in
    map-set is_some ps k (Some bytes) ∙ ap (λ (b : Bool). set (map is_some ps) k b) here ∙ set-get_or (map is_some ps) k false

-- ---- making

none_of : (o : Option (List ℕ)) → (is_some o ≡ false) → o ≡ None
none_of None e = refl
none_of (Some x) e = cc

set_true_kept : (m : List Bool) (k j : ℕ) → get_or m j false ≡ true → get_or (set m k true) j false ≡ true
set_true_kept [] k j h = h
set_true_kept (b ∷ m) zero zero h = refl
set_true_kept (b ∷ m) zero (suc j) h = h
set_true_kept (b ∷ m) (suc k) zero h = h
set_true_kept (b ∷ m) (suc k) (suc j) h = set_true_kept m k j h

pub install_contents : (ps : Table) (k : ℕ) (page x : Option (List ℕ)) → k < length ps → page ≡ Some zeros → x ≡ get_or ps k x → is_some x ≡ false
    → contents (set ps k page) ≡ contents ps
install_contents ps k page x inside is_zero e absent =
    ap (λ (p : Option (List ℕ)). contents (set ps k p)) is_zero ∙ contents-make ps k (sym (at_read ps k x inside e) ∙ none_of x absent)

pub install_whole : (ps : Table) (k : ℕ) (page : Option (List ℕ)) → page ≡ Some zeros → AllWhole ps → AllWhole (set ps k page)
install_whole ps k page is_zero all = subst (λ (p : Option (List ℕ)). AllWhole (set ps k p)) (sym is_zero) (AllWhole-set ps k zeros all length-zeros)

install_map : (ps : Table) (k : ℕ) (page : Option (List ℕ)) → page ≡ Some zeros → map is_some (set ps k page) ≡ set (map is_some ps) k true
install_map ps k page is_zero = map-set is_some ps k page ∙ ap (λ (p : Option (List ℕ)). set (map is_some ps) k (is_some p)) is_zero

pub install_made : (ps : Table) (k : ℕ) (page : Option (List ℕ)) → k < length ps → page ≡ Some zeros → IsMade (map is_some (set ps k page)) k
install_made ps k page inside is_zero =
    let low : k < length (map is_some ps) = omega (arith, length-map ps is_some) in
    subst (λ (m : List Bool). IsMade m k) (sym (install_map ps k page is_zero)) (get_or-set_same (map is_some ps) k true false low)

pub install_stays : (ps : Table) (k : ℕ) (page : Option (List ℕ)) → page ≡ Some zeros → StaysMade (map is_some ps) (map is_some (set ps k page))
install_stays ps k page is_zero =
    subst (λ (m : List Bool). StaysMade (map is_some ps) m) (sym (install_map ps k page is_zero))
    (record { count = length-set (map is_some ps) k true; kept = λ j h. set_true_kept (map is_some ps) k j h })

set_only : (m : List Bool) (k j : ℕ) → get_or (set m k true) j false ≡ true → (get_or m j false ≡ true) ⊎ (j ≡ k)
set_only [] k j h = inl h
set_only (b ∷ m) zero zero h = inr refl
set_only (b ∷ m) zero (suc j) h = inl h
set_only (b ∷ m) (suc k) zero h = inl h
set_only (b ∷ m) (suc k) (suc j) h = elim (set_only m k j h) [ inl e ↦ inl e | inr e ↦ inr (ap suc e) ]

pub install_only : (ps : Table) (k : ℕ) (page : Option (List ℕ)) → page ≡ Some zeros → (j : ℕ) → IsMade (map is_some (set ps k page)) j → IsMade (map is_some ps) j ⊎ (j ≡ k)
install_only ps k page is_zero j h = set_only (map is_some ps) k j (subst (λ (m : List Bool). IsMade m j) (install_map ps k page is_zero) h)

pub stays_trans : (a b c : List Bool) → StaysMade a b → StaysMade b c → StaysMade a c
stays_trans a b c f g = record { count = g.count ∙ f.count; kept = λ j h. g.kept j (f.kept j h) }

pub stays_refl : (a : List Bool) → StaysMade a a
stays_refl a = record { count = refl; kept = λ j h. h }

pub all_made_kept : (a b : List Bool) (at len : ℕ) → StaysMade a b → AllMade a at len → AllMade b at len
all_made_kept a b at len s all i low high = s.kept (i / 65536) (all i low high)

-- the first page, and those behind it
pub all_made_join : (m : List Bool) (at step len : ℕ) → step ≤ len → at % 65536 + step ≤ 65536 → IsMade m (at / 65536) → AllMade m (at + step) (len - step) → AllMade m at len
all_made_join m at step len le fits here rest i low high = elim (cases_lt i (at + step)) [
  | inl below ↦ let same : at / 65536 ≡ i / 65536 = omega arith in subst (λ (k : ℕ). IsMade m k) same here
  | inr above ↦ rest i above (omega arith)
]

-- ---- two parts

window_join : (xs : List ℕ) (at a b : ℕ) → window xs at a ++ window xs (at + a) b ≡ window xs at (a + b)
window_join xs at a b =
    let le : a ≤ a + b = omega arith in
    ap (λ (l : List ℕ). take a (drop at xs) ++ take b l) (sym (drop-drop a at xs))
    ∙ ap (λ (l : List ℕ). take a (drop at xs) ++ l) (sym (drop-take a b (drop at xs)))
    ∙ ap (λ (l : List ℕ). l ++ drop a (take (a + b) (drop at xs))) (sym (take-take a (a + b) (drop at xs) le))
    ∙ take-append-drop a (take (a + b) (drop at xs))

pub windows_join : (xs : List ℕ) (at a len : ℕ) → a ≤ len → window xs at a ++ window xs (at + a) (len - a) ≡ window xs at len
windows_join xs at a len le = window_join xs at a (len - a) ∙ ap (λ (n : ℕ). window xs at n) (omega arith)

pub put_twice : (xs bs : List ℕ) (at step : ℕ) → step ≤ length bs → at + length bs ≤ length xs
    → splice (splice xs at (take step bs)) (at + step) (drop step bs) ≡ splice xs at bs
put_twice xs bs at step le inside =
    let n : length (take step bs) ≡ step = length-take-le step bs le in
    let room : at + length (take step bs) + length (drop step bs) ≤ length xs = omega (arith, length-drop step bs) in
    ap (λ (k : ℕ). splice (splice xs at (take step bs)) (at + k) (drop step bs)) (sym n)
    ∙ splice-splice xs (take step bs) (drop step bs) at room ∙ ap (λ (b : List ℕ). splice xs at b) (take-append-drop step bs)

pub window-zeros : (o n : ℕ) → o + n ≤ 65536 → window zeros o n ≡ replicate n 0
unfolding zeros
window-zeros o n fits =
    let low : n ≤ 65536 - o = omega arith in
    ap (λ (l : List ℕ). take n l) (drop-replicate {X = ℕ} o 65536 0) ∙ take-replicate {X = ℕ} n (65536 - o) 0 low

-- the length, under a name that an attribute can cite
pub length_of_contents : (pages : Table) → AllWhole pages → length (contents pages) ≡ 65536 * length pages
length_of_contents pages all = length-contents pages all

-- the whole of a page
pub page_at : (ps : Table) (k : ℕ) (x : Option (List ℕ)) → AllWhole ps → k < length ps → x ≡ get_or ps k x → window (contents ps) (65536 * k) 65536 ≡ page_bytes x
page_at ps k x all inside e =
    let whole : IsWhole x = subst IsWhole (sym (at_read ps k x inside e)) (whole_at ps k all) in
    let short : length (page_bytes x) ≤ 65536 = omega (arith, length-page_bytes x whole) in
    ap (λ (i : ℕ). window (contents ps) i 65536) (omega arith) ∙ window-contents ps k 0 65536 all inside (omega arith)
    ∙ ap (λ (p : Option (List ℕ)). window (page_bytes p) 0 65536) (sym (at_read ps k x inside e))
    ∙ take_all 65536 (page_bytes x) short

pub grown : (ps : Table) (n : ℕ) → contents (ps ++ replicate n None) ≡ contents ps ++ replicate (65536 * n) 0
grown ps n = contents-append ps (replicate n None) ∙ ap (λ (xs : List ℕ). contents ps ++ xs) (contents-absent n)

-- one page that is made
pub all_made_one : (m : List Bool) (at len : ℕ) → at % 65536 + len ≤ 65536 → IsMade m (at / 65536) → AllMade m at len
all_made_one m at len fits here i low high = let same : at / 65536 ≡ i / 65536 = omega arith in subst (λ (k : ℕ). IsMade m k) same here

from_bytes-zeros : (n : ℕ) → from_bytes (replicate n 0) ≡ 0
from_bytes-zeros zero = refl
from_bytes-zeros (suc n) = omega (arith, from_bytes-zeros n)

pub load_absent : (ps : Table) (at n : ℕ) (x : Option (List ℕ)) → AllWhole ps → at / 65536 < length ps → at % 65536 + n ≤ 65536 → x ≡ get_or ps (at / 65536) x → x ≡ None
    → from_bytes (window (contents ps) at n) ≡ 0
load_absent ps at n x all inside fits e absent =
    ap from_bytes (read_step ps at n x all inside fits e ∙ ap (λ (p : Option (List ℕ)). window (page_bytes p) (at % 65536) n) absent ∙ window-zeros (at % 65536) n fits)
    ∙ from_bytes-zeros n

pub zeros_is : zeros ≡ replicate 65536 0
unfolding zeros
zeros_is = refl

-- a table with absent pages behind it
pub grown_contents : (ps qs : Table) (n : ℕ) → qs ≡ ps ++ replicate n None → contents qs ≡ contents ps ++ replicate (65536 * n) 0
grown_contents ps qs n e = ap contents e ∙ grown ps n

pub grown_whole : (ps qs : Table) (n : ℕ) → AllWhole ps → qs ≡ ps ++ replicate n None → AllWhole qs
grown_whole ps qs n all e = subst AllWhole (sym e) (AllWhole-append ps (replicate n None) all (AllWhole-absent n))

map-absent : (n : ℕ) → map (is_some {T = List ℕ}) (replicate n None) ≡ replicate n false
map-absent zero = refl
map-absent (suc n) = ap (λ (m : List Bool). false ∷ m) (map-absent n)

pub grown_made : (ps qs : Table) (n : ℕ) → qs ≡ ps ++ replicate n None → map is_some qs ≡ map is_some ps ++ replicate n false
grown_made ps qs n e = ap (map is_some) e ∙ map-append is_some ps (replicate n None) ∙ ap (λ (m : List Bool). map is_some ps ++ m) (map-absent n)

pub stored_all : (ps : Table) (at : ℕ) (zs : List ℕ) (x page : Option (List ℕ)) → AllWhole ps → at / 65536 < length ps → at % 65536 + length zs ≤ 65536
    → x ≡ get_or ps (at / 65536) x → is_some x ≡ true → page ≡ Some (splice (page_bytes x) (at % 65536) zs)
    → (contents (set ps (at / 65536) page) ≡ splice (contents ps) at zs) × AllWhole (set ps (at / 65536) page) × (map is_some (set ps (at / 65536) page) ≡ map is_some ps) × AllMade (map is_some (set ps (at / 65536) page)) at (length zs)
stored_all ps at zs x page all inside fits e made is =
    let k = at / 65536 in
    let same = ap (λ (p : Option (List ℕ)). map is_some (set ps k p)) is ∙ put_made ps k (splice (page_bytes x) (at % 65536) zs) x inside e made in (
      ap (λ (p : Option (List ℕ)). contents (set ps k p)) is ∙ put_step ps at zs x all inside fits e,
      subst (λ (p : Option (List ℕ)). AllWhole (set ps k p)) (sym is) (put_whole ps k (at % 65536) zs x all inside fits e),
      same,
      all_made_one (map is_some (set ps k page)) at (length zs) fits (subst (λ (m : List Bool). IsMade m k) (sym same) (made_is_at ps k x inside e made)),
    )
