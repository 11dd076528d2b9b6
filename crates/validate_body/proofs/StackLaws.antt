-- One stack of types with heights, as frames.
use Rattle.std.proofs.Common.{◌≡◌, ℕ, zero, suc, ◌+◌, ◌-◌, ◌<◌, ◌≤◌, List, [], ◌∷◌, ◌++◌, length, take, drop, reverse, refl, sym, ap, subst, ◌∙◌, arith}
use Rattle.std.proofs.lemmas.List.{reverse-append, length-reverse, take-append-drop, length-drop, get_or-reverse}
use Rattle.std.proofs.lemmas.Option.{slice_get-get_or, slice_get_past}
use Rattle.std.specs.Prelude.{true, false, Option, Some, None, option_map, slice_get, option_to_list, ◌^◌, ◌*◌}
use Rattle.std.proofs.Math.Nat.{pow-le-pow_right}
use Rattle.std.proofs.lemmas.Bool.Decides.{nat_tests}
use Rattle.wasm_syntax.specs.declared.value.ValType.{ValType}
use Rattle.wasm_syntax.specs.Typing.{aligned}
use Rattle.validate_body.specs.declared.stack.Control.{Control}
use Rattle.wasm_syntax.specs.FlatTyping.{label_of}
use Rattle.validate_body.specs.calls.Frames.{Known, Frame, pop_any, pop, push, forget, label, result_of, emptied, pops, take_any, no_frame, any_free, height_of, operands, gives_any, topmost, is_empty}
use Rattle.validate_body.specs.inner.Stacked.{frame_of, frames_of, Heights, Did, free_control}
use Rattle.std.specs.Prelude.{Bool, ◌||◌, ◌&&◌, nat_eq}
use Rattle.std.proofs.Common.{length-append}
use Rattle.std.specs.Prelude.{Err}
use Rattle.wasm_syntax.specs.Module.{option_then}
use Rattle.validate_body.specs.declared.stack.StackFault.{StackFault}
use Rattle.validate_body.specs.declared.stack.StackFault.TheVariants.{Wrong, NoMemory}

pub get_reversed : {A : Type 0} (xs : List A) (k : ℕ) → k < length xs → slice_get (reverse xs) k ≡ slice_get xs (length xs - 1 - k)
get_reversed [] k le = absurd (omega arith)
get_reversed {A} (x ∷ xs) k le =
    slice_get-get_or (reverse (x ∷ xs)) k x (omega (arith, length-reverse (x ∷ xs)))
    ∙ ap (λ y. Some y) (get_or-reverse (x ∷ xs) k x le)
    ∙ sym (slice_get-get_or (x ∷ xs) (length (x ∷ xs) - 1 - k) x (omega arith))

pub get_past : {A : Type 0} (xs : List A) (k : ℕ) → length xs ≤ k → slice_get (reverse xs) k ≡ None
get_past xs k le = slice_get_past (reverse xs) k (omega (arith, length-reverse xs))

take_more : {A : Type 0} (k : A) (ks : List A) (h : ℕ) → h ≤ length ks → take (length (k ∷ ks) - h) (k ∷ ks) ≡ k ∷ take (length ks - h) ks
take_more k ks h le = let e : length (k ∷ ks) - h ≡ suc (length ks - h) = omega arith in ap (λ n. take n (k ∷ ks)) e

drop_same : {A : Type 0} (k : A) (ks : List A) (h : ℕ) → h ≤ length ks → drop (length (k ∷ ks) - h) (k ∷ ks) ≡ drop (length ks - h) ks
drop_same k ks h le = let e : length (k ∷ ks) - h ≡ suc (length ks - h) = omega arith in ap (λ n. drop n (k ∷ ks)) e

none_over : {A : Type 0} (ks : List A) (h : ℕ) → length ks ≡ h → length ks - h ≡ 0
none_over ks h e = omega arith

-- a frame with nothing above its height
pub opened_is : (ks : Known) (c : Control) (cs : List Control) → length ks ≡ c.height → frames_of ks (c ∷ cs) ≡ frame_of c [] ∷ frames_of ks cs
opened_is ks c cs e = ap (λ n. frame_of c (take n ks) ∷ frames_of (drop n ks) cs) (none_over ks c.height e)

pub pushed_is : (ks : Known) (k : Option ValType) (cs : List Control) → Heights (length ks) cs → frames_of (k ∷ ks) cs ≡ push (frames_of ks cs) k
pushed_is ks k [] h = refl
pushed_is ks k (c ∷ cs) h =
    ap (λ x. frame_of c x ∷ frames_of (drop (length (k ∷ ks) - c.height) (k ∷ ks)) cs) (take_more k ks c.height h.0)
    ∙ ap (λ x. frame_of c (k ∷ take (length ks - c.height) ks) ∷ frames_of x cs) (drop_same k ks c.height h.0)

pub heights_more : (n : ℕ) (cs : List Control) → 0 < length cs → Heights n cs → Heights (suc n) cs
heights_more n [] le h = absurd (omega arith)
heights_more n (c ∷ cs) le h = (omega (arith, h.0), h.1, h.2)

pub frames_len : (ks : Known) (cs : List Control) → length (frames_of ks cs) ≡ length cs
frames_len ks [] = refl
frames_len ks (c ∷ cs) = ap suc (frames_len (drop (length ks - c.height) ks) cs)

-- one type is taken
pub taken_is : (ks : Known) (k : Option ValType) (cs : List Control) → 0 < length cs → Heights (length ks) cs → take_any (frames_of (k ∷ ks) cs) ≡ Some (k, frames_of ks cs)
taken_is ks k [] le h = absurd (omega arith)
taken_is ks k (c ∷ cs) le h = subst (λ x. take_any x ≡ Some (k, frames_of ks (c ∷ cs))) (sym (pushed_is ks k (c ∷ cs) h)) refl

pub taken_below : (ks : Known) (c : Control) (cs : List Control) → length ks ≡ c.height → take_any (frames_of ks (c ∷ cs)) ≡ option_map (λ p. (p.0, frame_of c p.1 ∷ frames_of ks cs)) (pop_any c.free [])
taken_below ks c cs e = ap (λ x. take_any x) (opened_is ks c cs e)

pub heights_less : (k : Option ValType) (ks : Known) (c : Control) (cs : List Control) → Heights (length (k ∷ ks)) (c ∷ cs) → (length (k ∷ ks) ≡ c.height → ⊥) → Heights (length ks) (c ∷ cs)
heights_less k ks c cs h ne = (omega (arith, h.0, ne), h.1, h.2)

-- the others are forgotten
pub forgot_is : (ks : Known) (c d : Control) (cs : List Control) → c.height ≤ length ks → d ≡ record c { free = true } → frames_of (drop (length ks - c.height) ks) (d ∷ cs) ≡ forget (frames_of ks (c ∷ cs))
forgot_is ks c d cs le e =
    let n : length (drop (length ks - c.height) ks) ≡ c.height = length-drop (length ks - c.height) ks ∙ omega arith in
    subst (λ x. frames_of (drop (length ks - c.height) ks) (x ∷ cs) ≡ forget (frames_of ks (c ∷ cs))) (sym e)
    (opened_is (drop (length ks - c.height) ks) (record c { free = true }) cs n)

pub forgot_len : (ks : Known) (h : ℕ) → h ≤ length ks → length (drop (length ks - h) ks) ≡ h
forgot_len ks h le = length-drop (length ks - h) ks ∙ omega arith

-- labels
pub labels_are : (ks : Known) (cs : List Control) (n : ℕ) → label (frames_of ks cs) n ≡ option_map (λ c. label_of c.kind c.result) (slice_get cs n)
labels_are ks [] n = refl
labels_are ks (c ∷ cs) zero = refl
labels_are ks (c ∷ cs) (suc n) = labels_are (drop (length ks - c.height) ks) cs n

-- ---- as the code finds them

pub no_controls : (ks : Known) (cs : List Control) → slice_get cs 0 ≡ None → take_any (frames_of ks cs) ≡ None
no_controls ks [] e = refl
no_controls ks (c ∷ cs) e = absurd (cc)

pub below_free : (ks : Known) (cs : List Control) (c : Control) → slice_get cs 0 ≡ Some c → length ks ≡ c.height → c.free ≡ true → take_any (frames_of ks cs) ≡ Some (None, frames_of ks cs)
below_free ks [] c e n f = absurd (cc)
below_free ks (d ∷ cs) c e n f =
    let q : d ≡ c = cc in
    let m : length ks ≡ d.height = n ∙ ap (λ x. x.height) (sym q) in
    let g : d.free ≡ true = ap (λ x. x.free) q ∙ f in
    subst (λ x. take_any x ≡ Some (None, x)) (sym (opened_is ks d cs m)) (rw g refl)

pub below_shut : (ks : Known) (cs : List Control) (c : Control) → slice_get cs 0 ≡ Some c → length ks ≡ c.height → c.free ≡ false → take_any (frames_of ks cs) ≡ None
below_shut ks [] c e n f = refl
below_shut ks (d ∷ cs) c e n f =
    let q : d ≡ c = cc in
    let m : length ks ≡ d.height = n ∙ ap (λ x. x.height) (sym q) in
    let g : d.free ≡ false = ap (λ x. x.free) q ∙ f in
    subst (λ x. take_any x ≡ None) (sym (opened_is ks d cs m)) (rw g refl)

pub popped_heights : (ks new : Known) (cs : List Control) (c : Control) (u : Option ValType) → slice_get cs 0 ≡ Some c → ks ≡ u ∷ new → (length ks ≡ c.height → ⊥) → Heights (length ks) cs → Heights (length new) cs
popped_heights ks new [] c u e q ne h = absurd (cc)
popped_heights ks new (d ∷ cs) c u e q ne h =
    let s : d ≡ c = cc in
    let hh : d.height ≡ c.height = ap (λ x. x.height) s in
    let l : length ks ≡ suc (length new) = ap (λ x. length x) q in
    (omega (arith, h.0, ne), h.1, h.2)

pub popped_is : (ks new : Known) (cs : List Control) (c : Control) (u : Option ValType) → slice_get cs 0 ≡ Some c → ks ≡ u ∷ new → (length ks ≡ c.height → ⊥) → Heights (length ks) cs → take_any (frames_of ks cs) ≡ Some (u, frames_of new cs)
popped_is ks new [] c u e q ne h = absurd (cc)
popped_is ks new (d ∷ cs) c u e q ne h =
    subst (λ x. take_any (frames_of x (d ∷ cs)) ≡ Some (u, frames_of new (d ∷ cs))) (sym q)
    (taken_is new u (d ∷ cs) (omega arith) (popped_heights ks new (d ∷ cs) c u e q ne h))

pub none_popped : (ks : Known) (cs : List Control) (c : Control) → slice_get cs 0 ≡ Some c → ks ≡ [] → (length ks ≡ c.height → ⊥) → Heights (length ks) cs → ⊥
none_popped ks [] c e q ne h = cc
none_popped ks (d ∷ cs) c e q ne h =
    let s : d ≡ c = cc in
    let hh : d.height ≡ c.height = ap (λ x. x.height) s in
    let l : length ks ≡ 0 = ap (λ x. length x) q in
    omega (arith, h.0, ne)

pub pushed_heights : (ks new : Known) (t : Option ValType) (cs : List Control) → new ≡ t ∷ ks → 0 < length cs → Heights (length ks) cs → Heights (length new) cs
pushed_heights ks new t cs q le h = subst (λ x. Heights (length x) cs) (sym q) (heights_more (length ks) cs le h)

pub pushed_frames : (ks new : Known) (t : Option ValType) (cs : List Control) → new ≡ t ∷ ks → Heights (length ks) cs → frames_of new cs ≡ push (frames_of ks cs) t
pushed_frames ks new t cs q h = ap (λ x. frames_of x cs) q ∙ pushed_is ks t cs h

pub ends_are : (ks : Known) (cs : List Control) (c : Control) → slice_get cs 0 ≡ Some c → result_of (frames_of ks cs) ≡ option_to_list c.result
ends_are ks [] c e = absurd (cc)
ends_are ks (d ∷ cs) c e = let q : d ≡ c = cc in ap (λ x. option_to_list x.result) q

pub ends_none : (ks : Known) (cs : List Control) → slice_get cs 0 ≡ None → result_of (frames_of ks cs) ≡ []
ends_none ks [] e = refl
ends_none ks (d ∷ cs) e = absurd (cc)

pub no_frames : (ks : Known) (cs : List Control) → length cs ≡ 0 → no_frame (frames_of ks cs) ≡ true
no_frames ks [] e = refl
no_frames ks (c ∷ cs) e = absurd (omega arith)

pub some_frames : (ks : Known) (cs : List Control) → (length cs ≡ 0 → ⊥) → no_frame (frames_of ks cs) ≡ false
some_frames ks [] e = absurd (e refl)
some_frames ks (c ∷ cs) e = refl

pub take_one : {A : Type 0} (xs : List A) (n : ℕ) (x : A) → slice_get xs n ≡ Some x → take (n + 1) xs ≡ take n xs ++ x ∷ []
take_one [] n x e = absurd (cc)
take_one (y ∷ ys) zero x e = let q : y ≡ x = cc in ap (λ z. z ∷ []) q
take_one (y ∷ ys) (suc n) x e = let s : suc n + 1 ≡ suc (n + 1) = omega arith in rw s (ap (λ z. y ∷ z) (take_one ys n x e))

pub reverse_more : {A : Type 0} (xs : List A) (n : ℕ) (x : A) → slice_get xs n ≡ Some x → reverse (take (n + 1) xs) ≡ x ∷ reverse (take n xs)
reverse_more xs n x e =
    let q : take (n + 1) xs ≡ take n xs ++ x ∷ [] = take_one xs n x e in
    ap reverse q ∙ reverse-append (take n xs) (x ∷ [])

pub left_none : (ks : Known) (cs : List Control) → slice_get cs 0 ≡ None → emptied (frames_of ks cs) ≡ None
left_none ks [] e = refl
left_none ks (d ∷ cs) e = absurd (cc)

take_some : {A : Type 0} (ks : List A) (n : ℕ) → 0 < n → n ≤ length ks → (k : A) × (ls : List A) × (take n ks ≡ k ∷ ls)
take_some [] n le m = absurd (omega arith)
take_some (k ∷ ks) zero le m = absurd (omega arith)
take_some (k ∷ ks) (suc n) le m = (k, take n ks, refl)

pub left_wrong : (ks : Known) (cs : List Control) (c : Control) → slice_get cs 0 ≡ Some c → (length ks ≡ c.height → ⊥) → Heights (length ks) cs → emptied (frames_of ks cs) ≡ None
left_wrong ks [] c e ne h = refl
left_wrong ks (d ∷ cs) c e ne h =
    let q : d ≡ c = cc in
    let hh : d.height ≡ c.height = ap (λ x. x.height) q in
    let t = take_some ks (length ks - d.height) (omega (arith, h.0, ne)) (omega arith) in
    ap (λ x. emptied (frame_of d x ∷ frames_of (drop (length ks - d.height) ks) cs)) t.2

pub aligned_not : (align bits : ℕ) → 4 ≤ align → bits ≤ 64 → aligned align bits ≡ false
aligned_not align bits le m =
    let p : 2 ^ 4 ≤ 2 ^ align = pow-le-pow_right {n = 2} (omega arith) le in
    let q : bits < 2 ^ align * 8 = omega arith in
    grind (arith, nat_tests)

pub pops_on : (fs new : List Frame) (xs : List ValType) (n : ℕ) (x : ValType) → slice_get xs (n - 1) ≡ Some x → 0 < n → pop fs x ≡ Some new → pops fs (reverse (take n xs)) ≡ pops new (reverse (take (n - 1) xs))
pops_on fs new xs n x e le p =
    let q : n - 1 + 1 ≡ n = omega arith in
    ap (λ k. pops fs (reverse (take k xs))) (sym q) ∙ ap (λ l. pops fs l) (reverse_more xs (n - 1) x e)
    ∙ ap (λ o. option_then o (λ gs. pops gs (reverse (take (n - 1) xs)))) p

pub pops_off : (fs : List Frame) (xs : List ValType) (n : ℕ) (x : ValType) → slice_get xs (n - 1) ≡ Some x → 0 < n → pop fs x ≡ None → pops fs (reverse (take n xs)) ≡ None
pops_off fs xs n x e le p =
    let q : n - 1 + 1 ≡ n = omega arith in
    ap (λ k. pops fs (reverse (take k xs))) (sym q) ∙ ap (λ l. pops fs l) (reverse_more xs (n - 1) x e)
    ∙ ap (λ o. option_then o (λ gs. pops gs (reverse (take (n - 1) xs)))) p

pub did_err : (e : StackFault) (o p : Option (List Frame)) (new new' : List Frame) → (o ≡ None → p ≡ None) → Did {A = Unit {0}} (Err e) o new → Did {A = Unit {0}} (Err e) p new'
did_err Wrong o p new new' f h = f h
did_err NoMemory o p new new' f h = tt

-- ---- dead or live, and the height

pub frees_are : (ks : Known) (cs : List Control) → any_free (frames_of ks cs) ≡ free_control cs
frees_are ks [] = refl
frees_are ks (c ∷ cs) = ap (λ b. c.free || b) (frees_are (drop (length ks - c.height) ks) cs)

pub dead_is : (ks : Known) (cs : List Control) (c : Control) → slice_get cs 0 ≡ Some c → Heights (length ks) cs → any_free (frames_of ks cs) ≡ (c.free || c.within)
dead_is ks [] c e h = absurd (cc)
dead_is ks (d ∷ cs) c e h =
    let q : d ≡ c = cc in
    frees_are ks (d ∷ cs) ∙ ap (λ b. d.free || b) (sym h.1) ∙ ap (λ x. x.free || x.within) q

pub dead_none : (ks : Known) (cs : List Control) → slice_get cs 0 ≡ None → any_free (frames_of ks cs) ≡ false
dead_none ks [] e = refl
dead_none ks (d ∷ cs) e = absurd (cc)

pub opened_within : (ks : Known) (cs : List Control) (b : Bool) → b ≡ any_free (frames_of ks cs) → b ≡ free_control cs
opened_within ks cs b e = e ∙ frees_are ks cs

pub heights_len : (ks : Known) (cs : List Control) → Heights (length ks) cs → length (operands (frames_of ks cs)) ≡ length ks
heights_len ks [] h = sym h
heights_len ks (c ∷ cs) h =
    let n = length ks - c.height in
    let d : length (drop n ks) ≡ c.height = forgot_len ks c.height h.0 in
    let r = heights_len (drop n ks) cs (subst (λ k. Heights k cs) (sym d) h.2) in
    length-append (take n ks) (operands (frames_of (drop n ks) cs)) ∙ ap (λ k. length (take n ks) + k) r ∙ sym (length-append (take n ks) (drop n ks)) ∙ ap (λ l. length l) (take-append-drop n ks)

pub height_is : (ks : Known) (cs : List Control) → Heights (length ks) cs → any_free (frames_of ks cs) ≡ false → Some (length ks) ≡ height_of (frames_of ks cs)
height_is ks cs h e = rw (e, heights_len ks cs h) refl

pub height_dead : (ks : Known) (cs : List Control) → any_free (frames_of ks cs) ≡ true → None ≡ height_of (frames_of ks cs)
height_dead ks cs e = rw e refl

pub dead_top : (ks : Known) (cs : List Control) (c : Control) → slice_get cs 0 ≡ Some c → Heights (length ks) cs → c.free ≡ true → true ≡ any_free (frames_of ks cs)
dead_top ks cs c e h f = rw (dead_is ks cs c e h, f) refl

pub dead_within : (ks : Known) (cs : List Control) (c : Control) → slice_get cs 0 ≡ Some c → Heights (length ks) cs → c.free ≡ false → c.within ≡ any_free (frames_of ks cs)
dead_within ks cs c e h f = rw (dead_is ks cs c e h, f) refl

pub opened_heights : (ks : Known) (cs new : List Control) (c : Control) → new ≡ c ∷ cs → c.height ≡ length ks → c.within ≡ any_free (frames_of ks cs) → Heights (length ks) cs → Heights (length ks) new
opened_heights ks cs new c e n w h = subst (λ x. Heights (length ks) x) (sym e) (omega arith, w ∙ frees_are ks cs, subst (λ k. Heights k cs) (sym n) h)

-- ---- whether the innermost frame gives any types

pub gives_top : (ks : Known) (cs : List Control) (c : Control) → slice_get cs 0 ≡ Some c → c.free ≡ true → length ks ≡ c.height → true ≡ gives_any (frames_of ks cs)
gives_top ks [] c e f n = absurd (cc)
gives_top ks (d ∷ cs) c e f n =
    let q : d ≡ c = cc in
    let m : length ks ≡ d.height = n ∙ ap (λ x. x.height) (sym q) in
    let g : d.free ≡ true = ap (λ x. x.free) q ∙ f in
    subst (λ x. true ≡ gives_any x) (sym (opened_is ks d cs m)) (rw g refl)

pub gives_not_free : (ks : Known) (cs : List Control) (c : Control) → slice_get cs 0 ≡ Some c → c.free ≡ false → false ≡ gives_any (frames_of ks cs)
gives_not_free ks [] c e f = absurd (cc)
gives_not_free ks (d ∷ cs) c e f = let q : d ≡ c = cc in let g : d.free ≡ false = ap (λ x. x.free) q ∙ f in rw g refl

and_not : (b : Bool) → false ≡ (b && false)
and_not true = refl
and_not false = refl

pub gives_not_empty : (ks : Known) (cs : List Control) (c : Control) → slice_get cs 0 ≡ Some c → (length ks ≡ c.height → ⊥) → Heights (length ks) cs → false ≡ gives_any (frames_of ks cs)
gives_not_empty ks [] c e ne h = absurd (cc)
gives_not_empty ks (d ∷ cs) c e ne h =
    let q : d ≡ c = cc in
    let hh : d.height ≡ c.height = ap (λ x. x.height) q in
    let t = take_some ks (length ks - d.height) (omega (arith, h.0, ne)) (omega arith) in
    subst (λ x. false ≡ gives_any (frame_of d x ∷ frames_of (drop (length ks - d.height) ks) cs)) (sym t.2) (and_not d.free)

pub gives_free : (ks : Known) (cs : List Control) (c : Control) → slice_get cs 0 ≡ Some c → c.free ≡ true → Heights (length ks) cs → nat_eq (length ks) c.height ≡ gives_any (frames_of ks cs)
gives_free ks cs c e f h = by_test (nat_eq (length ks) c.height) refl
  where
    by_test : (b : Bool) → nat_eq (length ks) c.height ≡ b → b ≡ gives_any (frames_of ks cs)
    by_test true q = gives_top ks cs c e f (grind (arith, nat_tests, q))
    by_test false q = gives_not_empty ks cs c e (λ n. grind (arith, nat_tests, q, n)) h

pub gives_none : (ks : Known) (cs : List Control) → slice_get cs 0 ≡ None → false ≡ gives_any (frames_of ks cs)
gives_none ks [] e = refl
gives_none ks (d ∷ cs) e = absurd (cc)

-- ---- the operands are the types

pub operands_are : (ks : Known) (cs : List Control) → Heights (length ks) cs → operands (frames_of ks cs) ≡ ks
operands_are [] [] h = refl
operands_are (k ∷ ks) [] h = absurd (omega (arith, h))
operands_are ks (c ∷ cs) h =
    let n = length ks - c.height in
    let d : length (drop n ks) ≡ c.height = forgot_len ks c.height h.0 in
    ap (λ l. take n ks ++ l) (operands_are (drop n ks) cs (subst (λ k. Heights k cs) (sym d) h.2)) ∙ take-append-drop n ks

-- where the innermost frame gives any types, they can be taken from it
pub pops_any : (fs : List Frame) (ts : List ValType) → gives_any fs ≡ true → pops fs ts ≡ Some fs
pops_any [] ts e = absurd (cc)
pops_any (f ∷ fs) [] e = refl
pops_any (f ∷ fs) (t ∷ ts) e = ap (λ o. option_then o (λ gs. pops gs ts)) (pop_free f.known f.free refl refl e) ∙ pops_any (f ∷ fs) ts e
  where
    pop_free : (ks : Known) (b : Bool) → f.known ≡ ks → f.free ≡ b → (b && is_empty ks) ≡ true → pop (f ∷ fs) t ≡ Some (f ∷ fs)
    pop_free ks false k r e = absurd (cc)
    pop_free [] true k r e = rw (r, k) refl
    pop_free (x ∷ xs) true k r e = absurd (cc)

pub pops_rest : (fs : List Frame) (ts us : List ValType) → gives_any fs ≡ true → pops fs ts ≡ pops fs us
pops_rest fs ts us e = pops_any fs ts e ∙ sym (pops_any fs us e)

-- ---- the topmost type

pub top_is : (ks : Known) (cs : List Control) (t : Option ValType) → Heights (length ks) cs → slice_get ks 0 ≡ Some t → t ≡ topmost (operands (frames_of ks cs))
top_is [] cs t h e = absurd (cc)
top_is (k ∷ ks) cs t h e = let q : k ≡ t = cc in sym q ∙ ap topmost (sym (operands_are (k ∷ ks) cs h))

pub top_none : (ks : Known) (cs : List Control) → Heights (length ks) cs → slice_get ks 0 ≡ None → None ≡ topmost (operands (frames_of ks cs))
top_none [] cs h e = ap topmost (sym (operands_are [] cs h))
top_none (k ∷ ks) cs h e = absurd (cc)
