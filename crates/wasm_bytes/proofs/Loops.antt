-- What is left to read, at each turn of the loops over items and steps.
use Rattle.std.proofs.Common.{◌≡◌, ℕ, zero, suc, ◌+◌, ◌-◌, ◌≤◌, ◌<◌, Bool, true, false, List, [], ◌∷◌, ◌++◌, length, get_or, drop, Ok, Err, refl, sym, ap, ◌∙◌, append_assoc, add-one, drop-cons, arith}
use Rattle.std.proofs.lemmas.List.{append-nil, drop_all}
use Rattle.std.proofs.lemmas.Bool.{lt-ltb, le-ltb}
use Rattle.wasm_bytes.specs.declared.faults.ItemFault.{ItemFault}
use Rattle.wasm_bytes.specs.declared.faults.ItemFault.TheVariants as faults
use Rattle.wasm_bytes.specs.Place.{Place, Read}
use Rattle.wasm_bytes.specs.Reading.{◌>>=◌, fixed_item, bytes_item, items_from, until_end, steps_from, steps_until_end, steps_while_due}
use Rattle.wasm_bytes.specs.calls.Answers.{Fails}

abbrev pub failed : {A : Type 0} → ℕ → Read A
failed at = Err at

abbrev pub got : {A : Type 0} → A → Place → Read A
got x q = Ok (x, q)

-- these in front of those that are still to be read
abbrev pub in_front : {A : Type 0} → List A → List A × Place → Read (List A)
in_front front x = got (front ++ x.0) x.1

-- this one in front of those behind it
abbrev pub first : {A : Type 0} → A → List A × Place → Read (List A)
first x others = got (x ∷ others.0) others.1

-- A whole reading fails where what is left of it fails.
pub left_fails : {A B : Type 0} (whole : Read A) (left : Read B) (f : B × Place → Read A) (e : ItemFault) → whole ≡ (left >>= f) → Fails e left → Fails e whole
left_fails whole left f faults.NoMemory so_far h = tt
left_fails whole left f (faults.At at) so_far h = so_far ∙ rw h refl

-- ---- lists of items

pub one_more : {A : Type 0} (whole left : Read (List A)) (front : List A) (x : A) → whole ≡ ((left >>= first x) >>= in_front front) → whole ≡ (left >>= in_front (front ++ x ∷ []))
one_more whole (Ok y) front x so_far = so_far ∙ ap (λ (xs : List _). got xs y.1) (sym (append_assoc front (x ∷ []) y.0))
one_more whole (Err at) front x so_far = so_far

pub no_more : {A : Type 0} (whole : Read (List A)) (front : List A) (p : Place) → whole ≡ (got [] p >>= in_front front) → whole ≡ got front p
no_more whole front p so_far = so_far ∙ ap (λ (xs : List _). got xs p) (append-nil front)

-- so many
pub count_on : {A : Type 0} (f : Place → Read A) (count i : ℕ) (p q : Place) (x : A) → i < count → f p ≡ got x q → items_from f (count - i) p ≡ (items_from f (count - (i + 1)) q >>= first x)
unfolding items_from
count_on f count i p q x lt h = let k : count - i ≡ suc (count - (i + 1)) = omega arith in rw (k, h) refl

pub count_fails : {A : Type 0} (f : Place → Read A) (count i : ℕ) (p : Place) (e : ItemFault) → i < count → Fails e (f p) → Fails e (items_from f (count - i) p)
unfolding items_from
count_fails f count i p faults.NoMemory lt h = tt
count_fails f count i p (faults.At at) lt h = let k : count - i ≡ suc (count - (i + 1)) = omega arith in rw (k, h) refl

pub count_done : {A : Type 0} (f : Place → Read A) (count i : ℕ) (p : Place) → count ≤ i → items_from f (count - i) p ≡ got [] p
unfolding items_from
count_done f count i p le = let k : count - i ≡ 0 = omega arith in rw k refl

-- up to the end of the block
pub end_on : {A : Type 0} (f : Place → Read A) (n : ℕ) (p q : Place) (x : A) → p.at < length p.block → f p ≡ got x q → until_end f (suc n) p ≡ (until_end f n q >>= first x)
unfolding until_end
end_on f n p q x lt h = let more = lt-ltb p.at (length p.block) lt in rw (more, h) refl

pub end_fails : {A : Type 0} (f : Place → Read A) (n : ℕ) (p : Place) (e : ItemFault) → p.at < length p.block → Fails e (f p) → Fails e (until_end f (suc n) p)
unfolding until_end
end_fails f n p faults.NoMemory lt h = tt
end_fails f n p (faults.At at) lt h = let more = lt-ltb p.at (length p.block) lt in rw (more, h) refl

pub end_done : {A : Type 0} (f : Place → Read A) (n : ℕ) (p : Place) → length p.block ≤ p.at → until_end f n p ≡ got [] p
unfolding until_end
end_done f zero p le = let none = le-ltb p.at (length p.block) le in rw none refl
end_done f (suc n) p le = let none = le-ltb p.at (length p.block) le in rw none refl

-- ---- steps

pub step_on : {S : Type 0} (f : S → Place → Read S) (count i : ℕ) (s t : S) (p q : Place) → i < count → f s p ≡ got t q → steps_from f (count - i) s p ≡ steps_from f (count - (i + 1)) t q
unfolding steps_from
step_on f count i s t p q lt h = let k : count - i ≡ suc (count - (i + 1)) = omega arith in rw (k, h) refl

pub step_fails : {S : Type 0} (f : S → Place → Read S) (count i : ℕ) (s : S) (p : Place) (e : ItemFault) → i < count → Fails e (f s p) → Fails e (steps_from f (count - i) s p)
unfolding steps_from
step_fails f count i s p faults.NoMemory lt h = tt
step_fails f count i s p (faults.At at) lt h = let k : count - i ≡ suc (count - (i + 1)) = omega arith in rw (k, h) refl

pub steps_done : {S : Type 0} (f : S → Place → Read S) (count i : ℕ) (s : S) (p : Place) → count ≤ i → steps_from f (count - i) s p ≡ got s p
unfolding steps_from
steps_done f count i s p le = let k : count - i ≡ 0 = omega arith in rw k refl

pub end_step_on : {S : Type 0} (f : S → Place → Read S) (n : ℕ) (s t : S) (p q : Place) → p.at < length p.block → f s p ≡ got t q → steps_until_end f (suc n) s p ≡ steps_until_end f n t q
unfolding steps_until_end
end_step_on f n s t p q lt h = let more = lt-ltb p.at (length p.block) lt in rw (more, h) refl

pub end_step_fails : {S : Type 0} (f : S → Place → Read S) (n : ℕ) (s : S) (p : Place) (e : ItemFault) → p.at < length p.block → Fails e (f s p) → Fails e (steps_until_end f (suc n) s p)
unfolding steps_until_end
end_step_fails f n s p faults.NoMemory lt h = tt
end_step_fails f n s p (faults.At at) lt h = let more = lt-ltb p.at (length p.block) lt in rw (more, h) refl

pub end_steps_done : {S : Type 0} (f : S → Place → Read S) (n : ℕ) (s : S) (p : Place) → length p.block ≤ p.at → steps_until_end f n s p ≡ got s p
unfolding steps_until_end
end_steps_done f zero s p le = let none = le-ltb p.at (length p.block) le in rw none refl
end_steps_done f (suc n) s p le = let none = le-ltb p.at (length p.block) le in rw none refl

pub due_on : {S : Type 0} (done : S → Bool) (f : S → Place → Read S) (n : ℕ) (s t : S) (p q : Place) → done s ≡ false → f s p ≡ got t q → steps_while_due done f (suc n) s p ≡ steps_while_due done f n t q
unfolding steps_while_due
due_on done f n s t p q due h = rw (due, h) refl

pub due_fails : {S : Type 0} (done : S → Bool) (f : S → Place → Read S) (n : ℕ) (s : S) (p : Place) (e : ItemFault) → done s ≡ false → Fails e (f s p) → Fails e (steps_while_due done f (suc n) s p)
unfolding steps_while_due
due_fails done f n s p faults.NoMemory due h = tt
due_fails done f n s p (faults.At at) due h = rw (due, h) refl

pub none_due : {S : Type 0} (done : S → Bool) (f : S → Place → Read S) (n : ℕ) (s : S) (p : Place) → done s ≡ true → steps_while_due done f n s p ≡ got s p
unfolding steps_while_due
none_due done f zero s p all = rw all refl
none_due done f (suc n) s p all = rw all refl

-- ---- bytes that have to be these

pub bytes_on : (bytes : List ℕ) (i : ℕ) (p q : Place) → i < length bytes → fixed_item (get_or bytes i 0) p ≡ got tt q → bytes_item (drop i bytes) p ≡ bytes_item (drop (i + 1) bytes) q
unfolding bytes_item
bytes_on bytes i p q lt h = rw (drop-cons bytes i 0, add-one i, h) refl

pub bytes_fail : (bytes : List ℕ) (i at : ℕ) (p : Place) → i < length bytes → fixed_item (get_or bytes i 0) p ≡ failed at → bytes_item (drop i bytes) p ≡ failed at
unfolding bytes_item
bytes_fail bytes i at p lt h = rw (drop-cons bytes i 0, h) refl

pub bytes_done : (bytes : List ℕ) (i : ℕ) (p : Place) → length bytes ≤ i → bytes_item (drop i bytes) p ≡ got tt p
unfolding bytes_item
bytes_done bytes i p le = rw (drop_all i bytes le) refl
