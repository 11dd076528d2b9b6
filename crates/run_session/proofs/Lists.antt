-- Lists of invocations that were made, with one more.
use Rattle.std.proofs.Common.{◌≡◌, ℕ, suc, ◌+◌, List, [], ◌∷◌, ◌++◌, length, refl, ap, ◌∙◌, arith, Option, Some, None}
use Rattle.std.proofs.lemmas.List.{append-nil}
use Rattle.std.specs.List.{flat_map}
use Rattle.std.proofs.lemmas.Grind.{flat_map-append}
use Rattle.wasm_syntax.specs.Run.{Ran}
use Rattle.dump_write.specs.ImageBytes.{bytes_of}
use Rattle.run_session.specs.Telling.{Telling, nothing, finish, trap, bare_trap, torn, Tells, told, torn_in}
use Rattle.run_session.specs.RunText.{dumps_from, traps_in, last_of, fitted, with_dump, with_trap, dump_name, up_to_torn, unless_torn}
use Rattle.pm_outside.specs.Held.{Writes}
use Rattle.run_session.specs.calls.Progress.{NoneTorn}
use Rattle.run_session.proofs.Tellings.{plus_none}

pub one_of : {A B : Type 0} (f : A → List B) (xs : List A) (x : A) → flat_map f (xs ++ x ∷ []) ≡ flat_map f xs ++ f x
one_of f xs x = flat_map-append f xs (x ∷ []) ∙ ap (λ l. flat_map f xs ++ l) (append-nil (f x))

pub zero_plus : (n : ℕ) → n ≡ 0 + n
zero_plus n = omega arith

one_more : (a b k : ℕ) → a ≡ b + k → suc a ≡ suc b + k
one_more a b k e = omega arith

next_place : (j n : ℕ) → suc j + n ≡ j + suc n
next_place j n = omega arith

-- ---- traps

trap_and_more : (t : Telling) (a b c : ℕ) → c ≡ a + b → with_trap t c ≡ with_trap t a + b
trap_and_more nothing a b c e = e
trap_and_more (finish v) a b c e = e
trap_and_more (trap kind place dump) a b c e = one_more c a b e
trap_and_more (bare_trap kind) a b c e = one_more c a b e
trap_and_more (torn at) a b c e = e

pub traps_behind : (tell : Tells) (rans rs : List Ran) → traps_in tell (rans ++ rs) ≡ traps_in tell rans + traps_in tell rs
traps_behind tell [] rs = zero_plus (traps_in tell rs)
traps_behind tell (q ∷ rans) rs = trap_and_more (told tell q) (traps_in tell rans) (traps_in tell rs) (traps_in tell (rans ++ rs)) (traps_behind tell rans rs)

pub traps_more : (tell : Tells) (rans : List Ran) (r : Ran) → traps_in tell (rans ++ r ∷ []) ≡ traps_in tell rans + traps_in tell (r ∷ [])
traps_more tell rans r = traps_behind tell rans (r ∷ [])

-- ---- dumps

-- the dumps of the later ones come behind its own
own_and_more : (base name : List ℕ) (j n : ℕ) (t : Telling) (all front back : ℕ → Writes) → ((k : ℕ) → all k ≡ front k ++ back (k + n)) → with_dump base name j t all ≡ with_dump base name j t front ++ back (j + with_trap t n)
own_and_more base name j n nothing all front back e = e j
own_and_more base name j n (finish v) all front back e = e j
own_and_more base name j n (trap kind place dump) all front back e = ap (λ l. (dump_name base j, bytes_of (dump name)) ∷ l) (e (suc j) ∙ ap (λ k. front (suc j) ++ back k) (next_place j n))
own_and_more base name j n (bare_trap kind) all front back e = e (suc j) ∙ ap (λ k. front (suc j) ++ back k) (next_place j n)
own_and_more base name j n (torn at) all front back e = e j

-- the dumps of more of them
pub dumps_behind : (tell : Tells) (base name : List ℕ) (j : ℕ) (rans rs : List Ran) → dumps_from tell base name j (rans ++ rs) ≡ dumps_from tell base name j rans ++ dumps_from tell base name (j + traps_in tell rans) rs
unfolding dumps_from
dumps_behind tell base name j [] rs = ap (λ n. dumps_from tell base name n rs) (plus_none j)
dumps_behind tell base name j (q ∷ rans) rs =
    own_and_more base name j (traps_in tell rans) (told tell q) (λ k. dumps_from tell base name k (rans ++ rs)) (λ k. dumps_from tell base name k rans) (λ k. dumps_from tell base name k rs)
    (λ k. dumps_behind tell base name k rans rs)

pub dumps_more : (tell : Tells) (base name : List ℕ) (j : ℕ) (rans : List Ran) (r : Ran) → dumps_from tell base name j (rans ++ r ∷ []) ≡ dumps_from tell base name j rans ++ dumps_from tell base name (j + traps_in tell rans) (r ∷ [])
dumps_more tell base name j rans r = dumps_behind tell base name j rans (r ∷ [])

same_later : (base name : List ℕ) (j : ℕ) (t : Telling) (a b : ℕ → Writes) → ((k : ℕ) → a k ≡ b k) → with_dump base name j t a ≡ with_dump base name j t b
same_later base name j nothing a b e = e j
same_later base name j (finish v) a b e = e j
same_later base name j (trap kind place dump) a b e = ap (λ l. (dump_name base j, bytes_of (dump name)) ∷ l) (e (suc j))
same_later base name j (bare_trap kind) a b e = e (suc j)
same_later base name j (torn at) a b e = e j

-- those that have no dumps add none
pub dumps_only : (tell : Tells) (base name : List ℕ) (j : ℕ) (r : Ran) (rs : List Ran) → ((k : ℕ) → dumps_from tell base name k rs ≡ []) → dumps_from tell base name j (r ∷ rs) ≡ dumps_from tell base name j (r ∷ [])
unfolding dumps_from
dumps_only tell base name j r rs none = same_later base name j (told tell r) (λ k. dumps_from tell base name k rs) (λ k. []) none

-- ---- torn calls

-- one that is the last of all
pub only_one : (tell : Tells) (r : Ran) → up_to_torn tell (r ∷ []) ≡ r ∷ []
only_one tell r = by_calls (torn_in (told tell r))
  where
    by_calls : (t : Option ℕ) → r ∷ unless_torn t [] ≡ r ∷ []
    by_calls None = refl
    by_calls (Some at) = refl

-- behind torn calls there is none
pub none_behind : (tell : Tells) (r : Ran) (at : ℕ) (rs : List Ran) → torn_in (told tell r) ≡ Some at → up_to_torn tell (r ∷ rs) ≡ r ∷ []
none_behind tell r at rs is = ap (λ t. r ∷ unless_torn t (up_to_torn tell rs)) is

-- where the calls of none are torn
pub none_torn_first : (tell : Tells) (rans rs : List Ran) → NoneTorn tell rans → up_to_torn tell (rans ++ rs) ≡ rans ++ up_to_torn tell rs
none_torn_first tell [] rs none = refl
none_torn_first tell (q ∷ rans) rs (first, none) = ap (λ t. q ∷ unless_torn t (up_to_torn tell (rans ++ rs))) first ∙ ap (λ l. q ∷ l) (none_torn_first tell rans rs none)

pub none_torn_more : (tell : Tells) (rans : List Ran) (r : Ran) → NoneTorn tell rans → torn_in (told tell r) ≡ None → NoneTorn tell (rans ++ r ∷ [])
none_torn_more tell [] r none last = (last, tt)
none_torn_more tell (q ∷ rans) r (first, none) last = (first, none_torn_more tell rans r none last)

-- ---- the last one

pub last_behind : (rans rs : List Ran) (r : Ran) → last_of rs ≡ Some r → last_of (rans ++ rs) ≡ Some r
last_behind [] rs r is = is
last_behind (q ∷ rans) rs r is = at_front q (rans ++ rs) r (last_behind rans rs r is)
  where
    at_front : (q : Ran) (rest : List Ran) (r : Ran) → last_of rest ≡ Some r → last_of (q ∷ rest) ≡ Some r
    at_front q [] r is = absurd cc
    at_front q (x ∷ rest) r is = is

pub last_more : (rans : List Ran) (r : Ran) → last_of (rans ++ r ∷ []) ≡ Some r
last_more [] r = refl
last_more (q ∷ []) r = refl
last_more (q ∷ p ∷ rans) r = last_more (p ∷ rans) r

pub fitted_more : (rans : List Ran) (r : Ran) → fitted (rans ++ r ∷ []) ≡ fitted rans + length r.served
fitted_more [] r = swap (length r.served)
  where
    swap : (n : ℕ) → n + 0 ≡ 0 + n
    swap n = omega arith
fitted_more (q ∷ rans) r = ap (λ n. length q.served + n) (fitted_more rans r) ∙ sums (length q.served) (fitted rans) (length r.served)
  where
    sums : (a b c : ℕ) → a + (b + c) ≡ (a + b) + c
    sums a b c = omega arith
