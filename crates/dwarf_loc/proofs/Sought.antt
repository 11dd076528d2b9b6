-- What a list says of an address, at each turn of the loop over its entries.
use Rattle.std.proofs.Common.{◌≡◌, ℕ, suc, ◌+◌, Bool, true, false, List, ◌∷◌, Option, Some, None, Ok, Err, refl, ap}
use Rattle.std.specs.Prelude.{find, if◌then◌else◌}
use Rattle.wasm_bytes.specs.Place.{Place, Read}
use Rattle.wasm_bytes.specs.Reading.{◌>>=◌, mapped}
use Rattle.wasm_bytes.specs.Laws.{got, failed}
use Rattle.dwarf_bytes.specs.Items.{ended_from}
use Rattle.dwarf_loc.specs.declared.entry.ListEntry.{ListEntry}
use Rattle.dwarf_loc.specs.declared.entry.ListEntry.TheVariants.{Base, FromBase, Between, Lasting, Otherwise}
use Rattle.dwarf_loc.specs.declared.search.Search.{Search}
use Rattle.dwarf_loc.specs.Lists.{held, held_by, holds, defaults, first_or}
use Rattle.dwarf_loc.specs.calls.Said.{first_of}
use Rattle.dwarf_loc.specs.inner.Search.{sought, taken}

-- ---- one entry

first_hit : {A : Type 0} (first : Option A) (x : A) (later : Option A) → first_of first (Some x) ≡ first_of (first_of first (Some x)) later
first_hit None x later = refl
first_hit (Some y) x later = refl

first_none : {A : Type 0} (first : Option A) → first_of first None ≡ first
first_none None = refl
first_none (Some x) = refl

by_test : {A : Type 0} (s : Search A) (begin end : ℕ) (what : A) (rest : List (ListEntry A)) (t : Bool)
    → first_of s.held (first_or (first_of s.default (defaults rest)) (if t then Some (held begin end what) else find (holds s.address) (held_by s.base rest)))
    ≡ sought (if t then record s { held = first_of s.held (Some what) } else s) rest
by_test s begin end what rest true = first_hit s.held what (first_or (first_of s.default (defaults rest)) (find (holds s.address) (held_by s.base rest)))
by_test s begin end what rest false = refl

sought_taken : {A : Type 0} (s : Search A) (e : ListEntry A) (rest : List (ListEntry A)) → sought s (e ∷ rest) ≡ sought (taken s e) rest
sought_taken s (Base address) rest = refl
sought_taken s (FromBase begin end what) rest =
    by_test s (s.base + begin) (s.base + end) what rest (holds s.address (held (s.base + begin) (s.base + end) what))
sought_taken s (Between begin end what) rest = by_test s begin end what rest (holds s.address (held begin end what))
sought_taken s (Lasting begin length what) rest =
    by_test s begin (begin + length) what rest (holds s.address (held begin (begin + length) what))
sought_taken s (Otherwise what) rest =
    ap (λ (d : Option _). first_of s.held (first_or d (find (holds s.address) (held_by s.base rest)))) (first_hit s.default what (defaults rest))

-- ---- reading

one_in_front : {A : Type 0} (s : Search A) (e : ListEntry A) (r : Read (List (ListEntry A)))
    → ((r >>= λ xs. got (e ∷ xs.0) xs.1) >>= λ x. got (sought s x.0) x.1) ≡ (r >>= λ x. got (sought (taken s e) x.0) x.1)
one_in_front s e (Ok x) = ap (λ (v : Option _). got v x.1) (sought_taken s e x.0)
one_in_front s e (Err at) = refl

pub sought_on : {A : Type 0} (f : Place → Read (Option (ListEntry A))) (n : ℕ) (s : Search A) (p q : Place) (e : ListEntry A) → f p ≡ got (Some e) q
    → mapped (sought s) (ended_from f (suc n)) p ≡ mapped (sought (taken s e)) (ended_from f n) q
unfolding ended_from
sought_on f n s p q e h = rw h (one_in_front s e (ended_from f n q))

pub sought_fails : {A : Type 0} (f : Place → Read (Option (ListEntry A))) (n : ℕ) (s : Search A) (p : Place) (o : ℕ) → f p ≡ failed o
    → mapped (sought s) (ended_from f (suc n)) p ≡ failed o
unfolding ended_from
sought_fails f n s p o h = rw h refl

pub sought_done : {A : Type 0} (f : Place → Read (Option (ListEntry A))) (n : ℕ) (s : Search A) (p q : Place) → f p ≡ got None q
    → mapped (sought s) (ended_from f (suc n)) p ≡ got (first_of s.held s.default) q
unfolding ended_from
sought_done f n s p q h = rw h (ap (λ (d : Option _). got (first_of s.held d) q) (first_none s.default))
