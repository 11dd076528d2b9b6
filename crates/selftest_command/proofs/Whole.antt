-- The module of a self-test is a module, and valid.
use Rattle.std.proofs.Common.{◌≡◌, ℕ, zero, suc, ◌+◌, ◌-◌, ◌<◌, ◌≤◌, nat_lt, List, [], ◌∷◌, length, map, replicate, if◌then◌else◌, Some, None, refl, sym, ap, subst, ◌∙◌, arith}
use Rattle.std.specs.Prelude.{IfSome, codes}
use Rattle.std.specs.Str.{IsUtf8}
use Rattle.std.specs.List.{range_with_len, AllByRecursion}
use Rattle.std.proofs.lemmas.Bool.{le-ltb}
use Rattle.std.proofs.lemmas.List.{length-map, length-replicate}
use Rattle.wasm_syntax.specs.declared.place.Place.TheVariants.{TypeAt, ImportAt, Declaration, TableAt, MemoryAt, GlobalAt, ExportAt, Start, ElementAt, DataAt, Function}
use Rattle.wasm_syntax.specs.Module.{AllWrite, InOrder, IsModule, type_at}
use Rattle.wasm_syntax.specs.Valid.{Valid, There, BodyFine}
use Rattle.selftest_command.specs.Selftest.{body_of, function_code, bodies, selftest}
use Rattle.selftest_command.proofs.Functions.{two_to_one, type_there, tree_at, writes_at, body_typed, body_in_order}

-- ---- a module

pub all_write : (n : ℕ) (is : List ℕ) → AllWrite (map (λ i. body_of (function_code n i)) is) (map (tree_at n) is)
all_write n [] = tt
all_write n (i ∷ is) = (writes_at n i, all_write n is)

all_in_order : (n : ℕ) (is : List ℕ) → AllByRecursion InOrder (map (λ i. body_of (function_code n i)) is)
all_in_order n [] = tt
all_in_order n (i ∷ is) = (body_in_order n i, all_in_order n is)

length_range : (a n : ℕ) → length (range_with_len a n) ≡ n
length_range a zero = refl
length_range a (suc n) = ap suc (length_range (a + 1) n)

pub length_bodies : (n : ℕ) → length (bodies n n) ≡ n
length_bodies n = length-map (range_with_len 0 n) (λ i. body_of (function_code n i)) ∙ length_range 0 n

utf8_main : IsUtf8 (codes "main")
unfolding lib.Utf8.encode
utf8_main = (codes "main", (refl, refl))

pub is_module : (n : ℕ) → IsModule (selftest n)
unfolding selftest
is_module n = record {
  trees = map (tree_at n) (range_with_len 0 n);
  write = all_write n (range_with_len 0 n);
  in_order = all_in_order n (range_with_len 0 n);
  as_many = length_bodies n ∙ sym (length-replicate {A = ℕ} n 0);
  globals = tt;
  elements = tt;
  segments = tt;
  import_modules = tt;
  import_names = tt;
  export_names = (utf8_main, tt);
  custom_names = tt;
}

-- ---- valid

there_replicate : (n f : ℕ) (P : ℕ → Type 0) → P 0 → There (replicate n 0) f P
there_replicate zero f P h = tt
there_replicate (suc n) zero P h = h
there_replicate (suc n) (suc f) P h = there_replicate n f P h

if_defined : (f : ℕ) (P : ℕ → Type 0) → P f → IfSome (if nat_lt f 0 then None else Some (f - 0)) P
if_defined f P h = let e : f - 0 ≡ f = omega arith in rw (le-ltb f 0 (omega arith)) (subst P (sym e) h)

all_bodies : (n : ℕ) (is : List ℕ) (f : ℕ) → type_at (selftest n) f ≡ Some two_to_one → AllByRecursion (BodyFine (selftest n) f) (map (λ i. body_of (function_code n i)) is)
all_bodies n [] f e = tt
all_bodies n (i ∷ is) f e = ((two_to_one, e, body_typed n i), all_bodies n is f e)

there_all : {A : Type 0} (P : A → Type 0) (xs : List A) (i : ℕ) → (i < length xs → AllByRecursion P xs) → There xs i P
there_all P [] i h = tt
there_all P (x ∷ xs) zero h = (h (omega arith)).0
there_all P (x ∷ xs) (suc i) h = there_all P xs i (λ lt. (h (omega (arith, lt))).1)

bodies_fine : (n f : ℕ) → There (bodies n n) f (BodyFine (selftest n) f)
bodies_fine n f = there_all (BodyFine (selftest n) f) (bodies n n) f (λ lt. all_bodies n (range_with_len 0 n) f (type_there n f (omega (arith, lt, length_bodies n))))

pub is_valid : (n : ℕ) → 1 ≤ n → Valid (selftest n)
unfolding selftest
is_valid n some (TypeAt zero) = omega arith
is_valid n some (TypeAt (suc i)) = tt
is_valid n some (ImportAt i) = tt
is_valid n some (Declaration f) = if_defined f (λ i. There (replicate n 0) i (λ t. t < 1)) (there_replicate n f (λ t. t < 1) (omega arith))
is_valid n some (TableAt i) = tt
is_valid n some (MemoryAt zero) = (refl, (omega arith, tt))
is_valid n some (MemoryAt (suc i)) = tt
is_valid n some (GlobalAt i) = tt
is_valid n some (ExportAt zero) = (omega (arith, some, length-replicate {A = ℕ} n 0), λ j f lt e. absurd (omega (arith, lt)))
is_valid n some (ExportAt (suc i)) = tt
is_valid n some Start = tt
is_valid n some (ElementAt i) = tt
is_valid n some (DataAt i) = tt
is_valid n some (Function f offset) = if_defined f (λ i. There (bodies n n) i (BodyFine (selftest n) f)) (bodies_fine n f)
