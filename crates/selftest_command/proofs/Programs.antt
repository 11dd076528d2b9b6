-- The functions of the module of a self-test.
use Rattle.std.proofs.Common.{◌≡◌, ℕ, zero, suc, ◌+◌, ◌-◌, ◌*◌, ◌/◌, ◌%◌, ◌<◌, Bool, true, false, nat_lt, List, [], ◌∷◌, ◌++◌, map, slice_get, if◌then◌else◌, Some, option_map, refl, ap, ◌∙◌, arith}
use Rattle.std.specs.List.{flat_map, range_with_len}
use Rattle.std.proofs.lemmas.Bool.{le-ltb}
use Rattle.int_ops.specs.declared.operators.Binary.TheVariants as ops
use Rattle.wasm_syntax.specs.declared.value.ValType.TheVariants.{I32}
use Rattle.wasm_syntax.specs.declared.instruction.Basic.TheVariants as basics
use Rattle.wasm_syntax.specs.declared.instruction.Jump.TheVariants as jumps
use Rattle.wasm_syntax.specs.declared.instruction.Instr.{Instr}
use Rattle.wasm_syntax.specs.declared.instruction.Instr.TheVariants as instr
use Rattle.wasm_syntax.specs.Module.{Program, defined, function_at, imported_at, defined_at, option_then}
use Rattle.wasm_laws.proofs.Lists.{get_map}
use Rattle.selftest_command.specs.Selftest.{number, constant, local_get, add, mix, mixed, beginning, mixing, ending, function_code, body_of, bodies, selftest}
use Rattle.selftest_command.proofs.Lines.{line}
use Rattle.selftest_command.proofs.Functions.{tree_at, get_replicate}
use Rattle.selftest_command.proofs.Straight.{Follows}
use Rattle.selftest_command.proofs.RunsOn.{two_to_one, HasCode}
use Rattle.pm_text.proofs.Lists.{get_range}

-- ---- straight code

-- basic instructions and calls
abbrev pub Straight : List Instr → Type 0
Straight [] = Unit {0}
Straight (instr.Basic i ∷ is) = Straight is
Straight (instr.Jump (jumps.Call f) ∷ is) = Straight is
Straight (i ∷ is) = ⊥

follows_line : (at : ℕ) (is : List Instr) → Straight is → Follows is (line at is)
follows_line at [] s = refl
follows_line at (instr.Basic i ∷ is) s = (at, line (suc at) is, refl, follows_line (suc at) is s)
follows_line at (instr.Jump (jumps.Call f) ∷ is) s = (at, line (suc at) is, refl, follows_line (suc at) is s)
follows_line at (i ∷ is) s = absurd s

straight_append : (xs ys : List Instr) → Straight xs → Straight ys → Straight (xs ++ ys)
straight_append [] ys a b = b
straight_append (instr.Basic i ∷ xs) ys a b = straight_append xs ys a b
straight_append (instr.Jump (jumps.Call f) ∷ xs) ys a b = straight_append xs ys a b
straight_append (i ∷ xs) ys a b = absurd a

straight_flat : {A : Type 0} (f : A → List Instr) (xs : List A) → ((x : A) → Straight (f x)) → Straight (flat_map f xs)
straight_flat f [] h = tt
straight_flat f (x ∷ xs) h = straight_append (f x) (flat_map f xs) (h x) (straight_flat f xs h)

straight_mix : (k : ℕ) → Straight (mix k ∷ [])
straight_mix zero = tt
straight_mix (suc zero) = tt
straight_mix (suc (suc zero)) = tt
straight_mix (suc (suc (suc k))) = tt

straight_ending : (n i : ℕ) → Straight (ending n i)
straight_ending n i = by_test (nat_lt (i + 1) n)
  where
    by_test : (q : Bool) → Straight (if q then local_get 1 ∷ instr.Jump (jumps.Call (i + 1)) ∷ add ∷ [] else constant 0 ∷ instr.Basic (basics.Binary I32 ops.DivU) ∷ add ∷ [])
    by_test true = tt
    by_test false = tt

-- all but the last `end`
abbrev pub front : ℕ → ℕ → List Instr
front n i = beginning i ++ mixing n (16 * i + 1) ++ ending n i

pub straight_front : (n i : ℕ) → Straight (front n i)
straight_front n i =
    straight_append (beginning i ++ mixing n (16 * i + 1)) (ending n i)
    (straight_append (beginning i) (mixing n (16 * i + 1)) tt (straight_flat (λ k. mixed (number n k)) (range_with_len (16 * i + 1) 16) (λ k. straight_mix (number n k / 65536 % 4))))
    (straight_ending n i)

-- ---- the program

abbrev pub program : ℕ → Program
program n = record { module_ = selftest n; trees = map (tree_at n) (range_with_len 0 n) }

pub get_each : {A : Type 0} (f : ℕ → A) (n i : ℕ) → i < n → slice_get (map f (range_with_len 0 n)) i ≡ Some (f i)
get_each f n i lt = let e : 0 + i ≡ i = omega arith in get_map f (range_with_len 0 n) i ∙ ap (option_map f) (get_range 0 n i lt ∙ ap Some e)

function_is : (n i : ℕ) → i < n → function_at (program n) i ≡ Some (defined (body_of (function_code n i)) (tree_at n i) two_to_one)
unfolding selftest
function_is n i lt =
    let back : i - 0 ≡ i = omega arith in
    let made = λ (t : ℕ). option_then (slice_get (two_to_one ∷ []) t) (λ type. option_then (slice_get (bodies n n) i) (λ body. option_map (λ tree. defined body tree type) (slice_get (map (tree_at n) (range_with_len 0 n)) i))) in
    ap (λ q. if q then imported_at (selftest n) i else defined_at (program n) (i - 0)) (le-ltb i 0 (omega arith))
    ∙ ap (defined_at (program n)) back
    ∙ ap (λ o. option_then o made) (get_replicate n i lt)
    ∙ ap (λ o. option_then o (λ body. option_map (λ tree. defined body tree two_to_one) (slice_get (map (tree_at n) (range_with_len 0 n)) i))) (get_each (λ k. body_of (function_code n k)) n i lt)
    ∙ ap (option_map (λ tree. defined (body_of (function_code n i)) tree two_to_one)) (get_each (tree_at n) n i lt)

pub has_code : (n i : ℕ) → i < n → HasCode (program n) i (front n i)
has_code n i lt = record {
  body = body_of (function_code n i);
  tree = tree_at n i;
  is = function_is n i lt;
  no_locals = refl;
  follows = follows_line 0 (front n i) (straight_front n i);
}
