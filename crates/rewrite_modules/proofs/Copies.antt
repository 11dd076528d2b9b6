-- A program does not simulate itself where it traps: the relation tells a copy from a rewriting.
use Rattle.std.specs.Prelude.{◌≡◌, ◌≢◌, ℕ, ◌-◌, ◌≤◌, List, [], ◌∷◌, slice_get, Option, Some, None, false, true, refl}
use Rattle.std.proofs.Common.{arith, sym, ap, ◌∙◌}
use Rattle.int_ops.specs.Integers.{binary, compare, div_s, rem_s}
use Rattle.wasm_syntax.specs.Machine.{Config}
use Rattle.wasm_syntax.specs.Run.{Outcome, trapped, running, Ran, Invocation, run}
use Rattle.wasm_laws.specs.calls.Runs.{with_more}
use Rattle.wasm_laws.proofs.Longer.{longer_run}
use Rattle.rewrite_modules.specs.Simulates.{EndsAlike, AllAlike, NoneDeep, Simulates}
use Rattle.rewrite_modules.specs.calls.Example.{divider, divides}

abbrev by_zero : List Invocation
by_zero = divides 7 0 ∷ []

abbrev original : List Ran
original = run divider false by_zero [] 1 100

abbrev head_outcome : List Ran → Outcome
head_outcome [] = running
head_outcome (r ∷ rs) = r.outcome

abbrev got : Option Ran → Outcome
got None = running
got (Some r) = r.outcome

traps_first : head_outcome original ≡ trapped 2
unfolding binary compare div_s rem_s
traps_first = refl

not_deep : NoneDeep original
unfolding binary compare div_s rem_s
not_deep = ((λ e. cc), tt)

-- the copy traps with kind 2 as well, however many steps it gets
copy_first : head_outcome (run divider true by_zero [] 3 100) ≡ trapped 2
unfolding binary compare div_s rem_s
copy_first = refl

head_get : (rs : List Ran) (r : Ran) → slice_get rs 0 ≡ Some r → head_outcome rs ≡ r.outcome
head_get [] r e = absurd (cc)
head_get (x ∷ rs) r e = ap got e

get_head : (rs : List Ran) → head_outcome rs ≡ trapped 2 → (r : Ran) × (slice_get rs 0 ≡ Some r) × (r.outcome ≡ trapped 2)
get_head [] e = absurd (cc)
get_head (x ∷ rs) e = (x, refl, e)

copy_traps : (m : ℕ) → 100 ≤ m → head_outcome (run divider true by_zero [] 3 m) ≡ trapped 2
copy_traps m le =
    let r = get_head (run divider true by_zero [] 3 100) copy_first in
    let still : r.0.outcome ≢ running = λ e. not_running (sym r.2 ∙ e) in
    head_get (run divider true by_zero [] 3 m) (with_more (m - 100) r.0) (longer_run divider true by_zero [] 3 100 m le 0 r.0 r.1 still) ∙ r.2
  where
    not_running : trapped 2 ≡ running → ⊥
    not_running e = cc

ends_differ : (o : Outcome) (a b : Option Config) (other : Ran) → o ≡ trapped 2 → EndsAlike o a b other → other.outcome ≡ trapped 1
ends_differ (trapped k) (Some a) (Some b) other e h = h.trapped_too
ends_differ (trapped k) None b other e h = absurd h
ends_differ (trapped k) (Some a) None other e h = absurd h
ends_differ o a b other e h = absurd (cc)

apart : (ones others : List Ran) → head_outcome ones ≡ trapped 2 → head_outcome others ≡ trapped 2 → AllAlike ones others → ⊥
apart [] others e d h = cc
apart (one ∷ ones) [] e d h = cc
apart (one ∷ ones) (other ∷ others) e d h = two (sym d ∙ ends_differ one.outcome one.last other.last other e h.0.ends)
  where
    two : trapped 2 ≡ trapped 1 → ⊥
    two z = cc

pub copy_is_refused : (factor : ℕ) → Simulates factor divider divider → ⊥
copy_is_refused factor s =
    let x = s by_zero [] 1 100 (omega arith) (omega arith) not_deep in
    apart original (run divider true by_zero [] 3 x.0) traps_first (copy_traps x.0 x.1) x.3
