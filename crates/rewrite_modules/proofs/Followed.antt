-- Runs that are alike, and the flag behind those that trapped.
use Rattle.std.proofs.Common.{◌≡◌, ℕ, zero, suc, ◌-◌, ◌≤◌, List, [], ◌∷◌, length, slice_get, Some, Bool, true, sym, ap, ◌∙◌, subst}
use Rattle.wasm_syntax.specs.declared.host.Reply.{Reply}
use Rattle.wasm_syntax.specs.declared.value.Value.TheVariants as values
use Rattle.wasm_syntax.specs.Module.{Program}
use Rattle.wasm_syntax.specs.Machine.{Config, Engine, Stepped, next, ends, traps, no_reply, bad_reply, stuck}
use Rattle.wasm_syntax.specs.Run.{Ran, trapped, running, ran_to, not_begun, Cause}
use Rattle.wasm_laws.specs.calls.Runs.{with_more}
use Rattle.rewrite_bodies.specs.calls.Agreement.{told_length, flagged}
use Rattle.rewrite_bodies.proofs.Measures.{get_first}
use Rattle.pm_text.proofs.Lists.{some_is}
use Rattle.rewrite_modules.specs.Simulates.{Alike, AllAlike}
use Rattle.rewrite_modules.specs.Entries.{Calling, run_calls}
use Rattle.rewrite_modules.proofs.LongerCalls.{longer_calls}

-- where the run trapped, the flag, which is the global of this number, is down
abbrev pub Down : ℕ → Ran → Type 0
Down flag r = (k : ℕ) (c : Config) → r.outcome ≡ trapped k → r.last ≡ Some c → slice_get c.world.globals flag ≡ Some (values.I32 0)

pub record Followed (flag : ℕ) (one other : Ran) : Type 0 where
  pub alike : Alike one other
  pub down : Down flag other

abbrev pub AllFollowed : ℕ → List Ran → List Ran → Type 0
AllFollowed flag [] [] = Unit {0}
AllFollowed flag (one ∷ ones) (other ∷ others) = Followed flag one other × AllFollowed flag ones others
AllFollowed flag _ _ = ⊥

pub all_alike : (flag : ℕ) (ones others : List Ran) → AllFollowed flag ones others → AllAlike ones others
all_alike flag [] [] h = tt
all_alike flag [] (other ∷ others) h = absurd h
all_alike flag (one ∷ ones) [] h = absurd h
all_alike flag (one ∷ ones) (other ∷ others) h = (h.0.alike, all_alike flag ones others h.1)

pub all_down : (flag : ℕ) (ones others : List Ran) → AllFollowed flag ones others → (i : ℕ) (r : Ran) → slice_get others i ≡ Some r → Down flag r
all_down flag [] [] h i r e = absurd (cc)
all_down flag [] (other ∷ others) h i r e = absurd h
all_down flag (one ∷ ones) [] h i r e = absurd h
all_down flag (one ∷ ones) (other ∷ others) h zero r e = subst (Down flag) (some_is e) h.0.down
all_down flag (one ∷ ones) (other ∷ others) h (suc i) r e = all_down flag ones others h.1 i r e

-- ---- of one run

abbrev pub Untrapped : Stepped → Type 0
Untrapped (traps k c) = ⊥
Untrapped s = Unit {0}

pub no_trap : (flag : ℕ) (q : Bool) (s : Stepped) (left : ℕ) → Untrapped s → Down flag (ran_to q s left)
no_trap flag q (next c) left u k c1 e l = absurd (cc)
no_trap flag q (ends w vs co) left u k c1 e l = absurd (cc)
no_trap flag q (traps j c) left u k c1 e l = absurd u
no_trap flag q (no_reply call c) left u k c1 e l = absurd (cc)
no_trap flag q (bad_reply call r c) left u k c1 e l = absurd (cc)
no_trap flag q stuck left u k c1 e l = absurd (cc)

pub not_begun_down : (flag : ℕ) (c : Cause) (n : ℕ) → Down flag (not_begun c n)
not_begun_down flag c n k c1 e l = absurd (cc)

-- a trap with the flag down
pub lowered : (M : Engine) (flag : ℕ) (q : Bool) (j : ℕ) (c c' : Config) (left : ℕ) → flag ≡ length c.world.globals → c'.world ≡ flagged M c.world (values.I32 0) → Down flag (ran_to q (traps j c') left)
lowered M flag q j c c' left fl e k c1 o l =
    ap (λ x. slice_get x.world.globals flag) (sym (some_is l)) ∙ ap (λ w. slice_get w.globals flag) e ∙ get_first c.world.globals flag (values.I32 0) (values.I64 (told_length c.world.memory) ∷ []) fl

-- with fewer steps
pub down_before : (p : Program) (flag : ℕ) (is : List Calling) (replies : List Reply) (d n m : ℕ) → n ≤ m → ((i : ℕ) (r : Ran) → slice_get (run_calls p true is replies d m) i ≡ Some r → Down flag r) → (i : ℕ) (r : Ran) → slice_get (run_calls p true is replies d n) i ≡ Some r → Down flag r
down_before p flag is replies d n m le all i r at k c o l =
    all i (with_more (m - n) r) (longer_calls p true is replies d n m le i r at (λ e. still (sym o ∙ e))) k c o l
  where
    still : trapped k ≡ running → ⊥
    still e = cc
