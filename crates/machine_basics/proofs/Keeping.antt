-- No instruction changes the number of locals or globals, the table, the replies or what was served.
use Rattle.std.proofs.Common.{◌≡◌, ℕ, List, refl, sym, subst₂, inl, inr, length-set}
use Rattle.std.specs.Prelude.{slice_set}
use Rattle.wasm_syntax.specs.declared.value.Value.{Value}
use Rattle.wasm_syntax.specs.declared.instruction.Basic.{Basic}
use Rattle.linear_memory.specs.Memory.{Memory}
use Rattle.wasm_syntax.specs.Effect.{Effect, gives, fails, unfit, effect, takes, with_globals, with_memory}
use Rattle.wasm_syntax.specs.Host.{World}
use Rattle.wasm_syntax.specs.Machine.{Cut, short, parts, cut}
use Rattle.wasm_syntax.specs.calls.Classes.{EffectClass, Pure, Dividing, Accessing, SetsLocal, SetsGlobal, effect_class, MayWrite, Does}
use Rattle.wasm_syntax.proofs.Classes.{acts_as_class}
use Rattle.machine_basics.specs.calls.Keeps.{Keeps, EffectKeeps}
use Rattle.machine_basics.specs.calls.Performs.{above, on_cut, on_operands}

module _ (w : World) (ls : List Value) where
  abbrev K : Effect → Type 0
  K e = EffectKeeps w ls e

  same : Keeps w ls w ls
  same = record { locals_count = refl; globals_count = refl; table = refl; replies = refl; served = refl }

  new_memory : (m : Memory) → Keeps w ls (with_memory w m) ls
  new_memory m = record { locals_count = refl; globals_count = refl; table = refl; replies = refl; served = refl }

  new_local : (x : ℕ) (v : Value) → Keeps w ls w (slice_set ls x v)
  new_local x v = record { locals_count = length-set ls x v; globals_count = refl; table = refl; replies = refl; served = refl }

  new_global : (x : ℕ) (v : Value) → Keeps w ls (with_globals w (slice_set w.globals x v)) ls
  new_global x v = record { locals_count = refl; globals_count = length-set w.globals x v; table = refl; replies = refl; served = refl }

  alike : (w' u : World) (ls' l : List Value) → w' ≡ u → ls' ≡ l → Keeps w ls u l → Keeps w ls w' ls'
  alike w' u ls' l a b h = subst₂ (λ (x : World) (y : List Value). Keeps w ls x y) (sym a) (sym b) h

  by_write : (w' : World) (ls' : List Value) → ls' ≡ ls → MayWrite w w' → Keeps w ls w' ls'
  by_write w' ls' e (inl q) = alike w' w ls' ls q e same
  by_write w' ls' e (inr q) = alike w' (with_memory w q.1) ls' ls q.4 e (new_memory q.1)

  -- whatever one of a class does
  by_class : (k : EffectClass) (e : Effect) → Does k w ls e → K e
  by_class k unfit d = tt
  by_class k (fails kind) d = tt
  by_class Pure (gives w' ls' vs) d = alike w' w ls' ls d.1 d.0 same
  by_class Dividing (gives w' ls' vs) d = alike w' w ls' ls d.1 d.0 same
  by_class Accessing (gives w' ls' vs) d = by_write w' ls' d.0 d.1
  by_class (SetsLocal x) (gives w' ls' vs) d = alike w' w ls' (slice_set ls x d.1) d.0 d.2 (new_local x d.1)
  by_class (SetsGlobal x) (gives w' ls' vs) d = alike w' (with_globals w (slice_set w.globals x d.1)) ls' ls d.2 d.0 (new_global x d.1)

  pub effect_keeps : (i : Basic) (vs : List Value) → EffectKeeps w ls (effect i w ls vs)
  effect_keeps i vs = by_class (effect_class i) (effect i w ls vs) (acts_as_class w ls i vs)

  raised : (e : Effect) (rest : List Value) → K e → K (above rest e)
  raised (gives w' ls' vs) rest h = h
  raised (fails kind) rest h = tt
  raised unfit rest h = tt

  cut_keeps : (i : Basic) (k : Cut) → K (on_cut i w ls k)
  cut_keeps i short = tt
  cut_keeps i (parts taken rest) = raised (effect i w ls taken) rest (effect_keeps i taken)

  pub operands_keep : (i : Basic) (operands : List Value) → EffectKeeps w ls (on_operands i w ls operands)
  operands_keep i operands = cut_keeps i (cut (takes i) operands)
