-- The instructions that have a landing trap with its kind alone.
use Rattle.std.proofs.Common.{◌≡◌, ℕ, suc, ◌==◌, ◌/◌, ◌%◌, if◌then◌else◌, List, [], ◌∷◌, Option, Some, None, Bool, true, false, refl, Ok, Err, subst}
use Rattle.wasm_syntax.specs.declared.value.ValType.{ValType}
use Rattle.wasm_syntax.specs.declared.value.ValType.TheVariants.{I32}
use Rattle.wasm_syntax.specs.declared.value.Value.{Value}
use Rattle.wasm_syntax.specs.declared.instruction.Basic.{Basic}
use Rattle.wasm_syntax.specs.declared.instruction.Basic.TheVariants.{Binary}
use Rattle.wasm_syntax.specs.Numbers.{number, value, modulo}
use Rattle.wasm_syntax.specs.Host.{World}
use Rattle.wasm_syntax.specs.Effect.{Effect, gives, fails, unfit, effect, takes}
use Rattle.wasm_syntax.specs.Effect as effects
use Rattle.int_ops.specs.Integers.{binary as int_binary, rem_s}
use Rattle.int_ops.specs.declared.operators.ArithTrap.TheVariants.{DivideByZero}
use Rattle.int_ops.specs.declared.operators.Binary.{Binary as BinaryOp}
use Rattle.linear_memory.specs.Memory as memories
use Rattle.wasm_syntax.specs.Access.{load_type, load_bits, loaded, store_type, store_bits}
use Rattle.rewrite_bodies.specs.calls.Landings.{one_kind}
use Rattle.wasm_syntax.specs.calls.Classes.{Divider, by_div_s, by_div_u, by_rem_s, by_rem_u, Risky, risky_binary, risky_load, risky_store, risky_copy, risky_fill}
use Rattle.rewrite_bodies.proofs.Risks.{kind_risk}

abbrev Only : ℕ → Effect → Type 0
Only k (gives g l vs) = Unit {0}
Only k (fails j) = j ≡ k
Only k unfit = Unit {0}

module _ (k : ℕ) where
  o_some : {A : Type 0} (o : Option A) (go : A → Effect) → ((x : A) → Only k (go x)) → Only k (effects.with_some o go)
  o_some None go h = tt
  o_some (Some x) go h = h x

  o_one : (t : ValType) (go : ℕ → Effect) (vs : List Value) → ((n : ℕ) → Only k (go n)) → Only k (effects.on_one t go vs)
  o_one t go [] h = tt
  o_one t go (v ∷ []) h = o_some (number t v) go h
  o_one t go (v ∷ _ ∷ _) h = tt

  o_two : (t u : ValType) (go : ℕ → ℕ → Effect) (vs : List Value) → ((n m : ℕ) → Only k (go n m)) → Only k (effects.on_two t u go vs)
  o_two t u go [] h = tt
  o_two t u go (v ∷ []) h = tt
  o_two t u go (v ∷ w ∷ []) h = o_some (number t v) (λ n. effects.with_some (number u w) (go n)) (λ n. o_some (number u w) (go n) (h n))
  o_two t u go (v ∷ w ∷ _ ∷ _) h = tt

  o_three : (go : ℕ → ℕ → ℕ → Effect) (vs : List Value) → ((n m j : ℕ) → Only k (go n m j)) → Only k (effects.on_three go vs)
  o_three go [] h = tt
  o_three go (v ∷ []) h = tt
  o_three go (v ∷ w ∷ []) h = tt
  o_three go (v ∷ w ∷ u ∷ []) h =
      o_some (number I32 v) (λ n. effects.with_some (number I32 w) (λ m. effects.with_some (number I32 u) (go n m))) (λ n. o_some (number I32 w) (λ m. effects.with_some (number I32 u) (go n m)) (λ m. o_some (number I32 u) (go n m) (h n m)))
  o_three go (v ∷ w ∷ u ∷ _ ∷ _) h = tt

o_bounds : {A : Type 0} (o : Option A) (go : A → Effect) → ((x : A) → Only 4 (go x)) → Only 4 (effects.in_bounds o go)
o_bounds None go h = refl
o_bounds (Some x) go h = h x

o_zero : (z : Bool) (x : ℕ) (go : ℕ → Effect) → ((x : ℕ) → Only 2 (go x)) → Only 2 (effects.divides (if z then Err DivideByZero else Ok x) go)
o_zero true x go h = refl
o_zero false x go h = h x

-- with this kind, where it has one
abbrev OnlyOf : Option ℕ → Effect → Type 0
OnlyOf None e = Unit {0}
OnlyOf (Some k) e = Only k e

o_divides : (op : BinaryOp) → Divider op → (t : ValType) (g : World) (l vs : List Value) → OnlyOf (one_kind (Binary t op)) (effect (Binary t op) g l vs)
unfolding int_binary rem_s
o_divides op by_div_s t g l vs = tt
o_divides op by_div_u t g l vs = o_two 2 t t _ vs (λ b a. o_zero (b == 0) (a / b) (λ n. gives g l (value t n ∷ [])) (λ x. tt))
o_divides op by_rem_s t g l vs = o_two 2 t t _ vs (λ b a. o_zero (b == 0) _ (λ n. gives g l (value t n ∷ [])) (λ x. tt))
o_divides op by_rem_u t g l vs = o_two 2 t t _ vs (λ b a. o_zero (b == 0) (a % b) (λ n. gives g l (value t n ∷ [])) (λ x. tt))

only : (i : Basic) → Risky i → (g : World) (l vs : List Value) → OnlyOf (one_kind i) (effect i g l vs)
only i (risky_binary t op by) g l vs = o_divides op by t g l vs
only i (risky_load t align o) g l vs = o_one 4 I32 _ vs (λ a. o_some 4 g.memory _ (λ m. o_bounds (memories.load m (effects.address a o) (load_bits t / 8)) (λ n. gives g l (value (load_type t) (loaded t n) ∷ [])) (λ n. tt)))
only i (risky_store t align o) g l vs = o_two 4 (store_type t) I32 _ vs (λ n a. o_some 4 g.memory _ (λ m. o_bounds (memories.put m (effects.address a o) (memories.to_bytes (store_bits t / 8) n)) (λ m'. gives (effects.with_memory g m') l []) (λ m'. tt)))
only i risky_copy g l vs = o_three 4 _ vs (λ n from to. o_some 4 g.memory _ (λ m. o_bounds (memories.copy m (modulo I32 to) (modulo I32 from) (modulo I32 n)) (λ m'. gives (effects.with_memory g m') l []) (λ m'. tt)))
only i risky_fill g l vs = o_three 4 _ vs (λ n byte to. o_some 4 g.memory _ (λ m. o_bounds (memories.fill m (modulo I32 to) (byte % 256) (modulo I32 n)) (λ m'. gives (effects.with_memory g m') l []) (λ m'. tt)))

pub only_kind : (i : Basic) (g : World) (l vs : List Value) (k j : ℕ) → one_kind i ≡ Some k → effect i g l vs ≡ fails j → j ≡ k
only_kind i g l vs k j is p = subst (Only k) p (subst (λ o. OnlyOf o (effect i g l vs)) is (only i (kind_risk i k is) g l vs))

takes_some : (i : Basic) → Risky i → (m : ℕ) × (takes i ≡ suc m)
takes_some i (risky_binary t op by) = (1, refl)
takes_some i (risky_load t align o) = (0, refl)
takes_some i (risky_store t align o) = (1, refl)
takes_some i risky_copy = (2, refl)
takes_some i risky_fill = (2, refl)

-- they take an operand
pub takes_one : (i : Basic) (k : ℕ) → one_kind i ≡ Some k → (m : ℕ) × (takes i ≡ suc m)
takes_one i k e = takes_some i (kind_risk i k e)
