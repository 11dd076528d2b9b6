-- The derivations of a function: they are few, they fit its locals, they hold of zeros, and what they say is kept.
use Rattle.std.proofs.Common.{◌≡◌, ℕ, zero, suc, ◌*◌, ◌/◌, ◌≤◌, List, [], ◌∷◌, ◌++◌, length, take, slice_get, Option, Some, None, Result, Ok, Err, true, false, refl, sym, ap, ◌∙◌, subst, arith, inl, length-take}
use Rattle.std.proofs.lemmas.Option.{slice_get-map}
use Rattle.std.specs.Prelude.{option_map}
use Rattle.std.specs.List.{AllByRecursion}
use Rattle.int_ops.specs.declared.operators.ArithTrap.{ArithTrap}
use Rattle.int_ops.specs.declared.operators.Binary.{Binary as BinaryOp}
use Rattle.int_ops.specs.declared.operators.Binary.TheVariants.{Add, Sub, Mul, And, Or, Xor, Shl, ShrS, ShrU}
use Rattle.int_ops.specs.declared.operators.Compare.{Compare as CompareOp}
use Rattle.int_ops.specs.declared.operators.Compare.TheVariants.{Ne, LtS, LtU, GtS, GtU}
use Rattle.wasm_syntax.specs.declared.value.ValType.{ValType}
use Rattle.wasm_syntax.specs.declared.value.ValType.TheVariants.{I32, I64}
use Rattle.wasm_syntax.specs.declared.value.Value.{Value}
use Rattle.wasm_syntax.specs.declared.value.Value.TheVariants as values
use Rattle.wasm_syntax.specs.declared.instruction.Basic.{Basic}
use Rattle.wasm_syntax.specs.declared.instruction.Basic.TheVariants.{Compare, Binary}
use Rattle.wasm_syntax.specs.declared.parts.FuncType.{FuncType}
use Rattle.wasm_syntax.specs.declared.module.ModuleParts.{ModuleParts as Module}
use Rattle.int_ops.specs.Integers as integers
use Rattle.wasm_syntax.specs.Numbers.{number, value, bool_number, compare, binary}
use Rattle.wasm_syntax.specs.Module.{type_at}
use Rattle.wasm_syntax.specs.Tree.{Nodes}
use Rattle.wasm_syntax.specs.Host.{World}
use Rattle.wasm_syntax.specs.Effect.{Effect, gives, unfit, effect, with_some, on_two, divides}
use Rattle.wasm_syntax.specs.Machine.{zero_of, zeros}
use Rattle.rewrite_bodies.specs.calls.Slots.{Derivation}
use Rattle.rewrite_bodies.specs.calls.Facts.{exposed_in}
use Rattle.rewrite_bodies.specs.calls.Derived.{derives, taken_type, given_type, strict, mild, Nowhere, may_derive, derived_from, count_of, derived_for, Fitting, Derived, AllDerived, Keeping}
use Rattle.rewrite_bodies.proofs.DerivedFound.{Fits, all_fit, all_for, in_take, may_parts, keeping, once_first}

-- ---- what an instruction gives depends on its operands alone

abbrev Alike : (World → List Value → Effect) → Type 0
Alike go =
    (w : World) (ls l' ws : List Value) (w' : World) → go w ls ≡ gives w' l' ws → (w' ≡ w) × (l' ≡ ls) × ((u : World) (ks : List Value) → go u ks ≡ gives u ks ws)

abbrev world_of : World → Effect → World
world_of z (gives w ls vs) = w
world_of z e = z

abbrev locals_of : Effect → List Value
locals_of (gives w ls vs) = ls
locals_of e = []

abbrev given_of : Effect → List Value
given_of (gives w ls vs) = vs
given_of e = []

alike_gives : (vs : List Value) → Alike (λ w ls. gives w ls vs)
alike_gives vs = λ w ls l' ws w' e. (sym (ap (world_of w) e), sym (ap locals_of e), λ u ks. ap (λ z. gives u ks z) (ap given_of e))

alike_unfit : Alike (λ w ls. unfit)
alike_unfit = λ w ls l' ws w' e. absurd (cc)

alike_some : {A : Type 0} (o : Option A) (go : A → World → List Value → Effect) → ((x : A) → Alike (go x)) → Alike (λ w ls. with_some o (λ x. go x w ls))
alike_some None go h = alike_unfit
alike_some (Some x) go h = h x

alike_divides : (r : Result ℕ ArithTrap) (go : ℕ → World → List Value → Effect) → ((n : ℕ) → Alike (go n)) → Alike (λ w ls. divides r (λ n. go n w ls))
alike_divides (Ok n) go h = h n
alike_divides (Err trap) go h = λ w ls l' ws w' e. absurd (cc)

alike_two : (t : ValType) (go : ℕ → ℕ → World → List Value → Effect) (vs : List Value) → ((b a : ℕ) → Alike (go b a)) → Alike (λ w ls. on_two t t (λ b a. go b a w ls) vs)
alike_two t go [] h = alike_unfit
alike_two t go (v ∷ []) h = alike_unfit
alike_two t go (v ∷ u ∷ []) h = alike_some (number t v) (λ b w ls. with_some (number t u) (λ a. go b a w ls)) (λ b. alike_some (number t u) (go b) (h b))
alike_two t go (v ∷ u ∷ x ∷ vs) h = alike_unfit

pub derives_alike : (i : Basic) (w : World) (ls vs l' ws : List Value) (w' : World) → derives i ≡ true → effect i w ls vs ≡ gives w' l' ws → (w' ≡ w) × (l' ≡ ls) × ((u : World) (ks : List Value) → effect i u ks vs ≡ gives u ks ws)
derives_alike (Compare t op) w ls vs l' ws w' d e =
    alike_two t (λ b a w ls. gives w ls (values.I32 (bool_number (compare t op a b)) ∷ [])) vs (λ b a. alike_gives (values.I32 (bool_number (compare t op a b)) ∷ [])) w ls l' ws w' e
derives_alike (Binary t op) w ls vs l' ws w' d e =
    alike_two t (λ b a w ls. divides (binary t op a b) (λ n. gives w ls (value t n ∷ []))) vs (λ b a. alike_divides (binary t op a b) (λ n w ls. gives w ls (value t n ∷ [])) (λ n. alike_gives (value t n ∷ []))) w ls l' ws w' e
derives_alike i w ls vs l' ws w' d e = absurd (cc)

-- ---- they are few

pub derived_few : (m : Module) (f : ℕ) (locals : List ValType) (nodes : Nodes) → 3 * length (derived_for m f locals nodes) ≤ length locals
derived_few m f locals nodes = few (length locals) (derived_from (may_derive (count_of (type_at m f)) locals nodes) (exposed_in m.memories nodes) [] Nowhere nodes)
  where
    few : (n : ℕ) (ds : List Derivation) → 3 * length (take (n / 3) ds) ≤ n
    few n ds = omega (arith, length-take (n / 3) ds)

-- ---- they fit its locals

pub derived_fit : (m : Module) (f : ℕ) (locals : List ValType) (nodes : Nodes) → AllByRecursion (Fitting locals) (derived_for m f locals nodes)
derived_fit m f locals nodes = all_for m f locals nodes (Fitting locals) fitting
  where
    of : (x : ℕ) (t : ValType) → may_derive (count_of (type_at m f)) locals nodes x t ≡ true → slice_get locals x ≡ Some t
    of x t h = (may_parts (count_of (type_at m f)) locals nodes x t h).typed

    fitting : (d : Derivation) → Fits (may_derive (count_of (type_at m f)) locals nodes) d → Fitting locals d
    fitting d h =
        record { left = of d.left (taken_type d.instruction) h.left; right = of d.right (taken_type d.instruction) h.right; made = of d.made (given_type d.instruction) h.made; derives = h.derives }

-- ---- they hold of zeros

zero_at : (declared : List ValType) (x : ℕ) (t : ValType) → slice_get declared x ≡ Some t → slice_get (zeros declared) x ≡ Some (zero_of t)
zero_at declared x t h = slice_get-map zero_of declared x ∙ ap (option_map zero_of) h

behind : (params declared : List ValType) (args : List Value) (x : ℕ) (t : ValType) → length args ≡ length params → length params ≤ x → slice_get (params ++ declared) x ≡ Some t → slice_get (args ++ zeros declared) x ≡ Some (zero_of t)
behind [] declared [] x t n le h = zero_at declared x t h
behind [] declared (a ∷ args) x t n le h = absurd (omega arith)
behind (p ∷ params) declared [] x t n le h = absurd (omega arith)
behind (p ∷ params) declared (a ∷ args) zero t n le h = absurd (omega arith)
behind (p ∷ params) declared (a ∷ args) (suc x) t n le h = behind params declared args x t (omega arith) (omega arith) h

strict_zero : (t : ValType) (op : CompareOp) → strict op ≡ true → compare t op 0 0 ≡ false
unfolding integers.compare
strict_zero I32 Ne h = refl
strict_zero I64 Ne h = refl
strict_zero I32 LtS h = refl
strict_zero I64 LtS h = refl
strict_zero I32 LtU h = refl
strict_zero I64 LtU h = refl
strict_zero I32 GtS h = refl
strict_zero I64 GtS h = refl
strict_zero I32 GtU h = refl
strict_zero I64 GtU h = refl
strict_zero t op h = absurd (cc)

mild_zero : (t : ValType) (op : BinaryOp) → mild op ≡ true → binary t op 0 0 ≡ Ok 0
unfolding integers.binary
mild_zero I32 Add h = refl
mild_zero I64 Add h = refl
mild_zero I32 Sub h = refl
mild_zero I64 Sub h = refl
mild_zero I32 Mul h = refl
mild_zero I64 Mul h = refl
mild_zero I32 And h = refl
mild_zero I64 And h = refl
mild_zero I32 Or h = refl
mild_zero I64 Or h = refl
mild_zero I32 Xor h = refl
mild_zero I64 Xor h = refl
mild_zero I32 Shl h = refl
mild_zero I64 Shl h = refl
mild_zero I32 ShrS h = refl
mild_zero I64 ShrS h = refl
mild_zero I32 ShrU h = refl
mild_zero I64 ShrU h = refl
mild_zero t op h = absurd (cc)

abbrev Zeroed : Basic → World → List Value → Type 0
Zeroed i w ls = effect i w ls (zero_of (taken_type i) ∷ zero_of (taken_type i) ∷ []) ≡ gives w ls (zero_of (given_type i) ∷ [])

compared : (t : ValType) (op : CompareOp) (w : World) (ls : List Value) → compare t op 0 0 ≡ false → Zeroed (Compare t op) w ls
compared I32 op w ls e = ap (λ b. gives w ls (values.I32 (bool_number b) ∷ [])) e
compared I64 op w ls e = ap (λ b. gives w ls (values.I32 (bool_number b) ∷ [])) e

worked : (t : ValType) (op : BinaryOp) (w : World) (ls : List Value) → binary t op 0 0 ≡ Ok 0 → Zeroed (Binary t op) w ls
worked I32 op w ls e = ap (λ r. divides r (λ n. gives w ls (values.I32 n ∷ []))) e
worked I64 op w ls e = ap (λ r. divides r (λ n. gives w ls (values.I64 n ∷ []))) e

zeroed : (i : Basic) (w : World) (ls : List Value) → derives i ≡ true → Zeroed i w ls
zeroed (Compare t op) w ls d = compared t op w ls (strict_zero t op d)
zeroed (Binary t op) w ls d = worked t op w ls (mild_zero t op d)
zeroed i w ls d = absurd (cc)

first_of_all : (m : Module) (f : ℕ) (locals : List ValType) (l : List Value) (nodes : Nodes) → ((x : ℕ) (t : ValType) → count_of (type_at m f) ≤ x → slice_get locals x ≡ Some t → slice_get l x ≡ Some (zero_of t)) → AllDerived l (derived_for m f locals nodes)
first_of_all m f locals l nodes h = all_for m f locals nodes (Derived l) first
  where
    of : (x : ℕ) (t : ValType) → may_derive (count_of (type_at m f)) locals nodes x t ≡ true → slice_get l x ≡ Some (zero_of t)
    of x t k = let q = may_parts (count_of (type_at m f)) locals nodes x t k in h x t q.declared q.typed

    first : (d : Derivation) → Fits (may_derive (count_of (type_at m f)) locals nodes) d → Derived l d
    first d k =
        record {
          left = zero_of (taken_type d.instruction);
          right = zero_of (taken_type d.instruction);
          made = zero_of (given_type d.instruction);
          at_left = of d.left (taken_type d.instruction) k.left;
          at_right = of d.right (taken_type d.instruction) k.right;
          at_made = of d.made (given_type d.instruction) k.made;
          works = λ w ls. zeroed d.instruction w ls k.derives;
        }

pub derived_first : (m : Module) (f : ℕ) (type : FuncType) (declared : List ValType) (args : List Value) (nodes : Nodes) → type_at m f ≡ Some type → length args ≡ length type.params → AllDerived (args ++ zeros declared) (derived_for m f (type.params ++ declared) nodes)
derived_first m f type declared args nodes e n =
    first_of_all m f (type.params ++ declared) (args ++ zeros declared) nodes
    (λ x t le h. behind type.params declared args x t n (subst (λ c. c ≤ x) (ap count_of e) le) h)

-- ---- what they say is kept

pub derived_keeping : (m : Module) (f : ℕ) (locals : List ValType) (nodes : Nodes) → Keeping (exposed_in m.memories nodes) (derived_for m f locals nodes) Nowhere nodes
derived_keeping m f locals nodes =
    let may = may_derive (count_of (type_at m f)) locals nodes in
    let os = exposed_in m.memories nodes in
    let all = derived_from may os [] Nowhere nodes in
    let most = length locals / 3 in
    keeping may os (take most all) nodes [] Nowhere (λ d k. let h = in_take d most all k in inl (once_first m f locals nodes d (all_fit may os nodes [] Nowhere d tt h), h))
