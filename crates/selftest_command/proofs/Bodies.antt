-- Modules with the code of a self-test: their bodies, and how high operands stand in them.
use Rattle.std.proofs.Common.{◌≡◌, ℕ, zero, suc, ◌+◌, ◌*◌, ◌/◌, ◌%◌, ◌≤◌, Bool, true, false, nat_lt, List, [], ◌∷◌, ◌++◌, length, map, reverse, take, replicate, slice_get, if◌then◌else◌, Option, Some, None, option_map, ⊎_elim, refl, sym, ap, subst, ◌∙◌, arith, length-append, option_to_list}
use Rattle.std.specs.List.{flat_map, range_with_len, AllByRecursion}
use Rattle.std.proofs.lemmas.List.{length-map, length-reverse}
use Rattle.int_ops.specs.declared.operators.Binary.TheVariants as ops
use Rattle.wasm_syntax.specs.declared.value.ValType.{ValType}
use Rattle.wasm_syntax.specs.declared.value.ValType.TheVariants.{I32}
use Rattle.wasm_syntax.specs.declared.instruction.Basic.{Basic}
use Rattle.wasm_syntax.specs.declared.instruction.Basic.TheVariants as basics
use Rattle.wasm_syntax.specs.declared.instruction.Jump.TheVariants as jumps
use Rattle.wasm_syntax.specs.declared.instruction.Store.{Store}
use Rattle.wasm_syntax.specs.declared.instruction.Instr.{Instr}
use Rattle.wasm_syntax.specs.declared.instruction.Instr.TheVariants as instr
use Rattle.wasm_syntax.specs.declared.instruction.Op.{Op}
use Rattle.wasm_syntax.specs.declared.parts.FuncType.{FuncType}
use Rattle.wasm_syntax.specs.declared.parts.Limits.{Limits}
use Rattle.wasm_syntax.specs.declared.parts.Body.{Body}
use Rattle.wasm_syntax.specs.declared.module.ModuleParts.{ModuleParts as Module}
use Rattle.wasm_syntax.specs.SameCode.{op_code, body_code, code_alone}
use Rattle.wasm_syntax.specs.Access.{store_type, store_bits}
use Rattle.wasm_syntax.specs.Module.{type_at, option_then}
use Rattle.wasm_syntax.specs.Tree.{code_of, item_of}
use Rattle.wasm_syntax.specs.Typing.{Context, Arrow, ◌⇒◌, arrow, if_any, only_if, aligned, body_context}
use Rattle.wasm_syntax.specs.FlatTyping.{OpenBlock, opened, inside, given, FlatStep, FlatTypes, body_block, dead_behind, all_types, TypesBefore}
use Rattle.wasm_syntax.specs.Valid.{Valid}
use Rattle.wasm_laws.proofs.Lists.{all_append}
use Rattle.wasm_format_laws.proofs.Totals.{all_from_map}
use Rattle.rewrite_modules.specs.Weight.{height_at, AreHeights}
use Rattle.rewrite_modules.proofs.FineBodies.{fine_at, gives_one}
use Rattle.rewrite_modules.proofs.Multiple.{live_or, before_live}
use Rattle.selftest_command.specs.Selftest.{number, constant, local_get, add, mix, mixed, beginning, mixing, ending, function_code, ops_from, body_of, bodies, selftest}
use Rattle.selftest_command.proofs.RunsOn.{two_to_one}
use Rattle.selftest_command.proofs.Sizes.{length_code}
use Rattle.pm_text.proofs.Lists.{some_is}

-- ---- instructions that add at most one operand

abbrev pub SmallBasic : Basic → Type 0
SmallBasic (basics.Const v) = Unit {0}
SmallBasic (basics.LocalGet x) = Unit {0}
SmallBasic (basics.Store s align offset) = Unit {0}
SmallBasic (basics.Binary t op) = Unit {0}
SmallBasic i = ⊥

abbrev pub Small : Instr → Type 0
Small (instr.Basic i) = SmallBasic i
Small (instr.Jump (jumps.Call f)) = Unit {0}
Small instr.End = Unit {0}
Small i = ⊥

small_flat : {A : Type 0} (f : A → List Instr) (xs : List A) → ((x : A) → AllByRecursion Small (f x)) → AllByRecursion Small (flat_map f xs)
small_flat f [] h = tt
small_flat f (x ∷ xs) h = all_append Small (f x) (flat_map f xs) (h x) (small_flat f xs h)

small_mix : (k : ℕ) → Small (mix k)
small_mix zero = tt
small_mix (suc zero) = tt
small_mix (suc (suc zero)) = tt
small_mix (suc (suc (suc k))) = tt

small_ending : (n i : ℕ) → AllByRecursion Small (ending n i) × (length (ending n i) ≡ 3)
small_ending n i = by_test (nat_lt (i + 1) n)
  where
    last : List Instr
    last = constant 0 ∷ instr.Basic (basics.Binary I32 ops.DivU) ∷ add ∷ []

    calls : List Instr
    calls = local_get 1 ∷ instr.Jump (jumps.Call (i + 1)) ∷ add ∷ []

    by_test : (q : Bool) → AllByRecursion Small (if q then calls else last) × (length (if q then calls else last) ≡ 3)
    by_test true = ((tt, (tt, (tt, tt))), refl)
    by_test false = ((tt, (tt, (tt, tt))), refl)

small_code : (n i : ℕ) → AllByRecursion Small (function_code n i)
unfolding function_code
small_code n i =
    all_append Small (beginning i ++ mixing n (16 * i + 1) ++ ending n i) (instr.End ∷ [])
    (all_append Small (beginning i ++ mixing n (16 * i + 1)) (ending n i)
    (all_append Small (beginning i) (mixing n (16 * i + 1)) (tt, (tt, (tt, (tt, (tt, tt))))) (small_flat (λ k. mixed (number n k)) (range_with_len (16 * i + 1) 16) (λ k. (tt, (small_mix (number n k / 65536 % 4), tt)))))
    (small_ending n i).0)
    (tt, tt)

-- ---- bodies with equal code

same_codes : (ops : List Op) → map (λ o. o.code) (map op_code ops) ≡ map (λ o. o.code) ops
same_codes [] = refl
same_codes (o ∷ os) = ap (λ l. o.code ∷ l) (same_codes os)

made_codes : (at : ℕ) (is : List Instr) → map (λ o. o.code) (ops_from at is) ≡ is
made_codes at [] = refl
made_codes at (i ∷ is) = ap (λ l. i ∷ l) (made_codes (suc at) is)

-- a body with this code
pub record IsCodeOf (code : List Instr) (b : Body) : Type 0 where
  pub groups : b.groups ≡ []
  pub codes_are : map (λ o. o.code) b.ops ≡ code

code_is : (code : List Instr) (b : Body) → body_code b ≡ body_code (body_of code) → IsCodeOf code b
code_is code b e = record {
  groups = ap (λ (x : Body). x.groups) e;
  codes_are = sym (same_codes b.ops) ∙ ap (λ (x : Body). map (λ o. o.code) x.ops) e ∙ same_codes (ops_from 0 code) ∙ made_codes 0 code;
}

-- what a module has in common with that of a self-test
pub record IsLike (n : ℕ) (m : Module) : Type 0 where
  pub types : m.types ≡ two_to_one ∷ []
  pub imports : m.imports ≡ []
  pub functions : m.functions ≡ replicate n 0
  pub bodies_ : map body_code m.bodies ≡ map body_code (bodies n n)

pub like : (n : ℕ) (m : Module) → code_alone m ≡ code_alone (selftest n) → IsLike n m
unfolding selftest
like n m same = record {
  types = ap (λ (x : Module). x.types) same;
  imports = ap (λ (x : Module). x.imports) same;
  functions = ap (λ (x : Module). x.functions) same;
  bodies_ = ap (λ (x : Module). x.bodies) same;
}

-- what is known of each body
pub record IsSmall (b : Body) : Type 0 where
  pub groups : b.groups ≡ []
  pub many : length b.ops ≡ 41
  pub small : AllByRecursion (λ o. Small o.code) b.ops

small_is : (n i : ℕ) (b : Body) → body_code b ≡ body_code (body_of (function_code n i)) → IsSmall b
small_is n i b e =
    let k = code_is (function_code n i) b e in
    record {
      groups = k.groups;
      many = sym (length-map b.ops (λ o. o.code)) ∙ ap length k.codes_are ∙ length_code n i;
      small = all_from_map Small (λ (o : Op). o.code) b.ops (subst (AllByRecursion Small) (sym k.codes_are) (small_code n i));
    }

small_bodies : (n : ℕ) (is : List ℕ) (bs : List Body) → map body_code bs ≡ map body_code (map (λ i. body_of (function_code n i)) is) → AllByRecursion IsSmall bs
small_bodies n is [] e = tt
small_bodies n [] (b ∷ bs) e = absurd cc
small_bodies n (i ∷ is) (b ∷ bs) e = (small_is n i b (head_is (body_code b) (body_code (body_of (function_code n i))) _ _ e), small_bodies n is bs (tail_is (body_code b) (body_code (body_of (function_code n i))) _ _ e))
  where
    head_is : (x y : Body) (xs ys : List Body) → x ∷ xs ≡ y ∷ ys → x ≡ y
    head_is x y xs ys e = ap (λ l. elim l [ [] ↦ x | z ∷ zs ↦ z ]) e

    tail_is : (x y : Body) (xs ys : List Body) → x ∷ xs ≡ y ∷ ys → xs ≡ ys
    tail_is x y xs ys e = ap (λ l. elim l [ [] ↦ xs | z ∷ zs ↦ zs ]) e

pub all_small : (n : ℕ) (m : Module) → IsLike n m → AllByRecursion IsSmall m.bodies
all_small n m k = small_bodies n (range_with_len 0 n) m.bodies k.bodies_

-- ---- heights

store_gives : (ms : List Limits) (q : Bool) (s : Store) (a : Arrow) → if_any ms (only_if q (Some (store_type s ∷ I32 ∷ [] ⇒ []))) ≡ Some a → length a.gives ≤ 1
store_gives [] q s a e = absurd cc
store_gives (l ∷ ls) true s a e = subst (λ (x : Arrow). length x.gives ≤ 1) (some_is e) (omega arith)
store_gives (l ∷ ls) false s a e = absurd cc

local_gives : (o : Option ValType) (a : Arrow) → option_map (λ u. [] ⇒ u ∷ []) o ≡ Some a → length a.gives ≤ 1
local_gives None a e = absurd cc
local_gives (Some u) a e = subst (λ (x : Arrow). length x.gives ≤ 1) (some_is e) (omega arith)

gives_few : (c : Context) (t : ValType) (i : Basic) (a : Arrow) → SmallBasic i → arrow c t i ≡ Some a → length a.gives ≤ 1
gives_few c t (basics.Const v) a s e = subst (λ (x : Arrow). length x.gives ≤ 1) (some_is e) (omega arith)
gives_few c t (basics.LocalGet x) a s e = local_gives (slice_get c.locals x) a e
gives_few c t (basics.Store st align offset) a s e = store_gives c.module_.memories (aligned align (store_bits st)) st a e
gives_few c t (basics.Binary u op) a s e = subst (λ (x : Arrow). length x.gives ≤ 1) (some_is e) (omega arith)
gives_few c t i a s e = absurd s

above_few : (a : Arrow) (before after below : List ValType) → length a.gives ≤ 1 → before ≡ a.takes ++ below → after ≡ a.gives ++ below → length after ≤ suc (length before)
above_few a before after below few takes gives = omega (arith, few, ap length takes, ap length gives, length-append a.takes below, length-append a.gives below)

-- each function type gives at most one value
abbrev GiveOne : Module → Type 0
GiveOne m = (f : ℕ) (type : FuncType) → type_at m f ≡ Some type → length (reverse type.results) ≤ 1

behind_types : (o : OpenBlock) (after bs : List OpenBlock) → after ≡ o ∷ bs → length (all_types after) ≡ length o.types + length (all_types bs)
behind_types o after bs e = ap (λ l. length (all_types l)) e ∙ length-append o.types (all_types bs)

given_types : (ts : List ValType) (bs : List OpenBlock) → length (all_types (given ts bs)) ≤ length ts + length (all_types bs)
given_types ts [] = omega arith
given_types ts (b ∷ bs) = omega (arith, length-append (ts ++ b.types) (all_types bs), length-append ts b.types, length-append b.types (all_types bs))

rises : (c : Context) (T : List ℕ) (bs : List OpenBlock) (i : Instr) (after : List OpenBlock) → GiveOne c.module_ → Small i → FlatStep c bs (item_of T i) after → length (all_types after) ≤ suc (length (all_types bs))
rises c T [] (instr.Basic i) after one s h = absurd h
rises c T [] (instr.Jump (jumps.Call f)) after one s h = absurd h
rises c T [] instr.End after one s h = absurd h
rises c T (b ∷ bs) (instr.Basic i) after one s (types, moves, is) =
    let few = gives_few (inside c (b ∷ bs)) moves.any i moves.arrow_is s moves.has in
    let k = above_few moves.arrow_is b.types types moves.above.below few moves.above.takes moves.above.gives in
    omega (arith, k, behind_types (opened b.kind b.result types) after bs is, length-append b.types (all_types bs))
rises c T (b ∷ bs) (instr.Jump (jumps.Call f)) after one s (types, (type, has, above), is) =
    let k = above_few (reverse type.params ⇒ reverse type.results) b.types types above.below (one f type has) above.takes above.gives in
    omega (arith, k, behind_types (opened b.kind b.result types) after bs is, length-append b.types (all_types bs))
rises c T (b ∷ bs) instr.End after one s (own, may, is) =
    omega (arith, ap (λ l. length (all_types l)) is, given_types (option_to_list b.result) bs, ap length own, length-append b.types (all_types bs))
rises c T bs i after one s h = absurd s

leads_few : (c : Context) (T : List ℕ) (ops : List Op) (k : ℕ) (bs after : List OpenBlock) → GiveOne c.module_ → AllByRecursion (λ o. Small o.code) ops → FlatTypes c bs (take k (code_of T ops)) after → length (all_types after) ≤ length ops + length (all_types bs)
leads_few c T ops zero bs after one s h = omega (arith, ap (λ l. length (all_types l)) h)
leads_few c T [] (suc k) bs after one s h = omega (arith, ap (λ l. length (all_types l)) h)
leads_few c T (o ∷ os) (suc k) bs after one s (between, step, more) = omega (arith, rises c T bs o.code between one s.0 step, leads_few c T os k between after one s.1 more)

gives_of : (n : ℕ) (m : Module) → IsLike n m → GiveOne m
gives_of n m k f type e = by (slice_get (map (λ i. i.ftype) m.imports ++ m.functions) f) (ap (λ ts. option_then (slice_get (map (λ i. i.ftype) m.imports ++ m.functions) f) (λ t. slice_get ts t)) (sym k.types) ∙ e)
  where
    by : (o : Option ℕ) → option_then o (λ (t : ℕ). slice_get (two_to_one ∷ []) t) ≡ Some type → length (reverse type.results) ≤ 1
    by None e = absurd cc
    by (Some zero) e = subst (λ (x : FuncType). length (reverse x.results) ≤ 1) (some_is e) (omega arith)
    by (Some (suc t)) e = absurd cc

-- no more operands than instructions
pub before_few : (n : ℕ) (m : Module) (type : FuncType) (b : Body) (op : ℕ) (types : List ValType) → IsLike n m → IsSmall b → TypesBefore m type b op types → length types ≤ 41
before_few n m type b op types k s t =
    omega (
      arith,
      s.many,
      leads_few (body_context m type b) b.targets b.ops op (body_block t.result) t.blocks (gives_of n m k) s.small t.leads,
      ap length t.types_are,
      length-reverse (all_types t.blocks),
    )

pub height_few : (n : ℕ) (m : Module) (heights : List (List ℕ)) → Valid m → IsLike n m → AreHeights m heights → (i op : ℕ) (b : Body) → slice_get m.bodies i ≡ Some b → IsSmall b → height_at heights i op ≤ 41
height_few n m heights valid k are i op b e s =
    let fine = fine_at m i b valid e in
    let type = fine.0 in
    let gives = gives_one m (length m.imports + i) type valid fine.1 in
    ⊎_elim
    (λ live. (let t = before_live m type b op gives fine.2 live in omega (arith, are.live i op type b t.0 e fine.1 t.1, before_few n m type b op t.0 k s t.1)))
    (λ dead. omega (arith, are.dead i op b e dead))
    (live_or (dead_behind (false ∷ []) (take op (code_of b.targets b.ops))))
