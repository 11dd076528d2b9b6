-- Where no quantity passes, a module is within the limits of the rewriting.
use Rattle.std.proofs.Common.{◌≡◌, ℕ, zero, suc, ◌+◌, ◌<◌, ◌≤◌, Bool, true, false, nat_lt, if◌then◌else◌, List, [], ◌∷◌, length, map, take, Option, Some, None, slice_get, inl, inr, ⊎_elim, refl, ap, sym, subst, arith, unwrap_or}
use Rattle.std.specs.List.{AllByRecursion}
use Rattle.std.proofs.lemmas.Bool.{ltb-false, cases_lt}
use Rattle.std.proofs.lemmas.List.{length-map, take_all}
use Rattle.std.proofs.lemmas.Option.{slice_get_past}
use Rattle.wasm_syntax.specs.Tree.{placed, item_of, code_of}
use Rattle.wasm_syntax.specs.Machine.{result_of}
use Rattle.wasm_syntax.specs.Typing.{body_context}
use Rattle.wasm_syntax.specs.FlatTyping.{FlatTypes, body_block, dead_behind, TypesBefore}
use Rattle.wasm_syntax.specs.Valid.{Valid}
use Rattle.wasm_laws.proofs.FlatBodies.{body_steps}
use Rattle.rewrite_modules.proofs.FineBodies.{fine_at, gives_one}
use Rattle.rewrite_modules.proofs.Multiple.{live_or}
use Rattle.wasm_syntax.specs.declared.quantity.Quantity.{Quantity}
use Rattle.wasm_syntax.specs.declared.quantity.Quantity.TheVariants.{InstrumentLocals, InstrumentParameters, InstrumentHeight, InstrumentNesting, Weight}
use Rattle.wasm_syntax.specs.declared.instruction.Op.{Op}
use Rattle.wasm_syntax.specs.declared.parts.Body.{Body}
use Rattle.wasm_syntax.specs.declared.parts.FuncType.{FuncType}
use Rattle.wasm_syntax.specs.declared.module.ModuleParts.{ModuleParts as Module}
use Rattle.wasm_syntax.specs.Quantity.{greatest}
use Rattle.wasm_syntax.specs.Module.{type_at}
use Rattle.wasm_syntax.specs.Sizes.{local_count, nesting}
use Rattle.wasm_format_laws.proofs.Totals.{all_from_map}
use Rattle.rewrite_modules.specs.Instrumentable.{LightEnough}
use Rattle.rewrite_modules.specs.Multiple.{highest}
use Rattle.rewrite_modules.proofs.Listed.{slice_get_none}
use Rattle.rewrite_modules.specs.Weight.{height_at, AreHeights, weight}
use Rattle.index_map.specs.declared.limits.Excess.{Excess}
use Rattle.index_map.specs.Limits.{function_locals, function_heights, first_over, first_excess}
use Rattle.wasm_bytes.specs.Refusals.{◌orelse◌}

-- an index at which nothing stands
none_over : (what : Quantity) (ns : List ℕ) → first_over what ns ≡ None → AllByRecursion (λ n. n ≤ greatest what) ns
none_over what [] e = tt
none_over what (n ∷ ns) e = by (nat_lt (greatest what) n) refl e (none_over what ns)
  where
    by : (q : Bool) → nat_lt (greatest what) n ≡ q → (if q then Some (record { what = what; count = n }) else first_over what ns) ≡ None → (first_over what ns ≡ None → AllByRecursion (λ n. n ≤ greatest what) ns) → (n ≤ greatest what) × AllByRecursion (λ n. n ≤ greatest what) ns
    by true z e ih = absurd cc
    by false z e ih = (ltb-false (greatest what) n z, ih e)

none_left : (a b : Option Excess) → (a orelse b) ≡ None → (a ≡ None) × (b ≡ None)
none_left None b e = (refl, e)
none_left (Some x) b e = absurd cc

-- ---- each function

locals_low : (m : Module) (n : ℕ) (bs : List Body) (i : ℕ) (b : Body) → AllByRecursion (λ k. k ≤ 10000) (function_locals m n bs) → slice_get bs i ≡ Some b → local_count (type_at m (length m.imports + (n + i))) b ≤ 10000
locals_low m n [] i b h e = absurd cc
locals_low m n (x ∷ xs) zero b h e =
    let same : x ≡ b = cc in
    let none : n ≡ n + 0 = omega arith in
    subst (λ (y : Body). local_count (type_at m (length m.imports + (n + 0))) y ≤ 10000) same (subst (λ (k : ℕ). local_count (type_at m (length m.imports + k)) x ≤ 10000) none h.0)
locals_low m n (x ∷ xs) (suc i) b h e =
    let more : n + 1 + i ≡ n + suc i = omega arith in
    subst (λ (k : ℕ). local_count (type_at m (length m.imports + k)) b ≤ 10000) more (locals_low m (n + 1) xs i b h.1 e)

highest_most : (h : ℕ → ℕ) (j k : ℕ) (ops : List Op) → k < length ops → h (j + k) ≤ highest h j ops
highest_most h j k [] lt = absurd (omega (arith, lt))
highest_most h j zero (o ∷ os) lt = let same : h (j + 0) ≡ h j = (let none : j + 0 ≡ j = omega arith in ap h none) in omega (arith, same)
highest_most h j (suc k) (o ∷ os) lt =
    let same : h (j + suc k) ≡ h (suc j + k) = (let more : j + suc k ≡ suc j + k = omega arith in ap h more) in
    omega (arith, same, highest_most h (suc j) k os (omega (arith, lt)))

heights_low : (heights : List (List ℕ)) (n : ℕ) (bs : List Body) (i op : ℕ) (b : Body) → AllByRecursion (λ k. k ≤ 1000) (function_heights heights n bs) → slice_get bs i ≡ Some b → op < length b.ops → height_at heights (n + i) op ≤ 1000
heights_low heights n [] i op b h e lt = absurd cc
heights_low heights n (x ∷ xs) zero op b h e lt =
    let same : x ≡ b = cc in
    let inside : op < length x.ops = subst (λ (y : Body). op < length y.ops) (sym same) lt in
    let most = highest_most (height_at heights n) 0 op x.ops inside in
    let none : n ≡ n + 0 = omega arith in
    let here : 0 + op ≡ op = omega arith in
    let low : height_at heights n op ≤ 1000 = (let z = ap (height_at heights n) here in omega (arith, most, h.0, z)) in
    subst (λ (k : ℕ). height_at heights k op ≤ 1000) none low
heights_low heights n (x ∷ xs) (suc i) op b h e lt =
    let more : n + 1 + i ≡ n + suc i = omega arith in
    subst (λ (k : ℕ). height_at heights k op ≤ 1000) more (heights_low heights (n + 1) xs i op b h.1 e lt)

-- ---- behind the instructions of a function there are no operands

taken_code : (T : List ℕ) (ops : List Op) (op : ℕ) → length ops ≤ op → take op (code_of T ops) ≡ code_of T ops
taken_code T ops op le = take_all op (code_of T ops) (let n = length-map ops (λ o. placed o.at (item_of T o.code)) in omega (arith, n, le))

none_past : (m : Module) (heights : List (List ℕ)) → Valid m → AreHeights m heights → (i op : ℕ) (b : Body) → slice_get m.bodies i ≡ Some b → length b.ops ≤ op → height_at heights i op ≡ 0
none_past m heights valid are i op b e le =
    let fine = fine_at m i b valid e in
    let type = fine.0 in
    let code = code_of b.targets b.ops in
    let gives = gives_one m (length m.imports + i) type valid fine.1 in
    ⊎_elim
    (λ live.
    (let last : TypesBefore m type b op [] = record {
      result = result_of type;
      gives = gives;
      blocks = [];
      leads = subst (λ z. FlatTypes (body_context m type b) (body_block (result_of type)) z []) (sym (taken_code b.targets b.ops op le)) (body_steps m type b (result_of type) code gives fine.2);
      live = live;
      types_are = refl;
    } in
    are.live i op type b [] e fine.1 last))
    (λ dead. are.dead i op b e dead)
    (live_or (dead_behind (false ∷ []) (take op code)))

-- behind the functions there are no heights
none_behind : (heights : List (List ℕ)) (i op : ℕ) → length heights ≤ i → height_at heights i op ≡ 0
none_behind heights i op le = ap (λ (o : Option (List ℕ)). unwrap_or (slice_get (unwrap_or o []) op) 0) (slice_get_past heights i le)

-- each height is within a bound, where those before the instructions are
pub all_low : (m : Module) (heights : List (List ℕ)) (N : ℕ) → Valid m → AreHeights m heights → length heights ≤ length m.bodies
    → ((i op : ℕ) (b : Body) → slice_get m.bodies i ≡ Some b → op < length b.ops → height_at heights i op ≤ N) → (i op : ℕ) → height_at heights i op ≤ N
all_low m heights N valid are few low i op = by (slice_get m.bodies i) refl
  where
    by : (o : Option Body) → slice_get m.bodies i ≡ o → height_at heights i op ≤ N
    by None e = let z = none_behind heights i op (omega (arith, few, slice_get_none m.bodies i e)) in omega (arith, z)
    by (Some b) e = elim (cases_lt op (length b.ops)) [
      | inl lt ↦ low i op b e lt
      | inr le ↦ let z = none_past m heights valid are i op b e le in omega (arith, z)
    ]

-- ---- a module

pub kept : (m : Module) (heights : List (List ℕ)) → Valid m → AreHeights m heights → length heights ≤ length m.bodies → first_excess m heights ≡ None → LightEnough m
unfolding first_excess
kept m heights valid are few e =
    let weigh : Option Excess = first_over Weight (weight m heights ∷ []) in
    let nest : Option Excess = first_over InstrumentNesting (map nesting m.bodies) in
    let high : Option Excess = first_over InstrumentHeight (function_heights heights 0 m.bodies) in
    let take_ : Option Excess = first_over InstrumentParameters (map (λ t. length t.params) m.types) in
    let a = none_left (first_over InstrumentLocals (function_locals m 0 m.bodies)) (take_ orelse (high orelse (nest orelse weigh))) e in
    let b = none_left take_ (high orelse (nest orelse weigh)) a.1 in
    let c = none_left high (nest orelse weigh) b.1 in
    let d = none_left nest weigh c.1 in
    let heavy = none_over Weight (weight m heights ∷ []) d.1 in
    let heights_ = none_over InstrumentHeight (function_heights heights 0 m.bodies) c.0 in
    record {
      few_locals = λ i body at. (let z : 0 + i ≡ i = omega arith in subst (λ (k : ℕ). local_count (type_at m (length m.imports + k)) body ≤ 10000) z (locals_low m 0 m.bodies i body (none_over InstrumentLocals (function_locals m 0 m.bodies) a.0) at));
      few_parameters = all_from_map (λ n. n ≤ 1000) (λ (t : FuncType). length t.params) m.types (none_over InstrumentParameters (map (λ t. length t.params) m.types) b.0);
      heights = heights;
      heights_are = are;
      low = all_low m heights 1000 valid are few (λ i op body at lt. (let z : 0 + i ≡ i = omega arith in subst (λ (k : ℕ). height_at heights k op ≤ 1000) z (heights_low heights 0 m.bodies i op body heights_ at lt)));
      shallow = all_from_map (λ n. n ≤ 1000) nesting m.bodies (none_over InstrumentNesting (map nesting m.bodies) d.0);
      light = heavy.0;
    }
