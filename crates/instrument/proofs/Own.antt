-- The heights that validation gives are those of the module, and low.
use Rattle.std.proofs.Common.{◌≡◌, ℕ, ◌+◌, ◌<◌, ◌≤◌, List, [], length, take, Option, Some, None, slice_get, get_or, unwrap_or, inl, inr, refl, ap, sym, subst, ◌∙◌, arith}
use Rattle.std.proofs.lemmas.Bool.{cases_lt}
use Rattle.std.proofs.lemmas.List.{length-map, take_all}
use Rattle.std.proofs.lemmas.Option.{slice_get_within, slice_get_past, slice_get-get_or}
use Rattle.wasm_syntax.specs.declared.instruction.Op.{Op}
use Rattle.wasm_syntax.specs.declared.value.ValType.{ValType}
use Rattle.wasm_syntax.specs.declared.parts.Body.{Body}
use Rattle.wasm_syntax.specs.declared.parts.FuncType.{FuncType}
use Rattle.wasm_syntax.specs.declared.module.ModuleParts.{ModuleParts as Module}
use Rattle.wasm_syntax.specs.Tree.{placed, item_of, code_of}
use Rattle.wasm_syntax.specs.Module.{type_at, option_then}
use Rattle.wasm_syntax.specs.Machine.{result_of}
use Rattle.wasm_syntax.specs.Typing.{body_context}
use Rattle.wasm_syntax.specs.FlatTyping.{FlatTypes, body_block, IsLive, TypesBefore}
use Rattle.wasm_syntax.specs.Valid.{Valid, body_of}
use Rattle.wasm_laws.proofs.FlatBodies.{body_steps}
use Rattle.wasm_laws.proofs.FlatOne.{one_before}
use Rattle.wasm_validate.specs.Heights.{TypesAt, HeightIs, AllLow}
use Rattle.wasm_validate.specs.calls.Instructions.{HeightsAre}
use Rattle.rewrite_modules.specs.Weight.{height_at, AreHeights}
use Rattle.rewrite_modules.proofs.FineBodies.{fine_at, gives_one}
use Rattle.index_map.proofs.WithinLimits.{all_low}
use Rattle.instrument.specs.Refusal.{OwnHeights}
use Rattle.pm_text.proofs.Lists.{some_is}
use Rattle.wasm_syntax.proofs.Bodies.{index_of}

module _ (m : Module) (heights : List (List ℕ)) (valid : Valid m) (are : HeightsAre heights m) where
  body_there : (i : ℕ) (b : Body) → slice_get m.bodies i ≡ Some b → body_of m (length m.imports + i) ≡ Some b
  body_there i b e = ap (λ (o : Option ℕ). option_then o (slice_get m.bodies)) (index_of m i) ∙ e

  -- the heights of a function
  list_there : (i : ℕ) (b : Body) → slice_get m.bodies i ≡ Some b → (ns : List ℕ) × (slice_get heights i ≡ Some ns)
  list_there i b e =
      let within : i < length heights = omega (arith, slice_get_within m.bodies i b e, are.as_many) in
      (get_or heights i [], slice_get-get_or heights i [] within)

  height_is : (i op : ℕ) (ns : List ℕ) → slice_get heights i ≡ Some ns → height_at heights i op ≡ unwrap_or (slice_get ns op) 0
  height_is i op ns e = ap (λ (o : Option (List ℕ)). unwrap_or (slice_get (unwrap_or o []) op) 0) e

  -- before an instruction of a function: its height by validation
  record Here (i op : ℕ) : Type 0 where
    pub height : Option ℕ
    pub is : HeightIs height m (length m.imports + i) op
    pub at : height_at heights i op ≡ unwrap_or height 0

  here : (i op : ℕ) (b : Body) → slice_get m.bodies i ≡ Some b → op < length b.ops → Here i op
  here i op b e lt =
      let list = list_there i b e in
      let within : op < length list.0 = omega (arith, lt, are.long i list.0 b list.1 e) in
      let h = get_or list.0 op 0 in
      let there = slice_get-get_or list.0 op 0 within in
      let k = are.each i op list.0 h list.1 there in
      record { height = k.0; is = k.1; at = height_is i op list.0 list.1 ∙ ap (λ (o : Option ℕ). unwrap_or o 0) there ∙ k.2 }

  past : (i op : ℕ) (b : Body) → slice_get m.bodies i ≡ Some b → length b.ops ≤ op → height_at heights i op ≡ 0
  past i op b e le =
      let list = list_there i b e in
      let none : length list.0 ≤ op = omega (arith, le, are.long i list.0 b list.1 e) in
      height_is i op list.0 list.1 ∙ ap (λ (o : Option ℕ). unwrap_or o 0) (slice_get_past list.0 op none)

  types_at : (i op : ℕ) (type : FuncType) (b : Body) (types : List ValType) → slice_get m.bodies i ≡ Some b → type_at m (length m.imports + i) ≡ Some type → TypesBefore m type b op types → TypesAt m (length m.imports + i) op types
  types_at i op type b types e t h = (type, b, t, body_there i b e, h)

  taken_code : (T : List ℕ) (ops : List Op) (op : ℕ) → length ops ≤ op → take op (code_of T ops) ≡ code_of T ops
  taken_code T ops op le = take_all op (code_of T ops) (let n = length-map ops (λ o. placed o.at (item_of T o.code)) in omega (arith, n, le))

  -- behind the last instruction there are no operands
  none_past : (i op : ℕ) (type : FuncType) (b : Body) (types : List ValType) → slice_get m.bodies i ≡ Some b → type_at m (length m.imports + i) ≡ Some type → length b.ops ≤ op → TypesBefore m type b op types → types ≡ []
  none_past i op type b types e t le h =
      let fine = fine_at m i b valid e in
      let one = fine.0 in
      let code = code_of b.targets b.ops in
      let same : one ≡ type = some_is (sym fine.1 ∙ t) in
      let gives = gives_one m (length m.imports + i) one valid fine.1 in
      let last : TypesBefore m one b op [] = record {
        result = result_of one;
        gives = gives;
        blocks = [];
        leads = subst (λ z. FlatTypes (body_context m one b) (body_block (result_of one)) z []) (sym (taken_code b.targets b.ops op le)) (body_steps m one b (result_of one) code gives fine.2);
        live = h.live;
        types_are = refl;
      } in
      one_before m type b op types [] h (subst (λ (x : FuncType). TypesBefore m x b op []) same last)

  live : (i op : ℕ) (type : FuncType) (b : Body) (types : List ValType) → slice_get m.bodies i ≡ Some b → type_at m (length m.imports + i) ≡ Some type → TypesBefore m type b op types → height_at heights i op ≡ length types
  live i op type b types e t h = elim (cases_lt op (length b.ops)) [
    | inl lt ↦ (let z = here i op b e lt in z.at ∙ by z.height z.is)
    | inr le ↦ past i op b e le ∙ ap length (sym (none_past i op type b types e t le h))
  ]
    where
      by : (o : Option ℕ) → HeightIs o m (length m.imports + i) op → unwrap_or o 0 ≡ length types
      by None is = absurd (is types (types_at i op type b types e t h))
      by (Some k) is = sym (is.1 types (types_at i op type b types e t h))

  dead : (i op : ℕ) (b : Body) → slice_get m.bodies i ≡ Some b → (IsLive (code_of b.targets b.ops) op → ⊥) → height_at heights i op ≡ 0
  dead i op b e never = elim (cases_lt op (length b.ops)) [
    | inl lt ↦ (let z = here i op b e lt in z.at ∙ by z.height z.is)
    | inr le ↦ past i op b e le
  ]
    where
      by : (o : Option ℕ) → HeightIs o m (length m.imports + i) op → unwrap_or o 0 ≡ 0
      by None is = refl
      by (Some k) is =
          let t = is.0.1 in
          let same : t.1 ≡ b = some_is (sym t.3 ∙ body_there i b e) in
          absurd (never (subst (λ (x : Body). IsLive (code_of x.targets x.ops) op) same t.4.live))

  are_heights : AreHeights m heights
  are_heights = record { live = λ i op type b types e t h. live i op type b types e t h; dead = dead }

  low : AllLow m → (i op : ℕ) (b : Body) → slice_get m.bodies i ≡ Some b → op < length b.ops → height_at heights i op ≤ 4096
  low all i op b e lt = let z = here i op b e lt in subst (λ (n : ℕ). n ≤ 4096) (sym z.at) (by z.height z.is)
    where
      by : (o : Option ℕ) → HeightIs o m (length m.imports + i) op → unwrap_or o 0 ≤ 4096
      by None is = omega arith
      by (Some k) is = all (length m.imports + i) k (op, (b, body_there i b e, lt), is.0.0, is.0.1, is.0.2)

  pub own : AllLow m → OwnHeights m heights
  own all = record {
    are = are_heights;
    as_many = are.as_many;
    low = all_low m heights 4096 valid are_heights (omega (arith, are.as_many)) (low all);
  }
