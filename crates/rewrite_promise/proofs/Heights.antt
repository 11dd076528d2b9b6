-- The heights of the operands in a valid module are unique, so that it has one weight.
use Rattle.std.proofs.Common.{◌≡◌, ℕ, suc, ◌+◌, ◌*◌, ⊎_elim, false, List, [], ◌∷◌, length, take, Some, refl, sym, ap, ap₂, ◌∙◌, subst, arith, slice_get, max}
use Rattle.wasm_syntax.specs.declared.instruction.Op.{Op}
use Rattle.wasm_syntax.specs.declared.parts.Body.{Body}
use Rattle.wasm_syntax.specs.declared.module.ModuleParts.{ModuleParts as Module}
use Rattle.wasm_syntax.specs.Tree.{code_of}
use Rattle.wasm_syntax.specs.Module.{type_at}
use Rattle.wasm_syntax.specs.Run.{table_min}
use Rattle.wasm_syntax.specs.FlatTyping.{dead_behind}
use Rattle.wasm_syntax.specs.Sizes.{local_count}
use Rattle.wasm_syntax.specs.Valid.{Valid}
use Rattle.rewrite_modules.specs.Weight.{height_at, AreHeights, op_weight, ops_weight, bodies_weight, types_used, exports_weight, start_weight, weight}
use Rattle.rewrite_modules.specs.Multiple.{most_locals, highest, most_operands, multiple}
use Rattle.rewrite_modules.proofs.FineBodies.{fine_at, gives_one}
use Rattle.rewrite_modules.proofs.Multiple.{live_or, before_live}

-- ---- the weight

pub same_ops : (g h : ℕ → ℕ) → ((j : ℕ) → g j ≡ h j) → (j : ℕ) (ops : List Op) → ops_weight g j ops ≡ ops_weight h j ops
same_ops g h e j [] = refl
same_ops g h e j (o ∷ os) = ap₂ (λ (a b : ℕ). op_weight o a + b) (e j) (same_ops g h e (suc j) os)

module _ (m : Module) (valid : Valid m) (g h : List (List ℕ)) (are : AreHeights m g) (too : AreHeights m h) where
  pub same_height : (i op : ℕ) (body : Body) → slice_get m.bodies i ≡ Some body → height_at g i op ≡ height_at h i op
  same_height i op body e =
      let f = length m.imports + i in
      let fine = fine_at m i body valid e in
      ⊎_elim
      (λ live. let t = before_live m fine.0 body op (gives_one m f fine.0 valid fine.1) fine.2 live in are.live i op fine.0 body t.0 e fine.1 t.1 ∙ sym (too.live i op fine.0 body t.0 e fine.1 t.1))
      (λ dead. are.dead i op body e dead ∙ sym (too.dead i op body e dead))
      (live_or (dead_behind (false ∷ []) (take op (code_of body.targets body.ops))))

  same_bodies : (i : ℕ) (bs : List Body) → ((n : ℕ) (b : Body) → slice_get bs n ≡ Some b → slice_get m.bodies (i + n) ≡ Some b) → bodies_weight m g i bs ≡ bodies_weight m h i bs
  same_bodies i [] at = refl
  same_bodies i (b ∷ bs) at =
      let same : i + 0 ≡ i = omega arith in
      let here : slice_get m.bodies i ≡ Some b = subst (λ (n : ℕ). slice_get m.bodies n ≡ Some b) same (at 0 b refl) in
      let locals = local_count (type_at m (length m.imports + i)) b in
      let rest = same_bodies (suc i) bs (λ n c e. (let k : i + suc n ≡ suc i + n = omega arith in subst (λ (n : ℕ). slice_get m.bodies n ≡ Some c) k (at (suc n) c e))) in
      ap₂ (λ (x y : ℕ). 192 + 16 * locals + x + y) (same_ops (height_at g i) (height_at h i) (λ j. same_height i j b here) 0 b.ops) rest

  from_first : (n : ℕ) (b : Body) → slice_get m.bodies n ≡ Some b → slice_get m.bodies (0 + n) ≡ Some b
  from_first n b e = let k : n ≡ 0 + n = omega arith in subst (λ (n : ℕ). slice_get m.bodies n ≡ Some b) k e

  pub one_weight : weight m g ≡ weight m h
  one_weight = ap (λ (x : ℕ). 512 + 8 * m.plain_bytes + x + length (types_used m) * (128 + 5 * table_min m.tables) + exports_weight m m.exports + start_weight m m.start) (same_bodies 0 m.bodies from_first)

  -- ---- the multiple of the steps

  same_highest : (i : ℕ) (j : ℕ) (ops : List Op) → ((op : ℕ) → height_at g i op ≡ height_at h i op) → highest (height_at g i) j ops ≡ highest (height_at h i) j ops
  same_highest i j [] e = refl
  same_highest i j (o ∷ os) e = ap₂ (λ (a b : ℕ). max a b) (e j) (same_highest i (suc j) os e)

  same_operands : (i : ℕ) (bs : List Body) → ((n : ℕ) (b : Body) → slice_get bs n ≡ Some b → slice_get m.bodies (i + n) ≡ Some b) → most_operands g i bs ≡ most_operands h i bs
  same_operands i [] at = refl
  same_operands i (b ∷ bs) at =
      let same : i + 0 ≡ i = omega arith in
      let here : slice_get m.bodies i ≡ Some b = subst (λ (n : ℕ). slice_get m.bodies n ≡ Some b) same (at 0 b refl) in
      let rest = same_operands (suc i) bs (λ n c e. (let k : i + suc n ≡ suc i + n = omega arith in subst (λ (n : ℕ). slice_get m.bodies n ≡ Some c) k (at (suc n) c e))) in
      ap₂ (λ (x y : ℕ). max x y) (same_highest i 0 b.ops (λ j. same_height i j b here)) rest

  pub one_multiple : multiple m g ≡ multiple m h
  one_multiple = ap (λ (x : ℕ). 200 + 8 * (most_locals m 0 m.bodies + x + length m.globals)) (same_operands 0 m.bodies from_first)
