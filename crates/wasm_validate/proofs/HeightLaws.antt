-- From marks to the operand types of the typing.
use Rattle.std.proofs.Common.{◌≡◌, ℕ, zero, suc, ◌+◌, ◌-◌, ◌<◌, ◌≤◌, List, [], ◌∷◌, map, length, take, slice_get, refl, sym, ap, subst, ◌∙◌, arith, inl, inr, ⊎_elim, ◌++◌}
use Rattle.std.proofs.lemmas.List.{map-append, length-map}
use Rattle.validate_body.proofs.StackLaws.{take_one}
use Rattle.std.proofs.lemmas.Option.{slice_get_within, slice_get-map}
use Rattle.std.specs.Prelude.{Option, Some, None, option_map, unwrap_or, ◌⊎◌}
use Rattle.wasm_syntax.specs.declared.value.ValType.{ValType}
use Rattle.wasm_syntax.specs.declared.parts.FuncType.{FuncType}
use Rattle.wasm_syntax.specs.declared.parts.Body.{Body}
use Rattle.wasm_syntax.specs.declared.module.ModuleParts.{ModuleParts as Module}
use Rattle.wasm_syntax.specs.Module.{type_at, option_then}
use Rattle.wasm_syntax.specs.FlatTyping.{TypesBefore}
use Rattle.wasm_syntax.specs.Valid.{defined_index}
use Rattle.wasm_laws.proofs.Lists.{get_within}
use Rattle.validate_body.specs.declared.marks.Mark.{Mark}
use Rattle.validate_body.proofs.Options.{then_some, map_inv}
use Rattle.wasm_validate.specs.Heights.{TypesAt, HasOp, HeightIs, StandsIn, AllLow, FirstHigh}
use Rattle.wasm_validate.specs.calls.Instructions.{HeightsAre}
use Rattle.wasm_validate.specs.calls.MarkedHeights.{height_or_zero, heights_of, IsGreatest, LowMarks, FirstHighMarks}
use Rattle.wasm_validate.specs.calls.Whole.{MarkedAt, MarkedUpTo}
use Rattle.wasm_validate.proofs.Order.{index_back}
use Rattle.wasm_validate.proofs.WholeLaws.{body_at}
use Rattle.pm_text.proofs.Lists.{some_is}
use Rattle.wasm_syntax.proofs.Types.{then_found}

-- ---- one function

pub at_of : (m : Module) (i op : ℕ) (type : FuncType) (body : Body) (types : List ValType) → type_at m (length m.imports + i) ≡ Some type → slice_get m.bodies i ≡ Some body → TypesAt m (length m.imports + i) op types → TypesBefore m type body op types
at_of m i op type body types e b h =
    let p : h.0 ≡ type = some_is (sym h.2 ∙ e) in
    let q : h.1 ≡ body = some_is (sym h.3 ∙ body_at m i body b) in
    subst (λ x. TypesBefore m type x op types) q (subst (λ x. TypesBefore m x h.1 op types) p h.4)

of_at : (m : Module) (i op : ℕ) (type : FuncType) (body : Body) (types : List ValType) → type_at m (length m.imports + i) ≡ Some type → slice_get m.bodies i ≡ Some body → TypesBefore m type body op types → TypesAt m (length m.imports + i) op types
of_at m i op type body types e b h = (type, body, e, body_at m i body b, h)

abbrev pub height_option : Option Mark → Option ℕ
height_option k = option_map (λ k. k.height) k

pub height_at : (m : Module) (i op : ℕ) (marks : List (Option Mark)) (k : Option Mark) → MarkedAt m i marks → slice_get marks op ≡ Some k → HeightIs (height_option k) m (length m.imports + i) op
height_at m i op marks None h e = λ types t. h.4.each op None e types (at_of m i op h.0 h.1 types h.2 h.3 t)
height_at m i op marks (Some k) h e =
    let s = h.4.each op (Some k) e in (
      (s.0.0, of_at m i op h.0 h.1 s.0.0 h.2 h.3 s.0.1, sym s.0.2.0),
      λ types t. sym (s.1 types (at_of m i op h.0 h.1 types h.2 h.3 t)).0,
    )

-- ---- the mark of an instruction

pub record MarkAt (all : List (List (Option Mark))) (m : Module) (f op : ℕ) : Type 0 where
  pub index : ℕ
  pub marks : List (Option Mark)
  pub mark : Option Mark
  pub function : f ≡ length m.imports + index
  pub there : slice_get all index ≡ Some marks
  pub at : slice_get marks op ≡ Some mark
  pub marked : MarkedAt m index marks

pub mark_at : (all : List (List (Option Mark))) (m : Module) (f op : ℕ) → MarkedUpTo all m (length m.bodies) → HasOp m f op → MarkAt all m f op
mark_at all m f op h o =
    let i = then_found (defined_index m f) (slice_get m.bodies) o.0 o.1 in
    let lt : i.0 < length m.bodies = slice_get_within m.bodies i.0 o.0 i.2 in
    let a = get_within all i.0 (omega (arith, lt, h.as_many)) in
    let k = h.each i.0 a.0 a.1 in
    let q : k.1 ≡ o.0 = some_is (sym k.3 ∙ i.2) in
    let n : op < length k.1.ops = subst (λ x. op < length x.ops) (sym q) o.2 in
    let r = get_within a.0 op (omega (arith, n, k.4.as_many)) in
    record { index = i.0; marks = a.0; mark = r.0; function = index_back m f i.0 i.1; there = a.1; at = r.1; marked = k }

pub height_of_mark : (all : List (List (Option Mark))) (m : Module) (f op : ℕ) (a : MarkAt all m f op) → HeightIs (height_option a.mark) m f op
height_of_mark all m f op a = subst (λ n. HeightIs (height_option a.mark) m n op) (sym a.function) (height_at m a.index op a.marks a.mark a.marked a.at)

-- where operand types stand, there is a mark with their number
abbrev pub Standing : (all : List (List (Option Mark))) (m : Module) (f n : ℕ) → Type 0
Standing all m f n = (i : ℕ) × (marks : List (Option Mark)) × (op : ℕ) × (k : Mark) × (f ≡ length m.imports + i) × (slice_get all i ≡ Some marks) × (slice_get marks op ≡ Some (Some k)) × (k.height ≡ n)

standing : (all : List (List (Option Mark))) (m : Module) (f n : ℕ) → MarkedUpTo all m (length m.bodies) → StandsIn m f n → Standing all m f n
standing all m f n h s =
    let a = mark_at all m f s.0 h s.1 in
    by_mark a.mark a.index a.marks a.function a.there a.at (height_of_mark all m f s.0 a)
  where
    by_mark : (k : Option Mark) (i : ℕ) (marks : List (Option Mark)) → f ≡ length m.imports + i → slice_get all i ≡ Some marks → slice_get marks s.0 ≡ Some k → HeightIs (height_option k) m f s.0 → Standing all m f n
    by_mark None i marks e t a l = absurd (l s.2 s.3)
    by_mark (Some k) i marks e t a l = (i, marks, s.0, k, e, t, a, sym (l.1 s.2 s.3) ∙ s.4)

-- ---- low and high

pub all_low : (all : List (List (Option Mark))) (m : Module) → MarkedUpTo all m (length m.bodies) → FirstHighMarks all None → AllLow m
all_low all m h l f n s =
    let a = standing all m f n h s in
    let k = l a.0 a.1 a.5 a.2 a.3 a.6 in
    subst (λ x. x ≤ 4096) a.7 k

pub first_high : (all : List (List (Option Mark))) (m : Module) (n : ℕ) → MarkedUpTo all m (length m.bodies) → FirstHighMarks all (Some n) → FirstHigh m n
first_high all m n h l =
    let i = l.0 in
    let k = h.each i l.1 l.2 in
    let pos : 0 < n = omega (arith, l.4) in
    let t = l.3.there pos in
    let op : t.0 < length k.1.ops = (let w = slice_get_within l.1 t.0 (Some t.1) t.2 in omega (arith, w, k.4.as_many)) in
    let s = height_at m i t.0 l.1 (Some t.1) k t.2 in
    record {
      function = length m.imports + i;
      there = (t.0, (k.1, body_at m i k.1 k.3, op), s.0.0, s.0.1, s.0.2 ∙ t.3);
      most = λ j s'.
          let a = standing all m (length m.imports + i) j h s' in
          let q : a.0 ≡ i = omega (arith, a.4) in
          let e : a.1 ≡ l.1 = some_is (sym a.5 ∙ ap (slice_get all) q ∙ l.2) in
          subst (λ x. x ≤ n) a.7 (l.3.most a.2 a.3 (subst (λ x. slice_get x a.2 ≡ Some (Some a.3)) e a.6));
      passes = l.4;
      earlier = λ f j lt s'.
          let a = standing all m f j h s' in
          let q : a.0 < i = omega (arith, a.4, lt) in
          subst (λ x. x ≤ 4096) a.7 (l.5 a.0 a.1 q a.5 a.2 a.3 a.6);
    }

-- ---- the heights

zero_is : (k : Option Mark) → height_or_zero k ≡ unwrap_or (height_option k) 0
zero_is None = refl
zero_is (Some k) = refl

length_map : (all : List (List (Option Mark))) → length (heights_of all) ≡ length all
length_map [] = refl
length_map (x ∷ xs) = ap suc (length_map xs)

pub heights_are : (all : List (List (Option Mark))) (m : Module) (heights : List (List ℕ)) → MarkedUpTo all m (length m.bodies) → heights ≡ heights_of all → HeightsAre heights m
heights_are all m heights h e = subst (λ x. HeightsAre x m) (sym e) (record {
  as_many = length_map all ∙ h.as_many;
  long = λ i ns body a b.
      let x = map_inv (map height_or_zero) (slice_get all i) ns (sym (slice_get-map (map height_or_zero) all i) ∙ a) in
      let k = h.each i x.0 x.1 in
      let same : k.1 ≡ body = some_is (sym k.3 ∙ b) in
      ap length (sym x.2) ∙ length-map x.0 height_or_zero ∙ k.4.as_many ∙ ap (λ (b : Body). length b.ops) same;
  each = λ i op ns n a b.
      let x = map_inv (map height_or_zero) (slice_get all i) ns (sym (slice_get-map (map height_or_zero) all i) ∙ a) in
      let c = subst (λ z. slice_get z op ≡ Some n) (sym x.2) b in
      let y = map_inv height_or_zero (slice_get x.0 op) n (sym (slice_get-map height_or_zero x.0 op) ∙ c) in
      (height_option y.0, height_at m i op x.0 y.0 (h.each i x.0 x.1) y.1, sym y.2 ∙ zero_is y.0);
})

-- ---- the greatest height, as far as a loop has come

pub record GreatestUpTo (marks : List (Option Mark)) (i n : ℕ) : Type 0 where
  pub most : (j : ℕ) (k : Mark) → j < i → slice_get marks j ≡ Some (Some k) → k.height ≤ n
  pub there : 0 < n → (j : ℕ) × (k : Mark) × (slice_get marks j ≡ Some (Some k)) × (k.height ≡ n)

pub greatest_none : (marks : List (Option Mark)) → GreatestUpTo marks 0 0
greatest_none marks = record { most = λ j k lt e. absurd (omega (arith, lt)); there = λ p. absurd (omega (arith, p)) }

pub below_or : (j i : ℕ) → j ≤ i → (j < i) ⊎ (j ≡ i)
below_or zero zero le = inr refl
below_or zero (suc i) le = inl (omega arith)
below_or (suc j) zero le = absurd (omega arith)
below_or (suc j) (suc i) le = ⊎_elim (λ a. inl (omega (arith, a))) (λ b. inr (ap suc b)) (below_or j i (omega arith))

some_height : (marks : List (Option Mark)) (i n : ℕ) (k : Option Mark) → slice_get marks i ≡ Some k → 0 < n → n ≡ height_or_zero k → (j : ℕ) × (x : Mark) × (slice_get marks j ≡ Some (Some x)) × (x.height ≡ n)
some_height marks i n None e p q = absurd (omega (arith, p, q))
some_height marks i n (Some x) e p q = (i, x, e, sym q)

pub greatest_more : (marks : List (Option Mark)) (i n new : ℕ) (k : Option Mark) → slice_get marks i ≡ Some k → GreatestUpTo marks i n → n ≤ new → height_or_zero k ≤ new → (new ≡ n) ⊎ (new ≡ height_or_zero k) → GreatestUpTo marks (i + 1) new
greatest_more marks i n new k e h over holds either = record {
  most = λ j x lt g. ⊎_elim (λ a. let b = h.most j x a g in omega (arith, b, over))
      (λ a. let q : k ≡ Some x = some_is (sym e ∙ ap (slice_get marks) (sym a) ∙ g) in subst (λ z. height_or_zero z ≤ new) q holds) (below_or j i (omega (arith, lt)));
  there = λ p. ⊎_elim (λ a. let t = h.there (omega (arith, p, a)) in (t.0, t.1, t.2, t.3 ∙ sym a)) (λ a. some_height marks i new k e p a) either;
}

pub greatest_all : (marks : List (Option Mark)) (i n : ℕ) → length marks ≤ i → GreatestUpTo marks i n → IsGreatest marks n
greatest_all marks i n le h = record {
  most = λ j k e. let w = slice_get_within marks j (Some k) e in h.most j k (omega (arith, w, le)) e;
  there = h.there;
}

-- ---- low functions, as far as a loop has come

abbrev pub LowUpTo : List (List (Option Mark)) → ℕ → Type 0
LowUpTo all i = (j : ℕ) (marks : List (Option Mark)) → j < i → slice_get all j ≡ Some marks → LowMarks marks

pub low_none : (all : List (List (Option Mark))) → LowUpTo all 0
low_none all j marks lt e = absurd (omega (arith, lt))

pub low_more : (all : List (List (Option Mark))) (i n : ℕ) (marks : List (Option Mark)) → slice_get all i ≡ Some marks → IsGreatest marks n → n ≤ 4096 → LowUpTo all i → LowUpTo all (i + 1)
low_more all i n marks e g le h j ms lt q =
    ⊎_elim (λ a. h j ms a q)
    (λ a. let r : marks ≡ ms = some_is (sym e ∙ ap (slice_get all) (sym a) ∙ q) in
    subst LowMarks r (λ x k f. let b = g.most x k f in omega (arith, b, le))) (below_or j i (omega (arith, lt)))

pub low_all : (all : List (List (Option Mark))) (i : ℕ) → length all ≤ i → LowUpTo all i → FirstHighMarks all None
low_all all i le h j marks e = let w = slice_get_within all j marks e in h j marks (omega (arith, w, le)) e

-- ---- the heights, as far as a loop has come

pub map_next : {A B : Type 0} (f : A → B) (xs : List A) (i : ℕ) (x : A) (now : List B) → slice_get xs i ≡ Some x → now ≡ map f (take i xs) → now ++ f x ∷ [] ≡ map f (take (i + 1) xs)
map_next f xs i x now e h =
    ap (λ z. z ++ f x ∷ []) h ∙ sym (map-append f (take i xs) (x ∷ [])) ∙ ap (map f) (sym (take_one xs i x e))

pub map_whole : {A B : Type 0} (f : A → B) (xs : List A) (i : ℕ) (now : List B) → length xs ≤ i → now ≡ map f (take i xs) → now ≡ map f xs
map_whole {A} f xs i now le h = h ∙ ap (map f) (take_all xs i le)
  where
    take_all : (xs : List A) (i : ℕ) → length xs ≤ i → take i xs ≡ xs
    take_all [] zero le = refl
    take_all [] (suc i) le = refl
    take_all (x ∷ xs) zero le = absurd (omega (arith, le))
    take_all (x ∷ xs) (suc i) le = ap (λ z. x ∷ z) (take_all xs i (omega (arith, le)))

pub low_height : (marks : List (Option Mark)) (i : ℕ) (k : Option Mark) → LowMarks marks → slice_get marks i ≡ Some k → height_or_zero k ≤ 4096
low_height marks i None l e = omega arith
low_height marks i (Some k) l e = l i k e

-- ---- the mark that the code finds

pub mark_found : (all : List (List (Option Mark))) (m : Module) (f op i n : ℕ) (a : MarkAt all m f op) (r : Option Mark) → n ≡ length m.imports → i ≡ f - n → ((k : Option Mark) → option_then (slice_get all i) (λ marks. slice_get marks op) ≡ Some k → r ≡ k) → r ≡ a.mark
mark_found all m f op i n a r e q h =
    let p : i ≡ a.index = (let g = a.function in omega (arith, e, q, g)) in
    h a.mark (then_some (slice_get all i) (λ marks. slice_get marks op) a.marks a.mark (ap (slice_get all) p ∙ a.there) a.at)

pub low_mark : (all : List (List (Option Mark))) (m : Module) (f op : ℕ) (a : MarkAt all m f op) (k : Mark) → FirstHighMarks all None → a.mark ≡ Some k → k.height ≤ 4096
low_mark all m f op a k l e = l a.index a.marks a.there op k (a.at ∙ ap (λ x. Some x) e)
