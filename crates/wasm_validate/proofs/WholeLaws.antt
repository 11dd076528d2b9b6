-- From bodies to modules.
use Rattle.std.proofs.Common.{◌≡◌, ℕ, zero, suc, ◌+◌, ◌<◌, ◌≤◌, ◌^◌, List, [], ◌∷◌, ◌++◌, map, length, refl, sym, ap, subst, ◌∙◌, arith, length-append, inl, inr, ⊎_elim}
use Rattle.std.proofs.lemmas.Option.{slice_get_within}
use Rattle.std.specs.Prelude.{Result, Ok, Err, Option, Some, None, slice_get, IfSome, IfOk, ◌⊎◌}
use Rattle.wasm_syntax.specs.declared.place.Place.{Place}
use Rattle.wasm_syntax.specs.declared.place.Place.TheVariants.{TypeAt, Declaration, Function}
use Rattle.wasm_syntax.specs.declared.parts.FuncType.{FuncType}
use Rattle.wasm_syntax.specs.declared.parts.Import.{Import}
use Rattle.wasm_syntax.specs.declared.parts.Body.{Body}
use Rattle.wasm_syntax.specs.declared.module.ModuleParts.{ModuleParts as Module}
use Rattle.wasm_syntax.specs.Module.{function_types, type_at, option_then, declared_locals}
use Rattle.wasm_syntax.specs.Tree.{Placed, code_of, placed}
use Rattle.wasm_syntax.specs.Typing.{Context, body_context, IsBody}
use Rattle.wasm_syntax.specs.Valid.{Fine, Valid, There, FirstWrong, FirstInvalid, OffsetIs, BodyFine, FuncTypeFine, DeclarationFine, defined_index, kind_number, index_number}
use Rattle.validate_body.specs.calls.Frames.{Frame}
use Rattle.validate_body.specs.declared.marks.Mark.{Mark}
use Rattle.validate_body.specs.calls.Marks.{Marked}
use Rattle.validate_body.specs.calls.Bodies.{Judged}
use Rattle.validate_body.specs.calls.Algorithm.{step, run, start}
use Rattle.validate_body.specs.declared.body.BodyFault.{BodyFault}
use Rattle.validate_body.specs.declared.body.BodyFault.TheVariants.{WrongAt, NoMemory}
use Rattle.validate_body.proofs.Options.{none_is, then_some}
use Rattle.validate_body.proofs.Same.{accepts, began}
use Rattle.validate_body.proofs.Through.{first_gives}
use Rattle.wasm_laws.proofs.Lists.{get_front, get_within}
use Rattle.wasm_syntax.specs.Sizes.{WithinLimits, local_count}
use Rattle.wasm_validate.specs.inner.Places.{UpTo}
use Rattle.wasm_validate.specs.calls.Whole.{BodiesUpTo, BodyJudged, MarkedAt, MarkedUpTo}
use Rattle.wasm_validate.proofs.Order.{there_is, there_from, index_back}
use Rattle.pm_text.proofs.Lists.{some_is, get_behind}
use Rattle.wasm_syntax.proofs.Bodies.{index_of, declared_length}
use Rattle.wasm_syntax.proofs.Types.{then_found}

-- ---- the type of a defined function

pub one_result : (m : Module) (f : ℕ) (t : FuncType) → UpTo m 10 0 → type_at m f ≡ Some t → length t.results ≤ 1
one_result m f t u e =
    let i = then_found (slice_get (function_types m) f) (λ k. slice_get m.types k) t e in
    there_is m.types i.0 FuncTypeFine t i.2 (u (TypeAt i.0) (inl (omega arith)))

map_length : (xs : List Import) → length (map (λ i. i.ftype) xs) ≡ length xs
map_length [] = refl
map_length (x ∷ xs) = ap suc (map_length xs)

pub has_type : (m : Module) (i : ℕ) → UpTo m 10 0 → i < length m.functions → (t : FuncType) × (type_at m (length m.imports + i) ≡ Some t)
has_type m i u le =
    let k = get_within m.functions i le in
    let d : IfSome (defined_index m (length m.imports + i)) (λ j. There m.functions j (DeclarationFine m)) = u (Declaration (length m.imports + i)) (inl (omega arith)) in
    let d' : There m.functions i (DeclarationFine m) = subst (λ o. IfSome o (λ j. There m.functions j (DeclarationFine m))) (index_of m i) d in
    let lt : DeclarationFine m k.0 = there_is m.functions i (DeclarationFine m) k.0 k.1 d' in
    let t = get_within m.types k.0 lt in
    let g : slice_get (function_types m) (length m.imports + i) ≡ Some k.0 =
    ap (λ n. slice_get (function_types m) (n + i)) (sym (map_length m.imports)) ∙ get_behind (map (λ x. x.ftype) m.imports) m.functions i ∙ k.1 in
    (t.0, then_some (slice_get (function_types m) (length m.imports + i)) (λ k. slice_get m.types k) k.0 t.0 g t.1)

-- ---- a wrong body

run_front : (c : Context) (ps qs : List Placed) (fs r : List Frame) → run c fs (ps ++ qs) ≡ Some r → (gs : List Frame) × (run c fs ps ≡ Some gs)
run_front c [] qs fs r e = (fs, refl)
run_front c (p ∷ ps) qs fs r e =
    let i = then_found (step c fs p.code) (λ gs. run c gs (ps ++ qs)) r e in
    let j = run_front c ps qs i.0 r i.2 in
    (j.0, then_some (step c fs p.code) (λ gs. run c gs ps) i.0 j.0 i.1 j.1)

split_more : (before : List Placed) (p : Placed) (after : List Placed) → before ++ p ∷ after ≡ (before ++ p ∷ []) ++ after
split_more [] p after = refl
split_more (b ∷ before) p after = ap (λ x. b ∷ x) (split_more before p after)

pub not_both : (m : Module) (type : FuncType) (body : Body) (offset : ℕ) → length type.results ≤ 1 → FirstWrong m type body offset → IsBody m type body (code_of body.targets body.ops) → ⊥
not_both m type body offset le w b =
    let g = first_gives type.results le in
    let c = body_context m type body in
    let s = start (slice_get type.results 0) in
    let r = accepts m type body (slice_get type.results 0) (code_of body.targets body.ops) g b in
    let q = ap (λ x. run c s x) (sym (w.splits ∙ split_more w.before (placed offset w.code) w.after)) ∙ r in
    let f = run_front c (w.before ++ placed offset w.code ∷ []) w.after s [] q in
    w.wrong (began m type body (slice_get type.results 0) (w.before ++ placed offset w.code ∷ []) f.0 g f.1)

pub body_at : (m : Module) (i : ℕ) (body : Body) → slice_get m.bodies i ≡ Some body → option_then (defined_index m (length m.imports + i)) (slice_get m.bodies) ≡ Some body
body_at m i body e = then_some (defined_index m (length m.imports + i)) (slice_get m.bodies) i body (index_of m i) e

pub same_type_at : (m : Module) (f : ℕ) (t u : FuncType) → type_at m f ≡ Some t → type_at m f ≡ Some u → t ≡ u
same_type_at m f t u e g = some_is (sym e ∙ g)

-- ---- the whole

function_fine : (m : Module) (f : ℕ) → ((i : ℕ) (body : Body) → defined_index m f ≡ Some i → slice_get m.bodies i ≡ Some body → BodyFine m f body) → IfSome (defined_index m f) (λ i. There m.bodies i (BodyFine m f))
function_fine m f h = by_index (defined_index m f) refl
  where
    by_index : (o : Option ℕ) → defined_index m f ≡ o → IfSome o (λ i. There m.bodies i (BodyFine m f))
    by_index None e = tt
    by_index (Some i) e = there_from m.bodies i (BodyFine m f) (λ x q. h i x e q)

pub all_valid : (m : Module) (n : ℕ) → UpTo m 10 0 → BodiesUpTo m n → length m.bodies ≤ n → Valid m
all_valid m n u b le (Function f offset) = function_fine m f (λ i x d e. subst (λ k. BodyFine m k x) (sym (index_back m f i d)) (let w : i < length m.bodies = slice_get_within m.bodies i x e in b i x (omega arith) e))
all_valid m n u b le place = u place (inl (omega arith))

pub first_invalid : (m : Module) (i offset : ℕ) (body : Body) → UpTo m 10 0 → BodiesUpTo m i → slice_get m.bodies i ≡ Some body → (BodyFine m (length m.imports + i) body → ⊥) → OffsetIs m (Function (length m.imports + i) offset) → FirstInvalid m (Function (length m.imports + i) offset)
first_invalid m i offset body u b e bad o = record {
  not_fine = λ h.
      let t : There m.bodies i (BodyFine m (length m.imports + i)) = subst (λ o. IfSome o (λ j. There m.bodies j (BodyFine m (length m.imports + i)))) (index_of m i) h in
      bad (there_is m.bodies i (BodyFine m (length m.imports + i)) body e t);
  earlier = λ other p. ⊎_elim (λ lt. u other (inl lt)) (λ q. same other q.0 q.1) p;
  offset = o;
}
  where
    same : (other : Place) → kind_number other ≡ 10 → index_number other < length m.imports + i → Fine m other
    same (Function f off) k lt = function_fine m f (λ j x d g. subst (λ n. BodyFine m n x) (sym (index_back m f j d)) (b j x (let w : f ≡ length m.imports + j = index_back m f j d in omega arith) g))
    same other k lt = absurd (omega arith)

pub bodies_more : (m : Module) (n : ℕ) → BodiesUpTo m n → ((body : Body) → slice_get m.bodies n ≡ Some body → BodyFine m (length m.imports + n) body) → BodiesUpTo m (n + 1)
bodies_more m n b h i x lt e = ⊎_elim (λ a. b i x a e) (λ q. subst (λ k. BodyFine m (length m.imports + k) x) (sym q) (h x (ap (slice_get m.bodies) (sym q) ∙ e))) (below_or i n (omega arith))
  where
    below_or : (j i : ℕ) → j ≤ i → (j < i) ⊎ (j ≡ i)
    below_or zero zero le = inr refl
    below_or zero (suc i) le = inl (omega arith)
    below_or (suc j) zero le = absurd (omega arith)
    below_or (suc j) (suc i) le = ⊎_elim (λ a. inl (omega (arith, a))) (λ b. inr (ap suc b)) (below_or j i (omega arith))

pub judged_at : (r : Result (List (Option Mark)) BodyFault) (m : Module) (i : ℕ) (t : FuncType) (body : Body) → type_at m (length m.imports + i) ≡ Some t → slice_get m.bodies i ≡ Some body → length t.results ≤ 1 → Judged r m t body → IfOk r (λ marks. Marked marks m t body) → BodyJudged r m i
judged_at (Ok x) m i t body e b le h k = (
  λ body' e'.
      let q : body ≡ body' = some_is (sym b ∙ e') in
      (t, e, subst (λ x. IsBody m t x (code_of x.targets x.ops)) q h),
  (t, body, e, b, k),
)
judged_at (Err (WrongAt offset)) m i t body e b le h k = (
  (t, body, e, body_at m i body b, h),
  λ body' e' f.
      let q : body' ≡ body = some_is (sym e' ∙ b) in
      let s : f.0 ≡ t = some_is (sym f.1 ∙ e) in
      not_both m t body offset le h (subst (λ x. IsBody m t x (code_of x.targets x.ops)) q (subst (λ x. IsBody m x body' (code_of body'.targets body'.ops)) s f.2)),
)
judged_at (Err NoMemory) m i t body e b le h k = tt

pub judged_bad : (offset : ℕ) (m : Module) (i : ℕ) (body : Body) → UpTo m 10 0 → BodiesUpTo m i → slice_get m.bodies i ≡ Some body → BodyJudged (Err (WrongAt offset)) m i → FirstInvalid m (Function (length m.imports + i) offset)
judged_bad offset m i body u b e h = first_invalid m i offset body u b e (h.1 body e) h.0

pub some_body : (m : Module) (i : ℕ) → i < length m.bodies → (body : Body) × (slice_get m.bodies i ≡ Some body)
some_body m i le = get_within m.bodies i le

pub none_marked : (m : Module) → MarkedUpTo [] m 0
none_marked m = record { as_many = refl; each = λ i k e. none_is e }

pub marked_more : (all : List (List (Option Mark))) (m : Module) (n : ℕ) (marks : List (Option Mark)) → MarkedUpTo all m n → MarkedAt m n marks → MarkedUpTo (all ++ marks ∷ []) m (n + 1)
marked_more all m n marks h is = record {
  as_many = length-append all (marks ∷ []) ∙ (let q : length all ≡ n = h.as_many in omega arith);
  each = λ i x e. by_place i x (below_or i n (within i x e)) e;
}
  where
    within : (i : ℕ) (x : List (Option Mark)) → slice_get (all ++ marks ∷ []) i ≡ Some x → i ≤ n
    within i x e = let w = slice_get_within (all ++ marks ∷ []) i x e in omega (arith, w, length-append all (marks ∷ []), h.as_many)

    below_or : (j i : ℕ) → j ≤ i → (j < i) ⊎ (j ≡ i)
    below_or zero zero le = inr refl
    below_or zero (suc i) le = inl (omega arith)
    below_or (suc j) zero le = absurd (omega arith)
    below_or (suc j) (suc i) le = ⊎_elim (λ a. inl (omega (arith, a))) (λ b. inr (ap suc b)) (below_or j i (omega arith))

    by_place : (i : ℕ) (x : List (Option Mark)) → (i < n) ⊎ (i ≡ n) → slice_get (all ++ marks ∷ []) i ≡ Some x → MarkedAt m i x
    by_place i x o e =
        ⊎_elim (λ a. h.each i x (sym (get_front all (marks ∷ []) i (omega (arith, a, h.as_many))) ∙ e))
        (λ b.
        let z : i ≡ length all + 0 = omega (arith, b, h.as_many) in
        let q : marks ≡ x = some_is (sym (get_behind all (marks ∷ []) 0) ∙ ap (slice_get (all ++ marks ∷ [])) (sym z) ∙ e) in
        subst (λ y. MarkedAt m i y) q (subst (λ j. MarkedAt m j marks) (sym b) is)) o

pub up_to_none : (m : Module) → BodiesUpTo m 0
up_to_none m i body lt e = absurd (omega (arith, lt))

pub few_locals : (m : Module) (i : ℕ) (body : Body) → WithinLimits m → slice_get m.bodies i ≡ Some body → length (declared_locals body.groups) < 2 ^ 32
few_locals m i body h e =
    let k : local_count (type_at m (length m.imports + i)) body ≤ 16384 = h.locals i body e in
    omega (arith, k, declared_length body.groups)
