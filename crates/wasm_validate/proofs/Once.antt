-- What validation answers is unique.
use Rattle.std.proofs.Common.{◌≡◌, ℕ, zero, suc, ◌+◌, ◌<◌, ◌≤◌, List, [], ◌∷◌, ◌++◌, refl, sym, ap, subst, ◌∙◌, arith, inl, inr, ⊎_elim}
use Rattle.std.proofs.lemmas.Bool.Decides.{nat_tests}
use Rattle.std.specs.Prelude.{Bool, true, false, ◌⊎◌, nat_lt, Option, Result, Ok, Err, slice_get}
use Rattle.wasm_syntax.specs.declared.value.ValType.{ValType}
use Rattle.wasm_syntax.specs.declared.parts.FuncType.{FuncType}
use Rattle.wasm_syntax.specs.declared.parts.Body.{Body}
use Rattle.wasm_syntax.specs.declared.module.ModuleParts.{ModuleParts as Module}
use Rattle.wasm_syntax.specs.declared.place.Place.{Place}
use Rattle.wasm_syntax.specs.declared.place.Place.TheVariants.{TypeAt, ImportAt, Declaration, TableAt, MemoryAt, GlobalAt, ExportAt, Start, ElementAt, DataAt, Function}
use Rattle.wasm_syntax.specs.Module.{function_types}
use Rattle.wasm_syntax.specs.Tree.{Placed, placed}
use Rattle.wasm_syntax.specs.Typing.{BeginsBody, body_context}
use Rattle.wasm_syntax.specs.FlatTyping.{body_block}
use Rattle.wasm_syntax.specs.Valid.{Valid, FuncTypeFine, kind_number, index_number, FirstWrong, FirstInvalid}
use Rattle.wasm_laws.proofs.Lists.{there_at}
use Rattle.wasm_laws.proofs.FlatSteps.{steps_split}
use Rattle.wasm_laws.proofs.FlatBodies.{Gives, begins_steps, steps_begins}
use Rattle.wasm_laws.proofs.FlatStatic.{rest_of, head_or}
use Rattle.validate_body.proofs.Through.{first_gives}
use Rattle.wasm_validate.specs.declared.validated.ValidateFault.{ValidateFault}
use Rattle.wasm_validate.specs.declared.validated.ValidateFault.TheVariants.{Invalid, Limit, NoMemory}
use Rattle.wasm_validate.specs.Heights.{AllLow, FirstHigh, StandsIn}
use Rattle.wasm_validate.specs.calls.Answers.{Answered}
use Rattle.wasm_validate.proofs.HeightLaws.{below_or}
use Rattle.pm_text.proofs.Lists.{some_is}
use Rattle.wasm_syntax.proofs.Types.{then_found}

-- ---- the first wrong instruction

-- a beginning of a beginning of a body begins a body
begins_front : (m : Module) (type : FuncType) (body : Body) (result : Option ValType) (xs ys : List Placed) → Gives type result → BeginsBody m type body (xs ++ ys) → BeginsBody m type body xs
begins_front m type body result xs ys g h =
    let s = begins_steps m type body result (xs ++ ys) g h in
    let k = steps_split (body_context m type body) xs ys (body_block result) s.0 s.1 in
    steps_begins m type body result xs k.0 g k.1

-- two places of one list are the same, or one lies behind the other
abbrev Apart : List Placed → Placed → List Placed → Placed → Type 0
Apart xs p ys q = (p ≡ q) ⊎ ((zs : List Placed) × (ys ≡ (xs ++ p ∷ []) ++ zs)) ⊎ ((zs : List Placed) × (xs ≡ (ys ++ q ∷ []) ++ zs))

apart : (xs ys : List Placed) (p q : Placed) (as_ bs : List Placed) → xs ++ p ∷ as_ ≡ ys ++ q ∷ bs → Apart xs p ys q
apart [] [] p q as_ bs e = inl (ap (head_or p) e)
apart [] (y ∷ ys) p q as_ bs e = inr (inl (ys, ap (λ z. z ∷ ys) (sym (ap (head_or p) e))))
apart (x ∷ xs) [] p q as_ bs e = inr (inr (xs, ap (λ z. z ∷ xs) (ap (head_or x) e)))
apart (x ∷ xs) (y ∷ ys) p q as_ bs e = longer (ap (head_or x) e) (apart xs ys p q as_ bs (ap rest_of e))
  where
    longer : x ≡ y → Apart xs p ys q → Apart (x ∷ xs) p (y ∷ ys) q
    longer h (inl k) = inl k
    longer h (inr (inl k)) = inr (inl (k.0, subst (λ z. z ∷ ys ≡ x ∷ ((xs ++ p ∷ []) ++ k.0)) h (ap (λ z. x ∷ z) k.1)))
    longer h (inr (inr k)) = inr (inr (k.0, subst (λ z. x ∷ xs ≡ z ∷ ((ys ++ q ∷ []) ++ k.0)) h (ap (λ z. x ∷ z) k.1)))

one_wrong : (m : Module) (type : FuncType) (body : Body) (result : Option ValType) (a b : ℕ) → Gives type result → FirstWrong m type body a → FirstWrong m type body b → a ≡ b
one_wrong m type body result a b g h k = by_place (apart h.before k.before (placed a h.code) (placed b k.code) h.after k.after (sym h.splits ∙ k.splits))
  where
    by_place : Apart h.before (placed a h.code) k.before (placed b k.code) → a ≡ b
    by_place (inl e) = ap (λ z. z.at) e
    by_place (inr (inl z)) = absurd (h.wrong (begins_front m type body result (h.before ++ placed a h.code ∷ []) z.0 g (subst (BeginsBody m type body) z.1 k.begins)))
    by_place (inr (inr z)) = absurd (k.wrong (begins_front m type body result (k.before ++ placed b k.code ∷ []) z.0 g (subst (BeginsBody m type body) z.1 h.begins)))

-- ---- places

offset_number : Place → ℕ
offset_number (TypeAt i) = 0
offset_number (ImportAt i) = 0
offset_number (Declaration f) = 0
offset_number (TableAt i) = 0
offset_number (MemoryAt i) = 0
offset_number (GlobalAt i) = 0
offset_number (ExportAt i) = 0
offset_number Start = 0
offset_number (ElementAt i) = 0
offset_number (DataAt i) = 0
offset_number (Function f offset) = offset

-- the place with these numbers
place_of : ℕ → ℕ → ℕ → Place
place_of zero i offset = TypeAt i
place_of (suc zero) i offset = ImportAt i
place_of (suc (suc zero)) i offset = Declaration i
place_of (suc (suc (suc zero))) i offset = TableAt i
place_of (suc (suc (suc (suc zero)))) i offset = MemoryAt i
place_of (suc (suc (suc (suc (suc zero))))) i offset = GlobalAt i
place_of (suc (suc (suc (suc (suc (suc zero)))))) i offset = ExportAt i
place_of (suc (suc (suc (suc (suc (suc (suc zero))))))) i offset = Start
place_of (suc (suc (suc (suc (suc (suc (suc (suc zero)))))))) i offset = ElementAt i
place_of (suc (suc (suc (suc (suc (suc (suc (suc (suc zero))))))))) i offset = DataAt i
place_of (suc (suc (suc (suc (suc (suc (suc (suc (suc (suc n)))))))))) i offset = Function i offset

place_back : (p : Place) → p ≡ place_of (kind_number p) (index_number p) (offset_number p)
unfolding place_of offset_number
place_back (TypeAt i) = refl
place_back (ImportAt i) = refl
place_back (Declaration f) = refl
place_back (TableAt i) = refl
place_back (MemoryAt i) = refl
place_back (GlobalAt i) = refl
place_back (ExportAt i) = refl
place_back Start = refl
place_back (ElementAt i) = refl
place_back (DataAt i) = refl
place_back (Function f offset) = refl

-- a place in a function, or one without an offset
abbrev InFunction : Place → Type 0
InFunction p = (f : ℕ) × (offset : ℕ) × (p ≡ Function f offset)

in_function : (p : Place) → InFunction p ⊎ ((kind_number p < 10) × (offset_number p ≡ 0))
unfolding offset_number
in_function (TypeAt i) = inr (omega arith, refl)
in_function (ImportAt i) = inr (omega arith, refl)
in_function (Declaration f) = inr (omega arith, refl)
in_function (TableAt i) = inr (omega arith, refl)
in_function (MemoryAt i) = inr (omega arith, refl)
in_function (GlobalAt i) = inr (omega arith, refl)
in_function (ExportAt i) = inr (omega arith, refl)
in_function Start = inr (omega arith, refl)
in_function (ElementAt i) = inr (omega arith, refl)
in_function (DataAt i) = inr (omega arith, refl)
in_function (Function f offset) = inl (f, offset, refl)

-- the offsets of two first places in one function are the same
offsets_same : (m : Module) (f a b : ℕ) → FirstInvalid m (Function f a) → FirstInvalid m (Function f b) → a ≡ b
offsets_same m f a b h k =
    let (type, body, e, i, wrong) = h.offset in
    let (other_type, other_body, e', i', wrong') = k.offset in
    let t = then_found (slice_get (function_types m) f) (λ t. slice_get m.types t) type e in
    let fine : FuncTypeFine type = there_at FuncTypeFine m.types t.0 type (h.earlier (TypeAt t.0) (inl (omega arith))) t.2 in
    let q : other_type ≡ type = some_is (sym e' ∙ e) in
    let r : other_body ≡ body = some_is (sym i' ∙ i) in
    one_wrong m type body (slice_get type.results 0) a b (first_gives type.results fine) wrong (subst (λ x. FirstWrong m type x b) r (subst (λ x. FirstWrong m x other_body b) q wrong'))

-- neither of two first places comes before the other
numbers_same : (m : Module) (p q : Place) → FirstInvalid m p → FirstInvalid m q → (kind_number p ≡ kind_number q) × (index_number p ≡ index_number q)
numbers_same m p q h k = by_kind (compare (kind_number p) (kind_number q))
  where
    compare : (a b : ℕ) → (a < b) ⊎ (a ≡ b) ⊎ (b < a)
    compare a b = by_test (nat_lt a b) refl
      where
        by_test : (t : Bool) → nat_lt a b ≡ t → (a < b) ⊎ (a ≡ b) ⊎ (b < a)
        by_test true e = inl (grind (arith, nat_tests, e))
        by_test false e = let le : b ≤ a = grind (arith, nat_tests, e) in ⊎_elim (λ x. inr (inr x)) (λ x. inr (inl (sym x))) (below_or b a le)

    by_index : kind_number p ≡ kind_number q → (index_number p < index_number q) ⊎ (index_number p ≡ index_number q) ⊎ (index_number q < index_number p) → (kind_number p ≡ kind_number q) × (index_number p ≡ index_number q)
    by_index e (inl l) = absurd (h.not_fine (k.earlier p (inr (e, l))))
    by_index e (inr (inl l)) = (e, l)
    by_index e (inr (inr l)) = absurd (k.not_fine (h.earlier q (inr (sym e, l))))

    by_kind : (kind_number p < kind_number q) ⊎ (kind_number p ≡ kind_number q) ⊎ (kind_number q < kind_number p) → (kind_number p ≡ kind_number q) × (index_number p ≡ index_number q)
    by_kind (inl l) = absurd (h.not_fine (k.earlier p (inl l)))
    by_kind (inr (inl e)) = by_index e (compare (index_number p) (index_number q))
    by_kind (inr (inr l)) = absurd (k.not_fine (h.earlier q (inl l)))

pub one_first_invalid : (m : Module) (p q : Place) → FirstInvalid m p → FirstInvalid m q → p ≡ q
unfolding offset_number
one_first_invalid m p q h k =
    let n = numbers_same m p q h k in
    let o = offsets (in_function p) (in_function q) n.0 n.1 in
    place_back p ∙ ap (λ x. place_of x (index_number p) (offset_number p)) n.0 ∙ ap (λ x. place_of (kind_number q) x (offset_number p)) n.1 ∙ ap (λ x. place_of (kind_number q) (index_number q) x) o ∙ sym (place_back q)
  where
    offsets : InFunction p ⊎ ((kind_number p < 10) × (offset_number p ≡ 0)) → InFunction q ⊎ ((kind_number q < 10) × (offset_number q ≡ 0)) → kind_number p ≡ kind_number q → index_number p ≡ index_number q → offset_number p ≡ offset_number q
    offsets (inl (f, a, e)) (inl (g, b, e')) n i =
        let s : f ≡ g = ap index_number (sym e) ∙ i ∙ ap index_number e' in
        ap offset_number e ∙ offsets_same m f a b (subst (FirstInvalid m) e h) (subst (λ x. FirstInvalid m (Function x b)) (sym s) (subst (FirstInvalid m) e' k)) ∙ ap offset_number (sym e')
    offsets (inl (f, a, e)) (inr l) n i = let z : kind_number p ≡ 10 = ap kind_number e in absurd (omega (arith, z, n, l.0))
    offsets (inr l) (inl (g, b, e)) n i = let z : kind_number q ≡ 10 = ap kind_number e in absurd (omega (arith, z, n, l.0))
    offsets (inr l) (inr r) n i = l.1 ∙ sym r.1

-- ---- heights

pub one_first_high : (m : Module) (a b : ℕ) → FirstHigh m a → FirstHigh m b → a ≡ b
one_first_high m a b h k = by_test (nat_lt h.function k.function) (nat_lt k.function h.function) refl refl
  where
    by_test : (s t : Bool) → nat_lt h.function k.function ≡ s → nat_lt k.function h.function ≡ t → a ≡ b
    by_test true t e f =
        let lt : h.function < k.function = grind (arith, nat_tests, e) in
        absurd (omega (arith, k.earlier h.function a lt h.there, h.passes))
    by_test false true e f =
        let lt : k.function < h.function = grind (arith, nat_tests, f) in
        absurd (omega (arith, h.earlier k.function b lt k.there, k.passes))
    by_test false false e f =
        let le : k.function ≤ h.function = grind (arith, nat_tests, e) in
        let ge : h.function ≤ k.function = grind (arith, nat_tests, f) in
        let s : k.function ≡ h.function = omega (arith, le, ge) in
        let x : b ≤ a = h.most b (subst (λ f. StandsIn m f b) s k.there) in
        let y : a ≤ b = k.most a (subst (λ f. StandsIn m f a) (sym s) h.there) in
        omega (arith, x, y)

pub low_not_high : (m : Module) (count : ℕ) → AllLow m → FirstHigh m count → ⊥
low_not_high m count l h = omega (arith, l h.function count h.there, h.passes)

pub valid_not_invalid : (m : Module) (p : Place) → Valid m → FirstInvalid m p → ⊥
valid_not_invalid m p v h = h.not_fine (v p)

-- ---- answers

pub one_answer : (m : Module) (a b : Result Module ValidateFault) → Answered a m → Answered b m → (a ≡ Err NoMemory → ⊥) → (b ≡ Err NoMemory → ⊥) → a ≡ b
one_answer m (Ok v) (Ok w) h k n o = ap (λ x. Ok x) (h.0 ∙ sym k.0)
one_answer m (Ok v) (Err (Invalid p)) h k n o = absurd (valid_not_invalid m p h.1 k)
one_answer m (Ok v) (Err (Limit what count)) h k n o = absurd (low_not_high m count h.2 k.2)
one_answer m (Ok v) (Err NoMemory) h k n o = absurd (o refl)
one_answer m (Err (Invalid p)) (Ok w) h k n o = absurd (valid_not_invalid m p k.1 h)
one_answer m (Err (Invalid p)) (Err (Invalid q)) h k n o = ap (λ x. Err (Invalid x)) (one_first_invalid m p q h k)
one_answer m (Err (Invalid p)) (Err (Limit what count)) h k n o = absurd (valid_not_invalid m p k.0 h)
one_answer m (Err (Invalid p)) (Err NoMemory) h k n o = absurd (o refl)
one_answer m (Err (Limit what count)) (Ok w) h k n o = absurd (low_not_high m count k.2 h.2)
one_answer m (Err (Limit what count)) (Err (Invalid q)) h k n o = absurd (valid_not_invalid m q h.0 k)
one_answer m (Err (Limit what count)) (Err (Limit other n')) h k n o = ap (λ x. Err (Limit x count)) (h.1 ∙ sym k.1) ∙ ap (λ x. Err (Limit other x)) (one_first_high m count n' h.2 k.2)
one_answer m (Err (Limit what count)) (Err NoMemory) h k n o = absurd (o refl)
one_answer m (Err NoMemory) b h k n o = absurd (n refl)
