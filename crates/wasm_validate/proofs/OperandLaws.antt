-- The operand at a place from the bottom is the topmost one of the last instruction that has so many operands.
use Rattle.std.proofs.Common.{◌≡◌, ℕ, zero, suc, ◌+◌, ◌-◌, ◌<◌, ◌≤◌, List, [], ◌∷◌, ◌++◌, map, length, take, reverse, slice_get, refl, sym, ap, subst, ◌∙◌, arith, inl, inr, ⊎_elim}
use Rattle.std.proofs.lemmas.List.{length-reverse, reverse-reverse, reverse-append}
use Rattle.std.proofs.lemmas.Option.{slice_get_within}
use Rattle.std.specs.Prelude.{Bool, true, false, ◌⊎◌, Option, Some, None, IfSome}
use Rattle.wasm_syntax.specs.declared.value.ValType.{ValType}
use Rattle.wasm_syntax.specs.declared.parts.FuncType.{FuncType}
use Rattle.wasm_syntax.specs.declared.parts.Body.{Body}
use Rattle.wasm_syntax.specs.declared.module.ModuleParts.{ModuleParts as Module}
use Rattle.wasm_syntax.specs.Module.{IsModule, InOrder, function_types, type_at, option_then}
use Rattle.wasm_syntax.specs.Tree.{Placed, placed, code_of, item_of}
use Rattle.wasm_syntax.specs.Typing.{Context, body_context}
use Rattle.wasm_syntax.specs.FlatTyping.{TypesBefore}
use Rattle.wasm_laws.proofs.FlatBodies.{Gives}
use Rattle.wasm_laws.proofs.Lists.{at_of as in_list, there_at, get_within}
use Rattle.validate_body.specs.calls.Frames.{Known, Frame, operands, any_free, topmost}
use Rattle.validate_body.specs.declared.marks.Mark.{Mark}
use Rattle.validate_body.specs.calls.Algorithm.{run, start, step}
use Rattle.validate_body.specs.calls.Marks.{mark_of, MarkIs, Marked}
use Rattle.validate_body.proofs.Through.{take_next, first_gives}
use Rattle.validate_body.proofs.MarksLaws.{mark_is, frames_before, map_len}
use Rattle.wasm_syntax.specs.Sizes.{ShortBody, WithinLimits}
use Rattle.wasm_syntax.specs.declared.place.Place.TheVariants.{TypeAt, Function}
use Rattle.wasm_syntax.specs.Typing.{IsBody}
use Rattle.wasm_syntax.specs.Valid.{Valid, FuncTypeFine, BodyFine, There, defined_index}
use Rattle.wasm_laws.proofs.FlatOne.{to_flat}
use Rattle.wasm_validate.specs.Heights.{HasOp, HeightIs, TypesAt}
use Rattle.wasm_validate.specs.calls.Operands.{HasOperand, StaticAt, FewMarks, LastOf}
use Rattle.wasm_validate.specs.calls.Whole.{MarkedUpTo}
use Rattle.wasm_validate.proofs.HeightLaws.{at_of, mark_at, height_of_mark, height_option, below_or}
use Rattle.wasm_validate.proofs.RowLaws.{in_more}
use Rattle.wasm_validate.proofs.Growth.{base, Below, tail_of, OneResult, base_live, Grows, step_grows}
use Rattle.pm_text.proofs.Lists.{some_is}
use Rattle.wasm_syntax.proofs.Types.{then_found}

-- the last instruction with a height has this topmost type
abbrev pub Found : List (Option Mark) → ℕ → ℕ → Option ValType → Type 0
Found marks op height top = (last : ℕ) × (mark : Mark) × LastOf marks op height last mark × (mark.top ≡ top)

-- so for each operand, at its height
abbrev AllFound : List (Option Mark) → ℕ → Known → Type 0
AllFound marks op [] = Unit {0}
AllFound marks op (k ∷ ks) = Found marks op (suc (length ks)) k × AllFound marks op ks

front_found : (marks : List (Option Mark)) (op : ℕ) (front low : Known) → AllFound marks op (front ++ low) → AllFound marks op low
front_found marks op [] low h = h
front_found marks op (f ∷ fs) low h = front_found marks op fs low h.1

below_found : (marks : List (Option Mark)) (op : ℕ) (low all : Known) → Below low all → AllFound marks op all → AllFound marks op low
below_found marks op low all b h = front_found marks op b.0 low (subst (AllFound marks op) b.1 h)

-- ---- the next instruction

up_to_next : (i n : ℕ) → i ≤ suc n → (i ≤ n) ⊎ (i ≡ suc n)
up_to_next i n le = ⊎_elim (λ a. inl (omega (arith, a))) (λ b. inr b) (below_or i (suc n) le)

last_next : (marks : List (Option Mark)) (op height last : ℕ) (mark : Mark) → LastOf marks op height last mark → ((k : Mark) → slice_get marks (suc op) ≡ Some (Some k) → k.height ≡ height → ⊥) → LastOf marks (suc op) height last mark
last_next marks op height last mark h other = record {
  there = h.there;
  has = h.has;
  up_to = omega (arith, h.up_to);
  later = λ i k lt le e q. ⊎_elim (λ a. h.later i k lt a e q) (λ b. other k (subst (λ j. slice_get marks j ≡ Some (Some k)) b e) q) (up_to_next i op le);
}

all_next : (marks : List (Option Mark)) (op : ℕ) (ks : Known) → AllFound marks op ks → ((k : Mark) → slice_get marks (suc op) ≡ Some (Some k) → length ks < k.height) → AllFound marks (suc op) ks
all_next marks op [] h higher = tt
all_next marks op (x ∷ ks) h higher = (
  (h.0.0, h.0.1, last_next marks op (suc (length ks)) h.0.0 h.0.1 h.0.2 (λ k e q. omega (arith, higher k e, q)), h.0.3),
  all_next marks op ks h.1 (λ k e. omega (arith, higher k e)),
)

-- ---- the marks are those of the frames

mark_same : (m : Module) (type : FuncType) (body : Body) (i : ℕ) (a b : Option Mark) → MarkIs a m type body i → MarkIs b m type body i → a ≡ b
mark_same m type body i None None h k = refl
mark_same m type body i None (Some b) h k = absurd (h k.0.0 k.0.1)
mark_same m type body i (Some a) None h k = absurd (k h.0.0 h.0.1)
mark_same m type body i (Some a) (Some b) h k =
    let s = k.1 h.0.0 h.0.1 in
    ap (λ n. Some (record { height = n; top = a.top })) (h.0.2.0 ∙ sym s.0) ∙ ap (λ t. Some (record { height = b.height; top = t })) (h.0.2.1 ∙ sym s.1)

mark_there : (m : Module) (type : FuncType) (body : Body) (r : Option ValType) (marks : List (Option Mark)) (i : ℕ) (fs : List Frame) → Gives type r → Marked marks m type body → i < length body.ops → run (body_context m type body) (start r) (code_of body.targets (take i body.ops)) ≡ Some fs → slice_get marks i ≡ Some (mark_of fs)
mark_there m type body r marks i fs g h lt e =
    let k = get_within marks i (omega (arith, lt, h.as_many)) in
    k.1 ∙ ap (λ x. Some x) (mark_same m type body i k.0 (mark_of fs) (h.each i k.0 k.1) (mark_is m type body r i fs g e))

-- ---- through a body

run_last : (c : Context) (ps : List Placed) (p : Placed) (fs gs : List Frame) → run c fs (ps ++ p ∷ []) ≡ Some gs → (hs : List Frame) × (run c fs ps ≡ Some hs) × (step c hs p.code ≡ Some gs)
run_last c [] p fs gs e =
    let i = then_found (step c fs p.code) (λ hs. run c hs []) gs e in
    (fs, refl, i.1 ∙ i.2)
run_last c (q ∷ ps) p fs gs e =
    let i = then_found (step c fs q.code) (λ hs. run c hs (ps ++ p ∷ [])) gs e in
    let r = run_last c ps p i.0 gs i.2 in
    (r.0, subst (λ x. option_then x (λ hs. run c hs ps) ≡ Some r.0) (sym i.1) r.1, r.2)

-- behind a step
grown : (marks : List (Option Mark)) (n : ℕ) (fs gs : List Frame) → Grows fs gs → AllFound marks n (base fs) → slice_get marks (suc n) ≡ Some (mark_of gs) → AllFound marks (suc n) (base gs)
grown marks n fs gs g h e = by_test (any_free gs) refl
  where
    not_marked : any_free gs ≡ true → (k : Mark) → slice_get marks (suc n) ≡ Some (Some k) → length (base gs) < k.height
    not_marked q k f = absurd (let z : Some None ≡ Some (Some k) = sym (rw q at e) ∙ f in cc)

    by_list : (all : Known) (mark : Mark) → slice_get marks (suc n) ≡ Some (Some mark) → mark.height ≡ length all → mark.top ≡ topmost all → AllFound marks n (tail_of all) → AllFound marks (suc n) all
    by_list [] mark t l o f = tt
    by_list (x ∷ ks) mark t l o f = (
      (suc n, mark, record { there = t; has = l; up_to = omega arith; later = λ i k lt le _ _. omega (arith, lt, le) }, o),
      all_next marks n ks f (λ k q.
          let z : mark ≡ k = some_is (some_is (sym t ∙ q)) in
          let y : k.height ≡ suc (length ks) = ap (λ x. x.height) (sym z) ∙ l in
          omega (arith, y)),
    )

    by_test : (b : Bool) → any_free gs ≡ b → AllFound marks (suc n) (base gs)
    by_test true q = all_next marks n (base gs) (below_found marks n (base gs) (base fs) (g.dead q) h) (not_marked q)
    by_test false q =
        let t : slice_get marks (suc n) ≡ Some (Some (record { height = length (operands gs); top = topmost (operands gs) })) = (rw q at e) in
        by_list (base gs) (record { height = length (operands gs); top = topmost (operands gs) }) t (ap (λ x. length x) (sym (base_live gs q))) (ap topmost (sym (base_live gs q)))
        (below_found marks n (tail_of (base gs)) (base fs) g.live h)

all_found : (m : Module) (type : FuncType) (body : Body) (r : Option ValType) (marks : List (Option Mark)) (n : ℕ) (fs : List Frame) → OneResult m → Gives type r → Marked marks m type body → n < length body.ops → run (body_context m type body) (start r) (code_of body.targets (take n body.ops)) ≡ Some fs → AllFound marks n (base fs)
all_found m type body r marks zero fs one g h lt e = subst (λ x. AllFound marks zero (base x)) (some_is e) tt
all_found m type body r marks (suc n) fs one g h lt e =
    let c = body_context m type body in
    let o = get_within body.ops n (omega (arith, lt)) in
    let p = placed o.0.at (item_of body.targets o.0.code) in
    let s : n + 1 ≡ suc n = omega arith in
    let q : code_of body.targets (take (suc n) body.ops) ≡ code_of body.targets (take n body.ops) ++ p ∷ [] = ap (λ k. code_of body.targets (take k body.ops)) (sym s) ∙ take_next body.targets body.ops n o.0 o.1 in
    let l = run_last c (code_of body.targets (take n body.ops)) p (start r) fs (ap (λ z. run c (start r) z) (sym q) ∙ e) in
    grown marks n l.0 fs (step_grows c l.0 fs p.code one l.2) (all_found m type body r marks n l.0 one g h (omega (arith, lt)) l.1) (mark_there m type body r marks (suc n) fs g h lt e)

-- ---- from the topmost first to the bottom first

at_height : (marks : List (Option Mark)) (op : ℕ) (ts : List ValType) (p : ℕ) (t : ValType) → AllFound marks op (map (λ t. Some t) ts) → slice_get (reverse ts) p ≡ Some t → Found marks op (suc p) (Some t)
at_height marks op [] p t h e = absurd (let z : None ≡ Some t = e in cc)
at_height marks op (u ∷ us) p t h e = ⊎_elim (λ a. at_height marks op us p t h.1 a.1) (λ b. top b.1 b.0) (in_more (reverse us) u p t in_two)
  where
    in_two : slice_get (reverse us ++ u ∷ []) p ≡ Some t
    in_two = ap (λ x. slice_get x p) (sym (reverse-append (u ∷ []) us)) ∙ e

    top : t ≡ u → p ≡ length (reverse us) → Found marks op (suc p) (Some t)
    top q b =
        let n : length (map (λ t. Some t) us) ≡ p = map_len us ∙ sym (length-reverse us) ∙ sym b in
        subst (λ k. Found marks op (suc k) (Some t)) n (subst (λ x. Found marks op (suc (length (map (λ t. Some t) us))) (Some x)) (sym q) h.0)

pub operand_found : (m : Module) (type : FuncType) (body : Body) (r : Option ValType) (marks : List (Option Mark)) (op : ℕ) (types : List ValType) (p : ℕ) (t : ValType) → OneResult m → Gives type r → Marked marks m type body → op < length body.ops → TypesBefore m type body op types → slice_get types p ≡ Some t → Found marks op (suc p) (Some t)
operand_found m type body r marks op types p t one g h lt b e =
    let f = frames_before m type body r op types g b in
    let a : AllFound marks op (map (λ t. Some t) (reverse types)) = subst (AllFound marks op) (base_live f.0 f.2 ∙ f.3) (all_found m type body r marks op f.0 one g h lt f.1) in
    at_height marks op (reverse types) p t a (ap (λ x. slice_get x p) (reverse-reverse types) ∙ e)

-- ---- in a module

one_result : (m : Module) → Valid m → OneResult m
one_result m v = λ t type e. there_at FuncTypeFine m.types t type (v (TypeAt t)) e

gives : (m : Module) (f : ℕ) (type : FuncType) → Valid m → type_at m f ≡ Some type → Gives type (slice_get type.results 0)
gives m f type v e = let t = then_found (slice_get (function_types m) f) (λ t. slice_get m.types t) type e in first_gives type.results (one_result m v t.0 type t.2)

same_height : (o : Option ℕ) (m : Module) (f op : ℕ) (types others : List ValType) → HeightIs o m f op → TypesAt m f op types → TypesAt m f op others → length types ≡ length others
same_height None m f op types others h t u = absurd (h types t)
same_height (Some n) m f op types others h t u = h.1 types t ∙ sym (h.1 others u)

-- what was read is the type of the operand
pub operand_read : (all : List (List (Option Mark))) (m : Module) (f op n i : ℕ) (types : List ValType) (found : Option ValType) → Valid m → MarkedUpTo all m (length m.bodies) → HasOp m f op → HasOperand m f op n → i ≡ f - length m.imports →
    ((marks : List (Option Mark)) (last : ℕ) (mark : Mark) → slice_get all i ≡ Some marks → op < length marks → LastOf marks op (n + 1) last mark → found ≡ mark.top) → TypesAt m f op types → (t : ValType) × (slice_get types n ≡ Some t) × (found ≡ Some t)
operand_read all m f op n i types found v h o b e reads t =
    let a = mark_at all m f op h o in
    let k = a.marked in
    let long : n < length types = omega (arith, b.2, same_height (height_option a.mark) m f op b.0 types (height_of_mark all m f op a) b.1 t) in
    let x = get_within types n long in
    let within : op < length a.marks = slice_get_within a.marks op a.mark a.at in
    let before : TypesBefore m k.0 k.1 op types = at_of m a.index op k.0 k.1 types k.2 k.3 (subst (λ j. TypesAt m j op types) a.function t) in
    let q = operand_found m k.0 k.1 (slice_get k.0.results 0) a.marks op types n x.0 (one_result m v) (gives m (length m.imports + a.index) k.0 v k.2) k.4 (omega (arith, within, k.4.as_many)) before x.1 in
    let s : suc n ≡ n + 1 = omega arith in
    let j : a.index ≡ i = omega (arith, e, a.function) in
    (x.0, x.1, reads a.marks q.0 q.1 (subst (λ y. slice_get all y ≡ Some a.marks) j a.there) within (subst (λ y. LastOf a.marks op y q.0 q.1) s q.2) ∙ q.3)

-- the static operand types are those of the flat code
pub static_there : (m : Module) (f op : ℕ) (types : List ValType) → IsModule m → Valid m → StaticAt m f op types → TypesAt m f op types
static_there m f op types whole v (type, body, o, e, b, at, s) =
    let i = then_found (defined_index m f) (slice_get m.bodies) body b in
    let fine : BodyFine m f body = there_at (BodyFine m f) m.bodies i.0 body (subst (λ x. IfSome x (λ j. There m.bodies j (BodyFine m f))) i.1 (v (Function f 0))) i.2 in
    let q : fine.0 ≡ type = some_is (sym fine.1 ∙ e) in
    (type, body, e, b, to_flat m type body (slice_get type.results 0) (gives m f type v e) (in_list InOrder m.bodies i.0 body whole.in_order i.2) (subst (λ x. IsBody m x body (code_of body.targets body.ops)) q fine.2) op o at types s)

pub few_marks : (all : List (List (Option Mark))) (m : Module) → WithinLimits m → MarkedUpTo all m (length m.bodies) → FewMarks all
few_marks all m l h = λ i marks e.
    let k = h.each i marks e in
    let s = in_list ShortBody m.bodies i k.1 l.short.each_body k.3 in
    omega (arith, k.4.as_many, s.ops)
