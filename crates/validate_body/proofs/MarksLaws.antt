-- The marks that the algorithm leaves are those of the typing.
use Rattle.std.proofs.Common.{◌≡◌, ℕ, zero, suc, ◌+◌, ◌<◌, ◌≤◌, List, [], ◌∷◌, ◌++◌, map, length, take, reverse, slice_get, refl, sym, ap, subst, ◌∙◌, arith, length-append, inl, inr, ⊎_elim}
use Rattle.std.proofs.lemmas.Option.{slice_get_within}
use Rattle.wasm_laws.proofs.Lists.{get_front}
use Rattle.std.proofs.lemmas.List.{length-reverse, reverse-reverse, reverse-append, map-append}
use Rattle.std.specs.Prelude.{Bool, true, false, ◌⊎◌, Option, Some, None}
use Rattle.wasm_syntax.specs.declared.value.ValType.{ValType}
use Rattle.wasm_syntax.specs.declared.parts.FuncType.{FuncType}
use Rattle.wasm_syntax.specs.declared.parts.Body.{Body}
use Rattle.wasm_syntax.specs.declared.module.ModuleParts.{ModuleParts as Module}
use Rattle.wasm_syntax.specs.Tree.{Placed, placed, code_of, item_of}
use Rattle.wasm_syntax.specs.Typing.{body_context}
use Rattle.wasm_syntax.specs.FlatTyping.{OpenBlock, FlatTypes, body_block, dead_behind, AllLive, all_types, TypesBefore}
use Rattle.wasm_laws.proofs.FlatBodies.{Gives}
use Rattle.validate_body.specs.calls.Frames.{Known, Frame, operands, any_free, height_of, topmost}
use Rattle.validate_body.specs.declared.marks.Mark.{Mark}
use Rattle.validate_body.specs.calls.Algorithm.{run, start}
use Rattle.validate_body.specs.calls.Marks.{flags, AllSome, Sure, mark_of, last_type, Shows, MarkIs, Marked}
use Rattle.validate_body.proofs.Fits.{Fits, FitAll, fill_all}
use Rattle.validate_body.proofs.Same.{run_sound, run_complete, only_begin}
use Rattle.validate_body.proofs.Flags as next
use Rattle.std.proofs.lemmas.Bool.{or_parts}
use Rattle.wasm_laws.proofs.FlatOne.{one_result_of}
use Rattle.pm_text.proofs.Lists.{some_is, get_behind}

-- ---- live frames know all their types

all_known : (ks : Known) (ts : List ValType) → AllSome ks → Fits ks false ts → ks ≡ map (λ t. Some t) ts
all_known [] [] a h = refl
all_known [] (t ∷ ts) a h = absurd (cc)
all_known (None ∷ ks) ts a h = absurd a
all_known (Some u ∷ ks) [] a h = absurd h
all_known (Some u ∷ ks) (t ∷ ts) a h = rw (h.0, all_known ks ts a h.1) refl

operands_known : (fs : List Frame) (gs : List OpenBlock) → FitAll fs gs → Sure fs → AllLive (flags fs) → operands fs ≡ map (λ t. Some t) (all_types gs)
operands_known [] [] h s a = refl
operands_known [] (g ∷ gs) h s a = absurd h
operands_known (f ∷ fs) [] h s a = absurd h
operands_known (f ∷ fs) (g ∷ gs) h s a =
    let k : f.known ≡ map (λ t. Some t) g.types = all_known f.known g.types (s.0 a.0) (subst (λ b. Fits f.known b g.types) a.0 h.0.2) in
    let r = operands_known fs gs h.1 s.1 a.1 in
    rw (k, r) (sym (map-append (λ t. Some t) g.types (all_types gs)))

live_not_free : (fs : List Frame) → AllLive (flags fs) → any_free fs ≡ false
live_not_free [] a = refl
live_not_free (f ∷ fs) a = rw (a.0, live_not_free fs a.1) refl

not_free_live : (fs : List Frame) → any_free fs ≡ false → AllLive (flags fs)
not_free_live [] e = tt
not_free_live (f ∷ fs) e = let o = or_parts f.free (any_free fs) e in (o.0, not_free_live fs o.1)

pub map_len : (ts : List ValType) → length (map (λ t. Some t) ts) ≡ length ts
map_len [] = refl
map_len (t ∷ ts) = ap suc (map_len ts)

last_more : (ts : List ValType) (t : ValType) → last_type (ts ++ t ∷ []) ≡ Some t
last_more [] t = refl
last_more (u ∷ []) t = refl
last_more (u ∷ v ∷ ts) t = last_more (v ∷ ts) t

reverse_cons : (t : ValType) (ts : List ValType) → reverse (t ∷ ts) ≡ reverse ts ++ t ∷ []
reverse_cons t ts = reverse-append (t ∷ []) ts

top_last : (ts : List ValType) → topmost (map (λ t. Some t) ts) ≡ last_type (reverse ts)
top_last [] = refl
top_last (t ∷ ts) = sym (ap last_type (reverse_cons t ts) ∙ last_more (reverse ts) t)

-- ---- from frames to operand types, and back

record There (m : Module) (type : FuncType) (body : Body) (r : Option ValType) (ps : List Placed) (types : List ValType) : Type 0 where
  blocks : List OpenBlock
  leads : FlatTypes (body_context m type body) (body_block r) ps blocks
  live : AllLive (dead_behind (false ∷ []) ps)
  types_are : types ≡ reverse (all_types blocks)

operands_there : (m : Module) (type : FuncType) (body : Body) (r : Option ValType) (ps : List Placed) (fs : List Frame) (types : List ValType) → run (body_context m type body) (start r) ps ≡ Some fs → There m type body r ps types → AllLive (flags fs) × (operands fs ≡ map (λ t. Some t) (reverse types))
operands_there m type body r ps fs types e h =
    let c = body_context m type body in
    let a = run_complete c ps (start r) (body_block r) h.blocks ((refl, refl, refl), tt) h.leads in
    let q : a.0 ≡ fs = some_is (sym a.1 ∙ e) in
    let n = next.run_next c ps (start r) fs e in
    let l : AllLive (flags fs) = subst AllLive (sym n.0) h.live in
    let k = operands_known fs h.blocks (subst (λ x. FitAll x h.blocks) q a.2) (n.1 (λ _. tt, tt)) l in
    (l, k ∙ ap (λ ts. map (λ t. Some t) ts) (sym (ap reverse h.types_are ∙ reverse-reverse (all_types h.blocks))))

there_of : (m : Module) (type : FuncType) (body : Body) (r : Option ValType) (ps : List Placed) (fs : List Frame) → run (body_context m type body) (start r) ps ≡ Some fs → AllLive (flags fs) → (types : List ValType) × There m type body r ps types
there_of m type body r ps fs e l =
    let c = body_context m type body in
    let w = fill_all fs in
    let s = run_sound c ps (start r) fs w.0 e w.1 in
    let n = next.run_next c ps (start r) fs e in (
      reverse (all_types w.0),
      record {
        blocks = w.0;
        leads = subst (λ x. FlatTypes c x ps w.0) (only_begin r s.0 s.1) s.2;
        live = subst AllLive n.0 l;
        types_are = refl;
      },
    )

-- ---- as the definition says it

map_take : {A B : Type 0} (f : A → B) (n : ℕ) (xs : List A) → take n (map f xs) ≡ map f (take n xs)
map_take f zero xs = refl
map_take f (suc n) [] = refl
map_take f (suc n) (x ∷ xs) = ap (λ z. f x ∷ z) (map_take f n xs)

code_take : (body : Body) (n : ℕ) → take n (code_of body.targets body.ops) ≡ code_of body.targets (take n body.ops)
code_take body n = map_take (λ o. placed o.at (item_of body.targets o.code)) n body.ops

before_there : (m : Module) (type : FuncType) (body : Body) (r : Option ValType) (i : ℕ) (types : List ValType) → Gives type r → TypesBefore m type body i types → There m type body r (code_of body.targets (take i body.ops)) types
before_there m type body r i types g h =
    let q : h.result ≡ r = one_result_of h.result r (sym h.gives ∙ g) in
    record {
      blocks = h.blocks;
      leads = subst (λ x. FlatTypes (body_context m type body) (body_block x) (code_of body.targets (take i body.ops)) h.blocks) q (subst (λ x. FlatTypes (body_context m type body) (body_block h.result) x h.blocks) (code_take body i) h.leads);
      live = subst (λ x. AllLive (dead_behind (false ∷ []) x)) (code_take body i) h.live;
      types_are = h.types_are;
    }

there_before : (m : Module) (type : FuncType) (body : Body) (r : Option ValType) (i : ℕ) (types : List ValType) → Gives type r → There m type body r (code_of body.targets (take i body.ops)) types → TypesBefore m type body i types
there_before m type body r i types g h = record {
  result = r;
  gives = g;
  blocks = h.blocks;
  leads = subst (λ x. FlatTypes (body_context m type body) (body_block r) x h.blocks) (sym (code_take body i)) h.leads;
  live = subst (λ x. AllLive (dead_behind (false ∷ []) x)) (sym (code_take body i)) h.live;
  types_are = h.types_are;
}

-- where operand types stand, the algorithm's frames have them
pub frames_before : (m : Module) (type : FuncType) (body : Body) (r : Option ValType) (i : ℕ) (types : List ValType) → Gives type r → TypesBefore m type body i types →
    (fs : List Frame) × (run (body_context m type body) (start r) (code_of body.targets (take i body.ops)) ≡ Some fs) × (any_free fs ≡ false) × (operands fs ≡ map (λ t. Some t) (reverse types))
frames_before m type body r i types g h =
    let ps = code_of body.targets (take i body.ops) in
    let t = before_there m type body r i types g h in
    let a = run_complete (body_context m type body) ps (start r) (body_block r) t.blocks ((refl, refl, refl), tt) t.leads in
    let o = operands_there m type body r ps a.0 types a.1 t in
    (a.0, a.1, live_not_free a.0 o.0, o.1)

shows_of : (fs : List Frame) (types : List ValType) → operands fs ≡ map (λ t. Some t) (reverse types) → Shows (record { height = length (operands fs); top = topmost (operands fs) }) types
shows_of fs types e =
    (ap (λ x. length x) e ∙ map_len (reverse types) ∙ length-reverse types, ap topmost e ∙ top_last (reverse types) ∙ ap last_type (reverse-reverse types))

pub mark_is : (m : Module) (type : FuncType) (body : Body) (r : Option ValType) (i : ℕ) (fs : List Frame) → Gives type r → run (body_context m type body) (start r) (code_of body.targets (take i body.ops)) ≡ Some fs → MarkIs (mark_of fs) m type body i
mark_is m type body r i fs g e = by_test (any_free fs) refl
  where
    shown : (types : List ValType) → TypesBefore m type body i types → Shows (record { height = length (operands fs); top = topmost (operands fs) }) types
    shown types h = shows_of fs types (operands_there m type body r (code_of body.targets (take i body.ops)) fs types e (before_there m type body r i types g h)).1

    by_test : (b : Bool) → any_free fs ≡ b → MarkIs (mark_of fs) m type body i
    by_test true t = rw t (λ types h.
        let l = live_not_free fs (operands_there m type body r (code_of body.targets (take i body.ops)) fs types e (before_there m type body r i types g h)).0 in
        let q : true ≡ false = sym t ∙ l in
        cc)
    by_test false t =
        let h = there_of m type body r (code_of body.targets (take i body.ops)) fs e (not_free_live fs t) in
        let b = there_before m type body r i h.0 g h.1 in
        rw t ((h.0, b, shown h.0 b), shown)

-- ---- a mark for each instruction

-- the marks before the n-th instruction
pub record SoFar (marks : List (Option Mark)) (m : Module) (type : FuncType) (body : Body) (n : ℕ) : Type 0 where
  pub as_many : length marks ≡ n
  pub each : (i : ℕ) (k : Option Mark) → slice_get marks i ≡ Some k → MarkIs k m type body i

pub none_so_far : (m : Module) (type : FuncType) (body : Body) → SoFar [] m type body 0
none_so_far m type body = record { as_many = refl; each = λ i k e. absurd (let q : None ≡ Some k = e in cc) }

pub one_more_mark : (marks : List (Option Mark)) (m : Module) (type : FuncType) (body : Body) (n : ℕ) (k : Option Mark) → SoFar marks m type body n → MarkIs k m type body n → SoFar (marks ++ k ∷ []) m type body (n + 1)
one_more_mark marks m type body n k h is = record {
  as_many = length-append marks (k ∷ []) ∙ (let q : length marks ≡ n = h.as_many in omega arith);
  each = λ i x e. by_place i x (below_or i n (within i x e)) e;
}
  where
    within : (i : ℕ) (x : Option Mark) → slice_get (marks ++ k ∷ []) i ≡ Some x → i ≤ n
    within i x e = let w = slice_get_within (marks ++ k ∷ []) i x e in omega (arith, w, length-append marks (k ∷ []), h.as_many)

    below_or : (j i : ℕ) → j ≤ i → (j < i) ⊎ (j ≡ i)
    below_or zero zero le = inr refl
    below_or zero (suc i) le = inl (omega arith)
    below_or (suc j) zero le = absurd (omega arith)
    below_or (suc j) (suc i) le = ⊎_elim (λ a. inl (omega (arith, a))) (λ b. inr (ap suc b)) (below_or j i (omega arith))

    by_place : (i : ℕ) (x : Option Mark) → (i < n) ⊎ (i ≡ n) → slice_get (marks ++ k ∷ []) i ≡ Some x → MarkIs x m type body i
    by_place i x o e =
        ⊎_elim (λ a. h.each i x (sym (get_front marks (k ∷ []) i (omega (arith, a, h.as_many))) ∙ e))
        (λ b.
        let z : i ≡ length marks + 0 = omega (arith, b, h.as_many) in
        let q : k ≡ x = some_is (sym (get_behind marks (k ∷ []) 0) ∙ ap (slice_get (marks ++ k ∷ [])) (sym z) ∙ e) in
        subst (λ y. MarkIs y m type body i) q (subst (λ j. MarkIs k m type body j) (sym b) is)) o

-- ---- as the code finds it

pub mark_some : (fs : List Frame) (n : ℕ) (t : Option ValType) → height_of fs ≡ Some n → t ≡ topmost (operands fs) → Some (record { height = n; top = t }) ≡ mark_of fs
mark_some fs n t e q = by_test (any_free fs) refl
  where
    by_test : (b : Bool) → any_free fs ≡ b → Some (record { height = n; top = t }) ≡ mark_of fs
    by_test true b = absurd (let z : None ≡ Some n = (rw b at e) in cc)
    by_test false b =
        let z : Some (length (operands fs)) ≡ Some n = (rw b at e) in
        rw b (ap (λ k. Some (record { height = k; top = t })) (sym (some_is z)) ∙ ap (λ k. Some (record { height = length (operands fs); top = k })) q)

pub mark_none : (fs : List Frame) → height_of fs ≡ None → None ≡ mark_of fs
mark_none fs e = by_test (any_free fs) refl
  where
    by_test : (b : Bool) → any_free fs ≡ b → None ≡ mark_of fs
    by_test true b = rw b refl
    by_test false b = absurd (let z : Some (length (operands fs)) ≡ None = (rw b at e) in cc)

pub all_marked : (marks : List (Option Mark)) (m : Module) (type : FuncType) (body : Body) (n : ℕ) → n ≤ length body.ops → length body.ops ≤ n → SoFar marks m type body n → Marked marks m type body
all_marked marks m type body n le ge h = record { as_many = h.as_many ∙ omega (arith, le, ge); each = h.each }
