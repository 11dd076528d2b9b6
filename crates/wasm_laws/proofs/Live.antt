-- The operand types before a live instruction are unique, and those that a call leaves.
use Rattle.std.proofs.Common.{◌≡◌, ℕ, suc, ◌<◌, ◌≤◌, List, [], ◌∷◌, ◌++◌, inl, inr, length, reverse, Option, Some, None, refl, sym, ap, ap₂, subst, ◌∙◌, arith}
use Rattle.std.specs.Prelude.{option_to_list}
use Rattle.wasm_syntax.specs.declared.value.ValType.{ValType}
use Rattle.wasm_syntax.specs.declared.value.ValType.TheVariants.{I32}
use Rattle.wasm_syntax.specs.declared.instruction.Basic.{Basic}
use Rattle.wasm_syntax.specs.declared.instruction.Op.{Op}
use Rattle.wasm_syntax.specs.declared.parts.FuncType.{FuncType}
use Rattle.wasm_syntax.specs.declared.parts.Body.{Body}
use Rattle.wasm_syntax.specs.declared.module.ModuleParts.{ModuleParts as Module}
use Rattle.wasm_syntax.specs.Module.{Ascend, InOrder}
use Rattle.wasm_syntax.specs.Tree.{Jump, Unreachable, Br, BrIf, BrTable, Return, Call, CallIndirect, Nodes, stop, basic, jump, block, loop, choose, Placed, placed, Else, End, write, IsTree, code_of}
use Rattle.wasm_syntax.specs.Typing.{Context, Arrow, ◌⇒◌, Above, BasicTypes, arrow, JumpTypes, within, body_context}
use Rattle.wasm_syntax.specs.Machine.{offset_in}
use Rattle.wasm_syntax.specs.Static.{Spot, spot, goes_on, Live, IsNode, LiveAt, Static, CallTakes, Left}
use Rattle.wasm_laws.proofs.Progress.{head, tail, takes_len}
use Rattle.wasm_laws.proofs.Unique.{one_tree}
use Rattle.pm_text.proofs.Lists.{some_is}
use Rattle.wasm_syntax.specs.calls.Classes.{TypeSource, DropsAny, SelectsAny, FromLocal, IntoLocal, TeesLocal, FromGlobal, IntoGlobal, OverMemory, OfItself, type_source, source_arrow}
use Rattle.wasm_syntax.proofs.Classes.{arrow_is}

-- ---- what an instruction leaves is determined by what it found

cancel : (xs ys zs : List ValType) → xs ++ ys ≡ xs ++ zs → ys ≡ zs
cancel [] ys zs e = e
cancel (x ∷ xs) ys zs e = cancel xs ys zs (ap tail e)

same_front : (xs us ys zs : List ValType) → length xs ≡ length us → xs ++ ys ≡ us ++ zs → xs ≡ us
same_front [] [] ys zs l e = refl
same_front [] (u ∷ us) ys zs l e = absurd (omega (arith, l))
same_front (x ∷ xs) [] ys zs l e = absurd (omega (arith, l))
same_front (x ∷ xs) (u ∷ us) ys zs l e = let l' : length xs ≡ length us = omega (arith, l) in ap₂ (λ a l. a ∷ l) (ap head e) (same_front xs us ys zs l' (ap tail e))

above_one : (a : Arrow) (before after after' : List ValType) → Above a before after → Above a before after' → after ≡ after'
above_one a before after after' h k = h.gives ∙ ap (λ z. a.gives ++ z) (cancel a.takes h.below k.below (sym h.takes ∙ k.takes)) ∙ sym k.gives

same_arrow : (o : Option Arrow) (a b : Arrow) → o ≡ Some a → o ≡ Some b → a.gives ≡ b.gives
same_arrow o a b e f = ap (λ z. z.gives) (some_is (sym e ∙ f))

module _ (c : Context) where
  gives_typed : (k : TypeSource) (t u : ValType) (a b : Arrow) → source_arrow c t k ≡ Some a → source_arrow c u k ≡ Some b → a.takes ≡ b.takes → a.gives ≡ b.gives
  gives_typed DropsAny t u a b e f s = sym (ap (λ z. z.gives) (some_is e)) ∙ ap (λ z. z.gives) (some_is f)
  gives_typed SelectsAny t u a b e f s =
      let p : head (tail a.takes) ∷ [] ≡ a.gives = ap (λ z. head (tail z.takes) ∷ []) (sym (some_is e)) ∙ ap (λ z. z.gives) (some_is e) in
      let q : head (tail b.takes) ∷ [] ≡ b.gives = ap (λ z. head (tail z.takes) ∷ []) (sym (some_is f)) ∙ ap (λ z. z.gives) (some_is f) in
      sym p ∙ ap (λ z. head (tail z) ∷ []) s ∙ q
  gives_typed (FromLocal x) t u a b e f s = same_arrow (source_arrow c t (FromLocal x)) a b e f
  gives_typed (IntoLocal x) t u a b e f s = same_arrow (source_arrow c t (IntoLocal x)) a b e f
  gives_typed (TeesLocal x) t u a b e f s = same_arrow (source_arrow c t (TeesLocal x)) a b e f
  gives_typed (FromGlobal x) t u a b e f s = same_arrow (source_arrow c t (FromGlobal x)) a b e f
  gives_typed (IntoGlobal x) t u a b e f s = same_arrow (source_arrow c t (IntoGlobal x)) a b e f
  gives_typed (OverMemory fits ts given) t u a b e f s = same_arrow (source_arrow c t (OverMemory fits ts given)) a b e f
  gives_typed (OfItself ts given) t u a b e f s = same_arrow (source_arrow c t (OfItself ts given)) a b e f

  gives_one : (i : Basic) (t u : ValType) (a b : Arrow) → arrow c t i ≡ Some a → arrow c u i ≡ Some b → a.takes ≡ b.takes → a.gives ≡ b.gives
  gives_one i t u a b e f s = gives_typed (type_source i) t u a b (sym (arrow_is c t i) ∙ e) (sym (arrow_is c u i) ∙ f) s

  pub basic_one : (i : Basic) (before after after' : List ValType) → BasicTypes c i before after → BasicTypes c i before after' → after ≡ after'
  basic_one i before after after' h k =
      let together : h.arrow_is.takes ++ h.above.below ≡ k.arrow_is.takes ++ k.above.below = sym h.above.takes ∙ k.above.takes in
      let long : length h.arrow_is.takes ≡ length k.arrow_is.takes = takes_len c i h.any h.arrow_is h.has ∙ sym (takes_len c i k.any k.arrow_is k.has) in
      let front : h.arrow_is.takes ≡ k.arrow_is.takes = same_front h.arrow_is.takes k.arrow_is.takes h.above.below k.above.below long together in
      let under : h.above.below ≡ k.above.below = cancel k.arrow_is.takes h.above.below k.above.below (ap (λ z. z ++ h.above.below) (sym front) ∙ together) in
      h.above.gives ∙ ap₂ (λ x y. x ++ y) (gives_one i h.any k.any h.arrow_is k.arrow_is h.has k.has front) under ∙ sym k.above.gives

  pub jump_one : (j : Jump) (before after after' : List ValType) → goes_on j → JumpTypes c j before after → JumpTypes c j before after' → after ≡ after'
  jump_one Unreachable before after after' g h k = absurd g
  jump_one (Br n) before after after' g h k = absurd g
  jump_one (BrIf n) before after after' g h k =
      let e : k.0 ≡ h.0 = some_is (sym k.1 ∙ h.1) in
      above_one (I32 ∷ h.0 ⇒ h.0) before after after' h.2 (subst (λ z. Above (I32 ∷ z ⇒ z) before after') e k.2)
  jump_one (BrTable targets default) before after after' g h k = absurd g
  jump_one Return before after after' g h k = absurd g
  jump_one (Call f) before after after' g h k =
      let e : k.0 ≡ h.0 = some_is (sym k.1 ∙ h.1) in
      above_one (reverse h.0.params ⇒ reverse h.0.results) before after after' h.2 (subst (λ z. Above (reverse z.params ⇒ reverse z.results) before after') e k.2)
  jump_one (CallIndirect t) before after after' g h k =
      let e : k.0 ≡ h.0 = some_is (sym k.2 ∙ h.2) in
      above_one (I32 ∷ reverse h.0.params ⇒ reverse h.0.results) before after after' h.3 (subst (λ z. Above (I32 ∷ reverse z.params ⇒ reverse z.results) before after') e k.3)

-- ---- nodes at ascending offsets

-- their offsets ascend from lo on, below hi
abbrev Ordered : ℕ → Nodes → ℕ → Type 0
Ordered lo stop hi = lo ≤ hi
Ordered lo (basic at i rest) hi = (lo ≤ at) × Ordered (suc at) rest hi
Ordered lo (jump at j rest) hi = (lo ≤ at) × Ordered (suc at) rest hi
Ordered lo (block at t body end rest) hi = (lo ≤ at) × (m : ℕ) × Ordered (suc at) body m × (m ≤ end) × Ordered (suc end) rest hi
Ordered lo (loop at t body end rest) hi = (lo ≤ at) × (m : ℕ) × Ordered (suc at) body m × (m ≤ end) × Ordered (suc end) rest hi
Ordered lo (choose at t a else_at b end rest) hi =
    (lo ≤ at) × (m : ℕ) × Ordered (suc at) a m × (k : ℕ) × (m ≤ k) × (n : ℕ) × Ordered k b n × (n ≤ end) × Ordered (suc end) rest hi

abbrev pub AscendCode : ℕ → List Placed → Type 0
AscendCode least [] = Unit {0}
AscendCode least (p ∷ ps) = (least ≤ p.at) × AscendCode (suc p.at) ps

pub ascend_code : (targets : List ℕ) (least : ℕ) (ops : List Op) → Ascend least ops → AscendCode least (code_of targets ops)
ascend_code targets least [] h = tt
ascend_code targets least (o ∷ ops) h = (h.0, ascend_code targets (suc o.at) ops h.1)

ordered : (ns : Nodes) (lo : ℕ) (after : List Placed) → IsTree ns → AscendCode lo (write ns after) → (hi : ℕ) × Ordered lo ns hi × AscendCode hi after
ordered stop lo after t h = (lo, omega arith, h)
ordered (basic at i rest) lo after t h = let r = ordered rest (suc at) after t h.1 in (r.0, (h.0, r.1), r.2)
ordered (jump at j rest) lo after t h = let r = ordered rest (suc at) after t h.1 in (r.0, (h.0, r.1), r.2)
ordered (block at t body end rest) lo after is h =
    let b = ordered body (suc at) (placed end End ∷ write rest after) is.0 h.1 in
    let r = ordered rest (suc end) after is.1 b.2.1 in
    (r.0, (h.0, b.0, b.1, b.2.0, r.1), r.2)
ordered (loop at t body end rest) lo after is h =
    let b = ordered body (suc at) (placed end End ∷ write rest after) is.0 h.1 in
    let r = ordered rest (suc end) after is.1 b.2.1 in
    (r.0, (h.0, b.0, b.1, b.2.0, r.1), r.2)
ordered (choose at t a (Some e) b end rest) lo after is h =
    let x = ordered a (suc at) (placed e Else ∷ write b (placed end End ∷ write rest after)) is.0 h.1 in
    let y = ordered b (suc e) (placed end End ∷ write rest after) is.2 x.2.1 in
    let r = ordered rest (suc end) after is.3 y.2.1 in
    (r.0, (h.0, x.0, x.1, suc e, omega (arith, x.2.0), y.0, y.1, y.2.0, r.1), r.2)
ordered (choose at t a None b end rest) lo after is h =
    let x = ordered a (suc at) (write b (placed end End ∷ write rest after)) is.0 h.1 in
    let y = ordered b x.0 (placed end End ∷ write rest after) is.2 x.2 in
    let r = ordered rest (suc end) after is.3 y.2.1 in
    (r.0, (h.0, x.0, x.1, x.0, omega arith, y.0, y.1, y.2.0, r.1), r.2)

span : (ns : Nodes) (lo hi : ℕ) → Ordered lo ns hi → lo ≤ hi
span stop lo hi h = h
span (basic at i rest) lo hi h = omega (arith, h.0, span rest (suc at) hi h.1)
span (jump at j rest) lo hi h = omega (arith, h.0, span rest (suc at) hi h.1)
span (block at t body end rest) lo hi h = omega (arith, h.0, span body (suc at) h.1 h.2, h.3, span rest (suc end) hi h.4)
span (loop at t body end rest) lo hi h = omega (arith, h.0, span body (suc at) h.1 h.2, h.3, span rest (suc end) hi h.4)
span (choose at t a else_at b end rest) lo hi h = omega (arith, h.0, span a (suc at) h.1 h.2, h.4, span b h.3 h.5 h.6, h.7, span rest (suc end) hi h.8)

-- the spot's offset lies between these
pub record Between (lo hi : ℕ) (s : Spot) : Type 0 where
  pub low : lo ≤ offset_in s.nodes 0
  pub high : offset_in s.nodes 0 < hi

wider : (lo lo' hi hi' : ℕ) (s : Spot) → lo ≤ lo' → hi' ≤ hi → Between lo' hi' s → Between lo hi s
wider lo lo' hi hi' s a b h = record { low = omega (arith, a, h.low); high = omega (arith, b, h.high) }

at_first : (n : Nodes) (here outside : List ValType) (at lo hi : ℕ) (s : Spot) → s ≡ spot n here outside → offset_in n 0 ≡ at → lo ≤ at → suc at ≤ hi → Between lo hi s
at_first n here outside at lo hi s e o a b =
    let at_is : offset_in s.nodes 0 ≡ at = ap (λ z. offset_in z.nodes 0) e ∙ o in
    record { low = omega (arith, a, at_is); high = omega (arith, b, at_is) }

live_between : (c : Context) (ns : Nodes) (lo hi : ℕ) (here outside : List ValType) (s : Spot) → Ordered lo ns hi → Live c ns here outside s → IsNode s.nodes → Between lo hi s
live_between c stop lo hi here outside s h l n = absurd (subst (λ z. IsNode z.nodes) l n)
live_between c (basic at i rest) lo hi here outside s h (inl e) n = at_first (basic at i rest) here outside at lo hi s e refl h.0 (span rest (suc at) hi h.1)
live_between c (basic at i rest) lo hi here outside s h (inr l) n =
    wider lo (suc at) hi hi s (omega (arith, h.0)) (omega arith) (live_between c rest (suc at) hi l.0 outside s h.1 l.2 n)
live_between c (jump at j rest) lo hi here outside s h (inl e) n = at_first (jump at j rest) here outside at lo hi s e refl h.0 (span rest (suc at) hi h.1)
live_between c (jump at j rest) lo hi here outside s h (inr l) n =
    wider lo (suc at) hi hi s (omega (arith, h.0)) (omega arith) (live_between c rest (suc at) hi l.0 outside s h.1 l.3 n)
live_between c (block at t body end rest) lo hi here outside s h (inl e) n =
    at_first (block at t body end rest) here outside at lo hi s e refl h.0 (omega (arith, span body (suc at) h.1 h.2, h.3, span rest (suc end) hi h.4))
live_between c (block at t body end rest) lo hi here outside s h (inr (inl l)) n =
    wider lo (suc at) hi h.1 s (omega (arith, h.0)) (omega (arith, h.3, span rest (suc end) hi h.4)) (live_between (within c (option_to_list t)) body (suc at) h.1 [] (here ++ outside) s h.2 l n)
live_between c (block at t body end rest) lo hi here outside s h (inr (inr l)) n =
    wider lo (suc end) hi hi s (omega (arith, h.0, span body (suc at) h.1 h.2, h.3)) (omega arith) (live_between c rest (suc end) hi (option_to_list t ++ here) outside s h.4 l n)
live_between c (loop at t body end rest) lo hi here outside s h (inl e) n =
    at_first (loop at t body end rest) here outside at lo hi s e refl h.0 (omega (arith, span body (suc at) h.1 h.2, h.3, span rest (suc end) hi h.4))
live_between c (loop at t body end rest) lo hi here outside s h (inr (inl l)) n =
    wider lo (suc at) hi h.1 s (omega (arith, h.0)) (omega (arith, h.3, span rest (suc end) hi h.4)) (live_between (within c []) body (suc at) h.1 [] (here ++ outside) s h.2 l n)
live_between c (loop at t body end rest) lo hi here outside s h (inr (inr l)) n =
    wider lo (suc end) hi hi s (omega (arith, h.0, span body (suc at) h.1 h.2, h.3)) (omega arith) (live_between c rest (suc end) hi (option_to_list t ++ here) outside s h.4 l n)
live_between c (choose at t a ea b end rest) lo hi here outside s h (inl e) n =
    at_first (choose at t a ea b end rest) here outside at lo hi s e refl h.0 (omega (arith, span a (suc at) h.1 h.2, h.4, span b h.3 h.5 h.6, h.7, span rest (suc end) hi h.8))
live_between c (choose at t a ea b end rest) lo hi here outside s h (inr (below, e, inl l)) n =
    wider lo (suc at) hi h.1 s (omega (arith, h.0)) (omega (arith, h.4, span b h.3 h.5 h.6, h.7, span rest (suc end) hi h.8)) (live_between (within c (option_to_list t)) a (suc at) h.1 [] (below ++ outside) s h.2 l n)
live_between c (choose at t a ea b end rest) lo hi here outside s h (inr (below, e, inr (inl l))) n =
    wider lo h.3 hi h.5 s (omega (arith, h.0, span a (suc at) h.1 h.2, h.4)) (omega (arith, h.7, span rest (suc end) hi h.8)) (live_between (within c (option_to_list t)) b h.3 h.5 [] (below ++ outside) s h.6 l n)
live_between c (choose at t a ea b end rest) lo hi here outside s h (inr (below, e, inr (inr l))) n =
    wider lo (suc end) hi hi s (omega (arith, h.0, span a (suc at) h.1 h.2, h.4, span b h.3 h.5 h.6, h.7)) (omega arith) (live_between c rest (suc end) hi (option_to_list t ++ below) outside s h.8 l n)

-- ---- one offset, one spot

abbrev offset : Spot → ℕ
offset s = offset_in s.nodes 0

apart : {A : Type 0} (lo hi lo' hi' : ℕ) (s s' : Spot) → Between lo hi s → Between lo' hi' s' → hi ≤ lo' → offset s ≡ offset s' → A
apart lo hi lo' hi' s s' h k d o = absurd (omega (arith, h.high, k.low, d, o))

first_is : (n : Nodes) (here outside : List ValType) (at : ℕ) (s : Spot) → s ≡ spot n here outside → offset_in n 0 ≡ at → Between at (suc at) s
first_is n here outside at s e o = at_first n here outside at at (suc at) s e o (omega arith) (omega arith)

same_spot : (c : Context) (ns : Nodes) (lo hi : ℕ) (here outside : List ValType) (s s' : Spot) → Ordered lo ns hi → IsNode s.nodes → IsNode s'.nodes → offset s ≡ offset s' → Live c ns here outside s → Live c ns here outside s' → s ≡ s'
same_spot c stop lo hi here outside s s' h n n' o l l' = l ∙ sym l'
same_spot c (basic at i rest) lo hi here outside s s' h n n' o (inl e) (inl e') = e ∙ sym e'
same_spot c (basic at i rest) lo hi here outside s s' h n n' o (inl e) (inr l') =
    apart at (suc at) (suc at) hi s s' (first_is (basic at i rest) here outside at s e refl) (live_between c rest (suc at) hi l'.0 outside s' h.1 l'.2 n') (omega arith) o
same_spot c (basic at i rest) lo hi here outside s s' h n n' o (inr l) (inl e') =
    apart at (suc at) (suc at) hi s' s (first_is (basic at i rest) here outside at s' e' refl) (live_between c rest (suc at) hi l.0 outside s h.1 l.2 n) (omega arith) (sym o)
same_spot c (basic at i rest) lo hi here outside s s' h n n' o (inr l) (inr l') =
    let e : l'.0 ≡ l.0 = basic_one c i here l'.0 l.0 l'.1 l.1 in
    same_spot c rest (suc at) hi l.0 outside s s' h.1 n n' o l.2 (subst (λ z. Live c rest z outside s') e l'.2)
same_spot c (jump at j rest) lo hi here outside s s' h n n' o (inl e) (inl e') = e ∙ sym e'
same_spot c (jump at j rest) lo hi here outside s s' h n n' o (inl e) (inr l') =
    apart at (suc at) (suc at) hi s s' (first_is (jump at j rest) here outside at s e refl) (live_between c rest (suc at) hi l'.0 outside s' h.1 l'.3 n') (omega arith) o
same_spot c (jump at j rest) lo hi here outside s s' h n n' o (inr l) (inl e') =
    apart at (suc at) (suc at) hi s' s (first_is (jump at j rest) here outside at s' e' refl) (live_between c rest (suc at) hi l.0 outside s h.1 l.3 n) (omega arith) (sym o)
same_spot c (jump at j rest) lo hi here outside s s' h n n' o (inr l) (inr l') =
    let e : l'.0 ≡ l.0 = jump_one c j here l'.0 l.0 l.1 l'.2 l.2 in
    same_spot c rest (suc at) hi l.0 outside s s' h.1 n n' o l.3 (subst (λ z. Live c rest z outside s') e l'.3)
same_spot c (block at t body end rest) lo hi here outside s s' h n n' o (inl e) (inl e') = e ∙ sym e'
same_spot c (block at t body end rest) lo hi here outside s s' h n n' o (inl e) (inr (inl l')) =
    apart at (suc at) (suc at) h.1 s s' (first_is (block at t body end rest) here outside at s e refl) (live_between (within c (option_to_list t)) body (suc at) h.1 [] (here ++ outside) s' h.2 l' n') (omega arith) o
same_spot c (block at t body end rest) lo hi here outside s s' h n n' o (inl e) (inr (inr l')) =
    apart at (suc at) (suc end) hi s s' (first_is (block at t body end rest) here outside at s e refl) (live_between c rest (suc end) hi (option_to_list t ++ here) outside s' h.4 l' n') (omega (arith, span body (suc at) h.1 h.2, h.3)) o
same_spot c (block at t body end rest) lo hi here outside s s' h n n' o (inr (inl l)) (inl e') =
    apart at (suc at) (suc at) h.1 s' s (first_is (block at t body end rest) here outside at s' e' refl) (live_between (within c (option_to_list t)) body (suc at) h.1 [] (here ++ outside) s h.2 l n) (omega arith) (sym o)
same_spot c (block at t body end rest) lo hi here outside s s' h n n' o (inr (inl l)) (inr (inl l')) = same_spot (within c (option_to_list t)) body (suc at) h.1 [] (here ++ outside) s s' h.2 n n' o l l'
same_spot c (block at t body end rest) lo hi here outside s s' h n n' o (inr (inl l)) (inr (inr l')) =
    apart (suc at) h.1 (suc end) hi s s' (live_between (within c (option_to_list t)) body (suc at) h.1 [] (here ++ outside) s h.2 l n) (live_between c rest (suc end) hi (option_to_list t ++ here) outside s' h.4 l' n') (omega (arith, h.3)) o
same_spot c (block at t body end rest) lo hi here outside s s' h n n' o (inr (inr l)) (inl e') =
    apart at (suc at) (suc end) hi s' s (first_is (block at t body end rest) here outside at s' e' refl) (live_between c rest (suc end) hi (option_to_list t ++ here) outside s h.4 l n) (omega (arith, span body (suc at) h.1 h.2, h.3)) (sym o)
same_spot c (block at t body end rest) lo hi here outside s s' h n n' o (inr (inr l)) (inr (inl l')) =
    apart (suc at) h.1 (suc end) hi s' s (live_between (within c (option_to_list t)) body (suc at) h.1 [] (here ++ outside) s' h.2 l' n') (live_between c rest (suc end) hi (option_to_list t ++ here) outside s h.4 l n) (omega (arith, h.3)) (sym o)
same_spot c (block at t body end rest) lo hi here outside s s' h n n' o (inr (inr l)) (inr (inr l')) = same_spot c rest (suc end) hi (option_to_list t ++ here) outside s s' h.4 n n' o l l'
same_spot c (loop at t body end rest) lo hi here outside s s' h n n' o (inl e) (inl e') = e ∙ sym e'
same_spot c (loop at t body end rest) lo hi here outside s s' h n n' o (inl e) (inr (inl l')) =
    apart at (suc at) (suc at) h.1 s s' (first_is (loop at t body end rest) here outside at s e refl) (live_between (within c []) body (suc at) h.1 [] (here ++ outside) s' h.2 l' n') (omega arith) o
same_spot c (loop at t body end rest) lo hi here outside s s' h n n' o (inl e) (inr (inr l')) =
    apart at (suc at) (suc end) hi s s' (first_is (loop at t body end rest) here outside at s e refl) (live_between c rest (suc end) hi (option_to_list t ++ here) outside s' h.4 l' n') (omega (arith, span body (suc at) h.1 h.2, h.3)) o
same_spot c (loop at t body end rest) lo hi here outside s s' h n n' o (inr (inl l)) (inl e') =
    apart at (suc at) (suc at) h.1 s' s (first_is (loop at t body end rest) here outside at s' e' refl) (live_between (within c []) body (suc at) h.1 [] (here ++ outside) s h.2 l n) (omega arith) (sym o)
same_spot c (loop at t body end rest) lo hi here outside s s' h n n' o (inr (inl l)) (inr (inl l')) = same_spot (within c []) body (suc at) h.1 [] (here ++ outside) s s' h.2 n n' o l l'
same_spot c (loop at t body end rest) lo hi here outside s s' h n n' o (inr (inl l)) (inr (inr l')) =
    apart (suc at) h.1 (suc end) hi s s' (live_between (within c []) body (suc at) h.1 [] (here ++ outside) s h.2 l n) (live_between c rest (suc end) hi (option_to_list t ++ here) outside s' h.4 l' n') (omega (arith, h.3)) o
same_spot c (loop at t body end rest) lo hi here outside s s' h n n' o (inr (inr l)) (inl e') =
    apart at (suc at) (suc end) hi s' s (first_is (loop at t body end rest) here outside at s' e' refl) (live_between c rest (suc end) hi (option_to_list t ++ here) outside s h.4 l n) (omega (arith, span body (suc at) h.1 h.2, h.3)) (sym o)
same_spot c (loop at t body end rest) lo hi here outside s s' h n n' o (inr (inr l)) (inr (inl l')) =
    apart (suc at) h.1 (suc end) hi s' s (live_between (within c []) body (suc at) h.1 [] (here ++ outside) s' h.2 l' n') (live_between c rest (suc end) hi (option_to_list t ++ here) outside s h.4 l n) (omega (arith, h.3)) (sym o)
same_spot c (loop at t body end rest) lo hi here outside s s' h n n' o (inr (inr l)) (inr (inr l')) = same_spot c rest (suc end) hi (option_to_list t ++ here) outside s s' h.4 n n' o l l'
same_spot c (choose at t a ea b end rest) lo hi here outside s s' h n n' o (inl e) (inl e') =
    e ∙ sym e'
same_spot c (choose at t a ea b end rest) lo hi here outside s s' h n n' o (inl e) (inr (u', e', inl l')) =
    apart at (suc at) (suc at) h.1 s s' (first_is (choose at t a ea b end rest) here outside at s e refl) (live_between (within c (option_to_list t)) a (suc at) h.1 [] (u' ++ outside) s' h.2 l' n') (omega arith) o
same_spot c (choose at t a ea b end rest) lo hi here outside s s' h n n' o (inl e) (inr (u', e', inr (inl l'))) =
    apart at (suc at) h.3 h.5 s s' (first_is (choose at t a ea b end rest) here outside at s e refl) (live_between (within c (option_to_list t)) b h.3 h.5 [] (u' ++ outside) s' h.6 l' n') (omega (arith, span a (suc at) h.1 h.2, h.4)) o
same_spot c (choose at t a ea b end rest) lo hi here outside s s' h n n' o (inl e) (inr (u', e', inr (inr l'))) =
    apart at (suc at) (suc end) hi s s' (first_is (choose at t a ea b end rest) here outside at s e refl) (live_between c rest (suc end) hi (option_to_list t ++ u') outside s' h.8 l' n') (omega (arith, span a (suc at) h.1 h.2, h.4, span b h.3 h.5 h.6, h.7)) o
same_spot c (choose at t a ea b end rest) lo hi here outside s s' h n n' o (inr (u, e, inl l)) (inl e') =
    apart at (suc at) (suc at) h.1 s' s (first_is (choose at t a ea b end rest) here outside at s' e' refl) (live_between (within c (option_to_list t)) a (suc at) h.1 [] (u ++ outside) s h.2 l n) (omega arith) (sym o)
same_spot c (choose at t a ea b end rest) lo hi here outside s s' h n n' o (inr (u, e, inl l)) (inr (u', e', inl l')) =
    let g : u' ≡ u = ap tail (sym e' ∙ e) in same_spot (within c (option_to_list t)) a (suc at) h.1 [] (u ++ outside) s s' h.2 n n' o l (subst (λ z. Live (within c (option_to_list t)) a [] (z ++ outside) s') g l')
same_spot c (choose at t a ea b end rest) lo hi here outside s s' h n n' o (inr (u, e, inl l)) (inr (u', e', inr (inl l'))) =
    apart (suc at) h.1 h.3 h.5 s s' (live_between (within c (option_to_list t)) a (suc at) h.1 [] (u ++ outside) s h.2 l n) (live_between (within c (option_to_list t)) b h.3 h.5 [] (u' ++ outside) s' h.6 l' n') (h.4) o
same_spot c (choose at t a ea b end rest) lo hi here outside s s' h n n' o (inr (u, e, inl l)) (inr (u', e', inr (inr l'))) =
    apart (suc at) h.1 (suc end) hi s s' (live_between (within c (option_to_list t)) a (suc at) h.1 [] (u ++ outside) s h.2 l n) (live_between c rest (suc end) hi (option_to_list t ++ u') outside s' h.8 l' n') (omega (arith, h.4, span b h.3 h.5 h.6, h.7)) o
same_spot c (choose at t a ea b end rest) lo hi here outside s s' h n n' o (inr (u, e, inr (inl l))) (inl e') =
    apart at (suc at) h.3 h.5 s' s (first_is (choose at t a ea b end rest) here outside at s' e' refl) (live_between (within c (option_to_list t)) b h.3 h.5 [] (u ++ outside) s h.6 l n) (omega (arith, span a (suc at) h.1 h.2, h.4)) (sym o)
same_spot c (choose at t a ea b end rest) lo hi here outside s s' h n n' o (inr (u, e, inr (inl l))) (inr (u', e', inl l')) =
    apart (suc at) h.1 h.3 h.5 s' s (live_between (within c (option_to_list t)) a (suc at) h.1 [] (u' ++ outside) s' h.2 l' n') (live_between (within c (option_to_list t)) b h.3 h.5 [] (u ++ outside) s h.6 l n) (h.4) (sym o)
same_spot c (choose at t a ea b end rest) lo hi here outside s s' h n n' o (inr (u, e, inr (inl l))) (inr (u', e', inr (inl l'))) =
    let g : u' ≡ u = ap tail (sym e' ∙ e) in same_spot (within c (option_to_list t)) b h.3 h.5 [] (u ++ outside) s s' h.6 n n' o l (subst (λ z. Live (within c (option_to_list t)) b [] (z ++ outside) s') g l')
same_spot c (choose at t a ea b end rest) lo hi here outside s s' h n n' o (inr (u, e, inr (inl l))) (inr (u', e', inr (inr l'))) =
    apart h.3 h.5 (suc end) hi s s' (live_between (within c (option_to_list t)) b h.3 h.5 [] (u ++ outside) s h.6 l n) (live_between c rest (suc end) hi (option_to_list t ++ u') outside s' h.8 l' n') (omega (arith, h.7)) o
same_spot c (choose at t a ea b end rest) lo hi here outside s s' h n n' o (inr (u, e, inr (inr l))) (inl e') =
    apart at (suc at) (suc end) hi s' s (first_is (choose at t a ea b end rest) here outside at s' e' refl) (live_between c rest (suc end) hi (option_to_list t ++ u) outside s h.8 l n) (omega (arith, span a (suc at) h.1 h.2, h.4, span b h.3 h.5 h.6, h.7)) (sym o)
same_spot c (choose at t a ea b end rest) lo hi here outside s s' h n n' o (inr (u, e, inr (inr l))) (inr (u', e', inl l')) =
    apart (suc at) h.1 (suc end) hi s' s (live_between (within c (option_to_list t)) a (suc at) h.1 [] (u' ++ outside) s' h.2 l' n') (live_between c rest (suc end) hi (option_to_list t ++ u) outside s h.8 l n) (omega (arith, h.4, span b h.3 h.5 h.6, h.7)) (sym o)
same_spot c (choose at t a ea b end rest) lo hi here outside s s' h n n' o (inr (u, e, inr (inr l))) (inr (u', e', inr (inl l'))) =
    apart h.3 h.5 (suc end) hi s' s (live_between (within c (option_to_list t)) b h.3 h.5 [] (u' ++ outside) s' h.6 l' n') (live_between c rest (suc end) hi (option_to_list t ++ u) outside s h.8 l n) (omega (arith, h.7)) (sym o)
same_spot c (choose at t a ea b end rest) lo hi here outside s s' h n n' o (inr (u, e, inr (inr l))) (inr (u', e', inr (inr l'))) =
    let g : u' ≡ u = ap tail (sym e' ∙ e) in same_spot c rest (suc end) hi (option_to_list t ++ u) outside s s' h.8 n n' o l (subst (λ z. Live c rest (option_to_list t ++ z) outside s') g l')

-- the live instruction at an offset stands at one spot
one_spot : (m : Module) (type : FuncType) (body : Body) (o : ℕ) (s t : Spot) → InOrder body → LiveAt m type body o s → LiveAt m type body o t → s ≡ t
one_spot m type body o s t q l r =
    let tree : r.tree ≡ l.tree = one_tree (code_of body.targets body.ops) r.tree l.tree r.writes l.writes in
    let asc : AscendCode 0 (write l.tree.nodes (placed l.tree.end End ∷ [])) = subst (AscendCode 0) l.writes.out (ascend_code body.targets 0 body.ops q.offsets) in
    let w = ordered l.tree.nodes 0 (placed l.tree.end End ∷ []) l.writes.arms asc in
    let live : Live (body_context m type body) l.tree.nodes [] [] t = subst (λ x. Live (body_context m type body) x.nodes [] [] t) tree r.live in
    same_spot (body_context m type body) l.tree.nodes 0 w.0 [] [] s t w.1 l.node r.node (l.at ∙ sym r.at) l.live live

-- and has one list of operand types before it
pub one_static : (m : Module) (type : FuncType) (body : Body) (o : ℕ) (ts us : List ValType) → InOrder body → Static m type body o ts → Static m type body o us → ts ≡ us
one_static m type body o ts us q h k = h.2 ∙ ap (λ s. reverse (s.here ++ s.outside)) (one_spot m type body o h.0 k.0 q h.1 k.1) ∙ sym k.2

takes_one : (m : Module) (ns : Nodes) (ts us : List ValType) → CallTakes m ns ts → CallTakes m ns us → ts ≡ us
takes_one m (jump at (Call g) rest) ts us h k = let e : h.0 ≡ k.0 = some_is (sym h.1 ∙ k.1) in h.2 ∙ ap (λ z. reverse z.params) e ∙ sym k.2
takes_one m (jump at (CallIndirect t) rest) ts us h k = let e : h.0 ≡ k.0 = some_is (sym h.1 ∙ k.1) in h.2 ∙ ap (λ z. I32 ∷ reverse z.params) e ∙ sym k.2
takes_one m (jump at Unreachable rest) ts us h k = absurd h
takes_one m (jump at (Br n) rest) ts us h k = absurd h
takes_one m (jump at (BrIf n) rest) ts us h k = absurd h
takes_one m (jump at (BrTable targets default) rest) ts us h k = absurd h
takes_one m (jump at Return rest) ts us h k = absurd h
takes_one m stop ts us h k = absurd h
takes_one m (basic at i rest) ts us h k = absurd h
takes_one m (block at t body end rest) ts us h k = absurd h
takes_one m (loop at t body end rest) ts us h k = absurd h
takes_one m (choose at t a ea b end rest) ts us h k = absurd h

-- a call at an offset has one list of operand types without what it takes
pub one_left : (m : Module) (type : FuncType) (body : Body) (o : ℕ) (ts us : List ValType) → InOrder body → Left m type body o ts → Left m type body o us → ts ≡ us
one_left m type body o ts us q h k =
    let same : h.0 ≡ k.0 = one_spot m type body o h.0 k.0 q h.1 k.1 in
    let takes : h.2 ≡ k.2 = takes_one m k.0.nodes h.2 k.2 (subst (λ s. CallTakes m s.nodes h.2) same h.3) k.3 in
    let here : h.2 ++ h.4 ≡ k.2 ++ k.4 = sym h.5 ∙ ap (λ s. s.here) same ∙ k.5 in
    let below : h.4 ≡ k.4 = cancel k.2 h.4 k.4 (ap (λ z. z ++ h.4) (sym takes) ∙ here) in
    h.6 ∙ ap₂ (λ b s. reverse (b ++ s.outside)) below same ∙ sym k.6
