-- How a frame's labels change with its position and its controls.
use Rattle.std.proofs.Common.{◌≡◌, ℕ, zero, suc, ◌+◌, ◌≤◌, List, [], ◌∷◌, ◌++◌, length, drop, refl, sym, ap, subst, ◌∙◌, append_assoc, arith, inl, inr, ⊎_elim}
use Rattle.std.specs.Prelude.{Bool, true, false, Option, Some, None, slice_get, ◌⊎◌, unwrap_or}
use Rattle.wasm_syntax.specs.declared.value.ValType.{ValType}
use Rattle.wasm_syntax.specs.declared.value.Value.{Value}
use Rattle.wasm_syntax.specs.Numbers.{type_of, same_type}
use Rattle.wasm_syntax.specs.declared.instruction.Basic.{Basic}
use Rattle.wasm_syntax.specs.Tree.{Jump, Nodes, stop, basic, jump, block, loop, choose, Item, Plain, Goes, Opens, OpensLoop, OpensIf, Else, End, Placed}
use Rattle.wasm_syntax.specs.Machine.{Kind, leaves, again, returns, Label, label, inside, nowhere, joined, branch, land, top, exactly, arrive_some, out_some}
use Rattle.machine_code.specs.declared.sides.Side.{Side}
use Rattle.machine_code.specs.calls.Flat.{Is, At, size, else_size}
use Rattle.machine_code.specs.calls.Code.{gives_one}
use Rattle.machine_steps.specs.declared.layout.Control.{Control}
use Rattle.machine_steps.specs.calls.Layout.{control, Under, Labels}
use Rattle.machine_steps.specs.inner.Moves.{Carried}
use Rattle.pm_text.proofs.Lists.{some_is}
use Rattle.std.specs.Bool.{then_some}

-- the instruction of a first node; where there is none, what closes a label
abbrev pub First : Nodes → Item → Type 0
First stop i = (i ≡ End) ⊎ (i ≡ Else)
First (basic at b rest) i = i ≡ Plain b
First (jump at j rest) i = i ≡ Goes j
First (block at t body end rest) i = i ≡ Opens t
First (loop at t body end rest) i = i ≡ OpensLoop t
First (choose at t a ea b end rest) i = i ≡ OpensIf t

else_more : (ea : Option ℕ) (pc a b : ℕ) → suc pc + a + else_size ea 0 + b ≡ suc pc + a + else_size ea b
else_more None pc a b = omega arith
else_more (Some at) pc a b = omega arith

-- ---- what a branch or a return takes

-- results of a type are the topmost value or none
pub record Splits (t : Option ValType) (vs taken : List Value) : Type 0 where
  pub gone : List Value
  pub parts : vs ≡ taken ++ gone
  pub carried : Carried (gives_one t) taken

top_one : (b : Bool) (v : Value) (vs taken : List Value) (t : ValType) → then_some b (v ∷ []) ≡ Some taken → Splits (Some t) (v ∷ vs) taken
top_one false v vs taken t e = absurd (cc)
top_one true v vs taken t e = let q : v ∷ [] ≡ taken = some_is e in record { gone = vs; parts = ap (λ l. l ++ vs) q; carried = (v, sym q) }

pub top_splits : (t : Option ValType) (vs taken : List Value) → top t vs ≡ Some taken → Splits t vs taken
top_splits None vs taken e = let q : [] ≡ taken = some_is e in record { gone = vs; parts = ap (λ l. l ++ vs) q; carried = sym q }
top_splits (Some t) [] taken e = absurd (cc)
top_splits (Some t) (v ∷ vs) taken e = top_one (same_type (type_of v) t) v vs taken t e

all_one : (b : Bool) (v : Value) (taken : List Value) → then_some b (v ∷ []) ≡ Some taken → v ∷ [] ≡ taken
all_one false v taken e = absurd (cc)
all_one true v taken e = some_is e

-- where all operands are results, they are the topmost ones
pub exactly_all : (t : Option ValType) (vs taken : List Value) → exactly t vs ≡ Some taken → vs ≡ taken
exactly_all None [] taken e = some_is e
exactly_all None (v ∷ vs) taken e = absurd (cc)
exactly_all (Some t) [] taken e = absurd (cc)
exactly_all (Some t) (v ∷ []) taken e = all_one (same_type (type_of v) t) v taken e
exactly_all (Some t) (v ∷ w ∷ vs) taken e = absurd (cc)

pub exactly_top : (t : Option ValType) (vs : List Value) → (exactly t vs ≡ None) ⊎ (exactly t vs ≡ top t vs)
exactly_top None [] = inr refl
exactly_top None (v ∷ vs) = inl refl
exactly_top (Some t) [] = inl refl
exactly_top (Some t) (v ∷ []) = inr refl
exactly_top (Some t) (v ∷ w ∷ vs) = inl refl

module _ (code : List Placed) (sides : List Side) where
  pub same_item : (pc at at' : ℕ) (i i' : Item) → Is code sides pc at i → Is code sides pc at' i' → i ≡ i'
  same_item pc at at' i i' h h' = ap (λ (p : Placed). p.code) (some_is (sym h ∙ h'))

  pub not_both : (pc at at' : ℕ) → Is code sides pc at End → Is code sides pc at' Else → ⊥
  not_both pc at at' h h' = let e : End ≡ Else = same_item pc at at' End Else h h' in cc

  module _ (result : Option ValType) (floor : ℕ) where
    -- ---- positions that are equal

    pub at_place : (ns : Nodes) (p q : ℕ) → p ≡ q → At code sides ns p → At code sides ns q
    at_place ns p q e h = subst (λ n. At code sides ns n) e h

    pub under_place : (kind : Kind) (ls : List Label) (p q at : ℕ) (ks : List Control) → p ≡ q → Under code sides result floor kind ls p at ks → Under code sides result floor kind ls q at ks
    under_place kind ls p q at ks e h = subst (λ n. Under code sides result floor kind ls n at ks) e h

    -- ---- what stands at a position

    -- a label is closed by `end` or `else`
    pub closed : (kind : Kind) (ls : List Label) (e at : ℕ) (ks : List Control) → Under code sides result floor kind ls e at ks → (Is code sides e at End) ⊎ (Is code sides e at Else)
    closed (returns t) ls e at ks h = inl h.0
    closed (leaves t) [] e at ks h = absurd h
    closed (leaves t) (l ∷ ls) e at [] h = absurd h
    closed (leaves t) (l ∷ ls) e at (k ∷ ks) h = ⊎_elim (λ c. inl c.0) (λ c. inr c) h.0
    closed (again o t body end) [] e at ks h = absurd h
    closed (again o t body end) (l ∷ ls) e at [] h = absurd h
    closed (again o t body end) (l ∷ ls) e at (k ∷ ks) h = inl h.1

    pub first_is : (ns : Nodes) (l : Label) (ls : List Label) (pc at : ℕ) (i : Item) (ks : List Control) → At code sides ns pc → Under code sides result floor l.kind ls (pc + size ns) l.end ks → Is code sides pc at i → First ns i
    first_is stop l ls pc at i ks h u r =
        let e : pc + 0 ≡ pc = omega arith in
        ⊎_elim (λ c. inl (same_item pc at l.end i End r c)) (λ c. inr (same_item pc at l.end i Else r c)) (closed l.kind ls pc l.end ks (under_place l.kind ls _ pc l.end ks e u))
    first_is (basic o b rest) l ls pc at i ks h u r = same_item pc at o i (Plain b) r h.0
    first_is (jump o j rest) l ls pc at i ks h u r = same_item pc at o i (Goes j) r h.0
    first_is (block o t body end rest) l ls pc at i ks h u r = same_item pc at o i (Opens t) r h.0
    first_is (loop o t body end rest) l ls pc at i ks h u r = same_item pc at o i (OpensLoop t) r h.0
    first_is (choose o t a ea b end rest) l ls pc at i ks h u r = same_item pc at o i (OpensIf t) r h.0

    -- there is an instruction at each position
    pub some_item : (ns : Nodes) (l : Label) (ls : List Label) (pc : ℕ) (ks : List Control) → At code sides ns pc → Under code sides result floor l.kind ls (pc + size ns) l.end ks → ((at : ℕ) × (i : Item) × Is code sides pc at i)
    some_item stop l ls pc ks h u =
        let e : pc + 0 ≡ pc = omega arith in
        ⊎_elim (λ c. (l.end, End, c)) (λ c. (l.end, Else, c)) (closed l.kind ls pc l.end ks (under_place l.kind ls _ pc l.end ks e u))
    some_item (basic o b rest) l ls pc ks h u = (o, Plain b, h.0)
    some_item (jump o j rest) l ls pc ks h u = (o, Goes j, h.0)
    some_item (block o t body end rest) l ls pc ks h u = (o, Opens t, h.0)
    some_item (loop o t body end rest) l ls pc ks h u = (o, OpensLoop t, h.0)
    some_item (choose o t a ea b end rest) l ls pc ks h u = (o, OpensIf t, h.0)

    -- ---- a block is entered; the outer label has other operands and the nodes behind the block

    pub enters_block : (o : ℕ) (t : Option ValType) (body : Nodes) (e : ℕ) (rest : Nodes) (vs ws : List Value) (end : ℕ) (kind : Kind) (ls : List Label) (pc : ℕ) (side : Side) (ks : List Control) →
        Labels code sides result floor (label ws (block o t body e rest) end kind ∷ ls) pc ks → slice_get sides pc ≡ Some side →
        Labels code sides result floor (label [] body e (leaves t) ∷ label vs rest end kind ∷ ls) (suc pc) (control side.end (length (vs ++ joined ls) + floor) t ∷ ks)
    enters_block o t body e rest vs ws end kind ls pc side ks h s =
        let q : side.end ≡ suc (suc pc + size body) = ap (λ (x : Side). x.end) (some_is (sym s ∙ h.0.4.1)) in
        let below : pc + suc (size body + suc (size rest)) ≡ side.end + size rest = omega arith in
        (h.0.1, (inl (h.0.2, q), refl, at_place rest _ side.end (sym q) h.0.3, under_place kind ls _ _ end ks below h.1))

    pub enters_loop : (o : ℕ) (t : Option ValType) (body : Nodes) (e : ℕ) (rest : Nodes) (vs ws : List Value) (end : ℕ) (kind : Kind) (ls : List Label) (pc : ℕ) (ks : List Control) →
        Labels code sides result floor (label ws (loop o t body e rest) end kind ∷ ls) pc ks →
        Labels code sides result floor (label [] body e (again o t body e) ∷ label vs rest end kind ∷ ls) (suc pc) (control pc (length (vs ++ joined ls) + floor) None ∷ ks)
    enters_loop o t body e rest vs ws end kind ls pc ks h =
        let below : pc + suc (size body + suc (size rest)) ≡ suc (suc pc + size body) + size rest = omega arith in
        (h.0.1, (refl, h.0.2, refl, h.0, under_place kind ls _ _ end ks below h.1))

    -- an arm of an `if`
    pub enters_else : (o : ℕ) (t : Option ValType) (a : Nodes) (ea : Option ℕ) (b : Nodes) (e : ℕ) (rest : Nodes) (vs ws : List Value) (end : ℕ) (kind : Kind) (ls : List Label) (pc : ℕ) (side : Side) (ks : List Control) →
        Labels code sides result floor (label ws (choose o t a ea b e rest) end kind ∷ ls) pc ks → slice_get sides pc ≡ Some side →
        Labels code sides result floor (label [] b e (leaves t) ∷ label vs rest end kind ∷ ls) side.arm (control side.end (length (vs ++ joined ls) + floor) t ∷ ks)
    enters_else o t a ea b e rest vs ws end kind ls pc side ks h s =
        let is = some_is (sym s ∙ h.0.6) in
        let arm : side.arm ≡ suc pc + size a + else_size ea 0 = ap (λ (x : Side). x.arm) is in
        let q : side.end ≡ suc (suc pc + size a + else_size ea (size b)) = ap (λ (x : Side). x.end) is in
        let closing : suc pc + size a + else_size ea (size b) ≡ side.arm + size b = sym (else_more ea pc (size a) (size b)) ∙ ap (λ n. n + size b) (sym arm) in (
          at_place b _ side.arm (sym arm) h.0.3,
          (
            inl (subst (λ n. Is code sides n e End) closing h.0.4, q ∙ ap suc closing),
            refl,
            at_place rest _ side.end (sym q) h.0.5,
            under_place kind ls _ _ end ks (behind ea (size a) (size b) side.end q) h.1,
          ),
        )
      where
        behind : (ea : Option ℕ) (a b s : ℕ) → s ≡ suc (suc pc + a + else_size ea b) → pc + suc (a + else_size ea (b + suc (size rest))) ≡ s + size rest
        behind None a b s q = omega arith
        behind (Some at) a b s q = omega arith

    pub enters_then : (o : ℕ) (t : Option ValType) (a : Nodes) (ea : Option ℕ) (b : Nodes) (e : ℕ) (rest : Nodes) (vs ws : List Value) (end : ℕ) (kind : Kind) (ls : List Label) (pc : ℕ) (side : Side) (ks : List Control) →
        Labels code sides result floor (label ws (choose o t a ea b e rest) end kind ∷ ls) pc ks → slice_get sides pc ≡ Some side →
        Labels code sides result floor (label [] a (unwrap_or ea e) (leaves t) ∷ label vs rest end kind ∷ ls) (suc pc) (control side.end (length (vs ++ joined ls) + floor) t ∷ ks)
    enters_then o t a None b e rest vs ws end kind ls pc side ks h s =
        let q : side.end ≡ suc (suc pc + size a + size b) = ap (λ (x : Side). x.end) (some_is (sym s ∙ h.0.6)) in
        let z : size b ≡ 0 = ap size h.0.7 in
        let closing : suc pc + size a + size b ≡ suc pc + size a = omega arith in
        let below : pc + suc (size a + (size b + suc (size rest))) ≡ side.end + size rest = omega arith in
        (h.0.1, (inl (subst (λ n. Is code sides n e End) closing h.0.4, q ∙ ap suc closing), refl, at_place rest _ side.end (sym q) h.0.5, under_place kind ls _ _ end ks below h.1))
    enters_then o t a (Some ea) b e rest vs ws end kind ls pc side ks h s =
        let q : side.end ≡ suc (suc pc + size a + suc (size b)) = ap (λ (x : Side). x.end) (some_is (sym s ∙ h.0.6)) in
        let below : pc + suc (size a + suc (size b + suc (size rest))) ≡ side.end + size rest = omega arith in
        (h.0.1, (inr h.0.2, refl, at_place rest _ side.end (sym q) h.0.5, under_place kind ls _ _ end ks below h.1))

    -- ---- a label is left at what closes it

    -- by its `end`
    pub leaves_end : (vs ws : List Value) (end : ℕ) (t : Option ValType) (l : Label) (ls : List Label) (pc at : ℕ) (k : Control) (ks : List Control) →
        Labels code sides result floor (label vs stop end (leaves t) ∷ l ∷ ls) pc (k ∷ ks) → Is code sides pc at End →
        Labels code sides result floor (label ws l.nodes l.end l.kind ∷ ls) (suc pc) ks
    leaves_end vs ws end t l ls pc at k ks h r =
        let e : pc + 0 ≡ pc = omega arith in
        let goes : k.goes_to ≡ suc pc = ⊎_elim (λ c. c.1 ∙ ap suc e) (λ c. absurd (not_both pc at end r (subst (λ n. Is code sides n end Else) e c))) h.1.0 in
        (at_place l.nodes _ (suc pc) goes h.1.2, under_place l.kind ls _ _ l.end ks (ap (λ n. n + size l.nodes) goes) h.1.3)

    pub leaves_loop : (vs ws : List Value) (end o : ℕ) (t : Option ValType) (body : Nodes) (end' : ℕ) (l : Label) (ls : List Label) (pc : ℕ) (k : Control) (ks : List Control) →
        Labels code sides result floor (label vs stop end (again o t body end') ∷ l ∷ ls) pc (k ∷ ks) →
        Labels code sides result floor (label ws l.nodes l.end l.kind ∷ ls) (suc pc) ks
    leaves_loop vs ws end o t body end' l ls pc k ks h =
        let e : pc + 0 ≡ pc = omega arith in
        let there : suc (suc k.goes_to + size body) ≡ suc pc = ap suc (sym h.1.0 ∙ e) in
        (at_place l.nodes _ (suc pc) there h.1.3.3, under_place l.kind ls _ _ l.end ks (ap (λ n. suc n + size l.nodes) e) h.1.4)

    -- by the `else` behind its first arm
    pub leaves_else : (vs ws : List Value) (end : ℕ) (t : Option ValType) (l : Label) (ls : List Label) (pc : ℕ) (k : Control) (ks : List Control) →
        Labels code sides result floor (label vs stop end (leaves t) ∷ l ∷ ls) pc (k ∷ ks) →
        Labels code sides result floor (label ws l.nodes l.end l.kind ∷ ls) k.goes_to ks
    leaves_else vs ws end t l ls pc k ks h = (h.1.2, h.1.3)

    -- ---- a branch

    -- with the operands vs on top; those above `below` go, but for what the branch takes
    pub record Branches (n : ℕ) (vs : List Value) (kind : Kind) (ls : List Label) (ks : List Control) (k : Control) : Type 0 where
      pub kept : List Value
      pub gone : List Value
      pub taken_is : vs ≡ kept ++ gone
      pub carried : Carried k.carries kept
      pub labels : List Label
      pub goes : branch n vs (label [] stop 0 kind ∷ ls) ≡ inside labels
      pub stand : Labels code sides result floor labels k.goes_to (drop (suc n) ks)
      pub over : List Value
      pub below : List Value
      pub joined_is : joined ls ≡ over ++ below
      pub height : k.height ≡ length below + floor
      pub values : joined labels ≡ kept ++ below

    abbrev pub BranchOr : ℕ → List Value → Kind → List Label → List Control → Control → Type 0
    BranchOr n vs kind ls ks k = (branch n vs (label [] stop 0 kind ∷ ls) ≡ nowhere) ⊎ Branches n vs kind ls ks k

    lands_leaving : (t : Option ValType) (vs : List Value) (l : Label) (ls : List Label) (e at : ℕ) (k : Control) (ks : List Control) → Under code sides result floor (leaves t) (l ∷ ls) e at (k ∷ ks) →
        (o : Option (List Value)) → top t vs ≡ o → BranchOr 0 vs (leaves t) (l ∷ ls) (k ∷ ks) k
    lands_leaving t vs l ls e at k ks h None q = inl (ap (λ x. arrive_some x (l ∷ ls)) q)
    lands_leaving t vs l ls e at k ks h (Some taken) q =
        let s = top_splits t vs taken q in
        inr (record {
          kept = taken;
          gone = s.gone;
          taken_is = s.parts;
          carried = subst (λ b. Carried b taken) (ap (λ (c : Control). c.carries) (sym h.1)) s.carried;
          labels = label (taken ++ l.operands) l.nodes l.end l.kind ∷ ls;
          goes = ap (λ x. arrive_some x (l ∷ ls)) q;
          stand = (h.2, h.3);
          over = [];
          below = l.operands ++ joined ls;
          joined_is = refl;
          height = ap (λ (c : Control). c.height) h.1;
          values = append_assoc taken l.operands (joined ls);
        })

    lands : (kind : Kind) (vs : List Value) (ls : List Label) (e at : ℕ) (k : Control) (ks : List Control) → Under code sides result floor kind ls e at (k ∷ ks) → BranchOr 0 vs kind ls (k ∷ ks) k
    lands (returns t) vs ls e at k ks h = absurd (cc (h.3))
    lands (leaves t) vs [] e at k ks h = absurd h
    lands (leaves t) vs (l ∷ ls) e at k ks h = lands_leaving t vs l ls e at k ks h (top t vs) refl
    lands (again o t body end) vs [] e at k ks h = absurd h
    lands (again o t body end) vs (l ∷ ls) e at k ks h =
        let below : suc e + size l.nodes ≡ k.goes_to + suc (size body + suc (size l.nodes)) = omega (arith, h.0) in
        inr (record {
          kept = [];
          gone = vs;
          taken_is = refl;
          carried = subst (λ b. Carried b []) (ap (λ (c : Control). c.carries) (sym h.2)) refl;
          labels = label l.operands (loop o t body end l.nodes) l.end l.kind ∷ ls;
          goes = refl;
          stand = (h.3, under_place l.kind ls _ _ l.end ks below h.4);
          over = [];
          below = l.operands ++ joined ls;
          joined_is = refl;
          height = ap (λ (c : Control). c.height) h.2;
          values = refl;
        })

    nested : (n : ℕ) (vs : List Value) (kind : Kind) (l : Label) (ls : List Label) (j k : Control) (ks : List Control) →
        branch n vs (l ∷ ls) ≡ branch n vs (label [] stop 0 l.kind ∷ ls) → BranchOr n vs l.kind ls ks k → BranchOr (suc n) vs kind (l ∷ ls) (j ∷ ks) k
    nested n vs kind l ls j k ks same h = ⊎_elim (λ e. inl (same ∙ e)) (λ b. inr (record {
      kept = b.kept;
      gone = b.gone;
      taken_is = b.taken_is;
      carried = b.carried;
      labels = b.labels;
      goes = same ∙ b.goes;
      stand = b.stand;
      over = l.operands ++ b.over;
      below = b.below;
      joined_is = ap (λ x. l.operands ++ x) b.joined_is ∙ sym (append_assoc l.operands b.over b.below);
      height = b.height;
      values = b.values;
    })) h

    -- a branch looks at no more of the innermost label than its kind
    pub by_kind : (n : ℕ) (vs : List Value) (l m : Label) (ls : List Label) → l.kind ≡ m.kind → branch n vs (l ∷ ls) ≡ branch n vs (m ∷ ls)
    by_kind zero vs l m ls e = ap (λ k. land k vs ls) e
    by_kind (suc n) vs l m ls e = refl

    none_there : (n : ℕ) (k : Control) (ks : List Control) → ks ≡ [] → slice_get ks n ≡ Some k → ⊥
    none_there n k [] e s = cc
    none_there n k (j ∷ ks) e s = cc

    pub branches : (n : ℕ) (vs : List Value) (kind : Kind) (ls : List Label) (e at : ℕ) (k : Control) (ks : List Control) → Under code sides result floor kind ls e at ks → slice_get ks n ≡ Some k → BranchOr n vs kind ls ks k
    branches n vs (returns t) ls e at k ks h s = absurd (none_there n k ks h.3 s)
    branches n vs (leaves t) [] e at k ks h s = absurd h
    branches n vs (leaves t) (l ∷ ls) e at k [] h s = absurd h
    branches zero vs (leaves t) (l ∷ ls) e at k (j ∷ ks) h s = subst (λ x. BranchOr zero vs (leaves t) (l ∷ ls) (j ∷ ks) x) (some_is s) (lands (leaves t) vs (l ∷ ls) e at j ks h)
    branches (suc n) vs (leaves t) (l ∷ ls) e at k (j ∷ ks) h s = nested n vs (leaves t) l ls j k ks (by_kind n vs l (label [] stop 0 l.kind) ls refl) (branches n vs l.kind ls (j.goes_to + size l.nodes) l.end k ks h.3 s)
    branches n vs (again o t body end) [] e at k ks h s = absurd h
    branches n vs (again o t body end) (l ∷ ls) e at k [] h s = absurd h
    branches zero vs (again o t body end) (l ∷ ls) e at k (j ∷ ks) h s = subst (λ x. BranchOr zero vs (again o t body end) (l ∷ ls) (j ∷ ks) x) (some_is s) (lands (again o t body end) vs (l ∷ ls) e at j ks h)
    branches (suc n) vs (again o t body end) (l ∷ ls) e at k (j ∷ ks) h s = nested n vs (again o t body end) l ls j k ks (by_kind n vs l (label [] stop 0 l.kind) ls refl) (branches n vs l.kind ls (suc e + size l.nodes) l.end k ks h.4 s)

    -- out of the function
    pub leaves_body : (n : ℕ) (vs : List Value) (kind : Kind) (ls : List Label) (e at : ℕ) (ks : List Control) → Under code sides result floor kind ls e at ks → length ks ≤ n →
        (branch n vs (label [] stop 0 kind ∷ ls) ≡ nowhere) ⊎ (branch n vs (label [] stop 0 kind ∷ ls) ≡ out_some (top result vs))
    leaves_body zero vs (returns t) ls e at ks h le = inr (ap (λ t. out_some (top t vs)) h.1)
    leaves_body (suc n) vs (returns t) [] e at ks h le = inl refl
    leaves_body (suc n) vs (returns t) (l ∷ ls) e at ks h le = absurd (cc (h.2))
    leaves_body n vs (leaves t) [] e at ks h le = absurd h
    leaves_body n vs (leaves t) (l ∷ ls) e at [] h le = absurd h
    leaves_body zero vs (leaves t) (l ∷ ls) e at (k ∷ ks) h le = absurd (omega arith)
    leaves_body (suc n) vs (leaves t) (l ∷ ls) e at (k ∷ ks) h le =
        let same = by_kind n vs l (label [] stop 0 l.kind) ls refl in
        ⊎_elim (λ r. inl (same ∙ r)) (λ r. inr (same ∙ r)) (leaves_body n vs l.kind ls (k.goes_to + size l.nodes) l.end ks h.3 (omega arith))
    leaves_body n vs (again o t body end) [] e at ks h le = absurd h
    leaves_body n vs (again o t body end) (l ∷ ls) e at [] h le = absurd h
    leaves_body zero vs (again o t body end) (l ∷ ls) e at (k ∷ ks) h le = absurd (omega arith)
    leaves_body (suc n) vs (again o t body end) (l ∷ ls) e at (k ∷ ks) h le =
        let same = by_kind n vs l (label [] stop 0 l.kind) ls refl in
        ⊎_elim (λ r. inl (same ∙ r)) (λ r. inr (same ∙ r)) (leaves_body n vs l.kind ls (suc e + size l.nodes) l.end ks h.4 (omega arith))

    -- ---- one instruction on

    pub behind_basic : (vs ws : List Value) (at : ℕ) (b : Basic) (rest : Nodes) (end : ℕ) (kind : Kind) (ls : List Label) (pc : ℕ) (ks : List Control) → Labels code sides result floor (label vs (basic at b rest) end kind ∷ ls) pc ks → Labels code sides result floor (label ws rest end kind ∷ ls) (suc pc) ks
    behind_basic vs ws at b rest end kind ls pc ks h = let e : pc + suc (size rest) ≡ suc pc + size rest = omega arith in (h.0.1, under_place kind ls _ _ end ks e h.1)

    pub behind_jump : (vs ws : List Value) (at : ℕ) (j : Jump) (rest : Nodes) (end : ℕ) (kind : Kind) (ls : List Label) (pc : ℕ) (ks : List Control) → Labels code sides result floor (label vs (jump at j rest) end kind ∷ ls) pc ks → Labels code sides result floor (label ws rest end kind ∷ ls) (suc pc) ks
    behind_jump vs ws at j rest end kind ls pc ks h = let e : pc + suc (size rest) ≡ suc pc + size rest = omega arith in (h.0.1, under_place kind ls _ _ end ks e h.1)
