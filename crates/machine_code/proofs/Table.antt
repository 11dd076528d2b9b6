-- The side table that is read from a body is right for the tree that the body writes out.
use Rattle.std.proofs.Common.{◌≡◌, ℕ, suc, ◌+◌, ◌-◌, ◌<◌, ◌≤◌, List, [], ◌∷◌, length, drop, get_or, refl, sym, ap, subst, ◌∙◌, arith}
use Rattle.std.proofs.Math.Seq.{drop-cons}
use Rattle.std.specs.Prelude.{Some, None, slice_get}
use Rattle.wasm_syntax.specs.declared.instruction.Op.{Op}
use Rattle.wasm_syntax.specs.Tree.{code_of, item_of, Nodes, stop, basic, jump, block, loop, choose, Tree, Item, Plain, Goes, Opens, OpensLoop, OpensIf, Else, End, Placed, placed, write, IsTree, WritesOut}
use Rattle.machine_code.specs.declared.sides.Side.{Side}
use Rattle.machine_code.specs.calls.Flat.{Is, At, Stands, size}
use Rattle.machine_code.specs.inner.Sides.{Scan, scan, scan_one, top, below, with_arm}

module _ (code : List Placed) (sides : List Side) where
  -- the body and its table from an index on
  pub record From (pc : ℕ) (after : List Placed) : Type 0 where
    pub code_is : (k : ℕ) → slice_get code (pc + k) ≡ slice_get after k
    pub table : (k : ℕ) → slice_get sides (pc + k) ≡ slice_get (scan pc after).sides k

  -- one instruction on
  module _ (pc at : ℕ) (i : Item) (after : List Placed) (h : From pc (placed at i ∷ after)) where
    pub op_is : Is code sides pc at i
    op_is = let z : pc + 0 ≡ pc = omega arith in subst (λ n. slice_get code n ≡ Some (placed at i)) z (h.code_is 0)

    -- the table behind the instruction is that of what follows
    tail_is : (i : Item) (s : Scan) (k : ℕ) → slice_get (scan_one pc i s).sides (suc k) ≡ slice_get s.sides k
    tail_is (Plain b) s k = refl
    tail_is (Goes j) s k = refl
    tail_is (Opens t) s k = refl
    tail_is (OpensLoop t) s k = refl
    tail_is (OpensIf t) s k = refl
    tail_is Else s k = refl
    tail_is End s k = refl

    pub on : From (suc pc) after
    on = record {
      code_is = λ k. let e : suc pc + k ≡ pc + suc k = omega arith in ap (slice_get code) e ∙ h.code_is (suc k);
      table = λ k. let e : suc pc + k ≡ pc + suc k = omega arith in ap (slice_get sides) e ∙ h.table (suc k) ∙ tail_is i (scan (suc pc) after) k;
    }

    pub here : slice_get sides pc ≡ slice_get (scan pc (placed at i ∷ after)).sides 0
    here = let z : pc ≡ pc + 0 = omega arith in ap (slice_get sides) z ∙ h.table 0

  -- nodes stand where they are written, and what is open behind them is open before them
  pub record Stood (n : Nodes) (pc : ℕ) (after : List Placed) : Type 0 where
    pub at : At code sides n pc
    pub behind : From (pc + size n) after
    pub opens : (scan pc (write n after)).opens ≡ (scan (pc + size n) after).opens

  shift : (p q : ℕ) (after : List Placed) → p ≡ q → From p after → From q after
  shift p q after e h = subst (λ x. From x after) e h

  pub stood : (n : Nodes) (pc : ℕ) (after : List Placed) → IsTree n → From pc (write n after) → Stood n pc after
  stood stop pc after t h = let z : pc ≡ pc + 0 = omega arith in record { at = tt; behind = shift pc (pc + 0) after z h; opens = ap (λ x. (scan x after).opens) z }
  stood (basic at i rest) pc after t h =
      let r = stood rest (suc pc) after t (on pc at (Plain i) (write rest after) h) in
      let e : suc pc + size rest ≡ pc + suc (size rest) = omega arith in
      record { at = (op_is pc at (Plain i) (write rest after) h, r.at); behind = shift _ _ after e r.behind; opens = r.opens ∙ ap (λ x. (scan x after).opens) e }
  stood (jump at j rest) pc after t h =
      let r = stood rest (suc pc) after t (on pc at (Goes j) (write rest after) h) in
      let e : suc pc + size rest ≡ pc + suc (size rest) = omega arith in
      record { at = (op_is pc at (Goes j) (write rest after) h, r.at); behind = shift _ _ after e r.behind; opens = r.opens ∙ ap (λ x. (scan x after).opens) e }
  stood (block at u body end rest) pc after t h =
      let x = placed end End ∷ write rest after in
      let b = stood body (suc pc) x t.0 (on pc at (Opens u) (write body x) h) in
      let q = suc pc + size body in
      let o = op_is q end End (write rest after) b.behind in
      let r = stood rest (suc q) after t.1 (on q end End (write rest after) b.behind) in
      let e2 : suc q + size rest ≡ pc + suc (size body + suc (size rest)) = omega arith in
      let side : slice_get sides pc ≡ Some (record { arm = q; end = suc q }) = here pc at (Opens u) (write body x) h ∙ ap (λ s. Some (top s)) b.opens in
      record {
        at = (op_is pc at (Opens u) (write body x) h, b.at, o, r.at, (q, side));
        behind = shift _ _ after e2 r.behind;
        opens = ap below b.opens ∙ r.opens ∙ ap (λ n. (scan n after).opens) e2;
      }
  stood (loop at u body end rest) pc after t h =
      let x = placed end End ∷ write rest after in
      let b = stood body (suc pc) x t.0 (on pc at (OpensLoop u) (write body x) h) in
      let q = suc pc + size body in
      let o = op_is q end End (write rest after) b.behind in
      let r = stood rest (suc q) after t.1 (on q end End (write rest after) b.behind) in
      let e2 : suc q + size rest ≡ pc + suc (size body + suc (size rest)) = omega arith in
      record {
        at = (op_is pc at (OpensLoop u) (write body x) h, b.at, o, r.at);
        behind = shift _ _ after e2 r.behind;
        opens = ap below b.opens ∙ r.opens ∙ ap (λ n. (scan n after).opens) e2;
      }
  stood (choose at u a None b end rest) pc after t h =
      let x = placed end End ∷ write rest after in
      let a' = stood a (suc pc) (write b x) t.0 (on pc at (OpensIf u) (write a (write b x)) h) in
      let q = suc pc + size a in
      let b' = stood b q x t.2 a'.behind in
      let q2 = q + size b in
      let o = op_is q2 end End (write rest after) b'.behind in
      let r = stood rest (suc q2) after t.3 (on q2 end End (write rest after) b'.behind) in
      let e2 : suc q2 + size rest ≡ pc + suc (size a + (size b + suc (size rest))) = omega arith in
      let z : size b ≡ 0 = ap size t.1 in
      let e5 : q ≡ suc pc + size a + 0 = omega arith in
      let e3 : q2 ≡ suc pc + size a + 0 = omega arith in
      let side : slice_get sides pc ≡ Some (record { arm = q2; end = suc q2 }) = here pc at (OpensIf u) (write a (write b x)) h ∙ ap (λ s. Some (top s)) (a'.opens ∙ b'.opens) in
      record {
        at = (op_is pc at (OpensIf u) (write a (write b x)) h, a'.at, tt, subst (λ n. At code sides b n) e5 b'.at, o, r.at, side ∙ ap (λ n. Some (record { arm = n; end = suc q2 })) e3, t.1);
        behind = shift _ _ after e2 r.behind;
        opens = ap below (a'.opens ∙ b'.opens) ∙ r.opens ∙ ap (λ n. (scan n after).opens) e2;
      }
  stood (choose at u a (Some ea) b end rest) pc after t h =
      let x = placed end End ∷ write rest after in
      let y = placed ea Else ∷ write b x in
      let a' = stood a (suc pc) y t.0 (on pc at (OpensIf u) (write a y) h) in
      let q = suc pc + size a in
      let oe = op_is q ea Else (write b x) a'.behind in
      let e0 : suc q ≡ q + 1 = omega arith in
      let b' = stood b (q + 1) x t.2 (shift _ _ (write b x) e0 (on q ea Else (write b x) a'.behind)) in
      let q2 = q + 1 + size b in
      let o = op_is q2 end End (write rest after) b'.behind in
      let q3 = q + suc (size b) in
      let e6 : q2 ≡ q3 = omega arith in
      let e7 : suc q2 ≡ suc q3 = omega arith in
      let r = stood rest (suc q3) after t.3 (shift _ _ (write rest after) e7 (on q2 end End (write rest after) b'.behind)) in
      let e2 : suc q3 + size rest ≡ pc + suc (size a + suc (size b + suc (size rest))) = omega arith in
      let all : (scan (suc pc) (write a y)).opens ≡ record { arm = suc q; end = suc q2 } ∷ (scan (suc q2) (write rest after)).opens =
      a'.opens ∙ ap (λ n. with_arm (suc q) (scan n (write b x)).opens) e0 ∙ ap (with_arm (suc q)) b'.opens in
      let side : slice_get sides pc ≡ Some (record { arm = suc q; end = suc q2 }) = here pc at (OpensIf u) (write a y) h ∙ ap (λ s. Some (top s)) all in
      record {
        at = (op_is pc at (OpensIf u) (write a y) h, a'.at, oe, b'.at, subst (λ n. Is code sides n end End) e6 o, r.at, side ∙ ap (λ n. Some (record { arm = n; end = suc q2 })) e0 ∙ ap (λ n. Some (record { arm = q + 1; end = n })) e7, tt);
        behind = shift _ _ after e2 r.behind;
        opens = ap below all ∙ ap (λ n. (scan n (write rest after)).opens) e7 ∙ r.opens ∙ ap (λ n. (scan n after).opens) e2;
      }

-- the whole body
pub table_stands : (code : List Placed) (tree : Tree) → WritesOut code tree → Stands code (scan 0 code).sides tree
table_stands code tree w =
    let sides = (scan 0 code).sides in
    let zero_plus : (k : ℕ) → 0 + k ≡ k = λ k. omega arith in
    let whole : From code sides 0 (write tree.nodes (placed tree.end End ∷ [])) = record {
      code_is = λ k. ap (slice_get code) (zero_plus k) ∙ ap (λ l. slice_get l k) w.out;
      table = λ k. ap (slice_get sides) (zero_plus k) ∙ ap (λ l. slice_get (scan 0 l).sides k) w.out;
    } in
    let s = stood code sides tree.nodes 0 (placed tree.end End ∷ []) w.arms whole in
    record { nodes = s.at; end = subst (λ n. Is code sides n tree.end End) (zero_plus (size tree.nodes)) (op_is code sides (0 + size tree.nodes) tree.end End [] s.behind) }

-- one instruction more is read, from the end on
pub read_back : (ops : List Op) (targets : List ℕ) (n : ℕ) (d : Op) (s t : Scan) → 0 < n → n ≤ length ops → s ≡ scan n (code_of targets (drop n ops)) →
    t ≡ scan_one (n - 1) (item_of targets (get_or ops (n - 1) d).code) s → t ≡ scan (n - 1) (code_of targets (drop (n - 1) ops))
read_back ops targets n d s t pos le e h =
    let lt : n - 1 < length ops = omega arith in
    let k : suc (n - 1) ≡ n = omega arith in
    let step : drop (n - 1) ops ≡ get_or ops (n - 1) d ∷ drop n ops = drop-cons ops (n - 1) d lt ∙ ap (λ j. get_or ops (n - 1) d ∷ drop j ops) k in
    h ∙ ap (scan_one (n - 1) (item_of targets (get_or ops (n - 1) d).code)) (e ∙ ap (λ j. scan j (code_of targets (drop n ops))) (sym k)) ∙ ap (λ os. scan (n - 1) (code_of targets os)) (sym step)
