-- The run of a self-test, up to its trap.
use Rattle.std.proofs.Common.{◌≡◌, ℕ, zero, suc, ◌+◌, ◌*◌, ◌/◌, ◌%◌, ◌<◌, ◌≤◌, ◌^◌, Bool, true, false, nat_lt, List, [], ◌∷◌, ◌++◌, length, drop, take, if◌then◌else◌, Some, None, Result, Ok, Err, refl, sym, ap, subst, ◌∙◌, arith, length-append, le-leb}
use Rattle.std.proofs.Math.Nat.{mod-eq_of_lt}
use Rattle.std.proofs.lemmas.List.{length-take, length-drop}
use Rattle.std.proofs.lemmas.Bool.{lt-ltb, le-ltb}
use Rattle.std.specs.List.{flat_map, range_with_len}
use Rattle.int_ops.specs.declared.operators.Binary.{Binary as Operation}
use Rattle.int_ops.specs.declared.operators.Binary.TheVariants as ops
use Rattle.int_ops.specs.declared.operators.ArithTrap.{ArithTrap}
use Rattle.int_ops.specs.Integers.{binary}
use Rattle.linear_memory.specs.Memory.{Memory, splice, to_bytes, put}
use Rattle.wasm_syntax.specs.declared.value.ValType.TheVariants.{I32}
use Rattle.wasm_syntax.specs.declared.value.Value.{Value}
use Rattle.wasm_syntax.specs.declared.value.Value.TheVariants as values
use Rattle.wasm_syntax.specs.declared.instruction.Basic.{Basic}
use Rattle.wasm_syntax.specs.declared.instruction.Basic.TheVariants as basics
use Rattle.wasm_syntax.specs.declared.instruction.Jump.TheVariants as jumps
use Rattle.wasm_syntax.specs.declared.instruction.Instr.{Instr}
use Rattle.wasm_syntax.specs.declared.instruction.Instr.TheVariants as instr
use Rattle.wasm_syntax.specs.declared.parts.FuncType.{FuncType}
use Rattle.wasm_syntax.specs.declared.parts.Body.{Body}
use Rattle.wasm_syntax.specs.Module.{Program, defined, function_at, declared_locals}
use Rattle.wasm_syntax.specs.Tree.{Tree, Call, Nodes, basic, jump}
use Rattle.wasm_syntax.specs.Host.{World}
use Rattle.wasm_syntax.specs.Effect.{with_memory, with_some, in_bounds, divides, gives}
use Rattle.wasm_syntax.specs.Machine.{Engine, Frame, Config, frame, label, config, returns, entered, next, traps, step, calls, enters, zeros}
use Rattle.wasm_syntax.specs.Run.{ended, run_steps, engine}
use Rattle.selftest_command.specs.Selftest.{number, constant, local_get, add, mix, odd, mixed, beginning, mixing, ending}
use Rattle.selftest_command.proofs.Straight.{Follows, Leads, one_step, then_leads, here, Goes, AllGo, go_append, through}

abbrev pub two_to_one : FuncType
two_to_one = record { params = I32 ∷ I32 ∷ []; results = I32 ∷ [] }

-- a function with this code
pub record HasCode (p : Program) (f : ℕ) (code : List Instr) : Type 0 where
  pub body : Body
  pub tree : Tree
  pub is : function_at p f ≡ Some (defined body tree two_to_one)
  pub no_locals : body.groups ≡ []
  pub follows : Follows code tree.nodes

-- a memory of a page
pub record HasPage (w : World) : Type 0 where
  pub memory : Memory
  pub is : w.memory ≡ Some memory
  pub size : length memory.bytes ≡ 65536

-- what stands behind the mixing and the first parameter
abbrev calling : ℕ → List Instr
calling i = instr.Jump (jumps.Call (i + 1)) ∷ add ∷ []

abbrev dividing : List Instr
dividing = instr.Basic (basics.Binary I32 ops.DivU) ∷ add ∷ []

module _ (p : Program) (d : ℕ) (f : ℕ) (call : ℕ) (a b : ℕ) (end : ℕ) (fs : List Frame) where
  abbrev M : Engine
  M = engine p false d

  abbrev ls : List Value
  ls = values.I32 a ∷ values.I32 b ∷ []

  abbrev pub Moves : List Instr → (ops ops' : List Value) → (w w' : World) → Type 0
  Moves = AllGo M f (Some I32) call ls end fs []

  abbrev pub Step : Basic → (ops ops' : List Value) → (w w' : World) → Type 0
  Step = Goes M f (Some I32) call ls end fs []

  go_constant : (v : ℕ) (os : List Value) (w : World) → Step (basics.Const (values.I32 v)) os (values.I32 v ∷ os) w w
  go_constant v os w = record { taken = []; below = os; results = values.I32 v ∷ []; cuts = refl; gives_ = refl; after = refl }

  go_first : (os : List Value) (w : World) → Step (basics.LocalGet 0) os (values.I32 a ∷ os) w w
  go_first os w = record { taken = []; below = os; results = values.I32 a ∷ []; cuts = refl; gives_ = refl; after = refl }

  go_second : (os : List Value) (w : World) → Step (basics.LocalGet 1) os (values.I32 b ∷ os) w w
  go_second os w = record { taken = []; below = os; results = values.I32 b ∷ []; cuts = refl; gives_ = refl; after = refl }

  -- an operation with a result
  record Mixes (i : Instr) (y x : ℕ) (os : List Value) (w : World) : Type 0 where
    value : ℕ
    goes : Moves (i ∷ []) (values.I32 y ∷ values.I32 x ∷ os) (values.I32 value ∷ os) w w

  mixes_by : (op : Operation) (v y x : ℕ) (os : List Value) (w : World) → binary 32 op x y ≡ Ok v → Mixes (instr.Basic (basics.Binary I32 op)) y x os w
  mixes_by op v y x os w is = record {
    value = v;
    goes = (
      values.I32 v ∷ os,
      w,
      record {
        taken = values.I32 y ∷ values.I32 x ∷ [];
        below = os;
        results = values.I32 v ∷ [];
        cuts = refl;
        gives_ = ap (λ r. divides r (λ m. gives w ls (values.I32 m ∷ []))) is;
        after = refl;
      },
      (refl, refl),
    );
  }

  ok_or : Result ℕ ArithTrap → ℕ
  ok_or (Ok v) = v
  ok_or (Err trap) = 0

  go_mix : (k y x : ℕ) (os : List Value) (w : World) → Mixes (mix k) y x os w
  unfolding binary ok_or
  go_mix zero y x os w = mixes_by ops.Add (ok_or (binary 32 ops.Add x y)) y x os w refl
  go_mix (suc zero) y x os w = mixes_by ops.Xor (ok_or (binary 32 ops.Xor x y)) y x os w refl
  go_mix (suc (suc zero)) y x os w = mixes_by ops.Mul (ok_or (binary 32 ops.Mul x y)) y x os w refl
  go_mix (suc (suc (suc k))) y x os w = mixes_by ops.Sub (ok_or (binary 32 ops.Sub x y)) y x os w refl

  -- numbers are mixed in
  record Mixed (is : List Instr) (x : ℕ) (os : List Value) (w : World) : Type 0 where
    value : ℕ
    goes : Moves is (values.I32 x ∷ os) (values.I32 value ∷ os) w w

  go_mixed : (r x : ℕ) (os : List Value) (w : World) → Mixed (mixed r) x os w
  go_mixed r x os w =
      let k = go_mix (r / 65536 % 4) (odd r) x os w in
      record { value = k.value; goes = (values.I32 (odd r) ∷ values.I32 x ∷ os, w, go_constant (odd r) (values.I32 x ∷ os) w, k.goes) }

  go_mixing : (n : ℕ) (ks : List ℕ) (x : ℕ) (os : List Value) (w : World) → Mixed (flat_map (λ k. mixed (number n k)) ks) x os w
  go_mixing n [] x os w = record { value = x; goes = (refl, refl) }
  go_mixing n (k ∷ ks) x os w =
      let one = go_mixed (number n k) x os w in
      let more = go_mixing n ks one.value os w in
      record {
        value = more.value;
        goes = go_append M f (Some I32) call ls end fs [] (mixed (number n k)) (flat_map (λ j. mixed (number n j)) ks) (values.I32 x ∷ os) (values.I32 one.value ∷ os) (values.I32 more.value ∷ os) w w w one.goes more.goes;
      }

  -- the number is stored
  record Begins (i : ℕ) (w : World) : Type 0 where
    later : World
    page : HasPage later
    goes : Moves (beginning i) [] (values.I32 a ∷ values.I32 b ∷ []) w later

  go_beginning : (i : ℕ) (w : World) → i < 900 → HasPage w → Begins i w
  go_beginning i w few page =
      let m = page.memory in
      let at = 4 * i % 2 ^ 32 + 0 in
      let bytes = to_bytes 4 a in
      let four : length bytes ≡ 4 = refl in
      let inside : at + length bytes ≤ length m.bytes = omega (arith, few, four, page.size, small) in
      let stored : Memory = record m { bytes = splice m.bytes at bytes } in
      let w' = with_memory w stored in
      let e : put m at bytes ≡ Some stored = ap (λ q. if q then Some stored else None) (le-leb (at + length bytes) (length m.bytes) inside) in
      record {
        later = w';
        page = record { memory = stored; is = refl; size = length_spliced m.bytes at bytes inside ∙ page.size };
        goes = (
          values.I32 (4 * i) ∷ [],
          w,
          go_constant (4 * i) [] w,
          (
            values.I32 a ∷ values.I32 (4 * i) ∷ [],
            w,
            go_first (values.I32 (4 * i) ∷ []) w,
            (
              [],
              w',
              record {
                taken = values.I32 a ∷ values.I32 (4 * i) ∷ [];
                below = [];
                results = [];
                cuts = refl;
                gives_ = ap (λ o. with_some o (λ k. in_bounds (put k at bytes) (λ k'. gives (with_memory w k') ls []))) page.is ∙ ap (λ o. in_bounds o (λ k'. gives (with_memory w k') ls [])) e;
                after = refl;
              },
              (values.I32 b ∷ [], w', go_second [] w', (values.I32 a ∷ values.I32 b ∷ [], w', go_first (values.I32 b ∷ []) w', (refl, refl))),
            ),
          ),
        );
      }
    where
      small : 4 * i % 2 ^ 32 ≡ 4 * i
      small = mod-eq_of_lt {n = 4 * i} {m = 2 ^ 32} (omega (arith, few))

      length_spliced : (xs : List ℕ) (at : ℕ) (ys : List ℕ) → at + length ys ≤ length xs → length (splice xs at ys) ≡ length xs
      length_spliced xs at ys h = omega (arith, h, length-append (take at xs ++ ys) (drop (at + length ys) xs), length-append (take at xs) ys, length-take at xs, length-drop (at + length ys) xs)

  -- up to the last number that is mixed in
  pub record Ready (tail : List Instr) (nodes : Nodes) (w : World) : Type 0 where
    pub value : ℕ
    pub later : World
    pub page : HasPage later
    pub rest : Nodes
    pub follows : Follows tail rest
    pub leads : Leads M 37 (here M f (Some I32) call ls end fs [] [] nodes w) (here M f (Some I32) call ls end fs [] (values.I32 value ∷ values.I32 b ∷ []) rest later)

  pub ready : (n i : ℕ) (tail : List Instr) (nodes : Nodes) (w : World) → i < 900 → HasPage w → Follows (beginning i ++ mixing n (16 * i + 1) ++ tail) nodes → Ready tail nodes w
  ready n i tail nodes w few page fl =
      let first = go_beginning i w few page in
      let mixes = go_mixing n (range_with_len (16 * i + 1) 16) a (values.I32 b ∷ []) first.later in
      let all = go_append M f (Some I32) call ls end fs [] (beginning i) (mixing n (16 * i + 1)) [] (values.I32 a ∷ values.I32 b ∷ []) (values.I32 mixes.value ∷ values.I32 b ∷ []) w first.later first.later first.goes mixes.goes in
      let k = through M f (Some I32) call ls end fs [] (beginning i ++ mixing n (16 * i + 1)) tail nodes [] (values.I32 mixes.value ∷ values.I32 b ∷ []) w first.later all fl in
      record { value = mixes.value; later = first.later; page = first.page; rest = k.rest; follows = k.follows; leads = k.leads }

-- ---- down to the trap

module _ (p : Program) (d n : ℕ) where
  abbrev pub machine : Engine
  machine = engine p false d

  -- so many functions before the trap the run comes to it, with all frames
  pub record TrapsBehind (c : Config) (functions : ℕ) : Type 0 where
    pub steps : ℕ
    pub few : steps ≤ 40 * functions
    pub last : Config
    pub frames : length last.frames ≡ n
    pub runs : (r : ℕ) → run_steps machine (steps + suc r) c ≡ ended (traps 2 last) r

  pub led : (k functions : ℕ) (c e : Config) → Leads machine k c e → (t : TrapsBehind e functions) → (more : ℕ) → k + t.steps ≤ 40 * more → TrapsBehind c more
  led k functions c e leads t more few = record {
    steps = k + t.steps;
    few = few;
    last = t.last;
    frames = t.frames;
    runs = λ r. let g : k + t.steps + suc r ≡ k + (t.steps + suc r) = omega arith in ap (λ j. run_steps machine j c) g ∙ leads (t.steps + suc r) ∙ t.runs r;
  }

  abbrev pub code_at : ℕ → List Instr
  code_at i = beginning i ++ mixing n (16 * i + 1) ++ ending n i

  module _ (most : n ≤ 900) (deep : n < d) (codes : (i : ℕ) → i < n → HasCode p i (code_at i)) where
    -- in function i, which j others follow
    abbrev inside : (i a b call end : ℕ) → List Frame → Nodes → World → Config
    inside i a b call end fs nodes w = here machine i (Some I32) call (values.I32 a ∷ values.I32 b ∷ []) end fs [] [] nodes w

    divides_by_zero : (i a b call end x at : ℕ) (fs : List Frame) (rest : Nodes) (w : World) → suc (length fs) ≡ n
        → TrapsBehind (here machine i (Some I32) call (values.I32 a ∷ values.I32 b ∷ []) end fs [] (values.I32 0 ∷ values.I32 x ∷ values.I32 b ∷ []) (basic at (basics.Binary I32 ops.DivU) rest) w) 0
    unfolding binary
    divides_by_zero i a b call end x at fs rest w all = record {
      steps = 0;
      few = omega arith;
      last = here machine i (Some I32) call (values.I32 a ∷ values.I32 b ∷ []) end fs [] (values.I32 0 ∷ values.I32 x ∷ values.I32 b ∷ []) (basic at (basics.Binary I32 ops.DivU) rest) w;
      frames = all;
      runs = λ r. let g : 0 + suc r ≡ suc r = omega arith in ap (λ j. run_steps machine j (here machine i (Some I32) call (values.I32 a ∷ values.I32 b ∷ []) end fs [] (values.I32 0 ∷ values.I32 x ∷ values.I32 b ∷ []) (basic at (basics.Binary I32 ops.DivU) rest) w)) g;
    }

    -- the last function
    in_last : (i a b call end : ℕ) (fs : List Frame) (nodes : Nodes) (w : World) → suc i ≡ n → length fs ≡ i → HasPage w → Follows (beginning i ++ mixing n (16 * i + 1) ++ (constant 0 ∷ dividing)) nodes → TrapsBehind (inside i a b call end fs nodes w) 1
    in_last i a b call end fs nodes w last depth page fl =
        let k = ready p d i call a b end fs n i (constant 0 ∷ dividing) nodes w (omega (arith, most, last)) page fl in
        by_node k k.follows
      where
        by_node : (k : Ready p d i call a b end fs (constant 0 ∷ dividing) nodes w) → Follows (constant 0 ∷ dividing) k.rest → TrapsBehind (inside i a b call end fs nodes w) 1
        by_node k (at, behind, is, (at', behind', is', more)) =
            let ls : List Value = values.I32 a ∷ values.I32 b ∷ [] in
            let top : List Value = values.I32 k.value ∷ values.I32 b ∷ [] in
            let c1 = here machine i (Some I32) call ls end fs [] top k.rest k.later in
            let c2 = here machine i (Some I32) call ls end fs [] (values.I32 0 ∷ top) behind k.later in
            let s : step machine c1 ≡ next c2 = ap (λ z. step machine (here machine i (Some I32) call ls end fs [] top z k.later)) is in
            let t : TrapsBehind c2 0 = subst (λ z. TrapsBehind (here machine i (Some I32) call ls end fs [] (values.I32 0 ∷ top) z k.later) 0) (sym is') (divides_by_zero i a b call end k.value at' fs behind' k.later (omega (arith, last, depth))) in
            led (37 + 1) 0 (inside i a b call end fs nodes w) c2 (then_leads machine 37 1 (inside i a b call end fs nodes w) c1 c2 k.leads (one_step machine c1 c2 s)) t 1 (omega (arith, t.few))

    -- a call of the next function
    call_step : (i a b call end x at : ℕ) (fs : List Frame) (rest : Nodes) (w : World) → (h : HasCode p (i + 1) (code_at (i + 1))) → suc (length fs) < d
        → step machine (here machine i (Some I32) call (values.I32 a ∷ values.I32 b ∷ []) end fs [] (values.I32 b ∷ values.I32 x ∷ values.I32 b ∷ []) (jump at (Call (i + 1)) rest) w)
        ≡ next (inside (i + 1) x b 0 h.tree.end (frame i (Some I32) at (values.I32 a ∷ values.I32 b ∷ []) (label (values.I32 b ∷ []) rest end (returns (Some I32)) ∷ []) ∷ fs) h.tree.nodes w)
    call_step i a b call end x at fs rest w h shallow =
        let ls : List Value = values.I32 a ∷ values.I32 b ∷ [] in
        let os : List Value = values.I32 b ∷ values.I32 x ∷ values.I32 b ∷ [] in
        let l = label os (jump at (Call (i + 1)) rest) end (returns (Some I32)) in
        let fr = frame i (Some I32) call ls (l ∷ []) in
        let args : List Value = values.I32 x ∷ values.I32 b ∷ [] in
        let new = entered (i + 1) h.body h.tree two_to_one args in
        ap (λ o. calls machine o (i + 1) os at rest fr l [] fs w []) h.is
        ∙ ap (λ q. enters machine q new (values.I32 b ∷ []) at rest fr l [] fs w []) (lt-ltb (suc (length fs)) d shallow)
        ∙ ap (λ gs. next (config (frame (i + 1) (Some I32) 0 (args ++ zeros (declared_locals gs)) (label [] h.tree.nodes h.tree.end (returns (Some I32)) ∷ []) ∷ frame i (Some I32) at ls (label (values.I32 b ∷ []) rest end (returns (Some I32)) ∷ []) ∷ fs) w [])) h.no_locals

    if_true : (q : Bool) (i : ℕ) (nodes : Nodes) → q ≡ true → Follows (beginning i ++ mixing n (16 * i + 1) ++ (if q then local_get 1 ∷ calling i else constant 0 ∷ dividing)) nodes → Follows (beginning i ++ mixing n (16 * i + 1) ++ (local_get 1 ∷ calling i)) nodes
    if_true q i nodes is fl = subst (λ z. Follows (beginning i ++ mixing n (16 * i + 1) ++ (if z then local_get 1 ∷ calling i else constant 0 ∷ dividing)) nodes) is fl

    if_false : (q : Bool) (i : ℕ) (nodes : Nodes) → q ≡ false → Follows (beginning i ++ mixing n (16 * i + 1) ++ (if q then local_get 1 ∷ calling i else constant 0 ∷ dividing)) nodes → Follows (beginning i ++ mixing n (16 * i + 1) ++ (constant 0 ∷ dividing)) nodes
    if_false q i nodes is fl = subst (λ z. Follows (beginning i ++ mixing n (16 * i + 1) ++ (if z then local_get 1 ∷ calling i else constant 0 ∷ dividing)) nodes) is fl

    pub down : (j i a b call end : ℕ) (fs : List Frame) (nodes : Nodes) (w : World) → i + suc j ≡ n → length fs ≡ i → HasPage w → Follows (code_at i) nodes → TrapsBehind (inside i a b call end fs nodes w) (suc j)
    down zero i a b call end fs nodes w all depth page fl = in_last i a b call end fs nodes w (omega (arith, all)) depth page (if_false (nat_lt (i + 1) n) i nodes (le-ltb (i + 1) n (omega (arith, all))) fl)
    down (suc j) i a b call end fs nodes w all depth page fl =
        let k = ready p d i call a b end fs n i (local_get 1 ∷ calling i) nodes w (omega (arith, most, all)) page (if_true (nat_lt (i + 1) n) i nodes (lt-ltb (i + 1) n (omega (arith, all))) fl) in
        by_node k k.follows (λ x fs' nodes' w' depth' page' fl'. λ end'. down j (i + 1) x b 0 end' fs' nodes' w' (omega (arith, all)) depth' page' fl')
      where
        by_node : (k : Ready p d i call a b end fs (local_get 1 ∷ calling i) nodes w) → Follows (local_get 1 ∷ calling i) k.rest
            → ((x : ℕ) (fs' : List Frame) (nodes' : Nodes) (w' : World) → length fs' ≡ i + 1 → HasPage w' → Follows (code_at (i + 1)) nodes' → (end' : ℕ) → TrapsBehind (inside (i + 1) x b 0 end' fs' nodes' w') (suc j))
            → TrapsBehind (inside i a b call end fs nodes w) (suc (suc j))
        by_node k (at, behind, is, (at', behind', is', more)) next_one =
            let ls : List Value = values.I32 a ∷ values.I32 b ∷ [] in
            let top : List Value = values.I32 k.value ∷ values.I32 b ∷ [] in
            let h = codes (i + 1) (omega (arith, all)) in
            let caller = frame i (Some I32) at' ls (label (values.I32 b ∷ []) behind' end (returns (Some I32)) ∷ []) in
            let c1 = here machine i (Some I32) call ls end fs [] top k.rest k.later in
            let c2 = here machine i (Some I32) call ls end fs [] (values.I32 b ∷ top) behind k.later in
            let c3 = inside (i + 1) k.value b 0 h.tree.end (caller ∷ fs) h.tree.nodes k.later in
            let s : step machine c1 ≡ next c2 = ap (λ z. step machine (here machine i (Some I32) call ls end fs [] top z k.later)) is in
            let u : step machine c2 ≡ next c3 =
            ap (λ z. step machine (here machine i (Some I32) call ls end fs [] (values.I32 b ∷ top) z k.later)) is' ∙ call_step i a b call end k.value at' fs behind' k.later h (omega (arith, deep, all, depth))
            in
            let t = next_one k.value (caller ∷ fs) h.tree.nodes k.later (omega (arith, depth)) k.page h.follows h.tree.end in
            led (37 + 1 + 1) (suc j) (inside i a b call end fs nodes w) c3
            (then_leads machine (37 + 1) 1 (inside i a b call end fs nodes w) c2 c3 (then_leads machine 37 1 (inside i a b call end fs nodes w) c1 c2 k.leads (one_step machine c1 c2 s)) (one_step machine c2 c3 u))
            t (suc (suc j)) (omega (arith, t.few))
