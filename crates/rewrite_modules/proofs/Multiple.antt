-- The slots of a function are as many as its greatest operand height, so that the bound on the steps speaks of no slots.
use Rattle.std.proofs.Common.{◌≡◌, ℕ, zero, suc, ◌+◌, ◌*◌, ◌<◌, ◌≤◌, Bool, true, false, List, [], ◌∷◌, ◌++◌, ◌⊎◌, inl, inr, ⊎_elim, length, map, reverse, Some, refl, sym, ap, ap₂, ◌∙◌, subst, arith, option_to_list, length-append, append-nil, take, drop, slice_get}
use Rattle.std.specs.Prelude.{sum}
use Rattle.std.proofs.lemmas.Bool.{ltb-true}
use Rattle.std.proofs.lemmas.List.{length-reverse, take-append-drop}
use Rattle.std.proofs.Math.Seq.{take-append_seam}
use Rattle.wasm_syntax.specs.declared.blocks.BlockKind.TheVariants as block_kinds
use Rattle.wasm_syntax.specs.declared.instruction.Op.{Op}
use Rattle.wasm_syntax.specs.declared.value.ValType.{ValType}
use Rattle.wasm_syntax.specs.declared.parts.FuncType.{FuncType}
use Rattle.wasm_syntax.specs.declared.parts.Body.{Body}
use Rattle.wasm_syntax.specs.declared.module.ModuleParts.{ModuleParts as Module}
use Rattle.wasm_syntax.specs.Tree.{Tree, End, Placed, placed, code_of, Writes}
use Rattle.wasm_syntax.specs.Module.{Program, IsProgram, defined, function_at, type_at, declared_locals}
use Rattle.wasm_syntax.specs.Machine.{result_of}
use Rattle.wasm_syntax.specs.Sizes.{local_count}
use Rattle.wasm_syntax.specs.Static.{Spot, Live}
use Rattle.wasm_syntax.specs.Typing.{Context, Types, IsBody, body_context}
use Rattle.wasm_syntax.specs.FlatTyping.{OpenBlock, opened, inside, FlatTypes, body_block, dead_behind, AllLive, IsLive, all_types, TypesBefore}
use Rattle.wasm_syntax.specs.Valid.{Valid}
use Rattle.wasm_laws.proofs.FlatBodies.{inside_body, body_steps}
use Rattle.wasm_laws.proofs.FlatOne.{one_before}
use Rattle.wasm_laws.proofs.FlatSteps.{steps_split}
use Rattle.wasm_laws.proofs.Safe.{Typed, one_result}
use Rattle.rewrite_bodies.specs.Numbering.{import_count}
use Rattle.rewrite_bodies.specs.calls.Slots.{Ctx, ctx_of, slots_of, sizes, most, greatest}
use Rattle.wasm_syntax.specs.SameCode.{code_alone}
use Rattle.rewrite_modules.specs.calls.Given.{Given}
use Rattle.rewrite_modules.specs.calls.Instrument.{instrument, new_module}
use Rattle.rewrite_modules.specs.Simulates.{Simulates}
use Rattle.rewrite_modules.specs.Starts.{StartsAlike}
use Rattle.rewrite_modules.specs.Weight.{height_at, AreHeights}
use Rattle.rewrite_modules.specs.Multiple.{most_locals, highest, most_operands, multiple}
use Rattle.rewrite_modules.proofs.FineBodies.{fine_at}
use Rattle.rewrite_modules.proofs.Heights.{spot_peak, peak_low}
use Rattle.rewrite_modules.proofs.Links.{is_defined, parts_of, type_is_of, IsDefined}
use Rattle.rewrite_modules.proofs.BareRuns.{simulates_bare}
use Rattle.rewrite_modules.proofs.SlotMultiple.{slot_multiple}
use Rattle.rewrite_modules.proofs.Spots.{at_spots}
use Rattle.rewrite_modules.proofs.Starts.{starts_by_slots}
use Rattle.rewrite_modules.proofs.Theorem.{startable_given, rewriting_simulates, entries_simulate}
use Rattle.rewrite_modules.specs.Entries.{SimulatesEntries}
use Rattle.rewrite_modules.proofs.WrittenOut.{program_bare, same_bare, instrument_bare}
use Rattle.pm_text.proofs.Lists.{some_is}
use Rattle.wasm_syntax.proofs.Bodies.{tree_there, declared_length}

-- ---- numbers of a list

highest_least : (g : ℕ → ℕ) (j : ℕ) (ops : List Op) (N : ℕ) → ((op : ℕ) → op < length ops → g (j + op) ≤ N) → highest g j ops ≤ N
highest_least g j [] N h = omega arith
highest_least g j (o ∷ os) N h =
    let first : g j ≤ N = (let z : j + 0 ≡ j = omega arith in subst (λ x. g x ≤ N) z (h 0 (omega arith))) in
    let more = highest_least g (suc j) os N (λ op lt. let z : j + suc op ≡ suc j + op = omega arith in subst (λ x. g x ≤ N) z (h (suc op) (omega (arith, lt)))) in
    omega (arith, first, more)

highest_most : (g : ℕ → ℕ) (j : ℕ) (ops : List Op) (op : ℕ) → op < length ops → g (j + op) ≤ highest g j ops
highest_most g j [] op lt = absurd (omega (arith, lt))
highest_most g j (o ∷ os) zero lt = let z : j ≡ j + 0 = omega arith in subst (λ x. g x ≤ highest g j (o ∷ os)) z (omega arith)
highest_most g j (o ∷ os) (suc op) lt =
    let r = highest_most g (suc j) os op (omega (arith, lt)) in
    let z : suc j + op ≡ j + suc op = omega arith in
    subst (λ x. g x ≤ highest g j (o ∷ os)) z (omega (arith, r))

-- ---- live instructions have operand types

pub live_or : (ds : List Bool) → AllLive ds ⊎ (AllLive ds → ⊥)
live_or [] = inl tt
live_or (true ∷ ds) = inr (λ h. let z : true ≡ false = h.0 in absurd cc)
live_or (false ∷ ds) = ⊎_elim (λ a. inl (refl, a)) (λ n. inr (λ h. n h.1)) (live_or ds)

pub before_live : (m : Module) (type : FuncType) (body : Body) (op : ℕ) → reverse type.results ≡ option_to_list (result_of type) → IsBody m type body (code_of body.targets body.ops) → IsLive (code_of body.targets body.ops) op → (types : List ValType) × TypesBefore m type body op types
before_live m type body op gives is live =
    let c : Context = body_context m type body in
    let code = code_of body.targets body.ops in
    let result = result_of type in
    let all = body_steps m type body result code gives is in
    let split : FlatTypes c (body_block result) (take op code ++ drop op code) [] = subst (λ (z : List Placed). FlatTypes c (body_block result) z []) (sym (take-append-drop op code)) all in
    let k = steps_split c (take op code) (drop op code) (body_block result) [] split in
    (reverse (all_types k.0), record { result = result; gives = gives; blocks = k.0; leads = k.1; live = live; types_are = refl })

pub code_length : (T : List ℕ) (ops : List Op) → length (code_of T ops) ≡ length ops
code_length T [] = refl
code_length T (o ∷ os) = ap suc (code_length T os)

-- ---- one function

module _ (p : Program) (write_ : IsProgram p) (typed : Typed p) where
  abbrev m : Module
  m = p.module_

  one_at : (f : ℕ) (type : FuncType) → type_at m f ≡ Some type → reverse type.results ≡ option_to_list (result_of type)
  one_at g u e = let fn = typed.functions g u e in one_result u.results (subst (λ q. length q.results ≤ 1) fn.2 (typed.few g fn.0 fn.1))

  one_of_at : (t : ℕ) (type : FuncType) → slice_get m.types t ≡ Some type → reverse type.results ≡ option_to_list (result_of type)
  one_of_at t u e = one_result u.results (typed.few_types t u e)

  module _ (f : ℕ) (b : Body) (tree : Tree) (type : FuncType) (at : function_at p f ≡ Some (defined b tree type)) where
    abbrev d : IsDefined p f b tree type
    d = is_defined p f b tree type at

    gives : reverse type.results ≡ option_to_list (result_of type)
    gives = one_result type.results (typed.few f (defined b tree type) at)

    writes : Writes b.targets b.ops tree
    writes = tree_there m.bodies p.trees d.number b tree write_ d.body_is d.tree_is

    abbrev C : Ctx
    C = ctx_of p f b type 0

    abbrev ret : List ValType
    ret = reverse type.results

    abbrev code : List Placed
    code = code_of b.targets b.ops

    -- no instruction has more operands than there are slots
    pub slots_high : (op : ℕ) (types : List ValType) → TypesBefore m type b op types → length types ≤ slots_of p f b tree type
    slots_high op types h =
        let n = slots_of p f b tree type in
        let spots : (s : Spot) → Live (body_context m type b) tree.nodes [] [] s → length (s.here ++ s.outside) ≤ n = λ s l. (let k = spot_peak C ret one_at one_of_at (ret ∷ []) tree.nodes [] [] [] [] s refl refl tt l in omega (arith, k, length-append s.here s.outside)) in
        let k = at_spots (λ us. length us ≤ n) m type b tree (result_of type) gives writes (typed.bodies f b tree type at) (omega arith) spots op types h in
        omega (arith, k.2, ap length k.1, length-reverse k.0)

    is_body : IsBody m type b code
    is_body = record { tree = tree; writes = writes; typed = typed.bodies f b tree type at }

    -- behind the last instruction there are none
    none_behind : (ps : List Placed) (blocks : List OpenBlock) → code ≡ ps → TypesBefore m type b (length ps) (reverse (all_types blocks)) → length (all_types blocks) ≡ 0
    none_behind ps blocks e h =
        let front : take (length ps) code ≡ code = ap (take (length ps)) (e ∙ sym (append-nil ps)) ∙ take-append_seam ps [] ∙ sym e in
        let last : TypesBefore m type b (length ps) [] = record {
          result = result_of type;
          gives = gives;
          blocks = [];
          leads = subst (λ z. FlatTypes (body_context m type b) (body_block (result_of type)) z []) (sym front) (body_steps m type b (result_of type) code gives is_body);
          live = h.live;
          types_are = refl;
        } in
        let none = one_before m type b (length ps) (reverse (all_types blocks)) [] h last in
        omega (arith, ap length none, length-reverse (all_types blocks))

    -- and where each has at most so many, there are no more slots
    pub slots_least : (heights : List (List ℕ)) → AreHeights m heights → (N : ℕ) → ((op : ℕ) → op < length b.ops → height_at heights d.number op ≤ N) → slots_of p f b tree type ≤ N
    slots_least heights are N low =
        let result = result_of type in
        let start = opened block_kinds.Plain result [] in
        let ty : type_at m (length m.imports + d.number) ≡ Some type = subst (λ z. type_at m z ≡ Some type) d.number_is (type_is_of p f (defined b tree type) at) in
        let types1 : Types (inside (body_context m type b) (start ∷ [])) tree.nodes [] (reverse type.results) = subst (λ z. Types z tree.nodes [] (reverse type.results)) (sym (inside_body m type b result gives)) (typed.bodies f b tree type at) in
        peak_low C ret (ret ∷ []) N one_at one_of_at tree.nodes start [] [] [] [] (reverse type.results) (placed tree.end End ∷ []) writes.arms tt types1 refl refl tt
        (λ ps rest blocks s ft lv.
        let split : code ≡ ps ++ rest = writes.out ∙ s in
        let front : take (length ps) code ≡ ps = ap (take (length ps)) split ∙ take-append_seam ps rest in
        let before : TypesBefore m type b (length ps) (reverse (all_types blocks)) = record { result = result; gives = gives; blocks = blocks; leads = subst (λ z. FlatTypes (body_context m type b) (start ∷ []) z blocks) (sym front) ft; live = subst (λ z. AllLive (dead_behind (false ∷ []) z)) (sym front) lv; types_are = refl } in
        by_rest rest ps blocks split before (are.live d.number (length ps) type b (reverse (all_types blocks)) d.body_is ty before))
      where
        by_rest : (rest ps : List Placed) (blocks : List OpenBlock) → code ≡ ps ++ rest → TypesBefore m type b (length ps) (reverse (all_types blocks)) → height_at heights d.number (length ps) ≡ length (reverse (all_types blocks)) → length (all_types blocks) ≤ N
        by_rest [] ps blocks s h e = let none = none_behind ps blocks (s ∙ append-nil ps) h in omega (arith, none)
        by_rest (x ∷ rest) ps blocks s h e =
            let inside_ : length ps < length b.ops = omega (arith, ap length s, length-append ps (x ∷ rest), code_length b.targets b.ops) in
            omega (arith, low (length ps) inside_, e, length-reverse (all_types blocks))

    -- the slots are as many as the greatest height
    pub slots_are : (heights : List (List ℕ)) → AreHeights m heights → slots_of p f b tree type ≡ highest (height_at heights d.number) 0 b.ops
    slots_are heights are =
        let g = height_at heights d.number in
        let n = slots_of p f b tree type in
        let ty : type_at m (length m.imports + d.number) ≡ Some type = subst (λ z. type_at m z ≡ Some type) d.number_is (type_is_of p f (defined b tree type) at) in
        let least = slots_least heights are (highest g 0 b.ops) (λ op lt. let z : 0 + op ≡ op = omega arith in subst (λ x. g x ≤ highest g 0 b.ops) z (highest_most g 0 b.ops op lt)) in
        let each : (op : ℕ) → g op ≤ n = λ op.
        ⊎_elim
        (λ live. let t = before_live m type b op gives is_body live in let e = are.live d.number op type b t.0 d.body_is ty t.1 in omega (arith, e, slots_high op t.0 t.1))
        (λ dead. let e = are.dead d.number op b d.body_is dead in omega (arith, e))
        (live_or (dead_behind (false ∷ []) (take op code))) in
        let most_ = highest_least g 0 b.ops n (λ op lt. each (0 + op)) in
        omega (arith, least, most_)

-- ---- all functions

module _ (p : Program) (write_ : IsProgram p) (typed : Typed p) (valid : Valid p.module_) (heights : List (List ℕ)) (are : AreHeights p.module_ heights) where
  abbrev n : ℕ
  n = import_count p.module_

  defined_here : (i : ℕ) (b : Body) → slice_get p.module_.bodies i ≡ Some b → (tree : Tree) × (type : FuncType) × (function_at p (n + i) ≡ Some (defined b tree type))
  defined_here i b e =
      let fine = fine_at p.module_ i b valid e in
      let fn = typed.functions (n + i) fine.0 fine.1 in
      elim (parts_of p (n + i) fn.0 fn.1) [
        | inl a ↦ absurd (let z : n + i < n = ltb-true (n + i) n a.3.low in omega (arith, z))
        | inr a ↦
            let same : a.4.number ≡ i = omega (arith, a.4.number_is) in
            let body : a.0 ≡ b = some_is (sym a.4.body_is ∙ ap (slice_get p.module_.bodies) same ∙ e) in
            let at : function_at p (n + i) ≡ Some (defined a.0 a.1 a.2) = fn.1 ∙ ap Some a.3 in
            (a.1, a.2, at ∙ ap (λ x. Some (defined x a.1 a.2)) body)
      ]

  -- of one function
  sizes_are : (i : ℕ) (b : Body) → slice_get p.module_.bodies i ≡ Some b → ((sizes p (n + i) (function_at p (n + i))).0 ≡ local_count (type_at p.module_ (n + i)) b) × ((sizes p (n + i) (function_at p (n + i))).1 ≡ highest (height_at heights i) 0 b.ops)
  sizes_are i b e =
      let d = defined_here i b e in
      let number : (is_defined p (n + i) b d.0 d.1 d.2).number ≡ i = omega (arith, (is_defined p (n + i) b d.0 d.1 d.2).number_is) in
      let slots = slots_are p write_ typed (n + i) b d.0 d.1 d.2 heights are ∙ ap (λ x. highest (height_at heights x) 0 b.ops) number in
      let ty = type_is_of p (n + i) (defined b d.0 d.1) d.2 in
      let locals : length (d.1.params ++ declared_locals b.groups) ≡ length d.1.params + sum (map (λ g. g.count) b.groups) = omega (arith, declared_length b.groups, length-append d.1.params (declared_locals b.groups)) in
      rw (d.2, ty) (locals, slots)

  abbrev Same : ℕ → List Body → Type 0
  Same i bs = ((most (λ f. sizes p f (function_at p f)) (n + i) bs).0 ≡ most_locals p.module_ i bs) × ((most (λ f. sizes p f (function_at p f)) (n + i) bs).1 ≡ most_operands heights i bs)

  most_are : (i : ℕ) (bs : List Body) → ((k : ℕ) (b : Body) → slice_get bs k ≡ Some b → slice_get p.module_.bodies (i + k) ≡ Some b) → Same i bs
  most_are i [] at = (refl, refl)
  most_are i (b ∷ bs) at =
      let here : slice_get p.module_.bodies i ≡ Some b = (let z : i + 0 ≡ i = omega arith in subst (λ k. slice_get p.module_.bodies k ≡ Some b) z (at 0 b refl)) in
      let one = sizes_are i b here in
      let rest = most_are (suc i) bs (λ k c e. (let z : i + suc k ≡ suc i + k = omega arith in subst (λ k. slice_get p.module_.bodies k ≡ Some c) z (at (suc k) c e))) in
      let z : n + suc i ≡ suc (n + i) = omega arith in
      let more : ((most (λ f. sizes p f (function_at p f)) (suc (n + i)) bs).0 ≡ most_locals p.module_ (suc i) bs) × ((most (λ f. sizes p f (function_at p f)) (suc (n + i)) bs).1 ≡ most_operands heights (suc i) bs) = subst (λ k. ((most (λ f. sizes p f (function_at p f)) k bs).0 ≡ most_locals p.module_ (suc i) bs) × ((most (λ f. sizes p f (function_at p f)) k bs).1 ≡ most_operands heights (suc i) bs)) z rest in
      (omega (arith, one.0, more.0), omega (arith, one.1, more.1))

  pub greatest_are : ((greatest p).0 ≡ most_locals p.module_ 0 p.module_.bodies) × ((greatest p).1 ≡ most_operands heights 0 p.module_.bodies)
  greatest_are =
      let z : n + 0 ≡ n = omega arith in
      let all = most_are 0 p.module_.bodies (λ k b e. (let y : k ≡ 0 + k = omega arith in subst (λ k. slice_get p.module_.bodies k ≡ Some b) y e)) in
      subst (λ k. ((most (λ f. sizes p f (function_at p f)) k p.module_.bodies).0 ≡ most_locals p.module_ 0 p.module_.bodies) × ((most (λ f. sizes p f (function_at p f)) k p.module_.bodies).1 ≡ most_operands heights 0 p.module_.bodies)) z all

  pub multiple_is : slot_multiple p ≡ multiple p.module_ heights
  multiple_is = ap₂ (λ (x y : ℕ). 200 + 8 * (x + y + length p.module_.globals)) greatest_are.0 greatest_are.1

-- ---- the simulation, by heights

pub simulates_by : (p : Program) → Given p → (heights : List (List ℕ)) → AreHeights p.module_ heights → Simulates (multiple p.module_ heights) p (instrument p)
simulates_by p g heights are = subst (λ k. Simulates k p (instrument p)) (multiple_is p g.program (startable_given p g).typed g.valid heights are) (rewriting_simulates p g)

-- and calls by entries of the table
pub entries_by_heights : (p : Program) → Given p → (heights : List (List ℕ)) → AreHeights p.module_ heights → SimulatesEntries (multiple p.module_ heights) p (instrument p)
entries_by_heights p g heights are = subst (λ k. SimulatesEntries k p (instrument p)) (multiple_is p g.program (startable_given p g).typed g.valid heights are) (entries_simulate p g)

-- and the start function alone
pub starts_by_heights : (p : Program) → Given p → ((s : ℕ) → p.module_.start ≡ Some s → length p.module_.globals ≤ 20000000) → (heights : List (List ℕ)) → AreHeights p.module_ heights → StartsAlike (multiple p.module_ heights) p (instrument p)
starts_by_heights p g few heights are = subst (λ k. StartsAlike k p (instrument p)) (multiple_is p g.program (startable_given p g).typed g.valid heights are) (starts_by_slots p g few)

-- each module that is the same but for offsets
pub others_simulate : (p other : Program) → Given p → IsProgram other → code_alone other.module_ ≡ code_alone (new_module p) → (heights : List (List ℕ)) → AreHeights p.module_ heights → Simulates (multiple p.module_ heights) p other
others_simulate p other g w e heights are =
    let typed = (startable_given p g).typed in
    simulates_bare (multiple p.module_ heights) p (instrument p) other (same_bare other (instrument p) (program_bare other w) (instrument_bare p g.program typed) e) (simulates_by p g heights are)
