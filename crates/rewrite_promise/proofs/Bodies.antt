-- The code of the rewritten bodies takes what the weight gives to the bodies.
use Rattle.std.proofs.Common.{◌≡◌, ℕ, suc, ◌+◌, ◌*◌, ◌≤◌, List, [], ◌∷◌, length, map, reverse, Option, Some, None, refl, sym, ap, subst, ◌∙◌, arith, length-append, slice_get, option_to_list}
use Rattle.std.specs.Prelude.{sum}
use Rattle.wasm_syntax.specs.declared.parts.FuncType.{FuncType}
use Rattle.wasm_syntax.specs.declared.parts.Body.{Body}
use Rattle.wasm_syntax.specs.declared.module.ModuleParts.{ModuleParts as Module}
use Rattle.wasm_syntax.specs.Tree.{Tree}
use Rattle.wasm_syntax.specs.Module.{Program, Function, imported, defined, function_at, type_at, declared_locals}
use Rattle.wasm_syntax.specs.Machine.{result_of}
use Rattle.wasm_syntax.specs.Sizes.{local_count}
use Rattle.wasm_syntax.specs.Typing.{Types}
use Rattle.wasm_encode.specs.Encoding.{import_bytes}
use Rattle.wasm_format_laws.specs.calls.Sized.{OpsSized, Sized}
use Rattle.rewrite_bodies.specs.Numbering.{import_count}
use Rattle.rewrite_bodies.specs.calls.Slots.{ctx_of, slots_of}
use Rattle.rewrite_bodies.specs.calls.Typed.{in_body, original}
use Rattle.rewrite_bodies.specs.calls.Length.{code_length}
use Rattle.rewrite_bodies.proofs.LengthsNodes.{bodies_short}
use Rattle.rewrite_bodies.proofs.TypedPieces.{at_labels}
use Rattle.wasm_laws.proofs.Lists.{at_of}
use Rattle.wasm_laws.proofs.Safe.{Typed, one_result}
use Rattle.rewrite_modules.specs.calls.Given.{Given}
use Rattle.rewrite_modules.specs.calls.Instrument.{new_nodes}
use Rattle.rewrite_modules.specs.Instrumentable.{program_of, Instrumentable}
use Rattle.rewrite_modules.specs.Weight.{height_at, ops_weight, bodies_weight}
use Rattle.rewrite_modules.proofs.Bounds.{room_of}
use Rattle.rewrite_modules.proofs.Links.{is_defined, type_is_of, sizes_fit}
use Rattle.rewrite_modules.proofs.Modules.{module_given}
use Rattle.rewrite_modules.proofs.Theorem.{startable_given, ready_given}
use Rattle.rewrite_promise.specs.calls.Light.{BodiesLight, rewritten_length, rewritten_lengths}
use Rattle.wasm_format_laws.proofs.Totals.{total_many}
use Rattle.rewrite_promise.proofs.Weights.{body_weighs}
use Rattle.pm_text.proofs.Lists.{some_is}
use Rattle.wasm_syntax.proofs.Bodies.{tree_there, declared_length}
use Rattle.rewrite_modules.proofs.EncodedLengths.{import_some, contents_least}

module _ (m : Module) (x : Instrumentable m) (sized : Sized m) where
  abbrev p : Program
  p = program_of m x.whole

  abbrev ic : ℕ
  ic = import_count m

  abbrev heights : List (List ℕ)
  heights = x.lightness.heights

  given : Given p
  given = module_given m x

  typed_ : Typed p
  typed_ = (startable_given p given).typed

  pub few_imports : ic ≤ 134217728
  few_imports =
      let a = total_many (λ i. length (import_bytes i)) m.imports import_some in
      omega (arith, a, contents_least m, sized.no_shorter, sized.within_limit)

  pub light : BodiesLight p heights
  light i b tree type at =
      let d = is_defined p (ic + i) b tree type at in
      body_weighs p x.whole.write typed_ heights x.lightness.heights_are i b tree type at (at_of OpsSized m.bodies d.number b sized.ops.bodies d.body_is)

  -- the code of a defined function
  pub code_short : (i : ℕ) (b : Body) (tree : Tree) (type : FuncType) → function_at p (ic + i) ≡ Some (defined b tree type) → code_length (new_nodes p (ic + i) b tree type) ≤ 192 + 16 * local_count (type_at m (length m.imports + i)) b + ops_weight (height_at heights i) 0 b.ops
  code_short i b tree type at =
      let f = ic + i in
      let slots = slots_of p f b tree type in
      let C = ctx_of p f b type slots in
      let d = is_defined p f b tree type at in
      let ready = ready_given p given in
      let w = tree_there m.bodies x.whole.trees d.number b tree x.whole.write d.body_is d.tree_is in
      let fits = sizes_fit p ready f b tree type d at in
      let ty : type_at m (length m.imports + i) ≡ Some type = type_is_of p f (defined b tree type) at in
      let locals : local_count (type_at m (length m.imports + i)) b ≡ length type.params + sum (map (λ g. g.count) b.groups) = ap (λ o. local_count o b) ty in
      let all_locals : length C.locals ≡ length type.params + sum (map (λ g. g.count) b.groups) = omega (arith, length-append type.params (declared_locals b.groups), declared_length b.groups) in
      let low : length C.locals + (2 * slots + 5) ≤ 268435456 = omega (arith, fits.0, fits.1, given.few_locals, given.few_heights) in
      let low1 : import_count C.source + 3 ≤ 268435456 = omega (arith, few_imports) in
      let one : reverse type.results ≡ option_to_list (result_of type) = one_result type.results (typed_.few f (defined b tree type) at) in
      let room = room_of (ctx_of p f b type 0) slots tree.nodes [] (ready.static d.number tree d.tree_is) (omega arith) in
      let old : Types (original C (in_body C.result ∷ [])) tree.nodes [] (option_to_list C.result) = subst (λ z. Types (at_labels m C.locals z (z ∷ [])) tree.nodes [] z) one (typed_.bodies f b tree type at) in
      let short = bodies_short C tree.nodes (record { locals = low; imports = low1 }) typed_.few_types w.arms room old in
      omega (arith, short, light i b tree type at, locals, all_locals)

  pub same_body : (i : ℕ) (c b : Body) (tree : Tree) (type : FuncType) → function_at p (ic + i) ≡ Some (defined c tree type) → slice_get m.bodies i ≡ Some b → c ≡ b
  same_body i c b tree type at there =
      let d = is_defined p (ic + i) c tree type at in
      let same : d.number ≡ i = omega (arith, d.number_is) in
      let its : slice_get m.bodies i ≡ Some c = subst (λ n. slice_get m.bodies n ≡ Some c) same d.body_is in
      some_is (sym its ∙ there)

  code_short_ : (i : ℕ) (q : Option Function) → function_at p (ic + i) ≡ q → (b : Body) → slice_get m.bodies i ≡ Some b → rewritten_length p (ic + i) q ≤ 192 + 16 * local_count (type_at m (length m.imports + i)) b + ops_weight (height_at heights i) 0 b.ops
  code_short_ i None at b there = omega arith
  code_short_ i (Some (imported j type)) at b there = omega arith
  code_short_ i (Some (defined c tree type)) at b there =
      let equal = same_body i c b tree type at there in
      subst (λ z. rewritten_length p (ic + i) (Some (defined c tree type)) ≤ 192 + 16 * local_count (type_at m (length m.imports + i)) z + ops_weight (height_at heights i) 0 z.ops) equal (code_short i c tree type at)

  codes_short : (i f : ℕ) (bs : List Body) → f ≡ ic + i → ((k : ℕ) (b : Body) → slice_get bs k ≡ Some b → slice_get m.bodies (i + k) ≡ Some b) → rewritten_lengths p f bs ≤ bodies_weight m heights i bs
  codes_short i f [] at there = omega arith
  codes_short i f (b ∷ bs) at there =
      let same : i + 0 ≡ i = omega arith in
      let here : slice_get m.bodies i ≡ Some b = subst (λ n. slice_get m.bodies n ≡ Some b) same (there 0 b refl) in
      let one0 = code_short_ i (function_at p (ic + i)) refl b here in
      let one : rewritten_length p f (function_at p f) ≤ 192 + 16 * local_count (type_at m (length m.imports + i)) b + ops_weight (height_at heights i) 0 b.ops = subst (λ n. rewritten_length p n (function_at p n) ≤ 192 + 16 * local_count (type_at m (length m.imports + i)) b + ops_weight (height_at heights i) 0 b.ops) (sym at) one0 in
      let rest = codes_short (suc i) (suc f) bs (omega (arith, at)) (λ k c e. (let n : i + suc k ≡ suc i + k = omega arith in subst (λ n. slice_get m.bodies n ≡ Some c) n (there (suc k) c e))) in
      omega (arith, one, rest)

  pub from_first : (k : ℕ) (b : Body) → slice_get m.bodies k ≡ Some b → slice_get m.bodies (0 + k) ≡ Some b
  from_first k b e = let n : k ≡ 0 + k = omega arith in subst (λ n. slice_get m.bodies n ≡ Some b) n e

  pub all_codes_short : rewritten_lengths p ic m.bodies ≤ bodies_weight m heights 0 m.bodies
  all_codes_short = codes_short 0 ic m.bodies (omega arith) from_first
