-- What the layers promise of each rewriting.
use Rattle.std.proofs.Common.{◌≡◌, ℕ, ◌+◌, ◌*◌, ◌≤◌, List, length, map, Some, option_map, true, slice_get, refl, sym, ap, ◌∙◌, subst, arith}
use Rattle.std.proofs.lemmas.Option.{slice_get-map}
use Rattle.wasm_syntax.specs.declared.instruction.Instr.{Instr}
use Rattle.wasm_syntax.specs.declared.parts.LocalGroup.{LocalGroup}
use Rattle.wasm_syntax.specs.declared.parts.Body.{Body}
use Rattle.wasm_syntax.specs.declared.quantity.Quantity.TheVariants.{Locals, Nesting}
use Rattle.wasm_syntax.specs.declared.module.ModuleParts.{ModuleParts as Module}
use Rattle.wasm_syntax.specs.Module.{Program, function_at, type_at}
use Rattle.wasm_syntax.specs.Quantity.{greatest}
use Rattle.wasm_syntax.specs.Sizes.{local_count, nesting, deepest}
use Rattle.wasm_syntax.specs.Valid.{Valid}
use Rattle.wasm_syntax.specs.SameCode.{body_code, code_alone}
use Rattle.wasm_encode.specs.Encoding.{entry_bytes, function_bytes}
use Rattle.wasm_format_laws.specs.calls.Sized.{Sized}
use Rattle.wasm_laws.proofs.Lists.{at_of}
use Rattle.pm_text.proofs.Lists.{some_is, get_front}
use Rattle.rewrite_bodies.specs.Numbering.{import_count}
use Rattle.rewrite_modules.specs.calls.Instrument.{instrument, new_module, new_body}
use Rattle.rewrite_modules.specs.Instrumentable.{program_of, Instrumentable}
use Rattle.rewrite_modules.specs.Weight.{height_at, AreHeights, ops_weight}
use Rattle.rewrite_modules.specs.calls.Bare.{bare}
use Rattle.rewrite_modules.specs.calls.Given.{Given}
use Rattle.rewrite_modules.proofs.BareSteps.{steps_alike}
use Rattle.rewrite_modules.proofs.Links.{get_each}
use Rattle.rewrite_modules.proofs.Modules.{module_given}
use Rattle.rewrite_modules.proofs.NewSizes.{new_sizes}
use Rattle.rewrite_modules.proofs.SameBodies.{alike, fine_same}
use Rattle.rewrite_modules.proofs.Theorem.{startable_given, ready_given}
use Rattle.rewrite_modules.proofs.Unwinding.{unwinds}
use Rattle.rewrite_modules.proofs.ValidModule.{new_valid}
use Rattle.rewrite_modules.proofs.WrittenOut.{program_bare, same_bare, instrument_bare}
use Rattle.rewrite_promise.specs.calls.Promise.{Accepted, IsRewriting}
use Rattle.rewrite_promise.specs.calls.Layers.{share, BodyPromised, Layered}
use Rattle.rewrite_promise.proofs.Decoded.{with_trees}
use Rattle.rewrite_promise.proofs.Heights.{same_ops, same_height}
use Rattle.rewrite_promise.proofs.Sections.{entry_bare}
use Rattle.rewrite_promise.proofs.Whole.{rewritten_short}
use Rattle.wasm_format_laws.proofs.Numbers.{some_bytes}
use Rattle.rewrite_modules.proofs.EncodedLengths.{entry_total}

-- bodies of the same code take as many bytes
same_entry : (b c : Body) → body_code b ≡ body_code c → entry_bytes b ≡ entry_bytes c
same_entry b c e = sym (entry_bare b) ∙ ap entry_bytes e ∙ entry_bare c

module _ (m : Module) (x : Instrumentable m) (sized : Sized m) where
  abbrev p : Program
  p = program_of m x.whole

  abbrev nth : ℕ → Body
  nth i = new_body p (import_count m + i) (function_at p (import_count m + i))

  given : Given p
  given = module_given m x

  valid : Valid (new_module p)
  valid = new_valid p (ready_given p given) x.valid (startable_given p given).typed x.whole.write x.no_export_collision

  here : (i : ℕ) (old : Body) → slice_get m.bodies i ≡ Some old → slice_get (new_module p).bodies i ≡ Some (nth i)
  here i old there = get_front _ _ i _ (get_each (λ f. new_body p f (function_at p f)) (import_count m) m.bodies i old there)

  body_short : (heights : List (List ℕ)) → AreHeights m heights → (i : ℕ) (old new : Body) → slice_get m.bodies i ≡ Some old → body_code new ≡ body_code (nth i) → length (entry_bytes new) ≤ share m heights i old
  body_short heights are i old new there e =
      let weigh = λ (hs : List (List ℕ)). ops_weight (height_at hs i) 0 old.ops in
      let same : weigh x.lightness.heights ≡ weigh heights = same_ops (height_at x.lightness.heights i) (height_at heights i) (λ j. same_height m x.valid x.lightness.heights heights x.lightness.heights_are are i j old there) 0 old.ops in
      let six = rewritten_short m x sized i old (function_at p (import_count m + i)) refl there in
      let most : length (entry_bytes (new_body p (import_count m + i) (function_at p (import_count m + i)))) ≤ share m x.lightness.heights i old = omega (arith, six, entry_total old, some_bytes (length (function_bytes old))) in
      let bytes : entry_bytes (nth i) ≡ entry_bytes new = same_entry (nth i) new (sym e) in
      subst (λ (k : ℕ). length (entry_bytes new) ≤ 8 * length (entry_bytes old) + (192 + 16 * local_count (type_at m (length m.imports + i)) old + k)) same (subst (λ (z : List ℕ). length z ≤ share m x.lightness.heights i old) bytes most)

  -- a body with the code of the i-th one
  pub body_promised : (i : ℕ) (old new : Body) → slice_get m.bodies i ≡ Some old → body_code new ≡ body_code (nth i) → BodyPromised m x.whole i old new
  body_promised i old new there e =
      let n : Module = new_module p in
      let at = here i old there in
      let sizes = new_sizes m x in
      let locals = sizes.locals i (nth i) at in
      let nested = at_of (λ b. nesting b ≤ greatest Nesting) n.bodies i (nth i) sizes.nested at in
      record {
        typed = fine_same n i (nth i) new valid at e;
        few_locals = subst (λ (gs : List LocalGroup). local_count (type_at n (length n.imports + i)) (record (nth i) { groups = gs }) ≤ greatest Locals) (sym (ap (λ (b : Body). b.groups) e)) locals;
        shallow = subst (λ (cs : List Instr). deepest 0 cs ≤ greatest Nesting) (sym (alike new (nth i) e).codes) nested;
        short = λ heights are. body_short heights are i old new there e;
      }

  module _ (other : Module) (same : code_alone (new_module p) ≡ code_alone other) where
    -- the i-th body of a module with the rewritten code
    its_code : (i : ℕ) (old new : Body) → slice_get m.bodies i ≡ Some old → slice_get other.bodies i ≡ Some new → body_code new ≡ body_code (nth i)
    its_code i old new there at =
        let one : slice_get (map body_code other.bodies) i ≡ Some (body_code new) = slice_get-map body_code other.bodies i ∙ ap (option_map body_code) at in
        let two : slice_get (map body_code (new_module p).bodies) i ≡ Some (body_code (nth i)) = slice_get-map body_code (new_module p).bodies i ∙ ap (option_map body_code) (here i old there) in
        some_is (sym one ∙ ap (λ (k : Module). slice_get k.bodies i) (sym same) ∙ two)

    pub bodies_promised : (i : ℕ) (old new : Body) → slice_get m.bodies i ≡ Some old → slice_get other.bodies i ≡ Some new → BodyPromised m x.whole i old new
    bodies_promised i old new there at = body_promised i old new there (its_code i old new there at)

pub layered : (m other : Module) → Accepted m → IsRewriting m other → Layered m other
layered m other a r =
    let x = with_trees m a.premises r.whole in
    let p : Program = program_of m r.whole in
    let q : Program = program_of other r.other_whole in
    let given_ : Given p = module_given m x in
    let same : bare q ≡ bare (instrument p) = same_bare q (instrument p) (program_bare q r.other_whole.write) (instrument_bare p given_.program (startable_given p given_).typed) (sym r.same) in
    record {
      whole = r.whole;
      other_whole = r.other_whole;
      unwinds = λ heights are d. unwinds p given_ heights are d;
      steps = λ d k c c' e. steps_alike q (instrument p) same true d k c c' e;
      bodies = bodies_promised m x a.sized other r.same;
    }
