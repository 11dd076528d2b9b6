-- The frames of each rewritten module hand over their values.
use Rattle.std.proofs.Common.{◌≡◌, ℕ, ◌+◌, ◌*◌, ◌<◌, ◌≤◌, List, [], ◌∷◌, ◌++◌, length, Some, true, false, refl, ap, ap₂, ◌∙◌, subst, arith, slice_get, length-append}
use Rattle.std.proofs.lemmas.List.{length-map}
use Rattle.wasm_syntax.specs.declared.value.ValType.{ValType}
use Rattle.wasm_syntax.specs.declared.value.Value.{Value}
use Rattle.wasm_syntax.specs.declared.parts.FuncType.{FuncType}
use Rattle.wasm_syntax.specs.declared.parts.Body.{Body}
use Rattle.wasm_syntax.specs.Numbers.{types}
use Rattle.wasm_syntax.specs.Tree.{Tree}
use Rattle.wasm_syntax.specs.Module.{Program, defined, function_at, declared_locals}
use Rattle.wasm_syntax.specs.Host.{World}
use Rattle.wasm_syntax.specs.Machine.{Engine}
use Rattle.wasm_syntax.specs.Run.{engine}
use Rattle.wasm_syntax.specs.Sizes.{parameter_count}
use Rattle.rewrite_bodies.specs.Numbering.{wrapped, wrapper_base, global_types}
use Rattle.rewrite_bodies.specs.calls.Pieces.{tree_of}
use Rattle.rewrite_bodies.specs.calls.Agreement.{WorldFits}
use Rattle.rewrite_bodies.specs.calls.Standing.{Stands}
use Rattle.rewrite_bodies.proofs.Run.{weaken}
use Rattle.rewrite_bodies.proofs.Step.{step_sim}
use Rattle.rewrite_bodies.proofs.Unwind.{up_under, up_all}
use Rattle.rewrite_modules.specs.calls.FlatCode.{body_of}
use Rattle.rewrite_modules.specs.calls.Given.{Given}
use Rattle.rewrite_modules.specs.calls.Instrument.{instrument}
use Rattle.rewrite_modules.specs.Multiple.{half}
use Rattle.rewrite_modules.specs.Weight.{AreHeights}
use Rattle.rewrite_modules.specs.calls.Wrappers.{wrapper_nodes, wrapper}
use Rattle.rewrite_modules.specs.calls.Unwinding.{Begins, Unwinds}
use Rattle.rewrite_modules.proofs.Links.{Ready, is_defined, sizes_fit, type_is_of, wrapper_there, stands}
use Rattle.rewrite_modules.proofs.Links as links
use Rattle.rewrite_modules.proofs.Multiple.{greatest_are}
use Rattle.rewrite_modules.proofs.Theorem.{startable_given, ready_given, starts_fit}
use Rattle.rewrite_modules.proofs.Whole.{trap_end, w0, fits, begin}

module _ (p : Program) (given : Given p) (d : ℕ) where
  ready : Ready p
  ready = ready_given p given

  abbrev n : ℕ
  n = links.half p ready

  abbrev M : Engine
  M = engine p false d

  abbrev M' : Engine
  M' = engine (instrument p) true (d + 2)

  abbrev gl : List ValType
  gl = global_types p.module_

  S : Stands M M' n gl
  S = stands p ready d

  begins : (f j : ℕ) (b : Body) (tree : Tree) (type : FuncType) (args : List Value) (g : World) (up : ℕ) → 0 < d → function_at p f ≡ Some (defined b tree type) → slice_get (wrapped p.module_) j ≡ Some f → types args ≡ type.params → WorldFits M gl g → Begins p n d f j b tree type args g up
  begins f j b tree type args g up deep at there ty wf =
      let m = p.module_ in
      let tf = type_is_of p f (defined b tree type) at in
      let z = sizes_fit p ready f b tree type (is_defined p f b tree type at) at in
      let few : length type.params ≤ length (type.params ++ declared_locals b.groups) = omega (arith, length-append type.params (declared_locals b.groups)) in
      let roomy : 4 * length type.params + 2 * length gl + 60 ≤ n = omega (arith, z.0, few, length-map m.globals (λ g. g.vtype)) in
      let wb = body_of [] (wrapper m f) in
      let went = begin M M' n gl S refl deep f b tree type at args ty g wf up (wrapper_base m + j) wb refl roomy in
      record {
        body = wb;
        tree_ = tree_of (wrapper_nodes m f (length type.params));
        wrapper = wrapper_there p ready j f type there tf ∙ ap (λ o. Some (defined wb (tree_of (wrapper_nodes m f (parameter_count o))) type)) tf;
        frames = w0 M M' n gl S refl deep f b tree type at args ty g wf up (wrapper_base m + j) wb refl roomy ∷ [];
        agree = fits M M' n gl S refl deep f b tree type at args ty g wf up (wrapper_base m + j) wb refl roomy;
        goes = weaken M' went (omega arith) (omega (arith, roomy));
      }

  unwinds_by : Unwinds p n d
  unwinds_by = record {
    starts = λ replies e. starts_fit p given d replies e;
    begins = begins;
    follows = λ W c ws h sh. step_sim M M' n gl W S c ws h sh;
    one_frame = λ W F Fs w ws g co t q r f dc fs wf u. up_under M M' n gl W S.speaks Fs ws g co t 0 q r F w.ctx w.ex w.ss w.under_way f dc fs wf u;
    all_frames = λ W Fs ws g co t q r fs ds wf u. up_all M M' n gl W S.speaks Fs ws g co t 0 q r fs ds wf u;
    wrapper = λ W zs g co rest wf.
        let e = trap_end M M' n gl S refl W zs g co rest wf in
        (e.0, e.1, e.2, weaken M' e.3 (omega arith) (omega (arith, length-map p.module_.globals (λ g. g.vtype))));
  }

-- with the bound that speaks of no slots
pub unwinds : (p : Program) → Given p → (heights : List (List ℕ)) → AreHeights p.module_ heights → (d : ℕ) → Unwinds p (half p.module_ heights) d
unwinds p given heights are d =
    let same = greatest_are p given.program (startable_given p given).typed given.valid heights are in
    let e : links.half p (ready_given p given) ≡ half p.module_ heights = ap₂ (λ (x y : ℕ). 100 + 4 * (x + y + length p.module_.globals)) same.0 same.1 in
    subst (λ n. Unwinds p n d) e (unwinds_by p given d)
