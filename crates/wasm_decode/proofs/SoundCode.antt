-- What holds of the expressions and bodies that bytes spell.
use Rattle.std.proofs.Common.{◌≡◌, ℕ, ◌+◌, ◌≤◌, [], length, refl, ap, subst, ◌∙◌, arith, length-append}
use Rattle.wasm_syntax.specs.declared.parts.Body.{Body}
use Rattle.wasm_syntax.specs.declared.parts.Global.{Global}
use Rattle.wasm_syntax.specs.declared.parts.ElementSeg.{ElementSeg}
use Rattle.wasm_syntax.specs.declared.parts.DataSeg.{DataSeg}
use Rattle.wasm_syntax.specs.Tree.{Tree, Writes}
use Rattle.wasm_syntax.specs.Module.{InOrder, IsExpression}
use Rattle.wasm_bytes.specs.calls.Spelling.{pair, u32, sized_run, vector}
use Rattle.wasm_bytes.specs.Laws.{TakesBytes}
use Rattle.wasm_bytes.proofs.Takes.{u32_takes, then_takes, image_takes, sized_takes}
use Rattle.wasm_bytes.specs.declared.noted.Noted.{Noted}
use Rattle.wasm_format.specs.declared.expression.Expression.{Expression}
use Rattle.wasm_format.specs.Expressions.{function_body, code_body}
use Rattle.wasm_format.specs.Sections.{global_of, element_of, segment_of}
use Rattle.wasm_format.specs.calls.Grammar.{valtype, mutability, globaltype, expression, code_contents, code, bodies, global_entry, element_entry, segment_entry}
use Rattle.wasm_decode.proofs.Reached.{GoodCode, entries_good}
use Rattle.wasm_decode.proofs.SoundForm.{AllFew, IsSound, vector_sound, together_few, together_sound, SoundLocals, locals_sound, valtype_takes}

-- ---- bodies

pub record SoundBody (size : ℕ) (body : Body) : Type 0 where
  pub tree : Tree
  pub writes : Writes body.targets body.ops tree
  pub in_order : InOrder body
  pub locals : SoundLocals size body.groups
  pub few_ops : length body.ops ≤ size
  pub few_targets : length body.targets ≤ size

pub record SoundConstant (size : ℕ) (body : Body) : Type 0 where
  pub is : IsExpression body
  pub few_ops : length body.ops ≤ size
  pub few_targets : length body.targets ≤ size

constant_good : (e : Expression) (size n : ℕ) → n ≤ size → GoodCode e n → SoundConstant size (code_body [] 0 e)
constant_good e size n fits g = record {
  is = record { tree = g.tree; writes = g.writes; in_order = record { offsets = g.offsets; targets = g.targets }; no_locals = refl };
  few_ops = omega (arith, g.few_ops, fits);
  few_targets = omega (arith, g.few_targets, fits);
}

pub expression_sound : IsSound expression (λ size b. SoundConstant size b.value)
expression_sound b at size bytes fits s =
    subst (λ (x : Noted Body). SoundConstant size x.value) s.1 (constant_good s.0 size (length bytes) fits (entries_good at at s.0 bytes (omega arith) s.2))

contents_sound : (origin : ℕ) → IsSound (code_contents origin) (λ size b. SoundBody size b.value)
contents_sound origin b at size bytes fits s =
    let len : length bytes ≡ length s.1.0 + length s.1.1 = ap length s.1.4 ∙ length-append s.1.0 s.1.1 in
    let l = locals_sound s.0 at size s.1.0 (omega (arith, len, fits)) s.1.2 in
    let e = s.1.3.0 in
    let g = entries_good at (at + length s.1.0) e s.1.1 (omega arith) s.1.3.2 in
    let made : SoundBody size (function_body origin at s.0 e).value = record {
      tree = g.tree;
      writes = g.writes;
      in_order = record { offsets = g.offsets; targets = g.targets };
      locals = l;
      few_ops = omega (arith, g.few_ops, len, fits);
      few_targets = omega (arith, g.few_targets, len, fits);
    } in
    subst (λ (x : Noted Body). SoundBody size x.value) s.1.3.1 made

code_sound : (origin : ℕ) → IsSound (code origin) (λ size b. SoundBody size b.value)
code_sound origin b at size bytes fits s =
    contents_sound origin b _ size s.1 (omega (arith, fits, ap length s.4, length-append s.0 s.1)) s.3

pub bodies_sound : (due : ℕ) → IsSound (bodies due) (λ size bs. AllFew (SoundBody size) size bs.value × (length bs.value ≡ due))
bodies_sound due bs at size bytes fits s =
    let all = vector_sound (code at) (λ n (b : Noted Body). SoundBody n b.value) (sized_takes (code_contents at)) (code_sound at) s.0 at size bytes fits s.2.1 in
    (together_sound (SoundBody size) size s.0 bs s.1 all, together_few s.0 bs s.1 ∙ s.2.0)

-- ---- globals and segments

pub record SoundElement (size : ℕ) (e : ElementSeg) : Type 0 where
  pub offset : SoundConstant size e.offset
  pub functions : length e.functions ≤ size

pub record SoundData (size : ℕ) (d : DataSeg) : Type 0 where
  pub offset : SoundConstant size d.offset
  pub bytes : length d.bytes ≤ size

globaltype_takes : TakesBytes globaltype
globaltype_takes = then_takes valtype mutability valtype_takes

pub global_takes : TakesBytes global_entry
global_takes = image_takes global_of (pair globaltype expression) (then_takes globaltype expression globaltype_takes)

pub global_sound : IsSound global_entry (λ size g. SoundConstant size g.value.init)
global_sound g at size bytes fits s =
    let len : length bytes ≡ length s.2.0 + length s.2.1 = ap length s.2.4 ∙ length-append s.2.0 s.2.1 in
    subst (λ (x : Noted Global). SoundConstant size x.value.init) s.1 (expression_sound s.0.1 _ size s.2.1 (omega (arith, len, fits)) s.2.3)

pub element_takes : TakesBytes element_entry
element_takes = image_takes element_of (pair u32 (pair expression (vector u32))) (then_takes u32 (pair expression (vector u32)) u32_takes)

pub element_sound : IsSound element_entry (λ size e. SoundElement size e.value)
element_sound e at size bytes fits s =
    let rest = s.2.3 in
    let outer : length bytes ≡ length s.2.0 + length s.2.1 = ap length s.2.4 ∙ length-append s.2.0 s.2.1 in
    let inner : length s.2.1 ≡ length rest.0 + length rest.1 = ap length rest.4 ∙ length-append rest.0 rest.1 in
    let made : SoundElement size (record { table = s.0.0; offset = s.0.1.0.value; functions = s.0.1.1 }) = record {
      offset = expression_sound s.0.1.0 _ size rest.0 (omega (arith, outer, inner, fits)) rest.2;
      functions = (vector_sound u32 (λ n x. Unit {0}) u32_takes (λ x o n b f h. tt) s.0.1.1 _ size rest.1 (omega (arith, outer, inner, fits)) rest.3).few;
    } in
    subst (λ (x : Noted ElementSeg). SoundElement size x.value) s.1 made

pub segment_takes : TakesBytes segment_entry
segment_takes = image_takes segment_of (pair u32 (pair expression sized_run)) (then_takes u32 (pair expression sized_run) u32_takes)

pub segment_sound : IsSound segment_entry (λ size d. SoundData size d.value)
segment_sound d at size bytes fits s =
    let rest = s.2.3 in
    let run = rest.3 in
    let outer : length bytes ≡ length s.2.0 + length s.2.1 = ap length s.2.4 ∙ length-append s.2.0 s.2.1 in
    let inner : length s.2.1 ≡ length rest.0 + length rest.1 = ap length rest.4 ∙ length-append rest.0 rest.1 in
    let made : SoundData size (record { memory = s.0.0; offset = s.0.1.0.value; bytes = s.0.1.1 }) = record {
      offset = expression_sound s.0.1.0 _ size rest.0 (omega (arith, outer, inner, fits)) rest.2;
      bytes = omega (arith, outer, inner, fits, ap length run.3, ap length run.4, length-append run.0 run.1);
    } in
    subst (λ (x : Noted DataSeg). SoundData size x.value) s.1 made
