-- Operand heights do not hang on offsets, lengths and custom sections.
use Rattle.std.proofs.Common.{◌≡◌, ℕ, zero, suc, ◌<◌, Bool, false, List, [], ◌∷◌, length, map, Some, refl, sym, ap, ◌∙◌, subst, arith, slice_get, option_map, take}
use Rattle.std.proofs.lemmas.List.{length-map}
use Rattle.std.proofs.lemmas.Option.{slice_get-map}
use Rattle.wasm_syntax.specs.declared.value.ValType.{ValType}
use Rattle.wasm_syntax.specs.declared.parts.FuncType.{FuncType}
use Rattle.wasm_syntax.specs.declared.parts.Body.{Body}
use Rattle.wasm_syntax.specs.declared.module.ModuleParts.{ModuleParts as Module}
use Rattle.wasm_syntax.specs.Tree.{Plain, Goes, Opens, OpensLoop, OpensIf, Else, End, Item, Placed, code_of}
use Rattle.wasm_syntax.specs.Typing.{Context, body_context}
use Rattle.wasm_syntax.specs.FlatTyping.{OpenBlock, label_types, FlatStep, FlatTypes, body_block, dead_next, dead_behind, AllLive, TypesBefore}
use Rattle.wasm_syntax.specs.SameCode.{op_code, body_code, code_alone}
use Rattle.rewrite_modules.specs.calls.LowSizes.{LowHeights}
use Rattle.rewrite_modules.proofs.BareValid.{basic_to, basic_from, jump_to, jump_from}
use Rattle.rewrite_modules.proofs.WrittenOut.{at_zero, zero_code}
use Rattle.wasm_syntax.proofs.Types.{map_found}

take_zero : (i : ℕ) (code : List Placed) → take i (map at_zero code) ≡ map at_zero (take i code)
take_zero zero [] = refl
take_zero zero (p ∷ ps) = refl
take_zero (suc i) [] = refl
take_zero (suc i) (p ∷ ps) = ap (λ z. at_zero p ∷ z) (take_zero i ps)

dead_zero : (ds : List Bool) (code : List Placed) → dead_behind ds (map at_zero code) ≡ dead_behind ds code
dead_zero ds [] = refl
dead_zero ds (p ∷ ps) = dead_zero (dead_next ds p.code) ps

module _ (m : Module) (type : FuncType) (b : Body) where
  abbrev c : Context
  c = body_context m type b

  abbrev c0 : Context
  c0 = body_context (code_alone m) type (body_code b)

  step_to : (bs : List OpenBlock) (i : Item) (after : List OpenBlock) → FlatStep c bs i after → FlatStep c0 bs i after
  step_to [] i after h = absurd h
  step_to (o ∷ bs) (Plain i) after h = (h.0, basic_to m c.locals c.returns (map label_types (o ∷ bs)) i o.types h.0 h.1, h.2)
  step_to (o ∷ bs) (Goes j) after h = (h.0, jump_to m c.locals c.returns (map label_types (o ∷ bs)) j o.types h.0 h.1, h.2)
  step_to (o ∷ bs) (Opens t) after h = h
  step_to (o ∷ bs) (OpensLoop t) after h = h
  step_to (o ∷ bs) (OpensIf t) after h = h
  step_to (o ∷ bs) Else after h = h
  step_to (o ∷ bs) End after h = h

  step_from : (bs : List OpenBlock) (i : Item) (after : List OpenBlock) → FlatStep c0 bs i after → FlatStep c bs i after
  step_from [] i after h = absurd h
  step_from (o ∷ bs) (Plain i) after h = (h.0, basic_from m c.locals c.returns (map label_types (o ∷ bs)) i o.types h.0 h.1, h.2)
  step_from (o ∷ bs) (Goes j) after h = (h.0, jump_from m c.locals c.returns (map label_types (o ∷ bs)) j o.types h.0 h.1, h.2)
  step_from (o ∷ bs) (Opens t) after h = h
  step_from (o ∷ bs) (OpensLoop t) after h = h
  step_from (o ∷ bs) (OpensIf t) after h = h
  step_from (o ∷ bs) Else after h = h
  step_from (o ∷ bs) End after h = h

  flat_to : (code : List Placed) (bs after : List OpenBlock) → FlatTypes c bs code after → FlatTypes c0 bs (map at_zero code) after
  flat_to [] bs after h = h
  flat_to (p ∷ ps) bs after h = (h.0, step_to bs p.code h.0 h.1, flat_to ps h.0 after h.2)

  flat_from : (code : List Placed) (bs after : List OpenBlock) → FlatTypes c0 bs (map at_zero code) after → FlatTypes c bs code after
  flat_from [] bs after h = h
  flat_from (p ∷ ps) bs after h = (h.0, step_from bs p.code h.0 h.1, flat_from ps h.0 after h.2)

  front : (i : ℕ) → take i (code_of (body_code b).targets (body_code b).ops) ≡ map at_zero (take i (code_of b.targets b.ops))
  front i = ap (take i) (zero_code b.targets b.ops) ∙ take_zero i (code_of b.targets b.ops)

  before_to : (i : ℕ) (types : List ValType) → TypesBefore m type b i types → TypesBefore (code_alone m) type (body_code b) i types
  before_to i types h =
      let code = take i (code_of b.targets b.ops) in
      record {
        result = h.result;
        gives = h.gives;
        blocks = h.blocks;
        leads = subst (λ z. FlatTypes c0 (body_block h.result) z h.blocks) (sym (front i)) (flat_to code (body_block h.result) h.blocks h.leads);
        live = subst (λ z. AllLive (dead_behind (false ∷ []) z)) (sym (front i)) (subst AllLive (sym (dead_zero (false ∷ []) code)) h.live);
        types_are = h.types_are;
      }

  before_from : (i : ℕ) (types : List ValType) → TypesBefore (code_alone m) type (body_code b) i types → TypesBefore m type b i types
  before_from i types h =
      let code = take i (code_of b.targets b.ops) in
      record {
        result = h.result;
        gives = h.gives;
        blocks = h.blocks;
        leads = flat_from code (body_block h.result) h.blocks (subst (λ z. FlatTypes c0 (body_block h.result) z h.blocks) (front i) h.leads);
        live = subst AllLive (dead_zero (false ∷ []) code) (subst (λ z. AllLive (dead_behind (false ∷ []) z)) (front i) h.live);
        types_are = h.types_are;
      }

heights_to : (m : Module) → LowHeights m → LowHeights (code_alone m)
heights_to m low i op body type types e lt ty before =
    let f = map_found (slice_get m.bodies i) body_code body (sym (slice_get-map body_code m.bodies i) ∙ e) in
    let b = f.0 in
    let old : TypesBefore (code_alone m) type (body_code b) op types = subst (λ z. TypesBefore (code_alone m) type z op types) (sym f.2) before in
    let inside_ : op < length b.ops = omega (arith, lt, ap (λ (z : Body). length z.ops) f.2, length-map b.ops op_code) in
    low i op b type types f.1 inside_ ty (before_from m type b op types old)

heights_from : (m : Module) → LowHeights (code_alone m) → LowHeights m
heights_from m low i op b type types e lt ty before =
    let at : slice_get (map body_code m.bodies) i ≡ Some (body_code b) = slice_get-map body_code m.bodies i ∙ ap (option_map body_code) e in
    let inside_ : op < length (map op_code b.ops) = omega (arith, lt, length-map b.ops op_code) in
    low i op (body_code b) type types at inside_ ty (before_to m type b op types before)

pub same_heights : (a b : Module) → code_alone a ≡ code_alone b → LowHeights a → LowHeights b
same_heights a b e low = heights_from b (subst LowHeights e (heights_to a low))
