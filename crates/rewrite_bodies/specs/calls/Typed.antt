-- What a module offers to rewritten code, so that it is well typed there.
use Rattle.std.specs.Prelude.{◌≡◌, ℕ, ◌+◌, List, [], ◌∷◌, ◌++◌, length, map, reverse, slice_get, Option, Some, None, true, option_to_list}
use Rattle.wasm_syntax.specs.declared.value.ValType.{ValType}
use Rattle.wasm_syntax.specs.declared.value.ValType.TheVariants.{I32, I64}
use Rattle.wasm_syntax.specs.declared.parts.FuncType.{FuncType}
use Rattle.wasm_syntax.specs.declared.parts.Global.{Global}
use Rattle.wasm_syntax.specs.declared.module.ModuleParts.{ModuleParts as Module}
use Rattle.wasm_syntax.specs.Tree.{Nodes}
use Rattle.wasm_syntax.specs.Module.{type_at}
use Rattle.wasm_syntax.specs.Machine.{result_of}
use Rattle.wasm_syntax.specs.Typing.{Context, Types}
use Rattle.rewrite_bodies.specs.Numbering.{mapped, value_import, frame_import, value_type, frame_type, flag_of, place_in}
use Rattle.rewrite_bodies.specs.calls.Slots.{Place, Spilled, Known, Copied, Ctx, added}
use Rattle.rewrite_bodies.specs.calls.Guards.{length_of, helper_type}
use Rattle.rewrite_bodies.specs.calls.Rewrite.{body}
use Rattle.rewrite_bodies.specs.calls.Agreement.{Has, Room}

-- the module has what the code names, and the function has its locals
pub record Offers (C : Ctx) (m : Module) (locals : List ValType) : Type 0 where
  pub locals_are : locals ≡ C.locals ++ added C.slots
  pub globals : (x : ℕ) (g : Global) → slice_get C.source.globals x ≡ Some g → slice_get m.globals x ≡ Some g
  pub flag : Global
  pub flag_there : slice_get m.globals (flag_of C.source) ≡ Some flag
  pub flag_type : flag.vtype ≡ I32
  pub flag_mutable : flag.mutable ≡ true
  pub length_ : Global
  pub length_there : slice_get m.globals (length_of C.source) ≡ Some length_
  pub length_type : length_.vtype ≡ I64
  pub length_mutable : length_.mutable ≡ true
  pub memories : m.memories ≡ C.source.memories
  pub tables : length m.tables ≡ length C.source.tables
  pub types : (t : ℕ) (type : FuncType) → slice_get C.source.types t ≡ Some type → slice_get m.types t ≡ Some type
  pub functions : (f : ℕ) (type : FuncType) → type_at C.source f ≡ Some type → type_at m (mapped C.source f) ≡ Some type
  pub values : (t : ValType) → type_at m (value_import C.source t) ≡ Some (value_type t)
  pub frames : type_at m (frame_import C.source) ≡ Some frame_type
  pub helpers : (t : ℕ) → Has t C.helpers → type_at m (C.base + place_in t C.helpers) ≡ Some helper_type
  -- types give at most one result
  pub one_result : (f : ℕ) (type : FuncType) → type_at C.source f ≡ Some type → reverse type.results ≡ option_to_list (result_of type)
  pub one_result_of : (t : ℕ) (type : FuncType) → slice_get C.source.types t ≡ Some type → reverse type.results ≡ option_to_list (result_of type)

-- a copy is one of a local of its type
abbrev pub Own : Ctx → Place → Type 0
Own C (Spilled t) = Unit {0}
Own C (Known v) = Unit {0}
Own C (Copied t x) = slice_get C.locals x ≡ Some t

abbrev pub AllOwn : Ctx → List Place → Type 0
AllOwn C [] = Unit {0}
AllOwn C (e ∷ es) = Own C e × AllOwn C es

-- an open label
pub data Info : Type 0 where
  in_block : (t : Option ValType) → Info
  in_loop : (t : Option ValType) → Info
  in_body : (t : Option ValType) → Info

-- what a branch to a label carries, and what its end gives
abbrev pub carries : Info → Option ValType
carries (in_block t) = t
carries (in_loop t) = None
carries (in_body t) = t

abbrev pub end_gives : Info → Option ValType
end_gives (in_block t) = t
end_gives (in_loop t) = t
end_gives (in_body t) = t

-- the context of the original's nodes inside these labels
abbrev pub original : Ctx → List Info → Context
original C ls = record { module_ = C.source; locals = C.locals; labels = map (λ i. option_to_list (carries i)) ls; returns = option_to_list C.result }

-- the context of the rewritten body
abbrev pub rewritten : Ctx → Module → List ValType → Context
rewritten C m locals = record { module_ = m; locals = locals; labels = option_to_list C.result ∷ []; returns = option_to_list C.result }

-- The rewriting of a well-typed body with room in its slots is well typed.
abbrev pub BodyTyped : Ctx → Type 0
BodyTyped C =
    (m : Module) (locals : List ValType) (nodes : Nodes) → Offers C m locals → Room C [] nodes →
    Types (original C (in_body C.result ∷ [])) nodes [] (option_to_list C.result) → Types (rewritten C m locals) (body C nodes) [] (option_to_list C.result)
