-- The numbers of a module are in the ranges of their types.
use Rattle.std.specs.Prelude.{ℕ, ◌<◌, ◌^◌, IfSome}
use Rattle.std.specs.List.{AllByRecursion}
use Rattle.wasm_syntax.specs.declared.parts.Body.{Body}
use Rattle.wasm_syntax.specs.declared.parts.DataSeg.{DataSeg}
use Rattle.wasm_syntax.specs.declared.parts.ElementSeg.{ElementSeg}
use Rattle.wasm_syntax.specs.declared.parts.Limits.{Limits}
use Rattle.wasm_syntax.specs.declared.module.ModuleParts.{ModuleParts}
use Rattle.wasm_format.specs.Encoding.{IsCode}

abbrev pub Fits32 : ℕ → Type 0
Fits32 n = n < 2 ^ 32

abbrev pub FitsLimits : Limits → Type 0
FitsLimits l = Fits32 l.min × IfSome l.max Fits32

-- the instructions of an expression, with the targets of its `br_table`s
abbrev pub FitsExpression : Body → Type 0
FitsExpression body = AllByRecursion (λ o. IsCode body.targets o.code) body.ops

abbrev pub FitsBody : Body → Type 0
FitsBody body = AllByRecursion (λ g. Fits32 g.count) body.groups × FitsExpression body

pub record FitsElement (e : ElementSeg) : Type 0 where
  pub table : Fits32 e.table
  pub offset : FitsExpression e.offset
  pub functions : AllByRecursion Fits32 e.functions

pub record FitsSegment (s : DataSeg) : Type 0 where
  pub memory : Fits32 s.memory
  pub offset : FitsExpression s.offset

-- what stands in front of the globals
pub record FitsDeclarations (m : ModuleParts) : Type 0 where
  pub imports : AllByRecursion (λ i. Fits32 i.ftype) m.imports
  pub functions : AllByRecursion Fits32 m.functions
  pub tables : AllByRecursion FitsLimits m.tables
  pub memories : AllByRecursion FitsLimits m.memories

-- what stands in front of the code
pub record FitsFront (m : ModuleParts) : Type 0 where
  pub declarations : FitsDeclarations m
  pub globals : AllByRecursion (λ g. FitsExpression g.init) m.globals
  pub exports : AllByRecursion (λ e. Fits32 e.index) m.exports
  pub start : IfSome m.start Fits32
  pub elements : AllByRecursion FitsElement m.elements

pub record FitsModule (m : ModuleParts) : Type 0 where
  pub front : FitsFront m
  pub bodies : AllByRecursion FitsBody m.bodies
  pub segments : AllByRecursion FitsSegment m.segments
