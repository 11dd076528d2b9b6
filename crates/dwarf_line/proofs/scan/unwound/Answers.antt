use Rattle.std.proofs.Common.{◌≡◌, [], List, Option, sym, subst, rules, of_calls}
use Rattle.dwarf_line.specs.declared.outline.Outline.{Outline}
use Rattle.dwarf_line.specs.declared.scan.Stride.{Stride}
use Rattle.dwarf_line.specs.inner.Scans.{IsWay}
use Rattle.dwarf_line.proofs.ScanLaws.{way_back, way_begins}
use Rattle.dwarf_line.proofs.scan.unwound.Goals as goal

pub strides-preserved : goal.strides-preserved
strides-preserved c h p trail =
    let way = subst (λ (xs : List Stride). IsWay h p xs c.strides.rest) c.in-Some.ensures.items (c.strides.invariant h p trail) in
    subst (λ (o : Option Outline). IsWay h p c.pop.new.self.items o) (sym c.with_front_if-rest.ensures) (way_back h p c.pop.new.self.items c.in-Some.stride c.strides.rest way)

pub returns : goal.returns
returns c h p trail =
    let none : c.strides.strides.items ≡ [] = search (rules, of_calls) in
    way_begins h p c.strides.rest (subst (λ (xs : List Stride). IsWay h p xs c.strides.rest) none (c.strides.invariant h p trail))
