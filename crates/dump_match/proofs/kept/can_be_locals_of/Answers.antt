use Rattle.std.proofs.Common.{◌≡◌, ◌++◌, List, Some, sym, ap, ap₂, subst, ◌∙◌}
use Rattle.std.specs.Prelude.{Option, IfSome}
use Rattle.std.specs.Option.{option_copied}
use Rattle.std.specs.Ordering.{nat_cmp}
use Rattle.std.specs.BTreeMap.{get}
use Rattle.wasm_syntax.specs.declared.parts.LocalGroup.{LocalGroup}
use Rattle.wasm_syntax.specs.Module.{declared_locals}
use Rattle.dump_match.specs.Values.{can_be}
use Rattle.dump_match.proofs.kept.can_be_locals_of.Goals as goal

pub returns-in-Some : goal.returns-in-Some
returns-in-Some c = λ m keeps found.
    let function = c.args.frame.now.function in
    let groups = c.in-Some.groups.now in
    let is : get nat_cmp c.args.kept.now function ≡ Some groups = sym c.get.ensures.value ∙ ap (λ o. option_copied o) c.in-Some.is in
    let same : declared_locals groups ≡ declared_locals c.args.body.now.groups =
    subst (λ (o : Option (List LocalGroup)). IfSome o (λ gs. declared_locals gs ≡ declared_locals c.args.body.now.groups)) is (keeps function c.args.body.now found) in
    c.can_be_locals.ensures ∙ ap₂ can_be (ap₂ (λ ps ts. ps ++ ts) c.as_slice-params.ensures (ap declared_locals c.as_slice.ensures ∙ same)) c.as_slice-values.ensures
