use Rattle.std.proofs.Common.{List, subst}
use Rattle.wasm_syntax.specs.declared.parts.Body.{Body}
use Rattle.wasm_syntax.specs.declared.module.ModuleParts.{ModuleParts as Module}
use Rattle.instrument.specs.inner.Adding.{Adds, new_bodies, wrapper_bodies, helper_bodies}
use Rattle.instrument.proofs.Adding.{all_added}
use Rattle.instrument.proofs.bodies.all_bodies.Goals as goal

pub returns : goal.returns
returns c =
    let m = c.args.source.now in
    let a = c.requires.accepted in
    let one = c.push_functions.new.out in
    let two = c.push_wrappers.new.out in
    let three = c.push_helpers.new.out in
    all_added m a one two three
    (subst (λ (old : List Body). Adds (new_bodies m a) old one) c.new-out.ensures (c.in_ok-push_functions.ensures a))
    (subst (λ (x : Module). Adds (wrapper_bodies x) one two) c.requires.numbers c.in_ok-push_wrappers.ensures)
    (subst (λ (x : Module). Adds (helper_bodies x) two three) c.requires.numbers c.in_ok-push_helpers.ensures)
