use Rattle.std.proofs.Common.{◌≡◌, ◌+◌, length, ap, ◌∙◌, arith}
use Rattle.wasm_laws.proofs.Safe.{Typed}
use Rattle.wasm_syntax.specs.declared.module.ModuleParts.{ModuleParts as Module}
use Rattle.rewrite_modules.specs.Instrumentable.{program_of, Instrumentable}
use Rattle.rewrite_modules.specs.Multiple.{highest}
use Rattle.rewrite_modules.specs.Weight.{height_at}
use Rattle.rewrite_modules.proofs.Links.{is_defined}
use Rattle.rewrite_modules.proofs.Modules.{module_given}
use Rattle.rewrite_modules.proofs.Multiple.{greatest_are, slots_are}
use Rattle.rewrite_modules.proofs.Theorem.{startable_given}
use Rattle.rewrite_modules.proofs.laws.slots_are_heights.Goals as goal

typed_of : (m : Module) (x : Instrumentable m) → Typed (program_of m x.whole)
typed_of m x = (startable_given (program_of m x.whole) (module_given m x)).typed

pub returns-clause-greatest : goal.returns-clause-greatest
returns-clause-greatest c = λ m x heights are. (greatest_are (program_of m x.whole) x.whole.write (typed_of m x) x.valid heights are).1

pub returns-clause-locals : goal.returns-clause-locals
returns-clause-locals c = λ m x heights are. (greatest_are (program_of m x.whole) x.whole.write (typed_of m x) x.valid heights are).0

pub returns-clause-each : goal.returns-clause-each
returns-clause-each c = λ m x heights are i b tree type e.
    let p = program_of m x.whole in
    let f = length m.imports + i in
    let number : (is_defined p f b tree type e).number ≡ i = omega (arith, (is_defined p f b tree type e).number_is) in
    slots_are p x.whole.write (typed_of m x) f b tree type e heights are ∙ ap (λ x. highest (height_at heights x) 0 b.ops) number
