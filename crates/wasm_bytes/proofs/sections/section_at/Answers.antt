use Rattle.std.proofs.Common.{arith}
use Rattle.wasm_bytes.proofs.SectionLaws.{section_found, section_stopped}
use Rattle.wasm_bytes.proofs.sections.section_at.Goals as goal

pub returns-clause-found : goal.returns-clause-found
returns-clause-found c = λ s. rw c.placed.ensures (section_found c.args.bytes.now c.args.at c.requires (λ i. omega (arith, c.type_inv.bytes i)) s)

pub returns-clause-broken : goal.returns-clause-broken
returns-clause-broken c = λ o. rw c.placed.ensures (section_stopped c.args.bytes.now c.args.at c.requires (λ i. omega (arith, c.type_inv.bytes i)) o)
