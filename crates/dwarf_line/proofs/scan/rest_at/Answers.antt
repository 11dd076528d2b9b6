use Rattle.std.proofs.Common.{subst}
use Rattle.std.specs.Ordering.{nat_cmp}
use Rattle.std.specs.BTreeMap.{get}
use Rattle.wasm_bytes.specs.Place.{Place}
use Rattle.dwarf_line.specs.inner.Scans.{IsRest}
use Rattle.dwarf_line.proofs.ScanLaws.{known_more}
use Rattle.dwarf_line.proofs.scan.rest_at.Goals as goal

pub returns-clause-rest : goal.returns-clause-rest
returns-clause-rest c =
    subst (λ (p : Place). IsRest c.args.parameters.now p.block p.at c.unwound-rest.result) c.starting_at-reader.ensures (c.unwound-rest.ensures c.args.parameters.now c.starting_at-reader.result c.in_ok-trail.ensures)

pub returns-clause-known : goal.returns-clause-known
returns-clause-known c =
    let rest = subst (λ (p : Place). IsRest c.args.parameters.now p.block p.at c.unwound-rest.result) c.starting_at-reader.ensures (c.unwound-rest.ensures c.args.parameters.now c.starting_at-reader.result c.in_ok-trail.ensures) in
    known_more c.args.parameters.now c.args.block.now c.args.at c.unwound-rest.result (get nat_cmp c.args.known.now) (get nat_cmp c.insert.new.self) c.in_ok-insert.ensures.updates.0 rest c.requires.known
