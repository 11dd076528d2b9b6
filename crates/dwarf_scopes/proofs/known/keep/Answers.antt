use Rattle.dwarf_scopes.specs.declared.known.KnownLists.{KnownLists}
use Rattle.dwarf_scopes.proofs.KnownLaws.{said_kept, said_same}
use Rattle.dwarf_scopes.proofs.known.keep.Goals as goal

pub returns-in-Ok : goal.returns-in-Ok
returns-in-Ok g c = λ section item address said is.
    let after : KnownLists g.row.T.Denot = record { known = c.insert.new.self; alloc = c.args.lists.now.alloc } in
    said_kept section item address c.args.lists.now after c.number_of-number.result c.args.list c.in-Ok.ensures.updates.0 said is

pub returns-in-Err : goal.returns-in-Err
returns-in-Err g c = λ section item address said is.
    let after : KnownLists g.row.T.Denot = record { known = c.insert.new.self; alloc = c.args.lists.now.alloc } in
    said_same section item address c.args.lists.now after c.in-Err.ensures.err said
