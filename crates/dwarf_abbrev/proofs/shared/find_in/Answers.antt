use Rattle.std.proofs.Common.{◌≡◌, Some, None, sym, ap, ◌∙◌, arith}
use Rattle.std.specs.Prelude.{◌==◌, find, take}
use Rattle.std.specs.Option.{option_copied}
use Rattle.dwarf_abbrev.specs.calls.Shared.{list_of}
use Rattle.dwarf_abbrev.specs.inner.Linked.{lists}
use Rattle.dwarf_abbrev.proofs.LinkLaws.{near_found, map_finds}
use Rattle.dwarf_abbrev.proofs.shared.find_in.Goals as goal

pub returns-in-Some : goal.returns-in-Some
returns-in-Some g c =
    let xs = list_of (lists c.args.links.now) c.args.list in
    let e : find (λ x. g.T.Coded.code x == c.args.code) (take 8 xs) ≡ Some c.in-Some.near.now = sym c.find_near.ensures ∙ ap (λ o. option_copied o) c.in-Some.is in
    sym (near_found (λ x. g.T.Coded.code x == c.args.code) 8 xs c.in-Some.near.now e)

pub returns-in-None : goal.returns-in-None
returns-in-None g c =
    let xs = list_of (lists c.args.links.now) c.args.list in
    let e : find (λ x. g.T.Coded.code x == c.args.code) (take 8 xs) ≡ None = sym c.find_near.ensures ∙ ap (λ o. option_copied o) c.in-None.is in
    c.mapped.ensures c.args.code (omega arith) ∙ map_finds g.T.Coded.code c.args.links.now c.args.forks.now c.requires c.args.list c.args.code c.args.code (omega arith) e
