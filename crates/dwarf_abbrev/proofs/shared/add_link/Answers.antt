use Rattle.std.proofs.Common.{ℕ, List, length, ap, subst, arith}
use Rattle.dwarf_abbrev.specs.declared.shared.Link.{Link}
use Rattle.dwarf_abbrev.specs.inner.Linked.{FindsBehind}
use Rattle.dwarf_abbrev.proofs.LinkLaws.{lists_length, finds_link}
use Rattle.dwarf_abbrev.proofs.shared.add_link.Goals as goal

pub returns-clause-finds : goal.returns-clause-finds
returns-clause-finds g c =
    let code = g.T.Coded.code in
    let links = c.args.links.now in
    let before = c.args.forks.now in
    let after = c.map_behind.new.forks in
    let l : Link g.row.T.Denot = record { value = c.args.value; rest = c.args.rest; map = c.in_ok-map.map } in
    let coded : FindsBehind code c.as_slice.result.now after l.map l.rest (code l.value) = subst (λ (n : ℕ). FindsBehind code c.as_slice.result.now after l.map l.rest n) c.code.ensures c.in_ok-map.ensures.value in
    let behind : FindsBehind code links after l.map l.rest (code l.value) = subst (λ (ls : List (Link g.row.T.Denot)). FindsBehind code ls after l.map l.rest (code l.value)) c.as_slice.ensures coded in
    finds_link code links c.push.new.self before after l c.requires.finds c.in_ok-map.ensures.closed c.in_ok-map.ensures.grows c.in_ok-map.ensures.same c.in_ok-map.ensures.number (omega (arith, c.requires.rest, lists_length links)) behind c.in_ok-push.ensures.ok

pub returns-clause-number : goal.returns-clause-number
returns-clause-number g c = omega (arith, c.len-len.ensures, lists_length c.args.links.now)

pub map_behind-requires-clause-rest : goal.map_behind-requires-clause-rest
map_behind-requires-clause-rest g c = omega (arith, c.requires.rest, lists_length c.args.links.now, ap length c.as_slice.ensures)
