use Rattle.std.proofs.Common.{◌≡◌, ◌≤◌, ℕ, eqb, Some, None, sym, ap, subst, ◌∙◌}
use Rattle.std.specs.Prelude.{◌||◌, find, if◌then◌else◌, take}
use Rattle.std.specs.Option.{is_some, option_copied}
use Rattle.dwarf_abbrev.specs.calls.Shared.{list_of}
use Rattle.dwarf_abbrev.specs.inner.Forks.{found}
use Rattle.dwarf_abbrev.specs.inner.Linked.{lists, first_of, FindsBehind}
use Rattle.dwarf_abbrev.proofs.LinkLaws.{if_made, behind_none, behind_front}
use Rattle.dwarf_abbrev.proofs.shared.map_behind.Goals as goal

pub returns-in-Some-clause-value : goal.returns-in-Some-clause-value
returns-in-Some-clause-value g c =
    let code = g.T.Coded.code in
    let links = c.args.links.now in
    let before = c.args.forks.now in
    let after = c.with_other.new.forks in
    let rest = c.args.rest in
    let last = c.passed-last.result in
    let x = c.in-Some.value.now in
    let root = c.map_of-before.result in
    let near = c.is_near-near.result in
    let some : first_of links last ≡ Some x = sym c.first_of.ensures ∙ ap (λ o. option_copied o) c.in-Some.is in
    let near_is : near ≡ (eqb (code x) c.args.code || is_some (find (λ y. eqb (code y) (code x)) (take 7 (list_of (lists links) rest)))) =
    c.is_near-near.ensures ∙ ap (λ (n : ℕ). eqb n c.args.code || is_some (find (λ y. eqb (code y) n) (take 7 (list_of (lists links) rest)))) c.code-other.ensures in
    if_made c.with_other.result
    (λ made. (fuel k : ℕ) → k ≤ fuel → found after fuel made k ≡ (if near then found before fuel root k else (if eqb c.code-other.result k then last else found before fuel root k)))
    (λ made. FindsBehind code links after made rest c.args.code)
    (λ made value. behind_front code links before c.requires.finds rest last c.passed-last.ensures.list x some after c.passed-last.ensures.there made c.args.code near near_is (λ fuel k small.
    value fuel k small
    ∙ ap (λ (n : ℕ). if near then found before fuel root k else (if eqb n k then last else found before fuel root k)) c.code-other.ensures
    ∙ ap (λ (n : ℕ). if near then found before fuel n k else (if eqb (code x) k then last else found before fuel n k)) c.map_of-before.ensures))
    c.with_other.ensures.value

pub returns-in-None-clause-value : goal.returns-in-None-clause-value
returns-in-None-clause-value g c =
    let code = g.T.Coded.code in
    let links = c.args.links.now in
    let none : first_of links c.passed-last.result ≡ None = sym c.first_of.ensures ∙ ap (λ o. option_copied o) c.in-None.is in
    subst (λ (n : ℕ). FindsBehind code links c.args.forks.now n c.args.rest c.args.code) (sym c.map_of-before.ensures)
    (behind_none code links c.args.forks.now c.requires.finds c.args.rest c.passed-last.result c.passed-last.ensures.list c.args.code none)

pub passed-last-requires-clause-follows : goal.passed-last-requires-clause-follows
passed-last-requires-clause-follows g c = c.requires.finds.follows
