use Rattle.std.proofs.Common.{◌≡◌, ◌-◌, false, Some, eqb, sym, ap, ◌∙◌}
use Rattle.std.specs.Prelude.{find, slice_get, take}
use Rattle.std.specs.Option.{option_copied}
use Rattle.std.proofs.lemmas.Bool.{eq-eqb, ne_eqb}
use Rattle.dwarf_abbrev.specs.calls.Shared.{list_of}
use Rattle.dwarf_abbrev.specs.inner.Linked.{lists}
use Rattle.dwarf_abbrev.proofs.LinkLaws.{first_is, none_near, front_near, other_near}
use Rattle.dwarf_abbrev.proofs.shared.+find_near.Goals as goal

pub returns-then-count-eq0 : goal.returns-then-count-eq0
returns-then-count-eq0 g t c = ap (λ k. find (λ x. eqb (g.T.Coded.code x) c.args.code) (take k (list_of (lists c.args.links.now) c.args.list))) (sym c.if-count-eq0.true)

pub returns-in_err-front : goal.returns-in_err-front
returns-in_err-front g t c =
    let links = c.args.links.now in
    let n = c.args.list in
    ap (λ o. option_copied o) c.from_residual.ensures ∙ none_near (λ x. eqb (g.T.Coded.code x) c.args.code) c.args.count (list_of (lists links) n) (sym (first_is links n) ∙ sym c.in_err-front.ensures)

pub returns-then-code : goal.returns-then-code
returns-then-code g t c =
    let links = c.args.links.now in
    let n = c.args.list in
    let x = c.in_ok-front.front.now in
    let some : slice_get (list_of (lists links) n) 0 ≡ Some x = sym (first_is links n) ∙ sym c.in_ok-front.ensures in
    front_near (λ y. eqb (g.T.Coded.code y) c.args.code) c.args.count (list_of (lists links) n) x c.if-count-eq0.false some (eq-eqb (g.T.Coded.code x) c.args.code (sym c.code.ensures ∙ c.if-code.true))

pub returns : goal.returns
returns g t c =
    let code = g.T.Coded.code in
    let links = c.args.links.now in
    let n = c.args.list in
    let k = c.args.count in
    let x = c.in_ok-front.front.now in
    let some : slice_get (list_of (lists links) n) 0 ≡ Some x = sym (first_is links n) ∙ sym c.in_ok-front.ensures in
    let apart : eqb (code x) c.args.code ≡ false = ne_eqb (code x) c.args.code (λ e. c.if-code.false (c.code.ensures ∙ e)) in
    c.find_near.ensures
    ∙ ap (λ xs. find (λ y. eqb (code y) c.args.code) (take (k - 1) xs)) c.behind_first.ensures.list
    ∙ other_near (λ y. eqb (code y) c.args.code) k (list_of (lists links) n) x c.if-count-eq0.false some apart
