use Rattle.std.proofs.Common.{◌≡◌, ℕ, ◌-◌, ◌/◌, refl, sym, ap, ◌∙◌, arith}
use Rattle.dwarf_abbrev.specs.inner.Forks.{node, here_of, behind, is_odd, found}
use Rattle.dwarf_abbrev.proofs.TrieLaws.{found_bit, found_none}
use Rattle.dwarf_abbrev.proofs.forks.+found.Goals as goal

pub returns-then-key-eq0 : goal.returns-then-key-eq0
returns-then-key-eq0 t c = λ fuel small.
    let forks = c.args.forks.now in
    let n = c.args.number in
    let zero_key : c.args.key ≡ 0 = c.if-key-eq0.true in
    c.here_of.ensures ∙ ap here_of c.node-node.ensures ∙ sym (found_none forks fuel n (node forks n) refl) ∙ ap (found forks fuel n) (sym zero_key)

pub returns : goal.returns
returns t c = λ fuel small.
    let forks = c.args.forks.now in
    let n = c.args.number in
    let key = c.args.key in
    let there = c.behind.ensures ∙ ap (behind (is_odd key)) c.node-node.ensures in
    c.found.ensures (fuel - 1) (omega (arith, small, c.if-key-eq0.false))
    ∙ ap (λ (m : ℕ). found forks (fuel - 1) m (key / 2)) there
    ∙ sym (found_bit forks fuel n key (node forks n) refl (λ e. omega (arith, e, c.if-key-eq0.false)) small)
