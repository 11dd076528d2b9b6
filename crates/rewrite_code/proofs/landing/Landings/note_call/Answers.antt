use Rattle.std.proofs.Common.{rules, ◌≡◌, ◌∙◌, ◌-◌, length, ap}
use Rattle.rewrite_bodies.specs.calls.Landings.{with_landing}
use Rattle.rewrite_code.proofs.Loads.{when_ok}
use Rattle.rewrite_code.proofs.Same.{made_behind}
use Rattle.rewrite_code.proofs.landing.Landings.note_call.Goals as goal

pub returns : goal.returns
returns c =
    let ops = c.as_slice-operands.result.now in
    let left : c.saturating_sub-left.result ≡ length ops - c.args.taken = search rules in
    when_ok (λ e. e ∙ ap (λ x. with_landing x c.args.self.now) (made_behind c.args.part ops c.args.places.now c.args.taken c.saturating_sub-left.result c.as_slice-operands.ensures.value left)) c.note.result c.note.ensures
