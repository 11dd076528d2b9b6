use Rattle.std.proofs.Common.{◌≡◌, ℕ, List, subst}
use Rattle.std.specs.Prelude.{OnOk, codes}
use Rattle.std.specs.Fmt.{decimal}
use Rattle.debug_frames.specs.Unreadable.{unreadable}
use Rattle.debug_frames.proofs.Parts.{joined}
use Rattle.debug_frames.proofs.unreadable.push_line.Goals as goal

pub returns : goal.returns
unfolding unreadable
returns c =
    let all = joined c.args.out.now (codes "unreadable ") c.args.section.now (codes " at ") (decimal c.args.at) (codes "\n") c.push_str.new.self c.push_str-2.new.self c.push_number.new.out c.in_ok-push_str.ensures.ok c.in_ok-push_str-2.ensures.ok c.in_ok-push_number.ensures in
    subst (λ (text : List ℕ). OnOk c.push_str-3.result (c.push_str-3.new.self ≡ text)) all c.push_str-3.ensures.ok
