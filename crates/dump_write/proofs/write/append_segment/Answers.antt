use Rattle.std.proofs.Common.{◌≡◌, ℕ, List, ◌++◌, ap, subst, ◌∙◌}
use Rattle.pm_outside.specs.calls.Answers.{Appends, HasMore}
use Rattle.dump_format.specs.Region.{Region}
use Rattle.dump_write.specs.Spelled.{segment_head, segment_bytes}
use Rattle.pm_outside.specs.Written.{OnTold}
use Rattle.pm_outside.proofs.Leavings.{then_told, same_told, first_refused, second_answered}
use Rattle.dump_write.proofs.write.append_segment.Goals as goal

pub returns-in-Done-clause-content : goal.returns-in-Done-clause-content
returns-in-Done-clause-content g c =
    let answer = c.append-in-Done.result in
    let name = c.args.name.now in
    let head = c.deref.result.now in
    let body = c.segment.inside.bytes.now in
    let pieces : c.deref.result.now ++ c.segment.inside.bytes.now ≡ segment_bytes c.args.segment.now =
    ap (λ (bs : List ℕ). bs ++ c.segment.inside.bytes.now) (c.deref.ensures.value ∙ c.in-Ok.ensures) ∙ ap (λ (bs : List ℕ). segment_head c.args.segment.now ++ bs) (ap (λ (r : Region). r.bytes) c.segment.view_is)
    in
    subst (λ (bs : List ℕ). OnTold (Appends name bs answer) (g.F.Files.told c.args.files.now) (g.F.Files.told c.append-in-Done.new.self)) pieces
    (then_told (HasMore name head) (Appends name body answer) (Appends name (head ++ body) answer) (g.F.Files.told c.args.files.now) (g.F.Files.told c.append.new.self) (g.F.Files.told c.append-in-Done.new.self)
    (second_answered answer name head body) c.in-Done.ensures.content c.append-in-Done.ensures.content)

pub returns : goal.returns
returns g c =
    let answer = c.append.result in
    let name = c.args.name.now in
    let head = c.deref.result.now in
    let body = c.args.segment.now.bytes in
    let pieces : c.deref.result.now ++ c.args.segment.now.bytes ≡ segment_bytes c.args.segment.now = ap (λ (bs : List ℕ). bs ++ c.args.segment.now.bytes) (c.deref.ensures.value ∙ c.in-Ok.ensures) in
    record {
      content = subst (λ (bs : List ℕ). OnTold (Appends name bs answer) (g.F.Files.told c.args.files.now) (g.F.Files.told c.append.new.self)) pieces
          (same_told (Appends name head answer) (Appends name (head ++ body) answer) (g.F.Files.told c.args.files.now) (g.F.Files.told c.append.new.self) (λ o n. first_refused answer name head body o n c.in_default-append.not-Done) c.append.ensures.content);
      files = record { telling = c.append.ensures.telling; later = c.append.ensures.later };
      names = c.append.ensures.names;
      failed = c.append.ensures.failed;
    }
