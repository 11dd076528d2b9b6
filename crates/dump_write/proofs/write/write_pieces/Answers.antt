use Rattle.std.proofs.Common.{ℕ, ◌+◌, List, [], ◌++◌, take, drop, refl, subst, ◌∙◌, arith}
use Rattle.std.specs.List.{flat_map}
use Rattle.pm_outside.specs.calls.Answers.{Appends, HasMore}
use Rattle.dump_write.specs.Spelled.{segment_bytes}
use Rattle.dump_write.specs.inner.Pieces.{pages_bytes}
use Rattle.pm_outside.specs.Written.{OnTold, HasFile, Leaves}
use Rattle.dump_write.proofs.Lists.{one_more, split_at}
use Rattle.pm_outside.proofs.Leavings.{then_told, piece_refused, file_more}
use Rattle.dump_write.proofs.write.write_pieces.Goals as goal

pub returns-in_default-append-clause-content : goal.returns-in_default-append-clause-content
returns-in_default-append-clause-content g c =
    let name = c.args.name.now in
    let head = c.args.head.now in
    let rest = pages_bytes c.args.segments.now in
    let answer = c.append.result in
    then_told (HasFile name []) (Appends name head answer) (Leaves name (head ++ rest) answer) (g.F.Files.told c.args.files.now) (g.F.Files.told c.create.new.self) (g.F.Files.told c.append.new.self)
    (λ o m n. piece_refused answer name [] head rest (head ++ rest) o m n c.in_default-append.not-Done refl) c.in-Done.ensures.content c.append.ensures.content

pub returns-in_default-append_segment-clause-content : goal.returns-in_default-append_segment-clause-content
returns-in_default-append_segment-clause-content g c =
    let name = c.args.name.now in
    let all = c.args.segments.now in
    let i = c.loop-segment.segment-index in
    let r = c.segment-item.result in
    let start = c.args.head.now in
    let front = start ++ flat_map segment_bytes (take i all) in
    let rest = flat_map segment_bytes (drop (i + 1) all) in
    let answer = c.append_segment.result in
    then_told (HasFile name front) (Appends name (segment_bytes r) answer) (Leaves name (start ++ pages_bytes all) answer) (g.F.Files.told c.args.files.now) (g.F.Files.told c.loop-segment.files) (g.F.Files.told c.append_segment.new.files)
    (λ o m n. piece_refused answer name front (segment_bytes r) rest (start ++ pages_bytes all) o m n c.in_default-append_segment.not-Done (split_at segment_bytes all i r start c.loop-segment-test.true c.segment-item.is))
    c.loop-segment.invariant.file c.append_segment.ensures.content

pub loop-segment-preserved : goal.loop-segment-preserved
loop-segment-preserved g c =
    let name = c.args.name.now in
    let all = c.args.segments.now in
    let i = c.loop-segment.segment-index in
    let r = c.segment-item.result in
    let start = c.args.head.now in
    let front = start ++ flat_map segment_bytes (take i all) in
    let grown = one_more segment_bytes all i r start front (front ++ segment_bytes r) c.loop-segment-test.true c.segment-item.is refl refl in
    let known = c.loop-segment.invariant in
    let done = c.in-Done-append_segment.ensures in
    record {
      file = subst (λ (bs : List ℕ). OnTold (HasFile name bs) (g.F.Files.told c.args.files.now) (g.F.Files.told c.append_segment.new.files)) grown
          (then_told (HasFile name front) (HasMore name (segment_bytes r)) (HasFile name (front ++ segment_bytes r)) (g.F.Files.told c.args.files.now) (g.F.Files.told c.loop-segment.files) (g.F.Files.told c.append_segment.new.files)
          (file_more name front (segment_bytes r)) known.file done.content);
      telling = done.files.telling ∙ known.telling;
      named = rw done.names known.named;
      names = done.names ∙ known.names;
      later = omega (arith, done.files.later, known.later);
    }
