use Rattle.std.proofs.Common.{◌≡◌}
use Rattle.dump_write.specs.Pictured.{Pictures, bytes_in}
use Rattle.dump_write.specs.Canonical.{canonical_bytes}
use Rattle.dump_write.specs.ImageBytes.{bytes_of}
use Rattle.host_collector.proofs.Faults.{gives_dump, of_image}
use Rattle.host_collector.proofs.closing.collected_dump.Goals as goal

pub returns-clause-pictures : goal.returns-clause-pictures
returns-clause-pictures c held w there =
    let g = gives_dump c.args.calls.now w c.in_ok-frames.field-0 (bytes_in held) c.args.name.now c.in_ok-frames.ensures in
    of_image (λ i d. Pictures i d) _ _ _ g.dump_is (c.picture.ensures.pictures held _ there g.frames_are)

pub returns-clause-bytes : goal.returns-clause-bytes
returns-clause-bytes c held w there =
    let g = gives_dump c.args.calls.now w c.in_ok-frames.field-0 (bytes_in held) c.args.name.now c.in_ok-frames.ensures in
    of_image (λ i d. canonical_bytes d ≡ bytes_of i) _ _ _ g.dump_is (c.picture.ensures.bytes held _ there g.frames_are)
