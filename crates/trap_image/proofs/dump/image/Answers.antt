use Rattle.std.proofs.Common.{◌≡◌, ◌∙◌, refl}
use Rattle.dump_write.specs.Canonical.{canonical_bytes}
use Rattle.dump_write.specs.Image.{frame_images}
use Rattle.dump_write.specs.ImageBytes.{bytes_of}
use Rattle.dump_write.specs.Pictured.{Pictures}
use Rattle.trap_image.proofs.Dumps.{of_parts}
use Rattle.trap_image.proofs.dump.image.Goals as goal

pub returns-clause-image : goal.returns-clause-image
returns-clause-image c p d at =
    of_parts (λ i. Pictures i c.in_ok-dump.dump) d c.args.name.now c.in_ok-globals.globals _ (c.in_ok-globals.ensures ∙ c.globals.ensures.stands p d at) (c.memory-memory.ensures.stands p d at)
    (c.in_ok-dump.ensures.pictures _ (frame_images d.frames) refl (c.in_ok-frames.ensures p d at))

pub returns-clause-bytes : goal.returns-clause-bytes
returns-clause-bytes c p d at =
    of_parts (λ i. canonical_bytes c.in_ok-dump.dump ≡ bytes_of i) d c.args.name.now c.in_ok-globals.globals _ (c.in_ok-globals.ensures ∙ c.globals.ensures.stands p d at) (c.memory-memory.ensures.stands p d at)
    (c.in_ok-dump.ensures.bytes _ (frame_images d.frames) refl (c.in_ok-frames.ensures p d at))
