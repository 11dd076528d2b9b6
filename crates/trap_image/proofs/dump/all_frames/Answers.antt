use Rattle.std.proofs.Common.{List, [], ◌∷◌, ◌++◌, map, take, ap, sym, ◌∙◌, arith}
use Rattle.std.proofs.lemmas.List.{take_all}
use Rattle.dump_format.specs.declared.dump.Frame.{Frame}
use Rattle.dump_write.specs.Image.{DumpFrame, frame_images}
use Rattle.dump_write.specs.ImageBytes.{frame_of}
use Rattle.trap_image.proofs.Dumps.{frame_more}
use Rattle.trap_image.proofs.dump.all_frames.Goals as goal
use Rattle.dump_write.proofs.Images.{images_count}

pub loop-index-preserved : goal.loop-index-preserved
loop-index-preserved c = λ p d at.
    let xs = frame_images d.frames in
    let i = c.loop-index.index in
    c.in_ok-push.ensures.ok ∙ ap (λ (fs : List Frame). fs ++ c.in_ok-owned_frame.field-0 ∷ []) (c.loop-index.invariant p d at)
    ∙ ap (λ (f : Frame). map frame_of (take i xs) ++ f ∷ []) c.in_ok-owned_frame.ensures ∙ sym (frame_more xs i c.frame.result (c.frame.ensures p d at))

pub returns : goal.returns
returns c = λ p d at.
    c.loop-index.invariant p d at ∙ ap (λ (xs : List DumpFrame). map frame_of xs) (take_all c.loop-index.index (frame_images d.frames) (omega (arith, images_count d.frames, c.frame_count-index-end.ensures.stands p d at)))
