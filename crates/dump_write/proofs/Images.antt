-- The frames of an image.
use Rattle.std.proofs.Common.{◌≡◌, suc, List, [], ◌∷◌, length, refl, ap}
use Rattle.std.proofs.lemmas.List.{length-map}
use Rattle.wasm_syntax.specs.Machine.{Frame}
use Rattle.dump_write.specs.Image.{frame_image, frame_images}

pub images_count : (fs : List Frame) → length (frame_images fs) ≡ length fs
images_count [] = refl
images_count (f ∷ fs) = ap suc (length-map fs (λ g. frame_image g.call g))
