-- A frame of a dump at an index.
use Rattle.std.proofs.Common.{◌≡◌, ℕ, ◌<◌, List, length, get_or, slice_get, Some, refl, sym, subst}
use Rattle.std.proofs.lemmas.Option.{slice_get_read}
use Rattle.dump_format.specs.declared.dump.Frame.{Frame}

pub frame_at : (slice frames : List Frame) (i : ℕ) (f : Frame) → slice ≡ frames → i < length frames → f ≡ get_or slice i f → slice_get frames i ≡ Some f
frame_at slice frames i f e lt is =
    let lt' : i < length slice = subst (λ xs. i < length xs) (sym e) lt in
    subst (λ xs. slice_get xs i ≡ Some f) e (slice_get_read slice (length slice) i f refl lt' is)
