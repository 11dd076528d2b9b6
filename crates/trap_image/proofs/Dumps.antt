-- The image of a configuration, from its parts.
use Rattle.std.proofs.Common.{◌≡◌, ℕ, ◌+◌, List, [], ◌∷◌, ◌++◌, map, take, ap, subst, ◌∙◌, Option, Some, None}
use Rattle.std.specs.Prelude.{option_map, slice_get}
use Rattle.std.proofs.lemmas.List.{take_more, map-append}
use Rattle.std.proofs.lemmas.Option.{slice_get_within, get_or_from_slice_get}
use Rattle.linear_memory.specs.Memory.{Memory}
use Rattle.linear_memory.specs.calls.Paged.{Paged}
use Rattle.wasm_syntax.specs.declared.value.Value.{Value}
use Rattle.wasm_syntax.specs.Machine.{Config}
use Rattle.dump_write.specs.Image.{DumpFrame, frame_images, image, Dump as Image}
use Rattle.dump_write.specs.ImageBytes.{frame_of}
use Rattle.dump_write.specs.Pictured.{bytes_in}

shared_bytes : (m : Option Paged) (w : Option Memory) → option_map (λ m. m.memory) m ≡ w → bytes_in m ≡ option_map (λ m. m.bytes) w
shared_bytes None w e = ap (λ (o : Option Memory). option_map (λ m. m.bytes) o) e
shared_bytes (Some m) w e = ap (λ (o : Option Memory). option_map (λ m. m.bytes) o) e

-- what holds of the parts holds of the image
pub of_parts : (P : Image → Type 0) (c : Config) (name : List ℕ) (globals : List Value) (m : Option Paged) → globals ≡ c.world.globals → option_map (λ m. m.memory) m ≡ c.world.memory
    → P (record { name = name; frames = frame_images c.frames; globals = globals; memory = bytes_in m }) → P (image c name)
of_parts P c name globals m g e h =
    let memory = shared_bytes m c.world.memory e in
    let same : record { name = name; frames = frame_images c.frames; globals = globals; memory = bytes_in m } ≡ image c name =
    λ i. record { name = name; frames = frame_images c.frames; globals = g i; memory = memory i } in
    subst P same h

-- ---- the frames

-- the frame at an index behind those before it
pub frame_more : (xs : List DumpFrame) (i : ℕ) (x : DumpFrame) → slice_get xs i ≡ Some x → map frame_of (take (i + 1) xs) ≡ map frame_of (take i xs) ++ frame_of x ∷ []
frame_more xs i x there =
    ap (λ (ys : List DumpFrame). map frame_of ys) (take_more xs i x (slice_get_within xs i x there) ∙ ap (λ (y : DumpFrame). take i xs ++ y ∷ []) (get_or_from_slice_get xs i x x there))
    ∙ map-append frame_of (take i xs) (x ∷ [])
