-- Reading values while their first float is noted.
use Rattle.std.specs.Prelude.{ℕ, List, Some}
use Rattle.wasm_syntax.specs.declared.value.Seen.{Seen}
use Rattle.wasm_syntax.specs.declared.value.Seen.TheVariants as seen
use Rattle.wasm_syntax.specs.declared.value.Value.{Value}
use Rattle.wasm_syntax.specs.declared.value.Value.TheVariants as value
use Rattle.wasm_bytes.specs.Place.{Place, Read}
use Rattle.wasm_bytes.specs.Reading.{◌▷◌, mapped}
use Rattle.wasm_bytes.specs.Notes.{plain, noted_both, noted_vector_item}
use Rattle.wasm_bytes.specs.declared.noted.Noted.{Noted}
use Rattle.dump_format.specs.declared.dump.Frame.{Frame}
use Rattle.dump_format.specs.Parts.{Shown, known, float}
use Rattle.dump_format.specs.Form.{value_item, global_item, place_item, thread_item}

-- what stands in the place of a float at that offset
abbrev pub in_place_of : {A : Type 0} → A → ℕ → Noted A
in_place_of absent at = record { value = absent; float = Some at }

-- a value, or the one that stands in the place of a float
abbrev pub or_noted : {A : Type 0} → A → Shown A → Noted A
or_noted absent (known x) = plain x
or_noted absent (float at) = in_place_of absent at

unfoldable pub seen_noting : Place → Read (Noted Seen)
seen_noting = mapped (or_noted seen.Missing) value_item

unfoldable pub value_noting : Place → Read (Noted Value)
value_noting = mapped (or_noted (value.I32 0)) global_item

abbrev pub whole_frame : Unit {0} × (ℕ × (ℕ × ℕ)) → List Seen → List Seen → Frame
whole_frame place locals operands = record { instance = place.1.0; function = place.1.1.0; offset = place.1.1.1; locals = locals; operands = operands }

unfoldable pub frame_noting : Place → Read (Noted Frame)
frame_noting =
    place_item ▷ λ place. noted_vector_item seen_noting ▷ λ locals. mapped (λ operands. noted_both (whole_frame place) locals operands) (noted_vector_item seen_noting)

unfoldable pub stack_noting : Place → Read (Noted (List Frame))
stack_noting = thread_item ▷ λ thread. noted_vector_item frame_noting
