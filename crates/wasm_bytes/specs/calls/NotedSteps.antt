-- Reading a vector of values that may hold floats, one after another.
use Rattle.std.specs.Prelude.{List, []}
use Rattle.wasm_bytes.specs.Place.{Place, Read}
use Rattle.wasm_bytes.specs.Reading.{◌▷◌, mapped, u32_item, steps_from}
use Rattle.wasm_bytes.specs.Notes.{plain, with_noted}
use Rattle.wasm_bytes.specs.declared.noted.Noted.{Noted}

-- one more value
unfoldable pub noted_step : {A : Type 0} → (Place → Read (Noted A)) → Noted (List A) → Place → Read (Noted (List A))
noted_step item xs = mapped (with_noted xs) item

unfoldable pub noted_steps : {A : Type 0} → (Place → Read (Noted A)) → Place → Read (Noted (List A))
noted_steps item = u32_item ▷ λ count. steps_from (noted_step item) count (plain [])
