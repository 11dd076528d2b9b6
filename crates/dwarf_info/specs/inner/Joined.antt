-- The attributes of an entry: what stands in its abbreviation, and what stands in its own bytes.
use Rattle.std.specs.Prelude.{◌≡◌, ◌==◌, ℕ, suc, Bool, true, List, [], ◌∷◌, length, filter, slice_get, Option, Some, None, is_none, if◌then◌else◌}
use Rattle.dwarf_info.specs.declared.form.Form.{Form}
use Rattle.dwarf_info.specs.declared.form.Form.TheVariants as form
use Rattle.dwarf_info.specs.declared.form.Slot.{Slot}
use Rattle.dwarf_info.specs.declared.slots.SlotPlace.{SlotPlace}
use Rattle.dwarf_info.specs.declared.slots.SlotPlace.TheVariants as place
use Rattle.dwarf_info.specs.declared.entry.AttrValue.{AttrValue}
use Rattle.dwarf_info.specs.declared.entry.AttrValue.TheVariants as value
use Rattle.dwarf_info.specs.declared.entry.Attribute.{Attribute}
use Rattle.dwarf_info.specs.Values.{attribute_of}

-- the value in a form without bytes, which stands in the abbreviation
abbrev pub fixed : Option Form → Option AttrValue
fixed (Some form.Present) = Some (value.Flag true)
fixed (Some (form.Implicit z)) = Some (value.Signed z)
fixed f = None

-- A slot takes bytes of the entry.
abbrev pub takes_bytes : Slot → Bool
takes_bytes s = is_none (fixed s.form)

abbrev pub own_slots : List Slot → List Slot
own_slots slots = filter takes_bytes slots

-- a slot with its value, in front of what stands behind it
abbrev pub joined_one : Slot → Option AttrValue → (List AttrValue → List Attribute) → List AttrValue → List Attribute
joined_one s (Some v) more own = attribute_of s v ∷ more own
joined_one s None more (v ∷ own) = attribute_of s v ∷ more own
joined_one s None more [] = []

-- each slot with what is fixed, or else with the next one of these values
abbrev pub joined : List Slot → List AttrValue → List Attribute
joined [] own = []
joined (s ∷ slots) own = joined_one s (fixed s.form) (joined slots) own

-- ---- where the first slot of an attribute stands

-- of a slot, behind so many that take bytes
abbrev pub held : Option Form → ℕ → SlotPlace
held (Some form.Present) n = place.Present
held (Some (form.Implicit z)) n = place.Implicit z
held f n = place.Own n

abbrev pub counted : Slot → ℕ → ℕ
counted s n = if takes_bytes s then suc n else n

abbrev pub placed_in : ℕ → List Slot → ℕ → Option SlotPlace
placed_in name [] n = None
placed_in name (s ∷ slots) n = if s.attribute == name then Some (held s.form n) else placed_in name slots (counted s n)

-- the value of a place, among those of an entry
abbrev pub value_at : List AttrValue → SlotPlace → Option AttrValue
value_at own place.Present = Some (value.Flag true)
value_at own (place.Implicit z) = Some (value.Signed z)
value_at own (place.Own n) = slice_get own n

-- Each slot that takes bytes has its value.
abbrev pub AreOwn : List Slot → List AttrValue → Type 0
AreOwn slots own = length own ≡ length (own_slots slots)
