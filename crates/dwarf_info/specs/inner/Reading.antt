-- The values of attributes that take bytes.
use Rattle.std.specs.Prelude.{List, option_map}
use Rattle.wasm_bytes.specs.Place.{Place, Read}
use Rattle.dwarf_bytes.specs.Items.{item_or_none, each_item}
use Rattle.dwarf_info.specs.declared.form.Slot.{Slot}
use Rattle.dwarf_info.specs.declared.entry.AttrValue.{AttrValue}
use Rattle.dwarf_info.specs.Values.{Context, value_item}

-- the value of an attribute
abbrev pub slot_value : Context → Slot → Place → Read AttrValue
slot_value c slot = item_or_none (option_map (value_item c) slot.form)

unfoldable pub own_item : Context → List Slot → Place → Read (List AttrValue)
own_item c = each_item (slot_value c)
