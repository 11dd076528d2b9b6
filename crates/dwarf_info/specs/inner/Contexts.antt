-- What an index stands for, before and behind the look at the root.
use Rattle.std.specs.Prelude.{◌≡◌, ℕ, List, Option, Some, None, Result, Ok, Err}
use Rattle.wasm_bytes.specs.declared.faults.ItemFault.{ItemFault}
use Rattle.wasm_bytes.specs.Place.{Place}
use Rattle.wasm_bytes.specs.calls.Answers.{Fails}
use Rattle.dwarf_abbrev.specs.calls.Shared.{list_of}
use Rattle.dwarf_info.specs.declared.form.Shape.{Shape}
use Rattle.dwarf_info.specs.declared.growing.Growing.{Growing}
use Rattle.dwarf_info.specs.Sections.{SectionBytes5}
use Rattle.dwarf_info.specs.declared.context.UnitContext.{UnitContext}
use Rattle.dwarf_info.specs.Values.{Context}
use Rattle.dwarf_info.specs.Entries.{seed, step_item, root_attributes}
use Rattle.dwarf_info.specs.declared.form.IndexTable.{IndexTable}
use Rattle.dwarf_info.specs.declared.entry.AttrValue.{AttrValue}
use Rattle.dwarf_info.specs.Units.{Version, unsettled, context}

-- No index is looked up.
abbrev pub no_index : IndexTable → ℕ → Option AttrValue
no_index table n = None

abbrev pub looked_up : {I : Type 0} → (I → IndexTable → ℕ → Option AttrValue) → Option I → IndexTable → ℕ → Option AttrValue
looked_up look None = unsettled
looked_up look (Some index) = look index

-- What the indices of a unit are looked up by is found where its root is read with indices not looked up.
abbrev pub IsIndex : {I : Type 0} → Version → (SectionBytes5 → I → IndexTable → ℕ → Option AttrValue) → SectionBytes5 → ℕ → List Shape → Place → Result I ItemFault → Type 0
IsIndex v look s origin table p (Ok index) = (root : Growing) × (q : Place) × (step_item (context s v origin table unsettled) seed p ≡ Ok (root, q)) × (look s index ≡ v.index s (root_attributes root.entries))
IsIndex v look s origin table p (Err e) = Fails e (step_item (context s v origin table unsettled) seed p)

-- what entries are read by, as the definitions have it
abbrev pub seen : {I : Type 0} → Version → (SectionBytes5 → I → IndexTable → ℕ → Option AttrValue) → UnitContext I → Context
seen v look c = context c.sections.now v c.origin (list_of c.tables.now c.table) (looked_up (look c.sections.now) c.index)
