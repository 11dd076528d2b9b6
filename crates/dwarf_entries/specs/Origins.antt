-- Names and types, which may stand in another entry (DWARF 4, 2.13 and 3.3.8).
use Rattle.std.specs.Prelude.{ℕ, zero, suc, List, [], Option, option_map, option_and_then, unwrap_or}
use Rattle.std.specs.Option.{option_or}
use Rattle.dwarf_info.specs.declared.entry.Attribute.{Attribute}
use Rattle.dwarf_info.specs.declared.entry.UnitAnswer.{UnitAnswer}
use Rattle.dwarf_info.specs.Attributes.{valued, as_text, as_reference, name, abstract_origin, specification}
use Rattle.dwarf_entries.specs.Names.{at_type}
use Rattle.dwarf_entries.specs.Standing.{Standing, standing_at}

-- the attributes of the entry that this one completes or instantiates: abstract_origin comes before specification
abbrev pub origin : List UnitAnswer → List Attribute → Option (List Attribute)
origin units es =
    option_map (λ s. s.entry.attributes)
    (option_and_then (standing_at units) (option_or (valued as_reference abstract_origin es) (valued as_reference specification es)))

-- what an entry says, or the first one behind it that says it, at most so many further
abbrev pub through : {A : Type 0} → List UnitAnswer → (List Attribute → Option A) → ℕ → List Attribute → Option A
through units says zero es = says es
through units says (suc n) es = option_or (says es) (option_and_then (through units says n) (origin units es))

-- at most so many entries follow each other
abbrev pub longest_chain : ℕ
longest_chain = 16

abbrev pub own_name : List Attribute → Option (List ℕ)
own_name es = valued as_text name es

abbrev pub own_type : List Attribute → Option ℕ
own_type es = valued as_reference at_type es

-- a name, of an entry with these attributes
unfoldable pub name_of : List UnitAnswer → List Attribute → Option (List ℕ)
name_of units es = through units own_name longest_chain es

-- the empty name, where it has none
abbrev pub name_or_empty : List UnitAnswer → List Attribute → List ℕ
name_or_empty units es = unwrap_or (name_of units es) []

-- the entry of its type
unfoldable pub type_entry : List UnitAnswer → List Attribute → Option Standing
type_entry units es = option_and_then (standing_at units) (through units own_type longest_chain es)
