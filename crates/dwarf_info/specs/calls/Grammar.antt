-- The bytes that spell units (DWARF 4, 7.5.1 to 7.5.4): each is the spelling of a tree of entries.
use Rattle.std.specs.Prelude.{◌≡◌, ◌<◌, ◌⊎◌, ℕ, true, false, Bool, List, [], ◌∷◌, ◌++◌, length, Some, codes}
use Rattle.std.specs.List.{list_all}
use Rattle.wasm_bytes.specs.calls.Spelling.{Spellings, ◌&◌, image, only, nothing, text, run, any, u64, s64}
use Rattle.dwarf_bytes.specs.Items.{is_zero}
use Rattle.dwarf_bytes.specs.calls.Spelled.{never, meaning, each, number, unit_sized, StandsAt}
use Rattle.dwarf_bytes.specs.calls.Spelled.{ended_text}
use Rattle.dwarf_info.specs.declared.form.NumberForm.{NumberForm}
use Rattle.dwarf_info.specs.declared.form.NumberForm.TheVariants.{Bytes, Leb}
use Rattle.dwarf_info.specs.declared.form.Form.{Form}
use Rattle.dwarf_info.specs.declared.form.Form.TheVariants as form
use Rattle.dwarf_info.specs.declared.form.Slot.{Slot}
use Rattle.dwarf_info.specs.declared.form.Shape.{Shape}
use Rattle.dwarf_info.specs.declared.entry.AttrValue.{AttrValue}
use Rattle.dwarf_info.specs.declared.entry.AttrValue.TheVariants as value
use Rattle.dwarf_info.specs.declared.entry.Attribute.{Attribute}
use Rattle.dwarf_info.specs.declared.entry.Unit.{Unit as UnitTree}
use Rattle.dwarf_info.specs.declared.entry.UnitAnswer.{UnitAnswer}
use Rattle.dwarf_info.specs.declared.entry.UnitAnswer.TheVariants.{Tree as TreeOf, Unreadable}
use Rattle.dwarf_info.specs.Sections.{SectionBytes5}
use Rattle.dwarf_info.specs.Forms.{form_of}
use Rattle.dwarf_info.specs.Values.{Context, meant}
use Rattle.dwarf_info.specs.Entries.{shape_of}
use Rattle.dwarf_info.specs.calls.Trees.{Siblings, none, entry, Tree, written}
use Rattle.dwarf_info.specs.Units.{Version, Versions, context, unsettled, settled}

-- ---- values, by form

abbrev pub width : NumberForm → ℕ → Spellings
width (Bytes n) = number n
width Leb = u64

-- a number of bytes, and as many bytes
abbrev pub block : NumberForm → List ℕ → Spellings
block w bytes = width w (length bytes) & text bytes

abbrev pub plain : Context → Form → AttrValue → Spellings
plain c (form.Number w m) = meaning (meant c m) (width w)
plain c (form.Block w) = image value.Block (block w)
plain c form.Text = image value.Text ended_text
plain c form.Signed = image value.Signed s64
plain c form.Present = only (value.Flag true)
plain c (form.Skipped n) = image (λ bytes. value.Other) (run n)
plain c (form.Implicit z) = only (value.Signed z)
plain c form.Indirect = never

-- a form, and a value in that form, which is not indirect again
abbrev pub named : Context → AttrValue → Spellings
named c v = λ at bytes. (code : ℕ) × (f : Form) × (form_of c.rows code ≡ Some f) × (u64 code & plain c f v) at bytes

abbrev pub value_in : Context → Form → AttrValue → Spellings
value_in c form.Indirect = named c
value_in c f = plain c f

abbrev pub attribute : Context → Slot → Attribute → Spellings
attribute c s a = λ at bytes. (f : Form) × (s.form ≡ Some f) × (a.name ≡ s.attribute) × value_in c f a.value at bytes

-- ---- entries

-- the children of an entry whose abbreviation says whether it has a list of them; a null entry ends the list
abbrev pub children_if : Bool → Siblings → Spellings → Spellings
children_if true children S = S & u64 0
children_if false children S = λ at bytes. (children ≡ none) × (bytes ≡ [])

-- The code of an abbreviation, the attributes that it lists, and the children.
abbrev pub entry_with : Context → ℕ → ℕ → List Attribute → Siblings → Spellings → Spellings
entry_with c at tag attributes children S = λ o bytes.
    (code : ℕ) × (shape : Shape) × (at ≡ o) × (code ≡ 0 → ⊥) × (shape_of c.table code ≡ Some shape) × (tag ≡ shape.tag)
    × (u64 code & each (attribute c) shape.slots attributes & children_if shape.children children S) o bytes

abbrev pub siblings : Context → Siblings → Spellings
siblings c none = nothing
siblings c (entry at tag attributes children rest) = entry_with c at tag attributes children (siblings c children) & siblings c rest

abbrev pub tree : Context → Tree → Spellings
tree c t = entry_with c t.at t.tag t.attributes t.children (siblings c t.children)

-- ---- units

-- The versions that are read, and how their headers and abbreviations are spelled.
pub record Grammars : Type 1 where
  pub versions : Versions
  pub header : (version : ℕ) → ℕ → Spellings
  pub shapes : (version : ℕ) → List Shape → Spellings

abbrev pub zeros : Spellings
zeros at bytes = list_all is_zero bytes ≡ true

abbrev pub both : Spellings → Spellings → Spellings
both S T at bytes = S at bytes × T at bytes

-- What stands behind the version: a header, which names a table of abbreviations, and the tree. What an index stands for is found by
-- attributes of the root, as they are where no index is looked up: the same bytes spell that tree too.
abbrev pub body : SectionBytes5 → Grammars → Version → UnitTree → Spellings
body s g v u = λ at bytes.
    (offset : ℕ) × (table : List Shape) × (bare : Tree) × (t : Tree)
    × StandsAt (g.shapes u.version) table s.base.abbreviations offset
    × (u.entries ≡ written t)
    × (g.header u.version offset
    & both (tree (context s v u.at table unsettled) bare) (tree (context s v u.at table (v.index s bare.attributes)) t)
    & zeros) at bytes

abbrev pub unit : SectionBytes5 → Grammars → UnitTree → Spellings
unit s g u = λ at bytes.
    (v : Version) × (g.versions u.version ≡ Some v) × (u.at ≡ at) × unit_sized (number 2 u.version & body s g v u) at bytes

-- ---- all units

-- A unit, or a length without a unit.
abbrev pub answer : SectionBytes5 → Grammars → UnitAnswer → Spellings
answer s g (TreeOf u) = unit s g u
answer s g (Unreadable section o) = λ at bytes.
    (section ≡ codes ".debug_info") × (o ≡ at) × unit_sized any at bytes × ((u : UnitTree) → unit s g u at bytes → ⊥)

-- No length stands there whose block ends inside the section.
abbrev pub no_length : Spellings
no_length at bytes = (0 < length bytes) × ((front rest : List ℕ) → bytes ≡ front ++ rest → unit_sized any at front → ⊥)

-- One after another up to the end. Where a length has no reading, the rest is one unit.
abbrev pub answers : SectionBytes5 → Grammars → List UnitAnswer → Spellings
answers s g [] = nothing
answers s g (a ∷ more) = λ at bytes.
    (answer s g a & answers s g more) at bytes
    ⊎ ((a ≡ Unreadable (codes ".debug_info") at) × (more ≡ []) × no_length at bytes)

-- The section spells these units, in which each reference meets an entry of one of them.
abbrev pub IsUnits : SectionBytes5 → Grammars → List UnitAnswer → Type 0
IsUnits s g units = (spelled : List UnitAnswer) × answers s g spelled 0 s.base.info × (units ≡ settled spelled)
