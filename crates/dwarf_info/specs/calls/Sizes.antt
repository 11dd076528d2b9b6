-- The sizes of numbers: at most 8 bytes, and 4 where they are addresses or offsets in sections.
use Rattle.std.specs.Prelude.{◌≡◌, ◌≤◌, ◌<◌, ◌^◌, ℕ}
use Rattle.dwarf_info.specs.declared.form.NumberForm.{NumberForm}
use Rattle.dwarf_info.specs.declared.form.NumberForm.TheVariants.{Bytes, Leb}
use Rattle.dwarf_info.specs.declared.form.Meaning.{Meaning}
use Rattle.dwarf_info.specs.declared.form.Meaning.TheVariants as means
use Rattle.dwarf_info.specs.declared.form.Form.{Form}
use Rattle.dwarf_info.specs.declared.form.Form.TheVariants as form

abbrev pub IsWidth : NumberForm → Type 0
IsWidth (Bytes n) = n ≤ 8
IsWidth Leb = Unit {0}

abbrev pub IsWord : NumberForm → Type 0
IsWord (Bytes n) = n ≡ 4
IsWord Leb = ⊥

-- A number of that width is one of that meaning.
abbrev pub IsNumber : NumberForm → Meaning → Type 0
IsNumber width means.Address = IsWord width
IsNumber width means.Offset = IsWord width
IsNumber width meaning = IsWidth width

abbrev pub IsSized : Form → Type 0
IsSized (form.Number width meaning) = IsNumber width meaning
IsSized (form.Block width) = IsWidth width
IsSized f = Unit {0}

-- The number has the size of its meaning.
abbrev pub Fits : Meaning → ℕ → Type 0
Fits means.Address n = n < 2 ^ 32
Fits means.Offset n = n < 2 ^ 32
Fits meaning n = Unit {0}
