-- The forms of version 4 (DWARF 4, 7.5.4), as one table. A version that adds forms adds rows.
use Rattle.std.specs.Prelude.{ℕ, List, [], ◌∷◌, Option, option_map, find, ◌==◌}
use Rattle.dwarf_info.specs.declared.form.NumberForm.TheVariants.{Bytes, Leb}
use Rattle.dwarf_info.specs.declared.form.TextSection.TheVariants.{Str}
use Rattle.dwarf_info.specs.declared.form.Meaning.TheVariants.{Address, Constant, Flag, Offset, TextIn, InUnit, InSection}
use Rattle.dwarf_info.specs.declared.form.Form.{Form}
use Rattle.dwarf_info.specs.declared.form.Form.TheVariants.{Number, Block, Text, Signed, Present, Skipped, Indirect}

-- the code of a form, and the form
abbrev pub Rows : Type 0
Rows = List (ℕ × Form)

abbrev pub forms4 : Rows
forms4 =
    (0x01, Number (Bytes 4) Address)  -- addr
    ∷ (0x03, Block (Bytes 2))  -- block2
    ∷ (0x04, Block (Bytes 4))  -- block4
    ∷ (0x05, Number (Bytes 2) Constant)  -- data2
    ∷ (0x06, Number (Bytes 4) Constant)  -- data4
    ∷ (0x07, Number (Bytes 8) Constant)  -- data8
    ∷ (0x08, Text)  -- string
    ∷ (0x09, Block Leb)  -- block
    ∷ (0x0a, Block (Bytes 1))  -- block1
    ∷ (0x0b, Number (Bytes 1) Constant)  -- data1
    ∷ (0x0c, Number (Bytes 1) Flag)  -- flag
    ∷ (0x0d, Signed)  -- sdata
    ∷ (0x0e, Number (Bytes 4) (TextIn Str))  -- strp
    ∷ (0x0f, Number Leb Constant)  -- udata
    ∷ (0x10, Number (Bytes 4) InSection)  -- ref_addr
    ∷ (0x11, Number (Bytes 1) InUnit)  -- ref1
    ∷ (0x12, Number (Bytes 2) InUnit)  -- ref2
    ∷ (0x13, Number (Bytes 4) InUnit)  -- ref4
    ∷ (0x14, Number (Bytes 8) InUnit)  -- ref8
    ∷ (0x15, Number Leb InUnit)  -- ref_udata
    ∷ (0x16, Indirect)  -- indirect
    ∷ (0x17, Number (Bytes 4) Offset)  -- sec_offset
    ∷ (0x18, Block Leb)  -- exprloc
    ∷ (0x19, Present)  -- flag_present
    ∷ (0x20, Skipped 8)  -- ref_sig8
    ∷ []

-- the form of a code, where it has one
abbrev pub form_of : Rows → ℕ → Option Form
form_of rows code = option_map (λ row. row.1) (find (λ row. row.0 == code) rows)
