-- The forms that version 5 adds (DWARF 5, 7.5.6), in front of those of version 4.
use Rattle.std.specs.Prelude.{[], ◌∷◌, ◌++◌}
use Rattle.dwarf_info.specs.declared.form.NumberForm.TheVariants.{Bytes, Leb}
use Rattle.dwarf_info.specs.declared.form.TextSection.TheVariants.{LineStr}
use Rattle.dwarf_info.specs.declared.form.IndexTable.TheVariants.{Texts, Addresses, LocationLists, RangeLists}
use Rattle.dwarf_info.specs.declared.form.Meaning.TheVariants.{TextIn, IndexOf}
use Rattle.dwarf_info.specs.declared.form.Form.TheVariants.{Number, Skipped}
use Rattle.dwarf_info.specs.Forms.{Rows, forms4}

abbrev pub added : Rows
added =
    (0x1a, Number Leb (IndexOf Texts))  -- strx
    ∷ (0x1b, Number Leb (IndexOf Addresses))  -- addrx
    ∷ (0x1e, Skipped 16)  -- data16
    ∷ (0x1f, Number (Bytes 4) (TextIn LineStr))  -- line_strp
    ∷ (0x22, Number Leb (IndexOf LocationLists))  -- loclistx
    ∷ (0x23, Number Leb (IndexOf RangeLists))  -- rnglistx
    ∷ (0x25, Number (Bytes 1) (IndexOf Texts))  -- strx1
    ∷ (0x26, Number (Bytes 2) (IndexOf Texts))  -- strx2
    ∷ (0x27, Number (Bytes 3) (IndexOf Texts))  -- strx3
    ∷ (0x28, Number (Bytes 4) (IndexOf Texts))  -- strx4
    ∷ (0x29, Number (Bytes 1) (IndexOf Addresses))  -- addrx1
    ∷ (0x2a, Number (Bytes 2) (IndexOf Addresses))  -- addrx2
    ∷ (0x2b, Number (Bytes 3) (IndexOf Addresses))  -- addrx3
    ∷ (0x2c, Number (Bytes 4) (IndexOf Addresses))  -- addrx4
    ∷ []

abbrev pub forms5 : Rows
forms5 = added ++ forms4
