-- The directories and files of a line header of version 5 (DWARF 5 section 6.2.4, items 13 to 20, and section 6.2.4.1).
use Rattle.std.specs.Prelude.{ℕ, List, [], ◌∷◌, map, option_map, find, Option, Some, None, Bool, true, ◌==◌, if◌then◌else◌}
use Rattle.wasm_bytes.specs.Place.{Place, Read}
use Rattle.wasm_bytes.specs.Reading.{◌▷◌, ◌⊗◌, mapped, checked, u64_item, items_from}
use Rattle.dwarf_bytes.specs.Items.{number_item, text_item, each_item, read_at}
use Rattle.dwarf_bytes.specs.Format.{Format, made, unread, unsigned, number, run, text, read}
use Rattle.dwarf_line.specs.declared.lines.LineFile.{LineFile}
use Rattle.dwarf_line.specs.declared.header.Tables.{Tables}
use Rattle.dwarf5_line.specs.declared.entries.Pair.{Pair}
use Rattle.dwarf5_line.specs.declared.entries.FormContent.{FormContent}
use Rattle.dwarf5_line.specs.declared.entries.FormContent.TheVariants.{Number, Text, Unused}

-- the sections that texts of a line header stand in
pub record Texts : Type 0 where
  pub str : List ℕ
  pub line_str : List ℕ

-- a text, if there is one
abbrev pub text_or_unread : Option (List ℕ) → Format FormContent
text_or_unread (Some t) = made (Text t)
text_or_unread None = unread

-- the offset of a text in a section
abbrev pub text_in : List ℕ → Format FormContent
text_in section = number 4 (λ at. text_or_unread (read_at text_item section at))

abbrev pub number_of : ℕ → Format FormContent
number_of width = number width (λ n. made (Number n))

-- data2, data4, data8, string, block, data1, strp, udata, data16 and line_strp (7.5.6)
abbrev pub content : Texts → ℕ → Format FormContent
content texts form =
    if form == 0x05 then number_of 2
    else (if form == 0x06 then number_of 4
    else (if form == 0x07 then number_of 8
    else (if form == 0x08 then text (λ t. made (Text t))
    else (if form == 0x09 then unsigned (λ n. run n (λ bytes. made Unused))
    else (if form == 0x0b then number_of 1
    else (if form == 0x0e then text_in texts.str
    else (if form == 0x0f then unsigned (λ n. made (Number n))
    else (if form == 0x1e then run 16 (λ bytes. made Unused)
    else (if form == 0x1f then text_in texts.line_str
    else unread)))))))))

-- ---- entries

-- a content type and its form
abbrev pub pair : Format Pair
pair = unsigned (λ kind. unsigned (λ form. made (record { kind = kind; form = form })))

-- what an entry says of a content type
pub record Described : Type 0 where
  pub kind : ℕ
  pub content : FormContent

abbrev pub describes : ℕ → FormContent → Described
describes kind c = record { kind = kind; content = c }

abbrev pub described_item : Texts → Pair → Place → Read Described
described_item texts p = mapped (describes p.kind) (read (content texts p.form))

-- Of a content type twice, the first counts.
abbrev pub content_of : ℕ → List Described → Option FormContent
content_of kind xs = option_map (λ (x : Described). x.content) (find (λ (x : Described). x.kind == kind) xs)

abbrev pub path_of : Option FormContent → List ℕ
path_of (Some (Text t)) = t
path_of _ = []

abbrev pub directory_of : Option FormContent → ℕ
directory_of (Some (Number n)) = n
directory_of _ = 0

-- DW_LNCT_path and DW_LNCT_directory_index; the time, the length and the checksum of a file are not used
abbrev pub file_of : List Described → LineFile
file_of xs = record { name = path_of (content_of 1 xs); directory = directory_of (content_of 2 xs) }

-- one value for each pair, in order
unfoldable pub entry_item : Texts → List Pair → Place → Read LineFile
entry_item texts pairs = mapped file_of (each_item (described_item texts) pairs)

-- ---- tables

-- Without pairs there are no entries: "If this field is zero, then the directories_count field must also be zero", and the
-- same of files.
abbrev pub may_count : List Pair → ℕ → Bool
may_count [] count = count == 0
may_count (p ∷ pairs) count = true

unfoldable pub counted_item : Texts → List Pair → Place → Read (List LineFile)
counted_item texts pairs = checked (may_count pairs) u64_item ▷ items_from (entry_item texts pairs)

-- a count of pairs in one byte, the pairs, a count of entries, and the entries
unfoldable pub pairs_item : Place → Read (List Pair)
pairs_item = number_item 1 ▷ items_from (read pair)

unfoldable pub entries_item : Texts → Place → Read (List LineFile)
entries_item texts = pairs_item ▷ counted_item texts

abbrev pub name_of : LineFile → List ℕ
name_of f = f.name

abbrev pub tables_of : List LineFile × List LineFile → Tables
tables_of x = record { directories = map name_of x.0; files = x.1 }

-- directories, and then files
unfoldable pub tables_item : Texts → Place → Read Tables
tables_item texts = mapped tables_of (entries_item texts ⊗ entries_item texts)
