-- The names of source files (DWARF 4 and 5, 6.2.4).
use Rattle.std.specs.Prelude.{ℕ, ◌-◌, ◌||◌, ◌==◌, Bool, nat_le, nat_eq, List, ◌++◌, slice_get, Option, Some, None, option_and_then, if◌then◌else◌, codes}
use Rattle.std.specs.List.{starts_with}
use Rattle.pm_text.specs.Names.{plain}
use Rattle.dwarf_line.specs.declared.lines.Lines.{Lines}
use Rattle.dwarf_line.specs.declared.lines.LineFile.{LineFile}

-- what stands at a number, where the first one has number `first`
abbrev pub numbered : {A : Type 0} → ℕ → List A → ℕ → Option A
numbered first xs n = if nat_le first n then slice_get xs (n - first) else None

-- The name is of the compilation's own directory, or begins at the root.
abbrev pub is_whole : LineFile → Bool
is_whole file = file.directory == 0 || starts_with nat_eq file.name (codes "/")

-- the directory that is written before a name
abbrev pub directory_before : Lines → LineFile → Option (List ℕ)
directory_before lines file = if is_whole file then None else numbered lines.first lines.directories file.directory

abbrev pub in_directory : List ℕ → Option (List ℕ) → List ℕ
in_directory name None = name
in_directory name (Some directory) = directory ++ codes "/" ++ name

abbrev pub path_text : Lines → LineFile → List ℕ
path_text lines file = plain (in_directory file.name (directory_before lines file))

abbrev pub path_or_mark : Lines → Option LineFile → List ℕ
path_or_mark lines (Some file) = path_text lines file
path_or_mark lines None = codes "?"

-- the file of a number; `?` where there is none
unfoldable pub file_text : Lines → Option ℕ → List ℕ
file_text lines number = path_or_mark lines (option_and_then (numbered lines.first lines.files) number)
