-- A table of pages, each absent or of 65,536 bytes, as one list of bytes.
use Rattle.std.specs.Prelude.{◌≡◌, ℕ, List, [], ◌∷◌, ◌++◌, length, replicate, Option, Some, None, ⊤}
use Rattle.linear_memory.specs.declared.raw.RawPage.{RawPage}

-- what an absent page reads as
unfoldable pub zeros : List ℕ
zeros = replicate 65536 0

abbrev pub page_bytes : Option (List ℕ) → List ℕ
page_bytes None = zeros
page_bytes (Some bytes) = bytes

abbrev pub contents : List (Option (List ℕ)) → List ℕ
contents [] = []
contents (page ∷ pages) = page_bytes page ++ contents pages

abbrev pub IsWhole : Option (List ℕ) → Type 0
IsWhole None = ⊤
IsWhole (Some bytes) = length bytes ≡ 65536

abbrev pub AllWhole : List (Option (List ℕ)) → Type 0
AllWhole [] = ⊤
AllWhole (page ∷ pages) = IsWhole page × AllWhole pages

-- what lies behind a page's pointer
abbrev pub bytes_behind : Option RawPage → Option (List ℕ)
bytes_behind None = None
bytes_behind (Some page) = Some page.bytes
