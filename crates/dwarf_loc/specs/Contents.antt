-- What the entries of lists hold.
use Rattle.std.specs.Prelude.{ℕ, List}
use Rattle.wasm_bytes.specs.Place.{Place, Read}
use Rattle.wasm_bytes.specs.Reading.{◌▷◌, mapped, done_item, here_item, run_item}
use Rattle.dwarf_loc.specs.declared.contents.Span.{Span}

abbrev pub span_of : ℕ → ℕ → List ℕ → Span
span_of at len bytes = record { at = at; len = len }

-- the place of so many bytes
unfoldable pub span_item : ℕ → Place → Read Span
span_item len = here_item ▷ λ at. mapped (span_of at len) (run_item len)

-- nothing is held
abbrev pub nothing_item : Place → Read (Unit {0})
nothing_item = done_item tt
