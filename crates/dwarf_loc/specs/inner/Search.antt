-- What a list says of an address, entry by entry.
use Rattle.std.specs.Prelude.{ℕ, ◌+◌, List, Option, Some, None, find, if◌then◌else◌}
use Rattle.dwarf_loc.specs.declared.entry.ListEntry.{ListEntry}
use Rattle.dwarf_loc.specs.declared.entry.ListEntry.TheVariants.{Base, FromBase, Between, Lasting, Otherwise}
use Rattle.dwarf_loc.specs.declared.search.Search.{Search}
use Rattle.dwarf_loc.specs.Lists.{held, held_by, holds, defaults, first_or}
use Rattle.dwarf_loc.specs.calls.Said.{first_of}

-- what a list answers, of which the front was read
abbrev pub sought : {A : Type 0} → Search A → List (ListEntry A) → Option A
sought s entries = first_of s.held (first_or (first_of s.default (defaults entries)) (find (holds s.address) (held_by s.base entries)))

abbrev pub holding : {A : Type 0} → Search A → ℕ → ℕ → A → Search A
holding s begin end what = if holds s.address (held begin end what) then record s { held = first_of s.held (Some what) } else s

-- behind one more entry
abbrev pub taken : {A : Type 0} → Search A → ListEntry A → Search A
taken s (Base address) = record s { base = address }
taken s (FromBase begin end what) = holding s (s.base + begin) (s.base + end) what
taken s (Between begin end what) = holding s begin end what
taken s (Lasting begin length what) = holding s begin (begin + length) what
taken s (Otherwise what) = record s { default = first_of s.default (Some what) }
