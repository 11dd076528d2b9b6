-- What a list says of an address, from its last entry on.
use Rattle.std.specs.Prelude.{ℕ, ◌+◌, List, Option, Some, None, option_map, find, if◌then◌else◌}
use Rattle.dwarf_loc.specs.declared.entry.ListEntry.{ListEntry}
use Rattle.dwarf_loc.specs.declared.entry.ListEntry.TheVariants.{Base, FromBase, Between, Lasting, Otherwise}
use Rattle.dwarf_loc.specs.declared.said.Said.{Said as SaidOf}
use Rattle.dwarf_loc.specs.Lists.{Held, held, held_by, holds, defaults}

abbrev pub said : {A : Type 0} → ℕ → ℕ → List (ListEntry A) → SaidOf A
said start address entries = record { held = option_map (λ (h : Held _). h.what) (find (holds address) (held_by start entries)); default = defaults entries }

-- the first of two
abbrev pub first_of : {A : Type 0} → Option A → Option A → Option A
first_of (Some x) later = Some x
first_of None later = later

-- what counts
abbrev pub chosen_of : {A : Type 0} → SaidOf A → Option A
chosen_of s = first_of s.held s.default

-- ---- one more entry in front

-- the base in force behind it
abbrev pub base_behind : {A : Type 0} → ℕ → ListEntry A → ℕ
base_behind start (Base address) = address
base_behind start (FromBase begin end what) = start
base_behind start (Between begin end what) = start
base_behind start (Lasting begin length what) = start
base_behind start (Otherwise what) = start

abbrev pub held_before : {A : Type 0} → ℕ → ℕ → ℕ → A → SaidOf A → SaidOf A
held_before address begin end what s = if holds address (held begin end what) then record s { held = Some what } else s

abbrev pub said_before : {A : Type 0} → ℕ → ℕ → ListEntry A → SaidOf A → SaidOf A
said_before address start (Base base) s = s
said_before address start (FromBase begin end what) s = held_before address (start + begin) (start + end) what s
said_before address start (Between begin end what) s = held_before address begin end what s
said_before address start (Lasting begin length what) s = held_before address begin (begin + length) what s
said_before address start (Otherwise what) s = record s { default = Some what }
