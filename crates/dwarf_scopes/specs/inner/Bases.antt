-- From which bases a list says something of an address.
use Rattle.std.specs.Prelude.{◌≡◌, ◌≤◌, ◌^◌, ◌+◌, ◌-◌, ℕ, pos, List, [], ◌∷◌, length, Option, Some, None, option_map, is_some, Bool, true, false, nat_lt, if◌then◌else◌}
use Rattle.dwarf_bytes.specs.Items.{ended_from, reading_of}
use Rattle.dwarf_loc.specs.declared.entry.ListEntry.{ListEntry}
use Rattle.dwarf_loc.specs.declared.entry.ListEntry.TheVariants.{Base, FromBase, Between, Lasting, Otherwise}
use Rattle.dwarf_loc.specs.calls.Said.{said, said_before, chosen_of}
use Rattle.dwarf_scopes.specs.declared.kinds.ListWay.{ListWay}
use Rattle.dwarf_scopes.specs.declared.steps.Range.{Range}
use Rattle.dwarf_scopes.specs.calls.Knowing.{Sectioned, Entered}

abbrev pub any_if : Bool → Range
any_if all = if all then record { first = 0; «end» = pos (2 ^ 32); index = 0 } else record { first = 0; «end» = pos 0; index = 0 }

-- from one up to but not including another one, which addresses have
abbrev pub between : ℕ → ℕ → Range
between first end = if nat_lt first (2 ^ 32) then record { first = first; «end» = pos end; index = 0 } else any_if false

-- An offset is the base less than an address.
abbrev pub bases_of_offsets : ℕ → ℕ → ℕ → Range
bases_of_offsets address begin end = between (address + 1 - end) (address + 1 - begin)

-- A list of one entry says something of the address.
abbrev pub counts : {A : Type 0} → ℕ → ℕ → ListEntry A → Bool
counts address base e = is_some (chosen_of (said_before address base e (said 0 0 [])))

-- in front of which no base is selected
abbrev pub bases_of_first : {A : Type 0} → ℕ → ListEntry A → Range
bases_of_first address (Base base) = any_if false
bases_of_first address (FromBase begin end what) = bases_of_offsets address begin end
bases_of_first address (Between begin end what) = any_if (counts address 0 (Between begin end what))
bases_of_first address (Lasting begin length what) = any_if (counts address 0 (Lasting begin length what))
bases_of_first address (Otherwise what) = any_if true

abbrev pub bases_of : {A : Type 0} → ℕ → Option ℕ → ListEntry A → Range
bases_of address (Some base) e = any_if (counts address base e)
bases_of address None e = bases_of_first address e

abbrev pub selected_behind : {A : Type 0} → Option ℕ → ListEntry A → Option ℕ
selected_behind selected (Base base) = Some base
selected_behind selected (FromBase begin end what) = selected
selected_behind selected (Between begin end what) = selected
selected_behind selected (Lasting begin length what) = selected
selected_behind selected (Otherwise what) = selected

-- of each entry of a list, in front of which this base is selected, if any
abbrev pub bases_by : {A : Type 0} → ℕ → Option ℕ → List (ListEntry A) → List Range
bases_by address selected [] = []
bases_by address selected (e ∷ es) = bases_of address selected e ∷ bases_by address (selected_behind selected e) es

-- Those of the list at an offset, however many entries are allowed, as long as they are enough for its bytes.
abbrev pub IsBases : {A : Type 0} → Sectioned → Entered A → ℕ → ListWay → ℕ → Option ℕ → Option (List Range) → Type 0
IsBases section item address way at selected answer = (n : ℕ) → length (section way) + 1 - at ≤ n
    → option_map (bases_by address selected) (reading_of (ended_from (item way) n (record { block = section way; at = at }))) ≡ answer
