-- Attributes of abbreviations in lists of which each is another one with an attribute in front, and what is kept beside each.
use Rattle.std.specs.Prelude.{◌≡◌, ◌≤◌, ℕ, true, List, [], ◌∷◌, length, map, slice_get, IfSome}
use Rattle.dwarf_abbrev.specs.calls.Shared.{list_of}
use Rattle.dwarf_info.specs.declared.form.Slot.{Slot}
use Rattle.dwarf_info.specs.declared.slots.KeptSlot.{KeptSlot}
use Rattle.dwarf_info.specs.inner.Joined.{takes_bytes, own_slots}

abbrev pub slots_in : List KeptSlot → List Slot
slots_in kept = map (λ k. k.slot) kept

abbrev pub slots_of : List (List KeptSlot) → List (List Slot)
slots_of lists = map slots_in lists

-- The list begins with a slot that takes bytes, or is empty.
abbrev pub Begins : List Slot → Type 0
Begins slots = IfSome (slice_get slots 0) (λ s. takes_bytes s ≡ true)

-- What is kept beside a slot in front of others is right.
pub record IsKept (lists : List (List KeptSlot)) (k : KeptSlot) (ks : List KeptSlot) : Type 0 where
  pub rest : list_of lists k.rest ≡ ks
  pub rest_there : k.rest ≤ length lists
  -- those behind it that take bytes begin there
  pub next : own_slots (slots_in (list_of lists k.next)) ≡ own_slots (slots_in ks)
  pub begins : Begins (slots_in (list_of lists k.next))
  pub next_there : k.next ≤ length lists
  -- how many take bytes
  pub own : k.own ≡ length (own_slots (slots_in (k ∷ ks)))

abbrev pub IsFirst : List (List KeptSlot) → List KeptSlot → Type 0
IsFirst lists [] = Unit {0}
IsFirst lists (k ∷ ks) = IsKept lists k ks

abbrev pub AreKept : List (List KeptSlot) → Type 0
AreKept lists = (n : ℕ) → IsFirst lists (list_of lists n)
