-- What a list says of an address, by what is behind its first entry.
use Rattle.std.proofs.Common.{◌≡◌, ℕ, ◌+◌, Bool, true, false, List, ◌∷◌, Option, Some, None, refl}
use Rattle.std.specs.Prelude.{find, option_map, if◌then◌else◌}
use Rattle.dwarf_loc.specs.declared.entry.ListEntry.{ListEntry}
use Rattle.dwarf_loc.specs.declared.entry.ListEntry.TheVariants.{Base, FromBase, Between, Lasting, Otherwise}
use Rattle.dwarf_loc.specs.declared.said.Said.{Said as SaidOf}
use Rattle.dwarf_loc.specs.Lists.{Held, held, held_by, holds, defaults, first_or, chosen}
use Rattle.dwarf_loc.specs.calls.Said.{said, first_of, chosen_of, base_behind, held_before, said_before}

module _ {A : Type 0} where
  by_test : (address start begin end : ℕ) (what : A) (rest : List (ListEntry A)) (t : Bool)
      → (let s : SaidOf A = record { held = option_map (λ (h : Held A). h.what) (if t then Some (held begin end what) else find (holds address) (held_by start rest)); default = defaults rest } in s)
      ≡ (if t then record (said start address rest) { held = Some what } else said start address rest)
  by_test address start begin end what rest true = refl
  by_test address start begin end what rest false = refl

  pub said_cons : (start address : ℕ) (e : ListEntry A) (rest : List (ListEntry A)) → said start address (e ∷ rest) ≡ said_before address start e (said (base_behind start e) address rest)
  said_cons start address (Base base) rest = refl
  said_cons start address (FromBase begin end what) rest = by_test address start (start + begin) (start + end) what rest (holds address (held (start + begin) (start + end) what))
  said_cons start address (Between begin end what) rest = by_test address start begin end what rest (holds address (held begin end what))
  said_cons start address (Lasting begin length what) rest = by_test address start begin (begin + length) what rest (holds address (held begin (begin + length) what))
  said_cons start address (Otherwise what) rest = refl

  chosen_found : (default : Option A) (found : Option (Held A)) → first_or default found ≡ first_of (option_map (λ (h : Held A). h.what) found) default
  chosen_found default (Some h) = refl
  chosen_found default None = refl

  pub chosen_said : (start address : ℕ) (entries : List (ListEntry A)) → chosen start address entries ≡ chosen_of (said start address entries)
  chosen_said start address entries = chosen_found (defaults entries) (find (holds address) (held_by start entries))
