-- What a list of a unit says of an address, by its version.
use Rattle.std.proofs.Common.{◌≡◌, ℕ, Bool, true, false, List, Option, Some, None, refl, sym, ap, subst, ◌∙◌}
use Rattle.std.specs.Prelude.{option_map, is_some, unwrap_or, if◌then◌else◌, IfSome}
use Rattle.dwarf_bytes.specs.Items.{ended_item, read_at}
use Rattle.dwarf_info.specs.declared.entry.Unit.{Unit as UnitTree}
use Rattle.dwarf_info.specs.Sections.{SectionBytes5}
use Rattle.dwarf_loc.specs.declared.entry.ListEntry.{ListEntry}
use Rattle.dwarf_loc.specs.Addresses.{address_of}
use Rattle.dwarf_loc.specs.Contents.{nothing_item}
use Rattle.dwarf_loc.specs.Kinds.{location_kind, range_kind}
use Rattle.dwarf_loc.specs.Lists.{chosen}
use Rattle.dwarf_loc.specs.Version4.{expression4_item, entry4_item, list4_item, location4, range4}
use Rattle.dwarf_loc.specs.Version5.{expression5_item, entry5_item, list5_item, location5, range5}
use Rattle.dwarf_loc.specs.declared.said.Said.{Said as SaidOf}
use Rattle.dwarf_loc.specs.calls.Said.{said, chosen_of}
use Rattle.dwarf_loc.proofs.SaidLaws.{chosen_said}
use Rattle.dwarf5_info.specs.Lists.{is_version5, list_base, addresses_of, location5_of, range5_of}
use Rattle.dwarf_scopes.specs.Lists.{location_in}
use Rattle.dwarf_scopes.specs.Ranges.{in_list}
use Rattle.dwarf_scopes.specs.calls.Kinds.{range_section, range_item, location_section, location_item}
use Rattle.dwarf_scopes.specs.declared.known.ListPlace.{ListPlace}
use Rattle.dwarf_scopes.specs.calls.Knowing.{place_of, said_in, held_in, is_held}

held_of : (start address : ℕ) (o : Option (List (ListEntry (Unit {0}))))
    → held_in (option_map chosen_of (option_map (said start address) o)) ≡ unwrap_or (option_map (λ entries. is_some (chosen start address entries)) o) false
held_of start address (Some es) = ap is_some (sym (chosen_said start address es))
held_of start address None = refl

held_version : (s : SectionBytes5) (u : UnitTree) (address at : ℕ) (b : Bool)
    → held_in (option_map chosen_of (option_map (said (list_base u) address) (read_at (ended_item (if b then entry5_item range_kind (address_of (addresses_of s u)) nothing_item else entry4_item nothing_item)) (if b then s.rnglists else s.base.ranges) at)))
    ≡ unwrap_or (if b then range5_of s u at address else range4 s.base.ranges at (list_base u) address) false
unfolding range4 range5 list4_item list5_item
held_version s u address at true = held_of (list_base u) address (read_at (list5_item range_kind (address_of (addresses_of s u)) nothing_item) s.rnglists at)
held_version s u address at false = held_of (list_base u) address (read_at (list4_item nothing_item) s.base.ranges at)

pub held_right : (s : SectionBytes5) (u : UnitTree) (address at : ℕ)
    → held_in (option_map chosen_of (said_in (range_section s) (range_item s) address (place_of u at))) ≡ in_list s u address (Some at)
held_right s u address at = held_version s u address at (is_version5 u)

held_same : (o : Option (SaidOf (Unit {0}))) → is_held o ≡ held_in (option_map chosen_of o)
held_same (Some s) = refl
held_same None = refl

-- by a table
pub held_known : (s : SectionBytes5) (u : UnitTree) (address at : ℕ) (p : ListPlace) (o : Option Bool) (held : Bool) → o ≡ Some held → p ≡ place_of u at
    → IfSome o (λ h. h ≡ is_held (said_in (range_section s) (range_item s) address p)) → held ≡ in_list s u address (Some at)
held_known s u address at p o held is same said =
    let here : held ≡ is_held (said_in (range_section s) (range_item s) address p)
    = subst (λ (x : Option Bool). IfSome x (λ h. h ≡ is_held (said_in (range_section s) (range_item s) address p))) is said in
    here
    ∙ ap (λ (q : ListPlace). is_held (said_in (range_section s) (range_item s) address q)) same
    ∙ held_same (said_in (range_section s) (range_item s) address (place_of u at))
    ∙ held_right s u address at

found_of : {A : Type 0} (start address : ℕ) (o : Option (List (ListEntry A))) → option_map chosen_of (option_map (said start address) o) ≡ option_map (chosen start address) o
found_of start address (Some es) = ap Some (sym (chosen_said start address es))
found_of start address None = refl

found_version : (s : SectionBytes5) (u : UnitTree) (address at : ℕ) (b : Bool)
    → option_map chosen_of (option_map (said (list_base u) address) (read_at (ended_item (if b then entry5_item location_kind (address_of (addresses_of s u)) expression5_item else entry4_item expression4_item)) (if b then s.loclists else s.base.loc) at))
    ≡ (if b then location5_of s u at address else location4 s.base.loc at (list_base u) address)
unfolding location4 location5 list4_item list5_item
found_version s u address at true = found_of (list_base u) address (read_at (list5_item location_kind (address_of (addresses_of s u)) expression5_item) s.loclists at)
found_version s u address at false = found_of (list_base u) address (read_at (list4_item expression4_item) s.base.loc at)

pub found_right : (s : SectionBytes5) (u : UnitTree) (address at : ℕ)
    → option_map chosen_of (said_in (location_section s) (location_item s) address (place_of u at)) ≡ location_in s u at address
found_right s u address at = found_version s u address at (is_version5 u)
