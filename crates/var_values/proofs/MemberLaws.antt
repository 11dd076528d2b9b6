-- Static members, and those that are part of a structure.
use Rattle.std.proofs.Common.{◌≡◌, Bool, true, false, Some, ap}
use Rattle.std.specs.Prelude.{unwrap_or, if◌then◌else◌}
use Rattle.dwarf_info.specs.declared.entry.Entry.{Entry}
use Rattle.var_values.specs.Places.{Place, start_of, constant_source}
use Rattle.var_values.specs.Members.{part_at, is_static, member_at, unplaced, member_place}

pub static_at : (p : Place) (e : Entry) → is_static e ≡ true → member_at p e ≡ Some (start_of (constant_source e.attributes))
static_at p e is = ap (λ (b : Bool). if b then Some (start_of (constant_source e.attributes)) else part_at p e) is

pub in_object : (p : Place) (e : Entry) → is_static e ≡ false → member_at p e ≡ part_at p e
in_object p e is = ap (λ (b : Bool). if b then Some (start_of (constant_source e.attributes)) else part_at p e) is

pub static_place : (p : Place) (e : Entry) → is_static e ≡ true → member_place p e ≡ start_of (constant_source e.attributes)
static_place p e is = ap (λ o. unwrap_or o (unplaced p)) (static_at p e is)

pub part_place : (p : Place) (e : Entry) → is_static e ≡ false → member_place p e ≡ unwrap_or (part_at p e) (unplaced p)
part_place p e is = ap (λ o. unwrap_or o (unplaced p)) (in_object p e is)
