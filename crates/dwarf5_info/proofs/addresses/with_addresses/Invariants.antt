use Rattle.std.proofs.Common.{◌≡◌, ◌-◌, ◌≤◌, ℕ, ◌++◌, length}
use Rattle.dwarf_loc.specs.Addresses.{address_of}
use Rattle.dwarf5_info.specs.Plain.{plain, plain_from}
use Rattle.dwarf5_info.proofs.addresses.with_addresses.Given as goal

abbrev pub invariant-operators : goal.invariant-operators
invariant-operators l = record {
  so_far : (n : ℕ) × (length l.reader.block - l.reader.at ≤ n) × (plain (address_of l.addresses) l.expr ≡ l.plain ++ plain_from (address_of l.addresses) n l.reader);
  block : l.reader.block ≡ l.expr;
}

abbrev pub decreases-operators : goal.decreases-operators
decreases-operators l = length l.reader.block - l.reader.at
