use Rattle.std.proofs.Common.{◌≡◌, drop}
use Rattle.std.specs.Prelude.{slice_get}
use Rattle.dwarf_scopes.specs.Ranges.{holds}
use Rattle.dwarf_scopes.specs.calls.Knowing.{AreRight}
use Rattle.dwarf_scopes.specs.calls.Numbered.{passes, first_or}
use Rattle.dwarf_scopes.proofs.holders.first_or.Given as goal

abbrev pub invariant-loop-index : goal.invariant-loop-index
invariant-loop-index l = record {
  right : AreRight l.sections l.address l.lists;
  so_far : first_or (λ i. passes (holds l.sections l.address) (slice_get l.entries i)) l.named l.numbers
      ≡ first_or (λ i. passes (holds l.sections l.address) (slice_get l.entries i)) l.named (drop l.index-index l.numbers);
}
