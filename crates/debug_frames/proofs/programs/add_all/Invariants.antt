use Rattle.std.proofs.Common.{◌≡◌, drop}
use Rattle.std.specs.Prelude.{fold}
use Rattle.std.specs.Ordering.{nat_cmp}
use Rattle.std.specs.BTreeMap.{get}
use Rattle.dwarf_abbrev.specs.calls.Places.{IsPlaced}
use Rattle.debug_frames.specs.Programs.{named}
use Rattle.debug_frames.specs.calls.Kept.{with_program}
use Rattle.debug_frames.specs.inner.Stores.{AreStored, seen}
use Rattle.debug_frames.proofs.programs.add_all.Given as goal

abbrev pub invariant-loop-answer : goal.invariant-loop-answer
invariant-loop-answer l = record {
  programs : fold (λ programs u. with_program l.sections programs (named u)) (seen l.sections l.programs) (drop l.answer-index l.units) ≡ fold (λ programs u. with_program l.sections programs (named u)) (seen l.sections l.fn.programs) l.units;
  placed : IsPlaced (λ x. x.0) l.programs (get nat_cmp l.places);
  stored : AreStored l.sections l.programs;
  room : l.room.scans ≡ l.sections.base.line;
}
