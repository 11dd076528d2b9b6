use Rattle.std.proofs.Common.{◌≡◌, ◌≤◌, length, take}
use Rattle.rewrite_bodies.specs.calls.Landings.{same_places}
use Rattle.rewrite_code.specs.calls.Places.{from_top}
use Rattle.rewrite_code.proofs.landing.same_places.Given as goal

abbrev pub invariant-loop-left : goal.invariant-loop-left
invariant-loop-left l = record {
  first : l.a ≡ l.fn.a;
  second : l.b ≡ l.fn.b;
  low : l.left ≤ length l.fn.a;
  as_many : length l.fn.a ≡ length l.fn.b;
  so_far : same_places (from_top l.fn.a) (from_top l.fn.b) ≡ same_places (from_top (take l.left l.fn.a)) (from_top (take l.left l.fn.b));
}

abbrev pub decreases-loop-left : goal.decreases-loop-left
decreases-loop-left l = l.left
