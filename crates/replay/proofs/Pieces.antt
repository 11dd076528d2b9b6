-- A piece of the first pass over a run.
use Rattle.std.proofs.Common.{◌≡◌, ◌≢◌, ℕ, ◌+◌, ◌-◌, ◌<◌, ◌≤◌, sym, subst, arith}
use Rattle.std.specs.Prelude.{min, Ok}
use Rattle.machine_hosted.specs.declared.answer.RunEnd.{RunEnd}
use Rattle.machine_hosted.specs.declared.answer.RunEnd.TheVariants.{FuelSpent}
use Rattle.replay.specs.declared.point.Point.{Point}
use Rattle.replay.specs.declared.track.Track.{Track}
use Rattle.replay.specs.Replays.{Recording}
use Rattle.replay.specs.inner.Tracks.{WaitsAt, ReachedAt, FreshIn, DueIn, Ends, Passes}
use Rattle.replay.proofs.Ending.{spent, ended, made_more}
use Rattle.replay.proofs.Tracks.{next_due, covered}

module _ (x : Recording) (every made piece : ℕ) (t : Track) (before after : Point) (answer : RunEnd) (few : made ≤ x.fuel) (is_piece : piece ≡ min t.spacing (x.fuel - made)) (fresh : FreshIn x every made t) (waits : WaitsAt x made before) (came : ReachedAt x (made + piece) answer after) where
  within : made + piece ≤ x.fuel
  within = omega (arith, few, is_piece)

  near : piece ≤ t.spacing
  near = omega (arith, is_piece)

  ends_at : answer ≢ FuelSpent → Passes (Ok (record { end = after.instance.steps; outcome = answer; track = t })) x every
  ends_at not_spent =
      let m : after.instance.steps ≤ made + piece = came.made in (
        ended x (made + piece) after.next answer after.instance came not_spent within,
        covered x every made after.instance.steps t.spacing t.wide t.points.items fresh
            (made_more x made (made + piece) before.next after.next answer before.instance after.instance waits came not_spent)
            (omega (arith, m, near)),
      )

  -- it ended within the piece
  pub ends_here : (end : ℕ) → end ≡ after.instance.steps → answer ≢ FuelSpent → Passes (Ok (record { end = end; outcome = answer; track = t })) x every
  ends_here end is_end not_spent = subst (λ (n : ℕ). Passes (Ok (record { end = n; outcome = answer; track = t })) x every) (sym is_end) (ends_at not_spent)

  waits_then : answer ≡ FuelSpent → WaitsAt x (made + piece) after
  waits_then e = subst (λ (a : RunEnd). ReachedAt x (made + piece) a after) e came

  -- all steps are made behind it
  pub spent_here : answer ≡ FuelSpent → made + piece ≡ x.fuel → Passes (Ok (record { end = made + piece; outcome = answer; track = t })) x every
  spent_here e all =
      let w : WaitsAt x x.fuel after = subst (λ (n : ℕ). WaitsAt x n after) all (waits_then e) in (
        subst (λ (a : RunEnd). Ends x (made + piece) a) (sym e) (subst (λ (n : ℕ). Ends x n FuelSpent) (sym all) (spent x after.next after.instance w)),
        covered x every made (made + piece) t.spacing t.wide t.points.items fresh (omega arith) (omega (arith, near)),
      )

  -- it goes on behind it
  pub goes_on : answer ≡ FuelSpent → made + piece ≢ x.fuel → WaitsAt x (made + piece) after × DueIn x every (made + piece) t
  goes_on e more = (waits_then e, next_due x every made piece t.spacing t.wide t.points.items fresh (omega (arith, within, is_piece, more)))

  pub shrinks : made + piece ≢ x.fuel → x.fuel - (made + piece) < x.fuel - made
  shrinks more = let apart = fresh.up_to.apart in omega (arith, few, is_piece, apart, more)

  pub within_fuel : made + piece ≤ x.fuel
  within_fuel = within
