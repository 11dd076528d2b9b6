-- The checkpoints of a run.
use Rattle.std.specs.Prelude.{◌≡◌, ℕ, zero, suc, ◌+◌, ◌*◌, ◌/◌, ◌<◌, ◌≤◌, min, max, List, length, slice_get, Option, Some, None, Result, Ok, Err}
use Rattle.machine_hosted.specs.declared.answer.RunEnd.{RunEnd}
use Rattle.replay.specs.declared.fault.StartRefusal.{StartRefusal}
use Rattle.replay.specs.declared.passing.Passed.{Passed}
use Rattle.replay.specs.declared.point.Point.{Point}
use Rattle.replay.specs.declared.track.Track.{Track}
use Rattle.replay.specs.Replays.{Recording, IsEnd, EndsWith}
use Rattle.replay.specs.Moves.{OfEach, IsFault, IsNext, HasNoNext}
use Rattle.replay.specs.inner.Reached.{Reached, Waits}

-- a point came so far, and its instance goes on
abbrev pub WaitsAt : Recording → ℕ → Point → Type 0
WaitsAt x n q = Waits x n q.next q.instance

abbrev pub ReachedAt : Recording → ℕ → RunEnd → Point → Type 0
ReachedAt x n answer q = Reached x n q.next answer q.instance

-- the first point of a run, or why it does not start
abbrev pub Begun : Result Point StartRefusal → Recording → Type 0
Begun (Ok q) x = WaitsAt x 0 q
Begun (Err fault) x = IsFault fault x

-- ---- checkpoints

-- where one stands, in spacings: so many of the first gaps are two spacings wide, and all others one
abbrev pub place : (wide index : ℕ) → ℕ
place wide index = index + min index wide

abbrev pub Spaced : Recording → (spacing wide : ℕ) → List Point → Type 0
Spaced x spacing wide points = (i : ℕ) (q : Point) → slice_get points i ≡ Some q → WaitsAt x (place wide i * spacing) q

-- no gap is wider
abbrev pub widest : (spacing wide : ℕ) → ℕ
widest spacing zero = spacing
widest spacing (suc n) = spacing * 2

-- Checkpoints on the way to here. No gap is wider than asked for, or than an eighth of the steps up to here.
pub record UpTo (x : Recording) (every here spacing wide : ℕ) (points : List Point) : Type 0 where
  pub apart : 1 ≤ spacing
  pub spaced : Spaced x spacing wide points
  pub few : length points ≤ 16
  pub wide_within : wide ≤ length points
  pub near : widest spacing wide ≤ max every (here / 8)

-- The next one is due here. At least one gap is narrow.
pub record Due (x : Recording) (every here spacing wide : ℕ) (points : List Point) : Type 0 where
  pub up_to : UpTo x every here spacing wide points
  pub some_narrow : wide < 15
  pub due : place wide (length points) * spacing ≡ here

-- The last one is here, and at least one gap is narrow.
pub record Fresh (x : Recording) (every here spacing wide : ℕ) (points : List Point) : Type 0 where
  pub up_to : UpTo x every here spacing wide points
  pub some_narrow : wide < 15
  pub some : 1 ≤ length points
  pub next : place wide (length points) * spacing ≡ here + spacing

-- Here is no farther behind the last one than the next one would be.
pub record Covers (x : Recording) (every here spacing wide : ℕ) (points : List Point) : Type 0 where
  pub up_to : UpTo x every here spacing wide points
  pub some : 1 ≤ length points
  pub reach : here ≤ place wide (length points) * spacing

-- A step up to the end is no farther behind this one than the next one is.
pub record Nearest (x : Recording) (end step gap : ℕ) (q : Point) : Type 0 where
  pub waits : WaitsAt x q.instance.steps q
  pub below : q.instance.steps ≤ step
  pub near : step ≤ end → step ≤ q.instance.steps + gap

abbrev pub DueIn : Recording → (every here : ℕ) → Track → Type 0
DueIn x every here t = Due x every here t.spacing t.wide t.points.items

abbrev pub FreshIn : Recording → (every here : ℕ) → Track → Type 0
FreshIn x every here t = Fresh x every here t.spacing t.wide t.points.items

abbrev pub CoversIn : Recording → (every here : ℕ) → Track → Type 0
CoversIn x every here t = Covers x every here t.spacing t.wide t.points.items

-- ---- the whole run

-- so many steps are the run's, and it ended so
pub record Ends (x : Recording) (end : ℕ) (answer : RunEnd) : Type 0 where
  pub last : OfEach x (λ p. IsEnd p x end)
  pub outcome : OfEach x (λ p. EndsWith p x end answer)

abbrev pub Passes : Result Passed StartRefusal → Recording → ℕ → Type 0
Passes (Ok passed) x every = Ends x passed.end passed.outcome × CoversIn x every passed.end passed.track
Passes (Err fault) x every = IsFault fault x

-- the next step at which the innermost frame is there, if there is one
abbrev pub NextIn : Recording → (function offset from end : ℕ) → Option ℕ → Type 0
NextIn x function offset from end (Some step) = OfEach x (λ p. IsNext p x function offset from end step)
NextIn x function offset from end None = OfEach x (λ p. HasNoNext p x function offset from end)

-- what a replay keeps
pub record Kept (x : Recording) (every end : ℕ) (outcome : RunEnd) (t : Track) (step : ℕ) (shown : Point) : Type 0 where
  pub ends : Ends x end outcome
  pub covers : CoversIn x every end t
  pub within : step ≤ end
  pub answer : RunEnd
  pub reached : ReachedAt x step answer shown
  pub near : shown.instance.since_copy ≤ max every (end / 8)
