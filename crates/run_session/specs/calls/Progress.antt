-- How far a list of invocations has come, whatever replies are left.
use Rattle.std.specs.Prelude.{◌≡◌, ℕ, ◌+◌, true, List, [], ◌∷◌, ◌++◌, length, Option, Some, None, IfSome, is_some}
use Rattle.std.specs.List.{flat_map}
use Rattle.wasm_syntax.specs.declared.host.Reply.{Reply}
use Rattle.wasm_syntax.specs.declared.host.Served.{Served}
use Rattle.wasm_syntax.specs.Machine.{Engine}
use Rattle.wasm_syntax.specs.Run.{Invocation, Ran, session, goes_on}
use Rattle.machine_steps.specs.declared.machine.Machine.{Machine}
use Rattle.host_devices.specs.Given.{replies_of}
use Rattle.machine_hosted.specs.calls.Settings.{world_of}
use Rattle.host_devices.specs.Given.{unfitting}
use Rattle.run_session.specs.Telling.{Tells, told, torn_in}
use Rattle.run_session.specs.RunText.{invocation_text, up_to_torn, dumps_from, traps_in, last_of, fitted}
use Rattle.run_session.specs.Given.{given_in}
use Rattle.pm_outside.specs.Held.{Writes}

-- where a list of invocations stands: those that are still to be made, the start function if it is still to be run, the machine, and the
-- steps that are left
pub record Point : Type 0 where
  pub due : List Invocation
  pub start : Option ℕ
  pub machine : Machine
  pub left : ℕ

-- what came of the invocations that were made: their lines, their dumps with the names of files, the number of traps, and the replies
pub record Made : Type 0 where
  pub text : List ℕ
  pub writes : Writes
  pub traps : ℕ
  pub given : List Served

-- the session from there on, with these replies left
abbrev pub session_from : Engine → Point → List Reply → List Ran
session_from M p replies = session M p.due p.start (world_of p.machine replies) p.left

-- all of this came of these invocations
pub record CameOf (tell : Tells) (base name : List ℕ) (rans : List Ran) (made : Made) : Type 0 where
  pub text : made.text ≡ flat_map (invocation_text tell) rans
  pub writes : made.writes ≡ dumps_from tell base name 0 rans
  pub traps : made.traps ≡ traps_in tell rans
  pub given : made.given ≡ given_in rans

-- the list went on behind this invocation, which was begun
abbrev pub WentOn : Ran → Type 0
WentOn r = (goes_on r.outcome r.entered ≡ true) × (is_some r.last ≡ true)

-- the calls of none of these are torn
abbrev pub NoneTorn : Tells → List Ran → Type 0
NoneTorn tell [] = Unit {0}
NoneTorn tell (r ∷ rs) = (torn_in (told tell r) ≡ None) × NoneTorn tell rs

-- The session has come to a point, and goes on as one that begins there.
pub record HasCome (tell : Tells) (M : Engine) (base name : List ℕ) (first there : Point) (made : Made) (more : List Reply) : Type 0 where
  pub rans : List Ran
  pub is : session_from M first (replies_of made.given ++ more) ≡ rans ++ session_from M there more
  pub counted : length first.due ≡ length rans + length there.due
  pub came_of : CameOf tell base name rans made
  pub fit : length made.given ≡ fitted rans
  pub went_on : IfSome (last_of rans) WentOn
  pub none_torn : NoneTorn tell rans

-- The session has ended, with this invocation as its last one and so many that were not begun. Torn calls end it too.
pub record HasEnded (tell : Tells) (M : Engine) (base name : List ℕ) (first : Point) (made : Made) (due : ℕ) (r : Ran) : Type 0 where
  pub rans : List Ran
  pub is : up_to_torn tell (session_from M first (replies_of made.given)) ≡ rans
  pub counted : length first.due ≡ length rans + due
  pub came_of : CameOf tell base name rans made
  pub fit : length made.given ≡ fitted rans + length (unfitting r.outcome)
  pub last : last_of rans ≡ Some r
