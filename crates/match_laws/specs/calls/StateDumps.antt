-- The dumps of the states of a run.
use Rattle.std.specs.Prelude.{◌≡◌, ℕ, List, Some}
use Rattle.std.specs.List.{AllByRecursion}
use Rattle.wasm_syntax.specs.declared.module.ModuleParts.{ModuleParts as Module}
use Rattle.wasm_syntax.specs.Machine.{Config}
use Rattle.wasm_syntax.specs.Run.{Ran}
use Rattle.dump_match.specs.States.{MatchesState}
use Rattle.match_laws.specs.calls.TrapDumps.{dump_at}

-- the last configuration of an invocation, where it started, can be shown by its dump, under every name
abbrev pub StateMatches : Module → Ran → Type 0
StateMatches m r = (c : Config) → r.last ≡ Some c → (name : List ℕ) → MatchesState m (dump_at c name)

-- that of each invocation of a list
abbrev pub StatesMatch : Module → List Ran → Type 0
StatesMatch m rans = AllByRecursion (StateMatches m) rans
