-- The dumps of the traps of a run.
use Rattle.std.specs.Prelude.{◌≡◌, ℕ, List, [], ◌∷◌, Option, Some}
use Rattle.wasm_syntax.specs.declared.module.ModuleParts.{ModuleParts as Module}
use Rattle.wasm_syntax.specs.Machine.{Config}
use Rattle.wasm_syntax.specs.Run.{Outcome, not_started, finished, trapped, lacks_reply, misfits, running, got_stuck, Ran}
use Rattle.dump_format.specs.declared.dump.Dump.{Dump}
use Rattle.dump_write.specs.Image.{image}
use Rattle.dump_write.specs.ImageBytes.{dump_of}
use Rattle.dump_write.specs.Canonical.{canonical}
use Rattle.dump_match.specs.Matching.{Matches}

-- the dump that the canonical bytes of a configuration's image spell
abbrev pub dump_at : Config → List ℕ → Dump
dump_at c name = canonical (dump_of (image c name))

-- a trap leaves a configuration whose dump can be one of the module, under every name
abbrev pub TrapMatches : Module → Outcome → Option Config → Type 0
TrapMatches m (trapped kind) last = (c : Config) × (last ≡ Some c) × ((name : List ℕ) → Matches m (dump_at c name))
TrapMatches m (not_started cause) last = Unit {0}
TrapMatches m (finished value) last = Unit {0}
TrapMatches m (lacks_reply call) last = Unit {0}
TrapMatches m (misfits call reply) last = Unit {0}
TrapMatches m running last = Unit {0}
TrapMatches m got_stuck last = Unit {0}

-- so does each trap of a list of invocations
abbrev pub TrapsMatch : Module → List Ran → Type 0
TrapsMatch m [] = Unit {0}
TrapsMatch m (r ∷ rs) = TrapMatches m r.outcome r.last × TrapsMatch m rs
