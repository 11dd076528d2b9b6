-- Runs of so many steps, and the states of the rewritten code.
use Rattle.std.specs.Prelude.{◌≡◌, ℕ, zero, suc, ◌≤◌, List, ◌∷◌, Option}
use Rattle.wasm_syntax.specs.declared.value.ValType.{ValType}
use Rattle.wasm_syntax.specs.declared.value.Value.{Value}
use Rattle.wasm_syntax.specs.Tree.{Nodes}
use Rattle.wasm_syntax.specs.Host.{World}
use Rattle.wasm_syntax.specs.declared.host.CollectorCall.{CollectorCall}
use Rattle.wasm_syntax.specs.Machine.{Kind, Label, Frame, Config, label, frame, config, Engine, Stepped, next, ends, traps, no_reply, bad_reply, stuck, step}
use Rattle.rewrite_bodies.specs.calls.Pieces.{call}

-- exactly so many steps, each of which but the last goes on
module _ (M : Engine) where
  abbrev pub went : (Config → Stepped) → ℕ → Stepped → Stepped
  went more n (next c) = more c
  went more zero (ends w vs co) = ends w vs co
  went more (suc n) (ends w vs co) = stuck
  went more zero (traps k c) = traps k c
  went more (suc n) (traps k c) = stuck
  went more zero (no_reply call c) = no_reply call c
  went more (suc n) (no_reply call c) = stuck
  went more zero (bad_reply call r c) = bad_reply call r c
  went more (suc n) (bad_reply call r c) = stuck
  went more zero stuck = stuck
  went more (suc n) stuck = stuck

  abbrev pub run : ℕ → Config → Stepped
  run zero c = next c
  run (suc n) c = went (run n) n (step M c)

-- what so many steps come to
pub record Gets (M : Engine) (lo hi : ℕ) (c : Config) (r : Stepped) : Type 0 where
  pub count : ℕ
  pub low : lo ≤ count
  pub high : count ≤ hi
  pub goes : run M count c ≡ r

-- a run of so many steps from one configuration to another
abbrev pub To : Engine → ℕ → ℕ → Config → Config → Type 0
To M lo hi c c' = Gets M lo hi c (next c')

-- what stays while a piece of rewritten code runs
pub record Shell : Type 0 where
  pub idx : ℕ
  pub result : Option ValType
  pub kind : Kind
  pub below : List Label
  pub frames : List Frame

-- the state in the rewritten code
abbrev pub st : Shell → List Value → List Value → Nodes → World → List CollectorCall → Config
st X tl s k g co = config (frame X.idx X.result 0 tl (label s k 0 X.kind ∷ X.below) ∷ X.frames) g co
