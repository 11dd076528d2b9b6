-- What is promised of guards and of the steps of rewritten code.
use Rattle.std.specs.Prelude.{◌≡◌, ℕ, zero, suc, ◌≤◌, List, ◌∷◌, ◌++◌, length, true, ◌≢◌}
use Rattle.wasm_syntax.specs.declared.value.ValType.{ValType}
use Rattle.wasm_syntax.specs.declared.value.Value.{Value}
use Rattle.wasm_syntax.specs.Tree.{Nodes}
use Rattle.wasm_syntax.specs.Host.{World}
use Rattle.wasm_syntax.specs.declared.host.CollectorCall.{CollectorCall}
use Rattle.wasm_syntax.specs.Machine.{Config, Engine, Stepped, next, ends, traps, no_reply, bad_reply, stuck, parts, cut, step}
use Rattle.rewrite_bodies.specs.calls.Slots.{Place, Ctx}
use Rattle.wasm_syntax.specs.declared.value.Value.TheVariants as values
use Rattle.wasm_syntax.specs.declared.instruction.Basic.{Basic}
use Rattle.wasm_syntax.specs.Effect.{takes, Effect, gives, fails, unfit, effect}
use Rattle.rewrite_bodies.specs.calls.Offsets.{SmallOffset}
use Rattle.rewrite_bodies.specs.calls.Guards.{can_trap, guard, kind}
use Rattle.rewrite_bodies.specs.calls.Steps.{To, Shell, st}
use Rattle.rewrite_bodies.specs.calls.Agreement.{Holds, Wit, MemoryFits, TellsLength, WorldFits, FitsTop, FitsConfig, Wrap, image}
use Rattle.rewrite_bodies.specs.calls.Standing.{After, Stands}

-- the kind with which it traps, or 0
abbrev pub kind_of : Effect → ℕ
kind_of (gives g l ws) = 0
kind_of (fails k) = k
kind_of unfit = 0

-- what a guard leaves: 1 where there is a kind, and 0 where there is none
abbrev pub verdict : ℕ → ℕ
verdict zero = 0
verdict (suc k) = 1

-- the guard of an instruction takes at most 21 steps, leaves 1 where the instruction traps on these operands and 0 where it does not, and
-- changes nothing; where it traps, the other piece leaves the kind in at most 5 steps. Kind 8 aside, which no basic instruction has.
abbrev pub GuardTells : Engine → Basic → Type 0
GuardTells M i =
    (C : Ctx) (locals added_ : List Value) (X : Shell) (behind : Nodes) (there here : World) (calls : List CollectorCall) (js es : List Place) (ops vs below under : List Value) →
    length C.locals ≡ length locals → TellsLength C added_ here.memory → MemoryFits here.memory → SmallOffset i → can_trap i ≡ true →
    Holds C locals added_ js ops es → cut (takes i) ops ≡ parts vs below → effect i here locals vs ≢ unfit →
    To M 1 21 (st X (locals ++ added_) under (guard C i (es ++ js) behind) there calls) (st X (locals ++ added_) (values.I32 (verdict (kind_of (effect i here locals vs))) ∷ under) behind there calls)
    × ((k : ℕ) → kind_of (effect i here locals vs) ≡ suc k → To M 1 5 (st X (locals ++ added_) under (kind C i (es ++ js) behind) there calls) (st X (locals ++ added_) (values.I32 (suc k) ∷ under) behind there calls))

-- what a step comes to, facts aside
abbrev pub Comes : Engine → Engine → ℕ → List ValType → Wrap → Config → Stepped → Type 0
Comes M M' E gl W t (next c) = (ws : List Wit) × (WorldFits M gl c.world × FitsTop M E gl c.world W.result c.frames ws) × To M' 1 E t (image M W c ws)
Comes M M' E gl W t (ends g vs co) = After M M' E gl W t (ends g vs co)
Comes M M' E gl W t (traps k c) = After M M' E gl W t (traps k c)
Comes M M' E gl W t (no_reply call c) = After M M' E gl W t (no_reply call c)
Comes M M' E gl W t (bad_reply call r c) = After M M' E gl W t (bad_reply call r c)
Comes M M' E gl W t stuck = Unit {0}

-- Each step of the original from an agreeing configuration is from one to E steps of the rewritten module, to an agreeing configuration or to
-- the same end. Where it traps, with a kind other than 8, each frame of the original takes at most E steps: all frames hand over their
-- values, the innermost first, the memory and the globals stay, and the wrapper is reached with the flag up.
abbrev pub StepFollows : Engine → Engine → ℕ → List ValType → Wrap → Type 0
StepFollows M M' E gl W =
    Stands M M' E gl → (c : Config) (ws : List Wit) → FitsConfig M E gl W.result c ws → length c.frames ≤ M.depth → After M M' E gl W (image M W c ws) (step M c)
