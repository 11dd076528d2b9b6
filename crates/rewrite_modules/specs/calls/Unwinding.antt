-- How the frames of the rewritten module hand over their values where the original traps, the innermost first, and in how many steps.
use Rattle.std.specs.Prelude.{◌≡◌, ℕ, ◌+◌, ◌*◌, ◌<◌, ◌≤◌, List, [], ◌∷◌, ◌++◌, length, slice_get, Option, Some, None, true, false}
use Rattle.wasm_syntax.specs.declared.value.ValType.{ValType}
use Rattle.wasm_syntax.specs.declared.value.Value.{Value}
use Rattle.wasm_syntax.specs.declared.value.Value.TheVariants as values
use Rattle.wasm_syntax.specs.declared.host.CollectorCall.{CollectorCall}
use Rattle.wasm_syntax.specs.declared.host.CollectorCall.TheVariants as collector_calls
use Rattle.wasm_syntax.specs.declared.host.Reply.{Reply}
use Rattle.wasm_syntax.specs.declared.parts.FuncType.{FuncType}
use Rattle.wasm_syntax.specs.declared.parts.Body.{Body}
use Rattle.wasm_syntax.specs.Numbers.{types}
use Rattle.wasm_syntax.specs.Tree.{Tree}
use Rattle.wasm_syntax.specs.Module.{Program, defined, function_at}
use Rattle.wasm_syntax.specs.Host.{World}
use Rattle.wasm_syntax.specs.Machine.{Frame, Config, config, Engine, traps, entered, result_of, deliver, step}
use Rattle.wasm_syntax.specs.Run.{engine, start_world, cause_of_segments}
use Rattle.rewrite_bodies.specs.Numbering.{wrapped, wrapper_base, global_types}
use Rattle.rewrite_bodies.specs.calls.Derived.{DerivedCaller, DerivedCallers}
use Rattle.rewrite_bodies.specs.calls.Agreement.{Wit, WorldFits, FitsFrame, FitsFrames, FitsConfig, Wrap, w_frame, t_frames, flagged, image, zero_vs, last_result, Waits}
use Rattle.rewrite_bodies.specs.calls.Standing.{After}
use Rattle.rewrite_bodies.specs.calls.Steps.{Gets, To}
use Rattle.rewrite_bodies.specs.calls.Telling.{tell_locals, tell_frame, tell_outer}
use Rattle.rewrite_modules.specs.calls.Instrument.{instrument}
use Rattle.rewrite_modules.specs.calls.Wrappers.{after_wrapped}

module _ (p : Program) (n d : ℕ) where
  -- the program, and its rewriting, which has two frames more
  abbrev M : Engine
  M = engine p false d

  abbrev M' : Engine
  M' = engine (instrument p) true (d + 2)

  abbrev gl : List ValType
  gl = global_types p.module_

  -- from t, at most q steps have led to where a callee has returned, with the flag up, into the frames that stand for these
  abbrev pub Returned : Wrap → Config → ℕ → Option ValType → List Frame → List Wit → World → List CollectorCall → Type 0
  Returned W t q r Fs ws g co = Gets M' 0 q t (deliver M' (zero_vs r) (t_frames W r Fs ws) (flagged M g (values.I32 1)) co)

  -- the frame of a wrapper, behind the call of its function
  abbrev pub calling : ℕ → FuncType → List Value → Wrap
  calling j type args = record { idx = wrapper_base p.module_ + j; result = result_of type; locals = args; rest = after_wrapped p.module_ }

  -- the wrapper of a function is there. Entered with the flag up or down, it has entered the function in at most n steps, and the
  -- configurations agree.
  pub record Begins (f j : ℕ) (b : Body) (tree : Tree) (type : FuncType) (args : List Value) (g : World) (up : ℕ) : Type 0 where
    pub body : Body
    pub tree_ : Tree
    pub wrapper : function_at (instrument p) (wrapper_base p.module_ + j) ≡ Some (defined body tree_ type)
    pub frames : List Wit
    pub agree : FitsConfig M n gl (result_of type) (config (entered f b tree type args ∷ []) g []) frames
    pub goes : To M' 1 n (config (entered (wrapper_base p.module_ + j) body tree_ type args ∷ []) (flagged M g (values.I32 up)) []) (image M (calling j type args) (config (entered f b tree type args ∷ []) g []) frames)

  pub record Unwinds : Type 0 where
    -- the world at the start agrees
    pub starts : (replies : List Reply) → cause_of_segments p.module_ ≡ None → WorldFits M gl (start_world p.module_ replies)
    -- a function that is called from outside is called by its wrapper
    pub begins : (f j : ℕ) (b : Body) (tree : Tree) (type : FuncType) (args : List Value) (g : World) (up : ℕ) → 0 < d → function_at p f ≡ Some (defined b tree type) → slice_get (wrapped p.module_) j ≡ Some f → types args ≡ type.params → WorldFits M gl g → Begins f j b tree type args g up
    -- each step is followed to a configuration that agrees, or to the same end. Where it traps, with another kind than 8, all frames hand
    -- over their values, in at most n steps each, and the wrapper's frame is reached with the flag up, memory and globals as they were.
    pub follows : (W : Wrap) (c : Config) (ws : List Wit) → FitsConfig M n gl W.result c ws → length c.frames ≤ d → After M M' n gl W (image M W c ws) (step M c)
    -- where a callee has returned with the flag up, one frame hands over its values in at most n steps, and returns with the flag up: so it
    -- does where its locals that are worked out have their values, as those of each frame of a configuration that agrees have
    pub one_frame : (W : Wrap) (F : Frame) (Fs : List Frame) (w : Wit) (ws : List Wit) (g : World) (co : List CollectorCall) (t : Config) (q : ℕ) (r : Option ValType) → FitsFrame M n gl (Waits r) F w → DerivedCaller p F → FitsFrames M n gl W.result F.result Fs ws → WorldFits M gl g → Returned W t q r (F ∷ Fs) (w ∷ ws) g co → Returned W t (q + n) F.result Fs ws g (tell_frame 0 F.call F co)
    -- and all do
    pub all_frames : (W : Wrap) (Fs : List Frame) (ws : List Wit) (g : World) (co : List CollectorCall) (t : Config) (q : ℕ) (r : Option ValType) → FitsFrames M n gl W.result r Fs ws → DerivedCallers p Fs → WorldFits M gl g → Returned W t q r Fs ws g co → To M' 0 (q + length Fs * n) t (config (w_frame W (zero_vs (last_result r Fs) ++ []) ∷ []) (flagged M g (values.I32 1)) (tell_outer Fs co))
    -- the wrapper hands over the globals and ends in a trap with the flag down, in at most n steps
    pub wrapper : (W : Wrap) (operands : List Value) (g : World) (co : List CollectorCall) → W.rest ≡ after_wrapped p.module_ → WorldFits M gl g → (c : Config) × (c.world ≡ flagged M g (values.I32 0)) × (c.collected ≡ collector_calls.Frame 255 0 0 (length g.globals) ∷ tell_locals g.globals co) × Gets M' 1 n (config (w_frame W operands ∷ []) (flagged M g (values.I32 1)) co) (traps 1 c)
