-- Where the steps of a run are made (Core 4.4, 4.5): each at the instruction at which the innermost frame stands before it.
use Rattle.std.specs.Prelude.{ℕ, zero, suc, ◌+◌, List, [], ◌∷◌, ◌++◌, length, slice_get, Option, Some, None, option_map}
use Rattle.wasm_syntax.specs.declared.value.Value.{Value}
use Rattle.wasm_syntax.specs.declared.parts.Body.{Body}
use Rattle.wasm_syntax.specs.declared.instruction.Op.{Op}
use Rattle.wasm_syntax.specs.declared.module.ModuleParts.{ModuleParts as Module}
use Rattle.wasm_syntax.specs.declared.host.CollectorCall.{CollectorCall}
use Rattle.wasm_syntax.specs.Module.{Function, imported, defined, function_at, option_then}
use Rattle.wasm_syntax.specs.Host.{World}
use Rattle.wasm_syntax.specs.Machine.{Engine, Frame, Config, config, Stepped, next, ends, step, entered, offset_of}
use Rattle.wasm_syntax.specs.Run.{run_function}

-- an instruction of a function, by its code offset
pub record Place : Type 0 where
  pub function : ℕ
  pub offset : ℕ

-- The innermost frame stands at its next instruction: at a node, or at the `end` or `else` behind its nodes. With no frame there is none.
abbrev pub place_in : List Frame → Option Place
place_in [] = None
place_in (f ∷ fs) = Some (record { function = f.function; offset = offset_of f.labels })

abbrev pub place_of : Config → Option Place
place_of c = place_in c.frames

-- An import that is called with no frame is one step at no place.
abbrev pub alone_places : ℕ → List (Option Place)
alone_places zero = []
alone_places (suc n) = None ∷ []

module _ (M : Engine) where
  -- those of the steps behind one, where the run goes on
  abbrev pub places_behind : (Config → List (Option Place)) → Stepped → List (Option Place)
  places_behind go (next c) = go c
  places_behind go _ = []

  -- Those of at most so many steps from a configuration, in their order. A step that ends, that traps, or that has no fitting reply is made too.
  abbrev pub step_places : ℕ → Config → List (Option Place)
  step_places zero c = []
  step_places (suc n) c = place_of c ∷ places_behind (step_places n) (step M c)

  abbrev pub function_places : ℕ → Option Function → ℕ → List Value → World → List CollectorCall → List (Option Place)
  function_places f None n args w co = []
  function_places f (Some (imported import type)) n args w co = alone_places n
  function_places f (Some (defined body tree type)) n args w co = step_places n (config (entered f body tree type args ∷ []) w co)

  -- those of a function on these arguments
  abbrev pub entry_places : ℕ → ℕ → List Value → World → List CollectorCall → List (Option Place)
  entry_places n f args w co = function_places f (function_at M.program f) n args w co

  -- those of the entry behind the start function, where that ended
  abbrev pub places_on : Stepped → ℕ → ℕ → List Value → List (Option Place)
  places_on (ends w vs co) n f args = entry_places n f args w co
  places_on _ n f args = []

  -- those of an invocation: of the start function, where it is due, and then of the entry
  abbrev pub invocation_places : Option ℕ → ℕ → ℕ → List Value → World → List (Option Place)
  invocation_places None n f args w = entry_places n f args w []
  invocation_places (Some start) n f args w =
      let e = run_function M n start (function_at M.program start) [] w [] in entry_places n start [] w [] ++ places_on e.what e.left f args

-- ---- the same in flat code

-- the instruction of an index in the body of a defined function, which is counted without the imports
abbrev pub flat_place : Module → ℕ → ℕ → Option Place
flat_place m f i =
    option_then (slice_get m.bodies f) (λ (body : Body).
    option_map (λ (op : Op). record { function = length m.imports + f; offset = op.at }) (slice_get body.ops i))
