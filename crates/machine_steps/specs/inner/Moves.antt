-- What a step that always goes on makes of a stack of calls.
use Rattle.std.specs.Prelude.{◌≡◌, Bool, true, false, List, [], ◌∷◌}
use Rattle.wasm_syntax.specs.declared.value.Value.{Value}
use Rattle.machine_steps.specs.declared.layout.CallFrame.{CallFrame}
use Rattle.machine_steps.specs.declared.layout.CallStack.{CallStack}
use Rattle.machine_steps.specs.declared.layout.Stepped.{Stepped}
use Rattle.machine_steps.specs.declared.layout.Stepped.TheVariants.{Next, Ended, Trap, NoMemory, Stuck}
use Rattle.machine_steps.specs.declared.layout.Reach.{Reach}
use Rattle.machine_steps.specs.declared.layout.Reach.TheVariants.{Inside, Beyond}

-- it goes on with this stack of calls
abbrev pub Becomes : Stepped → CallStack → CallStack → Type 0
Becomes Next m to = m ≡ to
Becomes NoMemory m to = Unit {0}
Becomes Ended m to = ⊥
Becomes (Trap kind) m to = ⊥
Becomes Stuck m to = ⊥

-- the value that is carried along, if there is one
abbrev pub Carried : Bool → List Value → Type 0
Carried true vs = (v : Value) × (vs ≡ v ∷ [])
Carried false vs = vs ≡ []

-- a frame was left: it goes on in one of these, or none is there
abbrev pub Leaves : Stepped → List CallFrame → CallStack → CallStack → Type 0
Leaves Next [] m to = ⊥
Leaves Next (e ∷ es) m to = m ≡ to
Leaves Ended [] m to = m ≡ to
Leaves Ended (e ∷ es) m to = ⊥
Leaves NoMemory es m to = Unit {0}
Leaves (Trap kind) es m to = ⊥
Leaves Stuck es m to = ⊥

-- what a step came to, wherever it went
abbrev pub stepped_of : Reach → Stepped
stepped_of Inside = Next
stepped_of (Beyond stepped) = stepped

-- where it goes on in its frame, the frames are as they were
abbrev pub InFrame : Reach → CallStack → CallStack → Type 0
InFrame Inside m m' = m'.frames ≡ m.frames
InFrame (Beyond stepped) m m' = Unit {0}
