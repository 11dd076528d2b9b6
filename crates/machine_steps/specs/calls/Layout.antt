-- The frames that a stack of calls stands for.
use Rattle.std.specs.Prelude.{◌≡◌, ℕ, suc, ◌+◌, List, [], ◌∷◌, ◌++◌, reverse, length, Option, Some, None, slice_get, ◌⊎◌}
use Rattle.wasm_syntax.specs.declared.value.ValType.{ValType}
use Rattle.wasm_syntax.specs.declared.value.Value.{Value}
use Rattle.wasm_syntax.specs.declared.parts.FuncType.{FuncType}
use Rattle.wasm_syntax.specs.Tree.{loop, Tree, Item, Else, End, Placed}
use Rattle.wasm_syntax.specs.Module.{Program, defined, defined_at}
use Rattle.wasm_syntax.specs.Machine.{Kind, leaves, again, returns, Label, Frame, joined, result_of}
use Rattle.machine_code.specs.declared.sides.Side.{Side}
use Rattle.machine_code.specs.declared.code.Code.{Code}
use Rattle.machine_code.specs.calls.Flat.{Is, At, size}
use Rattle.machine_code.specs.calls.Code.{FitsCode, items, gives_one}
use Rattle.machine_steps.specs.declared.layout.Control.{Control}
use Rattle.machine_steps.specs.declared.layout.CallFrame.{CallFrame}
use Rattle.machine_steps.specs.declared.layout.CallStack.{CallStack}

abbrev pub control : ℕ → ℕ → Option ValType → Control
control goes_to height t = record { goes_to = goes_to; height = height; carries = gives_one t }

module _ (code : List Placed) (sides : List Side) where
  -- At this index stands what closes a label: an `end`, behind which the code goes on, or an `else`, from which it goes on where a branch
  -- does.
  abbrev pub Closes : ℕ → ℕ → ℕ → Type 0
  Closes e at goes_to = (Is code sides e at End × (goes_to ≡ suc e)) ⊎ Is code sides e at Else

  module _ (result : Option ValType) (floor : ℕ) where
    -- what is outside a label of this kind, whose closing instruction stands at the index e with the offset at: labels and their controls
    abbrev pub Under : Kind → List Label → ℕ → ℕ → List Control → Type 0
    Under (returns t) ls e at ks = Is code sides e at End × (t ≡ result) × (ls ≡ []) × (ks ≡ [])
    Under (leaves t) [] e at ks = ⊥
    Under (leaves t) (l ∷ ls) e at [] = ⊥
    Under (leaves t) (l ∷ ls) e at (k ∷ ks) =
        Closes e at k.goes_to × (k ≡ control k.goes_to (length (joined (l ∷ ls)) + floor) t)
        × At code sides l.nodes k.goes_to × Under l.kind ls (k.goes_to + size l.nodes) l.end ks
    Under (again o t body end) [] e at ks = ⊥
    Under (again o t body end) (l ∷ ls) e at [] = ⊥
    Under (again o t body end) (l ∷ ls) e at (k ∷ ks) =
        (e ≡ suc k.goes_to + size body) × Is code sides e at End × (k ≡ control k.goes_to (length (joined (l ∷ ls)) + floor) None)
        × At code sides (loop o t body end l.nodes) k.goes_to × Under l.kind ls (suc e + size l.nodes) l.end ks

    -- the labels of a frame that stands at this index with these controls
    abbrev pub Labels : List Label → ℕ → List Control → Type 0
    Labels [] pc ks = ⊥
    Labels (l ∷ ls) pc ks = At code sides l.nodes pc × Under l.kind ls (pc + size l.nodes) l.end ks

module _ (p : Program) (codes : List Code) where
  -- a frame with these labels and its entry, at an index of this code, with its controls and values above those below
  pub record Level (function : ℕ) (result : Option ValType) (locals : List Value) (labels : List Label) (e : CallFrame) (code : Code) (pc : ℕ) (ks : List Control) (vs : List Value) (ks_below : List Control) (vs_below : List Value) : Type 0 where
    pub tree : Tree
    pub type : FuncType
    pub is_defined : defined_at p e.function ≡ Some (defined code.body.now tree type)
    pub index : function ≡ length p.module_.imports + e.function
    pub code_is : slice_get codes e.function ≡ Some code
    pub fits : FitsCode tree type code
    pub result_is : result ≡ result_of type
    pub base : e.base ≡ length vs_below
    pub controls : e.controls ≡ length ks_below
    pub floor : e.floor ≡ length locals + length vs_below
    pub mine : List Control
    pub ks_are : ks ≡ mine ++ ks_below
    pub vs_are : vs ≡ joined labels ++ (reverse locals ++ vs_below)
    pub labels_are : Labels (items code) code.sides result (length locals + length vs_below) labels pc mine

  -- behind a call at this offset
  abbrev pub Called : Code → ℕ → ℕ → Type 0
  Called code at pc = (before : ℕ) × (item : Item) × (pc ≡ suc before) × Is (items code) code.sides before at item

  -- frames that wait for the one above, the innermost of them at this index
  abbrev pub Waiting : List Frame → List CallFrame → ℕ → List Control → List Value → Type 0
  Waiting [] [] pc ks vs = (ks ≡ []) × (vs ≡ [])
  Waiting [] (e ∷ es) pc ks vs = ⊥
  Waiting (f ∷ fs) [] pc ks vs = ⊥
  Waiting (f ∷ fs) (e ∷ es) pc ks vs =
      (code : Code) × (ks' : List Control) × (vs' : List Value) × Level f.function f.result f.locals f.labels e code pc ks vs ks' vs' × Called code f.call pc × Waiting fs es e.returns_to ks' vs'

  -- all frames, the innermost one at this index
  abbrev pub Frames : List Frame → List CallFrame → ℕ → List Control → List Value → Type 0
  Frames [] es pc ks vs = ⊥
  Frames (f ∷ fs) [] pc ks vs = ⊥
  Frames (f ∷ fs) (e ∷ es) pc ks vs =
      (code : Code) × (ks' : List Control) × (vs' : List Value) × Level f.function f.result f.locals f.labels e code pc ks vs ks' vs' × Waiting fs es e.returns_to ks' vs'

  abbrev pub StandsFor : CallStack → List Frame → Type 0
  StandsFor m fs = Frames fs m.frames m.position m.controls m.values
