-- What is known of where the labels and frames of a configuration stand: in live code of the bodies, with the operands that stand there.
use Rattle.std.proofs.Common.{◌≡◌, ℕ, true, List, [], ◌∷◌, ◌++◌, length}
use Rattle.std.specs.Prelude.{Option, option_to_list}
use Rattle.wasm_syntax.specs.declared.value.ValType.{ValType}
use Rattle.wasm_syntax.specs.declared.value.Value.{Value}
use Rattle.wasm_syntax.specs.declared.module.ModuleParts.{ModuleParts as Module}
use Rattle.wasm_syntax.specs.Numbers.{types}
use Rattle.wasm_syntax.specs.Tree.{Jump, Goes, Nodes, jump, loop}
use Rattle.wasm_syntax.specs.Module.{Program}
use Rattle.wasm_syntax.specs.Machine.{Kind, leaves, again, returns, Label, Frame}
use Rattle.wasm_syntax.specs.Typing.{Context, within, Types}
use Rattle.wasm_syntax.specs.Static.{Spot, spot, Live, IsNode}
use Rattle.wasm_laws.proofs.Safe.{end_type, at_labels, FrameFine, context_of}
use Rattle.dump_match.specs.Frames.{taken, can_call}

-- the types of the operands of all labels, the topmost first
abbrev pub outs : List Label → List ValType
outs [] = []
outs (l ∷ ls) = types l.operands ++ outs ls

-- the nodes are well typed, and each spot that is live from here on is one of these
abbrev pub Runs : Context → (Spot → Type 0) → Nodes → List ValType → List ValType → List ValType → Type 0
Runs c T nodes before outside after = Types c nodes before after × ((s : Spot) → Live c nodes before outside s → T s)

-- the function's label is the outermost, and a loop can begin anew
abbrev pub KindAt : Context → (Spot → Type 0) → Kind → List Label → Type 0
KindAt c T (leaves t) [] = ⊥
KindAt c T (leaves t) (_ ∷ _) = Unit {0}
KindAt c T (again at t body end) [] = ⊥
KindAt c T (again at t body end) (l ∷ ls) =
    Types (within (at_labels c (l ∷ ls)) []) body [] (option_to_list t)
    × ((s : Spot) → Live (at_labels c (l ∷ ls)) (loop at t body end l.nodes) (types l.operands) (outs ls) s → T s)
KindAt c T (returns t) [] = option_to_list t ≡ c.returns
KindAt c T (returns t) (_ ∷ _) = ⊥

-- these labels wait for results of these types
abbrev pub LabelsAt : Context → (Spot → Type 0) → List ValType → List Label → Type 0
LabelsAt c T awaited [] = Unit {0}
LabelsAt c T awaited (l ∷ ls) =
    Runs (at_labels c (l ∷ ls)) T l.nodes (awaited ++ types l.operands) (outs ls) (option_to_list (end_type l.kind))
    × KindAt c T l.kind ls × LabelsAt c T (option_to_list (end_type l.kind)) ls

abbrev pub OpenAt : Context → (Spot → Type 0) → List ValType → List Label → Type 0
OpenAt c T awaited [] = ⊥
OpenAt c T awaited (l ∷ ls) = LabelsAt c T awaited (l ∷ ls)

-- the label is behind a call at this offset that can have called the function
pub record CallAt (m : Module) (T : Spot → Type 0) (o g : ℕ) (l : Label) (ls : List Label) : Type 0 where
  pub call : Jump
  pub takes : List ValType
  pub calls : can_call m (Goes call) g ≡ true
  pub count : taken m (Goes call) ≡ length takes
  pub there : T (spot (jump o call l.nodes) (takes ++ types l.operands) (outs ls))

abbrev pub CalledAt : Module → (Spot → Type 0) → ℕ → ℕ → List Label → Type 0
CalledAt m T o g [] = ⊥
CalledAt m T o g (l ∷ ls) = CallAt m T o g l ls

-- the live spots of the function's body
abbrev pub live_in : (p : Program) (f : ℕ) (r : Option ValType) (locals : List Value) → FrameFine p f r locals → Spot → Type 0
live_in p f r locals k s = Live (context_of p f r locals k) k.tree.nodes [] [] s

-- the frames under one of the function g, which gives r
abbrev pub CallersAt : Program → ℕ → Option ValType → List Frame → Type 0
CallersAt p g r [] = Unit {0}
CallersAt p g r (f ∷ fs) =
    (k : FrameFine p f.function f.result f.locals)
    × OpenAt (context_of p f.function f.result f.locals k) (live_in p f.function f.result f.locals k) (option_to_list r) f.labels
    × CalledAt p.module_ (live_in p f.function f.result f.locals k) f.call g f.labels × CallersAt p f.function f.result fs

abbrev pub FramesAt : Program → List Frame → Type 0
FramesAt p [] = ⊥
FramesAt p (f ∷ fs) =
    (k : FrameFine p f.function f.result f.locals)
    × OpenAt (context_of p f.function f.result f.locals k) (live_in p f.function f.result f.locals k) [] f.labels × CallersAt p f.function f.result fs

-- the innermost frame is before an instruction
abbrev pub FirstIsNode : List Label → Type 0
FirstIsNode [] = ⊥
FirstIsNode (l ∷ ls) = IsNode l.nodes

abbrev pub AtNode : List Frame → Type 0
AtNode [] = ⊥
AtNode (f ∷ fs) = FirstIsNode f.labels
