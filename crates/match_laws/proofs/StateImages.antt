-- The image of each state of a run can be that of a state of the module.
use Rattle.std.proofs.Common.{◌≡◌, ℕ, zero, suc, Bool, List, [], ◌∷◌, length, Some, refl, sym, ap, subst, ◌∙◌, inr}
use Rattle.std.specs.Prelude.{◌⊎◌}
use Rattle.std.specs.List.{AllByRecursion}
use Rattle.wasm_syntax.specs.declared.parts.FuncType.{FuncType}
use Rattle.wasm_syntax.specs.declared.parts.Body.{Body}
use Rattle.wasm_syntax.specs.declared.host.Reply.{Reply}
use Rattle.wasm_syntax.specs.declared.module.ModuleParts.{ModuleParts as Module}
use Rattle.wasm_syntax.specs.Sizes.{WithinLimits}
use Rattle.wasm_syntax.specs.Tree.{Tree, Nodes, stop, basic, jump, block, loop, choose}
use Rattle.wasm_syntax.specs.Module.{Program, IsProgram, defined, function_at}
use Rattle.wasm_syntax.specs.Host.{World}
use Rattle.wasm_syntax.specs.Machine.{Label, Frame, Config, Engine, offset_in, offset_of}
use Rattle.wasm_syntax.specs.Static.{IsNode}
use Rattle.wasm_syntax.specs.Valid.{Valid, There}
use Rattle.wasm_syntax.specs.Run.{Ran, Invocation, engine, cause_of, run}
use Rattle.dump_format.specs.declared.dump.Dump.{Dump}
use Rattle.dump_format.specs.declared.dump.Frame.{Frame as ShownFrame}
use Rattle.dump_match.specs.declared.mismatch.Mismatch.TheVariants as rows
use Rattle.dump_match.specs.Frames.{FunctionFits, OffsetFits, LocalsFit, OperandsFit, CallFits, CalleeFits}
use Rattle.dump_match.specs.States.{SomeClosesAt, AtClose, MatchesState}
use Rattle.dump_match.proofs.InState.{eases}
use Rattle.match_laws.specs.calls.TrapDumps.{dump_at}
use Rattle.match_laws.specs.calls.StateDumps.{StatesMatch}
use Rattle.wasm_laws.proofs.Safe.{context_of}
use Rattle.match_laws.proofs.Placed.{OpenAt, live_in, FramesAt, FirstIsNode}
use Rattle.match_laws.proofs.Standing.{WorldAt}
use Rattle.match_laws.proofs.Frames.{defined_is, shown_frame, shown_callers, function_fits, locals_fit, AllCallers, callers_fit}
use Rattle.match_laws.proofs.Closings.{Closed, LabelCloses, FramesClose, body_closes, entered_closes, step_closes}
use Rattle.match_laws.proofs.RunStates.{LastHas, unless_has}
use Rattle.match_laws.proofs.Images.{one_of, IsImage, is_image, outer_function, outer_offset, outer_locals, outer_operands, outer_call, outer_callee, instance_fits, memory_there, global_there, matches_image}
use Rattle.match_laws.proofs.TrapRuns.{StandAt, StateAt, states_stand}

module _ (p : Program) (is_program : IsProgram p) where
  abbrev m : Module
  m = p.module_

  -- an `else` or `end` of a function that the program defines begins at this offset
  abbrev pub ClosesIn : ℕ → ℕ → Type 0
  ClosesIn g o = (b : Body) × (tree : Tree) × (type : FuncType) × (function_at p g ≡ Some (defined b tree type)) × SomeClosesAt b.ops o

  begins_closed : (g : ℕ) (b : Body) (tree : Tree) (type : FuncType) → function_at p g ≡ Some (defined b tree type) → ClosesIn g tree.end × Closed (ClosesIn g) tree.nodes
  begins_closed g b tree type e =
      body_closes (ClosesIn g) b tree (defined_is p is_program g b tree type e).writes (λ n o at close. (b, tree, type, e, (n, (o, at, refl, close))))

  pub states_close : (collecting : Bool) (is : List Invocation) (replies : List Reply) (d n : ℕ) → AllByRecursion (LastHas (FramesClose ClosesIn)) (run p collecting is replies d n)
  states_close collecting is replies d n =
      let M : Engine = engine p collecting d in
      unless_has M (FramesClose ClosesIn) tt (λ f b tree type args e. (entered_closes M ClosesIn begins_closed f b tree type args e, tt)) (step_closes M ClosesIn begins_closed) (cause_of m is) is replies n

  -- ---- images

  at_close : (f : Frame) (o : ℕ) → ClosesIn f.function o → AtClose m (shown_frame o f)
  at_close f o h =
      let x = defined_is p is_program f.function h.0 h.1 h.2 h.3 in
      (h.2, h.0, record { type_is = x.type_is; body_is = x.body_is }, h.4)

  -- no frame
  no_frames : (d : Dump) (w : World) → IsImage d (record { frames = []; world = w; collected = [] }) → WorldAt m w → MatchesState m d
  no_frames d w is wf rows.Instance = (one_of w, instance_fits p is_program d [] w is wf)
  no_frames d w is wf rows.Memory = (one_of w, is.instances, memory_there p is_program d [] w is wf)
  no_frames d w is wf (rows.Global i) = (one_of w, is.instances, inr (global_there p is_program d [] w is wf i))
  no_frames d w is wf (rows.Function i) = subst (λ all. There all i (FunctionFits m)) (sym is.frames) tt
  no_frames d w is wf (rows.Offset zero) = subst (λ all. There all 0 (λ f. OffsetFits m f ⊎ AtClose m f)) (sym is.frames) tt
  no_frames d w is wf (rows.Offset (suc i)) = subst (λ all. There all (suc i) (OffsetFits m)) (sym is.frames) tt
  no_frames d w is wf (rows.Locals i) = subst (λ all. There all i (LocalsFit m)) (sym is.frames) tt
  no_frames d w is wf (rows.Operands zero) = subst (λ all. There all 0 (λ f. OperandsFit m 0 f ⊎ AtClose m f)) (sym is.frames) tt
  no_frames d w is wf (rows.Operands (suc i)) = subst (λ all. There all (suc i) (OperandsFit m (suc i))) (sym is.frames) tt
  no_frames d w is wf (rows.NotACall i) = subst (λ all. There all i (CallFits m i)) (sym is.frames) tt
  no_frames d w is wf (rows.Callee i) = subst (λ all. There all i (CalleeFits m all i)) (sym is.frames) tt

  module _ (d : Dump) (f : Frame) (fs : List Frame) (w : World) (is : IsImage d (record { frames = f ∷ fs; world = w; collected = [] })) (wf : WorldAt m w) (ff : FramesAt p (f ∷ fs)) where
    abbrev x0 : ShownFrame
    x0 = shown_frame (offset_of f.labels) f

    abbrev callers : List ShownFrame
    callers = shown_callers p is_program fs

    abbrev all_frames : List ShownFrame
    all_frames = x0 ∷ callers

    others : AllCallers p is_program x0.function callers
    others = callers_fit p is_program fs f.function f.result ff.2

    function_at_close : (i : ℕ) → There all_frames i (FunctionFits m)
    function_at_close zero = function_fits p is_program f ff.0 (offset_of f.labels)
    function_at_close (suc i) = outer_function p is_program x0 callers others i

    locals_at_close : (i : ℕ) → There all_frames i (LocalsFit m)
    locals_at_close zero = locals_fit p is_program f ff.0 (offset_of f.labels)
    locals_at_close (suc i) = outer_locals p is_program x0 callers others i

    call_at_close : (i : ℕ) → There all_frames i (CallFits m i)
    call_at_close zero = tt
    call_at_close (suc i) = outer_call p is_program x0 callers others i

    callee_at_close : (i : ℕ) → There all_frames i (CalleeFits m all_frames i)
    callee_at_close zero = tt
    callee_at_close (suc i) = outer_callee p is_program x0 callers others i

    -- the innermost frame is at an `else` or `end`
    closing : AtClose m x0 → MatchesState m d
    closing close rows.Instance = (one_of w, instance_fits p is_program d (f ∷ fs) w is wf)
    closing close rows.Memory = (one_of w, is.instances, memory_there p is_program d (f ∷ fs) w is wf)
    closing close (rows.Global i) = (one_of w, is.instances, inr (global_there p is_program d (f ∷ fs) w is wf i))
    closing close (rows.Function i) = subst (λ all. There all i (FunctionFits m)) (sym is.frames) (function_at_close i)
    closing close (rows.Offset zero) = subst (λ all. There all 0 (λ f. OffsetFits m f ⊎ AtClose m f)) (sym is.frames) (inr close)
    closing close (rows.Offset (suc i)) = subst (λ all. There all (suc i) (OffsetFits m)) (sym is.frames) (outer_offset p is_program x0 callers others i)
    closing close (rows.Locals i) = subst (λ all. There all i (LocalsFit m)) (sym is.frames) (locals_at_close i)
    closing close (rows.Operands zero) = subst (λ all. There all 0 (λ f. OperandsFit m 0 f ⊎ AtClose m f)) (sym is.frames) (inr close)
    closing close (rows.Operands (suc i)) = subst (λ all. There all (suc i) (OperandsFit m (suc i))) (sym is.frames) (outer_operands p is_program x0 callers others i)
    closing close (rows.NotACall i) = subst (λ all. There all i (CallFits m i)) (sym is.frames) (call_at_close i)
    closing close (rows.Callee i) = subst (λ all. There all i (CalleeFits m all i)) (sym is.frames) (callee_at_close i)

  -- the innermost frame is before an instruction
  by_node : (d : Dump) (f : Frame) (fs : List Frame) (w : World) (l : Label) (ls : List Label) → f.labels ≡ l ∷ ls → IsImage d (record { frames = f ∷ fs; world = w; collected = [] }) → WorldAt m w → FramesAt p (f ∷ fs) → IsNode l.nodes → MatchesState m d
  by_node d f fs w l ls e is wf ff n = λ row. eases m d row (matches_image p is_program d f fs w is wf ff (subst FirstIsNode (sym e) n) row)

  -- by what comes next in the innermost label
  by_next : (d : Dump) (f : Frame) (fs : List Frame) (w : World) (l : Label) (ls : List Label) (ns : Nodes) → f.labels ≡ l ∷ ls → l.nodes ≡ ns → IsImage d (record { frames = f ∷ fs; world = w; collected = [] }) → WorldAt m w → FramesAt p (f ∷ fs) → LabelCloses (ClosesIn f.function) l → MatchesState m d
  by_next d f fs w l ls stop e n is wf ff c =
      let o : offset_of f.labels ≡ l.end = ap offset_of e ∙ ap (λ ns. offset_in ns l.end) n in
      closing d f fs w is wf ff (at_close f (offset_of f.labels) (subst (ClosesIn f.function) (sym o) c.0))
  by_next d f fs w l ls (basic at i rest) e n is wf ff c = by_node d f fs w l ls e is wf ff (subst IsNode (sym n) tt)
  by_next d f fs w l ls (jump at j rest) e n is wf ff c = by_node d f fs w l ls e is wf ff (subst IsNode (sym n) tt)
  by_next d f fs w l ls (block at t body end rest) e n is wf ff c = by_node d f fs w l ls e is wf ff (subst IsNode (sym n) tt)
  by_next d f fs w l ls (loop at t body end rest) e n is wf ff c = by_node d f fs w l ls e is wf ff (subst IsNode (sym n) tt)
  by_next d f fs w l ls (choose at t a ea b end rest) e n is wf ff c = by_node d f fs w l ls e is wf ff (subst IsNode (sym n) tt)

  by_labels : (d : Dump) (f : Frame) (fs : List Frame) (w : World) (ls : List Label) → f.labels ≡ ls → IsImage d (record { frames = f ∷ fs; world = w; collected = [] }) → WorldAt m w → FramesAt p (f ∷ fs) → AllByRecursion (LabelCloses (ClosesIn f.function)) ls → MatchesState m d
  by_labels d f fs w [] e is wf ff c = absurd (subst (λ ls. OpenAt (context_of p f.function f.result f.locals ff.0) (live_in p f.function f.result f.locals ff.0) [] ls) e ff.1)
  by_labels d f fs w (l ∷ ls) e is wf ff c = by_next d f fs w l ls l.nodes e refl is wf ff c.0

  by_frames : (d : Dump) (fs : List Frame) (w : World) → IsImage d (record { frames = fs; world = w; collected = [] }) → WorldAt m w → StandAt p fs → FramesClose ClosesIn fs → MatchesState m d
  by_frames d [] w is wf ff c = no_frames d w is wf
  by_frames d (f ∷ fs) w is wf ff c = by_labels d f fs w f.labels refl is wf ff c.0

  image_matches : (d : Dump) (c : Config) → IsImage d c → StateAt p c → FramesClose ClosesIn c.frames → MatchesState m d
  image_matches d c is h k = by_frames d c.frames c.world (record { instances = is.instances; modules = is.modules; memory = is.memory; globals = is.globals; frames = is.frames }) h.0 h.1 k

  all_match : (rans : List Ran) → AllByRecursion (λ r. (c : Config) → r.last ≡ Some c → StateAt p c) rans → AllByRecursion (LastHas (FramesClose ClosesIn)) rans
      → AllByRecursion (λ r. (c : Config) → r.last ≡ Some c → (d : Dump) → IsImage d c → MatchesState m d) rans
  all_match [] h k = tt
  all_match (r ∷ rs) h k = (λ c e d is. image_matches d c is (h.0 c e) (k.0 c e), all_match rs h.1 k.1)

  dumps_match : (rans : List Ran) → AllByRecursion (λ r. (c : Config) → r.last ≡ Some c → (d : Dump) → IsImage d c → MatchesState m d) rans → StatesMatch m rans
  dumps_match [] h = tt
  dumps_match (r ∷ rs) h = (λ c e name. h.0 c e (dump_at c name) (is_image c name), dumps_match rs h.1)

-- each image of a state can be that of a state of the module
pub images_match : (p : Program) → IsProgram p → length p.module_.bodies ≡ length p.module_.functions → Valid p.module_ → WithinLimits p.module_ → (collecting : Bool) (is : List Invocation) (replies : List Reply) (d n : ℕ)
    → AllByRecursion (λ r. (c : Config) → r.last ≡ Some c → (dump : Dump) → IsImage dump c → MatchesState p.module_ dump) (run p collecting is replies d n)
images_match p is_program e valid limits collecting is replies d n =
    all_match p is_program (run p collecting is replies d n) (states_stand p is_program e valid limits collecting is replies d n) (states_close p is_program collecting is replies d n)

-- the dump of each state can be one of a state of the module
pub states_match : (p : Program) → IsProgram p → length p.module_.bodies ≡ length p.module_.functions → Valid p.module_ → WithinLimits p.module_ → (collecting : Bool) (is : List Invocation) (replies : List Reply) (d n : ℕ) → StatesMatch p.module_ (run p collecting is replies d n)
states_match p is_program e valid limits collecting is replies d n =
    dumps_match p is_program (run p collecting is replies d n) (images_match p is_program e valid limits collecting is replies d n)
