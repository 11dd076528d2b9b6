-- A dump whose values are held in their ranges can be one of the module where the dump can.
use Rattle.std.proofs.Common.{◌≡◌, ◌≢◌, ℕ, zero, suc, ◌<◌, ◌&&◌, true, List, [], ◌∷◌, ◌++◌, length, map, slice_get, Option, Some, None, option_map, All, refl, sym, ap, ap₂, subst, ◌∙◌, inl, inr, ⊎_elim}
use Rattle.std.specs.Prelude.{◌⊎◌, IfSome}
use Rattle.std.proofs.lemmas.List.{length-map}
use Rattle.std.proofs.lemmas.List.Elements.{All-map}
use Rattle.wasm_syntax.specs.declared.value.ValType.{ValType}
use Rattle.wasm_syntax.specs.declared.value.Value.{Value}
use Rattle.wasm_syntax.specs.declared.value.Seen.{Seen}
use Rattle.wasm_syntax.specs.declared.value.Seen.TheVariants as seen
use Rattle.wasm_syntax.specs.declared.parts.FuncType.{FuncType}
use Rattle.wasm_syntax.specs.declared.parts.Body.{Body}
use Rattle.wasm_syntax.specs.declared.parts.Global.{Global}
use Rattle.wasm_syntax.specs.declared.module.ModuleParts.{ModuleParts as Module}
use Rattle.wasm_syntax.specs.Numbers.{IsValue}
use Rattle.wasm_syntax.specs.Module.{const_value, option_then, declared_locals}
use Rattle.wasm_syntax.specs.Static.{Spot}
use Rattle.wasm_syntax.specs.Valid.{There}
use Rattle.wasm_laws.proofs.Lists.{at_of, get_map}
use Rattle.dump_format.specs.declared.dump.Frame.{Frame}
use Rattle.dump_format.specs.declared.dump.Dump.{Dump}
use Rattle.dump_format.specs.declared.dump.Instance.{Instance}
use Rattle.dump_match.specs.declared.mismatch.Mismatch.TheVariants as rows
use Rattle.dump_match.specs.Values.{has_type, have_types, can_be}
use Rattle.dump_match.specs.Frames.{IsOf, StandsAt, instruction, is_call, can_call, shown, FunctionFits, OffsetFits, LocalsFit, OperandsFit, CallFits, CalleeFits}
use Rattle.dump_match.specs.Matching.{OneInstance, MemoryFits, global_of, BothHave, Matches}
use Rattle.accept_laws.specs.calls.Ranges.{InRanges}
use Rattle.accept_laws.proofs.Held.{held, held_seen, held_frame, held_same, held_type}

-- ---- values

has_held : (t : ValType) (v : Seen) → has_type t (held_seen v) ≡ has_type t v
has_held t (seen.I32 n) = refl
has_held t (seen.I64 n) = refl
has_held t seen.Missing = refl

have_held : (ts : List ValType) (vs : List Seen) → have_types ts (map held_seen vs) ≡ have_types ts vs
have_held [] [] = refl
have_held [] (v ∷ vs) = refl
have_held (t ∷ ts) [] = refl
have_held (t ∷ ts) (v ∷ vs) = ap₂ (λ a b. a && b) (has_held t v) (have_held ts vs)

can_be_held : (ts : List ValType) (vs : List Seen) → can_be ts vs ≡ true → can_be ts (map held_seen vs) ≡ true
can_be_held ts [] h = refl
can_be_held ts (v ∷ vs) h = have_held ts (v ∷ vs) ∙ h

-- ---- frames

there_held : (fs : List Frame) (i : ℕ) (P Q : Frame → Type 0) → ((f : Frame) → P f → Q (held_frame f)) → There fs i P → There (map held_frame fs) i Q
there_held fs i P Q h t = subst (λ o. IfSome o Q) (sym (get_map held_frame fs i)) (by_case (slice_get fs i) t)
  where
    by_case : (o : Option Frame) → IfSome o P → IfSome (option_map held_frame o) Q
    by_case None k = tt
    by_case (Some f) k = h f k

module _ (m : Module) where
  of_held : (f : Frame) (type : FuncType) (body : Body) → IsOf m f type body → IsOf m (held_frame f) type body
  of_held f type body h = record { type_is = h.type_is; body_is = h.body_is }

  function_held : (f : Frame) → FunctionFits m f → FunctionFits m (held_frame f)
  function_held f h = (h.0, h.1, of_held f h.0 h.1 h.2, tt)

  stands_held : (f : Frame) (P Q : Spot → Type 0) → ((s : Spot) → P s → Q s) → StandsAt m f P → StandsAt m (held_frame f) Q
  stands_held f P Q k h = (h.0, h.1, of_held f h.0 h.1 h.2, (h.3.0, h.3.1, k h.3.0 h.3.2))

  offset_held : (f : Frame) → OffsetFits m f → OffsetFits m (held_frame f)
  offset_held f h = stands_held f (λ s. Unit {0}) (λ s. Unit {0}) (λ s k. tt) h

  locals_held : (f : Frame) → LocalsFit m f → LocalsFit m (held_frame f)
  locals_held f h = (h.0, h.1, of_held f h.0 h.1 h.2, can_be_held (h.0.params ++ declared_locals h.1.groups) f.locals h.3)

  operands_held : (i : ℕ) (f : Frame) → OperandsFit m i f → OperandsFit m i (held_frame f)
  operands_held i f h = stands_held f (λ s. can_be (shown m i s) f.operands ≡ true) (λ s. can_be (shown m i s) (map held_seen f.operands) ≡ true) (λ s k. can_be_held (shown m i s) f.operands k) h

  call_held : (i : ℕ) (f : Frame) → CallFits m i f → CallFits m i (held_frame f)
  call_held zero f h = tt
  call_held (suc i) f h = stands_held f (λ s. is_call (instruction s.nodes) ≡ true) (λ s. is_call (instruction s.nodes) ≡ true) (λ s k. k) h

  callee_held : (fs : List Frame) (i : ℕ) (f : Frame) → CalleeFits m fs i f → CalleeFits m (map held_frame fs) i (held_frame f)
  callee_held fs zero f h = tt
  callee_held fs (suc i) f h =
      there_held fs i (λ inner. StandsAt m f (λ s. can_call m (instruction s.nodes) inner.function ≡ true)) (λ inner. StandsAt m (held_frame f) (λ s. can_call m (instruction s.nodes) inner.function ≡ true))
      (λ inner k. stands_held f (λ s. can_call m (instruction s.nodes) inner.function ≡ true) (λ s. can_call m (instruction s.nodes) inner.function ≡ true) (λ s q. q) k) h

-- ---- globals

then_held : (vs : List Value) (o : Option ℕ) → option_then o (slice_get (map held vs)) ≡ option_map held (option_then o (slice_get vs))
then_held vs None = refl
then_held vs (Some i) = get_map held vs i

both_held : (m : Module) → InRanges m → (i : ℕ) (o : Option Value) (q : Option Global) → slice_get m.globals i ≡ q → BothHave o q → BothHave (option_map held o) q
both_held m r i None None e h = tt
both_held m r i None (Some g) e h = absurd h
both_held m r i (Some v) None e h = absurd h
both_held m r i (Some v) (Some g) e h =
    let in_range = at_of (λ g. (v : Value) → const_value [] g.init.ops ≡ Some v → IsValue v) m.globals i g r.globals e in
    (held_type v ∙ h.0, λ im. h.1 im ∙ ap Some (sym (held_same v (in_range v (h.1 im)))))

-- ---- the dump

-- the second dump is the first one with held values
pub record Holds (d e : Dump) : Type 0 where
  pub instances : e.instances ≡ d.instances
  pub modules : e.modules ≡ d.modules
  pub memory : e.memory ≡ d.memory
  pub frames : e.frames ≡ map held_frame d.frames
  pub globals : e.globals ≡ map held d.globals

module _ (m : Module) (d e : Dump) (h : Holds d e) where
  one_held : (one : Instance) → OneInstance d one → OneInstance e one
  one_held one k = record {
    alone = h.instances ∙ k.alone;
    of_module = subst (λ ms. one.«module» < length ms) (sym h.modules) k.of_module;
    memories = subst (λ o. (one.memories ≡ []) ⊎ ((one.memories ≡ 0 ∷ []) × (o ≢ None))) (sym h.memory) k.memories;
    globals = subst (λ n. All (λ g. g < n) one.globals) (sym (ap length h.globals ∙ length-map d.globals held)) k.globals;
    frames = subst (All (λ f. f.instance ≡ 0)) (sym h.frames) (All-map (λ f. f.instance ≡ 0) held_frame d.frames k.frames);
  }

  memory_held : (one : Instance) → MemoryFits m d one → MemoryFits m e one
  memory_held one k ne = let x = k ne in (x.0, x.1, x.2, h.memory ∙ x.3, x.4, x.5)

  global_held : InRanges m → (i : ℕ) (one : Instance) → BothHave (global_of d one i) (slice_get m.globals i) → BothHave (global_of e one i) (slice_get m.globals i)
  global_held r i one k =
      let same : global_of e one i ≡ option_map held (global_of d one i) = ap (λ vs. option_then (slice_get one.globals i) (slice_get vs)) h.globals ∙ then_held d.globals (slice_get one.globals i) in
      subst (λ o. BothHave o (slice_get m.globals i)) (sym same) (both_held m r i (global_of d one i) (slice_get m.globals i) refl k)

  frame_held : (i : ℕ) (P Q : Frame → Type 0) → ((f : Frame) → P f → Q (held_frame f)) → There d.frames i P → There e.frames i Q
  frame_held i P Q k t = subst (λ fs. There fs i Q) (sym h.frames) (there_held d.frames i P Q k t)

  pub matches_held : InRanges m → Matches m d → Matches m e
  matches_held r k rows.Instance = let x = k rows.Instance in (x.0, one_held x.0 x.1)
  matches_held r k rows.Memory = let x = k rows.Memory in (x.0, h.instances ∙ x.1, memory_held x.0 x.2)
  matches_held r k (rows.Global i) = let x = k (rows.Global i) in (x.0, h.instances ∙ x.1, ⊎_elim (λ a. inl a) (λ b. inr (global_held r i x.0 b)) x.2)
  matches_held r k (rows.Function i) = frame_held i (FunctionFits m) (FunctionFits m) (function_held m) (k (rows.Function i))
  matches_held r k (rows.Offset i) = frame_held i (OffsetFits m) (OffsetFits m) (offset_held m) (k (rows.Offset i))
  matches_held r k (rows.Locals i) = frame_held i (LocalsFit m) (LocalsFit m) (locals_held m) (k (rows.Locals i))
  matches_held r k (rows.Operands i) = frame_held i (OperandsFit m i) (OperandsFit m i) (operands_held m i) (k (rows.Operands i))
  matches_held r k (rows.NotACall i) = frame_held i (CallFits m i) (CallFits m i) (call_held m i) (k (rows.NotACall i))
  matches_held r k (rows.Callee i) =
      frame_held i (CalleeFits m d.frames i) (CalleeFits m e.frames i)
      (λ f t. subst (λ fs. CalleeFits m fs i (held_frame f)) (sym h.frames) (callee_held m d.frames i f t)) (k (rows.Callee i))
