-- The image of a configuration that stands at a trap can be one of the module.
use Rattle.std.proofs.Common.{◌≡◌, ◌≢◌, ℕ, zero, suc, ◌+◌, ◌/◌, ◌<◌, ◌≤◌, min, true, List, [], ◌∷◌, map, length, slice_get, get_or, Option, Some, None, option_map, unwrap_or, refl, sym, ap, subst, ◌∙◌, arith, inl, inr, ⊎_elim}
use Rattle.std.specs.Prelude.{◌⊎◌, IfSome, All}
use Rattle.std.specs.List.{range_with_len}
use Rattle.wasm_syntax.specs.declared.value.Value.{Value}
use Rattle.wasm_syntax.specs.declared.parts.Limits.{Limits}
use Rattle.wasm_syntax.specs.declared.parts.Global.{Global}
use Rattle.wasm_syntax.specs.declared.module.ModuleParts.{ModuleParts as Module}
use Rattle.linear_memory.specs.Memory.{Memory, page_size, pages}
use Rattle.wasm_syntax.specs.Numbers.{types}
use Rattle.wasm_syntax.specs.Module.{Program, IsProgram, option_then}
use Rattle.wasm_syntax.specs.Host.{World}
use Rattle.wasm_syntax.specs.Machine.{Frame, Config, offset_of}
use Rattle.wasm_syntax.specs.Static.{Spot}
use Rattle.wasm_syntax.specs.Valid.{There}
use Rattle.wasm_laws.proofs.Progress.{head, tail, HasMemory}
use Rattle.dump_format.specs.declared.dump.Dump.{Dump}
use Rattle.dump_format.specs.declared.dump.Frame.{Frame as ShownFrame}
use Rattle.dump_format.specs.declared.dump.Instance.{Instance}
use Rattle.dump_write.specs.Image.{frame_images}
use Rattle.dump_write.specs.ImageBytes.{frame_of}
use Rattle.dump_write.specs.Canonical.{memory_indices, instance_of, in_instance, canonical}
use Rattle.dump_match.specs.declared.mismatch.Mismatch.TheVariants as rows
use Rattle.dump_match.specs.Values.{can_be}
use Rattle.dump_match.specs.Frames.{instruction, is_call, can_call, shown, StandsAt, FunctionFits, OffsetFits, LocalsFit, OperandsFit, CallFits, CalleeFits}
use Rattle.dump_match.specs.Matching.{OneInstance, MemoryFits, global_of, BothHave, Matches}
use Rattle.match_laws.specs.calls.TrapDumps.{dump_at}
use Rattle.match_laws.proofs.Placed.{FramesAt, AtNode}
use Rattle.match_laws.proofs.Kept.{SizeKept, FirstKept}
use Rattle.match_laws.proofs.Standing.{WorldAt}
use Rattle.match_laws.proofs.Frames.{shown_frame, map_stands, InnerFits, inner_fits, AllCallers, shown_callers, callers_fit, caller_at}
use Rattle.pm_text.proofs.Lists.{get_range}

-- ---- the parts of the dump

-- the size in pages
abbrev pub size_of : Option Memory → Option ℕ
size_of o = option_map (λ bytes. length bytes / page_size) (option_map (λ k. k.bytes) o)

abbrev pub one_of : World → Instance
one_of w = record { «module» = 0; memories = memory_indices (size_of w.memory); globals = range_with_len 0 (length w.globals) }

abbrev pub shown_frames : List Frame → List ShownFrame
shown_frames fs = map in_instance (map frame_of (frame_images fs))

pub record IsImage (d : Dump) (c : Config) : Type 0 where
  pub instances : d.instances ≡ one_of c.world ∷ []
  pub modules : 0 < length d.modules
  pub memory : d.memory ≡ size_of c.world.memory
  pub globals : d.globals ≡ c.world.globals
  pub frames : d.frames ≡ shown_frames c.frames

pub is_image : (c : Config) (name : List ℕ) → IsImage (dump_at c name) c
unfolding canonical instance_of
is_image c name = record { instances = refl; modules = omega arith; memory = refl; globals = refl; frames = refl }

-- ---- ranges of indices

range_below : (a n k d : ℕ) → k < length (range_with_len a n) → get_or (range_with_len a n) k d < a + n
range_below a zero k d h = absurd (omega (arith, h))
range_below a (suc n) zero d h = omega arith
range_below a (suc n) (suc k) d h = let r = range_below (a + 1) n k d (omega (arith, h)) in omega (arith, r)

range_none : (a n i : ℕ) → n ≤ i → slice_get (range_with_len a n) i ≡ None
range_none a zero i h = refl
range_none a (suc n) zero h = absurd (omega (arith, h))
range_none a (suc n) (suc i) h = range_none (a + 1) n i (omega (arith, h))

get_none : (vs : List Value) (i : ℕ) → length vs ≤ i → slice_get vs i ≡ None
get_none [] i h = refl
get_none (v ∷ vs) zero h = absurd (omega (arith, h))
get_none (v ∷ vs) (suc i) h = get_none vs i (omega (arith, h))

below_or_not : (i n : ℕ) → (i < n) ⊎ (n ≤ i)
below_or_not i zero = inr (omega arith)
below_or_not zero (suc n) = inl (omega arith)
below_or_not (suc i) (suc n) = ⊎_elim (λ a. inl (omega (arith, a))) (λ b. inr (omega (arith, b))) (below_or_not i n)

each_global : (vs : List Value) (i : ℕ) → option_then (slice_get (range_with_len 0 (length vs)) i) (slice_get vs) ≡ slice_get vs i
each_global vs i = ⊎_elim
    (λ a. let e : 0 + i ≡ i = omega arith in ap (λ o. option_then o (slice_get vs)) (get_range 0 (length vs) i a) ∙ ap (slice_get vs) e)
    (λ b. ap (λ o. option_then o (slice_get vs)) (range_none 0 (length vs) i b) ∙ sym (get_none vs i b)) (below_or_not i (length vs))

-- ---- the instance

of_instance : (xs : List ShownFrame) (k : ℕ) (d : ShownFrame) → k < length (map in_instance xs) → (get_or (map in_instance xs) k d).instance ≡ 0
of_instance [] k d h = absurd (omega (arith, h))
of_instance (x ∷ xs) zero d h = refl
of_instance (x ∷ xs) (suc k) d h = of_instance xs k d (omega (arith, h))

memory_case : (o : Option Memory) → (memory_indices (size_of o) ≡ []) ⊎ ((memory_indices (size_of o) ≡ 0 ∷ []) × (size_of o ≢ None))
memory_case None = inl refl
memory_case (Some k) = inr (refl, λ e. cc)

memory_fits : (ls : List Limits) (o : Option Memory) → HasMemory ls o → SizeKept ls o → memory_indices (size_of o) ≢ [] → (l : Limits) × (n : ℕ) × (slice_get ls 0 ≡ Some l) × (size_of o ≡ Some n) × (l.min ≤ n) × (n ≤ min 4096 (unwrap_or l.max 4096))
memory_fits ls None h k ne = absurd (ne refl)
memory_fits [] (Some x) h k ne = absurd (cc)
memory_fits (l ∷ ls) (Some x) h k ne = (l, pages x, refl, refl, k.0, omega (arith, k.1, k.2))

globals_fit : (vs : List Value) (gs : List Global) → types vs ≡ map (λ g. g.vtype) gs → FirstKept gs vs → (i : ℕ) → BothHave (slice_get vs i) (slice_get gs i)
globals_fit [] [] e k i = tt
globals_fit [] (g ∷ gs) e k i = absurd (cc)
globals_fit (v ∷ vs) [] e k i = absurd (cc)
globals_fit (v ∷ vs) (g ∷ gs) e k zero = (ap head e, λ im. k zero g v refl im refl)
globals_fit (v ∷ vs) (g ∷ gs) e k (suc i) = globals_fit vs gs (ap tail e) (λ j h u at im here. k (suc j) h u at im here) i

-- ---- frames

there_of : {A : Type 0} (o : Option A) (P : A → Type 0) → ((x : A) → o ≡ Some x → P x) → IfSome o P
there_of None P h = tt
there_of (Some x) P h = h x refl

module _ (p : Program) (is_program : IsProgram p) where
  abbrev m : Module
  m = p.module_

  -- the frames under the innermost one
  module _ (x0 : ShownFrame) (xs : List ShownFrame) (callers : AllCallers p is_program x0.function xs) where
    abbrev all : List ShownFrame
    all = x0 ∷ xs

    -- what the spot of a caller has, with the function that it called
    abbrev Calling : ℕ → ℕ → ShownFrame → Spot → Type 0
    Calling i g x s = (is_call (instruction s.nodes) ≡ true) × (can_call m (instruction s.nodes) g ≡ true) × (can_be (shown m (suc i) s) x.operands ≡ true)

    pub outer_function : (i : ℕ) → There xs i (FunctionFits m)
    outer_function i = there_of (slice_get xs i) (FunctionFits m) (λ x e. (caller_at p is_program x0 xs i x callers e).2.function)

    pub outer_offset : (i : ℕ) → There xs i (OffsetFits m)
    outer_offset i = there_of (slice_get xs i) (OffsetFits m) (λ x e. let c = caller_at p is_program x0 xs i x callers e in map_stands m x (Calling i c.0.function x) (λ s. Unit {0}) (λ s h. tt) c.2.spot_)

    pub outer_locals : (i : ℕ) → There xs i (LocalsFit m)
    outer_locals i = there_of (slice_get xs i) (LocalsFit m) (λ x e. (caller_at p is_program x0 xs i x callers e).2.locals)

    pub outer_operands : (i : ℕ) → There xs i (OperandsFit m (suc i))
    outer_operands i = there_of (slice_get xs i) (OperandsFit m (suc i)) (λ x e. let c = caller_at p is_program x0 xs i x callers e in map_stands m x (Calling i c.0.function x) (λ s. can_be (shown m (suc i) s) x.operands ≡ true) (λ s h. h.2) c.2.spot_)

    pub outer_call : (i : ℕ) → There xs i (CallFits m (suc i))
    outer_call i = there_of (slice_get xs i) (CallFits m (suc i)) (λ x e. let c = caller_at p is_program x0 xs i x callers e in map_stands m x (Calling i c.0.function x) (λ s. is_call (instruction s.nodes) ≡ true) (λ s h. h.0) c.2.spot_)

    pub outer_callee : (i : ℕ) → There xs i (CalleeFits m all (suc i))
    outer_callee i = there_of (slice_get xs i) (CalleeFits m all (suc i)) (λ x e.
        let c = caller_at p is_program x0 xs i x callers e in
        subst (λ o. IfSome o (λ y. StandsAt m x (λ s. can_call m (instruction s.nodes) y.function ≡ true))) (sym c.1)
        (map_stands m x (Calling i c.0.function x) (λ s. can_call m (instruction s.nodes) c.0.function ≡ true) (λ s h. h.1) c.2.spot_))

    -- all frames
    module _ (inner : InnerFits p is_program x0) where
      function_there : (i : ℕ) → There all i (FunctionFits m)
      function_there zero = inner.function
      function_there (suc i) = outer_function i

      offset_there : (i : ℕ) → There all i (OffsetFits m)
      offset_there zero = map_stands m x0 (λ s. can_be (shown m zero s) x0.operands ≡ true) (λ s. Unit {0}) (λ s h. tt) inner.spot_
      offset_there (suc i) = outer_offset i

      locals_there : (i : ℕ) → There all i (LocalsFit m)
      locals_there zero = inner.locals
      locals_there (suc i) = outer_locals i

      operands_there : (i : ℕ) → There all i (OperandsFit m i)
      operands_there zero = inner.spot_
      operands_there (suc i) = outer_operands i

      call_there : (i : ℕ) → There all i (CallFits m i)
      call_there zero = tt
      call_there (suc i) = outer_call i

      callee_there : (i : ℕ) → There all i (CalleeFits m all i)
      callee_there zero = tt
      callee_there (suc i) = outer_callee i

  -- the instance, its memory and its globals
  module _ (d : Dump) (fs : List Frame) (w : World) (is : IsImage d (record { frames = fs; world = w; collected = [] })) (wf : WorldAt m w) where
    pub instance_fits : OneInstance d (one_of w)
    instance_fits = record {
      alone = is.instances;
      of_module = is.modules;
      memories = subst (λ o. (memory_indices (size_of w.memory) ≡ []) ⊎ ((memory_indices (size_of w.memory) ≡ 0 ∷ []) × (o ≢ None))) (sym is.memory) (memory_case w.memory);
      globals = subst (λ vs. All (λ g. g < length vs) (range_with_len 0 (length w.globals))) (sym is.globals) (λ k d h. let r = range_below 0 (length w.globals) k d h in omega (arith, r));
      frames = subst (All (λ x. x.instance ≡ 0)) (sym is.frames) (λ k d h. of_instance (map frame_of (frame_images fs)) k d h);
    }

    pub memory_there : MemoryFits m d (one_of w)
    memory_there ne =
        let h = memory_fits m.memories w.memory wf.0.memory wf.1.memory ne in
        (h.0, h.1, h.2, is.memory ∙ h.3, h.4, h.5)

    pub global_there : (i : ℕ) → BothHave (global_of d (one_of w) i) (slice_get m.globals i)
    global_there i = subst (λ o. BothHave o (slice_get m.globals i)) (sym (ap (λ vs. option_then (slice_get (range_with_len 0 (length w.globals)) i) (slice_get vs)) is.globals ∙ each_global w.globals i)) (globals_fit w.globals m.globals wf.0.globals wf.1.globals i)

  module _ (d : Dump) (f : Frame) (fs : List Frame) (w : World) (is : IsImage d (record { frames = f ∷ fs; world = w; collected = [] })) (wf : WorldAt m w) (ff : FramesAt p (f ∷ fs)) (node : AtNode (f ∷ fs)) where
    abbrev x0 : ShownFrame
    x0 = shown_frame (offset_of f.labels) f

    abbrev callers : List ShownFrame
    callers = shown_callers p is_program fs

    inner : InnerFits p is_program x0
    inner = inner_fits p is_program f fs ff node

    others : AllCallers p is_program x0.function callers
    others = callers_fit p is_program fs f.function f.result ff.2

    pub matches_image : Matches m d
    matches_image rows.Instance = (one_of w, instance_fits d (f ∷ fs) w is wf)
    matches_image rows.Memory = (one_of w, is.instances, memory_there d (f ∷ fs) w is wf)
    matches_image (rows.Global i) = (one_of w, is.instances, inr (global_there d (f ∷ fs) w is wf i))
    matches_image (rows.Function i) = subst (λ all. There all i (FunctionFits m)) (sym is.frames) (function_there x0 callers others inner i)
    matches_image (rows.Offset i) = subst (λ all. There all i (OffsetFits m)) (sym is.frames) (offset_there x0 callers others inner i)
    matches_image (rows.Locals i) = subst (λ all. There all i (LocalsFit m)) (sym is.frames) (locals_there x0 callers others inner i)
    matches_image (rows.Operands i) = subst (λ all. There all i (OperandsFit m i)) (sym is.frames) (operands_there x0 callers others inner i)
    matches_image (rows.NotACall i) = subst (λ all. There all i (CallFits m i)) (sym is.frames) (call_there x0 callers others inner i)
    matches_image (rows.Callee i) = subst (λ all. There all i (CalleeFits m all i)) (sym is.frames) (callee_there x0 callers others inner i)

  by_frames : (d : Dump) (fs : List Frame) (w : World) → IsImage d (record { frames = fs; world = w; collected = [] }) → WorldAt m w → FramesAt p fs → AtNode fs → Matches m d
  by_frames d [] w is wf ff node = absurd ff
  by_frames d (f ∷ fs) w is wf ff node = matches_image d f fs w is wf ff node

  pub trap_matches : (c : Config) (name : List ℕ) → WorldAt m c.world → FramesAt p c.frames → AtNode c.frames → Matches m (dump_at c name)
  trap_matches c name wf ff node =
      let is = is_image c name in
      by_frames (dump_at c name) c.frames c.world (record { instances = is.instances; modules = is.modules; memory = is.memory; globals = is.globals; frames = is.frames }) wf ff node
