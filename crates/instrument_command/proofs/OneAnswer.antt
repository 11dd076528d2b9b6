-- The command has at most one status and text, and writes the same file.
use Rattle.std.proofs.Common.{◌≡◌, ℕ, suc, ◌+◌, ⊎_elim, false, List, [], ◌∷◌, map, length, take, Option, Some, None, Result, Ok, Err, refl, sym, ap, ap₂, ◌∙◌, subst, arith, inl, inr, slice_get, max}
use Rattle.std.specs.Prelude.{◌⊎◌}
use Rattle.pm_outside.specs.Contents.{Contents}
use Rattle.wasm_syntax.specs.declared.instruction.Op.{Op}
use Rattle.wasm_syntax.specs.declared.module.ModuleParts.{ModuleParts as Module}
use Rattle.wasm_syntax.specs.declared.parts.Body.{Body}
use Rattle.wasm_syntax.specs.declared.quantity.Quantity.TheVariants.{ModuleBytes, InstrumentLocals, InstrumentParameters, InstrumentHeight, InstrumentNesting, Weight}
use Rattle.wasm_syntax.specs.FlatTyping.{dead_behind}
use Rattle.wasm_syntax.specs.Sizes.{nesting}
use Rattle.wasm_syntax.specs.Tree.{code_of}
use Rattle.wasm_syntax.specs.Valid.{Valid}
use Rattle.wasm_decode.specs.Decode.{module_from}
use Rattle.wasm_decode.specs.declared.fault.DecodeFault.{DecodeFault}
use Rattle.rewrite_modules.specs.Weight.{height_at, AreHeights, weight}
use Rattle.rewrite_modules.specs.Multiple.{highest}
use Rattle.rewrite_modules.proofs.FineBodies.{fine_at, gives_one}
use Rattle.rewrite_modules.proofs.Multiple.{live_or, before_live}
use Rattle.rewrite_promise.proofs.Heights.{one_weight}
use Rattle.index_map.specs.Limits.{function_heights, function_locals, first_over, first_excess}
use Rattle.instrument.specs.Refusal.{import_taken, export_taken, at_import, at_export, at_limit, refusal}
use Rattle.instrument.specs.declared.refusal.InstrFault.{InstrFault}
use Rattle.commands.specs.Inputs.{input_of, Then}
use Rattle.commands.specs.Loading.{IfLoaded}
use Rattle.commands.specs.declared.outcome.Outcome.{Outcome}
use Rattle.commands.specs.declared.status.Status.{Status}
use Rattle.commands.specs.declared.status.Status.TheVariants as status
use Rattle.commands.proofs.OneOutcome.{Agree, agree_then, agree_if_loaded}
use Rattle.pm_outside.specs.Held.{Writes}
use Rattle.instrument_command.specs.InstrumentAnswer.{instrumented, Decides, ModuleAnswer, InstrumentAnswer}
use Rattle.instrument_command.proofs.Done.{Found, FoundIn, what_was_found}
use Rattle.wasm_bytes.specs.Refusals.{◌orelse◌}

-- ---- heights are what they are

module _ (m : Module) (valid : Valid m) (g h : List (List ℕ)) (are : AreHeights m g) (too : AreHeights m h) where
  same_height : (i op : ℕ) (body : Body) → slice_get m.bodies i ≡ Some body → height_at g i op ≡ height_at h i op
  same_height i op body e =
      let f = length m.imports + i in
      let fine = fine_at m i body valid e in
      ⊎_elim
      (λ live. let t = before_live m fine.0 body op (gives_one m f fine.0 valid fine.1) fine.2 live in are.live i op fine.0 body t.0 e fine.1 t.1 ∙ sym (too.live i op fine.0 body t.0 e fine.1 t.1))
      (λ dead. are.dead i op body e dead ∙ sym (too.dead i op body e dead))
      (live_or (dead_behind (false ∷ []) (take op (code_of body.targets body.ops))))

  same_highest : (i : ℕ) (j : ℕ) (ops : List Op) → ((op : ℕ) → height_at g i op ≡ height_at h i op) → highest (height_at g i) j ops ≡ highest (height_at h i) j ops
  same_highest i j [] e = refl
  same_highest i j (o ∷ os) e = ap₂ (λ (a b : ℕ). max a b) (e j) (same_highest i (suc j) os e)

  same_functions : (i : ℕ) (bs : List Body) → ((n : ℕ) (b : Body) → slice_get bs n ≡ Some b → slice_get m.bodies (i + n) ≡ Some b) → function_heights g i bs ≡ function_heights h i bs
  same_functions i [] at = refl
  same_functions i (b ∷ bs) at =
      let same : i + 0 ≡ i = omega arith in
      let here : slice_get m.bodies i ≡ Some b = subst (λ (n : ℕ). slice_get m.bodies n ≡ Some b) same (at 0 b refl) in
      let rest = same_functions (i + 1) bs (λ n c e. (let k : i + suc n ≡ (i + 1) + n = omega arith in subst (λ (n : ℕ). slice_get m.bodies n ≡ Some c) k (at (suc n) c e))) in
      ap₂ (λ (x : ℕ) (xs : List ℕ). x ∷ xs) (same_highest i 0 b.ops (λ j. same_height i j b here)) rest

  from_first : (n : ℕ) (b : Body) → slice_get m.bodies n ≡ Some b → slice_get m.bodies (0 + n) ≡ Some b
  from_first n b e = let k : n ≡ 0 + n = omega arith in subst (λ (n : ℕ). slice_get m.bodies n ≡ Some b) k e

  same_excess : first_excess m g ≡ first_excess m h
  unfolding first_excess
  same_excess = ap₂ (λ (hs : List ℕ) (w : ℕ).
      first_over InstrumentLocals (function_locals m 0 m.bodies) orelse first_over InstrumentParameters (map (λ t. length t.params) m.types)
      orelse first_over InstrumentHeight hs orelse first_over InstrumentNesting (map nesting m.bodies) orelse first_over Weight (w ∷ []))
      (same_functions 0 m.bodies from_first) (one_weight m valid g h are too)

  pub same_refusal : refusal m g ≡ refusal m h
  same_refusal = ap (λ x. at_import (import_taken m) (at_export (export_taken m) (at_limit x))) same_excess

-- ---- one status and text

one_decided : (f : Option InstrFault) (out : List ℕ) (m : Module) (v w : ℕ) (x y : Writes) (a b : Outcome) → v ≡ w → Decides f out m v x a → Decides f out m w y b → a ≡ b
one_decided (Some fault) out m v w x y a b same p q = p.0 ∙ sym q.0
one_decided None out m v w x y a b same p q = p.0 ∙ ap instrumented same ∙ sym q.0

module _ (out : List ℕ) (x y : Writes) where
  abbrev ValidAnswer : Writes → Module → Outcome → Type 0
  ValidAnswer writes m o = Valid m × ModuleAnswer out writes m o

  one_module : (m : Module) → Agree (ValidAnswer x m) (ValidAnswer y m)
  one_module m a b (valid, p) (also, q) =
      one_decided (refusal m p.heights) out m (weight m p.heights) (weight m q.heights) x y a b (one_weight m valid p.heights q.heights p.heights_are q.heights_are) p.decides
      (subst (λ f. Decides f out m (weight m q.heights) y b) (sym (same_refusal m valid p.heights q.heights p.heights_are q.heights_are)) q.decides)

keep_valid : (out : List ℕ) (x : Writes) (decoded : Result Module DecodeFault) (o : Outcome) → IfLoaded (ModuleAnswer out x) decoded o → IfLoaded (λ m o. Valid m × ModuleAnswer out x m o) decoded o
keep_valid out x (Err fault) o e = e
keep_valid out x (Ok m) o (inl r) = inl r
keep_valid out x (Ok m) o (inr (valid, low, a)) = inr (valid, low, (valid, a))

keep_then : (out : List ℕ) (x : Writes) (r : Result (List ℕ) Outcome) (o : Outcome) → Then r (λ bytes. IfLoaded (ModuleAnswer out x) (module_from bytes)) o → Then r (λ bytes. IfLoaded (λ m o. Valid m × ModuleAnswer out x m o) (module_from bytes)) o
keep_then out x (Ok bytes) o a = keep_valid out x (module_from bytes) o a
keep_then out x (Err other) o e = e

pub one_instrument_answer : (source out : List ℕ) (held : Contents) (x y : Writes) (a b : Outcome) → InstrumentAnswer source out held x a → InstrumentAnswer source out held y b → a ≡ b
one_instrument_answer source out held x y a b p q =
    let r = input_of ModuleBytes source (held source) in
    agree_then r (λ bytes. IfLoaded (λ m o. Valid m × ModuleAnswer out x m o) (module_from bytes)) (λ bytes. IfLoaded (λ m o. Valid m × ModuleAnswer out y m o) (module_from bytes))
    (λ bytes. agree_if_loaded (λ m o. Valid m × ModuleAnswer out x m o) (λ m o. Valid m × ModuleAnswer out y m o) (one_module out x y) (module_from bytes))
    a b (keep_then out x r a p.answer) (keep_then out y r b q.answer)

-- ---- the same file

by_done : (s : Status) → (s ≡ status.Done) ⊎ (s ≡ status.Done → ⊥)
by_done status.Done = inl refl
by_done status.Trapped = inr (λ e. absurd cc)
by_done status.Usage = inr (λ e. absurd cc)
by_done status.NoFile = inr (λ e. absurd cc)
by_done status.FileFault = inr (λ e. absurd cc)
by_done status.Malformed = inr (λ e. absurd cc)
by_done status.Outside = inr (λ e. absurd cc)
by_done status.Invalid = inr (λ e. absurd cc)
by_done status.NotStarted = inr (λ e. absurd cc)
by_done status.HostStopped = inr (λ e. absurd cc)
by_done status.FuelSpent = inr (λ e. absurd cc)
by_done status.BadDump = inr (λ e. absurd cc)
by_done status.Mismatch = inr (λ e. absurd cc)
by_done status.Limit = inr (λ e. absurd cc)
by_done status.Collision = inr (λ e. absurd cc)
by_done status.NoMemory = inr (λ e. absurd cc)
by_done status.TornCalls = inr (λ e. absurd cc)
by_done status.BadReplies = inr (λ e. absurd cc)

names_of_one : (out one other : List ℕ) (x y : Writes) → Found out x one → Found out y other → map (λ w. w.0) x ≡ map (λ w. w.0) y
names_of_one out one other x y p q = ap (λ (ws : Writes). map (λ w. w.0) ws) p.one ∙ sym (ap (λ (ws : Writes). map (λ w. w.0) ws) q.one)

found_names : (out : List ℕ) (content : Option (List ℕ)) (x y : Writes) → FoundIn out x content → FoundIn out y content → map (λ w. w.0) x ≡ map (λ w. w.0) y
found_names out content x y p q = names_of_one out p.bytes q.bytes x y p.found q.found

pub same_names : (source out : List ℕ) (held : Contents) (x y : Writes) (a b : Outcome) → InstrumentAnswer source out held x a → InstrumentAnswer source out held y b → map (λ w. w.0) x ≡ map (λ w. w.0) y
same_names source out held x y a b p q = ⊎_elim
    (λ done. found_names out (held source) x y (what_was_found source out held x a done p) (what_was_found source out held y b (sym alike ∙ done) q))
    (λ never. ap (λ (ws : Writes). map (λ w. w.0) ws) (p.unwritten never ∙ sym (q.unwritten (λ e. never (alike ∙ e)))))
    (by_done a.status)
  where
    alike : a.status ≡ b.status
    alike = ap (λ (o : Outcome). o.status) (one_instrument_answer source out held x y a b p q)
