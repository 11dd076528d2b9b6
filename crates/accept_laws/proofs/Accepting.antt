-- The canonical bytes of a dump are accepted where the canonical dump can be one of the module.
use Rattle.std.proofs.Common.{◌≡◌, ℕ, ◌<◌, ◌≤◌, ◌^◌, List, [], ◌∷◌, length, map, slice_get, Option, Some, None, Ok, refl, sym, ap, subst, ◌∙◌, arith, length-append}
use Rattle.std.specs.Prelude.{IfSome}
use Rattle.std.specs.Str.{IsUtf8}
use Rattle.std.specs.List.{AllByRecursion}
use Rattle.std.proofs.lemmas.List.{length-map}
use Rattle.std.proofs.lemmas.List.Elements.{All-from_recursion}
use Rattle.wasm_syntax.specs.declared.value.Seen.{Seen}
use Rattle.wasm_syntax.specs.declared.value.Seen.TheVariants as seen
use Rattle.wasm_syntax.specs.declared.value.Value.{Value}
use Rattle.wasm_syntax.specs.declared.value.Value.TheVariants as value
use Rattle.wasm_syntax.specs.declared.quantity.Quantity.TheVariants.{DumpBytes, DumpPages, DumpFrames}
use Rattle.wasm_syntax.specs.declared.module.ModuleParts.{ModuleParts as Module}
use Rattle.wasm_syntax.specs.Quantity.{greatest}
use Rattle.wasm_syntax.specs.Module.{IsModule, function_types}
use Rattle.wasm_syntax.specs.Sizes.{WithinLimits}
use Rattle.wasm_syntax.specs.Static.{LiveAt}
use Rattle.wasm_syntax.specs.Valid.{Valid, defined_index}
use Rattle.wasm_syntax.specs.Numbers.{IsValue}
use Rattle.wasm_laws.proofs.Lists.{all_of, at_of}
use Rattle.dump_format.specs.declared.dump.Frame.{Frame}
use Rattle.dump_format.specs.declared.dump.Dump.{Dump}
use Rattle.dump_format.specs.declared.dump.Instance.{Instance}
use Rattle.dump_format.specs.Form.{pages_of}
use Rattle.dump_format.specs.Decode.{dump_from}
use Rattle.dump_write.specs.Canonical.{memory_indices, instance_of, in_instance, canonical, canonical_bytes}
use Rattle.dump_write.specs.calls.Typed.{IsSeenTyped, IsFrameTyped, IsTyped}
use Rattle.dump_write.proofs.CanonicalLaws.{reads_back}
use Rattle.dump_match.specs.declared.mismatch.Mismatch.TheVariants as rows
use Rattle.dump_match.specs.Frames.{IsOf, FunctionFits, OffsetFits, instruction}
use Rattle.dump_match.specs.Matching.{MemoryFits, Matches}
use Rattle.dump_match.proofs.Spots.{OpThere, there}
use Rattle.accept_laws.specs.calls.Ranges.{InRanges}
use Rattle.accept_laws.specs.calls.Accepted.{IsAccepted}
use Rattle.accept_laws.proofs.Held.{held, held_seen, held_frame, held_dump, below_32, below_64}
use Rattle.accept_laws.proofs.HeldBytes.{instance_same, bytes_same}
use Rattle.accept_laws.proofs.HeldMatches.{Holds, matches_held}
use Rattle.pm_text.proofs.Lists.{some_is}
use Rattle.std.proofs.lemmas.Option.{slice_get_within}
use Rattle.wasm_syntax.proofs.Types.{then_found}

-- ---- values

all_values : (vs : List Value) → AllByRecursion IsValue (map held vs)
all_values [] = tt
all_values (value.I32 n ∷ vs) = (below_32 n, all_values vs)
all_values (value.I64 n ∷ vs) = (below_64 n, all_values vs)

all_seen : (vs : List Seen) → AllByRecursion IsSeenTyped (map held_seen vs)
all_seen [] = tt
all_seen (seen.I32 n ∷ vs) = (below_32 n, all_seen vs)
all_seen (seen.I64 n ∷ vs) = (below_64 n, all_seen vs)
all_seen (seen.Missing ∷ vs) = (tt, all_seen vs)

-- ---- frames

abbrev Small : Frame → Type 0
Small f = (f.function < 2 ^ 32) × (f.offset < 2 ^ 32)

frame_typed : (f : Frame) → Small f → IsFrameTyped (held_frame f)
frame_typed f h = record {
  function = h.0;
  offset = h.1;
  locals = All-from_recursion IsSeenTyped (map held_seen f.locals) (all_seen f.locals);
  operands = All-from_recursion IsSeenTyped (map held_seen f.operands) (all_seen f.operands);
}

frames_typed : (fs : List Frame) → AllByRecursion Small (map in_instance fs) → AllByRecursion IsFrameTyped (map held_frame fs)
frames_typed [] h = tt
frames_typed (f ∷ fs) h = (frame_typed f h.0, frames_typed fs h.1)

both_there : (o : Option Frame) (P Q : Frame → Type 0) (R : Frame → Type 0) → ((f : Frame) → P f → Q f → R f) → IfSome o P → IfSome o Q → IfSome o R
both_there None P Q R h p q = tt
both_there (Some f) P Q R h p q = h f p q

module _ (m : Module) (whole : IsModule m) (valid : Valid m) (limits : WithinLimits m) (ranges : InRanges m) where
  small_function : (f : Frame) → FunctionFits m f → f.function < 2 ^ 32
  small_function f h =
      let is_of : IsOf m f h.0 h.1 = h.2 in
      let t = then_found (slice_get (function_types m) f.function) (λ t. slice_get m.types t) h.0 is_of.type_is in
      let inside = slice_get_within (function_types m) f.function t.0 t.1 in
      omega (arith, inside, limits.short.functions, length-append (map (λ i. i.ftype) m.imports) m.functions, length-map m.imports (λ i. i.ftype))

  small_offset : (f : Frame) → OffsetFits m f → f.offset < 2 ^ 32
  small_offset f h =
      let is_of : IsOf m f h.0 h.1 = h.2 in
      let live : LiveAt m h.0 h.1 f.offset h.3.0 = h.3.1 in
      let x : OpThere h.1 f.offset (instruction h.3.0.nodes) = there m whole valid f.function h.0 h.1 is_of.type_is is_of.body_is f.offset h.3.0 live in
      let i = then_found (defined_index m f.function) (slice_get m.bodies) h.1 is_of.body_is in
      let ops = at_of (λ body. AllByRecursion (λ o. o.at < 2 ^ 32) body.ops) m.bodies i.0 h.1 ranges.offsets i.2 in
      subst (λ n. n < 2 ^ 32) x.at_is (at_of (λ o. o.at < 2 ^ 32) h.1.ops x.number x.op ops x.there)

  small_frames : (d : Dump) → Matches m d → AllByRecursion Small d.frames
  small_frames d h = all_of Small d.frames (λ i. both_there (slice_get d.frames i) (FunctionFits m) (OffsetFits m) Small (λ f p q. (small_function f p, small_offset f q)) (h (rows.Function i)) (h (rows.Offset i)))

  -- ---- the memory

  few_pages : (o : Option ℕ) (d : Dump) (one : Instance) → d.memory ≡ o → one.memories ≡ memory_indices o → MemoryFits m d one → pages_of o ≤ greatest DumpPages
  few_pages None d one e i fits = omega arith
  few_pages (Some pages) d one e i fits =
      let x = fits (λ z. not_none 0 [] (sym i ∙ z)) in
      let same : pages ≡ x.1 = some_is (sym e ∙ x.3) in
      omega (arith, same, x.5)
    where
      not_none : (n : ℕ) (ns : List ℕ) → n ∷ ns ≡ [] → ⊥
      not_none n ns z = cc

  alone_is : (a b : Instance) → a ∷ [] ≡ b ∷ [] → a ≡ b
  alone_is a b e = cc

  pages_few : (d : Dump) → Matches m (canonical d) → pages_of d.memory ≤ greatest DumpPages
  unfolding canonical instance_of
  pages_few d h =
      let x = h rows.Memory in
      let one : instance_of d ≡ x.0 = alone_is (instance_of d) x.0 x.1 in
      few_pages d.memory (canonical d) x.0 refl (ap (λ i. i.memories) (sym one)) x.2

  -- ---- the dump

  frames_held : (fs : List Frame) → map in_instance (map held_frame fs) ≡ map held_frame (map in_instance fs)
  frames_held [] = refl
  frames_held (f ∷ fs) = ap (λ gs. held_frame (in_instance f) ∷ gs) (frames_held fs)

  holds : (d : Dump) → Holds (canonical d) (canonical (held_dump d))
  unfolding canonical
  holds d = record {
    instances = ap (λ i. i ∷ []) (instance_same d);
    modules = refl;
    memory = refl;
    frames = frames_held d.frames;
    globals = refl;
  }

  typed_held : (d : Dump) → IsUtf8 d.name → Matches m (canonical d) → IsTyped (held_dump d)
  unfolding canonical
  typed_held d text h = record {
    name = text;
    frames = All-from_recursion IsFrameTyped (map held_frame d.frames) (frames_typed d.frames (small_frames (canonical d) h));
    globals = All-from_recursion IsValue (map held d.globals) (all_values d.globals);
  }

  -- the bytes are those of the dump with held values, which has its types and is read back
  pub accepted : (d : Dump) → IsUtf8 d.name → Matches m (canonical d) → length d.frames ≤ greatest DumpFrames → length (canonical_bytes d) ≤ greatest DumpBytes → IsAccepted m (canonical_bytes d)
  accepted d text h frames short =
      let same = bytes_same d in
      let few : length (map held_frame d.frames) ≤ greatest DumpFrames = omega (arith, frames, length-map d.frames held_frame) in
      let less : length (canonical_bytes (held_dump d)) ≤ greatest DumpBytes = omega (arith, short, ap length same) in
      let read : dump_from (canonical_bytes (held_dump d)) ≡ Ok (canonical (held_dump d)) = reads_back (held_dump d) (typed_held d text h) (pages_few d h) few less in
      record { dump = canonical (held_dump d); decoded = ap dump_from (sym same) ∙ read; matches = matches_held m (canonical d) (canonical (held_dump d)) (holds d) ranges h }
