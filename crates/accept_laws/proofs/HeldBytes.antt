-- A dump has the canonical bytes of the dump whose values are held in their ranges.
use Rattle.std.proofs.Common.{◌≡◌, ℕ, List, [], ◌∷◌, ◌++◌, map, refl, ap, ap₂, ◌∙◌, Option}
use Rattle.std.specs.Prelude.{codes}
use Rattle.std.specs.List.{flat_map, range_with_len}
use Rattle.std.proofs.lemmas.List.{length-map}
use Rattle.wasm_leb.specs.Writing.{unsigned_bytes, signed_bytes}
use Rattle.wasm_syntax.specs.declared.value.Seen.{Seen}
use Rattle.wasm_syntax.specs.declared.value.Seen.TheVariants as seen
use Rattle.wasm_syntax.specs.declared.value.Value.{Value}
use Rattle.wasm_syntax.specs.declared.value.Value.TheVariants as value
use Rattle.dump_format.specs.declared.dump.Frame.{Frame}
use Rattle.dump_format.specs.declared.dump.Instance.{Instance}
use Rattle.dump_format.specs.declared.dump.Dump.{Dump}
use Rattle.dump_write.specs.Spelled.{vector_bytes, module_bytes, seen_bytes, frame_bytes, global_bytes, section_bytes, custom_bytes}
use Rattle.dump_write.specs.Pages.{memory_bytes}
use Rattle.dump_write.specs.Canonical.{memory_indices, instance_of, core_bytes, modules_bytes, instances_bytes, stack_bytes, memory_section, globals_section, data_section, sections_before_data, segments_of, canonical_bytes}
use Rattle.accept_laws.proofs.Held.{held, held_seen, held_frame, held_dump, signed_32, signed_64}
use Rattle.wasm_bytes.specs.Tables.{header}

flat_same : {A : Type 0} (item : A → List ℕ) (h : A → A) → ((x : A) → item (h x) ≡ item x) → (xs : List A) → flat_map item (map h xs) ≡ flat_map item xs
flat_same item h one [] = refl
flat_same item h one (x ∷ xs) = ap₂ (λ a b. a ++ b) (one x) (flat_same item h one xs)

vector_same : {A : Type 0} (item : A → List ℕ) (h : A → A) → ((x : A) → item (h x) ≡ item x) → (xs : List A) → vector_bytes item (map h xs) ≡ vector_bytes item xs
unfolding vector_bytes
vector_same item h one xs = ap₂ (λ n b. unsigned_bytes n ++ b) (length-map xs h) (flat_same item h one xs)

seen_same : (v : Seen) → seen_bytes (held_seen v) ≡ seen_bytes v
unfolding seen_bytes
seen_same (seen.I32 n) = ap (λ z. 0x7f ∷ signed_bytes z) (signed_32 n)
seen_same (seen.I64 n) = ap (λ z. 0x7e ∷ signed_bytes z) (signed_64 n)
seen_same seen.Missing = refl

global_same : (v : Value) → global_bytes (held v) ≡ global_bytes v
unfolding global_bytes
global_same (value.I32 n) = ap (λ z. 0x7f ∷ 0x00 ∷ 0x41 ∷ (signed_bytes z ++ 0x0b ∷ [])) (signed_32 n)
global_same (value.I64 n) = ap (λ z. 0x7e ∷ 0x00 ∷ 0x42 ∷ (signed_bytes z ++ 0x0b ∷ [])) (signed_64 n)

frame_same : (f : Frame) → frame_bytes (held_frame f) ≡ frame_bytes f
unfolding frame_bytes
frame_same f = ap₂ (λ a b. 0x00 ∷ 0x00 ∷ (unsigned_bytes f.function ++ unsigned_bytes f.offset ++ a ++ b)) (vector_same seen_bytes held_seen seen_same f.locals) (vector_same seen_bytes held_seen seen_same f.operands)

stack_same : (fs : List Frame) → stack_bytes (map held_frame fs) ≡ stack_bytes fs
unfolding stack_bytes
stack_same fs = ap (λ b. custom_bytes (codes "corestack") (module_bytes (codes "main") ++ b)) (vector_same frame_bytes held_frame frame_same fs)

globals_same : (vs : List Value) → globals_section (map held vs) ≡ globals_section vs
unfolding globals_section
globals_same [] = refl
globals_same (v ∷ vs) = ap (section_bytes 6) (vector_same global_bytes held global_same (v ∷ vs))

pub instance_same : (d : Dump) → instance_of (held_dump d) ≡ instance_of d
unfolding instance_of
instance_same d = ap (λ (n : ℕ). let i : Instance = record { «module» = 0; memories = memory_indices d.memory; globals = range_with_len 0 n } in i) (length-map d.globals held)

pub segments_same : (d : Dump) → segments_of (held_dump d) ≡ segments_of d
unfolding memory_bytes
segments_same d = refl

abbrev front_of : List ℕ → Instance → List ℕ → Option ℕ → List ℕ → List ℕ
front_of name i stack memory globals = header ++ core_bytes name ++ modules_bytes name ++ instances_bytes i ++ stack ++ memory_section memory ++ globals

front_same : (d : Dump) → sections_before_data (held_dump d) ≡ sections_before_data d
unfolding sections_before_data
front_same d =
    ap (λ i. front_of d.name i (stack_bytes (map held_frame d.frames)) d.memory (globals_section (map held d.globals))) (instance_same d)
    ∙ ap₂ (λ a b. front_of d.name (instance_of d) a d.memory b) (stack_same d.frames) (globals_same d.globals)

pub bytes_same : (d : Dump) → canonical_bytes (held_dump d) ≡ canonical_bytes d
unfolding canonical_bytes
bytes_same d = ap₂ (λ a s. a ++ data_section s) (front_same d) (segments_same d)
