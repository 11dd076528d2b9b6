-- What the code gathers is what the parts say together.
use Rattle.std.proofs.Common.{◌≡◌, ℕ, List, [], ◌∷◌, ◌++◌, length, Bool, true, false, Option, Some, None, Ok, Err, refl, sym, ap, ◌∙◌, ◌-◌}
use Rattle.std.specs.Prelude.{◌==◌, is_some, if◌then◌else◌, codes}
use Rattle.std.specs.List.{flat_map}
use Rattle.std.specs.Str.{bytes_eq}
use Rattle.wasm_bytes.specs.Place.{Place, Read}
use Rattle.wasm_bytes.specs.Reading.{◌>>=◌, ◌▷◌, mapped, byte_item, bytes_item, name_item, u32_item, vector_item, rest_item, steps_from, steps_to_end, within, choose, picked, if_complete}
use Rattle.dump_format.specs.declared.lists.ModuleNames.{ModuleNames}
use Rattle.dump_format.specs.declared.lists.MemorySegments.{MemorySegments}
use Rattle.dump_format.specs.declared.gathered.Gathered.{Gathered}
use Rattle.dump_format.specs.Region.{Region}
use Rattle.dump_format.specs.Parts.{Part, core, modules, instances, stack, memories, globals, segments, custom, passed}
use Rattle.dump_format.specs.Form.{module_item, instance_item, stack_item, limits_item, global_item, segment_item}
use Rattle.dump_format.specs.Judged.{value_of, frame_of, float_in, frame_floats, memories_in, memory_of, last_id, first_of, names_in}
use Rattle.dump_format.specs.Sections.{custom_behind, custom_item, contents_item, may_follow, section_behind, section_item, with_section, sections_item, has_core, parts_item}
use Rattle.dump_format.specs.calls.Noting.{value_noting, stack_noting}
use Rattle.dump_format.specs.inner.Gathering.{added, name_step, module_names, segment_step, memory_segments, custom_gathering, contents_gathering, section_step, nothing_gathered, is_found, has_name, all_gathered, gathered_item, first_memory, with_stack, with_globals}
use Rattle.dump_format.proofs.Summary.{found, found_or-found, summary, taken, summary-more}
use Rattle.dump_format.proofs.Steps.{until_end-made, within-made}
use Rattle.dump_format.proofs.Values.{noted_by, stack-noted, globals-noted}
use Rattle.wasm_bytes.proofs.Offsets.{bind-same}
use Rattle.wasm_bytes.proofs.Vectors.{made, bind-made, made-made, vector-steps}
use Rattle.wasm_bytes.specs.Notes.{noted_vector_item}
use Rattle.wasm_bytes.specs.Tables.{header}

-- ---- vectors

unmade : {A : Type 0} (read : Read A) → made (λ (x : A). x) read ≡ read
unmade (Ok x) = refl
unmade (Err at) = refl

abbrev names_so_far : List (List ℕ) → ModuleNames
names_so_far names = record { names = names }

names_made : (p : Place) → module_names p ≡ vector_item module_item p
unfolding module_names name_step
names_made p =
    let all : (u32_item ▷ λ count. steps_from name_step count (names_so_far [])) p ≡ made names_so_far (vector_item module_item p) = vector-steps names_so_far module_item name_step (λ front q. refl) p in
    let kept : (u32_item ▷ λ count. mapped (λ (s : ModuleNames). s.names) (steps_from name_step count (names_so_far []))) p ≡ made (λ (s : ModuleNames). s.names) ((u32_item ▷ λ count. steps_from name_step count (names_so_far [])) p) = sym (bind-made (λ (s : ModuleNames). s.names) (u32_item p) (λ x. steps_from name_step x.0 (names_so_far []) x.1)) in
    kept ∙ ap (made (λ (s : ModuleNames). s.names)) all ∙ made-made names_so_far (λ s. s.names) (vector_item module_item p) ∙ unmade (vector_item module_item p)

abbrev segments_so_far : Option ℕ → List Region → MemorySegments
segments_so_far memory regions = record { memory = memory; segments = regions }

segments_made : (memory : Option ℕ) (p : Place) → memory_segments memory p ≡ vector_item (segment_item memory) p
unfolding memory_segments segment_step
segments_made memory p =
    let all : (u32_item ▷ λ count. steps_from segment_step count (segments_so_far memory [])) p ≡ made (segments_so_far memory) (vector_item (segment_item memory) p) = vector-steps (segments_so_far memory) (segment_item memory) segment_step (λ front q. refl) p in
    let kept : (u32_item ▷ λ count. mapped (λ (s : MemorySegments). s.segments) (steps_from segment_step count (segments_so_far memory []))) p ≡ made (λ (s : MemorySegments). s.segments) ((u32_item ▷ λ count. steps_from segment_step count (segments_so_far memory [])) p) = sym (bind-made (λ (s : MemorySegments). s.segments) (u32_item p) (λ x. steps_from segment_step x.0 (segments_so_far memory []) x.1)) in
    kept ∙ ap (made (λ (s : MemorySegments). s.segments)) all ∙ made-made (segments_so_far memory) (λ s. s.segments) (vector_item (segment_item memory) p) ∙ unmade (vector_item (segment_item memory) p)

-- ---- sections

-- what is gathered with one more part
abbrev with_part : List Part → Part → Gathered
with_part ps part = summary (ps ++ part ∷ [])

-- a part that is gathered as it is read
arm : {X : Type 0} (ps : List Part) (part : X → Part) (into : X → Gathered) → ((x : X) → into x ≡ taken (summary ps) (part x)) → (read : Read X) → made into read ≡ made (with_part ps) (made part read)
arm {X} ps part into same (Ok x) = ap (λ (g : Gathered). Ok (g, x.1)) (same x.0 ∙ sym (summary-more ps (part x.0)))
arm ps part into same (Err at) = refl

test_arm : (ps : List Part) (b : Bool) (x : Place → Read Gathered) (y : Place → Read Part) (z : Place → Read Gathered) (w : Place → Read Part) (p : Place)
    → x p ≡ made (with_part ps) (y p) → z p ≡ made (with_part ps) (w p) → (if b then x else z) p ≡ made (with_part ps) ((if b then y else w) p)
test_arm ps true x y z w p one other = one
test_arm ps false x y z w p one other = other

pub memory_known : (ps : List Part) → first_memory (summary ps).memories ≡ memory_of ps
unfolding summary memory_of
memory_known ps = ap first_of (found_or-found [] (flat_map memories_in ps))

core_arm : (ps : List Part) (p : Place) → mapped (λ x. record (summary ps) { name = added (summary ps).name x }) module_item p ≡ made (with_part ps) (mapped core module_item p)
core_arm ps p = arm ps core (λ x. record (summary ps) { name = added (summary ps).name x }) (λ x. refl) (module_item p)

modules_arm : (ps : List Part) (p : Place) → mapped (λ x. record (summary ps) { modules = added (summary ps).modules x }) module_names p ≡ made (with_part ps) (mapped modules (vector_item module_item) p)
modules_arm ps p = rw (names_made p) (arm ps modules (λ x. record (summary ps) { modules = added (summary ps).modules x }) (λ x. refl) (vector_item module_item p))

instances_arm : (ps : List Part) (p : Place) → mapped (λ x. record (summary ps) { instances = added (summary ps).instances x }) (vector_item instance_item) p ≡ made (with_part ps) (mapped instances (vector_item instance_item) p)
instances_arm ps p = arm ps instances (λ x. record (summary ps) { instances = added (summary ps).instances x }) (λ x. refl) (vector_item instance_item p)

stack_arm : (ps : List Part) (p : Place) → mapped (with_stack (summary ps)) stack_noting p ≡ made (with_part ps) (mapped stack stack_item p)
stack_arm ps p =
    rw (stack-noted p, made-made (noted_by frame_of frame_floats) (with_stack (summary ps)) (stack_item p))
    (arm ps stack (λ x. with_stack (summary ps) (noted_by frame_of frame_floats x)) (λ x. refl) (stack_item p))

memories_arm : (ps : List Part) (p : Place) → mapped (λ x. record (summary ps) { last = 5; memories = added (summary ps).memories x }) (vector_item limits_item) p ≡ made (with_part ps) (mapped memories (vector_item limits_item) p)
memories_arm ps p = arm ps memories (λ x. record (summary ps) { last = 5; memories = added (summary ps).memories x }) (λ x. refl) (vector_item limits_item p)

globals_arm : (ps : List Part) (p : Place) → mapped (with_globals (summary ps)) (noted_vector_item value_noting) p ≡ made (with_part ps) (mapped globals (vector_item global_item) p)
globals_arm ps p =
    rw (globals-noted p, made-made (noted_by value_of float_in) (with_globals (summary ps)) (vector_item global_item p))
    (arm ps globals (λ x. with_globals (summary ps) (noted_by value_of float_in x)) (λ x. refl) (vector_item global_item p))

segments_arm : (ps : List Part) (p : Place) → mapped (λ x. record (summary ps) { last = 11; segments = added (summary ps).segments x }) (memory_segments (first_memory (summary ps).memories)) p ≡ made (with_part ps) (mapped segments (vector_item (segment_item (memory_of ps))) p)
segments_arm ps p =
    rw (memory_known ps, segments_made (memory_of ps) p) (arm ps segments (λ x. record (summary ps) { last = 11; segments = added (summary ps).segments x }) (λ x. refl) (vector_item (segment_item (memory_of ps)) p))

custom_arm : (ps : List Part) (p : Place) → mapped (λ _. summary ps) rest_item p ≡ made (with_part ps) (mapped (λ _. custom) rest_item p)
custom_arm ps p = arm ps (λ _. custom) (λ _. summary ps) (λ x. refl) (rest_item p)

passed_arm : (ps : List Part) (id : ℕ) (p : Place) → mapped (λ _. record (summary ps) { last = id }) rest_item p ≡ made (with_part ps) (mapped (λ _. passed id) rest_item p)
passed_arm ps id p = arm ps (λ _. passed id) (λ _. record (summary ps) { last = id }) (λ x. refl) (rest_item p)

custom_made : (ps : List Part) (name : List ℕ) (p : Place) → custom_gathering (summary ps) name p ≡ made (with_part ps) (custom_behind name p)
unfolding custom_gathering custom_behind
custom_made ps name p =
    test_arm ps (bytes_eq name (codes "core")) _ _ _ _ p (core_arm ps p)
    (test_arm ps (bytes_eq name (codes "coremodules")) _ _ _ _ p (modules_arm ps p)
    (test_arm ps (bytes_eq name (codes "coreinstances")) _ _ _ _ p (instances_arm ps p)
    (test_arm ps (bytes_eq name (codes "corestack")) _ _ _ _ p (stack_arm ps p) (custom_arm ps p))))

named_made : (ps : List Part) (p : Place) → (name_item ▷ custom_gathering (summary ps)) p ≡ made (with_part ps) (custom_item p)
unfolding custom_item
named_made ps p =
    rw (bind-made (with_part ps) (name_item p) (λ x. custom_behind x.0 x.1)) (bind-same (name_item p) _ _ (λ x q. custom_made ps x q))

contents_made : (ps : List Part) (id : ℕ) (p : Place) → contents_gathering (summary ps) id p ≡ made (with_part ps) (contents_item (memory_of ps) id p)
unfolding contents_gathering contents_item
contents_made ps id p =
    test_arm ps (id == 0) _ _ _ _ p (named_made ps p)
    (test_arm ps (id == 5) _ _ _ _ p (memories_arm ps p)
    (test_arm ps (id == 6) _ _ _ _ p (globals_arm ps p)
    (test_arm ps (id == 11) _ _ _ _ p (segments_arm ps p) (passed_arm ps id p))))

picked_made : (ps : List Part) (b : Bool) (at : ℕ) (x : Place → Read Gathered) (y : Place → Read Part) (p : Place) → x p ≡ made (with_part ps) (y p)
    → picked at (if b then Some x else None) p ≡ made (with_part ps) (picked at (if b then Some y else None) p)
picked_made ps true at x y p same = same
picked_made ps false at x y p same = refl

last_known : (ps : List Part) → (summary ps).last ≡ last_id ps
unfolding summary
last_known ps = refl

section_made : (ps : List Part) (p : Place) → section_step (summary ps) p ≡ made (with_part ps) (section_item ps p)
unfolding section_step section_item choose summary
section_made ps p =
    rw (bind-made (with_part ps) (byte_item p) (λ tag. picked p.at (section_behind ps tag.0) tag.1))
    (bind-same (byte_item p) _ _ (λ id q.
    rw (last_known ps) (picked_made ps (may_follow (last_id ps) id) p.at (within (contents_gathering (summary ps) id)) (within (contents_item (memory_of ps) id)) q
    (within-made (with_part ps) (contents_item (memory_of ps) id) (contents_gathering (summary ps) id) (contents_made ps id) q))))

step_made : (ps : List Part) (p : Place) → section_step (summary ps) p ≡ made summary (with_section ps p)
step_made ps p = section_made ps p ∙ sym (made-made (λ part. ps ++ part ∷ []) summary (section_item ps p))

none_known : nothing_gathered ≡ summary []
unfolding nothing_gathered summary last_id
none_known = refl

all_made : (p : Place) → steps_to_end section_step nothing_gathered p ≡ made summary (steps_to_end with_section [] p)
unfolding steps_to_end
all_made p = rw none_known (until_end-made summary with_section section_step step_made (length p.block - p.at) [] p)

behind_header : (p : Place) → all_gathered p ≡ made summary (sections_item p)
unfolding all_gathered sections_item
behind_header p = cases (bytes_item header p) where
  inner : (u : Unit {0}) (read : Read (List Part)) → made (λ (x : Unit {0} × Gathered). x.1) (made summary read >>= λ y. Ok ((u, y.0), y.1)) ≡ made summary (made (λ (x : Unit {0} × List Part). x.1) (read >>= λ y. Ok ((u, y.0), y.1)))
  inner u (Ok x) = refl
  inner u (Err at) = refl

  cases : (read : Read (Unit {0})) → made (λ (x : Unit {0} × Gathered). x.1) (read >>= λ x. steps_to_end section_step nothing_gathered x.1 >>= λ y. Ok ((x.0, y.0), y.1))
      ≡ made summary (made (λ (x : Unit {0} × List Part). x.1) (read >>= λ x. steps_to_end with_section [] x.1 >>= λ y. Ok ((x.0, y.0), y.1)))
  cases (Ok x) = rw (all_made x.1) (inner x.0 (steps_to_end with_section [] x.1))
  cases (Err at) = refl

name_known : (ps : List Part) → has_name (summary ps) ≡ has_core ps
unfolding summary
name_known ps = cases (flat_map names_in ps) where
  cases : (names : List (List ℕ)) → is_found (found names) ≡ is_some (first_of names)
  cases [] = refl
  cases (x ∷ []) = refl
  cases (x ∷ y ∷ ys) = refl

pub complete_made : (p : Place) → gathered_item p ≡ made summary (parts_item p)
unfolding gathered_item parts_item
complete_made p = rw (behind_header p) (cases (sections_item p)) where
  tested : (b : Bool) (x : List Part × Place) → (if b then Ok (summary x.0, x.1) else Err x.1.at) ≡ made summary (if b then Ok x else Err x.1.at)
  tested true x = refl
  tested false x = refl

  cases : (read : Read (List Part)) → (made summary read >>= if_complete has_name) ≡ made summary (read >>= if_complete has_core)
  cases (Ok x) = rw (name_known x.0) (tested (has_core x.0) x)
  cases (Err at) = refl
