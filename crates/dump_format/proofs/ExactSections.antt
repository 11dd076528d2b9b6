-- The sections of a dump are read exactly as they are spelled.
use Rattle.std.proofs.Common.{◌≡◌, ℕ, List, [], ◌∷◌, ◌++◌, Option, Ok, refl}
use Rattle.std.specs.Prelude.{◌==◌, codes}
use Rattle.std.specs.Str.{bytes_eq}
use Rattle.wasm_bytes.specs.Place.{Place, Read}
use Rattle.wasm_bytes.specs.Reading.{◌⊗◌, ◌▷◌, mapped, bytes_item, name_item, rest_item, vector_item, closed, steps_to_end, whole}
use Rattle.wasm_bytes.specs.calls.Spelling.{pair, leads, always, image, text, name, vector, some_steps}
use Rattle.wasm_bytes.specs.Laws.{IsBytes, IsExact, IsTail, PicksExact, TakesBytes}
use Rattle.wasm_bytes.proofs.Exact.{image_exact}
use Rattle.wasm_bytes.proofs.ExactItems.{name_exact, text_exact}
use Rattle.wasm_bytes.proofs.ExactBlocks.{closed_exact, closed_tail, rest_tail, leads_tail, then_tail, image_tail, mapped_tail, complete_tail, within_exact, whole_found, whole_read}
use Rattle.wasm_bytes.proofs.ExactLists.{vector_exact, choose_exact, steps_to_end_tail}
use Rattle.wasm_bytes.proofs.Takes.{image_takes, tagged_takes}
use Rattle.dump_format.specs.Parts.{Part, core, modules, instances, stack, memories, globals, segments, custom, passed}
use Rattle.dump_format.specs.Form.{module_item, instance_item, stack_item, limits_item, global_item, segment_item}
use Rattle.dump_format.specs.Judged.{last_id, memory_of}
use Rattle.dump_format.specs.Sections.{custom_behind, custom_item, contents_item, may_follow, section_behind, section_item, with_section, sections_item, has_core, parts_item}
use Rattle.dump_format.specs.calls.Grammar.{module_entry, instance_entry, stack_entry, limits_entry, global_entry, segment_entry, custom_tail, contents, section_tail, section_entry, one_section, sections, dump_file}
use Rattle.dump_format.proofs.OnTest.{on_test_closed, on_test_picks, no_spelling_picks, same_closed, closed-leads}
use Rattle.dump_format.proofs.ExactEntries.{module_exact, instance_exact, stack_exact, limits_exact, global_exact, segment_exact}
use Rattle.wasm_bytes.specs.Tables.{header}

-- a part that fills its block
part_closed : {X : Type 0} (part : X → Part) (S : X → ℕ → List ℕ → Type 0) (f : Place → Read X) → IsExact S f → IsTail (image part S) (closed (mapped part f))
part_closed part S f e = closed_exact (image part S) (mapped part f) (image_exact S part f e)

rest_closed : (part : Part) → IsTail (image (λ _. part) text) (closed (mapped (λ _. part) rest_item))
rest_closed part = closed_tail (image (λ _. part) text) (mapped (λ _. part) rest_item) (image_tail text (λ _. part) rest_item rest_tail)

custom_closed : (title : List ℕ) → IsTail (custom_tail title) (closed (custom_behind title))
unfolding custom_behind
custom_closed title =
    on_test_closed (bytes_eq title (codes "core")) _ _ _ _ (part_closed core module_entry module_item module_exact)
    (on_test_closed (bytes_eq title (codes "coremodules")) _ _ _ _ (part_closed modules (vector module_entry) (vector_item module_item) (vector_exact module_entry module_item module_exact))
    (on_test_closed (bytes_eq title (codes "coreinstances")) _ _ _ _ (part_closed instances (vector instance_entry) (vector_item instance_item) (vector_exact instance_entry instance_item instance_exact))
    (on_test_closed (bytes_eq title (codes "corestack")) _ _ _ _ (part_closed stack stack_entry stack_item stack_exact) (rest_closed custom))))

named_closed : IsTail (leads name custom_tail) (closed custom_item)
unfolding custom_item
named_closed =
    same_closed (leads name custom_tail) (closed (name_item ▷ custom_behind)) (name_item ▷ (λ title. closed (custom_behind title))) (closed-leads name_item custom_behind)
    (leads_tail name custom_tail name_item (λ title. closed (custom_behind title)) name_exact custom_closed)

pub contents_closed : (memory : Option ℕ) (id : ℕ) → IsTail (contents memory id) (closed (contents_item memory id))
unfolding contents_item
contents_closed memory id =
    on_test_closed (id == 0) _ _ _ _ named_closed
    (on_test_closed (id == 5) _ _ _ _ (part_closed memories (vector limits_entry) (vector_item limits_item) (vector_exact limits_entry limits_item limits_exact))
    (on_test_closed (id == 6) _ _ _ _ (part_closed globals (vector global_entry) (vector_item global_item) (vector_exact global_entry global_item global_exact))
    (on_test_closed (id == 11) _ _ _ _ (part_closed segments (vector (segment_entry memory)) (vector_item (segment_item memory)) (vector_exact (segment_entry memory) (segment_item memory) (segment_exact memory))) (rest_closed (passed id)))))

section_picks : (before : List Part) (id : ℕ) → PicksExact (section_tail before id) (section_behind before id)
section_picks before id =
    on_test_picks (may_follow (last_id before) id) _ _ _ _ (within_exact (contents (memory_of before) id) (contents_item (memory_of before) id) (contents_closed (memory_of before) id)) no_spelling_picks

pub section_exact : (before : List Part) → IsExact (section_entry before) (section_item before)
unfolding section_item
section_exact before = choose_exact (section_tail before) (section_behind before) (section_picks before)

pub one_exact : (before : List Part) → IsExact (one_section before) (with_section before)
one_exact before = image_exact (section_entry before) (λ part. before ++ part ∷ []) (section_item before) (section_exact before)

pub one_takes : (before : List Part) → TakesBytes (one_section before)
one_takes before = image_takes (λ part. before ++ part ∷ []) (section_entry before) (tagged_takes (section_tail before))

pub steps_tail : IsTail (some_steps one_section []) (steps_to_end with_section [])
steps_tail = steps_to_end_tail one_section with_section one_exact one_takes []

pub sections_tail : IsTail sections sections_item
unfolding sections_item
sections_tail =
    mapped_tail (pair (always (text header)) (some_steps one_section [])) sections (λ x. x.1) (λ ps. (tt, ps)) (bytes_item header ⊗ steps_to_end with_section []) (λ ps. refl) (λ x at front s. s) (λ ps at front s. s)
    (then_tail _ _ _ _ (text_exact header) steps_tail)

pub parts_tail : IsTail dump_file parts_item
unfolding parts_item
parts_tail = complete_tail has_core sections sections_item sections_tail

-- What reads as parts is spelled so.
pub parts_found : (bytes : List ℕ) (ps : List Part) → IsBytes bytes → whole parts_item bytes ≡ Ok ps → dump_file ps 0 bytes
parts_found bytes ps = whole_found dump_file parts_item (closed_tail dump_file parts_item parts_tail) bytes ps

-- What is spelled so reads as these parts.
pub parts_read : (bytes : List ℕ) (ps : List Part) → dump_file ps 0 bytes → whole parts_item bytes ≡ Ok ps
parts_read bytes ps = whole_read dump_file parts_item (closed_tail dump_file parts_item parts_tail) bytes ps
