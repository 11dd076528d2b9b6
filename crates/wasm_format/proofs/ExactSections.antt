-- Sections and modules are read exactly as they are spelled.
use Rattle.std.proofs.Common.{◌≡◌, ℕ, List, length, Ok, refl}
use Rattle.std.specs.Prelude.{◌==◌}
use Rattle.wasm_bytes.specs.Reading.{◌⊗◌, choose, bytes_item, u32_item, name_item, sized_run_item, here_item, rest_item, vector_item, within, closed, steps_to_end, whole}
use Rattle.wasm_bytes.specs.calls.Spelling.{pair, always, here, text, u32, sized_run, name, sized, vector, tagged, some_steps}
use Rattle.wasm_bytes.specs.Laws.{IsBytes, IsExact, IsTail, PicksExact, TakesBytes}
use Rattle.wasm_bytes.proofs.Exact.{then_exact, image_exact, here_exact}
use Rattle.wasm_bytes.proofs.ExactItems.{u32_exact, sized_run_exact, name_exact, text_exact}
use Rattle.wasm_bytes.proofs.ExactBlocks.{closed_exact, closed_tail, rest_tail, then_tail, image_tail, mapped_tail, complete_tail, within_exact, whole_found, whole_read}
use Rattle.wasm_bytes.proofs.ExactLists.{vector_exact, choose_exact, steps_to_end_tail}
use Rattle.wasm_bytes.proofs.Takes.{tagged_takes}
use Rattle.wasm_format.specs.declared.module.SpelledModule.{SpelledModule}
use Rattle.wasm_format.specs.Form.{functype_item, limits_item, table_item, globaltype_item, import_item, export_item}
use Rattle.wasm_format.specs.Expressions.{expression_item}
use Rattle.wasm_format.specs.Sections.{global_of, global_item, element_of, element_item, segment_of, segment_item, with_types, with_imports, with_functions, with_tables, with_memories, with_globals, with_exports, with_start, with_elements, with_bodies, with_segments, contents_item, with_custom, custom_item, may_follow, measured, section_behind, section_step, no_sections, sections_item, has_bodies, module_item}
use Rattle.wasm_format.specs.calls.Grammar.{noted_vector, functype, limits, table, globaltype, import_entry, export_entry, expression, bodies, global_entry, element_entry, segment_entry, contents, custom_contents, section_tail, section_entry, sections, module_file}
use Rattle.wasm_format.proofs.Tests.{on_test_exact, on_test_picks, no_spelling_picks}
use Rattle.wasm_format.proofs.ExactForm.{noted_vector_exact, functype_exact, limits_exact, table_exact, globaltype_exact, import_exact, export_exact}
use Rattle.wasm_format.proofs.ExactExpressions.{expression_exact, bodies_exact}
use Rattle.wasm_bytes.proofs.Offsets.{offset_exact}
use Rattle.wasm_bytes.specs.Tables.{header}

-- ---- globals and segments

pub global_exact : IsExact global_entry global_item
unfolding global_item
global_exact = image_exact (pair globaltype expression) global_of (globaltype_item ⊗ expression_item) (then_exact _ _ _ _ globaltype_exact expression_exact)

pub indices_exact : IsExact (vector u32) (vector_item u32_item)
indices_exact = vector_exact u32 u32_item u32_exact

pub element_exact : IsExact element_entry element_item
unfolding element_item
element_exact =
    image_exact (pair u32 (pair expression (vector u32))) element_of (u32_item ⊗ expression_item ⊗ vector_item u32_item)
    (then_exact _ _ _ _ u32_exact (then_exact _ _ _ _ expression_exact indices_exact))

pub segment_exact : IsExact segment_entry segment_item
unfolding segment_item
segment_exact =
    image_exact (pair u32 (pair expression sized_run)) segment_of (u32_item ⊗ expression_item ⊗ sized_run_item)
    (then_exact _ _ _ _ u32_exact (then_exact _ _ _ _ expression_exact sized_run_exact))

-- ---- sections

pub contents_exact : (s : SpelledModule) (id : ℕ) → IsExact (contents s id) (contents_item s id)
unfolding contents_item
contents_exact s id =
    on_test_exact (id == 1) _ _ _ _ (image_exact (noted_vector functype) (with_types s) _ (noted_vector_exact functype functype_item functype_exact))
    (on_test_exact (id == 2) _ _ _ _ (image_exact (noted_vector import_entry) (with_imports s) _ (noted_vector_exact import_entry import_item import_exact))
    (on_test_exact (id == 3) _ _ _ _ (image_exact (vector u32) (with_functions s) _ indices_exact)
    (on_test_exact (id == 4) _ _ _ _ (image_exact (vector table) (with_tables s) _ (vector_exact table table_item table_exact))
    (on_test_exact (id == 5) _ _ _ _ (image_exact (vector limits) (with_memories s) _ (vector_exact limits limits_item limits_exact))
    (on_test_exact (id == 6) _ _ _ _ (image_exact (noted_vector global_entry) (with_globals s) _ (noted_vector_exact global_entry global_item global_exact))
    (on_test_exact (id == 7) _ _ _ _ (image_exact (vector export_entry) (with_exports s) _ (vector_exact export_entry export_item export_exact))
    (on_test_exact (id == 8) _ _ _ _ (image_exact u32 (with_start s) _ u32_exact)
    (on_test_exact (id == 9) _ _ _ _ (image_exact (noted_vector element_entry) (with_elements s) _ (noted_vector_exact element_entry element_item element_exact))
    (on_test_exact (id == 10) _ _ _ _ (image_exact (bodies (length s.parts.functions)) (with_bodies s) _ (bodies_exact (length s.parts.functions)))
    (image_exact (noted_vector segment_entry) (with_segments s) _ (noted_vector_exact segment_entry segment_item segment_exact)))))))))))

pub custom_open_tail : (s : SpelledModule) → IsTail (custom_contents s) (custom_item s)
unfolding custom_item
custom_open_tail s = image_tail (pair name (pair here text)) (with_custom s) (name_item ⊗ here_item ⊗ rest_item) (then_tail _ _ _ _ name_exact (then_tail _ _ _ _ here_exact rest_tail))

custom_tail : (s : SpelledModule) → IsTail (custom_contents s) (closed (custom_item s))
custom_tail s = closed_tail (custom_contents s) (custom_item s) (custom_open_tail s)

pub block_exact : (s : SpelledModule) (id : ℕ) → IsExact (λ t. sized (contents s id t)) (within (contents_item s id))
block_exact s id = within_exact (contents s id) (contents_item s id) (closed_exact (contents s id) (contents_item s id) (contents_exact s id))

section_picks : (s : SpelledModule) (from id : ℕ) → PicksExact (section_tail s from id) (section_behind s from id)
section_picks s from id =
    on_test_picks (id == 0) _ _ _ _ (within_exact (custom_contents s) (custom_item s) (custom_tail s))
    (on_test_picks (may_follow s.last id) _ _ _ _ (image_exact (pair (λ t. sized (contents s id t)) here) (measured from) (within (contents_item s id) ⊗ here_item) (then_exact _ _ _ _ (block_exact s id) here_exact))
    no_spelling_picks)

pub section_exact : (s : SpelledModule) → IsExact (section_entry s) (section_step s)
unfolding section_step
section_exact s = offset_exact (λ at. tagged (section_tail s at)) (λ from. choose (section_behind s from)) (λ from. choose_exact (section_tail s from) (section_behind s from) (section_picks s from))

pub section_takes : (s : SpelledModule) → TakesBytes (section_entry s)
section_takes s t at front is = tagged_takes (section_tail s at) t at front is

-- ---- modules

pub sections_tail : IsTail sections sections_item
unfolding sections_item
sections_tail =
    mapped_tail (pair (always (text header)) (some_steps section_entry no_sections)) sections (λ x. x.1) (λ s. (tt, s)) (bytes_item header ⊗ steps_to_end section_step no_sections) (λ s. refl) (λ x at front s. s) (λ y at front s. s)
    (then_tail _ _ _ _ (text_exact header) (steps_to_end_tail section_entry section_step section_exact section_takes no_sections))

pub module_tail : IsTail module_file module_item
unfolding module_item
module_tail = complete_tail has_bodies sections sections_item sections_tail

-- What reads as a module is spelled so.
pub module_found : (bytes : List ℕ) (s : SpelledModule) → IsBytes bytes → whole module_item bytes ≡ Ok s → module_file s 0 bytes
module_found bytes s = whole_found module_file module_item (closed_tail module_file module_item module_tail) bytes s

-- What is spelled so reads as that module.
pub module_read : (bytes : List ℕ) (s : SpelledModule) → module_file s 0 bytes → whole module_item bytes ≡ Ok s
module_read bytes s = whole_read module_file module_item (closed_tail module_file module_item module_tail) bytes s
