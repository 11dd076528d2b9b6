-- Where a module stops.
use Rattle.std.proofs.Common.{◌≡◌, ℕ, List, length, Err}
use Rattle.std.specs.Prelude.{◌==◌, drop}
use Rattle.wasm_bytes.specs.Reading.{◌⊗◌, choose, bytes_item, u32_item, name_item, sized_run_item, here_item, rest_item, vector_item, within, closed, steps_to_end, whole}
use Rattle.wasm_bytes.specs.calls.Spelling.{always, text, u32, name}
use Rattle.wasm_bytes.specs.calls.Stopping.{unread, sized_stops}
use Rattle.wasm_bytes.specs.Laws.{IsBytes, StopsAt, PicksStops}
use Rattle.wasm_bytes.proofs.ExactItems.{u32_exact, text_exact}
use Rattle.wasm_bytes.proofs.Stops.{u32_stops_at, name_stops_at, mapped_stops_at, then_stops_at, text_stops_at, sized_run_stops_at}
use Rattle.wasm_bytes.proofs.StopsBlocks.{closed_stops_at, closed_tail_stops_at, complete_stops_at, within_stops_at, whole_stops, whole_stopped}
use Rattle.wasm_bytes.proofs.StopsLists.{choose_stops_at, vector_stops_at, steps_to_end_stops_at}
use Rattle.wasm_format.specs.declared.module.SpelledModule.{SpelledModule}
use Rattle.wasm_format.specs.Form.{functype_item, limits_item, table_item, globaltype_item, import_item, export_item}
use Rattle.wasm_format.specs.Expressions.{expression_item}
use Rattle.wasm_format.specs.Sections.{global_of, global_item, element_of, element_item, segment_of, segment_item, with_types, with_imports, with_functions, with_tables, with_memories, with_globals, with_exports, with_start, with_elements, with_bodies, with_segments, contents_item, with_custom, custom_item, may_follow, measured, section_behind, section_step, no_sections, sections_item, has_bodies, module_item}
use Rattle.wasm_format.specs.calls.Grammar.{functype, limits, table, globaltype, import_entry, export_entry, expression, global_entry, element_entry, segment_entry, contents, custom_contents, section_entry, sections, module_file}
use Rattle.wasm_format.specs.calls.Breaking.{functype_stops, limits_stops, table_stops, import_stops, export_stops, global_stops, element_stops, segment_stops, items_of_section, contents_stops, section_tail_stops, IsNextId, section_stops, sections_stops, module_stops}
use Rattle.wasm_format.proofs.Tests.{on_test_stops, picks_stops, offset_stops, total_stops_at}
use Rattle.wasm_format.proofs.ExactForm.{functype_exact, limits_exact, table_exact, globaltype_exact, import_exact, export_exact}
use Rattle.wasm_format.proofs.ExactExpressions.{expression_exact}
use Rattle.wasm_format.proofs.ExactSections.{global_exact, element_exact, segment_exact, contents_exact, custom_open_tail, section_exact, section_takes, sections_tail, module_tail}
use Rattle.wasm_format.proofs.StopsForm.{noted_vector_stops_at, functype_stops_at, limits_stops_at, table_stops_at, globaltype_stops_at, import_stops_at, export_stops_at}
use Rattle.wasm_format.proofs.StopsExpressions.{expression_stops_at, bodies_stops_at}
use Rattle.wasm_bytes.specs.Tables.{header}

-- ---- globals and segments

global_stops_at : StopsAt global_stops global_item
unfolding global_item
global_stops_at = mapped_stops_at global_of global_stops (globaltype_item ⊗ expression_item) (then_stops_at globaltype _ _ globaltype_item expression_item globaltype_exact globaltype_stops_at expression_stops_at)

element_stops_at : StopsAt element_stops element_item
unfolding element_item
element_stops_at =
    mapped_stops_at element_of element_stops (u32_item ⊗ expression_item ⊗ vector_item u32_item)
    (then_stops_at u32 _ _ u32_item _ u32_exact u32_stops_at
    (then_stops_at expression _ _ expression_item _ expression_exact expression_stops_at (vector_stops_at u32 (unread u32) u32_item u32_exact u32_stops_at)))

segment_stops_at : StopsAt segment_stops segment_item
unfolding segment_item
segment_stops_at =
    mapped_stops_at segment_of segment_stops (u32_item ⊗ expression_item ⊗ sized_run_item)
    (then_stops_at u32 _ _ u32_item _ u32_exact u32_stops_at
    (then_stops_at expression _ _ expression_item _ expression_exact expression_stops_at sized_run_stops_at))

-- ---- sections

items_stops_at : (s : SpelledModule) (id : ℕ) → StopsAt (items_of_section (length s.parts.functions) id) (contents_item s id)
unfolding contents_item
items_stops_at s id =
    on_test_stops (id == 1) _ _ _ _ (mapped_stops_at (with_types s) _ _ (noted_vector_stops_at functype functype_stops functype_item functype_exact functype_stops_at))
    (on_test_stops (id == 2) _ _ _ _ (mapped_stops_at (with_imports s) _ _ (noted_vector_stops_at import_entry import_stops import_item import_exact import_stops_at))
    (on_test_stops (id == 3) _ _ _ _ (mapped_stops_at (with_functions s) _ _ (vector_stops_at u32 (unread u32) u32_item u32_exact u32_stops_at))
    (on_test_stops (id == 4) _ _ _ _ (mapped_stops_at (with_tables s) _ _ (vector_stops_at table table_stops table_item table_exact table_stops_at))
    (on_test_stops (id == 5) _ _ _ _ (mapped_stops_at (with_memories s) _ _ (vector_stops_at limits limits_stops limits_item limits_exact limits_stops_at))
    (on_test_stops (id == 6) _ _ _ _ (mapped_stops_at (with_globals s) _ _ (noted_vector_stops_at global_entry global_stops global_item global_exact global_stops_at))
    (on_test_stops (id == 7) _ _ _ _ (mapped_stops_at (with_exports s) _ _ (vector_stops_at export_entry export_stops export_item export_exact export_stops_at))
    (on_test_stops (id == 8) _ _ _ _ (mapped_stops_at (with_start s) _ _ u32_stops_at)
    (on_test_stops (id == 9) _ _ _ _ (mapped_stops_at (with_elements s) _ _ (noted_vector_stops_at element_entry element_stops element_item element_exact element_stops_at))
    (on_test_stops (id == 10) _ _ _ _ (mapped_stops_at (with_bodies s) _ _ (bodies_stops_at (length s.parts.functions)))
    (mapped_stops_at (with_segments s) _ _ (noted_vector_stops_at segment_entry segment_stops segment_item segment_exact segment_stops_at)))))))))))

block_stops_at : (s : SpelledModule) (id : ℕ) → StopsAt (sized_stops (contents_stops s id)) (within (contents_item s id))
block_stops_at s id = within_stops_at (contents_stops s id) (contents_item s id) (closed_stops_at (contents s id) _ (contents_item s id) (contents_exact s id) (items_stops_at s id))

-- Behind the name all is read.
custom_stops_at : (s : SpelledModule) → StopsAt (unread name) (closed (custom_item s))
unfolding custom_item rest_item
custom_stops_at s =
    closed_tail_stops_at (custom_contents s) (unread name) (custom_item s) (custom_open_tail s)
    (mapped_stops_at (with_custom s) (unread name) (name_item ⊗ here_item ⊗ rest_item)
    (total_stops_at (λ p y. ((y.0, (y.1.at, drop y.1.at y.1.block)), record y.1 { at = length y.1.block })) (unread name) name_item name_stops_at))

section_picks : (s : SpelledModule) (from id : ℕ) → PicksStops (IsNextId s id) (section_tail_stops s id) (section_behind s from id)
section_picks s from id =
    picks_stops (id == 0) _ _ _ _ _ (within_stops_at _ (custom_item s) (custom_stops_at s))
    (picks_stops (may_follow s.last id) _ _ _ _ _ (mapped_stops_at (measured from) _ (within (contents_item s id) ⊗ here_item) (total_stops_at (λ p y. ((y.0, y.1.at), y.1)) (sized_stops (contents_stops s id)) (within (contents_item s id)) (block_stops_at s id)))
    (λ x. x))

section_stops_at : (s : SpelledModule) → StopsAt (section_stops s) (section_step s)
unfolding section_step
section_stops_at s = offset_stops (λ from. section_stops s) (λ from. choose (section_behind s from)) (λ from. choose_stops_at (IsNextId s) (section_tail_stops s) (section_behind s from) (section_picks s from))

-- ---- modules

sections_stops_at : StopsAt sections_stops sections_item
unfolding sections_item
sections_stops_at =
    mapped_stops_at (λ x. x.1) sections_stops (bytes_item header ⊗ steps_to_end section_step no_sections)
    (then_stops_at (always (text header)) _ _ (bytes_item header) (steps_to_end section_step no_sections) (text_exact header) (text_stops_at header)
    (steps_to_end_stops_at section_entry section_stops section_step section_exact section_stops_at section_takes no_sections))

pub module_stops_at : StopsAt module_stops module_item
unfolding module_item
module_stops_at = complete_stops_at has_bodies sections sections_stops sections_item sections_tail sections_stops_at

all_stops_at : StopsAt module_stops (closed module_item)
all_stops_at = closed_tail_stops_at module_file module_stops module_item module_tail module_stops_at

-- What fails to read stops there.
pub module_stop : (bytes : List ℕ) (o : ℕ) → IsBytes bytes → whole module_item bytes ≡ Err o → module_stops 0 bytes o
module_stop = whole_stops module_stops module_item all_stops_at

-- What stops there fails to read there.
pub module_stopped : (bytes : List ℕ) (o : ℕ) → IsBytes bytes → module_stops 0 bytes o → whole module_item bytes ≡ Err o
module_stopped = whole_stopped module_stops module_item all_stops_at
