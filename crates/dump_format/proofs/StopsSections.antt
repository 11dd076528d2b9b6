-- Where a dump stops.
use Rattle.std.proofs.Common.{◌≡◌, ℕ, List, [], ◌∷◌, ◌++◌, Option, Err}
use Rattle.std.specs.Prelude.{◌==◌, codes}
use Rattle.std.specs.Str.{bytes_eq}
use Rattle.wasm_bytes.specs.Place.{Place, Read}
use Rattle.wasm_bytes.specs.Reading.{◌⊗◌, ◌▷◌, mapped, bytes_item, name_item, rest_item, vector_item, closed, steps_to_end, whole}
use Rattle.wasm_bytes.specs.calls.Spelling.{always, image, text, name, vector}
use Rattle.wasm_bytes.specs.calls.Stopping.{never, unread, closed_stops, sized_stops, either, behind}
use Rattle.wasm_bytes.specs.Laws.{IsBytes, IsExact, StopsAt, PicksStops}
use Rattle.wasm_bytes.proofs.Exact.{image_exact}
use Rattle.wasm_bytes.proofs.ExactItems.{name_exact, text_exact}
use Rattle.wasm_bytes.proofs.ExactBlocks.{rest_tail, image_tail}
use Rattle.wasm_bytes.proofs.ExactLists.{vector_exact}
use Rattle.wasm_bytes.proofs.Stops.{name_stops_at, mapped_stops_at, leads_stops_at, then_stops_at, text_stops_at}
use Rattle.wasm_bytes.proofs.StopsBlocks.{closed_stops_at, closed_tail_stops_at, complete_stops_at, rest_stops_at, within_stops_at, whole_stops, whole_stopped}
use Rattle.wasm_bytes.proofs.StopsLists.{choose_stops_at, vector_stops_at, steps_to_end_stops_at}
use Rattle.dump_format.specs.Parts.{Part, core, modules, instances, stack, memories, globals, segments, custom, passed}
use Rattle.dump_format.specs.Form.{module_item, instance_item, stack_item, limits_item, global_item, segment_item}
use Rattle.dump_format.specs.Judged.{last_id, memory_of}
use Rattle.dump_format.specs.Sections.{custom_behind, custom_item, contents_item, may_follow, section_behind, section_item, with_section, sections_item, has_core, parts_item}
use Rattle.dump_format.specs.calls.Grammar.{module_entry, instance_entry, stack_entry, limits_entry, global_entry, segment_entry, one_section, sections, dump_file}
use Rattle.dump_format.specs.calls.Breaking.{module_stops, instance_stops, stack_stops, limits_stops, global_stops, segment_stops, custom_tail_stops, contents_stops, IsNextId, section_stops, sections_stops, dump_stops, stops_on_test}
use Rattle.dump_format.proofs.OnTest.{on_test_stops, picks_stops, same_item_stops, closed-leads}
use Rattle.dump_format.proofs.ExactEntries.{module_exact, instance_exact, stack_exact, limits_exact, global_exact, segment_exact}
use Rattle.dump_format.proofs.StopsEntries.{module_stops_at, instance_stops_at, stack_stops_at, limits_stops_at, global_stops_at, segment_stops_at}
use Rattle.dump_format.proofs.ExactSections.{one_exact, one_takes, sections_tail, parts_tail}
use Rattle.wasm_bytes.specs.Tables.{header}

-- a part that fills its block
part_stops : {X : Type 0} (part : X → Part) (S : X → ℕ → List ℕ → Type 0) (s : ℕ → List ℕ → ℕ → Type 0) (f : Place → Read X) → IsExact S f → StopsAt s f → StopsAt (closed_stops (image part S) s) (closed (mapped part f))
part_stops part S s f e h = closed_stops_at (image part S) s (mapped part f) (image_exact S part f e) (mapped_stops_at part s f h)

rest_stops : (part : Part) → StopsAt never (closed (mapped (λ _. part) rest_item))
rest_stops part = closed_tail_stops_at (image (λ _. part) text) never (mapped (λ _. part) rest_item) (image_tail text (λ _. part) rest_item rest_tail) (mapped_stops_at (λ _. part) never rest_item rest_stops_at)

custom_stops_at : (title : List ℕ) → StopsAt (custom_tail_stops title) (closed (custom_behind title))
unfolding custom_behind
custom_stops_at title =
    on_test_stops (bytes_eq title (codes "core")) _ _ _ _ (part_stops core module_entry module_stops module_item module_exact module_stops_at)
    (on_test_stops (bytes_eq title (codes "coremodules")) _ _ _ _ (part_stops modules (vector module_entry) _ (vector_item module_item) (vector_exact module_entry module_item module_exact) (vector_stops_at module_entry module_stops module_item module_exact module_stops_at))
    (on_test_stops (bytes_eq title (codes "coreinstances")) _ _ _ _ (part_stops instances (vector instance_entry) _ (vector_item instance_item) (vector_exact instance_entry instance_item instance_exact) (vector_stops_at instance_entry instance_stops instance_item instance_exact instance_stops_at))
    (on_test_stops (bytes_eq title (codes "corestack")) _ _ _ _ (part_stops stack stack_entry stack_stops stack_item stack_exact stack_stops_at) (rest_stops custom))))

named_stops_at : StopsAt (either (unread name) (behind name custom_tail_stops)) (closed custom_item)
unfolding custom_item
named_stops_at =
    same_item_stops (either (unread name) (behind name custom_tail_stops)) (closed (name_item ▷ custom_behind)) (name_item ▷ (λ title. closed (custom_behind title))) (closed-leads name_item custom_behind)
    (leads_stops_at name (unread name) custom_tail_stops name_item (λ title. closed (custom_behind title)) name_exact name_stops_at custom_stops_at)

contents_stops_at : (memory : Option ℕ) (id : ℕ) → StopsAt (contents_stops memory id) (closed (contents_item memory id))
unfolding contents_item
contents_stops_at memory id =
    on_test_stops (id == 0) _ _ _ _ named_stops_at
    (on_test_stops (id == 5) _ _ _ _ (part_stops memories (vector limits_entry) _ (vector_item limits_item) (vector_exact limits_entry limits_item limits_exact) (vector_stops_at limits_entry limits_stops limits_item limits_exact limits_stops_at))
    (on_test_stops (id == 6) _ _ _ _ (part_stops globals (vector global_entry) _ (vector_item global_item) (vector_exact global_entry global_item global_exact) (vector_stops_at global_entry global_stops global_item global_exact global_stops_at))
    (on_test_stops (id == 11) _ _ _ _ (part_stops segments (vector (segment_entry memory)) _ (vector_item (segment_item memory)) (vector_exact (segment_entry memory) (segment_item memory) (segment_exact memory)) (vector_stops_at (segment_entry memory) (segment_stops memory) (segment_item memory) (segment_exact memory) (segment_stops_at memory)))
    (rest_stops (passed id)))))

section_picks : (before : List Part) (id : ℕ) → PicksStops (IsNextId before id) (stops_on_test (may_follow (last_id before) id) (sized_stops (contents_stops (memory_of before) id)) never) (section_behind before id)
section_picks before id =
    picks_stops (may_follow (last_id before) id) _ _ _ _ _ (within_stops_at (contents_stops (memory_of before) id) (contents_item (memory_of before) id) (contents_stops_at (memory_of before) id)) (λ x. x)

section_stops_at : (before : List Part) → StopsAt (section_stops before) (section_item before)
unfolding section_item
section_stops_at before = choose_stops_at (IsNextId before) _ (section_behind before) (section_picks before)

one_stops_at : (before : List Part) → StopsAt (section_stops before) (with_section before)
one_stops_at before = mapped_stops_at (λ part. before ++ part ∷ []) (section_stops before) (section_item before) (section_stops_at before)

sections_stops_at : StopsAt sections_stops sections_item
unfolding sections_item
sections_stops_at =
    mapped_stops_at (λ x. x.1) sections_stops (bytes_item header ⊗ steps_to_end with_section [])
    (then_stops_at (always (text header)) _ _ (bytes_item header) (steps_to_end with_section []) (text_exact header) (text_stops_at header) (steps_to_end_stops_at one_section section_stops with_section one_exact one_stops_at one_takes []))

parts_stops_at : StopsAt dump_stops parts_item
unfolding parts_item
parts_stops_at = complete_stops_at has_core sections sections_stops sections_item sections_tail sections_stops_at

all_stops_at : StopsAt dump_stops (closed parts_item)
all_stops_at = closed_tail_stops_at dump_file dump_stops parts_item parts_tail parts_stops_at

-- What fails to read stops there.
pub parts_stop : (bytes : List ℕ) (o : ℕ) → IsBytes bytes → whole parts_item bytes ≡ Err o → dump_stops 0 bytes o
parts_stop = whole_stops dump_stops parts_item all_stops_at

-- What stops there fails to read there.
pub parts_stopped : (bytes : List ℕ) (o : ℕ) → IsBytes bytes → dump_stops 0 bytes o → whole parts_item bytes ≡ Err o
parts_stopped = whole_stopped dump_stops parts_item all_stops_at
