-- Where the entries of a dump stop.
use Rattle.std.proofs.Common.{ℕ, List, Option}
use Rattle.std.specs.Prelude.{◌==◌, nat_le}
use Rattle.wasm_syntax.specs.declared.value.Seen.TheVariants as seen
use Rattle.wasm_bytes.specs.Place.{Place, Read}
use Rattle.wasm_bytes.specs.Reading.{◌⊗◌, mapped, checked, choose, fixed_item, run_item, u32_item, s32_item, s64_item, name_item, vector_item}
use Rattle.wasm_bytes.specs.calls.Spelling.{pair, always, passing, byte, u32, s32, s64, run, vector}
use Rattle.wasm_bytes.specs.calls.Stopping.{unread}
use Rattle.wasm_bytes.specs.Laws.{IsExact, StopsAt, PicksStops}
use Rattle.wasm_bytes.proofs.Exact.{checked_exact}
use Rattle.wasm_bytes.proofs.ExactItems.{u32_exact, s32_exact, s64_exact, fixed_exact, run_exact}
use Rattle.wasm_bytes.proofs.Stops.{unread_stops_at, u32_front, checked_front, one_of_stops_at, fixed_stops_at, u32_stops_at, s32_stops_at, s64_stops_at, run_stops_at, name_stops_at, done_stops_at, mapped_stops_at, then_stops_at, checked_stops_at, sized_run_stops_at}
use Rattle.wasm_bytes.proofs.StopsLists.{choose_stops_at, vector_stops_at}
use Rattle.dump_format.specs.Parts.{Shown, known, float}
use Rattle.dump_format.specs.Form.{known_i32, known_i64, value_behind, value_item, module_item, instance_of, instance_item, place_item, shown_frame_of, frame_item, thread_item, stack_item, limits_behind, limits_item, mutability_item, constant_item, global_i32, global_i64, global_behind, global_item, is_memory, is_inside, region_of, segment_item}
use Rattle.dump_format.specs.calls.Grammar.{value_entry, module_entry, frame_entry, mutability, segment_body}
use Rattle.dump_format.specs.calls.Breaking.{IsValueTag, value_tail_stops, value_stops, module_stops, indices_stops, instance_stops, place_stops, values_stops, frame_stops, stack_stops, IsLimitsFlag, limits_tail_stops, limits_stops, constant_stops, IsGlobalType, global_tail_stops, global_stops, no_memory, segment_parts_stops, segment_stops}
use Rattle.dump_format.proofs.OnTest.{picks_stops}
use Rattle.dump_format.proofs.ExactEntries.{value_exact, zero_exact, indices_exact, place_exact, values_exact, frame_exact, thread_exact, mutability_exact, body_exact}
use Rattle.wasm_bytes.proofs.Offsets.{offset_stops}

float_stops_at : {A : Type 0} (at width : ℕ) → StopsAt {A = Shown A} (unread (run width)) (mapped (λ _. float at) (run_item width))
float_stops_at at width = mapped_stops_at (λ _. float at) (unread (run width)) (run_item width) (run_stops_at width)

-- ---- values

value_picks : (at tag : ℕ) → PicksStops (IsValueTag tag) (value_tail_stops tag) (value_behind at tag)
value_picks at tag =
    picks_stops (tag == 0x01) _ _ _ _ _ (done_stops_at (known seen.Missing))
    (picks_stops (tag == 0x7f) _ _ _ _ _ (mapped_stops_at known_i32 (unread s32) s32_item s32_stops_at)
    (picks_stops (tag == 0x7e) _ _ _ _ _ (mapped_stops_at known_i64 (unread s64) s64_item s64_stops_at)
    (picks_stops (tag == 0x7d) _ _ _ _ _ (float_stops_at at 4)
    (picks_stops (tag == 0x7c) _ _ _ _ _ (float_stops_at at 8)
    (λ x. x)))))

pub value_stops_at : StopsAt value_stops value_item
unfolding value_item
value_stops_at = offset_stops value_stops (λ at. choose (value_behind at)) (λ at. choose_stops_at IsValueTag value_tail_stops (value_behind at) (value_picks at))

-- ---- modules, instances and frames

pub module_stops_at : StopsAt module_stops module_item
unfolding module_item
module_stops_at = mapped_stops_at (λ x. x.1) module_stops (fixed_item 0x00 ⊗ name_item) (then_stops_at (always (byte 0x00)) _ _ (fixed_item 0x00) name_item zero_exact (fixed_stops_at 0x00) name_stops_at)

indices_stops_at : StopsAt indices_stops (vector_item u32_item)
indices_stops_at = vector_stops_at u32 (unread u32) u32_item u32_exact u32_stops_at

pub instance_stops_at : StopsAt instance_stops instance_item
unfolding instance_item
instance_stops_at =
    mapped_stops_at instance_of instance_stops (fixed_item 0x00 ⊗ u32_item ⊗ vector_item u32_item ⊗ vector_item u32_item)
    (then_stops_at (always (byte 0x00)) _ _ (fixed_item 0x00) _ zero_exact (fixed_stops_at 0x00)
    (then_stops_at u32 _ _ u32_item _ u32_exact u32_stops_at
    (then_stops_at (vector u32) _ _ (vector_item u32_item) _ indices_exact indices_stops_at indices_stops_at)))

place_stops_at : StopsAt place_stops place_item
unfolding place_item
place_stops_at =
    then_stops_at (always (byte 0x00)) _ _ (fixed_item 0x00) _ zero_exact (fixed_stops_at 0x00)
    (then_stops_at u32 _ _ u32_item _ u32_exact u32_stops_at (then_stops_at u32 _ _ u32_item _ u32_exact u32_stops_at u32_stops_at))

values_stops_at : StopsAt values_stops (vector_item value_item)
values_stops_at = vector_stops_at value_entry value_stops value_item value_exact value_stops_at

pub frame_stops_at : StopsAt frame_stops frame_item
unfolding frame_item
frame_stops_at =
    mapped_stops_at shown_frame_of frame_stops (place_item ⊗ vector_item value_item ⊗ vector_item value_item)
    (then_stops_at (pair (always (byte 0x00)) (pair u32 (pair u32 u32))) _ _ place_item _ place_exact place_stops_at
    (then_stops_at (vector value_entry) _ _ (vector_item value_item) _ values_exact values_stops_at values_stops_at))

thread_stops_at : StopsAt module_stops thread_item
unfolding thread_item
thread_stops_at = mapped_stops_at (λ x. x.1) module_stops (fixed_item 0x00 ⊗ name_item) (then_stops_at (always (byte 0x00)) _ _ (fixed_item 0x00) name_item zero_exact (fixed_stops_at 0x00) name_stops_at)

pub stack_stops_at : StopsAt stack_stops stack_item
unfolding stack_item
stack_stops_at =
    mapped_stops_at (λ x. x.1) stack_stops (thread_item ⊗ vector_item frame_item)
    (then_stops_at module_entry _ _ thread_item _ thread_exact thread_stops_at (vector_stops_at frame_entry frame_stops frame_item frame_exact frame_stops_at))

-- ---- memories, globals and segments

limits_picks : (flag : ℕ) → PicksStops (IsLimitsFlag flag) (limits_tail_stops flag) (limits_behind flag)
limits_picks flag =
    picks_stops (flag == 0x00) _ _ _ _ _ u32_stops_at
    (picks_stops (flag == 0x01) _ _ _ _ _ (mapped_stops_at (λ x. x.0) _ (u32_item ⊗ u32_item) (then_stops_at u32 _ _ u32_item _ u32_exact u32_stops_at u32_stops_at))
    (λ x. x))

pub limits_stops_at : StopsAt limits_stops limits_item
unfolding limits_item
limits_stops_at = choose_stops_at IsLimitsFlag limits_tail_stops limits_behind limits_picks

mutability_stops_at : StopsAt (unread mutability) mutability_item
unfolding mutability_item
mutability_stops_at = one_of_stops_at (λ b. nat_le b 0x01)

constant_stops_at : {A : Type 0} (opcode : ℕ) (S : A → ℕ → List ℕ → Type 0) (s : ℕ → List ℕ → ℕ → Type 0) (f : Place → Read A) → IsExact S f → StopsAt s f → StopsAt (constant_stops opcode S s) (constant_item opcode f)
unfolding constant_item
constant_stops_at opcode S s f e h =
    mapped_stops_at (λ x. x.1.1.0) (constant_stops opcode S s) (mutability_item ⊗ fixed_item opcode ⊗ f ⊗ fixed_item 0x0b)
    (then_stops_at mutability _ _ mutability_item _ mutability_exact mutability_stops_at
    (then_stops_at (always (byte opcode)) _ _ (fixed_item opcode) _ (fixed_exact opcode) (fixed_stops_at opcode)
    (then_stops_at S _ _ f _ e h (fixed_stops_at 0x0b))))

global_picks : (at type : ℕ) → PicksStops (IsGlobalType type) (global_tail_stops type) (global_behind at type)
global_picks at type =
    picks_stops (type == 0x7f) _ _ _ _ _ (mapped_stops_at global_i32 _ (constant_item 0x41 s32_item) (constant_stops_at 0x41 s32 (unread s32) s32_item s32_exact s32_stops_at))
    (picks_stops (type == 0x7e) _ _ _ _ _ (mapped_stops_at global_i64 _ (constant_item 0x42 s64_item) (constant_stops_at 0x42 s64 (unread s64) s64_item s64_exact s64_stops_at))
    (picks_stops (type == 0x7d) _ _ _ _ _ (mapped_stops_at (λ _. float at) _ (constant_item 0x43 (run_item 4)) (constant_stops_at 0x43 (run 4) (unread (run 4)) (run_item 4) (run_exact 4) (run_stops_at 4)))
    (picks_stops (type == 0x7c) _ _ _ _ _ (mapped_stops_at (λ _. float at) _ (constant_item 0x44 (run_item 8)) (constant_stops_at 0x44 (run 8) (unread (run 8)) (run_item 8) (run_exact 8) (run_stops_at 8)))
    (λ x. x))))

pub global_stops_at : StopsAt global_stops global_item
unfolding global_item
global_stops_at = offset_stops global_stops (λ at. choose (global_behind at)) (λ at. choose_stops_at IsGlobalType global_tail_stops (global_behind at) (global_picks at))

no_memory_stops_at : (memory : Option ℕ) → StopsAt (no_memory memory) (checked (is_memory memory) u32_item)
no_memory_stops_at memory =
    unread_stops_at (passing (is_memory memory) u32) (checked (is_memory memory) u32_item) (checked_exact (is_memory memory) u32 u32_item u32_exact) (checked_front (is_memory memory) u32_item u32_front)

pub segment_stops_at : (memory : Option ℕ) → StopsAt (segment_stops memory) (segment_item memory)
unfolding segment_item
segment_stops_at memory =
    checked_stops_at (is_inside memory) (segment_body memory) (segment_parts_stops memory) _ (body_exact memory)
    (mapped_stops_at region_of (segment_parts_stops memory) _
    (then_stops_at (passing (is_memory memory) u32) _ _ (checked (is_memory memory) u32_item) _ (checked_exact (is_memory memory) u32 u32_item u32_exact) (no_memory_stops_at memory)
    (then_stops_at (always (byte 0x41)) _ _ (fixed_item 0x41) _ (fixed_exact 0x41) (fixed_stops_at 0x41)
    (then_stops_at s32 _ _ s32_item _ s32_exact s32_stops_at
    (then_stops_at (always (byte 0x0b)) _ _ (fixed_item 0x0b) _ (fixed_exact 0x0b) (fixed_stops_at 0x0b) sized_run_stops_at)))))
