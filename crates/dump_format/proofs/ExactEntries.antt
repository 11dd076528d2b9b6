-- The entries of a dump are read exactly as they are spelled.
use Rattle.std.proofs.Common.{◌≡◌, ℕ, ℤ, List, Option, refl, ap, subst}
use Rattle.std.specs.Prelude.{◌==◌, nat_le}
use Rattle.std.specs.Int.{w32, cast_unsigned}
use Rattle.wasm_syntax.specs.declared.value.Seen.TheVariants as seen
use Rattle.wasm_bytes.specs.Place.{Place, Read}
use Rattle.wasm_bytes.specs.Reading.{◌⊗◌, mapped, checked, choose, fixed_item, run_item, u32_item, s32_item, s64_item, name_item, vector_item, sized_run_item}
use Rattle.wasm_bytes.specs.calls.Spelling.{◌&◌, pair, always, image, passing, byte, u32, s32, s64, run, sized_run, name, vector, tagged}
use Rattle.wasm_bytes.specs.Laws.{IsExact, PicksExact}
use Rattle.wasm_bytes.proofs.Exact.{then_exact, mapped_exact, image_exact, same_exact, checked_exact, done_exact}
use Rattle.wasm_bytes.proofs.ExactItems.{u32_exact, s32_exact, s64_exact, one_of_exact, fixed_exact, run_exact, sized_run_exact, name_exact}
use Rattle.wasm_bytes.proofs.ExactLists.{vector_exact, choose_exact}
use Rattle.dump_format.specs.Region.{Region}
use Rattle.dump_format.specs.Parts.{Shown, known, float, ShownFrame}
use Rattle.dump_format.specs.Form.{known_i32, known_i64, float_behind, value_behind, value_item, module_item, instance_of, instance_item, place_item, shown_frame_of, frame_item, thread_item, stack_item, limits_behind, limits_item, mutability_item, constant_item, global_i32, global_i64, global_behind, global_item, is_memory, is_inside, region_of, segment_item}
use Rattle.dump_format.specs.calls.Grammar.{float_bytes, value_tail, value_entry, module_entry, instance_entry, frame_entry, stack_entry, limits_tail, limits_entry, mutability, constant, global_tail, global_entry, segment_body, segment_entry}
use Rattle.dump_format.proofs.OnTest.{on_test_picks, no_spelling_picks}
use Rattle.wasm_bytes.proofs.Offsets.{offset_exact}

pub float_exact : {A : Type 0} (at width : ℕ) → IsExact {A = Shown A} (float_bytes at width) (float_behind at width)
float_exact at width = image_exact (run width) (λ _. float at) (run_item width) (run_exact width)

-- ---- values

value_picks : (at tag : ℕ) → PicksExact (value_tail at tag) (value_behind at tag)
value_picks at tag =
    on_test_picks (tag == 0x01) _ _ _ _ (done_exact (known seen.Missing))
    (on_test_picks (tag == 0x7f) _ _ _ _ (image_exact s32 known_i32 s32_item s32_exact)
    (on_test_picks (tag == 0x7e) _ _ _ _ (image_exact s64 known_i64 s64_item s64_exact)
    (on_test_picks (tag == 0x7d) _ _ _ _ (float_exact at 4)
    (on_test_picks (tag == 0x7c) _ _ _ _ (float_exact at 8)
    no_spelling_picks))))

pub value_exact : IsExact value_entry value_item
unfolding value_item
value_exact = offset_exact (λ at. tagged (value_tail at)) (λ at. choose (value_behind at)) (λ at. choose_exact (value_tail at) (value_behind at) (value_picks at))

-- ---- modules, instances and frames

pub zero_exact : IsExact (always (byte 0x00)) (fixed_item 0x00)
zero_exact = fixed_exact 0x00

pub module_exact : IsExact module_entry module_item
unfolding module_item
module_exact = mapped_exact (pair (always (byte 0x00)) name) module_entry (λ x. x.1) (λ y. (tt, y)) (fixed_item 0x00 ⊗ name_item) (λ y. refl) (λ x at front s. s) (λ y at front s. s) (then_exact (always (byte 0x00)) name (fixed_item 0x00) name_item zero_exact name_exact)

pub indices_exact : IsExact (vector u32) (vector_item u32_item)
indices_exact = vector_exact u32 u32_item u32_exact

pub instance_exact : IsExact instance_entry instance_item
unfolding instance_item
instance_exact =
    mapped_exact (pair (always (byte 0x00)) (pair u32 (pair (vector u32) (vector u32)))) instance_entry instance_of (λ i. (tt, (i.module, (i.memories, i.globals)))) _ (λ i. refl) (λ x at front s. s) (λ i at front s. s)
    (then_exact _ _ _ _ zero_exact (then_exact _ _ _ _ u32_exact (then_exact _ _ _ _ indices_exact indices_exact)))

pub place_exact : IsExact (pair (always (byte 0x00)) (pair u32 (pair u32 u32))) place_item
unfolding place_item
place_exact = then_exact _ _ _ _ zero_exact (then_exact _ _ _ _ u32_exact (then_exact _ _ _ _ u32_exact u32_exact))

pub values_exact : IsExact (vector value_entry) (vector_item value_item)
values_exact = vector_exact value_entry value_item value_exact

pub frame_exact : IsExact frame_entry frame_item
unfolding frame_item
frame_exact =
    mapped_exact (pair (pair (always (byte 0x00)) (pair u32 (pair u32 u32))) (pair (vector value_entry) (vector value_entry))) frame_entry shown_frame_of (λ f. ((tt, (f.instance, (f.function, f.offset))), (f.locals, f.operands))) _ (λ f. refl) (λ x at front s. s) (λ f at front s. s)
    (then_exact _ _ _ _ place_exact (then_exact _ _ _ _ values_exact values_exact))

pub thread_exact : IsExact module_entry thread_item
unfolding thread_item
thread_exact = mapped_exact (pair (always (byte 0x00)) name) module_entry (λ x. x.1) (λ y. (tt, y)) (fixed_item 0x00 ⊗ name_item) (λ y. refl) (λ x at front s. s) (λ y at front s. s) (then_exact (always (byte 0x00)) name (fixed_item 0x00) name_item zero_exact name_exact)

pub stack_exact : IsExact stack_entry stack_item
unfolding stack_item
stack_exact =
    same_exact (image (λ x. x.1) (pair module_entry (vector frame_entry))) stack_entry (mapped (λ x. x.1) (thread_item ⊗ vector_item frame_item))
    (λ x at front s. behind x at front s.0 s.1 s.2) (λ x at front s. ((s.0, x), refl, s.1))
    (image_exact (pair module_entry (vector frame_entry)) (λ x. x.1) (thread_item ⊗ vector_item frame_item) (then_exact _ _ _ _ thread_exact (vector_exact frame_entry frame_item frame_exact)))
  where
    behind : (x : List ShownFrame) (at : ℕ) (front : List ℕ) (y : List ℕ × List ShownFrame) → y.1 ≡ x → pair module_entry (vector frame_entry) y at front → stack_entry x at front
    behind x at front y e s = (y.0, subst (λ (z : List ShownFrame). (module_entry y.0 & vector frame_entry z) at front) e s)

-- ---- memories, globals and segments

limits_picks : (flag : ℕ) → PicksExact (limits_tail flag) (limits_behind flag)
limits_picks flag =
    on_test_picks (flag == 0x00) _ _ _ _ u32_exact
    (on_test_picks (flag == 0x01) _ _ _ _
    (same_exact (image (λ x. x.0) (pair u32 u32)) (λ least at bytes. (greatest : ℕ) × (u32 least & u32 greatest) at bytes) (mapped (λ x. x.0) (u32_item ⊗ u32_item))
    (λ x at front s. least x at front s.0 s.1 s.2) (λ x at front s. ((x, s.0), refl, s.1))
    (image_exact (pair u32 u32) (λ x. x.0) (u32_item ⊗ u32_item) (then_exact _ _ _ _ u32_exact u32_exact)))
    no_spelling_picks)
  where
    least : (x at : ℕ) (front : List ℕ) (y : ℕ × ℕ) → y.0 ≡ x → pair u32 u32 y at front → (greatest : ℕ) × (u32 x & u32 greatest) at front
    least x at front y e s = (y.1, subst (λ (n : ℕ). (u32 n & u32 y.1) at front) e s)

pub limits_exact : IsExact limits_entry limits_item
unfolding limits_item
limits_exact = choose_exact limits_tail limits_behind limits_picks

pub mutability_exact : IsExact mutability mutability_item
unfolding mutability_item
mutability_exact = one_of_exact (λ b. nat_le b 0x01)

pub constant_exact : {A : Type 0} (opcode : ℕ) (S : A → ℕ → List ℕ → Type 0) (f : Place → Read A) → IsExact S f → IsExact (constant opcode S) (constant_item opcode f)
unfolding constant_item
constant_exact {A} opcode S f e =
    same_exact (image (λ x. x.1.1.0) whole) (constant opcode S) (mapped (λ x. x.1.1.0) (mutability_item ⊗ fixed_item opcode ⊗ f ⊗ fixed_item 0x0b))
    (λ x at front s. made x at front s.0 s.1 s.2) (λ x at front s. ((s.0, (tt, (x, tt))), refl, s.1))
    (image_exact whole (λ x. x.1.1.0) (mutability_item ⊗ fixed_item opcode ⊗ f ⊗ fixed_item 0x0b) (then_exact _ _ _ _ mutability_exact (then_exact _ _ _ _ (fixed_exact opcode) (then_exact _ _ _ _ e (fixed_exact 0x0b)))))
  where
    whole : ℕ × (Unit {0} × (A × Unit {0})) → ℕ → List ℕ → Type 0
    whole = pair mutability (pair (always (byte opcode)) (pair S (always (byte 0x0b))))

    made : (x : A) (at : ℕ) (front : List ℕ) (y : ℕ × (Unit {0} × (A × Unit {0}))) → y.1.1.0 ≡ x → whole y at front → constant opcode S x at front
    made x at front y same s = (y.0, subst (λ (z : A). (mutability y.0 & byte opcode & S z & byte 0x0b) at front) same s)

global_picks : (at type : ℕ) → PicksExact (global_tail at type) (global_behind at type)
global_picks at type =
    on_test_picks (type == 0x7f) _ _ _ _ (image_exact (constant 0x41 s32) global_i32 (constant_item 0x41 s32_item) (constant_exact 0x41 s32 s32_item s32_exact))
    (on_test_picks (type == 0x7e) _ _ _ _ (image_exact (constant 0x42 s64) global_i64 (constant_item 0x42 s64_item) (constant_exact 0x42 s64 s64_item s64_exact))
    (on_test_picks (type == 0x7d) _ _ _ _ (image_exact (constant 0x43 (run 4)) (λ _. float at) (constant_item 0x43 (run_item 4)) (constant_exact 0x43 (run 4) (run_item 4) (run_exact 4)))
    (on_test_picks (type == 0x7c) _ _ _ _ (image_exact (constant 0x44 (run 8)) (λ _. float at) (constant_item 0x44 (run_item 8)) (constant_exact 0x44 (run 8) (run_item 8) (run_exact 8)))
    no_spelling_picks)))

pub global_exact : IsExact global_entry global_item
unfolding global_item
global_exact = offset_exact (λ at. tagged (global_tail at)) (λ at. choose (global_behind at)) (λ at. choose_exact (global_tail at) (global_behind at) (global_picks at))

abbrev SegmentParts : Type 0
SegmentParts = ℕ × (Unit {0} × (ℤ × (Unit {0} × List ℕ)))

pub body_exact : (memory : Option ℕ) → IsExact (segment_body memory) (mapped region_of (checked (is_memory memory) u32_item ⊗ fixed_item 0x41 ⊗ s32_item ⊗ fixed_item 0x0b ⊗ sized_run_item))
body_exact memory =
    same_exact (image region_of whole) (segment_body memory) (mapped region_of (checked (is_memory memory) u32_item ⊗ fixed_item 0x41 ⊗ s32_item ⊗ fixed_item 0x0b ⊗ sized_run_item))
    (λ r at front s. made r at front s.0 s.1 s.2) (λ r at front s. ((s.0, (tt, (s.1, (tt, r.bytes)))), again r s.1 s.2, s.3))
    (image_exact whole region_of (checked (is_memory memory) u32_item ⊗ fixed_item 0x41 ⊗ s32_item ⊗ fixed_item 0x0b ⊗ sized_run_item)
    (then_exact _ _ _ _ (checked_exact (is_memory memory) u32 u32_item u32_exact) (then_exact _ _ _ _ (fixed_exact 0x41) (then_exact _ _ _ _ s32_exact (then_exact _ _ _ _ (fixed_exact 0x0b) sized_run_exact)))))
  where
    whole : SegmentParts → ℕ → List ℕ → Type 0
    whole = pair (passing (is_memory memory) u32) (pair (always (byte 0x41)) (pair s32 (pair (always (byte 0x0b)) sized_run)))

    made : (r : Region) (at : ℕ) (front : List ℕ) (y : SegmentParts) → region_of y ≡ r → whole y at front → segment_body memory r at front
    made r at front y same s =
        (y.0, y.1.1.0, ap (λ (q : Region). q.at) same, subst (λ (bytes : List ℕ). (passing (is_memory memory) u32 y.0 & byte 0x41 & s32 y.1.1.0 & byte 0x0b & sized_run bytes) at front) (ap (λ (q : Region). q.bytes) same) s)

    again : (r : Region) (address : ℤ) → cast_unsigned w32 address ≡ r.at → (let q : Region = record { at = cast_unsigned w32 address; bytes = r.bytes } in q ≡ r)
    again r address e = ap (λ (n : ℕ). let q : Region = record { at = n; bytes = r.bytes } in q) e

pub segment_exact : (memory : Option ℕ) → IsExact (segment_entry memory) (segment_item memory)
unfolding segment_item
segment_exact memory = checked_exact (is_inside memory) (segment_body memory) _ (body_exact memory)
