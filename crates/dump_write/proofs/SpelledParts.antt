-- The shortest bytes of each part of a dump spell it.
use Rattle.std.proofs.Common.{◌≡◌, ℕ, ◌+◌, ◌^◌, ◌<◌, ◌≤◌, true, List, [], ◌∷◌, ◌++◌, length, map, refl, sym, ap, subst, ◌∙◌, inl, inr, arith, lit<, append_assoc, length-append, All, Some}
use Rattle.std.specs.Int.{w32, w64, cast_signed}
use Rattle.std.specs.List.{flat_map}
use Rattle.std.specs.Str.{IsUtf8}
use Rattle.std.proofs.lemmas.List.{length-map}
use Rattle.std.proofs.lemmas.Int.{of_z-to_z}
use Rattle.std.proofs.lemmas.List.Elements.{All-head, All-tail}
use Rattle.wasm_leb.specs.calls.Numbers.{IsUnsigned}
use Rattle.wasm_leb.specs.Writing.{unsigned_bytes, signed_bytes}
use Rattle.wasm_leb.proofs.SignedBytes.{signed_spells}
use Rattle.wasm_bytes.specs.calls.Spelling.{Spellings, items, vector, u32, s32, s64, name}
use Rattle.wasm_syntax.specs.declared.value.Seen.{Seen}
use Rattle.wasm_syntax.specs.declared.value.Seen.TheVariants as seen
use Rattle.wasm_syntax.specs.declared.value.Value.{Value}
use Rattle.wasm_syntax.specs.declared.value.Value.TheVariants as value
use Rattle.dump_format.specs.declared.dump.Frame.{Frame}
use Rattle.dump_format.specs.declared.dump.Instance.{Instance}
use Rattle.dump_format.specs.Region.{Region}
use Rattle.dump_format.specs.Parts.{known, ShownFrame}
use Rattle.dump_format.specs.Form.{is_inside}
use Rattle.dump_format.specs.calls.Grammar.{value_entry, module_entry, instance_entry, frame_entry, limits_entry, global_entry, segment_entry}
use Rattle.dump_write.specs.Spelled.{name_bytes, vector_bytes, module_bytes, seen_bytes, frame_bytes, global_bytes, segment_head, segment_bytes}
use Rattle.dump_write.specs.Canonical.{instance_bytes}
use Rattle.dump_write.specs.calls.Typed.{IsSeenTyped, IsFrameTyped}
use Rattle.wasm_syntax.proofs.Differ.{map_same}
use Rattle.wasm_syntax.specs.Numbers.{IsValue}
use Rattle.wasm_bytes.proofs.Numbers.{u32_spelled, within_32, within_64}

-- ---- numbers and names

s32_spelled : (n at : ℕ) → n < 2 ^ 32 → s32 (cast_signed w32 n) at (signed_bytes (cast_signed w32 n))
s32_spelled n at h = signed_spells 32 (cast_signed w32 n) (omega arith) (within_32 n h)

s64_spelled : (n at : ℕ) → n < 2 ^ 64 → s64 (cast_signed w64 n) at (signed_bytes (cast_signed w64 n))
s64_spelled n at h = signed_spells 64 (cast_signed w64 n) (omega arith) (within_64 n h)

pub name_spelled : (title : List ℕ) (at : ℕ) → IsUtf8 title → length title < 2 ^ 32 → name title at (name_bytes title)
unfolding name_bytes
name_spelled title at text small = (unsigned_bytes (length title), title, u32_spelled (length title) at small, (refl, text), refl)

pub module_spelled : (title : List ℕ) (at : ℕ) → IsUtf8 title → length title < 2 ^ 32 → module_entry title at (module_bytes title)
unfolding module_bytes
module_spelled title at text small = (0x00 ∷ [], name_bytes title, refl, name_spelled title (at + 1) text small, refl)

-- ---- vectors

items_spelled : {A B : Type 0} (S : B → Spellings) (to : A → B) (f : A → List ℕ) (P : A → Type 0) → ((x : A) (at : ℕ) → P x → S (to x) at (f x)) → (xs : List A) (at : ℕ) → All P xs → items S (map to xs) at (flat_map f xs)
items_spelled S to f P one [] at all = refl
items_spelled S to f P one (x ∷ xs) at all = (f x, flat_map f xs, one x at (All-head P x xs all), items_spelled S to f P one xs (at + length (f x)) (All-tail P x xs all), refl)

pub vector_spelled : {A B : Type 0} (S : B → Spellings) (to : A → B) (f : A → List ℕ) (P : A → Type 0) → ((x : A) (at : ℕ) → P x → S (to x) at (f x)) → (xs : List A) (at : ℕ) → All P xs → length xs < 2 ^ 32 → vector S (map to xs) at (vector_bytes f xs)
unfolding vector_bytes
vector_spelled S to f P one xs at all few = (
  unsigned_bytes (length xs),
  flat_map f xs,
  subst (λ (n : ℕ). IsUnsigned 32 (unsigned_bytes (length xs)) n) (sym (length-map xs to)) (u32_spelled (length xs) at few),
  items_spelled S to f P one xs (at + length (unsigned_bytes (length xs))) all,
  refl,
)

pub list_spelled : {A : Type 0} (S : A → Spellings) (f : A → List ℕ) (P : A → Type 0) → ((x : A) (at : ℕ) → P x → S x at (f x)) → (xs : List A) (at : ℕ) → All P xs → length xs < 2 ^ 32 → vector S xs at (vector_bytes f xs)
list_spelled {A} S f P one xs at all few = subst (λ (ys : List A). vector S ys at (vector_bytes f xs)) (map_same xs) (vector_spelled S (λ x. x) f P one xs at all few)

-- a list is no longer than the bytes of its elements
pub no_longer : {A : Type 0} (f : A → List ℕ) → ((x : A) → 1 ≤ length (f x)) → (xs : List A) → length xs ≤ length (vector_bytes f xs)
unfolding vector_bytes
no_longer {A} f one xs = omega (arith, length-append (unsigned_bytes (length xs)) (flat_map f xs), each xs) where
  each : (ys : List A) → length ys ≤ length (flat_map f ys)
  each [] = omega arith
  each (y ∷ ys) = omega (arith, one y, each ys, length-append (f y) (flat_map f ys))

-- ---- values

pub seen_long : (v : Seen) → 1 ≤ length (seen_bytes v)
unfolding seen_bytes
seen_long (seen.I32 n) = omega arith
seen_long (seen.I64 n) = omega arith
seen_long seen.Missing = omega arith

pub seen_spelled : (v : Seen) (at : ℕ) → IsSeenTyped v → value_entry (known v) at (seen_bytes v)
unfolding seen_bytes
seen_spelled (seen.I32 n) at h =
    (0x7f, (0x7f ∷ [], signed_bytes (cast_signed w32 n), refl, inr (refl, inl (refl, (cast_signed w32 n, ap (λ (m : ℕ). known (seen.I32 m)) (of_z-to_z w32 n h), s32_spelled n (at + 1) h))), refl))
seen_spelled (seen.I64 n) at h =
    (0x7e, (0x7e ∷ [], signed_bytes (cast_signed w64 n), refl, inr (refl, inr (refl, inl (refl, (cast_signed w64 n, ap (λ (m : ℕ). known (seen.I64 m)) (of_z-to_z w64 n h), s64_spelled n (at + 1) h)))), refl))
seen_spelled seen.Missing at h = (0x01, (0x01 ∷ [], [], refl, inl (refl, (refl, refl)), refl))

pub global_long : (v : Value) → 1 ≤ length (global_bytes v)
unfolding global_bytes
global_long (value.I32 n) = omega arith
global_long (value.I64 n) = omega arith

pub global_spelled : (v : Value) (at : ℕ) → IsValue v → global_entry (known v) at (global_bytes v)
unfolding global_bytes
global_spelled (value.I32 n) at h =
    let z = cast_signed w32 n in (
      0x7f,
      (
        0x7f ∷ [],
        0x00 ∷ 0x41 ∷ (signed_bytes z ++ 0x0b ∷ []),
        refl,
        inl (
          refl,
          (
            z,
            ap (λ (m : ℕ). known (value.I32 m)) (of_z-to_z w32 n h),
            (0, (0x00 ∷ [], 0x41 ∷ (signed_bytes z ++ 0x0b ∷ []), (refl, refl), (0x41 ∷ [], signed_bytes z ++ 0x0b ∷ [], refl, (signed_bytes z, 0x0b ∷ [], s32_spelled n (at + 1 + 1 + 1) h, refl, refl), refl), refl)),
          ),
        ),
        refl,
      ),
    )
global_spelled (value.I64 n) at h =
    let z = cast_signed w64 n in (
      0x7e,
      (
        0x7e ∷ [],
        0x00 ∷ 0x42 ∷ (signed_bytes z ++ 0x0b ∷ []),
        refl,
        inr (
          refl,
          inl (
            refl,
            (
              z,
              ap (λ (m : ℕ). known (value.I64 m)) (of_z-to_z w64 n h),
              (0, (0x00 ∷ [], 0x42 ∷ (signed_bytes z ++ 0x0b ∷ []), (refl, refl), (0x42 ∷ [], signed_bytes z ++ 0x0b ∷ [], refl, (signed_bytes z, 0x0b ∷ [], s64_spelled n (at + 1 + 1 + 1) h, refl, refl), refl), refl)),
            ),
          ),
        ),
        refl,
      ),
    )

-- ---- frames

-- a frame of the one instance
abbrev pub shown_frame : Frame → ShownFrame
shown_frame f = record { instance = 0; function = f.function; offset = f.offset; locals = map known f.locals; operands = map known f.operands }

-- a frame whose bytes are not too many
abbrev pub IsSmallFrame : Frame → Type 0
IsSmallFrame f = IsFrameTyped f × (length (frame_bytes f) < 2 ^ 32)

zero_spelled : (at : ℕ) → u32 0 at (0x00 ∷ [])
zero_spelled at = (lit< tt, lit< tt, refl)

pub frame_long : (f : Frame) → 1 ≤ length (frame_bytes f)
unfolding frame_bytes
frame_long f = omega arith

locals_few : (f : Frame) → length (frame_bytes f) < 2 ^ 32 → (length f.locals < 2 ^ 32) × (length f.operands < 2 ^ 32)
unfolding frame_bytes
locals_few f small =
    let place = unsigned_bytes f.function ++ unsigned_bytes f.offset in
    let long : length (vector_bytes seen_bytes f.locals) + length (vector_bytes seen_bytes f.operands) < 2 ^ 32 =
    omega (arith, length-append ((unsigned_bytes f.function ++ unsigned_bytes f.offset) ++ vector_bytes seen_bytes f.locals) (vector_bytes seen_bytes f.operands), length-append (unsigned_bytes f.function ++ unsigned_bytes f.offset) (vector_bytes seen_bytes f.locals))
    in
    (omega (arith, no_longer seen_bytes seen_long f.locals), omega (arith, no_longer seen_bytes seen_long f.operands))

pub frame_spelled : (f : Frame) (at : ℕ) → IsSmallFrame f → frame_entry (shown_frame f) at (frame_bytes f)
unfolding frame_bytes
frame_spelled f at (typed, small) =
    let few = locals_few f small in
    let place = unsigned_bytes f.function ++ unsigned_bytes f.offset in
    let locals = vector_bytes seen_bytes f.locals in
    let operands = vector_bytes seen_bytes f.operands in
    let behind = at + length (0x00 ∷ 0x00 ∷ (unsigned_bytes f.function ++ unsigned_bytes f.offset)) in (
      0x00 ∷ 0x00 ∷ place,
      locals ++ operands,
      (0x00 ∷ [], 0x00 ∷ place, refl, (0x00 ∷ [], place, zero_spelled (at + 1), (unsigned_bytes f.function, unsigned_bytes f.offset, u32_spelled f.function (at + 1 + 1) typed.function, u32_spelled f.offset (at + 1 + 1 + length (unsigned_bytes f.function)) typed.offset, refl), refl), refl),
      (locals, operands, vector_spelled value_entry known seen_bytes IsSeenTyped seen_spelled f.locals behind typed.locals few.0, vector_spelled value_entry known seen_bytes IsSeenTyped seen_spelled f.operands (behind + length locals) typed.operands few.1, refl),
      ap (λ (bs : List ℕ). 0x00 ∷ 0x00 ∷ bs) (append_assoc place locals operands),
    )

-- ---- instances, memories and segments

abbrev IsIndex : ℕ → Type 0
IsIndex n = n < 2 ^ 32

pub instance_spelled : (i : Instance) (at : ℕ) → i.«module» < 2 ^ 32 → All (λ n. n < 2 ^ 32) i.memories → length i.memories < 2 ^ 32 → All (λ n. n < 2 ^ 32) i.globals → length i.globals < 2 ^ 32 → instance_entry i at (instance_bytes i)
unfolding instance_bytes
instance_spelled i at low memories few globals some =
    let first = unsigned_bytes i.«module» in
    let m = vector_bytes unsigned_bytes i.memories in
    let g = vector_bytes unsigned_bytes i.globals in (
      0x00 ∷ [],
      first ++ m ++ g,
      refl,
      (
        first,
        m ++ g,
        u32_spelled i.«module» (at + 1) low,
        (m, g, list_spelled u32 unsigned_bytes IsIndex u32_spelled i.memories (at + 1 + length first) memories few, list_spelled u32 unsigned_bytes IsIndex u32_spelled i.globals (at + 1 + length first + length m) globals some, refl),
        append_assoc first m g,
      ),
      refl,
    )

pub limits_spelled : (pages at : ℕ) → pages < 2 ^ 32 → limits_entry pages at (0x00 ∷ unsigned_bytes pages)
limits_spelled pages at small = (0x00, (0x00 ∷ [], unsigned_bytes pages, refl, inl (refl, u32_spelled pages (at + 1) small), refl))

-- a segment that lies in a memory of at most 4096 pages
abbrev pub IsPlaced : ℕ → Region → Type 0
IsPlaced pages r = (is_inside (Some pages) r ≡ true) × (r.at < 2 ^ 32) × (length r.bytes < 2 ^ 32)

pub segment_long : (r : Region) → 1 ≤ length (segment_bytes r)
unfolding segment_head
segment_long r = omega arith

pub segment_spelled : (pages : ℕ) (r : Region) (at : ℕ) → IsPlaced pages r → segment_entry (Some pages) r at (segment_bytes r)
unfolding segment_head
segment_spelled pages r at placed =
    let z = cast_signed w32 r.at in
    let address = signed_bytes z in
    let count = unsigned_bytes (length r.bytes) in (
      placed.0,
      (
        0,
        z,
        of_z-to_z w32 r.at placed.1,
        (
          0x00 ∷ [],
          0x41 ∷ (address ++ 0x0b ∷ (count ++ r.bytes)),
          (refl, zero_spelled at),
          (
            0x41 ∷ [],
            address ++ 0x0b ∷ (count ++ r.bytes),
            refl,
            (
              address,
              0x0b ∷ (count ++ r.bytes),
              s32_spelled r.at (at + 1 + 1) placed.1,
              (0x0b ∷ [], count ++ r.bytes, refl, (count, r.bytes, u32_spelled (length r.bytes) (at + 1 + 1 + length address + 1) placed.2, refl, refl), refl),
              refl,
            ),
            refl,
          ),
          ap (λ (bs : List ℕ). 0x00 ∷ 0x41 ∷ bs) (append_assoc (address ++ 0x0b ∷ []) count r.bytes ∙ append_assoc address (0x0b ∷ []) (count ++ r.bytes)),
        ),
      ),
    )
