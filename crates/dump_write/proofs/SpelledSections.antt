-- The sections of the canonical bytes spell the parts of a dump.
use Rattle.std.proofs.Common.{◌≡◌, ℕ, zero, suc, ◌+◌, ◌^◌, ◌<◌, ◌≤◌, true, List, [], ◌∷◌, ◌++◌, length, map, refl, sym, subst, inl, inr, arith, lit<, length-append, All, Option, Some}
use Rattle.std.specs.Prelude.{codes}
use Rattle.std.specs.List.{flat_map}
use Rattle.std.specs.Str.{IsUtf8}
use Rattle.std.proofs.lemmas.List.Elements.{All-cons}
use Rattle.wasm_leb.specs.Writing.{unsigned_bytes}
use Rattle.wasm_bytes.specs.calls.Spelling.{some_steps}
use Rattle.wasm_syntax.specs.declared.value.Value.{Value}
use Rattle.wasm_syntax.specs.Numbers.{IsValue}
use Rattle.dump_format.specs.declared.dump.Frame.{Frame}
use Rattle.dump_format.specs.declared.dump.Instance.{Instance}
use Rattle.dump_format.specs.Region.{Region}
use Rattle.dump_format.specs.Parts.{Part, core, modules, instances, stack, memories, globals, segments, known}
use Rattle.dump_format.specs.Judged.{last_id, memory_of}
use Rattle.dump_format.specs.Sections.{may_follow}
use Rattle.dump_format.specs.calls.Grammar.{module_entry, instance_entry, frame_entry, limits_entry, global_entry, segment_entry, custom_tail, contents, section_entry, one_section}
use Rattle.dump_write.specs.Spelled.{name_bytes, vector_bytes, module_bytes, frame_bytes, global_bytes, segment_bytes, section_bytes, custom_bytes}
use Rattle.dump_write.specs.Canonical.{instance_bytes, core_bytes, modules_bytes, instances_bytes, stack_bytes, memory_section, globals_section, data_section}
use Rattle.dump_write.specs.calls.Typed.{IsFrameTyped}
use Rattle.dump_write.proofs.Lists.{ascii_text}
use Rattle.dump_write.proofs.SpelledParts.{name_spelled, module_spelled, vector_spelled, list_spelled, no_longer, global_long, global_spelled, frame_long, shown_frame, IsSmallFrame, frame_spelled, instance_spelled, limits_spelled, segment_long, IsPlaced, segment_spelled}
use Rattle.wasm_bytes.proofs.Numbers.{u32_spelled}

-- ---- sizes

pub body_short : (id : ℕ) (body : List ℕ) → length body ≤ length (section_bytes id body)
unfolding section_bytes
body_short id body = omega (arith, length-append (unsigned_bytes (length body)) body)

name_short : (title : List ℕ) → length title ≤ length (module_bytes title)
unfolding module_bytes name_bytes
name_short title = omega (arith, length-append (unsigned_bytes (length title)) title)

each_short : {A : Type 0} (f : A → List ℕ) (n : ℕ) (xs : List A) → length (flat_map f xs) < n → All (λ x. length (f x) < n) xs
each_short f n [] small = λ k d h. absurd (omega arith)
each_short f n (x ∷ xs) small =
    let long = length-append (f x) (flat_map f xs) in
    All-cons (λ y. length (f y) < n) x xs (omega (arith, long)) (each_short f n xs (omega (arith, long)))

elements_short : {A : Type 0} (f : A → List ℕ) (n : ℕ) (xs : List A) → length (vector_bytes f xs) < n → All (λ x. length (f x) < n) xs
unfolding vector_bytes
elements_short f n xs small = each_short f n xs (omega (arith, length-append (unsigned_bytes (length xs)) (flat_map f xs)))

all_one : {A : Type 0} (P : A → Type 0) (x : A) → P x → All P (x ∷ [])
all_one P x one = All-cons P x [] one (λ k d h. absurd (omega arith))

all_both : {A : Type 0} (P Q : A → Type 0) (xs : List A) → All P xs → All Q xs → All (λ x. P x × Q x) xs
all_both P Q xs p q k d h = (p k d h, q k d h)

-- ---- any section

section_spelled : (before : List Part) (id : ℕ) (part : Part) (body : List ℕ) (at : ℕ) → may_follow (last_id before) id ≡ true → ((o : ℕ) → contents (memory_of before) id part o body) → length (section_bytes id body) < 2 ^ 32 → section_entry before part at (section_bytes id body)
unfolding section_bytes
section_spelled before id part body at may inner small =
    let short : length body < 2 ^ 32 = omega (arith, length-append (unsigned_bytes (length body)) body) in
    (id, (id ∷ [], unsigned_bytes (length body) ++ body, refl, inl (may, (unsigned_bytes (length body), body, u32_spelled (length body) (at + 1) short, inner (at + 1 + length (unsigned_bytes (length body))), refl)), refl))

custom_spelled : (before : List Part) (title tail : List ℕ) (part : Part) (at : ℕ) → IsUtf8 title → length title < 2 ^ 32 → ((o : ℕ) → custom_tail title part o tail) → length (custom_bytes title tail) < 2 ^ 32 → section_entry before part at (custom_bytes title tail)
unfolding custom_bytes
custom_spelled before title tail part at text few inner small =
    section_spelled before 0 part (name_bytes title ++ tail) at refl (λ o. inl (refl, (title, (name_bytes title, tail, name_spelled title o text few, inner (o + length (name_bytes title)), refl)))) small

tail_short : (title tail : List ℕ) → length tail ≤ length (custom_bytes title tail)
unfolding custom_bytes
tail_short title tail = omega (arith, body_short 0 (name_bytes title ++ tail), length-append (name_bytes title) tail)

-- ---- the four custom sections

-- a name that is a text, and not too long
abbrev IsName : List ℕ → Type 0
IsName name = IsUtf8 name × (length name < 2 ^ 32)

names_spelled : (name : List ℕ) (at : ℕ) → IsName name → module_entry name at (module_bytes name)
names_spelled name at (text, few) = module_spelled name at text few

pub core_spelled : (name : List ℕ) (at : ℕ) → IsUtf8 name → length (core_bytes name) < 2 ^ 32 → section_entry [] (core name) at (core_bytes name)
unfolding core_bytes
core_spelled name at text small =
    let few : length name < 2 ^ 32 = omega (arith, name_short name, tail_short (codes "core") (module_bytes name)) in
    custom_spelled [] (codes "core") (module_bytes name) (core name) at (ascii_text (codes "core") refl) (lit< tt) (λ o. inl (refl, (name, refl, module_spelled name o text few))) small

pub modules_spelled : (name : List ℕ) (at : ℕ) → IsUtf8 name → length (core_bytes name) < 2 ^ 32 → length (modules_bytes name) < 2 ^ 32 → section_entry (core name ∷ []) (modules (name ∷ [])) at (modules_bytes name)
unfolding modules_bytes core_bytes
modules_spelled name at text core_small small =
    let few : length name < 2 ^ 32 = omega (arith, name_short name, tail_short (codes "core") (module_bytes name)) in
    custom_spelled (core name ∷ []) (codes "coremodules") (vector_bytes module_bytes (name ∷ [])) (modules (name ∷ [])) at (ascii_text (codes "coremodules") refl) (lit< tt)
    (λ o. inr (refl, inl (refl, (name ∷ [], refl, list_spelled module_entry module_bytes IsName names_spelled (name ∷ []) o (all_one IsName name (text, few)) (lit< tt))))) small

-- an instance whose indices are numbers of 32 bits
pub record IsSmallInstance (i : Instance) : Type 0 where
  pub «module» : i.«module» < 2 ^ 32
  pub memories : All (λ n. n < 2 ^ 32) i.memories
  pub memory_count : length i.memories < 2 ^ 32
  pub globals : All (λ n. n < 2 ^ 32) i.globals
  pub global_count : length i.globals < 2 ^ 32

one_instance : (i : Instance) (at : ℕ) → IsSmallInstance i → instance_entry i at (instance_bytes i)
one_instance i at s = instance_spelled i at s.«module» s.memories s.memory_count s.globals s.global_count

pub instances_spelled : (name : List ℕ) (i : Instance) (at : ℕ) → IsSmallInstance i → length (instances_bytes i) < 2 ^ 32 → section_entry (core name ∷ modules (name ∷ []) ∷ []) (instances (i ∷ [])) at (instances_bytes i)
unfolding instances_bytes
instances_spelled name i at good small =
    custom_spelled (core name ∷ modules (name ∷ []) ∷ []) (codes "coreinstances") (vector_bytes instance_bytes (i ∷ [])) (instances (i ∷ [])) at (ascii_text (codes "coreinstances") refl) (lit< tt)
    (λ o. inr (refl, inr (refl, inl (refl, (i ∷ [], refl, list_spelled instance_entry instance_bytes IsSmallInstance one_instance (i ∷ []) o (all_one IsSmallInstance i good) (lit< tt)))))) small

pub stack_spelled : (name : List ℕ) (i : Instance) (frames : List Frame) (at : ℕ) → All IsFrameTyped frames → length (stack_bytes frames) < 2 ^ 32
    → section_entry (core name ∷ modules (name ∷ []) ∷ instances (i ∷ []) ∷ []) (stack (map shown_frame frames)) at (stack_bytes frames)
unfolding stack_bytes
stack_spelled name i frames at typed small =
    let main = module_bytes (codes "main") in
    let all = vector_bytes frame_bytes frames in
    let short : length (vector_bytes frame_bytes frames) < 2 ^ 32 = omega (arith, tail_short (codes "corestack") (module_bytes (codes "main") ++ vector_bytes frame_bytes frames), length-append (module_bytes (codes "main")) (vector_bytes frame_bytes frames)) in
    let few : length frames < 2 ^ 32 = omega (arith, no_longer frame_bytes frame_long frames) in
    custom_spelled (core name ∷ modules (name ∷ []) ∷ instances (i ∷ []) ∷ []) (codes "corestack") (main ++ all) (stack (map shown_frame frames)) at (ascii_text (codes "corestack") refl) (lit< tt)
    (λ o. inr (
      refl,
      inr (
        refl,
        inr (
          refl,
          inl (
            refl,
            (
              map shown_frame frames,
              refl,
              (
                codes "main",
                (
                  main,
                  all,
                  module_spelled (codes "main") o (ascii_text (codes "main") refl) (lit< tt),
                  vector_spelled frame_entry shown_frame frame_bytes IsSmallFrame frame_spelled frames (o + length main) (all_both IsFrameTyped (λ f. length (frame_bytes f) < 2 ^ 32) frames typed (elements_short frame_bytes (2 ^ 32) frames short)) few,
                  refl,
                ),
              ),
            ),
          ),
        ),
      ),
    )) small

-- ---- the memory, the globals and the data

pub memory_spelled : (before : List Part) (pages at : ℕ) → may_follow (last_id before) 5 ≡ true → pages < 2 ^ 32 → length (memory_section (Some pages)) < 2 ^ 32 → section_entry before (memories (pages ∷ [])) at (memory_section (Some pages))
unfolding memory_section
memory_spelled before pages at may few small =
    section_spelled before 5 (memories (pages ∷ [])) _ at may (λ o. inr (refl, inl (refl, (pages ∷ [], refl, list_spelled limits_entry (λ n. 0x00 ∷ unsigned_bytes n) (λ n. n < 2 ^ 32) limits_spelled (pages ∷ []) o (all_one (λ n. n < 2 ^ 32) pages few) (lit< tt))))) small

pub globals_spelled : (before : List Part) (v : Value) (vs : List Value) (at : ℕ) → may_follow (last_id before) 6 ≡ true → All IsValue (v ∷ vs) → length (globals_section (v ∷ vs)) < 2 ^ 32 → section_entry before (globals (map known (v ∷ vs))) at (globals_section (v ∷ vs))
unfolding globals_section
globals_spelled before v vs at may typed small =
    let few : length (v ∷ vs) < 2 ^ 32 = omega (arith, no_longer global_bytes global_long (v ∷ vs), body_short 6 (vector_bytes global_bytes (v ∷ vs))) in
    section_spelled before 6 (globals (map known (v ∷ vs))) (vector_bytes global_bytes (v ∷ vs)) at may
    (λ o. inr (refl, inr (refl, inl (refl, (map known (v ∷ vs), refl, vector_spelled global_entry known global_bytes IsValue global_spelled (v ∷ vs) o typed few))))) small

pub data_spelled : (before : List Part) (pages : ℕ) (r : Region) (rs : List Region) (at : ℕ) → may_follow (last_id before) 11 ≡ true → memory_of before ≡ Some pages → All (IsPlaced pages) (r ∷ rs) → length (data_section (r ∷ rs)) < 2 ^ 32 → section_entry before (segments (r ∷ rs)) at (data_section (r ∷ rs))
unfolding data_section
data_spelled before pages r rs at may memory placed small =
    let few : length (r ∷ rs) < 2 ^ 32 = omega (arith, no_longer segment_bytes segment_long (r ∷ rs), body_short 11 (vector_bytes segment_bytes (r ∷ rs))) in
    section_spelled before 11 (segments (r ∷ rs)) (vector_bytes segment_bytes (r ∷ rs)) at may
    (λ o. subst (λ (m : Option ℕ). contents m 11 (segments (r ∷ rs)) o (vector_bytes segment_bytes (r ∷ rs))) (sym memory)
    (inr (refl, inr (refl, inr (refl, inl (refl, (r ∷ rs, refl, list_spelled (segment_entry (Some pages)) segment_bytes (IsPlaced pages) (segment_spelled pages) (r ∷ rs) o placed few))))))) small

-- ---- sections one after another

pub step_on : (before : List Part) (part : Part) (at : ℕ) (front rest : List ℕ) (all : List Part) → section_entry before part at front → some_steps one_section (before ++ part ∷ []) all (at + length front) rest → some_steps one_section before all at (front ++ rest)
step_on before part at front rest all one more = (suc more.0, (before ++ part ∷ [], (front, rest, (part, refl, one), more.1, refl)))

pub step_last : (all : List Part) (at : ℕ) → some_steps one_section all all at []
step_last all at = (zero, (refl, refl))
