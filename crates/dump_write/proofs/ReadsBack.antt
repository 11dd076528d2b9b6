-- The canonical bytes are read as the canonical dump.
use Rattle.std.proofs.Common.{◌≡◌, ℕ, suc, ◌+◌, ◌^◌, ◌<◌, ◌≤◌, true, List, [], ◌∷◌, ◌++◌, length, map, refl, sym, ap, subst, ◌∙◌, arith, append_assoc, All, Option, Some, None, Ok}
use Rattle.std.specs.List.{flat_map}
use Rattle.std.specs.Str.{IsUtf8}
use Rattle.std.proofs.lemmas.Bool.{le-ltb}
use Rattle.std.proofs.lemmas.List.{append-nil}
use Rattle.wasm_bytes.specs.calls.Spelling.{some_steps}
use Rattle.wasm_bytes.specs.Reading.{whole}
use Rattle.wasm_syntax.specs.declared.value.Seen.{Seen}
use Rattle.wasm_syntax.specs.declared.value.Value.{Value}
use Rattle.wasm_syntax.specs.declared.quantity.Quantity.{Quantity}
use Rattle.wasm_syntax.specs.declared.quantity.Quantity.TheVariants.{DumpBytes, DumpPages, DumpFrames}
use Rattle.wasm_syntax.specs.Quantity.{greatest}
use Rattle.wasm_syntax.specs.Numbers.{IsValue}
use Rattle.dump_format.specs.declared.dump.Dump.{Dump}
use Rattle.dump_format.specs.declared.dump.Frame.{Frame}
use Rattle.dump_format.specs.declared.dump.Instance.{Instance}
use Rattle.dump_format.specs.declared.fault.DumpPart.{DumpPart}
use Rattle.dump_format.specs.declared.fault.DumpFault.{DumpFault}
use Rattle.dump_format.specs.Region.{Region}
use Rattle.dump_format.specs.Parts.{Part, core, modules, instances, stack, memories, globals, segments, known}
use Rattle.dump_format.specs.Form.{pages_of}
use Rattle.dump_format.specs.Judged.{at_float, at_repeated, first_of, seen_of, value_of, frame_of, float_in, frame_floats, floats_in, dump_of, memory_of, frames_of, refusal, repeated, last_id, over}
use Rattle.dump_format.specs.Decode.{dump_from}
use Rattle.dump_format.specs.Sections.{has_core, parts_item}
use Rattle.dump_format.specs.calls.Grammar.{section_entry, one_section, dump_file}
use Rattle.dump_format.proofs.ExactSections.{parts_read}
use Rattle.dump_write.specs.Canonical.{core_bytes, modules_bytes, instances_bytes, stack_bytes, memory_section, globals_section, data_section, sections_before_data, segments_of, instance_of, in_instance, canonical, canonical_bytes}
use Rattle.dump_write.specs.calls.Typed.{IsFrameTyped}
use Rattle.dump_write.proofs.SpelledParts.{shown_frame, IsPlaced}
use Rattle.dump_write.proofs.SpelledSections.{IsSmallInstance, core_spelled, modules_spelled, instances_spelled, stack_spelled, memory_spelled, globals_spelled, data_spelled, step_on, step_last}
use Rattle.wasm_bytes.specs.Tables.{header}
use Rattle.wasm_bytes.specs.Refusals.{◌orelse◌}

-- ---- the parts

abbrev memory_parts : Option ℕ → List Part
memory_parts (Some pages) = memories (pages ∷ []) ∷ []
memory_parts None = []

abbrev globals_parts : List Value → List Part
globals_parts [] = []
globals_parts (v ∷ vs) = globals (map known (v ∷ vs)) ∷ []

abbrev data_parts : List Region → List Part
data_parts [] = []
data_parts (r ∷ rs) = segments (r ∷ rs) ∷ []

-- the parts of the custom sections
abbrev four : List ℕ → Instance → List Frame → List Part
four name i frames = core name ∷ modules (name ∷ []) ∷ instances (i ∷ []) ∷ stack (map shown_frame frames) ∷ []

abbrev all_parts : List ℕ → Instance → List Frame → Option ℕ → List Value → List Region → List Part
all_parts name i frames memory vs rs = ((four name i frames ++ memory_parts memory) ++ globals_parts vs) ++ data_parts rs

-- ---- the sections behind the stack

-- there are segments only in a memory, inside it
abbrev pub ArePlaced : Option ℕ → List Region → Type 0
ArePlaced (Some pages) rs = (pages < 2 ^ 32) × All (IsPlaced pages) rs
ArePlaced None rs = rs ≡ []

-- no section, or the section of one part
abbrev IsSpelledOnce : List Part → List Part → ℕ → List ℕ → Type 0
IsSpelledOnce before [] at front = front ≡ []
IsSpelledOnce before (p ∷ []) at front = section_entry before p at front
IsSpelledOnce before (p ∷ q ∷ ps) at front = ⊥

once_on : (before parts : List Part) (at : ℕ) (front rest : List ℕ) (all : List Part) → IsSpelledOnce before parts at front → some_steps one_section (before ++ parts) all (at + length front) rest → some_steps one_section before all at (front ++ rest)
once_on before [] at front rest all none more =
    let same : at + length front ≡ at = omega (arith, ap length none) in
    subst (λ (bs : List ℕ). some_steps one_section before all at (bs ++ rest)) (sym none)
    (subst (λ (n : ℕ). some_steps one_section before all n rest) same (subst (λ (ps : List Part). some_steps one_section ps all (at + length front) rest) (append-nil before) more))
once_on before (p ∷ []) at front rest all one more = step_on before p at front rest all one more
once_on before (p ∷ q ∷ ps) at front rest all none more = absurd none

memory_once : (name : List ℕ) (i : Instance) (frames : List Frame) (memory : Option ℕ) (at : ℕ) → pages_of memory ≤ 4096 → length (memory_section memory) < 2 ^ 32 → IsSpelledOnce (four name i frames) (memory_parts memory) at (memory_section memory)
unfolding memory_section last_id
memory_once name i frames None at few short = refl
memory_once name i frames (Some pages) at few short = memory_spelled (four name i frames) pages at refl (omega arith) short

globals_once : (name : List ℕ) (i : Instance) (frames : List Frame) (memory : Option ℕ) (vs : List Value) (at : ℕ) → All IsValue vs → length (globals_section vs) < 2 ^ 32 → IsSpelledOnce (four name i frames ++ memory_parts memory) (globals_parts vs) at (globals_section vs)
unfolding globals_section last_id
globals_once name i frames memory [] at typed short = refl
globals_once name i frames None (v ∷ vs) at typed short = globals_spelled (four name i frames) v vs at refl typed short
globals_once name i frames (Some pages) (v ∷ vs) at typed short = globals_spelled (four name i frames ++ memories (pages ∷ []) ∷ []) v vs at refl typed short

data_once : (name : List ℕ) (i : Instance) (frames : List Frame) (memory : Option ℕ) (vs : List Value) (rs : List Region) (at : ℕ) → ArePlaced memory rs → length (data_section rs) < 2 ^ 32 → IsSpelledOnce ((four name i frames ++ memory_parts memory) ++ globals_parts vs) (data_parts rs) at (data_section rs)
unfolding data_section last_id memory_of
data_once name i frames memory vs [] at placed short = refl
data_once name i frames None vs (r ∷ rs) at placed short = absurd cc
data_once name i frames (Some pages) [] (r ∷ rs) at placed short = data_spelled (four name i frames ++ memories (pages ∷ []) ∷ []) pages r rs at refl refl placed.1 short
data_once name i frames (Some pages) (v ∷ vs) (r ∷ rs) at placed short = data_spelled ((four name i frames ++ memories (pages ∷ []) ∷ []) ++ globals (map known (v ∷ vs)) ∷ []) pages r rs at refl refl placed.1 short

-- ---- all sections

-- the sections are not too long, and hold values of their types
pub record IsSpelt (name : List ℕ) (i : Instance) (frames : List Frame) (memory : Option ℕ) (vs : List Value) (rs : List Region) : Type 0 where
  pub text : IsUtf8 name
  pub small : IsSmallInstance i
  pub frames_typed : All IsFrameTyped frames
  pub values_typed : All IsValue vs
  pub few : pages_of memory ≤ 4096
  pub placed : ArePlaced memory rs
  pub core_short : length (core_bytes name) < 2 ^ 32
  pub modules_short : length (modules_bytes name) < 2 ^ 32
  pub instances_short : length (instances_bytes i) < 2 ^ 32
  pub stack_short : length (stack_bytes frames) < 2 ^ 32
  pub memory_short : length (memory_section memory) < 2 ^ 32
  pub globals_short : length (globals_section vs) < 2 ^ 32
  pub data_short : length (data_section rs) < 2 ^ 32

abbrev pub sections_nested : List ℕ → Instance → List Frame → Option ℕ → List Value → List Region → List ℕ
sections_nested name i frames memory vs rs =
    core_bytes name ++ (modules_bytes name ++ (instances_bytes i ++ (stack_bytes frames ++ (memory_section memory ++ (globals_section vs ++ (data_section rs ++ []))))))

sections_spelled : (name : List ℕ) (i : Instance) (frames : List Frame) (memory : Option ℕ) (vs : List Value) (rs : List Region) (at : ℕ) → IsSpelt name i frames memory vs rs → some_steps one_section [] (all_parts name i frames memory vs rs) at (sections_nested name i frames memory vs rs)
sections_spelled name i frames memory vs rs at s =
    let all = all_parts name i frames memory vs rs in
    let a1 = at + length (core_bytes name) in
    let a2 = a1 + length (modules_bytes name) in
    let a3 = a2 + length (instances_bytes i) in
    let a4 = a3 + length (stack_bytes frames) in
    let a5 = a4 + length (memory_section memory) in
    let a6 = a5 + length (globals_section vs) in
    let r7 = data_section rs ++ [] in
    let r6 = globals_section vs ++ r7 in
    let r5 = memory_section memory ++ r6 in
    let r4 = stack_bytes frames ++ r5 in
    let r3 = instances_bytes i ++ r4 in
    let r2 = modules_bytes name ++ r3 in
    step_on [] (core name) at (core_bytes name) r2 all (core_spelled name at s.text s.core_short)
    (step_on (core name ∷ []) (modules (name ∷ [])) a1 (modules_bytes name) r3 all (modules_spelled name a1 s.text s.core_short s.modules_short)
    (step_on (core name ∷ modules (name ∷ []) ∷ []) (instances (i ∷ [])) a2 (instances_bytes i) r4 all (instances_spelled name i a2 s.small s.instances_short)
    (step_on (core name ∷ modules (name ∷ []) ∷ instances (i ∷ []) ∷ []) (stack (map shown_frame frames)) a3 (stack_bytes frames) r5 all (stack_spelled name i frames a3 s.frames_typed s.stack_short)
    (once_on (four name i frames) (memory_parts memory) a4 (memory_section memory) r6 all (memory_once name i frames memory a4 s.few s.memory_short)
    (once_on (four name i frames ++ memory_parts memory) (globals_parts vs) a5 (globals_section vs) r7 all (globals_once name i frames memory vs a5 s.values_typed s.globals_short)
    (once_on ((four name i frames ++ memory_parts memory) ++ globals_parts vs) (data_parts rs) a6 (data_section rs) [] all (data_once name i frames memory vs rs a6 s.placed s.data_short) (step_last all _)))))))

-- ---- what the parts say together

seen_same : (xs : List Seen) → map seen_of (map known xs) ≡ xs
seen_same [] = refl
seen_same (x ∷ xs) = ap (λ (ys : List Seen). x ∷ ys) (seen_same xs)

values_same : (xs : List Value) → map value_of (map known xs) ≡ xs
values_same [] = refl
values_same (x ∷ xs) = ap (λ (ys : List Value). x ∷ ys) (values_same xs)

no_floats : {A : Type 0} (xs : List A) → flat_map float_in (map known xs) ≡ []
no_floats [] = refl
no_floats (x ∷ xs) = no_floats xs

frame_same : (f : Frame) → frame_of (shown_frame f) ≡ in_instance f
frame_same f =
    ap (λ (ls : List Seen). let g : Frame = record { instance = 0; function = f.function; offset = f.offset; locals = ls; operands = map seen_of (map known f.operands) } in g) (seen_same f.locals)
    ∙ ap (λ (os : List Seen). let g : Frame = record { instance = 0; function = f.function; offset = f.offset; locals = f.locals; operands = os } in g) (seen_same f.operands)

frames_same : (fs : List Frame) → map frame_of (map shown_frame fs) ≡ map in_instance fs
frames_same [] = refl
frames_same (f ∷ fs) = ap (λ (g : Frame). g ∷ map frame_of (map shown_frame fs)) (frame_same f) ∙ ap (λ (gs : List Frame). in_instance f ∷ gs) (frames_same fs)

frames_plain : (fs : List Frame) → flat_map frame_floats (map shown_frame fs) ≡ []
frames_plain [] = refl
frames_plain (f ∷ fs) =
    ap (λ (xs : List ℕ). (xs ++ flat_map float_in (map known f.operands)) ++ flat_map frame_floats (map shown_frame fs)) (no_floats f.locals)
    ∙ ap (λ (xs : List ℕ). xs ++ flat_map frame_floats (map shown_frame fs)) (no_floats f.operands) ∙ frames_plain fs

length-frames : (fs : List Frame) → length (map frame_of (map shown_frame fs)) ≡ length fs
length-frames [] = refl
length-frames (f ∷ fs) = ap suc (length-frames fs)

floats_none : (name : List ℕ) (i : Instance) (frames : List Frame) (memory : Option ℕ) (vs : List Value) (rs : List Region) → flat_map floats_in (all_parts name i frames memory vs rs) ≡ []
floats_none name i frames memory vs rs = over_frames (frames_plain frames) memory vs rs where
  over_frames : flat_map frame_floats (map shown_frame frames) ≡ [] → (m : Option ℕ) (us : List Value) (ss : List Region) → flat_map floats_in (all_parts name i frames m us ss) ≡ []
  over_frames none None [] [] = ap (λ (xs : List ℕ). xs ++ []) none
  over_frames none None [] (s ∷ ss) = ap (λ (xs : List ℕ). xs ++ []) none
  over_frames none None (u ∷ us) [] = ap (λ (xs : List ℕ). xs ++ (flat_map float_in (map known us) ++ [])) none ∙ ap (λ (xs : List ℕ). xs ++ []) (no_floats us)
  over_frames none None (u ∷ us) (s ∷ ss) = ap (λ (xs : List ℕ). xs ++ (flat_map float_in (map known us) ++ [])) none ∙ ap (λ (xs : List ℕ). xs ++ []) (no_floats us)
  over_frames none (Some p) [] [] = ap (λ (xs : List ℕ). xs ++ []) none
  over_frames none (Some p) [] (s ∷ ss) = ap (λ (xs : List ℕ). xs ++ []) none
  over_frames none (Some p) (u ∷ us) [] = ap (λ (xs : List ℕ). xs ++ (flat_map float_in (map known us) ++ [])) none ∙ ap (λ (xs : List ℕ). xs ++ []) (no_floats us)
  over_frames none (Some p) (u ∷ us) (s ∷ ss) = ap (λ (xs : List ℕ). xs ++ (flat_map float_in (map known us) ++ [])) none ∙ ap (λ (xs : List ℕ). xs ++ []) (no_floats us)

none_twice : (name : List ℕ) (i : Instance) (frames : List Frame) (memory : Option ℕ) (vs : List Value) (rs : List Region) → repeated (all_parts name i frames memory vs rs) ≡ None
unfolding repeated
none_twice name i frames None [] [] = refl
none_twice name i frames None [] (r ∷ rs) = refl
none_twice name i frames None (v ∷ vs) [] = refl
none_twice name i frames None (v ∷ vs) (r ∷ rs) = refl
none_twice name i frames (Some p) [] [] = refl
none_twice name i frames (Some p) [] (r ∷ rs) = refl
none_twice name i frames (Some p) (v ∷ vs) [] = refl
none_twice name i frames (Some p) (v ∷ vs) (r ∷ rs) = refl

memory_is : (name : List ℕ) (i : Instance) (frames : List Frame) (memory : Option ℕ) (vs : List Value) (rs : List Region) → memory_of (all_parts name i frames memory vs rs) ≡ memory
unfolding memory_of
memory_is name i frames None [] [] = refl
memory_is name i frames None [] (r ∷ rs) = refl
memory_is name i frames None (v ∷ vs) [] = refl
memory_is name i frames None (v ∷ vs) (r ∷ rs) = refl
memory_is name i frames (Some p) [] [] = refl
memory_is name i frames (Some p) [] (r ∷ rs) = refl
memory_is name i frames (Some p) (v ∷ vs) [] = refl
memory_is name i frames (Some p) (v ∷ vs) (r ∷ rs) = refl

frames_are : (name : List ℕ) (i : Instance) (frames : List Frame) (memory : Option ℕ) (vs : List Value) (rs : List Region) → frames_of (all_parts name i frames memory vs rs) ≡ map frame_of (map shown_frame frames)
frames_are name i frames None [] [] = refl
frames_are name i frames None [] (r ∷ rs) = refl
frames_are name i frames None (v ∷ vs) [] = refl
frames_are name i frames None (v ∷ vs) (r ∷ rs) = refl
frames_are name i frames (Some p) [] [] = refl
frames_are name i frames (Some p) [] (r ∷ rs) = refl
frames_are name i frames (Some p) (v ∷ vs) [] = refl
frames_are name i frames (Some p) (v ∷ vs) (r ∷ rs) = refl

not_over : (what : Quantity) (n : ℕ) → n ≤ greatest what → over what n ≡ None
not_over what n few = rw (le-ltb (greatest what) n few) refl

nothing_against : (floats : List ℕ) (twice : Option DumpPart) (pages frames : Option DumpFault) → floats ≡ [] → twice ≡ None → pages ≡ None → frames ≡ None → (at_float (first_of floats) orelse (at_repeated twice orelse (pages orelse frames))) ≡ None
nothing_against floats twice pages frames a b c d = rw (a, b, c, d) refl

not_refused : (name : List ℕ) (i : Instance) (frames : List Frame) (memory : Option ℕ) (vs : List Value) (rs : List Region) → pages_of memory ≤ greatest DumpPages → length frames ≤ greatest DumpFrames → refusal (all_parts name i frames memory vs rs) ≡ None
unfolding refusal
not_refused name i frames memory vs rs pages few =
    let ps = all_parts name i frames memory vs rs in
    let low : pages_of (memory_of (all_parts name i frames memory vs rs)) ≤ greatest DumpPages = subst (λ (m : Option ℕ). pages_of m ≤ greatest DumpPages) (sym (memory_is name i frames memory vs rs)) pages in
    let long : length (frames_of (all_parts name i frames memory vs rs)) ≤ greatest DumpFrames = subst (λ (n : ℕ). n ≤ greatest DumpFrames) (sym (ap length (frames_are name i frames memory vs rs) ∙ length-frames frames)) few in
    nothing_against (flat_map floats_in ps) (repeated ps) (over DumpPages (pages_of (memory_of ps))) (over DumpFrames (length (frames_of ps))) (floats_none name i frames memory vs rs) (none_twice name i frames memory vs rs)
    (not_over DumpPages (pages_of (memory_of ps)) low) (not_over DumpFrames (length (frames_of ps)) long)

-- the dump of these parts
abbrev read_dump : List ℕ → Instance → List Frame → Option ℕ → List Value → List Region → Dump
read_dump name i frames memory vs rs = record { name = name; modules = name ∷ []; instances = i ∷ []; frames = frames; memory = memory; globals = vs; segments = rs }

dump_read : (name : List ℕ) (i : Instance) (frames : List Frame) (memory : Option ℕ) (vs : List Value) (rs : List Region) → dump_of (all_parts name i frames memory vs rs) ≡ read_dump name i (map in_instance frames) memory vs rs
unfolding dump_of memory_of
dump_read name i frames None [] [] = ap (λ (fs : List Frame). read_dump name i fs None [] []) (frames_same frames)
dump_read name i frames None [] (r ∷ rs) = ap (λ (fs : List Frame). read_dump name i fs None [] (r ∷ rs)) (frames_same frames)
dump_read name i frames None (v ∷ vs) [] = ap (λ (fs : List Frame). read_dump name i fs None (map value_of (map known (v ∷ vs))) []) (frames_same frames) ∙ ap (λ (us : List Value). read_dump name i (map in_instance frames) None us []) (values_same (v ∷ vs))
dump_read name i frames None (v ∷ vs) (r ∷ rs) = ap (λ (fs : List Frame). read_dump name i fs None (map value_of (map known (v ∷ vs))) (r ∷ rs)) (frames_same frames) ∙ ap (λ (us : List Value). read_dump name i (map in_instance frames) None us (r ∷ rs)) (values_same (v ∷ vs))
dump_read name i frames (Some p) [] [] = ap (λ (fs : List Frame). read_dump name i fs (Some p) [] []) (frames_same frames)
dump_read name i frames (Some p) [] (r ∷ rs) = ap (λ (fs : List Frame). read_dump name i fs (Some p) [] (r ∷ rs)) (frames_same frames)
dump_read name i frames (Some p) (v ∷ vs) [] = ap (λ (fs : List Frame). read_dump name i fs (Some p) (map value_of (map known (v ∷ vs))) []) (frames_same frames) ∙ ap (λ (us : List Value). read_dump name i (map in_instance frames) (Some p) us []) (values_same (v ∷ vs))
dump_read name i frames (Some p) (v ∷ vs) (r ∷ rs) = ap (λ (fs : List Frame). read_dump name i fs (Some p) (map value_of (map known (v ∷ vs))) (r ∷ rs)) (frames_same frames) ∙ ap (λ (us : List Value). read_dump name i (map in_instance frames) (Some p) us (r ∷ rs)) (values_same (v ∷ vs))

core_there : (name : List ℕ) (i : Instance) (frames : List Frame) (memory : Option ℕ) (vs : List Value) (rs : List Region) → has_core (all_parts name i frames memory vs rs) ≡ true
core_there name i frames None [] [] = refl
core_there name i frames None [] (r ∷ rs) = refl
core_there name i frames None (v ∷ vs) [] = refl
core_there name i frames None (v ∷ vs) (r ∷ rs) = refl
core_there name i frames (Some p) [] [] = refl
core_there name i frames (Some p) [] (r ∷ rs) = refl
core_there name i frames (Some p) (v ∷ vs) [] = refl
core_there name i frames (Some p) (v ∷ vs) (r ∷ rs) = refl

-- ---- the canonical bytes

pub nested : (d : Dump) → canonical_bytes d ≡ header ++ sections_nested d.name (instance_of d) d.frames d.memory d.globals (segments_of d)
unfolding canonical_bytes sections_before_data
nested d = simp (append_assoc, append-nil)

bytes_spell : (d : Dump) → IsSpelt d.name (instance_of d) d.frames d.memory d.globals (segments_of d) → dump_file (all_parts d.name (instance_of d) d.frames d.memory d.globals (segments_of d)) 0 (canonical_bytes d)
bytes_spell d s =
    let all = all_parts d.name (instance_of d) d.frames d.memory d.globals (segments_of d) in
    let rest = sections_nested d.name (instance_of d) d.frames d.memory d.globals (segments_of d) in
    (core_there d.name (instance_of d) d.frames d.memory d.globals (segments_of d), (header, rest, refl, sections_spelled d.name (instance_of d) d.frames d.memory d.globals (segments_of d) (0 + length header) s, nested d))

read_from : (bytes : List ℕ) (ps : List Part) (d : Dump) → length bytes ≤ greatest DumpBytes → whole parts_item bytes ≡ Ok ps → refusal ps ≡ None → dump_of ps ≡ d → dump_from bytes ≡ Ok d
unfolding dump_from
read_from bytes ps d short read fine is = rw (le-ltb (greatest DumpBytes) (length bytes) short, read, fine, is) refl

-- the bytes, within the limits of dumps, are read as the canonical dump
pub spelt_read : (d : Dump) → IsSpelt d.name (instance_of d) d.frames d.memory d.globals (segments_of d) → length d.frames ≤ greatest DumpFrames → length (canonical_bytes d) ≤ greatest DumpBytes → dump_from (canonical_bytes d) ≡ Ok (canonical d)
unfolding canonical
spelt_read d s frames short =
    let all = all_parts d.name (instance_of d) d.frames d.memory d.globals (segments_of d) in
    read_from (canonical_bytes d) all (canonical d) short (parts_read (canonical_bytes d) all (bytes_spell d s)) (not_refused d.name (instance_of d) d.frames d.memory d.globals (segments_of d) s.few frames)
    (dump_read d.name (instance_of d) d.frames d.memory d.globals (segments_of d))
