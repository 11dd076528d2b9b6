-- The segments of a dump lie inside its memory.
use Rattle.std.proofs.Common.{◌≡◌, ℕ, zero, suc, ◌+◌, ◌-◌, ◌*◌, ◌^◌, ◌<◌, ◌≤◌, ◌⊎◌, Bool, true, false, List, [], ◌∷◌, ◌++◌, length, Option, refl, sym, ap, subst, ◌∙◌, inl, inr, arith}
use Rattle.std.specs.Prelude.{◌==◌, ◌&&◌, ◌||◌, nat_lt, nat_le, map, All, Result, Ok, Err, IfOk}
use Rattle.std.specs.List.{flat_map}
use Rattle.std.proofs.lemmas.Bool.{ltb-true, leb-true, eqb-true}
use Rattle.std.proofs.lemmas.List.{append-nil, length-map}
use Rattle.std.proofs.lemmas.List.Elements.{All-nil, All-cons, All-weaker}
use Rattle.wasm_leb.specs.calls.Numbers.{IsUnsigned}
use Rattle.wasm_leb.proofs.Powers.{fits_above}
use Rattle.wasm_syntax.specs.declared.value.Value.{Value}
use Rattle.wasm_bytes.specs.calls.Spelling.{items, vector, image, steps}
use Rattle.dump_format.specs.declared.dump.Dump.{Dump}
use Rattle.dump_format.specs.declared.fault.DumpFault.{DumpFault}
use Rattle.dump_format.specs.Region.{Region}
use Rattle.dump_format.specs.Parts.{Part, core, modules, instances, stack, memories, globals, segments, custom, passed}
use Rattle.dump_format.specs.Form.{is_inside, pages_of}
use Rattle.dump_format.specs.Judged.{value_of, memories_in, values_in, segments_in, only, first_of, last_id, memory_of, dump_of}
use Rattle.dump_format.specs.Sections.{may_follow}
use Rattle.dump_format.specs.calls.Grammar.{global_entry, segment_entry, custom_tail, contents, section_entry, one_section, dump_file}
use Rattle.dump_format.specs.calls.Meaning.{IsDump, Exactly}
use Rattle.dump_format.specs.calls.Contained.{IsContained, IsLimited}
use Rattle.dump_format.proofs.Summary.{more, last_more}

-- ---- what a section says of itself

abbrev AllInside : Option ℕ → List Region → Type 0
AllInside memory = All (λ r. is_inside memory r ≡ true)

abbrev Shape : List Part → Part → Type 0
Shape before (memories pages) = last_id before < 5
Shape before (globals values) = (last_id before < 6) × (length values < 2 ^ 32)
Shape before (segments regions) = (last_id before < 11) × AllInside (memory_of before) regions
Shape before (passed id) = (last_id before < id) × (id ≤ 11)
Shape before _ = Unit {0}

unsigned_below : (bits n : ℕ) (front : List ℕ) → IsUnsigned bits front n → n < 2 ^ bits
unsigned_below bits n [] s = absurd s
unsigned_below bits n (b ∷ []) s = omega (arith, s.1, s.2)
unsigned_below bits n (b ∷ c ∷ bs) s =
    let high = unsigned_below (bits - 7) s.3 (c ∷ bs) s.5 in
    let below = fits_above bits s.3 b s.2 high s.1 s.0 in
    omega (arith, below, s.4, s.0)

each_inside : (memory : Option ℕ) (rs : List Region) (at : ℕ) (bytes : List ℕ) → items (segment_entry memory) rs at bytes → AllInside memory rs
each_inside memory [] at bytes s = All-nil (λ r. is_inside memory r ≡ true)
each_inside memory (r ∷ rs) at bytes s = All-cons (λ r. is_inside memory r ≡ true) r rs s.2.0 (each_inside memory rs _ s.1 s.3)

rises : (last id : ℕ) → may_follow last id ≡ true → (id == 0) ≡ false → (last < id) × (id ≤ 11)
rises last id follows other = both (nat_lt last id) (nat_le id 11) refl refl (sym (ap (λ (b : Bool). b || (nat_lt last id && nat_le id 11)) other) ∙ follows) where
  both : (b c : Bool) → nat_lt last id ≡ b → nat_le id 11 ≡ c → (b && c) ≡ true → (last < id) × (id ≤ 11)
  both true true m n e = (ltb-true last id m, leb-true id 11 n)
  both true false m n e = absurd cc
  both false c m n e = absurd cc

custom_shape : (before : List Part) (title : List ℕ) (part : Part) (at : ℕ) (bytes : List ℕ) → custom_tail title part at bytes → Shape before part
custom_shape before title part at bytes s = elim s [
  | inl p ↦ subst (Shape before) p.1.1 tt
  | inr p ↦ elim p.1 [
    | inl p ↦ subst (Shape before) p.1.1 tt
    | inr p ↦ elim p.1 [
      | inl p ↦ subst (Shape before) p.1.1 tt
      | inr p ↦ elim p.1 [
        | inl p ↦ subst (Shape before) p.1.1 tt
        | inr p ↦ subst (Shape before) p.1.1 tt
      ]
    ]
  ]
]

globals_shape : (before : List Part) (id : ℕ) (part : Part) (at : ℕ) (bytes : List ℕ) → last_id before < id → (id == 6) ≡ true → image globals (vector global_entry) part at bytes → Shape before part
globals_shape before id part at bytes lt is s =
    let six : id ≡ 6 = eqb-true id 6 is in
    let few = unsigned_below 32 (length s.0) s.2.0 s.2.2 in
    subst (Shape before) s.1 (omega (arith, lt, six), few)

segments_shape : (before : List Part) (id : ℕ) (part : Part) (at : ℕ) (bytes : List ℕ) → last_id before < id → (id == 11) ≡ true → image segments (vector (segment_entry (memory_of before))) part at bytes → Shape before part
segments_shape before id part at bytes lt is s =
    let eleven : id ≡ 11 = eqb-true id 11 is in
    subst (Shape before) s.1 (omega (arith, lt, eleven), each_inside (memory_of before) s.0 _ s.2.1 s.2.3)

contents_shape : (before : List Part) (id : ℕ) (part : Part) (at : ℕ) (bytes : List ℕ) → may_follow (last_id before) id ≡ true → contents (memory_of before) id part at bytes → Shape before part
contents_shape before id part at bytes follows s = elim s [
  | inl p ↦ custom_shape before p.1.0 part _ p.1.1.1 p.1.1.3
  | inr p ↦
      let up = rises (last_id before) id follows p.0 in
      elim p.1 [
        | inl q ↦ let five : id ≡ 5 = eqb-true id 5 q.0 in subst (Shape before) q.1.1 (omega (arith, up.0, five))
        | inr q ↦ elim q.1 [
          | inl r ↦ globals_shape before id part at bytes up.0 r.0 r.1
          | inr r ↦ elim r.1 [
            | inl t ↦ segments_shape before id part at bytes up.0 t.0 t.1
            | inr t ↦ subst (Shape before) t.1.1 up
          ]
        ]
      ]
]

section_shape : (before : List Part) (part : Part) (at : ℕ) (bytes : List ℕ) → section_entry before part at bytes → Shape before part
section_shape before part at bytes s = elim s.1.3 [
  | inl p ↦ contents_shape before s.0 part _ p.1.1 p.0 p.1.3
  | inr p ↦ absurd p.1
]

-- ---- what the sections up to a place say

-- of memories, segments and globals, and of the last id
record SoundOf (memory : Option ℕ) (regions : List (List Region)) (values : List (List Value)) (last : ℕ) : Type 0 where
  pub inside : AllInside memory (only [] regions)
  pub few : length (only [] values) < 2 ^ 32
  pub late : (regions ≡ []) ⊎ (last ≡ 11)

abbrev Sound : List Part → Type 0
Sound ps = SoundOf (memory_of ps) (flat_map segments_in ps) (flat_map values_in ps) (last_id ps)

-- With no segments yet nothing is outside.
none_inside : (memory : Option ℕ) (regions : List (List Region)) → regions ≡ [] → AllInside memory (only [] regions)
none_inside memory regions e = rw e (All-nil (λ r. is_inside memory r ≡ true))

still_none : (regions : List (List Region)) (last : ℕ) → last < 11 → (regions ≡ []) ⊎ (last ≡ 11) → regions ≡ []
still_none regions last lt late = elim late [ inl e ↦ e | inr e ↦ absurd (omega (arith, lt, e)) ]

one_few : (values : List (List Value)) (xs : List Value) → length xs < 2 ^ 32 → length (only [] (values ++ xs ∷ [])) < 2 ^ 32
one_few [] xs few = few
one_few (v ∷ []) xs few = omega arith
one_few (v ∷ w ∷ vs) xs few = omega arith

one_inside : (memory : Option ℕ) (regions : List (List Region)) (rs : List Region) → regions ≡ [] → AllInside memory rs → AllInside memory (only [] (regions ++ rs ∷ []))
one_inside memory regions rs e all = rw e all

memory_more : (before : List Part) (part : Part) → memory_of (before ++ part ∷ []) ≡ first_of (only [] (flat_map memories_in before ++ memories_in part))
unfolding memory_of
memory_more before part = ap (λ (ms : List (List ℕ)). first_of (only [] ms)) (more memories_in before part)

memory_same : (before : List Part) → memory_of before ≡ first_of (only [] (flat_map memories_in before ++ []))
unfolding memory_of
memory_same before = ap (λ (ms : List (List ℕ)). first_of (only [] ms)) (sym (append-nil (flat_map memories_in before)))

sound_as : (ps : List Part) (memory : Option ℕ) (regions : List (List Region)) (values : List (List Value)) (last : ℕ) → memory_of ps ≡ memory → flat_map segments_in ps ≡ regions → flat_map values_in ps ≡ values → last_id ps ≡ last
    → SoundOf memory regions values last → Sound ps
sound_as ps memory regions values last m r v l s = rw (m, r, v, l) s

-- one more part, by what it holds
added_sound : (before : List Part) (part : Part) → SoundOf (first_of (only [] (flat_map memories_in before ++ memories_in part))) (flat_map segments_in before ++ segments_in part) (flat_map values_in before ++ values_in part) (last_id (before ++ part ∷ [])) → Sound (before ++ part ∷ [])
added_sound before part s =
    sound_as (before ++ part ∷ []) _ _ _ _ (memory_more before part) (more segments_in before part) (more values_in before part) refl s

-- a part that holds none of these
same_sound : (before : List Part) (last : ℕ) → ((flat_map segments_in before ≡ []) ⊎ (last ≡ 11)) → Sound before → SoundOf (first_of (only [] (flat_map memories_in before ++ []))) (flat_map segments_in before ++ []) (flat_map values_in before ++ []) last
same_sound before last late s = record {
  inside = rw (← memory_same before, append-nil (flat_map segments_in before)) s.inside;
  few = rw (append-nil (flat_map values_in before)) s.few;
  late = rw (append-nil (flat_map segments_in before)) late;
}

sound_more : (before : List Part) (part : Part) → Shape before part → Sound before → SoundOf (first_of (only [] (flat_map memories_in before ++ memories_in part))) (flat_map segments_in before ++ segments_in part) (flat_map values_in before ++ values_in part) (last_id (before ++ part ∷ []))
sound_more before (core x) shape s = rw (last_more before (core x)) (same_sound before (last_id before) s.late s)
sound_more before (modules x) shape s = rw (last_more before (modules x)) (same_sound before (last_id before) s.late s)
sound_more before (instances x) shape s = rw (last_more before (instances x)) (same_sound before (last_id before) s.late s)
sound_more before (stack x) shape s = rw (last_more before (stack x)) (same_sound before (last_id before) s.late s)
sound_more before custom shape s = rw (last_more before custom) (same_sound before (last_id before) s.late s)
sound_more before (passed id) shape s =
    let none = still_none (flat_map segments_in before) (last_id before) (omega (arith, shape.0, shape.1)) s.late in
    rw (last_more before (passed id)) (same_sound before id (inl none) s)
sound_more before (memories pages) shape s =
    let none = still_none (flat_map segments_in before) (last_id before) (omega (arith, shape)) s.late in
    record {
      inside = none_inside (first_of (only [] (flat_map memories_in before ++ pages ∷ []))) (flat_map segments_in before ++ []) (append-nil (flat_map segments_in before) ∙ none);
      few = rw (append-nil (flat_map values_in before)) s.few;
      late = inl (append-nil (flat_map segments_in before) ∙ none);
    }
sound_more before (globals values) shape s =
    let none = still_none (flat_map segments_in before) (last_id before) (omega (arith, shape.0)) s.late in
    record {
      inside = none_inside (first_of (only [] (flat_map memories_in before ++ []))) (flat_map segments_in before ++ []) (append-nil (flat_map segments_in before) ∙ none);
      few = one_few (flat_map values_in before) (map value_of values) (rw (length-map values value_of) shape.1);
      late = inl (append-nil (flat_map segments_in before) ∙ none);
    }
sound_more before (segments regions) shape s =
    let none = still_none (flat_map segments_in before) (last_id before) shape.0 s.late in
    record {
      inside = rw (← memory_same before) (one_inside (memory_of before) (flat_map segments_in before) regions none shape.1);
      few = rw (append-nil (flat_map values_in before)) s.few;
      late = inr (last_more before (segments regions));
    }

steps_sound : (n : ℕ) (before ps : List Part) (at : ℕ) (bytes : List ℕ) → Sound before → steps one_section n before ps at bytes → Sound ps
steps_sound zero before ps at bytes sound s = subst Sound (sym s.0) sound
steps_sound (suc n) before ps at bytes sound s =
    let one = s.1.2 in
    let next : Sound (before ++ one.0 ∷ []) = added_sound before one.0 (sound_more before one.0 (section_shape before one.0 at s.1.0 one.2) sound) in
    steps_sound n s.0 ps _ s.1.1 (subst Sound one.1 next) s.1.3

none_sound : Sound []
unfolding memory_of last_id
none_sound = record { inside = All-nil (λ r. is_inside (memory_of []) r ≡ true); few = omega arith; late = inl refl }

file_sound : (ps : List Part) (bytes : List ℕ) → dump_file ps 0 bytes → Sound ps
file_sound ps bytes s = let all = s.1.3 in steps_sound all.0 [] ps _ s.1.1 none_sound all.1

-- ---- the dump

all_inside : (memory : Option ℕ) (rs : List Region) → AllInside memory rs → All (λ r. r.at + length r.bytes ≤ 65536 * pages_of memory) rs
all_inside memory rs all = All-weaker (λ r. is_inside memory r ≡ true) (λ r. r.at + length r.bytes ≤ 65536 * pages_of memory) (λ r e. leb-true (r.at + length r.bytes) (65536 * pages_of memory) e) rs all

pub dump_contained : (bytes : List ℕ) (d : Dump) → IsDump bytes d → IsContained d
unfolding dump_of
dump_contained bytes d s =
    subst IsContained s.5 (all_inside (memory_of s.0) (only [] (flat_map segments_in s.0)) (file_sound s.0 bytes s.1.1).inside)

pub dump_limited : (bytes : List ℕ) (d : Dump) → IsDump bytes d → IsLimited d
unfolding dump_of
dump_limited bytes d s = subst IsLimited s.5 (record { pages = s.3; frames = s.4; globals = (file_sound s.0 bytes s.1.1).few })

pub ok_contained : (bytes : List ℕ) (result : Result Dump DumpFault) → ((d : Dump) → Exactly result (Ok d) (IsDump bytes d)) → IfOk result IsContained
ok_contained bytes (Ok d) found = dump_contained bytes d ((found d).only refl)
ok_contained bytes (Err e) found = tt

pub ok_limited : (bytes : List ℕ) (result : Result Dump DumpFault) → ((d : Dump) → Exactly result (Ok d) (IsDump bytes d)) → IfOk result IsLimited
ok_limited bytes (Ok d) found = dump_limited bytes d ((found d).only refl)
ok_limited bytes (Err e) found = tt
