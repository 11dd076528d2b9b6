-- What holds of the modules that bytes spell.
use Rattle.std.proofs.Common.{◌≡◌, ℕ, zero, suc, ◌+◌, ◌≤◌, List, [], ◌∷◌, ◌++◌, length, refl, sym, ap, subst, ◌∙◌, inl, inr, arith, length-append}
use Rattle.std.specs.Prelude.{◌==◌}
use Rattle.std.specs.List.{AllByRecursion}
use Rattle.std.proofs.lemmas.Bool.{eqb-true}
use Rattle.wasm_syntax.specs.declared.parts.Limits.{Limits}
use Rattle.wasm_syntax.specs.declared.parts.Custom.{Custom}
use Rattle.wasm_bytes.specs.calls.Spelling.{image, u32, vector, steps}
use Rattle.wasm_bytes.proofs.Takes.{u32_takes}
use Rattle.wasm_format.specs.declared.module.SpelledModule.{SpelledModule}
use Rattle.wasm_format.specs.calls.Choices.{on_test}
use Rattle.wasm_format.specs.Sections.{with_globals, with_exports, with_start, with_elements, with_bodies, with_segments, with_custom, no_parts, no_sections}
use Rattle.wasm_format.specs.calls.Grammar.{noted_vector, functype, limits, table, import_entry, export_entry, bodies, global_entry, element_entry, segment_entry, contents, custom_contents, section_entry, module_file}
use Rattle.wasm_format.proofs.ExactSections.{section_takes}
use Rattle.wasm_decode.proofs.SoundForm.{AllFew, vector_sound, noted_vector_sound, SoundName, name_sound, SoundType, functype_takes, functype_sound, limits_takes, table_takes, SoundImport, import_takes, import_sound, export_takes, export_sound}
use Rattle.wasm_decode.proofs.SoundCode.{SoundBody, SoundConstant, bodies_sound, SoundElement, SoundData, global_takes, global_sound, element_takes, element_sound, segment_takes, segment_sound}

-- ---- each list of a module

-- The lists are no longer than so many bytes, and their elements are sound. There are no more custom sections than bytes up to
-- an offset. In the order of the sections: types, imports, functions, tables, memories, globals, exports, elements, bodies,
-- segments, custom sections.
abbrev pub Sound : ℕ → ℕ → SpelledModule → Type 0
Sound size at s =
    AllFew (SoundType size) size s.parts.types
    × AllFew (SoundImport size) size s.imports
    × (s.parts.imports ≡ [])
    × (length s.parts.functions ≤ size)
    × (length s.parts.tables ≤ size)
    × (length s.parts.memories ≤ size)
    × AllFew (λ g. SoundConstant size g.init) size s.parts.globals
    × AllFew (λ e. SoundName size e.name) size s.parts.exports
    × AllFew (SoundElement size) size s.parts.elements
    × AllFew (SoundBody size) size s.parts.bodies
    × AllFew (SoundData size) size s.parts.segments
    × AllByRecursion (λ c. SoundName size c.name) s.parts.customs
    × (length s.parts.customs ≤ at)

indices_few : (xs : List ℕ) (at size : ℕ) (bytes : List ℕ) → length bytes ≤ size → vector u32 xs at bytes → length xs ≤ size
indices_few xs at size bytes fits s = (vector_sound u32 (λ n x. Unit {0}) u32_takes (λ x o n b f h. tt) xs at size bytes fits s).few

tables_few : (xs : List Limits) (at size : ℕ) (bytes : List ℕ) → length bytes ≤ size → vector table xs at bytes → length xs ≤ size
tables_few xs at size bytes fits s = (vector_sound table (λ n x. Unit {0}) table_takes (λ x o n b f h. tt) xs at size bytes fits s).few

memories_few : (xs : List Limits) (at size : ℕ) (bytes : List ℕ) → length bytes ≤ size → vector limits xs at bytes → length xs ≤ size
memories_few xs at size bytes fits s = (vector_sound limits (λ n x. Unit {0}) limits_takes (λ x o n b f h. tt) xs at size bytes fits s).few

-- the sections behind the memories
abbrev later : SpelledModule → ℕ → SpelledModule → ℕ → List ℕ → Type 0
later s id =
    on_test (id == 6) (image (with_globals s) (noted_vector global_entry))
    (on_test (id == 7) (image (with_exports s) (vector export_entry))
    (on_test (id == 8) (image (with_start s) u32)
    (on_test (id == 9) (image (with_elements s) (noted_vector element_entry))
    (on_test (id == 10) (image (with_bodies s) (bodies (length s.parts.functions)))
    (image (with_segments s) (noted_vector segment_entry))))))

later_sound : (s t : SpelledModule) (id at size n : ℕ) (bytes : List ℕ) → length bytes ≤ size → Sound size n s → later s id t at bytes → Sound size n t
later_sound s t id at size n bytes fits h c = elim c [
  | inl p ↦ subst (Sound size n) p.1.1 (h.0, h.1, h.2, h.3, h.4, h.5, noted_vector_sound global_entry (λ m g. SoundConstant m g.init) global_takes global_sound p.1.0 at size bytes fits p.1.2, h.7, h.8, h.9, h.10, h.11, h.12)
  | inr p ↦ elim p.1 [
    | inl p ↦ subst (Sound size n) p.1.1 (h.0, h.1, h.2, h.3, h.4, h.5, h.6, vector_sound export_entry (λ m e. SoundName m e.name) export_takes export_sound p.1.0 at size bytes fits p.1.2, h.8, h.9, h.10, h.11, h.12)
    | inr p ↦ elim p.1 [
      | inl p ↦ subst (Sound size n) p.1.1 h
      | inr p ↦ elim p.1 [
        | inl p ↦ subst (Sound size n) p.1.1 (h.0, h.1, h.2, h.3, h.4, h.5, h.6, h.7, noted_vector_sound element_entry SoundElement element_takes element_sound p.1.0 at size bytes fits p.1.2, h.9, h.10, h.11, h.12)
        | inr p ↦ elim p.1 [
          | inl p ↦ subst (Sound size n) p.1.1 (h.0, h.1, h.2, h.3, h.4, h.5, h.6, h.7, h.8, (bodies_sound (length s.parts.functions) p.1.0 at size bytes fits p.1.2).0, h.10, h.11, h.12)
          | inr p ↦ subst (Sound size n) p.1.1 (h.0, h.1, h.2, h.3, h.4, h.5, h.6, h.7, h.8, h.9, noted_vector_sound segment_entry SoundData segment_takes segment_sound p.1.0 at size bytes fits p.1.2, h.11, h.12)
        ]
      ]
    ]
  ]
]

contents_sound : (s t : SpelledModule) (id at size n : ℕ) (bytes : List ℕ) → length bytes ≤ size → Sound size n s → contents s id t at bytes → Sound size n t
contents_sound s t id at size n bytes fits h c = elim c [
  | inl p ↦ subst (Sound size n) p.1.1 (noted_vector_sound functype SoundType functype_takes functype_sound p.1.0 at size bytes fits p.1.2, h.1, h.2, h.3, h.4, h.5, h.6, h.7, h.8, h.9, h.10, h.11, h.12)
  | inr p ↦ elim p.1 [
    | inl p ↦ subst (Sound size n) p.1.1 (h.0, noted_vector_sound import_entry SoundImport import_takes import_sound p.1.0 at size bytes fits p.1.2, h.2, h.3, h.4, h.5, h.6, h.7, h.8, h.9, h.10, h.11, h.12)
    | inr p ↦ elim p.1 [
      | inl p ↦ subst (Sound size n) p.1.1 (h.0, h.1, h.2, indices_few p.1.0 at size bytes fits p.1.2, h.4, h.5, h.6, h.7, h.8, h.9, h.10, h.11, h.12)
      | inr p ↦ elim p.1 [
        | inl p ↦ subst (Sound size n) p.1.1 (h.0, h.1, h.2, h.3, tables_few p.1.0 at size bytes fits p.1.2, h.5, h.6, h.7, h.8, h.9, h.10, h.11, h.12)
        | inr p ↦ elim p.1 [
          | inl p ↦ subst (Sound size n) p.1.1 (h.0, h.1, h.2, h.3, h.4, memories_few p.1.0 at size bytes fits p.1.2, h.6, h.7, h.8, h.9, h.10, h.11, h.12)
          | inr p ↦ later_sound s t id at size n bytes fits h p.1
        ]
      ]
    ]
  ]
]

-- ---- sections

pub all_more : {A : Type 0} (P : A → Type 0) (xs : List A) (x : A) → AllByRecursion P xs → P x → AllByRecursion P (xs ++ x ∷ [])
all_more P [] x all one = (one, tt)
all_more P (y ∷ ys) x all one = (all.0, all_more P ys x all.1 one)

-- at a later offset
onward : (size n m : ℕ) (s : SpelledModule) → n ≤ m → Sound size n s → Sound size m s
onward size n m s le h = (h.0, h.1, h.2, h.3, h.4, h.5, h.6, h.7, h.8, h.9, h.10, h.11, omega (arith, h.12, le))

custom_sound : (s t : SpelledModule) (at size n : ℕ) (bytes : List ℕ) → length bytes ≤ size → Sound size n s → custom_contents s t at bytes → Sound size (n + 1) t
custom_sound s t at size n bytes fits h c =
    let name_is = name_sound c.0.0 at size c.2.0 (omega (arith, fits, ap length c.2.4, length-append c.2.0 c.2.1)) c.2.2 in
    let custom : Custom = record { name = c.0.0; at = c.0.1.0; len = length c.0.1.1 } in
    let made : Sound size (n + 1) (with_custom s c.0) = (
      h.0,
      h.1,
      h.2,
      h.3,
      h.4,
      h.5,
      h.6,
      h.7,
      h.8,
      h.9,
      h.10,
      all_more (λ (x : Custom). SoundName size x.name) s.parts.customs custom h.11 name_is,
      omega (arith, h.12, length-append s.parts.customs (custom ∷ [])),
    ) in
    subst (Sound size (n + 1)) c.1 made

section_sound : (s t : SpelledModule) (at size n : ℕ) (bytes : List ℕ) → length bytes ≤ size → Sound size n s → section_entry s t at bytes → Sound size (n + 1) t
section_sound s t at size n bytes fits h c =
    let outer : length bytes ≡ length c.1.0 + length c.1.1 = ap length c.1.4 ∙ length-append c.1.0 c.1.1 in
    elim c.1.3 [
      | inl p ↦
          let b = p.1 in
          custom_sound s t _ size n b.1 (omega (arith, outer, fits, ap length b.4, length-append b.0 b.1)) h b.3
      | inr p ↦ elim p.1 [
        | inl p ↦
            let pair_ = p.1.2 in
            let b = pair_.2 in
            let inner : length c.1.1 ≡ length pair_.0 + length pair_.1 = ap length pair_.4 ∙ length-append pair_.0 pair_.1 in
            let known = contents_sound s p.1.0.0 c.0 _ size n b.1 (omega (arith, outer, inner, fits, ap length b.4, length-append b.0 b.1)) h b.3 in
            subst (Sound size (n + 1)) p.1.1 (onward size n (n + 1) p.1.0.0 (omega arith) known)
        | inr p ↦ absurd p.1
      ]
    ]

steps_sound : (k : ℕ) (s t : SpelledModule) (at size n : ℕ) (bytes : List ℕ) → length bytes ≤ size → Sound size n s → steps section_entry k s t at bytes → Sound size (n + length bytes) t
steps_sound zero s t at size n bytes fits h c = subst (Sound size (n + length bytes)) (sym c.0) (onward size n (n + length bytes) s (omega arith) h)
steps_sound (suc k) s t at size n bytes fits h c =
    let len : length bytes ≡ length c.1.0 + length c.1.1 = ap length c.1.4 ∙ length-append c.1.0 c.1.1 in
    let some = section_takes s c.0 at c.1.0 c.1.2 in
    let one = section_sound s c.0 at size n c.1.0 (omega (arith, len, fits)) h c.1.2 in
    let rest = steps_sound k c.0 t _ size (n + 1) c.1.1 (omega (arith, len, fits)) one c.1.3 in
    onward size (n + 1 + length c.1.1) (n + length bytes) t (omega (arith, len, some)) rest

none_sound : (size : ℕ) → Sound size 0 no_sections
unfolding no_parts no_sections
none_sound size = (nothing, nothing, refl, omega arith, omega arith, omega arith, nothing, nothing, nothing, nothing, nothing, tt, omega arith) where
  nothing : {A : Type 0} {P : A → Type 0} → AllFew P size []
  nothing = record { few = omega arith; all = tt }

-- What a file spells is sound, and has as many bodies as functions.
pub module_sound : (s : SpelledModule) (bytes : List ℕ) → module_file s 0 bytes → Sound (length bytes) (length bytes) s × (length s.parts.bodies ≡ length s.parts.functions)
module_sound s bytes f =
    let parts = f.1 in
    let steps_ = parts.3 in
    let len : length bytes ≡ length parts.0 + length parts.1 = ap length parts.4 ∙ length-append parts.0 parts.1 in
    let all = steps_sound steps_.0 no_sections s _ (length bytes) 0 parts.1 (omega (arith, len)) (none_sound (length bytes)) steps_.1 in
    (onward (length bytes) (0 + length parts.1) (length bytes) s (omega (arith, len)) all, eqb-true (length s.parts.bodies) (length s.parts.functions) f.0)
