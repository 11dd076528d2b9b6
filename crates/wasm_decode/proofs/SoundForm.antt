-- What holds of the lists that bytes spell: each is no longer than the bytes, and each of its elements is sound.
use Rattle.std.proofs.Common.{◌≡◌, ℕ, zero, suc, ◌+◌, ◌^◌, ◌<◌, ◌≤◌, List, [], ◌∷◌, ◌++◌, length, refl, sym, ap, subst, ◌∙◌, inl, inr, append_assoc, arith, length-append}
use Rattle.std.specs.Prelude.{map, sum, fold, IsUtf8}
use Rattle.std.specs.List.{AllByRecursion}
use Rattle.std.proofs.lemmas.Bool.{ltb-true}
use Rattle.std.proofs.lemmas.List.{append-nil, map-append}
use Rattle.std.proofs.lemmas.Grind.{fold-append}
use Rattle.wasm_syntax.specs.declared.value.ValType.{ValType}
use Rattle.wasm_syntax.specs.declared.parts.FuncType.{FuncType}
use Rattle.wasm_syntax.specs.declared.parts.LocalGroup.{LocalGroup}
use Rattle.wasm_syntax.specs.declared.parts.Export.{Export}
use Rattle.wasm_bytes.specs.calls.Spelling.{pair, always, passing, byte, u32, name, items, vector, steps, tagged}
use Rattle.wasm_bytes.specs.Laws.{TakesBytes}
use Rattle.wasm_bytes.proofs.Takes.{u32_takes, one_of_takes, fixed_takes, then_takes, leads_takes, image_takes, passing_takes, name_takes, tagged_takes}
use Rattle.wasm_bytes.specs.declared.noted.Noted.{Noted}
use Rattle.wasm_format.specs.declared.expression.Locals.{Locals}
use Rattle.wasm_format.specs.declared.module.Imported.{Imported}
use Rattle.wasm_format.specs.declared.module.Imported.TheVariants.{Function, Table, Memory, Global}
use Rattle.wasm_bytes.specs.Notes.{plain, with_noted, together}
use Rattle.wasm_format.specs.Form.{is_valtype, functype_of, export_of, is_room, with_group, no_locals}
use Rattle.wasm_format.specs.calls.Grammar.{valtype, noted_vector, functype, limits, limits_tail, table, import_entry, import_tail, export_kind, export_entry, group_entry, locals}

-- ---- lists

pub record AllFew {A : Type 0} (P : A → Type 0) (size : ℕ) (xs : List A) : Type 0 where
  pub few : length xs ≤ size
  pub all : AllByRecursion P xs

-- A value is sound in so many bytes.
abbrev pub IsSound : {A : Type 0} → (A → ℕ → List ℕ → Type 0) → (ℕ → A → Type 0) → Type 0
IsSound {A} S P = (x : A) (at size : ℕ) (bytes : List ℕ) → length bytes ≤ size → S x at bytes → P size x

items_sound : {A : Type 0} (S : A → ℕ → List ℕ → Type 0) (P : ℕ → A → Type 0) → TakesBytes S → IsSound S P
    → (xs : List A) (at size : ℕ) (bytes : List ℕ) → length bytes ≤ size → items S xs at bytes → (length xs ≤ length bytes) × AllByRecursion (P size) xs
items_sound S P takes sound [] at size bytes fits s = (omega arith, tt)
items_sound S P takes sound (x ∷ xs) at size bytes fits s =
    let len : length bytes ≡ length s.0 + length s.1 = ap length s.4 ∙ length-append s.0 s.1 in
    let rest = items_sound S P takes sound xs _ size s.1 (omega (arith, len, fits)) s.3 in
    (omega (arith, len, takes x at s.0 s.2, rest.0), (sound x at size s.0 (omega (arith, len, fits)) s.2, rest.1))

pub vector_sound : {A : Type 0} (S : A → ℕ → List ℕ → Type 0) (P : ℕ → A → Type 0) → TakesBytes S → IsSound S P → IsSound (vector S) (λ size. AllFew (P size) size)
vector_sound S P takes sound xs at size bytes fits s =
    let len : length bytes ≡ length s.0 + length s.1 = ap length s.4 ∙ length-append s.0 s.1 in
    let all = items_sound S P takes sound xs _ size s.1 (omega (arith, len, fits)) s.3 in
    record { few = omega (arith, all.0, len, fits); all = all.1 }

-- the values of a list that was put together
pub values_of : {A : Type 0} (front : Noted (List A)) (xs : List (Noted A)) → (fold with_noted front xs).value ≡ front.value ++ map (λ x. x.value) xs
values_of front [] = sym (append-nil front.value)
values_of front (x ∷ xs) = values_of (with_noted front x) xs ∙ append_assoc front.value (x.value ∷ []) (map (λ y. y.value) xs)

map_few : {A : Type 0} (xs : List (Noted A)) → length (map (λ x. x.value) xs) ≡ length xs
map_few [] = refl
map_few (x ∷ xs) = ap suc (map_few xs)

map_all : {A : Type 0} (P : A → Type 0) (xs : List (Noted A)) → AllByRecursion (λ x. P x.value) xs → AllByRecursion P (map (λ x. x.value) xs)
map_all P [] h = tt
map_all P (x ∷ xs) h = (h.0, map_all P xs h.1)

pub together_few : {A : Type 0} (xs : List (Noted A)) (ys : Noted (List A)) → together xs ≡ ys → length ys.value ≡ length xs
together_few {A} xs ys same = sym (ap (λ (y : Noted (List A)). length y.value) same) ∙ ap length (values_of (plain []) xs) ∙ map_few xs

pub together_sound : {A : Type 0} (P : A → Type 0) (size : ℕ) (xs : List (Noted A)) (ys : Noted (List A)) → together xs ≡ ys → AllFew (λ (x : Noted A). P x.value) size xs → AllFew P size ys.value
together_sound {A} P size xs ys same h =
    let is : map (λ (x : Noted A). x.value) xs ≡ ys.value = sym (values_of (plain []) xs) ∙ ap (λ (y : Noted (List A)). y.value) same in
    subst (AllFew P size) is (record { few = omega (arith, h.few, map_few xs); all = map_all P xs h.all })

pub noted_vector_sound : {A : Type 0} (S : Noted A → ℕ → List ℕ → Type 0) (P : ℕ → A → Type 0) → TakesBytes S → IsSound S (λ size x. P size x.value) → IsSound (noted_vector S) (λ size x. AllFew (P size) size x.value)
noted_vector_sound {A} S P takes sound ys at size bytes fits s =
    together_sound (P size) size s.0 ys s.1 (vector_sound S (λ n (x : Noted A). P n x.value) takes sound s.0 at size bytes fits s.2)

-- ---- names

pub record SoundName (size : ℕ) (n : List ℕ) : Type 0 where
  pub utf8 : IsUtf8 n
  pub few : length n ≤ size

pub name_sound : IsSound name SoundName
name_sound n at size bytes fits s = record { utf8 = s.3.1; few = omega (arith, fits, ap length s.3.0, ap length s.4, length-append s.0 s.1) }

-- ---- types

pub valtype_takes : TakesBytes valtype
valtype_takes t at front s = one_of_takes is_valtype s.0 at front s.2

pub record SoundType (size : ℕ) (type : FuncType) : Type 0 where
  pub params : length type.params ≤ size
  pub results : length type.results ≤ size

valtypes_few : (ts : Noted (List ValType)) (at size : ℕ) (bytes : List ℕ) → length bytes ≤ size → noted_vector valtype ts at bytes → length ts.value ≤ size
valtypes_few ts at size bytes fits s = (noted_vector_sound valtype (λ n t. Unit {0}) valtype_takes (λ t o n b f h. tt) ts at size bytes fits s).few

pub functype_takes : TakesBytes functype
functype_takes =
    image_takes functype_of (pair (always (byte 0x60)) (pair (noted_vector valtype) (noted_vector valtype)))
    (then_takes (always (byte 0x60)) (pair (noted_vector valtype) (noted_vector valtype)) (fixed_takes 0x60))

pub functype_sound : IsSound functype (λ size t. SoundType size t.value)
functype_sound t at size bytes fits s =
    let both = s.2.3 in
    let outer : length bytes ≡ length s.2.0 + length s.2.1 = ap length s.2.4 ∙ length-append s.2.0 s.2.1 in
    let inner : length s.2.1 ≡ length both.0 + length both.1 = ap length both.4 ∙ length-append both.0 both.1 in
    let made : SoundType size (record { params = s.0.1.0.value; results = s.0.1.1.value }) = record {
      params = valtypes_few s.0.1.0 _ size both.0 (omega (arith, outer, inner, fits)) both.2;
      results = valtypes_few s.0.1.1 _ size both.1 (omega (arith, outer, inner, fits)) both.3;
    } in
    subst (SoundType size) (ap (λ (x : Noted FuncType). x.value) s.1) made

pub limits_takes : TakesBytes limits
limits_takes = tagged_takes limits_tail

pub table_takes : TakesBytes table
table_takes l at front s = omega (arith, ap length s.2, ap length s.4, length-append s.0 s.1)

-- ---- imports and exports

abbrev pub SoundImport : ℕ → Imported → Type 0
SoundImport size (Function i) = SoundName size i.«module» × SoundName size i.name
SoundImport size Table = Unit {0}
SoundImport size Memory = Unit {0}
SoundImport size Global = Unit {0}

pub import_takes : TakesBytes import_entry
import_takes = leads_takes (pair name name) (λ names. tagged (import_tail names)) (then_takes name name name_takes)

kind_sound : (names : List ℕ × List ℕ) (kind : ℕ) (i : Noted Imported) (at size : ℕ) (bytes : List ℕ) → SoundName size names.0 → SoundName size names.1 → import_tail names kind i at bytes → SoundImport size i.value
kind_sound names kind i at size bytes one two s = elim s [
  | inl p ↦ subst (λ (x : Noted Imported). SoundImport size x.value) p.1.1 (one, two)
  | inr p ↦ elim p.1 [
    | inl p ↦ subst (λ (x : Noted Imported). SoundImport size x.value) p.1.1 tt
    | inr p ↦ elim p.1 [
      | inl p ↦ subst (λ (x : Noted Imported). SoundImport size x.value) p.1.1 tt
      | inr p ↦ elim p.1 [
        | inl p ↦ subst (λ (x : Noted Imported). SoundImport size x.value) p.1.1 tt
        | inr p ↦ absurd p.1
      ]
    ]
  ]
]

pub import_sound : IsSound import_entry (λ size i. SoundImport size i.value)
import_sound i at size bytes fits s =
    let names = s.1.2 in
    let outer : length bytes ≡ length s.1.0 + length s.1.1 = ap length s.1.4 ∙ length-append s.1.0 s.1.1 in
    let inner : length s.1.0 ≡ length names.0 + length names.1 = ap length names.4 ∙ length-append names.0 names.1 in
    let one = name_sound s.0.0 at size names.0 (omega (arith, outer, inner, fits)) names.2 in
    let two = name_sound s.0.1 (at + length names.0) size names.1 (omega (arith, outer, inner, fits)) names.3 in
    kind_sound s.0 s.1.3.0 i _ size s.1.3.1.1 one two s.1.3.1.3

pub export_takes : TakesBytes export_entry
export_takes = image_takes export_of (pair name (pair export_kind u32)) (then_takes name (pair export_kind u32) name_takes)

pub export_sound : IsSound export_entry (λ size e. SoundName size e.name)
export_sound e at size bytes fits s =
    let len : length bytes ≡ length s.2.0 + length s.2.1 = ap length s.2.4 ∙ length-append s.2.0 s.2.1 in
    subst (λ (x : Export). SoundName size x.name) s.1 (name_sound s.0.0 at size s.2.0 (omega (arith, len, fits)) s.2.2)

-- ---- locals

abbrev pub counts_of : List LocalGroup → ℕ
counts_of groups = sum (map (λ g. g.count) groups)

pub record SoundLocals (size : ℕ) (groups : List LocalGroup) : Type 0 where
  pub few : length groups ≤ size
  pub counted : counts_of groups < 2 ^ 32

record Counted (s : Locals) : Type 0 where
  pub same : counts_of s.groups ≡ s.count
  pub room : s.count < 2 ^ 32

counts_more : (groups : List LocalGroup) (g : LocalGroup) → counts_of (groups ++ g ∷ []) ≡ counts_of groups + g.count
counts_more groups g = rw (map-append (λ (x : LocalGroup). x.count) groups (g ∷ []), fold-append (λ (a : ℕ) (x : ℕ). a + x) 0 (map (λ (x : LocalGroup). x.count) groups) (g.count ∷ [])) refl

groups_sound : (n : ℕ) (s l : Locals) (at : ℕ) (bytes : List ℕ) → Counted s → steps group_entry n s l at bytes → Counted l × (length l.groups ≤ length s.groups + length bytes)
groups_sound zero s l at bytes h t = (subst Counted (sym t.0) h, omega (arith, ap (λ (x : Locals). length x.groups) t.0))
groups_sound (suc n) s l at bytes h t =
    let one = t.1.2 in
    let x = one.0 in
    let group : LocalGroup = record { count = x.0; vtype = x.1.value } in
    let room : s.count + x.0 < 2 ^ 32 = ltb-true (s.count + x.0) (2 ^ 32) one.2.2.0 in
    let next : Counted (with_group s x) = record { same = counts_more s.groups group ∙ ap (λ (k : ℕ). k + x.0) h.same; room = room } in
    let len : length bytes ≡ length t.1.0 + length t.1.1 = ap length t.1.4 ∙ length-append t.1.0 t.1.1 in
    let some : 0 < length t.1.0 = then_takes (passing (is_room s) u32) valtype (passing_takes (is_room s) u32 u32_takes) x at t.1.0 one.2 in
    let rest = groups_sound n t.0 l _ t.1.1 (subst Counted one.1 next) t.1.3 in
    let grown : length t.0.groups ≡ length s.groups + 1 = sym (ap (λ (y : Locals). length y.groups) one.1) ∙ length-append s.groups (group ∷ []) in
    (rest.0, omega (arith, rest.1, grown, some, len))

pub locals_sound : IsSound locals (λ size l. SoundLocals size l.groups)
locals_sound l at size bytes fits s =
    let all = groups_sound s.0 no_locals l _ s.1.1 (record { same = refl; room = omega arith }) s.1.3 in
    record { few = omega (arith, all.1, fits, ap length s.1.4, length-append s.1.0 s.1.1); counted = omega (arith, all.0.same, all.0.room) }
