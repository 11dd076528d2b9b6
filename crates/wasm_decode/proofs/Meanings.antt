-- What is decoded has the meaning that the grammar gives it.
use Rattle.std.proofs.Common.{◌≡◌, ℕ, ◌<◌, ◌≤◌, ◌⊎◌, Bool, true, false, List, [], ◌∷◌, length, Option, Some, None, Result, Ok, Err, refl, sym, ap, subst, ◌∙◌, inl, inr}
use Rattle.std.specs.Prelude.{map, nat_lt, if◌then◌else◌}
use Rattle.std.proofs.lemmas.Bool.{ltb-true, ltb-false, lt-ltb, le-ltb}
use Rattle.wasm_syntax.specs.declared.quantity.Quantity.{Quantity}
use Rattle.wasm_syntax.specs.declared.quantity.Quantity.TheVariants.{ModuleBytes, Locals, Nesting, Table, Memory}
use Rattle.wasm_syntax.specs.declared.module.ModuleParts.{ModuleParts}
use Rattle.wasm_syntax.specs.declared.parts.Import.{Import}
use Rattle.wasm_syntax.specs.Quantity.{greatest}
use Rattle.wasm_syntax.specs.Sizes.{nesting}
use Rattle.wasm_bytes.specs.Reading.{whole}
use Rattle.wasm_bytes.specs.Laws.{IsBytes}
use Rattle.wasm_format.specs.declared.module.SpelledModule.{SpelledModule}
use Rattle.wasm_format.specs.Sections.{module_item}
use Rattle.wasm_format.proofs.ExactSections.{module_found, module_read}
use Rattle.wasm_format.proofs.StopsSections.{module_stop, module_stopped}
use Rattle.wasm_decode.specs.declared.fault.DecodeFault.{DecodeFault}
use Rattle.wasm_decode.specs.declared.fault.DecodeFault.TheVariants.{Malformed, Float, ImportKind, Limit}
use Rattle.wasm_decode.specs.Decode.{functions_of, first_other, module_of, all_locals, first_over, too_much, at_float, at_import, refusal, judged, judged_read, module_from, Answers}
use Rattle.wasm_decode.specs.calls.Meaning.{IsSpelled, IsModuleOf, BreaksAt, HasFloatAt, HasOtherImport, PassesLimit, Exactly}
use Rattle.wasm_leb.proofs.Tools.{chosen}
use Rattle.wasm_bytes.specs.Refusals.{◌orelse◌, unless_refused}

abbrev pub known : ModuleParts → Result ModuleParts DecodeFault
known m = Ok m

abbrev pub refused : DecodeFault → Result ModuleParts DecodeFault
refused e = Err e

-- ---- a quantity is refused as one

abbrev OnlyLimit : Option DecodeFault → Type 0
OnlyLimit None = Unit {0}
OnlyLimit (Some (Limit what count)) = Unit {0}
OnlyLimit (Some e) = ⊥

over_only : (what : Quantity) (ns : List ℕ) → OnlyLimit (first_over what ns)
over_only what [] = tt
over_only what (n ∷ ns) = by (nat_lt (greatest what) n) (over_only what ns) where
  by : (b : Bool) → OnlyLimit (first_over what ns) → OnlyLimit (if b then Some (Limit what n) else first_over what ns)
  by true h = tt
  by false h = h

or_only : (a b : Option DecodeFault) → OnlyLimit a → OnlyLimit b → OnlyLimit (a orelse b)
or_only None b h k = k
or_only (Some e) b h k = h

much_only : (m : ModuleParts) → OnlyLimit (too_much m)
unfolding too_much
much_only m =
    or_only (first_over Locals (all_locals m.types m.functions m.bodies)) _ (over_only Locals (all_locals m.types m.functions m.bodies))
    (or_only (first_over Nesting (map nesting m.bodies)) _ (over_only Nesting (map nesting m.bodies))
    (or_only (first_over Table (map (λ l. l.min) m.tables)) _ (over_only Table (map (λ l. l.min) m.tables)) (over_only Memory (map (λ l. l.min) m.memories))))

-- ---- the refusals in their order

abbrev outcome : Option ℕ → Option ℕ → Option DecodeFault → ModuleParts → Result ModuleParts DecodeFault
outcome float other much m = unless_refused (at_float float orelse at_import other orelse much) m

outcome_ok : (float other : Option ℕ) (much : Option DecodeFault) (m n : ModuleParts) → outcome float other much m ≡ known n → (float ≡ None) × (other ≡ None) × (much ≡ None) × (m ≡ n)
outcome_ok (Some at) other much m n h = absurd cc
outcome_ok None (Some i) much m n h = absurd cc
outcome_ok None None (Some e) m n h = absurd cc
outcome_ok None None None m n h = (refl, refl, refl, let same : m ≡ n = cc in same)

ok_outcome : (float other : Option ℕ) (much : Option DecodeFault) (m : ModuleParts) → float ≡ None → other ≡ None → much ≡ None → outcome float other much m ≡ known m
ok_outcome float other much m a b c = rw (a, b, c) refl

outcome_malformed : (float other : Option ℕ) (much : Option DecodeFault) (m : ModuleParts) (o : ℕ) → OnlyLimit much → outcome float other much m ≡ refused (Malformed o) → ⊥
outcome_malformed (Some at) other much m o h e = absurd cc
outcome_malformed None (Some i) much m o h e = absurd cc
outcome_malformed None None None m o h e = absurd cc
outcome_malformed None None (Some (Limit what count)) m o h e = absurd cc
outcome_malformed None None (Some f) m o h e = absurd h

outcome_float : (float other : Option ℕ) (much : Option DecodeFault) (m : ModuleParts) (o : ℕ) → OnlyLimit much → outcome float other much m ≡ refused (Float o) → float ≡ Some o
outcome_float (Some at) other much m o h e = let same : at ≡ o = cc in ap (λ (n : ℕ). Some n) same
outcome_float None (Some i) much m o h e = absurd cc
outcome_float None None None m o h e = absurd cc
outcome_float None None (Some (Limit what count)) m o h e = absurd cc
outcome_float None None (Some f) m o h e = absurd h

float_outcome : (float other : Option ℕ) (much : Option DecodeFault) (m : ModuleParts) (o : ℕ) → float ≡ Some o → outcome float other much m ≡ refused (Float o)
float_outcome float other much m o is = rw is refl

outcome_import : (float other : Option ℕ) (much : Option DecodeFault) (m : ModuleParts) (i : ℕ) → OnlyLimit much → outcome float other much m ≡ refused (ImportKind i) → (float ≡ None) × (other ≡ Some i)
outcome_import (Some at) other much m i h e = absurd cc
outcome_import None (Some j) much m i h e = let same : j ≡ i = cc in (refl, ap (λ (n : ℕ). Some n) same)
outcome_import None None None m i h e = absurd cc
outcome_import None None (Some (Limit what count)) m i h e = absurd cc
outcome_import None None (Some f) m i h e = absurd h

import_outcome : (float other : Option ℕ) (much : Option DecodeFault) (m : ModuleParts) (i : ℕ) → float ≡ None → other ≡ Some i → outcome float other much m ≡ refused (ImportKind i)
import_outcome float other much m i a b = rw (a, b) refl

outcome_limit : (float other : Option ℕ) (much : Option DecodeFault) (m : ModuleParts) (what : Quantity) (count : ℕ) → outcome float other much m ≡ refused (Limit what count) → (float ≡ None) × (other ≡ None) × (much ≡ Some (Limit what count))
outcome_limit (Some at) other much m what count e = absurd cc
outcome_limit None (Some j) much m what count e = absurd cc
outcome_limit None None None m what count e = absurd cc
outcome_limit None None (Some f) m what count e = let same : f ≡ Limit what count = cc in (refl, refl, ap (λ (x : DecodeFault). Some x) same)

limit_outcome : (float other : Option ℕ) (much : Option DecodeFault) (m : ModuleParts) (what : Quantity) (count : ℕ) → float ≡ None → other ≡ None → much ≡ Some (Limit what count) → outcome float other much m ≡ refused (Limit what count)
limit_outcome float other much m what count a b c = rw (a, b, c) refl

-- ---- what was spelled

outcome_of : SpelledModule → Result ModuleParts DecodeFault
outcome_of s = outcome s.float (first_other s.imports) (too_much (module_of s)) (module_of s)

judged_is : (s : SpelledModule) → judged s ≡ outcome_of s
unfolding refusal outcome_of
judged_is s = refl

read_cases : (r : Result SpelledModule ℕ) (answer : Result ModuleParts DecodeFault) → judged_read r ≡ answer → ((s : SpelledModule) × (r ≡ Ok s) × (judged s ≡ answer)) ⊎ ((o : ℕ) × (r ≡ Err o) × (refused (Malformed o) ≡ answer))
read_cases (Ok s) answer e = inl (s, refl, e)
read_cases (Err o) answer e = inr (o, refl, e)

-- why the answer comes: too many bytes, an item without a reading, or what was spelled
record Long (bytes : List ℕ) (answer : Result ModuleParts DecodeFault) : Type 0 where
  pub many : greatest ModuleBytes < length bytes
  pub is : refused (Limit ModuleBytes (length bytes)) ≡ answer

record Broken (bytes : List ℕ) (answer : Result ModuleParts DecodeFault) : Type 0 where
  pub at : ℕ
  pub breaks : BreaksAt bytes at
  pub is : refused (Malformed at) ≡ answer

record Spelled (bytes : List ℕ) (answer : Result ModuleParts DecodeFault) : Type 0 where
  pub says : SpelledModule
  pub spelled : IsSpelled says bytes
  pub is : outcome_of says ≡ answer

short_cause : (bytes : List ℕ) (answer : Result ModuleParts DecodeFault) → IsBytes bytes → length bytes ≤ greatest ModuleBytes → judged_read (whole module_item bytes) ≡ answer → Broken bytes answer ⊎ Spelled bytes answer
short_cause bytes answer fits short e = elim (read_cases (whole module_item bytes) answer e) [
  | inl p ↦ inr (record { says = p.0; spelled = (short, module_found bytes p.0 fits p.1); is = sym (judged_is p.0) ∙ p.2 })
  | inr p ↦ inl (record { at = p.0; breaks = (short, module_stop bytes p.0 fits p.1); is = p.2 })
]

cause : (bytes : List ℕ) (answer : Result ModuleParts DecodeFault) → IsBytes bytes → module_from bytes ≡ answer → Long bytes answer ⊎ (Broken bytes answer ⊎ Spelled bytes answer)
unfolding module_from
cause bytes answer fits e = elim (chosen (nat_lt (greatest ModuleBytes) (length bytes)) _ _ answer e) [
  | inl p ↦ inl (record { many = ltb-true (greatest ModuleBytes) (length bytes) p.0; is = p.1 })
  | inr p ↦ inr (short_cause bytes answer fits (ltb-false (greatest ModuleBytes) (length bytes) p.0) p.1)
]

short_is : (bytes : List ℕ) → length bytes ≤ greatest ModuleBytes → module_from bytes ≡ judged_read (whole module_item bytes)
unfolding module_from
short_is bytes short = rw (le-ltb (greatest ModuleBytes) (length bytes) short) refl

spelled_is : (bytes : List ℕ) (s : SpelledModule) → IsSpelled s bytes → module_from bytes ≡ outcome_of s
spelled_is bytes s h = short_is bytes h.0 ∙ ap judged_read (module_read bytes s h.1) ∙ judged_is s

-- what the code finds out
pub read_is : (bytes : List ℕ) (s : SpelledModule) → length bytes ≤ greatest ModuleBytes → whole module_item bytes ≡ Ok s → module_from bytes ≡ judged s
read_is bytes s short read = short_is bytes short ∙ ap judged_read read

pub broken_is : (bytes : List ℕ) (o : ℕ) → length bytes ≤ greatest ModuleBytes → whole module_item bytes ≡ Err o → module_from bytes ≡ refused (Malformed o)
broken_is bytes o short read = short_is bytes short ∙ ap judged_read read

pub too_long : (bytes : List ℕ) → greatest ModuleBytes < length bytes → module_from bytes ≡ refused (Limit ModuleBytes (length bytes))
unfolding module_from
too_long bytes many = rw (lt-ltb (greatest ModuleBytes) (length bytes) many) refl

pub judged_ok : (s : SpelledModule) (m : ModuleParts) → known m ≡ judged s → m ≡ module_of s
judged_ok s m e = by (refusal s) e where
  by : (o : Option DecodeFault) → known m ≡ unless_refused o (module_of s) → m ≡ module_of s
  by None e = cc
  by (Some f) e = absurd cc

pub kept_is : (s : SpelledModule) (parts : ModuleParts) (imports : List Import) → parts ≡ s.parts → refusal s ≡ None → imports ≡ functions_of s.imports → known (record parts { imports = imports }) ≡ judged s
unfolding module_of
kept_is s parts imports same plain is = rw (same, plain, is) refl

-- ---- each answer

module_only : (bytes : List ℕ) (m : ModuleParts) → IsBytes bytes → module_from bytes ≡ known m → IsModuleOf bytes m
unfolding outcome_of
module_only bytes m fits e = elim (cause bytes (known m) fits e) [
  | inl c ↦ let no = c.is in absurd cc
  | inr c ↦ elim c [
    | inl c ↦ let no = c.is in absurd cc
    | inr c ↦
        let s = c.says in
        let o = outcome_ok s.float (first_other s.imports) (too_much (module_of s)) (module_of s) m c.is in
        (s, c.spelled, (o.0, o.1), o.2, o.3)
  ]
]

module_again : (bytes : List ℕ) (m : ModuleParts) → IsModuleOf bytes m → module_from bytes ≡ known m
unfolding outcome_of
module_again bytes m h =
    let s = h.0 in
    spelled_is bytes s h.1 ∙ ok_outcome s.float (first_other s.imports) (too_much (module_of s)) (module_of s) h.2.0 h.2.1 h.3 ∙ ap known h.4

malformed_only : (bytes : List ℕ) (o : ℕ) → IsBytes bytes → module_from bytes ≡ refused (Malformed o) → BreaksAt bytes o
unfolding outcome_of
malformed_only bytes o fits e = elim (cause bytes (refused (Malformed o)) fits e) [
  | inl c ↦ let no = c.is in absurd cc
  | inr c ↦ elim c [
    | inl c ↦ let is = c.is in let same : c.at ≡ o = cc in subst (BreaksAt bytes) same c.breaks
    | inr c ↦
        let s = c.says in
        absurd (outcome_malformed s.float (first_other s.imports) (too_much (module_of s)) (module_of s) o (much_only (module_of s)) c.is)
  ]
]

malformed_again : (bytes : List ℕ) (o : ℕ) → IsBytes bytes → BreaksAt bytes o → module_from bytes ≡ refused (Malformed o)
malformed_again bytes o fits b = short_is bytes b.0 ∙ ap judged_read (module_stopped bytes o fits b.1)

float_only : (bytes : List ℕ) (o : ℕ) → IsBytes bytes → module_from bytes ≡ refused (Float o) → HasFloatAt bytes o
unfolding outcome_of
float_only bytes o fits e = elim (cause bytes (refused (Float o)) fits e) [
  | inl c ↦ let no = c.is in absurd cc
  | inr c ↦ elim c [
    | inl c ↦ let no = c.is in absurd cc
    | inr c ↦
        let s = c.says in
        (s, c.spelled, outcome_float s.float (first_other s.imports) (too_much (module_of s)) (module_of s) o (much_only (module_of s)) c.is)
  ]
]

float_again : (bytes : List ℕ) (o : ℕ) → HasFloatAt bytes o → module_from bytes ≡ refused (Float o)
unfolding outcome_of
float_again bytes o h =
    let s = h.0 in
    spelled_is bytes s h.1 ∙ float_outcome s.float (first_other s.imports) (too_much (module_of s)) (module_of s) o h.2

import_only : (bytes : List ℕ) (i : ℕ) → IsBytes bytes → module_from bytes ≡ refused (ImportKind i) → HasOtherImport bytes i
unfolding outcome_of
import_only bytes i fits e = elim (cause bytes (refused (ImportKind i)) fits e) [
  | inl c ↦ let no = c.is in absurd cc
  | inr c ↦ elim c [
    | inl c ↦ let no = c.is in absurd cc
    | inr c ↦
        let s = c.says in
        let o = outcome_import s.float (first_other s.imports) (too_much (module_of s)) (module_of s) i (much_only (module_of s)) c.is in
        (s, c.spelled, o.0, o.1)
  ]
]

import_again : (bytes : List ℕ) (i : ℕ) → HasOtherImport bytes i → module_from bytes ≡ refused (ImportKind i)
unfolding outcome_of
import_again bytes i h =
    let s = h.0 in
    spelled_is bytes s h.1 ∙ import_outcome s.float (first_other s.imports) (too_much (module_of s)) (module_of s) i h.2 h.3

limit_only : (bytes : List ℕ) (what : Quantity) (count : ℕ) → IsBytes bytes → module_from bytes ≡ refused (Limit what count) → PassesLimit bytes what count
unfolding outcome_of
limit_only bytes what count fits e = elim (cause bytes (refused (Limit what count)) fits e) [
  | inl c ↦
      let is = c.is in
      let w : ModuleBytes ≡ what = cc in
      let n : length bytes ≡ count = cc in
      inl (sym w, sym n, c.many)
  | inr c ↦ elim c [
    | inl c ↦ let no = c.is in absurd cc
    | inr c ↦
        let s = c.says in
        let o = outcome_limit s.float (first_other s.imports) (too_much (module_of s)) (module_of s) what count c.is in
        inr (s, c.spelled, (o.0, o.1), o.2)
  ]
]

limit_again : (bytes : List ℕ) (what : Quantity) (count : ℕ) → PassesLimit bytes what count → module_from bytes ≡ refused (Limit what count)
unfolding outcome_of
limit_again bytes what count h = elim h [
  | inl o ↦ rw (o.0, o.1) (too_long bytes o.2)
  | inr p ↦
      let s = p.0 in
      spelled_is bytes s p.1 ∙ limit_outcome s.float (first_other s.imports) (too_much (module_of s)) (module_of s) what count p.2.0 p.2.1 p.3
]

-- ---- exactly

exactly : (bytes : List ℕ) (result answer : Result ModuleParts DecodeFault) (P : Type 0) → ((r : Result ModuleParts DecodeFault) → Answers answer r → answer ≡ r) → (module_from bytes ≡ answer → P) → (P → module_from bytes ≡ answer)
    → Answers result (module_from bytes) → Exactly result answer P
exactly bytes result answer P plain one other given = record {
  only = λ e. one (sym (plain (module_from bytes) (subst (λ (r : Result ModuleParts DecodeFault). Answers r (module_from bytes)) e given)));
  always = λ p. subst (Answers result) (other p) given;
}

pub found_exactly : (bytes : List ℕ) (result : Result ModuleParts DecodeFault) → IsBytes bytes → Answers result (module_from bytes) → (m : ModuleParts) → Exactly result (Ok m) (IsModuleOf bytes m)
found_exactly bytes result fits given m = exactly bytes result (Ok m) (IsModuleOf bytes m) (λ r a. a) (module_only bytes m fits) (module_again bytes m) given

pub malformed_exactly : (bytes : List ℕ) (result : Result ModuleParts DecodeFault) → IsBytes bytes → Answers result (module_from bytes) → (o : ℕ) → Exactly result (Err (Malformed o)) (BreaksAt bytes o)
malformed_exactly bytes result fits given o = exactly bytes result (Err (Malformed o)) (BreaksAt bytes o) (λ r a. a) (malformed_only bytes o fits) (malformed_again bytes o fits) given

pub float_exactly : (bytes : List ℕ) (result : Result ModuleParts DecodeFault) → IsBytes bytes → Answers result (module_from bytes) → (o : ℕ) → Exactly result (Err (Float o)) (HasFloatAt bytes o)
float_exactly bytes result fits given o = exactly bytes result (Err (Float o)) (HasFloatAt bytes o) (λ r a. a) (float_only bytes o fits) (float_again bytes o) given

pub import_exactly : (bytes : List ℕ) (result : Result ModuleParts DecodeFault) → IsBytes bytes → Answers result (module_from bytes) → (i : ℕ) → Exactly result (Err (ImportKind i)) (HasOtherImport bytes i)
import_exactly bytes result fits given i = exactly bytes result (Err (ImportKind i)) (HasOtherImport bytes i) (λ r a. a) (import_only bytes i fits) (import_again bytes i) given

pub limit_exactly : (bytes : List ℕ) (result : Result ModuleParts DecodeFault) → IsBytes bytes → Answers result (module_from bytes) → (what : Quantity) (count : ℕ) → Exactly result (Err (Limit what count)) (PassesLimit bytes what count)
limit_exactly bytes result fits given what count = exactly bytes result (Err (Limit what count)) (PassesLimit bytes what count) (λ r a. a) (limit_only bytes what count fits) (limit_again bytes what count) given
