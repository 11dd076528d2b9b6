-- What is decoded has the meaning that the grammar gives it.
use Rattle.std.proofs.Common.{◌≡◌, ℕ, ◌<◌, ◌≤◌, ◌⊎◌, Bool, true, false, List, [], ◌∷◌, length, Option, Some, None, Result, Ok, Err, refl, sym, ap, subst, ◌∙◌, inl, inr}
use Rattle.std.specs.Prelude.{nat_lt, if◌then◌else◌}
use Rattle.std.specs.List.{flat_map}
use Rattle.std.proofs.lemmas.Bool.{ltb-true, ltb-false, lt-ltb, le-ltb}
use Rattle.wasm_syntax.specs.declared.quantity.Quantity.{Quantity}
use Rattle.wasm_syntax.specs.declared.quantity.Quantity.TheVariants.{DumpBytes, DumpPages, DumpFrames}
use Rattle.wasm_syntax.specs.Quantity.{greatest}
use Rattle.wasm_bytes.specs.Reading.{whole}
use Rattle.wasm_bytes.specs.Laws.{IsBytes}
use Rattle.dump_format.specs.declared.dump.Dump.{Dump}
use Rattle.dump_format.specs.declared.fault.DumpPart.{DumpPart}
use Rattle.dump_format.specs.declared.fault.DumpFault.{DumpFault}
use Rattle.dump_format.specs.declared.fault.DumpFault.TheVariants.{Malformed, FloatValue, Several, Limit}
use Rattle.dump_format.specs.Parts.{Part}
use Rattle.dump_format.specs.Judged.{floats_in, first_of, repeated, dump_of, over, at_float, at_repeated, refusal, judged}
use Rattle.dump_format.specs.Sections.{parts_item}
use Rattle.dump_format.specs.Decode.{judged_parts, dump_from, Answers}
use Rattle.dump_format.specs.calls.Meaning.{IsSpelled, page_count, frame_count, IsDump, BreaksAt, HasFloatAt, HasSeveral, IsOver, PassesLimit, Exactly}
use Rattle.dump_format.proofs.ExactSections.{parts_found, parts_read}
use Rattle.dump_format.proofs.StopsSections.{parts_stop, parts_stopped}
use Rattle.wasm_leb.proofs.Tools.{chosen}
use Rattle.wasm_bytes.specs.Refusals.{◌orelse◌, unless_refused}

abbrev dumped : Dump → Result Dump DumpFault
dumped d = Ok d

abbrev refused : DumpFault → Result Dump DumpFault
refused e = Err e

-- ---- the refusals in their order

abbrev outcome : Option ℕ → Option DumpPart → ℕ → ℕ → Dump → Result Dump DumpFault
outcome float part pages frames d = unless_refused (at_float float orelse at_repeated part orelse over DumpPages pages orelse over DumpFrames frames) d

abbrev counted : Bool → Bool → ℕ → ℕ → Dump → Result Dump DumpFault
counted many deep pages frames d = unless_refused ((if many then Some (Limit DumpPages pages) else None) orelse (if deep then Some (Limit DumpFrames frames) else None)) d

counted_ok : (many deep : Bool) (pages frames : ℕ) (d e : Dump) → counted many deep pages frames d ≡ dumped e → (many ≡ false) × (deep ≡ false) × (d ≡ e)
counted_ok true deep pages frames d e h = absurd cc
counted_ok false true pages frames d e h = absurd cc
counted_ok false false pages frames d e h = (refl, refl, let same : d ≡ e = cc in same)

outcome_ok : (float : Option ℕ) (part : Option DumpPart) (pages frames : ℕ) (d e : Dump) → outcome float part pages frames d ≡ dumped e
    → (float ≡ None) × (part ≡ None) × (pages ≤ greatest DumpPages) × (frames ≤ greatest DumpFrames) × (d ≡ e)
outcome_ok (Some at) part pages frames d e h = absurd cc
outcome_ok None (Some p) pages frames d e h = absurd cc
outcome_ok None None pages frames d e h =
    let c = counted_ok (nat_lt (greatest DumpPages) pages) (nat_lt (greatest DumpFrames) frames) pages frames d e h in
    (refl, refl, ltb-false (greatest DumpPages) pages c.0, ltb-false (greatest DumpFrames) frames c.1, c.2)

ok_outcome : (float : Option ℕ) (part : Option DumpPart) (pages frames : ℕ) (d : Dump) → float ≡ None → part ≡ None → pages ≤ greatest DumpPages → frames ≤ greatest DumpFrames
    → outcome float part pages frames d ≡ dumped d
ok_outcome float part pages frames d no_float once few short = rw (no_float, once, le-ltb (greatest DumpPages) pages few, le-ltb (greatest DumpFrames) frames short) refl

outcome_malformed : (float : Option ℕ) (part : Option DumpPart) (pages frames : ℕ) (d : Dump) (o : ℕ) → outcome float part pages frames d ≡ refused (Malformed o) → ⊥
outcome_malformed (Some at) part pages frames d o h = absurd cc
outcome_malformed None (Some p) pages frames d o h = absurd cc
outcome_malformed None None pages frames d o h = counts (nat_lt (greatest DumpPages) pages) (nat_lt (greatest DumpFrames) frames) h where
  counts : (many deep : Bool) → counted many deep pages frames d ≡ refused (Malformed o) → ⊥
  counts true deep h = absurd cc
  counts false true h = absurd cc
  counts false false h = absurd cc

outcome_float : (float : Option ℕ) (part : Option DumpPart) (pages frames : ℕ) (d : Dump) (o : ℕ) → outcome float part pages frames d ≡ refused (FloatValue o) → float ≡ Some o
outcome_float (Some at) part pages frames d o h = let same : at ≡ o = cc in ap (λ (n : ℕ). Some n) same
outcome_float None (Some p) pages frames d o h = absurd cc
outcome_float None None pages frames d o h = counts (nat_lt (greatest DumpPages) pages) (nat_lt (greatest DumpFrames) frames) h where
  none : Option ℕ
  none = None

  counts : (many deep : Bool) → counted many deep pages frames d ≡ refused (FloatValue o) → none ≡ Some o
  counts true deep h = absurd cc
  counts false true h = absurd cc
  counts false false h = absurd cc

float_outcome : (float : Option ℕ) (part : Option DumpPart) (pages frames : ℕ) (d : Dump) (o : ℕ) → float ≡ Some o → outcome float part pages frames d ≡ refused (FloatValue o)
float_outcome float part pages frames d o is = rw is refl

outcome_several : (float : Option ℕ) (part : Option DumpPart) (pages frames : ℕ) (d : Dump) (p : DumpPart) → outcome float part pages frames d ≡ refused (Several p) → (float ≡ None) × (part ≡ Some p)
outcome_several (Some at) part pages frames d p h = absurd cc
outcome_several None (Some q) pages frames d p h = let same : q ≡ p = cc in (refl, ap (λ (x : DumpPart). Some x) same)
outcome_several None None pages frames d p h = counts (nat_lt (greatest DumpPages) pages) (nat_lt (greatest DumpFrames) frames) h where
  no_float : Option ℕ
  no_float = None

  no_part : Option DumpPart
  no_part = None

  counts : (many deep : Bool) → counted many deep pages frames d ≡ refused (Several p) → (no_float ≡ None) × (no_part ≡ Some p)
  counts true deep h = absurd cc
  counts false true h = absurd cc
  counts false false h = absurd cc

several_outcome : (float : Option ℕ) (part : Option DumpPart) (pages frames : ℕ) (d : Dump) (p : DumpPart) → float ≡ None → part ≡ Some p → outcome float part pages frames d ≡ refused (Several p)
several_outcome float part pages frames d p no_float is = rw (no_float, is) refl

-- the quantity that passes its greatest number
abbrev IsCounted : ℕ → ℕ → Quantity → ℕ → Type 0
IsCounted pages frames what count = IsOver DumpPages pages what count ⊎ ((pages ≤ greatest DumpPages) × IsOver DumpFrames frames what count)

counted_limit : (many deep : Bool) (pages frames : ℕ) (d : Dump) (what : Quantity) (count : ℕ) → nat_lt (greatest DumpPages) pages ≡ many → nat_lt (greatest DumpFrames) frames ≡ deep
    → counted many deep pages frames d ≡ refused (Limit what count) → IsCounted pages frames what count
counted_limit true deep pages frames d what count m n h =
    let w : DumpPages ≡ what = cc in
    let c : pages ≡ count = cc in
    inl (sym w, sym c, ltb-true (greatest DumpPages) pages m)
counted_limit false true pages frames d what count m n h =
    let w : DumpFrames ≡ what = cc in
    let c : frames ≡ count = cc in
    inr (ltb-false (greatest DumpPages) pages m, (sym w, sym c, ltb-true (greatest DumpFrames) frames n))
counted_limit false false pages frames d what count m n h = absurd cc

outcome_limit : (float : Option ℕ) (part : Option DumpPart) (pages frames : ℕ) (d : Dump) (what : Quantity) (count : ℕ) → outcome float part pages frames d ≡ refused (Limit what count)
    → (float ≡ None) × (part ≡ None) × IsCounted pages frames what count
outcome_limit (Some at) part pages frames d what count h = absurd cc
outcome_limit None (Some q) pages frames d what count h = absurd cc
outcome_limit None None pages frames d what count h =
    (refl, refl, counted_limit (nat_lt (greatest DumpPages) pages) (nat_lt (greatest DumpFrames) frames) pages frames d what count refl refl h)

limit_outcome : (float : Option ℕ) (part : Option DumpPart) (pages frames : ℕ) (d : Dump) (what : Quantity) (count : ℕ) → float ≡ None → part ≡ None → IsCounted pages frames what count
    → outcome float part pages frames d ≡ refused (Limit what count)
limit_outcome float part pages frames d what count no_float once c = elim c [
  | inl p ↦ rw (no_float, once, lt-ltb (greatest DumpPages) pages p.2, p.0, p.1) refl
  | inr p ↦ rw (no_float, once, le-ltb (greatest DumpPages) pages p.0, lt-ltb (greatest DumpFrames) frames p.1.2, p.1.0, p.1.1) refl
]

-- ---- the parts

none_first : (xs : List ℕ) → first_of xs ≡ None → xs ≡ []
none_first [] e = refl
none_first (x ∷ xs) e = absurd cc

first_none : (xs : List ℕ) → xs ≡ [] → first_of xs ≡ None
first_none xs e = rw e refl

outcome_of : List Part → Result Dump DumpFault
outcome_of ps = outcome (first_of (flat_map floats_in ps)) (repeated ps) (page_count ps) (frame_count ps) (dump_of ps)

judged_is : (ps : List Part) → judged ps ≡ outcome_of ps
unfolding refusal outcome_of
judged_is ps = refl

parts_cases : (r : Result (List Part) ℕ) (answer : Result Dump DumpFault) → judged_parts r ≡ answer → ((ps : List Part) × (r ≡ Ok ps) × (judged ps ≡ answer)) ⊎ ((o : ℕ) × (r ≡ Err o) × (refused (Malformed o) ≡ answer))
parts_cases (Ok ps) answer e = inl (ps, refl, e)
parts_cases (Err o) answer e = inr (o, refl, e)

-- why the answer comes: too many bytes, an item without a reading, or what the parts say
record Long (bytes : List ℕ) (answer : Result Dump DumpFault) : Type 0 where
  pub many : greatest DumpBytes < length bytes
  pub is : refused (Limit DumpBytes (length bytes)) ≡ answer

record Broken (bytes : List ℕ) (answer : Result Dump DumpFault) : Type 0 where
  pub at : ℕ
  pub breaks : BreaksAt bytes at
  pub is : refused (Malformed at) ≡ answer

record Spelled (bytes : List ℕ) (answer : Result Dump DumpFault) : Type 0 where
  pub parts : List Part
  pub spelled : IsSpelled parts bytes
  pub is : outcome_of parts ≡ answer

short_cause : (bytes : List ℕ) (answer : Result Dump DumpFault) → IsBytes bytes → length bytes ≤ greatest DumpBytes → judged_parts (whole parts_item bytes) ≡ answer → Broken bytes answer ⊎ Spelled bytes answer
short_cause bytes answer fits short e = elim (parts_cases (whole parts_item bytes) answer e) [
  | inl p ↦ inr (record { parts = p.0; spelled = (short, parts_found bytes p.0 fits p.1); is = sym (judged_is p.0) ∙ p.2 })
  | inr p ↦ inl (record { at = p.0; breaks = (short, parts_stop bytes p.0 fits p.1); is = p.2 })
]

cause : (bytes : List ℕ) (answer : Result Dump DumpFault) → IsBytes bytes → dump_from bytes ≡ answer → Long bytes answer ⊎ (Broken bytes answer ⊎ Spelled bytes answer)
unfolding dump_from
cause bytes answer fits e = elim (chosen (nat_lt (greatest DumpBytes) (length bytes)) _ _ answer e) [
  | inl p ↦ inl (record { many = ltb-true (greatest DumpBytes) (length bytes) p.0; is = p.1 })
  | inr p ↦ inr (short_cause bytes answer fits (ltb-false (greatest DumpBytes) (length bytes) p.0) p.1)
]

short_is : (bytes : List ℕ) → length bytes ≤ greatest DumpBytes → dump_from bytes ≡ judged_parts (whole parts_item bytes)
unfolding dump_from
short_is bytes short = rw (le-ltb (greatest DumpBytes) (length bytes) short) refl

spelled_is : (bytes : List ℕ) (ps : List Part) → IsSpelled ps bytes → dump_from bytes ≡ outcome_of ps
spelled_is bytes ps s = short_is bytes s.0 ∙ ap judged_parts (parts_read bytes ps s.1) ∙ judged_is ps

-- ---- each answer

dump_only : (bytes : List ℕ) (d : Dump) → IsBytes bytes → dump_from bytes ≡ dumped d → IsDump bytes d
unfolding outcome_of
dump_only bytes d fits e = elim (cause bytes (dumped d) fits e) [
  | inl c ↦ let no = c.is in absurd cc
  | inr c ↦ elim c [
    | inl c ↦ let no = c.is in absurd cc
    | inr c ↦
        let o = outcome_ok (first_of (flat_map floats_in c.parts)) (repeated c.parts) (page_count c.parts) (frame_count c.parts) (dump_of c.parts) d c.is in
        (c.parts, c.spelled, (none_first (flat_map floats_in c.parts) o.0, o.1), o.2, o.3, o.4)
  ]
]

dump_again : (bytes : List ℕ) (d : Dump) → IsDump bytes d → dump_from bytes ≡ dumped d
unfolding outcome_of
dump_again bytes d s =
    let ps = s.0 in
    spelled_is bytes ps s.1 ∙ ok_outcome (first_of (flat_map floats_in ps)) (repeated ps) (page_count ps) (frame_count ps) (dump_of ps) (first_none (flat_map floats_in ps) s.2.0) s.2.1 s.3 s.4 ∙ ap dumped s.5

malformed_only : (bytes : List ℕ) (o : ℕ) → IsBytes bytes → dump_from bytes ≡ refused (Malformed o) → BreaksAt bytes o
unfolding outcome_of
malformed_only bytes o fits e = elim (cause bytes (refused (Malformed o)) fits e) [
  | inl c ↦ let no = c.is in absurd cc
  | inr c ↦ elim c [
    | inl c ↦ let no = c.is in let same : c.at ≡ o = cc in subst (λ (n : ℕ). BreaksAt bytes n) same c.breaks
    | inr c ↦ absurd (outcome_malformed (first_of (flat_map floats_in c.parts)) (repeated c.parts) (page_count c.parts) (frame_count c.parts) (dump_of c.parts) o c.is)
  ]
]

malformed_again : (bytes : List ℕ) (o : ℕ) → IsBytes bytes → BreaksAt bytes o → dump_from bytes ≡ refused (Malformed o)
malformed_again bytes o fits b = short_is bytes b.0 ∙ ap judged_parts (parts_stopped bytes o fits b.1)

float_only : (bytes : List ℕ) (o : ℕ) → IsBytes bytes → dump_from bytes ≡ refused (FloatValue o) → HasFloatAt bytes o
unfolding outcome_of
float_only bytes o fits e = elim (cause bytes (refused (FloatValue o)) fits e) [
  | inl c ↦ let no = c.is in absurd cc
  | inr c ↦ elim c [
    | inl c ↦ let no = c.is in absurd cc
    | inr c ↦ (c.parts, c.spelled, outcome_float (first_of (flat_map floats_in c.parts)) (repeated c.parts) (page_count c.parts) (frame_count c.parts) (dump_of c.parts) o c.is)
  ]
]

float_again : (bytes : List ℕ) (o : ℕ) → HasFloatAt bytes o → dump_from bytes ≡ refused (FloatValue o)
unfolding outcome_of
float_again bytes o s =
    let ps = s.0 in
    spelled_is bytes ps s.1 ∙ float_outcome (first_of (flat_map floats_in ps)) (repeated ps) (page_count ps) (frame_count ps) (dump_of ps) o s.2

several_only : (bytes : List ℕ) (p : DumpPart) → IsBytes bytes → dump_from bytes ≡ refused (Several p) → HasSeveral bytes p
unfolding outcome_of
several_only bytes p fits e = elim (cause bytes (refused (Several p)) fits e) [
  | inl c ↦ let no = c.is in absurd cc
  | inr c ↦ elim c [
    | inl c ↦ let no = c.is in absurd cc
    | inr c ↦
        let o = outcome_several (first_of (flat_map floats_in c.parts)) (repeated c.parts) (page_count c.parts) (frame_count c.parts) (dump_of c.parts) p c.is in
        (c.parts, c.spelled, none_first (flat_map floats_in c.parts) o.0, o.1)
  ]
]

several_again : (bytes : List ℕ) (p : DumpPart) → HasSeveral bytes p → dump_from bytes ≡ refused (Several p)
unfolding outcome_of
several_again bytes p s =
    let ps = s.0 in
    spelled_is bytes ps s.1 ∙ several_outcome (first_of (flat_map floats_in ps)) (repeated ps) (page_count ps) (frame_count ps) (dump_of ps) p (first_none (flat_map floats_in ps) s.2) s.3

limit_only : (bytes : List ℕ) (what : Quantity) (count : ℕ) → IsBytes bytes → dump_from bytes ≡ refused (Limit what count) → PassesLimit bytes what count
unfolding outcome_of
limit_only bytes what count fits e = elim (cause bytes (refused (Limit what count)) fits e) [
  | inl c ↦
      let no = c.is in
      let w : DumpBytes ≡ what = cc in
      let n : length bytes ≡ count = cc in
      inl (sym w, sym n, c.many)
  | inr c ↦ elim c [
    | inl c ↦ let no = c.is in absurd cc
    | inr c ↦
        let o = outcome_limit (first_of (flat_map floats_in c.parts)) (repeated c.parts) (page_count c.parts) (frame_count c.parts) (dump_of c.parts) what count c.is in
        inr (c.parts, c.spelled, (none_first (flat_map floats_in c.parts) o.0, o.1), o.2)
  ]
]

long_is : (bytes : List ℕ) (what : Quantity) (count : ℕ) → IsOver DumpBytes (length bytes) what count → dump_from bytes ≡ refused (Limit what count)
unfolding dump_from
long_is bytes what count o = rw (lt-ltb (greatest DumpBytes) (length bytes) o.2, o.0, o.1) refl

limit_again : (bytes : List ℕ) (what : Quantity) (count : ℕ) → PassesLimit bytes what count → dump_from bytes ≡ refused (Limit what count)
unfolding outcome_of
limit_again bytes what count s = elim s [
  | inl o ↦ long_is bytes what count o
  | inr s ↦
      let ps = s.0 in
      spelled_is bytes ps s.1 ∙ limit_outcome (first_of (flat_map floats_in ps)) (repeated ps) (page_count ps) (frame_count ps) (dump_of ps) what count (first_none (flat_map floats_in ps) s.2.0) s.2.1 s.3
]

-- ---- exactly

exactly : (bytes : List ℕ) (result answer : Result Dump DumpFault) (P : Type 0) → ((r : Result Dump DumpFault) → Answers answer r → answer ≡ r) → (dump_from bytes ≡ answer → P) → (P → dump_from bytes ≡ answer)
    → Answers result (dump_from bytes) → Exactly result answer P
exactly bytes result answer P plain one other given = record {
  only = λ e. one (sym (plain (dump_from bytes) (subst (λ (r : Result Dump DumpFault). Answers r (dump_from bytes)) e given)));
  always = λ p. subst (Answers result) (other p) given;
}

pub found_exactly : (bytes : List ℕ) (result : Result Dump DumpFault) → IsBytes bytes → Answers result (dump_from bytes) → (d : Dump) → Exactly result (Ok d) (IsDump bytes d)
found_exactly bytes result fits given d = exactly bytes result (Ok d) (IsDump bytes d) (λ r a. a) (dump_only bytes d fits) (dump_again bytes d) given

pub malformed_exactly : (bytes : List ℕ) (result : Result Dump DumpFault) → IsBytes bytes → Answers result (dump_from bytes) → (o : ℕ) → Exactly result (Err (Malformed o)) (BreaksAt bytes o)
malformed_exactly bytes result fits given o = exactly bytes result (Err (Malformed o)) (BreaksAt bytes o) (λ r a. a) (malformed_only bytes o fits) (malformed_again bytes o fits) given

pub float_exactly : (bytes : List ℕ) (result : Result Dump DumpFault) → IsBytes bytes → Answers result (dump_from bytes) → (o : ℕ) → Exactly result (Err (FloatValue o)) (HasFloatAt bytes o)
float_exactly bytes result fits given o = exactly bytes result (Err (FloatValue o)) (HasFloatAt bytes o) (λ r a. a) (float_only bytes o fits) (float_again bytes o) given

pub several_exactly : (bytes : List ℕ) (result : Result Dump DumpFault) → IsBytes bytes → Answers result (dump_from bytes) → (p : DumpPart) → Exactly result (Err (Several p)) (HasSeveral bytes p)
several_exactly bytes result fits given p = exactly bytes result (Err (Several p)) (HasSeveral bytes p) (λ r a. a) (several_only bytes p fits) (several_again bytes p) given

pub limit_exactly : (bytes : List ℕ) (result : Result Dump DumpFault) → IsBytes bytes → Answers result (dump_from bytes) → (what : Quantity) (count : ℕ) → Exactly result (Err (Limit what count)) (PassesLimit bytes what count)
limit_exactly bytes result fits given what count = exactly bytes result (Err (Limit what count)) (PassesLimit bytes what count) (λ r a. a) (limit_only bytes what count fits) (limit_again bytes what count) given
