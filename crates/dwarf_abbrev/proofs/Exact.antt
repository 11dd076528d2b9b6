-- Tables of abbreviations are read exactly as they are spelled.
use Rattle.std.proofs.Common.{◌≡◌, ℕ, ◌+◌, ◌-◌, ◌<◌, Bool, true, false, List, [], ◌++◌, length, Option, Some, None, refl, sym, ap, subst, ◌∙◌, arith}
use Rattle.std.specs.Prelude.{if◌then◌else◌, ◌==◌}
use Rattle.std.proofs.lemmas.Bool.{eqb-true, eqb-false, ne_eqb, and_parts}
use Rattle.std.proofs.lemmas.List.{append-nil}
use Rattle.wasm_bytes.specs.Place.{Place, Read}
use Rattle.wasm_bytes.specs.Reading.{◌⊗◌, ◌▷◌, mapped, done_item, one_of_item, u64_item}
use Rattle.wasm_bytes.specs.calls.Spelling.{leads, image, only, one_of, u64}
use Rattle.wasm_bytes.specs.calls.Spelling.{pair as both}
use Rattle.wasm_bytes.specs.calls.Answers.{Fails}
use Rattle.wasm_bytes.specs.declared.faults.ItemFault.{ItemFault}
use Rattle.wasm_bytes.specs.declared.faults.ItemFault.TheVariants.{At}
use Rattle.wasm_bytes.specs.Laws.{IsExact, TakesBytes}
use Rattle.wasm_bytes.proofs.Exact.{same_exact, leads_exact, image_exact, mapped_exact, then_exact, done_exact}
use Rattle.wasm_bytes.proofs.ExactItems.{one_of_exact, u64_exact}
use Rattle.dwarf_bytes.specs.Items.{ended_from, ended_item, reading_of}
use Rattle.dwarf_bytes.specs.calls.Spelled.{ended, StandsAt}
use Rattle.dwarf_bytes.proofs.Standing.{stands_read}
use Rattle.dwarf_bytes.proofs.Lists.{ended_exact}
use Rattle.dwarf_abbrev.specs.declared.abbrev.Pair.{Pair}
use Rattle.dwarf_abbrev.specs.declared.abbrev.Abbrev.{Abbrev}
use Rattle.dwarf_abbrev.specs.Reading.{pair_of, is_end, behind_pair, pair_item, is_flag, is_one, behind_code, table_item, abbrev_of, abbrevs_item, abbrevs_at}
use Rattle.dwarf_abbrev.specs.calls.Grammar.{codes, pair, flag, entry, table, abbrevs}
use Rattle.wasm_bytes.proofs.Takes.{front_takes, unsigned_takes}

-- ---- each takes a byte

pub u64_takes : TakesBytes u64
u64_takes n at front s = unsigned_takes 64 n front s

pub pair_takes : {A : Type 0} (S : Pair → A → ℕ → List ℕ → Type 0) → TakesBytes (pair S)
pair_takes S None at front s = front_takes s.0 s.1 front s.4 (u64_takes 0 at s.0 s.2)
pair_takes S (Some y) at front s =
    front_takes s.2.0 s.2.1 front s.2.4 (front_takes s.2.2.0 s.2.2.1 s.2.0 s.2.2.4 (u64_takes s.0.attribute at s.2.2.0 s.2.2.2))

pub entry_takes : {A B : Type 0} (make : ℕ → ℕ → Bool → List A → B) (S : Option A → ℕ → List ℕ → Type 0) → TakesBytes (entry make S)
entry_takes make S None at front s = u64_takes 0 at front s
entry_takes make S (Some y) at front s = front_takes s.6.0 s.6.1 front s.6.4 (u64_takes s.0 at s.6.0 s.6.2)

-- ---- pairs

codes_exact : IsExact codes (mapped pair_of (u64_item ⊗ u64_item))
codes_exact = mapped_exact (both u64 u64) codes pair_of (λ x. (x.attribute, x.form)) (u64_item ⊗ u64_item) (λ y. refl) (λ x at front s. s) (λ y at front s. s)
    (then_exact u64 u64 u64_item u64_item u64_exact u64_exact)

-- what stands behind a pair, where the test says whether it is the end mark
abbrev pair_tail : {A : Type 0} → (Pair → A → ℕ → List ℕ → Type 0) → Bool → Pair → Option A → ℕ → List ℕ → Type 0
pair_tail S true x = only None
pair_tail S false x = image Some (S x)

pair_tail_exact : {A : Type 0} (S : Pair → A → ℕ → List ℕ → Type 0) (more : Pair → Place → Read A) → ((x : Pair) → IsExact (S x) (more x))
    → (b : Bool) (x : Pair) → IsExact (pair_tail S b x) (if b then done_item None else mapped Some (more x))
pair_tail_exact S more h true x = done_exact None
pair_tail_exact S more h false x = image_exact (S x) Some (more x) (h x)

pair_made : {A : Type 0} (S : Pair → A → ℕ → List ℕ → Type 0) (b : Bool) (x : Pair) → is_end x ≡ b
    → (o : Option A) (at : ℕ) (front rest bytes : List ℕ) → codes x at front → pair_tail S b x o (at + length front) rest → bytes ≡ front ++ rest → pair S o at bytes
pair_made S true x e None at front rest bytes s t parts =
    let zeros = and_parts (x.attribute == 0) (x.form == 0) e in
    let attribute : x.attribute ≡ 0 = eqb-true x.attribute 0 zeros.0 in
    let form : x.form ≡ 0 = eqb-true x.form 0 zeros.1 in
    let here : bytes ≡ front = parts ∙ ap (λ (r : List ℕ). front ++ r) t.1 ∙ append-nil front in
    let first : u64 0 at s.0 = subst (λ (n : ℕ). u64 n at s.0) attribute s.2 in
    let second : u64 0 (at + length s.0) s.1 = subst (λ (n : ℕ). u64 n (at + length s.0) s.1) form s.3 in
    (s.0, s.1, first, second, here ∙ s.4)
pair_made S true x e (Some y) at front rest bytes s t parts = absurd (let no : Some y ≡ None = t.0 in cc)
pair_made S false x e None at front rest bytes s t parts = absurd (let no : Some t.0 ≡ None = t.1 in cc)
pair_made S false x e (Some y) at front rest bytes s t parts =
    let same : t.0 ≡ y = (let some : Some t.0 ≡ Some y = t.1 in cc) in
    (x, e, (front, rest, s, subst (λ w. S x w (at + length front) rest) same t.2, parts))

pair_parts : {A : Type 0} (S : Pair → A → ℕ → List ℕ → Type 0) (o : Option A) (at : ℕ) (bytes : List ℕ) → pair S o at bytes → leads codes (λ x. pair_tail S (is_end x) x) o at bytes
pair_parts S None at bytes s =
    let x : Pair = record { attribute = 0; form = 0 } in
    (x, (bytes, [], s, (refl, refl), sym (append-nil bytes)))
pair_parts S (Some y) at bytes s =
    (s.0, (s.2.0, s.2.1, s.2.2, subst (λ (b : Bool). pair_tail S b s.0 (Some y) (at + length s.2.0) s.2.1) (sym s.1) (y, refl, s.2.3), s.2.4))

pub pair_exact : {A : Type 0} (S : Pair → A → ℕ → List ℕ → Type 0) (more : Pair → Place → Read A) → ((x : Pair) → IsExact (S x) (more x)) → IsExact (pair S) (pair_item more)
unfolding pair_item
pair_exact S more h = same_exact (leads codes (λ x. pair_tail S (is_end x) x)) (pair S) (mapped pair_of (u64_item ⊗ u64_item) ▷ behind_pair more)
    (λ o at bytes s. pair_made S (is_end s.0) s.0 refl o at s.1.0 s.1.1 bytes s.1.2 s.1.3 s.1.4)
    (pair_parts S)
    (leads_exact codes (λ x. pair_tail S (is_end x) x) (mapped pair_of (u64_item ⊗ u64_item)) (behind_pair more) codes_exact (λ x. pair_tail_exact S more h (is_end x) x))

-- ---- abbreviations

-- tag, children and pairs
abbrev rest_of : {A : Type 0} → (Option A → ℕ → List ℕ → Type 0) → ℕ × (Bool × List A) → ℕ → List ℕ → Type 0
rest_of S = both u64 (both flag (ended S))

abbrev made_of : {A B : Type 0} → (ℕ → ℕ → Bool → List A → B) → ℕ → ℕ × (Bool × List A) → Option B
made_of make code x = Some (make code x.0 x.1.0 x.1.1)

-- what stands behind a code, where the test says whether it is the end mark
abbrev entry_tail : {A B : Type 0} → (ℕ → ℕ → Bool → List A → B) → (Option A → ℕ → List ℕ → Type 0) → Bool → ℕ → Option B → ℕ → List ℕ → Type 0
entry_tail make S true code = only None
entry_tail make S false code = image (made_of make code) (rest_of S)

entry_tail_exact : {A B : Type 0} (make : ℕ → ℕ → Bool → List A → B) (S : Option A → ℕ → List ℕ → Type 0) (f : Place → Read (Option A)) → TakesBytes S → IsExact S f
    → (b : Bool) (code : ℕ) → IsExact (entry_tail make S b code) (if b then done_item None else mapped (made_of make code) (u64_item ⊗ mapped is_one (one_of_item is_flag) ⊗ ended_item f))
entry_tail_exact make S f takes e true code = done_exact None
entry_tail_exact make S f takes e false code =
    let flags = image_exact (one_of is_flag) is_one (one_of_item is_flag) (one_of_exact is_flag) in
    let lists = ended_exact S f takes e in
    let second = then_exact flag (ended S) (mapped is_one (one_of_item is_flag)) (ended_item f) flags lists in
    image_exact (rest_of S) (made_of make code) _ (then_exact u64 (both flag (ended S)) u64_item _ u64_exact second)

entry_made : {A B : Type 0} (make : ℕ → ℕ → Bool → List A → B) (S : Option A → ℕ → List ℕ → Type 0) (b : Bool) (code : ℕ) → (code == 0) ≡ b
    → (o : Option B) (at : ℕ) (front rest bytes : List ℕ) → u64 code at front → entry_tail make S b code o (at + length front) rest → bytes ≡ front ++ rest → entry make S o at bytes
entry_made make S true code e None at front rest bytes s t parts =
    let here : bytes ≡ front = parts ∙ ap (λ (r : List ℕ). front ++ r) t.1 ∙ append-nil front in
    let zero_code : u64 0 at front = subst (λ (n : ℕ). u64 n at front) (eqb-true code 0 e) s in
    subst (λ (r : List ℕ). u64 0 at r) (sym here) zero_code
entry_made make S true code e (Some y) at front rest bytes s t parts = absurd (let no : Some y ≡ None = t.0 in cc)
entry_made make S false code e None at front rest bytes s t parts = absurd (let no : made_of make code t.0 ≡ None = t.1 in cc)
entry_made make S false code e (Some y) at front rest bytes s t parts =
    let same : make code t.0.0 t.0.1.0 t.0.1.1 ≡ y = (let some : Some (make code t.0.0 t.0.1.0 t.0.1.1) ≡ Some y = t.1 in cc) in
    (code, t.0.0, t.0.1.0, t.0.1.1, same, eqb-false code 0 e, (front, rest, s, t.2, parts))

entry_parts : {A B : Type 0} (make : ℕ → ℕ → Bool → List A → B) (S : Option A → ℕ → List ℕ → Type 0) (o : Option B) (at : ℕ) (bytes : List ℕ)
    → entry make S o at bytes → leads u64 (λ code. entry_tail make S (code == 0) code) o at bytes
entry_parts make S None at bytes s = (0, (bytes, [], s, (refl, refl), sym (append-nil bytes)))
entry_parts make S (Some y) at bytes s =
    let tail : entry_tail make S false s.0 (Some y) (at + length s.6.0) s.6.1 = ((s.1, (s.2, s.3)), ap Some s.4, s.6.3) in
    (s.0, (s.6.0, s.6.1, s.6.2, subst (λ (b : Bool). entry_tail make S b s.0 (Some y) (at + length s.6.0) s.6.1) (sym (ne_eqb s.0 0 s.5)) tail, s.6.4))

pub entry_exact : {A B : Type 0} (make : ℕ → ℕ → Bool → List A → B) (S : Option A → ℕ → List ℕ → Type 0) (f : Place → Read (Option A)) → TakesBytes S → IsExact S f
    → IsExact (entry make S) (u64_item ▷ behind_code make f)
entry_exact make S f takes e = same_exact (leads u64 (λ code. entry_tail make S (code == 0) code)) (entry make S) (u64_item ▷ behind_code make f)
    (λ o at bytes s. entry_made make S (s.0 == 0) s.0 refl o at s.1.0 s.1.1 bytes s.1.2 s.1.3 s.1.4)
    (λ o at bytes s. entry_parts make S o at bytes s)
    (leads_exact u64 (λ code. entry_tail make S (code == 0) code) u64_item (behind_code make f) u64_exact (λ code. entry_tail_exact make S f takes e (code == 0) code))

pub table_exact : {A B : Type 0} (make : ℕ → ℕ → Bool → List A → B) (S : Option A → ℕ → List ℕ → Type 0) (f : Place → Read (Option A)) → TakesBytes S → IsExact S f
    → IsExact (table make S) (table_item make f)
unfolding table_item
table_exact make S f takes e = ended_exact (entry make S) (u64_item ▷ behind_code make f) (entry_takes make S) (entry_exact make S f takes e)

pub abbrevs_exact : IsExact abbrevs abbrevs_item
unfolding abbrevs_item
abbrevs_exact = table_exact abbrev_of (pair only) (pair_item done_item) (pair_takes only) (pair_exact only done_item (λ x. done_exact x))

-- Where a table stands it is read.
pub table_read : (section : List ℕ) (at : ℕ) (table : List Abbrev) → StandsAt abbrevs table section at → abbrevs_at section at ≡ Some table
table_read section at table s = stands_read abbrevs abbrevs_item abbrevs_exact section at table s

-- Where none is read none stands.
pub none_stands : (section : List ℕ) (at : ℕ) → abbrevs_at section at ≡ None → (table : List Abbrev) → StandsAt abbrevs table section at → ⊥
none_stands section at none table s = let clash : None ≡ Some table = sym none ∙ table_read section at table s in absurd cc

-- Where reading fails none is read.
pub fails_none : (e : ItemFault) (o : ℕ) (r : Read (List Abbrev)) → e ≡ At o → Fails e r → reading_of r ≡ None
fails_none e o r same h = ap reading_of (subst (λ (x : ItemFault). Fails x r) same h)

-- Past the end of a section no table stands.
pub abbrevs_past : (section : List ℕ) (at : ℕ) → length section < at → abbrevs_at section at ≡ None
unfolding abbrevs_item table_item ended_item ended_from
abbrevs_past section at past = let room : length section + 1 - at ≡ 0 = omega (arith, past) in rw room refl
