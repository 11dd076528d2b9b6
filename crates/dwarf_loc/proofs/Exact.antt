-- Lists of version 4 are read exactly as they are spelled.
use Rattle.std.proofs.Common.{◌≡◌, ℕ, ◌+◌, ◌<◌, Bool, true, false, List, [], ◌++◌, length, Option, Some, None, refl, sym, ap, subst, ◌∙◌, arith, length-append}
use Rattle.std.specs.Prelude.{if◌then◌else◌, ◌==◌, ◌&&◌}
use Rattle.std.proofs.lemmas.Bool.{eqb-true, and_parts}
use Rattle.std.proofs.lemmas.List.{append-nil}
use Rattle.wasm_bytes.specs.Place.{Place, Read}
use Rattle.wasm_bytes.specs.Reading.{◌⊗◌, ◌▷◌, mapped, done_item, here_item, run_item}
use Rattle.wasm_bytes.specs.calls.Spelling.{◌&◌, leads, image, only, here, run}
use Rattle.wasm_bytes.specs.calls.Spelling.{pair as both}
use Rattle.wasm_bytes.specs.Laws.{IsExact, TakesBytes}
use Rattle.wasm_bytes.proofs.Exact.{same_exact, leads_exact, image_exact, then_exact, done_exact, here_exact}
use Rattle.wasm_bytes.proofs.ExactItems.{run_exact}
use Rattle.dwarf_bytes.specs.Items.{number_item}
use Rattle.dwarf_bytes.specs.calls.Spelled.{number}
use Rattle.dwarf_bytes.proofs.Lists.{ended_exact}
use Rattle.dwarf_bytes.proofs.Exact.{number_exact}
use Rattle.dwarf_loc.specs.declared.contents.Span.{Span}
use Rattle.dwarf_loc.specs.declared.entry.ListEntry.{ListEntry}
use Rattle.dwarf_loc.specs.declared.entry.ListEntry.TheVariants.{Base, FromBase, Between, Lasting, Otherwise}
use Rattle.dwarf_loc.specs.Contents.{span_of, span_item, nothing_item}
use Rattle.dwarf_loc.specs.Version4.{is_selection, behind_pair, entry4_item, list4_item, expression4_item}
use Rattle.dwarf_loc.specs.calls.Grammar.{span, expression4, entry4, list4}
use Rattle.wasm_bytes.proofs.Takes.{front_takes}

-- ---- each entry takes bytes

four_take : (n at : ℕ) (front : List ℕ) → number 4 n at front → 0 < length front
four_take n at front s = omega (arith, s.0)

pub entry4_takes : {A : Type 0} (S : A → ℕ → List ℕ → Type 0) → TakesBytes (entry4 S)
entry4_takes S None at front s = front_takes s.0 s.1 front s.4 (four_take 0 at s.0 s.2)
entry4_takes S (Some (Base a)) at front s = front_takes s.0 s.1 front s.4 (four_take 0xffffffff at s.0 s.2)
entry4_takes S (Some (FromBase begin end what)) at front s =
    front_takes s.2.0 s.2.1 front s.2.4 (front_takes s.2.2.0 s.2.2.1 s.2.0 s.2.2.4 (four_take begin at s.2.2.0 s.2.2.2))
entry4_takes S (Some (Between begin end what)) at front s = absurd s
entry4_takes S (Some (Lasting begin length what)) at front s = absurd s
entry4_takes S (Some (Otherwise what)) at front s = absurd s

-- ---- entries

-- the two numbers in front
abbrev front_of : ℕ × ℕ → ℕ → List ℕ → Type 0
front_of = both (number 4) (number 4)

-- what stands behind them, where tests say whether they are the end mark or select a base
abbrev entry_tail : {A : Type 0} → (A → ℕ → List ℕ → Type 0) → Bool → Bool → ℕ × ℕ → Option (ListEntry A) → ℕ → List ℕ → Type 0
entry_tail S true selects x = only None
entry_tail S false true x = only (Some (Base x.1))
entry_tail S false false x = image (λ w. Some (FromBase x.0 x.1 w)) S

tail_exact : {A : Type 0} (S : A → ℕ → List ℕ → Type 0) (what : Place → Read A) → IsExact S what
    → (ends selects : Bool) (x : ℕ × ℕ) → IsExact (entry_tail S ends selects x) (if ends then done_item None else (if selects then done_item (Some (Base x.1)) else mapped (λ w. Some (FromBase x.0 x.1 w)) what))
tail_exact S what e true selects x = done_exact None
tail_exact S what e false true x = done_exact (Some (Base x.1))
tail_exact S what e false false x = image_exact S (λ w. Some (FromBase x.0 x.1 w)) what e

whole_front : (front rest bytes : List ℕ) → bytes ≡ front ++ rest → rest ≡ [] → bytes ≡ front
whole_front front rest bytes parts none = parts ∙ ap (λ (r : List ℕ). front ++ r) none ∙ append-nil front

entry_made : {A : Type 0} (S : A → ℕ → List ℕ → Type 0) (ends selects : Bool) (x : ℕ × ℕ) → (x.0 == 0 && x.1 == 0) ≡ ends → is_selection x.0 ≡ selects
    → (o : Option (ListEntry A)) (at : ℕ) (front rest bytes : List ℕ) → front_of x at front → entry_tail S ends selects x o (at + length front) rest → bytes ≡ front ++ rest → entry4 S o at bytes
entry_made S true selects x e f o at front rest bytes s t parts =
    let zeros = and_parts (x.0 == 0) (x.1 == 0) e in
    let first : number 4 0 at s.0 = subst (λ (n : ℕ). number 4 n at s.0) (eqb-true x.0 0 zeros.0) s.2 in
    let second : number 4 0 (at + length s.0) s.1 = subst (λ (n : ℕ). number 4 n (at + length s.0) s.1) (eqb-true x.1 0 zeros.1) s.3 in
    let end : entry4 S None at bytes = (s.0, s.1, first, second, whole_front front rest bytes parts t.1 ∙ s.4) in
    subst (λ z. entry4 S z at bytes) (sym t.0) end
entry_made S false true x e f o at front rest bytes s t parts =
    let first : number 4 0xffffffff at s.0 = subst (λ (n : ℕ). number 4 n at s.0) (eqb-true x.0 0xffffffff f) s.2 in
    let selection : entry4 S (Some (Base x.1)) at bytes = (s.0, s.1, first, s.3, whole_front front rest bytes parts t.1 ∙ s.4) in
    subst (λ z. entry4 S z at bytes) (sym t.0) selection
entry_made S false false x e f o at front rest bytes s t parts =
    let held : entry4 S (Some (FromBase x.0 x.1 t.0)) at bytes = (e, f, (front, rest, s, t.2, parts)) in
    subst (λ z. entry4 S z at bytes) t.1 held

entry_parts : {A : Type 0} (S : A → ℕ → List ℕ → Type 0) (o : Option (ListEntry A)) (at : ℕ) (bytes : List ℕ) → entry4 S o at bytes
    → leads front_of (λ x. entry_tail S (x.0 == 0 && x.1 == 0) (is_selection x.0) x) o at bytes
entry_parts S None at bytes s = ((0, 0), (bytes, [], s, (refl, refl), sym (append-nil bytes)))
entry_parts S (Some (Base a)) at bytes s = ((0xffffffff, a), (bytes, [], s, (refl, refl), sym (append-nil bytes)))
entry_parts S (Some (FromBase begin end what)) at bytes s =
    let x : ℕ × ℕ = (begin, end) in
    let held : entry_tail S false false x (Some (FromBase begin end what)) (at + length s.2.0) s.2.1 = (what, refl, s.2.3) in
    let by_selection = subst (λ (b : Bool). entry_tail S false b x (Some (FromBase begin end what)) (at + length s.2.0) s.2.1) (sym s.1) held in
    let tail = subst (λ (b : Bool). entry_tail S b (is_selection begin) x (Some (FromBase begin end what)) (at + length s.2.0) s.2.1) (sym s.0) by_selection in
    (x, (s.2.0, s.2.1, s.2.2, tail, s.2.4))
entry_parts S (Some (Between begin end what)) at bytes s = absurd s
entry_parts S (Some (Lasting begin length what)) at bytes s = absurd s
entry_parts S (Some (Otherwise what)) at bytes s = absurd s

pub entry4_exact : {A : Type 0} (S : A → ℕ → List ℕ → Type 0) (what : Place → Read A) → IsExact S what → IsExact (entry4 S) (entry4_item what)
unfolding entry4_item
entry4_exact S what e =
    same_exact (leads front_of (λ x. entry_tail S (x.0 == 0 && x.1 == 0) (is_selection x.0) x)) (entry4 S) ((number_item 4 ⊗ number_item 4) ▷ behind_pair what)
    (λ o at bytes s. entry_made S (s.0.0 == 0 && s.0.1 == 0) (is_selection s.0.0) s.0 refl refl o at s.1.0 s.1.1 bytes s.1.2 s.1.3 s.1.4)
    (entry_parts S)
    (leads_exact front_of (λ x. entry_tail S (x.0 == 0 && x.1 == 0) (is_selection x.0) x) (number_item 4 ⊗ number_item 4) (behind_pair what)
    (then_exact (number 4) (number 4) (number_item 4) (number_item 4) (number_exact 4) (number_exact 4))
    (λ x. tail_exact S what e (x.0 == 0 && x.1 == 0) (is_selection x.0) x))

pub list4_exact : {A : Type 0} (S : A → ℕ → List ℕ → Type 0) (what : Place → Read A) → IsExact S what → IsExact (list4 S) (list4_item what)
unfolding list4_item
list4_exact S what e = ended_exact (entry4 S) (entry4_item what) (entry4_takes S) (entry4_exact S what e)

-- ---- expressions

-- so many bytes, and the place where they stand
abbrev placed : ℕ → Span → ℕ → List ℕ → Type 0
placed n = leads here (λ at. image (span_of at n) (run n))

placed_exact : (n : ℕ) → IsExact (placed n) (span_item n)
unfolding span_item
placed_exact n = leads_exact here (λ at. image (span_of at n) (run n)) here_item (λ at. mapped (span_of at n) (run_item n)) here_exact (λ at. image_exact (run n) (span_of at n) (run_item n) (run_exact n))

-- an expression behind its length
pub sized_span_exact : (S : ℕ → ℕ → List ℕ → Type 0) (f : Place → Read ℕ) → IsExact S f → IsExact (λ s. S s.len & span s) (f ▷ span_item)
sized_span_exact S f e = same_exact (leads S placed) (λ s. S s.len & span s) (f ▷ span_item)
    (λ x at bytes s.
    let here_at = s.1.3.1.2.0 in
    let w = s.1.3.1.3 in
    let len : length s.1.1 ≡ s.0 = omega (arith, ap length s.1.3.1.4, ap length s.1.3.1.2.1, ap length w.2.0, w.2.1, length-append s.1.3.1.0 s.1.3.1.1) in
    let spelled : (S s.0 & span (span_of s.1.3.0 s.0 w.0)) at bytes = (s.1.0, s.1.1, s.1.2, (here_at, len), s.1.4) in
    subst (λ (y : Span). (S y.len & span y) at bytes) w.1 spelled)
    (λ x at bytes s. (x.len, (s.0, s.1, s.2, (x.at, ([], s.1, (s.3.0, refl), (s.1, refl, (refl, s.3.1)), refl)), s.4)))
    (leads_exact S placed f span_item e placed_exact)

expression4_exact : IsExact expression4 expression4_item
unfolding expression4_item
expression4_exact = sized_span_exact (number 2) (number_item 2) (number_exact 2)

pub locations4_exact : IsExact (list4 expression4) (list4_item expression4_item)
locations4_exact = list4_exact expression4 expression4_item expression4_exact

pub ranges4_exact : IsExact (list4 (only tt)) (list4_item nothing_item)
ranges4_exact = list4_exact (only tt) nothing_item (done_exact tt)
