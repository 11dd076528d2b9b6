-- What an entry says, from its first value on.
use Rattle.std.proofs.Common.{◌≡◌, ℕ, ◌-◌, ◌≤◌, ◌<◌, Bool, true, false, cond, eqb, List, [], ◌∷◌, length, get_or, take, drop, Option, Some, None, Ok, Err, refl, ap, subst, ◌∙◌, arith}
use Rattle.std.proofs.Math.Seq.{take-length}
use Rattle.std.specs.Prelude.{option_map, find}
use Rattle.wasm_bytes.specs.Place.{Place, Read}
use Rattle.wasm_bytes.specs.Reading.{◌>>=◌}
use Rattle.wasm_bytes.specs.Laws.{got, failed}
use Rattle.wasm_bytes.proofs.Places.{got_is, bind_ok}
use Rattle.dwarf_bytes.specs.Items.{each_item}
use Rattle.dwarf_bytes.specs.Format.{read}
use Rattle.dwarf5_line.specs.declared.entries.Pair.{Pair}
use Rattle.dwarf5_line.specs.declared.entries.FormContent.{FormContent}
use Rattle.dwarf5_line.specs.declared.entries.Summary.{Summary}
use Rattle.dwarf5_line.specs.Entries.{Texts, Described, describes, content, described_item}
use Rattle.dwarf5_line.specs.inner.Summary.{summary_of, summary_item, with_first}

first_content : (b : Bool) (x : Described) (more : Option Described) → option_map (λ (y : Described). y.content) (cond b (Some x) more) ≡ cond b (Some x.content) (option_map (λ (y : Described). y.content) more)
first_content true x more = refl
first_content false x more = refl

both_contents : (a b : Option FormContent) (c d : Option FormContent) → a ≡ c → b ≡ d → (let s : Summary = record { path = a; directory = b } in s) ≡ record { path = c; directory = d }
both_contents a b c d e f = cc

summary_first : (x : Described) (xs : List Described) → summary_of (x ∷ xs) ≡ with_first x (summary_of xs)
summary_first x xs = both_contents _ _ _ _ (first_content (eqb x.kind 1) x (find (λ (y : Described). eqb y.kind 1) xs)) (first_content (eqb x.kind 2) x (find (λ (y : Described). eqb y.kind 2) xs))

pub summary_on : (t : Texts) (p : Pair) (ps : List Pair) (q mid new : Place) (c : FormContent) (s : Summary) → read (content t p.form) q ≡ got c mid → summary_item t ps mid ≡ got s new → summary_item t (p ∷ ps) q ≡ got (with_first (describes p.kind c) s) new
unfolding each_item
summary_on t p ps q mid new c s h more =
    let b = bind_ok (each_item (described_item t) ps mid) (λ xs. got (summary_of xs.0) xs.1) s new more in
    let same = got_is (summary_of b.0) s b.1 new b.3 in
    let said : summary_of (describes p.kind c ∷ b.0) ≡ with_first (describes p.kind c) s = summary_first (describes p.kind c) b.0 ∙ ap (with_first (describes p.kind c)) same.0 in
    rw (h, b.2, said, same.1) refl

pub summary_fails : (t : Texts) (p : Pair) (ps : List Pair) (q : Place) (o : ℕ) → read (content t p.form) q ≡ failed o → summary_item t (p ∷ ps) q ≡ failed o
unfolding each_item
summary_fails t p ps q o h = rw h refl

more_fails : {A B C : Type 0} (x : C) (r : Read (List C)) (f : List C → A) (g : List C → B) (o : ℕ) → (r >>= λ xs. got (f xs.0) xs.1) ≡ failed o → ((r >>= λ xs. got (x ∷ xs.0) xs.1) >>= λ xs. got (g xs.0) xs.1) ≡ failed o
more_fails x (Ok xs) f g o e = absurd cc
more_fails x (Err u) f g o e = let same : u ≡ o = cc in ap failed same

pub summary_fails_later : (t : Texts) (p : Pair) (ps : List Pair) (q mid : Place) (c : FormContent) (o : ℕ) → read (content t p.form) q ≡ got c mid → summary_item t ps mid ≡ failed o → summary_item t (p ∷ ps) q ≡ failed o
unfolding each_item
summary_fails_later t p ps q mid c o h more = rw h (more_fails (describes p.kind c) (each_item (described_item t) ps mid) summary_of summary_of o more)

-- ---- as the code takes the first pair and the others

abbrev no_pair : Pair
no_pair = record { kind = 0; form = 0 }

abbrev first_of : List Pair → Pair
first_of ps = get_or ps 0 no_pair

abbrev others_of : List Pair → List Pair
others_of ps = take (length ps - 1) (drop 1 ps)

others_are : (p : Pair) (ps : List Pair) → others_of (p ∷ ps) ≡ ps
others_are p ps = let len : length (p ∷ ps) - 1 ≡ length ps = omega arith in ap (λ (n : ℕ). take n ps) len ∙ take-length ps

pub summary_none : (t : Texts) (ps : List Pair) (q : Place) → length ps < 1 → summary_item t ps q ≡ got (record { path = None; directory = None }) q
unfolding each_item
summary_none t [] q none = refl
summary_none t (p ∷ ps) q none = absurd (omega (arith, none))

pub summary_split : (t : Texts) (ps : List Pair) (q mid new : Place) (c : FormContent) (s : Summary) → 1 ≤ length ps → read (content t (first_of ps).form) q ≡ got c mid → summary_item t (others_of ps) mid ≡ got s new
    → summary_item t ps q ≡ got (with_first (describes (first_of ps).kind c) s) new
summary_split t [] q mid new c s some h more = absurd (omega (arith, some))
summary_split t (p ∷ ps) q mid new c s some h more = summary_on t p ps q mid new c s h (subst (λ (xs : List Pair). summary_item t xs mid ≡ got s new) (others_are p ps) more)

pub first_fails : (t : Texts) (ps : List Pair) (q : Place) (o : ℕ) → 1 ≤ length ps → read (content t (first_of ps).form) q ≡ failed o → summary_item t ps q ≡ failed o
first_fails t [] q o some h = absurd (omega (arith, some))
first_fails t (p ∷ ps) q o some h = summary_fails t p ps q o h

pub others_fail : (t : Texts) (ps : List Pair) (q mid : Place) (c : FormContent) (o : ℕ) → 1 ≤ length ps → read (content t (first_of ps).form) q ≡ got c mid → summary_item t (others_of ps) mid ≡ failed o → summary_item t ps q ≡ failed o
others_fail t [] q mid c o some h more = absurd (omega (arith, some))
others_fail t (p ∷ ps) q mid c o some h more = summary_fails_later t p ps q mid c o h (subst (λ (xs : List Pair). summary_item t xs mid ≡ failed o) (others_are p ps) more)
