-- The order of source lines, and lists of lines in this order.
use Rattle.std.proofs.Common.{◌≡◌, ℕ, ◌<◌, List, [], ◌∷◌, Bool, true, false, cond, eqb, Option, Some, None, refl, sym, ap, ap₂, ◌∙◌, arith}
use Rattle.std.specs.Prelude.{◌&&◌, bytes_eq, unwrap_or}
use Rattle.std.specs.Bool.{Decides}
use Rattle.std.specs.Map.{lookup, keys_of}
use Rattle.std.specs.List.Sorted.{IsStrictlySortedBy}
use Rattle.std.specs.declared.cmp.Ordering.{Ordering}
use Rattle.std.specs.declared.cmp.Ordering.TheVariants.{Less, Equal, Greater}
use Rattle.std.specs.Ordering.{nat_cmp, ordering_then, ordering_reverse, is_eq}
use Rattle.std.specs.Cmp.{IsTotalOrder, on_total}
use Rattle.std.specs.Cmp.Lexicographic.{slice_cmp}
use Rattle.std.specs.BTreeMap.{is_at}
use Rattle.std.proofs.lemmas.Map.Text.{is_eq-slice_cmp}
use Rattle.std.proofs.lemmas.Map.{lookup-none}
use Rattle.std.proofs.lemmas.Map.Entries.{lookup_head, lookup_tail, none_past_head, none_below_head}
use Rattle.std.proofs.lemmas.Map.Keys.{IsDistinct-from_sorted, sorted_tail}
use Rattle.std.proofs.lemmas.Cmp.{nat_cmp_total, nat_list_cmp_total, then_total, eq_by_cmp_equiv, tied_itself}
use Rattle.std.proofs.lemmas.Slice.Eq.{bytes_eq-Decides}
use Rattle.cover_command.specs.SourceLines.{SourceLine, line_cmp, is_line}
use Rattle.pm_text.proofs.Lists.{some_is, is_eq_at}

-- ---- the same line

then_eq : (o r : Ordering) → is_eq (ordering_then o r) ≡ (is_eq o && is_eq r)
then_eq Less r = refl
then_eq Equal r = refl
then_eq Greater r = refl

pub ties : (a b : SourceLine) → is_eq (line_cmp a b) ≡ is_line a b
ties a b = then_eq (slice_cmp nat_cmp a.file b.file) (nat_cmp a.line b.line) ∙ ap₂ (λ x y. x && y) (is_eq-slice_cmp a.file b.file) (is_eq_at a.line b.line)

pub same_line : (a b : SourceLine) → is_line a b ≡ true → a ≡ b
same_line a b e = by (bytes_eq a.file b.file) (eqb a.line b.line) (bytes_eq-Decides a.file b.file) refl e where
  by : (x y : Bool) → Decides x (a.file ≡ b.file) → eqb a.line b.line ≡ y → (x && y) ≡ true → a ≡ b
  by true true d f h =
      let p : a.file ≡ b.file = d.0 refl in
      let q : a.line ≡ b.line = grind (arith, f) in
      λ i. record { file = p i; line = q i }
  by true false d f h = absurd cc
  by false y d f h = absurd cc

-- ---- the order

line_total : IsTotalOrder line_cmp
line_total = then_total (on_total (λ (a : SourceLine). a.file) nat_list_cmp_total) (on_total (λ (a : SourceLine). a.line) nat_cmp_total)

pub itself : (a : SourceLine) → is_line a a ≡ true
itself a = sym (ties a a) ∙ ap is_eq (tied_itself line_total a)

-- ---- lists in this order

abbrev Counts : Type 0
Counts = List (SourceLine × ℕ)

pub alike : {K X : Type 0} (t u : K → Bool) → ((k : K) → t k ≡ u k) → (es : List (K × X)) → lookup t es ≡ lookup u es
alike t u same [] = refl
alike t u same (e ∷ es) = ap₂ (λ b o. cond b (Some e.1) o) (same e.0) (alike t u same es)

abbrev number_at : SourceLine → Counts → Option ℕ
number_at q es = lookup (is_at (line_cmp q)) es

by_order : (q : SourceLine) (es : Counts) → lookup (is_line q) es ≡ number_at q es
by_order q es = alike (is_line q) (is_at (line_cmp q)) (λ k. sym (ties q k)) es

flipped : (a b : SourceLine) → line_cmp a b ≡ Greater → line_cmp b a ≡ Less
flipped a b e = line_total.antisymm b a ∙ ap ordering_reverse e

first_is : (e : SourceLine × ℕ) (es : Counts) → number_at e.0 (e ∷ es) ≡ Some e.1
first_is e es = lookup_head (is_at (line_cmp e.0)) e es (ap is_eq (tied_itself line_total e.0))

none_before : (q : SourceLine) (e : SourceLine × ℕ) (es : Counts) → IsStrictlySortedBy line_cmp (keys_of (e ∷ es)) → line_cmp q e.0 ≡ Less → number_at q (e ∷ es) ≡ None
none_before q e es sorted less = lookup-none (is_at (line_cmp q)) (e ∷ es) (none_below_head line_total q e es sorted less)

none_behind : (e : SourceLine × ℕ) (es : Counts) → IsStrictlySortedBy line_cmp (keys_of (e ∷ es)) → (q : SourceLine) → is_eq (line_cmp q e.0) ≡ true → number_at q es ≡ None
none_behind e es sorted q same = lookup-none (is_at (line_cmp q)) es (none_past_head (eq_by_cmp_equiv line_total) q e es (IsDistinct-from_sorted line_cmp (keys_of (e ∷ es)) sorted) same)

-- the lists behind the first ones have the same numbers
behind : (c d : SourceLine × ℕ) (cs ds : Counts) → IsStrictlySortedBy line_cmp (keys_of (c ∷ cs)) → IsStrictlySortedBy line_cmp (keys_of (d ∷ ds)) → c.0 ≡ d.0
    → ((q : SourceLine) → number_at q (c ∷ cs) ≡ number_at q (d ∷ ds)) → (q : SourceLine) → number_at q cs ≡ number_at q ds
behind c d cs ds sc sd at same q = by (is_eq (line_cmp q c.0)) refl where
  by : (b : Bool) → is_eq (line_cmp q c.0) ≡ b → number_at q cs ≡ number_at q ds
  by true e = none_behind c cs sc q e ∙ sym (none_behind d ds sd q (ap (λ k. is_eq (line_cmp q k)) (sym at) ∙ e))
  by false e = sym (lookup_tail (is_at (line_cmp q)) c cs e) ∙ same q ∙ lookup_tail (is_at (line_cmp q)) d ds (ap (λ k. is_eq (line_cmp q k)) (sym at) ∙ e)

-- the same numbers make the same list
one_list : (cs ds : Counts) → IsStrictlySortedBy line_cmp (keys_of cs) → IsStrictlySortedBy line_cmp (keys_of ds) → ((q : SourceLine) → number_at q cs ≡ number_at q ds) → cs ≡ ds
one_list [] [] sc sd same = refl
one_list [] (d ∷ ds) sc sd same = let clash : None ≡ Some d.1 = same d.0 ∙ first_is d ds in absurd cc
one_list (c ∷ cs) [] sc sd same = let clash : None ≡ Some c.1 = sym (same c.0) ∙ first_is c cs in absurd cc
one_list (c ∷ cs) (d ∷ ds) sc sd same = by (line_cmp c.0 d.0) refl (λ rest. one_list cs ds (sorted_tail line_cmp c.0 (keys_of cs) sc) (sorted_tail line_cmp d.0 (keys_of ds) sd) rest) where
  by : (o : Ordering) → line_cmp c.0 d.0 ≡ o → (((q : SourceLine) → number_at q cs ≡ number_at q ds) → cs ≡ ds) → c ∷ cs ≡ d ∷ ds
  by Less e rest = let clash : None ≡ Some c.1 = sym (none_before c.0 d ds sd e) ∙ sym (same c.0) ∙ first_is c cs in absurd cc
  by Greater e rest = let clash : None ≡ Some d.1 = sym (none_before d.0 c cs sc (flipped c.0 d.0 e)) ∙ same d.0 ∙ first_is d ds in absurd cc
  by Equal e rest =
      let at : c.0 ≡ d.0 = same_line c.0 d.0 (sym (ties c.0 d.0) ∙ ap is_eq e) in
      let number : c.1 ≡ d.1 = some_is (sym (first_is c cs) ∙ same c.0 ∙ ap (λ k. number_at k (d ∷ ds)) at ∙ first_is d ds) in
      ap₂ (λ (x : SourceLine × ℕ) (xs : Counts). x ∷ xs) (ap₂ (λ (k : SourceLine) (n : ℕ). (k, n)) at number) (rest (behind c d cs ds sc sd at same))

-- Lists of lines with steps are the same where they have the same numbers of steps.
same_number : (a b : Option ℕ) → ((n : ℕ) → a ≡ Some n → 0 < n) → ((n : ℕ) → b ≡ Some n → 0 < n) → unwrap_or a 0 ≡ unwrap_or b 0 → a ≡ b
same_number None None ha hb e = refl
same_number None (Some y) ha hb e = absurd (omega (arith, hb y refl, e))
same_number (Some x) None ha hb e = absurd (omega (arith, ha x refl, e))
same_number (Some x) (Some y) ha hb e = ap Some e

pub one_counts : (cs ds : Counts) → IsStrictlySortedBy line_cmp (keys_of cs) → IsStrictlySortedBy line_cmp (keys_of ds)
    → ((q : SourceLine) (n : ℕ) → lookup (is_line q) cs ≡ Some n → 0 < n) → ((q : SourceLine) (n : ℕ) → lookup (is_line q) ds ≡ Some n → 0 < n)
    → ((q : SourceLine) → unwrap_or (lookup (is_line q) cs) 0 ≡ unwrap_or (lookup (is_line q) ds) 0) → cs ≡ ds
one_counts cs ds sc sd hc hd same =
    one_list cs ds sc sd (λ q. sym (by_order q cs) ∙ same_number (lookup (is_line q) cs) (lookup (is_line q) ds) (hc q) (hd q) (same q) ∙ by_order q ds)
