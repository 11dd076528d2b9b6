-- Numbers of steps in a map of lines.
use Rattle.std.proofs.Common.{◌≡◌, ℕ, zero, suc, ◌+◌, ◌<◌, ◌^◌, List, [], ◌∷◌, Bool, true, false, cond, Some, None, refl, sym, ap, ap₂, subst, ◌∙◌, arith, map, drop, length, get_or, drop-cons}
use Rattle.std.proofs.lemmas.List.{drop_all}
use Rattle.std.specs.Prelude.{◌≤◌, slice_get, unwrap_or, if◌then◌else◌, min, ◌-◌}
use Rattle.std.specs.Map.{lookup, keys_of, IsKeyTest, AreApart, KeepsOthers}
use Rattle.std.specs.List.{AllByRecursion}
use Rattle.std.specs.List.Sorted.{IsStrictlySortedBy}
use Rattle.std.specs.declared.cmp.Ordering.TheVariants.{Less}
use Rattle.std.specs.Ordering.{is_eq, eq_by_cmp}
use Rattle.std.specs.BTreeMap.{BTreeMap, Updates, get, is_at}
use Rattle.dwarf_line.specs.declared.lines.Lines.{Lines}
use Rattle.line_coverage.specs.declared.spots.LineCount.{LineCount}
use Rattle.cover_command.specs.SourceLines.{SourceLine, line_cmp, is_line}
use Rattle.cover_command.specs.inner.Merging.{file_line_cmp, seen_line, seen_counts, at_line, counted_on, HaveSteps, spot_line, merged}
use Rattle.cover_command.specs.declared.merging.NamedLine.{NamedLine}
use Rattle.cover_command.proofs.Orders.{ties, same_line, alike}
use Rattle.run_session.proofs.Tellings.{plus_none}

-- ---- the order of the map is that of the lines

pub as_lines : (a b : NamedLine) → file_line_cmp a b ≡ line_cmp (seen_line a) (seen_line b)
as_lines a b = refl

tie : (a b : NamedLine) → is_eq (file_line_cmp a b) ≡ is_line (seen_line a) (seen_line b)
tie a b = ap is_eq (as_lines a b) ∙ ties (seen_line a) (seen_line b)

all_seen : (P : NamedLine → Type 0) (Q : SourceLine → Type 0) → ((k : NamedLine) → P k → Q (seen_line k)) → (es : List (NamedLine × ℕ)) → AllByRecursion P (keys_of es) → AllByRecursion Q (keys_of (seen_counts es))
all_seen P Q to [] x = tt
all_seen P Q to (e ∷ es) x = (to e.0 x.0, all_seen P Q to es x.1)

pub seen_sorted : (es : List (NamedLine × ℕ)) → IsStrictlySortedBy file_line_cmp (keys_of es) → IsStrictlySortedBy line_cmp (keys_of (seen_counts es))
unfolding IsStrictlySortedBy
seen_sorted [] x = tt
seen_sorted (e ∷ es) x = (all_seen (λ k. file_line_cmp e.0 k ≡ Less) (λ k. line_cmp (seen_line e.0) k ≡ Less) (λ k h. sym (as_lines e.0 k) ∙ h) es x.0, seen_sorted es x.1)

pub seen_lookup : (q : SourceLine) (es : List (NamedLine × ℕ)) → lookup (is_line q) (seen_counts es) ≡ lookup (at_line q) es
seen_lookup q [] = refl
seen_lookup q (e ∷ es) = ap (λ o. cond (at_line q e.0) (Some e.1) o) (seen_lookup q es)

-- ---- an insertion

key_test : (q : SourceLine) → IsKeyTest (eq_by_cmp file_line_cmp) (at_line q)
key_test q x y e = ap (λ k. is_line k (seen_line y)) (same_line q (seen_line x) e) ∙ sym (tie x y)

apart : (q : SourceLine) (k : NamedLine) → at_line q k ≡ false → AreApart (is_at (file_line_cmp k)) (at_line q)
apart q k other y e = ap (is_line q) (sym (same_line (seen_line k) (seen_line y) (sym (tie k y) ∙ e))) ∙ other

at_key : (q : SourceLine) (k : NamedLine) → at_line q k ≡ true → (y : NamedLine) → at_line q y ≡ is_at (file_line_cmp k) y
at_key q k e y = key_test q k y e

pub updated : (m n : BTreeMap NamedLine ℕ) (k : NamedLine) (v : ℕ) → Updates file_line_cmp m n k (Some v) → (q : SourceLine) → lookup (at_line q) n.entries ≡ cond (at_line q k) (Some v) (lookup (at_line q) m.entries)
unfolding KeepsOthers
updated m n k v up q = by (at_line q k) refl where
  by : (b : Bool) → at_line q k ≡ b → lookup (at_line q) n.entries ≡ cond (at_line q k) (Some v) (lookup (at_line q) m.entries)
  by true e = alike (at_line q) (is_at (file_line_cmp k)) (at_key q k e) n.entries ∙ up.1 ∙ sym (ap (λ b. cond b (Some v) (lookup (at_line q) m.entries)) e)
  by false e = up.3 (at_line q) (key_test q) (apart q k e) ∙ sym (ap (λ b. cond b (Some v) (lookup (at_line q) m.entries)) e)

before_at : (m : BTreeMap NamedLine ℕ) (k : NamedLine) (q : SourceLine) → at_line q k ≡ true → lookup (at_line q) m.entries ≡ get file_line_cmp m k
before_at m k q e = alike (at_line q) (is_at (file_line_cmp k)) (at_key q k e) m.entries

-- ---- so many more steps on a line

more_there : (was sum n : ℕ) → sum ≡ min (was + n) (2 ^ 64 - 1) → was + n < 2 ^ 64 → sum ≡ was + n
more_there was sum n e room = omega (arith, e, room)

pub added : (m n : BTreeMap NamedLine ℕ) (k : NamedLine) (steps sum : ℕ) → Updates file_line_cmp m n k (Some sum) → sum ≡ min (unwrap_or (get file_line_cmp m k) 0 + steps) (2 ^ 64 - 1)
    → (q : SourceLine) → counted_on m q + (if is_line q (seen_line k) then steps else 0) < 2 ^ 64 → counted_on n q ≡ counted_on m q + (if is_line q (seen_line k) then steps else 0)
added m n k steps sum up is q = by (at_line q k) refl where
  by : (b : Bool) → at_line q k ≡ b → counted_on m q + (if at_line q k then steps else 0) < 2 ^ 64 → counted_on n q ≡ counted_on m q + (if at_line q k then steps else 0)
  by true e room =
      let there : counted_on m q ≡ unwrap_or (get file_line_cmp m k) 0 = ap (λ o. unwrap_or o 0) (before_at m k q e) in
      let small : counted_on m q + steps < 2 ^ 64 = subst (λ b. counted_on m q + (if b then steps else 0) < 2 ^ 64) e room in
      let now : counted_on n q ≡ sum = ap (λ o. unwrap_or o 0) (updated m n k sum up q ∙ ap (λ b. cond b (Some sum) (lookup (at_line q) m.entries)) e) in
      now ∙ more_there (counted_on m q) sum steps (is ∙ ap (λ x. min (x + steps) (2 ^ 64 - 1)) (sym there)) small ∙ sym (ap (λ b. counted_on m q + (if b then steps else 0)) e)
  by false e room =
      ap (λ o. unwrap_or o 0) (updated m n k sum up q ∙ ap (λ b. cond b (Some sum) (lookup (at_line q) m.entries)) e)
      ∙ plus_none (counted_on m q) ∙ sym (ap (λ b. counted_on m q + (if b then steps else 0)) e)

more_than : (was sum n : ℕ) → 0 < n → sum ≡ min (was + n) (2 ^ 64 - 1) → 0 < sum
more_than was sum n some e = omega (arith, some, e)

some_same : {x y : ℕ} → Some x ≡ Some y → x ≡ y
some_same e = cc

pub still_some : (m n : BTreeMap NamedLine ℕ) (k : NamedLine) (steps sum : ℕ) → Updates file_line_cmp m n k (Some sum) → sum ≡ min (unwrap_or (get file_line_cmp m k) 0 + steps) (2 ^ 64 - 1)
    → 0 < steps → HaveSteps m → HaveSteps n
still_some m n k steps sum up is some have q x at = by (at_line q k) (sym (updated m n k sum up q) ∙ at) where
  by : (b : Bool) → cond b (Some sum) (lookup (at_line q) m.entries) ≡ Some x → 0 < x
  by true e = subst (λ y. 0 < y) (some_same e) (more_than (unwrap_or (get file_line_cmp m k) 0) sum steps some is)
  by false e = have q x e

-- ---- the loop

-- So far the lines in front of an index were added up.
pub record AddsUp (tables : List Lines) (lines : List LineCount) (at : ℕ) (m : BTreeMap NamedLine ℕ) : Type 0 where
  pub sums : (q : SourceLine) → merged tables lines q < 2 ^ 64 → counted_on m q + merged tables (drop at lines) q ≡ merged tables lines q
  pub some : AllByRecursion (λ (l : LineCount). 0 < l.steps) lines → HaveSteps m × AllByRecursion (λ (l : LineCount). 0 < l.steps) (drop at lines)

none_before_it : (n : ℕ) → 0 + n ≡ n
none_before_it n = omega arith

no_entries : (m : BTreeMap NamedLine ℕ) → m.entries ≡ [] → HaveSteps m
no_entries m none q n at = let clash : None ≡ Some n = sym (ap (lookup (at_line q)) none) ∙ at in absurd cc

pub adds_none : (tables : List Lines) (lines : List LineCount) (m : BTreeMap NamedLine ℕ) → m.entries ≡ [] → AddsUp tables lines 0 m
adds_none tables lines m none = record {
  sums = λ q small. ap (λ es. unwrap_or (lookup (at_line q) es) 0 + merged tables lines q) none ∙ none_before_it (merged tables lines q);
  some = λ all. (no_entries m none, all);
}

suc_is : (n : ℕ) → n + 1 ≡ suc n
suc_is n = omega arith

next_sum : (was now one rest whole : ℕ) → was + (one + rest) ≡ whole → whole < 2 ^ 64 → (was + one < 2 ^ 64 → now ≡ was + one) → now + rest ≡ whole
next_sum was now one rest whole e small step =
    let one_is : now ≡ was + one = step (omega (arith, e, small)) in
    omega (arith, e, one_is)

pub adds_next : (tables : List Lines) (lines : List LineCount) (at : ℕ) (l : LineCount) (k : NamedLine) (m n : BTreeMap NamedLine ℕ) → at < length lines → l ≡ get_or lines at l → seen_line k ≡ spot_line tables l.spot
    → ((q : SourceLine) → counted_on m q + (if is_line q (seen_line k) then l.steps else 0) < 2 ^ 64 → counted_on n q ≡ counted_on m q + (if is_line q (seen_line k) then l.steps else 0))
    → (0 < l.steps → HaveSteps m → HaveSteps n) → AddsUp tables lines at m → AddsUp tables lines (at + 1) n
adds_next tables lines at l k m n lt is seen on some so_far =
    let here : drop at lines ≡ l ∷ drop (at + 1) lines = drop-cons lines at l lt ∙ ap₂ (λ (x : LineCount) (i : ℕ). x ∷ drop i lines) (sym is) (sym (suc_is at)) in
    record {
      sums = λ q small.
          let one = if is_line q (seen_line k) then l.steps else 0 in
          let before : counted_on m q + (one + merged tables (drop (at + 1) lines) q) ≡ merged tables lines q =
          ap (λ (x : SourceLine). counted_on m q + ((if is_line q x then l.steps else 0) + merged tables (drop (at + 1) lines) q)) seen
          ∙ ap (λ ls. counted_on m q + merged tables ls q) (sym here) ∙ so_far.sums q small in
          next_sum (counted_on m q) (counted_on n q) one (merged tables (drop (at + 1) lines) q) (merged tables lines q) before small (on q);
      some = λ all.
          let known = so_far.some all in
          let split : (0 < l.steps) × AllByRecursion (λ (x : LineCount). 0 < x.steps) (drop (at + 1) lines) = subst (λ ls. AllByRecursion (λ (x : LineCount). 0 < x.steps) ls) here known.1 in
          (some split.0 known.0, split.1);
    }

pub all_added : (tables : List Lines) (lines : List LineCount) (at : ℕ) (m : BTreeMap NamedLine ℕ) → length lines ≤ at → AddsUp tables lines at m → (q : SourceLine) → merged tables lines q < 2 ^ 64 → counted_on m q ≡ merged tables lines q
all_added tables lines at m le so_far q small = plus_none (counted_on m q) ∙ ap (λ ls. counted_on m q + merged tables ls q) (sym (drop_all at lines le)) ∙ so_far.sums q small

-- ---- the line programs by their numbers

pub table_there : {A B : Type 0} (f : A → B) (xs : List A) (i : ℕ) (x : A) → i < length xs → x ≡ get_or xs i x → slice_get (map f xs) i ≡ Some (f x)
table_there f [] i x lt is = absurd (omega (arith, lt))
table_there f (y ∷ ys) zero x lt is = ap (λ z. Some (f z)) (sym is)
table_there f (y ∷ ys) (suc i) x lt is = table_there f ys i x (omega (arith, lt)) is

pub none_there : {A B : Type 0} (f : A → B) (xs : List A) (i : ℕ) → length xs ≤ i → slice_get (map f xs) i ≡ None
none_there f [] i le = refl
none_there f (y ∷ ys) zero le = absurd (omega (arith, le))
none_there f (y ∷ ys) (suc i) le = none_there f ys i (omega (arith, le))
