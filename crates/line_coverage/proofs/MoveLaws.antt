-- Steps at addresses that become steps on lines.
use Rattle.std.proofs.Common.{◌≡◌, ℕ, zero, suc, ◌+◌, ◌^◌, ◌<◌, ◌≤◌, Bool, true, false, cond, eqb, List, [], ◌∷◌, Option, Some, None, refl, sym, ap, subst, ◌∙◌, arith}
use Rattle.std.specs.Prelude.{option_map, unwrap_or, length, map, drop, slice_index_or}
use Rattle.std.proofs.lemmas.List.{drop_all}
use Rattle.dwarf_line.specs.declared.lines.Lines.{Lines}
use Rattle.std.specs.List.{AllByRecursion}
use Rattle.std.specs.Option.{IfSome}
use Rattle.std.specs.Map.{lookup, remove_entry}
use Rattle.std.specs.Ordering.{nat_cmp}
use Rattle.std.specs.BTreeMap.{is_at}
use Rattle.std.proofs.lemmas.Map.Views.{All-map-remove_entry, IfSome-lookup_from_All}
use Rattle.dwarf_line.specs.declared.lines.Row.{Row}
use Rattle.dwarf_line.specs.declared.lines.Sequence.{Sequence}
use Rattle.dwarf_line.specs.Place.{holds, nearest}
use Rattle.line_coverage.specs.declared.spots.Spot.{Spot}
use Rattle.line_coverage.specs.calls.Spots.{spot_of}
use Rattle.line_coverage.specs.inner.Sums.{sum_of, sum_all, spots_sum, Positive, AddsOne}
use Rattle.line_coverage.specs.inner.Placing.{Spotting, in_sequence, in_sequences, in_tables, MovesOne, Moves}
use Rattle.line_coverage.proofs.SumLaws.{found_at_most}
use Rattle.pm_text.proofs.Lists.{is_eq_at}

-- ---- one address

remove_sum : {K : Type 0} (q : K → Bool) (k : K) (test : K → Bool) → ((x : K) → test x ≡ true → q x ≡ q k) → (es : List (K × ℕ)) (n : ℕ) → lookup test es ≡ Some n → sum_of q (remove_entry test es) + cond (q k) n 0 ≡ sum_of q es
remove_sum q k test same [] n e = absurd cc
remove_sum q k test same (x ∷ es) n e = by (test x.0) refl e (remove_sum q k test same es n)
  where
    by : (b : Bool) → test x.0 ≡ b → cond b (Some x.1) (lookup test es) ≡ Some n → (lookup test es ≡ Some n → sum_of q (remove_entry test es) + cond (q k) n 0 ≡ sum_of q es)
        → sum_of q (cond b es (x ∷ remove_entry test es)) + cond (q k) n 0 ≡ cond (q x.0) x.1 0 + sum_of q es
    by true t e later =
        let value : x.1 ≡ n = cc in
        let one : cond (q x.0) x.1 0 ≡ cond (q k) n 0 = ap (λ b. cond b x.1 0) (same x.0 t) ∙ ap (λ m. cond (q k) m 0) value in
        omega (arith, one)
    by false t e later = omega (arith, later e)

pub moves_one : (spots : List (Spot × ℕ)) (visits : List (ℕ × ℕ)) (new_spots : List (Spot × ℕ)) (new_visits : List (ℕ × ℕ)) (address : ℕ) (to : Spot) (n : ℕ) → lookup (is_at (nat_cmp address)) visits ≡ Some n
    → new_visits ≡ remove_entry (is_at (nat_cmp address)) visits → AddsOne spots new_spots to n → MovesOne spots visits new_spots new_visits address to
moves_one spots visits new_spots new_visits address to n there removed added = record {
  sums = λ room at here passes.
      let same : (x : ℕ) → is_at (nat_cmp address) x ≡ true → passes (at x) ≡ passes (at address) = λ x t. ap (λ y. passes (at y)) (sym (same_at x t)) in
      let less : sum_of (λ a. passes (at a)) (remove_entry (is_at (nat_cmp address)) visits) + cond (passes (at address)) n 0 ≡ sum_of (λ a. passes (at a)) visits = remove_sum (λ a. passes (at a)) address (is_at (nat_cmp address)) same visits n there in
      let now : sum_of (λ a. passes (at a)) new_visits ≡ sum_of (λ a. passes (at a)) (remove_entry (is_at (nat_cmp address)) visits) = ap (sum_of (λ a. passes (at a))) removed in
      let line : cond (passes (at address)) n 0 ≡ cond (passes (Some to)) n 0 = ap (λ o. cond (passes o) n 0) here in
      let within : n ≤ sum_all visits = subst (λ o. unwrap_or o 0 ≤ sum_all visits) there (found_at_most (is_at (nat_cmp address)) visits) in
      let fits : sum_all spots + n < 2 ^ 64 = omega (arith, within, room) in
      let more : spots_sum passes new_spots ≡ spots_sum passes spots + cond (passes (Some to)) n 0 = added.sums fits (λ s. passes (Some s)) in
      omega (arith, less, now, line, more);
  positive = λ on over.
      let some : 0 < n = subst (λ o. IfSome o (λ m. 0 < m)) there (IfSome-lookup_from_All (λ m. 0 < m) (is_at (nat_cmp address)) visits over) in
      (added.positive some on, subst Positive (sym removed) (All-map-remove_entry (is_at (nat_cmp address)) (λ e. e.1) (λ m. 0 < m) visits over));
}
  where
    same_at : (x : ℕ) → is_at (nat_cmp address) x ≡ true → address ≡ x
    same_at x t = let e : eqb address x ≡ true = sym (is_eq_at address x) ∙ t in grind (arith, e)

-- ---- a sequence

-- one that holds none of the addresses
pub moves_none : (spots : List (Spot × ℕ)) (visits : List (ℕ × ℕ)) (table : ℕ) (s : Sequence) → AllByRecursion (λ (v : ℕ × ℕ). holds v.0 s ≡ false) visits → Moves spots visits spots visits (in_sequence table s)
moves_none spots visits table s none = record {
  sums = λ room others passes. omega (arith, same others passes visits none);
  positive = λ on over. (on, over);
}
  where
    same : (others : Spotting) (passes : Option Spot → Bool) (vs : List (ℕ × ℕ)) → AllByRecursion (λ (v : ℕ × ℕ). holds v.0 s ≡ false) vs → sum_of (λ a. passes (others a)) vs ≡ sum_of (λ a. passes (in_sequence table s others a)) vs
    same others passes [] h = refl
    same others passes (v ∷ vs) h =
        let one : cond (passes (others v.0)) v.1 0 ≡ cond (passes (in_sequence table s others v.0)) v.1 0 = ap (λ b. cond (passes (cond b (option_map (spot_of table) (nearest v.0 s.rows)) (others v.0))) v.1 0) (sym h.0) in
        omega (arith, one, same others passes vs h.1)

-- where an address that it holds is
pub held_at : (table : ℕ) (s : Sequence) (address : ℕ) (row : Row) → holds address s ≡ true → nearest address s.rows ≡ Some row → (others : Spotting) → in_sequence table s others address ≡ Some (spot_of table row)
held_at table s address row h n others = rw (h, n) refl

-- what one move and others behind it come to
pub one_more : (spots : List (Spot × ℕ)) (visits : List (ℕ × ℕ)) (spots' : List (Spot × ℕ)) (visits' : List (ℕ × ℕ)) (new_spots : List (Spot × ℕ)) (new_visits : List (ℕ × ℕ)) (address : ℕ) (to : Spot) (found : Spotting → Spotting)
    → MovesOne spots visits spots' visits' address to → ((others : Spotting) → found others address ≡ Some to) → Moves spots' visits' new_spots new_visits found → Moves spots visits new_spots new_visits found
one_more spots visits spots' visits' new_spots new_visits address to found one there behind = record {
  sums = λ room others passes.
      let all : sum_all spots' + sum_all visits' ≡ sum_all spots + sum_all visits = one.sums room (λ _. Some to) refl (λ _. true) in
      let fits : sum_all spots' + sum_all visits' < 2 ^ 64 = omega (arith, all, room) in
      behind.sums fits others passes ∙ one.sums room (found others) (there others) passes;
  positive = λ on over. let p = one.positive on over in behind.positive p.0 p.1;
}

-- moves behind moves
pub then_moves : (spots : List (Spot × ℕ)) (visits : List (ℕ × ℕ)) (spots' : List (Spot × ℕ)) (visits' : List (ℕ × ℕ)) (new_spots : List (Spot × ℕ)) (new_visits : List (ℕ × ℕ)) (f g : Spotting → Spotting)
    → Moves spots visits spots' visits' f → Moves spots' visits' new_spots new_visits g → Moves spots visits new_spots new_visits (λ others a. f (g others) a)
then_moves spots visits spots' visits' new_spots new_visits f g first behind = record {
  sums = λ room others passes.
      let all : sum_all spots' + sum_all visits' ≡ sum_all spots + sum_all visits = first.sums room (λ _. None) (λ _. true) in
      let fits : sum_all spots' + sum_all visits' < 2 ^ 64 = omega (arith, all, room) in
      behind.sums fits others passes ∙ first.sums room (g others) passes;
  positive = λ on over. let p = first.positive on over in behind.positive p.0 p.1;
}

pub moves_nothing : (spots : List (Spot × ℕ)) (visits : List (ℕ × ℕ)) (f : Spotting → Spotting) → ((others : Spotting) (a : ℕ) → f others a ≡ others a) → Moves spots visits spots visits f
moves_nothing spots visits f is = record {
  sums = λ room others passes. omega (arith, same others passes visits);
  positive = λ on over. (on, over);
}
  where
    same : (others : Spotting) (passes : Option Spot → Bool) (vs : List (ℕ × ℕ)) → sum_of (λ a. passes (others a)) vs ≡ sum_of (λ a. passes (f others a)) vs
    same others passes [] = refl
    same others passes (v ∷ vs) =
        let one : cond (passes (others v.0)) v.1 0 ≡ cond (passes (f others v.0)) v.1 0 = ap (λ o. cond (passes o) v.1 0) (sym (is others v.0)) in
        omega (arith, one, same others passes vs)

-- ---- lists

drop_here : {X : Type 0} (xs : List X) (i : ℕ) (x : X) → i < length xs → x ≡ slice_index_or xs i x → drop i xs ≡ x ∷ drop (i + 1) xs
drop_here [] i x inside e = absurd (omega (arith, inside))
drop_here (y ∷ ys) zero x inside e = ap (λ z. z ∷ ys) (sym e)
drop_here (y ∷ ys) (suc i) x inside e =
    let more : suc i + 1 ≡ suc (i + 1) = omega arith in
    drop_here ys i x (omega (arith, inside)) e ∙ ap (λ n. x ∷ drop n (y ∷ ys)) (sym more)

-- a sequence more
pub sequence_more : (spots : List (Spot × ℕ)) (visits : List (ℕ × ℕ)) (spots' : List (Spot × ℕ)) (visits' : List (ℕ × ℕ)) (new_spots : List (Spot × ℕ)) (new_visits : List (ℕ × ℕ)) (table : ℕ) (ss : List Sequence) (i : ℕ) (s : Sequence)
    → i < length ss → s ≡ slice_index_or ss i s → Moves spots visits spots' visits' (in_sequence table s) → Moves spots' visits' new_spots new_visits (in_sequences table (drop (i + 1) ss)) → Moves spots visits new_spots new_visits (in_sequences table (drop i ss))
sequence_more spots visits spots' visits' new_spots new_visits table ss i s inside is first behind =
    subst (λ xs. Moves spots visits new_spots new_visits (in_sequences table xs)) (sym (drop_here ss i s inside is))
    (then_moves spots visits spots' visits' new_spots new_visits (in_sequence table s) (in_sequences table (drop (i + 1) ss)) first behind)

pub no_sequences : (spots : List (Spot × ℕ)) (visits : List (ℕ × ℕ)) (table : ℕ) (ss : List Sequence) (i : ℕ) → length ss ≤ i → Moves spots visits spots visits (in_sequences table (drop i ss))
no_sequences spots visits table ss i past = subst (λ xs. Moves spots visits spots visits (in_sequences table xs)) (sym (drop_all i ss past)) (moves_nothing spots visits (in_sequences table []) (λ others a. refl))

-- a line program more
pub table_more : {X : Type 0} (now : X → Lines) (spots : List (Spot × ℕ)) (visits : List (ℕ × ℕ)) (spots' : List (Spot × ℕ)) (visits' : List (ℕ × ℕ)) (new_spots : List (Spot × ℕ)) (new_visits : List (ℕ × ℕ)) (ls : List X) (i : ℕ) (l : X)
    → i < length ls → l ≡ slice_index_or ls i l → Moves spots visits spots' visits' (in_sequences i (now l).sequences) → Moves spots' visits' new_spots new_visits (in_tables (i + 1) (map now (drop (i + 1) ls))) → Moves spots visits new_spots new_visits (in_tables i (map now (drop i ls)))
table_more now spots visits spots' visits' new_spots new_visits ls i l inside is first behind =
    let one : i + 1 ≡ suc i = omega arith in
    subst (λ xs. Moves spots visits new_spots new_visits (in_tables i (map now xs))) (sym (drop_here ls i l inside is))
    (then_moves spots visits spots' visits' new_spots new_visits (in_sequences i (now l).sequences) (in_tables (suc i) (map now (drop (i + 1) ls))) first
    (subst (λ n. Moves spots' visits' new_spots new_visits (in_tables n (map now (drop (i + 1) ls)))) one behind))
