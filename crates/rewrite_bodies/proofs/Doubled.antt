-- A table that is doubled: its length, and where the entries stand that the module itself calls.
use Rattle.std.proofs.Common.{◌≡◌, ℕ, ◌+◌, ◌*◌, ◌<◌, ◌≤◌, List, [], ◌∷◌, ◌++◌, length, map, Option, Some, None, Bool, true, false, ◌&&◌, nat_le, if◌then◌else◌, refl, sym, ap, ◌∙◌, arith, slice_get, option_map, take, drop, leb-true, length-append, length-drop, length-take-le}
use Rattle.std.specs.Prelude.{fold, sum}
use Rattle.std.specs.List.{AllByRecursion}
use Rattle.std.proofs.lemmas.List.{length-map, length-replicate}
use Rattle.std.proofs.lemmas.List.Sums.{sum_by-cons}
use Rattle.std.proofs.lemmas.Option.{slice_get-map, slice_get_within}
use Rattle.std.proofs.Math.Seq.{take-length}
use Rattle.wasm_syntax.specs.declared.parts.ElementSeg.{ElementSeg}
use Rattle.wasm_syntax.specs.declared.parts.Limits.{Limits}
use Rattle.wasm_syntax.specs.declared.module.ModuleParts.{ModuleParts as Module}
use Rattle.wasm_syntax.specs.Run.{table_min, start_table, element_at, element_fits}
use Rattle.wasm_syntax.specs.Run as runs_
use Rattle.rewrite_bodies.specs.calls.Guards.{first_table}
use Rattle.rewrite_bodies.specs.Numbering.{mapped, shown, new_entries, all_true, can_double, table_shown, entry_weight, table_weight, doubles}
use Rattle.pm_text.proofs.Lists.{get_behind}

-- ---- the table where an instance starts has the length that the module gives it, where each segment fits

pub over_len : {A : Type 0} (xs new : List A) (at : ℕ) → at + length new ≤ length xs → length (runs_.over xs at new) ≡ length xs
over_len xs new at le =
    omega (arith, le, length-append (take at xs) (new ++ drop (at + length new) xs), length-append new (drop (at + length new) xs), length-drop (at + length new) xs, length-take-le at xs (omega (arith, le)))

abbrev pub AllTrue : List Bool → Type 0
AllTrue [] = Unit {0}
AllTrue (b ∷ bs) = (b ≡ true) × AllTrue bs

pub table_length : (m : Module) (es : List ElementSeg) (table : List (Option ℕ)) → length table ≡ table_min m.tables → AllTrue (map (element_fits m) es) → length (fold (λ t e. runs_.over t (element_at m e) (map Some e.functions)) table es) ≡ table_min m.tables
table_length m [] table n h = n
table_length m (e ∷ es) table n h =
    let le = leb-true (element_at m e + length e.functions) (table_min m.tables) h.0 in
    let k : length (map Some e.functions) ≡ length e.functions = length-map e.functions Some in
    let one = over_len table (map Some e.functions) (element_at m e) (omega (arith, le, k, n)) in
    table_length m es (runs_.over table (element_at m e) (map Some e.functions)) (omega (arith, one, n)) h.1

pub start_long : (m : Module) → AllTrue (map (element_fits m) m.elements) → length (start_table m) ≡ table_min m.tables
start_long m h = table_length m m.elements _ (length-replicate (table_min m.tables) None) h

pub first_is_start : (m : Module) → AllTrue (map (element_fits m) m.elements) → start_table m ≡ first_table m
first_is_start m h = sym (take-length (start_table m)) ∙ ap (λ k. take k (start_table m)) (start_long m h)

-- ---- what the test for a doubled table says

pub and_left : (a b : Bool) → (a && b) ≡ true → a ≡ true
and_left true b e = refl
and_left false b e = absurd (cc)

pub and_right : (a b : Bool) → (a && b) ≡ true → b ≡ true
and_right true b e = e
and_right false b e = absurd (cc)

pub each_true : (bs : List Bool) → all_true bs ≡ true → AllTrue bs
each_true [] e = tt
each_true (b ∷ bs) e = (and_left b (all_true bs) e, each_true bs (and_right b (all_true bs) e))

few_by : (ls : List Limits) → AllTrue (map can_double ls) → 2 * table_min ls ≤ 65536
few_by [] h = omega arith
few_by (l ∷ ls) h = leb-true (2 * l.min) 65536 (and_left _ _ h.0)

module _ (m : Module) (doubled : doubles m ≡ true) where
  abbrev fits_ : Bool
  fits_ = all_true (map (element_fits m) m.elements)

  abbrev can_ : Bool
  can_ = all_true (map can_double m.tables)

  abbrev light_ : Bool
  light_ = nat_le (table_weight m) (2 * m.plain_bytes + 128)

  rest : (fits_ && (can_ && light_)) ≡ true
  rest = and_right (table_shown m.exports) (fits_ && (can_ && light_)) doubled

  pub is_shown : table_shown m.exports ≡ true
  is_shown = and_left (table_shown m.exports) (fits_ && (can_ && light_)) doubled

  pub segments_fit : AllTrue (map (element_fits m) m.elements)
  segments_fit = each_true (map (element_fits m) m.elements) (and_left fits_ (can_ && light_) rest)

  pub limits_double : AllTrue (map can_double m.tables)
  limits_double = each_true (map can_double m.tables) (and_left can_ light_ (and_right fits_ (can_ && light_) rest))

  pub table_light : table_weight m ≤ 2 * m.plain_bytes + 128
  table_light = leb-true (table_weight m) (2 * m.plain_bytes + 128) (and_right can_ light_ (and_right fits_ (can_ && light_) rest))

  pub few_twice : 2 * table_min m.tables ≤ 65536
  few_twice = few_by m.tables limits_double

  pub first_long : length (first_table m) ≡ table_min m.tables
  first_long = ap length (sym (first_is_start m segments_fit)) ∙ start_long m segments_fit

-- element by element
each_of : {A : Type 0} (f : A → Bool) (xs : List A) → AllTrue (map f xs) → AllByRecursion (λ x. f x ≡ true) xs
each_of f [] h = tt
each_of f (x ∷ xs) h = (h.0, each_of f xs h.1)

under : {A : Type 0} (P : Type 0) (Q : A → Type 0) (xs : List A) → (P → AllByRecursion Q xs) → AllByRecursion (λ x. P → Q x) xs
under P Q [] h = tt
under P Q (x ∷ xs) h = ((λ p. (h p).0), under P Q xs (λ p. (h p).1))

pub each_fits : (m : Module) → AllByRecursion (λ e. doubles m ≡ true → element_fits m e ≡ true) m.elements
each_fits m = under (doubles m ≡ true) (λ e. element_fits m e ≡ true) m.elements (λ d. each_of (element_fits m) m.elements (segments_fit m d))

pub each_doubles : (m : Module) → doubles m ≡ true → AllByRecursion (λ l. can_double l ≡ true) m.tables
each_doubles m d = each_of can_double m.tables (limits_double m d)

-- ---- the entries

-- where an entry stands that the module itself calls
abbrev pub past : Bool → Module → ℕ → ℕ
past false m n = n
past true m n = n + table_min m.tables

entry_by : (m : Module) (t : List (Option ℕ)) (n : ℕ) (e : Option ℕ) (q : Bool) → doubles m ≡ q → t ≡ first_table m → slice_get t n ≡ Some e → slice_get ((if q then map (option_map (shown m)) t else []) ++ map (option_map (mapped m)) t) (past q m n) ≡ Some (option_map (mapped m) e)
entry_by m t n e false d is at = slice_get-map (option_map (mapped m)) t n ∙ ap (option_map (option_map (mapped m))) at
entry_by m t n e true d is at =
    let front = map (option_map (shown m)) t in
    let long : length front ≡ table_min m.tables = length-map t (option_map (shown m)) ∙ ap length is ∙ first_long m d in
    let same : n + table_min m.tables ≡ length front + n = omega (arith, long) in
    ap (slice_get (front ++ map (option_map (mapped m)) t)) same ∙ get_behind front (map (option_map (mapped m)) t) n ∙ slice_get-map (option_map (mapped m)) t n ∙ ap (option_map (option_map (mapped m))) at

pub entry_past : (m : Module) (t : List (Option ℕ)) (n : ℕ) (e : Option ℕ) → t ≡ first_table m → slice_get t n ≡ Some e → slice_get (new_entries m t) (past (doubles m) m n) ≡ Some (option_map (mapped m) e)
entry_past m t n e is at = entry_by m t n e (doubles m) refl is at

-- the sum is a number of 32 bits
pub entry_low : (m : Module) (t : List (Option ℕ)) (n : ℕ) (e : Option ℕ) → t ≡ first_table m → slice_get t n ≡ Some e → doubles m ≡ true → n + table_min m.tables < 65537
entry_low m t n e is at d =
    let within = slice_get_within t n e at in
    omega (arith, within, few_twice m d, ap length is, first_long m d)

-- ---- what wrappers weigh

pub weights_more : (m : Module) (f : ℕ) (fs : List ℕ) → sum (map (entry_weight m) (f ∷ fs)) ≡ entry_weight m f + sum (map (entry_weight m) fs)
weights_more m f fs = sum_by-cons (λ (x : ℕ). x) (entry_weight m f) (map (entry_weight m) fs)
