-- The judgement of calls.
use Rattle.std.proofs.Common.{◌≡◌, inl, inr, ℕ, suc, zero, ◌+◌, ◌<◌, ◌≤◌, List, [], ◌∷◌, ◌++◌, length, map, take, refl, sym, ap, subst, ◌∙◌, arith, add-one, append_assoc, append-nil, length-append, Option, Some, None}
use Rattle.std.proofs.lemmas.List.{length-map}
use Rattle.std.specs.Prelude.{flat_map, ◌⊎◌, nat_le, true, Result, Ok, Err}
use Rattle.std.specs.List.{AllByRecursion}
use Rattle.std.proofs.lemmas.Bool.{le-leb, eq-eqb, and_from, cond-true, cases_order}
use Rattle.wasm_syntax.specs.declared.value.Value.{Value}
use Rattle.wasm_syntax.specs.declared.value.Value.TheVariants as values
use Rattle.wasm_syntax.specs.declared.host.CollectorCall.{CollectorCall}
use Rattle.wasm_syntax.specs.declared.host.CollectorCall.TheVariants.{Frame}
use Rattle.dump_write.specs.Collected.{value_call, Entry, entry_calls, calls_of, HaveKind, Whole as IsWhole, BeginsWhole}
use Rattle.host_collector.specs.Torn.{IsFirstOffending}
use Rattle.host_collector.specs.declared.progress.Progress.{Progress}
use Rattle.host_collector.specs.declared.progress.Progress.TheVariants.{First, Later, Whole}
use Rattle.host_collector.specs.inner.Progress.{missing, with_value, with_frame, with_call, if_room, stepped, ended, if_next, judged}
use Rattle.host_collector.proofs.Stands.{HasCome, has_come, none_came, begins, whole_is}

-- ---- a step

-- an answer comes of the next call
to_ok : (G : Type 0) (o : Option Progress) (count : ℕ) (goes : Progress → Result ℕ ℕ) (kind : ℕ) → if_next count goes o ≡ Ok kind → ((q : Progress) → o ≡ Some q → goes q ≡ Ok kind → G) → G
to_ok G None count goes kind e go = absurd (cc)
to_ok G (Some q) count goes kind e go = go q refl e

to_err : (G : Type 0) (o : Option Progress) (count : ℕ) (goes : Progress → Result ℕ ℕ) (at : ℕ) → if_next count goes o ≡ Err at → (o ≡ None → count ≡ at → G) → ((q : Progress) → o ≡ Some q → goes q ≡ Err at → G) → G
to_err G None count goes at e stop go = stop refl (cc)
to_err G (Some q) count goes at e stop go = go q refl e

ended_err : (count : ℕ) (p : Progress) (at : ℕ) → ended count p ≡ Err at → count ≡ at
ended_err count (First n) at e = cc
ended_err count (Later kind n) at e = cc
ended_err count (Whole kind) at e = absurd (cc)

-- ---- calls that are accepted are whole

abbrev pub IsWholeOf : List CollectorCall → ℕ → Type 0
IsWholeOf calls kind = (w : IsWhole calls) × (w.kind ≡ kind)

ended_whole : (count : ℕ) (p : Progress) (front : List CollectorCall) (kind : ℕ) → HasCome count p front → ended count p ≡ Ok kind → IsWholeOf front kind
ended_whole count (First n) front kind h e = absurd (cc)
ended_whole count (Later k n) front kind h e = absurd (cc)
ended_whole count (Whole k) front kind h e =
    let same : k ≡ kind = cc in
    (whole_is count k front h.count_is h.stands h.room, same)

judged_whole : (count : ℕ) (p : Progress) (front calls : List CollectorCall) (kind : ℕ) → HasCome count p front → judged count p calls ≡ Ok kind → IsWholeOf (front ++ calls) kind
judged_whole count p front [] kind h e = subst (λ (cs : List CollectorCall). IsWholeOf cs kind) (sym (append-nil front)) (ended_whole count p front kind h e)
judged_whole count p front (c ∷ calls) kind h e =
    to_ok (IsWholeOf (front ++ c ∷ calls) kind) (stepped count p c) count (λ q. judged (count + 1) q calls) kind e
    (λ q s g. subst (λ (cs : List CollectorCall). IsWholeOf cs kind) (append_assoc front (c ∷ []) calls) (judged_whole (count + 1) q (front ++ c ∷ []) calls kind (has_come count p q front c h s) g))

pub accepted : (calls : List CollectorCall) (kind : ℕ) → judged 0 (First 0) calls ≡ Ok kind → IsWholeOf calls kind
accepted calls kind e = judged_whole 0 (First 0) [] calls kind none_came e

-- ---- where calls are refused

judged_within : (count : ℕ) (p : Progress) (calls : List CollectorCall) (at : ℕ) → judged count p calls ≡ Err at → (count ≤ at) × (at ≤ count + length calls)
judged_within count p [] at e = let same = ended_err count p at e in (omega (arith, same), omega (arith, same))
judged_within count p (c ∷ calls) at e =
    to_err ((count ≤ at) × (at ≤ count + length (c ∷ calls))) (stepped count p c) count (λ q. judged (count + 1) q calls) at e
    (λ s same. (omega (arith, same), omega (arith, same)))
    (λ q s g. let w = judged_within (count + 1) q calls at g in (omega (arith, w.0), omega (arith, w.1)))

judged_before : (count : ℕ) (p : Progress) (front calls : List CollectorCall) (at : ℕ) → HasCome count p front → judged count p calls ≡ Err at → (j : ℕ) → count + j < at → BeginsWhole (front ++ take (suc j) calls)
judged_before count p front [] at h e j below = let same = ended_err count p at e in absurd (omega (arith, same, below))
judged_before count p front (c ∷ calls) at h e zero below =
    to_err (BeginsWhole (front ++ c ∷ [])) (stepped count p c) count (λ q. judged (count + 1) q calls) at e
    (λ s same. absurd (omega (arith, same, below)))
    (λ q s g. begins (count + 1) q (front ++ c ∷ []) (has_come count p q front c h s))
judged_before count p front (c ∷ calls) at h e (suc j) below =
    to_err (BeginsWhole (front ++ c ∷ take (suc j) calls)) (stepped count p c) count (λ q. judged (count + 1) q calls) at e
    (λ s same. absurd (omega (arith, same, below)))
    (λ q s g. subst BeginsWhole (append_assoc front (c ∷ []) (take (suc j) calls)) (judged_before (count + 1) q (front ++ c ∷ []) calls at (has_come count p q front c h s) g j (omega (arith, below))))

judged_there : (count : ℕ) (p : Progress) (calls more : List CollectorCall) (at j : ℕ) → judged count p calls ≡ Err at → at ≡ count + j → j < length calls → judged count p (take (suc j) calls ++ more) ≡ Err at
judged_there count p [] more at j e place inside = absurd (omega (arith, inside))
judged_there count p (c ∷ calls) more at zero e place inside =
    to_err (judged count p (c ∷ more) ≡ Err at) (stepped count p c) count (λ q. judged (count + 1) q calls) at e
    (λ s same. ap (λ (o : Option Progress). if_next count (λ q. judged (count + 1) q more) o) s ∙ ap (λ (n : ℕ). Err n) same)
    (λ q s g. let w = judged_within (count + 1) q calls at g in absurd (omega (arith, w.0, place)))
judged_there count p (c ∷ calls) more at (suc j) e place inside =
    to_err (judged count p (c ∷ (take (suc j) calls ++ more)) ≡ Err at) (stepped count p c) count (λ q. judged (count + 1) q calls) at e
    (λ s same. ap (λ (o : Option Progress). if_next count (λ q. judged (count + 1) q (take (suc j) calls ++ more)) o) s ∙ ap (λ (n : ℕ). Err n) same)
    (λ q s g. ap (λ (o : Option Progress). if_next count (λ q. judged (count + 1) q (take (suc j) calls ++ more)) o) s ∙ judged_there (count + 1) q calls more at j g (omega (arith, place)) (omega (arith, inside)))

-- ---- whole calls are accepted

to_next : (count : ℕ) (p q : Progress) (c : CollectorCall) (calls : List CollectorCall) → with_call p c ≡ Some q → count + 1 + missing q ≤ 134217728 → judged count p (c ∷ calls) ≡ judged (count + 1) q calls
to_next count p q c calls is room =
    let s : stepped count p c ≡ Some q = ap (λ (o : Option Progress). if_room (count + 1) o) is ∙ cond-true _ _ _ (le-leb (count + 1 + missing q) 134217728 room) in
    ap (λ (o : Option Progress). if_next count (λ q. judged (count + 1) q calls) o) s

on_value : (p : Progress) (v : Value) → with_call p (value_call v) ≡ with_value p
on_value p (values.I32 n) = refl
on_value p (values.I64 n) = refl

over_values : (f : ℕ → Progress) (m : ℕ) → ((n : ℕ) → with_value (f n) ≡ Some (f (n + 1))) → ((n : ℕ) → missing (f n) ≡ m) → (vs : List Value) (count n : ℕ) (rest : List CollectorCall) → count + length vs + m ≤ 134217728
    → judged count (f n) (map value_call vs ++ rest) ≡ judged (count + length vs) (f (n + length vs)) rest
over_values f m next lacks [] count n rest room =
    let a : count ≡ count + 0 = omega arith in
    let b : n ≡ n + 0 = omega arith in
    λ i. judged (a i) (f (b i)) rest
over_values f m next lacks (v ∷ vs) count n rest room =
    let l : missing (f (n + 1)) ≡ m = lacks (n + 1) in
    let here : count + 1 + missing (f (n + 1)) ≤ 134217728 = omega (arith, l, room) in
    let then_ : count + 1 + length vs + m ≤ 134217728 = omega (arith, room) in
    let a : count + 1 + length vs ≡ count + suc (length vs) = omega arith in
    let b : n + 1 + length vs ≡ n + suc (length vs) = omega arith in
    to_next count (f n) (f (n + 1)) (value_call v) (map value_call vs ++ rest) (on_value (f n) v ∙ next n) here
    ∙ over_values f m next lacks vs (count + 1) (n + 1) rest then_
    ∙ (λ i. judged (a i) (f (b i)) rest)

-- as many calls as values, and the end
entry_length : (e : Entry) → length (entry_calls e) ≡ length (e.shown.operands ++ e.shown.locals) + 1
entry_length e =
    omega (arith, length-append (map value_call (e.shown.operands ++ e.shown.locals)) (Frame e.kind e.shown.function e.shown.offset (length e.shown.locals) ∷ []), length-map (e.shown.operands ++ e.shown.locals) value_call)

over_entry : (f : ℕ → Progress) (m kind : ℕ) → ((n : ℕ) → with_value (f n) ≡ Some (f (n + 1))) → ((n : ℕ) → missing (f n) ≡ m) → m ≤ 2 → (e : Entry) (count : ℕ) (rest : List CollectorCall)
    → with_frame (f (0 + length (e.shown.operands ++ e.shown.locals))) e.kind e.shown.function e.shown.offset (length e.shown.locals) ≡ Some (Later kind 0) → count + length (entry_calls e) + 1 ≤ 134217728
    → judged count (f 0) (entry_calls e ++ rest) ≡ judged (count + length (entry_calls e)) (Later kind 0) rest
over_entry f m kind next lacks low e count rest closes room =
    let vs = e.shown.operands ++ e.shown.locals in
    let end = Frame e.kind e.shown.function e.shown.offset (length e.shown.locals) in
    let len = entry_length e in
    let first : count + length vs + m ≤ 134217728 = omega (arith, len, room, low) in
    let then_ : count + length vs + 1 + 1 ≤ 134217728 = omega (arith, len, room) in
    let all : count + length vs + 1 ≡ count + length (entry_calls e) = omega (arith, len) in
    ap (λ (cs : List CollectorCall). judged count (f 0) cs) (append_assoc (map value_call vs) (end ∷ []) rest)
    ∙ over_values f m next lacks vs count 0 (end ∷ rest) first
    ∙ to_next (count + length vs) (f (0 + length vs)) (Later kind 0) end rest closes then_
    ∙ ap (λ (n : ℕ). judged n (Later kind 0) rest) all

-- the locals are there
enough : (e : Entry) → nat_le (length e.shown.locals) (0 + length (e.shown.operands ++ e.shown.locals)) ≡ true
enough e = le-leb (length e.shown.locals) (0 + length (e.shown.operands ++ e.shown.locals)) (omega (arith, length-append e.shown.operands e.shown.locals))

over_first : (e : Entry) (kind count : ℕ) (rest : List CollectorCall) → e.kind ≡ kind → 1 ≤ kind → kind ≤ 7 → count + length (entry_calls e) + 1 ≤ 134217728
    → judged count (First 0) (entry_calls e ++ rest) ≡ judged (count + length (entry_calls e)) (Later kind 0) rest
over_first e kind count rest is low high room =
    let l : 1 ≤ e.kind = omega (arith, is, low) in
    let h : e.kind ≤ 7 = omega (arith, is, high) in
    let passes = and_from _ _ (le-leb 1 e.kind l) (and_from _ _ (le-leb e.kind 7 h) (enough e)) in
    over_entry First 2 kind (λ n. refl) (λ n. refl) (omega arith) e count rest (cond-true _ _ _ passes ∙ ap (λ (k : ℕ). Some (Later k 0)) is) room

over_later : (e : Entry) (kind count : ℕ) (rest : List CollectorCall) → e.kind ≡ 0 → count + length (entry_calls e) + 1 ≤ 134217728
    → judged count (Later kind 0) (entry_calls e ++ rest) ≡ judged (count + length (entry_calls e)) (Later kind 0) rest
over_later e kind count rest is room =
    over_entry (Later kind) 1 kind (λ n. refl) (λ n. refl) (omega arith) e count rest (cond-true _ _ _ (eq-eqb e.kind 0 is) ∙ cond-true _ _ _ (enough e)) room

over_entries : (es : List Entry) (kind count : ℕ) (rest : List CollectorCall) → AllByRecursion (λ e. e.kind ≡ 0) es → count + length (flat_map entry_calls es) + 1 ≤ 134217728
    → judged count (Later kind 0) (flat_map entry_calls es ++ rest) ≡ judged (count + length (flat_map entry_calls es)) (Later kind 0) rest
over_entries [] kind count rest all room =
    let a : count ≡ count + 0 = omega arith in
    ap (λ (n : ℕ). judged n (Later kind 0) rest) a
over_entries (e ∷ es) kind count rest all room =
    let len = length-append (entry_calls e) (flat_map entry_calls es) in
    let first : count + length (entry_calls e) + 1 ≤ 134217728 = omega (arith, len, room) in
    let then_ : count + length (entry_calls e) + length (flat_map entry_calls es) + 1 ≤ 134217728 = omega (arith, len, room) in
    let sum : count + length (entry_calls e) + length (flat_map entry_calls es) ≡ count + length (entry_calls e ++ flat_map entry_calls es) = omega (arith, len) in
    ap (λ (cs : List CollectorCall). judged count (Later kind 0) cs) (append_assoc (entry_calls e) (flat_map entry_calls es) rest)
    ∙ over_later e kind count (flat_map entry_calls es ++ rest) all.0 first
    ∙ over_entries es kind (count + length (entry_calls e)) rest all.1 then_
    ∙ ap (λ (n : ℕ). judged n (Later kind 0) rest) sum

over_globals : (gs : List Value) (kind count : ℕ) → count + length gs + 1 ≤ 134217728 → judged count (Later kind 0) (map value_call gs ++ Frame 255 0 0 (length gs) ∷ []) ≡ Ok kind
over_globals gs kind count room =
    let same : length gs ≡ 0 + length gs = omega arith in
    let last : count + length gs + 1 + 0 ≤ 134217728 = omega (arith, room) in
    over_values (Later kind) 1 (λ n. refl) (λ n. refl) gs count 0 (Frame 255 0 0 (length gs) ∷ []) room
    ∙ to_next (count + length gs) (Later kind (0 + length gs)) (Whole kind) (Frame 255 0 0 (length gs)) [] (cond-true _ _ _ (eq-eqb (length gs) (0 + length gs) same)) last

globals_length : (gs : List Value) → length (map value_call gs ++ Frame 255 0 0 (length gs) ∷ []) ≡ length gs + 1
globals_length gs = omega (arith, length-append (map value_call gs) (Frame 255 0 0 (length gs) ∷ []), length-map gs value_call)

over_all : (es : List Entry) (gs : List Value) (kind : ℕ) → HaveKind es kind → 1 ≤ kind → kind ≤ 7 → length (calls_of es gs) ≤ 134217728 → judged 0 (First 0) (calls_of es gs) ≡ Ok kind
over_all [] gs kind have low high few = absurd have
over_all (e ∷ es) gs kind have low high few =
    let end = map value_call gs ++ Frame 255 0 0 (length gs) ∷ [] in
    let later = flat_map entry_calls es in
    let a = length-append (entry_calls e ++ later) end in
    let b = length-append (entry_calls e) later in
    let g = globals_length gs in
    let one : 0 + length (entry_calls e) + 1 ≤ 134217728 = omega (arith, a, b, g, few) in
    let two : 0 + length (entry_calls e) + length later + 1 ≤ 134217728 = omega (arith, a, b, g, few) in
    let three : 0 + length (entry_calls e) + length later + length gs + 1 ≤ 134217728 = omega (arith, a, b, g, few) in
    ap (λ (cs : List CollectorCall). judged 0 (First 0) cs) (append_assoc (entry_calls e) later end)
    ∙ over_first e kind 0 (later ++ end) have.0 low high one
    ∙ over_entries es kind (0 + length (entry_calls e)) end have.1 two
    ∙ over_globals gs kind (0 + length (entry_calls e) + length later) three

pub accepts : (calls : List CollectorCall) (w : IsWhole calls) → judged 0 (First 0) calls ≡ Ok w.kind
accepts calls w =
    let few : length (calls_of w.entries w.globals) ≤ 134217728 = subst (λ (cs : List CollectorCall). length cs ≤ 134217728) w.calls_are w.few in
    ap (λ (cs : List CollectorCall). judged 0 (First 0) cs) w.calls_are ∙ over_all w.entries w.globals w.kind w.kinds w.kind_is.0 w.kind_is.1 few

pub one_kind : (calls : List CollectorCall) (v w : IsWhole calls) → v.kind ≡ w.kind
one_kind calls v w =
    let a = accepts calls v in
    let b = accepts calls w in
    cc

-- ---- the first offending call

pub offends : (calls : List CollectorCall) (at : ℕ) → judged 0 (First 0) calls ≡ Err at → IsFirstOffending calls at
offends calls at e = record {
  torn = λ w. let s = accepts calls w in cc;
  before = λ i below. subst (λ (n : ℕ). BeginsWhole (take n calls)) (sym (add-one i)) (judged_before 0 (First 0) [] calls at none_came e i (omega (arith, below)));
  there = λ inside b.
      let s = accepts (take (at + 1) calls ++ b.0) b.1 in
      let t : judged 0 (First 0) (take (at + 1) calls ++ b.0) ≡ Err at =
      ap (λ (n : ℕ). judged 0 (First 0) (take n calls ++ b.0)) (add-one at) ∙ judged_there 0 (First 0) calls b.0 at at e (omega arith) inside in
      cc;
  within = omega (arith, (judged_within 0 (First 0) calls at e).1);
}

none_below : (calls : List CollectorCall) (a b : ℕ) → IsFirstOffending calls a → IsFirstOffending calls b → a < b → ⊥
none_below calls a b x y less = x.there (omega (arith, less, y.within)) (y.before a less)

by_order : (calls : List CollectorCall) (a b : ℕ) → IsFirstOffending calls a → IsFirstOffending calls b → (a ≡ b) ⊎ ((a < b) ⊎ (b < a)) → a ≡ b
by_order calls a b x y (inl same) = same
by_order calls a b x y (inr (inl less)) = absurd (none_below calls a b x y less)
by_order calls a b x y (inr (inr less)) = absurd (none_below calls b a y x less)

pub one_offending : (calls : List CollectorCall) (a b : ℕ) → IsFirstOffending calls a → IsFirstOffending calls b → a ≡ b
one_offending calls a b x y = by_order calls a b x y (cases_order a b)

by_answer : (calls : List CollectorCall) (at : ℕ) (r : Result ℕ ℕ) → judged 0 (First 0) calls ≡ r → IsFirstOffending calls at → r ≡ Err at
by_answer calls at (Ok kind) e x = absurd (x.torn (accepted calls kind e).0)
by_answer calls at (Err b) e x = ap (λ (n : ℕ). Err n) (one_offending calls b at (offends calls b e) x)

pub refuses : (calls : List CollectorCall) (at : ℕ) → IsFirstOffending calls at → judged 0 (First 0) calls ≡ Err at
refuses calls at x = by_answer calls at (judged 0 (First 0) calls) refl x

by_judgement : (calls : List CollectorCall) (r : Result ℕ ℕ) → judged 0 (First 0) calls ≡ r → IsWhole calls ⊎ ((at : ℕ) × IsFirstOffending calls at)
by_judgement calls (Ok kind) is = inl (accepted calls kind is).0
by_judgement calls (Err at) is = inr (at, offends calls at is)

pub whole_or_offending : (calls : List CollectorCall) → IsWhole calls ⊎ ((at : ℕ) × IsFirstOffending calls at)
whole_or_offending calls = by_judgement calls (judged 0 (First 0) calls) refl
