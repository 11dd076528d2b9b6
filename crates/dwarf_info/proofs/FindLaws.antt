-- The entry at an offset: places that are collected unit by unit are those of the first entries, also where references are settled.
use Rattle.std.proofs.Common.{◌≡◌, ℕ, suc, ◌+◌, ◌<◌, Bool, true, false, List, [], ◌∷◌, length, drop, get_or, Option, Some, None, refl, sym, ap, subst, ◌∙◌, arith, add-zero}
use Rattle.std.proofs.Math.Seq.{drop-cons}
use Rattle.std.specs.Prelude.{◌||◌, ◌==◌, map, flat_map, find, slice_get, IfSome, option_and_then, if◌then◌else◌}
use Rattle.std.specs.Option.{option_or, is_some}
use Rattle.std.proofs.lemmas.Bool.{eqb-true}
use Rattle.std.proofs.lemmas.List.Folds.{find-append}
use Rattle.dwarf_info.specs.declared.entry.Entry.{Entry}
use Rattle.dwarf_info.specs.declared.entry.UnitAnswer.{UnitAnswer}
use Rattle.dwarf_info.specs.declared.entry.UnitAnswer.TheVariants.{Tree, Unreadable}
use Rattle.dwarf_info.specs.declared.places.EntryPlace.{EntryPlace}
use Rattle.dwarf_info.specs.Units.{entries_in}
use Rattle.dwarf_info.specs.calls.EntryPlaces.{IsEntryAt, first_at, entry_of, entry_there, place, place_in, place_among}
use Rattle.dwarf_info.specs.inner.Settling.{entry_by, answer_by, any_at}
use Rattle.dwarf_info.specs.inner.Finding.{IsTied}
use Rattle.dwarf_info.proofs.SettleLaws.{any_append}

-- ---- the first of several

pub or_none : {A : Type 0} (o : Option A) → option_or o None ≡ o
or_none None = refl
or_none (Some x) = refl

pub or_or : {A : Type 0} (a b c : Option A) → option_or (option_or a b) c ≡ option_or a (option_or b c)
or_or None b c = refl
or_or (Some x) b c = refl

some_or : (a b : Option EntryPlace) → is_some (option_or a b) ≡ (is_some a || is_some b)
some_or None b = refl
some_or (Some x) b = refl

some_tie : (p : EntryPlace) (t : Bool) → is_some (if t then Some p else None) ≡ t
some_tie p true = refl
some_tie p false = refl

-- ---- as places are collected

pub entry_more : (unit i : ℕ) (entries : List Entry) (e : Entry) (now after all : Option EntryPlace) (q : ℕ) → i < length entries → e ≡ get_or entries i e
    → after ≡ option_or now (if e.at == q then Some (place unit i) else None) → option_or now (place_in unit i (drop i entries) q) ≡ all
    → option_or after (place_in unit (i + 1) (drop (i + 1) entries) q) ≡ all
entry_more unit i entries e now after all q lt is more so_far =
    let here : Option EntryPlace = if e.at == q then Some (place unit i) else None in
    let rest = place_in unit (i + 1) (drop (i + 1) entries) q in
    let next : i + 1 ≡ suc i = omega arith in
    let parts : drop i entries ≡ e ∷ drop (i + 1) entries = drop-cons entries i e lt ∙ ap (λ (x : Entry). x ∷ drop (suc i) entries) (sym is) ∙ ap (λ n. e ∷ drop n entries) (sym next) in
    ap (λ (o : Option EntryPlace). option_or o rest) more ∙ or_or now here rest ∙ ap (λ (es : List Entry). option_or now (place_in unit i es q)) (sym parts) ∙ so_far

pub unit_more : (i : ℕ) (units : List UnitAnswer) (u : UnitAnswer) (now after all : Option EntryPlace) (q : ℕ) → i < length units → u ≡ get_or units i u
    → after ≡ option_or now (place_in i 0 (entries_in u) q) → option_or now (place_among i (drop i units) q) ≡ all
    → option_or after (place_among (i + 1) (drop (i + 1) units) q) ≡ all
unit_more i units u now after all q lt is more so_far =
    let here = place_in i 0 (entries_in u) q in
    let rest = place_among (i + 1) (drop (i + 1) units) q in
    let next : i + 1 ≡ suc i = omega arith in
    let parts : drop i units ≡ u ∷ drop (i + 1) units = drop-cons units i u lt ∙ ap (λ (x : UnitAnswer). x ∷ drop (suc i) units) (sym is) ∙ ap (λ n. u ∷ drop n units) (sym next) in
    ap (λ (o : Option EntryPlace). option_or o rest) more ∙ or_or now here rest ∙ ap (λ (us : List UnitAnswer). option_or now (place_among i us q)) (sym parts) ∙ so_far

-- ---- what references meet

in_any : (unit i : ℕ) (es : List Entry) (q : ℕ) → is_some (place_in unit i es q) ≡ any_at q es
in_any unit i [] q = refl
in_any unit i (e ∷ es) q =
    some_or (if e.at == q then Some (place unit i) else None) (place_in unit (i + 1) es q)
    ∙ ap (λ (b : Bool). b || is_some (place_in unit (i + 1) es q)) (some_tie (place unit i) (e.at == q))
    ∙ ap (λ (b : Bool). (e.at == q) || b) (in_any unit (i + 1) es q)

pub among_any : (i : ℕ) (us : List UnitAnswer) (q : ℕ) → is_some (place_among i us q) ≡ any_at q (flat_map entries_in us)
among_any i [] q = refl
among_any i (u ∷ us) q =
    some_or (place_in i 0 (entries_in u) q) (place_among (i + 1) us q)
    ∙ ap (λ (b : Bool). b || is_some (place_among (i + 1) us q)) (in_any i 0 (entries_in u) q)
    ∙ ap (λ (b : Bool). any_at q (entries_in u) || b) (among_any (i + 1) us q)
    ∙ sym (any_append q (entries_in u) (flat_map entries_in us))

-- ---- settled units

settled_in : (m : ℕ → Bool) (unit i : ℕ) (es : List Entry) (q : ℕ) → place_in unit i (map (entry_by m) es) q ≡ place_in unit i es q
settled_in m unit i [] q = refl
settled_in m unit i (e ∷ es) q = ap (option_or (if e.at == q then Some (place unit i) else None)) (settled_in m unit (i + 1) es q)

settled_one : (m : ℕ → Bool) (unit : ℕ) (u : UnitAnswer) (q : ℕ) → place_in unit 0 (entries_in (answer_by m u)) q ≡ place_in unit 0 (entries_in u) q
settled_one m unit (Tree u) q = settled_in m unit 0 u.entries q
settled_one m unit (Unreadable section at) q = refl

pub settled_among : (m : ℕ → Bool) (i : ℕ) (us : List UnitAnswer) (q : ℕ) → place_among i (map (answer_by m) us) q ≡ place_among i us q
settled_among m i [] q = refl
settled_among m i (u ∷ us) q =
    ap (λ (o : Option EntryPlace). option_or o (place_among (i + 1) (map (answer_by m) us) q)) (settled_one m i u q)
    ∙ ap (option_or (place_in i 0 (entries_in u) q)) (settled_among m (i + 1) us q)

-- ---- the entry at a place

-- the second of two answers, where the first has none
tied_or : (units : List UnitAnswer) (a b : Option EntryPlace) (x y : Option Entry) → IsTied units a x → IsTied units b y → IsTied units (option_or a b) (option_or x y)
tied_or units (Some p) b (Some e) y s t = s
tied_or units (Some p) b None y s t = absurd s
tied_or units None b (Some e) y s t = absurd s
tied_or units None b None y s t = t

one_or : (e : Entry) (o : Option Entry) (t : Bool) → (if t then Some e else o) ≡ option_or (if t then Some e else None) o
one_or e o true = refl
one_or e o false = refl

one_tied : (units : List UnitAnswer) (p : EntryPlace) (e : Entry) (t : Bool) → entry_there units p ≡ Some e → IsTied units (if t then Some p else None) (if t then Some e else None)
one_tied units p e true there = there
one_tied units p e false there = tt

-- What stands at each number of these entries is the entry there.
in_tied : (units : List UnitAnswer) (unit i : ℕ) (es : List Entry) (q : ℕ) → ((k : ℕ) (e : Entry) → slice_get es k ≡ Some e → entry_there units (place unit (i + k)) ≡ Some e)
    → IsTied units (place_in unit i es q) (find (λ e. e.at == q) es)
in_tied units unit i [] q there = tt
in_tied units unit i (e ∷ es) q there =
    let here : entry_there units (place unit i) ≡ Some e = subst (λ n. entry_there units (place unit n) ≡ Some e) (add-zero i) (there 0 e refl) in
    let behind : (k : ℕ) (x : Entry) → slice_get es k ≡ Some x → entry_there units (place unit (i + 1 + k)) ≡ Some x =
    λ k x got. (let shift : i + suc k ≡ i + 1 + k = omega arith in subst (λ n. entry_there units (place unit n) ≡ Some x) shift (there (suc k) x got)) in
    let rest : IsTied units (place_in unit (i + 1) es q) (find (λ e. e.at == q) es) = in_tied units unit (i + 1) es q behind in
    let both = tied_or units (if e.at == q then Some (place unit i) else None) (place_in unit (i + 1) es q) (if e.at == q then Some e else None) (find (λ e. e.at == q) es) (one_tied units (place unit i) e (e.at == q) here) rest in
    subst (IsTied units (place_in unit i (e ∷ es) q)) (sym (one_or e (find (λ e. e.at == q) es) (e.at == q))) both

unit_tied : (units : List UnitAnswer) (i : ℕ) (u : UnitAnswer) (q : ℕ) → slice_get units i ≡ Some u → IsTied units (place_in i 0 (entries_in u) q) (find (λ e. e.at == q) (entries_in u))
unit_tied units i u q there = in_tied units i 0 (entries_in u) q (λ k e got.
    let at : 0 + k ≡ k = omega arith in
    ap (λ n. entry_there units (place i n)) at ∙ ap (λ (o : Option UnitAnswer). entry_of o k) there ∙ got)

among_tied : (units : List UnitAnswer) (i : ℕ) (us : List UnitAnswer) (q : ℕ) → ((k : ℕ) (u : UnitAnswer) → slice_get us k ≡ Some u → slice_get units (i + k) ≡ Some u)
    → IsTied units (place_among i us q) (first_at q us)
among_tied units i [] q there = tt
among_tied units i (u ∷ us) q there =
    let here : slice_get units i ≡ Some u = subst (λ n. slice_get units n ≡ Some u) (add-zero i) (there 0 u refl) in
    let behind : (k : ℕ) (x : UnitAnswer) → slice_get us k ≡ Some x → slice_get units (i + 1 + k) ≡ Some x =
    λ k x got. (let shift : i + suc k ≡ i + 1 + k = omega arith in subst (λ n. slice_get units n ≡ Some x) shift (there (suc k) x got)) in
    let rest : IsTied units (place_among (i + 1) us q) (first_at q us) = among_tied units (i + 1) us q behind in
    let both = tied_or units (place_in i 0 (entries_in u) q) (place_among (i + 1) us q) (find (λ e. e.at == q) (entries_in u)) (first_at q us) (unit_tied units i u q here) rest in
    subst (IsTied units (place_among i (u ∷ us) q)) (sym (find-append (λ e. e.at == q) (entries_in u) (flat_map entries_in us))) both

-- The place of an offset is that of the first entry which has it.
all_tied : (units : List UnitAnswer) (q : ℕ) → IsTied units (place_among 0 units q) (first_at q units)
all_tied units q = among_tied units 0 units q (λ k u got. (let at : 0 + k ≡ k = omega arith in ap (slice_get units) at ∙ got))

first_by : (units : List UnitAnswer) (o : Option EntryPlace) (x : Option Entry) → IsTied units o x → option_and_then (entry_there units) o ≡ x
first_by units (Some p) (Some e) t = t
first_by units (Some p) None t = absurd t
first_by units None (Some e) t = absurd t
first_by units None None t = refl

placed_first : (units : List UnitAnswer) (places : ℕ → Option EntryPlace) (q : ℕ) → places q ≡ place_among 0 units q → option_and_then (entry_there units) (places q) ≡ first_at q units
placed_first units places q is = ap (option_and_then (entry_there units)) is ∙ first_by units (place_among 0 units q) (first_at q units) (all_tied units q)

-- ---- an entry stands there

found_by : (q : ℕ) (x : Entry) (o : Option Entry) (e : Entry) → (o ≡ Some e → e.at ≡ q) → (t : Bool) → (x.at == q) ≡ t → (if t then Some x else o) ≡ Some e → e.at ≡ q
found_by q x o e behind true tie here =
    let same : x ≡ e = (let some : Some x ≡ Some e = here in cc) in
    ap (λ (y : Entry). y.at) (sym same) ∙ eqb-true x.at q tie
found_by q x o e behind false tie here = behind here

found_entry : (q : ℕ) (es : List Entry) (e : Entry) → find (λ e. e.at == q) es ≡ Some e → e.at ≡ q
found_entry q [] e got = absurd cc
found_entry q (x ∷ xs) e got = found_by q x (find (λ e. e.at == q) xs) e (found_entry q xs e) (x.at == q) refl got

stands_by : (units : List UnitAnswer) (p : EntryPlace) (e : Entry) (q : ℕ) (o : Option UnitAnswer) → slice_get units p.unit ≡ o → entry_of o p.entry ≡ Some e → e.at ≡ q → IsEntryAt units q p
stands_by units p e q (Some (Tree u)) there got at = (u, e, there, got, at)
stands_by units p e q (Some (Unreadable section o)) there got at = absurd cc
stands_by units p e q None there got at = absurd cc

found_by_tie : (units : List UnitAnswer) (q : ℕ) (o : Option EntryPlace) (x : Option Entry) → first_at q units ≡ x → IsTied units o x → IfSome o (IsEntryAt units q)
found_by_tie units q (Some p) (Some e) is t = stands_by units p e q (slice_get units p.unit) refl t (found_entry q (flat_map entries_in units) e is)
found_by_tie units q (Some p) None is t = absurd t
found_by_tie units q None x is t = tt

placed_found : (units : List UnitAnswer) (places : ℕ → Option EntryPlace) (q : ℕ) → places q ≡ place_among 0 units q → IfSome (places q) (IsEntryAt units q)
placed_found units places q is = subst (λ (o : Option EntryPlace). IfSome o (IsEntryAt units q)) (sym is) (found_by_tie units q (place_among 0 units q) (first_at q units) refl (all_tied units q))

-- ---- the answer of a look-up

pub found_here : (units now : List UnitAnswer) (places : ℕ → Option EntryPlace) (q : ℕ) (o : Option EntryPlace) → units ≡ now → o ≡ places q → places q ≡ place_among 0 units q
    → IfSome o (IsEntryAt now q)
found_here units now places q o same is at =
    let there : IfSome o (IsEntryAt units q) = subst (λ (x : Option EntryPlace). IfSome x (IsEntryAt units q)) (sym is) (placed_found units places q at) in
    subst (λ (us : List UnitAnswer). IfSome o (IsEntryAt us q)) same there

pub first_here : (units now : List UnitAnswer) (places : ℕ → Option EntryPlace) (q : ℕ) (o : Option EntryPlace) → units ≡ now → o ≡ places q → places q ≡ place_among 0 units q
    → option_and_then (entry_there now) o ≡ first_at q now
first_here units now places q o same is at =
    let there : option_and_then (entry_there units) o ≡ first_at q units = ap (option_and_then (entry_there units)) is ∙ placed_first units places q at in
    subst (λ (us : List UnitAnswer). option_and_then (entry_there us) o ≡ first_at q us) same there

pub place_here : (units now : List UnitAnswer) (places : ℕ → Option EntryPlace) (q : ℕ) (o : Option EntryPlace) → units ≡ now → o ≡ places q → places q ≡ place_among 0 units q
    → o ≡ place_among 0 now q
place_here units now places q o same is at = is ∙ at ∙ ap (λ (us : List UnitAnswer). place_among 0 us q) same
