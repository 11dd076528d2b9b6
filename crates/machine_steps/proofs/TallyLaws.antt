-- One more step in the counts.
use Rattle.std.proofs.Common.{append_assoc, lt-ltb, ◌≡◌, ℕ, zero, suc, ◌+◌, ◌-◌, ◌^◌, ◌<◌, ◌≤◌, Bool, true, false, cond, List, [], ◌∷◌, ◌++◌, length, map, replicate, drop, length-append, Option, Some, None, refl, sym, ap, subst, ◌∙◌, arith}
use Rattle.std.specs.Prelude.{count_by, min, nat_lt, slice_get, slice_index_or, slice_set, option_map}
use Rattle.std.proofs.Math.Nat.{min-eq_left}
use Rattle.std.proofs.lemmas.List.{append-nil}
use Rattle.std.proofs.lemmas.List.Sums.{sum_by-cons}
use Rattle.wasm_syntax.specs.declared.instruction.Op.{Op}
use Rattle.wasm_syntax.specs.declared.parts.Body.{Body}
use Rattle.wasm_syntax.specs.declared.module.ModuleParts.{ModuleParts as Module}
use Rattle.wasm_syntax.specs.Module.{option_then}
use Rattle.machine_steps.specs.Places.{Place, flat_place}
use Rattle.machine_steps.specs.calls.Tallies.{Counts, Fits, body_sum, bodies_sum, sum_where, Counted}
use Rattle.machine_steps.specs.inner.Cells.{more, cells_more, cells_run, counts_more, counts_run, no_cells}
use Rattle.machine_steps.specs.calls.Watches.{places_from}

-- ---- counts of a list

abbrev one_if : Bool → ℕ
one_if b = cond b 1 0

count_one : {X : Type 0} (p : X → Bool) (x : X) (xs : List X) → count_by p (x ∷ xs) ≡ one_if (p x) + count_by p xs
count_one p x xs = sum_by-cons (λ y. cond (p y) 1 0) x xs

count_push : {X : Type 0} (p : X → Bool) (xs : List X) (x : X) → count_by p (xs ++ x ∷ []) ≡ count_by p xs + one_if (p x)
count_push p [] x = omega (arith, count_one p x [])
count_push p (y ∷ ys) x = omega (arith, count_one p y (ys ++ x ∷ []), count_one p y ys, count_push p ys x)

pub count_all : {X : Type 0} (xs : List X) → count_by (λ _. true) xs ≡ length xs
count_all [] = refl
count_all (x ∷ xs) = omega (arith, count_one (λ _. true) x xs, count_all xs)

-- ---- a cell

more_is : (n : ℕ) → n + 1 < 2 ^ 64 → more n ≡ n + 1
more_is n lt = let le : n + 1 ≤ 2 ^ 64 - 1 = omega (arith, lt) in min-eq_left le

-- writing one more into a cell
pub cells_set : (ns : List ℕ) (i : ℕ) → i < length ns → slice_set ns i (min (slice_index_or ns i 0 + 1) (2 ^ 64 - 1)) ≡ cells_more ns i
cells_set [] i lt = absurd (omega (arith, lt))
cells_set (n ∷ ns) zero lt = refl
cells_set (n ∷ ns) (suc i) lt = ap (λ l. n ∷ l) (cells_set ns i (omega (arith, lt)))

pub cells_length : (ns : List ℕ) (i : ℕ) → length (cells_more ns i) ≡ length ns
cells_length [] i = refl
cells_length (n ∷ ns) zero = refl
cells_length (n ∷ ns) (suc i) = ap suc (cells_length ns i)

pub cells_short : (ns : List ℕ) (i : ℕ) → length ns ≤ i → cells_more ns i ≡ ns
cells_short [] i le = refl
cells_short (n ∷ ns) zero le = absurd (omega (arith, le))
cells_short (n ∷ ns) (suc i) le = ap (λ l. n ∷ l) (cells_short ns i (omega (arith, le)))

-- in a list whose elements are seen as cells
pub counts_set : {V : Type 0} (view : V → List ℕ) (vs : List V) (f i : ℕ) (x y : V) → x ≡ slice_index_or vs f x → view y ≡ cells_more (view x) i → map view (slice_set vs f y) ≡ counts_more (map view vs) f i
counts_set view [] zero i x y there e = refl
counts_set view [] (suc f) i x y there e = refl
counts_set view (v ∷ vs) zero i x y there e = ap (λ c. c ∷ map view vs) (e ∙ ap (λ u. cells_more (view u) i) there)
counts_set view (v ∷ vs) (suc f) i x y there e = ap (λ l. view v ∷ l) (counts_set view vs f i x y there e)

pub counts_past : {V : Type 0} (view : V → List ℕ) (vs : List V) (f i : ℕ) → length vs ≤ f → counts_more (map view vs) f i ≡ map view vs
counts_past view [] f i past = refl
counts_past view (v ∷ vs) zero i past = absurd (omega (arith, past))
counts_past view (v ∷ vs) (suc f) i past = ap (λ l. view v ∷ l) (counts_past view vs f i (omega (arith, past)))

-- ---- a run of cells

pub run_length : (ns : List ℕ) (i n : ℕ) → length (cells_run ns i n) ≡ length ns
run_length ns i zero = refl
run_length ns i (suc n) = cells_length (cells_run ns i n) (i + n) ∙ run_length ns i n

first_run : (c : List ℕ) (cs : List (List ℕ)) (i n : ℕ) → counts_run (c ∷ cs) zero i n ≡ cells_run c i n ∷ cs
first_run c cs i zero = refl
first_run c cs i (suc n) = ap (λ l. counts_more l zero (i + n)) (first_run c cs i n)

later_run : (c : List ℕ) (cs : List (List ℕ)) (f i n : ℕ) → counts_run (c ∷ cs) (suc f) i n ≡ c ∷ counts_run cs f i n
later_run c cs f i zero = refl
later_run c cs f i (suc n) = ap (λ l. counts_more l (suc f) (i + n)) (later_run c cs f i n)

no_run : (f i n : ℕ) → counts_run [] f i n ≡ []
no_run f i zero = refl
no_run f i (suc n) = ap (λ l. counts_more l f (i + n)) (no_run f i n)

pub counts_run_set : {V : Type 0} (view : V → List ℕ) (vs : List V) (f i n : ℕ) (x y : V) → x ≡ slice_index_or vs f x → view y ≡ cells_run (view x) i n → map view (slice_set vs f y) ≡ counts_run (map view vs) f i n
counts_run_set view [] zero i n x y there e = sym (no_run zero i n)
counts_run_set view [] (suc f) i n x y there e = sym (no_run (suc f) i n)
counts_run_set view (v ∷ vs) zero i n x y there e = ap (λ c. c ∷ map view vs) (e ∙ ap (λ u. cells_run (view u) i n) there) ∙ sym (first_run (view v) (map view vs) i n)
counts_run_set view (v ∷ vs) (suc f) i n x y there e = ap (λ l. view v ∷ l) (counts_run_set view vs f i n x y there e) ∙ sym (later_run (view v) (map view vs) f i n)

pub counts_run_past : {V : Type 0} (view : V → List ℕ) (vs : List V) (f i n : ℕ) → length vs ≤ f → counts_run (map view vs) f i n ≡ map view vs
counts_run_past view vs f i zero past = refl
counts_run_past view vs f i (suc n) past = ap (λ l. counts_more l f (i + n)) (counts_run_past view vs f i n past) ∙ counts_past view vs f (i + n) past

same_lengths : (cs : List (List ℕ)) (f i : ℕ) → length (slice_index_or (counts_more cs f i) f []) ≡ length (slice_index_or cs f [])
same_lengths [] f i = refl
same_lengths (c ∷ cs) zero i = cells_length c i
same_lengths (c ∷ cs) (suc f) i = same_lengths cs f i

run_lengths : (cs : List (List ℕ)) (f i n : ℕ) → length (slice_index_or (counts_run cs f i n) f []) ≡ length (slice_index_or cs f [])
run_lengths cs f i zero = refl
run_lengths cs f i (suc n) = same_lengths (counts_run cs f i n) f (i + n) ∙ run_lengths cs f i n

one_more : (b : Bool) (n rest : ℕ) → n + 1 < 2 ^ 64 → cond b (more n) 0 + rest ≡ cond b n 0 + rest + one_if b
one_more true n rest lt = omega (arith, more_is n lt)
one_more false n rest lt = omega arith

body_more : (p : Option Place → Bool) (f : ℕ) (ops : List Op) (ns : List ℕ) (i : ℕ) (op : Op) → slice_get ops i ≡ Some op → length ns ≡ length ops → body_sum (λ _. true) f ops ns + 1 < 2 ^ 64
    → body_sum p f ops (cells_more ns i) ≡ body_sum p f ops ns + one_if (p (Some (record { function = f; offset = op.at })))
body_more p f [] ns i op e fits lt = absurd (cc)
body_more p f (o ∷ ops) [] i op e fits lt = absurd (omega (arith, fits))
body_more p f (o ∷ ops) (n ∷ ns) zero op e fits lt =
    let same : o ≡ op = cc in
    one_more (p (Some (record { function = f; offset = o.at }))) n (body_sum p f ops ns) (omega (arith, lt))
    ∙ ap (λ (q : Op). body_sum p f (o ∷ ops) (n ∷ ns) + one_if (p (Some (record { function = f; offset = q.at })))) same
body_more p f (o ∷ ops) (n ∷ ns) (suc i) op e fits lt = omega (arith, body_more p f ops ns i op e (omega (arith, fits)) (omega (arith, lt)))

-- ---- the cell of a function

bodies_more : (p : Option Place → Bool) (first : ℕ) (bs : List Body) (cs : List (List ℕ)) (f i : ℕ) (b : Body) (op : Op) → slice_get bs f ≡ Some b → slice_get b.ops i ≡ Some op → Fits bs cs → bodies_sum (λ _. true) first bs cs + 1 < 2 ^ 64
    → bodies_sum p first bs (counts_more cs f i) ≡ bodies_sum p first bs cs + one_if (p (Some (record { function = first + f; offset = op.at })))
bodies_more p first [] cs f i b op e o fits lt = absurd (cc)
bodies_more p first (a ∷ bs) [] f i b op e o fits lt = absurd fits
bodies_more p first (a ∷ bs) (c ∷ cs) zero i b op e o fits lt =
    let same : a ≡ b = cc in
    let z : first ≡ first + 0 = omega arith in
    let there : slice_get a.ops i ≡ Some op = ap (λ (q : Body). slice_get q.ops i) same ∙ o in
    let one = body_more p first a.ops c i op there fits.0 (omega (arith, lt)) in
    ap (λ n. n + bodies_sum p (suc first) bs cs) one
    ∙ (let q : body_sum p first a.ops c + one_if (p (Some (record { function = first; offset = op.at }))) + bodies_sum p (suc first) bs cs ≡ body_sum p first a.ops c + bodies_sum p (suc first) bs cs + one_if (p (Some (record { function = first; offset = op.at }))) = omega arith in q)
    ∙ ap (λ k. body_sum p first a.ops c + bodies_sum p (suc first) bs cs + one_if (p (Some (record { function = k; offset = op.at })))) z
bodies_more p first (a ∷ bs) (c ∷ cs) (suc f) i b op e o fits lt =
    let on : suc first + f ≡ first + suc f = omega arith in
    let rest = bodies_more p (suc first) bs cs f i b op e o fits.1 (omega (arith, lt)) in
    ap (λ n. body_sum p first a.ops c + n) rest
    ∙ (let q : body_sum p first a.ops c + (bodies_sum p (suc first) bs cs + one_if (p (Some (record { function = suc first + f; offset = op.at })))) ≡ body_sum p first a.ops c + bodies_sum p (suc first) bs cs + one_if (p (Some (record { function = suc first + f; offset = op.at }))) = omega arith in q)
    ∙ ap (λ k. body_sum p first a.ops c + bodies_sum p (suc first) bs cs + one_if (p (Some (record { function = k; offset = op.at })))) on

fits_more : (bs : List Body) (cs : List (List ℕ)) (f i : ℕ) → Fits bs cs → Fits bs (counts_more cs f i)
fits_more [] [] f i h = tt
fits_more [] (c ∷ cs) f i h = absurd h
fits_more (b ∷ bs) [] f i h = absurd h
fits_more (b ∷ bs) (c ∷ cs) zero i h = (cells_length c i ∙ h.0, h.1)
fits_more (b ∷ bs) (c ∷ cs) (suc f) i h = (h.0, fits_more bs cs f i h.1)

-- ---- which instruction it is

record Found (bs : List Body) (f i : ℕ) : Type 0 where
  body : Body
  body_is : slice_get bs f ≡ Some body
  op : Op
  op_is : slice_get body.ops i ≡ Some op

op_found : (ops : List Op) (i n : ℕ) → n ≡ length ops → nat_lt i n ≡ true → (op : Op) × (slice_get ops i ≡ Some op)
op_found [] i n fits e = absurd (grind (arith, e, fits))
op_found (o ∷ ops) zero n fits e = (o, refl)
op_found (o ∷ ops) (suc i) n fits e = op_found ops i (length ops) refl (grind (arith, e, fits))

op_lost : (ops : List Op) (i n : ℕ) → n ≡ length ops → nat_lt i n ≡ false → slice_get ops i ≡ None
op_lost [] i n fits e = refl
op_lost (o ∷ ops) zero n fits e = absurd (grind (arith, e, fits))
op_lost (o ∷ ops) (suc i) n fits e = op_lost ops i (length ops) refl (grind (arith, e, fits))

found : (bs : List Body) (cs : List (List ℕ)) (f i : ℕ) → Fits bs cs → nat_lt i (length (slice_index_or cs f [])) ≡ true → Found bs f i
found [] [] f i h e = absurd (grind (arith, e))
found [] (c ∷ cs) f i h e = absurd h
found (b ∷ bs) [] f i h e = absurd h
found (b ∷ bs) (c ∷ cs) zero i h e = let o = op_found b.ops i (length c) h.0 e in record { body = b; body_is = refl; op = o.0; op_is = o.1 }
found (b ∷ bs) (c ∷ cs) (suc f) i h e = let r = found bs cs f i h.1 e in record { body = r.body; body_is = r.body_is; op = r.op; op_is = r.op_is }

lost : (first : ℕ) (bs : List Body) (cs : List (List ℕ)) (f i : ℕ) → Fits bs cs → nat_lt i (length (slice_index_or cs f [])) ≡ false
    → ◌≡◌ {A = Option Place} (option_then (slice_get bs f) (λ (b : Body). option_map (λ (o : Op). record { function = first; offset = o.at }) (slice_get b.ops i))) None
lost first [] [] f i h e = refl
lost first [] (c ∷ cs) f i h e = absurd h
lost first (b ∷ bs) [] f i h e = absurd h
lost first (b ∷ bs) (c ∷ cs) zero i h e = ap (λ (o : Option Op). option_map (λ (o : Op). record { function = first; offset = o.at }) o) (op_lost b.ops i (length c) h.0 e)
lost first (b ∷ bs) (c ∷ cs) (suc f) i h e = lost first bs cs f i h.1 e

-- ---- one step more

module _ (m : Module) (t : Counts) (seen : List (Option Place)) (h : Counted m t seen) where
  fewer : (at : Option Place) → length (seen ++ at ∷ []) < 2 ^ 64 → length seen + 1 < 2 ^ 64
  fewer at few = omega (arith, few, length-append seen (at ∷ []))

  -- at an instruction
  pub counted_in : (f i : ℕ) → nat_lt i (length (slice_index_or t.cells f [])) ≡ true → Counted m (record { cells = counts_more t.cells f i; elsewhere = t.elsewhere }) (seen ++ flat_place m f i ∷ [])
  counted_in f i e =
      let r = found m.bodies t.cells f i h.fits e in
      let place : flat_place m f i ≡ Some (record { function = length m.imports + f; offset = r.op.at }) =
      ap (λ o. option_then o (λ (b : Body). option_map (λ (o : Op). record { function = length m.imports + f; offset = o.at }) (slice_get b.ops i))) r.body_is
      ∙ ap (λ (o : Option Op). option_map (λ (o : Op). record { function = length m.imports + f; offset = o.at }) o) r.op_is
      in
      record {
        fits = fits_more m.bodies t.cells f i h.fits;
        sums = λ few p.
            let less : length seen + 1 < 2 ^ 64 = fewer (flat_place m f i) few in
            let within : length seen < 2 ^ 64 = omega (arith, less) in
            let all : sum_where (λ _. true) m t ≡ length seen = h.sums within (λ _. true) ∙ count_all seen in
            let room : bodies_sum (λ _. true) (length m.imports) m.bodies t.cells + 1 < 2 ^ 64 = omega (arith, less, all) in
            let one = bodies_more p (length m.imports) m.bodies t.cells f i r.body r.op r.body_is r.op_is h.fits room in
            let b = one_if (p (Some (record { function = length m.imports + f; offset = r.op.at }))) in
            let old : bodies_sum p (length m.imports) m.bodies t.cells + cond (p None) t.elsewhere 0 ≡ count_by p seen = h.sums within p in
            let last : one_if (p (Some (record { function = length m.imports + f; offset = r.op.at }))) ≡ one_if (p (flat_place m f i)) = ap (λ q. one_if (p q)) (sym place) in
            let pushed = count_push p seen (flat_place m f i) in
            omega (arith, one, old, last, pushed);
      }

  -- at none
  counted_more : (at : Option Place) → at ≡ None → Counted m (record { cells = t.cells; elsewhere = more t.elsewhere }) (seen ++ at ∷ [])
  counted_more at none = record {
    fits = h.fits;
    sums = λ few p.
        let less : length seen + 1 < 2 ^ 64 = fewer at few in
        let within : length seen < 2 ^ 64 = omega (arith, less) in
        let all : bodies_sum (λ _. true) (length m.imports) m.bodies t.cells + t.elsewhere ≡ length seen = h.sums within (λ _. true) ∙ count_all seen in
        let room : t.elsewhere + 1 < 2 ^ 64 = omega (arith, less, all) in
        let old : bodies_sum p (length m.imports) m.bodies t.cells + cond (p None) t.elsewhere 0 ≡ count_by p seen = h.sums within p in
        let last : one_if (p None) ≡ one_if (p at) = ap (λ q. one_if (p q)) (sym none) in
        let pushed = count_push p seen at in
        let one = one_more (p None) t.elsewhere 0 room in
        omega (arith, one, old, last, pushed);
  }

  pub counted_out : (f i : ℕ) → nat_lt i (length (slice_index_or t.cells f [])) ≡ false → Counted m (record { cells = t.cells; elsewhere = more t.elsewhere }) (seen ++ flat_place m f i ∷ [])
  counted_out f i e = counted_more (flat_place m f i) (lost (length m.imports + f) m.bodies t.cells f i h.fits e)

  pub counted_none : Counted m (record { cells = t.cells; elsewhere = more t.elsewhere }) (seen ++ None ∷ [])
  counted_none = counted_more None refl

-- ---- as many steps more, at the instructions of a function from one on

pub counted_run : (m : Module) (t : Counts) (seen : List (Option Place)) → Counted m t seen → (f i n : ℕ) → i + n ≤ length (slice_index_or t.cells f []) → Counted m (record { cells = counts_run t.cells f i n; elsewhere = t.elsewhere }) (seen ++ places_from m f i n)
counted_run m t seen h f i zero le = subst (Counted m t) (sym (append-nil seen)) h
counted_run m t seen h f i (suc n) le =
    let before = counted_run m t seen h f i n (omega (arith, le)) in
    let same = run_lengths t.cells f i n in
    let lt : i + n < length (slice_index_or (counts_run t.cells f i n) f []) = omega (arith, le, same) in
    subst (Counted m (record { cells = counts_run t.cells f i (suc n); elsewhere = t.elsewhere })) (append_assoc seen (places_from m f i n) (flat_place m f (i + n) ∷ []))
    (counted_in m (record { cells = counts_run t.cells f i n; elsewhere = t.elsewhere }) (seen ++ places_from m f i n) before f (i + n) (lt-ltb (i + n) (length (slice_index_or (counts_run t.cells f i n) f [])) lt))

pub counted_next : (m : Module) (t u : Counts) (seen : List (Option Place)) (f i n j : ℕ) → j ≡ i + n → (Counted m t (seen ++ places_from m f i n) → Counted m u ((seen ++ places_from m f i n) ++ flat_place m f j ∷ []))
    → Counted m t (seen ++ places_from m f i n) → Counted m u (seen ++ places_from m f i (suc n))
counted_next m t u seen f i n j e step h = subst (Counted m u) (append_assoc seen (places_from m f i n) (flat_place m f (i + n) ∷ [])) (subst (λ k. Counted m u ((seen ++ places_from m f i n) ++ flat_place m f k ∷ [])) e (step h))

-- ---- no step yet

no_length : (n : ℕ) → length {A = ℕ} (replicate n 0) ≡ n
no_length zero = refl
no_length (suc n) = ap suc (no_length n)

no_fit : (bs : List Body) → Fits bs (no_cells bs)
no_fit [] = tt
no_fit (b ∷ bs) = (no_length (length b.ops), no_fit bs)

no_body : (p : Option Place → Bool) (f : ℕ) (ops : List Op) → body_sum p f ops (replicate (length ops) 0) ≡ 0
no_body p f [] = refl
no_body p f (o ∷ ops) = by (p (Some (record { function = f; offset = o.at }))) (no_body p f ops) where
  by : (b : Bool) → body_sum p f ops (replicate (length ops) 0) ≡ 0 → cond b 0 0 + body_sum p f ops (replicate (length ops) 0) ≡ 0
  by true h = omega (arith, h)
  by false h = omega (arith, h)

no_sum : (p : Option Place → Bool) (f : ℕ) (bs : List Body) → bodies_sum p f bs (no_cells bs) ≡ 0
no_sum p f [] = refl
no_sum p f (b ∷ bs) = omega (arith, no_body p f b.ops, no_sum p (suc f) bs)

pub counted_first : (m : Module) → Counted m (record { cells = no_cells m.bodies; elsewhere = 0 }) []
counted_first m = record {
  fits = no_fit m.bodies;
  sums = λ few p. by p (p None) (no_sum p (length m.imports) m.bodies);
} where
  by : (p : Option Place → Bool) (b : Bool) → bodies_sum p (length m.imports) m.bodies (no_cells m.bodies) ≡ 0 → bodies_sum p (length m.imports) m.bodies (no_cells m.bodies) + cond b 0 0 ≡ 0
  by p true h = omega (arith, h)
  by p false h = omega (arith, h)

pub counted_new : (m : Module) (cells : List (List ℕ)) → cells ≡ no_cells m.bodies → Counted m (record { cells = cells; elsewhere = 0 }) []
counted_new m cells e = subst (λ cs. Counted m (record { cells = cs; elsewhere = 0 }) []) (sym e) (counted_first m)

pub cells_done : (cells : List (List ℕ)) (bs : List Body) (i : ℕ) → length bs ≤ i → cells ++ no_cells (drop i bs) ≡ no_cells bs → cells ≡ no_cells bs
cells_done cells bs i past e = sym (append-nil cells) ∙ ap (λ rest. cells ++ rest) (sym (none_left bs i past)) ∙ e where
  none_left : (bs : List Body) (i : ℕ) → length bs ≤ i → no_cells (drop i bs) ≡ []
  none_left [] zero past = refl
  none_left [] (suc i) past = refl
  none_left (b ∷ bs) zero past = absurd (omega (arith, past))
  none_left (b ∷ bs) (suc i) past = none_left bs i (omega (arith, past))
