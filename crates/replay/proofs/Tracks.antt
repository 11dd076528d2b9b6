-- Checkpoints.
use Rattle.std.proofs.Common.{◌≡◌, ◌⊎◌, ℕ, zero, suc, ◌+◌, ◌*◌, ◌/◌, ◌<◌, ◌≤◌, List, [], ◌∷◌, ◌++◌, length, get_or, slice_get, inl, inr, refl, sym, ap, subst, ◌∙◌, arith}
use Rattle.std.specs.Prelude.{max, Some, None}
use Rattle.std.specs.List.{remove}
use Rattle.std.proofs.Math.Nat.{mul-le-mul_right, div-mul-le_self, lt-div-mul-add}
use Rattle.std.proofs.lemmas.Bool.{cases_lt}
use Rattle.std.proofs.lemmas.List.{length-append}
use Rattle.std.proofs.lemmas.List.Edits.{length-remove, get_or-remove_below, get_or-remove_above}
use Rattle.std.proofs.lemmas.Option.{slice_get_cases, slice_get_within, slice_get_read, get_or_from_slice_get}
use Rattle.machine_hosted.specs.declared.answer.RunEnd.{RunEnd}
use Rattle.wasm_machine.specs.calls.Instances.{State, copied}
use Rattle.replay.specs.declared.point.Point.{Point}
use Rattle.replay.specs.Replays.{Recording}
use Rattle.replay.specs.inner.Reached.{Reached}
use Rattle.replay.specs.inner.Tracks.{WaitsAt, ReachedAt, place, Spaced, widest, Due, Fresh, Covers, Nearest}
use Rattle.replay.proofs.Advances.{all_made}
use Rattle.pm_text.proofs.Lists.{some_is, get_front, get_last}

-- a copy came as far
pub copy_reached : (x : Recording) (n next : ℕ) (answer : RunEnd) (s : State) → Reached x n next answer s → Reached x n next answer (copied s)
copy_reached x n next answer s r = record {
  whole = r.whole;
  starts = r.starts;
  of_module = r.of_module;
  within = r.within;
  ended = r.ended;
  admits = r.admits;
  made = r.made;
  entry = r.entry;
  exported = r.exported;
  end = r.end;
  end_is = r.end_is;
  last = r.last;
  came = λ p is. let c = r.came p is in record {
    course = c.course;
    start = c.start;
    before = c.before;
    fuel = c.fuel;
    steps = c.steps;
    given = c.given;
    stopped = c.stopped;
    used_up = c.used_up;
    came = c.came;
  };
}

pub copy_stands : (x : Recording) (n : ℕ) (answer : RunEnd) (q copy : Point) → ReachedAt x n answer q → copy ≡ record { next = q.next; instance = copied q.instance } → ReachedAt x n answer copy
copy_stands x n answer q copy r same =
    let c : ReachedAt x n answer (record { next = q.next; instance = copied q.instance }) = copy_reached x n q.next answer q.instance r in
    subst (λ (b : Point). ReachedAt x n answer b) (sym same) c

-- as many steps are made as it is behind
pub waits_there : (x : Recording) (n : ℕ) (q : Point) → WaitsAt x n q → WaitsAt x q.instance.steps q
waits_there x n q w = subst (λ (k : ℕ). WaitsAt x k q) (sym (all_made x n q.next q.instance w)) w

-- ---- where they stand

-- one more, behind all others
pub spaced_more : (x : Recording) (k w : ℕ) (qs : List Point) (q : Point) → Spaced x k w qs → WaitsAt x (place w (length qs) * k) q → Spaced x k w (qs ++ q ∷ [])
spaced_more x k w qs q s at i p e = by_case (slice_get_cases qs i).1
  where
    by_case : ((y : Point) × (i < length qs) × (slice_get qs i ≡ Some y) × (get_or qs i y ≡ y)) ⊎ ((length qs ≤ i) × (slice_get qs i ≡ None)) → WaitsAt x (place w i * k) p
    by_case (inl h) =
        let same : h.0 ≡ p = some_is (sym (get_front qs (q ∷ []) i h.0 h.2) ∙ e) in
        subst (λ (b : Point). WaitsAt x (place w i * k) b) same (s i h.0 h.2)
    by_case (inr h) =
        let within : i < length (qs ++ q ∷ []) = slice_get_within (qs ++ q ∷ []) i p e in
        let count : length (qs ++ q ∷ []) ≡ length qs + 1 = length-append qs (q ∷ []) in
        let le : length qs ≤ i = h.0 in
        let last : length qs ≡ i = omega (arith, le, within, count) in
        let same : q ≡ p = some_is (sym (get_last qs q) ∙ ap (slice_get (qs ++ q ∷ [])) last ∙ e) in
        subst (λ (n : ℕ). WaitsAt x (place w n * k) p) last (subst (λ (b : Point). WaitsAt x (place w (length qs) * k) b) same at)

-- the one between the first two narrow gaps is dropped
pub spaced_removed : (x : Recording) (k w : ℕ) (qs : List Point) → suc w < length qs → Spaced x k w qs → Spaced x k (suc w) (remove qs (suc w))
spaced_removed x k w qs lt s i q e = by_order (cases_lt i (suc w))
  where
    there : get_or (remove qs (suc w)) i q ≡ q
    there = get_or_from_slice_get (remove qs (suc w)) i q q e

    at : (j : ℕ) → j < length qs → get_or qs j q ≡ q → place w j ≡ place (suc w) i → WaitsAt x (place (suc w) i * k) q
    at j within is same = subst (λ (n : ℕ). WaitsAt x (n * k) q) same (s j q (slice_get_read qs (length qs) j q refl within (sym is)))

    by_order : (i < suc w) ⊎ (suc w ≤ i) → WaitsAt x (place (suc w) i * k) q
    by_order (inl less) = at i (omega (arith, less, lt)) (sym (get_or-remove_below qs (suc w) q i less lt) ∙ there) (omega (arith, less))
    by_order (inr more) =
        let within : i < length (remove qs (suc w)) = slice_get_within (remove qs (suc w)) i q e in
        let count : length (remove qs (suc w)) + 1 ≡ length qs = length-remove qs (suc w) lt in
        at (i + 1) (omega (arith, within, count)) (sym (get_or-remove_above qs (suc w) q i more lt) ∙ there) (omega (arith, more))

-- where all gaps are wide, that is the spacing
pub spaced_doubled : (x : Recording) (k w : ℕ) (qs : List Point) → length qs ≤ suc w → Spaced x k w qs → Spaced x (k * 2) 0 qs
spaced_doubled x k w qs few s i q e =
    let within : i < length qs = slice_get_within qs i q e in
    let twice : place w i ≡ i + i = omega (arith, few, within) in
    let once : i ≡ place 0 i = omega arith in
    subst (λ (n : ℕ). WaitsAt x n q) (ap (λ (n : ℕ). n * k) twice ∙ two i ∙ ap (λ (n : ℕ). n * (k * 2)) once) (s i q e)
  where
    two : (n : ℕ) → (n + n) * k ≡ n * (k * 2)
    two n = grind arith

-- the next one is a gap behind it
gap : (w i k : ℕ) → place w (suc i) * k ≤ place w i * k + widest k w
gap zero i k =
    let one : place zero (suc i) * k ≡ suc (place zero i) * k = ap (λ (n : ℕ). n * k) (omega arith) in
    let more : suc (place zero i) * k ≡ place zero i * k + k = grind arith in
    omega (arith, one, more)
gap (suc w) i k =
    let two : place (suc w) (suc i) * k ≤ (place (suc w) i + 2) * k = mul-le-mul_right k (omega arith) in
    let more : (place (suc w) i + 2) * k ≡ place (suc w) i * k + k * 2 = grind arith in
    omega (arith, two, more)

-- one that stands up to so many spacings
pub below_step : (n k step : ℕ) → n ≤ step / k → n * k ≤ step
below_step n k step le =
    let few : n * k ≤ step / k * k = mul-le-mul_right k le in
    let whole : step / k * k ≤ step = div-mul-le_self step k in
    omega (arith, few, whole)

-- and behind which the next one stands behind them
pub within_gap : (w i k step : ℕ) → 1 ≤ k → step / k < place w (suc i) → step ≤ place w i * k + widest k w
within_gap w i k step some lt =
    let many : suc (step / k) * k ≤ place w (suc i) * k = mul-le-mul_right k lt in
    let over : step < step / k * k + k = lt-div-mul-add some in
    let more : suc (step / k) * k ≡ step / k * k + k = grind arith in
    let g = gap w i k in
    omega (arith, many, over, more, g)

-- the last one
pub within_last : (w last count k step : ℕ) → count ≡ suc last → step ≤ place w count * k → step ≤ place w last * k + widest k w
within_last w last count k step one le =
    let same : place w count * k ≡ place w (suc last) * k = ap (λ (n : ℕ). place w n * k) one in
    let g = gap w last k in
    omega (arith, le, same, g)

-- ---- one checkpoint more

-- the bound holds of more steps
near_later : (every k here later : ℕ) → here ≤ later → k ≤ max every (here / 8) → k ≤ max every (later / 8)
near_later every k here later le h = omega (arith, le, h)

-- one is dropped, and one is due at the same step
module _ (x : Recording) (every here k w wider l : ℕ) (points kept : List Point) (d : Due x every here k w points) (many : 16 ≤ length points) (one : wider ≡ w + 1) (dropped : kept ≡ remove points wider) (same : l ≡ k) where
  next : wider ≡ suc w
  next = omega (arith, one)

  removed : kept ≡ remove points (suc w)
  removed = dropped ∙ ap (λ (n : ℕ). remove points n) next

  narrow : w < 15
  narrow = d.some_narrow

  sixteen : length points ≡ 16
  sixteen = let few = d.up_to.few in omega (arith, few, many)

  within : suc w < length points
  within = let n = narrow in omega (arith, n, many)

  count : length kept ≡ 15
  count =
      let same : length kept ≡ length (remove points (suc w)) = ap (λ (qs : List Point). length qs) removed in
      let less = length-remove points (suc w) within in
      let all = sixteen in
      omega (arith, same, less, all)

  spaced : Spaced x k (suc w) kept
  spaced = subst (λ (qs : List Point). Spaced x k (suc w) qs) (sym removed) (spaced_removed x k w points within d.up_to.spaced)

  far : (16 + w) * k ≡ here
  far = let n = narrow in let all = sixteen in ap (λ (n : ℕ). n * k) (omega (arith, n, all)) ∙ d.due

  near : k * 2 ≤ max every (here / 8)
  near =
      let all = far in
      let split : (16 + w) * k ≡ 16 * k + w * k = grind arith in
      omega (arith, all, split)

  with_one_more : suc w < 15 → Due x every here k (suc w) kept × (length kept < 16)
  with_one_more more =
      let n = narrow in
      let c = count in (
        record {
          up_to = record {
            apart = d.up_to.apart;
            spaced = spaced;
            few = omega (arith, c);
            wide_within = omega (arith, n, c);
            near = near;
          };
          some_narrow = more;
          due = ap (λ (n : ℕ). n * k) (omega (arith, n, c)) ∙ far;
        },
        omega (arith, c),
      )

  pub one_wider : wider < 15 → Due x every here l wider kept × (length kept < 16)
  one_wider more =
      subst (λ (n : ℕ). Due x every here n wider kept × (length kept < 16)) (sym same)
      (subst (λ (n : ℕ). Due x every here k n kept × (length kept < 16)) (sym next) (with_one_more (omega (arith, one, more))))

  doubled : 15 ≤ suc w → Due x every here (k * 2) 0 kept × (length kept < 16)
  doubled all =
      let n = narrow in
      let c = count in
      let some = d.up_to.apart in (
        record {
          up_to = record {
            apart = omega (arith, some);
            spaced = spaced_doubled x k (suc w) kept (omega (arith, c, all)) spaced;
            few = omega (arith, c);
            wide_within = omega arith;
            near = near;
          };
          some_narrow = omega arith;
          due = ap (λ (n : ℕ). n * (k * 2)) (omega (arith, c)) ∙ thirty ∙ ap (λ (n : ℕ). n * k) (omega (arith, n, all)) ∙ far;
        },
        omega (arith, c),
      )
    where
      thirty : 15 * (k * 2) ≡ 30 * k
      thirty = omega arith

  pub all_wide : 15 ≤ wider → Due x every here (l * 2) 0 kept × (length kept < 16)
  all_wide many_wide = subst (λ (n : ℕ). Due x every here (n * 2) 0 kept × (length kept < 16)) (sym same) (doubled (omega (arith, one, many_wide)))

-- one is dropped behind the end, where a gap is wide
pub settled : (x : Recording) (every end k w l wider : ℕ) (points kept : List Point) → Covers x every end k w points → 0 < w → w + 1 < length points → l ≡ k → wider ≡ w + 1 → kept ≡ remove points wider
    → Covers x every end l wider kept
settled x every end k zero l wider points kept covers some lt same one dropped = absurd (omega arith)
settled x every end k (suc w) l wider points kept covers some lt same one dropped =
    subst (λ (n : ℕ). Covers x every end n wider kept) (sym same) (subst (λ (n : ℕ). Covers x every end k n kept) (sym is) joined)
  where
    is : wider ≡ suc (suc w)
    is = omega (arith, one)

    within : suc (suc w) < length points
    within = omega (arith, lt)

    removed : kept ≡ remove points (suc (suc w))
    removed = dropped ∙ ap (λ (n : ℕ). remove points n) is

    count : length kept + 1 ≡ length points
    count = ap (λ (qs : List Point). length qs + 1) removed ∙ length-remove points (suc (suc w)) within

    joined : Covers x every end k (suc (suc w)) kept
    joined =
        let c = count in
        let few = covers.up_to.few in
        record {
          up_to = record {
            apart = covers.up_to.apart;
            spaced = subst (λ (qs : List Point). Spaced x k (suc (suc w)) qs) (sym removed) (spaced_removed x k (suc w) points within covers.up_to.spaced);
            few = omega (arith, c, few);
            wide_within = omega (arith, c, within);
            near = covers.up_to.near;
          };
          some = omega (arith, c, within);
          reach = subst (λ (n : ℕ). end ≤ n * k) (omega (arith, c, within)) covers.reach;
        }

-- where one is due, and there are not as many as are kept
pub added : (x : Recording) (every here k w : ℕ) (before points : List Point) (q : Point) → Due x every here k w before → length before < 16 → WaitsAt x here q → points ≡ before ++ q ∷ [] → Fresh x every here k w points
added x every here k w before points q d lt at e =
    let count : length points ≡ suc (length before) = ap (λ (qs : List Point). length qs) e ∙ length-append before (q ∷ []) ∙ omega arith in
    let le : w ≤ length before = d.up_to.wide_within in
    record {
      up_to = record {
        apart = d.up_to.apart;
        spaced = subst (λ (qs : List Point). Spaced x k w qs) (sym e) (spaced_more x k w before q d.up_to.spaced (subst (λ (n : ℕ). WaitsAt x n q) (sym d.due) at));
        few = omega (arith, count, lt);
        wide_within = omega (arith, count, le);
        near = d.up_to.near;
      };
      some_narrow = d.some_narrow;
      some = omega (arith, count);
      next = ap (λ (n : ℕ). n * k) (omega (arith, count, le)) ∙ one_more (place w (length before)) ∙ ap (λ (n : ℕ). n + k) d.due;
    }
  where
    one_more : (n : ℕ) → suc n * k ≡ n * k + k
    one_more n = grind arith

-- a piece of the run behind the last one
pub next_due : (x : Recording) (every here piece k w : ℕ) (points : List Point) → Fresh x every here k w points → piece ≡ k → Due x every (here + piece) k w points
next_due x every here piece k w points f e = record {
  up_to = record {
    apart = f.up_to.apart;
    spaced = f.up_to.spaced;
    few = f.up_to.few;
    wide_within = f.up_to.wide_within;
    near = near_later every (widest k w) here (here + piece) (omega arith) f.up_to.near;
  };
  some_narrow = f.some_narrow;
  due = f.next ∙ ap (λ (n : ℕ). here + n) (sym e);
}

-- the run's end, not farther behind the last one
pub covered : (x : Recording) (every here end k w : ℕ) (points : List Point) → Fresh x every here k w points → here ≤ end → end ≤ here + k → Covers x every end k w points
covered x every here end k w points f le near = record {
  up_to = record {
    apart = f.up_to.apart;
    spaced = f.up_to.spaced;
    few = f.up_to.few;
    wide_within = f.up_to.wide_within;
    near = near_later every (widest k w) here end le f.up_to.near;
  };
  some = f.some;
  reach = let n = f.next in omega (arith, n, near);
}

-- the last one up to a step
pub nearest : (x : Recording) (every end k w i step : ℕ) (points : List Point) (q : Point) → Covers x every end k w points → slice_get points i ≡ Some q → place w i * k ≤ step → (step ≤ place w (length points) * k → step ≤ place w i * k + widest k w) → Nearest x end step (widest k w) q
nearest x every end k w i step points q covers there below near =
    let at : WaitsAt x (place w i * k) q = covers.up_to.spaced i q there in
    let made : q.instance.steps ≡ place w i * k = all_made x (place w i * k) q.next q.instance at in
    record {
      waits = waits_there x (place w i * k) q at;
      below = omega (arith, made, below);
      near = λ le.
          let reach = covers.reach in
          let n = near (omega (arith, reach, le)) in
          omega (arith, made, n);
    }
