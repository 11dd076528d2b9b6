-- What the landings of a function take, by the instructions that go to them: each landing was made for one of these.
use Rattle.std.proofs.Common.{◌≡◌, ℕ, suc, ◌+◌, ◌*◌, ◌≤◌, nat_lt, List, [], ◌∷◌, ◌++◌, length, Option, Some, None, Bool, true, false, if◌then◌else◌, refl, ap, subst, arith, slice_get, option_map}
use Rattle.std.proofs.lemmas.Bool.{eq-eqb}
use Rattle.wasm_syntax.specs.declared.value.ValType.{ValType}
use Rattle.wasm_syntax.specs.declared.value.Value.{Value}
use Rattle.wasm_syntax.specs.declared.value.Value.TheVariants as values
use Rattle.wasm_syntax.specs.declared.instruction.Basic.{Basic}
use Rattle.wasm_syntax.specs.declared.parts.FuncType.{FuncType}
use Rattle.wasm_syntax.specs.Tree.{Jump, Unreachable, Br, BrIf, BrTable, Return, Call, CallIndirect, Nodes, stop, basic, jump, block, loop, choose}
use Rattle.wasm_syntax.specs.Module.{type_at}
use Rattle.wasm_syntax.specs.Machine.{result_of, same_result}
use Rattle.wasm_syntax.proofs.Types.{same_type_refl}
use Rattle.rewrite_bodies.specs.Numbering.{import_count}
use Rattle.rewrite_bodies.specs.calls.Slots.{Place, Spilled, Known, Copied, Landing, Ctx, less, grown, under, after_plain, behind_call, behind_jump}
use Rattle.rewrite_bodies.specs.calls.Landings.{same_value, same_place, same_places, same_landing, number_of, number_in, carrying, landing_behind, most_landings, at_end, unless_there, with_landing, with_some, landing_call, landings_call, landings_jump, landings_from, landing_at, part_of}

abbrev pub cost : Landing → ℕ
cost x = 35 + 16 * length x.places

abbrev pub costs_of : List Landing → ℕ
costs_of [] = 0
costs_of (x ∷ xs) = cost x + costs_of xs

-- to an instruction that goes to this landing, by its number
abbrev pub charge : Option ℕ → Option Landing → ℕ
charge None o = 0
charge (Some n) None = 0
charge (Some n) (Some x) = cost x

abbrev pub charge_of : Ctx → Option Landing → ℕ
charge_of C o = charge (number_in C.landings o) o

abbrev pub charge_at : Ctx → ℕ → Basic → List Place → ℕ
charge_at C o i es = charge_of C (landing_at C o i es)

abbrev pub charge_behind : Ctx → ℕ → List Place → ℕ
charge_behind C p left = charge (number_of (landing_behind p left) C.landings) (Some (landing_behind p left))

abbrev pub charge_call : ℕ → Bool → Ctx → Option FuncType → List Place → ℕ
charge_call p direct C None es = 0
charge_call p true C (Some type) es = 0
charge_call p false C (Some type) es = charge_behind C p (less (length type.params) es)

abbrev pub charge_jump : Ctx → ℕ → Jump → List Place → ℕ
charge_jump C p Unreachable es = 0
charge_jump C p (Br l) es = 0
charge_jump C p (BrIf l) es = 0
charge_jump C p (BrTable ts d) es = 0
charge_jump C p Return es = 0
charge_jump C p (Call f) es = charge_call p (nat_lt f (import_count C.source)) C (type_at C.source f) es
charge_jump C p (CallIndirect t) es = 0

-- to the live instructions of nodes
abbrev pub charged : Ctx → List Place → Nodes → ℕ
charged C es stop = 0
charged C es (basic o i rest) = charge_at C o i es + charged C (after_plain C es i) rest
charged C es (jump o j rest) = charge_jump C (part_of C.locals o) j es + behind_jump C j es (λ es'. charged C es' rest)
charged C es (block o t inner end rest) = charged C (under es) inner + charged C (grown t (under es)) rest
charged C es (loop o t inner end rest) = charged C (under es) inner + charged C (grown t (under es)) rest
charged C es (choose o t a ea b end rest) = let left = under (less 1 es) in charged C left a + charged C left b + charged C (grown t left) rest

pub charge_low : (p : ℕ) (q : Option ℕ) (k : Option ℕ) (es : List Place) → charge q (carrying p k es) ≤ 35 + 16 * length es
charge_low p None k es = omega arith
charge_low p (Some n) None es = omega arith
charge_low p (Some n) (Some k) [] = omega arith
charge_low p (Some n) (Some k) (e ∷ es) = omega arith

-- ---- landings that are found

abbrev Found : Landing → List Landing → Type 0
Found x xs = (n : ℕ) × (number_of x xs ≡ Some n)

abbrev Within : List Landing → List Landing → Type 0
Within xs ys = (x : Landing) → Found x xs → Found x ys

same_value_refl : (v : Value) → same_value v v ≡ true
same_value_refl (values.I32 n) = eq-eqb n n refl
same_value_refl (values.I64 n) = eq-eqb n n refl

same_place_refl : (e : Place) → same_place e e ≡ true
same_place_refl (Spilled t) = same_type_refl t
same_place_refl (Known v) = same_value_refl v
same_place_refl (Copied t x) = rw (same_type_refl t, eq-eqb x x refl) refl

same_places_refl : (es : List Place) → same_places es es ≡ true
same_places_refl [] = refl
same_places_refl (e ∷ es) = rw (same_place_refl e, same_places_refl es) refl

same_result_refl : (r : Option ValType) → same_result r r ≡ true
same_result_refl None = refl
same_result_refl (Some t) = same_type_refl t

same_landing_refl : (x : Landing) → same_landing x x ≡ true
same_landing_refl x = rw (same_result_refl x.carried, eq-eqb x.kind x.kind refl, eq-eqb x.part x.part refl, same_places_refl x.places) refl

found_by : (x : Landing) (b : Bool) (o o' : Option ℕ) (n : ℕ) → ((m : ℕ) → o ≡ Some m → (j : ℕ) × (o' ≡ Some j)) → (if b then Some 0 else option_map suc o) ≡ Some n → (j : ℕ) × ((if b then Some 0 else option_map suc o') ≡ Some j)
found_by x true o o' n f e = (0, refl)
found_by x false None o' n f e = absurd (cc)
found_by x false (Some m) o' n f e = let r = f m refl in (suc r.0, ap (option_map suc) r.1)

found_front : (y : Landing) (xs ys : List Landing) → Found y xs → Found y (xs ++ ys)
found_front y [] ys f = absurd (let z = f.1 in cc)
found_front y (x ∷ xs) ys f = found_by y (same_landing y x) (number_of y xs) (number_of y (xs ++ ys)) f.0 (λ m e. found_front y xs ys (m, e)) f.1

found_last : (x : Landing) (xs : List Landing) → Found x (xs ++ x ∷ [])
found_last x [] = (0, rw (same_landing_refl x) refl)
found_last x (y ∷ xs) = let r = found_last x xs in by_same (same_landing x y) r.0 r.1
  where
    by_same : (b : Bool) (n : ℕ) → number_of x (xs ++ x ∷ []) ≡ Some n → (j : ℕ) × ((if b then Some 0 else option_map suc (number_of x (xs ++ x ∷ []))) ≡ Some j)
    by_same true n e = (0, refl)
    by_same false n e = (suc n, ap (option_map suc) e)

grows_end : (b : Bool) (x : Landing) (xs : List Landing) → Within xs (at_end b x xs)
grows_end false x xs y f = f
grows_end true x xs y f = found_front y xs (x ∷ []) f

grows_unless : (q : Option ℕ) (x : Landing) (xs : List Landing) → Within xs (unless_there q x xs)
grows_unless None x xs y f = grows_end (nat_lt (length xs) most_landings) x xs y f
grows_unless (Some n) x xs y f = f

grows_some : (o : Option Landing) (xs : List Landing) → Within xs (with_some o xs)
grows_some None xs y f = f
grows_some (Some x) xs y f = grows_unless (number_of x xs) x xs y f

grows_call : (p : ℕ) (b : Bool) (es : List Place) (xs : List Landing) → Within xs (landing_call p b es xs)
grows_call p true es xs y f = f
grows_call p false es xs y f = grows_unless (number_of (landing_behind p es) xs) (landing_behind p es) xs y f

module _ (C : Ctx) where
  abbrev Grows : (List Place → List Landing → List Landing) → Type 0
  Grows go = (es' : List Place) (xs' : List Landing) → Within xs' (go es' xs')

  grows_called : (p : ℕ) (b : Bool) (o : Option FuncType) (es : List Place) (xs : List Landing) (go : List Place → List Landing → List Landing) → Grows go → Within xs (landings_call p b o es xs go)
  grows_called p b None es xs go g y f = f
  grows_called p b (Some type) es xs go g y f = let left = less (length type.params) es in g (grown (result_of type) left) (landing_call p b left xs) y (grows_call p b left xs y f)

  grows_jump : (p : ℕ) (j : Jump) (es : List Place) (xs : List Landing) (go : List Place → List Landing → List Landing) → Grows go → Within xs (landings_jump C p j es xs go)
  grows_jump p Unreachable es xs go g y f = f
  grows_jump p (Br l) es xs go g y f = f
  grows_jump p (BrIf l) es xs go g y f = g (less 1 es) xs y f
  grows_jump p (BrTable ts d) es xs go g y f = f
  grows_jump p Return es xs go g y f = f
  grows_jump p (Call h) es xs go g y f = grows_called p (nat_lt h (import_count C.source)) (type_at C.source h) es xs go g y f
  grows_jump p (CallIndirect t) es xs go g y f = grows_called p true (slice_get C.source.types t) (less 1 es) xs go g y f

  grows : (es : List Place) (nodes : Nodes) (xs : List Landing) → Within xs (landings_from C es nodes xs)
  grows es stop xs y f = f
  grows es (basic o i rest) xs y f = grows (after_plain C es i) rest (with_some (landing_at C o i es) xs) y (grows_some (landing_at C o i es) xs y f)
  grows es (jump o j rest) xs y f = grows_jump (part_of C.locals o) j es xs (λ es' xs'. landings_from C es' rest xs') (λ es' xs' y' f'. grows es' rest xs' y' f') y f
  grows es (block o t inner end rest) xs y f = grows (grown t (under es)) rest (landings_from C (under es) inner xs) y (grows (under es) inner xs y f)
  grows es (loop o t inner end rest) xs y f = grows (grown t (under es)) rest (landings_from C (under es) inner xs) y (grows (under es) inner xs y f)
  grows es (choose o t a ea b end rest) xs y f =
      let left = under (less 1 es) in
      grows (grown t left) rest (landings_from C left b (landings_from C left a xs)) y (grows left b (landings_from C left a xs) y (grows left a xs y f))

  -- ---- each is charged

  costs_append : (x : Landing) (xs : List Landing) → costs_of (xs ++ x ∷ []) ≤ costs_of xs + cost x
  costs_append x [] = omega arith
  costs_append x (y ∷ xs) = let a = costs_append x xs in omega (arith, a)

  charge_found : (x : Landing) (q : Option ℕ) (n : ℕ) → q ≡ Some n → cost x ≤ charge q (Some x)
  charge_found x None n e = absurd (cc)
  charge_found x (Some m) n e = omega arith

  paid_end : (b : Bool) (x : Landing) (xs : List Landing) → Within (at_end b x xs) C.landings → costs_of (at_end b x xs) ≤ costs_of xs + charge (number_of x C.landings) (Some x)
  paid_end false x xs w = omega arith
  paid_end true x xs w =
      let a = costs_append x xs in
      let f = w x (found_last x xs) in
      let b = charge_found x (number_of x C.landings) f.0 f.1 in
      omega (arith, a, b)

  paid_unless : (q : Option ℕ) (x : Landing) (xs : List Landing) → Within (unless_there q x xs) C.landings → costs_of (unless_there q x xs) ≤ costs_of xs + charge (number_of x C.landings) (Some x)
  paid_unless None x xs w = paid_end (nat_lt (length xs) most_landings) x xs w
  paid_unless (Some n) x xs w = omega arith

  paid_some : (o : Option Landing) (xs : List Landing) → Within (with_some o xs) C.landings → costs_of (with_some o xs) ≤ costs_of xs + charge (number_in C.landings o) o
  paid_some None xs w = omega arith
  paid_some (Some x) xs w = paid_unless (number_of x xs) x xs w

  abbrev Paid : (List Place → List Landing → List Landing) → (List Place → ℕ) → Type 0
  Paid go pays = (es' : List Place) (xs' : List Landing) → Within (go es' xs') C.landings → costs_of (go es' xs') ≤ costs_of xs' + pays es'

  paid_called : (p : ℕ) (b : Bool) (o : Option FuncType) (es : List Place) (xs : List Landing) (go : List Place → List Landing → List Landing) (pays : List Place → ℕ) → Grows go → Paid go pays → Within (landings_call p b o es xs go) C.landings → costs_of (landings_call p b o es xs go) ≤ costs_of xs + (charge_call p b C o es + behind_call o es pays)
  paid_called p b None es xs go pays g h w = omega arith
  paid_called p true (Some type) es xs go pays g h w =
      let left = less (length type.params) es in
      let a = h (grown (result_of type) left) xs w in
      omega (arith, a)
  paid_called p false (Some type) es xs go pays g h w =
      let left = less (length type.params) es in
      let xs1 = with_landing (landing_behind p left) xs in
      let a = h (grown (result_of type) left) xs1 w in
      let b = paid_some (Some (landing_behind p left)) xs (λ y f. w y (g (grown (result_of type) left) xs1 y f)) in
      omega (arith, a, b)

  paid_jump : (p : ℕ) (j : Jump) (es : List Place) (xs : List Landing) (go : List Place → List Landing → List Landing) (pays : List Place → ℕ) → Grows go → Paid go pays → Within (landings_jump C p j es xs go) C.landings → costs_of (landings_jump C p j es xs go) ≤ costs_of xs + (charge_jump C p j es + behind_jump C j es pays)
  paid_jump p Unreachable es xs go pays g h w = omega arith
  paid_jump p (Br l) es xs go pays g h w = omega arith
  paid_jump p (BrIf l) es xs go pays g h w = let a = h (less 1 es) xs w in omega (arith, a)
  paid_jump p (BrTable ts d) es xs go pays g h w = omega arith
  paid_jump p Return es xs go pays g h w = omega arith
  paid_jump p (Call f) es xs go pays g h w = paid_called p (nat_lt f (import_count C.source)) (type_at C.source f) es xs go pays g h w
  paid_jump p (CallIndirect t) es xs go pays g h w = through (slice_get C.source.types t) w
    where
      through : (o : Option FuncType) → Within (landings_call p true o (less 1 es) xs go) C.landings → costs_of (landings_call p true o (less 1 es) xs go) ≤ costs_of xs + (0 + behind_call o (less 1 es) pays)
      through None w = omega arith
      through (Some type) w = let a = h (grown (result_of type) (less (length type.params) (less 1 es))) xs w in omega (arith, a)

  paid : (es : List Place) (nodes : Nodes) (xs : List Landing) → Within (landings_from C es nodes xs) C.landings → costs_of (landings_from C es nodes xs) ≤ costs_of xs + charged C es nodes
  paid es stop xs w = omega arith
  paid es (basic o i rest) xs w =
      let xs1 = with_some (landing_at C o i es) xs in
      let a = paid (after_plain C es i) rest xs1 w in
      let b = paid_some (landing_at C o i es) xs (λ y f. w y (grows (after_plain C es i) rest xs1 y f)) in
      omega (arith, a, b)
  paid es (jump o j rest) xs w = paid_jump (part_of C.locals o) j es xs (λ es' xs'. landings_from C es' rest xs') (λ es'. charged C es' rest) (λ es' xs' y f. grows es' rest xs' y f) (λ es' xs' w'. paid es' rest xs' w') w
  paid es (block o t inner end rest) xs w =
      let xs1 = landings_from C (under es) inner xs in
      let a = paid (grown t (under es)) rest xs1 w in
      let b = paid (under es) inner xs (λ y f. w y (grows (grown t (under es)) rest xs1 y f)) in
      omega (arith, a, b)
  paid es (loop o t inner end rest) xs w =
      let xs1 = landings_from C (under es) inner xs in
      let a = paid (grown t (under es)) rest xs1 w in
      let b = paid (under es) inner xs (λ y f. w y (grows (grown t (under es)) rest xs1 y f)) in
      omega (arith, a, b)
  paid es (choose o t a ea b end rest) xs w =
      let left = under (less 1 es) in
      let xs1 = landings_from C left a xs in
      let xs2 = landings_from C left b xs1 in
      let w2 : Within xs2 C.landings = λ y f. w y (grows (grown t left) rest xs2 y f) in
      let w1 : Within xs1 C.landings = λ y f. w2 y (grows left b xs1 y f) in
      let c = paid (grown t left) rest xs2 w in
      let d = paid left b xs1 w2 in
      let e = paid left a xs w1 in
      omega (arith, c, d, e)

  -- all landings of the function
  pub all_paid : (nodes : Nodes) → landings_from C [] nodes [] ≡ C.landings → costs_of C.landings ≤ charged C [] nodes
  all_paid nodes e = let a = paid [] nodes [] (λ y f. subst (Found y) e f) in subst (λ xs. costs_of xs ≤ charged C [] nodes) e (omega (arith, a))
