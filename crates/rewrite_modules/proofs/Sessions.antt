-- Lists of calls, by names and by entries of the table.
use Rattle.std.proofs.Common.{◌≡◌, ℕ, ◌+◌, ◌*◌, ◌<◌, ◌≤◌, ◌==◌, List, [], ◌∷◌, length, Option, Some, None, Bool, true, false, ◌&&◌, refl, sym, ap, ap₂, ◌∙◌, subst, subst₂, arith, slice_get, inl, inr, ◌≢◌, option_map, if◌then◌else◌, not, mul-le-mul_right, mul-le-mul_left, add-mul, mul_assoc}
use Rattle.wasm_syntax.specs.declared.value.ValType.{ValType}
use Rattle.wasm_syntax.specs.declared.value.Value.{Value}
use Rattle.wasm_syntax.specs.declared.value.Value.TheVariants as values
use Rattle.wasm_syntax.specs.declared.parts.FuncType.{FuncType}
use Rattle.wasm_syntax.specs.Numbers.{types}
use Rattle.wasm_syntax.specs.declared.module.ModuleParts.{ModuleParts as Module}
use Rattle.wasm_syntax.specs.Module.{Program, function_at, type_at, same_types}
use Rattle.wasm_syntax.specs.Host.{World}
use Rattle.wasm_syntax.specs.declared.host.Reply.{Reply}
use Rattle.wasm_syntax.specs.Machine.{Config, config, Engine, Stepped, next, ends, traps, no_reply, bad_reply, stuck}
use Rattle.rewrite_bodies.specs.calls.Pieces.{call}
use Rattle.rewrite_bodies.specs.Numbering.{global_types, new_entries}
use Rattle.rewrite_bodies.specs.calls.Steps.{st}
use Rattle.rewrite_bodies.specs.calls.Agreement.{WorldFits, flagged}
use Rattle.std.proofs.lemmas.Bool.{eqb-true}
use Rattle.wasm_syntax.specs.Run.{Ended, ended, run_function, engine, start_world, cause_of_segments, cause_of_entry, Outcome, not_started, finished, lacks_reply, misfits, running, got_stuck, Ran, ran_to, not_begun, run_entry, go_on, invoked, if_fits as entry_fits, Cause, goes_on, fresh, start_table}
use Rattle.rewrite_modules.specs.calls.Instrument.{new_module, instrument}
use Rattle.rewrite_modules.proofs.SlotMultiple.{slot_multiple}
use Rattle.rewrite_bodies.specs.calls.Slots.{greatest}
use Rattle.wasm_syntax.specs.Run as runs_
use Rattle.rewrite_modules.proofs.Links.{half}
use Rattle.rewrite_modules.specs.Simulates.{EndsAlike, Alike, NoneDeep}
use Rattle.rewrite_modules.proofs.Followed.{Followed, AllFollowed, not_begun_down}
use Rattle.rewrite_bodies.specs.calls.Guards.{first_table}
use Rattle.rewrite_bodies.proofs.Doubled.{first_is_start, segments_fit}
use Rattle.rewrite_modules.specs.Entries.{Target, Named, Entry, Calling, function_of, cause_of_calls, call_session, unless_cause, run_calls, Reaches, AllReach}
use Rattle.rewrite_modules.proofs.BareCalls.{rest_of, calls_some}
use Rattle.rewrite_modules.proofs.Called.{Called, called, uncalled, entry_is}
use Rattle.rewrite_modules.proofs.Listed.{first_listed}
use Rattle.rewrite_modules.proofs.Start.{world_start, table_start, segments_same, Outside, started, not_started_}
use Rattle.rewrite_modules.proofs.Final.{Fits, part, St, Invoked_so, invoked_alone, invoked_behind, world_alike, untrapped, trap_alike, start_fits, out_type, go1}
use Rattle.wasm_syntax.proofs.Types.{same_types_are}
use Rattle.std.specs.Option.{option_or}
use Rattle.wasm_laws.proofs.Progress.{WorldFine}
use Rattle.wasm_laws.proofs.Never.{Startable, invocation_alive}

other_kind : (k : ℕ) (q : Bool) → (k == 8) ≡ q → (k ≡ 8 → ⊥) → (k == 8) ≡ false
other_kind k false t n8 = t
other_kind k true t n8 = absurd (n8 (eqb-true k 8 t))

-- how an invocation of the one is followed in the other
goes_by : (o : Outcome) (la lb : Option Config) (one_e : Bool) (other : Ran) → EndsAlike o la lb other → other.entered ≡ one_e → o ≢ runs_.trapped 8 → goes_on other.outcome other.entered ≡ goes_on o one_e
goes_by (not_started c) la lb e other h b n8 = rw h.0 refl
goes_by (finished v) la lb e other h b n8 = rw h.0 refl
goes_by (runs_.trapped k) None lb e other h b n8 = absurd h
goes_by (runs_.trapped k) (Some a) None e other h b n8 = absurd h
goes_by (runs_.trapped k) (Some a) (Some c) e other h b n8 = rw (h.trapped_too, b, other_kind k (k == 8) refl (λ x. n8 (ap runs_.trapped x))) refl
goes_by (lacks_reply call) la lb e other h b n8 = rw h.0 refl
goes_by (misfits call r) la lb e other h b n8 = rw h.0 refl
goes_by running la lb e other h b n8 = rw h.0 refl
goes_by got_stuck la lb e other h b n8 = rw h.0 refl

goes_same : (one other : Ran) → Alike one other → one.outcome ≢ runs_.trapped 8 → goes_on other.outcome other.entered ≡ goes_on one.outcome one.entered
goes_same one other a n8 = goes_by one.outcome one.last other.last one.entered other a.ends a.begun n8

module _ (p : Program) (fit : Fits p) (d : ℕ) (deep : 0 < d) (low : d ≤ 10000) where
  abbrev m : Module
  m = p.module_

  abbrev M : Engine
  M = engine p false d

  abbrev M' : Engine
  M' = engine (instrument p) true (d + 2)

  abbrev E : ℕ
  E = half p fit.ready

  abbrev gl : List ValType
  gl = global_types m

  -- what goes on leaves exactly what it was given more
  pub record Passed (b : ℕ) (w : World) (r : Ran) (n : ℕ) (go : ℕ → Ran) : Type 0 where
    pub made : ℕ
    pub in_all : n ≡ made + r.left
    pub count : ℕ
    pub least : made ≤ count
    pub most_ : count ≤ (2 * made + b) * E
    pub up : ℕ
    pub followed : (extra : ℕ) → Followed (length m.globals) r (go (count + extra))
    pub left : (extra : ℕ) → (go (count + extra)).left ≡ extra
    pub world : (w' : World) (extra : ℕ) → fresh (go (count + extra)).last w' ≡ flagged M (fresh r.last w) (values.I32 up)
    pub fits : WorldFits M gl (fresh r.last w)

  fresh_fits : (c : Config) (w : World) → WorldFits M gl c.world → WorldFits M gl (fresh (Some c) w)
  fresh_fits c w h = record { globals = h.globals; memory = h.memory; least = h.least; table = h.table }

  fresh_of : World → World
  fresh_of w = record { globals = w.globals; memory = w.memory; table = w.table; replies = w.replies; served = [] }

  fresh_same : (c c' : Config) (up : ℕ) (w w' : World) → c'.world ≡ flagged M c.world (values.I32 up) → fresh (Some c') w' ≡ flagged M (fresh (Some c) w) (values.I32 up)
  unfolding fresh_of
  fresh_same c c' up w w' e = ap fresh_of e

  low_bound : (a b : ℕ) → a ≤ b → a * E ≤ b * E
  low_bound a b le = mul-le-mul_right E le

  entry_passed : (w : World) (n made left : ℕ) (s : Stepped) (go : ℕ → Ended) → n ≡ made + left → St p fit d deep low go made s → goes_on (ran_to true s left).outcome true ≡ true → Passed 2 w (ran_to true s left) n (λ k. ran_to true (go k).what (go k).left)
  entry_passed w n made left (next c) go nm h q = absurd (cc)
  entry_passed w n made left (ends w1 vs co) go nm h q =
      record {
        made = made;
        in_all = nm;
        count = h.0;
        least = h.1;
        most_ = omega (arith, h.2, low_bound (made + 1) (2 * made + 2) (omega arith));
        up = h.3;
        followed = λ extra. rw (h.4 extra) (untrapped p fit d deep low true (ran_to true (ends w1 vs co) left) (ends (flagged M w1 (values.I32 h.3)) vs []) extra tt (record { begun = refl; host_calls = refl; ends = (refl, refl); state = world_alike p fit d deep low (config [] w1 co) (config [] (flagged M w1 (values.I32 h.3)) []) h.3 refl }));
        left = λ extra. rw (h.4 extra) refl;
        world = λ w' extra. rw (h.4 extra) refl;
        fits = fresh_fits (config [] w1 co) w h.5;
      }
  entry_passed w n made left (traps j c) go nm (inl e) q = absurd (no (rw e at q))
    where
      no : false ≡ true → ⊥
      no e = cc
  entry_passed w n made left (traps j c) go nm (inr h) q =
      record {
        made = made;
        in_all = nm;
        count = h.0;
        least = h.1;
        most_ = h.2;
        up = 0;
        followed = λ extra. rw (h.4 extra) (trap_alike p fit d deep low true j c h.3 left extra h.5 h.6 h.7 h.8 h.9 h.10 h.11 h.12 h.13 h.14 (not_eight j q));
        left = λ extra. rw (h.4 extra) refl;
        world = λ w' extra. rw (h.4 extra) (fresh_same c h.3 0 w w' h.5);
        fits = fresh_fits c w h.8;
      }
    where
      not_eight : (j : ℕ) → (not (j == 8) && true) ≡ true → j ≡ 8 → ⊥
      not_eight j q e = let z : (not (8 == 8) && true) ≡ true = subst (λ i. (not (i == 8) && true) ≡ true) e q in absurd (cc)
  entry_passed w n made left (no_reply call c) go nm h q = absurd (cc)
  entry_passed w n made left (bad_reply call r c) go nm h q = absurd (cc)
  entry_passed w n made left stuck go nm h q = absurd (cc)

  abbrev Starts : Option ℕ → Option ℕ → Type 0
  Starts None None = Unit {0}
  Starts None (Some s') = ⊥
  Starts (Some s) None = ⊥
  Starts (Some s) (Some s') = Outside m s s' × (type_at m s ≡ Some (record { params = []; results = [] }))

  entry_step : (f' : ℕ) (args : List Value) (w1 : World) (vs : List Value) (k l up : ℕ) (go : ℕ → Ended) → go k ≡ ended (ends (flagged M w1 (values.I32 up)) vs []) l → go_on M' (go k).what (go k).left f' args ≡ run_entry M' l f' args (flagged M w1 (values.I32 up)) []
  entry_step f' args w1 vs k l up go e = rw e refl

  entry_here : (f f' : ℕ) (type : FuncType) (args : List Value) (w w1 : World) (up n : ℕ) → Outside m f f' → type_at m f ≡ Some type → types args ≡ type.params → WorldFits M gl w1 → goes_on (run_entry M n f args w1 []).outcome true ≡ true → Passed 2 w (run_entry M n f args w1 []) n (λ k. run_entry M' k f' args (flagged M w1 (values.I32 up)) [])
  entry_here f f' type args w w1 up n out tf ty wf q =
      let x = part p fit d deep low f f' type args w1 up n (function_at p f) refl out tf ty wf in
      let e = run_function M n f (function_at p f) args w1 [] in
      entry_passed w n x.0 e.left e.what (go1 p fit d deep low f' args w1 up) x.1 x.2 q

  entered_true : (s : Stepped) (left : ℕ) → (ran_to true s left).entered ≡ true
  entered_true (next c) left = refl
  entered_true (ends w vs co) left = refl
  entered_true (traps k c) left = refl
  entered_true (no_reply call c) left = refl
  entered_true (bad_reply call r c) left = refl
  entered_true stuck left = refl

  start_passed : (f f' : ℕ) (type : FuncType) (args : List Value) (w : World) (n made left : ℕ) (s : Stepped) (go : ℕ → Ended) → n ≡ made + left → St p fit d deep low go made s → Outside m f f' → type_at m f ≡ Some type → types args ≡ type.params → goes_on (go_on M s left f args).outcome (go_on M s left f args).entered ≡ true → Passed 4 w (go_on M s left f args) n (λ k. go_on M' (go k).what (go k).left f' args)
  start_passed f f' type args w n made left (ends w1 vs co) go nm h out tf ty q =
      let e : run_entry M left f args w1 co ≡ run_entry M left f args w1 [] = ap (run_entry M left f args w1) h.6 in
      let ef = run_function M left f (function_at p f) args w1 [] in
      let q' : goes_on (run_entry M left f args w1 []).outcome true ≡ true = ap (λ b. goes_on (run_entry M left f args w1 []).outcome b) (sym (entered_true ef.what ef.left)) ∙ ap (λ r. goes_on r.outcome r.entered) (sym e) ∙ q in
      let x = entry_here f f' type args w w1 h.3 left out tf ty h.5 q' in
      let at = λ (extra : ℕ). (let z : h.0 + x.count + extra ≡ h.0 + (x.count + extra) = omega arith in ap (λ k. go_on M' (go k).what (go k).left f' args) z ∙ entry_step f' args w1 vs (h.0 + (x.count + extra)) (x.count + extra) h.3 go (h.4 (x.count + extra))) in
      let bound : (made + 1) * E + (2 * x.made + 2) * E ≤ (2 * (made + x.made) + 4) * E = sum_bound made x.made in
      subst (λ r. Passed 4 w r n (λ k. go_on M' (go k).what (go k).left f' args)) (sym e) (record {
        made = made + x.made;
        in_all = omega (arith, nm, x.in_all);
        count = h.0 + x.count;
        least = omega (arith, h.1, x.least);
        most_ = omega (arith, h.2, x.most_, bound);
        up = x.up;
        followed = λ extra. subst (λ r. Followed (length m.globals) (run_entry M left f args w1 []) r) (sym (at extra)) (x.followed extra);
        left = λ extra. ap (λ r. r.left) (at extra) ∙ x.left extra;
        world = λ w' extra. ap (λ r. fresh r.last w') (at extra) ∙ x.world w' extra;
        fits = x.fits;
      })
    where
      sum_bound : (a b : ℕ) → (a + 1) * E + (2 * b + 2) * E ≤ (2 * (a + b) + 4) * E
      sum_bound a b =
          let z : (a + 1) * E + (2 * b + 2) * E ≡ (a + 1 + (2 * b + 2)) * E = sym (add-mul (a + 1) (2 * b + 2) E) in
          let y : (a + 1 + (2 * b + 2)) * E ≤ (2 * (a + b) + 4) * E = mul-le-mul_right E (omega arith) in
          omega (arith, z, y)
  start_passed f f' type args w n made left (next c) go nm h out tf ty q = absurd (cc)
  start_passed f f' type args w n made left (traps j c) go nm h out tf ty q = absurd (never (not (j == 8)) q)
    where
      never : (b : Bool) → (b && false) ≡ true → ⊥
      never true e = cc
      never false e = cc
  start_passed f f' type args w n made left (no_reply call c) go nm h out tf ty q = absurd (cc)
  start_passed f f' type args w n made left (bad_reply call r c) go nm h out tf ty q = absurd (cc)
  start_passed f f' type args w n made left stuck go nm h out tf ty q = absurd (cc)

  looser : (w : World) (r : Ran) (n : ℕ) (go : ℕ → Ran) → Passed 2 w r n go → Passed 4 w r n go
  looser w r n go x = record { made = x.made; in_all = x.in_all; count = x.count; least = x.least; most_ = omega (arith, x.most_, low_bound (2 * x.made + 2) (2 * x.made + 4) (omega arith)); up = x.up; followed = x.followed; left = x.left; world = x.world; fits = x.fits }

  invoked_passed : (start start' : Option ℕ) (f f' : ℕ) (type : FuncType) (args : List Value) (w : World) (up n : ℕ) → Starts start start' → Outside m f f' → type_at m f ≡ Some type → types args ≡ type.params → WorldFits M gl w → goes_on (invoked M start n f args w).outcome (invoked M start n f args w).entered ≡ true → Passed 4 w (invoked M start n f args w) n (λ k. invoked M' start' k f' args (flagged M w (values.I32 up)))
  invoked_passed None None f f' type args w up n st out tf ty wf q =
      let ef = run_function M n f (function_at p f) args w [] in
      let q' : goes_on (run_entry M n f args w []).outcome true ≡ true = ap (λ b. goes_on (run_entry M n f args w []).outcome b) (sym (entered_true ef.what ef.left)) ∙ q in
      looser w _ n _ (entry_here f f' type args w w up n out tf ty wf q')
  invoked_passed None (Some s') f f' type args w up n st out tf ty wf q = absurd st
  invoked_passed (Some s) None f f' type args w up n st out tf ty wf q = absurd st
  invoked_passed (Some s) (Some s') f f' type args w up n st out tf ty wf q =
      let x = part p fit d deep low s s' (record { params = []; results = [] }) [] w up n (function_at p s) refl st.0 st.1 refl wf in
      let e = run_function M n s (function_at p s) [] w [] in
      start_passed f f' type args w n x.0 e.left e.what (go1 p fit d deep low s' [] w up) x.1 x.2 out tf ty q

  invoked_so : (start start' : Option ℕ) (f f' : ℕ) (type : FuncType) (args : List Value) (w : World) (up n : ℕ) → Starts start start' → Outside m f f' → type_at m f ≡ Some type → types args ≡ type.params → WorldFits M gl w → Invoked_so p fit d deep low start start' f f' args w up n
  invoked_so None None f f' type args w up n st out tf ty wf = invoked_alone p fit d deep low f f' type args w up n out tf ty wf
  invoked_so None (Some s') f f' type args w up n st out tf ty wf = absurd st
  invoked_so (Some s) None f f' type args w up n st out tf ty wf = absurd st
  invoked_so (Some s) (Some s') f f' type args w up n st out tf ty wf = invoked_behind p fit d deep low s s' f f' type args w up n st.0 st.1 out tf ty wf

  -- ---- lists

  abbrev pub Calls : List Calling → Type 0
  Calls [] = Unit {0}
  Calls (i ∷ is) = (f : ℕ) × (function_of m (first_table m) i.target ≡ Some f) × (type : FuncType) × (type_at m f ≡ Some type) × (types i.args ≡ type.params) × Reaches m i.target × Calls is

  rest_false : (N : Engine) (is : List Calling) (w : World) (r : Ran) → goes_on r.outcome r.entered ≡ false → rest_of N is w r ≡ []
  rest_false N is w r e = rw e refl

  rest_true : (N : Engine) (is : List Calling) (w w1 : World) (left : ℕ) (r : Ran) → goes_on r.outcome r.entered ≡ true → fresh r.last w ≡ w1 → r.left ≡ left → rest_of N is w r ≡ call_session N is None w1 left
  rest_true N is w w1 left r e fw fl = ap (λ b. if b then call_session N is None (fresh r.last w) r.left else []) e ∙ ap₂ (λ w n. call_session N is None w n) fw fl

  abbrev Session_so : List Calling → Option ℕ → Option ℕ → World → ℕ → ℕ → Type 0
  Session_so is start start' w up n = NoneDeep (call_session M is start w n) → (k : ℕ) × (n ≤ k) × (k ≤ (2 * n + 4 * length is) * E) × AllFollowed (length m.globals) (call_session M is start w n) (call_session M' is start' (flagged M w (values.I32 up)) k)

  small : (n : ℕ) → n ≤ (2 * n + 0) * E
  small n = let z : (2 * n + 0) * 1 ≤ (2 * n + 0) * E = mul-le-mul_left (2 * n + 0) one in omega (arith, z)
    where
      one : 1 ≤ E
      one = omega arith

  -- an invocation of a function of this type is not stuck in a world that is fine, and leaves one where the list goes on
  abbrev pub NotStuck : Type 0
  NotStuck = (st : Option ℕ) (n f : ℕ) (type : FuncType) (args : List Value) (w : World) → ((g : ℕ) → st ≡ Some g → type_at m g ≡ Some (record { params = []; results = [] })) → type_at m f ≡ Some type → types args ≡ type.params → WorldFine m w → ((invoked M st n f args w).outcome ≢ got_stuck) × ((w' : World) → goes_on (invoked M st n f args w).outcome (invoked M st n f args w).entered ≡ true → WorldFine m (fresh (invoked M st n f args w).last w'))

  starts_type : (start start' : Option ℕ) → Starts start start' → (g : ℕ) → start ≡ Some g → type_at m g ≡ Some (record { params = []; results = [] })
  starts_type None start' st g e = absurd (cc)
  starts_type (Some s) None st g e = absurd st
  starts_type (Some s) (Some s') st g e = subst (λ x. type_at m x ≡ Some (record { params = []; results = [] })) (let same : s ≡ g = cc in same) st.1

  pub session_so : NotStuck → (is : List Calling) (start start' : Option ℕ) (w : World) (up n : ℕ) → Starts start start' → WorldFits M gl w → WorldFine m w → Calls is → Session_so is start start' w up n
  session_so ns [] start start' w up n st wf fine cs nd = (n, omega arith, small n, tt)
  session_so ns (i ∷ is) start start' w up n st wf fine cs nd =
      by_going (goes_on (invoked M start n cs.0 i.args w).outcome (invoked M start n cs.0 i.args w).entered) refl (λ w1 up1 n1 wf1 fine1. session_so ns is None None w1 up1 n1 tt wf1 fine1 cs.6)
    where
      cd : Called p i.target cs.0
      cd = called p i.target cs.0 cs.5 cs.1

      r : Ran
      r = invoked M start n cs.0 i.args w

      one : call_session M (i ∷ is) start w n ≡ invoked M start n cs.0 i.args w ∷ rest_of M is w (invoked M start n cs.0 i.args w)
      one = calls_some M i is start w n cs.0 (ap (λ t. function_of m t i.target) wf.table ∙ cs.1)

      nd1 : NoneDeep (invoked M start n cs.0 i.args w ∷ rest_of M is w (invoked M start n cs.0 i.args w))
      nd1 = subst NoneDeep one nd

      alive : ((invoked M start n cs.0 i.args w).outcome ≢ got_stuck) × ((w' : World) → goes_on (invoked M start n cs.0 i.args w).outcome (invoked M start n cs.0 i.args w).entered ≡ true → WorldFine m (fresh (invoked M start n cs.0 i.args w).last w'))
      alive = ns start n cs.0 cs.2 i.args w (starts_type start start' st) cs.3 cs.4 fine

      two : (k : ℕ) → call_session M' (i ∷ is) start' (flagged M w (values.I32 up)) k ≡ invoked M' start' k (called p i.target cs.0 cs.5 cs.1).there i.args (flagged M w (values.I32 up)) ∷ rest_of M' is (flagged M w (values.I32 up)) (invoked M' start' k (called p i.target cs.0 cs.5 cs.1).there i.args (flagged M w (values.I32 up)))
      two k = calls_some M' i is start' (flagged M w (values.I32 up)) k (called p i.target cs.0 cs.5 cs.1).there (ap (λ t. function_of (new_module p) (new_entries m t) i.target) wf.table ∙ (called p i.target cs.0 cs.5 cs.1).found)

      by_going : (q : Bool) → goes_on (invoked M start n cs.0 i.args w).outcome (invoked M start n cs.0 i.args w).entered ≡ q → ((w1 : World) (up1 n1 : ℕ) → WorldFits M gl w1 → WorldFine m w1 → Session_so is None None w1 up1 n1) → (k : ℕ) × (n ≤ k) × (k ≤ (2 * n + 4 * length (i ∷ is)) * E) × AllFollowed (length m.globals) (call_session M (i ∷ is) start w n) (call_session M' (i ∷ is) start' (flagged M w (values.I32 up)) k)
      by_going false q ih =
          let x = invoked_so start start' cs.0 (called p i.target cs.0 cs.5 cs.1).there cs.2 i.args w up n st (called p i.target cs.0 cs.5 cs.1).outside cs.3 cs.4 wf nd1.0 alive.0 in
          let q' = goes_same (invoked M start n cs.0 i.args w) (invoked M' start' x.0 (called p i.target cs.0 cs.5 cs.1).there i.args (flagged M w (values.I32 up))) x.3.alike nd1.0 ∙ q in
          let b : (2 * n + 4) * E ≤ (2 * n + 4 * length (i ∷ is)) * E = mul-le-mul_right E (omega arith) in
          (x.0, x.1, omega (arith, x.2, b), subst₂ (AllFollowed (length m.globals)) (sym (one ∙ ap (λ z. invoked M start n cs.0 i.args w ∷ z) (rest_false M is w (invoked M start n cs.0 i.args w) q))) (sym (two x.0 ∙ ap (λ z. invoked M' start' x.0 (called p i.target cs.0 cs.5 cs.1).there i.args (flagged M w (values.I32 up)) ∷ z) (rest_false M' is (flagged M w (values.I32 up)) (invoked M' start' x.0 (called p i.target cs.0 cs.5 cs.1).there i.args (flagged M w (values.I32 up))) q'))) (x.3, tt))
      by_going true q ih =
          let x = invoked_passed start start' cs.0 (called p i.target cs.0 cs.5 cs.1).there cs.2 i.args w up n st (called p i.target cs.0 cs.5 cs.1).outside cs.3 cs.4 wf q in
          let rt = rest_true M is w (fresh (invoked M start n cs.0 i.args w).last w) (invoked M start n cs.0 i.args w).left (invoked M start n cs.0 i.args w) q refl refl in
          let y = ih (fresh (invoked M start n cs.0 i.args w).last w) x.up (invoked M start n cs.0 i.args w).left x.fits (alive.1 w q) (subst NoneDeep rt nd1.1) in
          let al = x.followed y.0 in
          let q' = goes_same (invoked M start n cs.0 i.args w) (invoked M' start' (x.count + y.0) (called p i.target cs.0 cs.5 cs.1).there i.args (flagged M w (values.I32 up))) al.alike nd1.0 ∙ q in
          let rt' = rest_true M' is (flagged M w (values.I32 up)) (flagged M (fresh (invoked M start n cs.0 i.args w).last w) (values.I32 x.up)) y.0 (invoked M' start' (x.count + y.0) (called p i.target cs.0 cs.5 cs.1).there i.args (flagged M w (values.I32 up))) q' (x.world (flagged M w (values.I32 up)) y.0) (x.left y.0) in (
            x.count + y.0,
            omega (arith, x.in_all, x.least, y.1),
            total x.count y.0 x.made (invoked M start n cs.0 i.args w).left x.in_all x.most_ y.2,
            subst₂ (AllFollowed (length m.globals)) (sym (one ∙ ap (λ z. invoked M start n cs.0 i.args w ∷ z) rt)) (sym (two (x.count + y.0) ∙ ap (λ z. invoked M' start' (x.count + y.0) (called p i.target cs.0 cs.5 cs.1).there i.args (flagged M w (values.I32 up)) ∷ z) rt')) (al, y.3),
          )
        where
          total : (c k a l : ℕ) → n ≡ a + l → c ≤ (2 * a + 4) * E → k ≤ (2 * l + 4 * length is) * E → c + k ≤ (2 * n + 4 * length (i ∷ is)) * E
          total c k a l e u v =
              let z : (2 * a + 4) * E + (2 * l + 4 * length is) * E ≡ (2 * a + 4 + (2 * l + 4 * length is)) * E = sym (add-mul (2 * a + 4) (2 * l + 4 * length is) E) in
              let y : (2 * a + 4 + (2 * l + 4 * length is)) * E ≤ (2 * n + 4 * length (i ∷ is)) * E = mul-le-mul_right E (omega (arith, e)) in
              omega (arith, z, y, u, v)

  -- ---- whole lists

  -- a function that a host calls has a type
  has_type_of : (t : Target) (f : ℕ) → Reaches m t → function_of m (first_table m) t ≡ Some f → (type : FuncType) × (type_at m f ≡ Some type)
  has_type_of (Named name) f r e = fit.exported name f e
  has_type_of (Entry i) f r e = fit.listed f (first_listed m i f (entry_is (slice_get (first_table m) i) f e))

  -- the tables where instances start, where the segments fit
  fitted : (t : Target) → Reaches m t → function_of m (start_table m) t ≡ function_of m (first_table m) t
  fitted (Named name) r = refl
  fitted (Entry i) r = ap (λ t. function_of m t (Entry i)) (first_is_start m (segments_fit m r.0))

  fitted' : (t : Target) → Reaches m t → function_of (new_module p) (start_table (new_module p)) t ≡ function_of (new_module p) (new_entries m (first_table m)) t
  fitted' (Named name) r = refl
  fitted' (Entry i) r = ap (λ t. function_of (new_module p) t (Entry i)) (table_start p ∙ ap (new_entries m) (first_is_start m (segments_fit m r.0)))

  -- the causes are the same, and where there is none, each call is one of a function on fitting arguments
  entry_cause : (i : Calling) (q : Option ℕ) → Reaches m i.target → function_of m (start_table m) i.target ≡ q → cause_of_entry (new_module p) (function_of (new_module p) (start_table (new_module p)) i.target) i.args ≡ cause_of_entry m q i.args
  entry_cause i None r e = ap (λ q. cause_of_entry (new_module p) q i.args) (fitted' i.target r ∙ uncalled p i.target r (sym (fitted i.target r) ∙ e))
  entry_cause i (Some f) r e =
      let k = called p i.target f r (sym (fitted i.target r) ∙ e) in
      let t = has_type_of i.target f r (sym (fitted i.target r) ∙ e) in
      ap (λ q. cause_of_entry (new_module p) q i.args) (fitted' i.target r ∙ k.found) ∙ rw (out_type p fit d deep low f k.there t.0 k.outside t.1, t.1) refl

  causes_same : (is : List Calling) → AllReach m is → cause_of_calls (new_module p) is ≡ cause_of_calls m is
  causes_same [] r = segments_same p
  causes_same (i ∷ is) r = ap₂ option_or (entry_cause i (function_of m (start_table m) i.target) r.0 refl) (causes_same is r.1)

  no_cause : (a b : Option Cause) → option_or a b ≡ None → (a ≡ None) × (b ≡ None)
  no_cause None b e = (refl, e)
  no_cause (Some c) b e = absurd (cc)

  true_of : (q : Bool) → entry_fits (Some q) ≡ None → q ≡ true
  true_of true e = refl
  true_of false e = absurd (cc)

  call_of : (i : Calling) (q : Option ℕ) → Reaches m i.target → function_of m (start_table m) i.target ≡ q → cause_of_entry m q i.args ≡ None → (f : ℕ) × (function_of m (first_table m) i.target ≡ Some f) × (type : FuncType) × (type_at m f ≡ Some type) × (types i.args ≡ type.params) × Reaches m i.target
  call_of i None r e c = absurd (cc)
  call_of i (Some f) r e c =
      let first = sym (fitted i.target r) ∙ e in
      let t = has_type_of i.target f r first in
      let c' : entry_fits (Some (same_types t.0.params (types i.args))) ≡ None = ap (λ o. entry_fits (option_map (λ type. same_types type.params (types i.args)) o)) (sym t.1) ∙ c in
      (f, first, t.0, t.1, sym (same_types_are t.0.params (types i.args) (true_of (same_types t.0.params (types i.args)) c')), r)

  calls_are_of : (is : List Calling) → AllReach m is → cause_of_calls m is ≡ None → Calls is × (cause_of_segments m ≡ None)
  calls_are_of [] r e = (tt, e)
  calls_are_of (i ∷ is) r e =
      let h = no_cause (cause_of_entry m (function_of m (start_table m) i.target) i.args) (cause_of_calls m is) e in
      let x = call_of i (function_of m (start_table m) i.target) r.0 refl h.0 in
      let y = calls_are_of is r.1 h.1 in
      ((x.0, x.1, x.2, x.3, x.4, x.5, y.0), y.1)

  starts_by : (q : Option ℕ) → m.start ≡ q → (s' : Option ℕ) × ((new_module p).start ≡ s') × Starts q s'
  starts_by None e = (None, not_started_ p [] e, tt)
  starts_by (Some s) e = let x = started p [] s e in (Some x.0, x.1, (x.2, fit.start s e))

  abbrev All_so : List Calling → List Reply → ℕ → List Ran → Type 0
  All_so is replies n rs = NoneDeep rs → (k : ℕ) × (n ≤ k) × (k ≤ (2 * n + 4 * length is) * E) × AllFollowed (length m.globals) rs (run_calls (instrument p) true is replies (d + 2) k)

  all_by : NotStuck → ((replies : List Reply) → WorldFine m (start_world m replies)) → (is : List Calling) → AllReach m is → (replies : List Reply) (n : ℕ) (c : Option Cause) → cause_of_calls m is ≡ c → All_so is replies n (unless_cause M c is replies n)
  all_by ns fine is r replies n (Some c) e nd =
      let b : (2 * n + 0) * E ≤ (2 * n + 4 * length is) * E = mul-le-mul_right E (omega arith) in
      (n, omega arith, omega (arith, small n, b), subst (λ z. AllFollowed (length m.globals) (not_begun c n ∷ []) (unless_cause M' z is replies n)) (sym (causes_same is r ∙ e)) (record { alike = record { begun = refl; host_calls = refl; ends = (refl, refl); state = tt }; down = not_begun_down (length m.globals) c n }, tt))
  all_by ns fine is r replies n None e nd =
      let cs = calls_are_of is r e in
      let st = starts_by m.start refl in
      let x = session_so ns is m.start st.0 (start_world m replies) 0 n st.2 (start_fits p fit d deep low replies cs.1) (fine replies) cs.0 nd in
      let other : run_calls (instrument p) true is replies (d + 2) x.0 ≡ call_session M' is st.0 (flagged M (start_world m replies) (values.I32 0)) x.0 = ap (λ z. unless_cause M' z is replies x.0) (causes_same is r ∙ e) ∙ ap₂ (λ s w. call_session M' is s w x.0) st.1 (world_start p d replies (fit.measured cs.1)) in
      (x.0, x.1, x.2, subst (AllFollowed (length m.globals) (call_session M is m.start (start_world m replies) n)) (sym other) x.3)

  pub all_so : NotStuck → ((replies : List Reply) → WorldFine m (start_world m replies)) → (is : List Calling) → AllReach m is → (replies : List Reply) (n : ℕ) → All_so is replies n (run_calls p false is replies d n)
  all_so ns fine is r replies n = all_by ns fine is r replies n (cause_of_calls m is) refl

-- the bound on the steps
pub twice : (n l s : ℕ) → (2 * n + 4 * l) * (100 + 4 * s) ≡ (n + 2 * l) * (200 + 8 * s)
twice n l s =
    let a : 2 * n + 4 * l ≡ (n + 2 * l) * 2 = omega arith in
    let b : 200 + 8 * s ≡ 2 * (100 + 4 * s) = omega arith in
    ap (λ z. z * (100 + 4 * s)) a ∙ mul_assoc (n + 2 * l) 2 (100 + 4 * s) ∙ ap (λ z. (n + 2 * l) * z) (sym b)

abbrev pub Follows_all : Program → List Calling → List Reply → ℕ → ℕ → Type 0
Follows_all p is replies d n = (k : ℕ) × (n ≤ k) × (k ≤ (n + 2 * length is) * slot_multiple p) × AllFollowed (length p.module_.globals) (run_calls p false is replies d n) (run_calls (instrument p) true is replies (d + 2) k)

-- for every list of invocations on one instance
pub follows_all : (p : Program) → Fits p → Startable p → (is : List Calling) → AllReach p.module_ is → (replies : List Reply) (d n : ℕ) → 1 ≤ d → d ≤ 10000 → NoneDeep (run_calls p false is replies d n) → Follows_all p is replies d n
follows_all p fit s is r replies d n d1 d2 nd =
    let x = all_so p fit d (omega (arith, d1)) d2 (invocation_alive p s false d) s.world is r replies n nd in
    let z : (2 * n + 4 * length is) * half p fit.ready ≡ (n + 2 * length is) * slot_multiple p = twice n (length is) ((greatest p).0 + (greatest p).1 + length p.module_.globals) in
    (x.0, x.1, subst (λ q. x.0 ≤ q) z x.2, x.3)
