-- What a list of invocations is given on fewer replies, and on more: the same, or it lacks a reply, and then the next one is given to that call.
use Rattle.std.proofs.Common.{◌≡◌, ◌≢◌, ℕ, ◌+◌, List, [], ◌∷◌, ◌++◌, length, reverse, if◌then◌else◌, Option, Some, None, refl, sym, ap, subst, ◌∙◌, arith, append_assoc, inl, inr}
use Rattle.std.specs.Prelude.{Bool, true, false, option_map, ◌⊎◌}
use Rattle.std.proofs.lemmas.List.{append-nil, length-append, length-reverse, reverse-append}
use Rattle.wasm_syntax.specs.declared.value.Value.{Value}
use Rattle.wasm_syntax.specs.declared.host.HostCall.{HostCall}
use Rattle.wasm_syntax.specs.declared.host.Reply.{Reply}
use Rattle.wasm_syntax.specs.declared.host.Served.{Served}
use Rattle.wasm_syntax.specs.declared.host.CollectorCall.{CollectorCall}
use Rattle.wasm_syntax.specs.Module.{Program, function_at, function_export}
use Rattle.wasm_syntax.specs.Host.{World}
use Rattle.wasm_syntax.specs.Machine.{Engine, Config, config, Stepped, next, ends, traps, no_reply, bad_reply, stuck}
use Rattle.wasm_syntax.specs.Run.{Ended, run_function, Outcome, not_started, finished, trapped, lacks_reply, misfits, running, got_stuck, Ran, ran_to, run_entry, go_on, invoked, goes_on, fresh, session, Invocation, Cause, cause_of, unless, start_world, engine, run}
use Rattle.wasm_laws.proofs.MoreReplies.{world_more, config_more, taken_in, Same, Keeps}
use Rattle.wasm_laws.proofs.NextReply.{NotStuck, GoesOn, kept_taken, function_turns}
use Rattle.run_session.specs.Delivery.{Delivery, nothing, whole, torn}
use Rattle.run_session.specs.Showing.{showing}
use Rattle.run_session.specs.Telling.{Tells, tells, told, torn_in, plain_telling, shown_telling}
use Rattle.run_session.specs.RunText.{unless_torn, up_to_torn, last_of}
use Rattle.run_session.specs.Given.{given_to, given_in}

-- ---- one invocation

abbrev pub ran_more : List Reply → Ran → Ran
ran_more more r = record { outcome = r.outcome; served = r.served; collected = r.collected; entered = r.entered; last = option_map (config_more more) r.last; left = r.left }

abbrev pub taking : HostCall → Reply → Served
taking call r = record { call = call; reply = r }

-- how many replies are left or were taken
abbrev pub count_of : World → ℕ
count_of w = length w.served + length w.replies

-- behind what one was given, the other one is given the next reply, for the call that lacks one
abbrev pub TakesNext : List Reply → HostCall → (stuck_not : Type 0) → (given other : List Served) → Type 0
TakesNext more call some given other = (x : Reply) (rest : List Reply) → more ≡ x ∷ rest → some → (zs : List Served) × (other ≡ given ++ taking call x ∷ zs)

abbrev RanGoes : List Reply → Ran → Outcome → Ran → Type 0
RanGoes more r (lacks_reply call) s = TakesNext more call (s.outcome ≢ got_stuck) (given_to r) (given_to s)
RanGoes more r (finished v) s = s ≡ ran_more more r
RanGoes more r (trapped kind) s = s ≡ ran_more more r
RanGoes more r (misfits call reply) s = s ≡ ran_more more r
RanGoes more r (not_started cause) s = s ≡ ran_more more r
RanGoes more r running s = s ≡ ran_more more r
RanGoes more r got_stuck s = s ≡ ran_more more r

-- what it leaves behind a world in which there are so many
record Leaves (n : ℕ) (r : Ran) : Type 0 where
  last : Config
  is : r.last ≡ Some last
  count : length (given_to r) + length last.world.replies ≡ n

abbrev RanKeeps : ℕ → Ran → Outcome → Type 0
RanKeeps n r (lacks_reply call) = length (given_to r) ≡ n
RanKeeps n r (finished v) = Leaves n r
RanKeeps n r (trapped kind) = Leaves n r
RanKeeps n r (misfits call reply) = Unit {0}
RanKeeps n r (not_started cause) = Unit {0}
RanKeeps n r running = Unit {0}
RanKeeps n r got_stuck = Unit {0}

abbrev RanTurns : List Reply → ℕ → (one other : Ran) → Type 0
RanTurns more n one other = RanGoes more one one.outcome other × RanKeeps n one one.outcome

not_stuck : (q : Bool) (s : Stepped) (left : ℕ) → (ran_to q s left).outcome ≢ got_stuck → NotStuck s
not_stuck q (next c) left h = tt
not_stuck q (ends w vs co) left h = tt
not_stuck q (traps k c) left h = tt
not_stuck q (no_reply call c) left h = tt
not_stuck q (bad_reply call r c) left h = tt
not_stuck q stuck left h = absurd (h refl)

given_of : (q : Bool) (s : Stepped) (left : ℕ) → NotStuck s → given_to (ran_to q s left) ≡ reverse (taken_in s)
given_of q (next c) left some = append-nil (reverse c.world.served)
given_of q (ends w vs co) left some = append-nil (reverse w.served)
given_of q (traps k c) left some = append-nil (reverse c.world.served)
given_of q (no_reply call c) left some = append-nil (reverse c.world.served)
given_of q (bad_reply call r c) left some = sym (reverse-append (taking call r ∷ []) c.world.served)
given_of q stuck left some = absurd some

-- calls that took replies, in order
in_order : (xs served : List Served) (a : Served) → reverse (xs ++ a ∷ served) ≡ reverse served ++ a ∷ reverse xs
in_order xs served a = reverse-append xs (a ∷ served) ∙ ap (λ l. l ++ reverse xs) (reverse-append (a ∷ []) served) ∙ append_assoc (reverse served) (a ∷ []) (reverse xs)

length_given : (served : List Served) → length (reverse served ++ []) ≡ length served
length_given served = ap length (append-nil (reverse served)) ∙ length-reverse served

leaves_at : (n : ℕ) (w w' : World) (r : Ran) (c : Config) → r.last ≡ Some c → c.world ≡ w' → given_to r ≡ reverse w'.served ++ [] → Same w w' → n ≡ count_of w → Leaves n r
leaves_at n w w' r c last is given same e = record {
  last = c;
  is = last;
  count = omega (arith, ap length given, length_given w'.served, ap (λ (v : World). length v.replies) is, same.count, e);
}

keeps_ran : (q : Bool) (n : ℕ) (w : World) (s : Stepped) (left : ℕ) → n ≡ count_of w → Keeps w s → RanKeeps n (ran_to q s left) (ran_to q s left).outcome
keeps_ran q n w (next c) left e k = tt
keeps_ran q n w (ends w' vs co) left e k = leaves_at n w w' (ran_to q (ends w' vs co) left) (config [] w' co) refl refl refl k e
keeps_ran q n w (traps kind c) left e k = leaves_at n w c.world (ran_to q (traps kind c) left) c refl refl refl k e
keeps_ran q n w (no_reply call c) left e (k, none) = omega (arith, length_given c.world.served, k.count, ap length none, e)
keeps_ran q n w (bad_reply call r c) left e k = tt
keeps_ran q n w stuck left e k = tt

module _ (more : List Reply) where
  abbrev W : World → World
  W = world_more more

  turn_ran : (q : Bool) (n : ℕ) (w : World) (s : Stepped) (left : ℕ) (e' : Ended) → n ≡ count_of w → GoesOn more s left e' → Keeps w s → RanTurns more n (ran_to q s left) (ran_to q e'.what e'.left)
  turn_ran q n w (next c) left e' e is k = (ap (λ x. ran_to q x.what x.left) is, keeps_ran q n w (next c) left e k)
  turn_ran q n w (ends w' vs co) left e' e is k = (ap (λ x. ran_to q x.what x.left) is, keeps_ran q n w (ends w' vs co) left e k)
  turn_ran q n w (traps kind c) left e' e is k = (ap (λ x. ran_to q x.what x.left) is, keeps_ran q n w (traps kind c) left e k)
  turn_ran q n w (bad_reply call r c) left e' e is k = (ap (λ x. ran_to q x.what x.left) is, keeps_ran q n w (bad_reply call r c) left e k)
  turn_ran q n w stuck left e' e is k = (ap (λ x. ran_to q x.what x.left) is, keeps_ran q n w stuck left e k)
  turn_ran q n w (no_reply call c) left e' e asks k = (takes, keeps_ran q n w (no_reply call c) left e k)
    where
      takes : TakesNext more call ((ran_to q e'.what e'.left).outcome ≢ got_stuck) (reverse c.world.served ++ []) (given_to (ran_to q e'.what e'.left))
      takes x rest is some =
          let moving = not_stuck q e'.what e'.left some in
          let t = asks x rest is moving in
          (reverse t.0, given_of q e'.what e'.left moving ∙ ap reverse t.1 ∙ in_order t.0 c.world.served (taking call x) ∙ ap (λ l. l ++ taking call x ∷ reverse t.0) (sym (append-nil (reverse c.world.served))))

  module _ (M : Engine) (f : ℕ) (args : List Value) where
    entry_turns : (k n : ℕ) (w : World) (co : List CollectorCall) → n ≡ count_of w → RanTurns more n (run_entry M k f args w co) (run_entry M k f args (W w) co)
    entry_turns k n w co e =
        let x = run_function M k f (function_at M.program f) args w co in
        let t = function_turns M more k f (function_at M.program f) args w co in
        turn_ran true n w x.what x.left (run_function M k f (function_at M.program f) args (W w) co) e t.0 t.1

    -- behind the start function, what it was given stays
    given_behind : (s : Stepped) (left : ℕ) → (go_on M s left f args).outcome ≢ got_stuck → (ys : List Served) × (given_to (go_on M s left f args) ≡ reverse (ys ++ taken_in s))
    given_behind (next c) left some = ([], given_of false (next c) left tt)
    given_behind (traps k c) left some = ([], given_of false (traps k c) left tt)
    given_behind (no_reply call c) left some = ([], given_of false (no_reply call c) left tt)
    given_behind (bad_reply call r c) left some = ([], given_of false (bad_reply call r c) left tt)
    given_behind stuck left some = absurd (some refl)
    given_behind (ends w vs co) left some =
        let x = run_function M left f (function_at M.program f) args w co in
        let moving = not_stuck true x.what x.left some in
        let k = kept_taken w x.what (function_turns M more left f (function_at M.program f) args w co).1 moving in
        (k.0, given_of true x.what x.left moving ∙ ap reverse k.1)

    behind_turns : (n : ℕ) (w : World) (s : Stepped) (left : ℕ) (e' : Ended) → n ≡ count_of w → GoesOn more s left e' → Keeps w s → RanTurns more n (go_on M s left f args) (go_on M e'.what e'.left f args)
    behind_turns n w (next c) left e' e is k = (ap (λ x. go_on M x.what x.left f args) is, tt)
    behind_turns n w (traps kind c) left e' e is k = (ap (λ x. go_on M x.what x.left f args) is, keeps_ran false n w (traps kind c) left e k)
    behind_turns n w (bad_reply call r c) left e' e is k = (ap (λ x. go_on M x.what x.left f args) is, tt)
    behind_turns n w stuck left e' e is k = (ap (λ x. go_on M x.what x.left f args) is, tt)
    behind_turns n w (ends w' vs co) left e' e is k =
        let one = run_entry M left f args w' co in
        subst (λ x. RanTurns more n one (go_on M x.what x.left f args)) (sym is) (entry_turns left n w' co (e ∙ sym k.count))
    behind_turns n w (no_reply call c) left e' e asks k = (takes, keeps_ran false n w (no_reply call c) left e k)
      where
        not_stuck_start : (s : Stepped) (left : ℕ) → (go_on M s left f args).outcome ≢ got_stuck → NotStuck s
        not_stuck_start (next c) left h = tt
        not_stuck_start (ends w vs co) left h = tt
        not_stuck_start (traps k c) left h = tt
        not_stuck_start (no_reply call c) left h = tt
        not_stuck_start (bad_reply call r c) left h = tt
        not_stuck_start stuck left h = absurd (h refl)

        takes : TakesNext more call ((go_on M e'.what e'.left f args).outcome ≢ got_stuck) (reverse c.world.served ++ []) (given_to (go_on M e'.what e'.left f args))
        takes x rest is some =
            let t = asks x rest is (not_stuck_start e'.what e'.left some) in
            let b = given_behind e'.what e'.left some in
            let zs = b.0 ++ t.0 in
            let all : b.0 ++ taken_in e'.what ≡ zs ++ taking call x ∷ c.world.served = ap (λ l. b.0 ++ l) t.1 ∙ sym (append_assoc b.0 t.0 (taking call x ∷ c.world.served)) in
            (reverse zs, b.1 ∙ ap reverse all ∙ in_order zs c.world.served (taking call x) ∙ ap (λ l. l ++ taking call x ∷ reverse zs) (sym (append-nil (reverse c.world.served))))

    invoked_turns : (start : Option ℕ) (k n : ℕ) (w : World) → n ≡ count_of w → RanTurns more n (invoked M start k f args w) (invoked M start k f args (W w))
    invoked_turns None k n w e = entry_turns k n w [] e
    invoked_turns (Some start) k n w e =
        let x = run_function M k start (function_at M.program start) [] w [] in
        let t = function_turns M more k start (function_at M.program start) [] w [] in
        behind_turns n w x.what x.left (run_function M k start (function_at M.program start) [] (W w) []) e t.0 t.1

-- ---- a list

-- the last invocation did not get stuck
abbrev pub LastMoves : List Ran → Type 0
LastMoves rs = (at : Ran) → last_of rs ≡ Some at → at.outcome ≢ got_stuck

-- the list ends lacking a reply for this call, behind so many that were given; on more it is given next
pub record Lacks (more : List Reply) (n : ℕ) (rs others : List Ran) : Type 0 where
  pub call : HostCall
  pub at : Ran
  pub last : last_of rs ≡ Some at
  pub outcome : at.outcome ≡ lacks_reply call
  pub count : length (given_in rs) ≡ n
  pub takes : TakesNext more call (LastMoves others) (given_in rs) (given_in others)

abbrev pub Next : List Reply → ℕ → (rs others : List Ran) → Type 0
Next more n rs others = (given_in others ≡ given_in rs) ⊎ Lacks more n rs others

-- whether calls are torn does not depend on replies that are left
abbrev pub IsBlind : List Reply → Tells → Type 0
IsBlind more tell = (o : Outcome) (calls : List CollectorCall) (last : Option Config) → torn_in (tell o calls (option_map (config_more more) last)) ≡ torn_in (tell o calls last)

last_behind : (r s : Ran) (rs : List Ran) → last_of rs ≡ Some s → last_of (r ∷ rs) ≡ Some s
last_behind r s [] e = absurd cc
last_behind r s (q ∷ rs) e = e

-- one more in front, which is given the same in both
behind : (more : List Reply) (n k : ℕ) (r s : Ran) (rs others : List Ran) → given_to s ≡ given_to r → n ≡ length (given_to r) + k → Next more k rs others → Next more n (r ∷ rs) (s ∷ others)
behind more n k r s rs others same count (inl e) = inl (ap (λ l. l ++ given_in others) same ∙ ap (λ l. given_to r ++ l) e)
behind more n k r s rs others same count (inr x) = inr (record {
  call = x.call;
  at = x.at;
  last = last_behind r x.at rs x.last;
  outcome = x.outcome;
  count = omega (arith, length-append (given_to r) (given_in rs), x.count, count);
  takes = λ y rest is moves. (let t = x.takes y rest is (λ at e. moves at (last_behind s at others e)) in
      (t.0, ap (λ l. l ++ given_in others) same ∙ ap (λ l. given_to r ++ l) t.1 ∙ sym (append_assoc (given_to r) (given_in rs) (taking x.call y ∷ t.0))));
})

module _ (more : List Reply) (tell : Tells) (blind : IsBlind more tell) (M : Engine) where
  abbrev V : World → World
  V = world_more more

  abbrev tail : List Invocation → World → Ran → List Ran
  tail is w r = if goes_on r.outcome r.entered then session M is None (fresh r.last w) r.left else []

  abbrev torn_at_ : Ran → Option ℕ
  torn_at_ r = torn_in (told tell r)

  no_tail : (q : Option ℕ) → unless_torn q [] ≡ []
  no_tail None = refl
  no_tail (Some at) = refl

  -- where it lacks a reply nothing comes behind it
  lacks_alone : (n : ℕ) (call : HostCall) (r s : Ran) (rest others : List Ran) → rest ≡ [] → r.outcome ≡ lacks_reply call → length (given_to r) ≡ n → (s.outcome ≡ got_stuck → others ≡ []) → TakesNext more call (s.outcome ≢ got_stuck) (given_to r) (given_to s) → Next more n (r ∷ rest) (s ∷ others)
  lacks_alone n call r s rest others none is count alone takes = subst (λ l. Next more n (r ∷ l) (s ∷ others)) (sym none) (inr (record {
    call = call;
    at = r;
    last = refl;
    outcome = is;
    count = ap length (append-nil (given_to r)) ∙ count;
    takes = λ x rest is moves. (let t = takes x rest is (λ stuck. moves s (ap (λ l. last_of (s ∷ l)) (alone stuck)) stuck) in (
      t.0 ++ given_in others,
      ap (λ l. l ++ given_in others) t.1 ∙ append_assoc (given_to r) (taking call x ∷ t.0) (given_in others) ∙ ap (λ l. l ++ taking call x ∷ (t.0 ++ given_in others)) (sym (append-nil (given_to r))),
    ));
  }))

  -- behind one that is the same in both
  same_behind : (is : List Invocation) (n : ℕ) (w : World) (r : Ran) → ((w : World) (k : ℕ) → Next more (count_of w) (up_to_torn tell (session M is None w k)) (up_to_torn tell (session M is None (V w) k)))
      → (goes_on r.outcome r.entered ≡ true → Leaves n r)
      → Next more n (r ∷ unless_torn (torn_at_ r) (up_to_torn tell (tail is w r))) (ran_more more r ∷ unless_torn (torn_at_ (ran_more more r)) (up_to_torn tell (tail is (V w) (ran_more more r))))
  same_behind is n w r ih leaves =
      subst (λ q. Next more n (r ∷ unless_torn (torn_at_ r) (up_to_torn tell (tail is w r))) (ran_more more r ∷ unless_torn q (up_to_torn tell (tail is (V w) (ran_more more r))))) (sym (blind r.outcome r.collected r.last))
      (by_torn (torn_at_ r))
    where
      one : (xs ys : List Ran) → xs ≡ [] → ys ≡ [] → Next more n (r ∷ xs) (ran_more more r ∷ ys)
      one xs ys ex ey = inl (ap (λ l. given_to r ++ given_in l) ey ∙ sym (ap (λ l. given_to r ++ given_in l) ex))

      by_going : (g : Bool) → goes_on r.outcome r.entered ≡ g
          → Next more n (r ∷ up_to_torn tell (if g then session M is None (fresh r.last w) r.left else [])) (ran_more more r ∷ up_to_torn tell (if g then session M is None (fresh (option_map (config_more more) r.last) (V w)) r.left else []))
      by_going false e = one [] [] refl refl
      by_going true e =
          let x = leaves e in
          let inner = ih (fresh (Some x.last) w) r.left in
          let there = behind more n (count_of (fresh (Some x.last) w)) r (ran_more more r) (up_to_torn tell (session M is None (fresh (Some x.last) w) r.left)) (up_to_torn tell (session M is None (fresh (Some (config_more more x.last)) (V w)) r.left)) refl (omega (arith, x.count)) inner in
          subst (λ o. Next more n (r ∷ up_to_torn tell (session M is None (fresh o w) r.left)) (ran_more more r ∷ up_to_torn tell (session M is None (fresh (option_map (config_more more) o) (V w)) r.left))) (sym x.is) there

      by_torn : (q : Option ℕ) → Next more n (r ∷ unless_torn q (up_to_torn tell (tail is w r))) (ran_more more r ∷ unless_torn q (up_to_torn tell (tail is (V w) (ran_more more r))))
      by_torn (Some at) = one [] [] refl refl
      by_torn None = by_going (goes_on r.outcome r.entered) refl

  rest_next : (is : List Invocation) (n : ℕ) (w : World) (r s : Ran) → ((w : World) (k : ℕ) → Next more (count_of w) (up_to_torn tell (session M is None w k)) (up_to_torn tell (session M is None (V w) k)))
      → RanTurns more n r s → Next more n (up_to_torn tell (r ∷ tail is w r)) (up_to_torn tell (s ∷ tail is (V w) s))
  rest_next is n w r s ih t = by_outcome r.outcome refl t.0 t.1
    where
      alike : s ≡ ran_more more r → (goes_on r.outcome r.entered ≡ true → Leaves n r) → Next more n (up_to_torn tell (r ∷ tail is w r)) (up_to_torn tell (s ∷ tail is (V w) s))
      alike same leaves = subst (λ z. Next more n (up_to_torn tell (r ∷ tail is w r)) (up_to_torn tell (z ∷ tail is (V w) z))) (sym same) (same_behind is n w r ih leaves)

      stops : (o : Outcome) → r.outcome ≡ o → goes_on o r.entered ≡ false → goes_on r.outcome r.entered ≡ true → Leaves n r
      stops o e none going = let clash : false ≡ true = sym none ∙ sym (ap (λ x. goes_on x r.entered) e) ∙ going in absurd cc

      by_outcome : (o : Outcome) → r.outcome ≡ o → RanGoes more r o s → RanKeeps n r o → Next more n (up_to_torn tell (r ∷ tail is w r)) (up_to_torn tell (s ∷ tail is (V w) s))
      by_outcome (finished v) e same k = alike same (λ going. k)
      by_outcome (trapped kind) e same k = alike same (λ going. k)
      by_outcome (misfits call reply) e same k = alike same (stops (misfits call reply) e refl)
      by_outcome (not_started cause) e same k = alike same (stops (not_started cause) e refl)
      by_outcome running e same k = alike same (stops running e refl)
      by_outcome got_stuck e same k = alike same (stops got_stuck e refl)
      by_outcome (lacks_reply call) e takes k =
          let none : tail is w r ≡ [] = ap (λ o. if goes_on o r.entered then session M is None (fresh r.last w) r.left else []) e in
          let nothing_behind : unless_torn (torn_at_ r) (up_to_torn tell (tail is w r)) ≡ [] = ap (λ l. unless_torn (torn_at_ r) (up_to_torn tell l)) none ∙ no_tail (torn_at_ r) in
          lacks_alone n call r s (unless_torn (torn_at_ r) (up_to_torn tell (tail is w r))) (unless_torn (torn_at_ s) (up_to_torn tell (tail is (V w) s))) nothing_behind e k
          (λ stuck. ap (λ o. unless_torn (torn_at_ s) (up_to_torn tell (if goes_on o s.entered then session M is None (fresh s.last (V w)) s.left else []))) stuck ∙ no_tail (torn_at_ s)) takes

  session_some : (i : Invocation) (is : List Invocation) (start : Option ℕ) (w : World) (k f : ℕ) → function_export M.program.module_ i.name ≡ Some f → session M (i ∷ is) start w k ≡ invoked M start k f i.args w ∷ tail is w (invoked M start k f i.args w)
  session_some i is start w k f e = rw (e, session) refl

  session_none : (i : Invocation) (is : List Invocation) (start : Option ℕ) (w : World) (k : ℕ) → function_export M.program.module_ i.name ≡ None → session M (i ∷ is) start w k ≡ []
  session_none i is start w k e = rw (e, session) refl

  -- of lists that are these
  next_by : (n : ℕ) (xs ys rs ss : List Ran) → xs ≡ rs → ys ≡ ss → Next more n (up_to_torn tell rs) (up_to_torn tell ss) → Next more n (up_to_torn tell xs) (up_to_torn tell ys)
  next_by n xs ys rs ss e f h = subst (λ l. Next more n (up_to_torn tell l) (up_to_torn tell ys)) (sym e) (subst (λ l. Next more n (up_to_torn tell rs) (up_to_torn tell l)) (sym f) h)

  pub session_next : (is : List Invocation) (start : Option ℕ) (w : World) (k : ℕ) → Next more (count_of w) (up_to_torn tell (session M is start w k)) (up_to_torn tell (session M is start (V w) k))
  session_next [] start w k = inl refl
  session_next (i ∷ is) start w k = by_export (function_export M.program.module_ i.name) refl (λ w k. session_next is None w k)
    where
      by_export : (o : Option ℕ) → function_export M.program.module_ i.name ≡ o → ((w : World) (k : ℕ) → Next more (count_of w) (up_to_torn tell (session M is None w k)) (up_to_torn tell (session M is None (V w) k)))
          → Next more (count_of w) (up_to_torn tell (session M (i ∷ is) start w k)) (up_to_torn tell (session M (i ∷ is) start (V w) k))
      by_export None q ih = next_by (count_of w) (session M (i ∷ is) start w k) (session M (i ∷ is) start (V w) k) [] [] (session_none i is start w k q) (session_none i is start (V w) k q) (inl refl)
      by_export (Some f) q ih =
          let r = invoked M start k f i.args w in
          let s = invoked M start k f i.args (V w) in
          next_by (count_of w) (session M (i ∷ is) start w k) (session M (i ∷ is) start (V w) k) (r ∷ tail is w r) (s ∷ tail is (V w) s) (session_some i is start w k f q) (session_some i is start (V w) k f q)
          (rest_next is (count_of w) w r s ih (invoked_turns more M f i.args start k (count_of w) w refl))

-- ---- what is told of invocations

plain_blind : (more : List Reply) (o : Outcome) (last : Option Config) → torn_in (plain_telling o (option_map (config_more more) last)) ≡ torn_in (plain_telling o last)
plain_blind more (finished v) last = refl
plain_blind more (trapped kind) (Some c) = refl
plain_blind more (trapped kind) None = refl
plain_blind more (not_started cause) last = refl
plain_blind more (lacks_reply call) last = refl
plain_blind more (misfits call reply) last = refl
plain_blind more running last = refl
plain_blind more got_stuck last = refl

handed_blind : (more : List Reply) (o : Outcome) (d : Delivery) (last : Option Config) → torn_in (shown_telling (showing o d) o (option_map (config_more more) last)) ≡ torn_in (shown_telling (showing o d) o last)
handed_blind more (finished v) nothing last = plain_blind more (finished v) last
handed_blind more (finished v) (whole d) last = refl
handed_blind more (finished v) (torn at) last = refl
handed_blind more (trapped kind) nothing last = refl
handed_blind more (trapped kind) (whole d) last = refl
handed_blind more (trapped kind) (torn at) last = refl
handed_blind more (not_started cause) d last = plain_blind more (not_started cause) last
handed_blind more (lacks_reply call) d last = plain_blind more (lacks_reply call) last
handed_blind more (misfits call reply) d last = plain_blind more (misfits call reply) last
handed_blind more running d last = plain_blind more running last
handed_blind more got_stuck d last = plain_blind more got_stuck last

pub tells_blind : (more : List Reply) (collect : Bool) (deliver : List CollectorCall → Delivery) → IsBlind more (tells collect deliver)
tells_blind more false deliver o calls last = plain_blind more o last
tells_blind more true deliver o calls last = handed_blind more o (deliver calls) last

-- ---- a run

module _ (more : List Reply) (tell : Tells) (blind : IsBlind more tell) (M : Engine) (is : List Invocation) (n : ℕ) (replies : List Reply) where
  unless_next : (c : Option Cause) → Next more (length replies) (up_to_torn tell (unless M c is replies n)) (up_to_torn tell (unless M c is (replies ++ more) n))
  unless_next None =
      let all : count_of (start_world M.program.module_ replies) ≡ length replies = omega arith in
      subst (λ k. Next more k (up_to_torn tell (unless M None is replies n)) (up_to_torn tell (unless M None is (replies ++ more) n))) all (session_next more tell blind M is M.program.module_.start (start_world M.program.module_ replies) n)
  unless_next (Some cause) = inl refl

pub run_next : (more : List Reply) (tell : Tells) → IsBlind more tell → (p : Program) (collecting : Bool) (is : List Invocation) (d n : ℕ) (replies : List Reply)
    → Next more (length replies) (up_to_torn tell (run p collecting is replies d n)) (up_to_torn tell (run p collecting is (replies ++ more) d n))
run_next more tell blind p collecting is d n replies = unless_next more tell blind (engine p collecting d) is n replies (cause_of p.module_ is)

-- one invocation of a new instance
pub invoked_next : (more : List Reply) (M : Engine) (f : ℕ) (args : List Value) (start : Option ℕ) (k : ℕ) (replies : List Reply)
    → Next more (length replies) (invoked M start k f args (start_world M.program.module_ replies) ∷ []) (invoked M start k f args (start_world M.program.module_ (replies ++ more)) ∷ [])
invoked_next more M f args start k replies = by_outcome one.outcome refl t.0 t.1
  where
    one : Ran
    one = invoked M start k f args (start_world M.program.module_ replies)

    other : Ran
    other = invoked M start k f args (start_world M.program.module_ (replies ++ more))

    all : length replies ≡ count_of (start_world M.program.module_ replies)
    all = omega arith

    t : RanTurns more (length replies) one other
    t = invoked_turns more M f args start k (length replies) (start_world M.program.module_ replies) all

    alike : other ≡ ran_more more one → Next more (length replies) (one ∷ []) (other ∷ [])
    alike same = inl (ap (λ r. given_in (r ∷ [])) same)

    unseen : Tells
    unseen = tells false (λ calls. nothing)

    by_outcome : (o : Outcome) → one.outcome ≡ o → RanGoes more one o other → RanKeeps (length replies) one o → Next more (length replies) (one ∷ []) (other ∷ [])
    by_outcome (finished v) e same kept = alike same
    by_outcome (trapped kind) e same kept = alike same
    by_outcome (misfits call reply) e same kept = alike same
    by_outcome (not_started cause) e same kept = alike same
    by_outcome running e same kept = alike same
    by_outcome got_stuck e same kept = alike same
    by_outcome (lacks_reply call) e takes kept = lacks_alone more unseen (tells_blind more false (λ calls. nothing)) M (length replies) call one other [] [] refl e kept (λ stuck. refl) takes
