-- What the rewriting of a self-test hands over when it is run.
use Rattle.std.proofs.Common.{◌≡◌, ℕ, suc, ◌+◌, ◌-◌, ◌*◌, ◌≤◌, List, [], ◌∷◌, length, map, slice_get, Option, Some, None, option_map, Bool, true, false, refl, sym, ap, subst, ◌∙◌, arith}
use Rattle.std.specs.List.{range_with_len}
use Rattle.std.specs.Prelude.{codes}
use Rattle.std.proofs.Math.Nat.{mul-le-mul}
use Rattle.std.proofs.lemmas.List.{length-map}
use Rattle.wasm_syntax.specs.declared.module.ModuleParts.{ModuleParts as Module}
use Rattle.wasm_syntax.specs.SameCode.{code_alone}
use Rattle.wasm_syntax.specs.Module.{Program, IsProgram, IsModule}
use Rattle.wasm_syntax.specs.Machine.{Config}
use Rattle.wasm_syntax.specs.Run.{Outcome, not_started, finished, trapped, lacks_reply, misfits, running, got_stuck, Ran, ran, run}
use Rattle.wasm_syntax.specs.Valid.{Valid}
use Rattle.wasm_laws.specs.calls.Runs.{with_more}
use Rattle.wasm_laws.proofs.Longer.{longer_run}
use Rattle.rewrite_modules.specs.calls.Bare.{bare, bare_frame, bare_config, bare_ran}
use Rattle.rewrite_modules.specs.Instrumentable.{program_of}
use Rattle.rewrite_modules.specs.Multiple.{multiple}
use Rattle.rewrite_modules.specs.Simulates.{Shows, EndsAlike, AllAlike, NoneDeep}
use Rattle.rewrite_modules.proofs.BareRuns.{runs_alike}
use Rattle.rewrite_modules.proofs.WrittenOut.{program_bare, same_bare}
use Rattle.rewrite_promise.specs.Admitted.{Admits}
use Rattle.selftest_command.specs.Selftest.{selftest}
use Rattle.selftest_command.specs.Handing.{main_on, RunsOnce, Divides, HandsOver, HandsAllOver}
use Rattle.wasm_laws.proofs.OneProgram.{same_program}
use Rattle.selftest_command.proofs.Programs.{program}
use Rattle.selftest_command.proofs.Trapped.{Traps, traps_so}
use Rattle.selftest_command.proofs.Bodies.{like}
use Rattle.selftest_command.proofs.Light.{framed, multiple_few}
use Rattle.selftest_command.proofs.Whole.{all_write}
use Rattle.pm_text.proofs.Lists.{some_is}

-- ---- the same run without offsets

writes : (n : ℕ) → IsProgram (program n)
unfolding selftest
writes n = all_write n (range_with_len 0 n)

abbrev Invoking : ℕ → Program → ℕ → List Ran
Invoking n p steps = run p false (main_on n ∷ []) [] 1000 steps

-- one run, which divides by zero
record Trapped (n : ℕ) (rs : List Ran) : Type 0 where
  one : Ran
  is : rs ≡ one ∷ []
  divides : Divides n one

same_frames : (c d : Config) → bare_config c ≡ bare_config d → length c.frames ≡ length d.frames
same_frames c d e = sym (length-map c.frames bare_frame) ∙ ap (λ (x : Config). length x.frames) e ∙ length-map d.frames bare_frame

of_bare : (n : ℕ) (rs : List Ran) (last : Config) (left : ℕ) → length last.frames ≡ n → map bare_ran rs ≡ bare_ran (ran (trapped 2) true last left) ∷ [] → Trapped n rs
of_bare n [] last left frames e = absurd cc
of_bare n (r ∷ s ∷ rs) last left frames e = absurd cc
of_bare n (r ∷ []) last left frames e = by_last r.last refl
  where
    same : bare_ran r ≡ bare_ran (ran (trapped 2) true last left)
    same = ap (λ l. elim l [ [] ↦ bare_ran r | x ∷ xs ↦ x ]) e

    by_last : (o : Option Config) → r.last ≡ o → Trapped n (r ∷ [])
    by_last None f = let clash : None ≡ Some (bare_config last) = sym (ap (option_map bare_config) f) ∙ ap (λ (x : Ran). x.last) same in absurd cc
    by_last (Some c) f = record {
      one = r;
      is = refl;
      divides = record {
        outcome = ap (λ (x : Ran). x.outcome) same;
        at = c;
        last = f;
        frames = same_frames c last (some_is (sym (ap (option_map bare_config) f) ∙ ap (λ (x : Ran). x.last) same)) ∙ frames;
      };
    }

original_traps : (n : ℕ) (m : Module) (whole : IsModule m) (t : Traps n) → code_alone m ≡ code_alone (selftest n) → (left : ℕ) → Trapped n (Invoking n (program_of m whole) (t.steps + suc left))
original_traps n m whole t same left =
    let p = program n in
    let q = program_of m whole in
    let e : bare p ≡ bare q = same_bare p q (program_bare p (writes n)) (program_bare q whole.write) (sym same) in
    of_bare n (Invoking n q (t.steps + suc left)) t.last left t.frames (sym (runs_alike p q e false (main_on n ∷ []) [] 1000 (t.steps + suc left)) ∙ ap (map bare_ran) (t.runs left))

-- ---- more steps

not_running : (kind : ℕ) → trapped kind ≡ running → ⊥
not_running kind e = absurd cc

divides_still : (n more : ℕ) (r : Ran) → Divides n r → Divides n (with_more more r)
divides_still n more r d = record { outcome = d.outcome; at = d.at; last = d.last; frames = d.frames }

hands_still : (at : Config) (more : ℕ) (r : Ran) → HandsOver at r → HandsOver at (with_more more r)
hands_still at more r h = record {
  there = h.there;
  last = h.last;
  shows = record { trapped_too = h.shows.trapped_too; whole = h.shows.whole; kind = h.shows.kind; dump = h.shows.dump; bytes = h.shows.bytes };
  one_dump = h.one_dump;
}

-- one run that trapped stays with more steps, where they are a run too
stays_one : (p : Program) (collecting : Bool) (n d steps more : ℕ) (one r : Ran) (kind : ℕ) → steps ≤ more → one.outcome ≡ trapped kind → run p collecting (main_on n ∷ []) [] d steps ≡ one ∷ [] → run p collecting (main_on n ∷ []) [] d more ≡ r ∷ []
    → r ≡ with_more (more - steps) one
stays_one p collecting n d steps more one r kind le outcome is runs =
    let stays = longer_run p collecting (main_on n ∷ []) [] d steps more le 0 one (ap (λ l. slice_get l 0) is) (λ so. not_running kind (sym outcome ∙ so)) in
    some_is (ap (λ l. slice_get l 0) (sym runs) ∙ stays)

-- ---- the rewritten module

abbrev kind_of : Outcome → ℕ
kind_of (trapped kind) = kind
kind_of (not_started cause) = 0
kind_of (finished v) = 0
kind_of (lacks_reply call) = 0
kind_of (misfits call reply) = 0
kind_of running = 0
kind_of got_stuck = 0

not_deep : trapped 2 ≡ trapped 8 → ⊥
not_deep e = let clash : 2 ≡ 8 = ap kind_of e in omega (arith, clash)

-- one run that hands this configuration over
record Shown (at : Config) (rs : List Ran) : Type 0 where
  one : Ran
  is : rs ≡ one ∷ []
  hands : HandsOver at one

hands_by : (c b : Config) (other : Ran) → other.last ≡ Some b → Shows 2 c b other → HandsOver c other
hands_by c b other last shows = record { there = b; last = last; shows = shows; one_dump = shows.bytes (codes "module") (omega arith) }

shown_by : (r : Ran) (c : Config) (others : List Ran) → r.outcome ≡ trapped 2 → r.last ≡ Some c → AllAlike (r ∷ []) others → Shown c others
shown_by r c [] outcome last h = absurd h
shown_by r c (o ∷ p ∷ os) outcome last h = absurd h.1
shown_by r c (o ∷ []) outcome last h = by_last o.last refl (subst (λ x. EndsAlike (trapped 2) x o.last o) last (subst (λ x. EndsAlike x r.last o.last o) outcome h.0.ends))
  where
    by_last : (b : Option Config) → o.last ≡ b → EndsAlike (trapped 2) (Some c) b o → Shown c (o ∷ [])
    by_last None f e = absurd e
    by_last (Some b) f e = record { one = o; is = refl; hands = hands_by c b o f e }

few_steps : (steps n factor : ℕ) → steps ≤ 40 * n → n ≤ 900 → factor ≤ 544 → (steps + 1 + 2 * 1) * factor ≤ 100000000
few_steps steps n factor few most small = let a : steps + 1 + 2 * 1 ≤ 36003 = omega (arith, few, most) in let k = mul-le-mul a small in omega (arith, k)

abbrev Rewritten : ℕ → Program → ℕ → List Ran
Rewritten n p steps = run p true (main_on n ∷ []) [] 1002 steps

record ShownIn (n : ℕ) (at : Config) (other : Program) : Type 0 where
  steps : ℕ
  few : steps ≤ 100000000
  shown : Shown at (Rewritten n other steps)

-- ---- both

module _ (n : ℕ) (m : Module) (bytes : List ℕ) (a : Admits m bytes) (some : 1 ≤ n) (most : n ≤ 900) (valid : Valid m) (same : code_alone m ≡ code_alone (selftest n)) where
  abbrev t : Traps n
  t = traps_so n some most

  abbrev q : Program
  q = program_of m a.whole

  abbrev other : Program
  other = program_of a.decoded a.decoded_whole

  soon : Trapped n (Invoking n q (t.steps + 1))
  soon = original_traps n m a.whole t same 0

  in_time : t.steps + 1 ≤ 100000000
  in_time = omega (arith, t.few, most)

  later : Trapped n (Invoking n q 100000000)
  later =
      let e : t.steps + suc (100000000 - (t.steps + 1)) ≡ 100000000 = omega (arith, in_time) in
      subst (λ k. Trapped n (Invoking n q k)) e (original_traps n m a.whole t same (100000000 - (t.steps + 1)))

  original : RunsOnce false n m
  original = record {
    program = q;
    of_module = refl;
    writes_out = a.whole.write;
    ran = with_more (100000000 - (t.steps + 1)) soon.one;
    runs = later.is ∙ ap (λ r. r ∷ []) (stays_one q false n 1000 (t.steps + 1) 100000000 soon.one later.one 2 in_time soon.divides.outcome soon.is later.is);
  }

  shows : ShownIn n soon.divides.at other
  shows =
      let deep : NoneDeep (Invoking n q (t.steps + 1)) = subst NoneDeep (sym soon.is) ((λ e. not_deep (sym soon.divides.outcome ∙ e)), tt) in
      let s = a.simulates (main_on n ∷ []) [] 1000 (t.steps + 1) (omega arith) (omega arith) deep in
      record {
        steps = s.0;
        few = let k = few_steps t.steps n (multiple m a.heights) t.few most (multiple_few n m a.heights valid (like n m same) (framed n m same) a.heights_are) in omega (arith, k, s.2);
        shown = shown_by soon.one soon.divides.at (Rewritten n other s.0) soon.divides.outcome soon.divides.last (subst (λ rs. AllAlike rs (Rewritten n other s.0)) soon.is s.3);
      }

  handed : (r : RunsOnce true n a.decoded) → HandsOver soon.divides.at r.ran
  handed r =
      let runs : Rewritten n other 100000000 ≡ r.ran ∷ [] = subst (λ p. Rewritten n p 100000000 ≡ r.ran ∷ []) (same_program a.decoded r.program other r.of_module refl r.writes_out a.decoded_whole.write) r.runs in
      let k = 100000000 - shows.steps in
      let is : r.ran ≡ with_more k shows.shown.one = stays_one other true n 1002 shows.steps 100000000 shows.shown.one r.ran 1 shows.few shows.shown.hands.shows.trapped_too shows.shown.is runs in
      subst (HandsOver soon.divides.at) (sym is) (hands_still soon.divides.at k shows.shown.one shows.shown.hands)

  pub hands_over : HandsAllOver n m a.decoded
  unfolding original divides_still soon
  hands_over = record { one = original; divides = divides_still n (100000000 - (t.steps + 1)) soon.one soon.divides; hands = handed }
