-- Lists of calls by names and by entries of the table do not look at offsets.
use Rattle.std.proofs.Common.{◌≡◌, ℕ, ◌+◌, List, [], ◌∷◌, length, map, slice_get, Option, Some, None, Bool, true, false, refl, sym, ap, ap₂, ◌∙◌, subst, option_map, if◌then◌else◌}
use Rattle.std.proofs.lemmas.Option.{slice_get-map}
use Rattle.std.specs.Option.{option_or}
use Rattle.wasm_syntax.specs.declared.value.Value.TheVariants as values
use Rattle.wasm_syntax.specs.declared.host.Reply.{Reply}
use Rattle.wasm_syntax.specs.declared.module.ModuleParts.{ModuleParts as Module}
use Rattle.wasm_syntax.specs.Module.{Program}
use Rattle.wasm_syntax.specs.Host.{World}
use Rattle.wasm_syntax.specs.Machine.{Config, Engine}
use Rattle.wasm_syntax.specs.Run.{Cause, Ran, invoked, goes_on, fresh, start_table, start_world, cause_of_entry, engine}
use Rattle.wasm_syntax.specs.SameCode.{code_alone}
use Rattle.rewrite_modules.specs.calls.Bare.{bare, bare_config, bare_ran}
use Rattle.rewrite_modules.specs.Simulates.{AllAlike}
use Rattle.rewrite_modules.specs.Entries.{Target, Named, Entry, Calling, function_of, cause_of_calls, call_session, unless_cause, run_calls, SimulatesEntries, EntriesLowerFlag}
use Rattle.rewrite_modules.proofs.BareStep.{bare_engine}
use Rattle.rewrite_modules.proofs.BareRuns.{fresh_bare, invoked_bare, table_bare, world_same, cause_same, all_to, all_from, last_from}
use Rattle.pm_text.proofs.Lists.{some_is}

abbrev pub rest_of : Engine → List Calling → World → Ran → List Ran
rest_of K cs w r = if goes_on r.outcome r.entered then call_session K cs None (fresh r.last w) r.left else []

pub calls_some : (K : Engine) (c : Calling) (cs : List Calling) (st : Option ℕ) (w : World) (n f : ℕ) → function_of K.program.module_ w.table c.target ≡ Some f → call_session K (c ∷ cs) st w n ≡ invoked K st n f c.args w ∷ rest_of K cs w (invoked K st n f c.args w)
calls_some K c cs st w n f e = rw (e, call_session) refl

pub calls_none : (K : Engine) (c : Calling) (cs : List Calling) (st : Option ℕ) (w : World) (n : ℕ) → function_of K.program.module_ w.table c.target ≡ None → call_session K (c ∷ cs) st w n ≡ []
calls_none K c cs st w n e = rw (e, call_session) refl

-- a function is found by its name, or in the table
same_function : (m : Module) (table : List (Option ℕ)) (t : Target) → function_of (code_alone m) table t ≡ function_of m table t
same_function m table (Named name) = refl
same_function m table (Entry i) = refl

module _ (M : Engine) where
  abbrev N : Engine
  N = bare_engine M

  calls_bare : (cs : List Calling) (st : Option ℕ) (w : World) (n : ℕ) → call_session N cs st w n ≡ map bare_ran (call_session M cs st w n)
  calls_bare [] st w n = refl
  calls_bare (c ∷ cs) st w n = by_function (function_of M.program.module_ w.table c.target) refl (λ v k. calls_bare cs None v k)
    where
      by_going : (q : Bool) (r : Ran) → ((v : World) (k : ℕ) → call_session N cs None v k ≡ map bare_ran (call_session M cs None v k)) → (if q then call_session N cs None (fresh (bare_ran r).last w) r.left else []) ≡ map bare_ran (if q then call_session M cs None (fresh r.last w) r.left else [])
      by_going false r ih = refl
      by_going true r ih = ap (λ v. call_session N cs None v r.left) (fresh_bare r.last w) ∙ ih (fresh r.last w) r.left

      by_function : (q : Option ℕ) → function_of M.program.module_ w.table c.target ≡ q → ((v : World) (k : ℕ) → call_session N cs None v k ≡ map bare_ran (call_session M cs None v k)) → call_session N (c ∷ cs) st w n ≡ map bare_ran (call_session M (c ∷ cs) st w n)
      by_function None e ih = calls_none N c cs st w n (same_function M.program.module_ w.table c.target ∙ e) ∙ sym (ap (map bare_ran) (calls_none M c cs st w n e))
      by_function (Some f) e ih =
          let r = invoked M st n f c.args w in
          calls_some N c cs st w n f (same_function M.program.module_ w.table c.target ∙ e)
          ∙ ap (λ r. r ∷ rest_of N cs w r) (invoked_bare M st n f c.args w)
          ∙ ap (λ z. bare_ran (invoked M st n f c.args w) ∷ z) (by_going (goes_on r.outcome r.entered) r ih)
          ∙ sym (ap (map bare_ran) (calls_some M c cs st w n f e))

causes_bare : (m : Module) (cs : List Calling) → cause_of_calls (code_alone m) cs ≡ cause_of_calls m cs
causes_bare m [] = cause_same m []
causes_bare m (c ∷ cs) =
    ap₂ option_or (ap (λ q. cause_of_entry m q c.args) (ap (λ t. function_of (code_alone m) t c.target) (table_bare m) ∙ same_function m (start_table m) c.target)) (causes_bare m cs)

unless_bare : (M : Engine) (c : Option Cause) (cs : List Calling) (replies : List Reply) (n : ℕ) → unless_cause (bare_engine M) c cs replies n ≡ map bare_ran (unless_cause M c cs replies n)
unless_bare M None cs replies n = ap (λ w. call_session (bare_engine M) cs M.program.module_.start w n) (world_same M.program.module_ replies) ∙ calls_bare M cs M.program.module_.start (start_world M.program.module_ replies) n
unless_bare M (Some c) cs replies n = refl

run_bare : (p : Program) (collecting : Bool) (cs : List Calling) (replies : List Reply) (d n : ℕ) → run_calls (bare p) collecting cs replies d n ≡ map bare_ran (run_calls p collecting cs replies d n)
run_bare p collecting cs replies d n =
    ap (λ c. unless_cause (engine (bare p) collecting d) c cs replies n) (causes_bare p.module_ cs) ∙ unless_bare (engine p collecting d) (cause_of_calls p.module_ cs) cs replies n

calls_alike : (p q : Program) → bare p ≡ bare q → (collecting : Bool) (cs : List Calling) (replies : List Reply) (d n : ℕ) → map bare_ran (run_calls p collecting cs replies d n) ≡ map bare_ran (run_calls q collecting cs replies d n)
calls_alike p q e collecting cs replies d n = sym (run_bare p collecting cs replies d n) ∙ ap (λ x. run_calls x collecting cs replies d n) e ∙ run_bare q collecting cs replies d n

-- a module that is the rewritten one but for offsets does the same behind its table
pub entries_bare : (factor : ℕ) (p q r : Program) → bare r ≡ bare q → SimulatesEntries factor p q → SimulatesEntries factor p r
entries_bare factor p q r e s cs replies d n d1 d2 reach nd =
    let x = s cs replies d n d1 d2 reach nd in
    let one = run_calls p false cs replies d n in
    let same = calls_alike q r (sym e) true cs replies (d + 2) x.0 in
    (x.0, x.1, x.2, all_from one (run_calls r true cs replies (d + 2) x.0) (subst (AllAlike one) same (all_to one (run_calls q true cs replies (d + 2) x.0) x.3)))

pub entries_lower_bare : (p q r : Program) → bare r ≡ bare q → EntriesLowerFlag p q → EntriesLowerFlag p r
entries_lower_bare p q r e h cs replies d n i k x c d1 d2 reach nd at o l =
    let one = run_calls q true cs replies (d + 2) n in
    let two = run_calls r true cs replies (d + 2) n in
    let there : slice_get (map bare_ran one) i ≡ Some (bare_ran x) = ap (λ z. slice_get z i) (calls_alike q r (sym e) true cs replies (d + 2) n) ∙ slice_get-map bare_ran two i ∙ ap (option_map bare_ran) at in
    by_there (slice_get one i) refl (sym (slice_get-map bare_ran one i) ∙ there)
  where
    by_there : (o1 : Option Ran) → slice_get (run_calls q true cs replies (d + 2) n) i ≡ o1 → option_map bare_ran (slice_get (run_calls q true cs replies (d + 2) n) i) ≡ Some (bare_ran x) → slice_get c.world.globals (length p.module_.globals) ≡ Some (values.I32 0)
    by_there None g t = let z : option_map bare_ran None ≡ Some (bare_ran x) = subst (λ w. option_map bare_ran w ≡ Some (bare_ran x)) g t in absurd (cc)
    by_there (Some y) g t =
        let same : bare_ran y ≡ bare_ran x = some_is (subst (λ w. option_map bare_ran w ≡ Some (bare_ran x)) g t) in
        let b = last_from y.last c (ap (λ z. z.last) same ∙ ap (option_map bare_config) l) in
        let at_b = h cs replies d n i k y b.0 d1 d2 reach nd g (ap (λ z. z.outcome) same ∙ o) b.1 in
        subst (λ z. slice_get z.world.globals (length p.module_.globals) ≡ Some (values.I32 0)) b.2 at_b
