-- The run of the module of a self-test traps in its last function.
use Rattle.std.proofs.Common.{◌≡◌, ℕ, suc, ◌+◌, ◌-◌, ◌*◌, ◌≤◌, [], ◌∷◌, ◌++◌, length, replicate, slice_get, true, false, if◌then◌else◌, Some, None, option_map, refl, ap, ◌∙◌, arith}
use Rattle.std.proofs.lemmas.List.{length-replicate}
use Rattle.linear_memory.specs.Memory.{page_size}
use Rattle.wasm_syntax.specs.declared.value.ValType.TheVariants.{I32}
use Rattle.wasm_syntax.specs.declared.parts.FuncType.{FuncType}
use Rattle.wasm_syntax.specs.Module.{same_types, option_then, declared_locals}
use Rattle.wasm_syntax.specs.Numbers.{types}
use Rattle.wasm_syntax.specs.Host.{World}
use Rattle.wasm_syntax.specs.Machine.{Engine, Config, config, frame, label, returns, zeros}
use Rattle.wasm_syntax.specs.Run.{cause_of, if_fits, start_world, Ended, Ran, ran, ran_to, trapped, goes_on, invoked, run_function, run_steps, unless, engine, run}
use Rattle.selftest_command.specs.Selftest.{selftest}
use Rattle.selftest_command.specs.Handing.{main_on}
use Rattle.selftest_command.proofs.RunsOn.{two_to_one, HasPage, down}
use Rattle.selftest_command.proofs.Programs.{program, has_code}
use Rattle.selftest_command.proofs.Functions.{get_replicate}
use Rattle.std.specs.Option.{option_or}

paged_by : (k : ℕ) (w : World) → w.memory ≡ Some (record { bytes = replicate k 0; max = 4096 }) → k ≡ 65536 → HasPage w
paged_by k w is size = record { memory = record { bytes = replicate k 0; max = 4096 }; is = is; size = length-replicate {A = ℕ} k 0 ∙ size }

paged : (n : ℕ) → HasPage (start_world (selftest n) [])
unfolding selftest
paged n = paged_by (page_size * 1) (start_world (selftest n) []) refl refl

no_cause : (n : ℕ) → 1 ≤ n → cause_of (selftest n) (main_on n ∷ []) ≡ None
unfolding selftest
no_cause n some = ap (λ o. option_or (if_fits (option_map (λ (type : FuncType). same_types type.params (types (main_on n).args)) (option_then o (λ (t : ℕ). slice_get (two_to_one ∷ []) t)))) None) (get_replicate n 0 some)

-- with so many steps the run has not come to its trap, and with one more it has
pub record Traps (n : ℕ) : Type 0 where
  pub steps : ℕ
  pub few : steps ≤ 40 * n
  pub last : Config
  pub frames : length last.frames ≡ n
  pub runs : (r : ℕ) → run (program n) false (main_on n ∷ []) [] 1000 (steps + suc r) ≡ ran (trapped 2) true last r ∷ []

abbrev ran_of : Ended → Ran
ran_of e = ran_to true e.what e.left

-- of one entry without a start function
one_run : (n N : ℕ) → 1 ≤ n → run (program n) false (main_on n ∷ []) [] 1000 N
    ≡ (let r = invoked (engine (program n) false 1000) None N 0 (main_on n).args (start_world (selftest n) []) in r ∷ (if goes_on r.outcome r.entered then [] else []))
unfolding selftest
one_run n N some = ap (λ c. unless (engine (program n) false 1000) c (main_on n ∷ []) [] N) (no_cause n some)

pub traps_so : (n : ℕ) → 1 ≤ n → n ≤ 900 → Traps n
traps_so n some most =
    let M : Engine = engine (program n) false 1000 in
    let world = start_world (selftest n) [] in
    let h = has_code n 0 some in
    let j : ℕ = n - 1 in
    let all : 0 + suc j ≡ n = omega (arith, some) in
    let t = down (program n) 1000 n most (omega (arith, most)) (has_code n) j 0 n 1 0 h.tree.end [] h.tree.nodes world all refl (paged n) h.follows in
    record {
      steps = t.steps;
      few = omega (arith, t.few, all);
      last = t.last;
      frames = t.frames;
      runs = λ r.
          let N = t.steps + suc r in
          let one : invoked M None N 0 (main_on n).args world ≡ ran (trapped 2) true t.last r =
          ap (λ o. ran_of (run_function M N 0 o (main_on n).args world [])) h.is
          ∙ ap (λ gs. ran_of (run_steps M N (config (frame 0 (Some I32) 0 ((main_on n).args ++ zeros (declared_locals gs)) (label [] h.tree.nodes h.tree.end (returns (Some I32)) ∷ []) ∷ []) world []))) h.no_locals
          ∙ ap ran_of (t.runs r)
          in
          one_run n N some ∙ ap (λ q. q ∷ (if goes_on q.outcome q.entered then [] else [])) one;
    }
