-- What a watch sees of an invocation: the start function and the entry behind it.
use Rattle.std.proofs.Common.{◌≡◌, ℕ, suc, ◌+◌, ◌-◌, ◌≤◌, List, [], ◌∷◌, ◌++◌, reverse, drop, length, length-append, append_assoc, refl, sym, ap, ap₂, subst, ◌∙◌, arith}
use Rattle.std.proofs.lemmas.List.{append-nil}
use Rattle.std.specs.Prelude.{Bool, Option, Some, None, option_map}
use Rattle.wasm_syntax.specs.declared.value.Value.{Value}
use Rattle.wasm_syntax.specs.declared.module.ModuleParts.{ModuleParts as Module}
use Rattle.wasm_syntax.specs.declared.parts.Import.{Import}
use Rattle.wasm_syntax.specs.declared.host.Reply.{Reply}
use Rattle.wasm_syntax.specs.declared.host.CollectorCall.{CollectorCall}
use Rattle.wasm_syntax.specs.Module.{Program, function_at}
use Rattle.wasm_syntax.specs.Host.{World}
use Rattle.wasm_syntax.specs.Machine.{Engine, config, Stepped, next, ends, traps, no_reply, bad_reply, stuck}
use Rattle.wasm_syntax.specs.Run.{Ended, ended, run_function}
use Rattle.machine_code.specs.declared.code.Code.{Code}
use Rattle.machine_steps.specs.declared.machine.Machine.{Machine}
use Rattle.machine_steps.specs.Places.{Place, entry_places, places_on}
use Rattle.machine_steps.proofs.MadeLaws.{function_count, function_none, function_over}
use Rattle.host_devices.specs.calls.HostSides.{Calls}
use Rattle.host_devices.specs.Given.{replies_of}
use Rattle.machine_hosted.specs.declared.answer.RunEnd.{RunEnd}
use Rattle.machine_hosted.specs.declared.answer.RunEnd.TheVariants.{Finished, Trapped, NoReply, BadReply, DeviceFault, FuelSpent, NoMemory}
use Rattle.machine_hosted.specs.calls.Hosted.{replying, Asked, Grew, served_in, told_in, left_in}
use Rattle.machine_hosted.specs.calls.Settings.{world_of}
use Rattle.machine_hosted.specs.calls.Answers.{last_in, FunctionCame, function_going}
use Rattle.machine_hosted.specs.calls.Watching.{IsCount, Watched, function_placing, invocation_placing}
use Rattle.machine_hosted.proofs.WorldLaws.{one_world}
use Rattle.machine_hosted.proofs.StageLaws.{joined, grew_on}
use Rattle.machine_hosted.proofs.JoinLaws.{function_ends}
use Rattle.machine_hosted.proofs.CourseLaws.{replies_on, one_asked}

-- ---- one growth of the lists

pub behind_same : {A : Type 0} (xs ys zs : List A) → xs ++ ys ≡ xs ++ zs → ys ≡ zs
behind_same [] ys zs e = e
behind_same (x ∷ xs) ys zs e = behind_same xs ys zs (ap (drop 1) e)

count_on : (answer : RunEnd) (fuel first steps count : ℕ) → first ≤ fuel → IsCount answer (fuel - first) steps count → IsCount answer fuel (first + steps) (first + count)
count_on (Finished value) fuel first steps count le e = ap (λ n. first + n) e
count_on (Trapped kind) fuel first steps count le e = ap (λ n. first + n) e
count_on NoReply fuel first steps count le e = ap (λ n. first + n) e
count_on (BadReply reply) fuel first steps count le e = ap (λ n. first + n) e
count_on (DeviceFault name) fuel first steps count le e = ap (λ n. first + n) e
count_on FuelSpent fuel first steps count le e = ap (λ n. first + n) e
count_on NoMemory fuel first steps count le e = omega (arith, le, e)

module _ {W : Type 0} (saw : Module → W → List (Option Place) → Type 0) (x : Module) (M : Engine) (m0 : Machine) (f : ℕ) (args : List Value) where
  abbrev w0 : World
  w0 = world_of m0 []

  -- ---- the run ends inside the start function

  nothing_on : (s : Stepped) → places_on M s 0 f args ≡ []
  nothing_on (next c) = refl
  nothing_on (ends w vs co) = function_none M f (function_at M.program f) args w co
  nothing_on (traps kind c) = refl
  nothing_on (no_reply call c) = refl
  nothing_on (bad_reply call r c) = refl
  nothing_on stuck = refl

  -- where each of so many steps is one of the start function
  first_alone : (start : ℕ) (replies : List Reply) (n : ℕ) → length (function_placing M start [] w0 [] replies n) ≡ n → invocation_placing M (Some start) f args w0 replies n ≡ function_placing M start [] w0 [] replies n
  first_alone start replies n made =
      let e = run_function M n start (function_at M.program start) [] (replying w0 replies) [] in
      let places = entry_places M n start [] (replying w0 replies) [] in
      let count = function_count M n start (function_at M.program start) [] (replying w0 replies) [] in
      let none : (run_function M n start (function_at M.program start) [] (replying w0 replies) []).left ≡ 0 = omega (arith, count, made) in
      ap (λ k. places ++ places_on M e.what k f args) none ∙ ap (λ l. places ++ l) (nothing_on e.what) ∙ append-nil places

  pub inside_start : (fuel start : ℕ) (answer : RunEnd) (steps : ℕ) (before now : W) (old new : Calls) → Watched saw x (function_placing M start [] w0 []) fuel answer steps before now old new → Watched saw x (invocation_placing M (Some start) f args w0) fuel answer steps before now old new
  inside_start fuel start answer steps before now old new h = record {
    asked = h.asked;
    grew = h.grew;
    count = h.count;
    is = h.is;
    made = λ more. ap length (first_alone start (replies_of h.asked.given ++ more) h.count (h.made more)) ∙ h.made more;
    sees = λ more seen first. subst (λ l. saw x now (seen ++ l)) (sym (first_alone start (replies_of h.asked.given ++ more) h.count (h.made more))) (h.sees more seen first);
  }

  -- with no step none is made
  pub none_placed : (due : Option ℕ) (replies : List Reply) → invocation_placing M due f args w0 replies 0 ≡ []
  none_placed None replies = function_none M f (function_at M.program f) args (replying w0 replies) []
  none_placed (Some start) replies =
      let none = function_none M start (function_at M.program start) [] (replying w0 replies) [] in
      first_alone start replies 0 (ap length none) ∙ none

  -- ---- the entry behind the start function

  module _ (fuel start : ℕ) (mid : Machine) (made : ℕ) (first_asked : Asked) where
    -- the world behind the start function
    abbrev w1 : World
    w1 = record { globals = mid.shared.globals; memory = option_map (λ k. k.memory) mid.shared.memory; table = mid.table; replies = []; served = reverse first_asked.given ++ [] }

    abbrev co1 : List CollectorCall
    co1 = reverse first_asked.told ++ []

    -- the places of both, where the start function ended in so many steps
    both_places : (p : Program) (codes : List Code) (up : Import → Bool) (v : Option Value) (rest : List Reply) (k : ℕ) → FunctionCame p codes up (function_going M start [] w0 []) w0 [] fuel first_asked (Finished v) made mid rest
        → invocation_placing M (Some start) f args w0 (replies_of first_asked.given ++ rest) (made + k) ≡ function_placing M start [] w0 [] (replies_of first_asked.given ++ rest) made ++ function_placing M f args w1 co1 rest k
    both_places p codes up v rest k a =
        let e = a.answers in
        let kept = a.keeps (config [] e.0 e.2) (ap last_in e.3) in
        let world_is : e.0 ≡ replying w1 rest =
        one_world mid e.0 (replying w1 rest) kept.shares (record { holds = record { globals = refl; memory = refl }; table = refl })
        (sym (ap left_in e.3) ∙ a.served.left) (sym (ap served_in e.3) ∙ a.served.served) in
        let told_is : e.2 ≡ co1 = sym (ap told_in e.3) ∙ a.served.collected in
        let r = function_ends M fuel start (function_at M.program start) [] (replying w0 (replies_of first_asked.given ++ rest)) [] e.0 e.1 e.2 (fuel - made) (a.gives ∙ ap (λ s. ended s (fuel - made)) e.3) in
        let q : suc r.made ≡ made = omega (arith, r.all, a.within) in
        let z : made ≡ made + 0 = omega arith in
        let run : ℕ → Ended = λ n. run_function M n start (function_at M.program start) [] (replying w0 (replies_of first_asked.given ++ rest)) [] in
        let first : ℕ → List (Option Place) = λ n. entry_places M n start [] (replying w0 (replies_of first_asked.given ++ rest)) [] in
        let ran : (k : ℕ) → run_function M (made + k) start (function_at M.program start) [] (replying w0 (replies_of first_asked.given ++ rest)) [] ≡ ended (ends e.0 e.1 e.2) k =
        λ k. ap (λ n. run_function M (n + k) start (function_at M.program start) [] (replying w0 (replies_of first_asked.given ++ rest)) []) (sym q) ∙ r.always k in
        ap (λ (y : Ended). first (made + k) ++ places_on M y.what y.left f args) (ran k)
        ∙ ap (λ l. l ++ entry_places M k f args e.0 e.2) (function_over M made k start (function_at M.program start) [] (replying w0 (replies_of first_asked.given ++ rest)) [] e.0 e.1 e.2 0 (ap run z ∙ ran 0))
        ∙ ap₂ (λ u uo. first made ++ entry_places M k f args u uo) world_is told_is

    module _ (p : Program) (codes : List Code) (up : Import → Bool) (v : Option Value) (before between now : W) (old middle new : Calls) (answer : RunEnd) (steps : ℕ)
        (a : (more : List Reply) → FunctionCame p codes up (function_going M start [] w0 []) w0 [] fuel first_asked (Finished v) made mid more) (g : Grew first_asked old middle)
        (one : Watched saw x (function_placing M start [] w0 []) fuel (Finished v) made before between old middle)
        (two : Watched saw x (function_placing M f args w1 co1) (fuel - made) answer steps between now middle new) where
      same_asked : one.asked ≡ first_asked
      same_asked = one_asked one.asked first_asked old middle one.grew g

      first_made : (more : List Reply) → length (function_placing M start [] w0 [] (replies_of first_asked.given ++ more) made) ≡ made
      first_made more =
          subst (λ n. length (function_placing M start [] w0 [] (replies_of first_asked.given ++ more) n) ≡ n) one.is
          (subst (λ (q : Asked). length (function_placing M start [] w0 [] (replies_of q.given ++ more) one.count) ≡ one.count) same_asked (one.made more))

      first_sees : (more : List Reply) (seen : List (Option Place)) → saw x before seen → saw x between (seen ++ function_placing M start [] w0 [] (replies_of first_asked.given ++ more) made)
      first_sees more seen first =
          subst (λ n. saw x between (seen ++ function_placing M start [] w0 [] (replies_of first_asked.given ++ more) n)) one.is
          (subst (λ (q : Asked). saw x between (seen ++ function_placing M start [] w0 [] (replies_of q.given ++ more) one.count)) same_asked (one.sees more seen first))

      all : (more : List Reply) → invocation_placing M (Some start) f args w0 (replies_of (first_asked.given ++ two.asked.given) ++ more) (made + two.count)
          ≡ function_placing M start [] w0 [] (replies_of first_asked.given ++ (replies_of two.asked.given ++ more)) made ++ function_placing M f args w1 co1 (replies_of two.asked.given ++ more) two.count
      all more =
          ap (λ l. invocation_placing M (Some start) f args w0 l (made + two.count)) (replies_on first_asked.given two.asked.given more)
          ∙ both_places p codes up v (replies_of two.asked.given ++ more) two.count (a (replies_of two.asked.given ++ more))

      pub behind_start : Watched saw x (invocation_placing M (Some start) f args w0) fuel answer (made + steps) before now old new
      behind_start = record {
        asked = joined first_asked two.asked;
        grew = grew_on first_asked two.asked old middle new g two.grew;
        count = made + two.count;
        is = count_on answer fuel made steps two.count (a []).within two.is;
        made = λ more.
            let rest = replies_of two.asked.given ++ more in
            ap length (all more) ∙ length-append (function_placing M start [] w0 [] (replies_of first_asked.given ++ rest) made) (function_placing M f args w1 co1 rest two.count)
            ∙ ap₂ (λ i j. i + j) (first_made (replies_of two.asked.given ++ more)) (two.made more);
        sees = λ more seen first.
            let rest = replies_of two.asked.given ++ more in
            let here = function_placing M start [] w0 [] (replies_of first_asked.given ++ rest) made in
            subst (λ l. saw x now (seen ++ l)) (sym (all more))
            (subst (saw x now) (append_assoc seen here (function_placing M f args w1 co1 rest two.count)) (two.sees more (seen ++ here) (first_sees rest seen first)));
      }
