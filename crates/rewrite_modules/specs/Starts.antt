-- What a module does where nothing of it is called: its start function runs alone (Core 4.5.4).
use Rattle.std.specs.Prelude.{◌≡◌, ◌≢◌, ℕ, ◌+◌, ◌*◌, ◌≤◌, [], Some, None, true, false, List}
use Rattle.wasm_syntax.specs.declared.host.Reply.{Reply}
use Rattle.wasm_syntax.specs.Module.{Program, function_at}
use Rattle.wasm_syntax.specs.Machine.{Engine}
use Rattle.wasm_syntax.specs.Run.{Ran, trapped, ran_to, run_function, start_world, cause_of_segments, engine}
use Rattle.rewrite_modules.specs.Simulates.{Alike}

-- function f in a new instance, with these replies, in at most n steps, and no entry behind it
abbrev pub start_run : Engine → ℕ → List Reply → ℕ → Ran
start_run M f replies n = let e = run_function M n f (function_at M.program f) [] (start_world M.program.module_ replies) [] in ran_to false e.what e.left

-- For all replies, n, and depth from 1 to 10,000, unless the original exhausts its call depth, where its segments fit and it has a start
-- function: the other has one too, which does the same.
abbrev pub StartsAlike : ℕ → Program → Program → Type 0
StartsAlike factor p p' = (replies : List Reply) (d n f : ℕ) → 1 ≤ d → d ≤ 10000 → cause_of_segments p.module_ ≡ None → p.module_.start ≡ Some f → (start_run (engine p false d) f replies n).outcome ≢ trapped 8 → (f' : ℕ) × (cause_of_segments p'.module_ ≡ None) × (p'.module_.start ≡ Some f') × (m : ℕ) × (n ≤ m) × (m ≤ (n + 2) * factor) × Alike (start_run (engine p false d) f replies n) (start_run (engine p' true (d + 2)) f' replies m)
