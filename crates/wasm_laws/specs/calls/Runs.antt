-- What the laws on runs say.
use Rattle.std.specs.Prelude.{◌≡◌, ◌≢◌, ℕ, ◌+◌, List, [], ◌∷◌, slice_get, Some}
use Rattle.wasm_syntax.specs.Run.{Ran, running, got_stuck}

-- no invocation of a list got stuck
abbrev pub NoneStuck : List Ran → Type 0
NoneStuck [] = Unit {0}
NoneStuck (r ∷ rs) = (r.outcome ≢ got_stuck) × NoneStuck rs

-- the same with more steps left
abbrev pub with_more : ℕ → Ran → Ran
with_more more r = record r { left = r.left + more }

-- what an invocation of one list came to, it comes to in the other, unless it was still running; only more steps are left
abbrev pub Stay : ℕ → List Ran → List Ran → Type 0
Stay more rs ss = (i : ℕ) (r : Ran) → slice_get rs i ≡ Some r → r.outcome ≢ running → slice_get ss i ≡ Some (with_more more r)
