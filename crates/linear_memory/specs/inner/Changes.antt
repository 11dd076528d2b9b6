-- What a change of a table of pages comes to: all of it, or none.
use Rattle.std.specs.Prelude.{◌≡◌, ℕ, ◌+◌, ◌<◌, ◌≤◌, ◌⊎◌, List, length, map, is_some, Option, Result, Ok, Err}
use Rattle.linear_memory.specs.Memory.{window, splice}
use Rattle.linear_memory.specs.calls.Paged.{AllMade, Makes}
use Rattle.linear_memory.specs.inner.Table.{contents, AllWhole}
use Rattle.linear_memory.specs.declared.StoreFault.{StoreFault}
use Rattle.linear_memory.specs.declared.StoreFault.TheVariants.{Out, NoMemory}

-- Where they fit, the n bytes from `at` on are written, and the contents are `bytes`. Memory is wanting only for a page that is not made.
abbrev pub Changes : Result (Unit {0}) StoreFault → List (Option (List ℕ)) → List (Option (List ℕ)) → (fits out : Type 0) → ℕ → ℕ → List ℕ → Type 0
Changes (Ok done) old new fits out at n bytes = fits × (contents new ≡ bytes) × Makes (map is_some old) (map is_some new) at n × AllWhole new
Changes (Err Out) old new fits out at n bytes = out × (new ≡ old)
Changes (Err NoMemory) old new fits out at n bytes = fits × (new ≡ old) × (AllMade (map is_some old) at n → ⊥)

-- pages are made, and no byte is changed
abbrev pub Prepares : Result (Unit {0}) StoreFault → List (Option (List ℕ)) → List (Option (List ℕ)) → ℕ → ℕ → Type 0
Prepares r old new at n = Changes r old new (at + n ≤ length (contents old)) (length (contents old) < at + n) at n (contents old)

-- n bytes are put
abbrev pub Puts : Result (Unit {0}) StoreFault → List (Option (List ℕ)) → List (Option (List ℕ)) → ℕ → ℕ → List ℕ → Type 0
Puts r old new at n ys = Changes r old new (at + n ≤ length (contents old)) (length (contents old) < at + n) at n (splice (contents old) at ys)

-- n bytes are copied
abbrev pub Copies : Result (Unit {0}) StoreFault → List (Option (List ℕ)) → List (Option (List ℕ)) → ℕ → ℕ → ℕ → Type 0
Copies r old new to from n = Changes r old new ((to + n ≤ length (contents old)) × (from + n ≤ length (contents old))) ((length (contents old) < to + n) ⊎ (length (contents old) < from + n)) to n (splice (contents old) to (window (contents old) from n))
