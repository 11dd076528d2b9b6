-- A memory as contracts see it: the memory, and for each page whether it is made. A page that is not made reads as zeros.
use Rattle.std.specs.Prelude.{◌≡◌, ℕ, ◌+◌, ◌/◌, ◌<◌, ◌≤◌, ◌⊎◌, Bool, false, List, length, IsTrue, slice_index_or}
use Rattle.linear_memory.specs.Memory.{Memory, page_size}

pub record Paged : Type 0 where
  pub memory : Memory
  pub made : List Bool

-- how many bytes a load or a store moves
abbrev pub IsWidth : ℕ → Type 0
IsWidth n = (n ≡ 1) ⊎ (n ≡ 2) ⊎ (n ≡ 4) ⊎ (n ≡ 8)

abbrev pub IsMade : List Bool → ℕ → Type 0
IsMade made page = IsTrue (slice_index_or made page false)

-- some of the n bytes from `at` on lie in the page
abbrev pub Touches : ℕ → ℕ → ℕ → Type 0
Touches at n page = (i : ℕ) × (at ≤ i) × (i < at + n) × (i / page_size ≡ page)

-- each page that the n bytes from `at` on touch is made
abbrev pub AllMade : List Bool → ℕ → ℕ → Type 0
AllMade made at n = (i : ℕ) → at ≤ i → i < at + n → IsMade made (i / page_size)

-- a made page stays made, and no page is added
pub record StaysMade (old new : List Bool) : Type 0 where
  pub count : length new ≡ length old
  pub kept : (page : ℕ) → IsMade old page → IsMade new page

-- A write of the n bytes from `at` on makes the pages that it touches, and no other page.
pub record Makes (old new : List Bool) (at n : ℕ) : Type 0 where
  pub stays : StaysMade old new
  pub touched : AllMade new at n
  pub only : (page : ℕ) → IsMade new page → IsMade old page ⊎ Touches at n page
