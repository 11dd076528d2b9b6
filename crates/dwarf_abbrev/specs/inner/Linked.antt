-- Lists of values with codes that share what they have in common.
use Rattle.std.specs.Prelude.{◌≡◌, ◌≤◌, ◌==◌, ℕ, zero, suc, false, List, [], ◌∷◌, ◌++◌, drop, fold, find, length, slice_get, take, Option, Some, None, option_map}
use Rattle.std.specs.Option.{option_or}
use Rattle.dwarf_abbrev.specs.declared.forks.Fork.{Fork}
use Rattle.dwarf_abbrev.specs.declared.shared.Link.{Link}
use Rattle.dwarf_abbrev.specs.calls.Shared.{list_of}
use Rattle.dwarf_abbrev.specs.inner.Forks.{found, IsClosed}

-- the lists of links, each of which names one of those in front of it
abbrev pub with_link : {T : Type 0} → List (List T) → Link T → List (List T)
with_link before l = before ++ (l.value ∷ list_of before l.rest) ∷ []

abbrev pub lists : {T : Type 0} → List (Link T) → List (List T)
lists links = fold with_link [] links

-- the value that the list of a number begins with
abbrev pub first_of : {T : Type 0} → List (Link T) → ℕ → Option T
first_of links zero = None
first_of links (suc i) = option_map (λ l. l.value) (slice_get links i)

-- the map of the list of a number
abbrev pub map_in : {T : Type 0} → Option (Link T) → ℕ
map_in (Some l) = l.map
map_in None = 0

abbrev pub map_of : {T : Type 0} → List (Link T) → ℕ → ℕ
map_of links zero = 0
map_of links (suc i) = map_in (slice_get links i)

-- the list behind the first value of that of a number
abbrev pub rest_in : {T : Type 0} → Option (Link T) → ℕ
rest_in (Some l) = l.rest
rest_in None = 0

abbrev pub rest_of : {T : Type 0} → List (Link T) → ℕ → ℕ
rest_of links zero = 0
rest_of links (suc i) = rest_in (slice_get links i)

-- The list behind the first value of each is there.
pub record Follows {T : Type 0} (links : List (Link T)) : Type 0 where
  pub rest : (n : ℕ) → list_of (lists links) (rest_of links n) ≡ drop 1 (list_of (lists links) n)
  pub there : (n : ℕ) → rest_of links n ≤ length links

-- the first value of a code among the first eight of a list, or else another one
abbrev pub near_or : {T : Type 0} → (T → ℕ) → List T → ℕ → Option T → Option T
near_or code xs c other = option_or (find (λ x. code x == c) (take 8 xs)) other

-- The map of a node finds the first value of each other code than one, and than those of the first seven values, in the list of a number.
abbrev pub FindsBehind : {T : Type 0} → (T → ℕ) → List (Link T) → List Fork → ℕ → ℕ → ℕ → Type 0
FindsBehind code links forks map rest front = (fuel c : ℕ) → c ≤ fuel → (found forks fuel map c ≤ length links)
    × ((front == c) ≡ false → find (λ x. code x == c) (take 7 (list_of (lists links) rest)) ≡ None → first_of links (found forks fuel map c) ≡ find (λ x. code x == c) (list_of (lists links) rest))

-- Each list has a map that is there, which finds the first value of each code in it but those of its first eight values.
pub record Finds {T : Type 0} (code : T → ℕ) (links : List (Link T)) (forks : List Fork) : Type 0 where
  pub closed : IsClosed forks
  pub follows : Follows links
  pub there : (n : ℕ) → map_of links n ≤ length forks
  pub inside : (n fuel c : ℕ) → c ≤ fuel → found forks fuel (map_of links n) c ≤ length links
  pub first : (n fuel c : ℕ) → c ≤ fuel → near_or code (list_of (lists links) n) c (first_of links (found forks fuel (map_of links n) c)) ≡ find (λ x. code x == c) (list_of (lists links) n)
