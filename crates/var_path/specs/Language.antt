-- The language of paths: `*` and a path, or a name or a path in parentheses with `.name`, `->name` and `[digits]` behind it.
use Rattle.std.specs.Prelude.{◌≡◌, ℕ, true, List, [], ◌∷◌, ◌++◌, Some}
use Rattle.var_path.specs.declared.path.Step.{Step}
use Rattle.var_path.specs.declared.path.Step.TheVariants.{Member, Arrow, Index, Deref}
use Rattle.var_path.specs.declared.path.Path.{Path}
use Rattle.var_path.specs.Words.{is_name, index_value}

pub data PathTree : Type 0 where
  starred : PathTree → PathTree
  named : List ℕ → PathTree
  grouped : PathTree → PathTree
  with_member : PathTree → List ℕ → PathTree
  with_arrow : PathTree → List ℕ → PathTree
  with_index : PathTree → List ℕ → ℕ → PathTree

-- steps follow a name, a group or other steps
abbrev pub CanBeFollowed : PathTree → Type 0
CanBeFollowed (starred t) = ⊥
CanBeFollowed (named name) = Unit {0}
CanBeFollowed (grouped t) = Unit {0}
CanBeFollowed (with_member t name) = Unit {0}
CanBeFollowed (with_arrow t name) = Unit {0}
CanBeFollowed (with_index t digits n) = Unit {0}

abbrev pub IsPathTree : PathTree → Type 0
IsPathTree (starred t) = IsPathTree t
IsPathTree (named name) = is_name name ≡ true
IsPathTree (grouped t) = IsPathTree t
IsPathTree (with_member t name) = CanBeFollowed t × IsPathTree t × (is_name name ≡ true)
IsPathTree (with_arrow t name) = CanBeFollowed t × IsPathTree t × (is_name name ≡ true)
IsPathTree (with_index t digits n) = CanBeFollowed t × IsPathTree t × (index_value digits ≡ Some n)

abbrev pub spelling : PathTree → List ℕ
spelling (starred t) = 42 ∷ spelling t
spelling (named name) = name
spelling (grouped t) = 40 ∷ (spelling t ++ 41 ∷ [])
spelling (with_member t name) = spelling t ++ (46 ∷ name)
spelling (with_arrow t name) = spelling t ++ (45 ∷ 62 ∷ name)
spelling (with_index t digits n) = spelling t ++ (91 ∷ (digits ++ 93 ∷ []))

abbrev pub path : List ℕ → List Step → Path
path name steps = record { name = name; steps = steps }

-- further steps
abbrev pub extended : Path → List Step → Path
extended p steps = path p.name (p.steps ++ steps)

abbrev pub then_step : Path → Step → Path
then_step p s = extended p (s ∷ [])

-- the variable and the steps, in the order in which they are taken
abbrev pub meaning : PathTree → Path
meaning (starred t) = then_step (meaning t) Deref
meaning (named name) = path name []
meaning (grouped t) = meaning t
meaning (with_member t name) = then_step (meaning t) (Member name)
meaning (with_arrow t name) = then_step (meaning t) (Arrow name)
meaning (with_index t digits n) = then_step (meaning t) (Index n)

abbrev pub SpellsPath : Path → List ℕ → Type 0
SpellsPath p text = (t : PathTree) × IsPathTree t × (spelling t ≡ text) × (meaning t ≡ p)
