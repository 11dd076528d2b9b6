-- The types that `call_indirect`s use, read from the end of the code on, so that the last use of each counts.
use Rattle.std.specs.Prelude.{◌≡◌, ℕ, ◌==◌, ◌<◌, List, [], ◌∷◌, length, reverse, flat_map, get_or, if◌then◌else◌, Option, Some, None}
use Rattle.std.specs.List.{AllByRecursion}
use Rattle.wasm_syntax.specs.declared.instruction.Op.{Op}
use Rattle.wasm_syntax.specs.declared.parts.Body.{Body}
use Rattle.rewrite_bodies.specs.Numbering.{distinct}
use Rattle.rewrite_modules.specs.Weight.{type_used}

-- in flat code, in order, dead code included
abbrev pub ops_used : List Op → List ℕ
ops_used ops = flat_map (λ o. type_used o.code) ops

abbrev pub bodies_used : List Body → List ℕ
bodies_used bodies = flat_map (λ b. ops_used b.ops) bodies

-- each is a type of a module that has so many
abbrev pub AllBelow : ℕ → List ℕ → Type 0
AllBelow n us = AllByRecursion (λ t. t < n) us

-- how many elements stand behind the first one that is this number, where there is one
abbrev pub behind : ℕ → List ℕ → Option ℕ
behind t [] = None
behind t (u ∷ us) = if t == u then Some (length us) else behind t us

-- of the types that were read each was met once, the last one first; the table has, for each type of the module that was met, how many were
-- met before it
pub record HasMet (us met : List ℕ) (places : List (Option ℕ)) : Type 0 where
  pub met_is : reverse met ≡ distinct us
  pub places_are : (t : ℕ) → t < length places → get_or places t None ≡ behind t (distinct us)
