-- The locals of a body that are worked out of two others, along its flat code.
use Rattle.std.specs.Prelude.{ℕ, zero, suc, ◌==◌, ◌&&◌, ◌||◌, nat_le, not, List, [], ◌∷◌, ◌++◌, Bool, true, false, Option, Some, None}
use Rattle.std.specs.Ordering.{nat_cmp}
use Rattle.std.specs.BTreeMap.{BTreeMap, get}
use Rattle.wasm_syntax.specs.declared.value.ValType.{ValType}
use Rattle.wasm_syntax.specs.declared.instruction.Basic.{Basic}
use Rattle.wasm_syntax.specs.declared.instruction.Basic.TheVariants.{LocalSet}
use Rattle.wasm_syntax.specs.Tree.{Item, Plain, Placed}
use Rattle.rewrite_bodies.specs.calls.Slots.{Derivation, local_written}
use Rattle.rewrite_bodies.specs.calls.Facts.{is_local}
use Rattle.rewrite_bodies.specs.calls.Derived.{Trail, Nowhere, One, Two, Worked, trail_behind, given_type, taken_type, has_type, can_leave, one_found}
use Rattle.operand_spill.specs.declared.trail.KeptTrail.{KeptTrail}
use Rattle.operand_spill.specs.declared.trail.KeptTrail.TheVariants as kept
use Rattle.operand_spill.specs.declared.derived.Recent.{Recent}
use Rattle.operand_spill.specs.declared.derived.Candidates.{Candidates}
use Rattle.operand_spill.specs.inner.Exposing.{held}

-- ---- how often a local is written

-- not at all, at one place, or at more
abbrev pub often : BTreeMap ℕ Bool → ℕ → Option Bool
often times x = get nat_cmp times x

abbrev pub more_often : Bool → Option Bool → Option Bool
more_often false o = o
more_often true None = Some false
more_often true (Some again) = Some true

abbrev pub is_once : Option Bool → Bool
is_once None = false
is_once (Some again) = not again

-- at so many places
abbrev pub at_places : ℕ → Option Bool
at_places zero = None
at_places (suc zero) = Some false
at_places (suc (suc n)) = Some true

abbrev pub written_by : Item → Option ℕ
written_by (Plain i) = local_written i
written_by _ = None

-- behind these instructions
abbrev pub times_along : List Placed → ℕ → Option Bool → Option Bool
times_along [] x o = o
times_along (p ∷ code) x o = times_along code x (more_often (is_local (written_by p.code) x) o)

-- ---- which locals

-- the number of parameters, the types of all locals, and how often each is written
pub record Candidate : Type 0 where
  pub parameters : ℕ
  pub locals : List ValType
  pub times : BTreeMap ℕ Bool

abbrev pub candidate : ℕ → List ValType → BTreeMap ℕ Bool → Candidate
candidate parameters locals times = record { parameters = parameters; locals = locals; times = times }

abbrev pub seen : Candidates → Candidate
seen s = candidate s.parameters s.locals.now s.times

abbrev pub may : Candidate → ℕ → ValType → Bool
may c x t = nat_le c.parameters x && (has_type c.locals x t && is_once (often c.times x))

abbrev pub makes : Candidate → Derivation → Bool
makes c d = may c d.made (given_type d.instruction) && (not (d.left == d.made) && not (d.right == d.made))

-- with those that were written since the frame could be left
abbrev pub takes : Candidate → (ℕ → Bool) → ℕ → ValType → Bool
takes c recent x t = may c x t && recent x

abbrev pub fits_since : Candidate → (ℕ → Bool) → Derivation → Bool
fits_since c recent d =
    makes c d && (takes c recent d.left (taken_type d.instruction) && takes c recent d.right (taken_type d.instruction))

-- ---- what is known before an instruction

abbrev pub trail : KeptTrail → Trail
trail kept.Nowhere = Nowhere
trail (kept.One y) = One y
trail (kept.Two x y) = Two x y
trail (kept.Worked i x y) = Worked i x y

pub record Here : Type 0 where
  pub recent : ℕ → Bool
  pub trail : Trail

abbrev pub here : (ℕ → Bool) → Trail → Here
here recent trail = record { recent = recent; trail = trail }

abbrev pub known : Recent → Here
known r = here (held r.written) (trail r.trail)

abbrev pub nothing : Here
nothing = here (λ x. false) Nowhere

abbrev pub none_where : Bool → (ℕ → Bool) → ℕ → Bool
none_where true these = λ x. false
none_where false these = these

abbrev pub with_local : Option ℕ → (ℕ → Bool) → ℕ → Bool
with_local None these = these
with_local (Some y) these = λ x. (y == x) || these x

abbrev pub performed : List ℕ → Here → ℕ → Basic → Here
performed os w at i =
    here (with_local (local_written i) (none_where (can_leave os at i) w.recent)) (trail_behind w.trail i)

abbrev pub passed : List ℕ → Here → ℕ → Item → Here
passed os w at (Plain i) = performed os w at i
passed os w at _ = nothing

-- ---- what is found

abbrev pub found_if : (Derivation → Bool) → Trail → Basic → List Derivation
found_if fit (Worked i x y) (LocalSet m) =
    let d : Derivation = record { made = m; instruction = i; left = x; right = y } in one_found (fit d) d
found_if fit t i = []

abbrev pub found_by : Candidate → Here → Item → List Derivation
found_by c w (Plain i) = found_if (fits_since c w.recent) w.trail i
found_by c w _ = []

abbrev pub found_along : Candidate → List ℕ → Here → List Placed → List Derivation
found_along c os w [] = []
found_along c os w (p ∷ code) = found_by c w p.code ++ found_along c os (passed os w p.at p.code) code

abbrev pub listed : Option Derivation → List Derivation
listed None = []
listed (Some d) = d ∷ []

-- one more, if any, where there is room
abbrev pub where_room : Bool → List Derivation → Option Derivation → List Derivation
where_room b ds None = ds
where_room true ds (Some d) = ds ++ d ∷ []
where_room false ds (Some d) = ds
