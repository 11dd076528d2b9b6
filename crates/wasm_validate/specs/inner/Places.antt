-- The first place of a list that is not fine, and of a module.
use Rattle.std.specs.Prelude.{◌≡◌, ℕ, ◌<◌, Bool, true, false, List, [], ◌∷◌, slice_get, Option, Some, None, ◌⊎◌}
use Rattle.wasm_syntax.specs.declared.instruction.Instr.{Instr}
use Rattle.wasm_syntax.specs.declared.instruction.Instr.TheVariants as instr
use Rattle.wasm_syntax.specs.declared.instruction.Op.{Op}
use Rattle.wasm_syntax.specs.declared.module.ModuleParts.{ModuleParts as Module}
use Rattle.wasm_syntax.specs.declared.parts.Limits.{Limits}
use Rattle.wasm_syntax.specs.declared.place.Place.{Place}
use Rattle.wasm_syntax.specs.Typing.{only_if}
use Rattle.wasm_syntax.specs.Valid.{AtIndex, LimitsFine, Fine, FirstInvalid, kind_number, index_number}

abbrev pub FineUpTo : {A : Type 0} → List A → (ℕ → A → Type 0) → ℕ → Type 0
FineUpTo xs P i = (j : ℕ) (x : _) → j < i → slice_get xs j ≡ Some x → P j x

abbrev pub FirstBad : {A : Type 0} → List A → (ℕ → A → Type 0) → Option ℕ → Type 0
FirstBad xs P None = AtIndex xs P
FirstBad {A} xs P (Some i) = ((x : A) × (slice_get xs i ≡ Some x) × (P i x → ⊥)) × FineUpTo xs P i

-- at most one table or memory, within these limits
abbrev pub OneFine : ℕ → ℕ → Limits → Type 0
OneFine most i l = (i ≡ 0) × LimitsFine most l

-- each place before the index i of this kind is fine
abbrev pub UpTo : Module → ℕ → ℕ → Type 0
UpTo m kind i = (other : Place) → (kind_number other < kind) ⊎ ((kind_number other ≡ kind) × (index_number other < i)) → Fine m other

-- all kinds below this one are fine, or the first place that is not is of such a kind
abbrev pub SoFar : Module → ℕ → Option Place → Type 0
SoFar m kind None = UpTo m kind 0
SoFar m kind (Some place) = FirstInvalid m place

-- ---- constant expressions

abbrev pub is_end : Instr → Bool
is_end (instr.Basic i) = false
is_end (instr.Jump j) = false
is_end (instr.Block t) = false
is_end (instr.Loop t) = false
is_end (instr.If t) = false
is_end instr.Else = false
is_end instr.End = true

-- the only instruction before the `end`
abbrev pub one_instr : List Op → Option Instr
one_instr [] = None
one_instr (a ∷ []) = None
one_instr (a ∷ b ∷ []) = only_if (is_end b.code) (Some a.code)
one_instr (a ∷ b ∷ o ∷ os) = None
