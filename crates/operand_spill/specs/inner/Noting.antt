-- Landings that are noted along the flat code, by what is known before each instruction.
use Rattle.std.specs.Prelude.{ℕ, suc, nat_lt, List, [], ◌∷◌, length, Option, Some, None, Bool}
use Rattle.wasm_syntax.specs.declared.parts.FuncType.{FuncType}
use Rattle.wasm_syntax.specs.Tree.{Jump, Unreachable, Br, BrIf, BrTable, Return, Call, CallIndirect, Item, Plain, Goes, Opens, OpensLoop, OpensIf, Else, End, Placed}
use Rattle.wasm_syntax.specs.Module.{type_at}
use Rattle.rewrite_bodies.specs.Numbering.{import_count}
use Rattle.rewrite_bodies.specs.calls.Slots.{Place, Landing, Ctx, less}
use Rattle.rewrite_bodies.specs.calls.Landings.{landing_at, with_some, landing_call, part_of}
use Rattle.operand_spill.specs.inner.Knowing.{Places}

abbrev pub noted_call : ℕ → Bool → Option FuncType → List Place → List Landing → List Landing
noted_call p direct None es xs = xs
noted_call p direct (Some type) es xs = landing_call p direct (less (length type.params) es) xs

abbrev pub noted_jump : Ctx → ℕ → Jump → List Place → List Landing → List Landing
noted_jump C p Unreachable es xs = xs
noted_jump C p (Br l) es xs = xs
noted_jump C p (BrIf l) es xs = xs
noted_jump C p (BrTable ts d) es xs = xs
noted_jump C p Return es xs = xs
noted_jump C p (Call f) es xs = noted_call p (nat_lt f (import_count C.source)) (type_at C.source f) es xs
noted_jump C p (CallIndirect t) es xs = xs

-- of a live instruction, over these places
abbrev pub noted_item : Ctx → ℕ → Item → List Place → List Landing → List Landing
noted_item C at (Plain i) es xs = with_some (landing_at C at i es) xs
noted_item C at (Goes j) es xs = noted_jump C (part_of C.locals at) j es xs
noted_item C at (Opens t) es xs = xs
noted_item C at (OpensLoop t) es xs = xs
noted_item C at (OpensIf t) es xs = xs
noted_item C at Else es xs = xs
noted_item C at End es xs = xs

-- dead code has none
abbrev pub noted : Ctx → Option (List Place) → ℕ → Item → List Landing → List Landing
noted C None at i xs = xs
noted C (Some es) at i xs = noted_item C at i es xs

-- along these instructions
abbrev pub gathered : Ctx → List Placed → Places → List Landing → List Landing
gathered C [] p xs = xs
gathered C (x ∷ code) p xs = gathered C code (λ j. p (suc j)) (noted C (p 0) x.at x.code xs)
