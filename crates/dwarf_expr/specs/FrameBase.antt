-- The frame base of a subprogram (DWARF 4 section 3.3.5): what its `DW_AT_frame_base` means without a frame base.
use Rattle.std.specs.Prelude.{ℕ, List, Option, Some, None}
use Rattle.int_ops.specs.Integers.{modulo}
use Rattle.dwarf_expr.specs.declared.answer.Base.{Base}
use Rattle.dwarf_expr.specs.declared.answer.Base.TheVariants as base
use Rattle.dwarf_expr.specs.declared.answer.Eval.{Eval}
use Rattle.dwarf_expr.specs.declared.answer.Eval.TheVariants as eval
use Rattle.dwarf_expr.specs.View.{View}
use Rattle.dwarf_expr.specs.Meaning.{meaning}

abbrev pub base_of : Eval → Base
base_of (eval.Value w) = base.At (modulo 32 w)
base_of (eval.Address a) = base.At a
base_of eval.Missing = base.Missing
base_of _ = base.Absent

unfoldable pub frame_base : Option (List ℕ) → View → Base
frame_base (Some bytes) v = base_of (meaning bytes v base.Absent)
frame_base None v = base.Absent
