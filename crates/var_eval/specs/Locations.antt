-- Where a variable is (DWARF 4, 2.6, 3.3.5 and 4.1; DWARF 5, 2.6).
use Rattle.std.specs.Prelude.{ℕ, Bool, false, List, take, drop, Option, Some, None, if◌then◌else◌}
use Rattle.int_ops.specs.Integers.{modulo}
use Rattle.dwarf_info.specs.declared.entry.AttrValue.{AttrValue}
use Rattle.dwarf_info.specs.declared.entry.AttrValue.TheVariants.{Block, Offset}
use Rattle.dwarf_info.specs.declared.entry.Unit.{Unit as UnitTree}
use Rattle.dwarf_info.specs.Attributes.{attribute, location}
use Rattle.dwarf_info.specs.Sections.{SectionBytes5}
use Rattle.dwarf_entries.specs.Names.{at_frame_base}
use Rattle.dwarf_entries.specs.Standing.{Standing}
use Rattle.dwarf_loc.specs.declared.contents.Span.{Span}
use Rattle.dwarf_expr.specs.declared.answer.PiecePlace.TheVariants as places
use Rattle.dwarf_expr.specs.declared.answer.Eval.{Eval}
use Rattle.dwarf_expr.specs.declared.answer.Eval.TheVariants as evals
use Rattle.dwarf_expr.specs.declared.answer.Base.{Base}
use Rattle.dwarf_expr.specs.declared.answer.Base.TheVariants as bases
use Rattle.dwarf_expr.specs.View.{View}
use Rattle.dwarf_expr.specs.Decode.{operators}
use Rattle.dwarf_expr.specs.Meaning.{is_location, meaning}
use Rattle.dwarf_expr.specs.Named.{names_operand_from}
use Rattle.dwarf_expr.specs.FrameBase.{frame_base}
use Rattle.dwarf5_info.specs.Units.{plain_of}
use Rattle.dwarf_scopes.specs.Lists.{is_version5, location_in}
use Rattle.dwarf_scopes.specs.Scopes.{subprogram_at}
use Rattle.var_values.specs.declared.mark.Mark.TheVariants.{OptimisedOut, NotRecorded, OutsideMemory, UnsupportedExpression, BadExpression, ExpressionTooDeep}
use Rattle.var_values.specs.declared.source.Source.{Source}
use Rattle.var_values.specs.declared.source.Source.TheVariants.{Lost, Single, Pieces}
use Rattle.var_values.specs.Places.{constant_source}
use Rattle.var_eval.specs.declared.located.Located.{Located}
use Rattle.var_eval.specs.declared.located.Located.TheVariants.{Unsaid, NoEntry, Unreadable, Expression}
use Rattle.var_eval.specs.Frames.{Frame}

-- ---- locations

-- the bytes of a span
abbrev pub spanned : List ℕ → Span → List ℕ
spanned section span = take span.len (drop span.at section)

-- the section that holds the location lists of a unit
abbrev pub lists_of : SectionBytes5 → UnitTree → List ℕ
lists_of s u = if is_version5 u then s.loclists else s.base.loc

abbrev pub in_list : List ℕ → Option (Option Span) → Located
in_list section None = Unreadable
in_list section (Some None) = NoEntry
in_list section (Some (Some span)) = Expression (spanned section span)

-- a form of another class says nothing
abbrev pub located_by : SectionBytes5 → ℕ → UnitTree → Option AttrValue → Located
located_by s address u (Some (Block e)) = Expression e
located_by s address u (Some (Offset at)) = in_list (lists_of s u) (location_in s u at address)
located_by s address u _ = Unsaid

-- what the attribute of a name says of an address
abbrev pub located : SectionBytes5 → ℕ → Standing → ℕ → Located
located s address x name = located_by s address x.unit (attribute name x.entry.attributes)

-- ---- the frame base (DWARF 4, 3.3.5)

abbrev pub base_by : SectionBytes5 → UnitTree → View → Located → Base
base_by s u view (Expression e) = frame_base (Some (plain_of s u e)) view
base_by s u view _ = bases.Absent

abbrev pub base_in : SectionBytes5 → ℕ → View → Option Standing → Base
base_in s address view None = bases.Absent
base_in s address view (Some x) = base_by s x.unit view (located s address x at_frame_base)

-- that of the subprogram at the frame's address
unfoldable pub base_of : Frame → Base
base_of f = base_in f.sections f.address f.view (subprogram_at f.sections f.units f.address)

-- ---- sources

-- A variable stands in memory where its expression ends without a stack_value: one WASM_location alone holds its address (2.6.1.1.2).
abbrev pub place_by : List ℕ → Eval → Eval
place_by e (evals.Value w) = if is_location (operators e) then evals.Address (modulo 32 w) else evals.Value w
place_by e answer = answer

abbrev pub place_meant : List ℕ → View → Base → Eval
place_meant e v b = place_by e (meaning e v b)

abbrev pub source_of : Eval → Source
source_of evals.Empty = Lost OptimisedOut
source_of (evals.Value w) = Single (places.Value w)
source_of (evals.Address a) = Single (places.Address a)
source_of (evals.Pieces ps) = Pieces ps
source_of evals.Missing = Lost NotRecorded
source_of (evals.Outside a) = Lost OutsideMemory
source_of (evals.Unsupported op at) = Lost UnsupportedExpression
source_of (evals.BadExpr at) = Lost BadExpression
source_of evals.TooDeep = Lost ExpressionTooDeep

-- it names an operand that the call under way has taken
abbrev pub is_gone : Option ℕ → List ℕ → Bool
is_gone (Some left) e = names_operand_from left (operators e)
is_gone None e = false

abbrev pub source_in : Frame → List ℕ → Source
source_in f e = if is_gone f.left e then Lost OptimisedOut else source_of (place_meant e f.view (base_of f))

abbrev pub source_by : Frame → Standing → Located → Source
source_by f x (Expression e) = source_in f (plain_of f.sections x.unit e)
source_by f x NoEntry = Lost OptimisedOut
source_by f x Unreadable = Lost BadExpression
source_by f x Unsaid = constant_source x.entry.attributes

-- where a variable comes from in a frame
unfoldable pub variable_source : Frame → Standing → Source
variable_source f x = source_by f x (located f.sections f.address x location)
