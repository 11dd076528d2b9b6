-- What is written of globals, segments and code entries spells them, but for places in their code.
use Rattle.std.proofs.Common.{◌≡◌, ℕ, ◌+◌, ◌-◌, ◌<◌, ◌^◌, [], ◌∷◌, ◌++◌, length, map, sum, Option, None, refl, ap}
use Rattle.wasm_leb.specs.Writing.{unsigned_bytes}
use Rattle.wasm_syntax.specs.declared.parts.Body.{Body}
use Rattle.wasm_syntax.specs.declared.parts.DataSeg.{DataSeg}
use Rattle.wasm_syntax.specs.declared.parts.ElementSeg.{ElementSeg}
use Rattle.wasm_syntax.specs.declared.parts.Global.{Global}
use Rattle.wasm_syntax.specs.Module.{InOrder, IsExpression}
use Rattle.wasm_syntax.specs.Sizes.{ShortBody, ShortElement, ShortData}
use Rattle.wasm_syntax.specs.SameCode.{body_code, global_code, element_code, segment_code}
use Rattle.wasm_syntax.specs.Tree.{Tree, Writes}
use Rattle.wasm_bytes.specs.calls.Spelling.{u32}
use Rattle.wasm_bytes.specs.Notes.{plain}
use Rattle.wasm_format.specs.Expressions.{code_body}
use Rattle.wasm_format.specs.calls.Grammar.{code_contents, code, global_entry, element_entry, segment_entry}
use Rattle.wasm_encode.specs.Encoding.{vector_bytes, sized_bytes, type_byte, value_type_bytes, mutability_byte, expression_bytes, global_bytes, element_bytes, group_bytes, function_bytes, entry_bytes, segment_bytes}
use Rattle.wasm_encode.specs.calls.Fits.{Fits32, FitsBody, FitsExpression, FitsElement, FitsSegment}
use Rattle.wasm_encode.proofs.Spellings.{sized_spelled, run_spelled, vector_spelled}
use Rattle.wasm_encode.proofs.SpelledTypes.{valtype_spelled, mutability_spelled, locals_spelled}
use Rattle.wasm_encode.proofs.SpelledCode.{entries_spelled, expression_spelled, same_body, no_note, SpelledAlike}
use Rattle.wasm_bytes.proofs.Numbers.{u32_spelled}
use Rattle.std.specs.Option.{option_or}

-- ---- globals and segments

pub global_spelled : (g : Global) (at : ℕ) → IsExpression g.init → FitsExpression g.init → SpelledAlike global_entry global_code g at (global_bytes g)
unfolding global_bytes value_type_bytes
global_spelled g at is fits =
    let type = type_byte g.vtype ∷ [] in
    let change = mutability_byte g.mutable ∷ [] in
    let init = expression_spelled g.init (at + 2) is fits in
    let read : Global = record { vtype = g.vtype; mutable = g.mutable; init = init.0 } in (
      read,
      ap (λ (b : Body). let h : Global = record { vtype = g.vtype; mutable = g.mutable; init = b } in h) init.1,
      (
        ((plain g.vtype, g.mutable), plain init.0),
        refl,
        (type ++ change, expression_bytes g.init, (type, change, valtype_spelled g.vtype at, mutability_spelled g.mutable (at + 1), refl), init.2, refl),
      ),
    )

pub element_spelled : (e : ElementSeg) (at : ℕ) → IsExpression e.offset → FitsElement e → ShortElement e → SpelledAlike element_entry element_code e at (element_bytes e)
unfolding element_bytes
element_spelled e at is fits short =
    let table = unsigned_bytes e.table in
    let bytes = expression_bytes e.offset in
    let functions = vector_bytes unsigned_bytes e.functions in
    let offset = expression_spelled e.offset (at + length table) is fits.offset in
    let read : ElementSeg = record { table = e.table; offset = offset.0; functions = e.functions } in (
      read,
      ap (λ (b : Body). let f : ElementSeg = record { table = e.table; offset = b; functions = e.functions } in f) offset.1,
      (
        (e.table, (plain offset.0, e.functions)),
        refl,
        (
          table,
          bytes ++ functions,
          u32_spelled e.table at fits.table,
          (bytes, functions, offset.2, vector_spelled u32 unsigned_bytes Fits32 u32_spelled e.functions (at + length table + length bytes) short.functions fits.functions, refl),
          refl,
        ),
      ),
    )

pub segment_spelled : (s : DataSeg) (at : ℕ) → IsExpression s.offset → FitsSegment s → ShortData s → SpelledAlike segment_entry segment_code s at (segment_bytes s)
unfolding segment_bytes
segment_spelled s at is fits short =
    let memory = unsigned_bytes s.memory in
    let bytes = expression_bytes s.offset in
    let run = sized_bytes s.bytes in
    let offset = expression_spelled s.offset (at + length memory) is fits.offset in
    let read : DataSeg = record { memory = s.memory; offset = offset.0; bytes = s.bytes } in (
      read,
      ap (λ (b : Body). let t : DataSeg = record { memory = s.memory; offset = b; bytes = s.bytes } in t) offset.1,
      (
        (s.memory, (plain offset.0, s.bytes)),
        refl,
        (
          memory,
          bytes ++ run,
          u32_spelled s.memory at fits.memory,
          (bytes, run, offset.2, run_spelled s.bytes (at + length memory + length bytes) short.bytes, refl),
          refl,
        ),
      ),
    )

-- ---- code entries

-- a body that can be written as a code entry
pub record CanEnter (body : Body) : Type 0 where
  pub tree : Tree
  pub writes : Writes body.targets body.ops tree
  pub in_order : InOrder body
  pub fits : FitsBody body
  pub short : ShortBody body
  pub room : sum (map (λ g. g.count) body.groups) < 2 ^ 32
  pub size : length (function_bytes body) < 2 ^ 32

pub neither : (one other : Option ℕ) → one ≡ None → other ≡ None → option_or one other ≡ None
neither one other e f = rw (e, f) refl

pub code_spelled : (origin : ℕ) (body : Body) (at : ℕ) → CanEnter body → SpelledAlike (code origin) body_code body at (entry_bytes body)
unfolding entry_bytes function_bytes
code_spelled origin body at can =
    let inner = function_bytes body in
    let start = at + length (unsigned_bytes (length inner)) in
    let groups = vector_bytes group_bytes body.groups in
    let l = locals_spelled body.groups start can.short.groups can.fits.0 can.room in
    let e = entries_spelled body can.tree start (start + length groups) can.writes can.in_order can.fits.1 in
    let read = code_body l.read.groups (start - origin) e.read in
    let float = neither l.read.float e.read.float l.no_float e.no_float in
    let contents : code_contents origin (plain read) start inner =
    (l.read, (groups, expression_bytes body, l.spelled, (e.read, no_note read (option_or l.read.float e.read.float) float, e.spelled), refl)) in (
      read,
      same_body body.groups l.read.groups body.ops e.read.ops body.targets e.read.targets body.start (start - origin) l.groups_read e.same e.targets,
      sized_spelled (code_contents origin (plain read)) at inner can.size contents,
    )
