-- What is written of types, imports, exports and locals spells them.
use Rattle.std.proofs.Common.{◌≡◌, ℕ, ◌+◌, ◌<◌, ◌^◌, Bool, true, false, List, [], ◌∷◌, ◌++◌, length, map, sum, Option, Some, None, refl, sym, ap, inl, inr, ◌∙◌, append_assoc, arith}
use Rattle.std.specs.List.{flat_map, fold, AllByRecursion}
use Rattle.std.specs.Str.{IsUtf8}
use Rattle.std.specs.Option.{IfSome}
use Rattle.std.proofs.lemmas.List.{append-nil}
use Rattle.std.proofs.lemmas.Bool.{lt-ltb}
use Rattle.std.proofs.lemmas.List.Sums.{sum_by-cons}
use Rattle.std.proofs.lemmas.Simd.{map-map}
use Rattle.wasm_syntax.specs.declared.value.ValType.{ValType}
use Rattle.wasm_syntax.specs.declared.value.ValType.TheVariants.{I32, I64}
use Rattle.wasm_syntax.specs.declared.parts.Export.{Export}
use Rattle.wasm_syntax.specs.declared.parts.ExportKind.{ExportKind}
use Rattle.wasm_syntax.specs.declared.parts.ExportKind.TheVariants as kinds
use Rattle.wasm_syntax.specs.declared.parts.FuncType.{FuncType}
use Rattle.wasm_syntax.specs.declared.parts.Import.{Import}
use Rattle.wasm_syntax.specs.declared.parts.Limits.{Limits}
use Rattle.wasm_syntax.specs.declared.parts.LocalGroup.{LocalGroup}
use Rattle.wasm_syntax.specs.Sizes.{ShortType}
use Rattle.wasm_leb.specs.Writing.{unsigned_bytes}
use Rattle.wasm_bytes.specs.calls.Spelling.{vector, tagged, steps}
use Rattle.wasm_bytes.specs.declared.noted.Noted.{Noted}
use Rattle.wasm_format.specs.declared.expression.Locals.{Locals}
use Rattle.wasm_format.specs.declared.module.Imported.TheVariants.{Function}
use Rattle.wasm_bytes.specs.Notes.{plain, together, with_noted}
use Rattle.wasm_format.specs.calls.Grammar.{valtype, noted_vector, functype, limits, table, mutability, import_entry, export_kind, export_entry, group_entry, locals, limits_tail, import_tail}
use Rattle.wasm_encode.specs.Encoding.{vector_bytes, sized_bytes, range_bytes, type_byte, value_type_bytes, function_type_bytes, limits_bytes, table_bytes, mutability_byte, import_bytes, kind_byte, export_bytes, group_bytes}
use Rattle.wasm_encode.specs.calls.Fits.{Fits32, FitsLimits}
use Rattle.wasm_encode.proofs.Spellings.{name_spelled, wrapped_vector, all_true}
use Rattle.wasm_bytes.proofs.Numbers.{u32_spelled}

pub valtype_spelled : (t : ValType) (at : ℕ) → valtype (plain t) at (value_type_bytes t)
unfolding value_type_bytes type_byte
valtype_spelled I32 at = (0x7f, refl, (refl, refl))
valtype_spelled I64 at = (0x7e, refl, (refl, refl))

-- ---- vectors of values without floats

with_plain : {A : Type 0} (front : List A) (xs : List A) → fold with_noted (plain front) (map plain xs) ≡ plain (front ++ xs)
with_plain front [] = ap plain (sym (append-nil front))
with_plain front (x ∷ xs) = with_plain (front ++ x ∷ []) xs ∙ ap plain (append_assoc front (x ∷ []) xs)

pub together_plain : {A : Type 0} (xs : List A) → together (map plain xs) ≡ plain xs
together_plain xs = with_plain [] xs

-- values made of others
pub together_wrapped : {A B : Type 0} (f : A → B) (xs : List A) → together (map (λ x. plain (f x)) xs) ≡ plain (map f xs)
together_wrapped f xs = ap together (sym (map-map plain f xs)) ∙ together_plain (map f xs)

pub plain_items : {A : Type 0} (S : Noted A → ℕ → List ℕ → Type 0) (xs : List A) (at : ℕ) (bytes : List ℕ) → vector S (map plain xs) at bytes → noted_vector S (plain xs) at bytes
plain_items S xs at bytes s = (map plain xs, together_plain xs, s)

-- ---- types

valtypes : (ts : List ValType) (at : ℕ) → length ts < 2 ^ 32 → noted_vector valtype (plain ts) at (vector_bytes value_type_bytes ts)
valtypes ts at lt = plain_items valtype ts at (vector_bytes value_type_bytes ts) (wrapped_vector valtype plain value_type_bytes (λ _. Unit {0}) (λ t at u. valtype_spelled t at) ts at lt (all_true ts))

pub functype_spelled : (t : FuncType) (at : ℕ) → ShortType t → functype (plain t) at (function_type_bytes t)
unfolding function_type_bytes
functype_spelled t at short =
    let params = vector_bytes value_type_bytes t.params in
    let results = vector_bytes value_type_bytes t.results in
    ((tt, (plain t.params, plain t.results)), refl, (0x60 ∷ [], params ++ results, refl, (params, results, valtypes t.params (at + 1) short.params, valtypes t.results (at + 1 + length params) short.results, refl), refl))

-- a byte that says what comes after it
pub tagged_spelled : {A : Type 0} (S : ℕ → A → ℕ → List ℕ → Type 0) (tag : ℕ) (x : A) (at : ℕ) (rest : List ℕ) → S tag x (at + 1) rest → tagged S x at (tag ∷ rest)
tagged_spelled S tag x at rest s = (tag, (tag ∷ [], rest, refl, s, refl))

range_spelled : (min : ℕ) (max : Option ℕ) (at : ℕ) → Fits32 min → IfSome max Fits32 → limits (record { min = min; max = max }) at (range_bytes min max)
range_spelled min None at low high = tagged_spelled limits_tail 0x00 _ at (unsigned_bytes min) (inl (refl, (min, refl, u32_spelled min (at + 1) low)))
range_spelled min (Some max) at low high =
    let first = unsigned_bytes min in
    tagged_spelled limits_tail 0x01 _ at (first ++ unsigned_bytes max) (inr (refl, inl (refl, ((min, max), refl, (first, unsigned_bytes max, u32_spelled min (at + 1) low, u32_spelled max (at + 1 + length first) high, refl)))))

pub limits_spelled : (l : Limits) (at : ℕ) → FitsLimits l → limits l at (limits_bytes l)
unfolding limits_bytes
limits_spelled l at fits = range_spelled l.min l.max at fits.0 fits.1

pub table_spelled : (l : Limits) (at : ℕ) → FitsLimits l → table l at (table_bytes l)
unfolding table_bytes
table_spelled l at fits = (0x70 ∷ [], limits_bytes l, refl, limits_spelled l (at + 1) fits, refl)

pub mutability_spelled : (b : Bool) (at : ℕ) → mutability b at (mutability_byte b ∷ [])
unfolding mutability_byte
mutability_spelled false at = (0x00, refl, (refl, refl))
mutability_spelled true at = (0x01, refl, (refl, refl))

-- ---- imports and exports

pub import_spelled : (i : Import) (at : ℕ) → length i.«module» < 2 ^ 32 → length i.name < 2 ^ 32 → IsUtf8 i.«module» → IsUtf8 i.name → Fits32 i.ftype → import_entry (plain (Function i)) at (import_bytes i)
unfolding import_bytes
import_spelled i at short_module short_name utf8_module utf8_name fits =
    let first = sized_bytes i.«module» in
    let second = sized_bytes i.name in
    let both = first ++ second in
    let ftype = unsigned_bytes i.ftype in (
      (i.«module», i.name),
      (
        both,
        0x00 ∷ ftype,
        (first, second, name_spelled i.«module» at short_module utf8_module, name_spelled i.name (at + length first) short_name utf8_name, refl),
        tagged_spelled (import_tail (i.«module», i.name)) 0x00 (plain (Function i)) (at + length both) ftype (inl (refl, (i.ftype, refl, u32_spelled i.ftype (at + length both + 1) fits))),
        sym (append_assoc first second (0x00 ∷ ftype)),
      ),
    )

kind_spelled : (k : ExportKind) (at : ℕ) → export_kind k at (kind_byte k ∷ [])
unfolding kind_byte
kind_spelled kinds.Function at = (0x00, refl, (refl, refl))
kind_spelled kinds.Table at = (0x01, refl, (refl, refl))
kind_spelled kinds.Memory at = (0x02, refl, (refl, refl))
kind_spelled kinds.Global at = (0x03, refl, (refl, refl))

pub export_spelled : (e : Export) (at : ℕ) → length e.name < 2 ^ 32 → IsUtf8 e.name → Fits32 e.index → export_entry e at (export_bytes e)
unfolding export_bytes
export_spelled e at short utf8 fits =
    let title = sized_bytes e.name in
    let index = unsigned_bytes e.index in (
      (e.name, (e.kind, e.index)),
      refl,
      (
        title,
        kind_byte e.kind ∷ index,
        name_spelled e.name at short utf8,
        (kind_byte e.kind ∷ [], index, kind_spelled e.kind (at + length title), u32_spelled e.index (at + length title + 1) fits, refl),
        refl,
      ),
    )

-- ---- locals

abbrev known_locals : List LocalGroup → ℕ → Locals
known_locals groups count = record { groups = groups; count = count; float = None }

-- what the groups behind others add
pub record Grouped (before groups : List LocalGroup) (count at : ℕ) : Type 0 where
  pub after : Locals
  pub groups_behind : after.groups ≡ before ++ groups
  pub no_float : after.float ≡ None
  pub spelled : steps group_entry (length groups) (known_locals before count) after at (flat_map group_bytes groups)

group_spelled : (g : LocalGroup) (before : List LocalGroup) (count at : ℕ) → Fits32 g.count → count + g.count < 2 ^ 32 → group_entry (known_locals before count) (known_locals (before ++ g ∷ []) (count + g.count)) at (group_bytes g)
unfolding group_bytes
group_spelled g before count at fits room =
    let number = unsigned_bytes g.count in
    ((g.count, plain g.vtype), refl, (number, value_type_bytes g.vtype, (lt-ltb (count + g.count) (2 ^ 32) room, u32_spelled g.count at fits), valtype_spelled g.vtype (at + length number), refl))

groups_spelled : (groups before : List LocalGroup) (count at : ℕ) → AllByRecursion (λ g. Fits32 g.count) groups → count + sum (map (λ g. g.count) groups) < 2 ^ 32 → Grouped before groups count at
groups_spelled [] before count at fits room = record { after = known_locals before count; groups_behind = sym (append-nil before); no_float = refl; spelled = (refl, refl) }
groups_spelled (g ∷ gs) before count at fits room =
    let front = group_bytes g in
    let next = known_locals (before ++ g ∷ []) (count + g.count) in
    let more = sum_by-cons (λ n. n) g.count (map (λ h. h.count) gs) in
    let others = groups_spelled gs (before ++ g ∷ []) (count + g.count) (at + length front) fits.1 (omega (arith, more)) in
    record {
      after = others.after;
      groups_behind = others.groups_behind ∙ append_assoc before (g ∷ []) gs;
      no_float = others.no_float;
      spelled = (next, (front, flat_map group_bytes gs, group_spelled g before count at fits.0 (omega (arith, more)), others.spelled, refl));
    }

pub record HasLocals (groups : List LocalGroup) (at : ℕ) : Type 0 where
  pub read : Locals
  pub groups_read : read.groups ≡ groups
  pub no_float : read.float ≡ None
  pub spelled : locals read at (vector_bytes group_bytes groups)

pub locals_spelled : (groups : List LocalGroup) (at : ℕ) → length groups < 2 ^ 32 → AllByRecursion (λ g. Fits32 g.count) groups → sum (map (λ g. g.count) groups) < 2 ^ 32 → HasLocals groups at
locals_spelled groups at short fits room =
    let number = unsigned_bytes (length groups) in
    let g = groups_spelled groups [] 0 (at + length number) fits (omega arith) in
    record {
      read = g.after;
      groups_read = g.groups_behind;
      no_float = g.no_float;
      spelled = (length groups, (number, flat_map group_bytes groups, u32_spelled (length groups) at short, g.spelled, refl));
    }
