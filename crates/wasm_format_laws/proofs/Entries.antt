-- The entries of sections are no shorter than what is written of them.
use Rattle.std.proofs.Common.{◌≡◌, ℕ, zero, suc, ◌+◌, ◌≤◌, Bool, List, [], ◌∷◌, ◌++◌, length, sum_by, refl, sym, ap, subst, inl, inr, arith, length-append}
use Rattle.std.proofs.lemmas.List.Sums.{sum_by-append, sum_by-cons, sum_by_push}
use Rattle.wasm_leb.specs.Writing.{unsigned_bytes}
use Rattle.wasm_syntax.specs.declared.value.ValType.{ValType}
use Rattle.wasm_syntax.specs.declared.parts.FuncType.{FuncType}
use Rattle.wasm_syntax.specs.declared.parts.Limits.{Limits}
use Rattle.wasm_syntax.specs.declared.parts.Import.{Import}
use Rattle.wasm_syntax.specs.declared.parts.Export.{Export}
use Rattle.wasm_bytes.specs.calls.Spelling.{steps}
use Rattle.wasm_format.proofs.Shortest.{number_least}
use Rattle.wasm_bytes.specs.declared.noted.Noted.{Noted}
use Rattle.wasm_format.specs.declared.expression.Locals.{Locals}
use Rattle.wasm_format.specs.declared.module.Imported.{Imported}
use Rattle.wasm_format.specs.declared.module.Imported.TheVariants as imported
use Rattle.wasm_format.specs.Form.{export_of, with_group, no_locals}
use Rattle.wasm_format.specs.calls.Grammar.{valtype, functype, limits, table, globaltype, import_entry, export_entry, group_entry, locals}
use Rattle.wasm_decode.specs.Decode.{function_in, functions_of}
use Rattle.wasm_encode.specs.Encoding.{vector_bytes, sized_bytes, value_type_bytes, function_type_bytes, limits_bytes, table_bytes, import_bytes, export_bytes, kind_byte, group_bytes}
use Rattle.wasm_format_laws.proofs.Measures.{Least, name_least, vector_length, noted_least}

-- ---- types

pub one_type : (t : Noted ValType) (at : ℕ) (bytes : List ℕ) → valtype t at bytes → length bytes ≡ 1
one_type t at bytes s = ap length s.2.1

value_type_least : Least valtype (λ t. length (value_type_bytes t.value))
unfolding value_type_bytes
value_type_least t at bytes s = omega (arith, one_type t at bytes s)

types_length : (ts : List ValType) → length (vector_bytes value_type_bytes ts) ≡ length (unsigned_bytes (length ts)) + sum_by (λ t. length (value_type_bytes t)) ts
types_length ts = vector_length value_type_bytes ts

pub function_type_least : Least functype (λ t. length (function_type_bytes t.value))
unfolding function_type_bytes
function_type_least t at bytes s =
    let x = s.0 in
    let p = s.2 in
    let q = p.3 in
    let params = noted_least valtype (λ (v : ValType). length (value_type_bytes v)) value_type_least x.1.0 _ q.0 q.2 in
    let results = noted_least valtype (λ (v : ValType). length (value_type_bytes v)) value_type_least x.1.1 _ q.1 q.3 in
    let ps = x.1.0.value in
    let rs = x.1.1.value in
    subst (λ (y : Noted FuncType). length (function_type_bytes y.value) ≤ length bytes) s.1
    (omega (arith, params, results, types_length ps, types_length rs, length-append (vector_bytes value_type_bytes ps) (vector_bytes value_type_bytes rs), ap length p.2, ap length p.4, length-append p.0 p.1, ap length q.4, length-append q.0 q.1))

pub limits_least : Least limits (λ l. length (limits_bytes l))
unfolding limits_bytes
limits_least l at bytes s =
    let b = s.1 in
    let whole : length bytes ≡ 1 + length b.1 = omega (arith, ap length b.2, ap length b.4, length-append b.0 b.1) in
    elim b.3 [
      | inl p ↦
          let i = p.1 in
          subst (λ (y : Limits). length (limits_bytes y) ≤ length bytes) i.1 (omega (arith, whole, number_least i.0 b.1 i.2))
      | inr p ↦ elim p.1 [
        | inl q ↦
            let i = q.1 in
            let both = i.2 in
            subst (λ (y : Limits). length (limits_bytes y) ≤ length bytes) i.1
            (omega (arith, whole, number_least i.0.0 both.0 both.2, number_least i.0.1 both.1 both.3, length-append (unsigned_bytes i.0.0) (unsigned_bytes i.0.1), ap length both.4, length-append both.0 both.1))
        | inr q ↦ absurd q.1
      ]
    ]

pub table_least : Least table (λ l. length (table_bytes l))
unfolding table_bytes
table_least l at bytes s = omega (arith, limits_least l (at + length s.0) s.1 s.3, ap length s.2, ap length s.4, length-append s.0 s.1)

pub globaltype_long : (x : Noted ValType × Bool) (at : ℕ) (bytes : List ℕ) → globaltype x at bytes → length bytes ≡ 2
globaltype_long x at bytes s = omega (arith, one_type x.0 at s.0 s.2, ap length s.3.2.1, ap length s.4, length-append s.0 s.1)

-- ---- imports and exports

abbrev pub imported_length : Imported → ℕ
imported_length x = sum_by (λ i. length (import_bytes i)) (function_in x)

pub function_import_length : (i : Import) → length (import_bytes i) ≡ length (sized_bytes i.«module») + (length (sized_bytes i.name) + (1 + length (unsigned_bytes i.ftype)))
unfolding import_bytes
function_import_length i = omega (arith, length-append (sized_bytes i.«module») (sized_bytes i.name ++ (0x00 ∷ unsigned_bytes i.ftype)), length-append (sized_bytes i.name) (0x00 ∷ unsigned_bytes i.ftype))

pub import_least : Least import_entry (λ x. imported_length x.value)
import_least x at bytes s =
    let names = s.0 in
    let b = s.1 in
    let n = b.2 in
    let t = b.3 in
    let k = t.1 in
    let whole : length bytes ≡ length n.0 + (length n.1 + (1 + length k.1)) = omega (arith, ap length n.4, length-append n.0 n.1, ap length k.2, ap length k.4, length-append k.0 k.1, ap length b.4, length-append b.0 b.1) in
    elim k.3 [
      | inl p ↦
          let i = p.1 in
          let made : Import = record { «module» = names.0; name = names.1; ftype = i.0 } in
          subst (λ (y : Noted Imported). imported_length y.value ≤ length bytes) i.1
          (omega (arith, whole, function_import_length made, name_least names.0 at n.0 n.2, name_least names.1 (at + length n.0) n.1 n.3, number_least i.0 k.1 i.2))
      | inr p ↦ elim p.1 [
        | inl q ↦ subst (λ (y : Noted Imported). imported_length y.value ≤ length bytes) q.1.1 (omega arith)
        | inr q ↦ elim q.1 [
          | inl r ↦ subst (λ (y : Noted Imported). imported_length y.value ≤ length bytes) r.1.1 (omega arith)
          | inr r ↦ elim r.1 [
            | inl u ↦ subst (λ (y : Noted Imported). imported_length y.value ≤ length bytes) u.1.1 (omega arith)
            | inr u ↦ absurd u.1
          ]
        ]
      ]
    ]

pub functions_length : (xs : List Imported) → sum_by (λ i. length (import_bytes i)) (functions_of xs) ≡ sum_by imported_length xs
functions_length [] = refl
functions_length (x ∷ xs) =
    omega (arith, sum_by-append (λ (i : Import). length (import_bytes i)) (function_in x) (functions_of xs), sum_by-cons imported_length x xs, functions_length xs)

at_most_one : (x : Imported) → length (function_in x) ≤ 1
at_most_one (imported.Function i) = omega arith
at_most_one imported.Table = omega arith
at_most_one imported.Memory = omega arith
at_most_one imported.Global = omega arith

pub export_length : (e : Export) → length (export_bytes e) ≡ length (sized_bytes e.name) + (1 + length (unsigned_bytes e.index))
unfolding export_bytes
export_length e = omega (arith, length-append (sized_bytes e.name) (kind_byte e.kind ∷ unsigned_bytes e.index))

pub export_least : Least export_entry (λ e. length (export_bytes e))
export_least e at bytes s =
    let x = s.0 in
    let p = s.2 in
    let q = p.3 in
    subst (λ (y : Export). length (export_bytes y) ≤ length bytes) s.1
    (omega (arith, export_length (export_of x), name_least x.0 at p.0 p.2, ap length q.2.2.1, number_least x.1.1 q.1 q.3, ap length p.4, length-append p.0 p.1, ap length q.4, length-append q.0 q.1))

-- ---- locals

record Groups (s t : Locals) (n size : ℕ) : Type 0 where
  pub many : length t.groups ≡ length s.groups + n
  pub total : sum_by (λ g. length (group_bytes g)) t.groups ≤ sum_by (λ g. length (group_bytes g)) s.groups + size

one_group : (s : Locals) (x : ℕ × Noted ValType) (size : ℕ) → length (unsigned_bytes x.0) + 1 ≤ size → Groups s (with_group s x) 1 size
unfolding group_bytes value_type_bytes
one_group s x size h =
    let g = with_group s x in
    record {
      many = length-append s.groups _;
      total = omega (arith, h, sum_by_push (λ y. length (group_bytes y)) s.groups (record { count = x.0; vtype = x.1.value }), length-append (unsigned_bytes x.0) (value_type_bytes x.1.value));
    }

group_fits : (s t : Locals) (at : ℕ) (bytes : List ℕ) → group_entry s t at bytes → Groups s t 1 (length bytes)
group_fits s t at bytes e =
    let p = e.2 in
    subst (λ (y : Locals). Groups s y 1 (length bytes)) e.1
    (one_group s e.0 (length bytes) (omega (arith, number_least e.0.0 p.0 p.2.1, one_type e.0.1 _ p.1 p.3, ap length p.4, length-append p.0 p.1)))

groups_fit : (n : ℕ) (s t : Locals) (at : ℕ) (bytes : List ℕ) → steps group_entry n s t at bytes → Groups s t n (length bytes)
groups_fit zero s t at bytes e = subst (λ (y : Locals). Groups s y 0 (length bytes)) (sym e.0) (record { many = omega arith; total = omega arith })
groups_fit (suc n) s t at bytes e =
    let one = group_fits s e.0 at e.1.0 e.1.2 in
    let rest = groups_fit n e.0 t _ e.1.1 e.1.3 in
    record {
      many = omega (arith, one.many, rest.many);
      total = omega (arith, one.total, rest.total, ap length e.1.4, length-append e.1.0 e.1.1);
    }

pub locals_least : Least locals (λ l. length (vector_bytes group_bytes l.groups))
locals_least l at bytes s =
    let n = s.0 in
    let b = s.1 in
    let g = groups_fit n no_locals l _ b.1 b.3 in
    let many : length l.groups ≡ n = omega (arith, g.many) in
    omega (arith, vector_length group_bytes l.groups, ap (λ (k : ℕ). length (unsigned_bytes k)) many, g.total, number_least n b.0 b.2, ap length b.4, length-append b.0 b.1)
