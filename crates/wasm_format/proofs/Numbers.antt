-- The row of a numeric opcode, by its place in the table.
use Rattle.std.proofs.Common.{◌≡◌, ℕ, zero, suc, true, false, ◌+◌, ◌-◌, ◌<◌, ◌≤◌, List, [], ◌∷◌, ◌++◌, length, take, drop, Option, Some, refl, ap, ◌∙◌, inl, inr, arith}
use Rattle.std.specs.Prelude.{◌==◌}
use Rattle.std.specs.List.{slice_get}
use Rattle.std.proofs.lemmas.Bool.{cases_lt, eq-eqb, ne_eqb}
use Rattle.wasm_syntax.specs.declared.value.ValType.TheVariants.{I32, I64}
use Rattle.wasm_format.specs.InstructionForm.{Form, float_bare}
use Rattle.wasm_format.specs.Table.{numeric_forms, numeric, tests_of, operators_of, floats}
use Rattle.wasm_bytes.specs.Tables.{lookup, rows_from}

abbrev some : Form → Option Form
some form = Some form

lookup_from : (forms : List Form) (first opcode k : ℕ) → opcode ≡ first + k → lookup opcode (rows_from first forms) ≡ slice_get forms k
lookup_from [] first opcode k e = refl
lookup_from (form ∷ forms) first opcode zero e = let here : (opcode == first) ≡ true = eq-eqb opcode first (omega (arith, e)) in rw here refl
lookup_from (form ∷ forms) first opcode (suc k) e =
    let later : (opcode == first) ≡ false = ne_eqb opcode first (λ same. omega (arith, e, same)) in
    rw later (lookup_from forms (first + 1) opcode k (omega (arith, e)))

get_front : (chunk after : List Form) (k : ℕ) (form : Form) → slice_get chunk k ≡ some form → slice_get (chunk ++ after) k ≡ some form
get_front [] after k form e = absurd cc
get_front (x ∷ chunk) after zero form e = e
get_front (x ∷ chunk) after (suc k) form e = get_front chunk after k form e

get_behind : (before chunk after : List Form) (i k : ℕ) (form : Form) → i ≡ length before + k → slice_get chunk k ≡ some form → slice_get (before ++ (chunk ++ after)) i ≡ some form
get_behind [] chunk after i k form at e = let same : i ≡ k = omega (arith, at) in rw same (get_front chunk after k form e)
get_behind (x ∷ before) chunk after zero k form at e = absurd (omega (arith, at))
get_behind (x ∷ before) chunk after (suc i) k form at e = get_behind before chunk after i k form (omega (arith, at)) e

-- the row of an opcode that stands in a part of the table
part_row : (before chunk after : List Form) (opcode first k : ℕ) (form : Form) → numeric_forms ≡ before ++ (chunk ++ after) → first ≡ 0x45 + length before → opcode ≡ first + k → slice_get chunk k ≡ some form → lookup opcode numeric ≡ some form
unfolding numeric
part_row before chunk after opcode first k form parts begins at e =
    let i = length before + k in
    lookup_from numeric_forms 0x45 opcode i (omega (arith, begins, at)) ∙ ap (λ (forms : List Form). slice_get forms i) parts ∙ get_behind before chunk after i k form refl e

float_within : (n k : ℕ) → k < n → slice_get (floats n) k ≡ some float_bare
float_within zero k lt = absurd (omega (arith, lt))
float_within (suc n) zero lt = refl
float_within (suc n) (suc k) lt = float_within n k (omega (arith, lt))

pub test_i32 : (opcode : ℕ) (form : Form) → 0x45 ≤ opcode → slice_get (tests_of I32) (opcode - 0x45) ≡ some form → lookup opcode numeric ≡ some form
test_i32 opcode form least e = part_row [] (tests_of I32) (drop 11 numeric_forms) opcode 0x45 (opcode - 0x45) form refl refl (omega (arith, least)) e

pub test_i64 : (opcode : ℕ) (form : Form) → 0x50 ≤ opcode → slice_get (tests_of I64) (opcode - 0x50) ≡ some form → lookup opcode numeric ≡ some form
test_i64 opcode form least e = part_row (take 11 numeric_forms) (tests_of I64) (drop 22 numeric_forms) opcode 0x50 (opcode - 0x50) form refl refl (omega (arith, least)) e

pub operator_i32 : (opcode : ℕ) (form : Form) → 0x67 ≤ opcode → slice_get (operators_of I32) (opcode - 0x67) ≡ some form → lookup opcode numeric ≡ some form
operator_i32 opcode form least e = part_row (take 34 numeric_forms) (operators_of I32) (drop 52 numeric_forms) opcode 0x67 (opcode - 0x67) form refl refl (omega (arith, least)) e

pub operator_i64 : (opcode : ℕ) (form : Form) → 0x79 ≤ opcode → slice_get (operators_of I64) (opcode - 0x79) ≡ some form → lookup opcode numeric ≡ some form
operator_i64 opcode form least e = part_row (take 52 numeric_forms) (operators_of I64) (drop 70 numeric_forms) opcode 0x79 (opcode - 0x79) form refl refl (omega (arith, least)) e

-- the four ranges of float opcodes
float_row : (before after : List Form) (opcode first n : ℕ) → numeric_forms ≡ before ++ (floats n ++ after) → first ≡ 0x45 + length before → first ≤ opcode → opcode < first + n → lookup opcode numeric ≡ some float_bare
float_row before after opcode first n parts begins least most = part_row before (floats n) after opcode first (opcode - first) float_bare parts begins (omega (arith, least)) (float_within n (opcode - first) (omega (arith, least, most)))

pub float_tests : (opcode : ℕ) → 0x5b ≤ opcode → opcode ≤ 0x66 → lookup opcode numeric ≡ some float_bare
float_tests opcode least most = float_row (take 22 numeric_forms) (drop 34 numeric_forms) opcode 0x5b 12 refl refl least (omega (arith, most))

pub float_operators : (opcode : ℕ) → 0x8b ≤ opcode → opcode ≤ 0xa6 → lookup opcode numeric ≡ some float_bare
float_operators opcode least most = float_row (take 70 numeric_forms) (drop 98 numeric_forms) opcode 0x8b 28 refl refl least (omega (arith, most))

pub float_truncations : (opcode : ℕ) → 0xa8 ≤ opcode → opcode ≤ 0xab → lookup opcode numeric ≡ some float_bare
float_truncations opcode least most = float_row (take 99 numeric_forms) (drop 103 numeric_forms) opcode 0xa8 4 refl refl least (omega (arith, most))

pub float_conversions : (opcode : ℕ) → 0xae ≤ opcode → opcode ≤ 0xbf → lookup opcode numeric ≡ some float_bare
float_conversions opcode least most = float_row (take 105 numeric_forms) (drop 123 numeric_forms) opcode 0xae 18 refl refl least (omega (arith, most))

-- where all others stand
pub float_row_of : (opcode : ℕ) → 0x5b ≤ opcode → opcode ≤ 0xbf → (0x67 ≤ opcode → 0x8b ≤ opcode) → (opcode ≡ 0xa7 → ⊥) → (0xac ≤ opcode → 0xae ≤ opcode) → lookup opcode numeric ≡ some float_bare
float_row_of opcode least most no_operator no_wrap no_extend = elim (cases_lt 0x66 opcode) [
  | inr tests ↦ float_tests opcode least tests
  | inl past ↦ elim (cases_lt 0xa6 opcode) [
    | inr operators ↦ float_operators opcode (no_operator past) operators
    | inl past ↦ elim (cases_lt 0xab opcode) [
      | inr truncations ↦ float_truncations opcode (omega (arith, no_wrap, past)) truncations
      | inl past ↦ float_conversions opcode (no_extend past) most
    ]
  ]
]
