-- A constant that bytes spell is a number of its type: instruction by instruction.
use Rattle.std.proofs.Common.{◌≡◌, ℕ, zero, suc, ◌+◌, ◌^◌, ◌<◌, ℤ, pos, negsuc, lit<, Bool, true, false, List, [], ◌∷◌, ◌++◌, length, map, Option, Some, None, refl, sym, subst, inl, inr, arith}
use Rattle.std.specs.Prelude.{◌==◌, nat_le, if◌then◌else◌}
use Rattle.std.specs.Int.{w32, w64, cast_unsigned}
use Rattle.std.specs.List.{AllByRecursion}
use Rattle.std.proofs.lemmas.Int.{ints}
use Rattle.wasm_leb.specs.Reading.{IsWithin}
use Rattle.wasm_syntax.specs.declared.value.ValType.{ValType}
use Rattle.wasm_syntax.specs.declared.value.ValType.TheVariants.{I32, I64}
use Rattle.wasm_syntax.specs.declared.instruction.Convert.TheVariants.{Wrap, ExtendS, ExtendU}
use Rattle.wasm_syntax.specs.declared.instruction.Basic.{Basic}
use Rattle.wasm_syntax.specs.declared.instruction.Basic.TheVariants as basics
use Rattle.wasm_syntax.specs.declared.instruction.Instr.{Instr}
use Rattle.wasm_syntax.specs.declared.instruction.Instr.TheVariants as instr
use Rattle.wasm_syntax.specs.Numbers.{IsValue}
use Rattle.wasm_format.specs.declared.code.Code.{Code}
use Rattle.wasm_format.specs.declared.code.Code.TheVariants.{Known, Float}
use Rattle.wasm_format.specs.Spelled.{Spelled, alone, float}
use Rattle.wasm_format.specs.InstructionForm.{Form, bare, indexed, access, typed, labels, indirect, reserved, constant_i32, constant_i64, bulk, float_bare, float_access, float_constant}
use Rattle.wasm_format.specs.Table.{Rows, control, parametric, variable, load_rows, store_rows, sizes_and_constants, comparisons, unaries, operations, basic, tests_of, operators_of, floats, numeric_forms, numeric, rows_near, form_of}
use Rattle.wasm_format.specs.calls.InstructionGrammar.{immediates, behind_opcode, instruction}
use Rattle.wasm_format.specs.Expressions.{stand_in, code_of}
use Rattle.wasm_format.proofs.Shortest.{signed_within}
use Rattle.wasm_leb.proofs.Tools.{chosen}
use Rattle.wasm_bytes.specs.Tables.{lookup, rows_from}
use Rattle.wasm_format.proofs.Shortest.{last_forms}

-- a constant is a number of its type
abbrev pub BasicFine : Basic → Type 0
BasicFine (basics.Const v) = IsValue v
BasicFine i = Unit {0}

abbrev pub InstrFine : Instr → Type 0
InstrFine (instr.Basic i) = BasicFine i
InstrFine i = Unit {0}

in_32 : (z : ℤ) → IsWithin 32 z → cast_unsigned w32 z < 2 ^ 32
in_32 (pos n) h = omega (arith, ints, h.1)
in_32 (negsuc n) h = omega arith

in_64 : (z : ℤ) → IsWithin 64 z → cast_unsigned w64 z < 2 ^ 64
in_64 (pos n) h = omega (arith, ints, h.1)
in_64 (negsuc n) h = omega arith

abbrev pub CodeFine : Code → Type 0
CodeFine (Known i) = InstrFine i
CodeFine (Float at) = Unit {0}

-- an instruction of this form is fine, whatever its immediates
abbrev FormFine : Form → Type 0
FormFine (bare i) = InstrFine i
FormFine (indexed to) = (n : ℕ) → InstrFine (to n)
FormFine (access to) = (m n : ℕ) → InstrFine (to m n)
FormFine (typed to) = (t : Option ValType) → InstrFine (to t)
FormFine (reserved i) = InstrFine i
FormFine form = Unit {0}

opened : (to : Option ValType → Instr) → ((t : Option ValType) → InstrFine (to t)) → (p q r : Bool) (at : ℕ) → CodeFine ((if p then alone (to None) else (if q then alone (to (Some I32)) else (if r then alone (to (Some I64)) else float at))).code)
opened to h true q r at = h None
opened to h false true r at = h (Some I32)
opened to h false false true at = h (Some I64)
opened to h false false false at = tt

bulk_fine : (q : Bool) → InstrFine (instr.Basic (if q then basics.MemoryCopy else basics.MemoryFill))
bulk_fine true = tt
bulk_fine false = tt

abbrev SpelledFine : Spelled → Type 0
SpelledFine x = CodeFine x.code

form_fine : (form : Form) → FormFine form → (base at : ℕ) (x : Spelled) (here : ℕ) (bytes : List ℕ) → immediates base at form x here bytes → SpelledFine x
form_fine (bare i) h base at x here bytes s = subst SpelledFine (sym s.0) h
form_fine (indexed to) h base at x here bytes s = subst SpelledFine s.1 (h s.0)
form_fine (access to) h base at x here bytes s = subst SpelledFine s.1 (h s.0.0 s.0.1)
form_fine (typed to) h base at x here bytes s = subst SpelledFine s.1 (opened to h (s.0 == 0x40) (s.0 == 0x7f) (s.0 == 0x7e) here)
form_fine labels h base at x here bytes s = subst SpelledFine s.1 tt
form_fine indirect h base at x here bytes s = subst SpelledFine s.1 tt
form_fine (reserved i) h base at x here bytes s = subst SpelledFine s.1 h
form_fine constant_i32 h base at x here bytes s = subst SpelledFine s.1 (in_32 s.0 (signed_within 32 bytes s.0 (lit< tt) s.2))
form_fine constant_i64 h base at x here bytes s = subst SpelledFine s.1 (in_64 s.0 (signed_within 64 bytes s.0 (lit< tt) s.2))
form_fine bulk h base at x here bytes s = subst SpelledFine s.1 (bulk_fine (s.0 == 10))
form_fine float_bare h base at x here bytes s = subst SpelledFine (sym s.0) tt
form_fine float_access h base at x here bytes s = subst SpelledFine s.1 tt
form_fine (float_constant width) h base at x here bytes s = subst SpelledFine s.1 tt

-- ---- the rows of the table

abbrev FormsFine : List Form → Type 0
FormsFine = AllByRecursion FormFine

abbrev RowsFine : Rows → Type 0
RowsFine = AllByRecursion (λ (row : ℕ × Form). FormFine row.1)

fine_append : (xs ys : List Form) → FormsFine xs → FormsFine ys → FormsFine (xs ++ ys)
fine_append [] ys h k = k
fine_append (x ∷ xs) ys h k = (h.0, fine_append xs ys h.1 k)

fine_map : {A : Type 0} (f : A → Form) → ((x : A) → FormFine (f x)) → (xs : List A) → FormsFine (map f xs)
fine_map f h [] = tt
fine_map f h (x ∷ xs) = (h x, fine_map f h xs)

fine_floats : (n : ℕ) → FormsFine (floats n)
fine_floats zero = tt
fine_floats (suc n) = (tt, fine_floats n)

fine_rows : (forms : List Form) (first : ℕ) → FormsFine forms → RowsFine (rows_from first forms)
fine_rows [] first h = tt
fine_rows (form ∷ forms) first h = (h.0, fine_rows forms (first + 1) h.1)

control_fine : RowsFine control
control_fine = (tt, (tt, (λ t. tt, (λ t. tt, (λ t. tt, (tt, (tt, (λ n. tt, (λ n. tt, (tt, (tt, (λ n. tt, (tt, tt)))))))))))))

parametric_fine : RowsFine parametric
parametric_fine = (tt, (tt, tt))

variable_fine : RowsFine variable
variable_fine = (λ n. tt, (λ n. tt, (λ n. tt, (λ n. tt, (λ n. tt, tt)))))

loads_fine : RowsFine load_rows
loads_fine =
    let f = λ (m n : ℕ). tt in
    (f, (f, (tt, (tt, (f, (f, (f, (f, (f, (f, (f, (f, (f, (f, tt))))))))))))))

stores_fine : RowsFine store_rows
stores_fine =
    let f = λ (m n : ℕ). tt in
    (f, (f, (tt, (tt, (f, (f, (f, (f, (f, tt)))))))))

constants_fine : RowsFine sizes_and_constants
constants_fine = (tt, (tt, (tt, (tt, (tt, (tt, tt))))))

tests_fine : (t : ValType) → FormsFine (tests_of t)
tests_fine t = (tt, fine_map (λ op. basic (basics.Compare t op)) (λ op. tt) comparisons)

operators_fine : (t : ValType) → FormsFine (operators_of t)
operators_fine t =
    fine_append (map (λ op. basic (basics.Unary t op)) unaries) (map (λ op. basic (basics.Binary t op)) operations)
    (fine_map (λ op. basic (basics.Unary t op)) (λ op. tt) unaries)
    (fine_map (λ op. basic (basics.Binary t op)) (λ op. tt) operations)

last_fine : FormsFine last_forms
unfolding last_forms
last_fine = (tt, (tt, (tt, (tt, (tt, tt)))))

numeric_fine : RowsFine numeric
unfolding numeric last_forms
numeric_fine =
    let tests = tests_of I32 ++ tests_of I64 in
    let float_tests = tests ++ floats 12 in
    let operators_32 = float_tests ++ operators_of I32 in
    let operators_64 = operators_32 ++ operators_of I64 in
    let float_operators = operators_64 ++ floats 28 in
    let wrap = basic (basics.Convert Wrap) ∷ floats 4 in
    let extend = basic (basics.Convert ExtendS) ∷ basic (basics.Convert ExtendU) ∷ floats 18 in
    let a = fine_append (tests_of I32) (tests_of I64) (tests_fine I32) (tests_fine I64) in
    let b = fine_append tests (floats 12) a (fine_floats 12) in
    let c = fine_append float_tests (operators_of I32) b (operators_fine I32) in
    let d = fine_append operators_32 (operators_of I64) c (operators_fine I64) in
    let e = fine_append operators_64 (floats 28) d (fine_floats 28) in
    let f = fine_append float_operators wrap e (tt, fine_floats 4) in
    let g = fine_append (float_operators ++ wrap) extend f (tt, (tt, fine_floats 18)) in
    fine_rows numeric_forms 0x45 (fine_append ((float_operators ++ wrap) ++ extend) last_forms g last_fine)

fine_if : (b : Bool) (xs ys : Rows) → RowsFine xs → RowsFine ys → RowsFine (if b then xs else ys)
fine_if true xs ys h k = h
fine_if false xs ys h k = k

near_fine : (opcode : ℕ) → RowsFine (rows_near opcode)
near_fine opcode =
    fine_if (nat_le opcode 0x11) control _ control_fine
    (fine_if (nat_le opcode 0x1b) parametric _ parametric_fine
    (fine_if (nat_le opcode 0x24) variable _ variable_fine
    (fine_if (nat_le opcode 0x35) load_rows _ loads_fine
    (fine_if (nat_le opcode 0x3e) store_rows _ stores_fine
    (fine_if (nat_le opcode 0x44) sizes_and_constants _ constants_fine
    (fine_if (nat_le opcode 0xc4) numeric ((0xfc, bulk) ∷ []) numeric_fine (tt, tt)))))))

abbrev some : Form → Option Form
some form = Some form

lookup_fine : (opcode : ℕ) (rows : Rows) (form : Form) → RowsFine rows → lookup opcode rows ≡ some form → FormFine form
lookup_fine opcode [] form h e = absurd cc
lookup_fine opcode (row ∷ rows) form h e = elim (chosen (opcode == row.0) _ _ (some form) e) [
  | inl p ↦ let same : row.1 ≡ form = cc in subst FormFine same h.0
  | inr p ↦ lookup_fine opcode rows form h.1 p.1
]

behind_fine : (base at here opcode : ℕ) (x : Spelled) (bytes : List ℕ) (form : Option Form) → form_of opcode ≡ form → behind_opcode base at form x here bytes → SpelledFine x
unfolding form_of
behind_fine base at here opcode x bytes None row s = absurd s
behind_fine base at here opcode x bytes (Some form) row s = form_fine form (lookup_fine opcode (rows_near opcode) form (near_fine opcode) row) base at x here bytes s

-- the instruction that bytes spell
pub instruction_fine : (base at : ℕ) (x : Spelled) (bytes : List ℕ) → instruction base x at bytes → CodeFine x.code
instruction_fine base at x bytes s =
    let opcode = s.0 in
    let b = s.1 in
    behind_fine base at (at + length b.0) opcode x b.1 (form_of opcode) refl b.3

-- and what stands in its place where it has a float type
stand_fine : (opcode : ℕ) → InstrFine (stand_in opcode)
stand_fine opcode = by (opcode == 0x02) (opcode == 0x03) (opcode == 0x04)
  where
    by : (p q r : Bool) → InstrFine (if p then instr.Block None else (if q then instr.Loop None else (if r then instr.If None else instr.Basic basics.Nop)))
    by true q r = tt
    by false true r = tt
    by false false true = tt
    by false false false = tt

pub code_fine : (opcode : ℕ) (code : Code) → CodeFine code → InstrFine (code_of opcode code)
code_fine opcode (Known i) h = h
code_fine opcode (Float at) h = stand_fine opcode
