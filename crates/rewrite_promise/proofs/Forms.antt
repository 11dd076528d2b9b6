-- What bytes spell has small offsets: instruction by instruction.
use Rattle.std.proofs.Common.{◌≡◌, ℕ, zero, suc, ◌+◌, ◌^◌, ◌<◌, Bool, true, false, List, [], ◌∷◌, ◌++◌, length, map, Option, Some, None, refl, sym, subst, inl, inr}
use Rattle.std.specs.Prelude.{◌==◌, nat_le, if◌then◌else◌}
use Rattle.std.specs.List.{AllByRecursion}
use Rattle.wasm_syntax.specs.declared.value.ValType.{ValType}
use Rattle.wasm_syntax.specs.declared.value.ValType.TheVariants.{I32, I64}
use Rattle.wasm_syntax.specs.declared.instruction.Convert.TheVariants.{Wrap, ExtendS, ExtendU}
use Rattle.wasm_syntax.specs.declared.instruction.Basic.TheVariants as basics
use Rattle.wasm_syntax.specs.declared.instruction.Instr.{Instr}
use Rattle.wasm_syntax.specs.declared.instruction.Instr.TheVariants as instr
use Rattle.wasm_format.specs.declared.code.Code.{Code}
use Rattle.wasm_format.specs.declared.code.Code.TheVariants.{Known, Float}
use Rattle.wasm_format.specs.Spelled.{Spelled, alone, float}
use Rattle.wasm_format.specs.InstructionForm.{Form, bare, indexed, access, typed, labels, indirect, reserved, constant_i32, constant_i64, bulk, float_bare, float_access, float_constant}
use Rattle.wasm_format.specs.Table.{Rows, control, parametric, variable, load_rows, store_rows, sizes_and_constants, comparisons, unaries, operations, basic, tests_of, operators_of, floats, numeric_forms, numeric, rows_near, form_of}
use Rattle.wasm_format.specs.calls.InstructionGrammar.{immediates, behind_opcode, instruction}
use Rattle.rewrite_modules.specs.Instrumentable.{SmallInstr}
use Rattle.wasm_format.specs.Expressions.{stand_in, code_of}
use Rattle.wasm_format.proofs.Shortest.{unsigned_small}
use Rattle.wasm_leb.proofs.Tools.{chosen}
use Rattle.wasm_bytes.specs.Tables.{lookup, rows_from}
use Rattle.wasm_format.proofs.Shortest.{last_forms}

abbrev pub CodeSmall : Code → Type 0
CodeSmall (Known i) = SmallInstr i
CodeSmall (Float at) = Unit {0}

-- an instruction of this form has a small offset, if any
abbrev FormSmall : Form → Type 0
FormSmall (bare i) = SmallInstr i
FormSmall (indexed to) = (n : ℕ) → SmallInstr (to n)
FormSmall (access to) = (m n : ℕ) → n < 2 ^ 32 → SmallInstr (to m n)
FormSmall (typed to) = (t : Option ValType) → SmallInstr (to t)
FormSmall (reserved i) = SmallInstr i
FormSmall form = Unit {0}

opened : (to : Option ValType → Instr) → ((t : Option ValType) → SmallInstr (to t)) → (p q r : Bool) (at : ℕ) → CodeSmall ((if p then alone (to None) else (if q then alone (to (Some I32)) else (if r then alone (to (Some I64)) else float at))).code)
opened to h true q r at = h None
opened to h false true r at = h (Some I32)
opened to h false false true at = h (Some I64)
opened to h false false false at = tt

bulk_small : (q : Bool) → SmallInstr (instr.Basic (if q then basics.MemoryCopy else basics.MemoryFill))
bulk_small true = tt
bulk_small false = tt

abbrev SpelledSmall : Spelled → Type 0
SpelledSmall x = CodeSmall x.code

form_small : (form : Form) → FormSmall form → (base at : ℕ) (x : Spelled) (here : ℕ) (bytes : List ℕ) → immediates base at form x here bytes → SpelledSmall x
form_small (bare i) h base at x here bytes s = subst SpelledSmall (sym s.0) h
form_small (indexed to) h base at x here bytes s = subst SpelledSmall s.1 (h s.0)
form_small (access to) h base at x here bytes s = subst SpelledSmall s.1 (h s.0.0 s.0.1 (unsigned_small 32 s.2.1 s.0.1 s.2.3))
form_small (typed to) h base at x here bytes s = subst SpelledSmall s.1 (opened to h (s.0 == 0x40) (s.0 == 0x7f) (s.0 == 0x7e) here)
form_small labels h base at x here bytes s = subst SpelledSmall s.1 tt
form_small indirect h base at x here bytes s = subst SpelledSmall s.1 tt
form_small (reserved i) h base at x here bytes s = subst SpelledSmall s.1 h
form_small constant_i32 h base at x here bytes s = subst SpelledSmall s.1 tt
form_small constant_i64 h base at x here bytes s = subst SpelledSmall s.1 tt
form_small bulk h base at x here bytes s = subst SpelledSmall s.1 (bulk_small (s.0 == 10))
form_small float_bare h base at x here bytes s = subst SpelledSmall (sym s.0) tt
form_small float_access h base at x here bytes s = subst SpelledSmall s.1 tt
form_small (float_constant width) h base at x here bytes s = subst SpelledSmall s.1 tt

-- ---- the rows of the table

abbrev FormsSmall : List Form → Type 0
FormsSmall = AllByRecursion FormSmall

abbrev RowsSmall : Rows → Type 0
RowsSmall = AllByRecursion (λ (row : ℕ × Form). FormSmall row.1)

small_append : (xs ys : List Form) → FormsSmall xs → FormsSmall ys → FormsSmall (xs ++ ys)
small_append [] ys h k = k
small_append (x ∷ xs) ys h k = (h.0, small_append xs ys h.1 k)

small_map : {A : Type 0} (f : A → Form) → ((x : A) → FormSmall (f x)) → (xs : List A) → FormsSmall (map f xs)
small_map f h [] = tt
small_map f h (x ∷ xs) = (h x, small_map f h xs)

small_floats : (n : ℕ) → FormsSmall (floats n)
small_floats zero = tt
small_floats (suc n) = (tt, small_floats n)

small_rows : (forms : List Form) (first : ℕ) → FormsSmall forms → RowsSmall (rows_from first forms)
small_rows [] first h = tt
small_rows (form ∷ forms) first h = (h.0, small_rows forms (first + 1) h.1)

control_small : RowsSmall control
control_small = (tt, (tt, (λ t. tt, (λ t. tt, (λ t. tt, (tt, (tt, (λ n. tt, (λ n. tt, (tt, (tt, (λ n. tt, (tt, tt)))))))))))))

parametric_small : RowsSmall parametric
parametric_small = (tt, (tt, tt))

variable_small : RowsSmall variable
variable_small = (λ n. tt, (λ n. tt, (λ n. tt, (λ n. tt, (λ n. tt, tt)))))

loads_small : RowsSmall load_rows
loads_small =
    let f = λ (m n : ℕ) (h : n < 2 ^ 32). h in
    (f, (f, (tt, (tt, (f, (f, (f, (f, (f, (f, (f, (f, (f, (f, tt))))))))))))))

stores_small : RowsSmall store_rows
stores_small =
    let f = λ (m n : ℕ) (h : n < 2 ^ 32). h in
    (f, (f, (tt, (tt, (f, (f, (f, (f, (f, tt)))))))))

constants_small : RowsSmall sizes_and_constants
constants_small = (tt, (tt, (tt, (tt, (tt, (tt, tt))))))

tests_small : (t : ValType) → FormsSmall (tests_of t)
tests_small t = (tt, small_map (λ op. basic (basics.Compare t op)) (λ op. tt) comparisons)

operators_small : (t : ValType) → FormsSmall (operators_of t)
operators_small t =
    small_append (map (λ op. basic (basics.Unary t op)) unaries) (map (λ op. basic (basics.Binary t op)) operations)
    (small_map (λ op. basic (basics.Unary t op)) (λ op. tt) unaries)
    (small_map (λ op. basic (basics.Binary t op)) (λ op. tt) operations)

last_small : FormsSmall last_forms
unfolding last_forms
last_small = (tt, (tt, (tt, (tt, (tt, tt)))))

numeric_small : RowsSmall numeric
unfolding numeric last_forms
numeric_small =
    let tests = tests_of I32 ++ tests_of I64 in
    let float_tests = tests ++ floats 12 in
    let operators_32 = float_tests ++ operators_of I32 in
    let operators_64 = operators_32 ++ operators_of I64 in
    let float_operators = operators_64 ++ floats 28 in
    let wrap = basic (basics.Convert Wrap) ∷ floats 4 in
    let extend = basic (basics.Convert ExtendS) ∷ basic (basics.Convert ExtendU) ∷ floats 18 in
    let a = small_append (tests_of I32) (tests_of I64) (tests_small I32) (tests_small I64) in
    let b = small_append tests (floats 12) a (small_floats 12) in
    let c = small_append float_tests (operators_of I32) b (operators_small I32) in
    let d = small_append operators_32 (operators_of I64) c (operators_small I64) in
    let e = small_append operators_64 (floats 28) d (small_floats 28) in
    let f = small_append float_operators wrap e (tt, small_floats 4) in
    let g = small_append (float_operators ++ wrap) extend f (tt, (tt, small_floats 18)) in
    small_rows numeric_forms 0x45 (small_append ((float_operators ++ wrap) ++ extend) last_forms g last_small)

small_if : (b : Bool) (xs ys : Rows) → RowsSmall xs → RowsSmall ys → RowsSmall (if b then xs else ys)
small_if true xs ys h k = h
small_if false xs ys h k = k

near_small : (opcode : ℕ) → RowsSmall (rows_near opcode)
near_small opcode =
    small_if (nat_le opcode 0x11) control _ control_small
    (small_if (nat_le opcode 0x1b) parametric _ parametric_small
    (small_if (nat_le opcode 0x24) variable _ variable_small
    (small_if (nat_le opcode 0x35) load_rows _ loads_small
    (small_if (nat_le opcode 0x3e) store_rows _ stores_small
    (small_if (nat_le opcode 0x44) sizes_and_constants _ constants_small
    (small_if (nat_le opcode 0xc4) numeric ((0xfc, bulk) ∷ []) numeric_small (tt, tt)))))))

abbrev some : Form → Option Form
some form = Some form

lookup_small : (opcode : ℕ) (rows : Rows) (form : Form) → RowsSmall rows → lookup opcode rows ≡ some form → FormSmall form
lookup_small opcode [] form h e = absurd cc
lookup_small opcode (row ∷ rows) form h e = elim (chosen (opcode == row.0) _ _ (some form) e) [
  | inl p ↦ let same : row.1 ≡ form = cc in subst FormSmall same h.0
  | inr p ↦ lookup_small opcode rows form h.1 p.1
]

behind_small : (base at here opcode : ℕ) (x : Spelled) (bytes : List ℕ) (form : Option Form) → form_of opcode ≡ form → behind_opcode base at form x here bytes → SpelledSmall x
unfolding form_of
behind_small base at here opcode x bytes None row s = absurd s
behind_small base at here opcode x bytes (Some form) row s = form_small form (lookup_small opcode (rows_near opcode) form (near_small opcode) row) base at x here bytes s

-- the instruction that bytes spell
pub instruction_small : (base at : ℕ) (x : Spelled) (bytes : List ℕ) → instruction base x at bytes → CodeSmall x.code
instruction_small base at x bytes s =
    let opcode = s.0 in
    let b = s.1 in
    behind_small base at (at + length b.0) opcode x b.1 (form_of opcode) refl b.3

-- and what stands in its place where it has a float type
stand_small : (opcode : ℕ) → SmallInstr (stand_in opcode)
stand_small opcode = by (opcode == 0x02) (opcode == 0x03) (opcode == 0x04)
  where
    by : (p q r : Bool) → SmallInstr (if p then instr.Block None else (if q then instr.Loop None else (if r then instr.If None else instr.Basic basics.Nop)))
    by true q r = tt
    by false true r = tt
    by false false true = tt
    by false false false = tt

pub code_small : (opcode : ℕ) (code : Code) → CodeSmall code → SmallInstr (code_of opcode code)
code_small opcode (Known i) h = h
code_small opcode (Float at) h = stand_small opcode
