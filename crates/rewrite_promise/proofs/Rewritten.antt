-- The rewriting of the example, with its bytes.
use Rattle.std.proofs.Common.{◌≡◌, ℕ, ◌^◌, ◌<◌, Bool, true, nat_lt, List, [], ◌∷◌, drop, refl, sym, subst, lit<, arith}
use Rattle.std.specs.Prelude.{codes, ◌&&◌}
use Rattle.std.specs.List.{AllByRecursion}
use Rattle.std.proofs.lemmas.Bool.{ltb-true, and_parts}
use Rattle.wasm_leb.specs.Writing.{unsigned_bytes, unsigned_groups, signed_bytes, signed_groups}
use Rattle.wasm_syntax.specs.declared.value.Value.{Value}
use Rattle.wasm_syntax.specs.declared.value.Value.TheVariants as values
use Rattle.wasm_syntax.specs.declared.instruction.Basic.{Basic}
use Rattle.wasm_syntax.specs.declared.instruction.Basic.TheVariants.{Nop, Drop, Select, LocalGet, LocalSet, LocalTee, GlobalGet, GlobalSet, Load, Store, MemorySize, MemoryGrow, MemoryCopy, MemoryFill, Const, Eqz, Unary, Compare, Binary, Convert, Extend32, Extend64}
use Rattle.wasm_syntax.specs.declared.instruction.Jump.{Jump}
use Rattle.wasm_syntax.specs.declared.instruction.Jump.TheVariants.{Unreachable, Br, BrIf, BrTable, Return, Call, CallIndirect}
use Rattle.wasm_syntax.specs.declared.instruction.Instr.{Instr}
use Rattle.wasm_syntax.specs.declared.instruction.Instr.TheVariants as instrs
use Rattle.wasm_syntax.specs.declared.instruction.Op.{Op}
use Rattle.wasm_syntax.specs.declared.parts.Body.{Body}
use Rattle.wasm_syntax.specs.declared.module.ModuleParts.{ModuleParts as Module}
use Rattle.wasm_syntax.specs.Module.{InOrder, IsModule}
use Rattle.wasm_syntax.specs.Numbers.{IsValue}
use Rattle.wasm_laws.proofs.Lists.{all_take, all_drop}
use Rattle.wasm_format.specs.Encoding.{encoding as instruction_bytes, BasicFits, JumpFits, NumbersFit, IsInside, IsCode, targets_of}
use Rattle.wasm_encode.specs.Encoding.{type_byte, value_type_bytes, function_type_bytes, mutability_byte, import_bytes, global_bytes, expression_bytes, kind_byte, export_bytes, group_bytes, function_bytes, entry_bytes, declarations, front_sections, encoding}
use Rattle.wasm_encode.specs.calls.Fits.{FitsExpression, FitsModule}
use Rattle.wasm_encode.proofs.Targets.{all_inside}
use Rattle.rewrite_modules.specs.calls.Example.{divider}
use Rattle.rewrite_modules.specs.Instrumentable.{program_of, Instrumentable}
use Rattle.rewrite_modules.proofs.Divider.{instrumentable}
use Rattle.rewrite_promise.specs.calls.Promise.{IsRewriting, DecodesAsRewriting}
use Rattle.rewrite_promise.specs.calls.Example.{divider_bytes}
use Rattle.rewrite_promise.specs.Admitted.{Admits}
use Rattle.rewrite_promise.proofs.Admitted as admitting
use Rattle.rewrite_promise.proofs.Decoded.{accepted as accepted_module}
use Rattle.rewrite_promise.proofs.Example.{accepted, below}
use Rattle.rewrite_promise.proofs.Kept.{promised}
use Rattle.rewrite_promise.proofs.Laid.{laid}
use Rattle.rewrite_promise.proofs.There.{rewriting}
use Rattle.rewrite_promise.proofs.Written.{written}

-- ---- a test of numbers

word : ℕ → Bool
word n = nat_lt n 4294967296

word_fits : (n : ℕ) → word n ≡ true → n < 2 ^ 32
unfolding word
word_fits n e = ltb-true n 4294967296 e

abbrev value_test : Value → Bool
value_test (values.I32 n) = nat_lt n 4294967296
value_test (values.I64 n) = nat_lt n 18446744073709551616

value_fits : (v : Value) → value_test v ≡ true → IsValue v
value_fits (values.I32 n) e = ltb-true n 4294967296 e
value_fits (values.I64 n) e = ltb-true n 18446744073709551616 e

abbrev basic_test : Basic → Bool
basic_test (LocalGet x) = word x
basic_test (LocalSet x) = word x
basic_test (LocalTee x) = word x
basic_test (GlobalGet x) = word x
basic_test (GlobalSet x) = word x
basic_test (Load l align offset) = word align && word offset
basic_test (Store s align offset) = word align && word offset
basic_test (Const v) = value_test v
basic_test i = true

basic_fits : (i : Basic) → basic_test i ≡ true → BasicFits i
basic_fits Nop e = tt
basic_fits Drop e = tt
basic_fits Select e = tt
basic_fits (LocalGet x) e = word_fits x e
basic_fits (LocalSet x) e = word_fits x e
basic_fits (LocalTee x) e = word_fits x e
basic_fits (GlobalGet x) e = word_fits x e
basic_fits (GlobalSet x) e = word_fits x e
basic_fits (Load l al of) e = (word_fits al (and_parts (word al) (word of) e).0, word_fits of (and_parts (word al) (word of) e).1)
basic_fits (Store l al of) e = (word_fits al (and_parts (word al) (word of) e).0, word_fits of (and_parts (word al) (word of) e).1)
basic_fits MemorySize e = tt
basic_fits MemoryGrow e = tt
basic_fits MemoryCopy e = tt
basic_fits MemoryFill e = tt
basic_fits (Const v) e = value_fits v e
basic_fits (Eqz t) e = tt
basic_fits (Unary t op) e = tt
basic_fits (Compare t op) e = tt
basic_fits (Binary t op) e = tt
basic_fits (Convert c) e = tt
basic_fits (Extend32 k) e = tt
basic_fits (Extend64 k) e = tt

abbrev jump_test : Jump → Bool
jump_test (Br l) = word l
jump_test (BrIf l) = word l
jump_test (BrTable start count default) = word count && word default
jump_test (Call f) = word f
jump_test (CallIndirect t) = word t
jump_test j = true

jump_fits : (j : Jump) → jump_test j ≡ true → JumpFits j
jump_fits Unreachable e = tt
jump_fits (Br l) e = word_fits l e
jump_fits (BrIf l) e = word_fits l e
jump_fits (BrTable start count default) e = (word_fits count (and_parts (word count) (word default) e).0, word_fits default (and_parts (word count) (word default) e).1)
jump_fits Return e = tt
jump_fits (Call f) e = word_fits f e
jump_fits (CallIndirect t) e = word_fits t e

abbrev instr_test : Instr → Bool
instr_test (instrs.Basic i) = basic_test i
instr_test (instrs.Jump j) = jump_test j
instr_test i = true

numbers_fit : (i : Instr) → instr_test i ≡ true → NumbersFit i
numbers_fit (instrs.Basic i) e = basic_fits i e
numbers_fit (instrs.Jump j) e = jump_fits j e
numbers_fit (instrs.Block t) e = tt
numbers_fit (instrs.Loop t) e = tt
numbers_fit (instrs.If t) e = tt
numbers_fit instrs.Else e = tt
numbers_fit instrs.End e = tt

-- ---- bodies without `br_table`

abbrev body_test : List Op → Bool
body_test [] = true
body_test (o ∷ os) = instr_test o.code && body_test os

no_labels : (i : Instr) → AllByRecursion (λ l. l < 2 ^ 32) (targets_of [] i)
no_labels (instrs.Jump (BrTable start count default)) = all_take (λ l. l < 2 ^ 32) count (drop start []) (all_drop (λ l. l < 2 ^ 32) start [] tt)
no_labels (instrs.Jump Unreachable) = tt
no_labels (instrs.Jump (Br l)) = tt
no_labels (instrs.Jump (BrIf l)) = tt
no_labels (instrs.Jump Return) = tt
no_labels (instrs.Jump (Call f)) = tt
no_labels (instrs.Jump (CallIndirect t)) = tt
no_labels (instrs.Basic i) = tt
no_labels (instrs.Block t) = tt
no_labels (instrs.Loop t) = tt
no_labels (instrs.If t) = tt
no_labels instrs.Else = tt
no_labels instrs.End = tt

ops_fit : (ops : List Op) → body_test ops ≡ true → AllByRecursion (λ o. IsInside [] o.code) ops → AllByRecursion (λ o. IsCode [] o.code) ops
ops_fit [] e h = tt
ops_fit (o ∷ os) e h = (
  record { numbers = numbers_fit o.code (and_parts (instr_test o.code) (body_test os) e).0; labels = no_labels o.code; inside = h.0 },
  ops_fit os (and_parts (instr_test o.code) (body_test os) e).1 h.1,
)

-- ---- bytes

abbrev low_test : List ℕ → Bool
low_test [] = true
low_test (b ∷ bs) = nat_lt b 256 && low_test bs

low_bytes : (bs : List ℕ) → low_test bs ≡ true → AllByRecursion (λ b. b < 256) bs
low_bytes [] e = tt
low_bytes (b ∷ bs) e = (ltb-true b 256 (and_parts (nat_lt b 256) (low_test bs) e).0, low_bytes bs (and_parts (nat_lt b 256) (low_test bs) e).1)

-- ---- the example

whole : IsModule divider.module_
unfolding lib.Utf8.encode
whole = record {
  trees = divider.trees;
  write = (record { arms = tt; out = refl }, tt);
  in_order = (record { offsets = (omega arith, (omega arith, (omega arith, (omega arith, tt)))); targets = refl }, tt);
  as_many = refl;
  globals = tt;
  elements = tt;
  segments = tt;
  import_modules = tt;
  import_names = tt;
  export_names = ((codes "div", (refl, refl)), tt);
  custom_names = tt;
}

abbrev given : Instrumentable divider.module_
given = record {
  whole = whole;
  valid = instrumentable.valid;
  limits_ = instrumentable.limits_;
  small = instrumentable.small;
  no_collision = instrumentable.no_collision;
  no_export_collision = instrumentable.no_export_collision;
  lightness = instrumentable.lightness;
}

abbrev other : Module
other = laid (program_of divider.module_ whole)

is_rewriting : IsRewriting divider.module_ other
is_rewriting = (rewriting divider.module_ given).1

-- the instructions of a body of the rewritten example
expression_fits : (b : Body) → b.targets ≡ [] → InOrder b → body_test b.ops ≡ true → FitsExpression b
expression_fits b none order e =
    let inside = subst (λ (ts : List ℕ). AllByRecursion (λ o. IsInside ts o.code) b.ops) none (all_inside 0 b.ops b.targets order.targets) in
    subst (λ (ts : List ℕ). AllByRecursion (λ o. IsCode ts o.code) b.ops) (sym none) (ops_fit b.ops e inside)

fits : FitsModule other
unfolding word whole
fits =
    let order = is_rewriting.other_whole.in_order in
    let added = is_rewriting.other_whole.globals in
    record {
      front = record {
        declarations = record { imports = (lit< tt, (lit< tt, (lit< tt, tt))); functions = (lit< tt, (lit< tt, tt)); tables = tt; memories = tt };
        globals = (expression_fits _ refl added.0.in_order refl, (expression_fits _ refl added.1.0.in_order refl, tt));
        exports = (lit< tt, tt);
        start = tt;
        elements = tt;
      };
      bodies = (((lit< tt, (lit< tt, tt)), expression_fits _ refl order.0 refl), ((tt, expression_fits _ refl order.1.0 refl), tt));
      segments = tt;
    }

are_low : low_test (encoding other) ≡ true
unfolding whole unsigned_bytes unsigned_groups signed_bytes signed_groups instruction_bytes type_byte value_type_bytes function_type_bytes mutability_byte import_bytes global_bytes expression_bytes kind_byte export_bytes group_bytes function_bytes entry_bytes declarations front_sections encoding
are_low = refl

pub rewritten : (bytes : List ℕ) × DecodesAsRewriting divider.module_ bytes
rewritten = (encoding other, written divider.module_ other (accepted_module divider_bytes divider.module_ accepted) is_rewriting fits (below (encoding other) (low_bytes (encoding other) are_low)))

pub admitted : (bytes : List ℕ) × Admits divider.module_ bytes
admitted = (encoding other, admitting.written divider.module_ other accepted.light (promised divider.module_ other (accepted_module divider_bytes divider.module_ accepted) is_rewriting) fits (below (encoding other) (low_bytes (encoding other) are_low)))
