-- The module that the tests write is a module, and short.
use Rattle.std.proofs.Common.{◌≡◌, ◌≤◌, [], ◌∷◌, length, refl, subst, sym, lit≤}
use Rattle.std.specs.Prelude.{codes}
use lib.Utf8.{encode}
use Rattle.int_ops.specs.declared.operators.Binary.TheVariants.{DivS}
use Rattle.wasm_syntax.specs.declared.value.ValType.TheVariants.{I32}
use Rattle.wasm_syntax.specs.declared.instruction.Basic.TheVariants as basics
use Rattle.wasm_syntax.specs.declared.module.ModuleParts.{ModuleParts}
use Rattle.wasm_syntax.specs.Module.{IsModule}
use Rattle.wasm_syntax.specs.Tree.{stop, basic}
use Rattle.wasm_leb.specs.Writing.{unsigned_bytes, unsigned_groups, signed_bytes, signed_groups}
use Rattle.wasm_format.specs.Encoding.{encoding as instruction_bytes}
use Rattle.wasm_encode.specs.Encoding.{type_byte, value_type_bytes, function_type_bytes, expression_bytes, kind_byte, export_bytes, function_bytes, entry_bytes, declarations, front_sections, encoding}
use Rattle.format_tests.specs.inner.Samples.{division}

division_is : IsModule division
unfolding encode
division_is = record {
  trees = record { nodes = basic 1 (basics.LocalGet 0) (basic 3 (basics.LocalGet 1) (basic 5 (basics.Binary I32 DivS) stop)); end = 6 } ∷ [];
  write = (record { arms = tt; out = refl }, tt);
  in_order = (record { offsets = (lit≤ tt, (lit≤ tt, (lit≤ tt, (lit≤ tt, tt)))); targets = refl }, tt);
  as_many = refl;
  globals = tt;
  elements = tt;
  segments = tt;
  import_modules = tt;
  import_names = tt;
  export_names = ((codes "div", (refl, refl)), tt);
  custom_names = tt;
}

division_short : length (encoding division) ≤ 134217728
unfolding unsigned_bytes unsigned_groups signed_bytes signed_groups instruction_bytes type_byte value_type_bytes function_type_bytes expression_bytes kind_byte export_bytes function_bytes entry_bytes declarations front_sections encoding
division_short = lit≤ tt

-- the same of what is built
pub built_is : (m : ModuleParts) → m ≡ division → IsModule m
built_is m e = subst IsModule (sym e) division_is

pub built_short : (m : ModuleParts) → m ≡ division → length (encoding m) ≤ 134217728
built_short m e = subst (λ (p : ModuleParts). length (encoding p) ≤ 134217728) (sym e) division_short
