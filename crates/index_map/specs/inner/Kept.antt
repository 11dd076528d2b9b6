-- What is kept of a module.
use Rattle.std.specs.Prelude.{◌≡◌, ℕ, ◌+◌, ◌<◌, ◌^◌, Bool, List, map, length, sum, get_or, Option, None}
use Rattle.wasm_syntax.specs.declared.module.ModuleParts.{ModuleParts as Module}
use Rattle.wasm_syntax.specs.Module.{function_types}
use Rattle.rewrite_bodies.specs.Numbering.{export_wrapped, named_wrapped, wrapped, entry_weight, element_functions, table_functions, doubles, flag_of, helper_base}
use Rattle.rewrite_bodies.specs.calls.Guards.{length_of}
use Rattle.rewrite_modules.specs.calls.Instrument.{new_exports}
use Rattle.rewrite_modules.specs.Weight.{types_used}
use Rattle.index_map.specs.inner.Used.{AllBelow, bodies_used, behind}

-- the functions and the globals of the rewritten module have numbers of 32 bits
pub record FewIndices (m : Module) : Type 0 where
  pub functions : helper_base m + length (types_used m) < 2 ^ 32
  pub globals : flag_of m < 2 ^ 32
  pub added : length_of m < 2 ^ 32

-- what is needed of a module
pub record CanBeNumbered (m : Module) : Type 0 where
  pub few : FewIndices m
  pub types_there : AllBelow (length m.types) (bodies_used m.bodies)
  pub functions_there : AllBelow (length (function_types m)) (element_functions m)
  -- what is weighed for a table is a number of 64 bits
  pub wrappers_light : sum (map (entry_weight m) (table_functions m)) < 2 ^ 63
  pub places_few : length (element_functions m) < 2 ^ 59

-- the types that are used, and for each type of the module how many of them stand behind it
pub record AreUsed (m : Module) (helped : List ℕ) (places : List (Option ℕ)) : Type 0 where
  pub helped_is : helped ≡ types_used m
  pub count : length places ≡ length m.types
  pub places_are : (t : ℕ) → t < length places → get_or places t None ≡ behind t (types_used m)

-- the functions of the table, and for each function of the module how many of them stand behind it
pub record AreShown (m : Module) (functions : List ℕ) (places : List (Option ℕ)) : Type 0 where
  pub functions_are : functions ≡ table_functions m
  pub count : length places ≡ length (function_types m)
  pub places_are : (f : ℕ) → f < length places → get_or places f None ≡ behind f (table_functions m)

pub record IsMap (m : Module) (exported named : ℕ) (doubled : Bool) (wraps exports helped functions : List ℕ) (places shown : List (Option ℕ)) : Type 0 where
  pub can : CanBeNumbered m
  pub exported_is : exported ≡ length (export_wrapped m)
  pub named_is : named ≡ length (named_wrapped m)
  pub doubled_is : doubled ≡ doubles m
  pub wraps_is : wraps ≡ wrapped m
  pub exports_is : exports ≡ map (λ e. e.index) (new_exports m 0 m.exports)
  pub used : AreUsed m helped places
  pub shown_are : AreShown m functions shown
