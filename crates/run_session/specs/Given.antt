-- The replies that the invocations of a list were given.
use Rattle.std.specs.Prelude.{ℕ, List, ◌++◌, filter, slice_get, bytes_eq}
use Rattle.std.specs.List.{flat_map}
use Rattle.wasm_syntax.specs.declared.parts.Import.{Import}
use Rattle.wasm_syntax.specs.declared.host.Served.{Served}
use Rattle.wasm_syntax.specs.Run.{Ran}
use Rattle.host_devices.specs.Given.{unfitting, module_name}

-- all calls of an invocation with their replies, in order; the last one may have a reply that does not fit
abbrev pub given_to : Ran → List Served
given_to r = r.served ++ unfitting r.outcome

-- and those of a list
abbrev pub given_in : List Ran → List Served
given_in rans = flat_map given_to rans

-- ---- who gave them

-- the module from which the called function is imported
abbrev pub module_of : List Import → ℕ → List ℕ
module_of imports i = module_name (slice_get imports i)

-- those whose import has a module of this name
abbrev pub from_module : List Import → List ℕ → List Served → List Served
from_module imports name given = filter (λ s. bytes_eq (module_of imports s.call.import) name) given
