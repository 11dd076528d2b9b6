-- Who serves the imports of a module, and what is looked at before anything is run.
use Rattle.std.specs.Prelude.{ℕ, not, Bool, true, false, List, [], ◌++◌, map, filter, Option, is_some, slice_get, if◌then◌else◌, codes, option_map}
use Rattle.std.specs.Fmt.{decimal}
use Rattle.wasm_syntax.specs.declared.parts.Import.{Import}
use Rattle.wasm_syntax.specs.declared.host.Reply.{Reply}
use Rattle.wasm_syntax.specs.declared.host.Served.{Served}
use Rattle.wasm_syntax.specs.declared.module.ModuleParts.{ModuleParts as Module}
use Rattle.wasm_syntax.specs.Run.{cause_of_segments, first_false, Invocation}
use Rattle.host_collector.specs.Collecting.{is_told, is_collected}
use Rattle.host_set.specs.Sets.{is_named}
use Rattle.run_session.specs.Given.{module_of}
use Rattle.run_command.specs.Starting.{cause_text, entries_text}
use Rattle.std.specs.Option.{option_or, option_map_or}

-- the calls that no device serves
abbrev pub scripted : List (List ℕ) → List Import → List Served → List Served
scripted names imports given = filter (λ s. not (is_named names (module_of imports s.call.import))) given

-- the names of devices; the replies of a script, if there is one; and whether a collector is asked for
pub record Hosting : Type 0 where
  pub names : List (List ℕ)
  pub script : Option (List Reply)
  pub collects : Bool

-- a device has the name of the import's module, or there is a script
abbrev pub is_replied : Hosting → Import → Bool
is_replied h i = if is_named h.names i.«module» then true else is_some h.script

-- A collector serves its own imports, by name and type, and nobody else serves an import of its module.
abbrev pub is_served : Hosting → Module → Import → Bool
is_served h m i =
    if h.collects then (if is_told i then option_map_or (is_collected i) (slice_get m.types i.ftype) false else is_replied h i) else is_replied h i

-- the number of the first import that nobody serves
abbrev pub first_unserved : Hosting → Module → Option ℕ
first_unserved h m = first_false 0 (map (is_served h m) m.imports)

abbrev pub import_text : Option ℕ → Option (List ℕ)
import_text o = option_map (λ i. codes "import " ++ decimal i) o

-- the invocations in order, the imports, the segments
abbrev pub start_text : Hosting → Module → List Invocation → Option (List ℕ)
start_text h m is = option_or (entries_text m is) (option_or (import_text (first_unserved h m)) (cause_text [] (cause_of_segments m)))
