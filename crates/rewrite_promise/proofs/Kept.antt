-- All promises together.
use Rattle.std.proofs.Common.{◌≡◌, ℕ, ◌≤◌, List, [], length, refl, sym, subst, arith}
use Rattle.wasm_syntax.specs.declared.module.ModuleParts.{ModuleParts as Module}
use Rattle.wasm_syntax.specs.Module.{Program, IsModule}
use Rattle.wasm_syntax.specs.Sizes.{WithinLimits}
use Rattle.wasm_syntax.specs.Valid.{Valid}
use Rattle.wasm_validate.specs.Heights.{AllLow}
use Rattle.wasm_encode.specs.Encoding.{encoding}
use Rattle.wasm_format_laws.specs.calls.Sized.{Sized}
use Rattle.wasm_syntax.specs.SameCode.{code_alone}
use Rattle.rewrite_modules.specs.calls.Bare.{bare}
use Rattle.rewrite_modules.specs.calls.Given.{Given}
use Rattle.rewrite_modules.specs.calls.Instrument.{instrument, new_module}
use Rattle.rewrite_modules.specs.Multiple.{multiple}
use Rattle.rewrite_modules.specs.Instrumentable.{program_of, Instrumentable}
use Rattle.rewrite_modules.specs.Simulates.{Simulates}
use Rattle.rewrite_modules.specs.Flag.{LowersFlag}
use Rattle.rewrite_modules.specs.Starts.{StartsAlike}
use Rattle.rewrite_modules.specs.Weight.{AreHeights, weight}
use Rattle.rewrite_modules.proofs.BareRuns.{simulates_bare, starts_bare, lowers_bare}
use Rattle.rewrite_modules.proofs.BareCalls.{entries_bare, entries_lower_bare}
use Rattle.rewrite_modules.specs.Entries.{SimulatesEntries, EntriesLowerFlag}
use Rattle.rewrite_modules.proofs.BareValid.{same_valid}
use Rattle.rewrite_modules.proofs.Modules.{module_given, few_at_start}
use Rattle.rewrite_modules.proofs.LowOperands.{low_heights}
use Rattle.rewrite_modules.proofs.Multiple.{simulates_by, starts_by_heights, entries_by_heights}
use Rattle.rewrite_modules.proofs.Theorem.{startable_given, ready_given, rewriting_lowers, entries_lower}
use Rattle.rewrite_modules.proofs.ValidModule.{new_valid}
use Rattle.rewrite_modules.proofs.WrittenOut.{program_bare, same_bare, instrument_bare}
use Rattle.rewrite_promise.proofs.Lists.{within}
use Rattle.rewrite_promise.proofs.Whole.{encoding_weighs}
use Rattle.rewrite_promise.specs.calls.Promise.{Accepted, IsRewriting, Promised}
use Rattle.rewrite_promise.proofs.Decoded.{with_trees}
use Rattle.rewrite_promise.proofs.Exported.{functions_kept}
use Rattle.rewrite_promise.proofs.Heights.{one_weight}
use Rattle.rewrite_promise.proofs.Low.{all_low}
use Rattle.rewrite_promise.proofs.Outside.{outside}

module _ (m other : Module) (x : Instrumentable m) (sized : Sized m) (too : IsModule other) (same : code_alone (new_module (program_of m x.whole)) ≡ code_alone other) where
  abbrev p : Program
  p = program_of m x.whole

  abbrev q : Program
  q = program_of other too

  given : Given p
  given = module_given m x

  bares : bare q ≡ bare (instrument p)
  bares = same_bare q (instrument p) (program_bare q too.write) (instrument_bare p given.program (startable_given p given).typed) (sym same)

  pub does : (heights : List (List ℕ)) → AreHeights m heights → Simulates (multiple m heights) p q
  does heights are = simulates_bare (multiple m heights) p (instrument p) q bares (simulates_by p given heights are)

  pub starts_it : (heights : List (List ℕ)) → AreHeights m heights → StartsAlike (multiple m heights) p q
  starts_it heights are = starts_bare (multiple m heights) p (instrument p) q bares (starts_by_heights p given (few_at_start m x) heights are)

  pub lowers_it : LowersFlag p q
  lowers_it = lowers_bare p (instrument p) q bares (rewriting_lowers p given)

  pub entries_it : (heights : List (List ℕ)) → AreHeights m heights → SimulatesEntries (multiple m heights) p q
  entries_it heights are = entries_bare (multiple m heights) p (instrument p) q bares (entries_by_heights p given heights are)

  pub entries_lower_it : EntriesLowerFlag p q
  entries_lower_it = entries_lower_bare p (instrument p) q bares (entries_lower p given)

  pub is_valid : Valid other
  is_valid = same_valid (new_module p) other same too (new_valid p (ready_given p given) x.valid (startable_given p given).typed x.whole.write x.no_export_collision)

  pub is_low : AllLow other
  is_low = all_low other (low_heights m other x too is_valid same)

  pub weighs_ : (heights : List (List ℕ)) → AreHeights m heights → length (encoding other) ≤ weight m heights
  weighs_ heights are = subst (λ (n : ℕ). length (encoding other) ≤ n) (one_weight m x.valid x.lightness.heights heights x.lightness.heights_are are) (encoding_weighs m x sized other same)

  pub few : length (encoding other) ≤ 134217728
  few = let a = encoding_weighs m x sized other same in omega (arith, a, x.lightness.light)

-- without custom sections
abbrev plain : Module → Module
plain m = record m { customs = [] }

within_too : (m other : Module) (r : IsRewriting m other) (x : Instrumentable m) → Sized m → code_alone (new_module (program_of m x.whole)) ≡ code_alone other → WithinLimits other
within_too m other r x sized same =
    let w = within m (plain other) x sized same refl in
    let s = w.short in
    record {
      short = record {
        types = s.types;
        each_type = s.each_type;
        functions = s.functions;
        import_modules = s.import_modules;
        import_names = s.import_names;
        tables = s.tables;
        memories = s.memories;
        globals = s.globals;
        each_global = s.each_global;
        exports = s.exports;
        export_names = s.export_names;
        elements = s.elements;
        each_element = s.each_element;
        segments = s.segments;
        each_segment = s.each_segment;
        bodies = s.bodies;
        each_body = s.each_body;
        customs = r.few_customs;
        custom_names = r.short_names;
      };
      locals = w.locals;
      nested = w.nested;
      tables = w.tables;
      memories = w.memories;
    }

pub promised : (m other : Module) → Accepted m → IsRewriting m other → Promised m other
promised m other a r =
    let x = with_trees m a.premises r.whole in
    record {
      whole = r.whole;
      other_whole = r.other_whole;
      simulates = does m other x a.sized r.other_whole r.same;
      starts = starts_it m other x a.sized r.other_whole r.same;
      entries = entries_it m other x a.sized r.other_whole r.same;
      lowers = lowers_it m other x a.sized r.other_whole r.same;
      entries_lower = entries_lower_it m other x a.sized r.other_whole r.same;
      valid = is_valid m other x a.sized r.other_whole r.same;
      within = within_too m other r x a.sized r.same;
      low = is_low m other x a.sized r.other_whole r.same;
      outside = outside (program_of m r.whole) other r.same;
      functions = functions_kept (program_of m r.whole) other (ready_given (program_of m r.whole) (module_given m x)) r.same;
      weighs = weighs_ m other x a.sized r.other_whole r.same;
      few_bytes = few m other x a.sized r.other_whole r.same;
    }
