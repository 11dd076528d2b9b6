-- The start function alone.
use Rattle.std.proofs.Common.{◌≡◌, ℕ, ◌+◌, ◌<◌, ◌≤◌, [], length, Some, true, false, refl, sym, ◌∙◌, subst, arith}
use Rattle.wasm_syntax.specs.declared.parts.FuncType.{FuncType}
use Rattle.wasm_syntax.specs.Module.{Program, function_at}
use Rattle.wasm_syntax.specs.Host.{World}
use Rattle.wasm_syntax.specs.Machine.{Engine}
use Rattle.wasm_syntax.specs.Run.{ran_to, run_function, start_world, engine}
use Rattle.wasm_laws.proofs.Never.{start_alive}
use Rattle.rewrite_bodies.specs.calls.Slots.{greatest}
use Rattle.rewrite_modules.specs.calls.Instrument.{instrument}
use Rattle.rewrite_modules.specs.Simulates.{Alike}
use Rattle.rewrite_modules.specs.Starts.{start_run, StartsAlike}
use Rattle.rewrite_modules.specs.calls.Given.{Given}
use Rattle.rewrite_modules.proofs.Final.{Fits, part, go1, ends_so, start_fits, roomy_more}
use Rattle.rewrite_modules.proofs.SlotMultiple.{slot_multiple}
use Rattle.rewrite_modules.proofs.Sessions.{twice}
use Rattle.rewrite_modules.proofs.Start.{segments_same, started, world_start}
use Rattle.rewrite_modules.proofs.Theorem.{startable_given, fits_given}

abbrev nothing : FuncType
nothing = record { params = []; results = [] }

-- the rewritten module starts as the module does
pub starts_by_slots : (p : Program) → Given p → ((s : ℕ) → p.module_.start ≡ Some s → length p.module_.globals ≤ 20000000) → StartsAlike (slot_multiple p) p (instrument p)
starts_by_slots p given few replies d n s d1 d2 c e n8 =
    let M : Engine = engine p false d in
    let M' : Engine = engine (instrument p) true (d + 2) in
    let fit : Fits p = fits_given p given (few s e) in
    let deep : 0 < d = omega (arith, d1) in
    let x = started p [] s e in
    let w = start_world p.module_ replies in
    let ex = run_function M n s (function_at p s) [] w [] in
    let pt = part p fit d deep d2 s x.0 nothing [] w 0 n (function_at p s) refl x.2 (fit.start s e) refl (start_fits p fit d deep d2 replies c) in
    let en = ends_so p fit d deep d2 false n pt.0 ex.left ex.what (go1 p fit d deep d2 x.0 [] w 0) pt.1 pt.3 pt.2 n8 (start_alive p (startable_given p given) false d n s replies e) in
    let bound = roomy_more p fit d deep d2 n en.0 en.2 in
    let same = twice n 1 ((greatest p).0 + (greatest p).1 + length p.module_.globals) in
    let there : Alike (start_run M s replies n) (start_run M' x.0 replies en.0) =
    subst (λ (z : World). Alike (start_run M s replies n) (ran_to false (run_function M' en.0 x.0 (function_at (instrument p) x.0) [] z []).what (run_function M' en.0 x.0 (function_at (instrument p) x.0) [] z []).left)) (sym (world_start p d replies (fit.measured c))) en.3.alike in
    (x.0, segments_same p ∙ c, x.1, en.0, en.1, omega (arith, bound, same), there)
