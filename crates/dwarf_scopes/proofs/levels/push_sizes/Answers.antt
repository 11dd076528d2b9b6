use Rattle.std.proofs.Common.{◌++◌, List, sym, subst, arith}
use Rattle.std.proofs.lemmas.Result.{on_ok_weaker}
use Rattle.dwarf_scopes.specs.declared.levels.Level.{Level}
use Rattle.dwarf_scopes.specs.declared.spans.Span.{Span}
use Rattle.dwarf_scopes.specs.calls.Levels.{AreParts, AreSized}
use Rattle.dwarf_scopes.proofs.LevelLaws.{sizes_more, sizes_all}
use Rattle.dwarf_scopes.proofs.levels.push_sizes.Goals as goal

pub sizes-init : goal.sizes-init
sizes-init c = (omega arith, (c.in_ok-parts.ensures, λ more is. subst (λ (ls : List Level). AreSized (ls ++ more) c.args.entries.now) (sym c.requires) is))

pub sizes-preserved : goal.sizes-preserved
sizes-preserved c =
    let es = c.args.entries.now in
    let level : Level = record { size = c.sizes.size; parts = c.sizes.parts } in
    let larger = c.in_ok-more.ensures c.sizes.size es (subst (λ (ps : List (List Span)). AreParts c.sizes.size ps es) (sym c.as_slice.ensures) c.sizes.invariant.1.0) in
    let grown = sizes_more es c.sizes.levels c.push.new.self level c.sizes.invariant.1.0 c.in_ok-push.ensures.ok c.sizes.invariant.1.1 in
    (omega (arith, c.sizes.invariant.0), (larger, grown))

pub returns-then-is_empty : goal.returns-then-is_empty
returns-then-is_empty c = sizes_all c.args.entries.now c.sizes.levels c.sizes.invariant.1.1

pub returns : goal.returns
returns c =
    let es = c.args.entries.now in
    let level : Level = record { size = c.sizes.size; parts = c.sizes.parts } in
    on_ok_weaker c.push-2.result (λ pushed. sizes_all es c.push-2.new.self (sizes_more es c.sizes.levels c.push-2.new.self level c.sizes.invariant.1.0 pushed c.sizes.invariant.1.1)) c.push-2.ensures.ok
