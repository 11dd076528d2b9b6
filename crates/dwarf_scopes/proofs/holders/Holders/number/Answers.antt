use Rattle.std.proofs.Common.{◌<◌, ◌^◌, ℕ, Option, ap, ◌∙◌, arith}
use Rattle.std.specs.Prelude.{slice_get, option_and_then}
use Rattle.std.proofs.lemmas.Result.{IfOk-weaker}
use Rattle.dwarf_scopes.specs.Ranges.{holds}
use Rattle.dwarf_scopes.specs.calls.Steps.{answer}
use Rattle.dwarf_scopes.specs.calls.Numbered.{passes, first_or}
use Rattle.dwarf_scopes.proofs.HolderLaws.{first_is}
use Rattle.dwarf_scopes.proofs.holders.Holders.number.Goals as goal

pub first_or-first-requires : goal.first_or-first-requires
first_or-first-requires c = record { right = c.no_ranges-lists.ensures c.args.sections.now c.args.address }

pub returns : goal.returns
returns c =
    let s = c.args.sections.now in let a = c.args.address in let xs = c.args.entries.now in let h = c.args.self.now in
    let small : a < 2 ^ 32 = omega arith in
    let test = (λ (i : ℕ). passes (holds s a) (slice_get xs i)) in
    let same = ap (λ (o : Option ℕ). first_or test o c.as_slice-listed.result.now) c.at-named.ensures ∙ ap (first_or test (answer h.bounded a)) c.as_slice-listed.ensures in
    let first = first_is s a xs h small c.requires in
    IfOk-weaker c.first_or-first.result _ _ (λ number is. ap (option_and_then (slice_get xs)) (is ∙ same) ∙ first) c.first_or-first.ensures.is
