-- The lines of a frame, one more.
use Rattle.std.proofs.Common.{◌≡◌, ℕ, ◌+◌, ◌<◌, List, ◌∷◌, ◌++◌, length, drop, Option, Some, sym, ap, subst, ◌∙◌, append_assoc}
use Rattle.std.specs.Prelude.{IfSome, get_or}
use Rattle.std.specs.List.{All}
use Rattle.std.proofs.lemmas.List.{drop_more}
use Rattle.std.proofs.lemmas.List.Elements.{All-get_or}
use Rattle.dump_format.specs.declared.dump.Frame.{Frame}
use Rattle.dwarf_entries.specs.Standing.{Standing}
use Rattle.dwarf_scopes.specs.Scopes.{inlined_at}
use Rattle.debug_frames.specs.Information.{SourceInformation}
use Rattle.debug_frames.specs.Frames.{line, inlined_text, place_behind, lines_behind}
use Rattle.debug_frames.specs.inner.Standings.{IsOfKept}
use Rattle.debug_frames.proofs.StandingLaws.{inlined_kept}

pub line_more : (x : SourceInformation) (i a : ℕ) (f : Frame) (all items : List Standing) (k : ℕ) (s : Standing) (before : Option Standing) (out more total : List ℕ)
    → items ≡ all → all ≡ inlined_at x.sections x.units a → k < length items → s ≡ get_or items k s → more ≡ out ++ line i (inlined_text x s) (place_behind x a before)
    → IfSome before (IsOfKept x) × (out ++ lines_behind x i a f before (drop k all) ≡ total) → IsOfKept x s × (more ++ lines_behind x i a f (Some s) (drop (k + 1) all) ≡ total)
line_more x i a f all items k s before out more total same are lt is made so_far =
    let inside : k < length all = subst (λ (l : List Standing). k < length l) same lt in
    let there : s ≡ get_or all k s = subst (λ (l : List Standing). s ≡ get_or l k s) same is in
    let rest : drop k all ≡ s ∷ drop (k + 1) all = drop_more all k s inside ∙ ap (λ (q : Standing). q ∷ drop (k + 1) all) (sym there) in
    let kept : All (IsOfKept x) all = subst (All (IsOfKept x)) (sym are) (inlined_kept x a) in (
      subst (IsOfKept x) (sym there) (All-get_or (IsOfKept x) all k s inside kept),
      ap (λ (t : List ℕ). t ++ lines_behind x i a f (Some s) (drop (k + 1) all)) made
          ∙ append_assoc out (line i (inlined_text x s) (place_behind x a before)) (lines_behind x i a f (Some s) (drop (k + 1) all))
          ∙ ap (λ (l : List Standing). out ++ lines_behind x i a f before l) (sym rest)
          ∙ so_far.1,
    )
