use Rattle.std.proofs.Common.{◌<◌, ◌^◌, ℕ, List, sym, ap, subst, ◌∙◌, arith}
use Rattle.std.proofs.lemmas.Result.{IfOk-weaker}
use Rattle.debug_frames.specs.declared.stored.Stored.{Stored}
use Rattle.debug_frames.specs.inner.Stores.{AreStored, places_among}
use Rattle.debug_frames.proofs.StoreLaws.{none_claimed, first_claimed, stored_behind}
use Rattle.debug_frames.proofs.programs.place_by.Goals as goal

pub returns-in_default : goal.returns-in_default
returns-in_default c =
    let small : c.args.address < 2 ^ 32 = omega arith in
    none_claimed c.args.sections.now c.args.address c.args.programs.now c.args.held.now small c.requires.stored c.requires.held (sym c.at.ensures ∙ c.in_default.is)

pub first_place-requires : goal.first_place-requires
first_place-requires c = subst (AreStored c.args.sections.now) (sym c.behind.ensures) (stored_behind c.args.sections.now c.in-Some.number c.args.programs.now c.requires.stored)

pub returns : goal.returns
returns c =
    let s = c.args.sections.now in
    let a = c.args.address in
    let small : a < 2 ^ 32 = omega arith in
    IfOk-weaker c.first_place.result _ _ (λ place is. is ∙ ap (λ (xs : List (ℕ × Stored)). places_among s xs a) c.behind.ensures
    ∙ first_claimed s a c.args.programs.now c.args.held.now c.in-Some.number small c.requires.stored c.requires.held (sym c.at.ensures ∙ c.in-Some.is)) c.first_place.ensures
