use Rattle.std.proofs.Common.{◌≡◌, ◌≤◌, ◌+◌, ℕ, ◌∷◌, ◌++◌, [], List, length, sym, subst, ap, ◌∙◌, arith}
use Rattle.std.specs.Prelude.{IfOk}
use Rattle.dwarf_abbrev.specs.calls.Shared.{list_of}
use Rattle.dwarf_abbrev.proofs.TrieLaws.{either_way}
use Rattle.dwarf_info.specs.declared.slots.KeptSlot.{KeptSlot}
use Rattle.dwarf_info.specs.inner.Joined.{counted}
use Rattle.dwarf_info.specs.inner.Kept.{AreKept}
use Rattle.dwarf_info.proofs.KeptLaws.{slots_length, kept_more, slots_more}
use Rattle.dwarf_info.proofs.PairLaws.{on_ok}
use Rattle.dwarf_info.proofs.slots.add_slot.Goals as goal

pub returns-clause-kept : goal.returns-clause-kept
returns-clause-kept c =
    let before = c.args.kept.now in
    let after = c.push.new.self in
    let k : KeptSlot = record { slot = c.args.slot; rest = c.args.rest; next = c.own_from-next.result; own = c.counted-own.result } in
    let there : c.args.rest ≤ length before = omega (arith, c.requires.there, slots_length before) in
    let own = c.counted-own.ensures ∙ ap (counted c.args.slot) c.own_len-behind.ensures in
    either_way c.push.result (after ≡ before ++ (k ∷ list_of before c.args.rest) ∷ []) (after ≡ before) (AreKept after) c.push.ensures.made c.push.ensures.err
    (λ made. kept_more before after k c.requires.kept made there c.own_from-next.ensures.there c.own_from-next.ensures.same c.own_from-next.ensures.begins own)
    (λ same. subst (λ (ls : List (List KeptSlot)). AreKept ls) (sym same) c.requires.kept)

pub returns-clause-made : goal.returns-clause-made
returns-clause-made c =
    let before = c.args.kept.now in
    let after = c.push.new.self in
    let k : KeptSlot = record { slot = c.args.slot; rest = c.args.rest; next = c.own_from-next.result; own = c.counted-own.result } in
    let there : c.args.rest ≤ length before = omega (arith, c.requires.there, slots_length before) in
    let own = c.counted-own.ensures ∙ ap (counted c.args.slot) c.own_len-behind.ensures in
    on_ok c.push.result (λ made. slots_more before after k c.requires.kept made there c.own_from-next.ensures.there c.own_from-next.ensures.same c.own_from-next.ensures.begins own) c.push.ensures.made

pub push-requires : goal.push-requires
push-requires c = omega (arith, c.requires.there, slots_length c.args.kept.now)

pub returns-clause-number : goal.returns-clause-number
returns-clause-number c = subst (λ (m : ℕ). IfOk c.push.result (λ n. n ≡ m + 1)) (sym (slots_length c.args.kept.now)) c.push.ensures.number
