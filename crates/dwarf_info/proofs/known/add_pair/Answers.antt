use Rattle.std.proofs.Common.{◌≡◌, ◌∷◌, Some, sym, ap, subst, ◌∙◌}
use Rattle.std.specs.Prelude.{Option, IfSome}
use Rattle.std.specs.Ordering.{nat_cmp}
use Rattle.std.specs.BTreeMap.{get}
use Rattle.dwarf_abbrev.specs.calls.Shared.{list_of}
use Rattle.dwarf_info.specs.declared.known.PairsAt.{PairsAt}
use Rattle.dwarf_info.specs.declared.known.PairsAt.TheVariants.{Listed, Fault}
use Rattle.dwarf_info.specs.calls.Pairs.{IsRight}
use Rattle.dwarf_info.proofs.PairLaws.{on_ok, knows_more, fault_in_front, list_in_front}
use Rattle.dwarf_info.proofs.known.add_pair.Goals as goal

pub push-requires : goal.push-requires
push-requires g c =
    let pair = g.V.UnitVersion.pair in
    let before = c.args.growing.now.lists in
    let known = get nat_cmp c.args.growing.now.known in
    let list = c.in-Some-Listed.list in
    let end = c.in-Some-Listed.end in
    let e : known c.args.next ≡ Some (Listed list end) = sym c.kept_at.ensures ∙ c.in-Some-Listed.is ∙ ap (λ (k : PairsAt). Some k) c.in-Some-Listed.field-0-is in
    let right : IsRight pair c.args.section.now before c.args.next (Listed list end) = subst (λ (o : Option PairsAt). IfSome o (IsRight pair c.args.section.now before c.args.next)) e (c.requires.knows c.args.next) in
    right.1.0

pub returns-in_ok-longer-in-Some-Listed : goal.returns-in_ok-longer-in-Some-Listed
returns-in_ok-longer-in-Some-Listed g c =
    let pair = g.V.UnitVersion.pair in
    let section = c.args.section.now in
    let before = c.args.growing.now.lists in
    let after = c.push.new.self in
    let known = get nat_cmp c.args.growing.now.known in
    let next = c.args.next in
    let list = c.in-Some-Listed.list in
    let end = c.in-Some-Listed.end in
    let made = c.args.slot ∷ list_of before list in
    let e : known next ≡ Some (Listed list end) = sym c.kept_at.ensures ∙ c.in-Some-Listed.is ∙ ap (λ (k : PairsAt). Some k) c.in-Some-Listed.field-0-is in
    let right : IsRight pair section before next (Listed list end) = subst (λ (o : Option PairsAt). IfSome o (IsRight pair section before next)) e (c.requires.knows next) in
    let knows = knows_more pair section before after made c.in_ok-longer-in-Some-Listed.ensures.made known c.requires.knows in
    on_ok c.keep.result
    (λ keeps. keeps pair section knows (list_in_front pair section c.args.at c.args.slot next c.requires.front before after list c.in_ok-longer-in-Some-Listed.longer end right c.in_ok-longer-in-Some-Listed.ensures.made c.in_ok-longer-in-Some-Listed.ensures.number))
    c.keep.ensures

pub returns-in-Some-Fault : goal.returns-in-Some-Fault
returns-in-Some-Fault g c =
    let pair = g.V.UnitVersion.pair in
    let section = c.args.section.now in
    let lists = c.args.growing.now.lists in
    let known = get nat_cmp c.args.growing.now.known in
    let next = c.args.next in
    let fault = c.in-Some-Fault.fault in
    let e : known next ≡ Some (Fault fault) = sym c.kept_at.ensures ∙ c.in-Some-Fault.is ∙ ap (λ (k : PairsAt). Some k) c.in-Some-Fault.field-0-is in
    let right : IsRight pair section lists next (Fault fault) = subst (λ (o : Option PairsAt). IfSome o (IsRight pair section lists next)) e (c.requires.knows next) in
    on_ok c.keep-in-Some-Fault.result (λ keeps. keeps pair section c.requires.knows (fault_in_front pair section c.args.at c.args.slot next c.requires.front lists fault right)) c.keep-in-Some-Fault.ensures
