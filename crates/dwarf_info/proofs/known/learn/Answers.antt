use Rattle.std.proofs.Common.{◌≡◌, ◌≤◌, ◌<◌, Ok, length, sym, ap, subst, ◌∙◌, arith, refl}
use Rattle.std.specs.Prelude.{Option}
use Rattle.wasm_bytes.specs.Place.{Place}
use Rattle.dwarf_info.specs.declared.form.Slot.{Slot}
use Rattle.dwarf_info.proofs.RowLaws.{place_is}
use Rattle.dwarf_info.proofs.PairLaws.{place, on_ok, pair_in_front, end_right, fault_right}
use Rattle.dwarf_info.proofs.known.learn.Goals as goal

pub add_pair-requires : goal.add_pair-requires
add_pair-requires g c κs =
    let pair = g.V.UnitVersion.pair in
    let section = c.args.section.now in
    let p = c.starting_at-reader.result in
    let q = c.read_pair-pair.new.reader in
    let next = c.at-next.result in
    let here : p ≡ place section c.args.at = c.starting_at-reader.ensures in
    let block = c.in-Ok-Some.ensures.moves.1 ∙ ap (λ (x : Place). x.block) here in
    let behind : q ≡ place section next = place_is q section block ∙ ap (place section) (sym c.at-next.ensures.is) in
    let item = subst (λ (o : Option Slot). pair p ≡ Ok (o, q)) c.in-Ok-Some.field-0-is c.in-Ok-Some.ensures.item in
    let moves : c.args.at < next = omega (arith, c.in-Ok-Some.ensures.moves.0, c.at-next.ensures.is, ap (λ (x : Place). x.at) here) in
    ((refl, tt), (c.requires.knows, pair_in_front pair section c.args.at next p q here behind c.in-Ok-Some.slot c.requires.inside moves item))

pub returns-in-Ok-None : goal.returns-in-Ok-None
returns-in-Ok-None g c =
    let pair = g.V.UnitVersion.pair in
    let section = c.args.section.now in
    let p = c.starting_at-reader.result in
    let q = c.read_pair-pair.new.reader in
    let next = c.at-next.result in
    let here : p ≡ place section c.args.at = c.starting_at-reader.ensures in
    let block = c.in-Ok-None.ensures.moves.1 ∙ ap (λ (x : Place). x.block) here in
    let behind : q ≡ place section next = place_is q section block ∙ ap (place section) (sym c.at-next.ensures.is) in
    let item = subst (λ (o : Option Slot). pair p ≡ Ok (o, q)) c.in-Ok-None.field-0-is c.in-Ok-None.ensures.item in
    let moves : c.args.at ≤ next = omega (arith, c.in-Ok-None.ensures.moves.0, c.at-next.ensures.is, ap (λ (x : Place). x.at) here) in
    let inside : next ≤ length section = omega (arith, c.at-next.ensures.inside, c.at-next.ensures.is, ap length block) in
    on_ok c.keep.result (λ keeps. keeps pair section c.requires.knows (end_right pair section c.args.at next p q here behind c.args.growing.now.lists moves inside item)) c.keep.ensures

pub returns-in-Err : goal.returns-in-Err
returns-in-Err g c =
    let pair = g.V.UnitVersion.pair in
    let section = c.args.section.now in
    let p = c.starting_at-reader.result in
    let here : p ≡ place section c.args.at = c.starting_at-reader.ensures in
    on_ok c.keep-in-Err.result (λ keeps. keeps pair section c.requires.knows (fault_right pair section c.args.at p here c.in-Err.fault.at c.args.growing.now.lists c.requires.inside c.in-Err.ensures.item)) c.keep-in-Err.ensures
