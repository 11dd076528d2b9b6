use Rattle.std.proofs.Common.{◌≡◌, ◌≤◌, ◌++◌, ◌∷◌, [], ℕ, List, length, Option, Ok, sym, ap, subst, ◌∙◌, arith}
use Rattle.wasm_bytes.specs.Place.{Place}
use Rattle.dwarf_info.proofs.RowLaws.{place_is}
use Rattle.dwarf_loc.specs.declared.entry.ListEntry.{ListEntry}
use Rattle.dwarf_scopes.specs.declared.known.ListPlace.{ListPlace}
use Rattle.dwarf_scopes.specs.declared.known.PassedEntry.{PassedEntry}
use Rattle.dwarf_scopes.specs.inner.Passing.{IsEntry, Leads}
use Rattle.dwarf_scopes.proofs.KnownLaws.{is_entry, leads_on, said_end, said_none}
use Rattle.dwarf_scopes.proofs.known.read_entries.Goals as goal

pub entries-init : goal.entries-init
entries-init g c =
    let section = g.K.ListKind.section c.args.sections.now in
    let item = g.K.ListKind.item c.args.sections.now in
    let start : c.args.start.at ≡ c.starting_at-reader.result.at = sym (ap (λ (p : Place). p.at) c.starting_at-reader.ensures) in
    let same : c.args.start ≡ (let p : ListPlace = record { way = c.args.start.way; base = c.args.start.base; at = c.starting_at-reader.result.at } in p) =
    ap (λ (a : ℕ). (let p : ListPlace = record { way = c.args.start.way; base = c.args.start.base; at = a } in p)) start in
    record {
      led = subst (λ (xs : List (PassedEntry _)). Leads section item xs c.args.start (record { way = c.args.start.way; base = c.args.start.base; at = c.starting_at-reader.result.at })) (sym c.requires.none) same;
      block = ap (λ (p : Place). p.block) c.starting_at-reader.ensures ∙ c.section-section.ensures;
    }

pub entries-preserved : goal.entries-preserved
entries-preserved g c =
    let section = g.K.ListKind.section c.args.sections.now in
    let item = g.K.ListKind.item c.args.sections.now in
    let way = c.args.start.way in
    let p = c.entries.reader in
    let q = c.entry-read.new.reader in
    let entry = c.in-Ok-Some.entry in
    let here : ListPlace = record { way = way; base = c.entries.base; at = p.at } in
    let asked : ListPlace = record { way = way; base = c.entries.base; at = c.at-at.result } in
    let x : PassedEntry _ = record { place = asked; entry = entry } in
    let block = c.entries.invariant.block in
    let behind_block : q.block ≡ section way = c.in-Ok-Some.ensures.moves.1 ∙ block in
    let inside : p.at ≤ length (section way) = omega (arith, c.at-at.ensures.inside, ap length block) in
    let reads = subst (λ (o : Option (ListEntry _)). item way p ≡ Ok (o, q)) c.in-Ok-Some.field-0-is c.in-Ok-Some.ensures.item in
    let is : IsEntry (section way) (item way) p.at entry q.at = is_entry (section way) (item way) p q entry block behind_block inside c.in-Ok-Some.ensures.moves.0 reads in
    let placed : asked ≡ here = ap (λ (a : ℕ). (let r : ListPlace = record { way = way; base = c.entries.base; at = a } in r)) c.at-at.ensures.is in
    let on = leads_on section item c.entries.passed c.args.start here q.at x c.entries.invariant.led placed is in
    record {
      led = subst (λ (xs : List (PassedEntry _)). Leads section item xs c.args.start (record { way = way; base = c.base_behind-base.result; at = q.at })) (sym c.in_ok-push-in-Ok-Some.ensures.ok)
          (subst (λ (b : ℕ). Leads section item (c.entries.passed ++ x ∷ []) c.args.start (record { way = way; base = b; at = q.at })) (sym c.base_behind-base.ensures) on);
      block = behind_block;
    }

pub returns-in-Ok-None-clause-said : goal.returns-in-Ok-None-clause-said
returns-in-Ok-None-clause-said g c =
    let section = g.K.ListKind.section c.args.sections.now in
    let item = g.K.ListKind.item c.args.sections.now in
    let way = c.args.start.way in
    let p = c.entries.reader in
    let q = c.entry-read.new.reader in
    let place : ListPlace = record { way = way; base = c.entries.base; at = c.at-at.result } in
    let here = place_is p (section way) c.entries.invariant.block ∙ ap (λ (a : ℕ). (let x : Place = record { block = section way; at = a } in x)) (sym c.at-at.ensures.is) in
    let inside : c.at-at.result ≤ length (section way) = omega (arith, c.at-at.ensures.inside, c.at-at.ensures.is, ap length c.entries.invariant.block) in
    let reads = subst (λ (o : Option (ListEntry _)). item way p ≡ Ok (o, q)) c.in-Ok-None.field-0-is c.in-Ok-None.ensures.item in
    said_end section item c.args.address place p q c.nothing.result here inside reads (c.nothing.ensures 0 0)

pub returns-in-Err-clause-said : goal.returns-in-Err-clause-said
returns-in-Err-clause-said g c =
    let section = g.K.ListKind.section c.args.sections.now in
    let item = g.K.ListKind.item c.args.sections.now in
    let way = c.args.start.way in
    let p = c.entries.reader in
    let place : ListPlace = record { way = way; base = c.entries.base; at = c.at-at.result } in
    let here = place_is p (section way) c.entries.invariant.block ∙ ap (λ (a : ℕ). (let x : Place = record { block = section way; at = a } in x)) (sym c.at-at.ensures.is) in
    let inside : c.at-at.result ≤ length (section way) = omega (arith, c.at-at.ensures.inside, c.at-at.ensures.is, ap length c.entries.invariant.block) in
    said_none section item c.args.address place p c.in-Err.field-0.at here inside c.in-Err.ensures.item
