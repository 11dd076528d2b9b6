use Rattle.std.proofs.Common.{◌≡◌, ◌≤◌, ◌++◌, ◌∷◌, [], ℕ, length, Option, None, Ok, sym, ap, subst, ◌∙◌, arith}
use Rattle.wasm_bytes.specs.Place.{Place}
use Rattle.dwarf_info.proofs.RowLaws.{place_is}
use Rattle.dwarf_loc.specs.declared.entry.ListEntry.{ListEntry}
use Rattle.dwarf_scopes.specs.declared.steps.Range.{Range}
use Rattle.dwarf_scopes.specs.inner.Bases.{bases_of}
use Rattle.dwarf_scopes.specs.inner.Passing.{IsEntry}
use Rattle.dwarf_scopes.proofs.KnownLaws.{is_entry}
use Rattle.dwarf_scopes.proofs.BaseLaws.{Completes, completes_all, completes_more, completes_end, completes_none}
use Rattle.dwarf_scopes.proofs.bases.read_bases.Goals as goal

pub entries-init : goal.entries-init
entries-init g c =
    let section = g.K.ListKind.section c.args.sections.now in
    let item = g.K.ListKind.item c.args.sections.now in
    let start : c.args.start ≡ c.starting_at-reader.result.at = sym (ap (λ (p : Place). p.at) c.starting_at-reader.ensures) in
    record {
      completes = subst (λ (at : ℕ). Completes section item c.args.address c.args.way c.args.start at None c.args.ranges.now) start
          (completes_all section item c.args.address c.args.way c.args.start c.args.ranges.now c.requires.none);
      block = ap (λ (p : Place). p.block) c.starting_at-reader.ensures ∙ c.section-section.ensures;
    }

pub entries-preserved : goal.entries-preserved
entries-preserved g c =
    let section = g.K.ListKind.section c.args.sections.now in
    let item = g.K.ListKind.item c.args.sections.now in
    let way = c.args.way in
    let p = c.entries.reader in
    let q = c.entry-read.new.reader in
    let entry = c.in-Ok-Some.entry in
    let block = c.entries.invariant.block in
    let behind_block : q.block ≡ section way = c.in-Ok-Some.ensures.moves.1 ∙ block in
    let inside : p.at ≤ length (section way) = omega (arith, c.at-at.ensures.inside, ap length block) in
    let reads = subst (λ (o : Option (ListEntry _)). item way p ≡ Ok (o, q)) c.in-Ok-Some.field-0-is c.in-Ok-Some.ensures.item in
    let is : IsEntry (section way) (item way) p.at entry q.at = is_entry (section way) (item way) p q entry block behind_block inside c.in-Ok-Some.ensures.moves.0 reads in
    let pushed : c.push.new.self ≡ c.entries.ranges ++ bases_of c.args.address c.entries.selected entry ∷ []
    = c.in_ok-push-in-Ok-Some.ensures.ok ∙ ap (λ (r : Range). c.entries.ranges ++ r ∷ []) c.bases_of-range.ensures in
    record {
      completes = subst (λ (o : Option ℕ). Completes section item c.args.address way c.args.start q.at o c.push.new.self) (sym c.selected_behind-behind.ensures)
          (completes_more section item c.args.address way c.args.start p.at q.at c.entries.selected entry c.entries.ranges c.push.new.self is pushed c.entries.invariant.completes);
      block = behind_block;
    }

pub returns-in-Ok-None : goal.returns-in-Ok-None
returns-in-Ok-None g c =
    let section = g.K.ListKind.section c.args.sections.now in
    let item = g.K.ListKind.item c.args.sections.now in
    let way = c.args.way in
    let p = c.entries.reader in
    let q = c.entry-read.new.reader in
    let block = c.entries.invariant.block in
    let inside : p.at ≤ length (section way) = omega (arith, c.at-at.ensures.inside, ap length block) in
    let reads = subst (λ (o : Option (ListEntry _)). item way p ≡ Ok (o, q)) c.in-Ok-None.field-0-is c.in-Ok-None.ensures.item in
    completes_end section item c.args.address way c.args.start p.at c.entries.selected c.entries.ranges p q (place_is p (section way) block) inside reads c.entries.invariant.completes

pub returns-in-Err : goal.returns-in-Err
returns-in-Err g c =
    let section = g.K.ListKind.section c.args.sections.now in
    let item = g.K.ListKind.item c.args.sections.now in
    let way = c.args.way in
    let p = c.entries.reader in
    let block = c.entries.invariant.block in
    let inside : p.at ≤ length (section way) = omega (arith, c.at-at.ensures.inside, ap length block) in
    completes_none section item c.args.address way c.args.start p.at c.in-Err.field-0.at c.entries.selected c.entries.ranges p (place_is p (section way) block) inside c.in-Err.ensures.item
    c.entries.invariant.completes
