use Rattle.std.proofs.Common.{◌≡◌, false, true, [], ◌∷◌, Option, sym, ap, subst, length, length-append, arith}
use Rattle.dwarf_loc.specs.declared.said.Said.{Said as SaidOf}
use Rattle.dwarf_scopes.specs.declared.known.ListPlace.{ListPlace}
use Rattle.dwarf_scopes.specs.calls.Knowing.{IsSaid}
use Rattle.dwarf_scopes.proofs.KnownLaws.{leads_end, last_said}
use Rattle.dwarf_scopes.proofs.known.keep_entries.Goals as goal

pub returns-in_err-keep-clause-right : goal.returns-in_err-keep-clause-right
returns-in_err-keep-clause-right g c =
    c.keep.ensures (g.K.ListKind.section c.args.sections.now) (g.K.ListKind.item c.args.sections.now) c.args.address c.requires.right c.requires.said

pub entries-init : goal.entries-init
entries-init g c = record {
  right = c.keep.ensures (g.K.ListKind.section c.args.sections.now) (g.K.ListKind.item c.args.sections.now) c.args.address c.requires.right c.requires.said;
  led = (c.args.stop.place, c.requires.led, c.requires.said);
}

pub entries-smaller : goal.entries-smaller
entries-smaller g c = omega (arith, ap length c.in-Some.ensures.value, length-append c.pop.new.self (c.in-Some.last ∷ []))

pub entries-preserved : goal.entries-preserved
entries-preserved g c =
    let section = g.K.ListKind.section c.args.sections.now in
    let item = g.K.ListKind.item c.args.sections.now in
    let led = c.entries.invariant.led in
    let b = last_said section item c.args.address c.entries.passed c.pop.new.self c.in-Some.last c.args.start led.0 c.entries.said c.in-Some.ensures.value led.1 led.2 in
    record {
      right = c.keep_entry.ensures.right section item c.entries.invariant.right b.1;
      led = (c.in-Some.last.place, b.0, subst (λ (o : Option (SaidOf _)). IsSaid section item c.args.address c.in-Some.last.place o) (sym c.in_ok-from.ensures.said) b.1);
    }

pub returns-in_err-from-clause-right : goal.returns-in_err-from-clause-right
returns-in_err-from-clause-right g c =
    let section = g.K.ListKind.section c.args.sections.now in
    let item = g.K.ListKind.item c.args.sections.now in
    let led = c.entries.invariant.led in
    let b = last_said section item c.args.address c.entries.passed c.pop.new.self c.in-Some.last c.args.start led.0 c.entries.said c.in-Some.ensures.value led.1 led.2 in
    c.keep_entry.ensures.right section item c.entries.invariant.right b.1

pub returns-clause-said : goal.returns-clause-said
returns-clause-said g c =
    let section = g.K.ListKind.section c.args.sections.now in
    let item = g.K.ListKind.item c.args.sections.now in
    let led = c.entries.invariant.led in
    let same : c.args.start ≡ led.0 = leads_end section item c.entries.passed c.args.start led.0 (λ some. (let no : false ≡ true = c.in_default.ensures.variant.1 some in cc)) led.1 in
    subst (λ (p : ListPlace). IsSaid section item c.args.address p c.entries.said) (sym same) led.2
