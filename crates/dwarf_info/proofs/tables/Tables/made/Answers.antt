use Rattle.std.proofs.Common.{ℕ, List, [], ◌∷◌, Option, refl, sym, ap, ◌∙◌, length, length-append, arith}
use Rattle.std.specs.Prelude.{option_map}
use Rattle.dwarf_abbrev.specs.calls.Shared.{list_of}
use Rattle.dwarf_info.specs.declared.form.Shape.{Shape}
use Rattle.dwarf_info.specs.declared.tables.Tables.{Tables}
use Rattle.dwarf_info.specs.calls.Keeping.{numbered}
use Rattle.dwarf_info.proofs.KeepLaws.{keeps_same, keeps_more, number_made}
use Rattle.dwarf_info.proofs.tables.Tables.made.Goals as goal

pub returns-in_err-table-clause-kept : goal.returns-in_err-table-clause-kept
returns-in_err-table-clause-kept c =
    let after : Tables = record { lists = c.push.new.self; read = c.args.self.now.read } in
    keeps_same c.args.self.now after c.in_err-table.ensures.err refl

pub returns-clause-kept : goal.returns-clause-kept
returns-clause-kept c =
    let after : Tables = record { lists = c.push.new.self; read = c.args.self.now.read } in
    keeps_more c.args.self.now after (c.args.shape ∷ list_of c.args.self.now.lists c.in-Some.behind) c.in_ok-table.ensures.made refl

pub returns-clause-there : goal.returns-clause-there
returns-clause-there c =
    let more = length-append c.args.self.now.lists ((c.args.shape ∷ list_of c.args.self.now.lists c.in-Some.behind) ∷ []) in
    omega (arith, c.in_ok-table.ensures.number, ap length c.in_ok-table.ensures.made, more)

pub returns-clause-table : goal.returns-clause-table
returns-clause-table c =
    let after : Tables = record { lists = c.push.new.self; read = c.args.self.now.read } in
    let made = c.args.shape ∷ list_of c.args.self.now.lists c.in-Some.behind in
    number_made c.args.self.now after made c.in_ok-table.ensures.made c.in_ok-table.table c.args.shape c.in-Some.behind c.in_ok-table.ensures.number refl
    ∙ ap (λ (o : Option ℕ). option_map (λ (rows : List Shape). c.args.shape ∷ rows) (numbered c.args.self.now o)) (sym c.in-Some.is)
