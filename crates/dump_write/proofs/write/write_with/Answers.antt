use Rattle.std.proofs.Common.{◌≡◌, List, ℕ, ◌++◌, sym, ap, subst, ◌∙◌}
use Rattle.dump_format.specs.Region.{Region}
use Rattle.dump_write.specs.inner.Pieces.{data_head, pages_bytes}
use Rattle.dump_write.specs.Canonical.{sections_before_data, canonical_bytes}
use Rattle.pm_outside.specs.Written.{OnTold, Leaves}
use Rattle.dump_write.proofs.Pieces.{written_few, written_small, in_pieces}
use Rattle.dump_write.proofs.write.write_with.Goals as goal

pub head-requires-clause-count : goal.head-requires-clause-count
head-requires-clause-count g c = written_few c.args.dump.now c.as_slice.result.now (c.as_slice.ensures ∙ c.in-Ok.ensures ∙ c.requires.used) c.requires.pages

pub head-requires-clause-pages : goal.head-requires-clause-pages
head-requires-clause-pages g c = written_small c.args.dump.now c.as_slice.result.now (c.as_slice.ensures ∙ c.in-Ok.ensures ∙ c.requires.used)

pub returns-clause-content : goal.returns-clause-content
returns-clause-content g c =
    let d = c.args.dump.now in
    let used = c.as_slice.result.now in
    let whole : c.deref.result.now ++ pages_bytes c.as_slice-2.result.now ≡ canonical_bytes c.args.dump.now =
    ap (λ (bs : List ℕ). bs ++ pages_bytes c.as_slice-2.result.now) (c.deref.ensures.value ∙ c.in-Ok-head.ensures.bytes)
    ∙ ap (λ (rs : List Region). (sections_before_data d ++ data_head used) ++ pages_bytes rs) (c.as_slice-2.ensures ∙ sym c.as_slice.ensures)
    ∙ sym (in_pieces d used (c.as_slice.ensures ∙ c.in-Ok.ensures ∙ c.requires.used))
    in
    subst (λ (bs : List ℕ). OnTold (Leaves c.args.name.now bs c.write_pieces.result) (g.F.Files.told c.args.files.now) (g.F.Files.told c.write_pieces.new.files)) whole c.write_pieces.ensures.content
