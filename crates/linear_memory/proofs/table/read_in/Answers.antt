use Rattle.std.proofs.Common.{ℕ, ◌%◌, List, Option, length, ap, sym, ◌∙◌}
use Rattle.linear_memory.specs.Memory.{window}
use Rattle.linear_memory.specs.inner.Table.{page_bytes}
use Rattle.linear_memory.proofs.Windows.{window_mid}
use Rattle.linear_memory.proofs.Contents.{read_step, window-zeros}
use Rattle.linear_memory.proofs.table.read_in.Goals as goal

pub returns-in-Some : goal.returns-in-Some
returns-in-Some c =
    c.copy_from_slice.ensures.after ∙ window_mid c.in-Some.bytes.now (c.args.at % 65536) (length c.args.into.now)
    ∙ ap (λ (p : Option (List ℕ)). window (page_bytes p) (c.args.at % 65536) (length c.args.into.now)) (sym c.in-Some.ensures.0)
    ∙ sym (read_step c.args.pages.now c.args.at (length c.args.into.now) c.index-pages-at.result c.requires.whole c.requires.inside.0 c.requires.inside.1 c.index-pages-at.is)

pub returns-in-None : goal.returns-in-None
returns-in-None c =
    c.fill.ensures.after (λ y e. e) ∙ sym (window-zeros (c.args.at % 65536) (length c.args.into.now) c.requires.inside.1)
    ∙ ap (λ (p : Option (List ℕ)). window (page_bytes p) (c.args.at % 65536) (length c.args.into.now)) (sym c.in-None.ensures)
    ∙ sym (read_step c.args.pages.now c.args.at (length c.args.into.now) c.index-pages-at.result c.requires.whole c.requires.inside.0 c.requires.inside.1 c.index-pages-at.is)
