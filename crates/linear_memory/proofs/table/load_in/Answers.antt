use Rattle.std.proofs.Common.{ℕ, ◌%◌, List, Option, ap, sym, ◌∙◌}
use Rattle.linear_memory.specs.Memory.{window, from_bytes}
use Rattle.linear_memory.specs.inner.Table.{page_bytes}
use Rattle.linear_memory.proofs.Contents.{read_step, load_absent}
use Rattle.linear_memory.proofs.table.load_in.Goals as goal

pub returns-in-Some-clause-value : goal.returns-in-Some-clause-value
returns-in-Some-clause-value c =
    c.read_word.ensures.value
    ∙ ap from_bytes (ap (λ (p : Option (List ℕ)). window (page_bytes p) (c.args.at % 65536) c.args.width) (sym c.in-Some.ensures.0)
    ∙ sym (read_step c.args.pages.now c.args.at c.args.width c.index-pages-at.result c.requires.whole c.requires.inside.0 c.requires.inside.1 c.index-pages-at.is))

pub returns-in-None-clause-value : goal.returns-in-None-clause-value
returns-in-None-clause-value c =
    sym (load_absent c.args.pages.now c.args.at c.args.width c.index-pages-at.result c.requires.whole c.requires.inside.0 c.requires.inside.1 c.index-pages-at.is c.in-None.ensures)
