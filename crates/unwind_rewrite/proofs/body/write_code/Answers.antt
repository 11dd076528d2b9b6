use Rattle.unwind_rewrite.proofs.body.write_code.Goals as goal

pub returns : goal.returns
returns c = λ tree writes fine.
    c.close_body.ensures tree.nodes c.args.writer.now c.open_body.new.writer c.in_ok-open_body.ensures (c.in_ok-write_nodes.ensures tree writes fine)
