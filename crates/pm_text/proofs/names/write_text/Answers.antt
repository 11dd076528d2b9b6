use Rattle.std.proofs.Common.{◌++◌, ◌∙◌, sym, ap}
use Rattle.std.specs.Prelude.{encode_utf8_all}
use Rattle.std.specs.String.{string_bytes}
use Rattle.pm_text.proofs.NameLaws.{text_more}
use Rattle.pm_text.proofs.names.write_text.Goals as goal

pub loop-c-preserved : goal.loop-c-preserved
loop-c-preserved c =
    let seen = encode_utf8_all c.loop-c.yielded in
    text_more c.args.marks (string_bytes c.args.out.now) (string_bytes c.loop-c.out) (string_bytes c.write_char.new.out) c.next.new.self.rest.now c.args.text.now c.loop-c.yielded c.in-Some.c c.loop-c.invariant.0 (ap (λ l. seen ++ l) (sym c.in-Some.ensures.steps.0) ∙ c.loop-c.invariant.1) c.in_ok-write_char.ensures.ok
