use Rattle.pm_text.proofs.ExtendsLaws.{cut_text}
use Rattle.pm_text.proofs.text.Text.push_hex.Goals as goal

pub settled-requires : goal.settled-requires
settled-requires c = cut_text c.self.inside.string c.write_padded-written.new.out _ c.len-old_len.ensures c.write_padded-written.ensures.extends
