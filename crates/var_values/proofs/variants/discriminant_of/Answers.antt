use Rattle.var_values.proofs.variants.discriminant_of.Goals as goal

pub discriminant_at-requires : goal.discriminant_at-requires
discriminant_at-requires c = record { near = c.member_place-place.ensures.near 0 c.requires.near }
