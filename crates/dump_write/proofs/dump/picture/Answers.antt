use Rattle.std.proofs.Common.{ℕ, ◌∙◌, ◌∷◌, [], length, ap, refl, sym, subst, Option}
use Rattle.std.specs.Prelude.{option_map}
use Rattle.linear_memory.specs.Memory.{pages}
use Rattle.linear_memory.specs.calls.Paged.{Paged}
use Rattle.dump_write.specs.Pictured.{CoversIfThere}
use Rattle.dump_write.proofs.Dumps.{contained_with, instance_with, pictured, pictures_bytes}
use Rattle.dump_write.proofs.dump.picture.Goals as goal

pub returns-clause-pictures : goal.returns-clause-pictures
returns-clause-pictures c held shown there is =
    let count = c.len.ensures ∙ sym (ap length c.globals.view_is) in
    let instance = c.in_ok-instances.ensures ∙ ap (λ (n : ℕ). instance_with c.memory_size-size.result n ∷ []) count in
    let size = c.memory_size-size.ensures.size ∙ ap (λ (o : Option Paged). option_map (λ (m : Paged). pages m.memory) o) there in
    let covers = subst (λ (o : Option Paged). CoversIfThere o c.in_ok-segments.field-0) there c.in_ok-segments.ensures in
    pictured _ _ held c.in_ok-from_str.ensures c.in_ok-one_name.ensures instance (c.frames.view_is ∙ is) c.globals.view_is refl size covers

pub returns-clause-bytes : goal.returns-clause-bytes
returns-clause-bytes c held shown there is = pictures_bytes _ _ (returns-clause-pictures c held shown there is)

pub returns-clause-contained : goal.returns-clause-contained
returns-clause-contained c = contained_with _ c.memory_size-size.result c.in_ok-segments.field-0 c.memory_size-size.ensures.size c.in_ok-segments.ensures
