use Rattle.std.proofs.Common.{◌≡◌, ℕ, List, ◌++◌, OnOk, sym, ap, subst, ◌∙◌}
use Rattle.std.specs.Prelude.{codes}
use Rattle.wasm_leb.specs.Writing.{unsigned_bytes}
use Rattle.dump_write.specs.Spelled.{name_bytes, module_bytes, section_bytes}
use Rattle.dump_write.proofs.Vectors.{modules_are}
use Rattle.dump_write.proofs.sections.push_modules.Goals as goal

pub returns : goal.returns
returns c =
    let contents : c.deref.result.now ≡ (name_bytes (codes "coremodules") ++ unsigned_bytes 1) ++ module_bytes c.args.name.now =
    c.deref.ensures.value ∙ c.in_ok-encode_module.ensures
    ∙ ap (λ (bs : List ℕ). bs ++ module_bytes c.args.name.now) (c.in_ok-write_u64.ensures.exact ∙ ap (λ (bs : List ℕ). bs ++ unsigned_bytes 1) c.in_ok-contents.ensures)
    in
    subst (λ (bs : List ℕ). OnOk c.push_section.result (c.push_section.new.out.items ≡ c.args.out.now.items ++ bs)) (ap (section_bytes 0) contents ∙ sym (modules_are c.args.name.now)) c.push_section.ensures
