-- The premises can be met: the bytes of the example are decoded as it, and it is accepted.
use Rattle.std.proofs.Common.{◌≡◌, ℕ, zero, suc, ◌<◌, List, [], ◌∷◌, Ok, refl, lit<}
use Rattle.std.specs.List.{AllByRecursion}
use Rattle.std.specs.Str.{is_utf8, chars}
use Rattle.wasm_leb.specs.Reading.{unsigned_at, u32_at}
use Rattle.wasm_bytes.specs.Laws.{IsBytes}
use Rattle.wasm_bytes.specs.Reading.{byte_item, one_of_item, fixed_item, bytes_item, u32_item, run_item, sized_run_item, name_item, block_item, end_item, choose, items_from, vector_item, steps_from, steps_until_end, steps_to_end, steps_while_due, steps_until_done}
use Rattle.wasm_format.specs.Table.{numeric, form_of}
use Rattle.wasm_format.specs.Reading.{instruction_item, code_item, instr_at}
use Rattle.wasm_bytes.specs.Notes.{noted_vector_item}
use Rattle.wasm_format.specs.Form.{valtype_item, functype_item, export_kind_item, export_item, group_step, locals_item}
use Rattle.wasm_format.specs.Expressions.{instr_step, expression_from, expression_item}
use Rattle.wasm_format.specs.Expressions.{code_item as body_item}
use Rattle.wasm_format.specs.Sections.{bodies_item, contents_item, section_step, no_parts, no_sections, sections_item, module_item}
use Rattle.wasm_decode.specs.Decode.{module_of, too_much, refusal, module_from}
use Rattle.rewrite_modules.specs.calls.Example.{divider}
use Rattle.rewrite_modules.proofs.Divider.{instrumentable}
use Rattle.rewrite_promise.specs.calls.Promise.{AcceptedBytes}
use Rattle.rewrite_promise.specs.calls.Example.{divider_bytes}

is_decoded : module_from divider_bytes ≡ Ok divider.module_
unfolding unsigned_at u32_at byte_item one_of_item fixed_item bytes_item u32_item run_item sized_run_item name_item block_item end_item choose items_from vector_item steps_from steps_until_end steps_to_end steps_while_due steps_until_done numeric form_of instruction_item code_item instr_at noted_vector_item valtype_item functype_item export_kind_item export_item group_step locals_item instr_step expression_from expression_item body_item bodies_item contents_item section_step no_parts no_sections sections_item module_item module_of too_much refusal module_from is_utf8 chars lib.Utf8.encode
is_decoded = refl

pub below : (bs : List ℕ) → AllByRecursion (λ b. b < 256) bs → IsBytes bs
below [] h i = lit< tt
below (b ∷ bs) h zero = h.0
below (b ∷ bs) h (suc i) = below bs h.1 i

are_low : AllByRecursion (λ b. b < 256) divider_bytes
are_low = (lit< tt, (lit< tt, (lit< tt, (lit< tt, (lit< tt, (lit< tt, (lit< tt, (lit< tt, (lit< tt, (lit< tt, (lit< tt, (lit< tt, (lit< tt, (lit< tt, (lit< tt, (lit< tt, (lit< tt, (lit< tt, (lit< tt, (lit< tt, (lit< tt, (lit< tt, (lit< tt, (lit< tt, (lit< tt, (lit< tt, (lit< tt, (lit< tt, (lit< tt, (lit< tt, (lit< tt, (lit< tt, (lit< tt, (lit< tt, (lit< tt, (lit< tt, (lit< tt, (lit< tt, (lit< tt, (lit< tt, (lit< tt, tt)))))))))))))))))))))))))))))))))))))))))

pub accepted : AcceptedBytes divider_bytes divider.module_
accepted = record {
  are_bytes = below divider_bytes are_low;
  decoded = is_decoded;
  valid = instrumentable.valid;
  no_collision = instrumentable.no_collision;
  no_export_collision = instrumentable.no_export_collision;
  light = instrumentable.lightness;
}
