-- Where expressions and bodies stop.
use Rattle.std.proofs.Common.{ℕ, length}
use Rattle.std.specs.Prelude.{◌==◌, get_or}
use Rattle.wasm_bytes.specs.Reading.{◌⊗◌, ◌▷◌, mapped, checked, here_item, u32_item, items_from}
use Rattle.wasm_bytes.specs.calls.Spelling.{passing, u32}
use Rattle.wasm_bytes.specs.calls.Stopping.{unread, items_stops}
use Rattle.wasm_bytes.specs.Laws.{StopsAt}
use Rattle.wasm_bytes.proofs.Exact.{checked_exact}
use Rattle.wasm_bytes.proofs.ExactItems.{u32_exact}
use Rattle.wasm_bytes.proofs.Stops.{unread_stops_at, u32_front, checked_front, mapped_stops_at, leads_stops_at, checked_stops_at}
use Rattle.wasm_bytes.proofs.StopsBlocks.{closed_stops_at, within_stops_at}
use Rattle.wasm_bytes.proofs.StopsLists.{items_stops_at}
use Rattle.wasm_bytes.proofs.UntilDone.{until_done_stops_at}
use Rattle.wasm_format.specs.Reading.{instruction_item}
use Rattle.wasm_format.specs.calls.InstructionGrammar.{instruction}
use Rattle.wasm_format.specs.calls.InstructionBreaking.{instruction_stops}
use Rattle.wasm_format.proofs.Stops.{instruction_stops_at}
use Rattle.wasm_format.specs.declared.expression.Expression.{Expression}
use Rattle.wasm_format.specs.calls.Choices.{first_and}
use Rattle.wasm_bytes.specs.Notes.{together}
use Rattle.wasm_format.specs.Form.{locals_item}
use Rattle.wasm_format.specs.Expressions.{with_first, may_stand, instr_of, no_code, with_instr, instr_step, is_closed, expression_from, constant_body, expression_item, function_body, code_from, code_item}
use Rattle.wasm_format.specs.Sections.{due_vector_item, bodies_item}
use Rattle.wasm_format.specs.calls.Grammar.{instr_entry, locals, code_contents, code}
use Rattle.wasm_format.specs.calls.Breaking.{instr_stops, expression_stops_from, expression_stops, locals_stops, code_contents_stops, code_stops, bodies_stops}
use Rattle.wasm_format.proofs.Tests.{offset_stops, total_stops_at}
use Rattle.wasm_format.proofs.ExactForm.{locals_exact}
use Rattle.wasm_format.proofs.ExactExpressions.{first_instruction_exact, instr_exact, instr_takes, code_contents_exact, code_exact}
use Rattle.wasm_format.proofs.StopsForm.{locals_stops_at}

-- ---- expressions

first_instruction_stops_at : (base : ℕ) → StopsAt instruction_stops (with_first (instruction_item base))
first_instruction_stops_at base = total_stops_at (λ p y. ((get_or p.block p.at 0, y.0), y.1)) instruction_stops (instruction_item base) (instruction_stops_at base)

placed_stops_at : (e : Expression) → StopsAt (instr_stops e) (checked (λ x. may_stand e.blocks (instr_of x)) (with_first (instruction_item (length e.targets))))
placed_stops_at e =
    checked_stops_at (λ x. may_stand e.blocks (instr_of x)) (first_and (instruction (length e.targets))) instruction_stops (with_first (instruction_item (length e.targets)))
    (first_instruction_exact (length e.targets)) (first_instruction_stops_at (length e.targets))

instr_stops_at : (e : Expression) → StopsAt (instr_stops e) (instr_step e)
unfolding instr_step
instr_stops_at e =
    let placed = checked (λ x. may_stand e.blocks (instr_of x)) (with_first (instruction_item (length e.targets))) in
    mapped_stops_at (with_instr e) (instr_stops e) (here_item ⊗ placed ⊗ here_item)
    (total_stops_at (λ p y. ((p.at, y.0), y.1)) (instr_stops e) (placed ⊗ here_item)
    (total_stops_at (λ p y. ((y.0, y.1.at), y.1)) (instr_stops e) placed (placed_stops_at e)))

pub entries_stops_at : (origin : ℕ) → StopsAt (expression_stops_from origin) (expression_from origin)
unfolding expression_from
entries_stops_at origin = until_done_stops_at is_closed instr_entry instr_stops instr_step instr_exact instr_stops_at instr_takes (no_code origin)

pub expression_stops_at : StopsAt expression_stops expression_item
unfolding expression_item
expression_stops_at = mapped_stops_at constant_body expression_stops (here_item ▷ expression_from) (offset_stops expression_stops_from expression_from entries_stops_at)

-- ---- bodies

code_contents_stops_at : (origin : ℕ) → StopsAt code_contents_stops (here_item ▷ code_from origin)
code_contents_stops_at origin =
    offset_stops _ (code_from origin)
    (λ at. leads_stops_at locals locals_stops (λ l. expression_stops_from at) locals_item _ locals_exact locals_stops_at
    (λ l. mapped_stops_at (function_body origin at l) (expression_stops_from at) (expression_from at) (entries_stops_at at)))

code_stops_at : (origin : ℕ) → StopsAt (code_stops origin) (code_item origin)
unfolding code_item
code_stops_at origin = within_stops_at _ (here_item ▷ code_from origin) (closed_stops_at (code_contents origin) code_contents_stops (here_item ▷ code_from origin) (code_contents_exact origin) (code_contents_stops_at origin))

other_count_stops_at : (due : ℕ) → StopsAt (unread (passing (λ n. n == due) u32)) (checked (λ n. n == due) u32_item)
other_count_stops_at due = unread_stops_at (passing (λ n. n == due) u32) (checked (λ n. n == due) u32_item) (checked_exact (λ n. n == due) u32 u32_item u32_exact) (checked_front (λ n. n == due) u32_item u32_front)

pub bodies_stops_at : (due : ℕ) → StopsAt (bodies_stops due) (bodies_item due)
unfolding bodies_item
bodies_stops_at due =
    offset_stops _ (λ origin. due_vector_item due (code_item origin))
    (λ origin. leads_stops_at (passing (λ n. n == due) u32) (unread (passing (λ n. n == due) u32)) (items_stops (code origin) (code_stops origin)) (checked (λ n. n == due) u32_item) (λ n. mapped together (items_from (code_item origin) n))
    (checked_exact (λ n. n == due) u32 u32_item u32_exact) (other_count_stops_at due)
    (λ n. mapped_stops_at together _ (items_from (code_item origin) n) (items_stops_at (code origin) (code_stops origin) (code_item origin) (code_exact origin) (code_stops_at origin) n)))
