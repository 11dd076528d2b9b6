-- Reading vectors into states, one element after another.
use Rattle.std.specs.Prelude.{ℕ, List, [], ◌==◌}
use Rattle.wasm_bytes.specs.Place.{Place, Read}
use Rattle.wasm_bytes.specs.Reading.{◌▷◌, mapped, checked, u32_item, here_item, steps_from, steps_until_done}
use Rattle.wasm_syntax.specs.declared.parts.Body.{Body}
use Rattle.wasm_bytes.specs.declared.noted.Noted.{Noted}
use Rattle.wasm_format.specs.declared.expression.Expression.{Expression}
use Rattle.wasm_decode.specs.declared.bodies.CodeEntries.{CodeEntries}
use Rattle.wasm_bytes.specs.Notes.{plain, with_noted}
use Rattle.wasm_format.specs.Expressions.{instr_step, is_closed, code_item}

-- instructions up to the `end` of an expression
unfoldable pub instr_steps : Expression → Place → Read Expression
instr_steps = steps_until_done is_closed instr_step

abbrev pub with_body : CodeEntries → Noted Body → CodeEntries
with_body s body = record { origin = s.origin; bodies = with_noted s.bodies body }

-- one more body
unfoldable pub code_step : CodeEntries → Place → Read CodeEntries
code_step s = mapped (with_body s) (code_item s.origin)

abbrev pub no_bodies : ℕ → CodeEntries
no_bodies origin = record { origin = origin; bodies = plain [] }

abbrev pub entries_steps : ℕ → ℕ → Place → Read (Noted (List Body))
entries_steps origin count = mapped (λ (s : CodeEntries). s.bodies) (steps_from code_step count (no_bodies origin))

unfoldable pub bodies_steps : ℕ → Place → Read (Noted (List Body))
bodies_steps due = here_item ▷ λ origin. checked (λ n. n == due) u32_item ▷ entries_steps origin
