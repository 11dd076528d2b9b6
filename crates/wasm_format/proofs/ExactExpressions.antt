-- Expressions and bodies are read exactly as they are spelled.
use Rattle.std.proofs.Common.{◌≡◌, ℕ, List, length, true, refl, sym, subst, ◌∙◌, eq-eqb}
use Rattle.std.specs.Prelude.{◌==◌}
use Rattle.std.proofs.lemmas.Bool.{eqb-true}
use Rattle.wasm_bytes.specs.Place.{Place, Read}
use Rattle.wasm_bytes.specs.Reading.{◌▷◌, mapped, checked, here_item, u32_item, items_from}
use Rattle.wasm_bytes.specs.calls.Spelling.{pair, leads, image, passing, here, u32, vector}
use Rattle.wasm_bytes.specs.Laws.{IsExact, TakesBytes}
use Rattle.wasm_bytes.proofs.Exact.{then_exact, image_exact, same_exact, checked_exact, leads_exact, here_exact}
use Rattle.wasm_bytes.proofs.ExactItems.{u32_exact}
use Rattle.wasm_bytes.proofs.ExactBlocks.{closed_exact, within_exact}
use Rattle.wasm_bytes.proofs.ExactLists.{counted, items_exact}
use Rattle.wasm_bytes.proofs.UntilDone.{until_done_exact}
use Rattle.wasm_bytes.proofs.Takes.{image_takes, passing_takes, then_takes}
use Rattle.wasm_format.specs.Reading.{instruction_item}
use Rattle.wasm_format.specs.calls.InstructionGrammar.{instruction}
use Rattle.wasm_format.proofs.Exact.{instruction_exact, instruction_takes}
use Rattle.wasm_bytes.specs.declared.noted.Noted.{Noted}
use Rattle.wasm_format.specs.declared.expression.Expression.{Expression}
use Rattle.wasm_format.specs.calls.Choices.{first_and}
use Rattle.wasm_bytes.specs.Notes.{together}
use Rattle.wasm_format.specs.Form.{locals_item}
use Rattle.wasm_format.specs.Expressions.{with_first, may_stand, instr_of, no_code, with_instr, instr_step, is_closed, expression_from, constant_body, expression_item, function_body, code_from, code_item}
use Rattle.wasm_format.specs.Sections.{due_vector_item, bodies_item}
use Rattle.wasm_format.specs.calls.Grammar.{instr_entry, expression_entries, expression, locals, code_contents, code, bodies}
use Rattle.wasm_format.proofs.Tests.{first_exact, first_takes, second_takes}
use Rattle.wasm_format.proofs.ExactForm.{locals_exact}
use Rattle.wasm_bytes.proofs.Offsets.{offset_exact}

-- ---- expressions

pub first_instruction_exact : (base : ℕ) → IsExact (first_and (instruction base)) (with_first (instruction_item base))
first_instruction_exact base = first_exact (instruction base) (instruction_item base) (instruction_exact base) (instruction_takes base)

pub instr_exact : (e : Expression) → IsExact (instr_entry e) (instr_step e)
unfolding instr_step
instr_exact e =
    image_exact (pair here (pair (passing (λ x. may_stand e.blocks (instr_of x)) (first_and (instruction (length e.targets)))) here)) (with_instr e) _
    (then_exact _ _ _ _ here_exact (then_exact _ _ _ _ (checked_exact (λ x. may_stand e.blocks (instr_of x)) _ _ (first_instruction_exact (length e.targets))) here_exact))

pub instr_takes : (e : Expression) → TakesBytes (instr_entry e)
instr_takes e =
    image_takes (with_instr e) _ (second_takes here _ (then_takes _ here (passing_takes (λ x. may_stand e.blocks (instr_of x)) _ (first_takes (instruction (length e.targets)) (instruction_takes (length e.targets))))))

pub entries_exact : (origin : ℕ) → IsExact (expression_entries origin) (expression_from origin)
unfolding expression_from
entries_exact origin = until_done_exact is_closed instr_entry instr_step instr_exact instr_takes (no_code origin)

pub expression_exact : IsExact expression expression_item
unfolding expression_item
expression_exact =
    image_exact (λ x at. expression_entries at x at) constant_body (here_item ▷ expression_from) (offset_exact expression_entries expression_from entries_exact)

-- ---- bodies

pub code_contents_exact : (origin : ℕ) → IsExact (code_contents origin) (here_item ▷ code_from origin)
code_contents_exact origin =
    offset_exact (λ at. leads locals (λ l. image (function_body origin at l) (expression_entries at))) (code_from origin)
    (λ at. leads_exact locals _ locals_item _ locals_exact (λ l. image_exact (expression_entries at) (function_body origin at l) (expression_from at) (entries_exact at)))

pub code_exact : (origin : ℕ) → IsExact (code origin) (code_item origin)
unfolding code_item
code_exact origin = within_exact (code_contents origin) (here_item ▷ code_from origin) (closed_exact (code_contents origin) (here_item ▷ code_from origin) (code_contents_exact origin))

-- lists of that length, as vectors
abbrev due_vector : {A : Type 0} → ℕ → (Noted A → ℕ → List ℕ → Type 0) → Noted (List A) → ℕ → List ℕ → Type 0
due_vector due S = image together (λ list at bytes. (length list ≡ due) × vector S list at bytes)

due_vector_exact : {A : Type 0} (due : ℕ) (S : Noted A → ℕ → List ℕ → Type 0) (f : Place → Read (Noted A)) → IsExact S f → IsExact (due_vector due S) (due_vector_item due f)
due_vector_exact {A} due S f e =
    same_exact (leads (passing (λ n. n == due) u32) (λ n. image together (counted S n))) (due_vector due S) (due_vector_item due f)
    (λ x at front s.
    let list = s.1.3.0 in
    let len : length list ≡ s.0 = s.1.3.2.0 in
    (list, s.1.3.1, (len ∙ eqb-true s.0 due s.1.2.0, (s.1.0, s.1.1, subst (λ (n : ℕ). u32 n at s.1.0) (sym len) s.1.2.1, s.1.3.2.1, s.1.4))))
    (λ x at front s.
    let list = s.0 in
    let is : (length list == due) ≡ true = eq-eqb (length list) due s.2.0 in
    let v = s.2.1 in
    (length list, (v.0, v.1, (is, v.2), (list, s.1, (refl, v.3)), v.4)))
    (leads_exact (passing (λ n. n == due) u32) (λ n. image together (counted S n)) (checked (λ n. n == due) u32_item) (λ n. mapped together (items_from f n))
    (checked_exact (λ n. n == due) u32 u32_item u32_exact) (λ n. image_exact (counted S n) together (items_from f n) (items_exact S f e n)))

pub bodies_exact : (due : ℕ) → IsExact (bodies due) (bodies_item due)
unfolding bodies_item
bodies_exact due = offset_exact (λ at. due_vector due (code at)) (λ at. due_vector_item due (code_item at)) (λ at. due_vector_exact due (code at) (code_item at) (code_exact at))
