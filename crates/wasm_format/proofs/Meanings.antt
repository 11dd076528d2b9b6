-- The instruction at an offset is the one that the bytes there spell, or they stop being one.
use Rattle.std.proofs.Common.{◌≡◌, ℕ, ◌+◌, ◌-◌, ◌≤◌, List, ◌++◌, length, take, drop, Option, Result, Ok, Err, refl, sym, ap, subst, ◌∙◌, arith, length-append, length-take}
use Rattle.std.specs.List.{slice_range}
use Rattle.std.proofs.lemmas.List.{take-append-drop}
use Rattle.std.proofs.Math.Seq.{drop-append_seam}
use Rattle.wasm_syntax.specs.declared.instruction.Instr.{Instr}
use Rattle.wasm_bytes.specs.declared.faults.ItemFault.{ItemFault}
use Rattle.wasm_bytes.specs.declared.faults.ItemFault.TheVariants as faults
use Rattle.wasm_bytes.specs.Place.{Place, Read}
use Rattle.wasm_bytes.specs.Laws.{IsBytes, place, got, failed}
use Rattle.wasm_bytes.proofs.Places.{IsBytes-rest}
use Rattle.wasm_format.specs.declared.code.ReadInstr.{ReadInstr}
use Rattle.wasm_format.specs.Spelled.{Spelled}
use Rattle.wasm_format.specs.calls.InstructionGrammar.{instruction}
use Rattle.wasm_format.specs.Reading.{instruction_item, code_or_none, read_of, instr_from, instr_at, Answers}
use Rattle.wasm_format.specs.calls.InstructionBreaking.{instruction_stops}
use Rattle.wasm_format.specs.calls.Meaning.{IsInstrAt, BreaksAt, Exactly}
use Rattle.wasm_format.proofs.Exact.{instruction_exact}
use Rattle.wasm_format.proofs.Stops.{instruction_stops_at}
use Rattle.wasm_bytes.proofs.SectionLaws.{range_of, each_offset}

abbrev ok : ReadInstr → Result ReadInstr ℕ
ok x = Ok x

abbrev err : ℕ → Result ReadInstr ℕ
err o = Err o

-- ---- blocks in two parts

-- ---- the instruction

from_ok : (r : Read Spelled) (x : ReadInstr) → instr_from r ≡ ok x → (s : Spelled) × (q : Place) × (r ≡ got s q) × (read_of (s, q) ≡ x)
from_ok (Ok y) x e = (y.0, y.1, refl, (let same : read_of y ≡ x = cc in same))
from_ok (Err o) x e = absurd cc

here : (before front rest : List ℕ) (s : Spelled) → instruction 0 s (length before) front → IsInstrAt (before ++ (front ++ rest)) (length before) (read_of (s, place (before ++ front) rest))
here before front rest s is =
    let next = length-append before front in
    let bytes = range_of before front rest (length (before ++ front)) next in
    (s, omega (arith, next), omega (arith, next, length-append before (front ++ rest), length-append front rest), subst (λ (t : List ℕ). instruction 0 s (length before) t) (sym bytes) is, refl, refl)

found : (before after : List ℕ) (x : ReadInstr) → IsBytes after → instr_at (before ++ after) (length before) ≡ ok x → IsInstrAt (before ++ after) (length before) x
unfolding instr_at
found before after x fits e =
    let a = from_ok (instruction_item 0 (place before after)) x e in
    let t = (instruction_exact 0).sound before after a.0 a.1 fits a.2 in
    let at_front = here before t.front t.rest a.0 t.is in
    let whole = subst (λ (b : List ℕ). IsInstrAt (before ++ b) (length before) (read_of (a.0, place (before ++ t.front) t.rest))) (sym t.parts) at_front in
    let moved = subst (λ (q : Place). IsInstrAt (before ++ after) (length before) (read_of (a.0, q))) (sym t.behind) whole in
    subst (λ (y : ReadInstr). IsInstrAt (before ++ after) (length before) y) a.3 moved

read_is : (c d : Option Instr) (t u : List ℕ) (m n : ℕ) → c ≡ d → t ≡ u → m ≡ n → (let x : ReadInstr = record { code = c; targets = t; next = m } in let y : ReadInstr = record { code = d; targets = u; next = n } in x ≡ y)
read_is c d t u m n e f g = cc

again : (before after : List ℕ) (x : ReadInstr) → IsInstrAt (before ++ after) (length before) x → instr_at (before ++ after) (length before) ≡ ok x
unfolding instr_at
again before after x is =
    let s = is.0 in
    let n = x.next - length before in
    let front = take n after in
    let rest = drop n after in
    let bytes : slice_range (before ++ after) (length before) x.next ≡ front = rw (drop-append_seam before after) refl in
    let spells = subst (λ (t : List ℕ). instruction 0 s (length before) t) bytes is.3 in
    let size : length front ≡ n = omega (arith, length-take n after, length-append before after, is.1, is.2) in
    let next : length (before ++ front) ≡ x.next = omega (arith, length-append before front, size, is.1) in
    let reads = (instruction_exact 0).again before front rest s spells in
    let whole = subst (λ (b : List ℕ). instruction_item 0 (place before b) ≡ got s (place (before ++ front) rest)) (take-append-drop n after) reads in
    rw whole (ap ok (read_is (code_or_none s.code) x.code s.targets x.targets (length (before ++ front)) x.next is.4 is.5 next))

-- ---- where it breaks

from_err : (r : Read Spelled) (o : ℕ) → instr_from r ≡ err o → r ≡ failed o
from_err (Ok y) o e = absurd cc
from_err (Err u) o e = let same : u ≡ o = cc in ap failed same

breaks : (before after : List ℕ) (o : ℕ) → IsBytes after → instr_at (before ++ after) (length before) ≡ err o → BreaksAt (before ++ after) (length before) o
unfolding instr_at
breaks before after o fits e =
    let stops = (instruction_stops_at 0).only before after o fits (from_err (instruction_item 0 (place before after)) o e) in
    subst (λ (t : List ℕ). instruction_stops (length before) t o) (sym (drop-append_seam before after)) stops

broken : (before after : List ℕ) (o : ℕ) → IsBytes after → BreaksAt (before ++ after) (length before) o → instr_at (before ++ after) (length before) ≡ err o
unfolding instr_at
broken before after o fits is =
    let stops = subst (λ (t : List ℕ). instruction_stops (length before) t o) (drop-append_seam before after) is in
    rw ((instruction_stops_at 0).again before after o fits stops) refl

-- ---- what each answer says

exactly_ok : (result : Result ReadInstr ItemFault) (answer : Result ReadInstr ℕ) (x : ReadInstr) (P : Type 0) → Answers result answer → (answer ≡ ok x → P) → (P → answer ≡ ok x) → Exactly result (Ok x) P
exactly_ok (Ok y) answer x P given one other = record {
  only = λ e. let same : y ≡ x = cc in one (given ∙ ap ok same);
  always = λ p. let both : ok y ≡ ok x = sym given ∙ other p in cc;
}
exactly_ok (Err (faults.At o)) answer x P given one other = record {
  only = λ e. absurd cc;
  always = λ p. let both : err o ≡ ok x = sym given ∙ other p in absurd cc;
}
exactly_ok (Err faults.NoMemory) answer x P given one other = record { only = λ e. absurd cc; always = λ p. tt }

exactly_err : (result : Result ReadInstr ItemFault) (answer : Result ReadInstr ℕ) (o : ℕ) (P : Type 0) → Answers result answer → (answer ≡ err o → P) → (P → answer ≡ err o) → Exactly result (Err (faults.At o)) P
exactly_err (Ok y) answer o P given one other = record {
  only = λ e. absurd cc;
  always = λ p. let both : ok y ≡ err o = sym given ∙ other p in absurd cc;
}
exactly_err (Err (faults.At u)) answer o P given one other = record {
  only = λ e. let same : u ≡ o = cc in one (given ∙ ap err same);
  always = λ p. let both : err u ≡ err o = sym given ∙ other p in cc;
}
exactly_err (Err faults.NoMemory) answer o P given one other = record { only = λ e. absurd cc; always = λ p. tt }

pub found_exactly : (block : List ℕ) (at : ℕ) → at ≤ length block → IsBytes block → (result : Result ReadInstr ItemFault) → Answers result (instr_at block at) → (x : ReadInstr) → Exactly result (Ok x) (IsInstrAt block at x)
found_exactly = each_offset (λ block at. IsBytes block → (result : Result ReadInstr ItemFault) → Answers result (instr_at block at) → (x : ReadInstr) → Exactly result (Ok x) (IsInstrAt block at x))
    (λ before after fits result given x. exactly_ok result (instr_at (before ++ after) (length before)) x (IsInstrAt (before ++ after) (length before) x) given (found before after x (IsBytes-rest before after fits)) (again before after x))

pub broken_exactly : (block : List ℕ) (at : ℕ) → at ≤ length block → IsBytes block → (result : Result ReadInstr ItemFault) → Answers result (instr_at block at) → (o : ℕ) → Exactly result (Err (faults.At o)) (BreaksAt block at o)
broken_exactly = each_offset (λ block at. IsBytes block → (result : Result ReadInstr ItemFault) → Answers result (instr_at block at) → (o : ℕ) → Exactly result (Err (faults.At o)) (BreaksAt block at o))
    (λ before after fits result given o. exactly_err result (instr_at (before ++ after) (length before)) o (BreaksAt (before ++ after) (length before) o) given (breaks before after o (IsBytes-rest before after fits)) (broken before after o (IsBytes-rest before after fits)))
