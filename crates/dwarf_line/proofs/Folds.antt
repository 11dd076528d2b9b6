-- Doing each opcode as it is read is doing all that are read.
use Rattle.std.proofs.Common.{◌≡◌, ℕ, zero, suc, Bool, true, false, cond, ltb, List, [], ◌-◌, length, Ok, Err, refl, sym, ap, ◌∙◌}
use Rattle.std.specs.Prelude.{fold}
use Rattle.wasm_bytes.specs.Place.{Place, Read}
use Rattle.wasm_bytes.specs.Reading.{◌>>=◌, mapped, until_end, to_end_item, steps_until_end, steps_to_end}
use Rattle.wasm_bytes.specs.Laws.{got, failed}
use Rattle.wasm_bytes.specs.calls.Answers.{Fails}
use Rattle.wasm_bytes.specs.declared.faults.ItemFault.{ItemFault}
use Rattle.wasm_bytes.specs.declared.faults.ItemFault.TheVariants as faults
use Rattle.wasm_bytes.proofs.Loops.{first}
use Rattle.dwarf_bytes.specs.Format.{read}
use Rattle.dwarf_line.specs.declared.opcodes.Opcode.{Opcode}
use Rattle.dwarf_line.specs.declared.matrix.Matrix.{Matrix}
use Rattle.dwarf_line.specs.declared.matrix.Running.{Running}
use Rattle.dwarf_line.specs.declared.lines.Lines.{Lines}
use Rattle.dwarf_line.specs.declared.header.Header.{Header}
use Rattle.dwarf_line.specs.Parameters.{Parameters}
use Rattle.dwarf_line.specs.Opcodes.{opcode}
use Rattle.dwarf_line.specs.Rows.{step, first_matrix}
use Rattle.dwarf_line.specs.Program.{lines_of, said, opcodes_item}
use Rattle.dwarf_line.specs.inner.Running.{running, running_step, lines_by}

abbrev folded : {S A : Type 0} → (S → A → S) → S → List A × Place → Read S
folded g s xs = got (fold g s xs.0) xs.1

bind_bind : {A B C : Type 0} (r : Read A) (f : A × Place → Read B) (g : B × Place → Read C) → ((r >>= f) >>= g) ≡ (r >>= λ x. f x >>= g)
bind_bind (Ok x) f g = refl
bind_bind (Err o) f g = refl

bind_same : {A B : Type 0} (r : Read A) (f g : A × Place → Read B) → ((x : A × Place) → f x ≡ g x) → (r >>= f) ≡ (r >>= g)
bind_same (Ok x) f g h = h x
bind_same (Err o) f g h = refl

-- at the end of the block
none_by : {S A : Type 0} (g : S → A → S) (s : S) (b : Bool) (p : Place) → (cond b (failed p.at) (got [] p) >>= folded g s) ≡ cond b (failed p.at) (got s p)
none_by g s true p = refl
none_by g s false p = refl

-- before it
more_by : {S A : Type 0} (g : S → A → S) (s : S) (b : Bool) (p : Place) (r : Read (List A)) (t : Read S) → (r >>= folded g s) ≡ t → (cond b r (got [] p) >>= folded g s) ≡ cond b t (got s p)
more_by g s true p r t e = e
more_by g s false p r t e = refl

steps_fold : {S A : Type 0} (g : S → A → S) (f : Place → Read A) (n : ℕ) (s : S) (p : Place) → (until_end f n p >>= folded g s) ≡ steps_until_end (λ t. mapped (g t) f) n s p
unfolding until_end steps_until_end
steps_fold g f zero s p = none_by g s (ltb p.at (length p.block)) p
steps_fold {S} {A} g f (suc n) s p =
    let each : (x : A × Place) → ((until_end f n x.1 >>= first x.0) >>= folded g s) ≡ steps_until_end (λ t. mapped (g t) f) n (g s x.0) x.1 =
    λ x. bind_bind (until_end f n x.1) (first x.0) (folded g s) ∙ steps_fold g f n (g s x.0) x.1 in
    let left = bind_bind (f p) (λ x. until_end f n x.1 >>= first x.0) (folded g s) in
    let right = bind_bind (f p) (λ x. got (g s x.0) x.1) (λ x. steps_until_end (λ t. mapped (g t) f) n x.0 x.1) in
    more_by g s (ltb p.at (length p.block)) p (f p >>= λ x. until_end f n x.1 >>= first x.0) (mapped (g s) f p >>= λ x. steps_until_end (λ t. mapped (g t) f) n x.0 x.1)
    (left ∙ bind_same (f p) _ _ each ∙ sym right)

-- ---- steps that carry the parameters along

abbrev carried : Parameters → Matrix × Place → Read Running
carried h m = got (running h m.0) m.1

carry_by : (h : Parameters) (b : Bool) (p : Place) (m : Matrix) (r : Read Matrix) (t : Read Running) → (r >>= carried h) ≡ t → (cond b r (got m p) >>= carried h) ≡ cond b t (got (running h m) p)
carry_by h true p m r t e = e
carry_by h false p m r t e = refl

none_carried : (h : Parameters) (b : Bool) (p : Place) (m : Matrix) → (cond b (failed p.at) (got m p) >>= carried h) ≡ cond b (failed p.at) (got (running h m) p)
none_carried h true p m = refl
none_carried h false p m = refl

abbrev matrix_step : Parameters → Matrix → Place → Read Matrix
matrix_step h m = mapped (step h m) (read (opcode h))

steps_carry : (h : Parameters) (n : ℕ) (m : Matrix) (p : Place) → (steps_until_end (matrix_step h) n m p >>= carried h) ≡ steps_until_end running_step n (running h m) p
unfolding steps_until_end
steps_carry h zero m p = none_carried h (ltb p.at (length p.block)) p m
steps_carry h (suc n) m p =
    let each : (x : Opcode × Place) → (steps_until_end (matrix_step h) n (step h m x.0) x.1 >>= carried h) ≡ steps_until_end running_step n (running h (step h m x.0)) x.1 = λ x. steps_carry h n (step h m x.0) x.1 in
    let f : Place → Read Opcode = read (opcode h) in
    let left = ap (λ (r : Read Matrix). r >>= carried h) (bind_bind (f p) (λ x. got (step h m x.0) x.1) (λ x. steps_until_end (matrix_step h) n x.0 x.1)) ∙ bind_bind (f p) (λ x. steps_until_end (matrix_step h) n (step h m x.0) x.1) (carried h) in
    let right = bind_bind (f p) (λ x. got (running h (step h m x.0)) x.1) (λ x. steps_until_end running_step n x.0 x.1) in
    carry_by h (ltb p.at (length p.block)) p m (matrix_step h m p >>= λ x. steps_until_end (matrix_step h) n x.0 x.1) (running_step (running h m) p >>= λ x. steps_until_end running_step n x.0 x.1)
    (left ∙ bind_same (f p) _ _ each ∙ sym right)

-- ---- what a program says

abbrev pub said_by : Header → Running × Place → Read Lines
said_by h r = got (lines_of h r.0.matrix) r.1

pub opcodes_are : (h : Header) (p : Place) → opcodes_item h p ≡ (steps_to_end running_step (running h.parameters (first_matrix h.tables.files)) p >>= said_by h)
unfolding opcodes_item to_end_item steps_to_end
opcodes_are h p =
    let m = first_matrix h.tables.files in
    let f : Place → Read Opcode = read (opcode h.parameters) in
    let ops = until_end f (length p.block - p.at) p in
    let made : Read Matrix = ops >>= folded (step h.parameters) m in
    let steps : made ≡ steps_until_end (matrix_step h.parameters) (length p.block - p.at) m p = steps_fold (step h.parameters) f (length p.block - p.at) m p in
    let run : (made >>= carried h.parameters) ≡ steps_until_end running_step (length p.block - p.at) (running h.parameters m) p = ap (λ (r : Read Matrix). r >>= carried h.parameters) steps ∙ steps_carry h.parameters (length p.block - p.at) m p in
    let whole : (ops >>= λ x. got (said h x.0) x.1) ≡ ((made >>= carried h.parameters) >>= said_by h) =
    sym (ap (λ (r : Read Running). r >>= said_by h) (bind_bind ops (folded (step h.parameters) m) (carried h.parameters)) ∙ bind_bind ops (λ x. carried h.parameters (fold (step h.parameters) m x.0, x.1)) (said_by h)) in
    whole ∙ ap (λ (r : Read Running). r >>= said_by h) run

-- the same, as the code reads it
run_ok : (h : Header) (p q : Place) (m : Matrix) (r : Running) → m ≡ first_matrix h.tables.files → steps_to_end running_step (running h.parameters m) p ≡ got r q → opcodes_item h p ≡ got (lines_of h r.matrix) q
run_ok h p q m r new steps = opcodes_are h p ∙ ap (λ (x : Read Running). x >>= said_by h) (ap (λ (n : Matrix). steps_to_end running_step (running h.parameters n) p) (sym new) ∙ steps)

pub made_ok : (h : Header) (p q : Place) (m : Matrix) (r : Running) (lines : Lines) → m ≡ first_matrix h.tables.files → steps_to_end running_step (running h.parameters m) p ≡ got r q
    → lines ≡ lines_by h.first h.tables.directories r.matrix → opcodes_item h p ≡ got lines q
made_ok h p q m r lines new steps same = run_ok h p q m r new steps ∙ ap (λ (l : Lines). got l q) (sym same)

pub run_fails : (h : Header) (p : Place) (m : Matrix) (e : ItemFault) → m ≡ first_matrix h.tables.files → Fails e (steps_to_end running_step (running h.parameters m) p) → Fails e (opcodes_item h p)
run_fails h p m faults.NoMemory new steps = tt
run_fails h p m (faults.At o) new steps = opcodes_are h p ∙ ap (λ (x : Read Running). x >>= said_by h) (ap (λ (n : Matrix). steps_to_end running_step (running h.parameters n) p) (sym new) ∙ steps)
