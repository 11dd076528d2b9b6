-- `debug` has at most one answer.
use Rattle.std.proofs.Common.{◌≡◌, ℕ, zero, suc, ◌+◌, ◌<◌, List, [], ◌∷◌, ◌++◌, slice_get, Option, Some, None, Result, Ok, Err, refl, sym, ap, ap₂, subst, ◌∙◌, arith, inl, inr}
use Rattle.pm_outside.specs.Contents.{Contents}
use Rattle.wasm_syntax.specs.declared.quantity.Quantity.TheVariants.{ModuleBytes, DumpBytes}
use Rattle.wasm_syntax.specs.declared.parts.FuncType.{FuncType}
use Rattle.wasm_syntax.specs.declared.parts.Body.{Body}
use Rattle.wasm_syntax.specs.declared.module.ModuleParts.{ModuleParts as Module}
use Rattle.wasm_syntax.specs.Static.{Spot, LiveAt}
use Rattle.wasm_decode.specs.Decode.{module_from}
use Rattle.dump_format.specs.declared.dump.Dump.{Dump}
use Rattle.dump_format.specs.declared.dump.Frame.{Frame}
use Rattle.dump_format.specs.declared.fault.DumpFault.{DumpFault}
use Rattle.dump_format.specs.Decode.{dump_from}
use Rattle.dump_match.specs.declared.mismatch.Mismatch.{Mismatch}
use Rattle.dump_match.specs.declared.mismatch.Mismatch.TheVariants as rows
use Rattle.dump_match.specs.Frames.{IsOf, OffsetFits, OperandCount}
use Rattle.dump_match.specs.States.{StateOperandCount}
use Rattle.dump_match.specs.Matching.{FirstMismatch, Before, group, place}
use Rattle.commands.specs.Inputs.{input_of}
use Rattle.commands.specs.Texts.{ended}
use Rattle.commands.specs.declared.outcome.Outcome.{Outcome}
use Rattle.commands.proofs.OneOutcome.{Agree, agree_then, agree_if_loaded}
use Rattle.debugger.specs.declared.command.Command.{Command}
use Rattle.debugger.specs.Commands.{read_command}
use Rattle.debugger.specs.Subject.{Subject, subject_of}
use Rattle.debugger.specs.Session.{Shows, printed, Prints, PrintsAll, chosen_behind}
use Rattle.debug_command.specs.declared.words.DebugWords.{DebugWords}
use Rattle.debug_command.specs.Answer.{mismatched, IsTold, DumpAnswer, IfDump, DebugAnswer}
use Rattle.pm_text.proofs.Lists.{some_is}

-- ---- how many operands a frame shows

pub one_count : (m : Module) (i : ℕ) (f : Frame) (a b : ℕ) → OperandCount m i f a → OperandCount m i f b → a ≡ b
one_count m i f a b x y =
    let x_of : IsOf m f x.0 x.1 = x.2 in
    let y_of : IsOf m f y.0 y.1 = y.2 in
    let type : x.0 ≡ y.0 = some_is (sym x_of.type_is ∙ y_of.type_is) in
    let body : x.1 ≡ y.1 = some_is (sym x_of.body_is ∙ y_of.body_is) in
    let s : Spot = x.3.0.0 in
    let live : LiveAt m y.0 y.1 f.offset s = subst (λ (b : Body). LiveAt m y.0 b f.offset s) body (subst (λ (t : FuncType). LiveAt m t x.1 f.offset s) type x.3.0.1) in
    x.3.1 s x.3.0.1 ∙ sym (y.3.1 s live)

-- before a counted frame a live instruction begins
fits_there : (m : Module) (i : ℕ) (f : Frame) (n : ℕ) → OperandCount m i f n → OffsetFits m f
fits_there m i f n x = (x.0, x.1, x.2, (x.3.0.0, x.3.0.1, tt))

one_shown : (m : Module) (i : ℕ) (f : Frame) (a b : ℕ) → StateOperandCount m i f a → StateOperandCount m i f b → a ≡ b
one_shown m i f a b (inl x) (inl y) = one_count m i f a b x y
one_shown m i f a b (inl x) (inr y) = absurd (y.0 (fits_there m i f a x))
one_shown m i f a b (inr x) (inl y) = absurd (x.0 (fits_there m i f b y))
one_shown m i f a b (inr x) (inr y) = x.1 ∙ sym y.1

one_shows : (s : Subject) (i : ℕ) (f : Option Frame) (a b : ℕ) → Shows s i f a → Shows s i f b → a ≡ b
one_shows s i (Some f) a b x y = one_shown s.module_ i f a b x y
one_shows s i None a b x y = x ∙ sym y

-- ---- what commands print

pub one_printed : (s : Subject) (i : ℕ) (given : List ℕ) (c : Command) (a b : List ℕ) → Prints s i given c a → Prints s i given c b → a ≡ b
one_printed s i given c a b x y = x.2 ∙ ap (λ (n : ℕ). printed s i n given c) (one_shows s i (slice_get s.frames i) x.0 y.0 x.1 y.1) ∙ sym y.2

one_session : (s : Subject) (i : ℕ) (cs : List (List ℕ)) (a b : List ℕ) → PrintsAll s i cs a → PrintsAll s i cs b → a ≡ b
one_session s i [] a b x y = x ∙ sym y
one_session s i (given ∷ more) a b x y =
    x.4 ∙ ap₂ (λ (p q : List ℕ). p ++ q) (one_printed s i given (read_command given) x.0 y.0 x.2 y.2) (one_session s (chosen_behind s i (read_command given)) more x.1 y.1 x.3 y.3) ∙ sym y.4

one_told : (cs : List (List ℕ)) (bytes : List ℕ) (m : Module) (dump : Dump) (a b : Outcome) → IsTold cs bytes m dump a → IsTold cs bytes m dump b → a ≡ b
one_told cs bytes m dump a b x y =
    ap₂ ended (x.done ∙ sym y.done) (one_session (subject_of bytes (record { module_ = m; dump = dump })) 0 cs a.text b.text x.prints y.prints)

-- ---- the first test that fails

-- a test by its place in the order
row_of : ℕ → ℕ → Mismatch
row_of zero zero = rows.Instance
row_of zero (suc zero) = rows.Instance
row_of zero (suc (suc zero)) = rows.Memory
row_of zero (suc (suc (suc i))) = rows.Global i
row_of (suc i) (suc (suc (suc (suc zero)))) = rows.Function i
row_of (suc i) (suc (suc (suc (suc (suc zero))))) = rows.Offset i
row_of (suc i) (suc (suc (suc (suc (suc (suc zero)))))) = rows.Locals i
row_of (suc i) (suc (suc (suc (suc (suc (suc (suc zero))))))) = rows.Operands i
row_of (suc i) (suc (suc (suc (suc (suc (suc (suc (suc zero)))))))) = rows.NotACall i
row_of (suc i) p = rows.Callee i

at_frame : (i p : ℕ) (r : Mismatch) → row_of (suc i) p ≡ r → row_of (i + 1) p ≡ r
at_frame i p r e = let n : i + 1 ≡ suc i = omega arith in rw n e

row_is : (r : Mismatch) → row_of (group r) (place r) ≡ r
unfolding row_of
row_is rows.Instance = refl
row_is rows.Memory = refl
row_is (rows.Global i) = let n : 3 + i ≡ suc (suc (suc i)) = omega arith in rw n refl
row_is (rows.Function i) = at_frame i 4 (rows.Function i) refl
row_is (rows.Offset i) = at_frame i 5 (rows.Offset i) refl
row_is (rows.Locals i) = at_frame i 6 (rows.Locals i) refl
row_is (rows.Operands i) = at_frame i 7 (rows.Operands i) refl
row_is (rows.NotACall i) = at_frame i 8 (rows.NotACall i) refl
row_is (rows.Callee i) = at_frame i 9 (rows.Callee i) refl

same_row : (a b : Mismatch) → (Before a b → ⊥) → (Before b a → ⊥) → a ≡ b
same_row a b not_before not_behind =
    let groups : group a ≡ group b = same_number (group a) (group b) (λ lt. not_before (inl lt)) (λ lt. not_behind (inl lt)) in
    let places : place a ≡ place b = same_number (place a) (place b) (λ lt. not_before (inr (groups, lt))) (λ lt. not_behind (inr (sym groups, lt))) in
    sym (row_is a) ∙ ap₂ row_of groups places ∙ row_is b
  where
    same_number : (n k : ℕ) → (n < k → ⊥) → (k < n → ⊥) → n ≡ k
    same_number n k x y = omega (arith, x, y)

one_first : (m : Module) (dump : Dump) (a b : Mismatch) → FirstMismatch m dump a → FirstMismatch m dump b → a ≡ b
one_first m dump a b x y = same_row a b (λ before. x.fails (y.earlier a before)) (λ before. y.fails (x.earlier b before))

-- ---- the command

agree_dump : (cs : List (List ℕ)) (bytes : List ℕ) (m : Module) (dump : Dump) → Agree (DumpAnswer cs bytes m dump) (DumpAnswer cs bytes m dump)
agree_dump cs bytes m dump a b (inl (r, first_r, ea)) (inl (q, first_q, eb)) = ea ∙ ap mismatched (one_first m dump r q first_r first_q) ∙ sym eb
agree_dump cs bytes m dump a b (inl (r, first_r, ea)) (inr (fits, y)) = absurd (first_r.fails (fits r))
agree_dump cs bytes m dump a b (inr (fits, x)) (inl (q, first_q, eb)) = absurd (first_q.fails (fits q))
agree_dump cs bytes m dump a b (inr (fits, x)) (inr (also, y)) = one_told cs bytes m dump a b x y

agree_if_dump : (P : Dump → Outcome → Type 0) → ((dump : Dump) → Agree (P dump) (P dump)) → (decoded : Result Dump DumpFault) → Agree (IfDump P decoded) (IfDump P decoded)
agree_if_dump P agree (Ok dump) a b x y = agree dump a b x y
agree_if_dump P agree (Err fault) a b x y = x ∙ sym y

pub one_debug : (w : DebugWords) (first later : Contents) → Agree (DebugAnswer w first later) (DebugAnswer w first later)
one_debug w first later =
    agree_then (input_of ModuleBytes w.source (first w.source)) _ _ (λ bytes.
    agree_then (input_of DumpBytes w.dump (later w.dump)) _ _ (λ dump_bytes.
    agree_if_loaded _ _ (λ m. agree_if_dump (DumpAnswer w.commands bytes m) (agree_dump w.commands bytes m) (dump_from dump_bytes)) (module_from bytes)))
