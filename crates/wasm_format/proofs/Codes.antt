-- Reading an instruction item by item.
use Rattle.std.proofs.Common.{◌≡◌, ℕ, List, [], length, Result, Ok, Err, refl, ap}
use Rattle.std.proofs.lemmas.List.{append-nil}
use Rattle.wasm_bytes.specs.declared.faults.ItemFault.{ItemFault}
use Rattle.wasm_bytes.specs.declared.faults.ItemFault.TheVariants as faults
use Rattle.wasm_bytes.specs.Place.{Place}
use Rattle.wasm_bytes.specs.Reading.{byte_item, choose}
use Rattle.wasm_bytes.specs.calls.Answers.{Fails}
use Rattle.wasm_bytes.specs.Laws.{got}
use Rattle.wasm_bytes.proofs.Places.{bind_ok, got_is}
use Rattle.wasm_bytes.proofs.Stops.{made_err}
use Rattle.wasm_format.specs.declared.code.Code.{Code}
use Rattle.wasm_format.specs.declared.code.ReadInstr.{ReadInstr}
use Rattle.wasm_format.specs.Table.{form_of}
use Rattle.wasm_format.specs.Reading.{made_of, opcode_item, with_targets, labels_code, instruction_item, code_item, code_or_none, instr_from, Answers}

abbrev ok : ReadInstr → Result ReadInstr ℕ
ok x = Ok x

pub byte_fails : (before : List ℕ) (p : Place) (e : ItemFault) → Fails e (byte_item p) → Fails e (code_item before p)
unfolding code_item instruction_item choose
byte_fails before p faults.NoMemory h = tt
byte_fails before p (faults.At at) h = rw h refl

pub plain_read : (before : List ℕ) (p mid q : Place) (opcode at : ℕ) (code : Code) → byte_item p ≡ got opcode mid → at ≡ p.at → opcode_item (length before) at opcode mid ≡ got (made_of code) q → code_item before p ≡ got (code, before) q
unfolding code_item instruction_item choose
plain_read before p mid q opcode at code first here h = rw (first, ← here, h, append-nil before) refl

pub plain_fails : (before : List ℕ) (p mid : Place) (opcode at : ℕ) (e : ItemFault) → byte_item p ≡ got opcode mid → at ≡ p.at → Fails e (opcode_item (length before) at opcode mid) → Fails e (code_item before p)
unfolding code_item instruction_item choose
plain_fails before p mid opcode at faults.NoMemory first here h = tt
plain_fails before p mid opcode at (faults.At o) first here h = rw (first, ← here, h) refl

-- the opcode of a `br_table`
pub labels_same : (before : List ℕ) (p mid : Place) (opcode : ℕ) → byte_item p ≡ got opcode mid → opcode ≡ 0x0e → code_item before p ≡ labels_code before mid
unfolding code_item instruction_item choose form_of
labels_same before p mid opcode first is = rw (first, is) refl

-- ---- one instruction

pub instr_known : (p q : Place) (code : Code) (targets : List ℕ) → code_item [] p ≡ got (code, targets) q → instr_from (instruction_item 0 p) ≡ ok (record { code = code_or_none code; targets = targets; next = q.at })
unfolding code_item
instr_known p q code targets h =
    let a = bind_ok (instruction_item 0 p) (λ x. got (with_targets [] x.0) x.1) (code, targets) q h in
    let same = got_is (with_targets [] a.0) (code, targets) a.1 q a.3 in
    rw a.2 (ap (λ (z : (Code × List ℕ) × Place). ok (record { code = code_or_none z.0.0; targets = z.0.1; next = z.1.at })) (pair_is (with_targets [] a.0) (code, targets) a.1 q same.0 same.1))
  where
    pair_is : (x y : Code × List ℕ) (p q : Place) → x ≡ y → p ≡ q → ◌≡◌ {A = (Code × List ℕ) × Place} (x, p) (y, q)
    pair_is x y p q e f = cc

pub instr_fails : (p : Place) (e : ItemFault) → Fails e (code_item [] p) → Answers (Err e) (instr_from (instruction_item 0 p))
unfolding code_item
instr_fails p faults.NoMemory h = tt
instr_fails p (faults.At at) h = rw (made_err (with_targets []) (instruction_item 0 p) at h) refl
