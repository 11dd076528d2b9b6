-- A block ends inside the block around it.
use Rattle.std.proofs.Common.{◌≡◌, ℕ, ◌+◌, ◌-◌, ◌≤◌, leb, length, take, Result, Ok, Err, ap, subst, inl, inr, arith}
use Rattle.std.specs.Prelude.{IfOk}
use Rattle.std.proofs.lemmas.List.{length-take}
use Rattle.wasm_bytes.specs.declared.faults.Malformed.{Malformed}
use Rattle.wasm_bytes.specs.Place.{Place}
use Rattle.wasm_bytes.specs.Reading.{if_inside, block_of}
use Rattle.wasm_bytes.specs.calls.Answers.{Reads}
use Rattle.wasm_bytes.specs.Laws.{got}
use Rattle.wasm_bytes.proofs.Places.{got_is}
use Rattle.wasm_leb.proofs.Tools.{chosen}

cut_inside : (at n : ℕ) (p inner outer : Place) → if_inside at (n, p) ≡ got inner outer → length inner.block ≤ length p.block
cut_inside at n p inner outer e = elim (chosen (leb n (length p.block - p.at)) _ _ (got inner outer) e) [
  | inl c ↦
      let b = block_of n p in
      let same = got_is b.0 inner b.1 outer c.1 in
      let size : length (take (p.at + n) p.block) ≡ length inner.block = ap (λ (s : Place). length s.block) same.0 in
      omega (arith, size, length-take (p.at + n) p.block)
  | inr c ↦ absurd cc
]

pub opened_inside : (r : Result Place Malformed) (after : Place) (at n most : ℕ) (p : Place) → length p.block ≡ most → Reads r after (if_inside at (n, p)) → IfOk r (λ inner. length inner.block ≤ most)
opened_inside (Ok inner) after at n most p same e = subst (λ (k : ℕ). length inner.block ≤ k) same (cut_inside at n p inner after e)
opened_inside (Err e) after at n most p same h = tt
