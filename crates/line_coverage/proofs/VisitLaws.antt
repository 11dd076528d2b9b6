-- Counts of instructions by the instructions' addresses.
use Rattle.std.proofs.Common.{◌≡◌, ℕ, zero, suc, ◌+◌, ◌%◌, ◌^◌, ◌<◌, Bool, true, List, [], ◌∷◌, refl, sym, ap, ◌∙◌, arith}
use Rattle.std.specs.Prelude.{length, drop, slice_index_or}
use Rattle.std.proofs.Math.Seq.{drop-nil}
use Rattle.wasm_syntax.specs.declared.instruction.Op.{Op}
use Rattle.wasm_syntax.specs.declared.parts.Body.{Body}
use Rattle.line_coverage.specs.inner.Sums.{sum_all, AddsOne, Adds}
use Rattle.line_coverage.specs.inner.Visits.{op_sum, ops_sum, bodies_sum}
use Rattle.line_coverage.proofs.SumLaws.{zero_if}

-- ---- sums that grow

pub adds_nothing : {K : Type 0} (es : List (K × ℕ)) (more : (K → Bool) → ℕ) → ((q : K → Bool) → more q ≡ 0) → Adds es es more
adds_nothing es more none = record { sums = λ room q. omega (arith, none q); positive = λ p. p }

pub adds_then : {K : Type 0} (old mid new : List (K × ℕ)) (f g h : (K → Bool) → ℕ) → Adds old mid f → Adds mid new g → ((q : K → Bool) → h q ≡ f q + g q) → Adds old new h
adds_then old mid new f g h first behind sum = record {
  sums = λ room q.
      let all : h (λ _. true) ≡ f (λ _. true) + g (λ _. true) = sum (λ _. true) in
      let here : sum_all old + f (λ _. true) < 2 ^ 64 = omega (arith, all, room) in
      let grown : sum_all mid ≡ sum_all old + f (λ _. true) = first.sums here (λ _. true) in
      let there : sum_all mid + g (λ _. true) < 2 ^ 64 = omega (arith, all, grown, room) in
      omega (arith, first.sums here q, behind.sums there q, sum q);
  positive = λ p. behind.positive (first.positive p);
}

pub adds_op : (old new : List (ℕ × ℕ)) (address n : ℕ) → 0 < n → AddsOne old new address n → Adds old new (op_sum address n)
adds_op old new address n some one = record { sums = one.sums; positive = one.positive some }

-- ---- one instruction, one function

ops_none : (start : ℕ) (ops : List Op) (q : ℕ → Bool) → ops_sum start ops [] q ≡ 0
ops_none start [] q = refl
ops_none start (o ∷ ops) q = refl

bodies_none : (bs : List Body) (q : ℕ → Bool) → bodies_sum bs [] q ≡ 0
bodies_none [] q = refl
bodies_none (b ∷ bs) q = refl

ops_dropped : (start : ℕ) (ops : List Op) (n : ℕ) (q : ℕ → Bool) → ops_sum start ops (drop n []) q ≡ 0
ops_dropped start ops n q = ap (λ ns. ops_sum start ops ns q) (drop-nil n) ∙ ops_none start ops q

bodies_dropped : (bs : List Body) (n : ℕ) (q : ℕ → Bool) → bodies_sum bs (drop n []) q ≡ 0
bodies_dropped bs n q = ap (λ cs. bodies_sum bs cs q) (drop-nil n) ∙ bodies_none bs q

pub op_here : (start : ℕ) (ops : List Op) (ns : List ℕ) (i : ℕ) (op : Op) (q : ℕ → Bool) → i < length ops → op ≡ slice_index_or ops i op
    → ops_sum start (drop i ops) (drop i ns) q ≡ op_sum ((start + op.at) % 2 ^ 32) (slice_index_or ns i 0) q + ops_sum start (drop (i + 1) ops) (drop (i + 1) ns) q
op_here start [] ns i op q inside e = absurd (omega (arith, inside))
op_here start (o ∷ ops) [] zero op q inside e = omega (arith, zero_if (q ((start + op.at) % 2 ^ 32)), ops_none start ops q)
op_here start (o ∷ ops) (n ∷ ns) zero op q inside e =
    let same : op_sum ((start + o.at) % 2 ^ 32) n q ≡ op_sum ((start + op.at) % 2 ^ 32) n q = ap (λ (x : Op). op_sum ((start + x.at) % 2 ^ 32) n q) (sym e) in
    omega (arith, same)
op_here start (o ∷ ops) [] (suc i) op q inside e = omega (arith, zero_if (q ((start + op.at) % 2 ^ 32)), ops_none start (drop i ops) q, ops_dropped start (drop (suc i + 1) (o ∷ ops)) (suc i + 1) q)
op_here start (o ∷ ops) (n ∷ ns) (suc i) op q inside e =
    let more : suc i + 1 ≡ suc (i + 1) = omega arith in
    let rest : ops_sum start (drop (suc i + 1) (o ∷ ops)) (drop (suc i + 1) (n ∷ ns)) q ≡ ops_sum start (drop (i + 1) ops) (drop (i + 1) ns) q = ap (λ k. ops_sum start (drop k (o ∷ ops)) (drop k (n ∷ ns)) q) more in
    omega (arith, op_here start ops ns i op q (omega (arith, inside)) e, rest)

pub body_here : (bs : List Body) (cs : List (List ℕ)) (i : ℕ) (b : Body) (q : ℕ → Bool) → i < length bs → b ≡ slice_index_or bs i b
    → bodies_sum (drop i bs) (drop i cs) q ≡ ops_sum b.start b.ops (slice_index_or cs i []) q + bodies_sum (drop (i + 1) bs) (drop (i + 1) cs) q
body_here [] cs i b q inside e = absurd (omega (arith, inside))
body_here (o ∷ bs) [] zero b q inside e = omega (arith, ops_none b.start b.ops q, bodies_none bs q)
body_here (o ∷ bs) (c ∷ cs) zero b q inside e =
    let same : ops_sum o.start o.ops c q ≡ ops_sum b.start b.ops c q = ap (λ (x : Body). ops_sum x.start x.ops c q) (sym e) in
    omega (arith, same)
body_here (o ∷ bs) [] (suc i) b q inside e = omega (arith, ops_none b.start b.ops q, bodies_none (drop i bs) q, bodies_dropped (drop (suc i + 1) (o ∷ bs)) (suc i + 1) q)
body_here (o ∷ bs) (c ∷ cs) (suc i) b q inside e =
    let more : suc i + 1 ≡ suc (i + 1) = omega arith in
    let rest : bodies_sum (drop (suc i + 1) (o ∷ bs)) (drop (suc i + 1) (c ∷ cs)) q ≡ bodies_sum (drop (i + 1) bs) (drop (i + 1) cs) q = ap (λ k. bodies_sum (drop k (o ∷ bs)) (drop k (c ∷ cs)) q) more in
    omega (arith, body_here bs cs i b q (omega (arith, inside)) e, rest)

same_at : {X : Type 0} (xs : List X) (i : ℕ) (d e : X) → i < length xs → slice_index_or xs i d ≡ slice_index_or xs i e
same_at [] i d e inside = absurd (omega (arith, inside))
same_at (x ∷ xs) zero d e inside = refl
same_at (x ∷ xs) (suc i) d e inside = same_at xs i d e (omega (arith, inside))

pub op_at : (start : ℕ) (ops : List Op) (ns : List ℕ) (i n : ℕ) (d : Op) (q : ℕ → Bool) → i < length ops → n ≡ slice_index_or ns i 0
    → ops_sum start (drop i ops) (drop i ns) q ≡ op_sum ((start + (slice_index_or ops i d).at) % 2 ^ 32) n q + ops_sum start (drop (i + 1) ops) (drop (i + 1) ns) q
op_at start ops ns i n d q inside is =
    let op : Op = slice_index_or ops i d in
    op_here start ops ns i op q inside (same_at ops i d op inside) ∙ ap (λ k. op_sum ((start + op.at) % 2 ^ 32) k q + ops_sum start (drop (i + 1) ops) (drop (i + 1) ns) q) (sym is)
