use Rattle.std.proofs.Common.{◌≡◌, ◌≤◌, ◌+◌, ◌++◌, ◌∷◌, [], ℕ, ◌/◌, Bool, true, false, eqb, List, length, Option, refl, sym, ap, subst, ◌∙◌, arith}
use Rattle.std.specs.Prelude.{if◌then◌else◌}
use Rattle.dwarf_abbrev.specs.declared.forks.Fork.{Fork}
use Rattle.dwarf_abbrev.specs.inner.Forks.{node, here_of, behind, is_odd, found, IsClosed, Side}
use Rattle.dwarf_abbrev.proofs.TrieLaws.{closed_push, found_push, with_here, with_bit, side_low, either_way, on_value}
use Rattle.dwarf_abbrev.proofs.forks.+with.Goals as goal

-- ---- the key 0

pub returns-then-key-eq0-clause-closed : goal.returns-then-key-eq0-clause-closed
returns-then-key-eq0-clause-closed t c =
    let xs = c.args.forks.now in
    let all = c.push.new.forks in
    let there : c.node-node.result ≡ node xs c.args.number = c.node-node.ensures ∙ ap (λ (l : List Fork). node l c.args.number) c.as_slice.ensures in
    let f : Fork = record { here = c.args.value; even = c.behind.result; odd = c.behind-then-key-eq0.result } in
    let even : f.even ≡ behind false (node xs c.args.number) = c.behind.ensures ∙ ap (behind false) there in
    let odd : f.odd ≡ behind true (node xs c.args.number) = c.behind-then-key-eq0.ensures ∙ ap (behind true) there in
    either_way c.push.result (all ≡ xs ++ f ∷ []) (all ≡ xs) (IsClosed all) c.push.ensures.ok c.push.ensures.err
    (λ is. closed_push xs all f is c.requires.closed (omega (arith, even, c.requires.closed c.args.number false)) (omega (arith, odd, c.requires.closed c.args.number true)))
    (λ same. subst (λ (l : List Fork). IsClosed l) (sym same) c.requires.closed)

pub returns-then-key-eq0-clause-same : goal.returns-then-key-eq0-clause-same
returns-then-key-eq0-clause-same t c = λ fuel n k inside.
    let xs = c.args.forks.now in
    let all = c.push.new.forks in
    let f : Fork = record { here = c.args.value; even = c.behind.result; odd = c.behind-then-key-eq0.result } in
    either_way c.push.result (all ≡ xs ++ f ∷ []) (all ≡ xs) (found all fuel n k ≡ found xs fuel n k) c.push.ensures.ok c.push.ensures.err
    (λ is. found_push xs all f is c.requires.closed fuel n k inside)
    (λ same. ap (λ (l : List Fork). found l fuel n k) same)

pub returns-then-key-eq0-clause-value : goal.returns-then-key-eq0-clause-value
returns-then-key-eq0-clause-value t c =
    let xs = c.args.forks.now in
    let all = c.push.new.forks in
    let number = c.args.number in
    let there : c.node-node.result ≡ node xs number = c.node-node.ensures ∙ ap (λ (l : List Fork). node l number) c.as_slice.ensures in
    let f : Fork = record { here = c.args.value; even = c.behind.result; odd = c.behind-then-key-eq0.result } in
    let even : f.even ≡ behind false (node xs number) = c.behind.ensures ∙ ap (behind false) there in
    let odd : f.odd ≡ behind true (node xs number) = c.behind-then-key-eq0.ensures ∙ ap (behind true) there in
    let zero_key : c.args.key ≡ 0 = c.if-key-eq0.true in
    on_value c.push.result (all ≡ xs ++ f ∷ []) (λ made. made ≡ length xs + 1) (λ made. (fuel k : ℕ) → k ≤ fuel → found all fuel made k ≡ (if eqb c.args.key k then c.args.value else found xs fuel number k))
    c.push.ensures.ok c.push.ensures.number
    (λ made is number_is. subst (λ (key : ℕ). (fuel k : ℕ) → k ≤ fuel → found all fuel made k ≡ (if eqb key k then c.args.value else found xs fuel number k)) (sym zero_key)
    (with_here xs all f number made c.requires.closed even odd is number_is))

-- ---- another key

pub returns-clause-closed : goal.returns-clause-closed
returns-clause-closed t c =
    let xs = c.args.forks.now in
    let mid = c.with.new.forks in
    let all = c.push-2.new.forks in
    let f = c.forked.result in
    let b = is_odd c.args.key in
    let there : c.node-node.result ≡ node xs c.args.number = c.node-node.ensures ∙ ap (λ (l : List Fork). node l c.args.number) c.as_slice.ensures in
    let grows = c.in_ok-child.ensures.grows in
    let low : (s : Bool) → behind s c.node-node.result ≤ length mid = λ s. omega (arith, ap (behind s) there, c.requires.closed c.args.number s, grows) in
    let sides = c.forked.ensures.sides in
    let even = side_low b c.in_ok-child.child (length mid) c.node-node.result f false (sides false) c.in_ok-child.ensures.number (low false) in
    let odd = side_low b c.in_ok-child.child (length mid) c.node-node.result f true (sides true) c.in_ok-child.ensures.number (low true) in
    either_way c.push-2.result (all ≡ mid ++ f ∷ []) (all ≡ mid) (IsClosed all) c.push-2.ensures.ok c.push-2.ensures.err
    (λ is. closed_push mid all f is c.in_ok-child.ensures.closed even odd)
    (λ same. subst (λ (l : List Fork). IsClosed l) (sym same) c.in_ok-child.ensures.closed)

pub returns-clause-same : goal.returns-clause-same
returns-clause-same t c = λ fuel n k inside.
    let xs = c.args.forks.now in
    let mid = c.with.new.forks in
    let all = c.push-2.new.forks in
    let f = c.forked.result in
    let before = c.in_ok-child.ensures.same fuel n k inside in
    either_way c.push-2.result (all ≡ mid ++ f ∷ []) (all ≡ mid) (found all fuel n k ≡ found xs fuel n k) c.push-2.ensures.ok c.push-2.ensures.err
    (λ is. found_push mid all f is c.in_ok-child.ensures.closed fuel n k (omega (arith, inside, c.in_ok-child.ensures.grows)) ∙ before)
    (λ same. ap (λ (l : List Fork). found l fuel n k) same ∙ before)

pub returns-clause-value : goal.returns-clause-value
returns-clause-value t c =
    let xs = c.args.forks.now in
    let mid = c.with.new.forks in
    let all = c.push-2.new.forks in
    let f = c.forked.result in
    let number = c.args.number in
    let key = c.args.key in
    let b = is_odd key in
    let child = c.in_ok-child.child in
    let there : c.node-node.result ≡ node xs number = c.node-node.ensures ∙ ap (λ (l : List Fork). node l number) c.as_slice.ensures in
    let begins : c.behind-2.result ≡ behind b (node xs number) = c.behind-2.ensures ∙ ap (behind b) there in
    let child_is : (fuel k : ℕ) → k ≤ fuel → found mid fuel child k ≡ (if eqb (key / 2) k then c.args.value else found xs fuel (behind b (node xs number)) k) =
    λ fuel k small. c.in_ok-child.ensures.value fuel k small ∙ ap (λ (n : ℕ). if eqb (key / 2) k then c.args.value else found xs fuel n k) begins in
    let sides : (s : Bool) → Side b child (node xs number) f s = λ s. subst (λ (o : Option Fork). Side b child o f s) there (c.forked.ensures.sides s) in
    on_value c.push-2.result (all ≡ mid ++ f ∷ []) (λ made. made ≡ length mid + 1) (λ made. (fuel k : ℕ) → k ≤ fuel → found all fuel made k ≡ (if eqb key k then c.args.value else found xs fuel number k))
    c.push-2.ensures.ok c.push-2.ensures.number
    (λ made is number_is. with_bit xs mid all f number key c.args.value child made b c.requires.closed c.in_ok-child.ensures.closed c.in_ok-child.ensures.grows c.in_ok-child.ensures.same
    (λ e. omega (arith, e, c.if-key-eq0.false)) refl c.in_ok-child.ensures.number child_is (c.forked.ensures.here ∙ ap here_of there) sides is number_is)
