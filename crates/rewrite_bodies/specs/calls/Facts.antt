-- Which instructions need a guard: those that can trap and that no fact answers. A fact says that so many bytes from the value of a local on lie
-- inside the memory, which never gets shorter. An access whose address is a copy of the local shows one, and it answers a later one that ends no
-- further, as long as the local is not written. A block and the first arm of an `if` begin with the facts that are there; a loop and the second arm do
-- with those whose local no block of the function writes, and these hold behind all of them too.
use Rattle.std.specs.Prelude.{ℕ, ◌+◌, ◌*◌, ◌/◌, ◌==◌, ◌&&◌, ◌||◌, nat_le, nat_lt, not, List, [], ◌∷◌, ◌++◌, length, Option, Some, None, Bool, true, false}
use Rattle.wasm_syntax.specs.declared.instruction.Basic.{Basic}
use Rattle.wasm_syntax.specs.declared.instruction.Basic.TheVariants.{LocalGet, LocalTee, Load, Store, Const, Eqz, Unary, Compare, Binary, Convert, Extend32, Extend64}
use Rattle.wasm_syntax.specs.declared.value.ValType.TheVariants.{I32}
use Rattle.wasm_syntax.specs.declared.value.Value.{Value}
use Rattle.wasm_syntax.specs.declared.value.Value.TheVariants as values
use Rattle.wasm_syntax.specs.declared.parts.Limits.{Limits}
use Rattle.wasm_syntax.specs.Numbers.{modulo}
use Rattle.wasm_syntax.specs.Access.{load_bits, store_bits}
use Rattle.wasm_syntax.specs.Tree.{Nodes, stop, basic, jump, block, loop, choose}
use Rattle.rewrite_bodies.specs.calls.Slots.{Ctx, local_written}
use Rattle.rewrite_bodies.specs.calls.Guards.{can_trap}

-- ---- locals that are written

abbrev pub is_local : Option ℕ → ℕ → Bool
is_local None x = false
is_local (Some y) x = y == x

-- somewhere in these nodes
abbrev pub written : Nodes → ℕ → Bool
written stop x = false
written (basic o i rest) x = is_local (local_written i) x || written rest x
written (jump o j rest) x = written rest x
written (block o t inner end rest) x = written inner x || written rest x
written (loop o t inner end rest) x = written inner x || written rest x
written (choose o t a else_at b end rest) x = written a x || (written b x || written rest x)

-- in a block of these nodes
abbrev pub frail : Nodes → ℕ → Bool
frail stop x = false
frail (basic o i rest) x = frail rest x
frail (jump o j rest) x = frail rest x
frail (block o t inner end rest) x = written inner x || frail rest x
frail (loop o t inner end rest) x = written inner x || frail rest x
frail (choose o t a else_at b end rest) x = written a x || (written b x || frail rest x)

-- ---- facts

-- where bytes are counted from: address 0, or the value of a local
pub data Base : Type 0 where
  Zero : Base
  Local : (x : ℕ) → Base

abbrev pub same_base : Base → Base → Bool
same_base Zero Zero = true
same_base Zero (Local y) = false
same_base (Local x) Zero = false
same_base (Local x) (Local y) = x == y

-- it is one of these locals
abbrev pub is_on : (ℕ → Bool) → Base → Bool
is_on these Zero = false
is_on these (Local x) = these x

-- the bytes from there to this end lie inside the memory
pub record Fact : Type 0 where
  pub base : Base
  pub end : ℕ

-- where these facts say so of a local
abbrev pub answered : Fact → List Fact → Bool
answered f [] = false
answered f (g ∷ gs) = (same_base g.base f.base && nat_le f.end g.end) || answered f gs

abbrev pub keep_if : Bool → Fact → List Fact → List Fact
keep_if true f fs = f ∷ fs
keep_if false f fs = fs

-- those on none of these locals
abbrev pub others : (ℕ → Bool) → List Fact → List Fact
others these [] = []
others these (f ∷ fs) = keep_if (not (is_on these f.base)) f (others these fs)

-- where a function begins: a memory has its least pages
abbrev pub first_facts : List Limits → List Fact
first_facts [] = []
first_facts (l ∷ ls) = record { base = Zero; end = 65536 * l.min } ∷ []

-- the most facts that are kept, with that one
abbrev pub most_facts : ℕ
most_facts = 33

abbrev pub one_noted : Bool → Fact → List Fact → List Fact
one_noted true f fs = fs ++ f ∷ []
one_noted false f fs = fs

-- ---- copies

-- a number, or the value of a local: so much behind a base
pub record Copy : Type 0 where
  pub base : Base
  pub plus : ℕ

abbrev pub copy_of : ℕ → Copy
copy_of x = record { base = Local x; plus = 0 }

abbrev pub number_of : Value → Option Copy
number_of (values.I32 n) = Some (record { base = Zero; plus = modulo I32 n })
number_of (values.I64 n) = None

-- what the three topmost operands are, the topmost first, where it is known
pub record Copies : Type 0 where
  pub first : Option Copy
  pub second : Option Copy
  pub third : Option Copy

abbrev pub no_copies : Copies
no_copies = record { first = None; second = None; third = None }

-- under one more operand
abbrev pub under_one : Option Copy → Copies → Copies
under_one top c = record { first = top; second = c.first; third = c.second }

-- without the topmost
abbrev pub without_top : Copies → Copies
without_top c = record { first = c.second; second = c.third; third = None }

-- none of a local that is written
abbrev pub unless : Bool → Copy → Option Copy
unless true k = None
unless false k = Some k

abbrev pub unless_on : (ℕ → Bool) → Option Copy → Option Copy
unless_on these None = None
unless_on these (Some k) = unless (is_on these k.base) k

abbrev pub other_copies : (ℕ → Bool) → Copies → Copies
other_copies these c = record { first = unless_on these c.first; second = unless_on these c.second; third = unless_on these c.third }

abbrev pub copies_behind : Basic → Copies → Copies
copies_behind (LocalGet x) c = under_one (Some (copy_of x)) c
copies_behind (LocalTee x) c = under_one (Some (copy_of x)) (other_copies (is_local (Some x)) (without_top c))
copies_behind (Const v) c = under_one (number_of v) c
copies_behind (Load l align o) c = under_one None (without_top c)
copies_behind (Eqz t) c = under_one None (without_top c)
copies_behind (Unary t op) c = under_one None (without_top c)
copies_behind (Convert k) c = under_one None (without_top c)
copies_behind (Extend32 k) c = under_one None (without_top c)
copies_behind (Extend64 k) c = under_one None (without_top c)
copies_behind (Compare t op) c = under_one None (without_top (without_top c))
copies_behind (Binary t op) c = under_one None (without_top (without_top c))
copies_behind i c = no_copies

-- ---- an instruction

abbrev pub reach : Option Copy → ℕ → Option Fact
reach None n = None
reach (Some k) n = Some (record { base = k.base; end = k.plus + n })

-- what an access shows
abbrev pub shown : Basic → Copies → Option Fact
shown (Load l align o) c = reach c.first (o + load_bits l / 8)
shown (Store l align o) c = reach c.second (o + store_bits l / 8)
shown i c = None

abbrev pub is_answered : Option Fact → List Fact → Bool
is_answered None fs = false
is_answered (Some f) fs = answered f fs

-- what is not known yet is noted, where there are not too many facts
abbrev pub noted : Option Fact → List Fact → List Fact
noted None fs = fs
noted (Some f) fs = one_noted (not (answered f fs) && nat_lt (length fs) most_facts) f fs

abbrev pub facts_behind : Basic → Copies → List Fact → List Fact
facts_behind i c fs = others (is_local (local_written i)) (noted (shown i c) fs)

-- ---- all of a function

abbrev pub if_exposed : Bool → ℕ → List ℕ → List ℕ
if_exposed true o os = o ∷ os
if_exposed false o os = os

-- the offsets of instructions that can trap and are not answered
abbrev pub exposed_from : (ℕ → Bool) → List Fact → Copies → Nodes → List ℕ
exposed_from these fs c stop = []
exposed_from these fs c (basic o i rest) =
    if_exposed (can_trap i && not (is_answered (shown i c) fs)) o (exposed_from these (facts_behind i c fs) (copies_behind i c) rest)
exposed_from these fs c (jump o j rest) = exposed_from these fs no_copies rest
exposed_from these fs c (block o t inner end rest) =
    exposed_from these fs no_copies inner ++ exposed_from these (others these fs) no_copies rest
exposed_from these fs c (loop o t inner end rest) =
    exposed_from these (others these fs) no_copies inner ++ exposed_from these (others these fs) no_copies rest
exposed_from these fs c (choose o t a else_at b end rest) =
    let kept = others these fs in
    exposed_from these fs no_copies a ++ (exposed_from these kept no_copies b ++ exposed_from these kept no_copies rest)

-- by the memories of the module
abbrev pub exposed_in : List Limits → Nodes → List ℕ
exposed_in ls nodes = exposed_from (frail nodes) (first_facts ls) no_copies nodes

abbrev pub among : ℕ → List ℕ → Bool
among o [] = false
among o (p ∷ ps) = (p == o) || among o ps

-- an instruction needs a guard where it can trap, and no fact answers an instruction of its offset
abbrev pub needs : Ctx → ℕ → Basic → Bool
needs C o i = can_trap i && among o C.exposed
