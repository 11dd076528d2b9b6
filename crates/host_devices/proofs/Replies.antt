-- The replies of a script that are left.
use Rattle.std.proofs.Common.{◌≡◌, ℕ, zero, suc, ◌+◌, List, [], ◌∷◌, drop, slice_get, ap, arith, Some}
use Rattle.wasm_syntax.specs.declared.host.Reply.{Reply}

pub next_reply : (replies : List Reply) (given : ℕ) (reply : Reply) → slice_get replies given ≡ Some reply → drop given replies ≡ reply ∷ drop (given + 1) replies
next_reply [] zero reply is = cc
next_reply [] (suc n) reply is = cc
next_reply (r ∷ rs) zero reply is = let same : r ≡ reply = cc in ap (λ (x : Reply). x ∷ rs) same
next_reply (r ∷ rs) (suc n) reply is = let more : suc n + 1 ≡ suc (n + 1) = omega arith in rw more (next_reply rs n reply is)
