-- Calls with their replies, one after another.
use Rattle.std.proofs.Common.{◌≡◌, ℕ, zero, suc, ◌+◌, ◌≤◌, false, List, [], ◌∷◌, ◌++◌, Some, length, take, drop, slice_get, refl, sym, ap, ◌∙◌, arith}
use Rattle.std.specs.Option.{is_none}
use Rattle.wasm_syntax.specs.declared.host.HostCall.{HostCall}
use Rattle.wasm_syntax.specs.declared.host.Reply.{Reply}
use Rattle.wasm_syntax.specs.declared.host.Served.{Served}
use Rattle.host_devices.specs.Given.{replies_of}
use Rattle.host_set.specs.calls.Scripting.{with_replies}

-- one call more, and the reply behind those before
pub served_more : (calls : List HostCall) (call : HostCall) (replies : List Reply) (reply : Reply) → slice_get replies (length calls) ≡ Some reply → with_replies (calls ++ call ∷ []) replies ≡ with_replies calls replies ++ record { call = call; reply = reply } ∷ []
served_more [] call [] reply there = cc
served_more [] call (r ∷ rs) reply there = let same : r ≡ reply = cc in ap (λ (x : Reply). (let s : Served = record { call = call; reply = x } in s ∷ [])) same
served_more (c ∷ cs) call [] reply there = cc
served_more (c ∷ cs) call (r ∷ rs) reply there = ap (λ (ss : List Served). (let s : Served = record { call = c; reply = r } in s ∷ ss)) (served_more cs call rs reply there)

-- the replies that calls were given
pub given_so_far : (calls : List HostCall) (replies : List Reply) → replies_of (with_replies calls replies) ≡ take (length calls) replies
given_so_far [] replies = refl
given_so_far (c ∷ cs) [] = refl
given_so_far (c ∷ cs) (r ∷ rs) = ap (λ (xs : List Reply). r ∷ xs) (given_so_far cs rs)

-- each call was given one, where there are as many
pub all_served : (calls : List HostCall) (replies : List Reply) → length calls ≤ length replies → length (with_replies calls replies) ≡ length calls
all_served [] replies le = refl
all_served (c ∷ cs) [] le = absurd (omega (arith, le))
all_served (c ∷ cs) (r ∷ rs) le = ap (λ (n : ℕ). suc n) (all_served cs rs (omega (arith, le)))

-- a reply behind the first ones
pub reply_behind : (replies : List Reply) (first k : ℕ) → slice_get (drop first replies) k ≡ slice_get replies (first + k)
reply_behind [] zero k = refl
reply_behind [] (suc first) k = refl
reply_behind (r ∷ rs) zero k = let e : k ≡ 0 + k = omega arith in ap (slice_get (r ∷ rs)) e
reply_behind (r ∷ rs) (suc first) k = let e : suc (first + k) ≡ suc first + k = omega arith in reply_behind rs first k ∙ ap (slice_get (r ∷ rs)) e

module _ (calls more : List HostCall) (call copy : HostCall) (replies : List Reply) (reply answer : Reply) (first next : ℕ) (at : next ≡ first + length calls) (there : slice_get replies next ≡ Some reply) (given : answer ≡ reply) where
  pub is_next : slice_get replies (first + length calls) ≡ Some answer
  is_next = ap (slice_get replies) (sym at) ∙ there ∙ ap Some (sym given)

  pub is_left : is_none (slice_get replies (first + length calls)) ≡ false
  is_left = ap is_none is_next

  -- the call was kept
  module _ (pushed : more ≡ calls ++ copy ∷ []) (copied : copy ≡ call) where
    pub grown : more ≡ calls ++ call ∷ []
    grown = pushed ∙ ap (λ c. calls ++ c ∷ []) copied

    pub served_next : with_replies more (drop first replies) ≡ with_replies calls (drop first replies) ++ record { call = call; reply = answer } ∷ []
    served_next =
        ap (λ cs. with_replies cs (drop first replies)) grown
        ∙ served_more calls call (drop first replies) answer (reply_behind replies first (length calls) ∙ is_next)
