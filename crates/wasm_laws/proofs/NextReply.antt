-- What a run with fewer replies tells of one with more: it is the same, unless it lacks a reply; then the other one takes the next one, for the
-- same call.
use Rattle.std.proofs.Common.{◌≡◌, ℕ, zero, suc, ◌+◌, List, [], ◌∷◌, ◌++◌, length, if◌then◌else◌, Option, Some, None, refl, sym, ap, subst, ◌∙◌, arith, append_assoc}
use Rattle.std.specs.Prelude.{Bool, true, false}
use Rattle.linear_memory.specs.Memory.{Memory}
use Rattle.wasm_syntax.specs.declared.value.Value.{Value}
use Rattle.wasm_syntax.specs.declared.host.HostCall.{HostCall}
use Rattle.wasm_syntax.specs.declared.host.Reply.{Reply}
use Rattle.wasm_syntax.specs.declared.host.Served.{Served}
use Rattle.wasm_syntax.specs.declared.host.CollectorCall.{CollectorCall}
use Rattle.wasm_syntax.specs.Module.{Function, imported, defined}
use Rattle.wasm_syntax.specs.Host.{World, collector_of, after_writes, fits_type, if_written, if_fits, served_by, told_or}
use Rattle.wasm_syntax.specs.Machine.{Engine, Config, config, Stepped, next, ends, traps, no_reply, bad_reply, stuck, step, entered, host_call}
use Rattle.wasm_syntax.specs.Run.{Ended, ended, host_alone, run_on, run_steps, run_alone, run_function}
use Rattle.wasm_laws.proofs.MoreReplies.{world_more, config_more, taken_in, Goes, Same, same_self, Keeps, Turns, step_more}

abbrev pub NotStuck : Stepped → Type 0
NotStuck (next c) = Unit {0}
NotStuck (ends w vs co) = Unit {0}
NotStuck (traps k c) = Unit {0}
NotStuck (no_reply call c) = Unit {0}
NotStuck (bad_reply call r c) = Unit {0}
NotStuck stuck = ⊥

-- behind these calls this one took this reply, and others may have come
abbrev pub Took : HostCall → Reply → (served : List Served) → Stepped → Type 0
Took call r served s = (xs : List Served) × (taken_in s ≡ xs ++ record { call = call; reply = r } ∷ served)

-- what comes of more replies
abbrev pub GoesOn : List Reply → Stepped → (left : ℕ) → Ended → Type 0
GoesOn more (next c) left e = e ≡ ended (next (config_more more c)) left
GoesOn more (ends w vs co) left e = e ≡ ended (ends (world_more more w) vs co) left
GoesOn more (traps k c) left e = e ≡ ended (traps k (config_more more c)) left
GoesOn more (no_reply call c) left e = (r : Reply) (rest : List Reply) → more ≡ r ∷ rest → NotStuck e.what → Took call r c.world.served e.what
GoesOn more (bad_reply call r c) left e = e ≡ ended (bad_reply call r (config_more more c)) left
GoesOn more stuck left e = e ≡ ended stuck left

-- from this world
abbrev pub RunTurns : List Reply → World → (one other : Ended) → Type 0
RunTurns more w one other = GoesOn more one.what one.left other × Keeps w one.what

-- ---- what was served stays

then_same : (a b c : World) → Same a b → Same b c → Same a c
then_same a b c x y = record {
  count = y.count ∙ x.count;
  more_served = y.more_served ++ x.more_served;
  served = y.served ∙ ap (λ l. y.more_served ++ l) x.served ∙ sym (append_assoc y.more_served x.more_served a.served);
}

then_keeps : (a b : World) (s : Stepped) → Same a b → Keeps b s → Keeps a s
then_keeps a b (next c) x y = then_same a b c.world x y
then_keeps a b (ends w vs co) x y = then_same a b w x y
then_keeps a b (traps k c) x y = then_same a b c.world x y
then_keeps a b (no_reply call c) x (y, none) = (then_same a b c.world x y, none)
then_keeps a b (bad_reply call r c) x y = then_same a b c.world x y
then_keeps a b stuck x y = tt

pub kept_taken : (w : World) (s : Stepped) → Keeps w s → NotStuck s → (xs : List Served) × (taken_in s ≡ xs ++ w.served)
kept_taken w (next c) k some = (k.more_served, k.served)
kept_taken w (ends w' vs co) k some = (k.more_served, k.served)
kept_taken w (traps k c) x some = (x.more_served, x.served)
kept_taken w (no_reply call c) k some = (k.0.more_served, k.0.served)
kept_taken w (bad_reply call r c) k some = (record { call = call; reply = r } ∷ k.more_served, ap (λ l. record { call = call; reply = r } ∷ l) k.served)
kept_taken w stuck k some = absurd some

-- what was taken is still taken where more was
pub took_behind : (call : HostCall) (r : Reply) (served now : List Served) (s : Stepped) → now ≡ record { call = call; reply = r } ∷ served → (xs : List Served) × (taken_in s ≡ xs ++ now) → Took call r served s
took_behind call r served now s is (xs, e) = (xs, e ∙ ap (λ l. xs ++ l) is)

module _ (M : Engine) (more : List Reply) where
  abbrev W : World → World
  W = world_more more

  -- ---- the end of a step that ends the run

  over : (w : World) (s s' : Stepped) (n : ℕ) → Turns more w s s' → RunTurns more w (ended s n) (ended s' n)
  over w (next c) s' n (is, k) = (ap (λ x. ended x n) is, k)
  over w (ends w' vs co) s' n (is, k) = (ap (λ x. ended x n) is, k)
  over w (traps kind c) s' n (is, k) = (ap (λ x. ended x n) is, k)
  over w (no_reply call c) s' n (asks, k) = ((λ r rest e some. ([], asks r rest e)), k)
  over w (bad_reply call r c) s' n (is, k) = (ap (λ x. ended x n) is, k)
  over w stuck s' n (is, k) = (ap (λ x. ended x n) is, k)

  -- ---- steps

  -- behind a step
  on_kept : (n : ℕ) → ((c : Config) → Keeps c.world (run_steps M n c).what) → (s : Stepped) → NotStuck (run_on M (run_steps M n) n s).what → (xs : List Served) × (taken_in (run_on M (run_steps M n) n s).what ≡ xs ++ taken_in s)
  on_kept n ih (next c) some = kept_taken c.world (run_steps M n c).what (ih c) some
  on_kept n ih (ends w vs co) some = ([], refl)
  on_kept n ih (traps k c) some = ([], refl)
  on_kept n ih (no_reply call c) some = ([], refl)
  on_kept n ih (bad_reply call r c) some = ([], refl)
  on_kept n ih stuck some = absurd some

  on_turns : (n : ℕ) (w : World) (s s' : Stepped) → ((c : Config) → RunTurns more c.world (run_steps M n c) (run_steps M n (config_more more c))) → Turns more w s s'
      → RunTurns more w (run_on M (run_steps M n) n s) (run_on M (run_steps M n) n s')
  on_turns n w (next c) s' ih (is, same) =
      let x = run_steps M n c in
      subst (λ z. RunTurns more w x (run_on M (run_steps M n) n z)) (sym is) ((ih c).0, then_keeps w c.world x.what same (ih c).1)
  on_turns n w (ends w' vs co) s' ih (is, k) = subst (λ z. RunTurns more w (ended (ends w' vs co) n) (run_on M (run_steps M n) n z)) (sym is) (refl, k)
  on_turns n w (traps kind c) s' ih (is, k) = subst (λ z. RunTurns more w (ended (traps kind c) n) (run_on M (run_steps M n) n z)) (sym is) (refl, k)
  on_turns n w (no_reply call c) s' ih (asks, k) =
      ((λ r rest e some. took_behind call r c.world.served (taken_in s') (run_on M (run_steps M n) n s').what (asks r rest e) (on_kept n (λ c. (ih c).1) s' some)), k)
  on_turns n w (bad_reply call r c) s' ih (is, k) = subst (λ z. RunTurns more w (ended (bad_reply call r c) n) (run_on M (run_steps M n) n z)) (sym is) (refl, k)
  on_turns n w stuck s' ih (is, k) = subst (λ z. RunTurns more w (ended stuck n) (run_on M (run_steps M n) n z)) (sym is) (refl, tt)

  pub steps_turn : (n : ℕ) (c : Config) → RunTurns more c.world (run_steps M n c) (run_steps M n (config_more more c))
  steps_turn zero c = (refl, same_self c.world)
  steps_turn (suc n) c = on_turns n c.world (step M c) (step M (config_more more c)) (λ c. steps_turn n c) (step_more M more c)

  -- ---- an import that is called alone

  alone_takes : (call : HostCall) (r : Reply) (rest : List Reply) (v : World) (co : List CollectorCall) → taken_in (host_alone (served_by call v (r ∷ rest)) call v co) ≡ record { call = call; reply = r } ∷ v.served
  alone_takes call r rest v co = by_fit (fits_type call.result r.value)
    where
      by_written : (o : Option (Option Memory)) → taken_in (host_alone (if_written call r rest v o) call v co) ≡ record { call = call; reply = r } ∷ v.served
      by_written None = refl
      by_written (Some memory) = refl

      by_fit : (b : Bool) → taken_in (host_alone (if_fits call r rest v b) call v co) ≡ record { call = call; reply = r } ∷ v.served
      by_fit false = refl
      by_fit true = by_written (after_writes v.memory r.writes)

  alone_served : (call : HostCall) (w : World) (co : List CollectorCall) (rs : List Reply) → w.replies ≡ rs → Turns more w (host_alone (served_by call w rs) call w co) (host_alone (served_by call (W w) (rs ++ more)) call (W w) co)
  alone_served call w co [] e = ((λ r rest is. subst (λ ms. taken_in (host_alone (served_by call (W w) ms) call (W w) co) ≡ record { call = call; reply = r } ∷ w.served) (sym is) (alone_takes call r rest (W w) co)), (same_self w, e))
  alone_served call w co (r ∷ rs) e = by_fit (fits_type call.result r.value)
    where
      by_written : (o : Option (Option Memory)) → Turns more w (host_alone (if_written call r rs w o) call w co) (host_alone (if_written call r (rs ++ more) (W w) o) call (W w) co)
      by_written None = (refl, same_self w)
      by_written (Some memory) = (refl, record { count = omega (arith, ap length e); more_served = record { call = call; reply = r } ∷ []; served = refl })

      by_fit : (b : Bool) → Turns more w (host_alone (if_fits call r rs w b) call w co) (host_alone (if_fits call r (rs ++ more) (W w) b) call (W w) co)
      by_fit false = (refl, same_self w)
      by_fit true = by_written (after_writes w.memory r.writes)

  alone_told : (o : Option CollectorCall) (call : HostCall) (w : World) (co : List CollectorCall) → Turns more w (host_alone (told_or o call w) call w co) (host_alone (told_or o call (W w)) call (W w) co)
  alone_told None call w co = alone_served call w co w.replies refl
  alone_told (Some k) call w co = (refl, same_self w)

  alone_turns : (n : ℕ) (call : HostCall) (w : World) (co : List CollectorCall) → RunTurns more w (run_alone M n call w co) (run_alone M n call (W w) co)
  alone_turns zero call w co = (refl, same_self w)
  alone_turns (suc n) call w co =
      let o = if M.collects then collector_of M.program.module_ call else None in
      over w (host_alone (told_or o call w) call w co) (host_alone (told_or o call (W w)) call (W w) co) n (alone_told o call w co)

  -- ---- a function

  pub function_turns : (n f : ℕ) (o : Option Function) (args : List Value) (w : World) (co : List CollectorCall) → RunTurns more w (run_function M n f o args w co) (run_function M n f o args (W w) co)
  function_turns n f None args w co = (refl, tt)
  function_turns n f (Some (imported i type)) args w co = alone_turns n (host_call f i type args) w co
  function_turns n f (Some (defined body tree type)) args w co = steps_turn n (config (entered f body tree type args ∷ []) w co)
