-- With more replies behind those that are left a step is the same, unless it finds none: then it asks for the first of them.
use Rattle.std.proofs.Common.{◌≡◌, ℕ, zero, suc, ◌+◌, Bool, true, false, nat_lt, List, [], ◌∷◌, ◌++◌, length, reverse, slice_get, if◌then◌else◌, Option, Some, None, Result, Ok, Err, refl, sym, ap, subst, arith, subst₂}
use Rattle.std.specs.Prelude.{◌/◌, ◌%◌, ◌==◌, slice_set}
use Rattle.int_ops.specs.declared.operators.ArithTrap.{ArithTrap}
use Rattle.linear_memory.specs.Memory.{Memory, pages, load, put, grow, copy, fill, to_bytes}
use Rattle.wasm_syntax.specs.declared.value.ValType.{ValType}
use Rattle.wasm_syntax.specs.declared.value.ValType.TheVariants.{I32, I64}
use Rattle.wasm_syntax.specs.declared.value.Value.{Value}
use Rattle.wasm_syntax.specs.declared.value.Value.TheVariants as values
use Rattle.wasm_syntax.specs.declared.instruction.Basic.{Basic}
use Rattle.wasm_syntax.specs.declared.parts.FuncType.{FuncType}
use Rattle.wasm_syntax.specs.declared.host.HostCall.{HostCall}
use Rattle.wasm_syntax.specs.declared.host.Reply.{Reply}
use Rattle.wasm_syntax.specs.declared.host.Served.{Served}
use Rattle.wasm_syntax.specs.declared.host.CollectorCall.{CollectorCall}
use Rattle.wasm_syntax.specs.Tree.{Jump, Unreachable, Br, BrIf, BrTable, Return, Call, CallIndirect, Nodes, stop, basic, jump, block, loop, choose}
use Rattle.wasm_syntax.specs.Module.{Function, imported, defined, function_at, same_types}
use Rattle.wasm_syntax.specs.Numbers.{types, type_of, same_type, number, value, modulo, bool_number, compare, binary}
use Rattle.wasm_syntax.specs.Access.{load_type, load_bits, loaded, store_type, store_bits}
use Rattle.wasm_syntax.specs.Host.{World, collector_of, after_writes, fits_type, if_written, if_fits, served_by, told_or}
use Rattle.wasm_syntax.specs.Effect.{Effect, gives, fails, unfit, effect, takes, when, with_some, on_none, on_any, on_one, on_two, on_three, on_choice, over, in_bounds, divides, grown, address, with_globals, with_memory}
use Rattle.wasm_syntax.specs.Machine.{Engine, Frame, Label, Config, Stepped, next, ends, traps, no_reply, bad_reply, stuck, Cut, short, parts, cut, Went, inside, outside, nowhere, arrive, branch, leave, out_some, top, carry, same_carry, pick, entered, function_type, host_call, goes_to, deliver, moved, host, enters, applied, applied_if, calls_on, calls, calls_if, fits_entry, calls_entry, calls_typed, calls_indirect, branch_if, moved_if, branch_table, jumps, affects, does, chooses, runs, in_frame, steps, step}
use Rattle.wasm_syntax.proofs.Classes.{OneByOne, computes, is_nop, is_drop, is_select, is_local_get, is_local_set, is_local_tee, is_global_get, is_global_set, is_load, is_store, is_size, is_grow, is_copy, is_fill, is_const, is_compare, is_binary, one_by_one}

-- ---- more replies behind those that are left

abbrev pub world_more : List Reply → World → World
world_more more w = record { globals = w.globals; memory = w.memory; table = w.table; replies = w.replies ++ more; served = w.served }

abbrev pub config_more : List Reply → Config → Config
config_more more c = record { frames = c.frames; world = world_more more c.world; collected = c.collected }

-- the calls that took a reply, the newest first, one whose reply does not fit among them
abbrev pub taken_in : Stepped → List Served
taken_in (next c) = c.world.served
taken_in (ends w vs co) = w.served
taken_in (traps k c) = c.world.served
taken_in (no_reply call c) = c.world.served
taken_in (bad_reply call reply c) = record { call = call; reply = reply } ∷ c.world.served
taken_in stuck = []

-- with more replies the same is done, and where there was no reply the first one is taken
abbrev pub Goes : List Reply → Stepped → Stepped → Type 0
Goes more (next c) s = s ≡ next (config_more more c)
Goes more (ends w vs co) s = s ≡ ends (world_more more w) vs co
Goes more (traps k c) s = s ≡ traps k (config_more more c)
Goes more (no_reply call c) s = (r : Reply) (rest : List Reply) → more ≡ r ∷ rest → taken_in s ≡ record { call = call; reply = r } ∷ c.world.served
Goes more (bad_reply call r c) s = s ≡ bad_reply call r (config_more more c)
Goes more stuck s = s ≡ stuck

-- as many replies are taken as there are fewer, and what was served stays
pub record Same (w w' : World) : Type 0 where
  pub count : length w'.served + length w'.replies ≡ length w.served + length w.replies
  pub more_served : List Served
  pub served : w'.served ≡ more_served ++ w.served

pub same_self : (w : World) → Same w w
same_self w = record { count = refl; more_served = []; served = refl }

abbrev pub Keeps : World → Stepped → Type 0
Keeps w (next c) = Same w c.world
Keeps w (ends w' vs co) = Same w w'
Keeps w (traps k c) = Same w c.world
Keeps w (no_reply call c) = Same w c.world × (c.world.replies ≡ [])
Keeps w (bad_reply call r c) = Same w c.world
Keeps w stuck = Unit {0}

abbrev pub Turns : List Reply → World → Stepped → Stepped → Type 0
Turns more w s s' = Goes more s s' × Keeps w s

-- ---- effects

abbrev Affects : List Reply → World → Effect → Effect → Type 0
Affects more w (gives w' ls vs) e = (e ≡ gives (world_more more w') ls vs) × Same w w'
Affects more w (fails kind) e = e ≡ fails kind
Affects more w unfit e = e ≡ unfit

-- the parts of an effect, each as a function of the world
module _ (more : List Reply) (w : World) where
  abbrev V : World
  V = world_more more w

  abbrev R : Effect → Effect → Type 0
  R = Affects more w

  when_more : (b : Bool) (e : World → Effect) → R (e w) (e V) → R (when b (e w)) (when b (e V))
  when_more false e h = refl
  when_more true e h = h

  some_more : {A : Type 0} (o : Option A) (e : World → A → Effect) → ((x : A) → R (e w x) (e V x)) → R (with_some o (e w)) (with_some o (e V))
  some_more None e h = refl
  some_more (Some x) e h = h x

  bounds_more : {A : Type 0} (o : Option A) (e : World → A → Effect) → ((x : A) → R (e w x) (e V x)) → R (in_bounds o (e w)) (in_bounds o (e V))
  bounds_more None e h = refl
  bounds_more (Some x) e h = h x

  divides_more : (o : Result ℕ ArithTrap) (e : World → ℕ → Effect) → ((x : ℕ) → R (e w x) (e V x)) → R (divides o (e w)) (divides o (e V))
  divides_more (Ok n) e h = h n
  divides_more (Err trap) e h = refl

  over_more : (o : Option Value) (v : Value) (e : World → Effect) → R (e w) (e V) → R (over o v (e w)) (over o v (e V))
  over_more None v e h = refl
  over_more (Some old) v e h = when_more (same_type (type_of old) (type_of v)) e h

  none_more : (vs : List Value) (e : World → Effect) → R (e w) (e V) → R (on_none (e w) vs) (on_none (e V) vs)
  none_more [] e h = h
  none_more (v ∷ vs) e h = refl

  any_more : (vs : List Value) (e : World → Value → Effect) → ((v : Value) → R (e w v) (e V v)) → R (on_any (e w) vs) (on_any (e V) vs)
  any_more [] e h = refl
  any_more (v ∷ []) e h = h v
  any_more (v ∷ u ∷ vs) e h = refl

  number_more : (t : ValType) (vs : List Value) (e : World → ℕ → Effect) → ((n : ℕ) → R (e w n) (e V n)) → R (on_one t (e w) vs) (on_one t (e V) vs)
  number_more t [] e h = refl
  number_more t (v ∷ []) e h = some_more (number t v) e h
  number_more t (v ∷ u ∷ vs) e h = refl

  two_more : (t u : ValType) (vs : List Value) (e : World → ℕ → ℕ → Effect) → ((n k : ℕ) → R (e w n k) (e V n k)) → R (on_two t u (e w) vs) (on_two t u (e V) vs)
  two_more t u [] e h = refl
  two_more t u (v ∷ []) e h = refl
  two_more t u (v ∷ x ∷ []) e h = some_more (number t v) (λ z n. with_some (number u x) (e z n)) (λ n. some_more (number u x) (λ z. e z n) (h n))
  two_more t u (v ∷ x ∷ y ∷ vs) e h = refl

  three_more : (vs : List Value) (e : World → ℕ → ℕ → ℕ → Effect) → ((a b c : ℕ) → R (e w a b c) (e V a b c)) → R (on_three (e w) vs) (on_three (e V) vs)
  three_more [] e h = refl
  three_more (x ∷ []) e h = refl
  three_more (x ∷ y ∷ []) e h = refl
  three_more (x ∷ y ∷ z ∷ []) e h =
      some_more (number I32 x) (λ u a. with_some (number I32 y) (λ b. with_some (number I32 z) (e u a b)))
      (λ a. some_more (number I32 y) (λ u b. with_some (number I32 z) (e u a b)) (λ b. some_more (number I32 z) (λ u. e u a b) (h a b)))
  three_more (x ∷ y ∷ z ∷ u ∷ vs) e h = refl

  choice_more : (vs : List Value) (e : World → ℕ → Value → Value → Effect) → ((n : ℕ) (b a : Value) → R (e w n b a) (e V n b a)) → R (on_choice (e w) vs) (on_choice (e V) vs)
  choice_more [] e h = refl
  choice_more (x ∷ []) e h = refl
  choice_more (x ∷ y ∷ []) e h = refl
  choice_more (x ∷ y ∷ z ∷ []) e h =
      some_more (number I32 x) (λ u n. when (same_type (type_of z) (type_of y)) (e u n y z)) (λ n. when_more (same_type (type_of z) (type_of y)) (λ u. e u n y z) (h n y z))
  choice_more (x ∷ y ∷ z ∷ u ∷ vs) e h = refl

  abbrev same : Same w w
  same = record { count = refl; more_served = []; served = refl }

  grown_more : (o : Option Memory) (old : ℕ) (ls : List Value) → R (grown o w old ls) (grown o V old ls)
  grown_more None old ls = (refl, same)
  grown_more (Some m) old ls = (refl, record { count = refl; more_served = []; served = refl })

  -- another memory, or other globals
  memory_set : (m : Memory) (ls vs : List Value) → R (gives (with_memory w m) ls vs) (gives (with_memory V m) ls vs)
  memory_set m ls vs = (refl, record { count = refl; more_served = []; served = refl })

  globals_set : (gs ls vs : List Value) → R (gives (with_globals w gs) ls vs) (gives (with_globals V gs) ls vs)
  globals_set gs ls vs = (refl, record { count = refl; more_served = []; served = refl })

  more_as : (i : Basic) → OneByOne i → (ls vs : List Value) → R (effect i w ls vs) (effect i V ls vs)
  more_as i is_nop ls vs = none_more vs (λ u. gives u ls []) (refl, same)
  more_as i is_drop ls vs = any_more vs (λ u v. gives u ls []) (λ v. (refl, same))
  more_as i is_select ls vs = choice_more vs (λ u n b a. gives u ls ((if n == 0 then b else a) ∷ [])) (λ n b a. (refl, same))
  more_as i (is_local_get x) ls vs = none_more vs (λ u. with_some (slice_get ls x) (λ v. gives u ls (v ∷ []))) (some_more (slice_get ls x) (λ u v. gives u ls (v ∷ [])) (λ v. (refl, same)))
  more_as i (is_local_set x) ls vs =
      any_more vs (λ u v. over (slice_get ls x) v (gives u (slice_set ls x v) [])) (λ v. over_more (slice_get ls x) v (λ u. gives u (slice_set ls x v) []) (refl, same))
  more_as i (is_local_tee x) ls vs =
      any_more vs (λ u v. over (slice_get ls x) v (gives u (slice_set ls x v) (v ∷ []))) (λ v. over_more (slice_get ls x) v (λ u. gives u (slice_set ls x v) (v ∷ [])) (refl, same))
  more_as i (is_global_get x) ls vs =
      none_more vs (λ u. with_some (slice_get u.globals x) (λ v. gives u ls (v ∷ []))) (some_more (slice_get w.globals x) (λ u v. gives u ls (v ∷ [])) (λ v. (refl, same)))
  more_as i (is_global_set x) ls vs =
      any_more vs (λ u v. over (slice_get u.globals x) v (gives (with_globals u (slice_set u.globals x v)) ls []))
      (λ v. over_more (slice_get w.globals x) v (λ u. gives (with_globals u (slice_set u.globals x v)) ls []) (globals_set (slice_set w.globals x v) ls []))
  more_as i (is_load l align offset) ls vs =
      number_more I32 vs (λ u a. with_some u.memory (λ m. in_bounds (load m (address a offset) (load_bits l / 8)) (λ n. gives u ls (value (load_type l) (loaded l n) ∷ []))))
      (λ a. some_more w.memory (λ u m. in_bounds (load m (address a offset) (load_bits l / 8)) (λ n. gives u ls (value (load_type l) (loaded l n) ∷ [])))
      (λ m. bounds_more (load m (address a offset) (load_bits l / 8)) (λ u n. gives u ls (value (load_type l) (loaded l n) ∷ [])) (λ n. (refl, same))))
  more_as i (is_store l align offset) ls vs =
      two_more (store_type l) I32 vs (λ u n a. with_some u.memory (λ m. in_bounds (put m (address a offset) (to_bytes (store_bits l / 8) n)) (λ m'. gives (with_memory u m') ls [])))
      (λ n a. some_more w.memory (λ u m. in_bounds (put m (address a offset) (to_bytes (store_bits l / 8) n)) (λ m'. gives (with_memory u m') ls []))
      (λ m. bounds_more (put m (address a offset) (to_bytes (store_bits l / 8) n)) (λ u m'. gives (with_memory u m') ls []) (λ m'. memory_set m' ls [])))
  more_as i is_size ls vs =
      none_more vs (λ u. with_some u.memory (λ m. gives u ls (values.I32 (pages m) ∷ []))) (some_more w.memory (λ u m. gives u ls (values.I32 (pages m) ∷ [])) (λ m. (refl, same)))
  more_as i is_grow ls vs =
      number_more I32 vs (λ u n. with_some u.memory (λ m. grown (grow m n) u (pages m) ls)) (λ n. some_more w.memory (λ u m. grown (grow m n) u (pages m) ls) (λ m. grown_more (grow m n) (pages m) ls))
  more_as i is_copy ls vs =
      three_more vs (λ u n from to. with_some u.memory (λ m. in_bounds (copy m (modulo I32 to) (modulo I32 from) (modulo I32 n)) (λ m'. gives (with_memory u m') ls [])))
      (λ n from to. some_more w.memory (λ u m. in_bounds (copy m (modulo I32 to) (modulo I32 from) (modulo I32 n)) (λ m'. gives (with_memory u m') ls []))
      (λ m. bounds_more (copy m (modulo I32 to) (modulo I32 from) (modulo I32 n)) (λ u m'. gives (with_memory u m') ls []) (λ m'. memory_set m' ls [])))
  more_as i is_fill ls vs =
      three_more vs (λ u n byte to. with_some u.memory (λ m. in_bounds (fill m (modulo I32 to) (byte % 256) (modulo I32 n)) (λ m'. gives (with_memory u m') ls [])))
      (λ n byte to. some_more w.memory (λ u m. in_bounds (fill m (modulo I32 to) (byte % 256) (modulo I32 n)) (λ m'. gives (with_memory u m') ls []))
      (λ m. bounds_more (fill m (modulo I32 to) (byte % 256) (modulo I32 n)) (λ u m'. gives (with_memory u m') ls []) (λ m'. memory_set m' ls [])))
  more_as i (is_const v) ls vs = none_more vs (λ u. gives u ls (v ∷ [])) (refl, same)
  more_as i (is_compare t op) ls vs = two_more t t vs (λ u b a. gives u ls (values.I32 (bool_number (compare t op a b)) ∷ [])) (λ b a. (refl, same))
  more_as i (is_binary t op) ls vs =
      two_more t t vs (λ u b a. divides (binary t op a b) (λ n. gives u ls (value t n ∷ []))) (λ b a. divides_more (binary t op a b) (λ u n. gives u ls (value t n ∷ [])) (λ n. (refl, same)))
  more_as i (computes o) ls vs =
      subst₂ R (sym (o.effect_is w ls vs)) (sym (o.effect_is V ls vs)) (number_more o.from vs (λ u a. gives u ls (value o.to (o.result a) ∷ [])) (λ a. (refl, same)))

  effect_more : (i : Basic) (ls vs : List Value) → R (effect i w ls vs) (effect i V ls vs)
  effect_more i ls vs = more_as i (one_by_one i) ls vs

-- ---- steps

module _ (M : Engine) (more : List Reply) where
  -- the parts of a step turn alike in these worlds
  abbrev T : World → Stepped → Stepped → Type 0
  T = Turns more

  abbrev W : World → World
  W = world_more more

  goes_to_more : (x : Went) (f : Frame) (fs : List Frame) (w : World) (co : List CollectorCall) → T w (goes_to M x f fs w co) (goes_to M x f fs (W w) co)
  goes_to_more (inside ls) f fs w co = (refl, same_self w)
  goes_to_more (outside vs) f fs w co = (refl, tt)
  goes_to_more nowhere f fs w co = (refl, tt)

  deliver_more : (vs : List Value) (fs : List Frame) (w : World) (co : List CollectorCall) → T w (deliver M vs fs w co) (deliver M vs fs (W w) co)
  deliver_more vs [] w co = (refl, same_self w)
  deliver_more vs (f ∷ fs) w co = goes_to_more (arrive vs f.labels) f fs w co

  moved_more : (x : Went) (f : Frame) (fs : List Frame) (w : World) (co : List CollectorCall) → T w (moved M x f fs w co) (moved M x f fs (W w) co)
  moved_more (inside ls) f fs w co = (refl, same_self w)
  moved_more (outside vs) f fs w co = deliver_more vs fs w co
  moved_more nowhere f fs w co = (refl, tt)

  module _ (f : Frame) (l : Label) (ls : List Label) (fs : List Frame) (w : World) (co : List CollectorCall) where
    -- the first reply is taken, fitting or not
    takes_next : (call : HostCall) (r : Reply) (rest : List Reply) (below : List Value) (nodes : Nodes) (v : World) → taken_in (host M (served_by call v (r ∷ rest)) call below nodes f l ls fs v co) ≡ record { call = call; reply = r } ∷ v.served
    takes_next call r rest below nodes v = by_fit (fits_type call.result r.value)
      where
        by_written : (o : Option (Option Memory)) → taken_in (host M (if_written call r rest v o) call below nodes f l ls fs v co) ≡ record { call = call; reply = r } ∷ v.served
        by_written None = refl
        by_written (Some memory) = refl

        by_fit : (b : Bool) → taken_in (host M (if_fits call r rest v b) call below nodes f l ls fs v co) ≡ record { call = call; reply = r } ∷ v.served
        by_fit false = refl
        by_fit true = by_written (after_writes v.memory r.writes)

    served_more : (call : HostCall) (below : List Value) (nodes : Nodes) (rs : List Reply) → w.replies ≡ rs → T w (host M (served_by call w rs) call below nodes f l ls fs w co) (host M (served_by call (W w) (rs ++ more)) call below nodes f l ls fs (W w) co)
    served_more call below nodes [] e = ((λ r rest is. subst (λ ms. taken_in (host M (served_by call (W w) ms) call below nodes f l ls fs (W w) co) ≡ record { call = call; reply = r } ∷ w.served) (sym is) (takes_next call r rest below nodes (W w))), (same_self w, e))
    served_more call below nodes (r ∷ rs) e = by_fit (fits_type call.result r.value)
      where
        by_written : (o : Option (Option Memory)) → T w (host M (if_written call r rs w o) call below nodes f l ls fs w co) (host M (if_written call r (rs ++ more) (W w) o) call below nodes f l ls fs (W w) co)
        by_written None = (refl, same_self w)
        by_written (Some memory) = (refl, record { count = omega (arith, ap length e); more_served = record { call = call; reply = r } ∷ []; served = refl })

        by_fit : (b : Bool) → T w (host M (if_fits call r rs w b) call below nodes f l ls fs w co) (host M (if_fits call r (rs ++ more) (W w) b) call below nodes f l ls fs (W w) co)
        by_fit false = (refl, same_self w)
        by_fit true = by_written (after_writes w.memory r.writes)

    told_more : (o : Option CollectorCall) (call : HostCall) (below : List Value) (nodes : Nodes) → T w (host M (told_or o call w) call below nodes f l ls fs w co) (host M (told_or o call (W w)) call below nodes f l ls fs (W w) co)
    told_more None call below nodes = served_more call below nodes w.replies refl
    told_more (Some k) call below nodes = (refl, same_self w)

    enters_more : (b : Bool) (new : Frame) (below : List Value) (at : ℕ) (nodes : Nodes) → T w (enters M b new below at nodes f l ls fs w co) (enters M b new below at nodes f l ls fs (W w) co)
    enters_more false new below at nodes = (refl, same_self w)
    enters_more true new below at nodes = (refl, same_self w)

    applied_more : (fn : Function) (g : ℕ) (args below : List Value) (at : ℕ) (nodes : Nodes) → T w (applied M fn g args below at nodes f l ls fs w co) (applied M fn g args below at nodes f l ls fs (W w) co)
    applied_more (imported import type) g args below at nodes = told_more (if M.collects then collector_of M.program.module_ (host_call g import type args) else None) (host_call g import type args) below nodes
    applied_more (defined body tree type) g args below at nodes = enters_more (nat_lt (suc (length fs)) M.depth) (entered g body tree type args) below at nodes

    applied_if_more : (b : Bool) (fn : Function) (g : ℕ) (args below : List Value) (at : ℕ) (nodes : Nodes) → T w (applied_if M b fn g args below at nodes f l ls fs w co) (applied_if M b fn g args below at nodes f l ls fs (W w) co)
    applied_if_more false fn g args below at nodes = (refl, tt)
    applied_if_more true fn g args below at nodes = applied_more fn g args below at nodes

    calls_on_more : (fn : Function) (g : ℕ) (x : Cut) (at : ℕ) (nodes : Nodes) → T w (calls_on M fn g x at nodes f l ls fs w co) (calls_on M fn g x at nodes f l ls fs (W w) co)
    calls_on_more fn g short at nodes = (refl, tt)
    calls_on_more fn g (parts vs below) at nodes = applied_if_more (same_types (types (reverse vs)) (function_type fn).params) fn g (reverse vs) below at nodes

    calls_more : (o : Option Function) (g : ℕ) (vs : List Value) (at : ℕ) (nodes : Nodes) → T w (calls M o g vs at nodes f l ls fs w co) (calls M o g vs at nodes f l ls fs (W w) co)
    calls_more None g vs at nodes = (refl, tt)
    calls_more (Some fn) g vs at nodes = calls_on_more fn g (cut (length (function_type fn).params) vs) at nodes

    calls_if_more : (o : Option Bool) (g : ℕ) (vs : List Value) (at : ℕ) (nodes : Nodes) → T w (calls_if M o g vs at nodes f l ls fs w co) (calls_if M o g vs at nodes f l ls fs (W w) co)
    calls_if_more None g vs at nodes = (refl, tt)
    calls_if_more (Some false) g vs at nodes = (refl, same_self w)
    calls_if_more (Some true) g vs at nodes = calls_more (function_at M.program g) g vs at nodes

    calls_entry_more : (q : Option (Option ℕ)) (type : FuncType) (vs : List Value) (at : ℕ) (nodes : Nodes) → T w (calls_entry M q type vs at nodes f l ls fs w co) (calls_entry M q type vs at nodes f l ls fs (W w) co)
    calls_entry_more None type vs at nodes = (refl, same_self w)
    calls_entry_more (Some None) type vs at nodes = (refl, same_self w)
    calls_entry_more (Some (Some g)) type vs at nodes = calls_if_more (fits_entry M type g) g vs at nodes

    calls_typed_more : (o : Option FuncType) (q : Option (Option ℕ)) (vs : List Value) (at : ℕ) (nodes : Nodes) → T w (calls_typed M o q vs at nodes f l ls fs w co) (calls_typed M o q vs at nodes f l ls fs (W w) co)
    calls_typed_more None q vs at nodes = (refl, tt)
    calls_typed_more (Some type) q vs at nodes = calls_entry_more q type vs at nodes

    calls_indirect_more : (t : ℕ) (vs : List Value) (at : ℕ) (nodes : Nodes) → T w (calls_indirect M t vs at nodes f l ls fs w co) (calls_indirect M t vs at nodes f l ls fs (W w) co)
    calls_indirect_more t [] at nodes = (refl, tt)
    calls_indirect_more t (values.I32 n ∷ vs) at nodes = calls_typed_more (slice_get M.program.module_.types t) (slice_get w.table n) vs at nodes
    calls_indirect_more t (values.I64 n ∷ vs) at nodes = (refl, tt)

    branch_if_more : (n : ℕ) (vs : List Value) (nodes : Nodes) → T w (branch_if M n vs nodes f l ls fs w co) (branch_if M n vs nodes f l ls fs (W w) co)
    branch_if_more n [] nodes = (refl, tt)
    branch_if_more n (values.I32 zero ∷ vs) nodes = (refl, same_self w)
    branch_if_more n (values.I32 (suc c) ∷ vs) nodes = moved_more (branch n vs (l ∷ ls)) f fs w co
    branch_if_more n (values.I64 c ∷ vs) nodes = (refl, tt)

    moved_if_more : (b : Bool) (x : Went) → T w (moved_if M b x f fs w co) (moved_if M b x f fs (W w) co)
    moved_if_more false x = (refl, tt)
    moved_if_more true x = moved_more x f fs w co

    branch_table_more : (ts : List ℕ) (d : ℕ) (vs : List Value) → T w (branch_table M ts d vs f l ls fs w co) (branch_table M ts d vs f l ls fs (W w) co)
    branch_table_more ts d [] = (refl, tt)
    branch_table_more ts d (values.I32 n ∷ vs) = moved_if_more (same_carry (carry (pick ts d n) (l ∷ ls)) (carry d (l ∷ ls))) (branch (pick ts d n) vs (l ∷ ls))
    branch_table_more ts d (values.I64 n ∷ vs) = (refl, tt)

    jumps_more : (j : Jump) (at : ℕ) (nodes : Nodes) → T w (jumps M j at nodes f l ls fs w co) (jumps M j at nodes f l ls fs (W w) co)
    jumps_more Unreachable at nodes = (refl, same_self w)
    jumps_more (Br n) at nodes = moved_more (branch n l.operands (l ∷ ls)) f fs w co
    jumps_more (BrIf n) at nodes = branch_if_more n l.operands nodes
    jumps_more (BrTable ts d) at nodes = branch_table_more ts d l.operands
    jumps_more Return at nodes = moved_more (out_some (top f.result l.operands)) f fs w co
    jumps_more (Call g) at nodes = calls_more (function_at M.program g) g l.operands at nodes
    jumps_more (CallIndirect t) at nodes = calls_indirect_more t l.operands at nodes

    affects_more : (e e' : Effect) (below : List Value) (nodes : Nodes) → Affects more w e e' → T w (affects M e below nodes f l ls fs w co) (affects M e' below nodes f l ls fs (W w) co)
    affects_more (gives w' locals vs) e' below nodes (is, same) = subst (λ x. T w (affects M (gives w' locals vs) below nodes f l ls fs w co) (affects M x below nodes f l ls fs (W w) co)) (sym is) (refl, same)
    affects_more (fails kind) e' below nodes is = subst (λ x. T w (affects M (fails kind) below nodes f l ls fs w co) (affects M x below nodes f l ls fs (W w) co)) (sym is) (refl, same_self w)
    affects_more unfit e' below nodes is = subst (λ x. T w (affects M unfit below nodes f l ls fs w co) (affects M x below nodes f l ls fs (W w) co)) (sym is) (refl, tt)

    does_more : (i : Basic) (x : Cut) (nodes : Nodes) → T w (does M i x nodes f l ls fs w co) (does M i x nodes f l ls fs (W w) co)
    does_more i short nodes = (refl, tt)
    does_more i (parts vs below) nodes = affects_more (effect i w f.locals vs) (effect i (W w) f.locals vs) below nodes (effect_more more w i f.locals vs)

    chooses_more : (vs : List Value) (t : Option ValType) (a : Nodes) (else_at : Option ℕ) (b : Nodes) (end : ℕ) (nodes : Nodes) → T w (chooses M vs t a else_at b end nodes f l ls fs w co) (chooses M vs t a else_at b end nodes f l ls fs (W w) co)
    chooses_more [] t a else_at b end nodes = (refl, tt)
    chooses_more (values.I32 zero ∷ vs) t a else_at b end nodes = (refl, same_self w)
    chooses_more (values.I32 (suc c) ∷ vs) t a else_at b end nodes = (refl, same_self w)
    chooses_more (values.I64 c ∷ vs) t a else_at b end nodes = (refl, tt)

    runs_more : (nodes : Nodes) → T w (runs M nodes f l ls fs w co) (runs M nodes f l ls fs (W w) co)
    runs_more stop = moved_more (leave l.kind l.operands ls) f fs w co
    runs_more (basic at i rest) = does_more i (cut (takes i) l.operands) rest
    runs_more (jump at j rest) = jumps_more j at rest
    runs_more (block at t body end rest) = (refl, same_self w)
    runs_more (loop at t body end rest) = (refl, same_self w)
    runs_more (choose at t a else_at b end rest) = chooses_more l.operands t a else_at b end rest

  in_frame_more : (labels : List Label) (f : Frame) (fs : List Frame) (w : World) (co : List CollectorCall) → T w (in_frame M labels f fs w co) (in_frame M labels f fs (W w) co)
  in_frame_more [] f fs w co = (refl, tt)
  in_frame_more (l ∷ ls) f fs w co = runs_more f l ls fs w co l.nodes

  steps_more : (fs : List Frame) (w : World) (co : List CollectorCall) → T w (steps M fs w co) (steps M fs (W w) co)
  steps_more [] w co = (refl, tt)
  steps_more (f ∷ fs) w co = in_frame_more f.labels f fs w co

  pub step_more : (c : Config) → T c.world (step M c) (step M (config_more more c))
  step_more c = steps_more c.frames c.world c.collected
