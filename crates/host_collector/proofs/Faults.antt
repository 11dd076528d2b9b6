-- The answers of closing.
use Rattle.std.proofs.Common.{◌≡◌, ℕ, ◌↔◌, ap, subst, ◌∙◌, List, Result, Ok, Err, IfOk, map, Option}
use Rattle.wasm_syntax.specs.declared.host.CollectorCall.{CollectorCall}
use Rattle.dump_format.specs.declared.dump.Dump.{Dump}
use Rattle.dump_write.specs.Image.{Dump as Image}
use Rattle.dump_write.specs.ImageBytes.{frame_of}
use Rattle.dump_write.specs.Collected.{Whole, collected_dump}
use Rattle.host_collector.specs.Torn.{IsFirstOffending}
use Rattle.host_collector.specs.declared.closing.CloseFault.{CloseFault}
use Rattle.host_collector.specs.declared.closing.CloseFault.TheVariants.{Torn, NoMemory}
use Rattle.host_collector.specs.declared.progress.Progress.TheVariants.{First}
use Rattle.host_collector.specs.declared.gathered.Gathered.{Gathered}
use Rattle.host_collector.specs.inner.Progress.{judged}
use Rattle.host_collector.specs.inner.Gathering.{nothing, gathered}
use Rattle.host_collector.proofs.Judged.{offends, refuses}
use Rattle.host_collector.proofs.Gathers.{whole_gives}

err_is : (r : Result ℕ ℕ) (a b : ℕ) → r ≡ Err a → r ≡ Err b → a ≡ b
err_is r a b e f = cc

torn_is : {T : Type 0} (r : Result T CloseFault) (a b : ℕ) → r ≡ Err (Torn a) → r ≡ Err (Torn b) → a ≡ b
torn_is r a b e f = cc

pub torn_exactly : {T : Type 0} (calls : List CollectorCall) (r : Result T CloseFault) (at : ℕ) → r ≡ Err (Torn at) → judged 0 (First 0) calls ≡ Err at → (a : ℕ) → (r ≡ Err (Torn a)) ↔ IsFirstOffending calls a
torn_exactly calls r at is e a = (
  λ f. subst (λ (n : ℕ). IsFirstOffending calls n) (torn_is r at a is f) (offends calls at e),
  λ x. is ∙ ap (λ (n : ℕ). Err (Torn n)) (err_is (judged 0 (First 0) calls) at a e (refuses calls a x)),
)

pub whole_not_torn : {T : Type 0} (calls : List CollectorCall) (r : Result T CloseFault) (x : T) → r ≡ Ok x → Whole calls → (a : ℕ) → (r ≡ Err (Torn a)) ↔ IsFirstOffending calls a
whole_not_torn calls r x is w a = (λ f. absurd (cc), λ o. absurd (o.torn w))

pub wanting_not_torn : {T : Type 0} (calls : List CollectorCall) (r : Result T CloseFault) → r ≡ Err NoMemory → Whole calls → (a : ℕ) → (r ≡ Err (Torn a)) ↔ IsFirstOffending calls a
wanting_not_torn calls r is w a = (λ f. absurd (cc), λ o. absurd (o.torn w))

-- what was gathered of whole calls
pub record GivesDump (calls : List CollectorCall) (w : Whole calls) (g : Gathered) (memory : Option (List ℕ)) (name : List ℕ) : Type 0 where
  pub frames_are : g.frames ≡ map frame_of (map (λ e. e.shown) w.entries)
  pub dump_is : record { name = name; frames = map (λ e. e.shown) w.entries; globals = g.values; memory = memory } ≡ collected_dump w memory name

pub gives_dump : (calls : List CollectorCall) (w : Whole calls) (g : Gathered) (memory : Option (List ℕ)) (name : List ℕ) → g ≡ gathered nothing calls → GivesDump calls w g memory name
gives_dump calls w g memory name e =
    let same = e ∙ whole_gives calls w in
    let globals = ap (λ (h : Gathered). h.values) same in
    record {
      frames_are = ap (λ (h : Gathered). h.frames) same;
      dump_is = λ i. record { name = name; frames = map (λ e. e.shown) w.entries; globals = globals i; memory = memory };
    }

pub of_image : {E : Type 0} (P : Image → Dump → Type 0) (r : Result Dump E) (i j : Image) → i ≡ j → IfOk r (λ d. P i d) → IfOk r (λ d. P j d)
of_image P r i j e h = subst (λ (k : Image). IfOk r (λ d. P k d)) e h
