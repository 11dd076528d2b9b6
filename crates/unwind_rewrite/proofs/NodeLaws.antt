-- What basic instructions, blocks and the ends of lists come to.
use Rattle.std.proofs.Common.{◌≡◌, ℕ, suc, ◌≤◌, List, [], ◌∷◌, length, option_map, Bool, true, Option, Some, None, refl, sym, ap, subst, ◌∙◌, arith}
use Rattle.wasm_syntax.specs.declared.value.ValType.{ValType}
use Rattle.wasm_syntax.specs.declared.instruction.Basic.{Basic}
use Rattle.wasm_syntax.specs.declared.instruction.Instr.{Instr}
use Rattle.wasm_syntax.specs.declared.instruction.Instr.TheVariants as instrs
use Rattle.wasm_syntax.specs.Tree.{Nodes, stop, choose, block, loop, Placed, Plain, Opens as BlockOpens, OpensLoop, OpensIf, Else, End, item_of}
use Rattle.rewrite_bodies.specs.calls.Slots.{Place, Spilled, Ctx, less, after_plain}
use Rattle.rewrite_bodies.specs.calls.Pieces.{keep, spill}
use Rattle.rewrite_bodies.specs.calls.Rewrite.{plain}
use Rattle.rewrite_bodies.specs.calls.Typed.{end_gives}
use Rattle.rewrite_code.specs.calls.Writing.{Written, Emits, Opens, Alternates}
use Rattle.operand_spill.specs.declared.labels.Label.{Label}
use Rattle.operand_spill.specs.declared.labels.Label.TheVariants as kept
use Rattle.operand_spill.specs.declared.labels.OpenBlock.{OpenBlock}
use Rattle.operand_spill.specs.calls.Labels.{info}
use Rattle.operand_spill.specs.calls.Walking.{Walking, with_places, opening, alternating, closing}
use Rattle.operand_spill.specs.calls.Standing.{depth_in, Rewrites, Left}
use Rattle.operand_spill.proofs.Steps.{step_basic, step_block, step_loop, step_if, step_end, step_else, alternate, close}
use Rattle.unwind_rewrite.specs.calls.Bodies.{OpensBoth, ClosesBefore}
use Rattle.operand_spill.specs.declared.flow.Flow.TheVariants.{Next, Ends}
use Rattle.unwind_rewrite.specs.calls.Points.{EndsAt, Advances, IsBehind, Resumes}

pub performed : (C : Ctx) (p : Bool) (o : ℕ) (i : Basic) (w w' : Walking) (es : List Place) (n : ℕ) {now next : Written} → es ≡ w.places → n ≡ suc (length w.opens) → w' ≡ with_places w (after_plain C w.places i) →
    Emits (λ k. plain C n es o i p (λ left. k)) now next → Advances C p o (Plain i) w now w' next Next
performed C p o i w w' es n {now} {next} same depth becomes e = λ code start whole pc b q r.
    let over : Emits (λ k. plain C n w.places o i p (λ left. k)) now next = subst (λ z. Emits (λ k. plain C n z o i p (λ left. k)) now next) same e in
    let piece : Emits (λ k. plain C (depth_in w) w.places o i p (λ left. k)) now next = subst (λ m. Emits (λ k. plain C m w.places o i p (λ left. k)) now next) depth over in
    subst (λ v. Rewrites C code start whole (suc pc) v next) (sym becomes) (step_basic C code start whole pc w now next o i p b q piece r)

pub block_begun : (C : Ctx) (p : Bool) (o : ℕ) (t : Option ValType) (w w' : Walking) (es : List Place) {now next : Written} → es ≡ w.places → w' ≡ opening (kept.Block t) w →
    Opens (λ inner k. spill C (λ x. true) es (block 0 t inner 0 k)) now next → Advances C p o (BlockOpens t) w now w' next Next
block_begun C p o t w w' es {now} {next} same becomes e = λ code start whole pc b q r.
    let piece : Opens (λ inner k. spill C (λ x. true) w.places (block 0 t inner 0 k)) now next = subst (λ z. Opens (λ inner k. spill C (λ x. true) z (block 0 t inner 0 k)) now next) same e in
    subst (λ v. Rewrites C code start whole (suc pc) v next) (sym becomes) (step_block C code start whole pc w now next o t b piece r)

pub loop_begun : (C : Ctx) (p : Bool) (o : ℕ) (t : Option ValType) (w w' : Walking) (es : List Place) {now next : Written} → es ≡ w.places → w' ≡ opening (kept.Loop t) w →
    Opens (λ inner k. spill C (λ x. true) es (loop 0 t inner 0 k)) now next → Advances C p o (OpensLoop t) w now w' next Next
loop_begun C p o t w w' es {now} {next} same becomes e = λ code start whole pc b q r.
    let piece : Opens (λ inner k. spill C (λ x. true) w.places (loop 0 t inner 0 k)) now next = subst (λ z. Opens (λ inner k. spill C (λ x. true) z (loop 0 t inner 0 k)) now next) same e in
    subst (λ v. Rewrites C code start whole (suc pc) v next) (sym becomes) (step_loop C code start whole pc w now next o t b piece r)

-- v is without the condition
pub if_begun : (C : Ctx) (p : Bool) (o : ℕ) (t : Option ValType) (w w' v : Walking) (es : List Place) {now next : Written} → v ≡ with_places w (less 1 w.places) → es ≡ v.places → w' ≡ opening (kept.Block t) v →
    Opens (λ arm k. spill C (λ x. true) es (choose 0 t arm None stop 0 k)) now next → OpensBoth (λ arm other k. spill C (λ x. true) es (choose 0 t arm (Some 0) other 0 k)) now next → Advances C p o (OpensIf t) w now w' next Next
if_begun C p o t w w' v es {now} {next} taken is becomes one both = λ code start whole pc b q r.
    let left : es ≡ less 1 w.places = is ∙ ap (λ (z : Walking). z.places) taken in
    let at : Opens (λ arm k. spill C (λ x. true) (less 1 w.places) (choose 0 t arm None stop 0 k)) now next = subst (λ z. Opens (λ arm k. spill C (λ x. true) z (choose 0 t arm None stop 0 k)) now next) left one in
    let two : OpensBoth (λ arm other k. spill C (λ x. true) (less 1 w.places) (choose 0 t arm (Some 0) other 0 k)) now next = subst (λ z. OpensBoth (λ arm other k. spill C (λ x. true) z (choose 0 t arm (Some 0) other 0 k)) now next) left both in
    subst (λ z. Rewrites C code start whole (suc pc) z next) (sym (becomes ∙ ap (opening (kept.Block t)) taken))
    (step_if C code start whole pc w now next o t b at (λ arm other k behind. two.opened arm other k behind) r)

-- a list that ended at an index ends there, whichever end is looked for
ends_there : (C : Ctx) (code : List Placed) (start : Written) (whole : Nodes) (pc to : ℕ) (w : Walking) (now : Written) → EndsAt code pc to → pc ≤ to → Left C code start whole pc w now → Left C code start whole to w now
ends_there C code start whole pc to w now end le r = record {
  dues = r.dues;
  leaves = record {
    gives = r.leaves.gives;
    code_is = end stop r.dues r.leaves.code_is;
    around = r.leaves.around;
    shallow = omega (arith, r.leaves.shallow, le);
  };
  comes = record { comes = r.comes.comes };
}

pub before_end : (C : Ctx) (p : Bool) (o : ℕ) (w : Walking) {now : Written} → Advances C p o End w now w now Ends
before_end C p o w {now} = λ code start whole pc b q r to end le. ends_there C code start whole pc to w now end le (step_end C code start whole pc w now o b r)

pub before_else : (C : Ctx) (p : Bool) (o : ℕ) (w : Walking) {now : Written} → Advances C p o Else w now w now Ends
before_else C p o w {now} = λ code start whole pc b q r to end le. ends_there C code start whole pc to w now end le (step_else C code start whole pc w now o b r)

-- ---- `else` and `end`

pub alternated : (C : Ctx) (p : Bool) (w w' : Walking) {now next : Written} → w' ≡ alternating w → Alternates now next → Resumes C p Else w now w' next
alternated C p w w' {now} {next} becomes e = λ code start whole pc o b lt q r.
    subst (λ v. Rewrites C code start whole (suc pc) v next) (sym becomes) (alternate C code start whole pc w now next o b e r)

pub closed : (C : Ctx) (p : Bool) (w w' : Walking) (l : Label) (t : Option ValType) (h : ℕ) {now next : Written} → ((x : OpenBlock) (others : List OpenBlock) → w.opens ≡ x ∷ others → l ≡ x.label) → t ≡ end_gives (info l) →
    ((x : OpenBlock) (others : List OpenBlock) → w.opens ≡ x ∷ others → h ≡ length x.saved) → w' ≡ closing w →
    ((places : List Place) → length places ≡ h → ClosesBefore (keep p C (option_map Spilled t) places) now next) → Resumes C p End w now w' next
closed C p w w' l t h {now} {next} first gives below becomes e = λ code start whole pc o b lt q r.
    subst (λ v. Rewrites C code start whole (suc pc) v next) (sym becomes)
    (close C code start whole pc w now next o p b lt q
    (λ x others is k behind.
    let gave : t ≡ end_gives (info x.label) = gives ∙ ap (λ (l : Label). end_gives (info l)) (first x others is) in
    (subst (λ t. ClosesBefore (keep p C (option_map Spilled t) x.saved) now next) gave (e x.saved (sym (below x others is)))).closed k behind) r)

-- ---- what is behind a list

pub below_fits : (opens : List OpenBlock) (n h : ℕ) → 1 ≤ length opens → ((x : OpenBlock) (others : List OpenBlock) → opens ≡ x ∷ others → length x.saved ≤ h) → ((x : OpenBlock) (others : List OpenBlock) → opens ≡ x ∷ others → n ≡ length x.saved) → n ≤ h
below_fits [] n h some room below = absurd (omega (arith, some))
below_fits (x ∷ xs) n h some room below = omega (arith, room x xs refl, below x xs refl)

pub is_end : (targets : List ℕ) (code : Instr) → IsBehind code → (code ≡ instrs.Else → ⊥) → item_of targets code ≡ End
is_end targets (instrs.Basic i) b not = absurd b
is_end targets (instrs.Jump j) b not = absurd b
is_end targets (instrs.Block t) b not = absurd b
is_end targets (instrs.Loop t) b not = absurd b
is_end targets (instrs.If t) b not = absurd b
is_end targets instrs.Else b not = absurd (not refl)
is_end targets instrs.End b not = refl
