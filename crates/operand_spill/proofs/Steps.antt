-- The steps of a walk: from a point before an instruction to the point behind it, where the piece of the instruction was written.
use Rattle.std.proofs.Common.{◌≡◌, ℕ, suc, ◌<◌, ◌≤◌, Bool, true, false, nat_lt, List, [], ◌∷◌, ◌++◌, length, drop, slice_get, option_map, Option, Some, None, refl, sym, ap, subst, ◌∙◌, arith, length-drop}
use Rattle.wasm_syntax.specs.declared.value.ValType.{ValType}
use Rattle.wasm_syntax.specs.declared.instruction.Basic.{Basic}
use Rattle.wasm_syntax.specs.declared.parts.FuncType.{FuncType}
use Rattle.wasm_syntax.specs.Tree.{Jump, BrIf, Call, CallIndirect, Nodes, stop, basic, jump, block, loop, choose, Item, Plain, Goes, Opens as BlockOpens, OpensLoop, OpensIf, Else, End, Placed, placed, else_out, write, Tree, WritesOut}
use Rattle.wasm_syntax.specs.Machine.{result_of}
use Rattle.wasm_syntax.specs.Module.{type_at}
use Rattle.rewrite_bodies.specs.calls.Slots.{Place, Spilled, Ctx, less, grown, under, after_plain}
use Rattle.rewrite_bodies.specs.Numbering.{import_count, mapped}
use Rattle.rewrite_bodies.specs.calls.Pieces.{call, keep, spill}
use Rattle.rewrite_bodies.specs.calls.Rewrite.{passes, plain, with_result, control, call_code, indirect_code, after_direct, rewrite}
use Rattle.rewrite_bodies.specs.calls.Typed.{end_gives}
use Rattle.rewrite_bodies.specs.calls.Agreement.{Room, Room_jump, Room_call}
use Rattle.rewrite_bodies.proofs.Sim.{room_height, grown_longer}
use Rattle.rewrite_code.specs.calls.Writing.{Written, Behind, ends, alternates, goes, Emits, EmitsLast, Opens, Alternates}
use Rattle.operand_spill.specs.declared.labels.Label.TheVariants as kept
use Rattle.operand_spill.specs.declared.labels.OpenBlock.{OpenBlock}
use Rattle.operand_spill.specs.calls.Labels.{info}
use Rattle.operand_spill.specs.calls.Walking.{Walking, walking, with_places, opened, at_start, opening, behind_block, alternating_in, alternating, closing_in, closing}
use Rattle.operand_spill.specs.calls.Standing.{Due, before_end, before_else, flat, Armed, Passes, depth_in, Fine, IsLast, Around, rest_of, due, Stands, Leaves, Comes, Rewrites, Left}
use Rattle.operand_spill.proofs.Shapes.{Begins, Shape, shape}

-- ---- lengths of written code

-- nodes make code longer
pub written_longer : (nodes : Nodes) (after : List Placed) → length after ≤ length (write nodes after)
written_longer stop after = omega arith
written_longer (basic at i rest) after = omega (arith, written_longer rest after)
written_longer (jump at j rest) after = omega (arith, written_longer rest after)
written_longer (block at t inner end rest) after = omega (arith, written_longer inner (placed end End ∷ write rest after), written_longer rest after)
written_longer (loop at t inner end rest) after = omega (arith, written_longer inner (placed end End ∷ write rest after), written_longer rest after)
written_longer (choose at t a None b end rest) after =
    omega (arith, written_longer a (write b (placed end End ∷ write rest after)), written_longer b (placed end End ∷ write rest after), written_longer rest after)
written_longer (choose at t a (Some else_at) b end rest) after =
    omega (arith, written_longer a (placed else_at Else ∷ write b (placed end End ∷ write rest after)), written_longer b (placed end End ∷ write rest after), written_longer rest after)

pub some_due : (C : Ctx) (opens : List OpenBlock) (dues : List Due) → Around C opens dues → 1 ≤ length (flat dues)
some_due C [] [] around = absurd around
some_due C [] (before_end end rest ∷ ds) around = omega arith
some_due C [] (before_else at other end rest ∷ ds) around = omega arith
some_due C (o ∷ os) [] around = absurd around
some_due C (o ∷ os) (before_end end rest ∷ ds) around = omega arith
some_due C (o ∷ os) (before_else at other end rest ∷ ds) around = omega arith

-- behind the nodes behind a block stands what is due around it
pub longer : (C : Ctx) (rest : Nodes) (opens : List OpenBlock) (dues : List Due) → Around C opens dues → 1 ≤ length (write rest (flat dues))
longer C rest opens dues around = omega (arith, written_longer rest (flat dues), some_due C opens dues around)

module _ (C : Ctx) (code : List Placed) (start : Written) (whole : Nodes) where
  abbrev pub Point : ℕ → Walking → Written → Type 0
  Point pc w now = Rewrites C code start whole pc w now

  abbrev pub EndPoint : ℕ → Walking → Written → Type 0
  EndPoint pc w now = Left C code start whole pc w now

  -- a point with its nodes
  record At (pc : ℕ) (w : Walking) (now : Written) (nodes : Nodes) (dues : List Due) : Type 0 where
    pub stands : Stands C code pc w nodes dues
    pub comes : Comes C start whole now (rewrite C (depth_in w) w.places nodes) w.opens dues

  at : (pc : ℕ) (w : Walking) (now : Written) (r : Point pc w now) (nodes : Nodes) → r.nodes ≡ nodes → At pc w now nodes r.dues
  at pc w now r nodes e = subst (λ n. At pc w now n r.dues) e (record { stands = r.stands; comes = r.comes })

  -- which node stands there
  here : (pc : ℕ) (w : Walking) (now : Written) (r : Point pc w now) (o : ℕ) (i : Item) → Begins code pc o i → Shape o i (drop (suc pc) code) r.nodes r.dues
  here pc w now r o i b = shape r.nodes r.dues o i (drop (suc pc) code) (sym b ∙ r.stands.code_is)

  -- there is an instruction
  pub point_within : (pc : ℕ) (w : Walking) (now : Written) → Point pc w now → pc < length code
  point_within pc w now r = omega (arith, length-drop pc code, ap length r.stands.code_is, longer C r.nodes w.opens r.dues r.stands.around)

  pub end_within : (pc : ℕ) (w : Walking) (now : Written) → EndPoint pc w now → pc < length code
  end_within pc w now r = omega (arith, length-drop pc code, ap length r.leaves.code_is, some_due C w.opens r.dues r.leaves.around)

  -- the operands have slots
  pub point_room : (pc : ℕ) (w : Walking) (now : Written) → Point pc w now → length w.places ≤ C.slots
  point_room pc w now r = room_height C w.places r.nodes r.stands.fine.room

  pub step_basic : (pc : ℕ) (w : Walking) (now next : Written) (o : ℕ) (i : Basic) (p : Bool) → Begins code pc o (Plain i) → Passes C (drop (suc pc) code) p →
      Emits (λ k. plain C (depth_in w) w.places o i p (λ es. k)) now next → Point pc w now → Point (suc pc) (with_places w (after_plain C w.places i)) next
  step_basic pc w now next o i p b passing e r =
      let h = here pc w now r o (Plain i) b in
      let a = at pc w now r (basic o i h.0) h.1 in
      let places = after_plain C w.places i in
      let more : List Behind = due C w.opens r.dues in
      record {
        nodes = h.0;
        dues = r.dues;
        stands = record {
          gives = r.stands.gives;
          code_is = h.2;
          fine = record { room = a.stands.fine.room.3; arms = a.stands.fine.arms };
          around = r.stands.around;
          shallow = omega (arith, r.stands.shallow);
        };
        comes = record {
          comes = λ behind.
              a.comes.comes behind
              ∙ ap (λ q. goes now (plain C (depth_in w) w.places o i q (λ es. rewrite C (depth_in w) es h.0)) (more ++ behind)) (sym (passing h.0 r.dues h.2))
              ∙ e.emitted (rewrite C (depth_in w) places h.0) (more ++ behind);
        };
      }

  -- ---- jumps behind which the next instruction is run

  -- behind such a jump, whose code goes on over these places
  goes_on : (pc : ℕ) (w : Walking) (now next : Written) (o : ℕ) (j : Jump) (p : Bool) (places : List Place) → Begins code pc o (Goes j) → Passes C (drop (suc pc) code) p →
      ((go : List Place → Type 0) → Room_jump C j w.places go → go places) →
      ((go : List Place → Nodes) (behind : List Behind) → goes now (control C (depth_in w) w.places o j p go) behind ≡ goes next (go places) behind) →
      Point pc w now → Point (suc pc) (with_places w places) next
  goes_on pc w now next o j p places b passing room piece r =
      let h = here pc w now r o (Goes j) b in
      let a = at pc w now r (jump o j h.0) h.1 in
      let more : List Behind = due C w.opens r.dues in
      record {
        nodes = h.0;
        dues = r.dues;
        stands = record {
          gives = r.stands.gives;
          code_is = h.2;
          fine = record { room = room (λ es. Room C es h.0) a.stands.fine.room.1; arms = a.stands.fine.arms };
          around = r.stands.around;
          shallow = omega (arith, r.stands.shallow);
        };
        comes = record {
          comes = λ behind. a.comes.comes behind
              ∙ ap (λ q. goes now (control C (depth_in w) w.places o j q (λ es. rewrite C (depth_in w) es h.0)) (more ++ behind)) (sym (passing h.0 r.dues h.2))
              ∙ piece (λ es. rewrite C (depth_in w) es h.0) (more ++ behind);
        };
      }

  pub step_branch_if : (pc : ℕ) (w : Walking) (now next : Written) (o l : ℕ) (p : Bool) → Begins code pc o (Goes (BrIf l)) → Passes C (drop (suc pc) code) p → Emits (λ k. jump 0 (BrIf l) k) now next → Point pc w now →
      Point (suc pc) (with_places w (less 1 w.places)) next
  step_branch_if pc w now next o l p b passing e r = goes_on pc w now next o (BrIf l) p (less 1 w.places) b passing (λ go room. room) (λ go behind. e.emitted (go (less 1 w.places)) behind) r

  direct_goes : (b : Bool) (d : ℕ) (t : Option ValType) (es : List Place) (o : ℕ) (p : Bool) (go : List Place → Nodes) → after_direct b C d t es o p go ≡ after_direct b C d t es o p (λ left. go (grown t es))
  direct_goes true d t es o p go = refl
  direct_goes false d t es o p go = refl

  call_goes : (d : ℕ) (es : List Place) (o f : ℕ) (type : FuncType) (p : Bool) (go : List Place → Nodes) →
      call_code C d es o f (Some type) p go ≡ call_code C d es o f (Some type) p (λ left. go (grown (result_of type) (less (length type.params) es)))
  call_goes d es o f type p go =
      ap (λ code. call (mapped C.source f) code) (direct_goes (nat_lt f (import_count C.source)) d (result_of type) (less (length type.params) es) o p go)

  pub step_call : (pc : ℕ) (w : Walking) (now next : Written) (o f : ℕ) (type : FuncType) (p : Bool) → Begins code pc o (Goes (Call f)) → Passes C (drop (suc pc) code) p → type_at C.source f ≡ Some type →
      Emits (λ k. call_code C (depth_in w) w.places o f (Some type) p (λ left. k)) now next → Point pc w now →
      Point (suc pc) (with_places w (grown (result_of type) (less (length type.params) w.places))) next
  step_call pc w now next o f type p b passing is e r =
      let places = grown (result_of type) (less (length type.params) w.places) in
      goes_on pc w now next o (Call f) p places b passing
      (λ go room. let z : Room_call C (Some type) w.places go = subst (λ q. Room_call C q w.places go) is room in z.1)
      (λ go behind.
      ap (λ q. goes now (call_code C (depth_in w) w.places o f q p go) behind) is
      ∙ ap (λ n. goes now n behind) (call_goes (depth_in w) w.places o f type p go)
      ∙ e.emitted (go places) behind) r

  pub step_call_indirect : (pc : ℕ) (w : Walking) (now next : Written) (o t : ℕ) (type : FuncType) (p : Place) (es : List Place) (q : Bool) → Begins code pc o (Goes (CallIndirect t)) → Passes C (drop (suc pc) code) q →
      w.places ≡ p ∷ es → slice_get C.source.types t ≡ Some type → Emits (λ k. indirect_code C (depth_in w) (p ∷ es) o t (Some type) (λ left. k)) now next → Point pc w now →
      Point (suc pc) (with_places w (grown (result_of type) (less (length type.params) es))) next
  step_call_indirect pc w now next o t type p es q b passing top is e r =
      let places = grown (result_of type) (less (length type.params) es) in
      goes_on pc w now next o (CallIndirect t) q places b passing
      (λ go room.
      let y : Room_jump C (CallIndirect t) (p ∷ es) go = subst (λ z. Room_jump C (CallIndirect t) z go) top room in
      let z : Room_call C (Some type) es go = subst (λ q. Room_call C q es go) is y.1 in z.1)
      (λ go behind.
      ap (λ z. goes now (control C (depth_in w) z o (CallIndirect t) q go) behind) top
      ∙ ap (λ y. goes now (indirect_code C (depth_in w) (p ∷ es) o t y go) behind) is
      ∙ e.emitted (go places) behind) r

  -- ---- the end of a list

  -- where the index of its end is known
  abbrev pub EndsAt : ℕ → ℕ → Type 0
  EndsAt pc to = (nodes : Nodes) (dues : List Due) → drop pc code ≡ write nodes (flat dues) → drop to code ≡ flat dues

  -- the rewriting of what is left was written
  list_left : (pc to : ℕ) (w : Walking) (now next : Written) → EndsAt pc to → pc ≤ to → (r : Point pc w now) →
      EmitsLast (rewrite C (depth_in w) w.places r.nodes) now next → EndPoint to w next
  list_left pc to w now next end le r e =
      let more : List Behind = due C w.opens r.dues in
      record {
        dues = r.dues;
        leaves = record {
          gives = r.stands.gives;
          code_is = end r.nodes r.dues r.stands.code_is;
          around = r.stands.around;
          shallow = omega (arith, r.stands.shallow, le);
        };
        comes = record { comes = λ behind. r.comes.comes behind ∙ e.emitted (more ++ behind) };
      }

  -- a jump behind which nothing of its list is run
  pub step_transfer : (pc to : ℕ) (w : Walking) (now next : Written) (o : ℕ) (j : Jump) → Begins code pc o (Goes j) → EndsAt pc to → pc ≤ to →
      ((p : Bool) (go : List Place → Nodes) → EmitsLast (control C (depth_in w) w.places o j p go) now next) → Point pc w now → EndPoint to w next
  step_transfer pc to w now next o j b end le e r =
      let h = here pc w now r o (Goes j) b in
      list_left pc to w now next end le r (subst (λ n. EmitsLast (rewrite C (depth_in w) w.places n) now next) (sym h.1) (e (passes C h.0) (λ es. rewrite C (depth_in w) es h.0)))

  -- `else` or `end`, where no node is left
  list_ended : (pc : ℕ) (w : Walking) (now : Written) (r : Point pc w now) → r.nodes ≡ stop → EndPoint pc w now
  list_ended pc w now r none =
      let more : List Behind = due C w.opens r.dues in
      record {
        dues = r.dues;
        leaves = record {
          gives = r.stands.gives;
          code_is = r.stands.code_is ∙ ap (λ n. write n (flat r.dues)) none;
          around = r.stands.around;
          shallow = r.stands.shallow;
        };
        comes = record { comes = λ behind. r.comes.comes behind ∙ ap (λ n. goes now (rewrite C (depth_in w) w.places n) (more ++ behind)) none };
      }

  pub step_end : (pc : ℕ) (w : Walking) (now : Written) (o : ℕ) → Begins code pc o End → Point pc w now → EndPoint pc w now
  step_end pc w now o b r = list_ended pc w now r (here pc w now r o End b).0

  pub step_else : (pc : ℕ) (w : Walking) (now : Written) (o : ℕ) → Begins code pc o Else → Point pc w now → EndPoint pc w now
  step_else pc w now o b r = list_ended pc w now r (here pc w now r o Else b).0

  -- ---- the beginnings of blocks

  pub step_block : (pc : ℕ) (w : Walking) (now next : Written) (o : ℕ) (t : Option ValType) → Begins code pc o (BlockOpens t) → Opens (λ inner k. spill C (λ x. true) w.places (block 0 t inner 0 k)) now next →
      Point pc w now → Point (suc pc) (opening (kept.Block t) w) next
  step_block pc w now next o t b e r =
      let h = here pc w now r o (BlockOpens t) b in
      let a = at pc w now r (block o t h.0 h.1 h.2) h.3 in
      let more : List Behind = due C w.opens r.dues in
      let block_ : OpenBlock = opened (kept.Block t) (under w.places) in
      record {
        nodes = h.0;
        dues = before_end h.1 h.2 ∷ r.dues;
        stands = record {
          gives = r.stands.gives;
          code_is = h.4;
          fine = record { room = a.stands.fine.room.1; arms = a.stands.fine.arms.0 };
          around = (record { room = a.stands.fine.room.3; arms = a.stands.fine.arms.1 }, r.stands.around);
          shallow = omega (arith, r.stands.shallow);
        };
        comes = record {
          comes = λ behind.
              a.comes.comes behind ∙ e.opened (rewrite C (suc (depth_in w)) (under w.places) h.0) (rest_of C block_ w.opens h.2) (more ++ behind);
        };
      }

  pub step_loop : (pc : ℕ) (w : Walking) (now next : Written) (o : ℕ) (t : Option ValType) → Begins code pc o (OpensLoop t) → Opens (λ inner k. spill C (λ x. true) w.places (loop 0 t inner 0 k)) now next →
      Point pc w now → Point (suc pc) (opening (kept.Loop t) w) next
  step_loop pc w now next o t b e r =
      let h = here pc w now r o (OpensLoop t) b in
      let a = at pc w now r (loop o t h.0 h.1 h.2) h.3 in
      let more : List Behind = due C w.opens r.dues in
      let loop_ : OpenBlock = opened (kept.Loop t) (under w.places) in
      record {
        nodes = h.0;
        dues = before_end h.1 h.2 ∷ r.dues;
        stands = record {
          gives = r.stands.gives;
          code_is = h.4;
          fine = record { room = a.stands.fine.room.1; arms = a.stands.fine.arms.0 };
          around = (record { room = a.stands.fine.room.3; arms = a.stands.fine.arms.1 }, r.stands.around);
          shallow = omega (arith, r.stands.shallow);
        };
        comes = record {
          comes = λ behind.
              a.comes.comes behind ∙ e.opened (rewrite C (suc (depth_in w)) (under w.places) h.0) (rest_of C loop_ w.opens h.2) (more ++ behind);
        };
      }

  -- an `if` over the operands under its condition, with or without `else`
  pub step_if : (pc : ℕ) (w : Walking) (now next : Written) (o : ℕ) (t : Option ValType) → Begins code pc o (OpensIf t) →
      Opens (λ arm k. spill C (λ x. true) (less 1 w.places) (choose 0 t arm None stop 0 k)) now next →
      ((arm other k : Nodes) (behind : List Behind) → goes now (spill C (λ x. true) (less 1 w.places) (choose 0 t arm (Some 0) other 0 k)) behind ≡ goes next arm (alternates other k ∷ behind)) →
      Point pc w now → Point (suc pc) (opening (kept.Block t) (with_places w (less 1 w.places))) next
  step_if pc w now next o t b one two r =
      let h = here pc w now r o (OpensIf t) b in
      let a = at pc w now r (choose o t h.0 h.1 h.2 h.3 h.4) h.5 in
      by h.0 h.1 h.2 h.3 h.4 h.6 a.stands.fine.room a.stands.fine.arms (λ behind. a.comes.comes behind)
    where
      es : List Place
      es = less 1 w.places

      left : List Place
      left = under es

      by : (x : Nodes) (else_at : Option ℕ) (y : Nodes) (end : ℕ) (rest : Nodes) → drop (suc pc) code ≡ write x (else_out else_at (write y (flat (before_end end rest ∷ r.dues)))) →
          Room C w.places (choose o t x else_at y end rest) → Armed (choose o t x else_at y end rest) →
          ((behind : List Behind) → goes start whole behind ≡ goes now (rewrite C (depth_in w) w.places (choose o t x else_at y end rest)) (due C w.opens r.dues ++ behind)) →
          Point (suc pc) (opening (kept.Block t) (with_places w es)) next
      by x None y end rest e room arms comes =
          let bare_arm : rewrite C (suc (depth_in w)) left y ≡ stop = ap (rewrite C (suc (depth_in w)) left) arms.1 in
          let k : Nodes = rest_of C (opened (kept.Block t) left) w.opens rest in
          let arm : Nodes = rewrite C (suc (depth_in w)) left x in
          record {
            nodes = x;
            dues = before_end end rest ∷ r.dues;
            stands = record {
              gives = r.stands.gives;
              code_is = e ∙ ap (λ n. write x (write n (flat (before_end end rest ∷ r.dues)))) arms.1;
              fine = record { room = room.1; arms = arms.2 };
              around = (record { room = room.4; arms = arms.3 }, r.stands.around);
              shallow = omega (arith, r.stands.shallow);
            };
            comes = record {
              comes = λ behind.
                  comes behind ∙ ap (λ n. goes now (spill C (λ x. true) es (choose 0 t arm None n 0 k)) (due C w.opens r.dues ++ behind)) bare_arm
                  ∙ one.opened arm k (due C w.opens r.dues ++ behind);
            };
          }
      by x (Some else_at) y end rest e room arms comes =
          let k : Nodes = rest_of C (opened (kept.Block t) left) w.opens rest in
          let arm : Nodes = rewrite C (suc (depth_in w)) left x in
          let other : Nodes = rewrite C (suc (depth_in w)) left y in
          record {
            nodes = x;
            dues = before_else else_at y end rest ∷ r.dues;
            stands = record {
              gives = r.stands.gives;
              code_is = e;
              fine = record { room = room.1; arms = arms.0 };
              around = (record { room = room.2; arms = arms.1 }, record { room = room.4; arms = arms.2 }, r.stands.around);
              shallow = omega (arith, r.stands.shallow);
            };
            comes = record { comes = λ behind. comes behind ∙ two arm other k (due C w.opens r.dues ++ behind) };
          }

  -- ---- `else` and `end`

  left_here : (pc : ℕ) (w : Walking) (now : Written) (r : EndPoint pc w now) (o : ℕ) (i : Item) → Begins code pc o i → Shape o i (drop (suc pc) code) stop r.dues
  left_here pc w now r o i b = shape stop r.dues o i (drop (suc pc) code) (sym b ∙ r.leaves.code_is)

  pub alternate : (pc : ℕ) (w : Walking) (now next : Written) (o : ℕ) → Begins code pc o Else → Alternates now next → EndPoint pc w now → Point (suc pc) (alternating w) next
  alternate pc w now next o b e r =
      let h = left_here pc w now r o Else b in
      by w.opens r.dues h.1 h.2 h.3 h.4 h.5 h.6 r.leaves.around r.leaves.shallow (λ behind. r.comes.comes behind)
    where
      by : (opens : List OpenBlock) (dues : List Due) (other : Nodes) (end : ℕ) (rest : Nodes) (below : List Due) → dues ≡ before_else o other end rest ∷ below →
          drop (suc pc) code ≡ write other (flat (before_end end rest ∷ below)) → Around C opens dues → length opens ≤ pc →
          ((behind : List Behind) → goes start whole behind ≡ goes now stop (due C opens dues ++ behind)) → Point (suc pc) (alternating_in (walking w.gives w.places opens) opens) next
      by [] dues other end rest below e k around le comes = absurd (subst IsLast e around)
      by (x ∷ xs) dues other end rest below d k around le comes =
          let fine : Around C (x ∷ xs) (before_else o other end rest ∷ below) = subst (Around C (x ∷ xs)) d around in
          record {
            nodes = other;
            dues = before_end end rest ∷ below;
            stands = record { gives = r.leaves.gives; code_is = k; fine = fine.0; around = (fine.1, fine.2); shallow = omega (arith, le) };
            comes = record {
              comes = λ behind.
                  comes behind ∙ ap (λ ds. goes now stop (due C (x ∷ xs) ds ++ behind)) d
                  ∙ e.alternated (rewrite C (suc (length (x ∷ xs))) x.saved other) (rest_of C x xs rest) (due C xs below ++ behind);
            };
          }

  -- the end of a block, but not of the body
  pub close : (pc : ℕ) (w : Walking) (now next : Written) (o : ℕ) (p : Bool) → Begins code pc o End → suc pc < length code → Passes C (drop (suc pc) code) p →
      ((block_ : OpenBlock) (others : List OpenBlock) → w.opens ≡ block_ ∷ others → (k : Nodes) (behind : List Behind) →
      goes now stop (ends (keep p C (option_map Spilled (end_gives (info block_.label))) block_.saved k) ∷ behind) ≡ goes next k behind) →
      EndPoint pc w now → Point (suc pc) (closing w) next
  close pc w now next o p b lt passing e r =
      let h = left_here pc w now r o End b in
      by w.opens r.dues h.1 h.2 h.3 h.4 r.leaves.around r.leaves.shallow (λ behind. r.comes.comes behind) e
    where
      by : (opens : List OpenBlock) (dues : List Due) (rest : Nodes) (below : List Due) → dues ≡ before_end o rest ∷ below → drop (suc pc) code ≡ write rest (flat below) →
          Around C opens dues → length opens ≤ pc → ((behind : List Behind) → goes start whole behind ≡ goes now stop (due C opens dues ++ behind)) →
          ((block_ : OpenBlock) (others : List OpenBlock) → opens ≡ block_ ∷ others → (k : Nodes) (behind : List Behind) →
          goes now stop (ends (keep p C (option_map Spilled (end_gives (info block_.label))) block_.saved k) ∷ behind) ≡ goes next k behind) →
          Point (suc pc) (closing_in (walking w.gives w.places opens) opens) next
      by [] dues rest below d k around le comes e =
          let last : (rest ≡ stop) × (below ≡ []) = subst IsLast d around in
          let none : drop (suc pc) code ≡ [] = k ∙ ap (λ n. write n (flat below)) last.0 ∙ ap flat last.1 in
          absurd (omega (arith, lt, length-drop (suc pc) code, ap length none))
      by (x ∷ xs) dues rest below d k around le comes e =
          let fine : Around C (x ∷ xs) (before_end o rest ∷ below) = subst (Around C (x ∷ xs)) d around in
          record {
            nodes = rest;
            dues = below;
            stands = record { gives = r.leaves.gives; code_is = k; fine = fine.0; around = fine.1; shallow = omega (arith, le) };
            comes = record {
              comes = λ behind.
                  comes behind ∙ ap (λ ds. goes now stop (due C (x ∷ xs) ds ++ behind)) d
                  ∙ ap (λ q. goes now stop (ends (with_result C (end_gives (info x.label)) x.saved q (λ es. rewrite C (suc (length xs)) es rest)) ∷ (due C xs below ++ behind))) (sym (passing rest below k))
                  ∙ e x xs refl (rewrite C (suc (length xs)) (behind_block x) rest) (due C xs below ++ behind);
            };
          }

  -- ---- the whole body

  -- at its last instruction, all of it was written
  pub whole_written : (pc : ℕ) (w : Walking) (now : Written) → suc pc ≡ length code → EndPoint pc w now → EmitsLast whole start now
  whole_written pc w now last r = by w.opens r.dues r.leaves.code_is r.leaves.around (λ behind. r.comes.comes behind)
    where
      one : length (drop pc code) ≡ 1
      one = omega (arith, length-drop pc code, last)

      by : (opens : List OpenBlock) (dues : List Due) → drop pc code ≡ flat dues → Around C opens dues →
          ((behind : List Behind) → goes start whole behind ≡ goes now stop (due C opens dues ++ behind)) → EmitsLast whole start now
      by [] dues e around comes = record { emitted = comes }
      by (x ∷ xs) [] e around comes = absurd around
      by (x ∷ xs) (before_end end rest ∷ ds) e around comes = absurd (omega (arith, one, ap length e, longer C rest xs ds around.1))
      by (x ∷ xs) (before_else at_ other end rest ∷ ds) e around comes =
          absurd (omega (arith, one, ap length e, written_longer other (placed end End ∷ write rest (flat ds)), longer C rest xs ds around.2))

-- ---- what lies below the innermost block

-- has slots
pub below_fits : (C : Ctx) (code : List Placed) (pc : ℕ) (w : Walking) (dues : List Due) (block_ : OpenBlock) (others : List OpenBlock) → Leaves C code pc w dues → w.opens ≡ block_ ∷ others →
    length block_.saved ≤ C.slots
below_fits C code pc w dues block_ others l is = by dues (subst (λ os. Around C os dues) is l.around)
  where
    fits : (rest : Nodes) → Fine C (behind_block block_) rest → length block_.saved ≤ C.slots
    fits rest f = omega (arith, room_height C (behind_block block_) rest f.room, grown_longer (end_gives (info block_.label)) block_.saved)

    by : (ds : List Due) → Around C (block_ ∷ others) ds → length block_.saved ≤ C.slots
    by [] a = absurd a
    by (before_end end rest ∷ ds) a = fits rest a.0
    by (before_else at other end rest ∷ ds) a = fits rest a.1

-- in front of any instruction but the last, a block is open at the end of a list
pub open_before_last : (C : Ctx) (code : List Placed) (pc : ℕ) (w : Walking) (dues : List Due) → Leaves C code pc w dues → suc pc < length code →
    (block_ : OpenBlock) × (others : List OpenBlock) × (w.opens ≡ block_ ∷ others)
open_before_last C code pc w dues l lt = by w.opens refl
  where
    last : (ds : List Due) → drop pc code ≡ flat ds → IsLast ds → ⊥
    last [] e i = i
    last (before_end end rest ∷ ds) e i =
        let one : drop pc code ≡ placed end End ∷ [] = e ∙ ap (λ n. placed end End ∷ write n (flat ds)) i.0 ∙ ap (λ z. placed end End ∷ flat z) i.1 in
        omega (arith, lt, length-drop pc code, ap length one)
    last (before_else at other end rest ∷ ds) e i = i

    by : (os : List OpenBlock) → w.opens ≡ os → (block_ : OpenBlock) × (others : List OpenBlock) × (w.opens ≡ block_ ∷ others)
    by [] e = absurd (last dues l.code_is (subst (λ os. Around C os dues) e l.around))
    by (x ∷ xs) e = (x, xs, e)

-- ---- the beginning

pub begin : (C : Ctx) (code : List Placed) (start : Written) (tree : Tree) → WritesOut code tree → Room C [] tree.nodes → Armed tree.nodes →
    Rewrites C code start (rewrite C 1 [] tree.nodes) 0 (at_start C.result) start
begin C code start tree writes room arms = record {
  nodes = tree.nodes;
  dues = before_end tree.end stop ∷ [];
  stands = record {
    gives = refl;
    code_is = writes.out;
    fine = record { room = room; arms = arms };
    around = (refl, refl);
    shallow = omega arith;
  };
  comes = record { comes = λ behind. refl };
}
