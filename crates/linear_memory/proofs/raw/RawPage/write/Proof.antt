-- `write` lends the bytes, and the page follows them.
use Rattle.std.proofs.Common.{◌≡◌, ℕ, List, [], ◌∷◌, ◌∙◌, ap, sym, refl, MutBor}
use Rattle.std.proofs.raw_atomic.Walks.{proved}
use Rattle.std.proofs.VecSteps.Shapes.{after}
use base.Fraction.{full_share}
use base.Logic.{SProp, ent, sep, never, fst∗, id⊢}
use base.Fml.{Fml, fsep, ftrue, flft}
use contract.Running.{tables}
use denote.Exit.{no}
use denote.Follow.{follows, Part, lends_Part}
use denote.Laws.{shows}
use denote.Memory.{cell_at, lone, mem, part_at, part_of}
use denote.RattleType.{RattleType}
use denote.RawPtr.{Ptr, block_ptr, null_ptr, in_a_block}
use denote.Ref.{MutRef, mut_vals, mut_Tells}
use denote.Signature.{plain, mut_ref_to}
use denote.Steps.{nothing, opens, peeks}
use denote.Struct.Owning.{shape, to}
use denote.Struct.Struct.{Struct}
use denote.Triple.Walked.{Stays, walk_of, says, stay_dropped, Goes-spent_ref, ends_at}
use mir.Raw.{raw as bare}
use mir.Syntax.{named}
use mir.Val.{Val, vptr}
use seplogic.Ra.Ura.{Ura}
use types.ByLocal.{alloc_all, pass_all, free_all, look_at, get, through, sets, sets_last, env}
use types.Kit.{‵, raw, ◌⊛◌, some, later, at_ret, ◌$◌, ◌∵◌, !, qed, done, move, keep, use1, split, split3, join, fsplit, fsplit3, fjoin, fpack, pick, await, group, rewrite, suffices, frame}
use types.Logic.{Logic, sem}
use types.Part.{whole, sub, look_in}
use types.Run.{enter, of_opd, addr, stop, fld, hop, first, blocks, exec, returns}
use Rattle.std_heap.specs.contracts.GlobalAllocator.TheImpl.{ghosts}
use Rattle.linear_memory.specs.inner.Lending.{with_bytes}
use Rattle.linear_memory.specs.inner.Ownership.{Block, block_owned}
use Rattle.linear_memory.specs.contracts.raw.RawPage as page
use Rattle.linear_memory.specs.contracts.raw.RawPage.write as f
use Rattle.linear_memory.proofs.raw.RawPage.TheLaws.{lowers}
use Rattle.linear_memory.proofs.raw.RawPage.write.Statement.{statement}
use Rattle.linear_memory.proofs.raw.RawPage.write.Code as code

abbrev R : RattleType
R = page.the_row

-- the pointer and the heap, as fields
abbrev Words : RattleType
Words = Struct (shape page.the_type)

abbrev token : R.Denot → Ptr → Fml
token d = ghosts.dealloc_token d.heap (bare (lone Block.mir))

-- a page but for its bytes: the right to free the block, the fields, and the memory that they lie in
abbrev Rest : R.Denot → Ptr → List Val → ℕ → ℕ → Fml
Rest d p us b o = fsep (fsep (token d p) (Words.own_val (to page.the_type d) us)) (cell_at full_share R.mir us b o)

module _ {M : Type 1} {𝓤 : Ura M} (𝓛 : Logic 𝓤) where
  -- the page is whole again, with the bytes w
  back : (d : R.Denot) (at off b o : ℕ) (us : List Val) → d.at ≡ block_ptr at off → (w : Block.Denot)
      → ent 𝓤 (sep 𝓤 (sem 𝓛 ((mem Block).own_at w at off)) (sem 𝓛 (Rest d (block_ptr at off) us b o))) (sem 𝓛 ((mem R).own_at (with_bytes d w) b o))
  unfolding part_of
  back d at off b o us e w =
      qed 𝓛 (‵ (part_at Block full_share w at off) ∷ ‵ (Rest d (block_ptr at off) us b o) ∷ []) ∵
      move ! (1 ∷ []) $ fsplit ! $ fsplit ! $ move ! (3 ∷ 0 ∷ []) $ fjoin ! $
      rewrite ! 0 (λ (p : Ptr). ‵ (block_owned d.heap p w)) (sym e) refl $
      move ! (1 ∷ 0 ∷ []) $ fjoin ! $ move ! (1 ∷ 0 ∷ []) $ fjoin ! $
      fpack ! (List Val) (λ ws. fsep (cell_at full_share R.mir ws b o) (R.own_val (with_bytes d w) ws)) us $ done !

abbrev stayed : Stays f.ended.signature.params f.ended.kept
stayed = (stay_dropped (mut_ref_to (0 ∷ []) tt (plain (λ _. R))) no, tt)

pub write_spec : {M : Type 1} → statement M
write_spec 𝓤 𝓛 𝓜 𝓡 wired =
    let c = f.clauses 𝓛 𝓜.mem 𝓡.returns in let W = walk_of 𝓛 f.ended stayed c in let 𝓣 = tables 𝓤 𝓛.H 𝓜 𝓡 𝓡.env in
    proved 𝓛 f.ended stayed c 𝓜 𝓡 (Goes-spent_ref 𝓛 1 (0 ∷ []) tt (plain (λ _. R)), tt)
    f.Key.name code.function (code.unfolded 𝓤 𝓛.H 𝓜 𝓡 wired)
    (λ κs. (mut_vals, tt)) (λ κs. (mut_Tells (named 0) κs.0 R, tt)) (λ κs qs bounds a _ are.
    let κ = κs.0 in let q = qs.0 in let b = a.0.ref_ptr.0 in let o = a.0.ref_ptr.1 in let γ = a.0.ghost_name in let d = a.0.now in let vs = mut_vals a.0 in
    let y : W.Ghost = ((κs, qs, bounds, a, (vs, tt)), tt) in
    qed 𝓛 (((‵ (flft κ q) ⊛ ‵ ftrue) ⊛ ‵ ((MutRef (named 0) κ R).own_val a.0 vs) ⊛ ‵ ftrue) ∷ ‵ ftrue ∷ []) ∵
    split ! $ split ! $ move ! (2 ∷ []) $ split ! $ keep ! (0 ∷ 2 ∷ []) $
    enter ! _ _ _ _ _ $ alloc_all ! (λ l. pass_all ! refl ((tt, tt), tt) $
    fsplit3 ! $ move ! (1 ∷ 2 ∷ 3 ∷ []) $ opens ! tt R b o (λ us.
    move ! (1 ∷ []) $ peeks ! R _ (shows 𝓛 R) d us (λ is. fsplit ! $ move ! (1 ∷ []) $
    in_a_block ! d.at (λ p. block_owned d.heap p d.bytes) (fst∗ 𝓤 (never 𝓤) (sem 𝓛 (token d null_ptr))) (λ at off e. fsplit ! $
    -- [the bytes; the right to free them; the fields; their memory; the open borrow, in three entries]
    let value = lowers.val_is d us is ∙ ap (λ (p : Ptr). lowers.lowered (record d { at = p }) ∷ []) e in
    let Cell = λ (ws : List Val). ‵ (cell_at full_share R.mir ws b o) in
    rewrite ! 3 Cell value refl $
    first ! $ blocks ! $
    sets_last ! (addr ! (through ! refl (fld ! refl (hop ! (look_in ! 3 (sub ! 0 refl (whole !))) (stop !))))) refl (tt, tt) $
    exec ! 𝓣.C 𝓣.Λ (env code.Mir.locals l) (after 1 (code.function).body) (at_ret _ (W.post y)) $
    sets ! (of_opd ! (get ! refl)) refl (tt, tt) $
    rewrite ! 3 Cell (sym value) refl $
    move ! (1 ∷ 2 ∷ []) $ fjoin ! $ move ! (0 ∷ 2 ∷ []) $ fjoin ! $ move ! (2 ∷ 3 ∷ 4 ∷ 1 ∷ 0 ∷ []) $ group ! 5 $
    let Left : SProp 𝓤 = sem 𝓛 (Rest d (block_ptr at off) us b o) in
    use1 𝓛 (later (some (λ δ. raw (Part 𝓛 R Block (with_bytes d) (named 0) κ q b o at off γ Left (back 𝓛 d at off b o us e) d.bytes δ))))
    (lends_Part 𝓛 R Block (with_bytes d) (named 0) κ q b o at off γ Left (back 𝓛 d at off b o us e) (R.coded.code d) (R.coded.code d) d.bytes) $ await ! tt $ pick ! (λ δ.
    returns ! (look_at ! 0 refl) $ free_all ! refl $ keep ! (0 ∷ []) $
    let r : MutBor (List ℕ) = record { ref_ptr = (at, off); ghost_name = δ; now = d.bytes } in
    use1 𝓛 (‵ ((MutRef (named 0) κ Block).own_val r (vptr at off ∷ [])) ⊛ ‵ (flft κ q) ⊛ ‵ (follows R Block γ δ (with_bytes d))) (id⊢ 𝓤 _) $
    split3 ! $
    suffices ! _ (ends_at 𝓛 f.ended stayed c y (vptr at off) r (tt, tt) (tt, tt)) $
    nothing ! $ nothing ! $ fjoin ! $ join ! $ nothing ! $ move ! (2 ∷ 0 ∷ []) $ join ! $ join ! $ frame ! $ says ! refl $ done !))))))
