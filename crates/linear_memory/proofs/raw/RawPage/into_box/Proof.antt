-- `into_box` makes a box of the pointer again.
use Rattle.std.proofs.Common.{◌≡◌, List, [], ◌∷◌, ◌∙◌, ap, sym, refl, subst}
use Rattle.std.proofs.raw_atomic.Walks.{proved}
use Rattle.std.proofs.VecSteps.Shapes.{after}
use Rattle.std.proofs.BoxSteps.Form as box
use Rattle.std.proofs.BoxSteps.Steps.{box_out, box_in}
use base.Fraction.{full_share}
use base.Logic.{never, emp, fst∗, id⊢}
use base.Fml.{ftrue, flft}
use contract.BorrowLft.{◌⊑◌, ⊑_static}
use contract.Monad.{fact, fact_i}
use contract.Lifetimes.{Lfts}
use contract.Running.{tables}
use denote.Exit.{yes}
use denote.Laws.{shows}
use denote.Memory.{lone}
use denote.RattleType.{RattleType}
use denote.RawPtr.{Ptr, block_ptr, null_ptr, in_a_block}
use denote.Param.{layout}
use denote.Signature.{plain, type_at}
use denote.Steps.{nothing, peeks, heard, only}
use denote.Triple.Call.{calls_at_last}
use denote.Triple.Clauses.{Lasts, lasts}
use denote.Triple.Spec.{triple_of}
use denote.Triple.Table.{framed}
use denote.Triple.Walked.{Stays, walk_of, says, stay_dropped, Goes-dropped, ends_at}
use mir.Raw.{raw as bare}
use lib.Dec.{T as HasTy}
use mir.Syntax.{Ty}
use mir.Val.{Val, vptr, has_ty, WT}
use prog.Wp.{WpFn}
use types.ByLocal.{alloc_all, pass_all, free_all, look_at, get, get_in, sets, lands_last, env}
use types.Kit.{‵, raw, ◌⊛◌, some, later, prop, at_ret, ◌$◌, ◌∵◌, !, qed, done, move, keep, drop, use0, use1, split, split3, join, fsplit, fjoin, fpick, feq_i, pick, await, rewrite, regoal, suffices}
use types.Logic.{sem}
use types.Part.{whole, sub}
use types.Run.{enter, of_opd, stop, fld, no_more, and_then, first, blocks, exec, returns}
use Rattle.std_heap.specs.contracts.GlobalAllocator.TheImpl.{ghosts, dict}
use Rattle.std_heap.proofs.GlobalAllocator.TheImpl.Met.{passed}
use Rattle.std_heap.proofs.Global.TheLaws as heap_laws
use Rattle.std.proofs.Handle.{heap_val, heap_Tells}
use Rattle.std_alloc.specs.contracts.boxed.Box.from_raw as g
use Rattle.std_alloc.proofs.boxed.Box.from_raw.Met.{met}
use Rattle.linear_memory.specs.inner.Ownership.{Block, block_owned}
use Rattle.linear_memory.specs.contracts.raw.RawPage as page
use Rattle.linear_memory.specs.contracts.raw.RawPage.into_box as f
use Rattle.linear_memory.proofs.Boxed.{E, T, T_laws, Z, Z_laws, no_drop, glued}
use Rattle.linear_memory.proofs.raw.RawPage.TheLaws.{lowers}
use Rattle.linear_memory.proofs.raw.RawPage.into_box.Statement.{statement}
use Rattle.linear_memory.proofs.raw.RawPage.into_box.Code as code

abbrev R : RattleType
R = page.the_row

abbrev stayed : Stays f.ended.signature.params f.ended.kept
stayed = (stay_dropped (plain (λ _. R)) yes, tt)

pub into_box_spec : {M : Type 1} → statement M
into_box_spec {M} 𝓤 𝓛 𝓜 𝓡 wired =
    let c = f.clauses 𝓛 𝓜.mem 𝓡.returns in let W = walk_of 𝓛 f.ended stayed c in let 𝓣 = tables 𝓤 𝓛.H 𝓜 𝓡 𝓡.env in
    let dd = no_drop Z in
    let k = triple_of 𝓛 (g.signature T Z ghosts dict dd) (g.spec T Z ghosts dict dd 𝓛 𝓜.mem 𝓡.returns) in
    let known = met 𝓤 𝓛 𝓜 𝓡 (code.calls-std_alloc::boxed::Box::from_raw 𝓡.env wired) T Z T_laws Z_laws ghosts dict dd
    (passed 𝓡.env (code.calls-std_heap::GlobalAllocator::allocate 𝓡.env wired) (code.calls-std_heap::GlobalAllocator::deallocate 𝓡.env wired) (code.calls-std_heap::GlobalAllocator::grow 𝓡.env wired) (code.calls-std_heap::GlobalAllocator::shrink 𝓡.env wired) M 𝓤 𝓛 𝓜 𝓡)
    (glued Z Z_laws 𝓡.env (code.calls-linear_memory::Destruct++none::drop 𝓡.env wired) M 𝓤 𝓛 𝓜 𝓡) in
    proved 𝓛 f.ended stayed c 𝓜 𝓡 (Goes-dropped 𝓛 0 (plain (λ _. R)) yes (λ κs x w. refl), tt)
    f.Key.name code.function (code.unfolded 𝓤 𝓛.H 𝓜 𝓡 wired)
    (λ κs. ((λ d. lowers.lowered d ∷ []), tt)) (λ κs. (lowers.val_is, tt)) (λ κs qs bounds a _ are.
    let d = a.0 in
    let at : Ptr → R.Denot = λ p. record d { at = p } in
    let y : Ptr → W.Ghost = λ p. ((κs, qs, bounds, (at p, tt), (lowers.lowered (at p) ∷ [], tt)), tt) in
    qed 𝓛 ((‵ ftrue ⊛ ‵ (R.own_val d (lowers.lowered d ∷ [])) ⊛ ‵ ftrue) ∷ ‵ ftrue ∷ []) ∵
    split ! $ drop ! $ split ! $ keep ! (0 ∷ []) $ fsplit ! $
    fpick ! (λ vss. fsplit ! $ drop ! $ fsplit ! $ drop ! $ fsplit ! $ peeks ! Z _ (shows 𝓛 Z) d.heap vss.1.0 (λ is.
    rewrite ! 0 (λ (us : List Val). ‵ (Z.own_val d.heap us)) (heap_Tells d.heap vss.1.0 is) refl $
    move ! (2 ∷ 0 ∷ []) $
    in_a_block ! d.at (λ p. block_owned d.heap p d.bytes) (fst∗ 𝓤 (never 𝓤) (sem 𝓛 (ghosts.dealloc_token d.heap (bare (lone Block.mir)) null_ptr))) (λ b o e.
    regoal ! (λ p. prop (WpFn 𝓤 𝓛.H 𝓣.C 𝓣.Λ code.function (lowers.lowered (at p) ∷ []) (W.post (y p)))) e refl $
    -- [what the box is to own; the heap]
    enter ! _ _ _ _ _ $ alloc_all ! (λ l. pass_all ! refl ((tt, (tt, (((tt, tt), tt), tt))), tt) $
    sets ! (of_opd ! (get_in ! (fld ! refl (stop !)) (sub ! 0 refl (whole !)))) refl (tt, tt) $
    sets ! (of_opd ! (get_in ! (fld ! refl (stop !)) (sub ! 1 refl (whole !)))) refl (tt, ((tt, tt), tt)) $
    first ! $ blocks ! $
    let B : RattleType = box.B E in
    let κs' : Lfts 2 = ([], ([], tt)) in
    let z : k.Ghost = ((κs', (full_share, (full_share, tt)), tt, (d.heap, (block_ptr b o, tt)), (heap_val ∷ [], (vptr b o ∷ [], tt))), d.bytes) in
    let tokens = ‵ (flft [] full_share) ⊛ ‵ (flft [] full_share) ⊛ ‵ ftrue in
    use0 𝓛 (raw (fact 𝓤 ([] ⊑ Z.lives))) (fact_i 𝓤 ([] ⊑ Z.lives) (emp 𝓤) (heap_laws.the_within [])) $ join ! $
    use0 𝓛 (raw (fact 𝓤 ([] ⊑ T.lives))) (fact_i 𝓤 ([] ⊑ T.lives) (emp 𝓤) (⊑_static [])) $ join ! $
    nothing ! $ feq_i ! (List Val) (vptr b o ∷ []) (vptr b o ∷ []) refl $ fjoin ! $ move ! (2 ∷ 0 ∷ []) $ fjoin ! $
    nothing ! $ use0 𝓛 (‵ (flft [] full_share)) (𝓛.lfts.lft-nil full_share) $ join ! $ use0 𝓛 (‵ (flft [] full_share)) (𝓛.lfts.lft-nil full_share) $ join ! $
    join ! $ join ! $ use1 𝓛 (raw (k.pre z)) (id⊢ 𝓤 _) $
    calls_at_last ! (framed 𝓤 𝓛.H 𝓜 𝓣) k known z (and_then ! (get ! refl) (and_then ! (get ! refl) (no_more !))) (λ u.
    use1 𝓛 (later (some (λ (r : B.Denot). (tokens ⊛ ‵ (B.own_val r (u ∷ []))) ⊛ some (λ (ls : Lasts (g.ended T Z ghosts dict dd) κs' z.0.3). ‵ (lasts (g.ended T Z ghosts dict dd) κs' z.0.3 ls) ⊛ (raw (fact 𝓤 (r.value ≡ d.bytes)) ⊛ raw (fact 𝓤 (r.alloc ≡ d.heap))))))) (id⊢ 𝓤 (k.post z u)) $
    await ! tt $ pick ! (λ r. split ! $ move ! (1 ∷ []) $ pick ! (λ _. split3 ! $ drop ! $ heard ! (r.value ≡ d.bytes) (λ same. drop ! $ split ! $ drop ! $
    -- [the box]
    box_out E ! r (u ∷ []) (λ b' o' h e' is_word fits. move ! (2 ∷ []) $ peeks ! Z _ (shows 𝓛 Z) r.alloc (h ∷ []) (λ is'. move ! (1 ∷ 2 ∷ 0 ∷ []) $
    box_in E ! r b' o' r.value e' refl $ rewrite ! 0 (λ (us : List Val). ‵ (B.own_val r us)) (sym is_word) refl $
    let told : u ≡ box.word E heap_val b' o' = ap only is_word ∙ ap (λ (w : Val). box.word E w b' o') (ap only (heap_Tells r.alloc (h ∷ []) is')) in
    let τ : Ty = layout (type_at (f.signature).result tt) in
    let typed : HasTy (has_ty τ u) × WT u = subst (λ (w : Val). HasTy (has_ty τ w) × WT w) (sym told) (tt, (tt, (((tt, tt), tt), tt))) in
    lands_last ! refl typed $
    exec ! 𝓣.C 𝓣.Λ (env code.Mir.locals l) (after 3 (code.function).body) (at_ret _ (W.post (y (block_ptr b o)))) $
    sets ! (of_opd ! (get ! refl)) refl typed $
    returns ! (look_at ! 0 refl) $ free_all ! refl $ keep ! (0 ∷ []) $
    suffices ! _ (ends_at 𝓛 f.ended stayed c (y (block_ptr b o)) u r (tt, tt) (tt, tt)) $ says ! same $
    nothing ! $ nothing ! $ fjoin ! $ nothing ! $ done !)))))))))))
