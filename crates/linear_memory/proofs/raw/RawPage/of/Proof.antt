-- `of` takes a box apart: the page keeps the pointer, what lies behind it, and the right to free that.
use Rattle.std.proofs.Common.{◌≡◌, List, [], ◌∷◌, ◌++◌, ◌∙◌, ap, sym, refl, subst}
use Rattle.std.proofs.raw_atomic.Walks.{proved_at}
use Rattle.std.proofs.BoxSteps.Form as box
use Rattle.std.proofs.BoxSteps.Steps.{box_out, box_in}
use base.Fraction.{full_share}
use base.Logic.{SProp, ent, emp, never, fst∗, id⊢}
use base.Fml.{ftrue, flft}
use contract.BorrowLft.{◌⊑◌, ⊑_static}
use contract.Lifetimes.{Lfts}
use contract.Monad.{fact, fact_i}
use contract.Running.{tables}
use denote.Builtin.{RawPtr}
use denote.Exit.{yes}
use denote.Laws.{shows}
use denote.Memory.{lone}
use denote.RattleType.{RattleType, Valss}
use denote.RawPtr.{Ptr, block_ptr, null_ptr, ptr_val, in_a_block}
use denote.Signature.{plain}
use denote.Steps.{nothing, peeks, heard, only}
use denote.Struct.Owning.{shape, to}
use denote.Struct.Struct.{within}
use denote.Struct.Tuple.{Tuple}
use denote.Triple.Call.{calls_at}
use denote.Triple.Clauses.{Lasts, lasts}
use denote.Triple.Spec.{triple_of}
use denote.Triple.Table.{framed}
use denote.Triple.Walked.{Stays, walk_of, says, stay_dropped, Goes-dropped, ends_at}
use mir.Raw.{raw as bare}
use mir.Val.{Val, vptr, vstruct, of_list}
use prog.Wp.{WpFn}
use types.ByLocal.{alloc_all, pass_all, free_all, look_at, get, get_in, sets, lands_as}
use types.Kit.{‵, raw, ◌⊛◌, some, later, ◌$◌, ◌∵◌, !, qed, done, move, keep, drop, use0, use1, split, split3, join, fsplit, fjoin, fpick, fpack, feq_l, feq_i, pick, await, rewrite, suffices}
use types.Logic.{sem}
use types.Part.{whole, sub, agg}
use types.Run.{enter, of_opd, stop, fld, no_more, and_then, returns}
use Rattle.std_heap.specs.contracts.Global as heap
use Rattle.std_heap.specs.contracts.GlobalAllocator.TheImpl.{ghosts, dict}
use Rattle.std_heap.proofs.GlobalAllocator.TheImpl.Met.{passed}
use Rattle.std_heap.proofs.Global.TheLaws as heap_laws
use Rattle.std.proofs.Handle.{heap_val, heap_Tells}
use Rattle.std_alloc.specs.Box.Ownership.{box_owns}
use Rattle.std_alloc.specs.contracts.boxed.Box as boxed
use Rattle.std_alloc.specs.contracts.boxed.Box.into_raw_with_allocator as g
use Rattle.std_alloc.proofs.boxed.Box.into_raw_with_allocator.Met.{met}
use Rattle.linear_memory.specs.inner.Ownership.{Block}
use Rattle.linear_memory.specs.contracts.raw.RawPage as page
use Rattle.linear_memory.specs.contracts.raw.RawPage.of as f
use Rattle.linear_memory.proofs.Boxed.{E, T, T_laws, Z, Z_laws, no_drop, glued}
use Rattle.linear_memory.proofs.raw.RawPage.of.Statement.{statement}
use Rattle.linear_memory.proofs.raw.RawPage.of.Code as code

abbrev B : RattleType
B = box.B E

-- the parameter's type, as the signature has it
abbrev Given : RattleType
Given = boxed.the_row Block heap.the_row ghosts

abbrev stayed : Stays f.ended.signature.params f.ended.kept
stayed = (stay_dropped (plain (λ _. Given)) yes, tt)

pub of_spec : {M : Type 1} → statement M
of_spec {M} 𝓤 𝓛 𝓜 𝓡 wired =
    let c = f.clauses 𝓛 𝓜.mem 𝓡.returns in let W = walk_of 𝓛 f.ended stayed c in let 𝓣 = tables 𝓤 𝓛.H 𝓜 𝓡 𝓡.env in
    let dd = no_drop Z in let dx = no_drop T in let drops = code.calls-linear_memory::Destruct++none::drop 𝓡.env wired in
    let k = triple_of 𝓛 (g.signature T Z ghosts dict dd dx) (g.spec T Z ghosts dict dd dx 𝓛 𝓜.mem 𝓡.returns) in
    let known = met 𝓤 𝓛 𝓜 𝓡 (code.calls-std_alloc::boxed::Box::into_raw_with_allocator 𝓡.env wired) T Z T_laws Z_laws ghosts dict dd dx
    (passed 𝓡.env (code.calls-std_heap::GlobalAllocator::allocate 𝓡.env wired) (code.calls-std_heap::GlobalAllocator::deallocate 𝓡.env wired) (code.calls-std_heap::GlobalAllocator::grow 𝓡.env wired) (code.calls-std_heap::GlobalAllocator::shrink 𝓡.env wired) M 𝓤 𝓛 𝓜 𝓡)
    (glued Z Z_laws 𝓡.env drops M 𝓤 𝓛 𝓜 𝓡) (glued T T_laws 𝓡.env drops M 𝓤 𝓛 𝓜 𝓡) in
    proved_at 𝓛 f.ended stayed c 𝓜 𝓡 (Goes-dropped 𝓛 0 (plain (λ _. Given)) yes (λ κs x w. refl), tt)
    f.Key.name code.function (code.unfolded 𝓤 𝓛.H 𝓜 𝓡 wired) (λ y are.
    let v = y.0.3.0 in
    let Run : List Val → SProp 𝓤 = λ us. WpFn 𝓤 𝓛.H 𝓣.C 𝓣.Λ code.function us (W.post y) in
    qed 𝓛 ((‵ ftrue ⊛ ‵ (B.own_val v y.0.4.0) ⊛ ‵ ftrue) ∷ ‵ ftrue ∷ []) ∵
    split ! $ drop ! $ split ! $ keep ! (0 ∷ []) $
    box_out E ! v y.0.4.0 (λ b o h e is_word fits. move ! (2 ∷ []) $ peeks ! Z _ (shows 𝓛 Z) v.alloc (h ∷ []) (λ is.
    let one : h ≡ heap_val = ap only (heap_Tells v.alloc (h ∷ []) is) in
    let w = box.word E heap_val b o in
    let told : y.0.4.0 ≡ w ∷ [] = is_word ∙ ap (λ (x : Val). box.word E x b o ∷ []) one in
    rewrite ! 0 (λ (x : Val). ‵ (Z.own_val v.alloc (x ∷ []))) one refl $ move ! (1 ∷ 2 ∷ 0 ∷ []) $ box_in E ! v b o v.value e refl $
    suffices ! (Run (w ∷ [])) (subst (λ (us : List Val). ent 𝓤 (Run (w ∷ [])) (Run (us ++ []))) (sym told) (id⊢ 𝓤 (Run (w ∷ [])))) $
    -- [the box]
    enter ! 𝓣.C 𝓣.Λ code.function (w ∷ []) _ $ alloc_all ! (λ l. pass_all ! refl ((tt, (tt, (((tt, tt), tt), tt))), tt) $
    sets ! (of_opd ! (get ! refl)) refl (tt, (tt, (((tt, tt), tt), tt))) $
    let Pair : RattleType = Tuple (RawPtr ∷ box.P E ∷ []) in
    let κs : Lfts 2 = ([], ([], tt)) in
    let z : k.Ghost = ((κs, (full_share, (full_share, tt)), tt, (v, tt), (w ∷ [], tt)), tt) in
    let tokens = ‵ (flft [] full_share) ⊛ ‵ (flft [] full_share) ⊛ ‵ ftrue in
    nothing ! $ use0 𝓛 (raw (fact 𝓤 ([] ⊑ Z.lives))) (fact_i 𝓤 ([] ⊑ Z.lives) (emp 𝓤) (heap_laws.the_within [])) $ join ! $
    use0 𝓛 (raw (fact 𝓤 ([] ⊑ T.lives))) (fact_i 𝓤 ([] ⊑ T.lives) (emp 𝓤) (⊑_static [])) $ join ! $
    nothing ! $ move ! (2 ∷ 0 ∷ []) $ fjoin ! $
    nothing ! $ use0 𝓛 (‵ (flft [] full_share)) (𝓛.lfts.lft-nil full_share) $ join ! $ use0 𝓛 (‵ (flft [] full_share)) (𝓛.lfts.lft-nil full_share) $ join ! $
    join ! $ join ! $ use1 𝓛 (raw (k.pre z)) (id⊢ 𝓤 _) $
    calls_at ! (framed 𝓤 𝓛.H 𝓜 𝓣) k known z (and_then ! (get ! refl) (no_more !)) (λ u.
    use1 𝓛 (later (some (λ (r : Ptr × Z.Denot). (tokens ⊛ ‵ (Pair.own_val r (u ∷ []))) ⊛ some (λ (ls : Lasts (g.ended T Z ghosts dict dd dx) κs z.0.3). ‵ (lasts (g.ended T Z ghosts dict dd dx) κs z.0.3 ls) ⊛ (raw (fact 𝓤 (r.1 ≡ v.alloc)) ⊛ ‵ (box_owns (ghosts.dealloc_token v.alloc) (box.R E) r.0 v.value)))))) (id⊢ 𝓤 (k.post z u)) $
    await ! tt $ pick ! (λ r. split ! $ move ! (1 ∷ []) $ pick ! (λ _. split3 ! $ drop ! $ heard ! (r.1 ≡ v.alloc) (λ _.
    in_a_block ! r.0 (λ p. box_owns (ghosts.dealloc_token v.alloc) (box.R E) p v.value) (fst∗ 𝓤 (never 𝓤) (sem 𝓛 (ghosts.dealloc_token v.alloc (bare (lone Block.mir)) null_ptr))) (λ at off there.
    -- [what lies behind the pointer; the tokens and the pair]
    move ! (1 ∷ []) $ split ! $ drop ! $ fpick ! (λ vss. fsplit ! $ feq_l ! (λ as_pair. fsplit ! $ feq_l ! (λ as_pointer. fsplit ! $ peeks ! Z _ (shows 𝓛 Z) r.1 vss.1.0 (λ as_heap.
    let heaps = heap_Tells r.1 vss.1.0 as_heap in
    rewrite ! 0 (λ (us : List Val). ‵ (Z.own_val r.1 us)) heaps refl $
    lands_as ! (ap only (as_pair ∙ (λ j. vstruct (of_list ((as_pointer ∙ ap (λ (p : Ptr). ptr_val p ∷ []) there) j ++ (heaps j ++ []))) ∷ []))) refl (tt, (tt, (((tt, tt), tt), tt))) $
    sets ! (of_opd ! (get_in ! (fld ! refl (stop !)) (sub ! 0 refl (whole !)))) refl (tt, tt) $
    sets ! (of_opd ! (get_in ! (fld ! refl (stop !)) (sub ! 1 refl (whole !)))) refl (tt, ((tt, tt), tt)) $
    sets ! (agg ! (and_then ! (get ! refl) (and_then ! (get ! refl) (no_more !)))) refl (tt, (tt, (((tt, tt), tt), tt))) $
    let d : page.the_row.Denot = record { at = block_ptr at off; heap = r.1; bytes = v.value } in
    let made : Val = box.word E heap_val at off in
    fjoin ! $ feq_i ! (List Val) (vptr at off ∷ []) (vptr at off ∷ []) refl $ fjoin ! $ feq_i ! (List Val) (made ∷ []) (made ∷ []) refl $ fjoin ! $
    fpack ! (Valss (RawPtr ∷ heap.the_row ∷ [])) (within (shape page.the_type) (to page.the_type d) (made ∷ [])) (vptr at off ∷ [], (heap_val ∷ [], tt)) $ fjoin ! $
    -- [the page]
    returns ! (look_at ! 0 refl) $ free_all ! refl $ keep ! (0 ∷ []) $
    suffices ! _ (ends_at 𝓛 f.ended stayed c y made d (tt, tt) (tt, tt)) $ says ! refl $
    nothing ! $ nothing ! $ fjoin ! $ nothing ! $ done !)))))))))))))
