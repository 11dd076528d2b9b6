-- `read` follows the pointer through the `&`, which lends the bytes.
use Rattle.std.proofs.Common.{ℕ, List, [], ◌∷◌, ◌+◌, refl}
use Rattle.std.proofs.raw_atomic.Walks.{proved}
use Rattle.std.proofs.VecSteps.Shapes.{after}
use Rattle.std.proofs.Words.{pointer_in, pointer_out}
use base.Logic.{ent, sep}
use base.Fml.{Lft, ftrue, fhide, flft}
use contract.Monad.{fact}
use contract.Running.{tables}
use denote.Builtin.{RawPtr, RefOf}
use denote.Exit.{yes}
use denote.Memory.{hidden_shr}
use denote.Opens.{shr_dup, unhide, hide}
use denote.RattleType.{RattleType, RowLaws}
use denote.RawPtr.{InBlock, block_of, count_of, ptr_row_laws}
use denote.Ref.{ShrRef, shr_vals, shr_Tells}
use denote.Signature.{plain}
use denote.Steps.{nothing, heard}
use denote.Struct.Lending.{in_block_says, lent_out}
use denote.Struct.Owning.{shape, to}
use denote.Struct.Struct.{Struct, Struct-row_laws}
use denote.Triple.Walked.{Stays, walk_of, says, stay_dropped, Goes-dropped, ends_at}
use mir.Syntax.{named}
use mir.Val.{Val, vptr}
use seplogic.Ra.Ura.{Ura}
use types.ByLocal.{alloc_all, pass_all, free_all, look_at, get, through, sets, sets_last, env}
use types.Kit.{‵, raw, ◌⊛◌, at_ret, ◌$◌, ◌∵◌, !, qed, done, move, keep, drop, use1, split, join, fsplit, fjoin, feq_i, suffices, frame}
use types.Logic.{Logic, sem}
use types.Run.{enter, of_opd, addr, look, stop, fld, hop, first, blocks, exec, returns}
use Rattle.std_heap.specs.contracts.Global as heap
use Rattle.std_heap.proofs.Global.TheLaws as heap_laws
use Rattle.linear_memory.specs.contracts.raw.RawPage as page
use Rattle.linear_memory.specs.contracts.raw.RawPage.read as f
use Rattle.linear_memory.proofs.raw.RawPage.read.Statement.{statement}
use Rattle.linear_memory.proofs.raw.RawPage.read.Code as code

abbrev R : RattleType
R = page.the_row

-- the pointer and the heap, as fields
abbrev Words : RattleType
Words = Struct (shape page.the_type)

words_laws : RowLaws Words
words_laws = Struct-row_laws (shape page.the_type) (ptr_row_laws, (heap_laws.the_field_shared.shr_laws, tt))

shows_pointer : {M : Type 1} {𝓤 : Ura M} (𝓛 : Logic 𝓤) (κ : Lft) (d : R.Denot) (b o : ℕ)
    → ent 𝓤 (sem 𝓛 (hidden_shr Words κ (to page.the_type d) b o)) (sep 𝓤 (sem 𝓛 (hidden_shr RawPtr κ d.at b (o + 0))) (sem 𝓛 (hidden_shr Words κ (to page.the_type d) b o)))
shows_pointer 𝓛 κ d b o =
    qed 𝓛 (‵ (hidden_shr Words κ (to page.the_type d) b o) ∷ []) ∵
    shr_dup ! Words words_laws (to page.the_type d) b o κ $ unhide ! $ fsplit ! $ fsplit ! $ hide ! $ keep ! (0 ∷ 3 ∷ []) $ done !

abbrev stayed : Stays f.ended.signature.params f.ended.kept
stayed = (stay_dropped (RefOf (0 ∷ []) tt (plain (λ _. R)) (λ _. tt)) yes, tt)

pub read_spec : {M : Type 1} → statement M
read_spec 𝓤 𝓛 𝓜 𝓡 wired =
    let c = f.clauses 𝓛 𝓜.mem 𝓡.returns in let W = walk_of 𝓛 f.ended stayed c in let 𝓣 = tables 𝓤 𝓛.H 𝓜 𝓡 𝓡.env in
    proved 𝓛 f.ended stayed c 𝓜 𝓡 (Goes-dropped 𝓛 1 (RefOf (0 ∷ []) tt (plain (λ _. R)) (λ _. tt)) yes (λ κs x w. refl), tt)
    f.Key.name code.function (code.unfolded 𝓤 𝓛.H 𝓜 𝓡 wired)
    (λ κs. (shr_vals, tt)) (λ κs. (shr_Tells (named 0) κs.0 R, tt)) (λ κs qs bounds a _ are.
    let κ = κs.0 in let b = a.0.ref_ptr.0 in let o = a.0.ref_ptr.1 in let d = a.0.now in let vs = shr_vals a.0 in
    let y : W.Ghost = ((κs, qs, bounds, a, (vs, tt)), tt) in
    let at : ℕ × ℕ = (block_of d.at, count_of d.at) in
    let fields = hidden_shr Words κ (to page.the_type d) b o in
    qed 𝓛 (((‵ (flft κ qs.0) ⊛ ‵ ftrue) ⊛ ‵ ((ShrRef (named 0) κ R).own_val a.0 vs) ⊛ ‵ ftrue) ∷ ‵ ftrue ∷ []) ∵
    split ! $ split ! $ move ! (2 ∷ []) $ split ! $ keep ! (0 ∷ 2 ∷ []) $
    enter ! _ _ _ _ _ $ alloc_all ! (λ l. pass_all ! refl ((tt, tt), tt) $
    fsplit ! $ drop ! $
    use1 𝓛 (‵ fields ⊛ ‵ (fhide (page.the_lent d d.at κ))) (lent_out 𝓛 page.struct (page.the_codes heap.the_row.coded) page.the_heap page.the_lent κ d b o) $ split ! $
    -- [the fields; what the page lends; the token]
    move ! (1 ∷ []) $ unhide ! $ fsplit ! $ use1 𝓛 (raw (fact 𝓤 (InBlock d.at))) (in_block_says 𝓛 d.at) $ heard ! (InBlock d.at) (λ inside. hide ! $
    move ! (1 ∷ 2 ∷ []) $ pointer_in ! tt d.at inside b (o + 0) (shows_pointer 𝓛 κ d b o) (λ s.
    first ! $ blocks ! $
    sets_last ! (addr ! (through ! refl (fld ! refl (hop ! (look ! 1 refl) (stop !))))) refl (tt, tt) $
    exec ! 𝓣.C 𝓣.Λ (env code.Mir.locals l) (after 1 (code.function).body) (at_ret _ (W.post y)) $
    sets ! (of_opd ! (get ! refl)) refl (tt, tt) $
    pointer_out ! tt d.at inside b (o + 0) $
    -- [the token; the fields; the bytes]
    returns ! (look_at ! 0 refl) $ free_all ! refl $ keep ! (2 ∷ 0 ∷ []) $
    feq_i ! (List Val) (vptr at.0 at.1 ∷ []) (vptr at.0 at.1 ∷ []) refl $ fjoin ! $
    suffices ! _ (ends_at 𝓛 f.ended stayed c y (vptr at.0 at.1) (record { ref_ptr = at; now = d.bytes }) (tt, tt) (tt, tt)) $ says ! refl $
    nothing ! $ move ! (2 ∷ 0 ∷ []) $ join ! $ frame ! $ nothing ! $ nothing ! $ fjoin ! $ done !))))
