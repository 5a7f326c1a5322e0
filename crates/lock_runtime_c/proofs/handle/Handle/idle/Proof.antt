-- `idle` makes an empty handle of any pointer.
use mathlib.Core.Path.{refl, sym, subst}
use Rattle.std.proofs.Common.{None}
use mathlib.Core.List.{List, [], ◌∷◌, ◌++◌}
use seplogic.Ra.Ura.{Ura}
use lib.Ieee.Fits.{and_i}
use mir.Syntax.{ty_ptr}
use mir.Val.{Val, vstruct, of_list}
use base.Logic.{SProp, ent, emp}
use base.Fml.{ftrue, fsep}
use prog.Memory.{Memory}
use prog.Routine.{Routine}
use prog.Wp.{WpFn, Tables}
use types.Logic.{Logic}
use contract.Monad.{Fun}
use contract.Running.{tables, tables_of}
use sound.WpLaws.{WpFn-mono}
use types.Kit.{Item, ‵, raw, ◌⊛◌, ◌$◌, ◌∵◌, !, qed, by, move, drop, use1, join, split, fsplit, fjoin, fpack, feq_i, feq_l, suffices, done}
use types.Part.{agg}
use types.Run.{of_opd, no_more, and_then, returns, enter}
use types.ByLocal.{alloc_all, pass_all, free_all, look_at, get, sets}
use denote.RattleType.{Valss}
use denote.RawPtr.{RawPtr, ptr_val, rawptr_Lawful}
use denote.Exit.{yes}
use denote.Signature.{plain}
use denote.Steps.{nothing}
use denote.Struct.Struct.{within}
use denote.Struct.Owning.{shape}
use denote.Triple.Spec.{triple_of}
use denote.Triple.Table.{entered}
use denote.Triple.Walked.{says, Stays, stay_dropped, walk_of, ends_at, Goes-dropped, walk_Meets}
use Rattle.core.proofs.alloc.Calls.{handle_tells}
use Rattle.std_alloc.proofs.ResultValues.{and_tt}
use denote.Param.{layout}
use mir.Val.{has_ty}
use Rattle.lock_runtime_c.proofs.AsBox.{E}
use Rattle.std_heap.specs.contracts.Global as Heap
use Rattle.lock_runtime_c.specs.contracts.handle.Handle as Handle
use Rattle.lock_runtime_c.specs.contracts.handle.Handle.idle as F
use Rattle.lock_runtime_c.specs.contracts.handle.Handle.idle.Key.{name as #self}
use Rattle.lock_runtime_c.proofs.handle.Handle.idle.Statement as stated
use Rattle.lock_runtime_c.proofs.handle.Handle.idle.Code as code

abbrev stayed : Stays (F.ended).signature.params (F.ended).kept
stayed = (stay_dropped (plain (λ _. RawPtr)) yes, (stay_dropped (plain (λ _. Heap.the_row)) yes, tt))

module _ {M : Type 1} {𝓤 : Ura M} (𝓛 : Logic 𝓤) (at_mem : Memory → SProp 𝓤) (run : Routine → Fun 𝓤) (𝓣 : Tables 𝓤 𝓛.H) where
  open 𝓛 use {H}

  walk : (z : (walk_of 𝓛 F.ended stayed (F.clauses 𝓛 at_mem run)).Ghost)
      → ent 𝓤 ((walk_of 𝓛 F.ended stayed (F.clauses 𝓛 at_mem run)).pre z)
      (WpFn 𝓤 H 𝓣.C 𝓣.Λ code.function (z.0.4.0 ++ (z.0.4.1.0 ++ [])) ((walk_of 𝓛 F.ended stayed (F.clauses 𝓛 at_mem run)).post z))
  walk z =
      let Post = (walk_of 𝓛 F.ended stayed (F.clauses 𝓛 at_mem run)).post z in
      let p = z.0.3.0 in
      let a = z.0.3.1.0 in
      qed 𝓛 ((‵ ftrue ⊛ ‵ (fsep (RawPtr.own_val p z.0.4.0) (fsep (Heap.the_row.own_val a z.0.4.1.0) ftrue))) ∷ raw (emp 𝓤) ∷ []) ∵
      split ! $ drop ! $ fsplit ! $ feq_l ! (λ is. fsplit ! $
      handle_tells E.al ! a z.0.4.1.0 (λ h ws fits. move ! (1 ∷ 2 ∷ []) $ drop ! $ drop ! $
      let To = Handle.the_row in
      let v = ptr_val p in
      let typed = ((rawptr_Lawful 𝓛).typed p (v ∷ []) refl).0 in
      let w : Val = vstruct (of_list (v ∷ h ∷ [])) in
      let made : To.Denot = record { ptr = p; alloc = a; held = None } in
      let Γ : List (Item 𝓤) = ‵ (Heap.the_row.own_val a (h ∷ [])) ∷ [] in
      by ! (subst (λ (us : List Val). ent 𝓤 (types.Kit.⋆ 𝓛 Γ) (WpFn 𝓤 H 𝓣.C 𝓣.Λ code.function (us ++ (z.0.4.1.0 ++ [])) Post)) (sym is)
      (subst (λ (us : List Val). ent 𝓤 (types.Kit.⋆ 𝓛 Γ) (WpFn 𝓤 H 𝓣.C 𝓣.Λ code.function ((v ∷ []) ++ (us ++ [])) Post)) (sym ws)
      (qed 𝓛 Γ ∵ enter ! 𝓣.C 𝓣.Λ code.function (v ∷ h ∷ []) _ $ alloc_all ! (λ ls. pass_all ! refl (typed, (fits, tt)) $
      sets ! (of_opd ! (get ! refl)) refl typed $ sets ! (agg ! (and_then ! (get ! refl) (and_then ! (get ! refl) (no_more !)))) refl (
        and_i (has_ty ty_ptr v) _ typed.0 (and_tt (has_ty (layout Heap.the_row) h) fits.0),
        (typed.1, (fits.1, tt)),
      ) $ returns ! (look_at ! 0 refl) $ free_all ! refl $
      nothing ! $ nothing ! $ move ! (2 ∷ 0 ∷ []) $ fjoin ! $ feq_i ! (List Val) (v ∷ [])
      (v ∷ []) refl $ fjoin ! $ feq_i ! (List Val) (w ∷ []) (w ∷ []) refl $ fjoin ! $
      fpack ! (Valss (RawPtr ∷ Heap.the_field.row ∷ []))
      (within (shape Handle.the_type) (p, (((a.memory.seal, tt), tt), tt)) (w ∷ [])) (v ∷ [], (h ∷ [], tt)) $ fjoin ! $
      suffices ! _ (ends_at 𝓛 F.ended stayed (F.clauses 𝓛 at_mem run) z w made (tt, (tt, tt)) (tt, (tt, tt))) $ says ! refl $
      nothing ! $ nothing ! $ fjoin ! $ nothing ! $ fjoin ! $ join ! $ nothing ! $ join ! $ done !))))))

pub idle_spec : {M : Type 1} → stated.statement M
unfolding tables_of
idle_spec 𝓤 𝓛 𝓜 𝓡 wired =
    let 𝓣 : Tables 𝓤 𝓛.H = tables_of 𝓤 𝓛.H 𝓜 (tables 𝓤 𝓛.H 𝓜 𝓡 𝓡.env) in
    entered 𝓤 𝓛.H (triple_of 𝓛 F.signature (F.spec 𝓛 𝓜.mem 𝓡.returns)) 𝓣.C 𝓣.Λ #self code.function (code.unfolded 𝓤 𝓛.H 𝓜 𝓡 wired)
    (walk_Meets 𝓛 F.ended stayed (Goes-dropped 𝓛 0 (plain (λ _. RawPtr)) yes (λ κs x f. refl), (Goes-dropped 𝓛 0 (plain (λ _. Heap.the_row)) yes (λ κs x f. refl), tt))
    (F.clauses 𝓛 𝓜.mem 𝓡.returns) (WpFn 𝓤 𝓛.H 𝓣.C 𝓣.Λ code.function) (WpFn-mono 𝓤 𝓛.H 𝓛.laws 𝓣 code.function)
    (walk 𝓛 𝓜.mem 𝓡.returns 𝓣))
