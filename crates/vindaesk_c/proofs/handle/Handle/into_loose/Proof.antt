-- `into_loose` reads the pointer, which is null where the handle owns nothing.
use Rattle.std.proofs.Common.{List, [], ◌∷◌, ◌++◌, refl, sym, subst, lit<}
use seplogic.Ra.Ura.{Ura}
use mir.Raw.{raw as bare}
use mir.Val.{Val, vptr, vnull, vcons, vnil}
use base.Logic.{SProp, ent, emp, guard, guard_i, id⊢, snd∗, via}
use base.Fml.{Fml, ftrue, fsep}
use base.Fraction.{full_share}
use prog.Memory.{Memory}
use prog.Routine.{Routine}
use prog.Wp.{WpFn, Tables}
use types.Logic.{Logic, sem}
use contract.Monad.{Fun, fact_use}
use contract.Running.{tables, tables_of}
use sound.WpLaws.{WpFn-mono}
use types.Kit.{at_ret, ‵, raw, given, ◌⊛◌, ◌$◌, ◌∵◌, !, qed, drop, learn, use0, use1, join, split, fsplit, fjoin, suffices, done, move}
use types.Match.{live}
use types.Part.{whole, sub, agg}
use types.Run.{stop, fld, bin, lit, of_opd, no_more, and_then, first, branches, exec, returns, enter}
use types.ByLocal.{alloc_all, pass_all, free_all, look_at, get, get_in, sets, sets_last, env}
use denote.Exit.{yes}
use denote.RattleType.{RattleType}
use denote.Memory.{lone}
use denote.Param.{layout}
use denote.RawPtr.{Ptr, block_ptr, lies_at, tests_null, Testable}
use denote.Signature.{plain, type_at}
use denote.Steps.{nothing}
use denote.Triple.Spec.{triple_of}
use denote.Triple.Table.{entered}
use denote.Triple.Walked.{says, Stays, stay_dropped, walk_of, ends_at, Goes-dropped, walk_Meets}
use Rattle.std.proofs.alloc.Shapes.{after}
use Rattle.std.proofs.cell.Inside.{Good}
use Rattle.std.proofs.option.Made.{Some-of, none_of}
use Rattle.std.proofs.GlobalToken.{dealloc_token-Testable}
use Rattle.std.specs.Box.Ownership.{box_owns}
use Rattle.std.specs.Prelude.{Option, None, Some}
use Rattle.std.specs.contracts.impls.GlobalAllocator.TheImpl.{ghosts}
use Rattle.std.proofs.ResultValues.{and_tt}
use Rattle.vindaesk_c.proofs.LooseSteps.{Loose, both, loose_good, loose_in, loose_out}
use Rattle.vindaesk_c.proofs.HandleSteps.{R, Z, LZ, Handle, null_good, null_out}
use Rattle.vindaesk_c.specs.contracts.handle.Handle.into_loose as F
use Rattle.vindaesk_c.specs.contracts.handle.Handle.into_loose.Key.{name as #self}
use Rattle.vindaesk_c.proofs.handle.Handle.into_loose.Statement as stated
use Rattle.vindaesk_c.proofs.handle.Handle.into_loose.Code as code

abbrev To : RattleType
To = Loose R Z LZ ghosts

abbrev stayed : Stays (F.ended).signature.params (F.ended).kept
stayed = (stay_dropped (plain (λ _. Handle)) yes, tt)

module _ {M : Type 1} {𝓤 : Ura M} (𝓛 : Logic 𝓤) where
  abbrev owned : Z.Denot → Ptr → R.Denot → Fml
  owned a p x = box_owns (ghosts.dealloc_token a) R p x

  -- what may be freed may be compared with null
  tested : (a : Z.Denot) (p : Ptr) (x : R.Denot) → ent 𝓤 (sem 𝓛 (owned a p x)) (guard 𝓤 (Testable p) (sem 𝓛 (owned a p x)))
  tested a p x =
      fact_use 𝓤 (Testable p) (via 𝓤 _ (snd∗ 𝓤 (sem 𝓛 (lies_at R full_share p x)) (sem 𝓛 (ghosts.dealloc_token a (bare (lone R.mir)) p))) (dealloc_token-Testable 𝓛 a (bare (lone R.mir)) p))
      (guard_i 𝓤 (Testable p) (sem 𝓛 (owned a p x)))

module _ {M : Type 1} {𝓤 : Ura M} (𝓛 : Logic 𝓤) (at_mem : Memory → SProp 𝓤) (run : Routine → Fun 𝓤) (𝓣 : Tables 𝓤 𝓛.H) where
  open 𝓛 use {H}

  abbrev Bound : Type 0
  Bound = (walk_of 𝓛 F.ended stayed (F.clauses 𝓛 at_mem run)).Ghost

  abbrev bound : Ptr → Z.Denot → Option R.Denot → List Val → Bound
  bound p a held vs = ((tt, tt, tt, (record { at = p; alloc = a; held = held }, tt), (vs, tt)), tt)

  abbrev Goes : Bound → Type 1
  Goes z = ent 𝓤 ((walk_of 𝓛 F.ended stayed (F.clauses 𝓛 at_mem run)).pre z) (WpFn 𝓤 H 𝓣.C 𝓣.Λ code.function (z.0.4.0 ++ []) ((walk_of 𝓛 F.ended stayed (F.clauses 𝓛 at_mem run)).post z))

  abbrev Out : RattleType
  Out = type_at (F.signature).result tt

  walk : (p : Ptr) (a : Z.Denot) (held : Option R.Denot) (vs : List Val) → Goes (bound p a held vs)
  walk p a None vs =
      let z = bound p a None vs in
      let Post = (walk_of 𝓛 F.ended stayed (F.clauses 𝓛 at_mem run)).post z in
      let Run : List Val → SProp 𝓤 = λ ws. WpFn 𝓤 H 𝓣.C 𝓣.Λ code.function ws Post in
      qed 𝓛 ((‵ ftrue ⊛ ‵ (fsep (Handle.own_val (record { at = p; alloc = a; held = None }) vs) ftrue)) ∷ raw (emp 𝓤) ∷ []) ∵ split ! $ drop ! $ fsplit ! $
      null_out ! p a vs (λ h e ws fits. move ! (0 ∷ 1 ∷ 2 ∷ []) $ drop ! $ drop ! $ drop ! $
      let w = both vnull h in
      suffices ! (Run (w ∷ [])) (subst (λ (us : List Val). ent 𝓤 (Run (w ∷ [])) (Run us)) (sym (λ i. ws i ++ [])) (id⊢ 𝓤 (Run (w ∷ [])))) $
      enter ! 𝓣.C 𝓣.Λ code.function (w ∷ []) _ $ alloc_all ! (λ ls. pass_all ! refl (null_good h fits, tt) $ let Ev = env (code.function).locals ls in
      sets ! (of_opd ! (get_in ! (fld ! refl (stop !)) (sub ! 0 refl (whole !)))) refl (tt, record { fits = lit< tt }) $ sets ! (of_opd ! (get_in ! (fld ! refl (stop !)) (sub ! 1 refl (whole !)))) refl fits $
      sets ! (bin ! (get ! refl) (lit ! tt) tt) refl (tt, tt) $ first ! $ branches ! (get ! refl)
      (λ _. sets_last ! (agg ! (and_then ! (lit ! tt) (no_more !))) refl (tt, (record { fits = lit< tt }, tt)) $ exec ! 𝓣.C 𝓣.Λ Ev (after 4 (code.function).body) (at_ret Ev Post) $
      sets ! (of_opd ! (get ! refl)) refl (tt, (record { fits = lit< tt }, tt)) $
      use0 𝓛 (‵ (Out.own_val None (live 0 vnil ∷ []))) (none_of 𝓛 To) $ returns ! (look_at ! 0 refl) $ free_all ! refl $
      suffices ! _ (ends_at 𝓛 F.ended stayed (F.clauses 𝓛 at_mem run) z (live 0 vnil) None (tt, tt) (tt, tt)) $ says ! refl $
      nothing ! $ nothing ! $ fjoin ! $ join ! $ nothing ! $ join ! $ done !)
      (λ wrong. absurd wrong)))
  walk p a (Some x) vs =
      let z = bound p a (Some x) vs in
      let Post = (walk_of 𝓛 F.ended stayed (F.clauses 𝓛 at_mem run)).post z in
      let Run : List Val → SProp 𝓤 = λ ws. WpFn 𝓤 H 𝓣.C 𝓣.Λ code.function ws Post in
      let v : To.Denot = record { at = p; alloc = a; value = x } in
      qed 𝓛 ((‵ ftrue ⊛ ‵ (fsep (To.own_val v vs) ftrue)) ∷ raw (emp 𝓤) ∷ []) ∵ split ! $ drop ! $ fsplit ! $
      loose_out R Z LZ ghosts ! v vs (λ b o h e ws fits.
      use1 𝓛 (given (Testable (block_ptr b o)) (‵ (owned 𝓛 a (block_ptr b o) x))) (tested 𝓛 a (block_ptr b o) x) $ learn ! (λ may.
      loose_in R Z LZ ghosts ! b o h a x $ move ! (1 ∷ 2 ∷ []) $ drop ! $ drop ! $
      let w = both (vptr b o) h in
      let d : To.Denot = record { at = block_ptr b o; alloc = a; value = x } in
      let typed = loose_good R Z LZ ghosts b o h fits in
      let v₁ : Val = live 1 (vcons w vnil) in
      let good : Good (layout Out) v₁ = (and_tt _ typed.0, (record { fits = lit< tt }, (typed.1, tt))) in
      suffices ! (Run (w ∷ [])) (subst (λ (us : List Val). ent 𝓤 (Run (w ∷ [])) (Run us)) (sym (λ i. ws i ++ [])) (id⊢ 𝓤 (Run (w ∷ [])))) $
      enter ! 𝓣.C 𝓣.Λ code.function (w ∷ []) _ $ alloc_all ! (λ ls. pass_all ! refl (typed, tt) $ let Ev = env (code.function).locals ls in
      sets ! (of_opd ! (get_in ! (fld ! refl (stop !)) (sub ! 0 refl (whole !)))) refl (tt, tt) $ sets ! (of_opd ! (get_in ! (fld ! refl (stop !)) (sub ! 1 refl (whole !)))) refl fits $
      sets ! (bin ! (get ! refl) (lit ! tt) (tests_null (block_ptr b o) may)) refl (tt, tt) $ first ! $ branches ! (get ! refl)
      (λ wrong. absurd wrong)
      (λ _. sets ! (of_opd ! (get ! refl)) refl (tt, tt) $ sets ! (agg ! (and_then ! (get ! refl) (and_then ! (get ! refl) (no_more !)))) refl typed $
      sets_last ! (agg ! (and_then ! (lit ! tt) (and_then ! (get ! refl) (no_more !)))) refl good $
      exec ! 𝓣.C 𝓣.Λ Ev (after 4 (code.function).body) (at_ret Ev Post) $ sets ! (of_opd ! (get ! refl)) refl good $
      use1 𝓛 (‵ (Out.own_val (Some d) (v₁ ∷ []))) (Some-of 𝓛 To d w) $ returns ! (look_at ! 0 refl) $ free_all ! refl $
      suffices ! _ (ends_at 𝓛 F.ended stayed (F.clauses 𝓛 at_mem run) z v₁ (Some d) (tt, tt) (tt, tt)) $ says ! refl $
      nothing ! $ nothing ! $ fjoin ! $ join ! $ nothing ! $ join ! $ done !))))

pub into_loose_spec : {M : Type 1} → stated.statement M
unfolding tables_of
into_loose_spec 𝓤 𝓛 𝓜 𝓡 wired =
    let 𝓣 : Tables 𝓤 𝓛.H = tables_of 𝓤 𝓛.H 𝓜 (tables 𝓤 𝓛.H 𝓜 𝓡 𝓡.env) in
    entered 𝓤 𝓛.H (triple_of 𝓛 F.signature (F.spec 𝓛 𝓜.mem 𝓡.returns)) 𝓣.C 𝓣.Λ #self code.function (code.unfolded 𝓤 𝓛.H 𝓜 𝓡 wired)
    (walk_Meets 𝓛 F.ended stayed (Goes-dropped 𝓛 0 (plain (λ _. Handle)) yes (λ κs x f. refl), tt) (F.clauses 𝓛 𝓜.mem 𝓡.returns) (WpFn 𝓤 𝓛.H 𝓣.C 𝓣.Λ code.function) (WpFn-mono 𝓤 𝓛.H 𝓛.laws 𝓣 code.function)
    (λ z. walk 𝓛 𝓜.mem 𝓡.returns 𝓣 z.0.3.0.at z.0.3.0.alloc z.0.3.0.held z.0.4.0))
