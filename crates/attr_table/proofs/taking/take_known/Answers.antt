use Rattle.std.proofs.Common.{◌≡◌, ◌∙◌, ℕ, true, false, Option, Result, Ok, Err, refl, sym, ap, subst}
use Rattle.std.proofs.lemmas.Bool.{ne_eqb}
use Rattle.std.specs.Prelude.{◌==◌, slice_index_or, slice_set}
use Rattle.std.specs.Result.{IsErrAnd}
use Rattle.axml_chunks.specs.Pool.{StringPool}
use Rattle.axml_reader.specs.declared.doc.Attr.{Attr}
use Rattle.view_model.specs.declared.fault.Fault.{Fault}
use Rattle.view_model.specs.declared.fault.Fault.TheVariants as fault
use Rattle.view_model.specs.declared.refusal.Refusal.{Refusal}
use Rattle.view_model.specs.Numbers.{bad_value, duplicate, theme_ref}
use Rattle.view_model.specs.Refusals.{PlainRefusal, plain_refusal, refusal_numbered, ◌>>=◌}
use Rattle.view_model.specs.Resources.{Entries, Resource}
use Rattle.attr_table.specs.declared.draft.Draft.{Draft}
use Rattle.attr_table.specs.declared.table.Takes.{Takes}
use Rattle.attr_table.specs.Kinds.{theme_kind}
use Rattle.attr_table.specs.Setting.{HasVerb, with_given}
use Rattle.attr_table.specs.Table.{takes_at}
use Rattle.attr_table.specs.Taken.{DraftsAs}
use Rattle.attr_table.specs.Taking.{set_at, with_known}
use Rattle.attr_table.specs.Values.{found_of, given_of}
use Rattle.attr_table.proofs.TableLaws.{verbs}
use Rattle.attr_table.proofs.taking.take_known.Goals as goal

-- the result of a step that refuses
refused : (step : Result Draft PlainRefusal) (now : Draft) (refusal : Refusal) (number : ℕ) (why : Fault) → step ≡ Err (refusal_numbered number) → plain_refusal refusal ≡ refusal_numbered number → why ≡ fault.Refused refusal
    → DraftsAs step now (Err why)
refused step now refusal number why is plain same =
    subst (λ why. DraftsAs step now (Err why)) (sym same) (is ∙ ap (λ r. let made : Result Draft PlainRefusal = Err r in made) (sym plain))

refused_as : (step : Result Draft PlainRefusal) (now : Draft) (refusal : Refusal) (result : Result (Unit {0}) Fault) → step ≡ Err (plain_refusal refusal) → IsErrAnd result (λ why. why ≡ fault.Refused refusal)
    → DraftsAs step now result
refused_as step now refusal (Ok answer) is same = absurd same
refused_as step now refusal (Err why) is same = subst (λ why. DraftsAs step now (Err why)) (sym same) is

no_memory : (step : Result Draft PlainRefusal) (now : Draft) (result : Result (Unit {0}) Fault) → IsErrAnd result (λ why. why ≡ fault.NoMemory) → DraftsAs step now result
no_memory step now (Ok answer) same = absurd same
no_memory step now (Err why) same = subst (λ why. DraftsAs step now (Err why)) (sym same) tt

-- an attribute that is known, case by case
known_twice : (pool : StringPool) (resources : Entries) (dpi : ℕ) (attr : Attr) (place : ℕ) (draft : Draft) → slice_index_or draft.came place false ≡ true
    → with_known pool resources dpi attr place draft ≡ Err (refusal_numbered duplicate)
unfolding with_known
known_twice pool resources dpi attr place draft came = rw came refl

known_theme : (pool : StringPool) (resources : Entries) (dpi : ℕ) (attr : Attr) (place : ℕ) (draft : Draft) → slice_index_or draft.came place false ≡ false → attr.kind ≡ theme_kind
    → with_known pool resources dpi attr place draft ≡ Err (refusal_numbered theme_ref)
unfolding with_known
known_theme pool resources dpi attr place draft came kind = rw (came, kind) refl

known_found : (pool : StringPool) (resources : Entries) (dpi : ℕ) (attr : Attr) (place : ℕ) (draft : Draft) (takes : Takes) (found : Result (Option Resource) PlainRefusal) → slice_index_or draft.came place false ≡ false
    → (attr.kind == theme_kind) ≡ false → takes ≡ takes_at place → found_of resources takes attr.kind attr.word ≡ found
    → with_known pool resources dpi attr place draft ≡ (found >>= (λ one. set_at place (given_of pool dpi takes attr.kind attr.word one) draft))
unfolding with_known
known_found pool resources dpi attr place draft takes found came kind at is =
    subst (λ f. with_known pool resources dpi attr place draft ≡ (f >>= (λ one. set_at place (given_of pool dpi takes attr.kind attr.word one) draft))) is
    (subst (λ t. with_known pool resources dpi attr place draft ≡ (found_of resources t attr.kind attr.word >>= (λ one. set_at place (given_of pool dpi t attr.kind attr.word one) draft))) (sym at) (rw (came, kind) refl))

pub returns-then-draft-place-clause-value : goal.returns-then-draft-place-clause-value
returns-then-draft-place-clause-value c =
    let s = c.args.source.now in
    refused _ c.args.draft.now c.plain.result duplicate c.into.result (known_twice s.doc.now.pool s.res.now s.dpi c.args.attr c.args.place c.args.draft.now c.if-draft-place.true) c.plain.ensures c.into.ensures

pub returns-then-attr-eq-THEME-clause-value : goal.returns-then-attr-eq-THEME-clause-value
returns-then-attr-eq-THEME-clause-value c =
    let s = c.args.source.now in
    refused _ c.args.draft.now c.plain-then-attr-eq-THEME.result theme_ref c.into-then-attr-eq-THEME.result
    (known_theme s.doc.now.pool s.res.now s.dpi c.args.attr c.args.place c.args.draft.now c.if-draft-place.false c.if-attr-eq-THEME.true) c.plain-then-attr-eq-THEME.ensures c.into-then-attr-eq-THEME.ensures

pub returns-in_err-found-clause-value : goal.returns-in_err-found-clause-value
returns-in_err-found-clause-value c =
    let s = c.args.source.now in
    refused_as _ c.args.draft.now c.in_err-found.field-0.0 c.from_residual.result
    (known_found s.doc.now.pool s.res.now s.dpi c.args.attr c.args.place c.args.draft.now c.takes_at-takes.result _ c.if-draft-place.false (ne_eqb _ _ c.if-attr-eq-THEME.false) c.takes_at-takes.ensures c.in_err-found.ensures)
    c.from_residual.ensures.1

pub returns-in_err-given-clause-value : goal.returns-in_err-given-clause-value
returns-in_err-given-clause-value c = no_memory _ c.args.draft.now c.from_residual-in_err-given.result c.from_residual-in_err-given.ensures.1

pub returns-in_default-clause-value : goal.returns-in_default-clause-value
returns-in_default-clause-value c =
    let s = c.args.source.now in
    refused _ c.args.draft.now c.plain-in_default.result bad_value c.into-in_default.result
    (known_found s.doc.now.pool s.res.now s.dpi c.args.attr c.args.place c.args.draft.now c.takes_at-takes.result _ c.if-draft-place.false (ne_eqb _ _ c.if-attr-eq-THEME.false) c.takes_at-takes.ensures c.in_ok-found.ensures
    ∙ ap (λ g. set_at c.args.place g c.args.draft.now) (sym c.in_ok-given.ensures ∙ c.in_default.is))
    c.plain-in_default.ensures c.into-in_default.ensures

pub set-requires : goal.set-requires
set-requires c = subst HasVerb (sym c.slot_at.ensures) (verbs c.args.place)

pub returns-clause-value : goal.returns-clause-value
returns-clause-value c =
    let s = c.args.source.now in
    known_found s.doc.now.pool s.res.now s.dpi c.args.attr c.args.place c.args.draft.now c.takes_at-takes.result _ c.if-draft-place.false (ne_eqb _ _ c.if-attr-eq-THEME.false) c.takes_at-takes.ensures c.in_ok-found.ensures
    ∙ ap (λ g. set_at c.args.place g c.args.draft.now) (sym c.in_ok-given.ensures ∙ c.in-Some.is)
    ∙ ap (λ (d : Draft). let made : Result Draft PlainRefusal = Ok (record d { came = slice_set d.came c.args.place true }) in made)
    (ap (λ slot. with_given slot c.in-Some.given c.args.draft.now) (sym c.slot_at.ensures) ∙ sym c.set.ensures)
