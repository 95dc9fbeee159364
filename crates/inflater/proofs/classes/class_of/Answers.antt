use Rattle.std.proofs.Common.{◌≡◌, ◌≢◌, ℕ, ap, sym, ◌∙◌, List, ◌++◌, Option, Some, None, Bor}
use Rattle.std.specs.Prelude.{codes}
use Rattle.std.specs.Option.{MatchOption}
use Rattle.std.proofs.lemmas.Bool.Decides.{Decides-eqb}
use Rattle.std.proofs.lemmas.Slice.Eq.{strip_prefix_is}
use Rattle.view_model.specs.Classes.{class_named}
use Rattle.inflater.proofs.NameLaws.{of_word, view_none, view_other, view_view, widget_none, widget_other, widget_view}
use Rattle.inflater.proofs.classes.class_of.Goals as goal

-- a name with a package before its word, and one without
with_package : (name bytes front : List ℕ) (found : Option (Bor (List ℕ))) (word : Bor (List ℕ)) → bytes ≡ name
    → MatchOption found ((rest : List ℕ) → bytes ≢ front ++ rest) (λ x. bytes ≡ front ++ x.now) → found ≡ Some word → name ≡ front ++ word.now
with_package name bytes front found word same cases is = sym same ∙ (rw is at cases)

without_package : (name bytes front : List ℕ) (found : Option (Bor (List ℕ))) → bytes ≡ name
    → MatchOption found ((rest : List ℕ) → bytes ≢ front ++ rest) (λ x. bytes ≡ front ++ x.now) → found ≡ None → (word : List ℕ) → name ≢ front ++ word
without_package name bytes front found same cases is = rw same at (rw is at cases)

pub returns-in_err-class : goal.returns-in_err-class
returns-in_err-class c =
    let bytes = c.as_bytes-name.result.now in
    let name = with_package c.args.name.now bytes (codes "android.widget.") c.strip_prefix.result c.in-Some.word c.as_bytes-name.ensures.value
    (strip_prefix_is Decides-eqb bytes (codes "android.widget.") c.strip_prefix.result c.strip_prefix.ensures.cases) c.in-Some.is in
    c.from_residual.ensures ∙ sym (widget_none c.args.name.now c.in-Some.word.now name (sym c.named.ensures ∙ c.in_err-class.was))

pub returns-in-View : goal.returns-in-View
returns-in-View c =
    let bytes = c.as_bytes-name.result.now in
    let name = with_package c.args.name.now bytes (codes "android.widget.") c.strip_prefix.result c.in-Some.word c.as_bytes-name.ensures.value
    (strip_prefix_is Decides-eqb bytes (codes "android.widget.") c.strip_prefix.result c.strip_prefix.ensures.cases) c.in-Some.is in
    sym (widget_view c.args.name.now c.in-Some.word.now name (sym c.named.ensures ∙ c.in_ok-class.was ∙ ap Some c.in-View.is))

pub returns-in_default-2 : goal.returns-in_default-2
returns-in_default-2 c =
    let bytes = c.as_bytes-name.result.now in
    let name = with_package c.args.name.now bytes (codes "android.widget.") c.strip_prefix.result c.in-Some.word c.as_bytes-name.ensures.value
    (strip_prefix_is Decides-eqb bytes (codes "android.widget.") c.strip_prefix.result c.strip_prefix.ensures.cases) c.in-Some.is in
    sym (widget_other c.args.name.now c.in-Some.word.now c.in_ok-class.class name (sym c.named.ensures ∙ c.in_ok-class.was) c.in_default-2.not-View)

pub returns-in_err-named : goal.returns-in_err-named
returns-in_err-named c =
    let bytes = c.as_bytes-name.result.now in
    let name = with_package c.args.name.now bytes (codes "android.view.") c.strip_prefix-2.result c.in-Some-strip_prefix.word c.as_bytes-name.ensures.value
    (strip_prefix_is Decides-eqb bytes (codes "android.view.") c.strip_prefix-2.result c.strip_prefix-2.ensures.cases) c.in-Some-strip_prefix.is in
    c.from_residual-in_err-named.ensures ∙ sym (view_none c.args.name.now c.in-Some-strip_prefix.word.now name (sym c.named-in-Some-strip_prefix.ensures ∙ c.in_err-named.was))

pub returns-in-View-2 : goal.returns-in-View-2
returns-in-View-2 c =
    let bytes = c.as_bytes-name.result.now in
    let name = with_package c.args.name.now bytes (codes "android.view.") c.strip_prefix-2.result c.in-Some-strip_prefix.word c.as_bytes-name.ensures.value
    (strip_prefix_is Decides-eqb bytes (codes "android.view.") c.strip_prefix-2.result c.strip_prefix-2.ensures.cases) c.in-Some-strip_prefix.is in
    sym (view_view c.args.name.now c.in-Some-strip_prefix.word.now name (sym c.named-in-Some-strip_prefix.ensures ∙ c.in_ok-named.was ∙ ap Some c.in-View-2.is))

pub returns-in_default-3 : goal.returns-in_default-3
returns-in_default-3 c =
    let bytes = c.as_bytes-name.result.now in
    let name = with_package c.args.name.now bytes (codes "android.view.") c.strip_prefix-2.result c.in-Some-strip_prefix.word c.as_bytes-name.ensures.value
    (strip_prefix_is Decides-eqb bytes (codes "android.view.") c.strip_prefix-2.result c.strip_prefix-2.ensures.cases) c.in-Some-strip_prefix.is in
    sym (view_other c.args.name.now c.in-Some-strip_prefix.word.now c.in_ok-named.field-0 name (sym c.named-in-Some-strip_prefix.ensures ∙ c.in_ok-named.was) c.in_default-3.not-View)

pub returns : goal.returns
returns c =
    let bytes = c.as_bytes-name.result.now in
    let same = c.as_bytes-name.ensures.value in
    let widget = without_package c.args.name.now bytes (codes "android.widget.") c.strip_prefix.result same
    (strip_prefix_is Decides-eqb bytes (codes "android.widget.") c.strip_prefix.result c.strip_prefix.ensures.cases) c.in_default.is in
    let view = without_package c.args.name.now bytes (codes "android.view.") c.strip_prefix-2.result same
    (strip_prefix_is Decides-eqb bytes (codes "android.view.") c.strip_prefix-2.result c.strip_prefix-2.ensures.cases) c.in_default-strip_prefix.is in
    c.named-2.ensures ∙ ap class_named same ∙ sym (of_word c.args.name.now widget view)
