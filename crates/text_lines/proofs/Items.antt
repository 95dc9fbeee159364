-- The texts of a list's items, sent one after the other.
use Rattle.std.proofs.Common.{◌≡◌, ℕ, ◌+◌, ◌<◌, ◌≤◌, List, [], ◌∷◌, ◌++◌, length, take, get_or, refl, sym, ap, subst, ◌∙◌}
use Rattle.std.specs.List.{flat_map}
use Rattle.std.proofs.lemmas.List.{take_more, take_all, append-nil}
use Rattle.std.proofs.lemmas.List.Concat.{flat_map-cons}
use Rattle.std.proofs.lemmas.Grind.{flat_map-append}
use Rattle.text_lines.specs.BufferedText.{BufferedText, Sends}
use Rattle.text_lines.specs.Joined.{◌⧺◌, texts_of}
use Rattle.text_lines.proofs.Sending.{sends_as, sends_none, ◌⨾◌}
use Rattle.tool_io.specs.SinkState.{SinkState}

pub texts_of-nil : {A : Type 0} (text : A → List ℕ) → texts_of text [] ≡ []
unfolding texts_of
texts_of-nil text = refl

pub texts_of-more : {A : Type 0} (text : A → List ℕ) (items : List A) (i : ℕ) (d : A) → i < length items → texts_of text (take (i + 1) items) ≡ texts_of text (take i items) ⧺ text (get_or items i d)
unfolding texts_of ◌⧺◌
texts_of-more text items i d lt =
    let item = get_or items i d in
    ap (flat_map text) (take_more items i d lt)
    ∙ flat_map-append text (take i items) (item ∷ [])
    ∙ ap (λ (l : List ℕ). flat_map text (take i items) ++ l) (flat_map-cons text item [] ∙ append-nil (text item))

-- none of the items yet
pub items_none : {A : Type 0} (text : A → List ℕ) (old : SinkState) (held : BufferedText) → Sends old old held held (texts_of text [])
items_none text old held = sends_as (sym (texts_of-nil text)) (sends_none old held)

-- one item more
pub items_more : {A : Type 0} {old mid new : SinkState} {before held after : BufferedText} (text : A → List ℕ) (items : List A) (i : ℕ) (d : A) → i < length items
    → Sends old mid before held (texts_of text (take i items)) → Sends mid new held after (text (get_or items i d)) → Sends old new before after (texts_of text (take (i + 1) items))
items_more text items i d lt first second = sends_as (sym (texts_of-more text items i d lt)) (first ⨾ second)

-- all items
pub items_all : {A : Type 0} {old new : SinkState} {before after : BufferedText} (text : A → List ℕ) (items : List A) (i : ℕ) → length items ≤ i
    → Sends old new before after (texts_of text (take i items)) → Sends old new before after (texts_of text items)
items_all {old = old} {new = new} {before = before} {after = after} text items i le sent =
    subst (λ (l : List _). Sends old new before after (texts_of text l)) (take_all i items le) sent
