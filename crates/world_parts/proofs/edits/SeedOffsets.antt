-- The views of a file are not scrolled: no attribute sets an offset.
use Rattle.std.proofs.Common.{◌≡◌, ℕ, suc, ◌+◌, ℤ, false, List, [], ◌∷◌, Option, Some, None, Result, Ok, Err, refl, ◌∙◌, subst, inl, inr}
use Rattle.std.proofs.lemmas.Bool.{cases_Bool}
use Rattle.std.specs.Prelude.{◌==◌, ◌&&◌, int_le, pos, slice_index_or, slice_get}
use Rattle.attr_table.specs.Setting.{empty_draft, with_given, with_margins, with_paddings}
use Rattle.attr_table.specs.Table.{slot_at, takes_at}
use Rattle.attr_table.specs.Taking.{Facets, attrs_of, facets_of, finished, known_place, set_at, with_attr, with_attrs, with_known, with_place}
use Rattle.attr_table.specs.Values.{found_of, given_of}
use Rattle.attr_table.specs.declared.draft.Draft.{Draft}
use Rattle.attr_table.specs.declared.given.Given.{Given}
use Rattle.attr_table.specs.declared.given.Given.TheVariants as given
use Rattle.attr_table.specs.declared.table.Side.TheVariants as side
use Rattle.attr_table.specs.declared.table.Slot.{Slot}
use Rattle.attr_table.specs.declared.table.Slot.TheVariants as slot
use Rattle.attr_table.specs.declared.table.TheConstants.{HEIGHT, WIDTH}
use Rattle.attr_table.specs.declared.types.TheConstants.{THEME}
use Rattle.axml_chunks.specs.Pool.{StringPool}
use Rattle.axml_reader.specs.Document.{Document}
use Rattle.axml_reader.specs.declared.doc.Attr.{Attr}
use Rattle.axml_reader.specs.declared.doc.Node.{Node}
use Rattle.axml_reader.specs.Decoding.{decoded}
use Rattle.inflater.specs.Answers.{IsGrown}
use Rattle.inflater.specs.ClassNames.{class_in}
use Rattle.inflater.specs.Elements.{elements}
use Rattle.inflater.specs.Inflating.{OneView, Plan, inflated, name_of, planned, view_of, view_with}
use Rattle.inflater.specs.declared.grown.Grown.{Grown}
use Rattle.view_model.specs.Forest.{Forest, Nothing, Branch, count_of}
use Rattle.view_model.specs.Refusals.{◌>>=◌, PlainRefusal}
use Rattle.view_model.specs.Resources.{Entries}
use Rattle.view_model.specs.Sprouts.{seeds_of}
use Rattle.view_model.specs.declared.facts.Facts.{Facts}
use Rattle.view_model.specs.declared.class.Class.{Class}
use Rattle.world_parts.specs.Inflating.{document_of, views_in}
use Rattle.world_parts.specs.Inflating.{AreUnscrolled}

-- a draft that is not scrolled, or a refusal
abbrev Drafts : Result Draft PlainRefusal → Type 0
Drafts (Ok draft) = draft.facts.offset ≡ pos 0
Drafts (Err refusal) = Unit {0}

abbrev Sets : Result Facets PlainRefusal → Type 0
Sets (Ok facets) = facets.facts.offset ≡ pos 0
Sets (Err refusal) = Unit {0}

abbrev Makes : Result OneView PlainRefusal → Type 0
Makes (Ok view) = view.seed.facts.offset ≡ pos 0
Makes (Err refusal) = Unit {0}

abbrev Plans : Result Plan PlainRefusal → Type 0
Plans (Ok plan) = AreUnscrolled plan.seeds
Plans (Err refusal) = Unit {0}

offset_given : (where_set : Slot) (given : Given) (draft : Draft) → (with_given where_set given draft).facts.offset ≡ draft.facts.offset
offset_given slot.Id (given.Pixels n) draft = refl
offset_given slot.Id (given.Word word) draft = refl
offset_given slot.Id (given.Text text) draft = refl
offset_given slot.Width (given.Pixels n) draft = refl
offset_given slot.Width (given.Word word) draft = refl
offset_given slot.Width (given.Text text) draft = refl
offset_given slot.Height (given.Pixels n) draft = refl
offset_given slot.Height (given.Word word) draft = refl
offset_given slot.Height (given.Text text) draft = refl
offset_given slot.Margins (given.Pixels n) draft = refl
offset_given slot.Margins (given.Word word) draft = refl
offset_given slot.Margins (given.Text text) draft = refl
offset_given slot.MinWidth (given.Pixels n) draft = refl
offset_given slot.MinWidth (given.Word word) draft = refl
offset_given slot.MinWidth (given.Text text) draft = refl
offset_given slot.MinHeight (given.Pixels n) draft = refl
offset_given slot.MinHeight (given.Word word) draft = refl
offset_given slot.MinHeight (given.Text text) draft = refl
offset_given slot.Direction (given.Pixels n) draft = refl
offset_given slot.Direction (given.Word word) draft = refl
offset_given slot.Direction (given.Text text) draft = refl
offset_given slot.Weight (given.Pixels n) draft = refl
offset_given slot.Weight (given.Word word) draft = refl
offset_given slot.Weight (given.Text text) draft = refl
offset_given slot.WeightSum (given.Pixels n) draft = refl
offset_given slot.WeightSum (given.Word word) draft = refl
offset_given slot.WeightSum (given.Text text) draft = refl
offset_given slot.LayoutGravity (given.Pixels n) draft = refl
offset_given slot.LayoutGravity (given.Word word) draft = refl
offset_given slot.LayoutGravity (given.Text text) draft = refl
offset_given slot.Gravity (given.Pixels n) draft = refl
offset_given slot.Gravity (given.Word word) draft = refl
offset_given slot.Gravity (given.Text text) draft = refl
offset_given slot.Vertical (given.Pixels n) draft = refl
offset_given slot.Vertical (given.Word word) draft = refl
offset_given slot.Vertical (given.Text text) draft = refl
offset_given slot.Visibility (given.Pixels n) draft = refl
offset_given slot.Visibility (given.Word word) draft = refl
offset_given slot.Visibility (given.Text text) draft = refl
offset_given slot.Background (given.Pixels n) draft = refl
offset_given slot.Background (given.Word word) draft = refl
offset_given slot.Background (given.Text text) draft = refl
offset_given slot.Ink (given.Pixels n) draft = refl
offset_given slot.Ink (given.Word word) draft = refl
offset_given slot.Ink (given.Text text) draft = refl
offset_given slot.Text (given.Pixels n) draft = refl
offset_given slot.Text (given.Word word) draft = refl
offset_given slot.Text (given.Text text) draft = refl
offset_given slot.Click (given.Pixels n) draft = refl
offset_given slot.Click (given.Word word) draft = refl
offset_given slot.Click (given.Text text) draft = refl
offset_given slot.Clip (given.Pixels n) draft = refl
offset_given slot.Clip (given.Word word) draft = refl
offset_given slot.Clip (given.Text text) draft = refl
offset_given slot.Fill (given.Pixels n) draft = refl
offset_given slot.Fill (given.Word word) draft = refl
offset_given slot.Fill (given.Text text) draft = refl
offset_given slot.Split (given.Pixels n) draft = refl
offset_given slot.Split (given.Word word) draft = refl
offset_given slot.Split (given.Text text) draft = refl
offset_given slot.Paddings (given.Pixels n) draft = refl
offset_given slot.Paddings (given.Word word) draft = refl
offset_given slot.Paddings (given.Text text) draft = refl
offset_given (slot.Margin side.Left) (given.Pixels n) draft = refl
offset_given (slot.Margin side.Left) (given.Word word) draft = refl
offset_given (slot.Margin side.Left) (given.Text text) draft = refl
offset_given (slot.Margin side.Top) (given.Pixels n) draft = refl
offset_given (slot.Margin side.Top) (given.Word word) draft = refl
offset_given (slot.Margin side.Top) (given.Text text) draft = refl
offset_given (slot.Margin side.Right) (given.Pixels n) draft = refl
offset_given (slot.Margin side.Right) (given.Word word) draft = refl
offset_given (slot.Margin side.Right) (given.Text text) draft = refl
offset_given (slot.Margin side.Bottom) (given.Pixels n) draft = refl
offset_given (slot.Margin side.Bottom) (given.Word word) draft = refl
offset_given (slot.Margin side.Bottom) (given.Text text) draft = refl
offset_given (slot.Margin side.Start) (given.Pixels n) draft = refl
offset_given (slot.Margin side.Start) (given.Word word) draft = refl
offset_given (slot.Margin side.Start) (given.Text text) draft = refl
offset_given (slot.Margin side.End) (given.Pixels n) draft = refl
offset_given (slot.Margin side.End) (given.Word word) draft = refl
offset_given (slot.Margin side.End) (given.Text text) draft = refl
offset_given (slot.Padding side.Left) (given.Pixels n) draft = refl
offset_given (slot.Padding side.Left) (given.Word word) draft = refl
offset_given (slot.Padding side.Left) (given.Text text) draft = refl
offset_given (slot.Padding side.Top) (given.Pixels n) draft = refl
offset_given (slot.Padding side.Top) (given.Word word) draft = refl
offset_given (slot.Padding side.Top) (given.Text text) draft = refl
offset_given (slot.Padding side.Right) (given.Pixels n) draft = refl
offset_given (slot.Padding side.Right) (given.Word word) draft = refl
offset_given (slot.Padding side.Right) (given.Text text) draft = refl
offset_given (slot.Padding side.Bottom) (given.Pixels n) draft = refl
offset_given (slot.Padding side.Bottom) (given.Word word) draft = refl
offset_given (slot.Padding side.Bottom) (given.Text text) draft = refl
offset_given (slot.Padding side.Start) (given.Pixels n) draft = refl
offset_given (slot.Padding side.Start) (given.Word word) draft = refl
offset_given (slot.Padding side.Start) (given.Text text) draft = refl
offset_given (slot.Padding side.End) (given.Pixels n) draft = refl
offset_given (slot.Padding side.End) (given.Word word) draft = refl
offset_given (slot.Padding side.End) (given.Text text) draft = refl
offset_given (slot.Rule verb) (given.Pixels n) draft = refl
offset_given (slot.Rule verb) (given.Word word) draft = refl
offset_given (slot.Rule verb) (given.Text text) draft = refl

offset_margins : (all : Option ℤ) (facts : Facts) → (with_margins all facts).offset ≡ facts.offset
unfolding with_margins
offset_margins None facts = refl
offset_margins (Some n) facts = elim (cases_Bool (int_le (pos 0) n)) [
  | inl e ↦ rw e refl
  | inr e ↦ rw e refl
]

offset_paddings : (all : Option ℤ) (facts : Facts) → (with_paddings all facts).offset ≡ facts.offset
unfolding with_paddings
offset_paddings None facts = refl
offset_paddings (Some n) facts = refl

drafts_set : (place : ℕ) (given : Option Given) (draft : Draft) → draft.facts.offset ≡ pos 0 → Drafts (set_at place given draft)
drafts_set place None draft none = tt
drafts_set place (Some given) draft none = offset_given (slot_at place) given draft ∙ none

drafts_known : (pool : StringPool) (resources : Entries) (dpi : ℕ) (attr : Attr) (place : ℕ) (draft : Draft) → draft.facts.offset ≡ pos 0 → Drafts (with_known pool resources dpi attr place draft)
unfolding with_known
drafts_known pool resources dpi attr place draft none = elim (cases_Bool (slice_index_or draft.came place false)) [
  | inl e ↦ rw e tt
  | inr e ↦ rw e (elim (cases_Bool (attr.kind == THEME)) [
    | inl theme ↦ rw theme tt
    | inr other ↦ rw other (elim (found_of resources (takes_at place) attr.kind attr.word) as (λ found. Drafts (found >>= λ f. set_at place (given_of pool dpi (takes_at place) attr.kind attr.word f) draft)) [
      | Ok found ↦ drafts_set place (given_of pool dpi (takes_at place) attr.kind attr.word found) draft none
      | Err refusal ↦ tt
    ])
  ])
]

drafts_place : (pool : StringPool) (resources : Entries) (dpi : ℕ) (attr : Attr) (place : Option ℕ) (draft : Draft) → draft.facts.offset ≡ pos 0 → Drafts (with_place pool resources dpi attr place draft)
drafts_place pool resources dpi attr None draft none = none
drafts_place pool resources dpi attr (Some place) draft none = drafts_known pool resources dpi attr place draft none

drafts_after : (next : Draft → Result Draft PlainRefusal) → ((draft : Draft) → draft.facts.offset ≡ pos 0 → Drafts (next draft)) → (before : Result Draft PlainRefusal) → Drafts before → Drafts (before >>= next)
drafts_after next keeps (Ok draft) none = keeps draft none
drafts_after next keeps (Err refusal) none = tt

drafts_attrs : (pool : StringPool) (resources : Entries) (dpi : ℕ) (attrs : List Attr) (draft : Draft) → draft.facts.offset ≡ pos 0 → Drafts (with_attrs pool resources dpi attrs draft)
drafts_attrs pool resources dpi [] draft none = none
drafts_attrs pool resources dpi (attr ∷ more) draft none =
    drafts_after (with_attrs pool resources dpi more) (λ next same. drafts_attrs pool resources dpi more next same)
    (with_attr pool resources dpi attr draft) (drafts_place pool resources dpi attr (known_place pool attr) draft none)

sets_finished : (draft : Draft) → draft.facts.offset ≡ pos 0 → Sets (finished draft)
unfolding finished
sets_finished draft none = elim (cases_Bool (slice_index_or draft.came WIDTH false && slice_index_or draft.came HEIGHT false)) [
  | inl e ↦ rw e (offset_paddings draft.padding (with_margins draft.margin draft.facts) ∙ offset_margins draft.margin draft.facts ∙ none)
  | inr e ↦ rw e tt
]

sets_after : (draft : Result Draft PlainRefusal) → Drafts draft → Sets (draft >>= finished)
sets_after (Ok draft) none = sets_finished draft none
sets_after (Err refusal) none = tt

sets_node : (doc : Document) (resources : Entries) (dpi : ℕ) (node : Node) → Sets (facets_of doc resources dpi node)
unfolding facets_of
sets_node doc resources dpi node = sets_after (with_attrs doc.pool resources dpi (attrs_of doc node) empty_draft) (drafts_attrs doc.pool resources dpi (attrs_of doc node) empty_draft refl)

makes_with : (element : ℕ) (class : Option Class) (facets : Result Facets PlainRefusal) → Sets facets → Makes (view_with element class facets)
unfolding view_with
makes_with element None facets sets = tt
makes_with element (Some class) (Err refusal) sets = tt
makes_with element (Some class) (Ok facets) sets = sets

plans_all : (own : Result OneView PlainRefusal) (inner later : Result Plan PlainRefusal) → Makes own → Plans inner → Plans later
    → Plans (own >>= λ (own : OneView). (inner >>= λ (inner : Plan). (later >>= λ (later : Plan). Ok (record { seeds = Branch own.seed inner.seeds later.seeds; ignored = own.ignored + (inner.ignored + later.ignored) }))))
plans_all (Err refusal) inner later makes below after = tt
plans_all (Ok own) (Err refusal) later makes below after = tt
plans_all (Ok own) (Ok inner) (Err refusal) makes below after = tt
plans_all (Ok own) (Ok inner) (Ok later) makes below after = (makes, below, after)

plans_from : (doc : Document) (resources : Entries) (dpi element : ℕ) (nodes : Forest Node) → Plans (planned doc resources dpi element nodes)
plans_from doc resources dpi element Nothing = tt
plans_from doc resources dpi element (Branch node below after) =
    plans_all (view_of doc resources dpi element node) (planned doc resources dpi (suc element) below) (planned doc resources dpi (suc element + count_of below) after)
    (makes_with element (class_in (slice_get doc.pool.texts (name_of node))) (facets_of doc resources dpi node) (sets_node doc resources dpi node))
    (plans_from doc resources dpi (suc element) below) (plans_from doc resources dpi (suc element + count_of below) after)

-- the views that a document gives are not scrolled
pub seeds_unscrolled : (doc : Document) (resources : Entries) (dpi : ℕ) (plan : Plan) → inflated doc resources dpi ≡ Ok plan → AreUnscrolled plan.seeds
seeds_unscrolled doc resources dpi plan is = subst Plans is (plans_from doc resources dpi 1 (elements doc.nodes))

views_unscrolled : (document : Result Document PlainRefusal) (resources : Entries) (dpi : ℕ) (plan : Plan) → (document >>= λ (document : Document). inflated document resources dpi) ≡ Ok plan → AreUnscrolled plan.seeds
views_unscrolled (Ok document) resources dpi plan is = seeds_unscrolled document resources dpi plan is
views_unscrolled (Err refusal) resources dpi plan is = absurd (cc)

-- nor are those of a file's bytes
pub grown_unscrolled : (bytes : List ℕ) (resources : Entries) (dpi : ℕ) (plan : Plan) (grown : Grown) → views_in bytes resources dpi ≡ Ok plan → IsGrown plan grown
    → AreUnscrolled (seeds_of grown.sapling.sprouts.items)
grown_unscrolled bytes resources dpi plan grown is made = rw made.seeds (views_unscrolled (document_of (decoded bytes)) resources dpi plan is)
