-- What acts leave of the facts of a view.
use Rattle.std.proofs.Common.{◌≡◌, ℕ, ℤ, pos, true, false, [], ◌∷◌, refl, sym, ◌∙◌, ap}
use Rattle.view_model.specs.Changes.{facts_after_act}
use Rattle.view_model.specs.declared.facts.Facts.{Facts}
use Rattle.view_model.specs.declared.changes.Act.{Act}
use Rattle.view_model.specs.declared.changes.Act.TheVariants as act
use Rattle.view_model.specs.declared.changes.Change.TheVariants as change
use Rattle.view_model.specs.declared.changes.Flag.TheVariants as flag
use Rattle.view_model.specs.declared.visibility.Visibility.TheVariants.{Visible, Invisible, Gone}
use Rattle.view_model.proofs.FacetLaws.{hidden_asks, named_asks, named_stays, named_turns}
use Rattle.view_model.specs.Facets.{facet_of}
use Rattle.view_model.specs.Facts.{is_shown, layout_facts, unscrolled_facts}
use Rattle.tree_edits.specs.Asking.{asked_by_act, requests_layout}
use Rattle.tree_edits.specs.Editing.{hides, names_views, turns}

-- a view that is gone after an act was gone before, or the act hides it
pub gone_after : (act : Act) (facts : Facts) → hides act ≡ false → is_shown (facts_after_act act facts) ≡ false → is_shown facts ≡ false
gone_after (act.Change (change.Gravity true gravity)) facts stays gone = gone
gone_after (act.Change (change.Gravity false gravity)) facts stays gone = gone
gone_after (act.Flag flag.Clip on) facts stays gone = gone
gone_after (act.Visible Visible) facts stays gone = absurd (cc)
gone_after (act.Visible Invisible) facts stays gone = absurd (cc)
gone_after (act.Visible Gone) facts stays gone = absurd (cc)
gone_after _ facts stays gone = gone

-- the facts with the id and the rules of others
abbrev pub renamed : Facts → Facts → Facts
renamed other facts = record facts { id = other.id; rules = other.rules }

-- an act that sets names sets nothing else
pub names_alone : (act : Act) (facts : Facts) → names_views act ≡ true → renamed (facts_after_act act facts) facts ≡ facts_after_act act facts
names_alone (act.Id id) facts names = refl
names_alone (act.Rule verb value) facts names = refl
names_alone _ facts names = absurd (cc)

-- what an act leaves of an offset is not seen in a row
pub acted-offset : (act : Act) (facts : Facts) (offset : ℤ) → unscrolled_facts (facts_after_act act (record facts { offset = offset })) ≡ unscrolled_facts (facts_after_act act facts)
acted-offset (act.Change (change.Gravity true gravity)) facts offset = refl
acted-offset (act.Change (change.Gravity false gravity)) facts offset = refl
acted-offset (act.Flag flag.Clip on) facts offset = refl
acted-offset _ facts offset = refl

-- an act that sets names leaves the offset
pub names_offset : (act : Act) (facts : Facts) → names_views act ≡ true → (facts_after_act act facts).offset ≡ facts.offset
names_offset act facts names = ap (λ (f : Facts). f.offset) (sym (names_alone act facts names))

-- what it makes of a view in its row
pub acted-named : (act : Act) (facts : Facts) (offset : ℤ) → names_views act ≡ true → facts.offset ≡ pos 0
    → renamed (facts_after_act act (record facts { offset = offset })) facts ≡ unscrolled_facts (facts_after_act act facts)
acted-named act facts offset names flat =
    let other = facts_after_act act (record facts { offset = offset }) in
    let same : unscrolled_facts other ≡ unscrolled_facts (facts_after_act act facts) = acted-offset act facts offset in
    let alone : renamed other (record facts { offset = offset }) ≡ other = names_alone act (record facts { offset = offset }) names in
    ap (λ (o : ℤ). record (renamed other facts) { offset = o }) flat ∙ ap unscrolled_facts alone ∙ same

pub names_stay : (act : Act) → names_views act ≡ true → hides act ≡ false
names_stay act names = named_stays (facet_of act) names

-- nor does it set a direction
pub names_still : (act : Act) → names_views act ≡ true → turns act ≡ false
names_still act names = named_turns (facet_of act) names

-- an act that sets names requests layout
pub names_ask : (view : ℕ) (act : Act) → names_views act ≡ true → asked_by_act view act ≡ view ∷ []
names_ask view act names = rw (named_asks (facet_of act) names) refl

-- so does one that hides
pub hides_ask : (view : ℕ) (act : Act) → hides act ≡ true → asked_by_act view act ≡ view ∷ []
hides_ask view act hid = rw (hidden_asks (facet_of act) hid) refl

-- an act after which a view takes part in layout again leaves the offset
pub shown_offset : (act : Act) (facts : Facts) → is_shown facts ≡ false → is_shown (facts_after_act act facts) ≡ true → (facts_after_act act facts).offset ≡ facts.offset
shown_offset (act.Scroll offset) facts gone shown = let no : false ≡ true = sym gone ∙ shown in absurd (cc)
shown_offset (act.Change (change.Gravity true gravity)) facts gone shown = refl
shown_offset (act.Change (change.Gravity false gravity)) facts gone shown = refl
shown_offset (act.Flag flag.Clip on) facts gone shown = refl
shown_offset _ facts gone shown = refl

-- what an act that requests nothing leaves of the facts of a view
pub record IsQuietAct (act : Act) (facts : Facts) : Type 0 where
  pub layout : layout_facts (facts_after_act act facts) ≡ layout_facts facts
  pub offset : (facts_after_act act facts).offset ≡ facts.offset

pub quiet_act : (act : Act) (facts : Facts) → requests_layout act ≡ false → IsQuietAct act facts
quiet_act (act.Change (change.Size width height)) facts quiet = absurd (cc)
quiet_act (act.Change (change.Min size)) facts quiet = absurd (cc)
quiet_act (act.Change (change.Margins sides)) facts quiet = absurd (cc)
quiet_act (act.Change (change.Padding sides)) facts quiet = absurd (cc)
quiet_act (act.Change (change.Weight weight)) facts quiet = absurd (cc)
quiet_act (act.Change (change.Gravity kids gravity)) facts quiet = absurd (cc)
quiet_act (act.WeightSum sum) facts quiet = absurd (cc)
quiet_act (act.Orient vertical) facts quiet = absurd (cc)
quiet_act (act.Direction direction) facts quiet = absurd (cc)
quiet_act (act.Flag flag.Fill on) facts quiet = absurd (cc)
quiet_act (act.Visible visibility) facts quiet = absurd (cc)
quiet_act (act.Id id) facts quiet = absurd (cc)
quiet_act (act.Rule verb value) facts quiet = absurd (cc)
quiet_act (act.Scroll offset) facts quiet = absurd (cc)
quiet_act _ facts quiet = record { layout = refl; offset = refl }
