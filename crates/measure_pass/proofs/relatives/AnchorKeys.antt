-- The keys of the siblings to which a child of a relative layout is tied.
use Rattle.std.proofs.Common.{◌≡◌, ◌≢◌, ℕ, zero, suc, ◌-◌, ◌<◌, ◌≤◌, Bool, true, false, Option, Some, None, List, length, arith, ap, ◌∙◌, sym, refl, subst, inl, inr}
use Rattle.std.proofs.lemmas.Bool.{cases_lt}
use Rattle.std.proofs.lemmas.Bool.Decides.{nat_tests}
use Rattle.std.proofs.lemmas.List.{length-map}
use Rattle.std.specs.Option.{option_and_then, option_map}
use Rattle.std.specs.Prelude.{ℤ, ◌==◌, if◌then◌else◌, slice_index_or}
use Rattle.measure_pass.specs.Replacing.{instead_of}
use Rattle.measure_pass.specs.declared.anchors.Search.{Search}
use Rattle.measure_pass.specs.Siblings.{IsKidAt, edge_on, first_child, first_span, kept_spans, kids_in}
use Rattle.measure_pass.proofs.walks.Places.{kid_at}
use Rattle.measure_pass.proofs.relatives.SiblingTurns.{links_same}
use Rattle.relative_layout.proofs.orders.NamingLaws.{last_is}
use Rattle.view_model.specs.declared.facts.Facts.{Facts}
use Rattle.view_model.specs.declared.relative.Anchor.{Anchor}
use Rattle.view_model.specs.declared.relative.Axis.{Axis}
use Rattle.view_model.specs.declared.relative.Axis.TheVariants.{Horizontal, Vertical}
use Rattle.view_model.specs.declared.relative.Link.{Link}
use Rattle.view_model.specs.declared.relative.Tie.{Tie}
use Rattle.view_model.specs.Course.{Child}
use Rattle.view_model.specs.Facts.{is_shown, layout_facts}
use Rattle.view_model.specs.Forest.{Forest, Nothing, Branch, count_of}
use Rattle.view_model.specs.RelativeCourse.{anchor_by, anchor_with, child_at, link_of, links_of}
use Rattle.view_model.specs.RelativeLayout.{span_or_none, near_margin, far_margin}
use Rattle.view_model.specs.SiblingRules.{anchor_id, anchor_of, anchor_within, last_with_id, named_sibling, no_link, other_than, shown_or}
use Rattle.view_model.specs.Cycles.{links_in}
use Rattle.view_tree.specs.Rows.{Row, children_of_first, count_of_key, first_key, head_view, part_from, siblings_from, views_of}
use Rattle.view_tree.specs.Views.{Held}
use Rattle.view_tree.proofs.forest.Forests.{Within-children_of_first, Within-later_siblings, some_is}
use Rattle.view_tree.proofs.forest.KeyLaws.{Within, count_of_key-within, from_within, located, times_self}

-- the child of a place
pub record KidPlace (tree list : Forest Row) (place : ℕ) : Type 0 where
  pub row : Row
  pub kids : Forest Row
  pub siblings : Forest Row
  pub is : siblings_from place list ≡ Branch row kids siblings
  pub within : Within (Branch row kids siblings) tree

place_within : (list tree : Forest Row) (place : ℕ) → Within list tree → place < length (kids_in list) → KidPlace tree list place
place_within Nothing tree place within small = absurd (omega arith)
place_within (Branch row kids siblings) tree zero within small = record { row = row; kids = kids; siblings = siblings; is = refl; within = within }
place_within (Branch row kids siblings) tree (suc place) within small =
    let p = place_within siblings tree place (Within-later_siblings within) (omega arith) in
    record { row = p.row; kids = p.kids; siblings = p.siblings; is = p.is; within = p.within }

kid_place : (tree : Forest Row) (view place : ℕ) → 0 < count_of_key view tree → place < length (kids_in (children_of_first (part_from view tree)))
    → KidPlace tree (children_of_first (part_from view tree)) place
kid_place tree view place live small =
    let x = located view tree live in
    rw x.is (place_within x.kids tree place (Within-children_of_first x.within) (rw x.is at small))

-- the last child with an id
last_key : (tree list : Forest Row) (place : ℕ) → KidPlace tree list place → ((key : ℕ) → count_of_key key tree ≤ 1) → IsKidAt tree list (Some place) (first_key (siblings_from place list))
last_key tree list place p once =
    let more = count_of_key-within p.row.key p.within in
    let own = times_self p.row p.kids p.siblings in
    subst (IsKidAt tree list (Some place)) (ap first_key (sym p.is)) (from_within p.row p.kids p.siblings p.within (once p.row.key) ∙ sym p.is, omega arith)

pub last_kid : (tree : Forest Row) (view id : ℕ) (found : Option ℕ) → 0 < count_of_key view tree → ((key : ℕ) → count_of_key key tree ≤ 1)
    → (let list = children_of_first (part_from view tree) in
    found ≡ option_and_then (λ place. first_key (siblings_from place list)) (last_with_id (links_in (views_of list)) id)
    → IsKidAt tree list (last_with_id (links_of (kids_in list)) id) found)
last_kid tree view id found live once is =
    let list = children_of_first (part_from view tree) in
    by_last (last_with_id (links_of (kids_in list)) id) refl
    (is ∙ ap (λ (links : List Link). option_and_then (λ place. first_key (siblings_from place list)) (last_with_id links id)) (links_same (views_of list)))
  where
    by_last : (last : Option ℕ) → last_with_id (links_of (kids_in (children_of_first (part_from view tree)))) id ≡ last
        → found ≡ option_and_then (λ place. first_key (siblings_from place (children_of_first (part_from view tree)))) (last_with_id (links_of (kids_in (children_of_first (part_from view tree)))) id)
        → IsKidAt tree (children_of_first (part_from view tree)) last found
    by_last None last is =
        let none : found ≡ None = is ∙ ap (option_and_then (λ place. first_key (siblings_from place (children_of_first (part_from view tree))))) last in
        subst (IsKidAt tree (children_of_first (part_from view tree)) None) (sym none) tt
    by_last (Some place) last is =
        let list = children_of_first (part_from view tree) in
        let inside = (last_is (links_of (kids_in list)) id place last).inside in
        let count = length-map (kids_in list) (λ (kid : Child). link_of kid.facts) in
        let some : found ≡ first_key (siblings_from place list) = is ∙ ap (option_and_then (λ place. first_key (siblings_from place list))) last in
        subst (IsKidAt tree list (Some place)) (sym some) (last_key tree list place (kid_place tree view place live (omega arith)) once)

-- a place and its key
pub record KidAt (tree list : Forest Row) (at : Option ℕ) (key : ℕ) : Type 0 where
  pub place : ℕ
  pub is : at ≡ Some place
  pub part : part_from key tree ≡ siblings_from place list
  pub live : 0 < count_of_key key tree

pub kid_some : (tree list : Forest Row) (at : Option ℕ) (key : ℕ) → IsKidAt tree list at (Some key) → KidAt tree list at key
kid_some tree list None key h = absurd h
kid_some tree list (Some place) key h = record { place = place; is = refl; part = h.0; live = h.1 }

pub kid_none : (tree list : Forest Row) (at : Option ℕ) → IsKidAt tree list at None → at ≡ None
kid_none tree list None h = refl
kid_none tree list (Some place) h = absurd h

pub as_kid : (tree list : Forest Row) (at : Option ℕ) (place key : ℕ) → at ≡ Some place → part_from key tree ≡ siblings_from place list → 0 < count_of_key key tree → IsKidAt tree list at (Some key)
as_kid tree list at place key is part live = subst (λ at. IsKidAt tree list at (Some key)) (sym is) (part, live)

-- places and keys are the same at once
key_of : (tree : Forest Row) (key : ℕ) → 0 < count_of_key key tree → first_key (part_from key tree) ≡ Some key
key_of tree key live = let x = located key tree live in rw x.is (ap Some x.key_is)

fewer_from : (list : Forest Row) (place more : ℕ) → place < more → 0 < count_of (siblings_from place list) → count_of (siblings_from more list) < count_of (siblings_from place list)
fewer_from Nothing zero zero before some = absurd (omega arith)
fewer_from Nothing zero (suc more) before some = absurd (omega arith)
fewer_from Nothing (suc place) zero before some = absurd (omega arith)
fewer_from Nothing (suc place) (suc more) before some = fewer_from Nothing place more (omega arith) some
fewer_from (Branch row kids siblings) place zero before some = absurd (omega arith)
fewer_from (Branch row kids siblings) zero (suc more) before some = let less = not_more siblings more in omega arith
  where
    not_more : (list : Forest Row) (place : ℕ) → count_of (siblings_from place list) ≤ count_of list
    not_more list zero = omega arith
    not_more Nothing (suc place) = not_more Nothing place
    not_more (Branch row kids siblings) (suc place) = let rest = not_more siblings place in omega arith
fewer_from (Branch row kids siblings) (suc place) (suc more) before some = fewer_from siblings place more (omega arith) some

pub same_place : (tree list : Forest Row) (key place other : ℕ) → 0 < count_of_key key tree → part_from key tree ≡ siblings_from place list → part_from key tree ≡ siblings_from other list → place ≡ other
same_place tree list key place other live first second =
    let x = located key tree live in
    let some : 0 < count_of (siblings_from place list) = rw (sym first, x.is) (omega arith) in
    let more : 0 < count_of (siblings_from other list) = rw (sym second, x.is) (omega arith) in
    let same : count_of (siblings_from place list) ≡ count_of (siblings_from other list) = ap count_of (sym first ∙ second) in
    elim (cases_lt place other) [
      | inl lt ↦ absurd (let fewer = fewer_from list place other lt some in omega arith)
      | inr le ↦ elim (cases_lt other place) [
        | inl lt ↦ absurd (let fewer = fewer_from list other place lt more in omega arith)
        | inr ge ↦ omega arith
      ]
    ]

pub same_key : (tree list : Forest Row) (key other place : ℕ) → 0 < count_of_key key tree → 0 < count_of_key other tree → part_from key tree ≡ siblings_from place list
    → part_from other tree ≡ siblings_from place list → key ≡ other
same_key tree list key other place live alive first second = some_is (sym (key_of tree key live) ∙ ap first_key (first ∙ sym second) ∙ key_of tree other alive)

-- the rules of a child
abbrev first_link : Forest Row → Link
first_link Nothing = no_link
first_link (Branch row kids siblings) = link_of row.view.facts

link_at : (list : Forest Row) (place : ℕ) → slice_index_or (links_of (kids_in list)) place no_link ≡ first_link (siblings_from place list)
link_at Nothing zero = refl
link_at Nothing (suc place) = link_at Nothing place
link_at (Branch row kids siblings) zero = refl
link_at (Branch row kids siblings) (suc place) = link_at siblings place

pub rules_at : (tree list : Forest Row) (key place : ℕ) → 0 < count_of_key key tree → part_from key tree ≡ siblings_from place list
    → (slice_index_or (links_of (kids_in list)) place no_link).rules ≡ (head_view (part_from key tree)).facts.rules
rules_at tree list key place live part =
    let x = located key tree live in
    ap (λ (link : Link). link.rules) (link_at list place ∙ ap first_link (sym part)) ∙ rw x.is refl

-- its facts as an anchor
pub facts_at : (tree list : Forest Row) (key place : ℕ) → 0 < count_of_key key tree → part_from key tree ≡ siblings_from place list
    → (child_at (kids_in list) place).facts ≡ layout_facts (head_view (part_from key tree)).facts
facts_at tree list key place live part =
    let x = located key tree live in
    ap (λ (kid : Child). kid.facts) (kid_at list place ∙ ap first_child (sym part)) ∙ rw x.is refl

-- the sibling that a child names
pub other_is : (place named : ℕ) → named ≡ place → other_than place (Some named) ≡ None
other_is place named same = let t : (named == place) ≡ true = grind (arith, nat_tests) in rw t refl

pub other_stays : (place named : ℕ) → named ≢ place → other_than place (Some named) ≡ Some named
other_stays place named other = let t : (named == place) ≡ false = grind (arith, nat_tests) in rw t refl

-- one step through a sibling
pub within_none : (left : ℕ) (shown : ℕ → Bool) (named : ℕ → Option ℕ) (place : ℕ) → named place ≡ None → anchor_within left shown named place ≡ None
within_none zero shown named place none = refl
within_none (suc left) shown named place none = ap (shown_or shown (anchor_within left shown named)) none

pub within_some : (left : ℕ) (shown : ℕ → Bool) (named : ℕ → Option ℕ) (place sibling : ℕ) → 0 < left → named place ≡ Some sibling
    → anchor_within left shown named place ≡ (if shown sibling then Some sibling else anchor_within (left - 1) shown named sibling)
within_some zero shown named place sibling some is = absurd (omega arith)
within_some (suc left) shown named place sibling some is =
    let one : left ≡ suc left - 1 = omega arith in
    ap (shown_or shown (anchor_within left shown named)) is ∙ ap (λ left. if shown sibling then Some sibling else anchor_within left shown named sibling) one

-- a walk through siblings that are gone
pub record AnchorWalk (tree list : Forest Row) (shown : ℕ → Bool) (named : ℕ → Option ℕ) (anchor : Option ℕ) (at left : ℕ) : Type 0 where
  pub here : ℕ
  pub part : part_from at tree ≡ siblings_from here list
  pub same : anchor_within left shown named here ≡ anchor

-- what an axis reads of facts
abbrev pub margins_of : Axis → Facts → ℤ × ℤ
margins_of axis facts = (near_margin axis facts, far_margin axis facts)

pub margins_same : (axis : Axis) (facts : Facts) → margins_of axis (layout_facts facts) ≡ margins_of axis facts
margins_same Horizontal facts = refl
margins_same Vertical facts = refl

-- the sibling that a child names, by its key
pub named_by : (tree : Forest Row) (view kid place : ℕ) (rtl : Bool) (axis : Axis) (tie : Tie) (id : ℕ) (found : Option ℕ) → 0 < count_of_key view tree → 0 < count_of_key kid tree
    → ((key : ℕ) → count_of_key key tree ≤ 1)
    → (let list = children_of_first (part_from view tree) in
    part_from kid tree ≡ siblings_from place list
    → id ≡ anchor_id rtl axis tie (head_view (part_from kid tree)).facts.rules
    → found ≡ option_and_then (λ place. first_key (siblings_from place list)) (last_with_id (links_in (views_of list)) id)
    → IsKidAt tree list (last_with_id (links_of (kids_in list)) (anchor_id rtl axis tie (slice_index_or (links_of (kids_in list)) place no_link).rules)) found)
named_by tree view kid place rtl axis tie id found live alive once part id_is is =
    let list = children_of_first (part_from view tree) in
    subst (λ id. IsKidAt tree list (last_with_id (links_of (kids_in list)) id) found) (id_is ∙ ap (anchor_id rtl axis tie) (sym (rules_at tree list kid place alive part)))
    (last_kid tree view id found live once is)

pub named_none : (tree list : Forest Row) (place : ℕ) (last : Option ℕ) → IsKidAt tree list last None → IsKidAt tree list (other_than place last) None
named_none tree list place None h = tt
named_none tree list place (Some named) h = absurd h

pub named_self : (tree list : Forest Row) (place : ℕ) (last : Option ℕ) (kid : ℕ) → 0 < count_of_key kid tree → part_from kid tree ≡ siblings_from place list → IsKidAt tree list last (Some kid)
    → IsKidAt tree list (other_than place last) None
named_self tree list place None kid live part h = absurd h
named_self tree list place (Some named) kid live part h =
    subst (λ other. IsKidAt tree list other None) (sym (other_is place named (same_place tree list kid named place live h.0 part))) tt

pub named_other : (tree list : Forest Row) (place : ℕ) (last : Option ℕ) (kid other : ℕ) → 0 < count_of_key kid tree → part_from kid tree ≡ siblings_from place list → other ≢ kid
    → IsKidAt tree list last (Some other) → IsKidAt tree list (other_than place last) (Some other)
named_other tree list place None kid other live part ne h = absurd h
named_other tree list place (Some named) kid other live part ne h =
    let apart : named ≢ place = λ same. ne (same_key tree list other kid place h.1 live (h.0 ∙ ap (λ place. siblings_from place list) same) part) in
    subst (λ found. IsKidAt tree list found (Some other)) (sym (other_stays place named apart)) h

-- a step of the walk
pub walk_start : (tree list : Forest Row) (kids : List Child) (rtl : Bool) (axis : Axis) (tie : Tie) (kid place left : ℕ) → left ≡ length kids → part_from kid tree ≡ siblings_from place list
    → AnchorWalk tree list (λ sibling. is_shown (child_at kids sibling).facts) (named_sibling rtl axis tie (links_of kids)) (anchor_of rtl axis tie (links_of kids) (λ sibling. is_shown (child_at kids sibling).facts) place) kid left
walk_start tree list kids rtl axis tie kid place left size part = record {
  here = place;
  part = part;
  same = ap (λ left. anchor_within left (λ sibling. is_shown (child_at kids sibling).facts) (named_sibling rtl axis tie (links_of kids)) place)
      (size ∙ sym (length-map kids (λ (kid : Child). link_of kid.facts)));
}

-- the walk from a gone sibling on
pub walk_past : (tree list : Forest Row) (search : Search) (gone place left : ℕ) → left ≡ length (kids_in list) - 1 → part_from gone tree ≡ siblings_from place list
    → AnchorWalk tree list (λ sibling. is_shown (child_at (kids_in list) sibling).facts) (named_sibling search.rtl search.axis search.tie (links_of (kids_in list))) (instead_of search (kids_in list) place) gone left
walk_past tree list search gone place left size part = record {
  here = place;
  part = part;
  same = ap (λ left. anchor_within left (λ sibling. is_shown (child_at (kids_in list) sibling).facts) (named_sibling search.rtl search.axis search.tie (links_of (kids_in list))) place) size;
}

-- who is a child has siblings
pub some_kids : (tree list : Forest Row) (key place : ℕ) → 0 < count_of_key key tree → part_from key tree ≡ siblings_from place list → 0 < length (kids_in list)
some_kids tree Nothing key place live part = let x = located key tree live in absurd (nothing_from place x.row x.kids x.siblings (sym x.is ∙ part))
  where
    nothing_from : (place : ℕ) (row : Row) (kids siblings : Forest Row) → Branch row kids siblings ≡ siblings_from place Nothing → ⊥
    nothing_from zero row kids siblings same = absurd (cc)
    nothing_from (suc place) row kids siblings same = nothing_from place row kids siblings same
some_kids tree (Branch row kids siblings) key place live part = omega arith

pub walk_none : (tree list : Forest Row) (shown : ℕ → Bool) (named : ℕ → Option ℕ) (anchor : Option ℕ) (at left : ℕ) (w : AnchorWalk tree list shown named anchor at left)
    → IsKidAt tree list (named w.here) None → IsKidAt tree list anchor None
walk_none tree list shown named anchor at left w h =
    subst (λ anchor. IsKidAt tree list anchor None) (sym (within_none left shown named w.here (kid_none tree list (named w.here) h)) ∙ w.same) tt

pub walk_found : (tree list : Forest Row) (shown : ℕ → Bool) (named : ℕ → Option ℕ) (anchor : Option ℕ) (at left key : ℕ) (w : AnchorWalk tree list shown named anchor at left)
    → 0 < left → IsKidAt tree list (named w.here) (Some key) → ((place : ℕ) → part_from key tree ≡ siblings_from place list → shown place ≡ true) → IsKidAt tree list anchor (Some key)
walk_found tree list shown named anchor at left key w some h here =
    let k = kid_some tree list (named w.here) key h in
    let step = within_some left shown named w.here k.place some k.is in
    let found : anchor_within left shown named w.here ≡ Some k.place = step ∙ ap (λ v. if v then Some k.place else anchor_within (left - 1) shown named k.place) (here k.place k.part) in
    as_kid tree list anchor k.place key (sym w.same ∙ found) k.part k.live

pub walk_on : (tree list : Forest Row) (shown : ℕ → Bool) (named : ℕ → Option ℕ) (anchor : Option ℕ) (at left key : ℕ) (w : AnchorWalk tree list shown named anchor at left)
    → 0 < left → IsKidAt tree list (named w.here) (Some key) → ((place : ℕ) → part_from key tree ≡ siblings_from place list → shown place ≡ false)
    → AnchorWalk tree list shown named anchor key (left - 1)
walk_on tree list shown named anchor at left key w some h gone =
    let k = kid_some tree list (named w.here) key h in
    let step = within_some left shown named w.here k.place some k.is in
    record {
      here = k.place;
      part = k.part;
      same = sym (ap (λ v. if v then Some k.place else anchor_within (left - 1) shown named k.place) (gone k.place k.part)) ∙ sym step ∙ w.same;
    }

pub walk_end : (tree list : Forest Row) (shown : ℕ → Bool) (named : ℕ → Option ℕ) (anchor : Option ℕ) (at left : ℕ) → AnchorWalk tree list shown named anchor at left → left ≡ 0 → IsKidAt tree list anchor None
walk_end tree list shown named anchor at left w none =
    subst (λ anchor. IsKidAt tree list anchor None) (sym (ap (λ left. anchor_within left shown named w.here) none) ∙ w.same) tt

-- an anchor with its sides
pub anchor_none : (tree list : Forest Row) (rtl : Bool) (axis : Axis) (held : ℕ → Held) (tie : Tie) (place : ℕ)
    → IsKidAt tree list (anchor_of rtl axis tie (links_of (kids_in list)) (λ sibling. is_shown (child_at (kids_in list) sibling).facts) place) None
    → None ≡ anchor_by rtl axis (kids_in list) (kept_spans axis held list) tie place
anchor_none tree list rtl axis held tie place h =
    sym (ap (option_map (λ sibling. anchor_with axis (child_at (kids_in list) sibling).facts (kept_spans axis held list sibling))) (kid_none tree list _ h))

pub anchor_some : (tree list : Forest Row) (rtl : Bool) (axis : Axis) (held : ℕ → Held) (tie : Tie) (place key : ℕ) (anchor : Anchor)
    → IsKidAt tree list (anchor_of rtl axis tie (links_of (kids_in list)) (λ sibling. is_shown (child_at (kids_in list) sibling).facts) place) (Some key)
    → anchor ≡ anchor_with axis (layout_facts (head_view (part_from key tree)).facts) (first_span axis held (part_from key tree))
    → Some anchor ≡ anchor_by rtl axis (kids_in list) (kept_spans axis held list) tie place
anchor_some tree list rtl axis held tie place key anchor h is =
    let at = anchor_of rtl axis tie (links_of (kids_in list)) (λ sibling. is_shown (child_at (kids_in list) sibling).facts) place in
    let k = kid_some tree list at key h in
    let same : anchor ≡ anchor_with axis (child_at (kids_in list) k.place).facts (kept_spans axis held list k.place) =
    is ∙ ap (λ (facts : Facts). anchor_with axis facts (first_span axis held (part_from key tree))) (sym (facts_at tree list key k.place k.live k.part))
    ∙ ap (λ part. anchor_with axis (child_at (kids_in list) k.place).facts (first_span axis held part)) k.part in
    ap Some same ∙ sym (ap (option_map (λ sibling. anchor_with axis (child_at (kids_in list) sibling).facts (kept_spans axis held list sibling))) k.is)

-- what is kept of a child on an axis
pub span_at_key : (axis : Axis) (tree : Forest Row) (key : ℕ) (held : ℕ → Held) → 0 < count_of_key key tree → first_span axis held (part_from key tree) ≡ span_or_none (edge_on axis (held key).state.edges)
span_at_key axis tree key held live =
    let x = located key tree live in
    rw x.is (ap (λ key. span_or_none (edge_on axis (held key).state.edges)) x.key_is)

-- a child whose rule names no sibling has no anchor
pub unnamed : (tree list : Forest Row) (kid place : ℕ) (rtl : Bool) (axis : Axis) (held : ℕ → Held) (tie : Tie) (id : ℕ) → 0 < count_of_key kid tree → part_from kid tree ≡ siblings_from place list
    → id ≡ anchor_id rtl axis tie (head_view (part_from kid tree)).facts.rules → id ≡ 0
    → None ≡ anchor_by rtl axis (kids_in list) (kept_spans axis held list) tie place
unnamed tree list kid place rtl axis held tie id alive part id_is none_is =
    let links = links_of (kids_in list) in
    let shown : ℕ → Bool = λ sibling. is_shown (child_at (kids_in list) sibling).facts in
    let none : named_sibling rtl axis tie links place ≡ None =
    subst (λ id. other_than place (last_with_id links id) ≡ None) (sym none_is ∙ id_is ∙ ap (anchor_id rtl axis tie) (sym (rules_at tree list kid place alive part))) refl in
    anchor_none tree list rtl axis held tie place (subst (λ at. IsKidAt tree list at None) (sym (within_none (length links) shown (named_sibling rtl axis tie links) place none)) tt)
