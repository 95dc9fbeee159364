-- The steps of an event through a group, one by one.
use Rattle.std.proofs.Common.{◌≡◌, ℕ, ℤ, ◌+◌, ◌<◌, ◌≤◌, Bool, true, false, List, [], ◌∷◌, Option, Some, None, refl, sym, ◌∙◌, ap, subst, arith, inl, inr}
use Rattle.std.proofs.lemmas.Bool.{eq-eqb}
use Rattle.std.specs.Prelude.{if◌then◌else◌, ◌||◌, not}
use Rattle.std.specs.Option.{is_some}
use Rattle.touch_event.specs.declared.event.Event.{Event}
use Rattle.view_model.specs.Forest.{Forest, Nothing, Branch, count_of}
use Rattle.view_model.specs.PlainTree.{PlainView}
use Rattle.view_tree.proofs.forest.BackwardWalks.{before}
use Rattle.view_tree.specs.Rows.{At_first, Later, Later_on, Row, part_from, last_key, previous_key, count_of_key, count_of_number, views_of, children_of_first, later_siblings, head_view}
use Rattle.view_tree.specs.Views.{IsLive, IsTree, Views, facts_of, number_of, state_of}
use Rattle.view_tree.specs.declared.node.state.State.{State}
use Rattle.view_model.specs.declared.facts.Facts.{Facts}
use Rattle.view_tree.proofs.forest.KeyLaws.{Within, located, number-within, count_of_key-within, times_self}
use Rattle.touch_dispatch.specs.declared.handling.receiver.Receiver.{Receiver}
use Rattle.touch_dispatch.specs.declared.reaching.taker.Taker.{Taker}
use Rattle.touch_dispatch.specs.declared.reaching.taker.Taker.TheVariants.{NoChild, Earlier, Sent}
use Rattle.touch_dispatch.specs.declared.log.Entry.{Entry}
use Rattle.view_tree.proofs.forest.Backwards.{count-later, count_of_key-later, from_later, kids-within, last_is, last_none, later-within, previous_in, previous_within, within_within}
use Rattle.touch_dispatch.proofs.gestures.CaughtLaws.{caught_put}
use Rattle.touch_dispatch.proofs.steps.GroupEvents.{group_event}
use Rattle.touch_dispatch.proofs.steps.SceneLaws.{kid_root, kids_part, offset_live, rect_live, same_child, same_kids, same_own, same_scene}
use Rattle.touch_dispatch.proofs.steps.StayLaws.{AllStay, children_stay, occurs, stays_hand_to}
use Rattle.touch_dispatch.proofs.steps.TargetLaws.{headed}
use Rattle.touch_dispatch.proofs.steps.TryWalk.{GetsPart, TryWalk}
use Rattle.touch_dispatch.specs.Dispatch.{EventChild, Scene, Tried, answered, begun, child_of, ended, event_children, group_reached, hand_out, hand_to, is_sent, is_taken, offered, only, part_for, reached_by, receiver, taken_by, tried_ids, try_child, try_children, unless_taken}
use Rattle.touch_dispatch.specs.gesture.Gestures.{PlainGesture, set_targets}
use Rattle.touch_dispatch.specs.handling.Handling.{Progress, Reached, asked, handled, is_nil, targets_at, with_gesture}
use Rattle.touch_dispatch.specs.reaching.Points.{is_tried}
use Rattle.touch_dispatch.specs.reaching.TreeEvents.{AreChildren, IsKidAt, OnlyScrolls, child_at, is_root, kids_of, offsets_in, own_of, progress_by, scene_of, target_of}
use Rattle.touch_targets.specs.Captures.{Target, first_child, first_ids, from_child, is_target, older, put_target, targets_from}

pub none_by : (o : Option ℕ) (b : Bool) (targets : List Target) → is_some o ≡ not b → b ≡ true → o ≡ first_child targets → is_nil targets ≡ true
none_by o b [] some e is = refl
none_by o b (t ∷ targets) some e is = absurd (let s = rw (is, e) at some in cc)

pub answered_own : (scene : Scene) (own : PlainView) (kids : List EventChild) (event : Event) (intercepted : Bool) (taker : Taker) (progress : Progress) (reached : Reached)
    → is_nil (targets_at progress own.number) ≡ true
    → handled (receiver scene own kids) event progress ≡ reached
    → answered (group_event scene own kids event intercepted taker) progress ≡ reached
answered_own scene own kids event intercepted taker progress reached none is = rw none is

pub some_by : (o : Option ℕ) (b : Bool) (targets : List Target) → is_some o ≡ not b → b ≡ false → o ≡ first_child targets → is_nil targets ≡ false
some_by o b [] some e is = absurd (let s = rw (is, e) at some in cc)
some_by o b (t ∷ targets) some e is = refl

pub answered_targets : (scene : Scene) (own : PlainView) (kids : List EventChild) (event : Event) (intercepted : Bool) (taker : Taker) (progress : Progress) (reached : Reached)
    → is_nil (targets_at progress own.number) ≡ false
    → hand_out (group_event scene own kids event intercepted taker) (targets_at progress own.number) false progress ≡ reached
    → answered (group_event scene own kids event intercepted taker) progress ≡ reached
answered_targets scene own kids event intercepted taker progress reached some is = rw some is

-- a group is asked once the gesture has begun, by what the code reads of it
pub asked_begun : (scene : Scene) (own : PlainView) (kids : List EventChild) (event : Event) (start began : Progress) (read : Receiver) (first : Reached)
    → read ≡ receiver scene own kids → began ≡ begun read.number event.action start → asked read event began ≡ first
    → asked (receiver scene own kids) event (begun own.number event.action start) ≡ first
asked_begun scene own kids event start began read first e1 e2 e3 =
    ap (asked (receiver scene own kids) event) (sym (e2 ∙ ap (λ (r : Receiver). begun r.number event.action start) e1)) ∙ ap (λ r. asked r event began) (sym e1) ∙ e3

pub group_chain : (scene : Scene) (own : PlainView) (kids : List EventChild) (event : Event) (start : Progress) (first : Reached) (second : Tried) (third : Reached) (last : Progress)
    → asked (receiver scene own kids) event (begun own.number event.action start) ≡ first
    → offered scene own kids event first.yes first.progress ≡ second
    → answered (group_event scene own kids event first.yes second.taker) second.progress ≡ third
    → last ≡ ended own.number own.facts.split event first.yes third.progress
    → group_reached scene own kids event start ≡ record { yes = third.yes; progress = last }
group_chain scene own kids event start first second third last e1 e2 e3 e4 = rw (e4, ← e3, ← e2, ← e1) refl

pub hand_to_kid : (scene : Scene) (own : PlainView) (kids : List EventChild) (event : Event) (intercepted : Bool) (taker : Taker) (target : Target) (progress : Progress) (part : Event) (kid : EventChild)
    (reached : Reached) → is_sent taker target.child ≡ false
    → part_for (scene.rects target.child) (progress.offsets own.number) event intercepted target.ids ≡ Some part
    → child_of target.child kids ≡ Some kid → kid.reach part progress ≡ reached
    → hand_to (group_event scene own kids event intercepted taker) target progress ≡ reached
hand_to_kid scene own kids event intercepted taker target progress part kid reached e1 e2 e3 e4 = rw (e1, e2, e3) e4

if_is : (b : Bool) (x y : Tried) → b ≡ true → (if b then x else y) ≡ x
if_is b x y e = rw e refl

pub try_no : (scene : Scene) (own : PlainView) (event : Event) (kid : EventChild) (progress : Progress)
    → is_tried kid.view.facts.visibility (scene.rects kid.view.number) (progress.offsets own.number) event ≡ false
    → try_child scene own event kid progress ≡ record { taker = NoChild; progress = progress }
try_no scene own event kid progress e = rw e refl

pub try_earlier : (scene : Scene) (own : PlainView) (event : Event) (kid : EventChild) (progress new : Progress)
    → is_tried kid.view.facts.visibility (scene.rects kid.view.number) (progress.offsets own.number) event ≡ true
    → is_target kid.view.number (targets_at progress own.number) ≡ true
    → with_gesture (set_targets own.number (put_target kid.view.number (only event.pointer) (targets_at progress own.number))) progress ≡ new
    → try_child scene own event kid progress ≡ record { taker = Earlier; progress = new }
try_earlier scene own event kid progress new e1 e2 e3 =
    if_is (is_tried kid.view.facts.visibility (scene.rects kid.view.number) (progress.offsets own.number) event) _ _ e1
    ∙ if_is (is_target kid.view.number (targets_at progress own.number)) _ _ e2
    ∙ ap (λ c. let t : Tried = record { taker = Earlier; progress = c } in t) e3

pub try_sent : (scene : Scene) (own : PlainView) (event : Event) (kid : EventChild) (progress : Progress) (part : Event) (reached : Reached) → GetsPart scene own event kid progress part
    → kid.reach part progress ≡ reached
    → try_child scene own event kid progress ≡ taken_by own event kid.view.number reached
try_sent scene own event kid progress part reached gets e = rw (gets.tried, gets.other, ← gets.part_is, e) refl

pub taken_no : (own : PlainView) (event : Event) (child : ℕ) (reached : Reached) → reached.yes ≡ false → taken_by own event child reached ≡ record { taker = NoChild; progress = reached.progress }
taken_no own event child reached e = rw e refl

pub taken_yes : (own : PlainView) (event : Event) (child : ℕ) (reached : Reached) (new : Progress) → reached.yes ≡ true
    → with_gesture (set_targets own.number (put_target child (tried_ids own.facts.split event) (targets_at reached.progress own.number))) reached.progress ≡ new
    → taken_by own event child reached ≡ record { taker = Sent child; progress = new }
taken_yes own event child reached new e is = rw e (ap (λ c. let t : Tried = record { taker = Sent child; progress = c } in t) is)

-- a view is not among those below it
pub views_occurs : (n : ℕ) (list : Forest Row) → occurs n (views_of list) ≡ count_of_number n list
views_occurs n Nothing = refl
views_occurs n (Branch row kids siblings) =
    let a = views_occurs n kids in
    let b = views_occurs n siblings in
    rw (a, b) refl

pub own_number : (row : Row) (kids siblings : Forest Row) → count_of_number row.view.number (Branch row kids siblings) ≡ 1 + (count_of_number row.view.number kids + count_of_number row.view.number siblings)
own_number row kids siblings = rw (eq-eqb row.view.number row.view.number refl) refl

absent_below : (views : Views) (view : ℕ) → IsTree views → IsLive views view → count_of_number (own_of views view).number (children_of_first (part_from view views.tree)) ≡ 0
absent_below views view is live =
    let f = located view views.tree live in
    let one = is.numbers f.row.view.number in
    let w = number-within f.row.view.number f.within in
    let self = own_number f.row f.kids f.siblings in
    rw f.is (omega arith)

pub kids_stay : (views : Views) (slop : ℤ) (view : ℕ) → IsTree views → IsLive views view → AllStay (own_of views view).number (kids_of views slop view)
kids_stay views slop view is live =
    children_stay (own_of views view).number (scene_of views slop) (views_of (children_of_first (part_from view views.tree)))
    (views_occurs (own_of views view).number (children_of_first (part_from view views.tree)) ∙ absent_below views view is live)

-- one target further
pub out_on : (scene : Scene) (own : PlainView) (kids : List EventChild) (event : Event) (intercepted : Bool) (taker : Taker) (child : ℕ) (ids : ℕ → Bool) (targets rest : List Target) (said : Bool)
    (progress : Progress) (reached : Reached)
    → from_child child targets ≡ record { child = child; ids = ids } ∷ rest
    → hand_to (group_event scene own kids event intercepted taker) (record { child = child; ids = ids }) progress ≡ reached
    → hand_out (group_event scene own kids event intercepted taker) (older (from_child child targets)) (said || reached.yes) reached.progress
    ≡ hand_out (group_event scene own kids event intercepted taker) (from_child child targets) said progress
out_on scene own kids event intercepted taker child ids targets rest said progress reached is e = rw (is, ← e) refl

-- the walk over the children
pub kid_at : (views : Views) (view key : ℕ) (row : Row) (kids siblings : Forest Row) → IsTree views → IsLive views view
    → Later (Branch row kids siblings) (children_of_first (part_from view views.tree)) → row.key ≡ key → IsKidAt views view key
kid_at views view key row kids siblings is live there key_is =
    let w = kids-within view views.tree live in
    let from_is : part_from key views.tree ≡ Branch row kids siblings =
    ap (λ k. part_from k views.tree) (sym key_is) ∙ from_later views.tree (children_of_first (part_from view views.tree)) row kids siblings is.keys w there in
    let n = count_of_key-within row.key (within_within (later-within there) w) in
    let live_row : IsLive views row.key = omega (arith, times_self row kids siblings) in
    record { live = subst (λ k. IsLive views k) key_is live_row; within = subst (λ t. Later t (children_of_first (part_from view views.tree))) (sym from_is) there }

pub walk_begin : (views : Views) (slop : ℤ) (view : ℕ) (event : Event) (progress : Progress) (last : Option ℕ) → IsTree views → IsLive views view
    → last ≡ last_key (children_of_first (part_from view views.tree)) → TryWalk views slop view event last progress progress
walk_begin views slop view event progress None is live e =
    record { kid = tt; rest = rw (last_none (children_of_first (part_from view views.tree)) (sym e)) refl }
walk_begin views slop view event progress (Some key) is live e =
    let l = last_is (children_of_first (part_from view views.tree)) key (sym e) in
    let w = kids-within view views.tree live in
    let from_is : part_from key views.tree ≡ Branch l.row l.kids Nothing =
    ap (λ k. part_from k views.tree) (sym l.key_is) ∙ from_later views.tree (children_of_first (part_from view views.tree)) l.row l.kids Nothing is.keys w l.there in
    record {
      kid = kid_at views view key l.row l.kids Nothing is live l.there l.key_is;
      rest = ap (λ t. try_children (scene_of views slop) (own_of views view) event (event_children (scene_of views slop) (views_of (later_siblings t))) progress) from_is;
    }

-- a child that did not take the pointer
pub not_taken : (taker : Taker) → is_taken taker ≡ false → taker ≡ NoChild
not_taken NoChild e = refl
not_taken Earlier e = absurd (cc)
not_taken (Sent child) e = absurd (cc)

pub taken_stays : (next : Progress → Tried) (taker : Taker) (progress : Progress) → is_taken taker ≡ true → unless_taken next taker progress ≡ record { taker = taker; progress = progress }
taken_stays next NoChild progress e = absurd (cc)
taken_stays next Earlier progress e = refl
taken_stays next (Sent child) progress e = refl

-- the result for a list of children, by its first one and the rest
pub from_first : (scene : Scene) (own : PlainView) (event : Event) (start now : Progress) (tried : Tried) (row : Row) (kids siblings list : Forest Row) → list ≡ Branch row kids siblings
    → try_children scene own event (event_children scene (views_of (later_siblings list))) start ≡ record { taker = NoChild; progress = now }
    → try_child scene own event (record { view = head_view list; reach = reached_by scene (head_view list) (event_children scene (views_of (children_of_first list))) }) now ≡ tried
    → try_children scene own event (event_children scene (views_of list)) start ≡ tried
from_first scene own event start now tried row kids siblings Nothing is rest e = absurd (cc)
from_first scene own event start now tried row kids siblings (Branch r b a) is rest e =
    let kid : EventChild = record { view = r.view; reach = reached_by scene r.view (event_children scene (views_of b)) } in
    ap (λ (t : Tried). unless_taken (try_child scene own event kid) t.taker t.progress) rest ∙ e

-- the same for the views after the one of a key
pub from_kid : (views : Views) (slop : ℤ) (view kid : ℕ) (event : Event) (start now : Progress) (tried : Tried) → IsLive views kid
    → try_children (scene_of views slop) (own_of views view) event (event_children (scene_of views slop) (views_of (later_siblings (part_from kid views.tree)))) start ≡ record { taker = NoChild; progress = now }
    → try_child (scene_of views slop) (own_of views view) event (child_at views slop kid) now ≡ tried
    → try_children (scene_of views slop) (own_of views view) event (event_children (scene_of views slop) (views_of (part_from kid views.tree))) start ≡ tried
from_kid views slop view kid event start now tried live rest e =
    let f = located kid views.tree live in
    from_first (scene_of views slop) (own_of views view) event start now tried f.row f.kids f.siblings (part_from kid views.tree) f.is rest e

-- a taker ends the walk
pub taken_up : (scene : Scene) (own : PlainView) (event : Event) {rest list : Forest Row} (start : Progress) (tried : Tried) → Later rest list → is_taken tried.taker ≡ true
    → try_children scene own event (event_children scene (views_of rest)) start ≡ tried
    → try_children scene own event (event_children scene (views_of list)) start ≡ tried
taken_up scene own event start tried At_first taken is = is
taken_up scene own event start tried (Later_on {row = row} {kids = kids} l) taken is =
    let up = taken_up scene own event start tried l taken is in
    rw up (taken_stays (try_child scene own event (record { view = row.view; reach = reached_by scene row.view (event_children scene (views_of kids)) })) tried.taker tried.progress taken)

-- one child further
abbrev pub WalkTo : Views → ℤ → ℕ → ℕ → Event → Progress → Progress → Option ℕ → Type 0
WalkTo views slop view kid event start new next =
    TryWalk views slop view event next start new × (before next (children_of_first (part_from view views.tree)) views.tree < before (Some kid) (children_of_first (part_from view views.tree)) views.tree)

to_none : (views : Views) (slop : ℤ) (view kid : ℕ) (event : Event) (start new : Progress) → IsKidAt views view kid → part_from kid views.tree ≡ children_of_first (part_from view views.tree)
    → try_children (scene_of views slop) (own_of views view) event (event_children (scene_of views slop) (views_of (part_from kid views.tree))) start ≡ record { taker = NoChild; progress = new }
    → WalkTo views slop view kid event start new None
to_none views slop view kid event start new is all tried =
    let few = count-later is.within in (
      record { kid = tt; rest = ap (λ t. try_children (scene_of views slop) (own_of views view) event (event_children (scene_of views slop) (views_of t)) start) (sym all) ∙ tried },
      omega arith,
    )

to_some : (views : Views) (slop : ℤ) (view kid : ℕ) (event : Event) (start new : Progress) (row : Row) (kids : Forest Row) → IsTree views → IsLive views view → IsKidAt views view kid
    → Later (Branch row kids (part_from kid views.tree)) (children_of_first (part_from view views.tree))
    → try_children (scene_of views slop) (own_of views view) event (event_children (scene_of views slop) (views_of (part_from kid views.tree))) start ≡ record { taker = NoChild; progress = new }
    → WalkTo views slop view kid event start new (Some row.key)
to_some views slop view kid event start new row kids is live at there tried =
    let w = kids-within view views.tree live in
    let from_is : part_from row.key views.tree ≡ Branch row kids (part_from kid views.tree) =
    from_later views.tree (children_of_first (part_from view views.tree)) row kids (part_from kid views.tree) is.keys w there in
    let few = count-later there in
    let count : count_of (part_from row.key views.tree) ≡ 1 + (count_of kids + count_of (part_from kid views.tree)) = ap count_of from_is in (
      record {
        kid = kid_at views view row.key row kids (part_from kid views.tree) is live there refl;
        rest = ap (λ t. try_children (scene_of views slop) (own_of views view) event (event_children (scene_of views slop) (views_of (later_siblings t))) start) from_is ∙ tried;
      },
      omega arith,
    )

pub walk_on : (views : Views) (slop : ℤ) (view kid : ℕ) (event : Event) (start old new : Progress) (next : Option ℕ) → IsTree views → IsLive views view
    → TryWalk views slop view event (Some kid) start old
    → try_child (scene_of views slop) (own_of views view) event (child_at views slop kid) old ≡ record { taker = NoChild; progress = new }
    → next ≡ previous_key None kid views.tree
    → WalkTo views slop view kid event start new next
walk_on views slop view kid event start old new next is live walk e previous =
    let k : IsKidAt views view kid = walk.kid in
    let list = children_of_first (part_from view views.tree) in
    let f = located kid views.tree k.live in
    let v = located view views.tree live in
    let l : Later (Branch f.row f.kids f.siblings) list = subst (λ t. Later t list) f.is k.within in
    let w : Within (Branch v.row list v.siblings) views.tree = subst (λ t. Within (Branch v.row t v.siblings) views.tree) (sym (ap children_of_first v.is)) v.within in
    let once : (key : ℕ) → count_of_key key list ≤ 1 = λ key. let h = is.keys key in let i = count_of_key-within key (kids-within view views.tree live) in omega arith in
    let there : 0 < count_of_key kid list = let h = count_of_key-later kid l in let s = times_self f.row f.kids f.siblings in subst (λ k. 0 < count_of_key k list) f.key_is (let h = count_of_key-later f.row.key l in omega arith) in
    let within_list : previous_key None kid views.tree ≡ previous_key None f.row.key list = previous_within kid v.row list v.siblings None w is.keys there ∙ ap (λ k. previous_key None k list) (sym f.key_is) in
    let tried = from_kid views slop view kid event start old (record { taker = NoChild; progress = new }) k.live walk.rest e in
    elim (previous_in f.row f.kids f.siblings None l once) [
      | inl p ↦
          subst (WalkTo views slop view kid event start new) (sym (previous ∙ within_list ∙ p.0))
          (to_none views slop view kid event start new k (f.is ∙ p.1) tried)
      | inr p ↦
          subst (WalkTo views slop view kid event start new) (sym (previous ∙ within_list ∙ p.found_is))
          (to_some views slop view kid event start new p.row p.kids is live k (subst (λ t. Later (Branch p.row p.kids t) list) (sym f.is) p.there) tried)
    ]

-- a target's part leaves the targets of the group
pub hand_to_stays : (views : Views) (slop : ℤ) (view : ℕ) (event : Event) (intercepted : Bool) (taker : Taker) (target : Target) (progress : Progress) (reached : Reached) → IsTree views → IsLive views view
    → hand_to (group_event (scene_of views slop) (own_of views view) (kids_of views slop view) event intercepted taker) target progress ≡ reached
    → targets_at reached.progress (own_of views view).number ≡ targets_at progress (own_of views view).number
hand_to_stays views slop view event intercepted taker target progress reached is live e =
    ap (λ (r : Reached). targets_at r.progress (own_of views view).number) (sym e)
    ∙ stays_hand_to (own_of views view).number (scene_of views slop) (own_of views view) (kids_of views slop view) event intercepted taker target progress (kids_stay views slop view is live)

-- the same in a tree that has scrolled
pub hand_to_same : (old new : Views) (slop : ℤ) (view : ℕ) (event : Event) (intercepted : Bool) (taker : Taker) (target : Target) (progress : Progress) → OnlyScrolls old new
    → hand_to (group_event (scene_of old slop) (own_of old view) (kids_of old slop view) event intercepted taker) target progress
    ≡ hand_to (group_event (scene_of new slop) (own_of new view) (kids_of new slop view) event intercepted taker) target progress
hand_to_same old new slop view event intercepted taker target progress s =
    ap (λ p. hand_to (group_event p (own_of old view) (kids_of old slop view) event intercepted taker) target progress) (sym (same_scene old new slop s))
    ∙ ap (λ v. hand_to (group_event (scene_of new slop) v (kids_of old slop view) event intercepted taker) target progress) (sym (same_own old new view s))
    ∙ ap (λ kids. hand_to (group_event (scene_of new slop) (own_of new view) kids event intercepted taker) target progress) (sym (same_kids old new slop view s))

pub try_child_same : (old new : Views) (slop : ℤ) (view kid : ℕ) (event : Event) (progress : Progress) → OnlyScrolls old new
    → try_child (scene_of old slop) (own_of old view) event (child_at old slop kid) progress ≡ try_child (scene_of new slop) (own_of new view) event (child_at new slop kid) progress
try_child_same old new slop view kid event progress s =
    ap (λ p. try_child p (own_of old view) event (child_at old slop kid) progress) (sym (same_scene old new slop s))
    ∙ ap (λ v. try_child (scene_of new slop) v event (child_at old slop kid) progress) (sym (same_own old new view s))
    ∙ ap (λ k. try_child (scene_of new slop) (own_of new view) event k progress) (sym (same_child old new slop kid s))

pub answered_same : (old new : Views) (slop : ℤ) (view : ℕ) (event : Event) (intercepted : Bool) (taker : Taker) (progress : Progress) → OnlyScrolls old new
    → answered (group_event (scene_of old slop) (own_of old view) (kids_of old slop view) event intercepted taker) progress
    ≡ answered (group_event (scene_of new slop) (own_of new view) (kids_of new slop view) event intercepted taker) progress
answered_same old new slop view event intercepted taker progress s =
    ap (λ p. answered (group_event p (own_of old view) (kids_of old slop view) event intercepted taker) progress) (sym (same_scene old new slop s))
    ∙ ap (λ v. answered (group_event (scene_of new slop) v (kids_of old slop view) event intercepted taker) progress) (sym (same_own old new view s))
    ∙ ap (λ kids. answered (group_event (scene_of new slop) (own_of new view) kids event intercepted taker) progress) (sym (same_kids old new slop view s))

pub part_for_same : (views : Views) (slop : ℤ) (view kid child : ℕ) (ids code_ids : ℕ → Bool) (event : Event) (intercepted : Bool) (own_facts : Facts) (state : State) → IsTree views → IsLive views view → IsLive views kid
    → own_facts ≡ facts_of views view → state ≡ state_of views kid → number_of views kid ≡ child → code_ids ≡ ids
    → part_for ((scene_of views slop).rects child) (offsets_in views (own_of views view).number) event intercepted ids
    ≡ part_for state.bounds own_facts.offset event intercepted code_ids
part_for_same views slop view kid child ids code_ids event intercepted own_facts state is live live_kid e1 e2 e3 e4 =
    ap (λ n. part_for ((scene_of views slop).rects n) (offsets_in views (own_of views view).number) event intercepted ids) (sym e3)
    ∙ ap (λ r. part_for r (offsets_in views (own_of views view).number) event intercepted ids) (rect_live views slop kid is live_kid)
    ∙ ap (λ (s : State). part_for s.bounds (offsets_in views (own_of views view).number) event intercepted ids) (sym e2)
    ∙ ap (λ o. part_for state.bounds o event intercepted ids) (offset_live views view is live ∙ sym (ap (λ (f : Facts). f.offset) e1))
    ∙ ap (λ i. part_for state.bounds own_facts.offset event intercepted i) (sym e4)

-- a put as the code makes it
pub put_is : (g new : PlainGesture) (group child : ℕ) (ids : ℕ → Bool) (n k : ℕ) (b : ℕ → Bool) → new ≡ set_targets n (put_target k b (g.targets n)) g → n ≡ group → k ≡ child → b ≡ ids
    → new ≡ set_targets group (put_target child ids (g.targets group)) g
put_is g new group child ids n k b e e1 e2 e3 =
    e ∙ ap (λ n. set_targets n (put_target k b (g.targets n)) g) e1
    ∙ ap (λ k. set_targets group (put_target k b (g.targets group)) g) e2
    ∙ ap (λ b. set_targets group (put_target child b (g.targets group)) g) e3

pub put_named : (offsets : ℕ → ℤ) (entries : List Entry) (g new : PlainGesture) (group child : ℕ) (ids : ℕ → Bool) (n k : ℕ) (b : ℕ → Bool) → new ≡ set_targets n (put_target k b (g.targets n)) g
    → n ≡ group → k ≡ child → b ≡ ids
    → with_gesture (set_targets group (put_target child ids (g.targets group))) (progress_by offsets g entries) ≡ progress_by offsets new entries
put_named offsets entries g new group child ids n k b e e1 e2 e3 = ap (λ g. progress_by offsets g entries) (sym (put_is g new group child ids n k b e e1 e2 e3))

pub caught_put_at : (views : Views) (g new : PlainGesture) (view kid : ℕ) (ids : ℕ → Bool) → IsTree views → IsLive views view → IsKidAt views view kid → AreChildren (views_of views.tree) g
    → new ≡ set_targets (number_of views view) (put_target (number_of views kid) ids (g.targets (number_of views view))) g
    → AreChildren (views_of views.tree) new
caught_put_at views g new view kid ids is live at caught e =
    subst (AreChildren (views_of views.tree)) (sym e)
    (caught_put (views_of views.tree) g (number_of views view) (number_of views kid) ids caught
    (ap (is_root (number_of views kid)) (kids_part views view is live) ∙ kid_root views view kid at))

-- a target's part leaves the targets of the group, as they were named before it
pub out_same : (old views : Views) (slop : ℤ) (view : ℕ) (event : Event) (intercepted : Bool) (taker : Taker) (target : Target) (progress : Progress) (reached : Reached) → IsTree old → IsLive old view → OnlyScrolls old views
    → hand_to (group_event (scene_of views slop) (own_of views view) (kids_of views slop view) event intercepted taker) target progress ≡ reached
    → targets_at reached.progress (own_of old view).number ≡ targets_at progress (own_of old view).number
out_same old views slop view event intercepted taker target progress reached is live s e =
    hand_to_stays old slop view event intercepted taker target progress reached is live (hand_to_same old views slop view event intercepted taker target progress s ∙ e)

pub out_step : (old views : Views) (slop : ℤ) (view : ℕ) (event : Event) (intercepted : Bool) (taker : Taker) (child : ℕ) (targets code_targets : List Target) (said said_now : Bool) (progress new : Progress) (answer : Bool)
    (next : Option ℕ) → OnlyScrolls old views → code_targets ≡ targets → is_target child targets ≡ true
    → targets_from next targets ≡ older (from_child child targets) → said_now ≡ (said || answer)
    → hand_to (group_event (scene_of views slop) (own_of views view) (kids_of views slop view) event intercepted taker) (target_of child code_targets) progress ≡ record { yes = answer; progress = new }
    → hand_out (group_event (scene_of old slop) (own_of old view) (kids_of old slop view) event intercepted taker) (targets_from next targets) said_now new
    ≡ hand_out (group_event (scene_of old slop) (own_of old view) (kids_of old slop view) event intercepted taker) (from_child child targets) said progress
out_step old views slop view event intercepted taker child targets code_targets said said_now progress new answer next s same there part now e =
    let h = headed child targets there in
    let head : target_of child code_targets ≡ record { child = child; ids = h.ids } = ap (target_of child) same ∙ ap (λ ts. let t : Target = record { child = child; ids = first_ids ts } in t) h.is in
    ap (λ ts. hand_out (group_event (scene_of old slop) (own_of old view) (kids_of old slop view) event intercepted taker) ts said_now new) part
    ∙ ap (λ b. hand_out (group_event (scene_of old slop) (own_of old view) (kids_of old slop view) event intercepted taker) (older (from_child child targets)) b new) now
    ∙ out_on (scene_of old slop) (own_of old view) (kids_of old slop view) event intercepted taker child h.ids targets h.rest said progress (record { yes = answer; progress = new }) h.is
    (hand_to_same old views slop view event intercepted taker (record { child = child; ids = h.ids }) progress s
    ∙ ap (λ t. hand_to (group_event (scene_of views slop) (own_of views view) (kids_of views slop view) event intercepted taker) t progress) (sym head) ∙ e)
