-- A walk over the children of a view from the last to the first, while each is laid.
use Rattle.std.proofs.Common.{◌≡◌, ℕ, ◌+◌, ◌-◌, ◌<◌, ◌≤◌, [], ◌++◌, length, Option, Some, None, refl, sym, ◌∙◌, ap, subst, arith, inl, inr}
use Rattle.std.proofs.lemmas.List.{append-nil}
use Rattle.std.specs.Prelude.{IfSome, true}
use Rattle.kept_views.specs.Laying.{Fit, IsQuietBack, kid_sizes, sizes_back}
use Rattle.kept_views.proofs.laid.LaidFrames.{Fit-along, Fit-first, Fit-later, IsQuiet-start, IsQuietAs-along, quiet_joined_back, sizes_back-few}
use Rattle.seen_parts.specs.declared.frame.Canvas.{Canvas}
use Rattle.view_model.specs.declared.facts.Facts.{Facts}
use Rattle.view_model.specs.declared.class.Class.{Class}
use Rattle.view_model.specs.declared.class.Class.TheVariants.{RelativeLayout}
use Rattle.view_model.specs.declared.limits.TheConstants.{MAX_VIEWS}
use Rattle.view_model.specs.Facts.{is_shown, layout_facts}
use Rattle.view_model.specs.Forest.{Forest, Nothing, Branch, count_of}
use Rattle.view_model.specs.Layout.{Spot, places_backwards}
use Rattle.view_model.specs.RelativeLayout.{sides_of}
use Rattle.view_tree.proofs.forest.BackwardWalks.{IsChildOf, before, following}
use Rattle.view_tree.specs.Rows.{At_first, Later, Later_on, Row, children_of_first, count_of_key, first_tree, head_view, last_key, later_siblings, part_from, previous_key}
use Rattle.view_tree.specs.Views.{Held, KeepsInside, held_of, specs_of}
use Rattle.view_tree.proofs.forest.Backwards.{count-later, count_of_key-later, from_later, kids-within, last_is, last_none, later-within, previous_in, previous_within, within_within}
use Rattle.view_tree.proofs.forest.KeyLaws.{Within, located, count_of_key-within, times_self}
use Rattle.view_tree.proofs.forest.Forests.{count_alone, live_below}
use Rattle.view_tree.proofs.forest.Walks.{count_of-parts, count_of_key-parts, once_from}
use Rattle.traversal.specs.declared.laying.placer.Placer.{Placer}
use Rattle.traversal.specs.Narrow.{AreNarrow, AreSidesNarrow, IsNarrowFor}
use Rattle.traversal.specs.Placing.{LaidKids, PlacesAs}
use Rattle.traversal.specs.Laying.{HasLaid, LayingStage}
use Rattle.traversal.proofs.laid.LaidStages.{as_begun, laid_joined, laid_none, unlaid_yet}
use Rattle.traversal.proofs.laid.LaidWalk.{narrow_for, sides_at}

-- so far, the children after `next` were laid, and nothing else was done
pub record BackWalk (tree list : Forest Row) (placer : Placer) (spot : Spot) (canvas : Option Canvas) (start : LayingStage) (next : Option ℕ) (now : LayingStage) : Type 0 where
  pub kid : IfSome next (IsChildOf tree list)
  pub places : PlacesAs placer spot (sizes_back (held_of start.views) (following next list tree))
  pub quiet : IsQuietBack (held_of now.views) spot (held_of start.views) (following next list tree)
  pub done : HasLaid canvas start now (following next list tree)

-- the first of a list is laid once the rest is
pub record WithFirst (placer : Placer) (spot : Spot) (canvas : Option Canvas) (start mid : LayingStage) (list : Forest Row) : Type 0 where
  pub places : PlacesAs placer spot (sizes_back (held_of start.views) list)
  pub quiet : IsQuietBack (held_of mid.views) spot (held_of start.views) list
  pub done : HasLaid canvas start mid list

with_first : (placer : Placer) (spot : Spot) (canvas : Option Canvas) (start old mid : LayingStage) (row : Row) (kids siblings : Forest Row) → ((key : ℕ) → count_of_key key (Branch row kids siblings) ≤ 1)
    → IsQuietBack (held_of old.views) spot (held_of start.views) siblings → HasLaid canvas start old siblings
    → LaidKids placer spot (sizes_back (held_of start.views) siblings) (held_of old.views) (held_of mid.views) (Branch row kids Nothing) → HasLaid canvas old mid (Branch row kids Nothing)
    → WithFirst placer spot canvas start mid (Branch row kids siblings)
with_first placer spot canvas start old mid row kids siblings once quiet rest step own =
    let first = Branch row kids Nothing in
    let list = Branch row kids siblings in
    let begun = as_begun canvas start old list once rest in
    let still = unlaid_yet canvas old mid list once own in
    let sizes_are : kid_sizes (specs_of (held_of old.views row.key).state) row kids ++ [] ≡ kid_sizes (specs_of (held_of start.views row.key).state) row kids =
    append-nil (kid_sizes (specs_of (held_of old.views row.key).state) row kids) ∙ ap (λ (h : Held). kid_sizes (specs_of h.state) row kids) (begun row.key (times_self row kids Nothing)) in
    record {
      places = subst (λ sizes. PlacesAs placer spot (sizes_back (held_of start.views) siblings ++ sizes)) sizes_are step.places;
      quiet = quiet_joined_back spot (held_of start.views) (held_of mid.views) row kids siblings
          (IsQuiet-start (held_of mid.views) spot (sizes_back (held_of start.views) siblings) (held_of start.views) (held_of old.views) first begun step.quiet)
          (IsQuietAs-along (held_of old.views) (held_of mid.views) (held_of start.views) siblings still quiet);
      done = laid_joined canvas start old mid list once rest own;
    }

pub back_start : (tree : Forest Row) (view : ℕ) (placer : Placer) (spot : Spot) (canvas : Option Canvas) (start : LayingStage) (last : Option ℕ) → ((key : ℕ) → count_of_key key tree ≤ 1) → 0 < count_of_key view tree
    → last ≡ last_key (children_of_first (part_from view tree)) → PlacesAs placer spot [] → BackWalk tree (children_of_first (part_from view tree)) placer spot canvas start last start
back_start tree view placer spot canvas start None once live e places =
    let none = last_none (children_of_first (part_from view tree)) (sym e) in
    record {
      kid = tt;
      places = rw none places;
      quiet = rw none (record { kept = tt; reached = tt; specs = refl; edges = refl; lies = refl; places = refl; offsets = tt });
      done = rw none (laid_none canvas start Nothing);
    }
back_start tree view placer spot canvas start (Some key) once live e places =
    let list = children_of_first (part_from view tree) in
    let l = last_is list key (sym e) in
    let w = kids-within view tree live in
    let from_is : part_from key tree ≡ Branch l.row l.kids Nothing =
    ap (λ k. part_from k tree) (sym l.key_is) ∙ from_later tree list l.row l.kids Nothing once w l.there in
    let n = count_of_key-within l.row.key (within_within (later-within l.there) w) in
    let live_row : 0 < count_of_key l.row.key tree = let self = times_self l.row l.kids Nothing in omega arith in
    record {
      kid = record { live = subst (λ k. 0 < count_of_key k tree) l.key_is live_row; within = subst (λ t. Later t list) (sym from_is) l.there };
      places = rw from_is places;
      quiet = rw from_is (record { kept = tt; reached = tt; specs = refl; edges = refl; lies = refl; places = refl; offsets = tt });
      done = rw from_is (laid_none canvas start Nothing);
    }

-- one child further
pub record WalkTo (tree : Forest Row) (view : ℕ) (placer : Placer) (spot : Spot) (canvas : Option Canvas) (start mid : LayingStage) (kid : ℕ) (next : Option ℕ) : Type 0 where
  pub walk : BackWalk tree (children_of_first (part_from view tree)) placer spot canvas start next mid
  pub fewer : before next (children_of_first (part_from view tree)) tree < before (Some kid) (children_of_first (part_from view tree)) tree

pub back_on : (tree : Forest Row) (view : ℕ) (placer next_placer : Placer) (spot : Spot) (canvas : Option Canvas) (start : LayingStage) (kid : ℕ) (old mid : LayingStage) (next : Option ℕ)
    → ((key : ℕ) → count_of_key key tree ≤ 1) → 0 < count_of_key view tree
    → BackWalk tree (children_of_first (part_from view tree)) placer spot canvas start (Some kid) old
    → LaidKids next_placer spot (sizes_back (held_of start.views) (later_siblings (part_from kid tree))) (held_of old.views) (held_of mid.views) (first_tree (part_from kid tree))
    → HasLaid canvas old mid (first_tree (part_from kid tree))
    → next ≡ previous_key None kid tree
    → WalkTo tree view next_placer spot canvas start mid kid next
back_on tree view placer next_placer spot canvas start kid old mid next keys live walk step own previous =
    let k : IsChildOf tree (children_of_first (part_from view tree)) kid = walk.kid in
    let list = children_of_first (part_from view tree) in
    let f = located kid tree k.live in
    let v = located view tree live in
    let l : Later (Branch f.row f.kids f.siblings) list = subst (λ t. Later t list) f.is k.within in
    let inside = kids-within view tree live in
    let w : Within (Branch v.row list v.siblings) tree = subst (λ t. Within (Branch v.row t v.siblings) tree) (sym (ap children_of_first v.is)) v.within in
    let once : (key : ℕ) → count_of_key key list ≤ 1 = λ key. let h = keys key in let i = count_of_key-within key inside in omega arith in
    let one : (key : ℕ) → count_of_key key (Branch f.row f.kids f.siblings) ≤ 1 = λ key. let h = once key in let i = count_of_key-later key l in omega arith in
    let there : 0 < count_of_key kid list = let s = times_self f.row f.kids f.siblings in subst (λ k. 0 < count_of_key k list) f.key_is (let h = count_of_key-later f.row.key l in omega arith) in
    let within_list : previous_key None kid tree ≡ previous_key None f.row.key list = previous_within kid v.row list v.siblings None w keys there ∙ ap (λ k. previous_key None k list) (sym f.key_is) in
    let quiet : IsQuietBack (held_of old.views) spot (held_of start.views) f.siblings = rw f.is at walk.quiet in
    let rest : HasLaid canvas start old f.siblings = rw f.is at walk.done in
    let taken : LaidKids next_placer spot (sizes_back (held_of start.views) f.siblings) (held_of old.views) (held_of mid.views) (Branch f.row f.kids Nothing) = rw f.is at step in
    let own : HasLaid canvas old mid (Branch f.row f.kids Nothing) = rw f.is at own in
    let all = with_first next_placer spot canvas start old mid f.row f.kids f.siblings one quiet rest taken own in
    elim (previous_in f.row f.kids f.siblings None l once) [
      | inl p ↦
          subst (WalkTo tree view next_placer spot canvas start mid kid) (sym (previous ∙ within_list ∙ p.0))
          (let few = count-later k.within in
          let all = subst (WithFirst next_placer spot canvas start mid) p.1 all in
          record {
            walk = record { kid = tt; places = all.places; quiet = all.quiet; done = all.done };
            fewer = omega arith;
          })
      | inr p ↦
          subst (WalkTo tree view next_placer spot canvas start mid kid) (sym (previous ∙ within_list ∙ p.found_is))
          (let from_is : part_from p.row.key tree ≡ Branch p.row p.kids (Branch f.row f.kids f.siblings) = from_later tree list p.row p.kids (Branch f.row f.kids f.siblings) keys inside p.there in
          let few = count-later p.there in
          let count : count_of (part_from p.row.key tree) ≡ 1 + (count_of p.kids + count_of (Branch f.row f.kids f.siblings)) = ap count_of from_is in
          let same : count_of (part_from kid tree) ≡ count_of (Branch f.row f.kids f.siblings) = ap count_of f.is in
          let n = count_of_key-within p.row.key (within_within (later-within p.there) inside) in
          let live_row : 0 < count_of_key p.row.key tree = let self = times_self p.row p.kids (Branch f.row f.kids f.siblings) in omega arith in
          record {
            walk = record {
              kid = record { live = live_row; within = subst (λ t. Later t list) (sym from_is) p.there };
              places = rw from_is all.places;
              quiet = rw from_is all.quiet;
              done = rw from_is all.done;
            };
            fewer = omega arith;
          })
    ]

-- what is wanted of the next child
Fit-back : (held : ℕ → Held) {rest list : Forest Row} → Later rest list → Fit held list → Fit held rest
Fit-back held At_first fit = fit
Fit-back held (Later_on {row = row} {kids = kids} {siblings = siblings} l) fit = Fit-back held l (Fit-later held (Branch row kids siblings) fit)

AreNarrow-back : (held : ℕ → Held) {rest list : Forest Row} → Later rest list → AreNarrow held list → AreNarrow held rest
AreNarrow-back held At_first narrow = narrow
AreNarrow-back held (Later_on l) narrow = AreNarrow-back held l narrow.1

module _ (tree list : Forest Row) (placer : Placer) (spot : Spot) (canvas : Option Canvas) (start : LayingStage) (kid : ℕ) (now : LayingStage)
    (keys : (key : ℕ) → count_of_key key tree ≤ 1) (walk : BackWalk tree list placer spot canvas start (Some kid) now) where
  at : IsChildOf tree list kid
  at = walk.kid

  still : KeepsInside (held_of start.views) (held_of now.views) (first_tree (part_from kid tree))
  still key here =
      let parts = count_of_key-parts key (part_from kid tree) in
      let once = once_from tree kid keys at.live key in
      walk.done.others key (omega arith)

  pub back_fit : Fit (held_of start.views) list → Fit (held_of now.views) (first_tree (part_from kid tree))
  back_fit fit = Fit-along (held_of start.views) (held_of now.views) (first_tree (part_from kid tree)) still (Fit-first (held_of start.views) (part_from kid tree) (Fit-back (held_of start.views) at.within fit))

  pub back_narrow : (spot.view.class ≡ RelativeLayout → AreNarrow (held_of start.views) list) → is_shown (head_view (part_from kid tree)).facts ≡ true → IsNarrowFor placer (sides_of (held_of now.views kid).state.edges)
  back_narrow narrow shown =
      let f = located kid tree at.live in
      let alone : KeepsInside (held_of start.views) (held_of now.views) (Branch f.row f.kids Nothing) = rw f.is at still in
      let same : held_of now.views kid ≡ held_of start.views kid = subst (λ k. held_of now.views k ≡ held_of start.views k) f.key_is (alone f.row.key (times_self f.row f.kids Nothing)) in
      narrow_for placer spot (sizes_back (held_of start.views) (following (Some kid) list tree)) (sides_of (held_of now.views kid).state.edges) walk.places
      (λ class. subst (λ (held : Held). AreSidesNarrow (sides_of held.state.edges)) (sym same)
      (sides_at tree kid (held_of start.views) at.live shown (AreNarrow-back (held_of start.views) at.within (narrow class))))

  pub back_few : count_of list ≤ MAX_VIEWS → length (sizes_back (held_of start.views) (following (Some kid) list tree)) + count_of (first_tree (part_from kid tree)) ≤ MAX_VIEWS
  back_few few =
      let sizes = sizes_back-few (held_of start.views) (following (Some kid) list tree) in
      let parts = count_of-parts (part_from kid tree) in
      let later = count-later at.within in
      omega arith

pub fewer_back : (tree : Forest Row) (view kid : ℕ) → 0 < count_of_key view tree → IsChildOf tree (children_of_first (part_from view tree)) kid
    → count_of (first_tree (part_from kid tree)) < count_of (first_tree (part_from view tree))
fewer_back tree view kid live at =
    let alone = count_alone (part_from kid tree) in
    let later = count-later at.within in
    let below = live_below view tree live in
    omega arith

-- whether a view places its children from the last to the first does not depend on its offset
pub backwards_is : (class : Class) (facts : Facts) → places_backwards class facts ≡ places_backwards class (layout_facts facts)
backwards_is class facts = refl
