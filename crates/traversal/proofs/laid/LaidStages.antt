-- Laying one list of views after another.
use Rattle.std.proofs.Common.{ℕ, ◌≤◌, ◌+◌, Option, refl, sym, ◌∙◌, ap, arith}
use Rattle.kept_views.proofs.laid.LaidFrames.{differ-along, differ_parts, owed-along, owed_parts}
use Rattle.measure_pass.proofs.held.Grows.{Grown-along, Grown-refl}
use Rattle.measure_pass.proofs.held.Rests.{same_then}
use Rattle.seen_parts.specs.declared.frame.Canvas.{Canvas}
use Rattle.view_model.specs.Forest.{Forest}
use Rattle.view_tree.specs.Rows.{Row, count_of_key, first_tree, later_siblings}
use Rattle.view_tree.specs.Views.{Held, KeepsInside, held_of}
use Rattle.view_tree.proofs.forest.Walks.{KeepsInside-rest, count_of_key-parts}
use Rattle.traversal.specs.Growing.{LastAt}
use Rattle.traversal.specs.Laying.{HasLaid, LayingStage}
use Rattle.traversal.proofs.frames.CountedLaws.{counted_still, counted_then}
use Rattle.traversal.proofs.sight.CoverLaws.{places_kept}
use Rattle.traversal.proofs.sight.FollowedViews.{covers_along, covers_first, covers_later, sight_along, sight_joined, sight_same, sight_under}
use Rattle.traversal.proofs.laid.GrownLaid.{grown_first, grown_joined}
use Rattle.traversal.proofs.SharesLaid.{shared_first, shared_joined, shares_none}
use Rattle.measure_pass.proofs.Shares.{Shared-along}

-- nothing was done
pub laid_none : (canvas : Option Canvas) (start : LayingStage) (list : Forest Row) → HasLaid canvas start start list
laid_none canvas start list = record {
  same = record { tree = refl; orders = refl; next = refl };
  others = λ key none. refl;
  measures = omega arith;
  moves = omega arith;
  counted = counted_still start.views start.views start.work refl;
  caches = Grown-refl (LastAt (held_of start.views) list) (held_of start.views) list;
  shares = shares_none (held_of start.views) list start.work.measured;
  grew = λ x y h. h;
  sight = sight_same canvas start.damage (held_of start.views) (held_of start.views) list (λ key here. (refl, refl));
  within = λ box lies covered. lies;
}

-- the first of a list is as it was at the start where the others alone were laid
pub as_begun : (canvas : Option Canvas) (start old : LayingStage) (list : Forest Row) → ((key : ℕ) → count_of_key key list ≤ 1) → HasLaid canvas start old (later_siblings list)
    → KeepsInside (held_of start.views) (held_of old.views) (first_tree list)
as_begun canvas start old list once rest key here =
    let parts = count_of_key-parts key list in
    let one = once key in
    rest.others key (omega arith)

-- and the others stay while the first is
pub unlaid_yet : (canvas : Option Canvas) (old mid : LayingStage) (list : Forest Row) → ((key : ℕ) → count_of_key key list ≤ 1) → HasLaid canvas old mid (first_tree list)
    → KeepsInside (held_of old.views) (held_of mid.views) (later_siblings list)
unlaid_yet canvas old mid list once own = KeepsInside-rest (held_of old.views) (held_of mid.views) list once own.others

-- the others of a list were laid, and then its first
pub laid_joined : (canvas : Option Canvas) (start old mid : LayingStage) (list : Forest Row) → ((key : ℕ) → count_of_key key list ≤ 1)
    → HasLaid canvas start old (later_siblings list) → HasLaid canvas old mid (first_tree list) → HasLaid canvas start mid list
laid_joined canvas start old mid list once rest own =
    let begin = held_of start.views in
    let before = held_of old.views in
    let after = held_of mid.views in
    record {
      same = same_then start.views old.views mid.views rest.same own.same;
      others = λ key none. let parts = count_of_key-parts key list in own.others key (omega arith) ∙ rest.others key (omega arith);
      measures =
          let parts = owed_parts begin list in
          let same = owed-along begin before first begun in
          let one = own.measures in
          let more = rest.measures in
          omega arith;
      moves =
          let parts = differ_parts begin after list in
          let at_first = differ-along before begin after after first (λ key here. ap (λ (h : Held). h.state.bounds) (sym (begun key here))) (λ key here. refl) in
          let at_others = differ-along begin begin before after others (λ key here. refl) (λ key here. ap (λ (h : Held). h.state.bounds) (still key here)) in
          let one = own.moves in
          let more = rest.moves in
          omega arith;
      counted = counted_then rest.counted own.counted;
      caches = grown_joined begin after list (grown_first begin before after after first begun (λ key here. refl) own.caches)
          (Grown-along (LastAt begin others) begin begin before after others (λ key here. refl) still rest.caches);
      shares = record {
        count = own.shares.count + rest.shares.count;
        shared = shared_joined begin after list own.shares.count rest.shares.count
            (shared_first begin before after after first own.shares.count begun (λ key here. refl) own.shares.shared)
            (Shared-along (LastAt begin others) (λ place. 0) begin begin before after others rest.shares.count (λ key here. refl) still rest.shares.shared);
        spent = let one = own.shares.spent in let more = rest.shares.spent in omega arith;
      };
      grew = λ x y h. own.grew x y (rest.grew x y h);
      sight = sight_joined canvas mid.damage begin after list
          (sight_along canvas mid.damage before begin after after first (places_kept before begin first (λ key here. sym (begun key here)))
          (places_kept after after first (λ key here. refl)) own.sight)
          (sight_under canvas old.damage mid.damage begin after others own.grew
          (sight_along canvas old.damage begin begin before after others (places_kept begin begin others (λ key here. refl))
          (places_kept before after others still) rest.sight));
      within = λ box lies covered.
          let so_far = rest.within box lies (covers_along canvas box begin begin after before others (places_kept begin begin others (λ key here. refl))
          (places_kept after before others (λ key here. sym (still key here))) (covers_later canvas box begin after list covered)) in
          own.within box so_far (covers_along canvas box begin before after after first (places_kept begin before first begun)
          (places_kept after after first (λ key here. refl)) (covers_first canvas box begin after list covered));
    }
  where
    first : Forest Row
    first = first_tree list

    others : Forest Row
    others = later_siblings list

    begun : KeepsInside (held_of start.views) (held_of old.views) first
    begun = as_begun canvas start old list once rest

    still : KeepsInside (held_of old.views) (held_of mid.views) others
    still = unlaid_yet canvas old mid list once own
