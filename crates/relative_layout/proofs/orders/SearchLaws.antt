-- A whole search, step by step.
use Rattle.std.proofs.Common.{◌≡◌, ◌≢◌, ℕ, ◌+◌, ◌-◌, ◌<◌, ◌≤◌, true, false, List, [], ◌∷◌, ◌++◌, length, get_or, set, take, Some, None, refl, sym, ap, ◌∙◌, arith, inl, inr, length-append}
use Rattle.std.specs.Prelude.{nat_lt, replicate}
use Rattle.std.proofs.Math.ListN.{length-set}
use Rattle.std.proofs.lemmas.Bool.{cases_lt}
use Rattle.std.proofs.lemmas.Bool.Decides.{nat_tests}
use Rattle.std.proofs.lemmas.List.{get_or-take, get_or_past, length-replicate, length-take-le}
use Rattle.relative_layout.proofs.orders.Counting.{unmarked}
use Rattle.relative_layout.proofs.orders.PartLaws.{Enters-fresh, PointState, IsDone, IsFresh, IsOn, IsSearch-drop, IsSearch-enter, IsSearch-hold, IsSearch-join, IsSearch-leave, IsSearch-next, IsSearch-none, IsReported-keep, IsReported-leave, IsWhole-last, LedTo-next, found, settled}
use Rattle.relative_layout.proofs.orders.PointLaws.{AreMarked-done, heads_inside}
use Rattle.relative_layout.proofs.orders.SettleLaws.{all_fresh}
use Rattle.relative_layout.specs.declared.ordering.naming.Naming.{Naming}
use Rattle.relative_layout.specs.declared.ordering.components.Part.{Part}
use Rattle.relative_layout.specs.declared.ordering.components.Search.{Search}
use Rattle.relative_layout.specs.declared.ordering.components.Status.TheVariants.{Done, Fresh, OnPath}
use Rattle.relative_layout.specs.ordering.Naming.{IsNaming, lists_of}
use Rattle.relative_layout.specs.ordering.Components.{AreMarked, IsLastPart, IsSearching, Joins, Leaves, LedTo, Visits, begins_after, heads_in, no_part, status_of, start_of}
use Rattle.relative_layout.specs.ordering.Points.{Goes}
use Rattle.view_model.specs.declared.relative.Link.{Link}
use Rattle.view_model.specs.SiblingRules.{leads}

pub IsSearching-start : (kids : List Link) (naming : Naming) (search : Search) → search.status.items ≡ replicate (length kids + length kids) Fresh → search.path.items ≡ [] → search.todo.items ≡ []
    → search.parts.items ≡ [] → search.members.items ≡ replicate (length kids) false → IsSearching kids naming search None
IsSearching-start kids naming search status path todo parts members = record {
  size = ap length status ∙ length-replicate _ _;
  path = IsSearch-none _ _ _ _ _ None (λ a. rw status (all_fresh _ a)) path todo parts;
  reported = record {
    size = ap length members ∙ length-replicate _ _;
    sound = λ a t. absurd (let f = unmarked (length kids) a in let g = rw members at t in let bad : true ≡ false = sym g ∙ f in cc);
    whole = λ a h e. absurd (let f = all_fresh (length kids + length kids) a in let g = rw status at e in let bad : Fresh ≡ Done = sym f ∙ g in cc);
  };
}

pub IsSearching-hold : (kids : List Link) (naming : Naming) (search : Search) (point : ℕ) → IsSearching kids naming search None → IsSearching kids naming search (Some point)
IsSearching-hold kids naming search point is = record { size = is.size; path = IsSearch-hold _ _ _ _ _ (Some point) is.path; reported = is.reported }

-- no point is on the path if there is no part
pub nothing_on : (kids : List Link) (naming : Naming) (search : Search) → search.parts.items ≡ [] → IsSearching kids naming search None → (place : ℕ) → place < length search.path.items → ⊥
nothing_on kids naming search none is place h =
    let c = is.path.covered place h in
    let few : length search.parts.items ≡ 0 = ap length none in
    omega (arith, c.1)

pub IsSearching-enter : (kids : List Link) (naming : Naming) (old new : Search) (point : ℕ) → point < length kids + length kids → status_of old.status.items point ≡ Fresh
    → ((place : ℕ) → place < length old.path.items → Goes (heads_in kids naming) (get_or old.path.items place 0) point)
    → new.status.items ≡ set old.status.items point (OnPath (length old.path.items)) → new.path.items ≡ old.path.items ++ point ∷ []
    → new.parts.items ≡ old.parts.items ++ record { path = length old.path.items; todo = length old.todo.items } ∷ []
    → new.todo.items ≡ old.todo.items ++ heads_in kids naming point → new.members.items ≡ old.members.items
    → IsSearching kids naming old (Some point) → IsSearching kids naming new None
IsSearching-enter kids naming old new point small is_fresh led status path parts todo members is =
    let fits : point < length old.status.items = omega (arith, is.size) in
    record {
      size = ap length status ∙ length-set old.status.items point (OnPath (length old.path.items)) ∙ is.size;
      path = rw (status, path, parts, todo) (IsSearch-enter (heads_in kids naming) old.status.items old.path.items old.todo.items old.parts.items point fits is_fresh led is.path);
      reported = rw (status, members) (IsReported-keep (heads_in kids naming) (length kids) old.status.items _ old.members.items (Enters-fresh old.status.items old.path.items point fits is_fresh).was_done is.reported);
    }

-- a search that is the same except for the edges to follow
pub IsSearching-next : (kids : List Link) (naming : Naming) (old new : Search) (part : Part) (point : ℕ) → IsLastPart old.parts.items part → part.todo < length old.todo.items
    → old.todo.items ≡ new.todo.items ++ point ∷ [] → new.status ≡ old.status → new.path ≡ old.path → new.parts ≡ old.parts → new.members ≡ old.members
    → IsSearching kids naming old None → IsSearching kids naming new (Some point)
IsSearching-next kids naming old new part point last more todo status path parts members is =
    let was = rw todo at is.path in
    let long : length old.todo.items ≡ length new.todo.items + 1 = ap length todo ∙ length-append new.todo.items (point ∷ []) in
    record {
      size = rw status is.size;
      path = rw (status, path, parts) (IsSearch-next (heads_in kids naming) old.status.items old.path.items new.todo.items old.parts.items part point last (omega arith) was);
      reported = rw (status, members) is.reported;
    }

pub next_led : (kids : List Link) (naming : Naming) (old new : Search) (part : Part) (point : ℕ) → IsLastPart old.parts.items part → part.todo < length old.todo.items
    → old.todo.items ≡ new.todo.items ++ point ∷ [] → new.path ≡ old.path → new.parts ≡ old.parts
    → IsSearching kids naming old None → LedTo (heads_in kids naming) new.path.items new.parts.items point
next_led kids naming old new part point last more todo path parts is =
    let was = rw todo at is.path in
    let long : length old.todo.items ≡ length new.todo.items + 1 = ap length todo ∙ length-append new.todo.items (point ∷ []) in
    rw (path, parts) (LedTo-next (heads_in kids naming) old.status.items old.path.items new.todo.items old.parts.items part point last (omega arith) was)

pub led_inside : (kids : List Link) (naming : Naming) (path : List ℕ) (parts : List Part) (point : ℕ) → IsNaming kids naming → LedTo (heads_in kids naming) path parts point → point < length kids + length kids
led_inside kids naming path parts point are led = heads_inside naming.axis kids (lists_of naming.namers.items) (get_or path led.from 0) point are.rows led.goes

-- the current point is done
pub IsSearching-done : (kids : List Link) (naming : Naming) (search : Search) (point : ℕ) → status_of search.status.items point ≡ Done → IsSearching kids naming search (Some point) → IsSearching kids naming search None
IsSearching-done kids naming search point done is = record {
  size = is.size;
  path = IsSearch-drop _ _ _ _ _ point (λ i h. inl done) is.path;
  reported = is.reported;
}

begins_no_later : (place : ℕ) (parts : List Part) → begins_after place parts ≡ false → 0 < length parts → start_of parts (length parts - 1) ≤ place
unfolding begins_after
begins_no_later place parts f some =
    let t : nat_lt 0 (length parts) ≡ true = grind (arith, nat_tests) in
    let g = rw t at f in
    grind (arith, nat_tests)

-- the current point is on the path
pub IsSearching-join : (kids : List Link) (naming : Naming) (old new : Search) (point place : ℕ) → status_of old.status.items point ≡ OnPath place → LedTo (heads_in kids naming) old.path.items old.parts.items point
    → Joins place old.parts.items new.parts.items → begins_after place new.parts.items ≡ false
    → new.status ≡ old.status → new.path ≡ old.path → new.todo ≡ old.todo → new.members ≡ old.members
    → IsSearching kids naming old (Some point) → IsSearching kids naming new None
IsSearching-join kids naming old new point place on led joins last status path todo members is =
    let joined = IsSearch-join (heads_in kids naming) old.status.items old.path.items old.todo.items old.parts.items new.parts.items (Some point) point place led on joins is.path in
    record {
      size = rw status is.size;
      path = rw (status, path, todo) (IsSearch-drop _ _ _ _ _ point
          (λ i h.
          let some : 0 < length new.parts.items = omega arith in
          let up = joined.rising i (length new.parts.items - 1) (omega arith) (omega arith) in
          let end = begins_no_later place new.parts.items last some in
          inr (place, omega (arith, up.0, end), on))
          joined);
      reported = rw (status, members) is.reported;
    }

-- the last part is left
pub IsSearching-leave : (kids : List Link) (naming : Naming) (old new : Search) (part : Part) → IsLastPart old.parts.items part → length old.todo.items ≤ part.todo
    → Leaves (length kids) part.path old.path.items old.status.items new.status.items old.members.items new.members.items
    → new.path.items ≡ take part.path old.path.items → new.parts.items ≡ take (length old.parts.items - 1) old.parts.items → new.todo ≡ old.todo
    → IsSearching kids naming old None → IsSearching kids naming new None
IsSearching-leave kids naming old new part last room leaves path parts todo is = record {
  size = leaves.settles.size ∙ is.size;
  path = rw (path, parts, todo) (IsSearch-leave (heads_in kids naming) leaves.two (length kids) old.path.items old.todo.items old.parts.items part old.status.items new.status.items old.members.items new.members.items last room leaves.settles is.path);
  reported = IsReported-leave (heads_in kids naming) leaves.two (length kids) part.path old.path.items old.status.items new.status.items old.members.items new.members.items leaves.yes leaves.no leaves.settles
      (IsWhole-last (heads_in kids naming) old.status.items old.path.items old.todo.items old.parts.items part last room is.path) is.reported;
}

pub Visits-leave : (kids : List Link) (naming : Naming) (old new : Search) (part : Part) → IsLastPart old.parts.items part → length old.todo.items ≤ part.todo
    → Leaves (length kids) part.path old.path.items old.status.items new.status.items old.members.items new.members.items
    → IsSearching kids naming old None → Visits old.status.items new.status.items
Visits-leave kids naming old new part last room leaves is = λ a was f.
    elim (settled (heads_in kids naming) leaves.two (length kids) part.path old.path.items old.status.items new.status.items old.members.items new.members.items leaves.settles
    (IsWhole-last (heads_in kids naming) old.status.items old.path.items old.todo.items old.parts.items part last room is.path) a) [
      | inl w ↦ let z = w.1 in let bad : Done ≡ Fresh = sym z ∙ f in cc
      | inr w ↦ was (sym w.1 ∙ f)
    ]

-- once no part is left and no point is fresh
pub AreMarked-all : (kids : List Link) (naming : Naming) (search : Search) → IsNaming kids naming → search.parts.items ≡ [] → ((point : ℕ) → point < length kids + length kids → status_of search.status.items point ≢ Fresh)
    → IsSearching kids naming search None → AreMarked (leads naming.axis kids) (length kids) search.members.items
AreMarked-all kids naming search are none each is = AreMarked-done naming.axis kids (lists_of naming.namers.items) search.status.items search.members.items are.rows done is.reported
  where
    done_case : (place : ℕ) → place < length kids → PointState search.status.items place → status_of search.status.items place ≡ Done
    done_case place h (IsFresh e) = absurd (each place (omega arith) e)
    done_case place h (IsOn p e) = absurd (nothing_on kids naming search none is p (is.path.back place p e).0)
    done_case place h (IsDone e) = e

    done : (place : ℕ) → place < length kids → status_of search.status.items place ≡ Done
    done place h = done_case place h (found search.status.items place)

pub begins_after-none : (place : ℕ) (parts : List Part) → length parts ≡ 0 → begins_after place parts ≡ false
unfolding begins_after
begins_after-none place parts none = rw none refl

pub begins_after-some : (place : ℕ) (parts : List Part) → 0 < length parts → begins_after place parts ≡ nat_lt place (start_of parts (length parts - 1))
unfolding begins_after
begins_after-some place parts some = let t : nat_lt 0 (length parts) ≡ true = grind (arith, nat_tests) in rw t refl

begins_later : (place : ℕ) (parts : List Part) → begins_after place parts ≡ true → (0 < length parts) × (place < start_of parts (length parts - 1))
begins_later place parts t = elim (cases_lt 0 (length parts)) [
  | inl some ↦ (some, let later : nat_lt place (start_of parts (length parts - 1)) ≡ true = sym (begins_after-some place parts some) ∙ t in grind (arith, nat_tests))
  | inr none ↦ absurd (let f = begins_after-none place parts (omega arith) in let bad : true ≡ false = sym t ∙ f in cc)
]

-- parts before any was joined
pub Joins-none : (place : ℕ) (parts : List Part) → Joins place parts parts
Joins-none place parts = record { fewer = omega arith; same = λ i h. refl; following = λ h. absurd (omega arith) }

-- one part more that begins after the place
pub Joins-more : (place : ℕ) (old mid new : List Part) → begins_after place mid ≡ true → new ≡ take (length mid - 1) mid → Joins place old mid → Joins place old new
Joins-more place old mid new later is joins =
    let after = begins_later place mid later in
    let short : length (take (length mid - 1) mid) ≡ length mid - 1 = length-take-le (length mid - 1) mid (omega arith) in
    rw is (record {
      fewer = omega (arith, joins.fewer);
      same = λ i h. get_or-take (length mid - 1) mid i no_part (omega arith) ∙ joins.same i (omega (arith, after.0));
      following = λ h.
          let here : start_of mid (length mid - 1) ≡ start_of old (length mid - 1) = ap (λ (part : Part). part.path) (joins.same (length mid - 1) (omega (arith, after.0))) in
          rw short (rw here at after.1);
    })

pub fewer_parts : (mid new : List Part) (place : ℕ) → begins_after place mid ≡ true → new ≡ take (length mid - 1) mid → length new < length mid
fewer_parts mid new place later is =
    let after = begins_later place mid later in
    rw (is, length-take-le (length mid - 1) mid (omega arith)) (omega (arith, after.0))

-- points of the path are points
pub path_inside : (kids : List Link) (naming : Naming) (search : Search) (place : ℕ) → IsSearching kids naming search None → place < length search.path.items → get_or search.path.items place 0 < length search.status.items
path_inside kids naming search place is h = elim (cases_lt (get_or search.path.items place 0) (length search.status.items)) [
  | inl lt ↦ lt
  | inr le ↦ absurd (
      let past : status_of search.status.items (get_or search.path.items place 0) ≡ Fresh = get_or_past search.status.items (get_or search.path.items place 0) Fresh le in
      let bad : Fresh ≡ OnPath place = sym past ∙ is.path.there place h in
      cc)
]

-- the last part begins on the path
pub part_fits : (kids : List Link) (naming : Naming) (search : Search) (part : Part) → IsLastPart search.parts.items part → IsSearching kids naming search None → part.path ≤ length search.path.items
part_fits kids naming search part last is =
    let here = is.path.inside (length search.parts.items - 1) (omega (arith, last.some)) in
    let start : start_of search.parts.items (length search.parts.items - 1) ≡ part.path = ap (λ (p : Part). p.path) last.is in
    omega (arith, here.0)
