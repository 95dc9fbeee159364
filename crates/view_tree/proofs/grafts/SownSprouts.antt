-- A tree to which some views of a sapling were added.
use Rattle.std.proofs.Common.{◌≡◌, ◌≢◌, Bool, ℕ, suc, ◌+◌, ◌-◌, ◌<◌, ◌≤◌, true, false, List, [], ◌∷◌, length, Some, None, refl, sym, ◌∙◌, ap, subst, arith, ◌⊎◌, inl, inr}
use Rattle.std.proofs.lemmas.Bool.{cases_eq, cases_lt, le-leb, lt-leb}
use Rattle.std.proofs.lemmas.List.{get_or-replicate, get_or-set_other, get_or-set_same, length-set}
use Rattle.std.specs.Prelude.{nat_le, replicate, slice_index_or, slice_set}
use Rattle.view_model.specs.Numbers.{max_depth}
use Rattle.view_model.specs.declared.class.Class.{Class}
use Rattle.view_model.specs.declared.sprout.Sprout.{Sprout}
use Rattle.view_model.specs.Directed.{directed, running}
use Rattle.view_model.specs.Direction.{dir}
use Rattle.view_model.specs.Forest.{Forest, Nothing, Branch, count_of}
use Rattle.view_model.specs.Growth.{growth_refusal, refusal_at}
use Rattle.view_model.specs.PlainTree.{PlainView, grown, single}
use Rattle.view_model.specs.Sprouts.{Seed, follows, numbered, preorder, seed_of, view_of}
use Rattle.view_tree.specs.tree.Attached.{Attached}
use Rattle.view_tree.specs.tree.Directions.{is_rtl_at, running_below}
use Rattle.view_tree.specs.tree.Grafted.{Gained}
use Rattle.view_tree.specs.Rows.{Row, ancestors, count_of_key, count_of_number, grown_at_key, has_kids, head_view, leaf, part_from}
use Rattle.view_tree.specs.tree.Sowing.{FitsBelow}
use Rattle.view_tree.specs.Views.{Held, Views, IsLive, IsTree, class_of, held_of, number_of, plain_of, plain_rows}
use Rattle.view_tree.proofs.forest.ChildLaws.{has_kids-grown, has_kids-new, has_kids-parent}
use Rattle.view_tree.proofs.forest.DepthLaws.{ancestors-grown, ancestors-leaf}
use Rattle.view_tree.proofs.forest.GrownParts.{count_of_key-grown_more, head_view-grown, head_view-leaf, head_view-new}
use Rattle.view_tree.proofs.forest.KeyLaws.{number_live, number_self}
use Rattle.view_tree.proofs.forest.NumberLaws.{count-grown, count-leaf, count_of_key-grown_some, count_of_key-leaf_other, count_of_key-leaf_own}
use Rattle.view_tree.proofs.grafts.GainLaws.{gained_more, gained_nothing}
use Rattle.view_tree.proofs.grafts.Paths.{FollowsDepth, followed, last_earlier, last_own, with_last}
use Rattle.view_tree.proofs.grafts.Refusing.{first_none, refusal_along, refusal_is}
use Rattle.view_tree.proofs.grafts.Sown.{Earlier, sown, sown_is}
use Rattle.view_tree.proofs.values.KeptLaws.{grows, refusal_live}

-- numbers of views are below the next
number_less : (next number : ℕ) → (next ≤ number → ⊥) → number < next
number_less next number not = elim (cases_lt number next) [
  | inl l ↦ l
  | inr g ↦ absurd (not g)
]

earlier_rows : (held : ℕ → Held) (next : ℕ) (tree : Forest Row) → ((number : ℕ) → next ≤ number → count_of_number number tree ≡ 0) → Earlier next (plain_rows held tree)
earlier_rows held next Nothing later = tt
earlier_rows held next (Branch row kids siblings) later = (
  number_less next row.view.number (λ le. let z = later row.view.number le in let s = number_self row kids siblings in absurd (omega arith)),
  earlier_rows held next kids (λ n le. let z = later n le in omega arith),
  earlier_rows held next siblings (λ n le. let z = later n le in omega arith),
)

pub earlier : (views : Views) → IsTree views → Earlier views.next (plain_of views)
earlier views is = earlier_rows (held_of views) views.next views.tree is.earlier

pub live_earlier : (views : Views) (key : ℕ) → IsTree views → IsLive views key → number_of views key < views.next
live_earlier views key is live =
    number_less views.next (number_of views key) (λ le. let z = is.earlier (number_of views key) le in let s = number_live key views.tree live in absurd (omega arith))

-- what the view of a key is, and how many are around it
pub record Entry (views : Views) (key number : ℕ) (class : Class) (way : Bool) (outer : ℕ) : Type 0 where
  pub live : IsLive views key
  pub number_is : number_of views key ≡ number
  pub class_is : class_of views key ≡ class
  pub way_is : is_rtl_at (Some key) views.tree ≡ way
  pub deep : length (ancestors key views.tree) ≡ outer

module _ (now new : Views) (parent key : ℕ) (view : PlainView) (live : IsLive now parent) (came : Attached now (Some parent) view key new) where
  entry_kept : (other number : ℕ) (class : Class) (way : Bool) (outer : ℕ) → Entry now other number class way outer → Entry new other number class way outer
  entry_kept other number class way outer entry =
      let none : count_of_key other (leaf key view) ≡ 0 =
      count_of_key-leaf_other other key view (λ e. let unused = came.unused in let z : count_of_key other now.tree ≡ 0 = rw e unused in let l = entry.live in absurd (omega arith)) in
      let same : head_view (part_from other new.tree) ≡ head_view (part_from other now.tree) =
      ap (λ tree. head_view (part_from other tree)) came.tree ∙ head_view-grown other parent (leaf key view) now.tree none in
      record {
        live = rw came.tree (let more = count_of_key-grown_more other parent (leaf key view) now.tree in let l = entry.live in omega arith);
        number_is = ap (λ (view : PlainView). view.number) same ∙ entry.number_is;
        class_is = ap (λ (view : PlainView). view.class) same ∙ entry.class_is;
        way_is = ap (λ (view : PlainView). view.facts.rtl) same ∙ entry.way_is;
        deep = rw came.tree (ap length (ancestors-grown other parent (leaf key view) now.tree none) ∙ entry.deep);
      }

  pub entry_new : (outer : ℕ) → length (ancestors parent now.tree) ≡ outer → Entry new key view.number view.class view.facts.rtl (suc outer)
  entry_new outer deep =
      let own = count_of_key-leaf_own key view in
      let same : head_view (part_from key new.tree) ≡ head_view (part_from key (leaf key view)) =
      ap (λ tree. head_view (part_from key tree)) came.tree ∙ head_view-new key parent (leaf key view) now.tree live came.unused (omega arith) in
      let itself = head_view-leaf key view in
      record {
        live = rw came.tree (count_of_key-grown_some key parent (leaf key view) now.tree live (omega arith));
        number_is = ap (λ (view : PlainView). view.number) (same ∙ itself);
        class_is = ap (λ (view : PlainView). view.class) (same ∙ itself);
        way_is = ap (λ (view : PlainView). view.facts.rtl) (same ∙ itself);
        deep = rw came.tree (ap length (ancestors-leaf key parent view now.tree live came.unused)) ∙ ap suc deep;
      }

-- the state: `keys` has the key of the last view of each place, that of the outermost one first
pub record Sowing (start : Views) (outermost : ℕ) (all : List Sprout) (keys : List ℕ) (rest : List Sprout) (now : Views) : Type 0 where
  pub before : ℕ
  pub numbers : ℕ → ℕ
  pub classes : ℕ → Class
  pub ways : ℕ → Bool
  pub entries : (place : ℕ) → place < before → Entry now (slice_index_or keys place 0) (numbers place) (classes place) (ways place) (length (ancestors outermost start.tree) + place)
  pub occupied : (place : ℕ) → place < before → has_kids (slice_index_or keys place 0) now.tree ≡ nat_le (suc (suc place)) before
  pub long : length keys ≡ max_depth
  pub shallow : before ≤ max_depth
  pub follow : follows before rest ≡ true
  pub sown : sown now.next numbers ways (plain_of now) rest ≡ sown start.next (λ _. number_of start outermost) (λ _. is_rtl_at (Some outermost) start.tree) (plain_of start) all
  pub element : ℕ
  pub taken : refusal_along (suc (length (ancestors outermost start.tree))) before classes (count_of now.tree) element rest ≡ None
  pub next : now.next + length rest ≡ start.next + length all
  pub added : Forest Row
  pub gained : Gained start (Some outermost) added now
  pub among : (place : ℕ) → place < before → (slice_index_or keys place 0 ≡ outermost) ⊎ (0 < count_of_key (slice_index_or keys place 0) added)

pub sowing_start : (start : Views) (outermost : ℕ) (all : List Sprout) (keys : List ℕ) → IsLive start outermost → keys ≡ replicate max_depth outermost → follows 1 all ≡ true
    → FitsBelow start outermost all → Sowing start outermost all keys all start
sowing_start start outermost all keys live every follow fits =
    let high = length (ancestors outermost start.tree) in
    let read : (place : ℕ) → place < 1 → slice_index_or keys place 0 ≡ outermost = λ place less. rw every (get_or-replicate max_depth place outermost 0 (omega arith)) in
    let way = is_rtl_at (Some outermost) start.tree in
    let own : Entry start outermost (number_of start outermost) (class_of start outermost) way high = record { live = live; number_is = refl; class_is = refl; way_is = refl; deep = refl } in
    record {
      before = 1;
      numbers = λ _. number_of start outermost;
      classes = λ _. class_of start outermost;
      ways = λ _. way;
      entries = λ place less.
          let flat : high ≡ high + place = omega arith in
          subst (λ key. Entry start key (number_of start outermost) (class_of start outermost) way (high + place)) (sym (read place less))
          (subst (Entry start outermost (number_of start outermost) (class_of start outermost) way) flat own);
      occupied = λ place less.
          let first : place ≡ 0 = omega arith in
          rw (read place less, first) fits.childless;
      long = ap length every;
      shallow = omega arith;
      follow = follow;
      sown = refl;
      element = 2;
      taken = refusal_is (suc high) (count_of start.tree) (class_of start outermost) (λ _. class_of start outermost) fits.kids all refl fits.preorder ∙ fits.taken;
      next = refl;
      added = Nothing;
      gained = gained_nothing start outermost;
      among = λ place less. inl (read place less);
    }

-- what the next view needs
pub record IsReadyToSow (keys : List ℕ) (sprout : Sprout) (now : Views) : Type 0 where
  pub deep : 1 < sprout.depth
  pub shallow : sprout.depth ≤ max_depth
  pub live : IsLive now (slice_index_or keys (sprout.depth - 2) 0)
  pub taken : refusal_at (plain_of now) (Some (number_of now (slice_index_or keys (sprout.depth - 2) 0))) ≡ None

module _ (start : Views) (outermost : ℕ) (all : List Sprout) (keys : List ℕ) (sprout : Sprout) (more : List Sprout) (now : Views)
    (is : IsTree now) (so_far : Sowing start outermost all keys (sprout ∷ more) now) where
  abbrev high : ℕ
  high = length (ancestors outermost start.tree)

  abbrev parent : ℕ
  parent = slice_index_or keys (sprout.depth - 2) 0

  place_of : FollowsDepth so_far.before sprout more
  place_of = followed so_far.before sprout more so_far.follow

  entry : Entry now parent (so_far.numbers (sprout.depth - 2)) (so_far.classes (sprout.depth - 2)) (so_far.ways (sprout.depth - 2)) (high + (sprout.depth - 2))
  entry = so_far.entries (sprout.depth - 2) (let d = place_of.deep in let n = place_of.next in omega arith)

  parts : (growth_refusal (so_far.classes (sprout.depth - 2)) (nat_le sprout.depth so_far.before) (suc high + (sprout.depth - 2)) (count_of now.tree) ≡ None)
      × (refusal_along (suc high) sprout.depth (with_last so_far.classes (sprout.depth - 1) sprout.class) (suc (count_of now.tree)) (suc so_far.element) more ≡ None)
  parts = first_none so_far.element _ _ so_far.taken

  occupied_here : has_kids parent now.tree ≡ nat_le sprout.depth so_far.before
  occupied_here =
      let d = place_of.deep in
      let n = place_of.next in
      let own : suc (suc (sprout.depth - 2)) ≡ sprout.depth = omega arith in
      so_far.occupied (sprout.depth - 2) (omega arith) ∙ ap (λ d. nat_le d so_far.before) own

  taken_here : growth_refusal (head_view (part_from parent now.tree)).class (has_kids parent now.tree) (suc (length (ancestors parent now.tree))) (count_of now.tree) ≡ None
  taken_here =
      let height : suc (length (ancestors parent now.tree)) ≡ suc high + (sprout.depth - 2) = let e = entry.deep in omega arith in
      rw (height, entry.class_is, occupied_here) parts.0

  shallow_here : sprout.depth ≤ max_depth
  shallow_here =
      let g = grows (so_far.classes (sprout.depth - 2)) (nat_le sprout.depth so_far.before) (suc high + (sprout.depth - 2)) (count_of now.tree) parts.0 in
      let low = g.1 in
      let d = place_of.deep in
      omega arith

  pub ready : IsReadyToSow keys sprout now
  ready = record {
    deep = place_of.deep;
    shallow = shallow_here;
    live = entry.live;
    taken = refusal_live now parent is entry.live ∙ taken_here;
  }

  -- which views have a child once it was added
  occupied_on : (key : ℕ) (new : Views) → Attached now (Some parent) (running_below (Some parent) now.tree (view_of now.next (seed_of sprout))) key new
      → (place : ℕ) → place < sprout.depth - 1 → has_kids (slice_index_or keys place 0) new.tree ≡ nat_le (suc (suc place)) sprout.depth
  occupied_on key new came place less =
      let d = place_of.deep in
      let n = place_of.next in
      let view = running_below (Some parent) now.tree (view_of now.next (seed_of sprout)) in
      let other = slice_index_or keys place 0 in
      let there = so_far.entries place (omega arith) in
      let has : nat_le (suc (suc place)) sprout.depth ≡ true = le-leb (suc (suc place)) sprout.depth (omega arith) in
      ap (has_kids other) came.tree ∙ elim (cases_eq other parent) [
        | inl e ↦ ap (λ k. has_kids k (grown_at_key parent (leaf key view) now.tree)) e ∙ has_kids-parent parent (leaf key view) now.tree entry.live refl ∙ sym has
        | inr ne ↦
            let none : count_of_key other (leaf key view) ≡ 0 = count_of_key-leaf_other other key view
            (λ e. let unused = came.unused in let z : count_of_key other now.tree ≡ 0 = rw e unused in let l = there.live in absurd (omega arith)) in
            has_kids-grown other parent (leaf key view) now.tree ne none ∙ so_far.occupied place (omega arith)
            ∙ le-leb (suc (suc place)) so_far.before (inner place less ne) ∙ sym has
      ]
    where
      -- the parent is the last of these places
      inner : (place : ℕ) → place < sprout.depth - 1 → slice_index_or keys place 0 ≢ parent → suc (suc place) ≤ so_far.before
      inner place less ne =
          let d = place_of.deep in
          let n = place_of.next in
          elim (cases_eq place (sprout.depth - 2)) [
            | inl e ↦ absurd (ne (ap (λ p. slice_index_or keys p 0) e))
            | inr apart ↦ omega arith
          ]

  -- one more was added
  pub sow_on : (place key : ℕ) (new : Views) → place ≡ sprout.depth - 1 → Attached now (Some parent) (running_below (Some parent) now.tree (view_of now.next (seed_of sprout))) key new
      → Sowing start outermost all (slice_set keys place key) more new
  sow_on place key new at came =
      let view = running_below (Some parent) now.tree (view_of now.next (seed_of sprout)) in
      let d = place_of.deep in
      let n = place_of.next in
      let s = shallow_here in
      let long = so_far.long in
      let number : new.next ≡ suc now.next = let n = came.next in omega arith in
      let count : count_of new.tree ≡ suc (count_of now.tree) =
      let c = count-grown parent (leaf key view) now.tree entry.live (is.keys parent) in
      let o = count-leaf key view in
      ap count_of came.tree ∙ omega arith in
      let way = dir (so_far.ways (sprout.depth - 2)) sprout.facts.direction in
      let plain : plain_of new ≡ grown (so_far.numbers (sprout.depth - 2)) (single (running way (view_of now.next (seed_of sprout)))) (plain_of now) =
      came.plain ∙ ap (λ n. grown n (single view) (plain_of now)) entry.number_is
      ∙ ap (λ above. grown (so_far.numbers (sprout.depth - 2)) (single (running (dir above sprout.facts.direction) (view_of now.next (seed_of sprout)))) (plain_of now)) entry.way_is in
      let gain = gained_more start now new outermost parent key view so_far.added so_far.gained came (so_far.among (sprout.depth - 2) (omega arith)) in
      let own : slice_index_or (slice_set keys place key) place 0 ≡ key = get_or-set_same keys place key 0 (omega arith) in
      let outer : (other : ℕ) → other ≢ place → slice_index_or (slice_set keys place key) other 0 ≡ slice_index_or keys other 0 =
      λ other ne. get_or-set_other keys place other key 0 ne in
      let newest : Entry new key now.next sprout.class way (high + place) =
      let step : suc (high + (sprout.depth - 2)) ≡ high + place = omega arith in
      subst (λ above. Entry new key now.next sprout.class (dir above sprout.facts.direction) (high + place)) entry.way_is
      (subst (Entry new key now.next sprout.class view.facts.rtl) step (entry_new now new parent key view entry.live came (high + (sprout.depth - 2)) entry.deep)) in
      record {
        before = sprout.depth;
        numbers = with_last so_far.numbers place now.next;
        classes = with_last so_far.classes place sprout.class;
        ways = with_last so_far.ways place way;
        entries = λ other less. elim (cases_eq other place) [
          | inl e ↦ rw (e, own, last_own so_far.numbers place now.next, last_own so_far.classes place sprout.class, last_own so_far.ways place way) newest
          | inr ne ↦
              rw (outer other ne, last_earlier so_far.numbers place other now.next (omega arith), last_earlier so_far.classes place other sprout.class (omega arith), last_earlier so_far.ways place other way (omega arith))
              (entry_kept now new parent key view entry.live came (slice_index_or keys other 0) (so_far.numbers other) (so_far.classes other) (so_far.ways other) (high + other)
              (so_far.entries other (omega arith)))
        ];
        occupied = λ other less. elim (cases_eq other place) [
          | inl e ↦
              let none : nat_le (suc (suc other)) sprout.depth ≡ false = lt-leb (suc (suc other)) sprout.depth (omega arith) in
              let at_key : slice_index_or (slice_set keys place key) other 0 ≡ key = rw e own in
              ap (λ k. has_kids k new.tree) at_key ∙ ap (has_kids key) came.tree ∙ has_kids-new key parent view now.tree entry.live came.unused ∙ sym none
          | inr ne ↦ ap (λ k. has_kids k new.tree) (outer other ne) ∙ occupied_on key new came other (omega arith)
        ];
        long = length-set keys place key ∙ so_far.long;
        shallow = s;
        follow = place_of.rest;
        sown = rw (number, plain, at) so_far.sown;
        element = suc so_far.element;
        taken = rw (count, at) parts.1;
        next = let n = so_far.next in let m = number in omega arith;
        added = gain.more;
        gained = gain.gained;
        among = λ other less. elim (cases_eq other place) [
          | inl e ↦ inr (rw (e, own) gain.own)
          | inr ne ↦ rw (outer other ne) (elim (so_far.among other (omega arith)) [
            | inl e ↦ inl e
            | inr there ↦ inr (gain.keeps (slice_index_or keys other 0) there)
          ])
        ];
      }

-- all were added
pub sown_all : (start : Views) (outermost : ℕ) (all : List Sprout) (keys : List ℕ) (now : Views) → IsTree start → IsLive start outermost
    → Sowing start outermost all keys [] now → (kids : Forest Seed) → preorder 2 kids ≡ all
    → plain_of now ≡ grown (number_of start outermost) (directed (is_rtl_at (Some outermost) start.tree) (numbered start.next kids)) (plain_of start)
sown_all start outermost all keys now is live sowing kids same =
    sowing.sown
    ∙ sown_is start.next (number_of start outermost) (is_rtl_at (Some outermost) start.tree) (λ _. number_of start outermost) (λ _. is_rtl_at (Some outermost) start.tree) (plain_of start) kids all refl refl (live_earlier start outermost is live) (earlier start is) same
