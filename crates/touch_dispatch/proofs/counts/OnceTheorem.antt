-- No view gets an event twice, and an event makes at most three entries for each view.
use Rattle.std.proofs.Common.{◌≡◌, ℕ, ◌+◌, ◌*◌, ◌≤◌, List, [], ◌∷◌, length, refl, ◌∙◌, arith}
use Rattle.std.specs.Prelude.{◌==◌, if◌then◌else◌}
use Rattle.touch_dispatch.specs.declared.log.Entry.{Entry}
use Rattle.touch_event.specs.declared.event.Event.{Event}
use Rattle.view_model.specs.Forest.{Branch, Forest, Nothing, count_of}
use Rattle.view_model.specs.PlainTree.{PlainView}
use Rattle.view_tree.specs.Rows.{Row, count_of_number, later_siblings, views_of}
use Rattle.touch_dispatch.proofs.counts.OnceLaws.{Fees, allowed, spent}
use Rattle.touch_dispatch.proofs.counts.OnceTries.{Unique, reach_step}
use Rattle.touch_dispatch.proofs.steps.ReachSteps.{own_number, views_occurs}
use Rattle.touch_dispatch.proofs.steps.StayLaws.{occurs}
use Rattle.touch_dispatch.specs.Dispatch.{Scene, reach}
use Rattle.touch_dispatch.specs.handling.Handling.{Progress, many}
use Rattle.touch_dispatch.specs.Once.{AllDistinct, asks, total, touches}

abbrev pub one_fee : ℕ → ℕ
one_fee n = 1

abbrev pub no_fee : ℕ → ℕ
no_fee n = 0

abbrev pub own_fee : ℕ → ℕ → ℕ
own_fee n m = if m == n then 1 else 0

every_fee : Fees (λ (entry : Entry). 1) one_fee one_fee one_fee
every_fee = record {
  ask = λ n event answer. omega arith;
  touch = λ n event answer. omega arith;
  click = λ n event answer. omega arith;
  scroll = λ n event answer offset. omega arith;
}

touch_fee : (n : ℕ) → Fees (touches n) no_fee (own_fee n) no_fee
touch_fee n = record {
  ask = λ m event answer. omega arith;
  touch = λ m event answer. omega arith;
  click = λ m event answer. omega arith;
  scroll = λ m event answer offset. omega arith;
}

ask_fee : (n : ℕ) → Fees (asks n) (own_fee n) no_fee no_fee
ask_fee n = record {
  ask = λ m event answer. omega arith;
  touch = λ m event answer. omega arith;
  click = λ m event answer. omega arith;
  scroll = λ m event answer offset. omega arith;
}

allowed_ask : (n : ℕ) (list : Forest PlainView) → allowed (λ m. own_fee n m + (no_fee m + no_fee m)) list ≡ occurs n list
allowed_ask n Nothing = refl
allowed_ask n (Branch view below after) = let b = allowed_ask n below in let a = allowed_ask n after in omega arith

allowed_three : (list : Forest PlainView) → allowed (λ m. one_fee m + (one_fee m + one_fee m)) list ≡ 3 * count_of list
allowed_three Nothing = refl
allowed_three (Branch view below after) = let b = allowed_three below in let a = allowed_three after in omega arith

allowed_one : (n : ℕ) (list : Forest PlainView) → allowed (λ m. no_fee m + (own_fee n m + no_fee m)) list ≡ occurs n list
allowed_one n Nothing = refl
allowed_one n (Branch view below after) = let b = allowed_one n below in let a = allowed_one n after in omega arith

-- three entries for each view are room enough
pub room : (scene : Scene) (view : PlainView) (below : Forest PlainView) (event : Event) (progress : Progress) → Unique (Branch view below Nothing) → AllDistinct progress.gesture.targets
    → spent (λ (entry : Entry). 1) (reach scene (Branch view below Nothing) event progress).progress ≤ spent (λ (entry : Entry). 1) progress + 3 * count_of (Branch view below Nothing)
room scene view below event progress unique all =
    let s = reach_step every_fee scene view below Nothing event progress unique all in
    let c = s.cost in
    let e = allowed_three below in
    omega arith

-- a view gets an event at most once
pub once : (n : ℕ) (scene : Scene) (view : PlainView) (below : Forest PlainView) (event : Event) (progress : Progress) → Unique (Branch view below Nothing) → occurs n (Branch view below Nothing) ≤ 1 → AllDistinct progress.gesture.targets
    → spent (touches n) (reach scene (Branch view below Nothing) event progress).progress ≤ spent (touches n) progress + 1
once n scene view below event progress unique few all =
    let s = reach_step (touch_fee n) scene view below Nothing event progress unique all in
    let c = s.cost in
    let e = allowed_one n below in
    omega arith

abbrev spent_by : List Entry → ℕ
spent_by entries = total (λ (entry : Entry). 1) entries

views_count : (list : Forest Row) → count_of (views_of list) ≡ count_of list
views_count Nothing = refl
views_count (Branch row kids siblings) = let a = views_count kids in let b = views_count siblings in omega arith

-- how many entries there are
pub total_length : (entries : List Entry) → spent_by entries ≡ length entries
total_length [] = refl
total_length (e ∷ entries) = let h = total_length entries in omega arith

-- the numbers of a tree are other numbers
unique_list : (list : Forest Row) → ((n : ℕ) → count_of_number n list ≤ 1) → Unique (views_of list)
unique_list Nothing one = tt
unique_list (Branch row kids siblings) one = (
  let h = one row.view.number in
      let o = views_occurs row.view.number kids in
      let self = own_number row kids siblings in
      let none : count_of_number row.view.number kids ≡ 0 = omega arith in
      o ∙ none,
  unique_list kids (λ n. let h = one n in omega arith),
  unique_list siblings (λ n. let h = one n in omega arith),
)

-- a view is asked about an event at most once
pub asked_once : (n : ℕ) (scene : Scene) (view : PlainView) (below : Forest PlainView) (event : Event) (progress : Progress) → Unique (Branch view below Nothing) → occurs n (Branch view below Nothing) ≤ 1
    → AllDistinct progress.gesture.targets → spent (asks n) (reach scene (Branch view below Nothing) event progress).progress ≤ spent (asks n) progress + 1
asked_once n scene view below event progress unique few all =
    let s = reach_step (ask_fee n) scene view below Nothing event progress unique all in
    let c = s.cost in
    let e = allowed_ask n below in
    omega arith

-- each view of a tree gets an event at most once, and is asked about it at most once
pub record IsOnce (n : ℕ) (old new : Progress) : Type 0 where
  pub touched : spent (touches n) new ≤ spent (touches n) old + 1
  pub asked : spent (asks n) new ≤ spent (asks n) old + 1

pub once_part : (n : ℕ) (scene : Scene) (tree : Forest Row) (event : Event) (progress : Progress) → ((n : ℕ) → count_of_number n tree ≤ 1) → later_siblings tree ≡ Nothing → AllDistinct progress.gesture.targets
    → IsOnce n progress (reach scene (views_of tree) event progress).progress
once_part n scene Nothing event progress one single all = record { touched = omega arith; asked = omega arith }
once_part n scene (Branch row kids Nothing) event progress one single all =
    let few : occurs n (views_of (Branch row kids Nothing)) ≤ 1 = let h = one n in let o = views_occurs n (Branch row kids Nothing) in omega arith in
    record {
      touched = once n scene row.view (views_of kids) event progress (unique_list (Branch row kids Nothing) one) few all;
      asked = asked_once n scene row.view (views_of kids) event progress (unique_list (Branch row kids Nothing) one) few all;
    }
once_part n scene (Branch row kids (Branch r b a)) event progress one single all = absurd (cc)

-- three entries a view are room enough
pub room_root : (scene : Scene) (tree : Forest Row) (event : Event) (progress : Progress) → ((n : ℕ) → count_of_number n tree ≤ 1) → later_siblings tree ≡ Nothing → AllDistinct progress.gesture.targets
    → many (reach scene (views_of tree) event progress).progress ≤ many progress + 3 * count_of tree
room_root scene Nothing event progress one single all = omega arith
room_root scene (Branch row kids Nothing) event progress one single all =
    let h = room scene row.view (views_of kids) event progress (unique_list (Branch row kids Nothing) one) all in
    let a = total_length progress.entries in
    let b = total_length (reach scene (views_of (Branch row kids Nothing)) event progress).progress.entries in
    let c = views_count (Branch row kids Nothing) in
    omega arith
room_root scene (Branch row kids (Branch r b a)) event progress one single all = absurd (cc)
