-- One child of a group was measured, at any place of the list: for a group with an order of its own.
use Rattle.std.proofs.Common.{◌≡◌, ℕ, zero, suc, ◌+◌, ◌≤◌, arith}
use Rattle.measure_pass.specs.Caches.{Grown}
use Rattle.kept_views.proofs.laid.LaidFrames.{owed_parts}
use Rattle.kept_views.specs.Kept.{Ready, owed}
use Rattle.measure_pass.specs.Measured.{Costs}
use Rattle.measure_pass.proofs.held.Frames.{Ready-after, Ready-alone, Ready-along, Ready-join, owed-along}
use Rattle.measure_pass.proofs.held.Grows.{Grown-same, Grown-trans}
use Rattle.measure_pass.proofs.walks.Places.{in_list}
use Rattle.measure_pass.proofs.Shares.{SharesOut-trans, Shared-same, once_at}
use Rattle.measure_pass.specs.Sharing.{MeasuringTrace, Shared}
use Rattle.view_model.specs.Forest.{Forest, Nothing, Branch}
use Rattle.view_model.specs.Measuring.{Specs}
use Rattle.view_tree.specs.Rows.{Row, count_of_key, first_tree, later_siblings, siblings_from}
use Rattle.view_tree.specs.Views.{Held, KeepsInside, KeepsOutside}
use Rattle.view_tree.proofs.forest.Walks.{KeepsInside-rest, count_of_key-parts}

-- the first tree is the same if the tree of a later place changes
first_same : (old new : ℕ → Held) (place : ℕ) (list : Forest Row) → ((key : ℕ) → count_of_key key list ≤ 1)
    → KeepsOutside old new (first_tree (siblings_from place (later_siblings list))) → KeepsInside old new (first_tree list)
first_same old new place list once others = λ key here.
    let one = once key in
    let parts = count_of_key-parts key list in
    let less = in_list key (later_siblings list) place in
    others key (omega arith)

once_later : (list : Forest Row) → ((key : ℕ) → count_of_key key list ≤ 1) → (key : ℕ) → count_of_key key (later_siblings list) ≤ 1
once_later list once key = let one = once key in let parts = count_of_key-parts key list in omega arith

pub Ready-place : (held : ℕ → Held) (place : ℕ) (list : Forest Row) → Ready held list → Ready held (first_tree (siblings_from place list))
Ready-place held zero list ready = Ready-alone held list ready
Ready-place held (suc place) list ready = Ready-place held place (later_siblings list) (Ready-after held list ready)

pub Ready-at : (old new : ℕ → Held) (place : ℕ) (list : Forest Row) → ((key : ℕ) → count_of_key key list ≤ 1) → KeepsOutside old new (first_tree (siblings_from place list))
    → Ready old list → Ready new (first_tree (siblings_from place list)) → Ready new list
Ready-at old new zero list once others ready own =
    Ready-join new list own (Ready-along old new (later_siblings list) (KeepsInside-rest old new list once others) (Ready-after old list ready))
Ready-at old new (suc place) list once others ready own =
    Ready-join new list
    (Ready-along old new (first_tree list) (first_same old new place list once others) (Ready-alone old list ready))
    (Ready-at old new place (later_siblings list) (once_later list once) others (Ready-after old list ready) own)

pub owed-at : (old new : ℕ → Held) (place : ℕ) (list : Forest Row) → ((key : ℕ) → count_of_key key list ≤ 1) → KeepsOutside old new (first_tree (siblings_from place list))
    → owed new list + owed old (first_tree (siblings_from place list)) ≡ owed old list + owed new (first_tree (siblings_from place list))
owed-at old new zero list once others =
    let a = owed_parts new list in
    let b = owed_parts old list in
    let e = owed-along old new (later_siblings list) (KeepsInside-rest old new list once others) in
    omega arith
owed-at old new (suc place) list once others =
    let a = owed_parts new list in
    let b = owed_parts old list in
    let e = owed-along old new (first_tree list) (first_same old new place list once others) in
    let rest = owed-at old new place (later_siblings list) (once_later list once) others in
    omega arith

-- what the turn of one child costs the whole list
pub costs_at : (start old new : ℕ → Held) (place : ℕ) (list : Forest Row) (first mid last calls more : ℕ) → ((key : ℕ) → count_of_key key list ≤ 1)
    → KeepsOutside old new (first_tree (siblings_from place list)) → Costs list start old first calls mid → Costs (first_tree (siblings_from place list)) old new mid more last
    → Costs list start new first (calls + more) last
costs_at start old new place list first mid last calls more once others before step =
    let o = owed-at old new place list once others in
    let s1 = before.spent in
    let s2 = step.spent in
    let o1 = before.owing in
    let o2 = step.owing in
    record { spent = omega arith; owing = omega arith }

-- and leaves in the caches
grown-here : (ok : ℕ → Specs → Type 0) (old new : ℕ → Held) (place : ℕ) (list : Forest Row) → ((key : ℕ) → count_of_key key list ≤ 1)
    → KeepsOutside old new (first_tree (siblings_from place list)) → Grown (λ i. ok place) old new (first_tree (siblings_from place list)) → Grown ok old new list
grown-here ok old new place Nothing once others own = tt
grown-here ok old new zero (Branch row kids siblings) once others own =
    (own.0, own.1, Grown-same (λ place. ok (suc place)) old new siblings (KeepsInside-rest old new (Branch row kids siblings) once others))
grown-here ok old new (suc place) (Branch row kids siblings) once others own =
    let same = Grown-same ok old new (Branch row kids Nothing) (first_same old new place (Branch row kids siblings) once others) in
    (same.0, same.1, grown-here (λ place. ok (suc place)) old new place siblings (once_later (Branch row kids siblings) once) others own)

Grown-at : (ok : ℕ → Specs → Type 0) (start old new : ℕ → Held) (place : ℕ) (list : Forest Row) → ((key : ℕ) → count_of_key key list ≤ 1)
    → KeepsOutside old new (first_tree (siblings_from place list)) → Grown ok start old list → Grown (λ i. ok place) old new (first_tree (siblings_from place list)) → Grown ok start new list
Grown-at ok start old new place list once others before step = Grown-trans ok start old new list before (grown-here ok old new place list once others step)

-- and whose measurings those are
shared-here : (ok : ℕ → Specs → Type 0) (old new : ℕ → Held) (place : ℕ) (list : Forest Row) (count : ℕ) → ((key : ℕ) → count_of_key key list ≤ 1)
    → KeepsOutside old new (first_tree (siblings_from place list)) → Shared (λ i. ok place) (λ i. 1) old new (first_tree (siblings_from place list)) count → Shared ok (once_at place) old new list count
shared-here ok old new zero Nothing count once others own = own
shared-here ok old new (suc place) Nothing count once others own = shared-here (λ place. ok (suc place)) old new place Nothing count once others own
shared-here ok old new zero (Branch row kids siblings) count once others own =
    let none : own.2 ≡ 0 = own.6 in
    let sum = own.3 in (
      own.0,
      own.1,
      0,
      (omega arith),
      own.4,
      own.5,
      Shared-same (λ place. ok (suc place)) (λ place. once_at zero (suc place)) old new siblings (KeepsInside-rest old new (Branch row kids siblings) once others),
    )
shared-here ok old new (suc place) (Branch row kids siblings) count once others own =
    let same = Shared-same ok (λ i. once_at (suc place) 0) old new (Branch row kids Nothing) (first_same old new place (Branch row kids siblings) once others) in
    let none : same.2 ≡ 0 = same.6 in
    let sum = same.3 in (
      same.0,
      same.1,
      count,
      (omega arith),
      same.4,
      same.5,
      shared-here (λ place. ok (suc place)) old new place siblings count (once_later (Branch row kids siblings) once) others own,
    )

pub trace-at : (ok : ℕ → Specs → Type 0) (asks : ℕ → ℕ) (start old new : ℕ → Held) (place : ℕ) (list : Forest Row) (first mid last : ℕ) → ((key : ℕ) → count_of_key key list ≤ 1)
    → KeepsOutside old new (first_tree (siblings_from place list)) → MeasuringTrace ok asks start old list first mid
    → MeasuringTrace (λ i. ok place) (λ i. 1) old new (first_tree (siblings_from place list)) mid last → MeasuringTrace ok (λ i. asks i + once_at place i) start new list first last
trace-at ok asks start old new place list first mid last once others before step = record {
  caches = Grown-at ok start old new place list once others before.caches step.caches;
  shares = SharesOut-trans ok asks (once_at place) start old new list first mid last before.shares
      (record { count = step.shares.count; shared = shared-here ok old new place list step.shares.count once others step.shares.shared; spent = step.shares.spent });
}
