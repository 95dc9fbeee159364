-- Points that become done one after the other, and what remains of a search.
use Rattle.std.proofs.Common.{◌≡◌, ◌⊎◌, ℕ, ◌+◌, ◌-◌, ◌*◌, ◌<◌, ◌≤◌, Bool, true, false, cond, List, [], ◌∷◌, ◌++◌, length, get_or, set, take, Option, Some, None, refl, sym, ap, ◌∙◌, arith, inl, inr, length-append, get_or-set_same, get_or-set_other}
use Rattle.std.specs.Prelude.{sum_by}
use Rattle.std.proofs.Math.ListN.{length-set}
use Rattle.std.proofs.lemmas.Bool.{cases_lt}
use Rattle.std.proofs.lemmas.List.{get_or-replicate, get_or_past, length-replicate, length-take-le}
use Rattle.std.proofs.lemmas.List.Sums.{sum_by-set}
use Rattle.std.proofs.lemmas.Nat.{mul-le}
use Rattle.std.specs.Prelude.{replicate}
use Rattle.relative_layout.proofs.orders.Counting.{cases_eq}
use Rattle.relative_layout.proofs.orders.PointLaws.{heads-child, heads-id}
use Rattle.relative_layout.proofs.orders.TakingLaws.{row-least, set_keeps, set_only, set_sets}
use Rattle.relative_layout.specs.declared.ordering.components.Part.{Part}
use Rattle.relative_layout.specs.declared.ordering.components.Status.{Status}
use Rattle.relative_layout.specs.declared.ordering.components.Status.TheVariants.{Done, Fresh, OnPath}
use Rattle.relative_layout.specs.ordering.Naming.{id_at}
use Rattle.relative_layout.specs.ordering.Components.{Settles, fresh, is_fresh, search_effort, status_of}
use Rattle.relative_layout.specs.ordering.Points.{heads_of, id_point}
use Rattle.relative_layout.specs.ordering.Topological.{is_marked}
use Rattle.view_model.specs.declared.relative.Link.{Link}
use Rattle.view_model.specs.SiblingRules.{last_with_id}

pub all_fresh : (count point : ℕ) → status_of (replicate count Fresh) point ≡ Fresh
all_fresh count point = elim (cases_lt point count) [
  | inl lt ↦ get_or-replicate count point Fresh Fresh lt
  | inr le ↦ get_or_past (replicate count Fresh) point Fresh (let long : length (replicate count Fresh) ≡ count = length-replicate count Fresh in omega arith)
]

-- one fresh point fewer
fresh_less : (status : List Status) (point place : ℕ) → point < length status → status_of status point ≡ Fresh → fresh (set status point (OnPath place)) + 1 ≡ fresh status
unfolding fresh
fresh_less status point place h is =
    let e = sum_by-set (λ s. cond {A = ℕ} (is_fresh s) 1 0) status point (OnPath place) Fresh h in
    let one : ◌≡◌ {A = ℕ} (cond (is_fresh (status_of status point)) 1 0) 1 = rw is refl in
    omega (arith, e, one)

fresh_no_more : (status : List Status) (point : ℕ) → point < length status → fresh (set status point Done) ≤ fresh status
unfolding fresh
fresh_no_more status point h = let e = sum_by-set (λ s. cond {A = ℕ} (is_fresh s) 1 0) status point Done Fresh h in omega (arith, e)

-- a stretch of no point
pub Settles-none : (two : Bool) (count start : ℕ) (path : List ℕ) (status : List Status) (marks : List Bool) → Settles two count start start path status status marks marks
Settles-none two count start path status marks = record {
  size = refl;
  marks_size = refl;
  done = λ p o h. absurd (omega arith);
  same = λ a off. refl;
  keeps = λ a t. t;
  marks = λ p o h. absurd (omega arith);
  only = λ a t. inl t;
  fewer_fresh = omega arith;
}

-- the marks once one point more is done
record MarksOne (two : Bool) (count point : ℕ) (old new : List Bool) : Type 0 where
  pub size : length new ≡ length old
  pub keeps : (a : ℕ) → is_marked old a ≡ true → is_marked new a ≡ true
  pub marks : two ≡ true → point < count → is_marked new point ≡ true
  pub only : (a : ℕ) → is_marked new a ≡ true → (is_marked old a ≡ true) ⊎ ((two ≡ true) × (point ≡ a) × (a < count))

MarksOne-case : (two : Bool) (count point : ℕ) (old new : List Bool) → length old ≡ count → (two ≡ true → point < count → new ≡ set old point true) → (two ≡ false → new ≡ old) → (count ≤ point → new ≡ old)
    → MarksOne two count point old new
MarksOne-case false count point old new size marked one id = rw (one refl) (record { size = refl; keeps = λ a t. t; marks = λ bad. absurd (cc); only = λ a t. inl t })
MarksOne-case true count point old new size marked one id = elim (cases_lt point count) [
  | inr le ↦ rw (id le) (record { size = refl; keeps = λ a t. t; marks = λ e h. absurd (omega arith); only = λ a t. inl t })
  | inl lt ↦
      let fits : point < length old = omega arith in
      rw (marked refl lt) (record {
        size = length-set old point true;
        keeps = λ a t. set_keeps old point a fits t;
        marks = λ e h. set_sets old point fits;
        only = λ a t. elim (set_only old point a t) [ inl same ↦ inr (refl, sym same, rw same lt) | inr was ↦ inl was ];
      })
]

-- one point more of the stretch
pub Settles-next : (two : Bool) (count start place : ℕ) (path : List ℕ) (old mid new : List Status) (old_marks mid_marks marks : List Bool)
    → start ≤ place → get_or path place 0 < length old → length old_marks ≡ count
    → new ≡ set mid (get_or path place 0) Done
    → (two ≡ true → get_or path place 0 < count → marks ≡ set mid_marks (get_or path place 0) true) → (two ≡ false → marks ≡ mid_marks) → (count ≤ get_or path place 0 → marks ≡ mid_marks)
    → Settles two count start place path old mid old_marks mid_marks → Settles two count start (place + 1) path old new old_marks marks
Settles-next two count start place path old mid new old_marks mid_marks marks from small size is marked one id was =
    let fits : get_or path place 0 < length mid = omega (arith, was.size) in
    let own : status_of (set mid (get_or path place 0) Done) (get_or path place 0) ≡ Done = get_or-set_same mid (get_or path place 0) Done Fresh fits in
    let adds = MarksOne-case two count (get_or path place 0) mid_marks marks (was.marks_size ∙ size) marked one id in
    rw is (record {
      size = length-set mid (get_or path place 0) Done ∙ was.size;
      marks_size = adds.size ∙ was.marks_size;
      done = λ p o h. elim (cases_eq (get_or path p 0) (get_or path place 0)) [
        | inl same ↦ rw same own
        | inr ne ↦ elim (cases_lt p place) [
          | inl lt ↦ get_or-set_other mid (get_or path place 0) (get_or path p 0) Done Fresh ne ∙ was.done p o lt
          | inr le ↦ let at : p ≡ place = omega arith in absurd (ne (ap (λ q. get_or path q 0) at))
        ]
      ];
      same = λ a off.
          get_or-set_other mid (get_or path place 0) a Done Fresh (λ e. off place from (omega arith) (sym e))
          ∙ was.same a (λ p o h. off p o (omega arith));
      keeps = λ a t. adds.keeps a (was.keeps a t);
      marks = λ p o h yes child. elim (cases_lt p place) [
        | inl lt ↦ adds.keeps (get_or path p 0) (was.marks p o lt yes child)
        | inr le ↦ let at : p ≡ place = omega arith in rw at (adds.marks yes (rw at at child))
      ];
      only = λ a t. elim (adds.only a t) [
        | inr w ↦ inr (w.0, place, from, omega arith, w.1, w.2)
        | inl before ↦ elim (was.only a before) [ inl old_one ↦ inl old_one | inr w ↦ inr (w.0, w.1, w.2, omega (arith, w.3), w.4, w.5) ]
      ];
      fewer_fresh = let less = fresh_no_more mid (get_or path place 0) fits in omega (arith, was.fewer_fresh);
    })

-- the number of edges of a point is at most one more than the length of the longest list
heads_most : (kids : List Link) (rows : List (List ℕ)) (point : ℕ) → length (heads_of kids rows point) ≤ 1 + sum_by length rows
heads_most kids rows point = elim (cases_lt point (length kids)) [
  | inl lt ↦ rw (heads-child kids rows point lt) (one (last_with_id kids (id_at kids point)))
  | inr le ↦ rw (heads-id kids rows point le) (omega (arith, row-least rows (point - length kids)))
]
  where
    one : (last : Option ℕ) → length (id_point (length kids) last) ≤ 1 + sum_by length rows
    one None = omega arith
    one (Some last) = omega arith

less_effort : (sum few many todo more parts : ℕ) → many ≡ few + 1 → more ≤ 1 + sum → few * (3 + sum) + (todo + more) + (parts + 1) ≤ many * (3 + sum) + todo + parts
less_effort sum few many todo more parts e h = rw e (omega arith)

pub effort-enter : (kids : List Link) (rows : List (List ℕ)) (status : List Status) (point place : ℕ) (todo : List ℕ) (parts : List Part) (part : Part) → point < length status → status_of status point ≡ Fresh
    → search_effort rows (set status point (OnPath place)) (length (todo ++ heads_of kids rows point)) (length (parts ++ part ∷ [])) ≤ search_effort rows status (length todo) (length parts)
unfolding search_effort
effort-enter kids rows status point place todo parts part h is =
    rw (length-append todo (heads_of kids rows point), length-append parts (part ∷ []))
    (less_effort (sum_by length rows) (fresh (set status point (OnPath place))) (fresh status) (length todo) (length (heads_of kids rows point)) (length parts)
    (sym (fresh_less status point place h is)) (heads_most kids rows point))

pub effort-fewer : (rows : List (List ℕ)) (status : List Status) (todo old new : ℕ) → new ≤ old → search_effort rows status todo new ≤ search_effort rows status todo old
unfolding search_effort
effort-fewer rows status todo old new h = omega arith

pub effort-next : (rows : List (List ℕ)) (old new : List Status) (todo more parts left : ℕ) → search_effort rows new more left ≤ search_effort rows old todo parts → search_effort rows new more left < search_effort rows old (todo + 1) parts
unfolding search_effort
effort-next rows old new todo more parts left h = omega arith

pub effort-leave : (rows : List (List ℕ)) (old new : List Status) (todo : ℕ) (parts : List Part) → fresh new ≤ fresh old → 0 < length parts
    → search_effort rows new todo (length (take (length parts - 1) parts)) < search_effort rows old todo (length parts)
unfolding search_effort
effort-leave rows old new todo parts h some =
    let less : fresh new * (3 + sum_by length rows) ≤ fresh old * (3 + sum_by length rows) = mul-le (fresh new) (3 + sum_by length rows) (fresh old) (3 + sum_by length rows) h (omega arith) in
    rw (length-take-le (length parts - 1) parts (omega arith)) (omega arith)
