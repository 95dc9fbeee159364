-- The path of a search and its parts, step by step.
use Rattle.std.proofs.Common.{◌≡◌, ◌≢◌, ◌⊎◌, ℕ, ◌+◌, ◌-◌, ◌<◌, ◌≤◌, Bool, true, List, [], ◌∷◌, ◌++◌, length, get_or, set, take, Option, Some, None, refl, sym, ap, ◌∙◌, arith, inl, inr, length-append, get_or-set_same, get_or-set_other}
use Rattle.std.proofs.lemmas.Bool.{cases_lt}
use Rattle.std.proofs.lemmas.List.{get_or_push, get_or_append_left, get_or-take, length-take-le}
use Rattle.relative_layout.proofs.orders.Counting.{cases_eq}
use Rattle.relative_layout.proofs.orders.NamingLaws.{pushed}
use Rattle.relative_layout.proofs.orders.PointLaws.{goes_both, goes_on}
use Rattle.relative_layout.proofs.orders.TakingLaws.{append_at}
use Rattle.relative_layout.specs.declared.ordering.components.Part.{Part}
use Rattle.relative_layout.specs.declared.ordering.components.Status.{Status}
use Rattle.relative_layout.specs.declared.ordering.components.Status.TheVariants.{Done, Fresh, OnPath}
use Rattle.relative_layout.specs.ordering.Naming.{Has}
use Rattle.relative_layout.specs.ordering.Components.{HasFrom, HasTwo, IsLastPart, IsPending, IsSearch, IsReported, Joins, Known, LedTo, OnFrom, Settles, no_part, status_of, start_of, todo_of}
use Rattle.relative_layout.specs.ordering.Points.{Circles, Goes, Stays, Steps}

-- before any point is entered
pub IsSearch-none : (heads : ℕ → List ℕ) (status : List Status) (path todo : List ℕ) (parts : List Part) (held : Option ℕ) → ((point : ℕ) → status_of status point ≡ Fresh)
    → path ≡ [] → todo ≡ [] → parts ≡ [] → IsSearch heads status path todo parts held
IsSearch-none heads status path todo parts held fresh no_path no_todo no_parts = rw (no_path, no_todo, no_parts) (record {
  there = λ p h. absurd (omega arith);
  back = λ a p e. absurd (let bad : Fresh ≡ OnPath p = sym (fresh a) ∙ e in cc);
  closed = λ a b e has. absurd (let bad : Fresh ≡ Done = sym (fresh a) ∙ e in cc);
  inside = λ i h. absurd (omega arith);
  rising = λ i j o h. absurd (omega arith);
  covered = λ p h. absurd (omega arith);
  known = λ i p a h. absurd (omega arith);
  pending = λ at h. absurd (omega arith);
  forth = λ p q o h. absurd (omega arith);
  back_in = λ p q o h. absurd (omega arith);
})

-- what is known of a point stays known for another list of edges, if that has what this one had
known_with : (status : List Status) (old new : List ℕ) (was held : Option ℕ) (start todo_start a : ℕ)
    → (HasFrom old todo_start a → Known status new held start todo_start a) → (was ≡ Some a → Known status new held start todo_start a)
    → Known status old was start todo_start a → Known status new held start todo_start a
known_with status old new was held start todo_start a todo hand known = elim known [
  | inl done ↦ inl done
  | inr more ↦ elim more [ inl on ↦ inr (inl on) | inr rest ↦ elim rest [ inl has ↦ todo has | inr is ↦ hand is ] ]
]

-- one point more is current
pub IsSearch-hold : (heads : ℕ → List ℕ) (status : List Status) (path todo : List ℕ) (parts : List Part) (held : Option ℕ) → IsSearch heads status path todo parts None → IsSearch heads status path todo parts held
IsSearch-hold heads status path todo parts held is = record {
  there = is.there;
  back = is.back;
  closed = is.closed;
  inside = is.inside;
  rising = is.rising;
  covered = is.covered;
  known = λ i p a h o l has. known_with status todo todo None held _ _ a (λ there. inr (inr (inl there))) (λ bad. absurd (cc)) (is.known i p a h o l has);
  pending = is.pending;
  forth = is.forth;
  back_in = is.back_in;
}

-- the current point is done, or is in the last part or before it
pub IsSearch-drop : (heads : ℕ → List ℕ) (status : List Status) (path todo : List ℕ) (parts : List Part) (point : ℕ)
    → ((i : ℕ) → i < length parts → (status_of status point ≡ Done) ⊎ OnFrom status (start_of parts i) point)
    → IsSearch heads status path todo parts (Some point) → IsSearch heads status path todo parts None
IsSearch-drop heads status path todo parts point seen is = record {
  there = is.there;
  back = is.back;
  closed = is.closed;
  inside = is.inside;
  rising = is.rising;
  covered = is.covered;
  known = λ i p a h o l has. known_with status todo todo (Some point) None _ _ a
      (λ there. inr (inr (inl there)))
      (λ e. let same : point ≡ a = cc in elim (seen i h) [ inl done ↦ inl (rw same at done) | inr on ↦ inr (inl (rw same at on)) ])
      (is.known i p a h o l has);
  pending = is.pending;
  forth = is.forth;
  back_in = is.back_in;
}

shorter : (xs : List ℕ) (a k : ℕ) → k < length xs → k < length (xs ++ a ∷ [])
shorter xs a k h = omega (arith, length-append xs (a ∷ []))

-- the last edge of the list gives the current point
pub IsSearch-next : (heads : ℕ → List ℕ) (status : List Status) (path todo : List ℕ) (parts : List Part) (part : Part) (point : ℕ)
    → IsLastPart parts part → part.todo ≤ length todo → IsSearch heads status path (todo ++ point ∷ []) parts None → IsSearch heads status path todo parts (Some point)
IsSearch-next heads status path todo parts part point last room is = record {
  there = is.there;
  back = is.back;
  closed = is.closed;
  inside = λ i h.
      let up = is.rising i (length parts - 1) (omega arith) (omega (arith, last.some)) in
      let begin : todo_of parts (length parts - 1) ≡ part.todo = ap (λ (p : Part). p.todo) last.is in
      ((is.inside i h).0, omega (arith, up.1, begin));
  rising = is.rising;
  covered = is.covered;
  known = λ i p a h o l has. known_with status (todo ++ point ∷ []) todo None (Some point) _ _ a
      (λ there. elim (pushed todo point there.0 there.2) [
        | inl w ↦ inr (inr (inl (there.0, there.1, w.0, sym w.1 ∙ there.3)))
        | inr w ↦ inr (inr (inr (let same : point ≡ a = sym w.1 ∙ there.3 in ap Some same)))
      ])
      (λ bad. absurd (cc)) (is.known i p a h o l has);
  pending = λ at h. let was = is.pending at (shorter todo point at h) in
      record { from = was.from; inside = was.inside; goes = rw (get_or_append_left todo (point ∷ []) 0 at h) at was.goes; after = was.after; before = was.before };
  forth = is.forth;
  back_in = is.back_in;
}

pub LedTo-next : (heads : ℕ → List ℕ) (status : List Status) (path todo : List ℕ) (parts : List Part) (part : Part) (point : ℕ)
    → IsLastPart parts part → part.todo ≤ length todo → IsSearch heads status path (todo ++ point ∷ []) parts None → LedTo heads path parts point
LedTo-next heads status path todo parts part point last room is =
    let was = is.pending (length todo) (omega (arith, length-append todo (point ∷ []))) in
    record {
      from = was.from;
      inside = was.inside;
      last = λ i h.
          let up = is.rising i (length parts - 1) (omega arith) (omega (arith, last.some)) in
          let begin : todo_of parts (length parts - 1) ≡ part.todo = ap (λ (p : Part). p.todo) last.is in
          was.after i h (omega (arith, up.1, begin));
      goes = rw (get_or_push todo point 0 (length todo) refl) at was.goes;
    }

-- where the last part leads, the whole path leads
pub goes_along : (heads : ℕ → List ℕ) (status : List Status) (path todo : List ℕ) (parts : List Part) (held : Option ℕ) (point place : ℕ)
    → IsSearch heads status path todo parts held → LedTo heads path parts point → place < length path → Goes heads (get_or path place 0) point
goes_along heads status path todo parts held point place is led h =
    let there : Goes heads (get_or path place 0) (get_or path led.from 0) = elim (cases_lt place led.from) [
      | inl lt ↦ is.forth place led.from (omega arith) led.inside
      | inr le ↦ is.back_in led.from place le h (λ i l o. led.last i l)
    ] in
    goes_both there (Steps led.goes Stays)

-- parts that begin after a point to which the last one leads are joined to the part that has it
pub IsSearch-join : (heads : ℕ → List ℕ) (status : List Status) (path todo : List ℕ) (old new : List Part) (held : Option ℕ) (point place : ℕ)
    → LedTo heads path old point → status_of status point ≡ OnPath place → Joins place old new → IsSearch heads status path todo old held → IsSearch heads status path todo new held
IsSearch-join heads status path todo old new held point place led on joins is =
    let start : (i : ℕ) → i < length new → start_of new i ≡ start_of old i = (λ i h. ap (λ (part : Part). part.path) (joins.same i h)) in
    let begin : (i : ℕ) → i < length new → todo_of new i ≡ todo_of old i = (λ i h. ap (λ (part : Part). part.todo) (joins.same i h)) in
    let in_old : (i : ℕ) → i < length new → i < length old = (λ i h. omega (arith, joins.fewer)) in
    record {
      there = is.there;
      back = is.back;
      closed = is.closed;
      inside = λ i h. rw (start i h, begin i h) (is.inside i (in_old i h));
      rising = λ i j o h. rw (start i (omega arith), begin i (omega arith), start j h, begin j h) (is.rising i j o (in_old j h));
      covered = λ p h. covered_case p h (cases_lt (length new) (length old));
      known = λ i p a h o l has. rw (start i h, begin i h) (is.known i p a (in_old i h) (rw (start i h) at o) l has);
      pending = λ at h. let was = is.pending at h in record {
        from = was.from;
        inside = was.inside;
        goes = was.goes;
        after = λ i l e. rw (start i l) (was.after i (in_old i l) (rw (begin i l) at e));
        before = λ i l e. rw (start i l) (was.before i (in_old i l) (rw (begin i l) at e));
      };
      forth = is.forth;
      back_in = λ p q o h apart. back_case p q o h (λ i l e. rw (start i l) at (apart i l (rw (start i l) e))) (cases_lt (length new) (length old));
    }
  where
    at_place : (place < length path) × (get_or path place 0 ≡ point)
    at_place = is.back point place on

    covered_case : (p : ℕ) → p < length path → (length new < length old) ⊎ (length old ≤ length new) → (i : ℕ) × (i < length new) × (start_of new i ≤ p)
    covered_case p h (inr all) = let w = is.covered p h in let l : w.0 < length new = omega (arith, w.1) in (w.0, l, rw (ap (λ (part : Part). part.path) (joins.same w.0 l)) w.2)
    covered_case p h (inl less) = elim (cases_lt p place) [
      | inl lt ↦ let w = is.covered p h in front w.0 w.1 (omega (arith, w.2)) w.2
      | inr le ↦ let w = is.covered place at_place.0 in front w.0 w.1 w.2 (omega (arith, w.2))
    ]
      where
        front : (i : ℕ) → i < length old → start_of old i ≤ place → start_of old i ≤ p → (i : ℕ) × (i < length new) × (start_of new i ≤ p)
        front i l at_most o = elim (cases_lt i (length new)) [
          | inl lt ↦ (i, lt, rw (ap (λ (part : Part). part.path) (joins.same i lt)) o)
          | inr le ↦ absurd (let up = is.rising (length new) i le l in let b = joins.following less in omega (arith, up.0))
        ]

    back_case : (p q : ℕ) → p ≤ q → q < length path → ((i : ℕ) → i < length new → start_of old i ≤ q → start_of old i ≤ p) → (length new < length old) ⊎ (length old ≤ length new)
        → Goes heads (get_or path q 0) (get_or path p 0)
    back_case p q o h apart (inr all) = is.back_in p q o h (λ i l e. apart i (omega arith) e)
    back_case p q o h apart (inl less) = elim (cases_lt q (start_of old (length new))) [
      | inl lt ↦ is.back_in p q o h (λ i l e. elim (cases_lt i (length new)) [
        | inl small ↦ apart i small e
        | inr large ↦ absurd (let up = is.rising (length new) i large l in omega (arith, up.0))
      ])
      | inr le ↦
          let following = joins.following less in
          let to : Goes heads (get_or path q 0) point = goes_along heads status path todo old held point q is led h in
          let from : Goes heads (get_or path place 0) (get_or path p 0) = elim (cases_lt place p) [
            | inl lt ↦ is.forth place p (omega arith) (omega arith)
            | inr ge ↦ is.back_in p place ge at_place.0 (λ i l e. elim (cases_lt i (length new)) [
              | inl small ↦ apart i small (omega arith)
              | inr large ↦ absurd (let up = is.rising (length new) i large l in omega (arith, up.0))
            ])
          ] in
          goes_both to (rw at_place.1 at from)
    ]

-- a list of parts with one more: an old one, or the new one
data PartOf (parts : List Part) (part : Part) (i : ℕ) : Type 0 where
  OldPart : i < length parts → start_of (parts ++ part ∷ []) i ≡ start_of parts i → todo_of (parts ++ part ∷ []) i ≡ todo_of parts i → PartOf parts part i
  NewPart : i ≡ length parts → start_of (parts ++ part ∷ []) i ≡ part.path → todo_of (parts ++ part ∷ []) i ≡ part.todo → PartOf parts part i

part_of : (parts : List Part) (part : Part) (i : ℕ) → i < length (parts ++ part ∷ []) → PartOf parts part i
part_of parts part i h = elim (cases_lt i (length parts)) [
  | inl lt ↦ let e = get_or_append_left parts (part ∷ []) no_part i lt in OldPart lt (ap (λ (p : Part). p.path) e) (ap (λ (p : Part). p.todo) e)
  | inr le ↦
      let end : length parts ≡ i = omega (arith, length-append parts (part ∷ [])) in
      let e = get_or_push parts part no_part i end in
      NewPart (sym end) (ap (λ (p : Part). p.path) e) (ap (λ (p : Part). p.todo) e)
]

-- a point on the path that was fresh
pub record Enters (status : List Status) (path : List ℕ) (point : ℕ) : Type 0 where
  pub own : status_of (set status point (OnPath (length path))) point ≡ OnPath (length path)
  pub same : (a : ℕ) → a ≢ point → status_of (set status point (OnPath (length path))) a ≡ status_of status a
  pub done : (a : ℕ) → status_of status a ≡ Done → status_of (set status point (OnPath (length path))) a ≡ Done
  pub on : (a p : ℕ) → status_of status a ≡ OnPath p → status_of (set status point (OnPath (length path))) a ≡ OnPath p
  pub was_done : (a : ℕ) → status_of (set status point (OnPath (length path))) a ≡ Done → status_of status a ≡ Done

pub Enters-fresh : (status : List Status) (path : List ℕ) (point : ℕ) → point < length status → status_of status point ≡ Fresh → Enters status path point
Enters-fresh status path point small fresh =
    let own : status_of (set status point (OnPath (length path))) point ≡ OnPath (length path) = get_or-set_same status point (OnPath (length path)) Fresh small in
    let same : (a : ℕ) → a ≢ point → status_of (set status point (OnPath (length path))) a ≡ status_of status a
    = (λ a ne. get_or-set_other status point a (OnPath (length path)) Fresh ne) in
    record {
      own = own;
      same = same;
      done = λ a e. same a (λ is. let f : status_of status a ≡ Fresh = rw is fresh in let bad : Fresh ≡ Done = sym f ∙ e in cc) ∙ e;
      on = λ a p e. same a (λ is. let f : status_of status a ≡ Fresh = rw is fresh in let bad : Fresh ≡ OnPath p = sym f ∙ e in cc) ∙ e;
      was_done = λ a e. elim (cases_eq a point) [
        | inl is ↦ absurd (let f = rw is at e in let bad : OnPath (length path) ≡ Done = sym own ∙ f in cc)
        | inr ne ↦ sym (same a ne) ∙ e
      ];
    }

-- a fresh point is put on the path, as a part of its own
pub IsSearch-enter : (heads : ℕ → List ℕ) (status : List Status) (path todo : List ℕ) (parts : List Part) (point : ℕ)
    → point < length status → status_of status point ≡ Fresh → ((place : ℕ) → place < length path → Goes heads (get_or path place 0) point)
    → IsSearch heads status path todo parts (Some point)
    → IsSearch heads (set status point (OnPath (length path))) (path ++ point ∷ []) (todo ++ heads point) (parts ++ record { path = length path; todo = length todo } ∷ []) None
IsSearch-enter heads status path todo parts point small fresh led is = record {
  there = λ p h. elim (pushed path point p h) [
    | inl w ↦ rw w.1 (enters.on (get_or path p 0) p (is.there p w.0))
    | inr w ↦ rw (w.1, w.0) enters.own
  ];
  back = λ a p e. elim (cases_eq a point) [
    | inl same ↦ let at : length path ≡ p = (let f = rw same at e in let both : OnPath (length path) ≡ OnPath p = sym enters.own ∙ f in cc) in (omega (arith, longer), get_or_push path point 0 p at ∙ sym same)
    | inr ne ↦ let w = is.back a p (sym (enters.same a ne) ∙ e) in (omega (arith, longer, w.0), get_or_append_left path (point ∷ []) 0 p w.0 ∙ w.1)
  ];
  closed = λ a b e has. enters.done b (is.closed a b (enters.was_done a e) has);
  inside = λ i h. elim (part_of parts part i h) [
    | OldPart l s t ↦ let was = is.inside i l in rw (s, t) (omega (arith, longer, was.0), omega (arith, long_todo, was.1))
    | NewPart l s t ↦ rw (s, t) (omega (arith, longer), omega (arith, long_todo))
  ];
  rising = λ i j o h. elim (part_of parts part j h) [
    | OldPart l s t ↦ let early : i < length parts = omega arith in rw (s, t, old_start i early, old_todo i early) (is.rising i j o l)
    | NewPart l s t ↦ elim (part_of parts part i (omega (arith, more_parts))) [
      | OldPart k u v ↦ rw (s, t, u, v) (is.inside i k)
      | NewPart k u v ↦ rw (s, t, u, v) (omega arith, omega arith)
    ]
  ];
  covered = λ p h. elim (pushed path point p h) [
    | inl w ↦ let c = is.covered p w.0 in (c.0, omega (arith, more_parts, c.1), rw (old_start c.0 c.1) c.2)
    | inr w ↦ (length parts, omega (arith, more_parts), rw new_start (omega (arith, w.0)))
  ];
  known = λ i p a h o l has. known_case i p a o l has (part_of parts part i h) (pushed path point p l);
  pending = λ at h. pending_case at h (cases_lt at (length todo));
  forth = λ p q o h. elim (pushed path point q h) [
    | inl w ↦ let early : p < length path = omega (arith, w.0) in rw (w.1, get_or_append_left path (point ∷ []) 0 p early) (is.forth p q o w.0)
    | inr w ↦ elim (pushed path point p (omega (arith, longer, w.0))) [
      | inl v ↦ rw (w.1, v.1) (led p v.0)
      | inr v ↦ rw (w.1, v.1) Stays
    ]
  ];
  back_in = λ p q o h apart. elim (pushed path point q h) [
    | inl w ↦
        let early : p < length path = omega (arith, w.0) in
        rw (w.1, get_or_append_left path (point ∷ []) 0 p early)
        (is.back_in p q o w.0 (λ i l e. rw (old_start i l) at (apart i (omega (arith, more_parts)) (rw (old_start i l) e))))
    | inr w ↦
        let from : length path ≤ p = rw new_start at (apart (length parts) (omega (arith, more_parts)) (rw new_start (omega (arith, w.0)))) in
        let same : q ≡ p = omega (arith, w.0) in
        rw same Stays
  ];
}
  where
    part : Part
    part = record { path = length path; todo = length todo }

    enters : Enters status path point
    enters = Enters-fresh status path point small fresh

    longer : length (path ++ point ∷ []) ≡ length path + 1
    longer = length-append path (point ∷ [])

    long_todo : length (todo ++ heads point) ≡ length todo + length (heads point)
    long_todo = length-append todo (heads point)

    more_parts : length (parts ++ part ∷ []) ≡ length parts + 1
    more_parts = length-append parts (part ∷ [])

    old_start : (i : ℕ) → i < length parts → start_of (parts ++ part ∷ []) i ≡ start_of parts i
    old_start i h = ap (λ (p : Part). p.path) (get_or_append_left parts (part ∷ []) no_part i h)

    old_todo : (i : ℕ) → i < length parts → todo_of (parts ++ part ∷ []) i ≡ todo_of parts i
    old_todo i h = ap (λ (p : Part). p.todo) (get_or_append_left parts (part ∷ []) no_part i h)

    new_start : start_of (parts ++ part ∷ []) (length parts) ≡ length path
    new_start = ap (λ (p : Part). p.path) (get_or_push parts part no_part (length parts) refl)

    on_new : (start a : ℕ) → start ≤ length path → a ≡ point → OnFrom (set status point (OnPath (length path))) start a
    on_new start a h same = (length path, h, rw same enters.own)

    has_new : (start a : ℕ) → start ≤ length todo → Has (heads point) a → HasFrom (todo ++ heads point) start a
    has_new start a h has = (length todo + has.0, omega arith, omega (arith, long_todo, has.1), append_at todo (heads point) has.0 ∙ has.2)

    has_old : (start a : ℕ) → HasFrom todo start a → HasFrom (todo ++ heads point) start a
    has_old start a has = (has.0, has.1, omega (arith, long_todo, has.2), get_or_append_left todo (heads point) 0 has.0 has.2 ∙ has.3)

    still : (start todo_start a : ℕ) → start ≤ length path → Known status todo (Some point) start todo_start a
        → Known (set status point (OnPath (length path))) (todo ++ heads point) None start todo_start a
    still start todo_start a h known = elim known [
      | inl done ↦ inl (enters.done a done)
      | inr more ↦ elim more [
        | inl on ↦ inr (inl (on.0, on.1, enters.on a on.0 on.2))
        | inr rest ↦ elim rest [
          | inl has ↦ inr (inr (inl (has_old todo_start a has)))
          | inr e ↦ inr (inl (on_new start a h (let same : point ≡ a = cc in sym same)))
        ]
      ]
    ]

    known_case : (i p a : ℕ) → start_of (parts ++ part ∷ []) i ≤ p → p < length (path ++ point ∷ []) → Has (heads (get_or (path ++ point ∷ []) p 0)) a
        → PartOf parts part i
        → ((p < length path) × (get_or (path ++ point ∷ []) p 0 ≡ get_or path p 0)) ⊎ ((p ≡ length path) × (get_or (path ++ point ∷ []) p 0 ≡ point))
        → Known (set status point (OnPath (length path))) (todo ++ heads point) None (start_of (parts ++ part ∷ []) i) (todo_of (parts ++ part ∷ []) i) a
    known_case i p a o l has (OldPart k s t) (inl v) = rw (s, t) (still (start_of parts i) (todo_of parts i) a (is.inside i k).0 (is.known i p a k (rw s at o) v.0 (rw v.1 at has)))
    known_case i p a o l has (OldPart k s t) (inr v) = rw (s, t) (inr (inr (inl (has_new (todo_of parts i) a (is.inside i k).1 (rw v.1 at has)))))
    known_case i p a o l has (NewPart k s t) (inl v) = absurd (let from : length path ≤ p = rw s at o in omega (arith, v.0))
    known_case i p a o l has (NewPart k s t) (inr v) = rw (s, t) (inr (inr (inl (has_new (length todo) a (omega arith) (rw v.1 at has)))))

    pending_case : (at : ℕ) → at < length (todo ++ heads point) → (at < length todo) ⊎ (length todo ≤ at)
        → IsPending heads (path ++ point ∷ []) (parts ++ part ∷ []) at (get_or (todo ++ heads point) at 0)
    pending_case at h (inl lt) =
        let was = is.pending at lt in
        record {
          from = was.from;
          inside = omega (arith, longer, was.inside);
          goes = rw (get_or_append_left path (point ∷ []) 0 was.from was.inside, get_or_append_left todo (heads point) 0 at lt) was.goes;
          after = λ i l e. elim (part_of parts part i l) [
            | OldPart k s t ↦ rw s (was.after i k (rw t at e))
            | NewPart k s t ↦ absurd (let f : length todo ≤ at = rw t at e in omega arith)
          ];
          before = λ i l e. elim (part_of parts part i l) [
            | OldPart k s t ↦ rw s (was.before i k (rw t at e))
            | NewPart k s t ↦ rw s was.inside
          ];
        }
    pending_case at h (inr le) =
        let back : length todo + (at - length todo) ≡ at = omega arith in
        let value : get_or (todo ++ heads point) at 0 ≡ get_or (heads point) (at - length todo) 0 = ap (λ k. get_or (todo ++ heads point) k 0) (sym back) ∙ append_at todo (heads point) (at - length todo) in
        record {
          from = length path;
          inside = omega (arith, longer);
          goes = rw (get_or_push path point 0 (length path) refl) (at - length todo, omega (arith, long_todo), sym value);
          after = λ i l e. elim (part_of parts part i l) [ OldPart k s t ↦ rw s (is.inside i k).0 | NewPart k s t ↦ rw s (omega arith) ];
          before = λ i l e. elim (part_of parts part i l) [
            | OldPart k s t ↦ absurd (let f : at < todo_of parts i = rw t at e in let r = (is.inside i k).1 in omega arith)
            | NewPart k s t ↦ absurd (let f : at < length todo = rw t at e in omega arith)
          ];
        }

-- a point is in one of three states
pub data PointState (status : List Status) (a : ℕ) : Type 0 where
  IsFresh : status_of status a ≡ Fresh → PointState status a
  IsOn : (p : ℕ) → status_of status a ≡ OnPath p → PointState status a
  IsDone : status_of status a ≡ Done → PointState status a

found_case : (status : List Status) (a : ℕ) (found : Status) → status_of status a ≡ found → PointState status a
found_case status a Fresh e = IsFresh e
found_case status a (OnPath p) e = IsOn p e
found_case status a Done e = IsDone e

pub found : (status : List Status) (a : ℕ) → PointState status a
found status a = found_case status a (status_of status a) refl

-- the last part of a path, with no edge of it left to follow
pub record IsWhole (heads : ℕ → List ℕ) (status : List Status) (path : List ℕ) (start : ℕ) : Type 0 where
  pub there : (place : ℕ) → place < length path → status_of status (get_or path place 0) ≡ OnPath place
  pub back : (point place : ℕ) → status_of status point ≡ OnPath place → (place < length path) × (get_or path place 0 ≡ point)
  pub closed : (a b : ℕ) → status_of status a ≡ Done → Has (heads a) b → status_of status b ≡ Done
  pub leads : (a b : ℕ) → OnFrom status start a → Has (heads a) b → (status_of status b ≡ Done) ⊎ OnFrom status start b
  pub together : (a b : ℕ) → OnFrom status start a → OnFrom status start b → Goes heads a b

pub IsWhole-last : (heads : ℕ → List ℕ) (status : List Status) (path todo : List ℕ) (parts : List Part) (part : Part) → IsLastPart parts part → length todo ≤ part.todo
    → IsSearch heads status path todo parts None → IsWhole heads status path part.path
IsWhole-last heads status path todo parts part last room is =
    let end : length parts - 1 < length parts = omega (arith, last.some) in
    let start : start_of parts (length parts - 1) ≡ part.path = ap (λ (p : Part). p.path) last.is in
    let begin : todo_of parts (length parts - 1) ≡ part.todo = ap (λ (p : Part). p.todo) last.is in
    let below : (i p : ℕ) → i < length parts → part.path ≤ p → start_of parts i ≤ p
    = (λ i p h o. let up = is.rising i (length parts - 1) (omega arith) end in omega (arith, up.0, start)) in
    record {
      there = is.there;
      back = is.back;
      closed = is.closed;
      leads = λ a b on has.
          let at = is.back a on.0 on.2 in
          let known = is.known (length parts - 1) on.0 b end (rw start on.1) at.0 (rw at.1 has) in
          elim known [
            | inl done ↦ inl done
            | inr more ↦ elim more [
              | inl from ↦ inr (from.0, rw start at from.1, from.2)
              | inr rest ↦ elim rest [ inl left ↦ absurd (omega (arith, left.1, left.2, begin)) | inr bad ↦ absurd (cc) ]
            ]
          ];
      together = λ a b on to.
          let from = is.back a on.0 on.2 in
          let there = is.back b to.0 to.2 in
          let way : Goes heads (get_or path on.0 0) (get_or path to.0 0) = elim (cases_lt on.0 to.0) [
            | inl lt ↦ is.forth on.0 to.0 (omega arith) there.0
            | inr le ↦ is.back_in to.0 on.0 le from.0 (λ i h o. below i to.0 h to.1)
          ] in
          rw (from.1, there.1) at way;
    }

-- a point of a part that is finished is done, and any other is what it was
pub settled : (heads : ℕ → List ℕ) (two : Bool) (count start : ℕ) (path : List ℕ) (old new : List Status) (old_marks marks : List Bool)
    → Settles two count start (length path) path old new old_marks marks → IsWhole heads old path start → (a : ℕ)
    → (OnFrom old start a × (status_of new a ≡ Done)) ⊎ ((OnFrom old start a → ⊥) × (status_of new a ≡ status_of old a))
settled heads two count start path old new old_marks marks settles whole a = by_case (found old a)
  where
    alike : (OnFrom old start a → ⊥) → status_of new a ≡ status_of old a
    alike off = settles.same a (λ p o h same. off (p, o, rw (← same) (whole.there p h)))

    by_case : PointState old a → (OnFrom old start a × (status_of new a ≡ Done)) ⊎ ((OnFrom old start a → ⊥) × (status_of new a ≡ status_of old a))
    by_case (IsFresh e) = let off : OnFrom old start a → ⊥ = (λ on. let z = on.2 in let bad : Fresh ≡ OnPath on.0 = sym e ∙ z in cc) in inr (off, alike off)
    by_case (IsDone e) = let off : OnFrom old start a → ⊥ = (λ on. let z = on.2 in let bad : Done ≡ OnPath on.0 = sym e ∙ z in cc) in inr (off, alike off)
    by_case (IsOn p e) = elim (cases_lt p start) [
      | inl lt ↦
          let off : OnFrom old start a → ⊥ = (λ on. let z = on.2 in let both : OnPath p ≡ OnPath on.0 = sym e ∙ z in let same : p ≡ on.0 = cc in omega (arith, on.1)) in
          inr (off, alike off)
      | inr le ↦ let at = whole.back a p e in inl ((p, le, e), rw at.1 at (settles.done p le at.0))
    ]

-- a done point stays done
done_stays : (heads : ℕ → List ℕ) (two : Bool) (count start : ℕ) (path : List ℕ) (old new : List Status) (old_marks marks : List Bool)
    → Settles two count start (length path) path old new old_marks marks → IsWhole heads old path start → (a : ℕ) → status_of old a ≡ Done → status_of new a ≡ Done
done_stays heads two count start path old new old_marks marks settles whole a e = elim (settled heads two count start path old new old_marks marks settles whole a) [
  | inl w ↦ w.1
  | inr w ↦ w.1 ∙ e
]

done_closed : (heads : ℕ → List ℕ) (two : Bool) (count start : ℕ) (path : List ℕ) (old new : List Status) (old_marks marks : List Bool)
    → Settles two count start (length path) path old new old_marks marks → IsWhole heads old path start
    → (a b : ℕ) → status_of new a ≡ Done → Has (heads a) b → status_of new b ≡ Done
done_closed heads two count start path old new old_marks marks settles whole a b e has = elim (settled heads two count start path old new old_marks marks settles whole a) [
  | inl w ↦ elim (whole.leads a b w.0 has) [
    | inl done ↦ done_stays heads two count start path old new old_marks marks settles whole b done
    | inr on ↦ let at = whole.back b on.0 on.2 in rw at.1 at (settles.done on.0 on.1 at.0)
  ]
  | inr w ↦ done_stays heads two count start path old new old_marks marks settles whole b (whole.closed a b (sym w.1 ∙ e) has)
]

-- the last part is left
pub IsSearch-leave : (heads : ℕ → List ℕ) (two : Bool) (count : ℕ) (path todo : List ℕ) (parts : List Part) (part : Part) (old new : List Status) (old_marks marks : List Bool)
    → IsLastPart parts part → length todo ≤ part.todo → Settles two count part.path (length path) path old new old_marks marks
    → IsSearch heads old path todo parts None → IsSearch heads new (take part.path path) todo (take (length parts - 1) parts) None
IsSearch-leave heads two count path todo parts part old new old_marks marks last room settles is = record {
  there = λ p h. rw (kept p (in_path p h)) (off_same p (in_path p h) ∙ is.there p (omega (arith, in_path p h, fits)));
  back = λ a p e. elim (settled heads two count part.path path old new old_marks marks settles whole a) [
    | inl w ↦ absurd (let z = w.1 in let bad : Done ≡ OnPath p = sym z ∙ e in cc)
    | inr w ↦
        let was : status_of old a ≡ OnPath p = sym w.1 ∙ e in
        let at = is.back a p was in
        elim (cases_lt p part.path) [
          | inl lt ↦ (omega (arith, short), kept p lt ∙ at.1)
          | inr le ↦ absurd (w.0 (p, le, was))
        ]
  ];
  closed = done_closed heads two count part.path path old new old_marks marks settles whole;
  inside = λ i h.
      let l = in_parts i h in
      let up = is.rising i (length parts - 1) (omega arith) end in
      rw (same_start i l, same_todo i l) (omega (arith, up.0, start, short), (is.inside i (omega arith)).1);
  rising = λ i j o h.
      let l = in_parts j h in
      let k : i < length parts - 1 = omega arith in
      rw (same_start i k, same_todo i k, same_start j l, same_todo j l) (is.rising i j o (omega arith));
  covered = λ p h.
      let lt = in_path p h in
      let c = is.covered p (omega (arith, fits)) in
      elim (cases_lt c.0 (length parts - 1)) [
        | inl l ↦ (c.0, omega (arith, few), rw (same_start c.0 l) c.2)
        | inr le ↦ absurd (let up = is.rising (length parts - 1) c.0 le c.1 in let o = c.2 in omega (arith, up.0, start))
      ];
  known = λ i p a h o l has.
      let lt = in_parts i h in
      let at = in_path p l in
      let was = is.known i p a (omega arith) (rw (same_start i lt) at o) (omega (arith, fits)) (rw (kept p at) at has) in
      rw (same_start i lt, same_todo i lt) (still i a was);
  pending = λ at h.
      let was = is.pending at h in
      let from : was.from < part.path = rw start at (was.before (length parts - 1) end (rw begin (omega arith))) in
      record {
        from = was.from;
        inside = omega (arith, short);
        goes = rw (kept was.from from) was.goes;
        after = λ i l e. let lt = in_parts i l in rw (same_start i lt) (was.after i (omega arith) (rw (same_todo i lt) at e));
        before = λ i l e. let lt = in_parts i l in rw (same_start i lt) (was.before i (omega arith) (rw (same_todo i lt) at e));
      };
  forth = λ p q o h. let lt = in_path q h in rw (kept p (omega arith), kept q lt) (is.forth p q o (omega (arith, fits)));
  back_in = λ p q o h apart.
      let lt = in_path q h in
      rw (kept p (omega arith), kept q lt) (is.back_in p q o (omega (arith, fits)) (λ i l e. elim (cases_lt i (length parts - 1)) [
        | inl small ↦ rw (same_start i small) at (apart i (omega (arith, few)) (rw (same_start i small) e))
        | inr large ↦ absurd (let up = is.rising (length parts - 1) i large l in omega (arith, up.0, start))
      ]));
}
  where
    end : length parts - 1 < length parts
    end = omega (arith, last.some)

    start : start_of parts (length parts - 1) ≡ part.path
    start = ap (λ (p : Part). p.path) last.is

    begin : todo_of parts (length parts - 1) ≡ part.todo
    begin = ap (λ (p : Part). p.todo) last.is

    whole : IsWhole heads old path part.path
    whole = IsWhole-last heads old path todo parts part last room is

    fits : part.path ≤ length path
    fits = rw start at (is.inside (length parts - 1) end).0

    short : length (take part.path path) ≡ part.path
    short = length-take-le part.path path fits

    few : length (take (length parts - 1) parts) ≡ length parts - 1
    few = length-take-le (length parts - 1) parts (omega arith)

    in_path : (p : ℕ) → p < length (take part.path path) → p < part.path
    in_path p h = omega (arith, short)

    in_parts : (i : ℕ) → i < length (take (length parts - 1) parts) → i < length parts - 1
    in_parts i h = omega (arith, few)

    kept : (p : ℕ) → p < part.path → get_or (take part.path path) p 0 ≡ get_or path p 0
    kept p h = get_or-take part.path path p 0 h

    same_start : (i : ℕ) → i < length parts - 1 → start_of (take (length parts - 1) parts) i ≡ start_of parts i
    same_start i h = ap (λ (p : Part). p.path) (get_or-take (length parts - 1) parts i no_part h)

    same_todo : (i : ℕ) → i < length parts - 1 → todo_of (take (length parts - 1) parts) i ≡ todo_of parts i
    same_todo i h = ap (λ (p : Part). p.todo) (get_or-take (length parts - 1) parts i no_part h)

    off_same : (p : ℕ) → p < part.path → status_of new (get_or path p 0) ≡ status_of old (get_or path p 0)
    off_same p h = settles.same (get_or path p 0) (λ q o l same.
        let one = is.there q l in
        let two = is.there p (omega (arith, fits)) in
        let both : OnPath q ≡ OnPath p = sym one ∙ ap (status_of old) same ∙ two in
        let at : q ≡ p = cc in
        omega arith)

    still : (i a : ℕ) → Known old todo None (start_of parts i) (todo_of parts i) a → Known new todo None (start_of parts i) (todo_of parts i) a
    still i a known = elim known [
      | inl done ↦ inl (done_stays heads two count part.path path old new old_marks marks settles whole a done)
      | inr more ↦ elim more [
        | inl on ↦ elim (settled heads two count part.path path old new old_marks marks settles whole a) [
          | inl w ↦ inl w.1
          | inr w ↦ inr (inl (on.0, on.1, w.1 ∙ on.2))
        ]
        | inr rest ↦ inr (inr rest)
      ]
    ]

-- the members found so far stay so while no point becomes done
pub IsReported-keep : (heads : ℕ → List ℕ) (count : ℕ) (old new : List Status) (marks : List Bool) → ((a : ℕ) → status_of new a ≡ Done → status_of old a ≡ Done)
    → IsReported heads count old marks → IsReported heads count new marks
IsReported-keep heads count old new marks was reported = record { size = reported.size; sound = reported.sound; whole = λ a small e circles. reported.whole a small (was a e) circles }

-- two children of a part
has_two : (heads : ℕ → List ℕ) (count start : ℕ) (path : List ℕ) (status : List Status) → IsWhole heads status path start
    → (a b : ℕ) → OnFrom status start a → OnFrom status start b → a ≢ b → a < count → b < count → HasTwo count start path
has_two heads count start path status whole a b on to ne a_child b_child =
    let from = whole.back a on.0 on.2 in
    let there = whole.back b to.0 to.2 in
    elim (cases_lt on.0 to.0) [
      | inl lt ↦ record { one = on.0; other = to.0; from = on.1; apart = lt; inside = there.0; one_child = rw from.1 a_child; other_child = rw there.1 b_child }
      | inr le ↦
          let unlike : to.0 ≢ on.0 = (λ same. ne (sym from.1 ∙ ap (λ p. get_or path p 0) (sym same) ∙ there.1)) in
          record { one = to.0; other = on.0; from = to.1; apart = omega arith; inside = from.0; one_child = rw there.1 b_child; other_child = rw from.1 a_child }
    ]

-- a member of a cycle in a part that is left has another child beside it there
circles_two : (heads : ℕ → List ℕ) (two : Bool) (count start : ℕ) (path : List ℕ) (old new : List Status) (old_marks marks : List Bool)
    → Settles two count start (length path) path old new old_marks marks → IsWhole heads old path start
    → (a : ℕ) → a < count → OnFrom old start a → Circles heads count a → HasTwo count start path
circles_two heads two count start path old new old_marks marks settles whole a small on circles =
    let at = whole.back a on.0 on.2 in
    let a_done : status_of new a ≡ Done = rw at.1 at (settles.done on.0 on.1 at.0) in
    let b_done : status_of new circles.0 ≡ Done
    = goes_on (λ p. status_of new p ≡ Done) (done_closed heads two count start path old new old_marks marks settles whole) a_done circles.3 in
    elim (settled heads two count start path old new old_marks marks settles whole circles.0) [
      | inl w ↦ has_two heads count start path old whole a circles.0 on w.0 (λ same. circles.2 (sym same)) small circles.1
      | inr w ↦ absurd (
          let was : status_of old circles.0 ≡ Done = sym w.1 ∙ b_done in
          let done : status_of old a ≡ Done = goes_on (λ p. status_of old p ≡ Done) whole.closed was circles.4 in
          let z = on.2 in
          let bad : Done ≡ OnPath on.0 = sym done ∙ z in
          cc)
    ]

-- the members found once the last part is left
pub IsReported-leave : (heads : ℕ → List ℕ) (two : Bool) (count start : ℕ) (path : List ℕ) (old new : List Status) (old_marks marks : List Bool)
    → (two ≡ true → HasTwo count start path) → (HasTwo count start path → two ≡ true) → Settles two count start (length path) path old new old_marks marks → IsWhole heads old path start
    → IsReported heads count old old_marks → IsReported heads count new marks
IsReported-leave heads two count start path old new old_marks marks if_two two_if settles whole reported = record {
  size = settles.marks_size ∙ reported.size;
  sound = λ a t. elim (settles.only a t) [
    | inl was ↦ reported.sound a was
    | inr w ↦
        let pair = if_two w.0 in
        let on : OnFrom old start a = (w.1, w.2, rw w.4 at (whole.there w.1 w.3)) in
        let one : OnFrom old start (get_or path pair.one 0) = (pair.one, pair.from, whole.there pair.one (let o = pair.apart in let h = pair.inside in omega arith)) in
        let other : OnFrom old start (get_or path pair.other 0) = (pair.other, (let o = pair.apart in let h = pair.from in omega arith), whole.there pair.other pair.inside) in
        elim (cases_eq (get_or path pair.one 0) a) [
          | inr ne ↦ (get_or path pair.one 0, pair.one_child, ne, whole.together a _ on one, whole.together _ a one on)
          | inl same ↦ (get_or path pair.other 0, pair.other_child, unlike pair a same, whole.together a _ on other, whole.together _ a other on)
        ]
  ];
  whole = λ a small e circles. elim (settled heads two count start path old new old_marks marks settles whole a) [
    | inl w ↦
        let on = w.0 in
        let at = whole.back a on.0 on.2 in
        let both = two_if (circles_two heads two count start path old new old_marks marks settles whole a small on circles) in
        rw at.1 at (settles.marks on.0 on.1 at.0 both (rw at.1 small))
    | inr w ↦ settles.keeps a (reported.whole a small (sym w.1 ∙ e) circles)
  ];
}
  where
    unlike : (pair : HasTwo count start path) (a : ℕ) → get_or path pair.one 0 ≡ a → get_or path pair.other 0 ≢ a
    unlike pair a is = λ same.
        let one = whole.there pair.one (let o = pair.apart in let h = pair.inside in omega arith) in
        let other = whole.there pair.other pair.inside in
        let both : OnPath pair.one ≡ OnPath pair.other = sym one ∙ ap (status_of old) (is ∙ sym same) ∙ other in
        let at : pair.one ≡ pair.other = cc in
        let o = pair.apart in
        omega arith
