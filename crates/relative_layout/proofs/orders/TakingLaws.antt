-- Taking a child into an order.
use Rattle.std.proofs.Common.{◌≡◌, ◌≢◌, ◌⊎◌, ℕ, zero, suc, ◌+◌, ◌-◌, ◌*◌, ◌<◌, ◌≤◌, Bool, true, false, cond, List, [], ◌∷◌, ◌++◌, length, get_or, set, Some, None, refl, sym, ap, ◌∙◌, arith, inl, inr, length-append, get_or-set_same, get_or-set_other}
use Rattle.std.specs.Prelude.{nat_lt, sum_by}
use Rattle.std.proofs.Math.ListN.{length-set}
use Rattle.std.proofs.lemmas.Bool.{cases_lt}
use Rattle.std.proofs.lemmas.Bool.Decides.{nat_tests}
use Rattle.std.proofs.lemmas.List.{get_or_push, get_or_append_left, get_or-append_right}
use Rattle.std.proofs.lemmas.List.Sums.{count_by-le-length, sum_by-cons, sum_by-set}
use Rattle.relative_layout.proofs.orders.Counting.{AreCounts-none, AreCounts-some, another_left, cases_eq, waits_some_id, waits_true}
use Rattle.relative_layout.proofs.orders.NamingLaws.{Has-left, last_is, leads_parts, leads_whole, named_some, names-at, none_is, pushed}
use Rattle.relative_layout.specs.ordering.Naming.{AreNamers, Has, id_at, link_at, padded_ids, row_at}
use Rattle.relative_layout.specs.ordering.Topological.{AreCounts, IsPartial, IsTaking, LeadsIn, Waits, effort, is_marked, left_with, marked, waits_for}
use Rattle.view_model.specs.declared.relative.Axis.{Axis}
use Rattle.view_model.specs.declared.relative.Link.{Link}
use Rattle.view_model.specs.SiblingRules.{last_with_id, leads, names}

pub marked-cons : (b : Bool) (marks : List Bool) → marked (b ∷ marks) ≡ cond b 1 0 + marked marks
unfolding marked
marked-cons b marks = sum_by-cons (λ b. cond b 1 0) b marks

pub marked-most : (marks : List Bool) → marked marks ≤ length marks
unfolding marked
marked-most marks = count_by-le-length (λ b. b) marks

pub marked-set : (marks : List Bool) (place : ℕ) → place < length marks → is_marked marks place ≡ false → marked (set marks place true) ≡ marked marks + 1
unfolding marked
marked-set marks place h fresh =
    let e = sum_by-set (λ b. cond b 1 0) marks place true false h in
    let none : ◌≡◌ {A = ℕ} (cond (is_marked marks place) 1 0) 0 = rw fresh refl in
    omega (arith, e, none)

pub set_keeps : (marks : List Bool) (place other : ℕ) → place < length marks → is_marked marks other ≡ true → is_marked (set marks place true) other ≡ true
set_keeps marks place other h t = elim (cases_eq other place) [
  | inl same ↦ rw (same, get_or-set_same marks place true false h) refl
  | inr ne ↦ rw (get_or-set_other marks place other true false ne) t
]

pub set_sets : (marks : List Bool) (place : ℕ) → place < length marks → is_marked (set marks place true) place ≡ true
set_sets marks place h = get_or-set_same marks place true false h

pub set_only : (marks : List Bool) (place other : ℕ) → is_marked (set marks place true) other ≡ true → (other ≡ place) ⊎ (is_marked marks other ≡ true)
set_only marks place other t = elim (cases_eq other place) [
  | inl same ↦ inl same
  | inr ne ↦ inr (sym (get_or-set_other marks place other true false ne) ∙ t)
]

set_misses : (marks : List Bool) (place other : ℕ) → place < length marks → is_marked (set marks place true) other ≡ false → (other ≢ place) × (is_marked marks other ≡ false)
set_misses marks place other h f =
    let ne : other ≢ place = (λ same. let t = rw (← same) at (set_sets marks place h) in cc) in
    (ne, sym (get_or-set_other marks place other true false ne) ∙ f)

-- an order with one place more, all of whose anchors are taken
pub IsPartial-push : (leads : ℕ → ℕ → Bool) (count : ℕ) (order : List ℕ) (taken : List Bool) (a : ℕ) → a < count → length taken ≡ count
    → is_marked taken a ≡ false → LeadsIn leads a taken → IsPartial leads count order taken → IsPartial leads count (order ++ a ∷ []) (set taken a true)
IsPartial-push leads count order taken a small size fresh ready before =
    let long : length (order ++ a ∷ []) ≡ length order + 1 = length-append order (a ∷ []) in
    let fits : a < length taken = omega arith in
    record {
      anchors = record {
        once = λ p q hp hq e. elim (pushed order a p hp) [
          | inl w ↦ elim (pushed order a q hq) [
            | inl v ↦ before.anchors.once p q w.0 v.0 (sym w.1 ∙ e ∙ v.1)
            | inr v ↦ let t = before.there p w.0 in let same : get_or order p 0 ≡ a = sym w.1 ∙ e ∙ v.1 in let bad = rw same at t in cc
          ]
          | inr w ↦ elim (pushed order a q hq) [
            | inl v ↦ let t = before.there q v.0 in let same : get_or order q 0 ≡ a = sym v.1 ∙ sym e ∙ w.1 in let bad = rw same at t in cc
            | inr v ↦ w.0 ∙ sym v.0
          ]
        ];
        first = λ p j hp e. elim (pushed order a p hp) [
          | inl w ↦ let q = before.anchors.first p j w.0 (rw (sym w.1) e) in (q.0, q.1, get_or_append_left order (a ∷ []) 0 q.0 (omega arith) ∙ q.2)
          | inr w ↦ let q = before.each j (ready j (rw (sym w.1) e)) in (q.0, omega arith, get_or_append_left order (a ∷ []) 0 q.0 q.1 ∙ q.2)
        ];
      };
      inside = λ p h. elim (pushed order a p h) [ inl w ↦ rw w.1 (before.inside p w.0) | inr w ↦ rw w.1 small ];
      there = λ p h. elim (pushed order a p h) [ inl w ↦ rw w.1 (set_keeps taken a (get_or order p 0) fits (before.there p w.0)) | inr w ↦ rw w.1 (set_sets taken a fits) ];
      each = λ j h. elim (set_only taken a j h) [
        | inl e ↦ (length order, omega arith, get_or_push order a 0 (length order) refl ∙ sym e)
        | inr t ↦ let p = before.each j t in (p.0, omega arith, get_or_append_left order (a ∷ []) 0 p.0 p.1 ∙ p.2)
      ];
      size = long ∙ ap (λ k. k + 1) before.size ∙ sym (marked-set taken a fits fresh);
    }

-- what comes before the last of a list
pub before_last : (xs : List ℕ) (a c : ℕ) → c ≢ a → Has (xs ++ a ∷ []) c → Has xs c
before_last xs a c ne has = elim (pushed xs a has.0 has.1) [
  | inl w ↦ (has.0, w.0, sym w.1 ∙ has.2)
  | inr w ↦ absurd (ne (sym has.2 ∙ w.1))
]

pub append_at : (xs ys : List ℕ) (k : ℕ) → get_or (xs ++ ys) (length xs + k) 0 ≡ get_or ys k 0
append_at xs ys k = let back : length xs + k - length xs ≡ k = omega arith in get_or-append_right xs ys (length xs) (length xs + k) 0 refl (omega arith) ∙ ap (λ i. get_or ys i 0) back

pub Has-right : (xs ys : List ℕ) (c : ℕ) → Has ys c → Has (xs ++ ys) c
Has-right xs ys c has = (length xs + has.0, omega (arith, has.1, length-append xs ys), append_at xs ys has.0 ∙ has.2)

-- a child of the list that is taken, or waits, need not be looked at
pub IsTaking-passed : (axis : Axis) (kids : List Link) (left : List ℕ) (taken : List Bool) (todo order : List ℕ) (place : ℕ)
    → (is_marked taken place ≡ false → Waits (leads axis kids) taken place)
    → IsTaking axis kids left taken (todo ++ place ∷ []) order → IsTaking axis kids left taken todo order
IsTaking-passed axis kids left taken todo order place waits is = record {
  size = is.size;
  partial = is.partial;
  counts = is.counts;
  inside = λ p h. let at = is.inside p (omega (arith, h, length-append todo (place ∷ []))) in rw (sym (get_or_append_left todo (place ∷ []) 0 p h)) at;
  pending = λ k small fresh. elim (cases_eq k place) [
    | inl same ↦ inr (rw same (waits (rw same at fresh)))
    | inr ne ↦ elim (is.pending k small fresh) [ inl has ↦ inl (before_last todo place k ne has) | inr w ↦ inr w ]
  ];
}

inside_both : (xs ys : List ℕ) (count : ℕ) → ((p : ℕ) → p < length xs → get_or xs p 0 < count) → ((p : ℕ) → p < length ys → get_or ys p 0 < count)
    → (p : ℕ) → p < length (xs ++ ys) → get_or (xs ++ ys) p 0 < count
inside_both xs ys count left right p h = elim (cases_lt p (length xs)) [
  | inl lt ↦ rw (get_or_append_left xs ys 0 p lt) (left p lt)
  | inr le ↦
      let at : length xs + (p - length xs) ≡ p = omega arith in
      let there : p - length xs < length ys = omega (arith, h, length-append xs ys) in
      let e : get_or (xs ++ ys) p 0 ≡ get_or ys (p - length xs) 0 = ap (λ k. get_or (xs ++ ys) k 0) (sym at) ∙ append_at xs ys (p - length xs) in
      rw e (right (p - length xs) there)
]

-- no child has the id of the child that is taken, or it has none
pub IsTaking-alone : (axis : Axis) (kids : List Link) (left : List ℕ) (taken : List Bool) (todo order : List ℕ) (place : ℕ)
    → place < length kids → is_marked taken place ≡ false → LeadsIn (leads axis kids) place taken → last_with_id kids (id_at kids place) ≡ None
    → IsTaking axis kids left taken (todo ++ place ∷ []) order → IsTaking axis kids left (set taken place true) todo (order ++ place ∷ [])
IsTaking-alone axis kids left taken todo order place small fresh ready none is =
    let fits : place < length taken = omega (arith, is.size) in
    record {
      size = length-set taken place true ∙ is.size;
      partial = IsPartial-push (leads axis kids) (length kids) order taken place small is.size fresh ready is.partial;
      counts = AreCounts-none kids taken left place is.size small fresh none is.counts;
      inside = λ p h. let at = is.inside p (omega (arith, h, length-append todo (place ∷ []))) in rw (sym (get_or_append_left todo (place ∷ []) 0 p h)) at;
      pending = λ k inside left_over.
          let w = set_misses taken place k fits left_over in
          elim (is.pending k inside w.1) [
            | inl has ↦ inl (before_last todo place k w.0 has)
            | inr waits ↦
                let parts = leads_parts axis kids k waits.0 waits.1 in
                let other : waits.0 ≢ place = (λ same. none_is kids (id_at kids place) place none (named_some axis (link_at kids k).rules (id_at kids place) (rw same at parts.1)) small refl) in
                inr (waits.0, waits.1, rw (get_or-set_other taken place waits.0 true false other) waits.2)
          ];
    }

-- the child that is taken has an id: if at most one is left with it, those that name it are to be looked at
pub IsTaking-one_of : (axis : Axis) (kids : List Link) (rows : List (List ℕ)) (left : List ℕ) (taken : List Bool) (todo order : List ℕ) (place last : ℕ)
    → place < length kids → is_marked taken place ≡ false → LeadsIn (leads axis kids) place taken → last_with_id kids (id_at kids place) ≡ Some last
    → AreNamers axis kids (length kids) rows → (more : Bool) → nat_lt 1 (get_or left last 0 - 1) ≡ more
    → IsTaking axis kids left taken (todo ++ place ∷ []) order
    → IsTaking axis kids (set left last (get_or left last 0 - 1)) (set taken place true) (cond more todo (todo ++ row_at rows last)) (order ++ place ∷ [])
IsTaking-one_of axis kids rows left taken todo order place last small fresh ready found naming more test is =
    let fits : place < length taken = omega (arith, is.size) in
    let counts = AreCounts-some kids taken left place last is.size small fresh found is.counts in
    let it = last_is kids (id_at kids place) last found in
    let here : last_with_id kids (id_at kids last) ≡ Some last = rw it.has found in
    let old_inside : (p : ℕ) → p < length todo → get_or todo p 0 < length kids
    = (λ p h. let at = is.inside p (omega (arith, h, length-append todo (place ∷ []))) in rw (sym (get_or_append_left todo (place ∷ []) 0 p h)) at) in
    record {
      size = length-set taken place true ∙ is.size;
      partial = IsPartial-push (leads axis kids) (length kids) order taken place small is.size fresh ready is.partial;
      counts = counts;
      inside = inside_case kids rows todo last (naming.inside last) old_inside more;
      pending = λ k inside left_over.
          let w = set_misses taken place k fits left_over in
          elim (is.pending k inside w.1) [
            | inl has ↦ inl (kept_case todo (row_at rows last) k (before_last todo place k w.0 has) more)
            | inr waits ↦ elim (cases_eq waits.0 place) [
              | inr other ↦ inr (waits.0, waits.1, rw (get_or-set_other taken place waits.0 true false other) waits.2)
              | inl same ↦
                  let named : names axis (link_at kids k).rules (id_at kids last) ≡ true = rw it.has (rw same at (leads_parts axis kids k waits.0 waits.1).1) in
                  let count : get_or left last 0 - 1 ≡ left_with kids (set taken place true) (id_at kids last)
                  = sym (get_or-set_same left last (get_or left last 0 - 1) 0 (omega (arith, it.inside, is.counts.size))) ∙ counts.each last here in
                  released axis kids (set taken place true) todo (row_at rows last) last k inside named (naming.whole last k inside here named) more (rw (← count) test)
            ]
          ];
    }
  where
    inside_case : (kids : List Link) (rows : List (List ℕ)) (todo : List ℕ) (last : ℕ) → ((p : ℕ) → p < length (row_at rows last) → get_or (row_at rows last) p 0 < length kids)
        → ((p : ℕ) → p < length todo → get_or todo p 0 < length kids)
        → (more : Bool) → (p : ℕ) → p < length (cond more todo (todo ++ row_at rows last)) → get_or (cond more todo (todo ++ row_at rows last)) p 0 < length kids
    inside_case kids rows todo last row old true = old
    inside_case kids rows todo last row old false = inside_both todo (row_at rows last) (length kids) old row

    kept_case : (todo row : List ℕ) (k : ℕ) → Has todo k → (more : Bool) → Has (cond more todo (todo ++ row)) k
    kept_case todo row k has true = has
    kept_case todo row k has false = Has-left todo row k has

    released : (axis : Axis) (kids : List Link) (taken : List Bool) (todo row : List ℕ) (last k : ℕ) → k < length kids → names axis (link_at kids k).rules (id_at kids last) ≡ true → Has row k
        → (more : Bool) → nat_lt 1 (left_with kids taken (id_at kids last)) ≡ more → Has (cond more todo (todo ++ row)) k ⊎ Waits (leads axis kids) taken k
    released axis kids taken todo row last k inside named has true test =
        let two : 1 < left_with kids taken (id_at kids last) = grind (arith, nat_tests) in
        let b = another_left kids taken (id_at kids last) k inside two in
        inr (b.0, leads_whole axis kids k b.0 (λ same. b.1 (sym same)) (rw b.4 named), b.3)
    released axis kids taken todo row last k inside named has false test = inl (Has-right todo row k has)

-- less remains to be done

pub row-least : (rows : List (List ℕ)) (q : ℕ) → length (row_at rows q) ≤ sum_by length rows
row-least [] q = omega arith
row-least (row ∷ rows) zero = omega (arith, sum_by-cons length row rows)
row-least (row ∷ rows) (suc q) = omega (arith, sum_by-cons length row rows, row-least rows q)

less_to_do : (sum u v todo more : ℕ) → u ≡ suc v → more ≤ sum → v * (1 + sum) + (todo + more) ≤ u * (1 + sum) + todo
less_to_do sum u v todo more e h = rw e (omega arith)

pub effort-alone : (rows : List (List ℕ)) (taken : List Bool) (place todo : ℕ) → place < length taken → is_marked taken place ≡ false
    → effort rows (set taken place true) todo ≤ effort rows taken todo
unfolding effort
effort-alone rows taken place todo h fresh =
    let one = marked-set taken place h fresh in
    let most = marked-most (set taken place true) in
    let same = length-set taken place true in
    let less = less_to_do (sum_by length rows) (length taken - marked taken) (length (set taken place true) - marked (set taken place true)) todo 0 (omega arith) (omega arith) in
    omega (arith, less)

pub effort-one_of : (rows : List (List ℕ)) (taken : List Bool) (place last : ℕ) (todo : List ℕ) (more : Bool) → place < length taken → is_marked taken place ≡ false
    → effort rows (set taken place true) (length (cond more todo (todo ++ row_at rows last))) ≤ effort rows taken (length todo)
unfolding effort
effort-one_of rows taken place last todo true h fresh = effort-alone rows taken place (length todo) h fresh
effort-one_of rows taken place last todo false h fresh =
    let one = marked-set taken place h fresh in
    let most = marked-most (set taken place true) in
    let same = length-set taken place true in
    let less = less_to_do (sum_by length rows) (length taken - marked taken) (length (set taken place true) - marked (set taken place true)) (length todo) (length (row_at rows last)) (omega arith) (row-least rows last) in
    rw (length-append todo (row_at rows last)) less

pub effort-less : (rows : List (List ℕ)) (old new : List Bool) (todo more : ℕ) → effort rows new more ≤ effort rows old todo → effort rows new more < effort rows old (todo + 1)
unfolding effort
effort-less rows old new todo more h = omega arith

-- a child that waits by one of the ids that it names waits for a sibling
pub waits_by : (axis : Axis) (kids : List Link) (taken : List Bool) (place k : ℕ) → place < length kids → k < 8 → is_marked taken place ≡ false
    → waits_for kids taken (id_at kids place) (get_or (padded_ids axis (link_at kids place).rules) k 0) ≡ true → Waits (leads axis kids) taken place
waits_by axis kids taken place k small few fresh waits =
    let id : ℕ = get_or (padded_ids axis (link_at kids place).rules) k 0 in
    let b = waits_true kids taken place id small fresh waits in
    let named = names-at axis (link_at kids place).rules k few (waits_some_id kids taken (id_at kids place) id waits) in
    (b.0, leads_whole axis kids place b.0 (λ same. b.1 (sym same)) (rw b.4 named), b.3)

-- before any child is taken
marked-none : (marks : List Bool) → ((k : ℕ) → is_marked marks k ≡ false) → marked marks ≡ 0
unfolding marked
marked-none [] none = refl
marked-none (true ∷ marks) none = let bad : true ≡ false = none 0 in cc
marked-none (false ∷ marks) none = marked-cons false marks ∙ omega (arith, marked-none marks (λ k. none (suc k)))

pub IsTaking-start : (axis : Axis) (kids : List Link) (left : List ℕ) (taken : List Bool) (todo order : List ℕ)
    → order ≡ [] → length taken ≡ length kids → ((k : ℕ) → is_marked taken k ≡ false) → AreCounts kids taken left
    → ((p : ℕ) → p < length todo → get_or todo p 0 < length kids) → ((k : ℕ) → k < length kids → Has todo k)
    → IsTaking axis kids left taken todo order
IsTaking-start axis kids left taken todo order e size none counts inside each = record {
  size = size;
  partial = rw e (record {
    anchors = record { once = λ p q h _ _. absurd (omega arith); first = λ p j h _. absurd (omega arith) };
    inside = λ p h. absurd (omega arith);
    there = λ p h. absurd (omega arith);
    each = λ k t. let f = none k in cc;
    size = sym (marked-none taken none);
  });
  counts = counts;
  inside = inside;
  pending = λ k small fresh. inl (each k small);
}
