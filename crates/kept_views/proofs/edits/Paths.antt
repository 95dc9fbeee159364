-- The path up from a view, seen from the root down.
use Rattle.std.proofs.Common.{◌≡◌, ℕ, zero, suc, ◌+◌, ◌<◌, ◌≤◌, Bool, true, false, List, [], ◌∷◌, ◌++◌, arith, ap, ◌∙◌, sym, refl, subst, ◌⊎◌, inl, inr}
use Rattle.std.specs.Prelude.{if◌then◌else◌, ◌==◌}
use Rattle.std.proofs.lemmas.Bool.{both_ways, cases_Bool, cases_eq, eq-eqb, ne_eqb}
use Rattle.view_model.specs.Facts.{is_shown}
use Rattle.view_model.specs.Forest.{Forest, Nothing, Branch}
use Rattle.view_tree.specs.Rows.{Row, around, count_of_key}
use Rattle.view_tree.proofs.forest.AncestorLaws.{around_after, around_below, around_here, left}
use Rattle.view_tree.proofs.forest.KeyLaws.{own_more, times_self}
use Rattle.view_tree.specs.Views.{Held}
use Rattle.kept_views.specs.Kept.{Around, Kept, hidden_in, inside, reach}
use Rattle.view_tree.specs.tree.Requests.{among, unforced}

pub reach_few : (key : ℕ) (list : Forest Row) → reach key list ≤ count_of_key key list
reach_few key Nothing = omega arith
reach_few key (Branch row kids siblings) =
    less (is_shown row.view.facts) (if row.key == key then 1 else 0) (reach key kids) (reach key siblings) (count_of_key key kids) (count_of_key key siblings) (reach_few key kids) (reach_few key siblings)
  where
    less : (v : Bool) (o a b c d : ℕ) → a ≤ c → b ≤ d → o + ((if v then a else 0) + b) ≤ o + (c + d)
    less true o a b c d x y = omega arith
    less false o a b c d x y = omega arith

-- among keys
pub among_append : (key : ℕ) (some more : List ℕ) → among key some ≡ false → among key more ≡ false → among key (some ++ more) ≡ false
among_append key [] more e f = f
among_append key (first ∷ some) more e f = step (first == key) (among key some) (among key (some ++ more)) e (λ g. among_append key some more g f)
  where
    step : (o u w : Bool) → (if o then true else u) ≡ false → (u ≡ false → w ≡ false) → (if o then true else w) ≡ false
    step true u w e f = absurd (let n : true ≡ false = e in cc)
    step false u w e f = f e

pub among_right : (key : ℕ) (some more : List ℕ) → among key more ≡ true → among key (some ++ more) ≡ true
among_right key [] more e = e
among_right key (first ∷ some) more e = step (first == key) (among key (some ++ more)) (among_right key some more e)
  where
    step : (o w : Bool) → w ≡ true → (if o then true else w) ≡ true
    step true w e = refl
    step false w e = e

pub among_first : (key : ℕ) (more : List ℕ) → among key (key ∷ more) ≡ true
among_first key more = rw (eq-eqb key key refl) refl

pub among_rest : (key first : ℕ) (more : List ℕ) → among key more ≡ true → among key (first ∷ more) ≡ true
among_rest key first more e = elim (first == key) as (λ o. (if o then true else among key more) ≡ true) [ true ↦ refl | false ↦ e ]

pub among_later : (key first : ℕ) (more : List ℕ) → (first ≡ key → ⊥) → among key more ≡ false → among key (first ∷ more) ≡ false
among_later key first more ne e = rw (ne_eqb first key ne) e

pub unforced_off : (key : ℕ) (held : ℕ → Held) (keys : List ℕ) → among key keys ≡ false → among key (unforced held keys) ≡ false
unforced_off key held [] e = refl
unforced_off key held (first ∷ keys) e = step (first == key) (among key keys) (held first).state.forced refl e (λ g. unforced_off key held keys g)
  where
    step : (o u g : Bool) → (first == key) ≡ o → (if o then true else u) ≡ false → (u ≡ false → among key (unforced held keys) ≡ false) → among key (if g then [] else first ∷ unforced held keys) ≡ false
    step true u g i e f = absurd (let n : true ≡ false = e in cc)
    step false u true i e f = refl
    step false u false i e f = rw i (f e)

-- a view that is hidden is forced
abbrev pub Forces : (ℕ → Held) → Bool → Forest Row → Type 0
Forces held hidden Nothing = Unit {0}
Forces held hidden (Branch row kids siblings) =
    ((if is_shown row.view.facts then hidden else true) ≡ true → (held row.key).state.forced ≡ true)
    × Forces held (if is_shown row.view.facts then hidden else true) kids
    × Forces held hidden siblings

pub kept_forces : (keys : List ℕ) (held : ℕ → Held) (up : Around) (list : Forest Row) → Kept keys held up list → Forces held up.hidden list
kept_forces keys held up Nothing k = tt
kept_forces keys held up (Branch row kids siblings) k = (λ h. (k.0 h).forced, kept_forces keys held (inside up row (held row.key)) kids k.2, kept_forces keys held up siblings k.3)

-- of the views above one, those that are not hidden are forced only below a forced one
abbrev pub FlagsAbove : ℕ → (ℕ → Held) → Around → Forest Row → Type 0
FlagsAbove view held up Nothing = Unit {0}
FlagsAbove view held up (Branch row kids siblings) =
    (0 < count_of_key view kids → hidden_in up row ≡ false → (held row.key).state.forced ≡ true → up.forced ≡ true)
    × FlagsAbove view held (inside up row (held row.key)) kids
    × FlagsAbove view held up siblings

-- the path leaves a list: no forced view on it so far, or one
pub record Clear (view : ℕ) (held : ℕ → Held) (acc : List ℕ) (list : Forest Row) : Type 0 where
  pub inner : List ℕ
  pub is : unforced held (around acc view list) ≡ inner ++ unforced held acc
  pub within : (key : ℕ) → count_of_key key list ≡ 0 → among key inner ≡ false
  pub seen : 0 < reach view list

pub record Blocked (view : ℕ) (held : ℕ → Held) (up : Around) (acc : List ℕ) (list : Forest Row) : Type 0 where
  pub within : (key : ℕ) → count_of_key key list ≡ 0 → among key (unforced held (around acc view list)) ≡ false
  pub above : FlagsAbove view held up list → 0 < reach view list → up.hidden ≡ false → up.forced ≡ true

pub more_than : (n : ℕ) → (n ≡ 0 → ⊥) → 0 < n
more_than zero ne = absurd (ne refl)
more_than (suc n) ne = omega arith

-- a view below which another is reached is shown
pub reach_shown : (view : ℕ) (row : Row) (kids siblings : Forest Row) → (row.key ≡ view → ⊥) → count_of_key view siblings ≡ 0 → 0 < reach view (Branch row kids siblings)
    → (is_shown row.view.facts ≡ true) × (0 < reach view kids)
reach_shown view row kids siblings ne z h =
    let few = reach_few view siblings in
    let h' : 0 < (if row.key == view then 1 else 0) + ((if is_shown row.view.facts then reach view kids else 0) + reach view siblings) = h in
    let g : 0 < (if is_shown row.view.facts then reach view kids else 0) + reach view siblings = let k = rw (ne_eqb row.key view ne) at h' in omega arith in
    pick (is_shown row.view.facts) (reach view kids) (reach view siblings) (omega arith) g
  where
    pick : (v : Bool) (a b : ℕ) → b ≡ 0 → 0 < (if v then a else 0) + b → (v ≡ true) × (0 < a)
    pick true a b z h = (refl, omega arith)
    pick false a b z h = absurd (omega arith)

pub reach_after : (view : ℕ) (row : Row) (kids siblings : Forest Row) → (row.key ≡ view → ⊥) → count_of_key view kids ≡ 0 → 0 < reach view (Branch row kids siblings) → 0 < reach view siblings
reach_after view row kids siblings ne z h =
    let few = reach_few view kids in
    let h' : 0 < (if row.key == view then 1 else 0) + ((if is_shown row.view.facts then reach view kids else 0) + reach view siblings) = h in
    let g : 0 < (if is_shown row.view.facts then reach view kids else 0) + reach view siblings = let k = rw (ne_eqb row.key view ne) at h' in omega arith in
    pick (is_shown row.view.facts) (reach view kids) (reach view siblings) (omega arith) g
  where
    pick : (v : Bool) (a b : ℕ) → a ≡ 0 → 0 < (if v then a else 0) + b → 0 < b
    pick true a b z h = omega arith
    pick false a b z h = omega arith

pub reach_more : (view : ℕ) (row : Row) (kids siblings : Forest Row) → is_shown row.view.facts ≡ true → reach view kids ≤ reach view (Branch row kids siblings)
reach_more view row kids siblings here = rw here (omega arith)

append_assoc : (some : List ℕ) (key : ℕ) (more : List ℕ) → some ++ (key ∷ more) ≡ (some ++ (key ∷ [])) ++ more
append_assoc [] key more = refl
append_assoc (first ∷ some) key more = ap (λ keys. first ∷ keys) (append_assoc some key more)

not_own : (row : Row) (kids siblings : Forest Row) (key : ℕ) → count_of_key key (Branch row kids siblings) ≡ 0 → (row.key ≡ key → ⊥)
not_own row kids siblings key z e = let m = own_more row kids siblings key e in absurd (omega arith)

among_one : (key first : ℕ) → (first ≡ key → ⊥) → among key (first ∷ []) ≡ false
among_one key first ne = rw (ne_eqb first key ne) refl

not_hidden : (up : Around) (row : Row) → is_shown row.view.facts ≡ true → up.hidden ≡ false → hidden_in up row ≡ false
not_hidden up row here seen = ap (λ v. if v then up.hidden else true) here ∙ seen

-- a view that is not forced is not gone
open_shown : (held : ℕ → Held) (hidden : Bool) (row : Row) → ((if is_shown row.view.facts then hidden else true) ≡ true → (held row.key).state.forced ≡ true) → (held row.key).state.forced ≡ false
    → is_shown row.view.facts ≡ true
open_shown held hidden row forces e = elim (cases_Bool (is_shown row.view.facts)) [ inl here ↦ here | inr gone ↦ absurd (both_ways _ e (forces (rw gone refl))) ]

stops_at : (held : ℕ → Held) (key : ℕ) (acc : List ℕ) → (held key).state.forced ≡ true → unforced held (key ∷ acc) ≡ []
stops_at held key acc e = rw e refl

goes_on : (held : ℕ → Held) (key : ℕ) (acc : List ℕ) → (held key).state.forced ≡ false → unforced held (key ∷ acc) ≡ key ∷ unforced held acc
goes_on held key acc e = rw e refl

pub way_out : (view : ℕ) (held : ℕ → Held) (up : Around) (acc : List ℕ) (list : Forest Row) → ((key : ℕ) → count_of_key key list ≤ 1) → 0 < count_of_key view list
    → Forces held up.hidden list → Clear view held acc list ⊎ Blocked view held up acc list
way_out view held up acc Nothing once live forces = absurd (omega arith)
way_out view held up acc (Branch row kids siblings) once live forces = elim (cases_eq row.key view) [
  | inl e ↦ inl (record { inner = []; is = ap (unforced held) (around_here acc view row kids siblings e); within = λ key z. refl; seen = rw (eq-eqb row.key view e) (omega arith) })
  | inr ne ↦ elim (cases_eq (count_of_key view kids) 0) [
    | inl z ↦
        let p = left view row kids siblings ne live in
        let path = around_after acc view row kids siblings ne z in
        elim (way_out view held up acc siblings (λ key. let o = once key in omega arith) (omega arith) forces.2) [
          | inl i ↦ inl (record { inner = i.inner; is = ap (unforced held) path ∙ i.is; within = λ key y. i.within key (omega arith); seen = let s = i.seen in omega arith })
          | inr j ↦ inr (record {
            within = λ key y. subst (λ keys. among key (unforced held keys) ≡ false) (sym path) (j.within key (omega arith));
            above = λ flags s hid. j.above flags.2 (reach_after view row kids siblings ne z s) hid;
          })
        ]
    | inr nz ↦
        let path = around_below acc view row kids siblings ne nz in
        let p = more_than (count_of_key view kids) nz in
        let za : count_of_key view siblings ≡ 0 = let o = once view in omega arith in
        elim (way_out view held (inside up row (held row.key)) (row.key ∷ acc) kids (λ key. let o = once key in omega arith) p forces.1) [
          | inl i ↦ elim (cases_Bool (held row.key).state.forced) [
            | inl y ↦ inr (record {
              within = λ key z. subst (λ keys. among key keys ≡ false) (sym (ap (unforced held) path ∙ i.is)) (among_append key i.inner _ (i.within key (omega arith)) (ap (among key) (stops_at held row.key acc y)));
              above = λ flags s hid. let g = reach_shown view row kids siblings ne za s in flags.0 p (not_hidden up row g.0 hid) y;
            })
            | inr n ↦ inl (record {
              inner = i.inner ++ (row.key ∷ []);
              is = ap (unforced held) path ∙ i.is ∙ ap (λ keys. i.inner ++ keys) (goes_on held row.key acc n) ∙ append_assoc i.inner row.key (unforced held acc);
              within = λ key z. among_append key i.inner (row.key ∷ []) (i.within key (omega arith)) (among_one key row.key (not_own row kids siblings key z));
              seen = let m = reach_more view row kids siblings (open_shown held up.hidden row forces.0 n) in let s = i.seen in omega arith;
            })
          ]
          | inr j ↦ inr (record {
            within = λ key z. subst (λ keys. among key (unforced held keys) ≡ false) (sym path) (j.within key (omega arith));
            above = λ flags s hid.
                let g = reach_shown view row kids siblings ne za s in
                let shown = not_hidden up row g.0 hid in
                flags.0 p shown (j.above flags.1 g.1 shown);
          })
        ]
  ]
]

-- what a request presses: views that are, or are above, the one where it was made, and of those all except the forced
-- ones
abbrev pub Way : ℕ → List ℕ → (ℕ → Held) → Around → Forest Row → Type 0
Way view keys held up Nothing = Unit {0}
Way view keys held up (Branch row kids siblings) =
    (among row.key keys ≡ true → 0 < reach view (Branch row kids Nothing))
    × (among row.key keys ≡ false → 0 < reach view (Branch row kids Nothing) → FlagsAbove view held (inside up row (held row.key)) kids → (held row.key).state.forced ≡ true)
    × Way view keys held (inside up row (held row.key)) kids
    × Way view keys held up siblings

-- no view of the list is among these
abbrev pub Off : List ℕ → Forest Row → Type 0
Off keys list = (key : ℕ) → 0 < count_of_key key list → among key keys ≡ false

way_off : (view : ℕ) (keys : List ℕ) (held : ℕ → Held) (up : Around) (list : Forest Row) → Off keys list → count_of_key view list ≡ 0 → Way view keys held up list
way_off view keys held up Nothing off z = tt
way_off view keys held up (Branch row kids siblings) off z = (
  λ in_keys. absurd (both_ways _ (off row.key (times_self row kids siblings)) in_keys),
  λ out s. let few = reach_few view (Branch row kids Nothing) in absurd (omega arith),
  way_off view keys held (inside up row (held row.key)) kids (λ key here. off key (omega arith)) (omega arith),
  way_off view keys held up siblings (λ key here. off key (omega arith)) (omega arith),
)

-- the path up holds no view of another part
off_way : (view : ℕ) (held : ℕ → Held) (up : Around) (acc : List ℕ) (list other : Forest Row) → Clear view held acc list ⊎ Blocked view held up acc list
    → ((key : ℕ) → 0 < count_of_key key other → count_of_key key list ≡ 0) → Off acc other → Off (unforced held (around acc view list)) other
off_way view held up acc list other (inl i) apart off key y =
    subst (λ keys. among key keys ≡ false) (sym i.is) (among_append key i.inner _ (i.within key (apart key y)) (unforced_off key held acc (off key y)))
off_way view held up acc list other (inr j) apart off key y = j.within key (apart key y)

pub way : (view : ℕ) (keys : List ℕ) (held : ℕ → Held) (up : Around) (acc : List ℕ) (list : Forest Row) → ((key : ℕ) → count_of_key key list ≤ 1) → 0 < count_of_key view list
    → Forces held up.hidden list → keys ≡ view ∷ unforced held (around acc view list) → Off acc list → Way view keys held up list
way view keys held up acc Nothing once live forces e off = absurd (omega arith)
way view keys held up acc (Branch row kids siblings) once live forces e off = elim (cases_eq row.key view) [
  | inl i ↦
      let e' : keys ≡ view ∷ unforced held acc = e ∙ ap (λ path. view ∷ unforced held path) (around_here acc view row kids siblings i) in
      let m = own_more row kids siblings view i in
      let o = once view in
      let other : (key : ℕ) → 0 < count_of_key key kids + count_of_key key siblings → view ≡ key → ⊥ =
      λ key y n. let m2 = own_more row kids siblings key (i ∙ n) in let o2 = once key in absurd (omega arith) in
      let out : (key : ℕ) → 0 < count_of_key key kids + count_of_key key siblings → among key keys ≡ false =
      λ key y. ap (among key) e' ∙ among_later key view _ (other key y) (unforced_off key held acc (off key (omega arith))) in
      let own : among row.key keys ≡ true = ap (among row.key) e' ∙ ap (λ key. among row.key (key ∷ unforced held acc)) (sym i) ∙ among_first row.key (unforced held acc) in (
        λ in_keys. rw (eq-eqb row.key view i) (omega arith),
        λ out s flags. absurd (both_ways _ out own),
        way_off view keys held (inside up row (held row.key)) kids (λ key y. out key (omega arith)) (omega arith),
        way_off view keys held up siblings (λ key y. out key (omega arith)) (omega arith),
      )
  | inr ne ↦ elim (cases_eq (count_of_key view kids) 0) [
    | inl z ↦
        let p = left view row kids siblings ne live in
        let path = around_after acc view row kids siblings ne z in
        let e' : keys ≡ view ∷ unforced held (around acc view siblings) = e ∙ ap (λ path. view ∷ unforced held path) path in
        let step = way_out view held up acc siblings (λ key. let o = once key in omega arith) (omega arith) forces.2 in
        let none : count_of_key view (Branch row kids Nothing) ≡ 0 = let o = once view in omega arith in
        let out : Off keys (Branch row kids Nothing) = λ key y.
        ap (among key) e'
        ∙ among_later key view _ (λ n. let y' : 0 < count_of_key view (Branch row kids Nothing) = subst (λ key. 0 < count_of_key key (Branch row kids Nothing)) (sym n) y in absurd (omega arith))
        (off_way view held up acc siblings (Branch row kids Nothing) step (λ key y. let o = once key in omega arith) (λ key y. off key (omega arith)) key y) in
        let off_part = way_off view keys held up (Branch row kids Nothing) out none in (
          off_part.0,
          off_part.1,
          off_part.2,
          way view keys held up acc siblings (λ key. let o = once key in omega arith) (omega arith) forces.2 e' (λ key y. off key (omega arith)),
        )
    | inr nz ↦
        let path = around_below acc view row kids siblings ne nz in
        let p = more_than (count_of_key view kids) nz in
        let below = inside up row (held row.key) in
        let e' : keys ≡ view ∷ unforced held (around (row.key ∷ acc) view kids) = e ∙ ap (λ path. view ∷ unforced held path) path in
        let step = way_out view held below (row.key ∷ acc) kids (λ key. let o = once key in omega arith) p forces.1 in
        let apart : (key : ℕ) → row.key ≡ key → count_of_key key kids + count_of_key key siblings ≡ 0 = λ key i. let m = own_more row kids siblings key i in let o = once key in omega arith in
        let acc_off : (key : ℕ) → 0 < count_of_key key kids + count_of_key key siblings → among key (row.key ∷ acc) ≡ false =
        λ key y. among_later key row.key acc (λ i. let x = apart key i in absurd (omega arith)) (off key (omega arith)) in
        let out : Off keys siblings = λ key y.
        ap (among key) e'
        ∙ among_later key view _ (λ n. let y' : 0 < count_of_key view siblings = subst (λ key. 0 < count_of_key key siblings) (sym n) y in let o = once view in absurd (omega arith))
        (off_way view held below (row.key ∷ acc) kids siblings step (λ key y. let o = once key in omega arith) (λ key y. acc_off key (omega arith)) key y) in
        let za : count_of_key view siblings ≡ 0 = let o = once view in omega arith in
        let own_kids : count_of_key row.key kids ≡ 0 = let x = apart row.key refl in omega arith in
        let own = at_own e' step own_kids ne in (
          own.0,
          own.1,
          way view keys held below (row.key ∷ acc) kids (λ key. let o = once key in omega arith) p forces.1 e' (λ key y. acc_off key (omega arith)),
          way_off view keys held up siblings out za,
        )
  ]
]
  where
    at_own : keys ≡ view ∷ unforced held (around (row.key ∷ acc) view kids)
        → Clear view held (row.key ∷ acc) kids ⊎ Blocked view held (inside up row (held row.key)) (row.key ∷ acc) kids → count_of_key row.key kids ≡ 0 → (row.key ≡ view → ⊥)
        → (among row.key keys ≡ true → 0 < reach view (Branch row kids Nothing))
        × (among row.key keys ≡ false → 0 < reach view (Branch row kids Nothing) → FlagsAbove view held (inside up row (held row.key)) kids → (held row.key).state.forced ≡ true)
    at_own e' (inl i) own_kids ne = elim (cases_Bool (held row.key).state.forced) [
      | inl y ↦ (
        λ in_keys. absurd (both_ways _ (ap (among row.key) e' ∙ among_later row.key view _ (λ n. ne (sym n))
            (ap (among row.key) i.is ∙ among_append row.key i.inner _ (i.within row.key own_kids) (ap (among row.key) (stops_at held row.key acc y)))) in_keys),
        λ out s flags. y,
      )
      | inr n ↦ (
        λ in_keys. let m = reach_more view row kids Nothing (open_shown held up.hidden row forces.0 n) in let s = i.seen in omega arith,
        λ out. absurd (both_ways _ out (ap (among row.key) e' ∙ among_rest row.key view _ (ap (among row.key) i.is
            ∙ among_right row.key i.inner _ (ap (among row.key) (goes_on held row.key acc n) ∙ among_first row.key (unforced held acc))))),
      )
    ]
    at_own e' (inr j) own_kids ne = (
      λ in_keys. absurd (both_ways _ (ap (among row.key) e' ∙ among_later row.key view _ (λ n. ne (sym n)) (j.within row.key own_kids)) in_keys),
      λ out s flags. elim (cases_Bool (hidden_in up row)) [
        | inl h ↦ forces.0 h
        | inr h ↦ j.above flags (reach_shown view row kids Nothing ne refl s).1 h
      ],
    )
