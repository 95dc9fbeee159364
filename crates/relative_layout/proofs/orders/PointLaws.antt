-- Where points lead, and that children lead to one another if they reach one another.
use Rattle.std.proofs.Common.{◌≡◌, ◌⊎◌, ℕ, zero, suc, ◌+◌, ◌-◌, ◌<◌, ◌≤◌, Bool, true, false, List, [], ◌∷◌, length, get_or, Option, Some, None, refl, sym, ap, ◌∙◌, arith, inl, inr}
use Rattle.std.specs.Prelude.{nat_lt}
use Rattle.std.proofs.lemmas.Bool.{cases_lt}
use Rattle.std.proofs.lemmas.Bool.Decides.{nat_tests}
use Rattle.std.proofs.lemmas.List.{get_or_past}
use Rattle.relative_layout.proofs.orders.Counting.{cases_eq}
use Rattle.relative_layout.proofs.orders.NamingLaws.{last_is, leads_from, leads_inside, leads_parts, leads_whole, named_some, none_is}
use Rattle.relative_layout.proofs.orders.OrderLaws.{reach_both}
use Rattle.relative_layout.specs.ordering.Naming.{AreNamers, Has, id_at, link_at, row_at}
use Rattle.relative_layout.specs.ordering.Components.{AreMarked, IsReported, status_of}
use Rattle.relative_layout.specs.ordering.Points.{Circles, Goes, Stays, Steps, heads_of, id_point}
use Rattle.relative_layout.specs.ordering.Topological.{is_marked}
use Rattle.relative_layout.specs.declared.ordering.components.Status.{Status}
use Rattle.relative_layout.specs.declared.ordering.components.Status.TheVariants.{Done}
use Rattle.view_model.specs.declared.relative.Axis.{Axis}
use Rattle.view_model.specs.declared.relative.Link.{Link}
use Rattle.view_model.specs.Orders.{Reaches, AtOnce, Through}
use Rattle.view_model.specs.SiblingRules.{last_with_id, leads, names}

-- one path after the other
pub goes_both : {heads : ℕ → List ℕ} {a b c : ℕ} → Goes heads a b → Goes heads b c → Goes heads a c
goes_both Stays v = v
goes_both (Steps e w) v = Steps e (goes_both w v)

-- what holds of a point and of all to which such points lead holds wherever it leads
pub goes_on : {heads : ℕ → List ℕ} (P : ℕ → Type 0) → ((a b : ℕ) → P a → Has (heads a) b → P b) → {a b : ℕ} → P a → Goes heads a b → P b
goes_on P next here Stays = here
goes_on P next here (Steps e w) = goes_on P next (next _ _ here e) w

pub heads-child : (kids : List Link) (rows : List (List ℕ)) (point : ℕ) → point < length kids → heads_of kids rows point ≡ id_point (length kids) (last_with_id kids (id_at kids point))
unfolding heads_of
heads-child kids rows point h = let t : nat_lt point (length kids) ≡ true = grind (arith, nat_tests) in rw t refl

pub heads-id : (kids : List Link) (rows : List (List ℕ)) (point : ℕ) → length kids ≤ point → heads_of kids rows point ≡ row_at rows (point - length kids)
unfolding heads_of
heads-id kids rows point h = let f : nat_lt point (length kids) ≡ false = grind (arith, nat_tests) in rw f refl

one_of : (a b p : ℕ) → p < 1 → get_or (a ∷ []) p 0 ≡ b → b ≡ a
one_of a b zero h e = sym e
one_of a b (suc p) h e = absurd (omega arith)

-- the one point of an id
has_id : (count : ℕ) (last : Option ℕ) (b : ℕ) → Has (id_point count last) b → (q : ℕ) × (last ≡ Some q) × (b ≡ count + q)
has_id count None b has = absurd (let h = has.1 in omega arith)
has_id count (Some q) b has = (q, refl, one_of (count + q) b has.0 (let h = has.1 in omega arith) has.2)

pub heads_inside : (axis : Axis) (kids : List Link) (rows : List (List ℕ)) (a b : ℕ) → AreNamers axis kids (length kids) rows → Has (heads_of kids rows a) b → b < length kids + length kids
heads_inside axis kids rows a b naming has = elim (cases_lt a (length kids)) [
  | inl child ↦
      let q = has_id (length kids) (last_with_id kids (id_at kids a)) b (rw (heads-child kids rows a child) at has) in
      let is = last_is kids (id_at kids a) q.0 q.1 in
      omega (arith, is.inside, q.2)
  | inr id ↦
      let row : Has (row_at rows (a - length kids)) b = rw (heads-id kids rows a id) at has in
      let at = naming.inside (a - length kids) row.0 row.1 in
      let it : b < length kids = rw row.2 at at in
      omega arith
]

-- a child that is named leads to the ones that name it
leads_last : (axis : Axis) (kids : List Link) (rows : List (List ℕ)) (a b : ℕ) (last : Option ℕ) → last ≡ last_with_id kids (id_at kids b) → AreNamers axis kids (length kids) rows
    → leads axis kids a b ≡ true → Goes (heads_of kids rows) b a
leads_last axis kids rows a b None found naming led =
    absurd (none_is kids (id_at kids b) b (sym found) (named_some axis (link_at kids a).rules (id_at kids b) (leads_parts axis kids a b led).1) (leads_inside axis kids a b led) refl)
leads_last axis kids rows a b (Some last) found naming led =
    let count : ℕ = length kids in
    let is = last_is kids (id_at kids b) last (sym found) in
    let here : last_with_id kids (id_at kids last) ≡ Some last = rw is.has (sym found) in
    let row : Has (row_at rows last) a = naming.whole last a (leads_from axis kids a b led) here (rw is.has (leads_parts axis kids a b led).1) in
    let back : count + last - count ≡ last = omega arith in
    let second : Has (heads_of kids rows (count + last)) a = rw (heads-id kids rows (count + last) (omega arith), back) row in
    let first : Has (heads_of kids rows b) (count + last) = rw (heads-child kids rows b (leads_inside axis kids a b led), sym found) (0, omega arith, refl) in
    Steps first (Steps second Stays)

reaches_goes : (axis : Axis) (kids : List Link) (rows : List (List ℕ)) → AreNamers axis kids (length kids) rows → {a b : ℕ} → Reaches (leads axis kids) a b → Goes (heads_of kids rows) b a
reaches_goes axis kids rows naming (AtOnce e) = leads_last axis kids rows _ _ _ refl naming e
reaches_goes axis kids rows naming (Through e w) = goes_both (reaches_goes axis kids rows naming w) (leads_last axis kids rows _ _ _ refl naming e)

-- a child is another one, or reaches it
abbrev pub IsOrReaches : Axis → List Link → ℕ → ℕ → Type 0
IsOrReaches axis kids a b = (a ≡ b) ⊎ Reaches (leads axis kids) a b

-- the relation of a child to a point that leads to it: it is that child or reaches it, or all that have that id
record IsAtOrReaches (axis : Axis) (kids : List Link) (child point : ℕ) : Type 0 where
  pub of_child : point < length kids → IsOrReaches axis kids child point
  pub of_id : length kids ≤ point → (b : ℕ) → b < length kids → last_with_id kids (id_at kids b) ≡ Some (point - length kids) → IsOrReaches axis kids child b

reach_next : (axis : Axis) (kids : List Link) (a b c : ℕ) → IsOrReaches axis kids a b → names axis (link_at kids b).rules (id_at kids c) ≡ true → IsOrReaches axis kids a c
reach_next axis kids a b c was named = elim (cases_eq b c) [
  | inl same ↦ rw (← same) was
  | inr ne ↦
      let led : leads axis kids b c ≡ true = leads_whole axis kids b c ne named in
      elim was [ inl same ↦ inr (rw same (AtOnce led)) | inr way ↦ inr (reach_both way (AtOnce led)) ]
]

Follows-step : (axis : Axis) (kids : List Link) (rows : List (List ℕ)) (child a b : ℕ) → AreNamers axis kids (length kids) rows → Has (heads_of kids rows a) b
    → IsAtOrReaches axis kids child b → IsAtOrReaches axis kids child a
Follows-step axis kids rows child a b naming has follows = record {
  of_child = λ small.
      let q = has_id (length kids) (last_with_id kids (id_at kids a)) b (rw (heads-child kids rows a small) at has) in
      let back : b - length kids ≡ q.0 = omega (arith, q.2) in
      follows.of_id (omega (arith, q.2)) a small (q.1 ∙ ap Some (sym back));
  of_id = λ large c inside found.
      let row : Has (row_at rows (a - length kids)) b = rw (heads-id kids rows a large) at has in
      let fits : b < length kids = (let at = naming.inside (a - length kids) row.0 row.1 in rw row.2 at at) in
      let is = last_is kids (id_at kids c) (a - length kids) found in
      let sound = naming.sound (a - length kids) row.0 row.1 in
      let named : names axis (link_at kids b).rules (id_at kids c) ≡ true = rw (row.2, is.has) at sound in
      reach_next axis kids child b c (follows.of_child fits) named;
}

goes_follows : (axis : Axis) (kids : List Link) (rows : List (List ℕ)) → AreNamers axis kids (length kids) rows → {child point : ℕ} → child < length kids → Goes (heads_of kids rows) point child → IsAtOrReaches axis kids child point
goes_follows axis kids rows naming small Stays = record { of_child = λ h. inl refl; of_id = λ large b h found. absurd (omega arith) }
goes_follows axis kids rows naming small (Steps e w) = Follows-step axis kids rows _ _ _ naming e (goes_follows axis kids rows naming small w)

marked_inside : (marks : List Bool) (place : ℕ) → is_marked marks place ≡ true → place < length marks
marked_inside marks place t = elim (cases_lt place (length marks)) [
  | inl lt ↦ lt
  | inr le ↦ absurd (let f : is_marked marks place ≡ false = get_or_past marks place false le in let bad : true ≡ false = sym t ∙ f in cc)
]

-- a child that leads to another child and back reaches itself
circles_reaches : (axis : Axis) (kids : List Link) (rows : List (List ℕ)) (place : ℕ) → AreNamers axis kids (length kids) rows → place < length kids
    → Circles (heads_of kids rows) (length kids) place → Reaches (leads axis kids) place place
circles_reaches axis kids rows place naming small circles =
    let other = circles.0 in
    let to = (goes_follows axis kids rows naming circles.1 circles.3).of_child small in
    let from = (goes_follows axis kids rows naming small circles.4).of_child circles.1 in
    elim to [
      | inl same ↦ absurd (circles.2 same)
      | inr there ↦ elim from [ inl same ↦ absurd (circles.2 (sym same)) | inr back ↦ reach_both back there ]
    ]

reaches_circles : (axis : Axis) (kids : List Link) (rows : List (List ℕ)) → AreNamers axis kids (length kids) rows → (place end : ℕ) → end ≡ place → Reaches (leads axis kids) place end
    → Circles (heads_of kids rows) (length kids) place
reaches_circles axis kids rows naming place end same (AtOnce e) = absurd ((leads_parts axis kids place end e).0 (sym same))
reaches_circles axis kids rows naming place end same (Through {b = b} e w) =
    let goes : Goes (heads_of kids rows) end b = reaches_goes axis kids rows naming w in
    (b, leads_inside axis kids place b e, (λ is. (leads_parts axis kids place b e).0 (sym is)), rw same at goes, leads_last axis kids rows place b _ refl naming e)

-- once all is done
pub AreMarked-done : (axis : Axis) (kids : List Link) (rows : List (List ℕ)) (status : List Status) (marks : List Bool) → AreNamers axis kids (length kids) rows
    → ((place : ℕ) → place < length kids → status_of status place ≡ Done) → IsReported (heads_of kids rows) (length kids) status marks → AreMarked (leads axis kids) (length kids) marks
AreMarked-done axis kids rows status marks naming done reported = record {
  sound = λ place t. circles_reaches axis kids rows place naming (let h = marked_inside marks place t in omega (arith, reported.size)) (reported.sound place t);
  whole = λ place small way. reported.whole place small (done place small) (reaches_circles axis kids rows naming place place refl way);
}
