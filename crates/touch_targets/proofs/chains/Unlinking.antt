-- What nodes hold once a target is taken out of its group.
use Rattle.std.proofs.Common.{◌≡◌, ◌≢◌, ◌<◌, ◌^◌, arith, ℕ, true, false, Bool, List, [], ◌∷◌, ◌++◌, Option, Some, None, option_map, refl, sym, ◌∙◌, ap, subst, inl, inr}
use Rattle.std.specs.Prelude.{◌==◌, ◌&&◌, if◌then◌else◌, is_none}
use Rattle.std.proofs.lemmas.Bool.{cases_Bool, cases_eq, eq-eqb, ne_eqb}
use Rattle.std.specs.List.{last_or}
use Rattle.slab.specs.Slab.{Slab, get}
use Rattle.touch_targets.specs.Nodes.{AreLinked, Chain, IsFollowing, IsLinked, caught_at, changed, has_slot, slots_by, relinked, view_of, without_slot}
use Rattle.touch_targets.specs.declared.node.Node.{Node}
use Rattle.touch_targets.proofs.chains.Chains.{StaysLinked, TargetOf, Was, are_linked, cases_Option, chain_stays, has_apart, has_cases, has_first, has_later, no_some, slots_are, slots_none, some_is, target_in, there, true_not_false, was}

abbrev pub is_at : Option ℕ → ℕ → Bool
is_at None x = false
is_at (Some p) x = x == p

-- what a node holds then
abbrev pub node_unlinked : ℕ → Option ℕ → ℕ → Option ℕ → ℕ → Node → Node
node_unlinked group previous slot next x node = record node {
  newest = if x == group && is_none previous then next else node.newest;
  group = if x == slot then None else node.group;
  next = if x == slot then None else (if is_at previous x then next else node.next);
  ids = if x == slot then 0 else node.ids;
}

first_goes : (b c : Bool) (next : Option ℕ) (o : Option Node)
    → (if c then option_map (λ (n : Node). record n { group = None; next = None; ids = 0 }) (if b then option_map (λ (n : Node). record n { newest = next }) o else o)
    else (if b then option_map (λ (n : Node). record n { newest = next }) o else o))
    ≡ option_map (λ (n : Node). record n {
      newest = if b && true then next else n.newest;
      group = if c then None else n.group;
      next = if c then None else n.next;
      ids = if c then 0 else n.ids;
    }) o
first_goes true true next None = refl
first_goes true true next (Some n) = refl
first_goes true false next None = refl
first_goes true false next (Some n) = refl
first_goes false true next None = refl
first_goes false true next (Some n) = refl
first_goes false false next None = refl
first_goes false false next (Some n) = refl

later_goes : (a b c : Bool) (next : Option ℕ) (o : Option Node)
    → (if c then option_map (λ (n : Node). record n { group = None; next = None; ids = 0 }) (if b then option_map (λ (n : Node). record n { next = next }) o else o)
    else (if b then option_map (λ (n : Node). record n { next = next }) o else o))
    ≡ option_map (λ (n : Node). record n {
      newest = if a && false then next else n.newest;
      group = if c then None else n.group;
      next = if c then None else (if b then next else n.next);
      ids = if c then 0 else n.ids;
    }) o
later_goes true true true next None = refl
later_goes true true true next (Some n) = refl
later_goes true true false next None = refl
later_goes true true false next (Some n) = refl
later_goes true false true next None = refl
later_goes true false true next (Some n) = refl
later_goes true false false next None = refl
later_goes true false false next (Some n) = refl
later_goes false true true next None = refl
later_goes false true true next (Some n) = refl
later_goes false true false next None = refl
later_goes false true false next (Some n) = refl
later_goes false false true next None = refl
later_goes false false true next (Some n) = refl
later_goes false false false next None = refl
later_goes false false false next (Some n) = refl

pub unlinked_at : (s0 s1 s2 : Slab Node) (group slot : ℕ) (previous next : Option ℕ)
    → ((x : ℕ) → get s1 x ≡ relinked (get s0) group previous next x)
    → ((x : ℕ) → get s2 x ≡ changed (get s1) slot (λ n. record n { group = None; next = None; ids = 0 }) x)
    → (x : ℕ) → get s2 x ≡ option_map (node_unlinked group previous slot next x) (get s0 x)
unlinked_at s0 s1 s2 group slot None next one two x = rw (two x, one x) (first_goes (x == group) (x == slot) next (get s0 x))
unlinked_at s0 s1 s2 group slot (Some p) next one two x = rw (two x, one x) (later_goes (x == group) (x == p) (x == slot) next (get s0 x))

-- what is among the slots before and after one
pub has_following : (p : ℕ) (front back : List ℕ) → has_slot p (front ++ p ∷ back) ≡ true
has_following p [] back = has_first p back
has_following p (q ∷ front) back = has_later q p (front ++ p ∷ back) (has_following p front back)

lacks_one : (p slot : ℕ) (front back : List ℕ) → has_slot p (front ++ slot ∷ back) ≡ false → has_slot p (front ++ back) ≡ false
lacks_one p slot [] back h = elim (cases_Bool (p == slot)) [ inl is ↦ true_not_false (rw is refl) h | inr is ↦ rw is at h ]
lacks_one p slot (q ∷ front) back h =
    elim (cases_Bool (p == q)) [ inl is ↦ true_not_false (rw is refl) h | inr is ↦ rw is (lacks_one p slot front back (rw is at h)) ]

pub without_absent : (slot : ℕ) (ps : List ℕ) → has_slot slot ps ≡ false → without_slot slot ps ≡ ps
without_absent slot [] h = refl
without_absent slot (q ∷ ps) h =
    elim (cases_eq q slot) [
      | inl e ↦ true_not_false (subst (λ r. has_slot r (q ∷ ps) ≡ true) e (has_first q ps)) h
      | inr ne ↦ rw (ne_eqb q slot ne) (ap (λ l. q ∷ l) (without_absent slot ps (rw (ne_eqb slot q (λ e. ne (sym e))) at h)))
    ]

has_without : (slot p : ℕ) (ps : List ℕ) → p ≢ slot → has_slot p ps ≡ true → has_slot p (without_slot slot ps) ≡ true
has_without slot p [] apart h = h
has_without slot p (q ∷ ps) apart h =
    elim (cases_eq q slot) [
      | inl e ↦
          let later : has_slot p ps ≡ true = elim (has_cases q p ps h) [ inl is ↦ absurd (apart (is ∙ e)) | inr later ↦ later ] in
          rw (eq-eqb q slot e) (has_without slot p ps apart later)
      | inr ne ↦
          elim (has_cases q p ps h) [
            | inl is ↦ rw (ne_eqb q slot ne) (subst (λ r. has_slot p (r ∷ without_slot slot ps) ≡ true) is (has_first p (without_slot slot ps)))
            | inr later ↦ rw (ne_eqb q slot ne) (has_later q p (without_slot slot ps) (has_without slot p ps apart later))
          ]
    ]

-- a slot that is there once among others leaves these
pub without_following : (at : ℕ → Option Node) (g : ℕ) (start : Option ℕ) (slot : ℕ) (front back : List ℕ) → Chain at g start (front ++ slot ∷ back)
    → without_slot slot (front ++ slot ∷ back) ≡ front ++ back
without_following at g start slot [] back c = rw (eq-eqb slot slot refl) (without_absent slot back c.1)
without_following at g start slot (q ∷ front) back c =
    let apart : slot ≢ q = has_apart q slot (front ++ slot ∷ back) (has_following slot front back) c.1 in
    rw (ne_eqb q slot (λ e. apart (sym e))) (ap (λ l. q ∷ l) (without_following at g c.2.next slot front back c.5))

-- the last of some slots is among them
record LastIn (o : Option ℕ) (ps : List ℕ) : Type 0 where
  slot : ℕ
  is : o ≡ Some slot
  there : has_slot slot ps ≡ true

last_in : (q : ℕ) (front back : List ℕ) → LastIn (last_or (Some q) front) ((q ∷ front) ++ back)
last_in q [] back = record { slot = q; is = refl; there = has_first q back }
last_in q (r ∷ front) back =
    let l = last_in r front back in
    record { slot = l.slot; is = l.is; there = has_later q l.slot ((r ∷ front) ++ back) l.there }

-- a link that led to the slot leads to what came after it
abbrev past : ℕ → Option ℕ → Option ℕ → Option ℕ
past slot next None = None
past slot next (Some p) = if p == slot then next else Some p

past_is : (slot : ℕ) (next start : Option ℕ) → start ≡ Some slot → past slot next start ≡ next
past_is slot next start e = rw (e, eq-eqb slot slot refl) refl

past_not : (slot p : ℕ) (next start : Option ℕ) → start ≡ Some p → p ≢ slot → past slot next start ≡ start
past_not slot p next start e apart = rw (e, ne_eqb p slot apart) refl

-- the slots of targets then
abbrev pub slots_unlinked : ℕ → ℕ → (ℕ → List ℕ) → ℕ → List ℕ
slots_unlinked group slot slots x = if x == group then without_slot slot (slots x) else slots x

module _
    (at new : ℕ → Option Node) (slots : ℕ → List ℕ) (group slot : ℕ) (previous : Option ℕ) (g k : Node)
    (linked : IsLinked at slots)
    (group_is : at group ≡ Some g)
    (slot_is : at slot ≡ Some k)
    (front back : List ℕ)
    (whole : slots group ≡ front ++ slot ∷ back)
    (before_is : last_or None front ≡ previous)
    (written : (x : ℕ) → new x ≡ option_map (node_unlinked group previous slot k.next x) (at x)) where
  now : (x : ℕ) (n : Node) → at x ≡ Some n → new x ≡ Some (node_unlinked group previous slot k.next x n)
  now x n h = written x ∙ ap (option_map (node_unlinked group previous slot k.next x)) h

  before : (x : ℕ) (m : Node) → new x ≡ Some m → Was (node_unlinked group previous slot k.next x) (at x) m
  before x m h = was (node_unlinked group previous slot k.next x) (at x) m (sym (written x) ∙ h)

  old : Chain at group g.newest (front ++ slot ∷ back)
  old = subst (Chain at group g.newest) whole (linked.chained group g group_is)

  stays : (p : ℕ) (n : Node) → p ≢ slot → is_at previous p ≡ false → at p ≡ Some n → StaysLinked n (new p)
  stays p n apart following h = record {
    node = node_unlinked group previous slot k.next p n;
    is = now p n h;
    group = rw (ne_eqb p slot apart) refl;
    next = rw (ne_eqb p slot apart, following) refl;
  }

  not_at : (o : Option ℕ) (p : ℕ) → ((b : ℕ) → o ≡ Some b → p ≢ b) → is_at o p ≡ false
  not_at None p apart = refl
  not_at (Some b) p apart = ne_eqb p b (apart b refl)

  -- the chain without the slot, from any of its slots on
  cut : (front : List ℕ) (start ahead : Option ℕ) → Chain at group start (front ++ slot ∷ back) → last_or ahead front ≡ previous
      → ((b : ℕ) → ahead ≡ Some b → has_slot b (front ++ slot ∷ back) ≡ false) → Chain new group (past slot k.next start) (front ++ back)
  cut [] start ahead c last apart =
      let same : c.2 ≡ k = some_is (sym c.3 ∙ slot_is) in
      let following : Chain at group k.next back = subst (λ (n : Node). Chain at group n.next back) same c.5 in
      subst (λ o. Chain new group o back) (sym (past_is slot k.next start c.0))
      (chain_stays at new group k.next back
      (λ p n has h. stays p n (has_apart slot p back has c.1)
      (not_at previous p (λ b e. has_apart b p (slot ∷ back) (has_later slot p back has) (apart b (last ∙ e)))) h)
      following)
  cut (p ∷ front) start ahead c last apart =
      let n = c.2 in
      let other : p ≢ slot = λ e. has_apart p slot (front ++ slot ∷ back) (has_following slot front back) c.1 (sym e) in
      let later = cut front n.next (Some p) c.5 last (λ b e. subst (λ r. has_slot r (front ++ slot ∷ back) ≡ false) (some_is e) c.1) in
      subst (λ o. Chain new group o (p ∷ front ++ back)) (sym (past_not slot p k.next start c.0 other)) (
        c.0,
        lacks_one p slot front back c.1,
        node_unlinked group previous slot k.next p n,
        now p n c.3,
        rw (ne_eqb p slot other) c.4,
        subst (λ o. Chain new group o (front ++ back)) (sym (rw (ne_eqb p slot other) (link p n front c.1 c.5 last))) later,
      )
    where
      link : (p : ℕ) (n : Node) (front : List ℕ) → has_slot p (front ++ slot ∷ back) ≡ false → Chain at group n.next (front ++ slot ∷ back) → last_or (Some p) front ≡ previous
          → (if is_at previous p then k.next else n.next) ≡ past slot k.next n.next
      link p n [] lacks c last = rw (sym last, eq-eqb p p refl) (sym (past_is slot k.next n.next c.0))
      link p n (q ∷ front) lacks c last =
          let l = last_in q front (slot ∷ back) in
          let apart : p ≢ l.slot = λ e. has_apart p l.slot ((q ∷ front) ++ slot ∷ back) l.there lacks (sym e) in
          let other : q ≢ slot = λ e. has_apart q slot (front ++ slot ∷ back) (has_following slot front back) c.1 (sym e) in
          rw (sym last, l.is, ne_eqb p l.slot apart) (sym (past_not slot q k.next n.next c.0 other))

  whole_cut : Chain new group (past slot k.next g.newest) (front ++ back)
  whole_cut = cut front g.newest None old before_is (λ b e. no_some refl e)

  -- both the slot and the one before it are targets of the group
  slot_target : TargetOf group (at slot)
  slot_target = target_in at group g.newest (front ++ slot ∷ back) slot old (has_following slot front back)

  previous_target : (p : ℕ) → previous ≡ Some p → TargetOf group (at p)
  previous_target p e = go front before_is old
    where
      go : (front : List ℕ) → last_or None front ≡ previous → Chain at group g.newest (front ++ slot ∷ back) → TargetOf group (at p)
      go [] last c = no_some (sym last) e
      go (q ∷ front) last c =
          let l = last_in q front (slot ∷ back) in
          let is : l.slot ≡ p = some_is (sym l.is ∙ last ∙ e) in
          target_in at group g.newest ((q ∷ front) ++ slot ∷ back) p c (subst (λ r. has_slot r ((q ∷ front) ++ slot ∷ back) ≡ true) is l.there)

  not_target : (p q : ℕ) (n : Node) → at p ≡ Some n → n.group ≢ Some group → TargetOf group (at q) → p ≢ q
  not_target p q n h apart t e = apart (ap (λ (n : Node). n.group) (some_is (sym h ∙ ap at e ∙ t.is)) ∙ t.group)

  other_stays : (p : ℕ) (n : Node) → at p ≡ Some n → n.group ≢ Some group → (p ≢ slot) × (is_at previous p ≡ false)
  other_stays p n h apart =
      (not_target p slot n h apart slot_target, not_at previous p (λ b e. not_target p b n h apart (previous_target b e)))

  start_is : (if is_none previous then k.next else g.newest) ≡ past slot k.next g.newest
  start_is = go front before_is old
    where
      go : (front : List ℕ) → last_or None front ≡ previous → Chain at group g.newest (front ++ slot ∷ back)
          → (if is_none previous then k.next else g.newest) ≡ past slot k.next g.newest
      go [] last c = rw (sym last) (sym (past_is slot k.next g.newest c.0))
      go (q ∷ front) last c =
          let l = last_in q front (slot ∷ back) in
          let other : q ≢ slot = λ e. has_apart q slot (front ++ slot ∷ back) (has_following slot front back) c.1 (sym e) in
          rw (sym last, l.is) (sym (past_not slot q k.next g.newest c.0 other))

  group_chain : (n : Node) → at group ≡ Some n → Chain new group (if group == group && is_none previous then k.next else n.newest) (slots_unlinked group slot slots group)
  group_chain n h =
      let same : g ≡ n = some_is (sym group_is ∙ h) in
      let left : without_slot slot (slots group) ≡ front ++ back = ap (without_slot slot) whole ∙ without_following at group g.newest slot front back old in
      subst (λ (n : Node). Chain new group (if group == group && is_none previous then k.next else n.newest) (slots_unlinked group slot slots group)) same
      (rw (eq-eqb group group refl, left, start_is) whole_cut)

  other_chain : (x : ℕ) (n : Node) → x ≢ group → at x ≡ Some n → Chain new x n.newest (slots x)
  other_chain x n apart h =
      chain_stays at new x n.newest (slots x)
      (λ p m has i.
      let t = target_in at x n.newest (slots x) p (linked.chained x n h) has in
      let own : m.group ≡ Some x = ap (λ (n : Node). n.group) (some_is (sym i ∙ t.is)) ∙ t.group in
      let s = other_stays p m i (λ e. apart (some_is (sym own ∙ e))) in
      stays p m s.0 s.1 i)
      (linked.chained x n h)

  -- a target that is left was one before
  left_target : (p x : ℕ) (n : Node) → (if p == slot then None else n.group) ≡ Some x → (p ≢ slot) × (n.group ≡ Some x)
  left_target p x n own =
      elim (cases_eq p slot) [
        | inl e ↦ no_some (rw (eq-eqb p slot e) refl) own
        | inr ne ↦ (ne, rw (ne_eqb p slot ne) at own)
      ]

  pub unlinked : IsLinked new (slots_unlinked group slot slots)
  unlinked = record {
    chained = λ x m h.
        let w = before x m h in
        subst (λ (m : Node). Chain new x m.newest (slots_unlinked group slot slots x)) w.now
        (elim (cases_eq x group) [
          | inl e ↦ subst (λ x. Chain new x (if x == group && is_none previous then k.next else w.value.newest) (slots_unlinked group slot slots x)) (sym e)
              (group_chain w.value (ap at (sym e) ∙ w.is))
          | inr ne ↦ rw (ne_eqb x group ne) (other_chain x w.value ne w.is)
        ]);
    member = λ p x m h i.
        let w = before p m h in
        let l = left_target p x w.value (ap (λ (m : Node). m.group) w.now ∙ i) in
        let o = linked.member p x w.value w.is l.1 in
        let t = there (at x) o.0 in (
          rw (now x t.value t.is) refl,
          elim (cases_Bool (x == group)) [
            | inl is ↦ rw is (has_without slot p (slots x) l.0 o.1)
            | inr is ↦ rw is o.1
          ],
        );
    free = λ p m h none.
        let w = before p m h in
        let own : (if p == slot then None else w.value.group) ≡ None = ap (λ (m : Node). m.group) w.now ∙ none in
        subst (λ (m : Node). (m.next ≡ None) × (m.ids ≡ 0)) w.now
        (elim (cases_eq p slot) [
          | inl e ↦ rw (eq-eqb p slot e) (refl, refl)
          | inr ne ↦
              let freed : w.value.group ≡ None = rw (ne_eqb p slot ne) at own in
              let s = other_stays p w.value w.is (λ e. no_some freed e) in
              rw (ne_eqb p slot ne, s.1) (linked.free p w.value w.is freed)
        ]);
    held = λ p x m h i.
        let w = before p m h in
        let l = left_target p x w.value (ap (λ (m : Node). m.group) w.now ∙ i) in
        subst (λ (m : Node). m.ids ≢ 0) w.now (rw (ne_eqb p slot l.0) (linked.held p x w.value w.is l.1));
    fits = λ p m h.
        let w = before p m h in
        subst (λ (m : Node). m.ids < 2 ^ 32) w.now
        (elim (cases_eq p slot) [
          | inl e ↦ rw (eq-eqb p slot e) (omega arith)
          | inr ne ↦ rw (ne_eqb p slot ne) (linked.fits p w.value w.is)
        ]);
    small = λ p m h. let w = before p m h in linked.small p w.value w.is;
    single = λ p q m n h i same.
        let v = before p m h in
        let w = before q n i in
        linked.single p q v.value w.value v.is w.is (ap (λ (m : Node). m.view) v.now ∙ same ∙ sym (ap (λ (m : Node). m.view) w.now));
  }

-- the same of slabs
pub are_unlinked : (s t : Slab Node) (group slot : ℕ) (previous : Option ℕ) (g k : Node) → AreLinked s → get s group ≡ Some g → get s slot ≡ Some k
    → IsFollowing previous slot (slots_by s group) → ((x : ℕ) → get t x ≡ option_map (node_unlinked group previous slot k.next x) (get s x)) → AreLinked t
are_unlinked s t group slot previous g k linked group_is slot_is following written =
    are_linked t _ (unlinked (get s) (get t) (slots_by s) group slot previous g k linked group_is slot_is following.front following.back following.whole following.before written)

pub slots_unlinked_by : (s t : Slab Node) (group slot : ℕ) (previous : Option ℕ) (g k : Node) → AreLinked s → get s group ≡ Some g → get s slot ≡ Some k
    → IsFollowing previous slot (slots_by s group) → ((x : ℕ) → get t x ≡ option_map (node_unlinked group previous slot k.next x) (get s x))
    → (x : ℕ) → slots_by t x ≡ (if x == group then without_slot slot (slots_by s x) else slots_by s x)
slots_unlinked_by s t group slot previous g k linked group_is slot_is following written x =
    elim (cases_Option (get s x)) [
      | inl none ↦
          let apart : x ≢ group = λ e. no_some (ap (get s) (sym e) ∙ none) group_is in
          let gone : get t x ≡ None = written x ∙ ap (option_map (node_unlinked group previous slot k.next x)) none in
          rw (ne_eqb x group apart, slots_none s x none, slots_none t x gone) refl
      | inr there ↦
          let now : get t x ≡ Some (node_unlinked group previous slot k.next x there.value) =
          written x ∙ ap (option_map (node_unlinked group previous slot k.next x)) there.is in
          slots_are t _ (unlinked (get s) (get t) (slots_by s) group slot previous g k linked group_is slot_is following.front following.back following.whole following.before written) x _ now
    ]

pub views_unlinked : (s t : Slab Node) (group slot : ℕ) (previous next : Option ℕ) → ((x : ℕ) → get t x ≡ option_map (node_unlinked group previous slot next x) (get s x))
    → (x : ℕ) → view_of (get t x) ≡ view_of (get s x)
views_unlinked s t group slot previous next written x = ap view_of (written x) ∙ same (get s x)
  where
    same : (o : Option Node) → view_of (option_map (node_unlinked group previous slot next x) o) ≡ view_of o
    same None = refl
    same (Some n) = refl

pub others_unlinked : (s t : Slab Node) (group slot : ℕ) (previous next : Option ℕ) → ((x : ℕ) → get t x ≡ option_map (node_unlinked group previous slot next x) (get s x))
    → (x : ℕ) → x ≢ slot → caught_at (get t x) ≡ caught_at (get s x)
others_unlinked s t group slot previous next written x apart = ap caught_at (written x) ∙ same (get s x)
  where
    same : (o : Option Node) → caught_at (option_map (node_unlinked group previous slot next x) o) ≡ caught_at o
    same None = refl
    same (Some n) = rw (ne_eqb x slot apart) refl

-- a slot after another is that of a target
pub after_there : (s : Slab Node) (group slot : ℕ) (previous : Option ℕ) (g : Node) → AreLinked s → get s group ≡ Some g → IsFollowing previous slot (slots_by s group)
    → TargetOf group (get s slot)
after_there s group slot previous g linked group_is following =
    target_in (get s) group g.newest (slots_by s group) slot (linked.chained group g group_is)
    (subst (λ l. has_slot slot l ≡ true) (sym following.whole) (has_following slot following.front following.back))

pub previous_there : (s : Slab Node) (group slot : ℕ) (previous : Option ℕ) (g : Node) → AreLinked s → get s group ≡ Some g → IsFollowing previous slot (slots_by s group)
    → (p : ℕ) → previous ≡ Some p → TargetOf group (get s p)
previous_there s group slot previous g linked group_is following p e = go following.front following.whole following.before
  where
    go : (front : List ℕ) → slots_by s group ≡ front ++ slot ∷ following.back → last_or None front ≡ previous → TargetOf group (get s p)
    go [] whole last = no_some (sym last) e
    go (q ∷ front) whole last =
        let l = last_in q front (slot ∷ following.back) in
        let is : l.slot ≡ p = some_is (sym l.is ∙ last ∙ e) in
        target_in (get s) group g.newest (slots_by s group) p (linked.chained group g group_is)
        (subst (λ m. has_slot p m ≡ true) (sym whole) (subst (λ r. has_slot r ((q ∷ front) ++ slot ∷ following.back) ≡ true) is l.there))
