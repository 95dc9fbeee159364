-- The turn of a child in a phase of its group's measuring.
use Rattle.std.proofs.Common.{◌≡◌, ℕ, ◌+◌, true, false, Option, Some, None, List, [], ◌∷◌, ◌++◌, arith, ap, ◌∙◌, sym, refl, subst}
use Rattle.std.specs.Prelude.{if◌then◌else◌, unwrap_or}
use Rattle.std.specs.Option.{option_map}
use Rattle.std.proofs.lemmas.List.{append-nil}
use Rattle.geom_core.specs.declared.geometry.Size.{Size}
use Rattle.geom_core.specs.declared.measuring.Spec.{Spec}
use Rattle.measure_pass.specs.Courses.{AfterPhase, CanTurn, InCourse, MeasuredFor, calls_for, child_of, has_requests, turn_calls}
use Rattle.measure_pass.specs.Caches.{Among, AskedAt}
use Rattle.kept_views.specs.Kept.{IsSized, Sized}
use Rattle.measure_pass.specs.Measured.{Costs, calls_under, size_under}
use Rattle.measure_pass.specs.Plans.{RuledView, GroupPlan, Represents, rule_in}
use Rattle.measure_pass.proofs.Counts.{costs_nothing, costs_same}
use Rattle.measure_pass.specs.Sharing.{MeasuringTrace}
use Rattle.measure_pass.proofs.held.Grows.{Among-last}
use Rattle.measure_pass.proofs.Shares.{trace-first, trace-refl}
use Rattle.view_model.specs.declared.facts.Facts.{Facts}
use Rattle.view_model.specs.Course.{Child, Requested, after_turn, asked_for, last_of, measured_of, size_after, size_in, sizes_of}
use Rattle.view_model.specs.Facts.{is_shown}
use Rattle.view_model.specs.Forest.{Forest, Nothing, Branch}
use Rattle.view_model.specs.Layout.{measured_size}
use Rattle.view_model.specs.Measuring.{Measured, Specs, counted_as, pair_of, taken_as}
use Rattle.view_tree.specs.Rows.{Row, views_of}
use Rattle.view_tree.specs.Views.{Held, specs_of}

last_of-push : (first : Specs) (more : List Specs) (specs : Specs) → last_of first (more ++ specs ∷ []) ≡ specs
last_of-push first [] specs = refl
last_of-push first (next ∷ more) specs = last_of-push next more specs

size_after-push : (child : Child) (requests : List Specs) (specs : Specs) → size_after child (requests ++ specs ∷ []) ≡ child.measure specs
size_after-push child [] specs = refl
size_after-push child (first ∷ more) specs = ap child.measure (last_of-push first more specs)

MeasuredFor-push : (held : ℕ → Held) (row : Row) (kids : Forest Row) (requests : List Specs) (specs : Specs) → specs_of (held row.key).state ≡ specs → IsSized held (held row.key) row kids
    → ((held row.key).state.measure_first ≡ false → Sized held kids) → MeasuredFor held row kids (requests ++ specs ∷ [])
MeasuredFor-push held row kids [] specs last sized below = (last, sized, below)
MeasuredFor-push held row kids (first ∷ more) specs last sized below = (last ∙ sym (last_of-push first more specs), sized, below)

-- the size that is kept of a child is that of what was asked of it last
present_size : (held : ℕ → Held) (row : Row) (kids : Forest Row) (child : Child) (requests : List Specs) → child ≡ child_of row kids → MeasuredFor held row kids requests
    → has_requests requests ≡ true → (held row.key).state.measured ≡ size_after child requests
present_size held row kids child [] is m has = let e : true ≡ false = sym has in absurd (cc)
present_size held row kids child (first ∷ more) is m has =
    m.1.size ∙ ap (measured_size row.view (views_of kids)) m.0 ∙ ap (λ (child : Child). child.measure (last_of first more)) (sym is)

-- a turn that trace this of a child
turned_to : (plan : GroupPlan) (group : RuledView) (past : List (List Measured)) (taken : List Measured) (kid next : Requested) (before held : ℕ → Held) (list : Forest Row) (old new : ℕ)
    → after_turn ((rule_in group).ask past) taken kid ≡ next → Represents plan group past (taken ++ size_in next) → InCourse held list (next ∷ [])
    → Costs list before held old (turn_calls ((rule_in group).ask past) taken kid) new → MeasuringTrace (AskedAt (next ∷ [])) (λ place. 1) before held list old new
    → AfterPhase plan group past taken (kid ∷ []) before held list old new
turned_to plan group past taken kid next before held list old new is represents course costs trace =
    let calls = turn_calls ((rule_in group).ask past) taken kid in
    let P : Requested → Type 0 = λ next. Represents plan group past (taken ++ sizes_of (next ∷ [])) in
    record {
      plan_represents = subst P (sym is) (subst (λ sizes. Represents plan group past (taken ++ sizes)) (sym (append-nil (size_in next))) represents);
      course = subst (λ next. InCourse held list (next ∷ [])) (sym is) course;
      costs = costs_same list before held old calls (calls + 0) new (omega arith) costs;
      trace = subst (λ next. MeasuringTrace (AskedAt (next ∷ [])) (λ place. 1) before held list old new) (sym is) trace;
    }

pub gone_row : (plan : GroupPlan) (group : RuledView) (past : List (List Measured)) (taken : List Measured) (row : Row) (kids : Forest Row) (asked : List Requested) (held : ℕ → Held)
    (count : ℕ) → is_shown row.view.facts ≡ false → Represents plan group past taken → InCourse held (Branch row kids Nothing) asked
    → AfterPhase plan group past taken asked held held (Branch row kids Nothing) count count
gone_row plan group past taken row kids [] held count gone represents course = absurd course
gone_row plan group past taken row kids (kid ∷ other ∷ more) held count gone represents course = absurd course.2
gone_row plan group past taken row kids (kid ∷ []) held count gone represents course =
    let ask = (rule_in group).ask past in
    let gone' : is_shown kid.child.facts ≡ false = ap (λ (child : Child). is_shown child.facts) course.0 ∙ gone in
    turned_to plan group past taken kid kid held held (Branch row kids Nothing) count count
    (ap (λ b. if b then asked_for (ask taken (measured_of kid)) kid else kid) gone')
    (subst (λ sizes. Represents plan group past (taken ++ sizes)) (sym (ap (λ b. if b then measured_of kid ∷ [] else []) gone'))
    (subst (λ all. Represents plan group past all) (sym (append-nil taken)) represents))
    course
    (costs_same (Branch row kids Nothing) held held count 0 (turn_calls ask taken kid) count
    (ap (λ b. if b then calls_for (ask taken (measured_of kid)) kid.child else 0) gone') (costs_nothing (Branch row kids Nothing) held count))
    (trace-refl (AskedAt (kid ∷ [])) (λ place. 1) held (Branch row kids Nothing) count)

none_of : {A B : Type 0} (f : A → B) (o : Option A) → None ≡ option_map f o → o ≡ None
none_of f None e = refl
none_of f (Some x) e = absurd (cc)

some_of : (a : Specs) (o : Option Specs) → Some (pair_of a) ≡ option_map pair_of o → o ≡ Some a
some_of a None e = absurd (cc)
some_of a (Some b) e =
    let p : pair_of b ≡ pair_of a = sym (ap (λ (o : Option (Spec × Spec)). unwrap_or o (pair_of a)) e) in
    ap (λ (p : Spec × Spec). let s : Specs = record { across = p.0; down = p.1 } in Some s) p

-- a child that its group trace out in this phase
pub left_row : (plan : GroupPlan) (group : RuledView) (past : List (List Measured)) (taken : List Measured) (row : Row) (kids : Forest Row) (asked : List Requested) (held : ℕ → Held)
    (present : Size) (count : ℕ) → is_shown row.view.facts ≡ true → present ≡ (held row.key).state.measured
    → None ≡ option_map pair_of ((rule_in group).ask past taken (record { facts = (child_of row kids).facts; size = present }))
    → Represents plan group past (taken ++ taken_as (rule_in group) past taken (child_of row kids).facts present ∷ []) → InCourse held (Branch row kids Nothing) asked
    → CanTurn (rule_in group) past asked
    → AfterPhase plan group past taken asked held held (Branch row kids Nothing) count count
left_row plan group past taken row kids [] held present count here present_is answer represents course can = absurd course
left_row plan group past taken row kids (kid ∷ other ∷ more) held present count here present_is answer represents course can = absurd course.2
left_row plan group past taken row kids (kid ∷ []) held present count here present_is answer represents course can =
    let rule = rule_in group in
    let ask = rule.ask past in
    let here' : is_shown kid.child.facts ≡ true = ap (λ (child : Child). is_shown child.facts) course.0 ∙ here in
    let known = can.0 here' in
    let facts_same : (child_of row kids).facts ≡ kid.child.facts = ap (λ (child : Child). child.facts) (sym course.0) in
    let right : has_requests kid.requests ≡ true → present ≡ size_after kid.child kid.requests =
    λ has. present_is ∙ present_size held row kids kid.child kid.requests course.0 course.1 has in
    let unasked : ask taken (record { facts = (child_of row kids).facts; size = present }) ≡ None = none_of pair_of _ answer in
    let unasked' : ask taken (record { facts = kid.child.facts; size = present }) ≡ None = rw facts_same at unasked in
    let none : ask taken (measured_of kid) ≡ None = sym (known.asked taken present right) ∙ unasked' in
    let same : taken_as rule past taken kid.child.facts present ≡ measured_of kid =
    ap (λ (size : Size). let m : Measured = record { facts = kid.child.facts; size = size } in m)
    (ap (λ answer. counted_as past answer present) unasked' ∙ known.left taken present right none) in
    let P : Facts → Type 0 = λ facts. Represents plan group past (taken ++ taken_as rule past taken facts present ∷ []) in
    turned_to plan group past taken kid kid held held (Branch row kids Nothing) count count
    (ap (λ b. if b then asked_for (ask taken (measured_of kid)) kid else kid) here' ∙ ap (λ answer. asked_for answer kid) none)
    (subst (λ sizes. Represents plan group past (taken ++ sizes)) (ap (λ m. m ∷ []) same ∙ sym (ap (λ b. if b then measured_of kid ∷ [] else []) here'))
    (subst P facts_same represents))
    course
    (costs_same (Branch row kids Nothing) held held count 0 (turn_calls ask taken kid) count
    (ap (λ b. if b then calls_for (ask taken (measured_of kid)) kid.child else 0) here' ∙ ap (λ answer. calls_for answer kid.child) none)
    (costs_nothing (Branch row kids Nothing) held count))
    (trace-refl (AskedAt (kid ∷ [])) (λ place. 1) held (Branch row kids Nothing) count)

-- a child that was measured in this phase
pub asked_row : (plan : GroupPlan) (group : RuledView) (past : List (List Measured)) (taken : List Measured) (row : Row) (kids siblings : Forest Row) (asked : List Requested)
    (before held : ℕ → Held) (present size : Size) (specs : Specs) (old new : ℕ)
    → is_shown row.view.facts ≡ true → present ≡ (before row.key).state.measured
    → Some (pair_of specs) ≡ option_map pair_of ((rule_in group).ask past taken (record { facts = (child_of row kids).facts; size = present }))
    → size ≡ size_under (Branch row kids siblings) specs → Sized held (Branch row kids Nothing) → specs_of (held row.key).state ≡ specs
    → Represents plan group past (taken ++ taken_as (rule_in group) past taken (child_of row kids).facts size ∷ []) → Costs (Branch row kids Nothing) before held old (calls_under (Branch row kids siblings) specs) new
    → MeasuringTrace (λ place other. other ≡ specs) (λ place. 1) before held (Branch row kids Nothing) old new
    → InCourse before (Branch row kids Nothing) asked
    → CanTurn (rule_in group) past asked
    → AfterPhase plan group past taken asked before held (Branch row kids Nothing) old new
asked_row plan group past taken row kids siblings [] before held present size specs old new here present_is answer measured sized last represents costs trace course can =
    absurd course
asked_row plan group past taken row kids siblings (kid ∷ other ∷ more) before held present size specs old new here present_is answer measured sized last represents
    costs trace course can = absurd course.2
asked_row plan group past taken row kids siblings (kid ∷ []) before held present size specs old new here present_is answer measured sized last represents costs
    trace course can =
    let rule = rule_in group in
    let ask = rule.ask past in
    let here' : is_shown kid.child.facts ≡ true = ap (λ (child : Child). is_shown child.facts) course.0 ∙ here in
    let known = can.0 here' in
    let facts_same : (child_of row kids).facts ≡ kid.child.facts = ap (λ (child : Child). child.facts) (sym course.0) in
    let right : has_requests kid.requests ≡ true → present ≡ size_after kid.child kid.requests =
    λ has. present_is ∙ present_size before row kids kid.child kid.requests course.0 course.1 has in
    let some : ask taken (record { facts = (child_of row kids).facts; size = present }) ≡ Some specs = some_of specs _ answer in
    let some' : ask taken (record { facts = kid.child.facts; size = present }) ≡ Some specs = rw facts_same at some in
    let got : ask taken (measured_of kid) ≡ Some specs = sym (known.asked taken present right) ∙ some' in
    let next : Requested = record kid { requests = kid.requests ++ specs ∷ [] } in
    let size_is : size ≡ size_after kid.child (kid.requests ++ specs ∷ []) =
    measured ∙ ap (λ (child : Child). child.measure specs) (sym course.0) ∙ sym (size_after-push kid.child kid.requests specs) in
    let same : taken_as rule past taken kid.child.facts size ≡ measured_of next =
    ap (λ (size : Size). let m : Measured = record { facts = kid.child.facts; size = size } in m) (known.got taken specs size got ∙ size_is) in
    let P : Facts → Type 0 = λ facts. Represents plan group past (taken ++ taken_as rule past taken facts size ∷ []) in
    turned_to plan group past taken kid next before held (Branch row kids Nothing) old new
    (ap (λ b. if b then asked_for (ask taken (measured_of kid)) kid else kid) here' ∙ ap (λ answer. asked_for answer kid) got)
    (subst (λ sizes. Represents plan group past (taken ++ sizes)) (ap (λ m. m ∷ []) same ∙ sym (ap (λ b. if b then measured_of next ∷ [] else []) here'))
    (subst P facts_same represents))
    (course.0, MeasuredFor-push held row kids kid.requests specs last (sized.0 here).0 (sized.0 here).1, tt)
    (costs_same (Branch row kids Nothing) before held old (calls_under (Branch row kids siblings) specs) (turn_calls ask taken kid) new
    (ap (λ b. if b then calls_for (ask taken (measured_of kid)) kid.child else 0) here' ∙ ap (λ answer. calls_for answer kid.child) got
    ∙ ap (λ (child : Child). child.calls specs) course.0) costs)
    (trace-first (λ place other. other ≡ specs) (AskedAt (next ∷ [])) (λ place. 1) before held row kids old new (λ other e. subst (Among (kid.requests ++ specs ∷ [])) (sym e) (Among-last kid.requests specs)) trace)
