-- Parts of a list of views, and what holds of them if what is kept of views changes elsewhere.
use Rattle.std.proofs.Common.{◌≡◌, ℕ, ◌+◌, ◌<◌, ◌≤◌, Bool, true, false, Some, List, [], ◌∷◌, ◌++◌, arith, ap, ◌∙◌, sym, refl, subst, length, length-append, append_assoc}
use Rattle.std.proofs.lemmas.List.{append-nil}
use Rattle.std.specs.Prelude.{if◌then◌else◌}
use Rattle.geom_core.specs.declared.geometry.Rect.{Rect}
use Rattle.view_model.specs.Facts.{is_shown}
use Rattle.view_model.specs.Forest.{Forest, Nothing, Branch, count_of}
use Rattle.view_model.specs.Geometry.{Laid}
use Rattle.view_model.specs.Layout.{Spot, laid_views}
use Rattle.view_model.specs.Measuring.{Measured}
use Rattle.view_model.specs.RelativeLayout.{sides_of}
use Rattle.view_tree.specs.Rows.{Row, count_of_key, first_tree, later_siblings, views_of}
use Rattle.view_tree.specs.Views.{Held, laid_rows, specs_of}
use Rattle.view_tree.proofs.values.GeometryLaws.{laid_along}
use Rattle.view_tree.proofs.forest.KeyLaws.{times_self}
use Rattle.kept_views.specs.Kept.{IsSized, Kept, Reached, Ready, Sized, firm, hidden_in, last_edges, last_places, last_specs, loose, owed}
use Rattle.kept_views.specs.Laying.{Fit, IsQuiet, IsQuietAs, IsQuietBack, differ, group_kids, group_places, kid_place, kid_sizes, kid_under, last_sizes, places_all, places_back, sizes_back, some_all}
use Rattle.kept_views.proofs.laid.Brought.{brought-along, brought-start}
use Rattle.kept_views.proofs.KeptFrames.{Kept-along, Same, edges-along, places-along, same_kids, same_self, same_siblings, sized-along, specs-along}

pub Sized-along : (old new : ℕ → Held) (list : Forest Row) → Same old new list → Sized old list → Sized new list
Sized-along old new Nothing same s = tt
Sized-along old new (Branch row kids siblings) same s =
    let e = sym (same_self old new row kids siblings same) in
    let below = same_kids old new row kids siblings same in (
      λ here. let own = s.0 here in (
        subst (λ own. IsSized new own row kids) e (sized-along old new (old row.key) row kids below own.0),
        subst (λ (own : Held). own.state.measure_first ≡ false → Sized new kids) e (λ m. Sized-along old new kids below (own.1 m)),
      ),
      Sized-along old new siblings (same_siblings old new row kids siblings same) s.1,
    )

pub Reached-along : (old new : ℕ → Held) (up : Bool) (list : Forest Row) → Same old new list → Reached old up list → Reached new up list
Reached-along old new up Nothing same r = tt
Reached-along old new up (Branch row kids siblings) same r =
    let e : old row.key ≡ new row.key = sym (same_self old new row kids siblings same) in (
      subst (λ (own : Held). own.state.layout_needed ≡ true → (is_shown row.view.facts ≡ true) × (up ≡ true)) e r.0,
      subst (λ (own : Held). own.state.measure_first ≡ true → own.state.layout_needed ≡ true) e r.1,
      subst (λ (own : Held). Reached new own.state.layout_needed kids) e (Reached-along old new (old row.key).state.layout_needed kids (same_kids old new row kids siblings same) r.2),
      Reached-along old new up siblings (same_siblings old new row kids siblings same) r.3,
    )

pub Reached-loose : (held : ℕ → Held) (up : Bool) (list : Forest Row) → Reached held up list → Reached held true list
Reached-loose held up Nothing r = tt
Reached-loose held up (Branch row kids siblings) r = (λ n. ((r.0 n).0, refl), r.1, r.2, Reached-loose held up siblings r.3)

pub Kept-loose : (held : ℕ → Held) (forced : Bool) (list : Forest Row) → Kept [] held (record { hidden = false; forced = forced }) list → Kept [] held loose list
Kept-loose held forced Nothing k = tt
Kept-loose held forced (Branch row kids siblings) k = (
  k.0,
  λ shown. let v = k.1 shown in record { flags = λ none f. refl; cache = v.cache; sized = v.sized; placed = v.placed; ranged = v.ranged },
  k.2,
  Kept-loose held forced siblings k.3,
)

pub owed-along : (old new : ℕ → Held) (list : Forest Row) → Same old new list → owed new list ≡ owed old list
owed-along old new Nothing same = refl
owed-along old new (Branch row kids siblings) same =
    let own = same_self old new row kids siblings same in
    let below = owed-along old new kids (same_kids old new row kids siblings same) in
    let rest = owed-along old new siblings (same_siblings old new row kids siblings same) in
    rw (own, below, rest) refl

pub owed_parts : (held : ℕ → Held) (list : Forest Row) → owed held list ≡ owed held (first_tree list) + owed held (later_siblings list)
owed_parts held Nothing = omega arith
owed_parts held (Branch row kids siblings) = omega arith

pub owed_below : (held : ℕ → Held) (row : Row) (kids : Forest Row) → is_shown row.view.facts ≡ true → owed held kids ≤ owed held (Branch row kids Nothing)
owed_below held row kids here = rw here (omega arith)

pub differ-along : (old old' new new' : ℕ → Held) (list : Forest Row) → ((key : ℕ) → 0 < count_of_key key list → (old' key).state.bounds ≡ (old key).state.bounds)
    → ((key : ℕ) → 0 < count_of_key key list → (new' key).state.bounds ≡ (new key).state.bounds) → differ old' new' list ≡ differ old new list
differ-along old old' new new' Nothing a b = refl
differ-along old old' new new' (Branch row kids siblings) a b =
    let x = a row.key (times_self row kids siblings) in
    let y = b row.key (times_self row kids siblings) in
    let below = differ-along old old' new new' kids (λ key here. a key (omega arith)) (λ key here. b key (omega arith)) in
    let rest = differ-along old old' new new' siblings (λ key here. a key (omega arith)) (λ key here. b key (omega arith)) in
    rw (x, y, below, rest) refl

pub differ_parts : (old new : ℕ → Held) (list : Forest Row) → differ old new list ≡ differ old new (first_tree list) + differ old new (later_siblings list)
differ_parts old new Nothing = omega arith
differ_parts old new (Branch row kids siblings) = omega arith

pub group_kids-along : (spot : Spot) (before : List Measured) (old new : ℕ → Held) (list : Forest Row) → Same old new list → group_kids spot before new list ≡ group_kids spot before old list
group_kids-along spot before old new Nothing same = refl
group_kids-along spot before old new (Branch row kids siblings) same =
    let specs = specs_of (old row.key).state in
    rw (same row.key (times_self row kids siblings))
    (ap (λ more. laid_views row.view (views_of kids) specs (kid_place spot before (old row.key) row kids) ++ more)
    (group_kids-along spot (before ++ kid_sizes specs row kids) old new siblings (λ key live. same key (omega arith))))

pub group_places-along : (spot : Spot) (before : List Measured) (old new : ℕ → Held) (list : Forest Row) → Same old new list → group_places spot before new list ≡ group_places spot before old list
group_places-along spot before old new Nothing same = refl
group_places-along spot before old new (Branch row kids siblings) same =
    let own = same row.key (times_self row kids siblings) in
    let more = group_places-along spot (before ++ kid_sizes (specs_of (old row.key).state) row kids) old new siblings (λ key live. same key (omega arith)) in
    rw (own, more) refl

pub sizes_back-along : (old new : ℕ → Held) (list : Forest Row) → Same old new list → sizes_back new list ≡ sizes_back old list
sizes_back-along old new Nothing same = refl
sizes_back-along old new (Branch row kids siblings) same =
    rw (same row.key (times_self row kids siblings), sizes_back-along old new siblings (λ key live. same key (omega arith))) refl

pub places_back-along : (spot : Spot) (old new : ℕ → Held) (list : Forest Row) → Same old new list → places_back spot new list ≡ places_back spot old list
places_back-along spot old new Nothing same = refl
places_back-along spot old new (Branch row kids siblings) same =
    rw (
      same row.key (times_self row kids siblings),
      sizes_back-along old new siblings (λ key live. same key (omega arith)),
      places_back-along spot old new siblings (λ key live. same key (omega arith)),
    ) refl

pub places_all-along : (spot : Spot) (old new : ℕ → Held) (list : Forest Row) → Same old new list → places_all spot new list ≡ places_all spot old list
places_all-along spot old new list same = rw (places_back-along spot old new list same, group_places-along spot [] old new list same) refl

pub last_sizes-along : (old new : ℕ → Held) (list : Forest Row) → Same old new list → last_sizes new list ≡ last_sizes old list
last_sizes-along old new Nothing same = refl
last_sizes-along old new (Branch row kids siblings) same =
    rw (same row.key (times_self row kids siblings), last_sizes-along old new siblings (λ key live. same key (omega arith))) refl

few_if : (v : Bool) (x : Measured) → length (if v then x ∷ [] else []) ≤ 1
few_if true x = omega arith
few_if false x = omega arith

pub last_sizes-few : (held : ℕ → Held) (list : Forest Row) → length (last_sizes held list) ≤ count_of list
last_sizes-few held Nothing = omega arith
last_sizes-few held (Branch row kids siblings) =
    let specs = specs_of (held row.key).state in
    let one = few_if (is_shown row.view.facts) (kid_under specs row kids) in
    let rest = last_sizes-few held siblings in
    let both = length-append (kid_sizes specs row kids) (last_sizes held siblings) in
    omega arith

pub sizes_back-few : (held : ℕ → Held) (list : Forest Row) → length (sizes_back held list) ≤ count_of list
sizes_back-few held Nothing = omega arith
sizes_back-few held (Branch row kids siblings) =
    let specs = specs_of (held row.key).state in
    let one = few_if (is_shown row.view.facts) (kid_under specs row kids) in
    let rest = sizes_back-few held siblings in
    let both = length-append (sizes_back held siblings) (kid_sizes specs row kids) in
    omega arith

pub laid_rows-along : (old new : ℕ → Held) (list : Forest Row) → Same old new list → laid_rows new list ≡ laid_rows old list
laid_rows-along old new list same = laid_along old new list (λ key live. ap (λ (own : Held). own.state.bounds) (same key live))

pub Ready-along : (old new : ℕ → Held) (list : Forest Row) → Same old new list → Ready old list → Ready new list
Ready-along old new list same h = record { kept = Kept-along [] old new loose list same h.kept; reached = Reached-along old new true list same h.reached }

pub Fit-along : (old new : ℕ → Held) (list : Forest Row) → Same old new list → Fit old list → Fit new list
Fit-along old new list same fit = record { ready = Ready-along old new list same fit.ready; sized = Sized-along old new list same fit.sized }

pub Fit-first : (held : ℕ → Held) (list : Forest Row) → Fit held list → Fit held (first_tree list)
Fit-first held Nothing fit = fit
Fit-first held (Branch row kids siblings) fit =
    let k = fit.ready.kept in
    let r = fit.ready.reached in
    record { ready = record { kept = (k.0, k.1, k.2, tt); reached = (r.0, r.1, r.2, tt) }; sized = (fit.sized.0, tt) }

pub Fit-later : (held : ℕ → Held) (list : Forest Row) → Fit held list → Fit held (later_siblings list)
Fit-later held Nothing fit = fit
Fit-later held (Branch row kids siblings) fit = record { ready = record { kept = fit.ready.kept.3; reached = fit.ready.reached.3 }; sized = fit.sized.1 }

-- what is below a shown view that is not marked
pub Fit-below : (held : ℕ → Held) (row : Row) (kids : Forest Row) → is_shown row.view.facts ≡ true → (held row.key).state.measure_first ≡ false → Fit held (Branch row kids Nothing) → Fit held kids
Fit-below held row kids here m fit =
    let hidden : hidden_in loose row ≡ false = ap (λ v. if v then false else true) here in
    record {
      ready = record {
        kept = Kept-loose held (held row.key).state.forced kids (subst (λ h. Kept [] held (record { hidden = h; forced = (held row.key).state.forced }) kids) hidden fit.ready.kept.2);
        reached = Reached-loose held (held row.key).state.layout_needed kids fit.ready.reached.2;
      };
      sized = (fit.sized.0 here).1 m;
    }

pub IsQuietAs-along : {layout : List Laid} {rects : List Rect} (mid end start : ℕ → Held) (list : Forest Row) → Same mid end list
    → IsQuietAs mid layout rects start list → IsQuietAs end layout rects start list
IsQuietAs-along mid end start list same q = record {
  kept = Kept-along [] mid end firm list same q.kept;
  reached = Reached-along mid end false list same q.reached;
  specs = specs-along mid end list same ∙ q.specs;
  edges = edges-along mid end list same ∙ q.edges;
  lies = laid_rows-along mid end list same ∙ q.lies;
  places = places-along mid end list same ∙ q.places;
  offsets = brought-along start mid end list same q.offsets;
}

-- if the views of a list were the same before
pub IsQuiet-start : (end : ℕ → Held) (spot : Spot) (before : List Measured) (start old : ℕ → Held) (list : Forest Row) → Same start old list
    → IsQuiet end spot before old list → IsQuiet end spot before start list
IsQuiet-start end spot before start old list same q = record {
  kept = q.kept;
  reached = q.reached;
  specs = q.specs ∙ specs-along start old list same;
  edges = q.edges ∙ edges-along start old list same;
  lies = q.lies ∙ group_kids-along spot before start old list same;
  places = q.places ∙ ap some_all (group_places-along spot before start old list same);
  offsets = brought-start start old end list (λ key here. ap (λ (own : Held). own.offset) (same key here)) q.offsets;
}

-- a list by its first view and the others
if_lists : {A : Type 0} (v : Bool) (x : A) (a : List A) → (if v then x ∷ a else a) ≡ (if v then x ∷ [] else []) ++ a
if_lists true x a = refl
if_lists false x a = refl

specs_parts : (held : ℕ → Held) (list : Forest Row) → last_specs held list ≡ last_specs held (first_tree list) ++ last_specs held (later_siblings list)
specs_parts held Nothing = refl
specs_parts held (Branch row kids siblings) = if_lists (is_shown row.view.facts) (specs_of (held row.key).state) (last_specs held siblings)

edges_parts : (held : ℕ → Held) (list : Forest Row) → last_edges held list ≡ last_edges held (first_tree list) ++ last_edges held (later_siblings list)
edges_parts held Nothing = refl
edges_parts held (Branch row kids siblings) = if_lists (is_shown row.view.facts) (sides_of (held row.key).state.edges) (last_edges held siblings)

places_parts : (held : ℕ → Held) (list : Forest Row) → last_places held list ≡ last_places held (first_tree list) ++ last_places held (later_siblings list)
places_parts held Nothing = refl
places_parts held (Branch row kids siblings) = if_lists (is_shown row.view.facts) (held row.key).state.bounds (last_places held siblings)

spots_parts : (spot : Spot) (before : List Measured) (held : ℕ → Held) (list : Forest Row)
    → some_all (group_places spot before held list) ≡ some_all (group_places spot before held (first_tree list)) ++ some_all (group_places spot (before ++ last_sizes held (first_tree list)) held (later_siblings list))
spots_parts spot before held Nothing = refl
spots_parts spot before held (Branch row kids siblings) =
    let sizes = kid_sizes (specs_of (held row.key).state) row kids in
    by_test (is_shown row.view.facts) (ap (λ more. group_places spot (before ++ more) held siblings) (sym (append-nil sizes)))
  where
    rect : Rect
    rect = kid_place spot before (held row.key) row kids

    by_test : {a b : List Rect} (v : Bool) → a ≡ b → some_all (if v then rect ∷ a else a) ≡ some_all (if v then rect ∷ [] else []) ++ some_all b
    by_test true e = ap (λ rects. Some rect ∷ some_all rects) e
    by_test false e = ap some_all e

lists_joined : (own below rest first more : List Laid) → own ++ (below ++ []) ≡ first ++ [] → rest ≡ more → own ++ (below ++ rest) ≡ first ++ more
lists_joined own below rest first more e f =
    let part : own ++ below ≡ first = ap (λ (list : List Laid). own ++ list) (sym (append-nil below)) ∙ e ∙ append-nil first in
    sym (append_assoc own below rest) ∙ ap (λ (list : List Laid). list ++ rest) part ∙ ap (λ (list : List Laid). first ++ list) f

both : {A : Type 0} {a b c d : List A} → a ≡ c → b ≡ d → a ++ b ≡ c ++ d
both {b = b} {c = c} e f = ap (λ l. l ++ b) e ∙ ap (λ l. c ++ l) f

-- the first view of a list and the others, each as it is laid
quiet_parts : {one more whole : List Laid} {first rest places : List Rect} (start end : ℕ → Held) (row : Row) (kids siblings : Forest Row)
    → IsQuietAs end one first start (Branch row kids Nothing) → IsQuietAs end more rest start siblings
    → laid_rows end (Branch row kids siblings) ≡ whole → some_all places ≡ some_all first ++ some_all rest
    → IsQuietAs end whole places start (Branch row kids siblings)
quiet_parts start end row kids siblings own others lies places =
    let list = Branch row kids siblings in
    record {
      kept = (own.kept.0, own.kept.1, own.kept.2, others.kept);
      reached = (own.reached.0, own.reached.1, own.reached.2, others.reached);
      specs = specs_parts end list ∙ both own.specs others.specs ∙ sym (specs_parts start list);
      edges = edges_parts end list ∙ both own.edges others.edges ∙ sym (edges_parts start list);
      lies = lies;
      places = places_parts end list ∙ both own.places others.places ∙ sym places;
      offsets = (own.offsets.0, own.offsets.1, others.offsets);
    }

pub quiet_joined : (spot : Spot) (before : List Measured) (start end : ℕ → Held) (list : Forest Row)
    → IsQuiet end spot before start (first_tree list)
    → IsQuiet end spot (before ++ last_sizes start (first_tree list)) start (later_siblings list)
    → IsQuiet end spot before start list
quiet_joined spot before start end Nothing first rest = first
quiet_joined spot before start end (Branch row kids siblings) first rest =
    let sizes = kid_sizes (specs_of (start row.key).state) row kids in
    quiet_parts start end row kids siblings first rest
    (lists_joined _ _ _ _ _ first.lies (rest.lies ∙ ap (λ more. group_kids spot (before ++ more) start siblings) (append-nil sizes)))
    (spots_parts spot before start (Branch row kids siblings))

-- the same where the others were placed before it
pub quiet_joined_back : (spot : Spot) (start end : ℕ → Held) (row : Row) (kids siblings : Forest Row)
    → IsQuiet end spot (sizes_back start siblings) start (Branch row kids Nothing) → IsQuietBack end spot start siblings
    → IsQuietBack end spot start (Branch row kids siblings)
quiet_joined_back spot start end row kids siblings first rest =
    quiet_parts start end row kids siblings first rest (lists_joined _ _ _ _ _ first.lies rest.lies) (by_test (is_shown row.view.facts))
  where
    rect : Rect
    rect = kid_place spot (sizes_back start siblings) (start row.key) row kids

    rects : List Rect
    rects = places_back spot start siblings

    by_test : (v : Bool) → some_all (if v then rect ∷ rects else rects) ≡ some_all (if v then rect ∷ [] else []) ++ some_all rects
    by_test true = refl
    by_test false = refl
