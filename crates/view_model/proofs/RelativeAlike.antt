-- Measuring a relative layout gives the same, whatever is below those of its children that are gone: no child is tied
-- to these.
use Rattle.std.proofs.Common.{◌≡◌, ℕ, zero, suc, ◌+◌, Bool, true, false, Option, Some, None, List, [], ◌∷◌, arith, ap, ◌∙◌, sym, refl, subst, inl, inr}
use mathlib.Core.Path.{fun_ext}
use Rattle.std.proofs.lemmas.Bool.{cases_Bool}
use Rattle.std.specs.Prelude.{ℤ, if◌then◌else◌, filter, length}
use Rattle.std.specs.Option.{option_map}
use Rattle.view_model.specs.declared.facts.Facts.{Facts}
use Rattle.view_model.specs.declared.relative.Anchor.{Anchor}
use Rattle.view_model.specs.declared.relative.Axis.{Axis}
use Rattle.view_model.specs.declared.relative.Axis.TheVariants.{Horizontal, Vertical}
use Rattle.view_model.specs.declared.relative.Tie.{Tie}
use Rattle.view_model.specs.declared.relative.Tie.TheVariants.{Before, After, AlignNear, AlignFar}
use Rattle.view_model.specs.declared.relative.Link.{Link}
use Rattle.view_model.proofs.Alike.{Alike, CourseAlike, KidsAlike}
use Rattle.view_model.specs.Course.{Child, Requested}
use Rattle.view_model.specs.Facts.{is_shown}
use Rattle.view_model.specs.Measuring.{Specs}
use Rattle.view_model.specs.RelativeCourse.{Arrangement, anchor_by, anchor_with, anchors_by, arranged, asked_across, asked_down, child_at, each_from, edges_at, following, link_of, links_of, relative_course, requested_at, requests_at, span_across, span_down, spanned_by, spans_across, spans_down, unknown}
use Rattle.view_model.specs.RelativeLayout.{Spanned, across_specs, down_specs, relative_size}
use Rattle.view_model.specs.SiblingRules.{anchor_of, anchor_within, named_sibling, shown_or}

-- whether the child of a place takes part in layout
abbrev pub shown_at : List Child → ℕ → Bool
shown_at kids place = is_shown (child_at kids place).facts

-- two children in the same place
pub record PlaceAlike (a b : Child) : Type 0 where
  pub facts : a.facts ≡ b.facts
  pub whole : is_shown a.facts ≡ true → a ≡ b

pub at_alike : (some more : List Child) → KidsAlike some more → (place : ℕ) → PlaceAlike (child_at some place) (child_at more place)
at_alike [] [] h place = record { facts = refl; whole = λ here. refl }
at_alike [] (b ∷ more) h place = absurd h
at_alike (a ∷ some) [] h place = absurd h
at_alike (a ∷ some) (b ∷ more) h zero = record { facts = h.0; whole = h.1 }
at_alike (a ∷ some) (b ∷ more) h (suc place) = at_alike some more h.2 place

length_alike : (some more : List Child) → KidsAlike some more → length some ≡ length more
length_alike [] [] h = refl
length_alike [] (b ∷ more) h = absurd h
length_alike (a ∷ some) [] h = absurd h
length_alike (a ∷ some) (b ∷ more) h = ap suc (length_alike some more h.2)

links_alike : (some more : List Child) → KidsAlike some more → links_of some ≡ links_of more
links_alike [] [] h = refl
links_alike [] (b ∷ more) h = absurd h
links_alike (a ∷ some) [] h = absurd h
links_alike (a ∷ some) (b ∷ more) h =
    ap (λ facts. link_of facts ∷ links_of some) h.0 ∙ ap (λ links. link_of b.facts ∷ links) (links_alike some more h.2)

shown_alike_at : (some more : List Child) → KidsAlike some more → shown_at some ≡ shown_at more
shown_alike_at some more h = fun_ext (λ place. ap is_shown (at_alike some more h place).facts)

no_anchor : {A : Type 0} {anchor : ℕ} → None ≡ Some anchor → A
no_anchor found = absurd (cc)

-- an anchor takes part in layout
pub anchor_shown : (left : ℕ) (shown : ℕ → Bool) (named : ℕ → Option ℕ) (place anchor : ℕ) → anchor_within left shown named place ≡ Some anchor → shown anchor ≡ true
anchor_shown zero shown named place anchor found = no_anchor found
anchor_shown (suc left) shown named place anchor found = by_name (named place) (λ sibling. anchor_shown left shown named sibling anchor) found
  where
    by_test : (sibling : ℕ) (v : Bool) → shown sibling ≡ v → (anchor_within left shown named sibling ≡ Some anchor → shown anchor ≡ true)
        → (if v then Some sibling else anchor_within left shown named sibling) ≡ Some anchor → shown anchor ≡ true
    by_test sibling true is following found = let same : sibling ≡ anchor = cc in ap shown (sym same) ∙ is
    by_test sibling false is following found = following found

    by_name : (name : Option ℕ) → ((sibling : ℕ) → anchor_within left shown named sibling ≡ Some anchor → shown anchor ≡ true)
        → shown_or shown (anchor_within left shown named) name ≡ Some anchor → shown anchor ≡ true
    by_name None following found = no_anchor found
    by_name (Some sibling) following found = by_test sibling (shown sibling) refl (following sibling) found

-- sides that are the same for all children that take part
abbrev pub SpansAgree : List Child → (ℕ → ℤ × ℤ) → (ℕ → ℤ × ℤ) → Type 0
SpansAgree kids f g = (place : ℕ) → shown_at kids place ≡ true → f place ≡ g place

map_alike : {X Y : Type 0} (o : Option X) (f g : X → Y) → ((x : X) → o ≡ Some x → f x ≡ g x) → option_map f o ≡ option_map g o
map_alike None f g same = refl
map_alike (Some x) f g same = ap Some (same x refl)

anchor_alike : (rtl : Bool) (axis : Axis) (some more : List Child) → KidsAlike some more → (f g : ℕ → ℤ × ℤ) → SpansAgree some f g → (tie : Tie) (place : ℕ)
    → anchor_by rtl axis some f tie place ≡ anchor_by rtl axis more g tie place
anchor_alike rtl axis some more h f g same tie place =
    let with : List Child → (ℕ → ℤ × ℤ) → ℕ → Anchor = λ kids spans sibling. anchor_with axis (child_at kids sibling).facts (spans sibling) in
    let found = anchor_of rtl axis tie (links_of some) (shown_at some) place in
    let links : found ≡ anchor_of rtl axis tie (links_of more) (shown_at some) place = ap (λ (links : List Link). anchor_of rtl axis tie links (shown_at some) place) (links_alike some more h) in
    let both : found ≡ anchor_of rtl axis tie (links_of more) (shown_at more) place = links ∙ ap (λ shown. anchor_of rtl axis tie (links_of more) shown place) (shown_alike_at some more h) in
    let each = map_alike found (with some f) (with more g) (λ sibling is.
    let here = anchor_shown (length (links_of some)) (shown_at some) (named_sibling rtl axis tie (links_of some)) place sibling is in
    ap (λ (facts : Facts). anchor_with axis facts (f sibling)) (at_alike some more h sibling).facts
    ∙ ap (anchor_with axis (child_at more sibling).facts) (same sibling here)) in
    each ∙ ap (option_map (with more g)) both

anchors_alike : (rtl : Bool) (axis : Axis) (some more : List Child) → KidsAlike some more → (f g : ℕ → ℤ × ℤ) → SpansAgree some f g → (place : ℕ)
    → anchors_by rtl axis some f place ≡ anchors_by rtl axis more g place
anchors_alike rtl axis some more h f g same place =
    rw (
      anchor_alike rtl axis some more h f g same Before place,
      anchor_alike rtl axis some more h f g same After place,
      anchor_alike rtl axis some more h f g same AlignNear place,
      anchor_alike rtl axis some more h f g same AlignFar place,
    ) refl

asked_across_alike : (own : Facts) (specs : Specs) (some more : List Child) → KidsAlike some more → (f g : ℕ → ℤ × ℤ) → SpansAgree some f g → (place : ℕ)
    → asked_across own specs some f place ≡ asked_across own specs more g place
asked_across_alike own specs some more h f g same place =
    ap (λ anchors. across_specs own specs (child_at some place).facts anchors) (anchors_alike own.rtl Horizontal some more h f g same place)
    ∙ ap (λ (facts : Facts). across_specs own specs facts (anchors_by own.rtl Horizontal more g place)) (at_alike some more h place).facts

asked_down_alike : (own : Facts) (specs : Specs) (some more : List Child) → KidsAlike some more → (across over f g : ℕ → ℤ × ℤ)
    → SpansAgree some across over → SpansAgree some f g → (place : ℕ) → shown_at some place ≡ true
    → asked_down own specs some across f place ≡ asked_down own specs more over g place
asked_down_alike own specs some more h across over f g wide same place here =
    ap (λ anchors. down_specs own specs (child_at some place).facts (across place) anchors) (anchors_alike own.rtl Vertical some more h f g same place)
    ∙ ap (λ (facts : Facts). down_specs own specs facts (across place) (anchors_by own.rtl Vertical more g place)) (at_alike some more h place).facts
    ∙ ap (λ span. down_specs own specs (child_at more place).facts span (anchors_by own.rtl Vertical more g place)) (wide place here)

-- one step
across_alike : (own : Facts) (specs : Specs) (some more : List Child) → KidsAlike some more → (f g : ℕ → ℤ × ℤ) → SpansAgree some f g
    → SpansAgree some (span_across own specs some f) (span_across own specs more g)
across_alike own specs some more h f g same place here =
    rw (sym ((at_alike some more h place).whole here), anchors_alike own.rtl Horizontal some more h f g same place) refl

down_alike : (own : Facts) (specs : Specs) (some more : List Child) → KidsAlike some more → (across over f g : ℕ → ℤ × ℤ)
    → SpansAgree some across over → SpansAgree some f g → SpansAgree some (span_down own specs some across f) (span_down own specs more over g)
down_alike own specs some more h across over f g wide same place here =
    rw (sym ((at_alike some more h place).whole here), sym (wide place here), anchors_alike own.rtl Vertical some more h f g same place) refl

-- all steps
following_alike : (some : List Child) (step other : (ℕ → ℤ × ℤ) → ℕ → ℤ × ℤ)
    → ((f g : ℕ → ℤ × ℤ) → SpansAgree some f g → SpansAgree some (step f) (other g))
    → (steps : ℕ) → SpansAgree some (following step unknown steps) (following other unknown steps)
following_alike some step other alike zero place here = refl
following_alike some step other alike (suc steps) place here =
    alike (following step unknown steps) (following other unknown steps) (following_alike some step other alike steps) place here

spans_across_alike : (own : Facts) (specs : Specs) (some more : List Child) → KidsAlike some more → SpansAgree some (spans_across own specs some) (spans_across own specs more)
spans_across_alike own specs some more h place here =
    following_alike some (span_across own specs some) (span_across own specs more) (across_alike own specs some more h) (length some) place here
    ∙ ap (λ steps. following (span_across own specs more) unknown steps place) (length_alike some more h)

spans_down_alike : (own : Facts) (specs : Specs) (some more : List Child) → KidsAlike some more → (across over : ℕ → ℤ × ℤ) → SpansAgree some across over
    → SpansAgree some (spans_down own specs some across) (spans_down own specs more over)
spans_down_alike own specs some more h across over wide place here =
    following_alike some (span_down own specs some across) (span_down own specs more over)
    (λ f g. down_alike own specs some more h across over f g wide) (length some) place here
    ∙ ap (λ steps. following (span_down own specs more over) unknown steps place) (length_alike some more h)

-- what is gathered of the children that take part
along : (p i : ℕ) → suc i + p ≡ i + suc p
along p i = omega arith

from_zero : (p : ℕ) → 0 + p ≡ p
from_zero p = omega arith

to_zero : (i : ℕ) → i + 0 ≡ i
to_zero i = omega arith

spanned_alike : (p : ℕ) (some more : List Child) → KidsAlike some more → (f g : ℕ → ℤ × ℤ) → ((i : ℕ) → shown_at some i ≡ true → f (i + p) ≡ g (i + p))
    → (let one : (ℕ → ℤ × ℤ) → ℕ → Child → Spanned = λ spans place kid. record { facts = kid.facts; span = spans place } in
    filter (λ (kid : Spanned). is_shown kid.facts) (each_from p (one f) some) ≡ filter (λ (kid : Spanned). is_shown kid.facts) (each_from p (one g) more))
spanned_alike p [] [] h f g same = refl
spanned_alike p [] (b ∷ more) h f g same = absurd h
spanned_alike p (a ∷ some) [] h f g same = absurd h
spanned_alike p (a ∷ some) (b ∷ more) h f g same =
    let rest = spanned_alike (suc p) some more h.2 f g (λ i here. subst (λ at. f at ≡ g at) (along p i) (same (suc i) here)) in
    elim (cases_Bool (is_shown a.facts)) [
      | inl here ↦ let here' : is_shown b.facts ≡ true = ap is_shown (sym h.0) ∙ here in rw (here, here', h.0, subst (λ at. f at ≡ g at) (from_zero p) (same 0 here), rest) refl
      | inr gone ↦ let gone' : is_shown b.facts ≡ false = ap is_shown (sym h.0) ∙ gone in rw (gone, gone', rest) refl
    ]

each_alike : (p : ℕ) (some more : List Child) → KidsAlike some more → (f g : ℕ → Child → Requested)
    → ((i : ℕ) (kid : Child) → (f i kid).child ≡ kid) → ((i : ℕ) (kid : Child) → (g i kid).child ≡ kid)
    → ((i : ℕ) (kid : Child) → shown_at some i ≡ true → f (i + p) kid ≡ g (i + p) kid)
    → Alike (each_from p f some) (each_from p g more)
each_alike p [] [] h f g fs gs same = tt
each_alike p [] (b ∷ more) h f g fs gs same = absurd h
each_alike p (a ∷ some) [] h f g fs gs same = absurd h
each_alike p (a ∷ some) (b ∷ more) h f g fs gs same = (
  ap (λ (kid : Child). kid.facts) (fs p a) ∙ h.0 ∙ ap (λ (kid : Child). kid.facts) (sym (gs p b)),
  λ here.
      let shown : is_shown a.facts ≡ true = ap (λ (kid : Child). is_shown kid.facts) (sym (fs p a)) ∙ here in
      subst (λ at. f at a ≡ g at a) (from_zero p) (same 0 a shown) ∙ ap (g p) (h.1 shown),
  each_alike (suc p) some more h.2 f g fs gs (λ i kid here. subst (λ at. f at kid ≡ g at kid) (along p i) (same (suc i) kid here)),
)

-- an arrangement, for children that take part
record Arranged (kids : List Child) (a b : Arrangement) : Type 0 where
  pub across : SpansAgree kids a.across b.across
  pub down : SpansAgree kids a.down b.down
  pub size : a.size ≡ b.size

arranged_alike : (own : Facts) (specs : Specs) (some more : List Child) → KidsAlike some more → Arranged some (arranged own specs some) (arranged own specs more)
arranged_alike own specs some more h =
    let across = spans_across_alike own specs some more h in
    let down = spans_down_alike own specs some more h (spans_across own specs some) (spans_across own specs more) across in
    let wide = spanned_alike 0 some more h (spans_across own specs some) (spans_across own specs more) (λ i here.
    subst (λ at. spans_across own specs some at ≡ spans_across own specs more at) (sym (to_zero i)) (across i here)) in
    let high = spanned_alike 0 some more h (spans_down own specs some (spans_across own specs some)) (spans_down own specs more (spans_across own specs more)) (λ i here.
    subst (λ at. spans_down own specs some (spans_across own specs some) at ≡ spans_down own specs more (spans_across own specs more) at) (sym (to_zero i)) (down i here)) in
    record {
      across = across;
      down = down;
      size = ap (λ (wide : List Spanned). relative_size own specs wide (spanned_by some (spans_down own specs some (spans_across own specs some)))) wide
          ∙ ap (relative_size own specs (spanned_by more (spans_across own specs more))) high;
    }

-- a child's requests and its sides
requests_alike : (own : Facts) (specs : Specs) (some more : List Child) → KidsAlike some more → (a b : Arrangement) → Arranged some a b → (place : ℕ)
    → shown_at some place ≡ true → requests_at own specs some a place ≡ requests_at own specs more b place
requests_alike own specs some more h a b same place here =
    rw (
      asked_across_alike own specs some more h a.across b.across same.across place,
      asked_down_alike own specs some more h a.across b.across a.down b.down same.across same.down place here,
    ) refl

edges_alike : (own : Facts) (specs : Specs) (some more : List Child) → KidsAlike some more → (a b : Arrangement) → Arranged some a b → (place : ℕ)
    → shown_at some place ≡ true → edges_at own specs some a place ≡ edges_at own specs more b place
edges_alike own specs some more h a b same place here =
    rw (
      asked_down_alike own specs some more h a.across b.across a.down b.down same.across same.down place here,
      (at_alike some more h place).whole here,
      same.across place here,
      same.down place here,
      same.size,
    ) refl

requested_alike : (own : Facts) (specs : Specs) (some more : List Child) → KidsAlike some more → (a b : Arrangement) → Arranged some a b → (place : ℕ) (kid : Child)
    → shown_at some place ≡ true → requested_at own specs some a place kid ≡ requested_at own specs more b place kid
requested_alike own specs some more h a b same place kid here =
    rw (requests_alike own specs some more h a b same place here, edges_alike own specs some more h a b same place here) refl

pub requested_child : (own : Facts) (specs : Specs) (kids : List Child) (found : Arrangement) (place : ℕ) (kid : Child) → (requested_at own specs kids found place kid).child ≡ kid
requested_child own specs kids found place kid = by_test (is_shown kid.facts)
  where
    by_test : (v : Bool)
        → (let one : Requested = if v then record { child = kid; requests = requests_at own specs kids found place; edges = Some (edges_at own specs kids found place) }
        else record { child = kid; requests = []; edges = None } in one.child ≡ kid)
    by_test true = refl
    by_test false = refl

pub relative_alike : (own : Facts) (specs : Specs) (some more : List Child) → KidsAlike some more → CourseAlike (relative_course own specs some) (relative_course own specs more)
relative_alike own specs some more h =
    let a = arranged own specs some in
    let b = arranged own specs more in
    let same = arranged_alike own specs some more h in
    record {
      kids = each_alike 0 some more h (requested_at own specs some a) (requested_at own specs more b) (requested_child own specs some a) (requested_child own specs more b) (λ i kid here.
          subst (λ at. requested_at own specs some a at kid ≡ requested_at own specs more b at kid) (sym (to_zero i)) (requested_alike own specs some more h a b same i kid here));
      size = same.size;
      total = refl;
    }
