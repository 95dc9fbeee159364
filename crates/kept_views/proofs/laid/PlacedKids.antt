-- The layout of a view, and the places of its children, given by the children as they are in their rows.
use Rattle.std.proofs.Common.{◌≡◌, ℕ, true, false, inl, inr, Option, List, [], ◌∷◌, ◌++◌, refl, sym, ◌∙◌, ap}
use Rattle.std.proofs.lemmas.List.{append-nil, reverse-append}
use Rattle.std.proofs.lemmas.Bool.{cases_Bool}
use Rattle.std.specs.Prelude.{map, filter, reverse}
use Rattle.std.specs.List.{flat_map}
use Rattle.geom_core.specs.declared.geometry.Rect.{Rect}
use Rattle.geom_core.specs.declared.geometry.Size.{Size}
use Rattle.view_model.specs.declared.class.Class.{Class}
use Rattle.view_model.specs.declared.class.Class.TheVariants.{RelativeLayout}
use Rattle.view_model.proofs.ClassLaws.{place_sides, relative_is}
use Rattle.view_model.specs.Course.{Child, Requested, last_of}
use Rattle.view_model.specs.Facts.{is_shown}
use Rattle.view_model.specs.Forest.{Forest, Nothing, Branch}
use Rattle.view_model.specs.Geometry.{Laid, size_of_rect}
use Rattle.view_model.specs.Layout.{Final, Placed, Spot, child_under, children_of, course_by, final_edges, final_size, final_specs, laid_views, manner_of, place_by, place_in, placed_back, placed_from, placed_in, places_backwards, placement, total_size, for_layout}
use Rattle.view_model.specs.Measuring.{Measured, Specs}
use Rattle.view_model.proofs.CourseLaws.{children_in, course_children}
use Rattle.view_model.specs.RelativeLayout.{sides_of}
use Rattle.view_tree.specs.Rows.{Row, views_of}
use Rattle.view_tree.specs.Views.{Held, specs_of}
use Rattle.kept_views.specs.Kept.{last_edges, last_specs}
use Rattle.kept_views.specs.Laying.{group_all, group_kids, group_kids_back, group_places, kid_sizes, kid_under, places_all, places_back, sizes_back}

abbrev child_of : Row → Forest Row → Child
child_of row kids = child_under row.view (views_of kids)

-- a view that is gone has no layout
pub laid_gone : (row : Row) (kids : Forest Row) (specs : Specs) (rect : Rect) → is_shown row.view.facts ≡ false → laid_views row.view (views_of kids) specs rect ≡ []
laid_gone row kids specs rect gone = rw gone refl

pub cons_head : {X : Type 0} {x y : X} {xs ys : List X} → x ∷ xs ≡ y ∷ ys → x ≡ y
cons_head {x = x} e = ap (λ list. first_or x list) e
  where
    first_or : {X : Type 0} → X → List X → X
    first_or other [] = other
    first_or other (x ∷ xs) = x

pub cons_tail : {X : Type 0} {x y : X} {xs ys : List X} → x ∷ xs ≡ y ∷ ys → xs ≡ ys
cons_tail e = ap rest e
  where
    rest : {X : Type 0} → List X → List X
    rest [] = []
    rest (x ∷ xs) = xs

abbrev pub finals_in : Specs → List Requested → List Final
finals_in specs kids =
    map (λ (kid : Requested). record { child = kid.child; specs = last_of specs kid.requests; edges = kid.edges })
    (filter (λ (kid : Requested). is_shown kid.child.facts) kids)

abbrev pub laid_from : Spot → List Measured → List Final → List Laid
laid_from spot before kids = flat_map (λ (kid : Placed). kid.child.lay kid.specs kid.rect) (placed_from spot before kids)

abbrev rects_from : Spot → List Measured → List Final → List Rect
rects_from spot before kids = map (λ (kid : Placed). kid.rect) (placed_from spot before kids)

abbrev rect_at_place : Spot → List Measured → Row → Forest Row → Specs → Option Rect → Rect
rect_at_place spot before row kids specs edges = place_in spot before (kid_under specs row kids) edges

-- one child more
module _ (spot : Spot) (before : List Measured) (kid : Final) (row : Row) (kids : Forest Row) (specs : Specs) (edges : Option Rect) (more : List Final)
    (child : kid.child ≡ child_of row kids) (place : rect_at_place spot before row kids specs kid.edges ≡ rect_at_place spot before row kids specs edges) (same : kid.specs ≡ specs) where
  one_laid : (rest : List Laid) → laid_from spot (before ++ kid_under specs row kids ∷ []) more ≡ rest
      → laid_from spot before (kid ∷ more) ≡ laid_views row.view (views_of kids) specs (rect_at_place spot before row kids specs edges) ++ rest
  one_laid rest g =
      ap (λ (child : Child). laid_from spot before (record { child = child; specs = kid.specs; edges = kid.edges } ∷ more)) child
      ∙ ap (λ (s : Specs). laid_from spot before (record { child = child_of row kids; specs = s; edges = kid.edges } ∷ more)) same
      ∙ ap (λ (rect : Rect). laid_views row.view (views_of kids) specs rect ++ laid_from spot (before ++ kid_under specs row kids ∷ []) more) place
      ∙ ap (λ (list : List Laid). laid_views row.view (views_of kids) specs (rect_at_place spot before row kids specs edges) ++ list) g

  one_placed : (rest : List Rect) → rects_from spot (before ++ kid_under specs row kids ∷ []) more ≡ rest
      → rects_from spot before (kid ∷ more) ≡ rect_at_place spot before row kids specs edges ∷ rest
  one_placed rest g =
      ap (λ (child : Child). rects_from spot before (record { child = child; specs = kid.specs; edges = kid.edges } ∷ more)) child
      ∙ ap (λ (s : Specs). rects_from spot before (record { child = child_of row kids; specs = s; edges = kid.edges } ∷ more)) same
      ∙ ap (λ (rect : Rect). rect ∷ rects_from spot (before ++ kid_under specs row kids ∷ []) more) place
      ∙ ap (λ (list : List Rect). rect_at_place spot before row kids specs edges ∷ list) g

abbrev edges_in : Specs → List Requested → List (Option Rect)
edges_in specs kids = map (λ (kid : Final). kid.edges) (finals_in specs kids)

-- children that were last measured under their final specs
record Both (spot : Spot) (before : List Measured) (specs : Specs) (held : ℕ → Held) (list : Forest Row) (kids : List Requested) : Type 0 where
  pub lies : laid_from spot before (finals_in specs kids) ≡ group_kids spot before held list
  pub places : rects_from spot before (finals_in specs kids) ≡ group_places spot before held list

placed_kids : (spot : Spot) (before : List Measured) (specs : Specs) (held : ℕ → Held) (list : Forest Row) (kids : List Requested)
    → children_in kids ≡ children_of (views_of list)
    → map (λ (kid : Final). kid.specs) (finals_in specs kids) ≡ last_specs held list
    → (spot.view.class ≡ RelativeLayout → last_edges held list ≡ edges_in specs kids)
    → Both spot before specs held list kids
placed_kids spot before specs held Nothing [] same finals edges = record { lies = refl; places = refl }
placed_kids spot before specs held Nothing (kid ∷ kids) same finals edges = absurd (cc)
placed_kids spot before specs held (Branch row below siblings) [] same finals edges = absurd (cc)
placed_kids spot before specs held (Branch row below siblings) (kid ∷ kids) same finals edges =
    let child : kid.child ≡ child_of row below = cons_head same in
    let rest : children_in kids ≡ children_of (views_of siblings) = cons_tail same in
    let now = specs_of (held row.key).state in
    let sides = sides_of (held row.key).state.edges in
    let own : Final = record { child = kid.child; specs = last_of specs kid.requests; edges = kid.edges } in
    elim (cases_Bool (is_shown row.view.facts)) [
      | inl here ↦
          let here' : is_shown kid.child.facts ≡ true = ap (λ (child : Child). is_shown child.facts) child ∙ here in
          let whole : finals_in specs (kid ∷ kids) ≡ own ∷ finals_in specs kids = rw here' refl in
          let last : last_specs held (Branch row below siblings) ≡ now ∷ last_specs held siblings = rw here refl in
          let sizes : kid_sizes now row below ≡ kid_under now row below ∷ [] = rw here refl in
          let both : last_of specs kid.requests ∷ map (λ (kid : Final). kid.specs) (finals_in specs kids) ≡ now ∷ last_specs held siblings =
          ap (λ (list : List Final). map (λ (kid : Final). kid.specs) list) (sym whole) ∙ finals ∙ last in
          let kept : last_edges held (Branch row below siblings) ≡ sides ∷ last_edges held siblings = rw here refl in
          let all : spot.view.class ≡ RelativeLayout → sides ∷ last_edges held siblings ≡ kid.edges ∷ edges_in specs kids =
          λ class. sym kept ∙ edges class ∙ ap (λ (list : List Final). map (λ (kid : Final). kid.edges) list) whole in
          let place = place_sides spot.view.class spot before (kid_under now row below) kid.edges sides (λ tied. sym (cons_head (all (relative_is spot.view.class tied)))) in
          let others = placed_kids spot (before ++ kid_under now row below ∷ []) specs held siblings kids rest (cons_tail both) (λ class. cons_tail (all class)) in
          let spots : group_places spot before held (Branch row below siblings) ≡ rect_at_place spot before row below now sides ∷ group_places spot (before ++ kid_sizes now row below) held siblings = rw here refl in
          record {
            lies = ap (laid_from spot before) whole
                ∙ one_laid spot before own row below now sides (finals_in specs kids) child place (cons_head both) _ others.lies
                ∙ ap (λ more. laid_views row.view (views_of below) now (rect_at_place spot before row below now sides) ++ group_kids spot (before ++ more) held siblings) (sym sizes);
            places = ap (rects_from spot before) whole
                ∙ one_placed spot before own row below now sides (finals_in specs kids) child place (cons_head both) _ others.places
                ∙ ap (λ more. rect_at_place spot before row below now sides ∷ group_places spot (before ++ more) held siblings) (sym sizes)
                ∙ sym spots;
          }
      | inr gone ↦
          let gone' : is_shown kid.child.facts ≡ false = ap (λ (child : Child). is_shown child.facts) child ∙ gone in
          let whole : finals_in specs (kid ∷ kids) ≡ finals_in specs kids = rw gone' refl in
          let last : last_specs held (Branch row below siblings) ≡ last_specs held siblings = rw gone refl in
          let kept : last_edges held (Branch row below siblings) ≡ last_edges held siblings = rw gone refl in
          let sizes : kid_sizes now row below ≡ [] = rw gone refl in
          let others = placed_kids spot before specs held siblings kids rest (ap (λ (list : List Final). map (λ (kid : Final). kid.specs) list) (sym whole) ∙ finals ∙ last)
          (λ class. sym kept ∙ edges class ∙ ap (λ (list : List Final). map (λ (kid : Final). kid.edges) list) whole) in
          let spots : group_places spot before held (Branch row below siblings) ≡ group_places spot (before ++ kid_sizes now row below) held siblings = rw gone refl in
          record {
            lies = ap (laid_from spot before) whole ∙ others.lies
                ∙ ap (λ before. group_kids spot before held siblings) (sym (append-nil before))
                ∙ ap (λ more. group_kids spot (before ++ more) held siblings) (sym sizes)
                ∙ ap (λ own. own ++ group_kids spot (before ++ kid_sizes now row below) held siblings) (sym (laid_gone row below now _ gone));
            places = ap (rects_from spot before) whole ∙ others.places
                ∙ ap (λ before. group_places spot before held siblings) (sym (append-nil before))
                ∙ ap (λ more. group_places spot (before ++ more) held siblings) (sym sizes)
                ∙ sym spots;
          }
    ]

-- the same from the last to the first
abbrev pub laid_back_from : Spot → List Final → List Laid
laid_back_from spot kids = flat_map (λ (kid : Placed). kid.child.lay kid.specs kid.rect) (placed_back spot kids)

abbrev rects_back_from : Spot → List Final → List Rect
rects_back_from spot kids = map (λ (kid : Placed). kid.rect) (placed_back spot kids)

abbrev kid_laid : Spot → List Measured → Row → Forest Row → Specs → Option Rect → List Laid
kid_laid spot before row kids specs edges = laid_views row.view (views_of kids) specs (rect_at_place spot before row kids specs edges)

one_more_back : (spot : Spot) (following sizes : List Measured) (kid : Final) (row : Row) (kids : Forest Row) (specs : Specs) (edges : Option Rect) (rest : List Laid)
    → kid.child ≡ child_of row kids → (kid.specs ≡ specs) → following ≡ sizes
    → place_in spot sizes (kid_under specs row kids) kid.edges ≡ place_in spot sizes (kid_under specs row kids) edges
    → kid.child.lay kid.specs (place_in spot following (final_size kid) kid.edges) ++ rest ≡ kid_laid spot sizes row kids specs edges ++ rest
one_more_back spot following sizes kid row kids specs edges rest e f b n =
    ap (λ (child : Child). child.lay kid.specs (place_in spot following (final_size (record { child = child; specs = kid.specs; edges = kid.edges })) kid.edges) ++ rest) e
    ∙ ap (λ (s : Specs). laid_views row.view (views_of kids) s (place_in spot following (kid_under s row kids) kid.edges) ++ rest) f
    ∙ ap (λ (list : List Measured). laid_views row.view (views_of kids) specs (place_in spot list (kid_under specs row kids) kid.edges) ++ rest) b
    ∙ ap (λ (rect : Rect). laid_views row.view (views_of kids) specs rect ++ rest) n

one_rect_back : (spot : Spot) (following sizes : List Measured) (kid : Final) (row : Row) (kids : Forest Row) (specs : Specs) (edges : Option Rect) (rest : List Rect)
    → kid.child ≡ child_of row kids → kid.specs ≡ specs → following ≡ sizes
    → rect_at_place spot sizes row kids specs kid.edges ≡ rect_at_place spot sizes row kids specs edges
    → place_in spot following (final_size kid) kid.edges ∷ rest ≡ rect_at_place spot sizes row kids specs edges ∷ rest
one_rect_back spot following sizes kid row kids specs edges rest e f b n =
    ap (λ (child : Child). place_in spot following (final_size (record { child = child; specs = kid.specs; edges = kid.edges })) kid.edges ∷ rest) e
    ∙ ap (λ (s : Specs). place_in spot following (kid_under s row kids) kid.edges ∷ rest) f
    ∙ ap (λ (list : List Measured). place_in spot list (kid_under specs row kids) kid.edges ∷ rest) b
    ∙ ap (λ (rect : Rect). rect ∷ rest) n

abbrev following_of : Specs → List Requested → List Measured
following_of specs kids = reverse (map final_size (finals_in specs kids))

reverse_first : (x : Measured) (xs : List Measured) → reverse (x ∷ xs) ≡ reverse xs ++ x ∷ []
reverse_first x xs = reverse-append (x ∷ []) xs

-- the layout of children that were last measured under their final specs, and what they take of the line
record LaidBack (spot : Spot) (specs : Specs) (held : ℕ → Held) (list : Forest Row) (kids : List Requested) : Type 0 where
  pub lies : laid_back_from spot (finals_in specs kids) ≡ group_kids_back spot held list
  pub places : rects_back_from spot (finals_in specs kids) ≡ places_back spot held list
  pub following : following_of specs kids ≡ sizes_back held list

placed_kids_back : (spot : Spot) (specs : Specs) (held : ℕ → Held) (list : Forest Row) (kids : List Requested)
    → children_in kids ≡ children_of (views_of list)
    → map (λ (kid : Final). kid.specs) (finals_in specs kids) ≡ last_specs held list
    → (spot.view.class ≡ RelativeLayout → last_edges held list ≡ edges_in specs kids)
    → LaidBack spot specs held list kids
placed_kids_back spot specs held Nothing [] same finals edges = record { lies = refl; places = refl; following = refl }
placed_kids_back spot specs held Nothing (kid ∷ kids) same finals edges = absurd (cc)
placed_kids_back spot specs held (Branch row below siblings) [] same finals edges = absurd (cc)
placed_kids_back spot specs held (Branch row below siblings) (kid ∷ kids) same finals edges =
    let child : kid.child ≡ child_of row below = cons_head same in
    let rest : children_in kids ≡ children_of (views_of siblings) = cons_tail same in
    let now = specs_of (held row.key).state in
    let sides = sides_of (held row.key).state.edges in
    let own : Final = record { child = kid.child; specs = last_of specs kid.requests; edges = kid.edges } in
    elim (cases_Bool (is_shown row.view.facts)) [
      | inl here ↦
          let here' : is_shown kid.child.facts ≡ true = ap (λ (child : Child). is_shown child.facts) child ∙ here in
          let whole : finals_in specs (kid ∷ kids) ≡ own ∷ finals_in specs kids = rw here' refl in
          let last : last_specs held (Branch row below siblings) ≡ now ∷ last_specs held siblings = rw here refl in
          let sizes : kid_sizes now row below ≡ kid_under now row below ∷ [] = rw here refl in
          let both : last_of specs kid.requests ∷ map (λ (kid : Final). kid.specs) (finals_in specs kids) ≡ now ∷ last_specs held siblings =
          ap (λ (list : List Final). map (λ (kid : Final). kid.specs) list) (sym whole) ∙ finals ∙ last in
          let kept : last_edges held (Branch row below siblings) ≡ sides ∷ last_edges held siblings = rw here refl in
          let all : spot.view.class ≡ RelativeLayout → sides ∷ last_edges held siblings ≡ kid.edges ∷ edges_in specs kids =
          λ class. sym kept ∙ edges class ∙ ap (λ (list : List Final). map (λ (kid : Final). kid.edges) list) whole in
          let more = placed_kids_back spot specs held siblings kids rest (cons_tail both) (λ class. cons_tail (all class)) in
          let size : final_size own ≡ kid_under now row below =
          ap (λ (child : Child). final_size (record { child = child; specs = own.specs; edges = own.edges })) child ∙ ap (λ (s : Specs). kid_under s row below) (cons_head both) in
          let spots : places_back spot held (Branch row below siblings) ≡ rect_at_place spot (sizes_back held siblings) row below now sides ∷ places_back spot held siblings = rw here refl in
          record {
            lies = ap (laid_back_from spot) whole
                ∙ one_more_back spot (following_of specs kids) (sizes_back held siblings) own row below now sides (laid_back_from spot (finals_in specs kids)) child (cons_head both) more.following
                (place_sides spot.view.class spot (sizes_back held siblings) (kid_under now row below) kid.edges sides (λ tied. sym (cons_head (all (relative_is spot.view.class tied)))))
                ∙ ap (λ (list : List Laid). kid_laid spot (sizes_back held siblings) row below now sides ++ list) more.lies;
            places = ap (rects_back_from spot) whole
                ∙ one_rect_back spot (following_of specs kids) (sizes_back held siblings) own row below now sides (rects_back_from spot (finals_in specs kids)) child (cons_head both) more.following
                (place_sides spot.view.class spot (sizes_back held siblings) (kid_under now row below) kid.edges sides (λ tied. sym (cons_head (all (relative_is spot.view.class tied)))))
                ∙ ap (λ (list : List Rect). rect_at_place spot (sizes_back held siblings) row below now sides ∷ list) more.places
                ∙ sym spots;
            following = ap (λ (list : List Final). reverse (map final_size list)) whole
                ∙ reverse_first (final_size own) (map final_size (finals_in specs kids))
                ∙ ap (λ (list : List Measured). list ++ final_size own ∷ []) more.following
                ∙ ap (λ (size : Measured). sizes_back held siblings ++ size ∷ []) size
                ∙ ap (λ (list : List Measured). sizes_back held siblings ++ list) (sym sizes);
          }
      | inr gone ↦
          let gone' : is_shown kid.child.facts ≡ false = ap (λ (child : Child). is_shown child.facts) child ∙ gone in
          let whole : finals_in specs (kid ∷ kids) ≡ finals_in specs kids = rw gone' refl in
          let last : last_specs held (Branch row below siblings) ≡ last_specs held siblings = rw gone refl in
          let kept : last_edges held (Branch row below siblings) ≡ last_edges held siblings = rw gone refl in
          let sizes : kid_sizes now row below ≡ [] = rw gone refl in
          let more = placed_kids_back spot specs held siblings kids rest (ap (λ (list : List Final). map (λ (kid : Final). kid.specs) list) (sym whole) ∙ finals ∙ last)
          (λ class. sym kept ∙ edges class ∙ ap (λ (list : List Final). map (λ (kid : Final). kid.edges) list) whole) in
          let spots : places_back spot held (Branch row below siblings) ≡ places_back spot held siblings = rw gone refl in
          record {
            lies = ap (laid_back_from spot) whole ∙ more.lies
                ∙ ap (λ own. own ++ group_kids_back spot held siblings) (sym (laid_gone row below now _ gone));
            places = ap (rects_back_from spot) whole ∙ more.places ∙ sym spots;
            following = ap (λ (list : List Final). reverse (map final_size list)) whole ∙ more.following
                ∙ sym (append-nil (sizes_back held siblings)) ∙ ap (λ (list : List Measured). sizes_back held siblings ++ list) (sym sizes);
          }
    ]

-- in the order of the group
abbrev pub laid_in : Spot → List Final → List Laid
laid_in spot kids = flat_map (λ (kid : Placed). kid.child.lay kid.specs kid.rect) (placed_in spot kids)

abbrev rects_in : Spot → List Final → List Rect
rects_in spot kids = map (λ (kid : Placed). kid.rect) (placed_in spot kids)

record All (spot : Spot) (specs : Specs) (held : ℕ → Held) (list : Forest Row) (kids : List Requested) : Type 0 where
  pub lies : laid_in spot (finals_in specs kids) ≡ group_all spot held list
  pub places : rects_in spot (finals_in specs kids) ≡ places_all spot held list

placed_all : (spot : Spot) (specs : Specs) (held : ℕ → Held) (list : Forest Row) (kids : List Requested)
    → children_in kids ≡ children_of (views_of list)
    → map (λ (kid : Final). kid.specs) (finals_in specs kids) ≡ last_specs held list
    → (spot.view.class ≡ RelativeLayout → last_edges held list ≡ edges_in specs kids)
    → All spot specs held list kids
placed_all spot specs held list kids same finals edges =
    let back = placed_kids_back spot specs held list kids same finals edges in
    let on = placed_kids spot [] specs held list kids same finals edges in
    elim (cases_Bool (places_backwards spot.view.class spot.view.facts)) [
      | inl is ↦ record { lies = rw is back.lies; places = rw is back.places }
      | inr not ↦ record { lies = rw not on.lies; places = rw not on.places }
    ]

-- a view whose children were last measured under their final specs
module _ (held : ℕ → Held) (row : Row) (kids : Forest Row) (specs : Specs) (room : Size) (spot : Spot)
    (finals : last_specs held kids ≡ final_specs row.view (views_of kids) specs)
    (edges : row.view.class ≡ RelativeLayout → last_edges held kids ≡ final_edges row.view (views_of kids) specs)
    (is : spot ≡ record { view = for_layout row.view; specs = specs; room = room; total = total_size row.view (views_of kids) specs }) where
  abbrev own_spot : Spot
  own_spot = record { view = for_layout row.view; specs = specs; room = room; total = total_size row.view (views_of kids) specs }

  both : All own_spot specs held kids (course_by (for_layout row.view) (children_of (views_of kids)) specs).kids
  both =
      let view = for_layout row.view in
      let all = children_of (views_of kids) in
      placed_all own_spot specs held kids (course_by view all specs).kids (course_children (manner_of view specs) view all specs) (sym finals) edges

  -- its layout
  pub laid_group : (rect : Rect) → size_of_rect rect ≡ room → is_shown row.view.facts ≡ true
      → laid_views row.view (views_of kids) specs rect ≡ record { number = row.view.number; rect = rect } ∷ group_all spot held kids
  laid_group rect size here =
      let entry : Laid = record { number = row.view.number; rect = rect } in
      rw (here, is, size) (ap (λ (more : List Laid). entry ∷ more) both.lies)

  -- where it places them
  pub places_group : placement row.view (views_of kids) specs room ≡ places_all spot held kids
  places_group = rw is both.places
