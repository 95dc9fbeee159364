-- Which children name which ids on an axis, as lists by the last child with an id.
use Rattle.std.specs.Prelude.{◌≡◌, ℕ, ◌<◌, ◌≤◌, ◌==◌, true, if◌then◌else◌, List, [], ◌∷◌, length, map, nat_eq, Option}
use Rattle.std.specs.Prelude.{IfSome, Some, slice_index, slice_index_or, Vec, ◌++◌, None, slice_set}
use Rattle.std.specs.declared.alloc.Global.{Global}
use Rattle.indexmap.specs.IndexMap.{IndexMap, get as place_in}
use Rattle.relative_layout.specs.declared.ordering.naming.Naming.{Naming}
use Rattle.view_model.specs.declared.facts.Rules.{Rules}
use Rattle.view_model.specs.declared.relative.Axis.{Axis}
use Rattle.view_model.specs.declared.relative.Axis.TheVariants.{Horizontal, Vertical}
use Rattle.view_model.specs.declared.relative.Link.{Link}
use Rattle.view_model.specs.Numbers.{max_views}
use Rattle.view_model.specs.SiblingRules.{last_with_id, names, no_link, value_of}
use Rattle.view_model.specs.Verbs as verb

-- the ids that rules name on an axis, filled up with zeros
abbrev pub padded_ids : Axis → Rules → List ℕ
padded_ids Horizontal rules =
    value_of rules verb.left_of ∷ value_of rules verb.right_of ∷ value_of rules verb.align_left
    ∷ value_of rules verb.align_right
    ∷ value_of rules verb.start_of ∷ value_of rules verb.end_of ∷ value_of rules verb.align_start
    ∷ value_of rules verb.align_end ∷ []
padded_ids Vertical rules =
    value_of rules verb.above ∷ value_of rules verb.below ∷ value_of rules verb.align_top
    ∷ value_of rules verb.align_bottom ∷ 0 ∷ 0 ∷ 0 ∷ 0 ∷ []

abbrev pub link_at : List Link → ℕ → Link
link_at kids place = slice_index_or kids place no_link

abbrev pub id_at : List Link → ℕ → ℕ
id_at kids place = (link_at kids place).id

-- lists in lists, and one of them
abbrev pub lists_of : List (Vec ℕ Global) → List (List ℕ)
lists_of rows = map (λ (row : Vec ℕ Global). row.items) rows

abbrev pub row_at : List (List ℕ) → ℕ → List ℕ
row_at rows at = slice_index_or rows at []

-- these lists, with a place more in one of them, if it is given
abbrev pub with_place : Option ℕ → ℕ → List (List ℕ) → List (List ℕ)
with_place None place rows = rows
with_place (Some at) place rows = slice_set rows at (row_at rows at ++ place ∷ [])

-- a list has a place
abbrev pub Has : List ℕ → ℕ → Type 0
Has row place = (p : ℕ) × (p < length row) × (slice_index row p ≡ place)

-- the entry of a table for an id, once a child with this one is the last so far
unfoldable pub with_last : ℕ → ℕ → Option ℕ → ℕ → Option ℕ
with_last id place before i = if id == 0 then before else if id == i then Some place else before

-- a child that names the id of another
abbrev pub NamesId : Axis → List Link → ℕ → ℕ → Type 0
NamesId axis kids named place = names axis (link_at kids place).rules (id_at kids named) ≡ true

-- the ids that a child names on an axis are only those of children before it
abbrev pub NamesBack : Axis → List Link → ℕ → Type 0
NamesBack axis kids place =
    (k : ℕ) → k < 8
    → IfSome (last_with_id kids (slice_index (padded_ids axis (link_at kids place).rules) k)) (λ last. last < place)

-- for the last child with an id, the children below a number that name it; no other children are in any list
pub record AreNamers (axis : Axis) (kids : List Link) (below : ℕ) (rows : List (List ℕ)) : Type 0 where
  pub size : length rows ≡ length kids
  pub inside : (q p : ℕ) → p < length (row_at rows q) → slice_index (row_at rows q) p < length kids
  pub sound : (q p : ℕ) → p < length (row_at rows q) → NamesId axis kids q (slice_index (row_at rows q) p)
  pub whole : (q place : ℕ) → place < below → last_with_id kids (id_at kids q) ≡ Some q → NamesId axis kids q place
      → Has (row_at rows q) place

-- no more children than a tree has views
abbrev pub AreFewKids : List Link → Type 0
AreFewKids kids = length kids ≤ max_views

-- one of these children is at a place
abbrev pub HasPlace : List Link → ℕ → Type 0
HasPlace kids place = place < length kids

-- a table has for each id the last child with it
abbrev pub FindsLast : {S : Type 0} → List Link → IndexMap ℕ ℕ S → Type 0
FindsLast kids lasts = (id : ℕ) → place_in nat_eq lasts id ≡ last_with_id kids id

-- the tables of some children on the axis that they are for
pub record IsNaming (kids : List Link) (naming : Naming) : Type 0 where
  pub table : FindsLast kids naming.lasts
  pub rows : AreNamers naming.axis kids (length kids) (lists_of naming.namers.items)
