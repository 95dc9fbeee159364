-- What is used instead of a child of a relative layout that is gone.
use Rattle.std.specs.Prelude.{ℕ, ◌<◌, ◌-◌, ◌≡◌, Bool, List, length, Option, IfSome}
use Rattle.measure_pass.specs.Siblings.{IsKidAt, kept_spans, kids_in}
use Rattle.measure_pass.specs.declared.anchors.Search.{Search}
use Rattle.measure_pass.specs.declared.replacements.Replacement.{Replacement}
use Rattle.measure_pass.specs.declared.replacements.Replacements.{Replacements}
use Rattle.view_model.specs.declared.class.Class.TheVariants.{RelativeLayout}
use Rattle.view_model.specs.declared.relative.Anchor.{Anchor}
use Rattle.view_model.specs.declared.relative.Axis.{Axis}
use Rattle.view_model.specs.declared.relative.Tie.TheVariants.{Before, After, AlignNear, AlignFar}
use Rattle.view_model.specs.Course.{Child}
use Rattle.view_model.specs.Facts.{is_shown}
use Rattle.view_model.specs.Forest.{Forest}
use Rattle.view_model.specs.RelativeCourse.{anchor_by, child_at, links_of}
use Rattle.view_model.specs.SiblingRules.{anchor_within, named_sibling}
use Rattle.view_tree.specs.Rows.{Row, children_of_first, count_of_key, part_from, siblings_from}
use Rattle.view_tree.specs.Views.{IsLive, Views, class_of, held_of}

-- a search can begin at a child: it and the group are in the tree, and the group is a relative layout
pub record MaySearch (views : Views) (search : Search) (key : ℕ) : Type 0 where
  pub live : IsLive views search.view
  pub siblings : class_of views search.view ≡ RelativeLayout
  pub kid : IsLive views key

-- the anchor of a child by a search, at the place that the child has in the group
abbrev pub IsAnchorBy : Views → Search → ℕ → Option Anchor → Type 0
IsAnchorBy views search kid anchor =
    let list = children_of_first (part_from search.view views.tree) in
    (place : ℕ)
    → part_from kid views.tree ≡ siblings_from place list
    → anchor
    ≡ anchor_by search.rtl search.axis (kids_in list) (kept_spans search.axis (held_of views) list) search.tie place

-- what is used instead of the gone child of a place, to which another one is tied: the sibling to which its own rule
-- leads in the same way, through all the others at most
abbrev pub instead_of : Search → List Child → ℕ → Option ℕ
instead_of search kids =
    anchor_within (length kids - 1) (λ sibling. is_shown (child_at kids sibling).facts)
    (named_sibling search.rtl search.axis search.tie (links_of kids))

-- a gone child is replaced by what is used instead of it
abbrev pub IsReplaced : Forest Row → Search → Replacement → Type 0
IsReplaced tree search replaced =
    let list = children_of_first (part_from search.view tree) in
    ((place : ℕ) → part_from replaced.gone tree ≡ siblings_from place list
    → IsKidAt tree list (instead_of search (kids_in list) place) replaced.by)
    × IfSome replaced.by (λ key. 0 < count_of_key key tree)

-- each of these is, in a group, on an axis
abbrev pub AreReplaced : Forest Row → ℕ → Axis → Bool → Replacements → Type 0
AreReplaced tree view axis rtl replaced =
    IfSome replaced.before (IsReplaced tree (record { view = view; axis = axis; rtl = rtl; tie = Before }))
    × IfSome replaced.after (IsReplaced tree (record { view = view; axis = axis; rtl = rtl; tie = After }))
    × IfSome replaced.align_near (IsReplaced tree (record { view = view; axis = axis; rtl = rtl; tie = AlignNear }))
    × IfSome replaced.align_far (IsReplaced tree (record { view = view; axis = axis; rtl = rtl; tie = AlignFar }))
