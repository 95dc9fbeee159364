-- Scenes that are the same.
use Rattle.std.proofs.Common.{◌≡◌, ℕ, List, ◌∙◌, ap}
use Rattle.view_model.specs.Forest.{Forest}
use Rattle.view_model.specs.Geometry.{Laid}
use Rattle.view_model.specs.PlainTree.{PlainView}
use Rattle.view_tree.specs.tree.Requests.{requested}
use Rattle.view_tree.specs.Views.{Held, SameTree, Views, held_of, laid_rows, plain_rows}
use Rattle.view_tree.proofs.forest.PlainLaws.{plain_along}
use Rattle.view_tree.proofs.values.GeometryLaws.{laid_along}
use Rattle.tree_edits.specs.Scene.{EditScene, scene_of}
use Rattle.tree_edits.proofs.RequestLaws.{requested_place}

-- scenes are the same if their parts are
abbrev pub scene : Forest PlainView → ℕ → List Laid → EditScene
scene tree next geometry = record { tree = tree; next = next; geometry = geometry }

pub same_scene : (t u : Forest PlainView) (m n : ℕ) (g h : List Laid) → t ≡ u → m ≡ n → g ≡ h → scene t m g ≡ scene u n h
same_scene t u m n g h trees numbers geometries = cc

-- requests leave a scene
pub requested_scene : (mid new : Views) (views : List ℕ) → SameTree mid new → ((key : ℕ) → held_of new key ≡ requested (held_of mid) views mid.tree key) → scene_of new ≡ scene_of mid
requested_scene mid new views same held =
    same_scene _ _ _ _ _ _
    (ap (plain_rows (held_of new)) same.tree
    ∙ plain_along (held_of mid) (held_of new) mid.tree (λ key live. ap (λ (h : Held). h.offset) (held key) ∙ (requested_place (held_of mid) views mid.tree key).offset))
    same.next
    (ap (laid_rows (held_of new)) same.tree
    ∙ laid_along (held_of mid) (held_of new) mid.tree (λ key live. ap (λ (h : Held). h.state.bounds) (held key) ∙ (requested_place (held_of mid) views mid.tree key).bounds))
