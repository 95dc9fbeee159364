-- A request at a view removes it from the requesters.
use Rattle.std.proofs.Common.{◌≡◌, ℕ, ◌<◌, ◌≤◌, Bool, true, false, List, [], ◌∷◌, arith, ap, ◌∙◌, sym, refl, subst, inl, inr}
use Rattle.std.specs.Prelude.{if◌then◌else◌}
use Rattle.std.proofs.lemmas.Bool.{both_ways, cases_Bool, cases_eq}
use Rattle.view_model.specs.Forest.{Forest, Nothing, Branch}
use Rattle.view_model.specs.Measuring.{Specs}
use Rattle.view_tree.specs.Rows.{Row, count_of_key}
use Rattle.view_tree.specs.Views.{Held}
use Rattle.kept_views.proofs.KeptFrames.{none_found, outer}
use Rattle.kept_views.specs.Kept.{Around, Cleared, HiddenView, Kept, Reached, ShownView, hidden_in, inside, loose, reach}
use Rattle.view_tree.specs.tree.Requests.{among, asking, forced_one, pressed}
use Rattle.kept_views.specs.Pressing.{IsPressed, Pressed, Touched}
use Rattle.kept_views.proofs.edits.Paths.{FlagsAbove, Way, kept_forces, more_than, reach_more, way}
use Rattle.kept_views.proofs.edits.PressedKept.{forced_touched, pressed_kept}

pub pressed_in : (held : ℕ → Held) (keys : List ℕ) (key : ℕ) → among key keys ≡ true → pressed held keys key ≡ forced_one (held key)
pressed_in held keys key e = rw e refl

pub pressed_out : (held : ℕ → Held) (keys : List ℕ) (key : ℕ) → among key keys ≡ false → pressed held keys key ≡ held key
pressed_out held keys key e = rw e refl

pub same_touched : (old new : Held) → new ≡ old → Touched old new
same_touched old new e = record {
  specs = ap (λ (own : Held). let s : Specs = record { across = own.state.ws; down = own.state.hs } in s) e;
  bounds = ap (λ (own : Held). own.state.bounds) e;
  edges = ap (λ (own : Held). own.state.edges) e;
  forced = λ f. ap (λ (own : Held). own.state.forced) e ∙ f;
  hidden = λ h. subst HiddenView (sym e) h;
}

-- the views that are, or are above, one that takes part in layout are forced, with empty caches
abbrev pub Done : ℕ → (ℕ → Held) → Around → Forest Row → Type 0
Done view held up Nothing = Unit {0}
Done view held up (Branch row kids siblings) =
    (hidden_in up row ≡ false → 0 < reach view (Branch row kids Nothing) → IsPressed up (held row.key))
    × Done view held (inside up row (held row.key)) kids
    × Done view held up siblings

open_row : (v w : Bool) → (if v then w else true) ≡ false → v ≡ true
open_row true w e = refl
open_row false w e = absurd (let n : true ≡ false = e in cc)

module _ (view : ℕ) (keys : List ℕ) (held : ℕ → Held) where
  pub way_done : (h f f' : Bool) (list : Forest Row) → Way view keys held (record { hidden = h; forced = f }) list → FlagsAbove view held (record { hidden = h; forced = f }) list → Cleared held list
      → (h ≡ false → 0 < reach view list → f' ≡ true) → Done view (pressed held keys) (record { hidden = h; forced = f' }) list
  way_done h f f' Nothing w flags clear top = tt
  way_done h f f' (Branch row kids siblings) w flags clear top = (
    λ shown s. own (top (outer _ _ shown) (let s : 0 < reach view (Branch row kids Nothing) = s in omega arith)) s,
    way_done (hidden_in (record { hidden = h; forced = f }) row) (held row.key).state.forced (pressed held keys row.key).state.forced kids w.2 flags.1 clear.1
        (λ shown s. (own_forced (let m = reach_more view row kids Nothing (open_row _ _ shown) in omega arith)).0),
    way_done h f f' siblings w.3 flags.2 clear.2 (λ shown s. top shown (omega arith)),
  )
    where
      own_forced : 0 < reach view (Branch row kids Nothing) → ((pressed held keys row.key).state.forced ≡ true) × ((pressed held keys row.key).cache ≡ [])
      own_forced s = elim (cases_Bool (among row.key keys)) [
        | inl in_keys ↦ let e = pressed_in held keys row.key in_keys in (ap (λ (own : Held). own.state.forced) e, ap (λ (own : Held). own.cache) e)
        | inr out ↦
            let e = pressed_out held keys row.key out in
            let forced = w.1 out s flags.1 in
            (ap (λ (own : Held). own.state.forced) e ∙ forced, ap (λ (own : Held). own.cache) e ∙ clear.0 forced)
      ]

      own : f' ≡ true → 0 < reach view (Branch row kids Nothing) → IsPressed (record { hidden = h; forced = f' }) (pressed held keys row.key)
      own above s = let o = own_forced s in record { forced = o.0; cache = o.1; above = above }

  pub way_pressed : (more : List ℕ) (h f f' : Bool) (list : Forest Row) → Way view keys held (record { hidden = h; forced = f }) list
      → Done view (pressed held keys) (record { hidden = h; forced = f' }) list → Pressed (view ∷ more) more held (pressed held keys) (record { hidden = h; forced = f' }) list
  way_pressed more h f f' Nothing w done = tt
  way_pressed more h f f' (Branch row kids siblings) w done = (
    elim (cases_Bool (among row.key keys)) [
      | inl in_keys ↦ inr (subst (Touched (held row.key)) (sym (pressed_in held keys row.key in_keys)) (forced_touched (held row.key)), λ shown none. done.0 shown (w.0 in_keys))
      | inr out ↦
          let e = pressed_out held keys row.key out in
          elim (cases_eq (reach view (Branch row kids Nothing)) 0) [
            | inl z ↦ inl (e, λ none. rw (z, none) refl)
            | inr nz ↦ inr (same_touched _ _ e, λ shown none. done.0 shown (more_than _ nz))
          ]
    ],
    way_pressed more (hidden_in (record { hidden = h; forced = f }) row) (held row.key).state.forced (pressed held keys row.key).state.forced kids w.2 done.1,
    way_pressed more h f f' siblings w.3 done.2,
  )

pub cleared-pressed : (held : ℕ → Held) (keys : List ℕ) (list : Forest Row) → Cleared held list → Cleared (pressed held keys) list
cleared-pressed held keys Nothing c = tt
cleared-pressed held keys (Branch row kids siblings) c = (
  elim (cases_Bool (among row.key keys)) [
    | inl e ↦ λ f. ap (λ (own : Held). own.cache) (pressed_in held keys row.key e)
    | inr e ↦ subst (λ (own : Held). own.state.forced ≡ true → own.cache ≡ []) (sym (pressed_out held keys row.key e)) c.0
  ],
  cleared-pressed held keys kids c.1,
  cleared-pressed held keys siblings c.2,
)

-- the state of a view that shows how far layout is in a pass
pub record Marks (old new : Held) : Type 0 where
  pub needed : new.state.layout_needed ≡ old.state.layout_needed
  pub first : new.state.measure_first ≡ old.state.measure_first

pub reached-marks : (old new : ℕ → Held) (up : Bool) (list : Forest Row) → ((key : ℕ) → Marks (old key) (new key)) → Reached old up list → Reached new up list
reached-marks old new up Nothing same r = tt
reached-marks old new up (Branch row kids siblings) same r =
    let own = same row.key in (
      λ n. r.0 (sym own.needed ∙ n),
      λ m. own.needed ∙ r.1 (sym own.first ∙ m),
      subst (λ b. Reached new b kids) (sym own.needed) (reached-marks old new (old row.key).state.layout_needed kids same r.2),
      reached-marks old new up siblings same r.3,
    )

pub pressed_marks : (held : ℕ → Held) (keys : List ℕ) (key : ℕ) → Marks (held key) (pressed held keys key)
pressed_marks held keys key = elim (cases_Bool (among key keys)) [
  | inl e ↦ subst (Marks (held key)) (sym (pressed_in held keys key e)) (record { needed = refl; first = refl })
  | inr e ↦ subst (Marks (held key)) (sym (pressed_out held keys key e)) (record { needed = refl; first = refl })
]

module _ (view : ℕ) (held : ℕ → Held) (tree : Forest Row) (once : (key : ℕ) → count_of_key key tree ≤ 1) (live : 0 < count_of_key view tree) where
  own_way : (keys : List ℕ) → Kept keys held loose tree → Way view (asking held view tree) held loose tree
  own_way keys k = way view (asking held view tree) held loose [] tree once live (kept_forces keys held loose tree k) refl (λ key here. refl)

  pub request_done : (keys : List ℕ) → Kept keys held loose tree → FlagsAbove view held loose tree → Cleared held tree → Done view (pressed held (asking held view tree)) loose tree
  request_done keys k flags clear = way_done view (asking held view tree) held false true true tree (own_way keys k) flags clear (λ shown s. refl)

  pub request_kept : (more : List ℕ) → Kept (view ∷ more) held loose tree → FlagsAbove view held loose tree → Cleared held tree
      → Kept more (pressed held (asking held view tree)) loose tree
  request_kept more k flags clear =
      pressed_kept (view ∷ more) more held (pressed held (asking held view tree)) false true true tree
      (way_pressed view (asking held view tree) held more false true true tree (own_way (view ∷ more) k) (request_done (view ∷ more) k flags clear)) (λ e. e) k

-- a view above which everything is forced is no longer a requester
pub done_kept : (view : ℕ) (more : List ℕ) (held : ℕ → Held) (up : Around) (list : Forest Row) → Done view held up list → Kept (view ∷ more) held up list → Kept more held up list
done_kept view more held up Nothing d k = tt
done_kept view more held up (Branch row kids siblings) d k = (
  k.0,
  λ shown. let v = k.1 shown in elim (cases_eq (reach view (Branch row kids Nothing)) 0) [
    | inl z ↦ record {
      flags = λ none. v.flags (rw (z, none) refl);
      cache = λ none. v.cache (rw (z, none) refl);
      sized = λ none. v.sized (rw (z, none) refl);
      placed = λ none. v.placed (rw (z, none) refl);
      ranged = λ none. v.ranged (rw (z, none) refl);
    }
    | inr nz ↦ emptied more held up (held row.key) row kids (d.0 shown (more_than _ nz))
  ],
  done_kept view more held (inside up row (held row.key)) kids d.1 k.2,
  done_kept view more held up siblings d.2 k.3,
)
  where
    emptied : (keys : List ℕ) (held : ℕ → Held) (up : Around) (own : Held) (row : Row) (kids : Forest Row) → IsPressed up own → ShownView keys held up own row kids
    emptied keys held up own row kids p = record {
      flags = λ z y. p.above;
      cache = λ z specs size y. none_found own specs size p.cache y;
      sized = λ z y. absurd (both_ways _ y p.forced);
      placed = λ z y. absurd (both_ways _ y p.forced);
      ranged = λ z y. absurd (both_ways _ y p.forced);
    }
