-- A hook's edits in a pass, while a root that was forced still is.
use Rattle.std.proofs.Common.{◌≡◌, ℕ, ◌<◌, ◌≤◌, Bool, true, false, List, [], ◌∷◌, arith, eqb-true, ap, ◌∙◌, sym, refl, subst, ◌⊎◌, inl, inr}
use Rattle.std.specs.Prelude.{if◌then◌else◌, ◌==◌}
use Rattle.std.proofs.lemmas.Bool.{both_ways, cases_Bool, eq-eqb}
use Rattle.view_model.specs.Forest.{Forest, Nothing, Branch}
use Rattle.view_tree.specs.Rows.{Row, count_of_key}
use Rattle.view_tree.specs.Views.{Held}
use Rattle.kept_views.specs.Kept.{Around, Cleared, firm, inside, loose}
use Rattle.view_tree.specs.tree.Requests.{among, asking, forced_one, pressed}
use Rattle.kept_views.specs.Pressing.{Pressed, Touched}
use Rattle.kept_views.specs.Passes.{settled, settled_at, InPass}
use Rattle.kept_views.proofs.edits.Paths.{Forces, Way, kept_forces, way}
use Rattle.kept_views.proofs.edits.PressedKept.{forced_touched, pressed_kept}
use Rattle.kept_views.proofs.edits.Requested.{Marks, pressed_in, pressed_out, reached-marks}

-- what is pressed is still exempt
pub pass_pressed : (view : ℕ) (more keys : List ℕ) (held old new : ℕ → Held) (at up : Around) (list : Forest Row) → Way view keys held at list
    → ((key : ℕ) → among key keys ≡ false → new key ≡ old key) → ((key : ℕ) → among key keys ≡ true → Touched (old key) (new key))
    → Pressed (view ∷ more) (view ∷ more) old new up list
pass_pressed view more keys held old new at up Nothing w same touched = tt
pass_pressed view more keys held old new at up (Branch row kids siblings) w same touched = (
  elim (cases_Bool (among row.key keys)) [
    | inl in_keys ↦ inr (touched row.key in_keys, λ shown none. let s = w.0 in_keys in absurd (omega arith))
    | inr out ↦ inl (same row.key out, λ none. none)
  ],
  pass_pressed view more keys held old new (inside at row (held row.key)) (inside up row (new row.key)) kids w.2 same touched,
  pass_pressed view more keys held old new at up siblings w.3 same touched,
)

at_root : (root : ℕ) (held : ℕ → Held) → settled_at root held root ≡ settled (held root)
at_root root held = rw (eq-eqb root root refl) refl

elsewhere : (root key : ℕ) (held : ℕ → Held) → (key == root) ≡ false → settled_at root held key ≡ held key
elsewhere root key held ne = rw ne refl

root_or_not : (root key : ℕ) → (key ≡ root) ⊎ ((key == root) ≡ false)
root_or_not root key = elim (cases_Bool (key == root)) [ inl e ↦ inl (eqb-true key root e) | inr e ↦ inr e ]

-- a hidden view is forced, whether or not the root is settled
settled_forces : (root : ℕ) (held : ℕ → Held) (hidden : Bool) (list : Forest Row) → Forces (settled_at root held) hidden list → Forces held hidden list
settled_forces root held hidden Nothing f = tt
settled_forces root held hidden (Branch row kids siblings) f = (
  λ h. elim (root_or_not root row.key) [
    | inl e ↦ let no : settled_at root held row.key ≡ settled (held root) = ap (settled_at root held) e ∙ at_root root held in
        absurd (both_ways _ (ap (λ (own : Held). own.state.forced) no) (f.0 h))
    | inr ne ↦ ap (λ (own : Held). own.state.forced) (sym (elsewhere root row.key held ne)) ∙ f.0 h
  ],
  settled_forces root held _ kids f.1,
  settled_forces root held hidden siblings f.2,
)

-- a request of a pass: what it presses is exempt, being at or above a requester
module _ (root view : ℕ) (held : ℕ → Held) (tree : Forest Row) where
  abbrev new : ℕ → Held
  new = pressed held (asking held view tree)

  same : (key : ℕ) → among key (asking held view tree) ≡ false → settled_at root new key ≡ settled_at root held key
  same key out = ap (λ own. if key == root then settled own else own) (pressed_out held (asking held view tree) key out)

  touched : (key : ℕ) → among key (asking held view tree) ≡ true → Touched (settled_at root held key) (settled_at root new key)
  touched key in_keys =
      let e : new key ≡ forced_one (held key) = pressed_in held (asking held view tree) key in_keys in
      elim (root_or_not root key) [
        | inl i ↦
            let here : (h : ℕ → Held) → settled_at root h key ≡ settled (h key) = λ h. ap (settled_at root h) i ∙ at_root root h ∙ ap (λ key. settled (h key)) (sym i) in
            subst (λ own. Touched own (settled_at root new key)) (sym (here held))
            (subst (λ own. Touched (settled (held key)) own) (sym (here new ∙ ap settled e)) (record {
              specs = refl;
              bounds = refl;
              edges = refl;
              forced = λ f. absurd (let n : false ≡ true = f in cc);
              hidden = λ h. absurd (let n : false ≡ true = h.forced in cc);
            }))
        | inr ne ↦
            subst (λ own. Touched own (settled_at root new key)) (sym (elsewhere root key held ne))
            (subst (λ own. Touched (held key) own) (sym (elsewhere root key new ne ∙ e)) (forced_touched (held key)))
      ]

  marks : (key : ℕ) → Marks (settled_at root held key) (settled_at root new key)
  marks key = elim (cases_Bool (among key (asking held view tree))) [
    | inl in_keys ↦
        let e : new key ≡ forced_one (held key) = pressed_in held (asking held view tree) key in_keys in
        elim (root_or_not root key) [
          | inl i ↦
              let here : (h : ℕ → Held) → settled_at root h key ≡ settled (h key) = λ h. ap (settled_at root h) i ∙ at_root root h ∙ ap (λ key. settled (h key)) (sym i) in
              subst (λ own. Marks own (settled_at root new key)) (sym (here held)) (subst (λ own. Marks (settled (held key)) own) (sym (here new ∙ ap settled e)) (record { needed = refl; first = refl }))
          | inr ne ↦
              subst (λ own. Marks own (settled_at root new key)) (sym (elsewhere root key held ne)) (subst (λ own. Marks (held key) own) (sym (elsewhere root key new ne ∙ e)) (record { needed = refl; first = refl }))
        ]
    | inr out ↦ subst (Marks (settled_at root held key)) (sym (same key out)) (record { needed = refl; first = refl })
  ]

  cleared_here : (key : ℕ) → ((settled_at root held key).state.forced ≡ true → (settled_at root held key).cache ≡ [])
      → (settled_at root new key).state.forced ≡ true → (settled_at root new key).cache ≡ []
  cleared_here key c = elim (cases_Bool (among key (asking held view tree))) [
    | inl in_keys ↦
        let e : new key ≡ forced_one (held key) = pressed_in held (asking held view tree) key in_keys in
        elim (root_or_not root key) [
          | inl i ↦ λ f. ap (λ (own : Held). own.cache) (ap (settled_at root new) i ∙ at_root root new ∙ ap (λ key. settled (new key)) (sym i) ∙ ap settled e)
          | inr ne ↦ λ f. ap (λ (own : Held). own.cache) (elsewhere root key new ne ∙ e)
        ]
    | inr out ↦ subst (λ (own : Held). own.state.forced ≡ true → own.cache ≡ []) (sym (same key out)) c
  ]

  cleared_all : (list : Forest Row) → Cleared (settled_at root held) list → Cleared (settled_at root new) list
  cleared_all Nothing c = tt
  cleared_all (Branch row kids siblings) c = (cleared_here row.key c.0, cleared_all kids c.1, cleared_all siblings c.2)

  pub request_in_pass : (more : List ℕ) → ((key : ℕ) → count_of_key key tree ≤ 1) → 0 < count_of_key view tree
      → InPass (view ∷ more) root held tree → InPass (view ∷ more) root new tree
  request_in_pass more once live p =
      let forces = settled_forces root held false tree (kept_forces (view ∷ more) (settled_at root held) firm tree p.kept) in
      let w = way view (asking held view tree) held loose [] tree once live forces refl (λ key here. refl) in
      record {
        kept = pressed_kept (view ∷ more) (view ∷ more) (settled_at root held) (settled_at root new) false false false tree
            (pass_pressed view more (asking held view tree) held (settled_at root held) (settled_at root new) loose firm tree w same touched) (λ e. e) p.kept;
        reached = reached-marks (settled_at root held) (settled_at root new) false tree marks p.reached;
        cleared = cleared_all tree p.cleared;
      }
