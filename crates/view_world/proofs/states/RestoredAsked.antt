-- The views whose offset or text a state sets, by their keys and by their numbers.
use Rattle.std.proofs.Common.{◌≡◌, ℕ, ◌<◌, true, false, Result, Err, List, [], ◌∷◌, ◌++◌, map, Some, None, Ok, refl, sym, ◌∙◌, ap, subst, arith, inl, inr}
use Rattle.std.proofs.lemmas.Bool.{cases_Bool, cases_eq, eq-eqb, ne_eqb}
use Rattle.std.proofs.lemmas.List.Folds.{list_any-append}
use Rattle.std.proofs.lemmas.List.{map-append}
use Rattle.std.specs.Prelude.{◌==◌, is_some, OnOk}
use Rattle.std.specs.List.{list_any}
use Rattle.damage_rect.specs.Within.{LiesIn}
use Rattle.geom_core.specs.declared.geometry.Rect.{Rect}
use Rattle.geom_core.specs.declared.geometry.Size.{Size}
use Rattle.pixel_raster.specs.Raster.{size_of}
use Rattle.saved_state.proofs.RestatedLaws.{count-restated}
use Rattle.saved_state.proofs.RestatedParts.{number-restated, wanted-restated}
use Rattle.saved_state.specs.Restored.{Restates, given_keys, on_paths, set_by, wanted}
use Rattle.saved_state.specs.Restoring.{given}
use Rattle.saved_state.specs.State.{StateEntry, decoded}
use Rattle.seen_edits.specs.Scrolled.{GivenIn}
use Rattle.seen_edits.specs.Shown.{seen_of}
use Rattle.view_model.specs.Forest.{Forest, Nothing, Branch, EveryRow, rows}
use Rattle.view_model.specs.PlainTree.{PlainView}
use Rattle.view_tree.proofs.forest.KeyLaws.{Within, here, in_below, in_after, from_within, zero_or_more}
use Rattle.view_tree.specs.Rows.{Row, count_of_key, head_view, part_from}
use Rattle.view_tree.specs.Views.{Held, IsLive, IsTree, Views, held_of, number_of, plain_of, plain_rows}
use Rattle.view_world.proofs.frames.AskedLaws.{AllLive, every_live, live_append, off_key, unless}
use Rattle.view_world.proofs.frames.SeenLaws.{among_key, or_right, seen_named}
use Rattle.view_world.specs.frames.Asked.{given_numbers, is_on_paths, restored_numbers}
use Rattle.view_world.specs.screen.KeyedScreen.{KeyedScreen, world_of}
use Rattle.world_replies.specs.Replies.{state_bytes}
use Rattle.view_world.specs.frames.Resting.{AreSeenIn, KeepsBut, seen_on}
use Rattle.world_parts.specs.Touching.{is_among}
use Rattle.view_world.specs.declared.world.marks.Effect.TheVariants.{Asks}

-- a row is what its key leads to
pub record IsOwn (views : Views) (row : Row) : Type 0 where
  pub own : head_view (part_from row.key views.tree) ≡ row.view
  pub live : IsLive views row.key

every_own : (views : Views) → IsTree views → (list : Forest Row) → ((row : Row) (kids siblings : Forest Row) → Within (Branch row kids siblings) list → Within (Branch row kids siblings) views.tree)
    → EveryRow (λ (row : Row). IsLive views row.key) list → EveryRow (IsOwn views) list
every_own views is Nothing within live = tt
every_own views is (Branch row kids siblings) within live = (
  record { own = ap head_view (from_within row kids siblings (within row kids siblings here) (is.keys row.key)); live = live.0 },
  every_own views is kids (λ r k s w. within r k s (in_below w)) live.1,
  every_own views is siblings (λ r k s w. within r k s (in_after w)) live.2,
)

given_append : (entries : List StateEntry) (first second : List PlainView) → given_numbers entries (first ++ second) ≡ given_numbers entries first ++ given_numbers entries second
given_append entries [] second = refl
given_append entries (view ∷ first) second = elim (cases_Bool (is_some (given entries view))) [
  | inl e ↦ rw e (ap (λ (numbers : List ℕ). view.number ∷ numbers) (given_append entries first second))
  | inr e ↦ rw e (given_append entries first second)
]

keys_append : (entries : List StateEntry) (tree : Forest Row) (first second : List Row) → given_keys entries tree (first ++ second) ≡ given_keys entries tree first ++ given_keys entries tree second
keys_append entries tree [] second = refl
keys_append entries tree (row ∷ first) second = elim (cases_Bool (is_some (wanted entries tree row.key))) [
  | inl e ↦ rw e (ap (λ (keys : List ℕ). row.key ∷ keys) (keys_append entries tree first second))
  | inr e ↦ rw e (keys_append entries tree first second)
]

-- a state gives the same views by both
given_named : (views : Views) (entries : List StateEntry) (held : ℕ → Held) (list : Forest Row) → EveryRow (IsOwn views) list
    → given_numbers entries (rows (plain_rows held list)) ≡ map (number_of views) (given_keys entries views.tree (rows list))
given_named views entries held Nothing every = refl
given_named views entries held (Branch row kids siblings) every =
    let both : given_numbers entries (rows (plain_rows held kids) ++ rows (plain_rows held siblings)) ≡ map (number_of views) (given_keys entries views.tree (rows kids ++ rows siblings)) =
    given_append entries (rows (plain_rows held kids)) (rows (plain_rows held siblings))
    ∙ ap (λ (numbers : List ℕ). numbers ++ given_numbers entries (rows (plain_rows held siblings))) (given_named views entries held kids every.1)
    ∙ ap (λ (numbers : List ℕ). map (number_of views) (given_keys entries views.tree (rows kids)) ++ numbers) (given_named views entries held siblings every.2)
    ∙ sym (map-append (number_of views) (given_keys entries views.tree (rows kids)) (given_keys entries views.tree (rows siblings)))
    ∙ ap (map (number_of views)) (sym (keys_append entries views.tree (rows kids) (rows siblings))) in
    let number : number_of views row.key ≡ row.view.number = ap (λ (view : PlainView). view.number) every.0.own in
    elim (cases_Bool (is_some (given entries row.view))) [
      | inl e ↦ rw (e, every.0.own, e) (
          ap (λ (numbers : List ℕ). row.view.number ∷ numbers) both
          ∙ ap (λ (n : ℕ). n ∷ map (number_of views) (given_keys entries views.tree (rows kids ++ rows siblings))) (sym number)
          )
      | inr e ↦ rw (e, every.0.own, e) both
    ]

pub set_named : (views : Views) (entries : List StateEntry) → IsTree views → given_numbers entries (rows (plain_of views)) ≡ map (number_of views) (set_by entries views.tree)
set_named views entries is =
    given_named views entries (held_of views) views.tree (every_own views is views.tree (λ row kids siblings within. within) (every_live views views.tree (λ key. omega arith)))

keys_live : (views : Views) (entries : List StateEntry) (list : List Row) → AllLive views (map (λ (row : Row). row.key) list) → AllLive views (given_keys entries views.tree list)
keys_live views entries [] live = tt
keys_live views entries (row ∷ more) live = elim (cases_Bool (is_some (wanted entries views.tree row.key))) [
  | inl e ↦ rw e (live.0, keys_live views entries more live.1)
  | inr e ↦ rw e (keys_live views entries more live.1)
]

rows_live : (views : Views) (list : Forest Row) → EveryRow (λ (row : Row). IsLive views row.key) list → AllLive views (map (λ (row : Row). row.key) (rows list))
rows_live views Nothing every = tt
rows_live views (Branch row kids siblings) every = (
  every.0,
  subst (AllLive views) (sym (map-append (λ (row : Row). row.key) (rows kids) (rows siblings)))
      (live_append views (map (λ (row : Row). row.key) (rows kids)) (map (λ (row : Row). row.key) (rows siblings)) (rows_live views kids every.1) (rows_live views siblings every.2)),
)

-- a number that is on no path of those has a key that is on no path of these
off_set : (views : Views) (keys : List ℕ) (key : ℕ) → IsTree views → AllLive views keys → is_on_paths (map (number_of views) keys) (plain_of views) (number_of views key) ≡ false
    → on_paths key keys views.tree ≡ false
off_set views [] key is live none = refl
off_set views (view ∷ keys) key is live none = let both = unless _ _ none in rw (off_key views view key is live.0 both.0) (off_set views keys key is live.1 both.1)

-- a view that is given an offset is among those that a state sets
among_given : (entries : List StateEntry) (tree : Forest Row) (key : ℕ) (list : List Row) → is_some (wanted entries tree key) ≡ true → list_any (λ (row : Row). row.key == key) list ≡ true
    → list_any (λ (k : ℕ). key == k) (given_keys entries tree list) ≡ true
among_given entries tree key [] some there = absurd cc
among_given entries tree key (row ∷ list) some there = elim (cases_eq row.key key) [
  | inl e ↦ rw (e, some, eq-eqb key key refl) refl
  | inr ne ↦
      let later = among_given entries tree key list some (rw (ne_eqb row.key key ne) at there) in
      elim (cases_Bool (is_some (wanted entries tree row.key))) [
        | inl f ↦ rw f (or_right (key == row.key) _ later)
        | inr f ↦ rw f later
      ]
]

row_there : (key : ℕ) (tree : Forest Row) → 0 < count_of_key key tree → list_any (λ (row : Row). row.key == key) (rows tree) ≡ true
row_there key Nothing live = absurd (omega arith)
row_there key (Branch row kids siblings) live = elim (cases_Bool (row.key == key)) [
  | inl e ↦ rw e refl
  | inr e ↦
      let live = rw e at live in
      rw e (list_any-append (λ (row : Row). row.key == key) (rows kids) (rows siblings) ∙ (elim (zero_or_more (count_of_key key kids)) [
        | inl z ↦ or_right (list_any (λ (row : Row). row.key == key) (rows kids)) _ (row_there key siblings (omega arith))
        | inr l ↦ rw (row_there key kids l) refl
      ]))
]

-- what is seen of the views that are given something lies where it is known to lie
given_seen : (old new : KeyedScreen) (entries : List StateEntry) (box : Rect) → IsTree old.views → IsTree new.views → Restates entries old.views new.views → size_of new.surface ≡ size_of old.surface
    → AreSeenIn box (given_numbers entries (rows (plain_of old.views))) old new → GivenIn entries (size_of old.surface) box new.views
given_seen old new entries box is was reported size seen key live some =
    let tree : wanted entries new.views.tree key ≡ wanted entries old.views.tree key = ap (λ (tree : Forest Row). wanted entries tree key) reported.tree ∙ wanted-restated entries old.views.tree key in
    let count : count_of_key key new.views.tree ≡ count_of_key key old.views.tree = ap (count_of_key key) reported.tree ∙ count-restated entries key old.views.tree in
    let there = among_given entries old.views.tree key (rows old.views.tree) (ap is_some (sym tree) ∙ some)
    (row_there key old.views.tree (omega arith)) in
    let number : number_of new.views key ≡ number_of old.views key = ap (λ (tree : Forest Row). (head_view (part_from key tree)).number) reported.tree ∙ number-restated entries old.views.tree key in
    let among : is_among (number_of old.views key) (given_numbers entries (rows (plain_of old.views))) ≡ true =
    ap (is_among (number_of old.views key)) (set_named old.views entries is) ∙ among_key (number_of old.views) key (set_by entries old.views.tree) there in
    let lies = (seen (number_of old.views key) among).1 in
    let own = subst (λ (n : ℕ). LiesIn (seen_on new n) box) (sym number) lies in
    subst (λ (window : Size). LiesIn (seen_of window new.views key) box) size (subst (λ (rect : Rect). LiesIn rect box) (seen_named new key was live) own)

-- what is restored leaves all views that are on no path of those whose offset or text it sets
restored_keeps : (old : KeyedScreen) (new : Views) (damage : Rect) (entries : List StateEntry) → IsTree old.views → new.counts ≡ old.views.counts
    → ((key : ℕ) → on_paths key (set_by entries old.views.tree) old.views.tree ≡ false → held_of new key ≡ held_of old.views key)
    → IsTree new → Restates entries old.views new → ((box : Rect) → LiesIn old.damage box → GivenIn entries (size_of old.surface) box new → LiesIn damage box)
    → KeepsBut Asks (given_numbers entries (rows (plain_of old.views))) [] (given_numbers entries (rows (plain_of old.views))) old (record old { views = new; damage = damage })
restored_keeps old new damage entries is counts leaves now reported within =
    let live = keys_live old.views entries (rows old.views.tree) (rows_live old.views old.views.tree (every_live old.views old.views.tree (λ key. omega arith))) in
    record {
      measures = ap (λ counts. counts.measures) counts;
      rests = λ quiet. absurd cc;
      within = λ ne box lies seen. within box lies (given_seen old (record old { views = new; damage = damage }) entries box is now reported refl seen);
      scrolled = λ touches. absurd cc;
      stage = λ ne. refl;
      surface = λ ne. refl;
      opened = λ opens. absurd cc;
      leaves = λ key there still free.
          let off = (unless _ _ free).0 in
          let none = subst (λ (numbers : List ℕ). is_on_paths numbers (plain_of old.views) (number_of old.views key) ≡ false) (set_named old.views entries is) off in
          let same = leaves key (off_set old.views (set_by entries old.views.tree) key is live none) in
          (ap (λ (held : Held). held.state) same, ap (λ (held : Held). held.cache) same);
    }

-- the state of a text, or the saved one
pub text_keeps : (old : KeyedScreen) (new : Views) (damage : Rect) (entries : List StateEntry) (text : List ℕ) → decoded (state_bytes text) ≡ Ok entries → IsTree old.views → new.counts ≡ old.views.counts
    → ((key : ℕ) → on_paths key (set_by entries old.views.tree) old.views.tree ≡ false → held_of new key ≡ held_of old.views key)
    → IsTree new → Restates entries old.views new → ((box : Rect) → LiesIn old.damage box → GivenIn entries (size_of old.surface) box new → LiesIn damage box)
    → KeepsBut Asks (restored_numbers (world_of old) (Some text)) [] (restored_numbers (world_of old) (Some text)) old (record old { views = new; damage = damage })
text_keeps old new damage entries text read is counts leaves now reported within = rw read (restored_keeps old new damage entries is counts leaves now reported within)

pub kept_keeps : (old : KeyedScreen) (new : Views) (damage : Rect) → IsTree old.views → new.counts ≡ old.views.counts
    → ((key : ℕ) → on_paths key (set_by old.kept old.views.tree) old.views.tree ≡ false → held_of new key ≡ held_of old.views key)
    → IsTree new → Restates old.kept old.views new → ((box : Rect) → LiesIn old.damage box → GivenIn old.kept (size_of old.surface) box new → LiesIn damage box)
    → KeepsBut Asks (restored_numbers (world_of old) None) [] (restored_numbers (world_of old) None) old (record old { views = new; damage = damage })
kept_keeps old new damage is counts leaves now reported within = restored_keeps old new damage old.kept is counts leaves now reported within

-- what follows from what holds where a result is one
pub ok_follows : {A E P Q : Type 0} (result : Result A E) → (P → Q) → OnOk result P → OnOk result Q
ok_follows (Ok made) follows p = follows p
ok_follows (Err fault) follows p = tt
