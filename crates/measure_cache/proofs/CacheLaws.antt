-- What a cache has once a size is put in.
use Rattle.std.proofs.Common.{◌≡◌, ◌<◌, ◌+◌, ℕ, Bool, true, false, Option, Some, None, List, [], ◌∷◌, ◌++◌, length, map, take, get_or, ap, ◌∙◌, sym, refl, ◌⊎◌, inl, inr}
use Rattle.std.proofs.lemmas.List.{map-append, take_more}
use Rattle.std.specs.Prelude.{if◌then◌else◌, ◌==◌, ℤ}
use Rattle.std.specs.Ordering.{int_eq}
use Rattle.std.proofs.lemmas.Bool.{cases_Bool}
use Rattle.std.proofs.lemmas.Bool.Decides.{Decides-int_eq}
use Rattle.geom_core.specs.declared.geometry.Size.{Size}
use Rattle.geom_core.specs.declared.measuring.Mode.{Mode}
use Rattle.geom_core.specs.declared.measuring.Mode.TheVariants.{Unspecified, Exactly, AtMost}
use Rattle.geom_core.specs.declared.measuring.Spec.{Spec}
use Rattle.measure_cache.specs.declared.cache.Entry.{Entry}
use Rattle.measure_cache.specs.declared.cache.Kept.{Kept}
use Rattle.measure_cache.specs.Entries.{found, found_after, is_of, put_in, same_mode, same_spec, with_room}
use Rattle.measure_cache.specs.Kept.{entry_of}
use Rattle.view_model.specs.Measuring.{Specs}

no_true : {A : Type 0} → false ≡ true → A
no_true e = absurd (cc)

-- two specs that are the same are one
same_mode-is : (one other : Mode) → same_mode one other ≡ true → one ≡ other
same_mode-is Unspecified Unspecified e = refl
same_mode-is Unspecified Exactly e = no_true e
same_mode-is Unspecified AtMost e = no_true e
same_mode-is Exactly Unspecified e = no_true e
same_mode-is Exactly Exactly e = refl
same_mode-is Exactly AtMost e = no_true e
same_mode-is AtMost Unspecified e = no_true e
same_mode-is AtMost Exactly e = no_true e
same_mode-is AtMost AtMost e = refl

same_mode-refl : (mode : Mode) → same_mode mode mode ≡ true
same_mode-refl Unspecified = refl
same_mode-refl Exactly = refl
same_mode-refl AtMost = refl

if_both : (a b : Bool) → (if a then b else false) ≡ true → (a ≡ true) × (b ≡ true)
if_both true b e = (refl, e)
if_both false b e = no_true e

same_spec-is : (one other : Spec) → same_spec one other ≡ true → one ≡ other
same_spec-is one other e =
    let both = if_both (same_mode one.mode other.mode) (int_eq one.size other.size) e in
    let mode = same_mode-is one.mode other.mode both.0 in
    let size = (Decides-int_eq one.size other.size).0 both.1 in
    ap (λ (m : Mode). let s : Spec = record { mode = m; size = one.size } in s) mode ∙ ap (λ (n : ℤ). let s : Spec = record { mode = other.mode; size = n } in s) size

pub same_spec-refl : (spec : Spec) → same_spec spec spec ≡ true
same_spec-refl spec = rw (same_mode-refl spec.mode) ((Decides-int_eq spec.size spec.size).1 refl)

-- the specs of an entry
abbrev pub specs_for : Entry → Specs
specs_for entry = record { across = entry.ws; down = entry.hs }

of_both : (a b : Specs) → a.across ≡ b.across → a.down ≡ b.down → a ≡ b
of_both a b across down = ap (λ (x : Spec). let s : Specs = record { across = x; down = a.down } in s) across ∙ ap (λ (x : Spec). let s : Specs = record { across = b.across; down = x } in s) down

-- an entry is for no other specs than its own
pub is_of-is : (entry : Entry) (specs : Specs) → is_of entry specs ≡ true → specs_for entry ≡ specs
is_of-is entry specs e =
    let both = if_both (same_spec entry.ws specs.across) (same_spec entry.hs specs.down) e in
    of_both (specs_for entry) specs (same_spec-is _ _ both.0) (same_spec-is _ _ both.1)

-- what is found in a list is found after anything
found_after-any : (before : Option Size) (cache : List Entry) (specs : Specs) (size : Size) → found cache specs ≡ Some size → found_after before cache specs ≡ Some size
found_after-any before [] specs size h = none_some h
  where
    none_some : {A : Type 0} → None ≡ Some size → A
    none_some e = absurd (cc)
found_after-any before (entry ∷ more) specs size h = elim (cases_Bool (is_of entry specs)) [
  | inl is ↦ rw is (rw is at h)
  | inr not ↦ let rest : found more specs ≡ Some size = rw not at h in rw not (found_after-any before more specs size rest)
]

-- room is made at the front alone
found-with_room : (cache : List Entry) (specs : Specs) (size : Size) → found (with_room cache) specs ≡ Some size → found cache specs ≡ Some size
found-with_room [] specs size h = h
found-with_room (entry ∷ more) specs size h = elim (cases_Bool (length (entry ∷ more) == 8)) [
  | inl full ↦ let rest : found more specs ≡ Some size = rw full at h in found_after-any (if is_of entry specs then Some entry.size else None) more specs size rest
  | inr room ↦ rw room at h
]

-- the newest entry comes first
found_after-end : (before : Option Size) (cache : List Entry) (entry : Entry) (specs : Specs)
    → found_after before (cache ++ entry ∷ []) specs ≡ (if is_of entry specs then Some entry.size else found_after before cache specs)
found_after-end before [] entry specs = refl
found_after-end before (first ∷ more) entry specs = found_after-end (if is_of first specs then Some first.size else before) more entry specs

-- the entry that was put in, or one that was there
pub found-put_in : (cache : List Entry) (entry : Entry) (specs : Specs) (size : Size) → found (put_in cache entry) specs ≡ Some size
    → ((specs_for entry ≡ specs) × (entry.size ≡ size)) ⊎ (found cache specs ≡ Some size)
found-put_in cache entry specs size h =
    let at_end = sym (found_after-end None (with_room cache) entry specs) ∙ h in
    elim (cases_Bool (is_of entry specs)) [
      | inl is ↦ let same : Some entry.size ≡ Some size = rw is at at_end in inl (is_of-is entry specs is, some_is same)
      | inr not ↦ let rest : found (with_room cache) specs ≡ Some size = rw not at at_end in inr (found-with_room cache specs size rest)
    ]
  where
    some_is : {A : Type 0} {x y : A} → Some x ≡ Some y → x ≡ y
    some_is e = cc

-- the last of the first entries decides, otherwise the ones before it
found-last_kept : (kept : List Kept) (place : ℕ) (unused : Kept) (specs : Specs) → place < length kept
    → found (map entry_of (take (place + 1) kept)) specs ≡ (if is_of (entry_of (get_or kept place unused)) specs then Some (entry_of (get_or kept place unused)).size else found (map entry_of (take place kept)) specs)
found-last_kept kept place unused specs there =
    ap (λ list. found (map entry_of list) specs) (take_more kept place unused there)
    ∙ ap (λ list. found list specs) (map-append entry_of (take place kept) (get_or kept place unused ∷ []))
    ∙ found_after-end None (map entry_of (take place kept)) (entry_of (get_or kept place unused)) specs

pub found-last_is : (kept : List Kept) (place : ℕ) (unused : Kept) (specs : Specs) → place < length kept → is_of (entry_of (get_or kept place unused)) specs ≡ true
    → found (map entry_of (take (place + 1) kept)) specs ≡ Some (entry_of (get_or kept place unused)).size
found-last_is kept place unused specs there is = rw is at (found-last_kept kept place unused specs there)

pub found-last_not : (kept : List Kept) (place : ℕ) (unused : Kept) (specs : Specs) → place < length kept → is_of (entry_of (get_or kept place unused)) specs ≡ false
    → found (map entry_of (take (place + 1) kept)) specs ≡ found (map entry_of (take place kept)) specs
found-last_not kept place unused specs there not = rw not at (found-last_kept kept place unused specs there)
