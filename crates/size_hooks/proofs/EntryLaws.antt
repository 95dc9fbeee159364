-- What entries represent, as they change.
use Rattle.std.proofs.Common.{◌≡◌, ℕ, ◌<◌, ◌≤◌, ◌+◌, List, [], ◌∷◌, ◌++◌, suc, length, take, drop, get_or, set, refl, sym, ◌∙◌, ap, inl, inr, arith}
use Rattle.std.proofs.lemmas.Bool.{cases_Bool}
use Rattle.std.proofs.lemmas.List.{append-nil, drop_all, drop-set-lt, drop_more, length-set, map-append, take_all, take_more, take_more_set}
use Rattle.std.specs.List.{refill}
use Rattle.std.specs.Prelude.{◌==◌, not, filter}
use Rattle.geom_core.specs.declared.geometry.Size.{Size}
use Rattle.size_hooks.specs.Entries.{hook_in, hooks_of}
use Rattle.size_hooks.specs.Hook.{Hook}
use Rattle.size_hooks.specs.Hooks.{reported_to, disarmed, reported_as}
use Rattle.size_hooks.specs.declared.entry.Entry.{Entry}

pub entries_disarmed : (view : ℕ) (entries : List Entry) → hooks_of (filter (λ (entry : Entry). not (entry.view == view)) entries) ≡ disarmed view (hooks_of entries)
entries_disarmed view [] = refl
entries_disarmed view (entry ∷ entries) = elim (cases_Bool (entry.view == view)) [
  | inl e ↦ rw e (entries_disarmed view entries)
  | inr e ↦ rw e (ap (λ (rest : List Hook). hook_in entry ∷ rest) (entries_disarmed view entries))
]

pub length_hooks : (entries : List Entry) → length (hooks_of entries) ≡ length entries
length_hooks [] = refl
length_hooks (entry ∷ entries) = ap (λ n. suc n) (length_hooks entries)

-- the entries up to an index have a new reported size, and those from it on are as they were
pub record Reported (view : ℕ) (size : Size) (old now : List Entry) (index : ℕ) : Type 0 where
  pub all : length now ≡ length old
  pub done : hooks_of (take index now) ≡ reported_as view size (hooks_of (take index old))
  pub rest : drop index now ≡ drop index old

pub reported_none : (view : ℕ) (size : Size) (old : List Entry) → Reported view size old old 0
reported_none view size old = record { all = refl; done = refl; rest = refl }

pub reported_more : (view : ℕ) (size : Size) (old now : List Entry) (index : ℕ) (item entry : Entry) → Reported view size old now index → index < length old
    → hook_in entry ≡ reported_to view size (hook_in (get_or now index item)) → Reported view size old (set now index entry) (index + 1)
reported_more view size old now index item entry is within own =
    let there : index < length now = rw is.all within in
    let both : get_or now index item ∷ drop (index + 1) now ≡ get_or old index item ∷ drop (index + 1) old =
    sym (drop_more now index item there) ∙ is.rest ∙ drop_more old index item within in
    let same : get_or now index item ≡ get_or old index item = ap (first_or item) both in
    record {
      all = length-set now index entry ∙ is.all;
      done =
          ap hooks_of (take_more_set now index entry there)
          ∙ map-append hook_in (take index now) (entry ∷ [])
          ∙ ap (λ (l : List Hook). l ++ hook_in entry ∷ []) is.done
          ∙ ap (λ (h : Hook). reported_as view size (hooks_of (take index old)) ++ h ∷ []) (own ∙ ap (λ (e : Entry). reported_to view size (hook_in e)) same)
          ∙ sym (map-append (reported_to view size) (hooks_of (take index old)) (hook_in (get_or old index item) ∷ []))
          ∙ sym (ap (reported_as view size) (ap hooks_of (take_more old index item within) ∙ map-append hook_in (take index old) (get_or old index item ∷ [])));
      rest =
          drop-set-lt (index + 1) now index entry (omega arith) ∙ ap others both;
    }
  where
    first_or : Entry → List Entry → Entry
    first_or other [] = other
    first_or other (entry ∷ entries) = entry

    others : List Entry → List Entry
    others [] = []
    others (entry ∷ entries) = entries

pub reported_all : (view : ℕ) (size : Size) (old now : List Entry) (index : ℕ) → Reported view size old now index → length old ≤ index
    → hooks_of now ≡ reported_as view size (hooks_of old)
reported_all view size old now index is over =
    ap hooks_of (sym (take_all index now (rw is.all over))) ∙ is.done ∙ ap (λ (l : List Entry). reported_as view size (hooks_of l)) (take_all index old over)

-- entries that were replaced as a whole
pub refilled : (old now : List Entry) → length now ≡ length old → refill (length old) old now ≡ now
refilled old now same =
    ap (λ (l : List Entry). take (length old) (now ++ l)) (drop_all (length now) old (omega arith))
    ∙ ap (take (length old)) (append-nil now)
    ∙ take_all (length old) now (omega arith)
