-- How caches grow: puts of pairs that were not there, each of a pair under which the view is measured.
use Rattle.std.specs.Prelude.{◌≡◌, ◌⊎◌, ℕ, zero, suc, List, [], ◌∷◌, None}
use Rattle.measure_cache.specs.declared.cache.Entry.{Entry}
use Rattle.measure_cache.specs.Entries.{found, put_in}
use Rattle.view_model.specs.Course.{Requested}
use Rattle.view_model.specs.Forest.{Forest, Nothing, Branch}
use Rattle.view_model.specs.Layout.{children_of, course_by, for_layout}
use Rattle.view_model.specs.Measuring.{Specs}
use Rattle.view_tree.specs.Rows.{Row, views_of}
use Rattle.view_tree.specs.Views.{Held}

abbrev pub pair_in : Entry → Specs
pair_in entry = record { across = entry.ws; down = entry.hs }

abbrev pub after_puts : List Entry → List Entry → List Entry
after_puts cache [] = cache
after_puts cache (entry ∷ more) = after_puts (put_in cache entry) more

-- each is of a good pair that the cache does not have when it comes
abbrev pub AllNew : (Specs → Type 0) → List Entry → List Entry → Type 0
AllNew ok cache [] = Unit {0}
AllNew ok cache (entry ∷ more) =
    (found cache (pair_in entry) ≡ None) × ok (pair_in entry) × AllNew ok (put_in cache entry) more

pub record Grew (ok : Specs → Type 0) (old new : List Entry) : Type 0 where
  pub puts : List Entry
  pub is : new ≡ after_puts old puts
  pub each : AllNew ok old puts

-- these specs are among those of a list
abbrev pub Among : List Specs → Specs → Type 0
Among [] specs = ⊥
Among (first ∷ more) specs = (first ≡ specs) ⊎ Among more specs

-- the child at this place was asked for under these specs
abbrev pub AskedAt : List Requested → ℕ → Specs → Type 0
AskedAt [] place specs = ⊥
AskedAt (kid ∷ more) zero specs = Among kid.requests specs
AskedAt (kid ∷ more) (suc place) specs = AskedAt more place specs

-- the children of a view that is measured under these
abbrev pub course_under : Row → Forest Row → Specs → List Requested
course_under row kids specs = (course_by (for_layout row.view) (children_of (views_of kids)) specs).kids

abbrev pub asked_under : Forest Row → Specs → ℕ → Specs → Type 0
asked_under Nothing specs place other = ⊥
asked_under (Branch row kids siblings) specs place other = AskedAt (course_under row kids specs) place other

abbrev pub AskedBy : Row → Forest Row → (Specs → Type 0) → ℕ → Specs → Type 0
AskedBy row kids ok place other = (specs : Specs) × ok specs × AskedAt (course_under row kids specs) place other

-- the caches of a list, if these pairs are good for the view at each place
abbrev pub Grown : (ℕ → Specs → Type 0) → (ℕ → Held) → (ℕ → Held) → Forest Row → Type 0
Grown ok old new Nothing = Unit {0}
Grown ok old new (Branch row kids siblings) =
    Grew (ok 0) (old row.key).cache (new row.key).cache
    × Grown (AskedBy row kids (ok 0)) old new kids
    × Grown (λ place. ok (suc place)) old new siblings
