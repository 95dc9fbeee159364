-- Caches that grow.
use Rattle.std.proofs.Common.{◌≡◌, ℕ, zero, suc, Bool, true, false, List, [], ◌∷◌, ◌++◌, Option, Some, None, ap, ◌∙◌, refl, subst, inl, inr}
use Rattle.std.specs.Prelude.{if◌then◌else◌}
use Rattle.measure_cache.specs.declared.cache.Entry.{Entry}
use Rattle.measure_cache.specs.Entries.{put_in}
use Rattle.measure_pass.specs.Caches.{AllNew, Among, AskedAt, AskedBy, Grew, Grown, after_puts, pair_in}
use Rattle.measure_pass.specs.Courses.{InCourse}
use Rattle.view_model.specs.Facts.{is_shown}
use Rattle.view_model.specs.Forest.{Forest, Nothing, Branch}
use Rattle.view_model.specs.Course.{MeasuringProgress, Requested, after_phase, after_turn, asked_for, measured_of, one_phase, phases_on, size_in}
use Rattle.view_model.specs.Measuring.{Measured, Rule, Specs}
use Rattle.view_tree.specs.Rows.{Row, first_tree, later_siblings}
use Rattle.view_tree.specs.Views.{Held, KeepsInside}
use Rattle.view_tree.proofs.forest.Walks.{KeepsInside-kids, KeepsInside-self, KeepsInside-siblings}

pub Grew-refl : (ok : Specs → Type 0) (cache : List Entry) → Grew ok cache cache
Grew-refl ok cache = record { puts = []; is = refl; each = tt }

AllNew-mono : (p q : Specs → Type 0) (cache puts : List Entry) → ((specs : Specs) → p specs → q specs) → AllNew p cache puts → AllNew q cache puts
AllNew-mono p q cache [] f h = tt
AllNew-mono p q cache (entry ∷ more) f h = (h.0, f (pair_in entry) h.1, AllNew-mono p q (put_in cache entry) more f h.2)

AllNew-append : (ok : Specs → Type 0) (cache puts more : List Entry) → AllNew ok cache puts → AllNew ok (after_puts cache puts) more → AllNew ok cache (puts ++ more)
AllNew-append ok cache [] more h i = i
AllNew-append ok cache (entry ∷ puts) more h i = (h.0, h.1, AllNew-append ok (put_in cache entry) puts more h.2 i)

after_puts-append : (cache puts more : List Entry) → after_puts (after_puts cache puts) more ≡ after_puts cache (puts ++ more)
after_puts-append cache [] more = refl
after_puts-append cache (entry ∷ puts) more = after_puts-append (put_in cache entry) puts more

Grew-trans : (ok : Specs → Type 0) (a b c : List Entry) → Grew ok a b → Grew ok b c → Grew ok a c
Grew-trans ok a b c g h = record {
  puts = g.puts ++ h.puts;
  is = h.is ∙ ap (λ x. after_puts x h.puts) g.is ∙ after_puts-append a g.puts h.puts;
  each = AllNew-append ok a g.puts h.puts g.each (subst (λ x. AllNew ok x h.puts) g.is h.each);
}

Grew-mono : (p q : Specs → Type 0) (a b : List Entry) → ((specs : Specs) → p specs → q specs) → Grew p a b → Grew q a b
Grew-mono p q a b f g = record { puts = g.puts; is = g.is; each = AllNew-mono p q a g.puts f g.each }

pub Grown-refl : (ok : ℕ → Specs → Type 0) (held : ℕ → Held) (list : Forest Row) → Grown ok held held list
Grown-refl ok held Nothing = tt
Grown-refl ok held (Branch row kids siblings) =
    (Grew-refl (ok 0) (held row.key).cache, Grown-refl (AskedBy row kids (ok 0)) held kids, Grown-refl (λ place. ok (suc place)) held siblings)

pub Grown-along : (ok : ℕ → Specs → Type 0) (old old' new new' : ℕ → Held) (list : Forest Row) → KeepsInside old old' list → KeepsInside new new' list → Grown ok old new list → Grown ok old' new' list
Grown-along ok old old' new new' Nothing s n g = tt
Grown-along ok old old' new new' (Branch row kids siblings) s n g = (
  rw (KeepsInside-self old old' row kids siblings s, KeepsInside-self new new' row kids siblings n) g.0,
  Grown-along (AskedBy row kids (ok 0)) old old' new new' kids (KeepsInside-kids old old' row kids siblings s) (KeepsInside-kids new new' row kids siblings n) g.1,
  Grown-along (λ place. ok (suc place)) old old' new new' siblings (KeepsInside-siblings old old' row kids siblings s) (KeepsInside-siblings new new' row kids siblings n) g.2,
)

-- nothing has changed
pub Grown-same : (ok : ℕ → Specs → Type 0) (old new : ℕ → Held) (list : Forest Row) → KeepsInside old new list → Grown ok old new list
Grown-same ok old new list same = Grown-along ok old old old new list (λ key here. refl) same (Grown-refl ok old list)

pub Grown-mono : (p q : ℕ → Specs → Type 0) (old new : ℕ → Held) (list : Forest Row) → ((place : ℕ) (specs : Specs) → p place specs → q place specs) → Grown p old new list → Grown q old new list
Grown-mono p q old new Nothing f g = tt
Grown-mono p q old new (Branch row kids siblings) f g = (
  Grew-mono (p 0) (q 0) (old row.key).cache (new row.key).cache (f 0) g.0,
  Grown-mono (AskedBy row kids (p 0)) (AskedBy row kids (q 0)) old new kids (λ place specs h. (h.0, f 0 h.0 h.1, h.2)) g.1,
  Grown-mono (λ place. p (suc place)) (λ place. q (suc place)) old new siblings (λ place. f (suc place)) g.2,
)

-- one view alone
pub Grown-first : (p q : ℕ → Specs → Type 0) (old new : ℕ → Held) (row : Row) (kids : Forest Row) → ((specs : Specs) → p 0 specs → q 0 specs)
    → Grown p old new (Branch row kids Nothing) → Grown q old new (Branch row kids Nothing)
Grown-first p q old new row kids f g = (
  Grew-mono (p 0) (q 0) (old row.key).cache (new row.key).cache f g.0,
  Grown-mono (AskedBy row kids (p 0)) (AskedBy row kids (q 0)) old new kids (λ place specs h. (h.0, f h.0 h.1, h.2)) g.1,
  tt,
)

pub Grown-trans : (ok : ℕ → Specs → Type 0) (a b c : ℕ → Held) (list : Forest Row) → Grown ok a b list → Grown ok b c list → Grown ok a c list
Grown-trans ok a b c Nothing g h = tt
Grown-trans ok a b c (Branch row kids siblings) g h = (
  Grew-trans (ok 0) (a row.key).cache (b row.key).cache (c row.key).cache g.0 h.0,
  Grown-trans (AskedBy row kids (ok 0)) a b c kids g.1 h.1,
  Grown-trans (λ place. ok (suc place)) a b c siblings g.2 h.2,
)

-- the first view of a list and the others
pub Grown-join : (held old new : ℕ → Held) (list : Forest Row) (first rest : List Requested) → InCourse held (first_tree list) first → Grown (AskedAt first) old new (first_tree list)
    → Grown (AskedAt rest) old new (later_siblings list) → Grown (AskedAt (first ++ rest)) old new list
Grown-join held old new Nothing [] rest course one more = more
Grown-join held old new Nothing (kid ∷ kids) rest course one more = absurd course
Grown-join held old new (Branch row below siblings) [] rest course one more = absurd course
Grown-join held old new (Branch row below siblings) (kid ∷ []) rest course one more = (one.0, one.1, more)
Grown-join held old new (Branch row below siblings) (kid ∷ other ∷ kids) rest course one more = absurd course.2

-- what was asked stays asked
Among-more : (requests : List Specs) (last specs : Specs) → Among requests specs → Among (requests ++ last ∷ []) specs
Among-more [] last specs h = absurd h
Among-more (first ∷ more) last specs (inl e) = inl e
Among-more (first ∷ more) last specs (inr h) = inr (Among-more more last specs h)

pub Among-last : (requests : List Specs) (last : Specs) → Among (requests ++ last ∷ []) last
Among-last [] last = inl refl
Among-last (first ∷ more) last = inr (Among-last more last)

asked_turn : (v : Bool) (answer : Option Specs) (kid : Requested) (specs : Specs) → Among kid.requests specs → Among (if v then asked_for answer kid else kid).requests specs
asked_turn true None kid specs h = h
asked_turn true (Some last) kid specs h = Among-more kid.requests last specs h
asked_turn false answer kid specs h = h

pub AskedAt-on : (ask : List Measured → Measured → Option Specs) (taken : List Measured) (kids : List Requested) (place : ℕ) (specs : Specs) → AskedAt kids place specs
    → AskedAt (after_phase ask taken kids) place specs
AskedAt-on ask taken [] place specs h = absurd h
AskedAt-on ask taken (kid ∷ kids) zero specs h = asked_turn (is_shown kid.child.facts) (ask taken (measured_of kid)) kid specs h
AskedAt-on ask taken (kid ∷ kids) (suc place) specs h = AskedAt-on ask (taken ++ size_in (after_turn ask taken kid)) kids place specs h

pub AskedAt-through : (left : ℕ) (rule : Rule) (progress : MeasuringProgress) (place : ℕ) (specs : Specs) → AskedAt progress.kids place specs
    → AskedAt (phases_on left rule progress).kids place specs
AskedAt-through zero rule progress place specs h = h
AskedAt-through (suc left) rule progress place specs h =
    by_test (rule.turns progress.past) (AskedAt-through left rule (one_phase rule progress) place specs (AskedAt-on (rule.ask progress.past) [] progress.kids place specs h)) h
  where
    by_test : (v : Bool) → AskedAt (phases_on left rule (one_phase rule progress)).kids place specs → AskedAt progress.kids place specs
        → AskedAt (if v then phases_on left rule (one_phase rule progress) else progress).kids place specs
    by_test true go stop = go
    by_test false go stop = stop
