-- What is read of each window of a stack.
use Rattle.std.proofs.Common.{◌≡◌, ◌∙◌, ℕ, suc, ◌<◌, List, [], ◌∷◌, Bor, ap, arith, get_or, length, refl}
use Rattle.std.specs.Prelude.{Box, Option, map}
use Rattle.std.specs.Option.{option_map}
use Rattle.std.specs.declared.alloc.Global.{Global}
use Rattle.stack_worlds.specs.KeptStack.{kept_world}
use Rattle.view_world.specs.world.KeyedWorld.{KeyedWorld, world_of}
use Rattle.world_parts.specs.World.{World}

abbrev Place : Type 0
Place = Option (Box KeyedWorld Global)

-- the elements of a list, each read through a borrow of a place
pub read_each : {A : Type 0} (f : Option World → A) (refs : List (Bor Place)) (places : List Place) (read : List A) → map (λ (r : Bor Place). r.now) refs ≡ places
    → length read ≡ length refs
    → ((i : ℕ) (d : Bor Place) (e : A) → i < length read → get_or read i e ≡ f (option_map world_of (kept_world (get_or refs i d).now)))
    → read ≡ map f (map (option_map world_of) (map kept_world places))
read_each {A} f refs places read same long at = from_refs refs read long at ∙ ap (λ (l : List Place). map f (map (option_map world_of) (map kept_world l))) same
  where
    from_refs : (refs : List (Bor Place)) (read : List A) → length read ≡ length refs
        → ((i : ℕ) (d : Bor Place) (e : A) → i < length read → get_or read i e ≡ f (option_map world_of (kept_world (get_or refs i d).now)))
        → read ≡ map f (map (option_map world_of) (map kept_world (map (λ (r : Bor Place). r.now) refs)))
    from_refs [] [] long at = refl
    from_refs [] (one ∷ read) long at = absurd (omega (arith, long))
    from_refs (r ∷ refs) [] long at = absurd (omega (arith, long))
    from_refs (r ∷ refs) (one ∷ read) long at =
        ap (λ (a : A). a ∷ read) (at 0 r one (omega arith))
        ∙ ap (λ (l : List A). f (option_map world_of (kept_world r.now)) ∷ l) (from_refs refs read (omega (arith, long)) (λ i d e within. at (suc i) d e (omega (arith, within))))
