-- Worked parts of events, by computation.
use Rattle.std.specs.Prelude.{◌≡◌, ℕ, pos, refl, [], ◌∷◌, Option, Some, None, true, false}
use Rattle.touch_event.specs.Events.{event_of}
use Rattle.touch_event.specs.declared.event.Action.TheVariants.{Down, Up, Move, Cancel, PointerDown, PointerUp}
use Rattle.touch_event.specs.declared.event.Event.{Event}
use Rattle.touch_event.specs.declared.event.Point.{Point}
use Rattle.touch_event.specs.PointerSets.{has_id}
use Rattle.touch_event.specs.Splitting.{split_event}

-- the pointers 0, 1 and 31
left : Point
left = record { id = 0; x = pos 10; y = pos 5 }

right : Point
right = record { id = 1; x = pos 60; y = pos 5 }

last : Point
last = record { id = 31; x = pos 61; y = pos 6 }

part : ℕ → Event → Option Event
part ids event = split_event (has_id ids) event

-- the pointer 1 goes down beside 0: for a view that follows it, for one that follows the other, and for one that
-- follows both
goes_down_alone : part 2 (event_of PointerDown 1 (left ∷ right ∷ [])) ≡ Some (event_of Down 1 (right ∷ []))
unfolding part left right has_id
goes_down_alone = refl

goes_down_elsewhere : part 1 (event_of PointerDown 1 (left ∷ right ∷ [])) ≡ Some (event_of Move 1 (left ∷ []))
unfolding part left right has_id
goes_down_elsewhere = refl

goes_down_whole : part 3 (event_of PointerDown 1 (left ∷ right ∷ [])) ≡ Some (event_of PointerDown 1 (left ∷ right ∷ []))
unfolding part left right has_id
goes_down_whole = refl

goes_down_to_all : part 4294967295 (event_of PointerDown 1 (left ∷ right ∷ [])) ≡ Some (event_of PointerDown 1 (left ∷ right ∷ []))
unfolding part left right has_id
goes_down_to_all = refl

-- the pointer 0 goes up, and 1 stays
goes_up_alone : part 1 (event_of PointerUp 0 (left ∷ right ∷ [])) ≡ Some (event_of Up 0 (left ∷ []))
unfolding part left right has_id
goes_up_alone = refl

goes_up_elsewhere : part 2 (event_of PointerUp 0 (left ∷ right ∷ [])) ≡ Some (event_of Move 0 (right ∷ []))
unfolding part left right has_id
goes_up_elsewhere = refl

-- of three pointers two are followed
goes_up_beside_another : part 2147483649 (event_of PointerUp 31 (left ∷ right ∷ last ∷ [])) ≡ Some (event_of PointerUp 31 (left ∷ last ∷ []))
unfolding part left right last has_id
goes_up_beside_another = refl

goes_up_elsewhere_of_two : part 3 (event_of PointerUp 31 (left ∷ right ∷ last ∷ [])) ≡ Some (event_of Move 31 (left ∷ right ∷ []))
unfolding part left right last has_id
goes_up_elsewhere_of_two = refl

-- the other actions stay, whichever point is kept
stays_up : part 2 (event_of Up 1 (right ∷ [])) ≡ Some (event_of Up 1 (right ∷ []))
unfolding part right has_id
stays_up = refl

stays_down : part 1 (event_of Down 0 (left ∷ [])) ≡ Some (event_of Down 0 (left ∷ []))
unfolding part left has_id
stays_down = refl

stays_moved : part 2 (event_of Move 0 (left ∷ right ∷ [])) ≡ Some (event_of Move 0 (right ∷ []))
unfolding part left right has_id
stays_moved = refl

-- an id without a point is ignored
absent_beside_one : part 130 (event_of PointerDown 1 (left ∷ right ∷ [])) ≡ Some (event_of Down 1 (right ∷ []))
unfolding part left right has_id
absent_beside_one = refl

absent_alone : part 128 (event_of PointerDown 1 (left ∷ right ∷ [])) ≡ None
unfolding part left right has_id
absent_alone = refl

none_followed : part 0 (event_of Move 0 (left ∷ right ∷ [])) ≡ None
unfolding part left right has_id
none_followed = refl

nothing_of_a_cancel : part 4294967295 (event_of Cancel 0 []) ≡ None
unfolding part
nothing_of_a_cancel = refl

-- the greatest set has the id 31, and no set has 32
has_31 : has_id 4294967295 31 ≡ true
unfolding has_id
has_31 = refl

has_no_32 : has_id 4294967295 32 ≡ false
unfolding has_id
has_no_32 = refl
