-- The names of refusals.
use Rattle.std.specs.Prelude.{ℕ, List, [], ◌∷◌, codes, slice_get, unwrap_or}

-- the names of the refusals, from 1 on
unfoldable pub refusal_names : List (List ℕ)
refusal_names =
    codes "Truncated" ∷ codes "BadChunk" ∷ codes "BadPool" ∷ codes "BadString" ∷ codes "NotXml" ∷ codes "BadRef"
    ∷ codes "Unbalanced" ∷ codes "NoElement" ∷ codes "TwoRoots" ∷ codes "SecondPool" ∷ codes "TooBig"
    ∷ codes "Unresolved"
    ∷ codes "ThemeRef" ∷ codes "BadValue" ∷ codes "Full" ∷ codes "Duplicate" ∷ codes "NoSize" ∷ codes "Cycle"
    ∷ codes "Views"
    ∷ codes "Depth" ∷ codes "NotGroup" ∷ codes "ScrollFull" ∷ codes "UnknownClass" ∷ codes "Hooks" ∷ codes "HookEdit"
    ∷ codes "BadState" ∷ codes "StateClass" ∷ codes "NoView" ∷ codes "WrongClass" ∷ codes "Range" ∷ codes "Syntax"
    ∷ codes "LongLine" ∷ codes "NoWindow" ∷ codes "NoRoot" ∷ codes "HasRoot" ∷ codes "Unsettled" ∷ codes "NoFrame"
    ∷ codes "Pointer" ∷ codes "Missing" ∷ codes "LongFile" ∷ codes "DpiLate" ∷ codes "NotTable" ∷ codes "NoPane" ∷ []

-- the name of a refusal by its number; any other number has the empty text, which is no name
unfoldable pub refusal_name : ℕ → List ℕ
refusal_name number = unwrap_or (slice_get ([] ∷ refusal_names) number) []
