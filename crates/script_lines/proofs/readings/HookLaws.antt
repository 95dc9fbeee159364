-- The edits of a hook, one by one.
use Rattle.std.proofs.Common.{◌≡◌, ℕ, suc, zero, ◌-◌, Bool, true, false, refl, ap, ◌∙◌, List, [], ◌∷◌, ◌++◌, arith, append_assoc}
use Rattle.std.specs.Prelude.{nat_lt, if◌then◌else◌, Option, Some, None, Result, Ok, Err}
use Rattle.std.specs.List.{filter_map, slice_split}
use Rattle.std.proofs.Math.Bool.{or-false, or-true}
use Rattle.std.proofs.lemmas.Bool.Decides.{nat_tests}
use Rattle.std.proofs.lemmas.List.{append-nil}
use Rattle.view_model.specs.Numbers.{max_edits}
use Rattle.script_lines.specs.reading.Gathered.{joined_after, reading_of}
use Rattle.script_lines.specs.reading.Hooks.{asked_in, edits_of, joined, parts_edits, readings_of}
use Rattle.script_lines.specs.declared.commands.Asked.{Asked}
use Rattle.line_words.specs.declared.fault.LineFault.{LineFault}
use Rattle.line_words.specs.declared.fault.LineFault.TheVariants.{Syntax, Range}

readings-next : (left : ℕ) (edit : List (List ℕ)) (edits : List (List (List ℕ))) → readings_of left (edit ∷ edits) ≡ reading_of left edit ∷ readings_of (left - 1) edits
unfolding reading_of
readings-next zero edit edits = refl
readings-next (suc left) edit edits =
    let e : suc left - 1 ≡ left = omega arith in
    let some : nat_lt 0 (suc left) ≡ true = grind (arith, nat_tests) in
    rw (e, some) refl

readings-nil : (left : ℕ) → readings_of left [] ≡ []
readings-nil zero = refl
readings-nil (suc left) = refl

module _ (asked : List Asked) (bad range : Bool) (readings : List (Result (Option Asked) LineFault)) where
  joined-asked : (more : Asked) → joined_after asked bad range (Ok (Some more) ∷ readings) ≡ joined_after (asked ++ more ∷ []) bad range readings
  unfolding joined_after
  joined-asked more = rw (append_assoc asked (more ∷ []) (filter_map asked_in readings)) refl

  joined-unmade : joined_after asked bad range (Ok None ∷ readings) ≡ joined_after asked true range readings
  unfolding joined_after
  joined-unmade = rw (or-true bad) refl

  joined-range : joined_after asked bad range (Err Range ∷ readings) ≡ joined_after asked bad true readings
  unfolding joined_after
  joined-range = rw (or-true range) refl

  joined-syntax : joined_after asked bad range (Err Syntax ∷ readings) ≡ Err Syntax
  unfolding joined_after
  joined-syntax = refl

-- no edit is left
pub edits_end : (asked : List Asked) (left : ℕ) (bad range : Bool) → joined_after asked bad range (readings_of left []) ≡ (if range then Err Range else Ok (asked, bad))
unfolding joined_after
edits_end asked left bad range = rw (readings-nil left, or-false bad, or-false range, append-nil asked) refl

-- all edits are left
pub edits_start : (edits : List (List (List ℕ))) → joined_after [] false false (readings_of max_edits edits) ≡ joined (readings_of max_edits edits)
unfolding joined_after joined
edits_start edits = refl

-- no edit is read
pub edits_begin : (asked : List Asked) (left : ℕ) (bad range : Bool) (words : List (List ℕ)) → asked ≡ [] → left ≡ max_edits → bad ≡ false → range ≡ false
    → joined_after asked bad range (readings_of left (slice_split parts_edits words)) ≡ edits_of words
unfolding edits_of
edits_begin asked left bad range words none all good within = rw (none, all, good, within) (edits_start (slice_split parts_edits words))

module _ (asked : List Asked) (left : ℕ) (bad range : Bool) (edit : List (List ℕ)) (edits : List (List (List ℕ))) where
  step : (reading : Result (Option Asked) LineFault) → reading_of left edit ≡ reading → joined_after asked bad range (readings_of left (edit ∷ edits)) ≡ joined_after asked bad range (reading ∷ readings_of (left - 1) edits)
  step reading e = ap (joined_after asked bad range) (readings-next left edit edits ∙ ap (λ reading. reading ∷ readings_of (left - 1) edits) e)

  pub edits_asked : (more : Asked) → reading_of left edit ≡ Ok (Some more) → joined_after asked bad range (readings_of left (edit ∷ edits)) ≡ joined_after (asked ++ more ∷ []) bad range (readings_of (left - 1) edits)
  edits_asked more e = step (Ok (Some more)) e ∙ joined-asked asked bad range (readings_of (left - 1) edits) more

  pub edits_unmade : reading_of left edit ≡ Ok None → joined_after asked bad range (readings_of left (edit ∷ edits)) ≡ joined_after asked true range (readings_of (left - 1) edits)
  edits_unmade e = step (Ok None) e ∙ joined-unmade asked bad range (readings_of (left - 1) edits)

  pub edits_range : reading_of left edit ≡ Err Range → joined_after asked bad range (readings_of left (edit ∷ edits)) ≡ joined_after asked bad true (readings_of (left - 1) edits)
  edits_range e = step (Err Range) e ∙ joined-range asked bad range (readings_of (left - 1) edits)

  pub edits_syntax : reading_of left edit ≡ Err Syntax → joined_after asked bad range (readings_of left (edit ∷ edits)) ≡ Err Syntax
  edits_syntax e = step (Err Syntax) e ∙ joined-syntax asked bad range (readings_of (left - 1) edits)
