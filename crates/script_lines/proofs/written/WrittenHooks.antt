-- The words from which the edits of a hook are read.
use Rattle.std.proofs.Common.{◌≡◌, ℕ, suc, zero, ◌-◌, ◌<◌, Bool, true, refl, ap, ◌∙◌, inl, inr, List, [], ◌∷◌, arith}
use Rattle.std.specs.Prelude.{◌⊎◌, IfOk, Option, Some, None, Result, Ok, Err}
use Rattle.std.specs.List.{filter_map, list_any, slice_split}
use Rattle.std.proofs.lemmas.Bool.{cases_Bool}
use Rattle.view_model.specs.Numbers.{max_edits}
use Rattle.script_lines.specs.reading.Changes.{change_by}
use Rattle.script_lines.specs.reading.Hooks.{asked_in, asked_of, edit_by, edit_of, edits_of, is_range, is_syntax, is_unmade, joined, parts_edits, readings_of, unmade_of}
use Rattle.script_lines.specs.reading.Verbs.{change_named, change_word, line_word, verb_named}
use Rattle.line_words.specs.words.Names.{known, name_in}
use Rattle.line_words.specs.words.Words.{word_in}
use Rattle.script_lines.specs.commands.Written.{AreEditWords, AreEdits, AreUnmadeWords}
use Rattle.line_words.specs.Written.{IsNameWord}
use Rattle.script_lines.specs.declared.commands.Asked.{Asked}
use Rattle.line_words.specs.declared.fault.LineFault.{LineFault}
use Rattle.line_words.specs.declared.fault.LineFault.TheVariants.{Syntax, Range}
use Rattle.script_lines.specs.declared.verbs.ChangeVerb.{ChangeVerb}
use Rattle.line_words.specs.declared.words.naming.Name.{Name}
use Rattle.line_words.proofs.texts.OkLaws.{if_map_with, if_ok_more, if_then_with}
use Rattle.script_lines.proofs.readings.VerbLaws.{change_named-is, other_word, verb_named-written}
use Rattle.script_lines.proofs.written.WrittenActs.{AreChange, change_by-written}
use Rattle.line_words.proofs.written.WrittenWords.{FirstWord, name_in-written, word_in-written}

-- an edit, with how many a hook may still have
abbrev EditIs : ℕ → List (List ℕ) → Option Asked → Type 0
EditIs left part None = AreUnmadeWords left part
EditIs left part (Some asked) = (0 < left) × AreEditWords asked part

unmade_of-written : (left : ℕ) (part : List (List ℕ)) → (left ≡ 0) ⊎ ((head : List ℕ) → (rest : List (List ℕ)) → part ≡ head ∷ rest → change_named head ≡ None) → IfOk (unmade_of part) (EditIs left part)
unfolding unmade_of
unmade_of-written left part why =
    let P = EditIs left part in
    if_then_with (λ (r : List ℕ × List (List ℕ)). part ≡ r.0 ∷ r.1) P (word_in part) _ (word_in-written part) (λ head are.
    if_map_with (λ verb. head.0 ≡ line_word verb) P (λ _. None) (known (verb_named head.0)) (verb_named-written head.0) (λ verb is. record {
      verb = verb;
      rest = head.1;
      are = are ∙ ap (λ word. word ∷ head.1) is;
      unmade = elim why [ inl full ↦ inl full | inr others ↦ inr (λ change same. other_word head.0 (others head.0 head.1 are) change (is ∙ same)) ];
    }))

asked_of-written : (verb : ChangeVerb) (ws : List (List ℕ)) → IfOk (asked_of verb ws) (λ asked. AreEditWords asked (change_word verb ∷ ws))
unfolding asked_of
asked_of-written verb ws =
    let P = λ (asked : Asked). AreEditWords asked (change_word verb ∷ ws) in
    if_then_with (λ (r : Name × List (List ℕ)). FirstWord (IsNameWord r.0) ws r.1) P (name_in ws) _ (name_in-written ws) (λ view h.
    if_map_with (AreChange (change_word verb) view.1) P _ (change_by verb view.1) (change_by-written verb view.1) (λ change c. record {
      view = h.word;
      rest = view.1;
      are = rw (c.0, h.are) refl;
      name = h.fits;
      change = c.1;
    }))

edit_by-written : (left : ℕ) (part ws : List (List ℕ)) (head : List ℕ) (made : Option ChangeVerb) → 0 < left → part ≡ head ∷ ws → change_named head ≡ made → IfOk (edit_by part made ws) (EditIs left part)
edit_by-written left part ws head (Some verb) some are h =
    let whole : part ≡ change_word verb ∷ ws = are ∙ ap (λ head. head ∷ ws) (change_named-is head verb h) in
    if_map_with (λ (asked : Asked). AreEditWords asked (change_word verb ∷ ws)) (EditIs left part) Some (asked_of verb ws) (asked_of-written verb ws) (λ asked h. (some, rw whole h))
edit_by-written left part ws head None some are h = unmade_of-written left part (inr (λ other rest same. let e : other ≡ head = cc in rw e h))

edit_of-written : (left : ℕ) (part : List (List ℕ)) → 0 < left → IfOk (edit_of part) (EditIs left part)
unfolding edit_of
edit_of-written left part some =
    if_then_with (λ (r : List ℕ × List (List ℕ)). part ≡ r.0 ∷ r.1) (EditIs left part) (word_in part) _ (word_in-written part)
    (λ head are. edit_by-written left part head.1 head.0 (change_named head.0) some are refl)

-- what is made of a reading and of those after it
abbrev Joined : (Option Asked → Type 0) → (List Asked × Bool → Type 0) → List Asked × Bool → Type 0
Joined One More r =
    ((asked : Asked) × (more : List Asked) × (r.0 ≡ asked ∷ more) × One (Some asked) × More (more, r.1))
    ⊎ ((others : Bool) × (r.1 ≡ true) × One None × More (r.0, others))

joined_one : (One : Option Asked → Type 0) (More : List Asked × Bool → Type 0) (reading : Result (Option Asked) LineFault) (rest : List (Result (Option Asked) LineFault))
    → IfOk reading One → IfOk (joined rest) More → IfOk (joined (reading ∷ rest)) (Joined One More)
unfolding joined
joined_one One More (Err Syntax) rest one more = tt
joined_one One More (Err Range) rest one more = elim (cases_Bool (list_any is_syntax rest)) [ inl s ↦ rw s tt | inr s ↦ rw s tt ]
joined_one One More (Ok None) rest one more = elim (cases_Bool (list_any is_syntax rest)) [
  | inl s ↦ rw s tt
  | inr s ↦ elim (cases_Bool (list_any is_range rest)) [
    | inl r ↦ rw (s, r) tt
    | inr r ↦ (let m : More (filter_map asked_in rest, list_any is_unmade rest) = rw (s, r) at more in rw (s, r) (inr (list_any is_unmade rest, refl, one, m)))
  ]
]
joined_one One More (Ok (Some asked)) rest one more = elim (cases_Bool (list_any is_syntax rest)) [
  | inl s ↦ rw s tt
  | inr s ↦ elim (cases_Bool (list_any is_range rest)) [
    | inl r ↦ rw (s, r) tt
    | inr r ↦ (let m : More (filter_map asked_in rest, list_any is_unmade rest) = rw (s, r) at more in rw (s, r) (inl (asked, filter_map asked_in rest, refl, one, m)))
  ]
]

abbrev EditsAre : ℕ → List (List (List ℕ)) → List Asked × Bool → Type 0
EditsAre left parts r = AreEdits left r.0 r.1 parts

joined_edits : (left next : ℕ) (part : List (List ℕ)) (parts : List (List (List ℕ))) (r : List Asked × Bool) → next ≡ left - 1
    → Joined (EditIs left part) (EditsAre next parts) r → EditsAre left (part ∷ parts) r
joined_edits left next part parts r e (inl (asked, more, are, one, rest)) = inl (asked, more, are, one.0, one.1, rw e at rest)
joined_edits left next part parts r e (inr (others, bad, one, rest)) = inr (others, bad, one, rw e at rest)

readings-written : (left : ℕ) (parts : List (List (List ℕ))) → IfOk (joined (readings_of left parts)) (EditsAre left parts)
unfolding joined
readings-written zero [] = (refl, refl)
readings-written (suc left) [] = (refl, refl)
readings-written zero (part ∷ parts) =
    if_ok_more (Joined (EditIs 0 part) (EditsAre 0 parts)) (EditsAre 0 (part ∷ parts)) (joined (unmade_of part ∷ readings_of 0 parts))
    (joined_one (EditIs 0 part) (EditsAre 0 parts) (unmade_of part) (readings_of 0 parts) (unmade_of-written 0 part (inl refl)) (readings-written zero parts))
    (λ r h. joined_edits 0 0 part parts r refl h)
readings-written (suc left) (part ∷ parts) =
    if_ok_more (Joined (EditIs (suc left) part) (EditsAre left parts)) (EditsAre (suc left) (part ∷ parts)) (joined (edit_of part ∷ readings_of left parts))
    (joined_one (EditIs (suc left) part) (EditsAre left parts) (edit_of part) (readings_of left parts) (edit_of-written (suc left) part (omega arith)) (readings-written left parts))
    (λ r h. joined_edits (suc left) left part parts r (omega arith) h)

pub edits_of-written : (ws : List (List ℕ)) → IfOk (edits_of ws) (EditsAre max_edits (slice_split parts_edits ws))
unfolding edits_of
edits_of-written ws = readings-written max_edits (slice_split parts_edits ws)
