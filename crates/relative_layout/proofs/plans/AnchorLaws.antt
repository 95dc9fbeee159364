-- Anchors come before their children in an order, also if they are found through siblings that are gone.
use Rattle.std.proofs.Common.{◌≡◌, ◌≢◌, ℕ, zero, suc, ◌<◌, Bool, true, false, Option, Some, None, List, length, get_or, refl, sym, ◌∙◌, arith}
use Rattle.std.specs.Prelude.{◌==◌, if◌then◌else◌}
use Rattle.std.proofs.lemmas.Bool.Decides.{nat_tests}
use Rattle.relative_layout.proofs.orders.NamingLaws.{last_is, leads_whole, names-at}
use Rattle.relative_layout.proofs.orders.OrderLaws.{reach_before}
use Rattle.relative_layout.specs.ordering.Naming.{link_at, padded_ids}
use Rattle.view_model.specs.declared.facts.Rules.{Rules}
use Rattle.view_model.specs.declared.relative.Axis.{Axis}
use Rattle.view_model.specs.declared.relative.Axis.TheVariants.{Horizontal, Vertical}
use Rattle.view_model.specs.declared.relative.Tie.{Tie}
use Rattle.view_model.specs.declared.relative.Tie.TheVariants.{Before, After, AlignNear, AlignFar}
use Rattle.view_model.specs.declared.relative.Link.{Link}
use Rattle.view_model.specs.Verbs as verb
use Rattle.view_model.specs.Direction.{left_of_two, right_of_two}
use Rattle.view_model.specs.Orders.{IsAnchorsFirst, Reaches, AtOnce, Through}
use Rattle.view_model.specs.SiblingRules.{anchor_id, anchor_of, anchor_within, form_of, last_with_id, leads, named_sibling, names, other_than, shown_or, value_of}

-- the id of an anchor is one of those that the rules of the axis name
record IsPadded (axis : Axis) (rules : Rules) (id : ℕ) : Type 0 where
  pub at : ℕ
  pub below : at < 8
  pub is : get_or (padded_ids axis rules) at 0 ≡ id

form_padded : (rules : Rules) (start left : ℕ) → IsPadded Horizontal rules start → IsPadded Horizontal rules left → IsPadded Horizontal rules (form_of start left)
form_padded rules start left s l = by_test (start == 0)
  where
    by_test : (v : Bool) → IsPadded Horizontal rules (if v then left else start)
    by_test true = l
    by_test false = s

one_padded : (rules : Rules) (rtl : Bool) (start end : ℕ) → IsPadded Horizontal rules (value_of rules start) → IsPadded Horizontal rules (value_of rules end)
    → IsPadded Horizontal rules (left_of_two rtl (value_of rules start) (value_of rules end))
one_padded rules true start end s e = e
one_padded rules false start end s e = s

other_padded : (rules : Rules) (rtl : Bool) (start end : ℕ) → IsPadded Horizontal rules (value_of rules start) → IsPadded Horizontal rules (value_of rules end)
    → IsPadded Horizontal rules (right_of_two rtl (value_of rules start) (value_of rules end))
other_padded rules true start end s e = s
other_padded rules false start end s e = e

padded : (axis : Axis) (rules : Rules) (at : ℕ) → at < 8 → IsPadded axis rules (get_or (padded_ids axis rules) at 0)
padded axis rules at below = record { at = at; below = below; is = refl }

anchor_padded : (rtl : Bool) (axis : Axis) (tie : Tie) (rules : Rules) → IsPadded axis rules (anchor_id rtl axis tie rules)
anchor_padded rtl Horizontal Before rules = form_padded rules _ _ (one_padded rules rtl verb.start_of verb.end_of (padded Horizontal rules 4 (omega arith)) (padded Horizontal rules 5 (omega arith))) (padded Horizontal rules 0 (omega arith))
anchor_padded rtl Horizontal After rules = form_padded rules _ _ (other_padded rules rtl verb.start_of verb.end_of (padded Horizontal rules 4 (omega arith)) (padded Horizontal rules 5 (omega arith))) (padded Horizontal rules 1 (omega arith))
anchor_padded rtl Horizontal AlignNear rules = form_padded rules _ _ (one_padded rules rtl verb.align_start verb.align_end (padded Horizontal rules 6 (omega arith)) (padded Horizontal rules 7 (omega arith))) (padded Horizontal rules 2 (omega arith))
anchor_padded rtl Horizontal AlignFar rules = form_padded rules _ _ (other_padded rules rtl verb.align_start verb.align_end (padded Horizontal rules 6 (omega arith)) (padded Horizontal rules 7 (omega arith))) (padded Horizontal rules 3 (omega arith))
anchor_padded rtl Vertical Before rules = padded Vertical rules 0 (omega arith)
anchor_padded rtl Vertical After rules = padded Vertical rules 1 (omega arith)
anchor_padded rtl Vertical AlignNear rules = padded Vertical rules 2 (omega arith)
anchor_padded rtl Vertical AlignFar rules = padded Vertical rules 3 (omega arith)

anchor_named : (rtl : Bool) (axis : Axis) (tie : Tie) (rules : Rules) → anchor_id rtl axis tie rules ≢ 0 → names axis rules (anchor_id rtl axis tie rules) ≡ true
anchor_named rtl axis tie rules some =
    let p = anchor_padded rtl axis tie rules in
    rw (sym p.is) (names-at axis rules p.at p.below (λ zero. some (sym p.is ∙ zero)))

other_than_is : (place other : ℕ) (found : Option ℕ) → other_than place found ≡ Some other → (found ≡ Some other) × (place ≢ other)
other_than_is place other None h = absurd (let none : None ≡ Some other = h in cc)
other_than_is place other (Some sibling) h = by_test (sibling == place) refl h
  where
    by_test : (v : Bool) → (sibling == place) ≡ v → (if v then None else Some sibling) ≡ Some other → (Some sibling ≡ Some other) × (place ≢ other)
    by_test true is h = absurd (let none : None ≡ Some other = h in cc)
    by_test false is h = (h, λ same. let e : sibling ≡ other = cc in let t : (sibling == place) ≡ true = grind (arith, nat_tests) in absurd (cc))

-- a child leads to the sibling that it names
pub named_leads : (rtl : Bool) (axis : Axis) (tie : Tie) (kids : List Link) (place sibling : ℕ) → named_sibling rtl axis tie kids place ≡ Some sibling → leads axis kids place sibling ≡ true
named_leads rtl axis tie kids place sibling h =
    let rules = (link_at kids place).rules in
    let o = other_than_is place sibling (last_with_id kids (anchor_id rtl axis tie rules)) h in
    let last = last_is kids (anchor_id rtl axis tie rules) sibling o.0 in
    leads_whole axis kids place sibling o.1 (rw last.has (anchor_named rtl axis tie rules last.some))

-- and reaches its anchor
within_reaches : (rtl : Bool) (axis : Axis) (tie : Tie) (kids : List Link) (shown : ℕ → Bool) (left place anchor : ℕ) → anchor_within left shown (named_sibling rtl axis tie kids) place ≡ Some anchor
    → Reaches (leads axis kids) place anchor
within_reaches rtl axis tie kids shown zero place anchor h = absurd (let none : None ≡ Some anchor = h in cc)
within_reaches rtl axis tie kids shown (suc left) place anchor h =
    by_name (named_sibling rtl axis tie kids place) refl (λ sibling. within_reaches rtl axis tie kids shown left sibling anchor) h
  where
    by_test : (sibling : ℕ) → leads axis kids place sibling ≡ true → (v : Bool)
        → (anchor_within left shown (named_sibling rtl axis tie kids) sibling ≡ Some anchor → Reaches (leads axis kids) sibling anchor)
        → (if v then Some sibling else anchor_within left shown (named_sibling rtl axis tie kids) sibling) ≡ Some anchor → Reaches (leads axis kids) place anchor
    by_test sibling led true following h = let same : sibling ≡ anchor = cc in AtOnce (rw (sym same) led)
    by_test sibling led false following h = Through led (following h)

    by_name : (name : Option ℕ) → named_sibling rtl axis tie kids place ≡ name
        → ((sibling : ℕ) → anchor_within left shown (named_sibling rtl axis tie kids) sibling ≡ Some anchor → Reaches (leads axis kids) sibling anchor)
        → shown_or shown (anchor_within left shown (named_sibling rtl axis tie kids)) name ≡ Some anchor → Reaches (leads axis kids) place anchor
    by_name None is following h = absurd (let none : None ≡ Some anchor = h in cc)
    by_name (Some sibling) is following h = by_test sibling (named_leads rtl axis tie kids place sibling is) (shown sibling) (following sibling) h

pub anchor_reached : (rtl : Bool) (axis : Axis) (tie : Tie) (kids : List Link) (shown : ℕ → Bool) (place anchor : ℕ) → anchor_of rtl axis tie kids shown place ≡ Some anchor
    → Reaches (leads axis kids) place anchor
anchor_reached rtl axis tie kids shown place anchor h = within_reaches rtl axis tie kids shown (length kids) place anchor h

-- so that it comes before it in each order
pub anchor_before : (rtl : Bool) (axis : Axis) (tie : Tie) (kids : List Link) (shown : ℕ → Bool) (order : List ℕ) → IsAnchorsFirst (leads axis kids) order → (p anchor : ℕ) → p < length order
    → anchor_of rtl axis tie kids shown (get_or order p 0) ≡ Some anchor → (q : ℕ) × (q < p) × (get_or order q 0 ≡ anchor)
anchor_before rtl axis tie kids shown order is p anchor inside h =
    reach_before (leads axis kids) order is p inside refl (anchor_reached rtl axis tie kids shown (get_or order p 0) anchor h)
