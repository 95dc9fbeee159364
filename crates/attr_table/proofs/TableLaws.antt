-- A look into a table of the code.
use Rattle.std.proofs.Common.{◌≡◌, ℕ, zero, suc, ◌+◌, Bool, true, not, ap, cond, nat_lt, List, [], ◌∷◌, map, slice_get, position, refl}
use Rattle.std.specs.Borrow.{Bor}
use Rattle.std.specs.List.{list_all, prefix_len}
use Rattle.std.specs.Option.{option_map_or}
use Rattle.std.specs.Str.{bytes_eq}
use Rattle.std.proofs.lemmas.Bool.{and_parts, ltb-true}
use Rattle.std.proofs.lemmas.List.{length-map}
use Rattle.attr_table.specs.declared.table.Slot.{Slot}
use Rattle.attr_table.specs.declared.table.Slot.TheVariants as slot
use Rattle.attr_table.specs.declared.table.Takes.{Takes}
use Rattle.attr_table.specs.Setting.{HasVerb}
use Rattle.attr_table.specs.Attributes.{Attribute, attributes, known}
use Rattle.attr_table.specs.Table.{attribute, place_in, slot_at}

prefix_len-rows : (rows : List (Bor (List ℕ) × Takes × Slot)) (name : List ℕ)
    → prefix_len (λ (known : Attribute). not (bytes_eq known.name name)) (map attribute rows) ≡ prefix_len (λ row. not (bytes_eq row.0.now name)) rows
prefix_len-rows [] name = refl
prefix_len-rows (row ∷ rows) name = ap (λ n. cond (not (bytes_eq row.0.now name)) (1 + n) 0) (prefix_len-rows rows name)

pub place_in-rows : (rows : List (Bor (List ℕ) × Takes × Slot)) (name : List ℕ) → place_in (map attribute rows) name ≡ position (λ row. bytes_eq row.0.now name) rows
place_in-rows rows name = rw (prefix_len-rows rows name, length-map rows attribute) refl

-- whether a rule that is set is one of the 21
abbrev has_verb : Slot → Bool
has_verb (slot.Rule verb) = nat_lt verb 21
has_verb _ = true

HasVerb_by : (set : Slot) → has_verb set ≡ true → HasVerb set
HasVerb_by (slot.Rule verb) is = ltb-true verb 21 is
HasVerb_by _ is = tt

has_verb-get : (all : List Attribute) (place : ℕ) → list_all (λ (known : Attribute). has_verb known.slot) all ≡ true
    → has_verb (option_map_or (λ (known : Attribute). known.slot) (slice_get all place) slot.Id) ≡ true
has_verb-get [] place is = refl
has_verb-get (known ∷ all) zero is = (and_parts (has_verb known.slot) (list_all (λ (known : Attribute). has_verb known.slot) all) is).0
has_verb-get (known ∷ all) (suc place) is = has_verb-get all place (and_parts (has_verb known.slot) (list_all (λ (known : Attribute). has_verb known.slot) all) is).1

pub verbs : (place : ℕ) → HasVerb (slot_at place)
unfolding attributes
verbs place = HasVerb_by (slot_at place) (has_verb-get attributes place refl)
