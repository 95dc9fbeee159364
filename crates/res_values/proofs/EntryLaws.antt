-- The plain entries of a table, after a definition and at a look-up.
use Rattle.std.proofs.Common.{◌≡◌, ℕ, Bool, true, false, List, [], ◌∷◌, Option, Some, None, Result, Ok, Err, refl, inl, inr, subst, sym, ◌∙◌, ap, if◌then◌else◌}
use Rattle.std.specs.Prelude.{is_some, length, nat_eq}
use Rattle.std.specs.Borrow.{Bor}
use Rattle.std.specs.Result.{IsErrAnd}
use Rattle.std.specs.Option.{option_copied, option_map}
use Rattle.std.specs.Map.{lookup}
use Rattle.std.proofs.lemmas.Bool.{cases_eq, eq-eqb, ne_eqb}
use Rattle.std.proofs.lemmas.List.{length-map}
use Rattle.std.proofs.lemmas.Map.Made.{lookup-map_values}
use Rattle.indexmap.specs.IndexMap.{insert_entry}
use Rattle.view_model.specs.Resources.{Entries, Resource, definition_refusal, definition_refusal_of, resource_of, with_resource}
use Rattle.view_model.specs.Refusals.{IsRefusedExactlyFor, PlainRefusal, plain_refusal}
use Rattle.view_model.specs.declared.fault.Fault.{Fault}
use Rattle.view_model.specs.declared.fault.Fault.TheVariants.{NoMemory, Refused}
use Rattle.view_model.specs.declared.refusal.Refusal.{Refusal}
use Rattle.res_values.specs.declared.value.Value.{Value}
use Rattle.res_values.specs.Values.{entries, resource}

pub entries-insert : (values : List (ℕ × Value)) (id : ℕ) (value : Value)
    → entries (insert_entry nat_eq values id value) ≡ with_resource (entries values) id (resource value)
entries-insert [] id value = refl
entries-insert (entry ∷ more) id value = by_test (nat_eq id entry.0) (entries-insert more id value)
  where
    by_test : (v : Bool) → entries (insert_entry nat_eq more id value) ≡ with_resource (entries more) id (resource value)
        → entries (if v then (entry.0, value) ∷ more else entry ∷ insert_entry nat_eq more id value)
        ≡ (if v then (entry.0, resource value) ∷ entries more else (entry.0, resource entry.1) ∷ with_resource (entries more) id (resource value))
    by_test true rest = refl
    by_test false rest = ap (λ l. (entry.0, resource entry.1) ∷ l) rest

pub resource_of-entries : (values : List (ℕ × Value)) (id : ℕ) → resource_of (entries values) id ≡ option_map resource (lookup (nat_eq id) values)
resource_of-entries values id = lookup-map_values resource (nat_eq id) values

nat_eq-swapped : (a b : ℕ) → nat_eq a b ≡ nat_eq b a
nat_eq-swapped a b = elim (cases_eq a b) [ inl same ↦ eq-eqb a b same ∙ sym (eq-eqb b a (sym same)) | inr differ ↦ ne_eqb a b differ ∙ sym (ne_eqb b a (λ same. differ (sym same))) ]

-- an id that is defined anew, and any other
pub resource_of-with : (all : Entries) (id : ℕ) (new : Resource) (other : ℕ)
    → resource_of (with_resource all id new) other ≡ (if nat_eq id other then Some new else resource_of all other)
resource_of-with [] id new other = ap (λ v. if v then Some new else None) (nat_eq-swapped other id)
resource_of-with (entry ∷ more) id new other =
    elim (cases_eq id entry.0) [
      | inl same ↦ rw (eq-eqb id entry.0 same) (first (nat_eq id other) (nat_eq-swapped other entry.0 ∙ ap (λ n. nat_eq n other) (sym same)))
      | inr differ ↦ rw (ne_eqb id entry.0 differ) (elim (cases_eq other entry.0) [
        | inl here ↦ rw (eq-eqb other entry.0 here, ne_eqb id other (λ same. differ (same ∙ here))) refl
        | inr elsewhere ↦ rw (ne_eqb other entry.0 elsewhere) (resource_of-with more id new other)
      ])
    ]
  where
    first : (v : Bool) → nat_eq other entry.0 ≡ v
        → (if nat_eq other entry.0 then Some new else resource_of more other) ≡ (if v then Some new else (if nat_eq other entry.0 then Some entry.1 else resource_of more other))
    first true is = rw is refl
    first false is = rw is refl

-- what a look-up in the table found is the plain resource of its id
pub found_is : (values : List (ℕ × Value)) (now : Entries) (id : ℕ) (found : Option (Bor Value)) → entries values ≡ now
    → option_copied found ≡ lookup (nat_eq id) values → option_map (λ (value : Bor Value). resource value.now) found ≡ resource_of now id
found_is values now id found same is = resource_in found ∙ ap (option_map resource) is ∙ sym (resource_of-entries values id) ∙ ap (λ all. resource_of all id) same
  where
    resource_in : (found : Option (Bor Value)) → option_map (λ (value : Bor Value). resource value.now) found ≡ option_map resource (option_copied found)
    resource_in None = refl
    resource_in (Some value) = refl

-- why an id gets no resource follows from the table's length and such a look-up
pub refusal_is : (values : List (ℕ × Value)) (now : Entries) (id count : ℕ) (found : Option (Bor Value)) → entries values ≡ now
    → count ≡ length values → option_copied found ≡ lookup (nat_eq id) values → definition_refusal_of now id ≡ definition_refusal count (is_some found)
refusal_is values now id count found same len is =
    ap (λ all. definition_refusal (length all) (is_some (resource_of all id))) (sym same)
    ∙ ap (λ v. definition_refusal (length (entries values)) (is_some v)) (resource_of-entries values id ∙ ap (option_map resource) (sym is))
    ∙ ap (λ v. definition_refusal (length (entries values)) v) (some found)
    ∙ ap (λ n. definition_refusal n (is_some found)) (length-map values (λ (entry : ℕ × Value). (entry.0, resource entry.1)) ∙ sym len)
  where
    some : (found : Option (Bor Value)) → is_some (option_map resource (option_copied found)) ≡ is_some found
    some None = refl
    some (Some value) = refl

-- the entries of a table after an insertion
pub defined : (values after : List (ℕ × Value)) (now : Entries) (id : ℕ) (value : Value) → entries values ≡ now → after ≡ insert_entry nat_eq values id value
    → entries after ≡ with_resource now id (resource value)
defined values after now id value same is = ap entries is ∙ entries-insert values id value ∙ ap (λ all. with_resource all id (resource value)) same

-- the refusal that is the reason
pub refused_as : (reason : Option PlainRefusal) (refusal : Refusal) (result : Result (Unit {0}) Fault) → reason ≡ Some (plain_refusal refusal)
    → IsErrAnd result (λ fault. fault ≡ Refused refusal) → IsRefusedExactlyFor reason result
refused_as reason refusal (Ok answer) some is = absurd is
refused_as reason refusal (Err fault) some is = subst (λ fault. IsRefusedExactlyFor {A = Unit {0}} reason (Err fault)) (sym is) some

-- out of memory, if there is no reason to refuse
pub no_memory : (reason : Option PlainRefusal) (result : Result (Unit {0}) Fault) → reason ≡ None → IsErrAnd result (λ fault. fault ≡ NoMemory)
    → IsRefusedExactlyFor reason result
no_memory reason (Ok answer) none is = absurd is
no_memory reason (Err fault) none is = subst (λ fault. IsRefusedExactlyFor {A = Unit {0}} reason (Err fault)) (sym is) none
