-- What the code returns for the attributes of an element.
use Rattle.std.specs.Prelude.{◌≡◌, ℕ, List, Option, Some, Result, Ok, Err, slice_get}
use Rattle.std.specs.Borrow.{Bor}
use Rattle.std.specs.Option.{option_map}
use Rattle.axml_reader.specs.declared.doc.Node.{Node}
use Rattle.axml_reader.specs.declared.doc.Node.TheVariants.{Start}
use Rattle.res_values.specs.declared.value.Value.{Value}
use Rattle.res_values.specs.Values.{resource}
use Rattle.view_model.specs.declared.refusal.Refusal.{Refusal}
use Rattle.view_model.specs.Refusals.{PlainRefusal, plain_refusal}
use Rattle.view_model.specs.Resources.{Resource}
use Rattle.view_model.specs.declared.fault.Fault.{Fault}
use Rattle.view_model.specs.declared.fault.Fault.TheVariants as fault
use Rattle.attr_table.specs.declared.draft.Draft.{Draft}
use Rattle.attr_table.specs.declared.taking.Taken.{Taken}
use Rattle.attr_table.specs.Taking.{Facets}

-- an element begins at a node
pub record IsStart (nodes : List Node) (node : ℕ) : Type 0 where
  pub line : ℕ
  pub ns : ℕ
  pub name : ℕ
  pub first : ℕ
  pub count : ℕ
  pub is : slice_get nodes node ≡ Some (Start line ns name first count)

abbrev pub facets : Taken → Facets
facets taken = record { facts = taken.facts; text = taken.text; ignored = taken.ignored }

-- a result is what the element sets, or its first refusal; memory may run out in place of either
abbrev pub IsTakenAs : Result Facets PlainRefusal → Result Taken Fault → Type 0
IsTakenAs sets (Ok taken) = sets ≡ Ok (facets taken)
IsTakenAs sets (Err (fault.Refused refusal)) = sets ≡ Err (plain_refusal refusal)
IsTakenAs sets (Err fault.NoMemory) = Unit {0}

-- the draft is now what a step makes of it, or the result is the step's refusal
abbrev pub DraftsAs : Result Draft PlainRefusal → Draft → Result (Unit {0}) Fault → Type 0
DraftsAs step now (Ok answer) = step ≡ Ok now
DraftsAs step now (Err (fault.Refused refusal)) = step ≡ Err (plain_refusal refusal)
DraftsAs step now (Err fault.NoMemory) = Unit {0}

-- the resource that was found, or the refusal
abbrev pub FoundAs : Result (Option Resource) PlainRefusal → Result (Option (Bor Value)) Refusal → Type 0
FoundAs found (Ok value) = found ≡ Ok (option_map (λ (v : Bor Value). resource v.now) value)
FoundAs found (Err refusal) = found ≡ Err (plain_refusal refusal)
