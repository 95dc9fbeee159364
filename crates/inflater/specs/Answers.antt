-- What calls return, by what is defined. Memory may always run out.
use Rattle.std.specs.Prelude.{◌≡◌, Result, Ok, Err}
use Rattle.view_model.specs.Refusals.{PlainRefusal, plain_refusal}
use Rattle.view_model.specs.Sprouts.{preorder, seeds_of}
use Rattle.inflater.specs.Inflating.{OneView, Plan}
use Rattle.inflater.specs.declared.element.ElementView.{ElementView}
use Rattle.view_model.specs.declared.fault.Fault.{Fault}
use Rattle.view_model.specs.declared.fault.Fault.TheVariants as fault
use Rattle.inflater.specs.declared.grown.Grown.{Grown}

-- a sapling has the views of a plan, in preorder
pub record IsGrown (plan : Plan) (grown : Grown) : Type 0 where
  pub sprouts : preorder 1 plan.seeds ≡ grown.sapling.sprouts.items
  pub seeds : seeds_of grown.sapling.sprouts.items ≡ plan.seeds
  pub ignored : grown.ignored ≡ plan.ignored

-- the views of a plan were made, or its refusal is the result
abbrev pub GrownAs : Result Plan PlainRefusal → Result Grown Fault → Type 0
GrownAs plan (Ok grown) = (p : Plan) × (plan ≡ Ok p) × IsGrown p grown
GrownAs plan (Err (fault.Refused refusal)) = plan ≡ Err (plain_refusal refusal)
GrownAs plan (Err fault.NoMemory) = Unit {0}

abbrev pub one_view : ElementView → OneView
one_view view =
    record {
      seed = record { class = view.class; facts = view.taken.facts; text = view.taken.text };
      ignored = view.taken.ignored;
    }

-- the view of one element was made, or its refusal is the result
abbrev pub ViewedAs : Result OneView PlainRefusal → Result ElementView Fault → Type 0
ViewedAs view (Ok made) = view ≡ Ok (one_view made)
ViewedAs view (Err (fault.Refused refusal)) = view ≡ Err (plain_refusal refusal)
ViewedAs view (Err fault.NoMemory) = Unit {0}
