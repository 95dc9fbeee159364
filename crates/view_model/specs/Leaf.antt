-- A view that measures no child.
use Rattle.std.specs.Prelude.{pos, false, if◌then◌else◌, None}
use Rattle.geom_core.specs.Spec.{default_size_of}
use Rattle.geom_core.specs.declared.geometry.Size.{Size}
use Rattle.view_model.specs.declared.class.Class.{Class}
use Rattle.view_model.specs.declared.facts.Facts.{Facts}
use Rattle.view_model.specs.Classes.{has_text}
use Rattle.view_model.specs.Measuring.{Rule, Specs}
use Rattle.view_model.specs.PlainTree.{PlainView}
use Rattle.view_model.specs.TextView.{text_size}

-- the rule of a view of this size
abbrev pub leaf_rule : Size → Rule
leaf_rule size = record {
  ask = λ past taken kid. None;
  turns = λ past. false;
  size = λ past. size;
  total = λ past. pos 0;
}

-- the size of a plain view: the minimum, or all that is offered
abbrev pub view_size : Facts → Specs → Size
view_size own specs = record { w = default_size_of own.min.w specs.across; h = default_size_of own.min.h specs.down }

-- the size of a view that has no children, by its class
abbrev pub leaf_size : Class → PlainView → Specs → Size
leaf_size class view specs =
    if has_text class then text_size view.facts view.text specs else view_size view.facts specs
