use Rattle.std.proofs.Common.{◌≡◌, ◌∙◌, ◌∷◌, ap, ap₂}
use Rattle.std.specs.Prelude.{string_bytes}
use Rattle.vindaesk_c.proofs.LookupLaws.{can_name, lookup_form}
use Rattle.vindaesk_c.specs.Lookups.{can_look_up}
use Rattle.whole_tool.specs.Usage.{Lookup, usage}
use Rattle.vindaesk_c.proofs.words.lookup_words.Goals as goal

pub name_text-requires : goal.name_text-requires
name_text-requires c = can_name c.args.name.now c.args.ids.now c.requires

pub returns : goal.returns
returns c =
    let named : string_bytes c.in_ok-from_str.field-0 ≡ c.args.name.now = c.in_ok-from_str.ensures.ok ∙ c.name_text.ensures in
    ap usage (c.in_ok-insert-2.ensures.items ∙ ap (λ s. c.in_ok-from_str-2.field-0 ∷ s) c.in_ok-insert.ensures.items)
    ∙ lookup_form c.in_ok-from_str-2.field-0 c.in_ok-from_str.field-0 c.in_ok-words.words.items c.in_ok-from_str-2.ensures.ok
    (ap₂ can_look_up named c.in_ok-words.ensures.values ∙ c.requires) c.in_ok-words.ensures.ids
    ∙ ap₂ Lookup named c.in_ok-words.ensures.values
