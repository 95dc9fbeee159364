use Rattle.std.proofs.Common.{◌≡◌, ◌∙◌, sym, vec_len, length, rules}
use Rattle.std.proofs.lemmas.Bool.{eqb-true}
use Rattle.axml_reader.proofs.DocumentLaws.{finished_by, made, nil_is}
use Rattle.axml_reader.specs.Sound.{IsSoundDocument}
use Rattle.axml_reader.specs.Meaning.{reading}
use Rattle.axml_reader.proofs.reading.Reading.finish.Goals as goal

pub invariant_of-result : goal.invariant_of-result
invariant_of-result c =
    let s = reading c.args.self in
    let none : vec_len c.args.self.opened ≡ 0 = eqb-true (vec_len c.args.self.opened) 0 (sym c.is_empty.ensures ∙ c.if-not-is_empty.false) in
    let no_items : length c.args.self.opened.items ≡ 0 = search rules in
    let sound : IsSoundDocument (made s c.in-Some.pool) = c.requires (made s c.in-Some.pool) (finished_by c.args.end s c.in-Some.pool (nil_is c.args.self.opened.items no_items) c.if-not-self.false c.in-Some.is) in
    record { short = sound.short; strings = sound.strings; attr_strings = sound.attr_strings; within = sound.within; few = sound.few; few_attrs = sound.few_attrs; rooted = sound.rooted }
