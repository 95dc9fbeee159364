use Rattle.std.proofs.Common.{◌≡◌, length, take, get_or, true, subst, ap, ◌∙◌, arith, length-append}
use Rattle.std.proofs.lemmas.List.{get_or_default}
use Rattle.std.specs.Prelude.{encode_utf8, encode_utf8_all}
use lib.Utf8.{scalar}
use Rattle.saved_state.proofs.TextLaws.{bytes_more, valid_more}
use Rattle.saved_state.proofs.bytes.text_bytes.Goals as goal

pub loop-character-preserved : goal.loop-character-preserved
loop-character-preserved c =
    let text = c.characters-character-items.result.now in
    let place = c.loop-character.character-index in
    let there = c.loop-character-test.true in
    let is : c.character-item.result ≡ get_or text place 0 = c.character-item.is ∙ get_or_default text place c.character-item.result 0 there in
    let own = c.character_bytes-count.ensures in
    let size : c.character_bytes-count.result ≡ length (encode_utf8 (get_or text place 0)) = own.value ∙ ap (λ c. length (encode_utf8 c)) is in
    let more = bytes_more text place there in
    let both = length-append (encode_utf8_all (take place text)) (encode_utf8 (get_or text place 0)) in
    let all = ap length more in
    let before = c.loop-character.invariant.count in
    record {
      count = omega arith;
      few = let few = own.few in let less = c.loop-character.invariant.few in omega arith;
      valid = valid_more text place there c.loop-character.invariant.valid (subst (λ c. scalar c ≡ true) is own.valid);
    }
