use Rattle.std.proofs.Common.{◌≡◌, ◌++◌, take, get_or, sym, ap, ◌∙◌, append_assoc, List, ℕ}
use Rattle.std.proofs.lemmas.List.{get_or_default}
use Rattle.std.specs.Prelude.{encode_utf8, encode_utf8_all}
use Rattle.saved_state.proofs.TextLaws.{bytes_more}
use Rattle.saved_state.proofs.writing.put_characters.Goals as goal

pub loop-character-preserved : goal.loop-character-preserved
loop-character-preserved c =
    let text = c.args.characters.now in
    let place = c.loop-character.character-index in
    let there = c.loop-character-test.true in
    let start = c.args.bytes.now.items in
    let is : c.character-item.result ≡ get_or text place 0 = c.character-item.is ∙ get_or_default text place c.character-item.result 0 there in
    c.in_ok-put_character.ensures
    ∙ ap (λ own. c.loop-character.bytes.items ++ encode_utf8 own) is
    ∙ ap (λ (list : List ℕ). list ++ encode_utf8 (get_or text place 0)) c.loop-character.invariant
    ∙ append_assoc start (encode_utf8_all (take place text)) (encode_utf8 (get_or text place 0))
    ∙ ap (λ (list : List ℕ). start ++ list) (sym (bytes_more text place there))
