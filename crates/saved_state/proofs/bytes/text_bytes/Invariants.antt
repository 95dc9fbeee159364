use Rattle.std.proofs.Common.{◌≡◌, ◌*◌, ◌≤◌, length, take, true}
use Rattle.std.specs.Prelude.{encode_utf8_all}
use lib.Utf8.{scalars}
use Rattle.saved_state.proofs.bytes.text_bytes.Given as goal

abbrev pub invariant-loop-character : goal.invariant-loop-character
invariant-loop-character l = record {
  count : l.count ≡ length (encode_utf8_all (take l.character-index l.character-items));
  few : l.count ≤ 4 * l.character-index;
  valid : scalars (take l.character-index l.character-items) ≡ true;
}
