use Rattle.std.proofs.Common.{◌≡◌, ◌<◌, ◌^◌, take, drop}
use Rattle.std.specs.Char.{is_ascii_hexdigit}
use Rattle.std.specs.List.{list_all}
use Rattle.line_words.specs.words.Names.{hex_value}
use Rattle.line_words.proofs.words.naming.read_hex.Given as goal

abbrev pub invariant-loop-d : goal.invariant-loop-d
invariant-loop-d l = record {
  value : l.n ≡ hex_value (take l.d-index l.word);
  bound : l.n < 16 ^ l.d-index;
  left : list_all is_ascii_hexdigit (drop l.d-index l.word) ≡ list_all is_ascii_hexdigit l.word;
}
