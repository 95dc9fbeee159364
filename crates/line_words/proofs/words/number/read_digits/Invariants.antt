use Rattle.std.proofs.Common.{◌≡◌, ◌<◌, ◌^◌, take, drop}
use Rattle.std.specs.Char.{is_ascii_digit}
use Rattle.std.specs.List.{list_all}
use Rattle.line_words.specs.words.Numbers.{digits_value}
use Rattle.line_words.proofs.words.number.read_digits.Given as goal

abbrev pub invariant-loop-d : goal.invariant-loop-d
invariant-loop-d l = record {
  value : l.n ≡ digits_value (take l.d-index l.word);
  bound : l.n < 10 ^ l.d-index;
  left : list_all is_ascii_digit (drop l.d-index l.word) ≡ list_all is_ascii_digit l.word;
}
