use Rattle.std.proofs.Common.{◌≡◌, ◌++◌, length, rules}
use Rattle.std.specs.Prelude.{encode_utf8}
use Rattle.std.specs.Str.{IsUtf8}
use Rattle.line_words.proofs.texts.EscapeLaws.{escape_first, backslash_last}
use Rattle.line_words.proofs.words.escapes.UnescapedIterator.next.Goals as goal

pub returns-in-None-clause-steps : goal.returns-in-None-clause-steps
returns-in-None-clause-steps c =
    let utf8 : IsUtf8 c.args.self.now.rest.now = search rules in
    let first : c.args.self.now.rest.now ≡ encode_utf8 92 ++ c.as_str-self-2.result.now = search rules in
    let none : length c.as_str-self-2.result.now ≡ 0 = search rules in
    rw c.if-c-ne92.false (backslash_last _ _ utf8 first none)

pub returns-in-Some-clause-steps : goal.returns-in-Some-clause-steps
returns-in-Some-clause-steps c =
    let utf8 : IsUtf8 c.args.self.now.rest.now = search rules in
    let first : c.args.self.now.rest.now ≡ encode_utf8 92 ++ c.next.new.self.rest.now = search rules in
    let second : c.next.new.self.rest.now ≡ encode_utf8 c.in-Some.d ++ c.as_str-self-2.result.now = search rules in
    rw c.meant_by.ensures (escape_first _ _ _ c.in-Some.d utf8 first second)
