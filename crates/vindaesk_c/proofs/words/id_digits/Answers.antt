use Rattle.std.proofs.Common.{arith}
use Rattle.vindaesk_c.proofs.LookupLaws.{eight_ascii, eight_digits}
use Rattle.vindaesk_c.proofs.words.id_digits.Goals as goal

pub returns-clause-word : goal.returns-clause-word
returns-clause-word c =
    eight_digits c.hex_digit.result c.hex_digit-2.result c.hex_digit-3.result c.hex_digit-4.result
    c.hex_digit-5.result c.hex_digit-6.result c.hex_digit-7.result c.hex_digit-8.result c.args.id
    c.hex_digit.ensures.digit c.hex_digit-2.ensures.digit c.hex_digit-3.ensures.digit c.hex_digit-4.ensures.digit
    c.hex_digit-5.ensures.digit c.hex_digit-6.ensures.digit c.hex_digit-7.ensures.digit c.hex_digit-8.ensures.digit
    (omega arith)

pub returns-clause-text : goal.returns-clause-text
returns-clause-text c =
    eight_ascii c.hex_digit.result c.hex_digit-2.result c.hex_digit-3.result c.hex_digit-4.result
    c.hex_digit-5.result c.hex_digit-6.result c.hex_digit-7.result c.hex_digit-8.result
    c.hex_digit.ensures.ascii c.hex_digit-2.ensures.ascii c.hex_digit-3.ensures.ascii c.hex_digit-4.ensures.ascii
    c.hex_digit-5.ensures.ascii c.hex_digit-6.ensures.ascii c.hex_digit-7.ensures.ascii c.hex_digit-8.ensures.ascii
