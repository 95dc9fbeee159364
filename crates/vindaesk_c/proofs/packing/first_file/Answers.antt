use Rattle.std.proofs.Common.{arith, ap, length, refl}
use Rattle.vindaesk_c.proofs.PackedLaws.{no_bytes, no_lengths, one_file, split_parts}
use Rattle.vindaesk_c.proofs.packing.first_file.Goals as goal

pub returns-in_err-name_len-clause-none : goal.returns-in_err-name_len-clause-none
returns-in_err-name_len-clause-none c =
    λ none name contents rest. no_lengths c.args.bytes.now name contents rest (omega (arith, c.in_err-name_len.ensures.none refl))

pub returns-in_err-contents_len-clause-none : goal.returns-in_err-contents_len-clause-none
returns-in_err-contents_len-clause-none c =
    λ none name contents rest. no_lengths c.args.bytes.now name contents rest
    (omega (arith, c.in_err-contents_len.ensures.none refl, ap length c.in_ok-name_len.ensures.found.0))

pub returns-in_err-name-clause-none : goal.returns-in_err-name-clause-none
returns-in_err-name-clause-none c =
    λ none name contents rest. no_bytes c.in_ok-name_len.name_len c.in_ok-contents_len.contents_len c.args.bytes.now
    c.in_ok-name_len.after_first.now c.in_ok-contents_len.after_lengths.now name contents rest
    c.in_ok-name_len.ensures.found.0 c.in_ok-contents_len.ensures.found.0 c.in_ok-name_len.ensures.found.1 c.in_ok-contents_len.ensures.found.1
    (omega arith) (omega (arith, c.in_err-name.ensures.cases))

pub returns-in_err-contents-clause-none : goal.returns-in_err-contents-clause-none
returns-in_err-contents-clause-none c =
    λ none name contents rest. no_bytes c.in_ok-name_len.name_len c.in_ok-contents_len.contents_len c.args.bytes.now
    c.in_ok-name_len.after_first.now c.in_ok-contents_len.after_lengths.now name contents rest
    c.in_ok-name_len.ensures.found.0 c.in_ok-contents_len.ensures.found.0 c.in_ok-name_len.ensures.found.1 c.in_ok-contents_len.ensures.found.1
    (omega arith) (omega (arith, c.in_err-contents.ensures.cases, c.in_ok-name.ensures.cases.4))

pub returns-clause-found : goal.returns-clause-found
returns-clause-found c =
    one_file c.in_ok-name_len.name_len c.in_ok-contents_len.contents_len c.args.bytes.now
    c.in_ok-name_len.after_first.now c.in_ok-contents_len.after_lengths.now c.in_ok-name.name.now c.in_ok-name.after_name.now
    c.in_ok-contents.contents.now c.in_ok-contents.rest.now
    c.in_ok-name_len.ensures.found.0 c.in_ok-contents_len.ensures.found.0
    (split_parts c.in_ok-contents_len.after_lengths.now c.in_ok-name_len.name_len c.in_ok-name.name.now c.in_ok-name.after_name.now c.in_ok-name.ensures.cases) c.in_ok-name.ensures.cases.3
    (split_parts c.in_ok-name.after_name.now c.in_ok-contents_len.contents_len c.in_ok-contents.contents.now c.in_ok-contents.rest.now c.in_ok-contents.ensures.cases) c.in_ok-contents.ensures.cases.3
