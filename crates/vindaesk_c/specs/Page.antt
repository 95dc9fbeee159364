-- What the tool writes, by the form of its words.
use Rattle.std.specs.Prelude.{ℕ, Bool, false, List, []}
use Rattle.tool_io.specs.Fetched.{Files}
use Rattle.tool_replies.specs.Dump.{dump_page, refuses_file}
use Rattle.whole_tool.specs.Focus.{focus_page, refuses_focus}
use Rattle.whole_tool.specs.Gen.{gen_page}
use Rattle.tool_replies.specs.Lookup.{lookup_page, refuses_table}
use Rattle.whole_tool.specs.Transcript.{has_refusal, refuses_in_stack, stack_page, transcript}
use Rattle.whole_tool.specs.Usage.{Usage, Run, Stack, Dump, Gen, Lookup, Focus, Unknown}

-- the page of a script, of a file or of a load
abbrev pub page_of : Usage → List ℕ → Files → List ℕ
page_of Run script files = transcript script files
page_of Stack script files = stack_page script files
page_of (Dump name) script files = dump_page files name
page_of (Gen n) script files = gen_page n
page_of (Lookup name ids) script files = lookup_page files name ids
page_of (Focus question) script files = focus_page script files question
page_of Unknown script files = []

-- whether something is refused there
abbrev pub refuses : Usage → List ℕ → Files → Bool
refuses Run script files = has_refusal script files
refuses Stack script files = refuses_in_stack script files
refuses (Dump name) script files = refuses_file files name
refuses (Gen n) script files = false
refuses (Lookup name ids) script files = refuses_table files name
refuses (Focus question) script files = refuses_focus script files question
refuses Unknown script files = false
