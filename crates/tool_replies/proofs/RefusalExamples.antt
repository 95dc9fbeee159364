-- Worked lines that report refusals, by computation.
use Rattle.std.specs.Fmt.{digits}
use Rattle.std.specs.Prelude.{◌≡◌, [], codes, refl}
use Rattle.axml_chunks.specs.Faults.{not_table, truncated}
use Rattle.text_lines.specs.Joined.{◌⧺◌}
use Rattle.view_model.specs.Refusals.{AtPlace, Element, refusal_numbered}
use Rattle.tool_replies.specs.Dump.{fault_text, refused_file_text}
use Rattle.tool_replies.specs.Names.{refusal_name, refusal_names}
use Rattle.tool_replies.specs.Refusals.{refused_line, refused_text}

reports_of_no_root : refused_line 3 (refusal_numbered 34) ≡ codes "line 3: refused 34 NoRoot\n"
unfolding digits refused_line refused_text ◌⧺◌ refusal_name refusal_names
reports_of_no_root = refl

reports_of_an_element : refused_line 12 (record { number = 20; reason = Element 2 }) ≡ codes "line 12: refused 20 Depth element 2\n"
unfolding digits refused_line refused_text ◌⧺◌ refusal_name refusal_names
reports_of_an_element = refl

reports_of_a_place : refused_line 1 (record { number = 26; reason = AtPlace 5 }) ≡ codes "line 1: refused 26 BadState at 5\n"
unfolding digits refused_line refused_text ◌⧺◌ refusal_name refusal_names
reports_of_a_place = refl

reports_of_a_missing_file : refused_file_text 39 ≡ codes "file: refused 39 Missing\n"
unfolding digits refused_file_text refused_text ◌⧺◌ refusal_name refusal_names
reports_of_a_missing_file = refl

reports_of_a_long_file : refused_file_text 40 ≡ codes "file: refused 40 LongFile\n"
unfolding digits refused_file_text refused_text ◌⧺◌ refusal_name refusal_names
reports_of_a_long_file = refl

reports_of_a_file_that_is_cut_short : fault_text (truncated 324) ≡ codes "file: refused 1 Truncated at 324\n"
unfolding digits fault_text refused_text ◌⧺◌ refusal_name refusal_names
reports_of_a_file_that_is_cut_short = refl

reports_of_a_file_that_is_no_table : fault_text (not_table 0) ≡ codes "file: refused 42 NotTable at 0\n"
unfolding digits fault_text refused_text ◌⧺◌ refusal_name refusal_names
reports_of_a_file_that_is_no_table = refl

the_table_ends : refusal_name 43 ≡ codes "NoPane"
unfolding refusal_name refusal_names
the_table_ends = refl

no_name_past_it : refusal_name 44 ≡ []
unfolding refusal_name refusal_names
no_name_past_it = refl

no_name_before_it : refusal_name 0 ≡ []
unfolding refusal_name refusal_names
no_name_before_it = refl
