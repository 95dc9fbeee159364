-- What may be looked up in a table.
use Rattle.std.specs.Prelude.{◌≡◌, ℕ, nat_le, nat_lt, Bool, true, ◌&&◌, List, length}
use Rattle.line_words.specs.words.FileNames.{is_file_name}
use Rattle.whole_tool.specs.Numbers.{max_ids}
use Rattle.whole_tool.specs.Usage.{is_resource_id}
use Rattle.tool_replies.specs.Lookup.{resource_id}

-- at least one resource, and as many as a look-up may have, in the table of a file that can have this name
unfoldable pub can_look_up : List ℕ → List ℕ → Bool
can_look_up name ids = is_file_name name && nat_lt 0 (length ids) && nat_le (length ids) max_ids

-- the word that gives an id
pub record IsWordOf (id : ℕ) (word : List ℕ) : Type 0 where
  pub is_id : is_resource_id word ≡ true
  pub value : resource_id word ≡ id
