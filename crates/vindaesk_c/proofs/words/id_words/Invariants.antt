use Rattle.std.proofs.Common.{◌≡◌, take, true}
use Rattle.whole_tool.specs.Usage.{are_ids}
use Rattle.tool_replies.specs.Lookup.{resource_ids}
use Rattle.vindaesk_c.proofs.words.id_words.Given as goal

-- the words so far are those of the first ids
abbrev pub invariant-loop-id : goal.invariant-loop-id
invariant-loop-id l = record {
  ids : are_ids l.words.items ≡ true;
  values : resource_ids l.words.items ≡ take l.id-index l.ids;
}
