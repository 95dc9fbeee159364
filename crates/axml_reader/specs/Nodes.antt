-- The parts of a document, each from its chunk, or the first fault in it.
use Rattle.std.specs.Prelude.{◌≡◌, ℕ, ◌^◌, ◌<◌, ◌≤◌, ◌+◌, ◌-◌, ◌*◌, ◌/◌, Bool, false, not, ◌||◌, List, [], slice_index}
use Rattle.std.specs.Prelude.{length, is_some, Result, Ok, Err, nat_lt, ◌==◌, if◌then◌else◌}
use Rattle.axml_chunks.specs.declared.chunk.Chunk.{Chunk}
use Rattle.axml_chunks.specs.declared.fault.Fault.{Fault}
use Rattle.axml_chunks.specs.Faults.{bad_chunk, two_roots, too_big, unbalanced, second_pool}
use Rattle.axml_chunks.specs.Numbers.{number16, number32}
use Rattle.axml_chunks.specs.Pool.{pool_of}
use Rattle.axml_chunks.specs.Steps.{◌>>=◌}
use Rattle.axml_reader.specs.declared.doc.Node.TheVariants.{NsStart, NsEnd, Start, End, Chars}
use Rattle.axml_reader.specs.declared.fields.StartHead.{StartHead}
use Rattle.axml_reader.specs.Brackets.{is_closed_by}
use Rattle.axml_reader.specs.Document.{State}
use Rattle.axml_reader.specs.Fields.{reference_at, name_at, attrs_upto, words_at, strings, same_text}
use Rattle.axml_reader.specs.Numbers.{chars_kind, end_kind, map_kind, max_attrs, max_elements, namespace_end_kind}
use Rattle.axml_reader.specs.Numbers.{namespace_start_kind, pool_kind, start_kind, attr_bytes, attrs_offset, chars_form}
use Rattle.axml_reader.specs.Numbers.{chars_kind_offset, chars_word_offset, count_offset, line_offset, names_form}
use Rattle.axml_reader.specs.Numbers.{node_head, second_offset, start_form, step_offset}
use Rattle.axml_reader.specs.Parts.{Part, Strings, Ids, Item, Other, with_part}

-- a node's header is too short, or its body is shorter than its form
abbrev pub is_short : Chunk → ℕ → Bool
is_short chunk form = nat_lt chunk.head node_head || nat_lt (chunk.size - chunk.head) form

-- where the body of a node is
unfoldable pub body_at : ℕ → Chunk → ℕ → Result ℕ Fault
body_at place chunk form = if is_short chunk form then Err (bad_chunk place) else Ok (place + chunk.head)

-- the line of a node's source
abbrev pub line_at : List ℕ → ℕ → ℕ
line_at bytes place = number32 bytes (place + line_offset)

-- the prefix and the address of a namespace
unfoldable pub pair_at : List ℕ → ℕ → Chunk → ℕ → Result (ℕ × ℕ) Fault
pair_at bytes place chunk count = do
  body ← body_at place chunk names_form
  prefix ← reference_at bytes count body
  uri ← reference_at bytes count (body + second_offset)
  Ok (prefix, uri)

-- the namespace and the name of an element that ends
unfoldable pub names_at : List ℕ → ℕ → Chunk → ℕ → Result (ℕ × ℕ) Fault
names_at bytes place chunk count = do
  body ← body_at place chunk names_form
  ns ← reference_at bytes count body
  name ← name_at bytes count (body + second_offset)
  Ok (ns, name)

-- the string of character data
unfoldable pub chars_at : List ℕ → ℕ → Chunk → ℕ → Result ℕ Fault
chars_at bytes place chunk count = do
  body ← body_at place chunk chars_form
  reference_at bytes count body

-- attributes leave a body of this length: where the first begins, how many bytes each has, and how many there are
abbrev pub is_outside : ℕ → ℕ → ℕ → ℕ → Bool
is_outside body first step count =
    if count == 0 then false
    else (nat_lt first start_form || nat_lt step attr_bytes || nat_lt body (first + count * step))

-- an element that begins, without its attributes: whether an outermost one has ended, and how many have begun, decide
-- too
unfoldable pub start_at : List ℕ → ℕ → Chunk → ℕ → Bool → ℕ → Result StartHead Fault
start_at bytes place chunk count closed starts = do
  body ← body_at place chunk start_form
  if closed then Err (two_roots place)
      else (if not (nat_lt starts max_elements) || nat_lt max_attrs (number16 bytes (body + count_offset))
      then Err (too_big place)
      else (do
        ns ← reference_at bytes count body
        name ← name_at bytes count (body + second_offset)
        if is_outside (chunk.size - chunk.head) (number16 bytes (body + attrs_offset))
            (number16 bytes (body + step_offset)) (number16 bytes (body + count_offset))
            then Err (bad_chunk place)
            else Ok (record {
              ns = ns;
              name = name;
              place = body + number16 bytes (body + attrs_offset);
              step = number16 bytes (body + step_offset);
              count = number16 bytes (body + count_offset);
            })))

unfoldable pub pool_part : List ℕ → ℕ → Chunk → State → Result Part Fault
pool_part bytes place chunk s =
    if is_some s.pool then Err (second_pool place)
    else (pool_of bytes place chunk >>= λ pool. Ok (Strings pool))

unfoldable pub map_part : List ℕ → ℕ → Chunk → State → Result Part Fault
map_part bytes place chunk s = Ok (Ids (words_at bytes (place + chunk.head) ((chunk.size - chunk.head) / 4)))

unfoldable pub namespace_start_part : List ℕ → ℕ → Chunk → State → Result Part Fault
namespace_start_part bytes place chunk s =
    pair_at bytes place chunk (strings s.pool) >>= λ names. Ok (Item (NsStart names.0 names.1) [])

unfoldable pub namespace_end_part : List ℕ → ℕ → Chunk → State → Result Part Fault
namespace_end_part bytes place chunk s =
    pair_at bytes place chunk (strings s.pool) >>= λ names. Ok (Item (NsEnd names.0 names.1) [])

unfoldable pub start_part : List ℕ → ℕ → Chunk → State → Result Part Fault
start_part bytes place chunk s = do
  head ← start_at bytes place chunk (strings s.pool) s.stack.closed s.starts
  attrs ← attrs_upto bytes (strings s.pool) head.place head.step [] head.count
  Ok (Item (Start (line_at bytes place) head.ns head.name (length s.attrs) head.count) attrs)

unfoldable pub end_part : List ℕ → ℕ → Chunk → State → Result Part Fault
end_part bytes place chunk s = do
  names ← names_at bytes place chunk (strings s.pool)
  if not (is_closed_by (same_text s.pool) s.stack.opened names.1) then Err (unbalanced place)
      else Ok (Item (End (line_at bytes place) names.0 names.1) [])

unfoldable pub chars_part : List ℕ → ℕ → Chunk → State → Result Part Fault
chars_part bytes place chunk s = do
  text ← chars_at bytes place chunk (strings s.pool)
  Ok
      (Item (Chars (line_at bytes place) text (slice_index bytes (place + chunk.head + chars_kind_offset))
      (number32 bytes (place + chunk.head + chars_word_offset))) [])

-- what a chunk is, after what was read before it
unfoldable pub part_at : List ℕ → ℕ → Chunk → State → Result Part Fault
part_at bytes place chunk s =
    if chunk.kind == pool_kind then pool_part bytes place chunk s
    else (if chunk.kind == map_kind then map_part bytes place chunk s
    else (if chunk.kind == namespace_start_kind then namespace_start_part bytes place chunk s
    else (if chunk.kind == namespace_end_kind then namespace_end_part bytes place chunk s
    else (if chunk.kind == start_kind then start_part bytes place chunk s
    else (if chunk.kind == end_kind then end_part bytes place chunk s
    else (if chunk.kind == chars_kind then chars_part bytes place chunk s
    else Ok Other))))))

-- what was read, once a part is added to it
abbrev pub joined : State → Result Part Fault → Result State Fault
joined s part = part >>= λ p. Ok (with_part s p)

-- a header and a body are long enough
pub record IsBody (place : ℕ) (chunk : Chunk) (form body : ℕ) : Type 0 where
  pub header : node_head ≤ chunk.head
  pub room : chunk.head + form ≤ chunk.size
  pub body_is : body ≡ place + chunk.head

-- the attributes of an element fit in n bytes, and the element is not one too many
pub record StartFits (len begun : ℕ) (chunk : Chunk) (head : StartHead) : Type 0 where
  pub header : node_head ≤ chunk.head
  pub begun_few : begun < max_elements
  pub count : head.count ≤ max_attrs
  pub step : head.step < 2 ^ 16
  pub last : 0 < head.count → (attr_bytes ≤ head.step) × (head.place + head.count * head.step ≤ len)
