-- What is decoded is the file's document, and the file's document is decoded.
use Rattle.std.proofs.Common.{◌≡◌, ℕ, ◌+◌, ◌<◌, ◌≤◌, Bool, true, false, cond, eqb, ltb, List, [], ◌∷◌, ◌++◌, length, Option, None, Some, Result, Ok, Err, refl, sym, ap, subst, ◌∙◌, arith, append_assoc}
use Rattle.std.specs.Prelude.{not, map}
use Rattle.std.proofs.lemmas.Bool.{eq-eqb, le-ltb, eqb-true}
use Rattle.std.proofs.lemmas.List.{append-nil}
use Rattle.axml_chunks.specs.declared.chunk.Chunk.{Chunk}
use Rattle.axml_chunks.specs.declared.fault.Fault.{Fault}
use Rattle.axml_chunks.specs.Chunks.{IsChunkAt, chunk_of}
use Rattle.axml_chunks.specs.Faults.{truncated, not_xml, unbalanced, no_element}
use Rattle.axml_chunks.specs.Numbers.{number16}
use Rattle.axml_chunks.specs.Pool.{StringPool}
use Rattle.axml_chunks.specs.Steps.{◌>>=◌}
use Rattle.axml_chunks.proofs.Chunks.{chunk_found, chunk_again}
use Rattle.axml_chunks.proofs.Readings.{done, ok_is, bind_ok, guard_ok}
use Rattle.axml_reader.specs.declared.doc.Attr.{Attr}
use Rattle.axml_reader.specs.declared.doc.Node.{Node}
use Rattle.axml_reader.specs.declared.doc.Node.TheVariants.{NsStart, NsEnd, Start, End, Chars}
use Rattle.axml_reader.specs.Brackets.{Token, Opens, Closes, Plain, Stack, allows, turned, brackets, nothing_open}
use Rattle.axml_reader.specs.Document.{Document, State}
use Rattle.axml_reader.specs.Decoding.{start, document_of, chunks_from, document_with, finished, decoded}
use Rattle.axml_reader.specs.Fields.{strings, same_text}
use Rattle.axml_reader.specs.Parts.{Part, Strings, Ids, Item, Other, token, starts_of, starts_in, with_part}
use Rattle.axml_reader.specs.Relation.{Place, AreParts, IsNode, pools_of, nodes_of, attrs_of, last_ids, IsDocument}
use Rattle.axml_reader.proofs.BracketLaws.{rooted_passes, passes_rooted}
use Rattle.axml_reader.proofs.NodeLaws.{no_not}
use Rattle.axml_reader.proofs.RunLaws.{with_parts, Turns, Read, chunks_found, chunks_again}

abbrev some : StringPool → Option StringPool
some pool = Some pool

abbrev stack_of : List ℕ → Bool → Stack
stack_of opened closed = record { opened = opened; closed = closed }

abbrev some_stack : Stack → Option Stack
some_stack s = Some s

-- what parts add

nodes_with : (s : State) (parts : List Part) → (with_parts s parts).nodes ≡ s.nodes ++ nodes_of parts
nodes_with s [] = sym (append-nil s.nodes)
nodes_with s (Strings pool ∷ rest) = nodes_with (with_part s (Strings pool)) rest
nodes_with s (Ids ids ∷ rest) = nodes_with (with_part s (Ids ids)) rest
nodes_with s (Item node attrs ∷ rest) = nodes_with (with_part s (Item node attrs)) rest ∙ append_assoc s.nodes (node ∷ []) (nodes_of rest)
nodes_with s (Other ∷ rest) = nodes_with s rest

attrs_with : (s : State) (parts : List Part) → (with_parts s parts).attrs ≡ s.attrs ++ attrs_of parts
attrs_with s [] = sym (append-nil s.attrs)
attrs_with s (Strings pool ∷ rest) = attrs_with (with_part s (Strings pool)) rest
attrs_with s (Ids ids ∷ rest) = attrs_with (with_part s (Ids ids)) rest
attrs_with s (Item node attrs ∷ rest) = attrs_with (with_part s (Item node attrs)) rest ∙ append_assoc s.attrs attrs (attrs_of rest)
attrs_with s (Other ∷ rest) = attrs_with s rest

map_with : (s : State) (parts : List Part) → (with_parts s parts).map ≡ last_ids s.map parts
map_with s [] = refl
map_with s (Strings pool ∷ rest) = map_with (with_part s (Strings pool)) rest
map_with s (Ids ids ∷ rest) = map_with (with_part s (Ids ids)) rest
map_with s (Item node attrs ∷ rest) = map_with (with_part s (Item node attrs)) rest
map_with s (Other ∷ rest) = map_with s rest

starts_with : (s : State) (parts : List Part) → (with_parts s parts).starts ≡ s.starts + starts_in (map token (nodes_of parts))
starts_with s [] = omega arith
starts_with s (Strings pool ∷ rest) = starts_with (with_part s (Strings pool)) rest
starts_with s (Ids ids ∷ rest) = starts_with (with_part s (Ids ids)) rest
starts_with s (Item node attrs ∷ rest) = (let e = starts_with (with_part s (Item node attrs)) rest in omega (arith, e))
starts_with s (Other ∷ rest) = starts_with s rest

few_more : (t : Token) (n : ℕ) → n ≤ 4096 → (0 < starts_of t → n < 4096) → n + starts_of t ≤ 4096
few_more Plain n few more = omega (arith, few)
few_more (Opens a) n few more = (let lt = more (omega arith) in omega (arith, lt))
few_more (Closes b) n few more = omega (arith, few)

starts_few : (s : State) (parts : List Part) → s.starts ≤ 4096 → Turns s parts → (with_parts s parts).starts ≤ 4096
starts_few s [] few turns = few
starts_few s (Strings pool ∷ rest) few turns = starts_few (with_part s (Strings pool)) rest few turns.1
starts_few s (Ids ids ∷ rest) few turns = starts_few (with_part s (Ids ids)) rest few turns.1
starts_few s (Item node attrs ∷ rest) few turns = starts_few (with_part s (Item node attrs)) rest (few_more (token node) s.starts few turns.0.few) turns.1
starts_few s (Other ∷ rest) few turns = starts_few s rest few turns.1

-- the pool

abbrev pub pools_before : Option StringPool → List StringPool
pools_before None = []
pools_before (Some pool) = pool ∷ []

pools_with : (s : State) (parts : List Part) → Turns s parts → pools_before s.pool ++ pools_of parts ≡ pools_before (with_parts s parts).pool
pools_with s [] turns = append-nil (pools_before s.pool)
pools_with s (Strings pool ∷ rest) turns =
    ap (λ (o : Option StringPool). pools_before o ++ (pool ∷ pools_of rest)) turns.0.fresh ∙ pools_with (with_part s (Strings pool)) rest turns.1
pools_with s (Ids ids ∷ rest) turns = pools_with (with_part s (Ids ids)) rest turns.1
pools_with s (Item node attrs ∷ rest) turns = pools_with (with_part s (Item node attrs)) rest turns.1
pools_with s (Other ∷ rest) turns = pools_with s rest turns.1

pub first_is : (a b : StringPool) (rest : List StringPool) → a ∷ rest ≡ b ∷ [] → a ≡ b
first_is a b rest e = cc

pub not_two : (a b c : StringPool) (rest : List StringPool) → a ∷ b ∷ rest ≡ c ∷ [] → ⊥
not_two a b c rest e = cc

none_before : (o : Option StringPool) (pool only : StringPool) (rest : List StringPool) → pools_before o ++ (pool ∷ rest) ≡ only ∷ [] → o ≡ None
none_before None pool only rest e = refl
none_before (Some first) pool only rest e = absurd (not_two first pool only rest e)

only_one : (o : Option StringPool) (only : StringPool) → pools_before o ≡ only ∷ [] → o ≡ Some only
only_one None only e = absurd cc
only_one (Some pool) only e = ap (λ (p : StringPool). some p) (first_is pool only [] e)

-- brackets, by the strings so far and by all strings

neither : (v : Bool) → cond v false false ≡ true → ⊥
neither true e = cc
neither false e = cc

agree : (o : Option StringPool) (rest : List StringPool) (only : StringPool) (stack : Stack) (t : Token) → pools_before o ++ rest ≡ only ∷ []
    → allows (same_text o) stack t ≡ true → allows (same_text (Some only)) stack t ≡ true
unfolding same_text
agree o rest only stack Plain e a = refl
agree o rest only stack (Opens x) e a = a
agree None rest only stack (Closes b) e a = absurd (neither (eqb (length stack.opened) 0) a)
agree (Some pool) rest only stack (Closes b) e a = subst (λ (p : StringPool). allows (same_text (Some p)) stack (Closes b) ≡ true) (first_is pool only rest e) a

closes_by_all : (o : Option StringPool) (rest : List StringPool) (only : StringPool) (stack : Stack) (b : ℕ) → pools_before o ++ rest ≡ only ∷ [] → b < strings o
    → allows (same_text (Some only)) stack (Closes b) ≡ true → allows (same_text o) stack (Closes b) ≡ true
closes_by_all None rest only stack b e below a = absurd (omega (arith, below))
closes_by_all (Some pool) rest only stack b e below a = subst (λ (p : StringPool). allows (same_text (Some p)) stack (Closes b) ≡ true) (sym (first_is pool only rest e)) a

node_agrees : (bytes : List ℕ) (before : ℕ) (p : Place) (o : Option StringPool) (rest : List StringPool) (only : StringPool) (stack : Stack) (node : Node) (attrs : List Attr)
    → IsNode bytes (strings o) before p node attrs → pools_before o ++ rest ≡ only ∷ []
    → allows (same_text (Some only)) stack (token node) ≡ true → allows (same_text o) stack (token node) ≡ true
node_agrees bytes before p o rest only stack (NsStart prefix uri) attrs is e a = refl
node_agrees bytes before p o rest only stack (NsEnd prefix uri) attrs is e a = refl
node_agrees bytes before p o rest only stack (Start line ns name first n) attrs is e a = a
node_agrees bytes before p o rest only stack (End line ns name) attrs is e a = closes_by_all o rest only stack name e is.name_at.below a
node_agrees bytes before p o rest only stack (Chars line text kind word) attrs is e a = refl

-- parts that follow each other make the brackets
stack_with : (s : State) (parts : List Part) (only : StringPool) → pools_before s.pool ++ pools_of parts ≡ only ∷ [] → Turns s parts
    → brackets (same_text (Some only)) s.stack (map token (nodes_of parts)) ≡ Some (with_parts s parts).stack
stack_with s [] only e turns = refl
stack_with s (Strings pool ∷ rest) only e turns =
    stack_with (with_part s (Strings pool)) rest only (sym (ap (λ (o : Option StringPool). pools_before o ++ (pool ∷ pools_of rest)) turns.0.fresh) ∙ e) turns.1
stack_with s (Ids ids ∷ rest) only e turns = stack_with (with_part s (Ids ids)) rest only e turns.1
stack_with s (Item node attrs ∷ rest) only e turns =
    rw (agree s.pool (pools_of rest) only s.stack (token node) e turns.0.allowed) (stack_with (with_part s (Item node attrs)) rest only e turns.1)
stack_with s (Other ∷ rest) only e turns = stack_with s rest only e turns.1

allowed_then : (b : Bool) (x : Option Stack) (u : Stack) → cond b x None ≡ Some u → (b ≡ true) × (x ≡ Some u)
allowed_then true x u e = (refl, e)
allowed_then false x u e = absurd cc

stack_is : (s u : Stack) → ◌≡◌ {A = Option Stack} (Some s) (Some u) → s ≡ u
stack_is s u e = cc

-- parts whose brackets pass follow each other
pub record Comes (s : State) (parts : List Part) (u : Stack) : Type 0 where
  pub turns : Turns s parts
  pub stack_is : (with_parts s parts).stack ≡ u

comes : (bytes : List ℕ) (before : ℕ) (s : State) (places : List Place) (parts : List Part) (only : StringPool) (u : Stack) → AreParts bytes s.pool before places parts
    → pools_before s.pool ++ pools_of parts ≡ only ∷ [] → brackets (same_text (Some only)) s.stack (map token (nodes_of parts)) ≡ Some u
    → s.starts + starts_in (map token (nodes_of parts)) ≤ 4096 → Comes s parts u
comes bytes before s [] [] only u each e b few = record { turns = tt; stack_is = stack_is s.stack u b }
comes bytes before s [] (x ∷ xs) only u each e b few = absurd each
comes bytes before s (p ∷ ps) [] only u each e b few = absurd each
comes bytes before s (p ∷ ps) (Strings pool ∷ rest) only u each e b few =
    let none = none_before s.pool pool only (pools_of rest) e in
    let later = comes bytes (before + 0) (with_part s (Strings pool)) ps rest only u each.1 (sym (ap (λ (o : Option StringPool). pools_before o ++ (pool ∷ pools_of rest)) none) ∙ e) b few in
    record { turns = (record { fresh = none; allowed = refl; few = λ more. absurd (omega (arith, more)) }, later.turns); stack_is = later.stack_is }
comes bytes before s (p ∷ ps) (Ids ids ∷ rest) only u each e b few =
    let later = comes bytes (before + 0) (with_part s (Ids ids)) ps rest only u each.1 e b few in
    record { turns = (record { fresh = tt; allowed = refl; few = λ more. absurd (omega (arith, more)) }, later.turns); stack_is = later.stack_is }
comes bytes before s (p ∷ ps) (Item node attrs ∷ rest) only u each e b few =
    let step = allowed_then (allows (same_text (Some only)) s.stack (token node)) (brackets (same_text (Some only)) (turned s.stack (token node)) (map token (nodes_of rest))) u b in
    let later = comes bytes (before + length attrs) (with_part s (Item node attrs)) ps rest only u each.1 e step.1 (omega (arith, few)) in
    record {
      turns = (record { fresh = tt; allowed = node_agrees bytes before p s.pool (pools_of rest) only s.stack node attrs each.0 e step.0; few = λ more. omega (arith, few, more) }, later.turns);
      stack_is = later.stack_is;
    }
comes bytes before s (p ∷ ps) (Other ∷ rest) only u each e b few =
    let later = comes bytes (before + 0) s ps rest only u each.1 e b few in
    record { turns = (record { fresh = tt; allowed = refl; few = λ more. absurd (omega (arith, more)) }, later.turns); stack_is = later.stack_is }

-- the document's chunk

whole_found : (bytes : List ℕ) (whole : Chunk) → document_of bytes ≡ Ok whole → IsChunkAt bytes 0 (length bytes) whole × (whole.kind ≡ 3)
unfolding document_of
whole_found bytes whole e =
    let a = guard_ok (ltb (length bytes) 8) (truncated 0) (cond (not (eqb (number16 bytes 0) 3)) (Err (not_xml 0)) (chunk_of bytes 0 (length bytes))) whole e in
    let b = guard_ok (not (eqb (number16 bytes 0) 3)) (not_xml 0) (chunk_of bytes 0 (length bytes)) whole a.1 in
    let is = chunk_found bytes 0 (length bytes) whole b.1 in
    (is, is.kind_is ∙ eqb-true (number16 bytes 0) 3 (no_not (eqb (number16 bytes 0) 3) b.0))

whole_again : (bytes : List ℕ) (whole : Chunk) → IsChunkAt bytes 0 (length bytes) whole → whole.kind ≡ 3 → document_of bytes ≡ Ok whole
unfolding document_of
whole_again bytes whole is xml =
    let room : 8 ≤ length bytes = omega (arith, is.lies.head, is.lies.size, is.lies.fits) in
    rw (le-ltb (length bytes) 8 room, eq-eqb (number16 bytes 0) 3 (sym is.kind_is ∙ xml)) (chunk_again bytes 0 (length bytes) whole is)

-- the document's end

abbrev pub made : State → StringPool → Document
made s pool = record { pool = pool; map = s.map; nodes = s.nodes; attrs = s.attrs }

-- all was read, and these are the strings
pub record IsFinished (s : State) (doc : Document) : Type 0 where
  pub pool : StringPool
  pub pool_is : s.pool ≡ Some pool
  pub stack_is : s.stack ≡ nothing_open true
  pub doc_is : made s pool ≡ doc

with_found : (end : ℕ) (s : State) (o : Option StringPool) (doc : Document) → document_with end s o ≡ Ok doc → (pool : StringPool) × (o ≡ Some pool) × (made s pool ≡ doc)
with_found end s None doc e = absurd cc
with_found end s (Some pool) doc e = (pool, refl, ok_is (made s pool) doc e)

pub nil_is : (xs : List ℕ) → length xs ≡ 0 → xs ≡ []
nil_is [] e = refl
nil_is (x ∷ xs) e = absurd (omega (arith, e))

finished_found : (end : ℕ) (s : State) (doc : Document) → finished end s ≡ Ok doc → IsFinished s doc
unfolding finished
finished_found end s doc e =
    let second : Result Document Fault = cond (not s.stack.closed) (Err (no_element end)) (document_with end s s.pool) in
    let a = guard_ok (not (eqb (length s.stack.opened) 0)) (unbalanced end) second doc e in
    let b = guard_ok (not s.stack.closed) (no_element end) (document_with end s s.pool) doc a.1 in
    let w = with_found end s s.pool doc b.1 in
    let none_opened : s.stack.opened ≡ [] = nil_is s.stack.opened (eqb-true (length s.stack.opened) 0 (no_not (eqb (length s.stack.opened) 0) a.0)) in
    record {
      pool = w.0;
      pool_is = w.1;
      stack_is = ap (λ (xs : List ℕ). stack_of xs s.stack.closed) none_opened ∙ ap (λ (v : Bool). stack_of [] v) (no_not s.stack.closed b.0);
      doc_is = w.2;
    }

finished_again : (end : ℕ) (s : State) (pool : StringPool) → s.stack ≡ nothing_open true → s.pool ≡ Some pool → finished end s ≡ Ok (made s pool)
unfolding finished
finished_again end s pool stack pool_is =
    let opened : s.stack.opened ≡ [] = ap (λ (u : Stack). u.opened) stack in
    let closed : s.stack.closed ≡ true = ap (λ (u : Stack). u.closed) stack in
    rw (opened, closed, pool_is) refl

-- the same, from the fields
pub finished_by : (end : ℕ) (s : State) (pool : StringPool) → s.stack.opened ≡ [] → s.stack.closed ≡ true → s.pool ≡ Some pool → finished end s ≡ Ok (made s pool)
finished_by end s pool opened closed pool_is =
    finished_again end s pool (ap (λ (xs : List ℕ). stack_of xs s.stack.closed) opened ∙ ap (λ (v : Bool). stack_of [] v) closed) pool_is

-- both ways

made_is : (bytes : List ℕ) (whole : Chunk) (t : State) (pool : StringPool) → IsChunkAt bytes 0 (length bytes) whole → whole.kind ≡ 3 → Read bytes whole.size whole.head start t
    → t.pool ≡ Some pool → t.stack ≡ nothing_open true → IsDocument bytes (made t pool)
made_is bytes whole t pool whole_at xml r pool_is stack_end =
    let pools : pools_of r.parts ≡ pool ∷ [] = pools_with start r.parts r.turns ∙ ap (λ (u : State). pools_before u.pool) r.ends ∙ ap pools_before pool_is in
    let nodes : t.nodes ≡ nodes_of r.parts = sym (ap (λ (u : State). u.nodes) r.ends) ∙ nodes_with start r.parts in
    let passes : brackets (same_text (Some pool)) (nothing_open false) (map token (nodes_of r.parts)) ≡ Some (nothing_open true) =
    stack_with start r.parts pool pools r.turns ∙ ap (λ (u : State). some_stack u.stack) r.ends ∙ ap (λ (u : Stack). some_stack u) stack_end in
    let count : starts_in (map token (nodes_of r.parts)) ≤ 4096 = (let few = starts_few start r.parts (omega arith) r.turns in let sum = starts_with start r.parts in omega (arith, few, sum)) in
    record {
      whole = whole;
      whole_at = whole_at;
      is_xml = xml;
      places = r.places;
      fills = r.fills;
      parts = r.parts;
      each = r.each;
      pool_is = pools;
      map_is = sym (ap (λ (u : State). u.map) r.ends) ∙ map_with start r.parts;
      nodes_are = nodes;
      attrs_are = sym (ap (λ (u : State). u.attrs) r.ends) ∙ attrs_with start r.parts;
      rooted = passes_rooted (same_text (Some pool)) (map token t.nodes) (ap (λ (ns : List Node). brackets (same_text (Some pool)) (nothing_open false) (map token ns)) nodes ∙ passes);
      few = subst (λ (ns : List Node). starts_in (map token ns) ≤ 4096) (sym nodes) count;
    }

pub decoded_found : (bytes : List ℕ) (doc : Document) → decoded bytes ≡ Ok doc → IsDocument bytes doc
unfolding decoded
decoded_found bytes doc e =
    let a = bind_ok (document_of bytes) (λ whole. chunks_from whole.size bytes whole.size whole.head start >>= λ s. finished whole.size s) doc e in
    let b = bind_ok (chunks_from a.0.size bytes a.0.size a.0.head start) (λ s. finished a.0.size s) doc a.2 in
    let w = whole_found bytes a.0 a.1 in
    let f = finished_found a.0.size b.0 doc b.2 in
    let r = chunks_found a.0.size bytes a.0.size a.0.head start b.0 w.0.lies.size (omega arith) b.1 in
    subst (λ (d : Document). IsDocument bytes d) f.doc_is (made_is bytes a.0 b.0 f.pool w.0 w.1 r f.pool_is f.stack_is)

-- a document by its parts
same_document : (s : State) (doc : Document) → s.map ≡ doc.map → s.nodes ≡ doc.nodes → s.attrs ≡ doc.attrs → made s doc.pool ≡ doc
same_document s doc m n a =
    ap (λ (l : List ℕ). made (record s { map = l }) doc.pool) m
    ∙ ap (λ (l : List Node). made (record s { map = doc.map; nodes = l }) doc.pool) n
    ∙ ap (λ (l : List Attr). made (record s { map = doc.map; nodes = doc.nodes; attrs = l }) doc.pool) a

pub decoded_again : (bytes : List ℕ) (doc : Document) → IsDocument bytes doc → decoded bytes ≡ Ok doc
unfolding decoded
decoded_again bytes doc is =
    let passes : brackets (same_text (Some doc.pool)) (nothing_open false) (map token (nodes_of is.parts)) ≡ Some (nothing_open true) =
    ap (λ (ns : List Node). brackets (same_text (Some doc.pool)) (nothing_open false) (map token ns)) (sym is.nodes_are) ∙ rooted_passes (same_text (Some doc.pool)) (map token doc.nodes) is.rooted in
    let few : starts_in (map token (nodes_of is.parts)) ≤ 4096 = subst (λ (ns : List Node). starts_in (map token ns) ≤ 4096) is.nodes_are is.few in
    let c = comes bytes 0 start is.places is.parts doc.pool (nothing_open true) is.each is.pool_is passes (omega (arith, few)) in
    let t : State = with_parts start is.parts in
    let chunks : chunks_from is.whole.size bytes is.whole.size is.whole.head start ≡ Ok t = chunks_again is.whole.size bytes is.whole.size is.whole.head start is.places is.parts (omega arith) is.fills is.each c.turns in
    let pool : t.pool ≡ Some doc.pool = only_one t.pool doc.pool (sym (pools_with start is.parts c.turns) ∙ is.pool_is) in
    let same : made t doc.pool ≡ doc = same_document t doc (map_with start is.parts ∙ sym is.map_is) (nodes_with start is.parts ∙ sym is.nodes_are) (attrs_with start is.parts ∙ sym is.attrs_are) in
    rw (whole_again bytes is.whole is.whole_at is.is_xml, chunks, finished_again is.whole.size t doc.pool c.stack_is pool) (ap (λ (d : Document). done d) same)
