-- What each document keeps follows from what its bytes are.
use Rattle.std.proofs.Common.{◌≡◌, ℕ, ◌+◌, ◌*◌, ◌<◌, ◌≤◌, Bool, true, false, eqb, ltb, List, [], ◌∷◌, ◌++◌, length, get_or, Option, None, Some, refl, sym, ap, subst, arith, inl, inr, length-append}
use Rattle.std.specs.Prelude.{◌&&◌, ◌||◌, not, map, sum_by}
use Rattle.std.specs.List.{All}
use Rattle.std.proofs.lemmas.Bool.{eq-eqb, ne_eqb, cases_eq, lt-ltb, le-leb}
use Rattle.std.proofs.lemmas.List.Elements.{All-cons, All-append}
use Rattle.std.proofs.lemmas.List.Sums.{sum_by_more_le}
use Rattle.std.proofs.lemmas.Option.{slice_get-get_or}
use Rattle.axml_chunks.specs.Pool.{StringPool}
use Rattle.axml_chunks.specs.Short.{IsShort}
use Rattle.axml_reader.specs.declared.doc.Attr.{Attr}
use Rattle.axml_reader.specs.declared.doc.Node.{Node}
use Rattle.axml_reader.specs.declared.doc.Node.TheVariants.{NsStart, NsEnd, Start, End, Chars}
use Rattle.axml_reader.specs.Document.{Document}
use Rattle.axml_reader.specs.Fields.{is_reference, strings, same_text}
use Rattle.axml_reader.specs.Parts.{Part, Strings, Ids, Item, Other, token}
use Rattle.axml_reader.specs.Relation.{IsReference, IsAttr, AreAttrs, IsNode, Place, AreParts, pools_of, nodes_of, attrs_of, IsDocument}
use Rattle.axml_reader.specs.Sound.{AreShort, has_strings, attr_has_strings, is_within, has_few_attrs, IsSoundDocument}
use Rattle.axml_reader.proofs.BracketLaws.{rooted_test}
use Rattle.axml_reader.proofs.DocumentLaws.{pools_before, first_is, not_two}
use Rattle.axml_reader.proofs.FieldLaws.{test_by_reference}

-- the strings so far are no more than all strings
fewer : (o : Option StringPool) (rest : List StringPool) (only : StringPool) → pools_before o ++ rest ≡ only ∷ [] → strings o ≤ length only.texts
fewer None rest only e = omega arith
fewer (Some pool) rest only e = (let same : length pool.texts ≡ length only.texts = ap (λ (p : StringPool). length p.texts) (first_is pool only rest e) in omega (arith, same))

-- a pool that comes is the only one
pool_first : (o : Option StringPool) (pool only : StringPool) (rest : List StringPool) → pools_before o ++ (pool ∷ rest) ≡ only ∷ [] → pool ∷ rest ≡ only ∷ []
pool_first None pool only rest e = e
pool_first (Some first) pool only rest e = absurd (not_two first pool only rest e)

both_true : (a b : Bool) → a ≡ true → b ≡ true → (a && b) ≡ true
both_true true b e f = f
both_true false b e f = absurd cc

refers : (low high n : ℕ) → low ≤ high → IsReference low n → is_reference high n ≡ true
refers low high n le (inl none) = test_by_reference high n (inl none)
refers low high n le (inr below) = test_by_reference high n (inr (omega (arith, le, below)))

names : (low high n : ℕ) → low ≤ high → n < low → ltb n high ≡ true
names low high n le below = lt-ltb n high (omega (arith, le, below))

node_strings : (bytes : List ℕ) (low high before : ℕ) (p : Place) (node : Node) (attrs : List Attr) → low ≤ high → IsNode bytes low before p node attrs → has_strings high node ≡ true
node_strings bytes low high before p (NsStart prefix uri) attrs le is = both_true (is_reference high prefix) (is_reference high uri) (refers low high prefix le is.prefix_at.refers) (refers low high uri le is.uri_at.refers)
node_strings bytes low high before p (NsEnd prefix uri) attrs le is = both_true (is_reference high prefix) (is_reference high uri) (refers low high prefix le is.prefix_at.refers) (refers low high uri le is.uri_at.refers)
node_strings bytes low high before p (Start line ns name first n) attrs le is = both_true (is_reference high ns) (ltb name high) (refers low high ns le is.ns_at.refers) (names low high name le is.name_at.below)
node_strings bytes low high before p (End line ns name) attrs le is = both_true (is_reference high ns) (ltb name high) (refers low high ns le is.ns_at.refers) (names low high name le is.name_at.below)
node_strings bytes low high before p (Chars line text kind word) attrs le is = refers low high text le is.text_at.refers

value_strings : (low high kind word : ℕ) → low ≤ high → (kind ≡ 3 → word < low) → (not (eqb kind 3) || ltb word high) ≡ true
value_strings low high kind word le below =
    elim (cases_eq kind 3) [
      | inl string ↦ rw (eq-eqb kind 3 string) (names low high word le (below string))
      | inr other ↦ rw (ne_eqb kind 3 other) refl
    ]

one_attr_strings : (bytes : List ℕ) (low high place : ℕ) (attr : Attr) → low ≤ high → IsAttr bytes low place attr → attr_has_strings high attr ≡ true
one_attr_strings bytes low high place attr le is =
    both_true (is_reference high attr.ns && ltb attr.name high && is_reference high attr.raw) (not (eqb attr.kind 3) || ltb attr.word high)
    (both_true (is_reference high attr.ns && ltb attr.name high) (is_reference high attr.raw)
    (both_true (is_reference high attr.ns) (ltb attr.name high) (refers low high attr.ns le is.ns.refers) (names low high attr.name le is.name.below))
    (refers low high attr.raw le is.raw.refers))
    (value_strings low high attr.kind attr.word le is.string)

abbrev AttrStrings : ℕ → Attr → Type 0
AttrStrings high attr = attr_has_strings high attr ≡ true

abbrev NodeStrings : ℕ → Node → Type 0
NodeStrings high node = has_strings high node ≡ true

all_attr_strings : (bytes : List ℕ) (low high place step n : ℕ) (attrs : List Attr) → low ≤ high → AreAttrs bytes low place step n attrs → All (AttrStrings high) attrs
all_attr_strings bytes low high place step n attrs le are k d lt =
    one_attr_strings bytes low high (place + k * step) (get_or attrs k d) le (are.each k (get_or attrs k d) (slice_get-get_or attrs k d lt))

no_attr_strings : (high : ℕ) (attrs : List Attr) → attrs ≡ [] → All (AttrStrings high) attrs
no_attr_strings high attrs e k d lt = (let len : length attrs ≡ 0 = ap (λ (l : List Attr). length l) e in absurd (omega (arith, len, lt)))

attrs_of_node : (bytes : List ℕ) (low high before : ℕ) (p : Place) (node : Node) (attrs : List Attr) → low ≤ high → IsNode bytes low before p node attrs → All (AttrStrings high) attrs
attrs_of_node bytes low high before p (NsStart prefix uri) attrs le is = no_attr_strings high attrs is.no_attrs
attrs_of_node bytes low high before p (NsEnd prefix uri) attrs le is = no_attr_strings high attrs is.no_attrs
attrs_of_node bytes low high before p (Start line ns name first n) attrs le is = all_attr_strings bytes low high _ _ n attrs le is.attrs_at
attrs_of_node bytes low high before p (End line ns name) attrs le is = no_attr_strings high attrs is.no_attrs
attrs_of_node bytes low high before p (Chars line text kind word) attrs le is = no_attr_strings high attrs is.no_attrs

-- the attributes of a node are after those before it
node_within : (bytes : List ℕ) (count before : ℕ) (p : Place) (len : ℕ) (node : Node) (attrs : List Attr) → before + length attrs ≤ len → IsNode bytes count before p node attrs → is_within len node ≡ true
node_within bytes count before p len (NsStart prefix uri) attrs le is = refl
node_within bytes count before p len (NsEnd prefix uri) attrs le is = refl
node_within bytes count before p len (Start line ns name first n) attrs le is = le-leb (first + n) len (omega (arith, le, is.first_is, is.attrs_at.count_is))
node_within bytes count before p len (End line ns name) attrs le is = refl
node_within bytes count before p len (Chars line text kind word) attrs le is = refl

abbrev Within : ℕ → Node → Type 0
Within len node = is_within len node ≡ true

node_few : (bytes : List ℕ) (count before : ℕ) (p : Place) (node : Node) (attrs : List Attr) → IsNode bytes count before p node attrs → has_few_attrs node ≡ true
node_few bytes count before p (NsStart prefix uri) attrs is = refl
node_few bytes count before p (NsEnd prefix uri) attrs is = refl
node_few bytes count before p (Start line ns name first n) attrs is = le-leb n 256 is.few
node_few bytes count before p (End line ns name) attrs is = refl
node_few bytes count before p (Chars line text kind word) attrs is = refl

abbrev FewAttrs : Node → Type 0
FewAttrs node = has_few_attrs node ≡ true

-- what the parts from a place on keep
pub record Keep (high len : ℕ) (parts : List Part) : Type 0 where
  pub node_names : All (NodeStrings high) (nodes_of parts)
  pub attr_names : All (AttrStrings high) (attrs_of parts)
  pub within : All (Within len) (nodes_of parts)
  pub few_attrs : All FewAttrs (nodes_of parts)

nothing : {A : Type 0} (P : A → Type 0) → All P []
nothing P k d lt = absurd (omega (arith, lt))

keep : (bytes : List ℕ) (o : Option StringPool) (before len : ℕ) (places : List Place) (parts : List Part) (only : StringPool) → AreParts bytes o before places parts
    → pools_before o ++ pools_of parts ≡ only ∷ [] → before + length (attrs_of parts) ≤ len → Keep (length only.texts) len parts
keep bytes o before len [] [] only each e le = record { node_names = nothing (NodeStrings (length only.texts)); attr_names = nothing (AttrStrings (length only.texts)); within = nothing (Within len); few_attrs = nothing FewAttrs }
keep bytes o before len [] (x ∷ xs) only each e le = absurd each
keep bytes o before len (p ∷ ps) [] only each e le = absurd each
keep bytes o before len (p ∷ ps) (Strings pool ∷ rest) only each e le =
    (let k = keep bytes (Some pool) (before + 0) len ps rest only each.1 (pool_first o pool only (pools_of rest) e) (omega (arith, le)) in record { node_names = k.node_names; attr_names = k.attr_names; within = k.within; few_attrs = k.few_attrs })
keep bytes o before len (p ∷ ps) (Ids ids ∷ rest) only each e le =
    (let k = keep bytes o (before + 0) len ps rest only each.1 e (omega (arith, le)) in record { node_names = k.node_names; attr_names = k.attr_names; within = k.within; few_attrs = k.few_attrs })
keep bytes o before len (p ∷ ps) (Item node attrs ∷ rest) only each e le =
    let high = length only.texts in
    let more : strings o ≤ high = fewer o (pools_of rest) only e in
    let sum : length (attrs ++ attrs_of rest) ≡ length attrs + length (attrs_of rest) = length-append attrs (attrs_of rest) in
    let k = keep bytes o (before + length attrs) len ps rest only each.1 e (omega (arith, le, sum)) in
    record {
      node_names = All-cons (NodeStrings high) node (nodes_of rest) (node_strings bytes (strings o) high before p node attrs more each.0) k.node_names;
      attr_names = All-append (AttrStrings high) attrs (attrs_of rest) (attrs_of_node bytes (strings o) high before p node attrs more each.0) k.attr_names;
      within = All-cons (Within len) node (nodes_of rest) (node_within bytes (strings o) before p len node attrs (omega (arith, le, sum)) each.0) k.within;
      few_attrs = All-cons FewAttrs node (nodes_of rest) (node_few bytes (strings o) before p node attrs each.0) k.few_attrs;
    }
keep bytes o before len (p ∷ ps) (Other ∷ rest) only each e le =
    (let k = keep bytes o (before + 0) len ps rest only each.1 e (omega (arith, le)) in record { node_names = k.node_names; attr_names = k.attr_names; within = k.within; few_attrs = k.few_attrs })

-- the strings

short_texts : (texts : List (List ℕ)) → sum_by length texts ≤ 4194304 → All IsShort texts
short_texts texts room k d lt = omega (arith, room, sum_by_more_le length texts k d lt)

parts_short : (bytes : List ℕ) (o : Option StringPool) (before : ℕ) (places : List Place) (parts : List Part) (only : StringPool) → AreParts bytes o before places parts
    → pools_of parts ≡ only ∷ [] → AreShort only
parts_short bytes o before [] [] only each e = absurd cc
parts_short bytes o before [] (x ∷ xs) only each e = absurd each
parts_short bytes o before (p ∷ ps) [] only each e = absurd each
parts_short bytes o before (p ∷ ps) (Strings pool ∷ rest) only each e = subst (λ (x : StringPool). AreShort x) (first_is pool only (pools_of rest) e) (short_texts pool.texts each.0.1.room)
parts_short bytes o before (p ∷ ps) (Ids ids ∷ rest) only each e = parts_short bytes o (before + 0) ps rest only each.1 e
parts_short bytes o before (p ∷ ps) (Item node attrs ∷ rest) only each e = parts_short bytes o (before + length attrs) ps rest only each.1 e
parts_short bytes o before (p ∷ ps) (Other ∷ rest) only each e = parts_short bytes o (before + 0) ps rest only each.1 e

pub document_sound : (bytes : List ℕ) (doc : Document) → IsDocument bytes doc → IsSoundDocument doc
document_sound bytes doc is =
    let k = keep bytes None 0 (length (attrs_of is.parts)) is.places is.parts doc.pool is.each is.pool_is (omega arith) in
    record {
      short = parts_short bytes None 0 is.places is.parts doc.pool is.each is.pool_is;
      strings = subst (λ (ns : List Node). All (NodeStrings (length doc.pool.texts)) ns) (sym is.nodes_are) k.node_names;
      attr_strings = subst (λ (l : List Attr). All (AttrStrings (length doc.pool.texts)) l) (sym is.attrs_are) k.attr_names;
      within = subst (λ (l : List Attr). All (Within (length l)) doc.nodes) (sym is.attrs_are) (subst (λ (ns : List Node). All (Within (length (attrs_of is.parts))) ns) (sym is.nodes_are) k.within);
      few = is.few;
      few_attrs = subst (λ (ns : List Node). All FewAttrs ns) (sym is.nodes_are) k.few_attrs;
      rooted = rooted_test (same_text (Some doc.pool)) (map token doc.nodes) is.rooted;
    }
