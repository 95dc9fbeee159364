-- The part that is read of a chunk is the chunk's, and the chunk's part is read.
use Rattle.std.proofs.Common.{◌≡◌, ℕ, ◌+◌, ◌*◌, ◌-◌, ◌<◌, ◌≤◌, ◌/◌, Bool, false, cond, eqb, List, [], length, get_or, Option, None, Some, Result, Ok, Err, refl, sym, ap, subst, ◌∙◌, arith, inl, inr}
use Rattle.std.specs.Prelude.{◌⊎◌, ◌≢◌, not, is_some}
use Rattle.std.proofs.lemmas.Bool.{eq-eqb, ne_eqb, cases_eq}
use Rattle.axml_chunks.specs.declared.chunk.Chunk.{Chunk}
use Rattle.axml_chunks.specs.declared.fault.Fault.{Fault}
use Rattle.axml_chunks.specs.Faults.{unbalanced, second_pool}
use Rattle.axml_chunks.specs.Numbers.{number16, number32}
use Rattle.axml_chunks.specs.Pool.{StringPool, pool_of}
use Rattle.axml_chunks.specs.Steps.{◌>>=◌}
use Rattle.axml_chunks.proofs.Pools.{pool_found, pool_again}
use Rattle.axml_chunks.proofs.Readings.{done, ok_is, bind_ok, guard_ok}
use Rattle.axml_reader.specs.declared.doc.Attr.{Attr}
use Rattle.axml_reader.specs.declared.doc.Node.{Node}
use Rattle.axml_reader.specs.declared.doc.Node.TheVariants.{NsStart, NsEnd, Start, End, Chars}
use Rattle.axml_reader.specs.declared.fields.StartHead.{StartHead}
use Rattle.axml_reader.specs.Brackets.{is_closed_by}
use Rattle.axml_reader.specs.Document.{State}
use Rattle.axml_reader.specs.Fields.{attrs_upto, words_at, strings, same_text}
use Rattle.axml_reader.specs.Nodes.{line_at, pair_at, names_at, chars_at, start_at, pool_part, map_part, namespace_start_part, namespace_end_part, start_part, end_part, chars_part, part_at}
use Rattle.axml_reader.specs.Parts.{Part, Strings, Ids, Item, Other}
use Rattle.axml_reader.specs.Relation.{IsStartNode, AreAttrs, IsOther}
use Rattle.axml_reader.proofs.FieldLaws.{attrs_found, attrs_again}
use Rattle.axml_reader.proofs.NodeLaws.{Follows, IsHeadOf, no_not, no_not_true, pair_found, pair_again, names_found, names_again, chars_found, chars_again, start_found, start_again}

no_pool : (pool : Option StringPool) → is_some pool ≡ false → pool ≡ None
no_pool None e = refl
no_pool (Some p) e = absurd cc

-- what is read of each kind of chunk

pool_follows : (bytes : List ℕ) (place : ℕ) (chunk : Chunk) (s : State) (part : Part) → chunk.kind ≡ 0x001 → pool_part bytes place chunk s ≡ Ok part → Follows bytes place chunk s part
unfolding pool_part
pool_follows bytes place chunk s part k e =
    let g = guard_ok (is_some s.pool) (second_pool place) (pool_of bytes place chunk >>= λ pool. Ok (Strings pool)) part e in
    let a = bind_ok (pool_of bytes place chunk) (λ pool. Ok (Strings pool)) part g.1 in
    subst (λ (x : Part). Follows bytes place chunk s x) (ok_is (Strings a.0) part a.2)
    (record { is = (k, pool_found bytes place chunk a.0 a.1); may = record { fresh = no_pool s.pool g.0; allowed = refl; few = λ some. absurd (omega (arith, some)) } })

map_follows : (bytes : List ℕ) (place : ℕ) (chunk : Chunk) (s : State) (part : Part) → chunk.kind ≡ 0x180 → map_part bytes place chunk s ≡ Ok part → Follows bytes place chunk s part
unfolding map_part
map_follows bytes place chunk s part k e =
    let ids = words_at bytes (place + chunk.head) ((chunk.size - chunk.head) / 4) in
    subst (λ (x : Part). Follows bytes place chunk s x) (ok_is (Ids ids) part e)
    (record { is = (k, refl); may = record { fresh = tt; allowed = refl; few = λ some. absurd (omega (arith, some)) } })

namespace_start_follows : (bytes : List ℕ) (place : ℕ) (chunk : Chunk) (s : State) (part : Part) → chunk.kind ≡ 0x100 → namespace_start_part bytes place chunk s ≡ Ok part → Follows bytes place chunk s part
unfolding namespace_start_part
namespace_start_follows bytes place chunk s part k e =
    let a = bind_ok (pair_at bytes place chunk (strings s.pool)) (λ names. Ok (Item (NsStart names.0 names.1) [])) part e in
    subst (λ (x : Part). Follows bytes place chunk s x) (ok_is (Item (NsStart a.0.0 a.0.1) []) part a.2)
    (record { is = pair_found bytes place 0x100 chunk (strings s.pool) a.0 k a.1; may = record { fresh = tt; allowed = refl; few = λ some. absurd (omega (arith, some)) } })

namespace_end_follows : (bytes : List ℕ) (place : ℕ) (chunk : Chunk) (s : State) (part : Part) → chunk.kind ≡ 0x101 → namespace_end_part bytes place chunk s ≡ Ok part → Follows bytes place chunk s part
unfolding namespace_end_part
namespace_end_follows bytes place chunk s part k e =
    let a = bind_ok (pair_at bytes place chunk (strings s.pool)) (λ names. Ok (Item (NsEnd names.0 names.1) [])) part e in
    subst (λ (x : Part). Follows bytes place chunk s x) (ok_is (Item (NsEnd a.0.0 a.0.1) []) part a.2)
    (record { is = pair_found bytes place 0x101 chunk (strings s.pool) a.0 k a.1; may = record { fresh = tt; allowed = refl; few = λ some. absurd (omega (arith, some)) } })

-- an element that begins, from what was read of it
start_is : (bytes : List ℕ) (count before place : ℕ) (chunk : Chunk) (head : StartHead) (attrs : List Attr) → chunk.kind ≡ 0x102 → IsHeadOf bytes count place chunk head
    → AreAttrs bytes count head.place head.step head.count attrs → IsStartNode bytes count before place chunk (line_at bytes place) head.ns head.name before head.count attrs
start_is bytes count before place chunk head attrs k is are =
    let moved : AreAttrs bytes count (place + chunk.head + number16 bytes (place + chunk.head + 8)) head.step head.count attrs = subst (λ (x : ℕ). AreAttrs bytes count x head.step head.count attrs) is.place_is are in
    let stepped : AreAttrs bytes count (place + chunk.head + number16 bytes (place + chunk.head + 8)) (number16 bytes (place + chunk.head + 10)) head.count attrs =
    subst (λ (x : ℕ). AreAttrs bytes count (place + chunk.head + number16 bytes (place + chunk.head + 8)) x head.count attrs) is.step_is moved in
    record {
      form = record { kind_is = k; header = is.header; body = is.body };
      line_is = refl;
      ns_at = is.ns_at;
      name_at = is.name_at;
      first_is = refl;
      n_is = is.count_is;
      few = omega (arith, is.count_is, is.few);
      begin = λ some. is.inside_at.begin (subst (λ (n : ℕ). 0 < n) is.count_is some);
      step = λ some. is.inside_at.step_least (subst (λ (n : ℕ). 0 < n) is.count_is some);
      within = subst (λ (n : ℕ). 0 < n → number16 bytes (place + chunk.head + 8) + n * number16 bytes (place + chunk.head + 10) ≤ chunk.size - chunk.head) (sym is.count_is) is.inside_at.within;
      attrs_at = stepped;
    }

start_follows : (bytes : List ℕ) (place : ℕ) (chunk : Chunk) (s : State) (part : Part) → chunk.kind ≡ 0x102 → start_part bytes place chunk s ≡ Ok part → Follows bytes place chunk s part
unfolding start_part
start_follows bytes place chunk s part k e =
    let made : StartHead → List Attr → Part = λ head attrs. Item (Start (line_at bytes place) head.ns head.name (length s.attrs) head.count) attrs in
    let read : StartHead → Result (List Attr) Fault = λ head. attrs_upto bytes (strings s.pool) head.place head.step [] head.count in
    let a = bind_ok (start_at bytes place chunk (strings s.pool) s.stack.closed s.starts) (λ head. read head >>= λ attrs. Ok (made head attrs)) part e in
    let b = bind_ok (read a.0) (λ attrs. Ok (made a.0 attrs)) part a.2 in
    let head = start_found bytes place chunk (strings s.pool) s.stack.closed s.starts a.0 a.1 in
    let attrs = attrs_found bytes (strings s.pool) a.0.place a.0.step a.0.count b.0 b.1 in
    subst (λ (x : Part). Follows bytes place chunk s x) (ok_is (made a.0 b.0) part b.2)
    (record {
      is = start_is bytes (strings s.pool) (length s.attrs) place chunk a.0 b.0 k head.0 attrs;
      may = record { fresh = tt; allowed = ap not head.1; few = λ _. head.2 };
    })

end_follows : (bytes : List ℕ) (place : ℕ) (chunk : Chunk) (s : State) (part : Part) → chunk.kind ≡ 0x103 → end_part bytes place chunk s ≡ Ok part → Follows bytes place chunk s part
unfolding end_part
end_follows bytes place chunk s part k e =
    let made : ℕ × ℕ → Part = λ names. Item (End (line_at bytes place) names.0 names.1) [] in
    let test : ℕ × ℕ → Bool = λ names. is_closed_by (same_text s.pool) s.stack.opened names.1 in
    let a = bind_ok (names_at bytes place chunk (strings s.pool)) (λ names. cond (not (test names)) (Err (unbalanced place)) (Ok (made names))) part e in
    let g = guard_ok (not (test a.0)) (unbalanced place) (Ok (made a.0)) part a.2 in
    subst (λ (x : Part). Follows bytes place chunk s x) (ok_is (made a.0) part g.1)
    (record { is = names_found bytes place chunk (strings s.pool) a.0 k a.1; may = record { fresh = tt; allowed = no_not (test a.0) g.0; few = λ some. absurd (omega (arith, some)) } })

chars_follows : (bytes : List ℕ) (place : ℕ) (chunk : Chunk) (s : State) (part : Part) → chunk.kind ≡ 0x104 → chars_part bytes place chunk s ≡ Ok part → Follows bytes place chunk s part
unfolding chars_part
chars_follows bytes place chunk s part k e =
    let made : ℕ → Part = λ text. Item (Chars (line_at bytes place) text (get_or bytes (place + chunk.head + 7) 0) (number32 bytes (place + chunk.head + 8))) [] in
    let a = bind_ok (chars_at bytes place chunk (strings s.pool)) (λ text. Ok (made text)) part e in
    subst (λ (x : Part). Follows bytes place chunk s x) (ok_is (made a.0) part a.2)
    (record { is = chars_found bytes place chunk (strings s.pool) a.0 k a.1; may = record { fresh = tt; allowed = refl; few = λ some. absurd (omega (arith, some)) } })

-- a chunk of this kind, or of another
by_kind : (kind k : ℕ) (x y : Result Part Fault) (part : Part) → cond (eqb kind k) x y ≡ Ok part → ((kind ≡ k) × (x ≡ Ok part)) ⊎ ((kind ≢ k) × (y ≡ Ok part))
by_kind kind k x y part e =
    elim (cases_eq kind k) [
      | inl same ↦ inl (same, rw (eq-eqb kind k same) at e)
      | inr other ↦ inr (other, rw (ne_eqb kind k other) at e)
    ]

pub part_follows : (bytes : List ℕ) (place : ℕ) (chunk : Chunk) (s : State) (part : Part) → part_at bytes place chunk s ≡ Ok part → Follows bytes place chunk s part
unfolding part_at
part_follows bytes place chunk s part e =
    let is : ℕ → Bool = λ k. eqb chunk.kind k in
    let r6 : Result Part Fault = cond (is 0x104) (chars_part bytes place chunk s) (Ok Other) in
    let r5 : Result Part Fault = cond (is 0x103) (end_part bytes place chunk s) r6 in
    let r4 : Result Part Fault = cond (is 0x102) (start_part bytes place chunk s) r5 in
    let r3 : Result Part Fault = cond (is 0x101) (namespace_end_part bytes place chunk s) r4 in
    let r2 : Result Part Fault = cond (is 0x100) (namespace_start_part bytes place chunk s) r3 in
    let r1 : Result Part Fault = cond (is 0x180) (map_part bytes place chunk s) r2 in
    elim (by_kind chunk.kind 0x001 (pool_part bytes place chunk s) r1 part e) [
      | inl a ↦ pool_follows bytes place chunk s part a.0 a.1
      | inr a ↦ elim (by_kind chunk.kind 0x180 (map_part bytes place chunk s) r2 part a.1) [
        | inl b ↦ map_follows bytes place chunk s part b.0 b.1
        | inr b ↦ elim (by_kind chunk.kind 0x100 (namespace_start_part bytes place chunk s) r3 part b.1) [
          | inl c ↦ namespace_start_follows bytes place chunk s part c.0 c.1
          | inr c ↦ elim (by_kind chunk.kind 0x101 (namespace_end_part bytes place chunk s) r4 part c.1) [
            | inl d ↦ namespace_end_follows bytes place chunk s part d.0 d.1
            | inr d ↦ elim (by_kind chunk.kind 0x102 (start_part bytes place chunk s) r5 part d.1) [
              | inl f ↦ start_follows bytes place chunk s part f.0 f.1
              | inr f ↦ elim (by_kind chunk.kind 0x103 (end_part bytes place chunk s) r6 part f.1) [
                | inl g ↦ end_follows bytes place chunk s part g.0 g.1
                | inr g ↦ elim (by_kind chunk.kind 0x104 (chars_part bytes place chunk s) (Ok Other) part g.1) [
                  | inl h ↦ chars_follows bytes place chunk s part h.0 h.1
                  | inr h ↦
                      (let other : IsOther chunk.kind = record { no_pool = a.0; no_map = b.0; no_namespace_start = c.0; no_namespace_end = d.0; no_start = f.0; no_end = g.0; no_chars = h.0 } in
                      let made : Follows bytes place chunk s Other = record { is = other; may = record { fresh = tt; allowed = refl; few = λ some. absurd (omega (arith, some)) } } in
                      subst (λ (x : Part). Follows bytes place chunk s x) (ok_is Other part h.1) made)
                ]
              ]
            ]
          ]
        ]
      ]
    ]

-- what is read again

pool_again_part : (bytes : List ℕ) (place : ℕ) (chunk : Chunk) (s : State) (pool : StringPool) → Follows bytes place chunk s (Strings pool) → pool_part bytes place chunk s ≡ Ok (Strings pool)
unfolding pool_part
pool_again_part bytes place chunk s pool f = rw (f.may.fresh, pool_again bytes place chunk pool f.is.1) refl

map_again_part : (bytes : List ℕ) (place : ℕ) (chunk : Chunk) (s : State) (ids : List ℕ) → Follows bytes place chunk s (Ids ids) → map_part bytes place chunk s ≡ Ok (Ids ids)
unfolding map_part
map_again_part bytes place chunk s ids f = ap (λ (l : List ℕ). done (Ids l)) (sym f.is.1)

with_attrs : (node : Node) (attrs : List Attr) → attrs ≡ [] → done (Item node []) ≡ done (Item node attrs)
with_attrs node attrs e = ap (λ (l : List Attr). done (Item node l)) (sym e)

namespace_start_again : (bytes : List ℕ) (place : ℕ) (chunk : Chunk) (s : State) (prefix uri : ℕ) (attrs : List Attr) → Follows bytes place chunk s (Item (NsStart prefix uri) attrs)
    → namespace_start_part bytes place chunk s ≡ Ok (Item (NsStart prefix uri) attrs)
unfolding namespace_start_part
namespace_start_again bytes place chunk s prefix uri attrs f =
    rw (pair_again bytes place 0x100 chunk (strings s.pool) prefix uri attrs f.is) (with_attrs (NsStart prefix uri) attrs f.is.no_attrs)

namespace_end_again : (bytes : List ℕ) (place : ℕ) (chunk : Chunk) (s : State) (prefix uri : ℕ) (attrs : List Attr) → Follows bytes place chunk s (Item (NsEnd prefix uri) attrs)
    → namespace_end_part bytes place chunk s ≡ Ok (Item (NsEnd prefix uri) attrs)
unfolding namespace_end_part
namespace_end_again bytes place chunk s prefix uri attrs f =
    rw (pair_again bytes place 0x101 chunk (strings s.pool) prefix uri attrs f.is) (with_attrs (NsEnd prefix uri) attrs f.is.no_attrs)

start_again_part : (bytes : List ℕ) (place : ℕ) (chunk : Chunk) (s : State) (line ns name first n : ℕ) (attrs : List Attr) → Follows bytes place chunk s (Item (Start line ns name first n) attrs)
    → start_part bytes place chunk s ≡ Ok (Item (Start line ns name first n) attrs)
unfolding start_part
start_again_part bytes place chunk s line ns name first n attrs f =
    let head = start_again bytes place chunk (strings s.pool) (length s.attrs) s.stack.closed s.starts line ns name first n attrs f.is (no_not_true s.stack.closed f.may.allowed) (f.may.few (omega arith)) in
    let read : attrs_upto bytes (strings s.pool) (place + chunk.head + number16 bytes (place + chunk.head + 8)) (number16 bytes (place + chunk.head + 10)) [] (number16 bytes (place + chunk.head + 12)) ≡ Ok attrs =
    ap (λ (m : ℕ). attrs_upto bytes (strings s.pool) (place + chunk.head + number16 bytes (place + chunk.head + 8)) (number16 bytes (place + chunk.head + 10)) [] m) (sym f.is.n_is)
    ∙ attrs_again bytes (strings s.pool) (place + chunk.head + number16 bytes (place + chunk.head + 8)) (number16 bytes (place + chunk.head + 10)) n attrs f.is.attrs_at in
    rw (head, read, ← f.is.n_is, ← f.is.line_is, ← f.is.first_is) refl

end_again_part : (bytes : List ℕ) (place : ℕ) (chunk : Chunk) (s : State) (line ns name : ℕ) (attrs : List Attr) → Follows bytes place chunk s (Item (End line ns name) attrs)
    → end_part bytes place chunk s ≡ Ok (Item (End line ns name) attrs)
unfolding end_part
end_again_part bytes place chunk s line ns name attrs f =
    rw (names_again bytes place chunk (strings s.pool) line ns name attrs f.is, f.may.allowed, ← f.is.line_is) (with_attrs (End line ns name) attrs f.is.no_attrs)

chars_again_part : (bytes : List ℕ) (place : ℕ) (chunk : Chunk) (s : State) (line text kind word : ℕ) (attrs : List Attr) → Follows bytes place chunk s (Item (Chars line text kind word) attrs)
    → chars_part bytes place chunk s ≡ Ok (Item (Chars line text kind word) attrs)
unfolding chars_part
chars_again_part bytes place chunk s line text kind word attrs f =
    rw (chars_again bytes place chunk (strings s.pool) line text kind word attrs f.is, ← f.is.line_is, ← f.is.kind_is, ← f.is.word_is) (with_attrs (Chars line text kind word) attrs f.is.no_attrs)

-- a test of a chunk's kind, where the kind is known
test : (kind k j : ℕ) → kind ≡ k → eqb kind j ≡ eqb k j
test kind k j e = ap (λ (n : ℕ). eqb n j) e

pub part_again : (bytes : List ℕ) (place : ℕ) (chunk : Chunk) (s : State) (part : Part) → Follows bytes place chunk s part → part_at bytes place chunk s ≡ Ok part
unfolding part_at
part_again bytes place chunk s (Strings pool) f = rw (test chunk.kind 0x001 0x001 f.is.0) (pool_again_part bytes place chunk s pool f)
part_again bytes place chunk s (Ids ids) f = rw (test chunk.kind 0x180 0x001 f.is.0, test chunk.kind 0x180 0x180 f.is.0) (map_again_part bytes place chunk s ids f)
part_again bytes place chunk s (Item (NsStart prefix uri) attrs) f =
    rw (test chunk.kind 0x100 0x001 f.is.form.kind_is, test chunk.kind 0x100 0x180 f.is.form.kind_is, test chunk.kind 0x100 0x100 f.is.form.kind_is) (namespace_start_again bytes place chunk s prefix uri attrs f)
part_again bytes place chunk s (Item (NsEnd prefix uri) attrs) f =
    rw (test chunk.kind 0x101 0x001 f.is.form.kind_is, test chunk.kind 0x101 0x180 f.is.form.kind_is, test chunk.kind 0x101 0x100 f.is.form.kind_is, test chunk.kind 0x101 0x101 f.is.form.kind_is) (namespace_end_again bytes place chunk s prefix uri attrs f)
part_again bytes place chunk s (Item (Start line ns name first n) attrs) f =
    rw (test chunk.kind 0x102 0x001 f.is.form.kind_is, test chunk.kind 0x102 0x180 f.is.form.kind_is, test chunk.kind 0x102 0x100 f.is.form.kind_is, test chunk.kind 0x102 0x101 f.is.form.kind_is, test chunk.kind 0x102 0x102 f.is.form.kind_is) (start_again_part bytes place chunk s line ns name first n attrs f)
part_again bytes place chunk s (Item (End line ns name) attrs) f =
    rw (test chunk.kind 0x103 0x001 f.is.form.kind_is, test chunk.kind 0x103 0x180 f.is.form.kind_is, test chunk.kind 0x103 0x100 f.is.form.kind_is, test chunk.kind 0x103 0x101 f.is.form.kind_is, test chunk.kind 0x103 0x102 f.is.form.kind_is, test chunk.kind 0x103 0x103 f.is.form.kind_is) (end_again_part bytes place chunk s line ns name attrs f)
part_again bytes place chunk s (Item (Chars line text kind word) attrs) f =
    rw (test chunk.kind 0x104 0x001 f.is.form.kind_is, test chunk.kind 0x104 0x180 f.is.form.kind_is, test chunk.kind 0x104 0x100 f.is.form.kind_is, test chunk.kind 0x104 0x101 f.is.form.kind_is, test chunk.kind 0x104 0x102 f.is.form.kind_is, test chunk.kind 0x104 0x103 f.is.form.kind_is, test chunk.kind 0x104 0x104 f.is.form.kind_is) (chars_again_part bytes place chunk s line text kind word attrs f)
part_again bytes place chunk s Other f =
    rw (ne_eqb chunk.kind 0x001 f.is.no_pool, ne_eqb chunk.kind 0x180 f.is.no_map, ne_eqb chunk.kind 0x100 f.is.no_namespace_start, ne_eqb chunk.kind 0x101 f.is.no_namespace_end, ne_eqb chunk.kind 0x102 f.is.no_start, ne_eqb chunk.kind 0x103 f.is.no_end, ne_eqb chunk.kind 0x104 f.is.no_chars) refl
