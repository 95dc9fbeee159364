-- What is read as a part of a document is one, and what is one is read.
use Rattle.std.proofs.Common.{◌≡◌, ℕ, ◌+◌, ◌-◌, ◌*◌, ◌<◌, ◌≤◌, Bool, true, false, cond, ltb, List, [], length, get_or, Option, None, Result, Ok, Err, refl, ap, subst, arith, inl, inr}
use Rattle.std.specs.Prelude.{◌||◌, not}
use Rattle.std.proofs.lemmas.Bool.{eq-eqb, ne_eqb, cases_eq, lt-ltb, le-ltb, ltb-true, ltb-false}
use Rattle.axml_chunks.specs.declared.chunk.Chunk.{Chunk}
use Rattle.axml_chunks.specs.declared.fault.Fault.{Fault}
use Rattle.axml_chunks.specs.Faults.{bad_chunk, two_roots, too_big}
use Rattle.axml_chunks.specs.Numbers.{number16, number32}
use Rattle.axml_chunks.specs.Pool.{StringPool}
use Rattle.axml_chunks.specs.Steps.{◌>>=◌}
use Rattle.axml_chunks.proofs.Readings.{done, ok_is, bind_ok, guard_ok}
use Rattle.axml_reader.specs.declared.doc.Attr.{Attr}
use Rattle.axml_reader.specs.declared.fields.StartHead.{StartHead}
use Rattle.axml_reader.specs.Brackets.{Token, Plain, allows}
use Rattle.axml_reader.specs.Document.{State}
use Rattle.axml_reader.specs.Fields.{reference_at, name_at, strings, same_text}
use Rattle.axml_reader.specs.Nodes.{is_short, body_at, line_at, pair_at, names_at, chars_at, is_outside, start_at}
use Rattle.axml_reader.specs.Parts.{Part, Strings, Ids, Item, Other, token, starts_of}
use Rattle.axml_reader.specs.Relation.{IsReferenceAt, IsNameAt, IsNamespace, IsStartNode, IsEndNode, IsCharsNode, IsPart}
use Rattle.axml_reader.proofs.FieldLaws.{reference_found, reference_again, name_found, name_again}

-- the token of a part
abbrev pub token_of : Part → Token
token_of (Strings pool) = Plain
token_of (Ids ids) = Plain
token_of (Item node attrs) = token node
token_of Other = Plain

-- no pool came before a pool
abbrev pub IsFresh : Option StringPool → Part → Type 0
IsFresh pool (Strings strings) = pool ≡ None
IsFresh pool (Ids ids) = Unit {0}
IsFresh pool (Item node attrs) = Unit {0}
IsFresh pool Other = Unit {0}

-- a part may come after what was read
pub record MayFollow (s : State) (part : Part) : Type 0 where
  pub fresh : IsFresh s.pool part
  pub allowed : allows (same_text s.pool) s.stack (token_of part) ≡ true
  pub few : 0 < starts_of (token_of part) → s.starts < 4096

-- the part of a chunk, after what was read
pub record Follows (bytes : List ℕ) (place : ℕ) (chunk : Chunk) (s : State) (part : Part) : Type 0 where
  pub is : IsPart bytes s.pool (length s.attrs) place chunk part
  pub may : MayFollow s part

no_or2 : (a b : Bool) → (a || b) ≡ false → (a ≡ false) × (b ≡ false)
no_or2 true b e = absurd cc
no_or2 false b e = (refl, e)

no_or3 : (a b c : Bool) → (a || b || c) ≡ false → (a ≡ false) × (b ≡ false) × (c ≡ false)
no_or3 true b c e = absurd cc
no_or3 false true c e = absurd cc
no_or3 false false c e = (refl, refl, e)

pub no_not_true : (a : Bool) → not a ≡ true → a ≡ false
no_not_true true e = absurd cc
no_not_true false e = refl

pub no_not : (a : Bool) → not a ≡ false → a ≡ true
no_not true e = refl
no_not false e = absurd cc

-- two fields that were read
both_found : {A B : Type 0} (x : Result A Fault) (y : Result B Fault) (p : A × B) → (x >>= λ a. y >>= λ b. Ok (a, b)) ≡ Ok p → (x ≡ Ok p.0) × (y ≡ Ok p.1)
both_found (Ok a) (Ok b) p e = (let same = ok_is (a, b) p e in (ap (λ q. done q.0) same, ap (λ q. done q.1) same))
both_found (Ok a) (Err f) p e = absurd cc
both_found (Err f) y p e = absurd cc

long_enough : (chunk : Chunk) (form : ℕ) → is_short chunk form ≡ false → (16 ≤ chunk.head) × (form ≤ chunk.size - chunk.head)
long_enough chunk form e =
    let p = no_or2 (ltb chunk.head 16) (ltb (chunk.size - chunk.head) form) e in
    (ltb-false chunk.head 16 p.0, ltb-false (chunk.size - chunk.head) form p.1)

not_short : (chunk : Chunk) (form : ℕ) → 16 ≤ chunk.head → form ≤ chunk.size - chunk.head → is_short chunk form ≡ false
not_short chunk form header body = rw (le-ltb chunk.head 16 header, le-ltb (chunk.size - chunk.head) form body) refl

-- what was read after the place of a body
in_body : {A : Type 0} (place : ℕ) (chunk : Chunk) (form : ℕ) (next : ℕ → Result A Fault) (a : A) → (body_at place chunk form >>= next) ≡ Ok a
    → (is_short chunk form ≡ false) × (next (place + chunk.head) ≡ Ok a)
unfolding body_at
in_body place chunk form next a e =
    elim (is_short chunk form) as (λ short. (cond short (Err (bad_chunk place)) (Ok (place + chunk.head)) >>= next) ≡ Ok a → (short ≡ false) × (next (place + chunk.head) ≡ Ok a)) [
      | true ↦ λ e. absurd cc
      | false ↦ λ e. (refl, e)
    ] e

-- namespaces

pub pair_found : (bytes : List ℕ) (place kind : ℕ) (chunk : Chunk) (count : ℕ) (names : ℕ × ℕ) → chunk.kind ≡ kind → pair_at bytes place chunk count ≡ Ok names → IsNamespace bytes count place kind chunk names.0 names.1 []
unfolding pair_at
pair_found bytes place kind chunk count names k e =
    let x = reference_at bytes count (place + chunk.head) in
    let y = reference_at bytes count (place + chunk.head + 4) in
    let g = in_body place chunk 8 (λ body. reference_at bytes count body >>= λ prefix. reference_at bytes count (body + 4) >>= λ uri. Ok (prefix, uri)) names e in
    let sizes = long_enough chunk 8 g.0 in
    let both = both_found x y names g.1 in
    record {
      form = record { kind_is = k; header = sizes.0; body = sizes.1 };
      prefix_at = reference_found bytes count (place + chunk.head) names.0 both.0;
      uri_at = reference_found bytes count (place + chunk.head + 4) names.1 both.1;
      no_attrs = refl;
    }

pub pair_again : (bytes : List ℕ) (place kind : ℕ) (chunk : Chunk) (count prefix uri : ℕ) (attrs : List Attr) → IsNamespace bytes count place kind chunk prefix uri attrs → pair_at bytes place chunk count ≡ Ok (prefix, uri)
unfolding pair_at body_at
pair_again bytes place kind chunk count prefix uri attrs is =
    rw (not_short chunk 8 is.form.header is.form.body, reference_again bytes count (place + chunk.head) prefix is.prefix_at, reference_again bytes count (place + chunk.head + 4) uri is.uri_at) refl

-- ends

pub names_found : (bytes : List ℕ) (place : ℕ) (chunk : Chunk) (count : ℕ) (names : ℕ × ℕ) → chunk.kind ≡ 0x103 → names_at bytes place chunk count ≡ Ok names → IsEndNode bytes count place chunk (line_at bytes place) names.0 names.1 []
unfolding names_at
names_found bytes place chunk count names k e =
    let x = reference_at bytes count (place + chunk.head) in
    let y = name_at bytes count (place + chunk.head + 4) in
    let g = in_body place chunk 8 (λ body. reference_at bytes count body >>= λ ns. name_at bytes count (body + 4) >>= λ name. Ok (ns, name)) names e in
    let sizes = long_enough chunk 8 g.0 in
    let both = both_found x y names g.1 in
    record {
      form = record { kind_is = k; header = sizes.0; body = sizes.1 };
      line_is = refl;
      ns_at = reference_found bytes count (place + chunk.head) names.0 both.0;
      name_at = name_found bytes count (place + chunk.head + 4) names.1 both.1;
      no_attrs = refl;
    }

pub names_again : (bytes : List ℕ) (place : ℕ) (chunk : Chunk) (count line ns name : ℕ) (attrs : List Attr) → IsEndNode bytes count place chunk line ns name attrs → names_at bytes place chunk count ≡ Ok (ns, name)
unfolding names_at body_at
names_again bytes place chunk count line ns name attrs is =
    rw (not_short chunk 8 is.form.header is.form.body, reference_again bytes count (place + chunk.head) ns is.ns_at, name_again bytes count (place + chunk.head + 4) name is.name_at) refl

-- character data

pub chars_found : (bytes : List ℕ) (place : ℕ) (chunk : Chunk) (count text : ℕ) → chunk.kind ≡ 0x104 → chars_at bytes place chunk count ≡ Ok text
    → IsCharsNode bytes count place chunk (line_at bytes place) text (get_or bytes (place + chunk.head + 7) 0) (number32 bytes (place + chunk.head + 8)) []
unfolding chars_at
chars_found bytes place chunk count text k e =
    let g = in_body place chunk 12 (λ body. reference_at bytes count body) text e in
    let sizes = long_enough chunk 12 g.0 in
    record {
      form = record { kind_is = k; header = sizes.0; body = sizes.1 };
      line_is = refl;
      text_at = reference_found bytes count (place + chunk.head) text g.1;
      kind_is = refl;
      word_is = refl;
      no_attrs = refl;
    }

pub chars_again : (bytes : List ℕ) (place : ℕ) (chunk : Chunk) (count line text kind word : ℕ) (attrs : List Attr) → IsCharsNode bytes count place chunk line text kind word attrs → chars_at bytes place chunk count ≡ Ok text
unfolding chars_at body_at
chars_again bytes place chunk count line text kind word attrs is =
    rw (not_short chunk 12 is.form.header is.form.body) (reference_again bytes count (place + chunk.head) text is.text_at)

-- elements that begin

-- the attributes of an element lie in a body of this length
pub record AreInside (body first step count : ℕ) : Type 0 where
  pub begin : 0 < count → 20 ≤ first
  pub step_least : 0 < count → 20 ≤ step
  pub within : 0 < count → first + count * step ≤ body

inside : (body first step count : ℕ) → is_outside body first step count ≡ false → AreInside body first step count
inside body first step count e =
    elim (cases_eq count 0) [
      | inl none ↦ record { begin = λ some. absurd (omega (arith, none, some)); step_least = λ some. absurd (omega (arith, none, some)); within = λ some. absurd (omega (arith, none, some)) }
      | inr more ↦
          (let p = no_or3 (ltb first 20) (ltb step 20) (ltb body (first + count * step)) (rw (ne_eqb count 0 more) at e) in
          record { begin = λ _. ltb-false first 20 p.0; step_least = λ _. ltb-false step 20 p.1; within = λ _. ltb-false body (first + count * step) p.2 })
    ]

not_outside : (body first step count : ℕ) → AreInside body first step count → is_outside body first step count ≡ false
not_outside body first step count is =
    elim (cases_eq count 0) [
      | inl none ↦ rw (eq-eqb count 0 none) refl
      | inr more ↦
          (let some : 0 < count = omega (arith, more) in
          rw (ne_eqb count 0 more, le-ltb first 20 (is.begin some), le-ltb step 20 (is.step_least some), le-ltb body (first + count * step) (is.within some)) refl)
    ]

-- what was read of an element that begins
pub record IsHeadOf (bytes : List ℕ) (count place : ℕ) (chunk : Chunk) (head : StartHead) : Type 0 where
  pub header : 16 ≤ chunk.head
  pub body : 20 ≤ chunk.size - chunk.head
  pub few : number16 bytes (place + chunk.head + 12) ≤ 256
  pub ns_at : IsReferenceAt bytes count (place + chunk.head) head.ns
  pub name_at : IsNameAt bytes count (place + chunk.head + 4) head.name
  pub inside_at : AreInside (chunk.size - chunk.head) (number16 bytes (place + chunk.head + 8)) (number16 bytes (place + chunk.head + 10)) (number16 bytes (place + chunk.head + 12))
  pub place_is : head.place ≡ place + chunk.head + number16 bytes (place + chunk.head + 8)
  pub step_is : head.step ≡ number16 bytes (place + chunk.head + 10)
  pub count_is : head.count ≡ number16 bytes (place + chunk.head + 12)

abbrev pub head_made : List ℕ → ℕ → ℕ → ℕ → StartHead
head_made bytes body ns name = record {
  ns = ns;
  name = name;
  place = body + number16 bytes (body + 8);
  step = number16 bytes (body + 10);
  count = number16 bytes (body + 12);
}

abbrev outside_at : List ℕ → ℕ → Chunk → Bool
outside_at bytes body chunk = is_outside (chunk.size - chunk.head) (number16 bytes (body + 8)) (number16 bytes (body + 10)) (number16 bytes (body + 12))

pub start_found : (bytes : List ℕ) (place : ℕ) (chunk : Chunk) (count : ℕ) (closed : Bool) (starts : ℕ) (head : StartHead) → start_at bytes place chunk count closed starts ≡ Ok head
    → IsHeadOf bytes count place chunk head × (closed ≡ false) × (starts < 4096)
unfolding start_at
start_found bytes place chunk count closed starts head e =
    let attrs = number16 bytes (place + chunk.head + 12) in
    let last : ℕ → ℕ → ℕ → Result StartHead Fault = λ body ns name. cond (outside_at bytes body chunk) (Err (bad_chunk place)) (Ok (head_made bytes body ns name)) in
    let fourth : ℕ → Result StartHead Fault = λ body. reference_at bytes count body >>= λ ns. name_at bytes count (body + 4) >>= λ name. last body ns name in
    let third : ℕ → Result StartHead Fault = λ body. cond (not (ltb starts 4096) || ltb 256 (number16 bytes (body + 12))) (Err (too_big place)) (fourth body) in
    let place_of_body = place + chunk.head in
    let g = in_body place chunk 20 (λ body. cond closed (Err (two_roots place)) (third body)) head e in
    let h = guard_ok closed (two_roots place) (third place_of_body) head g.1 in
    let i = guard_ok (not (ltb starts 4096) || ltb 256 attrs) (too_big place) (fourth place_of_body) head h.1 in
    let a = bind_ok (reference_at bytes count place_of_body) (λ ns. name_at bytes count (place_of_body + 4) >>= λ name. last place_of_body ns name) head i.1 in
    let b = bind_ok (name_at bytes count (place_of_body + 4)) (λ name. last place_of_body a.0 name) head a.2 in
    let o = guard_ok (outside_at bytes place_of_body chunk) (bad_chunk place) (Ok (head_made bytes place_of_body a.0 b.0)) head b.2 in
    let limits = no_or2 (not (ltb starts 4096)) (ltb 256 attrs) i.0 in
    let sizes = long_enough chunk 20 g.0 in (
      subst (λ (v : StartHead). IsHeadOf bytes count place chunk v) (ok_is (head_made bytes place_of_body a.0 b.0) head o.1) (record {
        header = sizes.0;
        body = sizes.1;
        few = ltb-false 256 attrs limits.1;
        ns_at = reference_found bytes count (place + chunk.head) a.0 a.1;
        name_at = name_found bytes count (place + chunk.head + 4) b.0 b.1;
        inside_at = inside (chunk.size - chunk.head) (number16 bytes (place + chunk.head + 8)) (number16 bytes (place + chunk.head + 10)) attrs o.0;
        place_is = refl;
        step_is = refl;
        count_is = refl;
      }),
      h.0,
      ltb-true starts 4096 (no_not (ltb starts 4096) limits.0),
    )

pub start_again : (bytes : List ℕ) (place : ℕ) (chunk : Chunk) (count before : ℕ) (closed : Bool) (starts line ns name first n : ℕ) (attrs : List Attr)
    → IsStartNode bytes count before place chunk line ns name first n attrs → closed ≡ false → starts < 4096 → start_at bytes place chunk count closed starts ≡ Ok (head_made bytes (place + chunk.head) ns name)
unfolding start_at body_at
start_again bytes place chunk count before closed starts line ns name first n attrs is not_closed few =
    let limit : number16 bytes (place + chunk.head + 12) ≤ 256 = omega (arith, is.n_is, is.few) in
    let inside_n : AreInside (chunk.size - chunk.head) (number16 bytes (place + chunk.head + 8)) (number16 bytes (place + chunk.head + 10)) n = record { begin = is.begin; step_least = is.step; within = is.within } in
    let inside_at : AreInside (chunk.size - chunk.head) (number16 bytes (place + chunk.head + 8)) (number16 bytes (place + chunk.head + 10)) (number16 bytes (place + chunk.head + 12)) =
    subst (λ (m : ℕ). AreInside (chunk.size - chunk.head) (number16 bytes (place + chunk.head + 8)) (number16 bytes (place + chunk.head + 10)) m) is.n_is inside_n in
    let out : outside_at bytes (place + chunk.head) chunk ≡ false = not_outside (chunk.size - chunk.head) (number16 bytes (place + chunk.head + 8)) (number16 bytes (place + chunk.head + 10)) (number16 bytes (place + chunk.head + 12)) inside_at in
    rw (not_short chunk 20 is.form.header is.form.body, not_closed, lt-ltb starts 4096 few, le-ltb 256 (number16 bytes (place + chunk.head + 12)) limit, reference_again bytes count (place + chunk.head) ns is.ns_at, name_again bytes count (place + chunk.head + 4) name is.name_at, out) refl
