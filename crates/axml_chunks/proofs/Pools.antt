-- The pool that is read is the chunk's, and the chunk's pool is read.
use Rattle.std.proofs.Common.{◌≡◌, ℕ, zero, suc, ◌+◌, ◌*◌, ◌<◌, ◌≤◌, Bool, true, false, cond, ltb, List, [], ◌∷◌, ◌++◌, length, take, get_or, Option, Some, None, Result, Ok, Err, refl, sym, ap, subst, ◌∙◌, arith, inl, inr, length-append}
use Rattle.std.specs.Prelude.{◌||◌, sum_by}
use Rattle.std.proofs.lemmas.Bool.{cases_lt, le-ltb, ltb-false}
use Rattle.std.proofs.lemmas.List.{get_or_append_left, get_or_push, take_more, take_all}
use Rattle.std.proofs.lemmas.List.Sums.{sum_by-append, sum_by_more, sum_by_more_le}
use Rattle.std.proofs.lemmas.Option.{slice_get-get_or, slice_get_within, get_or_from_slice_get}
use Rattle.axml_chunks.specs.declared.chunk.Chunk.{Chunk}
use Rattle.axml_chunks.specs.declared.fault.Fault.{Fault}
use Rattle.axml_chunks.specs.declared.pool.Header.{Header}
use Rattle.axml_chunks.specs.Faults.{bad_pool, too_big}
use Rattle.axml_chunks.specs.Numbers.{number32}
use Rattle.axml_chunks.specs.Pool.{StringPool, Gathered, IsPool, IsPoolIn, bytes_of, string_count, style_count, strings_start, is_in_utf8, string_at, text_at, header_of, gathered, one_more, no_strings, gathered_upto, pool_in, pool_of}
use Rattle.axml_chunks.specs.Steps.{◌>>=◌, upto}
use Rattle.axml_chunks.proofs.SpelledLaws.{string_found, string_again}
use Rattle.axml_chunks.proofs.Readings.{bind_ok, guard_ok, ok_is, done}

abbrev some : List ℕ → Option (List ℕ)
some text = Some text

-- a header, and the sizes that hold where it was read
pub record IsHeaderOf (chunk : List ℕ) (head : ℕ) (header : Header) : Type 0 where
  pub least : 28 ≤ head
  pub lists : head + 4 * (string_count chunk + style_count chunk) ≤ length chunk
  pub start : strings_start chunk ≤ length chunk
  pub count : string_count chunk ≤ 65536
  pub is : record { utf8 = is_in_utf8 chunk; count = string_count chunk; first = strings_start chunk } ≡ header

no_or : (a b c : Bool) → (a || b || c) ≡ false → (a ≡ false) × (b ≡ false) × (c ≡ false)
no_or true b c e = absurd cc
no_or false true c e = absurd cc
no_or false false c e = (refl, refl, e)

header_found : (chunk : List ℕ) (place head : ℕ) (header : Header) → header_of chunk place head ≡ Ok header → IsHeaderOf chunk head header
unfolding header_of
header_found chunk place head header e =
    let made : Header = record { utf8 = is_in_utf8 chunk; count = string_count chunk; first = strings_start chunk } in
    let second : Result Header Fault = cond (ltb 65536 (string_count chunk)) (Err (too_big place)) (Ok made) in
    let a = guard_ok (ltb head 28 || ltb (length chunk) (head + 4 * (string_count chunk + style_count chunk)) || ltb (length chunk) (strings_start chunk)) (bad_pool place) second header e in
    let b = guard_ok (ltb 65536 (string_count chunk)) (too_big place) (Ok made) header a.1 in
    let sizes = no_or (ltb head 28) (ltb (length chunk) (head + 4 * (string_count chunk + style_count chunk))) (ltb (length chunk) (strings_start chunk)) a.0 in
    record {
      least = ltb-false head 28 sizes.0;
      lists = ltb-false (length chunk) (head + 4 * (string_count chunk + style_count chunk)) sizes.1;
      start = ltb-false (length chunk) (strings_start chunk) sizes.2;
      count = ltb-false 65536 (string_count chunk) b.0;
      is = ok_is made header b.1;
    }

header_again : (chunk : List ℕ) (place head : ℕ) (pool : StringPool) → IsPoolIn chunk head pool → header_of chunk place head ≡ Ok (record { utf8 = is_in_utf8 chunk; count = string_count chunk; first = strings_start chunk })
unfolding header_of
header_again chunk place head pool is =
    rw (le-ltb head 28 is.header, le-ltb (length chunk) (head + 4 * (string_count chunk + style_count chunk)) is.lists, le-ltb (length chunk) (strings_start chunk) is.start, le-ltb 65536 (string_count chunk) is.count) refl

-- what the first n strings are
pub record Gathers (chunk : List ℕ) (head : ℕ) (header : Header) (n : ℕ) (so_far : Gathered) : Type 0 where
  pub count : length so_far.texts ≡ n
  pub each : (k : ℕ) → k < n → text_at chunk head header k ≡ Some (get_or so_far.texts k [])
  pub total : so_far.sum ≡ sum_by length so_far.texts
  pub room : so_far.sum ≤ 4194304

abbrev with_text : Gathered → List ℕ → Gathered
with_text so_far text = record { texts = so_far.texts ++ text ∷ []; sum = so_far.sum + length text }

gathered_takes : (so_far : Gathered) (entry : ℕ) (o : Option (List ℕ)) (g : Gathered) → gathered so_far entry o ≡ Ok g
    → (text : List ℕ) × (o ≡ Some text) × (so_far.sum + length text ≤ 4194304) × (with_text so_far text ≡ g)
unfolding gathered
gathered_takes so_far entry None g e = absurd cc
gathered_takes so_far entry (Some text) g e =
    let p = guard_ok (ltb 4194304 (so_far.sum + length text)) (too_big entry) (Ok (with_text so_far text)) g e in
    (text, refl, ltb-false 4194304 (so_far.sum + length text) p.0, ok_is (with_text so_far text) g p.1)

one_text_more : (f : ℕ → Option (List ℕ)) (texts : List (List ℕ)) (text : List ℕ) (n : ℕ) → length texts ≡ n → f n ≡ Some text
    → ((k : ℕ) → k < n → f k ≡ Some (get_or texts k [])) → (k : ℕ) → k < suc n → f k ≡ Some (get_or (texts ++ text ∷ []) k [])
one_text_more f texts text n count here below k lt =
    elim (cases_lt k n) [
      | inl less ↦ (let within : k < length texts = omega (arith, less, count) in below k less ∙ ap (λ (t : List ℕ). Some t) (sym (get_or_append_left texts (text ∷ []) [] k within)))
      | inr more ↦ (let last : length texts ≡ k = omega (arith, lt, more, count) in
          let top : n ≡ k = omega (arith, lt, more) in
          subst (λ (j : ℕ). f j ≡ Some (get_or (texts ++ text ∷ []) k [])) top
          (here ∙ ap (λ (t : List ℕ). Some t) (sym (get_or_push texts text [] k last))))
    ]

all_found : (chunk : List ℕ) (place head : ℕ) (header : Header) (n : ℕ) (g : Gathered) → gathered_upto chunk place head header n ≡ Ok g → Gathers chunk head header n g
unfolding upto
all_found chunk place head header zero g e =
    subst (λ (x : Gathered). Gathers chunk head header 0 x) (ok_is no_strings g e) (record { count = refl; each = λ k lt. absurd (omega (arith, lt)); total = refl; room = omega arith })
all_found chunk place head header (suc n) g e =
    let a = bind_ok (gathered_upto chunk place head header n) (λ so_far. one_more chunk place head header so_far n) g e in
    let before = all_found chunk place head header n a.0 a.1 in
    let t = gathered_takes a.0 (place + head + 4 * n) (text_at chunk head header n) g a.2 in
    subst (λ (x : Gathered). Gathers chunk head header (suc n) x) t.3 (record {
      count = omega (arith, before.count, length-append a.0.texts (t.0 ∷ []));
      each = one_text_more (text_at chunk head header) a.0.texts t.0 n before.count t.1 before.each;
      total = omega (arith, before.total, sum_by-append length a.0.texts (t.0 ∷ []));
      room = t.2;
    })

-- the first n texts, which are at their offsets, are gathered
all_again : (chunk : List ℕ) (place head : ℕ) (header : Header) (texts : List (List ℕ)) → ((k : ℕ) → k < length texts → text_at chunk head header k ≡ Some (get_or texts k []))
    → sum_by length texts ≤ 4194304 → (n : ℕ) → n ≤ length texts → gathered_upto chunk place head header n ≡ Ok (record { texts = take n texts; sum = sum_by length (take n texts) })
unfolding upto gathered
all_again chunk place head header texts each room zero within = refl
all_again chunk place head header texts each room (suc n) within =
    let lt : n < length texts = omega (arith, within) in
    let one : suc n ≡ n + 1 = omega arith in
    let fits : sum_by length (take n texts) + length (get_or texts n []) ≤ 4194304 = omega (arith, room, sum_by_more_le length texts n [] lt) in
    rw (all_again chunk place head header texts each room n (omega (arith, within)), each n lt, le-ltb 4194304 (sum_by length (take n texts) + length (get_or texts n [])) fits, one, sum_by_more length texts n [] lt, take_more texts n [] lt) refl

abbrev header_made : List ℕ → Header
header_made chunk = record { utf8 = is_in_utf8 chunk; count = string_count chunk; first = strings_start chunk }

-- a header and its strings make the pool
pool_made : (chunk : List ℕ) (head : ℕ) (header : Header) (all : Gathered) → IsHeaderOf chunk head header → Gathers chunk head header header.count all
    → IsPoolIn chunk head (record { utf8 = header.utf8; texts = all.texts })
pool_made chunk head header all is gathers =
    let g : Gathers chunk head (header_made chunk) (string_count chunk) all = subst (λ (h : Header). Gathers chunk head h h.count all) (sym is.is) gathers in
    subst (λ (h : Header). IsPoolIn chunk head (record { utf8 = h.utf8; texts = all.texts })) is.is (record {
      header = is.least;
      lists = is.lists;
      start = is.start;
      utf8_is = refl;
      count_is = g.count;
      count = is.count;
      texts = λ k text there. (let lt : k < length all.texts = slice_get_within all.texts k text there in
          string_found (is_in_utf8 chunk) chunk (strings_start chunk + number32 chunk (head + 4 * k)) text
          (g.each k (omega (arith, lt, g.count)) ∙ ap (λ (t : List ℕ). some t) (get_or_from_slice_get all.texts k text [] there)));
      room = omega (arith, g.total, g.room);
    })

pub pool_in_found : (chunk : List ℕ) (place head : ℕ) (pool : StringPool) → pool_in chunk place head ≡ Ok pool → IsPoolIn chunk head pool
unfolding pool_in
pool_in_found chunk place head pool e =
    let a = bind_ok (header_of chunk place head) (λ header. gathered_upto chunk place head header header.count >>= λ all. Ok (record { utf8 = header.utf8; texts = all.texts })) pool e in
    let b = bind_ok (gathered_upto chunk place head a.0 a.0.count) (λ all. Ok (record { utf8 = a.0.utf8; texts = all.texts })) pool a.2 in
    subst (λ (x : StringPool). IsPoolIn chunk head x) (ok_is (record { utf8 = a.0.utf8; texts = b.0.texts }) pool b.2)
    (pool_made chunk head a.0 b.0 (header_found chunk place head a.0 a.1) (all_found chunk place head a.0 a.0.count b.0 b.1))

pub pool_in_again : (chunk : List ℕ) (place head : ℕ) (pool : StringPool) → IsPoolIn chunk head pool → pool_in chunk place head ≡ Ok pool
unfolding pool_in
pool_in_again chunk place head pool is =
    let each : (k : ℕ) → k < length pool.texts → text_at chunk head (header_made chunk) k ≡ Some (get_or pool.texts k []) =
    λ k lt. subst (λ (u : Bool). string_at u chunk (strings_start chunk + number32 chunk (head + 4 * k)) ≡ Some (get_or pool.texts k [])) is.utf8_is
    (string_again pool.utf8 chunk (strings_start chunk + number32 chunk (head + 4 * k)) (get_or pool.texts k []) (is.texts k (get_or pool.texts k []) (slice_get-get_or pool.texts k [] lt))) in
    let all : gathered_upto chunk place head (header_made chunk) (string_count chunk) ≡ Ok (record { texts = pool.texts; sum = sum_by length pool.texts }) =
    ap (λ (n : ℕ). gathered_upto chunk place head (header_made chunk) n) (sym is.count_is)
    ∙ all_again chunk place head (header_made chunk) pool.texts each is.room (length pool.texts) (omega arith)
    ∙ ap (λ (t : List (List ℕ)). done (record { texts = t; sum = sum_by length t })) (take_all (length pool.texts) pool.texts (omega arith)) in
    rw (header_again chunk place head pool is, all, ← is.utf8_is) refl

pub pool_found : (bytes : List ℕ) (place : ℕ) (chunk : Chunk) (pool : StringPool) → pool_of bytes place chunk ≡ Ok pool → IsPool bytes place chunk pool
pool_found bytes place chunk pool e = pool_in_found (bytes_of bytes place chunk) place chunk.head pool e

pub pool_again : (bytes : List ℕ) (place : ℕ) (chunk : Chunk) (pool : StringPool) → IsPool bytes place chunk pool → pool_of bytes place chunk ≡ Ok pool
pool_again bytes place chunk pool is = pool_in_again (bytes_of bytes place chunk) place chunk.head pool is
