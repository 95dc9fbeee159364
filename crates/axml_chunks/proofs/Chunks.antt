-- The chunk that is read is the one at that place, and the chunk at that place is read.
use Rattle.std.proofs.Common.{◌≡◌, ℕ, ◌+◌, ◌-◌, ◌≤◌, ◌%◌, false, cond, ltb, List, Result, Ok, Err, refl, subst, arith, inl, inr}
use Rattle.std.proofs.lemmas.Bool.{cases_lt, lt-ltb, le-ltb, ltb-false, eq-eqb, ne_eqb, cases_eq}
use Rattle.axml_chunks.specs.declared.chunk.Chunk.{Chunk}
use Rattle.axml_chunks.specs.declared.fault.Fault.{Fault}
use Rattle.axml_chunks.specs.Chunks.{IsChunkAt, chunk_of, is_bad_head}
use Rattle.axml_chunks.specs.Faults.{truncated, bad_chunk}
use Rattle.axml_chunks.specs.Numbers.{number16, number32}
use Rattle.axml_chunks.proofs.Readings.{guard_ok, ok_is}

pub record IsHead (head size : ℕ) : Type 0 where
  pub least : 8 ≤ head
  pub head_words : head % 4 ≡ 0
  pub size_words : size % 4 ≡ 0
  pub holds : head ≤ size

good_head : (head size : ℕ) → is_bad_head head size ≡ false → IsHead head size
good_head head size e = record {
  least = elim (cases_lt head 8) [ inl low ↦ absurd (let t = rw (lt-ltb head 8 low) at e in cc) | inr high ↦ high ];
  head_words = elim (cases_eq (head % 4) 0) [ inl whole ↦ whole | inr other ↦ grind (arith, e, ne_eqb (head % 4) 0 other) ];
  size_words = elim (cases_eq (size % 4) 0) [ inl whole ↦ whole | inr other ↦ grind (arith, e, ne_eqb (size % 4) 0 other) ];
  holds = elim (cases_lt size head) [ inl low ↦ grind (arith, e, lt-ltb size head low) | inr high ↦ high ];
}

not_bad : (head size : ℕ) → IsHead head size → is_bad_head head size ≡ false
not_bad head size is = rw (le-ltb head 8 is.least, eq-eqb (head % 4) 0 is.head_words, eq-eqb (size % 4) 0 is.size_words, le-ltb size head is.holds) refl

pub chunk_found : (bytes : List ℕ) (place end : ℕ) (chunk : Chunk) → chunk_of bytes place end ≡ Ok chunk → IsChunkAt bytes place end chunk
unfolding chunk_of
chunk_found bytes place end chunk e =
    let head = number16 bytes (place + 2) in
    let size = number32 bytes (place + 4) in
    let made : Chunk = record { kind = number16 bytes place; head = head; size = size } in
    let third : Result Chunk Fault = cond (ltb (end - place) size) (Err (truncated place)) (Ok made) in
    let a = guard_ok (ltb (end - place) 8) (truncated place) (cond (is_bad_head head size) (Err (bad_chunk place)) third) chunk e in
    let b = guard_ok (is_bad_head head size) (bad_chunk place) third chunk a.1 in
    let c = guard_ok (ltb (end - place) size) (truncated place) (Ok made) chunk b.1 in
    let h = good_head head size b.0 in
    let room : 8 ≤ end - place = ltb-false (end - place) 8 a.0 in
    let fits : size ≤ end - place = ltb-false (end - place) size c.0 in
    subst (λ (x : Chunk). IsChunkAt bytes place end x) (ok_is made chunk c.1) (record {
      kind_is = refl;
      head_is = refl;
      size_is = refl;
      head_words = h.head_words;
      size_words = h.size_words;
      lies = record { head = h.least; size = h.holds; fits = omega (arith, fits, room, h) };
    })

pub chunk_again : (bytes : List ℕ) (place end : ℕ) (chunk : Chunk) → IsChunkAt bytes place end chunk → chunk_of bytes place end ≡ Ok chunk
unfolding chunk_of
chunk_again bytes place end chunk is =
    let head : IsHead chunk.head chunk.size = record { least = is.lies.head; head_words = is.head_words; size_words = is.size_words; holds = is.lies.size } in
    let room : 8 ≤ end - place = omega (arith, is.lies.head, is.lies.size, is.lies.fits) in
    let fits : chunk.size ≤ end - place = omega (arith, is.lies.head, is.lies.size, is.lies.fits) in
    rw (← is.kind_is, ← is.head_is, ← is.size_is, le-ltb (end - place) 8 room, not_bad chunk.head chunk.size head, le-ltb (end - place) chunk.size fits) refl
