-- The chunks that are read fill the document and are its parts, and those that fill it as its parts are read.
use Rattle.std.proofs.Common.{◌≡◌, ℕ, zero, suc, ◌+◌, ◌-◌, ◌<◌, ◌≤◌, List, [], ◌∷◌, length, Option, Ok, refl, sym, ap, subst, ◌∙◌, arith, inl, inr, length-append}
use Rattle.std.proofs.lemmas.Bool.{cases_lt}
use Rattle.axml_chunks.specs.declared.chunk.Chunk.{Chunk}
use Rattle.axml_chunks.specs.Chunks.{IsChunkAt, chunk_of}
use Rattle.axml_chunks.specs.Pool.{StringPool}
use Rattle.axml_chunks.specs.Steps.{◌>>=◌}
use Rattle.axml_chunks.proofs.Chunks.{chunk_found, chunk_again}
use Rattle.axml_chunks.proofs.Readings.{ok_is, bind_ok}
use Rattle.axml_reader.specs.Document.{State}
use Rattle.axml_reader.specs.Decoding.{one_chunk, chunks_from}
use Rattle.axml_reader.specs.Nodes.{part_at, joined}
use Rattle.axml_reader.specs.Parts.{Part, Strings, Ids, Item, Other, with_part}
use Rattle.axml_reader.specs.Relation.{Place, Fills, AreParts, IsPart, pool_after, attr_count}
use Rattle.axml_reader.proofs.Loop.{opened_up, ended_there}
use Rattle.axml_reader.proofs.NodeLaws.{Follows, MayFollow}
use Rattle.axml_reader.proofs.PartLaws.{part_follows, part_again}

-- what was read, with more parts
abbrev pub with_parts : State → List Part → State
with_parts s [] = s
with_parts s (x ∷ xs) = with_parts (with_part s x) xs

-- each part may come after what was read before it
abbrev pub Turns : State → List Part → Type 0
Turns s [] = Unit {0}
Turns s (x ∷ xs) = MayFollow s x × Turns (with_part s x) xs

-- one chunk that was read
pub record Opened (bytes : List ℕ) (end place : ℕ) (s : State) (next : ℕ × State) : Type 0 where
  pub chunk : Chunk
  pub represents : IsChunkAt bytes place end chunk
  pub part : Part
  pub follows : Follows bytes place chunk s part
  pub place_is : place + chunk.size ≡ next.0
  pub state_is : with_part s part ≡ next.1

one_opened : (bytes : List ℕ) (end place : ℕ) (s : State) (next : ℕ × State) → one_chunk bytes end place s ≡ Ok next → Opened bytes end place s next
unfolding one_chunk
one_opened bytes end place s next e =
    let a = bind_ok (chunk_of bytes place end) (λ chunk. joined s (part_at bytes place chunk s) >>= λ t. Ok (place + chunk.size, t)) next e in
    let b = bind_ok (joined s (part_at bytes place a.0 s)) (λ t. Ok (place + a.0.size, t)) next a.2 in
    let d = bind_ok (part_at bytes place a.0 s) (λ part. Ok (with_part s part)) b.0 b.1 in
    let same = ok_is (place + a.0.size, b.0) next b.2 in
    record {
      chunk = a.0;
      represents = chunk_found bytes place end a.0 a.1;
      part = d.0;
      follows = part_follows bytes place a.0 s d.0 d.1;
      place_is = ap (λ (p : ℕ × State). p.0) same;
      state_is = ok_is (with_part s d.0) b.0 d.2 ∙ ap (λ (p : ℕ × State). p.1) same;
    }

one_again : (bytes : List ℕ) (end place : ℕ) (s : State) (chunk : Chunk) (part : Part) → IsChunkAt bytes place end chunk → Follows bytes place chunk s part
    → one_chunk bytes end place s ≡ Ok (place + chunk.size, with_part s part)
unfolding one_chunk
one_again bytes end place s chunk part represents follows = rw (chunk_again bytes place end chunk represents, part_again bytes place chunk s part follows) refl

pool_same : (s : State) (part : Part) → (with_part s part).pool ≡ pool_after s.pool part
pool_same s (Strings pool) = refl
pool_same s (Ids ids) = refl
pool_same s (Item node attrs) = refl
pool_same s Other = refl

count_same : (s : State) (part : Part) → length (with_part s part).attrs ≡ length s.attrs + attr_count part
count_same s (Strings pool) = omega arith
count_same s (Ids ids) = omega arith
count_same s (Item node attrs) = length-append s.attrs attrs
count_same s Other = omega arith

-- the chunks from a place to the end, and what they are
pub record Read (bytes : List ℕ) (end place : ℕ) (s t : State) : Type 0 where
  pub places : List Place
  pub fills : Fills bytes end place places
  pub parts : List Part
  pub each : AreParts bytes s.pool (length s.attrs) places parts
  pub turns : Turns s parts
  pub ends : with_parts s parts ≡ t

none_read : (bytes : List ℕ) (end place : ℕ) (s t : State) → place ≡ end → s ≡ t → Read bytes end place s t
none_read bytes end place s t at_end same = record { places = []; fills = at_end; parts = []; each = tt; turns = tt; ends = same }

one_read : (bytes : List ℕ) (end place : ℕ) (s : State) (next : ℕ × State) (t : State) → Opened bytes end place s next → Read bytes end next.0 next.1 t → Read bytes end place s t
one_read bytes end place s next t o rest =
    let each : AreParts bytes (with_part s o.part).pool (length (with_part s o.part).attrs) rest.places rest.parts = subst (λ (u : State). AreParts bytes u.pool (length u.attrs) rest.places rest.parts) (sym o.state_is) rest.each in
    let piece : AreParts bytes (pool_after s.pool o.part) (length (with_part s o.part).attrs) rest.places rest.parts =
    subst (λ (pool : Option StringPool). AreParts bytes pool (length (with_part s o.part).attrs) rest.places rest.parts) (pool_same s o.part) each in
    record {
      places = record { at = place; chunk = o.chunk } ∷ rest.places;
      fills = (refl, o.represents, subst (λ (x : ℕ). Fills bytes end x rest.places) (sym o.place_is) rest.fills);
      parts = o.part ∷ rest.parts;
      each = (o.follows.is, subst (λ (n : ℕ). AreParts bytes (pool_after s.pool o.part) n rest.places rest.parts) (count_same s o.part) piece);
      turns = (o.follows.may, subst (λ (u : State). Turns u rest.parts) (sym o.state_is) rest.turns);
      ends = ap (λ (u : State). with_parts u rest.parts) o.state_is ∙ rest.ends;
    }

pub chunks_found : (n : ℕ) (bytes : List ℕ) (end place : ℕ) (s t : State) → place ≤ end → end ≤ place + n → chunks_from n bytes end place s ≡ Ok t → Read bytes end place s t
chunks_found zero bytes end place s t low enough e =
    none_read bytes end place s t (omega (arith, low, enough)) (ok_is s t (sym (ended_there zero bytes end place s (omega (arith, enough))) ∙ e))
chunks_found (suc n) bytes end place s t low enough e =
    elim (cases_lt place end) [
      | inl lt ↦
          (let a = bind_ok (one_chunk bytes end place s) (λ next. chunks_from n bytes end next.0 next.1) t (sym (opened_up n bytes end place s lt) ∙ e) in
          let o = one_opened bytes end place s a.0 a.1 in
          let following : a.0.0 ≤ end = omega (arith, o.place_is, o.represents.lies.fits) in
          let nearer : end ≤ a.0.0 + n = omega (arith, enough, o.place_is, o.represents.lies.head, o.represents.lies.size) in
          one_read bytes end place s a.0 t o (chunks_found n bytes end a.0.0 a.0.1 t following nearer a.2))
      | inr le ↦ none_read bytes end place s t (omega (arith, low, le)) (ok_is s t (sym (ended_there (suc n) bytes end place s le) ∙ e))
    ]

pub chunks_again : (n : ℕ) (bytes : List ℕ) (end place : ℕ) (s : State) (places : List Place) (parts : List Part) → end ≤ place + n → Fills bytes end place places
    → AreParts bytes s.pool (length s.attrs) places parts → Turns s parts → chunks_from n bytes end place s ≡ Ok (with_parts s parts)
chunks_again n bytes end place s [] [] enough fills each turns = ended_there n bytes end place s (omega (arith, fills))
chunks_again n bytes end place s [] (x ∷ xs) enough fills each turns = absurd each
chunks_again n bytes end place s (p ∷ ps) [] enough fills each turns = absurd each
chunks_again n bytes end place s (p ∷ ps) (x ∷ xs) enough fills each turns =
    let lies = fills.1.lies in
    let lt : place < end = omega (arith, lies.head, lies.size, lies.fits) in
    let k : n ≡ suc (n - 1) = omega (arith, enough, lt) in
    let is : IsPart bytes s.pool (length s.attrs) place p.chunk x = subst (λ (j : ℕ). IsPart bytes s.pool (length s.attrs) j p.chunk x) fills.0 each.0 in
    let one : one_chunk bytes end place s ≡ Ok (place + p.chunk.size, with_part s x) = one_again bytes end place s p.chunk x fills.1 (record { is = is; may = turns.0 }) in
    let piece : AreParts bytes (pool_after s.pool x) (length (with_part s x).attrs) ps xs = subst (λ (m : ℕ). AreParts bytes (pool_after s.pool x) m ps xs) (sym (count_same s x)) each.1 in
    let rest_each : AreParts bytes (with_part s x).pool (length (with_part s x).attrs) ps xs = subst (λ (pool : Option StringPool). AreParts bytes pool (length (with_part s x).attrs) ps xs) (sym (pool_same s x)) piece in
    ap (λ (m : ℕ). chunks_from m bytes end place s) k
    ∙ opened_up (n - 1) bytes end place s lt
    ∙ rw one (chunks_again (n - 1) bytes end (place + p.chunk.size) (with_part s x) ps xs (omega (arith, enough, lies.head, lies.size)) fills.2 rest_each turns.1)
