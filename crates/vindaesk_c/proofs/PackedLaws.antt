-- Buffers of files, taken apart.
use Rattle.std.proofs.Common.{◌≡◌, ◌≢◌, ℕ, ◌+◌, ◌^◌, ◌<◌, List, [], ◌∷◌, ◌++◌, length, take, drop, refl, sym, ap, ◌∙◌, arith, append_assoc, get_or, length-append, take-append-drop}
use Rattle.std.proofs.lemmas.Grind.{common_steps}
use Rattle.std.proofs.lemmas.List.{append-nil, drop_at, length-take-le, map-append, take_at}
use Rattle.std.proofs.lemmas.Nat.{from_le_bytes-to_le_bytes_8, le_bytes_8}
use Rattle.std.specs.Int.{w64, from_le_bytes, to_le_bytes}
use Rattle.std.specs.List.{IsSplitAt}
use Rattle.tool_io.specs.Fetched.{Files}
use Rattle.vindaesk_c.specs.declared.packing.PackedFile.{PackedFile}
use Rattle.vindaesk_c.specs.FilesNow.{files_now}
use Rattle.vindaesk_c.specs.Packed.{packed, packed_file, packed_length}

-- equal lists, cut where their fronts are equally long

append_fronts : (a b s t : List ℕ) → length a ≡ length b → a ++ s ≡ b ++ t → a ≡ b
append_fronts a b s t same e = sym (take_at a s (length b) same) ∙ ap (take (length b)) e ∙ take_at b t (length b) refl

append_rests : (a b s t : List ℕ) → length a ≡ length b → a ++ s ≡ b ++ t → s ≡ t
append_rests a b s t same e = sym (drop_at a s (length b) same) ∙ ap (drop (length b)) e ∙ drop_at b t (length b) refl

-- a length takes eight bytes, and can be read from them

to_le_bytes_numbers : (n m : ℕ) (s t : List ℕ) → n < 2 ^ 64 → m < 2 ^ 64 → to_le_bytes w64 n ++ s ≡ to_le_bytes w64 m ++ t → n ≡ m
to_le_bytes_numbers n m s t low high e =
    sym (from_le_bytes-to_le_bytes_8 n low)
    ∙ ap (from_le_bytes w64) (append_fronts (to_le_bytes w64 n) (to_le_bytes w64 m) s t refl e)
    ∙ from_le_bytes-to_le_bytes_8 m high

to_le_bytes_rests : (n m : ℕ) (s t : List ℕ) → to_le_bytes w64 n ++ s ≡ to_le_bytes w64 m ++ t → s ≡ t
to_le_bytes_rests n m s t e = append_rests (to_le_bytes w64 n) (to_le_bytes w64 m) s t refl e

front_items : (bytes front : List ℕ) → front ≡ take 8 bytes → ((i : ℕ) → get_or bytes i 0 < 256) → (i : ℕ) → get_or front i 0 < 256
front_items bytes front first small i = grind (arith, common_steps, small i)

-- the number that the first eight bytes are
pub front_length : (bytes front rest : List ℕ) (n : ℕ)
    → (front ≡ take 8 bytes) × (rest ≡ drop 8 bytes) × (length rest + 8 ≡ length bytes)
    → ((i : ℕ) → get_or bytes i 0 < 256) → n ≡ from_le_bytes w64 front
    → bytes ≡ to_le_bytes w64 n ++ rest
front_length bytes front rest n cut small number =
    let size : length front ≡ 8 = ap length cut.0 ∙ length-take-le 8 bytes (omega (arith, cut.2)) in
    let read : to_le_bytes w64 n ≡ front = le_bytes_8 front n size (front_items bytes front cut.0 small) number in
    sym (take-append-drop 8 bytes) ∙ ap (λ s. s ++ drop 8 bytes) (sym cut.0 ∙ sym read) ∙ ap (λ s. to_le_bytes w64 n ++ s) (sym cut.1)

-- the parts of a file, one after the other

packed_parts : (a b name contents rest : List ℕ) → (a ++ (b ++ (name ++ contents))) ++ rest ≡ a ++ (b ++ (name ++ (contents ++ rest)))
packed_parts a b name contents rest = simp append_assoc

packed_file_parts : (name contents rest : List ℕ) → packed_file name contents ++ rest ≡ to_le_bytes w64 (length name) ++ (to_le_bytes w64 (length contents) ++ (name ++ (contents ++ rest)))
unfolding packed_file packed_length
packed_file_parts name contents rest = packed_parts (packed_length name) (packed_length contents) name contents rest

pub length-packed_file : (name contents rest : List ℕ) → length (packed_file name contents ++ rest) ≡ 16 + (length name + (length contents + length rest))
length-packed_file name contents rest =
    let parts : length (packed_file name contents ++ rest) ≡ length (to_le_bytes w64 (length name) ++ (to_le_bytes w64 (length contents) ++ (name ++ (contents ++ rest)))) =
    ap length (packed_file_parts name contents rest) in
    omega (arith, parts, length-append name (contents ++ rest), length-append contents rest)

pub split_parts : (bytes : List ℕ) (n : ℕ) (front back : List ℕ) → IsSplitAt bytes n front back → bytes ≡ front ++ back
split_parts bytes n front back split = sym (take-append-drop n bytes) ∙ ap (λ s. s ++ drop n bytes) (sym split.1) ∙ ap (λ s. front ++ s) (sym split.2)

-- what is read in order makes up a file

pub one_file : (n m : ℕ) (bytes after_first after_lengths name after_name contents rest : List ℕ)
    → bytes ≡ to_le_bytes w64 n ++ after_first
    → after_first ≡ to_le_bytes w64 m ++ after_lengths
    → after_lengths ≡ name ++ after_name
    → length name ≡ n
    → after_name ≡ contents ++ rest
    → length contents ≡ m
    → bytes ≡ packed_file name contents ++ rest
one_file n m bytes after_first after_lengths name after_name contents rest first lengths named name_len held contents_len =
    first
    ∙ ap (λ k. to_le_bytes w64 k ++ after_first) (sym name_len)
    ∙ ap (λ s. to_le_bytes w64 (length name) ++ s)
    (lengths ∙ ap (λ k. to_le_bytes w64 k ++ after_lengths) (sym contents_len)
    ∙ ap (λ s. to_le_bytes w64 (length contents) ++ s) (named ∙ ap (λ s. name ++ s) held))
    ∙ sym (packed_file_parts name contents rest)

-- two lengths before bytes that begin with a file are those of its name and of its contents

pub name_len_of : (n m : ℕ) (after name contents rest : List ℕ) → n < 2 ^ 64 → length name < 2 ^ 64
    → to_le_bytes w64 n ++ (to_le_bytes w64 m ++ after) ≡ packed_file name contents ++ rest
    → n ≡ length name
name_len_of n m after name contents rest low high e =
    to_le_bytes_numbers n (length name) _ _ low high (e ∙ packed_file_parts name contents rest)

after_name_len : (n m : ℕ) (after name contents rest : List ℕ)
    → to_le_bytes w64 n ++ (to_le_bytes w64 m ++ after) ≡ packed_file name contents ++ rest
    → to_le_bytes w64 m ++ after ≡ to_le_bytes w64 (length contents) ++ (name ++ (contents ++ rest))
after_name_len n m after name contents rest e =
    to_le_bytes_rests n (length name) _ _ (e ∙ packed_file_parts name contents rest)

pub contents_len_of : (n m : ℕ) (after name contents rest : List ℕ) → m < 2 ^ 64 → length contents < 2 ^ 64
    → to_le_bytes w64 n ++ (to_le_bytes w64 m ++ after) ≡ packed_file name contents ++ rest
    → m ≡ length contents
contents_len_of n m after name contents rest low high e =
    to_le_bytes_numbers m (length contents) _ _ low high (after_name_len n m after name contents rest e)

pub after_both : (n m : ℕ) (after name contents rest : List ℕ)
    → to_le_bytes w64 n ++ (to_le_bytes w64 m ++ after) ≡ packed_file name contents ++ rest
    → after ≡ name ++ (contents ++ rest)
after_both n m after name contents rest e =
    to_le_bytes_rests m (length contents) _ _ (after_name_len n m after name contents rest e)

-- bytes that do not begin with a file: they are too few for the lengths, or for what these say

pub no_lengths : (bytes name contents rest : List ℕ) → length bytes < 16 → bytes ≢ packed_file name contents ++ rest
no_lengths bytes name contents rest few e = omega (arith, ap length e, length-packed_file name contents rest)

pub no_bytes : (n m : ℕ) (bytes after_first after_lengths name contents rest : List ℕ)
    → bytes ≡ to_le_bytes w64 n ++ after_first
    → after_first ≡ to_le_bytes w64 m ++ after_lengths
    → n < 2 ^ 64 → m < 2 ^ 64 → length bytes < 2 ^ 64
    → length after_lengths < n + m
    → bytes ≢ packed_file name contents ++ rest
no_bytes n m bytes after_first after_lengths name contents rest first lengths low high small few e =
    let begun : to_le_bytes w64 n ++ (to_le_bytes w64 m ++ after_lengths) ≡ packed_file name contents ++ rest =
    ap (λ s. to_le_bytes w64 n ++ s) (sym lengths) ∙ sym first ∙ e in
    let size : length bytes ≡ 16 + (length name + (length contents + length rest)) = ap length e ∙ length-packed_file name contents rest in
    let name_fits : length name < 2 ^ 64 = omega (arith, size, small) in
    let contents_fit : length contents < 2 ^ 64 = omega (arith, size, small) in
    omega (
      arith,
      few,
      name_len_of n m after_lengths name contents rest low name_fits begun,
      contents_len_of n m after_lengths name contents rest high contents_fit begun,
      ap length (after_both n m after_lengths name contents rest begun),
      length-append name (contents ++ rest),
      length-append contents rest,
    )

-- equal bytes begin with one file

file_bytes : (name contents : List ℕ) (name' contents' rest rest' : List ℕ)
    → packed_file name contents ++ rest ≡ packed_file name' contents' ++ rest'
    → to_le_bytes w64 (length name) ++ (to_le_bytes w64 (length contents) ++ (name ++ (contents ++ rest))) ≡ packed_file name' contents' ++ rest'
file_bytes name contents name' contents' rest rest' e = sym (packed_file_parts name contents rest) ∙ e

pub record SameFile (name contents rest name' contents' rest' : List ℕ) : Type 0 where
  pub same_name : name ≡ name'
  pub same_contents : contents ≡ contents'
  pub same_rest : rest ≡ rest'

pub same_file : (name contents rest name' contents' rest' : List ℕ)
    → length (packed_file name contents ++ rest) < 2 ^ 64
    → packed_file name contents ++ rest ≡ packed_file name' contents' ++ rest'
    → SameFile name contents rest name' contents' rest'
same_file name contents rest name' contents' rest' small e =
    let begun : to_le_bytes w64 (length name) ++ (to_le_bytes w64 (length contents) ++ (name ++ (contents ++ rest))) ≡ packed_file name' contents' ++ rest' =
    file_bytes name contents name' contents' rest rest' e in
    let size : length (packed_file name contents ++ rest) ≡ 16 + (length name + (length contents + length rest)) = length-packed_file name contents rest in
    let size' : length (packed_file name contents ++ rest) ≡ 16 + (length name' + (length contents' + length rest')) =
    ap length e ∙ length-packed_file name' contents' rest' in
    let names : length name ≡ length name' =
    name_len_of (length name) (length contents) _ name' contents' rest' (omega (arith, size, small)) (omega (arith, size', small)) begun in
    let contents_len : length contents ≡ length contents' =
    contents_len_of (length name) (length contents) _ name' contents' rest' (omega (arith, size, small)) (omega (arith, size', small)) begun in
    let after : name ++ (contents ++ rest) ≡ name' ++ (contents' ++ rest') =
    after_both (length name) (length contents) _ name' contents' rest' begun in
    let after' : contents ++ rest ≡ contents' ++ rest' = append_rests name name' _ _ names after in
    record {
      same_name = append_fronts name name' _ _ names after;
      same_contents = append_fronts contents contents' rest rest' contents_len after';
      same_rest = append_rests contents contents' rest rest' contents_len after';
    }

-- many files

pub packed-append : (files more : Files) → packed (files ++ more) ≡ packed files ++ packed more
packed-append [] more = refl
packed-append (file ∷ files) more =
    ap (λ s. packed_file file.0 file.1 ++ s) (packed-append files more)
    ∙ sym (append_assoc (packed_file file.0 file.1) (packed files) (packed more))

-- one more file was read from what was left
pub packed_more : (bytes left name contents rest : List ℕ) (files : Files)
    → bytes ≡ packed files ++ left
    → left ≡ packed_file name contents ++ rest
    → bytes ≡ packed (files ++ (name, contents) ∷ []) ++ rest
packed_more bytes left name contents rest files before first =
    before ∙ ap (λ s. packed files ++ s) first
    ∙ sym (append_assoc (packed files) (packed_file name contents) rest)
    ∙ ap (λ s. s ++ rest) (ap (λ s. packed files ++ s) (sym (append-nil (packed_file name contents))) ∙ sym (packed-append files ((name, contents) ∷ [])))

-- one more file of a buffer
pub files_now_more : (files : List PackedFile) (file : PackedFile) → files_now (files ++ file ∷ []) ≡ files_now files ++ (file.name.now, file.contents.now) ∷ []
files_now_more files file = map-append (λ (f : PackedFile). let held : List ℕ × List ℕ = (f.name.now, f.contents.now) in held) files (file ∷ [])

same_first : (file file' : List ℕ × List ℕ) → file.0 ≡ file'.0 → file.1 ≡ file'.1 → file ≡ file'
same_first file file' names contents = ap (λ (n : List ℕ). let f : List ℕ × List ℕ = (n, file.1) in f) names ∙ ap (λ (b : List ℕ). let f : List ℕ × List ℕ = (file'.0, b) in f) contents

not_empty : (file : List ℕ × List ℕ) (rest : List ℕ) → packed_file file.0 file.1 ++ rest ≢ []
not_empty file rest e = no_lengths [] file.0 file.1 rest (omega arith) (sym e)

-- a buffer holds one list of files
pub packed-injective : (files files' : Files) → length (packed files) < 2 ^ 64 → packed files ≡ packed files' → files ≡ files'
packed-injective [] [] small e = refl
packed-injective [] (file' ∷ files') small e = absurd (not_empty file' (packed files') (sym e))
packed-injective (file ∷ files) [] small e = absurd (not_empty file (packed files) e)
packed-injective (file ∷ files) (file' ∷ files') small e =
    let same : SameFile file.0 file.1 (packed files) file'.0 file'.1 (packed files') = same_file file.0 file.1 (packed files) file'.0 file'.1 (packed files') small e in
    let fewer : length (packed files) < 2 ^ 64 = omega (arith, small, length-packed_file file.0 file.1 (packed files)) in
    ap (λ f. f ∷ files) (same_first file file' same.same_name same.same_contents)
    ∙ ap (λ fs. file' ∷ fs) (packed-injective files files' fewer same.same_rest)

-- what begins with no file, after some files, holds no files
pub holds_none : (left : List ℕ) → left ≢ [] → ((name contents rest : List ℕ) → left ≢ packed_file name contents ++ rest)
    → (files held : Files) → length (packed files ++ left) < 2 ^ 64 → packed files ++ left ≢ packed held
holds_none left more none [] [] small e = more e
holds_none left more none [] (file' ∷ held) small e = none file'.0 file'.1 (packed held) e
holds_none left more none (file ∷ files) [] small e =
    not_empty file (packed files ++ left) (sym (append_assoc (packed_file file.0 file.1) (packed files) left) ∙ e)
holds_none left more none (file ∷ files) (file' ∷ held) small e =
    let grouped : packed_file file.0 file.1 ++ (packed files ++ left) ≡ packed_file file'.0 file'.1 ++ packed held =
    sym (append_assoc (packed_file file.0 file.1) (packed files) left) ∙ e in
    let small' : length (packed_file file.0 file.1 ++ (packed files ++ left)) < 2 ^ 64 =
    omega (arith, small, ap length (append_assoc (packed_file file.0 file.1) (packed files) left)) in
    let same : SameFile file.0 file.1 (packed files ++ left) file'.0 file'.1 (packed held) =
    same_file file.0 file.1 (packed files ++ left) file'.0 file'.1 (packed held) small' grouped in
    let fewer : length (packed files ++ left) < 2 ^ 64 = omega (arith, small', length-packed_file file.0 file.1 (packed files ++ left)) in
    holds_none left more none files held fewer same.same_rest
