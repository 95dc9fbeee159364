-- The lines of strings, each with its number.
use Rattle.std.proofs.Common.{◌≡◌, ℕ, ◌+◌, ◌<◌, List, [], length, get_or, ap, ◌∙◌, arith}
use Rattle.std.specs.List.{enumerate_from}
use Rattle.std.proofs.lemmas.List.FromFn.{get_or-enumerate_from}
use Rattle.axml_reader.specs.Dump.{string_line}

pub string_there : (texts : List (List ℕ)) (k : ℕ) → k < length texts → string_line (get_or (enumerate_from 0 texts) k (0, [])) ≡ string_line (k, get_or texts k [])
string_there texts k lt =
    let e : 0 + k ≡ k = omega arith in
    ap string_line (get_or-enumerate_from 0 texts k (0, []) lt) ∙ ap (λ (n : ℕ). string_line (n, get_or texts k [])) e
