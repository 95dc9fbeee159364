-- The lines of a script do not depend on where its pieces are cut.
use Rattle.std.proofs.Common.{◌≡◌, ℕ, ap, sym, subst, ◌∙◌, List, [], ◌∷◌, ◌++◌, append_assoc, take}
use Rattle.std.proofs.lemmas.List.{append-nil}
use Rattle.script_lines.specs.cutting.Lines.{Line, cut_of, last_of, lines_of}
use Rattle.script_lines.specs.cutting.LineBuffer.{LineBuffer, IsAfter}
use Rattle.script_lines.specs.cutting.Pieces.{Feed, FeedSequence, bytes_in, lines_in}

-- after any course
after_course : (first last : LineBuffer) (course : List Feed) (before : List ℕ) → IsAfter first before → FeedSequence first course last
    → ((cut_of (before ++ bytes_in course)).lines ≡ (cut_of before).lines ++ lines_in course) × IsAfter last (before ++ bytes_in course)
after_course first last [] before s c = (
  ap (λ l. (cut_of l).lines) (append-nil before) ∙ sym (append-nil (cut_of before).lines),
  record { begun = ap (λ (h : LineBuffer). h.begun) c ∙ s.begun ∙ sym (ap (λ l. take 1025 (cut_of l).rest) (append-nil before)) },
)
after_course first last (taken ∷ course) before s c =
    let fed = c.0 before s in
    let more = after_course taken.held last course (before ++ taken.bytes) fed.1 c.1 in
    let same = append_assoc before taken.bytes (bytes_in course) in (
      ap (λ l. (cut_of l).lines) (sym same) ∙ more.0 ∙ ap (λ l. l ++ lines_in course) fed.0
          ∙ append_assoc (cut_of before).lines (taken.lines) (lines_in course),
      subst (λ l. IsAfter last l) same more.1,
    )

-- However a script is cut into pieces, its lines are those that were returned, and the last one.
pub lines_in_pieces : (first last : LineBuffer) (course : List Feed) (rest : List Line) → IsAfter first [] → FeedSequence first course last → ((before : List ℕ) → IsAfter last before → last_of (cut_of before).rest ≡ rest)
    → lines_of (bytes_in course) ≡ lines_in course ++ rest
unfolding lines_of
lines_in_pieces first last course rest s c f =
    let all = after_course first last course [] s c in
    ap (λ l. l ++ last_of (cut_of (bytes_in course)).rest) all.0 ∙ ap (λ l. lines_in course ++ l) (f (bytes_in course) all.1)
