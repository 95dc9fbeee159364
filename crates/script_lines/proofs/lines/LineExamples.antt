-- Lines of small scripts.
use Rattle.std.proofs.Common.{◌≡◌, refl, [], ◌∷◌, codes, true, false, replicate, ◌++◌}
use Rattle.script_lines.specs.cutting.Lines.{Text, LongLine, lines_of, line_of, last_line, without_return, is_passed_over}

pub a_script : lines_of (codes "frame\nbounds\n") ≡ Text (codes "frame") ∷ Text (codes "bounds") ∷ []
unfolding lines_of line_of last_line without_return
a_script = refl

pub nothing : lines_of [] ≡ []
unfolding lines_of
nothing = refl

pub a_last_line_without_a_line_feed : lines_of (codes "frame\nbounds") ≡ Text (codes "frame") ∷ Text (codes "bounds") ∷ []
unfolding lines_of line_of last_line without_return
a_last_line_without_a_line_feed = refl

pub a_return_goes_before_a_line_feed_only : lines_of (codes "a\r\nb\r") ≡ Text (codes "a") ∷ Text (codes "b\r") ∷ []
unfolding lines_of line_of last_line without_return
a_return_goes_before_a_line_feed_only = refl

pub one_return_goes : lines_of (codes "frame\r\r\n") ≡ Text (codes "frame\r") ∷ []
unfolding lines_of line_of last_line without_return
one_return_goes = refl

pub a_return_within_a_line_stays : lines_of (codes "a\rb\n") ≡ Text (codes "a\rb") ∷ []
unfolding lines_of line_of last_line without_return
a_return_within_a_line_stays = refl

pub empty_lines_are_lines : lines_of (codes "\n\r\n") ≡ Text [] ∷ Text [] ∷ []
unfolding lines_of line_of last_line without_return
empty_lines_are_lines = refl

pub a_lone_return_is_a_line : lines_of (codes "\r") ≡ Text (codes "\r") ∷ []
unfolding lines_of line_of last_line without_return
a_lone_return_is_a_line = refl

pub as_long_as_a_line_may_be : lines_of (replicate 1024 120 ++ 10 ∷ []) ≡ Text (replicate 1024 120) ∷ []
unfolding lines_of line_of last_line without_return
as_long_as_a_line_may_be = refl

pub one_byte_longer : lines_of (replicate 1025 120 ++ 10 ∷ []) ≡ LongLine ∷ []
unfolding lines_of line_of last_line without_return
one_byte_longer = refl

pub a_return_counts : lines_of (replicate 1024 120 ++ 13 ∷ 10 ∷ []) ≡ LongLine ∷ []
unfolding lines_of line_of last_line without_return
a_return_counts = refl

pub a_comment_may_be_too_long : lines_of (35 ∷ replicate 1024 32) ≡ LongLine ∷ []
unfolding lines_of line_of last_line without_return
a_comment_may_be_too_long = refl

pub no_bytes_are_passed_over : is_passed_over [] ≡ true
no_bytes_are_passed_over = refl

pub spaces_are_passed_over : is_passed_over (codes "   ") ≡ true
spaces_are_passed_over = refl

pub a_comment_is_passed_over : is_passed_over (codes "# frame") ≡ true
a_comment_is_passed_over = refl

pub a_comment_begins_at_the_front : is_passed_over (codes " # frame") ≡ false
a_comment_begins_at_the_front = refl

pub a_return_is_no_space : is_passed_over (codes "\r") ≡ false
a_return_is_no_space = refl
