-- Gravities, read from their texts.
use Rattle.std.proofs.Common.{◌≡◌, Bool, true, refl, sym, subst, inl, inr}
use Rattle.std.specs.Prelude.{◌||◌, IsTrue, codes, Ok}
use Rattle.view_model.specs.Facts.{no_gravity}
use Rattle.view_model.specs.declared.placing.Across.{Across}
use Rattle.view_model.specs.declared.placing.Across.TheVariants as across
use Rattle.view_model.specs.declared.placing.Down.{Down}
use Rattle.view_model.specs.declared.placing.Down.TheVariants as down
use Rattle.view_model.specs.declared.placing.Gravity.{Gravity}
use Rattle.line_words.specs.words.Gravities.{across_of, down_of, gravity_of, is_set_across, is_set_down, one_across, one_down, with_word, with_words}
use Rattle.line_words.specs.Spelled.{HasWord, gravity_text}
use Rattle.line_words.proofs.spelled.SpelledWords.{IsWord, word_by}

-- gravities
abbrev given : Across → Down → Gravity
given a d = record { given = true; across = a; down = d }

pub record ReadsBack (gravity : Gravity) : Type 0 where
  pub word : IsWord (gravity_text gravity)
  pub value : gravity_of (gravity_text gravity) ≡ Ok gravity

given_back : (a : Across) (d : Down) → IsTrue (is_set_across a || is_set_down d) → ReadsBack (given a d)
unfolding across_of down_of one_across one_down with_word with_words gravity_of
given_back across.Unset down.Unset h = absurd (cc)
given_back across.Unset down.Top h = record { word = word_by _ refl; value = refl }
given_back across.Unset down.Bottom h = record { word = word_by _ refl; value = refl }
given_back across.Unset down.Center h = record { word = word_by _ refl; value = refl }
given_back across.Left down.Unset h = record { word = word_by _ refl; value = refl }
given_back across.Left down.Top h = record { word = word_by _ refl; value = refl }
given_back across.Left down.Bottom h = record { word = word_by _ refl; value = refl }
given_back across.Left down.Center h = record { word = word_by _ refl; value = refl }
given_back across.Right down.Unset h = record { word = word_by _ refl; value = refl }
given_back across.Right down.Top h = record { word = word_by _ refl; value = refl }
given_back across.Right down.Bottom h = record { word = word_by _ refl; value = refl }
given_back across.Right down.Center h = record { word = word_by _ refl; value = refl }
given_back across.Center down.Unset h = record { word = word_by _ refl; value = refl }
given_back across.Center down.Top h = record { word = word_by _ refl; value = refl }
given_back across.Center down.Bottom h = record { word = word_by _ refl; value = refl }
given_back across.Center down.Center h = record { word = word_by _ refl; value = refl }
given_back across.Start down.Unset h = record { word = word_by _ refl; value = refl }
given_back across.Start down.Top h = record { word = word_by _ refl; value = refl }
given_back across.Start down.Bottom h = record { word = word_by _ refl; value = refl }
given_back across.Start down.Center h = record { word = word_by _ refl; value = refl }
given_back across.End down.Unset h = record { word = word_by _ refl; value = refl }
given_back across.End down.Top h = record { word = word_by _ refl; value = refl }
given_back across.End down.Bottom h = record { word = word_by _ refl; value = refl }
given_back across.End down.Center h = record { word = word_by _ refl; value = refl }

none_back : ReadsBack no_gravity
unfolding gravity_of
none_back = record { word = word_by (codes "none") refl; value = refl }

pub gravity_back : (gravity : Gravity) → HasWord gravity → ReadsBack gravity
gravity_back gravity (inl e) = subst ReadsBack (sym e) none_back
gravity_back gravity (inr h) =
    let P : Bool → Type 0 = λ b. ReadsBack (record { given = b; across = gravity.across; down = gravity.down }) in
    subst P (sym h.0) (given_back gravity.across gravity.down h.1)
