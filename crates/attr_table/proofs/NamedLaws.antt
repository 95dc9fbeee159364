-- What the attributes of an element set one after another is what they set by their names.
use Rattle.std.specs.Prelude.{◌≡◌, ℕ, zero, suc, ◌+◌, ◌<◌, ◌*◌, ◌==◌, ◌&&◌, ◌⊎◌, nat_le, nat_lt, int_le, ℤ, pos, Bool, true, false, List, [], ◌∷◌, map, Option, Some, None, Result, Ok, Err, if◌then◌else◌, slice_get, slice_index_or, slice_set, IfOk, is_some}
use Rattle.std.proofs.Common.{refl, sym, ap, subst, ◌∙◌, inl, inr, arith}
use Rattle.std.specs.List.{range_with_len}
use Rattle.std.specs.Option.{option_map}
use Rattle.std.specs.Str.{bytes_eq}
use Rattle.std.proofs.lemmas.Bool.{eqb-true}
use Rattle.std.proofs.lemmas.List.Quantifiers.{position-Some}
use Rattle.axml_chunks.specs.Pool.{StringPool}
use Rattle.axml_reader.specs.declared.doc.Attr.{Attr}
use Rattle.axml_reader.specs.declared.doc.Node.{Node}
use Rattle.axml_reader.specs.Document.{Document}
use Rattle.view_model.specs.declared.facts.Facts.{Facts}
use Rattle.view_model.specs.declared.answer.Answer.TheVariants.{Off}
use Rattle.view_model.specs.declared.visibility.Visibility.TheVariants.{Visible}
use Rattle.view_model.specs.declared.placing.Direction.TheVariants.{Inherit}
use Rattle.view_model.specs.Facts.{new_facts, no_gravity}
use Rattle.view_model.specs.Numbers.{duplicate, max_size, no_size, theme_ref}
use Rattle.view_model.specs.Refusals.{PlainRefusal, refusal_numbered, ◌>>=◌}
use Rattle.view_model.specs.Resources.{Entries, Resource, Color, Dimen, Text}
use Rattle.attr_table.specs.declared.draft.Draft.{Draft}
use Rattle.view_model.specs.declared.fault.Fault.{Fault}
use Rattle.attr_table.specs.declared.given.Given.{Given}
use Rattle.attr_table.specs.declared.given.Given.TheVariants as given
use Rattle.attr_table.specs.declared.taking.Taken.{Taken}
use Rattle.attr_table.specs.declared.table.Slot.TheVariants as slot
use Rattle.attr_table.specs.declared.table.Takes.TheVariants as takes
use Rattle.attr_table.specs.Attributes.{Attribute, attributes, height_place, known, width_place}
use Rattle.attr_table.specs.declared.table.Takes.{Takes}
use Rattle.attr_table.specs.Numbers.{max_whole_weight}
use Rattle.attr_table.specs.Kinds.{boolean_kind, float_kind, reference_kind, theme_kind}
use Rattle.geom_core.specs.Numbers.{wrap_content}
use Rattle.view_model.specs.Dimensions.{weight_of}
use Rattle.attr_table.specs.Named.{is_set, meaning_at, meaning_if, meaning_with, named_at, named_in, named_facets, or_else, pixels, pixels_or_0, single_facts, text_or_none, unknown, unknown_count, value_at, word_as, word_or}
use Rattle.attr_table.specs.Setting.{answer_of, direction_of, drafted, empty_draft, gravity_of, visibility_of, with_given}
use Rattle.attr_table.specs.Table.{slot_at, takes_at}
use Rattle.attr_table.specs.Taken.{IsTakenAs, facets}
use Rattle.attr_table.specs.Taking.{Facets, attrs_of, facets_at, facets_in, facets_of, finished, is_android, known_place, place_named, set_at, with_attrs, with_known, with_place}
use Rattle.attr_table.specs.Values.{below_given, boolean_given, color_of, dimension_of, extent_given, found_of, given_of, is_color, is_nothing, is_whole, pixels_within, reference_given, signed, weight_given, whole_given}

-- the facts by the places of attributes
placed_facts : (ℕ → Option Given) → Facts
placed_facts value = record (new_facts (pos 0) (pos 0)) {
  id = word_or 0 (value 0);
  width = pixels_or_0 (value 1);
  height = pixels_or_0 (value 2);
  margins = record {
    left = pixels_or_0 (value 4);
    top = pixels_or_0 (value 5);
    right = pixels_or_0 (value 6);
    bottom = pixels_or_0 (value 7);
  };
  margin_start = pixels (value 8);
  margin_end = pixels (value 9);
  padding = record {
    left = pixels_or_0 (value 11);
    top = pixels_or_0 (value 12);
    right = pixels_or_0 (value 13);
    bottom = pixels_or_0 (value 14);
  };
  padding_start = pixels (value 15);
  padding_end = pixels (value 16);
  min = record { w = pixels_or_0 (value 17); h = pixels_or_0 (value 18) };
  weight = word_or 0 (value 19);
  weight_sum = word_or 0 (value 20);
  layout_gravity = word_as no_gravity gravity_of (value 21);
  gravity = word_as no_gravity gravity_of (value 22);
  vertical = is_set false (value 23);
  visibility = word_as Visible visibility_of (value 24);
  background = record { 0 = word_or 0 (value 26) };
  ink = record { 0 = word_or 0xffff_ffff (value 27) };
  answer = word_as Off answer_of (value 29);
  clip = is_set true (value 30);
  fill = is_set false (value 31);
  split = is_set true (value 32);
  rules = record { values = map (λ place. word_or 0 (value place)) (range_with_len 33 21) };
  direction = word_as Inherit direction_of (value 25);
}

-- the draft of these values, and of so many attributes that are not known
abbrev placed_draft : (ℕ → Option Given) → ℕ → Draft
placed_draft value ignored = record {
  facts = placed_facts value;
  margin = pixels (value 3);
  padding = pixels (value 10);
  text = text_or_none (value 28);
  came = map (λ place. is_some (value place)) (range_with_len 0 54);
  ignored = ignored;
}

-- these values without the one at a place, and with another one there
abbrev without : ℕ → (ℕ → Option Given) → ℕ → Option Given
without place value at = if at == place then None else value at

abbrev only : ℕ → Option Given → ℕ → Option Given
only place given at = if at == place then given else None

abbrev with_value : ℕ → Option Given → (ℕ → Option Given) → ℕ → Option Given
with_value place given value at = or_else (only place given at) (value at)

-- a draft in which the attribute at a place has come
abbrev came_at : ℕ → Draft → Draft
came_at place draft = record draft { came = slice_set draft.came place true }

-- a value goes where the attribute at its place says
abbrev Puts : ℕ → Given → Type 0
Puts place given = (value : ℕ → Option Given) (ignored : ℕ)
    → came_at place (with_given (slot_at place) given (placed_draft (without place value) ignored)) ≡ placed_draft (with_value place (Some given) value) ignored

-- an attribute has come if it has a value
abbrev Comes : ℕ → Type 0
Comes place = (value : ℕ → Option Given) (ignored : ℕ) → slice_index_or (placed_draft value ignored).came place false ≡ is_some (value place)

-- whether an attribute takes a text, and whether a value is one
abbrev takes_text : Takes → Bool
takes_text takes.Text = true
takes_text _ = false

abbrev is_text : Option Given → Bool
is_text None = false
is_text (Some (given.Pixels n)) = false
is_text (Some (given.Word word)) = false
is_text (Some (given.Text text)) = true

-- a value of each kind goes to its place; a text does where a text is taken
record Fits (place : ℕ) : Type 0 where
  in_pixels : (n : ℤ) → Puts place (given.Pixels n)
  in_words : (word : ℕ) → Puts place (given.Word word)
  in_texts : (takes_text (takes_at place) ≡ false) ⊎ ((text : List ℕ) → Puts place (given.Text text))
  comes : Comes place

-- a fact of each number from one on, for a count of numbers
abbrev From : (ℕ → Type 0) → ℕ → ℕ → Type 0
From P first zero = Unit {0}
From P first (suc count) = P first × From P (suc first) count

pick : (P : ℕ → Type 0) (first count at : ℕ) → at < count → From P first count → P (first + at)
pick P first zero at within all = absurd (omega (arith, within))
pick P first (suc count) zero within all = let e : first ≡ first + 0 = omega arith in subst P e all.0
pick P first (suc count) (suc at) within all =
    let e : suc first + at ≡ first + suc at = omega arith in
    subst P e (pick P (suc first) count at (omega (arith, within)) all.1)

-- each of the 54 places by computation
all_fit : From Fits 0 54
unfolding attributes placed_facts
all_fit = (
  record { in_pixels = λ n value ignored. refl; in_words = λ word value ignored. refl; in_texts = inl refl; comes = λ value ignored. refl },
  (
    record { in_pixels = λ n value ignored. refl; in_words = λ word value ignored. refl; in_texts = inl refl; comes = λ value ignored. refl },
    (
      record { in_pixels = λ n value ignored. refl; in_words = λ word value ignored. refl; in_texts = inl refl; comes = λ value ignored. refl },
      (
        record { in_pixels = λ n value ignored. refl; in_words = λ word value ignored. refl; in_texts = inl refl; comes = λ value ignored. refl },
        (
          record { in_pixels = λ n value ignored. refl; in_words = λ word value ignored. refl; in_texts = inl refl; comes = λ value ignored. refl },
          (
            record { in_pixels = λ n value ignored. refl; in_words = λ word value ignored. refl; in_texts = inl refl; comes = λ value ignored. refl },
            (
              record { in_pixels = λ n value ignored. refl; in_words = λ word value ignored. refl; in_texts = inl refl; comes = λ value ignored. refl },
              (
                record { in_pixels = λ n value ignored. refl; in_words = λ word value ignored. refl; in_texts = inl refl; comes = λ value ignored. refl },
                (
                  record { in_pixels = λ n value ignored. refl; in_words = λ word value ignored. refl; in_texts = inl refl; comes = λ value ignored. refl },
                  (
                    record { in_pixels = λ n value ignored. refl; in_words = λ word value ignored. refl; in_texts = inl refl; comes = λ value ignored. refl },
                    (
                      record { in_pixels = λ n value ignored. refl; in_words = λ word value ignored. refl; in_texts = inl refl; comes = λ value ignored. refl },
                      (
                        record { in_pixels = λ n value ignored. refl; in_words = λ word value ignored. refl; in_texts = inl refl; comes = λ value ignored. refl },
                        (
                          record { in_pixels = λ n value ignored. refl; in_words = λ word value ignored. refl; in_texts = inl refl; comes = λ value ignored. refl },
                          (
                            record { in_pixels = λ n value ignored. refl; in_words = λ word value ignored. refl; in_texts = inl refl; comes = λ value ignored. refl },
                            (
                              record { in_pixels = λ n value ignored. refl; in_words = λ word value ignored. refl; in_texts = inl refl; comes = λ value ignored. refl },
                              (
                                record { in_pixels = λ n value ignored. refl; in_words = λ word value ignored. refl; in_texts = inl refl; comes = λ value ignored. refl },
                                (
                                  record { in_pixels = λ n value ignored. refl; in_words = λ word value ignored. refl; in_texts = inl refl; comes = λ value ignored. refl },
                                  (
                                    record { in_pixels = λ n value ignored. refl; in_words = λ word value ignored. refl; in_texts = inl refl; comes = λ value ignored. refl },
                                    (
                                      record { in_pixels = λ n value ignored. refl; in_words = λ word value ignored. refl; in_texts = inl refl; comes = λ value ignored. refl },
                                      (
                                        record { in_pixels = λ n value ignored. refl; in_words = λ word value ignored. refl; in_texts = inl refl; comes = λ value ignored. refl },
                                        (
                                          record { in_pixels = λ n value ignored. refl; in_words = λ word value ignored. refl; in_texts = inl refl; comes = λ value ignored. refl },
                                          (
                                            record { in_pixels = λ n value ignored. refl; in_words = λ word value ignored. refl; in_texts = inl refl; comes = λ value ignored. refl },
                                            (
                                              record { in_pixels = λ n value ignored. refl; in_words = λ word value ignored. refl; in_texts = inl refl; comes = λ value ignored. refl },
                                              (
                                                record { in_pixels = λ n value ignored. refl; in_words = λ word value ignored. refl; in_texts = inl refl; comes = λ value ignored. refl },
                                                (
                                                  record { in_pixels = λ n value ignored. refl; in_words = λ word value ignored. refl; in_texts = inl refl; comes = λ value ignored. refl },
                                                  (
                                                    record { in_pixels = λ n value ignored. refl; in_words = λ word value ignored. refl; in_texts = inl refl; comes = λ value ignored. refl },
                                                    (
                                                      record { in_pixels = λ n value ignored. refl; in_words = λ word value ignored. refl; in_texts = inl refl; comes = λ value ignored. refl },
                                                      (
                                                        record { in_pixels = λ n value ignored. refl; in_words = λ word value ignored. refl; in_texts = inl refl; comes = λ value ignored. refl },
                                                        (
                                                          record { in_pixels = λ n value ignored. refl; in_words = λ word value ignored. refl; in_texts = inr (λ text value ignored. refl); comes = λ value ignored. refl },
                                                          (
                                                            record { in_pixels = λ n value ignored. refl; in_words = λ word value ignored. refl; in_texts = inl refl; comes = λ value ignored. refl },
                                                            (
                                                              record { in_pixels = λ n value ignored. refl; in_words = λ word value ignored. refl; in_texts = inl refl; comes = λ value ignored. refl },
                                                              (
                                                                record { in_pixels = λ n value ignored. refl; in_words = λ word value ignored. refl; in_texts = inl refl; comes = λ value ignored. refl },
                                                                (
                                                                  record { in_pixels = λ n value ignored. refl; in_words = λ word value ignored. refl; in_texts = inl refl; comes = λ value ignored. refl },
                                                                  (
                                                                    record { in_pixels = λ n value ignored. refl; in_words = λ word value ignored. refl; in_texts = inl refl; comes = λ value ignored. refl },
                                                                    (
                                                                      record { in_pixels = λ n value ignored. refl; in_words = λ word value ignored. refl; in_texts = inl refl; comes = λ value ignored. refl },
                                                                      (
                                                                        record { in_pixels = λ n value ignored. refl; in_words = λ word value ignored. refl; in_texts = inl refl; comes = λ value ignored. refl },
                                                                        (
                                                                          record { in_pixels = λ n value ignored. refl; in_words = λ word value ignored. refl; in_texts = inl refl; comes = λ value ignored. refl },
                                                                          (
                                                                            record { in_pixels = λ n value ignored. refl; in_words = λ word value ignored. refl; in_texts = inl refl; comes = λ value ignored. refl },
                                                                            (
                                                                              record { in_pixels = λ n value ignored. refl; in_words = λ word value ignored. refl; in_texts = inl refl; comes = λ value ignored. refl },
                                                                              (
                                                                                record { in_pixels = λ n value ignored. refl; in_words = λ word value ignored. refl; in_texts = inl refl; comes = λ value ignored. refl },
                                                                                (
                                                                                  record { in_pixels = λ n value ignored. refl; in_words = λ word value ignored. refl; in_texts = inl refl; comes = λ value ignored. refl },
                                                                                  (
                                                                                    record { in_pixels = λ n value ignored. refl; in_words = λ word value ignored. refl; in_texts = inl refl; comes = λ value ignored. refl },
                                                                                    (
                                                                                      record { in_pixels = λ n value ignored. refl; in_words = λ word value ignored. refl; in_texts = inl refl; comes = λ value ignored. refl },
                                                                                      (
                                                                                        record { in_pixels = λ n value ignored. refl; in_words = λ word value ignored. refl; in_texts = inl refl; comes = λ value ignored. refl },
                                                                                        (
                                                                                          record { in_pixels = λ n value ignored. refl; in_words = λ word value ignored. refl; in_texts = inl refl; comes = λ value ignored. refl },
                                                                                          (
                                                                                            record { in_pixels = λ n value ignored. refl; in_words = λ word value ignored. refl; in_texts = inl refl; comes = λ value ignored. refl },
                                                                                            (
                                                                                              record { in_pixels = λ n value ignored. refl; in_words = λ word value ignored. refl; in_texts = inl refl; comes = λ value ignored. refl },
                                                                                              (
                                                                                                record { in_pixels = λ n value ignored. refl; in_words = λ word value ignored. refl; in_texts = inl refl; comes = λ value ignored. refl },
                                                                                                (
                                                                                                  record { in_pixels = λ n value ignored. refl; in_words = λ word value ignored. refl; in_texts = inl refl; comes = λ value ignored. refl },
                                                                                                  (
                                                                                                    record { in_pixels = λ n value ignored. refl; in_words = λ word value ignored. refl; in_texts = inl refl; comes = λ value ignored. refl },
                                                                                                    (
                                                                                                      record { in_pixels = λ n value ignored. refl; in_words = λ word value ignored. refl; in_texts = inl refl; comes = λ value ignored. refl },
                                                                                                      (
                                                                                                        record { in_pixels = λ n value ignored. refl; in_words = λ word value ignored. refl; in_texts = inl refl; comes = λ value ignored. refl },
                                                                                                        (
                                                                                                          record { in_pixels = λ n value ignored. refl; in_words = λ word value ignored. refl; in_texts = inl refl; comes = λ value ignored. refl },
                                                                                                          (
                                                                                                            record { in_pixels = λ n value ignored. refl; in_words = λ word value ignored. refl; in_texts = inl refl; comes = λ value ignored. refl },
                                                                                                            tt,
                                                                                                          ),
                                                                                                        ),
                                                                                                      ),
                                                                                                    ),
                                                                                                  ),
                                                                                                ),
                                                                                              ),
                                                                                            ),
                                                                                          ),
                                                                                        ),
                                                                                      ),
                                                                                    ),
                                                                                  ),
                                                                                ),
                                                                              ),
                                                                            ),
                                                                          ),
                                                                        ),
                                                                      ),
                                                                    ),
                                                                  ),
                                                                ),
                                                              ),
                                                            ),
                                                          ),
                                                        ),
                                                      ),
                                                    ),
                                                  ),
                                                ),
                                              ),
                                            ),
                                          ),
                                        ),
                                      ),
                                    ),
                                  ),
                                ),
                              ),
                            ),
                          ),
                        ),
                      ),
                    ),
                  ),
                ),
              ),
            ),
          ),
        ),
      ),
    ),
  ),
)

place_fits : (place : ℕ) → place < 54 → Fits place
place_fits place within = let e : 0 + place ≡ place = omega arith in subst Fits e (pick Fits 0 54 place within all_fit)

text_if : (b : Bool) (some other : Option Given) → is_text some ≡ false → is_text other ≡ false → is_text (if b then some else other) ≡ false
text_if true some other e f = e
text_if false some other e f = f

text_within : (low high : ℤ) (n : Option ℤ) → is_text (pixels_within low high n) ≡ false
unfolding pixels_within
text_within low high None = refl
text_within low high (Some n) = text_if (int_le low n && int_le n high) (Some (given.Pixels n)) None refl refl

text_weight : (weight : Option ℕ) → is_text (option_map given.Word weight) ≡ false
text_weight None = refl
text_weight (Some weight) = refl

text_color : (kind word : ℕ) (found : Option Resource) → is_text (color_of kind word found) ≡ false
unfolding color_of
text_color kind word None = text_if (is_color kind) (Some (given.Word word)) _ refl (text_if (is_nothing kind word) (Some (given.Word 0)) None refl refl)
text_color kind word (Some (Color color)) = refl
text_color kind word (Some (Dimen size)) = refl
text_color kind word (Some (Text text)) = refl

-- only an attribute that takes a text means one
means_none : (pool : StringPool) (dpi : ℕ) (what : Takes) (kind word : ℕ) (found : Option Resource) → takes_text what ≡ false → is_text (given_of pool dpi what kind word found) ≡ false
unfolding reference_given extent_given weight_given whole_given below_given boolean_given
means_none pool dpi takes.Reference kind word found e = text_if (kind == reference_kind) (Some (given.Word word)) None refl refl
means_none pool dpi takes.Extent kind word found e =
    text_if (is_whole kind) _ _ (text_within wrap_content max_size (Some (signed word))) (text_within (pos 0) max_size (dimension_of dpi kind word found))
means_none pool dpi (takes.Length low high) kind word found e = text_within low high (dimension_of dpi kind word found)
means_none pool dpi takes.Weight kind word found e =
    text_if (kind == float_kind) _ _ (text_weight (weight_of word)) (text_if (is_whole kind && nat_le word max_whole_weight) (Some (given.Word (256 * word))) None refl refl)
means_none pool dpi takes.Whole kind word found e = text_if (is_whole kind) (Some (given.Word word)) None refl refl
means_none pool dpi (takes.Below count) kind word found e = text_if (is_whole kind && nat_lt word count) (Some (given.Word word)) None refl refl
means_none pool dpi takes.Color kind word found e = text_color kind word found
means_none pool dpi takes.Text kind word found e = absurd cc
means_none pool dpi takes.Boolean kind word found e = text_if (kind == boolean_kind) (Some (given.Word (if word == 0 then 0 else 1))) None refl refl

meaning_none : (pool : StringPool) (dpi place : ℕ) (attr : Attr) (found : Result (Option Resource) PlainRefusal) → takes_text (takes_at place) ≡ false → is_text (meaning_with pool dpi place attr found) ≡ false
meaning_none pool dpi place attr (Ok found) e = means_none pool dpi (takes_at place) attr.kind attr.word found e
meaning_none pool dpi place attr (Err refusal) e = refl

-- what an attribute means goes to its place
puts_meaning : (pool : StringPool) (resources : Entries) (dpi : ℕ) (attr : Attr) (place : ℕ) → Fits place → (given : Given) → meaning_at pool resources dpi attr place ≡ Some given → Puts place given
unfolding meaning_at
puts_meaning pool resources dpi attr place fit (given.Pixels n) e = fit.in_pixels n
puts_meaning pool resources dpi attr place fit (given.Word word) e = fit.in_words word
puts_meaning pool resources dpi attr place fit (given.Text text) e = elim fit.in_texts [
  | inl none ↦ absurd (let held = meaning_none pool dpi place attr (found_of resources (takes_at place) attr.kind attr.word) none in let other = ap is_text e in cc)
  | inr puts ↦ puts text
]

-- an attribute that is known is in the table
known_within : (pool : StringPool) (attr : Attr) (place : ℕ) → known_place pool attr ≡ Some place → place < 54
unfolding known_place attributes
known_within pool attr place e = spaced (is_android (slice_get pool.texts attr.ns)) e
  where
    named : (name : Option (List ℕ)) → place_named name ≡ Some place → place < 54
    named None e = absurd cc
    named (Some name) e = (position-Some (λ (known : Attribute). bytes_eq known.name name) attributes place (known [] takes.Reference slot.Id) e).0

    spaced : (b : Bool) → (if b then place_named (slice_get pool.texts attr.name) else None) ≡ Some place → place < 54
    spaced false e = absurd cc
    spaced true e = named (slice_get pool.texts attr.name) e

same_values : (values others : ℕ → Option Given) → ((at : ℕ) → values at ≡ others at) → values ≡ others
same_values values others same = λ i. λ at. same at i

-- a value that is not there can be left out
absent : (value : ℕ → Option Given) (place : ℕ) → is_some (value place) ≡ false → value ≡ without place value
absent value place none = same_values value (without place value) (λ at. each at (at == place) refl)
  where
    nothing : (held : Option Given) → is_some held ≡ false → held ≡ None
    nothing None e = refl
    nothing (Some given) e = absurd cc

    each : (at : ℕ) (b : Bool) → (at == place) ≡ b → value at ≡ (if b then None else value at)
    each at false e = refl
    each at true e = let same = eqb-true at place e in nothing (value at) (rw same none)

-- the draft after a known attribute that is not refused
record Adds (pool : StringPool) (resources : Entries) (dpi : ℕ) (attr : Attr) (place : ℕ) (draft after : Draft) : Type 0 where
  given : Given
  meaning : meaning_at pool resources dpi attr place ≡ Some given
  new : slice_index_or draft.came place false ≡ false
  is : after ≡ came_at place (with_given (slot_at place) given draft)

adds : (pool : StringPool) (resources : Entries) (dpi : ℕ) (attr : Attr) (place : ℕ) (draft after : Draft) → with_known pool resources dpi attr place draft ≡ Ok after → Adds pool resources dpi attr place draft after
unfolding with_known meaning_at
adds pool resources dpi attr place draft after e = first (slice_index_or draft.came place false) (attr.kind == theme_kind) refl e
  where
    found_as : (found : Result (Option Resource) PlainRefusal) → found_of resources (takes_at place) attr.kind attr.word ≡ found
        → (found >>= λ resource. set_at place (given_of pool dpi (takes_at place) attr.kind attr.word resource) draft) ≡ Ok after
        → slice_index_or draft.came place false ≡ false → Adds pool resources dpi attr place draft after
    found_as (Err refusal) f e new = absurd cc
    found_as (Ok resource) f e new = meant (given_of pool dpi (takes_at place) attr.kind attr.word resource) refl e
      where
        meant : (meaning : Option Given) → given_of pool dpi (takes_at place) attr.kind attr.word resource ≡ meaning → set_at place meaning draft ≡ Ok after → Adds pool resources dpi attr place draft after
        meant None g e = absurd cc
        meant (Some given) g e = record { given = given; meaning = ap (meaning_with pool dpi place attr) f ∙ g; new = new; is = cc }

    first : (came theme : Bool) → slice_index_or draft.came place false ≡ came
        → (if came then Err (refusal_numbered duplicate) else (if theme then Err (refusal_numbered theme_ref)
        else (found_of resources (takes_at place) attr.kind attr.word >>= λ resource. set_at place (given_of pool dpi (takes_at place) attr.kind attr.word resource) draft))) ≡ Ok after
        → Adds pool resources dpi attr place draft after
    first true theme c e = absurd cc
    first false true c e = absurd cc
    first false false c e = found_as (found_of resources (takes_at place) attr.kind attr.word) refl e c

or_else-assoc : (first second third : Option Given) → or_else (or_else first second) third ≡ or_else first (or_else second third)
or_else-assoc None second third = refl
or_else-assoc (Some given) second third = refl

or_else-none : (held : Option Given) → or_else held None ≡ held
or_else-none None = refl
or_else-none (Some given) = refl

-- what attributes leave of a draft: the values so far, and those of the attributes
abbrev TakesAll : StringPool → Entries → ℕ → List Attr → Type 0
TakesAll pool resources dpi attrs = (value : ℕ → Option Given) (ignored : ℕ) (last : Draft) → with_attrs pool resources dpi attrs (placed_draft value ignored) ≡ Ok last
    → last ≡ placed_draft (λ at. or_else (value_at pool resources dpi attrs at) (value at)) (ignored + unknown_count pool attrs)

-- the value at each place, whichever way it is found
same_meaning : (pool : StringPool) (resources : Entries) (dpi : ℕ) (attr : Attr) (place at : ℕ) (given : Given) (b : Bool) → meaning_at pool resources dpi attr place ≡ Some given → (at == place) ≡ b
    → (if b then Some given else None) ≡ (if b then meaning_at pool resources dpi attr at else None)
same_meaning pool resources dpi attr place at given false meaning e = refl
same_meaning pool resources dpi attr place at given true meaning e = let same = eqb-true at place e in rw same (sym meaning)

-- one more attribute that is known
one_known : (pool : StringPool) (resources : Entries) (dpi : ℕ) (attr : Attr) (more : List Attr) (value : ℕ → Option Given) (ignored : ℕ) (last : Draft) → TakesAll pool resources dpi more
    → (place : ℕ) → place < 54 → (made : Result Draft PlainRefusal) → with_known pool resources dpi attr place (placed_draft value ignored) ≡ made → (made >>= with_attrs pool resources dpi more) ≡ Ok last
    → last ≡ placed_draft (λ at. or_else (or_else (value_at pool resources dpi more at) (meaning_if pool resources dpi attr at (Some place))) (value at)) (ignored + (0 + unknown_count pool more))
one_known pool resources dpi attr more value ignored last later place within (Err refusal) m e = absurd cc
one_known pool resources dpi attr more value ignored last later place within (Ok after) m e =
    let fit = place_fits place within in
    let added = adds pool resources dpi attr place (placed_draft value ignored) after m in
    let put : after ≡ placed_draft (with_value place (Some added.given) value) ignored =
    added.is ∙ ap (λ (v : ℕ → Option Given). came_at place (with_given (slot_at place) added.given (placed_draft v ignored))) (absent value place (sym (fit.comes value ignored) ∙ added.new))
    ∙ puts_meaning pool resources dpi attr place fit added.given added.meaning value ignored in
    let rest = later (with_value place (Some added.given) value) ignored last (rw put at e) in
    let values = same_values (λ at. or_else (value_at pool resources dpi more at) (with_value place (Some added.given) value at))
    (λ at. or_else (or_else (value_at pool resources dpi more at) (meaning_if pool resources dpi attr at (Some place))) (value at))
    (λ at. ap (λ (held : Option Given). or_else (value_at pool resources dpi more at) (or_else held (value at))) (same_meaning pool resources dpi attr place at added.given (at == place) added.meaning refl)
    ∙ sym (or_else-assoc (value_at pool resources dpi more at) (meaning_if pool resources dpi attr at (Some place)) (value at))) in
    let count : ignored + unknown_count pool more ≡ ignored + (0 + unknown_count pool more) = omega arith in
    rest ∙ ap (λ (v : ℕ → Option Given). placed_draft v (ignored + unknown_count pool more)) values
    ∙ ap (placed_draft (λ at. or_else (or_else (value_at pool resources dpi more at) (meaning_if pool resources dpi attr at (Some place))) (value at))) count

-- one more attribute
one_more : (pool : StringPool) (resources : Entries) (dpi : ℕ) (attr : Attr) (more : List Attr) (value : ℕ → Option Given) (ignored : ℕ) (last : Draft) → TakesAll pool resources dpi more
    → (known : Option ℕ) → known_place pool attr ≡ known → (with_place pool resources dpi attr known (placed_draft value ignored) >>= with_attrs pool resources dpi more) ≡ Ok last
    → last ≡ placed_draft (λ at. or_else (or_else (value_at pool resources dpi more at) (meaning_if pool resources dpi attr at known)) (value at)) (ignored + (unknown known + unknown_count pool more))
one_more pool resources dpi attr more value ignored last later None k e =
    let rest = later value (ignored + 1) last e in
    let count : ignored + 1 + unknown_count pool more ≡ ignored + (1 + unknown_count pool more) = omega arith in
    let values = same_values (λ at. or_else (value_at pool resources dpi more at) (value at)) (λ at. or_else (or_else (value_at pool resources dpi more at) None) (value at))
    (λ at. ap (λ (held : Option Given). or_else held (value at)) (sym (or_else-none (value_at pool resources dpi more at)))) in
    rest ∙ ap (placed_draft (λ at. or_else (value_at pool resources dpi more at) (value at))) count
    ∙ ap (λ (v : ℕ → Option Given). placed_draft v (ignored + (1 + unknown_count pool more))) values
one_more pool resources dpi attr more value ignored last later (Some place) k e =
    one_known pool resources dpi attr more value ignored last later place (known_within pool attr place k) (with_known pool resources dpi attr place (placed_draft value ignored)) refl e

-- one after the other
taken : (pool : StringPool) (resources : Entries) (dpi : ℕ) (attrs : List Attr) → TakesAll pool resources dpi attrs
taken pool resources dpi [] value ignored last e =
    let count : ignored ≡ ignored + 0 = omega arith in
    let same : last ≡ placed_draft value ignored = cc in
    same ∙ ap (placed_draft value) count
taken pool resources dpi (attr ∷ more) value ignored last e = one_more pool resources dpi attr more value ignored last (taken pool resources dpi more) (known_place pool attr) refl e

-- before any attribute there is no value
nothing_placed : empty_draft ≡ placed_draft (λ place. None) 0
unfolding placed_facts
nothing_placed = refl

-- what a finished draft gives
given_facets : Draft → Facets
given_facets draft = record { facts = drafted draft; text = draft.text; ignored = draft.ignored }

finishes : (draft : Draft) (facets : Facets) → finished draft ≡ Ok facets → facets ≡ given_facets draft
unfolding finished given_facets
finishes draft facets e = sized (slice_index_or draft.came width_place false && slice_index_or draft.came height_place false) e
  where
    sized : (b : Bool) → (if b then Ok (record { facts = drafted draft; text = draft.text; ignored = draft.ignored }) else Err (refusal_numbered no_size)) ≡ Ok facets
        → facets ≡ record { facts = drafted draft; text = draft.text; ignored = draft.ignored }
    sized true e = cc
    sized false e = absurd cc

-- by their places or by their names, the values are the same
names_places : (pool : StringPool) (resources : Entries) (dpi : ℕ) (attrs : List Attr)
    → given_facets (placed_draft (value_at pool resources dpi attrs) (unknown_count pool attrs)) ≡ named_facets pool resources dpi attrs
unfolding given_facets placed_facts named_facets single_facts attributes
names_places pool resources dpi attrs = refl

named_of : (doc : Document) (resources : Entries) (dpi : ℕ) (node : Node) (facets : Facets) → facets_of doc resources dpi node ≡ Ok facets
    → facets ≡ named_facets doc.pool resources dpi (attrs_of doc node)
unfolding facets_of
named_of doc resources dpi node facets e = drafted_as (with_attrs doc.pool resources dpi (attrs_of doc node) empty_draft) refl e
  where
    drafted_as : (made : Result Draft PlainRefusal) → with_attrs doc.pool resources dpi (attrs_of doc node) empty_draft ≡ made → (made >>= finished) ≡ Ok facets
        → facets ≡ named_facets doc.pool resources dpi (attrs_of doc node)
    drafted_as (Err refusal) m e = absurd cc
    drafted_as (Ok last) m e =
        let attrs = attrs_of doc node in
        let value = value_at doc.pool resources dpi attrs in
        let is = taken doc.pool resources dpi attrs (λ place. None) 0 last (rw nothing_placed at m) in
        let values = same_values (λ at. or_else (value at) None) value (λ at. or_else-none (value at)) in
        let count : 0 + unknown_count doc.pool attrs ≡ unknown_count doc.pool attrs = omega arith in
        let placed : last ≡ placed_draft value (unknown_count doc.pool attrs) =
        is ∙ ap (λ (v : ℕ → Option Given). placed_draft v (0 + unknown_count doc.pool attrs)) values ∙ ap (placed_draft value) count in
        finishes last facets e ∙ ap given_facets placed ∙ names_places doc.pool resources dpi attrs

named_where : (doc : Document) (resources : Entries) (dpi : ℕ) (node : Option Node) (facets : Facets) → facets_in doc resources dpi node ≡ Ok facets → facets ≡ named_in doc resources dpi node
named_where doc resources dpi None facets e = absurd cc
named_where doc resources dpi (Some node) facets e = named_of doc resources dpi node facets e

-- an element whose attributes were taken sets what they set by their names
pub sets_named : (doc : Document) (resources : Entries) (dpi place : ℕ) (result : Result Taken Fault) → IsTakenAs (facets_at doc resources dpi place) result
    → IfOk result (λ taken. facets taken ≡ named_at doc resources dpi place)
sets_named doc resources dpi place (Ok taken) sets = named_where doc resources dpi (slice_get doc.nodes place) (facets taken) sets
sets_named doc resources dpi place (Err why) sets = tt
