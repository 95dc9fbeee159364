-- What the columns of facets have to do with one another.
use Rattle.std.proofs.Common.{◌≡◌, true, false, refl}
use Rattle.view_model.specs.declared.facets.Facet.{Facet}
use Rattle.view_model.specs.declared.facets.Facet.TheVariants.{Visible, Turned, Named, Tied}
use Rattle.view_model.specs.Facets.{row_of}

-- what hides or names requests layout
pub hidden_asks : (facet : Facet) → (row_of facet).hides ≡ true → (row_of facet).asks ≡ true
hidden_asks (Visible hides) is = refl
hidden_asks _ is = absurd (cc)

pub named_asks : (facet : Facet) → (row_of facet).names ≡ true → (row_of facet).asks ≡ true
named_asks Named is = refl
named_asks (Tied verb) is = refl
named_asks _ is = absurd (cc)

-- what requests none neither hides nor turns
pub quiet_stays : (facet : Facet) → (row_of facet).asks ≡ false → (row_of facet).hides ≡ false
quiet_stays (Visible hides) quiet = absurd (cc)
quiet_stays _ quiet = refl

pub quiet_turns : (facet : Facet) → (row_of facet).asks ≡ false → (row_of facet).turns ≡ false
quiet_turns Turned quiet = absurd (cc)
quiet_turns _ quiet = refl

-- what names views neither hides nor turns
pub named_stays : (facet : Facet) → (row_of facet).names ≡ true → (row_of facet).hides ≡ false
named_stays Named is = refl
named_stays (Tied verb) is = refl
named_stays _ is = absurd (cc)

pub named_turns : (facet : Facet) → (row_of facet).names ≡ true → (row_of facet).turns ≡ false
named_turns Named is = refl
named_turns (Tied verb) is = refl
named_turns _ is = absurd (cc)

-- nor does what no picture shows
pub unseen_stays : (facet : Facet) → (row_of facet).shows ≡ false → (row_of facet).hides ≡ false
unseen_stays (Visible hides) unseen = absurd (cc)
unseen_stays _ unseen = refl

pub unseen_turns : (facet : Facet) → (row_of facet).shows ≡ false → (row_of facet).turns ≡ false
unseen_turns Turned unseen = absurd (cc)
unseen_turns _ unseen = refl
