-- For its own sake: the numbers of the code are those of the definitions.
use Rattle.std.specs.Prelude.{◌≡◌, [], ◌∷◌, refl}
use Rattle.axml_reader.specs.declared.decode.TheConstants.{DOCUMENT}
use Rattle.axml_reader.specs.declared.doc.TheConstants.{NO_STRING}
use Rattle.axml_reader.specs.declared.fields.TheConstants.{STRING}
use Rattle.axml_reader.specs.declared.nodes.TheConstants.{CHARS, END, MAP, MAX_ATTRS, MAX_ELEMENTS, NAMESPACE_END, NAMESPACE_START, POOL, START}
use Rattle.axml_reader.specs.Numbers.{chars_kind, document_kind, end_kind, map_kind, max_attrs, max_elements, namespace_end_kind, namespace_start_kind, no_string, pool_kind, start_kind, string_kind}

chunks :
    DOCUMENT ∷ POOL ∷ MAP ∷ NAMESPACE_START ∷ NAMESPACE_END ∷ START ∷ END ∷ CHARS ∷ []
    ≡
    document_kind ∷ pool_kind ∷ map_kind ∷ namespace_start_kind ∷ namespace_end_kind ∷ start_kind ∷ end_kind
    ∷ chars_kind ∷ []
chunks = refl

values : STRING ∷ NO_STRING ∷ [] ≡ string_kind ∷ no_string ∷ []
values = refl

limits : MAX_ELEMENTS ∷ MAX_ATTRS ∷ [] ≡ max_elements ∷ max_attrs ∷ []
limits = refl
