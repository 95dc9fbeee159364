-- Worked rows: what the definitions give of small files.
use Rattle.std.proofs.Common.{◌≡◌, ℕ, true, List, [], ◌∷◌, Ok, Err, refl}
use Rattle.std.specs.Prelude.{codes}
use Rattle.std.specs.Fmt.{digits}
use Rattle.std.specs.Str.{is_utf8, chars}
use lib.Utf8.{encode}
use Rattle.axml_chunks.specs.Chunks.{chunk_of}
use Rattle.axml_chunks.specs.Faults.{no_element, bad_reference}
use Rattle.axml_chunks.specs.Numbers.{number16, number32}
use Rattle.axml_chunks.specs.Pool.{header_of, string_at, gathered, pool_in}
use Rattle.axml_chunks.specs.Steps.{upto}
use Rattle.axml_chunks.specs.Strings.{utf8_text, utf8_length, ended_bytes, text_of_bytes}
use Rattle.text_lines.specs.Hex.{eight_digits, hex_text}
use Rattle.text_lines.specs.Joined.{◌⧺◌, texts_of}
use Rattle.axml_reader.specs.declared.doc.Node.TheVariants.{NsStart, NsEnd, Start, End}
use Rattle.axml_reader.specs.Decoding.{document_of, one_chunk, chunks_from, finished, decoded}
use Rattle.axml_reader.specs.Document.{Document}
use Rattle.axml_reader.specs.Dump.{string_name, escaped, encoding, dump_text}
use Rattle.axml_reader.specs.Fields.{reference_at, name_at, word_at, attr_at, same_text}
use Rattle.axml_reader.specs.Nodes.{body_at, pair_at, names_at, start_at, pool_part, map_part, namespace_start_part, namespace_end_part, start_part, end_part, part_at}

-- a document with no chunk
only_a_header : decoded (3 ∷ 0 ∷ 8 ∷ 0 ∷ 8 ∷ 0 ∷ 0 ∷ 0 ∷ []) ≡ Err (no_element 8)
unfolding decoded document_of chunk_of number16 number32 chunks_from finished
only_a_header = refl

-- a namespace whose prefix is string 0, where there is none
no_strings : List ℕ
no_strings =
    3 ∷ 0 ∷ 8 ∷ 0 ∷ 32 ∷ 0 ∷ 0 ∷ 0 ∷
    0 ∷ 1 ∷ 16 ∷ 0 ∷ 24 ∷ 0 ∷ 0 ∷ 0 ∷ 1 ∷ 0 ∷ 0 ∷ 0 ∷ 255 ∷ 255 ∷ 255 ∷ 255 ∷ 255 ∷ 255 ∷ 255 ∷ 255 ∷ 0 ∷ 0 ∷ 0 ∷ 0 ∷ []

no_string : decoded no_strings ≡ Err (bad_reference 28)
unfolding no_strings decoded document_of chunk_of number16 number32 chunks_from one_chunk part_at namespace_start_part pair_at body_at reference_at finished
no_string = refl

-- a View with a width, a height and a style
layout_bytes : List ℕ
layout_bytes =
    3 ∷ 0 ∷ 8 ∷ 0 ∷ 92 ∷ 1 ∷ 0 ∷ 0 ∷ 1 ∷ 0 ∷ 28 ∷ 0 ∷ 156 ∷ 0 ∷ 0 ∷ 0 ∷
    6 ∷ 0 ∷ 0 ∷ 0 ∷ 0 ∷ 0 ∷ 0 ∷ 0 ∷ 0 ∷ 1 ∷ 0 ∷ 0 ∷ 52 ∷ 0 ∷ 0 ∷ 0 ∷
    0 ∷ 0 ∷ 0 ∷ 0 ∷ 0 ∷ 0 ∷ 0 ∷ 0 ∷ 15 ∷ 0 ∷ 0 ∷ 0 ∷ 31 ∷ 0 ∷ 0 ∷ 0 ∷
    41 ∷ 0 ∷ 0 ∷ 0 ∷ 86 ∷ 0 ∷ 0 ∷ 0 ∷ 93 ∷ 0 ∷ 0 ∷ 0 ∷ 12 ∷ 12 ∷ 108 ∷ 97 ∷
    121 ∷ 111 ∷ 117 ∷ 116 ∷ 95 ∷ 119 ∷ 105 ∷ 100 ∷ 116 ∷ 104 ∷ 0 ∷ 13 ∷ 13 ∷ 108 ∷ 97 ∷ 121 ∷
    111 ∷ 117 ∷ 116 ∷ 95 ∷ 104 ∷ 101 ∷ 105 ∷ 103 ∷ 104 ∷ 116 ∷ 0 ∷ 7 ∷ 7 ∷ 97 ∷ 110 ∷ 100 ∷
    114 ∷ 111 ∷ 105 ∷ 100 ∷ 0 ∷ 42 ∷ 42 ∷ 104 ∷ 116 ∷ 116 ∷ 112 ∷ 58 ∷ 47 ∷ 47 ∷ 115 ∷ 99 ∷
    104 ∷ 101 ∷ 109 ∷ 97 ∷ 115 ∷ 46 ∷ 97 ∷ 110 ∷ 100 ∷ 114 ∷ 111 ∷ 105 ∷ 100 ∷ 46 ∷ 99 ∷ 111 ∷
    109 ∷ 47 ∷ 97 ∷ 112 ∷ 107 ∷ 47 ∷ 114 ∷ 101 ∷ 115 ∷ 47 ∷ 97 ∷ 110 ∷ 100 ∷ 114 ∷ 111 ∷ 105 ∷
    100 ∷ 0 ∷ 4 ∷ 4 ∷ 86 ∷ 105 ∷ 101 ∷ 119 ∷ 0 ∷ 5 ∷ 5 ∷ 115 ∷ 116 ∷ 121 ∷ 108 ∷ 101 ∷
    0 ∷ 0 ∷ 0 ∷ 0 ∷ 128 ∷ 1 ∷ 8 ∷ 0 ∷ 16 ∷ 0 ∷ 0 ∷ 0 ∷ 244 ∷ 0 ∷ 1 ∷ 1 ∷
    245 ∷ 0 ∷ 1 ∷ 1 ∷ 0 ∷ 1 ∷ 16 ∷ 0 ∷ 24 ∷ 0 ∷ 0 ∷ 0 ∷ 2 ∷ 0 ∷ 0 ∷ 0 ∷
    255 ∷ 255 ∷ 255 ∷ 255 ∷ 2 ∷ 0 ∷ 0 ∷ 0 ∷ 3 ∷ 0 ∷ 0 ∷ 0 ∷ 2 ∷ 1 ∷ 16 ∷ 0 ∷
    96 ∷ 0 ∷ 0 ∷ 0 ∷ 2 ∷ 0 ∷ 0 ∷ 0 ∷ 255 ∷ 255 ∷ 255 ∷ 255 ∷ 255 ∷ 255 ∷ 255 ∷ 255 ∷
    4 ∷ 0 ∷ 0 ∷ 0 ∷ 20 ∷ 0 ∷ 20 ∷ 0 ∷ 3 ∷ 0 ∷ 0 ∷ 0 ∷ 0 ∷ 0 ∷ 0 ∷ 0 ∷
    3 ∷ 0 ∷ 0 ∷ 0 ∷ 0 ∷ 0 ∷ 0 ∷ 0 ∷ 255 ∷ 255 ∷ 255 ∷ 255 ∷ 8 ∷ 0 ∷ 0 ∷ 16 ∷
    255 ∷ 255 ∷ 255 ∷ 255 ∷ 3 ∷ 0 ∷ 0 ∷ 0 ∷ 1 ∷ 0 ∷ 0 ∷ 0 ∷ 255 ∷ 255 ∷ 255 ∷ 255 ∷
    8 ∷ 0 ∷ 0 ∷ 5 ∷ 1 ∷ 16 ∷ 0 ∷ 0 ∷ 255 ∷ 255 ∷ 255 ∷ 255 ∷ 5 ∷ 0 ∷ 0 ∷ 0 ∷
    255 ∷ 255 ∷ 255 ∷ 255 ∷ 8 ∷ 0 ∷ 0 ∷ 1 ∷ 0 ∷ 0 ∷ 3 ∷ 127 ∷ 3 ∷ 1 ∷ 16 ∷ 0 ∷
    24 ∷ 0 ∷ 0 ∷ 0 ∷ 2 ∷ 0 ∷ 0 ∷ 0 ∷ 255 ∷ 255 ∷ 255 ∷ 255 ∷ 255 ∷ 255 ∷ 255 ∷ 255 ∷
    4 ∷ 0 ∷ 0 ∷ 0 ∷ 1 ∷ 1 ∷ 16 ∷ 0 ∷ 24 ∷ 0 ∷ 0 ∷ 0 ∷ 2 ∷ 0 ∷ 0 ∷ 0 ∷
    255 ∷ 255 ∷ 255 ∷ 255 ∷ 2 ∷ 0 ∷ 0 ∷ 0 ∷ 3 ∷ 0 ∷ 0 ∷ 0 ∷ []

layout : Document
layout = record {
  pool = record {
    utf8 = true;
    texts = codes "layout_width" ∷ codes "layout_height" ∷ codes "android" ∷ codes "http://schemas.android.com/apk/res/android" ∷ codes "View" ∷ codes "style" ∷ [];
  };
  map = 0x010100f4 ∷ 0x010100f5 ∷ [];
  nodes = NsStart 2 3 ∷ Start 2 0xffffffff 4 0 3 ∷ End 2 0xffffffff 4 ∷ NsEnd 2 3 ∷ [];
  attrs =
      record { ns = 3; name = 0; raw = 0xffffffff; kind = 0x10; word = 0xffffffff }
      ∷ record { ns = 3; name = 1; raw = 0xffffffff; kind = 0x05; word = 0x1001 }
      ∷ record { ns = 0xffffffff; name = 5; raw = 0xffffffff; kind = 0x01; word = 0x7f030000 } ∷ [];
}

layout_file : decoded layout_bytes ≡ Ok layout
unfolding layout_bytes layout decoded document_of chunk_of number16 number32 chunks_from one_chunk part_at pool_part map_part namespace_start_part namespace_end_part start_part end_part pair_at names_at start_at body_at same_text reference_at name_at word_at attr_at upto header_of string_at gathered utf8_text utf8_length ended_bytes text_of_bytes is_utf8 chars finished pool_in encode
layout_file = refl

layout_text : List ℕ
layout_text = codes "pool utf8 6\ns0 \"layout_width\"\ns1 \"layout_height\"\ns2 \"android\"\ns3 \"http://schemas.android.com/apk/res/android\"\ns4 \"View\"\ns5 \"style\"\nmap 010100f4\nmap 010100f5\nns s2 s3\nstart 2 - s4 3\nattr s3 s0 - 10 ffffffff\nattr s3 s1 - 05 00001001\nattr - s5 - 01 7f030000\nend 2 - s4\nendns s2 s3\n"

layout_dump : dump_text layout ≡ layout_text
unfolding layout layout_text encoding escaped string_name ◌⧺◌ texts_of hex_text eight_digits digits
layout_dump = refl
