-- A document and a reader of the code, as those of the definitions.
use Rattle.axml_reader.specs.declared.doc.Doc.{Doc}
use Rattle.axml_reader.specs.declared.reading.Reading.{Reading}
use Rattle.axml_reader.specs.Document.{Document, State}

abbrev pub document : Doc → Document
document doc = record { pool = doc.pool; map = doc.map.items; nodes = doc.nodes.items; attrs = doc.attrs.items }

abbrev pub reading : Reading → State
reading r = record {
  pool = r.pool;
  map = r.map.items;
  nodes = r.nodes.items;
  attrs = r.attrs.items;
  stack = record { opened = r.opened.items; closed = r.closed };
  starts = r.starts;
}
