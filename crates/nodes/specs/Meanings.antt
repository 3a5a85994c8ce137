-- The value that each struct of the code means.
use Rattle.std.specs.Prelude.{ℕ, map}
use Rattle.nodes.specs.declared.header.Header.{Header}
use Rattle.nodes.specs.declared.row.ChildRow.{ChildRow}
use Rattle.nodes.specs.declared.inner.InnerNode.{InnerNode}
use Rattle.nodes.specs.declared.entry.Entry.{Entry}
use Rattle.nodes.specs.declared.leaf.Leaf.{Leaf}
use Rattle.nodes.specs.declared.records.Record.{Record}
use Rattle.nodes.specs.declared.free.Free.{Free}
use Rattle.nodes.specs.Few.{items}
use Rattle.nodes.specs.Layout.{HeaderPage, InnerRow, InnerPage, LeafEntry, LeafPage, RecordPage, FreePage}

abbrev pub header_of : Header → HeaderPage
header_of x =
    record {
      kind_code = x.kind_code;
      height = x.height;
      root = x.root;
      first_free = x.first_free;
      free = x.free;
      keys = x.keys;
      pages = x.pages;
    }

abbrev pub row_of : ChildRow → InnerRow
row_of x = record { key = x.key; child = x.child }

abbrev pub inner_of : InnerNode → InnerPage
inner_of x = record { first = x.first; rows = map row_of (items x.rows) }

abbrev pub entry_of : Entry → LeafEntry
entry_of x = record { key = x.key; inline = items x.inline; head = x.head; chained = x.chained }

abbrev pub leaf_of : Leaf → LeafPage
leaf_of x = record { next = x.next; entries = map entry_of (items x.entries) }

abbrev pub record_of : Record → RecordPage
record_of x = record { next = x.next; postings = items x.postings }

abbrev pub free_with : ℕ → FreePage
free_with next = record { next = next }

abbrev pub free_of : Free → FreePage
free_of x = free_with x.next
