-- The bytes of rows and lines as they shall stand, whatever they say.
use Rattle.std.specs.Prelude.{List, ◌∷◌, ◌++◌, ℕ, take, replicate}
use Rattle.numbers.specs.BigEndian.{bytes_of}
use Rattle.drafts.specs.declared.RowDraft.{RowDraft}
use Rattle.drafts.specs.declared.LineDraft.{LineDraft}

-- a key cut or filled with zeros to 24 bytes
abbrev pub field_of : List ℕ → List ℕ
field_of key = take 24 (key ++ replicate 24 0)

-- a row's key field, the number of its first line and its count of lines
abbrev pub row_drafted : RowDraft → List ℕ
row_drafted row = field_of row.key.now ++ (bytes_of 4 row.first ++ bytes_of 4 row.count)

-- a sign byte and a number
abbrev pub line_drafted : LineDraft → List ℕ
line_drafted line = line.sign ∷ bytes_of 8 line.number
