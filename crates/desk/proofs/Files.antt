-- The file of one line is a head, a row and a line. Assumes nothing.
use Rattle.std.proofs.Common.{◌≡◌, ℕ, List, [], ◌∷◌, ◌++◌, length, replicate, ◌∙◌}
use Rattle.std.proofs.lemmas.List.{take_at}
use Rattle.std.specs.List.{flat_map}
use Rattle.batches.specs.declared.line.Line.{Line}
use Rattle.batches.specs.Layout.{sign_byte, head_bytes}
use Rattle.drafts.specs.declared.RowDraft.{RowDraft}
use Rattle.drafts.specs.declared.LineDraft.{LineDraft}
use Rattle.drafts.specs.Drafted.{row_drafted, line_drafted}
use Rattle.desk.specs.Drafts.{word_file}

pub file_of_one_line : (row : RowDraft) (drafted : LineDraft) (line : Line) (bytes : List ℕ) → length row.key.now ≡ 24 → row.first ≡ 0 → row.count ≡ 1 → drafted.sign ≡ sign_byte line.sign → drafted.number ≡ line.number → bytes ≡ head_bytes 1 1 1 ++ (flat_map row_drafted (row ∷ []) ++ flat_map line_drafted (drafted ∷ [])) → bytes ≡ word_file row.key.now line
file_of_one_line row drafted line bytes long first count sign number is = is ∙ rw (take_at row.key.now (replicate 24 0) 24 long, first, count, sign, number)
