-- Worked inputs and what booklist prints for them.
use Rattle.std.specs.Prelude.{◌≡◌, ℕ, List, [], ◌∷◌, ◌++◌, map, length, codes}
use Rattle.std.specs.List.{range_with_len}
use Rattle.keys.specs.Words.{padded}
use Rattle.batches.specs.Layout.{file_of}
use Rattle.book.specs.Examples.{rent, plus, minus, under}
use Rattle.book_listing.specs.Text.{booklist_text}

-- BTCH, the kind code, three zeros, no rows and no lines
abbrev pub empty_batch : (code : ℕ) → List ℕ
empty_batch code = codes "BTCH" ++ (code ∷ 0 ∷ 0 ∷ 0 ∷ 0 ∷ 0 ∷ 0 ∷ 0 ∷ 0 ∷ 0 ∷ 0 ∷ 0 ∷ [])

-- one row, rent, and one line, + 7
abbrev pub rent_batch : List ℕ
rent_batch =
    codes "BTCH" ++ ((1 ∷ 0 ∷ 0 ∷ 0 ∷ 0 ∷ 0 ∷ 0 ∷ 1 ∷ 0 ∷ 0 ∷ 0 ∷ 1 ∷ []) ++ (padded (codes "rent") ++ ((0 ∷ 0 ∷ 0 ∷ 0 ∷ 0 ∷ 0 ∷ 0 ∷ 1 ∷ []) ++ (43 ∷ 0 ∷ 0 ∷ 0 ∷ 0 ∷ 0 ∷ 0 ∷ 0 ∷ 7 ∷ []))))

-- the end of a line
abbrev pub end : List ℕ
end = 10 ∷ []

pub record WorkedTexts : Type 0 where
  pub rent_has_57_bytes : length rent_batch ≡ 57
  pub rent_7 : booklist_text rent_batch ≡ codes "0 1" ++ (end ++ (codes "rent 7" ++ end))
  pub no_rows : booklist_text (empty_batch 1) ≡ codes "0 0" ++ end
  pub another_kind : booklist_text (empty_batch 77) ≡ codes "3 0" ++ end
  pub no_bytes : booklist_text [] ≡ codes "2 1" ++ end
  pub newest_first : booklist_text (file_of 1 (under rent (plus 43 ∷ plus 45 ∷ []) ∷ [])) ≡ codes "0 2" ++ (end ++ (codes "rent 45" ++ (end ++ (codes "rent 43" ++ end))))
  pub nothing_to_cancel : booklist_text (file_of 1 (under rent (minus 3 ∷ []) ∷ [])) ≡ codes "7 0" ++ end
  pub nine_posting_lines : booklist_text (file_of 1 (under rent (map plus (range_with_len 1 9)) ∷ [])) ≡ codes "8 0" ++ end
