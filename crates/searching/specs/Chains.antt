-- The chain of records from a page on.
use Rattle.std.specs.Prelude.{◌≡◌, ℕ, ◌≤◌, List, [], ◌∷◌}
use Rattle.nodes.specs.Layout.{RecordPage, record_image, RecordFits}
use Rattle.tree.specs.Trees.{RecordAt}
use Rattle.tree.specs.Valid.{Pages, Holds, head_of}

-- a record as its page holds it, linked to the head of the rest
abbrev pub record_in : RecordAt → List RecordAt → RecordPage
record_in first rest = record { next = head_of rest; postings = first.postings }

-- page 0 ends a chain; else the page holds its first record, which links to the others
abbrev pub ChainFrom : Pages → (page : ℕ) → List RecordAt → Type 0
ChainFrom pages page [] = page ≡ 0
ChainFrom pages page (first ∷ rest) =
    (page ≡ first.page) × (1 ≤ page) × RecordFits (record_in first rest) × Holds pages page (record_image (record_in first rest)) × ChainFrom pages (head_of rest) rest
