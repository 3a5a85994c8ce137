-- The chains of a valid tree. Assumes nothing.
use Rattle.std.proofs.Common.{ℕ, ◌<◌, ◌≤◌, List, [], ◌∷◌, map, length, refl, arith}
use Rattle.std.specs.List.{AllByRecursion}
use Rattle.std.proofs.lemmas.List.{length-map}
use Rattle.keys.specs.Kinds.{Kind}
use Rattle.book.specs.Entries.{Entries}
use Rattle.tree.specs.Trees.{RecordAt, EntryAt, entries_of, record_pages, chain_pages}
use Rattle.tree.specs.Valid.{Pages, head_of, SpellChain, Valid}
use Rattle.tree.proofs.Everywhere.{all_parts, each_shorter}
use Rattle.tree.proofs.Fitting.{ChainFits, Linkable, record_pages_linkable, fewer_than_pages}
use Rattle.searching.specs.Chains.{ChainFrom}

pub chain_from : (pages : Pages) (bound : ℕ) (records : List RecordAt) → SpellChain pages records → ChainFits records → AllByRecursion (Linkable bound) (map (λ (r : RecordAt). r.page) records) → ChainFrom pages (head_of records) records
chain_from pages bound [] spelled fits linkable = refl
chain_from pages bound (r ∷ rs) spelled fits linkable = (refl, linkable.0.0, fits.0, spelled.0, chain_from pages bound rs spelled.1 fits.1 linkable.1)

-- the pages of each entry's chain can be linked to, and are no more than there are pages
module _ (kind : Kind) (pages : Pages) (entries : Entries) (valid : Valid kind pages entries) where
  pub chains_linkable : AllByRecursion (λ (entry : EntryAt). AllByRecursion (Linkable (length pages)) (chain_pages entry)) (entries_of valid.levels valid.tree)
  chains_linkable = all_parts (Linkable (length pages)) chain_pages (entries_of valid.levels valid.tree) (record_pages_linkable kind pages entries valid)

  fewer : (es : List EntryAt) → AllByRecursion (λ (entry : EntryAt). length (chain_pages entry) ≤ length (record_pages valid.levels valid.tree)) es → AllByRecursion (λ (entry : EntryAt). length entry.records < length pages) es
  fewer [] all = tt
  fewer (e ∷ es) all =
      (let here = all.0 in let whole = fewer_than_pages kind pages entries valid in let same = length-map e.records (λ (r : RecordAt). r.page) in omega arith, fewer es all.1)

  pub chains_short : AllByRecursion (λ (entry : EntryAt). length entry.records < length pages) (entries_of valid.levels valid.tree)
  chains_short = fewer (entries_of valid.levels valid.tree) (each_shorter chain_pages (entries_of valid.levels valid.tree))
