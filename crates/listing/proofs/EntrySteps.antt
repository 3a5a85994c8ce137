-- The rows of an entry: those of its inline postings, then those of its chain. Assumes nothing.
use Rattle.std.proofs.Common.{◌≡◌, ℕ, ◌+◌, false, List, ◌++◌, length, sym, ap, ◌∙◌, subst, arith}
use Rattle.std.specs.List.{flat_map}
use Rattle.std.proofs.lemmas.List.Concat.{length-flat_map}
use Rattle.keys.specs.Kinds.{Field}
use Rattle.nodes.specs.declared.entry.Entry.{Entry}
use Rattle.nodes.specs.Layout.{LeafEntry}
use Rattle.nodes.specs.Few.{items}
use Rattle.nodes.specs.Meanings.{entry_of}
use Rattle.book.specs.Looking.{Listed}
use Rattle.tree.specs.Trees.{RecordAt, EntryAt}
use Rattle.tree.specs.Valid.{Pages, head_of, entry_in}
use Rattle.listing.specs.Filling.{rows_of, is_any_shown, filled}
use Rattle.listing.specs.Readable.{ReadableChain}
use Rattle.listing.specs.Walks.{rows_in_chain, rows_at, RowsPut}
use Rattle.listing.proofs.Filling.{rows_whole}
use Rattle.listing.proofs.Putting.{rows_append, length_rows, put_on, none_leaves}

-- the chain starts at the page that the entry names
pub chain_there : (x : Entry) (entry : EntryAt) → entry_of x ≡ entry_in entry → (pages : Pages) → ReadableChain pages (head_of entry.records) entry.records → ReadableChain pages x.head entry.records
chain_there x entry is pages readable = subst (λ (n : ℕ). ReadableChain pages n entry.records) (sym (ap (λ (e : LeafEntry). e.head) is)) readable

module _ (x : Entry) (entry : EntryAt) (is : entry_of x ≡ entry_in entry) (inline : List ℕ) (inline_is : inline ≡ items x.inline) (at skip : ℕ) (buffer mid : List ℕ) (inline_put : mid ≡ filled skip at (rows_of x.key inline) buffer) where
  same_key : x.key ≡ entry.key
  same_key = ap (λ (e : LeafEntry). e.key) is

  same_inline : inline ≡ entry.inline
  same_inline = inline_is ∙ ap (λ (e : LeafEntry). e.inline) is

  length_chain : length (rows_in_chain x.key entry.records) ≡ x.chained
  length_chain =
      length_rows x.key (flat_map (λ (r : RecordAt). r.postings) entry.records) ∙ length-flat_map (λ (r : RecordAt). r.postings) entry.records ∙ sym (ap (λ (e : LeafEntry). e.chained) is)

  -- the chain's rows behind those of the inline postings are the entry's
  rows_of_entry : rows_of x.key inline ++ rows_in_chain x.key entry.records ≡ rows_at entry
  rows_of_entry =
      sym (rows_append x.key inline (flat_map (λ (r : RecordAt). r.postings) entry.records))
      ∙ ap (λ (ps : List ℕ). rows_of x.key (ps ++ flat_map (λ (r : RecordAt). r.postings) entry.records)) same_inline
      ∙ ap (λ (key : Field). rows_of key (entry.inline ++ flat_map (λ (r : RecordAt). r.postings) entry.records)) same_key

  pub entry_put : (after : List ℕ) → after ≡ filled skip (at + length inline) (rows_in_chain x.key entry.records) mid → RowsPut (rows_at entry) at skip buffer (at + length inline + x.chained) after
  entry_put after chain-put =
      let count = length_rows x.key inline in
      let long = length_chain in
      subst (λ (rows : List Listed). RowsPut rows at skip buffer (at + length inline + x.chained) after) rows_of_entry
      (put_on (rows_of x.key inline) (rows_in_chain x.key entry.records) at skip buffer (at + length inline) mid (at + length inline + x.chained) after
      (record { counts_them = omega arith; fills_the_buffer = inline_put })
      (record { counts_them = omega arith; fills_the_buffer = chain-put }))

  -- a chain of which no row is shown changes nothing
  pub chain_not_shown : is_any_shown skip (length mid) (at + length inline) (at + length inline + x.chained) ≡ false → mid ≡ filled skip (at + length inline) (rows_in_chain x.key entry.records) mid
  chain_not_shown none =
      let long = length_chain in
      sym (none_leaves skip (at + length inline) (at + length inline + x.chained) (rows_in_chain x.key entry.records) mid (rows_whole x.key (flat_map (λ (r : RecordAt). r.postings) entry.records) x.has_24_key_bytes) (omega arith) none)
