-- What is shown of an entry, and of a key in a valid tree. Assumes nothing.
use Rattle.std.proofs.Common.{◌≡◌, ℕ, ◌+◌, min, Bool, true, cond, List, [], ◌∷◌, ◌++◌, map, length, take, drop, sym, refl, ap, ◌∙◌, arith, length-append}
use Rattle.std.proofs.Math.Seq.{take-nil}
use Rattle.std.specs.List.{flat_map, AllByRecursion}
use Rattle.std.proofs.lemmas.List.{length-map, length-take}
use Rattle.keys.specs.Kinds.{Kind, Field}
use Rattle.nodes.specs.declared.entry.Entry.{Entry as EntryRead}
use Rattle.nodes.specs.Layout.{LeafEntry}
use Rattle.nodes.specs.Few.{items}
use Rattle.nodes.specs.Meanings.{entry_of}
use Rattle.book.specs.Books.{value_at, postings_of}
use Rattle.book.specs.Entries.{Entry, Entries, paged, postings_in, book_of}
use Rattle.book.specs.Looking.{shown, list_after_lookup}
use Rattle.book.proofs.Changes.{equal_key, other_key}
use Rattle.book.proofs.Paged.{value_spelled}
use Rattle.tree.specs.Trees.{RecordAt, EntryAt, held}
use Rattle.tree.specs.Valid.{entry_in, postings_at}
use Rattle.calls.specs.declared.answers.Looked.{Looked}
use Rattle.calls.proofs.Spelled.{postings_held}
use Rattle.calls.specs.Lookups.{entry_at, looked_up}
use Rattle.lookups.specs.declared.pouring.ChainEnd.{ChainEnd}
use Rattle.lookups.specs.Pouring.{poured, ChainPoured}
use Rattle.lookups.specs.Showing.{EntryShown}
use Rattle.lookups.proofs.Pourings.{poured_append, poured_front, length_poured}

-- an entry: its inline postings are poured first, then its chain
pub entry_shown : (entry : EntryRead) (found : EntryAt) (reads : ℕ) (list inlined after : List ℕ) (end : ChainEnd) (inline : List ℕ) → inline ≡ items entry.inline → entry_of entry ≡ entry_in found
    → inlined ≡ poured 0 inline list → ChainPoured (length inline) found.records inlined end after
    → (looked : Looked) → looked.total ≡ end.place → looked.written ≡ min end.place (length after) → looked.reads ≡ reads + end.records → EntryShown found reads list looked after
entry_shown entry found reads list inlined after end inline inline_is is first then looked total written count =
    let held : inline ≡ found.inline = inline_is ∙ ap (λ (e : LeafEntry). e.inline) is in
    let many : length found.inline ≡ length inline = ap length (sym held) in
    let chain = flat_map (λ (r : RecordAt). r.postings) found.records in
    let all : after ≡ poured 0 (postings_at found) list = then.writes_its_postings
    ∙ (ap (λ (n : ℕ). poured n chain inlined) (sym many)
    ∙ (ap (λ (xs : List ℕ). poured (length found.inline) chain xs) (first ∙ ap (λ (ps : List ℕ). poured 0 ps list) held) ∙ sym (onward found.inline chain list))) in
    let ends = then.ends_after_its_postings in
    let both = length-append found.inline chain in
    let long : length after ≡ length list = ap length all ∙ length_poured 0 (postings_at found) list in
    let cut = length-take (length list) (postings_at found) in
    record {
      counts_its_postings = omega arith;
      counts_what_is_written = omega arith;
      counts_its_records = count ∙ ap (λ (n : ℕ). reads + n) then.counts_every_record;
      writes_what_fits = all ∙ poured_front (postings_at found) list;
    }
  where
    onward : (xs ys list : List ℕ) → poured 0 (xs ++ ys) list ≡ poured (length xs) ys (poured 0 xs list)
    onward xs ys list = poured_append 0 xs ys list ∙ ap (λ (n : ℕ). poured n ys (poured 0 xs list)) (omega arith)

-- entries whose keys are others are passed over
module _ (kind : Kind) (key : Field) (lk : kind.lawful key ≡ true) where
  abbrev pub Other : EntryAt → Type 0
  Other entry = (kind.lawful entry.key ≡ true) × (entry.key ≡ key → ⊥)

  pub passed_over : (others rest : List EntryAt) → AllByRecursion Other others → value_at kind paged key (map held (others ++ rest)) ≡ value_at kind paged key (map held rest)
  passed_over [] rest all = refl
  passed_over (e ∷ es) rest all =
      ap (λ (b : Bool). cond b (held e).value (value_at kind paged key (map held (es ++ rest)))) (other_key kind key e.key lk all.0.0 (λ same. all.0.1 (sym same))) ∙ passed_over es rest all.1

  pub found_there : (entry : EntryAt) (rest : List EntryAt) → entry.key ≡ key → value_at kind paged key (map held (entry ∷ rest)) ≡ (held entry).value
  found_there entry rest same = ap (λ (b : Bool). cond b (held entry).value (value_at kind paged key (map held rest))) (equal_key kind key entry.key lk (sym same))

-- what the entry of a key shows is what its book has
module _ (kind : Kind) (key : Field) (lk : kind.lawful key ≡ true) (height : ℕ) (entries : Entries) (list : List ℕ) where
  looked_is : (looked : Looked) (entry : Entry) → entry_at kind entries key ≡ entry → looked.total ≡ length (postings_in entry) → looked.written ≡ length (take (length list) (postings_in entry)) → looked.reads ≡ height + length entry.records → looked ≡ looked_up kind height entries key (length list)
  looked_is looked entry is total written reads =
      let ps : postings_in entry ≡ postings_of kind (book_of entries) key = ap postings_in (sym is) ∙ value_spelled kind key entries in
      λ i.
      record {
        total = (total ∙ ap length ps) i;
        written = (written ∙ ap (λ (xs : List ℕ). length (take (length list) xs)) ps) i;
        reads = (reads ∙ ap (λ (e : Entry). height + length e.records) (sym is)) i;
      }

  list_is : (after : List ℕ) (entry : Entry) → entry_at kind entries key ≡ entry → after ≡ take (length list) (postings_in entry) ++ drop (length (take (length list) (postings_in entry))) list → after ≡ list_after_lookup kind (book_of entries) key list
  list_is after entry is e =
      let ps : postings_in entry ≡ postings_of kind (book_of entries) key = ap postings_in (sym is) ∙ value_spelled kind key entries in
      e ∙ (ap (λ (xs : List ℕ). take (length list) xs ++ drop (length (take (length list) xs)) list) ps ∙ sym (ap (λ (b : Bool). cond b (shown kind (book_of entries) key (length list) ++ drop (length (shown kind (book_of entries) key (length list))) list) list) lk))

  pub shown_as_found : (found : EntryAt) (looked : Looked) (after : List ℕ) → entry_at kind entries key ≡ (held found).value → EntryShown found height list looked after
      → (looked ≡ looked_up kind height entries key (length list)) × (after ≡ list_after_lookup kind (book_of entries) key list)
  shown_as_found found looked after is shows = (
    looked_is looked (held found).value is
        (shows.counts_its_postings ∙ ap length (sym (postings_held found)))
        (shows.counts_what_is_written ∙ ap (λ (xs : List ℕ). length (take (length list) xs)) (sym (postings_held found)))
        (shows.counts_its_records ∙ ap (λ (n : ℕ). height + n) (sym (length-map found.records (λ (r : RecordAt). r.postings)))),
    list_is after (held found).value is (shows.writes_what_fits ∙ ap (λ (xs : List ℕ). take (length list) xs ++ drop (length (take (length list) xs)) list) (sym (postings_held found))),
  )

  pub shown_as_absent : (looked : Looked) → entry_at kind entries key ≡ paged.none → looked.total ≡ 0 → looked.written ≡ 0 → looked.reads ≡ height
      → (looked ≡ looked_up kind height entries key (length list)) × (list ≡ list_after_lookup kind (book_of entries) key list)
  shown_as_absent looked is total written reads = (
    looked_is looked paged.none is total (written ∙ sym (ap length (take-nil (length list)))) (omega arith),
    list_is list paged.none is (sym (ap (λ (xs : List ℕ). xs ++ drop (length xs) list) (take-nil (length list)))),
  )
