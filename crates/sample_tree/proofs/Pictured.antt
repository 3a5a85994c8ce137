-- The image is a valid tree of height 2. Assumes nothing.
use Rattle.std.proofs.Common.{◌≡◌, ℕ, zero, suc, true, List, [], ◌∷◌, length, get_or, refl, subst, lit≤}
use Rattle.std.specs.List.{AllByRecursion}
use Rattle.numbers.specs.BigEndian.{Bytes}
use Rattle.page_store.specs.Meanings.{Page, Live, Gone, Sound}
use Rattle.nodes.specs.Layout.{HeaderPage, InnerPage, LeafPage, RecordPage, FreePage, header_image, inner_image, leaf_image, record_image, free_image, HeaderFits, InnerFits, LeafFits, RecordFits, FreeFits}
use Rattle.nodes.specs.Codec.{Spells}
use Rattle.nodes.proofs.Spelling.{made_header, made_inner, made_leaf, made_record, made_free, header_spells, inner_spells, leaf_spells, record_spells, free_spells}
use Rattle.keys.specs.Kinds.{Field}
use Rattle.keys.specs.Words.{letters_then_zeros}
use Rattle.keys.specs.BuiltIn.{word_kind}
use Rattle.tree.specs.Trees.{RecordAt, EntryAt, Tree, entries_of}
use Rattle.tree.specs.Valid.{Pages, Spell, Sized, Ordered, reached_pages, Valid}
use Rattle.tree.proofs.Uniqueness.{entries_are_unique}
use Rattle.sample_tree.specs.Image.{word, row, bank, cash, fees, hire, loan, rent, tax, wages, image, image_entries, TheImageIsValid}
use Rattle.sample_tree.proofs.Testing.{passed, link_fits, header_tests, header_passes, record_tests, record_passes, leaf_tests, leaf_passes, inner_tests, inner_passes, free_passes, entries_keep, each_once}

abbrev pub record_at : ℕ → List ℕ → RecordAt
record_at page postings = record { page = page; postings = postings }

abbrev pub entry_at : Field → List ℕ → List RecordAt → EntryAt
entry_at key inline records = record { key = key; inline = inline; records = records }

-- a root on page 4 over leaves on pages 2 and 6
abbrev pub tree_with : (separator : Field) → (left_next : ℕ) → List EntryAt → (right_next : ℕ) → List EntryAt → Tree 1
tree_with separator left_next left right_next right =
    record { page = 4; first = record { page = 2; next = left_next; entries = left }; rest = record { key = separator; child = record { page = 6; next = right_next; entries = right } } ∷ [] }

abbrev pub bank_at : EntryAt
bank_at = entry_at (word "bank") (31 ∷ []) (record_at 5 (28 ∷ 25 ∷ 20 ∷ []) ∷ record_at 3 (5 ∷ 2 ∷ []) ∷ [])

abbrev pub cash_at : EntryAt
cash_at = entry_at (word "cash") (30 ∷ 24 ∷ 11 ∷ []) []

abbrev pub fees_at : EntryAt
fees_at = entry_at (word "fees") (22 ∷ []) []

abbrev pub hire_at : EntryAt
hire_at = entry_at (word "hire") (19 ∷ 14 ∷ []) []

abbrev pub loan_at : EntryAt
loan_at = entry_at (word "loan") (31 ∷ 3 ∷ []) []

abbrev pub rent_at : EntryAt
rent_at = entry_at (word "rent") [] (record_at 1 (12 ∷ 8 ∷ []) ∷ [])

abbrev pub tax_at : EntryAt
tax_at = entry_at (word "tax") (16 ∷ []) []

abbrev pub wages_at : EntryAt
wages_at = entry_at (word "wages") (29 ∷ 23 ∷ 10 ∷ []) []

abbrev pub left : List EntryAt
left = bank_at ∷ cash_at ∷ fees_at ∷ hire_at ∷ []

abbrev pub right : List EntryAt
right = loan_at ∷ rent_at ∷ tax_at ∷ wages_at ∷ []

abbrev tree : Tree 1
tree = tree_with (word "lease") 6 left 0 right

spelled : Spell image 1 tree
spelled = (refl, (refl, ((refl, (refl, tt)), (tt, (tt, (tt, tt))))), ((refl, (tt, ((refl, tt), (tt, (tt, tt))))), tt))

sized : Sized true 1 tree
sized = (lit≤ tt, lit≤ tt, (lit≤ tt, lit≤ tt), ((lit≤ tt, lit≤ tt), tt))

ordered : Ordered word_kind 1 tree
unfolding letters_then_zeros
ordered = (
  (refl, refl, tt),
  (((tt, refl), ((tt, refl), ((tt, refl), ((tt, refl), tt)))), ((refl, tt), ((refl, tt), ((refl, tt), ((refl, tt), tt))))),
  (refl, refl, (refl, refl, (refl, refl, (refl, refl, tt)))),
  ((refl, refl, (refl, refl, (refl, refl, (refl, refl, tt)))), tt),
)

valid : Valid word_kind image image_entries
valid =
    record {
      levels = 1;
      tree = tree;
      free = 9 ∷ 7 ∷ 8 ∷ [];
      at_least_8_pages = lit≤ tt;
      header_agrees = refl;
      nodes_are_spelled = spelled;
      free_pages_are_spelled = (refl, (refl, (refl, tt)));
      sizes_fit = sized;
      keys_are_in_order = ordered;
      leaves_are_linked = (refl, (refl, tt));
      entries_fit = entries_keep (entries_of 1 tree) refl;
      each_page_is_reached_once = each_once 10 (reached_pages 1 tree (9 ∷ 7 ∷ 8 ∷ [])) refl;
      holds_the_entries = refl;
    }

-- pages of 512 bytes
abbrev Whole : Page → Type 0
Whole (Live bytes) = (length bytes ≡ 512) × Bytes bytes
Whole Gone = Unit {0}

live_whole : (page : Page) (bytes : List ℕ) → page ≡ Live bytes → Whole page → (length bytes ≡ 512) × Bytes bytes
live_whole page bytes e whole = subst Whole e whole

there_whole : (pages : Pages) (n : ℕ) → AllByRecursion Whole pages → Whole (get_or pages n Gone)
there_whole [] n all = tt
there_whole (page ∷ pages) zero all = all.0
there_whole (page ∷ pages) (suc n) all = there_whole pages n all.1

whole : {V : Type 0} (images : V → List ℕ) (Fits : V → Type 0) (v : V) → Spells images Fits (images v) v → Whole (Live (images v))
whole images Fits v s = (s.has_512_bytes, s.holds_bytes)

whole_header : (v : HeaderPage) → passed (header_tests v) ≡ true → Whole (Live (header_image v))
whole_header v e = whole header_image HeaderFits v (header_spells (header_image v) v (header_passes v e) refl)

whole_inner : (v : InnerPage) → passed (inner_tests v) ≡ true → Whole (Live (inner_image v))
whole_inner v e = whole inner_image InnerFits v (inner_spells (inner_image v) v (inner_passes v e) refl)

whole_leaf : (v : LeafPage) → passed (leaf_tests v) ≡ true → Whole (Live (leaf_image v))
whole_leaf v e = whole leaf_image LeafFits v (leaf_spells (leaf_image v) v (leaf_passes v e) refl)

whole_record : (v : RecordPage) → passed (record_tests v) ≡ true → Whole (Live (record_image v))
whole_record v e = whole record_image RecordFits v (record_spells (record_image v) v (record_passes v e) refl)

whole_free : (v : FreePage) → link_fits v.next ≡ true → Whole (Live (free_image v))
whole_free v e = whole free_image FreeFits v (free_spells (free_image v) v (free_passes v e) refl)

all_whole : AllByRecursion Whole image
all_whole =
    let p0 = whole_header (made_header 1 2 4 9 3 8 10) refl in
    let p1 = whole_record (made_record 0 (12 ∷ 8 ∷ [])) refl in
    let p2 = whole_leaf (made_leaf 6 (bank ∷ cash ∷ fees ∷ hire ∷ [])) refl in
    let p3 = whole_record (made_record 0 (5 ∷ 2 ∷ [])) refl in
    let p4 = whole_inner (made_inner 2 (row (word "lease") 6 ∷ [])) refl in
    let p5 = whole_record (made_record 3 (28 ∷ 25 ∷ 20 ∷ [])) refl in
    let p6 = whole_leaf (made_leaf 0 (loan ∷ rent ∷ tax ∷ wages ∷ [])) refl in
    let p7 = whole_free (made_free 8) refl in
    let p8 = whole_free (made_free 0) refl in
    let p9 = whole_free (made_free 7) refl in
    (p0, (p1, (p2, (p3, (p4, (p5, (p6, (p7, (p8, (p9, tt))))))))))

sound : Sound (record { pages = image })
sound = let w : (n : ℕ) → Whole (get_or image n Gone) = λ n. there_whole image n all_whole in record {
  has_at_most_65536_pages = lit≤ tt;
  pages_have_512_bytes = λ n bytes e. (live_whole (get_or image n Gone) bytes e (w n)).0;
  pages_hold_bytes = λ n bytes e. (live_whole (get_or image n Gone) bytes e (w n)).1;
}

pub image_is_valid : TheImageIsValid
unfolding valid
image_is_valid = record { a_store_can_hold_it = sound; valid = valid; height_is_2 = refl; has_3_nodes = refl; has_3_record_pages = refl; free_pages_in_order = refl; holds_no_other_entries = λ entries other. entries_are_unique word_kind image entries image_entries (lit≤ tt) other valid }
