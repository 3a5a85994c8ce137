-- Small changes of the image, each against the rule of the valid tree that its field names: none is a valid tree, of whatever entries.
use Rattle.std.specs.Prelude.{ℕ, ◌^◌, ◌<◌, List, [], ◌∷◌, map, take, slice_set}
use Rattle.page_store.specs.Meanings.{Live, Gone}
use Rattle.keys.specs.BuiltIn.{word_kind}
use Rattle.book.specs.Entries.{Entries}
use Rattle.tree.specs.Valid.{Pages, Valid}
use Rattle.sample_tree.specs.Image.{word, header, inner, leaf, chain, unused, row, short, long, bank, cash, fees, hire, loan, rent, tax, wages, left_leaf, root, image}

abbrev pub NotValid : Pages → Type 0
NotValid pages = (entries : Entries) → Valid word_kind pages entries → ⊥

-- pages, and the image, with other bytes on one page
abbrev pub with : Pages → (page : ℕ) → List ℕ → Pages
with pages page bytes = slice_set pages page (Live bytes)

abbrev pub changed : (page : ℕ) → List ℕ → Pages
changed page bytes = with image page bytes

-- the image without its right leaf, whose page and record page are free: the rest is in order but for the root's one child
abbrev pub root_of_one_leaf : Pages
root_of_one_leaf =
    map Live (
    header 1 2 4 9 5 4 10
    ∷ unused 0
    ∷ leaf 0 (bank ∷ cash ∷ fees ∷ hire ∷ [])
    ∷ chain 0 (5 ∷ 2 ∷ [])
    ∷ inner 2 []
    ∷ chain 3 (28 ∷ 25 ∷ 20 ∷ [])
    ∷ unused 1
    ∷ unused 8
    ∷ unused 6
    ∷ unused 7
    ∷ []
    )

-- the image with the chain of "bank" under "rent" too, whose own record page is free: each page is reached, two of them twice
abbrev pub shared_chain : Pages
shared_chain =
    map Live (
    header 1 2 4 9 4 8 10
    ∷ unused 0
    ∷ left_leaf
    ∷ chain 0 (5 ∷ 2 ∷ [])
    ∷ root
    ∷ chain 3 (28 ∷ 25 ∷ 20 ∷ [])
    ∷ leaf 0 (loan ∷ long (word "rent") [] 5 5 ∷ tax ∷ wages ∷ [])
    ∷ unused 8
    ∷ unused 1
    ∷ unused 7
    ∷ []
    )

-- The numbers of a header are its kind code, height, root page, first free page, and its counts of free pages, keys and
-- pages: those of the image are 1 2 4 9 3 8 10.
pub record ChangedImagesAreNotValid : Type 0 where
  -- pages
  pub at_least_8_pages : NotValid (take 7 (changed 0 (header 1 2 4 0 0 8 7)))
  pub no_page_is_lost : (page : ℕ) → page < 10 → NotValid (slice_set image page Gone)
  pub no_page_but_page_0_is_a_header : NotValid (changed 8 (header 1 2 4 9 3 8 10))
  pub bytes_that_no_field_names_are_zero : NotValid (changed 0 (slice_set (header 1 2 4 9 3 8 10) 24 1))
  pub bytes_past_the_entries_are_zero : NotValid (changed 2 (slice_set left_leaf 511 1))
  pub bytes_of_a_free_page_are_zero : NotValid (changed 7 (slice_set (unused 8) 32 1))
  pub row_0_has_no_key : NotValid (changed 4 (slice_set root 36 97))
  -- header
  pub kind_code_is_that_of_the_kind : NotValid (changed 0 (header 2 2 4 9 3 8 10))
  pub height_is_not_0 : NotValid (changed 0 (header 1 0 4 9 3 8 10))
  pub height_is_not_less_than_the_level_of_the_leaves : NotValid (changed 0 (header 1 1 4 9 3 8 10))
  pub height_is_not_more_than_the_level_of_the_leaves : NotValid (changed 0 (header 1 3 4 9 3 8 10))
  pub root_is_on_level_1 : NotValid (changed 0 (header 1 2 2 9 3 8 10))
  pub first_free_page_is_not_0_where_pages_are_free : NotValid (changed 0 (header 1 2 4 0 3 8 10))
  pub free_count_is_the_length_of_the_free_list : NotValid (changed 0 (header 1 2 4 9 4 8 10))
  pub key_count_is_the_number_of_entries : NotValid (changed 0 (header 1 2 4 9 3 7 10))
  pub page_count_is_that_of_the_store : NotValid (changed 0 (header 1 2 4 9 3 8 11))
  -- shape
  pub a_leaf_below_a_root_has_at_least_4_entries : NotValid (with (changed 0 (header 1 2 4 9 3 7 10)) 2 (leaf 6 (bank ∷ cash ∷ fees ∷ [])))
  pub an_inner_root_has_at_least_2_children : NotValid root_of_one_leaf
  pub a_leaf_counts_at_most_8_entries : NotValid (changed 2 (slice_set left_leaf 3 9))
  pub an_inner_node_counts_at_most_16_children : NotValid (changed 4 (slice_set root 3 17))
  pub a_leaf_is_linked_to_the_one_right_of_it : NotValid (changed 2 (leaf 0 (bank ∷ cash ∷ fees ∷ hire ∷ [])))
  pub the_rightmost_leaf_is_linked_to_none : NotValid (changed 6 (leaf 2 (loan ∷ rent ∷ tax ∷ wages ∷ [])))
  -- keys
  pub keys_are_lawful : NotValid (changed 2 (leaf 6 (bank ∷ short (word "ca-h") (30 ∷ 24 ∷ 11 ∷ []) ∷ fees ∷ hire ∷ [])))
  pub keys_rise : NotValid (changed 2 (leaf 6 (bank ∷ fees ∷ cash ∷ hire ∷ [])))
  pub no_key_twice : NotValid (changed 2 (leaf 6 (bank ∷ cash ∷ cash ∷ hire ∷ [])))
  pub separators_are_lawful : NotValid (changed 4 (inner 2 (row (word "le-se") 6 ∷ [])))
  pub a_separator_is_above_the_keys_left_of_it : NotValid (changed 4 (inner 2 (row (word "hire") 6 ∷ [])))
  pub a_separator_is_not_above_a_key_right_of_it : NotValid (changed 4 (inner 2 (row (word "loans") 6 ∷ [])))
  -- postings
  pub no_posting_is_0 : NotValid (changed 2 (leaf 6 (bank ∷ cash ∷ short (word "fees") (0 ∷ []) ∷ hire ∷ [])))
  pub every_posting_is_below_2_to_63 : NotValid (changed 3 (chain 0 (5 ∷ 2 ^ 63 ∷ [])))
  pub no_number_twice_inline : NotValid (changed 2 (leaf 6 (bank ∷ cash ∷ fees ∷ short (word "hire") (19 ∷ 19 ∷ []) ∷ [])))
  pub no_number_inline_and_in_the_chain : NotValid (changed 2 (leaf 6 (long (word "bank") (28 ∷ []) 5 5 ∷ cash ∷ fees ∷ hire ∷ [])))
  pub no_number_in_two_records : NotValid (changed 3 (chain 0 (5 ∷ 28 ∷ [])))
  pub an_entry_counts_at_most_3_inline_postings : NotValid (changed 2 (slice_set left_leaf 119 4))
  pub a_record_counts_at_most_60_postings : NotValid (changed 3 (slice_set (chain 0 (5 ∷ 2 ∷ [])) 3 61))
  pub an_entry_has_a_posting : NotValid (changed 2 (leaf 6 (bank ∷ cash ∷ short (word "fees") [] ∷ hire ∷ [])))
  pub a_record_has_a_posting : NotValid (with (changed 2 (leaf 6 (long (word "bank") (31 ∷ []) 5 3 ∷ cash ∷ fees ∷ hire ∷ []))) 3 (chain 0 []))
  pub a_chain_has_no_fewer_postings_than_its_count : NotValid (changed 2 (leaf 6 (long (word "bank") (31 ∷ []) 5 6 ∷ cash ∷ fees ∷ hire ∷ [])))
  pub a_chain_has_no_more_postings_than_its_count : NotValid (changed 2 (leaf 6 (long (word "bank") (31 ∷ []) 5 4 ∷ cash ∷ fees ∷ hire ∷ [])))
  pub no_head_record_without_a_count : NotValid (changed 2 (leaf 6 (long (word "bank") (31 ∷ []) 5 0 ∷ cash ∷ fees ∷ hire ∷ [])))
  pub no_count_without_a_head_record : NotValid (changed 2 (leaf 6 (long (word "bank") (31 ∷ []) 0 5 ∷ cash ∷ fees ∷ hire ∷ [])))
  pub a_chain_goes_on_to_its_count : NotValid (changed 5 (chain 0 (28 ∷ 25 ∷ 20 ∷ [])))
  -- reach
  pub each_record_page_is_reached : NotValid (with (changed 2 (leaf 6 (long (word "bank") (31 ∷ []) 5 3 ∷ cash ∷ fees ∷ hire ∷ []))) 5 (chain 0 (28 ∷ 25 ∷ 20 ∷ [])))
  pub no_record_page_is_in_two_chains : NotValid (changed 6 (leaf 0 (loan ∷ long (word "rent") [] 5 5 ∷ tax ∷ wages ∷ [])))
  pub no_record_page_is_in_two_chains_where_each_page_is_reached : NotValid shared_chain
  pub each_free_page_is_reached : NotValid (with (changed 0 (header 1 2 4 9 2 8 10)) 9 (unused 8))
  pub the_free_list_goes_on_to_its_count : NotValid (changed 9 (unused 8))
  pub the_free_list_has_no_cycle : NotValid (changed 8 (unused 9))
  pub no_record_page_is_in_the_free_list : NotValid (with (changed 0 (header 1 2 4 9 4 8 10)) 8 (unused 1))
  pub links_name_pages_of_the_store : NotValid (with (changed 0 (header 1 2 4 9 4 8 10)) 8 (unused 10))
