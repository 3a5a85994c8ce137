-- Each changed image, and the rule that it breaks. Assumes nothing.
use Rattle.std.proofs.Common.{◌≡◌, ℕ, suc, ◌^◌, ◌<◌, ◌≤◌, true, false, leb, List, [], ◌∷◌, get_or, take, set, sym, refl, ap, ◌∙◌, arith, lit≤, get_or-set_same}
use Rattle.std.proofs.lemmas.List.{length-set}
use Rattle.std.proofs.lemmas.Bool.{eqb-false, false≢true, true≢false, leb-false}
use Rattle.page_store.specs.Meanings.{Live, Gone}
use Rattle.numbers.specs.BigEndian.{number_at}
use Rattle.keys.specs.BuiltIn.{word_kind}
use Rattle.keys.specs.Words.{letters_then_zeros}
use Rattle.nodes.specs.Layout.{padded, HeaderPage, InnerPage, LeafPage, LeafEntry, RecordPage, FreePage, HeaderFits, InnerFits, LeafFits, RecordFits, FreeFits, header_image, inner_image, leaf_image, record_image, free_image}
use Rattle.nodes.specs.Readings.{header_in, inner_in, row_in, leaf_in, entry_in, record_in, free_in}
use Rattle.nodes.proofs.Spelling.{made_header, made_inner, made_leaf, made_record, header_back, inner_back, leaf_back, record_back, free_back}
use Rattle.tree.specs.Trees.{RecordAt, Tree}
use Rattle.tree.specs.Valid.{Pages, Holds}
use Rattle.tree.proofs.Fitting.{inner_page, leaf_page, header_page, header_fits}
use Rattle.sample_tree.specs.Image.{word, header, inner, leaf, chain, unused, row, short, long, bank, cash, fees, hire, loan, rent, tax, wages, left_leaf, root, image}
use Rattle.sample_tree.specs.Changed.{NotValid, with, changed, root_of_one_leaf, shared_chain, ChangedImagesAreNotValid}
use Rattle.sample_tree.proofs.Pictured.{record_at, entry_at, tree_with, bank_at, cash_at, fees_at, hire_at, loan_at, tax_at, wages_at, left, right}
use Rattle.sample_tree.proofs.Testing.{passed, leaf_tests}
use Rattle.sample_tree.proofs.Refuting.{Headed, headed, code_is, height_is, pages_are, shown, sizes_broken, order_broken, links_broken, entries_broken, keys_miscounted, reach_broken, not_read_back, gone_not_live, header_not_record, header_not_free, record_not_free, inner_not_leaf, free_from, free_ends, free_there, free_next, ChainFrom, chain_ends, chain_there, chain_next, chain_too_long, root_is_a_leaf, root_is_inner, child_is, chain_in, no_page_lost}

too_large : (m n : ℕ) → leb m n ≡ false → m ≤ n → ⊥
too_large m n e h = let k = leb-false m n e in omega arith

abbrev image_header : HeaderPage
image_header = made_header 1 2 4 9 3 8 10

abbrev image_root : InnerPage
image_root = made_inner 2 (row (word "lease") 6 ∷ [])

abbrev image_left : LeafPage
image_left = made_leaf 6 (bank ∷ cash ∷ fees ∷ hire ∷ [])

abbrev image_tree : Tree 1
image_tree = tree_with (word "lease") 6 left 0 right

-- a root over two leaves of four entries, of which the first has two records and the sixth one
two_leaves : {A B D E F G : Type 0} → A → B → D → E → F → G → A × (B × ((D × (E × Unit {0})) × (Unit {0} × (Unit {0} × (Unit {0} × Unit {0}))))) × ((F × (Unit {0} × ((G × Unit {0}) × (Unit {0} × (Unit {0} × Unit {0}))))) × Unit {0})
two_leaves a b d e f g = (a, (b, ((d, (e, tt)), (tt, (tt, (tt, tt))))), ((f, (tt, ((g, tt), (tt, (tt, tt))))), tt))

-- header
other_code : NotValid (changed 0 (header 2 2 4 9 3 8 10))
other_code entries valid = eqb-false 1 2 refl (code_is (headed (made_header 2 2 4 9 3 8 10) refl refl) valid)

height_0 : NotValid (changed 0 (header 1 0 4 9 3 8 10))
height_0 entries valid = let e = height_is (headed (made_header 1 0 4 9 3 8 10) refl refl) valid in omega arith

height_1 : NotValid (changed 0 (header 1 1 4 9 3 8 10))
height_1 entries valid = root_is_a_leaf (headed (made_header 1 1 4 9 3 8 10) refl refl) valid refl (λ v there. inner_not_leaf image_root v there)

height_3 : NotValid (changed 0 (header 1 3 4 9 3 8 10))
height_3 entries valid =
    child_is (headed (made_header 1 3 4 9 3 8 10) refl refl) valid 1 image_root refl refl refl
    (λ child at fit spelled. inner_not_leaf (inner_page 0 child) image_left (sym spelled.0 ∙ ap (λ (n : ℕ). get_or (changed 0 (header 1 3 4 9 3 8 10)) n Gone) at))

root_at_a_leaf : NotValid (changed 0 (header 1 2 2 9 3 8 10))
root_at_a_leaf entries valid = root_is_inner (headed (made_header 1 2 2 9 3 8 10) refl refl) valid 0 refl (λ v fits there. inner_not_leaf v image_left (sym there))

no_first_free : NotValid (changed 0 (header 1 2 4 0 3 8 10))
no_first_free entries valid = free_there (free_from (headed (made_header 1 2 4 0 3 8 10) refl refl) valid) (λ v fits there. header_not_free (made_header 1 2 4 0 3 8 10) v there)

free_miscounted : NotValid (changed 0 (header 1 2 4 9 4 8 10))
free_miscounted = reach_broken (shown (made_header 1 2 4 9 4 8 10) image_tree refl refl (two_leaves refl refl refl refl refl refl)) (eqb-false 11 10 refl)

key_uncounted : NotValid (changed 0 (header 1 2 4 9 3 7 10))
key_uncounted = keys_miscounted (shown (made_header 1 2 4 9 3 7 10) image_tree refl refl (two_leaves refl refl refl refl refl refl)) (eqb-false 8 7 refl)

page_miscounted : NotValid (changed 0 (header 1 2 4 9 3 8 11))
page_miscounted entries valid = eqb-false 10 11 refl (pages_are (headed (made_header 1 2 4 9 3 8 11) refl refl) valid)

-- shape
leaf_of_3 : NotValid (with (changed 0 (header 1 2 4 9 3 7 10)) 2 (leaf 6 (bank ∷ cash ∷ fees ∷ [])))
leaf_of_3 =
    sizes_broken (shown (made_header 1 2 4 9 3 7 10) (tree_with (word "lease") 6 (bank_at ∷ cash_at ∷ fees_at ∷ []) 0 right) refl refl (refl, (refl, ((refl, (refl, tt)), (tt, (tt, tt)))), ((refl, (tt, ((refl, tt), (tt, (tt, tt))))), tt)))
    (λ sized. too_large 4 3 refl sized.2.0)

root_of_1 : NotValid root_of_one_leaf
root_of_1 =
    sizes_broken (shown (made_header 1 2 4 9 5 4 10) (record { page = 4; first = record { page = 2; next = 0; entries = left }; rest = [] }) refl refl (refl, (refl, ((refl, (refl, tt)), (tt, (tt, (tt, tt))))), tt))
    (λ sized. too_large 2 1 refl sized.0)

left_unlinked : NotValid (changed 2 (leaf 0 (bank ∷ cash ∷ fees ∷ hire ∷ [])))
left_unlinked =
    links_broken (shown image_header (tree_with (word "lease") 0 left 0 right) refl refl (two_leaves refl refl refl refl refl refl))
    (λ linked. eqb-false 0 6 refl linked.0)

right_linked : NotValid (changed 6 (leaf 2 (loan ∷ rent ∷ tax ∷ wages ∷ [])))
right_linked =
    links_broken (shown image_header (tree_with (word "lease") 6 left 2 right) refl refl (two_leaves refl refl refl refl refl refl))
    (λ linked. eqb-false 2 0 refl linked.1.0)

-- keys
key_unlawful : NotValid (changed 2 (leaf 6 (bank ∷ short (word "ca-h") (30 ∷ 24 ∷ 11 ∷ []) ∷ fees ∷ hire ∷ [])))
unfolding letters_then_zeros
key_unlawful =
    order_broken (shown image_header (tree_with (word "lease") 6 (bank_at ∷ entry_at (word "ca-h") (30 ∷ 24 ∷ 11 ∷ []) [] ∷ fees_at ∷ hire_at ∷ []) 0 right) refl refl (two_leaves refl refl refl refl refl refl))
    (λ ordered. false≢true ordered.2.2.0)

keys_fall : NotValid (changed 2 (leaf 6 (bank ∷ fees ∷ cash ∷ hire ∷ [])))
keys_fall =
    order_broken (shown image_header (tree_with (word "lease") 6 (bank_at ∷ fees_at ∷ cash_at ∷ hire_at ∷ []) 0 right) refl refl (two_leaves refl refl refl refl refl refl))
    (λ ordered. false≢true ordered.2.2.2.1)

key_twice : NotValid (changed 2 (leaf 6 (bank ∷ cash ∷ cash ∷ hire ∷ [])))
key_twice =
    order_broken (shown image_header (tree_with (word "lease") 6 (bank_at ∷ cash_at ∷ cash_at ∷ hire_at ∷ []) 0 right) refl refl (two_leaves refl refl refl refl refl refl))
    (λ ordered. false≢true ordered.2.2.2.1)

separator_unlawful : NotValid (changed 4 (inner 2 (row (word "le-se") 6 ∷ [])))
unfolding letters_then_zeros
separator_unlawful =
    order_broken (shown image_header (tree_with (word "le-se") 6 left 0 right) refl refl (two_leaves refl refl refl refl refl refl))
    (λ ordered. false≢true ordered.0.0)

separator_low : NotValid (changed 4 (inner 2 (row (word "hire") 6 ∷ [])))
separator_low =
    order_broken (shown image_header (tree_with (word "hire") 6 left 0 right) refl refl (two_leaves refl refl refl refl refl refl))
    (λ ordered. false≢true ordered.1.0.1.1.1.0.1)

separator_high : NotValid (changed 4 (inner 2 (row (word "loans") 6 ∷ [])))
separator_high =
    order_broken (shown image_header (tree_with (word "loans") 6 left 0 right) refl refl (two_leaves refl refl refl refl refl refl))
    (λ ordered. true≢false ordered.1.1.0.0)

-- postings
posting_0 : NotValid (changed 2 (leaf 6 (bank ∷ cash ∷ short (word "fees") (0 ∷ []) ∷ hire ∷ [])))
posting_0 =
    entries_broken (shown image_header (tree_with (word "lease") 6 (bank_at ∷ cash_at ∷ entry_at (word "fees") (0 ∷ []) [] ∷ hire_at ∷ []) 0 right) refl refl (two_leaves refl refl refl refl refl refl))
    (λ fit. too_large 1 0 refl fit.1.1.0.are_posting_numbers.0.0)

posting_too_large : NotValid (changed 3 (chain 0 (5 ∷ 2 ^ 63 ∷ [])))
posting_too_large =
    entries_broken (shown image_header (tree_with (word "lease") 6 (entry_at (word "bank") (31 ∷ []) (record_at 5 (28 ∷ 25 ∷ 20 ∷ []) ∷ record_at 3 (5 ∷ 2 ^ 63 ∷ []) ∷ []) ∷ cash_at ∷ fees_at ∷ hire_at ∷ []) 0 right) refl refl (two_leaves refl refl refl refl refl refl))
    (λ fit. too_large (suc (2 ^ 63)) (2 ^ 63) refl fit.0.are_posting_numbers.1.1.1.1.1.0.1)

twice_inline : NotValid (changed 2 (leaf 6 (bank ∷ cash ∷ fees ∷ short (word "hire") (19 ∷ 19 ∷ []) ∷ [])))
twice_inline =
    entries_broken (shown image_header (tree_with (word "lease") 6 (bank_at ∷ cash_at ∷ fees_at ∷ entry_at (word "hire") (19 ∷ 19 ∷ []) [] ∷ []) 0 right) refl refl (two_leaves refl refl refl refl refl refl))
    (λ fit. too_large 2 1 refl (fit.1.1.1.0.no_number_twice 19))

inline_and_chained : NotValid (changed 2 (leaf 6 (long (word "bank") (28 ∷ []) 5 5 ∷ cash ∷ fees ∷ hire ∷ [])))
inline_and_chained =
    entries_broken (shown image_header (tree_with (word "lease") 6 (entry_at (word "bank") (28 ∷ []) (record_at 5 (28 ∷ 25 ∷ 20 ∷ []) ∷ record_at 3 (5 ∷ 2 ∷ []) ∷ []) ∷ cash_at ∷ fees_at ∷ hire_at ∷ []) 0 right) refl refl (two_leaves refl refl refl refl refl refl))
    (λ fit. too_large 2 1 refl (fit.0.no_number_twice 28))

twice_chained : NotValid (changed 3 (chain 0 (5 ∷ 28 ∷ [])))
twice_chained =
    entries_broken (shown image_header (tree_with (word "lease") 6 (entry_at (word "bank") (31 ∷ []) (record_at 5 (28 ∷ 25 ∷ 20 ∷ []) ∷ record_at 3 (5 ∷ 28 ∷ []) ∷ []) ∷ cash_at ∷ fees_at ∷ hire_at ∷ []) 0 right) refl refl (two_leaves refl refl refl refl refl refl))
    (λ fit. too_large 2 1 refl (fit.0.no_number_twice 28))

entry_empty : NotValid (changed 2 (leaf 6 (bank ∷ cash ∷ short (word "fees") [] ∷ hire ∷ [])))
entry_empty =
    entries_broken (shown image_header (tree_with (word "lease") 6 (bank_at ∷ cash_at ∷ entry_at (word "fees") [] [] ∷ hire_at ∷ []) 0 right) refl refl (two_leaves refl refl refl refl refl refl))
    (λ fit. too_large 1 0 refl fit.1.1.0.at_least_one_posting)

-- chains
module _ {pages : Pages} (e : LeafEntry) (small : passed (leaf_tests (made_leaf 6 (e ∷ cash ∷ fees ∷ hire ∷ []))) ≡ true) (top : Headed pages image_header) (inner' : Holds pages 4 root) (first : Holds pages 2 (leaf 6 (e ∷ cash ∷ fees ∷ hire ∷ []))) where
  chain_broken : ((records : List RecordAt) → ChainFrom pages e.head e.chained records → ⊥) → NotValid pages
  chain_broken fails entries valid =
      child_is top valid 0 image_root refl refl inner'
      (λ child at fit spelled. chain_in child (made_leaf 6 (e ∷ cash ∷ fees ∷ hire ∷ [])) e (cash ∷ fees ∷ hire ∷ []) 2 at fit spelled small first refl fails)

chain_too_short : NotValid (changed 2 (leaf 6 (long (word "bank") (31 ∷ []) 5 6 ∷ cash ∷ fees ∷ hire ∷ [])))
chain_too_short =
    chain_broken (long (word "bank") (31 ∷ []) 5 6) refl (headed image_header refl refl) refl refl
    (λ records f. chain_next (made_record 3 (28 ∷ 25 ∷ 20 ∷ [])) 3 f refl refl refl
    (λ xs g. chain_next (made_record 0 (5 ∷ 2 ∷ [])) 1 g refl refl refl
    (λ ys k. chain_there k (λ v fits there. header_not_record image_header v there))))

chain_longer : NotValid (changed 2 (leaf 6 (long (word "bank") (31 ∷ []) 5 4 ∷ cash ∷ fees ∷ hire ∷ [])))
chain_longer =
    chain_broken (long (word "bank") (31 ∷ []) 5 4) refl (headed image_header refl refl) refl refl
    (λ records f. chain_next (made_record 3 (28 ∷ 25 ∷ 20 ∷ [])) 1 f refl refl refl
    (λ xs g. chain_too_long (made_record 0 (5 ∷ 2 ∷ [])) g refl refl refl))

head_alone : NotValid (changed 2 (leaf 6 (long (word "bank") (31 ∷ []) 5 0 ∷ cash ∷ fees ∷ hire ∷ [])))
head_alone = chain_broken (long (word "bank") (31 ∷ []) 5 0) refl (headed image_header refl refl) refl refl (λ records f. eqb-false 0 5 refl (chain_ends f))

count_alone : NotValid (changed 2 (leaf 6 (long (word "bank") (31 ∷ []) 0 5 ∷ cash ∷ fees ∷ hire ∷ [])))
count_alone =
    chain_broken (long (word "bank") (31 ∷ []) 0 5) refl (headed image_header refl refl) refl refl (λ records f. chain_there f (λ v fits there. header_not_record image_header v there))

chain_cut : NotValid (changed 5 (chain 0 (28 ∷ 25 ∷ 20 ∷ [])))
chain_cut =
    chain_broken bank refl (headed image_header refl refl) refl refl
    (λ records f. chain_next (made_record 0 (28 ∷ 25 ∷ 20 ∷ [])) 2 f refl refl refl
    (λ xs g. chain_there g (λ v fits there. header_not_record image_header v there)))

record_empty : NotValid (with (changed 2 (leaf 6 (long (word "bank") (31 ∷ []) 5 3 ∷ cash ∷ fees ∷ hire ∷ []))) 3 (chain 0 []))
record_empty =
    chain_broken (long (word "bank") (31 ∷ []) 5 3) refl (headed image_header refl refl) refl refl
    (λ records f. chain_next (made_record 3 (28 ∷ 25 ∷ 20 ∷ [])) 0 f refl refl refl (λ xs g. eqb-false 0 3 refl (chain_ends g)))

-- reach
record_unreached : NotValid (with (changed 2 (leaf 6 (long (word "bank") (31 ∷ []) 5 3 ∷ cash ∷ fees ∷ hire ∷ []))) 5 (chain 0 (28 ∷ 25 ∷ 20 ∷ [])))
record_unreached =
    reach_broken (shown image_header (tree_with (word "lease") 6 (entry_at (word "bank") (31 ∷ []) (record_at 5 (28 ∷ 25 ∷ 20 ∷ []) ∷ []) ∷ cash_at ∷ fees_at ∷ hire_at ∷ []) 0 right) refl refl (refl, (refl, ((refl, tt), (tt, (tt, (tt, tt))))), ((refl, (tt, ((refl, tt), (tt, (tt, tt))))), tt)))
    (eqb-false 9 10 refl)

abbrev sharing_tree : Tree 1
sharing_tree = tree_with (word "lease") 6 left 0 (loan_at ∷ entry_at (word "rent") [] (record_at 5 (28 ∷ 25 ∷ 20 ∷ []) ∷ record_at 3 (5 ∷ 2 ∷ []) ∷ []) ∷ tax_at ∷ wages_at ∷ [])

record_shared : NotValid (changed 6 (leaf 0 (loan ∷ long (word "rent") [] 5 5 ∷ tax ∷ wages ∷ [])))
record_shared =
    reach_broken (shown image_header sharing_tree refl refl (refl, (refl, ((refl, (refl, tt)), (tt, (tt, (tt, tt))))), ((refl, (tt, ((refl, (refl, tt)), (tt, (tt, tt))))), tt))) (eqb-false 11 10 refl)

record_doubled : NotValid shared_chain
record_doubled =
    reach_broken (shown (made_header 1 2 4 9 4 8 10) sharing_tree refl refl (refl, (refl, ((refl, (refl, tt)), (tt, (tt, (tt, tt))))), ((refl, (tt, ((refl, (refl, tt)), (tt, (tt, tt))))), tt))) (eqb-false 12 10 refl)

free_page_unreached : NotValid (with (changed 0 (header 1 2 4 9 2 8 10)) 9 (unused 8))
free_page_unreached = reach_broken (shown (made_header 1 2 4 9 2 8 10) image_tree refl refl (two_leaves refl refl refl refl refl refl)) (eqb-false 9 10 refl)

-- free list
free_list_cut : NotValid (changed 9 (unused 8))
free_list_cut entries valid =
    free_next 8 (free_from (headed image_header refl refl) valid) refl refl
    (λ xs f. free_next 0 f refl refl (λ ys g. free_there g (λ v fits there. header_not_free image_header v there)))

free_list_round : NotValid (changed 8 (unused 9))
free_list_round entries valid =
    free_next 7 (free_from (headed image_header refl refl) valid) refl refl
    (λ xs f. free_next 8 f refl refl (λ ys g. free_next 9 g refl refl (λ zs k. eqb-false 0 9 refl (free_ends k))))

record_in_free_list : NotValid (with (changed 0 (header 1 2 4 9 4 8 10)) 8 (unused 1))
record_in_free_list entries valid =
    free_next 7 (free_from (headed (made_header 1 2 4 9 4 8 10) refl refl) valid) refl refl
    (λ xs f. free_next 8 f refl refl (λ ys g. free_next 1 g refl refl (λ zs k. free_there k (λ v fits there. record_not_free (made_record 0 (12 ∷ 8 ∷ [])) v there))))

link_past_the_end : NotValid (with (changed 0 (header 1 2 4 9 4 8 10)) 8 (unused 10))
link_past_the_end entries valid =
    free_next 7 (free_from (headed (made_header 1 2 4 9 4 8 10) refl refl) valid) refl refl
    (λ xs f. free_next 8 f refl refl (λ ys g. free_next 10 g refl refl (λ zs k. free_there k (λ v fits there. gone_not_live (free_image v) there))))

lost : (page : ℕ) → page < 10 → NotValid (set image page Gone)
lost page within entries valid =
    no_page_lost word_kind (set image page Gone) entries valid page (omega (arith, length-set image page Gone)) (get_or-set_same image page Gone Gone within)

second_header : NotValid (changed 8 (header 1 2 4 9 3 8 10))
second_header entries valid =
    free_next 7 (free_from (headed image_header refl refl) valid) refl refl
    (λ xs f. free_next 8 f refl refl (λ ys g. free_there g (λ v fits there. header_not_free image_header v there)))

-- pages
seven_pages : NotValid (take 7 (changed 0 (header 1 2 4 0 0 8 7)))
seven_pages entries valid = too_large 8 7 refl valid.at_least_8_pages

-- bytes that are no image
no_header : (v : HeaderPage) → HeaderFits v → Live (set (header 1 2 4 9 3 8 10) 24 1) ≡ Live (header_image v) → ⊥
unfolding padded number_at header_in
no_header = not_read_back header_image HeaderFits header_in header_back 24 (set (header 1 2 4 9 3 8 10) 24 1) (eqb-false 1 0 refl)

stray_in_header : NotValid (changed 0 (set (header 1 2 4 9 3 8 10) 24 1))
stray_in_header entries valid = no_header (header_page valid) (header_fits word_kind (changed 0 (set (header 1 2 4 9 3 8 10) 24 1)) entries valid (lit≤ tt)) valid.header_agrees

no_free_page : (v : FreePage) → FreeFits v → Live (set (unused 8) 32 1) ≡ Live (free_image v) → ⊥
unfolding padded number_at free_in
no_free_page = not_read_back free_image FreeFits free_in free_back 32 (set (unused 8) 32 1) (eqb-false 1 0 refl)

stray_in_free_page : NotValid (changed 7 (set (unused 8) 32 1))
stray_in_free_page entries valid = free_next 7 (free_from (headed image_header refl refl) valid) refl refl (λ xs f. free_there f no_free_page)

no_inner_node : (v : InnerPage) → InnerFits v → Live (set root 36 97) ≡ Live (inner_image v) → ⊥
unfolding padded number_at inner_in row_in
no_inner_node = not_read_back inner_image InnerFits inner_in inner_back 36 (set root 36 97) (eqb-false 97 0 refl)

key_in_row_0 : NotValid (changed 4 (set root 36 97))
key_in_row_0 entries valid = root_is_inner (headed image_header refl refl) valid 0 refl no_inner_node

no_17_children : (v : InnerPage) → InnerFits v → Live (set root 3 17) ≡ Live (inner_image v) → ⊥
unfolding padded number_at inner_in row_in
no_17_children = not_read_back inner_image InnerFits inner_in inner_back 3 (set root 3 17) (eqb-false 17 16 refl)

counts_17_children : NotValid (changed 4 (set root 3 17))
counts_17_children entries valid = root_is_inner (headed image_header refl refl) valid 0 refl no_17_children

-- a left leaf that is no image
leaf_broken : {pages : Pages} (bytes : List ℕ) → Headed pages image_header → Holds pages 4 root → Holds pages 2 bytes → ((v : LeafPage) → LeafFits v → Live bytes ≡ Live (leaf_image v) → ⊥) → NotValid pages
leaf_broken {pages = pages} bytes top node there none entries valid =
    child_is top valid 0 image_root refl refl node
    (λ child at fit spelled. none (leaf_page child) fit.0 (sym there ∙ ap (λ (n : ℕ). get_or pages n Gone) (sym at) ∙ spelled.0))

no_leaf : (v : LeafPage) → LeafFits v → Live (set left_leaf 511 1) ≡ Live (leaf_image v) → ⊥
unfolding padded number_at leaf_in entry_in
no_leaf = not_read_back leaf_image LeafFits leaf_in leaf_back 511 (set left_leaf 511 1) (eqb-false 1 0 refl)

stray_in_leaf : NotValid (changed 2 (set left_leaf 511 1))
stray_in_leaf = leaf_broken (set left_leaf 511 1) (headed image_header refl refl) refl refl no_leaf

no_9_entries : (v : LeafPage) → LeafFits v → Live (set left_leaf 3 9) ≡ Live (leaf_image v) → ⊥
unfolding padded number_at leaf_in entry_in
no_9_entries = not_read_back leaf_image LeafFits leaf_in leaf_back 3 (set left_leaf 3 9) (eqb-false 9 8 refl)

counts_9_entries : NotValid (changed 2 (set left_leaf 3 9))
counts_9_entries = leaf_broken (set left_leaf 3 9) (headed image_header refl refl) refl refl no_9_entries

no_4_inline : (v : LeafPage) → LeafFits v → Live (set left_leaf 119 4) ≡ Live (leaf_image v) → ⊥
unfolding padded number_at leaf_in entry_in
no_4_inline = not_read_back leaf_image LeafFits leaf_in leaf_back 119 (set left_leaf 119 4) (eqb-false 4 3 refl)

counts_4_inline : NotValid (changed 2 (set left_leaf 119 4))
counts_4_inline = leaf_broken (set left_leaf 119 4) (headed image_header refl refl) refl refl no_4_inline

no_61_postings : (v : RecordPage) → RecordFits v → Live (set (chain 0 (5 ∷ 2 ∷ [])) 3 61) ≡ Live (record_image v) → ⊥
unfolding padded number_at record_in
no_61_postings = not_read_back record_image RecordFits record_in record_back 3 (set (chain 0 (5 ∷ 2 ∷ [])) 3 61) (eqb-false 61 60 refl)

counts_61_postings : NotValid (changed 3 (set (chain 0 (5 ∷ 2 ∷ [])) 3 61))
counts_61_postings =
    chain_broken bank refl (headed image_header refl refl) refl refl
    (λ records f. chain_next (made_record 3 (28 ∷ 25 ∷ 20 ∷ [])) 2 f refl refl refl (λ xs g. chain_there g no_61_postings))

pub changed_images_are_not_valid : ChangedImagesAreNotValid
changed_images_are_not_valid =
    record {
      at_least_8_pages = seven_pages;
      no_page_is_lost = lost;
      no_page_but_page_0_is_a_header = second_header;
      bytes_that_no_field_names_are_zero = stray_in_header;
      bytes_past_the_entries_are_zero = stray_in_leaf;
      bytes_of_a_free_page_are_zero = stray_in_free_page;
      row_0_has_no_key = key_in_row_0;
      kind_code_is_that_of_the_kind = other_code;
      height_is_not_0 = height_0;
      height_is_not_less_than_the_level_of_the_leaves = height_1;
      height_is_not_more_than_the_level_of_the_leaves = height_3;
      root_is_on_level_1 = root_at_a_leaf;
      first_free_page_is_not_0_where_pages_are_free = no_first_free;
      free_count_is_the_length_of_the_free_list = free_miscounted;
      key_count_is_the_number_of_entries = key_uncounted;
      page_count_is_that_of_the_store = page_miscounted;
      a_leaf_below_a_root_has_at_least_4_entries = leaf_of_3;
      an_inner_root_has_at_least_2_children = root_of_1;
      a_leaf_counts_at_most_8_entries = counts_9_entries;
      an_inner_node_counts_at_most_16_children = counts_17_children;
      a_leaf_is_linked_to_the_one_right_of_it = left_unlinked;
      the_rightmost_leaf_is_linked_to_none = right_linked;
      keys_are_lawful = key_unlawful;
      keys_rise = keys_fall;
      no_key_twice = key_twice;
      separators_are_lawful = separator_unlawful;
      a_separator_is_above_the_keys_left_of_it = separator_low;
      a_separator_is_not_above_a_key_right_of_it = separator_high;
      no_posting_is_0 = posting_0;
      every_posting_is_below_2_to_63 = posting_too_large;
      no_number_twice_inline = twice_inline;
      no_number_inline_and_in_the_chain = inline_and_chained;
      no_number_in_two_records = twice_chained;
      an_entry_counts_at_most_3_inline_postings = counts_4_inline;
      a_record_counts_at_most_60_postings = counts_61_postings;
      an_entry_has_a_posting = entry_empty;
      a_record_has_a_posting = record_empty;
      a_chain_has_no_fewer_postings_than_its_count = chain_too_short;
      a_chain_has_no_more_postings_than_its_count = chain_longer;
      no_head_record_without_a_count = head_alone;
      no_count_without_a_head_record = count_alone;
      a_chain_goes_on_to_its_count = chain_cut;
      each_record_page_is_reached = record_unreached;
      no_record_page_is_in_two_chains = record_shared;
      no_record_page_is_in_two_chains_where_each_page_is_reached = record_doubled;
      each_free_page_is_reached = free_page_unreached;
      the_free_list_goes_on_to_its_count = free_list_cut;
      the_free_list_has_no_cycle = free_list_round;
      no_record_page_is_in_the_free_list = record_in_free_list;
      links_name_pages_of_the_store = link_past_the_end;
    }
