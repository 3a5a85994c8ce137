-- Pages laid out as an empty tree are a valid tree. Assumes nothing.
use Rattle.std.proofs.Common.{◌≡◌, ℕ, ◌+◌, ◌-◌, ◌<◌, ◌≤◌, cond, eqb, ltb, List, [], length, set, sym, refl, ap, ◌∙◌, arith}
use Rattle.std.proofs.lemmas.List.FromFn.{length-range_with_len}
use Rattle.std.proofs.lemmas.Bool.Decides.{nat_tests}
use Rattle.refusals.specs.Refusals.{Answer}
use Rattle.page_store.specs.Meanings.{Live, Meaning, count_of, page_at, with_page, done, write_answer, after_write}
use Rattle.page_store.proofs.Laws.{count_with, page_with, page_beside, write_answers, wrote_any}
use Rattle.keys.specs.Kinds.{Kind}
use Rattle.nodes.specs.Layout.{header_image, HeaderFits, leaf_image, LeafFits}
use Rattle.nodes.specs.Codec.{Spells}
use Rattle.book.specs.Books.{count}
use Rattle.tree.specs.Valid.{Pages, Holds, next_free, SpellFree, Valid}
use Rattle.making.specs.EmptyTrees.{free_pages, empty_header, empty_leaf}
use Rattle.making.proofs.FreeLists.{spelled_beside, counted}

-- the header, the root and the free pages are all pages, each of them once
reached_once : (many page : ℕ) → 8 ≤ many → cond (eqb page 0) 1 0 + (cond (eqb page 1) 1 0 + count page (free_pages many)) ≡ cond (ltb page many) 1 0
reached_once many page h =
    let all : 2 + (many - 2) ≡ many = omega arith in
    let once = counted page 2 (many - 2) ∙ ap (λ n. cond (ltb page n) 1 0) all in
    grind (arith, nat_tests)

empty_tree : (kind : Kind) (pages : Pages) (many : ℕ) → length pages ≡ many → 8 ≤ many → Holds pages 0 (header_image (empty_header kind.code (next_free (free_pages many)) many)) → Holds pages 1 (leaf_image empty_leaf) → SpellFree pages (free_pages many)
    → Valid kind pages []
empty_tree kind pages many e h header root free =
    record {
      levels = 0;
      tree = record { page = 1; next = 0; entries = [] };
      free = free_pages many;
      at_least_8_pages = rw e h;
      header_agrees = rw (length-range_with_len 2 (many - 2), e) header;
      nodes_are_spelled = (root, tt);
      free_pages_are_spelled = free;
      sizes_fit = (omega arith, omega arith);
      keys_are_in_order = tt;
      leaves_are_linked = (refl, tt);
      entries_fit = tt;
      each_page_is_reached_once = λ page. rw e (reached_once many page h);
      holds_the_entries = refl;
    }

-- what is known once the header, too, is written
pub record LaidOut (code many : ℕ) (answer : Answer Unit) (headed : Meaning) : Type 0 where
  pub is_accepted : answer ≡ done
  pub keeps_the_count : count_of headed ≡ many
  pub is_a_tree_of_no_entries : (kind : Kind) → kind.code ≡ code → Valid kind headed.pages []

-- the root and then the header, written where the free list stands
module _
    (listed rooted headed : Meaning) (code first many : ℕ) (root header : List ℕ)
    (Has_All : count_of listed ≡ many) (enough : 8 ≤ many) (starts : first ≡ next_free (free_pages many)) (free : SpellFree listed.pages (free_pages many))
    (is_root : Spells leaf_image LeafFits root empty_leaf) (writes_root : rooted ≡ after_write listed 1 root)
    (is_header : Spells header_image HeaderFits header (empty_header code first many)) (writes_header : headed ≡ after_write rooted 0 header)
  where
    with_root : rooted ≡ with_page listed 1 root
    with_root = wrote_any listed rooted 1 root is_root.has_512_bytes writes_root

    with_header : headed ≡ with_page rooted 0 header
    with_header = wrote_any rooted headed 0 header is_header.has_512_bytes writes_header

    all_rooted : count_of rooted ≡ many
    all_rooted = ap count_of with_root ∙ (count_with listed 1 root ∙ Has_All)

    all_headed : count_of headed ≡ many
    all_headed = ap count_of with_header ∙ (count_with rooted 0 header ∙ all_rooted)

    root_stands : Holds headed.pages 1 (leaf_image empty_leaf)
    root_stands =
        let there : 1 < count_of listed = omega (arith, Has_All) in
        ap (λ m. page_at m 1) with_header ∙ (page_beside rooted 0 1 header (omega arith) ∙ (ap (λ m. page_at m 1) with_root ∙ (page_with listed 1 root there ∙ ap Live is_root.is_its_image)))

    header_stands : Holds headed.pages 0 (header_image (empty_header code (next_free (free_pages many)) many))
    header_stands =
        let there : 0 < count_of rooted = omega (arith, all_rooted) in
        ap (λ m. page_at m 0) with_header ∙ (page_with rooted 0 header there ∙ ap Live (is_header.is_its_image ∙ ap (λ page. header_image (empty_header code page many)) starts))

    free_list_stands : SpellFree headed.pages (free_pages many)
    free_list_stands =
        let beside_root = spelled_beside listed.pages 1 2 (many - 2) (Live root) (omega arith) free in
        rw (with_header, with_root) (spelled_beside (set listed.pages 1 (Live root)) 0 2 (many - 2) (Live header) (omega arith) beside_root)

    pub laid_out : (answer : Answer Unit) → answer ≡ write_answer rooted 0 (length header) → LaidOut code many answer headed
    laid_out answer e =
        let there : 0 < count_of rooted = omega (arith, all_rooted) in
        record {
          is_accepted = e ∙ sym (write_answers rooted 0 header is_header.has_512_bytes there);
          keeps_the_count = all_headed;
          is_a_tree_of_no_entries = λ kind same. empty_tree kind headed.pages many all_headed enough (rw same header_stands) root_stands free_list_stands;
        }
