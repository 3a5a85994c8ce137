-- Free pages one after another, written from the last to the first. Assumes nothing.
use Rattle.std.proofs.Common.{◌≡◌, ℕ, zero, suc, ◌+◌, ◌-◌, ◌<◌, ◌≤◌, cond, ltb, ◌≢◌, List, length, set, ap, ◌∙◌, arith}
use Rattle.std.specs.List.{range_with_len}
use Rattle.std.proofs.lemmas.List.{length-set, get_or-set_same, get_or-set_other}
use Rattle.std.proofs.lemmas.Bool.Decides.{nat_tests}
use Rattle.page_store.specs.Meanings.{Page, Live, Gone, Meaning, after_write}
use Rattle.page_store.proofs.Laws.{wrote_any}
use Rattle.nodes.specs.Layout.{free_image, FreeFits}
use Rattle.nodes.specs.Meanings.{free_with}
use Rattle.nodes.specs.Codec.{Spells}
use Rattle.book.specs.Books.{count}
use Rattle.tree.specs.Valid.{Pages, next_free, SpellFree}

-- a page below the list can be written
pub spelled_beside : (pages : Pages) (k from n : ℕ) (x : Page) → k < from → SpellFree pages (range_with_len from n) → SpellFree (set pages k x) (range_with_len from n)
spelled_beside pages k from zero x h s = tt
spelled_beside pages k from (suc n) x h s =
    let ne : from ≢ k = omega arith in
    (get_or-set_other pages k from x Gone ne ∙ s.0, spelled_beside pages k (from + 1) n x (omega arith) s.1)

-- the pages from one on are a free list, which starts at `next`
pub record ListedFrom (pages : Pages) (many page next : ℕ) : Type 0 where
  pub keeps_the_count : length pages ≡ many
  pub starts_there : next ≡ next_free (range_with_len page (many - page))
  pub is_spelled : SpellFree pages (range_with_len page (many - page))

-- one more page in front of the list, after it is written as free
pub listed_more : (m k : Meaning) (many page from next : ℕ) (image : List ℕ) → from ≡ page + 1 → from ≤ many → Spells free_image FreeFits image (free_with next) → k ≡ after_write m page image
    → ListedFrom m.pages many from next → ListedFrom k.pages many page page
listed_more m k many page from next image e h s w listed =
    let l : ListedFrom m.pages many (page + 1) next = rw e at listed in
    let more : many - page ≡ suc (many - (page + 1)) = omega arith in
    let there : page < length m.pages = omega (arith, l.keeps_the_count) in
    let written : ListedFrom (set m.pages page (Live image)) many page page =
    record {
      keeps_the_count = length-set m.pages page (Live image) ∙ l.keeps_the_count;
      starts_there = rw more;
      is_spelled =
          rw more (
            get_or-set_same m.pages page (Live image) Gone there ∙ ap Live (s.is_its_image ∙ ap (λ n. free_image (free_with n)) l.starts_there),
            spelled_beside m.pages page (page + 1) (many - (page + 1)) (Live image) (omega arith) l.is_spelled,
          );
    } in
    rw (wrote_any m k page image s.has_512_bytes w) written

-- the list holds each of its pages once
pub counted : (p a n : ℕ) → count p (range_with_len a n) + cond (ltb p a) 1 0 ≡ cond (ltb p (a + n)) 1 0
counted p a zero = grind (arith, nat_tests)
counted p a (suc n) = let ih = counted p (a + 1) n in grind (arith, nat_tests)
