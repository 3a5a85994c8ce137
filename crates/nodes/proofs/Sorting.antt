-- Byte 0 of each image, and the sort that it names. Assumes nothing.
use Rattle.std.proofs.Common.{◌≡◌, ℕ, cond, eqb, List, get_or, Some, None, Option, MatchOption, sym, refl, ap, ◌∙◌}
use Rattle.nodes.specs.declared.sort.PageSort.{PageSort}
use Rattle.nodes.specs.declared.sort.PageSort.TheVariants.{Header, Inner, Leaf, Record, Free}
use Rattle.nodes.specs.Sorts.{sort_number}
use Rattle.nodes.specs.Layout.{padded, HeaderPage, header_image, InnerPage, inner_image, LeafPage, leaf_image, RecordPage, record_image, FreePage, free_image}
use Rattle.nodes.specs.Codec.{SortsTellImages}

abbrev sort_back : ℕ → PageSort
sort_back n = cond (eqb n 1) Header (cond (eqb n 2) Inner (cond (eqb n 3) Leaf (cond (eqb n 4) Record Free)))

back : (sort : PageSort) → sort_back (sort_number sort) ≡ sort
back Header = refl
back Inner = refl
back Leaf = refl
back Record = refl
back Free = refl

same_sort : (s t : PageSort) → sort_number s ≡ sort_number t → s ≡ t
same_sort s t e = sym (back s) ∙ ap sort_back e ∙ back t

header_first : (v : HeaderPage) → get_or (header_image v) 0 0 ≡ 1
unfolding padded
header_first v = refl

inner_first : (v : InnerPage) → get_or (inner_image v) 0 0 ≡ 2
unfolding padded
inner_first v = refl

leaf_first : (v : LeafPage) → get_or (leaf_image v) 0 0 ≡ 3
unfolding padded
leaf_first v = refl

record_first : (v : RecordPage) → get_or (record_image v) 0 0 ≡ 4
unfolding padded
record_first v = refl

free_first : (v : FreePage) → get_or (free_image v) 0 0 ≡ 5
unfolding padded
free_first v = refl

first : (page image : List ℕ) (n : ℕ) → get_or image 0 0 ≡ n → page ≡ image → get_or page 0 0 ≡ n
first page image n f e = ap (λ (b : List ℕ). get_or b 0 0) e ∙ f

pub named : (page : List ℕ) (sort : PageSort) → get_or page 0 0 ≡ sort_number sort → SortsTellImages page (Some sort)
named page sort h =
    record {
      headers = λ v e. ap Some (same_sort sort Header (sym h ∙ first page (header_image v) 1 (header_first v) e));
      inner_nodes = λ v e. ap Some (same_sort sort Inner (sym h ∙ first page (inner_image v) 2 (inner_first v) e));
      leaves = λ v e. ap Some (same_sort sort Leaf (sym h ∙ first page (leaf_image v) 3 (leaf_first v) e));
      records = λ v e. ap Some (same_sort sort Record (sym h ∙ first page (record_image v) 4 (record_first v) e));
      free_pages = λ v e. ap Some (same_sort sort Free (sym h ∙ first page (free_image v) 5 (free_first v) e));
    }

pub not_named : (page : List ℕ) → ((sort : PageSort) → get_or page 0 0 ≡ sort_number sort → ⊥) → SortsTellImages page None
not_named page h =
    record {
      headers = λ v e. absurd (h Header (first page (header_image v) 1 (header_first v) e));
      inner_nodes = λ v e. absurd (h Inner (first page (inner_image v) 2 (inner_first v) e));
      leaves = λ v e. absurd (h Leaf (first page (leaf_image v) 3 (leaf_first v) e));
      records = λ v e. absurd (h Record (first page (record_image v) 4 (record_first v) e));
      free_pages = λ v e. absurd (h Free (first page (free_image v) 5 (free_first v) e));
    }

-- the sort that byte 0 names tells that of each image
pub tells : (page : List ℕ) (r : Option PageSort) → MatchOption r ((sort : PageSort) → get_or page 0 0 ≡ sort_number sort → ⊥) (λ (sort : PageSort). get_or page 0 0 ≡ sort_number sort) → SortsTellImages page r
tells page None h = not_named page h
tells page (Some sort) h = named page sort h

-- a number that no sort has
pub none_named : (n : ℕ) → (n ≡ 1 → ⊥) → (n ≡ 2 → ⊥) → (n ≡ 3 → ⊥) → (n ≡ 4 → ⊥) → (n ≡ 5 → ⊥) → (sort : PageSort) → n ≡ sort_number sort → ⊥
none_named n a b d e f Header = a
none_named n a b d e f Inner = b
none_named n a b d e f Leaf = d
none_named n a b d e f Record = e
none_named n a b d e f Free = f
