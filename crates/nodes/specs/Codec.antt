-- What encoding and decoding answer, for a page of any sort.
use Rattle.std.specs.Prelude.{◌≡◌, ℕ, List, length, Some, Option, MatchOption, ◌≢◌}
use Rattle.numbers.specs.BigEndian.{Bytes}
use Rattle.nodes.specs.declared.sort.PageSort.{PageSort}
use Rattle.nodes.specs.declared.sort.PageSort.TheVariants.{Header, Inner, Leaf, Record, Free}
use Rattle.nodes.specs.Layout.{HeaderPage, header_image, InnerPage, inner_image, LeafPage, leaf_image, RecordPage, record_image, FreePage, free_image}

-- a page is the image of a value that fits, and of no other
pub record Spells {V : Type 0} (image : V → List ℕ) (Fits : V → Type 0) (page : List ℕ) (v : V) : Type 0 where
  pub fits : Fits v
  pub is_its_image : page ≡ image v
  pub has_512_bytes : length page ≡ 512
  pub holds_bytes : Bytes page
  pub of_no_other : (other : V) → Fits other → page ≡ image other → other ≡ v

-- bytes decode to what they spell, and to nothing exactly if they are the image of no value that fits
abbrev pub Decoded : {V X : Type 0} → (image : V → List ℕ) → (Fits : V → Type 0) → (meaning : X → V) → (page : List ℕ) → Option X → Type 0
Decoded {V = V} {X = X} image Fits meaning page r = MatchOption r ((v : V) → Fits v → page ≢ image v) (λ (x : X). Spells image Fits page (meaning x))

-- a value is encoded into the page that spells it, and whatever decoding may answer of this page is that value again
pub record Encoded {V X : Type 0} (image : V → List ℕ) (Fits : V → Type 0) (meaning : X → V) (v : V) (page : List ℕ) : Type 0 where
  pub spells : Spells image Fits page v
  pub comes_back : (r : Option X) → Decoded image Fits meaning page r → MatchOption r ⊥ (λ (x : X). meaning x ≡ v)

-- byte 0 tells the sort of every image, so images of different sorts differ
pub record SortsTellImages (page : List ℕ) (r : Option PageSort) : Type 0 where
  pub headers : (v : HeaderPage) → page ≡ header_image v → r ≡ Some Header
  pub inner_nodes : (v : InnerPage) → page ≡ inner_image v → r ≡ Some Inner
  pub leaves : (v : LeafPage) → page ≡ leaf_image v → r ≡ Some Leaf
  pub records : (v : RecordPage) → page ≡ record_image v → r ≡ Some Record
  pub free_pages : (v : FreePage) → page ≡ free_image v → r ≡ Some Free
