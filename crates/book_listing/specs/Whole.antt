-- That booklist lists all of a book.
use Rattle.std.specs.Prelude.{◌≡◌, true, replicate, codes}
use Rattle.keys.specs.Kinds.{Field}
use Rattle.keys.specs.Words.{padded}
use Rattle.keys.specs.BuiltIn.{word_kind}
use Rattle.book.specs.Books.{Book, Sorted}
use Rattle.book.specs.Looking.{listed}
use Rattle.book_listing.specs.Text.{all_rows}

abbrev pub lowest_word : Field
lowest_word = padded (codes "0")

-- 24 times z
abbrev pub highest_word : Field
highest_word = replicate 24 122

-- All rows of a book of words are its listing from the lowest word to the highest.
pub record ListsAll : Type 0 where
  pub lowest_is_a_key : word_kind.lawful lowest_word ≡ true
  pub highest_is_a_key : word_kind.lawful highest_word ≡ true
  pub all_rows_are_its_listing : (book : Book) → Sorted word_kind book → listed word_kind book lowest_word highest_word ≡ all_rows book
