-- Pages held above a store, and what store and held pages mean together.
use Rattle.std.specs.Prelude.{◌≡◌, ℕ, ◌<◌, Bool, true, false, not, ◌&&◌, ◌||◌, ◌≢◌, ◌⊎◌, List, [], ◌∷◌, map, length, ◌==◌}
use Rattle.std.specs.List.{ContainsAt as Has}
use Rattle.std.specs.Str.{bytes_eq}
use Rattle.page_store.specs.Meanings.{Page, Live, Gone, Meaning, with_page}
use Rattle.cache.specs.declared.held.Held.{Held}
use Rattle.cache.specs.declared.held.Entry.{Entry}

-- the pages that stand in these places
abbrev pub pages_of : List Entry → List Held
pages_of entries = map (λ entry. entry.held) entries

-- the store below with the held pages put in
abbrev pub put_in : List Held → Meaning → Meaning
put_in [] below = below
put_in (h ∷ hs) below = with_page (put_in hs below) h.page h.bytes

-- whether page n is held
abbrev pub holds : List Held → ℕ → Bool
holds [] n = false
holds (h ∷ hs) n = n == h.page || holds hs n

-- no page is held twice
abbrev pub all_apart : List Held → Bool
all_apart [] = true
all_apart (h ∷ hs) = not (holds hs h.page) && all_apart hs

-- whether two stores mean the same, page by page and byte by byte
abbrev pub same_page : Page → Page → Bool
same_page (Live xs) (Live ys) = bytes_eq xs ys
same_page (Live xs) Gone = false
same_page Gone (Live ys) = false
same_page Gone Gone = true

abbrev pub same_pages : List Page → List Page → Bool
same_pages [] [] = true
same_pages [] (q ∷ qs) = false
same_pages (p ∷ ps) [] = false
same_pages (p ∷ ps) (q ∷ qs) = same_page p q && same_pages ps qs

unfoldable pub same_meaning : Meaning → Meaning → Bool
same_meaning m k = same_pages m.pages k.pages

-- what a write of page n may change in the store below, where these pages were held
pub record Spares (held : List Held) (n : ℕ) (before after : Meaning) : Type 0 where
  pub keeps_all_if_its_own_was_held : holds held n ≡ true → after ≡ before
  pub keeps_all_if_fewer_than_four_were : length held < 4 → after ≡ before
  pub changes_at_most_one_other_that_was_held : (after ≡ before) ⊎ ((h : Held) × (Has held h) × (h.page ≢ n) × (after ≡ with_page before h.page h.bytes))
