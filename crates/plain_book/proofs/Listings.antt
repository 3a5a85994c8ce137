-- The rows of a listing as the executable book finds and cuts them.
use Rattle.std.proofs.Common.{◌≡◌, ℕ, ◌+◌, ◌-◌, ◌*◌, ◌/◌, ◌<◌, ◌≤◌, min, Bool, true, ◌⊎◌, List, [], ◌∷◌, ◌++◌, length, get_or, take, drop, filter, vec_items, Some, None, Option, sym, refl, ap, ◌∙◌, inl, inr, arith}
use Rattle.std.specs.List.{flat_map, AllByRecursion}
use Rattle.std.proofs.lemmas.List.{append_assoc, append-nil, length-take, length-drop, take_more, take_all, take_at, drop_at, drop_all, take-append-drop}
use Rattle.std.proofs.lemmas.List.Elements.{filter-append}
use Rattle.std.proofs.ByRecursion.{All-take, All-drop}
use Rattle.std.proofs.lemmas.Bool.{cases_lt}
use Rattle.refusals.specs.Refusals.{Accepted}
use Rattle.numbers.specs.BigEndian.{bytes_of}
use Rattle.keys.specs.Kinds.{Kind, Field}
use Rattle.book.specs.Books.{Held, Book, SortedFrom, Sorted}
use Rattle.book.specs.Looking.{Listed, Listing, rows_under, listed_bytes, within, listed, rows_shown, buffer_with, list_answer, buffer_after_list}
use Rattle.book.specs.Entries.{Entries, book_of, postings_in}
use Rattle.book.proofs.Looking.{LawfulRow, length_rows, lawful_listed}
use Rattle.plain_book.specs.declared.account.Account.{Account}
use Rattle.plain_book.specs.Accounts.{entry_in, held_in, entries_of}

joined-++ : {X A : Type 0} (f : X → List A) (xs ys : List X) → flat_map f (xs ++ ys) ≡ flat_map f xs ++ flat_map f ys
joined-++ f [] ys = refl
joined-++ f (x ∷ xs) ys = ap (λ (t : List _). f x ++ t) (joined-++ f xs ys) ∙ sym (append_assoc (f x) (flat_map f xs) (flat_map f ys))

abbrev rows_of : Field → List ℕ → List ℕ
rows_of key ps = flat_map listed_bytes (rows_under (record { key = key; value = ps }))

rows_push : (key : Field) (ps : List ℕ) (p : ℕ) → rows_of key (ps ++ p ∷ []) ≡ rows_of key ps ++ (key ++ bytes_of 8 p)
rows_push key [] p = append-nil (key ++ bytes_of 8 p)
rows_push key (q ∷ ps) p = ap (λ (t : List ℕ). (key ++ bytes_of 8 q) ++ t) (rows_push key ps p) ∙ sym (append_assoc (key ++ bytes_of 8 q) (rows_of key ps) (key ++ bytes_of 8 p))

-- one more row behind those before
pub add_more : (key : Field) (ps : List ℕ) (i : ℕ) (start before mid after : List ℕ) → i < length ps → before ≡ start ++ rows_of key (take i ps) → mid ≡ before ++ key → after ≡ mid ++ bytes_of 8 (get_or ps i 0) → after ≡ start ++ rows_of key (take (i + 1) ps)
add_more key ps i start before mid after h b m a =
    let p = get_or ps i 0 in
    let last : rows_of key (take (i + 1) ps) ≡ rows_of key (take i ps) ++ (key ++ bytes_of 8 p) = ap (rows_of key) (take_more ps i 0 h) ∙ rows_push key (take i ps) p in
    a ∙ (ap (λ (t : List ℕ). t ++ bytes_of 8 p) (m ∙ ap (λ (t : List ℕ). t ++ key) b)
    ∙ (append_assoc (start ++ rows_of key (take i ps)) key (bytes_of 8 p)
    ∙ (append_assoc start (rows_of key (take i ps)) (key ++ bytes_of 8 p) ∙ ap (λ (t : List ℕ). start ++ t) (sym last))))

abbrev pub bytes_listed : Kind → (first second : Field) → Book → List ℕ
bytes_listed kind first second book = flat_map listed_bytes (listed kind book first second)

listed-++ : (kind : Kind) (first second : Field) (xs ys : Book) → bytes_listed kind first second (xs ++ ys) ≡ bytes_listed kind first second xs ++ bytes_listed kind first second ys
listed-++ kind first second xs ys =
    let wanted : Held (List ℕ) → Bool = λ (held : Held (List ℕ)). within kind first second held.key in
    ap (λ (l : Book). flat_map listed_bytes (flat_map rows_under l)) (filter-append wanted xs ys)
    ∙ (ap (flat_map listed_bytes) (joined-++ rows_under (filter wanted xs) (filter wanted ys)) ∙ joined-++ listed_bytes (flat_map rows_under (filter wanted xs)) (flat_map rows_under (filter wanted ys)))

book_of-++ : (xs ys : List Account) → book_of (entries_of (xs ++ ys)) ≡ book_of (entries_of xs) ++ book_of (entries_of ys)
book_of-++ [] ys = refl
book_of-++ (x ∷ xs) ys = ap (λ (l : Book). record { key = vec_items x.key; value = postings_in (entry_in x) } ∷ l) (book_of-++ xs ys)

-- the rows of one more account behind those before
pub listed_more : (kind : Kind) (first second : Field) (accounts : List Account) (i : ℕ) (a : Account) (before after : List ℕ) → i < length accounts → a ≡ get_or accounts i a → before ≡ bytes_listed kind first second (book_of (entries_of (take i accounts)))
    → after ≡ before ++ bytes_listed kind first second (book_of (held_in a ∷ [])) → after ≡ bytes_listed kind first second (book_of (entries_of (take (i + 1) accounts)))
listed_more kind first second accounts i a before after h is b e =
    let last : take (i + 1) accounts ≡ take i accounts ++ a ∷ [] = take_more accounts i a h ∙ ap (λ (x : Account). take i accounts ++ x ∷ []) (sym is) in
    let one = held_in a ∷ [] in
    e ∙ (ap (λ (t : List ℕ). t ++ bytes_listed kind first second (book_of one)) b
    ∙ (sym (listed-++ kind first second (book_of (entries_of (take i accounts))) (book_of one))
    ∙ (ap (bytes_listed kind first second) (sym (book_of-++ (take i accounts) (a ∷ []))) ∙ ap (λ (xs : List Account). bytes_listed kind first second (book_of (entries_of xs))) (sym last))))

-- rows of 32 bytes, cut
cut : (kind : Kind) (rows : List Listed) (k : ℕ) → AllByRecursion (LawfulRow kind) rows → k ≤ length rows → (take (32 * k) (flat_map listed_bytes rows) ≡ flat_map listed_bytes (take k rows)) × (drop (32 * k) (flat_map listed_bytes rows) ≡ flat_map listed_bytes (drop k rows))
cut kind rows k a h =
    let front = flat_map listed_bytes (take k rows) in
    let back = flat_map listed_bytes (drop k rows) in
    let split : flat_map listed_bytes rows ≡ front ++ back = ap (flat_map listed_bytes) (sym (take-append-drop k rows)) ∙ joined-++ listed_bytes (take k rows) (drop k rows) in
    let long : length front ≡ 32 * k = length_rows kind (take k rows) (All-take (LawfulRow kind) k rows a) ∙ omega (arith, length-take k rows) in
    (ap (take (32 * k)) split ∙ take_at front back (32 * k) long, ap (drop (32 * k)) split ∙ drop_at front back (32 * k) long)

cut_off : (kind : Kind) (rows : List Listed) (skip : ℕ) → AllByRecursion (LawfulRow kind) rows → drop (32 * skip) (flat_map listed_bytes rows) ≡ flat_map listed_bytes (drop skip rows)
cut_off kind rows skip a = go (cases_lt (length rows) skip)
  where
    go : (length rows < skip) ⊎ (skip ≤ length rows) → drop (32 * skip) (flat_map listed_bytes rows) ≡ flat_map listed_bytes (drop skip rows)
    go (inl h) = drop_all (32 * skip) (flat_map listed_bytes rows) (omega (arith, length_rows kind rows a)) ∙ ap (flat_map listed_bytes) (sym (drop_all skip rows (omega arith)))
    go (inr h) = (cut kind rows skip a h).1

sorted_spelled : (kind : Kind) (before : Option Field) (entries : Entries) → SortedFrom kind before entries → SortedFrom kind before (book_of entries)
sorted_spelled kind before [] s = tt
sorted_spelled kind before (h ∷ rest) s = (s.0, s.1, sorted_spelled kind (Some h.key) rest s.2)

module _ (kind : Kind) (entries : Entries) (first second : Field) (skip : ℕ) (buffer : List ℕ) (sorted : Sorted kind entries) (lf : kind.lawful first ≡ true) (ls : kind.lawful second ≡ true) where
  abbrev rows : List Listed
  rows = listed kind (book_of entries) first second

  lawful : AllByRecursion (LawfulRow kind) rows
  lawful = lawful_listed kind None (book_of entries) (λ (h : Held (List ℕ)). within kind first second h.key) (sorted_spelled kind None entries sorted)

  abbrev shows : List Listed
  shows = rows_shown kind (book_of entries) first second skip (length buffer)

  pub listed_up : (low high : Field) (bytes after : List ℕ) (total count : ℕ) → low ≡ first → high ≡ second → bytes ≡ bytes_listed kind low high (book_of entries) → total ≡ length bytes / 32 → count ≡ min (length bytes / 32 - skip) (length buffer / 32)
      → after ≡ take (32 * count) (drop (32 * skip) bytes) ++ drop (32 * count) buffer
      → (list_answer kind (book_of entries) first second skip (length buffer) ≡ Accepted (record { total = total; rows = count })) × (after ≡ buffer_after_list kind (book_of entries) first second skip buffer)
  listed_up low high bytes after total count el eh b t n a =
      (rw (lf, ls) (ap (λ (x : Listing). Accepted x) numbers), rw (lf, ls) (a ∙ whole))
    where
      all : bytes ≡ flat_map listed_bytes rows
      all =
          b ∙ (ap (λ (k : Field). bytes_listed kind k high (book_of entries)) el ∙ ap (λ (k : Field). bytes_listed kind first k (book_of entries)) eh)

      long : length bytes ≡ 32 * length rows
      long = ap length all ∙ length_rows kind rows lawful

      totals : length rows ≡ total
      totals = omega (arith, long)

      counts : length shows ≡ count
      counts = length-take (length buffer / 32) (drop skip rows) ∙ omega (arith, long, length-drop skip rows)

      numbers : ◌≡◌ {A = Listing} (record { total = length rows; rows = length shows }) (record { total = total; rows = count })
      numbers = λ i. record { total = totals i; rows = counts i }

      front : (length (drop skip rows) < length buffer / 32) ⊎ (length buffer / 32 ≤ length (drop skip rows)) → take count (drop skip rows) ≡ shows
      front (inl h) = take_all count (drop skip rows) (omega (arith, long, length-drop skip rows)) ∙ sym (take_all (length buffer / 32) (drop skip rows) (omega arith))
      front (inr h) = let same : count ≡ length buffer / 32 = omega (arith, long, length-drop skip rows) in ap (λ (k : ℕ). take k (drop skip rows)) same

      cuts : take (32 * count) (drop (32 * skip) bytes) ≡ flat_map listed_bytes shows
      cuts =
          ap (λ (x : List ℕ). take (32 * count) (drop (32 * skip) x)) all ∙ (ap (take (32 * count)) (cut_off kind rows skip lawful)
          ∙ ((cut kind (drop skip rows) count (All-drop (LawfulRow kind) skip rows lawful) (omega (arith, long, length-drop skip rows))).0 ∙ ap (flat_map listed_bytes) (front (cases_lt (length (drop skip rows)) (length buffer / 32)))))

      whole : take (32 * count) (drop (32 * skip) bytes) ++ drop (32 * count) buffer ≡ buffer_with shows buffer
      whole = ap (λ (x : List ℕ). x ++ drop (32 * count) buffer) cuts ∙ ap (λ (k : ℕ). flat_map listed_bytes shows ++ drop (32 * k) buffer) (sym counts)
