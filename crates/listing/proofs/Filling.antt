-- Rows put one after another into a buffer. Assumes nothing.
use Rattle.std.proofs.Common.{◌≡◌, ℕ, zero, suc, ◌+◌, ◌-◌, ◌*◌, ◌/◌, ◌<◌, ◌≤◌, Bool, true, false, cond, ltb, leb, List, [], ◌∷◌, ◌++◌, length, get_or, take, drop, sym, refl, ap, ◌∙◌, ⊎_elim, add-zero, arith}
use native.Mathlib.Nat.{sub-zero}
use Rattle.std.specs.List.{flat_map, AllByRecursion}
use Rattle.std.proofs.lemmas.List.{append_assoc, length-append, length-map, length-take-le, drop-drop, take-append-drop, map_more}
use Rattle.std.proofs.lemmas.Bool.{cases_lt, leb-true, leb-false, ltb-true, ltb-false, le-leb, lt-leb, and_parts, and_cases}
use Rattle.std.proofs.ByRecursion.{All-drop}
use Rattle.numbers.specs.BigEndian.{bytes_of, written}
use Rattle.numbers.proofs.Spelling.{length_bytes_of}
use Rattle.keys.specs.Kinds.{Field}
use Rattle.book.specs.Looking.{Listed, listed_bytes, buffer_with}
use Rattle.listing.specs.Filling.{rows_of, is_shown, row_put, filled}
use Rattle.listing.proofs.Overwriting.{written_past, length_written, take_written, drop_written, written_twice}

-- a row of 32 bytes: its key has 24
abbrev pub Whole : Listed → Type 0
Whole row = length row.key ≡ 24

pub length_row : (row : Listed) → Whole row → length (listed_bytes row) ≡ 32
length_row row whole = length-append row.key (bytes_of 8 row.posting) ∙ omega (arith, length_bytes_of 8 row.posting)

pub rows_whole : (key : Field) (postings : List ℕ) → length key ≡ 24 → AllByRecursion Whole (rows_of key postings)
rows_whole key [] e = tt
rows_whole key (p ∷ ps) e = (e, rows_whole key ps e)

pub length_put : (skip at : ℕ) (row : Listed) (buffer : List ℕ) → length (row_put skip at row buffer) ≡ length buffer
unfolding row_put
length_put skip at row buffer = go (leb skip at)
  where
    go : (b : Bool) → length (cond b (written buffer (32 * (at - skip)) (listed_bytes row)) buffer) ≡ length buffer
    go true = length_written buffer (listed_bytes row) (32 * (at - skip))
    go false = refl

pub length_filled : (skip at : ℕ) (rows : List Listed) (buffer : List ℕ) → length (filled skip at rows buffer) ≡ length buffer
length_filled skip at [] buffer = refl
length_filled skip at (row ∷ rows) buffer = length_filled skip (at + 1) rows (row_put skip at row buffer) ∙ length_put skip at row buffer

-- a row that is skipped, or past the end
pub put_skipped : (skip at : ℕ) (row : Listed) (buffer : List ℕ) → at < skip → row_put skip at row buffer ≡ buffer
unfolding row_put
put_skipped skip at row buffer h = rw (lt-leb skip at h)

pub put_past : (skip at : ℕ) (row : Listed) (buffer : List ℕ) → Whole row → length buffer / 32 ≤ at - skip → row_put skip at row buffer ≡ buffer
unfolding row_put
put_past skip at row buffer whole h = go (leb skip at)
  where
    go : (b : Bool) → cond b (written buffer (32 * (at - skip)) (listed_bytes row)) buffer ≡ buffer
    go true = written_past buffer (listed_bytes row) (32 * (at - skip)) (omega (arith, length_row row whole))
    go false = refl

pub put_there : (skip at : ℕ) (row : Listed) (buffer : List ℕ) → skip ≤ at → row_put skip at row buffer ≡ written buffer (32 * (at - skip)) (listed_bytes row)
unfolding row_put
put_there skip at row buffer h = rw (le-leb skip at h)

-- rows put in two goes
pub filled_append : (skip at : ℕ) (a b : List Listed) (buffer : List ℕ) → filled skip at (a ++ b) buffer ≡ filled skip (at + length a) b (filled skip at a buffer)
filled_append skip at [] b buffer = ap (λ (n : ℕ). filled skip n b buffer) (sym (add-zero at))
filled_append skip at (row ∷ rows) b buffer =
    let on : at + 1 + length rows ≡ at + suc (length rows) = omega arith in
    filled_append skip (at + 1) rows b (row_put skip at row buffer) ∙ ap (λ (n : ℕ). filled skip n b (filled skip (at + 1) rows (row_put skip at row buffer))) on

-- rows of which none is shown leave the buffer as it is
pub filled_outside : (skip at : ℕ) (rows : List Listed) (buffer : List ℕ) → AllByRecursion Whole rows → ((k : ℕ) → at ≤ k → k < at + length rows → skip ≤ k → length buffer / 32 ≤ k - skip) → filled skip at rows buffer ≡ buffer
filled_outside skip at [] buffer whole out = refl
filled_outside skip at (row ∷ rows) buffer whole out =
    let here : row_put skip at row buffer ≡ buffer = ⊎_elim (λ h. put_skipped skip at row buffer h) (λ h. put_past skip at row buffer whole.0 (out at (omega arith) (omega arith) h)) (cases_lt at skip) in
    ap (filled skip (at + 1) rows) here ∙ filled_outside skip (at + 1) rows buffer whole.1 (λ k low high past. out k (omega arith) (omega arith) past)

-- rows before those that are shown
from_skip : (skip at : ℕ) (rows : List Listed) (buffer : List ℕ) → at ≤ skip → filled skip at rows buffer ≡ filled skip skip (drop (skip - at) rows) buffer
from_skip skip at [] buffer h = go (skip - at)
  where
    go : (n : ℕ) → buffer ≡ filled skip skip (drop n []) buffer
    go zero = refl
    go (suc n) = refl
from_skip skip at (row ∷ rows) buffer h = ⊎_elim (λ lt. before lt (from_skip skip (at + 1) rows buffer (omega arith))) there (cases_lt at skip)
  where
    before : at < skip → filled skip (at + 1) rows buffer ≡ filled skip skip (drop (skip - (at + 1)) rows) buffer → filled skip at (row ∷ rows) buffer ≡ filled skip skip (drop (skip - at) (row ∷ rows)) buffer
    before lt ih =
        let one : skip - at ≡ suc (skip - (at + 1)) = omega arith in
        ap (filled skip (at + 1) rows) (put_skipped skip at row buffer lt) ∙ ih ∙ ap (λ (n : ℕ). filled skip skip (drop n (row ∷ rows)) buffer) (sym one)

    there : skip ≤ at → filled skip at (row ∷ rows) buffer ≡ filled skip skip (drop (skip - at) (row ∷ rows)) buffer
    there le =
        let same : at ≡ skip = omega arith in
        let none : skip - at ≡ 0 = omega arith in
        ap (λ (n : ℕ). filled skip n (row ∷ rows) buffer) same ∙ ap (λ (n : ℕ). filled skip skip (drop n (row ∷ rows)) buffer) (sym none)

-- from the first row that is shown on: those before stay, and others come behind them
from_there : (skip n : ℕ) (rows : List Listed) (buffer : List ℕ) → AllByRecursion Whole rows → n ≤ length buffer / 32 → filled skip (skip + n) rows buffer ≡ take (32 * n) buffer ++ buffer_with (take (length buffer / 32 - n) rows) (drop (32 * n) buffer)
from_there skip n [] buffer whole h = go (length buffer / 32 - n)
  where
    go : (left : ℕ) → buffer ≡ take (32 * n) buffer ++ buffer_with (take left []) (drop (32 * n) buffer)
    go zero = sym (take-append-drop (32 * n) buffer)
    go (suc left) = sym (take-append-drop (32 * n) buffer)
from_there skip n (row ∷ rows) buffer whole h =
    ⊎_elim (λ lt. shows lt (from_there skip (n + 1) rows (row_put skip (skip + n) row buffer) whole.1 (let same = length_put skip (skip + n) row buffer in omega arith))) ends (cases_lt n (length buffer / 32))
  where
    put : List ℕ
    put = row_put skip (skip + n) row buffer

    ends : length buffer / 32 ≤ n → filled skip (skip + n) (row ∷ rows) buffer ≡ take (32 * n) buffer ++ buffer_with (take (length buffer / 32 - n) (row ∷ rows)) (drop (32 * n) buffer)
    ends le =
        let none : length buffer / 32 - n ≡ 0 = omega arith in
        filled_outside skip (skip + n) (row ∷ rows) buffer whole (λ k low high past. omega arith)
        ∙ sym (take-append-drop (32 * n) buffer)
        ∙ ap (λ (left : ℕ). take (32 * n) buffer ++ buffer_with (take left (row ∷ rows)) (drop (32 * n) buffer)) (sym none)

    shows : n < length buffer / 32
        → filled skip (skip + (n + 1)) rows put ≡ take (32 * (n + 1)) put ++ buffer_with (take (length put / 32 - (n + 1)) rows) (drop (32 * (n + 1)) put)
        → filled skip (skip + n) (row ∷ rows) buffer ≡ take (32 * n) buffer ++ buffer_with (take (length buffer / 32 - n) (row ∷ rows)) (drop (32 * n) buffer)
    shows lt ih =
        let bytes : List ℕ = listed_bytes row in
        let later : List Listed = take (length buffer / 32 - (n + 1)) rows in
        let on : skip + n + 1 ≡ skip + (n + 1) = omega arith in
        let place : 32 * (skip + n - skip) ≡ 32 * n = omega arith in
        let is : put ≡ written buffer (32 * n) bytes = put_there skip (skip + n) row buffer (omega arith) ∙ ap (λ (at : ℕ). written buffer at (listed_bytes row)) place in
        let end : 32 * (n + 1) ≡ 32 * n + length (listed_bytes row) = omega (arith, length_row row whole.0) in
        let fits : 32 * (n + 1) ≤ length buffer = omega arith in
        let front : take (32 * (n + 1)) put ≡ take (32 * n) buffer ++ bytes = ap (take (32 * (n + 1))) is ∙ take_written buffer (listed_bytes row) (32 * n) (32 * (n + 1)) end fits in
        let behind : drop (32 * (n + 1)) put ≡ drop (32 * (n + 1)) buffer = ap (drop (32 * (n + 1))) is ∙ drop_written buffer (listed_bytes row) (32 * n) (32 * (n + 1)) end fits in
        let one : length buffer / 32 - n ≡ suc (length buffer / 32 - (n + 1)) = omega arith in
        let sum : 32 * (n + 1) + 32 * length later ≡ 32 * n + 32 * suc (length later) = omega arith in
        let left : drop (32 * length later) (drop (32 * (n + 1)) buffer) ≡ drop (32 * suc (length later)) (drop (32 * n) buffer) =
        drop-drop (32 * length later) (32 * (n + 1)) buffer ∙ ap (λ (m : ℕ). drop m buffer) sum ∙ sym (drop-drop (32 * suc (length later)) (32 * n) buffer) in
        ap (λ (at : ℕ). filled skip at rows put) on ∙ ih
        ∙ ap (λ (xs : List ℕ). xs ++ buffer_with (take (length put / 32 - (n + 1)) rows) (drop (32 * (n + 1)) put)) front
        ∙ ap (λ (xs : List ℕ). (take (32 * n) buffer ++ bytes) ++ buffer_with (take (length put / 32 - (n + 1)) rows) xs) behind
        ∙ ap (λ (m : ℕ). (take (32 * n) buffer ++ bytes) ++ buffer_with (take (m / 32 - (n + 1)) rows) (drop (32 * (n + 1)) buffer)) (length_put skip (skip + n) row buffer)
        ∙ append_assoc (take (32 * n) buffer) bytes (buffer_with later (drop (32 * (n + 1)) buffer))
        ∙ ap (λ (xs : List ℕ). take (32 * n) buffer ++ xs) (sym (append_assoc bytes (flat_map listed_bytes later) (drop (32 * length later) (drop (32 * (n + 1)) buffer))))
        ∙ ap (λ (xs : List ℕ). take (32 * n) buffer ++ ((bytes ++ flat_map listed_bytes later) ++ xs)) left
        ∙ ap (λ (m : ℕ). take (32 * n) buffer ++ buffer_with (take m (row ∷ rows)) (drop (32 * n) buffer)) (sym one)

pub filled_is : (skip : ℕ) (rows : List Listed) (buffer : List ℕ) → AllByRecursion Whole rows → filled skip 0 rows buffer ≡ buffer_with (take (length buffer / 32) (drop skip rows)) buffer
filled_is skip rows buffer whole =
    from_skip skip 0 rows buffer (omega arith)
    ∙ ap (λ (n : ℕ). filled skip skip (drop n rows) buffer) (sub-zero skip)
    ∙ ap (λ (n : ℕ). filled skip n (drop skip rows) buffer) (sym (add-zero skip))
    ∙ from_there skip 0 (drop skip rows) buffer (All-drop Whole skip rows whole) (omega arith)
    ∙ ap (λ (n : ℕ). buffer_with (take n (drop skip rows)) buffer) (sub-zero (length buffer / 32))

-- one row, as the code puts it
pub put_not_shown : (skip at : ℕ) (row : Listed) (buffer : List ℕ) → Whole row → is_shown skip (length buffer) at ≡ false → row_put skip at row buffer ≡ buffer
put_not_shown skip at row buffer whole e =
    ⊎_elim (λ h. put_skipped skip at row buffer (leb-false skip at h)) (λ h. put_past skip at row buffer whole (ltb-false (at - skip) (length buffer / 32) h)) (and_cases (leb skip at) (ltb (at - skip) (length buffer / 32)) e)

pub put_shown : (skip at : ℕ) (key : Field) (posting place : ℕ) (buffer one two : List ℕ) → length key ≡ 24 → is_shown skip (length buffer) at ≡ true → place ≡ (at - skip) * 32
    → one ≡ written buffer place key → two ≡ written one (place + 24) (bytes_of 8 posting) → two ≡ row_put skip at (record { key = key; posting = posting }) buffer
put_shown skip at key posting place buffer one two long shown is first second =
    let parts = and_parts (leb skip at) (ltb (at - skip) (length buffer / 32)) shown in
    let from = leb-true skip at parts.0 in
    let room = ltb-true (at - skip) (length buffer / 32) parts.1 in
    let same : place ≡ 32 * (at - skip) = omega arith in
    let eight = length_bytes_of 8 posting in
    second ∙ ap (λ (xs : List ℕ). written xs (place + 24) (bytes_of 8 posting)) first
    ∙ written_twice buffer key (bytes_of 8 posting) place (place + 24) (omega arith) (omega arith)
    ∙ ap (λ (n : ℕ). written buffer n (key ++ bytes_of 8 posting)) same
    ∙ sym (put_there skip at (record { key = key; posting = posting }) buffer from)

-- and one more of the rows of a key
pub put_more : (skip at i : ℕ) (key : Field) (postings buffer : List ℕ) → i < length postings
    → row_put skip (at + i) (record { key = key; posting = get_or postings i 0 }) (filled skip at (rows_of key (take i postings)) buffer) ≡ filled skip at (rows_of key (take (i + 1) postings)) buffer
put_more skip at i key postings buffer h =
    let row : ℕ → Listed = λ (p : ℕ). record { key = key; posting = p } in
    let count : length (rows_of key (take i postings)) ≡ i = length-map (take i postings) row ∙ length-take-le i postings (omega arith) in
    ap (λ (n : ℕ). row_put skip (at + n) (row (get_or postings i 0)) (filled skip at (rows_of key (take i postings)) buffer)) (sym count)
    ∙ sym (filled_append skip at (rows_of key (take i postings)) (row (get_or postings i 0) ∷ []) buffer)
    ∙ ap (λ (rows : List Listed). filled skip at rows buffer) (sym (map_more row postings i 0 h))
