-- The answer of opening, step by step and row by row. Assumes nothing.
use Rattle.std.proofs.Common.{◌≡◌, ℕ, ◌+◌, ◌*◌, ◌<◌, ◌≤◌, Bool, true, false, ◌&&◌, eqb, ltb, List, [], ◌∷◌, map, length, get_or, drop, sym, refl, ap, arith, ltb-true, eqb-true}
use Rattle.std.proofs.lemmas.List.{drop_more}
use Rattle.std.proofs.lemmas.Bool.Decides.{nat_tests}
use Rattle.numbers.specs.BigEndian.{number_at}
use Rattle.batches.specs.Reading.{Content, content_of, contents_in, cells_in, row_count, line_count}
use Rattle.batches.specs.Opening.{has_letters, counts_fit, length_fits, follow, lines_answer, open_answer}

module _ (bytes : List ℕ) where
  pub comes_to_the_lines : has_letters bytes ≡ true → counts_fit bytes ≡ true → length_fits bytes ≡ true → follow 0 (contents_in bytes) (line_count bytes) ≡ true → open_answer bytes ≡ lines_answer 0 (contents_in bytes) (cells_in bytes)
  unfolding open_answer
  comes_to_the_lines a b d e = rw (a, b, d, e)

pub and_left : (a b : Bool) → (a && b) ≡ true → a ≡ true
and_left true b h = refl
and_left false b h = h

pub and_right : (a b : Bool) → (a && b) ≡ true → b ≡ true
and_right true b h = h
and_right false b h = absurd (let z : ◌≡◌ {A = ℕ} 0 1 = cc in omega arith)

-- what the steps tell of the numbers
pub few_rows : (bytes : List ℕ) → counts_fit bytes ≡ true → row_count bytes ≤ 1024
few_rows bytes h = grind (arith, nat_tests)

pub few_lines : (bytes : List ℕ) → counts_fit bytes ≡ true → line_count bytes ≤ 1024
few_lines bytes h = grind (arith, nat_tests)

pub length_is : (bytes : List ℕ) → length_fits bytes ≡ true → 16 + 32 * row_count bytes + 9 * line_count bytes ≡ length bytes
length_is bytes h = sym (eqb-true (length bytes) (16 + 32 * row_count bytes + 9 * line_count bytes) h)

-- rows that follow one another from a line on
pub follow_parts : (next : ℕ) (row : Content) (rows : List Content) (end : ℕ) → follow next (row ∷ rows) end ≡ true → (0 < row.count) × (row.first ≡ next) × (follow (next + row.count) rows end ≡ true)
follow_parts next row rows end h =
    let rest = and_right (ltb 0 row.count) (eqb row.first next && follow (next + row.count) rows end) h in (
      ltb-true 0 row.count (and_left (ltb 0 row.count) (eqb row.first next && follow (next + row.count) rows end) h),
      eqb-true row.first next (and_left (eqb row.first next) (follow (next + row.count) rows end) rest),
      and_right (eqb row.first next) (follow (next + row.count) rows end) rest,
    )

pub follow_bound : (rows : List Content) (next end : ℕ) → follow next rows end ≡ true → next ≤ end
follow_bound [] next end h = omega (arith, eqb-true next end h)
follow_bound (row ∷ rows) next end h = let p = follow_parts next row rows end h in omega (arith, follow_bound rows (next + row.count) end p.2)

-- the next row ends before the last line
pub row_ends : (rows : List (List ℕ)) (i first end : ℕ) → i < length rows → follow first (map content_of (drop i rows)) end ≡ true → first + number_at 4 (get_or rows i []) 28 ≤ end
row_ends rows i first end within good =
    let row = content_of (get_or rows i []) in
    let rest = map content_of (drop (i + 1) rows) in
    let next : map content_of (drop i rows) ≡ row ∷ rest = ap (map content_of) (drop_more rows i [] within) in
    follow_bound rest (first + row.count) end (follow_parts first row rest end (rw next at good)).2
