-- What is left of rows and lines while they are read. Assumes nothing.
use Rattle.std.proofs.Common.{◌≡◌, ℕ, suc, ◌+◌, ◌≤◌, true, List, [], ◌∷◌, ◌++◌, map, length, take, drop, refl, arith, cond, Some, None, Option, sym, ap, ◌∙◌}
use Rattle.std.specs.List.{AllPass}
use Rattle.std.proofs.lemmas.List.{drop-map, take-map, take_at, length-drop}
use Rattle.std.proofs.lemmas.List.Elements.{All-drop, All-take}
use Rattle.std.specs.Iterator.{YieldsFirst}
use Rattle.numbers.specs.BigEndian.{number_at}
use Rattle.batches.specs.declared.line.Line.{Line}
use Rattle.batches.specs.Reading.{Cell, content_of, cell_of, line_of}
use Rattle.batches.specs.Opening.{follow, has_sign}
use Rattle.batches.specs.Walking.{RowsGoOn}
use Rattle.batches.proofs.Steps.{follow_parts, follow_bound}

-- the next row read
module _ (first count : ℕ) (piece : List ℕ) (rows lines : List (List ℕ)) (go : RowsGoOn first (piece ∷ rows) lines) (is : count ≡ number_at 4 piece 28) where
  rest_follows : follow (first + count) (map content_of rows) (first + length lines) ≡ true
  rest_follows = rw is (follow_parts first (content_of piece) (map content_of rows) (first + length lines) go.follow_to_the_last_line).2

  pub count_within : count ≤ length lines
  count_within = omega (arith, follow_bound (map content_of rows) (first + count) (first + length lines) rest_follows)

  pub rows_still_go_on : RowsGoOn (first + count) rows (drop count lines)
  rows_still_go_on =
      let e : first + count + length (drop count lines) ≡ first + length lines = omega (arith, count_within, length-drop count lines) in
      record {
        follow_to_the_last_line = rw e rest_follows;
        have_signs = rw (← drop-map) (All-drop (λ (cell : Cell). has_sign cell ≡ true) count (map cell_of lines) go.have_signs);
        few_lines = let f = go.few_lines in omega arith;
      }

-- the next line read, from the front or from the back
module _ (piece : List ℕ) (before after : List (List ℕ)) (signs : AllPass has_sign (map cell_of before)) where
  module _ (is : before ≡ piece ∷ after) where
    first_has_sign : has_sign (cell_of piece) ≡ true
    first_has_sign = let s : AllPass has_sign (map cell_of (piece ∷ after)) = rw is at signs in s 0 (cell_of piece) (omega arith)

    pub first_is_given : (given : Option Line) → given ≡ cond (has_sign (cell_of piece)) (Some (line_of (cell_of piece))) None → (left : List Line) → map line_of (map cell_of before) ≡ left → YieldsFirst (λ lines. lines) left given (map line_of (map cell_of after))
    first_is_given given e left view =
        let there : given ≡ Some (line_of (cell_of piece)) = rw first_has_sign at e in
        rw there (sym view ∙ ap (λ (lines : List (List ℕ)). map line_of (map cell_of lines)) is)

    pub others_have_signs : AllPass has_sign (map cell_of after)
    others_have_signs = let s : AllPass has_sign (map cell_of (piece ∷ after)) = rw is at signs in λ k d h. s (suc k) d (omega arith)

  pub front_has_signs : before ≡ after ++ piece ∷ [] → AllPass has_sign (map cell_of after)
  front_has_signs is =
      let front : take (length after) before ≡ after = rw is (take_at after (piece ∷ []) (length after) refl) in
      let s : AllPass has_sign (map cell_of (take (length after) before)) = rw (← take-map) (All-take (λ (cell : Cell). has_sign cell ≡ true) (length after) (map cell_of before) signs) in
      rw front at s
