-- The words and gaps that a reader hands out are the whole narration, each longest and in turn.
use Rattle.std.proofs.Common.{◌≡◌, ℕ, ◌+◌, ◌≤◌, List, [], ◌∷◌, ◌++◌, length, get_or, take, drop, None, sym, ap, ◌∙◌, subst, arith, take-append-drop}
use Rattle.std.specs.Iterator.{Drains}
use Rattle.std.specs.List.{AllByRecursion}
use Rattle.std.proofs.lemmas.List.{drop-drop, drop_all}
use Rattle.narration.specs.declared.Token.{Token}
use Rattle.narration.specs.declared.reader.Reader.{Reader}
use Rattle.narration.specs.Letters.{in_word}
use Rattle.narration.specs.Tokens.{text, part_of, place_of, is_word, end_of, LongestRun, Reads, Handed, joined, InPlace, InTurn, WholeRun}

split : (bytes : List ℕ) (place long : ℕ) → take long (drop place bytes) ++ drop (place + long) bytes ≡ drop place bytes
split bytes place long = ap (λ rest. take long (drop place bytes) ++ rest) (sym (drop-drop long place bytes)) ∙ take-append-drop long (drop place bytes)

module _ (table : List ℕ) where
  run_then : (bytes : List ℕ) (x : Token) → LongestRun table bytes x → part_of x ++ drop (end_of x) bytes ≡ drop (place_of x) bytes
  run_then bytes x run = ap (λ part. part ++ drop (end_of x) bytes) run.is_the_part ∙ split bytes (place_of x) (length (part_of x))

  rest_joined : (s : Reader) (xs : List Token) → Handed table s xs → joined xs ≡ drop s.place (text s)
  rest_joined s [] (t, (end, same)) = sym (drop_all s.place (text s) (omega arith))
  rest_joined s (x ∷ xs) (t, (run, at, next, same), more) =
      ap (λ rest. part_of x ++ rest) (rest_joined t xs more ∙ (λ i. drop (next i) (same i))) ∙ run_then (text s) x run ∙ ap (λ n. drop n (text s)) at

  rest_longest : (s : Reader) (xs : List Token) → Handed table s xs → AllByRecursion (LongestRun table (text s)) xs
  rest_longest s [] h = tt
  rest_longest s (x ∷ xs) (t, (run, at, next, same), more) = (run, subst (λ bytes. AllByRecursion (LongestRun table bytes) xs) same (rest_longest t xs more))

  rest_in_place : (s : Reader) (xs : List Token) → Handed table s xs → InPlace s.place xs
  rest_in_place s [] h = tt
  rest_in_place s (x ∷ xs) (t, (run, at, next, same), more) = (at, subst (λ n. InPlace n xs) next (rest_in_place t xs more))

  rest_in_turn : (s : Reader) (xs : List Token) → Handed table s xs → InTurn xs
  rest_in_turn s [] h = tt
  rest_in_turn s (x ∷ []) h = tt
  rest_in_turn s (x ∷ (y ∷ ys)) (t, (run, at, next, same), (u, (run', at', next', same'), more)) =
      let there : place_of y ≡ end_of x = at' ∙ next in
      let within : end_of y ≤ length (text s) = subst (λ bytes. end_of y ≤ length bytes) same run'.ends_within in
      let some = run'.has_a_byte in
      let sort : in_word table (get_or (text t) (place_of y) 0) ≡ is_word y = run'.of_its_sort (place_of y) (omega arith) (omega arith) in
      let moved : get_or (text t) (place_of y) 0 ≡ get_or (text s) (end_of x) 0 = λ i. get_or (same i) (there i) 0 in
      (sym sort ∙ ap (in_word table) moved ∙ run.other_sort_after (omega arith), rest_in_turn t (y ∷ ys) (u, (run', at', next', same'), more))

  rest_count : (s : Reader) (xs : List Token) → Handed table s xs → length xs + s.place ≤ length (text s)
  rest_count s [] (t, (end, same)) = omega arith
  rest_count s (x ∷ xs) (t, (run, at, next, same), more) =
      omega (arith, rest_count t xs more, run.has_a_byte, ap length same)

  pub whole_run : (s : Reader) (xs : List Token) → s.place ≡ 0 → Handed table s xs → WholeRun table (text s) xs
  whole_run s xs start h = record {
    join_to_the_narration = rest_joined s xs h ∙ ap (λ n. drop n (text s)) start;
    are_longest_runs = rest_longest s xs h;
    are_in_turn = rest_in_turn s xs h;
    are_in_place = subst (λ n. InPlace n xs) start (rest_in_place s xs h);
    are_at_most_its_bytes = omega (arith, rest_count s xs h);
  }

  -- what a run of calls of `next` up to None gave
  pub handed_from_drains : (s : Reader) (xs : List Token) → Drains (Reads table) s xs → Handed table s xs
  handed_from_drains s [] (u, (t, same, end)) = (u, subst (λ r. Reads table r None u) (sym same) end)
  handed_from_drains s (x ∷ xs) (u, (t, (v, first, more), end)) = (v, first, handed_from_drains v xs (u, (t, more, end)))
