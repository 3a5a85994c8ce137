-- What a reader hands out: the longest words and gaps of a narration, in turn.
use Rattle.std.specs.Prelude.{◌≡◌, ℕ, ◌+◌, ◌-◌, ◌<◌, ◌≤◌, Bool, true, false, cond, not, List, [], ◌∷◌, ◌++◌, length, take, drop, Some, None, Option, slice_index}
use Rattle.std.specs.List.{AllByRecursion}
use Rattle.keys.specs.Kinds.{Field}
use Rattle.narration.specs.declared.Token.{Token}
use Rattle.narration.specs.declared.Token.TheVariants.{Word, Gap}
use Rattle.narration.specs.declared.reader.Reader.{Reader}
use Rattle.narration.specs.Letters.{in_word, is_a_word, key_of}
use Rattle.narration.specs.Turns.{Turn}

abbrev pub text : Reader → List ℕ
text reader = reader.narration.now

-- how many bytes lie behind a reader's place
abbrev pub bytes_left : Reader → ℕ
bytes_left reader = length (text reader) - reader.place

abbrev pub part_of : Token → List ℕ
part_of (Word part place) = part.now
part_of (Gap part place) = part.now

abbrev pub place_of : Token → ℕ
place_of (Word part place) = place
place_of (Gap part place) = place

abbrev pub is_word : Token → Bool
is_word (Word part place) = true
is_word (Gap part place) = false

abbrev pub end_of : Token → ℕ
end_of token = place_of token + length (part_of token)

-- the key of a token: that of its part where it is a word
abbrev pub key_of_token : (table : List ℕ) → Token → Option Field
key_of_token table (Word part place) = cond (is_a_word table part.now) (Some (key_of table part.now)) None
key_of_token table (Gap part place) = None

-- a token covers a part of the narration whose bytes are all of its sort, and that cannot be made longer on either side
pub record LongestRun (table narration : List ℕ) (token : Token) : Type 0 where
  pub has_a_byte : 0 < length (part_of token)
  pub ends_within : end_of token ≤ length narration
  pub is_the_part : part_of token ≡ take (length (part_of token)) (drop (place_of token) narration)
  pub of_its_sort : (k : ℕ) → place_of token ≤ k → k < end_of token → in_word table (slice_index narration k) ≡ is_word token
  pub other_sort_before : 0 < place_of token → in_word table (slice_index narration (place_of token - 1)) ≡ not (is_word token)
  pub other_sort_after : end_of token < length narration → in_word table (slice_index narration (end_of token)) ≡ not (is_word token)

-- what a narration holds at a place where a word or a gap begins
abbrev pub TokenAt : (table narration : List ℕ) → ℕ → Option Token → Type 0
TokenAt table narration place None = place ≡ length narration
TokenAt table narration place (Some token) =
    LongestRun table narration token × (place_of token ≡ place) × Turn table narration (end_of token)

-- one call of `next`, from a reader to a reader
abbrev pub Reads : (table : List ℕ) → Reader → Option Token → Reader → Type 0
Reads table before None after = (before.place ≡ length (text before)) × (after ≡ before)
Reads table before (Some token) after =
    LongestRun table (text before) token × (place_of token ≡ before.place) × (after.place ≡ end_of token) × (text after ≡ text before)

-- the tokens of one call after the other, from a reader on, until `next` answers None
abbrev pub Handed : (table : List ℕ) → Reader → List Token → Type 0
Handed table reader [] = (after : Reader) × Reads table reader None after
Handed table reader (token ∷ tokens) = (after : Reader) × Reads table reader (Some token) after × Handed table after tokens

abbrev pub joined : List Token → List ℕ
joined [] = []
joined (token ∷ tokens) = part_of token ++ joined tokens

-- each token's place is where the one before it ends
abbrev pub InPlace : ℕ → List Token → Type 0
InPlace at [] = Unit {0}
InPlace at (token ∷ tokens) = (place_of token ≡ at) × InPlace (end_of token) tokens

-- words and gaps follow one another in turn
abbrev pub InTurn : List Token → Type 0
InTurn [] = Unit {0}
InTurn (token ∷ []) = Unit {0}
InTurn (token ∷ (after ∷ tokens)) = (is_word after ≡ not (is_word token)) × InTurn (after ∷ tokens)

-- the words and gaps of a whole narration
pub record WholeRun (table narration : List ℕ) (tokens : List Token) : Type 0 where
  pub join_to_the_narration : joined tokens ≡ narration
  pub are_longest_runs : AllByRecursion (LongestRun table narration) tokens
  pub are_in_turn : InTurn tokens
  pub are_in_place : InPlace 0 tokens
  pub are_at_most_its_bytes : length tokens ≤ length narration

-- whatever a reader hands out from the start of its narration to the end is such a run
abbrev pub EveryRunIsWhole : (table : List ℕ) → Type 0
EveryRunIsWhole table =
    (reader : Reader) (tokens : List Token) → reader.place ≡ 0 → Handed table reader tokens → WholeRun table (text reader) tokens

-- a word that a reader hands out has a key, and a gap has none
abbrev pub WordsHaveKeys : (table : List ℕ) → Type 0
WordsHaveKeys table =
    (narration : List ℕ) (token : Token) → LongestRun table narration token → key_of_token table token ≡ cond (is_word token) (Some (key_of table (part_of token))) None
