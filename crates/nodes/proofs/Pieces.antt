-- Pieces of one width, read and written one after another. Assumes nothing.
use Rattle.std.proofs.Common.{◌≡◌, ℕ, ◌+◌, ◌*◌, ◌<◌, ◌≤◌, List, [], ◌∷◌, ◌++◌, map, length, get_or, take, drop, sym, refl, ap, ◌∙◌, subst, mul-zero, mul-suc, add-one, arith}
use Rattle.std.proofs.lemmas.List.{append_assoc, append-nil, take_at, drop_at, drop-drop, length-append, length-take-le, length_push, take_more, map_push, length-map, get_or-map, take-append-drop}
use Rattle.std.specs.List.{flat_map, AllByRecursion}
use Rattle.numbers.specs.BigEndian.{written}
use Rattle.nodes.proofs.Padding.{written_part, length_written}

-- a vector that holds what the first pieces hold
pub record Taken {X Y : Type 0} (meaning : Y → X) (g : List ℕ → X) (ps : List (List ℕ)) (i : ℕ) (ys : List Y) : Type 0 where
  pub as_many : length ys ≡ i
  pub is_what_they_hold : map meaning ys ≡ map g (take i ps)

pub taken_more : {X Y : Type 0} (meaning : Y → X) (g : List ℕ → X) (ps : List (List ℕ)) (i : ℕ) (ys : List Y) (y : Y) (d : List ℕ) → i < length ps → Taken meaning g ps i ys → meaning y ≡ g (get_or ps i d) → Taken meaning g ps (i + 1) (ys ++ (y ∷ []))
taken_more meaning g ps i ys y d h taken e =
    record {
      as_many = length_push ys y ∙ ap (λ (n : ℕ). n + 1) taken.as_many;
      is_what_they_hold =
          map_push meaning ys y
          ∙ ap (λ (xs : List _). xs ++ (meaning y ∷ [])) taken.is_what_they_hold
          ∙ ap (λ (x : _). map g (take i ps) ++ (x ∷ [])) e
          ∙ sym (ap (map g) (take_more ps i d h) ∙ map_push g (take i ps) (get_or ps i d));
    }

-- more bytes written behind those just written
written_append : (page a b : List ℕ) (at : ℕ) → at + (length a + length b) ≤ length page → written (written page at a) (at + length a) b ≡ written page at (a ++ b)
written_append page a b at room =
    let before = take at page in
    let rest = drop (at + length a) page in
    let whole = (before ++ a) ++ rest in
    let front = length-take-le at page (omega arith) in
    let long : length (take at page ++ a) ≡ at + length a = length-append before a ∙ omega arith in
    let first : written page at a ≡ (take at page ++ a) ++ drop (at + length a) page = sym (append_assoc before a rest ∙ written_part page a at (omega arith)) in
    let wide : length ((take at page ++ a) ++ drop (at + length a) page) ≡ length page = ap length (sym first) ∙ length_written page a at (omega arith) in
    let behind : drop (at + length a + length b) ((take at page ++ a) ++ drop (at + length a) page) ≡ drop (at + length (a ++ b)) page =
    sym (drop-drop (length b) (at + length a) whole)
    ∙ ap (drop (length b)) (drop_at (before ++ a) rest (at + length a) long)
    ∙ drop-drop (length b) (at + length a) page
    ∙ ap (λ (n : ℕ). drop n page) (let l = length-append a b in omega arith) in
    ap (λ (p : List ℕ). written p (at + length a) b) first
    ∙ sym (written_part whole b (at + length a) (omega arith))
    ∙ ap (λ (xs : List ℕ). xs ++ (b ++ drop (at + length a + length b) whole)) (take_at (before ++ a) rest (at + length a) long)
    ∙ ap (λ (xs : List ℕ). (before ++ a) ++ (b ++ xs)) behind
    ∙ (append_assoc before a (b ++ drop (at + length (a ++ b)) page) ∙ ap (λ (xs : List ℕ). before ++ xs) (sym (append_assoc a b (drop (at + length (a ++ b)) page))))
    ∙ written_part page (a ++ b) at (let l = length-append a b in omega arith)

written_none : (page : List ℕ) (at : ℕ) → at ≤ length page → page ≡ written page at []
written_none page at h =
    let same : at + 0 ≡ at = omega arith in
    sym (take-append-drop at page) ∙ ap (λ (n : ℕ). take at page ++ drop n page) (sym same) ∙ written_part page [] at (omega arith)

joined_push : {X : Type 0} (f : X → List ℕ) (xs : List X) (x : X) → flat_map f (xs ++ (x ∷ [])) ≡ flat_map f xs ++ f x
joined_push f [] x = append-nil (f x)
joined_push f (y ∷ xs) x = ap (λ (ys : List ℕ). f y ++ ys) (joined_push f xs x) ∙ sym (append_assoc (f y) (flat_map f xs) (f x))

all_push : {X : Type 0} (P : X → Type 0) (xs : List X) (x : X) → AllByRecursion P xs → P x → AllByRecursion P (xs ++ (x ∷ []))
all_push P [] x h k = (k, tt)
all_push P (y ∷ xs) x h k = (h.0, all_push P xs x h.1 k)

-- a page over which the pieces of a list are written, each fitting and of one width
pub record Put {X : Type 0} (width at : ℕ) (f : X → List ℕ) (Fits : X → Type 0) (page : List ℕ) (xs : List X) (now : List ℕ) : Type 0 where
  pub is : now ≡ written page at (flat_map f xs)
  pub long : length (flat_map f xs) ≡ width * length xs
  pub fit : AllByRecursion Fits xs
  pub whole : length now ≡ length page

pub put_none : {X : Type 0} (width at : ℕ) (f : X → List ℕ) (Fits : X → Type 0) (page : List ℕ) → at ≤ length page → Put width at f Fits page [] page
put_none width at f Fits page h = record { is = written_none page at h; long = sym (mul-zero width); fit = tt; whole = refl }

put_more : {X : Type 0} (width at : ℕ) (f : X → List ℕ) (Fits : X → Type 0) (page : List ℕ) (xs : List X) (x : X) (now new after : List ℕ) (place : ℕ) → Put width at f Fits page xs now → at + width * (length xs + 1) ≤ length page → new ≡ f x → length new ≡ width → Fits x → place ≡ at + width * length xs → after ≡ written now place new → Put width at f Fits page (xs ++ (x ∷ [])) after
put_more width at f Fits page xs x now new after place h room e wide fits p w =
    let js = flat_map f xs in
    let long = h.long in
    let whole = h.whole in
    let more = length_push xs x in
    let suced : width * (length xs + 1) ≡ width * length xs + width = ap (λ (n : ℕ). width * n) (add-one (length xs)) ∙ mul-suc width (length xs) in
    let as_many : width * length (xs ++ (x ∷ [])) ≡ width * (length xs + 1) = ap (λ (n : ℕ). width * n) more in
    let there : place ≡ at + length (flat_map f xs) = omega arith in
    record {
      is =
          w
          ∙ ap (λ (ys : List ℕ). written now place ys) e
          ∙ ap (λ (n : ℕ). written now n (f x)) there
          ∙ ap (λ (ys : List ℕ). written ys (at + length js) (f x)) h.is
          ∙ written_append page js (f x) at (let l = ap length e in omega arith)
          ∙ ap (written page at) (sym (joined_push f xs x));
      long = ap length (joined_push f xs x) ∙ length-append js (f x) ∙ (let l = ap length e in omega arith);
      fit = all_push Fits xs x h.fit fits;
      whole = ap length w ∙ length_written now new place (omega arith) ∙ whole;
    }

-- the next of a list, by what its elements mean
pub put_next : {X Y : Type 0} (width at : ℕ) (f : X → List ℕ) (Fits : X → Type 0) (meaning : Y → X) (page : List ℕ) (ys : List Y) (i : ℕ) (y : Y) (now new after : List ℕ) → i < length ys → at + width * (i + 1) ≤ length page → Put width at f Fits page (take i (map meaning ys)) now → y ≡ get_or ys i y → new ≡ f (meaning y) → length new ≡ width → Fits (meaning y) → after ≡ written now (at + width * i) new → Put width at f Fits page (take (i + 1) (map meaning ys)) after
put_next {X = X} width at f Fits meaning page ys i y now new after h room so is e wide fits w =
    let xs = map meaning ys in
    let within : i < length (map meaning ys) = let l = length-map ys meaning in omega arith in
    let counted : length (take i (map meaning ys)) ≡ i = length-take-le i xs (omega arith) in
    let element : get_or (map meaning ys) i (meaning y) ≡ meaning y = get_or-map meaning ys i y (meaning y) h ∙ ap meaning (sym is) in
    let more : take (i + 1) (map meaning ys) ≡ take i (map meaning ys) ++ (meaning y ∷ []) = take_more xs i (meaning y) within ∙ ap (λ (x : X). take i xs ++ (x ∷ [])) element in
    subst (λ (zs : List X). Put width at f Fits page zs after) (sym more)
    (put_more width at f Fits page (take i xs) (meaning y) now new after (at + width * i) so (subst (λ (n : ℕ). at + width * (n + 1) ≤ length page) (sym counted) room) e wide fits (ap (λ (n : ℕ). at + width * n) (sym counted)) w)
