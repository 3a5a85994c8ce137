-- Two stores joined page by page: even pages in the first, odd ones in the second.
use Rattle.std.specs.Prelude.{ℕ, ◌-◌, ◌*◌, ◌/◌, ◌%◌, min, Bool, cond, List, map, length, ◌==◌}
use Rattle.std.specs.List.{range_with_len}
use Rattle.refusals.specs.Refusals.{Answer, Accepted, Refused, on_accepted}
use Rattle.page_store.specs.Meanings.{Page, Meaning, count_of, page_at, with_page, write_answer, done}
use Rattle.stores.specs.declared.stripe.Stripe.{Stripe}

-- twice the smaller count, cut to 65,536
abbrev pub stripe_count : (first second : ℕ) → ℕ
stripe_count first second = min (2 * min first second) 65536

abbrev pub is_even : ℕ → Bool
is_even n = n % 2 == 0

abbrev pub stripe_page : Meaning → Meaning → ℕ → Page
stripe_page first second n = cond (is_even n) (page_at first (n / 2)) (page_at second ((n - 1) / 2))

unfoldable pub stripe_pages : Meaning → Meaning → List Page
stripe_pages first second = map (stripe_page first second) (range_with_len 0 (stripe_count (count_of first) (count_of second)))

abbrev pub stripe_meaning : Meaning → Meaning → Meaning
stripe_meaning first second = record { pages = stripe_pages first second }

-- a stripe over two stores, which mean what these functions say of them
abbrev pub meaning_over : {A B : Type 0} → (A → Meaning) → (B → Meaning) → Stripe A B → Meaning
meaning_over a b stripe = stripe_meaning (a stripe.first) (b stripe.second)

-- each half after a write of page n of the stripe: the one that holds it changes at that page, the other not at all
abbrev pub first_written : Meaning → Meaning → ℕ → List ℕ → Meaning
first_written first second n buffer =
    on_accepted (write_answer (stripe_meaning first second) n (length buffer)) (cond (is_even n) (with_page first (n / 2) buffer) first) first

abbrev pub second_written : Meaning → Meaning → ℕ → List ℕ → Meaning
second_written first second n buffer =
    on_accepted (write_answer (stripe_meaning first second) n (length buffer)) (cond (is_even n) second (with_page second ((n - 1) / 2) buffer)) second

-- what a half answers for a page that it has, told by the stripe's own number: refused, the page is lost
abbrev pub renamed : Answer Unit → ℕ → Answer Unit
renamed (Accepted value) n = done
renamed (Refused number place) n = Refused 9 n
